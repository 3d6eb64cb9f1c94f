-- `shape::Here::row_wrong` goes by the kind of the record.
use borrow.Author.Rules.{rules}
use Rattle.rewriting.proofs.ShapeLaws.{wrong_signal, wrong_quiet, wrong_self, wrong_names}
use Rattle.rewriting.proofs.RecordRows.{tested}
use Rattle.rewriting.proofs.shape.Here.row_wrong.Goals as goal

pub returns-in-True : goal.returns-in-True
returns-in-True c rule k t =
    let a = c.args in
    let p = c.requires in
    tested a.self a.last a.area.now a.n _ p.0 c.load-row.ensures p.1 (search rules) (λ i. search rules) rule k t
    _
    (λ is. wrong_quiet a.self a.n a.self.m a.last _ a.self.few is rule k t c.in-True.is)

pub returns-in-Signal : goal.returns-in-Signal
returns-in-Signal c rule k t =
    let a = c.args in
    let p = c.requires in
    tested a.self a.last a.area.now a.n _ p.0 c.load-row.ensures p.1 (search rules) (λ i. search rules) rule k t
    _
    (λ is. wrong_signal a.self a.n a.self.m a.last _ a.self.few is rule k t _ _ _ c.in-Signal.is c.signal.ensures
    (c.constant.ensures _) c.ne.ensures)

pub returns-in-Next : goal.returns-in-Next
returns-in-Next c rule k t =
    let a = c.args in
    let p = c.requires in
    tested a.self a.last a.area.now a.n _ p.0 c.load-row.ensures p.1 (search rules) (λ i. search rules) rule k t
    _
    (λ is. wrong_self a.self a.n a.self.m a.last _ a.self.few is rule k t _ _ c.in-Next.is c.parameter.ensures
    c.ne-in-Next.ensures)

pub returns-in-Previous : goal.returns-in-Previous
returns-in-Previous c rule k t =
    let a = c.args in
    let p = c.requires in
    tested a.self a.last a.area.now a.n _ p.0 c.load-row.ensures p.1 (search rules) (λ i. search rules) rule k t
    _
    (λ is. wrong_names a.self a.n a.self.m a.last _ a.self.few is rule k t _ c.in-Previous.is
    (c.names_other.ensures _ _ a.self.few is))

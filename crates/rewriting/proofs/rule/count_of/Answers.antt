-- `rule::count_of` goes by the kind of the record.
use mathlib.Core.Path.{◌≡◌, refl}
use mathlib.Core.Logic.{⊎_elim}
use borrow.Author.Rules.{rules}
use Rattle.meaning.specs.Rule.{count}
use Rattle.rewriting.specs.declared.kind.Kind.TheVariants.{Signal, Next, Until, Previous}
use Rattle.rewriting.proofs.ByKind.{is_kind, kind_quiet, kind_since}
use Rattle.rewriting.proofs.rule.count_of.Goals as goal

pub returns-in-True : goal.returns-in-True
unfolding count
returns-in-True c = (kind_quiet c.args.record (λ d. 0 ≡ count d) refl refl refl refl c.in-True.is, search rules)

pub returns-in-Signal : goal.returns-in-Signal
unfolding count
returns-in-Signal c =
    let one = is_kind c.args.record (λ d. 1 ≡ count d) in (
      ⊎_elim (λ q. one Signal q refl) (⊎_elim (λ q. one Next q refl) (λ q. one Previous q refl)) c.in-Signal.is,
      search rules,
    )

pub returns-in-Until : goal.returns-in-Until
unfolding count
returns-in-Until c = (
  ⊎_elim (λ q. is_kind c.args.record (λ d. c.shifts.result ≡ count d) Until q c.shifts.ensures.0)
      (kind_since c.args.record (λ d. c.shifts.result ≡ count d) c.shifts.ensures.0) c.in-Until.is,
  c.shifts.ensures.1,
)

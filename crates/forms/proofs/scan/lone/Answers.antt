-- `lone` looks for a first term and a second, and then for the parameter whose term the first is.
use Rattle.std.proofs.Common.{◌≡◌, sym, ℕ, ◌*◌, ◌%◌, ◌^◌, rules, subst}
use Rattle.std.proofs.lemmas.Iterator.{first_from_Range}
use Rattle.forms.specs.inside.Steps.{Lone}
use Rattle.forms.proofs.Scanning.{seen, unseen, lone_empty, lone_more, lone_found}
use Rattle.forms.proofs.scan.lone.Goals as goal

pub returns-in_err-k : goal.returns-in_err-k
returns-in_err-k c = subst (Lone c.args.row.now) (sym c.from_residual.ensures) (lone_empty _ c.in_err-k.ensures)

pub returns-then-is_some : goal.returns-then-is_some
returns-then-is_some c =
    let second = seen _ _ _ _ c.if-is_some.ensures c.next_term-2.ensures in
    lone_more _ _ c.in_ok-k.ensures second.0 second.1

pub returns : goal.returns
returns c =
    let k : ℕ = c.in_ok-k.k in
    lone_found _ _ c.in_ok-k.ensures _ (unseen _ _ _ _ c.if-is_some.ensures c.next_term-2.ensures)
    (first_from_Range _ _ _ _ (λ p. k ≡ (1 * 2 ^ p) % 2 ^ 64) (λ p. k ≡ (1 * 2 ^ p) % 2 ^ 64 → ⊥)
    c.find.ensures.ran (λ p q e. search rules) (λ p q e. search rules))

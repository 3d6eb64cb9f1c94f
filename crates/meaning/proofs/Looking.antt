-- How far a row of each record may look.
-- Assumes nothing.
use mathlib.Core.Path.{◌≡◌, refl}
use Prim.Native.Nat.{ℕ, suc, ◌≤◌}
use native.Mathlib.Omega.{arith}
use Rattle.meaning.specs.Rule.{Node, fixed, signal, both, either, next, until, previous, since}
use Rattle.meaning.specs.Shape.{Future}

-- how many records' parameters a row of record k may name: the earlier records', and for next and until its own
unfoldable pub reach : Node → ℕ → ℕ
reach (fixed b) k = k
reach (signal s) k = k
reach (both l r) k = k
reach (either l r) k = k
reach (next l v) k = suc k
reach (until l r v) k = suc k
reach (previous l v) k = k
reach (since l r v) k = k

-- reach is k, and k + 1 for a record that looks ahead
pub reach_cases : (P : ℕ → Type 0) (d : Node) (k : ℕ) → ((Future d → ⊥) → P k) → (Future d → P (suc k))
    → P (reach d k)
unfolding Future reach
reach_cases P (fixed b) k p q = p (λ u. u)
reach_cases P (signal s) k p q = p (λ u. u)
reach_cases P (both l r) k p q = p (λ u. u)
reach_cases P (either l r) k p q = p (λ u. u)
reach_cases P (next l v) k p q = q tt
reach_cases P (until l r v) k p q = q tt
reach_cases P (previous l v) k p q = p (λ u. u)
reach_cases P (since l r v) k p q = p (λ u. u)

pub reach_most : (d : Node) (k : ℕ) → reach d k ≤ suc k
reach_most d k = reach_cases (λ x. x ≤ suc k) d k (λ _. omega arith) (λ _. omega arith)

pub reach_future : (d : Node) (k : ℕ) → Future d → reach d k ≡ suc k
reach_future d k f = reach_cases (λ x. x ≡ suc k) d k (λ u. absurd (u f)) (λ _. refl)

pub reach_past : (d : Node) (k : ℕ) → (Future d → ⊥) → reach d k ≡ k
reach_past d k u = reach_cases (λ x. x ≡ k) d k (λ _. refl) (λ f. absurd (u f))

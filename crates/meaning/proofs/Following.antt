-- The rewriting follows the log: after each record its rows and the remainder are right.
-- Assumes nothing.
use mathlib.Core.Path.{◌≡◌, refl, sym, ap, ◌∙◌, subst}
use mathlib.Core.Bool.{Bool}
use mathlib.Core.List.{List, [], ◌∷◌, ◌++◌}
use Prim.Native.Nat.{ℕ, suc, ◌+◌, ◌-◌, ◌≤◌, ◌<◌}
use native.Mathlib.Nat.{le_refl}
use native.Mathlib.Omega.{arith}
use lib.ListN.{length, length-append, get_or-append}
use Rattle.forms.specs.Form.{Form, constant, value}
use Rattle.forms.specs.Area.{form_in}
use Rattle.forms.proofs.Depends.{constant_is}
use Rattle.meaning.specs.Rule.{Node, Ordered, first_of, Entry, entry_at, time_at, Rising}
use Rattle.meaning.specs.Meaning.{value_of}
use Rattle.meaning.specs.Rewriting.{Neighbour, none, at, derived_rows}
use Rattle.meaning.specs.Words.{Known, start, first, feed, close, fed}
use Rattle.meaning.proofs.Agreement.{Agrees, forms_value}
use Rattle.meaning.proofs.RowsRight.{RightRows, rows_agree, value_put}
use Rattle.meaning.proofs.DerivedRight.{Ahead, ahead_down, Follows, derived_right}
use Rattle.meaning.proofs.PastRight.{past_right_first, past_right_later}

-- what is known is right at record i of the log
pub record Right (log : List Entry) (rule : List Node) (m : ℕ) (s : Known m) (i : ℕ) : Type 0 where
  pub last : s.last ≡ entry_at log i
  pub past : RightRows log rule m (Agrees log rule i) s.past (length rule) i
  pub remainder : (ρ : ℕ → Bool) → Agrees log rule i (length rule) ρ → value m s.remainder ρ ≡ value_of log rule

module _ (log : List Entry) (rising : Rising log) (rule : List Node) (ordered : Ordered rule) (m : ℕ)
    (fits : (k : ℕ) → first_of rule k ≤ m) where
  -- the derived rows of what is known are right
  pub derived_follows : (s : Known m) (i : ℕ) (later : Neighbour) → Right log rule m s i → Follows log later i
      → RightRows log rule m (Ahead log rule later i) (derived_rows m rule s.past s.last later (length rule))
      (length rule) i
  derived_follows s i later ok f =
      subst
      (λ (x : Entry).
      RightRows log rule m (Ahead log rule later i) (derived_rows m rule s.past x later (length rule))
      (length rule) i)
      (sym ok.last)
      (derived_right log rising rule ordered m fits later i (length rule) s.past f ok.past (length rule)
      (le_refl (length rule)))

  pub first_right : 0 < length rule → Right log rule m (first m rule (entry_at log 0)) 0
  unfolding first start value_of
  first_right h = record {
    last = refl;
    past = past_right_first log rising rule ordered m fits (length rule);
    remainder = λ ρ a. forms_value log rule ordered m fits 0 (length rule) ρ a (length rule - 1) (omega arith);
  }

  -- the remainder with derived rows put in
  remainder_right : (s : Known m) (i : ℕ) (later : Neighbour) → Right log rule m s i → Follows log later i
      → (ρ : ℕ → Bool) → Ahead log rule later i (length rule) ρ
      → value m s.remainder
      (λ q. value m (form_in m (derived_rows m rule s.past s.last later (length rule)) q) ρ)
      ≡ value_of log rule
  remainder_right s i later ok f ρ a =
      ok.remainder _
      (rows_agree log rule m (Ahead log rule later i) (ahead_down log rising rule ordered m fits later i)
      (derived_rows m rule s.past s.last later (length rule)) (length rule) i (derived_follows s i later ok f)
      (length rule) (le_refl (length rule)) ρ a)

  pub feed_right : (s : Known m) (i : ℕ) → Right log rule m s i → suc i < length log
      → Right log rule m (feed m rule s (entry_at log (suc i))) (suc i)
  unfolding feed time_at
  feed_right s i ok len =
      let later : Neighbour = at (time_at log (suc i)) in
      let derived : List (Form m) = derived_rows m rule s.past s.last later (length rule) in
      record {
        last = refl;
        past = past_right_later log rising rule ordered m fits i (length rule) s.last.time derived
            (ap (λ (x : Entry). x.time) ok.last) len (derived_follows s i later ok (len, refl)) (length rule)
            (le_refl (length rule));
        remainder = λ ρ a. value_put m s.remainder derived ρ ∙ remainder_right s i later ok (len, refl) ρ a;
      }

  pub close_right : (s : Known m) (i : ℕ) → Right log rule m s i → suc i ≡ length log
      → close m rule s ≡ constant m (value_of log rule)
  unfolding close
  close_right s i ok len =
      constant_is m (close m rule s) (value_of log rule)
      (λ ρ. value_put m s.remainder (derived_rows m rule s.past s.last none (length rule)) ρ
      ∙ remainder_right s i none ok len ρ tt)

  pub fed_right : (es : List Entry) (s : Known m) (i : ℕ) → Right log rule m s i → i + length es < length log
      → ((j : ℕ) → j < length es → entry_at log (suc i + j) ≡ entry_at es j)
      → Right log rule m (fed m rule s es) (i + length es)
  unfolding fed entry_at
  fed_right [] s i ok len same = subst (λ x. Right log rule m s x) (let e : i ≡ i + 0 = omega arith in e) ok
  fed_right (e ∷ es) s i ok len same =
      let here : suc i ≡ suc i + 0 = omega arith in
      let end : suc i + length es ≡ i + suc (length es) = omega arith in
      let q : entry_at log (suc i) ≡ e = ap (entry_at log) here ∙ same 0 (omega arith) in
      let step : Right log rule m (feed m rule s e) (suc i)
      = subst (λ (x : Entry). Right log rule m (feed m rule s x) (suc i)) q (feed_right s i ok (omega arith)) in
      subst (λ x. Right log rule m (fed m rule (feed m rule s e) es) x) end
      (fed_right es (feed m rule s e) (suc i) step (omega arith)
      (λ j h.
      ap (entry_at log) (let z : suc (suc i) + j ≡ suc i + suc j = omega arith in z) ∙ same (suc j) (omega arith)))

-- after the records e, es of a log that goes on with any more
pub after_right : (rule : List Node) → Ordered rule → (m : ℕ) → ((k : ℕ) → first_of rule k ≤ m) → 0 < length rule
    → (e : Entry) (es more : List Entry) → Rising ((e ∷ es) ++ more)
    → Right ((e ∷ es) ++ more) rule m (fed m rule (first m rule e) es) (length es)
unfolding entry_at
after_right rule ordered m fits long e es more rising =
    let end : 0 + length es ≡ length es = omega arith in
    subst (λ x. Right log rule m (fed m rule (first m rule e) es) x) end
    (fed_right log rising rule ordered m fits es (first m rule e) 0 (first_right log rising rule ordered m fits long)
    (omega (arith, length-append es more))
    (λ j h.
    ap (entry_at log) (let z : 1 + j ≡ suc j = omega arith in z)
    ∙ get_or-append es more (record { time = 0; signals = 0 }) j h))
  where
    log : List Entry
    log = (e ∷ es) ++ more

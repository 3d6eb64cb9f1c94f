-- What the watcher promises: the remainder has the rule's value, closing says it,
-- and a decided word holds for every continuation.
-- Assumes nothing.
use mathlib.Core.Path.{◌≡◌, refl, sym, ap, ◌∙◌, subst}
use mathlib.Core.Bool.{Bool, true, false}
use mathlib.Core.List.{List, [], ◌∷◌, ◌++◌, append-nil}
use Prim.Native.Nat.{ℕ, suc, ◌≤◌, ◌<◌}
use native.Mathlib.Nat.{le_refl}
use native.Mathlib.Omega.{arith}
use lib.ListN.{length, length-append}
use lib.Seq.{get_or-append_seam}
use Rattle.forms.specs.Form.{Form, constant, value}
use Rattle.forms.specs.Area.{form_in}
use Rattle.forms.specs.Rows.{which_constant}
use Rattle.forms.specs.declared.rows.Truth.{Truth}
use Rattle.forms.specs.declared.rows.Truth.TheVariants.{True, False, Open}
use Rattle.forms.proofs.Values.{value_constant}
use Rattle.forms.proofs.Depends.{put_in_constant}
use Rattle.forms.proofs.Reading.{which_true, which_false, which_is_true, which_is_false}
use Rattle.meaning.specs.Rule.{Node, Ordered, first_of, parameters, Entry, entry_at, time_at, Rising}
use Rattle.meaning.specs.Meaning.{parameter_at, value_of}
use Rattle.meaning.specs.Rewriting.{Neighbour, none, at, put, derived_rows}
use Rattle.meaning.specs.Words.{Known, feed, close, after, word_for, word, word_of}
use Rattle.meaning.proofs.Agreement.{Agrees, agrees_down}
use Rattle.meaning.proofs.RowsRight.{rows_agree}
use Rattle.meaning.proofs.DerivedRight.{Ahead, ahead_down}
use Rattle.meaning.proofs.Following.{Right, derived_follows, close_right, after_right}

pub word_constant : (m : ℕ) (b : Bool) → word m (constant m b) ≡ word_of b
unfolding word word_for word_of
word_constant m true = ap word_for (sym (which_true m (constant m true) refl))
word_constant m false = ap word_for (sym (which_false m (constant m false) refl))

-- a decided word is a constant remainder
pub constant_word : (m : ℕ) (f : Form m) (b : Bool) → word m f ≡ word_of b → f ≡ constant m b
unfolding word word_for word_of
constant_word m f b e = go (which_constant m f) refl b e
  where
    go : (t : Truth) → which_constant m f ≡ t → (b : Bool) → word_for t ≡ word_of b → f ≡ constant m b
    go True q true e = which_is_true m f q
    go True q false e = let z : ◌≡◌ {A = ℕ} 0 1 = cc in let n : ⊥ = omega arith in absurd n
    go False q true e = let z : ◌≡◌ {A = ℕ} 0 1 = cc in let n : ⊥ = omega arith in absurd n
    go False q false e = which_is_false m f q
    go Open q true e = let z : ◌≡◌ {A = ℕ} 0 1 = cc in let n : ⊥ = omega arith in absurd n
    go Open q false e = let z : ◌≡◌ {A = ℕ} 0 1 = cc in let n : ⊥ = omega arith in absurd n

-- a decided remainder stays as it is, whatever is fed
pub decided_stays : (m : ℕ) (rule : List Node) (s : Known m) (e : Entry) (b : Bool) → word m s.remainder ≡ word_of b
    → word m (feed m rule s e).remainder ≡ word_of b
unfolding feed put
decided_stays m rule s e b w =
    ap (word m)
    (ap (λ f. put m f (derived_rows m rule s.past s.last (at e.time) (length rule)))
    (constant_word m s.remainder b w)
    ∙ put_in_constant m m b _)
    ∙ word_constant m b

-- and closing agrees with it
pub close_agrees : (m : ℕ) (rule : List Node) (s : Known m) (b : Bool) → word m s.remainder ≡ word_of b
    → word m (close m rule s) ≡ word_of b
unfolding close put
close_agrees m rule s b w =
    ap (word m)
    (ap (λ f. put m f (derived_rows m rule s.past s.last none (length rule)))
    (constant_word m s.remainder b w)
    ∙ put_in_constant m m b _)
    ∙ word_constant m b

module _ (rule : List Node) (ordered : Ordered rule) (m : ℕ) (fits : (k : ℕ) → first_of rule k ≤ m)
    (long : 0 < length rule) (e : Entry) (es : List Entry) where
  -- the record of what is known, in a log that goes on with `more`
  right : (more : List Entry) → Rising ((e ∷ es) ++ more)
      → Right ((e ∷ es) ++ more) rule m (after m rule e es) (length es)
  unfolding after
  right more rising = after_right rule ordered m fits long e es more rising

  -- each parameter's value at record i is a right setting
  setting : (log : List Entry) (i : ℕ) → Agrees log rule i (length rule) (λ p. parameter_at log rule p i)
  unfolding parameter_at
  setting log i p h = refl

  -- the remainder, valued at each parameter's value at this record, is the rule's value of the whole log
  pub remainder_value : (more : List Entry) → Rising ((e ∷ es) ++ more)
      → value m (after m rule e es).remainder (λ p. parameter_at ((e ∷ es) ++ more) rule p (length es))
      ≡ value_of ((e ∷ es) ++ more) rule
  remainder_value more rising = (right more rising).remainder _ (setting ((e ∷ es) ++ more) (length es))

  -- so is each past row its own parameter's
  pub past_value : (more : List Entry) → Rising ((e ∷ es) ++ more) → (q : ℕ) → q < parameters rule
      → value m (form_in m (after m rule e es).past q) (λ p. parameter_at ((e ∷ es) ++ more) rule p (length es))
      ≡ parameter_at ((e ∷ es) ++ more) rule q (length es)
  unfolding parameters parameter_at
  past_value more rising q h =
      rows_agree log rule m (Agrees log rule (length es)) (agrees_down log rule (length es))
      (after m rule e es).past (length rule) (length es) (right more rising).past (length rule)
      (le_refl (length rule)) _ (setting log (length es)) q h
    where
      log : List Entry
      log = (e ∷ es) ++ more

  -- and each derived row, valued at the next record
  pub derived_value : (x : Entry) (more : List Entry) → Rising ((e ∷ es) ++ (x ∷ more))
      → (q : ℕ) → q < parameters rule
      → value m
      (form_in m
      (derived_rows m rule (after m rule e es).past (after m rule e es).last (at x.time) (length rule)) q)
      (λ p. parameter_at ((e ∷ es) ++ (x ∷ more)) rule p (suc (length es)))
      ≡ parameter_at ((e ∷ es) ++ (x ∷ more)) rule q (length es)
  unfolding parameters parameter_at time_at entry_at
  derived_value x more rising q h =
      rows_agree log rule m (Ahead log rule later (length es))
      (ahead_down log rising rule ordered m fits later (length es))
      (derived_rows m rule (after m rule e es).past (after m rule e es).last later (length rule))
      (length rule) (length es)
      (derived_follows log rising rule ordered m fits (after m rule e es) (length es) later
      (right (x ∷ more) rising) (long_enough, same))
      (length rule) (le_refl (length rule)) _ (setting log (suc (length es))) q h
    where
      log : List Entry
      log = (e ∷ es) ++ (x ∷ more)

      later : Neighbour
      later = at x.time

      long_enough : suc (length es) < length ((e ∷ es) ++ (x ∷ more))
      long_enough = omega (arith, length-append es (x ∷ more))

      same : x.time ≡ time_at ((e ∷ es) ++ (x ∷ more)) (suc (length es))
      same = ap (λ (y : Entry). y.time) (sym (get_or-append_seam es x more (record { time = 0; signals = 0 })))

  -- closing gives the constant that is the log's value
  pub close_value : Rising (e ∷ es) → close m rule (after m rule e es) ≡ constant m (value_of (e ∷ es) rule)
  close_value =
      subst (λ (log : List Entry). Rising log → close m rule (after m rule e es) ≡ constant m (value_of log rule))
      (append-nil (e ∷ es))
      (λ rising.
      close_right ((e ∷ es) ++ []) rising rule ordered m fits (after m rule e es) (length es) (right [] rising)
      (omega (arith, length-append es [])))

  pub close_word : Rising (e ∷ es) → word m (close m rule (after m rule e es)) ≡ word_of (value_of (e ∷ es) rule)
  close_word rising = ap (word m) (close_value rising) ∙ word_constant m (value_of (e ∷ es) rule)

  -- kept and broken decide: every continuation, and stopping there, has the value
  pub word_decides : (b : Bool) → word m (after m rule e es).remainder ≡ word_of b
      → (more : List Entry) → Rising ((e ∷ es) ++ more) → value_of ((e ∷ es) ++ more) rule ≡ b
  word_decides b w more rising =
      sym (remainder_value more rising)
      ∙ ap (λ f. value m f (λ p. parameter_at ((e ∷ es) ++ more) rule p (length es)))
      (constant_word m (after m rule e es).remainder b w)
      ∙ value_constant m b (λ p. parameter_at ((e ∷ es) ++ more) rule p (length es))

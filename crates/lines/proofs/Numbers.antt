-- Laws of the numbers that pass a test, put one after another.
-- Assumes nothing.
use mathlib.Core.Path.{◌≡◌, refl, sym, ◌∙◌}
use mathlib.Core.Bool.{Bool, false, ◌||◌, or-false}
use Prim.Native.Nat.{ℕ, ◌+◌}
use native.Mathlib.Numerals.{add-one}
use Rattle.ground.specs.Fold.{fold, some}
use Rattle.lines.specs.declared.line.Line.{Line}
use Rattle.lines.specs.Text.{listed_text, numbers_text}
use Rattle.lines.specs.inside.Puts.{Puts}
use Rattle.lines.proofs.Texts.{puts_then, puts_none}

module _ {a b : Line} (test : ℕ → Bool) (k : ℕ) (lower : Bool) (some_lower : lower ≡ some k test)
    (before : Puts a b (numbers_text test k)) where
  -- with number k, listed or not
  pub numbers_more : {c : Line} (here : Bool) → here ≡ test k → Puts b c (listed_text here lower k)
      → Puts a c (numbers_text test (k + 1)) × ((lower || here) ≡ some (k + 1) test)
  unfolding fold numbers_text
  numbers_more here e p =
      rw (add-one k, ← e, ← some_lower) (puts_then before p, refl)

  pub numbers_none : false ≡ test k → Puts a b (numbers_text test (k + 1)) × (lower ≡ some (k + 1) test)
  unfolding listed_text
  numbers_none e =
      let more = numbers_more false e (puts_none b) in
      (more.0, sym (or-false lower) ∙ more.1)

-- Rows that a loop puts into an area, and what the area holds then.
-- Assumes nothing.
use mathlib.Core.Path.{◌≡◌, sym, ap, ap₂, ◌∙◌}
use mathlib.Core.Logic.{◌⊎◌, inl, inr, ⊎_elim}
use mathlib.Core.List.{List}
use Prim.Native.Nat.{ℕ, zero, suc, ◌+◌, ◌*◌, ◌≤◌, ◌<◌}
use native.Mathlib.Nat.{add-zero, add-suc}
use native.Mathlib.Numerals.{add-one}
use native.Mathlib.Omega.{arith}
use lib.ListN.{length}
use Rattle.forms.specs.Form.{Form}
use Rattle.forms.specs.Area.{row_at, put_rows, form_in, Holds}
use Rattle.forms.proofs.Packing.{pack_words}
use Rattle.forms.proofs.Areas.{row_put, row_kept, put_rows_none, put_rows_more, put_rows_cong}
use Rattle.rewriting.specs.Plans.{form_row}

module _ (ws : List ℕ) (base : ℕ) (g : ℕ → List ℕ) where
  -- no row yet, as many rows, one row more, a block more, all rows
  pub wrote_none : ws ≡ put_rows ws base 0 g
  wrote_none = sym (put_rows_none ws base g)

  pub wrote_as : (n k : ℕ) (area : List ℕ) → n ≡ k → area ≡ put_rows ws base n g → area ≡ put_rows ws base k g
  wrote_as n k area e w = w ∙ ap (λ x. put_rows ws base x g) e

  pub wrote_more : (n at : ℕ) (area next row : List ℕ) → area ≡ put_rows ws base n g → at ≡ base + n
      → next ≡ put_rows area at 1 (λ _. row) → row ≡ g n → next ≡ put_rows ws base (n + 1) g
  wrote_more n at area next row e p q r =
      q ∙ ap₂ (λ (x : List ℕ) y. put_rows x y 1 (λ _. row)) e p
      ∙ ap (λ (x : List ℕ). put_rows (put_rows ws base n g) (base + n) 1 (λ _. x)) r
      ∙ put_rows_more ws base n g
      ∙ ap (λ x. put_rows ws base x g) (sym (add-one n))

  joined : (a n : ℕ) → put_rows (put_rows ws base a g) (base + a) n (λ i. g (a + i)) ≡ put_rows ws base (a + n) g
  joined a zero =
      put_rows_none (put_rows ws base a g) (base + a) (λ i. g (a + i))
      ∙ ap (λ x. put_rows ws base x g) (sym (add-zero a))
  joined a (suc n) =
      sym (put_rows_more (put_rows ws base a g) (base + a) n (λ i. g (a + i)))
      ∙ ap₂ (λ (x : List ℕ) y. put_rows x y 1 (λ _. g (a + n))) (joined a n)
      (let e : base + a + n ≡ base + (a + n) = omega arith in e)
      ∙ put_rows_more ws base (a + n) g
      ∙ ap (λ x. put_rows ws base x g) (sym (add-suc a n))

  pub wrote_block : (a n at : ℕ) (h : ℕ → List ℕ) (area next : List ℕ) → area ≡ put_rows ws base a g → at ≡ base + a
      → next ≡ put_rows area at n h → ((i : ℕ) → i < n → h i ≡ g (a + i)) → next ≡ put_rows ws base (a + n) g
  wrote_block a n at h area next e p q r =
      q ∙ ap₂ (λ (x : List ℕ) y. put_rows x y n h) e p
      ∙ put_rows_cong (put_rows ws base a g) (base + a) n h (λ i. g (a + i)) r
      ∙ joined a n

module _ (m : ℕ) (ws : List ℕ) (base count : ℕ) (rows : List (Form m)) where
  -- rows that are put are held, and rows elsewhere are kept
  pub held_put : (g : ℕ → List ℕ) (area : List ℕ) → area ≡ put_rows ws base count g → length rows ≡ count
      → 64 * (base + count) ≤ length ws → ((j : ℕ) → j < count → g j ≡ form_row m rows j)
      → Holds m area base count rows
  unfolding form_row
  held_put g area e long room p =
      record {
        long = long;
        row =
            λ j h.
            ap (λ (x : List ℕ). row_at x (base + j)) e
            ∙ row_put ws base count g j h (omega arith) (ap length (p j h) ∙ (pack_words m (form_in m rows j)).long)
            ∙ p j h;
      }

  pub held_kept : (g : ℕ → List ℕ) (at n : ℕ) (area : List ℕ) → area ≡ put_rows ws at n g
      → (base + count ≤ at) ⊎ (at + n ≤ base) → Holds m ws base count rows → Holds m area base count rows
  held_kept g at n area e o h =
      record {
        long = h.long;
        row =
            λ j l.
            ap (λ (x : List ℕ). row_at x (base + j)) e
            ∙ row_kept ws at n g (base + j) (⊎_elim (λ u. inl (omega arith)) (λ u. inr (omega arith)) o)
            ∙ h.row j l;
      }

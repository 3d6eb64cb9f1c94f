-- A list with zeros behind it: what a fresh state holds is what start was given.
-- Assumes nothing.
use mathlib.Core.Path.{◌≡◌, refl, sym, ap, ap₂, ◌∙◌, subst}
use mathlib.Core.Bool.{Bool, true, false, cond}
use mathlib.Core.Logic.{⊎_elim}
use mathlib.Core.List.{List}
use Prim.Native.Nat.{ℕ, zero, suc, ◌+◌, ◌*◌, ◌^◌, ◌≤◌, ◌<◌}
use native.Mathlib.Omega.{arith}
use native.Mathlib.Nat.{lt_of_lt_of_le}
use lib.Pow.{pow_pos, pow_mono}
use lib.ListN.{length, get_or, take, get_or-eq_default}
use lib.Seq.{ext_get_or, length-take-le, get_or-take}
use Rattle.ground.specs.Bits.{of_bits}
use Rattle.ground.specs.Bytes.{zeros_from, little}
use Rattle.ground.proofs.Folds.{less_or_not}
use Rattle.ground.proofs.Tabs.{length_tab, get_d_tab, get_d_tab_out, tab_cong}
use Rattle.ground.proofs.Numbers.{of_bits_lt}
use Rattle.ground.proofs.ByteLaws.{zeros_all}
use Rattle.rewriting.specs.Decode.{byte_of, node_in, rule_in}
use Rattle.rewriting.proofs.Rules.{node_same}
use Rattle.watcher.specs.Limits.{most_signals, list_bytes}
use Rattle.watcher.specs.Rules.{records_of}
use Rattle.watcher.specs.Signals.{limit_of}
use Rattle.watcher.specs.Records.{time_of, test_by, test_of, is_holding, signal_word, entry_of}
use Rattle.watcher.specs.Calls.{padded}
use Rattle.watcher.proofs.Tests.{test_past, test_here}

-- a list of at most 128 bytes
module _ (list : List ℕ) (short : length list ≤ list_bytes) where
  -- its bytes are still there, zero past its end
  pub padded_at : (i : ℕ) → get_or (padded list) i 0 ≡ get_or list i 0
  unfolding padded
  padded_at i =
      ⊎_elim (λ h. get_d_tab list_bytes (λ j. get_or list j 0) i 0 h)
      (λ h.
      get_d_tab_out list_bytes (λ j. get_or list j 0) i 0 h
      ∙ sym (get_or-eq_default list 0 (let l : length list ≤ i = omega arith in l)))
      (less_or_not i list_bytes)

  pub length_padded : length (padded list) ≡ list_bytes
  unfolding padded
  length_padded = length_tab list_bytes (λ j. get_or list j 0)

  -- without what stands behind it is the list
  pub take_padded : take (length list) (padded list) ≡ list
  take_padded =
      ext_get_or 0 (take (length list) (padded list)) list long
      (λ i h. get_or-take (length list) (padded list) i 0 (subst (λ n. i < n) long h) ∙ padded_at i)
    where
      long : length (take (length list) (padded list)) ≡ length list
      long = length-take-le (length list) (padded list) (subst (λ n. length list ≤ n) (sym length_padded) short)

  -- and zeros stand behind
  pub zeros_padded : (from : ℕ) → length list ≤ from → zeros_from (padded list) from ≡ true
  zeros_padded from h =
      zeros_all (padded list) from
      (λ i l u. padded_at i ∙ get_or-eq_default list 0 (let k : length list ≤ i = omega arith in k))

  -- so it holds the same rule
  pub byte_padded : (k i : ℕ) → byte_of (padded list) k i ≡ byte_of list k i
  unfolding byte_of
  byte_padded k i = padded_at (8 * k + i)

  pub rule_padded : (n : ℕ) → rule_in (padded list) n ≡ rule_in list n
  unfolding rule_in
  rule_padded n =
      tab_cong n (node_in (padded list)) (node_in list)
      (λ k h. node_same (padded list) list k (λ i l. byte_padded k i))

  -- and the same signals
  pub little_padded : (at n : ℕ) → little (padded list) at n ≡ little list at n
  unfolding little
  little_padded at zero = refl
  little_padded at (suc n) = ap₂ (λ x y. x + 256 * y) (padded_at at) (little_padded (at + 1) n)

  count_padded : (n : ℕ) → n < records_of list → (n < 16) × (n < records_of (padded list))
  unfolding records_of
  count_padded n h = (omega arith, omega (arith, length_padded))

  by_padded : (bytes : List ℕ) (n : ℕ)
      → test_by bytes (byte_of (padded list) n 0) (byte_of (padded list) n 1) (limit_of (padded list) n)
      ≡ test_by bytes (byte_of list n 0) (byte_of list n 1) (limit_of list n)
  unfolding limit_of
  by_padded bytes n = rw (byte_padded n 0, byte_padded n 1, little_padded (8 * n + 2) 2)

  pub test_padded : (bytes : List ℕ) (n : ℕ)
      → test_of (padded list) (records_of list) bytes n ≡ test_of list (records_of list) bytes n
  test_padded bytes n = ⊎_elim within past (less_or_not n (records_of list))
    where
      past : records_of list ≤ n → test_of (padded list) (records_of list) bytes n
          ≡ test_of list (records_of list) bytes n
      past h = sym (test_past (padded list) (records_of list) bytes n h) ∙ test_past list (records_of list) bytes n h

      within : n < records_of list → test_of (padded list) (records_of list) bytes n
          ≡ test_of list (records_of list) bytes n
      within h =
          let k = count_padded n h in
          sym (test_here (padded list) (records_of list) bytes n h k.1 k.0) ∙ by_padded bytes n
          ∙ test_here list (records_of list) bytes n h h k.0

  pub entry_padded : (bytes : List ℕ)
      → entry_of (padded list) (records_of list) bytes ≡ entry_of list (records_of list) bytes
  unfolding entry_of signal_word
  entry_padded bytes =
      λ i.
      record {
        time = time_of bytes;
        signals = of_bits most_signals (λ n. is_holding (test_padded bytes n i));
      }

-- a number whose bits stop before c is below 2 ^ c
pub of_bits_below : (n c : ℕ) (g : ℕ → Bool) → ((t : ℕ) → c ≤ t → g t ≡ false) → of_bits n g < 2 ^ c
unfolding of_bits
of_bits_below zero c g h = pow_pos c
of_bits_below (suc n) c g h =
    ⊎_elim (λ l. lt_of_lt_of_le (of_bits_lt (suc n) g) (pow_mono l))
    (λ l. subst (λ b. cond b (2 ^ n) 0 + of_bits n g < 2 ^ c) (sym (h n l)) (none (of_bits_below n c g h)))
    (less_or_not n c)
  where
    none : {x y : ℕ} → x < y → 0 + x < y
    none h = omega arith

-- no signal holds past the list
pub entry_below : (list : List ℕ) (signals : ℕ) (bytes : List ℕ) → (entry_of list signals bytes).signals < 2 ^ signals
unfolding entry_of signal_word
entry_below list signals bytes =
    of_bits_below most_signals signals (λ n. is_holding (test_of list signals bytes n))
    (λ t h. sym (ap is_holding (test_past list signals bytes t h)))

-- What the checks of a rule list stand on: kinds and the bytes they use, records inside the list, equal parts of it.
-- Assumes nothing.
use mathlib.Core.Path.{◌≡◌, ap, sym, ◌∙◌, refl}
use mathlib.Core.List.{List, []}
use Prim.Native.Nat.{ℕ, suc, ◌+◌, ◌*◌, ◌/◌, ◌≤◌, ◌<◌, zero}
use native.Mathlib.Nat.{mul-suc, mul-le-mul_left, mul-div-le}
use mathlib.Core.Logic.{⊎_elim}
use native.Mathlib.Omega.{arith}
use borrow.Author.Tests.{eq-eqb, eqb-true, leb-true, leb-false}
use lib.Dec.{eqb, leb}
use lib.ListN.{length, get_or, take, drop, replicate, get_or-eq_default}
use lib.Pointwise.{pointwise}
use lib.Seq.{ext_get_or, length-take-le}
use Rattle.std.specs.Bool.{Decides}
use Rattle.std.proofs.lemmas.List.{get_or-take, get_or-drop, length-drop}
use Rattle.std.proofs.lemmas.Slice.Eq.{bytes_eq-Decides}
use Rattle.meaning.proofs.Ranges.{same_truth}
use Rattle.ground.specs.Fold.{fold, some}
use Rattle.ground.proofs.Folds.{less_or_not, every_all, every_at}
use mathlib.Core.Bool.{false, true, Bool, cond, ◌&&◌, and-false}
use Rattle.rewriting.specs.Decode.{record_bytes, kind_number}
use Rattle.watcher.specs.Limits.{most_records, list_bytes}
use Rattle.rewriting.specs.declared.kind.Kind.{Kind}
use Rattle.rewriting.specs.declared.kind.Kind.TheVariants.{True, False, Signal, And, Xor, Next, Until, Previous, Since}
use Rattle.rewriting.specs.declared.kind.Kind.TheVariants.{Other}
use Rattle.watcher.specs.Rules.{records_of, used_bytes, uses}
use Rattle.watcher.specs.Rules.{byte_breaks, first_broken, rule_breaks, same_record, first_twins, has_twins}
use Rattle.watcher.proofs.Places.{where_some}

-- the table of used bytes is false past its ends
pub uses_no_kind : (kind i : ℕ) → 10 ≤ kind → uses kind i ≡ false
unfolding uses used_bytes
uses_no_kind kind i h = ap (λ row. get_or row i false) (get_or-eq_default used_bytes [] h)

pub uses_no_byte : (kind i : ℕ) → record_bytes ≤ i → uses kind i ≡ false
unfolding uses used_bytes fold
uses_no_byte kind i l =
    ⊎_elim
    (λ h.
    let row : length (get_or used_bytes kind []) ≤ record_bytes =
    leb-true _ _ (every_at 10 (λ n. leb (length (get_or used_bytes n [])) record_bytes) refl kind h) in
    get_or-eq_default (get_or used_bytes kind []) false (omega arith))
    (uses_no_kind kind i) (less_or_not kind 10)

-- a list of none
none : (n i : ℕ) → get_or (replicate n false) i false ≡ false
none zero i = refl
none (suc n) zero = refl
none (suc n) (suc i) = none n i

-- and that of a byte that is no kind uses none, as the row of no kind does
pub uses_other : (byte i : ℕ) → get_or (replicate 8 false) i false ≡ uses (kind_number (Other byte)) i
unfolding uses used_bytes kind_number
uses_other byte i = none 8 i ∙ sym (go (leb byte 9) refl)
  where
    go : (b : Bool) → leb byte 9 ≡ b → uses (cond b 0 byte) i ≡ false
    go true e = none 8 i
    go false e = uses_no_kind byte i (leb-false byte 9 e)

pub uses_none : (byte i : ℕ) → uses 0 i ≡ uses (kind_number (Other byte)) i
unfolding uses used_bytes
uses_none byte i = uses_other byte i

-- a kind that is of the nine, of none of them, or no signal
pub kind_known : (kind : Kind) → ((byte : ℕ) → kind ≡ Other byte → ⊥)
    → true ≡ (leb 1 (kind_number kind) && leb (kind_number kind) 9)
unfolding kind_number
kind_known True n = refl
kind_known False n = refl
kind_known Signal n = refl
kind_known And n = refl
kind_known Xor n = refl
kind_known Next n = refl
kind_known Until n = refl
kind_known Previous n = refl
kind_known Since n = refl
kind_known (Other byte) n = absurd (n byte refl)

pub kind_other : (byte : ℕ) → false ≡ (leb 1 (kind_number (Other byte)) && leb (kind_number (Other byte)) 9)
unfolding kind_number
kind_other byte = go (leb byte 9) refl
  where
    go : (b : Bool) → leb byte 9 ≡ b → false ≡ (leb 1 (cond b 0 byte) && leb (cond b 0 byte) 9)
    go true e = refl
    go false e = rw (e, and-false)

pub no_signal : (kind : Kind) → (kind ≡ Signal → ⊥) → kind_number kind ≡ 3 → ⊥
unfolding kind_number
no_signal True n e = omega arith
no_signal False n e = omega arith
no_signal Signal n e = n refl
no_signal And n e = omega arith
no_signal Xor n e = omega arith
no_signal Next n e = omega arith
no_signal Until n e = omega arith
no_signal Previous n e = omega arith
no_signal Since n e = omega arith
no_signal (Other byte) n e = go (leb byte 9) refl e
  where
    go : (b : Bool) → leb byte 9 ≡ b → cond b 0 byte ≡ 3 → ⊥
    go true q e = omega arith
    go false q e = omega (arith, leb-false byte 9 q)

-- a list that is not too long has at most sixteen records
pub records_few : (list : List ℕ) (n : ℕ) → n ≡ records_of list → length list ≤ list_bytes → n ≤ most_records
unfolding records_of
records_few list n e h = omega arith

-- a record that a list has lies inside it
pub record_inside : (size i n : ℕ) → i < n / size → size * i + size ≤ n
record_inside size i n h =
    let most : size * suc i ≤ size * (n / size) = mul-le-mul_left size h in
    omega (arith, most, mul-div-le n size, mul-suc size i)

-- two parts of a list are equal where each byte of the one is that of the other
module _ (list : List ℕ) (size : ℕ) where
  part_byte : (n from b : ℕ) → n ≡ size → b < size → get_or (take n (drop from list)) b 0 ≡ get_or list (from + b) 0
  part_byte n from b e h =
      let l : b < n = omega arith in get_or-take n (drop from list) b 0 l ∙ get_or-drop from list b 0

  part_length : (n from : ℕ) → n ≡ size → from + size ≤ length list → length (take n (drop from list)) ≡ size
  part_length n from e h =
      length-take-le n (drop from list) (omega (arith, length-drop from list)) ∙ e

  pub parts_same : (i j n m : ℕ) → n ≡ size → m ≡ size → size * i + size ≤ length list → size * j + size ≤ length list
      → pointwise eqb (take n (drop (size * i) list)) (take m (drop (size * j) list)) ≡ same_record size list i j
  unfolding same_record
  parts_same i j n m e f h l =
      same_truth _ _
      (λ t.
      every_all size _
      (λ b k.
      eq-eqb _ _
      (sym (part_byte n (size * i) b e k) ∙ ap (λ xs. get_or xs b 0) (decides.0 t) ∙ part_byte m (size * j) b f k)))
      (λ t.
      decides.1
      (ext_get_or 0 left right (long ∙ sym (part_length m (size * j) f l))
      (λ b k.
      let q : b < size = omega (arith, long) in
      part_byte n (size * i) b e q ∙ eqb-true _ _ (every_at size _ t b q) ∙ sym (part_byte m (size * j) b f q))))
    where
      left : List ℕ
      left = take n (drop (size * i) list)

      right : List ℕ
      right = take m (drop (size * j) list)

      long : length left ≡ size
      long = part_length n (size * i) e h

      decides : Decides (pointwise eqb left right) (left ≡ right)
      decides = bytes_eq-Decides left right

-- a rule breaks the layout where some byte of some record does, and has twins where some record has an earlier one
module _ (rule : List ℕ) where
  pub breaks_some : rule_breaks rule ≡ some (records_of rule) (λ k. some record_bytes (byte_breaks rule k))
  unfolding first_broken records_of
  breaks_some = where_some _ _ _

  pub twins_some : has_twins rule ≡ some (records_of rule) (λ i. some i (same_record record_bytes rule i))
  unfolding first_twins records_of
  twins_some = where_some _ _ _

-- Computed examples of the first place that a search finds.
-- Assumes nothing.
use Rattle.std.proofs.Common.{Option, None}
use mathlib.Core.Path.{◌≡◌, refl}
use mathlib.Core.List.{List, [], ◌∷◌}
use Prim.Native.Nat.{ℕ, ◌+◌}
use lib.Dec.{eqb}
use Rattle.ground.specs.Fold.{fold}
use Rattle.rewriting.specs.Decode.{record_bytes, kind_true, kind_false, kind_signal, kind_and}
use Rattle.rewriting.specs.Decode.{kind_previous, kind_since}
use Rattle.rewriting.specs.Decode.{byte_of, endless, record_in, kind_of, kind_number}
use Rattle.watcher.specs.declared.state.Place.{Place}
use Rattle.watcher.specs.Places.{at, first_where}
use Rattle.watcher.specs.Rules.{used_bytes, uses, fair_limits, names_right, used_right, byte_breaks, first_broken}
use Rattle.watcher.specs.Rules.{same_record, first_twins}

-- before more records, one by its first six bytes, and one that has only a kind
abbrev with : (kind left right three low high : ℕ) → List ℕ → List ℕ
with kind left right three low high more = kind ∷ left ∷ right ∷ three ∷ low ∷ high ∷ 0 ∷ 0 ∷ more

abbrev bare : (kind : ℕ) → List ℕ → List ℕ
bare kind more = with kind 0 0 0 0 0 more

-- the lowest record counts before the lowest number: 1 and 3, not 2 and 2
pub lowest_record : first_where 4 (λ i. 4) (λ i j. eqb (i + j) 4) ≡ at 1 3
unfolding fold first_where
lowest_record = refl

-- where the layout is first broken
abbrev broken : List ℕ → Option Place
broken rule = first_broken record_bytes byte_breaks rule

-- in record 1 byte 3 is not zero, and low is above high
pub broken_bytes : broken (bare kind_signal (with kind_previous 0 0 1 5 4 [])) ≡ at 1 3
unfolding fold first_where first_broken byte_breaks used_right names_right fair_limits endless record_in byte_of
    uses used_bytes kind_of kind_number
broken_bytes = refl

-- record 1 names itself, and record 2 has no kind
pub broken_records : broken (bare kind_true (with kind_and 0 1 0 0 0 (bare 0 []))) ≡ at 1 2
unfolding fold first_where first_broken byte_breaks used_right names_right fair_limits endless record_in byte_of
    uses used_bytes kind_of kind_number
broken_records = refl

pub none_broken : broken (bare kind_signal (bare kind_false (with kind_since 0 1 0 2 255 []))) ≡ None
unfolding fold first_where first_broken byte_breaks used_right names_right fair_limits endless record_in byte_of
    uses used_bytes kind_of kind_number
none_broken = refl

-- where the first twins are
abbrev twins : List ℕ → Option Place
twins rule = first_twins record_bytes rule

pub three_equal : twins (bare kind_signal (bare kind_signal (bare kind_signal []))) ≡ at 1 0
unfolding fold first_where first_twins same_record
three_equal = refl

-- records 1 and 2 are equal, and so are 0 and 3
pub two_pairs : twins (bare kind_true (bare kind_false (bare kind_false (bare kind_true [])))) ≡ at 2 1
unfolding fold first_where first_twins same_record
two_pairs = refl

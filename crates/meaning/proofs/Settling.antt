-- Past the horizon nothing is left open: the remainder is a constant, and the word kept or broken.
-- Assumes nothing.
use mathlib.Core.Path.{◌≡◌, refl, ap, ◌∙◌}
use mathlib.Core.Bool.{Bool, false}
use mathlib.Core.List.{List, [], ◌∷◌}
use Prim.Native.Nat.{ℕ, zero, suc, ◌+◌, ◌-◌, ◌≤◌, ◌<◌}
use native.Mathlib.Nat.{le_refl}
use native.Mathlib.Omega.{arith}
use lib.ListN.{length}
use Rattle.forms.specs.Form.{Form, constant, value, DependsOn}
use Rattle.forms.proofs.Depends.{depends_none}
use Rattle.meaning.specs.Rule.{Node, Ordered, first_of, Entry, entry_at, time_at, Rising, Climbs}
use Rattle.meaning.specs.Horizon.{within, horizon, Ends, By}
use Rattle.meaning.specs.Rewriting.{none, at, derived_rows}
use Rattle.meaning.specs.Words.{Known, start, first, feed, fed, after, word, word_of}
use Rattle.meaning.proofs.Blocks.{length_derived_rows}
use Rattle.meaning.proofs.Theorems.{word_constant}
use Rattle.meaning.proofs.Horizons.{by_none}
use Rattle.meaning.proofs.Keeping.{Keeps, Before, forms_keep, put_waits, derived_rows_keep, past_rows_keep}

pub rising_climbs : (e : Entry) (es : List Entry) → Rising (e ∷ es) → Climbs e.time es
unfolding time_at entry_at
rising_climbs e [] r = tt
rising_climbs e (d ∷ es) r =
    let rest : Rising (d ∷ es) = λ i j h l. r (suc i) (suc j) (omega arith) (omega arith) in
    (r zero (suc zero) (omega arith) (omega arith), rising_climbs d es rest)

climbs_from : (t : ℕ) (es : List Entry) → Climbs t es → (j : ℕ) → j < length es → t ≤ time_at es j
unfolding time_at entry_at
climbs_from t [] c j h = let z : ⊥ = omega arith in absurd z
climbs_from t (e ∷ es) c zero h = c.0
climbs_from t (e ∷ es) c (suc j) h = omega (arith, c.0, climbs_from e.time es c.1 j (omega arith))

pub climbs_rising : (e : Entry) (es : List Entry) → Climbs e.time es → Rising (e ∷ es)
unfolding time_at entry_at
climbs_rising e es c zero zero h l = le_refl e.time
climbs_rising e es c zero (suc j) h l = climbs_from e.time es c j (omega arith)
climbs_rising e es c (suc i) zero h l = let z : ⊥ = omega arith in absurd z
climbs_rising e [] c (suc i) (suc j) h l = let z : ⊥ = omega arith in absurd z
climbs_rising e (d ∷ es) c (suc i) (suc j) h l = climbs_rising d es c.1 i j (omega arith) (omega arith)

-- the record known last is the last of the log
pub last_after : (m : ℕ) (rule : List Node) (e : Entry) (es : List Entry)
    → (after m rule e es).last ≡ entry_at (e ∷ es) (length es)
unfolding after first fed feed entry_at
last_after m rule e es = go es (first m rule e)
  where
    go : (es : List Entry) (s : Known m) → (fed m rule s es).last ≡ entry_at (s.last ∷ es) (length es)
    go [] s = refl
    go (e ∷ es) s = go es (feed m rule s e)

module _ (rule : List Node) (m : ℕ) where
  -- past rows and remainder depend only on what is over in time: the remainder by time b
  record Timely (s : Known m) (b : ℕ) : Type 0 where
    rows : Keeps rule m s.past (length rule) s.last.time s.last.time
    rest : DependsOn (By rule s.last.time b) m s.remainder

  module _ (ordered : Ordered rule) (fits : (k : ℕ) → first_of rule k ≤ m) where
    first_timely : 0 < length rule → (e : Entry) (b : ℕ) → Ends (horizon rule) e.time b → Timely (first m rule e) b
    unfolding Before first start horizon
    first_timely long e b i =
        record {
          rows = past_rows_keep rule m ordered fits 0 [] e none tt (length rule);
          rest = forms_keep rule m ordered fits (length rule) (length rule - 1) e.time b (omega arith) i;
        }

    feed_timely : (s : Known m) (e : Entry) (b : ℕ) → s.last.time ≤ e.time → Timely s b
        → Timely (feed m rule s e) b
    unfolding Before feed
    feed_timely s e b h known =
        record {
          rows = past_rows_keep rule m ordered fits (length rule) derived e (at t) (h, len, keep) (length rule);
          rest = put_waits rule m s.remainder derived (length rule) t e.time b len keep known.rest;
        }
      where
        t : ℕ
        t = s.last.time

        derived : List (Form m)
        derived = derived_rows m rule s.past s.last (at e.time) (length rule)

        len : length derived ≡ first_of rule (length rule)
        len = length_derived_rows m rule s.past s.last (at e.time) (length rule)

        keep : Keeps rule m derived (length rule) t e.time
        keep =
            derived_rows_keep rule m ordered fits (length rule) e.time s.past s.last h known.rows
            (length rule) (le_refl (length rule))

    fed_timely : (es : List Entry) (s : Known m) (b : ℕ) → Climbs s.last.time es → Timely s b
        → Timely (fed m rule s es) b
    unfolding fed feed
    fed_timely [] s b c known = known
    fed_timely (e ∷ es) s b c known = fed_timely es (feed m rule s e) b c.1 (feed_timely s e b c.0 known)

module _ (rule : List Node) (ordered : Ordered rule) (m : ℕ) (fits : (k : ℕ) → first_of rule k ≤ m)
    (long : 0 < length rule) (e : Entry) (es : List Entry) (rising : Rising (e ∷ es)) (h : ℕ)
    (limit : horizon rule ≡ within h) where
  -- the remainder depends only on p with the last record's time + p's horizon ≤ the first's time + the rule's horizon
  pub depends_by :
      DependsOn (By rule (after m rule e es).last.time (e.time + h)) m (after m rule e es).remainder
  unfolding after first
  depends_by =
      (fed_timely rule m ordered fits es (first m rule e) (e.time + h) (rising_climbs e es rising)
      (first_timely rule m ordered fits long e (e.time + h) (rw limit (le_refl (e.time + h))))).rest

  module _ (past : e.time + h < (after m rule e es).last.time) where
    -- so at a record past the horizon it is a constant
    pub settled : (b : Bool) × ((after m rule e es).remainder ≡ constant m b)
    settled =
        let s : Known m = after m rule e es in (
          value m s.remainder (λ j. false),
          depends_none m s.remainder
              (λ ρ ρ' a. depends_by ρ ρ' (λ j d. absurd (by_none rule s.last.time (e.time + h) j past d))),
        )

    -- and the word is kept or broken
    pub settled_word : (b : Bool) × (word m (after m rule e es).remainder ≡ word_of b)
    settled_word = (settled.0, ap (word m) settled.1 ∙ word_constant m settled.0)

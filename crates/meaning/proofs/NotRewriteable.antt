-- By which laws a rule may not be rewritten: a small log each, one side that holds in it and one that does not.
-- Assumes nothing.
use mathlib.Core.Path.{refl}
use mathlib.Core.List.{[], ◌∷◌}
use Rattle.meaning.specs.Interval.{between, onward}
use Rattle.meaning.specs.Tests.{entry, a, b, c, denied, and, or, next, previous, until, eventually}
use Rattle.meaning.specs.Tests.{always, Differ}

-- 1. what ends in the longer time need not end in the shorter
pub longer_not_shorter : Differ (until (between 0 2) a b) (until (between 0 1) a b) 0 (entry 0 1 ∷ entry 2 2 ∷ [])
unfolding Differ
longer_not_shorter = (refl, refl)

-- 2. within 0 minutes is not now: a later record may share the minute (document 01, example 5)
pub shared_minute : Differ (eventually (between 0 0) a) a 0 (entry 5 0 ∷ entry 5 1 ∷ [])
unfolding Differ
shared_minute = (refl, refl)

pub shared_minute_until : Differ (until (between 0 0) a b) b 0 (entry 5 1 ∷ entry 5 2 ∷ [])
unfolding Differ
shared_minute_until = (refl, refl)

-- 3. an eventually is not split in two: in a gap there is no record to wait at
pub no_record_between : Differ (eventually (between 1 3) a) (eventually (between 0 1) (eventually (between 1 2) a)) 0
    (entry 0 0 ∷ entry 3 1 ∷ [])
unfolding Differ
no_record_between = (refl, refl)

-- 4. what holds now does not end a wait whose interval begins later
pub now_too_early : Differ b (until (between 1 2) a b) 0 (entry 0 2 ∷ [])
unfolding Differ
now_too_early = (refl, refl)

-- 5. with a limit, a step to the next record does not take one minute off: the gap may be longer
pub record_not_minute : Differ (or b (and a (next (onward 0) (until (between 0 1) a b)))) (until (between 0 2) a b) 0
    (entry 0 1 ∷ entry 3 2 ∷ [])
unfolding Differ
record_not_minute = (refl, refl)

-- 6. to wait for two things is not to wait for both at once: they may come at different records
pub two_ends : Differ (and (until (between 0 2) a b) (until (between 0 2) a c)) (until (between 0 2) a (and b c)) 0
    (entry 0 1 ∷ entry 1 3 ∷ entry 2 4 ∷ [])
unfolding Differ
two_ends = (refl, refl)

-- 7. one or the other kept is not the one kept or the other kept: they may take turns
pub taking_turns : Differ (until (between 0 2) (or a b) c) (or (until (between 0 2) a c) (until (between 0 2) b c)) 0
    (entry 0 1 ∷ entry 1 2 ∷ entry 2 4 ∷ [])
unfolding Differ
taking_turns = (refl, refl)

-- 8. no next record with a is not a next record without a: there may be none, or none in the interval
pub no_next_at_last : Differ (denied (next (onward 0) a)) (next (onward 0) (denied a)) 0 (entry 0 0 ∷ [])
unfolding Differ
no_next_at_last = (refl, refl)

pub no_next_in_gap : Differ (denied (next (between 0 1) a)) (next (between 0 1) (denied a)) 0
    (entry 0 0 ∷ entry 3 0 ∷ [])
unfolding Differ
no_next_in_gap = (refl, refl)

-- 9. there and back is not here: not from the last record, not back from the first, not over a gap past the interval
pub no_way_at_last : Differ a (next (onward 0) (previous (onward 0) a)) 0 (entry 0 1 ∷ [])
unfolding Differ
no_way_at_last = (refl, refl)

pub no_way_at_first : Differ a (previous (onward 0) (next (onward 0) a)) 0 (entry 0 1 ∷ entry 1 1 ∷ [])
unfolding Differ
no_way_at_first = (refl, refl)

pub no_way_in_gap : Differ a (next (between 0 1) (previous (between 0 1) a)) 0 (entry 0 1 ∷ entry 3 1 ∷ [])
unfolding Differ
no_way_in_gap = (refl, refl)

-- 10. always is not eventually: where no record is in the interval, always holds
pub always_of_none : Differ (always (between 1 2) a) (eventually (between 1 2) a) 0 (entry 0 1 ∷ entry 3 1 ∷ [])
unfolding Differ
always_of_none = (refl, refl)

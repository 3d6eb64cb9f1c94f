-- What holds at each record of a log, whichever log it is: two sides that a rewriting of a rule is tried on.
use Rattle.std.specs.Prelude.{◌≡◌, Bool, true, false, not, ◌&&◌, ◌||◌, List, ℕ}
use Rattle.ground.specs.Fold.{fold, every_in, some_in}
use Rattle.ground.specs.Bits.{bit}
use Rattle.meaning.specs.Interval.{Interval, distance, inside}
use Rattle.meaning.specs.Rule.{Entry, entry_at, time_at, holds}
use Rattle.meaning.specs.Meaning.{next_at, until_at, previous_at}

-- a record of a log: its time, and the sum of 1 where a holds, 2 where b holds, 4 where c holds
abbrev pub entry : ℕ → ℕ → Entry
entry minute sum = record { time = minute; signals = sum }

-- what holds at each record of a log
abbrev pub Test : Type 0
Test = List Entry → ℕ → Bool

abbrev pub a : Test
a log i = holds (entry_at log i) 0

abbrev pub b : Test
b log i = holds (entry_at log i) 1

abbrev pub c : Test
c log i = holds (entry_at log i) 2

abbrev pub denied : Test → Test
denied p log i = not (p log i)

abbrev pub and : Test → Test → Test
and p q log i = p log i && q log i

abbrev pub or : Test → Test → Test
or p q log i = p log i || q log i

abbrev pub next : Interval → Test → Test
next v p log i = next_at log (p log) v i

abbrev pub previous : Interval → Test → Test
previous v p log i = previous_at log (p log) v i

abbrev pub until : Interval → Test → Test → Test
until v p q log i = until_at log (p log) (q log) v i

abbrev pub eventually : Interval → Test → Test
eventually v p log i = until_at log (λ k. true) (p log) v i

abbrev pub always : Interval → Test → Test
always v p = denied (eventually v (denied p))

-- the one holds at record i of the log, and the other does not
unfoldable pub Differ : Test → Test → ℕ → List Entry → Type 0
unfolding next_at until_at previous_at holds entry_at time_at inside distance some_in every_in fold bit
Differ p q i log = (p log i ≡ true) × (q log i ≡ false)

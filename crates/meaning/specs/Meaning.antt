-- What a rule means at a record of a log (document 01, "What a rule means"; document 000, section 2).
-- Records of the log count from 0: document 01's record 1 is record 0 here.
use Rattle.std.specs.Prelude.{Bool, false, ◌&&◌, List, [], ◌∷◌, ◌++◌, ℕ, zero, suc, ◌-◌, ltb, length, get_or}
use Rattle.ground.specs.Fold.{◌⊕◌, every_in, some_in, tab}
use Rattle.meaning.specs.Interval.{Interval, inside}
use Rattle.meaning.specs.Rule.{Node, fixed, signal, both, either, next, until, previous, since}
use Rattle.meaning.specs.Rule.{node_at, count, shifted_node, Entry, entry_at, time_at, holds}

module _ (log : List Entry) where
  -- there is a record i + 1, it is in the interval, and left holds there
  unfoldable pub next_at : (left : ℕ → Bool) → Interval → ℕ → Bool
  next_at left v i = ltb (suc i) (length log) && (inside v (time_at log i) (time_at log (suc i)) && left (suc i))

  -- right holds at some j at or after i in the interval, and left at every k from i up to but not including j
  unfoldable pub until_at : (left right : ℕ → Bool) → Interval → ℕ → Bool
  until_at left right v i =
      some_in i (length log) (λ j. inside v (time_at log i) (time_at log j) && (right j && every_in i j left))

  -- there is a record i - 1, it is in the interval, and left holds there; false at the first record
  unfoldable pub previous_at : (left : ℕ → Bool) → Interval → ℕ → Bool
  previous_at left v zero = false
  previous_at left v (suc i) = inside v (time_at log (suc i)) (time_at log i) && left i

  -- right holds at some j at or before i in the interval, and left at every k after j up to and including i
  unfoldable pub since_at : (left right : ℕ → Bool) → Interval → ℕ → Bool
  since_at left right v i =
      some_in 0 (suc i) (λ j. inside v (time_at log i) (time_at log j) && (right j && every_in (suc j) (suc i) left))

  -- a record's value at each record of the log, given those of the earlier records
  unfoldable pub meaning : List (ℕ → Bool) → Node → ℕ → Bool
  meaning earlier (fixed b) i = b
  meaning earlier (signal s) i = holds (entry_at log i) s
  meaning earlier (both l r) i = (get_or earlier l (λ j. false)) i && (get_or earlier r (λ j. false)) i
  meaning earlier (either l r) i = (get_or earlier l (λ j. false)) i ⊕ (get_or earlier r (λ j. false)) i
  meaning earlier (next l v) i = next_at (get_or earlier l (λ j. false)) v i
  meaning earlier (until l r v) i = until_at (get_or earlier l (λ j. false)) (get_or earlier r (λ j. false)) v i
  meaning earlier (previous l v) i = previous_at (get_or earlier l (λ j. false)) v i
  meaning earlier (since l r v) i = since_at (get_or earlier l (λ j. false)) (get_or earlier r (λ j. false)) v i

  -- the values of the first k records of a rule
  unfoldable pub values : List Node → ℕ → List (ℕ → Bool)
  values rule zero = []
  values rule (suc k) = let earlier = values rule k in earlier ++ (meaning earlier (node_at rule k) ∷ [])

  -- the values of the parameters of the first k records: each record with its interval shifted
  unfoldable pub parameter_values : List Node → ℕ → List (ℕ → Bool)
  parameter_values rule zero = []
  parameter_values rule (suc k) =
      parameter_values rule k
      ++ tab (count (node_at rule k)) (λ n. meaning (values rule k) (shifted_node (node_at rule k) n))

  -- the value of parameter p at record i
  unfoldable pub parameter_at : List Node → ℕ → ℕ → Bool
  parameter_at rule p i = (get_or (parameter_values rule (length rule)) p (λ j. false)) i

  -- a log's value: the rule's last record at the first record of the log; an empty log has none
  unfoldable pub value_of : List Node → Bool
  value_of rule = (get_or (values rule (length rule)) (length rule - 1) (λ j. false)) 0

-- What each way through check 12 finds.
-- Assumes nothing.
use mathlib.Core.Path.{◌≡◌, refl, sym, ap, ap₂, ◌∙◌}
use mathlib.Core.Bool.{Bool, true, false, ◌||◌}
use mathlib.Core.List.{List, []}
use Prim.Native.Nat.{ℕ, ◌≤◌, min}
use native.Mathlib.Nat.{le_refl}
use native.Mathlib.Omega.{arith}
use lib.ListN.{length}
use Rattle.forms.specs.Area.{row_at}
use Rattle.forms.specs.Form.{Form}
use Rattle.meaning.specs.Rule.{Node, parameters, Entry}
use Rattle.meaning.specs.Words.{Known}
use Rattle.meaning.specs.Shape.{Shaped, KnownShape}
use Rattle.rewriting.specs.Decode.{rule_in}
use Rattle.rewriting.specs.Known.{past_in, area_of}
use Rattle.rewriting.specs.Plans.{Sound}
use Rattle.rewriting.specs.Shape.{bits_above, not_zero_from, wrong_rows}
use Rattle.rewriting.proofs.Counting.{counts_all}
use Rattle.rewriting.proofs.Placed.{read_past}
use Rattle.rewriting.proofs.TidyRows.{bits_same, zeros_same, past_same, unused_fine}
use Rattle.rewriting.proofs.ShapedRows.{rows_fine, rows_shaped}
use Rattle.watcher.specs.declared.state.Watcher.{Watcher}
use Rattle.watcher.specs.Limits.{most_parameters, list_bytes}
use Rattle.watcher.specs.Numbers.{Stage, fresh, running, closed, stage_of}
use Rattle.watcher.specs.State.{rule_of, parameters_of, start_refuses, not_zeros_behind, signals_above}
use Rattle.watcher.specs.State.{wrong_in_phase, broken_state}
use Rattle.watcher.proofs.Decoded.{neither}
use Rattle.watcher.proofs.HeldLaws.{held_some, held_most, held_few, held_listed}

-- the rows that a state must have, by its stage: a fresh one no past row at all
pub fresh_rows : (w : Watcher) (m : ℕ) (remainder : Form m)
    → wrong_in_phase w (area_of most_parameters m [] remainder) fresh ≡ false
unfolding wrong_in_phase
fresh_rows w m remainder = unused_fine most_parameters m [] remainder 0 (omega arith)

-- a running one past rows of the shape that the rewriting gives them after the last record
pub running_rows : (w : Watcher) (rule : List Node) → rule_of w ≡ rule → parameters rule ≤ most_parameters
    → (s : Known (parameters rule)) → length s.past ≡ parameters rule → KnownShape rule (parameters rule) s
    → wrong_in_phase w (area_of most_parameters (parameters rule) s.past s.remainder) (running s.last) ≡ false
unfolding wrong_in_phase parameters_of
running_rows w rule own few s long shape =
    ap (λ r. wrong_rows r (parameters r) s.last (past_in (parameters r) ws)) own
    ∙ ap (wrong_rows rule m s.last) (read_past most_parameters m s.past s.remainder few few long)
    ∙ rows_fine rule m s.last s.past shape
  where
    m : ℕ
    m = parameters rule

    ws : List ℕ
    ws = area_of most_parameters m s.past s.remainder

-- a closed one any
pub closed_rows : (w : Watcher) (ws : List ℕ) (b : Bool) → wrong_in_phase w ws (closed b) ≡ false
unfolding wrong_in_phase
closed_rows w ws b = refl

-- what the check of the rows asks for
pub sound : (w : Watcher) (m : ℕ) → length w.rule ≡ list_bytes → start_refuses w ≡ false → m ≡ parameters_of w
    → Sound w.rule (record { records = w.records; m = m; places = most_parameters })
unfolding parameters_of rule_of
sound w m long fine e =
    record {
      some = held_some w fine long;
      most = omega (arith, held_most w fine);
      own = e;
      few = omega (arith, e, held_few w fine long);
      room = le_refl most_parameters;
    }

-- the parameters of its rule, counted
pub own_parameters : (w : Watcher) (m : ℕ) → start_refuses w ≡ false
    → m ≡ parameters (rule_in w.rule (min w.records 64)) → m ≡ parameters_of w
unfolding parameters_of rule_of
own_parameters w m a e = counts_all w.rule w.records m (omega (arith, held_most w a)) e

-- the rows of a fresh, of a running and of a closed state, with m as its parameters are counted
module _ (w : Watcher) (ws : List ℕ) where
  pub wrong_fresh : wrong_in_phase w ws fresh ≡ not_zero_from most_parameters 0 ws
  unfolding wrong_in_phase
  wrong_fresh = refl

  pub wrong_running : (e : Entry) (m : ℕ) → m ≡ parameters_of w
      → wrong_in_phase w ws (running e) ≡ wrong_rows (rule_in w.rule w.records) m e (past_in m ws)
  unfolding wrong_in_phase rule_of
  wrong_running e m own = rw own refl

  pub wrong_closed : (b : Bool) → wrong_in_phase w ws (closed b) ≡ false
  unfolding wrong_in_phase
  wrong_closed b = refl

-- what the check of a state needs of its lists and of its rows, by name
pub ruleset own_lists = (held_most, held_listed, own_parameters)

pub ruleset own_rows = (wrong_fresh, wrong_running, wrong_closed)

-- the tests, in the definition's order
module _ (w : Watcher) (ws : List ℕ) where
  module _ (a : start_refuses w ≡ false) where
    module _ (b : not_zeros_behind w ≡ false) where
      module _ (c : signals_above w.signals (stage_of w.phase) ≡ false) (m : ℕ) (own : m ≡ parameters_of w) where
        module _ (d : bits_above most_parameters m ws ≡ false) where
          pub broken_phase : (r : Bool) → not_zero_from most_parameters m ws ≡ false
              → r ≡ wrong_in_phase w ws (stage_of w.phase) → r ≡ broken_state w ws
          unfolding broken_state
          broken_phase r e f = rw (a, b, c, ← own, d, e) f

-- a state and an area that pass every test
pub record Unbroken (w : Watcher) (ws : List ℕ) : Type 0 where
  pub lists : start_refuses w ≡ false
  pub behind : not_zeros_behind w ≡ false
  pub word : signals_above w.signals (stage_of w.phase) ≡ false
  pub bits : bits_above most_parameters (parameters_of w) ws ≡ false
  pub unused : not_zero_from most_parameters (parameters_of w) ws ≡ false
  pub rows : wrong_in_phase w ws (stage_of w.phase) ≡ false

module _ (w : Watcher) (ws : List ℕ) where
  pub unbroken : broken_state w ws ≡ false → Unbroken w ws
  unfolding broken_state
  unbroken fine =
      let a = neither (start_refuses w) _ fine in
      let b = neither (not_zeros_behind w) _ a.1 in
      let c = neither (signals_above w.signals (stage_of w.phase)) _ b.1 in
      let d = neither (bits_above most_parameters (parameters_of w) ws) _ c.1 in
      let e = neither (not_zero_from most_parameters (parameters_of w) ws) _ d.1 in
      record { lists = a.0; behind = b.0; word = c.0; bits = d.0; unused = e.0; rows = e.1 }

  -- the past rows of a running one have the shape
  pub running_shaped : Unbroken w ws → (last : Entry) → stage_of w.phase ≡ running last
      → Shaped (rule_of w) (parameters_of w) last (past_in (parameters_of w) ws) (length (rule_of w))
  unfolding wrong_in_phase
  running_shaped u last e =
      rows_shaped (rule_of w) (parameters_of w) last (past_in (parameters_of w) ws)
      (ap (wrong_in_phase w ws) (sym e) ∙ u.rows)

  pub not_broken : Unbroken w ws → broken_state w ws ≡ false
  not_broken u =
      sym
      (broken_phase w ws u.lists u.behind u.word (parameters_of w) refl u.bits false u.unused
      (sym u.rows))

-- areas with the same past rows and remainder: the tests say the same
module _ (w : Watcher) (a b : List ℕ) (alike : (j : ℕ) → j ≤ most_parameters → row_at a j ≡ row_at b j) where
  phase_same : parameters_of w ≤ most_parameters → (stage : Stage)
      → wrong_in_phase w a stage ≡ wrong_in_phase w b stage
  unfolding wrong_in_phase
  phase_same h fresh = zeros_same most_parameters a b alike 0
  phase_same h (running e) =
      ap (wrong_rows (rule_of w) (parameters_of w) e) (past_same most_parameters a b alike (parameters_of w) h)
  phase_same h (closed v) = refl

  pub broken_same : length w.rule ≡ list_bytes → broken_state w a ≡ broken_state w b
  unfolding broken_state
  broken_same long = go (start_refuses w) refl
    where
      m : ℕ
      m = parameters_of w

      rest : List ℕ → Bool
      rest ws =
          not_zeros_behind w
          || (signals_above w.signals (stage_of w.phase)
          || (bits_above most_parameters m ws
          || (not_zero_from most_parameters m ws || wrong_in_phase w ws (stage_of w.phase))))

      go : (t : Bool) → start_refuses w ≡ t → (t || rest a) ≡ (t || rest b)
      go true e = refl
      go false e =
          ap (λ x. not_zeros_behind w || (signals_above w.signals (stage_of w.phase) || x))
          (ap₂ ◌||◌ (bits_same most_parameters a b alike m)
          (ap₂ ◌||◌ (zeros_same most_parameters a b alike m) (phase_same (held_few w e long) (stage_of w.phase))))

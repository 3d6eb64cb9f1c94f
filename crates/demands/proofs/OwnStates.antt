-- The states that the watcher makes of accepted lists, and that refusal 12 is not given for them.
-- Assumes nothing.
use Rattle.std.proofs.Common.{Ok, Err, is_err}
use mathlib.Core.Path.{◌≡◌, refl, sym, ap, ap₂, ◌∙◌}
use mathlib.Core.Bool.{false, not, ◌||◌}
use mathlib.Core.List.{List, []}
use Prim.Native.Nat.{ℕ, ◌*◌, ◌^◌, ◌≤◌, ◌<◌}
use native.Mathlib.Omega.{arith}
use lib.ListN.{length, take}
use borrow.Author.Tests.{le-ltb, lt-leb}
use Rattle.forms.specs.Form.{Form}
use Rattle.meaning.specs.Rule.{parameters}
use Rattle.meaning.specs.Words.{Known}
use Rattle.meaning.specs.Shape.{KnownShape}
use Rattle.rewriting.specs.Known.{area_of}
use Rattle.rewriting.specs.Shape.{bits_above, not_zero_from}
use Rattle.watcher.specs.declared.state.Watcher.{Watcher}
use Rattle.watcher.specs.declared.state.Phase.{Phase}
use Rattle.watcher.specs.declared.state.Phase.TheVariants as phase
use Rattle.watcher.specs.declared.state.Verdict.{Verdict}
use Rattle.watcher.specs.declared.state.Refusal.{Refusal}
use Rattle.watcher.specs.Limits.{most_records, most_signals, most_parameters, list_bytes, area_words}
use Rattle.watcher.specs.Rules.{records_of}
use Rattle.watcher.specs.Lists.{lists_refusal}
use Rattle.watcher.specs.Numbers.{stage_of, verdict_value}
use Rattle.watcher.specs.State.{rule_of, parameters_of, rule_bytes, list_bytes_of, start_refuses}
use Rattle.watcher.specs.State.{not_zeros_behind, signals_above, wrong_in_phase, broken_state}
use Rattle.watcher.specs.Calls.{start_refusal, padded}
use Rattle.demands.specs.Rewritten.{read_rule, parameters_in}
use Rattle.watcher.proofs.Decoded.{Accepted, fine_tests, tests_fine, length_fine, Whole}
use Rattle.watcher.proofs.Decoded.{length_most, accepted_list, accepted_few}
use Rattle.watcher.proofs.Testing.{start_refused, start_fine, start_passed}
use Rattle.watcher.proofs.Breaking.{not_broken, fresh_rows, running_rows, closed_rows}
use Rattle.rewriting.proofs.TidyRows.{bits_fine, unused_fine}
use Rattle.demands.proofs.Padding.{take_padded, zeros_padded, rule_padded}

-- start refuses lists that do not pass, whatever the area
pub start_refuses_lem : (rule signals ws : List ℕ) (r : Refusal) → lists_refusal rule signals ≡ Err r
    → start_refusal rule signals ws ≡ Err r
start_refuses_lem = start_refused

-- start accepts lists that pass with an area of 1,664 words, and nothing else
pub start_accepts : (rule signals ws : List ℕ) → lists_refusal rule signals ≡ Ok tt → length ws ≡ area_words
    → start_refusal rule signals ws ≡ Ok tt
start_accepts = start_fine

pub start_accepted : (rule signals ws : List ℕ) → start_refusal rule signals ws ≡ Ok tt
    → Accepted rule signals × (length ws ≡ area_words)
start_accepted rule signals ws e =
    let p = start_passed rule signals ws (Ok tt) (sym e) refl in (fine_tests rule signals p.0, p.1)

-- a state with the lists that start was given, in some phase
unfoldable pub state_in : (rule signals : List ℕ) → Phase → Watcher
state_in rule signals p =
    record {
      rule = padded rule;
      records = records_of rule;
      list = padded signals;
      signals = records_of signals;
      phase = p;
    }

module _ (rule signals : List ℕ) (fine : Accepted rule signals) where
  pub rule_short : length rule ≤ list_bytes
  rule_short = length_most rule fine.long

  pub list_short : length signals ≤ list_bytes
  list_short = let w = accepted_list rule signals fine in omega (arith, w.whole, w.most)

  -- it holds the rule
  pub rule_in : (p : Phase) → rule_of (state_in rule signals p) ≡ read_rule rule
  unfolding rule_of state_in read_rule
  rule_in p = rule_padded rule rule_short (records_of rule)

  pub parameters_in_lem : (p : Phase) → parameters_of (state_in rule signals p) ≡ parameters_in rule
  unfolding parameters_of parameters_in
  parameters_in_lem p = ap parameters (rule_in p)

  pub few_parameters : parameters_in rule ≤ 12
  unfolding parameters_in read_rule
  few_parameters = accepted_few rule signals fine

  -- start would not refuse its lists
  pub lists_in : (p : Phase) → start_refuses (state_in rule signals p) ≡ false
  unfolding start_refuses rule_bytes list_bytes_of state_in
  lists_in p =
      ap₂ ◌||◌ (le-ltb most_records (records_of rule) r.most)
      (ap₂ ◌||◌ (le-ltb most_signals (records_of signals) l.most)
      (ap is_err
      (ap₂ lists_refusal (own rule rule_short r) (own signals list_short l) ∙ tests_fine rule signals fine)))
    where
      r : Whole rule
      r = length_fine rule fine.long

      l : Whole signals
      l = accepted_list rule signals fine

      own : (list : List ℕ) → length list ≤ list_bytes → Whole list → take (8 * records_of list) (padded list) ≡ list
      own list short w = ap (λ n. take n (padded list)) (sym w.whole) ∙ take_padded list short

  -- zeros stand behind them
  pub zeros_in : (p : Phase) → not_zeros_behind (state_in rule signals p) ≡ false
  unfolding not_zeros_behind state_in
  zeros_in p =
      ap₂ (λ a b. not a || not b)
      (zeros_padded rule rule_short (8 * records_of rule) (omega (arith, (length_fine rule fine.long).whole)))
      (zeros_padded signals list_short (8 * records_of signals)
      (omega (arith, (accepted_list rule signals fine).whole)))

  -- so the state is broken only by its phase or its area
  pub broken_in : (p : Phase) (ws : List ℕ) → signals_above (records_of signals) (stage_of p) ≡ false
      → bits_above most_parameters (parameters_in rule) ws ≡ false
      → not_zero_from most_parameters (parameters_in rule) ws ≡ false
      → wrong_in_phase (state_in rule signals p) ws (stage_of p) ≡ false
      → broken_state (state_in rule signals p) ws ≡ false
  unfolding state_in
  broken_in p ws above bits unused rows =
      not_broken (state_in rule signals p) ws
      (record {
        lists = lists_in p;
        behind = zeros_in p;
        word = above;
        bits = ap (λ m. bits_above most_parameters m ws) (parameters_in_lem p) ∙ bits;
        unused = ap (λ m. not_zero_from most_parameters m ws) (parameters_in_lem p) ∙ unused;
        rows = rows;
      })

-- what is known is as the watcher makes it: a past row of the right shape for each parameter, no signal past the list
pub record Lawful (rule signals : List ℕ) (s : Known (parameters_in rule)) : Type 0 where
  pub long : length s.past ≡ parameters_in rule
  pub shape : KnownShape (read_rule rule) (parameters_in rule) s
  pub below : s.last.signals < 2 ^ records_of signals

-- the areas that belong to each phase
module _ (rule signals : List ℕ) (fine : Accepted rule signals) where
  pub fresh_fine : (remainder : Form (parameters_in rule))
      → broken_state (state_in rule signals phase.Fresh) (area_of most_parameters (parameters_in rule) [] remainder)
      ≡ false
  unfolding stage_of signals_above
  fresh_fine remainder =
      broken_in rule signals fine phase.Fresh (area_of most_parameters m [] remainder) refl
      (bits_fine most_parameters m [] remainder) (unused_fine most_parameters m [] remainder m (omega arith))
      (fresh_rows (state_in rule signals phase.Fresh) m remainder)
    where
      m : ℕ
      m = parameters_in rule

  pub running_fine : (s : Known (parameters_in rule)) → Lawful rule signals s
      → broken_state (state_in rule signals (phase.Running s.last.time s.last.signals))
      (area_of most_parameters (parameters_in rule) s.past s.remainder)
      ≡ false
  unfolding stage_of signals_above parameters_in
  running_fine s ok =
      broken_in rule signals fine p (area_of most_parameters m s.past s.remainder)
      (lt-leb (2 ^ records_of signals) s.last.signals ok.below)
      (bits_fine most_parameters m s.past s.remainder)
      (unused_fine most_parameters m s.past s.remainder m (omega (arith, ok.long)))
      (running_rows (state_in rule signals p) (read_rule rule) (rule_in rule signals fine p)
      (few_parameters rule signals fine) s ok.long ok.shape)
    where
      m : ℕ
      m = parameters (read_rule rule)

      p : Phase
      p = phase.Running s.last.time s.last.signals

  pub closed_fine : (v : Verdict) (past : List (Form (parameters_in rule))) (remainder : Form (parameters_in rule))
      → length past ≡ parameters_in rule
      → broken_state (state_in rule signals (phase.Closed v))
      (area_of most_parameters (parameters_in rule) past remainder)
      ≡ false
  unfolding stage_of signals_above
  closed_fine v past remainder long =
      broken_in rule signals fine (phase.Closed v) ws refl (bits_fine most_parameters m past remainder)
      (unused_fine most_parameters m past remainder m (omega (arith, long)))
      (closed_rows (state_in rule signals (phase.Closed v)) ws (verdict_value v))
    where
      m : ℕ
      m = parameters_in rule

      ws : List ℕ
      ws = area_of most_parameters m past remainder

-- After an accepted call the scratch and the unused rows are zero.
-- Assumes nothing.
use Rattle.std.proofs.Common.{Ok}
use mathlib.Core.Path.{◌≡◌, sym, ap, ◌∙◌, subst}
use mathlib.Core.Bool.{false}
use mathlib.Core.Logic.{⊎_elim}
use mathlib.Core.List.{List, []}
use Prim.Native.Nat.{ℕ, ◌+◌, ◌*◌, ◌≤◌}
use native.Mathlib.Omega.{arith}
use lib.ListN.{length, get_or-eq_default}
use Rattle.ground.proofs.Folds.{less_or_not}
use Rattle.ground.proofs.Tabs.{length_tab}
use Rattle.forms.specs.Form.{Form, constant}
use Rattle.forms.specs.Words.{pack}
use Rattle.forms.proofs.Areas as areas
use Rattle.forms.proofs.Packing.{pack_false}
use Rattle.meaning.specs.Rule.{Node, Entry, parameters}
use Rattle.meaning.specs.Rewriting.{none, at, derived_rows}
use Rattle.meaning.specs.Words.{Known, feed, close}
use Rattle.meaning.specs.Words as words
use Rattle.meaning.proofs.Blocks.{length_past_rows}
use Rattle.rewriting.specs.Known.{words_for, form_at, past_in, known_in, area_of}
use Rattle.rewriting.proofs.Placed.{length_area_of, row_area_of, row_past, row_scratch}
use Rattle.watcher.specs.declared.state.Watcher.{Watcher}
use Rattle.watcher.specs.Limits.{most_parameters}
use Rattle.watcher.specs.Records.{entry_of}
use Rattle.watcher.specs.Numbers.{Stage, fresh, running, closed, stage_of}
use Rattle.watcher.specs.State.{rule_of, parameters_of}
use Rattle.watcher.specs.Calls.{start_refusal, feed_refusal, close_refusal, start_with, start_of, feed_with, feed_of}
use Rattle.watcher.specs.Calls.{close_with, close_of, known_next, known_now}
use Rattle.demands.specs.Areas.{Clean}
use Rattle.demands.specs.Rewritten.{read_rule, parameters_in}

-- an area that is laid out with no more past rows than parameters
clean_area : (m : ℕ) (past : List (Form m)) (remainder : Form m) → length past ≤ m
    → Clean m (area_of most_parameters m past remainder)
unfolding words_for
clean_area m past remainder few =
    record {
      long = length_area_of most_parameters m past remainder;
      unused =
          λ j h l.
          row_area_of most_parameters m past remainder j (omega arith) ∙ row_past most_parameters m past remainder j l
          ∙ ap (pack m) (get_or-eq_default past (constant m false) (let k : length past ≤ j = omega arith in k))
          ∙ sym (pack_false m);
      scratch =
          λ j h.
          ⊎_elim
          (λ l.
          row_area_of most_parameters m past remainder j l ∙ row_scratch most_parameters m past remainder j h)
          (λ l.
          areas.row_past (area_of most_parameters m past remainder) j
          (omega (arith, length_area_of most_parameters m past remainder)))
          (less_or_not j (2 * (most_parameters + 1)));
    }

-- a record makes a past row for each parameter
next_long : (rule : List Node) (ws : List ℕ) (e : Entry) (stage : Stage)
    → length (known_next (parameters rule) rule ws e stage).past ≡ parameters rule
unfolding known_next feed known_in parameters
next_long rule ws e fresh = length_past_rows (parameters rule) rule [] e none (length rule)
next_long rule ws e (running last) =
    length_past_rows (parameters rule) rule
    (derived_rows (parameters rule) rule (past_in (parameters rule) ws) last (at e.time) (length rule)) e
    (at last.time) (length rule)
next_long rule ws e (closed v) = length_past_rows (parameters rule) rule [] e none (length rule)

now_long : (m : ℕ) (ws : List ℕ) (stage : Stage) → length (known_now m ws stage).past ≡ m
unfolding known_now known_in past_in
now_long m ws stage = length_tab m (form_at m ws)

-- after an accepted start, an accepted record, an accepted closing
pub start_clean : (rule signals ws : List ℕ) → start_refusal rule signals ws ≡ Ok tt
    → Clean (parameters_in rule) (start_of rule signals ws).1
unfolding start_of start_with parameters_in read_rule
start_clean rule signals ws e =
    subst (λ f. Clean (parameters_in rule) (start_with f rule signals ws).1) (sym e)
    (clean_area (parameters_in rule) [] (words.start (parameters_in rule) (read_rule rule)) (omega arith))

module _ (w : Watcher) where
  pub feed_clean : (bytes ws : List ℕ) → feed_refusal w bytes ws ≡ Ok tt
      → Clean (parameters_of w) (feed_of w bytes ws).1
  unfolding feed_of feed_with parameters_of
  feed_clean bytes ws e =
      let s : Known (parameters_of w)
      = known_next (parameters_of w) (rule_of w) ws (entry_of w.list w.signals bytes) (stage_of w.phase) in
      subst (λ f. Clean (parameters_of w) (feed_with f w bytes ws).1) (sym e)
      (clean_area (parameters_of w) s.past s.remainder
      (omega (arith, next_long (rule_of w) ws (entry_of w.list w.signals bytes) (stage_of w.phase))))

  pub close_clean : (ws : List ℕ) → close_refusal w ws ≡ Ok tt → Clean (parameters_of w) (close_of w ws).1
  unfolding close_of close_with
  close_clean ws e =
      let s : Known (parameters_of w) = known_now (parameters_of w) ws (stage_of w.phase) in
      subst (λ f. Clean (parameters_of w) (close_with f w ws).1) (sym e)
      (clean_area (parameters_of w) s.past (close (parameters_of w) (rule_of w) s)
      (omega (arith, now_long (parameters_of w) ws (stage_of w.phase))))

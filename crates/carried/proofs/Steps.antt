-- One call of an export on a written state: its code is that of the watcher's answer, and the next state is written.
-- Assumes nothing.
use Rattle.std.proofs.Common.{Ok, Err}
use mathlib.Core.Path.{◌≡◌, refl, sym, ap, ◌∙◌, subst}
use mathlib.Core.List.{List}
use Prim.Native.Nat.{ℕ}
use lib.ListN.{length}
use Rattle.ground.proofs.Tabs.{length_tab}
use Rattle.watcher.specs.declared.state.Watcher.{Watcher}
use Rattle.watcher.specs.Answers.{Found}
use Rattle.watcher.specs.Calls.{start_of, feed_refusal, feed_with, feed_of, ask_of, close_refusal, close_with, close_of}
use Rattle.watcher.specs.Calls.{wait_of}
use Rattle.watcher.specs.Machine.{MachineState}
use Rattle.port.specs.Layout.{state_bytes, byte_at, written}
use Rattle.port.specs.Codes.{found_code, told_of, told_at, answer_code, end_code, horizon_code}
use Rattle.port.specs.Exports.{started_bytes, start_bytes, refusal_bytes, kept_unless, told_bytes, fed_bytes}
use Rattle.port.specs.Exports.{feed_bytes, ask_bytes, ended_bytes, close_bytes, horizon_bytes}
use Rattle.port.proofs.ReadBack.{read_back}
use Rattle.port.proofs.Exported.{right_one}

pub length_written : (w : Watcher) → length (written w) ≡ state_bytes
unfolding written
length_written w = length_tab state_bytes (byte_at w)

-- a code, lent bytes and a work area are those of an outcome
pub record Carries (o : ℕ × List ℕ × List ℕ) (code : ℕ) (next : Watcher) (ws : List ℕ) : Type 0 where
  pub code_is : o.0 ≡ code
  pub bytes_are : o.1 ≡ written next
  pub area_is : o.2 ≡ ws

pub start_step : (rule signals bytes ws : List ℕ) → length bytes ≡ state_bytes
    → Carries (start_bytes rule signals bytes ws) (found_code (start_of rule signals ws).0.found)
    (start_of rule signals ws).0.next (start_of rule signals ws).1
unfolding start_bytes started_bytes
start_step rule signals bytes ws long =
    subst
    (λ o. Carries o (found_code (start_of rule signals ws).0.found) (start_of rule signals ws).0.next
    (start_of rule signals ws).1)
    (right_one bytes _ _ long) (record { code_is = refl; bytes_are = refl; area_is = refl })

-- what feeding and closing write, by what they find
fed_written : (f : Found) (w : Watcher) (piece ws : List ℕ)
    → (fed_bytes (feed_with f w piece ws) (written w)).1 ≡ written (feed_with f w piece ws).0.next
unfolding feed_with fed_bytes told_of told_bytes kept_unless
fed_written (Ok tt) w piece ws = refl
fed_written (Err r) w piece ws = refl

closed_written : (f : Found) (w : Watcher) (ws : List ℕ)
    → (ended_bytes (close_with f w ws) (written w)).1 ≡ written (close_with f w ws).0.next
unfolding close_with ended_bytes told_at told_bytes kept_unless
closed_written (Ok tt) w ws = refl
closed_written (Err r) w ws = refl

module _ (w : Watcher) (m : MachineState w) (ws : List ℕ) where
  pub refuse_step : (piece : List ℕ) → refusal_bytes (written w) piece ws ≡ found_code (feed_refusal w piece ws)
  unfolding refusal_bytes
  refuse_step piece =
      sym
      (ap (λ v. found_code (feed_refusal v piece ws)) (read_back w m) ∙ right_one (written w) _ _ (length_written w))

  pub feed_step : (piece : List ℕ)
      → Carries (feed_bytes (written w) piece ws) (answer_code (feed_of w piece ws).0.answer)
      (feed_of w piece ws).0.next (feed_of w piece ws).1
  unfolding feed_bytes fed_bytes told_bytes answer_code feed_of
  feed_step piece =
      subst
      (λ o. Carries o (answer_code (feed_of w piece ws).0.answer) (feed_of w piece ws).0.next (feed_of w piece ws).1)
      (ap (λ v. fed_bytes (feed_of v piece ws) (written w)) (read_back w m)
      ∙ right_one (written w) _ _ (length_written w))
      (record { code_is = refl; bytes_are = fed_written (feed_refusal w piece ws) w piece ws; area_is = refl })

  pub ask_step : ask_bytes (written w) ws ≡ end_code (ask_of w ws)
  unfolding ask_bytes
  ask_step =
      sym (ap (λ v. end_code (ask_of v ws)) (read_back w m) ∙ right_one (written w) _ _ (length_written w))

  pub close_step : Carries (close_bytes (written w) ws) (end_code (close_of w ws).0.answer) (close_of w ws).0.next
      (close_of w ws).1
  unfolding close_bytes ended_bytes told_bytes end_code close_of
  close_step =
      subst (λ o. Carries o (end_code (close_of w ws).0.answer) (close_of w ws).0.next (close_of w ws).1)
      (ap (λ v. ended_bytes (close_of v ws) (written w)) (read_back w m)
      ∙ right_one (written w) _ _ (length_written w))
      (record { code_is = refl; bytes_are = closed_written (close_refusal w ws) w ws; area_is = refl })

pub wait_step : (w : Watcher) → MachineState w → horizon_bytes (written w) ≡ horizon_code (wait_of w)
unfolding horizon_bytes
wait_step w m =
    sym
    (ap horizon_code (ap wait_of (read_back w m) ∙ right_one (written w) _ _ (length_written w)))

-- Start, feed and close leave the area's length, refused or not.
-- Assumes nothing.
use Rattle.std.proofs.Common.{Ok, Err}
use mathlib.Core.Path.{◌≡◌, refl, sym, ◌∙◌}
use mathlib.Core.List.{List}
use Prim.Native.Nat.{ℕ}
use lib.ListN.{length}
use Rattle.rewriting.proofs.Placed.{length_area_of}
use Rattle.watcher.specs.declared.state.Watcher.{Watcher}
use Rattle.watcher.specs.Answers.{Found}
use Rattle.watcher.specs.Limits.{most_parameters}
use Rattle.watcher.specs.Calls.{start_refusal, start_with, start_of, feed_refusal, feed_with, feed_of}
use Rattle.watcher.specs.Calls.{close_refusal, close_with, close_of}
use Rattle.watcher.proofs.Testing.{start_passed, feed_long, close_long}

pub start_length : (rule signals ws : List ℕ) → length (start_of rule signals ws).1 ≡ length ws
unfolding start_of start_with
start_length rule signals ws = go (start_refusal rule signals ws) refl
  where
    go : (f : Found) → f ≡ start_refusal rule signals ws → length (start_with f rule signals ws).1 ≡ length ws
    go (Err r) e = refl
    go (Ok tt) e = length_area_of most_parameters _ _ _ ∙ sym (start_passed rule signals ws (Ok tt) e refl).1

module _ (w : Watcher) where
  pub feed_length : (bytes ws : List ℕ) → length (feed_of w bytes ws).1 ≡ length ws
  unfolding feed_of feed_with
  feed_length bytes ws = go (feed_refusal w bytes ws) refl
    where
      go : (f : Found) → f ≡ feed_refusal w bytes ws → length (feed_with f w bytes ws).1 ≡ length ws
      go (Err r) e = refl
      go (Ok tt) e = length_area_of most_parameters _ _ _ ∙ sym (feed_long w ws bytes (sym e))

  pub close_length : (ws : List ℕ) → length (close_of w ws).1 ≡ length ws
  unfolding close_of close_with
  close_length ws = go (close_refusal w ws) refl
    where
      go : (f : Found) → f ≡ close_refusal w ws → length (close_with f w ws).1 ≡ length ws
      go (Err r) e = refl
      go (Ok tt) e = length_area_of most_parameters _ _ _ ∙ sym (close_long w ws (sym e))

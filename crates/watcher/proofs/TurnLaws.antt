-- What is handed in and passes 7 and 12 is ready for the rewriting.
-- Assumes nothing.
use Rattle.std.proofs.Common.{Ok}
use mathlib.Core.Path.{◌≡◌, refl, sym, ◌∙◌}
use mathlib.Core.Bool.{Bool, false}
use mathlib.Core.List.{List}
use Prim.Native.Nat.{ℕ, ◌≤◌, ◌<◌}
use native.Mathlib.Omega.{arith}
use lib.ListN.{length}
use Rattle.rewriting.specs.Known.{Tidy}
use Rattle.rewriting.specs.declared.step.Plan.{Plan}
use Rattle.rewriting.specs.Plans.{Sound}
use Rattle.rewriting.proofs.TidyRows.{tidy}
use Rattle.watcher.specs.declared.state.Watcher.{Watcher}
use Rattle.watcher.specs.Limits.{most_records, most_parameters, list_bytes}
use Rattle.watcher.specs.Rules.{records_of}
use Rattle.watcher.specs.Lists.{lists_refusal}
use Rattle.watcher.specs.State.{rule_of, parameters_of, start_refuses}
use Rattle.watcher.specs.inside.Turns.{plan_of, plan_in, Passed}
use Rattle.watcher.proofs.Decoded.{fine_tests, length_fine, accepted_few}
use Rattle.watcher.proofs.HeldLaws.{held_most, held_some, held_few}
use Rattle.watcher.proofs.Breaking.{sound, Unbroken, unbroken}
use Rattle.watcher.proofs.Turning.{tidy_as}

module _ (w : Watcher) (ws : List ℕ) (passed : Passed w ws) where
  fine : Unbroken w ws
  fine = unbroken w ws passed.whole

  pub passed_few : list_bytes ≡ length w.rule → parameters_of w ≤ most_parameters
  passed_few held = held_few w fine.lists (sym held)

  pub passed_most : w.records ≤ most_records
  passed_most = held_most w fine.lists

  pub passed_sound : list_bytes ≡ length w.rule → Sound w.rule (plan_of w)
  unfolding parameters_of rule_of
  passed_sound held = sound w (parameters_of w) (sym held) fine.lists refl

  pub passed_tidy : list_bytes ≡ length w.rule → Tidy most_parameters (parameters_of w) ws
  passed_tidy held =
      tidy most_parameters (parameters_of w) ws (passed_few held) passed.long passed.small fine.bits
      fine.unused

  -- the area is ready for the rewriting by its rule's plan
  pub passed_area : (plan : Plan) → plan ≡ plan_of w → list_bytes ≡ length w.rule → Tidy plan.places plan.m ws
  passed_area plan is held = tidy_as w ws plan is (passed_tidy held)

-- lists that are accepted
pub lists_most : (rule signals : List ℕ) → lists_refusal rule signals ≡ Ok tt → records_of rule ≤ most_records
lists_most rule signals e = (length_fine rule (fine_tests rule signals e).long).most

pub lists_sound : (rule signals : List ℕ) → lists_refusal rule signals ≡ Ok tt → Sound rule (plan_in rule)
lists_sound rule signals e =
    let a = fine_tests rule signals e in
    record {
      some = (length_fine rule a.long).some;
      most = omega (arith, lists_most rule signals e);
      own = refl;
      few = accepted_few rule signals a;
      room = omega arith;
    }

-- the horizon by whether start refuses
module _ (w : Watcher) (b : Bool) (is : b ≡ start_refuses w) where
  pub wait_some : b ≡ false → list_bytes ≡ length w.rule → (0 < w.records) × (w.records ≤ most_records)
  wait_some e held = (held_some w (sym is ∙ e) (sym held), held_most w (sym is ∙ e))

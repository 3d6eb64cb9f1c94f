-- What check 12 lets through has the shape that the rewriting gives past rows, so document 01's equations hold of it.
-- Assumes nothing.
use Prim.Native.Nat.{ℕ}
use native.Mathlib.Nat.{le_refl}
use Rattle.meaning.proofs.EveryRecord.{first_record, later_record, end}
use Rattle.rewriting.specs.Known.{form_at, known_in}
use Rattle.watcher.specs.Limits.{most_parameters}
use Rattle.watcher.specs.State.{rule_of, parameters_of}
use Rattle.watcher.specs.Calls.{known_next}
use Rattle.watcher.proofs.Breaking.{unbroken, running_shaped}
use Rattle.watcher.proofs.HeldLaws.{held_ordered}
use Rattle.demands.specs.Handed.{HandedIsWhole}

pub handed_is_whole : HandedIsWhole
unfolding known_next known_in parameters_of
handed_is_whole w ws machine fine =
    let passed = unbroken w ws fine in
    let ordered = held_ordered w passed.lists machine.long_rule in
    let m : ℕ = parameters_of w in
    record {
      first = λ s e. first_record (rule_of w) ordered m (le_refl m) (form_at m ws most_parameters) e;
      later =
          λ last s e.
          later_record (rule_of w) ordered m (le_refl m) (known_in most_parameters m ws last)
          (running_shaped w ws passed last s) e;
      end =
          λ last s.
          end (rule_of w) ordered m (le_refl m) (known_in most_parameters m ws last)
          (running_shaped w ws passed last s);
    }

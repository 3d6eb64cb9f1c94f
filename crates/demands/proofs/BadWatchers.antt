-- No functions of which the demands hold, and for asking what is promised of it, are one of the bad watchers: examples
-- 2, 3 and 4 show it.
-- Assumes nothing.
use Rattle.std.proofs.Common.{Ok}
use mathlib.Core.Path.{◌≡◌, refl, sym, ap, ◌∙◌, subst}
use mathlib.Core.Bool.{Bool, true, false, not}
use mathlib.Core.List.{List, [], ◌∷◌}
use Prim.Native.Nat.{ℕ, ◌^◌, ◌<◌}
use native.Mathlib.Omega.{arith}
use lib.ListN.{get_or}
use Rattle.meaning.specs.Meaning.{value_of}
use Rattle.meaning.specs.Words.{kept, pending, broken, word_of}
use Rattle.watcher.specs.declared.state.Word.TheVariants as word
use Rattle.watcher.specs.Answers.{Found, End}
use Rattle.watcher.specs.declared.state.Started.{Started}
use Rattle.watcher.specs.Rules.{records_of}
use Rattle.watcher.specs.Records.{entry_of}
use Rattle.watcher.specs.Numbers.{saying, verdict_for, Says, found_at, decided}
use Rattle.watcher.specs.Calls.{start_with}
use Rattle.watcher.specs.Runs.{Held}
use Rattle.watcher.proofs.Reports.{says_fine}
use Rattle.demands.specs.Watching.{Functions, Call, feeding, closing, told, asked, handed, handed_on, reached}
use Rattle.demands.specs.Watching.{MachineCall, MachineCalls, Begun}
use Rattle.demands.specs.Logs.{log_with, further_by, course_of}
use Rattle.demands.specs.Rewritten.{read_rule, held_in}
use Rattle.demands.specs.Demands.{Demands, Decides}
use Rattle.demands.specs.Asking.{Asking}
use Rattle.demands.specs.Tables.{Carries}
use Rattle.demands.specs.Examples.{vents}
use Rattle.demands.specs.BadWatchers.{RefusesStarts, RefusesRecords, RefusesClosing, StartsUntouched}
use Rattle.demands.specs.BadWatchers.{FeedsUntouched, ClosesUntouched, NeverSaysBroken, NeverEndsBroken}
use Rattle.demands.specs.BadWatchers.{AsksByWord, OnlyNods}
use Rattle.demands.proofs.ExampleTwo.{area, area_first, rule, one, two, rule_bytes, signal_bytes, area_words_lem}
use Rattle.demands.proofs.ExampleTwo.{one_bytes, two_bytes, none_holds, log_one, takes_one, word_one, course_one}
use Rattle.demands.proofs.ExampleTwo.{three, three_bytes, value_one, takes_second, word_second, course_second}
use Rattle.demands.proofs.ExampleTwo.{value_second, second_run, third_run, course_closed, tells, tells_one}
use Rattle.demands.proofs.ExampleTwo.{tells_two, tells_closed}

-- what carries a number is no acceptance
carries_not : (f : Found) (n : ℕ) → f ≡ Ok tt → Carries f n → ⊥
unfolding Carries
carries_not f n e c = subst (λ x. Carries x n) e c

apart : word.Broken ≡ word.Pending → ⊥
apart e = let z : ◌≡◌ {A = ℕ} 0 1 = cc in omega arith

decided_not : (b : Bool) → saying (word_of b) ≡ word.Pending → ⊥
unfolding saying word_of
decided_not true e = let z : ◌≡◌ {A = ℕ} 0 1 = cc in omega arith
decided_not false e = let z : ◌≡◌ {A = ℕ} 0 1 = cc in omega arith

small : (x : ℕ) → x < 2 → x < 2 ^ 64
small x h = omega arith

-- the calls of example 2
abbrev calls : List Call
calls = feeding one ∷ []

called : MachineCalls calls
unfolding MachineCalls MachineCall
called = (one_bytes, tt)

called_two : MachineCalls (feeding one ∷ feeding two ∷ [])
unfolding MachineCalls MachineCall
called_two = (one_bytes, (two_bytes, tt))

called_closed : MachineCalls (feeding one ∷ closing ∷ [])
unfolding MachineCalls MachineCall
called_closed = (one_bytes, (tt, tt))

module _ (f : Functions) (d : Demands f) where
  start_fine : (x : ℕ) → x < 2 → (f.start rule vents (area x)).0.found ≡ Ok tt
  start_fine x h =
      (d.first.start rule vents (area x) rule_bytes signal_bytes (area_words_lem x (small x h))).fine.1 (none_holds x)

  begun : Begun f rule vents (area 0)
  begun =
      record {
        rule_bytes = rule_bytes;
        signal_bytes = signal_bytes;
        words = area_words_lem 0 (small 0 (omega arith));
        fine = start_fine 0 (omega arith);
      }

  -- what is held after calls
  abbrev held : List Call → Held
  held = reached f rule vents (area 0)

  held_is : (calls : List Call) → MachineCalls calls → held calls ≡ held_in rule vents (course_of vents calls)
  held_is = d.second.state rule vents (area 0) begun

  says : Says (told f (held calls) two) word.Broken
  unfolding saying
  says =
      subst (Says (told f (held calls) two)) (word_second two broken broken (second_run 0))
      (d.second.word rule vents (area 0) begun calls called log_one course_one two two_bytes
      (takes_second two broken broken (second_run 0)))

  decides : Decides f rule vents (area 0) calls two false
  unfolding decided
  decides = record { begun = begun; called = called; fed = two_bytes; says = says }

  -- one that refuses everything: example 2 is started, fed and closed
  pub some_start : RefusesStarts f → ⊥
  some_start all =
      let r = all rule vents (area 0) rule_bytes signal_bytes (area_words_lem 0 (small 0 (omega arith))) in
      carries_not _ r.0 (start_fine 0 (omega arith)) r.1

  pub some_record : RefusesRecords f → ⊥
  some_record all =
      let r = all rule vents (area 0) begun calls called two two_bytes in
      carries_not _ r.0 (says_fine _ word.Broken says) r.1

  pub some_closing : RefusesClosing f → ⊥
  unfolding found_at
  some_closing all =
      let r = all rule vents (area 0) begun calls called in
      carries_not _ r.0
      (ap found_at
      (d.second.reports rule vents (area 0) begun calls called (entry_of vents (records_of vents) one) [] course_one))
      r.1

  -- one that says pending or kept always: example 2 gets broken at its second record, and at closing
  pub says_broken : NeverSaysBroken f → ⊥
  says_broken never = never rule vents (area 0) begun calls called two two_bytes says

  pub ends_broken : NeverEndsBroken f → ⊥
  unfolding verdict_for MachineCalls
  ends_broken never =
      never rule vents (area 0) begun (feeding one ∷ feeding two ∷ []) called_two
      (d.third.agrees rule vents (area 0) calls two false decides [] tt (log_with vents log_one two)
      (course_second two broken broken (second_run 0)))

  -- one that asks by the word alone: example 4 is pending and broken if it ends, example 3 pending and kept
  asked_not : (a : End) (v b : Bool) → word_of v ≡ word_of (not b) → a ≡ Ok (verdict_for v)
      → a ≡ Ok (verdict_for b)
      → ⊥
  unfolding word_of verdict_for
  asked_not a true true w e g = let z : ◌≡◌ {A = ℕ} 0 1 = cc in omega arith
  asked_not a true false w e g = let z : ◌≡◌ {A = ℕ} 0 1 = cc in omega arith
  asked_not a false true w e g = let z : ◌≡◌ {A = ℕ} 0 1 = cc in omega arith
  asked_not a false false w e g = let z : ◌≡◌ {A = ℕ} 0 1 = cc in omega arith

  pub not_by_word : Asking f → (b : Bool) → AsksByWord f b → ⊥
  unfolding MachineCalls MachineCall further_by log_with saying word_of
  not_by_word a true all =
      asked_not (asked f (held calls)) (value_of log_one (read_rule rule)) true value_one
      (a.reports rule vents (area 0) begun calls called (entry_of vents (records_of vents) one) [] course_one)
      (all rule vents (area 0) begun [] tt one one_bytes
      (subst (Says (told f (held []) one)) word_one
      (d.second.word rule vents (area 0) begun [] tt [] refl one one_bytes takes_one)))
  not_by_word a false all =
      asked_not (asked f (held (feeding one ∷ feeding three ∷ [])))
      (value_of (log_with vents log_one three) (read_rule rule)) false (value_second three pending kept third_run)
      (a.reports rule vents (area 0) begun (feeding one ∷ feeding three ∷ []) (one_bytes, (three_bytes, tt))
      (entry_of vents (records_of vents) one) (entry_of vents (records_of vents) three ∷ [])
      (course_second three pending kept third_run))
      (all rule vents (area 0) begun calls called three three_bytes
      (subst (Says (told f (held calls) three)) (word_second three pending kept third_run)
      (d.second.word rule vents (area 0) begun calls called log_one course_one three three_bytes
      (takes_second three pending kept third_run))))

  -- one that never touches the area: two areas start alike
  pub touches_start : StartsUntouched f → ⊥
  unfolding start_with
  touches_start never =
      let same : area 1 ≡ area 0 = begins 1 (omega arith) ∙ sym (begins 0 (omega arith)) in
      let z : ◌≡◌ {A = ℕ} 1 0 = sym (area_first 1) ∙ ap (λ (ws : List ℕ). get_or ws 0 0) same ∙ area_first 0 in
      omega arith
    where
      begins : (x : ℕ) → x < 2 → area x ≡ (start_with (Ok tt) rule vents []).1
      begins x h =
          sym (never rule vents (area x) rule_bytes signal_bytes (area_words_lem x (small x h)))
          ∙ ap (λ (o : Started × List ℕ). o.1)
          (d.second.calls.start rule vents (area x) rule_bytes signal_bytes (area_words_lem x (small x h))
          (none_holds x))

  -- the second record of example 2 changes the area
  tells_before : tells (held calls).area ≡ word.Pending
  unfolding held_in
  tells_before =
      ap (λ (h : Held). tells h.area) (held_is calls called ∙ ap (held_in rule vents) course_one) ∙ tells_one

  touched : (handed f (held calls) (feeding two)).area ≡ (held calls).area → ⊥
  unfolding reached handed_on held_in
  touched same =
      apart
      (sym
      (ap (λ (h : Held). tells h.area)
      (held_is (feeding one ∷ feeding two ∷ []) called_two
      ∙ ap (held_in rule vents) (course_second two broken broken (second_run 0)))
      ∙ tells_two)
      ∙ ap tells same ∙ tells_before)

  pub touches_feed : FeedsUntouched f → ⊥
  touches_feed never = touched (never rule vents (area 0) begun calls called two two_bytes)

  -- one that rewrites at the first record and afterwards only nods
  pub not_only_nods : OnlyNods f → ⊥
  not_only_nods nods =
      touched
      (nods rule vents (area 0) begun calls called (entry_of vents (records_of vents) one) [] course_one two two_bytes)

  -- closing after the first record changes the area too
  pub touches_close : ClosesUntouched f → ⊥
  unfolding reached handed_on held_in
  touches_close never =
      decided_not tells_closed.0
      (sym
      (ap (λ (h : Held). tells h.area)
      (held_is (feeding one ∷ closing ∷ []) called_closed ∙ ap (held_in rule vents) course_closed)
      ∙ tells_closed.1)
      ∙ ap tells (never rule vents (area 0) begun calls called) ∙ tells_before)

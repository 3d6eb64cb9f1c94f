-- Examples 2, 3 and 4 as runs: their records are accepted, and what the rewriting gives for them. The first record is
-- the same in all, and alone it is example 4.
-- Assumes nothing.
use Rattle.std.proofs.Common.{Ok}
use mathlib.Core.Path.{◌≡◌, refl, sym, ap, ◌∙◌, subst}
use mathlib.Core.Bool.{Bool, true, and-eq-true_iff}
use mathlib.Core.Logic.{⊎_elim}
use mathlib.Core.List.{List, [], ◌∷◌}
use Prim.Native.Nat.{ℕ, zero, suc, ◌^◌, ◌≤◌, ◌<◌}
use native.Mathlib.Omega.{arith}
use lib.Dec.{ltb, lit<}
use lib.ListN.{length, get_or, replicate, length-replicate, get_or-replicate, get_or-eq_default}
use borrow.Author.Tests.{ltb-true}
use Rattle.ground.proofs.Folds.{less_or_not}
use Rattle.forms.specs.Form.{constant}
use Rattle.meaning.specs.Rule.{Entry}
use Rattle.meaning.specs.Meaning.{value_of}
use Rattle.meaning.specs.Words.{Known, Word, kept, pending, broken, after, word, word_of}
use Rattle.meaning.proofs.Theorems.{word_constant}
use Rattle.rewriting.specs.Known.{words_for, form_at}
use Rattle.rewriting.proofs.Placed.{read_remainder}
use Rattle.watcher.specs.declared.state.Word as said
use Rattle.watcher.specs.declared.state.Word.TheVariants as told
use Rattle.watcher.specs.Limits.{most_parameters, area_words}
use Rattle.watcher.specs.Rules.{records_of}
use Rattle.watcher.specs.Records.{entry_of}
use Rattle.watcher.specs.Numbers.{saying, Says}
use Rattle.watcher.specs.Calls.{start_refusal}
use Rattle.watcher.specs.Machine.{MachineBytes, MachineWords}
use Rattle.watcher.proofs.Decoded.{Accepted}
use Rattle.watcher.proofs.Numbers.{verdict_says}
use Rattle.demands.specs.Watching.{defined, Call, feeding, closing, told, ending, handed_on, reached}
use Rattle.demands.specs.Logs.{accepts, log_with, going, over, further, further_by, course_of, log_in}
use Rattle.demands.specs.Rewritten.{read_rule, parameters_in, held_known, held_after, held_closed, held_in, word_after}
use Rattle.demands.specs.Tables.{start_table, NoneHolds}
use Rattle.demands.specs.Examples.{table, Answers, rule_a, vents, at, EndsWith, Run, all_in}
use Rattle.demands.proofs.OwnStates.{start_accepted, few_parameters}
use Rattle.demands.proofs.Logs.{Right, right_none, right_taken, further_parts}
use Rattle.demands.proofs.Courses.{close_some, run_state}
use Rattle.demands.proofs.Following.{start_found}
use Rattle.demands.proofs.Demanded.{start_tabled}
use Rattle.demands.proofs.Deciding.{Told, word_told, going_with, course_right}
use Rattle.demands.proofs.Answered.{table_answered}

-- bytes that are all small
small_bytes : (bytes : List ℕ) → all_in (λ b. ltb b 256) bytes ≡ true → (i : ℕ) → get_or bytes i 0 < 256
small_bytes [] e i = lit< tt
small_bytes (b ∷ bytes) e zero = ltb-true b 256 ((and-eq-true_iff (ltb b 256) _).0 e).0
small_bytes (b ∷ bytes) e (suc i) = small_bytes bytes ((and-eq-true_iff (ltb b 256) _).0 e).1 i

bytes_of : (bytes : List ℕ) → all_in (λ b. ltb b 256) bytes ≡ true → length bytes < 2 ^ 63 → MachineBytes bytes
bytes_of bytes e h = record { small = small_bytes bytes e; few = h }

-- an area of 1,664 words, all alike
unfoldable pub area : ℕ → List ℕ
area x = replicate area_words x

area_long : (x : ℕ) → length (area x) ≡ area_words
unfolding area
area_long x = length-replicate area_words x

pub area_first : (x : ℕ) → get_or (area x) 0 0 ≡ x
unfolding area words_for
area_first x = get_or-replicate area_words 0 x 0 (lit< tt)

area_small : (x : ℕ) → x < 2 ^ 64 → (i : ℕ) → get_or (area x) i 0 < 2 ^ 64
unfolding area
area_small x h i =
    ⊎_elim (λ l. subst (λ w. w < 2 ^ 64) (sym (get_or-replicate area_words i x 0 l)) h)
    (λ l.
    subst (λ w. w < 2 ^ 64)
    (sym
    (get_or-eq_default (area x) 0 (let k : length (area x) ≤ i = omega (arith, area_long x) in k)))
    (omega arith)) (less_or_not i area_words)

-- rule A and the records, as a machine has them
abbrev pub rule : List ℕ
rule = rule_a 2

abbrev pub one : List ℕ
one = at 0 1 0

abbrev pub two : List ℕ
two = at 3 0 1

abbrev pub three : List ℕ
three = at 2 0 1

pub rule_bytes : MachineBytes rule
rule_bytes = bytes_of rule refl (omega arith)

pub signal_bytes : MachineBytes vents
signal_bytes = bytes_of vents refl (omega arith)

pub area_words_lem : (x : ℕ) → x < 2 ^ 64 → MachineWords (area x)
unfolding words_for
area_words_lem x h = record { small = area_small x h; few = omega (arith, area_long x) }

pub one_bytes : MachineBytes one
one_bytes = bytes_of one refl (omega arith)

pub two_bytes : MachineBytes two
two_bytes = bytes_of two refl (omega arith)

pub three_bytes : MachineBytes three
three_bytes = bytes_of three refl (omega arith)

-- the run of example 2, by the definitions
pub second_run : (x : ℕ) → Run rule vents (one ∷ two ∷ []) (pending ∷ broken ∷ []) broken (area x)
unfolding table Answers
second_run x = table_answered.1.0 (area x) (area_long x)

pub none_holds : (x : ℕ) → NoneHolds (start_table rule vents (area x))
none_holds x =
    (start_tabled rule vents (area x)).fine.0 (sym (start_found rule vents (area x)) ∙ (second_run x).starts)

start : start_refusal rule vents (area 0) ≡ Ok tt
start = sym (start_found rule vents (area 0)) ∙ (second_run 0).starts

fine : Accepted rule vents
fine = (start_accepted rule vents (area 0) start).0

-- the first record is accepted, and its word is pending
abbrev pub log_one : List Entry
log_one = entry_of vents (records_of vents) one ∷ []

told_one : Told rule vents (going []) one told.Pending
unfolding held_in log_in further_by saying
told_one =
    word_told rule vents fine (going []) (right_none vents) one told.Pending
    (subst (λ h. Says (told defined h one) told.Pending) (run_state rule vents (area 0) start [])
    (second_run 0).told.0)

log_one_lem : going [] ≡ going told_one.log → told_one.log ≡ []
log_one_lem e = cc

pub takes_one : accepts [] one ≡ true
takes_one = subst (λ log. accepts log one ≡ true) (log_one_lem told_one.goes) told_one.takes

pub word_one : saying (word_after rule log_one) ≡ told.Pending
unfolding log_with
word_one =
    subst (λ log. saying (word_after rule (log_with vents log one)) ≡ told.Pending) (log_one_lem told_one.goes)
    told_one.word

pub course_one : course_of vents (feeding one ∷ []) ≡ going log_one
unfolding further_by log_with
course_one = going_with vents [] [] one [] refl takes_one

-- what a run of calls that are accepted ends with is the value of their records
ends_value : (calls : List Call) (e : Entry) (es : List Entry) → course_of vents calls ≡ going (e ∷ es)
    → (last : Word) → EndsWith (ending defined (reached defined rule vents (area 0) calls)) last
    → word_of (value_of (e ∷ es) (read_rule rule)) ≡ last
unfolding held_in log_in EndsWith
ends_value calls e es c last ends =
    ap word_of (sym (verdict_says (value_of (e ∷ es) (read_rule rule))))
    ∙ subst (λ a. EndsWith a last)
    (ap (ending defined) (run_state rule vents (area 0) start calls ∙ ap (held_in rule vents) c)
    ∙ (close_some rule vents fine e es
    (subst (λ x. Right vents (log_in x)) c (course_right rule vents fine calls))).0) ends

-- were the first record the last, the rule would be broken: example 4
pub value_one : word_of (value_of log_one (read_rule rule)) ≡ broken
unfolding table Answers
value_one =
    ends_value (feeding one ∷ []) (entry_of vents (records_of vents) one) [] course_one broken
    (table_answered.1.1.1.0 (area 0) (area_long 0)).ends

-- a second record that gets a word: it is accepted, and what closing says behind it is the value
module _ (second : List ℕ) (w last : Word)
    (run : Run rule vents (one ∷ second ∷ []) (pending ∷ w ∷ []) last (area 0)) where
  says_second : Says (told defined (held_after rule vents log_one) second) (saying w)
  unfolding held_in reached handed_on
  says_second =
      subst (λ h. Says (told defined h second) (saying w))
      (run_state rule vents (area 0) start (feeding one ∷ []) ∙ ap (held_in rule vents) course_one)
      run.told.1.0

  told_second : Told rule vents (going log_one) second (saying w)
  unfolding held_in log_in log_with
  told_second =
      word_told rule vents fine (going log_one) (right_taken vents [] one (right_none vents) takes_one) second
      (saying w) says_second

  log_second : going log_one ≡ going told_second.log → told_second.log ≡ log_one
  log_second e = cc

  pub takes_second : accepts log_one second ≡ true
  takes_second = subst (λ log. accepts log second ≡ true) (log_second told_second.goes) told_second.takes

  pub word_second : saying (word_after rule (log_with vents log_one second)) ≡ saying w
  word_second =
      subst (λ log. saying (word_after rule (log_with vents log second)) ≡ saying w) (log_second told_second.goes)
      told_second.word

  pub course_second : course_of vents (feeding one ∷ feeding second ∷ []) ≡ going (log_with vents log_one second)
  unfolding further_by
  course_second = going_with vents (feeding one ∷ []) log_one second [] course_one takes_second

  pub value_second : word_of (value_of (log_with vents log_one second) (read_rule rule)) ≡ last
  unfolding log_with
  value_second =
      ends_value (feeding one ∷ feeding second ∷ []) (entry_of vents (records_of vents) one)
      (entry_of vents (records_of vents) second ∷ []) course_second last run.ends

-- the run of example 3: a second record that comes in time
pub third_run : Run rule vents (one ∷ three ∷ []) (pending ∷ pending ∷ []) kept (area 0)
unfolding table Answers
third_run = table_answered.1.1.0 (area 0) (area_long 0)

-- closing after the first record
pub course_closed :
    course_of vents (feeding one ∷ closing ∷ []) ≡ over (entry_of vents (records_of vents) one) []
unfolding further_by further
course_closed =
    further_parts vents (going []) (feeding one ∷ []) (closing ∷ [])
    ∙ ap (λ c. further vents c closing) course_one

-- the word of the remainder in an area
abbrev pub tells : List ℕ → said.Word
tells ws = saying (word (parameters_in rule) (form_at (parameters_in rule) ws most_parameters))

tells_after : (e : Entry) (es : List Entry)
    → tells (held_after rule vents (e ∷ es)).area ≡ saying (word_after rule (e ∷ es))
unfolding held_after held_known word_after
tells_after e es =
    let s : Known (parameters_in rule) = after (parameters_in rule) (read_rule rule) e es in
    ap (λ f. saying (word (parameters_in rule) f))
    (read_remainder most_parameters (parameters_in rule) s.past s.remainder (few_parameters rule vents fine))

pub tells_one : tells (held_after rule vents log_one).area ≡ told.Pending
tells_one = tells_after (entry_of vents (records_of vents) one) [] ∙ word_one

pub tells_two : tells (held_after rule vents (log_with vents log_one two)).area ≡ told.Broken
unfolding log_with saying
tells_two =
    tells_after (entry_of vents (records_of vents) one) (entry_of vents (records_of vents) two ∷ [])
    ∙ word_second two broken broken (second_run 0)

pub tells_closed : (b : Bool)
    × (tells (held_closed rule vents (entry_of vents (records_of vents) one) []).area ≡ saying (word_of b))
unfolding held_closed
tells_closed =
    let m : ℕ = parameters_in rule in
    let e : Entry = entry_of vents (records_of vents) one in
    let s : Known m = after m (read_rule rule) e [] in
    let b : Bool = value_of (e ∷ []) (read_rule rule) in (
      b,
      ap (λ f. saying (word m f))
          (read_remainder most_parameters m s.past (constant m b) (few_parameters rule vents fine))
          ∙ ap saying (word_constant m b),
    )

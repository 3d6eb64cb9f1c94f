-- What the calls answer: what they were asked for, or the refusal.
use Rattle.std.specs.Prelude.{Result, ⊤}
use Rattle.watcher.specs.declared.state.Refusal.{Refusal}
use Rattle.watcher.specs.declared.state.Report.{Report}
use Rattle.watcher.specs.declared.state.Verdict.{Verdict}

-- what a check finds: nothing, or what is refused
abbrev pub Found : Type 0
Found = Result ⊤ Refusal

-- the answer to a record: its report
abbrev pub Answer : Type 0
Answer = Result Report Refusal

-- the answer to asking and to closing: how the log ends here
abbrev pub End : Type 0
End = Result Verdict Refusal

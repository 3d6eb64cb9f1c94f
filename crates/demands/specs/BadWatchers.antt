-- Watchers that must be caught (document 01, "What each statement has to settle"; one more by R-8): each by what it
-- does
-- at every start that a machine can make, or in every run.
use Rattle.std.specs.Prelude.{◌≡◌, Bool, List, [], ◌∷◌, ◌++◌, ℕ, Ok}
use Rattle.meaning.specs.Rule.{Entry}
use Rattle.watcher.specs.declared.state.Word.TheVariants as word
use Rattle.watcher.specs.declared.state.Verdict.TheVariants as verdict
use Rattle.watcher.specs.Machine.{MachineBytes, MachineWords}
use Rattle.watcher.specs.Numbers.{Says, found_in, found_at, verdict_for}
use Rattle.demands.specs.Watching.{Functions, Call, feeding, closing, told, asked, ending, handed, reached}
use Rattle.demands.specs.Watching.{MachineCalls, Begun}
use Rattle.demands.specs.Logs.{going, course_of}
use Rattle.demands.specs.Tables.{Carries}

-- one that refuses everything: every start, every record, every closing
abbrev pub RefusesStarts : Functions → Type 0
RefusesStarts f =
    (rule signals ws : List ℕ) → MachineBytes rule → MachineBytes signals → MachineWords ws
    → (n : ℕ) × Carries (f.start rule signals ws).0.found n

abbrev pub RefusesRecords : Functions → Type 0
RefusesRecords f =
    (rule signals ws : List ℕ) → Begun f rule signals ws → (calls : List Call) → MachineCalls calls → (bytes : List ℕ)
    → MachineBytes bytes → (n : ℕ) × Carries (found_in (told f (reached f rule signals ws calls) bytes)) n

abbrev pub RefusesClosing : Functions → Type 0
RefusesClosing f =
    (rule signals ws : List ℕ) → Begun f rule signals ws → (calls : List Call) → MachineCalls calls
    → (n : ℕ) × Carries (found_at (ending f (reached f rule signals ws calls))) n

-- one that never touches the area: at no start, no record, no closing
abbrev pub StartsUntouched : Functions → Type 0
StartsUntouched f =
    (rule signals ws : List ℕ) → MachineBytes rule → MachineBytes signals → MachineWords ws
    → (f.start rule signals ws).1 ≡ ws

abbrev pub FeedsUntouched : Functions → Type 0
FeedsUntouched f =
    (rule signals ws : List ℕ) → Begun f rule signals ws → (calls : List Call) → MachineCalls calls → (bytes : List ℕ)
    → MachineBytes bytes
    → (handed f (reached f rule signals ws calls) (feeding bytes)).area ≡ (reached f rule signals ws calls).area

abbrev pub ClosesUntouched : Functions → Type 0
ClosesUntouched f =
    (rule signals ws : List ℕ) → Begun f rule signals ws → (calls : List Call) → MachineCalls calls
    → (handed f (reached f rule signals ws calls) closing).area ≡ (reached f rule signals ws calls).area

-- one that says pending or kept always: no record gets the word broken, no closing the verdict broken
abbrev pub NeverSaysBroken : Functions → Type 0
NeverSaysBroken f =
    (rule signals ws : List ℕ) → Begun f rule signals ws → (calls : List Call) → MachineCalls calls → (bytes : List ℕ)
    → MachineBytes bytes → Says (told f (reached f rule signals ws calls) bytes) word.Broken → ⊥

abbrev pub NeverEndsBroken : Functions → Type 0
NeverEndsBroken f =
    (rule signals ws : List ℕ) → Begun f rule signals ws → (calls : List Call) → MachineCalls calls
    → ending f (reached f rule signals ws calls) ≡ Ok verdict.Broken → ⊥

-- R-8: one that asks by the word alone: behind the word pending it always gives the same verdict, whichever it is
abbrev pub AsksByWord : Functions → Bool → Type 0
AsksByWord f b =
    (rule signals ws : List ℕ) → Begun f rule signals ws → (calls : List Call) → MachineCalls calls → (bytes : List ℕ)
    → MachineBytes bytes → Says (told f (reached f rule signals ws calls) bytes) word.Pending
    → asked f (reached f rule signals ws (calls ++ (feeding bytes ∷ []))) ≡ Ok (verdict_for b)

-- one that rewrites at the first record and afterwards only nods: later records leave the area
abbrev pub OnlyNods : Functions → Type 0
OnlyNods f =
    (rule signals ws : List ℕ) → Begun f rule signals ws → (calls : List Call) → MachineCalls calls
    → (e : Entry) (es : List Entry) → course_of signals calls ≡ going (e ∷ es) → (bytes : List ℕ) → MachineBytes bytes
    → (handed f (reached f rule signals ws calls) (feeding bytes)).area ≡ (reached f rule signals ws calls).area

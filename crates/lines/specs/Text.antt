-- The lines that the programs print (document 01, "The watching program"), as ASCII bytes.
use Rattle.std.specs.Prelude.{Bool, true, false, cond, List, [], ◌∷◌, ◌++◌, ℕ, zero, suc, ◌+◌, ◌/◌, ◌%◌, ltb, Ok, Err}
use Rattle.ground.specs.Fold.{some}
use Rattle.watcher.specs.declared.state.Word.{Word}
use Rattle.watcher.specs.declared.state.Word.TheVariants as word
use Rattle.watcher.specs.declared.state.Verdict.{Verdict}
use Rattle.watcher.specs.declared.state.Refusal.{Refusal}
use Rattle.watcher.specs.Answers.{Found, Answer, End}
use Rattle.watcher.specs.Numbers.{verdict_value, refusal_number, decided}

-- the last digits of a number, as many as it has and no more than so many: the last stands last
unfoldable pub digits : (most n : ℕ) → List ℕ
digits zero n = []
digits (suc k) n = cond (ltb n 10) ((48 + n) ∷ []) (digits k (n / 10) ++ ((48 + n % 10) ∷ []))

-- a number in decimal digits; n + 1 of them are always enough
unfoldable pub decimal : ℕ → List ℕ
decimal n = digits (n + 1) n

-- a number that is listed, behind a comma where a lower one is
unfoldable pub listed_text : (here lower : Bool) → ℕ → List ℕ
listed_text false lower k = []
listed_text true false k = decimal k
listed_text true true k = (44 ∷ []) ++ decimal k

-- the numbers below n that pass a test, rising
unfoldable pub numbers_text : (test : ℕ → Bool) → ℕ → List ℕ
numbers_text test zero = []
numbers_text test (suc k) = numbers_text test k ++ listed_text (test k) (some k test) k

-- "kept", "broken", "pending"
unfoldable pub word_text : Word → List ℕ
word_text word.Kept = 107 ∷ 101 ∷ 112 ∷ 116 ∷ []
word_text word.Broken = 98 ∷ 114 ∷ 111 ∷ 107 ∷ 101 ∷ 110 ∷ []
word_text word.Pending = 112 ∷ 101 ∷ 110 ∷ 100 ∷ 105 ∷ 110 ∷ 103 ∷ []

-- a verdict, worded as the word that is decided so
unfoldable pub verdict_text : Verdict → List ℕ
verdict_text v = word_text (decided (verdict_value v))

-- a space, and the end of a line
abbrev pub space : ℕ
space = 32

abbrev pub newline : ℕ
newline = 10

-- "refused", a space and the number
unfoldable pub refused_line : Refusal → List ℕ
refused_line r =
    (114 ∷ 101 ∷ 102 ∷ 117 ∷ 115 ∷ 101 ∷ 100 ∷ space ∷ []) ++ (decimal (refusal_number r) ++ (newline ∷ []))

-- a refused start prints one such line, and an accepted one nothing
unfoldable pub found_line : Found → List ℕ
found_line (Ok tt) = []
found_line (Err r) = refused_line r

-- a record's time, a space, the word and what stands behind it; or its refusal
unfoldable pub told_line : (time : ℕ) → Word → (behind : List ℕ) → List ℕ
told_line time w behind = decimal time ++ ((space ∷ []) ++ (word_text w ++ (behind ++ (newline ∷ []))))

unfoldable pub answer_line : (time : ℕ) (behind : List ℕ) → Answer → List ℕ
answer_line time behind (Ok report) = told_line time report.word behind
answer_line time behind (Err r) = refused_line r

-- behind a word: a space, "ask", a space and the verdict; nothing where asking is refused
unfoldable pub ask_text : End → List ℕ
ask_text (Ok v) = (space ∷ 97 ∷ 115 ∷ 107 ∷ space ∷ []) ++ verdict_text v
ask_text (Err r) = []

-- "end", a space and the verdict; or the refusal
unfoldable pub end_text : End → List ℕ
end_text (Ok v) = verdict_text v ++ (newline ∷ [])
end_text (Err r) = refused_line r

unfoldable pub end_line : End → List ℕ
end_line e = (101 ∷ 110 ∷ 100 ∷ space ∷ []) ++ end_text e

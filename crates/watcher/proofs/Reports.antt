-- What an answer says, and what an accepted record is told, field by field.
-- Assumes nothing.
use Rattle.std.proofs.Common.{Ok, Err}
use mathlib.Core.Path.{◌≡◌, refl, sym, ap, ◌∙◌, subst}
use mathlib.Core.List.{List}
use Prim.Native.Nat.{ℕ, ◌≤◌}
use native.Mathlib.Omega.{arith}
use Rattle.forms.specs.Rows.{OfForm}
use Rattle.forms.specs.Area.{row_at}
use Rattle.meaning.specs.Words.{Known, word}
use Rattle.rewriting.specs.Known.{area_of}
use Rattle.rewriting.proofs.Placed.{row_area_of, row_remainder}
use Rattle.watcher.specs.declared.state.Word.{Word}
use Rattle.watcher.specs.declared.state.Refusal.{Refusal}
use Rattle.watcher.specs.declared.state.Report.{Report}
use Rattle.watcher.specs.Answers.{Answer}
use Rattle.watcher.specs.Limits.{most_parameters}
use Rattle.watcher.specs.Numbers.{saying, Says, found_in}
use Rattle.watcher.specs.Calls.{report_of}

-- an accepted record says the word of its report
pub word_says : (report : Report) (w : Word) → report.word ≡ w → Says (Ok report) w
unfolding Says
word_says report w e = e

pub says_word : (report : Report) (w : Word) → Says (Ok report) w → report.word ≡ w
unfolding Says
says_word report w s = s

-- an answer says one word, what says a word is no refusal, and a refusal says none
pub says_one : (a : Answer) (v w : Word) → Says a v → Says a w → v ≡ w
unfolding Says
says_one (Ok report) v w p q = sym p ∙ q
says_one (Err r) v w p q = absurd p

pub says_fine : (a : Answer) (w : Word) → Says a w → found_in a ≡ Ok tt
unfolding Says found_in
says_fine (Ok report) w s = refl
says_fine (Err r) w s = absurd s

pub says_not : (a : Answer) (r : Refusal) (w : Word) → a ≡ Err r → Says a w → ⊥
unfolding Says
says_not a r w e s = subst (λ x. Says x w) e s

-- the word is the remainder's
pub report_says : (m : ℕ) (s : Known m) → Says (Ok (report_of m s)) (saying (word m s.remainder))
unfolding Says report_of
report_says m s = refl

-- and it is read from the remainder's row
pub word_on : (ws row : List ℕ) (told : Word) → row ≡ row_at ws most_parameters
    → OfForm (λ m f. saying (word m f)) row told → (m : ℕ) (s : Known m) → m ≤ most_parameters
    → ws ≡ area_of most_parameters m s.past s.remainder → told ≡ saying (word m s.remainder)
word_on ws row told r o m s few e =
    o m s.remainder few
    (r ∙ ap (λ (x : List ℕ). row_at x most_parameters) e
    ∙ row_area_of most_parameters m s.past s.remainder most_parameters (omega arith)
    ∙ row_remainder most_parameters m s.past s.remainder)

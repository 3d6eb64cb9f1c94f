-- What a code tells of an answer.
-- Assumes nothing.
use Rattle.std.proofs.Common.{Ok, Err}
use mathlib.Core.Path.{◌≡◌, refl, sym, ap, ◌∙◌}
use mathlib.Core.List.{[], ◌∷◌}
use Prim.Native.Nat.{ℕ, ◌-◌, ◌<◌}
use native.Mathlib.Omega.{arith}
use lib.ListN.{get_or}
use Rattle.watcher.specs.declared.state.Word.{Word}
use Rattle.watcher.specs.declared.state.Word.TheVariants.{Kept, Broken, Pending}
use Rattle.watcher.specs.declared.state.Refusal.{Refusal}
use Rattle.watcher.specs.Answers.{Found, Answer, End}
use Rattle.watcher.specs.Numbers.{refusal_number, Says, found_in, found_at}
use Rattle.watcher.proofs.Reports.{word_says, says_word, says_not}
use Rattle.demands.specs.Tables.{Carries}
use Rattle.port.specs.Codes.{word_code, told_of, told_at, told_code, answer_code, end_code}
use Rattle.port.proofs.Numbers.{number_low}

-- words with the same code are the same
coded : (w : Word) → get_or (Kept ∷ Broken ∷ Pending ∷ []) (word_code w - 101) Pending ≡ w
coded Kept = refl
coded Broken = refl
coded Pending = refl

word_one : (v w : Word) → word_code v ≡ word_code w → v ≡ w
word_one v w e =
    sym (coded v) ∙ ap (λ n. get_or (Kept ∷ Broken ∷ Pending ∷ []) (n - 101) Pending) e ∙ coded w

-- a word's code is no refusal's number
word_large : (w : Word) → 100 < word_code w
word_large Kept = omega arith
word_large Broken = omega arith
word_large Pending = omega arith

-- a word's code says the word, and a word has its code
pub code_says : (a : Answer) (w : Word) → answer_code a ≡ word_code w → Says a w
unfolding answer_code told_of told_code
code_says (Ok report) w e = word_says report w (word_one report.word w e)
code_says (Err r) w e =
    let z : ⊥ = omega (arith, number_low r, word_large w) in absurd z

pub says_code : (a : Answer) (w : Word) → Says a w → answer_code a ≡ word_code w
unfolding answer_code told_of told_code
says_code (Ok report) w s = ap word_code (says_word report w s)
says_code (Err r) w s = absurd (says_not (Err r) r w refl s)

-- a refusal's code is its number
pub carries_code : (a : Answer) (n : ℕ) → Carries (found_in a) n → answer_code a ≡ n
unfolding answer_code told_of told_code found_in Carries
carries_code (Ok report) n c = absurd c
carries_code (Err r) n c = c

pub carries_end : (a : End) (n : ℕ) → Carries (found_at a) n → end_code a ≡ n
unfolding end_code told_at told_code found_at Carries
carries_end (Ok v) n c = absurd c
carries_end (Err r) n c = c

pub carries_found : (f : Found) (n : ℕ) → Carries f n → (r : Refusal) × (f ≡ Err r) × (refusal_number r ≡ n)
unfolding Carries
carries_found (Ok tt) n c = absurd c
carries_found (Err r) n c = (r, refl, c)

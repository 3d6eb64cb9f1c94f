-- No line has more bytes than the buffer that the program lends.
-- Assumes nothing.
use Rattle.std.proofs.Common.{Ok, Err}
use mathlib.Core.Path.{◌≡◌, refl}
use mathlib.Core.Bool.{Bool, true, false, cond}
use mathlib.Core.Logic.{◌⊎◌, inl, inr}
use mathlib.Core.List.{List, [], ◌∷◌, ◌++◌}
use Prim.Native.Nat.{ℕ, zero, suc, ◌+◌, ◌-◌, ◌*◌, ◌/◌, ◌%◌, ◌^◌, ◌≤◌, ◌<◌}
use native.Mathlib.Nat.{pow-succ', lt_of_lt_of_le}
use native.Mathlib.Omega.{arith}
use lib.Dec.{ltb, lit≤}
use lib.ListN.{length, get_or, length-append}
use borrow.Author.Tests.{ltb-false}
use Rattle.ground.specs.Fold.{some}
use Rattle.ground.proofs.Folds.{less_or_not}
use Rattle.ground.proofs.ByteLaws.{little_lt}
use Rattle.watcher.specs.declared.state.Watcher.{Watcher}
use Rattle.watcher.specs.declared.state.Word.{Word}
use Rattle.watcher.specs.declared.state.Word.TheVariants as word
use Rattle.watcher.specs.declared.state.Verdict.{Verdict}
use Rattle.watcher.specs.declared.state.Refusal.{Refusal}
use Rattle.watcher.specs.Answers.{Found, Answer, End}
use Rattle.watcher.specs.declared.state.Fed.{Fed}
use Rattle.watcher.specs.Numbers.{refusal_number}
use Rattle.watcher.specs.Limits.{most_signals}
use Rattle.watcher.specs.Records.{time_of}
use Rattle.watcher.specs.Calls.{ask_of}
use Rattle.watcher.proofs.Numbers.{number_most}
use Rattle.lines.specs.Text.{digits, decimal, listed_text, numbers_text, space, newline, word_text, verdict_text}
use Rattle.lines.specs.Text.{refused_line, found_line, told_line, answer_line, ask_text, end_text, end_line}
use Rattle.lines.specs.Blind.{is_blind, blind_text}
use Rattle.lines.specs.Lines.{behind_text, piece_line}
use Rattle.lines.specs.Listing.{line_bytes}

-- a number below 10^(d+1) has at most d + 1 digits
digits_short : (most d n : ℕ) → n < 10 ^ suc d → length (digits most n) ≤ suc d
unfolding digits
digits_short zero d n h = omega arith
digits_short (suc k) d n h = go (ltb n 10) refl d h (λ e. digits_short k e (n / 10))
  where
    go : (b : Bool) → ltb n 10 ≡ b → (d : ℕ) → n < 10 ^ suc d
        → ((e : ℕ) → n / 10 < 10 ^ suc e → length (digits k (n / 10)) ≤ suc e)
        → length (cond b ((48 + n) ∷ []) (digits k (n / 10) ++ ((48 + n % 10) ∷ []))) ≤ suc d
    go true e d h less = omega arith
    go false e zero h less = let z : ⊥ = omega (arith, ltb-false n 10 e) in absurd z
    go false e (suc d) h less =
        let q : n / 10 < 10 ^ suc d = omega (arith, pow-succ' 10 (suc d)) in
        omega (arith, length-append (digits k (n / 10)) ((48 + n % 10) ∷ []), less d q)

decimal_short : (d n : ℕ) → n < 10 ^ suc d → length (decimal n) ≤ suc d
unfolding decimal
decimal_short d n h = digits_short (n + 1) d n h

-- a number that is listed has a comma at most before its digits
listed_short : (here lower : Bool) (k : ℕ) → length (listed_text here lower k) ≤ 1 + length (decimal k)
unfolding listed_text
listed_short false lower k = omega arith
listed_short true false k = omega arith
listed_short true true k = omega arith

-- a word, a verdict, and a time
word_short : (w : Word) → length (word_text w) ≤ 7
unfolding word_text
word_short word.Kept = lit≤ tt
word_short word.Broken = lit≤ tt
word_short word.Pending = lit≤ tt

verdict_short : (v : Verdict) → length (verdict_text v) ≤ 7
unfolding verdict_text
verdict_short v = word_short _

time_short : (piece : List ℕ) → ((i : ℕ) → get_or piece i 0 < 256) → length (decimal (time_of piece)) ≤ 10
unfolding time_of
time_short piece h = decimal_short 9 _ (lt_of_lt_of_le (little_lt piece 0 4 h) (lit≤ tt))

-- what stands behind a word
ask_short : (e : End) → length (ask_text e) ≤ 12
unfolding ask_text
ask_short (Ok v) = omega (arith, verdict_short v)
ask_short (Err r) = lit≤ tt

-- of the numbers below n, those below 10 have a comma and a digit at most, the others a digit more
numbers_short : (test : ℕ → Bool) (n : ℕ) → n ≤ 100 → length (numbers_text test n) ≤ 2 * n + (n - 10)
unfolding numbers_text
numbers_short test zero h = lit≤ tt
numbers_short test (suc k) h = go (less_or_not k 10) (numbers_short test k (omega arith))
  where
    go : (k < 10) ⊎ (10 ≤ k) → length (numbers_text test k) ≤ 2 * k + (k - 10)
        → length (numbers_text test k ++ listed_text (test k) (some k test) k) ≤ 2 * suc k + (suc k - 10)
    go (inl l) s =
        omega (
          arith,
          s,
          length-append (numbers_text test k) (listed_text (test k) (some k test) k),
          listed_short (test k) (some k test) k,
          decimal_short 0 k l,
        )
    go (inr l) s =
        omega (
          arith,
          s,
          length-append (numbers_text test k) (listed_text (test k) (some k test) k),
          listed_short (test k) (some k test) k,
          decimal_short 1 k (omega arith),
        )

blind_short : (blind : ℕ → Bool) → length (blind_text blind) ≤ 45
unfolding blind_text
blind_short blind = go (some most_signals blind) (numbers_short blind most_signals (lit≤ tt))
  where
    go : (b : Bool) → length (numbers_text blind most_signals) ≤ 38
        → length (cond b ((space ∷ 98 ∷ 108 ∷ 105 ∷ 110 ∷ 100 ∷ space ∷ []) ++ numbers_text blind most_signals) []) ≤ 45
    go true s = omega (arith, s)
    go false s = lit≤ tt

behind_short : (piece : List ℕ) (more : Bool) (w : Watcher) (ws : List ℕ) → length (behind_text piece more w ws) ≤ 57
unfolding behind_text
behind_short piece false w ws = lit≤ tt
behind_short piece true w ws =
    omega (
      arith,
      length-append (ask_text (ask_of w ws)) (blind_text (is_blind w.list w.signals piece)),
      ask_short (ask_of w ws),
      blind_short (is_blind w.list w.signals piece),
    )

-- a refusal's line
refused_short : (r : Refusal) → length (refused_line r) ≤ 11
unfolding refused_line
refused_short r =
    omega (
      arith,
      length-append (decimal (refusal_number r)) (newline ∷ []),
      decimal_short 1 (refusal_number r) (omega (arith, number_most r)),
    )

-- the lines
pub found_fits : (f : Found) → length (found_line f) ≤ line_bytes
unfolding found_line
found_fits (Ok tt) = lit≤ tt
found_fits (Err r) = omega (arith, refused_short r)

answer_fits : (piece : List ℕ) → ((i : ℕ) → get_or piece i 0 < 256) → (behind : List ℕ)
    → length behind ≤ 57 → (a : Answer) → length (answer_line (time_of piece) behind a) ≤ line_bytes
unfolding answer_line told_line
answer_fits piece h behind s (Ok report) =
    omega (
      arith,
      length-append (decimal (time_of piece)) (space ∷ (word_text report.word ++ (behind ++ (newline ∷ [])))),
      time_short piece h,
      length-append (word_text report.word) (behind ++ (newline ∷ [])),
      word_short report.word,
      length-append behind (newline ∷ []),
    )
answer_fits piece h behind s (Err r) = omega (arith, refused_short r)

pub piece_fits : (piece : List ℕ) → ((i : ℕ) → get_or piece i 0 < 256) → (more : Bool) (f : Fed × List ℕ)
    → length (piece_line piece more f) ≤ line_bytes
unfolding piece_line
piece_fits piece h more f = answer_fits piece h _ (behind_short piece more f.0.next f.1) f.0.answer

end_short : (e : End) → length (end_text e) ≤ 11
unfolding end_text
end_short (Ok v) = omega (arith, length-append (verdict_text v) (newline ∷ []), verdict_short v)
end_short (Err r) = refused_short r

pub end_fits : (e : End) → length (end_line e) ≤ line_bytes
unfolding end_line
end_fits e = omega (arith, end_short e)

-- What the exports answer to bytes that are no state, and that they are told apart.
-- Assumes nothing.
use mathlib.Core.Path.{◌≡◌, sym, ap}
use mathlib.Core.Bool.{true, false, not, cond}
use mathlib.Core.List.{List}
use Prim.Native.Nat.{ℕ}
use lib.ListN.{length}
use borrow.Author.Tests.{eq-eqb, ne_eqb}
use Rattle.watcher.specs.Calls.{ask_of}
use Rattle.port.specs.Codes.{state_length, end_code}
use Rattle.port.specs.Layout.{state_bytes, state_in}
use Rattle.port.specs.Exports.{wrong_state, start_bytes}
use Rattle.port.specs.Exports.{feed_bytes, ask_bytes, close_bytes}
use Rattle.port.specs.Clauses.{AskClause}

-- bytes of another length are no state
long_not : (bytes : List ℕ) → (length bytes ≡ state_bytes → ⊥) → wrong_state bytes ≡ true
unfolding wrong_state
long_not bytes h = ap not (ne_eqb (length bytes) state_bytes h)

long_so : (bytes : List ℕ) → length bytes ≡ state_bytes → wrong_state bytes ≡ false
unfolding wrong_state
long_so bytes h = ap not (eq-eqb (length bytes) state_bytes h)

module _ {A : Type 0} (bytes : List ℕ) (x y : A) where
  wrong_one : (length bytes ≡ state_bytes → ⊥) → x ≡ cond (wrong_state bytes) x y
  wrong_one h = ap (λ b. cond b x y) (sym (long_not bytes h))

  pub right_one : length bytes ≡ state_bytes → y ≡ cond (wrong_state bytes) x y
  right_one h = ap (λ b. cond b x y) (sym (long_so bytes h))

pub start_wrong : (rule signals bytes ws : List ℕ) → (length bytes ≡ state_bytes → ⊥)
    → (state_length, bytes, ws) ≡ start_bytes rule signals bytes ws
unfolding start_bytes
start_wrong rule signals bytes ws h = wrong_one bytes _ _ h

pub feed_wrong : (bytes piece ws : List ℕ) → (length bytes ≡ state_bytes → ⊥)
    → (state_length, bytes, ws) ≡ feed_bytes bytes piece ws
unfolding feed_bytes
feed_wrong bytes piece ws h = wrong_one bytes _ _ h

pub ask_wrong : (bytes ws : List ℕ) → (length bytes ≡ state_bytes → ⊥) → AskClause bytes ws (state_length, bytes, ws)
unfolding ask_bytes
ask_wrong bytes ws h = ap (λ n. (n, bytes, ws)) (wrong_one bytes state_length (end_code (ask_of (state_in bytes) ws)) h)

pub close_wrong : (bytes ws : List ℕ) → (length bytes ≡ state_bytes → ⊥)
    → (state_length, bytes, ws) ≡ close_bytes bytes ws
unfolding close_bytes
close_wrong bytes ws h = wrong_one bytes _ _ h

-- The exports call by call, with the state's bytes and the work area handed on untouched.
use Rattle.std.specs.Prelude.{◌≡◌, List, [], ◌∷◌, ℕ, length}
use Rattle.watcher.specs.Calls.{start_of, feed_refusal, wait_of, zero_state}
use Rattle.watcher.specs.Machine.{MachineBytes, MachineWords}
use Rattle.watcher.specs.Runs.{Held}
use Rattle.demands.specs.Watching.{defined, Call, feeding, asking, closing, told, asked, ending, reached, MachineCalls}
use Rattle.demands.specs.Tables.{start_table, feed_table, close_table, Given}
use Rattle.port.specs.Layout.{state_bytes, written, state_in}
use Rattle.port.specs.Codes.{state_length, found_code, answer_code, end_code, horizon_code}
use Rattle.carried.specs.Exporting.{Exports}

-- what a caller lends from call to call
pub record Lent : Type 0 where
  pub bytes : List ℕ
  pub area : List ℕ

module _ (f : Exports) where
  -- after one call, and after calls one after another, whatever each is answered
  unfoldable pub lent_on : Lent → Call → Lent
  lent_on l (feeding piece) =
      record { bytes = (f.feed l.bytes piece l.area).1; area = (f.feed l.bytes piece l.area).2 }
  lent_on l asking = record { bytes = (f.ask l.bytes l.area).1; area = (f.ask l.bytes l.area).2 }
  lent_on l closing = record { bytes = (f.close l.bytes l.area).1; area = (f.close l.bytes l.area).2 }

  unfoldable pub lent_all : Lent → List Call → Lent
  lent_all l [] = l
  lent_all l (c ∷ more) = lent_all (lent_on l c) more

  -- after start and these calls
  unfoldable pub lent_after : (rule signals bytes ws : List ℕ) → List Call → Lent
  lent_after rule signals bytes ws calls =
      lent_all
      (record { bytes = (f.start rule signals bytes ws).1; area = (f.start rule signals bytes ws).2 }) calls

-- after start and any calls the lent bytes are the watcher's state, written, the work area is its work area, and each
-- code is that of its answer; so what is demanded of the watcher holds of the exports
pub record Carried (f : Exports) (rule signals bytes ws : List ℕ) (calls : List Call) : Type 0 where
  pub started : (f.start rule signals bytes ws).0 ≡ found_code (start_of rule signals ws).0.found
  pub bytes_are :
      (lent_after f rule signals bytes ws calls).bytes ≡ written (reached defined rule signals ws calls).state
  pub state_is :
      state_in (lent_after f rule signals bytes ws calls).bytes ≡ (reached defined rule signals ws calls).state
  pub area_is : (lent_after f rule signals bytes ws calls).area ≡ (reached defined rule signals ws calls).area
  pub refused : (piece : List ℕ) → MachineBytes piece
      → let l : Lent = lent_after f rule signals bytes ws calls in
      let h : Held = reached defined rule signals ws calls in
      f.refuses l.bytes piece l.area ≡ found_code (feed_refusal h.state piece h.area)
  pub fed : (piece : List ℕ) → MachineBytes piece
      → let l : Lent = lent_after f rule signals bytes ws calls in
      (f.feed l.bytes piece l.area).0 ≡ answer_code (told defined (reached defined rule signals ws calls) piece)
  pub asks : let l : Lent = lent_after f rule signals bytes ws calls in
      f.ask l.bytes l.area
      ≡ (end_code (asked defined (reached defined rule signals ws calls)), l.bytes, l.area)
  pub closed : let l : Lent = lent_after f rule signals bytes ws calls in
      (f.close l.bytes l.area).0 ≡ end_code (ending defined (reached defined rule signals ws calls))
  pub waits : f.horizon (lent_after f rule signals bytes ws calls).bytes
      ≡ horizon_code (wait_of (reached defined rule signals ws calls).state)

abbrev pub CallsAreCarried : Exports → Type 0
CallsAreCarried f =
    (rule signals bytes ws : List ℕ) → MachineBytes rule → MachineBytes signals → MachineBytes bytes
    → length bytes ≡ state_bytes → MachineWords ws → (calls : List Call) → MachineCalls calls
    → Carried f rule signals bytes ws calls

-- Demand 1 of the exports, whatever bytes are lent: another number of bytes is refused with 91, and a state in them by
-- document 01's table; neither touches anything, but that a refused start leaves a state of zeros
pub record ExportsRefuse (f : Exports) : Type 0 where
  pub start_91 : (rule signals bytes ws : List ℕ) → MachineBytes rule → MachineBytes signals → MachineBytes bytes
      → MachineWords ws → (length bytes ≡ state_bytes → ⊥) → f.start rule signals bytes ws ≡ (state_length, bytes, ws)
  pub feed_91 : (bytes piece ws : List ℕ) → MachineBytes bytes → MachineBytes piece → MachineWords ws
      → (length bytes ≡ state_bytes → ⊥) → f.feed bytes piece ws ≡ (state_length, bytes, ws)
  pub ask_91 : (bytes ws : List ℕ) → MachineBytes bytes → MachineWords ws → (length bytes ≡ state_bytes → ⊥)
      → f.ask bytes ws ≡ (state_length, bytes, ws)
  pub close_91 : (bytes ws : List ℕ) → MachineBytes bytes → MachineWords ws → (length bytes ≡ state_bytes → ⊥)
      → f.close bytes ws ≡ (state_length, bytes, ws)
  pub start : (rule signals bytes ws : List ℕ) → MachineBytes rule → MachineBytes signals → MachineBytes bytes
      → MachineWords ws → length bytes ≡ state_bytes → (n : ℕ) → Given (start_table rule signals ws) n
      → f.start rule signals bytes ws ≡ (n, written zero_state, ws)
  pub feed : (bytes piece ws : List ℕ) → MachineBytes bytes → MachineBytes piece → MachineWords ws
      → length bytes ≡ state_bytes → (n : ℕ) → Given (feed_table (state_in bytes) piece ws) n
      → f.feed bytes piece ws ≡ (n, bytes, ws)
  pub ask : (bytes ws : List ℕ) → MachineBytes bytes → MachineWords ws → length bytes ≡ state_bytes → (n : ℕ)
      → Given (close_table (state_in bytes) ws) n → f.ask bytes ws ≡ (n, bytes, ws)
  pub close : (bytes ws : List ℕ) → MachineBytes bytes → MachineWords ws → length bytes ≡ state_bytes → (n : ℕ)
      → Given (close_table (state_in bytes) ws) n → f.close bytes ws ≡ (n, bytes, ws)

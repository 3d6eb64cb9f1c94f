-- The lines of the functions, called one after another, are the listing of the whole run.
-- Assumes nothing.
use Rattle.std.proofs.Common.{Ok, Err, is_ok, is_err}
use mathlib.Core.Path.{◌≡◌, refl, ap, ap₂, ◌∙◌}
use mathlib.Core.Bool.{Bool, cond}
use mathlib.Core.List.{List, [], ◌∷◌, ◌++◌}
use Prim.Native.Nat.{ℕ, zero, suc, min, ◌≤◌, ◌<◌}
use native.Mathlib.Omega.{arith}
use lib.ListN.{length, get_or, take, drop}
use lib.Seq.{take_all, take_at}
use Rattle.watcher.specs.declared.state.Watcher.{Watcher}
use Rattle.watcher.specs.declared.state.Started.{Started}
use Rattle.watcher.specs.Answers.{Found}
use Rattle.watcher.specs.Limits.{log_bytes}
use Rattle.watcher.specs.Calls.{start_of, feed_of, ask_of}
use Rattle.lines.specs.Text.{found_line, end_line}
use Rattle.lines.specs.Lines.{placed, piece_line, started_line, start_line, fed_line, feed_line, ask_line}
use Rattle.watcher.specs.Runs.{pieces_in, pieces}
use Rattle.watcher.proofs.Asking.{ask_as_close}
use Rattle.watcher.proofs.Machines.{take_small, drop_small}
use Rattle.lines.specs.Listing.{log_lines, listing_from, listing_on, line_bytes}
use Rattle.lines.specs.Listing.{printed_log, printed}
use Rattle.lines.proofs.Lengths.{found_fits, piece_fits, end_fits}

-- bytes, and pieces of bytes
abbrev pub Bytes : List ℕ → Type 0
Bytes s = (i : ℕ) → get_or s i 0 < 256

abbrev AllBytes : List (List ℕ) → Type 0
AllBytes [] = Unit {0}
AllBytes (piece ∷ rest) = Bytes piece × AllBytes rest

pieces_bytes : (most : ℕ) (log : List ℕ) → Bytes log → AllBytes (pieces_in most log)
unfolding pieces_in
pieces_bytes zero log h = tt
pieces_bytes (suc n) [] h = tt
pieces_bytes (suc n) (b ∷ log) h =
    (take_small log_bytes (b ∷ log) h, pieces_bytes n (drop log_bytes (b ∷ log)) (drop_small log_bytes (b ∷ log) h))

-- a line that fits is read back whole
read_back : (out text : List ℕ) → length text ≤ length out → take (placed out text).0 (placed out text).1 ≡ text
unfolding placed
read_back out text h =
    let n : length text ≡ min (length text) (length out) = omega arith in
    ap (λ s. take (min (length text) (length out)) (s ++ drop (length text) out)) (take_all (length out) text h)
    ∙ take_at text (drop (length text) out) (min (length text) (length out)) n

module _ (more : Bool) (out : List ℕ) (room : line_bytes ≤ length out) where
  log_printed : (w : Watcher) (ws : List ℕ) (parts : List (List ℕ)) → AllBytes parts
      → printed_log more w ws out parts ≡ log_lines more w ws parts
  unfolding printed_log log_lines feed_line fed_line ask_line
  log_printed w ws [] h =
      read_back out (end_line (ask_of w ws)) (omega (arith, end_fits (ask_of w ws))) ∙ ap end_line (ask_as_close w ws)
  log_printed w ws (piece ∷ rest) h =
      ap₂ ◌++◌
      (read_back out (piece_line piece more (feed_of w piece ws))
      (omega (arith, piece_fits piece h.0 more (feed_of w piece ws))))
      (log_printed (feed_of w piece ws).0.next (feed_of w piece ws).1 rest h.1)

  from_printed : (s : Started × List ℕ) (log : List ℕ) → Bytes log
      → take (started_line out s).0.length (started_line out s).2
      ++ cond (started_line out s).0.ready
      (printed_log more (started_line out s).0.next (started_line out s).1 out (pieces log)) []
      ≡ listing_from more s log
  unfolding started_line listing_from pieces
  from_printed s log h =
      ap₂ ◌++◌
      (read_back out (found_line s.0.found) (omega (arith, found_fits s.0.found)))
      (go s.0.found)
    where
      go : (f : Found)
          → cond (is_ok f) (printed_log more s.0.next s.1 out (pieces_in (length log) log)) []
          ≡ cond (is_err f) [] (log_lines more s.0.next s.1 (pieces_in (length log) log))
      go (Err r) = refl
      go (Ok tt) = log_printed s.0.next s.1 (pieces_in (length log) log) (pieces_bytes (length log) log h)

  -- for any area, rule and signal list, and any log of bytes
  pub printed_listing : (ws rule signals log : List ℕ) → Bytes log
      → printed more ws out rule signals log ≡ listing_on more ws rule signals log
  unfolding printed listing_on start_line
  printed_listing ws rule signals log h = from_printed (start_of rule signals ws) log h

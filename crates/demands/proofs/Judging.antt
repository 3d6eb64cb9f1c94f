-- A record after a log is accepted, wrong, or too early.
-- Assumes nothing.
use mathlib.Core.Path.{◌≡◌, refl, ap, ap₂}
use mathlib.Core.Bool.{Bool, true, false, not, ◌&&◌}
use mathlib.Core.List.{List}
use Prim.Native.Nat.{ℕ, ◌≤◌, ◌<◌}
use lib.Dec.{leb}
use borrow.Author.Tests.{leb-true, leb-false}
use Rattle.meaning.specs.Rule.{Entry}
use Rattle.watcher.specs.Records.{wrong_record, time_of}
use Rattle.demands.specs.Logs.{last_time, accepts}

pub data Judged (log : List Entry) (bytes : List ℕ) : Type 0 where
  taken : accepts log bytes ≡ true → wrong_record bytes ≡ false → last_time log ≤ time_of bytes → Judged log bytes
  wrong : accepts log bytes ≡ false → wrong_record bytes ≡ true → Judged log bytes
  early : accepts log bytes ≡ false → wrong_record bytes ≡ false → time_of bytes < last_time log → Judged log bytes

pub judge : (log : List Entry) (bytes : List ℕ) → Judged log bytes
unfolding accepts
judge log bytes = go (wrong_record bytes) (leb (last_time log) (time_of bytes)) refl refl
  where
    go : (a b : Bool) → wrong_record bytes ≡ a → leb (last_time log) (time_of bytes) ≡ b → Judged log bytes
    go true b p q = wrong (ap (λ x. not x && leb (last_time log) (time_of bytes)) p) p
    go false true p q = taken (ap₂ (λ x y. not x && y) p q) p (leb-true (last_time log) (time_of bytes) q)
    go false false p q = early (ap₂ (λ x y. not x && y) p q) p (leb-false (last_time log) (time_of bytes) q)

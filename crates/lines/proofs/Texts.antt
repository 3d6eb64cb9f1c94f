-- Laws of text that is put into a buffer.
-- Assumes nothing.
use mathlib.Core.Path.{◌≡◌, refl, sym, ap, ap₂, ◌∙◌}
use mathlib.Core.Bool.{cond, not}
use mathlib.Core.List.{List, [], ◌∷◌, ◌++◌}
use Prim.Native.Nat.{ℕ, ◌+◌, min, ◌≤◌, ◌<◌}
use native.Mathlib.Omega.{arith}
use Rattle.std.proofs.Common.{Ok, Err, is_ok, is_err}
use lib.ListN.{length, take, drop, set, length-append}
use lib.Seq.{take-nil, drop-nil, append_snoc, set-append_seam}
use borrow.Author.Tests.{lt-ltb, le-ltb}
use Rattle.watcher.specs.Answers.{Found}
use Rattle.lines.specs.declared.line.Line.{Line}
use Rattle.lines.specs.Lines.{placed}
use Rattle.lines.specs.inside.Puts.{put_byte, put_text, Puts}

-- a byte that fits, and one that does not
pub byte_fits : (at : ℕ) (out : List ℕ) (b : ℕ) → at < length out → (at + 1, set out at b) ≡ put_byte (at, out) b
unfolding put_byte
byte_fits at out b h = sym (ap (λ t. cond t (at + 1, set out at b) (at, out)) (lt-ltb at (length out) h))

pub byte_full : (at : ℕ) (out : List ℕ) (b : ℕ) → length out ≤ at → (at, out) ≡ put_byte (at, out) b
unfolding put_byte
byte_full at out b h = sym (ap (λ t. cond t (at + 1, set out at b) (at, out)) (le-ltb at (length out) h))

-- one text behind another
text_append : (o : ℕ × List ℕ) (s t : List ℕ) → put_text (put_text o s) t ≡ put_text o (s ++ t)
unfolding put_text
text_append o [] t = refl
text_append o (b ∷ s) t = text_append (put_byte o b) s t

pub puts_none : (l : Line) → Puts l l []
unfolding put_text
puts_none l = record { same_buffer = refl; behind = refl }

pub puts_then : {a b c : Line} {s t : List ℕ} → Puts a b s → Puts b c t → Puts a c (s ++ t)
puts_then {a} {b} {c} {s} {t} p q =
    record {
      same_buffer = q.same_buffer ∙ p.same_buffer;
      behind = q.behind ∙ ap (λ o. put_text o t) p.behind ∙ text_append (a.at, a.out.now) s t;
    }

-- a line that is the same
pub from_same : {a b c : Line} {s : List ℕ} → a ≡ b → Puts a c s → Puts b c s
from_same e p = rw (← e) p

-- from the beginning of a buffer on: what fits of the text, and what was behind it
text_at : (before out text : List ℕ)
    → put_text (length before, before ++ out) text
    ≡ (
      length before + min (length text) (length out),
      before ++ (take (length out) text ++ drop (length text) out),
    )
unfolding put_text
text_at before out [] =
    ap₂ (λ n l. (n, l)) (omega arith) (ap (λ x. before ++ (x ++ out)) (sym (take-nil (length out))))
text_at before [] (b ∷ text) =
    ap (λ x. put_text x text)
    (sym (byte_full (length before) (before ++ []) b (omega (arith, length-append before []))))
    ∙ text_at before [] text
    ∙ ap₂ (λ n l. (n, before ++ l)) (omega arith) (drop-nil (length text))
text_at before (x ∷ out) (b ∷ text) =
    ap (λ y. put_text y text)
    (sym (byte_fits (length before) (before ++ x ∷ out) b (omega (arith, length-append before (x ∷ out))))
    ∙ ap₂ (λ n l. (n, l)) (sym (length-append before (b ∷ [])))
    (set-append_seam before x out b ∙ sym (append_snoc before b out)))
    ∙ text_at (before ++ (b ∷ [])) out text
    ∙ ap₂ (λ n l. (n, l)) (omega (arith, length-append before (b ∷ [])))
    (append_snoc before b (take (length out) text ++ drop (length text) out))

-- a line from the beginning of a buffer on
pub line_placed : {a b : Line} {out text : List ℕ} → a.out.now ≡ out → a.at ≡ 0 → Puts a b text
    → (b.at, b.out.now) ≡ placed out text
unfolding placed
line_placed {out = out} {text = text} same start p =
    p.behind ∙ ap₂ (λ n l. put_text (n, l) text) start same ∙ text_at [] out text
    ∙ ap (λ n. (n, take (length out) text ++ drop (length text) out)) (omega arith)

-- a start is ready exactly where nothing is refused
pub ready_if : (found : Found) → not (is_err found) ≡ is_ok found
ready_if (Ok tt) = refl
ready_if (Err r) = refl

-- What the exports refuse, whatever bytes are lent.
-- Assumes nothing.
use Rattle.std.proofs.Common.{Ok, Err}
use mathlib.Core.Path.{◌≡◌, sym, ap, ◌∙◌}
use mathlib.Core.List.{List}
use Prim.Native.Nat.{ℕ}
use Rattle.watcher.specs.declared.state.Watcher.{Watcher}
use Rattle.watcher.specs.Answers.{Found, End}
use Rattle.watcher.specs.Calls.{feed_refusal, feed_with, feed_of, ask_of, close_refusal, close_with, close_of}
use Rattle.watcher.specs.Numbers.{found_in, found_at}
use Rattle.demands.specs.Watching.{defined}
use Rattle.demands.specs.Tables as tables
use Rattle.demands.specs.Demands.{Demands}
use Rattle.demands.proofs.Following.{defined_meets}
use Rattle.demands.proofs.Demanded.{demanded}
use Rattle.demands.proofs.Asking.{asking_promised}
use Rattle.port.specs.Layout.{written, state_in}
use Rattle.port.specs.Codes.{found_code, told_of, told_at, told_code, end_code}
use Rattle.port.specs.Exports.{started_bytes, start_bytes, kept_unless, told_bytes, fed_bytes, feed_bytes, ended_bytes}
use Rattle.port.specs.Exports.{ask_bytes, close_bytes}
use Rattle.port.proofs.Exported.{right_one, start_wrong, feed_wrong, ask_wrong, close_wrong}
use Rattle.port.proofs.Machines.{machine_in}
use Rattle.carried.specs.Exporting.{Exports, MeetsExports}
use Rattle.carried.specs.Calls.{ExportsRefuse}

demands : Demands defined
demands = demanded defined defined_meets

-- a refusal's code is its number, and the bytes stay
found_number : (f : Found) (n : ℕ) → tables.Carries f n → found_code f ≡ n
unfolding found_code tables.Carries
found_number (Ok tt) n c = absurd c
found_number (Err r) n c = c

fed_refused : (f : Found) (w : Watcher) (bytes piece ws : List ℕ) (n : ℕ)
    → tables.Carries (found_in (feed_with f w piece ws).0.answer) n
    → fed_bytes (feed_with f w piece ws) bytes ≡ (n, bytes, ws)
unfolding feed_with fed_bytes told_of told_bytes kept_unless told_code found_in tables.Carries
fed_refused (Ok tt) w bytes piece ws n c = absurd c
fed_refused (Err r) w bytes piece ws n c = ap (λ x. (x, bytes, ws)) c

closed_refused : (f : Found) (w : Watcher) (bytes ws : List ℕ) (n : ℕ)
    → tables.Carries (found_at (close_with f w ws).0.answer) n
    → ended_bytes (close_with f w ws) bytes ≡ (n, bytes, ws)
unfolding close_with ended_bytes told_at told_bytes kept_unless told_code found_at tables.Carries
closed_refused (Ok tt) w bytes ws n c = absurd c
closed_refused (Err r) w bytes ws n c = ap (λ x. (x, bytes, ws)) c

asked_refused : (e : End) (n : ℕ) → tables.Carries (found_at e) n → end_code e ≡ n
unfolding end_code told_at told_code found_at tables.Carries
asked_refused (Ok v) n c = absurd c
asked_refused (Err r) n c = c

module _ (f : Exports) (right : MeetsExports f) where
  pub exports_refuse : ExportsRefuse f
  unfolding start_bytes started_bytes feed_bytes feed_of ask_bytes close_bytes close_of defined
  exports_refuse =
      record {
        start_91 =
            λ rule signals bytes ws r s b w h.
            right.starts rule signals bytes ws r s b w ∙ sym (start_wrong rule signals bytes ws h);
        feed_91 =
            λ bytes piece ws b p w h. right.feeds bytes piece ws b p w ∙ sym (feed_wrong bytes piece ws h);
        ask_91 = λ bytes ws b w h. right.asks bytes ws b w ∙ sym (ask_wrong bytes ws h);
        close_91 = λ bytes ws b w h. right.closes bytes ws b w ∙ sym (close_wrong bytes ws h);
        start =
            λ rule signals bytes ws r s b w long n g.
            let c = ((demands.first.start rule signals ws r s w).refused n).1 g in
            let z = demands.first.start_zeros rule signals ws r s w n c in
            right.starts rule signals bytes ws r s b w ∙ sym (right_one bytes _ _ long)
            ∙ (λ i. (found_number _ n c i, written (z.0 i), z.1 i));
        feed =
            λ bytes piece ws b p w long n g.
            let c = ((demands.first.feed (state_in bytes) piece ws (machine_in bytes b) p w).refused n).1 g in
            right.feeds bytes piece ws b p w ∙ sym (right_one bytes _ _ long)
            ∙ fed_refused (feed_refusal (state_in bytes) piece ws) (state_in bytes) bytes piece ws n c;
        ask =
            λ bytes ws b w long n g.
            let asks = (asking_promised defined defined_meets).tabled (state_in bytes) ws (machine_in bytes b) w in
            let c = (asks.refused n).1 g in
            right.asks bytes ws b w
            ∙ ap (λ k. (k, bytes, ws))
            (sym (right_one bytes _ _ long) ∙ asked_refused (ask_of (state_in bytes) ws) n c);
        close =
            λ bytes ws b w long n g.
            let c = ((demands.first.close (state_in bytes) ws (machine_in bytes b) w).refused n).1 g in
            right.closes bytes ws b w ∙ sym (right_one bytes _ _ long)
            ∙ closed_refused (close_refusal (state_in bytes) ws) (state_in bytes) bytes ws n c;
      }

-- Codes: a refusal's number is no other code, and a code goes by the case.
-- Assumes nothing.
use mathlib.Core.Path.{◌≡◌, sym, ap, ◌∙◌}
use Prim.Native.Nat.{◌<◌}
use native.Mathlib.Omega.{arith}
use Rattle.watcher.specs.declared.state.Refusal.{Refusal}
use Rattle.watcher.specs.Numbers.{refusal_number}
use Rattle.watcher.proofs.Numbers.{number_most}
use Rattle.port.specs.Codes.{codes_length}

-- a refusal's number is below the exports' own, and so fits a byte
pub number_low : (r : Refusal) → refusal_number r < codes_length
number_low r = omega (arith, number_most r)

-- what is made of an answer goes by the case that it is
pub told : {A B : Type 0} (code : A → B) (x y : A) (r : B) → x ≡ y → r ≡ code y → r ≡ code x
told code x y r e h = h ∙ ap code (sym e)

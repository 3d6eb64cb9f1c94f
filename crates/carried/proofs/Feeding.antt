-- Pieces fed one after another are calls, and their codes are those of the answers.
-- Assumes nothing.
use mathlib.Core.Path.{◌≡◌, refl, ap, ◌∙◌}
use mathlib.Core.Bool.{cond}
use mathlib.Core.List.{List, [], ◌∷◌, ◌++◌, map, map-append}
use Prim.Native.Nat.{ℕ, zero, suc, ◌+◌, ◌-◌, ◌<◌}
use native.Mathlib.Numerals.{add-one}
use native.Mathlib.Omega.{arith}
use lib.ListN.{length, get_or, take, drop}
use lib.Seq.{take-suc}
use Rattle.meaning.specs.Rule.{Entry}
use Rattle.watcher.specs.Limits.{log_bytes}
use Rattle.watcher.specs.Machine.{MachineBytes}
use Rattle.watcher.specs.Runs.{Held, fed_one, answer_to, fed_all, pieces_in, pieces}
use Rattle.watcher.proofs.Machines.{take_bytes, drop_bytes}
use Rattle.demands.specs.Watching.{defined, feeding, told, handed, handed_on, MachineCall, MachineCalls}
use Rattle.demands.specs.Logs.{accepts, log_with, going, further, further_by, log_in, course_of, log_of}
use Rattle.port.specs.Codes.{answer_code}
use Rattle.port.specs.Whole.{codes_for}

-- feeding pieces is calling
pub fed_handed : (h : Held) (ps : List (List ℕ)) → fed_all h ps ≡ handed_on defined h (map feeding ps)
unfolding fed_all fed_one handed handed_on defined
fed_handed h [] = refl
fed_handed h (p ∷ ps) = fed_handed (fed_one h p) ps

pub length_codes : (h : Held) (ps : List (List ℕ)) → length (codes_for h ps) ≡ length ps
unfolding codes_for
length_codes h [] = refl
length_codes h (p ∷ ps) = ap suc (length_codes (fed_one h p) ps)

-- the code of piece k is that of the answer to it after the pieces before it
pub code_at : (h : Held) (ps : List (List ℕ)) (k : ℕ) → k < length ps
    → get_or (codes_for h ps) k 0
    ≡ answer_code (told defined (handed_on defined h (map feeding (take k ps))) (get_or ps k []))
unfolding codes_for answer_to fed_one handed handed_on defined
code_at h [] k l = let z : ⊥ = omega arith in absurd z
code_at h (p ∷ ps) zero l = refl
code_at h (p ∷ ps) (suc k) l = code_at (fed_one h p) ps k (omega arith)

-- as long as nobody closes, a log goes on
goes_on : (signals : List ℕ) (log : List Entry) (ps : List (List ℕ))
    → further_by signals (going log) (map feeding ps) ≡ going (log_in (further_by signals (going log) (map feeding ps)))
unfolding further_by further log_in
goes_on signals log [] = refl
goes_on signals log (p ∷ ps) = goes_on signals (cond (accepts log p) (log_with signals log p) log) ps

pub feeds_go : (signals : List ℕ) (ps : List (List ℕ))
    → course_of signals (map feeding ps) ≡ going (log_of signals (map feeding ps))
feeds_go signals ps = goes_on signals [] ps

-- one piece more, and all that come before a later one
pub calls_next : (ps : List (List ℕ)) (k : ℕ) → k < length ps
    → map feeding (take (k + 1) ps) ≡ map feeding (take k ps) ++ (feeding (get_or ps k []) ∷ [])
calls_next ps k h =
    ap (λ n. map feeding (take n ps)) (add-one k) ∙ ap (map feeding) (take-suc ps k [] h)
    ∙ map-append feeding (take k ps) (get_or ps k [] ∷ [])

take_more : (ps : List (List ℕ)) (k j : ℕ) → k < j → k < length ps
    → take j ps ≡ take k ps ++ (get_or ps k [] ∷ take (j - suc k) (drop (suc k) ps))
take_more [] k j h l = let z : ⊥ = omega arith in absurd z
take_more (p ∷ ps) zero zero h l = let z : ⊥ = omega arith in absurd z
take_more (p ∷ ps) zero (suc j) h l = let e : j ≡ suc j - 1 = omega arith in ap (λ n. p ∷ take n ps) e
take_more (p ∷ ps) (suc k) zero h l = let z : ⊥ = omega arith in absurd z
take_more (p ∷ ps) (suc k) (suc j) h l =
    let e : j - suc k ≡ suc j - suc (suc k) = omega arith in
    ap (λ r. p ∷ r)
    (take_more ps k j (omega arith) (omega arith)
    ∙ ap (λ n. take k ps ++ (get_or ps k [] ∷ take n (drop (suc k) ps))) e)

pub calls_later : (ps : List (List ℕ)) (k j : ℕ) → k < j → k < length ps
    → map feeding (take j ps)
    ≡ map feeding (take k ps) ++ (feeding (get_or ps k []) ∷ map feeding (take (j - suc k) (drop (suc k) ps)))
calls_later ps k j h l =
    ap (map feeding) (take_more ps k j h l)
    ∙ map-append feeding (take k ps) (get_or ps k [] ∷ take (j - suc k) (drop (suc k) ps))

-- no bytes
none_bytes : MachineBytes []
none_bytes = record { small = λ i. omega arith; few = omega arith }

-- the pieces of bytes can be fed
machine_in : (n : ℕ) (log : List ℕ) → MachineBytes log → MachineCalls (map feeding (pieces_in n log))
unfolding pieces_in MachineCalls MachineCall
machine_in zero log m = tt
machine_in (suc n) [] m = tt
machine_in (suc n) (b ∷ log) m =
    (take_bytes log_bytes (b ∷ log) m, machine_in n (drop log_bytes (b ∷ log)) (drop_bytes log_bytes (b ∷ log) m))

pub machine_pieces : (log : List ℕ) → MachineBytes log → MachineCalls (map feeding (pieces log))
unfolding pieces
machine_pieces log m = machine_in (length log) log m

-- and so can some of them, and each
pub machine_take : (ps : List (List ℕ)) (k : ℕ) → MachineCalls (map feeding ps)
    → MachineCalls (map feeding (take k ps))
unfolding MachineCalls
machine_take ps zero m = tt
machine_take [] (suc k) m = tt
machine_take (p ∷ ps) (suc k) m = (m.0, machine_take ps k m.1)

pub machine_drop : (ps : List (List ℕ)) (k : ℕ) → MachineCalls (map feeding ps)
    → MachineCalls (map feeding (drop k ps))
unfolding MachineCalls
machine_drop ps zero m = m
machine_drop [] (suc k) m = tt
machine_drop (p ∷ ps) (suc k) m = machine_drop ps k m.1

pub machine_at : (ps : List (List ℕ)) (k : ℕ) → MachineCalls (map feeding ps) → MachineBytes (get_or ps k [])
unfolding MachineCalls MachineCall
machine_at [] k m = none_bytes
machine_at (p ∷ ps) zero m = m.0
machine_at (p ∷ ps) (suc k) m = machine_at ps k m.1

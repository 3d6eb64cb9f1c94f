-- Forms over m parameters, and what is done with them
-- (document 000, section 3.2; document 01, "How the rule is rewritten").
use Rattle.std.specs.Prelude.{◌≡◌, Bool, true, false, not, ◌&&◌, cond, ℕ, zero, suc, ◌^◌, eqb}
use Rattle.ground.specs.Fold.{◌⊕◌, some}
use Rattle.ground.specs.Bits.{bit}

-- a form over no parameter is true or false; over m + 1, the pair (f₀, f₁) is f₀ xor (parameter m and f₁)
abbrev pub Form : ℕ → Type 0
Form zero = Bool
Form (suc m) = Form m × Form m

-- true is the form of the empty term alone, false the form with no term
unfoldable pub constant : (m : ℕ) → Bool → Form m
constant zero b = b
constant (suc m) b = (constant m b, constant m false)

-- parameter p alone; false where p is not below m
unfoldable pub parameter : (m : ℕ) → ℕ → Form m
parameter zero p = false
parameter (suc m) p = cond (eqb p m) (constant m false, constant m true) (parameter m p, constant m false)

unfoldable pub xor : (m : ℕ) → Form m → Form m → Form m
xor zero f g = f ⊕ g
xor (suc m) f g = (xor m f.0 g.0, xor m f.1 g.1)

-- (f₀ xor p f₁) and (g₀ xor p g₁) is f₀ g₀ where p is false, and (f₀ xor f₁) (g₀ xor g₁) where p is true
unfoldable pub and : (m : ℕ) → Form m → Form m → Form m
and zero f g = f && g
and (suc m) f g =
    let low : Form m = and m f.0 g.0 in
    let both : Form m = and m (xor m f.0 f.1) (xor m g.0 g.1) in
    (low, xor m low both)

-- "a or b" is a xor b xor (a and b)
unfoldable pub or : (m : ℕ) → Form m → Form m → Form m
or m f g = xor m (xor m f g) (and m f g)

-- f with the form σ j put in for parameter j
unfoldable pub put_in : (m n : ℕ) → Form m → (ℕ → Form n) → Form n
put_in zero n f σ = constant n f
put_in (suc m) n f σ = xor n (put_in m n f.0 σ) (and n (σ m) (put_in m n f.1 σ))

-- a form over m parameters seen as one over n, with its own parameters put in
unfoldable pub seen : (m n : ℕ) → Form m → Form n
seen m n f = put_in m n f (parameter n)

-- the value of f under a setting of the parameters
unfoldable pub value : (m : ℕ) → Form m → (ℕ → Bool) → Bool
value zero f ρ = f
value (suc m) f ρ = value m f.0 ρ ⊕ (ρ m && value m f.1 ρ)

-- f depends only on the parameters of S: settings that agree there give it the same value
abbrev pub DependsOn : (ℕ → Type 0) → (m : ℕ) → Form m → Type 0
DependsOn S m f = (ρ ρ' : ℕ → Bool) → ((j : ℕ) → S j → ρ j ≡ ρ' j) → value m f ρ ≡ value m f ρ'

-- f has the term of the parameters in S
unfoldable pub has : (m : ℕ) → Form m → (ℕ → Bool) → Bool
has zero f S = f
has (suc m) f S = has m (cond (S m) f.1 f.0) S

-- f has a term with parameter j
unfoldable pub names : (m : ℕ) → Form m → ℕ → Bool
names m f j = some (2 ^ m) (λ k. bit k j && has m f (bit k))

-- the two are the same form
unfoldable pub same : (m : ℕ) → Form m → Form m → Bool
same zero f g = not (f ⊕ g)
same (suc m) f g = same m f.0 g.0 && same m f.1 g.1

-- the form whose terms are the settings under which f is true
unfoldable pub truth : (m : ℕ) → Form m → Form m
truth zero f = f
truth (suc m) f = let low : Form m = truth m f.0 in (low, xor m low (truth m f.1))

-- f and g bit by bit: the terms that both have
unfoldable pub each : (m : ℕ) → Form m → Form m → Form m
each zero f g = f && g
each (suc m) f g = (each m f.0 g.0, each m f.1 g.1)

-- Forms and their 64 words: there and back, and over more parameters.
-- Assumes nothing.
use mathlib.Core.Path.{◌≡◌, refl, sym, ap, ap₂, ◌∙◌, subst}
use mathlib.Core.Bool.{Bool, true, false, not, ◌&&◌, ◌||◌, and-false, or-true, true≢false}
use mathlib.Core.Logic.{⊎_elim}
use mathlib.Core.List.{List}
use Prim.Native.Nat.{ℕ, suc, ◌+◌, ◌*◌, ◌/◌, ◌%◌, ◌^◌, ◌≤◌, ◌<◌}
use native.Mathlib.Nat.{two-pow-succ, zero-add, le_refl}
use native.Mathlib.Decide.{le_ind}
use native.Mathlib.Omega.{arith}
use lib.Dec.{ltb}
use lib.ListN.{length, get_or, replicate}
use lib.Pow.{pow-lt, pow_mono}
use borrow.Author.Tests.{lt-ltb, le-ltb}
use Rattle.ground.specs.Fold.{◌⊕◌}
use Rattle.ground.specs.Bits.{bit, of_bits, bit_at, Words}
use Rattle.ground.proofs.Xor.{⊕_false, &&_⊕}
use Rattle.ground.proofs.Folds.{less_or_not, every_all, every_at}
use Rattle.ground.proofs.Tabs.{length_tab, get_d_tab}
use Rattle.ground.proofs.Numbers.{of_bits_lt, bit_of_bits, words_of_lem, words_same, zero_words, zero_bit}
use Rattle.forms.specs.Form.{Form, constant, parameter, xor, seen, value, has, each}
use Rattle.forms.specs.Words.{most, bit_of, pack, unpack, fits}
use Rattle.forms.proofs.Values.{value_agree, value_constant, value_parameter, value_put_in, canonical}
use Rattle.forms.proofs.Terms.{has_low, has_high, has_xor, has_false, has_of_terms, by_halves, terms_same}
use Rattle.forms.proofs.Document.{bit_of_low, bit_of_high}
use Rattle.forms.proofs.Truths.{has_each}

-- 64 words, with the form's bits
pub pack_words : (m : ℕ) (f : Form m) → Words 64 (pack m f)
unfolding pack
pack_words m f =
    words_of_lem 64 (pack m f) (length_tab 64 word)
    (λ i h. subst (λ x. x < 2 ^ 64) (sym (get_d_tab 64 word i 0 h)) (of_bits_lt 64 (λ t. bit_of m f (64 * i + t))))
  where
    word : ℕ → ℕ
    word i = of_bits 64 (λ t. bit_of m f (64 * i + t))

pub bit_pack : (m : ℕ) (f : Form m) (k : ℕ) → k < 4096 → bit_at (pack m f) k ≡ bit_of m f k
unfolding pack bit_at
bit_pack m f k h =
    ap (λ x. bit x (k % 64)) (get_d_tab 64 (λ i. of_bits 64 (λ t. bit_of m f (64 * i + t))) (k / 64) 0 (omega arith))
    ∙ bit_of_bits 64 (λ t. bit_of m f (64 * (k / 64) + t)) (k % 64) (omega arith)
    ∙ ap (bit_of m f) (let e : 64 * (k / 64) + k % 64 ≡ k = omega arith in e)

-- 64 words with the form's bits are the form's
pub pack_is : (m : ℕ) (f : Form m) (r : List ℕ) → Words 64 r → ((k : ℕ) → k < 4096 → bit_at r k ≡ bit_of m f k)
    → r ≡ pack m f
pack_is m f r w h = words_same 64 r (pack m f) w (pack_words m f) (λ k l. h k l ∙ sym (bit_pack m f k l))

-- 2 ^ m bits have room in 64 words, and the term of a parameter
pub room : (m : ℕ) → m ≤ 12 → 2 ^ m ≤ 4096
room m h = pow_mono {i = m} {j = 12} h

pub term_room : (p : ℕ) → p < 12 → 2 ^ p < 4096
term_room p h = pow-lt {i = p} {j = 12} h

-- a form to words and back
pub unpack_pack : (m : ℕ) (f : Form m) → m ≤ 12 → unpack m (pack m f) ≡ f
unfolding unpack
unpack_pack m f h =
    terms_same m (unpack m (pack m f)) f
    (λ k l.
    let s : k < 4096 = omega (arith, room m h) in
    has_of_terms m (bit_at (pack m f)) 0 k l ∙ ap (bit_at (pack m f)) (zero-add k) ∙ bit_pack m f k s
    ∙ bit_of_low m f k l)

pub pack_inj : (m : ℕ) (f g : Form m) → m ≤ 12 → pack m f ≡ pack m g → f ≡ g
pack_inj m f g h e = sym (unpack_pack m f h) ∙ ap (unpack m) e ∙ unpack_pack m g h

-- the bits of the form of words
pub bit_unpack : (m : ℕ) (ws : List ℕ) (k : ℕ) → bit_of m (unpack m ws) k ≡ (ltb k (2 ^ m) && bit_at ws k)
unfolding unpack
bit_unpack m ws k =
    ⊎_elim
    (λ h.
    bit_of_low m (unpack m ws) k h ∙ has_of_terms m (bit_at ws) 0 k h ∙ ap (bit_at ws) (zero-add k)
    ∙ ap (λ b. b && bit_at ws k) (sym (lt-ltb k (2 ^ m) h)))
    (λ h. bit_of_high m (unpack m ws) k h ∙ ap (λ b. b && bit_at ws k) (sym (le-ltb k (2 ^ m) h)))
    (less_or_not k (2 ^ m))

-- words to a form and back, where no bit stands at or above 2 ^ m
pub pack_unpack : (m : ℕ) (ws : List ℕ) → Words 64 ws → fits m ws ≡ true → ws ≡ pack m (unpack m ws)
unfolding fits
pack_unpack m ws w e =
    pack_is m (unpack m ws) ws w
    (λ k h.
    only (ltb k (2 ^ m)) (bit_at ws k)
    (every_at (64 * length ws) (λ i. ltb i (2 ^ m) || not (bit_at ws i)) e k (omega (arith, w.long)))
    ∙ sym (bit_unpack m ws k))
  where
    only : (a b : Bool) → (a || not b) ≡ true → b ≡ (a && b)
    only true b q = refl
    only false true q = absurd (true≢false (sym q))
    only false false q = refl

pub fits_pack : (m : ℕ) (f : Form m) → fits m (pack m f) ≡ true
unfolding fits
fits_pack m f =
    every_all (64 * length (pack m f)) (λ i. ltb i (2 ^ m) || not (bit_at (pack m f) i))
    (λ k h.
    let s : k < 4096 = omega (arith, (pack_words m f).long) in
    ⊎_elim (λ l. ap (λ b. b || not (bit_at (pack m f) k)) (lt-ltb k (2 ^ m) l))
    (λ l. ap (λ b. ltb k (2 ^ m) || not b) (bit_pack m f k s ∙ bit_of_high m f k l) ∙ or-true (ltb k (2 ^ m)))
    (less_or_not k (2 ^ m)))

pub value_seen : (m n : ℕ) (f : Form m) (ρ : ℕ → Bool) → m ≤ n → value n (seen m n f) ρ ≡ value m f ρ
unfolding seen
value_seen m n f ρ h =
    value_put_in m n f (parameter n) ρ
    ∙ value_agree m f (λ j. value n (parameter n j) ρ) ρ (λ j l. value_parameter n j ρ (omega arith))

-- it has the same words
seen_more : (m n : ℕ) (f : Form m) → m ≤ n → seen m (suc n) f ≡ (seen m n f, constant n false)
unfolding value
seen_more m n f h =
    canonical (suc n) (seen m (suc n) f) (seen m n f, constant n false)
    (λ ρ.
    value_seen m (suc n) f ρ (omega arith)
    ∙ sym (ap₂ (λ x y. x ⊕ (ρ n && y)) (value_seen m n f ρ h) (value_constant n false ρ)
    ∙ ap (λ y. value m f ρ ⊕ y) (and-false (ρ n)) ∙ ⊕_false (value m f ρ)))

bit_more : (n : ℕ) (f : Form n) (k : ℕ) → bit_of (suc n) (f, constant n false) k ≡ bit_of n f k
bit_more n f k =
    let g : Form (suc n) = (f, constant n false) in
    ⊎_elim
    (by_halves (λ i. bit_of (suc n) g i ≡ bit_of n f i) n
    (λ i l. bit_of_low (suc n) g i (omega (arith, two-pow-succ n)) ∙ has_low n g i l ∙ sym (bit_of_low n f i l))
    (λ i l.
    bit_of_low (suc n) g (2 ^ n + i) (omega (arith, two-pow-succ n)) ∙ has_high n g i l ∙ has_false n (bit i)
    ∙ sym (bit_of_high n f (2 ^ n + i) (omega arith)))
    k)
    (λ h. bit_of_high (suc n) g k h ∙ sym (bit_of_high n f k (omega (arith, two-pow-succ n))))
    (less_or_not k (2 ^ suc n))

seen_self : (m : ℕ) (f : Form m) → seen m m f ≡ f
seen_self m f = canonical m (seen m m f) f (λ ρ. value_seen m m f ρ (le_refl m))

pub bit_seen : (m n : ℕ) (f : Form m) (k : ℕ) → m ≤ n → bit_of n (seen m n f) k ≡ bit_of m f k
bit_seen m n f k h =
    le_ind (λ x. bit_of x (seen m x f) k ≡ bit_of m f k) (ap (λ g. bit_of m g k) (seen_self m f)) more n h
  where
    more : (x : ℕ) → m ≤ x → bit_of x (seen m x f) k ≡ bit_of m f k → bit_of (suc x) (seen m (suc x) f) k ≡ bit_of m f k
    more x l e = ap (λ g. bit_of (suc x) g k) (seen_more m x f l) ∙ bit_more x (seen m x f) k ∙ e

pub pack_seen : (m n : ℕ) (f : Form m) → m ≤ n → pack m f ≡ pack n (seen m n f)
pack_seen m n f h =
    pack_is n (seen m n f) (pack m f) (pack_words m f) (λ k l. bit_pack m f k l ∙ sym (bit_seen m n f k h))

-- the bits of what is made bit by bit
pub bit_of_false : (m k : ℕ) → bit_of m (constant m false) k ≡ false
unfolding bit_of
bit_of_false m k = ap (λ b. ltb k (2 ^ m) && b) (has_false m (bit k)) ∙ and-false (ltb k (2 ^ m))

pub bit_of_xor : (m : ℕ) (f g : Form m) (k : ℕ) → bit_of m (xor m f g) k ≡ bit_of m f k ⊕ bit_of m g k
unfolding bit_of
bit_of_xor m f g k =
    ap (λ b. ltb k (2 ^ m) && b) (has_xor m f g (bit k)) ∙ &&_⊕ (ltb k (2 ^ m)) (has m f (bit k)) (has m g (bit k))

pub bit_of_each : (m : ℕ) (f g : Form m) (k : ℕ) → bit_of m (each m f g) k ≡ (bit_of m f k && bit_of m g k)
unfolding bit_of
bit_of_each m f g k =
    ap (λ b. ltb k (2 ^ m) && b) (has_each m f g (bit k)) ∙ both (ltb k (2 ^ m)) (has m f (bit k)) (has m g (bit k))
  where
    both : (a b c : Bool) → (a && (b && c)) ≡ (a && b && (a && c))
    both true b c = refl
    both false b c = refl

-- word i of a form's row, and a row that is made word by word
pub word_lt : (m : ℕ) (f : Form m) (ws : List ℕ) (i : ℕ) → ws ≡ pack m f → get_or ws i 0 < 2 ^ 64
word_lt m f ws i e = subst (λ x. get_or x i 0 < 2 ^ 64) (sym e) ((pack_words m f).small i)

pub word_bit : (m : ℕ) (f : Form m) (ws : List ℕ) (i t : ℕ) → ws ≡ pack m f → i < 64 → t < 64
    → bit (get_or ws i 0) t ≡ bit_of m f (64 * i + t)
unfolding bit_at
word_bit m f ws i t e h l =
    ap (λ x. bit (get_or x i 0) t) e
    ∙ ap₂ (λ x y. bit (get_or (pack m f) x 0) y) (let q : i ≡ (64 * i + t) / 64 = omega arith in q)
    (let q : t ≡ (64 * i + t) % 64 = omega arith in q)
    ∙ bit_pack m f (64 * i + t) (omega arith)

pub pack_by : (m : ℕ) (f : Form m) (r : List ℕ) → length r ≡ 64 → ((i : ℕ) → i < 64 → get_or r i 0 < 2 ^ 64)
    → ((i t : ℕ) → i < 64 → t < 64 → bit (get_or r i 0) t ≡ bit_of m f (64 * i + t)) → r ≡ pack m f
unfolding bit_at
pack_by m f r l small bits =
    pack_is m f r (words_of_lem 64 r l small)
    (λ k h.
    bits (k / 64) (k % 64) (omega arith) (omega arith)
    ∙ ap (bit_of m f) (let e : 64 * (k / 64) + k % 64 ≡ k = omega arith in e))

-- false is 64 words of zeros
pub pack_false : (m : ℕ) → replicate 64 0 ≡ pack m (constant m false)
pack_false m =
    pack_is m (constant m false) (replicate 64 0) (zero_words 64) (λ k h. zero_bit 64 k ∙ sym (bit_of_false m k))

-- 64 words have room for 12 parameters, and for no more
pub most_is : most ≡ 12
unfolding most
most_is = refl

pub most_few : most ≤ 12
most_few = subst (λ m. m ≤ 12) (sym most_is) (le_refl 12)

pub most_wide : 4096 ≤ 2 ^ most
most_wide = subst (λ m. 4096 ≤ 2 ^ m) (sym most_is) (le_refl 4096)

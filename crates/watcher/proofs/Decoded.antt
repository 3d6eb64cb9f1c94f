-- What passes the checks of the lists is a rule of `meaning`.
-- Assumes nothing.
use Rattle.std.proofs.Common.{Ok, Err}
use mathlib.Core.Path.{◌≡◌, refl, sym, ap, ◌∙◌, subst}
use mathlib.Core.Bool.{Bool, true, false, not, ◌&&◌, ◌||◌, cond, false≢true, and-eq-true_iff}
use mathlib.Core.Logic.{⊎_elim}
use mathlib.Core.List.{List, ◌++◌}
use Prim.Native.Nat.{ℕ, ◌+◌, ◌*◌, ◌/◌, ◌%◌, ◌≤◌, ◌<◌}
use native.Mathlib.Omega.{arith}
use lib.Dec.{eqb, leb, ltb}
use lib.ListN.{length, get_or-append}
use borrow.Author.Tests.{ltb-true, ltb-false, leb-true, leb-false, eqb-true, eqb-false, eq-eqb, ne_eqb, not-false}
use Rattle.ground.proofs.Folds.{less_or_not, none_at}
use Rattle.ground.proofs.Tabs.{tab_cong}
use Rattle.meaning.specs.Rule.{Node, fixed, signal, both, either, next, until, previous, since}
use Rattle.meaning.specs.Rule.{node_at, Earlier, Ordered, parameters}
use Rattle.watcher.specs.declared.state.Refusal.{Refusal}
use Rattle.watcher.specs.Answers.{Found}
use Rattle.rewriting.specs.Decode.{byte_of}
use Rattle.watcher.specs.Rules.{records_of, wrong_length_in, wrong_length, used_bytes, uses}
use Rattle.watcher.specs.Rules.{fair_limits, names_right, used_right}
use Rattle.rewriting.specs.Decode.{record_in, node_in, rule_in}
use Rattle.watcher.specs.Rules.{byte_breaks, rule_breaks, has_twins}
use Rattle.watcher.specs.Signals.{wrong_signals, names_missing}
use Rattle.watcher.specs.Lists.{first_refusal, rule_refusal, list_tests, lists_refusal}
use Rattle.watcher.specs.Rules.{many_parameters}
use Rattle.watcher.specs.Limits.{most_parameters, list_bytes}
use Rattle.rewriting.proofs.Rules.{length_rule_in, node_in_lem, node_past, node_same}
use Rattle.rewriting.proofs.ByKind.{by_byte, number_of_kind}
use Rattle.watcher.proofs.Checking.{breaks_some}

-- each test of the lists fails
pub record Accepted (rule signals : List ℕ) : Type 0 where
  pub long : wrong_length rule ≡ false
  pub laid : rule_breaks rule ≡ false
  pub apart : has_twins rule ≡ false
  pub few : many_parameters rule ≡ false
  pub listed : wrong_signals signals ≡ false
  pub named : names_missing rule (records_of signals) ≡ false

pub first_fine : (b : Bool) (r : Refusal) (f : Found) → cond b (Err r) f ≡ Ok tt → (b ≡ false) × (f ≡ Ok tt)
first_fine true r f e = let z : ◌≡◌ {A = ℕ} 0 1 = cc in let y : ⊥ = omega arith in absurd y
first_fine false r f e = (refl, e)

module _ (rule signals : List ℕ) where
  pub fine_tests : lists_refusal rule signals ≡ Ok tt → Accepted rule signals
  unfolding lists_refusal list_tests first_refusal
  fine_tests e =
      let a = first_fine (wrong_length rule) _ _ e in
      let b = first_fine (rule_breaks rule) _ _ a.1 in
      let c = first_fine (has_twins rule) _ _ b.1 in
      let d = first_fine (many_parameters rule) _ _ c.1 in
      let f = first_fine (wrong_signals signals) _ _ d.1 in
      let g = first_fine (names_missing rule (records_of signals)) _ _ f.1 in
      record { long = a.0; laid = b.0; apart = c.0; few = d.0; listed = f.0; named = g.0 }

  pub tests_fine : Accepted rule signals → lists_refusal rule signals ≡ Ok tt
  unfolding lists_refusal list_tests first_refusal
  tests_fine a = rw (a.long, a.laid, a.apart, a.few, a.listed, a.named)

-- tests that fail
pub neither : (a b : Bool) → (a || b) ≡ false → (a ≡ false) × (b ≡ false)
neither true b e = absurd (false≢true (sym e))
neither false b e = (refl, e)

-- a length that is not wrong: whole records, 1 to 16 of them
pub record Whole (list : List ℕ) : Type 0 where
  pub whole : length list ≡ 8 * records_of list
  pub some : 0 < records_of list
  pub most : records_of list ≤ 16

pub length_fine : (list : List ℕ) → wrong_length list ≡ false → Whole list
unfolding wrong_length_in records_of
length_fine list e =
    let a = neither (not (eqb (length list % 8) 0)) _ e in
    let b = neither (eqb (length list) 0) _ a.1 in
    let w : length list % 8 ≡ 0 = eqb-true _ _ (not-false _ a.0) in
    let s : length list ≡ 0 → ⊥ = eqb-false _ _ b.0 in
    let m : length list / 8 ≤ 16 = ltb-false _ _ b.1 in
    record { whole = omega arith; some = omega arith; most = omega arith }

-- a list of the right length is no longer than a list may be, and so is a rule that passes its tests
pub length_most : (list : List ℕ) → wrong_length list ≡ false → length list ≤ list_bytes
length_most list e = let w = length_fine list e in omega (arith, w.whole, w.most)

pub rule_most : (rule : List ℕ) → Ok tt ≡ rule_refusal rule → length rule ≤ list_bytes
unfolding rule_refusal first_refusal
rule_most rule e = length_most rule (first_fine (wrong_length rule) _ _ (sym e)).0

-- no byte of a record breaks the layout
abbrev pub Keeps : List ℕ → ℕ → Type 0
Keeps list k = (i : ℕ) → i < 8 → byte_breaks list k i ≡ false

-- what such a record holds
pub record Laid (list : List ℕ) (k : ℕ) : Type 0 where
  pub low : 1 ≤ byte_of list k 0
  pub high : byte_of list k 0 ≤ 9
  pub signal : byte_of list k 0 ≡ 3 → byte_of list k 1 < 16
  pub left : (byte_of list k 0 ≡ 3 → ⊥) → uses (byte_of list k 0) 1 ≡ true → byte_of list k 1 < k
  pub right : uses (byte_of list k 0) 2 ≡ true → byte_of list k 2 < k

-- what a kind wants at byte i
abbrev right_by : List ℕ → (k i kind : ℕ) → Bool
right_by list k i kind =
    cond (eqb i 0) (leb 1 kind && leb kind 9)
    (cond (eqb i 1) (names_right kind (byte_of list k 1) k)
    (cond (eqb i 2) (names_right kind (byte_of list k 2) k) (fair_limits (record_in list k).interval)))

-- a used byte of a record that keeps the layout is what the kind wants there
byte_fine : (list : List ℕ) (k i : ℕ) → Keeps list k → i < 8
    → (eqb i 0 || uses (byte_of list k 0) i) ≡ true → right_by list k i (byte_of list k 0) ≡ true
unfolding byte_breaks used_right record_in
byte_fine list k i e h u =
    ap (right_by list k i) (sym (number_of_kind (byte_of list k 0)))
    ∙ ap (λ b. cond b (used_right (record_in list k) k i) (eqb (byte_of list k i) 0)) (sym u)
    ∙ not-false _ (e i h)

pub record_fine : (list : List ℕ) (k : ℕ) → Keeps list k → Laid list k
unfolding names_right uses used_bytes
record_fine list k e =
    record {
      low = leb-true 1 kind kinds.0;
      high = leb-true kind 9 kinds.1;
      signal = λ q. room 1 (eq-eqb kind 3 q) (byte_fine list k 1 e (omega arith) (ap (λ x. uses x 1) q));
      left = λ n u. room 1 (ne_eqb kind 3 n) (byte_fine list k 1 e (omega arith) u);
      right = λ u. room 2 (ne_eqb kind 3 (other u)) (byte_fine list k 2 e (omega arith) u);
    }
  where
    kind : ℕ
    kind = byte_of list k 0

    kinds : (leb 1 kind ≡ true) × (leb kind 9 ≡ true)
    kinds = (and-eq-true_iff (leb 1 kind) (leb kind 9)).0 (byte_fine list k 0 e (omega arith) refl)

    other : uses kind 2 ≡ true → kind ≡ 3 → ⊥
    other u q = false≢true (sym (ap (λ x. uses x 2) q) ∙ u)

    room : (i : ℕ) {b : Bool} → eqb kind 3 ≡ b → ltb (byte_of list k i) (cond (eqb kind 3) 16 k) ≡ true
        → byte_of list k i < cond b 16 k
    room i q t = ltb-true _ _ (subst (λ b. ltb (byte_of list k i) (cond b 16 k) ≡ true) q t)

-- a record names only signals below c
abbrev pub Names : ℕ → Node → Type 0
Names c (fixed b) = Unit {0}
Names c (signal s) = s < c
Names c (both l r) = Unit {0}
Names c (either l r) = Unit {0}
Names c (next l v) = Unit {0}
Names c (until l r v) = Unit {0}
Names c (previous l v) = Unit {0}
Names c (since l r v) = Unit {0}

-- the record that bytes in the layout hold
pub node_fine : (list : List ℕ) (k c : ℕ) → Laid list k → (byte_of list k 0 ≡ 3 → byte_of list k 1 < c)
    → Earlier k (node_in list k) × Names c (node_in list k)
unfolding node_in Earlier uses used_bytes
node_fine list k c a named =
    by_byte (λ x. Earlier k x × Names c x) kind _ _ _ (λ q. (tt, tt)) (λ q. (tt, tt)) (λ q. (tt, named q))
    (λ q. (children q refl, tt)) (λ q. (children q refl, tt)) (λ q. (left q refl, tt)) (λ q. (children q refl, tt))
    (λ q. (left q refl, tt))
    (λ o. let q : kind ≡ 9 = omega (arith, a.high, o a.low) in (children q refl, tt))
  where
    kind : ℕ
    kind = byte_of list k 0

    left : {j : ℕ} → kind ≡ j → (ltb 3 j && uses j 1) ≡ true → byte_of list k 1 < k
    left {j} q u =
        let b = (and-eq-true_iff (ltb 3 j) (uses j 1)).0 u in
        let l : 3 < j = ltb-true 3 j b.0 in
        a.left (omega arith) (ap (λ x. uses x 1) q ∙ b.1)

    children : {j : ℕ} → kind ≡ j → (ltb 3 j && uses j 1 && uses j 2) ≡ true
        → (byte_of list k 1 < k) × (byte_of list k 2 < k)
    children {j} q u =
        let b = (and-eq-true_iff (ltb 3 j && uses j 1) (uses j 2)).0 u in
        (left q b.0, a.right (ap (λ x. uses x 2) q ∙ b.1))

-- the rule in the first n records of a list
module _ (list : List ℕ) (n : ℕ) where
  module _ (laid : (k : ℕ) → k < n → Keeps list k) where
    nodes_fine : (c : ℕ) → ((k : ℕ) → k < n → byte_of list k 0 ≡ 3 → byte_of list k 1 < c) → (k : ℕ)
        → Earlier k (node_at (rule_in list n) k) × Names c (node_at (rule_in list n) k)
    unfolding Earlier
    nodes_fine c named k =
        ⊎_elim
        (λ l. rw (node_in_lem list n k l) (node_fine list k c (record_fine list k (laid k l)) (named k l)))
        (λ l. rw (node_past list n k l) (tt, tt)) (less_or_not k n)

    -- left and right name earlier records
    pub rule_in_ordered : Ordered (rule_in list n)
    rule_in_ordered k = (nodes_fine 16 (λ k l. (record_fine list k (laid k l)).signal) k).0

    -- its signals are below c where its bytes say so
    pub rule_in_signals : (c : ℕ) → ((k : ℕ) → k < n → byte_of list k 0 ≡ 3 → byte_of list k 1 < c) → (k s : ℕ)
        → node_at (rule_in list n) k ≡ signal s → s < c
    rule_in_signals c named k s e = subst (Names c) e (nodes_fine c named k).1

-- what stands behind a list's records does not count
module _ (list rest : List ℕ) where
  pub byte_before : (k i : ℕ) → k < records_of list → i < 8 → byte_of (list ++ rest) k i ≡ byte_of list k i
  unfolding byte_of records_of
  byte_before k i h l = get_or-append list rest 0 (8 * k + i) (omega arith)

  pub node_before : (k : ℕ) → k < records_of list → node_in (list ++ rest) k ≡ node_in list k
  node_before k h = node_same (list ++ rest) list k (λ i l. byte_before k i h l)

  pub rule_in_before : (n : ℕ) → n ≤ records_of list → rule_in (list ++ rest) n ≡ rule_in list n
  unfolding rule_in
  rule_in_before n h = tab_cong n (node_in (list ++ rest)) (node_in list) (λ k l. node_before k (omega arith))

-- a signal list that is not wrong has 1 to 16 records
pub signals_whole : (list : List ℕ) → wrong_signals list ≡ false → Whole list
unfolding wrong_signals
signals_whole list e = length_fine list (neither _ _ e).0

-- lists that are accepted hold a rule of 1 to 16 records, in order, with at most 12 parameters and known signals
module _ (rule signals : List ℕ) (fine : Accepted rule signals) where
  pub accepted_laid : (k : ℕ) → k < records_of rule → Keeps rule k
  accepted_laid k h =
      none_at 8 (byte_breaks rule k) (none_at (records_of rule) _ (sym (breaks_some rule) ∙ fine.laid) k h)

  pub accepted_some : 0 < length (rule_in rule (records_of rule))
  accepted_some = rw length_rule_in (length_fine rule fine.long).some

  pub accepted_ordered : Ordered (rule_in rule (records_of rule))
  accepted_ordered = rule_in_ordered rule (records_of rule) accepted_laid

  pub accepted_few : parameters (rule_in rule (records_of rule)) ≤ 12
  unfolding many_parameters
  accepted_few = ltb-false 12 (parameters (rule_in rule (records_of rule))) fine.few

  pub accepted_list : Whole signals
  accepted_list = signals_whole signals fine.listed

  pub accepted_signals : (k s : ℕ) → node_at (rule_in rule (records_of rule)) k ≡ signal s
      → (s < records_of signals) × (s < 16)
  unfolding names_missing
  accepted_signals k s e = (below, omega (arith, below, accepted_list.most))
    where
      named : (k : ℕ) → k < records_of rule → byte_of rule k 0 ≡ 3 → byte_of rule k 1 < records_of signals
      named k l q =
          leb-false _ _ (ap (λ b. b && leb (records_of signals) (byte_of rule k 1)) (sym (eq-eqb _ _ q))
          ∙ none_at (records_of rule) _ fine.named k l)

      below : s < records_of signals
      below = rule_in_signals rule (records_of rule) accepted_laid (records_of signals) named k s e

-- whether a rule has more parameters than it may, counted
pub parameters_all : (list : List ℕ) (n p : ℕ) → n ≡ records_of list → p ≡ parameters (rule_in list n)
    → ltb most_parameters p ≡ many_parameters list
unfolding many_parameters
parameters_all list n p e q = rw (q, e)

-- The rows of a rule's records: those of one record, shift by shift, and what each adds to what rows may name.
-- Assumes nothing.
use mathlib.Core.Path.{◌≡◌, refl, sym, ap, ap₂, ◌∙◌, subst}
use mathlib.Core.Bool.{Bool, true, false, ◌&&◌, ◌||◌, or-false}
use mathlib.Core.Logic.{⊎_elim}
use mathlib.Core.List.{List}
use Prim.Native.Nat.{ℕ, suc, ◌+◌, ◌-◌, ◌*◌, ◌%◌, ◌^◌, ◌≤◌, ◌<◌}
use native.Mathlib.Nat.{lt_of_lt_of_le}
use native.Mathlib.Numerals.{add-one}
use native.Mathlib.Omega.{arith}
use borrow.Author.Tests.{lt-leb, lt-ltb, le-ltb}
use lib.Bits.{bit_or, or_lt}
use lib.Dec.{leb, ltb}
use lib.ListN.{length, get_or}
use lib.Pow.{pow_pos, pow_mono, shl_lt, shl_exact}
use mir.Syntax.{w64}
use mir.Val.{Fits}
use Rattle.ground.specs.Bits.{bit, of_bits}
use Rattle.ground.proofs.Folds.{less_or_not, some_at, some_none}
use Rattle.ground.proofs.Tabs.{get_d_tab}
use Rattle.ground.proofs.Bits.{bit_or_lem, bit_shl, bit_above, one_shl}
use Rattle.ground.proofs.Numbers.{same_bits, of_bits_lt, bit_of_bits, bit_ones, words_of_lem}
use Rattle.forms.specs.Form.{Form}
use Rattle.forms.specs.Words.{pack, unpack, fits}
use Rattle.forms.specs.Area.{row_at, form_in}
use Rattle.forms.proofs.Packing.{pack_unpack}
use Rattle.meaning.specs.Rule.{Node, node_at, count, first_of, Entry}
use Rattle.rewriting.specs.declared.step.Moment.{Moment}
use Rattle.rewriting.specs.declared.step.Plan.{Plan}
use Rattle.rewriting.specs.Decode.{node_for}
use Rattle.rewriting.specs.Known.{form_at, past_in}
use Rattle.rewriting.specs.Plans.{Sound, rule_for, entry_for}
use Rattle.rewriting.proofs.Rules.{length_rule_in, node_in_lem, record_node}
use Rattle.rewriting.proofs.Walking.{block_fits}
use Rattle.rewriting.specs.declared.step.Record.{Record}
use Rattle.rewriting.specs.declared.shape.Here.{Here}
use Rattle.rewriting.specs.inside.Listed.{Given}
use Rattle.rewriting.specs.Shape.{looks_forward, forward, wrong_row, wrong_at, wrong_rows}
use Rattle.rewriting.specs.inside.Shapes.{Before, Tells, Fitting, widened}

-- a row that fits is that of its form
pub row_is : (m : ℕ) (row : List ℕ) → length row ≡ 64 → ((i : ℕ) → Fits w64 (get_or row i 0)) → fits m row ≡ true
    → row ≡ pack m (unpack m row)
row_is m row long small e = pack_unpack m row (words_of_lem 64 row long (λ i h. (small i).fits)) e

-- a row that was loaded fits
pub row_fits : (m : ℕ) (ws : List ℕ) (j : ℕ) (row : List ℕ) → Fitting m ws → j < m → row ≡ row_at ws j
    → fits m row ≡ true
row_fits m ws j row all h e = ap (fits m) e ∙ all j h

-- form j of the past rows
past_form : (m : ℕ) (ws : List ℕ) (j : ℕ) → j < m → form_in m (past_in m ws) j ≡ unpack m (row_at ws j)
unfolding past_in form_at
past_form m ws j h = get_d_tab m (form_at m ws) j _ h

-- the row of a record's shift
module _ (here : Here) (last : Moment) (ws : List ℕ) (n : ℕ) (row : List ℕ)
    (h : n < here.count) (e : row ≡ row_at ws (here.first + n)) where
  pub tested : Fitting here.m ws → length row ≡ 64 → ((i : ℕ) → Fits w64 (get_or row i 0)) → (rule : List Node) (k : ℕ)
      → Tells rule k here → (r : Bool)
      → (row ≡ pack here.m (unpack here.m row)
      → r ≡ wrong_row rule here.m (entry_for last) k n (node_at rule k) (unpack here.m row))
      → r ≡ wrong_row rule here.m (entry_for last) k n (node_at rule k)
      (form_in here.m (past_in here.m ws) (first_of rule k + n))
  tested all long small rule k t r w =
      w (row_is here.m row long small (row_fits here.m ws (here.first + n) row all (omega (arith, here.within)) e))
      ∙ ap (wrong_row rule here.m (entry_for last) k n (node_at rule k))
      (ap (unpack here.m) e ∙ sym (past_form here.m ws (here.first + n) (omega (arith, here.within)))
      ∙ ap (λ x. form_in here.m (past_in here.m ws) (x + n)) t.before.starts)

-- the parameters of a record, as bits
own_bits : (first own p : ℕ) → bit ((2 ^ own - 1) * 2 ^ first) p ≡ (leb first p && ltb p (first + own))
own_bits first own p =
    bit_shl (2 ^ own - 1) first p
    ∙ ⊎_elim (λ h. let e = lt-leb first p h in rw e)
    (λ h.
    ap (λ b. leb first p && b)
    (⊎_elim (λ l. bit_ones own (p - first) l ∙ sym (lt-ltb p (first + own) (omega arith)))
    (λ l.
    bit_above (2 ^ own - 1) own (p - first) (omega (arith, pow_pos own)) l
    ∙ sym (le-ltb p (first + own) (omega arith)))
    (less_or_not (p - first) own)))
    (less_or_not p first)

-- what rows of the next record may name
module _ (here : Here) where
  pub widen_kept : looks_forward (node_for here.record) ≡ false → here.allowed ≡ widened here
  unfolding widened
  widen_kept e =
      same_bits 12 here.allowed _ here.bits (of_bits_lt 12 _)
      (λ p h. sym (bit_of_bits 12 _ p h ∙ rw e (or-false (bit here.allowed p))))

  pub widen_own : looks_forward (node_for here.record) ≡ true
      → bit_or here.allowed ((((1 * 2 ^ here.count) % 2 ^ 64 - 1) * 2 ^ here.first) % 2 ^ 64) ≡ widened here
  unfolding widened
  widen_own looks =
      ap (bit_or here.allowed)
      (ap (λ x. ((x - 1) * 2 ^ here.first) % 2 ^ 64) (one_shl here.count (omega arith))
      ∙ shl_exact here.count here.first 64 less (omega arith))
      ∙ same_bits 12 (bit_or here.allowed own) _
      (or_lt 12 here.allowed own here.bits
      (lt_of_lt_of_le (shl_lt here.count here.first less)
      (pow_mono {i = here.count + here.first} {j = 12} (omega arith))))
      (of_bits_lt 12 _)
      (λ p u.
      bit_or_lem here.allowed own p ∙ ap (λ b. bit here.allowed p || b) (own_bits here.first here.count p)
      ∙ sym (bit_of_bits 12 _ p u ∙ rw looks))
    where
      within : here.first + here.count ≤ 12
      within = omega (arith, here.few, here.within)

      own : ℕ
      own = (2 ^ here.count - 1) * 2 ^ here.first

      less : 2 ^ here.count - 1 < 2 ^ here.count
      less = omega (arith, pow_pos here.count)

-- what is counted before the first record, and before the next
pub before_none : (rule : List Node) → Before rule 0 0 0
unfolding first_of forward of_bits
before_none rule = record { starts = refl; allows = refl }

before_suc : (rule : List Node) (k : ℕ) (here : Here) → Tells rule k here
    → Before rule (suc k) (here.first + here.count) (widened here)
unfolding widened forward first_of
before_suc rule k here t =
    record {
      starts = ap₂ ◌+◌ t.before.starts t.counts;
      allows =
          same_bits 12 _ _ (of_bits_lt 12 _) (of_bits_lt 12 _)
          (λ p h.
          bit_of_bits 12 _ p h
          ∙ rw (
            t.node,
            t.before.starts,
            t.counts,
            t.before.allows,
            bit_of_bits 12 (forward rule k) p h,
          )
          (sym (bit_of_bits 12 _ p h)));
    }

pub before_next : (rule : List Node) (k : ℕ) (here : Here) (allowed : ℕ) → Tells rule k here
    → allowed ≡ widened here → Before rule (k + 1) (here.first + here.count) allowed
before_next rule k here allowed t e =
    subst (λ x. Before rule (k + 1) (here.first + here.count) x) (sym e)
    (subst (λ x. Before rule x (here.first + here.count) (widened here)) (sym (add-one k))
    (before_suc rule k here t))

-- the records of a plan's rule
module _ (list : List ℕ) (plan : Plan) where
  pub tells : (n k : ℕ) (here : Here) → n ≡ k → Given list plan.records k here.record here.first
      → here.count ≡ count (node_for here.record) → here.allowed ≡ of_bits 12 (forward (rule_for list plan) n)
      → Tells (rule_for list plan) k here
  tells n k here e given counts allows =
      let node : node_for here.record ≡ node_at (rule_for list plan) k =
      record_node list k here.record given.read ∙ sym (node_in_lem list plan.records k given.less) in
      record {
        node = node;
        counts = counts ∙ ap count node;
        before =
            record {
              starts = given.begins;
              allows = allows ∙ ap (λ x. of_bits 12 (forward (rule_for list plan) x)) e;
            };
      }

  pub placed : Sound list plan → (n k first c allowed : ℕ) (d : Record) → Given list plan.records k d first
      → c ≡ count (node_for d) → allowed ≡ of_bits 12 (forward (rule_for list plan) n)
      → (plan.m ≤ 12) × (first + c ≤ plan.m) × (allowed < 2 ^ 12)
  placed sound n k first c allowed d given counts allows = (
    omega (arith, sound.few, sound.room),
    block_fits list plan sound k first c d given counts,
    subst (λ x. x < 2 ^ 12) (sym allows) (of_bits_lt 12 _),
  )

  -- a wrong record is found, or there is none
  module _ (e : Entry) (past : List (Form plan.m)) where
    pub rows_found : (k : ℕ) (r : Bool) → k < plan.records
        → r ≡ wrong_at (rule_for list plan) plan.m e past k → r ≡ true
        → true ≡ wrong_rows (rule_for list plan) plan.m e past
    unfolding wrong_rows
    rows_found k r h q t =
        sym (some_at (length (rule_for list plan)) (wrong_at (rule_for list plan) plan.m e past) k
        (subst (λ n. k < n) (sym (length_rule_in list plan.records)) h) (sym q ∙ t))

    pub rows_none : (k : ℕ) → plan.records ≤ k
        → ((j : ℕ) → j < k → wrong_at (rule_for list plan) plan.m e past j ≡ false)
        → false ≡ wrong_rows (rule_for list plan) plan.m e past
    unfolding wrong_rows
    rows_none k h all =
        sym (some_none (length (rule_for list plan)) (wrong_at (rule_for list plan) plan.m e past)
        (λ j l. all j (omega (arith, length_rule_in list plan.records))))

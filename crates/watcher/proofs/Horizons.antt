-- Horizons in minutes: how a record's comes from those of the records before it, and the rule's.
-- Assumes nothing.
use Rattle.std.proofs.Common.{Option, Some, None}
use mathlib.Core.Path.{◌≡◌, refl, sym, ap, ap₂, ◌∙◌, subst}
use mathlib.Core.Bool.{Bool, true, false}
use mathlib.Core.Logic.{◌⊎◌, ⊎_elim}
use mathlib.Core.List.{List}
use Prim.Native.Nat.{ℕ, zero, suc, ◌+◌, ◌-◌, ◌*◌, ◌≤◌, ◌<◌}
use native.Mathlib.Nat.{le_antisymm}
use native.Mathlib.Decide.{dec_lt}
use native.Mathlib.Numerals.{add-one}
use native.Mathlib.Omega.{arith}
use lib.Dec.{eqb}
use lib.ListN.{length, get_or, set, replicate, get_or-eq_default}
use lib.Seq.{get_or-set_same, get_or-set_other}
use borrow.Author.Tests.{eqb-true, eqb-false}
use Rattle.meaning.specs.Rule.{Node}
use Rattle.meaning.specs.Horizon.{Horizon, never, larger, later, horizon_of, horizons, horizon}
use Rattle.meaning.proofs.Horizons.{later_never, length_horizons, horizons_low, horizons_new}
use Rattle.rewriting.specs.declared.step.Interval.{Interval}
use Rattle.rewriting.specs.declared.step.Record.{Record}
use Rattle.rewriting.specs.Decode.{interval_for, node_in, rule_in, node_for}
use Rattle.rewriting.specs.Clauses.{EndlessClause}
use Rattle.rewriting.proofs.Rules.{length_rule_in, node_in_lem}
use Rattle.rewriting.proofs.Ends.{later_onward, later_between}
use Rattle.rewriting.specs.declared.kind.Kind.{Kind}
use Rattle.rewriting.specs.declared.kind.Kind.TheVariants.{True, False, Signal, And, Xor, Next, Until, Previous}
use Rattle.rewriting.proofs.ByKind.{LikeSince, over, node_by, is_kind, kind_since}
use Rattle.watcher.specs.Numbers.{horizon_for}
use Rattle.watcher.specs.inside.Horizons.{Told, UpTo, Small, OfRecord}

-- the horizons of the other records stay
horizons_other : (rule : List Node) (k j : ℕ) → (j ≡ k → ⊥)
    → get_or (horizons rule (suc k)) j never ≡ get_or (horizons rule k) j never
horizons_other rule k j n = go (dec_lt j k)
  where
    go : Dec (j < k) → get_or (horizons rule (suc k)) j never ≡ get_or (horizons rule k) j never
    go (yes h) = horizons_low rule k j h
    go (no h) =
        let over : length (horizons rule (suc k)) ≤ j = omega (arith, length_horizons rule (suc k), n) in
        let past : length (horizons rule k) ≤ j = omega (arith, length_horizons rule k) in
        get_or-eq_default (horizons rule (suc k)) never over
        ∙ sym (get_or-eq_default (horizons rule k) never past)

-- with no upper end there is no limit, and none stays none
module _ (v : Interval) (b : Bool) (tells : EndlessClause v b) (a : Option ℕ) where
  pub later_endless : b ≡ true → horizon_for None ≡ later (interval_for v) (horizon_for a)
  unfolding horizon_for
  later_endless e = sym (later_onward v b tells (horizon_for a) e)

  pub later_high : b ≡ false → (h : ℕ) → a ≡ Some h
      → horizon_for (Some (v.high + h)) ≡ later (interval_for v) (horizon_for a)
  unfolding horizon_for
  later_high e h is = sym (ap (λ x. later (interval_for v) (horizon_for x)) is ∙ later_between v b tells h e)

  pub later_none : a ≡ None → horizon_for None ≡ later (interval_for v) (horizon_for a)
  unfolding horizon_for
  later_none is = sym (ap (λ x. later (interval_for v) (horizon_for x)) is ∙ later_never (interval_for v))

pub up_to_more : (n m : ℕ) (a : Option ℕ) → n ≤ m → UpTo n a → UpTo m a
up_to_more n m None l h = tt
up_to_more n m (Some x) l h = omega arith

-- a record's horizon, by its kind
module _ (d : Record) (minutes : List (Option ℕ)) where
  of_kind : (kind : Kind) (r : Option ℕ) → d.kind ≡ kind
      → ((earlier : List Horizon) → Told minutes earlier
      → horizon_for r ≡ horizon_of earlier (node_by kind d.left d.right (over d))) → OfRecord d minutes r
  of_kind kind r e h earlier told = is_kind d (λ x. horizon_for r ≡ horizon_of earlier x) kind e (h earlier told)

  -- constants and signals
  pub record_plain : (d.kind ≡ True) ⊎ ((d.kind ≡ False) ⊎ (d.kind ≡ Signal)) → OfRecord d minutes (Some 0)
  unfolding horizon_of horizon_for
  record_plain e =
      ⊎_elim (λ q. of_kind True (Some 0) q (λ earlier told. refl))
      (⊎_elim (λ q. of_kind False (Some 0) q (λ earlier told. refl))
      (λ q. of_kind Signal (Some 0) q (λ earlier told. refl))) e

  module _ (left right both : Option ℕ) (e : left ≡ get_or minutes d.left None)
      (q : right ≡ get_or minutes d.right None)
      (made : horizon_for both ≡ larger (horizon_for left) (horizon_for right)) where
    first : (earlier : List Horizon) → Told minutes earlier → horizon_for left ≡ get_or earlier d.left never
    first earlier told = ap horizon_for e ∙ told d.left

    joins : (earlier : List Horizon) → Told minutes earlier
        → horizon_for both ≡ larger (get_or earlier d.left never) (get_or earlier d.right never)
    joins earlier told = made ∙ ap₂ larger (first earlier told) (ap horizon_for q ∙ told d.right)

    pub record_next : (r : Option ℕ) → d.kind ≡ Next → horizon_for r ≡ later (over d) (horizon_for left)
        → OfRecord d minutes r
    unfolding horizon_of
    record_next r k h = of_kind Next r k (λ earlier told. h ∙ ap (later (over d)) (first earlier told))

    pub record_until : (r : Option ℕ) → d.kind ≡ Until → horizon_for r ≡ later (over d) (horizon_for both)
        → OfRecord d minutes r
    unfolding horizon_of
    record_until r k h = of_kind Until r k (λ earlier told. h ∙ ap (later (over d)) (joins earlier told))

    pub record_previous : d.kind ≡ Previous → OfRecord d minutes left
    unfolding horizon_of
    record_previous k = of_kind Previous left k first

    -- and, exclusive or, since
    pub record_larger : (d.kind ≡ And) ⊎ ((d.kind ≡ Xor) ⊎ LikeSince d.kind) → OfRecord d minutes both
    unfolding horizon_of
    record_larger e =
        ⊎_elim (λ q. of_kind And both q joins)
        (⊎_elim (λ q. of_kind Xor both q joins)
        (λ q earlier told. kind_since d (λ x. horizon_for both ≡ horizon_of earlier x) (joins earlier told) q)) e

-- the table: none, one record more, and the rule's
none_at : (n j : ℕ) → get_or {A = Option ℕ} (replicate n None) j None ≡ None
none_at zero j = refl
none_at (suc n) zero = refl
none_at (suc n) (suc j) = none_at n j

pub small_none : (n k : ℕ) → Small (replicate n None) k
small_none n k j = subst (UpTo (256 * k)) (sym (none_at n j)) tt

pub small_more : (minutes : List (Option ℕ)) (k : ℕ) (r : Option ℕ) → k < length minutes → Small minutes k
    → UpTo (256 * (k + 1)) r → Small (set minutes k r) (k + 1)
small_more minutes k r l h c j = go (eqb j k) refl
  where
    go : (t : Bool) → eqb j k ≡ t → UpTo (256 * (k + 1)) (get_or (set minutes k r) j None)
    go true e =
        subst (λ x. UpTo (256 * (k + 1)) (get_or (set minutes k r) x None)) (sym (eqb-true j k e))
        (subst (UpTo (256 * (k + 1))) (sym (get_or-set_same minutes k r None l)) c)
    go false e =
        subst (UpTo (256 * (k + 1))) (sym (get_or-set_other minutes k j r None (eqb-false j k e)))
        (up_to_more (256 * k) _ (get_or minutes j None) (omega arith) (h j))

module _ (list : List ℕ) (records : ℕ) where
  pub told_none : (n : ℕ) → Told (replicate n None) (horizons (rule_in list records) 0)
  unfolding horizons horizon_for
  told_none n j = ap horizon_for (none_at n j)

  pub told_more : (minutes : List (Option ℕ)) (d : Record) (k : ℕ) (r : Option ℕ) → k < records → k < length minutes
      → node_for d ≡ node_in list k → OfRecord d minutes r → Told minutes (horizons (rule_in list records) k)
      → Told (set minutes k r) (horizons (rule_in list records) (k + 1))
  told_more minutes d k r h l e made old j =
      go (eqb j k) refl ∙ ap (λ n. get_or (horizons rule n) j never) (sym (add-one k))
    where
      rule : List Node
      rule = rule_in list records

      new : horizon_for r ≡ get_or (horizons rule (suc k)) k never
      new =
          made (horizons rule k) old
          ∙ ap (horizon_of (horizons rule k)) (e ∙ sym (node_in_lem list records k h))
          ∙ sym (horizons_new rule k)

      go : (t : Bool) → eqb j k ≡ t
          → horizon_for (get_or (set minutes k r) j None) ≡ get_or (horizons rule (suc k)) j never
      go true q =
          subst (λ x. horizon_for (get_or (set minutes k r) x None) ≡ get_or (horizons rule (suc k)) x never)
          (sym (eqb-true j k q)) (ap horizon_for (get_or-set_same minutes k r None l) ∙ new)
      go false q =
          ap horizon_for (get_or-set_other minutes k j r None (eqb-false j k q)) ∙ old j
          ∙ sym (horizons_other rule k j (eqb-false j k q))

  -- the last entry is the rule's horizon
  pub last_told : (minutes : List (Option ℕ)) (k : ℕ) → k ≤ records → records ≤ k
      → Told minutes (horizons (rule_in list records) k)
      → horizon_for (get_or minutes (records - 1) None) ≡ horizon (rule_in list records)
  unfolding horizon
  last_told minutes k a b told =
      told (records - 1)
      ∙ ap (λ n. get_or (horizons (rule_in list records) n) (records - 1) never) (le_antisymm a b)
      ∙ ap (λ n. get_or (horizons (rule_in list records) n) (n - 1) never) (sym (length_rule_in list records))

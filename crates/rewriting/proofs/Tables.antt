-- The tables of a rule's forms and rows, record by record.
-- Assumes nothing.
use mathlib.Core.Path.{◌≡◌, refl, sym, ap, ap₂, ◌∙◌}
use mathlib.Core.Bool.{false}
use mathlib.Core.List.{List}
use Prim.Native.Nat.{ℕ, suc, ◌*◌, ◌≤◌, ◌<◌}
use native.Mathlib.Omega.{arith}
use lib.ListN.{length}
use Rattle.forms.specs.Form.{Form, constant}
use Rattle.forms.specs.Words.{pack}
use Rattle.forms.specs.Area.{put_rows, form_in, Holds}
use Rattle.meaning.specs.Rule.{Node, node_at, first_of}
use Rattle.meaning.specs.Rewriting.{form_of, forms_of}
use Rattle.meaning.proofs.Blocks.{one_new, length_forms_of}
use Rattle.meaning.proofs.Whole.{forms_whole}
use Rattle.rewriting.specs.declared.step.Record.{Record}
use Rattle.rewriting.specs.Decode.{node_in, rule_in, node_for}
use Rattle.rewriting.specs.Plans.{form_row, table_with}
use Rattle.rewriting.proofs.Rules.{node_in_lem}
use Rattle.rewriting.proofs.Written.{held_put}

module _ (m : ℕ) (rule : List Node) where
  -- the form of record k is made of the forms of the records before it
  pub form_made : (k K : ℕ) → k < K
      → form_in m (forms_of m rule K) k ≡ form_of m (forms_of m rule k) (first_of rule k) (node_at rule k)
  unfolding forms_of
  form_made k K h =
      forms_whole m rule (suc k) K k h (omega arith)
      ∙ one_new (forms_of m rule k) (form_of m (forms_of m rule k) (first_of rule k) (node_at rule k)) k
      (constant m false) (length_forms_of m rule k)

  -- a table that holds the forms of all records holds those of the first
  pub forms_held : (k K : ℕ) (table : List ℕ) → k ≤ K → Holds m table 0 K (forms_of m rule K)
      → Holds m table 0 k (forms_of m rule k)
  forms_held k K table h p =
      record {
        long = length_forms_of m rule k;
        row = λ j l. p.row j (omega arith) ∙ ap (pack m) (forms_whole m rule k K j h l);
      }

-- the row of record k's form, from the table of the forms before it
pub forms_row : (m : ℕ) (list : List ℕ) (records k first : ℕ) (ws table row : List ℕ) (d : Record) → k < records
    → 64 * records ≤ length ws → first ≡ first_of (rule_in list records) k → node_for d ≡ node_in list k
    → table ≡ put_rows ws 0 k (form_row m (forms_of m (rule_in list records) records))
    → ((forms : List (Form m)) → Holds m table 0 k forms → row ≡ pack m (form_of m forms first (node_for d)))
    → row ≡ form_row m (forms_of m (rule_in list records) records) k
unfolding form_row
forms_row m list records k first ws table row d h room e n w made =
    made (forms_of m (rule_in list records) k)
    (held_put m ws 0 k (forms_of m (rule_in list records) k) (form_row m (forms_of m (rule_in list records) records))
    table w (length_forms_of m (rule_in list records) k) (omega arith)
    (λ j l. ap (pack m) (forms_whole m (rule_in list records) k records j (omega arith) l)))
    ∙ ap₂ (λ x y. pack m (form_of m (forms_of m (rule_in list records) k) x y)) e
    (n ∙ sym (node_in_lem list records k h))
    ∙ ap (pack m) (sym (form_made m (rule_in list records) k records h))

-- a table with the forms of the rule's records holds them
pub table_held : (m : ℕ) (list : List ℕ) (records : ℕ) (ws table : List ℕ) → 64 * records ≤ length ws
    → table ≡ table_with list records m ws → Holds m table 0 records (forms_of m (rule_in list records) records)
table_held m list records ws table room w =
    held_put m ws 0 records (forms_of m (rule_in list records) records)
    (form_row m (forms_of m (rule_in list records) records)) table w (length_forms_of m (rule_in list records) records)
    (omega arith) (λ j h. refl)

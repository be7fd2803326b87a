-- What a line of a schedule asks for is of the format, and its ticks are.
use Rattle.std.proofs.Common.{◌≡◌, ℕ, suc, ◌≤◌, Bool, true, false, cond, List, [], length, Option, Some, None, Result, Ok, Err, refl, sym, ap, subst, arith}
use Rattle.std.specs.Prelude.{codes, nat_lt}
use Rattle.std.proofs.lemmas.Bool.Decides.{nat_tests}
use Rattle.serde_json.specs.Data.{Data, Items, no_items, item}
use Rattle.serde_json.specs.Events.{items_len}
use Rattle.serde_json.specs.Find.{get}
use Rattle.mega_base.specs.Codec.{IsOption}
use Rattle.mega_base.specs.Names.{IsGroup}
use Rattle.mega_schema.specs.declared.schema.Schema.{Schema}
use Rattle.mega_schema.specs.declared.schema.Table.{Table}
use Rattle.mega_schema.specs.Lookup.{is_root_table}
use Rattle.mega_schema.specs.Shaping.{shape_of, table_at}
use Rattle.mega_keys.specs.declared.fault.KeyFault.{KeyFault}
use Rattle.mega_keys.specs.declared.fault.KeyFault.TheVariants.{TooLong}
use Rattle.mega_keys.specs.Answers.{fault_of, group_key_of, limited, unless_fault}
use Rattle.mega_keys.specs.Spelling.{group_bytes}
use Rattle.mega_outcome.specs.declared.request.Request.TheVariants.{Txn, Read, Find}
use Rattle.mega_schedule.specs.Fields.{pair_of}
use Rattle.mega_schedule.specs.Values.{group_in, group_of, group_or_none, group_pair, key_in, list_in, table_number, text_in}
use Rattle.mega_schedule.specs.Rows.{each_in, transaction_of}
use Rattle.mega_schedule.specs.Requests.{batch_of, find_request, group_if, read_request}
use Rattle.mega_format_laws.specs.Rounds.{Each}
use Rattle.mega_format_laws.specs.Requests.{IsRequest, IsTransaction, IsTyped, IsTypedRequest}

-- ---- groups

abbrev IsKey : Result (List ℕ) KeyFault → Type 0
IsKey (Ok key) = length key ≤ 1024
IsKey (Err fault) = Unit {0}

limited_key : (bytes : List ℕ) → IsKey (limited bytes)
limited_key bytes = go (nat_lt 1024 (length bytes)) refl
  where
    few : (n : ℕ) → nat_lt 1024 n ≡ false → n ≤ 1024
    few n e = grind (arith, nat_tests)

    go : (t : Bool) → nat_lt 1024 (length bytes) ≡ t → IsKey (cond t (Err (TooLong (length bytes))) (Ok bytes))
    go true e = tt
    go false e = few (length bytes) e

unless_key : (r : Result (Unit {0}) KeyFault) (bytes : List ℕ) → IsKey (unless_fault r bytes)
unless_key (Ok done) bytes = limited_key bytes
unless_key (Err fault) bytes = tt

key_group : (r : Result (List ℕ) KeyFault) → IsKey r → IsGroup (group_or_none r)
key_group (Ok key) h = (omega arith, omega (arith, h))
key_group (Err fault) h = (omega arith, omega arith)

in_group : (schema : Schema) (n : ℕ) (t : Option Table) (ds : Items) → IsGroup (group_in schema n t ds)
in_group schema n None ds = (omega arith, omega arith)
in_group schema n (Some t) ds = go (is_root_table t)
  where
    go : (b : Bool) → IsGroup (cond b (group_or_none (group_key_of (shape_of schema n t) (key_in (Some t) ds))) (record { key = [] }))
    go true = key_group (group_key_of (shape_of schema n t) (key_in (Some t) ds)) (unless_key (fault_of (shape_of schema n t).root_kinds (key_in (Some t) ds)) (group_bytes (shape_of schema n t) (key_in (Some t) ds)))
    go false = (omega arith, omega arith)

pair_group : (schema : Schema) (pair : Option (Data × Data)) → IsGroup (group_pair schema pair)
pair_group schema None = (omega arith, omega arith)
pair_group schema (Some pair) = in_group schema (table_number schema (text_in (Some pair.0))) (table_at schema.tables (table_number schema (text_in (Some pair.0)))) (list_in (Some pair.1))

is_group : (schema : Schema) (o : Option Data) → IsGroup (group_of schema o)
is_group schema o = pair_group schema (pair_of (list_in o))

if_group : (schema : Schema) (o : Option Data) → IsOption IsGroup (group_if schema o)
if_group schema None = tt
if_group schema (Some d) = is_group schema (Some d)

-- ---- a batch has at most 16 transactions

each_length : {A : Type 0} (f : Data → A) (ds : Items) → items_len ds ≤ 16 → length (each_in f ds) ≤ 16
each_length f ds le = subst (λ n. n ≤ 16) (sym (same f ds)) le
  where
    same : {A : Type 0} (f : Data → A) (ds : Items) → length (each_in f ds) ≡ items_len ds
    same f no_items = refl
    same f (item d ds) = ap suc (same f ds)

-- ---- what a line asks for, by its form

txn_line : (schema : Schema) (group : Option Data) (d : Data) → IsTyped (transaction_of schema group d) → IsTransaction (transaction_of schema group d)
txn_line schema group d h = record { group = is_group schema group; writes = h.writes; sends = h.sends }

txns_line : (schema : Schema) (group : Option Data) (ds : Items) → Each IsTyped (each_in (transaction_of schema group) ds) → Each IsTransaction (each_in (transaction_of schema group) ds)
txns_line schema group no_items h = tt
txns_line schema group (item d ds) h = (txn_line schema group d h.0, txns_line schema group ds h.1)

pub txn_request : (schema : Schema) (group : Option Data) (d : Data) → IsTypedRequest (Txn (transaction_of schema group d)) → IsRequest (Txn (transaction_of schema group d))
txn_request schema group d h = txn_line schema group d h

pub batch_request : (schema : Schema) (d : Data) → items_len (list_in (get (codes "txns") d)) ≤ 16 → IsTypedRequest (batch_of schema d) → IsRequest (batch_of schema d)
batch_request schema d h typed = (
  is_group schema (get (codes "group") d),
  each_length (transaction_of schema (get (codes "group") d)) (list_in (get (codes "txns") d)) h,
  txns_line schema (get (codes "group") d) (list_in (get (codes "txns") d)) typed,
)

pub reads : (schema : Schema) (d : Data) → IsRequest (Read (read_request schema d))
reads schema d = is_group schema (get (codes "group") d)

pub finds : (schema : Schema) (d : Data) → IsRequest (Find (find_request schema d))
finds schema d = if_group schema (get (codes "group") d)

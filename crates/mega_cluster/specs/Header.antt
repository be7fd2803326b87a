-- The header of a cluster: what its keys say, and the rules in the order in which they are tried.
use Rattle.std.specs.Prelude.{◌≡◌, ℕ, ℤ, pos, negsuc, Bool, true, false, not, ◌&&◌, ◌||◌, List, [], ◌∷◌, length, codes, Option, Some, None, Result, Ok, Err, if◌then◌else◌, nat_lt, nat_le, ◌==◌, option_and_then}
use Rattle.std.specs.List.{list_any}
use Rattle.std.specs.Str.{is_utf8}
use Rattle.toml.specs.Data.{Data, string, integer, array, Items, no_items, item, Members, no_members, member, get_member}
use Rattle.toml.specs.Parse.{parse_document}
use Rattle.mega_base.specs.declared.values.NodeKind.{NodeKind}
use Rattle.mega_base.specs.declared.values.NodeKind.TheVariants.{Full, Witness, Read}
pub use Rattle.mega_base.specs.Reading.{◌>>=◌}
use Rattle.mega_schema.specs.declared.schema.Schema.{Schema}
use Rattle.mega_schema.specs.declared.fault.SchemaFault.{SchemaFault}
use Rattle.mega_schema.specs.Names.{same, named}
use Rattle.mega_schema.specs.Verdict.{parse_of}
use Rattle.mega_cluster.specs.declared.cluster.Cluster.{Cluster}
use Rattle.mega_cluster.specs.declared.fault.HeaderFault.{HeaderFault}
use Rattle.mega_cluster.specs.declared.fault.HeaderFault.TheVariants.{Rule, NoMemory}

abbrev pub known_keys : List (List ℕ)
known_keys =
    codes "nodes" ∷ codes "schema" ∷ codes "cells" ∷ codes "lease" ∷ codes "patience" ∷ codes "retry" ∷ codes "margin" ∷
    codes "apply" ∷ codes "limit" ∷ codes "addresses" ∷ []

abbrev pub is_known : List ℕ → Bool
is_known key = list_any (λ k. same key k) known_keys

-- some key is none of them
abbrev pub has_unknown_key : Members → Bool
has_unknown_key no_members = false
has_unknown_key (member k d ms) = not (is_known k) || has_unknown_key ms

-- the kind of node that a word names
abbrev pub kind_of : List ℕ → Option NodeKind
kind_of word = named word ((codes "full", Full) ∷ (codes "witness", Witness) ∷ (codes "read", Read) ∷ [])

abbrev pub kind_of_data : Data → Option NodeKind
kind_of_data (string word) = kind_of word
kind_of_data _ = None

abbrev pub before : {A : Type 0} → Option A → Option (List A) → Option (List A)
before (Some x) (Some xs) = Some (x ∷ xs)
before _ _ = None

-- the kinds that the items name, where each names one
abbrev pub kinds_of : Items → Option (List NodeKind)
kinds_of no_items = Some []
kinds_of (item d ds) = before (kind_of_data d) (kinds_of ds)

-- 1 to 9 kinds, and no fewer than least
abbrev pub counted : ℕ → Option (List NodeKind) → Option (List NodeKind)
counted least None = None
counted least (Some kinds) = if nat_le 1 (length kinds) && nat_le (length kinds) 9 && nat_le least (length kinds) then Some kinds else None

abbrev pub nodes_of_data : Data → Option (List NodeKind)
nodes_of_data (array ds) = kinds_of ds
nodes_of_data _ = None

abbrev pub nodes_of : ℕ → Option Data → Option (List NodeKind)
nodes_of least None = None
nodes_of least (Some d) = counted least (nodes_of_data d)

abbrev pub is_full : NodeKind → Bool
is_full Full = true
is_full _ = false

-- a number of low to high
abbrev pub number_in : ℕ → ℕ → ℤ → Option ℕ
number_in low high (pos n) = if nat_le low n && nat_le n high then Some n else None
number_in low high (negsuc n) = None

abbrev pub number_of_data : ℕ → ℕ → Data → Option ℕ
number_of_data low high (integer z) = number_in low high z
number_of_data low high _ = None

abbrev pub number_of : ℕ → ℕ → ℕ → Option Data → Option ℕ
number_of low high default None = Some default
number_of low high default (Some d) = number_of_data low high d

-- 1, 3 or 5 cells, no more than nodes
abbrev pub odd_cells : ℕ → Option ℕ → Option ℕ
odd_cells nodes n = option_and_then (λ (n : ℕ). if ((n == 1) || (n == 3) || (n == 5)) && nat_le n nodes then Some n else None) n

-- three where there are as many nodes, else one
abbrev pub default_cells : ℕ → ℕ
default_cells nodes = if nat_le 3 nodes then 3 else 1

abbrev pub cells_of : ℕ → Option Data → Option ℕ
cells_of nodes d = odd_cells nodes (number_of 1 5 (default_cells nodes) d)

abbrev pub text_of_data : Data → Option (List ℕ)
text_of_data (string s) = Some s
text_of_data _ = None

-- the texts of the items, where each is one
abbrev pub texts_of : Items → Option (List (List ℕ))
texts_of no_items = Some []
texts_of (item d ds) = before (text_of_data d) (texts_of ds)

abbrev pub addresses_of_data : Data → Option (List (List ℕ))
addresses_of_data (array ds) = texts_of ds
addresses_of_data _ = None

-- none where there are none, or they are no array of strings
abbrev pub addresses_of : Option Data → List (List ℕ)
addresses_of None = []
addresses_of (Some d) = elim (addresses_of_data d) [ None ↦ [] | Some texts ↦ texts ]

-- the result is the answer, which is told by a rule's number where there is none, unless memory ran out
abbrev pub Refuses : {A : Type 0} → HeaderFault → Result A ℕ → Type 0
Refuses NoMemory answer = Unit {0}
Refuses (Rule r) answer = answer ≡ Err r

abbrev pub GivesBy : {X A : Type 0} → (X → A) → Result X HeaderFault → Result A ℕ → Type 0
GivesBy view (Ok x) answer = answer ≡ Ok (view x)
GivesBy view (Err fault) answer = Refuses fault answer

-- what has to be there, or the rule is broken
abbrev pub needed : {A : Type 0} → ℕ → Option A → Result A ℕ
needed rule None = Err rule
needed rule (Some x) = Ok x

abbrev pub ruled_out : Bool → ℕ → Result (Unit {0}) ℕ
ruled_out b rule = if b then Err rule else Ok tt

-- the schema of its text
abbrev pub parsed : Result Schema SchemaFault → Result Schema ℕ
parsed (Ok s) = Ok s
parsed (Err fault) = Err 2

abbrev pub schema_of_data : Data → Result Schema ℕ
schema_of_data (string text) = parsed (parse_of text)
schema_of_data _ = Err 2

abbrev pub schema_of : Option Data → Result Schema ℕ
schema_of None = Err 2
schema_of (Some d) = schema_of_data d

-- the rules in order: 7 an unknown key, 3 the nodes, 4 no full node, 5 the cells, 6 a number, 2 the schema
unfoldable pub header_of : ℕ → Members → Result Cluster ℕ
header_of least ms = do
  known ← ruled_out (has_unknown_key ms) 7
  nodes ← needed 3 (nodes_of least (get_member (codes "nodes") ms))
  full ← ruled_out (not (list_any is_full nodes)) 4
  cells ← needed 5 (cells_of (length nodes) (get_member (codes "cells") ms))
  lease ← needed 6 (number_of 1 1000000000 100 (get_member (codes "lease") ms))
  patience ← needed 6 (number_of 1 1000000000 1000 (get_member (codes "patience") ms))
  retry ← needed 6 (number_of 1 1000000000 50 (get_member (codes "retry") ms))
  margin ← needed 6 (number_of 0 1000000000 20 (get_member (codes "margin") ms))
  apply ← needed 6 (number_of 1 1000 64 (get_member (codes "apply") ms))
  limit ← needed 6 (number_of 1 1000000 1000000 (get_member (codes "limit") ms))
  schema ← schema_of (get_member (codes "schema") ms)
  Ok (record {
    nodes = nodes;
    schema = schema;
    cells = cells;
    lease = lease;
    patience = patience;
    retry = retry;
    margin = margin;
    apply = apply;
    limit = record { 0 = limit };
    addresses = addresses_of (get_member (codes "addresses") ms);
  })

-- 1: the text is not UTF-8, or no TOML
abbrev pub document_of : List ℕ → Result Members ℕ
document_of text = if is_utf8 text then needed 1 (parse_document text) else Err 1

-- 6: the text has more than 262,144 bytes
abbrev pub read_of : ℕ → List ℕ → Result Cluster ℕ
read_of least text = if nat_lt 262144 (length text) then Err 6 else (document_of text >>= λ ms. header_of least ms)

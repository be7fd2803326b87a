-- The schema of a cluster is one that a text declares.
use Rattle.std.proofs.Common.{◌≡◌, ℕ, Bool, true, false, List, not, length, codes, if◌then◌else◌, nat_lt, refl, subst, Option, Some, None, Result, Ok, Err}
use Rattle.std.specs.List.{list_any}
use Rattle.toml.specs.Data.{Data, string, Members, get_member}
use Rattle.mega_schema.specs.declared.schema.Schema.{Schema}
use Rattle.mega_schema.specs.declared.fault.SchemaFault.{SchemaFault}
use Rattle.mega_schema.specs.Verdict.{parse_of}
use Rattle.mega_cluster.specs.declared.cluster.Cluster.{Cluster}
use Rattle.mega_cluster.specs.Header.{◌>>=◌, has_unknown_key, nodes_of, is_full, cells_of, number_of, needed, ruled_out, parsed, schema_of, header_of, document_of, read_of}
use Rattle.mega_tape_laws.specs.Indexed.{IsDeclared}
use Rattle.mega_tape_laws.proofs.Declared.{parsed_declared}

-- what holds of each schema that is read holds of that of a cluster that is read
module _ (Holds : Schema → Type 0) (parsed_holds : (text : List ℕ) (t : Schema) → parse_of text ≡ Ok t → Holds t) where
  abbrev Keeps : Result Cluster ℕ → Type 0
  Keeps (Ok c) = Holds c.schema
  Keeps (Err rule) = Unit {0}

  keeps : {A : Type 0} (r : Result A ℕ) (f : A → Result Cluster ℕ) → ((x : A) → r ≡ Ok x → Keeps (f x)) → Keeps (r >>= f)
  keeps (Ok x) f h = h x refl
  keeps (Err rule) f h = tt

  schema_holds : (o : Option Data) (s : Schema) → schema_of o ≡ Ok s → Holds s
  schema_holds None s h = cc
  schema_holds (Some (string text)) s h = by (parse_of text) refl h
    where
      by : (r : Result Schema SchemaFault) → parse_of text ≡ r → parsed r ≡ Ok s → Holds s
      by (Ok t) is g = let same : t ≡ s = cc in subst Holds same (parsed_holds text t is)
      by (Err fault) is g = cc
  schema_holds (Some _) s h = cc

  header_keeps : (least : ℕ) (ms : Members) → Keeps (header_of least ms)
  unfolding header_of
  header_keeps least ms =
      keeps (ruled_out (has_unknown_key ms) 7) _ (λ known _.
      keeps (needed 3 (nodes_of least (get_member (codes "nodes") ms))) _ (λ nodes _.
      keeps (ruled_out (not (list_any is_full nodes)) 4) _ (λ full _.
      keeps (needed 5 (cells_of (length nodes) (get_member (codes "cells") ms))) _ (λ cells _.
      keeps (needed 6 (number_of 1 1000000000 100 (get_member (codes "lease") ms))) _ (λ lease _.
      keeps (needed 6 (number_of 1 1000000000 1000 (get_member (codes "patience") ms))) _ (λ patience _.
      keeps (needed 6 (number_of 1 1000000000 50 (get_member (codes "retry") ms))) _ (λ retry _.
      keeps (needed 6 (number_of 0 1000000000 20 (get_member (codes "margin") ms))) _ (λ margin _.
      keeps (needed 6 (number_of 1 1000 64 (get_member (codes "apply") ms))) _ (λ apply _.
      keeps (needed 6 (number_of 1 1000000 1000000 (get_member (codes "limit") ms))) _ (λ limit _.
      keeps (schema_of (get_member (codes "schema") ms)) _ (λ schema is. schema_holds (get_member (codes "schema") ms) schema is)))))))))))

  pub cluster_holds : (least : ℕ) (text : List ℕ) (c : Cluster) → read_of least text ≡ Ok c → Holds c.schema
  cluster_holds least text c h = subst Keeps h (by (nat_lt 262144 (length text)))
    where
      by : (b : Bool) → Keeps (if b then Err 6 else (document_of text >>= λ ms. header_of least ms))
      by true = tt
      by false = keeps (document_of text) (λ ms. header_of least ms) (λ ms _. header_keeps least ms)

pub cluster_declared : (least : ℕ) (text : List ℕ) (c : Cluster) → read_of least text ≡ Ok c → IsDeclared c.schema
cluster_declared least text c h = cluster_holds IsDeclared parsed_declared least text c h

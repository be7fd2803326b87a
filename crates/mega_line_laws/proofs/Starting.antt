-- A cluster that was read from a header can start.
use Rattle.std.proofs.Common.{◌≡◌, ◌⊎◌, inl, inr, ℕ, ◌+◌, ◌^◌, ◌==◌, ◌≤◌, ◌<◌, ◌&&◌, ◌||◌, Bool, true, false, not, cond, List, length, Option, Some, None, Result, Ok, Err, refl, subst, eqb-true, arith}
use Rattle.std.specs.Prelude.{ℤ, pos, negsuc, codes, nat_le, nat_lt}
use Rattle.std.specs.List.{list_any}
use Rattle.std.proofs.lemmas.Bool.{and_parts}
use Rattle.std.proofs.lemmas.Bool.Decides.{nat_tests}
use Rattle.toml.specs.Data.{Data, string, integer, Members, get_member}
use Rattle.mega_base.specs.Codec.{IsOption}
use Rattle.mega_schema.specs.declared.fault.SchemaFault.{SchemaFault}
use Rattle.mega_schema.specs.declared.schema.Schema.{Schema}
use Rattle.mega_schema.specs.Verdict.{parse_of}
use Rattle.mega_cluster.specs.declared.cluster.Cluster.{Cluster}
use Rattle.mega_cluster.specs.Header.{◌>>=◌, cells_of, default_cells, document_of, has_unknown_key, header_of, is_full, needed, nodes_of, number_in, number_of, number_of_data, odd_cells, parsed, read_of, ruled_out, schema_of, schema_of_data}
use Rattle.mega_format_laws.proofs.Headers.{cluster_formed}
use Rattle.mega_member_laws.proofs.Headers.{OkIs, cells_few, kept, needed_ok, then_any, then_ok}
use Rattle.mega_line_laws.specs.Clusters.{CanStart}
use Rattle.mega_line_laws.proofs.Small.{parsed_small}

-- ---- cells

abbrev IsOdd : ℕ → Type 0
IsOdd n = (n ≡ 1) ⊎ (n ≡ 3) ⊎ (n ≡ 5)

odd_by : (n : ℕ) (a b c : Bool) → (n == 1) ≡ a → (n == 3) ≡ b → (n == 5) ≡ c → a || b || c ≡ true → IsOdd n
odd_by n true b c isa isb isc e = inl (eqb-true n 1 isa)
odd_by n false true c isa isb isc e = inr (inl (eqb-true n 3 isb))
odd_by n false false true isa isb isc e = inr (inr (eqb-true n 5 isc))
odd_by n false false false isa isb isc e = absurd (cc)

odd : (nodes : ℕ) (n : Option ℕ) → IsOption IsOdd (odd_cells nodes n)
odd nodes None = tt
odd nodes (Some n) =
    kept IsOdd (((n == 1) || (n == 3) || (n == 5)) && nat_le n nodes) n
    (λ t. odd_by n (n == 1) (n == 3) (n == 5) refl refl refl (and_parts ((n == 1) || (n == 3) || (n == 5)) (nat_le n nodes) t).0)

-- ---- times

abbrev IsTime : ℕ → Type 0
IsTime n = n ≤ 1000000000

in_range : (low : ℕ) (z : ℤ) → IsOption IsTime (number_in low 1000000000 z)
in_range low (pos n) = kept IsTime (nat_le low n && nat_le n 1000000000) n (λ t. let p = and_parts (nat_le low n) (nat_le n 1000000000) t in most n p.1)
  where
    most : (n : ℕ) → nat_le n 1000000000 ≡ true → n ≤ 1000000000
    most n t = grind (arith, nat_tests)
in_range low (negsuc n) = tt

of_data : (low : ℕ) (d : Data) → IsOption IsTime (number_of_data low 1000000000 d)
of_data low (integer z) = in_range low z
of_data low _ = tt

time : (low default : ℕ) (o : Option Data) → default ≤ 1000000000 → IsOption IsTime (number_of low 1000000000 default o)
time low default None small = small
time low default (Some d) small = of_data low d

-- ---- the schema

pub record IsDeclaredBy (schema : Schema) : Type 0 where
  pub text : List ℕ
  pub read : parse_of text ≡ Ok schema

parsed_is : (text : List ℕ) (r : Result Schema SchemaFault) → parse_of text ≡ r → OkIs IsDeclaredBy (parsed r)
parsed_is text (Ok schema) e = record { text = text; read = e }
parsed_is text (Err fault) e = tt

schema_is_data : (d : Data) → OkIs IsDeclaredBy (schema_of_data d)
schema_is_data (string text) = parsed_is text (parse_of text) refl
schema_is_data _ = tt

schema_is : (o : Option Data) → OkIs IsDeclaredBy (schema_of o)
schema_is None = tt
schema_is (Some d) = schema_is_data d

-- ---- the whole

pub record IsOpen (c : Cluster) : Type 0 where
  pub cells : IsOdd c.cells
  pub lease : IsTime c.lease
  pub margin : IsTime c.margin
  pub declared : IsDeclaredBy c.schema

header_opens : (least : ℕ) (ms : Members) → OkIs IsOpen (header_of least ms)
unfolding header_of
header_opens least ms =
    then_any IsOpen (ruled_out (has_unknown_key ms) 7) _ (λ _.
    then_any IsOpen (needed 3 (nodes_of least (get_member (codes "nodes") ms))) _ (λ nodes.
    then_any IsOpen (ruled_out (not (list_any is_full nodes)) 4) _ (λ _.
    then_ok IsOdd IsOpen (needed 5 (cells_of (length nodes) (get_member (codes "cells") ms))) _ (needed_ok IsOdd 5 (cells_of (length nodes) (get_member (codes "cells") ms)) (odd (length nodes) (number_of 1 5 (default_cells (length nodes)) (get_member (codes "cells") ms)))) (λ cells is_odd.
    then_ok IsTime IsOpen (needed 6 (number_of 1 1000000000 100 (get_member (codes "lease") ms))) _ (needed_ok IsTime 6 (number_of 1 1000000000 100 (get_member (codes "lease") ms)) (time 1 100 (get_member (codes "lease") ms) (omega arith))) (λ lease lease_small.
    then_any IsOpen (needed 6 (number_of 1 1000000000 1000 (get_member (codes "patience") ms))) _ (λ patience.
    then_any IsOpen (needed 6 (number_of 1 1000000000 50 (get_member (codes "retry") ms))) _ (λ retry.
    then_ok IsTime IsOpen (needed 6 (number_of 0 1000000000 20 (get_member (codes "margin") ms))) _ (needed_ok IsTime 6 (number_of 0 1000000000 20 (get_member (codes "margin") ms)) (time 0 20 (get_member (codes "margin") ms) (omega arith))) (λ margin margin_small.
    then_any IsOpen (needed 6 (number_of 1 1000 64 (get_member (codes "apply") ms))) _ (λ apply.
    then_any IsOpen (needed 6 (number_of 1 1000000 1000000 (get_member (codes "limit") ms))) _ (λ limit.
    then_ok IsDeclaredBy IsOpen (schema_of (get_member (codes "schema") ms)) _ (schema_is (get_member (codes "schema") ms)) (λ schema declared.
    record { cells = is_odd; lease = lease_small; margin = margin_small; declared = declared })))))))))))

read_opens : (least : ℕ) (text : List ℕ) → OkIs IsOpen (read_of least text)
read_opens least text = go (nat_lt 262144 (length text))
  where
    go : (t : Bool) → OkIs IsOpen (cond t (Err 6) (document_of text >>= λ ms. header_of least ms))
    go true = tt
    go false = then_any IsOpen (document_of text) (λ ms. header_of least ms) (λ ms. header_opens least ms)

pub can_start : (least : ℕ) (text : List ℕ) (c : Cluster) → read_of least text ≡ Ok c → CanStart c
can_start least text c e =
    let formed = cluster_formed least text c e in
    let open_is = subst (OkIs IsOpen) e (read_opens least text) in
    record {
      served = record {
        few = formed.nodes;
        cells = open_is.cells;
        housed = cells_few least text c e;
        lease = open_is.lease;
        fits = omega (arith, open_is.lease, open_is.margin);
        limit = formed.limit;
        small = parsed_small open_is.declared.text c.schema open_is.declared.read;
      };
      schema_text = open_is.declared.text;
      schema_read = open_is.declared.read;
    }

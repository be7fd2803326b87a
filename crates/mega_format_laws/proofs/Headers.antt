-- A cluster that was read from a header is of the format.
use Rattle.std.proofs.Common.{◌≡◌, ℕ, ◌==◌, ◌≤◌, ◌&&◌, ◌||◌, Bool, true, false, not, cond, List, length, Option, Some, None, Result, Ok, Err, refl, subst, arith}
use Rattle.std.specs.Prelude.{ℤ, pos, negsuc, codes, nat_le, nat_lt}
use Rattle.std.specs.List.{list_any}
use Rattle.std.proofs.lemmas.Bool.Decides.{nat_tests}
use Rattle.toml.specs.Data.{Data, integer, Members, get_member}
use Rattle.mega_base.specs.Codec.{IsOption}
use Rattle.mega_base.specs.declared.values.NodeKind.{NodeKind}
use Rattle.mega_cluster.specs.declared.cluster.Cluster.{Cluster}
use Rattle.mega_cluster.specs.Header.{◌>>=◌, cells_of, counted, default_cells, document_of, has_unknown_key, header_of, is_full, needed, nodes_of, nodes_of_data, number_in, number_of, number_of_data, odd_cells, read_of, ruled_out, schema_of}
use Rattle.mega_format_laws.specs.Histories.{IsCluster}

-- what is read is so, unless a rule is broken
abbrev OkIs : {A : Type 0} → (A → Type 0) → Result A ℕ → Type 0
OkIs P (Ok x) = P x
OkIs P (Err rule) = Unit {0}

then_ok : {A B : Type 0} (P : A → Type 0) (Q : B → Type 0) (r : Result A ℕ) (f : A → Result B ℕ) → OkIs P r → ((x : A) → P x → OkIs Q (f x)) → OkIs Q (r >>= f)
then_ok P Q (Ok x) f h k = k x h
then_ok P Q (Err rule) f h k = tt

abbrev Any : {A : Type 0} → A → Type 0
Any x = Unit {0}

any_ok : {A : Type 0} (r : Result A ℕ) → OkIs Any r
any_ok (Ok x) = tt
any_ok (Err rule) = tt

needed_ok : {A : Type 0} (P : A → Type 0) (rule : ℕ) (o : Option A) → IsOption P o → OkIs P (needed rule o)
needed_ok P rule None h = tt
needed_ok P rule (Some x) h = h

kept : {A : Type 0} (P : A → Type 0) (t : Bool) (x : A) → (t ≡ true → P x) → IsOption P (cond t (Some x) None)
kept P true x h = h refl
kept P false x h = tt

-- at most nine nodes
abbrev AreFew : List NodeKind → Type 0
AreFew kinds = length kinds ≤ 9

counted_few : (least : ℕ) (kinds : Option (List NodeKind)) → IsOption AreFew (counted least kinds)
counted_few least None = tt
counted_few least (Some kinds) = kept AreFew (nat_le 1 (length kinds) && nat_le (length kinds) 9 && nat_le least (length kinds)) kinds (few (length kinds))
  where
    few : (n : ℕ) → (nat_le 1 n && nat_le n 9 && nat_le least n) ≡ true → n ≤ 9
    few n e = grind (arith, nat_tests)

nodes_few : (least : ℕ) (o : Option Data) → IsOption AreFew (nodes_of least o)
nodes_few least None = tt
nodes_few least (Some d) = counted_few least (nodes_of_data d)

-- at most five cells
odd_few : (nodes : ℕ) (n : Option ℕ) → IsOption (λ n. n ≤ 5) (odd_cells nodes n)
odd_few nodes None = tt
odd_few nodes (Some n) = kept (λ n. n ≤ 5) (((n == 1) || (n == 3) || (n == 5)) && nat_le n nodes) n (few n)
  where
    few : (n : ℕ) → (((n == 1) || (n == 3) || (n == 5)) && nat_le n nodes) ≡ true → n ≤ 5
    few n e = grind (arith, nat_tests)

-- a number that is at most high
in_few : (low high : ℕ) (z : ℤ) → IsOption (λ n. n ≤ high) (number_in low high z)
in_few low high (pos n) = kept (λ n. n ≤ high) (nat_le low n && nat_le n high) n (few n)
  where
    few : (n : ℕ) → (nat_le low n && nat_le n high) ≡ true → n ≤ high
    few n e = grind (arith, nat_tests)
in_few low high (negsuc n) = tt

data_few : (low high : ℕ) (d : Data) → IsOption (λ n. n ≤ high) (number_of_data low high d)
data_few low high (integer z) = in_few low high z
data_few low high _ = tt

number_few : (low high default : ℕ) (o : Option Data) → default ≤ high → IsOption (λ n. n ≤ high) (number_of low high default o)
number_few low high default None le = le
number_few low high default (Some d) le = data_few low high d

header_few : (least : ℕ) (ms : Members) → OkIs IsCluster (header_of least ms)
unfolding header_of
header_few least ms =
    then_ok Any IsCluster (ruled_out (has_unknown_key ms) 7) _ (any_ok (ruled_out (has_unknown_key ms) 7)) (λ _ _.
    then_ok AreFew IsCluster (needed 3 (nodes_of least (get_member (codes "nodes") ms))) _ (needed_ok AreFew 3 (nodes_of least (get_member (codes "nodes") ms)) (nodes_few least (get_member (codes "nodes") ms))) (λ nodes few.
    then_ok Any IsCluster (ruled_out (not (list_any is_full nodes)) 4) _ (any_ok (ruled_out (not (list_any is_full nodes)) 4)) (λ _ _.
    then_ok (λ n. n ≤ 5) IsCluster (needed 5 (cells_of (length nodes) (get_member (codes "cells") ms))) _ (needed_ok (λ n. n ≤ 5) 5 (cells_of (length nodes) (get_member (codes "cells") ms)) (odd_few (length nodes) (number_of 1 5 (default_cells (length nodes)) (get_member (codes "cells") ms)))) (λ cells five.
    then_ok Any IsCluster (needed 6 (number_of 1 1000000000 100 (get_member (codes "lease") ms))) _ (any_ok (needed 6 (number_of 1 1000000000 100 (get_member (codes "lease") ms)))) (λ lease _.
    then_ok Any IsCluster (needed 6 (number_of 1 1000000000 1000 (get_member (codes "patience") ms))) _ (any_ok (needed 6 (number_of 1 1000000000 1000 (get_member (codes "patience") ms)))) (λ patience _.
    then_ok Any IsCluster (needed 6 (number_of 1 1000000000 50 (get_member (codes "retry") ms))) _ (any_ok (needed 6 (number_of 1 1000000000 50 (get_member (codes "retry") ms)))) (λ retry _.
    then_ok Any IsCluster (needed 6 (number_of 0 1000000000 20 (get_member (codes "margin") ms))) _ (any_ok (needed 6 (number_of 0 1000000000 20 (get_member (codes "margin") ms)))) (λ margin _.
    then_ok Any IsCluster (needed 6 (number_of 1 1000 64 (get_member (codes "apply") ms))) _ (any_ok (needed 6 (number_of 1 1000 64 (get_member (codes "apply") ms)))) (λ apply _.
    then_ok (λ n. n ≤ 1000000) IsCluster (needed 6 (number_of 1 1000000 1000000 (get_member (codes "limit") ms))) _ (needed_ok (λ n. n ≤ 1000000) 6 (number_of 1 1000000 1000000 (get_member (codes "limit") ms)) (number_few 1 1000000 1000000 (get_member (codes "limit") ms) (omega arith))) (λ limit most.
    then_ok Any IsCluster (schema_of (get_member (codes "schema") ms)) _ (any_ok (schema_of (get_member (codes "schema") ms))) (λ schema _. record { nodes = few; cells = five; limit = most })))))))))))

read_few : (least : ℕ) (text : List ℕ) → OkIs IsCluster (read_of least text)
read_few least text = go (nat_lt 262144 (length text))
  where
    go : (t : Bool) → OkIs IsCluster (cond t (Err 6) (document_of text >>= λ ms. header_of least ms))
    go true = tt
    go false = then_ok Any IsCluster (document_of text) (λ ms. header_of least ms) (any_ok (document_of text)) (λ ms _. header_few least ms)

pub cluster_formed : (least : ℕ) (text : List ℕ) (c : Cluster) → read_of least text ≡ Ok c → IsCluster c
cluster_formed least text c e = subst (OkIs IsCluster) e (read_few least text)

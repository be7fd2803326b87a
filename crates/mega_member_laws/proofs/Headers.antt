-- A cluster that was read from a header has no more cells than nodes.
use Rattle.std.proofs.Common.{◌≡◌, ℕ, ◌==◌, ◌≤◌, ◌&&◌, ◌||◌, Bool, true, false, not, cond, List, length, Option, Some, None, Result, Ok, Err, refl, subst, arith}
use Rattle.std.specs.Prelude.{codes, nat_le, nat_lt}
use Rattle.std.specs.List.{list_any}
use Rattle.std.proofs.lemmas.Bool.Decides.{nat_tests}
use Rattle.toml.specs.Data.{Members, get_member}
use Rattle.mega_base.specs.Codec.{IsOption}
use Rattle.mega_cluster.specs.declared.cluster.Cluster.{Cluster}
use Rattle.mega_cluster.specs.Header.{◌>>=◌, cells_of, default_cells, document_of, has_unknown_key, header_of, is_full, needed, nodes_of, number_of, odd_cells, read_of, ruled_out, schema_of}

-- what is read is so, unless a rule is broken
abbrev pub OkIs : {A : Type 0} → (A → Type 0) → Result A ℕ → Type 0
OkIs P (Ok x) = P x
OkIs P (Err rule) = Unit {0}

pub then_ok : {A B : Type 0} (P : A → Type 0) (Q : B → Type 0) (r : Result A ℕ) (f : A → Result B ℕ) → OkIs P r → ((x : A) → P x → OkIs Q (f x)) → OkIs Q (r >>= f)
then_ok P Q (Ok x) f h k = k x h
then_ok P Q (Err rule) f h k = tt

pub then_any : {A B : Type 0} (Q : B → Type 0) (r : Result A ℕ) (f : A → Result B ℕ) → ((x : A) → OkIs Q (f x)) → OkIs Q (r >>= f)
then_any Q (Ok x) f k = k x
then_any Q (Err rule) f k = tt

pub needed_ok : {A : Type 0} (P : A → Type 0) (rule : ℕ) (o : Option A) → IsOption P o → OkIs P (needed rule o)
needed_ok P rule None h = tt
needed_ok P rule (Some x) h = h

pub kept : {A : Type 0} (P : A → Type 0) (t : Bool) (x : A) → (t ≡ true → P x) → IsOption P (cond t (Some x) None)
kept P true x h = h refl
kept P false x h = tt

odd_few : (nodes : ℕ) (n : Option ℕ) → IsOption (λ n. n ≤ nodes) (odd_cells nodes n)
odd_few nodes None = tt
odd_few nodes (Some n) = kept (λ n. n ≤ nodes) (((n == 1) || (n == 3) || (n == 5)) && nat_le n nodes) n (few ((n == 1) || (n == 3) || (n == 5)) n)
  where
    few : (t : Bool) (n : ℕ) → (t && nat_le n nodes) ≡ true → n ≤ nodes
    few true n e = grind (arith, nat_tests)
    few false n e = cc

abbrev HasCells : Cluster → Type 0
HasCells c = c.cells ≤ length c.nodes

header_few : (least : ℕ) (ms : Members) → OkIs HasCells (header_of least ms)
unfolding header_of
header_few least ms =
    then_any HasCells (ruled_out (has_unknown_key ms) 7) _ (λ _.
    then_any HasCells (needed 3 (nodes_of least (get_member (codes "nodes") ms))) _ (λ nodes.
    then_any HasCells (ruled_out (not (list_any is_full nodes)) 4) _ (λ _.
    then_ok (λ n. n ≤ length nodes) HasCells (needed 5 (cells_of (length nodes) (get_member (codes "cells") ms))) _ (needed_ok (λ n. n ≤ length nodes) 5 (cells_of (length nodes) (get_member (codes "cells") ms)) (odd_few (length nodes) (number_of 1 5 (default_cells (length nodes)) (get_member (codes "cells") ms)))) (λ cells few.
    then_any HasCells (needed 6 (number_of 1 1000000000 100 (get_member (codes "lease") ms))) _ (λ lease.
    then_any HasCells (needed 6 (number_of 1 1000000000 1000 (get_member (codes "patience") ms))) _ (λ patience.
    then_any HasCells (needed 6 (number_of 1 1000000000 50 (get_member (codes "retry") ms))) _ (λ retry.
    then_any HasCells (needed 6 (number_of 0 1000000000 20 (get_member (codes "margin") ms))) _ (λ margin.
    then_any HasCells (needed 6 (number_of 1 1000 64 (get_member (codes "apply") ms))) _ (λ apply.
    then_any HasCells (needed 6 (number_of 1 1000000 1000000 (get_member (codes "limit") ms))) _ (λ limit.
    then_any HasCells (schema_of (get_member (codes "schema") ms)) _ (λ schema. few)))))))))))

read_few : (least : ℕ) (text : List ℕ) → OkIs HasCells (read_of least text)
read_few least text = go (nat_lt 262144 (length text))
  where
    go : (t : Bool) → OkIs HasCells (cond t (Err 6) (document_of text >>= λ ms. header_of least ms))
    go true = tt
    go false = then_any HasCells (document_of text) (λ ms. header_of least ms) (λ ms. header_few least ms)

pub cells_few : (least : ℕ) (text : List ℕ) (c : Cluster) → read_of least text ≡ Ok c → c.cells ≤ length c.nodes
cells_few least text c e = subst (OkIs HasCells) e (read_few least text)

-- A cluster that was read for the node of some number is served, and has that node.
use Rattle.std.proofs.Common.{◌≡◌, ℕ, ◌≤◌, ◌&&◌, Bool, true, false, cond, List, length, Option, Some, None, Result, Ok, Err, refl, subst, arith}
use Rattle.std.specs.Prelude.{codes, nat_le, nat_lt, not}
use Rattle.std.specs.List.{list_any}
use Rattle.std.proofs.lemmas.Bool.Decides.{nat_tests}
use Rattle.toml.specs.Data.{Data, Members, get_member}
use Rattle.mega_base.specs.declared.values.NodeKind.{NodeKind}
use Rattle.mega_cluster.specs.declared.cluster.Cluster.{Cluster}
use Rattle.mega_cluster.specs.Header.{◌>>=◌, cells_of, counted, document_of, has_unknown_key, header_of, is_full, needed, nodes_of, nodes_of_data, number_of, read_of, ruled_out, schema_of}
use Rattle.mega_server.specs.of_core.Served.{IsServed}
use Rattle.mega_rules.specs.Members.{is_node}
use Rattle.mega_line_laws.proofs.Starting.{can_start}
use Rattle.mega_node.specs.Headers.{IsRead}

-- what is read is so, unless a rule is broken
abbrev OkIs : {A : Type 0} → (A → Type 0) → Result A ℕ → Type 0
OkIs P (Ok x) = P x
OkIs P (Err rule) = Unit {0}

then_ok : {A B : Type 0} (P : A → Type 0) (Q : B → Type 0) (r : Result A ℕ) (f : A → Result B ℕ) → OkIs P r → ((x : A) → P x → OkIs Q (f x)) → OkIs Q (r >>= f)
then_ok P Q (Ok x) f h k = k x h
then_ok P Q (Err rule) f h k = tt

then_any : {A B : Type 0} (Q : B → Type 0) (r : Result A ℕ) (f : A → Result B ℕ) → ((x : A) → OkIs Q (f x)) → OkIs Q (r >>= f)
then_any Q (Ok x) f k = k x
then_any Q (Err rule) f k = tt

-- no fewer nodes than these
abbrev AreEnough : ℕ → List NodeKind → Type 0
AreEnough least kinds = nat_le least (length kinds) ≡ true

enough : (least : ℕ) (kinds : List NodeKind) (one nine enough : Bool) → enough ≡ nat_le least (length kinds) → OkIs (AreEnough least) (needed 3 (cond (one && nine && enough) (Some kinds) None))
enough least kinds true true true is = cc
enough least kinds true true false is = tt
enough least kinds true false all is = tt
enough least kinds false nine all is = tt

counted_enough : (least : ℕ) (kinds : Option (List NodeKind)) → OkIs (AreEnough least) (needed 3 (counted least kinds))
counted_enough least None = tt
counted_enough least (Some kinds) = enough least kinds (nat_le 1 (length kinds)) (nat_le (length kinds) 9) (nat_le least (length kinds)) refl

nodes_enough : (least : ℕ) (o : Option Data) → OkIs (AreEnough least) (needed 3 (nodes_of least o))
nodes_enough least None = tt
nodes_enough least (Some d) = counted_enough least (nodes_of_data d)

abbrev HasEnough : ℕ → Cluster → Type 0
HasEnough least c = AreEnough least c.nodes

header_enough : (least : ℕ) (ms : Members) → OkIs (HasEnough least) (header_of least ms)
unfolding header_of
header_enough least ms =
    then_any (HasEnough least) (ruled_out (has_unknown_key ms) 7) _ (λ _.
    then_ok (AreEnough least) (HasEnough least) (needed 3 (nodes_of least (get_member (codes "nodes") ms))) _ (nodes_enough least (get_member (codes "nodes") ms)) (λ nodes enough.
    then_any (HasEnough least) (ruled_out (not (list_any is_full nodes)) 4) _ (λ _.
    then_any (HasEnough least) (needed 5 (cells_of (length nodes) (get_member (codes "cells") ms))) _ (λ cells.
    then_any (HasEnough least) (needed 6 (number_of 1 1000000000 100 (get_member (codes "lease") ms))) _ (λ lease.
    then_any (HasEnough least) (needed 6 (number_of 1 1000000000 1000 (get_member (codes "patience") ms))) _ (λ patience.
    then_any (HasEnough least) (needed 6 (number_of 1 1000000000 50 (get_member (codes "retry") ms))) _ (λ retry.
    then_any (HasEnough least) (needed 6 (number_of 0 1000000000 20 (get_member (codes "margin") ms))) _ (λ margin.
    then_any (HasEnough least) (needed 6 (number_of 1 1000 64 (get_member (codes "apply") ms))) _ (λ apply.
    then_any (HasEnough least) (needed 6 (number_of 1 1000000 1000000 (get_member (codes "limit") ms))) _ (λ limit.
    then_any (HasEnough least) (schema_of (get_member (codes "schema") ms)) _ (λ schema. enough)))))))))))

read_enough : (least : ℕ) (text : List ℕ) → OkIs (HasEnough least) (read_of least text)
read_enough least text = go (nat_lt 262144 (length text))
  where
    go : (t : Bool) → OkIs (HasEnough least) (cond t (Err 6) (document_of text >>= λ ms. header_of least ms))
    go true = tt
    go false = then_any (HasEnough least) (document_of text) (λ ms. header_of least ms) (λ ms. header_enough least ms)

both : (one two : Bool) → one ≡ true → two ≡ true → one && two ≡ true
both true true first second = refl
both true false first second = second
both false two first second = first

from_one : (n : ℕ) → 1 ≤ n → nat_le 1 n ≡ true
from_one n least = grind (arith, nat_tests)

pub is_member : (number : ℕ) (c : Cluster) → 1 ≤ number → IsRead number c → is_node c number ≡ true
is_member number c least read = both (nat_le 1 number) (nat_le number (length c.nodes)) (from_one number least) (subst (OkIs (HasEnough number)) read.1 (read_enough number read.0))

pub is_served : (number : ℕ) (c : Cluster) → IsRead number c → IsServed c
is_served number c read = (can_start number read.0 c read.1).served

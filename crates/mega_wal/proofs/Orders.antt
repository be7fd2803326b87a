-- The tests of order are the orders.
use Rattle.std.proofs.Common.{◌≡◌, ◌↔◌, ◌⊎◌, inl, inr, ℕ, ◌==◌, ◌<◌, ◌&&◌, ◌||◌, Bool, true, false, refl, sym, ap, ◌∙◌, arith, nat_lt}
use Rattle.std.specs.Ordering.{is_eq, ordering_reverse}
use Rattle.std.specs.declared.cmp.Ordering.{Ordering}
use Rattle.std.specs.declared.cmp.Ordering.TheVariants.{Less, Equal, Greater}
use Rattle.std.specs.Cmp.Lexicographic.{nat_list_cmp_total}
use Rattle.std.proofs.lemmas.Bool.Decides.{nat_tests}
use Rattle.std.proofs.lemmas.Map.Lookups.{exact_bytes}
use Rattle.mega_base.specs.declared.names.OpId.{OpId}
use Rattle.mega_base.specs.declared.names.GroupId.{GroupId}
use Rattle.mega_acceptor.specs.of_ballot.declared.ballot.Ballot.{Ballot}
use Rattle.mega_acceptor.specs.of_ballot.Order.{IsBelow, IsOpBelow}
use Rattle.mega_acceptor.specs.of_entry.Same.{same_group}
use Rattle.mega_wal.specs.Acceptor.{is_ballot_below, is_op_below}
use Rattle.mega_wal.specs.History.{group_cmp}
use Rattle.mega_wal.specs.Kept.{is_group}
use Rattle.mega_acceptor.proofs.of_entry.Sames.{same_group_equal, same_group_self}

or_iff : (x y : Bool) (P Q : Type 0) → (x ≡ true) ↔ P → (y ≡ true) ↔ Q → ((x || y) ≡ true) ↔ (P ⊎ Q)
or_iff true y P Q p q = (λ h. inl (p.0 refl), λ h. refl)
or_iff false y P Q p q = (λ h. inr (q.0 h), back)
  where
    back : P ⊎ Q → y ≡ true
    back (inl h) = let k = p.1 h in cc
    back (inr h) = q.1 h

and_iff : (x y : Bool) (P Q : Type 0) → (x ≡ true) ↔ P → (y ≡ true) ↔ Q → ((x && y) ≡ true) ↔ (P × Q)
and_iff true y P Q p q = (λ h. (p.0 refl, q.0 h), λ h. q.1 h.1)
and_iff false y P Q p q = (λ h. (let k = h in cc), λ h. let k = p.1 h.0 in cc)

lt_iff : (a b : ℕ) → (nat_lt a b ≡ true) ↔ (a < b)
lt_iff a b = (λ h. grind (arith, nat_tests), λ h. grind (arith, nat_tests))

eq_iff : (a b : ℕ) → ((a == b) ≡ true) ↔ (a ≡ b)
eq_iff a b = (λ h. grind (arith, nat_tests), λ h. grind (arith, nat_tests))

op_iff : (a b : OpId) → (is_op_below a b ≡ true) ↔ IsOpBelow a b
op_iff a b =
    or_iff (nat_lt a.node.0 b.node.0) (a.node.0 == b.node.0 && (nat_lt a.start b.start || (a.start == b.start && nat_lt a.number b.number))) _ _
    (lt_iff a.node.0 b.node.0)
    (and_iff (a.node.0 == b.node.0) (nat_lt a.start b.start || (a.start == b.start && nat_lt a.number b.number)) _ _ (eq_iff a.node.0 b.node.0)
    (or_iff (nat_lt a.start b.start) (a.start == b.start && nat_lt a.number b.number) _ _ (lt_iff a.start b.start)
    (and_iff (a.start == b.start) (nat_lt a.number b.number) _ _ (eq_iff a.start b.start) (lt_iff a.number b.number))))

-- the test of ballots is their order
pub is_below_iff : (a b : Ballot) → (is_ballot_below a b ≡ true) ↔ IsBelow a b
is_below_iff a b =
    or_iff (nat_lt a.round b.round) (a.round == b.round && is_op_below a.op b.op) _ _ (lt_iff a.round b.round)
    (and_iff (a.round == b.round) (is_op_below a.op b.op) _ _ (eq_iff a.round b.round) (op_iff a.op b.op))

-- ---- groups as keys of a map
equal_order : (o : Ordering) → is_eq o ≡ true → o ≡ Equal
equal_order Less e = cc
equal_order Equal e = refl
equal_order Greater e = cc

pub is_group_equal : (g h : GroupId) → is_group g h ≡ true → g ≡ h
is_group_equal g h e = λ i. record { key = exact_bytes g.key h.key (equal_order (group_cmp g h) e) i }

pub is_group_self : (g : GroupId) → is_group g g ≡ true
is_group_self g = go (group_cmp g g) (nat_list_cmp_total.antisymm g.key g.key)
  where
    go : (o : Ordering) → o ≡ ordering_reverse o → is_eq o ≡ true
    go Less h = cc
    go Equal h = refl
    go Greater h = cc

pub is_group_is : (g h : GroupId) → is_group g h ≡ same_group g h
is_group_is g h = go (is_group g h) (same_group g h) refl refl
  where
    go : (a b : Bool) → is_group g h ≡ a → same_group g h ≡ b → a ≡ b
    go true true x y = refl
    go false false x y = refl
    go true false x y = let e : g ≡ h = is_group_equal g h x in let s : same_group g h ≡ true = ap (same_group g) (sym e) ∙ same_group_self g in cc
    go false true x y = let e : g ≡ h = same_group_equal g h y in let s : is_group g h ≡ true = ap (is_group g) (sym e) ∙ is_group_self g in cc

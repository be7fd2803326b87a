-- The tests of equality tell whether two values are equal.
use Rattle.std.proofs.Common.{◌≡◌, ◌↔◌, ℕ, ◌==◌, ◌&&◌, Bool, true, false, List, [], ◌∷◌, Option, Some, None, refl, sym, ap, ◌∙◌, arith}
use Rattle.std.specs.Prelude.{ℤ, pos, negsuc, IsTrue}
use Rattle.std.specs.Bool.{Decides, one_answer}
use Rattle.std.proofs.lemmas.Bool.{and_from, and_parts, eq-eqb, eqb-true}
use Rattle.std.proofs.lemmas.Bool.Decides.{nat_tests}
use Rattle.mega_base.specs.declared.names.OpId.{OpId}
use Rattle.mega_base.specs.declared.names.GroupId.{GroupId}
use Rattle.mega_base.specs.declared.values.Value.{Value}
use Rattle.mega_base.specs.declared.values.Value.TheVariants.{Int32, Int64, Bool as Truth, Str, Raw}
use Rattle.mega_entry.specs.declared.content.Content.{Content}
use Rattle.mega_entry.specs.Same.{same_list, same_option, same_number, same_bytes, same_op, same_group, same_int, same_truth, same_value, same_values, same_cell, same_row, same_write, same_name, same_send, same_enter, same_cut, same_entry}

-- a test that is true of equal values alone
pub record Tells {X : Type 0} (same : X → X → Bool) : Type 0 where
  pub equal : (x y : X) → same x y ≡ true → x ≡ y
  pub self : (x : X) → same x x ≡ true

list_equal : {X : Type 0} (same : X → X → Bool) → Tells same → (xs ys : List X) → same_list same xs ys ≡ true → xs ≡ ys
list_equal same t [] [] h = refl
list_equal same t [] (y ∷ ys) h = cc
list_equal same t (x ∷ xs) [] h = cc
list_equal same t (x ∷ xs) (y ∷ ys) h = let p = and_parts (same x y) (same_list same xs ys) h in λ i. t.equal x y p.0 i ∷ list_equal same t xs ys p.1 i

list_self : {X : Type 0} (same : X → X → Bool) → Tells same → (xs : List X) → same_list same xs xs ≡ true
list_self same t [] = refl
list_self same t (x ∷ xs) = and_from (same x x) (same_list same xs xs) (t.self x) (list_self same t xs)

pub lists : {X : Type 0} {same : X → X → Bool} → Tells same → Tells (same_list same)
lists {same = same} t = record { equal = list_equal same t; self = list_self same t }

option_equal : {X : Type 0} (same : X → X → Bool) → Tells same → (x y : Option X) → same_option same x y ≡ true → x ≡ y
option_equal same t None None h = refl
option_equal same t None (Some y) h = cc
option_equal same t (Some x) None h = cc
option_equal same t (Some x) (Some y) h = ap Some (t.equal x y h)

option_self : {X : Type 0} (same : X → X → Bool) → Tells same → (x : Option X) → same_option same x x ≡ true
option_self same t None = refl
option_self same t (Some x) = t.self x

options : {X : Type 0} {same : X → X → Bool} → Tells same → Tells (same_option same)
options {same = same} t = record { equal = option_equal same t; self = option_self same t }

number_self : (a : ℕ) → (a == a) ≡ true
number_self a = eq-eqb a a refl

numbers : Tells same_number
numbers = record { equal = eqb-true; self = number_self }

bytes : Tells same_bytes
bytes = lists numbers

pub same_op_equal : (a b : OpId) → same_op a b ≡ true → a ≡ b
same_op_equal a b h =
    let p = and_parts (a.node.0 == b.node.0 && a.start == b.start) (a.number == b.number) h in
    let q = and_parts (a.node.0 == b.node.0) (a.start == b.start) p.0 in
    λ i. record { node = record { 0 = eqb-true a.node.0 b.node.0 q.0 i }; start = eqb-true a.start b.start q.1 i; number = eqb-true a.number b.number p.1 i }

pub same_op_self : (a : OpId) → same_op a a ≡ true
same_op_self a = and_from (a.node.0 == a.node.0 && a.start == a.start) (a.number == a.number) (and_from (a.node.0 == a.node.0) (a.start == a.start) (number_self a.node.0) (number_self a.start)) (number_self a.number)

pub ops : Tells same_op
ops = record { equal = same_op_equal; self = same_op_self }

pub same_group_equal : (a b : GroupId) → same_group a b ≡ true → a ≡ b
same_group_equal a b h = λ i. record { key = bytes.equal a.key b.key h i }

pub same_group_self : (a : GroupId) → same_group a a ≡ true
same_group_self a = bytes.self a.key

pub groups : Tells same_group
groups = record { equal = same_group_equal; self = same_group_self }

int_equal : (a b : ℤ) → same_int a b ≡ true → a ≡ b
int_equal (pos a) (pos b) h = ap pos (grind (arith, nat_tests))
int_equal (pos a) (negsuc b) h = cc
int_equal (negsuc a) (pos b) h = cc
int_equal (negsuc a) (negsuc b) h = ap negsuc (grind (arith, nat_tests))

int_self : (a : ℤ) → same_int a a ≡ true
int_self (pos a) = grind (arith, nat_tests)
int_self (negsuc a) = grind (arith, nat_tests)

truth_equal : (a b : Bool) → same_truth a b ≡ true → a ≡ b
truth_equal true true h = refl
truth_equal true false h = cc
truth_equal false true h = cc
truth_equal false false h = refl

truth_self : (a : Bool) → same_truth a a ≡ true
truth_self true = refl
truth_self false = refl

value_equal : (a b : Value) → same_value a b ≡ true → a ≡ b
value_equal (Int32 a) (Int32 b) h = ap Int32 (int_equal a b h)
value_equal (Int64 a) (Int64 b) h = ap Int64 (int_equal a b h)
value_equal (Truth a) (Truth b) h = ap Truth (truth_equal a b h)
value_equal (Str a) (Str b) h = ap Str (bytes.equal a b h)
value_equal (Raw a) (Raw b) h = ap Raw (bytes.equal a b h)
value_equal _ _ h = cc

value_self : (a : Value) → same_value a a ≡ true
value_self (Int32 a) = int_self a
value_self (Int64 a) = int_self a
value_self (Truth a) = truth_self a
value_self (Str a) = bytes.self a
value_self (Raw a) = bytes.self a

pub values : Tells same_value
values = record { equal = value_equal; self = value_self }

cells : Tells same_cell
cells = record {
  equal = λ a b h. let p = and_parts (a.property == b.property) (same_values a.values b.values) h in
      λ i. record { property = eqb-true a.property b.property p.0 i; values = (lists values).equal a.values b.values p.1 i };
  self = λ a. and_from (a.property == a.property) (same_values a.values a.values) (number_self a.property) ((lists values).self a.values);
}

pub rows : Tells same_row
rows = record { equal = λ a b h i. record { cells = (lists cells).equal a.cells b.cells h i }; self = λ a. (lists cells).self a.cells }

writes : Tells same_write
writes = record {
  equal = λ a b h. let p = and_parts (same_bytes a.key b.key) (same_option same_row a.row b.row) h in
      λ i. record { key = bytes.equal a.key b.key p.0 i; row = (options rows).equal a.row b.row p.1 i };
  self = λ a. and_from (same_bytes a.key a.key) (same_option same_row a.row a.row) (bytes.self a.key) ((options rows).self a.row);
}

pub names : Tells same_name
names = record {
  equal = λ a b h.
      let p = and_parts (same_group a.group b.group && a.position.0 == b.position.0) (a.place == b.place) h in
      let q = and_parts (same_group a.group b.group) (a.position.0 == b.position.0) p.0 in
      λ i. record { group = groups.equal a.group b.group q.0 i; position = record { 0 = eqb-true a.position.0 b.position.0 q.1 i }; place = eqb-true a.place b.place p.1 i };
  self = λ a. and_from (same_group a.group a.group && a.position.0 == a.position.0) (a.place == a.place) (and_from (same_group a.group a.group) (a.position.0 == a.position.0) (groups.self a.group) (number_self a.position.0)) (number_self a.place);
}

sends : Tells same_send
sends = record {
  equal = λ a b h.
      let p = and_parts (same_group a.to b.to && same_bytes a.queue b.queue) (same_bytes a.payload b.payload) h in
      let q = and_parts (same_group a.to b.to) (same_bytes a.queue b.queue) p.0 in
      λ i. record { to = groups.equal a.to b.to q.0 i; queue = bytes.equal a.queue b.queue q.1 i; payload = bytes.equal a.payload b.payload p.1 i };
  self = λ a. and_from (same_group a.to a.to && same_bytes a.queue a.queue) (same_bytes a.payload a.payload) (and_from (same_group a.to a.to) (same_bytes a.queue a.queue) (groups.self a.to) (bytes.self a.queue)) (bytes.self a.payload);
}

enters : Tells same_enter
enters = record {
  equal = λ a b h.
      let p = and_parts (same_name a.name b.name && same_bytes a.queue b.queue) (same_bytes a.payload b.payload) h in
      let q = and_parts (same_name a.name b.name) (same_bytes a.queue b.queue) p.0 in
      λ i. record { name = names.equal a.name b.name q.0 i; queue = bytes.equal a.queue b.queue q.1 i; payload = bytes.equal a.payload b.payload p.1 i };
  self = λ a. and_from (same_name a.name a.name && same_bytes a.queue a.queue) (same_bytes a.payload a.payload) (and_from (same_name a.name a.name) (same_bytes a.queue a.queue) (names.self a.name) (bytes.self a.queue)) (bytes.self a.payload);
}

cuts : Tells same_cut
cuts = record {
  equal = λ a b h.
      let p = and_parts (a.index == b.index && a.writes == b.writes) (a.sends == b.sends) h in
      let q = and_parts (a.index == b.index) (a.writes == b.writes) p.0 in
      λ i. record { index = eqb-true a.index b.index q.0 i; writes = eqb-true a.writes b.writes q.1 i; sends = eqb-true a.sends b.sends p.1 i };
  self = λ a. and_from (a.index == a.index && a.writes == a.writes) (a.sends == a.sends) (and_from (a.index == a.index) (a.writes == a.writes) (number_self a.index) (number_self a.writes)) (number_self a.sends);
}

-- seven tests, one after another
seven : (a b c d e f g : Bool) → (a && b && c && d && e && f && g) ≡ true → (a ≡ true) × (b ≡ true) × (c ≡ true) × (d ≡ true) × (e ≡ true) × (f ≡ true) × (g ≡ true)
seven true true true true true true true h = (refl, refl, refl, refl, refl, refl, refl)
seven false b c d e f g h = cc
seven true false c d e f g h = cc
seven true true false d e f g h = cc
seven true true true false e f g h = cc
seven true true true true false f g h = cc
seven true true true true true false g h = cc
seven true true true true true true false h = cc

all_seven : (a b c d e f g : Bool) → a ≡ true → b ≡ true → c ≡ true → d ≡ true → e ≡ true → f ≡ true → g ≡ true → (a && b && c && d && e && f && g) ≡ true
all_seven a b c d e f g h1 h2 h3 h4 h5 h6 h7 = and_from (a && b && c && d && e && f) g (and_from (a && b && c && d && e) f (and_from (a && b && c && d) e (and_from (a && b && c) d (and_from (a && b) c (and_from a b h1 h2) h3) h4) h5) h6) h7

pub same_entry_equal : (a b : Content) → same_entry a b ≡ true → a ≡ b
same_entry_equal a b h =
    let p = seven (same_option same_op a.id b.id) (a.leader.0 == b.leader.0) (same_list same_write a.writes b.writes) (same_list same_send a.sends b.sends) (same_list same_enter a.enters b.enters) (same_list same_name a.handles b.handles) (same_list same_cut a.cuts b.cuts) h in
    λ i. record {
      id = (options ops).equal a.id b.id p.0 i;
      leader = record { 0 = eqb-true a.leader.0 b.leader.0 p.1 i };
      writes = (lists writes).equal a.writes b.writes p.2 i;
      sends = (lists sends).equal a.sends b.sends p.3 i;
      enters = (lists enters).equal a.enters b.enters p.4 i;
      handles = (lists names).equal a.handles b.handles p.5 i;
      cuts = (lists cuts).equal a.cuts b.cuts p.6 i;
    }

pub same_entry_self : (a : Content) → same_entry a a ≡ true
same_entry_self a =
    all_seven (same_option same_op a.id a.id) (a.leader.0 == a.leader.0) (same_list same_write a.writes a.writes) (same_list same_send a.sends a.sends) (same_list same_enter a.enters a.enters) (same_list same_name a.handles a.handles) (same_list same_cut a.cuts a.cuts)
    ((options ops).self a.id) (number_self a.leader.0) ((lists writes).self a.writes) ((lists sends).self a.sends) ((lists enters).self a.enters) ((lists names).self a.handles) ((lists cuts).self a.cuts)

pub along : {X : Type 0} (same : X → X → Bool) → Tells same → (a b : X) → a ≡ b → same a b ≡ true
along same t a b e = ap (same a) (sym e) ∙ t.self a

pub tells-Decides : {X : Type 0} (same : X → X → Bool) → Tells same → (a b : X) → Decides (same a b) (a ≡ b)
tells-Decides same t a b = (t.equal a b, along same t a b)

-- a test with the same meaning gives the same
pub test_is : {X : Type 0} (same : X → X → Bool) → Tells same → (test : Bool) (a b : X) → IsTrue test ↔ (a ≡ b) → test ≡ same a b
test_is same t test a b means = one_answer test (same a b) (means.0, means.1) (tells-Decides same t a b)

pub entries : Tells same_entry
entries = record { equal = same_entry_equal; self = same_entry_self }

pub same_entry_iff : (a b : Content) → (same_entry a b ≡ true) ↔ (a ≡ b)
same_entry_iff a b = (same_entry_equal a b, along same_entry entries a b)

pub same_group_iff : (a b : GroupId) → (same_group a b ≡ true) ↔ (a ≡ b)
same_group_iff a b = (same_group_equal a b, along same_group groups a b)

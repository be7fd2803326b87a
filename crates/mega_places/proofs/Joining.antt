-- The places of a world once a node stepped or went down.
use Rattle.std.proofs.Common.{◌≡◌, ℕ, ◌+◌, ◌-◌, ◌<◌, ◌≤◌, ◌==◌, cond, Bool, true, false, List, [], ◌∷◌, length, set, Some, None, is_some, refl, sym, ap, ◌∙◌, subst, zero, suc, arith}
use Rattle.std.proofs.lemmas.Bool.Decides.{nat_tests}
use Rattle.std.specs.List.{slice_get}
use Rattle.mega_cluster.specs.declared.cluster.Cluster.{Cluster}
use Rattle.mega_rules.specs.Clock.{is_up}
use Rattle.mega_rules.specs.Operations.{Node as RuleNode}
use Rattle.mega_promises.specs.Runs.{Standing, set_at}
use Rattle.mega_places.specs.declared.place.Place.{Place}
use Rattle.mega_places.specs.declared.place.Place.TheVariants.{Up, Down}
use Rattle.mega_places.specs.declared.fallen.Fallen.{Fallen}
use Rattle.mega_places.specs.declared.member.Member.{Member}
use Rattle.mega_places.specs.Kept.{AreKept, AreNodes, IsKept}
use Rattle.mega_places.specs.Members.{AreMembers, IsMember, is_up_at, member_in, member_of}

length_set : {X : Type 0} (xs : List X) (i : ℕ) (v : X) → length (set xs i v) ≡ length xs
length_set [] i v = refl
length_set (x ∷ xs) zero v = refl
length_set (x ∷ xs) (suc i) v = ap suc (length_set xs i v)

-- what stands in a list of which one place was written
pub get_set : {X : Type 0} (xs : List X) (i j : ℕ) (v : X) → i < length xs → slice_get (set xs i v) j ≡ cond (i == j) (Some v) (slice_get xs j)
get_set [] i j v below = absurd (omega (arith, below))
get_set (x ∷ xs) zero zero v below = refl
get_set (x ∷ xs) zero (suc j) v below = let apart : (0 == suc j) ≡ false = grind (arith, nat_tests) in ap (λ t. cond t (Some v) (slice_get xs j)) (sym apart)
get_set (x ∷ xs) (suc i) zero v below = let apart : (suc i == 0) ≡ false = grind (arith, nat_tests) in ap (λ t. cond t (Some v) (Some x)) (sym apart)
get_set (x ∷ xs) (suc i) (suc j) v below =
    let same : (suc i == suc j) ≡ (i == j) = grind (arith, nat_tests) in
    let less : i < length xs = omega (arith, below) in
    get_set xs i j v less ∙ ap (λ t. cond t (Some v) (slice_get xs j)) (sym same)

-- the node of a number, by its place
pub member_is : (places : List Place) (me i : ℕ) → i ≡ me - 1 → 1 ≤ me → member_of places me ≡ member_in (slice_get places i)
member_is places me i is least =
    let apart : (me == 0) ≡ false = grind (arith, nat_tests) in
    ap (λ t. cond t None (member_in (slice_get places (me - 1)))) apart ∙ ap (λ k. member_in (slice_get places k)) (sym is)

pub member_up : (places : List Place) (me i : ℕ) (place : Place) (node : Member) → i ≡ me - 1 → 1 ≤ me → slice_get places i ≡ Some place → place ≡ Up node → member_of places me ≡ Some node
member_up places me i place node is least there up = member_is places me i is least ∙ ap member_in (there ∙ ap Some up)

pub not_down : (places : List Place) (me i : ℕ) (place : Place) (fallen : Fallen) → i ≡ me - 1 → 1 ≤ me → slice_get places i ≡ Some place → place ≡ Down fallen → is_up_at places me ≡ true → ⊥
not_down places me i place fallen is least there down up = let none : is_up_at places me ≡ false = ap is_some (member_is places me i is least ∙ ap member_in (there ∙ ap Some down)) in let no = sym none ∙ up in cc

-- a node that is up has a place
pub up_within : (places : List Place) (me : ℕ) → is_up_at places me ≡ true → (1 ≤ me) × (me ≤ length places)
up_within places zero up = let no : false ≡ true = up in cc
up_within places (suc i) up = (omega arith, by places i (sym (ap is_some (member_is places (suc i) i (omega arith) (omega arith))) ∙ up))
  where
    by : (xs : List Place) (j : ℕ) → is_some (member_in (slice_get xs j)) ≡ true → suc j ≤ length xs
    by [] j up = let no : false ≡ true = up in cc
    by (x ∷ xs) zero up = omega arith
    by (x ∷ xs) (suc j) up = let less = by xs j up in omega (arith, less)

-- the nodes once one place was written
pub member_set : (places : List Place) (me other : ℕ) (place : Place) → 1 ≤ me → me ≤ length places
    → member_of (set places (me - 1) place) other ≡ cond (me == other) (member_in (Some place)) (member_of places other)
member_set places me zero place least most = let apart : (me == 0) ≡ false = grind (arith, nat_tests) in ap (λ t. cond t (member_in (Some place)) None) (sym apart)
member_set places me (suc j) place least most =
    let same : (me - 1 == j) ≡ (me == suc j) = grind (arith, nat_tests) in
    let below : me - 1 < length places = omega (arith, least, most) in
    member_is (set places (me - 1) place) (suc j) j (omega arith) (omega arith)
    ∙ ap member_in (get_set places (me - 1) j place below)
    ∙ ap (λ t. member_in (cond t (Some place) (slice_get places j))) same
    ∙ by (me == suc j)
    ∙ ap (cond (me == suc j) (member_in (Some place))) (sym (member_is places (suc j) j (omega arith) (omega arith)))
  where
    by : (t : Bool) → member_in (cond t (Some place) (slice_get places j)) ≡ cond t (member_in (Some place)) (member_in (slice_get places j))
    by true = refl
    by false = refl

-- what is put into a place is up or down as the rules' node is
abbrev pub IsPlace : Cluster → ℕ → Place → RuleNode → Type 0
IsPlace c me (Up node) ruled = IsMember c me node ruled × (is_up ruled.met ≡ true)
IsPlace c me (Down fallen) ruled = is_up ruled.met ≡ false

member_one : (c : Cluster) (me : ℕ) (place : Place) (next : RuleNode) (node : Member) → IsPlace c me place next → member_in (Some place) ≡ Some node → IsMember c me node next
member_one c me (Up one) next node is same = let e : one ≡ node = cc in subst (λ (n : Member). IsMember c me n next) e is.0
member_one c me (Down fallen) next node is same = cc

up_one : (c : Cluster) (me : ℕ) (place : Place) (next : RuleNode) → IsPlace c me place next → is_up next.met ≡ is_some (member_in (Some place))
up_one c me (Up one) next is = is.1
up_one c me (Down fallen) next is = is

pub joined : (c : Cluster) (places : List Place) (ruled : ℕ → RuleNode) (me : ℕ) (place : Place) (next : RuleNode) → AreMembers c places ruled → 1 ≤ me → me ≤ length places → IsPlace c me place next
    → AreMembers c (set places (me - 1) place) (set_at ruled me next)
joined c places ruled me place next all least most one = record {
  count = length_set places (me - 1) place ∙ all.count;
  each = λ other node is. each_by other (me == other) refl node (sym (member_set places me other place least most) ∙ is);
  up_are = λ other. up_by other (me == other) ∙ sym (ap is_some (member_set places me other place least most));
}
  where
    each_by : (other : ℕ) (t : Bool) → (me == other) ≡ t → (node : Member) → cond t (member_in (Some place)) (member_of places other) ≡ Some node → IsMember c other node (cond t next (ruled other))
    each_by other true same node is = let e : me ≡ other = grind (arith, nat_tests) in subst (λ (k : ℕ). IsMember c k node next) e (member_one c me place next node one is)
    each_by other false apart node is = all.each other node is

    up_by : (other : ℕ) (t : Bool) → is_up (cond t next (ruled other)).met ≡ is_some (cond t (member_in (Some place)) (member_of places other))
    up_by other true = up_one c me place next one
    up_by other false = all.up_are other

-- what stands in the place of a number
pub place_at : (places : List Place) (me : ℕ) → 1 ≤ me → me ≤ length places → (place : Place) × (slice_get places (me - 1) ≡ Some place)
place_at places me least most = by places (me - 1) (omega (arith, least, most))
  where
    by : (xs : List Place) (i : ℕ) → i < length xs → (place : Place) × (slice_get xs i ≡ Some place)
    by [] i below = absurd (omega (arith, below))
    by (x ∷ xs) zero below = (x, refl)
    by (x ∷ xs) (suc i) below = by xs i (omega (arith, below))

-- a place is written twice
pub set_twice : {X : Type 0} (xs : List X) (i : ℕ) (v w : X) → set (set xs i v) i w ≡ set xs i w
set_twice [] i v w = refl
set_twice (x ∷ xs) zero v w = refl
set_twice (x ∷ xs) (suc i) v w = ap (λ t. x ∷ t) (set_twice xs i v w)

-- at its own number a function was changed, and at no other
pub at_own : {X : Type 0} (f : ℕ → X) (me : ℕ) (v : X) → set_at f me v me ≡ v
at_own f me v = let same : (me == me) ≡ true = grind (arith, nat_tests) in ap (λ t. cond t v (f me)) same

pub at_other : {X : Type 0} (f : ℕ → X) (me other : ℕ) (v : X) → (me == other) ≡ false → set_at f me v other ≡ f other
at_other f me other v apart = ap (λ t. cond t v (f other)) apart

-- what nodes keep, once one place was written
pub record Alike (now later : Standing) (other : ℕ) : Type 0 where
  pub starts : later.starts other ≡ now.starts other
  pub owed : later.owed other ≡ now.owed other
  pub ruled : later.node other ≡ now.node other
  pub fuse : later.log_fuse other ≡ now.log_fuse other

pub kept_on : (c : Cluster) (places : List Place) (me : ℕ) (place : Place) (now later : Standing) → AreKept c places now.starts now.owed now.node now.log_fuse → 1 ≤ me → me ≤ length places
    → ((other : ℕ) → (me == other) ≡ false → Alike now later other) → IsKept c me place (later.starts me) (later.owed me) (later.node me).met (later.log_fuse me)
    → AreKept c (set places (me - 1) place) later.starts later.owed later.node later.log_fuse
kept_on c places me place now later was least most same here = record { each = λ i p is. by i p (me - 1 == i) refl (sym (get_set places (me - 1) i place (omega (arith, least, most))) ∙ is) }
  where
    by : (i : ℕ) (p : Place) (t : Bool) → (me - 1 == i) ≡ t → cond t (Some place) (slice_get places i) ≡ Some p → IsKept c (i + 1) p (later.starts (i + 1)) (later.owed (i + 1)) (later.node (i + 1)).met (later.log_fuse (i + 1))
    by i p true own is =
        let e : me ≡ i + 1 = grind (arith, nat_tests) in
        let q : place ≡ p = cc in
        subst (λ (n : ℕ). IsKept c n p (later.starts n) (later.owed n) (later.node n).met (later.log_fuse n)) e
        (subst (λ (x : Place). IsKept c me x (later.starts me) (later.owed me) (later.node me).met (later.log_fuse me)) q here)
    by i p false off is =
        let apart : (me == i + 1) ≡ false = grind (arith, nat_tests) in
        let s = same (i + 1) apart in
        coe 0 1 (k. IsKept c (i + 1) p (sym s.starts k) (sym s.owed k) (sym s.ruled k).met (sym s.fuse k)) (was.each i p is)

-- all nodes, once the place of one was written
pub nodes_on : (c : Cluster) (places : List Place) (me : ℕ) (place : Place) (next : RuleNode) (now later : Standing) → AreNodes c places now → 1 ≤ me → me ≤ length places → IsPlace c me place next → later.node ≡ set_at now.node me next
    → ((other : ℕ) → (me == other) ≡ false → Alike now later other) → IsKept c me place (later.starts me) (later.owed me) next.met (later.log_fuse me) → AreNodes c (set places (me - 1) place) later
nodes_on c places me place next now later all least most one ruled same here = record {
  members = subst (AreMembers c (set places (me - 1) place)) (sym ruled) (joined c places now.node me place next all.members least most one);
  kept = kept_on c places me place now later all.kept least most same
      (subst (λ (n : RuleNode). IsKept c me place (later.starts me) (later.owed me) n.met (later.log_fuse me)) (sym (ap (λ (f : ℕ → RuleNode). f me) ruled ∙ at_own now.node me next)) here);
}

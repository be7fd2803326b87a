-- What the kind of a node tells: a full node keeps rows; one that is not full serves what ends in the step in which it begins.
use Rattle.std.proofs.Common.{◌≡◌, ◌≤◌, ◌<◌, ◌-◌, ◌&&◌, nat_le, ℕ, Bool, true, false, List, length, Option, Some, None, refl, arith}
use Rattle.std.specs.Prelude.{cond, get_or, slice_get}
use Rattle.std.proofs.lemmas.Bool.Decides.{nat_tests}
use Rattle.std.proofs.lemmas.Option.{slice_get-get_or}
use Rattle.mega_base.specs.declared.values.NodeKind.{NodeKind}
use Rattle.mega_base.specs.declared.values.NodeKind.TheVariants.{Full, Witness, Read}
use Rattle.mega_cluster.specs.declared.cluster.Cluster.{Cluster}
use Rattle.mega_outcome.specs.declared.answer.Answer.TheVariants.{Worn}
use Rattle.mega_outcome.specs.declared.request.Request.{Request}
use Rattle.mega_rules.specs.Members.{has_rows, is_full, is_node, keeps_rows, kind_of, runs}
use Rattle.mega_rules.specs.Operations.{Node, Operation, Setting}
use Rattle.mega_rules.specs.Steps.{is_worn, missing_kind, needs_full, refusal, unless_missing}

first_of : (a b : Bool) → (a && b) ≡ true → a ≡ true
first_of true b h = refl
first_of false b h = h

second_of : (a b : Bool) → (a && b) ≡ true → b ≡ true
second_of true b h = h
second_of false b h = absurd (cc)

-- ---- a node of its cluster

pub member_least : (c : Cluster) (me : ℕ) → is_node c me ≡ true → 1 ≤ me
member_least c me member = least (first_of (nat_le 1 me) (nat_le me (length c.nodes)) member)
  where
    least : nat_le 1 me ≡ true → 1 ≤ me
    least h = grind (arith, nat_tests)

within : (me count : ℕ) → nat_le 1 me ≡ true → nat_le me count ≡ true → me - 1 < count
within me count least most = grind (arith, nat_tests)

member_kind : (c : Cluster) (me : ℕ) → is_node c me ≡ true → kind_of c me ≡ None → ⊥
member_kind c me member none = has (kind_of c me) (slice_get-get_or c.nodes (me - 1) Full (within me (length c.nodes) (first_of (nat_le 1 me) (nat_le me (length c.nodes)) member) (second_of (nat_le 1 me) (nat_le me (length c.nodes)) member))) none
  where
    has : (kind : Option NodeKind) → kind ≡ Some (get_or c.nodes (me - 1) Full) → kind ≡ None → ⊥
    has (Some kind) is not = cc
    has None is not = cc

-- ---- what a full node does

rows_by : (t : Bool) (kind : Option NodeKind) → (t && runs kind) ≡ true → (t && keeps_rows kind) ≡ true
rows_by true (Some Full) is = refl
rows_by true (Some Witness) is = absurd (cc)
rows_by true (Some Read) is = absurd (cc)
rows_by true None is = absurd (cc)
rows_by false kind is = absurd (cc)

-- a node without rows is not full
pub bare_is_other : (c : Cluster) (me : ℕ) → has_rows c me ≡ false → is_full c me ≡ false
bare_is_other c me none = by (is_full c me) refl
  where
    cross : (t : Bool) → t ≡ true → t ≡ false → ⊥
    cross true is not = cc
    cross false is not = cc

    by : (t : Bool) → is_full c me ≡ t → t ≡ false
    by true full = absurd (cross (has_rows c me) (rows_by (is_node c me) (kind_of c me) full) none)
    by false other = refl

-- ---- what others serve

needs_none : (t : Bool) → (cond t (Some Read) None) ≡ None → t ≡ false
needs_none true is = absurd (cc)
needs_none false is = refl

brief_by : (request : Request) (t : Bool) (kind : Option NodeKind) → t ≡ true → (t && runs kind) ≡ false → (kind ≡ None → ⊥) → missing_kind request kind ≡ None → needs_full request ≡ false
brief_by request true (Some Full) is other some none = absurd (cc)
brief_by request true (Some Witness) is other some none = absurd (cc)
brief_by request true (Some Read) is other some none = needs_none (needs_full request) none
brief_by request true None is other some none = absurd (some refl)
brief_by request false kind is other some none = absurd (cc)

served_by : (worn : Bool) (open_ones : List Operation) (missing : Option NodeKind) → cond worn (Some Worn) (unless_missing open_ones missing) ≡ None → missing ≡ None
served_by true open_ones missing none = absurd (cc)
served_by false open_ones (Some kind) none = absurd (cc)
served_by false open_ones None none = refl

pub brief_where_served : (s : Setting) (node : Node) (request : Request) → is_node s.cluster s.me ≡ true → is_full s.cluster s.me ≡ false → refusal s node request ≡ None → needs_full request ≡ false
brief_where_served s node request member other none =
    brief_by request (is_node s.cluster s.me) (kind_of s.cluster s.me) member other (member_kind s.cluster s.me member)
    (served_by (is_worn node.met) node.open_operations (missing_kind request (kind_of s.cluster s.me)) none)

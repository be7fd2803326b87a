-- The entries of a log by index: each is decided at its position, and a node's decided entries below it are those of the log.
use Rattle.std.proofs.Common.{◌≡◌, ℕ, zero, suc, ◌+◌, ◌<◌, List, [], ◌∷◌, length, take, slice_get, Option, Some, None, refl, sym, ap, ◌∙◌, subst, arith}
use Rattle.mega_base.specs.declared.names.GroupId.{GroupId}
use Rattle.mega_cluster.specs.declared.cluster.Cluster.{Cluster}
use Rattle.mega_entry.specs.declared.content.Content.{Content}
use Rattle.mega_promises.specs.of_transcript.declared.item.Item.{Item}
use Rattle.mega_promises.specs.Items.{number}
use Rattle.mega_promises.specs.Promises.{first_decided, log_from, log_of, then_more}
use Rattle.mega_tape_laws.specs.Lawful.{Lawful}
use Rattle.mega_tape_laws.specs.Writes.{Knows}
use Rattle.mega_tape_laws.proofs.Lists.{some_is}
use Rattle.mega_tape_laws.proofs.Logs.{Decided, first_stands}
use Rattle.mega_tape_laws.proofs.Agreement.{agreement}

-- ---- lists by index

-- an index in a list
pub record Has {X : Type 0} (xs : List X) (k : ℕ) : Type 0 where
  pub value : X
  pub is : slice_get xs k ≡ Some value

-- where an index is there, those below are
pub has_below : {X : Type 0} (xs : List X) (n k : ℕ) (x : X) → slice_get xs n ≡ Some x → k < n → Has xs k
has_below [] n k x h less = cc
has_below (y ∷ ys) zero k x h less = absurd (omega arith)
has_below (y ∷ ys) (suc n) zero x h less = record { value = y; is = refl }
has_below (y ∷ ys) (suc n) (suc k) x h less = let r = has_below ys n k x h (omega arith) in record { value = r.value; is = r.is }

pub in_length : {X : Type 0} (xs : List X) (k : ℕ) (x : X) → slice_get xs k ≡ Some x → k < length xs
in_length [] k x h = cc
in_length (y ∷ ys) zero x h = omega arith
in_length (y ∷ ys) (suc k) x h = let less = in_length ys k x h in omega arith

-- a list whose entries stand at the front of another is its front
pub front_is : {X : Type 0} (xs ys : List X) → ((k : ℕ) (x : X) → slice_get xs k ≡ Some x → slice_get ys k ≡ Some x) → xs ≡ take (length xs) ys
front_is [] ys h = refl
front_is (x ∷ xs) [] h = let none = h 0 x refl in cc
front_is (x ∷ xs) (y ∷ ys) h = let same = sym (some_is y x (h 0 x refl)) in let rest = front_is xs ys (λ k z e. h (suc k) z e) in λ i. same i ∷ rest i

-- ---- logs

log_at : (tape : List Item) (group : GroupId) (most n k : ℕ) (e : Content) → slice_get (log_from tape group most n) k ≡ Some e → first_decided tape group (n + k) ≡ Some e
log_at tape group zero n k e h = cc
log_at tape group (suc most) n k e h = go (first_decided tape group n) refl k (λ j is. log_at tape group most (n + 1) j e is) h
  where
    go : (o : Option Content) → first_decided tape group n ≡ o → (j : ℕ) → ((i : ℕ) → slice_get (log_from tape group most (n + 1)) i ≡ Some e → first_decided tape group ((n + 1) + i) ≡ Some e)
        → slice_get (then_more o (log_from tape group most (n + 1))) j ≡ Some e → first_decided tape group (n + j) ≡ Some e
    go None at j later is = cc
    go (Some d) at zero later is = ap (first_decided tape group) (let same : n + 0 ≡ n = omega arith in same) ∙ (at ∙ is)
    go (Some d) at (suc j) later is = ap (first_decided tape group) (let same : n + suc j ≡ (n + 1) + j = omega arith in same) ∙ later j is

-- the log's entry at an index is decided at the position above it
pub entry_decided : (tape : List Item) (group : GroupId) (n : ℕ) (e : Content) → slice_get (log_of tape group) n ≡ Some e → Decided tape group (record { 0 = suc n }) e
entry_decided tape group n e h = first_stands tape group (record { 0 = suc n }) e (ap (first_decided tape group) (let same : suc n ≡ 1 + n = omega arith in same) ∙ log_at tape group (length tape) 1 n e h)

-- what a node decided below an entry of the log are the log's entries
pub known_front : (c : Cluster) (tape : List Item) → Lawful c tape → (node : ℕ) (group : GroupId) (below : List Content) → Knows tape node group below
    → (n : ℕ) (e : Content) → slice_get (log_of tape group) n ≡ Some e → n ≡ length below → below ≡ take n (log_of tape group)
known_front c tape l node group below known n e h len = subst (λ k. below ≡ take k (log_of tape group)) (sym len) (front_is below (log_of tape group) each)
  where
    each : (k : ℕ) (d : Content) → slice_get below k ≡ Some d → slice_get (log_of tape group) k ≡ Some d
    each k d is =
        let less = in_length below k d is in
        let there = has_below (log_of tape group) n k e h (omega arith) in
        let theirs = entry_decided tape group k there.value there.is in
        there.is ∙ ap Some (agreement c tape l theirs.node (number node) group (record { 0 = suc k }) there.value d theirs.stands (known k d is))

-- What a node decided of a log, from its first position on, is the front of the log: no more positions are decided than a tape has items.
use Rattle.std.proofs.Common.{◌≡◌, ◌⊎◌, inl, inr, ℕ, zero, suc, ◌+◌, ◌<◌, ◌≤◌, ◌==◌, ◌&&◌, Bool, true, false, cond, List, [], ◌∷◌, length, slice_get, Option, Some, None, refl, sym, ap, ◌∙◌, arith}
use Rattle.mega_base.specs.declared.names.GroupId.{GroupId}
use Rattle.mega_cluster.specs.declared.cluster.Cluster.{Cluster}
use Rattle.mega_entry.specs.declared.content.Content.{Content}
use Rattle.mega_wal.specs.Same.{same_group}
use Rattle.mega_promises.specs.of_transcript.declared.item.Item.{Item}
use Rattle.mega_promises.specs.of_transcript.declared.item.Item.TheVariants.{Decide}
use Rattle.mega_promises.specs.Items.{number}
use Rattle.mega_promises.specs.Promises.{first_decided, log_from, log_of, or_else, then_more}
use Rattle.mega_tape_laws.specs.Lawful.{Lawful}
use Rattle.mega_tape_laws.specs.Writes.{IsFront, Knows}
use Rattle.mega_tape_laws.proofs.Ballots.{number_is}
use Rattle.mega_tape_laws.proofs.Logs.{shown_first}
use Rattle.mega_tape_laws.proofs.Totals.{all_pass, none_pass, one_more, total}
use Rattle.mega_tape_laws.proofs.Entries.{Has, front_is, in_length}

-- ---- how many positions are decided

abbrev pub is_there : Option Content → Bool
is_there None = false
is_there (Some e) = true

abbrev pub is_decided : List Item → GroupId → ℕ → Bool
is_decided tape group k = is_there (first_decided tape group k)

-- one item decides one position more at most
record OneMore (item : Item) (before : List Item) (group : GroupId) : Type 0 where
  position : ℕ
  only : (k : ℕ) → is_decided (item ∷ before) group k ≡ true → (is_decided before group k ≡ true) ⊎ (position ≡ k)

decides_one : (item : Item) (before : List Item) (group : GroupId) → OneMore item before group
decides_one (Decide i g m x) before group = record { position = m.0; only = λ k h. go k (first_decided before group k) refl h }
  where
    by : (k : ℕ) (s t : Bool) → (t ≡ true → m.0 ≡ k) → is_there (cond (s && t) (Some x) None) ≡ true → m.0 ≡ k
    by k true true same h = same refl
    by k true false same h = cc
    by k false t same h = cc

    go : (k : ℕ) (o : Option Content) → first_decided before group k ≡ o → is_there (or_else o (cond (same_group g group && m.0 == k) (Some x) None)) ≡ true → (is_there (first_decided before group k) ≡ true) ⊎ (m.0 ≡ k)
    go k (Some d) is h = inl (ap is_there is)
    go k None is h = inr (by k (same_group g group) (m.0 == k) (number_is m.0 k) h)
decides_one _ before group = record { position = 0; only = λ k h. inl h }

pub most_decided : (tape : List Item) (group : GroupId) (from most : ℕ) → total (is_decided tape group) from most ≤ length tape
most_decided [] group from most = go
  where
    none : (k : ℕ) → is_decided [] group k ≡ false
    none k = refl

    go : total (is_decided [] group) from most ≤ 0
    go = let h = none_pass (is_decided [] group) from most none in omega arith
most_decided (item ∷ before) group from most =
    let one = decides_one item before group in
    let h = one_more (is_decided before group) (is_decided (item ∷ before) group) one.position one.only from most in
    let rest = most_decided before group from most in
    omega arith

-- ---- the front of a log

-- the log has what is decided with all below it
log_has : (tape : List Item) (group : GroupId) (most n k : ℕ) → k < most → ((j : ℕ) → j ≤ k → (x : Content) × (first_decided tape group (n + j) ≡ Some x)) → slice_get (log_from tape group most n) k ≡ first_decided tape group (n + k)
log_has tape group zero n k less f = absurd (omega arith)
log_has tape group (suc most) n k less f = go k less f (first_decided tape group n) refl (λ j smaller g. log_has tape group most (n + 1) j smaller g)
  where
    go : (j : ℕ) → j < suc most → ((i : ℕ) → i ≤ j → (x : Content) × (first_decided tape group (n + i) ≡ Some x)) → (o : Option Content) → first_decided tape group n ≡ o
        → ((i : ℕ) → i < most → ((h : ℕ) → h ≤ i → (x : Content) × (first_decided tape group ((n + 1) + h) ≡ Some x)) → slice_get (log_from tape group most (n + 1)) i ≡ first_decided tape group ((n + 1) + i))
        → slice_get (then_more o (log_from tape group most (n + 1))) j ≡ first_decided tape group (n + j)
    go j smaller g None is later = let d = g 0 (omega arith) in let clashing = sym is ∙ (ap (first_decided tape group) (let same : n ≡ n + 0 = omega arith in same) ∙ d.1) in cc
    go zero smaller g (Some d) is later = sym is ∙ ap (first_decided tape group) (let same : n ≡ n + 0 = omega arith in same)
    go (suc j) smaller g (Some d) is later =
        later j (omega arith) (λ i least. let r = g (suc i) (omega arith) in (r.0, ap (first_decided tape group) (let same : (n + 1) + i ≡ n + suc i = omega arith in same) ∙ r.1))
        ∙ ap (first_decided tape group) (let same : (n + 1) + j ≡ n + suc j = omega arith in same)

has_index : {X : Type 0} (xs : List X) (k : ℕ) → k < length xs → Has xs k
has_index [] k less = absurd (omega arith)
has_index (x ∷ xs) zero less = record { value = x; is = refl }
has_index (x ∷ xs) (suc k) less = let r = has_index xs k (omega arith) in record { value = r.value; is = r.is }

pub known_is_front : (c : Cluster) (tape : List Item) → Lawful c tape → (node : ℕ) (group : GroupId) (below : List Content) → Knows tape node group below → IsFront (log_of tape group) below
known_is_front c tape l node group below known = record { shorter = long (length below) refl; is = front_is below (log_of tape group) each }
  where
    decided : (k : ℕ) → k < length below → (x : Content) × (first_decided tape group (1 + k) ≡ Some x)
    decided k less =
        let d = has_index below k less in
        (d.value, ap (first_decided tape group) (let same : 1 + k ≡ suc k = omega arith in same) ∙ shown_first c tape l (number node) group (record { 0 = suc k }) d.value (known k d.value d.is))

    passes : (k : ℕ) → k < length below → is_decided tape group (1 + k) ≡ true
    passes k less = ap is_there (decided k less).1

    enough : length below ≤ length tape
    enough =
        let all = all_pass (is_decided tape group) 1 (length below) passes in
        let bound = most_decided tape group 1 (length below) in
        omega arith

    each : (k : ℕ) (d : Content) → slice_get below k ≡ Some d → slice_get (log_of tape group) k ≡ Some d
    each k d is =
        let less = in_length below k d is in
        let most = enough in
        log_has tape group (length tape) 1 k (omega arith) (λ j least. decided j (omega arith))
        ∙ (ap (first_decided tape group) (let same : 1 + k ≡ suc k = omega arith in same) ∙ shown_first c tape l (number node) group (record { 0 = suc k }) d (known k d is))

    long : (n : ℕ) → length below ≡ n → length below ≤ length (log_of tape group)
    long zero same = omega arith
    long (suc n) same =
        let last = has_index below n (omega arith) in
        let there = in_length (log_of tape group) n last.value (each n last.value last.is) in
        omega arith

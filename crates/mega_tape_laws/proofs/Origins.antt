-- Each proposed entry is some operation's own, made over the log below it; and an operation has one place for an entry with its id.
use Rattle.std.proofs.Common.{◌≡◌, ◌⊎◌, inl, inr, ℕ, suc, ◌||◌, Bool, true, false, cond, List, [], ◌∷◌, length, Option, Some, refl, sym, ap, ◌∙◌, subst}
use Rattle.mega_base.specs.declared.names.GroupId.{GroupId}
use Rattle.mega_base.specs.declared.names.OpId.{OpId}
use Rattle.mega_ballot.specs.declared.ballot.Ballot.{Ballot}
use Rattle.mega_schema.specs.declared.schema.Schema.{Schema}
use Rattle.mega_entry.specs.declared.content.Content.{Content}
use Rattle.mega_entry.specs.declared.content.Enter.{Enter}
use Rattle.mega_wire.specs.declared.message.Body.{Body}
use Rattle.mega_wire.specs.declared.message.Body.TheVariants.{Accept, Prepare}
use Rattle.mega_handler.specs.Named.{Meanings}
use Rattle.mega_outcome.specs.declared.request.Request.{Request}
use Rattle.mega_wal.specs.Same.{same_op}
use Rattle.mega_wal.proofs.Sames.{same_op_equal}
use Rattle.mega_promises.specs.of_transcript.declared.item.Item.{Item}
use Rattle.mega_promises.specs.of_transcript.declared.item.Item.TheVariants.{Begin, Sent}
use Rattle.mega_promises.specs.Promises.{asked_for, handled_by}
use Rattle.mega_tape_laws.specs.Places.{In, Move, Place, Prepares, Proposes, is_move_at, move_in, move_of, moves}
use Rattle.mega_tape_laws.specs.Writes.{AreWritten, IsNamed, IsWritten, Knows, MaySay, MayWrite, OwnEntry, Usage, again, enters, fills, handles, has_begun, own, runs, runs_all}
use Rattle.mega_tape_laws.proofs.Lists.{from_cons, in_tail, some_is}
use Rattle.mega_tape_laws.proofs.Made.{move_is, moved_at, proposal_entry}

-- ---- what was asked for stays

asked_begun : (usage : Usage) (tape : List Item) (op : OpId) (request : Request) → asked_for usage.meaning tape op ≡ Some request → has_begun tape op ≡ true
asked_begun usage [] op request h = cc
asked_begun usage (Begin began text ∷ before) op request h = go (same_op began op) (asked_begun usage before op request) h
  where
    go : (t : Bool) → (asked_for usage.meaning before op ≡ Some request → has_begun before op ≡ true) → cond t ((usage.meaning) text) (asked_for usage.meaning before op) ≡ Some request → (t || has_begun before op) ≡ true
    go true earlier k = refl
    go false earlier k = earlier k
asked_begun usage (_ ∷ before) op request h = asked_begun usage before op request h

pub asked_then : (schema : Schema) (usage : Usage) (item : Item) (before : List Item) → IsWritten schema usage before item → (op : OpId) → IsNamed op → (request : Request)
    → asked_for usage.meaning before op ≡ Some request → asked_for usage.meaning (item ∷ before) op ≡ Some request
asked_then schema usage (Begin began text) before w op named request h = go (same_op began op) refl
  where
    go : (t : Bool) → same_op began op ≡ t → cond t ((usage.meaning) text) (asked_for usage.meaning before op) ≡ Some request
    go true same =
        let begun : has_begun before began ≡ true = subst (λ o. has_begun before o ≡ true) (sym (same_op_equal began op same)) (asked_begun usage before op request h) in
        let once : has_begun before began ≡ false = w (subst IsNamed (sym (same_op_equal began op same)) named) in
        cc
    go false same = h
asked_then schema usage _ before w op named request h = h

own_then : (schema : Schema) (usage : Usage) (item : Item) (before : List Item) → IsWritten schema usage before item → (op : OpId) → IsNamed op → (group : GroupId) (below : List Content) (e : Content)
    → OwnEntry schema usage before op group below e → OwnEntry schema usage (item ∷ before) op group below e
own_then schema usage item before w op named group below e (fills is) = fills is
own_then schema usage item before w op named group below e (runs transaction done asked at comes is) = runs transaction done (asked_then schema usage item before w op named _ asked) at comes is
own_then schema usage item before w op named group below e (runs_all transactions asked is) = runs_all transactions (asked_then schema usage item before w op named _ asked) is
own_then schema usage item before w op named group below e (enters message sent one asked known posted to says fresh is) = enters message sent one (asked_then schema usage item before w op named _ asked) (λ k d there. inr (known k d there)) posted to says fresh is
own_then schema usage item before w op named group below e (handles message moment asked oldest is) = handles message moment (asked_then schema usage item before w op named _ asked) oldest is

-- ---- origins

-- the operation whose own entry it is, which proposed it at the place
pub record Origin (schema : Schema) (usage : Usage) (tape : List Item) (p : Place) (e : Content) : Type 0 where
  pub op : OpId
  pub named : IsNamed op
  pub node : ℕ
  pub below : List Content
  pub reaches : p.position.0 ≡ suc (length below)
  pub known : Knows tape node p.group below
  pub entry : OwnEntry schema usage tape op p.group below e
  pub ballot : Ballot
  pub stands : In (Proposes ballot e) (moves tape op p)

origin_then : (schema : Schema) (usage : Usage) (item : Item) (before : List Item) → IsWritten schema usage before item → (p : Place) (e : Content) → Origin schema usage before p e → Origin schema usage (item ∷ before) p e
origin_then schema usage item before w p e o = record {
  op = o.op;
  named = o.named;
  node = o.node;
  below = o.below;
  reaches = o.reaches;
  known = λ k d is. inr ((o.known) k d is);
  entry = own_then schema usage item before w o.op o.named p.group o.below e o.entry;
  ballot = o.ballot;
  stands = in_tail (move_of o.op p item) (moves before o.op p) (Proposes o.ballot e) o.stands;
}

writes_in : (schema : Schema) (usage : Usage) (before : List Item) (node : ℕ) (op : OpId) (p : Place) (b : Ballot) (e : Content) (body : Body) → move_in op p body ≡ Some (Proposes b e) → MaySay schema usage before node body → MayWrite schema usage before node op p e
writes_in schema usage before node op p b e (Accept o g n d f) h may =
    let parts = move_is (is_move_at op p o g n) (Proposes d f) (Proposes b e) h in
    let at = moved_at op p o g n parts.0 in
    let entry = proposal_entry d b f e parts.1 in
    coe 0 1 (i. MayWrite schema usage before node (at.0 i) (at.1 i) (entry i)) may
writes_in schema usage before node op p b e (Prepare o g n d) h may = let parts = move_is (is_move_at op p o g n) (Prepares d) (Proposes b e) h in let clashing = parts.1 in cc
writes_in schema usage before node op p b e _ h may = cc

-- a proposal, as it may be written
record Writing (schema : Schema) (usage : Usage) (before : List Item) (op : OpId) (p : Place) (e : Content) : Type 0 where
  node : ℕ
  may : MayWrite schema usage before node op p e

writing : (schema : Schema) (usage : Usage) (before : List Item) (op : OpId) (p : Place) (b : Ballot) (e : Content) (item : Item) → move_of op p item ≡ Some (Proposes b e) → IsWritten schema usage before item → Writing schema usage before op p e
writing schema usage before op p b e (Sent number m) h w = record { node = m.from; may = writes_in schema usage before m.from op p b e m.body h w }
writing schema usage before op p b e _ h w = cc

pub origin : (schema : Schema) (usage : Usage) (tape : List Item) → AreWritten schema usage tape → (op : OpId) (p : Place) (b : Ballot) (e : Content) → In (Proposes b e) (moves tape op p) → Origin schema usage tape p e
origin schema usage [] w op p b e i = absurd i
origin schema usage (item ∷ before) w op p b e i = elim (from_cons (move_of op p item) (moves before op p) (Proposes b e) i) [
  | inl tells ↦ let x = writing schema usage before op p b e item tells w.0 in go (λ other d j. origin schema usage before w.1 other p d e j) x.node x.may
  | inr j ↦ origin_then schema usage item before w.0 p e (origin schema usage before w.1 op p b e j)
]
  where
    go : ((other : OpId) (d : Ballot) → In (Proposes d e) (moves before other p) → Origin schema usage before p e) → (node : ℕ) → MayWrite schema usage before node op p e → Origin schema usage (item ∷ before) p e
    go earlier node (again other d j) = origin_then schema usage item before w.0 p e (earlier other d j)
    go earlier node (own o) = record {
      op = op;
      named = o.named;
      node = node;
      below = o.below;
      reaches = o.reaches;
      known = λ k d is. inr ((o.known) k d is);
      entry = own_then schema usage item before w.0 op o.named p.group o.below e o.entry;
      ballot = b;
      stands = i;
    }

-- ---- one place for an id

-- the entry of a handling has its operation's id
either_id : (t : Bool) (x y : Content) (z : Option OpId) → x.id ≡ z → y.id ≡ z → (cond t x y).id ≡ z
either_id true x y z h k = h
either_id false x y z h k = k

handling_id : (schema : Schema) (handlers : Meanings) (group : GroupId) (op : OpId) (message : Enter) (below : List Content) → (handled_by schema handlers group op message below).id ≡ Some op
handling_id schema handlers group op message below = either_id _ _ _ (Some op) refl refl

-- an entry with an id is the own one of that operation
ids : (x y : Option OpId) → x ≡ y → (z : Option OpId) → x ≡ z → y ≡ z
ids x y h z k = sym h ∙ k

pub id_is : (schema : Schema) (usage : Usage) (tape : List Item) (op : OpId) (group : GroupId) (below : List Content) (e : Content) → OwnEntry schema usage tape op group below e → (other : OpId) → e.id ≡ Some other → op ≡ other
id_is schema usage tape op group below e (fills is) other h = let none = ids _ _ (ap (λ (x : Content). x.id) is) _ h in cc
id_is schema usage tape op group below e (runs transaction done asked at comes is) other h = some_is op other (ids _ _ (ap (λ (x : Content). x.id) is) _ h)
id_is schema usage tape op group below e (runs_all transactions asked is) other h = some_is op other (ids _ _ (ap (λ (x : Content). x.id) is) _ h)
id_is schema usage tape op group below e (enters message sent one asked known posted to says fresh is) other h = some_is op other (ids _ _ (ap (λ (x : Content). x.id) is) _ h)
id_is schema usage tape op group below e (handles message moment asked oldest is) other h = some_is op other (ids _ _ (ap (λ (x : Content). x.id) is ∙ handling_id schema ((usage.handlers) moment) group op message below) _ h)

-- a message moves at one place
place_in : (op : OpId) (p q : Place) (x y : Move) (body : Body) → move_in op p body ≡ Some x → move_in op q body ≡ Some y → p ≡ q
place_in op p q x y (Accept o g n b e) h k =
    let first = moved_at op p o g n (move_is (is_move_at op p o g n) (Proposes b e) x h).0 in
    let second = moved_at op q o g n (move_is (is_move_at op q o g n) (Proposes b e) y k).0 in
    sym first.1 ∙ second.1
place_in op p q x y (Prepare o g n b) h k =
    let first = moved_at op p o g n (move_is (is_move_at op p o g n) (Prepares b) x h).0 in
    let second = moved_at op q o g n (move_is (is_move_at op q o g n) (Prepares b) y k).0 in
    sym first.1 ∙ second.1
place_in op p q x y _ h k = cc

one_place : (op : OpId) (p q : Place) (x y : Move) (item : Item) → move_of op p item ≡ Some x → move_of op q item ≡ Some y → p ≡ q
one_place op p q x y (Sent number m) h k = place_in op p q x y m.body h k
one_place op p q x y _ h k = cc

-- an operation proposes entries with its id at one place
pub one_home : (schema : Schema) (usage : Usage) (tape : List Item) → AreWritten schema usage tape → (op : OpId) (p q : Place) (b d : Ballot) (e f : Content)
    → In (Proposes b e) (moves tape op p) → e.id ≡ Some op → In (Proposes d f) (moves tape op q) → f.id ≡ Some op → p ≡ q
one_home schema usage [] w op p q b d e f i h j k = absurd i
one_home schema usage (item ∷ before) w op p q b d e f i h j k =
    both (from_cons (move_of op p item) (moves before op p) (Proposes b e) i) (from_cons (move_of op q item) (moves before op q) (Proposes d f) j)
    (λ x y u v z t r s. one_home schema usage before w.1 op p q x y u v z t r s)
  where
    -- a new proposal of an entry that has the id, and an earlier one
    fresh : (here there : Place) (x y : Ballot) (u v : Content) → move_of op here item ≡ Some (Proposes x u) → u.id ≡ Some op → In (Proposes y v) (moves before op there) → v.id ≡ Some op
        → ((z : Ballot) → In (Proposes z u) (moves before op here) → here ≡ there) → here ≡ there
    fresh here there x y u v tells m n o earlier = let r = writing schema usage before op here x u item tells w.0 in by r.node r.may
      where
        by : (node : ℕ) → MayWrite schema usage before node op here u → here ≡ there
        by node (own z) = sym ((z.home) there y v n o m)
        by node (again other z t) =
            let r = origin schema usage before w.1 other here z u t in
            let same : r.op ≡ op = id_is schema usage before r.op here.group r.below u r.entry op m in
            earlier r.ballot (subst (λ a. In (Proposes r.ballot u) (moves before a here)) same r.stands)

    both : (move_of op p item ≡ Some (Proposes b e)) ⊎ In (Proposes b e) (moves before op p) → (move_of op q item ≡ Some (Proposes d f)) ⊎ In (Proposes d f) (moves before op q)
        → ((x y : Ballot) (u v : Content) → In (Proposes x u) (moves before op p) → u.id ≡ Some op → In (Proposes y v) (moves before op q) → v.id ≡ Some op → p ≡ q) → p ≡ q
    both (inl x) (inl y) earlier = one_place op p q (Proposes b e) (Proposes d f) item x y
    both (inl x) (inr y) earlier = fresh p q b d e f x h y k (λ z t. earlier z d e f t h y k)
    both (inr x) (inl y) earlier = sym (fresh q p d b f e y k x h (λ z t. sym (earlier b z e f x h t k)))
    both (inr x) (inr y) earlier = earlier b d e f x h y k

-- What a tape tells of what an operation asked and proposed: it asks nothing more once it proposed an entry of its own, and it proposes by what a poll told it
-- where it asked anything about the group.
use Rattle.std.proofs.Common.{ℕ, ◌≡◌, ◌⊎◌, inl, inr, ◌+◌, ◌-◌, ◌&&◌, Bool, true, false, not, cond, List, [], ◌∷◌, Some, refl, sym, ap, ◌∙◌, subst}
use Rattle.std.proofs.lemmas.Bool.{or_from, and_left, and_right}
use Rattle.mega_base.specs.declared.names.GroupId.{GroupId}
use Rattle.mega_base.specs.declared.names.OpId.{OpId}
use Rattle.mega_base.specs.declared.names.Position.{Position}
use Rattle.mega_ballot.specs.Order.{zero_ballot}
use Rattle.mega_cluster.specs.declared.cluster.Cluster.{Cluster}
use Rattle.mega_entry.specs.declared.content.Content.{Content}
use Rattle.mega_wire.specs.declared.message.Message.{Message}
use Rattle.mega_wire.specs.declared.message.Body.{Body}
use Rattle.mega_wire.specs.declared.message.Body.TheVariants.{Accept, Where}
use Rattle.mega_wal.specs.Same.{same_group, same_op}
use Rattle.mega_wal.proofs.Sames.{same_op_self}
use Rattle.mega_leased_laws.specs.of_settled_laws.of_run_laws.of_tape_laws.of_promises.of_transcript.declared.item.Item.{Item}
use Rattle.mega_leased_laws.specs.of_settled_laws.of_run_laws.of_tape_laws.of_promises.of_transcript.declared.item.Item.TheVariants.{Sent, Unsafe}
use Rattle.mega_leased_laws.specs.of_settled_laws.of_run_laws.of_tape_laws.of_promises.Fresh.{proposes}
use Rattle.mega_leased_laws.specs.of_settled_laws.of_run_laws.of_tape_laws.of_promises.Messages.{is_unsafe}
use Rattle.mega_leased_laws.specs.of_settled_laws.of_run_laws.of_tape_laws.of_promises.Promises.{Stands}
use Rattle.mega_leased_laws.specs.of_settled_laws.of_run_laws.of_tape_laws.of_promises.Runs.{breaks, with_item, with_items}
use Rattle.mega_leased_laws.specs.of_settled_laws.of_run_laws.of_tape_laws.of_promises.of_rules.Operations.{Node}
use Rattle.mega_leased_laws.specs.of_settled_laws.of_run_laws.of_tape_laws.Polls.{IsPolled}
use Rattle.mega_leased_laws.specs.of_settled_laws.of_run_laws.Justified.{Each, sent}
use Rattle.mega_leased_laws.proofs.of_settled_laws.of_run_laws.Sending.{Stood}
use Rattle.mega_leased_laws.proofs.of_settled_laws.of_run_laws.Turns.{each_on}
use Rattle.mega_leased_laws.proofs.of_settled_laws.of_run_laws.Shown.{IsSilent}
use Rattle.mega_leased_laws.specs.of_valid_laws.Leases.{asks_end, has_polled}
use Rattle.mega_leased_laws.specs.Items.{Are}
use Rattle.mega_leased_laws.proofs.Polls.{polled_on}
use Rattle.mega_leased_laws.proofs.Tapes.{are_items, free_follows}
use Rattle.mega_leased_laws.proofs.Validating.{silent_polled}
use Rattle.mega_fresh_laws.proofs.Accepts.{Never}
use Rattle.mega_fresh_laws.proofs.Questions.{Asks, AsksBody, Mute, MuteBody, Offers, OffersBody, Says, SaysBody, Unasking, UnaskingBody, asks_never, offers_unasking}
use Rattle.mega_leased_laws.proofs.of_settled_laws.of_run_laws.of_tape_laws.Ballots.{clash}

-- ---- what is told

-- an operation proposed no entry of its own at ballot zero
abbrev pub Unoffered : List Item → OpId → Type 0
Unoffered tape op = (key to : ℕ) (group : GroupId) (n : Position) (own : Content) → own.id ≡ Some op → Stands (proposes key op to group n own) tape → ⊥

-- a poll told it of no position above this one, or it asked nothing about the group
abbrev pub HasHeard : Cluster → List Item → OpId → GroupId → ℕ → Type 0
HasHeard c tape op group p = IsPolled c tape op group (record { 0 = p }) ⊎ (has_polled tape op group ≡ false)

-- an operation asks before it proposes, and proposes right above what it heard
abbrev pub IsInquiredBody : Cluster → List Item → ℕ → Body → Type 0
IsInquiredBody c before from (Where op group) = (from ≡ op.node.0) × Unoffered before op
IsInquiredBody c before from (Accept op group n b e) = b ≡ zero_ballot → e.id ≡ Some op → HasHeard c before op group (n.0 - 1)
IsInquiredBody c before from _ = Unit {0}

abbrev pub IsInquired : Cluster → List Item → Item → Type 0
IsInquired c before (Sent key m) = IsInquiredBody c before m.from m.body
IsInquired c before _ = Unit {0}

-- ---- as a tape goes on

-- what a longer tape keeps of another one, for an operation that neither asks nor proposes between them
pub record Beside (x : OpId) (old new : List Item) : Type 0 where
  pub stood : Stood old new
  pub polled : (g : GroupId) → has_polled old x g ≡ false → has_polled new x g ≡ false
  pub unoffered : Unoffered old x → Unoffered new x

pub beside_same : (x : OpId) (tape : List Item) → Beside x tape tape
beside_same x tape = record { stood = λ y s. s; polled = λ g h. h; unoffered = λ none. none }

pub beside_then : (x : OpId) (one two three : List Item) → Beside x one two → Beside x two three → Beside x one three
beside_then x one two three a b = record { stood = λ y s. b.stood y (a.stood y s); polled = λ g h. b.polled g (a.polled g h); unoffered = λ none. b.unoffered (a.unoffered none) }

pub beside_silent : (x : OpId) (tape : List Item) (item : Item) → IsSilent item → Beside x tape (item ∷ tape)
beside_silent x tape item silent = record {
  stood = λ y s. inr s;
  polled = λ g h. silent_polled tape item x g silent ∙ h;
  unoffered = λ none. λ key to group n own id s. elim s [ inl same ↦ subst IsSilent same silent | inr before ↦ none key to group n own id before ];
}

module _ (c : Cluster) (nodes' : ℕ → Node) (x : OpId) where
  beside_item : (tape : List Item) (item : Item) → IsSilent item → Beside x tape (with_item c nodes' tape item)
  beside_item tape item silent = by (breaks c nodes' item && not (is_unsafe tape))
    where
      by : (t : Bool) → Beside x tape (cond t (Unsafe ∷ item ∷ tape) (item ∷ tape))
      by true = beside_then x tape (item ∷ tape) (Unsafe ∷ item ∷ tape) (beside_silent x tape item silent) (beside_silent x (item ∷ tape) Unsafe tt)
      by false = beside_silent x tape item silent

  pub beside_items : (items tape : List Item) → Each IsSilent items → Beside x tape (with_items c nodes' tape items)
  beside_items [] tape silent = beside_same x tape
  beside_items (item ∷ items) tape silent = beside_then x tape (with_item c nodes' tape item) (with_items c nodes' (with_item c nodes' tape item) items) (beside_item tape item silent.0) (beside_items items (with_item c nodes' tape item) silent.1)

-- what shows no message is free
pub silent_one : (c : Cluster) (item : Item) → IsSilent item → (t : List Item) → IsInquired c t item
silent_one c (Sent key m) silent t = absurd silent
silent_one c _ silent t = tt

pub silent_inquired : (c : Cluster) (nodes' : ℕ → Node) (items tape : List Item) → Each IsSilent items → Are (IsInquired c) tape → Are (IsInquired c) (with_items c nodes' tape items)
silent_inquired c nodes' items tape silent law =
    are_items (IsInquired c) (λ t. tt) c nodes' items tape (free_follows (IsInquired c) (λ t. tt) c nodes' items tape (each_on IsSilent (λ item. (t : List Item) → IsInquired c t item) (silent_one c) items silent)) law

-- ---- messages

-- what a body says for another operation
abbrev ApartBody : OpId → Body → Type 0
ApartBody x (Where asking g) = same_op asking x ≡ false
ApartBody x (Accept o g n b e) = b ≡ zero_ballot → e.id ≡ Some o → same_op o x ≡ false
ApartBody x _ = Unit {0}

abbrev Apart : OpId → Message → Type 0
Apart x m = ApartBody x m.body

-- of the item that is sent
abbrev ApartItem : OpId → Item → Type 0
ApartItem x (Sent key m) = Apart x m
ApartItem x _ = Unit {0}

apart_one : (x : OpId) (k : ℕ) (m : Message) (tape : List Item) → Apart x m → Beside x tape (Sent k m ∷ tape)
apart_one x k m tape apart = record {
  stood = λ y s. inr s;
  polled = λ g h. or_from (asks_end x g m.body) (has_polled tape x g) (by g m.body apart) h;
  unoffered = λ none. λ key to group n own id s. elim s [
    | inl same ↦ clash (same_op x x) (same_op_self x) (offered key to group n own id (subst (ApartItem x) same apart))
    | inr before ↦ none key to group n own id before
  ];
}
  where
    by : (g : GroupId) (body : Body) → ApartBody x body → asks_end x g body ≡ false
    by g (Where asking group) is = and_left (same_op asking x) (same_group group g) is
    by g _ is = refl

    offered : (key to : ℕ) (group : GroupId) (n : Position) (own : Content) → own.id ≡ Some x → ApartItem x (proposes key x to group n own) → same_op x x ≡ false
    offered key to group n own id is = is refl id

pub beside_sent : (x : OpId) (k : ℕ) (ms : List Message) (tape : List Item) → Each (Apart x) ms → Beside x tape (sent k ms tape)
beside_sent x k [] tape apart = beside_same x tape
beside_sent x k (m ∷ ms) tape apart = beside_then x tape (Sent k m ∷ tape) (sent (k + 1) ms (Sent k m ∷ tape)) (apart_one x k m tape apart.0) (beside_sent x (k + 1) ms (Sent k m ∷ tape) apart.1)

-- those of another operation
pub says_beside : (op x : OpId) (k : ℕ) (ms : List Message) (tape : List Item) → same_op op x ≡ false → Each (Says op) ms → Beside x tape (sent k ms tape)
says_beside op x k ms tape apart says = beside_sent x k ms tape (each_on (Says op) (Apart x) (λ m of. by m.body of) ms says)
  where
    by : (body : Body) → SaysBody op body → ApartBody x body
    by (Where asking g) of = ap (λ y. same_op y x) of ∙ apart
    by (Accept o g n b e) of = λ zero id. ap (λ y. same_op y x) (of zero id) ∙ apart
    by _ of = tt

pub mute_beside : (x : OpId) (k : ℕ) (ms : List Message) (tape : List Item) → Each Mute ms → Beside x tape (sent k ms tape)
mute_beside x k ms tape mute = beside_sent x k ms tape (each_on Mute (Apart x) (λ m of. by m.body of) ms mute)
  where
    by : (body : Body) → MuteBody body → ApartBody x body
    by (Where asking g) of = absurd of
    by (Accept o g n b e) of = λ zero id. absurd (of zero id)
    by _ of = tt

-- what proposes no own entry
abbrev NeverItem : Item → Type 0
NeverItem (Sent key m) = Never m
NeverItem _ = Unit {0}

pub never_sent : (op : OpId) (k : ℕ) (ms : List Message) (tape : List Item) → Each Never ms → Unoffered tape op → Unoffered (sent k ms tape) op
never_sent op k [] tape never none = none
never_sent op k (m ∷ ms) tape never none = never_sent op (k + 1) ms (Sent k m ∷ tape) never.1
    (λ key to group n own id s. elim s [ inl same ↦ offered key to group n own id (subst NeverItem same never.0) | inr before ↦ none key to group n own id before ])
  where
    offered : (key to : ℕ) (group : GroupId) (n : Position) (own : Content) → own.id ≡ Some op → NeverItem (proposes key op to group n own) → ⊥
    offered key to group n own id is = is refl id

-- what asks nothing
unasking_body : (op : OpId) (group : GroupId) (body : Body) → UnaskingBody body → asks_end op group body ≡ false
unasking_body op group (Where asking g) none = absurd none
unasking_body op group _ none = refl

pub unasking_sent : (op : OpId) (group : GroupId) (k : ℕ) (ms : List Message) (tape : List Item) → Each Unasking ms → has_polled tape op group ≡ false → has_polled (sent k ms tape) op group ≡ false
unasking_sent op group k [] tape none h = h
unasking_sent op group k (m ∷ ms) tape none h = unasking_sent op group (k + 1) ms (Sent k m ∷ tape) none.1 (or_from (asks_end op group m.body) (has_polled tape op group) (unasking_body op group m.body none.0) h)

-- what asks about another group
pub asks_elsewhere : (op : OpId) (group g : GroupId) (k : ℕ) (ms : List Message) (tape : List Item) → same_group group g ≡ false → Each (Asks op group) ms → has_polled tape op g ≡ false → has_polled (sent k ms tape) op g ≡ false
asks_elsewhere op group g k [] tape apart asks h = h
asks_elsewhere op group g k (m ∷ ms) tape apart asks h = asks_elsewhere op group g (k + 1) ms (Sent k m ∷ tape) apart asks.1 (or_from (asks_end op g m.body) (has_polled tape op g) (by m.from m.body asks.0) h)
  where
    by : (from : ℕ) (body : Body) → AsksBody from op group body → asks_end op g body ≡ false
    by from (Where asking other) is = and_right (same_op asking op) (same_group other g) (ap (λ y. same_group y g) (is.1).1 ∙ apart)
    by from _ is = refl

pub heard_stood : (c : Cluster) (old new : List Item) (op : OpId) (group : GroupId) (p : ℕ) → Stood old new → (has_polled old op group ≡ false → has_polled new op group ≡ false) → HasHeard c old op group p → HasHeard c new op group p
heard_stood c old new op group p s still (inl polled) = inl (polled_on c old new op group (record { 0 = p }) s polled)
heard_stood c old new op group p s still (inr none) = inr (still none)

-- ---- messages as they come

-- where each is allowed by what holds, and that is kept
module _ (c : Cluster) (Q : Message → Type 0) (R : List Item → Type 0) (allows : (m : Message) (t : List Item) → Q m → R t → IsInquiredBody c t m.from m.body) (keeps : (m : Message) (t : List Item) (k : ℕ) → Q m → R t → R (Sent k m ∷ t)) where
  comes : (k : ℕ) (ms : List Message) (tape : List Item) → Each Q ms → R tape → Are (IsInquired c) tape → Are (IsInquired c) (sent k ms tape)
  comes k [] tape each r law = law
  comes k (m ∷ ms) tape each r law = comes (k + 1) ms (Sent k m ∷ tape) each.1 (keeps m tape k each.0 r) (allows m tape each.0 r, law)

pub asks_inquired : (c : Cluster) (op : OpId) (group : GroupId) (k : ℕ) (ms : List Message) (tape : List Item) → Each (Asks op group) ms → Unoffered tape op → Are (IsInquired c) tape → Are (IsInquired c) (sent k ms tape)
asks_inquired c op group k ms tape asks none law = comes c (Asks op group) (λ t. Unoffered t op) (λ m t of free. by m.from m.body t of free)
    (λ m t j of free. never_sent op j (m ∷ []) t (asks_never op group (m ∷ []) (of, tt)) free) k ms tape asks none law
  where
    by : (from : ℕ) (body : Body) (t : List Item) → AsksBody from op group body → Unoffered t op → IsInquiredBody c t from body
    by from (Where asking g) t of free = (of.0 ∙ ap (λ (x : OpId). x.node.0) (sym (of.1).0), subst (Unoffered t) (sym (of.1).0) free)
    by from (Accept o g n b e) t of free = absurd of
    by from _ t of free = tt

pub mute_inquired : (c : Cluster) (k : ℕ) (ms : List Message) (tape : List Item) → Each Mute ms → Are (IsInquired c) tape → Are (IsInquired c) (sent k ms tape)
mute_inquired c k ms tape mute law = comes c Mute (λ t. Unit {0}) (λ m t of any. by m.from m.body t of) (λ m t j of any. tt) k ms tape mute tt law
  where
    by : (from : ℕ) (body : Body) (t : List Item) → MuteBody body → IsInquiredBody c t from body
    by from (Where asking g) t of = absurd of
    by from (Accept o g n b e) t of = λ zero id. absurd (of zero id)
    by from _ t of = tt

pub offers_inquired : (c : Cluster) (op : OpId) (group : GroupId) (n k : ℕ) (ms : List Message) (tape : List Item) → Each (Offers op group n) ms → HasHeard c tape op group (n - 1) → Are (IsInquired c) tape → Are (IsInquired c) (sent k ms tape)
offers_inquired c op group n k ms tape offers heard law = comes c (Offers op group n) (λ t. HasHeard c t op group (n - 1)) (λ m t of h. by m.from m.body t of h)
    (λ m t j of h. heard_stood c t (Sent j m ∷ t) op group (n - 1) (λ y s. inr s) (λ none. unasking_sent op group j (m ∷ []) t (offers_unasking op group n (m ∷ []) (of, tt)) none) h) k ms tape offers heard law
  where
    by : (from : ℕ) (body : Body) (t : List Item) → OffersBody op group n body → HasHeard c t op group (n - 1) → IsInquiredBody c t from body
    by from (Where asking g) t of h = absurd of
    by from (Accept o g m b e) t of h = λ zero id. let at = of zero id in coe 1 0 (i. HasHeard c t (at.0 i) ((at.1).0 i) (((at.1).1 i) - 1)) h
    by from _ t of h = tt

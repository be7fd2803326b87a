-- No message is entered twice, and none handled twice: each entry names at most one, which the entries below it do not.
use Rattle.std.proofs.Common.{◌≡◌, ◌⊎◌, inl, inr, ℕ, zero, suc, ◌<◌, Bool, true, false, not, cond, List, [], ◌∷◌, ◌++◌, map, length, take, slice_get, Some, refl, sym, ap, ◌∙◌, subst, arith}
use Rattle.std.specs.Prelude.{Contains, find, flat_map}
use Rattle.std.proofs.lemmas.Bool.{cases_lt, or_parts, not-true}
use Rattle.mega_base.specs.declared.names.GroupId.{GroupId}
use Rattle.mega_base.specs.declared.names.OpId.{OpId}
use Rattle.mega_cluster.specs.declared.cluster.Cluster.{Cluster}
use Rattle.mega_schema.specs.declared.schema.Schema.{Schema}
use Rattle.mega_entry.specs.declared.content.Content.{Content}
use Rattle.mega_entry.specs.declared.content.Enter.{Enter}
use Rattle.mega_entry.specs.declared.content.Name.{Name}
use Rattle.mega_handler.specs.Named.{Meanings}
use Rattle.mega_wal.specs.Same.{same_name}
use Rattle.mega_wal.proofs.Sames.{names as name_test}
use Rattle.mega_promises.specs.of_rules.Queues.{entered_in, handled_in, is_named, names_entered, oldest_unhandled}
use Rattle.mega_promises.specs.of_transcript.declared.item.Item.{Item}
use Rattle.mega_promises.specs.Promises.{handled_by, log_of}
use Rattle.mega_tape_laws.specs.Writes.{LawfulWrites, OwnEntry, Usage, enters, fills, handles, runs, runs_all}
use Rattle.mega_tape_laws.proofs.Ballots.{clash}
use Rattle.mega_tape_laws.proofs.Lists.{some_is}
use Rattle.mega_tape_laws.proofs.Serial.{own_entry}

-- ---- a list of lists of at most one each

-- an entry gives no name, or one
abbrev Single : List Name → Type 0
Single names = (names ≡ []) ⊎ ((name : Name) × (names ≡ name ∷ []))

-- the entry that gives the name at an index
record Giver (f : Content → List Name) (log : List Content) (m : ℕ) (name : Name) : Type 0 where
  index : ℕ
  entry : Content
  at : slice_get log index ≡ Some entry
  gives : f entry ≡ name ∷ []
  before : length (flat_map f (take index log)) ≡ m

giver : (f : Content → List Name) (log : List Content) → ((k : ℕ) (e : Content) → slice_get log k ≡ Some e → Single (f e)) → (m : ℕ) (name : Name) → slice_get (flat_map f log) m ≡ Some name → Giver f log m name
giver f [] single m name h = cc
giver f (first ∷ log) single m name h = go (f first) refl (single 0 first refl) m (λ k is. giver f log (λ j e at. single (suc j) e at) k name is) h
  where
    go : (names : List Name) → f first ≡ names → Single names → (k : ℕ) → ((j : ℕ) → slice_get (flat_map f log) j ≡ Some name → Giver f log j name) → slice_get (names ++ flat_map f log) k ≡ Some name → Giver f (first ∷ log) k name
    go [] is s k later at = let g = later k at in record { index = suc g.index; entry = g.entry; at = g.at; gives = g.gives; before = ap (λ (xs : List Name). length (xs ++ flat_map f (take g.index log))) is ∙ g.before }
    go (x ∷ []) is s zero later at = record { index = 0; entry = first; at = refl; gives = is ∙ ap (λ (y : Name). y ∷ []) (some_is x name at); before = refl }
    go (x ∷ []) is s (suc k) later at = let g = later k at in record { index = suc g.index; entry = g.entry; at = g.at; gives = g.gives; before = ap (λ (xs : List Name). length (xs ++ flat_map f (take g.index log))) is ∙ ap suc g.before }
    go (x ∷ y ∷ ys) is (inl s) k later at = cc
    go (x ∷ y ∷ ys) is (inr s) k later at = let more = s.1 in cc

past : (xs ys zs : List Name) (name : Name) → slice_get ys (length zs) ≡ Some name → slice_get (xs ++ ys) (length (xs ++ zs)) ≡ Some name
past [] ys zs name h = h
past (x ∷ xs) ys zs name h = past xs ys zs name h

-- what an entry gives is among what the entries up to a later one give
given_before : (f : Content → List Name) (log : List Content) (i j : ℕ) (e : Content) (name : Name) → i < j → slice_get log i ≡ Some e → f e ≡ name ∷ []
    → slice_get (flat_map f (take j log)) (length (flat_map f (take i log))) ≡ Some name
given_before f [] i j e name less at gives = cc
given_before f (first ∷ log) i zero e name less at gives = absurd (omega arith)
given_before f (first ∷ log) zero (suc j) e name less at gives = ap (λ (xs : List Name). slice_get (xs ++ flat_map f (take j log)) 0) (ap f (some_is first e at) ∙ gives)
given_before f (first ∷ log) (suc i) (suc j) e name less at gives = past (f first) (flat_map f (take j log)) (flat_map f (take i log)) name (given_before f log i j e name (omega arith) at gives)

-- names that no entry below gives come once
abbrev IsFreshIn : List Name → Name → Type 0
IsFreshIn names name = (k : ℕ) (other : Name) → slice_get names k ≡ Some other → name ≡ other → ⊥

once : (f : Content → List Name) (log : List Content) → ((k : ℕ) (e : Content) → slice_get log k ≡ Some e → Single (f e))
    → ((k : ℕ) (e : Content) (name : Name) → slice_get log k ≡ Some e → f e ≡ name ∷ [] → IsFreshIn (flat_map f (take k log)) name)
    → (m n : ℕ) (first second : Name) → slice_get (flat_map f log) m ≡ Some first → slice_get (flat_map f log) n ≡ Some second → first ≡ second → m ≡ n
once f log single fresh m n first second h k same = elim (cases_lt a.index b.index) [
  | inl less ↦ absurd (fresh b.index b.entry second b.at b.gives (length (flat_map f (take a.index log))) first (given_before f log a.index b.index a.entry first less a.at a.gives) (sym same))
  | inr more ↦ elim (cases_lt b.index a.index) [
    | inl less ↦ absurd (fresh a.index a.entry first a.at a.gives (length (flat_map f (take b.index log))) second (given_before f log b.index a.index b.entry second less b.at b.gives) same)
    | inr less ↦ (let one : a.index ≡ b.index = omega arith in sym a.before ∙ (ap (λ i. length (flat_map f (take i log))) one ∙ b.before))
  ]
]
  where
    a : Giver f log m first
    a = giver f log single m first h

    b : Giver f log n second
    b = giver f log single n second k

-- ---- names by test

not_named : (names : List Name) (name : Name) → is_named name names ≡ false → IsFreshIn names name
not_named [] name h k other at same = cc
not_named (x ∷ names) name h zero other at same =
    clash (same_name name x) (subst (λ y. same_name name y ≡ true) (same ∙ sym (some_is x other at)) (name_test.self name)) (or_parts (same_name name x) (is_named name names) h).0
not_named (x ∷ names) name h (suc k) other at same = not_named names name (or_parts (same_name name x) (is_named name names) h).1 k other at same

find_passes : (test : Enter → Bool) (xs : List Enter) (x : Enter) → find test xs ≡ Some x → test x ≡ true
find_passes test [] x h = cc
find_passes test (y ∷ xs) x h = go (test y) refl (find_passes test xs x) h
  where
    go : (t : Bool) → test y ≡ t → (find test xs ≡ Some x → test x ≡ true) → cond t (Some y) (find test xs) ≡ Some x → test x ≡ true
    go true is later k = subst (λ z. test z ≡ true) (some_is y x k) is
    go false is later k = later k

not_handled : (below : List Content) (message : Enter) → oldest_unhandled below ≡ Some message → is_named message.name (handled_in below) ≡ false
not_handled below message h = not-true (is_named message.name (handled_in below)) (find_passes (λ (enter : Enter). not (is_named enter.name (handled_in below))) (entered_in below) message h)

-- ---- what an own entry enters and handles

entered_by : Content → List Name
entered_by e = map (λ (enter : Enter). enter.name) e.enters

-- what an own entry enters is not entered below, and what it handles is the oldest that is not handled
data Enters (below : List Content) (e : Content) : Type 0 where
  nothing : e.enters ≡ [] → Enters below e
  fresh : (message : Enter) → e.enters ≡ message ∷ [] → is_named message.name (names_entered below) ≡ false → Enters below e

either_handles : (t : Bool) (x y : Content) (z : List Name) → x.handles ≡ z → y.handles ≡ z → (cond t x y).handles ≡ z
either_handles true x y z h k = h
either_handles false x y z h k = k

either_enters : (t : Bool) (x y : Content) (z : List Enter) → x.enters ≡ z → y.enters ≡ z → (cond t x y).enters ≡ z
either_enters true x y z h k = h
either_enters false x y z h k = k

handling_handles : (schema : Schema) (handlers : Meanings) (group : GroupId) (op : OpId) (message : Enter) (below : List Content) → (handled_by schema handlers group op message below).handles ≡ message.name ∷ []
handling_handles schema handlers group op message below = either_handles _ _ _ (message.name ∷ []) refl refl

pub handling_enters : (schema : Schema) (handlers : Meanings) (group : GroupId) (op : OpId) (message : Enter) (below : List Content) → (handled_by schema handlers group op message below).enters ≡ []
handling_enters schema handlers group op message below = either_enters _ _ _ [] refl refl

own_enters : (schema : Schema) (usage : Usage) (tape : List Item) (op : OpId) (group : GroupId) (below : List Content) (e : Content) → OwnEntry schema usage tape op group below e → Enters below e
own_enters schema usage tape op group below e (fills is) = nothing (ap (λ (x : Content). x.enters) is)
own_enters schema usage tape op group below e (runs transaction done asked at comes is) = nothing (ap (λ (x : Content). x.enters) is)
own_enters schema usage tape op group below e (runs_all transactions asked is) = nothing (ap (λ (x : Content). x.enters) is)
own_enters schema usage tape op group below e (enters message sent one asked known posted to says new is) = fresh message (ap (λ (x : Content). x.enters) is) new
own_enters schema usage tape op group below e (handles message moment asked oldest is) = nothing (ap (λ (x : Content). x.enters) is ∙ handling_enters schema ((usage.handlers) moment) group op message below)

-- an own entry that handles a message is what the handler makes of the oldest
pub record Handling (schema : Schema) (usage : Usage) (group : GroupId) (below : List Content) (e : Content) : Type 0 where
  pub message : Enter
  pub op : OpId
  pub moment : List Item
  pub oldest : oldest_unhandled below ≡ Some message
  pub marks : e.handles ≡ message.name ∷ []
  pub is : e ≡ handled_by schema ((usage.handlers) moment) group op message below

own_handles : (schema : Schema) (usage : Usage) (tape : List Item) (op : OpId) (group : GroupId) (below : List Content) (e : Content) → OwnEntry schema usage tape op group below e → (e.handles ≡ []) ⊎ Handling schema usage group below e
own_handles schema usage tape op group below e (fills is) = inl (ap (λ (x : Content). x.handles) is)
own_handles schema usage tape op group below e (runs transaction done asked at comes is) = inl (ap (λ (x : Content). x.handles) is)
own_handles schema usage tape op group below e (runs_all transactions asked is) = inl (ap (λ (x : Content). x.handles) is)
own_handles schema usage tape op group below e (enters message sent one asked known posted to says new is) = inl (ap (λ (x : Content). x.handles) is)
own_handles schema usage tape op group below e (handles message moment asked oldest is) =
    inr (record { message = message; op = op; moment = moment; oldest = oldest; marks = ap (λ (x : Content). x.handles) is ∙ handling_handles schema ((usage.handlers) moment) group op message below; is = is })

-- ---- names that are entered

map_append : (xs ys : List Enter) → map (λ (enter : Enter). enter.name) (xs ++ ys) ≡ map (λ (enter : Enter). enter.name) xs ++ map (λ (enter : Enter). enter.name) ys
map_append [] ys = refl
map_append (x ∷ xs) ys = ap (λ (rest : List Name). x.name ∷ rest) (map_append xs ys)

names_flat : (log : List Content) → names_entered log ≡ flat_map entered_by log
unfolding entered_by
names_flat [] = refl
names_flat (e ∷ log) = map_append e.enters (entered_in log) ∙ ap (λ (rest : List Name). map (λ (enter : Enter). enter.name) e.enters ++ rest) (names_flat log)

entered_single : (below : List Content) (e : Content) → Enters below e → Single (entered_by e)
unfolding entered_by
entered_single below e (nothing is) = inl (ap (map (λ (enter : Enter). enter.name)) is)
entered_single below e (fresh message is new) = inr (message.name, ap (map (λ (enter : Enter). enter.name)) is)

one_name : (x y : Name) → x ∷ [] ≡ y ∷ [] → x ≡ y
one_name x y h = cc

no_name : (x : Name) (xs : List Name) → xs ≡ [] → xs ≡ x ∷ [] → ⊥
no_name x xs h k = let same = sym h ∙ k in cc

entered_fresh : (below : List Content) (e : Content) (name : Name) → Enters below e → entered_by e ≡ name ∷ [] → IsFreshIn (flat_map entered_by below) name
unfolding entered_by
entered_fresh below e name (nothing is) gives = absurd (no_name name (entered_by e) (ap (map (λ (enter : Enter). enter.name)) is) gives)
entered_fresh below e name (fresh message is new) gives =
    let same : message.name ≡ name = one_name message.name name (sym (ap (map (λ (enter : Enter). enter.name)) is) ∙ gives) in
    subst (λ names. IsFreshIn names name) (names_flat below) (subst (IsFreshIn (names_entered below)) same (not_named (names_entered below) message.name new))

pub entered_once : (c : Cluster) (usage : Usage) (tape : List Item) → LawfulWrites c usage tape → (group : GroupId) (m n : ℕ) (first second : Name)
    → slice_get (names_entered (log_of tape group)) m ≡ Some first → slice_get (names_entered (log_of tape group)) n ≡ Some second → first ≡ second → m ≡ n
entered_once c usage tape l group m n first second h k same =
    once entered_by (log_of tape group) (λ i e at. entered_single (take i (log_of tape group)) e (enters_at i e at)) (λ i e name at gives. entered_fresh (take i (log_of tape group)) e name (enters_at i e at) gives)
    m n first second (subst (λ names. slice_get names m ≡ Some first) (names_flat (log_of tape group)) h) (subst (λ names. slice_get names n ≡ Some second) (names_flat (log_of tape group)) k) same
  where
    enters_at : (i : ℕ) (e : Content) → slice_get (log_of tape group) i ≡ Some e → Enters (take i (log_of tape group)) e
    enters_at i e at = let o = own_entry c usage tape l group i e at in own_enters c.schema usage tape o.0 group (take i (log_of tape group)) e o.1

-- ---- names that are handled

handled_single : (schema : Schema) (usage : Usage) (group : GroupId) (below : List Content) (e : Content) → (e.handles ≡ []) ⊎ Handling schema usage group below e → Single e.handles
handled_single schema usage group below e (inl none) = inl none
handled_single schema usage group below e (inr h) = inr ((h.message).name, h.marks)

handled_fresh : (schema : Schema) (usage : Usage) (group : GroupId) (below : List Content) (e : Content) (name : Name) → (e.handles ≡ []) ⊎ Handling schema usage group below e → e.handles ≡ name ∷ [] → IsFreshIn (handled_in below) name
handled_fresh schema usage group below e name (inl none) gives = absurd (no_name name e.handles none gives)
handled_fresh schema usage group below e name (inr h) gives =
    subst (IsFreshIn (handled_in below)) (one_name (h.message).name name (sym h.marks ∙ gives)) (not_named (handled_in below) (h.message).name (not_handled below h.message h.oldest))

pub handling_at : (c : Cluster) (usage : Usage) (tape : List Item) → LawfulWrites c usage tape → (group : GroupId) (i : ℕ) (e : Content) → slice_get (log_of tape group) i ≡ Some e → (e.handles ≡ []) ⊎ Handling c.schema usage group (take i (log_of tape group)) e
handling_at c usage tape l group i e at = let o = own_entry c usage tape l group i e at in own_handles c.schema usage tape o.0 group (take i (log_of tape group)) e o.1

pub handled_once : (c : Cluster) (usage : Usage) (tape : List Item) → LawfulWrites c usage tape → (group : GroupId) (m n : ℕ) (first second : Name)
    → slice_get (handled_in (log_of tape group)) m ≡ Some first → slice_get (handled_in (log_of tape group)) n ≡ Some second → first ≡ second → m ≡ n
handled_once c usage tape l group m n first second h k same =
    once (λ (e : Content). e.handles) (log_of tape group)
    (λ i e at. handled_single c.schema usage group (take i (log_of tape group)) e (handling_at c usage tape l group i e at))
    (λ i e name at gives. handled_fresh c.schema usage group (take i (log_of tape group)) e name (handling_at c usage tape l group i e at) gives)
    m n first second h k same

contains_none : (name : Name) → Contains [] name → ⊥
contains_none name (k, less, is) = omega arith

contains_one : (x name : Name) → Contains (x ∷ []) name → x ≡ name
contains_one x name (zero, less, is) = is
contains_one x name (suc k, less, is) = absurd (omega arith)

-- a message that is handled is the oldest that is not
pub handles_oldest : (c : Cluster) (usage : Usage) (tape : List Item) → LawfulWrites c usage tape → (group : GroupId) (n : ℕ) (e : Content) (name : Name) → slice_get (log_of tape group) n ≡ Some e → Contains e.handles name
    → (message : Enter) × (op : OpId) × (moment : List Item) × (oldest_unhandled (take n (log_of tape group)) ≡ Some message) × (message.name ≡ name) × (e ≡ handled_by c.schema ((usage.handlers) moment) group op message (take n (log_of tape group)))
handles_oldest c usage tape l group n e name at there = go (handling_at c usage tape l group n e at)
  where
    go : (e.handles ≡ []) ⊎ Handling c.schema usage group (take n (log_of tape group)) e
        → (message : Enter) × (op : OpId) × (moment : List Item) × (oldest_unhandled (take n (log_of tape group)) ≡ Some message) × (message.name ≡ name) × (e ≡ handled_by c.schema ((usage.handlers) moment) group op message (take n (log_of tape group)))
    go (inl none) = absurd (contains_none name (subst (λ names. Contains names name) none there))
    go (inr h) = (h.message, h.op, h.moment, h.oldest, contains_one (h.message).name name (subst (λ names. Contains names name) h.marks there), h.is)

-- What a node's journal tells goes on telling what the node met, with each step's items behind it.
use Rattle.std.proofs.Common.{◌≡◌, ℕ, ◌==◌, ◌&&◌, max, Bool, true, false, cond, List, [], ◌∷◌, ◌++◌, map, filter_map, reverse, Option, Some, None, refl, sym, ap, subst, ◌∙◌, arith}
use Rattle.std.specs.List.{All, cons_option}
use Rattle.std.proofs.lemmas.List.{append_assoc, reverse-append}
use Rattle.std.proofs.lemmas.List.Elements.{All-head, All-tail}
use Rattle.mega_base.specs.declared.names.GroupId.{GroupId}
use Rattle.mega_ballot.specs.declared.ballot.Ballot.{Ballot}
use Rattle.mega_wire.specs.declared.message.Message.{Message}
use Rattle.mega_wire.specs.declared.message.Body.{Body}
use Rattle.mega_wire.specs.declared.message.Body.TheVariants.{Accepted, Promise}
use Rattle.mega_wal.specs.Acceptor.{Act, Promised, Vote, best, greater_ballot, shown}
use Rattle.mega_wal.specs.History.{acts_of, starts_of}
use Rattle.mega_wal.specs.Same.{same_group}
use Rattle.mega_wal.specs.declared.item.JournalItem.{JournalItem}
use Rattle.mega_wal.specs.declared.item.JournalItem.TheVariants.{Start as Started, Promise as Promises, Accept as Accepts, Decide as Decided, Grant as Granted, Lapse as Lapsed, Starts as Starting}
use Rattle.mega_rules.specs.Met.{Met, Answers, Applies, Begins, Counts, Crashes, Decides, Forgets, Grants, Invalidates, Lapses, Loses, Sends, Serves, Starts, Takes, Ticks, Unsends, Validates}
use Rattle.mega_rules.specs.Logs.{accepted_at, top_of}
use Rattle.mega_rules.specs.Operations.{Node, Setting}
use Rattle.mega_rules.specs.Steps.{Begin, Event, Step, Take, Tick, onto, start, step}
use Rattle.mega_rules.specs.Voting.{act_if, act_in, acts}
use Rattle.mega_promises.specs.NodeRuns.{met_of}
use Rattle.mega_promises.specs.Served.{kept_of, kept_of_body, kept_of_note}
use Rattle.mega_node_laws.specs.Acted.{own_item}
use Rattle.mega_node_laws.proofs.Ending.{step_met}
use Rattle.mega_served_laws.proofs.Alike.{best_with, kept_more, kept_self, kept_then, shown_with}
use Rattle.mega_served_laws.specs.Alike.{KeptAlike}
use Rattle.mega_served_laws.proofs.Notes.{IsNote, step_fair}

-- ---- lists

pub rev_cons : {X : Type 0} (x : X) (xs ys : List X) → reverse xs ++ (x ∷ ys) ≡ reverse (x ∷ xs) ++ ys
rev_cons x xs ys = sym (append_assoc (reverse xs) (x ∷ []) ys) ∙ ap (λ zs. zs ++ ys) (sym (reverse-append (x ∷ []) xs))

pub rev_both : {X : Type 0} (xs ys zs : List X) → reverse ys ++ (reverse xs ++ zs) ≡ reverse (xs ++ ys) ++ zs
rev_both xs ys zs = sym (append_assoc (reverse ys) (reverse xs) zs) ∙ ap (λ ws. ws ++ zs) (sym (reverse-append xs ys))

-- ---- what is not kept

abbrev pub is_kept : Met → Bool
is_kept (Sends message) = true
is_kept (Unsends message) = true
is_kept (Decides group n entry) = true
is_kept (Grants node epoch) = true
is_kept (Lapses node epoch) = true
is_kept _ = false

pub unkept : (x : Met) (a : List Met) → is_kept x ≡ false → KeptAlike (x ∷ a) a
unkept (Sends message) a is = absurd (cc)
unkept (Unsends message) a is = absurd (cc)
unkept (Decides group n entry) a is = absurd (cc)
unkept (Grants node epoch) a is = absurd (cc)
unkept (Lapses node epoch) a is = absurd (cc)
unkept _ a is = record { decides = λ group n. refl; groups = refl; newest = λ group. refl; tops = λ group. refl; shows = λ group n. refl; bests = λ group n. refl; grants = λ node. refl }

accepted_none : (group : GroupId) (body : Body) → kept_of_body body ≡ None → accepted_at group body ≡ 0
accepted_none group (Accepted op g n ballot entry) none = absurd (cc)
accepted_none group _ none = refl

act_none : (group : GroupId) (n : ℕ) (body : Body) → kept_of_body body ≡ None → act_in group n body ≡ None
act_none group n (Promise op g m ballot vote) none = absurd (cc)
act_none group n (Accepted op g m ballot entry) none = absurd (cc)
act_none group n _ none = refl

max_zero : (n : ℕ) → max 0 n ≡ n
max_zero n = omega arith

-- a message that is neither a promise nor a vote
pub unkept_send : (m : Message) (a : List Met) → kept_of_body m.body ≡ None → KeptAlike (Sends m ∷ a) a
unkept_send m a none = record {
  decides = λ group n. refl;
  groups = refl;
  newest = λ group. refl;
  tops = λ group. ap (λ n. max n (top_of a group)) (accepted_none group m.body none) ∙ max_zero (top_of a group);
  shows = λ group n. ap (λ o. shown (cons_option o (acts a group n))) (act_none group n m.body none);
  bests = λ group n. ap (λ o. best (cons_option o (acts a group n))) (act_none group n m.body none);
  grants = λ node. refl;
}

-- ---- a promise and a vote, whoever they went to and whatever was reported

promise_shown : (t : Bool) (ballot : Ballot) (one other : Option Vote) (xs ys : List Act) → shown xs ≡ shown ys → shown (cons_option (act_if t (Promised ballot one)) xs) ≡ shown (cons_option (act_if t (Promised ballot other)) ys)
promise_shown true ballot one other xs ys h = ap (λ s. greater_ballot s ballot) h
promise_shown false ballot one other xs ys h = h

promise_best : (t : Bool) (ballot : Ballot) (one other : Option Vote) (xs ys : List Act) → best xs ≡ best ys → best (cons_option (act_if t (Promised ballot one)) xs) ≡ best (cons_option (act_if t (Promised ballot other)) ys)
promise_best true ballot one other xs ys h = h
promise_best false ballot one other xs ys h = h

-- what was sent, and what the journal tells of it
told_by : (me : ℕ) (m : Message) (body : Body) (a : List Met) (js : List JournalItem) → m.body ≡ body → KeptAlike a (met_of me js) → KeptAlike (Sends m ∷ a) (met_of me (cons_option (kept_of_body body) js))
told_by me m (Promise op g n ballot vote) a js is h = subst (λ (body : Body). KeptAlike (Sends (record { from = m.from; to = m.to; body = body }) ∷ a) (met_of me (Promises g n ballot ∷ js))) (sym is) (record {
  decides = h.decides;
  groups = h.groups;
  newest = h.newest;
  tops = λ group. ap (max 0) (h.tops group);
  shows = λ group k. promise_shown (same_group g group && n.0 == k) ballot vote (best (acts_of js g n.0)) (acts a group k) (acts (met_of me js) group k) (h.shows group k);
  bests = λ group k. promise_best (same_group g group && n.0 == k) ballot vote (best (acts_of js g n.0)) (acts a group k) (acts (met_of me js) group k) (h.bests group k);
  grants = h.grants;
})
told_by me m (Accepted op g n ballot entry) a js is h = subst (λ (body : Body). KeptAlike (Sends (record { from = m.from; to = m.to; body = body }) ∷ a) (met_of me (Accepts g n ballot entry ∷ js))) (sym is) (record {
  decides = h.decides;
  groups = h.groups;
  newest = h.newest;
  tops = λ group. ap (max (cond (same_group g group) n.0 0)) (h.tops group);
  shows = λ group k. shown_with (act_in group k (Accepted op g n ballot entry)) (acts a group k) (acts (met_of me js) group k) (h.shows group k);
  bests = λ group k. best_with (act_in group k (Accepted op g n ballot entry)) (acts a group k) (acts (met_of me js) group k) (h.bests group k);
  grants = h.grants;
})
told_by me m body a js is h = quiet body refl
  where
    quiet : (other : Body) → other ≡ body → KeptAlike (Sends m ∷ a) (met_of me (cons_option (kept_of_body body) js))
    quiet other e = kept_then (Sends m ∷ a) a (met_of me js) (unkept_send m a (ap kept_of_body is)) h

pub sends_kept : (me : ℕ) (ms : List Message) (a : List Met) (js : List JournalItem) → KeptAlike a (met_of me js)
    → KeptAlike (onto (map Sends ms) a) (met_of me (reverse (filter_map (λ (m : Message). kept_of_body m.body) ms) ++ js))
sends_kept me [] a js h = h
sends_kept me (m ∷ ms) a js h = go (kept_of_body m.body) (told_by me m m.body a js refl h) (λ more k. sends_kept me ms (Sends m ∷ a) more k)
  where
    items : List JournalItem
    items = filter_map (λ (m : Message). kept_of_body m.body) ms

    go : (o : Option JournalItem) → KeptAlike (Sends m ∷ a) (met_of me (cons_option o js))
        → ((more : List JournalItem) → KeptAlike (Sends m ∷ a) (met_of me more) → KeptAlike (onto (map Sends ms) (Sends m ∷ a)) (met_of me (reverse items ++ more)))
        → KeptAlike (onto (map Sends ms) (Sends m ∷ a)) (met_of me (reverse (cons_option o items) ++ js))
    go None k rest = rest js k
    go (Some item) k rest = subst (λ more. KeptAlike (onto (map Sends ms) (Sends m ∷ a)) (met_of me more)) (rev_cons item items js) (rest (item ∷ js) k)

-- ---- notes

note_kept : (me : ℕ) (x : Met) (a : List Met) (js : List JournalItem) → IsNote x → KeptAlike a (met_of me js) → KeptAlike (x ∷ a) (met_of me (cons_option (kept_of_note x) js))
note_kept me (Decides g n entry) a js is h = kept_more (Decides g n entry) a (met_of me js) h
note_kept me (Grants node epoch) a js is h = kept_more (Grants node epoch) a (met_of me js) h
note_kept me (Lapses node epoch) a js is h = kept_more (Lapses node epoch) a (met_of me js) h
note_kept me (Sends m) a js is h = absurd (cc)
note_kept me (Unsends m) a js is h = absurd (cc)
note_kept me (Counts cell epoch) a js is h = kept_then (Counts cell epoch ∷ a) a (met_of me js) (unkept (Counts cell epoch) a refl) h
note_kept me (Forgets cell epoch) a js is h = kept_then (Forgets cell epoch ∷ a) a (met_of me js) (unkept (Forgets cell epoch) a refl) h
note_kept me (Serves epoch) a js is h = kept_then (Serves epoch ∷ a) a (met_of me js) (unkept (Serves epoch) a refl) h
note_kept me (Loses epoch) a js is h = kept_then (Loses epoch ∷ a) a (met_of me js) (unkept (Loses epoch) a refl) h
note_kept me (Validates group n) a js is h = kept_then (Validates group n ∷ a) a (met_of me js) (unkept (Validates group n) a refl) h
note_kept me (Invalidates group n) a js is h = kept_then (Invalidates group n ∷ a) a (met_of me js) (unkept (Invalidates group n) a refl) h
note_kept me (Applies group n) a js is h = kept_then (Applies group n ∷ a) a (met_of me js) (unkept (Applies group n) a refl) h
note_kept me (Answers op answer) a js is h = kept_then (Answers op answer ∷ a) a (met_of me js) (unkept (Answers op answer) a refl) h
note_kept me (Starts start) a js is h = absurd (cc)
note_kept me Crashes a js is h = absurd (cc)
note_kept me (Ticks now) a js is h = absurd (cc)
note_kept me (Begins op text) a js is h = absurd (cc)
note_kept me (Takes m) a js is h = absurd (cc)

pub notes_kept : (me : ℕ) (notes a : List Met) (js : List JournalItem) → All IsNote notes → KeptAlike a (met_of me js) → KeptAlike (onto notes a) (met_of me (reverse (filter_map kept_of_note notes) ++ js))
notes_kept me [] a js are h = h
notes_kept me (x ∷ notes) a js are h = go (kept_of_note x) (note_kept me x a js (All-head IsNote x notes are) h) (λ more k. notes_kept me notes (x ∷ a) more (All-tail IsNote x notes are) k)
  where
    items : List JournalItem
    items = filter_map kept_of_note notes

    go : (o : Option JournalItem) → KeptAlike (x ∷ a) (met_of me (cons_option o js))
        → ((more : List JournalItem) → KeptAlike (x ∷ a) (met_of me more) → KeptAlike (onto notes (x ∷ a)) (met_of me (reverse items ++ more)))
        → KeptAlike (onto notes (x ∷ a)) (met_of me (reverse (cons_option o items) ++ js))
    go None k rest = rest js k
    go (Some item) k rest = subst (λ more. KeptAlike (onto notes (x ∷ a)) (met_of me more)) (rev_cons item items js) (rest (item ∷ js) k)

-- ---- a step and a start

own_unkept : (s : Setting) (node : Node) (event : Event) (a : List Met) → KeptAlike (own_item s node event ∷ a) a
own_unkept s node (Tick now) a = unkept (Ticks now) a refl
own_unkept s node (Take m) a = unkept (Takes m) a refl
own_unkept s node (Begin request text) a = unkept (own_item s node (Begin request text)) a refl

pub step_kept : (s : Setting) (node : Node) (event : Event) (js : List JournalItem) → KeptAlike node.met (met_of s.me js)
    → KeptAlike ((step s node event).node).met (met_of s.me (reverse (kept_of (step s node event)) ++ js))
step_kept s node event js h =
    coe 0 1 (i. KeptAlike (sym (step_met s node event) i) (met_of s.me (rev_both (filter_map kept_of_note made.notes) (filter_map (λ (m : Message). kept_of_body m.body) made.sends) js i)))
    (sends_kept s.me made.sends (onto made.notes (own_item s node event ∷ node.met)) (reverse (filter_map kept_of_note made.notes) ++ js)
    (notes_kept s.me made.notes (own_item s node event ∷ node.met) js (step_fair s node event).notes
    (kept_then (own_item s node event ∷ node.met) node.met (met_of s.me js) (own_unkept s node event node.met) h)))
  where
    made : Step
    made = step s node event

pub all_unkept : (notes a : List Met) → All (λ x. is_kept x ≡ false) notes → KeptAlike (onto notes a) a
all_unkept [] a are = kept_self a
all_unkept (x ∷ notes) a are = kept_then (onto notes (x ∷ a)) (x ∷ a) a
    (all_unkept notes (x ∷ a) (All-tail (λ x. is_kept x ≡ false) x notes are)) (unkept x a (All-head (λ x. is_kept x ≡ false) x notes are))

-- ---- no start is kept of a step

body_starts : (o : Option JournalItem) (body : Body) (js : List JournalItem) → kept_of_body body ≡ o → starts_of (cons_option o js) ≡ starts_of js
body_starts None body js is = refl
body_starts (Some (Promises g n ballot)) body js is = refl
body_starts (Some (Accepts g n ballot entry)) body js is = refl
body_starts (Some (Decided g n entry)) body js is = refl
body_starts (Some (Granted node epoch)) body js is = refl
body_starts (Some (Lapsed node epoch)) body js is = refl
body_starts (Some Started) body js is = absurd (by body is)
  where
    by : (body : Body) → kept_of_body body ≡ Some Started → ⊥
    by (Promise op g n ballot vote) is = cc
    by (Accepted op g n ballot entry) is = cc
    by _ is = cc
body_starts (Some (Starting number)) body js is = absurd (by body is)
  where
    by : (body : Body) → kept_of_body body ≡ Some (Starting number) → ⊥
    by (Promise op g n ballot vote) is = cc
    by (Accepted op g n ballot entry) is = cc
    by _ is = cc

note_starts : (x : Met) (js : List JournalItem) → starts_of (cons_option (kept_of_note x) js) ≡ starts_of js
note_starts (Decides g n entry) js = refl
note_starts (Grants node epoch) js = refl
note_starts (Lapses node epoch) js = refl
note_starts _ js = refl

all_starts : {X : Type 0} (f : X → Option JournalItem) → ((x : X) (js : List JournalItem) → starts_of (cons_option (f x) js) ≡ starts_of js) → (xs : List X) (js : List JournalItem)
    → starts_of (reverse (filter_map f xs) ++ js) ≡ starts_of js
all_starts f h [] js = refl
all_starts f h (x ∷ xs) js = by (f x) (h x js) (all_starts f h xs)
  where
    by : (o : Option JournalItem) → starts_of (cons_option o js) ≡ starts_of js → ((more : List JournalItem) → starts_of (reverse (filter_map f xs) ++ more) ≡ starts_of more)
        → starts_of (reverse (cons_option o (filter_map f xs)) ++ js) ≡ starts_of js
    by None same rest = rest js
    by (Some item) same rest = ap starts_of (sym (rev_cons item (filter_map f xs) js)) ∙ rest (item ∷ js) ∙ same

pub starts_kept : (made : Step) (js : List JournalItem) → starts_of (reverse (kept_of made) ++ js) ≡ starts_of js
starts_kept made js =
    ap starts_of (sym (rev_both (filter_map kept_of_note made.notes) (filter_map (λ (m : Message). kept_of_body m.body) made.sends) js))
    ∙ all_starts (λ (m : Message). kept_of_body m.body) (λ m js. body_starts (kept_of_body m.body) m.body js refl) made.sends (reverse (filter_map kept_of_note made.notes) ++ js)
    ∙ all_starts kept_of_note note_starts made.notes js

-- What a step that is cut owes tells what its record keeps.
use Rattle.std.proofs.Common.{◌≡◌, ℕ, ◌==◌, true, cond, List, [], ◌∷◌, ◌++◌, filter, filter_map, map, reverse, None, refl, sym, ap, subst, ◌∙◌}
use Rattle.std.specs.List.{All, cons_option}
use Rattle.std.proofs.lemmas.List.Elements.{All-cons, All-head, All-nil, All-tail}
use Rattle.mega_wire.specs.declared.message.Body.{Body}
use Rattle.mega_wire.specs.declared.message.Body.TheVariants.{Accepted, Promise}
use Rattle.mega_wire.specs.declared.message.Message.{Message}
use Rattle.mega_wal.specs.declared.item.JournalItem.{JournalItem}
use Rattle.mega_wal.specs.History.{after_grant, after_lapse}
use Rattle.mega_rules.specs.Met.{Met, Answers, Applies, Begins, Counts, Crashes, Decides, Forgets, Grants, Invalidates, Lapses, Loses, Sends, Serves, Starts, Takes, Ticks, Unsends, Validates}
use Rattle.mega_rules.specs.Locks.{last_grant}
use Rattle.mega_rules.specs.Operations.{Node, Setting}
use Rattle.mega_rules.specs.Steps.{Event, Step, onto, step}
use Rattle.mega_promises.specs.NodeRuns.{met_of}
use Rattle.mega_promises.specs.Runs.{is_durable, owes, replies_in}
use Rattle.mega_promises.specs.Served.{kept_of, kept_of_body, kept_of_note}
use Rattle.mega_voter.specs.Journal.{item_in}
use Rattle.mega_node_laws.specs.Asking.{Asks}
use Rattle.mega_node_laws.proofs.Ending.{onto_append}
use Rattle.mega_leases.specs.Opening.{AreOwed, is_owed}
use Rattle.mega_served_laws.specs.Alike.{KeptAlike}
use Rattle.mega_served_laws.proofs.Alike.{kept_more, kept_self, kept_then}
use Rattle.mega_served_laws.proofs.Keeping.{rev_both, rev_cons, sends_kept}
use Rattle.mega_served_laws.proofs.Notes.{IsNote, step_fair}

-- ---- durable notes

durable_kept : (me : ℕ) (notes a : List Met) (js : List JournalItem) → All IsNote notes → KeptAlike a (met_of me js) → KeptAlike (onto (filter is_durable notes) a) (met_of me (reverse (filter_map kept_of_note notes) ++ js))
durable_kept me [] a js are h = h
durable_kept me (x ∷ notes) a js are h = by x (All-head IsNote x notes are) (λ b more k. durable_kept me notes b more (All-tail IsNote x notes are) k)
  where
    items : List JournalItem
    items = filter_map kept_of_note notes

    one : (item : JournalItem) (b : List Met) → KeptAlike b (met_of me (item ∷ js)) → ((b : List Met) (more : List JournalItem) → KeptAlike b (met_of me more) → KeptAlike (onto (filter is_durable notes) b) (met_of me (reverse (filter_map kept_of_note notes) ++ more))) → KeptAlike (onto (filter is_durable notes) b) (met_of me (reverse (item ∷ items) ++ js))
    one item b k rest = subst (λ more. KeptAlike (onto (filter is_durable notes) b) (met_of me more)) (rev_cons item items js) (rest b (item ∷ js) k)

    by : (x : Met) → IsNote x → ((b : List Met) (more : List JournalItem) → KeptAlike b (met_of me more) → KeptAlike (onto (filter is_durable notes) b) (met_of me (reverse (filter_map kept_of_note notes) ++ more))) → KeptAlike (onto (filter is_durable (x ∷ notes)) a) (met_of me (reverse (filter_map kept_of_note (x ∷ notes)) ++ js))
    by (Decides g n entry) is rest = one _ (Decides g n entry ∷ a) (kept_more (Decides g n entry) a (met_of me js) h) rest
    by (Grants node epoch) is rest = one _ (Grants node epoch ∷ a) (kept_more (Grants node epoch) a (met_of me js) h) rest
    by (Lapses node epoch) is rest = one _ (Lapses node epoch ∷ a) (kept_more (Lapses node epoch) a (met_of me js) h) rest
    by (Sends m) is rest = absurd (cc)
    by (Unsends m) is rest = absurd (cc)
    by _ is rest = rest a js h

-- ---- replies that were not sent

unsent : (m : Message) (a : List Met) → KeptAlike (Unsends m ∷ a) (Sends m ∷ a)
unsent m a = record { decides = λ group n. refl; groups = refl; newest = λ group. refl; tops = λ group. refl; shows = λ group n. refl; bests = λ group n. refl; grants = λ node. refl }

unsends_kept : (ms : List Message) (a b : List Met) → KeptAlike a b → KeptAlike (onto (map Unsends ms) a) (onto (map Sends ms) b)
unsends_kept [] a b h = h
unsends_kept (m ∷ ms) a b h = unsends_kept ms (Unsends m ∷ a) (Sends m ∷ b) (kept_then (Unsends m ∷ a) (Sends m ∷ a) (Sends m ∷ b) (unsent m a) (kept_more (Sends m) a b h))

asks_none : (body : Body) → item_in body ≡ None → kept_of_body body ≡ None
asks_none (Promise op g n ballot vote) none = absurd (cc)
asks_none (Accepted op g n ballot entry) none = absurd (cc)
asks_none _ none = refl

abbrev kept_sends : List Message → List JournalItem
kept_sends ms = filter_map (λ (m : Message). kept_of_body m.body) ms

rest_none : (rest : List Message) → All Asks rest → kept_sends rest ≡ []
rest_none [] are = refl
rest_none (m ∷ rest) are = (λ i. cons_option (asks_none m.body (All-head Asks m rest are) i) (rest_none rest (All-tail Asks m rest are) i))

only_replies : (replies rest : List Message) → All Asks rest → kept_sends (replies ++ rest) ≡ kept_sends replies
only_replies [] rest are = rest_none rest are
only_replies (m ∷ replies) rest are = ap (cons_option (kept_of_body m.body)) (only_replies replies rest are)

pub owes_kept : (s : Setting) (node : Node) (event : Event) (a : List Met) (js : List JournalItem) → KeptAlike a (met_of s.me js)
    → KeptAlike (onto (owes (step s node event) (replies_in s.cluster s.me node.met event)) a) (met_of s.me (reverse (kept_of (step s node event)) ++ js))
owes_kept s node event a js h =
    coe 0 1 (i. KeptAlike (sym (onto_append durable (map Unsends replies) a) i) (met_of s.me (items i)))
    (kept_then (onto (map Unsends replies) (onto durable a)) (onto (map Sends replies) (onto durable a)) (met_of s.me (reverse (kept_sends replies) ++ (reverse (filter_map kept_of_note made.notes) ++ js)))
    (unsends_kept replies (onto durable a) (onto durable a) (kept_self (onto durable a)))
    (sends_kept s.me replies (onto durable a) (reverse (filter_map kept_of_note made.notes) ++ js) (durable_kept s.me made.notes a js (step_fair s node event).notes h)))
  where
    made : Step
    made = step s node event

    replies : List Message
    replies = replies_in s.cluster s.me node.met event

    durable : List Met
    durable = filter is_durable made.notes

    same : kept_sends replies ≡ kept_sends made.sends
    same = sym (ap kept_sends (step_fair s node event).sends ∙ only_replies replies (step_fair s node event).rest (step_fair s node event).asks)

    items : reverse (kept_sends replies) ++ (reverse (filter_map kept_of_note made.notes) ++ js) ≡ reverse (kept_of made) ++ js
    items = ap (λ sends. reverse sends ++ (reverse (filter_map kept_of_note made.notes) ++ js)) same ∙ rev_both (filter_map kept_of_note made.notes) (kept_sends made.sends) js

-- ---- it is owed over whatever grants the same

pub owed_on : (owed a b : List Met) → ((node : ℕ) → last_grant b node ≡ last_grant a node) → AreOwed owed a → AreOwed owed b
owed_on [] a b same are = tt
owed_on (Lapses node epoch ∷ owed) a b same are = (same node ∙ are.0, owed_on owed (Lapses node epoch ∷ a) (Lapses node epoch ∷ b) (more same) are.1)
  where
    more : ((node : ℕ) → last_grant b node ≡ last_grant a node) → (other : ℕ) → last_grant (Lapses node epoch ∷ b) other ≡ last_grant (Lapses node epoch ∷ a) other
    more same other = ap (λ g. cond (node == other) (after_lapse g epoch) g) (same other)
owed_on (Grants node epoch ∷ owed) a b same are = (are.0, owed_on owed (Grants node epoch ∷ a) (Grants node epoch ∷ b) (more same) are.1)
  where
    more : ((node : ℕ) → last_grant b node ≡ last_grant a node) → (other : ℕ) → last_grant (Grants node epoch ∷ b) other ≡ last_grant (Grants node epoch ∷ a) other
    more same other = ap (λ g. cond (node == other) (after_grant g epoch) g) (same other)
owed_on (Unsends m ∷ owed) a b same are = (are.0, owed_on owed (Unsends m ∷ a) (Unsends m ∷ b) same are.1)
owed_on (Decides group n entry ∷ owed) a b same are = (are.0, owed_on owed (Decides group n entry ∷ a) (Decides group n entry ∷ b) same are.1)
owed_on (Starts start ∷ owed) a b same are = absurd (let no = are.0 in cc)
owed_on (Crashes ∷ owed) a b same are = absurd (let no = are.0 in cc)
owed_on (Ticks now ∷ owed) a b same are = absurd (let no = are.0 in cc)
owed_on (Begins op text ∷ owed) a b same are = absurd (let no = are.0 in cc)
owed_on (Takes m ∷ owed) a b same are = absurd (let no = are.0 in cc)
owed_on (Sends m ∷ owed) a b same are = absurd (let no = are.0 in cc)
owed_on (Counts cell epoch ∷ owed) a b same are = absurd (let no = are.0 in cc)
owed_on (Forgets cell epoch ∷ owed) a b same are = absurd (let no = are.0 in cc)
owed_on (Serves epoch ∷ owed) a b same are = absurd (let no = are.0 in cc)
owed_on (Loses epoch ∷ owed) a b same are = absurd (let no = are.0 in cc)
owed_on (Validates group n ∷ owed) a b same are = absurd (let no = are.0 in cc)
owed_on (Invalidates group n ∷ owed) a b same are = absurd (let no = are.0 in cc)
owed_on (Applies group n ∷ owed) a b same are = absurd (let no = are.0 in cc)
owed_on (Answers op answer ∷ owed) a b same are = absurd (let no = are.0 in cc)

-- each thing that is owed
pub each_owed : (owed met : List Met) → AreOwed owed met → All (λ x. is_owed x ≡ true) owed
each_owed [] met are = All-nil (λ x. is_owed x ≡ true)
each_owed (Lapses node epoch ∷ owed) met are = All-cons (λ x. is_owed x ≡ true) (Lapses node epoch) owed refl (each_owed owed (Lapses node epoch ∷ met) are.1)
each_owed (Grants node epoch ∷ owed) met are = All-cons (λ x. is_owed x ≡ true) (Grants node epoch) owed refl (each_owed owed (Grants node epoch ∷ met) are.1)
each_owed (Unsends m ∷ owed) met are = All-cons (λ x. is_owed x ≡ true) (Unsends m) owed refl (each_owed owed (Unsends m ∷ met) are.1)
each_owed (Decides group n entry ∷ owed) met are = All-cons (λ x. is_owed x ≡ true) (Decides group n entry) owed refl (each_owed owed (Decides group n entry ∷ met) are.1)
each_owed (Starts start ∷ owed) met are = absurd (let no = are.0 in cc)
each_owed (Crashes ∷ owed) met are = absurd (let no = are.0 in cc)
each_owed (Ticks now ∷ owed) met are = absurd (let no = are.0 in cc)
each_owed (Begins op text ∷ owed) met are = absurd (let no = are.0 in cc)
each_owed (Takes m ∷ owed) met are = absurd (let no = are.0 in cc)
each_owed (Sends m ∷ owed) met are = absurd (let no = are.0 in cc)
each_owed (Counts cell epoch ∷ owed) met are = absurd (let no = are.0 in cc)
each_owed (Forgets cell epoch ∷ owed) met are = absurd (let no = are.0 in cc)
each_owed (Serves epoch ∷ owed) met are = absurd (let no = are.0 in cc)
each_owed (Loses epoch ∷ owed) met are = absurd (let no = are.0 in cc)
each_owed (Validates group n ∷ owed) met are = absurd (let no = are.0 in cc)
each_owed (Invalidates group n ∷ owed) met are = absurd (let no = are.0 in cc)
each_owed (Applies group n ∷ owed) met are = absurd (let no = are.0 in cc)
each_owed (Answers op answer ∷ owed) met are = absurd (let no = are.0 in cc)

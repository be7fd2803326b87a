-- What is entered was sent, and all that is promised of messages.
use Rattle.std.proofs.Common.{◌≡◌, ◌⊎◌, inl, inr, ℕ, zero, suc, ◌+◌, List, [], ◌∷◌, ◌++◌, length, take, slice_get, Some, refl, ap, ◌∙◌, subst, arith}
use Rattle.std.specs.Prelude.{Contains}
use Rattle.mega_base.specs.declared.names.GroupId.{GroupId}
use Rattle.mega_base.specs.declared.names.OpId.{OpId}
use Rattle.mega_cluster.specs.declared.cluster.Cluster.{Cluster}
use Rattle.mega_entry.specs.declared.content.Content.{Content}
use Rattle.mega_entry.specs.declared.content.Enter.{Enter}
use Rattle.mega_handler.specs.Named.{Meanings}
use Rattle.mega_promises.specs.of_rules.Queues.{Posted, entered_in, posted, sent_from, sent_in}
use Rattle.mega_promises.specs.of_transcript.declared.item.Item.{Item}
use Rattle.mega_promises.specs.Promises.{AreMessages, WasSent, handled_by, log_of}
use Rattle.mega_tape_laws.specs.Places.{In}
use Rattle.mega_tape_laws.specs.Writes.{IsFront, LawfulWrites, OwnEntry, Usage, enters, fills, handles, runs, runs_all}
use Rattle.mega_tape_laws.proofs.Complete.{known_is_front}
use Rattle.mega_tape_laws.proofs.Messages.{entered_once, handled_once, handles_oldest, handling_enters}
use Rattle.mega_tape_laws.proofs.Serial.{own_entry}

-- ---- elements of lists

pub to_in : {X : Type 0} (xs : List X) (x : X) → Contains xs x → In x xs
to_in [] x (k, less, is) = absurd (omega arith)
to_in (y ∷ ys) x (zero, less, is) = inl is
to_in (y ∷ ys) x (suc k, less, is) = inr (to_in ys x (k, omega arith, is))

pub from_in : {X : Type 0} (xs : List X) (x : X) → In x xs → Contains xs x
from_in [] x i = absurd i
from_in (y ∷ ys) x (inl is) = (0, omega arith, is)
from_in (y ∷ ys) x (inr i) = let c = from_in ys x i in let less = c.1 in (suc c.0, omega arith, c.2)

in_either : {X : Type 0} (xs ys : List X) (x : X) → In x (xs ++ ys) → In x xs ⊎ In x ys
in_either [] ys x i = inr i
in_either (z ∷ xs) ys x (inl is) = inl (inl is)
in_either (z ∷ xs) ys x (inr i) = elim (in_either xs ys x i) [ inl j ↦ inl (inr j) | inr j ↦ inr j ]

in_first : {X : Type 0} (xs ys : List X) (x : X) → In x xs → In x (xs ++ ys)
in_first [] ys x i = absurd i
in_first (z ∷ xs) ys x (inl is) = inl is
in_first (z ∷ xs) ys x (inr i) = inr (in_first xs ys x i)

in_second : {X : Type 0} (xs ys : List X) (x : X) → In x ys → In x (xs ++ ys)
in_second [] ys x i = i
in_second (z ∷ xs) ys x i = inr (in_second xs ys x i)

-- the entry that enters a message
record Entering (log : List Content) (message : Enter) : Type 0 where
  index : ℕ
  entry : Content
  at : slice_get log index ≡ Some entry
  within : In message entry.enters

entering : (log : List Content) (message : Enter) → In message (entered_in log) → Entering log message
entering [] message i = absurd i
entering (e ∷ log) message i = elim (in_either e.enters (entered_in log) message i) [
  | inl j ↦ record { index = 0; entry = e; at = refl; within = j }
  | inr j ↦ let r = entering log message j in record { index = suc r.index; entry = r.entry; at = r.at; within = r.within }
]

-- what the front of a log sends the log sends
sent_on : (group : GroupId) (position k : ℕ) (log : List Content) (one : Posted) → In one (sent_from group position (take k log)) → In one (sent_from group position log)
sent_on group position zero log one i = absurd i
sent_on group position (suc k) [] one i = absurd i
sent_on group position (suc k) (e ∷ log) one i = elim (in_either (posted group position 0 e.sends) (sent_from group (position + 1) (take k log)) one i) [
  | inl j ↦ in_first (posted group position 0 e.sends) (sent_from group (position + 1) log) one j
  | inr j ↦ in_second (posted group position 0 e.sends) (sent_from group (position + 1) log) one (sent_on group (position + 1) k log one j)
]

sent_in_log : (group : GroupId) (log below : List Content) (one : Posted) → IsFront log below → Contains (sent_in (record { group = group; entries = below })) one → Contains (sent_in (record { group = group; entries = log })) one
sent_in_log group log below one front h =
    from_in (sent_from group 1 log) one
    (sent_on group 1 (length below) log one (subst (λ entries. In one (sent_from group 1 entries)) front.is (to_in (sent_from group 1 below) one h)))

-- ---- what is entered was sent

none_in : (message : Enter) (xs : List Enter) → xs ≡ [] → In message xs → ⊥
none_in message xs h i = subst (In message) h i

own_sent : (c : Cluster) (usage : Usage) (tape : List Item) → LawfulWrites c usage tape → (group : GroupId) (op : OpId) (below : List Content) (e : Content) → OwnEntry c.schema usage tape op group below e
    → (message : Enter) → In message e.enters → WasSent tape group message
own_sent c usage tape l group op below e (fills is) message i = absurd (none_in message e.enters (ap (λ (x : Content). x.enters) is) i)
own_sent c usage tape l group op below e (runs transaction done asked at comes is) message i = absurd (none_in message e.enters (ap (λ (x : Content). x.enters) is) i)
own_sent c usage tape l group op below e (runs_all transactions asked is) message i = absurd (none_in message e.enters (ap (λ (x : Content). x.enters) is) i)
own_sent c usage tape l group op below e (handles other moment asked oldest is) message i =
    absurd (none_in message e.enters (ap (λ (x : Content). x.enters) is ∙ handling_enters c.schema ((usage.handlers) moment) group op other below) i)
own_sent c usage tape l group op below e (enters own sent one asked known stands to says fresh is) message i =
    go (subst (In message) (ap (λ (x : Content). x.enters) is) i)
  where
    here : WasSent tape group own
    here = (one, sent_in_log (own.name).group (log_of tape (own.name).group) sent one (known_is_front c tape l.lawful op.node.0 (own.name).group sent known) stands, to, says)

    go : In message (own ∷ []) → WasSent tape group message
    go (inl same) = subst (WasSent tape group) same here
    go (inr none) = absurd none

pub entered_sent : (c : Cluster) (usage : Usage) (tape : List Item) → LawfulWrites c usage tape → (group : GroupId) (message : Enter) → Contains (entered_in (log_of tape group)) message → WasSent tape group message
entered_sent c usage tape l group message h =
    let r = entering (log_of tape group) message (to_in (entered_in (log_of tape group)) message h) in
    let o = own_entry c usage tape l group r.index r.entry r.at in
    own_sent c usage tape l group o.0 (take r.index (log_of tape group)) r.entry o.1 message r.within

-- all that is promised of messages, where the handlers are these throughout
pub messages : (c : Cluster) (usage : Usage) (tape : List Item) (handlers : Meanings) → ((moment : List Item) → (usage.handlers) moment ≡ handlers) → LawfulWrites c usage tape → AreMessages c.schema handlers tape
messages c usage tape handlers same l = record {
  sent = entered_sent c usage tape l;
  entered_once = entered_once c usage tape l;
  handled_once = handled_once c usage tape l;
  oldest = λ group n entry name at there.
      let h = handles_oldest c usage tape l group n entry name at there in
      (h.0, h.1, h.3, h.4, h.5 ∙ ap (λ ms. handled_by c.schema ms group h.1 h.0 (take n (log_of tape group))) (same h.2));
}

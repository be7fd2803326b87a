-- The message that a pump picks was sent to the group, as its node knows.
use Rattle.std.proofs.Common.{◌≡◌, ◌⊎◌, inl, inr, ℕ, ◌+◌, Bool, true, false, cond, List, [], ◌∷◌, ◌++◌, map, flat_map, find, Some, refl, sym, ap, subst}
use Rattle.std.specs.Prelude.{Contains}
use Rattle.mega_base.specs.declared.names.GroupId.{GroupId}
use Rattle.mega_base.specs.declared.names.OpId.{OpId}
use Rattle.mega_entry.specs.declared.content.Content.{Content}
use Rattle.mega_entry.specs.declared.content.Send.{Send}
use Rattle.mega_tape_laws.specs.of_transcript.declared.item.Item.{Item}
use Rattle.mega_tape_laws.specs.of_replica.Applying.{applied}
use Rattle.mega_tape_laws.specs.of_rules.Logs.{groups_of, log_of}
use Rattle.mega_tape_laws.specs.of_rules.Queues.{Log, Posted, next_to_enter, posted, sent_from, sent_in, waits_to_enter}
use Rattle.mega_tape_laws.specs.of_rules.Operations.{Now}
use Rattle.mega_tape_laws.specs.of_rules.Acting.{applied_in, applied_logs}
use Rattle.mega_tape_laws.specs.Places.{In}
use Rattle.mega_tape_laws.specs.Writes.{Knows}
use Rattle.mega_tape_laws.proofs.Lists.{some_is}
use Rattle.mega_tape_laws.proofs.Sending.{from_in}
use Rattle.mega_run_laws.proofs.Owned.{KnowsAll, Waits, knows_front}

found : {X : Type 0} (test : X → Bool) (xs : List X) (x : X) → find test xs ≡ Some x → In x xs
found test [] x h = cc
found test (y ∷ xs) x h = go (test y) h (found test xs x)
  where
    go : (t : Bool) → cond t (Some y) (find test xs) ≡ Some x → (find test xs ≡ Some x → In x xs) → In x (y ∷ xs)
    go true k again = inl (some_is y x k)
    go false k again = inr (again k)

pub in_both : {X : Type 0} (x : X) (xs ys : List X) → In x (xs ++ ys) → In x xs ⊎ In x ys
in_both x [] ys i = inr i
in_both x (y ∷ xs) ys (inl e) = inl (inl e)
in_both x (y ∷ xs) ys (inr i) = elim (in_both x xs ys i) [ inl j ↦ inl (inr j) | inr j ↦ inr j ]

record From {X Y : Type 0} (f : X → List Y) (xs : List X) (y : Y) : Type 0 where
  one : X
  among : In one xs
  gives : In y (f one)

from_flat : {X Y : Type 0} (f : X → List Y) (xs : List X) (y : Y) → In y (flat_map f xs) → From f xs y
from_flat f [] y i = absurd i
from_flat f (x ∷ xs) y i = elim (in_both y (f x) (flat_map f xs) i) [
  | inl j ↦ record { one = x; among = inl refl; gives = j }
  | inr j ↦ (let r = from_flat f xs y j in record { one = r.one; among = inr r.among; gives = r.gives })
]

record Image {X Y : Type 0} (f : X → Y) (xs : List X) (y : Y) : Type 0 where
  one : X
  is : f one ≡ y

image : {X Y : Type 0} (f : X → Y) (xs : List X) (y : Y) → In y (map f xs) → Image f xs y
image f [] y i = absurd i
image f (x ∷ xs) y (inl e) = record { one = x; is = e }
image f (x ∷ xs) y (inr i) = let r = image f xs y i in record { one = r.one; is = r.is }

-- what a log sends is named by its group
posted_group : (group : GroupId) (position place : ℕ) (sends : List Send) (x : Posted) → In x (posted group position place sends) → ((x.message).name).group ≡ group
posted_group group position place [] x i = absurd i
posted_group group position place (send ∷ sends) x (inl e) = ap (λ (y : Posted). ((y.message).name).group) (sym e)
posted_group group position place (send ∷ sends) x (inr i) = posted_group group position (place + 1) sends x i

sent_group : (group : GroupId) (position : ℕ) (entries : List Content) (x : Posted) → In x (sent_from group position entries) → ((x.message).name).group ≡ group
sent_group group position [] x i = absurd i
sent_group group position (entry ∷ entries) x i = elim (in_both x (posted group position 0 entry.sends) (sent_from group (position + 1) entries) i) [
  | inl j ↦ posted_group group position 0 entry.sends x j
  | inr j ↦ sent_group group (position + 1) entries x j
]

log_waits : (tape : List Item) (now : Now) (id : OpId) → KnowsAll id.node.0 now.met tape → (group : GroupId) (log : Log) → applied_in now group ≡ log → (x : Posted) → In x (sent_in log) → Waits tape id x.to x.message
log_waits tape now id known group log is x i = record {
  entries = entries;
  one = x;
  known = subst (λ g. Knows tape id.node.0 g entries) (sym named) (knows_front tape id.node.0 now.met group (applied (log_of now.met group) (now.stored group)) known);
  posted = subst (λ g. Contains (sent_in (record { group = g; entries = entries })) x) (sym named) (from_in (sent_in (applied_in now group)) x here);
  to = refl;
  says = refl;
}
  where
    entries : List Content
    entries = (applied_in now group).entries

    here : In x (sent_in (applied_in now group))
    here = subst (λ l. In x (sent_in l)) (sym is) i

    named : ((x.message).name).group ≡ group
    named = sent_group group 1 entries x here

pub next_waits : (tape : List Item) (now : Now) (id : OpId) → KnowsAll id.node.0 now.met tape → (x : Posted) → next_to_enter id (applied_logs now) ≡ Some x → Waits tape id x.to x.message
next_waits tape now id known x h =
    let from = from_flat sent_in (applied_logs now) x (found (waits_to_enter id (applied_logs now)) (flat_map sent_in (applied_logs now)) x h) in
    let log = image (applied_in now) (groups_of now.met) from.one from.among in
    log_waits tape now id known log.one from.one log.is x from.gives

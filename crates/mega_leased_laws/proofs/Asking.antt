-- The operations of a node act one after another: each that noted an epoch began its poll while that epoch served, and asked no group before that it
-- did not read.
use Rattle.std.proofs.Common.{ℕ, ◌≡◌, ◌⊎◌, inl, inr, zero, suc, ◌+◌, ◌||◌, ◌≤◌, ◌<◌, nat_le, nat_lt, Bool, true, false, cond, List, [], ◌∷◌, ◌++◌, length, map, fold, Option, Some, None, refl, sym, ap, ◌∙◌, subst, arith}
use Rattle.std.proofs.lemmas.Bool.Decides.{nat_tests}
use Rattle.std.specs.List.{list_any}
use Rattle.std.proofs.lemmas.Bool.{or_parts, or_from, and_left, and_right}
use Rattle.mega_base.specs.declared.names.Epoch.{Epoch}
use Rattle.mega_base.specs.declared.names.GroupId.{GroupId}
use Rattle.mega_base.specs.declared.names.OpId.{OpId}
use Rattle.mega_locks.proofs.Marks.{same_is}
use Rattle.mega_cluster.specs.declared.cluster.Cluster.{Cluster}
use Rattle.mega_coordinator.specs.Groups.{is_same, refusal as not_valid}
use Rattle.mega_coordinator.specs.History.{beaten, serving}
use Rattle.mega_coordinator.specs.declared.answers.NotValid.{NotValid}
use Rattle.mega_coordinator.specs.declared.answers.NotValid.TheVariants.{Beaten, OtherEpoch}
use Rattle.mega_entry.specs.declared.content.Enter.{Enter}
use Rattle.mega_outcome.specs.declared.answer.Answer.{Answer}
use Rattle.mega_outcome.specs.declared.request.Request.{Request}
use Rattle.mega_wire.specs.declared.message.Message.{Message}
use Rattle.mega_wire.specs.declared.message.Body.{Body}
use Rattle.mega_wire.specs.declared.message.Body.TheVariants.{Where}
use Rattle.mega_wal.specs.Same.{same_group, same_op}
use Rattle.mega_wal.proofs.Sames.{same_group_self, same_group_equal}
use Rattle.mega_lease_laws.specs.of_run_laws.of_tape_laws.of_promises.of_transcript.declared.item.Item.{Item}
use Rattle.mega_lease_laws.specs.of_run_laws.of_tape_laws.of_promises.of_rules.of_read.declared.reading.Search.{Search}
use Rattle.mega_lease_laws.specs.of_run_laws.of_tape_laws.of_promises.of_rules.of_read.declared.reading.Stage.{Stage}
use Rattle.mega_lease_laws.specs.of_run_laws.of_tape_laws.of_promises.of_rules.of_read.declared.reading.Stage.TheVariants.{Polling, Catching}
use Rattle.mega_lease_laws.specs.of_run_laws.of_tape_laws.of_promises.of_rules.of_read.declared.reading.Move.{Move as ReadMove}
use Rattle.mega_lease_laws.specs.of_run_laws.of_tape_laws.of_promises.of_rules.of_read.Catching.{asked_by, local_read, polled_read, site}
use Rattle.mega_lease_laws.specs.of_run_laws.of_tape_laws.of_promises.of_rules.Met.{Met, Validates}
use Rattle.mega_lease_laws.specs.of_run_laws.of_tape_laws.of_promises.of_rules.Clock.{clock_of, start_of}
use Rattle.mega_lease_laws.specs.of_run_laws.of_tape_laws.of_promises.of_rules.Coordinators.{coordinator_calls, refused_at, serves_at, valid_at, validated}
use Rattle.mega_lease_laws.specs.of_run_laws.of_tape_laws.of_promises.of_rules.Logs.{decided, prefix_of, top_of}
use Rattle.mega_lease_laws.specs.of_run_laws.of_tape_laws.of_promises.of_rules.Operations.{Now, Operation, Phase, Proposes, Reads, Setting}
use Rattle.mega_lease_laws.specs.of_run_laws.of_tape_laws.of_promises.of_rules.Acting.{completes_read, ends, in_phase, is_visited, keeps, read_begun, reader_of, sends_more, validated_by, visiting}
use Rattle.mega_lease_laws.specs.of_run_laws.of_tape_laws.of_promises.of_rules.Steps.{Heard as HeardBy, acts_in_turn, all_act, does_due, hears_message, is_out, last_answer, new_operation, ticked, unless_refused}
use Rattle.mega_lease_laws.specs.of_run_laws.of_tape_laws.Places.{Took}
use Rattle.mega_lease_laws.specs.of_run_laws.of_tape_laws.Lawful.{message}
use Rattle.mega_lease_laws.specs.of_run_laws.of_tape_laws.Polls.{IsPolled}
use Rattle.mega_lease_laws.specs.of_run_laws.Justified.{Each}
use Rattle.mega_lease_laws.proofs.of_run_laws.Prefixes.{IsDecided, prefix_decided}
use Rattle.mega_lease_laws.proofs.of_run_laws.Sending.{Stood}
use Rattle.mega_lease_laws.proofs.of_run_laws.Turns.{IsRising, each_on, each_push}
use Rattle.mega_valid_laws.specs.of_settled_laws.Covering.{Earlier}
use Rattle.mega_lease_laws.proofs.of_run_laws.Events.{each_append as each_both}
use Rattle.mega_valid_laws.proofs.of_settled_laws.Tapes.{earlier_stood, then_later}
use Rattle.mega_valid_laws.proofs.of_settled_laws.Turns.{numbers_apart}
use Rattle.mega_valid_laws.specs.Leases.{asks_end, has_polled, serving_on}
use Rattle.mega_leased_laws.proofs.Polls.{StagePolls, due_polls, hears_polls, no_tops, polled_on, seeks_polls, tops_on}
use Rattle.mega_valid_laws.proofs.of_settled_laws.Walk.{Walks, begun_it, caught, goes_on_it}
use Rattle.mega_leased_laws.proofs.Wheres.{EndsBody, EndsOf, falls_due_ends, hears_ends, polled_ends, seeks_ends, takes_ends, asks_ends, due_ends}

-- ---- messages that ask where a log ends

abbrev pub polls_in : List Message → OpId → GroupId → Bool
polls_in [] op group = false
polls_in (m ∷ ms) op group = asks_end op group m.body || polls_in ms op group

pub polls_both : (xs ys : List Message) (op : OpId) (group : GroupId) → polls_in xs op group ≡ false → polls_in ys op group ≡ false → polls_in (xs ++ ys) op group ≡ false
polls_both [] ys op group h k = k
polls_both (m ∷ xs) ys op group h k = let parts = or_parts (asks_end op group m.body) (polls_in xs op group) h in
    or_from (asks_end op group m.body) (polls_in (xs ++ ys) op group) parts.0 (polls_both xs ys op group parts.1 k)

-- of this operation, whatever the group
abbrev pub OpBody : OpId → Body → Type 0
OpBody op (Where asking group) = asking ≡ op
OpBody op _ = Unit {0}

abbrev pub OfOne : OpId → Message → Type 0
OfOne op m = OpBody op m.body

pub ends_one : (op : OpId) (group : GroupId) (ms : List Message) → Each (EndsOf op group) ms → Each (OfOne op) ms
ends_one op group ms h = each_on (EndsOf op group) (OfOne op) (λ m e. by m.body e) ms h
  where
    by : (body : Body) → EndsBody op group body → OpBody op body
    by (Where asking g) e = e.0
    by _ e = tt

-- another operation's messages ask nothing for this one
polls_apart : (op x : OpId) (g : GroupId) (ms : List Message) → same_op op x ≡ false → Each (OfOne op) ms → polls_in ms x g ≡ false
polls_apart op x g [] apart h = refl
polls_apart op x g (m ∷ ms) apart h = or_from (asks_end x g m.body) (polls_in ms x g) (by m.body h.0) (polls_apart op x g ms apart h.1)
  where
    by : (body : Body) → OpBody op body → asks_end x g body ≡ false
    by (Where asking group) is = and_left (same_op asking x) (same_group group g) (ap (λ y. same_op y x) is ∙ apart)
    by _ is = refl

-- nor those about another group for this one
polls_elsewhere : (op : OpId) (group g : GroupId) (ms : List Message) → same_group group g ≡ false → Each (EndsOf op group) ms → polls_in ms op g ≡ false
polls_elsewhere op group g [] apart h = refl
polls_elsewhere op group g (m ∷ ms) apart h = or_from (asks_end op g m.body) (polls_in ms op g) (by m.body h.0) (polls_elsewhere op group g ms apart h.1)
  where
    by : (body : Body) → EndsBody op group body → asks_end op g body ≡ false
    by (Where asking other) is = and_right (same_op asking op) (same_group other g) (ap (λ y. same_group y g) is.1 ∙ apart)
    by _ is = refl

-- a message of this node: where it asks, it is of an operation with a lower number
abbrev pub OwnBody : ℕ → ℕ → Body → Type 0
OwnBody me k (Where op group) = (op.node.0 ≡ me) × (op.number < k)
OwnBody me k _ = Unit {0}

abbrev pub Own : ℕ → ℕ → Message → Type 0
Own me k m = OwnBody me k m.body

own_more : (me k l : ℕ) → k ≤ l → (m : Message) → Own me k m → Own me l m
own_more me k l le m o = by m.body o
  where
    by : (body : Body) → OwnBody me k body → OwnBody me l body
    by (Where op group) h = (h.0, (let less = h.1 in omega (arith, less, le)))
    by _ h = tt

own_one : (me k : ℕ) (op : OpId) → op.node.0 ≡ me → op.number < k → (m : Message) → OfOne op m → Own me k m
own_one me k op node below m h = by m.body h
  where
    by : (body : Body) → OpBody op body → OwnBody me k body
    by (Where asking group) is = (ap (λ (x : OpId). x.node.0) is ∙ node, subst (λ (x : OpId). x.number < k) (sym is) below)
    by _ is = tt

less_not : (a b : ℕ) → a < b → a ≡ b → ⊥
less_not a b less same = omega (arith, less, same)

-- messages of operations with lower numbers ask nothing for a later one
below_silent : (me k : ℕ) (x : OpId) (g : GroupId) (ms : List Message) → k ≤ x.number → Each (Own me k) ms → polls_in ms x g ≡ false
below_silent me k x g [] le own = refl
below_silent me k x g (m ∷ ms) le own = or_from (asks_end x g m.body) (polls_in ms x g) (by m.body own.0) (below_silent me k x g ms le own.1)
  where
    by : (body : Body) → OwnBody me k body → asks_end x g body ≡ false
    by (Where op group) h = and_left (same_op op x) (same_group group g) (numbers_apart op x (less_not op.number x.number (let less = h.1 in omega (arith, less, le))))
    by _ h = refl

-- ---- groups that were read

abbrev pub seen : List GroupId → GroupId → Bool
seen visited group = list_any (same_group group) visited

pub seen_before : (visited : List GroupId) (group g : GroupId) → seen (visited ++ group ∷ []) g ≡ false → (seen visited g ≡ false) × (same_group g group ≡ false)
seen_before [] group g h = (refl, (or_parts (same_group g group) false h).0)
seen_before (one ∷ visited) group g h =
    let parts = or_parts (same_group g one) (seen (visited ++ group ∷ []) g) h in let rest = seen_before visited group g parts.1 in (or_from (same_group g one) (seen visited g) parts.0 rest.0, rest.1)

pub seen_now : (visited : List GroupId) (group : GroupId) → seen (visited ++ group ∷ []) group ≡ true
seen_now [] group = ap (λ t. t || false) (same_group_self group)
seen_now (one ∷ visited) group = by (same_group group one) (seen_now visited group)
  where
    by : (t : Bool) → seen (visited ++ group ∷ []) group ≡ true → (t || seen (visited ++ group ∷ []) group) ≡ true
    by true h = refl
    by false h = h

-- what was seen is not this one
pub not_seen : (visited : List GroupId) (group g : GroupId) → seen visited group ≡ true → seen visited g ≡ false → same_group group g ≡ false
not_seen visited group g h k = by (same_group group g) refl
  where
    by : (t : Bool) → same_group group g ≡ t → t ≡ false
    by false e = refl
    by true e = absurd (let clashing = sym h ∙ ap (seen visited) (same_group_equal group g e) ∙ k in cc)

pub apart_turned : (group g : GroupId) → same_group g group ≡ false → same_group group g ≡ false
apart_turned group g h = by (same_group group g) refl
  where
    by : (t : Bool) → same_group group g ≡ t → t ≡ false
    by false e = refl
    by true e = absurd (let clashing = sym (same_group_self g) ∙ ap (same_group g) (sym (same_group_equal group g e)) ∙ h in cc)

-- ---- what an operation knows

-- a poll of a group that began while this epoch served
pub record Began (tape : List Item) (me : ℕ) (op : OpId) (group : GroupId) (epoch : Epoch) : Type 0 where
  pub moment : List Item
  pub earlier : Earlier moment tape
  pub served : serving_on moment me ≡ Some epoch
  pub fresh : has_polled moment op group ≡ false

abbrev pub Noted : List Item → ℕ → OpId → GroupId → Option Epoch → Type 0
Noted tape me op group None = Unit {0}
Noted tape me op group (Some epoch) = Began tape me op group epoch

abbrev pub NotedAt : List Item → ℕ → OpId → List GroupId → GroupId → Option Epoch → Type 0
NotedAt tape me op visited group noted = (seen visited group ≡ true) × Noted tape me op group noted

abbrev pub PolledBy : Cluster → List Item → OpId → GroupId → Option Epoch → ℕ → Type 0
PolledBy c tape op group None p = Unit {0}
PolledBy c tape op group (Some epoch) p = IsPolled c tape op group (record { 0 = p })

abbrev pub Through : Cluster → List Item → ℕ → OpId → List GroupId → GroupId → Option Epoch → ℕ → Type 0
Through c tape me op visited group noted p = NotedAt tape me op visited group noted × PolledBy c tape op group noted p

pub polled_through : (c : Cluster) (tape : List Item) (me : ℕ) (op : OpId) (visited : List GroupId) (group : GroupId) (noted : Option Epoch) (p : ℕ)
    → NotedAt tape me op visited group noted → IsPolled c tape op group (record { 0 = p }) → Through c tape me op visited group noted p
polled_through c tape me op visited group None p n h = (n, tt)
polled_through c tape me op visited group (Some epoch) p n h = (n, h)

abbrev pub PhaseKnows : Cluster → List Item → ℕ → OpId → List GroupId → Phase → Type 0
PhaseKnows c tape me op visited (Reads group r) = StagePolls c tape op group (NotedAt tape me op visited group) (Through c tape me op visited group) (polled_through c tape me op visited group) r.noted r.stage
PhaseKnows c tape me op visited (Proposes group n asked proposal promised) = Unit {0}

-- it asked no group, and is about to ask none, that it does not read
abbrev pub Quiet : List Item → List Message → OpId → List GroupId → Type 0
Quiet tape sends op visited = (g : GroupId) → seen visited g ≡ false → (has_polled tape op g ≡ false) × (polls_in sends op g ≡ false)

-- ---- on a longer tape

began_on : (old new : List Item) (me : ℕ) (op : OpId) (group : GroupId) (noted : Option Epoch) → Earlier old new → Noted old me op group noted → Noted new me op group noted
began_on old new me op group None later h = tt
began_on old new me op group (Some epoch) later h = record { moment = h.moment; earlier = then_later h.moment old new h.earlier later; served = h.served; fresh = h.fresh }

polled_by_on : (c : Cluster) (old new : List Item) (op : OpId) (group : GroupId) (noted : Option Epoch) (p : ℕ) → Stood old new → PolledBy c old op group noted p → PolledBy c new op group noted p
polled_by_on c old new op group None p s h = tt
polled_by_on c old new op group (Some epoch) p s h = polled_on c old new op group (record { 0 = p }) s h

pub phase_on : (c : Cluster) (old new : List Item) (me : ℕ) (op : OpId) (visited : List GroupId) (phase : Phase) → Earlier old new → PhaseKnows c old me op visited phase → PhaseKnows c new me op visited phase
phase_on c old new me op visited (Proposes group n asked proposal promised) later k = tt
phase_on c old new me op visited (Reads group r) later k = by r.noted r.stage k
  where
    by : (noted : Option Epoch) (stage : Stage) → StagePolls c old op group (NotedAt old me op visited group) (Through c old me op visited group) (polled_through c old me op visited group) noted stage
        → StagePolls c new op group (NotedAt new me op visited group) (Through c new me op visited group) (polled_through c new me op visited group) noted stage
    by noted (Polling heard best at) k = ((k.0.0, began_on old new me op group noted later k.0.1), tops_on c old new op group heard best (earlier_stood old new later) k.1)
    by noted (Catching through search) k = ((k.0.0, began_on old new me op group noted later k.0.1), polled_by_on c old new op group noted through (earlier_stood old new later) k.1)

-- ---- what a node holds within a step

-- behind its first notes it only validates: nothing of these changes
pub record Same (c : Cluster) (base met : List Met) : Type 0 where
  pub serves : serves_at c met ≡ serves_at c base
  pub beaten : (g : GroupId) → beaten (start_of met) c.cells (coordinator_calls c met) g ≡ beaten (start_of base) c.cells (coordinator_calls c base) g
  pub decided : (g : GroupId) (n : ℕ) → decided met g n ≡ decided base g n

-- a validate was allowed
pub record MayNote (c : Cluster) (tape : List Item) (me : ℕ) (base : List Met) (group : GroupId) (p : ℕ) : Type 0 where
  pub epoch : Epoch
  pub serves : serves_at c base ≡ Some epoch
  pub op : OpId
  pub began : Began tape me op group epoch
  pub polled : IsPolled c tape op group (record { 0 = p })
  pub has : (p ≡ 0) ⊎ IsDecided base group p
  pub above : beaten (start_of base) c.cells (coordinator_calls c base) group ≤ p

abbrev pub ValidNote : Cluster → List Item → ℕ → List Met → Met → Type 0
ValidNote c tape me base (Validates group p) = MayNote c tape me base group p
ValidNote c tape me base _ = ⊥

validate_same : (c : Cluster) (base met : List Met) (group : GroupId) (p : ℕ) → Same c base met → Same c base (Validates group p ∷ met)
validate_same c base met group p h = record { serves = serves_by (serves_at c met) ∙ h.serves; beaten = λ g. beaten_by (serves_at c met) g ∙ h.beaten g; decided = h.decided }
  where
    serves_by : (o : Option Epoch) → serving (start_of met) c.cells (validated group p o ++ coordinator_calls c met) ≡ serves_at c met
    serves_by None = refl
    serves_by (Some epoch) = refl

    beaten_by : (o : Option Epoch) (g : GroupId) → beaten (start_of met) c.cells (validated group p o ++ coordinator_calls c met) g ≡ beaten (start_of met) c.cells (coordinator_calls c met) g
    beaten_by None g = refl
    beaten_by (Some epoch) g = refl

-- what is not refused
record Lawful (now : Option Epoch) (least p : ℕ) (noted : Epoch) : Type 0 where
  serves : now ≡ Some noted
  above : least ≤ p

not_less : (p least : ℕ) → nat_lt p least ≡ false → least ≤ p
not_less p least h = grind (arith, nat_tests)

refused_not : (now : Option Epoch) (least p : ℕ) (noted : Epoch) → not_valid now least p noted ≡ None → Lawful now least p noted
refused_not None least p noted h = cc
refused_not (Some e) least p noted h = by (is_same e noted) refl (nat_lt p least) refl h
  where
    by : (t : Bool) → is_same e noted ≡ t → (u : Bool) → nat_lt p least ≡ u → cond t (cond u (Some (Beaten (record { 0 = least }))) None) (Some (OtherEpoch e)) ≡ None → Lawful (Some e) least p noted
    by true same false less k = record { serves = ap Some (same_is e noted same); above = not_less p least less }
    by true same true less k = cc
    by false same u less k = cc

not_above : (p most : ℕ) → nat_le p most ≡ true → p ≤ most
not_above p most h = grind (arith, nat_tests)

-- an operation that stays open, with a number below this one
pub record OpenBelow (c : Cluster) (tape : List Item) (sends : List Message) (me k : ℕ) (o : Operation) : Type 0 where
  pub node : (o.id).node.0 ≡ me
  pub below : (o.id).number < k
  pub knows : PhaseKnows c tape me o.id o.visited o.phase
  pub quiet : Quiet tape sends o.id o.visited

-- those with lower numbers acted
pub record Acted (c : Cluster) (tape : List Item) (me : ℕ) (base : List Met) (k : ℕ) (now : Now) : Type 0 where
  pub same : Same c base now.met
  pub valid : Each (ValidNote c tape me base) now.valid
  pub kept : Each (OpenBelow c tape now.sends me k) now.kept
  pub own : Each (Own me k) now.sends

-- and one acts
pub record Busy (c : Cluster) (tape : List Item) (me : ℕ) (base : List Met) (now : Now) (op : OpId) (visited : List GroupId) : Type 0 where
  pub same : Same c base now.met
  pub valid : Each (ValidNote c tape me base) now.valid
  pub kept : Each (OpenBelow c tape now.sends me op.number) now.kept
  pub own : Each (Own me (op.number + 1)) now.sends
  pub node : op.node.0 ≡ me
  pub quiet : Quiet tape now.sends op visited

kept_more : (c : Cluster) (tape : List Item) (sends : List Message) (me k l : ℕ) → k ≤ l → (o : Operation) → OpenBelow c tape sends me k o → OpenBelow c tape sends me l o
kept_more c tape sends me k l le o h = record { node = h.node; below = (let less = h.below in omega (arith, less, le)); knows = h.knows; quiet = h.quiet }

next_of : (n : ℕ) → n < n + 1
next_of n = omega arith

next_most : (n : ℕ) → n ≤ n + 1
next_most n = omega arith

-- those that acted before one that sends
kept_sends : (c : Cluster) (tape : List Item) (sends ms : List Message) (me k : ℕ) (op : OpId) → k ≤ op.number → Each (OfOne op) ms → (os : List Operation) → Each (OpenBelow c tape sends me k) os → Each (OpenBelow c tape (sends ++ ms) me op.number) os
kept_sends c tape sends ms me k op le of os h = each_on (OpenBelow c tape sends me k) (OpenBelow c tape (sends ++ ms) me op.number) (λ o kept. record {
  node = kept.node;
  below = (let less = kept.below in omega (arith, less, le));
  knows = kept.knows;
  quiet = λ g unseen. let was = kept.quiet g unseen in
      (was.0, polls_both sends ms o.id g was.1 (polls_apart op o.id g ms (numbers_apart op o.id (λ same. less_not (o.id).number op.number (let less = kept.below in omega (arith, less, le)) (sym same))) of));
}) os h

module _ (c : Cluster) (tape : List Item) (me : ℕ) (base : List Met) where
  acts_keeps : (now : Now) (o : Operation) → Busy c tape me base now o.id o.visited → PhaseKnows c tape me o.id o.visited o.phase → Acted c tape me base ((o.id).number + 1) (keeps now o)
  acts_keeps now o a k = record {
    same = a.same;
    valid = a.valid;
    kept = each_push (OpenBelow c tape now.sends me ((o.id).number + 1)) now.kept o
        (each_on (OpenBelow c tape now.sends me (o.id).number) (OpenBelow c tape now.sends me ((o.id).number + 1)) (kept_more c tape now.sends me (o.id).number ((o.id).number + 1) (next_most (o.id).number)) now.kept a.kept)
        (record { node = a.node; below = next_of (o.id).number; knows = k; quiet = a.quiet });
    own = a.own;
  }

  acts_ends : (now : Now) (op : OpId) (visited : List GroupId) (answer : Answer) → Busy c tape me base now op visited → Acted c tape me base (op.number + 1) (ends now op answer)
  acts_ends now op visited answer a = record {
    same = a.same;
    valid = a.valid;
    kept = each_on (OpenBelow c tape now.sends me op.number) (OpenBelow c tape now.sends me (op.number + 1)) (kept_more c tape now.sends me op.number (op.number + 1) (next_most op.number)) now.kept a.kept;
    own = a.own;
  }

  -- it sends messages of its own
  acts_sends : (now : Now) (op : OpId) (visited then : List GroupId) (ms : List Message) → Busy c tape me base now op visited → Each (OfOne op) ms → ((g : GroupId) → seen then g ≡ false → (seen visited g ≡ false) × (polls_in ms op g ≡ false))
      → Busy c tape me base (sends_more now ms) op then
  acts_sends now op visited then ms a of silent = record {
    same = a.same;
    valid = a.valid;
    kept = kept_sends c tape now.sends ms me op.number op (omega arith) of now.kept a.kept;
    own = each_both (Own me (op.number + 1)) now.sends ms a.own (each_on (OfOne op) (Own me (op.number + 1)) (own_one me (op.number + 1) op a.node (next_of op.number)) ms of);
    node = a.node;
    quiet = λ g unseen. let parts = silent g unseen in let was = a.quiet g parts.0 in (was.0, polls_both now.sends ms op g was.1 parts.1);
  }

  -- of a group that it read before
  acts_reads : (now : Now) (op : OpId) (visited : List GroupId) (group : GroupId) (ms : List Message) → Busy c tape me base now op visited → seen visited group ≡ true → Each (EndsOf op group) ms → Busy c tape me base (sends_more now ms) op visited
  acts_reads now op visited group ms a was ends_at = acts_sends now op visited visited ms a (ends_one op group ms ends_at) (λ g unseen. (unseen, polls_elsewhere op group g ms (not_seen visited group g was unseen) ends_at))

  acts_visits : (now : Now) (op : OpId) (visited : List GroupId) (group : GroupId) (ms : List Message) → Busy c tape me base now op visited → Each (EndsOf op group) ms → Busy c tape me base (sends_more now ms) op (visited ++ group ∷ [])
  acts_visits now op visited group ms a ends_at = acts_sends now op visited (visited ++ group ∷ []) ms a (ends_one op group ms ends_at)
      (λ g unseen. let parts = seen_before visited group g unseen in (parts.0, polls_elsewhere op group g ms (apart_turned group g parts.1) ends_at))

-- an open operation of a node, on a tape
pub record OpenAt (c : Cluster) (tape : List Item) (me : ℕ) (o : Operation) : Type 0 where
  pub node : (o.id).node.0 ≡ me
  pub knows : PhaseKnows c tape me o.id o.visited o.phase
  pub quiet : Quiet tape [] o.id o.visited

seen_phase : (c : Cluster) (tape : List Item) (me : ℕ) (op : OpId) (visited : List GroupId) (group : GroupId) (noted : Option Epoch) (stage : Stage)
    → StagePolls c tape op group (NotedAt tape me op visited group) (Through c tape me op visited group) (polled_through c tape me op visited group) noted stage → seen visited group ≡ true
seen_phase c tape me op visited group noted (Polling heard best at) k = k.0.0
seen_phase c tape me op visited group noted (Catching through search) k = k.0.0

-- `tape` is behind the first notes of the step, and shows which epoch serves there
module _ (s : Setting) (tape : List Item) (base : List Met) (shows : (e : Epoch) → serves_at s.cluster base ≡ Some e → serving_on tape s.me ≡ Some e) where
  abbrev pub ActsAt : Now → Operation → Type 0
  ActsAt now o = Busy s.cluster tape s.me base now o.id o.visited × PhaseKnows s.cluster tape s.me o.id o.visited o.phase

  abbrev pub ActedAt : OpId → Now → Type 0
  ActedAt op now = Acted s.cluster tape s.me base (op.number + 1) now

  abbrev pub BeginsAt : OpId → Now → Type 0
  BeginsAt op now = Busy s.cluster tape s.me base now op []

  -- ---- a read that is complete

  stores_busy : (now : Now) (stored : GroupId → ℕ) (op : OpId) (visited : List GroupId) → Busy s.cluster tape s.me base now op visited
      → Busy s.cluster tape s.me base (record { met = now.met; stored = stored; kept = now.kept; valid = now.valid; answers = now.answers; sends = now.sends }) op visited
  stores_busy now stored op visited a = record { same = a.same; valid = a.valid; kept = a.kept; own = a.own; node = a.node; quiet = a.quiet }

  has_prefix : (now : Now) (group : GroupId) (p : ℕ) → Same s.cluster base now.met → nat_le p (prefix_of now.met group) ≡ true → (p ≡ 0) ⊎ IsDecided base group p
  has_prefix now group zero same all = inl refl
  has_prefix now group (suc p) same all = inr (let d = prefix_decided now.met group (suc p) (omega arith) (not_above (suc p) (prefix_of now.met group) all) in record { entry = d.entry; is = sym (same.decided group (suc p)) ∙ d.is })

  validates_busy : (now : Now) (group : GroupId) (p : ℕ) (noted : Epoch) (refusal : Option NotValid) (op : OpId) (visited : List GroupId) → refused_at s.cluster now.met group p noted ≡ refusal → nat_le p (prefix_of now.met group) ≡ true
      → Through s.cluster tape s.me op visited group (Some noted) p → Busy s.cluster tape s.me base now op visited → Busy s.cluster tape s.me base (validated_by now group p refusal) op visited
  validates_busy now group p noted (Some why) op visited is all through a = a
  validates_busy now group p noted None op visited is all through a = record {
    same = validate_same s.cluster base now.met group p a.same;
    valid = each_both (ValidNote s.cluster tape s.me base) now.valid (Validates group p ∷ []) a.valid (
      record {
        epoch = noted;
        serves = sym (a.same).serves ∙ lawful.serves;
        op = op;
        began = through.0.1;
        polled = through.1;
        has = has_prefix now group p a.same all;
        above = subst (λ least. least ≤ p) ((a.same).beaten group) lawful.above;
      },
      tt,
    );
    kept = a.kept;
    own = a.own;
    node = a.node;
    quiet = a.quiet;
  }
    where
      lawful : Lawful (serves_at s.cluster now.met) (beaten (start_of now.met) (s.cluster).cells (coordinator_calls s.cluster now.met) group) p noted
      lawful = refused_not (serves_at s.cluster now.met) (beaten (start_of now.met) (s.cluster).cells (coordinator_calls s.cluster now.met) group) p noted is

  completes_acts : (now : Now) (o : Operation) (group : GroupId) (noted : Option Epoch) (asked : List ℕ) (p : ℕ) (search : Option Search) → nat_le p (prefix_of now.met group) ≡ true
      → ActsAt now (in_phase o (Reads group (record { noted = noted; asked = asked; stage = Catching p search })))
      → ActsAt (completes_read s now group (record { noted = noted; asked = asked; stage = Catching p search }) p) (in_phase o (Reads group (record { noted = noted; asked = asked; stage = Catching p search })))
  completes_acts now o group None asked p search all a = (stores_busy now _ o.id o.visited a.0, a.1)
  completes_acts now o group (Some noted) asked p search all a = (validates_busy _ group p noted (refused_at s.cluster now.met group p noted) o.id o.visited refl all a.1 (stores_busy now _ o.id o.visited a.0), a.1)

  -- ---- a read that begins

  visits_acts : (now : Now) (o : Operation) (asked : List ℕ) (group : GroupId) (message : Option Enter) → Busy s.cluster tape s.me base now o.id o.visited
      → ActsAt (sends_more now (read_begun s now o group asked).sends) (visiting o group message (read_begun s now o group asked))
  visits_acts now o asked group message a = by (is_visited o group) refl (valid_at s.cluster now.met group)
    where
      where_to_ends : (noted : Option Epoch) → Busy s.cluster tape s.me base (sends_more now (polled_read (reader_of s o.id group) noted asked (clock_of now.met)).sends) o.id (o.visited ++ group ∷ [])
      where_to_ends noted = acts_visits s.cluster tape s.me base now o.id o.visited group _ a (polled_ends (reader_of s o.id group) noted asked (clock_of now.met))

      begins : is_visited o group ≡ false → (noted : Option Epoch) → serves_at s.cluster now.met ≡ noted → Noted tape s.me o.id group noted
      begins unseen None is = tt
      begins unseen (Some e) is = record {
        moment = tape;
        earlier = record { later = []; is = refl };
        served = shows e (sym (a.same).serves ∙ is);
        fresh = (a.quiet group unseen).0;
      }

      by : (t : Bool) → is_visited o group ≡ t → (u : Bool) → let read = cond {A = ReadMove} t (polled_read (reader_of s o.id group) None asked (clock_of now.met))
          (cond u (local_read asked (top_of now.met group)) (polled_read (reader_of s o.id group) (serves_at s.cluster now.met) asked (clock_of now.met))) in ActsAt (sends_more now read.sends) (visiting o group message read)
      by true e u = (where_to_ends None, ((seen_now o.visited group, tt), no_tops s.cluster tape o.id group))
      by false e true = (acts_visits s.cluster tape s.me base now o.id o.visited group [] a tt, ((seen_now o.visited group, tt), tt))
      by false e false = (where_to_ends (serves_at s.cluster now.met), ((seen_now o.visited group, begins e (serves_at s.cluster now.met) refl), no_tops s.cluster tape o.id group))

  -- ---- its moves

  walks : Walks s BeginsAt ActedAt ActsAt
  walks = record {
    keeps_it = λ now o a. acts_keeps s.cluster tape s.me base now o a.0 a.1;
    ends_it = λ now o answer a. acts_ends s.cluster tape s.me base now o.id o.visited answer a.0;
    completes_it = completes_acts;
    seeks_it = λ now o group r least a. (
      acts_reads s.cluster tape s.me base now o.id o.visited group _ a.0 (seen_phase s.cluster tape s.me o.id o.visited group r.noted r.stage a.1) (seeks_ends (reader_of s o.id group) r least (clock_of now.met)),
      seeks_polls s.cluster tape o.id group (NotedAt tape s.me o.id o.visited group) (Through s.cluster tape s.me o.id o.visited group) (polled_through s.cluster tape s.me o.id o.visited group) r least (clock_of now.met) a.1,
    );
    asks_it = λ now o group noted asked p search leader own promised a. (
      acts_reads s.cluster tape s.me base now o.id o.visited group _ a.0 (seen_phase s.cluster tape s.me o.id o.visited group noted (Catching p search) a.1)
          (asks_ends o.id group (site (reader_of s o.id group) (asked_by (caught noted asked p search)) (p + 1)) leader own (clock_of now.met)),
      tt,
    );
    visits_it = λ now o before r group message a. visits_acts now (in_phase o (Reads before r)) (asked_by r) group message a.0;
    first_it = λ now id request clock group message b. visits_acts now (new_operation id request clock) [] group message b;
    ends_first = λ now id answer b. acts_ends s.cluster tape s.me base now id [] answer b;
  }

  -- ---- one after another

  -- an operation that heard something, before its messages go out
  pub record Heeds (t : HeardBy) : Type 0 where
    pub node : ((t.operation).id).node.0 ≡ s.me
    pub knows : PhaseKnows s.cluster tape s.me (t.operation).id (t.operation).visited (t.operation).phase
    pub quiet : Quiet tape t.sends (t.operation).id (t.operation).visited
    pub ones : Each (OfOne (t.operation).id) t.sends

  acts_first : (k : ℕ) (now : Now) (t : HeardBy) → k ≤ ((t.operation).id).number → Acted s.cluster tape s.me base k now → Heeds t → ActsAt (sends_more now t.sends) t.operation
  acts_first k now t le a h = (
    record {
      same = a.same;
      valid = a.valid;
      kept = kept_sends s.cluster tape now.sends t.sends s.me k op le h.ones now.kept a.kept;
      own = each_both (Own s.me (op.number + 1)) now.sends t.sends (each_on (Own s.me k) (Own s.me (op.number + 1)) (own_more s.me k (op.number + 1) (omega (arith, le))) now.sends a.own)
          (each_on (OfOne op) (Own s.me (op.number + 1)) (own_one s.me (op.number + 1) op h.node (next_of op.number)) t.sends h.ones);
      node = h.node;
      quiet = λ g unseen. let was = h.quiet g unseen in (was.0, polls_both now.sends t.sends op g (below_silent s.me k op g now.sends le a.own) was.1);
    },
    h.knows,
  )
    where
      op : OpId
      op = (t.operation).id

  turn_acted : (k : ℕ) (now : Now) (t : HeardBy) → k ≤ ((t.operation).id).number → Acted s.cluster tape s.me base k now → Heeds t → Acted s.cluster tape s.me base (((t.operation).id).number + 1) (acts_in_turn s now t)
  turn_acted k now t le a h = goes_on_it s BeginsAt ActedAt ActsAt walks (sends_more now t.sends) t.operation (acts_first k now t le a h)

  -- those of a list acted, and all numbers are below some number
  pub record AllActed (now : Now) : Type 0 where
    pub k : ℕ
    pub acted : Acted s.cluster tape s.me base k now

  abbrev pub Opens : Operation → Type 0
  Opens o = OpenAt s.cluster tape s.me o

  -- ---- hearing

  silent_for : (op : OpId) (visited : List GroupId) (group : GroupId) (ms : List Message) → seen visited group ≡ true → Each (EndsOf op group) ms → Quiet tape [] op visited → Quiet tape ms op visited
  silent_for op visited group ms was ends_at quiet g unseen = ((quiet g unseen).0, polls_elsewhere op group g ms (not_seen visited group g was unseen) ends_at)

  -- a round asks nothing, whatever the group
  round_silent : (op : OpId) (visited : List GroupId) (ms : List Message) → ((group : GroupId) → Each (EndsOf op group) ms) → Quiet tape [] op visited → Quiet tape ms op visited
  round_silent op visited ms ends_at quiet g unseen = ((quiet g unseen).0, polls_none ms (λ group. ends_at group))
    where
      apart_key : (group : GroupId) → same_group (record { key = 0 ∷ group.key }) group ≡ false
      apart_key group = by (same_group (record { key = 0 ∷ group.key }) group) refl
        where
          by : (t : Bool) → same_group (record { key = 0 ∷ group.key }) group ≡ t → t ≡ false
          by false e = refl
          by true e = absurd (longer group.key (ap (λ (x : GroupId). x.key) (same_group_equal (record { key = 0 ∷ group.key }) group e)))
            where
              longer : (xs : List ℕ) → 0 ∷ xs ≡ xs → ⊥
              longer xs same = let e = ap length same in omega (arith, e)

      polls_none : (ms : List Message) → ((group : GroupId) → Each (EndsOf op group) ms) → polls_in ms op g ≡ false
      polls_none ms at = polls_elsewhere op (record { key = 0 ∷ g.key }) g ms (apart_key g) (at (record { key = 0 ∷ g.key }))

  heard_by : (clock : ℕ) (m : Message) (o : Operation) (phase : Phase) → (o.id).node.0 ≡ s.me → PhaseKnows s.cluster tape s.me o.id o.visited phase → Quiet tape [] o.id o.visited → Took tape (message m.from (o.id).node.0 m.body)
      → Heeds (hears_message s clock m (record { id = o.id; request = o.request; began = o.began; visited = o.visited; message = o.message; phase = phase }))
  heard_by clock m o (Reads group r) node k quiet took = record {
    node = node;
    knows = hears_polls s.cluster tape o.id group (NotedAt tape s.me o.id o.visited group) (Through s.cluster tape s.me o.id o.visited group) (polled_through s.cluster tape s.me o.id o.visited group) r m.from clock m.body k took;
    quiet = silent_for o.id o.visited group _ (seen_phase s.cluster tape s.me o.id o.visited group r.noted r.stage k) (hears_ends (reader_of s o.id group) r m.from clock m.body) quiet;
    ones = ends_one o.id group _ (hears_ends (reader_of s o.id group) r m.from clock m.body);
  }
  heard_by clock m o (Proposes group n asked proposal promised) node k quiet took = record {
    node = node;
    knows = tt;
    quiet = round_silent o.id o.visited _ (λ g. takes_ends o.id g (site (reader_of s o.id group) asked n) proposal m.from clock m.body) quiet;
    ones = ends_one o.id group _ (takes_ends o.id group (site (reader_of s o.id group) asked n) proposal m.from clock m.body);
  }

  hears_heeds : (clock : ℕ) (m : Message) (o : Operation) → Took tape (message m.from s.me m.body) → Opens o → Heeds (hears_message s clock m o)
  hears_heeds clock m o took h = heard_by clock m o o.phase h.node h.knows h.quiet (subst (λ to. Took tape (message m.from to m.body)) (sym h.node) took)

  due_by : (clock : ℕ) (o : Operation) (phase : Phase) → (o.id).node.0 ≡ s.me → PhaseKnows s.cluster tape s.me o.id o.visited phase → Quiet tape [] o.id o.visited
      → Heeds (does_due s clock (record { id = o.id; request = o.request; began = o.began; visited = o.visited; message = o.message; phase = phase }))
  due_by clock o (Reads group r) node k quiet = record {
    node = node;
    knows = due_polls s.cluster tape o.id group (NotedAt tape s.me o.id o.visited group) (Through s.cluster tape s.me o.id o.visited group) (polled_through s.cluster tape s.me o.id o.visited group) r (s.cluster).retry clock k;
    quiet = silent_for o.id o.visited group _ (seen_phase s.cluster tape s.me o.id o.visited group r.noted r.stage k) (falls_due_ends (reader_of s o.id group) r (s.cluster).retry clock) quiet;
    ones = ends_one o.id group _ (falls_due_ends (reader_of s o.id group) r (s.cluster).retry clock);
  }
  due_by clock o (Proposes group n asked proposal promised) node k quiet = record {
    node = node;
    knows = tt;
    quiet = round_silent o.id o.visited _ (λ g. due_ends o.id g (site (reader_of s o.id group) asked n) proposal (s.cluster).retry clock) quiet;
    ones = ends_one o.id group _ (due_ends o.id group (site (reader_of s o.id group) asked n) proposal (s.cluster).retry clock);
  }

  due_heeds : (clock : ℕ) (o : Operation) → Opens o → Heeds (does_due s clock o)
  due_heeds clock o h = due_by clock o o.phase h.node h.knows h.quiet

  -- an operation keeps its name as it hears, and as it does what is due
  heard_name : (clock : ℕ) (m : Message) (o : Operation) (phase : Phase)
      → ((hears_message s clock m (record { id = o.id; request = o.request; began = o.began; visited = o.visited; message = o.message; phase = phase })).operation).id ≡ o.id
  heard_name clock m o (Reads group r) = refl
  heard_name clock m o (Proposes group n asked proposal promised) = refl

  due_name : (clock : ℕ) (o : Operation) (phase : Phase)
      → ((does_due s clock (record { id = o.id; request = o.request; began = o.began; visited = o.visited; message = o.message; phase = phase })).operation).id ≡ o.id
  due_name clock o (Reads group r) = refl
  due_name clock o (Proposes group n asked proposal promised) = refl

  named_acted : (k : ℕ) (now : Now) (t : HeardBy) (id : OpId) → (t.operation).id ≡ id → k ≤ id.number → Acted s.cluster tape s.me base k now → Heeds t → Acted s.cluster tape s.me base (id.number + 1) (acts_in_turn s now t)
  named_acted k now t id same le a h = subst (λ (x : OpId). Acted s.cluster tape s.me base (x.number + 1) (acts_in_turn s now t)) same (turn_acted k now t (subst (λ (x : OpId). k ≤ x.number) (sym same) le) a h)

  pub all_heard_acted : (clock : ℕ) (m : Message) → Took tape (message m.from s.me m.body) → (os : List Operation) (k : ℕ) (now : Now) → IsRising k os → Each Opens os → Acted s.cluster tape s.me base k now
      → AllActed (all_act s now (map (hears_message s clock m) os))
  all_heard_acted clock m took [] k now rising opens a = record { k = k; acted = a }
  all_heard_acted clock m took (o ∷ os) k now rising opens a =
      all_heard_acted clock m took os ((o.id).number + 1) (acts_in_turn s now (hears_message s clock m o)) rising.1 opens.1
      (named_acted k now (hears_message s clock m o) o.id (heard_name clock m o o.phase) rising.0 a (hears_heeds clock m o took opens.0))

  out_acted : (k : ℕ) (now : Now) (o : Operation) (answer : Answer) → k ≤ (o.id).number → Acted s.cluster tape s.me base k now → Acted s.cluster tape s.me base ((o.id).number + 1) (ends now o.id answer)
  out_acted k now o answer le a = record {
    same = a.same;
    valid = a.valid;
    kept = each_on (OpenBelow s.cluster tape now.sends s.me k) (OpenBelow s.cluster tape now.sends s.me ((o.id).number + 1)) (kept_more s.cluster tape now.sends s.me k ((o.id).number + 1) (omega (arith, le))) now.kept a.kept;
    own = each_on (Own s.me k) (Own s.me ((o.id).number + 1)) (own_more s.me k ((o.id).number + 1) (omega (arith, le))) now.sends a.own;
  }

  ticked_acted : (clock k : ℕ) (now : Now) (o : Operation) → k ≤ (o.id).number → Acted s.cluster tape s.me base k now → Opens o → Acted s.cluster tape s.me base ((o.id).number + 1) (ticked s clock now o)
  ticked_acted clock k now o le a h = by (is_out s clock o)
    where
      by : (t : Bool) → Acted s.cluster tape s.me base ((o.id).number + 1) (cond t (ends now o.id (last_answer o)) (acts_in_turn s now (does_due s clock o)))
      by true = out_acted k now o (last_answer o) le a
      by false = named_acted k now (does_due s clock o) o.id (due_name clock o o.phase) le a (due_heeds clock o h)

  pub all_ticked_acted : (clock : ℕ) (os : List Operation) (k : ℕ) (now : Now) → IsRising k os → Each Opens os → Acted s.cluster tape s.me base k now → AllActed (fold (ticked s clock) now os)
  all_ticked_acted clock [] k now rising opens a = record { k = k; acted = a }
  all_ticked_acted clock (o ∷ os) k now rising opens a =
      all_ticked_acted clock os ((o.id).number + 1) (ticked s clock now o) rising.1 opens.1 (ticked_acted clock k now o rising.0 a opens.0)

  -- ---- beginning

  pub begins_acted : (now : Now) (id : OpId) (request : Request) (clock : ℕ) (refusal : Option Answer) → (refusal ≡ None → BeginsAt id now) → ((answer : Answer) → AllActed (ends now id answer))
      → AllActed (unless_refused s now (new_operation id request clock) refusal)
  begins_acted now id request clock None b ended = record {
    k = id.number + 1;
    acted = begun_it s BeginsAt ActedAt ActsAt walks now id clock request None b (λ answer. acts_ends s.cluster tape s.me base now id [] answer (b refl));
  }
  begins_acted now id request clock (Some answer) b ended = ended answer

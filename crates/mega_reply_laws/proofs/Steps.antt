-- In a step each operation that was open, or begins, either stays open or is answered, in order; and nothing else is answered.
use Rattle.std.proofs.Common.{◌≡◌, ◌⊎◌, inl, inr, ℕ, ◌+◌, ◌-◌, ◌<◌, ◌≤◌, min, nat_le, Bool, true, false, cond, List, [], ◌∷◌, ◌++◌, filter, map, flat_map, fold, Option, Some, None, refl, sym, ap, ◌∙◌, subst, arith}
use Rattle.std.specs.List.{All}
use Rattle.std.proofs.lemmas.Bool.Decides.{nat_tests}
use Rattle.std.proofs.lemmas.List.{append_assoc, append-nil, map-append}
use Rattle.std.proofs.lemmas.List.Elements.{All-append, All-cons, All-head, All-nil, All-push, All-tail, All-weaker, filter-append}
use Rattle.mega_base.specs.declared.names.GroupId.{GroupId}
use Rattle.mega_base.specs.declared.names.OpId.{OpId}
use Rattle.mega_coordinator.specs.declared.answers.NotValid.{NotValid}
use Rattle.mega_wire.specs.declared.message.Message.{Message}
use Rattle.mega_outcome.specs.declared.answer.Answer.{Answer}
use Rattle.mega_outcome.specs.declared.answer.Answer.TheVariants.{Worn}
use Rattle.mega_outcome.specs.declared.request.Request.{Request}
use Rattle.mega_promises.specs.of_rules.Met.{Met, Answers, Begins, Sends, Starts, Takes, Ticks, Validates}
use Rattle.mega_promises.specs.of_rules.Acting.{validated_by}
use Rattle.mega_promises.specs.of_rules.Clock.{begun_of, clock_of, last_number}
use Rattle.mega_promises.specs.of_rules.Coordinators.{acquires_at}
use Rattle.mega_promises.specs.of_rules.Operations.{Node, Now, Operation, Setting}
use Rattle.mega_promises.specs.of_rules.Replies.{reply_to}
use Rattle.mega_promises.specs.of_rules.Steps.{Begin, Decision, Event, Heard, Step, Take, Tick, acts_in_turn, all_act, apply_notes, at_first, at_open, background, begin_step, decision_note, first_settled, hears_message, if_new, is_worn, lapse_notes, lease_notes, missing_kind, new_operation, news, onto, op_of, portion_of, refusal, step, step_of, stored_after, take_step, taken, tick_step, ticked, told_decision, told_notes, unless_missing, unless_refused}
use Rattle.mega_promises.specs.of_rules.Members.{kind_of}
use Rattle.mega_reply_laws.specs.Fates.{Ends, Fate, HaveFates, Stays, answering, id_of, ids, is_answer, op_in, open_at, staying}
use Rattle.mega_reply_laws.proofs.Plain.{IsPlain, applies_plain, both, decision_plain, lapses_plain, leases_plain, nothing, told_plain}
use Rattle.mega_reply_laws.proofs.Walk.{Walks, begun_it, heard_it, hears_id, ticked_it}

-- ---- what becomes of an operation in a step

-- while operations act: which of them are kept so far, and what is answered so far
pub record Sofar (kept : List OpId) (answers : List Met) (now : Now) : Type 0 where
  pub kept_are : ids now.kept ≡ kept
  pub answers_are : now.answers ≡ answers
  pub valid : All IsPlain now.valid

pub record Became (kept : List OpId) (answers : List Met) (op : OpId) (now : Now) : Type 0 where
  pub fate : Fate
  pub op_is : op_in fate ≡ op
  pub sofar : Sofar (kept ++ staying fate) (answers ++ answering fate) now

comes : (kept : List OpId) (answers : List Met) → Walks (Sofar kept answers) (Became kept answers)
comes kept answers = record {
  keeps_it = λ now o h. record {
    fate = Stays o.id;
    op_is = refl;
    sofar = record { kept_are = map-append id_of now.kept (o ∷ []) ∙ ap (λ those. those ++ o.id ∷ []) h.kept_are; answers_are = h.answers_are ∙ sym (append-nil answers); valid = h.valid };
  };
  ends_it = λ now op answer h. record {
    fate = Ends op answer;
    op_is = refl;
    sofar = record { kept_are = h.kept_are ∙ sym (append-nil kept); answers_are = ap (λ those. those ++ Answers op answer ∷ []) h.answers_are; valid = h.valid };
  };
  sends_it = λ now ms h. record { kept_are = h.kept_are; answers_are = h.answers_are; valid = h.valid };
  stores_it = λ now stored h. record { kept_are = h.kept_are; answers_are = h.answers_are; valid = h.valid };
  validates_it = λ now group p refusal h. validated now group p refusal h;
}
  where
    validated : (now : Now) (group : GroupId) (p : ℕ) (refusal : Option NotValid) → Sofar kept answers now → Sofar kept answers (validated_by now group p refusal)
    validated now group p None h = record { kept_are = h.kept_are; answers_are = h.answers_are; valid = All-push IsPlain now.valid (Validates group p) h.valid refl }
    validated now group p (Some refusal) h = h

-- ---- all of them act, one after another

pub record AllBecame (kept : List OpId) (answers : List Met) (ops : List OpId) (now : Now) : Type 0 where
  pub fates : List Fate
  pub ops_are : map op_in fates ≡ ops
  pub sofar : Sofar (kept ++ flat_map staying fates) (answers ++ flat_map answering fates) now

none_came : (kept : List OpId) (answers : List Met) (now : Now) → Sofar kept answers now → AllBecame kept answers [] now
none_came kept answers now h = record {
  fates = [];
  ops_are = refl;
  sofar = record { kept_are = h.kept_are ∙ sym (append-nil kept); answers_are = h.answers_are ∙ sym (append-nil answers); valid = h.valid };
}

one_more : (kept : List OpId) (answers : List Met) (op : OpId) (mid : Now) (ops : List OpId) (now : Now) (first : Became kept answers op mid)
    → AllBecame (kept ++ staying first.fate) (answers ++ answering first.fate) ops now → AllBecame kept answers (op ∷ ops) now
one_more kept answers op mid ops now first rest = record {
  fates = first.fate ∷ rest.fates;
  ops_are = λ i. first.op_is i ∷ rest.ops_are i;
  sofar = record {
    kept_are = (rest.sofar).kept_are ∙ append_assoc kept (staying first.fate) (flat_map staying rest.fates);
    answers_are = (rest.sofar).answers_are ∙ append_assoc answers (answering first.fate) (flat_map answering rest.fates);
    valid = (rest.sofar).valid;
  };
}

abbrev heard_op : Heard → OpId
heard_op t = (t.operation).id

all_heard : (s : Setting) (ts : List Heard) (kept : List OpId) (answers : List Met) (now : Now) → Sofar kept answers now → AllBecame kept answers (map heard_op ts) (all_act s now ts)
all_heard s [] kept answers now h = none_came kept answers now h
all_heard s (t ∷ ts) kept answers now h =
    let first = heard_it (Sofar kept answers) (Became kept answers) (comes kept answers) s now t h in
    one_more kept answers (heard_op t) (acts_in_turn s now t) (map heard_op ts) (all_act s (acts_in_turn s now t) ts) first
    (all_heard s ts (kept ++ staying first.fate) (answers ++ answering first.fate) (acts_in_turn s now t) first.sofar)

all_ticked : (s : Setting) (clock : ℕ) (os : List Operation) (kept : List OpId) (answers : List Met) (now : Now) → Sofar kept answers now → AllBecame kept answers (ids os) (fold (ticked s clock) now os)
all_ticked s clock [] kept answers now h = none_came kept answers now h
all_ticked s clock (o ∷ os) kept answers now h =
    let first = ticked_it (Sofar kept answers) (Became kept answers) (comes kept answers) s clock now o h in
    one_more kept answers o.id (ticked s clock now o) (ids os) (fold (ticked s clock) (ticked s clock now o) os) first
    (all_ticked s clock os (kept ++ staying first.fate) (answers ++ answering first.fate) (ticked s clock now o) first.sofar)

heard_ops : (s : Setting) (clock : ℕ) (m : Message) (os : List Operation) → map heard_op (map (hears_message s clock m) os) ≡ ids os
heard_ops s clock m [] = refl
heard_ops s clock m (o ∷ os) = λ i. hears_id s clock m o.id o.request o.began o.visited o.message o.phase i ∷ heard_ops s clock m os i

-- ---- what is noted leaves how many operations were begun

abbrev pub leaves_begun : Met → Bool
leaves_begun (Starts start) = false
leaves_begun (Begins op text) = false
leaves_begun _ = true

abbrev pub LeavesBegun : Met → Type 0
LeavesBegun one = leaves_begun one ≡ true

one_left : (one : Met) (met : List Met) → LeavesBegun one → begun_of (one ∷ met) ≡ begun_of met
one_left (Starts start) met h = cc
one_left (Begins op text) met h = cc
one_left _ met h = refl

pub begun_left : (items met : List Met) → All LeavesBegun items → begun_of (onto items met) ≡ begun_of met
begun_left [] met h = refl
begun_left (one ∷ items) met h = begun_left items (one ∷ met) (All-tail LeavesBegun one items h) ∙ one_left one met (All-head LeavesBegun one items h)

plain_leaves : (one : Met) → IsPlain one → LeavesBegun one
plain_leaves (Starts start) h = h
plain_leaves (Begins op text) h = h
plain_leaves _ h = refl

pub all_leave : (items : List Met) → All IsPlain items → All LeavesBegun items
all_leave [] h = All-nil LeavesBegun
all_leave (one ∷ items) h = All-cons LeavesBegun one items (plain_leaves one (All-head IsPlain one items h)) (all_leave items (All-tail IsPlain one items h))

answers_leave : (fates : List Fate) → All LeavesBegun (flat_map answering fates)
answers_leave [] = All-nil LeavesBegun
answers_leave (Stays op ∷ fates) = answers_leave fates
answers_leave (Ends op answer ∷ fates) = All-cons LeavesBegun (Answers op answer) (flat_map answering fates) refl (answers_leave fates)

sends_leave : (ms : List Message) → All LeavesBegun (map Sends ms)
sends_leave [] = All-nil LeavesBegun
sends_leave (m ∷ ms) = All-cons LeavesBegun (Sends m) (map Sends ms) refl (sends_leave ms)

-- ---- a step

-- of the operations that were open before, and one that begins, each has its fate; what it notes is plain, and behind it stand its answers
pub record LedOn (before : List OpId) (base : List Met) (made : Step) : Type 0 where
  pub fates : List Fate
  pub plain : List Met
  pub ops_are : map op_in fates ≡ before
  pub are_plain : All IsPlain plain
  pub open_are : ids made.node.open_operations ≡ flat_map staying fates
  pub notes_are : made.notes ≡ plain ++ flat_map answering fates
  pub begun : begun_of made.node.met ≡ begun_of base

went : (node : Node) (own : Met) (locks durable applies : List Met) (sends : List Message) (now : Now) (before : List OpId) → All IsPlain locks → All IsPlain durable → All IsPlain applies
    → AllBecame [] [] before now → LedOn before (own ∷ node.met) (step_of node own locks durable applies sends now)
went node own locks durable applies sends now before l d a came = record {
  fates = came.fates;
  plain = ((locks ++ durable) ++ applies) ++ now.valid;
  ops_are = came.ops_are;
  are_plain = noted;
  open_are = (came.sofar).kept_are;
  notes_are = ap (λ answers. (((locks ++ durable) ++ applies) ++ now.valid) ++ answers) (came.sofar).answers_are;
  begun = begun_left (map Sends sends) (onto ((((locks ++ durable) ++ applies) ++ now.valid) ++ now.answers) (own ∷ node.met)) (sends_leave sends)
      ∙ begun_left ((((locks ++ durable) ++ applies) ++ now.valid) ++ now.answers) (own ∷ node.met)
      (All-append LeavesBegun (((locks ++ durable) ++ applies) ++ now.valid) now.answers (all_leave (((locks ++ durable) ++ applies) ++ now.valid) noted)
      (subst (All LeavesBegun) (sym (came.sofar).answers_are) (answers_leave came.fates)));
}
  where
    noted : All IsPlain (((locks ++ durable) ++ applies) ++ now.valid)
    noted = both ((locks ++ durable) ++ applies) now.valid (both (locks ++ durable) applies (both locks durable l d) a) (came.sofar).valid

first_of : (met : List Met) (stored : GroupId → ℕ) → Sofar [] [] (at_first met stored)
first_of met stored = record { kept_are = refl; answers_are = refl; valid = nothing }

-- a tick, and a message
pub tick_went : (s : Setting) (node : Node) (now : ℕ) → LedOn (ids node.open_operations) (Ticks now ∷ node.met) (tick_step s node now)
tick_went s node now =
    went node (Ticks now) (lease_notes s node.met now) (lapse_notes s node.met now) (apply_notes s node.met node.stored acc.met acc.stored)
    ((acquires_at s.cluster s.me node.met now ++ acc.sends) ++ background s node.met now) acc (ids node.open_operations)
    (leases_plain s node.met now) (lapses_plain s node.met now) (applies_plain s node.met node.stored acc.met acc.stored)
    (all_ticked s now node.open_operations [] [] first (first_of met (portion_of s node.met node.stored)))
  where
    met : List Met
    met = onto (lapse_notes s node.met now) (onto (lease_notes s node.met now) (Ticks now ∷ node.met))

    first : Now
    first = at_first met (portion_of s node.met node.stored)

    acc : Now
    acc = fold (ticked s now) first node.open_operations

taken_went : (s : Setting) (node : Node) (m : Message) (ts : List Heard) (d : Option Decision) (told_news : List Message)
    → LedOn (map heard_op ts) (Takes m ∷ node.met) (taken s node m (told_notes s node.met m.from m.body) ts d (reply_to s.cluster s.me node.met m) told_news)
taken_went s node m ts d told_news =
    went node (Takes m) (told_notes s node.met m.from m.body) (decision_note d) (apply_notes s node.met node.stored now.met now.stored) ((reply_to s.cluster s.me node.met m ++ told_news) ++ now.sends) now (map heard_op ts)
    (told_plain s node.met m.from m.body) (decision_plain d) (applies_plain s node.met node.stored now.met now.stored)
    (all_heard s ts [] [] first (first_of met (stored_after s met node.stored d)))
  where
    met : List Met
    met = onto (decision_note d) (onto (told_notes s node.met m.from m.body) (Takes m ∷ node.met))

    first : Now
    first = at_first met (stored_after s met node.stored d)

    now : Now
    now = all_act s first ts

abbrev taken_by : Setting → Node → Message → List Heard → Option Decision → Step
taken_by s node m ts (Some d) = taken s node m (told_notes s node.met m.from m.body) ts (if_new node.met (Some d)) (reply_to s.cluster s.me node.met m) []
taken_by s node m ts None =
    taken s node m (told_notes s node.met m.from m.body) ts (if_new node.met (first_settled ts)) (reply_to s.cluster s.me node.met m)
    (news s (if_new node.met (first_settled ts)))

by_told : (s : Setting) (node : Node) (m : Message) (ts : List Heard) (told : Option Decision) → LedOn (map heard_op ts) (Takes m ∷ node.met) (taken_by s node m ts told)
by_told s node m ts (Some d) = taken_went s node m ts (if_new node.met (Some d)) []
by_told s node m ts None = taken_went s node m ts (if_new node.met (first_settled ts)) (news s (if_new node.met (first_settled ts)))

pub take_went : (s : Setting) (node : Node) (m : Message) → LedOn (ids node.open_operations) (Takes m ∷ node.met) (take_step s node m)
take_went s node m = subst (λ before. LedOn before (Takes m ∷ node.met) (take_step s node m)) (heard_ops s (clock_of node.met) m node.open_operations)
    (by_told s node m (map (hears_message s (clock_of node.met) m) node.open_operations) (told_decision m.body))

-- a begin: all that were open stay so, and the new operation stays or is answered at once
abbrev stay_all : List OpId → List Fate
stay_all ops = map Stays ops

stay_ops : (ops : List OpId) (fates : List Fate) → map op_in (stay_all ops ++ fates) ≡ ops ++ map op_in fates
stay_ops [] fates = refl
stay_ops (op ∷ ops) fates = ap (λ those. op ∷ those) (stay_ops ops fates)

stay_open : (ops : List OpId) (fates : List Fate) → flat_map staying (stay_all ops ++ fates) ≡ ops ++ flat_map staying fates
stay_open [] fates = refl
stay_open (op ∷ ops) fates = ap (λ those. op ∷ those) (stay_open ops fates)

stay_silent : (ops : List OpId) (fates : List Fate) → flat_map answering (stay_all ops ++ fates) ≡ flat_map answering fates
stay_silent [] fates = refl
stay_silent (op ∷ ops) fates = stay_silent ops fates

begin_came : (s : Setting) (open_ones : List Operation) (now : Now) (o : Operation) (refused : Option Answer) → Sofar (ids open_ones) [] now
    → Became (ids open_ones) [] o.id (unless_refused s now o refused)
begin_came s open_ones now o refused h = begun_it (Sofar (ids open_ones) []) (Became (ids open_ones) []) (comes (ids open_ones) []) s now o refused h

with_new : (open_ones : List OpId) (op : OpId) (now : Now) → Became open_ones [] op now → AllBecame [] [] (open_ones ++ op ∷ []) now
with_new open_ones op now came = record {
  fates = stay_all open_ones ++ came.fate ∷ [];
  ops_are = stay_ops open_ones (came.fate ∷ []) ∙ ap (λ one. open_ones ++ one ∷ []) came.op_is;
  sofar = record {
    kept_are = (came.sofar).kept_are ∙ ap (λ those. open_ones ++ those) (sym (append-nil (staying came.fate))) ∙ sym (stay_open open_ones (came.fate ∷ []));
    answers_are = (came.sofar).answers_are ∙ sym (append-nil (answering came.fate)) ∙ sym (stay_silent open_ones (came.fate ∷ []));
    valid = (came.sofar).valid;
  };
}

pub begin_went : (s : Setting) (node : Node) (request : Request) (text : List ℕ)
    → LedOn (ids node.open_operations ++ op_of s node.met ∷ []) (Begins (op_of s node.met) text ∷ node.met) (begin_step s node request text)
begin_went s node request text =
    went node own [] [] (apply_notes s node.met node.stored now.met now.stored) now.sends now (ids node.open_operations ++ op_of s node.met ∷ [])
    nothing nothing (applies_plain s node.met node.stored now.met now.stored)
    (with_new (ids node.open_operations) (op_of s node.met) now
    (begin_came s node.open_operations first (new_operation (op_of s node.met) request (clock_of node.met)) (refusal s node request) (record { kept_are = refl; answers_are = refl; valid = nothing })))
  where
    own : Met
    own = Begins (op_of s node.met) text

    first : Now
    first = at_open (at_first (own ∷ node.met) node.stored) node.open_operations

    now : Now
    now = unless_refused s first (new_operation (op_of s node.met) request (clock_of node.met)) (refusal s node request)

-- ---- numbers

abbrev pub IsBelow : ℕ → OpId → Type 0
IsBelow n op = op.number < n

abbrev pub IsWithin : ℕ → OpId → Type 0
IsWithin n op = op.number ≤ n

-- what holds of all the operations of a step holds of those that stay
staying_all : (P : OpId → Type 0) (fates : List Fate) → All P (map op_in fates) → All P (flat_map staying fates)
staying_all P [] h = All-nil P
staying_all P (Stays op ∷ fates) h = All-cons P op (flat_map staying fates) (All-head P op (map op_in fates) h) (staying_all P fates (All-tail P op (map op_in fates) h))
staying_all P (Ends op answer ∷ fates) h = staying_all P fates (All-tail P op (map op_in fates) h)

open_all : (P : OpId → Type 0) (before : List OpId) (base : List Met) (made : Step) → LedOn before base made → All P before → All P (ids made.node.open_operations)
open_all P before base made w h = subst (All P) (sym w.open_are) (staying_all P w.fates (subst (All P) (sym w.ops_are) h))

less_is : (a b : ℕ) → nat_le a b ≡ false → b < a
less_is a b h = grind (arith, nat_tests)

below_next : (b last : ℕ) → nat_le (last - 1) b ≡ false → min (b + 1) last < min ((b + 1) + 1) last
below_next b last h = let less = less_is (last - 1) b h in omega (arith, less)

below_more : (b last n : ℕ) → n < min (b + 1) last → n < min ((b + 1) + 1) last
below_more b last n less = omega (arith, less)

within_begun : (b last n : ℕ) → n < min (b + 1) last → n ≤ b
within_begun b last n less = omega (arith, less)

next_within : (b last : ℕ) → min (b + 1) last ≤ b + 1
next_within b last = omega arith

-- each open operation has a number below that of the next one; and each that is worn is answered at once
abbrev pub AreBelow : Node → Type 0
AreBelow node = All (IsBelow (min (begun_of node.met + 1) last_number)) (ids node.open_operations)

pub below_still : (node : Node) (base : List Met) (made : Step) → LedOn (ids node.open_operations) base made → begun_of base ≡ begun_of node.met → AreBelow node → AreBelow made.node
below_still node base made w same h =
    subst (λ b. All (IsBelow (min (b + 1) last_number)) (ids made.node.open_operations)) (sym (w.begun ∙ same))
    (open_all (IsBelow (min (begun_of node.met + 1) last_number)) (ids node.open_operations) base made w h)

worn_open : (s : Setting) (node : Node) (request : Request) (text : List ℕ) → is_worn node.met ≡ true → (begin_step s node request text).node.open_operations ≡ node.open_operations
worn_open s node request text worn = ap (λ t. (unless_refused s first (new_operation (op_of s node.met) request (clock_of node.met))
    (cond t (Some Worn) (unless_missing node.open_operations (missing_kind request (kind_of s.cluster s.me))))).kept) worn
  where
    first : Now
    first = at_open (at_first (Begins (op_of s node.met) text ∷ node.met) node.stored) node.open_operations

pub below_begun : (s : Setting) (node : Node) (request : Request) (text : List ℕ) → AreBelow node → AreBelow (begin_step s node request text).node
below_begun s node request text h = subst (λ b. All (IsBelow (min (b + 1) last_number)) (ids made.node.open_operations)) (sym w.begun) (by (is_worn node.met) refl)
  where
    made : Step
    made = begin_step s node request text

    w : LedOn (ids node.open_operations ++ op_of s node.met ∷ []) (Begins (op_of s node.met) text ∷ node.met) made
    w = begin_went s node request text

    next : ℕ
    next = min ((begun_of node.met + 1) + 1) last_number

    more : All (IsBelow next) (ids node.open_operations)
    more = All-weaker (IsBelow (min (begun_of node.met + 1) last_number)) (IsBelow next) (λ x less. below_more (begun_of node.met) last_number x.number less) (ids node.open_operations) h

    by : (t : Bool) → is_worn node.met ≡ t → All (IsBelow next) (ids made.node.open_operations)
    by true worn = subst (λ os. All (IsBelow next) (ids os)) (sym (worn_open s node request text worn)) more
    by false fresh = open_all (IsBelow next) (ids node.open_operations ++ op_of s node.met ∷ []) (Begins (op_of s node.met) text ∷ node.met) made w
        (All-push (IsBelow next) (ids node.open_operations) (op_of s node.met) more (below_next (begun_of node.met) last_number fresh))

-- and none above how many were begun
pub within_still : (node : Node) → AreBelow node → All (IsWithin (begun_of node.met)) (ids node.open_operations)
within_still node h = All-weaker (IsBelow (min (begun_of node.met + 1) last_number)) (IsWithin (begun_of node.met)) (λ x less. within_begun (begun_of node.met) last_number x.number less) (ids node.open_operations) h

pub within_with_new : (s : Setting) (node : Node) → AreBelow node → All (IsWithin (begun_of node.met + 1)) (ids node.open_operations ++ op_of s node.met ∷ [])
within_with_new s node h = All-push (IsWithin (begun_of node.met + 1)) (ids node.open_operations) (op_of s node.met)
    (All-weaker (IsBelow (min (begun_of node.met + 1) last_number)) (IsWithin (begun_of node.met + 1)) (λ x less. up x.number (within_begun (begun_of node.met) last_number x.number less)) (ids node.open_operations) h)
    (next_within (begun_of node.met) last_number)
  where
    up : (n : ℕ) → n ≤ begun_of node.met → n ≤ begun_of node.met + 1
    up n le = omega (arith, le)

-- a new operation is answered at once, or has a number that none before it had
pub begins_new : (s : Setting) (node : Node) (request : Request) (text : List ℕ)
    → ((begin_step s node request text).node.open_operations ≡ node.open_operations) ⊎ (begun_of node.met < (op_of s node.met).number)
begins_new s node request text = by (is_worn node.met) refl
  where
    fresh : (b last : ℕ) → nat_le (last - 1) b ≡ false → b < min (b + 1) last
    fresh b last h = let less = less_is (last - 1) b h in omega (arith, less)

    by : (t : Bool) → is_worn node.met ≡ t → ((begin_step s node request text).node.open_operations ≡ node.open_operations) ⊎ (begun_of node.met < (op_of s node.met).number)
    by true worn = inl (worn_open s node request text worn)
    by false h = inr (fresh (begun_of node.met) last_number h)

-- ---- what is answered in a step

plain_unanswered : (notes : List Met) → All IsPlain notes → filter is_answer notes ≡ []
plain_unanswered [] h = refl
plain_unanswered (one ∷ notes) h = by one (All-head IsPlain one notes h) (plain_unanswered notes (All-tail IsPlain one notes h))
  where
    by : (one : Met) → IsPlain one → filter is_answer notes ≡ [] → filter is_answer (one ∷ notes) ≡ []
    by (Answers op answer) k rest = cc
    by _ k rest = rest

all_answers : (fates : List Fate) → filter is_answer (flat_map answering fates) ≡ flat_map answering fates
all_answers [] = refl
all_answers (Stays op ∷ fates) = all_answers fates
all_answers (Ends op answer ∷ fates) = ap (λ those. Answers op answer ∷ those) (all_answers fates)

fates_of : (before : List OpId) (base : List Met) (made : Step) → LedOn before base made → HaveFates before made
fates_of before base made w = record {
  fates = w.fates;
  ops_are = w.ops_are;
  open_are = w.open_are;
  answers_are = ap (filter is_answer) w.notes_are ∙ filter-append is_answer w.plain (flat_map answering w.fates) ∙ (λ i. plain_unanswered w.plain w.are_plain i ++ all_answers w.fates i);
}

pub step_fates : (s : Setting) (node : Node) (event : Event) → HaveFates (open_at s node event) (step s node event)
step_fates s node (Tick now) = fates_of (ids node.open_operations) (Ticks now ∷ node.met) (tick_step s node now) (tick_went s node now)
step_fates s node (Take m) = fates_of (ids node.open_operations) (Takes m ∷ node.met) (take_step s node m) (take_went s node m)
step_fates s node (Begin request text) = fates_of (ids node.open_operations ++ op_of s node.met ∷ []) (Begins (op_of s node.met) text ∷ node.met) (begin_step s node request text) (begin_went s node request text)

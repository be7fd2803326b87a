-- A step or a start that a fuse cuts, a start that shows what is owed, and so every run, goes through good standings.
use Rattle.std.proofs.Common.{◌≡◌, ◌⊎◌, inl, inr, ℕ, zero, suc, ◌+◌, ◌==◌, ◌&&◌, ◌≤◌, ◌<◌, nat_lt, Bool, true, false, not, cond, List, [], ◌∷◌, ◌++◌, map, filter, flat_map, fold, find, Option, Some, None, refl, sym, ap, ◌∙◌, subst, arith}
use Rattle.mega_base.specs.declared.names.GroupId.{GroupId}
use Rattle.mega_base.specs.declared.names.OpId.{OpId}
use Rattle.mega_cluster.specs.declared.cluster.Cluster.{Cluster}
use Rattle.mega_handler.specs.Named.{Meanings}
use Rattle.mega_outcome.specs.declared.request.Request.{Request}
use Rattle.mega_wire.specs.declared.message.Message.{Message}
use Rattle.mega_tape_laws.specs.of_schedule.declared.world_event.WorldEvent.{WorldEvent}
use Rattle.mega_tape_laws.specs.of_schedule.declared.world_event.WorldEvent.TheVariants.{Tick as TickEvent, Deliver, Drop, Drain, Crash as CrashEvent, Start as StartEvent, Fuse as FuseEvent, Begin as BeginEvent}
use Rattle.mega_tape_laws.specs.of_transcript.declared.item.Item.{Item}
use Rattle.mega_tape_laws.specs.of_transcript.declared.item.Item.TheVariants.{Sent, Taken, Dropped, Start, Tick as TickItem, Begin as BeginItem, Crash, Cut as CutItem}
use Rattle.mega_tape_laws.specs.of_promises.Items.{number, shown}
use Rattle.mega_tape_laws.specs.of_promises.Messages.{is_deliverable, is_dropped, message_of, next_delivery, receiver_up}
use Rattle.mega_tape_laws.specs.of_promises.Runs.{Calls, CutByData, CutByLog, Cuts, Fate, Fuse, Happening, IsRun, Left, Standing, Whole, after_event, at_node, because, calls_of, crashes, cut_start, cut_step, delivered, drained, fate_by, fated, fated_start, goes_on, handed, is_durable, is_kept, log_fuse_after, marked, new_fuse, nothing_yet, opening, owes, receiver_down, records_left, refusal, set_at, setting, start_calls, started_records, unless_none, unless_refused, up, whole_start, whole_step, with_item, with_items}
use Rattle.mega_tape_laws.specs.of_transcript.Tape.{is_sent, is_taken}
use Rattle.mega_tape_laws.specs.of_rules.Met.{Met, Answers, Applies, Begins, Crashes, Starts, Takes, Ticks, Unsends}
use Rattle.mega_tape_laws.specs.of_rules.Members.{has_rows, is_node, nodes}
use Rattle.mega_tape_laws.specs.of_rules.Clock.{is_up, start_of}
use Rattle.mega_tape_laws.specs.of_rules.Logs.{groups_of, prefix_of}
use Rattle.mega_tape_laws.specs.of_rules.Operations.{Node, Setting}
use Rattle.mega_tape_laws.specs.of_rules.Steps.{Begin, Step, Take, Tick, crashed, onto, op_of, start, start_items, start_note, start_notes, step}
use Rattle.mega_tape_laws.specs.Places.{Place, moves, Took, acts}
use Rattle.mega_run_laws.proofs.Owned.{Users}
use Rattle.mega_tape_laws.specs.Lawful.{Lawful, message}
use Rattle.mega_tape_laws.specs.Polls.{ArePolls, has_asked}
use Rattle.mega_tape_laws.specs.Writes.{AreWritten, LawfulWrites, Usage, has_begun}
use Rattle.mega_schema.specs.declared.schema.Schema.{Schema}
use Rattle.mega_run_laws.specs.Usages.{Brought, Fits, IsMeant}
use Rattle.mega_tape_laws.proofs.Ballots.{number_self}
use Rattle.mega_tape_laws.proofs.Lists.{some_is}
use Rattle.mega_run_laws.specs.Justified.{Each}
use Rattle.mega_run_laws.proofs.Noted.{Follows, MayBeNoted, TapeOn, each_note_on, notes_follow, one_note, tape_item, with_append}
use Rattle.mega_run_laws.proofs.Standing.{Good, IsNew, Owes, act_other, act_same, other_good, owes_on, unmoved_on}
use Rattle.mega_run_laws.proofs.Stepping.{Next, OtherThan, Own, next_good}
use Rattle.mega_run_laws.proofs.Events.{IsPlain, each_flat_map, onto_append, plain_notes, plain_silents}
use Rattle.mega_run_laws.proofs.Silent.{IsSilent, flat_append, note_answered, note_failed, notes_answered, notes_failed}
use Rattle.mega_tape_laws.specs.Answers.{AreAnswered, IsAnswered, LawfulAnswers, has_failed}
use Rattle.mega_run_laws.proofs.Steps.{begins_other, begun_next, never_asked, never_begun, own_begin, stands_sent, whole_good}
use Rattle.mega_run_laws.proofs.Ticking.{own_tick, ticked_next}
use Rattle.mega_run_laws.proofs.Whole.{StepNext, own_taken, take_next}
use Rattle.mega_run_laws.proofs.Replied.{Fair, answer_fair}
use Rattle.mega_run_laws.specs.Shows.{Shows}
use Rattle.mega_run_laws.proofs.Turns.{Known}
use Rattle.std.specs.List.{cons_option}
use Rattle.std.proofs.lemmas.Bool.{and_parts, not-false}
use Rattle.mega_tape_laws.specs.of_rules.Replies.{answer_to, reply_message, reply_to}
use Rattle.mega_wire.specs.declared.message.Body.{Body}
use Rattle.mega_tape_laws.specs.of_rules.Voting.{acts as acts_met}
use Rattle.mega_disk.specs.declared.pair.Device.TheVariants.{Log, Data}
use Rattle.mega_tape_laws.specs.of_promises.Promises.{Stands}

old_moves : (users : Users) → (c : Cluster) (now : Standing) (me : ℕ) → Good users c now → (x : OpId) → x.node.0 ≡ me → IsNew (now.starts me) (now.node me).met x → (q : Place) → moves now.tape x q ≡ []
old_moves users c now me g x node new q = g.fresh x (subst (λ w. IsNew (now.starts w) (now.node w).met x) (sym node) new) q

old_begun : (users : Users) → (c : Cluster) (now : Standing) (me : ℕ) → Good users c now → (x : OpId) → x.node.0 ≡ me → IsNew (now.starts me) (now.node me).met x → has_begun now.tape x ≡ false
old_begun users c now me g x node new = g.unbegun x (subst (λ w. IsNew (now.starts w) (now.node w).met x) (sym node) new)

old_failed : (users : Users) → (c : Cluster) (now : Standing) (me : ℕ) → Good users c now → (x : OpId) → x.node.0 ≡ me → IsNew (now.starts me) (now.node me).met x → has_failed now.tape x ≡ false
old_failed users c now me g x node new = g.unfailed x (subst (λ w. IsNew (now.starts w) (now.node w).met x) (sym node) new)

old_asked : (users : Users) → (c : Cluster) (now : Standing) (me : ℕ) → Good users c now → (x : OpId) → x.node.0 ≡ me → IsNew (now.starts me) (now.node me).met x → has_asked now.tape x ≡ false
old_asked users c now me g x node new = g.unasked x (subst (λ w. IsNew (now.starts w) (now.node w).met x) (sym node) new)

pub at_self : {X : Type 0} (f : ℕ → X) (me : ℕ) (x : X) → set_at f me x me ≡ x
at_self f me x = ap (λ t. cond t x (f me)) (number_self me)

pub at_other : {X : Type 0} (f : ℕ → X) (me : ℕ) (x : X) (v : ℕ) → (me == v) ≡ false → set_at f me x v ≡ f v
at_other f me x v h = ap (λ t. cond t x (f v)) h

pub starts_plain : (s : Setting) (met : List Met) → Each IsPlain (start_notes s met)
starts_plain s met = if_rows (has_rows s.cluster s.me)
  where
    note_plain : (group : GroupId) → Each IsPlain (start_note met group)
    note_plain group = go (nat_lt 0 (prefix_of met group))
      where
        go : (t : Bool) → Each IsPlain (cond t (Applies group (prefix_of met group) ∷ []) [])
        go true = (tt, tt)
        go false = tt

    if_rows : (t : Bool) → Each IsPlain (cond t (flat_map (start_note met) (groups_of met)) [])
    if_rows true = each_flat_map (start_note met) note_plain (groups_of met)
    if_rows false = tt

-- ---- what is owed

owes_cons : (c : Cluster) (tape : List Item) (me : ℕ) (one : Met) (more : List Met) → is_durable one ≡ true → MayBeNoted c tape me one → Owes c tape me more → Owes c tape me (one ∷ more)
owes_cons c tape me (Unsends m) more durable h k = absurd h
owes_cons c tape me (Answers op answer) more durable h k = cc
owes_cons c tape me _ more durable h k = (h, k)

owes_notes : (c : Cluster) (tape : List Item) (me : ℕ) (notes last : List Met) → Each (MayBeNoted c tape me) notes → Owes c tape me last → Owes c tape me (filter is_durable notes ++ last)
owes_notes c tape me [] last h k = k
owes_notes c tape me (one ∷ notes) last h k = go (is_durable one) refl (owes_notes c tape me notes last h.1 k)
  where
    go : (t : Bool) → is_durable one ≡ t → Owes c tape me (filter is_durable notes ++ last) → Owes c tape me (cond t (one ∷ filter is_durable notes) (filter is_durable notes) ++ last)
    go true e rest = owes_cons c tape me one (filter is_durable notes ++ last) e h.0 rest
    go false e rest = rest

owes_reply : (c : Cluster) (tape : List Item) (me : ℕ) (met : List Met) (m : Message) → Shows tape me met → Took tape (message m.from me m.body) → Owes c tape me (map Unsends (reply_to c me met m))
owes_reply c tape me met m s took = go (answer_to c me met m.from m.body) (λ answer h. answer_fair c tape me m.from met s m.body took answer h)
  where
    go : (o : Option Body) → ((answer : Body) → o ≡ Some answer → Fair c tape (message me m.from answer) answer) → Owes c tape me (map Unsends (reply_message me m.from o))
    go None h = tt
    go (Some answer) h = (refl, (refl, ((h answer refl).0).1))

owes_if : (c : Cluster) (tape : List Item) (me : ℕ) (t : Bool) (owed : List Met) → Owes c tape me owed → Owes c tape me (cond t owed [])
owes_if c tape me true owed h = h
owes_if c tape me false owed h = tt

-- ---- cut steps

cut_good : (users : Users) → (c : Cluster) (now : Standing) (me : ℕ) (item : Item) (own : Met) (left : Left) (owed : List Met) (log_fuse data_fuse : ℕ → Option Fuse) → Good users c now → ((n : ℕ → Node) → with_item c n now.tape item ≡ item ∷ now.tape)
    → Own c now.tape item (now.node me).met own → ((x : OpId) → ((me == x.node.0) ≡ false) ⊎ IsNew (now.starts me) (own ∷ (now.node me).met) x → OtherThan own x)
    → Owes c (Crash (number me) ∷ item ∷ now.tape) me owed → Good users c (cut_step c now me (item ∷ []) own left owed log_fuse data_fuse)
cut_good users c now me item own left owed log_fuse data_fuse g plain o other owing = next_good users c now me _ node2 log_fuse data_fuse now.starts (records_left now me left) (set_at now.owed me owed) g
    (subst (λ t. Next users c now me t node2 now.starts (set_at now.owed me owed)) (sym (ap (λ t. with_item c (set_at now.node me node2) t (Crash (number me))) (plain (set_at now.node me node2)))) (record {
      lawful = (tt, (o.on).lawful g.lawful);
      stood = λ x s. inr ((o.on).stood x s);
      mine = record {
        made = λ q. o.made q.group q.position.0 ∙ (g.node me).made q ∙ sym ((o.on).made me q);
        known = λ h n e d. inr ((o.on).stood _ ((g.node me).known h n e (sym (o.decides h n) ∙ d)));
        held = tt;
        rising = tt;
        unfailed = tt;
      };
      made = λ v apart q. (o.on).made v q;
      moved = λ x apart q. (o.on).moved x q;
      polls = (tt, (o.on).polls g.polls);
      written = λ fits. (tt, (o.on).written c.schema users.usage (g.written fits));
      begun = λ x apart. o.begins x (other x (inl apart));
      unbegun = λ x node new. o.begins x (other x (inr new)) ∙ old_begun users c now me g x node (older x new);
      answered = λ fits. (tt, (o.answered c.schema users.usage, g.answered fits));
      failed = λ x apart. o.failed x;
      unfailed = λ x node new. o.failed x ∙ old_failed users c now me g x node (older x new);
      asked = λ x apart. (o.on).asked x;
      fresh = λ x node new q. (o.on).moved x q ∙ old_moves users c now me g x node (older x new) q;
      unasked = λ x node new. (o.on).asked x ∙ old_asked users c now me g x node (older x new);
      worn = λ x le. unmoved_on now.tape (Crash (number me) ∷ item ∷ now.tape) x ((o.on).moved x) ((o.on).asked x) (g.worn x le);
      started = subst (λ n. n ≤ now.starts me) (sym o.start) (g.starts me);
      starts_same = λ v apart. refl;
      owes = subst (λ x. Owes c (Crash (number me) ∷ item ∷ now.tape) me x) (sym (at_self now.owed me owed)) owing;
      owed_up = λ u. cc;
      owed_same = at_other now.owed me owed;
    }))
  where
    node2 : Node
    node2 = crashed (record { met = own ∷ (now.node me).met; open_operations = []; stored = (now.node me).stored })

    older : (x : OpId) → IsNew (now.starts me) node2.met x → IsNew (now.starts me) (now.node me).met x
    older x (inl less) = inl less
    older x (inr both) = inr (both.0 ∙ o.start, (let n = both.1 in let b = o.begun in omega (arith, n, b)))

fated_good : (users : Users) → (c : Cluster) (now : Standing) (me : ℕ) (item : Item) (own : Met) (made : Step) (replies : List Message) (fate : Fate) → Good users c now → ((n : ℕ → Node) → with_item c n now.tape item ≡ item ∷ now.tape)
    → Own c now.tape item (now.node me).met own → ((x : OpId) → ((me == x.node.0) ≡ false) ⊎ IsNew (now.starts me) (own ∷ (now.node me).met) x → OtherThan own x)
    → Owes c (Crash (number me) ∷ item ∷ now.tape) me (owes made replies) → Good users c (whole_step c now me (item ∷ []) made) → Good users c (fated c now me (item ∷ []) own made replies fate)
fated_good users c now me item own made replies Whole g plain o other owing whole = whole
fated_good users c now me item own made replies (CutByLog left) g plain o other owing whole =
    cut_good users c now me item own left (cond (is_kept left) (owes made replies) []) (set_at now.log_fuse me None) now.data_fuse g plain o other (owes_if c (Crash (number me) ∷ item ∷ now.tape) me (is_kept left) (owes made replies) owing)
fated_good users c now me item own made replies (CutByData left) g plain o other owing whole = cut_good users c now me item own left [] now.log_fuse (set_at now.data_fuse me None) g plain o other tt

-- ---- crashes and starts that are cut

down_next : (users : Users) → (c : Cluster) (now : Standing) (me : ℕ) (starts : ℕ → ℕ) → Good users c now → now.starts me ≤ starts me → ((v : ℕ) → (me == v) ≡ false → starts v ≡ now.starts v) → Next users c now me (Crash (number me) ∷ now.tape) (crashed (now.node me)) starts now.owed
down_next users c now me starts g le same = record {
  lawful = (tt, g.lawful);
  stood = λ item s. inr s;
  mine = record { made = (g.node me).made; known = λ h n e d. inr ((g.node me).known h n e d); held = tt; rising = tt; unfailed = tt };
  made = λ v apart q. refl;
  moved = λ x apart q. refl;
  polls = (tt, g.polls);
  written = λ fits. (tt, g.written fits);
  begun = λ x apart. refl;
  unbegun = λ x node new. old_begun users c now me g x node (older x new);
  answered = λ fits. (tt, g.answered fits);
  failed = λ x apart. refl;
  unfailed = λ x node new. old_failed users c now me g x node (older x new);
  asked = λ x apart. refl;
  fresh = λ x node new q. old_moves users c now me g x node (older x new) q;
  unasked = λ x node new. old_asked users c now me g x node (older x new);
  worn = λ x le. unmoved_on now.tape (Crash (number me) ∷ now.tape) x (λ q. refl) refl (g.worn x le);
  started = (let first = g.starts me in omega (arith, first, le));
  starts_same = same;
  owes = owes_on c now.tape (Crash (number me) ∷ now.tape) me (λ item s. inr s) (λ q. refl) (now.owed me) (g.owes me);
  owed_up = λ u. cc;
  owed_same = λ v apart. refl;
}
  where
    older : (x : OpId) → IsNew (starts me) (Crashes ∷ (now.node me).met) x → IsNew (now.starts me) (now.node me).met x
    older x (inl less) = inl (omega (arith, less, le))
    older x (inr both) = inr both

pub crashes_good : (users : Users) → (c : Cluster) (now : Standing) (me : ℕ) → Good users c now → Good users c (crashes now me)
crashes_good users c now me g = next_good users c now me (Crash (number me) ∷ now.tape) (crashed (now.node me)) now.log_fuse now.data_fuse now.starts now.records now.owed g (down_next users c now me now.starts g (omega arith) (λ v apart. refl))

cut_start_good : (users : Users) → (c : Cluster) (now : Standing) (me : ℕ) (left : Left) (log_fuse data_fuse : ℕ → Option Fuse) → Good users c now → Good users c (cut_start now me left log_fuse data_fuse)
cut_start_good users c now me left log_fuse data_fuse g = next_good users c now me (Crash (number me) ∷ now.tape) (crashed (now.node me)) log_fuse data_fuse (set_at now.starts me started) (cond (is_kept left) (started_records now me) now.records) now.owed g
    (down_next users c now me (set_at now.starts me started) g (subst (λ n. now.starts me ≤ n) (sym (at_self now.starts me started)) (le (is_kept left))) (at_other now.starts me started))
  where
    started : ℕ
    started = cond (is_kept left) (now.starts me + 1) (now.starts me)

    le : (t : Bool) → now.starts me ≤ cond t (now.starts me + 1) (now.starts me)
    le true = omega arith
    le false = omega arith

-- ---- starts

-- what is owed is shown
record Shown (c : Cluster) (me : ℕ) (old : List Item) (met : List Met) (new : List Item) (more : List Met) : Type 0 where
  lawful : Lawful c old → Lawful c new
  stood : (item : Item) → Stands item old → Stands item new
  polls : ArePolls old → ArePolls new
  written : (schema : Schema) (usage : Usage) → AreWritten schema usage old → AreWritten schema usage new
  begun : (x : OpId) → has_begun new x ≡ has_begun old x
  answered : (schema : Schema) (usage : Usage) → AreAnswered schema usage old → AreAnswered schema usage new
  failed : (x : OpId) → has_failed new x ≡ has_failed old x
  moved : (x : OpId) (q : Place) → moves new x q ≡ moves old x q
  asked : (x : OpId) → has_asked new x ≡ has_asked old x
  others : (v : ℕ) → (me == v) ≡ false → (q : Place) → acts new v q ≡ acts old v q
  made : (q : Place) → acts_met more q.group q.position.0 ≡ acts new me q
  known : Known me more new
  started : start_of more ≡ start_of met

owed_shown : (c : Cluster) (me : ℕ) (nodes' : ℕ → Node) (owed : List Met) (tape : List Item) (met : List Met) → Owes c tape me owed → ((q : Place) → acts_met met q.group q.position.0 ≡ acts tape me q) → Known me met tape
    → Shown c me tape met (with_items c nodes' tape (flat_map (shown me) owed)) (onto owed met)
owed_shown c me nodes' [] tape met h made known = record { lawful = λ l. l; stood = λ item s. s; polls = λ p. p; written = λ schema usage w. w; begun = λ x. refl; answered = λ schema usage a. a; failed = λ x. refl; moved = λ x q. refl; asked = λ x. refl; others = λ v apart q. refl; made = made; known = known; started = refl }
owed_shown c me nodes' (Unsends m ∷ []) tape met h made known = record {
  lawful = λ l. ((h.1).1, l);
  stood = λ item s. inr s;
  polls = λ p. (tt, p);
  written = λ schema usage w. (tt, w);
  begun = λ x. refl;
  answered = λ schema usage a. (tt, a);
  failed = λ x. refl;
  moved = λ x q. refl;
  asked = λ x. refl;
  others = λ v apart q. ap (λ o. cons_option o (acts tape v q)) (act_other me v m q.group q.position.0 apart (inl (h.1).0));
  made = λ q. λ i. cons_option (act_same me m q.group q.position.0 (inl (h.1).0) i) (made q i);
  known = λ g n e d. inr (known g n e d);
  started = refl;
}
owed_shown c me nodes' (Unsends m ∷ one ∷ more) tape met h made known = absurd (let none = h.0 in cc)
owed_shown c me nodes' (Answers op answer ∷ more) tape met h made known = absurd h
owed_shown c me nodes' (one ∷ more) tape met h made known =
    let first = one_note c me nodes' tape met one h.0 in
    let mid = with_items c nodes' tape (shown me one) in
    let rest = owed_shown c me nodes' more mid (one ∷ met) (owes_on c tape mid me (first.tape).stood ((first.tape).made me) more h.1)
    (λ q. (first.met_on).made q.group q.position.0 ∙ made q ∙ sym ((first.tape).made me q)) (first.known known) in
    subst (λ t. Shown c me tape met t (onto more (one ∷ met))) (sym (with_append c nodes' (shown me one) (flat_map (shown me) more) tape)) (record {
      lawful = λ l. rest.lawful ((first.tape).lawful l);
      stood = λ item s. rest.stood item ((first.tape).stood item s);
      polls = λ p. rest.polls ((first.tape).polls p);
      written = λ schema usage w. rest.written schema usage ((first.tape).written schema usage w);
      begun = λ x. rest.begun x ∙ first.begun x;
      answered = λ schema usage a. rest.answered schema usage (note_answered c me nodes' tape one tt schema usage a);
      failed = λ x. rest.failed x ∙ note_failed c me nodes' tape one tt x;
      moved = λ x q. rest.moved x q ∙ (first.tape).moved x q;
      asked = λ x. rest.asked x ∙ (first.tape).asked x;
      others = λ v apart q. rest.others v apart q ∙ (first.tape).made v q;
      made = rest.made;
      known = rest.known;
      started = rest.started ∙ (first.met_on).start;
    })

pub start_good : (users : Users) → (c : Cluster) (h : Meanings) (now : Standing) (me : ℕ) → Good users c now
    → Good users c (whole_start c now me (start_items (setting c h me) (now.starts me + 1) (now.owed me) (now.node me).met) (start (setting c h me) (now.starts me + 1) (now.owed me) (now.node me).met))
start_good users c h now me g = next_good users c now me _ node2 (log_fuse_after now me true) now.data_fuse (set_at now.starts me (now.starts me + 1)) (started_records now me) (set_at now.owed me []) g
    (coe 1 0 (i. Next users c now me (tape_is i) (record { met = met_is i; open_operations = []; stored = node2.stored }) (set_at now.starts me (now.starts me + 1)) (set_at now.owed me [])) (record {
      lawful = whole_lawful;
      stood = λ item s. (follows.tape).stood item (first.stood item (inr s));
      mine = record {
        made = λ q. (follows.met_on).made q.group q.position.0 ∙ first.made q ∙ sym ((follows.tape).made me q);
        known = follows.known first.known;
        held = tt;
        rising = tt;
        unfailed = tt;
      };
      made = λ v apart q. (follows.tape).made v q ∙ first.others v apart q;
      moved = λ x apart q. (follows.tape).moved x q ∙ first.moved x q;
      polls = (follows.tape).polls (first.polls (tt, g.polls));
      written = λ fits. (follows.tape).written c.schema users.usage (first.written c.schema users.usage (tt, g.written fits));
      begun = λ x apart. follows.begun x ∙ first.begun x;
      unbegun = λ x node new. follows.begun x ∙ first.begun x ∙ old_begun users c now me g x node (inl (later x new));
      answered = λ fits. notes_answered c me nodes' notes tape2 silent c.schema users.usage (first.answered c.schema users.usage (tt, g.answered fits));
      failed = λ x apart. notes_failed c me nodes' notes tape2 silent x ∙ first.failed x;
      unfailed = λ x node new. notes_failed c me nodes' notes tape2 silent x ∙ first.failed x ∙ old_failed users c now me g x node (inl (later x new));
      asked = λ x apart. (follows.tape).asked x ∙ first.asked x;
      fresh = λ x node new q. (follows.tape).moved x q ∙ first.moved x q ∙ old_moves users c now me g x node (inl (later x new)) q;
      unasked = λ x node new. (follows.tape).asked x ∙ first.asked x ∙ old_asked users c now me g x node (inl (later x new));
      worn = λ x le. unmoved_on now.tape tape3 x (λ q. (follows.tape).moved x q ∙ first.moved x q) ((follows.tape).asked x ∙ first.asked x) (g.worn x le);
      started = subst (λ n. start_of (onto notes met2) ≤ n) (sym (at_self now.starts me (now.starts me + 1))) (subst (λ n. n ≤ now.starts me + 1) (sym started) (omega arith));
      starts_same = at_other now.starts me (now.starts me + 1);
      owes = subst (λ o. Owes c tape3 me o) (sym (at_self now.owed me [])) tt;
      owed_up = λ u. at_self now.owed me [];
      owed_same = at_other now.owed me [];
    }))
  where
    owed : List Met
    owed = now.owed me

    met1 : List Met
    met1 = Starts (now.starts me + 1) ∷ (now.node me).met

    met2 : List Met
    met2 = onto owed met1

    notes : List Met
    notes = start_notes (setting c h me) met2

    silent : Each IsSilent notes
    silent = plain_silents notes (starts_plain (setting c h me) met2)

    node2 : Node
    node2 = start (setting c h me) (now.starts me + 1) owed (now.node me).met

    nodes' : ℕ → Node
    nodes' = set_at now.node me node2

    tape1 : List Item
    tape1 = Start (number me) (now.starts me + 1) ∷ now.tape

    tape2 : List Item
    tape2 = with_items c nodes' tape1 (flat_map (shown me) owed)

    tape3 : List Item
    tape3 = with_items c nodes' tape2 (flat_map (shown me) notes)

    first : Shown c me tape1 met1 tape2 met2
    first = owed_shown c me nodes' owed tape1 met1 (owes_on c now.tape tape1 me (λ item s. inr s) (λ q. refl) owed (g.owes me)) (λ q. (g.node me).made q) (λ h' n e d. inr ((g.node me).known h' n e d))

    follows : Follows c me tape2 met2 tape3 (onto notes met2)
    follows = notes_follow c me nodes' notes tape2 met2 (plain_notes c tape2 me notes (starts_plain (setting c h me) met2))

    whole_lawful : Lawful c tape3
    whole_lawful = (follows.tape).lawful (first.lawful (tt, g.lawful))

    started : start_of (onto notes met2) ≡ now.starts me + 1
    started = (follows.met_on).start ∙ first.started

    tape_is : with_items c nodes' now.tape (flat_map (shown me) (start_items (setting c h me) (now.starts me + 1) owed (now.node me).met)) ≡ tape3
    tape_is = ap (with_items c nodes' tape1) (flat_append me owed notes) ∙ with_append c nodes' (flat_map (shown me) owed) (flat_map (shown me) notes) tape1

    met_is : node2.met ≡ onto notes met2
    met_is = onto_append owed notes met1

    later : (x : OpId) → IsNew (set_at now.starts me (now.starts me + 1) me) (onto notes met2) x → now.starts me < x.start
    later x (inl less) = let is = at_self now.starts me (now.starts me + 1) in omega (arith, less, is)
    later x (inr both) = let is = both.0 in let at = started in omega (arith, is, at)

pub fated_start_good : (users : Users) → (c : Cluster) (h : Meanings) (now : Standing) (me : ℕ) (fate : Fate) → Good users c now → Good users c (fated_start c h now me fate)
fated_start_good users c h now me Whole g = start_good users c h now me g
fated_start_good users c h now me (CutByLog left) g = cut_start_good users c now me left (set_at now.log_fuse me None) now.data_fuse g
fated_start_good users c h now me (CutByData left) g = cut_start_good users c now me left (log_fuse_after now me (is_kept left)) (set_at now.data_fuse me None) g

-- ---- events

pub handed_good : (users : Users) → (c : Cluster) (h : Meanings) → (users.fits → Brought users.usage h) → (cuts : Cuts) (now : Standing) (j : ℕ) (o : Option Message) → message_of now.tape j ≡ o → receiver_up (up now) o ≡ true → Good users c now → Good users c (handed c h cuts now j o)
handed_good users c h brought cuts now j None is r g = g
handed_good users c h brought cuts now j (Some m) is r g = fated_good users c now m.to (Taken j) (Takes m) made (reply_to c m.to (now.node m.to).met m) (fate_by now m.to (cuts now m.to) (calls_of c h now m.to (Take m) made)) g (λ n. refl) (own_taken c now.tape j m (now.node m.to).met) (λ x other. tt)
    (owes_notes c tape2 m.to made.notes (map Unsends (reply_to c m.to (now.node m.to).met m)) (each_note_on c (Taken j ∷ now.tape) tape2 (λ item s. inr s) m.to made.notes next.1)
    (owes_reply c tape2 m.to (now.node m.to).met m (record { made = (g.node m.to).made; decides = λ h' n e d. inr (inr ((g.node m.to).known h' n e d)) }) (record { number = j; sent = inr (inr (stands_sent now.tape j m is)); taken = inr (inl refl) })))
    (whole_good users s now (Taken j) (Takes m) made g (λ n. refl) next)
  where
    s : Setting
    s = setting c h m.to

    made : Step
    made = step s (now.node m.to) (Take m)

    tape2 : List Item
    tape2 = Crash (number m.to) ∷ Taken j ∷ now.tape

    next : StepNext users s now (set_at now.node m.to made.node) (Taken j) (Takes m) made
    next = take_next users s brought now (set_at now.node m.to made.node) j m g r (stands_sent now.tape j m is)

pub tick_good : (users : Users) → (c : Cluster) (h : Meanings) → (users.fits → Brought users.usage h) → (now : Standing) (me clock : ℕ) (cut : Calls → Fate) → is_up (now.node me).met ≡ true → Good users c now → Good users c (at_node c h now me (shown me (Ticks clock)) (Tick clock) cut)
tick_good users c h brought now me clock cut r g = fated_good users c now me (TickItem (number me) clock) (Ticks clock) made [] (fate_by now me cut (calls_of c h now me (Tick clock) made)) g (λ n. refl) (own_tick c now.tape me clock (now.node me).met) (λ x other. tt)
    (owes_notes c (Crash (number me) ∷ TickItem (number me) clock ∷ now.tape) me made.notes [] (each_note_on c (TickItem (number me) clock ∷ now.tape) (Crash (number me) ∷ TickItem (number me) clock ∷ now.tape) (λ item s. inr s) me made.notes next.1) tt)
    (whole_good users s now (TickItem (number me) clock) (Ticks clock) made g (λ n. refl) next)
  where
    s : Setting
    s = setting c h me

    made : Step
    made = step s (now.node me) (Tick clock)

    next : StepNext users s now (set_at now.node me made.node) (TickItem (number me) clock) (Ticks clock) made
    next = ticked_next users s brought now (set_at now.node me made.node) clock g r

pub begin_good : (users : Users) → (c : Cluster) (h : Meanings) → (users.fits → Brought users.usage h) → (now : Standing) (me : ℕ) (request : Request) (text : List ℕ) (cut : Calls → Fate) → (users.fits → (users.usage).meaning text ≡ Some request) → is_up (now.node me).met ≡ true → Good users c now
    → Good users c (at_node c h now me (shown me (Begins (op_of (setting c h me) (now.node me).met) text)) (Begin request text) cut)
begin_good users c h brought now me request text cut means r g = fated_good users c now me (BeginItem id text) (Begins id text) made [] (fate_by now me cut (calls_of c h now me (Begin request text) made)) g (λ n. refl) (own_begin c now.tape id text (now.node me).met (never_asked users s now g) (never_begun users s now g)) (begins_other users s now text g)
    (owes_notes c (Crash (number me) ∷ BeginItem id text ∷ now.tape) me made.notes [] (each_note_on c (BeginItem id text ∷ now.tape) (Crash (number me) ∷ BeginItem id text ∷ now.tape) (λ item s. inr s) me made.notes next.1) tt)
    (whole_good users s now (BeginItem id text) (Begins id text) made g (λ n. refl) next)
  where
    s : Setting
    s = setting c h me

    id : OpId
    id = op_of s (now.node me).met

    made : Step
    made = step s (now.node me) (Begin request text)

    next : StepNext users s now (set_at now.node me made.node) (BeginItem id text) (Begins id text) made
    next = begun_next users s brought now (set_at now.node me made.node) request text means g r

pub marked_good : (users : Users) → (c : Cluster) (now : Standing) (item : Item) → TapeOn c now.tape (item ∷ now.tape) → ((x : OpId) → has_begun (item ∷ now.tape) x ≡ has_begun now.tape x) → ((schema : Schema) (usage : Usage) → IsAnswered schema usage now.tape item) → ((x : OpId) → has_failed (item ∷ now.tape) x ≡ has_failed now.tape x)
    → Good users c now → Good users c (marked now item)
marked_good users c now item on same answered failed g = record {
  lawful = on.lawful g.lawful;
  node = λ v. other_good users c now.tape (item ∷ now.tape) v (now.node v) on.stood (on.made v) (λ x is q. on.moved x q) (λ x is. failed x) (g.node v);
  starts = g.starts;
  polls = on.polls g.polls;
  written = λ fits. on.written c.schema users.usage (g.written fits);
  unbegun = λ x new. same x ∙ g.unbegun x new;
  answered = λ fits. (answered c.schema users.usage, g.answered fits);
  unfailed = λ x new. failed x ∙ g.unfailed x new;
  fresh = λ x new q. on.moved x q ∙ g.fresh x new q;
  unasked = λ x new. on.asked x ∙ g.unasked x new;
  worn = λ x le. unmoved_on now.tape (item ∷ now.tape) x (on.moved x) (on.asked x) (g.worn x le);
  owes = λ v. owes_on c now.tape (item ∷ now.tape) v on.stood (on.made v) (now.owed v) (g.owes v);
  owed = g.owed;
}

pub found : (test : ℕ → Bool) (xs : List ℕ) (j : ℕ) → find test xs ≡ Some j → test j ≡ true
found test [] j h = cc
found test (x ∷ xs) j h = go (test x) refl h (found test xs j)
  where
    go : (t : Bool) → test x ≡ t → cond t (Some x) (find test xs) ≡ Some j → (find test xs ≡ Some j → test j ≡ true) → test j ≡ true
    go true e k again = subst (λ y. test y ≡ true) (some_is x j k) e
    go false e k again = again k

deliverable_good : (users : Users) → (c : Cluster) (h : Meanings) → (users.fits → Brought users.usage h) → (cuts : Cuts) (now : Standing) (j : ℕ) → next_delivery (up now) now.tape ≡ Some j → Good users c now → Good users c (delivered c h cuts now j)
deliverable_good users c h brought cuts now j e g = handed_good users c h brought cuts now j (message_of now.tape j) refl
    (and_parts (not (is_taken now.tape j) && not (is_dropped now.tape j)) (receiver_up (up now) (message_of now.tape j)) (found (is_deliverable (up now) now.tape) _ j e)).1 g

drained_good : (users : Users) → (c : Cluster) (h : Meanings) → (users.fits → Brought users.usage h) → (cuts : Cuts) (most : ℕ) (now : Standing) → Good users c now → Good users c (drained c h cuts now most)
drained_good users c h brought cuts zero now g = go (next_delivery (up now) now.tape)
  where
    go : (o : Option ℕ) → Good users c (unless_none now (λ j. marked now CutItem) o)
    go None = g
    go (Some j) = marked_good users c now CutItem (tape_item c now.tape CutItem tt (λ x q. refl) (λ v q. refl) (λ x. refl) tt (λ schema usage. tt)) (λ x. refl) (λ schema usage. tt) (λ x. refl) g
drained_good users c h brought cuts (suc most) now g = go (next_delivery (up now) now.tape) refl (λ j. drained_good users c h brought cuts most (delivered c h cuts now j))
  where
    go : (o : Option ℕ) → next_delivery (up now) now.tape ≡ o → ((j : ℕ) → Good users c (delivered c h cuts now j) → Good users c (drained c h cuts (delivered c h cuts now j) most))
        → Good users c (unless_none now (λ j. drained c h cuts (delivered c h cuts now j) most) o)
    go None e more = g
    go (Some j) e more = more j (deliverable_good users c h brought cuts now j e g)

pub not_because : (t : Bool) (why : ℕ) (other : Option ℕ) → because t why other ≡ None → (t ≡ false) × (other ≡ None)
not_because true why other h = cc
not_because false why other h = (refl, h)

delivered_good : (users : Users) → (c : Cluster) (h : Meanings) → (users.fits → Brought users.usage h) → (cuts : Cuts) (now : Standing) (j : ℕ) (o : Option Message) → message_of now.tape j ≡ o → receiver_down now o ≡ false → Good users c now → Good users c (handed c h cuts now j o)
delivered_good users c h brought cuts now j None is r g = g
delivered_good users c h brought cuts now j (Some m) is r g = handed_good users c h brought cuts now j (Some m) is (not-false (up now m.to) r) g

event_good : (users : Users) → (c : Cluster) (h : Meanings) → (users.fits → Brought users.usage h) → (cuts : Cuts) (now : Standing) (event : WorldEvent) → (users.fits → IsMeant users.usage event) → refusal c now event ≡ None → Good users c now → Good users c (after_event c h cuts now event)
event_good users c h brought cuts now (TickEvent node clock) meant r g =
    let second = (not_because (not (is_node c node.0)) 6 _ r).1 in let third = (not_because (not (up now node.0)) 1 _ second).0 in
    tick_good users c h brought now node.0 clock (cuts now node.0) (not-false (up now node.0) third) g
event_good users c h brought cuts now (Deliver j) meant r g =
    let second = (not_because (not (is_sent now.tape j)) 3 _ r).1 in let third = (not_because (is_dropped now.tape j) 4 _ second).1 in
    delivered_good users c h brought cuts now j (message_of now.tape j) refl (not_because (receiver_down now (message_of now.tape j)) 1 None third).0 g
event_good users c h brought cuts now (Drop j) meant r g = marked_good users c now (Dropped j) (tape_item c now.tape (Dropped j) tt (λ x q. refl) (λ v q. refl) (λ x. refl) tt (λ schema usage. tt)) (λ x. refl) (λ schema usage. tt) (λ x. refl) g
event_good users c h brought cuts now (Drain most) meant r g = drained_good users c h brought cuts most now g
event_good users c h brought cuts now (CrashEvent node) meant r g = crashes_good users c now node.0 g
event_good users c h brought cuts now (StartEvent node) meant r g = fated_start_good users c h now node.0 (fate_by now node.0 (cuts now node.0) (start_calls c node.0)) g
event_good users c h brought cuts now (FuseEvent node calls image Log) meant r g = record { lawful = g.lawful; node = g.node; starts = g.starts; polls = g.polls; written = g.written; unbegun = g.unbegun; answered = g.answered; unfailed = g.unfailed; fresh = g.fresh; unasked = g.unasked; worn = g.worn; owes = g.owes; owed = g.owed }
event_good users c h brought cuts now (FuseEvent node calls image Data) meant r g = record { lawful = g.lawful; node = g.node; starts = g.starts; polls = g.polls; written = g.written; unbegun = g.unbegun; answered = g.answered; unfailed = g.unfailed; fresh = g.fresh; unasked = g.unasked; worn = g.worn; owes = g.owes; owed = g.owed }
event_good users c h brought cuts now (BeginEvent node request text) meant r g =
    let second = (not_because (not (is_node c node.0)) 6 _ r).1 in let third = (not_because (not (up now node.0)) 1 _ second).0 in
    begin_good users c h brought now node.0 request text (cuts now node.0) meant (not-false (up now node.0) third) g

run_good : (users : Users) → (c : Cluster) (cuts : Cuts) (events : List Happening) (now : Standing) → (users.fits → Fits users.usage events) → Good users c now → Good users c (goes_on c cuts now events)
run_good users c cuts [] now fits g = g
run_good users c cuts (one ∷ events) now fits g = run_good users c cuts events (unless_refused now (after_event c one.handlers cuts now one.event) (refusal c now one.event)) (λ f. (fits f).1) (go (refusal c now one.event) refl)
  where
    go : (o : Option ℕ) → refusal c now one.event ≡ o → Good users c (unless_refused now (after_event c one.handlers cuts now one.event) o)
    go None r = event_good users c one.handlers (λ f. ((fits f).0).brought) cuts now one.event (λ f. ((fits f).0).meant) r g
    go (Some why) r = g

pub nothing_good : (users : Users) → (c : Cluster) → Good users c nothing_yet
nothing_good users c = record {
  lawful = tt;
  node = λ v. record { made = λ q. refl; known = λ g n e h. cc; held = tt; rising = tt; unfailed = tt };
  starts = λ v. omega arith;
  polls = tt;
  written = λ fits. tt;
  unbegun = λ x new. refl;
  answered = λ fits. tt;
  unfailed = λ x new. refl;
  fresh = λ x new q. refl;
  unasked = λ x new. refl;
  worn = λ x le. record { moved = λ q. refl; asked = refl };
  owes = λ v. tt;
  owed = λ v h. refl;
}

opened_good : (users : Users) → (c : Cluster) (h : Meanings) (those : List ℕ) (now : Standing) → Good users c now → Good users c (fold (λ now me. fated_start c h now me Whole) now those)
opened_good users c h [] now g = g
opened_good users c h (me ∷ those) now g = opened_good users c h those (fated_start c h now me Whole) (start_good users c h now me g)

run_stands : (users : Users) → (c : Cluster) (first : Meanings) (events : List Happening) (tape : List Item) → (run : IsRun c first events tape) → (users.fits → Fits users.usage events) → Good users c (goes_on c run.cuts (opening c first) events)
run_stands users c first events tape run fits = run_good users c run.cuts events (opening c first) fits (opened_good users c first (nodes c) nothing_yet (nothing_good users c))

-- of any events, whatever was meant
pub nobody : Users
nobody = record { usage = record { meaning = λ text. None; handlers = λ moment. [] }; fits = ⊥ }

no_fits : (events : List Happening) → nobody.fits → Fits nobody.usage events
unfolding nobody
no_fits events f = absurd f

pub run_polls : (c : Cluster) (first : Meanings) (events : List Happening) (tape : List Item) → IsRun c first events tape → ArePolls tape
run_polls c first events tape run = subst ArePolls (sym run.tape_is) (run_stands nobody c first events tape run (no_fits events)).polls

pub run_lawful : (c : Cluster) (first : Meanings) (events : List Happening) (tape : List Item) → IsRun c first events tape → Lawful c tape
run_lawful c first events tape run = subst (Lawful c) (sym run.tape_is) (run_stands nobody c first events tape run (no_fits events)).lawful

pub run_written : (c : Cluster) (usage : Usage) (first : Meanings) (events : List Happening) (tape : List Item) → IsRun c first events tape → Fits usage events → LawfulWrites c usage tape
run_written c usage first events tape run fits = record {
  lawful = run_lawful c first events tape run;
  written = subst (AreWritten c.schema usage) (sym run.tape_is) ((run_stands (record { usage = usage; fits = Fits usage events }) c first events tape run (λ f. f)).written fits);
}

pub run_answered : (c : Cluster) (usage : Usage) (first : Meanings) (events : List Happening) (tape : List Item) → IsRun c first events tape → Fits usage events → LawfulAnswers c usage tape
run_answered c usage first events tape run fits = record {
  writes = run_written c usage first events tape run fits;
  answered = subst (AreAnswered c.schema usage) (sym run.tape_is) ((run_stands (record { usage = usage; fits = Fits usage events }) c first events tape run (λ f. f)).answered fits);
}

-- ---- what every run keeps

-- an item that no node meets
abbrev pub IsMark : Item → Type 0
IsMark (Dropped number) = Unit {0}
IsMark CutItem = Unit {0}
IsMark _ = ⊥

-- what each kind of event keeps of a good standing, whatever becomes of its step
pub record Keeps (c : Cluster) (Q : Standing → Type 0) : Type 0 where
  pub ticks : (h : Meanings) (now : Standing) (me clock : ℕ) (cut : Calls → Fate) → Good nobody c now → is_up (now.node me).met ≡ true → Q now → Q (at_node c h now me (shown me (Ticks clock)) (Tick clock) cut)
  pub takes : (h : Meanings) (now : Standing) (j : ℕ) (m : Message) (cut : Calls → Fate) → Good nobody c now → is_up (now.node m.to).met ≡ true → Stands (Sent j m) now.tape → Q now
      → Q (at_node c h now m.to (Taken j ∷ []) (Take m) cut)
  pub begins : (h : Meanings) (now : Standing) (me : ℕ) (request : Request) (text : List ℕ) (cut : Calls → Fate) → Good nobody c now → is_up (now.node me).met ≡ true → Q now
      → Q (at_node c h now me (shown me (Begins (op_of (setting c h me) (now.node me).met) text)) (Begin request text) cut)
  pub starts : (h : Meanings) (now : Standing) (me : ℕ) (fate : Fate) → Good nobody c now → Q now → Q (fated_start c h now me fate)
  pub crash : (now : Standing) (me : ℕ) → Good nobody c now → Q now → Q (crashes now me)
  pub marks : (now : Standing) (item : Item) → IsMark item → Good nobody c now → Q now → Q (marked now item)
  pub fuses : (now : Standing) (log_fuse data_fuse : ℕ → Option Fuse) → Q now
      → Q (record { tape = now.tape; node = now.node; log_fuse = log_fuse; data_fuse = data_fuse; starts = now.starts; records = now.records; owed = now.owed })

none_brought : (h : Meanings) → nobody.fits → Brought (nobody.usage) h
unfolding nobody
none_brought h f = absurd f

none_meant : (event : WorldEvent) → nobody.fits → IsMeant (nobody.usage) event
unfolding nobody
none_meant event f = absurd f

module _ (c : Cluster) (Q : Standing → Type 0) (k : Keeps c Q) where
  handed_kept : (h : Meanings) (cuts : Cuts) (now : Standing) (j : ℕ) (o : Option Message) → message_of now.tape j ≡ o → receiver_up (up now) o ≡ true → Good nobody c now → Q now → Q (handed c h cuts now j o)
  handed_kept h cuts now j None is r g q = q
  handed_kept h cuts now j (Some m) is r g q = (k.takes) h now j m (cuts now m.to) g r (stands_sent now.tape j m is) q

  deliverable_kept : (h : Meanings) (cuts : Cuts) (now : Standing) (j : ℕ) → next_delivery (up now) now.tape ≡ Some j → Good nobody c now → Q now → Q (delivered c h cuts now j)
  deliverable_kept h cuts now j e g q = handed_kept h cuts now j (message_of now.tape j) refl
      (and_parts (not (is_taken now.tape j) && not (is_dropped now.tape j)) (receiver_up (up now) (message_of now.tape j)) (found (is_deliverable (up now) now.tape) _ j e)).1 g q

  drained_kept : (h : Meanings) (cuts : Cuts) (most : ℕ) (now : Standing) → Good nobody c now → Q now → Q (drained c h cuts now most)
  drained_kept h cuts zero now g q = go (next_delivery (up now) now.tape)
    where
      go : (o : Option ℕ) → Q (unless_none now (λ j. marked now CutItem) o)
      go None = q
      go (Some j) = (k.marks) now CutItem tt g q
  drained_kept h cuts (suc most) now g q = go (next_delivery (up now) now.tape) refl (λ j. drained_kept h cuts most (delivered c h cuts now j))
    where
      go : (o : Option ℕ) → next_delivery (up now) now.tape ≡ o
          → ((j : ℕ) → Good nobody c (delivered c h cuts now j) → Q (delivered c h cuts now j) → Q (drained c h cuts (delivered c h cuts now j) most))
          → Q (unless_none now (λ j. drained c h cuts (delivered c h cuts now j) most) o)
      go None e more = q
      go (Some j) e more = more j (deliverable_good nobody c h (none_brought h) cuts now j e g) (deliverable_kept h cuts now j e g q)

  down_kept : (h : Meanings) (cuts : Cuts) (now : Standing) (j : ℕ) (o : Option Message) → message_of now.tape j ≡ o → receiver_down now o ≡ false → Good nobody c now → Q now → Q (handed c h cuts now j o)
  down_kept h cuts now j None is r g q = q
  down_kept h cuts now j (Some m) is r g q = handed_kept h cuts now j (Some m) is (not-false (up now m.to) r) g q

  event_kept : (h : Meanings) (cuts : Cuts) (now : Standing) (event : WorldEvent) → refusal c now event ≡ None → Good nobody c now → Q now → Q (after_event c h cuts now event)
  event_kept h cuts now (TickEvent node clock) r g q =
      let second = (not_because (not (is_node c node.0)) 6 _ r).1 in let third = (not_because (not (up now node.0)) 1 _ second).0 in
      (k.ticks) h now node.0 clock (cuts now node.0) g (not-false (up now node.0) third) q
  event_kept h cuts now (Deliver j) r g q =
      let second = (not_because (not (is_sent now.tape j)) 3 _ r).1 in let third = (not_because (is_dropped now.tape j) 4 _ second).1 in
      down_kept h cuts now j (message_of now.tape j) refl (not_because (receiver_down now (message_of now.tape j)) 1 None third).0 g q
  event_kept h cuts now (Drop j) r g q = (k.marks) now (Dropped j) tt g q
  event_kept h cuts now (Drain most) r g q = drained_kept h cuts most now g q
  event_kept h cuts now (CrashEvent node) r g q = (k.crash) now node.0 g q
  event_kept h cuts now (StartEvent node) r g q = (k.starts) h now node.0 (fate_by now node.0 (cuts now node.0) (start_calls c node.0)) g q
  event_kept h cuts now (FuseEvent node calls image Log) r g q = (k.fuses) now (set_at now.log_fuse node.0 (new_fuse calls image)) now.data_fuse q
  event_kept h cuts now (FuseEvent node calls image Data) r g q = (k.fuses) now now.log_fuse (set_at now.data_fuse node.0 (new_fuse calls image)) q
  event_kept h cuts now (BeginEvent node request text) r g q =
      let second = (not_because (not (is_node c node.0)) 6 _ r).1 in let third = (not_because (not (up now node.0)) 1 _ second).0 in
      (k.begins) h now node.0 request text (cuts now node.0) g (not-false (up now node.0) third) q

  all_kept : (cuts : Cuts) (events : List Happening) (now : Standing) → Good nobody c now → Q now → Q (goes_on c cuts now events)
  all_kept cuts [] now g q = q
  all_kept cuts (one ∷ events) now g q = go (refusal c now one.event) refl (all_kept cuts events)
    where
      go : (o : Option ℕ) → refusal c now one.event ≡ o → ((next : Standing) → Good nobody c next → Q next → Q (goes_on c cuts next events))
          → Q (goes_on c cuts (unless_refused now (after_event c one.handlers cuts now one.event) o) events)
      go None r more = more (after_event c one.handlers cuts now one.event)
          (event_good nobody c one.handlers (none_brought one.handlers) cuts now one.event (none_meant one.event) r g) (event_kept one.handlers cuts now one.event r g q)
      go (Some why) r more = more now g q

  opened_kept : (h : Meanings) (those : List ℕ) (now : Standing) → Good nobody c now → Q now → Q (fold (λ now me. fated_start c h now me Whole) now those)
  opened_kept h [] now g q = q
  opened_kept h (me ∷ those) now g q = opened_kept h those (fated_start c h now me Whole) (start_good nobody c h now me g) ((k.starts) h now me Whole g q)

  -- what each event keeps, and held at first, holds of every run
  pub run_keeps : (first : Meanings) (events : List Happening) (tape : List Item) → (run : IsRun c first events tape) → Q nothing_yet → Q (goes_on c run.cuts (opening c first) events)
  run_keeps first events tape run q = all_kept run.cuts events (opening c first) (opened_good nobody c first (nodes c) nothing_yet (nothing_good nobody c)) (opened_kept first (nodes c) nothing_yet (nothing_good nobody c) q)

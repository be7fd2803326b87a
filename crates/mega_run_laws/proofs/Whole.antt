-- A node that takes a message leaves a good standing.
use Rattle.std.proofs.Common.{◌≡◌, inl, inr, ℕ, ◌+◌, ◌&&◌, ◌||◌, Bool, true, false, not, cond, List, [], ◌∷◌, ◌++◌, map, flat_map, length, Option, Some, None, refl, sym, ap, ◌∙◌, subst, arith}
use Rattle.std.specs.List.{cons_option}
use Rattle.mega_base.specs.declared.names.GroupId.{GroupId}
use Rattle.mega_base.specs.declared.names.OpId.{OpId}
use Rattle.mega_cluster.specs.declared.cluster.Cluster.{Cluster}
use Rattle.mega_entry.specs.declared.content.Content.{Content}
use Rattle.mega_wire.specs.declared.message.Message.{Message}
use Rattle.mega_wire.specs.declared.message.Body.{Body}
use Rattle.mega_tape_laws.specs.of_transcript.declared.item.Item.{Item}
use Rattle.mega_tape_laws.specs.of_transcript.declared.item.Item.TheVariants.{Sent, Taken, Decide, Unsafe}
use Rattle.mega_tape_laws.specs.of_transcript.Tape.{sent_count}
use Rattle.mega_tape_laws.specs.of_promises.Items.{number, shown}
use Rattle.mega_tape_laws.specs.of_promises.Promises.{Stands}
use Rattle.mega_tape_laws.specs.of_promises.Runs.{Standing, breaks, with_item, with_items}
use Rattle.mega_tape_laws.specs.of_promises.Messages.{is_unsafe}
use Rattle.mega_tape_laws.specs.of_read.of_propose.Members.{others}
use Rattle.mega_tape_laws.specs.of_rules.Met.{Met, Starts, Crashes, Decides, Takes}
use Rattle.mega_tape_laws.specs.of_rules.Members.{nodes}
use Rattle.mega_tape_laws.specs.of_rules.Clock.{begun_of, clock_of, is_up, start_of}
use Rattle.mega_tape_laws.specs.of_rules.Logs.{decided}
use Rattle.mega_tape_laws.specs.of_rules.Operations.{Node, Now, Setting}
use Rattle.mega_tape_laws.specs.of_rules.Replies.{answer_to, reply_message, reply_to}
use Rattle.mega_tape_laws.specs.of_rules.Steps.{Decision, Heard, Step, all_act, apply_notes, at_first, decide_to, decision_note, first_settled, hears_message, if_new, news, onto, stored_after, take_step, taken, told_decision, told_notes}
use Rattle.mega_tape_laws.specs.Places.{In, Place, Took, moves}
use Rattle.mega_run_laws.proofs.Owned.{Users, quiet_written}
use Rattle.mega_tape_laws.specs.Lawful.{Lawful, message}
use Rattle.mega_tape_laws.specs.Polls.{ArePolls, has_asked}
use Rattle.mega_tape_laws.specs.Writes.{AreWritten}
use Rattle.mega_run_laws.specs.Usages.{Brought}
use Rattle.mega_run_laws.specs.Shows.{Shows}
use Rattle.mega_run_laws.specs.Justified.{Each, sent}
use Rattle.mega_run_laws.proofs.Replied.{Fair, answer_fair}
use Rattle.mega_run_laws.proofs.MayAnswer.{MayAnswer, answer_told}
use Rattle.mega_run_laws.proofs.Sending.{Stood, stood_sent, took_on}
use Rattle.mega_run_laws.proofs.Opened.{Grew, same_met}
use Rattle.mega_run_laws.proofs.Turns.{Held, Known, each_on, held_on, sent_append}
use Rattle.mega_run_laws.proofs.Noting.{all_act_it}
use Rattle.mega_run_laws.proofs.Noted.{Follows, MayBeNoted, notes_follow, tape_item}
use Rattle.mega_run_laws.proofs.Beginning.{AllActed, all_act_fine}
use Rattle.mega_run_laws.proofs.Deciding.{decision_silent, first_may, new_may, told_may}
use Rattle.mega_run_laws.proofs.Standing.{FromMe, Good, NodeGood}
use Rattle.mega_run_laws.proofs.Stepping.{Next, Own, step_next}
use Rattle.mega_run_laws.proofs.Events.{Before, Noted, Unheard, acted_sends, answer_notes, apply_plain, each_append, first_fine, noted_lasts, notes_grew, onto_append, onto_decided, onto_grew, plain_notes, plain_silents, told_plain, unheard_by}
use Rattle.mega_run_laws.proofs.Answering.{quiet_answered}
use Rattle.mega_run_laws.proofs.Silent.{IsSilent}
use Rattle.mega_tape_laws.specs.Answers.{AreAnswered}

-- ---- what is noted stands

pub with_stood_one : (c : Cluster) (nodes' : ℕ → Node) (tape : List Item) (item : Item) → Stood tape (with_item c nodes' tape item)
with_stood_one c nodes' tape item = go (breaks c nodes' item && not (is_unsafe tape))
  where
    go : (t : Bool) (other : Item) → Stands other tape → Stands other (cond t (Unsafe ∷ item ∷ tape) (item ∷ tape))
    go true other s = inr (inr s)
    go false other s = inr s

with_stood : (c : Cluster) (nodes' : ℕ → Node) (items tape : List Item) → Stood tape (with_items c nodes' tape items)
with_stood c nodes' [] tape other s = s
with_stood c nodes' (item ∷ items) tape other s = with_stood c nodes' items (with_item c nodes' tape item) other (with_stood_one c nodes' tape item other s)

pub with_stands : (c : Cluster) (nodes' : ℕ → Node) (items tape : List Item) (item : Item) → In item items → Stands item (with_items c nodes' tape items)
with_stands c nodes' [] tape item i = absurd i
with_stands c nodes' (one ∷ items) tape item (inl same) = with_stood c nodes' items (with_item c nodes' tape one) item (subst (λ x. Stands x (with_item c nodes' tape one)) same (go (breaks c nodes' one && not (is_unsafe tape))))
  where
    go : (t : Bool) → Stands one (cond t (Unsafe ∷ one ∷ tape) (one ∷ tape))
    go true = inr (inl refl)
    go false = inl refl
with_stands c nodes' (one ∷ items) tape item (inr i) = with_stands c nodes' items (with_item c nodes' tape one) item i

pub in_left : {X : Type 0} (x : X) (xs ys : List X) → In x xs → In x (xs ++ ys)
in_left x [] ys i = absurd i
in_left x (y ∷ xs) ys (inl e) = inl e
in_left x (y ∷ xs) ys (inr i) = inr (in_left x xs ys i)

pub in_right : {X : Type 0} (x : X) (xs ys : List X) → In x ys → In x (xs ++ ys)
in_right x [] ys i = i
in_right x (y ∷ xs) ys i = inr (in_right x xs ys i)

pub in_shown : (me : ℕ) (g : GroupId) (n : ℕ) (e : Content) (notes : List Met) → In (Decides g n e) notes → In (Decide (number me) g (record { 0 = n }) e) (flat_map (shown me) notes)
in_shown me g n e [] i = absurd i
in_shown me g n e (one ∷ notes) (inl same) = in_left (Decide (number me) g (record { 0 = n }) e) (shown me one) (flat_map (shown me) notes)
    (subst (λ x. In (Decide (number me) g (record { 0 = n }) e) (shown me x)) (sym same) (inl refl))
in_shown me g n e (one ∷ notes) (inr i) = in_right (Decide (number me) g (record { 0 = n }) e) (shown me one) (flat_map (shown me) notes) (in_shown me g n e notes i)

-- ---- replies and news

pub none_before : (c : Cluster) (me : ℕ) (tape : List Item) (k : ℕ) → Before c me tape k []
none_before c me tape k = record { lawful = λ l. l; polls = λ p. p; written = λ schema usage w. w; moved = λ x q. refl; asked = λ x. refl; answered = λ schema usage a. a; mine = tt }

both_before : (c : Cluster) (me : ℕ) (tape : List Item) (k : ℕ) (xs ys : List Message) → Before c me tape k xs → Before c me (sent k xs tape) (k + length xs) ys → Before c me tape k (xs ++ ys)
both_before c me tape k xs ys a b = record {
  lawful = λ l. subst (Lawful c) (sym whole) (b.lawful (a.lawful l));
  polls = λ p. subst ArePolls (sym whole) (b.polls (a.polls p));
  written = λ schema usage w. subst (AreWritten schema usage) (sym whole) (b.written schema usage (a.written schema usage w));
  moved = λ x q. ap (λ t. moves t x q) whole ∙ b.moved x q ∙ a.moved x q;
  asked = λ x. ap (λ t. has_asked t x) whole ∙ b.asked x ∙ a.asked x;
  answered = λ schema usage h. subst (AreAnswered schema usage) (sym whole) (b.answered schema usage (a.answered schema usage h));
  mine = each_append (FromMe me) xs ys a.mine b.mine;
}
  where
    whole : sent k (xs ++ ys) tape ≡ sent (k + length xs) ys (sent k xs tape)
    whole = sent_append k xs ys tape

reply_before : (c : Cluster) (tape : List Item) (me : ℕ) (met : List Met) (m : Message) (k : ℕ) → Shows tape me met → Took tape (message m.from me m.body) → Before c me tape k (reply_to c me met m)
reply_before c tape me met m k s took = go (answer_to c me met m.from m.body) (λ answer h. (answer_fair c tape me m.from met s m.body took answer h, answer_told c tape me m.from met s m.body took answer h))
  where
    go : (o : Option Body) → ((answer : Body) → o ≡ Some answer → Fair c tape (message me m.from answer) answer × MayAnswer tape (message me m.from answer) answer) → Before c me tape k (reply_message me m.from o)
    go None h = none_before c me tape k
    go (Some answer) h = let fair = (h answer refl).0 in let told = (h answer refl).1 in record {
      lawful = λ l. ((fair.0).0, l);
      polls = λ p. (told.0, p);
      written = λ schema usage w. quiet_written schema usage k (message me m.from answer ∷ []) tape (told.2, tt) w;
      moved = λ x q. ap (λ o. cons_option o (moves tape x q)) (fair.1 x q);
      asked = λ x. ap (λ t. t || has_asked tape x) (told.1 x);
      answered = λ schema usage a. quiet_answered schema usage k (message me m.from answer ∷ []) tape (told.2, tt) a;
      mine = (inl refl, tt);
    }

told_before : (c : Cluster) (tape : List Item) (me : ℕ) (d : Decision) (k : ℕ) (to : List ℕ) → Stands (Decide (number me) d.group (record { 0 = d.position }) d.entry) tape → Before c me tape k (map (decide_to me d) to)
told_before c tape me d k [] s = none_before c me tape k
told_before c tape me d k (one ∷ to) s = let rest = told_before c (Sent k (decide_to me d one) ∷ tape) me d (k + 1) to (inr s) in record {
  lawful = λ l. rest.lawful (s, l);
  polls = λ p. rest.polls (tt, p);
  written = λ schema usage w. rest.written schema usage (tt, w);
  moved = λ x q. rest.moved x q;
  asked = λ x. rest.asked x;
  answered = λ schema usage a. rest.answered schema usage (tt, a);
  mine = (inl refl, rest.mine);
}

news_before : (s : Setting) (tape : List Item) (d : Option Decision) (k : ℕ) → ((one : Decision) → d ≡ Some one → Stands (Decide (number s.me) one.group (record { 0 = one.position }) one.entry) tape) → Before s.cluster s.me tape k (news s d)
news_before s tape None k h = none_before s.cluster s.me tape k
news_before s tape (Some d) k h = told_before s.cluster tape s.me d k (others s.me (nodes s.cluster)) (h d refl)

-- ---- a message

-- what a step notes and sends leads on
abbrev pub StepNext : Users → Setting → Standing → (ℕ → Node) → Item → Met → Step → Type 0
StepNext users s now nodes' item own made =
    Next users s.cluster now s.me (sent (sent_count now.tape + 1) made.sends (with_items s.cluster nodes' (item ∷ now.tape) (flat_map (shown s.me) made.notes))) made.node now.starts now.owed
    × Each (MayBeNoted s.cluster (item ∷ now.tape) s.me) made.notes

up_one : (c : Cluster) (tape : List Item) (me : ℕ) (one : Met) (met : List Met) → MayBeNoted c tape me one → is_up met ≡ true → is_up (one ∷ met) ≡ true
up_one c tape me (Starts start) met h up = refl
up_one c tape me Crashes met h up = absurd h
up_one c tape me _ met h up = up

pub up_onto : (c : Cluster) (tape : List Item) (me : ℕ) (notes met : List Met) → Each (MayBeNoted c tape me) notes → is_up met ≡ true → is_up (onto notes met) ≡ true
up_onto c tape me [] met h up = up
up_onto c tape me (one ∷ notes) met h up = up_onto c tape me notes (one ∷ met) h.1 (up_one c tape me one met h.0 up)

pub own_taken : (c : Cluster) (tape : List Item) (j : ℕ) (m : Message) (met : List Met) → Own c tape (Taken j) met (Takes m)
own_taken c tape j m met = record { on = tape_item c tape (Taken j) tt (λ x q. refl) (λ v q. refl) (λ x. refl) tt (λ schema usage. tt); begins = λ x other. refl; answered = λ schema usage. tt; failed = λ x. refl; made = λ g n. refl; decides = λ g n. refl; start = refl; begun = omega arith; up = refl }

pub held_first : (users : Users) → (c : Cluster) (old new : List Item) (me : ℕ) (node : Node) → Stood old new → ((x : OpId) (q : Place) → moves new x q ≡ moves old x q) → NodeGood users c old me node
    → Each (Held users c new me (start_of node.met) (begun_of node.met + 1) node.met) node.open_operations
held_first users c old new me node s same g = each_on (Held users c old me (start_of node.met) (begun_of node.met + 1) node.met) (Held users c new me (start_of node.met) (begun_of node.met + 1) node.met)
    (λ o held. held_on users c old new me (start_of node.met) (begun_of node.met + 1) (begun_of node.met + 1) node.met node.met o (record { stood = s; moved = λ q. same o.id q }) (same_met node.met) (omega arith) held) node.open_operations g.held

pub taken_next : (users : Users) → (s : Setting) → (users.fits → Brought users.usage s.handlers) → (now : Standing) (nodes' : ℕ → Node) (j : ℕ) (m : Message) (d : Option Decision) (telling : Option Decision) → Good users s.cluster now → is_up (now.node s.me).met ≡ true
    → Stands (Sent j (message m.from s.me m.body)) now.tape
    → (Took (Taken j ∷ now.tape) (message m.from s.me m.body) → Each (MayBeNoted s.cluster (Taken j ∷ now.tape) s.me) (decision_note d))
    → ((one : Decision) → telling ≡ Some one → d ≡ Some one)
    → StepNext users s now nodes' (Taken j) (Takes m) (taken s (now.node s.me) m (told_notes s (now.node s.me).met m.from m.body) (map (hears_message s (clock_of (now.node s.me).met) m) (now.node s.me).open_operations) d
    (reply_to s.cluster s.me (now.node s.me).met m) (news s telling))
taken_next users s brought now nodes' j m d telling g up stands may same = (
  step_next users c now me nodes' (Taken j) (Takes m) notes k ((reply ++ told_news) ++ acted.sends) acted.kept acted.stored _ g up (own_taken c now.tape j m met) all_may
      (acted_sends users s nodes' me st l k tape1 tape2 (onto notes met1) (reply ++ told_news) acted ((follows.tape).polls (tt, g.polls)) before all_done grown unheard) refl (λ x h. tt) (up_onto c tape1 me notes met1 all_may up),
  all_may,
)
  where
    c : Cluster
    c = s.cluster

    me : ℕ
    me = s.me

    node : Node
    node = now.node s.me

    met : List Met
    met = node.met

    met1 : List Met
    met1 = Takes m ∷ met

    st : ℕ
    st = start_of met

    l : ℕ
    l = begun_of met + 1

    k : ℕ
    k = sent_count now.tape + 1

    told : List Met
    told = told_notes s met m.from m.body

    reply : List Message
    reply = reply_to c me met m

    told_news : List Message
    told_news = news s telling

    first : List Met
    first = onto (decision_note d) (onto told met1)

    begin : Now
    begin = at_first first (stored_after s first node.stored d)

    acted : Now
    acted = all_act s begin (map (hears_message s (clock_of met) m) node.open_operations)

    applies : List Met
    applies = apply_notes s met node.stored acted.met acted.stored

    silent : List Met
    silent = ((told ++ decision_note d) ++ applies) ++ acted.valid

    notes : List Met
    notes = silent ++ acted.answers

    tape1 : List Item
    tape1 = Taken j ∷ now.tape

    tape2 : List Item
    tape2 = with_items c nodes' tape1 (flat_map (shown me) notes)

    took : Took tape1 (message m.from me m.body)
    took = record { number = j; sent = inr stands; taken = inl refl }

    noted : Noted first acted
    noted = all_act_it (Noted first) (noted_lasts first) s (map (hears_message s (clock_of met) m) node.open_operations) begin
        (record { decides = λ h n e x. x; long = omega arith; valid = tt; answers = tt })

    all_may : Each (MayBeNoted c tape1 me) notes
    all_may = each_append (MayBeNoted c tape1 me) (((told ++ decision_note d) ++ applies) ++ acted.valid) acted.answers
        (each_append (MayBeNoted c tape1 me) ((told ++ decision_note d) ++ applies) acted.valid
        (each_append (MayBeNoted c tape1 me) (told ++ decision_note d) applies
        (each_append (MayBeNoted c tape1 me) told (decision_note d) (plain_notes c tape1 me told (told_plain s met m.from m.body)) (may took))
        (plain_notes c tape1 me applies (apply_plain s met node.stored acted.met acted.stored)))
        (plain_notes c tape1 me acted.valid noted.valid))
        (answer_notes c tape1 me acted.answers noted.answers)

    are_silent : Each IsSilent silent
    are_silent = each_append IsSilent ((told ++ decision_note d) ++ applies) acted.valid
        (each_append IsSilent (told ++ decision_note d) applies
        (each_append IsSilent told (decision_note d) (plain_silents told (told_plain s met m.from m.body)) (decision_silent d))
        (plain_silents applies (apply_plain s met node.stored acted.met acted.stored)))
        (plain_silents acted.valid noted.valid)

    unheard : Unheard users c nodes' me tape1 tape2 acted.answers
    unheard = unheard_by users c nodes' me tape1 silent acted.answers are_silent (λ fits. (tt, g.answered fits))

    follows : Follows c me tape1 met1 tape2 (onto notes met1)
    follows = notes_follow c me nodes' notes tape1 met1 all_may

    spread : onto notes met1 ≡ onto acted.answers (onto acted.valid (onto applies first))
    spread = onto_append (((told ++ decision_note d) ++ applies) ++ acted.valid) acted.answers met1
        ∙ ap (onto acted.answers) (onto_append ((told ++ decision_note d) ++ applies) acted.valid met1)
        ∙ ap (λ x. onto acted.answers (onto acted.valid x)) (onto_append (told ++ decision_note d) applies met1)
        ∙ ap (λ x. onto acted.answers (onto acted.valid (onto applies x))) (onto_append told (decision_note d) met1)

    grown : Grew acted.met (onto notes met1)
    grown = subst (Grew acted.met) (sym spread) (notes_grew first applies acted noted)

    stood2 : Stood now.tape tape2
    stood2 item x = (follows.tape).stood item (inr x)

    moved2 : (x : OpId) (q : Place) → moves tape2 x q ≡ moves now.tape x q
    moved2 x q = (follows.tape).moved x q

    shows2 : Shows tape2 me met
    shows2 = record { made = λ p. (g.node me).made p ∙ sym ((follows.tape).made me p); decides = λ h n e x. stood2 _ ((g.node me).known h n e x) }

    noted_in : (one : Decision) → d ≡ Some one → In (Decides one.group one.position one.entry) notes
    noted_in one is = in_left _ (((told ++ decision_note d) ++ applies) ++ acted.valid) acted.answers (in_left _ ((told ++ decision_note d) ++ applies) acted.valid (in_left _ (told ++ decision_note d) applies
        (in_right _ told (decision_note d) (subst (λ x. In (Decides one.group one.position one.entry) (decision_note x)) (sym is) (inl refl)))))

    before : Before c me tape2 k (reply ++ told_news)
    before = both_before c me tape2 k reply told_news (reply_before c tape2 me met m k shows2 (took_on tape1 tape2 (follows.tape).stood (message m.from me m.body) took))
        (news_before s (sent k reply tape2) telling (k + length reply)
        (λ one is. stood_sent k reply tape2 _ (with_stands c nodes' (flat_map (shown me) notes) tape1 _ (in_shown me one.group one.position one.entry notes (noted_in one (same one is))))))

    base : List Item
    base = sent k (reply ++ told_news) tape2

    known_first : Known me first base
    known_first h n e x = stood_sent k (reply ++ told_news) tape2 _ (follows.known (λ h' n' e' y. inr ((g.node me).known h' n' e' y)) h n e (ap (λ z. decided z h n) spread
        ∙ onto_decided acted.answers (onto acted.valid (onto applies first)) h n e (onto_decided acted.valid (onto applies first) h n e (onto_decided applies first h n e x))))

    all_done : AllActed users s (record { me = me; start = st; next = k + length (reply ++ told_news); base = base; early = tape1 }) l acted
    all_done = all_act_fine users s brought (record { me = me; start = st; next = k + length (reply ++ told_news); base = base; early = tape1 }) met (clock_of met) m l node.open_operations begin 0 0
        (first_fine users c (record { me = me; start = st; next = k + length (reply ++ told_news); base = base; early = tape1 }) first (before.lawful ((follows.tape).lawful ((own_taken c now.tape j m met).on.lawful g.lawful)))
        (λ fits. before.written c.schema users.usage ((follows.tape).written c.schema users.usage (tt, g.written fits))) known_first)
        (omega arith) (omega arith) (g.node me).rising
        (held_first users c now.tape base me node (λ item x. stood_sent k (reply ++ told_news) tape2 item (stood2 item x)) (λ x q. before.moved x q ∙ moved2 x q) (g.node me))
        (λ h. (let one = onto_grew (Takes m ∷ []) met h in let two = onto_grew told met1 h in let three = onto_grew (decision_note d) (onto told met1) h in omega (arith, one, two, three)))
        (g.node me).unfailed
        (took_on tape1 base (λ item x. stood_sent k (reply ++ told_news) tape2 item ((follows.tape).stood item x)) (message m.from me m.body) took)

-- what becomes of a message by what it tells of a decision
abbrev pub take_by : Setting → Node → Message → List Heard → Option Decision → Step
take_by s node m ts (Some d) = taken s node m (told_notes s node.met m.from m.body) ts (if_new node.met (Some d)) (reply_to s.cluster s.me node.met m) []
take_by s node m ts None = taken s node m (told_notes s node.met m.from m.body) ts (if_new node.met (first_settled ts)) (reply_to s.cluster s.me node.met m) (news s (if_new node.met (first_settled ts)))

pub take_next : (users : Users) → (s : Setting) → (users.fits → Brought users.usage s.handlers) → (now : Standing) (nodes' : ℕ → Node) (j : ℕ) (m : Message) → Good users s.cluster now → is_up (now.node s.me).met ≡ true
    → Stands (Sent j (message m.from s.me m.body)) now.tape → StepNext users s now nodes' (Taken j) (Takes m) (take_step s (now.node s.me) m)
take_next users s brought now nodes' j m g up stands = go (told_decision m.body) refl
  where
    ts : List Heard
    ts = map (hears_message s (clock_of (now.node s.me).met) m) (now.node s.me).open_operations

    go : (e : Option Decision) → told_decision m.body ≡ e → StepNext users s now nodes' (Taken j) (Takes m) (take_by s (now.node s.me) m ts e)
    go (Some d) is = taken_next users s brought now nodes' j m (if_new (now.node s.me).met (Some d)) None g up stands
        (λ took. new_may s.cluster (Taken j ∷ now.tape) s.me (now.node s.me).met (Some d) (λ x h. told_may s.cluster (Taken j ∷ now.tape) s.me m.from m.body took x (is ∙ h)))
        (λ one h. cc)
    go None is = taken_next users s brought now nodes' j m (if_new (now.node s.me).met (first_settled ts)) (if_new (now.node s.me).met (first_settled ts)) g up stands
        (λ took. new_may s.cluster (Taken j ∷ now.tape) s.me (now.node s.me).met (first_settled ts)
        (first_may users s (Taken j ∷ now.tape) s.me (start_of (now.node s.me).met) (begun_of (now.node s.me).met + 1) (now.node s.me).met (clock_of (now.node s.me).met) m (now.node s.me).open_operations
        (held_first users s.cluster now.tape (Taken j ∷ now.tape) s.me (now.node s.me) (λ item x. inr x) (λ x q. refl) (g.node s.me)) took))
        (λ one h. h)

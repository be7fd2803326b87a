-- A node that ticks leaves a good standing.
use Rattle.std.proofs.Common.{◌≡◌, inr, ℕ, ◌+◌, ◌&&◌, nat_lt, Bool, true, false, cond, List, [], ◌∷◌, ◌++◌, map, flat_map, fold, length, Option, Some, None, refl, sym, ap, ◌∙◌, subst, arith}
use Rattle.mega_base.specs.declared.names.OpId.{OpId}
use Rattle.mega_cluster.specs.declared.cluster.Cluster.{Cluster}
use Rattle.mega_wire.specs.declared.message.Message.{Message}
use Rattle.mega_tape_laws.specs.of_transcript.declared.item.Item.{Item}
use Rattle.mega_tape_laws.specs.of_transcript.declared.item.Item.TheVariants.{Tick}
use Rattle.mega_tape_laws.specs.of_transcript.Tape.{sent_count}
use Rattle.mega_tape_laws.specs.of_promises.Items.{number, shown}
use Rattle.mega_tape_laws.specs.of_promises.Runs.{Standing, with_items}
use Rattle.mega_tape_laws.specs.of_read.of_propose.Members.{others}
use Rattle.mega_tape_laws.specs.of_rules.Met.{Met, Ticks}
use Rattle.mega_tape_laws.specs.of_rules.Members.{has_rows, is_full, voters}
use Rattle.mega_tape_laws.specs.of_rules.Clock.{begun_of, does_again, ticks_of, is_up, start_of}
use Rattle.mega_coordinator.specs.History.{Call, Ticks as CoordinatorTicks, counted_cells, epoch_after, serving}
use Rattle.mega_base.specs.declared.names.Epoch.{Epoch}
use Rattle.mega_tape_laws.specs.of_rules.Coordinators.{acquire_to, acquires, acquires_at, asked_cells, coordinator_calls}
use Rattle.mega_tape_laws.specs.of_rules.Logs.{decided, groups_of, newest_of, prefix_of}
use Rattle.mega_tape_laws.specs.of_rules.Operations.{Node, Now, Setting}
use Rattle.mega_tape_laws.specs.of_rules.Steps.{background, fetch_to, fetches_for, lapse_notes, lease_notes, portion_of, tick_step, ticked, apply_notes, at_first, onto}
use Rattle.mega_tape_laws.specs.Places.{Place, moves}
use Rattle.mega_run_laws.specs.Usages.{Brought}
use Rattle.mega_run_laws.proofs.Owned.{Users}
use Rattle.mega_run_laws.specs.Justified.{Each, sent}
use Rattle.mega_run_laws.proofs.Sending.{Stood, stood_sent}
use Rattle.mega_run_laws.proofs.Opened.{Grew}
use Rattle.mega_run_laws.proofs.Turns.{Known}
use Rattle.mega_run_laws.proofs.Noting.{ticked_it}
use Rattle.mega_run_laws.proofs.Noted.{Follows, MayBeNoted, notes_follow, tape_item}
use Rattle.mega_run_laws.proofs.Beginning.{AllActed, ticked_fine}
use Rattle.mega_run_laws.proofs.Standing.{Good}
use Rattle.mega_run_laws.proofs.Stepping.{Own, step_next}
use Rattle.mega_run_laws.proofs.Events.{Before, behind, free_before, lapses_plain, lease_plain, Noted, Unheard, acted_sends, answer_notes, apply_plain, each_append, first_fine, noted_lasts, notes_grew, onto_append, onto_decided, onto_grew, plain_notes, plain_silents, unheard_by}
use Rattle.mega_run_laws.proofs.Silent.{IsSilent}
use Rattle.mega_run_laws.proofs.Free.{AreFree, IsFree, each_flat, each_of}
use Rattle.mega_run_laws.proofs.Whole.{StepNext, held_first, up_onto}

free_if : (t : Bool) (ms : List Message) → AreFree ms → AreFree (cond t ms [])
free_if true ms h = h
free_if false ms h = tt

acquires_by : (c : Cluster) (me : ℕ) (calls : List Call) (start clock : ℕ) (o : Option Epoch) → AreFree (acquires c me calls start clock o)
acquires_by c me calls start clock None = tt
acquires_by c me calls start clock (Some epoch) = each_of IsFree (acquire_to me epoch clock) (λ to. tt) (asked_cells c (counted_cells start c.cells calls) (serving start c.cells calls))

acquires_free : (c : Cluster) (me : ℕ) (met : List Met) (clock : ℕ) → AreFree (acquires_at c me met clock)
acquires_free c me met clock = free_if (is_full c me && does_again c.retry (ticks_of met) clock) (acquires c me (CoordinatorTicks clock ∷ coordinator_calls c met) (start_of met) clock (epoch_after (start_of met) c.cells (CoordinatorTicks clock ∷ coordinator_calls c met)))
    (acquires_by c me (CoordinatorTicks clock ∷ coordinator_calls c met) (start_of met) clock (epoch_after (start_of met) c.cells (CoordinatorTicks clock ∷ coordinator_calls c met)))

background_free : (s : Setting) (met : List Met) (clock : ℕ) → AreFree (background s met clock)
background_free s met clock = free_if (has_rows s.cluster s.me && does_again s.cluster.retry (ticks_of met) clock) (flat_map (fetches_for s met) (groups_of met))
    (each_flat IsFree (fetches_for s met) (λ group. free_if (nat_lt (prefix_of met group) (newest_of met group)) (map (fetch_to s met group) (others s.me (voters s.cluster))) (each_of IsFree (fetch_to s met group) (λ to. tt) (others s.me (voters s.cluster)))) (groups_of met))

pub own_tick : (c : Cluster) (tape : List Item) (me clock : ℕ) (met : List Met) → Own c tape (Tick (number me) clock) met (Ticks clock)
own_tick c tape me clock met = record { on = tape_item c tape (Tick (number me) clock) tt (λ x q. refl) (λ v q. refl) (λ x. refl) tt (λ schema usage. tt); begins = λ x other. refl; answered = λ schema usage. tt; failed = λ x. refl; made = λ g n. refl; decides = λ g n. refl; start = refl; begun = omega arith; up = refl }

pub ticked_next : (users : Users) → (s : Setting) → (users.fits → Brought users.usage s.handlers) → (now : Standing) (nodes' : ℕ → Node) (clock : ℕ) → Good users s.cluster now → is_up (now.node s.me).met ≡ true
    → StepNext users s now nodes' (Tick (number s.me) clock) (Ticks clock) (tick_step s (now.node s.me) clock)
ticked_next users s brought now nodes' clock g up = (
  step_next users c now me nodes' (Tick (number s.me) clock) (Ticks clock) notes k ((pre ++ acted.sends) ++ background s met clock) acted.kept acted.stored _ g up (own_tick c now.tape me clock met) all_may
      (behind users c me st l k tape1 tape2 (onto notes met1) (pre ++ acted.sends) (background s met clock) acted.kept (acted_sends users s nodes' me st l k tape1 tape2 (onto notes met1) pre acted ((follows.tape).polls (tt, g.polls)) before all_done grown unheard) (background_free s met clock)) refl (λ x h. tt) (up_onto c tape1 me notes met1 all_may up),
  all_may,
)
  where
    c : Cluster
    c = s.cluster

    me : ℕ
    me = s.me

    node : Node
    node = now.node s.me

    met : List Met
    met = node.met

    met1 : List Met
    met1 = Ticks clock ∷ met

    st : ℕ
    st = start_of met

    l : ℕ
    l = begun_of met + 1

    k : ℕ
    k = sent_count now.tape + 1

    told : List Met
    told = lease_notes s met clock

    later : List Met
    later = lapse_notes s met clock

    pre : List Message
    pre = acquires_at c me met clock

    first : List Met
    first = onto (later) (onto told met1)

    begin : Now
    begin = at_first first (portion_of s met node.stored)

    acted : Now
    acted = fold (ticked s clock) begin node.open_operations

    applies : List Met
    applies = apply_notes s met node.stored acted.met acted.stored

    silent : List Met
    silent = ((told ++ later) ++ applies) ++ acted.valid

    notes : List Met
    notes = silent ++ acted.answers

    tape1 : List Item
    tape1 = Tick (number s.me) clock ∷ now.tape

    tape2 : List Item
    tape2 = with_items c nodes' tape1 (flat_map (shown me) notes)

    noted : Noted first acted
    noted = ticked_it (Noted first) (noted_lasts first) s clock node.open_operations begin
        (record { decides = λ h n e x. x; long = omega arith; valid = tt; answers = tt })

    all_may : Each (MayBeNoted c tape1 me) notes
    all_may = each_append (MayBeNoted c tape1 me) (((told ++ later) ++ applies) ++ acted.valid) acted.answers
        (each_append (MayBeNoted c tape1 me) ((told ++ later) ++ applies) acted.valid
        (each_append (MayBeNoted c tape1 me) (told ++ later) applies
        (each_append (MayBeNoted c tape1 me) told (later) (plain_notes c tape1 me told (lease_plain s met clock)) (plain_notes c tape1 me later (lapses_plain s met clock)))
        (plain_notes c tape1 me applies (apply_plain s met node.stored acted.met acted.stored)))
        (plain_notes c tape1 me acted.valid noted.valid))
        (answer_notes c tape1 me acted.answers noted.answers)

    are_silent : Each IsSilent silent
    are_silent = each_append IsSilent ((told ++ later) ++ applies) acted.valid
        (each_append IsSilent (told ++ later) applies
        (each_append IsSilent told later (plain_silents told (lease_plain s met clock)) (plain_silents later (lapses_plain s met clock)))
        (plain_silents applies (apply_plain s met node.stored acted.met acted.stored)))
        (plain_silents acted.valid noted.valid)

    unheard : Unheard users c nodes' me tape1 tape2 acted.answers
    unheard = unheard_by users c nodes' me tape1 silent acted.answers are_silent (λ fits. (tt, g.answered fits))

    follows : Follows c me tape1 met1 tape2 (onto notes met1)
    follows = notes_follow c me nodes' notes tape1 met1 all_may

    spread : onto notes met1 ≡ onto acted.answers (onto acted.valid (onto applies first))
    spread = onto_append (((told ++ later) ++ applies) ++ acted.valid) acted.answers met1
        ∙ ap (onto acted.answers) (onto_append ((told ++ later) ++ applies) acted.valid met1)
        ∙ ap (λ x. onto acted.answers (onto acted.valid x)) (onto_append (told ++ later) applies met1)
        ∙ ap (λ x. onto acted.answers (onto acted.valid (onto applies x))) (onto_append told (later) met1)

    grown : Grew acted.met (onto notes met1)
    grown = subst (Grew acted.met) (sym spread) (notes_grew first applies acted noted)

    stood2 : Stood now.tape tape2
    stood2 item x = (follows.tape).stood item (inr x)

    moved2 : (x : OpId) (q : Place) → moves tape2 x q ≡ moves now.tape x q
    moved2 x q = (follows.tape).moved x q

    before : Before c me tape2 k pre
    before = free_before c me tape2 k pre (acquires_free c me met clock)

    base : List Item
    base = sent k pre tape2

    known_first : Known me first base
    known_first h n e x = stood_sent k pre tape2 _ (follows.known (λ h' n' e' y. inr ((g.node me).known h' n' e' y)) h n e (ap (λ z. decided z h n) spread
        ∙ onto_decided acted.answers (onto acted.valid (onto applies first)) h n e (onto_decided acted.valid (onto applies first) h n e (onto_decided applies first h n e x))))

    all_done : AllActed users s (record { me = me; start = st; next = k + length pre; base = base; early = tape1 }) l acted
    all_done = ticked_fine users s brought (record { me = me; start = st; next = k + length pre; base = base; early = tape1 }) met clock l node.open_operations begin 0 0
        (first_fine users c (record { me = me; start = st; next = k + length pre; base = base; early = tape1 }) first (before.lawful ((follows.tape).lawful (tt, g.lawful)))
        (λ fits. before.written c.schema users.usage ((follows.tape).written c.schema users.usage (tt, g.written fits))) known_first)
        (omega arith) (omega arith) (g.node me).rising
        (held_first users c now.tape base me node (λ item x. stood_sent k pre tape2 item (stood2 item x)) (λ x q. before.moved x q ∙ moved2 x q) (g.node me))
        (λ h. (let one = onto_grew (Ticks clock ∷ []) met h in let two = onto_grew told met1 h in let three = onto_grew later (onto told met1) h in omega (arith, one, two, three)))
        (g.node me).unfailed

-- Each event at a node: what it notes is allowed, and what it sends.
use Rattle.std.proofs.Common.{◌≡◌, inr, ℕ, ◌+◌, ◌==◌, ◌&&◌, ◌≤◌, nat_le, nat_lt, Bool, true, false, cond, List, [], ◌∷◌, ◌++◌, map, filter, flat_map, length, Option, Some, None, is_some, refl, sym, ap, ◌∙◌, subst, arith}
use Rattle.mega_base.specs.declared.names.GroupId.{GroupId}
use Rattle.mega_base.specs.declared.names.OpId.{OpId}
use Rattle.mega_base.specs.declared.names.Epoch.{Epoch}
use Rattle.mega_cluster.specs.declared.cluster.Cluster.{Cluster}
use Rattle.mega_coordinator.specs.declared.answers.Counted.{Counted}
use Rattle.mega_coordinator.specs.declared.answers.Counted.TheVariants.{No, Yes, Serving}
use Rattle.mega_coordinator.specs.declared.answers.NotValid.{NotValid}
use Rattle.mega_entry.specs.declared.content.Content.{Content}
use Rattle.mega_locks.specs.declared.asked.Asked.{Asked}
use Rattle.mega_locks.specs.declared.asked.Asked.TheVariants.{Granted as AnswerGranted, Renewed, GreaterHeld, Over}
use Rattle.mega_wire.specs.declared.message.Message.{Message}
use Rattle.mega_wire.specs.declared.message.Body.{Body}
use Rattle.mega_wire.specs.declared.message.Body.TheVariants.{Accept, Accepted, Promise, Acquire, Granted, Invalidate, Top}
use Rattle.mega_tape_laws.specs.of_transcript.declared.item.Item.{Item}
use Rattle.mega_tape_laws.specs.of_transcript.declared.item.Item.TheVariants.{Decide}
use Rattle.mega_tape_laws.specs.of_rules.Met.{Met, Sends, Grants, Lapses, Counts, Forgets, Serves, Loses, Validates, Invalidates, Applies, Answers}
use Rattle.mega_tape_laws.specs.of_rules.Coordinators.{coordinator_calls, counts_notes, is_cell_in, tick_told, forget_notes, grant_notes, lost_note, tick_notes}
use Rattle.mega_tape_laws.specs.of_rules.Locks.{asked_for, cell_calls, grant_note, lapse_note, lapses_at}
use Rattle.mega_locks.specs.History.{lapse_for, nodes as lock_nodes}
use Rattle.mega_coordinator.specs.Lease.{counted_by, granted_answer}
use Rattle.mega_coordinator.specs.History.{epoch_after, lease_of}
use Rattle.mega_tape_laws.specs.of_rules.Clock.{clock_of, start_of}
use Rattle.mega_tape_laws.specs.of_rules.Members.{cells, has_rows, is_full, keep_of}
use Rattle.mega_tape_laws.specs.of_rules.Logs.{decided, groups_of}
use Rattle.mega_tape_laws.specs.of_rules.Operations.{Node, Now, Operation, Setting}
use Rattle.mega_tape_laws.specs.of_rules.Acting.{validated_by}
use Rattle.mega_tape_laws.specs.of_rules.Steps.{applied_at, apply_note, apply_notes, lapse_notes, lease_notes, onto, told_notes}
use Rattle.mega_tape_laws.specs.Places.{In, Move, Place, moves}
use Rattle.mega_run_laws.proofs.Owned.{NoAccept, Users, quiet_written}
use Rattle.mega_tape_laws.specs.Lawful.{Lawful}
use Rattle.mega_tape_laws.specs.Polls.{ArePolls, has_asked}
use Rattle.mega_tape_laws.specs.Writes.{AreWritten, Usage}
use Rattle.mega_schema.specs.declared.schema.Schema.{Schema}
use Rattle.mega_run_laws.specs.Justified.{Each, sent}
use Rattle.mega_run_laws.proofs.Sending.{Stood, stood_sent}
use Rattle.mega_run_laws.proofs.Free.{AreFree, IsFree, free_asked, free_lawful, free_moves}
use Rattle.mega_run_laws.proofs.Prefixes.{decided_more, grew_by, prefix_more}
use Rattle.mega_run_laws.proofs.Opened.{Beside, Grew, same_met}
use Rattle.mega_run_laws.proofs.Turns.{AnsweredBelow, Fine, Frame, Held, IsApart, IsOpen, Known, NoAct, could_more, each_on, held_on, outside_apart, quiet_polls, sent_append, within_less}
use Rattle.mega_run_laws.proofs.Causes.{AskedSame, DecidedOn, sent_question}
use Rattle.mega_run_laws.proofs.Answering.{answers_on, failed_in, quiet_answered, sent_failed, speaks_on, with_answers}
use Rattle.mega_run_laws.proofs.Silent.{IsSilent, answers_apart, answers_asked, answers_decided, answers_moved, notes_answered, notes_failed, sent_decided, then_answers}
use Rattle.mega_run_laws.proofs.Written.{moved_on}
use Rattle.mega_tape_laws.proofs.Ballots.{clash}
use Rattle.mega_tape_laws.specs.Answers.{AreAnswered, IsDoomed, has_failed}
use Rattle.mega_tape_laws.specs.of_promises.Items.{shown}
use Rattle.mega_tape_laws.specs.of_promises.Promises.{Stands, asked_for as asked_item}
use Rattle.mega_tape_laws.specs.of_promises.Runs.{with_items}
use Rattle.mega_run_laws.proofs.Noting.{Lasts}
use Rattle.mega_run_laws.proofs.Noted.{MayBeNoted}
use Rattle.mega_run_laws.proofs.Beginning.{AllActed}
use Rattle.mega_run_laws.proofs.Standing.{FromMe, sends_on}
use Rattle.mega_run_laws.proofs.Stepping.{SendsOn}

-- ---- lists of notes

pub onto_append : (xs ys met : List Met) → onto (xs ++ ys) met ≡ onto ys (onto xs met)
onto_append [] ys met = refl
onto_append (x ∷ xs) ys met = onto_append xs ys (x ∷ met)

pub onto_decided : (xs met : List Met) (g : GroupId) (n : ℕ) (e : Content) → decided met g n ≡ Some e → decided (onto xs met) g n ≡ Some e
onto_decided [] met g n e h = h
onto_decided (x ∷ xs) met g n e h = onto_decided xs (x ∷ met) g n e (decided_more x met g n e h)

pub onto_length : (xs met : List Met) → length (onto xs met) ≡ length xs + length met
onto_length [] met = omega arith
onto_length (x ∷ xs) met = let rest = onto_length xs (x ∷ met) in omega (arith, rest)

pub onto_grew : (xs met : List Met) → Grew met (onto xs met)
onto_grew [] met = same_met met
onto_grew (x ∷ xs) met = λ g. let one = prefix_more x met g in let rest = onto_grew xs (x ∷ met) g in omega (arith, one, rest)

pub each_append : {X : Type 0} (P : X → Type 0) (xs ys : List X) → Each P xs → Each P ys → Each P (xs ++ ys)
each_append P [] ys a b = b
each_append P (x ∷ xs) ys a b = (a.0, each_append P xs ys a.1 b)

-- notes that need no reason
abbrev pub IsPlain : Met → Type 0
IsPlain (Grants node epoch) = Unit {0}
IsPlain (Lapses node epoch) = Unit {0}
IsPlain (Counts cell epoch) = Unit {0}
IsPlain (Forgets cell epoch) = Unit {0}
IsPlain (Serves epoch) = Unit {0}
IsPlain (Loses epoch) = Unit {0}
IsPlain (Validates group position) = Unit {0}
IsPlain (Invalidates group position) = Unit {0}
IsPlain (Applies group position) = Unit {0}
IsPlain _ = ⊥

plain_note : (c : Cluster) (tape : List Item) (me : ℕ) (one : Met) → IsPlain one → MayBeNoted c tape me one
plain_note c tape me (Grants node epoch) h = tt
plain_note c tape me (Lapses node epoch) h = tt
plain_note c tape me (Counts cell epoch) h = tt
plain_note c tape me (Forgets cell epoch) h = tt
plain_note c tape me (Serves epoch) h = tt
plain_note c tape me (Loses epoch) h = tt
plain_note c tape me (Validates group position) h = tt
plain_note c tape me (Invalidates group position) h = tt
plain_note c tape me (Applies group position) h = tt
plain_note c tape me _ h = absurd h

plain_silent : (one : Met) → IsPlain one → IsSilent one
plain_silent (Answers op answer) h = absurd h
plain_silent _ h = tt

pub plain_silents : (notes : List Met) → Each IsPlain notes → Each IsSilent notes
plain_silents notes h = each_on IsPlain IsSilent plain_silent notes h

-- answers
abbrev pub IsAnswer : Met → Type 0
IsAnswer (Answers op answer) = Unit {0}
IsAnswer _ = ⊥

answer_note : (c : Cluster) (tape : List Item) (me : ℕ) (one : Met) → IsAnswer one → MayBeNoted c tape me one
answer_note c tape me (Answers op answer) h = tt
answer_note c tape me _ h = absurd h

pub answer_notes : (c : Cluster) (tape : List Item) (me : ℕ) (notes : List Met) → Each IsAnswer notes → Each (MayBeNoted c tape me) notes
answer_notes c tape me notes h = each_on IsAnswer (MayBeNoted c tape me) (answer_note c tape me) notes h

pub plain_notes : (c : Cluster) (tape : List Item) (me : ℕ) (notes : List Met) → Each IsPlain notes → Each (MayBeNoted c tape me) notes
plain_notes c tape me notes h = each_on IsPlain (MayBeNoted c tape me) (plain_note c tape me) notes h

each_map : {X : Type 0} (f : X → Met) → ((x : X) → IsPlain (f x)) → (xs : List X) → Each IsPlain (map f xs)
each_map f h [] = tt
each_map f h (x ∷ xs) = (h x, each_map f h xs)

pub each_flat_map : {X : Type 0} (f : X → List Met) → ((x : X) → Each IsPlain (f x)) → (xs : List X) → Each IsPlain (flat_map f xs)
each_flat_map f h [] = tt
each_flat_map f h (x ∷ xs) = each_append IsPlain (f x) (flat_map f xs) (h x) (each_flat_map f h xs)

each_if : (t : Bool) (xs ys : List Met) → Each IsPlain xs → Each IsPlain ys → Each IsPlain (cond t xs ys)
each_if true xs ys a b = a
each_if false xs ys a b = b

grant_plain : (node : ℕ) (epoch : Epoch) (a : Asked) → Each IsPlain (grant_note node epoch a)
grant_plain node epoch AnswerGranted = (tt, tt)
grant_plain node epoch Renewed = tt
grant_plain node epoch (GreaterHeld greatest) = tt
grant_plain node epoch (Over greatest) = tt

counts_plain : (cell : ℕ) (epoch : Epoch) (was : Bool) (a : Counted) → Each IsPlain (counts_notes cell epoch was a)
counts_plain cell epoch was No = tt
counts_plain cell epoch was Yes = each_if was [] (Counts cell epoch ∷ []) tt (tt, tt)
counts_plain cell epoch was Serving = each_append IsPlain (cond was [] (Counts cell epoch ∷ [])) (Serves epoch ∷ []) (each_if was [] (Counts cell epoch ∷ []) tt (tt, tt)) (tt, tt)

pub told_plain : (s : Setting) (met : List Met) (from : ℕ) (body : Body) → Each IsPlain (told_notes s met from body)
told_plain s met from (Acquire cell epoch clock) = each_if (cell == s.me && nat_le s.me s.cluster.cells) (grant_note from epoch (asked_for s.cluster s.me met from epoch)) [] (grant_plain from epoch (asked_for s.cluster s.me met from epoch)) tt
told_plain s met from (Granted cell epoch clock) = each_if (is_full s.cluster s.me && nat_le cell s.cluster.cells) (grant_notes s.cluster met cell epoch clock) []
    (counts_plain cell epoch (is_some (counted_by (lease_of (start_of met) s.cluster.cells (coordinator_calls s.cluster met)) cell)) (granted_answer (start_of met) s.cluster.cells (lease_of (start_of met) s.cluster.cells (coordinator_calls s.cluster met)) cell epoch (clock + s.cluster.lease) (clock_of met))) tt
told_plain s met from (Invalidate op group position) = each_if (is_full s.cluster s.me) (Invalidates group position.0 ∷ []) [] (tt, tt) tt
told_plain s met from _ = tt

pub apply_plain : (s : Setting) (was : List Met) (was_stored : GroupId → ℕ) (met : List Met) (stored : GroupId → ℕ) → Each IsPlain (apply_notes s was was_stored met stored)
apply_plain s was was_stored met stored = each_if (has_rows s.cluster s.me) (flat_map (apply_note was was_stored met stored) (groups_of met)) [] (each_flat_map (apply_note was was_stored met stored)
    (λ group. each_if (nat_lt (applied_at was was_stored group) (applied_at met stored group)) (Applies group (applied_at met stored group) ∷ []) [] (tt, tt) tt) (groups_of met)) tt

forget_plain : (o : Option Epoch) (cells : List ℕ) → Each IsPlain (forget_notes o cells)
forget_plain None cells = tt
forget_plain (Some epoch) cells = each_map (λ cell. Forgets cell epoch) (λ cell. tt) cells

lost_plain : (o : Option Epoch) → Each IsPlain (lost_note o)
lost_plain None = tt
lost_plain (Some epoch) = (tt, tt)

pub lease_plain : (s : Setting) (met : List Met) (now : ℕ) → Each IsPlain (lease_notes s met now)
lease_plain s met now = each_if (is_full s.cluster s.me) (tick_notes s.cluster met now) []
    (each_append IsPlain (forget_notes (epoch_after (start_of met) s.cluster.cells (coordinator_calls s.cluster met)) (filter (is_cell_in (tick_told s.cluster met now).forgot) (cells s.cluster))) (lost_note (tick_told s.cluster met now).lost)
    (forget_plain (epoch_after (start_of met) s.cluster.cells (coordinator_calls s.cluster met)) (filter (is_cell_in (tick_told s.cluster met now).forgot) (cells s.cluster))) (lost_plain (tick_told s.cluster met now).lost)) tt

lapse_plain : (node : ℕ) (o : Option Epoch) → Each IsPlain (lapse_note node o)
lapse_plain node None = tt
lapse_plain node (Some epoch) = (tt, tt)

pub lapses_plain : (s : Setting) (met : List Met) (now : ℕ) → Each IsPlain (lapse_notes s met now)
lapses_plain s met now = each_if (nat_le s.me s.cluster.cells) (lapses_at s.cluster s.me met now) []
    (each_flat_map (λ node. lapse_note node (lapse_for (cell_calls s.cluster s.me met) now (keep_of s.cluster) node)) (λ node. lapse_plain node (lapse_for (cell_calls s.cluster s.me met) now (keep_of s.cluster) node)) lock_nodes) tt

-- ---- what operations leave of the notes

pub record Noted (first : List Met) (now : Now) : Type 0 where
  pub decides : (g : GroupId) (n : ℕ) (e : Content) → decided now.met g n ≡ Some e → decided first g n ≡ Some e
  pub long : length now.met ≤ length first + length now.valid
  pub valid : Each IsPlain now.valid
  pub answers : Each IsAnswer now.answers

length_push : (xs : List Met) (x : Met) → length (xs ++ x ∷ []) ≡ length xs + 1
length_push [] x = omega arith
length_push (y ∷ xs) x = let rest = length_push xs x in omega (arith, rest)

pub noted_lasts : (first : List Met) → Lasts (Noted first)
noted_lasts first = record {
  keeps_it = λ now o h. record { decides = h.decides; long = h.long; valid = h.valid; answers = h.answers };
  ends_it = λ now op answer h. record { decides = h.decides; long = h.long; valid = h.valid; answers = each_append IsAnswer now.answers (Answers op answer ∷ []) h.answers (tt, tt) };
  sends_it = λ now ms h. record { decides = h.decides; long = h.long; valid = h.valid; answers = h.answers };
  stores_it = λ now stored h. record { decides = h.decides; long = h.long; valid = h.valid; answers = h.answers };
  validates_it = λ now group p refusal h. validated now group p refusal h;
}
  where
    validated : (now : Now) (group : GroupId) (p : ℕ) (refusal : Option NotValid) → Noted first now → Noted first (validated_by now group p refusal)
    validated now group p (Some why) h = h
    validated now group p None h = record {
      decides = h.decides;
      long = (let le = h.long in let more = length_push now.valid (Validates group p) in omega (arith, le, more));
      valid = each_append IsPlain now.valid (Validates group p ∷ []) h.valid (tt, tt);
      answers = h.answers;
    }

-- ---- what is sent before the operations' messages, and behind them

pub record Before (c : Cluster) (me : ℕ) (tape : List Item) (k : ℕ) (ms : List Message) : Type 0 where
  pub lawful : Lawful c tape → Lawful c (sent k ms tape)
  pub polls : ArePolls tape → ArePolls (sent k ms tape)
  pub written : (schema : Schema) (usage : Usage) → AreWritten schema usage tape → AreWritten schema usage (sent k ms tape)
  pub moved : (x : OpId) (q : Place) → moves (sent k ms tape) x q ≡ moves tape x q
  pub asked : (x : OpId) → has_asked (sent k ms tape) x ≡ has_asked tape x
  pub answered : (schema : Schema) (usage : Usage) → AreAnswered schema usage tape → AreAnswered schema usage (sent k ms tape)
  pub mine : Each (FromMe me) ms

free_quiet : (body : Body) → IsFree body → NoAct body
free_quiet (Promise o g n b report) h = absurd h
free_quiet (Accepted o g n b e) h = absurd h
free_quiet (Top o g n) h = absurd h
free_quiet _ h = tt

free_mine : (me : ℕ) (ms : List Message) → AreFree ms → Each (FromMe me) ms
free_mine me [] h = tt
free_mine me (m ∷ ms) h = (inr (free_quiet m.body h.0), free_mine me ms h.1)

free_silent : (body : Body) → IsFree body → NoAccept body
free_silent (Accept o g n b e) h = absurd h
free_silent _ h = tt

free_silents : (ms : List Message) → AreFree ms → Each (λ (m : Message). NoAccept m.body) ms
free_silents [] h = tt
free_silents (m ∷ ms) h = (free_silent m.body h.0, free_silents ms h.1)

free_quiets : (ms : List Message) → AreFree ms → Each (λ (m : Message). NoAct m.body) ms
free_quiets [] h = tt
free_quiets (m ∷ ms) h = (free_quiet m.body h.0, free_quiets ms h.1)

pub free_before : (c : Cluster) (me : ℕ) (tape : List Item) (k : ℕ) (ms : List Message) → AreFree ms → Before c me tape k ms
free_before c me tape k ms h = record { lawful = λ l. free_lawful c k ms tape h l; polls = λ p. quiet_polls k ms tape (free_quiets ms h) p; written = λ schema usage w. quiet_written schema usage k ms tape (free_silents ms h) w; moved = λ x q. free_moves x q k ms tape h; asked = λ x. free_asked x k ms tape h; answered = λ schema usage a. quiet_answered schema usage k ms tape (free_silents ms h) a; mine = free_mine me ms h }

quiet_mine : (me : ℕ) (ms : List Message) → Each (λ (m : Message). NoAct m.body) ms → Each (FromMe me) ms
quiet_mine me [] h = tt
quiet_mine me (m ∷ ms) h = (inr h.0, quiet_mine me ms h.1)

-- the first operations begin on what stands
pub first_fine : (users : Users) → (c : Cluster) (f : Frame) (met : List Met) → Lawful c f.base → (users.fits → AreWritten c.schema users.usage f.base) → Known f.me met f.base → Fine users c f 0 met [] [] []
first_fine users c f met l written known = record { lawful = l; written = written; later = λ x h q. refl; asked = λ x h. refl; made = λ v q. refl; given = λ fits. tt; answered = tt; fair = tt; unheard = tt; known = known; quiet = tt; held = tt; rising = tt }

-- the tape before a step's answers, with its own item and its other notes
pub record Unheard (users : Users) (c : Cluster) (nodes : ℕ → Node) (me : ℕ) (early tape : List Item) (answers : List Met) : Type 0 where
  pub mid : List Item
  pub is : tape ≡ with_answers c nodes me answers mid
  pub answered : users.fits → AreAnswered c.schema users.usage mid
  pub failed : (x : OpId) → has_failed mid x ≡ has_failed early x

pub unheard_by : (users : Users) → (c : Cluster) (nodes : ℕ → Node) (me : ℕ) (early : List Item) (notes answers : List Met) → Each IsSilent notes → (users.fits → AreAnswered c.schema users.usage early)
    → Unheard users c nodes me early (with_items c nodes early (flat_map (shown me) (notes ++ answers))) answers
unheard_by users c nodes me early notes answers silent answered = record {
  mid = with_items c nodes early (flat_map (shown me) notes);
  is = then_answers c nodes me notes answers early;
  answered = λ fits. notes_answered c me nodes notes early silent c.schema users.usage (answered fits);
  failed = notes_failed c me nodes notes early silent;
}

-- the operations of a step, put together with what is sent before them
pub acted_sends : (users : Users) → (s : Setting) (nodes : ℕ → Node) (me st l k : ℕ) (early tape : List Item) (met2 : List Met) (pre : List Message) (now : Now) → ArePolls tape → Before s.cluster me tape k pre
    → AllActed users s (record { me = me; start = st; next = k + length pre; base = sent k pre tape; early = early }) l now → Grew now.met met2 → Unheard users s.cluster nodes me early tape now.answers
    → SendsOn users s.cluster me st l early tape met2 k (pre ++ now.sends) now.kept
acted_sends users s nodes me st l k early tape met2 pre now polls before acted grew u = record {
  lawful = subst (Lawful s.cluster) (sym whole) (acted.fine).lawful;
  polls = subst ArePolls (sym whole) (quiet_polls (k + length pre) now.sends (sent k pre tape) (acted.fine).quiet (before.polls polls));
  written = λ fits. subst (AreWritten s.cluster.schema users.usage) (sym whole) ((acted.fine).written fits);
  asked = λ x other. ap (λ t. has_asked t x) whole ∙ (acted.fine).asked x (could_more me st acted.k l x acted.most other) ∙ before.asked x;
  moved = λ x other q. ap (λ t. moves t x q) whole ∙ (acted.fine).later x (could_more me st acted.k l x acted.most other) q ∙ before.moved x q;
  answered = λ fits. subst (AreAnswered s.cluster.schema users.usage) (sym whole) (spoken fits);
  failed = λ x other. failed_on x (each_on (AnsweredBelow me st acted.k) (IsApart x) (outside_apart me st acted.k x (within_less me st acted.k l x acted.most other)) now.answers (acted.fine).answered);
  unfailed = each_on (IsOpen early now.answers) (λ (o : Operation). has_failed (sent k (pre ++ now.sends) tape) o.id ≡ false) (λ o still. failed_on o.id still.apart ∙ still.unfailed) now.kept (acted.fine).unheard;
  mine = each_append (FromMe me) pre now.sends before.mine (quiet_mine me now.sends (acted.fine).quiet);
  held = each_on (Held users s.cluster (sent (k + length pre) now.sends (sent k pre tape)) me st acted.k now.met) (Held users s.cluster (sent k (pre ++ now.sends) tape) me st l (onto (map Sends (pre ++ now.sends)) met2))
      (λ o held. held_on users s.cluster (sent (k + length pre) now.sends (sent k pre tape)) (sent k (pre ++ now.sends) tape) me st acted.k l now.met (onto (map Sends (pre ++ now.sends)) met2) o (beside o) grown acted.most held) now.kept (acted.fine).held;
  rising = (acted.fine).rising;
}
  where
    whole : sent k (pre ++ now.sends) tape ≡ sent (k + length pre) now.sends (sent k pre tape)
    whole = sent_append k pre now.sends tape

    beside : (o : Operation) → Beside o.id (sent (k + length pre) now.sends (sent k pre tape)) (sent k (pre ++ now.sends) tape)
    beside o = record { stood = subst (Stood (sent (k + length pre) now.sends (sent k pre tape))) (sym whole) (λ item x. x); moved = λ q. ap (λ t. moves t o.id q) whole }

    grown : Grew now.met (onto (map Sends (pre ++ now.sends)) met2)
    grown g = let one = grew g in let two = (sends_on (pre ++ now.sends) met2).grew g in omega (arith, one, two)

    base : List Item
    base = sent k pre tape

    last : List Item
    last = sent (k + length pre) now.sends base

    failed_on : (x : OpId) → Each (IsApart x) now.answers → has_failed (sent k (pre ++ now.sends) tape) x ≡ has_failed early x
    failed_on x apart = sent_failed x k (pre ++ now.sends) tape ∙ ap (λ t. has_failed t x) u.is ∙ answers_apart s.cluster nodes me st acted.k now.answers u.mid (acted.fine).answered x apart ∙ u.failed x

    decided_mid : DecidedOn last u.mid
    decided_mid node g n e h = answers_decided s.cluster nodes me st acted.k now.answers u.mid (acted.fine).answered node g n e
        (subst (Stands (Decide node g n e)) u.is (sent_decided k pre tape node g n e (sent_decided (k + length pre) now.sends base node g n e h)))

    asked_mid : (x : OpId) → AskedSame users.usage last u.mid x
    asked_mid x = sym (sent_question users.usage (k + length pre) now.sends base x ∙ sent_question users.usage k pre tape x ∙ ap (λ t. asked_item (users.usage).meaning t x) u.is
        ∙ answers_asked s.cluster nodes me st acted.k users.usage now.answers u.mid (acted.fine).answered x)

    moved_mid : (x : OpId) (p : Place) (y : Move) → In y (moves u.mid x p) → In y (moves last x p)
    moved_mid x p y i = moved_on (k + length pre) now.sends base x p y (subst (In y) (sym (before.moved x p ∙ ap (λ t. moves t x p) u.is ∙ answers_moved s.cluster nodes me st acted.k now.answers u.mid (acted.fine).answered x p)) i)

    doomed : users.fits → (x : OpId) → has_failed early x ≡ false → has_failed base x ≡ true → IsDoomed last x
    doomed fits x un failed = failed_in s.cluster.schema users.usage s.cluster nodes me last x now.answers u.mid ((acted.fine).given fits) (λ f. absurd (clash (has_failed u.mid x) f (u.failed x ∙ un)))
        (sym (sent_failed x k pre tape ∙ ap (λ t. has_failed t x) u.is) ∙ failed)

    heard : users.fits → AreAnswered s.cluster.schema users.usage tape
    heard fits = subst (AreAnswered s.cluster.schema users.usage) (sym u.is)
        (answers_on s.cluster.schema users.usage s.cluster nodes me last now.answers u.mid ((acted.fine).given fits) (record { decided = decided_mid; asked = asked_mid; moved = moved_mid }) (u.answered fits))

    spoken : users.fits → AreAnswered s.cluster.schema users.usage last
    spoken fits = speaks_on s.cluster.schema users.usage early last (k + length pre) now.sends base (acted.fine).fair (sent_decided (k + length pre) now.sends base) (doomed fits) (λ x p y i. i)
        (before.answered s.cluster.schema users.usage (heard fits))

map_append : (xs ys : List Message) → map Sends (xs ++ ys) ≡ map Sends xs ++ map Sends ys
map_append [] ys = refl
map_append (x ∷ xs) ys = ap (λ zs. Sends x ∷ zs) (map_append xs ys)

-- and behind them
pub behind : (users : Users) → (c : Cluster) (me st l k : ℕ) (early tape : List Item) (met2 : List Met) (ms post : List Message) (kept : List Operation) → SendsOn users c me st l early tape met2 k ms kept → AreFree post → SendsOn users c me st l early tape met2 k (ms ++ post) kept
behind users c me st l k early tape met2 ms post kept h free = record {
  lawful = subst (Lawful c) (sym whole) (free_lawful c (k + length ms) post (sent k ms tape) free h.lawful);
  polls = subst ArePolls (sym whole) (quiet_polls (k + length ms) post (sent k ms tape) (free_quiets post free) h.polls);
  written = λ fits. subst (AreWritten c.schema users.usage) (sym whole) (quiet_written c.schema users.usage (k + length ms) post (sent k ms tape) (free_silents post free) (h.written fits));
  asked = λ x other. ap (λ t. has_asked t x) whole ∙ free_asked x (k + length ms) post (sent k ms tape) free ∙ h.asked x other;
  moved = λ x other q. ap (λ t. moves t x q) whole ∙ free_moves x q (k + length ms) post (sent k ms tape) free ∙ h.moved x other q;
  answered = λ fits. subst (AreAnswered c.schema users.usage) (sym whole) (quiet_answered c.schema users.usage (k + length ms) post (sent k ms tape) (free_silents post free) (h.answered fits));
  failed = λ x other. same_failed x ∙ h.failed x other;
  unfailed = each_on (λ (o : Operation). has_failed (sent k ms tape) o.id ≡ false) (λ (o : Operation). has_failed (sent k (ms ++ post) tape) o.id ≡ false) (λ o still. same_failed o.id ∙ still) kept h.unfailed;
  mine = each_append (FromMe me) ms post h.mine (free_mine me post free);
  held = each_on (Held users c (sent k ms tape) me st l (onto (map Sends ms) met2)) (Held users c (sent k (ms ++ post) tape) me st l (onto (map Sends (ms ++ post)) met2))
      (λ o held. held_on users c (sent k ms tape) (sent k (ms ++ post) tape) me st l l (onto (map Sends ms) met2) (onto (map Sends (ms ++ post)) met2) o (beside o) grown (omega arith) held) kept h.held;
  rising = h.rising;
}
  where
    whole : sent k (ms ++ post) tape ≡ sent (k + length ms) post (sent k ms tape)
    whole = sent_append k ms post tape

    same_failed : (x : OpId) → has_failed (sent k (ms ++ post) tape) x ≡ has_failed (sent k ms tape) x
    same_failed x = sent_failed x k (ms ++ post) tape ∙ sym (sent_failed x k ms tape)

    beside : (o : Operation) → Beside o.id (sent k ms tape) (sent k (ms ++ post) tape)
    beside o = record { stood = subst (Stood (sent k ms tape)) (sym whole) (stood_sent (k + length ms) post (sent k ms tape)); moved = λ q. ap (λ t. moves t o.id q) whole ∙ free_moves o.id q (k + length ms) post (sent k ms tape) free }

    grown : Grew (onto (map Sends ms) met2) (onto (map Sends (ms ++ post)) met2)
    grown = subst (λ m. Grew (onto (map Sends ms) met2) m) (sym (ap (λ xs. onto xs met2) (map_append ms post) ∙ onto_append (map Sends ms) (map Sends post) met2)) (onto_grew (map Sends post) (onto (map Sends ms) met2))

-- what the operations met within the step is no more than what the node met
pub notes_grew : (first : List Met) (applies : List Met) (now : Now) → Noted first now → Grew now.met (onto now.answers (onto now.valid (onto applies first)))
notes_grew first applies now h = grew_by now.met (onto now.answers (onto now.valid (onto applies first)))
    (λ g n e d. onto_decided now.answers (onto now.valid (onto applies first)) g n e (onto_decided now.valid (onto applies first) g n e (onto_decided applies first g n e (h.decides g n e d))))
    (let a = onto_length now.answers (onto now.valid (onto applies first)) in let v = onto_length now.valid (onto applies first) in let p = onto_length applies first in let le = h.long in omega (arith, a, v, p, le))

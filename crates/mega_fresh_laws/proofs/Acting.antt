-- A walk through what an operation does in a step: each answer that it gives, and each proposal that it makes, is of a log that it read through a position
-- which is far enough. `tape` is behind the step's first notes and its decision, `base` is what the node met by then.
use Rattle.std.proofs.Common.{◌≡◌, ℕ, zero, suc, ◌+◌, ◌-◌, ◌≤◌, nat_le, Bool, true, false, cond, List, [], ◌∷◌, ◌++◌, take, length, Option, Some, None, Result, Ok, Err, refl, sym, ap, ◌∙◌, subst, arith}
use Rattle.std.proofs.lemmas.Bool.Decides.{nat_tests}
use Rattle.std.specs.List.{list_any}
use Rattle.std.specs.Result.{is_ok}
use Rattle.std.proofs.lemmas.Option.{same_Some}
use Rattle.mega_base.specs.declared.names.Epoch.{Epoch}
use Rattle.mega_base.specs.declared.names.GroupId.{GroupId}
use Rattle.mega_base.specs.declared.names.OpId.{OpId}
use Rattle.mega_cluster.specs.declared.cluster.Cluster.{Cluster}
use Rattle.mega_coordinator.specs.declared.answers.NotValid.{NotValid}
use Rattle.mega_entry.specs.declared.content.Content.{Content}
use Rattle.mega_entry.specs.declared.content.Enter.{Enter}
use Rattle.mega_handler.specs.Named.{has}
use Rattle.mega_index.specs.Rows.{Listed, after, list_after, no_rows}
use Rattle.mega_index.specs.declared.found.Found.{Found}
use Rattle.mega_outcome.specs.declared.answer.Answer.{Answer}
use Rattle.mega_outcome.specs.declared.answer.Answer.TheVariants.{AllTurned, Conflict, LogFull, NoHandler, Read as ReadAnswer, Turned as TurnedAnswer}
use Rattle.mega_outcome.specs.declared.answer.Done.{Done}
use Rattle.mega_outcome.specs.declared.answer.Mark.{Mark}
use Rattle.mega_outcome.specs.declared.answer.Shown.{Shown}
use Rattle.mega_outcome.specs.declared.answer.Turn.{Turn as Turned}
use Rattle.mega_outcome.specs.declared.request.FindRequest.{FindRequest}
use Rattle.mega_outcome.specs.declared.request.ReadRequest.{ReadRequest}
use Rattle.mega_outcome.specs.declared.request.Request.{Request}
use Rattle.mega_outcome.specs.declared.request.Request.TheVariants.{Txn, Batch as BatchRequest, Read as ReadRequested, Find, PumpEnter, PumpHandle, Refresh}
use Rattle.mega_outcome.specs.declared.transaction.RowRef.{RowRef}
use Rattle.mega_outcome.specs.declared.transaction.Transaction.{Transaction}
use Rattle.mega_outcome.specs.Outcome.{batch_outcome, entry_of_batch, entry_of_done, outcome}
use Rattle.mega_outcome.specs.Reads.{all_rows, read_rows}
use Rattle.mega_leased_laws.specs.of_settled_laws.of_run_laws.of_tape_laws.of_promises.of_rules.of_read.of_propose.Rounds.{asks}
use Rattle.mega_leased_laws.specs.of_settled_laws.of_run_laws.of_tape_laws.of_promises.of_rules.of_read.declared.reading.Move.{Move as ReadMove}
use Rattle.mega_leased_laws.specs.of_settled_laws.of_run_laws.of_tape_laws.of_promises.of_rules.of_read.declared.reading.Reading.{Reading}
use Rattle.mega_leased_laws.specs.of_settled_laws.of_run_laws.of_tape_laws.of_promises.of_rules.of_read.declared.reading.Search.{Search}
use Rattle.mega_leased_laws.specs.of_settled_laws.of_run_laws.of_tape_laws.of_promises.of_rules.of_read.declared.reading.Stage.{Stage}
use Rattle.mega_leased_laws.specs.of_settled_laws.of_run_laws.of_tape_laws.of_promises.of_rules.of_read.declared.reading.Stage.TheVariants.{Polling, Catching}
use Rattle.mega_leased_laws.specs.of_settled_laws.of_run_laws.of_tape_laws.of_promises.of_rules.of_read.Catching.{asked_by, local_read, polled_read, seeks, site}
use Rattle.mega_schema.specs.declared.schema.Index.{Index}
use Rattle.mega_leased_laws.specs.of_settled_laws.of_run_laws.of_tape_laws.of_promises.of_transcript.declared.item.Item.{Item}
use Rattle.mega_leased_laws.specs.of_settled_laws.of_run_laws.of_tape_laws.of_promises.of_transcript.declared.item.Item.TheVariants.{Decide}
use Rattle.mega_wal.specs.Same.{same_op, same_option}
use Rattle.mega_wire.specs.declared.message.Message.{Message}
use Rattle.mega_wire.specs.declared.message.Body.{Body}
use Rattle.mega_wire.specs.declared.message.Body.TheVariants.{Accept}
use Rattle.mega_leased_laws.specs.of_settled_laws.of_run_laws.of_tape_laws.of_promises.Fresh.{find_over, read_over}
use Rattle.mega_leased_laws.specs.of_settled_laws.of_run_laws.of_tape_laws.of_promises.Items.{number}
use Rattle.mega_leased_laws.specs.of_settled_laws.of_run_laws.of_tape_laws.of_promises.Promises.{Stands, asked_for, group_written, is_write, rows_shown}
use Rattle.mega_leased_laws.specs.of_settled_laws.of_run_laws.of_tape_laws.of_promises.of_rules.Clock.{clock_of}
use Rattle.mega_leased_laws.specs.of_settled_laws.of_run_laws.of_tape_laws.of_promises.of_rules.Coordinators.{refused_at, serves_at, valid_at}
use Rattle.mega_leased_laws.specs.of_settled_laws.of_run_laws.of_tape_laws.of_promises.of_rules.Finding.{find_answer, find_by, local_found}
use Rattle.mega_leased_laws.specs.of_settled_laws.of_run_laws.of_tape_laws.of_promises.of_rules.Logs.{decided, groups_of, log_of, prefix_of, top_of}
use Rattle.mega_leased_laws.specs.of_settled_laws.of_run_laws.of_tape_laws.of_promises.of_rules.Members.{is_full}
use Rattle.mega_leased_laws.specs.of_settled_laws.of_run_laws.of_tape_laws.of_promises.of_rules.Met.{Met, Answers, Validates}
use Rattle.mega_leased_laws.specs.of_settled_laws.of_run_laws.of_tape_laws.of_promises.of_rules.Queues.{Posted, enter_entry, is_named, names_entered, next_to_enter, next_to_handle, oldest_unhandled}
use Rattle.mega_leased_laws.specs.of_settled_laws.of_run_laws.of_tape_laws.of_promises.of_rules.Operations.{Now, Operation, Phase, Promised, Proposes, Reads, Replies, Results, Setting}
use Rattle.mega_leased_laws.specs.of_settled_laws.of_run_laws.of_tape_laws.of_promises.of_rules.Acting.{ActsAgain, Next, Rests, acts, applied_logs, batch_sealed, begins_read, committed, completes_read, ends, enters, finishes, goes_on, handles, handling, in_phase, is_visited, keeps, leader_after, listed_at, picks_group, picks_message, proposes, proposes_by, read_answer, read_begun, reader_of, reads_on, rests_within, rows_answer, rows_at, sealed, sends_more, table_rows, unless_decided, unless_full, validated_by, verdict, visiting}
use Rattle.mega_leased_laws.specs.of_settled_laws.of_run_laws.of_tape_laws.of_promises.of_rules.Steps.{onto}
use Rattle.mega_leased_laws.specs.of_settled_laws.of_run_laws.of_tape_laws.Lawful.{Lawful, message}
use Rattle.mega_leased_laws.specs.of_settled_laws.of_run_laws.of_tape_laws.Places.{In}
use Rattle.mega_leased_laws.specs.of_settled_laws.of_run_laws.of_tape_laws.Polls.{ArePolls}
use Rattle.mega_leased_laws.specs.of_settled_laws.of_run_laws.of_tape_laws.Writes.{Usage}
use Rattle.mega_leased_laws.specs.of_settled_laws.of_run_laws.Justified.{Each}
use Rattle.mega_leased_laws.proofs.of_settled_laws.of_run_laws.Events.{each_append as each_both, onto_append}
use Rattle.mega_leased_laws.proofs.of_settled_laws.of_run_laws.Owned.{front_length, knows_front}
use Rattle.mega_leased_laws.proofs.of_settled_laws.of_run_laws.Prefixes.{prefix_more}
use Rattle.mega_leased_laws.proofs.of_settled_laws.of_run_laws.Turns.{Known, each_push}
use Rattle.mega_fresh_laws.specs.FarEnough.{Answered, IsFarAnswer, IsProposed, IsShown, ReadOver}
use Rattle.mega_fresh_laws.proofs.Enough.{Suffices}
use Rattle.mega_fresh_laws.proofs.Accepts.{Never, NeverBody, polled_never, seeks_never}
use Rattle.mega_fresh_laws.proofs.Through.{Of, PhaseFar, StageFar, polled_far, seeks_far}

-- a read answers with the rows of the entries
answer_is : (s : Setting) (request : ReadRequest) (p : ℕ) (log : List Content) → rows_answer p (rows_shown (s.cluster).schema request log request.rows) ≡ read_answer s request p (after log no_rows) (list_after log [])
answer_is s request p log = by request.rows
  where
    answered : List RowRef → Answer
    answered [] = ReadAnswer (record { 0 = p }) (all_rows (s.cluster).schema request.group (list_after log []))
    answered (row ∷ more) = rows_answer p (read_rows (s.cluster).schema request.group (row ∷ more) (after log no_rows))

    by : (rows : List RowRef) → rows_answer p (rows_shown (s.cluster).schema request log rows) ≡ answered rows
    by [] = refl
    by (row ∷ more) = refl

-- ---- notes

abbrev pub IsValidate : Met → Type 0
IsValidate (Validates group p) = Unit {0}
IsValidate _ = ⊥

valid_decided : (notes met : List Met) → Each IsValidate notes → (g : GroupId) (n : ℕ) → decided (onto notes met) g n ≡ decided met g n
valid_decided [] met h g n = refl
valid_decided (Validates group p ∷ notes) met h g n = valid_decided notes (Validates group p ∷ met) h.1 g n
valid_decided (_ ∷ notes) met h g n = absurd h.0

each_front : {X : Type 0} (P : X → Type 0) (xs ys : List X) → Each P (xs ++ ys) → Each P xs
each_front P [] ys h = tt
each_front P (x ∷ xs) ys h = (h.0, each_front P xs ys h.1)

le_is : (a b : ℕ) → nat_le a b ≡ true → a ≤ b
le_is a b h = grind (arith, nat_tests)

-- where a node may read locally: `last` are all validates of the step
abbrev pub Locals : (List Item → OpId → GroupId → ℕ → Type 0) → Setting → List Item → List Met → List Met → Type 0
Locals Far s tape base last = (valid : List Met) → Each IsValidate valid → Each (λ note. In note last) valid → is_full s.cluster s.me ≡ true → (op : OpId) (group : GroupId) → op.node.0 ≡ s.me → valid_at s.cluster (onto valid base) group ≡ true
    → Far tape op group (top_of (onto valid base) group)

module _ (Far : List Item → OpId → GroupId → ℕ → Type 0) (enough : Suffices Far) where
  -- ---- what an answer shows

  pub rows_far : (c : Cluster) (tape : List Item) (op : OpId) (request : ReadRequest) (p : ℕ) (result : Result (List (Option Shown)) Turned) → IsShown Far c tape op (ReadRequested request) (rows_answer p result)
      → IsFarAnswer Far c tape op (ReadRequested request) (rows_answer p result)
  rows_far c tape op request p (Ok rows) h = h
  rows_far c tape op request p (Err turn) h = h

  pub found_far : (c : Cluster) (tape : List Item) (op : OpId) (request asked : FindRequest) (marks : List Mark) (group : List ℕ) (listed : Listed) (index : Option Index) → IsShown Far c tape op (Find request) (find_by c.schema asked marks group listed index)
      → IsFarAnswer Far c tape op (Find request) (find_by c.schema asked marks group listed index)
  found_far c tape op request asked marks group listed None h = h
  found_far c tape op request asked marks group listed (Some index) h = by _ h
    where
      by : (result : Result (List Found) ℕ) → IsShown Far c tape op (Find request) (find_answer marks result) → IsFarAnswer Far c tape op (Find request) (find_answer marks result)
      by (Ok found) k = k
      by (Err place) k = k

  committed_far : (c : Cluster) (tape : List Item) (op : OpId) (request : Request) (n : ℕ) (promised : Promised) → IsFarAnswer Far c tape op request (committed n promised)
  committed_far c tape op request n (Replies replies) = tt
  committed_far c tape op request n (Results results) = tt

  verdict_far : (c : Cluster) (tape : List Item) (op x : OpId) (request : Request) (n : ℕ) (promised : Promised) (entry : Content) → IsFarAnswer Far c tape op request (verdict x n promised entry)
  verdict_far c tape op x request n promised entry = by (same_option same_op entry.id (Some x))
    where
      by : (t : Bool) → IsFarAnswer Far c tape op request (cond t (committed n promised) (Conflict (record { 0 = n }) entry.id))
      by true = committed_far c tape op request n promised
      by false = tt

  -- ---- what is sent

  pub never_far : (tape : List Item) (ms : List Message) → Each Never ms → Each (λ m. IsProposed Far tape m.body) ms
  never_far tape [] h = tt
  never_far tape (m ∷ ms) h = (by m.body h.0, never_far tape ms h.1)
    where
      by : (body : Body) → NeverBody body → IsProposed Far tape body
      by (Accept op group n b e) none = λ is id. absurd (none is id)
      by _ none = tt

  abbrev pub NoteFar : Cluster → Usage → List Item → Met → Type 0
  NoteFar c usage tape (Answers op answer) = Answered Far c usage tape op answer
  NoteFar c usage tape _ = ⊥

  module _ (s : Setting) (usage : Usage) (tape : List Item) (l : Lawful s.cluster tape) (q : ArePolls tape) (base last : List Met) (known : Known s.me base tape) (locals : Locals Far s tape base last) where
    abbrev pub MessageFar : Message → Type 0
    MessageFar m = IsProposed Far tape m.body

    abbrev pub KeptFar : Operation → Type 0
    KeptFar o = PhaseFar Far enough s.cluster tape o.id o.request o.phase

    -- what those did that acted
    pub record Acting (now : Now) : Type 0 where
      pub mid : now.met ≡ onto now.valid base
      pub valids : Each IsValidate now.valid
      pub answers : Each (NoteFar s.cluster usage tape) now.answers
      pub sends : Each MessageFar now.sends
      pub kept : Each KeptFar now.kept

    -- and one acts
    pub record Turn (now : Now) (o : Operation) : Type 0 where
      pub acting : Acting now
      pub node : (o.id).node.0 ≡ s.me
      pub asked : asked_for usage.meaning tape o.id ≡ Some o.request
      pub phase : PhaseFar Far enough s.cluster tape o.id o.request o.phase

    abbrev IsLast : Met → Type 0
    IsLast note = In note last

    -- the validates so far are among all of the step
    abbrev pub Guard : Now → Type 0
    Guard now = Each IsLast now.valid

    abbrev pub P : Now → Type 0
    P now = Guard now → Acting now

    abbrev pub W : Now → Operation → Type 0
    W now o = Guard now → Turn now o

    -- what an operation comes to: it has acted, or it acts again
    abbrev pub Leads : Next → Type 0
    Leads (Rests now) = P now
    Leads (ActsAgain now o) = W now o

    either_so : (t : Bool) (one other : Next) → (t ≡ true → Leads one) → Leads other → Leads (cond t one other)
    either_so true one other h k = h refl
    either_so false one other h k = k

    either : (t : Bool) (one other : Now) → P one → P other → P (cond t one other)
    either true one other h k = h
    either false one other h k = k

    -- ---- it stays open, or ends

    keeps_it : (now : Now) (o : Operation) → W now o → P (keeps now o)
    keeps_it now o w guard = let t = w guard in record {
      mid = (t.acting).mid;
      valids = (t.acting).valids;
      answers = (t.acting).answers;
      sends = (t.acting).sends;
      kept = each_push KeptFar now.kept o (t.acting).kept t.phase;
    }

    pub answers_more : (now : Now) (op : OpId) (answer : Answer) → Acting now → Answered Far s.cluster usage tape op answer → Acting (ends now op answer)
    answers_more now op answer a far = record {
      mid = a.mid;
      valids = a.valids;
      answers = each_both (NoteFar s.cluster usage tape) now.answers (Answers op answer ∷ []) a.answers (far, tt);
      sends = a.sends;
      kept = a.kept;
    }

    ends_it : (now : Now) (o : Operation) (answer : Answer) → W now o → ((guard : Guard now) → Turn now o → IsFarAnswer Far s.cluster tape o.id o.request answer) → P (ends now o.id answer)
    ends_it now o answer w far guard = let t = w guard in answers_more now o.id answer t.acting (record { request = o.request; asked = t.asked; far = far guard t })

    pub sends_acting : (now : Now) (ms : List Message) → Acting now → Each MessageFar ms → Acting (sends_more now ms)
    sends_acting now ms a far = record { mid = a.mid; valids = a.valids; answers = a.answers; sends = each_both MessageFar now.sends ms a.sends far; kept = a.kept }

    unless_decided_it : (now : Now) (o : Operation) (n : ℕ) (promised : Promised) (d : Option Content) → W now o → P (unless_decided now o n promised d)
    unless_decided_it now o n promised None w = keeps_it now o w
    unless_decided_it now o n promised (Some entry) w = ends_it now o (verdict o.id n promised entry) w (λ guard t. verdict_far s.cluster tape o.id o.id o.request n promised entry)

    -- ---- it proposes

    above_one : (p : ℕ) → p + 1 - 1 ≡ p
    above_one p = omega arith

    proposes_by_it : (now : Now) (o : Operation) (group : GroupId) (r : Reading) (p : ℕ) (own : Content) (promised : Promised) (leader : Option ℕ) → W now (in_phase o (Reads group r)) → (Guard now → Far tape o.id group p)
        → P (proposes_by s now (in_phase o (Reads group r)) group r p own promised leader)
    proposes_by_it now o group r p own promised None w far = keeps_it now (in_phase o (Reads group r)) w
    proposes_by_it now o group r p own promised (Some leader) w far =
        unless_decided_it (sends_more now (asks (site (reader_of s o.id group) (asked_by r) (p + 1)) leader own (clock_of now.met)).sends)
        (in_phase o (Proposes group (p + 1) (asked_by r) (asks (site (reader_of s o.id group) (asked_by r) (p + 1)) leader own (clock_of now.met)).proposal promised))
        (p + 1) promised (decided now.met group (p + 1)) there
      where
        there : W (sends_more now (asks (site (reader_of s o.id group) (asked_by r) (p + 1)) leader own (clock_of now.met)).sends)
            (in_phase o (Proposes group (p + 1) (asked_by r) (asks (site (reader_of s o.id group) (asked_by r) (p + 1)) leader own (clock_of now.met)).proposal promised))
        there guard =
            let t = w guard in
            let c : Far tape o.id group (p + 1 - 1) = subst (Far tape o.id group) (sym (above_one p)) (far guard) in
            record { acting = sends_acting now _ t.acting ((λ is id. c), tt); node = t.node; asked = t.asked; phase = c }

    proposes_it : (now : Now) (o : Operation) (group : GroupId) (r : Reading) (p : ℕ) (own : Content) (promised : Promised) → W now (in_phase o (Reads group r)) → (Guard now → Far tape o.id group p)
        → P (proposes s now (in_phase o (Reads group r)) group r p own promised)
    proposes_it now o group r p own promised w far = proposes_by_it now o group r p own promised (leader_after s now group p) w far

    -- ---- it reads

    -- one that is about to read a group
    pub record Begins (now : Now) (o : Operation) (group : GroupId) : Type 0 where
      pub acting : Acting now
      pub node : (o.id).node.0 ≡ s.me
      pub asked : asked_for usage.meaning tape o.id ≡ Some o.request
      pub full : is_full s.cluster s.me ≡ true
      pub of : Of o.request group

    pub visits : (now : Now) (o : Operation) (asked : List ℕ) (group : GroupId) (message : Option Enter) → (Guard now → Begins now o group) → W (sends_more now (read_begun s now o group asked).sends) (visiting o group message (read_begun s now o group asked))
    visits now o asked group message begun guard = by (is_visited o group) (valid_at s.cluster now.met group) refl
      where
        ready : Begins now o group
        ready = begun guard

        a : Acting now
        a = ready.acting

        there : (read : ReadMove) → Each MessageFar read.sends → StageFar Far enough s.cluster tape o.id group (read.reading).stage → Turn (sends_more now read.sends) (visiting o group message read)
        there read far stage = record { acting = sends_acting now read.sends a far; node = ready.node; asked = ready.asked; phase = (ap (is_full s.cluster) ready.node ∙ ready.full, (ready.of, stage)) }

        polls : (noted : Option Epoch) → Turn (sends_more now (polled_read (reader_of s o.id group) noted asked (clock_of now.met)).sends) (visiting o group message (polled_read (reader_of s o.id group) noted asked (clock_of now.met)))
        polls noted = there (polled_read (reader_of s o.id group) noted asked (clock_of now.met)) (never_far tape _ (polled_never (reader_of s o.id group) noted asked (clock_of now.met)))
            (polled_far Far enough s.cluster tape l q o.id group noted asked (clock_of now.met))

        reads_here : valid_at s.cluster now.met group ≡ true → Far tape o.id group (top_of now.met group)
        reads_here valid = subst (λ met. Far tape o.id group (top_of met group)) (sym a.mid) (locals now.valid a.valids guard ready.full o.id group ready.node (ap (λ met. valid_at s.cluster met group) (sym a.mid) ∙ valid))

        by : (t u : Bool) → valid_at s.cluster now.met group ≡ u → let read = cond {A = ReadMove} t (polled_read (reader_of s o.id group) None asked (clock_of now.met))
            (cond u (local_read asked (top_of now.met group)) (polled_read (reader_of s o.id group) (serves_at s.cluster now.met) asked (clock_of now.met))) in Turn (sends_more now read.sends) (visiting o group message read)
        by true u e = polls None
        by false true e = there (local_read asked (top_of now.met group)) tt (reads_here e)
        by false false e = polls (serves_at s.cluster now.met)

    -- what it read
    reads_over : (now : Now) (o : Operation) (group : GroupId) (p : ℕ) → Turn now o → Far tape o.id group p → p ≤ prefix_of now.met group → (Shows : ℕ → List Content → Type 0) → Shows p (take p (log_of now.met group)) → ReadOver Far tape o.id group Shows
    reads_over now o group p t far le Shows shows = record {
      below = take p (log_of now.met group);
      known = knows_front tape (o.id).node.0 now.met group p (λ g n e is. subst (λ v. Stands (Decide (number v) g (record { 0 = n }) e) tape) (sym t.node)
          (known g n e (sym (ap (λ met. decided met g n) (t.acting).mid ∙ valid_decided now.valid base (t.acting).valids g n) ∙ is)));
      far = subst (Far tape o.id group) (sym size) far;
      shows = subst (λ k. Shows k (take p (log_of now.met group))) (sym size) shows;
    }
      where
        size : length (take p (log_of now.met group)) ≡ p
        size = front_length now.met group p le

    -- ---- a read that is complete

    stores : (now : Now) (stored : GroupId → ℕ) (o : Operation) → Turn now o → Turn (record { met = now.met; stored = stored; kept = now.kept; valid = now.valid; answers = now.answers; sends = now.sends }) o
    stores now stored o t = record {
      acting = record { mid = (t.acting).mid; valids = (t.acting).valids; answers = (t.acting).answers; sends = (t.acting).sends; kept = (t.acting).kept };
      node = t.node;
      asked = t.asked;
      phase = t.phase;
    }

    validates_it : (now : Now) (o : Operation) (group : GroupId) (p : ℕ) (refusal : Option NotValid) → W now o → W (validated_by now group p refusal) o
    validates_it now o group p (Some why) w guard = w guard
    validates_it now o group p None w guard = let t = w (each_front IsLast now.valid (Validates group p ∷ []) guard) in record {
      acting = record {
        mid = ap (λ met. Validates group p ∷ met) (t.acting).mid ∙ sym (onto_append now.valid (Validates group p ∷ []) base);
        valids = each_both IsValidate now.valid (Validates group p ∷ []) (t.acting).valids (tt, tt);
        answers = (t.acting).answers;
        sends = (t.acting).sends;
        kept = (t.acting).kept;
      };
      node = t.node;
      asked = t.asked;
      phase = t.phase;
    }

    abbrev caught : Option Epoch → List ℕ → ℕ → Option Search → Reading
    caught noted asked p search = record { noted = noted; asked = asked; stage = Catching p search }

    completes_it : (now : Now) (o : Operation) (group : GroupId) (noted : Option Epoch) (asked : List ℕ) (p : ℕ) (search : Option Search) → W now o → W (completes_read s now group (caught noted asked p search) p) o
    completes_it now o group None asked p search w guard = stores now _ o (w guard)
    completes_it now o group (Some noted) asked p search w guard =
        validates_it (record { met = now.met; stored = _; kept = now.kept; valid = now.valid; answers = now.answers; sends = now.sends }) o group p (refused_at s.cluster now.met group p noted) (λ front. stores now _ o (w front)) guard

    completes_le : (now : Now) (group : GroupId) (noted : Option Epoch) (asked : List ℕ) (p : ℕ) (search : Option Search) → p ≤ prefix_of now.met group → p ≤ prefix_of (completes_read s now group (caught noted asked p search) p).met group
    completes_le now group None asked p search le = le
    completes_le now group (Some noted) asked p search le = by _ (refused_at s.cluster now.met group p noted)
      where
        more : p ≤ prefix_of (Validates group p ∷ now.met) group
        more = let grows = prefix_more (Validates group p) now.met group in omega (arith, le, grows)

        by : (stored : GroupId → ℕ) (refusal : Option NotValid) → p ≤ prefix_of (validated_by (record { met = now.met; stored = stored; kept = now.kept; valid = now.valid; answers = now.answers; sends = now.sends }) group p refusal).met group
        by stored (Some why) = le
        by stored None = more

    -- ---- an operation that reads, in fields

    pub begins_read_it : (now : Now) (o : Operation) (group : GroupId) (message : Option Enter) (asked : List ℕ) → (Guard now → Begins now o group) → Leads (begins_read s now o group message asked)
    begins_read_it now o group message asked begun = visits now o asked group message begun

    pub picks_message_it : (now : Now) (o : Operation) (asked : List ℕ) (one : Option Posted) → ((group : GroupId) → Guard now → Begins now o group) → ((answer : Answer) → ((request : Request) → IsFarAnswer Far s.cluster tape o.id request answer) → P (ends now o.id answer))
        → Leads (picks_message s now o asked one)
    picks_message_it now o asked None begun ended = ended _ (λ request. tt)
    picks_message_it now o asked (Some one) begun ended = begins_read_it now o one.to (Some one.message) asked (begun one.to)

    pub picks_group_it : (now : Now) (o : Operation) (asked : List ℕ) (one : Option GroupId) → ((group : GroupId) → Guard now → Begins now o group) → ((answer : Answer) → ((request : Request) → IsFarAnswer Far s.cluster tape o.id request answer) → P (ends now o.id answer))
        → Leads (picks_group s now o asked one)
    picks_group_it now o asked None begun ended = ended _ (λ request. tt)
    picks_group_it now o asked (Some group) begun ended = begins_read_it now o group None asked (begun group)

    -- what is read completely
    module _ (id : OpId) (began : ℕ) (visited : List GroupId) (message : Option Enter) (group : GroupId) (noted : Option Epoch) (asked : List ℕ) (p : ℕ) (search : Option Search) where
      abbrev r : Reading
      r = caught noted asked p search

      abbrev one : Request → Operation
      one request = record { id = id; request = request; began = began; visited = visited; message = message; phase = Reads group r }

      module _ (now : Now) (le : p ≤ prefix_of now.met group) where
        abbrev log : List Content
        log = take p (log_of now.met group)

        covered : (request : Request) → W now (one request) → Guard now → Far tape id group p
        covered request w guard = (((w guard).phase).1).1

        over : (request : Request) → W now (one request) → Guard now → (Shows : ℕ → List Content → Type 0) → Shows p log → ReadOver Far tape id group Shows
        over request w guard Shows shows = reads_over now (one request) group p (w guard) (covered request w guard) le Shows shows

        -- it ends, or goes on where the log is not full
        full_it : (request : Request) (next : Next) → W now (one request) → (Of request group → is_write request ≡ true → group_written request ≡ Some group) → Leads next → Leads (unless_full s now (one request) p next)
        full_it request next w home k = either_so (nat_le ((s.cluster).limit).0 p) _ next (λ full. ends_it now (one request) (LogFull (record { 0 = p })) w (λ guard t. record {
          group = group;
          home = home (((w guard).phase).1).0;
          reads = over request w guard (λ n front. (n ≡ p) × (((s.cluster).limit).0 ≤ n)) (refl, le_is ((s.cluster).limit).0 p full);
        })) k

        proposed : (request : Request) (own : Content) (promised : Promised) → W now (one request) → P (proposes s now (one request) group r p own promised)
        proposed request own promised w = proposes_it now (one request) group r p own promised w (covered request w)

        again_reads : (request : Request) → ((other : GroupId) → Of request other) → W now (one request) → (other : GroupId) → Guard now → Begins now (one request) other
        again_reads request of w other guard = let t = w guard in record { acting = t.acting; node = t.node; asked = t.asked; full = ap (is_full s.cluster) (sym t.node) ∙ (t.phase).0; of = of other }

        nothing_left : (request : Request) → W now (one request) → (answer : Answer) → ((asked_of : Request) → IsFarAnswer Far s.cluster tape id asked_of answer) → P (ends now id answer)
        nothing_left request w answer far = ends_it now (one request) answer w (λ guard t. far request)

        sealed_it : (transaction : Transaction) (result : Result Done Turned) → outcome (s.cluster).schema transaction (rows_at now group p) ≡ result → W now (one (Txn transaction)) → P (sealed s now (one (Txn transaction)) group r p result)
        sealed_it transaction (Err turn) e w = ends_it now (one (Txn transaction)) (TurnedAnswer turn) w (λ guard t.
            subst (λ g. ReadOver Far tape id g (λ n front. outcome (s.cluster).schema transaction (after front no_rows) ≡ Err turn)) (sym (((w guard).phase).1).0)
            (over (Txn transaction) w guard (λ n front. outcome (s.cluster).schema transaction (after front no_rows) ≡ Err turn) e))
        sealed_it transaction (Ok done) e w = proposed (Txn transaction) (entry_of_done id done) (Replies done.replies) w

        batch_sealed_it : (own : GroupId) (transactions : List Transaction) → W now (one (BatchRequest own transactions)) → P (batch_sealed s now (one (BatchRequest own transactions)) group r p (batch_outcome (s.cluster).schema own transactions (rows_at now group p)))
        batch_sealed_it own transactions w = either (list_any is_ok (batch_outcome (s.cluster).schema own transactions (rows_at now group p)).results) _ _
            (proposed (BatchRequest own transactions) (entry_of_batch id (batch_outcome (s.cluster).schema own transactions (rows_at now group p))) (Results (batch_outcome (s.cluster).schema own transactions (rows_at now group p)).results) w)
            (ends_it now (one (BatchRequest own transactions)) (AllTurned (batch_outcome (s.cluster).schema own transactions (rows_at now group p)).results) w (λ guard t.
            subst (λ g. ReadOver Far tape id g (λ n front. (batch_outcome (s.cluster).schema own transactions (after front no_rows)).results ≡ (batch_outcome (s.cluster).schema own transactions (rows_at now group p)).results)) (sym (((w guard).phase).1).0)
            (over (BatchRequest own transactions) w guard (λ n front. (batch_outcome (s.cluster).schema own transactions (after front no_rows)).results ≡ (batch_outcome (s.cluster).schema own transactions (rows_at now group p)).results) refl)))

        read_it : (request : ReadRequest) → W now (one (ReadRequested request)) → P (ends now id (read_answer s request p (rows_at now group p) (listed_at now group p)))
        read_it request w = ends_it now (one (ReadRequested request)) (read_answer s request p (rows_at now group p) (listed_at now group p)) w (λ guard t.
            subst (IsFarAnswer Far s.cluster tape id (ReadRequested request)) (answer_is s request p log) (rows_far s.cluster tape id request p (rows_shown (s.cluster).schema request log request.rows) (λ current.
            subst (λ g. ReadOver Far tape id g (λ n front. read_over s.cluster request n front ≡ rows_answer p (rows_shown (s.cluster).schema request log request.rows))) (sym (((w guard).phase).1).0)
            (over (ReadRequested request) w guard (λ n front. read_over s.cluster request n front ≡ rows_answer p (rows_shown (s.cluster).schema request log request.rows)) refl))))

        find_it : (request : FindRequest) → W now (one (Find request)) → P (ends now id (local_found (s.cluster).schema request p (listed_at now group p)))
        find_it request w = ends_it now (one (Find request)) (local_found (s.cluster).schema request p (listed_at now group p)) w (λ guard t.
            found_far s.cluster tape id request request _ _ (listed_at now group p) _ (λ current other is.
            subst (λ g. ReadOver Far tape id g (λ n front. find_over s.cluster request n front ≡ local_found (s.cluster).schema request p (listed_at now group p))) (same_Some group other (sym (((w guard).phase).1).0 ∙ is))
            (over (Find request) w guard (λ n front. find_over s.cluster request n front ≡ local_found (s.cluster).schema request p (listed_at now group p)) refl)))

        enters_it : (picked : Option Enter) → W now (one PumpEnter) → Leads (enters s now (one PumpEnter) group r p picked)
        enters_it None w = picks_message_it now (one PumpEnter) (asked_by r) (next_to_enter id (applied_logs now)) (again_reads PumpEnter (λ other. tt) w) (nothing_left PumpEnter w)
        enters_it (Some picked) w = either_so (is_named picked.name (names_entered log)) _ _
            (λ there. picks_message_it now (one PumpEnter) (asked_by r) (next_to_enter id (applied_logs now)) (again_reads PumpEnter (λ other. tt) w) (nothing_left PumpEnter w)) (proposed PumpEnter (enter_entry id picked) (Replies []) w)

        handles_it : (oldest : Option Enter) → W now (one PumpHandle) → Leads (handles s now (one PumpHandle) group r p oldest)
        handles_it None w = picks_group_it now (one PumpHandle) (asked_by r) (next_to_handle (applied_logs now)) (again_reads PumpHandle (λ other. tt) w) (nothing_left PumpHandle w)
        handles_it (Some oldest) w = either_so (has s.handlers oldest.queue) _ _
            (λ there. proposed PumpHandle (handling s id group oldest (table_rows (s.cluster).schema group (listed_at now group p))) (Replies []) w) (ends_it now (one PumpHandle) (NoHandler oldest.queue) w (λ guard t. tt))

        finishes_by : (request : Request) → W now (one request) → Leads (finishes s now (one request) group r p)
        finishes_by (Txn transaction) w = full_it (Txn transaction) _ w (λ of is. ap Some of) (sealed_it transaction (outcome (s.cluster).schema transaction (rows_at now group p)) refl w)
        finishes_by (BatchRequest own transactions) w = full_it (BatchRequest own transactions) _ w (λ of is. ap Some of) (batch_sealed_it own transactions w)
        finishes_by (ReadRequested request) w = read_it request w
        finishes_by (Find request) w = find_it request w
        finishes_by PumpEnter w = full_it PumpEnter _ w (λ of is. cc) (enters_it message w)
        finishes_by PumpHandle w = full_it PumpHandle _ w (λ of is. cc) (handles_it (oldest_unhandled log) w)
        finishes_by Refresh w = keeps_it now (one Refresh) w

    module _ (id : OpId) (began : ℕ) (visited : List GroupId) (message : Option Enter) where
      abbrev in_fields : Request → Phase → Operation
      in_fields request phase = record { id = id; request = request; began = began; visited = visited; message = message; phase = phase }

      seeks_it : (now : Now) (request : Request) (group : GroupId) (noted : Option Epoch) (asked : List ℕ) (p : ℕ) (search : Option Search) (least : ℕ) → W now (in_fields request (Reads group (caught noted asked p search)))
          → W (sends_more now (seeks (reader_of s id group) (caught noted asked p search) least (clock_of now.met)).sends) (in_fields request (Reads group (seeks (reader_of s id group) (caught noted asked p search) least (clock_of now.met)).reading))
      seeks_it now request group noted asked p search least w guard = let t = w guard in record {
        acting = sends_acting now _ t.acting (never_far tape _ (seeks_never (reader_of s id group) (caught noted asked p search) least (clock_of now.met)));
        node = t.node;
        asked = t.asked;
        phase = ((t.phase).0, (((t.phase).1).0, seeks_far Far enough s.cluster tape l q id group (caught noted asked p search) least (clock_of now.met) ((t.phase).1).1));
      }

      reads_on_by : (now : Now) (request : Request) (group : GroupId) (noted : Option Epoch) (asked : List ℕ) (stage : Stage) → W now (in_fields request (Reads group (record { noted = noted; asked = asked; stage = stage })))
          → Leads (reads_on s now (in_fields request (Reads group (record { noted = noted; asked = asked; stage = stage }))) group (record { noted = noted; asked = asked; stage = stage }))
      reads_on_by now request group noted asked (Polling heard best at) w = keeps_it now (in_fields request (Reads group (record { noted = noted; asked = asked; stage = Polling heard best at }))) w
      reads_on_by now request group noted asked (Catching p search) w = either_so (nat_le p (prefix_of now.met group)) _ _
          (λ all. finishes_by id began visited message group noted asked p search (completes_read s now group (caught noted asked p search) p)
          (completes_le now group noted asked p search (le_is p (prefix_of now.met group) all)) request
          (completes_it now (in_fields request (Reads group (caught noted asked p search))) group noted asked p search w))
          (keeps_it (sends_more now (seeks (reader_of s id group) (caught noted asked p search) (prefix_of now.met group + 1) (clock_of now.met)).sends)
          (in_fields request (Reads group (seeks (reader_of s id group) (caught noted asked p search) (prefix_of now.met group + 1) (clock_of now.met)).reading))
          (seeks_it now request group noted asked p search (prefix_of now.met group + 1) w))

      acts_by : (now : Now) (request : Request) (phase : Phase) → W now (in_fields request phase) → Leads (acts s now (in_fields request phase))
      acts_by now request (Reads group r) w = reads_on_by now request group r.noted r.asked r.stage w
      acts_by now request (Proposes group n asked proposal promised) w = unless_decided_it now (in_fields request (Proposes group n asked proposal promised)) n promised (decided now.met group n) w

    -- until it rests
    pub rests_within_it : (most : ℕ) (next : Next) → Leads next → P (rests_within most s next)
    rests_within_it most (Rests now) h = h
    rests_within_it zero (ActsAgain now o) w = keeps_it now o w
    rests_within_it (suc most) (ActsAgain now o) w = rests_within_it most (acts s now o) (acts_by o.id o.began o.visited o.message now o.request o.phase w)

    pub goes_on_it : (now : Now) (o : Operation) → W now o → P (goes_on s now o)
    goes_on_it now o w = rests_within_it (length (groups_of now.met) + 2) (ActsAgain now o) w

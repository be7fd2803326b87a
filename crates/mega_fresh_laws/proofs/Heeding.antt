-- All that the operations of a node do in a step, one after another: what they hear, what is due, and one that begins.
use Rattle.std.proofs.Common.{◌≡◌, ℕ, ◌-◌, nat_le, Bool, true, false, cond, List, [], ◌∷◌, length, map, flat_map, fold, Option, Some, None, refl, sym, ap, ◌∙◌, subst, ◌+◌}
use Rattle.std.proofs.lemmas.Option.{same_Some}
use Rattle.mega_base.specs.declared.names.GroupId.{GroupId}
use Rattle.mega_base.specs.declared.names.OpId.{OpId}
use Rattle.mega_cluster.specs.declared.cluster.Cluster.{Cluster}
use Rattle.mega_entry.specs.declared.content.Content.{Content}
use Rattle.mega_entry.specs.declared.content.Enter.{Enter}
use Rattle.mega_index.specs.Rows.{Listed, Rows}
use Rattle.mega_outcome.specs.declared.answer.Answer.{Answer}
use Rattle.mega_outcome.specs.declared.answer.Answer.TheVariants.{Read as ReadAnswer}
use Rattle.mega_outcome.specs.declared.request.FindRequest.{FindRequest}
use Rattle.mega_outcome.specs.declared.request.Mode.{Mode}
use Rattle.mega_outcome.specs.declared.request.Mode.TheVariants.{Current, Snapshot, Inconsistent}
use Rattle.mega_outcome.specs.declared.request.ReadRequest.{ReadRequest}
use Rattle.mega_outcome.specs.declared.request.Request.{Request}
use Rattle.mega_outcome.specs.declared.request.Request.TheVariants.{Txn, Batch as BatchRequest, Read as ReadRequested, Find, PumpEnter, PumpHandle, Refresh}
use Rattle.mega_outcome.specs.declared.transaction.RowRef.{RowRef}
use Rattle.mega_outcome.specs.Reads.{all_rows, read_rows}
use Rattle.mega_leased_laws.specs.of_settled_laws.of_run_laws.of_tape_laws.of_promises.of_rules.of_read.Catching.{site}
use Rattle.mega_leased_laws.specs.of_settled_laws.of_run_laws.of_tape_laws.of_promises.of_transcript.declared.item.Item.{Item}
use Rattle.mega_wire.specs.declared.message.Message.{Message}
use Rattle.mega_wire.specs.declared.message.Body.{Body}
use Rattle.mega_wire.specs.declared.message.Body.TheVariants.{Accept}
use Rattle.mega_leased_laws.specs.of_settled_laws.of_run_laws.of_tape_laws.of_promises.Promises.{asked_for}
use Rattle.mega_leased_laws.specs.of_settled_laws.of_run_laws.of_tape_laws.of_promises.of_rules.Members.{is_full}
use Rattle.mega_leased_laws.specs.of_settled_laws.of_run_laws.of_tape_laws.of_promises.of_rules.Met.{Met}
use Rattle.mega_leased_laws.specs.of_settled_laws.of_run_laws.of_tape_laws.of_promises.of_rules.Queues.{next_to_enter, next_to_handle}
use Rattle.mega_leased_laws.specs.of_settled_laws.of_run_laws.of_tape_laws.of_promises.of_rules.Logs.{groups_of}
use Rattle.mega_leased_laws.specs.of_settled_laws.of_run_laws.of_tape_laws.of_promises.of_rules.Operations.{Now, Operation, Phase, Proposes, Reads, Setting}
use Rattle.mega_leased_laws.specs.of_settled_laws.of_run_laws.of_tape_laws.of_promises.of_rules.Acting.{Next, applied_logs, begins_read, ends, read_answer, reader_of, rows_answer, sends_more}
use Rattle.mega_leased_laws.specs.of_settled_laws.of_run_laws.of_tape_laws.of_promises.of_rules.Steps.{Heard, acts_first, acts_in_turn, all_act, does_due, find_begins, hears_message, is_current, is_out, last_answer, local_find_begins, new_operation, read_begins, ticked, unless_refused}
use Rattle.mega_leased_laws.specs.of_settled_laws.of_run_laws.of_tape_laws.Lawful.{Lawful, message}
use Rattle.mega_leased_laws.specs.of_settled_laws.of_run_laws.of_tape_laws.Places.{Took}
use Rattle.mega_leased_laws.specs.of_settled_laws.of_run_laws.of_tape_laws.Polls.{ArePolls}
use Rattle.mega_leased_laws.specs.of_settled_laws.of_run_laws.of_tape_laws.Writes.{Usage}
use Rattle.mega_leased_laws.specs.of_settled_laws.of_run_laws.Justified.{Each}
use Rattle.mega_leased_laws.proofs.of_settled_laws.of_run_laws.Turns.{Known}
use Rattle.mega_fresh_laws.specs.FarEnough.{IsFarAnswer, IsProposed}
use Rattle.mega_fresh_laws.proofs.Enough.{Suffices}
use Rattle.mega_fresh_laws.proofs.Accepts.{Zero, ZeroBody, due_zero, falls_due_never, hears_never, takes_zero}
use Rattle.mega_fresh_laws.proofs.Through.{Of, PhaseAbove, PhaseFar, due_far, hears_far}
use Rattle.mega_base.specs.declared.values.NodeKind.{NodeKind}
use Rattle.mega_outcome.specs.declared.answer.Answer.TheVariants.{Busy, NotHere, TimedOut, Unknown, Worn}
use Rattle.mega_leased_laws.specs.of_settled_laws.of_run_laws.of_tape_laws.of_promises.of_rules.of_read.of_propose.declared.round.Site.{Site}
use Rattle.mega_index.specs.Fits.{numbered}
use Rattle.mega_leased_laws.specs.of_settled_laws.of_run_laws.of_tape_laws.of_promises.of_rules.Finding.{group_bytes, group_marks, refreshed_marks, rows_through}
use Rattle.mega_leased_laws.specs.of_settled_laws.of_run_laws.of_tape_laws.of_promises.of_rules.Steps.{applied_position, needs_full, snapshot_listed, stored_listed, unless_missing}
use Rattle.mega_fresh_laws.proofs.Acting.{Acting, Begins, Guard, Leads, Locals, answers_more, begins_read_it, found_far, goes_on_it, never_far, picks_group_it, picks_message_it, rests_within_it, rows_far, sends_acting}

module _ (Far : List Item → OpId → GroupId → ℕ → Type 0) (enough : Suffices Far) where
  clash_of : {X : Type 0} (t : Bool) → t ≡ true → t ≡ false → X
  clash_of t h k = absurd (let both = sym h ∙ k in cc)

  none_some : {X Y : Type 0} (x : X) → None ≡ Some x → Y
  none_some x h = cc

  zero_far : (tape : List Item) (at : Site) (own : Content) (ms : List Message) → Far tape at.op at.group (at.position - 1) → Each (Zero at own) ms → Each (λ m. IsProposed Far tape m.body) ms
  zero_far tape at own [] far h = tt
  zero_far tape at own (m ∷ ms) far h = (by m.body h.0, zero_far tape at own ms far h.1)
    where
      by : (body : Body) → ZeroBody at own body → IsProposed Far tape body
      by (Accept op group n b e) only = λ is id. let same = only is in coe 1 0 (i. Far tape ((same.0).0 i) ((same.0).1 i) (((same.1).0 i) - 1)) far
      by _ only = tt

  -- no answer of an operation that is refused, or that has waited too long, shows rows
  pub refused_far : (c : Cluster) (tape : List Item) (op : OpId) (asked : Request) (open_ones : List Operation) (kind : Option NodeKind) (worn : Bool) (answer : Answer) → cond worn (Some Worn) (unless_missing open_ones kind) ≡ Some answer
      → IsFarAnswer Far c tape op asked answer
  refused_far c tape op asked open_ones kind true answer is = subst (IsFarAnswer Far c tape op asked) (same_Some Worn answer is) tt
  refused_far c tape op asked open_ones (Some kind) false answer is = subst (IsFarAnswer Far c tape op asked) (same_Some (NotHere kind) answer is) tt
  refused_far c tape op asked open_ones None false answer is = by (nat_le 64 (length open_ones)) is
    where
      by : (t : Bool) → cond t (Some (Busy 64)) None ≡ Some answer → IsFarAnswer Far c tape op asked answer
      by true k = subst (IsFarAnswer Far c tape op asked) (same_Some (Busy 64) answer k) tt
      by false k = cc

  out_far : (c : Cluster) (tape : List Item) (o : Operation) → IsFarAnswer Far c tape o.id o.request (last_answer o)
  out_far c tape o = by o.phase
    where
      answered : Phase → Answer
      answered (Reads group r) = TimedOut
      answered (Proposes group n asked proposal promised) = Unknown

      by : (phase : Phase) → IsFarAnswer Far c tape o.id o.request (answered phase)
      by (Reads group r) = tt
      by (Proposes group n asked proposal promised) = tt

  -- a read that is not current may show anything
  read_far : (s : Setting) (tape : List Item) (op : OpId) (request : ReadRequest) (p : ℕ) (rows : Rows) (listed : Listed) → (is_current request.mode ≡ true → ⊥) → IsFarAnswer Far s.cluster tape op (ReadRequested request) (read_answer s request p rows listed)
  read_far s tape op request p rows listed other = by request.rows
    where
      answered : List RowRef → Answer
      answered [] = ReadAnswer (record { 0 = p }) (all_rows (s.cluster).schema request.group listed)
      answered (row ∷ more) = rows_answer p (read_rows (s.cluster).schema request.group (row ∷ more) rows)

      by : (refs : List RowRef) → IsFarAnswer Far s.cluster tape op (ReadRequested request) (answered refs)
      by [] = λ current. absurd (other current)
      by (row ∷ more) = rows_far Far enough s.cluster tape op request p (read_rows (s.cluster).schema request.group (row ∷ more) rows) (λ current. absurd (other current))

  -- an open operation, before it hears anything
  pub record Open (s : Setting) (usage : Usage) (tape : List Item) (o : Operation) : Type 0 where
    pub node : (o.id).node.0 ≡ s.me
    pub asked : asked_for usage.meaning tape o.id ≡ Some o.request
    pub above : PhaseAbove o.id o.phase
    pub far : PhaseFar Far enough s.cluster tape o.id o.request o.phase

  module _ (s : Setting) (usage : Usage) (tape : List Item) (l : Lawful s.cluster tape) (q : ArePolls tape) (base last : List Met) (known : Known s.me base tape) (locals : Locals Far s tape base last) where
    abbrev ActingAt : Now → Type 0
    ActingAt now = Acting Far enough s usage tape l q base last known locals now

    abbrev pub Guarded : Now → Type 0
    Guarded now = Guard Far enough s usage tape l q base last known locals now

    abbrev pub Ended : Now → Type 0
    Ended now = Guarded now → ActingAt now

    -- what an operation comes to
    abbrev Led : Next → Type 0
    Led next = Leads Far enough s usage tape l q base last known locals next

    record Heeds (t : Heard) : Type 0 where
      node : ((t.operation).id).node.0 ≡ s.me
      asked : asked_for usage.meaning tape (t.operation).id ≡ Some (t.operation).request
      phase : PhaseFar Far enough s.cluster tape (t.operation).id (t.operation).request (t.operation).phase
      sends : Each (λ m. IsProposed Far tape m.body) t.sends

    heard_by : (clock : ℕ) (m : Message) (o : Operation) (phase : Phase) → (o.id).node.0 ≡ s.me → asked_for usage.meaning tape o.id ≡ Some o.request → PhaseAbove o.id phase → PhaseFar Far enough s.cluster tape o.id o.request phase → Took tape (message m.from (o.id).node.0 m.body)
        → Heeds (hears_message s clock m (record { id = o.id; request = o.request; began = o.began; visited = o.visited; message = o.message; phase = phase }))
    heard_by clock m o (Reads group r) node asked above h took = record {
      node = node;
      asked = asked;
      phase = (h.0, ((h.1).0, hears_far Far enough s.cluster tape l q o.id group r m.from clock m.body (h.1).1 took));
      sends = never_far Far enough tape _ (hears_never (reader_of s o.id group) r m.from clock m.body above);
    }
    heard_by clock m o (Proposes group n asked_about proposal promised) node asked above h took = record {
      node = node;
      asked = asked;
      phase = h;
      sends = zero_far tape (site (reader_of s o.id group) asked_about n) proposal.own _ h (takes_zero (site (reader_of s o.id group) asked_about n) proposal m.from clock m.body above);
    }

    due_by : (clock : ℕ) (o : Operation) (phase : Phase) → (o.id).node.0 ≡ s.me → asked_for usage.meaning tape o.id ≡ Some o.request → PhaseAbove o.id phase → PhaseFar Far enough s.cluster tape o.id o.request phase
        → Heeds (does_due s clock (record { id = o.id; request = o.request; began = o.began; visited = o.visited; message = o.message; phase = phase }))
    due_by clock o (Reads group r) node asked above h = record {
      node = node;
      asked = asked;
      phase = (h.0, ((h.1).0, due_far Far enough s.cluster tape l q o.id group r (s.cluster).retry clock (h.1).1));
      sends = never_far Far enough tape _ (falls_due_never (reader_of s o.id group) r (s.cluster).retry clock above);
    }
    due_by clock o (Proposes group n asked_about proposal promised) node asked above h = record {
      node = node;
      asked = asked;
      phase = h;
      sends = zero_far tape (site (reader_of s o.id group) asked_about n) proposal.own _ h (due_zero (site (reader_of s o.id group) asked_about n) proposal.own proposal (s.cluster).retry clock);
    }

    turn_it : (now : Now) (t : Heard) → Ended now → Heeds t → Ended (acts_in_turn s now t)
    turn_it now t p h = goes_on_it Far enough s usage tape l q base last known locals (sends_more now t.sends) t.operation
        (λ guard. record { acting = sends_acting Far enough s usage tape l q base last known locals now t.sends (p guard) h.sends; node = h.node; asked = h.asked; phase = h.phase })

    pub all_heard : (clock : ℕ) (m : Message) → Took tape (message m.from s.me m.body) → (os : List Operation) (now : Now) → Each (Open s usage tape) os → Ended now → Ended (all_act s now (map (hears_message s clock m) os))
    all_heard clock m took [] now h p = p
    all_heard clock m took (o ∷ os) now h p = all_heard clock m took os (acts_in_turn s now (hears_message s clock m o)) h.1
        (turn_it now (hears_message s clock m o) p (heard_by clock m o o.phase (h.0).node (h.0).asked (h.0).above (h.0).far (subst (λ to. Took tape (message m.from to m.body)) (sym (h.0).node) took)))

    ticked_it : (clock : ℕ) (now : Now) (o : Operation) → Open s usage tape o → Ended now → Ended (ticked s clock now o)
    ticked_it clock now o h p = by (is_out s clock o)
      where
        by : (t : Bool) → Ended (cond t (ends now o.id (last_answer o)) (acts_in_turn s now (does_due s clock o)))
        by true = λ guard. answers_more Far enough s usage tape l q base last known locals now o.id (last_answer o) (p guard) (record { request = o.request; asked = h.asked; far = out_far s.cluster tape o })
        by false = turn_it now (does_due s clock o) p (due_by clock o o.phase h.node h.asked h.above h.far)

    pub all_ticked : (clock : ℕ) (os : List Operation) (now : Now) → Each (Open s usage tape) os → Ended now → Ended (fold (ticked s clock) now os)
    all_ticked clock [] now h p = p
    all_ticked clock (o ∷ os) now h p = all_ticked clock os (ticked s clock now o) h.1 (ticked_it clock now o h.0 p)

    -- ---- one that begins

    module _ (now : Now) (id : OpId) (clock : ℕ) (p : Ended now) (node : id.node.0 ≡ s.me) where
      module _ (request : Request) (asked : asked_for usage.meaning tape id ≡ Some request) where
        abbrev o : Operation
        o = new_operation id request clock

        given : (answer : Answer) → IsFarAnswer Far s.cluster tape id request answer → Ended (ends now id answer)
        given answer far guard = answers_more Far enough s usage tape l q base last known locals now id answer (p guard) (record { request = request; asked = asked; far = far })

        ready : (group : GroupId) → is_full s.cluster s.me ≡ true → Of request group → Guarded now → Begins Far enough s usage tape l q base last known locals now o group
        ready group full of guard = record { acting = p guard; node = node; asked = asked; full = full; of = of }

        reads : (group : GroupId) (message : Option Enter) → is_full s.cluster s.me ≡ true → Of request group → Led (begins_read s now o group message [])
        reads group message full of = begins_read_it Far enough s usage tape l q base last known locals now o group message [] (ready group full of)

      read_begins_it : (request : ReadRequest) → asked_for usage.meaning tape id ≡ Some (ReadRequested request) → (is_current request.mode ≡ true → is_full s.cluster s.me ≡ true) → (mode : Mode) → request.mode ≡ mode
          → Led (read_begins s now (new_operation id (ReadRequested request) clock) request mode)
      read_begins_it request asked full Current e = reads (ReadRequested request) asked request.group None (full (ap is_current e)) refl
      read_begins_it request asked full Snapshot e = given (ReadRequested request) asked _ (read_far s tape id request _ _ _ (λ current. let clashing = sym current ∙ ap is_current e in cc))
      read_begins_it request asked full Inconsistent e = given (ReadRequested request) asked _ (read_far s tape id request _ _ _ (λ current. let clashing = sym current ∙ ap is_current e in cc))

      local_find_it : (request : FindRequest) (group : GroupId) → request.group ≡ Some group → asked_for usage.meaning tape id ≡ Some (Find request) → (is_current request.mode ≡ true → is_full s.cluster s.me ≡ true) → (mode : Mode) → request.mode ≡ mode
          → Led (local_find_begins s now (new_operation id (Find request) clock) request group mode)
      local_find_it request group of asked full Current e = reads (Find request) asked group None (full (ap is_current e)) of
      local_find_it request group of asked full Snapshot e = given (Find request) asked _ (found_far Far enough s.cluster tape id request request (group_marks request.group (applied_position now group)) (group_bytes request.group) (snapshot_listed now group)
          (numbered (s.cluster).schema.indexes request.index) (λ current. clash_of (is_current request.mode) current (ap is_current e)))
      local_find_it request group of asked full Inconsistent e = given (Find request) asked _ (found_far Far enough s.cluster tape id request request (group_marks request.group (applied_position now group)) (group_bytes request.group) (stored_listed now group)
          (numbered (s.cluster).schema.indexes request.index) (λ current. clash_of (is_current request.mode) current (ap is_current e)))

      find_begins_it : (request : FindRequest) → asked_for usage.meaning tape id ≡ Some (Find request) → (is_current request.mode ≡ true → is_full s.cluster s.me ≡ true) → (group : Option GroupId) → request.group ≡ group
          → Led (find_begins s now (new_operation id (Find request) clock) request group)
      find_begins_it request asked full None e = given (Find request) asked _ (found_far Far enough s.cluster tape id request request (refreshed_marks now.met) [] (flat_map (rows_through now.met) (refreshed_marks now.met))
          (numbered (s.cluster).schema.indexes request.index) (λ current other is. none_some other (sym e ∙ is)))
      find_begins_it request asked full (Some group) e = local_find_it request group e asked full request.mode refl

      first_by : (request : Request) → asked_for usage.meaning tape id ≡ Some request → (needs_full request ≡ true → is_full s.cluster s.me ≡ true) → Led (acts_first s now (new_operation id request clock))
      first_by (Txn transaction) asked full = reads (Txn transaction) asked transaction.group None (full refl) refl
      first_by (BatchRequest group transactions) asked full = reads (BatchRequest group transactions) asked group None (full refl) refl
      first_by (ReadRequested request) asked full = read_begins_it request asked full request.mode refl
      first_by (Find request) asked full = find_begins_it request asked full request.group refl
      first_by PumpEnter asked full = picks_message_it Far enough s usage tape l q base last known locals now (new_operation id PumpEnter clock) [] (next_to_enter id (applied_logs now))
          (λ group. ready PumpEnter asked group (full refl) tt) (λ answer far. given PumpEnter asked answer (far PumpEnter))
      first_by PumpHandle asked full = picks_group_it Far enough s usage tape l q base last known locals now (new_operation id PumpHandle clock) [] (next_to_handle (applied_logs now))
          (λ group. ready PumpHandle asked group (full refl) tt) (λ answer far. given PumpHandle asked answer (far PumpHandle))
      first_by Refresh asked full = given Refresh asked _ tt

      pub begun_it : (request : Request) → asked_for usage.meaning tape id ≡ Some request → (refusal : Option Answer) → (refusal ≡ None → needs_full request ≡ true → is_full s.cluster s.me ≡ true) → ((answer : Answer) → refusal ≡ Some answer → IsFarAnswer Far s.cluster tape id request answer)
          → Ended (unless_refused s now (new_operation id request clock) refusal)
      begun_it request asked None full far = rests_within_it Far enough s usage tape l q base last known locals (length (groups_of now.met) + 2) (acts_first s now (new_operation id request clock)) (first_by request asked (full refl))
      begun_it request asked (Some answer) full far = given request asked answer (far answer refl)

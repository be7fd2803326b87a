-- What a node does that takes a message of a read: one with no open operation replies, and the one that reads goes on.
use Rattle.std.proofs.Common.{◌≡◌, inl, ℕ, ◌+◌, nat_le, false, List, [], ◌∷◌, ◌++◌, map, Option, Some, None, refl, sym, ap, ◌∙◌, subst}
use Rattle.mega_base.specs.declared.names.Epoch.{Epoch}
use Rattle.mega_base.specs.declared.names.GroupId.{GroupId}
use Rattle.mega_base.specs.declared.names.OpId.{OpId}
use Rattle.mega_entry.specs.declared.content.Content.{Content}
use Rattle.mega_entry.specs.declared.content.Enter.{Enter}
use Rattle.mega_wire.specs.declared.message.Message.{Message}
use Rattle.mega_wire.specs.declared.message.Body.{Body}
use Rattle.mega_wire.specs.declared.message.Body.TheVariants.{Have}
use Rattle.mega_outcome.specs.declared.answer.Answer.TheVariants.{Read as ReadAnswer}
use Rattle.mega_outcome.specs.declared.answer.Shown.{Shown}
use Rattle.mega_outcome.specs.declared.request.ReadRequest.{ReadRequest}
use Rattle.mega_leased_laws.specs.of_run_laws.of_tape_laws.of_promises.of_rules.of_read.declared.reading.Search.{Search}
use Rattle.mega_leased_laws.specs.of_run_laws.of_tape_laws.of_promises.of_rules.of_read.declared.reading.Search.TheVariants.{Fetching, Filling}
use Rattle.mega_leased_laws.specs.of_run_laws.of_tape_laws.of_promises.of_rules.of_read.declared.reading.Stage.{Stage}
use Rattle.mega_leased_laws.specs.of_run_laws.of_tape_laws.of_promises.of_rules.of_read.declared.reading.Stage.TheVariants.{Polling, Catching}
use Rattle.mega_leased_laws.specs.of_run_laws.of_tape_laws.of_promises.of_rules.of_read.Catching.{fetch_to, helpers}
use Rattle.mega_leased_laws.specs.of_run_laws.of_tape_laws.of_promises.of_rules.Met.{Met, Answers, Takes}
use Rattle.mega_leased_laws.specs.of_run_laws.of_tape_laws.of_promises.of_rules.Clock.{clock_of}
use Rattle.mega_leased_laws.specs.of_run_laws.of_tape_laws.of_promises.of_rules.Logs.{prefix_of}
use Rattle.mega_leased_laws.specs.of_run_laws.of_tape_laws.of_promises.of_rules.Operations.{Node, Now, Operation, Setting}
use Rattle.mega_leased_laws.specs.of_run_laws.of_tape_laws.of_promises.of_rules.Acting.{sends_more}
use Rattle.mega_leased_laws.specs.of_run_laws.of_tape_laws.of_promises.of_rules.Replies.{reply_to}
use Rattle.mega_leased_laws.specs.of_run_laws.of_tape_laws.of_promises.of_rules.Steps.{Decision, Heard, Step, decision_note, first_settled, hears_message, if_new, onto, take_step, taken}
use Rattle.mega_leased_laws.specs.of_run_laws.Justified.{Each}
use Rattle.mega_leased_laws.proofs.of_run_laws.Events.{each_append as each_both}
use Rattle.mega_calm_laws.proofs.Mail.{Among}
use Rattle.mega_calm_laws.proofs.Noting.{IsNoVote, IsStill, SameLogs, logs_then, still_one}
use Rattle.mega_calm_laws.proofs.Reading.{Helped, IsUnfilled, Outcome, ShowsRows, Stayed, answered, append_none, asks, fetching, goes_on_so, one, waits, who}
use Rattle.mega_calm_laws.proofs.Stepping.{IsAsking, acted, answer_noted, first, heard_by, logs_are, made, message, sends_are, takes_asking, takes_have}

abbrev pub NoVotes : List Message → Type 0
NoVotes ms = Each (λ (one : Message). IsNoVote one.body) ms

-- ---- a node with no open operation

pub record IsIdle (base : List Met) (step : Step) (sends : List Message) : Type 0 where
  pub sends_are : step.sends ≡ sends
  pub none_open : (step.node).open_operations ≡ []
  pub logs : SameLogs base (step.node).met

module _ (s : Setting) (node : Node) (none : node.open_operations ≡ []) where
  none_heard : (m : Message) → heard_by s node m ≡ []
  none_heard m = ap (map (hears_message s (clock_of node.met) m)) none

  idle_made : (m : Message) (d : Option Decision) (reply : List Message) → NoVotes reply → IsIdle (onto (decision_note d) (Takes m ∷ node.met)) (made s node m [] d reply) reply
  idle_made m d reply quiet = record {
    sends_are = same;
    none_open = refl;
    logs = logs_are s node m [] d reply tt tt (subst NoVotes (sym same) quiet);
  }
    where
      same : (made s node m [] d reply).sends ≡ reply
      same = sends_are s node m [] d reply ∙ append_none reply

  pub idle_asking : (from to : ℕ) (body : Body) → IsAsking body → (reply : List Message) → reply_to s.cluster s.me node.met (message from to body) ≡ reply → NoVotes reply
      → IsIdle node.met (take_step s node (message from to body)) reply
  idle_asking from to body asking reply is quiet =
      subst (λ made. IsIdle node.met made reply) (sym (takes_asking s node from to body asking [] (none_heard m) refl ∙ ap (λ r. taken s node m [] [] None r []) is))
      (record { sends_are = idle.sends_are; none_open = idle.none_open; logs = logs_then node.met (Takes m ∷ node.met) ((made s node m [] None reply).node).met (still_one (Takes m) node.met tt) idle.logs })
    where
      m : Message
      m = message from to body

      idle : IsIdle (Takes m ∷ node.met) (made s node m [] None reply) reply
      idle = idle_made m None reply quiet

  pub idle_have : (from to : ℕ) (op : OpId) (g : GroupId) (n : ℕ) (entry : Content)
      → IsIdle (onto (decision_note (if_new node.met (Some (record { group = g; position = n; entry = entry })))) (Takes (message from to (Have op g (record { 0 = n }) entry)) ∷ node.met))
      (take_step s node (message from to (Have op g (record { 0 = n }) entry))) []
  idle_have from to op g n entry =
      subst (λ made. IsIdle (onto (decision_note (if_new node.met (Some (record { group = g; position = n; entry = entry })))) (Takes (message from to (Have op g (record { 0 = n }) entry)) ∷ node.met)) made [])
      (sym (takes_have s node from to op g n entry [] (none_heard (message from to (Have op g (record { 0 = n }) entry)))))
      (idle_made (message from to (Have op g (record { 0 = n }) entry)) (if_new node.met (Some (record { group = g; position = n; entry = entry }))) [] tt)

-- ---- the node that reads

module _ (s : Setting) (op : OpId) (request : ReadRequest) (began : ℕ) (visited : List GroupId) (entering : Option Enter) (g : GroupId) (noted : Option Epoch) (shows : ShowsRows s request) where
  abbrev pub reads : List ℕ → Stage → Operation
  reads asked stage = one s op request began visited entering g noted asked stage

  abbrev pub fetch_all : ℕ → List Message
  fetch_all n = map (fetch_to (who s op request began visited entering g noted) n) (helpers (who s op request began visited entering g noted))

  -- what becomes of a read that heard what the step brings: `base` is what the node met then
  pub data Becomes (base : List Met) (stage : Stage) (step : Step) (reply : List Message) : Type 0 where
    answers : (p : ℕ) (shown : List (Option Shown)) → step.sends ≡ reply → (step.node).open_operations ≡ [] → SameLogs base (step.node).met
        → Among (Answers op (ReadAnswer (record { 0 = p }) shown)) step.notes → Becomes base stage step reply
    stays : (asked : List ℕ) → step.sends ≡ reply → (step.node).open_operations ≡ reads asked stage ∷ [] → SameLogs base (step.node).met
        → Stayed s op request began visited entering g noted base stage → Becomes base stage step reply
    fetches : (asked : List ℕ) (through at : ℕ) (search : Option Search) → stage ≡ Catching through search → nat_le through (prefix_of base g) ≡ false
        → step.sends ≡ reply ++ fetch_all (prefix_of base g + 1) → (step.node).open_operations ≡ reads asked (fetching s op request began visited entering g noted base through at) ∷ []
        → SameLogs base (step.node).met → Becomes base stage step reply

  pub fetch_quiet : (n : ℕ) (vs : List ℕ) → NoVotes (map (fetch_to (who s op request began visited entering g noted) n) vs)
  fetch_quiet n [] = tt
  fetch_quiet n (v ∷ vs) = (tt, fetch_quiet n vs)

  module _ (node : Node) (m : Message) (d : Option Decision) (reply : List Message) (quiet : NoVotes reply) (asked : List ℕ) (stage : Stage) where
    abbrev heard : List Heard
    heard = record { operation = reads asked stage; sends = [] } ∷ []

    abbrev base : List Met
    base = onto (decision_note d) (Takes m ∷ node.met)

    abbrev now : Now
    now = first s node m heard d reply

    abbrev next : Now
    next = acted s node m heard d reply

    abbrev step : Step
    step = made s node m heard d reply

    pub made_becomes : Helped s op request began visited entering g noted shows base stage → Becomes base stage step reply
    made_becomes helped = by (goes_on_so s op request began visited entering g noted shows (sends_more now []) asked stage tt helped)
      where
        by : Outcome s op request began visited entering g noted (sends_more now []) stage next → Becomes base stage step reply
        by (answered p shown kept sends valid answers_are) =
            answers p shown sent kept
            (logs_are s node m heard d reply valid (subst (Each IsStill) (sym answers_are) (tt, tt)) (subst NoVotes (sym sent) quiet))
            (answer_noted s node m heard d reply (Answers op (ReadAnswer (record { 0 = p }) shown)) (subst (Among (Answers op (ReadAnswer (record { 0 = p }) shown))) (sym answers_are) (inl refl)))
          where
            sent : step.sends ≡ reply
            sent = sends_are s node m heard d reply ∙ (ap (λ l. reply ++ l) sends ∙ append_none reply)
        by (waits asked' kept sends valid answers_are stayed) =
            stays asked' sent kept (logs_are s node m heard d reply valid (subst (Each IsStill) (sym answers_are) tt) (subst NoVotes (sym sent) quiet)) stayed
          where
            sent : step.sends ≡ reply
            sent = sends_are s node m heard d reply ∙ (ap (λ l. reply ++ l) sends ∙ append_none reply)
        by (asks asked' through at search is above kept sends valid answers_are) =
            fetches asked' through at search is above sent kept
            (logs_are s node m heard d reply valid (subst (Each IsStill) (sym answers_are) tt)
            (subst NoVotes (sym sent) (each_both (λ (x : Message). IsNoVote x.body) reply (fetch_all (prefix_of base g + 1)) quiet (fetch_quiet (prefix_of base g + 1) (helpers (who s op request began visited entering g noted))))))
          where
            sent : step.sends ≡ reply ++ fetch_all (prefix_of base g + 1)
            sent = sends_are s node m heard d reply ∙ ap (λ l. reply ++ l) sends

  -- a message that tells of no decision
  unsettled : (asked : List ℕ) (stage : Stage) → IsUnfilled stage → first_settled (record { operation = reads asked stage; sends = [] } ∷ []) ≡ None
  unsettled asked (Polling those best at) h = refl
  unsettled asked (Catching through None) h = refl
  unsettled asked (Catching through (Some (Fetching position denials at))) h = refl
  unsettled asked (Catching through (Some (Filling position proposal))) h = absurd h

  pub reads_asking : (node : Node) (from to : ℕ) (body : Body) → IsAsking body → (reply : List Message) → reply_to s.cluster s.me node.met (message from to body) ≡ reply → NoVotes reply
      → (asked : List ℕ) (was stage : Stage) → node.open_operations ≡ reads asked was ∷ []
      → hears_message s (clock_of node.met) (message from to body) (reads asked was) ≡ record { operation = reads asked stage; sends = [] } → IsUnfilled stage
      → Helped s op request began visited entering g noted shows (Takes (message from to body) ∷ node.met) stage
      → Becomes (Takes (message from to body) ∷ node.met) stage (take_step s node (message from to body)) reply
  reads_asking node from to body asking reply is quiet asked was stage opens hears unfilled helped =
      subst (λ made. Becomes (Takes m ∷ node.met) stage made reply)
      (sym (takes_asking s node from to body asking ts (ap (map (hears_message s (clock_of node.met) m)) opens ∙ ap (λ t. t ∷ []) hears) (unsettled asked stage unfilled)
      ∙ ap (λ r. taken s node m [] ts None r []) is))
      (made_becomes node m None reply quiet asked stage helped)
    where
      m : Message
      m = message from to body

      ts : List Heard
      ts = record { operation = reads asked stage; sends = [] } ∷ []

  pub reads_have : (node : Node) (from to : ℕ) (other : OpId) (n : ℕ) (entry : Content) (asked : List ℕ) (stage : Stage) → node.open_operations ≡ reads asked stage ∷ []
      → hears_message s (clock_of node.met) (message from to (Have other g (record { 0 = n }) entry)) (reads asked stage) ≡ record { operation = reads asked stage; sends = [] }
      → Helped s op request began visited entering g noted shows (onto (decision_note (if_new node.met (Some (record { group = g; position = n; entry = entry })))) (Takes (message from to (Have other g (record { 0 = n }) entry)) ∷ node.met)) stage
      → Becomes (onto (decision_note (if_new node.met (Some (record { group = g; position = n; entry = entry })))) (Takes (message from to (Have other g (record { 0 = n }) entry)) ∷ node.met)) stage
      (take_step s node (message from to (Have other g (record { 0 = n }) entry))) []
  reads_have node from to other n entry asked stage opens hears helped =
      subst (λ made. Becomes (onto (decision_note d) (Takes m ∷ node.met)) stage made [])
      (sym (takes_have s node from to other g n entry (record { operation = reads asked stage; sends = [] } ∷ []) (ap (map (hears_message s (clock_of node.met) m)) opens ∙ ap (λ t. t ∷ []) hears)))
      (made_becomes node m d [] tt asked stage helped)
    where
      m : Message
      m = message from to (Have other g (record { 0 = n }) entry)

      d : Option Decision
      d = if_new node.met (Some (record { group = g; position = n; entry = entry }))

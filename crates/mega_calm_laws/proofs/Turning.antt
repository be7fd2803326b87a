-- What a step of a node leaves while an operation that is to propose reads: one with no open operation replies, and the one that reads waits, fetches or proposes.
use Rattle.std.proofs.Common.{◌≡◌, ℕ, ◌+◌, nat_le, false, List, [], ◌∷◌, ◌++◌, length, map, Option, Some, None, refl, sym, ap, ◌∙◌, subst}
use Rattle.mega_base.specs.declared.names.Epoch.{Epoch}
use Rattle.mega_base.specs.declared.names.GroupId.{GroupId}
use Rattle.mega_base.specs.declared.names.OpId.{OpId}
use Rattle.mega_entry.specs.declared.content.Content.{Content}
use Rattle.mega_entry.specs.declared.content.Enter.{Enter}
use Rattle.mega_wire.specs.declared.message.Message.{Message}
use Rattle.mega_wire.specs.declared.message.Body.{Body}
use Rattle.mega_wire.specs.declared.message.Body.TheVariants.{Accepted, Have, Promise}
use Rattle.mega_outcome.specs.declared.request.Request.{Request}
use Rattle.mega_leased_laws.specs.of_run_laws.of_tape_laws.of_promises.of_rules.of_read.declared.reading.Search.{Search}
use Rattle.mega_leased_laws.specs.of_run_laws.of_tape_laws.of_promises.of_rules.of_read.declared.reading.Search.TheVariants.{Fetching, Filling}
use Rattle.mega_leased_laws.specs.of_run_laws.of_tape_laws.of_promises.of_rules.of_read.declared.reading.Stage.{Stage}
use Rattle.mega_leased_laws.specs.of_run_laws.of_tape_laws.of_promises.of_rules.of_read.declared.reading.Stage.TheVariants.{Polling, Catching}
use Rattle.mega_leased_laws.specs.of_run_laws.of_tape_laws.of_promises.of_rules.of_read.Catching.{fetch_to, helpers}
use Rattle.mega_leased_laws.specs.of_run_laws.of_tape_laws.of_promises.of_rules.Acting.{sends_more}
use Rattle.mega_leased_laws.specs.of_run_laws.of_tape_laws.of_promises.of_rules.Clock.{clock_of}
use Rattle.mega_leased_laws.specs.of_run_laws.of_tape_laws.of_promises.of_rules.Logs.{prefix_of}
use Rattle.mega_leased_laws.specs.of_run_laws.of_tape_laws.of_promises.of_rules.Met.{Met, Sends, Takes}
use Rattle.mega_leased_laws.specs.of_run_laws.of_tape_laws.of_promises.of_rules.Operations.{Node, Now, Operation, Promised, Setting}
use Rattle.mega_leased_laws.specs.of_run_laws.of_tape_laws.of_promises.of_rules.Replies.{reply_to}
use Rattle.mega_leased_laws.specs.of_run_laws.of_tape_laws.of_promises.of_rules.Steps.{Decision, Heard, Step, decision_note, first_settled, hears_message, if_new, onto, take_step, taken}
use Rattle.mega_leased_laws.specs.of_run_laws.of_tape_laws.of_promises.of_rules.Voting.{acts as acts_met}
use Rattle.mega_leased_laws.specs.of_run_laws.Justified.{Each}
use Rattle.mega_leased_laws.proofs.of_run_laws.Events.{each_append as each_both}
use Rattle.mega_calm_laws.proofs.Noting.{IsNoVote, IsStill, SameLogs}
use Rattle.mega_calm_laws.proofs.Over.{met_is, noted, noted_on}
use Rattle.mega_calm_laws.proofs.Reading.{append_none}
use Rattle.mega_calm_laws.proofs.Seeking.{Helped, IsValidate, Outcome, Stayed, ask, asks, fetching, goes_on_so, proposed, proposes, seeks, validates_bland, validates_still, waits, who}
use Rattle.mega_calm_laws.proofs.Stepping.{IsAsking, acted, first, heard_by, logs_are, made, message, sends_are, takes_asking, takes_have}
use Rattle.mega_calm_laws.proofs.Voting.{IsBland, IsNoAct, bland_onto, bland_sends}

-- messages that tell of no vote and no promise
abbrev pub AreQuiet : List Message → Type 0
AreQuiet ms = Each (λ (one : Message). IsNoAct one.body) ms

no_vote : (body : Body) → IsNoAct body → IsNoVote body
no_vote (Accepted op g n b e) h = absurd h
no_vote (Promise op g n b report) h = absurd h
no_vote _ h = tt

pub no_votes : (ms : List Message) → AreQuiet ms → Each (λ (one : Message). IsNoVote one.body) ms
no_votes [] h = tt
no_votes (m ∷ ms) h = (no_vote m.body h.0, no_votes ms h.1)

-- a node's logs are as they were, and its votes at a position
pub record Leaves (g : GroupId) (n : ℕ) (base new : List Met) : Type 0 where
  pub logs : SameLogs base new
  pub acts : acts_met new g n ≡ acts_met base g n

module _ (s : Setting) (node : Node) (m : Message) (ts : List Heard) (d : Option Decision) (reply : List Message) (g : GroupId) (n : ℕ) where
  pub leaves_made : Each IsValidate (acted s node m ts d reply).valid → (acted s node m ts d reply).answers ≡ [] → AreQuiet (made s node m ts d reply).sends
      → Leaves g n (onto (decision_note d) (Takes m ∷ node.met)) ((made s node m ts d reply).node).met
  leaves_made valid none quiet = record {
    logs = logs_are s node m ts d reply (validates_still (acted s node m ts d reply).valid valid) (subst (Each IsStill) (sym none) tt) (no_votes (made s node m ts d reply).sends quiet);
    acts = ap (λ (x : List Met). acts_met x g n) (met_is s node m ts d reply [])
        ∙ ((bland_onto g n (map Sends (made s node m ts d reply).sends) (noted s node m ts d reply []) (bland_sends (made s node m ts d reply).sends quiet)).same_acts
        ∙ (noted_on s node m ts d reply [] g n (validates_bland (acted s node m ts d reply).valid valid) (subst (Each IsBland) (sym none) tt)).same_acts);
  }

-- ---- a node with no open operation

pub record IsIdle (g : GroupId) (n : ℕ) (base : List Met) (step : Step) (sends : List Message) : Type 0 where
  pub sends_so : step.sends ≡ sends
  pub none_open : (step.node).open_operations ≡ []
  pub leaves : Leaves g n base (step.node).met

module _ (s : Setting) (node : Node) (none : node.open_operations ≡ []) (g : GroupId) (n : ℕ) where
  none_heard : (m : Message) → heard_by s node m ≡ []
  none_heard m = ap (map (hears_message s (clock_of node.met) m)) none

  idle_made : (m : Message) (d : Option Decision) (reply : List Message) → AreQuiet reply → IsIdle g n (onto (decision_note d) (Takes m ∷ node.met)) (made s node m [] d reply) reply
  idle_made m d reply quiet = record {
    sends_so = same;
    none_open = refl;
    leaves = leaves_made s node m [] d reply g n tt refl (subst AreQuiet (sym same) quiet);
  }
    where
      same : (made s node m [] d reply).sends ≡ reply
      same = sends_are s node m [] d reply ∙ append_none reply

  pub idle_asking : (from to : ℕ) (body : Body) → IsAsking body → (reply : List Message) → reply_to s.cluster s.me node.met (message from to body) ≡ reply → AreQuiet reply
      → IsIdle g n (Takes (message from to body) ∷ node.met) (take_step s node (message from to body)) reply
  idle_asking from to body asking reply is quiet =
      subst (λ made_so. IsIdle g n (Takes m ∷ node.met) made_so reply) (sym (takes_asking s node from to body asking [] (none_heard m) refl ∙ ap (λ r. taken s node m [] [] None r []) is)) (idle_made m None reply quiet)
    where
      m : Message
      m = message from to body

-- ---- the node that reads

module _ (s : Setting) (op : OpId) (g : GroupId) (request : Request) (entering : Option Enter) (began : ℕ) (noted_epoch : Option Epoch) (log : List Content) (own : Content) (promised : Promised) (leader : ℕ) where
  abbrev pub fetch_all : ℕ → List Message
  fetch_all n = map (fetch_to (who s op g request entering began noted_epoch log own promised leader) n) (helpers (who s op g request entering began noted_epoch log own promised leader))

  abbrev pub its : Stage → Operation
  its stage = seeks s op g request entering began noted_epoch log own promised leader stage

  abbrev pub question : Message
  question = ask s op g request entering began noted_epoch log own promised leader

  abbrev pub end : ℕ
  end = length log + 1

  -- what becomes of it: `base` is what the node met with what the step brings
  pub data Becomes (base : List Met) (stage : Stage) (step : Step) (reply : List Message) : Type 0 where
    turns : (at : ℕ) → step.sends ≡ reply ++ question ∷ [] → (step.node).open_operations ≡ proposed s op g request entering began noted_epoch log own promised leader at ∷ [] → Leaves g end base (step.node).met → Becomes base stage step reply
    stays : step.sends ≡ reply → (step.node).open_operations ≡ its stage ∷ [] → Leaves g end base (step.node).met → Stayed s op g request entering began noted_epoch log own promised leader base stage → Becomes base stage step reply
    fetches : (through at : ℕ) (search : Option Search) → stage ≡ Catching through search → nat_le through (prefix_of base g) ≡ false
        → step.sends ≡ reply ++ fetch_all (prefix_of base g + 1) → (step.node).open_operations ≡ its (fetching s op g request entering began noted_epoch log own promised leader base through at) ∷ []
        → Leaves g end base (step.node).met → Becomes base stage step reply

  pub fetch_quiet : (n : ℕ) (vs : List ℕ) → AreQuiet (map (fetch_to (who s op g request entering began noted_epoch log own promised leader) n) vs)
  fetch_quiet n [] = tt
  fetch_quiet n (v ∷ vs) = (tt, fetch_quiet n vs)

  quiet_both : (xs ys : List Message) → AreQuiet xs → AreQuiet ys → AreQuiet (xs ++ ys)
  quiet_both xs ys h k = each_both (λ (one : Message). IsNoAct one.body) xs ys h k

  abbrev pub IsHelped : List Met → Stage → Type 0
  IsHelped met stage = Helped s op g request entering began noted_epoch log own promised leader met stage

  module _ (node : Node) (m : Message) (d : Option Decision) (reply : List Message) (quiet : AreQuiet reply) (stage : Stage) where
    abbrev ts : List Heard
    ts = record { operation = its stage; sends = [] } ∷ []

    abbrev base : List Met
    base = onto (decision_note d) (Takes m ∷ node.met)

    abbrev now : Now
    now = first s node m ts d reply

    abbrev next : Now
    next = acted s node m ts d reply

    abbrev step : Step
    step = made s node m ts d reply

    pub made_becomes : IsHelped base stage → Becomes base stage step reply
    made_becomes helped = by (goes_on_so s op g request entering began noted_epoch log own promised leader (sends_more now []) stage tt helped)
      where
        by : Outcome s op g request entering began noted_epoch log own promised leader (sends_more now []) stage next → Becomes base stage step reply
        by (proposes at kept sends valid answers) = turns at sent kept (leaves_made s node m ts d reply g end valid answers (subst AreQuiet (sym sent) (quiet_both reply (question ∷ []) quiet (tt, tt))))
          where
            sent : step.sends ≡ reply ++ question ∷ []
            sent = sends_are s node m ts d reply ∙ ap (λ l. reply ++ l) sends
        by (waits kept sends valid answers stayed) = stays sent kept (leaves_made s node m ts d reply g end valid answers (subst AreQuiet (sym sent) quiet)) stayed
          where
            sent : step.sends ≡ reply
            sent = sends_are s node m ts d reply ∙ (ap (λ l. reply ++ l) sends ∙ append_none reply)
        by (asks through at search is above kept sends valid answers) = fetches through at search is above sent kept
            (leaves_made s node m ts d reply g end valid answers (subst AreQuiet (sym sent) (quiet_both reply (fetch_all (prefix_of base g + 1)) quiet (fetch_quiet (prefix_of base g + 1) (helpers (who s op g request entering began noted_epoch log own promised leader))))))
          where
            sent : step.sends ≡ reply ++ fetch_all (prefix_of base g + 1)
            sent = sends_are s node m ts d reply ∙ ap (λ l. reply ++ l) sends

  -- a read that completes no position by a round of its own
  abbrev pub IsUnfilled : Stage → Type 0
  IsUnfilled (Polling heard best sent) = Unit {0}
  IsUnfilled (Catching through None) = Unit {0}
  IsUnfilled (Catching through (Some (Fetching position denials sent))) = Unit {0}
  IsUnfilled (Catching through (Some (Filling position proposal))) = ⊥

  unsettled : (stage : Stage) → IsUnfilled stage → first_settled (record { operation = its stage; sends = [] } ∷ []) ≡ None
  unsettled (Polling those best at) h = refl
  unsettled (Catching through None) h = refl
  unsettled (Catching through (Some (Fetching position denials at))) h = refl
  unsettled (Catching through (Some (Filling position proposal))) h = absurd h

  pub seeks_asking : (node : Node) (from to : ℕ) (body : Body) → IsAsking body → (reply : List Message) → reply_to s.cluster s.me node.met (message from to body) ≡ reply → AreQuiet reply
      → (was stage : Stage) → node.open_operations ≡ its was ∷ []
      → hears_message s (clock_of node.met) (message from to body) (its was) ≡ record { operation = its stage; sends = [] } → IsUnfilled stage
      → IsHelped (Takes (message from to body) ∷ node.met) stage
      → Becomes (Takes (message from to body) ∷ node.met) stage (take_step s node (message from to body)) reply
  seeks_asking node from to body asking reply is quiet was stage opens hears unfilled helped =
      subst (λ made_so. Becomes (Takes m ∷ node.met) stage made_so reply)
      (sym (takes_asking s node from to body asking heard (ap (map (hears_message s (clock_of node.met) m)) opens ∙ ap (λ t. t ∷ []) hears) (unsettled stage unfilled)
      ∙ ap (λ r. taken s node m [] heard None r []) is))
      (made_becomes node m None reply quiet stage helped)
    where
      m : Message
      m = message from to body

      heard : List Heard
      heard = record { operation = its stage; sends = [] } ∷ []

  pub seeks_have : (node : Node) (from to : ℕ) (other : OpId) (k : ℕ) (entry : Content) (stage : Stage) → node.open_operations ≡ its stage ∷ []
      → hears_message s (clock_of node.met) (message from to (Have other g (record { 0 = k }) entry)) (its stage) ≡ record { operation = its stage; sends = [] }
      → IsHelped (onto (decision_note (if_new node.met (Some (record { group = g; position = k; entry = entry })))) (Takes (message from to (Have other g (record { 0 = k }) entry)) ∷ node.met)) stage
      → Becomes (onto (decision_note (if_new node.met (Some (record { group = g; position = k; entry = entry })))) (Takes (message from to (Have other g (record { 0 = k }) entry)) ∷ node.met)) stage
      (take_step s node (message from to (Have other g (record { 0 = k }) entry))) []
  seeks_have node from to other k entry stage opens hears helped =
      subst (λ made_so. Becomes (onto (decision_note d) (Takes m ∷ node.met)) stage made_so [])
      (sym (takes_have s node from to other g k entry (record { operation = its stage; sends = [] } ∷ []) (ap (map (hears_message s (clock_of node.met) m)) opens ∙ ap (λ t. t ∷ []) hears)))
      (made_becomes node m d [] tt stage helped)
    where
      m : Message
      m = message from to (Have other g (record { 0 = k }) entry)

      d : Option Decision
      d = if_new node.met (Some (record { group = g; position = k; entry = entry }))

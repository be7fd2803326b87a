-- The causes of answers: what they rest on stays, and what an operation promised is what it is answered with.
use Rattle.std.proofs.Common.{◌≡◌, ◌⊎◌, ℕ, suc, ◌+◌, true, List, [], ◌∷◌, Option, Some, Result, Ok, refl, ◌∙◌}
use Rattle.mega_base.specs.declared.names.GroupId.{GroupId}
use Rattle.mega_base.specs.declared.names.NodeId.{NodeId}
use Rattle.mega_base.specs.declared.names.OpId.{OpId}
use Rattle.mega_base.specs.declared.names.Position.{Position}
use Rattle.mega_schema.specs.declared.schema.Schema.{Schema}
use Rattle.mega_entry.specs.declared.content.Content.{Content}
use Rattle.mega_wire.specs.declared.message.Message.{Message}
use Rattle.mega_index.specs.Rows.{after, no_rows}
use Rattle.mega_outcome.specs.declared.answer.Answer.{Answer}
use Rattle.mega_outcome.specs.declared.answer.Answer.TheVariants.{AllTurned, Batched, Committed, Conflict, Turned, Worn, Read as ReadAnswer}
use Rattle.mega_outcome.specs.declared.answer.Done.{Done}
use Rattle.mega_outcome.specs.declared.answer.Shown.{Shown}
use Rattle.mega_outcome.specs.declared.answer.Turn.{Turn}
use Rattle.mega_outcome.specs.declared.request.Request.{Request}
use Rattle.mega_outcome.specs.declared.request.Request.TheVariants.{Txn, Batch as BatchRequest, Read as ReadRequested}
use Rattle.mega_outcome.specs.declared.transaction.Transaction.{Transaction}
use Rattle.mega_outcome.specs.Outcome.{batch_outcome, outcome}
use Rattle.mega_tape_laws.specs.of_transcript.declared.item.Item.{Item}
use Rattle.mega_tape_laws.specs.of_transcript.declared.item.Item.TheVariants.{Decide, Sent}
use Rattle.mega_tape_laws.specs.of_promises.Items.{number}
use Rattle.mega_tape_laws.specs.of_promises.Promises.{Stands, asked_for, is_negative}
use Rattle.mega_tape_laws.specs.of_rules.Met.{Met, Answers}
use Rattle.mega_tape_laws.specs.of_rules.Operations.{Promised, Replies, Results}
use Rattle.mega_tape_laws.specs.Places.{Place}
use Rattle.mega_tape_laws.specs.Answers.{HasCause, IsDoomed, KnowsBelow, Lost, MayCommitAll, MayTurn, Replied, of_pump, of_read, of_transaction, of_write}
use Rattle.mega_tape_laws.specs.Writes.{IsNamed, Knows, Usage}
use Rattle.mega_run_laws.specs.Justified.{sent}

-- what was decided is
abbrev pub DecidedOn : List Item → List Item → Type 0
DecidedOn old new = (node : NodeId) (g : GroupId) (n : Position) (e : Content) → Stands (Decide node g n e) old → Stands (Decide node g n e) new

knows_to : (old new : List Item) (node : ℕ) (group : GroupId) (below : List Content) → DecidedOn old new → Knows old node group below → Knows new node group below
knows_to old new node group below on h = λ k d is. on (number node) group (record { 0 = suc k }) d (h k d is)

pub below_to : (old new : List Item) (op : OpId) (group : GroupId) (below : List Content) (n : Position) → DecidedOn old new → KnowsBelow old op group below n → KnowsBelow new op group below n
below_to old new op group below n on h = record { known = knows_to old new op.node.0 group below on h.known; reaches = h.reaches }

abbrev pub AskedSame : Usage → List Item → List Item → OpId → Type 0
AskedSame usage old new op = asked_for usage.meaning new op ≡ asked_for usage.meaning old op

replied_to : (schema : Schema) (usage : Usage) (old new : List Item) (op : OpId) (group : GroupId) (n : Position) (replies : List (Option Shown)) → DecidedOn old new → AskedSame usage old new op
    → Replied schema usage old op group n replies → Replied schema usage new op group n replies
replied_to schema usage old new op group n replies on same (of_transaction transaction below done asked knows comes shows) = of_transaction transaction below done (same ∙ asked) (below_to old new op group below n on knows) comes shows
replied_to schema usage old new op group n replies on same (of_pump request asked reads) = of_pump request (same ∙ asked) reads

turn_to : (schema : Schema) (usage : Usage) (old new : List Item) (op : OpId) (turn : Turn) → DecidedOn old new → AskedSame usage old new op → MayTurn schema usage old op turn → MayTurn schema usage new op turn
turn_to schema usage old new op turn on same (of_write transaction below asked known turns) = of_write transaction below (same ∙ asked) (knows_to old new op.node.0 transaction.group below on known) turns
turn_to schema usage old new op turn on same (of_read request asked reads) = of_read request (same ∙ asked) reads

pub cause_to : (schema : Schema) (usage : Usage) (old new : List Item) (op : OpId) → DecidedOn old new → AskedSame usage old new op → (answer : Answer) → HasCause schema usage old op answer → HasCause schema usage new op answer
cause_to schema usage old new op on same (Committed n replies) h = record { group = h.group; entry = h.entry; stands = on op.node h.group n h.entry h.stands; is_own = h.is_own; replied = replied_to schema usage old new op h.group n replies on same h.replied }
cause_to schema usage old new op on same (Batched n results) h = record {
  group = h.group;
  entry = h.entry;
  stands = on op.node h.group n h.entry h.stands;
  is_own = h.is_own;
  own = h.own;
  transactions = h.transactions;
  asked = same ∙ h.asked;
  below = h.below;
  knows = below_to old new op h.group h.below n on h.knows;
  shows = h.shows;
}
cause_to schema usage old new op on same (Conflict n other) h = record { request = h.request; asked = same ∙ h.asked; group = h.group; home = h.home; entry = h.entry; stands = on op.node h.group n h.entry h.stands; names = h.names; others = h.others }
cause_to schema usage old new op on same (Turned turn) h = turn_to schema usage old new op turn on same h
cause_to schema usage old new op on same (AllTurned results) h = record { own = h.own; transactions = h.transactions; asked = same ∙ h.asked; below = h.below; known = knows_to old new op.node.0 h.own h.below on h.known; turns = h.turns }
cause_to schema usage old new op on same (ReadAnswer p rows) h = record {
  request = h.request;
  asked = same ∙ h.asked;
  current = λ is. let f = (h.current) is in record { below = f.below; known = knows_to old new op.node.0 (h.request).group f.below on f.known; reaches = f.reaches; shows = f.shows };
}
cause_to schema usage old new op on same _ h = tt

pub lost_to : (old new : List Item) (op : OpId) (p : Place) → DecidedOn old new → Lost old op p → Lost new op p
lost_to old new op p on h = record { node = h.node; entry = h.entry; stands = on h.node p.group p.position h.entry h.stands; other = h.other }

-- ---- what it promised

-- what its transaction or batch comes to over the entries below
pub record KeptReplies (schema : Schema) (tape : List Item) (op : OpId) (group : GroupId) (n : Position) (transaction : Transaction) (replies : List (Option Shown)) : Type 0 where
  pub below : List Content
  pub done : Done
  pub knows : KnowsBelow tape op group below n
  pub comes : outcome schema transaction (after below no_rows) ≡ Ok done
  pub shows : done.replies ≡ replies

pub record KeptResults (schema : Schema) (tape : List Item) (op : OpId) (group : GroupId) (n : Position) (own : GroupId) (transactions : List Transaction) (results : List (Result (List (Option Shown)) Turn)) : Type 0 where
  pub below : List Content
  pub knows : KnowsBelow tape op group below n
  pub shows : (batch_outcome schema own transactions (after below no_rows)).results ≡ results

abbrev pub Keeps : Schema → List Item → OpId → GroupId → Position → Request → Promised → Type 0
Keeps schema tape op group n (Txn transaction) (Replies replies) = KeptReplies schema tape op group n transaction replies
Keeps schema tape op group n (Txn transaction) (Results results) = ⊥
Keeps schema tape op group n (BatchRequest own transactions) (Replies replies) = ⊥
Keeps schema tape op group n (BatchRequest own transactions) (Results results) = KeptResults schema tape op group n own transactions results
Keeps schema tape op group n _ (Replies replies) = Unit {0}
Keeps schema tape op group n _ (Results results) = ⊥

keeps_replies : (schema : Schema) (old new : List Item) (op : OpId) (group : GroupId) (n : Position) (request : Request) (replies : List (Option Shown)) → DecidedOn old new
    → Keeps schema old op group n request (Replies replies) → Keeps schema new op group n request (Replies replies)
keeps_replies schema old new op group n (Txn transaction) replies on h = record { below = h.below; done = h.done; knows = below_to old new op group h.below n on h.knows; comes = h.comes; shows = h.shows }
keeps_replies schema old new op group n (BatchRequest own transactions) replies on h = absurd h
keeps_replies schema old new op group n _ replies on h = tt

keeps_results : (schema : Schema) (old new : List Item) (op : OpId) (group : GroupId) (n : Position) (request : Request) (results : List (Result (List (Option Shown)) Turn)) → DecidedOn old new
    → Keeps schema old op group n request (Results results) → Keeps schema new op group n request (Results results)
keeps_results schema old new op group n (Txn transaction) results on h = absurd h
keeps_results schema old new op group n (BatchRequest own transactions) results on h = record { below = h.below; knows = below_to old new op group h.below n on h.knows; shows = h.shows }
keeps_results schema old new op group n _ results on h = absurd h

pub keeps_to : (schema : Schema) (old new : List Item) (op : OpId) (group : GroupId) (n : Position) (request : Request) (promised : Promised) → DecidedOn old new → Keeps schema old op group n request promised → Keeps schema new op group n request promised
keeps_to schema old new op group n request (Replies replies) on h = keeps_replies schema old new op group n request replies on h
keeps_to schema old new op group n request (Results results) on h = keeps_results schema old new op group n request results on h

-- what it is answered with, once its entry is decided
pub replied_by : (schema : Schema) (usage : Usage) (tape : List Item) (op : OpId) (group : GroupId) (n : Position) (request : Request) (replies : List (Option Shown)) → asked_for usage.meaning tape op ≡ Some request
    → Keeps schema tape op group n request (Replies replies) → Replied schema usage tape op group n replies
replied_by schema usage tape op group n (Txn transaction) replies asked h = of_transaction transaction h.below h.done asked h.knows h.comes h.shows
replied_by schema usage tape op group n (BatchRequest own transactions) replies asked h = absurd h
replied_by schema usage tape op group n (ReadRequested request) replies asked h = of_pump (ReadRequested request) asked refl
replied_by schema usage tape op group n other replies asked h = of_pump other asked refl

pub results_by : (schema : Schema) (usage : Usage) (tape : List Item) (op : OpId) (group : GroupId) (n : Position) (entry : Content) (request : Request) (results : List (Result (List (Option Shown)) Turn)) → asked_for usage.meaning tape op ≡ Some request
    → Stands (Decide op.node group n entry) tape → entry.id ≡ Some op → Keeps schema tape op group n request (Results results) → MayCommitAll schema usage tape op n results
results_by schema usage tape op group n entry (Txn transaction) results asked stands is h = absurd h
results_by schema usage tape op group n entry (BatchRequest own transactions) results asked stands is h = record {
  group = group;
  entry = entry;
  stands = stands;
  is_own = is;
  own = own;
  transactions = transactions;
  asked = asked;
  below = h.below;
  knows = h.knows;
  shows = h.shows;
}
results_by schema usage tape op group n entry _ results asked stands is h = absurd h

-- ---- what was answered

-- an operation was answered, and the answer has its cause
pub record Given (schema : Schema) (usage : Usage) (tape : List Item) (op : OpId) (answer : Answer) : Type 0 where
  pub cause : HasCause schema usage tape op answer
  pub doomed : is_negative answer ≡ true → IsDoomed tape op
  pub named : (answer ≡ Worn) ⊎ IsNamed op

abbrev pub IsGiven : Schema → Usage → List Item → Met → Type 0
IsGiven schema usage tape (Answers op answer) = Given schema usage tape op answer
IsGiven schema usage tape _ = ⊥

-- what was sent changes no question and no decision
pub sent_question : (usage : Usage) (n : ℕ) (ms : List Message) (tape : List Item) (op : OpId) → AskedSame usage tape (sent n ms tape) op
sent_question usage n [] tape op = refl
sent_question usage n (m ∷ ms) tape op = sent_question usage (n + 1) ms (Sent n m ∷ tape) op

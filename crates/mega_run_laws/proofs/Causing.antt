-- Each answer of an operation that acts has its cause.
use Rattle.std.proofs.Common.{◌≡◌, inr, ℕ, Bool, true, false, cond, List, [], ◌∷◌, length, Option, Some, None, Result, Ok, Err, refl, ap, ◌∙◌, subst}
use Rattle.mega_base.specs.declared.names.GroupId.{GroupId}
use Rattle.mega_base.specs.declared.names.OpId.{OpId}
use Rattle.mega_ballot.specs.Order.{zero_ballot}
use Rattle.mega_schema.specs.declared.schema.Schema.{Schema}
use Rattle.mega_entry.specs.declared.content.Content.{Content}
use Rattle.mega_index.specs.Rows.{Listed, Rows, after, list_after, no_rows}
use Rattle.mega_outcome.specs.declared.answer.Answer.{Answer}
use Rattle.mega_outcome.specs.declared.answer.Answer.TheVariants.{Conflict, Read as ReadAnswer}
use Rattle.mega_index.specs.declared.found.Found.{Found}
use Rattle.mega_outcome.specs.declared.answer.Mark.{Mark}
use Rattle.mega_outcome.specs.declared.answer.Shown.{Shown}
use Rattle.mega_outcome.specs.declared.answer.Turn.{Turn}
use Rattle.mega_outcome.specs.Reads.{all_rows, read_rows}
use Rattle.mega_schema.specs.declared.schema.Index.{Index}
use Rattle.mega_outcome.specs.declared.request.Request.{Request}
use Rattle.mega_outcome.specs.declared.request.Request.TheVariants.{Find, Read as ReadRequested}
use Rattle.mega_outcome.specs.declared.request.ReadRequest.{ReadRequest}
use Rattle.mega_outcome.specs.declared.request.FindRequest.{FindRequest}
use Rattle.mega_outcome.specs.declared.transaction.RowRef.{RowRef}
use Rattle.mega_wal.specs.Same.{same_op, same_option}
use Rattle.mega_wal.proofs.Sames.{same_op_equal, same_op_self}
use Rattle.mega_tape_laws.specs.of_transcript.declared.item.Item.{Item}
use Rattle.mega_tape_laws.specs.of_transcript.declared.item.Item.TheVariants.{Decide}
use Rattle.mega_tape_laws.specs.of_promises.Promises.{Stands, asked_for, rows_shown}
use Rattle.mega_tape_laws.specs.of_rules.Acting.{committed, read_answer, rows_answer, verdict}
use Rattle.mega_tape_laws.specs.of_rules.Finding.{find_answer, find_by}
use Rattle.mega_tape_laws.specs.of_rules.Operations.{Promised, Replies, Results, Setting}
use Rattle.mega_tape_laws.specs.of_rules.Steps.{is_current}
use Rattle.mega_tape_laws.specs.Places.{In, Proposes, moves}
use Rattle.mega_tape_laws.specs.Answers.{HasCause, Lost, ShowsFront, of_read}
use Rattle.mega_tape_laws.specs.Writes.{AreWritten, IsNamed, Knows, Usage}
use Rattle.mega_tape_laws.proofs.Ballots.{clash}
use Rattle.mega_tape_laws.proofs.Origins.{one_home}
use Rattle.mega_tape_laws.proofs.Serial.{home_group}
use Rattle.mega_run_laws.proofs.Causes.{Given, Keeps, replied_by, results_by}
use Rattle.mega_run_laws.proofs.Opened.{at_place}
use Rattle.mega_run_laws.proofs.Written.{Unproposed}

-- an operation that proposed nothing with its id
pub given_none : (schema : Schema) (usage : Usage) (tape : List Item) (op : OpId) (answer : Answer) → IsNamed op → Unproposed tape op → HasCause schema usage tape op answer → Given schema usage tape op answer
given_none schema usage tape op answer named none cause = record { cause = cause; doomed = λ negative p b e i id. absurd (none p b e i id); named = inr named }

-- ---- its own position is decided

-- its own entry was proposed at a place, with what it promised
pub record ProposesOwn (schema : Schema) (tape : List Item) (op : OpId) (request : Request) (group : GroupId) (n : ℕ) (mine : Content) (promised : Promised) : Type 0 where
  pub at : In (Proposes zero_ballot mine) (moves tape op (at_place group n))
  pub id : mine.id ≡ Some op
  pub keeps : Keeps schema tape op group (record { 0 = n }) request promised

option_is : (x : Option OpId) (op : OpId) → same_option same_op x (Some op) ≡ true → x ≡ Some op
option_is None op h = cc
option_is (Some y) op h = ap Some (same_op_equal y op h)

option_not : (x : Option OpId) (op : OpId) → same_option same_op x (Some op) ≡ false → x ≡ Some op → ⊥
option_not x op h is = clash (same_op op op) (same_op_self op) (subst (λ y. same_option same_op y (Some op) ≡ false) is h)

commits : (schema : Schema) (usage : Usage) (tape : List Item) (op : OpId) (request : Request) (group : GroupId) (n : ℕ) (promised : Promised) (entry : Content) → IsNamed op → asked_for usage.meaning tape op ≡ Some request
    → Stands (Decide op.node group (record { 0 = n }) entry) tape → entry.id ≡ Some op → Keeps schema tape op group (record { 0 = n }) request promised → Given schema usage tape op (committed n promised)
commits schema usage tape op request group n (Replies replies) entry named asked stands is keeps = record {
  cause = record { group = group; entry = entry; stands = stands; is_own = is; replied = replied_by schema usage tape op group (record { 0 = n }) request replies asked keeps };
  doomed = λ negative. cc;
  named = inr named;
}
commits schema usage tape op request group n (Results results) entry named asked stands is keeps = record {
  cause = results_by schema usage tape op group (record { 0 = n }) entry request results asked stands is keeps;
  doomed = λ negative. cc;
  named = inr named;
}

pub verdict_given : (schema : Schema) (usage : Usage) (tape : List Item) (op : OpId) (request : Request) (group : GroupId) (n : ℕ) (mine : Content) (promised : Promised) (entry : Content) → AreWritten schema usage tape → IsNamed op
    → asked_for usage.meaning tape op ≡ Some request → Stands (Decide op.node group (record { 0 = n }) entry) tape → ProposesOwn schema tape op request group n mine promised → Given schema usage tape op (verdict op n promised entry)
verdict_given schema usage tape op request group n mine promised entry w named asked stands p = go (same_option same_op entry.id (Some op)) refl
  where
    go : (t : Bool) → same_option same_op entry.id (Some op) ≡ t → Given schema usage tape op (cond t (committed n promised) (Conflict (record { 0 = n }) entry.id))
    go true e = commits schema usage tape op request group n promised entry named asked stands (option_is entry.id op e) p.keeps
    go false e = record {
      cause = record {
        request = request;
        asked = asked;
        group = group;
        home = home_group schema usage tape w op (at_place group n) zero_ballot mine p.at p.id request asked;
        entry = entry;
        stands = stands;
        names = refl;
        others = λ is. option_not entry.id op e is;
      };
      doomed = λ negative q b x i id. subst (Lost tape op) (one_home schema usage tape w op (at_place group n) q zero_ballot b mine x p.at p.id i id)
          (record { node = op.node; entry = entry; stands = stands; other = λ is. option_not entry.id op e is });
      named = inr named;
    }

-- ---- what a read shows

-- the rows are those of the log's first entries, which its node decided
pub record ReadsFront (tape : List Item) (op : OpId) (request : ReadRequest) (p : ℕ) (rows : Rows) (listed : Listed) : Type 0 where
  pub below : List Content
  pub known : Knows tape op.node.0 request.group below
  pub reaches : p ≡ length below
  pub rows_are : after below no_rows ≡ rows
  pub listed_are : list_after below [] ≡ listed

result_cause : (schema : Schema) (usage : Usage) (tape : List Item) (op : OpId) (request : ReadRequest) (p : ℕ) (result : Result (List (Option Shown)) Turn) → asked_for usage.meaning tape op ≡ Some (ReadRequested request)
    → ((shown : List (Option Shown)) → result ≡ Ok shown → is_current request.mode ≡ true → ShowsFront schema tape op request (record { 0 = p }) shown) → HasCause schema usage tape op (rows_answer p result)
result_cause schema usage tape op request p (Ok shown) asked front = record { request = request; asked = asked; current = front shown refl }
result_cause schema usage tape op request p (Err turn) asked front = of_read (ReadRequested request) asked refl

pub read_cause : (s : Setting) (usage : Usage) (tape : List Item) (op : OpId) (request : ReadRequest) (p : ℕ) (rows : Rows) (listed : Listed) → asked_for usage.meaning tape op ≡ Some (ReadRequested request)
    → (is_current request.mode ≡ true → ReadsFront tape op request p rows listed) → HasCause s.cluster.schema usage tape op (read_answer s request p rows listed)
read_cause s usage tape op request p rows listed asked front = go request.rows refl
  where
    answered : List RowRef → Answer
    answered [] = ReadAnswer (record { 0 = p }) (all_rows s.cluster.schema request.group listed)
    answered (row ∷ more) = rows_answer p (read_rows s.cluster.schema request.group (row ∷ more) rows)

    go : (refs : List RowRef) → request.rows ≡ refs → HasCause s.cluster.schema usage tape op (answered refs)
    go [] e = record {
      request = request;
      asked = asked;
      current = λ is. let f = front is in record {
        below = f.below;
        known = f.known;
        reaches = f.reaches;
        shows = ap (rows_shown s.cluster.schema request f.below) e ∙ ap (λ l. Ok (all_rows s.cluster.schema request.group l)) f.listed_are;
      };
    }
    go (row ∷ more) e = result_cause s.cluster.schema usage tape op request p (read_rows s.cluster.schema request.group (row ∷ more) rows) asked
        (λ shown got is. let f = front is in record {
          below = f.below;
          known = f.known;
          reaches = f.reaches;
          shows = ap (rows_shown s.cluster.schema request f.below) e ∙ ap (read_rows s.cluster.schema request.group (row ∷ more)) f.rows_are ∙ got;
        })

found_answer_cause : (schema : Schema) (usage : Usage) (tape : List Item) (op : OpId) (request : FindRequest) (marks : List Mark) (result : Result (List Found) ℕ) → asked_for usage.meaning tape op ≡ Some (Find request)
    → HasCause schema usage tape op (find_answer marks result)
found_answer_cause schema usage tape op request marks (Ok found) asked = tt
found_answer_cause schema usage tape op request marks (Err place) asked = of_read (Find request) asked refl

pub found_cause : (schema : Schema) (usage : Usage) (tape : List Item) (op : OpId) (request : FindRequest) (marks : List Mark) (group : List ℕ) (listed : Listed) (index : Option Index) → asked_for usage.meaning tape op ≡ Some (Find request)
    → HasCause schema usage tape op (find_by schema request marks group listed index)
found_cause schema usage tape op request marks group listed None asked = tt
found_cause schema usage tape op request marks group listed (Some index) asked = found_answer_cause schema usage tape op request marks _ asked

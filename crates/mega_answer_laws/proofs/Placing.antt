-- A conflict and a full log are answers of transactions, batches and pumps alone.
use Rattle.std.proofs.Common.{◌≡◌, ℕ, nat_le, Bool, true, false, cond, List, [], ◌∷◌, take, length, flat_map, Option, Some, None, Result, Ok, Err, refl, sym, ap, ◌∙◌}
use Rattle.mega_base.specs.declared.names.OpId.{OpId}
use Rattle.mega_base.specs.declared.values.NodeKind.{NodeKind}
use Rattle.mega_cluster.specs.declared.cluster.Cluster.{Cluster}
use Rattle.mega_index.specs.Fits.{numbered}
use Rattle.mega_index.specs.Rows.{Listed, Rows, list_after}
use Rattle.mega_index.specs.declared.found.Found.{Found}
use Rattle.mega_outcome.specs.declared.answer.Answer.{Answer}
use Rattle.mega_outcome.specs.declared.answer.Answer.TheVariants as answers
use Rattle.mega_outcome.specs.declared.answer.Mark.{Mark}
use Rattle.mega_outcome.specs.declared.answer.Shown.{Shown}
use Rattle.mega_outcome.specs.declared.answer.Turn.{Turn}
use Rattle.mega_outcome.specs.declared.request.FindRequest.{FindRequest}
use Rattle.mega_outcome.specs.declared.request.ReadRequest.{ReadRequest}
use Rattle.mega_outcome.specs.declared.request.Request.{Request}
use Rattle.mega_outcome.specs.declared.request.Request.TheVariants.{Batch as BatchRequest, Find, PumpEnter, PumpHandle, Read as ReadRequested, Refresh, Txn}
use Rattle.mega_outcome.specs.declared.transaction.RowRef.{RowRef}
use Rattle.mega_outcome.specs.Reads.{all_rows, read_rows}
use Rattle.mega_cause_laws.specs.of_run_laws.of_tape_laws.of_promises.Promises.{rows_shown}
use Rattle.mega_cause_laws.specs.of_run_laws.of_tape_laws.of_promises.of_rules.Acting.{read_answer, rows_answer}
use Rattle.mega_cause_laws.specs.of_run_laws.of_tape_laws.of_promises.of_rules.Finding.{find_answer, find_by, group_bytes, group_marks, refreshed_marks, rows_through}
use Rattle.mega_cause_laws.specs.of_run_laws.of_tape_laws.of_promises.of_rules.Logs.{log_of}
use Rattle.mega_cause_laws.specs.of_run_laws.of_tape_laws.of_promises.of_rules.Members.{kind_of}
use Rattle.mega_cause_laws.specs.of_run_laws.of_tape_laws.of_promises.of_rules.Met.{Met}
use Rattle.mega_cause_laws.specs.of_run_laws.of_tape_laws.of_promises.of_rules.Operations.{Node, Now, Setting}
use Rattle.mega_cause_laws.specs.of_run_laws.of_tape_laws.of_promises.of_rules.Steps.{applied_position, is_worn, missing_kind, snapshot_listed, snapshot_rows, stored_listed, stored_rows, unless_missing}
use Rattle.mega_schema.specs.declared.schema.Index.{Index}
use Rattle.mega_cause_laws.proofs.of_run_laws.of_tape_laws.Lists.{some_is}
use Rattle.mega_answer_laws.specs.Answered.{is_placing, may_propose}
use Rattle.mega_answer_laws.proofs.Acts.{AtOnce, found_applied, found_globally, found_stored, read_applied, read_stored, refreshed, refused}
use Rattle.mega_answer_laws.proofs.Reasons.{IsMet}

-- ---- what reads and finds answer

rows_placed : (p : ℕ) (result : Result (List (Option Shown)) Turn) → is_placing (rows_answer p result) ≡ false
rows_placed p (Ok rows) = refl
rows_placed p (Err turn) = refl

found_placed : (c : Cluster) (request : FindRequest) (of : List Mark) (group : List ℕ) (listed : Listed) (index : Option Index) → is_placing (find_by c.schema request of group listed index) ≡ false
found_placed c request of group listed None = refl
found_placed c request of group listed (Some index) = by _
  where
    by : (result : Result (List Found) ℕ) → is_placing (find_answer of result) ≡ false
    by (Ok found) = refl
    by (Err place) = refl

local_placed : (c : Cluster) (request : FindRequest) (p : ℕ) (listed : Listed) → is_placing (find_by c.schema request (group_marks request.group p) (group_bytes request.group) listed (numbered (c.schema).indexes request.index)) ≡ false
local_placed c request p listed = found_placed c request (group_marks request.group p) (group_bytes request.group) listed (numbered (c.schema).indexes request.index)

read_placed : (s : Setting) (asked : ReadRequest) (n : ℕ) (all : Rows) (listed : Listed) → is_placing (read_answer s asked n all listed) ≡ false
read_placed s asked n all listed = by asked.rows
  where
    answered_by : List RowRef → Answer
    answered_by [] = answers.Read (record { 0 = n }) (all_rows s.cluster.schema asked.group listed)
    answered_by (row ∷ more) = rows_answer n (read_rows s.cluster.schema asked.group (row ∷ more) all)

    by : (rows : List RowRef) → is_placing (answered_by rows) ≡ false
    by [] = refl
    by (row ∷ more) = rows_placed n (read_rows s.cluster.schema asked.group (row ∷ more) all)

not_both : (t : Bool) → t ≡ true → t ≡ false → ⊥
not_both t h k = cc

-- ---- what each request is answered with

pub met_kind : (s : Setting) (base : List Met) (op : OpId) (request : Request) (answer : Answer) → IsMet s base op request answer → is_placing answer ≡ true → may_propose request ≡ true
met_kind s base op (Txn transaction) answer met placing = refl
met_kind s base op (BatchRequest group transactions) answer met placing = refl
met_kind s base op PumpEnter answer met placing = refl
met_kind s base op PumpHandle answer met placing = refl
met_kind s base op Refresh answer met placing = absurd met
met_kind s base op (ReadRequested request) answer met placing = absurd (not_both (is_placing answer) placing
    (ap is_placing (sym (met.1).2) ∙ rows_placed (met.1).0 (rows_shown s.cluster.schema request (take (met.1).0 (log_of base request.group)) request.rows)))
met_kind s base op (Find request) answer met placing = absurd (not_both (is_placing answer) placing
    (ap is_placing (sym (met.3).2) ∙ local_placed s.cluster request (met.3).0 (list_after (take (met.3).0 (log_of base met.1)) [])))

-- an answer that is given at once is neither
pub once_placed : (s : Setting) (node : Node) (begin : Now) (request : Request) (answer : Answer) → AtOnce s node begin request answer → is_placing answer ≡ false
once_placed s node begin request answer (refused e) = first (is_worn node.met) e
  where
    busy : (t : Bool) → cond t (Some (answers.Busy 64)) None ≡ Some answer → is_placing answer ≡ false
    busy true k = ap is_placing (sym (some_is (answers.Busy 64) answer k))
    busy false k = cc

    missing : (kind : Option NodeKind) → unless_missing node.open_operations kind ≡ Some answer → is_placing answer ≡ false
    missing None k = busy (nat_le 64 (length node.open_operations)) k
    missing (Some kind) k = ap is_placing (sym (some_is (answers.NotHere kind) answer k))

    first : (t : Bool) → cond t (Some answers.Worn) (unless_missing node.open_operations (missing_kind request (kind_of s.cluster s.me))) ≡ Some answer → is_placing answer ≡ false
    first true k = ap is_placing (sym (some_is answers.Worn answer k))
    first false k = missing (missing_kind request (kind_of s.cluster s.me)) k
once_placed s node begin request answer (read_applied asked none same mode e) = ap is_placing e ∙ read_placed s asked (applied_position begin asked.group) (snapshot_rows begin asked.group) (snapshot_listed begin asked.group)
once_placed s node begin request answer (read_stored asked none same mode e) = ap is_placing e ∙ read_placed s asked (applied_position begin asked.group) (stored_rows begin asked.group) (stored_listed begin asked.group)
once_placed s node begin request answer (found_applied asked group none same of mode e) = ap is_placing e ∙ local_placed s.cluster asked (applied_position begin group) (snapshot_listed begin group)
once_placed s node begin request answer (found_stored asked group none same of mode e) = ap is_placing e ∙ local_placed s.cluster asked (applied_position begin group) (stored_listed begin group)
once_placed s node begin request answer (found_globally asked same of e) = ap is_placing e
    ∙ found_placed s.cluster asked (refreshed_marks begin.met) [] (flat_map (rows_through begin.met) (refreshed_marks begin.met)) (numbered (s.cluster.schema).indexes asked.index)
once_placed s node begin request answer (refreshed none same e) = ap is_placing e

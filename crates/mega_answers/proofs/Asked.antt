-- Requests that are answered by the rows of their group.
use Rattle.std.proofs.Common.{◌≡◌, ◌∙◌, ℕ, List, Option, Some, None, refl, ap, sym}
use Rattle.mega_base.specs.declared.names.GroupId.{GroupId}
use Rattle.mega_outcome.specs.declared.answer.Answer.{Answer}
use Rattle.mega_outcome.specs.declared.request.FindRequest.{FindRequest}
use Rattle.mega_outcome.specs.declared.request.Mode.{Mode}
use Rattle.mega_outcome.specs.declared.request.Mode.TheVariants.{Current, Snapshot, Inconsistent}
use Rattle.mega_outcome.specs.declared.request.Request.{Request}
use Rattle.mega_outcome.specs.declared.request.Request.TheVariants.{Txn, Batch, Read, Find, PumpEnter, PumpHandle, Refresh}
use Rattle.mega_schema.specs.declared.schema.Index.{Index}
use Rattle.mega_schema.specs.declared.schema.Schema.{Schema}
use Rattle.mega_index.specs.Finding.{found_by, found_over}
use Rattle.mega_index.specs.Fits.{numbered}
use Rattle.mega_index.specs.Rows.{Listed}
use Rattle.mega_rules.specs.Finding.{find_answer, find_by, group_bytes, group_marks, local_found, mark_at}
use Rattle.mega_rules.specs.Operations.{Now, Setting}
use Rattle.mega_rules.specs.Steps.{applied_position, snapshot_listed, snapshot_rows, stored_listed, stored_rows}
use Rattle.mega_outcome.specs.declared.answer.Mark.{Mark}
use Rattle.mega_marks.specs.of_node_laws.About.{IsOf}
use Rattle.mega_step_work.specs.Servable.{group_asked}
use Rattle.mega_answers.specs.Showing.{looks, place_by, shown}

some_is : {A : Type 0} (a b : A) → Some a ≡ Some b → a ≡ b
some_is a b h = cc

pub asked_of : (request : Request) (group : GroupId) → group_asked request ≡ Some group → IsOf request group
asked_of (Txn transaction) group is = absurd (cc)
asked_of (Batch own transactions) group is = absurd (cc)
asked_of (Read request) group is = some_is request.group group is
asked_of (Find request) group is = is
asked_of PumpEnter group is = tt
asked_of PumpHandle group is = tt
asked_of Refresh group is = tt

-- what is answered at once, by where the request looks
pub answered_at_once : (s : Setting) (now : Now) (request : Request) (group : GroupId) (mode : Mode) (applied prefix at : ℕ) (answer : Answer) → applied ≡ applied_position now group → place_by mode applied prefix ≡ Some at
    → (at ≡ applied → shown s request applied (snapshot_rows now group) (snapshot_listed now group) ≡ Some answer)
    → (at ≡ prefix → shown s request applied (stored_rows now group) (stored_listed now group) ≡ Some answer)
    → looks s now request group mode ≡ Some answer
answered_at_once s now request group Current applied prefix at answer is place snapshot inconsistent = cc
answered_at_once s now request group Snapshot applied prefix at answer is place snapshot inconsistent =
    ap (λ (p : ℕ). shown s request p (snapshot_rows now group) (snapshot_listed now group)) (sym is) ∙ snapshot (sym (some_is applied at place))
answered_at_once s now request group Inconsistent applied prefix at answer is place snapshot inconsistent =
    ap (λ (p : ℕ). shown s request p (stored_rows now group) (stored_listed now group)) (sym is) ∙ inconsistent (sym (some_is prefix at place))

-- a find in a group is answered what its index has over the group's rows
find_is : (schema : Schema) (request : FindRequest) (marks : List Mark) (group : List ℕ) (listed : Listed) (o : Option Index)
    → find_by schema request marks group listed o ≡ find_answer marks (found_by schema request.index o group request.values listed)
find_is schema request marks group listed None = refl
find_is schema request marks group listed (Some index) = refl

pub found_is : (schema : Schema) (request : FindRequest) (group : GroupId) (p : ℕ) (listed : Listed) → request.group ≡ Some group
    → local_found schema request p listed ≡ find_answer (mark_at group p) (found_over schema request.index group.key request.values listed)
found_is schema request group p listed of =
    ap (λ (o : Option GroupId). find_by schema request (group_marks o p) (group_bytes o) listed (numbered schema.indexes request.index)) of
    ∙ find_is schema request (mark_at group p) group.key listed (numbered schema.indexes request.index)

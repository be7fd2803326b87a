-- A step leaves what the kind of its node has.
use Rattle.std.proofs.Common.{◌≡◌, ℕ, ◌+◌, true, false, List, [], length, map, fold, Option, Some, None, refl, ap, ◌∙◌}
use Rattle.mega_base.specs.declared.names.GroupId.{GroupId}
use Rattle.mega_base.specs.declared.names.OpId.{OpId}
use Rattle.mega_cluster.specs.declared.cluster.Cluster.{Cluster}
use Rattle.mega_wire.specs.declared.message.Message.{Message}
use Rattle.mega_outcome.specs.declared.answer.Answer.{Answer}
use Rattle.mega_outcome.specs.declared.request.FindRequest.{FindRequest}
use Rattle.mega_outcome.specs.declared.request.Mode.{Mode}
use Rattle.mega_outcome.specs.declared.request.Mode.TheVariants.{Current, Snapshot, Inconsistent}
use Rattle.mega_outcome.specs.declared.request.ReadRequest.{ReadRequest}
use Rattle.mega_outcome.specs.declared.request.Request.{Request}
use Rattle.mega_outcome.specs.declared.request.Request.TheVariants.{Txn, Batch, Read, Find, PumpEnter, PumpHandle, Refresh}
use Rattle.mega_rules.specs.Clock.{clock_of}
use Rattle.mega_rules.specs.Logs.{groups_of}
use Rattle.mega_rules.specs.Members.{has_rows, is_full, is_node}
use Rattle.mega_rules.specs.Operations.{Node, Now, Operation, Setting}
use Rattle.mega_rules.specs.Acting.{rests_within}
use Rattle.mega_rules.specs.Steps.{Take, Tick, all_act, at_first, begins, find_begins, hears_message, is_current, local_find_begins, needs_full, new_operation, op_of, portion_of, read_begins, refusal, stored_after, ticked, unless_refused}
use Rattle.mega_actions.specs.of_node_laws.Acted.{acted_on, decision_in}
use Rattle.mega_actions.specs.of_view.Small.{IsSmall}
use Rattle.mega_node_events.specs.Beginning.{at_begin, has_begun}
use Rattle.mega_node_events.specs.Kind.{FitsKind}
use Rattle.mega_node_events.specs.Taking.{has_taken}
use Rattle.mega_node_events.specs.Ticking.{has_ticked}
use Rattle.mega_step_parts.proofs.Portions.{portion_bare, stored_bare}
use Rattle.mega_core.proofs.Roles.{bare_is_other, brief_where_served}

-- what is said of a node that is not full holds of one without rows
fits : (c : Cluster) (me : ℕ) (open_ones : List Operation) (stored : GroupId → ℕ) → is_node c me ≡ true → IsSmall c.schema
    → (is_full c me ≡ false → open_ones ≡ []) → (is_full c me ≡ false → has_rows c me ≡ false → (group : GroupId) → stored group ≡ 0) → FitsKind c me open_ones stored
fits c me open_ones stored member small idle bare = record { member = member; small = small; idle = idle; bare = λ none group. bare (bare_is_other c me none) none group }

-- ---- the steps

pub take_fits : (s : Setting) (node : Node) (m : Message) → FitsKind s.cluster s.me node.open_operations node.stored → FitsKind s.cluster s.me (has_taken s node m).kept (has_taken s node m).stored
take_fits s node m h = fits s.cluster s.me (has_taken s node m).kept (has_taken s node m).stored h.member h.small
    (λ other. ap (λ (now : Now). now.kept) (quiet other))
    (λ other none group. ap (λ (now : Now). now.stored group) (quiet other) ∙ stored_bare s (acted_on s node (Take m)) node.stored (decision_in s node m) none (h.bare none) group)
  where
    first : Now
    first = at_first (acted_on s node (Take m)) (stored_after s (acted_on s node (Take m)) node.stored (decision_in s node m))

    quiet : is_full s.cluster s.me ≡ false → has_taken s node m ≡ first
    quiet other = ap (λ (os : List Operation). all_act s first (map (hears_message s (clock_of node.met) m) os)) (h.idle other)

pub tick_fits : (s : Setting) (node : Node) (now : ℕ) → FitsKind s.cluster s.me node.open_operations node.stored → FitsKind s.cluster s.me (has_ticked s node now).kept (has_ticked s node now).stored
tick_fits s node now h = fits s.cluster s.me (has_ticked s node now).kept (has_ticked s node now).stored h.member h.small
    (λ other. ap (λ (one : Now). one.kept) (quiet other))
    (λ other none group. ap (λ (one : Now). one.stored group) (quiet other) ∙ portion_bare s node.met node.stored group none)
  where
    first : Now
    first = at_first (acted_on s node (Tick now)) (portion_of s node.met node.stored)

    quiet : is_full s.cluster s.me ≡ false → has_ticked s node now ≡ first
    quiet other = ap (λ (os : List Operation). fold (ticked s now) first os) (h.idle other)

-- what ends in the step in which it begins leaves what is open and what is stored
pub record Leaves (before after : Now) : Type 0 where
  pub kept : after.kept ≡ before.kept
  pub stored : after.stored ≡ before.stored

read_leaves : (most : ℕ) (s : Setting) (now : Now) (o : Operation) (request : ReadRequest) (mode : Mode) → is_current mode ≡ false → Leaves now (rests_within most s (read_begins s now o request mode))
read_leaves most s now o request Current brief = absurd (cc)
read_leaves most s now o request Snapshot brief = record { kept = refl; stored = refl }
read_leaves most s now o request Inconsistent brief = record { kept = refl; stored = refl }

local_find_leaves : (most : ℕ) (s : Setting) (now : Now) (o : Operation) (request : FindRequest) (group : GroupId) (mode : Mode) → is_current mode ≡ false → Leaves now (rests_within most s (local_find_begins s now o request group mode))
local_find_leaves most s now o request group Current brief = absurd (cc)
local_find_leaves most s now o request group Snapshot brief = record { kept = refl; stored = refl }
local_find_leaves most s now o request group Inconsistent brief = record { kept = refl; stored = refl }

find_leaves : (most : ℕ) (s : Setting) (now : Now) (o : Operation) (request : FindRequest) (group : Option GroupId) → is_current request.mode ≡ false → Leaves now (rests_within most s (find_begins s now o request group))
find_leaves most s now o request None brief = record { kept = refl; stored = refl }
find_leaves most s now o request (Some group) brief = local_find_leaves most s now o request group request.mode brief

begins_leaves : (s : Setting) (now : Now) (op : OpId) (request : Request) (clock : ℕ) → needs_full request ≡ false → Leaves now (begins s now (new_operation op request clock))
begins_leaves s now op (Txn transaction) clock brief = absurd (cc)
begins_leaves s now op (Batch group transactions) clock brief = absurd (cc)
begins_leaves s now op (Read request) clock brief = read_leaves (length (groups_of now.met) + 2) s now (new_operation op (Read request) clock) request request.mode brief
begins_leaves s now op (Find request) clock brief = find_leaves (length (groups_of now.met) + 2) s now (new_operation op (Find request) clock) request request.group brief
begins_leaves s now op PumpEnter clock brief = absurd (cc)
begins_leaves s now op PumpHandle clock brief = absurd (cc)
begins_leaves s now op Refresh clock brief = record { kept = refl; stored = refl }

unless_refused_leaves : (s : Setting) (now : Now) (op : OpId) (request : Request) (clock : ℕ) (refused : Option Answer) → (refused ≡ None → needs_full request ≡ false) → Leaves now (unless_refused s now (new_operation op request clock) refused)
unless_refused_leaves s now op request clock None brief = begins_leaves s now op request clock (brief refl)
unless_refused_leaves s now op request clock (Some answer) brief = record { kept = refl; stored = refl }

pub begin_fits : (s : Setting) (node : Node) (request : Request) (text : List ℕ) → FitsKind s.cluster s.me node.open_operations node.stored → FitsKind s.cluster s.me (has_begun s node request text).kept (has_begun s node request text).stored
begin_fits s node request text h = fits s.cluster s.me (has_begun s node request text).kept (has_begun s node request text).stored h.member h.small
    (λ other. (leaves other).kept ∙ h.idle other)
    (λ other none group. ap (λ (stored : GroupId → ℕ). stored group) (leaves other).stored ∙ h.bare none group)
  where
    leaves : is_full s.cluster s.me ≡ false → Leaves (at_begin s node text) (has_begun s node request text)
    leaves other = unless_refused_leaves s (at_begin s node text) (op_of s node.met) request (clock_of node.met) (refusal s node request) (brief_where_served s node request h.member other)

-- What is noted of the groups that are watched in a step: none at a node without rows.
use Rattle.std.proofs.Common.{◌≡◌, ℕ, Bool, true, false, cond, List, [], map, flat_map, refl, ap, sym, ◌∙◌}
use Rattle.mega_base.specs.declared.names.GroupId.{GroupId}
use Rattle.mega_rules.specs.Logs.{groups_of}
use Rattle.mega_rules.specs.Members.{has_rows}
use Rattle.mega_rules.specs.Met.{Met}
use Rattle.mega_rules.specs.Operations.{Node, Now, Setting}
use Rattle.mega_rules.specs.Steps.{apply_note, apply_notes}
use Rattle.mega_step_parts.specs.declared.applying.Before.{Before}
use Rattle.mega_step_parts.specs.Positions.{before_at, note_since}
use Rattle.mega_step_parts.specs.Touching.{behind}
use Rattle.mega_core.proofs.Untouched.{Noted}

pub watched_noted : (s t : Setting) (node : Node) (groups : List GroupId) (before : List Before) (now : Now) → t ≡ s
    → before ≡ cond (has_rows s.cluster s.me) (map (before_at node.met node.stored) groups) [] → Noted node (map (before_at node.met node.stored) groups) now
    → flat_map (note_since now.met now.stored) before ≡ apply_notes t node.met node.stored now.met now.stored
watched_noted s t node groups before now t_is before_is noted =
    ap (flat_map (note_since now.met now.stored)) before_is ∙ (by (has_rows s.cluster s.me) ∙ ap (λ one. apply_notes one node.met node.stored now.met now.stored) (sym t_is))
  where
    by : (b : Bool) → flat_map (note_since now.met now.stored) (cond b (map (before_at node.met node.stored) groups) []) ≡ cond b (flat_map (apply_note node.met node.stored now.met now.stored) (groups_of now.met)) []
    by true = noted
    by false = refl

-- the groups that are behind are looked for at such a node alone
pub at_behind : (b : Bool) (met : List Met) (stored : GroupId → ℕ) (at : GroupId → Before) → cond b (map at (behind b met stored)) [] ≡ cond b (map at (behind true met stored)) []
at_behind true met stored at = refl
at_behind false met stored at = refl

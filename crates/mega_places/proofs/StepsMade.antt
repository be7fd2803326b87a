-- One node of a world makes a step.
use Rattle.std.proofs.Common.{◌≡◌, ℕ, ◌+◌, ◌-◌, ◌≤◌, ◌&&◌, cond, Bool, true, false, List, ◌∷◌, get_or, length, map, Option, Some, refl, sym, ap, ◌∙◌, subst, arith}
use Rattle.std.proofs.lemmas.Option.{slice_get_read}
use Rattle.std.specs.List.{slice_get}
use Rattle.mega_cluster.specs.declared.cluster.Cluster.{Cluster}
use Rattle.mega_disk.specs.declared.mem_records.MemRecords.{MemRecords}
use Rattle.mega_disk.specs.Fuse.{Unset, after_append as less, is_short, keeps_record}
use Rattle.mega_disk.specs.MemDisk.{fuse_of, image_of}
use Rattle.mega_rows.specs.declared.rows.VersionedRows.{VersionedRows}
use Rattle.mega_handler.specs.Named.{Meaning, Meanings}
use Rattle.mega_durable.specs.of_actions.of_step_work.Settings.{setting as at_node}
use Rattle.mega_leases.specs.Opening.{AreOwed}
use Rattle.mega_rules.specs.Met.{Crashes}
use Rattle.mega_rules.specs.Operations.{Node as RuleNode, Setting}
use Rattle.mega_rules.specs.Steps.{Event, step}
use Rattle.mega_node_laws.specs.Acted.{own_item}
use Rattle.mega_durable.specs.of_core.declared.node.Node.{Node}
use Rattle.mega_durable.specs.of_core.of_step_parts.declared.step.Step.{Step}
use Rattle.mega_durable.specs.of_core.of_step_parts.Notes.{met_of}
use Rattle.mega_durable.specs.declared.cut.Cut.{Cut}
use Rattle.mega_durable.specs.Cut.{HoldsCut}
use Rattle.mega_durable.specs.Replying.{owed_by}
use Rattle.mega_durable.specs.Standing.{MayHappen}
use Rattle.mega_promises.specs.Runs.{AsItWas, Fuse, Recorded, after_append, appends, is_burning, owes, replies_in, setting}
use Rattle.mega_places.specs.declared.log_fuse.LogFuse.{LogFuse}
use Rattle.mega_places.specs.declared.member.Member.{Member}
use Rattle.mega_places.specs.LogFuses.{HasRoom, IsFused, run_fuse}
use Rattle.mega_places.specs.Members.{IsMember, IsUpAs, node_in, records_of}
use Rattle.mega_places.specs.Stepping.{MadeStep, WasCut}
use Rattle.mega_places.proofs.Fuses.{fused_more, fused_same, leaves, short_is}

-- the handlers do not matter to a node that is up
any_handlers : (g h : Meanings) (node : Node MemRecords VersionedRows) (ruled : RuleNode) → IsUpAs g node ruled → IsUpAs h node ruled
any_handlers g h node ruled up =
    let r = up.stands.within in
    record {
      stands = record {
        within = record { kind = r.kind; tells = r.tells; leased = r.leased; follows = r.follows; marked = r.marked; noted = r.noted; opened = r.opened; begun_is = r.begun_is; about = r.about; built = r.built };
        lagging = up.stands.lagging;
      };
      empty = up.empty;
      ready = up.ready;
      holds = up.holds;
      granted = up.granted;
    }

pub as_member : (c : Cluster) (h : Meanings) (me : ℕ) (member : Member) (ruled : RuleNode) → (node_in member).replica.members ≡ c → (node_in member).replica.me ≡ me → IsUpAs h (node_in member) ruled → IsMember c me member ruled
as_member c h me member ruled members number up = record { members = members; number = number; up = λ g. any_handlers h g (node_in member) ruled up }

-- the log's fuse had an append left where one was made, and counts its calls
pub record IsWhole (appending : Bool) (old new : MemRecords) : Type 0 where
  pub long : (appending && is_short (fuse_of old.fuse)) ≡ false
  pub fuse : fuse_of new.fuse ≡ cond appending (less (fuse_of old.fuse)) (fuse_of old.fuse)
  pub image : image_of new.fuse ≡ image_of old.fuse
  pub count : new.count ≡ old.count + cond {A = ℕ} appending 1 0

-- what a node's own clauses say of a step
pub record Steps (makes : List ℕ → Option Meaning) (node stepped : Node MemRecords VersionedRows) (made : Step) (event : Event) : Type 0 where
  pub notes : (h : Meanings) (ruled : RuleNode) → IsUpAs h node ruled → MayHappen makes (at_node node.replica.members node.replica.me h) ruled event → map met_of made.notes ≡ (step (at_node node.replica.members node.replica.me h) ruled event).notes
  pub sends : (h : Meanings) (ruled : RuleNode) → IsUpAs h node ruled → MayHappen makes (at_node node.replica.members node.replica.me h) ruled event → made.sends ≡ (step (at_node node.replica.members node.replica.me h) ruled event).sends
  pub state : (h : Meanings) (ruled : RuleNode) → IsUpAs h node ruled → MayHappen makes (at_node node.replica.members node.replica.me h) ruled event → IsUpAs h stepped (step (at_node node.replica.members node.replica.me h) ruled event).node
  pub whole : (h : Meanings) (ruled : RuleNode) → IsUpAs h node ruled → MayHappen makes (at_node node.replica.members node.replica.me h) ruled event
      → IsWhole (appends (step (at_node node.replica.members node.replica.me h) ruled event)) node.replica.voter.logs.records stepped.replica.voter.logs.records
  pub members : stepped.replica.members ≡ node.replica.members
  pub me : stepped.replica.me ≡ node.replica.me

-- the setting of a node of a cluster is its own
pub own_setting : (c : Cluster) (h : Meanings) (me : ℕ) (member : Member) (ruled : RuleNode) → IsMember c me member ruled → setting c h me ≡ at_node (node_in member).replica.members (node_in member).replica.me h
own_setting c h me member ruled one = sym (ap (λ k. setting k h (node_in member).replica.me) one.members ∙ ap (setting c h) one.number)

-- ---- the fuse that is kept beside the node
pub record Counts (kept next : Option LogFuse) (before now : ℕ) : Type 0 where
  pub same : before ≡ now → next ≡ kept
  pub more : now ≡ before + 1 → HasRoom (run_fuse kept) → run_fuse next ≡ after_append (run_fuse kept)

not_burning : (a : Bool) (old : MemRecords) (kept : Option LogFuse) (fuse : Option Fuse) → IsFused kept old fuse → (a && is_short (fuse_of old.fuse)) ≡ false → (a && is_burning fuse) ≡ false
not_burning a old kept fuse is long = ap (λ t. a && t) (sym (ap is_short is.left ∙ short_is fuse is.unburnt)) ∙ long

fused_step : (a : Bool) (kept next : Option LogFuse) (old new : MemRecords) (fuse : Option Fuse) → IsFused kept old fuse → IsWhole a old new → Counts kept next old.count new.count → IsFused next new (cond a (after_append fuse) fuse)
fused_step true kept next old new fuse is whole counts = fused_more kept next old new fuse is (not_burning true old kept fuse is whole.long) whole.fuse whole.image (counts.more whole.count)
fused_step false kept next old new fuse is whole counts =
    let same : old.count ≡ new.count = omega (arith, whole.count) in
    subst (λ (k : Option LogFuse). IsFused k new fuse) (sym (counts.same same)) (fused_same kept old new fuse is whole.fuse whole.image)

-- ---- so a node of a cluster made the step of the rules
pub made_step : {makes : List ℕ → Option Meaning} (c : Cluster) (h : Meanings) (me : ℕ) (ruled : RuleNode) (fuse : Option Fuse) (member stepped : Member) (made : Step) (event : Event) → IsMember c me member ruled → IsFused member.fuse (records_of member) fuse
    → MayHappen makes (setting c h me) ruled event → Steps makes (node_in member) (node_in stepped) made event → Counts member.fuse stepped.fuse (records_of member).count (records_of stepped).count
    → MadeStep c me (step (setting c h me) ruled event) fuse stepped made
made_step {makes} c h me ruled fuse member stepped made event one fused may steps counts = record {
  notes = steps.notes h ruled here its ∙ ap (λ (s : Setting). (step s ruled event).notes) (sym own);
  sends = steps.sends h ruled here its ∙ ap (λ (s : Setting). (step s ruled event).sends) (sym own);
  long = not_burning (appends (step (setting c h me) ruled event)) (records_of member) member.fuse fuse fused whole.long;
  is = as_member c h me stepped (step (setting c h me) ruled event).node (steps.members ∙ one.members) (steps.me ∙ one.number)
      (subst (λ (s : Setting). IsUpAs h (node_in stepped) (step s ruled event).node) (sym own) (steps.state h ruled here its));
  fused = fused_step (appends (step (setting c h me) ruled event)) member.fuse stepped.fuse (records_of member) (records_of stepped) fuse fused whole counts;
}
  where
    own : setting c h me ≡ at_node (node_in member).replica.members (node_in member).replica.me h
    own = own_setting c h me member ruled one

    here : IsUpAs h (node_in member) ruled
    here = one.up h

    its : MayHappen makes (at_node (node_in member).replica.members (node_in member).replica.me h) ruled event
    its = subst (λ (s : Setting). MayHappen makes s ruled event) own may

    whole : IsWhole (appends (step (setting c h me) ruled event)) (records_of member) (records_of stepped)
    whole = subst (λ (s : Setting). IsWhole (appends (step s ruled event)) (records_of member) (records_of stepped)) (sym own) (steps.whole h ruled here its)

-- ---- or its log's fuse cut it off
pub record CutSo (s : Setting) (ruled : RuleNode) (event : Event) (old new : MemRecords) (cut : Cut) : Type 0 where
  pub appending : appends (step s ruled event) ≡ true
  pub short : is_short (fuse_of old.fuse) ≡ true
  pub gone : fuse_of new.fuse ≡ Unset
  pub holds : HoldsCut s ruled event new.list.items (cond (keeps_record (fuse_of old.fuse) (image_of old.fuse)) Recorded AsItWas)
  pub owed : owed_by cut ≡ owes (step s ruled event) (replies_in s.cluster s.me ruled.met event)
  pub follows : AreOwed (owes (step s ruled event) (replies_in s.cluster s.me ruled.met event)) (Crashes ∷ own_item s ruled event ∷ ruled.met)

pub was_cut : {makes : List ℕ → Option Meaning} (c : Cluster) (h : Meanings) (me : ℕ) (ruled : RuleNode) (fuse : Option Fuse) (member stepped : Member) (cut : Cut) (event : Event) → IsMember c me member ruled → IsFused member.fuse (records_of member) fuse
    → MayHappen makes (setting c h me) ruled event → stepped.fuse ≡ member.fuse
    → (IsUpAs h (node_in member) ruled → MayHappen makes (at_node (node_in member).replica.members (node_in member).replica.me h) ruled event
    → CutSo (at_node (node_in member).replica.members (node_in member).replica.me h) ruled event (records_of member) (records_of stepped) cut)
    → WasCut c h me ruled event fuse stepped cut
was_cut {makes} c h me ruled fuse member stepped cut event one fused may same says = record {
  appending = so.appending;
  burning = sym (short_is fuse fused.unburnt) ∙ sym (ap is_short fused.left) ∙ so.short;
  holds = subst (HoldsCut (setting c h me) ruled event (records_of stepped).list.items) (leaves (records_of member) fuse fused.left fused.image fused.unburnt) so.holds;
  gone = so.gone;
  was = ap run_fuse same ∙ fused.kept_is;
  follows = so.follows;
  owed = so.owed;
}
  where
    own : setting c h me ≡ at_node (node_in member).replica.members (node_in member).replica.me h
    own = own_setting c h me member ruled one

    so : CutSo (setting c h me) ruled event (records_of member) (records_of stepped) cut
    so = subst (λ (s : Setting). CutSo s ruled event (records_of member) (records_of stepped) cut) (sym own)
        (says (one.up h) (subst (λ (s : Setting). MayHappen makes s ruled event) own may))

-- the node at a place of a list, counted from 1
pub found : {X : Type 0} (xs : List X) (i me : ℕ) (x : X) → i ≡ me - 1 → 1 ≤ me → me ≤ length xs → x ≡ get_or xs i x → slice_get xs i ≡ Some x
found xs i me x is least most value = slice_get_read xs (length xs) i x refl (omega (arith, is, least, most)) value

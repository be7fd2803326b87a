-- What becomes of a step of a node that is up: it makes it whole, or its log's fuse cuts it off.
use Rattle.std.specs.Prelude.{◌≡◌, ◌⊎◌, ℕ, ◌&&◌, true, false, if◌then◌else◌, List, [], ◌∷◌, map, Option, None, Result, Ok, Err}
use Rattle.mega_cluster.specs.declared.cluster.Cluster.{Cluster}
use Rattle.mega_disk.specs.Fuse.{Unset}
use Rattle.mega_disk.specs.MemDisk.{fuse_of}
use Rattle.mega_handler.specs.Named.{Meaning, Meanings}
use Rattle.mega_transcript.specs.declared.item.Item.{Item}
use Rattle.mega_leases.specs.Opening.{AreOwed}
use Rattle.mega_node_laws.specs.Acted.{own_item}
use Rattle.mega_rules.specs.Met.{Crashes}
use Rattle.mega_rules.specs.Operations.{Node as RuleNode}
use Rattle.mega_leases.specs.Taking.{IsByStranger, IsLate}
use Rattle.mega_durable.specs.of_actions.of_step_work.Servable.{is_served}
use Rattle.mega_rules.specs.Steps.{Begin, Event, Step as RuleStep, Take, Tick, step}
use Rattle.mega_durable.specs.of_core.of_step_parts.declared.step.Step.{Step}
use Rattle.mega_durable.specs.of_core.of_step_parts.Notes.{met_of}
use Rattle.mega_durable.specs.declared.cut.Cut.{Cut}
use Rattle.mega_durable.specs.Cut.{HoldsCut}
use Rattle.mega_durable.specs.Replying.{owed_by}
use Rattle.mega_durable.specs.Standing.{MayHappen}
use Rattle.mega_promises.specs.Runs.{Fuse, Standing, after_append, appends, cut_step, is_burning, is_kept, left_by, met_in, owes, replies_in, set_at, setting, whole_step}
use Rattle.mega_places.specs.declared.member.Member.{Member}
use Rattle.mega_places.specs.declared.not_made.NotMade.{NotMade}
use Rattle.mega_places.specs.declared.not_made.NotMade.TheVariants as not_made
use Rattle.mega_places.specs.declared.place.Place.{Place}
use Rattle.mega_places.specs.declared.stepping.Stepped.{Stepped}
use Rattle.mega_places.specs.declared.stepping.Stepped.TheVariants as stepped
use Rattle.mega_places.specs.Kept.{AreNodes}
use Rattle.mega_places.specs.LogFuses.{IsFused, run_fuse}
use Rattle.mega_places.specs.Members.{IsMember, records_of}

-- of each node of the rules which this node may be, with this fuse of the run on its log, and at which the event may happen over handlers
-- that make this of messages
abbrev pub AtEachNode : (List ℕ → Option Meaning) → Member → Event → (Cluster → Meanings → ℕ → RuleNode → Option Fuse → Type 0) → Type 0
AtEachNode makes member event Is =
    (c : Cluster) (h : Meanings) (me : ℕ) (ruled : RuleNode) (fuse : Option Fuse) → IsMember c me member ruled → IsFused member.fuse (records_of member) fuse → MayHappen makes (setting c h me) ruled event → Is c h me ruled fuse

-- what a node takes is of its cluster and not too late, and what begins is of at most 16 transactions
abbrev pub IsNear : Cluster → Event → Type 0
IsNear c (Take message) = IsByStranger message.from message.body ⊎ IsLate c message.body → ⊥
IsNear c (Begin request text) = is_served request ≡ true
IsNear c (Tick clock) = Unit {0}

-- there is such a node
pub record IsSome (makes : List ℕ → Option Meaning) (member : Member) (event : Event) : Type 0 where
  pub cluster : Cluster
  pub handlers : Meanings
  pub me : ℕ
  pub ruled : RuleNode
  pub is : IsMember cluster me member ruled
  pub may : MayHappen makes (setting cluster handlers me) ruled event
  pub near : IsNear cluster event

-- a node made this step: it notes and sends what the rules say, and the fuse had an append left where one was made
pub record MadeStep (c : Cluster) (me : ℕ) (ruled : RuleStep) (fuse : Option Fuse) (member : Member) (made : Step) : Type 0 where
  pub notes : map met_of made.notes ≡ ruled.notes
  pub sends : made.sends ≡ ruled.sends
  pub long : (appends ruled && is_burning fuse) ≡ false
  pub is : IsMember c me member ruled.node
  pub fused : IsFused member.fuse (records_of member) (if appends ruled then after_append fuse else fuse)

-- the fuse cut a node's step off as its record was appended: what the records hold then, and what is owed where the record was kept
pub record WasCut (c : Cluster) (h : Meanings) (me : ℕ) (ruled : RuleNode) (event : Event) (fuse : Option Fuse) (member : Member) (cut : Cut) : Type 0 where
  pub appending : appends (step (setting c h me) ruled event) ≡ true
  pub burning : is_burning fuse ≡ true
  pub holds : HoldsCut (setting c h me) ruled event (records_of member).list.items (left_by fuse)
  pub gone : fuse_of (records_of member).fuse ≡ Unset
  pub was : run_fuse member.fuse ≡ fuse
  pub follows : AreOwed (owes (step (setting c h me) ruled event) (replies_in c me ruled.met event)) (Crashes ∷ own_item (setting c h me) ruled event ∷ ruled.met)
  pub owed : owed_by cut ≡ owes (step (setting c h me) ruled event) (replies_in c me ruled.met event)

-- what of this is so of a step that the node made, or did not make
abbrev pub Outcome : Cluster → Meanings → ℕ → RuleNode → Event → Option Fuse → Member → Result Step NotMade → Type 0
Outcome c h me ruled event fuse member (Ok made) = MadeStep c me (step (setting c h me) ruled event) fuse member made
Outcome c h me ruled event fuse member (Err (not_made.Cut cut)) = WasCut c h me ruled event fuse member cut
Outcome c h me ruled event fuse member (Err (not_made.Fault fault)) = Unit {0}

-- of the nodes of each run at which the event may happen to this node
abbrev pub AtEachRun : (List ℕ → Option Meaning) → List Place → ℕ → Event → (Cluster → Meanings → Standing → Type 0) → Type 0
AtEachRun makes places me event Is = (c : Cluster) (h : Meanings) (now : Standing) → AreNodes c places now → MayHappen makes (setting c h me) (now.node me) event → Is c h now

-- there is such a run
pub record IsRunning (makes : List ℕ → Option Meaning) (places : List Place) (me : ℕ) (event : Event) : Type 0 where
  pub cluster : Cluster
  pub handlers : Meanings
  pub now : Standing
  pub nodes : AreNodes cluster places now
  pub may : MayHappen makes (setting cluster handlers me) (now.node me) event
  pub near : IsNear cluster event

-- what a step of the run leaves that its fuse cut off
abbrev pub cut_off : Cluster → Meanings → Standing → ℕ → List Item → Event → Standing
cut_off c h now me own event =
    cut_step c now me own (met_in (setting c h me) (now.node me).met event) (left_by (now.log_fuse me))
    (if is_kept (left_by (now.log_fuse me)) then owes (step (setting c h me) (now.node me) event) (replies_in c me (now.node me).met event) else []) (set_at now.log_fuse me None) now.data_fuse

-- the nodes are those of the run behind the step, which was whole
pub record Makes (c : Cluster) (now : Standing) (me : ℕ) (ruled : RuleStep) (places : List Place) (made : Step) : Type 0 where
  pub notes : map met_of made.notes ≡ ruled.notes
  pub sends : made.sends ≡ ruled.sends
  pub long : (appends ruled && is_burning (now.log_fuse me)) ≡ false
  pub nodes : (own : List Item) → AreNodes c places (whole_step c now me own ruled)

-- or was cut off
pub record Falls (c : Cluster) (h : Meanings) (now : Standing) (me : ℕ) (event : Event) (places : List Place) : Type 0 where
  pub short : (appends (step (setting c h me) (now.node me) event) && is_burning (now.log_fuse me)) ≡ true
  pub nodes : (own : List Item) → AreNodes c places (cut_off c h now me own event)

abbrev pub Comes : Cluster → Meanings → Standing → ℕ → Event → List Place → Stepped → Type 0
Comes c h now me event places (stepped.Made made) = Makes c now me (step (setting c h me) (now.node me) event) places made
Comes c h now me event places stepped.Cut = Falls c h now me event places

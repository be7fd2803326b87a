-- What a start shows, and what a world that shows it knows then.
use Rattle.std.specs.Prelude.{◌≡◌, ℕ, ◌++◌, ◌∷◌, List, flat_map}
use Rattle.mega_base.specs.declared.names.Epoch.{Epoch}
use Rattle.mega_cluster.specs.declared.cluster.Cluster.{Cluster}
use Rattle.mega_places.specs.of_voter.of_rules.Met.{Met}
use Rattle.mega_places.specs.of_voter.of_rules.Operations.{Node as RuleNode}
use Rattle.mega_places.specs.of_voter.of_rules.Steps.{onto}
use Rattle.mega_places.specs.of_promises.of_transcript.declared.item.Item.{Item}
use Rattle.mega_places.specs.of_promises.of_transcript.declared.item.Item.TheVariants.{Start}
use Rattle.mega_places.specs.of_promises.Items.{number, shown}
use Rattle.mega_places.specs.of_promises.Runs.{has_lapsed, set_at, with_items}
use Rattle.mega_world.specs.declared.restarting.Shown.{Shown}
use Rattle.mega_world.specs.declared.world.World.{World}
use Rattle.mega_places.specs.Kept.{owed_of}
use Rattle.mega_safety.specs.Lapses.{KnowsLeases}
use Rattle.mega_places.specs.Members.{AreMembers}
use Rattle.mega_world.specs.Shown.{notes_shown}

-- this node started and owes this, which is not shown yet
pub record IsOwing (c : Cluster) (world : World) (me : ℕ) (owed : List Met) (was ruled : ℕ → RuleNode) (tape : List Item) : Type 0 where
  pub nodes : AreMembers c world.places.items ruled
  pub lapsed : (cell node : ℕ) (epoch : Epoch) → has_lapsed (ruled cell).met node epoch ≡ has_lapsed (set_at (λ other. (was other).met) me (onto owed (was me).met) cell) node epoch
  pub leases : KnowsLeases world.safety was tape

-- it is shown
pub record ShowsOwed (c : Cluster) (old new : World) (me : ℕ) (owed : List Met) (ruled : ℕ → RuleNode) (before after : List Item) : Type 0 where
  pub cluster : new.cluster ≡ old.cluster
  pub places : new.places ≡ old.places
  pub mail : new.mail ≡ old.mail
  pub tape : after ≡ with_items c ruled before (flat_map (shown me) owed)
  pub leases : KnowsLeases new.safety ruled after

-- so is the whole start
pub record ShowsStart (c : Cluster) (old new : World) (me : ℕ) (opening : Shown) (ruled : ℕ → RuleNode) (before after : List Item) : Type 0 where
  pub cluster : new.cluster ≡ old.cluster
  pub places : new.places ≡ old.places
  pub mail : new.mail ≡ old.mail
  pub tape : after ≡ with_items c ruled before (Start (number me) opening.start ∷ flat_map (shown me) (owed_of opening.owed) ++ notes_shown me opening.notes)
  pub leases : KnowsLeases new.safety ruled after

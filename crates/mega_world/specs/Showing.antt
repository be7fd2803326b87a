-- A world one of whose nodes made a step, before and after what the step notes and sends is shown.
use Rattle.std.specs.Prelude.{◌≡◌, ℕ, ◌+◌, ◌++◌, ◌∷◌, [], List, All, map}
use Rattle.mega_base.specs.declared.names.Epoch.{Epoch}
use Rattle.mega_cluster.specs.declared.cluster.Cluster.{Cluster}
use Rattle.mega_places.specs.of_promises.of_transcript.declared.item.Item.{Item}
use Rattle.mega_places.specs.of_promises.of_transcript.declared.item.Item.TheVariants.{Crash}
use Rattle.mega_places.specs.of_promises.of_transcript.Lines.{HasLine}
use Rattle.mega_places.specs.of_promises.of_transcript.Tape.{newest, sent_count}
use Rattle.mega_places.specs.of_voter.of_rules.Operations.{Node as RuleNode}
use Rattle.mega_places.specs.of_voter.of_rules.Steps.{onto}
use Rattle.mega_places.specs.of_durable.of_core.of_step_parts.declared.note.Note.{Note}
use Rattle.mega_places.specs.of_durable.of_core.of_step_parts.declared.step.Step.{Step}
use Rattle.mega_places.specs.of_durable.of_core.of_step_parts.Notes.{met_of}
use Rattle.mega_places.specs.of_promises.Items.{number, numbered}
use Rattle.mega_places.specs.of_promises.Runs.{has_lapsed, set_at, with_items}
use Rattle.mega_places.specs.declared.stepping.Stepped.{Stepped}
use Rattle.mega_places.specs.declared.stepping.Stepped.TheVariants as stepped
use Rattle.mega_world.specs.declared.world.World.{World}
use Rattle.mega_places.specs.Carries.{Carries}
use Rattle.mega_safety.specs.Lapses.{KnowsLeases}
use Rattle.mega_places.specs.Members.{AreMembers}
use Rattle.mega_world.specs.Shown.{notes_shown}

-- this node made a step that notes this, which is not shown yet
pub record IsStepped (c : Cluster) (world : World) (me : ℕ) (notes : List Note) (was ruled : ℕ → RuleNode) (tape : List Item) : Type 0 where
  pub nodes : AreMembers c world.places.items ruled
  pub lapsed : (cell node : ℕ) (epoch : Epoch) → has_lapsed (ruled cell).met node epoch ≡ has_lapsed (set_at (λ other. (was other).met) me (onto (map met_of notes) (was me).met) cell) node epoch
  pub leases : KnowsLeases world.safety was tape
  pub carries : Carries world.mail tape

-- the step is shown: its notes, each judged by the nodes as they stand then, and what it sends
pub record IsShown (c : Cluster) (old new : World) (me : ℕ) (made : Step) (ruled : ℕ → RuleNode) (items after : List Item) : Type 0 where
  pub cluster : new.cluster ≡ old.cluster
  pub places : new.places ≡ old.places
  pub tape : newest after ≡ with_items c ruled (newest items) (notes_shown me made.notes ++ numbered (sent_count (newest items) + 1) made.sends)
  pub leases : KnowsLeases new.safety ruled (newest after)
  pub carries : Carries new.mail (newest after)

-- a step that was cut off shows the crash alone
pub record ShowsCrash (old new : World) (me : ℕ) (items after : List Item) : Type 0 where
  pub world : new ≡ old
  pub tape : after ≡ items ++ Crash (number me) ∷ []

abbrev pub ShowsStep : Cluster → World → World → ℕ → Stepped → List Item → List Item → Type 0
ShowsStep c old new me (stepped.Made made) items after = (was ruled : ℕ → RuleNode) → IsStepped c old me made.notes was ruled (newest items) → IsShown c old new me made ruled items after
ShowsStep c old new me stepped.Cut items after = ShowsCrash old new me items after

-- what is shown has lines where the items of the step have
abbrev pub LinesStep : World → ℕ → Stepped → List Item → List Item → Type 0
LinesStep old me (stepped.Made made) items after = (before : List Item) → Carries old.mail before → All HasLine items → All HasLine (notes_shown me made.notes) → All HasLine (numbered (sent_count before + 1) made.sends) → All HasLine after
LinesStep old me stepped.Cut items after = All HasLine items → All HasLine after

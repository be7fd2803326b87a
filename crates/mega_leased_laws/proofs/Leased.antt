-- The leases of every run are as the rules have them: the laws of its items, put together.
use Rattle.std.proofs.Common.{◌≤◌, List, [], ◌∷◌, length}
use Rattle.mega_cluster.specs.declared.cluster.Cluster.{Cluster}
use Rattle.mega_handler.specs.Named.{Meanings}
use Rattle.mega_wire.specs.declared.message.Message.{Message}
use Rattle.mega_wire.specs.declared.message.Body.{Body}
use Rattle.mega_wire.specs.declared.message.Body.TheVariants.{Invalidate, Invalidated, Unheld}
use Rattle.mega_lease_laws.specs.of_run_laws.of_tape_laws.of_promises.of_transcript.declared.item.Item.{Item}
use Rattle.mega_lease_laws.specs.of_run_laws.of_tape_laws.of_promises.of_transcript.declared.item.Item.TheVariants.{Counts, Grant, Sent, Serving, Valid}
use Rattle.mega_lease_laws.specs.of_run_laws.of_tape_laws.of_promises.Runs.{Happening, IsRun}
use Rattle.mega_valid_laws.specs.Leases.{AreLeased, IsLeased, MaySay}
use Rattle.mega_leased_laws.specs.Cells.{Frees, IsFreed}
use Rattle.mega_leased_laws.specs.Invalidations.{IsObeyed, IsPressed, Obeys, Presses}
use Rattle.mega_leased_laws.specs.Items.{Are}
use Rattle.mega_leased_laws.specs.Serving.{IsServing}
use Rattle.mega_leased_laws.specs.Validation.{IsValidated}
use Rattle.mega_leased_laws.proofs.Cells.{run_freed}
use Rattle.mega_leased_laws.proofs.Epochs.{run_serving}
use Rattle.mega_leased_laws.proofs.Obeying.{run_obeyed}
use Rattle.mega_leased_laws.proofs.Pressing.{run_pressed}
use Rattle.mega_leased_laws.proofs.Validating.{run_validated}

says : (c : Cluster) (before : List Item) (m : Message) (body : Body) → Frees before m body → Obeys before m body → Presses c before body → MaySay c before m body
says c before m (Unheld op cell node) freed obeyed pressed = freed
says c before m (Invalidated op group n) freed obeyed pressed = obeyed
says c before m (Invalidate op group n) freed obeyed pressed = pressed
says c before m _ freed obeyed pressed = tt

leased_one : (c : Cluster) (before : List Item) (item : Item) → IsFreed before item → IsServing before item → IsObeyed before item → IsPressed c before item → IsValidated c before item → IsLeased c before item
leased_one c before (Grant cell node epoch) freed serving obeyed pressed validated = serving
leased_one c before (Counts node cell epoch) freed serving obeyed pressed validated = serving
leased_one c before (Serving node epoch) freed serving obeyed pressed validated = serving
leased_one c before (Valid node group p) freed serving obeyed pressed validated = validated
leased_one c before (Sent key m) freed serving obeyed pressed validated = says c before m m.body freed obeyed pressed
leased_one c before _ freed serving obeyed pressed validated = tt

leased_all : (c : Cluster) (tape : List Item) → Are IsFreed tape → Are IsServing tape → Are IsObeyed tape → Are (IsPressed c) tape → Are (IsValidated c) tape → AreLeased c tape
leased_all c [] freed serving obeyed pressed validated = tt
leased_all c (item ∷ before) freed serving obeyed pressed validated =
    (leased_one c before item freed.0 serving.0 obeyed.0 pressed.0 validated.0, leased_all c before freed.1 serving.1 obeyed.1 pressed.1 validated.1)

pub run_by_poll : (c : Cluster) (first : Meanings) (events : List Happening) (tape : List Item) → length c.nodes ≤ 9 → IsRun c first events tape → Are (IsValidated c) tape
run_by_poll c first events tape few run = run_validated c first events tape few run (run_serving c first events tape few run)

pub run_leased : (c : Cluster) (first : Meanings) (events : List Happening) (tape : List Item) → length c.nodes ≤ 9 → IsRun c first events tape → AreLeased c tape
run_leased c first events tape few run = leased_all c tape (run_freed c first events tape few run) (run_serving c first events tape few run) (run_obeyed c first events tape run) (run_pressed c first events tape run) (run_by_poll c first events tape few run)

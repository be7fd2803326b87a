-- What events lead to under fuses that fail at the append which they name.
use Rattle.std.proofs.Common.{◌≡◌, ℕ, ◌∷◌, [], ◌&&◌, cond, true, false, List, Some, None, subst, sym, ap, ◌∙◌}
use Rattle.mega_cluster.specs.declared.cluster.Cluster.{Cluster}
use Rattle.mega_places.specs.of_handler.Named.{Meanings}
use Rattle.mega_places.specs.of_promises.of_schedule.declared.world_event.WorldEvent.TheVariants.{Deliver}
use Rattle.mega_wire.specs.declared.message.Message.{Message}
use Rattle.mega_places.specs.of_promises.of_transcript.declared.item.Item.{Item}
use Rattle.mega_places.specs.of_promises.of_transcript.declared.item.Item.TheVariants.{Crash, Taken}
use Rattle.mega_places.specs.of_promises.of_transcript.Tape.{onto}
use Rattle.mega_places.specs.of_voter.of_rules.Met.{Crashes}
use Rattle.mega_places.specs.of_voter.of_rules.Operations.{Node}
use Rattle.mega_places.specs.of_voter.of_rules.Steps.{Event, Take, step}
use Rattle.mega_places.specs.of_promises.Items.{number, shown}
use Rattle.mega_places.specs.of_promises.Messages.{message_of}
use Rattle.mega_places.specs.of_promises.Runs.{CutByLog, Standing, Whole, after_event, appends, at_node, by_fuse, calls_of, cut_start, fate_by, fated, fated_start, handed, is_burning, left_by, met_in, replies_in, set_at, setting, start_calls, whole_step, with_items}
use Rattle.mega_world.specs.Restarting.{started}
use Rattle.mega_world.specs.declared.world.World.{World}
use Rattle.mega_world.specs.AtRun.{StandsWith}
use Rattle.mega_places.specs.Stepping.{cut_off}
use Rattle.mega_places.proofs.Fuses.{fated as fate_is}
use Rattle.mega_places.proofs.Plain.{with_append}

pub step_whole : (c : Cluster) (h : Meanings) (now : Standing) (me : ℕ) (own : List Item) (event : Event) → (appends (step (setting c h me) (now.node me) event) && is_burning (now.log_fuse me)) ≡ false
    → at_node c h now me own event (by_fuse now me) ≡ whole_step c now me own (step (setting c h me) (now.node me) event)
step_whole c h now me own event none =
    ap (fated c now me own (met_in (setting c h me) (now.node me).met event) (step (setting c h me) (now.node me) event) (replies_in c me (now.node me).met event))
    (fate_is now me (calls_of c h now me event (step (setting c h me) (now.node me) event)) ∙ ap (λ t. cond t (CutByLog (left_by (now.log_fuse me))) Whole) none)

pub step_cut : (c : Cluster) (h : Meanings) (now : Standing) (me : ℕ) (own : List Item) (event : Event) → (appends (step (setting c h me) (now.node me) event) && is_burning (now.log_fuse me)) ≡ true
    → at_node c h now me own event (by_fuse now me) ≡ cut_off c h now me own event
step_cut c h now me own event short =
    ap (fated c now me own (met_in (setting c h me) (now.node me).met event) (step (setting c h me) (now.node me) event) (replies_in c me (now.node me).met event))
    (fate_is now me (calls_of c h now me event (step (setting c h me) (now.node me) event)) ∙ ap (λ t. cond t (CutByLog (left_by (now.log_fuse me))) Whole) short)

pub start_whole : (c : Cluster) (h : Meanings) (now : Standing) (me : ℕ) → is_burning (now.log_fuse me) ≡ false → fated_start c h now me (fate_by now me (by_fuse now me) (start_calls c me)) ≡ started c h now me
start_whole c h now me none = ap (fated_start c h now me) (fate_is now me (start_calls c me) ∙ ap (λ t. cond t (CutByLog (left_by (now.log_fuse me))) Whole) none)

pub start_cut : (c : Cluster) (h : Meanings) (now : Standing) (me : ℕ) → is_burning (now.log_fuse me) ≡ true
    → fated_start c h now me (fate_by now me (by_fuse now me) (start_calls c me)) ≡ cut_start now me (left_by (now.log_fuse me)) (set_at now.log_fuse me None) now.data_fuse
start_cut c h now me burning = ap (fated_start c h now me) (fate_is now me (start_calls c me) ∙ ap (λ t. cond t (CutByLog (left_by (now.log_fuse me))) Whole) burning)

-- the tape of a step that was cut off: the event's own item and the crash
pub cut_tape : (c : Cluster) (h : Meanings) (now : Standing) (me : ℕ) (own : List Item) (event : Event) → ((node : ℕ → Node) (t : List Item) → with_items c node t own ≡ onto own t)
    → (cut_off c h now me own event).tape ≡ Crash (number me) ∷ onto own now.tape
cut_tape c h now me own event plain = with_append c (cut_off c h now me own event).node own (shown me Crashes) now.tape ∙ ap (λ t. Crash (number me) ∷ t) (plain (cut_off c h now me own event).node now.tape)

-- a delivery is a step of its receiver
pub handed_is : (c : Cluster) (h : Meanings) (now : Standing) (number_of : ℕ) (message : Message) (world : World) (items : List Item) → message_of now.tape number_of ≡ Some message
    → StandsWith c world items (at_node c h now message.to (Taken number_of ∷ []) (Take message) (by_fuse now message.to)) → StandsWith c world items (after_event c h by_fuse now (Deliver number_of))
handed_is c h now number_of message world items is here = subst (StandsWith c world items) (sym (ap (handed c h by_fuse now number_of) is)) here

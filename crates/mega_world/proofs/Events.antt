-- What a step that is whole shows, and where a drain goes on.
use Rattle.std.proofs.Common.{◌≡◌, ℕ, ◌+◌, List, flat_map, Some, None, ap, zero, suc}
use Rattle.mega_cluster.specs.declared.cluster.Cluster.{Cluster}
use Rattle.mega_places.specs.of_handler.Named.{Meanings}
use Rattle.mega_places.specs.of_promises.of_schedule.declared.world_event.WorldEvent.TheVariants.{Deliver}
use Rattle.mega_places.specs.of_promises.of_transcript.declared.item.Item.{Item}
use Rattle.mega_places.specs.of_promises.of_transcript.declared.item.Item.TheVariants.{Cut as CutItem}
use Rattle.mega_places.specs.of_promises.of_transcript.Tape.{onto, sent_count}
use Rattle.mega_places.specs.of_voter.of_rules.Operations.{Node}
use Rattle.mega_places.specs.of_voter.of_rules.Steps.{Step}
use Rattle.mega_places.specs.of_promises.Items.{numbered, shown}
use Rattle.mega_places.specs.of_promises.Messages.{next_delivery}
use Rattle.mega_places.specs.of_promises.Runs.{Standing, after_event, by_fuse, delivered, drained, marked, set_at, unless_none, up, whole_step, with_items}
use Rattle.mega_places.proofs.Plain.{with_step}

-- what a whole step shows, oldest first in three pieces: the event's own items, the notes, and the messages with the next numbers
pub step_shows : (c : Cluster) (now : Standing) (me : ℕ) (own : List Item) (made : Step) → ((node : ℕ → Node) (t : List Item) → with_items c node t own ≡ onto own t)
    → (whole_step c now me own made).tape ≡ onto (numbered (sent_count now.tape + 1) made.sends) (with_items c (set_at now.node me made.node) (onto own now.tape) (flat_map (shown me) made.notes))
step_shows c now me own made plain_own = with_step c (set_at now.node me made.node) me own made (sent_count now.tape + 1) now.tape (plain_own (set_at now.node me made.node))

-- a drain goes on with the next message, or is over
pub drains_on : (c : Cluster) (h : Meanings) (now : Standing) (number most : ℕ) → next_delivery (up now) now.tape ≡ Some number
    → drained c h by_fuse now (suc most) ≡ drained c h by_fuse (after_event c h by_fuse now (Deliver number)) most
drains_on c h now number most is = ap (unless_none now (λ n. drained c h by_fuse (delivered c h by_fuse now n) most)) is

pub drains_no_more : (c : Cluster) (h : Meanings) (now : Standing) (most : ℕ) → next_delivery (up now) now.tape ≡ None → drained c h by_fuse now most ≡ now
drains_no_more c h now zero is = ap (unless_none now (λ n. marked now CutItem)) is
drains_no_more c h now (suc most) is = ap (unless_none now (λ n. drained c h by_fuse (delivered c h by_fuse now n) most)) is

pub drain_is_cut : (c : Cluster) (h : Meanings) (now : Standing) (number : ℕ) → next_delivery (up now) now.tape ≡ Some number → drained c h by_fuse now zero ≡ marked now CutItem
drain_is_cut c h now number is = ap (unless_none now (λ n. marked now CutItem)) is

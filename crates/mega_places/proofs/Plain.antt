-- Items come onto the tape one after another.
use Rattle.std.proofs.Common.{◌≡◌, ℕ, ◌+◌, List, [], ◌∷◌, ◌++◌, flat_map, refl, ap, ◌∙◌}
use Rattle.mega_cluster.specs.declared.cluster.Cluster.{Cluster}
use Rattle.mega_wire.specs.declared.message.Message.{Message}
use Rattle.mega_transcript.specs.declared.item.Item.{Item}
use Rattle.mega_transcript.specs.declared.item.Item.TheVariants.{Sent}
use Rattle.mega_transcript.specs.Tape.{onto}
use Rattle.mega_rules.specs.Operations.{Node}
use Rattle.mega_rules.specs.Steps.{Step}
use Rattle.mega_promises.specs.Items.{numbered, shown}
use Rattle.mega_promises.specs.Runs.{with_item, with_items}

pub with_append : (c : Cluster) (node : ℕ → Node) (xs ys tape : List Item) → with_items c node tape (xs ++ ys) ≡ with_items c node (with_items c node tape xs) ys
with_append c node [] ys tape = refl
with_append c node (x ∷ xs) ys tape = with_append c node xs ys (with_item c node tape x)

pub with_sent : (c : Cluster) (node : ℕ → Node) (n : ℕ) (ms : List Message) (tape : List Item) → with_items c node tape (numbered n ms) ≡ onto (numbered n ms) tape
with_sent c node n [] tape = refl
with_sent c node n (m ∷ ms) tape = with_sent c node (n + 1) ms (Sent n m ∷ tape)

-- what a step shows comes onto the tape in three pieces: its event's own items and its messages just so, and its notes judged one by one
pub with_step : (c : Cluster) (node : ℕ → Node) (me : ℕ) (own : List Item) (made : Step) (n : ℕ) (tape : List Item) → ((t : List Item) → with_items c node t own ≡ onto own t)
    → with_items c node tape ((own ++ flat_map (shown me) made.notes) ++ numbered n made.sends) ≡ onto (numbered n made.sends) (with_items c node (onto own tape) (flat_map (shown me) made.notes))
with_step c node me own made n tape plain_own =
    with_append c node (own ++ flat_map (shown me) made.notes) (numbered n made.sends) tape
    ∙ with_sent c node n made.sends (with_items c node tape (own ++ flat_map (shown me) made.notes))
    ∙ ap (onto (numbered n made.sends)) (with_append c node own (flat_map (shown me) made.notes) tape ∙ ap (λ t. with_items c node t (flat_map (shown me) made.notes)) (plain_own tape))

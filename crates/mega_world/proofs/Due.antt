-- An event that is due at a world: whether it may happen there, and how the world is ready to show it.
use Rattle.std.proofs.Common.{◌≡◌, ℕ, ◌++◌, ◌∷◌, [], List, Option, Some, sym, ap, ◌∙◌, subst}
use Rattle.mega_base.specs.declared.names.NodeId.{NodeId}
use Rattle.mega_base.specs.declared.names.OpId.{OpId}
use Rattle.mega_cluster.specs.declared.cluster.Cluster.{Cluster}
use Rattle.mega_places.specs.of_durable.of_core.Stepping.{IsPlacedAt}
use Rattle.mega_places.specs.of_durable.Standing.{MayHappen}
use Rattle.mega_places.specs.of_handler.Named.{Meaning, Meanings}
use Rattle.mega_places.specs.of_meanings.Means.{Means}
use Rattle.mega_places.specs.of_promises.of_schedule.declared.world_event.WorldEvent.TheVariants.{Deliver}
use Rattle.mega_places.specs.of_promises.of_transcript.declared.item.Item.{Item}
use Rattle.mega_places.specs.of_promises.of_transcript.declared.item.Item.TheVariants.{Begin as BeginItem, Tick as TickItem}
use Rattle.mega_wire.specs.declared.message.Message.{Message}
use Rattle.mega_format_laws.specs.Nodes.{IsStep}
use Rattle.mega_places.specs.of_voter.of_rules.Met.{Begins, Ticks}
use Rattle.mega_places.specs.of_voter.of_rules.Steps.{Begin, Event, Take, Tick, op_of, step}
use Rattle.mega_places.specs.of_promises.Items.{number, shown}
use Rattle.mega_places.specs.of_promises.Messages.{message_of}
use Rattle.mega_places.specs.of_promises.Runs.{Standing, setting}
use Rattle.mega_places.specs.declared.mail.Mail.{Mail}
use Rattle.mega_world.specs.declared.world.World.{World}
use Rattle.mega_places.specs.Carries.{Carries}
use Rattle.mega_world.specs.Formed.{IsSound, OwnsStep, OwnsTaken}
use Rattle.mega_places.proofs.Carrying.{shown_on}
use Rattle.mega_world.proofs.Happening.{IsReady}
use Rattle.mega_world.proofs.Holding.{journal_items}
use Rattle.mega_world.proofs.Placing.{placed}

placed_at : (c : Cluster) (h : Meanings) (now : Standing) (me : ℕ) (event : Event) → IsStep (step (setting c h me) (now.node me) event) → IsPlacedAt (setting c h me) (now.node me) event
placed_at c h now me (Take message) formed = placed (setting c h me) (now.node me) message formed.notes
placed_at c h now me (Tick clock) formed = tt
placed_at c h now me (Begin request text) formed = tt

pub may_happen : {makes : List ℕ → Option Meaning} (c : Cluster) (h : Meanings) (now : Standing) (me : ℕ) (event : Event) → IsStep (step (setting c h me) (now.node me) event) → OwnsStep c h now me event → Means makes h → MayHappen makes (setting c h me) (now.node me) event
may_happen c h now me event formed own means = record {
  means = means;
  owned = own;
  placed = placed_at c h now me event formed;
  formed = journal_items (step (setting c h me) (now.node me) event).node.met formed.node.met;
}

pub take_owns : {makes : List ℕ → Option Meaning} (c : Cluster) (h : Meanings) (now : Standing) (n : ℕ) (message : Message) → IsSound makes c h now (Deliver n) → message_of now.tape n ≡ Some message → OwnsStep c h now message.to (Take message)
take_owns c h now n message sound is = subst (OwnsTaken c h now) is sound.own

pub tick_ready : (now : Standing) (me clock : ℕ) (old mid : World) (items here : List Item) → Carries old.mail now.tape → here ≡ items ++ TickItem (number me) clock ∷ [] → mid.cluster ≡ old.cluster → mid.mail ≡ old.mail → mid.safety ≡ old.safety
    → IsReady now (TickItem (number me) clock ∷ []) old mid items here
tick_ready now me clock old mid items here carries is cluster mail safety = record {
  added = is;
  cluster = cluster;
  carries = subst (λ (m : Mail). Carries m (TickItem (number me) clock ∷ now.tape)) (sym mail) (shown_on old.mail me (Ticks clock) now.tape carries);
  safety = safety;
}

pub begin_ready : (c : Cluster) (h : Meanings) (now : Standing) (node : NodeId) (text : List ℕ) (op : OpId) (old mid : World) (items here : List Item) → Carries old.mail now.tape
    → op ≡ op_of (setting c h node.0) (now.node node.0).met → here ≡ items ++ BeginItem op text ∷ [] → mid.cluster ≡ old.cluster → mid.mail ≡ old.mail → mid.safety ≡ old.safety
    → IsReady now (shown node.0 (Begins (op_of (setting c h node.0) (now.node node.0).met) text)) old mid items here
begin_ready c h now node text op old mid items here carries named is cluster mail safety = record {
  added = is ∙ ap (λ (one : OpId). items ++ BeginItem one text ∷ []) named;
  cluster = cluster;
  carries = subst (λ (m : Mail). Carries m (BeginItem (op_of (setting c h node.0) (now.node node.0).met) text ∷ now.tape)) (sym mail)
      (shown_on old.mail 0 (Begins (op_of (setting c h node.0) (now.node node.0).met) text) now.tape carries);
  safety = safety;
}

-- What a replay met, owes and sent is of the format, behind each event and behind each delivery of a drain.
use Rattle.std.proofs.Common.{◌≡◌, ℕ, false, not, List, [], ◌∷◌, Option, Some, None, refl, sym, subst}
use Rattle.std.proofs.lemmas.Bool.{not-false}
use Rattle.std.specs.List.{All}
use Rattle.mega_cluster.specs.declared.cluster.Cluster.{Cluster}
use Rattle.mega_field_ranges.specs.Held.{HoldsItem}
use Rattle.mega_line_laws.specs.Clusters.{CanStart}
use Rattle.mega_meanings.specs.BuiltIn.{built_in}
use Rattle.mega_plain_laws.proofs.Events.{run_reached}
use Rattle.mega_plain_laws.proofs.Forming.{Formed, at_formed}
use Rattle.mega_plain_laws.proofs.Showing.{IsNote, message_formed}
use Rattle.mega_rules.specs.Steps.{Take}
use Rattle.mega_schedule.specs.declared.world_event.WorldEvent.TheVariants.{Deliver}
use Rattle.mega_shown_laws.proofs.of_format_laws.Each.{each_of_all, each_weaker}
use Rattle.mega_shown_laws.proofs.of_run_laws.Runs.{not_because}
use Rattle.mega_shown_laws.specs.of_format_laws.Histories.{IsCluster, IsItem}
use Rattle.mega_shown_laws.specs.of_format_laws.Rounds.{Each}
use Rattle.mega_shown_laws.specs.of_promises.Messages.{is_dropped, message_of}
use Rattle.mega_shown_laws.specs.of_promises.Runs.{Happening, Standing, by_fuse, delivered, goes_on, handed, opening, receiver_down, refusal, up}
use Rattle.mega_transcript.specs.declared.item.Item.TheVariants.{Taken}
use Rattle.mega_transcript.specs.Tape.{is_sent}
use Rattle.mega_wire.specs.declared.message.Message.{Message}
use Rattle.mega_world.specs.Formed.{IsFormed}
use Rattle.mega_line_events.specs.Running.{AllHappen, in_turn, stood}
use Rattle.mega_line_events.proofs.Declared.{is_cluster}
use Rattle.mega_line_events.proofs.Plain.{built_formed, formed_turned}

-- the run over events, the newest first, is that over the events in order
pub turned : (c : Cluster) (events rest : List Happening) → goes_on c by_fuse (opening c built_in) (in_turn events rest) ≡ goes_on c by_fuse (stood c events) rest
turned c [] rest = refl
turned c (one ∷ events) rest = turned c events (one ∷ rest)

-- behind each event
pub reached : (c : Cluster) (lines : List (List ℕ)) (events : List Happening) → CanStart c → AllHappen c lines events → All HoldsItem (stood c events).tape → Formed c (stood c events)
reached c lines events can happen held =
    subst (Formed c) (turned c events [])
    (run_reached c built_in (in_turn events []) by_fuse (is_cluster c can) (formed_turned c lines events [] happen tt)
    (subst (λ (now : Standing). Each HoldsItem now.tape) (sym (turned c events [])) (each_of_all HoldsItem (stood c events).tape held)))

-- behind each delivery
pub delivered_formed : (c : Cluster) (now : Standing) (number : ℕ) → IsCluster c → refusal c now (Deliver number) ≡ None → Formed c now → Formed c (delivered c built_in by_fuse now number)
delivered_formed c now number cluster allowed formed =
    let kept = (not_because (not (is_sent now.tape number)) 3 _ allowed).1 in
    let receives = (not_because (is_dropped now.tape number) 4 _ kept).1 in
    by (message_of now.tape number) refl (not_because (receiver_down now (message_of now.tape number)) 1 None receives).0
  where
    by : (found : Option Message) → message_of now.tape number ≡ found → receiver_down now found ≡ false → Formed c (handed c built_in by_fuse now number found)
    by None is receives = formed
    by (Some message) is receives =
        at_formed c built_in now message.to (Taken number ∷ []) (Take message) (by_fuse now message.to) cluster built_formed formed
        (formed.members message.to (not-false (up now message.to) receives)) (message_formed c.schema now.tape number message formed.items is) (tt, tt)

-- what the world asks of it
pub formed_now : (c : Cluster) (now : Standing) → Formed c now → IsFormed now
formed_now c now formed = record {
  nodes = formed.nodes;
  owed = λ me. each_weaker (IsNote c.schema) IsItem (λ one is. is.0) (now.owed me) (formed.owed me);
  messages = λ number message is. message_formed c.schema now.tape number message formed.items is;
}

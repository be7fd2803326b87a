use Rattle.std.proofs.Common.{◌∙◌, ◌∷◌, Bool, cond, List, None, ap, map, refl, subst}
use Rattle.mega_cluster.specs.declared.cluster.Cluster.{Cluster}
use Rattle.mega_rules.specs.Members.{is_voter}
use Rattle.mega_rules.specs.Met.{Met, Takes}
use Rattle.mega_rules.specs.Replies.{reply_message}
use Rattle.mega_rules.specs.Steps.{onto}
use Rattle.mega_step_parts.specs.of_leases.declared.note.LeaseNote.{LeaseNote}
use Rattle.mega_step_parts.specs.of_leases.Notes.{met_of}
use Rattle.mega_actions.specs.of_step_work.Settings.{setting}
use Rattle.mega_step_parts.specs.Staging.{Stages}
use Rattle.mega_step_parts.specs.Replying.{or_reply, vote_reply}
use Rattle.mega_step_parts.proofs.Staged.{silent_staged}
use Rattle.mega_node_events.proofs.Replied.{replied}
use Rattle.mega_node_events.proofs.telling.is_told.Goals as goal

pub returns-in_ok-made-in-Ok-keep_notes-clause-sends : goal.returns-in_ok-made-in-Ok-keep_notes-clause-sends
returns-in_ok-made-in-Ok-keep_notes-clause-sends g c = λ met tells leased.
    let r = c.args.replica.now in
    let m = c.args.message.now in
    let votes = c.is_voter-votes.ensures ∙ ap (λ (one : Cluster). is_voter one r.me) c.cluster.ensures in
    let mine = c.in_ok-mine.ensures met tells ∙ ap (λ (t : Bool). cond t (vote_reply met m.body) None) votes in
    let told = c.in-Ok.ensures.reply r.members r.me met leased in
    c.in_ok-made-in-Ok-keep_notes.ensures.sends ∙ ap (reply_message r.me m.from) ((λ i. or_reply (mine i) (told i)) ∙ replied r.members r.me met m.from m.body)

pub returns-in_ok-made-in-Ok-keep_notes-clause-staged : goal.returns-in_ok-made-in-Ok-keep_notes-clause-staged
returns-in_ok-made-in-Ok-keep_notes-clause-staged g c = λ h before met leased stages.
    let r = c.args.replica.now in
    let m = c.args.message.now in
    subst (λ (notes : List Met). Stages c.keep_notes.new.voter.logs.staged.items before (onto notes (Takes m ∷ met))) (ap (λ (notes : List LeaseNote). map met_of notes) c.as_slice.ensures ∙ c.in-Ok.ensures.notes (setting r.members r.me h) met leased)
    (c.in-Ok-keep_notes.ensures.staged before (Takes m ∷ met) (silent_staged r.voter.logs.staged.items before met (Takes m) refl stages))

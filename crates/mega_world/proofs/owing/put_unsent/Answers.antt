use Rattle.std.proofs.Common.{◌++◌, ◌∷◌, ◌∙◌, [], ap, append_assoc, sym, flat_map, map}
use Rattle.mega_places.specs.of_promises.of_transcript.declared.item.Item.TheVariants.{Unsent}
use Rattle.mega_places.specs.of_voter.of_rules.Met.{Unsends}
use Rattle.mega_places.specs.of_promises.Items.{number, shown}
use Rattle.mega_world.proofs.Showed.{unsent_last}
use Rattle.mega_world.proofs.owing.put_unsent.Goals as goal

pub loop-message-preserved : goal.loop-message-preserved
loop-message-preserved c =
    let me = c.args.me in
    let items = c.args.tape.now.items in
    c.in_ok-push.ensures.ok
    ∙ ap (λ t. t ++ Unsent (number me) c.in-Some.message ∷ []) c.loop-message.invariant
    ∙ append_assoc items (flat_map (shown me) (map Unsends c.loop-message.yielded)) (Unsent (number me) c.in-Some.message ∷ [])
    ∙ ap (λ t. items ++ t) (sym (unsent_last me c.loop-message.yielded c.in-Some.message))

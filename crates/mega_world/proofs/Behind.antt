-- What comes behind the items in hand comes behind all of the tape.
use Rattle.std.proofs.Common.{◌≡◌, cond, Bool, true, false, List, [], ◌∷◌, ◌++◌, ap, ◌∙◌, sym, refl, append_assoc, append-nil}
use Rattle.mega_cluster.specs.declared.cluster.Cluster.{Cluster}
use Rattle.mega_places.specs.of_promises.of_transcript.declared.item.Item.{Item}
use Rattle.mega_places.specs.of_promises.of_transcript.Tape.{newest, onto}
use Rattle.mega_places.proofs.of_transcript.Tapes.{newest-append, onto-append}
use Rattle.mega_places.specs.of_promises.Runs.{Standing}
use Rattle.mega_world.specs.declared.world.World.{World}
use Rattle.mega_world.specs.AtRun.{IsAt, StandsWith}

pub behind : (earlier hand own after : List Item) → after ≡ hand ++ own → earlier ++ after ≡ (earlier ++ hand) ++ own
behind earlier hand own after is = ap (λ (items : List Item). earlier ++ items) is ∙ sym (append_assoc earlier hand own)

pub behind_where : (earlier hand own after : List Item) (first : Bool) → after ≡ cond first (hand ++ own) hand → earlier ++ after ≡ cond first ((earlier ++ hand) ++ own) (earlier ++ hand)
behind_where earlier hand own after true is = behind earlier hand own after is
behind_where earlier hand own after false is = ap (λ (items : List Item). earlier ++ items) is

-- a tape read from its newest item on, and once more, is as it was
onto_front : (xs tape : List Item) → onto xs tape ≡ newest xs ++ tape
onto_front [] tape = refl
onto_front (x ∷ xs) tape = onto_front xs (x ∷ tape) ∙ sym (append_assoc (newest xs) (x ∷ []) tape) ∙ ap (λ (items : List Item). items ++ tape) (sym (onto_front xs (x ∷ [])))

newest_twice : (xs : List Item) → newest (newest xs) ≡ xs
newest_twice [] = refl
newest_twice (x ∷ xs) = ap newest (onto_front xs (x ∷ [])) ∙ newest-append (newest xs) x ∙ ap (λ (items : List Item). x ∷ items) (newest_twice xs)

-- a world that stands with the items of a tape stands with those of the run's
pub with_others : (c : Cluster) (world : World) (items others : List Item) (now : Standing) → newest others ≡ now.tape → StandsWith c world items now → StandsWith c world others now
with_others c world items others now is r =
    record { cluster = r.cluster; served = r.served; nodes = r.nodes; mail = r.mail; tape = is; leases = r.leases }

pub at_is : (c : Cluster) (world : World) (items : List Item) (now : Standing) → StandsWith c world items now → IsAt c world now
at_is c world items now r = with_others c world items (newest now.tape) now (newest_twice now.tape) r

-- with no items in hand
pub none_in_hand : (c : Cluster) (world : World) (hand : List Item) (now : Standing) → hand ≡ [] → IsAt c world now → StandsWith c world (newest now.tape ++ hand) now
none_in_hand c world hand now none r =
    with_others c world (newest now.tape) (newest now.tape ++ hand) now (ap (λ (items : List Item). newest (newest now.tape ++ items)) none ∙ ap newest (append-nil (newest now.tape)) ∙ newest_twice now.tape) r

-- what came into the hand is what was added
pub added_is : (before hand after : List Item) → newest (newest before ++ hand) ≡ after → after ≡ onto hand before
added_is before hand after is = sym is ∙ onto-append (newest before) hand [] ∙ ap (onto hand) (newest_twice before)

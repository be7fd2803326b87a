use Rattle.std.proofs.Common.{[], ◌∷◌, ◌++◌, subst, sym}
use Rattle.mega_places.specs.of_promises.of_transcript.declared.item.Item.TheVariants.{Unsafe}
use Rattle.mega_places.specs.of_durable.of_core.of_step_parts.Notes.{met_of}
use Rattle.mega_safety.specs.Lapses.{AreLapsesOf}
use Rattle.mega_world.proofs.Behind.{behind, behind_where}
use Rattle.mega_places.proofs.Breaking.{put_lines, put_tape, put_told}
use Rattle.mega_world.proofs.showing.put.Goals as goal

pub returns-clause-tape : goal.returns-clause-tape
returns-clause-tape c cluster ruled earlier up knows =
    let item = c.item_of-item.result in
    let first = c.breaks_first-is_first.result in
    put_tape cluster ruled (earlier ++ c.args.tape.now.items) (earlier ++ c.push.new.self) (earlier ++ c.tell.new.tape.items) c.args.me (met_of c.args.note) c.item_of-item.result c.breaks_first-is_first.result c.args.safety.now.is_told knows.told
    (c.breaks_first-is_first.ensures cluster ruled up knows.lapses) c.item_of-item.ensures (behind earlier c.args.tape.now.items (item ∷ []) c.push.new.self c.in_ok-push.ensures.ok)
    (behind_where earlier c.push.new.self (Unsafe ∷ []) c.tell.new.tape.items first c.in_ok-tell.ensures.tape)

pub returns-clause-leases : goal.returns-clause-leases
returns-clause-leases c cluster ruled earlier up knows = record {
  lapses = subst (λ lapses. AreLapsesOf lapses (λ me. (ruled me).met)) (sym c.tell.ensures.lapses) knows.lapses;
  told = put_told (earlier ++ c.args.tape.now.items) (earlier ++ c.push.new.self) (earlier ++ c.tell.new.tape.items) c.args.me (met_of c.args.note) c.item_of-item.result c.breaks_first-is_first.result c.args.safety.now.is_told c.tell.new.safety.is_told knows.told
      c.item_of-item.ensures (behind earlier c.args.tape.now.items (c.item_of-item.result ∷ []) c.push.new.self c.in_ok-push.ensures.ok)
      (behind_where earlier c.push.new.self (Unsafe ∷ []) c.tell.new.tape.items c.breaks_first-is_first.result c.in_ok-tell.ensures.tape) c.in_ok-tell.ensures.told;
}

pub returns-clause-lines : goal.returns-clause-lines
returns-clause-lines c lined has =
    put_lines c.args.tape.now.items c.push.new.self c.tell.new.tape.items c.args.me (met_of c.args.note) c.item_of-item.result c.breaks_first-is_first.result c.item_of-item.ensures c.in_ok-push.ensures.ok c.in_ok-tell.ensures.tape lined has

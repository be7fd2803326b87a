use Rattle.std.proofs.Common.{◌∷◌, ◌++◌, ◌∙◌, [], List, ap, map, subst}
use Rattle.std.specs.List.{flat_map}
use Rattle.mega_transcript.specs.declared.item.Item.{Item}
use Rattle.mega_promises.specs.Served.{Line, Noted}
use Rattle.mega_page.specs.Pages.{IsPage}
use Rattle.mega_page.proofs.Gathering.{each_on, next_lines, noted_on, taken_whole}
use Rattle.mega_serve.specs.Replies.{item_reply, put_reply, waiting_of}
use Rattle.mega_serve.proofs.replying.note_all.Goals as goal

pub loop-item-preserved : goal.loop-item-preserved
loop-item-preserved c = record {
  lines = λ lines page.
      subst (IsPage c.args.schema.now c.note.new.page) (next_lines (map Noted) (λ (item : Item). Noted item ∷ []) noted_on c.args.items.now c.loop-item.item-index c.item-item.result c.loop-item-test.true c.item-item.is lines)
      (c.in_ok-note.ensures.lines _ (c.loop-item.invariant.lines lines page));
  replies = λ me.
      let each = item_reply c.args.schema.now me (map waiting_of c.args.waiting.now) in
      let before = map (put_reply me) c.args.replies.now.items in
      c.in_ok-note.ensures.replies me ∙ ap (λ (xs : List Line). xs ++ each c.item-item.result) (c.loop-item.invariant.replies me)
      ∙ next_lines (flat_map each) each (each_on each) c.args.items.now c.loop-item.item-index c.item-item.result c.loop-item-test.true c.item-item.is before;
}

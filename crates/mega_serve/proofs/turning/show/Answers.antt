use Rattle.std.proofs.Common.{◌∷◌, ◌++◌, ◌∙◌, List, ap, map, subst}
use Rattle.std.specs.List.{flat_map}
use Rattle.mega_promises.specs.Served.{Line, Noted, put_out}
use Rattle.mega_page.specs.Pages.{IsPage}
use Rattle.mega_serve.specs.Replies.{item_reply, put_reply, waiting_of}
use Rattle.mega_serve.proofs.turning.show.Goals as goal

pub returns : goal.returns
returns c = λ lines page.
    let me = c.args.me in
    let each = item_reply c.args.schema.now me (map waiting_of c.args.waiting.now) in
    let noted = coe 0 1 (i. IsPage c.args.schema.now c.note_all.new.page (lines ++ map Noted (c.as_slice.ensures i))) (c.in_ok-note_all.ensures.lines lines page) in
    let put = coe 0 1 (i. IsPage c.args.schema.now c.put_all.new.self ((lines ++ map Noted c.args.made.now.items) ++ put_out (c.as_slice-2.ensures i))) (c.in_ok-put_all.ensures c.args.schema.now _ noted) in
    let replies = c.in_ok-note_all.ensures.replies me ∙ (λ i. map (put_reply me) (c.new-replies.ensures.items i) ++ flat_map each (c.as_slice.ensures i)) in
    subst (λ (more : List Line). IsPage c.args.schema.now c.reply_all.new.page (((lines ++ map Noted c.args.made.now.items) ++ put_out c.args.made.now.sends) ++ more)) replies
    (c.in_ok-reply_all.ensures c.args.schema.now _ put)

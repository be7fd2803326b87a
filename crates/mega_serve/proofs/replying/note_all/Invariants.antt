use Rattle.std.proofs.Common.{◌≡◌, ℕ, List, ◌++◌, map, take}
use Rattle.std.specs.List.{flat_map}
use Rattle.mega_promises.specs.Served.{Line, Noted}
use Rattle.mega_page.specs.Pages.{IsPage}
use Rattle.mega_serve.specs.Replies.{item_reply, put_reply, waiting_of}
use Rattle.mega_serve.proofs.replying.note_all.Given as goal

abbrev pub invariant-loop-item : goal.invariant-loop-item
invariant-loop-item l = record {
  lines : (lines : List Line) → IsPage l.fn.schema l.fn.page lines → IsPage l.fn.schema l.page (lines ++ map Noted (take l.item-index l.items));
  replies : (me : ℕ) → map (put_reply me) l.replies.items ≡ map (put_reply me) l.fn.replies.items ++ flat_map (item_reply l.fn.schema me (map waiting_of l.fn.waiting)) (take l.item-index l.items);
}

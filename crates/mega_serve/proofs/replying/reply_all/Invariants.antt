use Rattle.std.proofs.Common.{◌≡◌, ◌++◌, List, length, map}
use Rattle.std.specs.Vec.Iter.{into_iter_items, into_iter_len}
use Rattle.mega_schema.specs.declared.schema.Schema.{Schema}
use Rattle.mega_promises.specs.Served.{Line}
use Rattle.mega_page.specs.Pages.{IsPage}
use Rattle.mega_serve.specs.Replies.{put_reply}
use Rattle.mega_serve.proofs.replying.reply_all.Given as goal

abbrev pub invariant-loop-one : goal.invariant-loop-one
invariant-loop-one l = record {
  count : into_iter_len l.one-iterator ≡ length (into_iter_items l.one-iterator);
  given : (schema : Schema) (lines : List Line) → IsPage schema l.initial.page lines
      → (done : List Line) × ((done ++ map (put_reply l.fn.me) (into_iter_items l.one-iterator) ≡ lines ++ map (put_reply l.fn.me) (into_iter_items l.initial.one-iterator)) × IsPage schema l.page done);
}

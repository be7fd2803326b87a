use Rattle.std.proofs.Common.{sym, ◌∙◌, ap, arith}
use Rattle.mega_areas.specs.Pages.{pages_in}
use Rattle.mega_checkpoint.specs.Format.{list_of}
use Rattle.mega_checkpoint.proofs.Fronts.{list_counts, pages_whole}
use Rattle.mega_checkpoint.proofs.reopening.open_area.Goals as goal

pub returns-clause-records : goal.returns-clause-records
returns-clause-records g c told = c.in_ok-read.ensures.records ∙ sym (list_counts c.args.area c.args.bytes.now c.requires.areas c.requires.counts) ∙ ap list_of (c.requires.bytes told)

pub returns-clause-room : goal.returns-clause-room
returns-clause-room g c = let pages = ap pages_in c.requires.size ∙ pages_whole c.args.pages in let inside = c.in_ok-read.ensures.inside in omega (arith, pages, inside)

pub shut_area-requires-clause-inside : goal.shut_area-requires-clause-inside
shut_area-requires-clause-inside g c = let pages = ap pages_in c.requires.size ∙ pages_whole c.args.pages in let inside = c.in_ok-read.ensures.inside in omega (arith, pages, inside)

use Rattle.std.proofs.Common.{rules, ◌≡◌, ℕ, ◌+◌, ◌*◌, List, ◌++◌, ◌∙◌, ap}
use Rattle.std.specs.Prelude.{slice_range}
use Rattle.mega_areas.specs.Pages.{space}
use Rattle.mega_checkpoint.proofs.Joined.{joined_more}
use Rattle.mega_checkpoint.proofs.reading.space.Goals as goal

pub loop-page-preserved : goal.loop-page-preserved
loop-page-preserved c =
    let i = c.loop-page.invariant in
    let at = 4096 * (2 * c.loop-page.page + c.first_page.result) in
    let piece = slice_range c.args.bytes.now at (at + 4096) in
    let grown : c.extend_from_slice.new.self.items ≡ c.loop-page.joined.items ++ piece = search rules in
    record {
      within = search rules;
      so_far = grown ∙ ap (λ (l : List ℕ). l ++ piece) i.so_far ∙ joined_more c.args.area c.args.bytes.now c.loop-page.page at (ap (λ (k : ℕ). 4096 * (2 * c.loop-page.page + k)) c.first_page.ensures) (search rules);
    }

pub returns : goal.returns
unfolding space
returns c = search rules

use Rattle.std.proofs.Common.{rules, ◌≡◌, List, [], ℕ, true, false, sym, ◌∙◌, ap}
use Rattle.mega_disk.proofs.Leaves.{weaker_leaves}
use Rattle.mega_areas.specs.Pages.{counts, is_areas}
use Rattle.mega_checkpoint.specs.Format.{list_of}
use Rattle.mega_areas.specs.declared.area.Area.TheVariants.{Odd, Even}
use Rattle.mega_checkpoint.proofs.Fronts.{list_idle, neither}
use Rattle.mega_checkpoint.proofs.reopening.open_whole.Goals as goal

-- where neither area counts there is no record
no_record : (bytes file : List ℕ) → bytes ≡ file → is_areas bytes ≡ true → counts Odd bytes ≡ false → counts Even bytes ≡ false → list_of file ≡ []
no_record bytes file is form odd even = let shut = neither bytes odd even in ap list_of (sym is) ∙ list_idle bytes form shut.0 shut.1

pub returns-in_err-areas-clause-any_moment : goal.returns-in_err-areas-clause-any_moment
returns-in_err-areas-clause-any_moment g c told =
    let file = g.D.Disk.seen c.args.disk.now in
    let none = no_record c.args.bytes.now file (c.requires.bytes told) c.requires.areas (sym c.counts.ensures ∙ c.if-counts.false) (sym c.counts-2.ensures ∙ c.if-counts-2.false) in
    weaker_leaves g.D.Disk.moment g.D.Disk.left_since c.args.disk.now c.begin.new.disk _ _ (c.begin.ensures.any_moment told) (λ image empty. empty ∙ sym none)

pub returns-clause-records : goal.returns-clause-records
returns-clause-records g c told =
    let file = g.D.Disk.seen c.args.disk.now in
    let none = no_record c.args.bytes.now file (c.requires.bytes told) c.requires.areas (sym c.counts.ensures ∙ c.if-counts.false) (sym c.counts-2.ensures ∙ c.if-counts-2.false) in
    let empty : c.new-records.result.items ≡ [] = search rules in
    empty ∙ sym none

pub returns-clause-same : goal.returns-clause-same
returns-clause-same g c told =
    let file = g.D.Disk.seen c.args.disk.now in
    c.in_ok-areas.ensures.empty told
    ∙ sym (no_record c.args.bytes.now file (c.requires.bytes told) c.requires.areas (sym c.counts.ensures ∙ c.if-counts.false) (sym c.counts-2.ensures ∙ c.if-counts-2.false))

pub returns-clause-any_moment : goal.returns-clause-any_moment
returns-clause-any_moment g c told =
    let file = g.D.Disk.seen c.args.disk.now in
    let none = no_record c.args.bytes.now file (c.requires.bytes told) c.requires.areas (sym c.counts.ensures ∙ c.if-counts.false) (sym c.counts-2.ensures ∙ c.if-counts-2.false) in
    weaker_leaves g.D.Disk.moment g.D.Disk.left_since c.args.disk.now c.begin.new.disk _ _ (c.begin.ensures.any_moment told) (λ image empty. empty ∙ sym none)

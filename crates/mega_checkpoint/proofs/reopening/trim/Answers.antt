use Rattle.std.proofs.Common.{◌≡◌, ℕ, List, true, length, ◌∙◌, ap, subst}
use Rattle.mega_disk.specs.Images.{Cut}
use Rattle.mega_disk.proofs.Leaves.{started, goes_on}
use Rattle.mega_areas.specs.Pages.{is_areas, length_of_pages, pages_in}
use Rattle.mega_checkpoint.specs.Format.{list_of}
use Rattle.mega_checkpoint.proofs.Trimmed.{cut_list}
use Rattle.mega_checkpoint.proofs.reopening.trim.Goals as goal

pub returns-in_err-cut-clause-any_moment : goal.returns-in_err-cut-clause-any_moment
returns-in_err-cut-clause-any_moment g c told =
    let disk = c.args.disk.now in
    let file = g.D.Disk.seen disk in
    let P : List ℕ → Type 0 = λ image. list_of image ≡ list_of file in
    let whole : c.length_of_pages-whole.result ≡ length_of_pages (pages_in (length file)) = c.length_of_pages-whole.ensures ∙ ap length_of_pages (c.requires.pages ∙ ap (λ (f : List ℕ). pages_in (length f)) (c.requires.bytes told)) in
    let form = subst (λ (f : List ℕ). is_areas f ≡ true) (c.requires.bytes told) c.requires.areas in
    let begun = started g.D.Disk.moment g.D.Disk.left_since disk P (λ image since. ap list_of (c.requires.durable told image (g.met.D.Disk.only_now disk image since))) in
    goes_on g.D.Disk.moment g.D.Disk.left_since disk disk c.cut.new.self P _ begun c.cut.ensures.time
    (λ image now. let from = c.cut.ensures.crash image now in
    cut_list file image form (subst (λ (n : ℕ). Cut n file image) whole (subst (λ (old : List ℕ). Cut c.length_of_pages-whole.result old image) (c.requires.durable told from.0 from.1) from.2)))

pub returns-clause-any_moment : goal.returns-clause-any_moment
returns-clause-any_moment g c told =
    let disk = c.args.disk.now in
    let file = g.D.Disk.seen disk in
    let P : List ℕ → Type 0 = λ image. list_of image ≡ list_of file in
    let whole : c.length_of_pages-whole.result ≡ length_of_pages (pages_in (length file)) = c.length_of_pages-whole.ensures ∙ ap length_of_pages (c.requires.pages ∙ ap (λ (f : List ℕ). pages_in (length f)) (c.requires.bytes told)) in
    let form = subst (λ (f : List ℕ). is_areas f ≡ true) (c.requires.bytes told) c.requires.areas in
    let begun = started g.D.Disk.moment g.D.Disk.left_since disk P (λ image since. ap list_of (c.requires.durable told image (g.met.D.Disk.only_now disk image since))) in
    let after : (image : List ℕ) → g.D.Disk.may_leave c.cut.new.self image → P image = λ image now.
    let from = c.cut.ensures.crash image now in
    cut_list file image form (subst (λ (n : ℕ). Cut n file image) whole (subst (λ (old : List ℕ). Cut c.length_of_pages-whole.result old image) (c.requires.durable told from.0 from.1) from.2)) in
    let cut = goes_on g.D.Disk.moment g.D.Disk.left_since disk disk c.cut.new.self P _ begun c.cut.ensures.time after in
    goes_on g.D.Disk.moment g.D.Disk.left_since disk c.cut.new.self c.sync.new.self P _ cut c.sync.ensures.time (λ image now. after image (c.sync.ensures.crash image now))

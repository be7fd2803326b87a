use Rattle.std.proofs.Common.{◌≡◌, List, ℕ, true, length, take, ◌∙◌, ap, subst}
use Rattle.mega_disk.proofs.Leaves.{then_leaves}
use Rattle.mega_areas.specs.Pages.{is_areas, length_of_pages, pages_in}
use Rattle.mega_checkpoint.specs.Format.{list_of}
use Rattle.mega_checkpoint.proofs.Trimmed.{whole_list}
use Rattle.mega_checkpoint.proofs.reopening.open_areas.Goals as goal

-- the whole pages of a file hold its list
trimmed : (bytes file mid : List ℕ) (pages : ℕ) → is_areas bytes ≡ true → bytes ≡ file → pages ≡ pages_in (length bytes) → mid ≡ take (length_of_pages pages) file → list_of mid ≡ list_of file
trimmed bytes file mid pages form is count cut =
    let e : length_of_pages pages ≡ length_of_pages (pages_in (length file)) = ap length_of_pages (count ∙ ap (λ (f : List ℕ). pages_in (length f)) is) in
    ap list_of (cut ∙ ap (λ (n : ℕ). take n file) e) ∙ (whole_list file (subst (λ (f : List ℕ). is_areas f ≡ true) is form)).0

pub returns-in_err-found-clause-any_moment : goal.returns-in_err-found-clause-any_moment
returns-in_err-found-clause-any_moment g c told =
    let file = g.D.Disk.seen c.args.disk.now in
    let mid = g.D.Disk.seen c.trim.new.disk in
    let same = trimmed c.args.bytes.now file mid c.pages_in-pages.result c.requires.areas (c.requires.bytes told) c.pages_in-pages.ensures.pages (c.in_ok-trim.ensures.seen told) in
    then_leaves g.D.Disk.moment g.D.Disk.left_since c.args.disk.now c.trim.new.disk c.open_whole.new.disk _ _ (λ image. list_of image ≡ list_of file) (c.trim.ensures.any_moment told) (c.open_whole.ensures.any_moment told)
    (λ image p. p) (λ image p. p ∙ same)

pub returns-in_err-areas-clause-any_moment : goal.returns-in_err-areas-clause-any_moment
returns-in_err-areas-clause-any_moment g c told =
    let file = g.D.Disk.seen c.args.disk.now in
    let mid = g.D.Disk.seen c.trim.new.disk in
    let same = trimmed c.args.bytes.now file mid c.pages_in-pages.result c.requires.areas (c.requires.bytes told) c.pages_in-pages.ensures.pages (c.in_ok-trim.ensures.seen told) in
    let P : List ℕ → Type 0 = λ image. list_of image ≡ list_of file in
    let read = then_leaves g.D.Disk.moment g.D.Disk.left_since c.args.disk.now c.trim.new.disk c.open_whole.new.disk _ _ P (c.trim.ensures.any_moment told) (c.open_whole.ensures.any_moment told)
    (λ image p. p) (λ image p. p ∙ same) in
    then_leaves g.D.Disk.moment g.D.Disk.left_since c.args.disk.now c.open_whole.new.disk c.lengthen.new.disk _ _ P read (c.lengthen.ensures.any_moment told)
    (λ image p. p) (λ image p. p ∙ (c.in_ok-found.ensures.same told ∙ same))

pub returns-clause-records : goal.returns-clause-records
returns-clause-records g c told =
    c.in_ok-found.ensures.records told
    ∙ trimmed c.args.bytes.now (g.D.Disk.seen c.args.disk.now) (g.D.Disk.seen c.trim.new.disk) c.pages_in-pages.result c.requires.areas (c.requires.bytes told) c.pages_in-pages.ensures.pages (c.in_ok-trim.ensures.seen told)

pub returns-clause-same : goal.returns-clause-same
returns-clause-same g c told =
    c.in_ok-areas.ensures.same told
    ∙ (c.in_ok-found.ensures.same told
    ∙ trimmed c.args.bytes.now (g.D.Disk.seen c.args.disk.now) (g.D.Disk.seen c.trim.new.disk) c.pages_in-pages.result c.requires.areas (c.requires.bytes told) c.pages_in-pages.ensures.pages (c.in_ok-trim.ensures.seen told))

pub returns-clause-any_moment : goal.returns-clause-any_moment
returns-clause-any_moment g c told =
    let file = g.D.Disk.seen c.args.disk.now in
    let mid = g.D.Disk.seen c.trim.new.disk in
    let same = trimmed c.args.bytes.now file mid c.pages_in-pages.result c.requires.areas (c.requires.bytes told) c.pages_in-pages.ensures.pages (c.in_ok-trim.ensures.seen told) in
    let P : List ℕ → Type 0 = λ image. list_of image ≡ list_of file in
    let read = then_leaves g.D.Disk.moment g.D.Disk.left_since c.args.disk.now c.trim.new.disk c.open_whole.new.disk _ _ P (c.trim.ensures.any_moment told) (c.open_whole.ensures.any_moment told)
    (λ image p. p) (λ image p. p ∙ same) in
    then_leaves g.D.Disk.moment g.D.Disk.left_since c.args.disk.now c.open_whole.new.disk c.lengthen.new.disk _ _ P read (c.lengthen.ensures.any_moment told)
    (λ image p. p) (λ image p. p ∙ (c.in_ok-found.ensures.same told ∙ same))

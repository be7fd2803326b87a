use Rattle.std.proofs.Common.{◌≡◌, ◌<◌, ◌≤◌, length-take-le, ℕ, List, [], false, length, get_or, sym, ◌∙◌, ap, subst}
use Rattle.std.proofs.lemmas.Result.{on_ok_weaker}
use Rattle.mega_disk.specs.Images.{Cut, Only}
use Rattle.mega_disk.proofs.Leaves.{started, goes_on, then_leaves}
use Rattle.mega_disk.proofs.Steps.{cut_same}
use Rattle.mega_disk.proofs.Outcomes.{both_ok}
use Rattle.mega_areas.specs.Pages.{is_areas}
use Rattle.mega_checkpoint.specs.Format.{list_of}
use Rattle.mega_checkpoint.proofs.Plain.{cut_none}
use Rattle.mega_checkpoint.proofs.Fresh.{cleared_list, cleared_held, torn_few}
use Rattle.mega_checkpoint.proofs.chain.clear.Goals as goal

pub returns-in_err-cut-clause-any_moment : goal.returns-in_err-cut-clause-any_moment
returns-in_err-cut-clause-any_moment g c told =
    let disk = c.args.disk.now in
    let file = g.D.Disk.seen disk in
    let is = c.requires.bytes told in
    let first = subst (λ (f : List ℕ). 1 < get_or f 0 0) is c.requires.torn in
    let chain_form = subst (λ (f : List ℕ). is_areas f ≡ false) is c.requires.chain in
    let P : List ℕ → Type 0 = λ image. list_of image ≡ [] in
    let begun = started g.D.Disk.moment g.D.Disk.left_since disk P (λ image since. ap list_of (c.requires.durable told image (g.met.D.Disk.only_now disk image since)) ∙ cut_none file first chain_form file (cut_same 2 file)) in
    goes_on g.D.Disk.moment g.D.Disk.left_since disk disk c.cut.new.self P _ begun c.cut.ensures.time
    (λ image now. let from = c.cut.ensures.crash image now in cut_none file first chain_form image (subst (λ (old : List ℕ). Cut 2 old image) (c.requires.durable told from.0 from.1) from.2))

pub returns-in_err-sync-clause-any_moment : goal.returns-in_err-sync-clause-any_moment
returns-in_err-sync-clause-any_moment g c told =
    let disk = c.args.disk.now in
    let file = g.D.Disk.seen disk in
    let is = c.requires.bytes told in
    let first = subst (λ (f : List ℕ). 1 < get_or f 0 0) is c.requires.torn in
    let chain_form = subst (λ (f : List ℕ). is_areas f ≡ false) is c.requires.chain in
    let P : List ℕ → Type 0 = λ image. list_of image ≡ [] in
    let begun = started g.D.Disk.moment g.D.Disk.left_since disk P (λ image since. ap list_of (c.requires.durable told image (g.met.D.Disk.only_now disk image since)) ∙ cut_none file first chain_form file (cut_same 2 file)) in
    let after : (image : List ℕ) → g.D.Disk.may_leave c.cut.new.self image → P image = λ image now.
    let from = c.cut.ensures.crash image now in cut_none file first chain_form image (subst (λ (old : List ℕ). Cut 2 old image) (c.requires.durable told from.0 from.1) from.2) in
    let cut = goes_on g.D.Disk.moment g.D.Disk.left_since disk disk c.cut.new.self P _ begun c.cut.ensures.time after in
    goes_on g.D.Disk.moment g.D.Disk.left_since disk c.cut.new.self c.sync.new.self P _ cut c.sync.ensures.time (λ image now. after image (c.sync.ensures.crash image now))

pub returns-clause-any_moment : goal.returns-clause-any_moment
returns-clause-any_moment g c told =
    let disk = c.args.disk.now in
    let file = g.D.Disk.seen disk in
    let is = c.requires.bytes told in
    let first = subst (λ (f : List ℕ). 1 < get_or f 0 0) is c.requires.torn in
    let chain_form = subst (λ (f : List ℕ). is_areas f ≡ false) is c.requires.chain in
    let P : List ℕ → Type 0 = λ image. list_of image ≡ [] in
    let begun = started g.D.Disk.moment g.D.Disk.left_since disk P (λ image since. ap list_of (c.requires.durable told image (g.met.D.Disk.only_now disk image since)) ∙ cut_none file first chain_form file (cut_same 2 file)) in
    let after : (image : List ℕ) → g.D.Disk.may_leave c.cut.new.self image → P image = λ image now.
    let from = c.cut.ensures.crash image now in cut_none file first chain_form image (subst (λ (old : List ℕ). Cut 2 old image) (c.requires.durable told from.0 from.1) from.2) in
    let cut = goes_on g.D.Disk.moment g.D.Disk.left_since disk disk c.cut.new.self P _ begun c.cut.ensures.time after in
    let synced = goes_on g.D.Disk.moment g.D.Disk.left_since disk c.cut.new.self c.sync.new.self P _ cut c.sync.ensures.time (λ image now. after image (c.sync.ensures.crash image now)) in
    let seen = c.in_ok-sync.ensures.seen ∙ c.in_ok-cut.ensures.cut told in
    let durable = subst (λ (f : List ℕ). Only f (g.D.Disk.may_leave c.sync.new.self)) (sym c.in_ok-sync.ensures.seen) (c.in_ok-sync.ensures.durable told) in
    let two : length (g.D.Disk.seen c.sync.new.self) ≡ 2 = ap length seen ∙ length-take-le 2 file (let few = subst (λ (f : List ℕ). 2 ≤ length f) is c.requires.some in few) in
    then_leaves g.D.Disk.moment g.D.Disk.left_since disk c.sync.new.self c.write_through.new.disk P _ P synced (c.write_through.ensures.any_moment told durable) (λ image p. p)
    (λ image torn. torn_few (g.D.Disk.seen c.sync.new.self) image two torn)

pub returns-clause-same : goal.returns-clause-same
returns-clause-same g c told =
    let file = g.D.Disk.seen c.args.disk.now in
    let seen = c.in_ok-sync.ensures.seen ∙ c.in_ok-cut.ensures.cut told in
    let two : length (g.D.Disk.seen c.sync.new.self) ≡ 2 = ap length seen ∙ length-take-le 2 file (let few = subst (λ (f : List ℕ). 2 ≤ length f) (c.requires.bytes told) c.requires.some in few) in
    on_ok_weaker c.write_through.result (λ written. cleared_list (g.D.Disk.seen c.sync.new.self) _ two written) (c.write_through.ensures.written told)

pub returns-clause-held : goal.returns-clause-held
returns-clause-held g c told =
    let file = g.D.Disk.seen c.args.disk.now in
    let seen = c.in_ok-sync.ensures.seen ∙ c.in_ok-cut.ensures.cut told in
    let two : length (g.D.Disk.seen c.sync.new.self) ≡ 2 = ap length seen ∙ length-take-le 2 file (let few = subst (λ (f : List ℕ). 2 ≤ length f) (c.requires.bytes told) c.requires.some in few) in
    both_ok c.write_through.result (λ written durable. cleared_held (g.D.Disk.seen c.sync.new.self) _ two written _ durable) (c.write_through.ensures.written told) (c.write_through.ensures.durable told)

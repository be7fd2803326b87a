use Rattle.std.proofs.Common.{◌≡◌, ◌∙◌, [], None, refl, sym}
use Rattle.mega_places.specs.declared.fallen.Fallen.{Fallen}
use Rattle.mega_places.specs.declared.remains.Remains.TheVariants.{OnDisk}
use Rattle.mega_places.proofs.Anew.{cut_over, started_over}
use Rattle.mega_places.proofs.starting.started.Goals as goal

pub returns-in-Ok-clause-begun : goal.returns-in-Ok-clause-begun
returns-in-Ok-clause-begun c starts owed met run is =
    let whole = c.in-Ok.ensures.whole refl in
    started_over c.args.cluster c.args.me c.args.down c.args.fuse c.args.owed starts owed met run _ is c.in-Ok.ensures.number refl
    (λ h. c.in-Ok.ensures.notes h starts met owed (record { owes = is.follows; recalls = is.stands.recalls; ready = is.stands.ready; holds = λ told. is.holds; rows = is.stands.rows }))
    c.in-Ok.ensures.members c.in-Ok.ensures.me
    (λ h. c.in-Ok.ensures.state h starts met owed (record { owes = is.follows; recalls = is.stands.recalls; ready = is.stands.ready; holds = λ told. is.holds; rows = is.stands.rows }))
    whole.long whole.fuse whole.image c.after_append.ensures

pub returns-in-Err-Cut-clause-cut : goal.returns-in-Err-Cut-clause-cut
returns-in-Err-Cut-clause-cut c fallen same starts owed met run is =
    let own : Fallen = record { remains = OnDisk c.in-Err-Cut.records; fuse = None; owed = c.args.owed } in
    let left : Fallen = record { remains = OnDisk c.in-Err-Cut.records; fuse = None; owed = c.owes.result } in
    let handed : own ≡ left = λ i. record { remains = OnDisk c.in-Err-Cut.records; fuse = None; owed = sym c.owes.ensures i } in
    let again : left ≡ fallen = cc in
    let burnt = rw c.in-Err-Cut.field-0-is at (c.in-Err-Cut.ensures.burnt refl refl [] starts met owed (record { owes = is.follows; recalls = is.stands.recalls; ready = is.stands.ready; holds = λ told. is.holds; rows = is.stands.rows })) in
    cut_over c.args.cluster c.args.me c.args.down c.args.fuse c.args.owed starts owed met run c.in-Err-Cut.records fallen is (handed ∙ again) burnt.burnt.short burnt.burnt.gone burnt.holds

pub returns-in-Err-StartsFull-clause-limit : goal.returns-in-Err-StartsFull-clause-limit
returns-in-Err-StartsFull-clause-limit c limit starts owed met run is = sym is.stands.recalls.counted ∙ (rw c.in-Err-StartsFull.field-0-is at c.in-Err-StartsFull.ensures.proceeds).0

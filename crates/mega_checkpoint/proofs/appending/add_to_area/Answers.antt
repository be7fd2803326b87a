use Rattle.std.proofs.Common.{◌≡◌, ℕ, ◌+◌, ◌<◌, List, length, inl, sym, ◌∙◌, ap, subst, arith}
use Rattle.mega_disk.specs.RecordLists.{IsBeforeOrAfter}
use Rattle.mega_disk.proofs.Leaves.{weaker_leaves, then_leaves}
use Rattle.mega_areas.specs.Pages.{offset}
use Rattle.mega_checkpoint.specs.Format.{list_of}
use Rattle.mega_areas.specs.Places.{Puts}
use Rattle.mega_areas.proofs.Offsets.{inside}
use Rattle.mega_checkpoint.proofs.Rooms.{most_fit}
use Rattle.mega_checkpoint.proofs.Adding.{length-behind, list_stays, before_or_after, added, added_rests, added_stays}
use Rattle.mega_checkpoint.proofs.appending.add_to_area.Goals as goal

pub stage-requires-clause-more : goal.stage-requires-clause-more
stage-requires-clause-more g c = (most_fit c.args.areas.pages (c.args.end + 15 + length c.args.body.now) _ _ c.pages_for.ensures c.max-pages.ensures).1

pub stage-requires-clause-room : goal.stage-requires-clause-room
stage-requires-clause-room g c =
    let fits = (most_fit c.args.areas.pages (c.args.end + 15 + length c.args.body.now) _ _ c.pages_for.ensures c.max-pages.ensures).0 in
    let size : length c.as_slice.result.now ≡ 5 + length c.args.body.now = ap length (c.as_slice.ensures.value ∙ c.in_ok-record.ensures) ∙ length-behind c.args.body.now in
    omega (arith, fits, size)

pub set_byte-requires-clause-inside : goal.set_byte-requires-clause-inside
set_byte-requires-clause-inside g c told =
    let fits = (most_fit c.args.areas.pages (c.args.end + 15 + length c.args.body.now) _ _ c.pages_for.ensures c.max-pages.ensures).0 in
    subst (λ (n : ℕ). offset c.args.areas.active (c.args.end + 9) < n) (sym (c.in_ok-stage.ensures.size told)) (inside c.args.areas.active (c.args.end + 9) c.max-pages.result (omega (arith, fits)))

pub returns-in_err-stage-clause-any_moment : goal.returns-in_err-stage-clause-any_moment
returns-in_err-stage-clause-any_moment g c told =
    let file = g.D.Disk.seen c.args.disk.now in
    let h = c.requires.held told in
    weaker_leaves g.D.Disk.moment g.D.Disk.left_since c.args.disk.now c.stage.new.disk _ _ (c.stage.ensures.any_moment told)
    (λ image kept. inl (list_stays c.args.areas.active (c.args.end + 10) file image kept (omega arith) h.form h.counting c.args.end h.at_rest (omega arith)))

pub returns-in_err-set_byte-clause-any_moment : goal.returns-in_err-set_byte-clause-any_moment
returns-in_err-set_byte-clause-any_moment g c told =
    let file = g.D.Disk.seen c.args.disk.now in
    let mid = g.D.Disk.seen c.stage.new.disk in
    let h = c.requires.held told in
    let P : List ℕ → Type 0 = λ image. IsBeforeOrAfter (list_of file) c.args.body.now (list_of image) in
    let fits = (most_fit c.args.areas.pages (c.args.end + 15 + length c.args.body.now) _ _ c.pages_for.ensures c.max-pages.ensures).0 in
    let put = subst (λ (bytes : List ℕ). Puts c.args.areas.active (c.args.end + 10) bytes file mid) (c.as_slice.ensures.value ∙ c.in_ok-record.ensures) (c.in_ok-stage.ensures.put told) in
    then_leaves g.D.Disk.moment g.D.Disk.left_since c.args.disk.now c.stage.new.disk c.set_byte.new.disk _ _ P (c.stage.ensures.any_moment told) (c.set_byte.ensures.any_moment told)
    (λ image kept. inl (list_stays c.args.areas.active (c.args.end + 10) file image kept (omega arith) h.form h.counting c.args.end h.at_rest (omega arith)))
    (λ image set. before_or_after c.args.areas.active c.args.end c.args.body.now file mid h.form h.counting h.at_rest c.requires.short c.max-pages.result (c.in_ok-stage.ensures.size told) fits put set.0 image set.1)

pub returns-clause-any_moment : goal.returns-clause-any_moment
returns-clause-any_moment g c told =
    let file = g.D.Disk.seen c.args.disk.now in
    let mid = g.D.Disk.seen c.stage.new.disk in
    let h = c.requires.held told in
    let P : List ℕ → Type 0 = λ image. IsBeforeOrAfter (list_of file) c.args.body.now (list_of image) in
    let fits = (most_fit c.args.areas.pages (c.args.end + 15 + length c.args.body.now) _ _ c.pages_for.ensures c.max-pages.ensures).0 in
    let put = subst (λ (bytes : List ℕ). Puts c.args.areas.active (c.args.end + 10) bytes file mid) (c.as_slice.ensures.value ∙ c.in_ok-record.ensures) (c.in_ok-stage.ensures.put told) in
    then_leaves g.D.Disk.moment g.D.Disk.left_since c.args.disk.now c.stage.new.disk c.set_byte.new.disk _ _ P (c.stage.ensures.any_moment told) (c.set_byte.ensures.any_moment told)
    (λ image kept. inl (list_stays c.args.areas.active (c.args.end + 10) file image kept (omega arith) h.form h.counting c.args.end h.at_rest (omega arith)))
    (λ image set. before_or_after c.args.areas.active c.args.end c.args.body.now file mid h.form h.counting h.at_rest c.requires.short c.max-pages.result (c.in_ok-stage.ensures.size told) fits put set.0 image set.1)

pub returns-clause-added : goal.returns-clause-added
returns-clause-added g c told =
    let file = g.D.Disk.seen c.args.disk.now in
    let mid = g.D.Disk.seen c.stage.new.disk in
    let h = c.requires.held told in
    let fits = (most_fit c.args.areas.pages (c.args.end + 15 + length c.args.body.now) _ _ c.pages_for.ensures c.max-pages.ensures).0 in
    let put = subst (λ (bytes : List ℕ). Puts c.args.areas.active (c.args.end + 10) bytes file mid) (c.as_slice.ensures.value ∙ c.in_ok-record.ensures) (c.in_ok-stage.ensures.put told) in
    added c.args.areas.active c.args.end c.args.body.now file mid h.form h.counting h.at_rest c.requires.short c.max-pages.result (c.in_ok-stage.ensures.size told) fits put (g.D.Disk.seen c.set_byte.new.disk) (c.in_ok-set_byte.ensures.set told)

pub returns-clause-held : goal.returns-clause-held
returns-clause-held g c told =
    let file = g.D.Disk.seen c.args.disk.now in
    let mid = g.D.Disk.seen c.stage.new.disk in
    let new = g.D.Disk.seen c.set_byte.new.disk in
    let h = c.requires.held told in
    let fits = (most_fit c.args.areas.pages (c.args.end + 15 + length c.args.body.now) _ _ c.pages_for.ensures c.max-pages.ensures).0 in
    let put = subst (λ (bytes : List ℕ). Puts c.args.areas.active (c.args.end + 10) bytes file mid) (c.as_slice.ensures.value ∙ c.in_ok-record.ensures) (c.in_ok-stage.ensures.put told) in
    let set = c.in_ok-set_byte.ensures.set told in
    let stay = added_stays c.args.areas.active c.args.end c.args.body.now file mid h.form h.counting h.at_rest c.requires.short c.max-pages.result (c.in_ok-stage.ensures.size told) fits put new set in
    record {
      size = set.size ∙ c.in_ok-stage.ensures.size told;
      form = stay.form;
      counting = stay.counting;
      number = stay.number ∙ h.number;
      other = stay.other ∙ h.other;
      at_rest = added_rests c.args.areas.active c.args.end c.args.body.now file mid h.form h.counting h.at_rest c.requires.short c.max-pages.result (c.in_ok-stage.ensures.size told) fits put new set;
      durable = c.in_ok-set_byte.ensures.durable told;
    }

pub returns-clause-room : goal.returns-clause-room
returns-clause-room g c = let fits = (most_fit c.args.areas.pages (c.args.end + 15 + length c.args.body.now) _ _ c.pages_for.ensures c.max-pages.ensures).0 in omega (arith, fits)

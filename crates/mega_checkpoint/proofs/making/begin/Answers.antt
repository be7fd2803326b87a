use Rattle.std.proofs.Common.{◌≡◌, ℕ, ◌<◌, List, [], refl, sym, ◌∙◌, ap, subst, arith}
use Rattle.mega_disk.proofs.Leaves.{started, weaker_leaves, then_leaves}
use Rattle.mega_areas.specs.declared.area.Area.TheVariants.{Odd}
use Rattle.mega_areas.specs.Pages.{offset}
use Rattle.mega_checkpoint.specs.Format.{list_of}
use Rattle.mega_areas.specs.Places.{Puts}
use Rattle.mega_areas.proofs.Offsets.{inside}
use Rattle.mega_checkpoint.proofs.Fronts.{list_idle}
use Rattle.mega_checkpoint.proofs.Fresh.{idle_list, first_list, first_form, first_counts, first_number, first_other, first_rests}
use Rattle.mega_checkpoint.proofs.making.begin.Goals as goal

pub set_byte-requires-clause-inside : goal.set_byte-requires-clause-inside
set_byte-requires-clause-inside g c told =
    subst (λ (n : ℕ). offset Odd 0 < n) (sym (c.in_ok-stage.ensures.size told)) (inside Odd 0 c.args.pages (let some = c.requires.some in omega (arith, some)))

pub returns-in_err-front-clause-any_moment : goal.returns-in_err-front-clause-any_moment
returns-in_err-front-clause-any_moment g c told =
    let disk = c.args.disk.now in
    let h = c.requires.idle told in
    started g.D.Disk.moment g.D.Disk.left_since disk _
    (λ image since. ap list_of (h.durable image (g.met.D.Disk.only_now disk image since)) ∙ list_idle (g.D.Disk.seen disk) h.form h.odd_shut h.even_shut)

pub returns-in_err-stage-clause-any_moment : goal.returns-in_err-stage-clause-any_moment
returns-in_err-stage-clause-any_moment g c told =
    let file = g.D.Disk.seen c.args.disk.now in
    let h = c.requires.idle told in
    weaker_leaves g.D.Disk.moment g.D.Disk.left_since c.args.disk.now c.stage.new.disk _ _ (c.stage.ensures.any_moment told) (λ image kept. idle_list file image h.form h.odd_shut h.even_shut kept)

pub returns-in_err-set_byte-clause-any_moment : goal.returns-in_err-set_byte-clause-any_moment
returns-in_err-set_byte-clause-any_moment g c told =
    let file = g.D.Disk.seen c.args.disk.now in
    let mid = g.D.Disk.seen c.stage.new.disk in
    let h = c.requires.idle told in
    let put = subst (λ (bytes : List ℕ). Puts Odd 1 bytes file mid) (c.as_slice.ensures.value ∙ c.in_ok-front.ensures) (c.in_ok-stage.ensures.put told) in
    then_leaves g.D.Disk.moment g.D.Disk.left_since c.args.disk.now c.stage.new.disk c.set_byte.new.disk _ _ (λ image. list_of image ≡ []) (c.stage.ensures.any_moment told) (c.set_byte.ensures.any_moment told)
    (λ image kept. idle_list file image h.form h.odd_shut h.even_shut kept) (λ image set. first_list file mid h.form h.odd_shut h.even_shut put set.0 image set.1)

pub returns-clause-any_moment : goal.returns-clause-any_moment
returns-clause-any_moment g c told =
    let file = g.D.Disk.seen c.args.disk.now in
    let mid = g.D.Disk.seen c.stage.new.disk in
    let h = c.requires.idle told in
    let put = subst (λ (bytes : List ℕ). Puts Odd 1 bytes file mid) (c.as_slice.ensures.value ∙ c.in_ok-front.ensures) (c.in_ok-stage.ensures.put told) in
    then_leaves g.D.Disk.moment g.D.Disk.left_since c.args.disk.now c.stage.new.disk c.set_byte.new.disk _ _ (λ image. list_of image ≡ []) (c.stage.ensures.any_moment told) (c.set_byte.ensures.any_moment told)
    (λ image kept. idle_list file image h.form h.odd_shut h.even_shut kept) (λ image set. first_list file mid h.form h.odd_shut h.even_shut put set.0 image set.1)

pub returns-clause-empty : goal.returns-clause-empty
returns-clause-empty g c told =
    let file = g.D.Disk.seen c.args.disk.now in
    let mid = g.D.Disk.seen c.stage.new.disk in
    let h = c.requires.idle told in
    let put = subst (λ (bytes : List ℕ). Puts Odd 1 bytes file mid) (c.as_slice.ensures.value ∙ c.in_ok-front.ensures) (c.in_ok-stage.ensures.put told) in
    first_list file mid h.form h.odd_shut h.even_shut put 1 (g.D.Disk.seen c.set_byte.new.disk) (c.in_ok-set_byte.ensures.set told)

pub returns-clause-held : goal.returns-clause-held
returns-clause-held g c told =
    let file = g.D.Disk.seen c.args.disk.now in
    let mid = g.D.Disk.seen c.stage.new.disk in
    let new = g.D.Disk.seen c.set_byte.new.disk in
    let h = c.requires.idle told in
    let put = subst (λ (bytes : List ℕ). Puts Odd 1 bytes file mid) (c.as_slice.ensures.value ∙ c.in_ok-front.ensures) (c.in_ok-stage.ensures.put told) in
    let set = c.in_ok-set_byte.ensures.set told in
    record {
      size = set.size ∙ c.in_ok-stage.ensures.size told;
      form = first_form file mid h.form h.odd_shut h.even_shut put 1 new set;
      counting = first_counts file mid h.form h.odd_shut h.even_shut put 1 new set refl;
      number = first_number file mid h.form h.odd_shut h.even_shut put 1 new set;
      other = first_other file mid h.form h.odd_shut h.even_shut put 1 new set;
      at_rest = (first_rests file mid h.form h.odd_shut h.even_shut put 1 new set).0;
      durable = c.in_ok-set_byte.ensures.durable told;
    }

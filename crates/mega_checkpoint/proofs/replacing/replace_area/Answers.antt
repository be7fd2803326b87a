use Rattle.std.proofs.Common.{◌≡◌, ℕ, ◌+◌, ◌<◌, ◌^◌, List, length, true, inl, refl, sym, ◌∙◌, ap, subst, arith}
use Rattle.mega_disk.specs.RecordLists.{IsOldOrReplaced}
use Rattle.mega_disk.proofs.Leaves.{weaker_leaves, then_leaves}
use Rattle.mega_areas.specs.declared.area.Area.{Area}
use Rattle.mega_areas.specs.Pages.{other_of, offset, is_open, generation_of}
use Rattle.mega_checkpoint.specs.Format.{list_of, replacing}
use Rattle.mega_checkpoint.specs.Held.{HoldsAreas}
use Rattle.mega_areas.specs.Places.{Keeps, Puts, Sets}
use Rattle.mega_areas.proofs.Offsets.{inside}
use Rattle.mega_checkpoint.proofs.Rooms.{most_fit}
use Rattle.mega_checkpoint.proofs.Fronts.{other_other}
use Rattle.mega_checkpoint.proofs.Swapped.{length-replacing, beside, list_beside, gate_stays, old_or_replaced, replaced, opened, new_beside, new_number, new_rests}
use Rattle.mega_checkpoint.proofs.replacing.replace_area.Goals as goal

pub stage-requires-clause-more : goal.stage-requires-clause-more
stage-requires-clause-more g c = (most_fit c.args.areas.pages (15 + length c.args.body.now) _ _ c.pages_for.ensures c.max-pages.ensures).1

pub stage-requires-clause-room : goal.stage-requires-clause-room
stage-requires-clause-room g c =
    let fits = (most_fit c.args.areas.pages (15 + length c.args.body.now) _ _ c.pages_for.ensures c.max-pages.ensures).0 in
    let size : length c.as_slice.result.now ≡ 14 + length c.args.body.now = ap length (c.as_slice.ensures.value ∙ c.in_ok-bytes.ensures) ∙ length-replacing (c.args.areas.generation + 1) c.args.body.now in
    omega (arith, fits, size)

pub set_byte-requires-clause-inside : goal.set_byte-requires-clause-inside
set_byte-requires-clause-inside g c told =
    let fits = (most_fit c.args.areas.pages (15 + length c.args.body.now) _ _ c.pages_for.ensures c.max-pages.ensures).0 in
    subst (λ (n : ℕ). offset c.other-beside.result 0 < n) (sym (c.in_ok-stage.ensures.size told)) (inside c.other-beside.result 0 c.max-pages.result (omega (arith, fits)))

pub returns-in_err-shut_other-clause-any_moment : goal.returns-in_err-shut_other-clause-any_moment
returns-in_err-shut_other-clause-any_moment g c told =
    weaker_leaves g.D.Disk.moment g.D.Disk.left_since c.args.disk.now c.shut_other.new.disk _ _ (c.shut_other.ensures.any_moment told) (λ image same. inl same)

pub returns-in_err-stage-clause-any_moment : goal.returns-in_err-stage-clause-any_moment
returns-in_err-stage-clause-any_moment g c told =
    let file = g.D.Disk.seen c.args.disk.now in
    let first = g.D.Disk.seen c.shut_other.new.disk in
    let h = c.in_ok-shut_other.ensures.held told in
    let same = c.in_ok-shut_other.ensures.same told in
    let area = c.args.areas.active in
    let is_beside = c.other-beside.ensures in
    let P : List ℕ → Type 0 = λ image. IsOldOrReplaced (list_of file) c.args.body.now (list_of image) in
    let staged : (image : List ℕ) → Keeps c.other-beside.result 1 first image → P image = λ image kept.
    let k = subst (λ (a : Area). Keeps a 1 first image) is_beside kept in
    inl (list_beside area c.args.end first image (beside area c.args.end 1 first image h.form h.counting h.at_rest k) (gate_stays (other_of area) 1 first image h.form (omega arith) k ∙ h.other) ∙ same) in
    then_leaves g.D.Disk.moment g.D.Disk.left_since c.args.disk.now c.shut_other.new.disk c.stage.new.disk _ _ P (c.shut_other.ensures.any_moment told) (c.stage.ensures.any_moment told) (λ image is. inl is) staged

pub returns-in_err-set_byte-clause-any_moment : goal.returns-in_err-set_byte-clause-any_moment
returns-in_err-set_byte-clause-any_moment g c told =
    let file = g.D.Disk.seen c.args.disk.now in
    let first = g.D.Disk.seen c.shut_other.new.disk in
    let h = c.in_ok-shut_other.ensures.held told in
    let same = c.in_ok-shut_other.ensures.same told in
    let area = c.args.areas.active in
    let is_beside = c.other-beside.ensures in
    let P : List ℕ → Type 0 = λ image. IsOldOrReplaced (list_of file) c.args.body.now (list_of image) in
    let staged : (image : List ℕ) → Keeps c.other-beside.result 1 first image → P image = λ image kept.
    let k = subst (λ (a : Area). Keeps a 1 first image) is_beside kept in
    inl (list_beside area c.args.end first image (beside area c.args.end 1 first image h.form h.counting h.at_rest k) (gate_stays (other_of area) 1 first image h.form (omega arith) k ∙ h.other) ∙ same) in
    let mid = g.D.Disk.seen c.stage.new.disk in
    let fits = (most_fit c.args.areas.pages (15 + length c.args.body.now) _ _ c.pages_for.ensures c.max-pages.ensures).0 in
    let next : c.args.areas.generation + 1 < 2 ^ 64 = let n = c.requires.next in omega (arith, n) in
    let later : generation_of area first < c.args.areas.generation + 1 = let n = h.number in omega (arith, n) in
    let put = subst (λ (a : Area). Puts a 1 (replacing (c.args.areas.generation + 1) c.args.body.now) first mid) is_beside (subst (λ (bytes : List ℕ). Puts c.other-beside.result 1 bytes first mid) (c.as_slice.ensures.value ∙ c.in_ok-bytes.ensures) (c.in_ok-stage.ensures.put told)) in
    let size = c.in_ok-stage.ensures.size told in
    let both = then_leaves g.D.Disk.moment g.D.Disk.left_since c.args.disk.now c.shut_other.new.disk c.stage.new.disk _ _ P (c.shut_other.ensures.any_moment told) (c.stage.ensures.any_moment told) (λ image is. inl is) staged in
    then_leaves g.D.Disk.moment g.D.Disk.left_since c.args.disk.now c.stage.new.disk c.set_byte.new.disk P _ P both (c.set_byte.ensures.any_moment told) (λ image p. p)
    (λ image set. subst (λ (l : List (List ℕ)). IsOldOrReplaced l c.args.body.now (list_of image)) same
    (old_or_replaced area c.args.end c.args.body.now first mid h.form h.counting h.at_rest c.requires.short (c.args.areas.generation + 1) next later c.max-pages.result size fits put h.other set.0 image (subst (λ (a : Area). Sets a 0 set.0 mid image) is_beside set.1)))

pub returns-clause-any_moment : goal.returns-clause-any_moment
returns-clause-any_moment g c told =
    let file = g.D.Disk.seen c.args.disk.now in
    let first = g.D.Disk.seen c.shut_other.new.disk in
    let h = c.in_ok-shut_other.ensures.held told in
    let same = c.in_ok-shut_other.ensures.same told in
    let area = c.args.areas.active in
    let is_beside = c.other-beside.ensures in
    let P : List ℕ → Type 0 = λ image. IsOldOrReplaced (list_of file) c.args.body.now (list_of image) in
    let staged : (image : List ℕ) → Keeps c.other-beside.result 1 first image → P image = λ image kept.
    let k = subst (λ (a : Area). Keeps a 1 first image) is_beside kept in
    inl (list_beside area c.args.end first image (beside area c.args.end 1 first image h.form h.counting h.at_rest k) (gate_stays (other_of area) 1 first image h.form (omega arith) k ∙ h.other) ∙ same) in
    let mid = g.D.Disk.seen c.stage.new.disk in
    let fits = (most_fit c.args.areas.pages (15 + length c.args.body.now) _ _ c.pages_for.ensures c.max-pages.ensures).0 in
    let next : c.args.areas.generation + 1 < 2 ^ 64 = let n = c.requires.next in omega (arith, n) in
    let later : generation_of area first < c.args.areas.generation + 1 = let n = h.number in omega (arith, n) in
    let put = subst (λ (a : Area). Puts a 1 (replacing (c.args.areas.generation + 1) c.args.body.now) first mid) is_beside (subst (λ (bytes : List ℕ). Puts c.other-beside.result 1 bytes first mid) (c.as_slice.ensures.value ∙ c.in_ok-bytes.ensures) (c.in_ok-stage.ensures.put told)) in
    let size = c.in_ok-stage.ensures.size told in
    let both = then_leaves g.D.Disk.moment g.D.Disk.left_since c.args.disk.now c.shut_other.new.disk c.stage.new.disk _ _ P (c.shut_other.ensures.any_moment told) (c.stage.ensures.any_moment told) (λ image is. inl is) staged in
    then_leaves g.D.Disk.moment g.D.Disk.left_since c.args.disk.now c.stage.new.disk c.set_byte.new.disk P _ P both (c.set_byte.ensures.any_moment told) (λ image p. p)
    (λ image set. subst (λ (l : List (List ℕ)). IsOldOrReplaced l c.args.body.now (list_of image)) same
    (old_or_replaced area c.args.end c.args.body.now first mid h.form h.counting h.at_rest c.requires.short (c.args.areas.generation + 1) next later c.max-pages.result size fits put h.other set.0 image (subst (λ (a : Area). Sets a 0 set.0 mid image) is_beside set.1)))

pub returns-clause-replaced : goal.returns-clause-replaced
returns-clause-replaced g c told =
    let file = g.D.Disk.seen c.args.disk.now in
    let first = g.D.Disk.seen c.shut_other.new.disk in
    let h = c.in_ok-shut_other.ensures.held told in
    let same = c.in_ok-shut_other.ensures.same told in
    let area = c.args.areas.active in
    let is_beside = c.other-beside.ensures in
    let P : List ℕ → Type 0 = λ image. IsOldOrReplaced (list_of file) c.args.body.now (list_of image) in
    let staged : (image : List ℕ) → Keeps c.other-beside.result 1 first image → P image = λ image kept.
    let k = subst (λ (a : Area). Keeps a 1 first image) is_beside kept in
    inl (list_beside area c.args.end first image (beside area c.args.end 1 first image h.form h.counting h.at_rest k) (gate_stays (other_of area) 1 first image h.form (omega arith) k ∙ h.other) ∙ same) in
    let mid = g.D.Disk.seen c.stage.new.disk in
    let fits = (most_fit c.args.areas.pages (15 + length c.args.body.now) _ _ c.pages_for.ensures c.max-pages.ensures).0 in
    let next : c.args.areas.generation + 1 < 2 ^ 64 = let n = c.requires.next in omega (arith, n) in
    let later : generation_of area first < c.args.areas.generation + 1 = let n = h.number in omega (arith, n) in
    let put = subst (λ (a : Area). Puts a 1 (replacing (c.args.areas.generation + 1) c.args.body.now) first mid) is_beside (subst (λ (bytes : List ℕ). Puts c.other-beside.result 1 bytes first mid) (c.as_slice.ensures.value ∙ c.in_ok-bytes.ensures) (c.in_ok-stage.ensures.put told)) in
    let size = c.in_ok-stage.ensures.size told in
    let new = g.D.Disk.seen c.set_byte.new.disk in
    let set = subst (λ (a : Area). Sets a 0 1 mid new) is_beside (c.in_ok-set_byte.ensures.set told) in
    replaced area c.args.end c.args.body.now first mid h.form h.counting h.at_rest c.requires.short (c.args.areas.generation + 1) next later c.max-pages.result size fits put h.other 1 new set refl

pub returns-clause-held : goal.returns-clause-held
returns-clause-held g c told =
    let file = g.D.Disk.seen c.args.disk.now in
    let first = g.D.Disk.seen c.shut_other.new.disk in
    let h = c.in_ok-shut_other.ensures.held told in
    let same = c.in_ok-shut_other.ensures.same told in
    let area = c.args.areas.active in
    let is_beside = c.other-beside.ensures in
    let P : List ℕ → Type 0 = λ image. IsOldOrReplaced (list_of file) c.args.body.now (list_of image) in
    let staged : (image : List ℕ) → Keeps c.other-beside.result 1 first image → P image = λ image kept.
    let k = subst (λ (a : Area). Keeps a 1 first image) is_beside kept in
    inl (list_beside area c.args.end first image (beside area c.args.end 1 first image h.form h.counting h.at_rest k) (gate_stays (other_of area) 1 first image h.form (omega arith) k ∙ h.other) ∙ same) in
    let mid = g.D.Disk.seen c.stage.new.disk in
    let fits = (most_fit c.args.areas.pages (15 + length c.args.body.now) _ _ c.pages_for.ensures c.max-pages.ensures).0 in
    let next : c.args.areas.generation + 1 < 2 ^ 64 = let n = c.requires.next in omega (arith, n) in
    let later : generation_of area first < c.args.areas.generation + 1 = let n = h.number in omega (arith, n) in
    let put = subst (λ (a : Area). Puts a 1 (replacing (c.args.areas.generation + 1) c.args.body.now) first mid) is_beside (subst (λ (bytes : List ℕ). Puts c.other-beside.result 1 bytes first mid) (c.as_slice.ensures.value ∙ c.in_ok-bytes.ensures) (c.in_ok-stage.ensures.put told)) in
    let size = c.in_ok-stage.ensures.size told in
    let new = g.D.Disk.seen c.set_byte.new.disk in
    let set = subst (λ (a : Area). Sets a 0 1 mid new) is_beside (c.in_ok-set_byte.ensures.set told) in
    let at = new_beside area c.args.end c.args.body.now first mid h.form h.counting h.at_rest c.requires.short (c.args.areas.generation + 1) next later c.max-pages.result size fits put h.other 1 new set in
    subst (λ (a : Area). HoldsAreas new (g.D.Disk.may_leave c.set_byte.new.disk) (record { active = a; generation = c.args.areas.generation + 1; pages = c.max-pages.result; other_open = true }) (5 + length c.args.body.now)) (sym is_beside)
    (record {
      size = set.size ∙ size;
      form = at.form;
      counting = opened area c.args.end c.args.body.now first mid h.form h.counting h.at_rest c.requires.short (c.args.areas.generation + 1) next later c.max-pages.result size fits put h.other 1 new set refl;
      number = new_number area c.args.end c.args.body.now first mid h.form h.counting h.at_rest c.requires.short (c.args.areas.generation + 1) next later c.max-pages.result size fits put h.other 1 new set;
      other = ap (λ (a : Area). is_open a new) (other_other area) ∙ at.mine;
      at_rest = (new_rests area c.args.end c.args.body.now first mid h.form h.counting h.at_rest c.requires.short (c.args.areas.generation + 1) next later c.max-pages.result size fits put h.other 1 new set).0;
      durable = c.in_ok-set_byte.ensures.durable told;
    })

pub returns-clause-room : goal.returns-clause-room
returns-clause-room g c = let fits = (most_fit c.args.areas.pages (15 + length c.args.body.now) _ _ c.pages_for.ensures c.max-pages.ensures).0 in omega (arith, fits)

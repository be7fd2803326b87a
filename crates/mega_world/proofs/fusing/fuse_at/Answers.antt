use Rattle.std.proofs.Common.{◌≡◌, ◌-◌, ◌∙◌, Some, ap, set, subst, sym}
use Rattle.std.specs.List.{slice_get}
use Rattle.mega_places.specs.declared.place.Place.{Place}
use Rattle.mega_places.specs.Fusing.{SetsFuse}
use Rattle.mega_places.proofs.StepsMade.{found}
use Rattle.mega_world.proofs.fusing.fuse_at.Goals as goal

pub returns : goal.returns
returns c was there =
    let me = c.args.me in
    let places = c.args.places.now.items in
    let i = c.from.result - 1 in
    let at = ap (λ n. n - 1) c.from.ensures in
    let here = found places i me c.index_mut.result.now at c.requires.least c.requires.most c.index_mut.ensures.value in
    let both : Some c.index_mut.result.now ≡ Some was = sym here ∙ ap (slice_get places) at ∙ there in
    let same : c.index_mut.result.now ≡ was = cc in record {
      is = c.set_fuse.new.place;
      sets = subst (λ (one : Place). SetsFuse c.args.calls c.args.image one c.set_fuse.new.place) same c.set_fuse.ensures;
      places = ap (λ k. set places k c.set_fuse.new.place) at;
    }

use Rattle.std.proofs.Common.{refl, Some}
use Rattle.mega_places.specs.declared.fallen.Fallen.{Fallen}
use Rattle.mega_places.proofs.Fuses.{fuses_fallen}
use Rattle.mega_places.proofs.fallen.Fallen.set_fuse.Goals as goal

pub returns : goal.returns
returns c k me starts owed met fuse is =
    let set : Fallen = record { remains = c.fuse.new.self; fuse = Some (record { calls = c.args.calls; image = c.args.image; appended = 0 }); owed = c.args.self.now.owed } in
    fuses_fallen k me c.args.calls c.args.image c.args.self.now set c.fuse.ensures refl refl starts owed met fuse is

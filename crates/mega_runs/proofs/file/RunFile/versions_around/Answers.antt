use Rattle.std.proofs.Common.{List, sym, subst}
use Rattle.std.specs.Prelude.{IfOk}
use Rattle.mega_runs.specs.declared.body.Version.{Version}
use Rattle.mega_runs.specs.declared.index.Indexed.{Indexed}
use Rattle.mega_runs.specs.Ranges.{AgreeWithin}
use Rattle.mega_runs.specs.Fronts.{front_of}
use Rattle.mega_runs.specs.Index.{AreIndexed}
use Rattle.mega_runs.specs.Reads.{held_in, layered, versions_in}
use Rattle.mega_runs.proofs.Fronting.{standing_indexed, standing_within, settled_within, kept_told, kept_same}
use Rattle.mega_runs.proofs.file.RunFile.versions_around.Goals as goal

pub all_around-requires : goal.all_around-requires
all_around-requires g c = record {
  indexed = λ told.
      let self = c.args.self.now in
      let file = g.D.Disk.seen self.disk in (
        self.opened.end,
        (held_in (front_of file self.opened.end)).lists,
        subst (λ (l : List Indexed). AreIndexed file self.opened.end l (held_in (front_of file self.opened.end)).lists) (sym c.as_slice.ensures.value) (standing_indexed file (g.D.Disk.may_leave self.disk) self.opened.end self.opened.runs.items (self.standing told)),
      );
}

pub invariant_of-self : goal.invariant_of-self
invariant_of-self g c =
    let self = c.args.self.now in
    let new = c.all_around.new.disk in
    record {
      few = self.few;
      room = self.room;
      settled = λ told ready. settled_within (g.D.Disk.seen self.disk) (g.D.Disk.seen new) (g.D.Disk.may_leave self.disk) (g.D.Disk.may_leave new) self.opened.end (self.settled told ready) c.all_around.ensures.within (g.met.D.Disk.seen_is_left new);
      standing = λ told. standing_within (g.D.Disk.seen self.disk) (g.D.Disk.seen new) (g.D.Disk.may_leave self.disk) (g.D.Disk.may_leave new) self.opened.end self.opened.runs.items (self.standing told) c.all_around.ensures.within (g.met.D.Disk.seen_is_left new);
    }

pub returns-clause-kept : goal.returns-clause-kept
returns-clause-kept g c =
    let self = c.args.self.now in
    let new = c.all_around.new.disk in
    kept_same g.D.Disk.is_told (g.D.Disk.seen self.disk) (g.D.Disk.seen new) self.opened.end (λ told. (self.standing told).front (g.D.Disk.seen new) (c.all_around.ensures.within (g.D.Disk.seen new) (g.met.D.Disk.seen_is_left new)))

pub returns-clause-value : goal.returns-clause-value
returns-clause-value g c told =
    let self = c.args.self.now in
    let file = g.D.Disk.seen self.disk in
    let lists = (held_in (front_of file self.opened.end)).lists in
    subst (λ (l : List (List Version)). IfOk c.all_around.result (λ versions. AgreeWithin c.args.from.now c.args.to.now (versions_in versions.items) (layered l))) (sym (kept_told g.D.Disk.is_told file self.opened.end told))
    (c.all_around.ensures.value told self.opened.end lists (subst (λ (l : List Indexed). AreIndexed file self.opened.end l lists) (sym c.as_slice.ensures.value) (standing_indexed file (g.D.Disk.may_leave self.disk) self.opened.end self.opened.runs.items (self.standing told))))

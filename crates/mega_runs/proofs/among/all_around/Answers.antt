use Rattle.std.proofs.Common.{rules, ◌≡◌, ◌<◌, ◌-◌, ℕ, List, length, drop, sym, ◌∙◌, ap, subst, arith}
use Rattle.std.specs.Prelude.{Some}
use Rattle.std.specs.List.{slice_get}
use Rattle.mega_disk.proofs.Leaves.{started, then_leaves}
use Rattle.mega_runs.specs.Bodies.{ascends}
use Rattle.mega_runs.specs.declared.body.Version.{Version}
use Rattle.mega_runs.specs.Ranges.{AgreeWithin}
use Rattle.mega_runs.specs.Reads.{layered, versions_in}
use Rattle.mega_runs.proofs.Ranging.{agree_none, agree_merged}
use Rattle.mega_runs.specs.Index.{IsIndexed}
use Rattle.mega_runs.proofs.Found.{slice_at}
use Rattle.mega_runs.proofs.Mixing.{merged_ascends}
use Rattle.mega_runs.proofs.Listed.{listed_at, same_count, none_left, last_left}
use Rattle.mega_runs.proofs.among.all_around.Goals as goal

pub loop-left-init : goal.loop-left-init
loop-left-init g c = record {
  within_runs = omega arith;
  found = λ told end lists are.
      agree_none c.args.from.now c.args.to.now c.new-all.result.items (drop (length c.args.runs.now) lists) c.new-all.ensures.items (none_left lists (length c.args.runs.now) (same_count (g.D.Disk.seen c.args.disk.now) end c.args.runs.now lists are.placed));
  in_order = ap ascends c.new-all.ensures.items;
  same = search rules;
  within = λ image left. left;
  moments = started g.D.Disk.moment g.D.Disk.left_since c.args.disk.now (g.D.Disk.may_leave c.args.disk.now) (g.met.D.Disk.only_now c.args.disk.now);
  later = omega arith;
  lowers = search rules;
  by_fuse = λ by. by;
}

pub versions_around-requires : goal.versions_around-requires
versions_around-requires g c =
    let i = c.loop-left.invariant in
    let runs = c.args.runs.now in
    let j = c.loop-left.left - 1 in
    let some : 0 < c.loop-left.left = c.loop-left-test.true in
    let there : slice_get runs j ≡ Some c.index-runs-left.result = slice_at runs j c.index-runs-left.result (omega (arith, i.within_runs, some)) c.index-runs-left.is in
    record {
      indexed = λ told.
          let h = c.requires.indexed told in
          let listed = listed_at (g.D.Disk.seen c.args.disk.now) h.0 runs h.1 j c.index-runs-left.result h.2 there in
          (h.0, (listed.versions, subst (λ (file : List ℕ). IsIndexed file h.0 listed.versions c.index-runs-left.result) (sym i.same) listed.is));
    }

pub loop-left-preserved : goal.loop-left-preserved
loop-left-preserved g c =
    let i = c.loop-left.invariant in
    let runs = c.args.runs.now in
    let j = c.loop-left.left - 1 in
    let some : 0 < c.loop-left.left = c.loop-left-test.true in
    let there : slice_get runs j ≡ Some c.index-runs-left.result = slice_at runs j c.index-runs-left.result (omega (arith, i.within_runs, some)) c.index-runs-left.is in
    record {
      within_runs = omega (arith, i.within_runs);
      found = λ told end lists are.
          let listed = listed_at (g.D.Disk.seen c.args.disk.now) end runs lists j c.index-runs-left.result are there in
          let value = c.in_ok-newer.ensures.value told end listed.versions (subst (λ (file : List ℕ). IsIndexed file end listed.versions c.index-runs-left.result) (sym i.same) listed.is) in
          subst (λ (l : List (List Version)). AgreeWithin c.args.from.now c.args.to.now (versions_in c.put_among.new.older.items) (layered l)) (sym (last_left lists c.loop-left.left listed.versions some listed.rest))
          (agree_merged c.args.from.now c.args.to.now c.in_ok-newer.newer listed.versions c.loop-left.all.items c.put_among.new.older.items (drop c.loop-left.left lists) value (i.found told end lists are) c.in_ok-put_among.ensures.put);
      in_order = ap ascends c.in_ok-put_among.ensures.put ∙ merged_ascends c.in_ok-newer.newer c.loop-left.all.items i.in_order;
      same = c.in_ok-newer.ensures.seen ∙ i.same;
      within = λ image left. i.within image (c.versions_around.ensures.within image left);
      moments = then_leaves g.D.Disk.moment g.D.Disk.left_since c.args.disk.now c.loop-left.disk c.versions_around.new.disk _ _ (g.D.Disk.may_leave c.args.disk.now) i.moments c.versions_around.ensures.any_moment (λ image left. left) (λ image left. i.within image left);
      later = omega (arith, i.later, c.versions_around.ensures.later);
      lowers = search rules;
      by_fuse = λ by. c.versions_around.ensures.by_fuse (i.by_fuse by);
    }

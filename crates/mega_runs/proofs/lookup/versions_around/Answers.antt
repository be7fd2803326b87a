use Rattle.std.proofs.Common.{List, [], sym, subst}
use Rattle.std.specs.Prelude.{Option}
use Rattle.mega_runs.specs.declared.body.Version.{Version}
use Rattle.mega_runs.specs.declared.span.Span.{Span}
use Rattle.mega_runs.specs.Ranges.{AgreeWithin, SpansRange}
use Rattle.mega_runs.specs.Reads.{versions_in}
use Rattle.mega_runs.proofs.lookup.versions_around.Goals as goal

pub returns-in-None-clause-value : goal.returns-in-None-clause-value
returns-in-None-clause-value g c told end versions is =
    let file = g.D.Disk.seen c.args.disk.now in
    let none : AgreeWithin c.args.from.now c.args.to.now (versions_in []) (versions_in versions) = subst (λ (s : Option Span). SpansRange file c.args.from.now c.args.to.now versions s) c.in-None.is (c.span_within.ensures file end versions is) in
    subst (λ (l : List Version). AgreeWithin c.args.from.now c.args.to.now (versions_in l) (versions_in versions)) (sym c.new.ensures) none

pub read_span-requires : goal.read_span-requires
read_span-requires g c = record {
  has = λ told.
      let file = g.D.Disk.seen c.args.disk.now in
      let is = c.requires.indexed told in
      let spanned = subst (λ (s : Option Span). SpansRange file c.args.from.now c.args.to.now is.1.0 s) c.in-Some.is (c.span_within.ensures file is.0 is.1.0 is.1.1) in
      (spanned.0, spanned.1);
}

pub returns-in_ok-versions-in-Some-clause-value : goal.returns-in_ok-versions-in-Some-clause-value
returns-in_ok-versions-in-Some-clause-value g c told end versions is =
    let file = g.D.Disk.seen c.args.disk.now in
    let spanned = subst (λ (s : Option Span). SpansRange file c.args.from.now c.args.to.now versions s) c.in-Some.is (c.span_within.ensures file end versions is) in
    subst (λ (l : List Version). AgreeWithin c.args.from.now c.args.to.now (versions_in l) (versions_in versions)) (sym (c.in_ok-versions-in-Some.ensures.value told spanned.0 spanned.1)) spanned.2

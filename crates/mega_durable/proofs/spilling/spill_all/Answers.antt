use Rattle.std.proofs.Common.{◌≡◌, ◌⊎◌, ◌∙◌, ap, ◌≤◌, ◌^◌, Ok, Err}
use Rattle.mega_disk.specs.Images.{LeavesOnly}
use Rattle.mega_disk.specs.VersionMaps.{IsSpilled}
use Rattle.mega_durable.specs.Spilling.{marks_of}
use Rattle.mega_durable.proofs.AfterSpill.{drops_none, used_made, used_short, spilled_not}
use Rattle.mega_durable.proofs.spilling.spill_all.Goals as goal

pub returns-in-Err-clause-cut : goal.returns-in-Err-clause-cut
returns-in-Err-clause-cut g c = λ told met stored keeps. spilled_not g.V.Versions c.args.rows.now.rows (marks_of met stored) (g.met.V.Versions.only_now c.args.rows.now.rows)

pub returns-in-Err-clause-used : goal.returns-in-Err-clause-used
returns-in-Err-clause-used g c = used_short g.V.Versions c.args.rows.now.rows

pub returns-in-Ok-spill-clause-same : goal.returns-in-Ok-spill-clause-same
returns-in-Ok-spill-clause-same g c = λ told none. drops_none _ _ _ none (c.in-Ok-spill.ensures.drops told)

pub returns-clause-same : goal.returns-clause-same
returns-clause-same g c = λ told none. drops_none _ _ _ none (c.in-Err-spill.ensures.drops told)

pub returns-in-Ok-spill-clause-spilled : goal.returns-in-Ok-spill-clause-spilled
returns-in-Ok-spill-clause-spilled g c = λ met stored keeps.
    let marks : c.as_slice.result.now ≡ marks_of met stored = c.as_slice.ensures ∙ c.in-Ok.ensures met stored keeps in
    let store = g.V.Versions in
    let old = c.args.rows.now.rows in
    let new = c.spill.new.self in
    record {
      marked = λ durable. c.in-Ok-spill.ensures.spilled durable ∙ marks;
      durable = λ told durable found left. coe 0 1 (i. IsSpilled (marks i) (store.cleaned old) (store.version old) found) (c.in-Ok-spill.ensures.durable told durable found left);
      fits = coe 0 1 (i. store.length_spilled old (marks i) ≤ 2 ^ 40) c.in-Ok-spill.ensures.fits;
    }

pub returns-in-Ok-spill-clause-cut : goal.returns-in-Ok-spill-clause-cut
returns-in-Ok-spill-clause-cut g c = λ told met stored keeps.
    let marks : c.as_slice.result.now ≡ marks_of met stored = c.as_slice.ensures ∙ c.in-Ok.ensures met stored keeps in
    let store = g.V.Versions in
    let old = c.args.rows.now.rows in
    coe 0 1 (i. LeavesOnly store.moment store.opened_since old c.spill.new.self (λ found. store.may_open old found ⊎ IsSpilled (marks i) (store.cleaned old) (store.version old) found)) (c.in-Ok-spill.ensures.any_moment told)

pub returns-clause-cut : goal.returns-clause-cut
returns-clause-cut g c = λ told met stored keeps.
    let marks : c.as_slice.result.now ≡ marks_of met stored = c.as_slice.ensures ∙ c.in-Ok.ensures met stored keeps in
    let store = g.V.Versions in
    let old = c.args.rows.now.rows in
    coe 0 1 (i. LeavesOnly store.moment store.opened_since old c.spill.new.self (λ found. store.may_open old found ⊎ IsSpilled (marks i) (store.cleaned old) (store.version old) found)) (c.in-Err-spill.ensures.any_moment told)

pub returns-clause-full : goal.returns-clause-full
returns-clause-full g c = λ n is met stored keeps.
    (c.in-Err-spill.ensures.too_long n is).0 ∙ ap (g.V.Versions.length_spilled c.args.rows.now.rows) (c.as_slice.ensures ∙ c.in-Ok.ensures met stored keeps)

pub returns-in-Ok-spill-clause-used : goal.returns-in-Ok-spill-clause-used
returns-in-Ok-spill-clause-used g c =
    let made = c.in-Ok-spill.ensures in
    used_made g.V.Versions (Ok tt) (g.V.Versions.length_spilled c.args.rows.now.rows c.as_slice.result.now) c.args.rows.now.rows c.spill.new.self made.later made.may_burn made.by_fuse made.cause made.too_long made.burns

pub returns-clause-used : goal.returns-clause-used
returns-clause-used g c =
    let made = c.in-Err-spill.ensures in
    used_made g.V.Versions (Err c.in-Err-spill.error) (g.V.Versions.length_spilled c.args.rows.now.rows c.as_slice.result.now) c.args.rows.now.rows c.spill.new.self made.later made.may_burn made.by_fuse made.cause made.too_long made.burns

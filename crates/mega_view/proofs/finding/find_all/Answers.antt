use Rattle.std.proofs.Common.{◌≡◌, ◌∙◌, Some, sym, subst}
use Rattle.mega_index.specs.Answers.{GivesOrPlace}
use Rattle.mega_index.specs.Finding.{found_over}
use Rattle.mega_index.specs.Fits.{numbered}
use Rattle.mega_outcome.specs.Answers.{rows_at}
use Rattle.mega_view.proofs.Found.{same_found}
use Rattle.mega_view.specs.OwnRows.{AreOwnRows}
use Rattle.mega_view.proofs.finding.find_all.Goals as goal

pub returns-clause-exact : goal.returns-clause-exact
returns-clause-exact g c told small listed shows =
    let s = c.args.schema.now in
    let n = c.args.number in
    let group = c.args.group.now in
    let index = c.in-Some.index.now in
    let own = c.in_ok-own.own.items in
    let looked = rows_at (g.V.Versions.version c.args.rows.now) c.args.at.0 in
    let there : numbered s.indexes n ≡ Some index = sym c.in-Some.ensures in
    let same = same_found s group looked listed own n index c.args.values.now there shows
    (λ table is. coe 0 1 (i. AreOwnRows s index.table table (c.key_of-group.ensures i) looked own) (c.in_ok-own.ensures.own told small table is)) in
    c.in_ok-found.ensures (found_over s n group.key c.args.values.now listed)
    (coe 0 1 (i. GivesOrPlace (λ found. found.items) c.find_over.result (same i))
    (coe 0 1 (i. GivesOrPlace (λ found. found.items) c.find_over.result (found_over s n (c.key_of-group.ensures i) c.args.values.now (c.as_slice.ensures.value i))) c.find_over.ensures))

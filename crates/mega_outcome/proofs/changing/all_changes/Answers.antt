use Rattle.std.proofs.Common.{◌∙◌, ap, sym, ◌+◌, ◌∷◌, ◌++◌, List, drop, arith, rules}
use Rattle.std.specs.Prelude.{Some}
use Rattle.std.proofs.lemmas.List.{at_drop_more}
use Rattle.mega_disk.specs.VersionMaps.{Versions}
use Rattle.mega_index.specs.of_entry.declared.content.Write.{Write}
use Rattle.mega_index.specs.Rows.{Rows}
use Rattle.mega_outcome.specs.declared.transaction.Change.{Change}
use Rattle.mega_outcome.specs.Changes.{change, all_changes}
use Rattle.mega_outcome.specs.Answers.{rows_at, seen}
use Rattle.mega_outcome.specs.Steps.{with_front}
use Rattle.mega_outcome.specs.Looks.{Looks}
use Rattle.mega_outcome.proofs.Items.{changes_go_on, changes_stop}
use Rattle.mega_outcome.proofs.OneMore.{looks_then}
use Rattle.mega_outcome.proofs.changing.all_changes.Goals as goal

pub returns-in_err-more-clause-looks : goal.returns-in_err-more-clause-looks
returns-in_err-more-clause-looks g c =
    let h : Looks g.V.Versions (Some c.in_err-more.field-0.0) c.args.rows.now c.change.new.rows =
    looks_then g.V.Versions _ c.args.rows.now c.loop-one.rows c.change.new.rows c.loop-one.invariant.looks c.in_err-more.ensures.looks in
    search (rules, h)

pub returns-in-Err-clause-exact : goal.returns-in-Err-clause-exact
returns-in-Err-clause-exact g c = λ told.
    let i = c.loop-one.invariant in
    let schema = c.args.schema.now in
    let group = c.args.group.now in
    let at_versions = λ (v : Versions). seen c.loop-one.newest (seen c.args.earlier.now (rows_at v c.args.at.0)) in
    let rows : Rows = at_versions (g.V.Versions.version c.args.rows.now) in
    let rest : List Change = drop (c.loop-one.one-index + 1) c.args.changes.now in
    let left = λ (cs : List Change). with_front c.loop-one.writes (all_changes schema group rows c.loop-one.item cs) in
    sym (
    i.left told
    ∙ at_drop_more left c.args.changes.now c.loop-one.one-index c.one-item.result c.loop-one-test.true
    ∙ ap (λ (one : Change). left (one ∷ rest)) (sym c.one-item.is)
    ∙ changes_stop schema group rows c.loop-one.item c.one-item.result rest c.loop-one.writes c.in-Err.turn
    (sym c.in-Err.is ∙ c.in_ok-more.ensures.exact told ∙ ap (λ (v : Versions). change schema group (at_versions v) c.loop-one.item c.one-item.result) i.looks.looked.versions)
    )

pub loop-one-preserved : goal.loop-one-preserved
loop-one-preserved g c =
    let i = c.loop-one.invariant in
    let schema = c.args.schema.now in
    let group = c.args.group.now in
    let base : Rows = seen c.args.earlier.now (rows_at (g.V.Versions.version c.args.rows.now) c.args.at.0) in
    let at_versions = λ (v : Versions). seen c.loop-one.newest (seen c.args.earlier.now (rows_at v c.args.at.0)) in
    let rows : Rows = seen c.loop-one.newest base in
    let rest : List Change = drop (c.loop-one.one-index + 1) c.args.changes.now in
    let left = λ (cs : List Change). with_front c.loop-one.writes (all_changes schema group rows c.loop-one.item cs) in
    record {
      counted = omega arith;
      left = λ told.
          i.left told
          ∙ at_drop_more left c.args.changes.now c.loop-one.one-index c.one-item.result c.loop-one-test.true
          ∙ ap (λ (one : Change). left (one ∷ rest)) (sym c.one-item.is)
          ∙ changes_go_on schema group rows c.loop-one.item c.one-item.result rest c.loop-one.writes c.in-Ok.more
          (sym c.in-Ok.is ∙ c.in_ok-more.ensures.exact told ∙ ap (λ (v : Versions). change schema group (at_versions v) c.loop-one.item c.one-item.result) i.looks.looked.versions)
          ∙ ap (λ (r : Rows). with_front (c.loop-one.writes ++ c.in-Ok.more) (all_changes schema group r (c.loop-one.item + 1) rest)) (sym (c.in_ok-take_up-in-Ok.ensures.noted base))
          ∙ ap (λ (ws : List Write). with_front ws (all_changes schema group (seen c.take_up.new.newest base) (c.loop-one.item + 1) rest)) (sym c.in_ok-take_up-in-Ok.ensures.added);
      looks = looks_then g.V.Versions _ c.args.rows.now c.loop-one.rows c.change.new.rows i.looks c.in_ok-more.ensures.looks;
    }

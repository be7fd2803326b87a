use Rattle.std.proofs.Common.{◌≡◌, ◌∙◌, ◌+◌, ◌++◌, ◌∷◌, [], List, ℕ, rules, sym, subst}
use Rattle.mega_index.specs.Rows.{Listed}
use Rattle.mega_outcome.specs.Answers.{rows_at}
use Rattle.mega_schema.specs.Shaping.{space_of}
use Rattle.mega_view.specs.OwnRows.{AreOwnRows}
use Rattle.mega_view.specs.Scanning.{tail_of}
use Rattle.mega_view.proofs.Adding.{no_key, within_table}
use Rattle.mega_view.proofs.Found.{none_own, own_scanned}
use Rattle.mega_view.proofs.finding.own_rows.Goals as goal

pub returns-then-not-is_in-clause-own : goal.returns-then-not-is_in-clause-own
returns-then-not-is_in-clause-own g c told =
    let s = c.args.schema.now in
    let t = c.args.table.now in
    let n = c.args.number in
    let group = c.args.group.now in
    let empty : c.new.result.items ≡ [] = search rules in
    subst (λ (own : Listed). AreOwnRows s n t group (rows_at (g.V.Versions.version c.args.rows.now) c.args.at.0) own) (sym empty)
    (none_own s n t group (rows_at (g.V.Versions.version c.args.rows.now) c.args.at.0) (λ key named. no_key s n t group c.requires.there key (sym c.is_in.ensures ∙ c.if-not-is_in.true) named))

pub returns-clause-own : goal.returns-clause-own
returns-clause-own g c told =
    let s = c.args.schema.now in
    let t = c.args.table.now in
    let n = c.args.number in
    let group = c.args.group.now in
    let version = g.V.Versions.version c.args.rows.now in
    subst (λ (own : Listed). AreOwnRows s n t group (rows_at version c.args.at.0) own) (sym c.in_ok-own.ensures)
    (own_scanned s n t group version c.args.at.0 ((space_of n t ∷ tail_of group) ++ n ∷ []) ((space_of n t ∷ tail_of group) ++ (n + 1) ∷ []) c.in_ok-listed.listed.items
    (within_table s n t group c.requires.there) (c.in_ok-listed.ensures.value told))

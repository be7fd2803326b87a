use Rattle.std.proofs.Common.{◌≡◌, ◌∙◌, ℕ, ◌+◌, [], ◌∷◌, ◌++◌, List, Some, sym, ap, subst, refl}
use Rattle.std.specs.BTreeMap.{get}
use Rattle.mega_disk.specs.VersionMaps.{IsScan}
use Rattle.mega_schema.specs.Shaping.{shape_of, space_of}
use Rattle.mega_index.specs.Fits.{numbered}
use Rattle.mega_index.specs.Rows.{key_cmp}
use Rattle.mega_outcome.specs.Answers.{rows_at}
use Rattle.mega_view.specs.Scanning.{AreThrough, Found, tail_of}
use Rattle.mega_view.proofs.Adding.{no_key, within_table}
use Rattle.mega_view.proofs.RowKeys.{numbered_there}
use Rattle.mega_view.proofs.Scanned.{scanned, skipped}
use Rattle.mega_view.proofs.scanning.add_table.Goals as goal

pub returns-then-not-is_in-clause-found : goal.returns-then-not-is_in-clause-found
returns-then-not-is_in-clause-found g c told place number there through =
    let s = c.args.schema.now in
    let t = c.args.table.now in
    let group = c.args.group.now in
    let at : numbered s.tables (1 + place) ≡ Some t = numbered_there s place (1 + place) t refl there in
    skipped s group (rows_at (g.V.Versions.version c.args.rows.now) c.args.at.0) place (get key_cmp c.args.found.now)
    (λ key named. no_key s (1 + place) t group at key (sym c.is_in.ensures ∙ c.if-not-is_in.true) named) through

pub returns-clause-found : goal.returns-clause-found
returns-clause-found g c told place number there through =
    let s = c.args.schema.now in
    let t = c.args.table.now in
    let group = c.args.group.now in
    let version = g.V.Versions.version c.args.rows.now in
    let at : numbered s.tables (1 + place) ≡ Some t = numbered_there s place (1 + place) t refl there in
    let shape_is : c.in_ok-shape.shape ≡ shape_of s (1 + place) t = c.in_ok-shape.ensures ∙ ap (λ (n : ℕ). shape_of s n t) number in
    let from_of : ℕ → List ℕ = λ n. (space_of n t ∷ tail_of group) ++ n ∷ [] in
    let to_of : ℕ → List ℕ = λ n. (space_of n t ∷ tail_of group) ++ (n + 1) ∷ [] in
    subst (λ (found : Found). AreThrough s group (rows_at version c.args.at.0) (1 + place) found) (sym (c.in_ok-add_rows.ensures.added s (1 + place) t shape_is))
    (scanned s group version c.args.at.0 place t (from_of (1 + place)) (to_of (1 + place)) c.in_ok-listed.listed.items (get key_cmp c.args.found.now) there (within_table s (1 + place) t group at)
    (coe 0 1 (i. IsScan version (from_of (number i)) (to_of (number i)) c.args.at.0 c.in_ok-listed.listed.items) (c.in_ok-listed.ensures.value told)) c.in_ok-add_rows.ensures.bytes through)

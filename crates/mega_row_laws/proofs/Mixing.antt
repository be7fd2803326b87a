-- A key that is of two groups, in a schema that no text declares.
use Rattle.std.proofs.Common.{◌≡◌, [], ◌∷◌, false, true, refl, ap, ◌∙◌, Some, Ok}
use Rattle.mega_schema.specs.Lookup.{is_root_table}
use Rattle.mega_index.specs.Rows.{no_rows}
use Rattle.mega_outcome.specs.Changes.{all_changes}
use Rattle.mega_outcome.specs.Places.{key_in}
use Rattle.mega_outcome.specs.declared.transaction.Change.TheVariants.{Put}
use Rattle.mega_run_laws.specs.of_tape_laws.Indexed.{IsDeclared}
use Rattle.mega_row_laws.specs.Examples.{mixed, of_photo, of_user, photo, photos, shared, tag, tags}

pub photo_names : key_in mixed of_user.key 0 1 photo ≡ Ok shared
photo_names = refl

pub tag_writes : all_changes mixed of_photo.key no_rows 0 (Put 3 tag ∷ []) ≡ Ok (record { key = shared; row = Some tag } ∷ [])
tag_writes = refl

pub undeclared : IsDeclared mixed → ⊥
undeclared d =
    let root = d.others 3 tags refl refl in
    let same : photos ≡ root.0 = (let e : Some photos ≡ Some root.0 = root.1 in cc) in
    differ (ap is_root_table same ∙ root.2)
  where
    differ : false ≡ true → ⊥
    differ h = cc

-- Rows that fit a schema that grows, and rows that do not.
use Rattle.std.proofs.Common.{◌≡◌, ℕ, [], ◌∷◌, length, refl, sym, ap, ◌∙◌, Result, Ok, Err}
use Rattle.mega_outcome.specs.Extends.{Extends}
use Rattle.mega_outcome.specs.Outcome.{outcome_in}
use Rattle.mega_outcome.specs.declared.answer.Done.{Done}
use Rattle.mega_outcome.specs.declared.answer.Turn.{Turn}
use Rattle.mega_outcome.specs.declared.transaction.Change.TheVariants.{Put}
use Rattle.mega_index.specs.Rows.{no_rows}
use Rattle.mega_promises.specs.of_rules.Examples.{group, user}
use Rattle.mega_tape_laws.specs.IndexExamples.{named_users, put_writes}
use Rattle.mega_tape_laws.specs.Growing.{RowsFit}
use Rattle.mega_tape_laws.specs.GrowingExamples.{john_rows, nickname, nicknamed_users, removal, removed, removed_whole, rename, renamed, stray_rows}
use Rattle.mega_tape_laws.proofs.IndexWitnesses.{declared, put_comes}
use Rattle.mega_tape_laws.proofs.Fitting.{changes_fit, none_fit}
use Rattle.mega_tape_laws.proofs.GrowingSchemas.{outcome_stays}

pub extends : Extends named_users nicknamed_users
extends = record {
  tables = (record { added = nickname ∷ []; properties = refl; lacking = refl; keyed = refl; primary = refl; root = refl; group = refl; inside = refl; scatter = refl }, tt);
  indexes = refl;
}

pub john_fits : RowsFit named_users john_rows
john_fits = changes_fit named_users declared group.key no_rows (none_fit named_users) 0 (Put 1 user ∷ []) put_writes put_comes

pub rename_comes : outcome_in named_users group.key rename john_rows ≡ Ok renamed
unfolding Rattle.mega_base.specs.Codec.number_text
rename_comes = refl

pub rename_stays : outcome_in nicknamed_users group.key rename john_rows ≡ Ok renamed
rename_stays = outcome_stays named_users nicknamed_users group.key rename john_rows renamed extends declared john_fits rename_comes

pub removal_comes : outcome_in named_users group.key removal stray_rows ≡ Ok removed
unfolding Rattle.mega_base.specs.Codec.number_text
removal_comes = refl

pub removal_differs : outcome_in nicknamed_users group.key removal stray_rows ≡ Ok removed_whole
unfolding Rattle.mega_base.specs.Codec.number_text
removal_differs = refl

abbrev writes_of : Result Done Turn → ℕ
writes_of (Ok done) = length done.writes
writes_of (Err turn) = 0

pub stray_fits_not : RowsFit named_users stray_rows → ⊥
stray_fits_not fit =
    let same : Ok removed_whole ≡ Ok removed =
    sym removal_differs ∙ outcome_stays named_users nicknamed_users group.key removal stray_rows removed extends declared fit removal_comes in
    let count : ◌≡◌ {A = ℕ} 2 1 = ap writes_of same in
    cc

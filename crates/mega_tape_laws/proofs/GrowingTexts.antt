-- The texts that declare users, and users who may have a nickname.
use Rattle.std.proofs.Common.{◌≡◌, refl, ℕ, [], Result, Ok, Err}
use Rattle.mega_syntax.specs.declared.whole.SchemaText.{SchemaText}
use Rattle.mega_syntax.specs.Reading.{word_at, name_at, items_at, name_step, names_at, need_at, property_at, property_step, properties_at, group_at, inside_at, entity_at, clause_at, clause_step, table_at, storing_at, index_at, change_at, created_at, statement_at, placed_step, schema_at}
use Rattle.mega_syntax.specs.Whole.{read_of}
use Rattle.mega_schema.specs.Verdict.{parse_of}
use Rattle.mega_tape_laws.specs.IndexExamples.{named_users}
use Rattle.mega_tape_laws.specs.Growing.{Continues}
use Rattle.mega_tape_laws.specs.GrowingExamples.{nicknamed_text, nicknamed_users, users_text}

pub users_declared : parse_of users_text ≡ Ok named_users
unfolding word_at name_at items_at name_step names_at need_at property_at property_step properties_at group_at inside_at entity_at clause_at clause_step table_at storing_at index_at change_at created_at statement_at placed_step schema_at
users_declared = refl

pub nicknamed_declared : parse_of nicknamed_text ≡ Ok nicknamed_users
unfolding word_at name_at items_at name_step names_at need_at property_at property_step properties_at group_at inside_at entity_at clause_at clause_step table_at storing_at index_at change_at created_at statement_at placed_step schema_at
nicknamed_declared = refl

-- what was read
abbrev text_of : Result SchemaText ℕ → SchemaText
text_of (Ok r) = r
text_of (Err at) = record { tokens = []; words = record { name = []; statements = [] } }

pub continues : (a : SchemaText) × (b : SchemaText) × (read_of users_text ≡ Ok a) × (read_of nicknamed_text ≡ Ok b) × Continues a.words b.words
unfolding word_at name_at items_at name_step names_at need_at property_at property_step properties_at group_at inside_at entity_at clause_at clause_step table_at storing_at index_at change_at created_at statement_at placed_step schema_at
continues = (text_of (read_of users_text), text_of (read_of nicknamed_text), refl, refl, record { name = refl; statements = (refl, (refl, (tt, tt))) })

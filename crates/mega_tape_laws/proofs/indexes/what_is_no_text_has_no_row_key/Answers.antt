use Rattle.mega_tape_laws.proofs.IndexWitnesses.{word_alone, word_comes}
use Rattle.mega_tape_laws.proofs.indexes.what_is_no_text_has_no_row_key.Goals as goal

pub returns-clause-writes : goal.returns-clause-writes
returns-clause-writes c = word_comes

pub returns-clause-unindexed : goal.returns-clause-unindexed
returns-clause-unindexed c = word_alone

-- The writes of a log are as many as its entries have together.
use Rattle.std.proofs.Common.{◌≡◌, List, length}
use Rattle.std.specs.List.{sum_by}
use Rattle.std.proofs.lemmas.List.Concat.{length-flat_map}
use Rattle.mega_entry.specs.declared.content.Content.{Content}
use Rattle.mega_replica.specs.Applying.{writes_of}

pub length_writes : (log : List Content) → length (writes_of log) ≡ sum_by (λ (entry : Content). length entry.writes) log
length_writes log = length-flat_map (λ (entry : Content). entry.writes) log

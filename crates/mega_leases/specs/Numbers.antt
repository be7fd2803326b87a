-- What a node goes by in its cluster.
use Rattle.std.specs.Prelude.{ℕ}
use Rattle.mega_cluster.specs.declared.cluster.Cluster.{Cluster}
use Rattle.mega_rules.specs.Members.{is_full, keep_of}
use Rattle.mega_leases.specs.declared.numbers.Numbers.{Numbers}

abbrev pub numbers_of : Cluster → ℕ → Numbers
numbers_of c me = record { me = me; full = is_full c me; cells = c.cells; lease = c.lease; keep = keep_of c; retry = c.retry }

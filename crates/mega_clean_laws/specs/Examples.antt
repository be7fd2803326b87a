-- A key that was written at three positions.
use Rattle.std.specs.Prelude.{None}
use Rattle.mega_clean_laws.specs.Keeping.{OneKey, put_at}

abbrev pub three_times : OneKey
three_times = put_at 5 None (put_at 2 None (put_at 1 None (λ p. None)))

-- The line that tells how the program is used.
use Rattle.std.specs.Prelude.{ℕ, List, codes}

abbrev pub usage_line : List ℕ
usage_line = codes "usage: megastore replay [--summary] | gen --seed S --count N --nodes K | node --number K --turns T | two --node K --turns T | two --node K --turns T --recover GID | backup --number K --group HEX --at P | restore --at Q\n"

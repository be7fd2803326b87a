-- The numbers that lines are made of.
use Rattle.std.specs.Prelude.{ℕ, ◌+◌, ◌*◌, ◌/◌, ◌%◌, ◌^◌}

-- the state after a draw
unfoldable pub next : ℕ → ℕ
next x = (x * 6364136223846793005 + 1442695040888963407) % 2 ^ 64

-- the number below m that is drawn where this is the state after the draw
unfoldable pub drawn : ℕ → ℕ → ℕ
drawn x m = x / 2 ^ 33 % m

-- As far as the next number passes.
use Rattle.std.specs.Prelude.{ℕ, zero, suc, Bool, if◌then◌else◌}

-- from a number on, at most so many steps, as far as the next number passes
abbrev pub climb : (ℕ → Bool) → ℕ → ℕ → ℕ
climb test zero from = from
climb test (suc steps) from = if test (suc from) then climb test steps (suc from) else from

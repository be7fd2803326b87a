-- What a form in memory tells of a list that it goes through, and of its last item, at which it stays.
use Rattle.std.specs.Prelude.{ℕ, if◌then◌else◌, nat_lt, List, [], ◌∷◌, ◌++◌, take, replicate, Option, Some, None}

-- the first so many items, and then so many times what it stays at; the count of these is told below its end
abbrev pub told : {A : Type 0} → List A → ℕ → ℕ → A → Option (List A)
told items index extra stays = if nat_lt extra 18446744073709551615 then Some (take index items ++ replicate extra stays) else None

-- the next item, or what it stays at after the last
abbrev pub next_or : {A : Type 0} → List A → A → A
next_or [] stays = stays
next_or (item ∷ more) stays = item

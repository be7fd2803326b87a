-- Lists that are there where each of their items is.
use Rattle.std.proofs.Common.{List, ◌++◌, Option, Some, None}

-- the items of front, before the others
abbrev pub with_front : {A : Type 0} → List A → Option (List A) → Option (List A)
with_front front None = None
with_front front (Some xs) = Some (front ++ xs)

-- The groups that the marks of a page name.
use Rattle.std.specs.Prelude.{ℕ, List, [], ◌∷◌}
use Rattle.mega_picture.specs.declared.item_line.ItemLine.{ItemLine}
use Rattle.mega_picture.specs.Groups.{key_in, with_named}

abbrev pub keys_from : List (List ℕ) → List ItemLine → List (List ℕ)
keys_from keys [] = keys
keys_from keys (one ∷ rest) = keys_from (with_named keys (key_in one.item)) rest

-- the groups of the lines drawn, in the order in which marks name them first
abbrev pub keys_of : List ItemLine → List (List ℕ)
keys_of told = keys_from [] told

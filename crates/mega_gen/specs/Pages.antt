-- Lines as bytes, and a page that takes so many more of them.
use Rattle.std.specs.Prelude.{ℕ, ◌-◌, List, [], ◌∷◌, ◌++◌, length, take}
use Rattle.std.specs.List.{flat_map}
use Rattle.mega_gen.specs.declared.page.Page.{Page}

-- each line is ended by a line feed
abbrev pub text_of : List (List ℕ) → List ℕ
text_of lines = flat_map (λ line. line ++ 10 ∷ []) lines

-- the page with the first of these lines that it still takes
abbrev pub fill : Page → List (List ℕ) → Page
fill page lines = record { bytes = page.bytes ++ text_of (take page.left lines); left = page.left - length lines }

-- Where the bands of groups end, as it is kept looking back.
use Rattle.std.specs.Prelude.{◌≡◌, ℕ, List, unwrap_or}
use Rattle.std.specs.Ordering.{nat_cmp}
use Rattle.std.specs.BTreeMap.{get}
use Rattle.mega_picture.specs.declared.item_line.ItemLine.{ItemLine}
use Rattle.mega_picture.specs.declared.validity.EndsAt.{EndsAt}
use Rattle.mega_picture.specs.Validity.{end_from}

abbrev pub end_at : EndsAt → ℕ → ℕ
end_at ends group = unwrap_or (get nat_cmp ends.next group) ends.gone

-- it has the ends from a row on
abbrev pub Ends : EndsAt → List (List ℕ) → ℕ → ℕ → List ItemLine → Type 0
Ends ends keys node row rest = (group : ℕ) → end_at ends group ≡ end_from keys node group row rest

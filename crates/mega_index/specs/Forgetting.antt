-- Which hints may be let go: those of entries that the row in their place has no more.
use Rattle.std.specs.Prelude.{◌≡◌, true, false, ℕ, ◌&&◌, Bool, List, [], ◌∷◌, Option, Some, None}
use Rattle.std.specs.List.{list_any, list_all}
use Rattle.std.specs.BTreeMap.{get}
use Rattle.mega_base.specs.declared.values.Row.{Row}
use Rattle.mega_schema.specs.declared.schema.Schema.{Schema}
use Rattle.mega_index.specs.declared.hints.Place.{Place}
use Rattle.mega_index.specs.declared.held.Held.{Held}
use Rattle.mega_row_writes.specs.Rows.{Listed, key_cmp, same_key}
use Rattle.mega_index.specs.Marks.{Marks}
use Rattle.mega_index.specs.Hints.{Hints, is_place, is_hinted, global_keys}

-- the place is that of this key in this group
abbrev pub is_row_of : List ℕ → List ℕ → List ℕ → List ℕ → Bool
is_row_of group key g k = same_key g group && same_key k key

-- there are places, and all of them are that one
abbrev pub are_only : List ℕ → List ℕ → Option (List Place) → Bool
are_only group key None = false
are_only group key (Some places) = list_all (is_place group key) places

-- no hint is lost but that of this entry in this place
abbrev pub DropsHint : List ℕ → List ℕ → List ℕ → Hints → Hints → Type 0
DropsHint entry group key old new = (e g k : List ℕ) → is_hinted old e g k ≡ true → (same_key entry e && is_row_of group key g k) ≡ false → is_hinted new e g k ≡ true

-- no hint is lost but those in this place of entries that are not among these keys
abbrev pub Spares : List ℕ → List ℕ → List (List ℕ) → Hints → Hints → Type 0
Spares group key keys old new =
    (e g k : List ℕ) → is_hinted old e g k ≡ true → (is_row_of group key g k ≡ true → list_any (same_key e) keys ≡ true) → is_hinted new e g k ≡ true

abbrev pub keys_of_row : Schema → List ℕ → Option Row → List (List ℕ)
keys_of_row s key None = []
keys_of_row s key (Some row) = global_keys s key row

-- a row in this place is this one
abbrev pub OnlyRow : List ℕ → Option Row → Listed → Type 0
OnlyRow key now [] = Unit {0}
OnlyRow key now (e ∷ es) = (same_key key e.0 ≡ true → Some e.1 ≡ now) × OnlyRow key now es

abbrev pub OnlyRows : List ℕ → List ℕ → Option Row → Marks → Type 0
OnlyRows group key now [] = Unit {0}
OnlyRows group key now (m ∷ ms) = (same_key group m.0 ≡ true → OnlyRow key now m.1.rows) × OnlyRows group key now ms

abbrev pub row_in : Option (Option Row) → Option Row
row_in None = None
row_in (Some o) = o

abbrev pub row_held : List ℕ → Option Held → Option Row
row_held key None = None
row_held key (Some held) = row_in (get key_cmp held.rows key)

-- How the room goes together that parts of a text leave.
use Rattle.std.proofs.Common.{◌≡◌, ◌∙◌, ◌+◌, ◌-◌, ◌≤◌, ℕ, List, [], ◌∷◌, ◌++◌, length, Option, None, Some, refl, ap, subst, sym, arith, length-append, drop, drop-cons, get_or, ◌<◌, suc, add-one}
use Rattle.std.specs.Prelude.{SomeIff}
use Rattle.std.proofs.lemmas.List.{drop_all}
use Rattle.std.specs.List.{All, flat_map}
use Rattle.std.proofs.lemmas.List.Elements.{All-cons, All-head, All-nil, All-tail}
use Rattle.mega_base.specs.Codec.{IsList, bytes_text, list_text, number_text}
use Rattle.mega_base.specs.Values.{Ascends, IsCellIn, cell_text}
use Rattle.mega_base.specs.declared.values.Cell.{Cell}
use Rattle.mega_base.specs.Digits.{length_number_text}
use Rattle.mega_well_formed.specs.Room.{Leaves}

-- a text that is not of its format
pub unformed : (P : Type 0) (text : List ℕ) (room : ℕ) → (P → ⊥) → Leaves P text room None
unformed P text room never = λ both. never both.0

-- a text whose length is known
pub fixed : (P : Type 0) (text : List ℕ) (n room : ℕ) (left : Option ℕ) → P → length text ≡ n → SomeIff left (n ≤ room) (room - n) → Leaves P text room left
fixed P text n room None holds is short = λ both. short (omega (arith, is, both.1))
fixed P text n room (Some left) holds is enough = ((holds, omega (arith, is, enough.0)), omega (arith, is, enough.1))

-- the same said otherwise
pub same : (P Q : Type 0) (one two : List ℕ) (room : ℕ) (left : Option ℕ) → (P → Q) → (Q → P) → one ≡ two → Leaves P one room left → Leaves Q two room left
same P Q one two room None there back is none = λ both. none (back both.0, omega (arith, ap length is, both.1))
same P Q one two room (Some left) there back is some = ((there some.0.0, omega (arith, ap length is, some.0.1)), omega (arith, ap length is, some.1))

-- two texts, one behind the other
pub fails : (P Q : Type 0) (one two : List ℕ) (room : ℕ) → Leaves P one room None → Leaves (P × Q) (one ++ two) room None
fails P Q one two room none = λ both. none (both.0.0, omega (arith, length-append one two, both.1))

pub goes : (P Q : Type 0) (one two : List ℕ) (room left : ℕ) (last : Option ℕ) → Leaves P one room (Some left) → Leaves Q two left last → Leaves (P × Q) (one ++ two) room last
goes P Q one two room left None first second = λ both. second (both.0.1, omega (arith, length-append one two, both.1, first.0.1, first.1))
goes P Q one two room left (Some last) first second =
    (((first.0.0, second.0.0), omega (arith, length-append one two, first.0.1, first.1, second.0.1, second.1)), omega (arith, length-append one two, first.0.1, first.1, second.0.1, second.1))

-- ---- what is left of a list leads where the whole list leads
pub record Leads (IsRest : Type 0) (rest : List ℕ) (left : ℕ) (IsWhole : Type 0) (whole : List ℕ) (room : ℕ) : Type 0 where
  pub leads : (last : Option ℕ) → Leaves IsRest rest left last → Leaves IsWhole whole room last

pub begins : (P : Type 0) (text : List ℕ) (room : ℕ) → Leads P text room P text room
begins P text room = record { leads = λ last leaves. leaves }

more : {A : Type 0} (fits : A → Type 0) (spells : A → List ℕ) (item : A) (items : List A) (room : ℕ) (last : Option ℕ)
    → Leaves (fits item × All fits items) (spells item ++ flat_map spells items) room last → Leaves (All fits (item ∷ items)) (flat_map spells (item ∷ items)) room last
more fits spells item items room last leaves =
    same (fits item × All fits items) (All fits (item ∷ items)) _ (flat_map spells (item ∷ items)) room last
    (λ both. All-cons fits item items both.0 both.1) (λ all. (All-head fits item items all, All-tail fits item items all)) refl leaves

pub item_step : {A : Type 0} (fits : A → Type 0) (spells : A → List ℕ) (item : A) (items : List A) (left less : ℕ) (W : Type 0) (whole : List ℕ) (room : ℕ)
    → Leads (All fits (item ∷ items)) (flat_map spells (item ∷ items)) left W whole room → Leaves (fits item) (spells item) left (Some less) → Leads (All fits items) (flat_map spells items) less W whole room
item_step fits spells item items left less W whole room before one = record {
  leads = λ last rest. before.leads last (more fits spells item items left last (goes (fits item) (All fits items) (spells item) (flat_map spells items) left less last one rest));
}

pub item_fails : {A : Type 0} (fits : A → Type 0) (spells : A → List ℕ) (item : A) (items : List A) (left : ℕ) (W : Type 0) (whole : List ℕ) (room : ℕ)
    → Leads (All fits (item ∷ items)) (flat_map spells (item ∷ items)) left W whole room → Leaves (fits item) (spells item) left None → Leaves W whole room None
item_fails fits spells item items left W whole room before one =
    before.leads None (more fits spells item items left None (fails (fits item) (All fits items) (spells item) (flat_map spells items) left one))

pub items_end : {A : Type 0} (fits : A → Type 0) (spells : A → List ℕ) (left : ℕ) (W : Type 0) (whole : List ℕ) (room : ℕ)
    → Leads (All fits []) [] left W whole room → Leaves W whole room (Some left)
items_end fits spells left W whole room before = before.leads (Some left) ((All-nil fits, omega arith), omega arith)

-- at a place of a list
pub at_place : {A : Type 0} (items : List A) (n : ℕ) (item : A) → n < length items → item ≡ get_or items n item → drop n items ≡ item ∷ drop (n + 1) items
at_place items n item lt is = drop-cons items n item lt ∙ (λ i. sym is i ∷ drop (sym (add-one n) i) items)

pub cell_step : (cells : List Cell) (n : ℕ) (cell : Cell) (low left less : ℕ) (W : Type 0) (whole : List ℕ) (room : ℕ) → n < length cells → cell ≡ get_or cells n cell
    → Leads (Ascends low (drop n cells)) (flat_map cell_text (drop n cells)) left W whole room → Leaves (IsCellIn low 255 cell) (cell_text cell) left (Some less)
    → Leads (Ascends (cell.property + 1) (drop (n + 1) cells)) (flat_map cell_text (drop (n + 1) cells)) less W whole room
cell_step cells n cell low left less W whole room lt is before one = record {
  leads = λ last rest. (subst (λ rest. Leads (Ascends low rest) (flat_map cell_text rest) left W whole room) (at_place cells n cell lt is) before).leads last
      (goes (IsCellIn low 255 cell) (Ascends (cell.property + 1) (drop (n + 1) cells)) (cell_text cell) (flat_map cell_text (drop (n + 1) cells)) left less last one rest);
}

pub cell_fails : (cells : List Cell) (n : ℕ) (cell : Cell) (low left : ℕ) (W : Type 0) (whole : List ℕ) (room : ℕ) → n < length cells → cell ≡ get_or cells n cell
    → Leads (Ascends low (drop n cells)) (flat_map cell_text (drop n cells)) left W whole room → Leaves (IsCellIn low 255 cell) (cell_text cell) left None → Leaves W whole room None
cell_fails cells n cell low left W whole room lt is before one =
    (subst (λ rest. Leads (Ascends low rest) (flat_map cell_text rest) left W whole room) (at_place cells n cell lt is) before).leads None
    (fails (IsCellIn low 255 cell) (Ascends (cell.property + 1) (drop (n + 1) cells)) (cell_text cell) (flat_map cell_text (drop (n + 1) cells)) left one)

pub cells_end : (cells : List Cell) (n low left : ℕ) (W : Type 0) (whole : List ℕ) (room : ℕ) → length cells ≤ n
    → Leads (Ascends low (drop n cells)) (flat_map cell_text (drop n cells)) left W whole room → Leaves W whole room (Some left)
cells_end cells n low left W whole room le before =
    (subst (λ rest. Leads (Ascends low rest) (flat_map cell_text rest) left W whole room) (drop_all n cells le) before).leads (Some left) ((tt, omega arith), omega arith)

pub place_step : {A : Type 0} (fits : A → Type 0) (spells : A → List ℕ) (items : List A) (n : ℕ) (item : A) (left less : ℕ) (W : Type 0) (whole : List ℕ) (room : ℕ) → n < length items → item ≡ get_or items n item
    → Leads (All fits (drop n items)) (flat_map spells (drop n items)) left W whole room → Leaves (fits item) (spells item) left (Some less)
    → Leads (All fits (drop (n + 1) items)) (flat_map spells (drop (n + 1) items)) less W whole room
place_step fits spells items n item left less W whole room lt is before one =
    item_step fits spells item (drop (n + 1) items) left less W whole room
    (subst (λ rest. Leads (All fits rest) (flat_map spells rest) left W whole room) (at_place items n item lt is) before) one

pub place_fails : {A : Type 0} (fits : A → Type 0) (spells : A → List ℕ) (items : List A) (n : ℕ) (item : A) (left : ℕ) (W : Type 0) (whole : List ℕ) (room : ℕ) → n < length items → item ≡ get_or items n item
    → Leads (All fits (drop n items)) (flat_map spells (drop n items)) left W whole room → Leaves (fits item) (spells item) left None → Leaves W whole room None
place_fails fits spells items n item left W whole room lt is before one =
    item_fails fits spells item (drop (n + 1) items) left W whole room
    (subst (λ rest. Leads (All fits rest) (flat_map spells rest) left W whole room) (at_place items n item lt is) before) one

pub place_end : {A : Type 0} (fits : A → Type 0) (spells : A → List ℕ) (items : List A) (n : ℕ) (left : ℕ) (W : Type 0) (whole : List ℕ) (room : ℕ) → length items ≤ n
    → Leads (All fits (drop n items)) (flat_map spells (drop n items)) left W whole room → Leaves W whole room (Some left)
place_end fits spells items n left W whole room le before =
    items_end fits spells left W whole room (subst (λ rest. Leads (All fits rest) (flat_map spells rest) left W whole room) (drop_all n items le) before)

-- ---- lengths
pub bytes_length : (bytes : List ℕ) → length (bytes_text bytes) ≡ 4 + length bytes
bytes_length bytes = length-append (number_text 4 (length bytes)) bytes ∙ ap (λ n. n + length bytes) (length_number_text 4 (length bytes))

-- ---- a list behind its count
pub list_none : {A : Type 0} (fits : A → Type 0) (spells : A → List ℕ) (least most room : ℕ) (items : List A) → (4 ≤ room → ⊥) → Leaves (IsList least most fits items) (list_text spells items) room None
list_none fits spells least most room items short = λ both. short (omega (arith, length-append (number_text 4 (length items)) (flat_map spells items), length_number_text 4 (length items), both.1))

pub list_goes : {A : Type 0} (fits : A → Type 0) (spells : A → List ℕ) (least most room left : ℕ) (items : List A) (last : Option ℕ) → least ≤ length items → length items ≤ most → (4 ≤ room) × (left ≡ room - 4)
    → Leaves (All fits items) (flat_map spells items) left last → Leaves (IsList least most fits items) (list_text spells items) room last
list_goes fits spells least most room left items last low high four leaves =
    same ((4 ≤ room) × All fits items) (IsList least most fits items) (number_text 4 (length items) ++ flat_map spells items) (list_text spells items) room last
    (λ both. record { each = both.1; least = low; most = high }) (λ list. (four.0, list.each)) refl
    (goes (4 ≤ room) (All fits items) (number_text 4 (length items)) (flat_map spells items) room left last
    (fixed (4 ≤ room) (number_text 4 (length items)) 4 room (Some left) four.0 (length_number_text 4 (length items)) four) leaves)

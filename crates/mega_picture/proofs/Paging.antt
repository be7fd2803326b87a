-- What is written around a drawing, one part more at a time.
use Rattle.std.proofs.Common.{◌≡◌, ℕ, suc, ◌+◌, ◌<◌, ◌≤◌, Bool, true, false, ◌||◌, List, ◌∷◌, ◌++◌, length, drop, get_or, sym, ap, ◌∙◌, arith, append_assoc}
use Rattle.std.specs.List.{list_any}
use Rattle.std.proofs.Math.ListN.{drop_of_length-le}
use Rattle.std.proofs.lemmas.List.{drop_more}
use Rattle.mega_base.specs.declared.values.NodeKind.{NodeKind}
use Rattle.mega_picture.specs.declared.item_line.ItemLine.{ItemLine}
use Rattle.mega_picture.specs.declared.sheet.Sheet.{Sheet}
use Rattle.mega_picture.specs.Texts.{all_to}
use Rattle.mega_picture.specs.Pages.{lane_bands, number_at, name_at, names_at, group_text, groups_from, is_of_client}

-- one text more
all_on : (text : ℕ → List ℕ) (out : List ℕ) (i : ℕ) → (out ++ all_to text i) ++ text i ≡ out ++ all_to text (i + 1)
all_on text out i = append_assoc out (all_to text i) (text i) ∙ ap (λ k. out ++ all_to text k) (next i)
  where
    next : (k : ℕ) → suc k ≡ k + 1
    next k = omega arith

pub bands_on : (out : List ℕ) (sheet : Sheet) (keys : List (List ℕ)) (told : List ItemLine) (i : ℕ) → (out ++ all_to (lane_bands sheet keys told) i) ++ lane_bands sheet keys told i ≡ out ++ all_to (lane_bands sheet keys told) (i + 1)
bands_on out sheet keys told i = all_on (lane_bands sheet keys told) out i

pub numbers_on : (out : List ℕ) (first i : ℕ) → (out ++ all_to (number_at first) i) ++ number_at first i ≡ out ++ all_to (number_at first) (i + 1)
numbers_on out first i = all_on (number_at first) out i

pub names_on : (out : List ℕ) (sheet : Sheet) (nodes : List NodeKind) (y i : ℕ) → (out ++ all_to (name_at sheet nodes y) i) ++ name_at sheet nodes y i ≡ out ++ all_to (name_at sheet nodes y) (i + 1)
names_on out sheet nodes y i = all_on (name_at sheet nodes y) out i

pub all_names_on : (out : List ℕ) (sheet : Sheet) (nodes : List NodeKind) (i : ℕ) → (out ++ all_to (names_at sheet nodes) i) ++ names_at sheet nodes i ≡ out ++ all_to (names_at sheet nodes) (i + 1)
all_names_on out sheet nodes i = all_on (names_at sheet nodes) out i

-- one group more was written, and the rest is still to come
pub groups_on : (out : List ℕ) (sheet : Sheet) (keys : List (List ℕ)) (i : ℕ) (key : List ℕ) → i < length keys → key ≡ get_or keys i key → (out ++ group_text sheet (i + 1) key) ++ groups_from sheet (i + 1) (drop (i + 1) keys) ≡ out ++ groups_from sheet i (drop i keys)
groups_on out sheet keys i key lt is =
    append_assoc out (group_text sheet (i + 1) key) (groups_from sheet (i + 1) (drop (i + 1) keys))
    ∙ ap (λ rest. out ++ groups_from sheet i rest) (ap (λ k. k ∷ drop (i + 1) keys) is ∙ sym (drop_more keys i key lt))

-- whether a message is of a client, one line more at a time
abbrev of_client : ItemLine → Bool
of_client one = is_of_client one.item

client_parted : (told : List ItemLine) (i : ℕ) (one : ItemLine) → i < length told → one ≡ get_or told i one → list_any of_client (drop i told) ≡ (is_of_client one.item || list_any of_client (drop (i + 1) told))
client_parted told i one lt is = ap (list_any of_client) (drop_more told i one lt ∙ ap (λ x. x ∷ drop (i + 1) told) (sym is))

pub client_on : (told : List ItemLine) (i : ℕ) (one : ItemLine) (whole : Bool) → i < length told → one ≡ get_or told i one → is_of_client one.item ≡ false → list_any (λ o. is_of_client o.item) (drop i told) ≡ whole → list_any (λ o. is_of_client o.item) (drop (i + 1) told) ≡ whole
client_on told i one whole lt is none was = sym (ap (λ b. b || list_any of_client (drop (i + 1) told)) none) ∙ (sym (client_parted told i one lt is) ∙ was)

pub client_here : (told : List ItemLine) (i : ℕ) (one : ItemLine) (whole : Bool) → i < length told → one ≡ get_or told i one → is_of_client one.item ≡ true → list_any (λ o. is_of_client o.item) (drop i told) ≡ whole → true ≡ whole
client_here told i one whole lt is some was = sym (ap (λ b. b || list_any of_client (drop (i + 1) told)) some) ∙ (sym (client_parted told i one lt is) ∙ was)

pub client_none : (told : List ItemLine) (i : ℕ) (whole : Bool) → length told ≤ i → list_any (λ o. is_of_client o.item) (drop i told) ≡ whole → false ≡ whole
client_none told i whole le was = sym (ap (list_any of_client) (drop_of_length-le told le)) ∙ was

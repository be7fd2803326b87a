-- A table that grows, and the names of its properties.
use Rattle.std.proofs.Common.{◌≡◌, ℕ, zero, suc, ◌<◌, List, [], ◌∷◌, ◌++◌, length, get_or, refl, sym, ap, ◌∙◌, Option, Some, None}
use Rattle.std.specs.Prelude.{map, slice_get, slice_set}
use Rattle.std.specs.Option.{option_map}
use Rattle.std.proofs.lemmas.List.{map-set, map-append}
use Rattle.std.proofs.lemmas.Option.{slice_get-map, slice_get_read}
use Rattle.mega_syntax.specs.declared.words.PropertyWords.{PropertyWords}
use Rattle.mega_schema.specs.declared.schema.Table.{Table}
use Rattle.mega_schema.specs.Rules.{property_names, words_names}
use Rattle.mega_schema.specs.Known.{table_names, names_in_tables, extended_with, extended_at}
use Rattle.mega_schema.specs.Declare.{property_of, grown, grown_with, grown_at}

pub extended : (ls : List (List (List ℕ))) (more : List (List ℕ)) (i : ℕ) (l : List (List ℕ)) → i < length ls → l ≡ get_or ls i l → extended_at ls more (Some i) ≡ slice_set ls i (l ++ more)
extended ls more i l lt at = ap (extended_with ls more i) (slice_get_read ls (length ls) i l refl lt at)

-- what is written in the place of one of the same name
names_stay : {A B : Type 0} (f : A → B) (xs : List A) (i : ℕ) (x y : A) → slice_get xs i ≡ Some x → f y ≡ f x → map f (slice_set xs i y) ≡ map f xs
names_stay f [] i x y e h = absurd (cc)
names_stay f (z ∷ zs) zero x y e h = let it : z ≡ x = cc in ap (λ k. k ∷ map f zs) (h ∙ ap f (sym it))
names_stay f (z ∷ zs) (suc i) x y e h = ap (λ ks. f z ∷ ks) (names_stay f zs i x y e h)

pub table_names_stay : (ts : List Table) (ws : List PropertyWords) (place : Option ℕ) → table_names (grown_at ts ws place) ≡ table_names ts
table_names_stay ts ws None = refl
table_names_stay ts ws (Some i) = by (slice_get ts i) refl
  where
    by : (o : Option Table) → slice_get ts i ≡ o → table_names (grown_with ts ws i o) ≡ table_names ts
    by None e = refl
    by (Some t) e = names_stay (λ (x : Table). x.name) ts i t (grown t ws) e refl

pub names_of_words : (ws : List PropertyWords) → property_names (map property_of ws) ≡ words_names ws
names_of_words [] = refl
names_of_words (w ∷ ws) = ap (λ ns. w.name ∷ ns) (names_of_words ws)

grown_names : (t : Table) (ws : List PropertyWords) → property_names (grown t ws).properties ≡ property_names t.properties ++ words_names ws
grown_names t ws = map-append (λ p. p.name) t.properties (map property_of ws) ∙ ap (λ ns. property_names t.properties ++ ns) (names_of_words ws)

pub names_grow : (ts : List Table) (ws : List PropertyWords) (place : Option ℕ) → extended_at (names_in_tables ts) (words_names ws) place ≡ names_in_tables (grown_at ts ws place)
names_grow ts ws None = refl
names_grow ts ws (Some i) = ap (extended_with (names_in_tables ts) (words_names ws) i) (slice_get-map (λ (t : Table). property_names t.properties) ts i) ∙ by (slice_get ts i)
  where
    by : (o : Option Table) → extended_with (names_in_tables ts) (words_names ws) i (option_map (λ (t : Table). property_names t.properties) o) ≡ names_in_tables (grown_with ts ws i o)
    by None = refl
    by (Some t) = ap (slice_set (names_in_tables ts) i) (sym (grown_names t ws)) ∙ sym (map-set (λ (x : Table). property_names x.properties) ts i (grown t ws))

-- The numbers of groups, one group and one line more at a time.
use Rattle.std.proofs.Common.{◌≡◌, ℕ, ◌+◌, ◌<◌, ◌≤◌, Bool, true, false, cond, List, [], ◌∷◌, ◌++◌, length, drop, get_or, sym, ap, ◌∙◌, arith, length-append}
use Rattle.std.specs.Prelude.{Option, Some, None, is_some}
use Rattle.std.specs.Ordering.{nat_cmp}
use Rattle.std.specs.Cmp.Lexicographic.{slice_cmp}
use Rattle.std.specs.BTreeMap.{BTreeMap, get}
use Rattle.std.proofs.lemmas.List.{drop_more}
use Rattle.mega_syntax.specs.Names.{same}
use Rattle.mega_schema.specs.Named.{or_place}
use Rattle.mega_picture.specs.declared.item_line.ItemLine.{ItemLine}
use Rattle.mega_picture.specs.Groups.{key_in, place_of, Numbers, with_key, with_named}
use Rattle.mega_picture.specs.Named.{keys_from}
use Rattle.mega_picture.proofs.Indexing.{position_push}

-- the map with the number of one group more
pub numbers_more : (before after : BTreeMap (List ℕ) ℕ) (keys : List (List ℕ)) (key : List ℕ) → Numbers before keys → ((n : List ℕ) → get (slice_cmp nat_cmp) after n ≡ or_place (get (slice_cmp nat_cmp) before n) (same key n) (length keys + 1)) → Numbers after (keys ++ key ∷ [])
numbers_more before after keys key numbers noted = λ n. noted n ∙ ap (λ o. or_place o (same key n) (length keys + 1)) (numbers n) ∙ ap (or_place (place_of keys n) (same key n)) (turned (length keys)) ∙ sym (position_push (λ other. same other n) 1 keys key)
  where
    turned : (k : ℕ) → k + 1 ≡ 1 + k
    turned k = omega arith

-- one line more was looked at, and the rest is still to come
pub keys_on : (keys whole : List (List ℕ)) (told : List ItemLine) (i : ℕ) (one : ItemLine) → i < length told → one ≡ get_or told i one → keys_from keys (drop i told) ≡ whole → keys_from (with_named keys (key_in one.item)) (drop (i + 1) told) ≡ whole
keys_on keys whole told i one lt is was =
    sym (ap (keys_from keys) (drop_more told i one lt ∙ ap (λ x. x ∷ drop (i + 1) told) (sym is))) ∙ was

key_short : (keys : List (List ℕ)) (key : List ℕ) (i : ℕ) → length keys ≤ i → length (with_key keys key) ≤ i + 1
key_short keys key i le = by (is_some (place_of keys key))
  where
    by : (b : Bool) → length (cond b keys (keys ++ key ∷ [])) ≤ i + 1
    by true = omega (arith, le)
    by false = omega (arith, le, length-append keys (key ∷ []))

pub short_on : (keys : List (List ℕ)) (named : Option (List ℕ)) (i : ℕ) → length keys ≤ i → length (with_named keys named) ≤ i + 1
short_on keys None i le = omega (arith, le)
short_on keys (Some key) i le = key_short keys key i le

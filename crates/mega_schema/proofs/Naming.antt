-- Names in turn: where each stands first, and whether one stands twice.
use Rattle.std.proofs.Common.{◌≡◌, ℕ, zero, suc, ◌+◌, ◌<◌, ◌≤◌, Bool, true, false, ◌||◌, cond, List, [], ◌∷◌, ◌++◌, length, refl, sym, ap, ◌∙◌, subst, arith, take, drop, get_or, Option, Some, None}
use Rattle.std.specs.Prelude.{map, is_some, find, position, slice_get, nat_lt, slice_set}
use Rattle.std.specs.List.{insert, remove, list_any, position_from, position_or_len}
use Rattle.std.specs.Ordering.{nat_cmp}
use Rattle.std.specs.Cmp.Lexicographic.{slice_cmp}
use Rattle.std.specs.BTreeMap.{BTreeMap, get, Updates}
use Rattle.std.proofs.lemmas.Bool.Decides.{nat_tests}
use Rattle.std.proofs.lemmas.Bool.{false≢true}
use Rattle.std.proofs.lemmas.Iterator.Adapters.{position_from-zero}
use Rattle.std.proofs.lemmas.List.Folds.{find_at, list_any-append}
use Rattle.std.proofs.lemmas.List.{drop_more, take_more, take-append-drop, length-take}
use Rattle.std.proofs.lemmas.Option.{slice_get_past}
use Rattle.std.proofs.lemmas.Map.Text.{is_eq-slice_cmp}
use Rattle.std.proofs.lemmas.Slice.Eq.{bytes_eq-Decides}
use Rattle.mega_syntax.specs.Names.{same}
use Rattle.mega_schema.specs.Lookup.{is_among, stands_twice}
use Rattle.mega_schema.specs.Named.{place_of, Finds, or_place, stands_at, at_place}

-- ---- one name, another name
pub same_is : (a b : List ℕ) → same a b ≡ true → a ≡ b
same_is a b h = (bytes_eq-Decides a b).0 h

pub same_self : (a : List ℕ) → same a a ≡ true
same_self a = (bytes_eq-Decides a a).1 refl

pub same_other : (a b : List ℕ) → same a b ≡ same b a
same_other a b = by (same a b) (same b a) refl refl
  where
    by : (x y : Bool) → same a b ≡ x → same b a ≡ y → x ≡ y
    by true true e f = refl
    by false false e f = refl
    by true false e f = absurd (false≢true (sym f ∙ ap (λ c. same b c) (same_is a b e) ∙ same_self b))
    by false true e f = absurd (false≢true (sym e ∙ ap (λ c. same a c) (same_is b a f) ∙ same_self a))

-- ---- where a name stands
place_map : {A : Type 0} (f : A → List ℕ) (n : List ℕ) (i : ℕ) (xs : List A) → position_from (λ m. same m n) i (map f xs) ≡ position_from (λ x. same (f x) n) i xs
place_map f n i [] = refl
place_map f n i (x ∷ xs) = ap (λ r. cond (same (f x) n) (Some i) r) (place_map f n (i + 1) xs)

-- of what has names, the first of this name
pub place_named : {A : Type 0} (f : A → List ℕ) (n : List ℕ) (xs : List A) → place_of (map f xs) n ≡ position (λ x. same (f x) n) xs
place_named f n xs = place_map f n 0 xs ∙ sym (position_from-zero (λ x. same (f x) n) xs)

any_from : {A : Type 0} (t : A → Bool) (i : ℕ) (xs : List A) → is_some (position_from t i xs) ≡ list_any t xs
any_from t i [] = refl
any_from t i (x ∷ xs) = by (t x) (any_from t (i + 1) xs)
  where
    by : (b : Bool) → is_some (position_from t (i + 1) xs) ≡ list_any t xs → is_some (cond b (Some i) (position_from t (i + 1) xs)) ≡ (b || list_any t xs)
    by true h = refl
    by false h = h

pub any_named : {A : Type 0} (f : A → List ℕ) (n : List ℕ) (xs : List A) → is_some (place_of (map f xs) n) ≡ list_any (λ x. same (f x) n) xs
any_named f n xs = ap is_some (place_map f n 0 xs) ∙ any_from (λ x. same (f x) n) 0 xs

pub find_named : {A : Type 0} (f : A → List ℕ) (n : List ℕ) (xs : List A) → find (λ x. same (f x) n) xs ≡ at_place xs (place_of (map f xs) n)
find_named {A} f n xs = find_at test xs ∙ by (nat_lt (position_or_len test xs) (length xs)) refl ∙ ap (at_place xs) (sym (place_named f n xs))
  where
    test : A → Bool
    test x = same (f x) n

    by : (b : Bool) → nat_lt (position_or_len test xs) (length xs) ≡ b → slice_get xs (position_or_len test xs) ≡ at_place xs (cond b (Some (position_or_len test xs)) None)
    by true h = refl
    by false h = let past : length xs ≤ position_or_len test xs = grind (arith, nat_tests) in slice_get_past xs (position_or_len test xs) past

-- ---- one name more
module _ (t : List ℕ → Bool) (y : List ℕ) where
  place_more : (i : ℕ) (xs : List (List ℕ)) → position_from t i (xs ++ y ∷ []) ≡ or_place (position_from t i xs) (t y) (i + length xs)
  place_more i [] = ap (λ k. cond (t y) (Some k) None) (omega arith)
  place_more i (x ∷ xs) = by (t x) (place_more (i + 1) xs)
    where
      by : (b : Bool) → position_from t (i + 1) (xs ++ y ∷ []) ≡ or_place (position_from t (i + 1) xs) (t y) (i + 1 + length xs) → cond b (Some i) (position_from t (i + 1) (xs ++ y ∷ [])) ≡ or_place (cond b (Some i) (position_from t (i + 1) xs)) (t y) (i + suc (length xs))
      by true h = refl
      by false h = let far : i + 1 + length xs ≡ i + suc (length xs) = omega arith in h ∙ ap (or_place (position_from t (i + 1) xs) (t y)) far

pub finds_more : (before after : BTreeMap (List ℕ) ℕ) (names : List (List ℕ)) (name : List ℕ) → Finds before names → ((n : List ℕ) → get (slice_cmp nat_cmp) after n ≡ or_place (get (slice_cmp nat_cmp) before n) (same name n) (length names)) → Finds after (names ++ name ∷ [])
finds_more before after names name finds noted = λ n. noted n ∙ ap (λ o. or_place o (same name n) (length names)) (finds n) ∙ ap (or_place (place_of names n) (same name n)) (zero_more (length names)) ∙ sym (place_more (λ m. same m n) name 0 names)
  where
    zero_more : (k : ℕ) → k ≡ 0 + k
    zero_more k = omega arith

-- ---- a name that stands twice
-- some of the names is among those before
abbrev pub crosses : List (List ℕ) → List (List ℕ) → Bool
crosses seen ns = list_any (λ n. is_among seen n) ns

-- what is known of all names, where those before are all different
abbrev pub twice_behind : List (List ℕ) → List (List ℕ) → Bool
twice_behind seen ns = crosses seen ns || stands_twice ns

pub twice_first : (ns : List (List ℕ)) → stands_twice ns ≡ twice_behind [] ns
twice_first ns = ap (λ b. b || stands_twice ns) (sym (none ns))
  where
    none : (ms : List (List ℕ)) → crosses [] ms ≡ false
    none [] = refl
    none (m ∷ ms) = none ms

shuffle : (a b c d : Bool) → ((a || b) || (c || d)) ≡ ((a || c) || (b || d))
shuffle true b c d = refl
shuffle false true true d = refl
shuffle false true false d = refl
shuffle false false c d = refl

or_false : (a : Bool) → (a || false) ≡ a
or_false true = refl
or_false false = refl

or_again : (a b c : Bool) → ((a || b) || c) ≡ (a || (b || c))
or_again true b c = refl
or_again false b c = refl

crosses_more : (seen : List (List ℕ)) (n : List ℕ) (ns : List (List ℕ)) → crosses (seen ++ n ∷ []) ns ≡ (crosses seen ns || is_among ns n)
crosses_more seen n [] = refl
crosses_more seen n (m ∷ ms) =
    let first : is_among (seen ++ n ∷ []) m ≡ (is_among seen m || same m n) = list_any-append (λ k. same k m) seen (n ∷ []) ∙ ap (λ b. is_among seen m || b) (or_false (same n m) ∙ same_other n m) in
    (λ i. first i || crosses_more seen n ms i) ∙ shuffle (is_among seen m) (same m n) (crosses seen ms) (is_among ms n)

-- ---- the first place of a name that stands behind others
or_parts : (a b : Bool) → (a || b) ≡ false → (a ≡ false) × (b ≡ false)
or_parts true b h = absurd (cc)
or_parts false b h = (refl, h)

module _ (n : List ℕ) (rest : List (List ℕ)) where
  here_first : (i : ℕ) (seen : List (List ℕ)) → is_among seen n ≡ false → position_from (λ m. same m n) i (seen ++ n ∷ rest) ≡ Some (i + length seen)
  here_first i [] e = let far : i ≡ i + 0 = omega arith in ap (λ b. cond b (Some i) (position_from (λ m. same m n) (i + 1) rest)) (same_self n) ∙ ap (λ k. Some k) far
  here_first i (m ∷ ms) e =
      let p = or_parts (same m n) (is_among ms n) e in
      let far : i + 1 + length ms ≡ i + suc (length ms) = omega arith in
      ap (λ b. cond b (Some i) (position_from (λ m. same m n) (i + 1) (ms ++ n ∷ rest))) p.0 ∙ here_first (i + 1) ms p.1 ∙ ap (λ k. Some k) far

  here_later : (i j : ℕ) (seen : List (List ℕ)) → is_among seen n ≡ true → position_from (λ m. same m n) i (seen ++ n ∷ rest) ≡ Some j → j < i + length seen
  here_later i j [] e h = absurd (cc)
  here_later i j (m ∷ ms) e h = by (same m n) (λ f g. here_later (i + 1) j ms f g) e h
    where
      by : (b : Bool) → (is_among ms n ≡ true → position_from (λ m. same m n) (i + 1) (ms ++ n ∷ rest) ≡ Some j → j < i + 1 + length ms) → (b || is_among ms n) ≡ true → cond b (Some i) (position_from (λ m. same m n) (i + 1) (ms ++ n ∷ rest)) ≡ Some j → j < i + suc (length ms)
      by true ih f g = let at : i ≡ j = cc in omega (arith, at)
      by false ih f g = omega (arith, ih f g)

  abbrev Here : List (List ℕ) → Type 0
  Here seen = place_of (seen ++ n ∷ rest) n ≡ Some (length seen)

  is_here : (seen : List (List ℕ)) → is_among seen n ≡ false → Here seen
  is_here seen e = let far : 0 + length seen ≡ length seen = omega arith in here_first 0 seen e ∙ ap (λ k. Some k) far

  not_here : (seen : List (List ℕ)) → is_among seen n ≡ true → Here seen → ⊥
  not_here seen e h = let less = here_later 0 (length seen) seen e h in omega (arith, less)

  pub twice_on : (seen : List (List ℕ)) → Here seen → twice_behind seen (n ∷ rest) ≡ twice_behind (seen ++ n ∷ []) rest
  twice_on seen h = by (is_among seen n) refl
    where
      by : (b : Bool) → is_among seen n ≡ b → ((b || crosses seen rest) || (is_among rest n || stands_twice rest)) ≡ twice_behind (seen ++ n ∷ []) rest
      by true e = absurd (not_here seen e h)
      by false e = sym (or_again (crosses seen rest) (is_among rest n) (stands_twice rest)) ∙ ap (λ b. b || stands_twice rest) (sym (crosses_more seen n rest))

  pub twice_found : (seen : List (List ℕ)) → (Here seen → ⊥) → twice_behind seen (n ∷ rest) ≡ true
  twice_found seen h = by (is_among seen n) refl
    where
      by : (b : Bool) → is_among seen n ≡ b → ((b || crosses seen rest) || (is_among rest n || stands_twice rest)) ≡ true
      by true e = refl
      by false e = absurd (h (is_here seen e))

stands_true : (o : Option ℕ) (place : ℕ) → stands_at o place ≡ true → o ≡ Some place
stands_true None place h = absurd (false≢true h)
stands_true (Some first) place h = let e : first ≡ place = grind (arith, nat_tests) in ap (λ k. Some k) e

stands_false : (o : Option ℕ) (place : ℕ) → stands_at o place ≡ false → o ≡ Some place → ⊥
stands_false o place h e = let it : stands_at (Some place) place ≡ true = grind (arith, nat_tests) in false≢true (sym h ∙ ap (λ p. stands_at p place) e ∙ it)

-- a walk over names, each asked whether it stands at its place
module _ (names : List (List ℕ)) (i : ℕ) (n : List ℕ) (within : i < length names) (at : n ≡ get_or names i n) where
  left : drop i names ≡ n ∷ drop (i + 1) names
  left = drop_more names i n within ∙ ap (λ k. k ∷ drop (i + 1) names) (sym at)

  whole : take i names ++ n ∷ drop (i + 1) names ≡ names
  whole = ap (λ xs. take i names ++ xs) (sym left) ∙ take-append-drop i names

  long : length (take i names) ≡ i
  long = omega (arith, length-take i names)

  here : place_of names n ≡ Some i → place_of (take i names ++ n ∷ drop (i + 1) names) n ≡ Some (length (take i names))
  here h = ap (λ xs. place_of xs n) whole ∙ h ∙ ap (λ k. Some k) (sym long)

  pub goes_on : (b : Bool) → twice_behind (take i names) (drop i names) ≡ b → stands_at (place_of names n) i ≡ true → twice_behind (take (i + 1) names) (drop (i + 1) names) ≡ b
  goes_on b h e =
      let before : take (i + 1) names ≡ take i names ++ n ∷ [] = take_more names i n within ∙ ap (λ k. take i names ++ k ∷ []) (sym at) in
      ap (λ xs. twice_behind xs (drop (i + 1) names)) before ∙ sym (twice_on n (drop (i + 1) names) (take i names) (here (stands_true (place_of names n) i e))) ∙ ap (twice_behind (take i names)) (sym left) ∙ h

  pub found_twice : (b : Bool) → twice_behind (take i names) (drop i names) ≡ b → stands_at (place_of names n) i ≡ false → true ≡ b
  found_twice b h e =
      sym (twice_found n (drop (i + 1) names) (take i names) (λ g. stands_false (place_of names n) i e (ap (λ xs. place_of xs n) (sym whole) ∙ g ∙ ap (λ k. Some k) long))) ∙ ap (twice_behind (take i names)) (sym left) ∙ h

-- ---- a name that the map has not, or has
none_of : (o : Option ℕ) (b : Bool) → b ≡ is_some o → b ≡ false → o ≡ None
none_of None b e h = refl
none_of (Some k) true e h = absurd (false≢true (sym h))
none_of (Some k) false e h = absurd (false≢true e)

or_new : (o : Option ℕ) (same_name : Bool) (place : ℕ) → (same_name ≡ true → o ≡ None) → cond same_name (Some place) o ≡ or_place o same_name place
or_new None b place h = refl
or_new (Some k) true place h = absurd (let unlike = h refl in cc)
or_new (Some k) false place h = refl

module _ (old : BTreeMap (List ℕ) ℕ) (name : List ℕ) (place : ℕ) (has : Bool) (asked : has ≡ is_some (get (slice_cmp nat_cmp) old name)) where
  pub noted_new : (new : BTreeMap (List ℕ) ℕ) → has ≡ false → Updates (slice_cmp nat_cmp) old new name (Some place) → (n : List ℕ) → get (slice_cmp nat_cmp) new n ≡ or_place (get (slice_cmp nat_cmp) old n) (same name n) place
  noted_new new lacking updates = λ n.
      updates.0 n ∙ ap (λ b. cond b (Some place) (get (slice_cmp nat_cmp) old n)) (is_eq-slice_cmp name n)
      ∙ or_new (get (slice_cmp nat_cmp) old n) (same name n) place (λ e. ap (get (slice_cmp nat_cmp) old) (sym (same_is name n e)) ∙ none_of (get (slice_cmp nat_cmp) old name) has asked lacking)

-- ---- a list of names at a place
pub put_back : {A : Type 0} (xs : List A) (i : ℕ) (x : A) → i < length xs → insert (remove xs i) i x ≡ slice_set xs i x
put_back [] i x lt = absurd (omega (arith, lt))
put_back (y ∷ ys) zero x lt = refl
put_back (y ∷ ys) (suc i) x lt = ap (λ zs. y ∷ zs) (put_back ys i x (omega (arith, lt)))

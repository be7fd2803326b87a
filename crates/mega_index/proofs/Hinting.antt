-- Hints are added and none is lost.
use Rattle.std.proofs.Common.{◌≡◌, ◌∙◌, ap, sym, refl, ℕ, true, false, cond, List, [], ◌∷◌, ◌++◌, ◌||◌, ◌&&◌}
use Rattle.std.specs.Prelude.{Option, Some, None}
use Rattle.std.specs.List.{list_any}
use Rattle.std.specs.BTreeMap.{get}
use Rattle.std.proofs.lemmas.List.Folds.{list_any-append}
use Rattle.std.proofs.lemmas.Bool.{or_right}
use Rattle.mega_index.specs.declared.hints.Place.{Place}
use Rattle.mega_row_writes.specs.Rows.{key_cmp, same_key}
use Rattle.mega_index.specs.Hints.{Hints, is_place, is_among, is_hinted, KeepsHints}
use Rattle.mega_index.proofs.Ordered.{by_test}
use Rattle.mega_row_writes.proofs.Turning.{same_key-Decides}

same_place : (group key : List ℕ) → is_place group key (record { group = group; key = key }) ≡ true
same_place group key = ap (λ b. b && same_key key key) ((same_key-Decides group group).1 refl) ∙ (same_key-Decides key key).1 refl

pub place_pushed : (group key : List ℕ) (places : List Place) → list_any (is_place group key) (places ++ record { group = group; key = key } ∷ []) ≡ true
place_pushed group key places =
    list_any-append (is_place group key) places (record { group = group; key = key } ∷ [])
    ∙ or_right (list_any (is_place group key) places) _ (ap (λ b. b || false) (same_place group key))

pub hint_kept : (old new : Hints) (entry : List ℕ) (was now : List Place) → get key_cmp old entry ≡ Some was
    → ((q : List ℕ) → get key_cmp new q ≡ cond (same_key entry q) (Some now) (get key_cmp old q))
    → ((g k : List ℕ) → list_any (is_place g k) was ≡ true → list_any (is_place g k) now ≡ true)
    → KeepsHints old new
hint_kept old new entry was now there updated more e g k h =
    by_test (same_key entry e) (is_hinted new e g k ≡ true)
    (λ same.
    let here : get key_cmp old e ≡ Some was = ap (get key_cmp old) (sym ((same_key-Decides entry e).0 same)) ∙ there in
    ap (is_among g k) (updated e ∙ ap (λ b. cond b (Some now) (get key_cmp old e)) same) ∙ more g k (ap (is_among g k) (sym here) ∙ h))
    (λ apart. ap (is_among g k) (updated e ∙ ap (λ b. cond b (Some now) (get key_cmp old e)) apart) ∙ h)

no_hint : (g k : List ℕ) (o : Option (List Place)) (P : Type 0) → o ≡ None → is_among g k o ≡ true → P
no_hint g k None P e h = absurd (differ h)
  where
    differ : false ≡ true → ⊥
    differ e = cc
no_hint g k (Some ps) P e h = cc

pub hint_new : (old new : Hints) (entry : List ℕ) (now : List Place) → get key_cmp old entry ≡ None
    → ((q : List ℕ) → get key_cmp new q ≡ cond (same_key entry q) (Some now) (get key_cmp old q))
    → KeepsHints old new
hint_new old new entry now none updated e g k h =
    by_test (same_key entry e) (is_hinted new e g k ≡ true)
    (λ same. no_hint g k (get key_cmp old e) _ (ap (get key_cmp old) (sym ((same_key-Decides entry e).0 same)) ∙ none) h)
    (λ apart. ap (is_among g k) (updated e ∙ ap (λ b. cond b (Some now) (get key_cmp old e)) apart) ∙ h)

-- A page that is filled with one list of lines and then with another.
use Rattle.std.proofs.Common.{◌≡◌, ℕ, zero, suc, ◌+◌, ◌-◌, ◌<◌, List, [], ◌∷◌, ◌++◌, length, take, refl, sym, ap, ◌∙◌, arith, append_assoc, length-append, Option, None}
use Rattle.std.proofs.lemmas.Grind.{flat_map-append}
use Rattle.mega_gen.specs.declared.page.Page.{Page}
use Rattle.mega_gen.specs.Lines.{tick_line, drain_line}
use Rattle.mega_gen.specs.Pages.{text_of, fill}
use Rattle.mega_gen.specs.Blocks.{ticks, operation, operations, state_after, block}

pub take_both : {A : Type 0} (n : ℕ) (xs ys : List A) → take n (xs ++ ys) ≡ take n xs ++ take (n - length xs) ys
take_both zero [] ys = refl
take_both zero (x ∷ xs) ys = let none : 0 - suc (length xs) ≡ 0 = omega arith in sym (ap (λ k. take k ys) none)
take_both (suc n) [] ys = let all : suc n ≡ suc n - 0 = omega arith in ap (λ k. take k ys) all
take_both (suc n) (x ∷ xs) ys = let fewer : n - length xs ≡ suc n - suc (length xs) = omega arith in ap (λ zs. x ∷ zs) (take_both n xs ys ∙ ap (λ k. take n xs ++ take k ys) fewer)

pub text_both : (xs ys : List (List ℕ)) → text_of (xs ++ ys) ≡ text_of xs ++ text_of ys
text_both xs ys = flat_map-append (λ line. line ++ 10 ∷ []) xs ys

pub fill_more : (page : Page) (xs ys : List (List ℕ)) → fill (fill page xs) ys ≡ fill page (xs ++ ys)
fill_more page xs ys =
    let bytes : (page.bytes ++ text_of (take page.left xs)) ++ text_of (take (page.left - length xs) ys) ≡ page.bytes ++ text_of (take page.left (xs ++ ys)) =
    append_assoc page.bytes (text_of (take page.left xs)) (text_of (take (page.left - length xs) ys))
    ∙ ap (λ t. page.bytes ++ t) (sym (text_both (take page.left xs) (take (page.left - length xs) ys)) ∙ ap text_of (sym (take_both page.left xs ys))) in
    let left : page.left - length xs - length ys ≡ page.left - length (xs ++ ys) = omega (arith, length-append xs ys) in
    λ i. record { bytes = bytes i; left = left i }

-- one line more, where one is left to be added
pub ticks_more : (now node left : ℕ) → 0 < left → ticks now node left ≡ tick_line node now ∷ ticks now (node + 1) (left - 1)
ticks_more now node zero lt = absurd (omega (arith, lt))
ticks_more now node (suc left) lt = let one : left ≡ suc left - 1 = omega arith in ap (λ n. tick_line node now ∷ ticks now (node + 1) n) one

pub operations_more : (nodes left : ℕ) (down : Option ℕ) (state : ℕ) → 0 < left
    → operations nodes left down state ≡ (operation nodes (left - 1) down state).line ∷ operations nodes (left - 1) (operation nodes (left - 1) down state).down (operation nodes (left - 1) down state).state
operations_more nodes zero down state lt = absurd (omega (arith, lt))
operations_more nodes (suc left) down state lt =
    let one : left ≡ suc left - 1 = omega arith in ap (λ n. (operation nodes n down state).line ∷ operations nodes n (operation nodes n down state).down (operation nodes n down state).state) one

pub state_more : (nodes left : ℕ) (down : Option ℕ) (state : ℕ) → 0 < left → state_after nodes left down state ≡ state_after nodes (left - 1) (operation nodes (left - 1) down state).down (operation nodes (left - 1) down state).state
state_more nodes zero down state lt = absurd (omega (arith, lt))
state_more nodes (suc left) down state lt = let one : left ≡ suc left - 1 = omega arith in ap (λ n. state_after nodes n (operation nodes n down state).down (operation nodes n down state).state) one

pub block_fills : (page : Page) (nodes now state : ℕ) → fill (fill (fill page (ticks now 1 nodes)) (operations nodes (19 - nodes) None state)) (drain_line ∷ []) ≡ fill page (block nodes now state)
block_fills page nodes now state =
    let first = ticks now 1 nodes in
    let second = operations nodes (19 - nodes) None state in
    ap (λ p. fill p (drain_line ∷ [])) (fill_more page first second) ∙ fill_more page (first ++ second) (drain_line ∷ []) ∙ ap (fill page) (append_assoc first second (drain_line ∷ []))

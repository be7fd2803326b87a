-- What stands before a quote, and behind a mark, one byte more at a time.
use Rattle.std.proofs.Common.{◌≡◌, ◌≢◌, ℕ, ◌+◌, ◌<◌, ◌≤◌, true, false, cond, List, [], ◌∷◌, ◌++◌, length, take, drop, get_or, sym, ap, ◌∙◌, append_assoc}
use Rattle.std.proofs.lemmas.Bool.{ne_eqb}
use Rattle.std.proofs.Math.ListN.{drop_of_length-le}
use Rattle.std.proofs.lemmas.List.{drop_more, take_more, take_all, append-nil}
use Rattle.std.specs.Prelude.{nat_eq}
use Rattle.std.specs.List.{starts_with}
use Rattle.mega_picture.specs.Labels.{until_quote, value_behind}

parted : (text : List ℕ) (i b : ℕ) → i < length text → b ≡ get_or text i b → drop i text ≡ b ∷ drop (i + 1) text
parted text i b lt is = drop_more text i b lt ∙ ap (λ x. x ∷ drop (i + 1) text) (sym is)

passed : (b : ℕ) (rest : List ℕ) → b ≢ 34 → until_quote (b ∷ rest) ≡ b ∷ until_quote rest
passed b rest ne = ap (λ t. cond t [] (b ∷ until_quote rest)) (ne_eqb b 34 ne)

-- a byte that is no quote is passed over
pub quote_on : (text : List ℕ) (i b : ℕ) → i < length text → b ≡ get_or text i b → b ≢ 34 → until_quote text ≡ take i text ++ until_quote (drop i text) → until_quote text ≡ take (i + 1) text ++ until_quote (drop (i + 1) text)
quote_on text i b lt is ne was =
    was ∙ (ap (λ r. take i text ++ until_quote r) (parted text i b lt is)
    ∙ (ap (λ r. take i text ++ r) (passed b (drop (i + 1) text) ne)
    ∙ (sym (append_assoc (take i text) (b ∷ []) (until_quote (drop (i + 1) text)))
    ∙ ap (λ r. r ++ until_quote (drop (i + 1) text)) (ap (λ x. take i text ++ x ∷ []) is ∙ sym (take_more text i b lt)))))

-- a quote ends it
pub quote_here : (text : List ℕ) (i b : ℕ) → i < length text → b ≡ get_or text i b → b ≡ 34 → until_quote text ≡ take i text ++ until_quote (drop i text) → take i text ≡ until_quote text
quote_here text i b lt is e was =
    sym (was ∙ (ap (λ r. take i text ++ until_quote r) (parted text i b lt is)
    ∙ (ap (λ x. take i text ++ until_quote (x ∷ drop (i + 1) text)) e ∙ append-nil (take i text))))

-- no quote was there
pub quote_end : (text : List ℕ) (i : ℕ) → length text ≤ i → until_quote text ≡ take i text ++ until_quote (drop i text) → text ≡ until_quote text
quote_end text i le was =
    sym (was ∙ (ap (λ r. take i text ++ until_quote r) (drop_of_length-le text le) ∙ (append-nil (take i text) ∙ take_all i text le)))

-- the mark does not stand here
pub value_on : (mark text : List ℕ) (i : ℕ) → i < length text → starts_with nat_eq (drop i text) mark ≡ false → value_behind mark text ≡ value_behind mark (drop i text) → value_behind mark text ≡ value_behind mark (drop (i + 1) text)
value_on mark text i lt none was =
    let e = drop_more text i 0 lt in
    was ∙ (ap (value_behind mark) e
    ∙ ap (λ t. cond t (until_quote (drop (length mark) (get_or text i 0 ∷ drop (i + 1) text))) (value_behind mark (drop (i + 1) text))) (sym (ap (λ r. starts_with nat_eq r mark) e) ∙ none))

-- it stands here
pub value_here : (mark text : List ℕ) (i : ℕ) → i < length text → starts_with nat_eq (drop i text) mark ≡ true → value_behind mark text ≡ value_behind mark (drop i text) → until_quote (drop (length mark) (drop i text)) ≡ value_behind mark text
value_here mark text i lt some was =
    let e = drop_more text i 0 lt in
    ap (λ r. until_quote (drop (length mark) r)) e
    ∙ sym (was ∙ (ap (value_behind mark) e
    ∙ ap (λ t. cond t (until_quote (drop (length mark) (get_or text i 0 ∷ drop (i + 1) text))) (value_behind mark (drop (i + 1) text))) (sym (ap (λ r. starts_with nat_eq r mark) e) ∙ some)))

-- it stands nowhere
pub value_end : (mark text : List ℕ) (i : ℕ) → length text ≤ i → value_behind mark text ≡ value_behind mark (drop i text) → ◌≡◌ {A = List ℕ} [] (value_behind mark text)
value_end mark text i le was = sym (was ∙ ap (value_behind mark) (drop_of_length-le text le))

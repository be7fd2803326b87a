-- Tokens from the left: blanks are passed over, a run of name bytes is one token, another byte is one.
use Rattle.std.proofs.Common.{◌≡◌, ℕ, suc, ◌+◌, ◌<◌, cond, eqb, Bool, true, false, ◌&&◌, List, [], ◌∷◌, take, drop, refl, sym, ap, ◌∙◌, subst, arith, add-zero}
use Rattle.std.specs.List.{prefix_len}
use Rattle.std.proofs.lemmas.Bool.{eq-eqb}
use Rattle.std.proofs.lemmas.Bool.Decides.{nat_tests}
use Rattle.mega_syntax.specs.declared.token.Token.{Token}
use Rattle.mega_syntax.specs.Names.{is_name_byte}
use Rattle.mega_syntax.specs.Tokens.{is_blank, continues, join, tokens_from, Splits}

abbrev token : ℕ → List ℕ → Token
token at text = record { at = at; text = text }

-- the byte b before other tokens, by what it is
abbrev put : Bool → Bool → ℕ → ℕ → List Token → List Token
put blank joins at b others = cond blank others (cond joins (join at b others) (token at (b ∷ []) ∷ others))

blanks_cons : (t : Bool) (b n : ℕ) (bytes : List ℕ) (at : ℕ) → is_blank b ≡ t → tokens_from (at + 1) bytes ≡ tokens_from (at + 1 + n) (drop n bytes) → tokens_from at (b ∷ bytes) ≡ tokens_from (at + cond t (1 + n) 0) (drop (cond t (1 + n) 0) (b ∷ bytes))
blanks_cons true b n bytes at e ih =
    let others = tokens_from (at + 1) bytes in
    let one : 1 + n ≡ suc n = omega arith in
    let far : at + 1 + n ≡ at + (1 + n) = omega arith in
    ap (λ t. put t (is_name_byte b && continues (at + 1) others) at b others) e ∙ ih ∙ ap (λ m. tokens_from m (drop n bytes)) far ∙ ap (λ m. tokens_from (at + (1 + n)) (drop m (b ∷ bytes))) (sym one)
blanks_cons false b n bytes at e ih = ap (λ m. tokens_from m (b ∷ bytes)) (sym (add-zero at))

pub after_blanks : (bytes : List ℕ) (at : ℕ) → tokens_from at bytes ≡ tokens_from (at + prefix_len is_blank bytes) (drop (prefix_len is_blank bytes) bytes)
after_blanks [] at = refl
after_blanks (b ∷ bytes) at = blanks_cons (is_blank b) b (prefix_len is_blank bytes) bytes at refl (after_blanks bytes (at + 1))

no_blank_cons : (t : Bool) (b n : ℕ) (bytes : List ℕ) → is_blank b ≡ t → prefix_len is_blank (drop n bytes) ≡ 0 → prefix_len is_blank (drop (cond t (1 + n) 0) (b ∷ bytes)) ≡ 0
no_blank_cons true b n bytes e ih = let one : 1 + n ≡ suc n = omega arith in ap (λ m. prefix_len is_blank (drop m (b ∷ bytes))) one ∙ ih
no_blank_cons false b n bytes e ih = ap (λ t. cond t (1 + prefix_len is_blank bytes) 0) e

pub no_blank_left : (bytes : List ℕ) → prefix_len is_blank (drop (prefix_len is_blank bytes) bytes) ≡ 0
no_blank_left [] = refl
no_blank_left (b ∷ bytes) = no_blank_cons (is_blank b) b (prefix_len is_blank bytes) bytes refl (no_blank_left bytes)

later_put : (t u : Bool) (at before b : ℕ) (others : List Token) → before < at → continues before others ≡ false → continues before (put t u at b others) ≡ false
later_put true u at before b others lt h = h
later_put false true at before b [] lt h = refl
later_put false true at before b (x ∷ xs) lt h = let ne : eqb at before ≡ false = grind (arith, nat_tests) in rw ne refl
later_put false false at before b others lt h = let ne : eqb at before ≡ false = grind (arith, nat_tests) in rw ne refl

-- no token begins before the text
pub later : (bytes : List ℕ) (at before : ℕ) → before < at → continues before (tokens_from at bytes) ≡ false
later [] at before lt = refl
later (b ∷ bytes) at before lt = later_put (is_blank b) (is_name_byte b && continues (at + 1) (tokens_from (at + 1) bytes)) at before b (tokens_from (at + 1) bytes) lt (later bytes (at + 1) before (omega arith))

-- a byte that begins no blank, and whose neighbor doesn't join it
single : (b : ℕ) (bytes : List ℕ) (at : ℕ) → is_blank b ≡ false → (is_name_byte b && continues (at + 1) (tokens_from (at + 1) bytes)) ≡ false → tokens_from at (b ∷ bytes) ≡ token at (b ∷ []) ∷ tokens_from (at + 1) bytes
single b bytes at e f = let others = tokens_from (at + 1) bytes in ap (λ t. put t (is_name_byte b && continues (at + 1) others) at b others) e ∙ ap (λ u. put false u at b others) f

pub a_mark : (b : ℕ) (bytes : List ℕ) (at : ℕ) → is_blank b ≡ false → is_name_byte b ≡ false → tokens_from at (b ∷ bytes) ≡ token at (b ∷ []) ∷ tokens_from (at + 1) bytes
a_mark b bytes at e f = single b bytes at e (ap (λ t. t && continues (at + 1) (tokens_from (at + 1) bytes)) f)

name_not_blank : (b : ℕ) → is_name_byte b ≡ true → is_blank b ≡ false
name_not_blank b h = grind (arith, nat_tests)

-- the first token doesn't go on with this byte
apart : (t : Bool) (c : ℕ) (cs : List ℕ) (at : ℕ) → is_blank c ≡ t → is_name_byte c ≡ false → continues at (tokens_from at (c ∷ cs)) ≡ false
apart true c cs at e f =
    let others = tokens_from (at + 1) cs in
    ap (λ t. continues at (put t (is_name_byte c && continues (at + 1) others) at c others)) e ∙ later cs (at + 1) at (omega arith)
apart false c cs at e f = ap (continues at) (a_mark c cs at e f) ∙ ap (λ t. eqb at at && t) f ∙ false_behind (eqb at at)
  where
    false_behind : (t : Bool) → (t && false) ≡ false
    false_behind true = refl
    false_behind false = refl

abbrev A_Word : ℕ → ℕ → List ℕ → ℕ → Type 0
A_Word b n bytes at = tokens_from at (b ∷ bytes) ≡ token at (b ∷ take n bytes) ∷ tokens_from (at + 1 + n) (drop n bytes)

word_cons : (t : Bool) (b c : ℕ) (cs : List ℕ) (at m : ℕ) → is_name_byte c ≡ t → is_name_byte b ≡ true → (is_name_byte c ≡ true → A_Word c m cs (at + 1)) → A_Word b (cond t (1 + m) 0) (c ∷ cs) at
word_cons true b c cs at m e h ih =
    let others = tokens_from (at + 1) (c ∷ cs) in
    let rest = tokens_from (at + 1 + 1 + m) (drop m cs) in
    let same_at : eqb (at + 1) (at + 1) ≡ true = eq-eqb (at + 1) (at + 1) refl in
    let goes_on : continues (at + 1) others ≡ true = ap (continues (at + 1)) (ih e) ∙ (λ i. same_at i && e i) in
    let joined : (is_name_byte b && continues (at + 1) others) ≡ true = λ i. h i && goes_on i in
    let one : 1 + m ≡ suc m = omega arith in
    let far : at + 1 + 1 + m ≡ at + 1 + (1 + m) = omega arith in
    ap (λ t. put t (is_name_byte b && continues (at + 1) others) at b others) (name_not_blank b h) ∙ ap (λ u. put false u at b others) joined ∙ ap (join at b) (ih e)
    ∙ ap (λ p. token at (b ∷ take p (c ∷ cs)) ∷ tokens_from (at + 1 + 1 + m) (drop p (c ∷ cs))) (sym one)
    ∙ ap (λ p. token at (b ∷ take (1 + m) (c ∷ cs)) ∷ tokens_from p (drop (1 + m) (c ∷ cs))) far
word_cons false b c cs at m e h ih =
    let others = tokens_from (at + 1) (c ∷ cs) in
    let not_joined : (is_name_byte b && continues (at + 1) others) ≡ false = λ i. h i && apart (is_blank c) c cs (at + 1) refl e i in
    single b (c ∷ cs) at (name_not_blank b h) not_joined ∙ ap (λ p. token at (b ∷ []) ∷ tokens_from p (c ∷ cs)) (sym (add-zero (at + 1)))

a_word : (bytes : List ℕ) (b at : ℕ) → is_name_byte b ≡ true → A_Word b (prefix_len is_name_byte bytes) bytes at
a_word [] b at h = single b [] at (name_not_blank b h) (λ i. h i && false)
a_word (c ∷ cs) b at h = word_cons (is_name_byte c) b c cs at (prefix_len is_name_byte cs) refl h (λ e. a_word cs c (at + 1) e)

pub next_word : (b : ℕ) (bytes : List ℕ) (at : ℕ) → is_name_byte b ≡ true → Splits at (b ∷ bytes) (prefix_len is_name_byte (b ∷ bytes))
next_word b bytes at h =
    let m = prefix_len is_name_byte bytes in
    let long : prefix_len is_name_byte (b ∷ bytes) ≡ suc m = ap (λ t. cond t (1 + m) 0) h ∙ omega arith in
    let far : at + 1 + m ≡ at + suc m = omega arith in
    let P : ℕ → Type 0 = λ n. Splits at (b ∷ bytes) n in
    subst P (sym long) (a_word bytes b at h ∙ ap (λ p. token at (b ∷ take m bytes) ∷ tokens_from p (drop m bytes)) far)

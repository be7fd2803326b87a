-- Texts of begins are read back.
use Rattle.std.proofs.Common.{◌≡◌, ℕ, suc, ◌+◌, ◌≤◌, ◌==◌, ◌&&◌, not, Bool, true, false, cond, List, [], ◌∷◌, ◌++◌, length, take, refl, sym, ap, ◌∙◌, subst, Option, Some, None, Ok, arith, IsUtf8}
use Rattle.std.specs.Prelude.{if◌then◌else◌, option_map, option_and_then, nat_lt}
use Rattle.std.specs.List.{position_or_len}
use Rattle.std.specs.Str.{is_utf8}
use Rattle.std.proofs.lemmas.Str.{IsUtf8-from_is_utf8, is_utf8-from_IsUtf8}
use Rattle.std.proofs.lemmas.Slice.Eq.{bytes_eq-Decides}
use Rattle.serde_json.specs.Data.{Data}
use Rattle.serde_json.specs.Read.{read}
use Rattle.mega_base.specs.Reading.{◌>>=◌}
use Rattle.mega_base.specs.Codecs.{bind-ok}
use Rattle.mega_syntax.specs.Names.{same}
use Rattle.mega_transcript.specs.Reading.{Read, Field, cut_at, until, shown, taken, two}
use Rattle.mega_transcript.specs.Requests.{compact_of, is_text, json_of, is_request, request_of, request_field, IsRequest}
use Rattle.mega_transcript.proofs.Forms.{lacks, until_again, Form, read_parts}

-- ---- what code finds
pub same_one : (text word : List ℕ) → same text word ≡ true → Some text ≡ Some word
same_one text word h = ap Some ((bytes_eq-Decides text word).0 h)

pub found_text : (word text : List ℕ) → Some text ≡ option_and_then compact_of (json_of word) → (if same text word then Some word else None) ≡ request_of word
unfolding is_request
found_text word text h = ap (λ c. if is_text word c then Some word else None) h

pub found_none : (word : List ℕ) → None ≡ option_and_then compact_of (json_of word) → None ≡ request_of word
unfolding is_request
found_none word h = ap (λ c. if is_text word c then Some word else None) h

pub json_there : (word : List ℕ) (d : Data) → IsUtf8 word → read word ≡ Some d → Some d ≡ json_of word
unfolding json_of
json_there word d u r = sym (ap (λ b. if b then read word else None) (is_utf8-from_IsUtf8 word u) ∙ r)

pub no_json : (word : List ℕ) → (IsUtf8 word → read word ≡ None) → None ≡ json_of word
unfolding json_of
no_json word h = by (is_utf8 word) refl
  where
    by : (b : Bool) → is_utf8 word ≡ b → None ≡ (if b then read word else None)
    by true u = sym (h (IsUtf8-from_is_utf8 word u))
    by false u = refl

-- ---- the last field of a line
pub record LastForm {A : Type 0} (field : Field A) (text : A → List ℕ → List ℕ) (Fits : A → Type 0) : Type 0 where
  pub again : (x : A) (rest : List ℕ) → Fits x → field 10 (text x (10 ∷ rest)) ≡ Ok (x, rest)
  pub fits : (left : List ℕ) (x : A) (rest : List ℕ) → field 10 left ≡ Ok (x, rest) → Fits x

pub two_last : {A B : Type 0} (between : ℕ) (f : Field A) (g : Field B) (ta : A → List ℕ → List ℕ) (tb : B → List ℕ → List ℕ) (Fa : A → Type 0) (Fb : B → Type 0)
    → between ≤ 46 → Form f ta Fa → LastForm g tb Fb
    → LastForm (two between f g) (λ x tail. ta x.0 (between ∷ tb x.1 tail)) (λ x. Fa x.0 × Fb x.1)
two_last {A} {B} between f g ta tb Fa Fb low a b = record {
  again = λ x rest fit.
      ap (λ (r : Read A). r >>= λ y. g 10 y.1 >>= λ z. Ok ((y.0, z.0), z.1)) (a.again between x.0 (tb x.1 (10 ∷ rest)) low fit.0)
      ∙ ap (λ (r : Read B). r >>= λ z. Ok ((x.0, z.0), z.1)) (b.again x.1 rest fit.1);
  fits = λ left x rest h.
      let first = bind-ok (f between left) (λ y. g 10 y.1 >>= λ z. Ok ((y.0, z.0), z.1)) (x, rest) h in
      let second = bind-ok (g 10 first.0.1) (λ z. Ok ((first.0.0, z.0), z.1)) (x, rest) first.2 in
      let same : ((first.0.0, second.0.0) ≡ x) × (second.0.1 ≡ rest) = read_parts (first.0.0, second.0.0) x second.0.1 rest second.2 in
      let P : A × B → Type 0 = λ y. Fa y.0 × Fb y.1 in
      subst P same.0 (a.fits between left first.0.0 first.0.1 first.1, b.fits first.0.1 second.0.0 second.0.1 second.1);
}

lacks_before : (end : ℕ) (xs : List ℕ) → lacks end (take (position_or_len (λ b. b == end) xs) xs) ≡ true
lacks_before end [] = refl
lacks_before end (x ∷ xs) = by (not (x == end)) refl (lacks_before end xs)
  where
    by : (b : Bool) → not (x == end) ≡ b → lacks end (take (position_or_len (λ c. c == end) xs) xs) ≡ true
        → lacks end (take (cond b (1 + position_or_len (λ c. c == end) xs) 0) (x ∷ xs)) ≡ true
    by true e ih =
        let n : ℕ = position_or_len (λ c. c == end) xs in
        ap (λ m. lacks end (take m (x ∷ xs))) (let k : 1 + n ≡ suc n = omega arith in k) ∙ ap (λ t. t && lacks end (take (position_or_len (λ c. c == end) xs) xs)) e ∙ ih
    by false e ih = refl

until_lacks : (end : ℕ) (left : List ℕ) (word : List ℕ × List ℕ) → until end left ≡ Some word → lacks end word.0 ≡ true
unfolding until
until_lacks end left word h = by (nat_lt (position_or_len (λ b. b == end) left) (length left)) h
  where
    by : (t : Bool) → option_map (cut_at left) (cond t (Some (position_or_len (λ b. b == end) left)) None) ≡ Some word → lacks end word.0 ≡ true
    by true e =
        let place : ℕ = position_or_len (λ b. b == end) left in
        let same : cut_at left place ≡ word = cc in
        subst (λ (w : List ℕ × List ℕ). lacks end w.0 ≡ true) same (lacks_before end left)
    by false e = absurd (cc)

request_fits : (word text : List ℕ) → request_of word ≡ Some text → (word ≡ text) × (is_request text ≡ true)
request_fits word text h = by (is_request word) refl h
  where
    by : (b : Bool) → is_request word ≡ b → (if b then Some word else None) ≡ Some text → (word ≡ text) × (is_request text ≡ true)
    by true e k = let s : word ≡ text = cc in (s, subst (λ w. is_request w ≡ true) s e)
    by false e k = absurd (cc)

pub request_form : LastForm request_field (λ text tail. text ++ tail) IsRequest
unfolding request_field
request_form = record {
  again = λ text rest fit.
      ap (taken request_of (length (text ++ 10 ∷ rest))) (until_again 10 text rest fit.0)
      ∙ ap (λ b. shown (length (text ++ 10 ∷ rest)) rest (if b then Some text else None)) fit.1;
  fits = λ left text rest h. from left (until 10 left) refl (length left) text rest h;
}
  where
    from_shown : (n : ℕ) (after : List ℕ) (o : Option (List ℕ)) (x rest : List ℕ) → shown n after o ≡ Ok (x, rest) → o ≡ Some x
    from_shown n after None x rest h = absurd (cc)
    from_shown n after (Some y) x rest h = ap Some (read_parts y x after rest h).0

    from : (left : List ℕ) (o : Option (List ℕ × List ℕ)) → until 10 left ≡ o → (n : ℕ) (text rest : List ℕ) → taken request_of n o ≡ Ok (text, rest) → IsRequest text
    from left None e n text rest h = absurd (cc)
    from left (Some w) e n text rest h =
        let fit = request_fits w.0 text (from_shown n w.1 (request_of w.0) text rest h) in
        (subst (λ t. lacks 10 t ≡ true) fit.0 (until_lacks 10 left w e), fit.1)

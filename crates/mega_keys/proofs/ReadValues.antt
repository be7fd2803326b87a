-- Text, and values one after another.
use Rattle.std.proofs.Common.{◌≡◌, ℕ, suc, ◌+◌, ◌-◌, ◌<◌, cond, Bool, true, false, List, [], ◌∷◌, ◌++◌, length, take, drop, get_or, refl, sym, ap, ◌∙◌, add-one, drop-cons, append-nil, Ok, Err, IsUtf8}
use Rattle.std.specs.List.{flat_map}
use Rattle.std.specs.Str.{is_utf8}
use Rattle.std.specs.Str.Lossy.{utf8_valid_len}
use Rattle.std.proofs.lemmas.Str.{IsUtf8-from_is_utf8, is_utf8-from_IsUtf8}
use Rattle.mega_base.specs.declared.values.Value.{Value}
use Rattle.mega_base.specs.declared.values.Value.TheVariants.{Str}
use Rattle.mega_base.specs.declared.values.Kind.{Kind}
use Rattle.mega_keys.specs.declared.read.Stop.{Stop}
use Rattle.mega_keys.specs.declared.read.Stop.TheVariants.{Left, Refused}
use Rattle.mega_keys.specs.Spelling.{escape}
use Rattle.mega_keys.specs.Reading.{Read, ◌>>=◌, Fails, with_front, text_of, value_at, values_at}
use Rattle.mega_keys.proofs.Escapes.{with_front-append}

pub text_ok : (found : List ℕ) (n : ℕ) → IsUtf8 found → text_of found n ≡ Ok (Str found)
unfolding text_of
text_ok found n utf8 = ap (λ b. cond b (Ok (Str found)) (Err (n - length (flat_map escape (take (utf8_valid_len found) found))))) (is_utf8-from_IsUtf8 found utf8)

not_utf8 : (found : List ℕ) (b : Bool) → is_utf8 found ≡ b → (IsUtf8 found → ⊥) → is_utf8 found ≡ false
not_utf8 found true e h = absurd (h (IsUtf8-from_is_utf8 found e))
not_utf8 found false e h = e

pub text_fails : (found : List ℕ) (n : ℕ) → (IsUtf8 found → ⊥) → text_of found n ≡ Err (n - length (flat_map escape (take (utf8_valid_len found) found)))
unfolding text_of
text_fails found n no_text = ap (λ b. cond b (Ok (Str found)) (Err (n - length (flat_map escape (take (utf8_valid_len found) found))))) (not_utf8 found (is_utf8 found) refl no_text)

-- the values behind a first one
others : Value → List Kind → List ℕ → Read (List Value)
others v ks rest = with_front (v ∷ []) (values_at ks rest)

pub values_cons : (k : Kind) (ks : List Kind) (v : Value) (left rest : List ℕ) → value_at k left ≡ Ok (v, rest) → values_at (k ∷ ks) left ≡ with_front (v ∷ []) (values_at ks rest)
unfolding values_at
values_cons k ks v left rest h =
    ap (λ (r : Read Value). r >>= λ first. values_at ks first.1 >>= λ more. Ok (first.0 ∷ more.0, more.1)) h ∙ joins (values_at ks rest)
  where
    joins : (r : Read (List Value)) → (r >>= λ more. Ok (v ∷ more.0, more.1)) ≡ with_front (v ∷ []) r
    joins (Ok x) = refl
    joins (Err n) = refl

pub values_more : (ks : List Kind) (i : ℕ) (d : Kind) (vs : List Value) (v : Value) (left rest : List ℕ) (whole : Read (List Value)) → i < length ks → value_at (get_or ks i d) left ≡ Ok (v, rest) → with_front vs (values_at (drop i ks) left) ≡ whole → with_front (vs ++ v ∷ []) (values_at (drop (i + 1) ks) rest) ≡ whole
values_more ks i d vs v left rest whole lt h e =
    with_front-append vs (v ∷ []) (values_at (drop (i + 1) ks) rest) ∙ ap (λ n. with_front vs (with_front (v ∷ []) (values_at (drop n ks) rest))) (add-one i) ∙ ap (with_front vs) (sym (values_cons (get_or ks i d) (drop (suc i) ks) v left rest h)) ∙ ap (λ l. with_front vs (values_at l left)) (sym (drop-cons ks i d lt)) ∙ e

pub values_fail : (ks : List Kind) (i : ℕ) (d : Kind) (vs : List Value) (stop : Stop) (left : List ℕ) (whole : Read (List Value)) → i < length ks → Fails stop (value_at (get_or ks i d) left) → with_front vs (values_at (drop i ks) left) ≡ whole → Fails stop whole
unfolding values_at
values_fail ks i d vs Refused left whole lt h e = tt
values_fail ks i d vs (Left n) left whole lt h e =
    sym e ∙ ap (λ l. with_front vs (values_at l left)) (drop-cons ks i d lt) ∙ ap (λ (r : Read Value). with_front vs (r >>= λ first. values_at (drop (suc i) ks) first.1 >>= λ more. Ok (first.0 ∷ more.0, more.1))) h

pub values_end : (ks : List Kind) (vs : List Value) (left : List ℕ) (whole : Read (List Value)) → ks ≡ [] → with_front vs (values_at ks left) ≡ whole → whole ≡ Ok (vs, left)
unfolding values_at
values_end ks vs left whole none e = sym e ∙ ap (λ l. with_front vs (values_at l left)) none ∙ ap (λ (l : List Value). Ok (l, left)) (append-nil vs)

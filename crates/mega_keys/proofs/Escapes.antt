-- Escaped bytes, one byte after another.
use Rattle.std.proofs.Common.{◌≡◌, ℕ, zero, suc, ◌<◌, cond, eqb, Bool, true, false, List, [], ◌∷◌, ◌++◌, length, refl, sym, ap, ◌∙◌, subst, arith, append_assoc, append-nil, Option, Some, None, Ok, Err}
use Rattle.mega_keys.specs.declared.read.Stop.{Stop}
use Rattle.mega_keys.specs.declared.read.Stop.TheVariants.{Left, Refused}
use Rattle.mega_keys.specs.Reading.{Read, Fails, with_front, unescaped, unit_at}

abbrev pub after_unit : Option ℕ → List ℕ → Read (List ℕ)
after_unit None rest = Ok ([], rest)
after_unit (Some b) rest = with_front (b ∷ []) (unescaped rest)

abbrev pub after : Read (Option ℕ) → Read (List ℕ)
after (Err n) = Err n
after (Ok x) = after_unit x.0 x.1

after_cond : (b : Bool) (x y : Read (Option ℕ)) → after (cond b x y) ≡ cond b (after x) (after y)
after_cond true x y = refl
after_cond false x y = refl

pub unescaped_unit : (bytes : List ℕ) → unescaped bytes ≡ after (unit_at bytes)
unfolding unescaped unit_at
unescaped_unit [] = refl
unescaped_unit (zero ∷ []) = refl
unescaped_unit (zero ∷ c ∷ rest) =
    sym (after_cond (eqb c 255) (Ok (Some 0, rest)) (cond (eqb c 1) (Ok (None, rest)) (Err (suc (length rest)))) ∙ ap (cond (eqb c 255) (with_front (0 ∷ []) (unescaped rest))) (after_cond (eqb c 1) (Ok (None, rest)) (Err (suc (length rest)))))
unescaped_unit (suc b ∷ rest) = refl

abbrev pub IsShorter : Read (Option ℕ) → ℕ → Type 0
IsShorter (Err n) m = Unit {0}
IsShorter (Ok x) m = length x.1 < m

shorter_cond : (b : Bool) (x y : Read (Option ℕ)) (m : ℕ) → IsShorter x m → IsShorter y m → IsShorter (cond b x y) m
shorter_cond true x y m h g = h
shorter_cond false x y m h g = g

pub unit_shorter : (bytes : List ℕ) → IsShorter (unit_at bytes) (length bytes)
unfolding unit_at
unit_shorter [] = tt
unit_shorter (zero ∷ []) = tt
unit_shorter (zero ∷ c ∷ rest) = shorter_cond (eqb c 255) _ _ _ (omega arith) (shorter_cond (eqb c 1) _ _ _ (omega arith) tt)
unit_shorter (suc b ∷ rest) = omega arith

pub with_front-append : {A : Type 0} (a b : List A) (r : Read (List A)) → with_front (a ++ b) r ≡ with_front a (with_front b r)
with_front-append {A} a b (Ok x) = ap (λ (l : List A). Ok (l, x.1)) (append_assoc a b x.0)
with_front-append a b (Err n) = refl

pub unit_fails : (stop : Stop) (found left : List ℕ) (whole : Read (List ℕ)) → Fails stop (unit_at left) → with_front found (unescaped left) ≡ whole → Fails stop whole
unit_fails Refused found left whole h e = tt
unit_fails (Left n) found left whole h e = sym e ∙ ap (with_front found) (unescaped_unit left ∙ ap after h)

pub unit_ends : (found left rest : List ℕ) (whole : Read (List ℕ)) → unit_at left ≡ Ok (None, rest) → with_front found (unescaped left) ≡ whole → whole ≡ Ok (found, rest)
unit_ends found left rest whole h e = sym e ∙ ap (with_front found) (unescaped_unit left ∙ ap after h) ∙ ap (λ l. Ok (l, rest)) (append-nil found)

pub unit_more : (found left rest : List ℕ) (b : ℕ) (whole : Read (List ℕ)) → unit_at left ≡ Ok (Some b, rest) → with_front found (unescaped left) ≡ whole → with_front (found ++ b ∷ []) (unescaped rest) ≡ whole
unit_more found left rest b whole h e = with_front-append found (b ∷ []) (unescaped rest) ∙ sym (ap (with_front found) (unescaped_unit left ∙ ap after h)) ∙ e

pub unit_less : (left rest : List ℕ) (o : Option ℕ) → unit_at left ≡ Ok (o, rest) → length rest < length left
unit_less left rest o h = let P : Read (Option ℕ) → Type 0 = λ r. IsShorter r (length left) in subst P h (unit_shorter left)

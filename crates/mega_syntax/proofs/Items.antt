-- Items one after another.
use Rattle.std.proofs.Common.{◌≡◌, ℕ, zero, suc, ◌<◌, ◌≤◌, List, [], ◌∷◌, ◌++◌, length, refl, sym, ap, ◌∙◌, subst, arith, append_assoc, append-nil, length-append, Option, Some, None, Result, Ok, Err}
use Rattle.mega_syntax.specs.Reading.{Texts, Read, ◌>>=◌, go_on, items_at}
use Rattle.mega_syntax.specs.Grammar.{spell_items, FitItems}

pub bind_ok : {A B : Type 0} (r : Result A ℕ) (f : A → Result B ℕ) (y : B) → (r >>= f) ≡ Ok y → (x : A) × (r ≡ Ok x) × (f x ≡ Ok y)
bind_ok (Ok x) f y h = (x, refl, h)
bind_ok (Err n) f y h = absurd (cc)

pub ok_parts : {A B : Type 0} (a c : A) (b d : B) → ◌≡◌ {A = Result (A × B) ℕ} (Ok (a, b)) (Ok (c, d)) → (a ≡ c) × (b ≡ d)
ok_parts {A} {B} a c b d h = let e : (a, b) ≡ (c, d) = cc in (ap (λ (x : A × B). x.0) e, ap (λ (x : A × B). x.1) e)

-- what one step tells
abbrev pub StepTells : {A : Type 0} → (List A → A → Texts → Type 0) → (List A → A → Texts) → Texts → List A → Texts → Option A → Texts → Type 0
StepTells Fit item close done ts None rest = ts ≡ close ++ rest
StepTells Fit item close done ts (Some a) rest = (ts ≡ item done a ++ rest) × Fit done a ts × (length rest < length ts)

abbrev pub StepTakes : {A : Type 0} → (List A → Texts → Read (Option A)) → (List A → A → Texts → Type 0) → (List A → A → Texts) → Texts → Type 0
StepTakes {A} step Fit item close = (done : List A) (ts : Texts) (o : Option A) (rest : Texts) → step done ts ≡ Ok (o, rest) → StepTells Fit item close done ts o rest

-- what all steps tell
pub record ItemsTell {A : Type 0} (Fit : List A → A → Texts → Type 0) (item : List A → A → Texts) (close : Texts) (done : List A) (ts : Texts) (xs : List A) (rest : Texts) : Type 0 where
  pub more : List A
  pub all : xs ≡ done ++ more
  pub spelled : ts ≡ spell_items item close done more ++ rest
  pub fit : FitItems Fit item close done more rest

module _ {A : Type 0} (step : List A → Texts → Read (Option A)) (Fit : List A → A → Texts → Type 0) (item : List A → A → Texts) (close : Texts) (law : StepTakes step Fit item close) where
  pub items_take : (n : ℕ) (done : List A) (ts : Texts) (xs : List A) (rest : Texts) → items_at step n done ts ≡ Ok (xs, rest) → ItemsTell Fit item close done ts xs rest
  unfolding items_at
  items_take zero done ts xs rest h = absurd (cc)
  items_take (suc n) done ts xs rest h =
      let s = bind_ok (step done ts) (λ x. go_on done (λ more us. items_at step n more us) x.0 x.1) (xs, rest) h in
      by s.0.0 s.0.1 (law done ts s.0.0 s.0.1 s.1) (λ a us g. items_take n (done ++ a ∷ []) us xs rest g) s.2
    where
      by : (o : Option A) (us : Texts) → StepTells Fit item close done ts o us → ((a : A) (vs : Texts) → items_at step n (done ++ a ∷ []) vs ≡ Ok (xs, rest) → ItemsTell Fit item close (done ++ a ∷ []) vs xs rest) → go_on done (λ more vs. items_at step n more vs) o us ≡ Ok (xs, rest) → ItemsTell Fit item close done ts xs rest
      by None us t ih g =
          let p = ok_parts done xs us rest g in
          record { more = []; all = sym p.0 ∙ sym (append-nil done); spelled = t ∙ ap (λ x. close ++ x) p.1; fit = tt }
      by (Some a) us t ih g =
          let r = ih a us g in
          let spelled : ts ≡ spell_items item close done (a ∷ r.more) ++ rest = t.0 ∙ ap (λ x. item done a ++ x) r.spelled ∙ sym (append_assoc (item done a) (spell_items item close (done ++ a ∷ []) r.more) rest) in
          record { more = a ∷ r.more; all = r.all ∙ append_assoc done (a ∷ []) r.more; spelled = spelled; fit = (subst (Fit done a) spelled t.1, r.fit) }

  -- more steps than tokens change nothing
  pub items_enough : (n m : ℕ) (done : List A) (ts : Texts) → length ts < n → length ts < m → items_at step n done ts ≡ items_at step m done ts
  unfolding items_at
  items_enough zero m done ts h g = absurd (omega (arith, h))
  items_enough (suc n) zero done ts h g = absurd (omega (arith, g))
  items_enough (suc n) (suc m) done ts h g = by (step done ts) (λ o us e. law done ts o us e) (λ a us lt. items_enough n m (done ++ a ∷ []) us (omega arith) (omega arith))
    where
      by : (r : Read (Option A)) → ((o : Option A) (us : Texts) → r ≡ Ok (o, us) → StepTells Fit item close done ts o us) → ((a : A) (us : Texts) → length us < length ts → items_at step n (done ++ a ∷ []) us ≡ items_at step m (done ++ a ∷ []) us)
          → (r >>= λ x. go_on done (λ more us. items_at step n more us) x.0 x.1) ≡ (r >>= λ x. go_on done (λ more us. items_at step m more us) x.0 x.1)
      by (Err e) t ih = refl
      by (Ok x) t ih = pick x.0 x.1 (t x.0 x.1 refl) ih
        where
          pick : (o : Option A) (us : Texts) → StepTells Fit item close done ts o us → ((a : A) (vs : Texts) → length vs < length ts → items_at step n (done ++ a ∷ []) vs ≡ items_at step m (done ++ a ∷ []) vs) → go_on done (λ more vs. items_at step n more vs) o us ≡ go_on done (λ more vs. items_at step m more vs) o us
          pick None us t ih = refl
          pick (Some a) us t ih = ih a us t.2

-- what was spelled is read again, step by step
abbrev pub StepAgain : {A : Type 0} → (List A → Texts → Read (Option A)) → (List A → A → Texts → Type 0) → (List A → A → Texts) → Type 0
StepAgain {A} step Fit item = (done : List A) (a : A) (more : Texts) → Fit done a (item done a ++ more) → step done (item done a ++ more) ≡ Ok (Some a, more)

module _ {A : Type 0} (step : List A → Texts → Read (Option A)) (Fit : List A → A → Texts → Type 0) (item : List A → A → Texts) (close : Texts) (rest : Texts) (again : StepAgain step Fit item) (closes : (done : List A) → step done (close ++ rest) ≡ Ok (None, rest)) where
  pub items_again : (n : ℕ) (done more : List A) → length more < n → FitItems Fit item close done more rest → items_at step n done (spell_items item close done more ++ rest) ≡ Ok (done ++ more, rest)
  unfolding items_at
  items_again zero done more h fit = absurd (omega (arith, h))
  items_again (suc n) done [] h fit =
      ap (λ (r : Read (Option A)). r >>= λ x. go_on done (λ l us. items_at step n l us) x.0 x.1) (closes done) ∙ ap (λ (l : List A). Ok (l, rest)) (sym (append-nil done))
  items_again (suc n) done (a ∷ more) h fit =
      let others = spell_items item close (done ++ a ∷ []) more in
      let split = append_assoc (item done a) others rest in
      ap (items_at step (suc n) done) split
      ∙ ap (λ (r : Read (Option A)). r >>= λ x. go_on done (λ l us. items_at step n l us) x.0 x.1) (again done a (others ++ rest) (subst (Fit done a) split fit.0))
      ∙ items_again n (done ++ a ∷ []) more (omega (arith, h)) fit.1
      ∙ ap (λ (l : List A). Ok (l, rest)) (append_assoc done (a ∷ []) more)

-- items that have tokens are no more than the tokens
pub items_long : {A : Type 0} (item : List A → A → Texts) (close : Texts) → ((done : List A) (a : A) → 0 < length (item done a)) → (done more : List A) → length more ≤ length (spell_items item close done more)
items_long item close some done [] = omega arith
items_long item close some done (a ∷ more) =
    omega (arith, some done a, length-append (item done a) (spell_items item close (done ++ a ∷ []) more), items_long item close some (done ++ a ∷ []) more)

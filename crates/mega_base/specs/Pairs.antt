-- Two values, one after the other.
use Rattle.std.proofs.Common.{◌≡◌, ℕ, List, ◌++◌, refl, sym, ◌∙◌, ap, subst, Ok}
use Rattle.mega_base.specs.Reading.{Place, Read, ◌>>=◌}
use Rattle.mega_base.specs.Codec.{Codec, IsText}
use Rattle.mega_base.specs.Codecs.{bind_codec, embed_codec, refit_codec}

unfoldable pub pair_at : {A B : Type 0} → (Place → Read A) → (Place → Read B) → Place → Read (A × B)
pair_at ra rb p =
    ra p >>= λ a.
    rb a.1 >>= λ b.
    Ok ((a.0, b.0), b.1)

abbrev pub pair_text : {A B : Type 0} → (A → List ℕ) → (B → List ℕ) → A × B → List ℕ
pair_text sa sb x = sa x.0 ++ sb x.1

abbrev pub IsPair : {A B : Type 0} → (A → Type 0) → (B → Type 0) → A × B → Type 0
IsPair Fa Fb x = Fa x.0 × Fb x.1

-- a first value's text, and a text that opens the second
abbrev pub OpensPair : {A : Type 0} → (A → List ℕ) → (A → Type 0) → (List ℕ → Type 0) → List ℕ → Type 0
OpensPair {A} sa Fa Ob text = (x : A) × (rest : List ℕ) × Fa x × Ob rest × (sa x ++ rest ≡ text)

pub pair_codec : {A B : Type 0} (ra : Place → Read A) (sa : A → List ℕ) (Fa : A → Type 0) (rb : Place → Read B) (sb : B → List ℕ) (Ob : List ℕ → Type 0) (Fb : B → Type 0)
    → Codec ra sa (IsText sa Fa) Fa → Codec rb sb Ob Fb → (u : List ℕ) → Ob u
    → Codec (pair_at ra rb) (pair_text sa sb) (OpensPair sa Fa Ob) (IsPair Fa Fb)
unfolding pair_at
pair_codec {A} {B} ra sa Fa rb sb Ob Fb ca cb u shown =
    bind_codec ra sa Fa (λ x p. rb p >>= λ b. Ok (pair x b.0, b.1)) (λ x y. sb y.1) (λ _. Ob) Second
    (pair_text sa sb) (OpensPair sa Fa Ob) (IsPair Fa Fb) ca
    (λ x f. embed_codec rb sb Ob Fb (pair x) (λ y. sb y.1) Ob (Second x) cb (λ y g. (refl, (refl, g))) (λ l w. w) (λ y g. (y.1, g.1, ap (λ z. pair z y.1) (sym g.0))))
    (λ x y f g. (ap (λ z. sa z ++ sb y.1) g.0, (first x y f g, g.1)))
    (λ x t f w. (x, t, f, w, refl))
    (λ y g. (y.0, g.0, (refl, g.1)))
    (λ x f. (u, shown))
  where
    pair : A → B → A × B
    pair x y = (x, y)

    Second : A → A × B → Type 0
    Second x y = (y.0 ≡ x) × Fb y.1

    first : (x : A) (y : A × B) → Fa x → Second x y → Fa y.0
    first x y f g = subst Fa (sym g.0) f

-- the same where the texts are measured by the grammar itself
pub plain_pair_codec : {A B : Type 0} (ra : Place → Read A) (sa : A → List ℕ) (Fa : A → Type 0) (rb : Place → Read B) (sb : B → List ℕ) (Fb : B → Type 0)
    → Codec ra sa (IsText sa Fa) Fa → Codec rb sb (IsText sb Fb) Fb → (y : B) → Fb y
    → Codec (pair_at ra rb) (pair_text sa sb) (IsText (pair_text sa sb) (IsPair Fa Fb)) (IsPair Fa Fb)
plain_pair_codec ra sa Fa rb sb Fb ca cb y f =
    refit_codec (pair_at ra rb) (pair_text sa sb) (pair_text sa sb) (OpensPair sa Fa (IsText sb Fb)) (IsText (pair_text sa sb) (IsPair Fa Fb)) (IsPair Fa Fb) (IsPair Fa Fb)
    (pair_codec ra sa Fa rb sb (IsText sb Fb) Fb ca cb (sb y) (y, f, refl))
    (λ x g. (g, refl)) (λ x g. g)
    (λ l w. ((w.0, w.3.0), (w.2, w.3.1), ap (λ t. sa w.0 ++ t) w.3.2 ∙ w.4))

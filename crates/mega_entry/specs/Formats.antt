-- Formats with a value that has a text, and one format behind another: a format's law needs such a value.
use Rattle.std.proofs.Common.{◌≡◌, ℕ, Bool, true, false, List, ◌++◌, refl, Ok}
use Rattle.std.specs.Prelude.{if◌then◌else◌}
use Rattle.mega_base.specs.Reading.{Place, Read, ◌>>=◌}
use Rattle.mega_base.specs.Pairs.{pair_at, pair_text, IsPair, OpensPair, pair_codec, plain_pair_codec}
use Rattle.mega_base.specs.Codec.{Codec, IsText}
use Rattle.mega_base.specs.Codecs.{embed_codec}

-- a format with its law, and a value that has a text
pub record Format {A : Type 0} (read : Place → Read A) (spell : A → List ℕ) (Fits : A → Type 0) : Type 0 where
  pub codec : Codec read spell (IsText spell Fits) Fits
  pub some : A
  pub fits : Fits some

-- the same where the texts that open it are told apart
pub record Open {A : Type 0} (read : Place → Read A) (spell : A → List ℕ) (Opens : List ℕ → Type 0) (Fits : A → Type 0) : Type 0 where
  pub codec : Codec read spell Opens Fits
  pub some : List ℕ
  pub shown : Opens some

-- one behind the other
pub both : {A B : Type 0} {ra : Place → Read A} {sa : A → List ℕ} {Fa : A → Type 0} {rb : Place → Read B} {sb : B → List ℕ} {Fb : B → Type 0}
    → Format ra sa Fa → Format rb sb Fb → Format (pair_at ra rb) (pair_text sa sb) (IsPair Fa Fb)
both {ra = ra} {sa = sa} {Fa = Fa} {rb = rb} {sb = sb} {Fb = Fb} a b = record {
  codec = plain_pair_codec ra sa Fa rb sb Fb a.codec b.codec b.some b.fits;
  some = (a.some, b.some);
  fits = (a.fits, b.fits);
}

-- one before texts that are told apart
pub before : {A B : Type 0} {ra : Place → Read A} {sa : A → List ℕ} {Fa : A → Type 0} {rb : Place → Read B} {sb : B → List ℕ} {Ob : List ℕ → Type 0} {Fb : B → Type 0}
    → Format ra sa Fa → Open rb sb Ob Fb → Open (pair_at ra rb) (pair_text sa sb) (OpensPair sa Fa Ob) (IsPair Fa Fb)
before {ra = ra} {sa = sa} {Fa = Fa} {rb = rb} {sb = sb} {Ob = Ob} {Fb = Fb} a b = record {
  codec = pair_codec ra sa Fa rb sb Ob Fb a.codec b.codec b.some b.shown;
  some = sa a.some ++ b.some;
  shown = (a.some, b.some, a.fits, b.shown, refl);
}

-- a value made of what is read
pub embed_open : {A B : Type 0} {r : Place → Read A} {s : A → List ℕ} {O : List ℕ → Type 0} {F : A → Type 0} → (c : Open r s O F) (make : A → B) (t : B → List ℕ) (U : List ℕ → Type 0) (G : B → Type 0)
    → ((x : A) → F x → (t (make x) ≡ s x) × G (make x))
    → ((l : List ℕ) → O l → U l)
    → ((y : B) → G y → (x : A) × F x × (make x ≡ y))
    → Open (λ p. r p >>= λ x. Ok (make x.0, x.1)) t U G
embed_open {r = r} {s = s} {O = O} {F = F} c make t U G to opens from = record {
  codec = embed_codec r s O F make t U G c.codec to opens from;
  some = c.some;
  shown = opens c.some c.shown;
}

-- the texts of a format open it
pub open_of : {A : Type 0} {r : Place → Read A} {s : A → List ℕ} {F : A → Type 0} → Format r s F → Open r s (IsText s F) F
open_of {s = s} c = record { codec = c.codec; some = s c.some; shown = (c.some, c.fits, refl) }

-- the choice of a kind
pub if_open : {A : Type 0} (b : Bool) {r1 r2 : Place → Read A} {s : A → List ℕ} {O : List ℕ → Type 0} {F : A → Type 0}
    → (b ≡ true → Open r1 s O F) → (b ≡ false → Open r2 s O F) → Open (λ p. if b then r1 p else r2 p) s O F
if_open true when_true when_false = when_true refl
if_open false when_true when_false = when_false refl

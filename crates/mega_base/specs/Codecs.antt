-- Codecs made of codecs.
use Rattle.std.proofs.Common.{◌≡◌, ℕ, zero, suc, ◌+◌, ◌-◌, ◌<◌, ◌≤◌, Bool, true, false, List, [], ◌∷◌, ◌++◌, length, take, drop, refl, sym, ◌∙◌, ap, subst, inl, inr, ◌⊎◌, Result, Ok, Err, Option, Some, None, IsErr, arith, append_assoc, length-append, add_assoc, add-zero}
use Rattle.std.specs.Prelude.{if◌then◌else◌, nat_le, ◌&&◌}
use Rattle.std.proofs.lemmas.Bool.Decides.{nat_tests}
use Rattle.mega_base.specs.Reading.{Place, place, Read, ◌>>=◌, first_in, byte_in, first_where, byte_where}
use Rattle.mega_base.specs.Codec.{BytesBetween, first_of, Stop, Codec, IsText, IsBetween, one_byte}

-- a reading in two steps that gives a value took both
pub bind-ok : {A B : Type 0} (r : Result A ℕ) (f : A → Result B ℕ) (b : B) → r >>= f ≡ Ok b → (a : A) × (r ≡ Ok a) × (f a ≡ Ok b)
bind-ok (Ok a) f b h = (a, refl, h)
bind-ok (Err e) f b h = absurd (cc)

-- one that is refused is refused in the first step or in the second
pub bind-err : {A B : Type 0} (r : Result A ℕ) (f : A → Result B ℕ) (e : ℕ) → r >>= f ≡ Err e → (r ≡ Err e) ⊎ ((a : A) × (r ≡ Ok a) × (f a ≡ Err e))
bind-err (Ok a) f e h = inr (a, refl, h)
bind-err (Err d) f e h = inl (let k : d ≡ e = cc in ap Err k)

pub bind-is_err : {A B : Type 0} (r : Result A ℕ) (f : A → Result B ℕ) → IsErr r → IsErr (r >>= f)
bind-is_err (Ok a) f h = absurd (cc)
bind-is_err (Err e) f h = refl

-- what an `Ok` holds, by its parts
pub ok_parts : {A : Type 0} (x y : A) (p q : Place) → (let l : Read A = Ok (x, p) in let r : Read A = Ok (y, q) in l ≡ r) → (x ≡ y) × (p ≡ q)
ok_parts {A} x y p q h =
    let a : A × Place = (x, p) in
    let b : A × Place = (y, q) in
    let e : a ≡ b = cc in
    (ap (λ (z : A × Place). z.0) e, ap (λ (z : A × Place). z.1) e)

pub Stands-then : (p : Place) (a : List ℕ) (q : Place) (b : List ℕ) (r : Place) → BytesBetween p a q → BytesBetween q b r → BytesBetween p (a ++ b) r
Stands-then p a q b r s t = record {
  text = s.text ∙ (ap (λ l. a ++ l) t.text ∙ sym (append_assoc a b r.left));
  offset = omega (arith, s.offset, t.offset, length-append a b);
}

-- Two steps: a value of A, and then what rb reads for that value. A value of B is spelled as its first part and
-- the rest; each first part begins some value of B.
pub bind_codec : {A B : Type 0} (ra : Place → Read A) (sa : A → List ℕ) (Fa : A → Type 0) (rb : A → Place → Read B) (sb : A → B → List ℕ) (Ob : A → List ℕ → Type 0) (Fb : A → B → Type 0)
    (s : B → List ℕ) (O : List ℕ → Type 0) (F : B → Type 0)
    → Codec ra sa (IsText sa Fa) Fa
    → ((x : A) → Fa x → Codec (rb x) (sb x) (Ob x) (Fb x))
    → ((x : A) (y : B) → Fa x → Fb x y → (s y ≡ sa x ++ sb x y) × F y)
    → ((x : A) (t : List ℕ) → Fa x → Ob x t → O (sa x ++ t))
    → ((y : B) → F y → (x : A) × Fa x × Fb x y)
    → ((x : A) → Fa x → (t : List ℕ) × Ob x t)
    → Codec (λ p. ra p >>= λ a. rb a.0 a.1) s O F
bind_codec {A} {B} ra sa Fa rb sb Ob Fb s O F ca cb splits joins parts fill = record {
  takes = λ p y q h.
      let read : (a : A × Place) × (ra p ≡ Ok a) × (rb a.0 a.1 ≡ Ok (y, q)) = bind-ok (ra p) (λ a. rb a.0 a.1) (y, q) h in
      let x : A = read.0.0 in
      let first : BytesBetween p (sa x) read.0.1 × Fa x = ca.takes p x read.0.1 read.1 in
      let second : BytesBetween read.0.1 (sb x y) q × Fb x y = (cb x first.1).takes read.0.1 y q read.2 in
      let split = splits x y first.1 second.1 in
      (subst (λ (t : List ℕ). BytesBetween p t q) (sym split.0) (Stands-then p (sa x) read.0.1 (sb x y) q first.0 second.0), split.1);
  again = λ at y rest fits.
      let part : (x : A) × Fa x × Fb x y = parts y fits in
      let x : A = part.0 in
      let split = splits x y part.1 part.2 in
      rw (split.0, append_assoc (sa x) (sb x y) rest, ca.again at x (sb x y ++ rest) part.1, (cb x part.1).again (at + length (sa x)) y rest part.2, length-append (sa x) (sb x y), add_assoc at (length (sa x)) (length (sb x y))) refl;
  stops = λ p at h. elim (bind-err (ra p) (λ a. rb a.0 a.1) at h) as (λ _. Stop (λ p. ra p >>= λ a. rb a.0 a.1) O p at) [
    | inl e ↦ stop_first p at (ca.stops p at e)
    | inr r ↦
        let first : BytesBetween p (sa r.0.0) r.0.1 × Fa r.0.0 = ca.takes p r.0.0 r.0.1 r.1 in
        stop_second p at r.0.0 r.0.1 first.0 first.1 ((cb r.0.0 first.1).stops r.0.1 at r.2)
  ];
}
  where
    stop_first : (p : Place) (at : ℕ) → Stop ra (IsText sa Fa) p at → Stop (λ p. ra p >>= λ a. rb a.0 a.1) O p at
    stop_first p at t =
        let x : A = t.opens.0 in
        let y : (u : List ℕ) × Ob x u = fill x t.opens.1 in
        record {
          front = t.front;
          rest = t.rest;
          text = t.text;
          offset = t.offset;
          more = t.more ++ y.0;
          opens = subst O (ap (λ l. l ++ y.0) t.opens.2 ∙ append_assoc t.front t.more y.0) (joins x y.0 t.opens.1 y.1);
          blocked = λ other e. bind-is_err (ra (place p.at (t.front ++ other))) (λ a. rb a.0 a.1) (t.blocked other e);
        }

    stop_second : (p : Place) (at : ℕ) (x : A) (q : Place) → BytesBetween p (sa x) q → Fa x → Stop (rb x) (Ob x) q at → Stop (λ p. ra p >>= λ a. rb a.0 a.1) O p at
    stop_second p at x q first fits u = record {
      front = sa x ++ u.front;
      rest = u.rest;
      text = first.text ∙ (ap (λ l. sa x ++ l) u.text ∙ sym (append_assoc (sa x) u.front u.rest));
      offset = omega (arith, first.offset, u.offset, length-append (sa x) u.front);
      more = u.more;
      opens = subst O (sym (append_assoc (sa x) u.front u.more)) (joins x (u.front ++ u.more) fits u.opens);
      blocked = λ other e. rw (append_assoc (sa x) u.front other, ca.again p.at x (u.front ++ other) fits, ← first.offset) (u.blocked other e);
    }

-- one field after another: the field that comes first is a part of the whole
pub then_codec : {A B : Type 0} (ra : Place → Read A) (sa : A → List ℕ) (Fa : A → Type 0) (rb : A → Place → Read B) (sb : B → List ℕ) (Fb : A → B → Type 0)
    (first : B → A)
    → Codec ra sa (IsText sa Fa) Fa
    → ((x : A) → Fa x → Codec (rb x) sb (IsText sb (Fb x)) (Fb x))
    → ((x : A) (y : B) → Fa x → Fb x y → first y ≡ x)
    → ((x : A) → Fa x → (y : B) × Fb x y)
    → Codec (λ p. ra p >>= λ a. rb a.0 a.1) (λ y. sa (first y) ++ sb y) (IsText (λ y. sa (first y) ++ sb y) (λ y. Fa (first y) × Fb (first y) y)) (λ y. Fa (first y) × Fb (first y) y)
then_codec {A} {B} ra sa Fa rb sb Fb first ca cb keeps fill =
    bind_codec ra sa Fa rb (λ _. sb) (λ x. IsText sb (Fb x)) Fb (λ y. sa (first y) ++ sb y) (IsText (λ y. sa (first y) ++ sb y) (λ y. Fa (first y) × Fb (first y) y)) (λ y. Fa (first y) × Fb (first y) y) ca cb
    (λ x y f g. (ap (λ z. sa z ++ sb y) (keeps x y f g), at_first x y f g))
    (λ x t f w. (w.0, at_first x w.0 f w.1, ap (λ z. sa z ++ sb w.0) (keeps x w.0 f w.1) ∙ ap (λ l. sa x ++ l) w.2))
    (λ y h. (first y, h.0, h.1))
    (λ x f. let y = fill x f in (sb y.0, (y.0, y.1, refl)))
  where
    at_first : (x : A) (y : B) → Fa x → Fb x y → Fa (first y) × Fb (first y) y
    at_first x y f g = let e : first y ≡ x = keeps x y f g in (subst Fa (sym e) f, subst (λ (z : A). Fb z y) (sym e) g)

-- a value of another type, made of what was read
pub embed_codec : {A B : Type 0} (r : Place → Read A) (s : A → List ℕ) (O : List ℕ → Type 0) (F : A → Type 0)
    (make : A → B) (t : B → List ℕ) (U : List ℕ → Type 0) (G : B → Type 0)
    → Codec r s O F
    → ((x : A) → F x → (t (make x) ≡ s x) × G (make x))
    → ((l : List ℕ) → O l → U l)
    → ((y : B) → G y → (x : A) × F x × (make x ≡ y))
    → Codec (λ p. r p >>= λ a. Ok (make a.0, a.1)) t U G
embed_codec {A} {B} r s O F make t U G c to opens from = record {
  takes = λ p y q h.
      let read : (a : A × Place) × (r p ≡ Ok a) × (Ok (make a.0, a.1) ≡ Ok (y, q)) = bind-ok (r p) (λ a. Ok (make a.0, a.1)) (y, q) h in
      let first : BytesBetween p (s read.0.0) read.0.1 × F read.0.0 = c.takes p read.0.0 read.0.1 read.1 in
      let there = to read.0.0 first.1 in
      let same : (make read.0.0 ≡ y) × (read.0.1 ≡ q) = ok_parts (make read.0.0) y read.0.1 q read.2 in
      let ey : make read.0.0 ≡ y = same.0 in
      let eq : read.0.1 ≡ q = same.1 in
      let st : BytesBetween p (t y) q = subst (λ (z : Place). BytesBetween p (t y) z) eq (subst (λ (w : B). BytesBetween p (t w) read.0.1) ey (subst (λ (l : List ℕ). BytesBetween p l read.0.1) (sym there.0) first.0)) in
      (st, subst G ey there.1);
  again = λ at y rest fits.
      let part : (x : A) × F x × (make x ≡ y) = from y fits in
      let there = to part.0 part.1 in
      let P : B → Type 0 = λ w. ◌>>=◌ {B = B × Place} (r (place at (t w ++ rest))) (λ a. Ok (make a.0, a.1)) ≡ Ok (w, place (at + length (t w)) rest) in
      subst P part.2 (rw (there.0, c.again at part.0 rest part.1) refl);
  stops = λ p at h. elim (bind-err (r p) (λ a. Ok (make a.0, a.1)) at h) as (λ _. Stop (λ p. r p >>= λ a. Ok (make a.0, a.1)) U p at) [
    | inl e ↦ embed_stop p at (c.stops p at e)
    | inr w ↦ absurd (let k : Ok (make w.0.0, w.0.1) ≡ Err at = w.2 in cc)
  ];
}
  where
    embed_stop : (p : Place) (at : ℕ) → Stop r O p at → Stop (λ p. r p >>= λ a. Ok (make a.0, a.1)) U p at
    embed_stop p at w = record {
      front = w.front;
      rest = w.rest;
      text = w.text;
      offset = w.offset;
      more = w.more;
      opens = opens (w.front ++ w.more) w.opens;
      blocked = λ other e. bind-is_err (r (place p.at (w.front ++ other))) (λ a. Ok (make a.0, a.1)) (w.blocked other e);
    }

-- the same where the texts are measured by the grammar itself
pub variant_codec : {A B : Type 0} (r : Place → Read A) (s : A → List ℕ) (F : A → Type 0) (make : A → B) (t : B → List ℕ) (G : B → Type 0)
    → Codec r s (IsText s F) F
    → ((x : A) → F x → (t (make x) ≡ s x) × G (make x))
    → ((y : B) → G y → (x : A) × F x × (make x ≡ y))
    → Codec (λ p. r p >>= λ a. Ok (make a.0, a.1)) t (IsText t G) G
variant_codec r s F make t G c to from =
    embed_codec r s (IsText s F) F make t (IsText t G) G c to
    (λ l w. let there = to w.0 w.1 in (make w.0, there.1, there.0 ∙ w.2)) from

-- the last field: the rest of the value is a part of the whole
pub map_codec : {A B : Type 0} (r : Place → Read A) (s : A → List ℕ) (F : A → Type 0) (make : A → B) (part : B → A)
    → Codec r s (IsText s F) F
    → ((x : A) → part (make x) ≡ x)
    → Codec (λ p. r p >>= λ a. Ok (make a.0, a.1)) (λ y. s (part y)) (IsText (λ y. s (part y)) (λ y. F (part y) × (make (part y) ≡ y))) (λ y. F (part y) × (make (part y) ≡ y))
map_codec r s F make part c back =
    variant_codec r s F make (λ y. s (part y)) (λ y. F (part y) × (make (part y) ≡ y)) c
    (λ x f. (ap s (back x), (subst F (sym (back x)) f, ap make (back x))))
    (λ y g. (part y, g.0, g.1))

-- the same values and texts, told by other facts
pub refit_codec : {A : Type 0} (r : Place → Read A) (s t : A → List ℕ) (O U : List ℕ → Type 0) (F G : A → Type 0)
    → Codec r s O F → ((x : A) → F x → G x × (t x ≡ s x)) → ((x : A) → G x → F x) → ((l : List ℕ) → O l → U l) → Codec r t U G
refit_codec r s t O U F G c to from opens = record {
  takes = λ p x q h. let w = c.takes p x q h in let g = to x w.1 in (subst (λ (l : List ℕ). BytesBetween p l q) (sym g.1) w.0, g.0);
  again = λ at x rest g. let e = to x (from x g) in rw e.1 (c.again at x rest (from x g));
  stops = λ p at h. let w = c.stops p at h in record {
    front = w.front;
    rest = w.rest;
    text = w.text;
    offset = w.offset;
    more = w.more;
    opens = opens (w.front ++ w.more) w.opens;
    blocked = w.blocked;
  };
}

-- the same values, told by another fact
pub fits_codec : {A : Type 0} (r : Place → Read A) (s : A → List ℕ) (F G : A → Type 0)
    → Codec r s (IsText s F) F → ((x : A) → F x → G x) → ((x : A) → G x → F x) → Codec r s (IsText s G) G
fits_codec r s F G c to from =
    refit_codec r s s (IsText s F) (IsText s G) F G c (λ x f. (to x f, refl)) from (λ l w. (w.0, to w.0 w.1, w.2))

-- a choice that was made before
pub if_codec : {A : Type 0} (b : Bool) (r1 r2 : Place → Read A) (s : A → List ℕ) (O : List ℕ → Type 0) (F : A → Type 0)
    → (b ≡ true → Codec r1 s O F) → (b ≡ false → Codec r2 s O F) → Codec (λ p. if b then r1 p else r2 p) s O F
if_codec true r1 r2 s O F when_true when_false = when_true refl
if_codec false r1 r2 s O F when_true when_false = when_false refl

-- no bytes
pub pure_codec : {A : Type 0} (x : A) (s : A → List ℕ) (O : List ℕ → Type 0) → s x ≡ [] → Codec (λ p. Ok (x, p)) s O (λ y. y ≡ x)
pure_codec {A} x s O e = record {
  takes = λ p y q h.
      let same : (x ≡ y) × (p ≡ q) = ok_parts x y p q h in
      let spelled : s y ≡ [] = ap s (sym same.0) ∙ e in
      (record { text = ap (λ (z : Place). z.left) same.1 ∙ ap (λ l. l ++ q.left) (sym spelled); offset = omega (arith, ap (λ (z : Place). z.at) same.1, ap length spelled) }, sym same.0);
  again = λ at y rest f. let spelled : s y ≡ [] = ap s f ∙ e in rw (spelled, f, add-zero) refl;
  stops = λ p at h. absurd (let k : Ok (x, p) ≡ Err at = h in cc);
}

pub if-ok : {A : Type 0} (t : Bool) (a b y : A) → (if t then a else b) ≡ y → ((t ≡ true) × (a ≡ y)) ⊎ ((t ≡ false) × (b ≡ y))
if-ok true a b y h = inl (refl, h)
if-ok false a b y h = inr (refl, h)

in_range-true : (low b high : ℕ) → (nat_le low b && nat_le b high) ≡ true → (low ≤ b) × (b ≤ high)
in_range-true low b high h = grind (arith, nat_tests)

in_range-of : (low b high : ℕ) → low ≤ b → b ≤ high → (nat_le low b && nat_le b high) ≡ true
in_range-of low b high h k = grind (arith, nat_tests)

first_in-ok : (low high at : ℕ) (left : List ℕ) (b : ℕ) (q : Place) → first_in low high at left ≡ Ok (b, q) → (left ≡ b ∷ q.left) × (q.at ≡ at + 1) × (low ≤ b) × (b ≤ high)
first_in-ok low high at [] b q h = absurd (cc)
first_in-ok low high at (c ∷ rest) b q h = elim (if-ok (nat_le low c && nat_le c high) (Ok (c, place (at + 1) rest)) (Err at) (Ok (b, q)) h) [
  | inl w ↦ let e : (c ≡ b) × (place (at + 1) rest ≡ q) = ok_parts c b (place (at + 1) rest) q w.1 in
      let range : (low ≤ c) × (c ≤ high) = in_range-true low c high w.0 in
      let eb : c ≡ b = e.0 in
      (ap (λ z. z ∷ rest) eb ∙ ap (λ (z : Place). b ∷ z.left) e.1, sym (ap (λ (z : Place). z.at) e.1), omega (arith, range.0), omega (arith, range.1))
  | inr w ↦ absurd (let k : Err at ≡ Ok (b, q) = w.1 in cc)
]

first_in-err : (low high at : ℕ) (left : List ℕ) (e : ℕ) → first_in low high at left ≡ Err e → (e ≡ at) × ((other : List ℕ) → first_of other ≡ first_of left → IsErr (first_in low high at other))
first_in-err low high at [] e h = (cc, blocked)
  where
    blocked : (other : List ℕ) → first_of other ≡ first_of [] → IsErr (first_in low high at other)
    blocked [] k = refl
    blocked (c ∷ rest) k = absurd (cc)
first_in-err low high at (b ∷ left) e h = elim (if-ok (nat_le low b && nat_le b high) (Ok (b, place (at + 1) left)) (Err at) (Err e) h) [
  | inl w ↦ absurd (let k : Ok (b, place (at + 1) left) ≡ Err e = w.1 in cc)
  | inr w ↦ (let k : Err at ≡ Err e = w.1 in cc, blocked w.0)
]
  where
    blocked : (nat_le low b && nat_le b high) ≡ false → (other : List ℕ) → first_of other ≡ first_of (b ∷ left) → IsErr (first_in low high at other)
    blocked no_range [] k = absurd (cc)
    blocked no_range (c ∷ rest) k = let same : c ≡ b = cc in rw (same, no_range) refl

pub byte_codec : (low high : ℕ) → low ≤ high → Codec (byte_in low high) one_byte (IsText one_byte (IsBetween low high)) (IsBetween low high)
unfolding byte_in
byte_codec low high order = record {
  takes = λ p b q h.
      let t = first_in-ok low high p.at p.left b q h in
      (record { text = t.0; offset = t.1 }, (t.2, t.3));
  again = λ at b rest f. rw (in_range-of low b high f.0 f.1) refl;
  stops = λ p at h.
      let t = first_in-err low high p.at p.left at h in
      record { front = []; rest = p.left; text = refl; offset = omega (arith, t.0); more = low ∷ []; opens = (low, (omega arith, order), refl); blocked = t.1 };
}

-- a byte that passes a test, of which one is known
pub where_codec : (test : ℕ → Bool) (w : ℕ) → test w ≡ true → Codec (byte_where test) one_byte (IsText one_byte (λ b. test b ≡ true)) (λ b. test b ≡ true)
unfolding byte_where
where_codec test w passes = record {
  takes = λ p b q h. let t = taken p.at p.left b q h in (record { text = t.0; offset = t.1 }, t.2);
  again = λ at b rest f. rw f refl;
  stops = λ p at h.
      let t = refused p.at p.left at h in
      record { front = []; rest = p.left; text = refl; offset = omega (arith, t.0); more = w ∷ []; opens = (w, passes, refl); blocked = t.1 };
}
  where
    taken : (at : ℕ) (left : List ℕ) (b : ℕ) (q : Place) → first_where test at left ≡ Ok (b, q) → (left ≡ b ∷ q.left) × (q.at ≡ at + 1) × (test b ≡ true)
    taken at [] b q h = absurd (cc)
    taken at (c ∷ rest) b q h = elim (if-ok (test c) (Ok (c, place (at + 1) rest)) (Err at) (Ok (b, q)) h) [
      | inl k ↦ let e : (c ≡ b) × (place (at + 1) rest ≡ q) = ok_parts c b (place (at + 1) rest) q k.1 in
          (ap (λ z. z ∷ rest) e.0 ∙ ap (λ (z : Place). b ∷ z.left) e.1, sym (ap (λ (z : Place). z.at) e.1), ap test (sym e.0) ∙ k.0)
      | inr k ↦ absurd (let l : Err at ≡ Ok (b, q) = k.1 in cc)
    ]

    blocked_at : (at c : ℕ) (rest : List ℕ) → test c ≡ false → (other : List ℕ) → first_of other ≡ first_of (c ∷ rest) → IsErr (first_where test at other)
    blocked_at at c rest fails [] k = absurd (cc)
    blocked_at at c rest fails (d ∷ other) k = let same : d ≡ c = cc in rw (same, fails) refl

    blocked_end : (at : ℕ) (other : List ℕ) → first_of other ≡ first_of [] → IsErr (first_where test at other)
    blocked_end at [] k = refl
    blocked_end at (c ∷ rest) k = absurd (cc)

    refused : (at : ℕ) (left : List ℕ) (e : ℕ) → first_where test at left ≡ Err e → (e ≡ at) × ((other : List ℕ) → first_of other ≡ first_of left → IsErr (first_where test at other))
    refused at [] e h = (cc, blocked_end at)
    refused at (c ∷ rest) e h = elim (if-ok (test c) (Ok (c, place (at + 1) rest)) (Err at) (Err e) h) [
      | inl k ↦ absurd (let l : Ok (c, place (at + 1) rest) ≡ Err e = k.1 in cc)
      | inr k ↦ (let l : Err at ≡ Err e = k.1 in cc, blocked_at at c rest k.0)
    ]

-- a byte that was read is in its range
pub byte_most : (low high : ℕ) (p : Place) (b : ℕ) (q : Place) → byte_in low high p ≡ Ok (b, q) → b ≤ high
unfolding byte_in
byte_most low high p b q h = (first_in-ok low high p.at p.left b q h).3

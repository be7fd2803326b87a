-- Lists, options, strings of bytes and nested texts.
use Rattle.std.proofs.Common.{◌≡◌, ℕ, zero, suc, ◌+◌, ◌-◌, ◌*◌, ◌^◌, ◌<◌, ◌≤◌, Bool, true, false, List, [], ◌∷◌, ◌++◌, length, take, drop, refl, sym, ◌∙◌, ap, subst, inl, inr, ◌⊎◌, Result, Ok, Err, Option, Some, None, IsErr, arith, add-zero, append_assoc, length-append, append-nil, get_or}
use Rattle.std.specs.Prelude.{if◌then◌else◌, nat_le, ◌==◌, All, replicate, ◌≢◌}
use Rattle.std.specs.List.{flat_map}
use Rattle.std.proofs.lemmas.Bool.Decides.{nat_tests}
use Rattle.std.proofs.lemmas.Bool.{cases_lt}
use Rattle.std.proofs.lemmas.List.Elements.{All-cons, All-nil}
use Rattle.std.proofs.lemmas.List.{take-append-drop, length-take, length-take-le, length-drop}
use Rattle.std.proofs.Math.Seq.{take-append_seam, drop-append_seam, take-append-add}
use Rattle.mega_base.specs.Reading.{Place, place, end_of, Read, ◌>>=◌, byte_in, number_in, bytes_of_len, bytes_in, items_at, list_in, option_at, nested_at, whole_of}
use Rattle.mega_base.specs.Codec.{number_text, BytesBetween, first_of, Stop, Codec, IsText, IsBetween, one_byte, IsCons, AreItems, IsList, list_text, option_text, IsOption, bytes_text, HasLen, IsNested, OpensNested, IsFirstBad}
use Rattle.mega_base.specs.Codecs.{bind-ok, bind-err, bind-is_err, ok_parts, if-ok, bind_codec, then_codec, embed_codec, variant_codec, refit_codec, fits_codec, if_codec, pure_codec, byte_codec}
use Rattle.mega_base.specs.Digits.{number_codec}

pub All-head : {A : Type 0} (P : A → Type 0) (x : A) (xs : List A) → All P (x ∷ xs) → P x
All-head P x xs h = h 0 x (omega arith)

pub All-tail : {A : Type 0} (P : A → Type 0) (x : A) (xs : List A) → All P (x ∷ xs) → All P xs
All-tail P x xs h = λ k d lt. h (suc k) d (omega arith)

pub All-replicate : {A : Type 0} (P : A → Type 0) (n : ℕ) (x : A) → P x → All P (replicate n x)
All-replicate P zero x h = All-nil P
All-replicate P (suc n) x h = All-cons P x (replicate n x) h (All-replicate P n x h)

pub length-replicate : {A : Type 0} (n : ℕ) (x : A) → length (replicate n x) ≡ n
length-replicate zero x = refl
length-replicate (suc n) x = ap suc (length-replicate n x)

-- a first item, and the items that may follow it
pub cons_codec : {A : Type 0} (ra : Place → Read A) (sa : A → List ℕ) (Fa : A → Type 0) (rb : A → Place → Read (List A)) (Fb : A → List A → Type 0)
    → Codec ra sa (IsText sa Fa) Fa
    → ((x : A) → Fa x → Codec (rb x) (flat_map sa) (IsText (flat_map sa) (Fb x)) (Fb x))
    → ((x : A) → Fa x → (xs : List A) × Fb x xs)
    → Codec (λ p. ra p >>= λ x. rb x.0 x.1 >>= λ xs. Ok (x.0 ∷ xs.0, xs.1)) (flat_map sa) (IsText (flat_map sa) (IsCons Fa Fb)) (IsCons Fa Fb)
cons_codec {A} ra sa Fa rb Fb ca cb fill =
    bind_codec ra sa Fa (λ x p. rb x p >>= λ xs. Ok (x ∷ xs.0, xs.1)) (λ x ys. flat_map sa (drop 1 ys)) (λ x. IsText (flat_map sa) (Fb x)) After
    (flat_map sa) (IsText (flat_map sa) (IsCons Fa Fb)) (IsCons Fa Fb) ca
    (λ x f. embed_codec (rb x) (flat_map sa) (IsText (flat_map sa) (Fb x)) (Fb x) (λ xs. x ∷ xs) (λ ys. flat_map sa (drop 1 ys)) (IsText (flat_map sa) (Fb x)) (After x) (cb x f)
    (λ xs g. (refl, (xs, g, refl))) (λ l w. w) (λ ys g. g))
    (λ x ys f g. (ap (flat_map sa) (sym g.2) ∙ ap (λ l. sa x ++ flat_map sa (drop 1 l)) g.2, subst (λ (l : List A). IsCons Fa Fb l) g.2 (f, g.1)))
    (λ x t f w. (x ∷ w.0, (f, w.1), ap (λ l. sa x ++ l) w.2))
    parts
    (λ x f. let more = fill x f in (flat_map sa more.0, (more.0, more.1, refl)))
  where
    After : A → List A → Type 0
    After x ys = (xs : List A) × Fb x xs × (x ∷ xs ≡ ys)

    parts : (ys : List A) → IsCons Fa Fb ys → (x : A) × Fa x × After x ys
    parts [] h = absurd h
    parts (x ∷ xs) h = (x, h.0, (xs, h.1, refl))

pub items_codec : {A : Type 0} (r : Place → Read A) (s : A → List ℕ) (F : A → Type 0) → Codec r s (IsText s F) F
    → (n : ℕ) → Codec (items_at r n) (flat_map s) (IsText (flat_map s) (AreItems F n)) (AreItems F n)
unfolding items_at
items_codec {A} r s F c zero =
    fits_codec (λ p. Ok ([], p)) (flat_map s) (λ xs. xs ≡ []) (AreItems F zero) (pure_codec [] (flat_map s) (IsText (flat_map s) (λ xs. xs ≡ [])) refl)
    (λ xs f. subst (λ (l : List A). AreItems F 0 l) (sym f) (record { each = All-nil F; count = refl }))
    none
  where
    none : (xs : List A) → AreItems F 0 xs → xs ≡ []
    none [] f = refl
    none (x ∷ xs) f = absurd (omega (arith, f.count))
items_codec {A} r s F c (suc n) =
    fits_codec (λ p. r p >>= λ x. items_at r n x.1 >>= λ xs. Ok (x.0 ∷ xs.0, xs.1)) (flat_map s) (IsCons F (λ _. AreItems F n)) (AreItems F (suc n))
    (cons_codec r s F (λ _. items_at r n) (λ _. AreItems F n) c (λ _ _. items_codec r s F c n)
    (λ x f. (replicate n x, record { each = All-replicate F n x f; count = length-replicate n x })))
    joined
    apart
  where
    joined : (xs : List A) → IsCons F (λ _. AreItems F n) xs → AreItems F (suc n) xs
    joined [] h = absurd h
    joined (x ∷ xs) h = record { each = All-cons F x xs h.0 h.1.each; count = ap suc h.1.count }

    apart : (xs : List A) → AreItems F (suc n) xs → IsCons F (λ _. AreItems F n) xs
    apart [] h = absurd (omega (arith, h.count))
    apart (x ∷ xs) h = (All-head F x xs h.each, record { each = All-tail F x xs h.each; count = omega (arith, h.count) })

-- a list of items of which one is known, so that each count begins some list
pub list_codec : {A : Type 0} (low high : ℕ) (r : Place → Read A) (s : A → List ℕ) (F : A → Type 0) → low ≤ high → high < 2 ^ 32
    → Codec r s (IsText s F) F → (x : A) → F x
    → Codec (list_in low high r) (list_text s) (IsText (list_text s) (IsList low high F)) (IsList low high F)
unfolding list_in
list_codec {A} low high r s F order small c x f =
    fits_codec (λ p. number_in 4 low high p >>= λ n. items_at r n.0 n.1) (list_text s) (λ xs. IsBetween low high (length xs) × AreItems F (length xs) xs) (IsList low high F)
    (then_codec (number_in 4 low high) (number_text 4) (IsBetween low high) (λ n. items_at r n) (flat_map s) (AreItems F) length
    (number_codec 4 low high order small)
    (λ n g. items_codec r s F c n)
    (λ n xs g h. h.count)
    (λ n g. (replicate n x, record { each = All-replicate F n x f; count = length-replicate n x })))
    (λ xs g. record { each = g.1.each; least = g.0.0; most = g.0.1 })
    (λ xs g. ((g.least, g.most), record { each = g.each; count = refl }))

pub option_codec : {A : Type 0} (r : Place → Read A) (s : A → List ℕ) (O U : List ℕ → Type 0) (F : A → Type 0) → Codec r s O F
    → U (0 ∷ []) → ((t : List ℕ) → O t → U (1 ∷ t)) → (t : List ℕ) → O t
    → Codec (option_at r) (option_text s) U (IsOption F)
unfolding option_at
option_codec {A} r s O U F c none some t shown =
    bind_codec (byte_in 0 1) one_byte (IsBetween 0 1)
    (λ b p. if b == 0 then Ok (None, p) else r p >>= λ x. Ok (Some x.0, x.1)) (λ b o. drop 1 (option_text s o)) Inner HasFlag
    (option_text s) U (IsOption F)
    (byte_codec 0 1 (omega arith))
    (λ b f. if_codec (b == 0) (λ p. Ok (None, p)) (λ p. r p >>= λ x. Ok (Some x.0, x.1)) (λ o. drop 1 (option_text s o)) (Inner b) (HasFlag b)
    (λ e. refit_codec (λ p. Ok (None, p)) (λ o. drop 1 (option_text s o)) (λ o. drop 1 (option_text s o)) (Inner b) (Inner b) (λ o. o ≡ None) (HasFlag b)
    (pure_codec None (λ o. drop 1 (option_text s o)) (Inner b) refl)
    (λ o g. (subst (λ (z : Option A). HasFlag b z) (sym g) (is_zero b e), refl)) (absent b e) (λ l w. w))
    (λ e. embed_codec r s O F Some (λ o. drop 1 (option_text s o)) (Inner b) (HasFlag b) c
    (λ x g. (refl, (is_one b f e, g))) (λ l w. inr (is_one b f e, w)) (present b e)))
    splits
    joins
    parts
    (λ b f. elim (cases_lt b 1) [ inl h ↦ ([], inl (omega arith, refl)) | inr h ↦ (t, inr (omega (arith, f.1), shown)) ])
  where
    HasFlag : ℕ → Option A → Type 0
    HasFlag b None = b ≡ 0
    HasFlag b (Some x) = (b ≡ 1) × F x

    Inner : ℕ → List ℕ → Type 0
    Inner b l = ((b ≡ 0) × (l ≡ [])) ⊎ ((b ≡ 1) × O l)

    is_zero : (b : ℕ) → (b == 0) ≡ true → b ≡ 0
    is_zero b e = grind (arith, nat_tests)

    is_one : (b : ℕ) → IsBetween 0 1 b → (b == 0) ≡ false → b ≡ 1
    is_one b f e = let apart : b ≢ 0 = grind (arith, nat_tests) in omega (arith, f.1)

    absent : (b : ℕ) → (b == 0) ≡ true → (o : Option A) → HasFlag b o → o ≡ None
    absent b e None h = refl
    absent b e (Some x) h = absurd (omega (arith, is_zero b e, h.0))

    present : (b : ℕ) → (b == 0) ≡ false → (o : Option A) → HasFlag b o → (x : A) × F x × (Some x ≡ o)
    present b e None h = absurd (let apart : b ≢ 0 = grind (arith, nat_tests) in apart h)
    present b e (Some x) h = (x, h.1, refl)

    splits : (b : ℕ) (o : Option A) → IsBetween 0 1 b → HasFlag b o → (option_text s o ≡ one_byte b ++ drop 1 (option_text s o)) × IsOption F o
    splits b None f h = (ap (λ z. z ∷ []) (sym h), tt)
    splits b (Some x) f h = (ap (λ z. z ∷ s x) (sym h.0), h.1)

    joins : (b : ℕ) (l : List ℕ) → IsBetween 0 1 b → Inner b l → U (one_byte b ++ l)
    joins b l f (inl w) = let e : b ≡ 0 = w.0 in let k : l ≡ [] = w.1 in rw (e, k) none
    joins b l f (inr w) = let e : b ≡ 1 = w.0 in rw e (some l w.1)

    parts : (o : Option A) → IsOption F o → (b : ℕ) × IsBetween 0 1 b × HasFlag b o
    parts None h = (0, (omega arith, omega arith), refl)
    parts (Some x) h = (1, (omega arith, omega arith), (refl, h))

-- n bytes, whatever they are
pub bytes_of_len_codec : (n : ℕ) → Codec (bytes_of_len n) (λ t. t) (IsText (λ t. t) (λ t. length t ≡ n)) (λ t. length t ≡ n)
unfolding bytes_of_len
bytes_of_len_codec n = record {
  takes = λ p t q h. elim (if-ok (nat_le n (length p.left)) (Ok (take n p.left, place (p.at + n) (drop n p.left))) (Err (end_of p)) (Ok (t, q)) h) [
    | inl w ↦ taken p t q w.0 w.1
    | inr w ↦ absurd (let k : Err (end_of p) ≡ Ok (t, q) = w.1 in cc)
  ];
  again = λ at t rest f.
      let enough : nat_le n (length (t ++ rest)) ≡ true = grind (arith, nat_tests, length-append t rest) in
      let front : take n (t ++ rest) ≡ t = subst (λ (m : ℕ). take m (t ++ rest) ≡ t) f (take-append_seam t rest) in
      let back : drop n (t ++ rest) ≡ rest = subst (λ (m : ℕ). drop m (t ++ rest) ≡ rest) f (drop-append_seam t rest) in
      rw (enough, front, back, f) refl;
  stops = λ p at h. elim (if-ok (nat_le n (length p.left)) (Ok (take n p.left, place (p.at + n) (drop n p.left))) (Err (end_of p)) (Err at) h) [
    | inl w ↦ absurd (let k : Ok (take n p.left, place (p.at + n) (drop n p.left)) ≡ Err at = w.1 in cc)
    | inr w ↦ let k : Err (end_of p) ≡ Err at = w.1 in let e : end_of p ≡ at = cc in record {
      front = p.left;
      rest = [];
      text = sym (append-nil p.left);
      offset = sym e;
      more = replicate (n - length p.left) 0;
      opens = (p.left ++ replicate (n - length p.left) 0, omega (arith, length-append p.left (replicate (n - length p.left) 0), length-replicate {A = ℕ} (n - length p.left) 0, too_few n (length p.left) w.0), refl);
      blocked = blocked p w.0;
    }
  ];
}
  where
    too_few : (m l : ℕ) → nat_le m l ≡ false → l < m
    too_few m l h = grind (arith, nat_tests)

    enough_of : (m l : ℕ) → nat_le m l ≡ true → m ≤ l
    enough_of m l h = grind (arith, nat_tests)

    taken : (p : Place) (t : List ℕ) (q : Place) → nat_le n (length p.left) ≡ true → (let l : Read (List ℕ) = Ok (take n p.left, place (p.at + n) (drop n p.left)) in let r : Read (List ℕ) = Ok (t, q) in l ≡ r) → BytesBetween p t q × (length t ≡ n)
    taken p t q there h =
        let same : (take n p.left ≡ t) × (place (p.at + n) (drop n p.left) ≡ q) = ok_parts (take n p.left) t (place (p.at + n) (drop n p.left)) q h in
        let len : length t ≡ n = ap length (sym same.0) ∙ length-take-le n p.left (enough_of n (length p.left) there) in (
          record {
            text = sym (take-append-drop n p.left) ∙ (ap (λ l. l ++ drop n p.left) same.0 ∙ ap (λ (z : Place). t ++ z.left) same.1);
            offset = omega (arith, len, ap (λ (z : Place). z.at) same.1);
          },
          len,
        )

    blocked : (p : Place) → nat_le n (length p.left) ≡ false → (other : List ℕ) → first_of other ≡ first_of [] → IsErr (bytes_of_len n (place p.at (p.left ++ other)))
    blocked p short [] e = let short_still : nat_le n (length (p.left ++ [])) ≡ false = ap (λ l. nat_le n (length l)) (append-nil p.left) ∙ short in rw short_still refl
    blocked p short (b ∷ other) e = absurd (cc)

pub bytes_codec : (low high : ℕ) → low ≤ high → high < 2 ^ 32 → Codec (bytes_in low high) bytes_text (IsText bytes_text (HasLen low high)) (HasLen low high)
unfolding bytes_in
bytes_codec low high order small =
    fits_codec (λ p. number_in 4 low high p >>= λ n. bytes_of_len n.0 n.1) bytes_text (λ t. IsBetween low high (length t) × (length t ≡ length t)) (HasLen low high)
    (then_codec (number_in 4 low high) (number_text 4) (IsBetween low high) (λ n. bytes_of_len n) (λ t. t) (λ n t. length t ≡ n) length
    (number_codec 4 low high order small)
    (λ n g. bytes_of_len_codec n)
    (λ n t g h. h)
    (λ n g. (replicate n 0, length-replicate {A = ℕ} n 0)))
    (λ t g. g.0)
    (λ t g. (g, refl))

-- the same where the texts are measured by the grammar itself
pub plain_option_codec : {A : Type 0} (r : Place → Read A) (s : A → List ℕ) (F : A → Type 0) → Codec r s (IsText s F) F → (x : A) → F x
    → Codec (option_at r) (option_text s) (IsText (option_text s) (IsOption F)) (IsOption F)
plain_option_codec r s F c x f =
    option_codec r s (IsText s F) (IsText (option_text s) (IsOption F)) F c
    (None, tt, refl) (λ t w. (Some w.0, w.1, ap (λ l. 1 ∷ l) w.2)) (s x) (x, f, refl)

-- as many items are read as are counted
items_length : {A : Type 0} (read : Place → Read A) (n : ℕ) (p : Place) (xs : List A) (q : Place) → items_at read n p ≡ Ok (xs, q) → length xs ≡ n
unfolding items_at
items_length {A} read zero p xs q h = ap length (sym (ok_parts [] xs p q h).0)
items_length {A} read (suc n) p xs q h =
    let first = bind-ok (read p) (λ x. items_at read n x.1 >>= λ ys. Ok (x.0 ∷ ys.0, ys.1)) (xs, q) h in
    let rest = bind-ok (items_at read n first.0.1) (λ ys. Ok (first.0.0 ∷ ys.0, ys.1)) (xs, q) first.2 in
    let same = ok_parts (first.0.0 ∷ rest.0.0) xs rest.0.1 q rest.2 in
    ap length (sym same.0) ∙ ap suc (items_length read n first.0.1 rest.0.0 rest.0.1 rest.1)

pub list_most : {A : Type 0} (low high : ℕ) (read : Place → Read A) (p : Place) (xs : List A) (q : Place) → low ≤ high → high < 2 ^ 32 → list_in low high read p ≡ Ok (xs, q) → length xs ≤ high
unfolding list_in
list_most low high read p xs q order small h =
    let count = bind-ok (number_in 4 low high p) (λ n. items_at read n.0 n.1) (xs, q) h in
    omega (arith, items_length read count.0.0 count.0.1 xs q count.2, ((number_codec 4 low high order small).takes p count.0.0 count.0.1 count.1).1.1)

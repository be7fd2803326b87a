-- The spellings of fields and their readings are inverse.
use Rattle.std.proofs.Common.{◌≡◌, ℕ, ◌+◌, ◌*◌, ◌/◌, ◌%◌, ◌^◌, ◌<◌, ◌≤◌, ◌==◌, ◌&&◌, Bool, true, not, List, [], ◌∷◌, ◌++◌, length, drop, refl, sym, ap, ◌∙◌, subst, Option, Some, None, Result, Ok, Err, arith, append_assoc, inl, inr, decimal, cond, add-one, suc, zero, length-append, nat_lt}
use Rattle.std.specs.Prelude.{option_map, option_and_then}
use Rattle.std.specs.List.{position_or_len, list_all}
use Rattle.std.specs.Result.{result_ok}
use Rattle.std.proofs.lemmas.Bool.Decides.{nat_tests}
use Rattle.std.proofs.lemmas.Bool.{and_parts}
use Rattle.std.proofs.lemmas.Fmt.{decimal_by_steps, decimal_nonempty}
use Rattle.std.proofs.lemmas.List.Folds.{list_all-append}
use Rattle.std.proofs.Math.Seq.{take-append_seam}
use Rattle.hex.specs.Hex.{decode_of, encode_lower, encode_with, lower_digits, IsBytes}
use Rattle.hex.specs.declared.error.FromHexError.{FromHexError}
use Rattle.std.specs.Prelude.{slice_index}
use Rattle.std.proofs.lemmas.Bool.{cases_lt}
use Rattle.mega_transcript.specs.PlainNames.{IsU8, IsU32, IsU64, IsNode, IsPosition, IsEpoch, IsOp, IsGroup}
use Rattle.hex.proofs.HexLemmas.{decode_of-encode_lower, decode_of-ok}
use Rattle.mega_base.specs.Reading.{◌>>=◌}
use Rattle.mega_base.specs.Codecs.{bind-ok}
use Rattle.mega_transcript.specs.Words.{node_word, position_word, epoch_word, op_word, group_word}
use Rattle.mega_transcript.specs.Reading.{Read, Field, cut_at, until, shown, taken, word_as, with_digit, digits_on, number_of, number_field, hex_field, two, made, u8_field, u32_field, u64_field, node_field, position_field, epoch_field, op_field, group_field}

-- none of the bytes ends a word
abbrev pub lacks : ℕ → List ℕ → Bool
lacks end bytes = list_all (λ b. not (b == end)) bytes

place_behind : (end : ℕ) (word rest : List ℕ) → lacks end word ≡ true → position_or_len (λ b. b == end) (word ++ end ∷ rest) ≡ length word
place_behind end [] rest h = grind (arith, nat_tests)
place_behind end (b ∷ word) rest h =
    let parts = and_parts (not (b == end)) (lacks end word) h in
    ap (λ t. cond t (1 + position_or_len (λ c. c == end) (word ++ end ∷ rest)) 0) parts.0 ∙ (ap (λ n. 1 + n) (place_behind end word rest parts.1) ∙ omega arith)

drop_behind : (word : List ℕ) (end : ℕ) (rest : List ℕ) → drop (suc (length word)) (word ++ end ∷ rest) ≡ rest
drop_behind [] end rest = refl
drop_behind (b ∷ word) end rest = drop_behind word end rest

pub until_again : (end : ℕ) (word rest : List ℕ) → lacks end word ≡ true → until end (word ++ end ∷ rest) ≡ Some (word, rest)
unfolding until
until_again end word rest h =
    let place = place_behind end word rest h in
    let within : nat_lt (length word) (length (word ++ end ∷ rest)) ≡ true = simp length-append (grind (arith, nat_tests)) in
    ap (λ n. option_map (cut_at (word ++ end ∷ rest)) (cond (nat_lt n (length (word ++ end ∷ rest))) (Some n) None)) place
    ∙ ap (λ t. option_map (cut_at (word ++ end ∷ rest)) (cond t (Some (length word)) None)) within
    ∙ ap Some (pair_is (take-append_seam word (end ∷ rest)) (ap (λ n. drop n (word ++ end ∷ rest)) (add-one (length word)) ∙ drop_behind word end rest))
  where
    pair_is : {a b c d : List ℕ} → a ≡ b → c ≡ d → (let x : List ℕ × List ℕ = (a, c) in let y : List ℕ × List ℕ = (b, d) in x ≡ y)
    pair_is e f = cc

-- Reading a field gives a value that fits, and the text of one that fits is read back; text x tail is the text of x
-- before a tail.
pub record Form {A : Type 0} (field : Field A) (text : A → List ℕ → List ℕ) (Fits : A → Type 0) : Type 0 where
  pub again : (end : ℕ) (x : A) (rest : List ℕ) → end ≤ 46 → Fits x → field end (text x (end ∷ rest)) ≡ Ok (x, rest)
  pub fits : (end : ℕ) (left : List ℕ) (x : A) (rest : List ℕ) → field end left ≡ Ok (x, rest) → Fits x

-- a word that is read whole: its readings fit, and its spellings are read
pub word_form : {A : Type 0} (read : List ℕ → Option A) (spell : A → List ℕ) (Fits : A → Type 0)
    → ((x : A) → Fits x → read (spell x) ≡ Some x)
    → ((x : A) (end : ℕ) → end ≤ 46 → Fits x → lacks end (spell x) ≡ true)
    → ((word : List ℕ) (x : A) → read word ≡ Some x → Fits x)
    → Form (word_as read) (λ x tail. spell x ++ tail) Fits
word_form {A} read spell Fits again solid fits = record {
  again = λ end x rest low f.
      ap (taken read (length (spell x ++ end ∷ rest))) (until_again end (spell x) rest (solid x end low f))
      ∙ ap (shown (length (spell x ++ end ∷ rest)) rest) (again x f);
  fits = λ end left x rest h. from_word (length left) (until end left) x rest h;
}
  where
    from_shown : (n : ℕ) (after : List ℕ) (o : Option A) (x : A) (rest : List ℕ) → shown n after o ≡ Ok (x, rest) → o ≡ Some x
    from_shown n after None x rest h = absurd (cc)
    from_shown n after (Some y) x rest h =
        let a : A × List ℕ = (y, after) in
        let b : A × List ℕ = (x, rest) in
        let e : a ≡ b = cc in
        ap (λ (z : A × List ℕ). Some z.0) e

    from_word : (n : ℕ) (o : Option (List ℕ × List ℕ)) (x : A) (rest : List ℕ) → taken read n o ≡ Ok (x, rest) → Fits x
    from_word n None x rest h = absurd (cc)
    from_word n (Some w) x rest h = fits w.0 x (from_shown n w.1 (read w.0) x rest h)

-- the parts of what was read
pub read_parts : {A : Type 0} (x y : A) (p q : List ℕ) → (let l : Read A = Ok (x, p) in let r : Read A = Ok (y, q) in l ≡ r) → (x ≡ y) × (p ≡ q)
read_parts {A} x y p q h =
    let a : A × List ℕ = (x, p) in
    let b : A × List ℕ = (y, q) in
    let e : a ≡ b = cc in
    (ap (λ (z : A × List ℕ). z.0) e, ap (λ (z : A × List ℕ). z.1) e)

pub two_form : {A B : Type 0} (between : ℕ) (f : Field A) (g : Field B) (ta : A → List ℕ → List ℕ) (tb : B → List ℕ → List ℕ) (Fa : A → Type 0) (Fb : B → Type 0)
    → between ≤ 46 → Form f ta Fa → Form g tb Fb
    → Form (two between f g) (λ x tail. ta x.0 (between ∷ tb x.1 tail)) (λ x. Fa x.0 × Fb x.1)
two_form {A} {B} between f g ta tb Fa Fb low a b = record {
  again = λ end x rest small fit.
      ap (λ (r : Read A). r >>= λ y. g end y.1 >>= λ z. Ok ((y.0, z.0), z.1)) (a.again between x.0 (tb x.1 (end ∷ rest)) low fit.0)
      ∙ ap (λ (r : Read B). r >>= λ z. Ok ((x.0, z.0), z.1)) (b.again end x.1 rest small fit.1);
  fits = λ end left x rest h.
      let first = bind-ok (f between left) (λ y. g end y.1 >>= λ z. Ok ((y.0, z.0), z.1)) (x, rest) h in
      let second = bind-ok (g end first.0.1) (λ z. Ok ((first.0.0, z.0), z.1)) (x, rest) first.2 in
      let same : ((first.0.0, second.0.0) ≡ x) × (second.0.1 ≡ rest) = read_parts (first.0.0, second.0.0) x second.0.1 rest second.2 in
      let P : A × B → Type 0 = λ y. Fa y.0 × Fb y.1 in
      subst P same.0 (a.fits between left first.0.0 first.0.1 first.1, b.fits end first.0.1 second.0.0 second.0.1 second.1);
}

pub made_form : {A B : Type 0} (f : Field A) (t : A → List ℕ → List ℕ) (F : A → Type 0) (make : A → B) (part : B → A) (u : B → List ℕ → List ℕ)
    → Form f t F → ((x : A) → part (make x) ≡ x) → ((y : B) → make (part y) ≡ y) → ((y : B) (tail : List ℕ) → u y tail ≡ t (part y) tail)
    → Form (made make f) u (λ y. F (part y))
made_form {A} {B} f t F make part u c there back same = record {
  again = λ end y rest low fit.
      ap (made make f end) (same y (end ∷ rest))
      ∙ ap (λ (r : Read A). r >>= λ a. Ok (make a.0, a.1)) (c.again end (part y) rest low fit) ∙ ap (λ (w : B). Ok (w, rest)) (back y);
  fits = λ end left y rest h.
      let read = bind-ok (f end left) (λ a. Ok (make a.0, a.1)) (y, rest) h in
      let same = read_parts (make read.0.0) y read.0.1 rest read.2 in
      subst F (sym (there read.0.0) ∙ ap part same.0) (c.fits end left read.0.0 read.0.1 read.1);
}

-- ---- numbers

digits-push : (most n byte : ℕ) (bytes : List ℕ) (k : ℕ) → digits_on most n bytes ≡ Some k → digits_on most n (bytes ++ byte ∷ []) ≡ with_digit most k byte
digits-push most n byte [] k h =
    let e : n ≡ k = cc in
    last (with_digit most n byte) ∙ ap (λ m. with_digit most m byte) e
  where
    last : (o : Option ℕ) → option_and_then (λ m. Some m) o ≡ o
    last None = refl
    last (Some m) = refl
digits-push most n byte (b ∷ bytes) k h = through (λ m. digits-push most m byte bytes k) (with_digit most n b) h
  where
    through : ((m : ℕ) → digits_on most m bytes ≡ Some k → digits_on most m (bytes ++ byte ∷ []) ≡ with_digit most k byte)
        → (o : Option ℕ) → option_and_then (λ m. digits_on most m bytes) o ≡ Some k → option_and_then (λ m. digits_on most m (bytes ++ byte ∷ [])) o ≡ with_digit most k byte
    through each None g = absurd (cc)
    through each (Some m) g = each m g

with_digit-is : (most n c : ℕ) → c < 10 → n * 10 + c ≤ most → with_digit most n (48 + c) ≡ Some (n * 10 + c)
with_digit-is most n c small low = grind (arith, nat_tests)

digits-decimal : (most n : ℕ) → n < 2 ^ 64 → n ≤ most → digits_on most 0 (decimal n) ≡ Some n
digits-decimal most n small low = decimal_by_steps (λ m ds. m ≤ most → digits_on most 0 ds ≡ Some m) one more n small low
  where
    one : (m : ℕ) → m < 10 → m ≤ most → digits_on most 0 ((48 + m) ∷ []) ≡ Some m
    one m h k = ap (option_and_then (λ j. Some j)) (with_digit-is most 0 m h (omega arith)) ∙ ap Some (omega arith)

    more : (m : ℕ) (ds : List ℕ) → 10 ≤ m → (m / 10 ≤ most → digits_on most 0 ds ≡ Some (m / 10)) → m ≤ most → digits_on most 0 (ds ++ (48 + m % 10) ∷ []) ≡ Some m
    more m ds h ih k =
        digits-push most 0 (48 + m % 10) ds (m / 10) (ih (omega arith))
        ∙ with_digit-is most (m / 10) (m % 10) (omega arith) (omega arith)
        ∙ ap Some (omega arith)

with_digit-most : (most n byte k : ℕ) → with_digit most n byte ≡ Some k → k ≤ most
with_digit-most most n byte k h = grind (arith, nat_tests)

digits-most : (most n : ℕ) (bytes : List ℕ) (k : ℕ) → n ≤ most → digits_on most n bytes ≡ Some k → k ≤ most
digits-most most n [] k low h = let e : n ≡ k = cc in omega arith
digits-most most n (b ∷ bytes) k low h = through (λ m. digits-most most m bytes k) (with_digit most n b) refl h
  where
    through : ((m : ℕ) → m ≤ most → digits_on most m bytes ≡ Some k → k ≤ most)
        → (o : Option ℕ) → with_digit most n b ≡ o → option_and_then (λ m. digits_on most m bytes) o ≡ Some k → k ≤ most
    through each None e g = absurd (cc)
    through each (Some m) e g = each m (with_digit-most most n b m e) g

pub number_most : (most : ℕ) (word : List ℕ) (k : ℕ) → number_of most word ≡ Some k → k ≤ most
unfolding number_of
number_most most [] k h = absurd (cc)
number_most most (b ∷ bytes) k h = digits-most most 0 (b ∷ bytes) k (omega arith) h

-- a digit, or another byte above those that end words
abbrev pub is_solid : ℕ → Bool
is_solid b = nat_lt 46 b

pub solid-lacks : (end : ℕ) (bytes : List ℕ) → end ≤ 46 → list_all is_solid bytes ≡ true → lacks end bytes ≡ true
solid-lacks end [] low h = refl
solid-lacks end (b ∷ bytes) low h =
    let parts = and_parts (is_solid b) (list_all is_solid bytes) h in
    and_of (not (b == end)) (lacks end bytes) (other b parts.0) (solid-lacks end bytes low parts.1)
  where
    other : (c : ℕ) → is_solid c ≡ true → not (c == end) ≡ true
    other c k = grind (arith, nat_tests)

    and_of : (a b : Bool) → a ≡ true → b ≡ true → (a && b) ≡ true
    and_of a b h k = rw (h, k) refl

decimal-solid : (n : ℕ) → n < 2 ^ 64 → list_all is_solid (decimal n) ≡ true
decimal-solid n small = decimal_by_steps (λ _ ds. list_all is_solid ds ≡ true) one more n small
  where
    digit : (c : ℕ) → is_solid (48 + c) ≡ true
    digit c = grind (arith, nat_tests)

    one : (m : ℕ) → m < 10 → list_all is_solid ((48 + m) ∷ []) ≡ true
    one m h = rw (digit m) refl

    more : (m : ℕ) (ds : List ℕ) → 10 ≤ m → list_all is_solid ds ≡ true → list_all is_solid (ds ++ (48 + m % 10) ∷ []) ≡ true
    more m ds h ih = list_all-append is_solid ds ((48 + m % 10) ∷ []) ∙ rw (ih, digit (m % 10)) refl

pub decimal-lacks : (end n : ℕ) → end ≤ 46 → n < 2 ^ 64 → lacks end (decimal n) ≡ true
decimal-lacks end n low small = solid-lacks end (decimal n) low (decimal-solid n small)

pub number_of-decimal : (most n : ℕ) → most < 2 ^ 64 → n ≤ most → number_of most (decimal n) ≡ Some n
unfolding number_of
number_of-decimal most n small low = from (decimal n) (digits-decimal most n (omega arith) low) (decimal_nonempty n (omega arith))
  where
    from : (ds : List ℕ) → digits_on most 0 ds ≡ Some n → 0 < length ds → number_of most ds ≡ Some n
    from [] h k = absurd (omega arith)
    from (b ∷ bytes) h k = h

pub number_form : (most : ℕ) → most < 2 ^ 64 → Form (number_field most) (λ n tail. decimal n ++ tail) (λ n. n ≤ most)
unfolding number_field
number_form most small = word_form (number_of most) decimal (λ n. n ≤ most)
    (λ n f. number_of-decimal most n small f)
    (λ n end low f. solid-lacks end (decimal n) low (decimal-solid n (omega (arith, f))))
    (number_most most)

pub u8_form : Form u8_field (λ n tail. decimal n ++ tail) IsU8
u8_form = number_form 255 (omega arith)

pub u32_form : Form u32_field (λ n tail. decimal n ++ tail) IsU32
u32_form = number_form 4294967295 (omega arith)

pub u64_form : Form u64_field (λ n tail. decimal n ++ tail) IsU64
u64_form = number_form 18446744073709551615 (omega arith)

-- ---- names

pub node_form : Form node_field (λ node tail. node_word node ++ tail) IsNode
unfolding node_field
node_form = made_form u8_field (λ n tail. decimal n ++ tail) IsU8 (λ n. record { 0 = n }) (λ node. node.0) (λ node tail. node_word node ++ tail) u8_form (λ n. refl) (λ node. refl) (λ node tail. refl)

pub position_form : Form position_field (λ position tail. position_word position ++ tail) IsPosition
unfolding position_field
position_form = made_form u64_field (λ n tail. decimal n ++ tail) IsU64 (λ n. record { 0 = n }) (λ position. position.0) (λ position tail. position_word position ++ tail) u64_form (λ n. refl) (λ position. refl) (λ position tail. refl)

pub epoch_form : Form epoch_field (λ epoch tail. epoch_word epoch ++ tail) IsEpoch
unfolding epoch_field
epoch_form = made_form (two 46 u32_field u32_field) (λ x tail. decimal x.0 ++ 46 ∷ (decimal x.1 ++ tail)) (λ x. IsU32 x.0 × IsU32 x.1) (λ x. record { start = x.0; count = x.1 }) (λ epoch. (epoch.start, epoch.count)) (λ epoch tail. epoch_word epoch ++ tail)
    (two_form 46 u32_field u32_field (λ n tail. decimal n ++ tail) (λ n tail. decimal n ++ tail) IsU32 IsU32 (omega arith) u32_form u32_form)
    (λ x. refl) (λ epoch. refl) (λ epoch tail. append_assoc (decimal epoch.start) (46 ∷ decimal epoch.count) tail)

pub op_form : Form op_field (λ op tail. op_word op ++ tail) IsOp
unfolding op_field
op_form = made_form (two 46 node_field (two 46 u32_field u32_field)) (λ x tail. node_word x.0 ++ 46 ∷ (decimal x.1.0 ++ 46 ∷ (decimal x.1.1 ++ tail))) (λ x. IsNode x.0 × (IsU32 x.1.0 × IsU32 x.1.1)) (λ x. record { node = x.0; start = x.1.0; number = x.1.1 }) (λ op. (op.node, (op.start, op.number))) (λ op tail. op_word op ++ tail)
    (two_form 46 node_field (two 46 u32_field u32_field) (λ node tail. node_word node ++ tail) (λ x tail. decimal x.0 ++ 46 ∷ (decimal x.1 ++ tail)) IsNode (λ x. IsU32 x.0 × IsU32 x.1) (omega arith) node_form
    (two_form 46 u32_field u32_field (λ n tail. decimal n ++ tail) (λ n tail. decimal n ++ tail) IsU32 IsU32 (omega arith) u32_form u32_form))
    (λ x. refl) (λ op. refl)
    (λ op tail. append_assoc (decimal op.node.0) (46 ∷ (decimal op.start ++ 46 ∷ decimal op.number)) tail ∙ ap (λ l. decimal op.node.0 ++ 46 ∷ l) (append_assoc (decimal op.start) (46 ∷ decimal op.number) tail))

-- ---- bytes in hex

hex_digit-solid : (d : ℕ) → d < 16 → is_solid (slice_index lower_digits d) ≡ true
hex_digit-solid d small = table 16 d refl small
  where
    passes : ℕ → Bool
    passes zero = true
    passes (suc n) = is_solid (slice_index lower_digits n) && passes n

    table : (n k : ℕ) → passes n ≡ true → k < n → is_solid (slice_index lower_digits k) ≡ true
    table zero k h lt = absurd (omega arith)
    table (suc n) k h lt = let parts = and_parts (is_solid (slice_index lower_digits n)) (passes n) h in elim (cases_lt k n) [
      | inl below ↦ table n k parts.1 below
      | inr top ↦ let e : k ≡ n = omega arith in rw e parts.0
    ]

pub hex-solid : (bytes : List ℕ) → IsBytes bytes → list_all is_solid (encode_lower bytes) ≡ true
unfolding encode_with
hex-solid [] f = refl
hex-solid (b ∷ bytes) f =
    let small : b < 256 = f 0 in
    rw (hex_digit-solid (b / 16) (omega arith), hex_digit-solid (b % 16) (omega arith)) (hex-solid bytes (λ i. f (suc i)))

pub hex_form : Form hex_field (λ bytes tail. encode_lower bytes ++ tail) IsBytes
unfolding hex_field
hex_form = word_form (λ word. result_ok (decode_of word)) encode_lower IsBytes
    (λ bytes f. ap result_ok (decode_of-encode_lower bytes f))
    (λ bytes end low f. solid-lacks end (encode_lower bytes) low (hex-solid bytes f))
    (λ word bytes h. (decode_of-ok word bytes (from_ok (decode_of word) bytes h)).3)
  where
    from_ok : (r : Result (List ℕ) FromHexError) (bytes : List ℕ) → result_ok r ≡ Some bytes → r ≡ Ok bytes
    from_ok (Ok x) bytes h = let e : x ≡ bytes = cc in ap Ok e
    from_ok (Err e) bytes h = absurd (cc)

pub group_form : Form group_field (λ group tail. group_word group ++ tail) IsGroup
unfolding group_field
group_form = made_form hex_field (λ bytes tail. encode_lower bytes ++ tail) IsBytes (λ key. record { key = key }) (λ group. group.key) (λ group tail. group_word group ++ tail) hex_form (λ key. refl) (λ group. refl) (λ group tail. refl)

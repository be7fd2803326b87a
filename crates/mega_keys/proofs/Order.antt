-- The order of spellings is the order of values.
use Rattle.std.proofs.Common.{◌≡◌, ℕ, zero, suc, ◌+◌, ◌*◌, ◌/◌, ◌%◌, ◌^◌, ◌<◌, ◌≤◌, ℤ, pos, negsuc, Bool, true, false, List, [], ◌∷◌, ◌++◌, length, refl, sym, ap, ◌∙◌, subst, arith, append_assoc}
use lib.Signed.{◌<ℤ◌}
use Rattle.std.specs.Int.{bytes_high_first, byte_at}
use Rattle.std.specs.declared.cmp.Ordering.{Ordering}
use Rattle.std.specs.declared.cmp.Ordering.TheVariants.{Less, Equal, Greater}
use Rattle.std.specs.Ordering.{nat_cmp, int_cmp, bool_cmp, ordering_then, MatchOrdering}
use Rattle.std.specs.Cmp.{nat_cmp_is, ranks, int_ranks}
use Rattle.std.specs.Cmp.Lexicographic.{slice_cmp}
use Rattle.std.proofs.lemmas.Bool.{false≢true}
use Rattle.std.proofs.lemmas.Int.{ints}
use Rattle.std.proofs.lemmas.Nat.{mod-pow-add, pow-add, pow_pos, mod_below, mul-add-lt}
use Rattle.std.proofs.Math.Nat.{div-one, mod-eq_of_lt, mul_comm, pow-suc, mod-one}
use Rattle.mega_base.specs.declared.values.Value.{Value}
use Rattle.mega_base.specs.declared.values.Value.TheVariants.{Int32, Int64, Bool as Truth, Str, Raw}
use Rattle.mega_base.specs.declared.values.Kind.{Kind}
use Rattle.mega_base.specs.declared.values.Kind.TheVariants as kinds
use Rattle.mega_keys.specs.Spelling.{raised, escaped, bit_of, spell, spell_all}
use Rattle.mega_keys.specs.Fit.{has_kind, IsWithin, IsValue, StandIn}
use Rattle.mega_keys.specs.Order.{value_cmp, values_cmp}
use Rattle.mega_keys.proofs.Again.{escape-suc, raised_fits}

-- spellings in this order, whatever follows them, unless they are equal
abbrev pub Orders : Ordering → List ℕ → List ℕ → Type 0
Orders o a b = (x y : List ℕ) → slice_cmp nat_cmp (a ++ x) (b ++ y) ≡ ordering_then o (slice_cmp nat_cmp x y)

pub then_assoc : (o p q : Ordering) → ordering_then o (ordering_then p q) ≡ ordering_then (ordering_then o p) q
then_assoc Less p q = refl
then_assoc Equal p q = refl
then_assoc Greater p q = refl

pub orders_then : (o p : Ordering) (a b c d : List ℕ) → Orders o a b → Orders p c d → Orders (ordering_then o p) (a ++ c) (b ++ d)
orders_then o p a b c d h g x y =
    (λ i. slice_cmp nat_cmp (append_assoc a c x i) (append_assoc b d y i)) ∙ h (c ++ x) (d ++ y) ∙ ap (ordering_then o) (g x y) ∙ then_assoc o p (slice_cmp nat_cmp x y)

pub orders_byte : (m n : ℕ) → Orders (nat_cmp m n) (m ∷ []) (n ∷ [])
orders_byte m n x y = refl

-- lists as long as one another
pub orders_long : (a b : List ℕ) → length a ≡ length b → Orders (slice_cmp nat_cmp a b) a b
orders_long [] [] e x y = refl
orders_long [] (n ∷ b) e x y = absurd (omega (arith, e))
orders_long (m ∷ a) [] e x y = absurd (omega (arith, e))
orders_long (m ∷ a) (n ∷ b) e x y =
    let same : length a ≡ length b = omega (arith, e) in
    ap (ordering_then (nat_cmp m n)) (orders_long a b same x y) ∙ then_assoc (nat_cmp m n) (slice_cmp nat_cmp a b) (slice_cmp nat_cmp x y)

-- two digits decide one after the other
digits_cmp : (k a b r s : ℕ) → r < k → s < k → nat_cmp (a * k + r) (b * k + s) ≡ ordering_then (nat_cmp a b) (nat_cmp r s)
digits_cmp k a b r s hr hs = sym (nat_cmp_is (a * k + r) (b * k + s) _ (by (nat_cmp a b) (nat_cmp r s) (ranks a b) (ranks r s)))
  where
    by : (o p : Ordering) → MatchOrdering o (a < b) (a ≡ b) (b < a) → MatchOrdering p (r < s) (r ≡ s) (s < r) → MatchOrdering (ordering_then o p) (a * k + r < b * k + s) (a * k + r ≡ b * k + s) (b * k + s < a * k + r)
    by Less p h g = omega (arith, mul-add-lt a k r b h hr, mul_comm k b)
    by Equal Less h g = rw h (omega (arith, g))
    by Equal Equal h g = rw (h, g) refl
    by Equal Greater h g = rw h (omega (arith, g))
    by Greater p h g = omega (arith, mul-add-lt b k s a h hs, mul_comm k a)

pow_256 : (k : ℕ) → 256 ^ k ≡ 2 ^ (8 * k)
pow_256 zero = refl
pow_256 (suc k) =
    let more : 8 * suc k ≡ 8 * k + 8 = omega arith in
    rw (pow-suc 256 k, more, pow-add 2 (8 * k) 8) (ap (λ m. m * 256) (pow_256 k))

byte_at-is : (k n : ℕ) → byte_at k n ≡ n / 2 ^ (8 * k) % 2 ^ 8
byte_at-is zero n = ap (λ m. m % 256) (sym (div-one n))
byte_at-is (suc k) n = ap (λ m. n / m % 256) (pow_256 (suc k))

-- the lowest k bytes of two numbers
low_bytes : (k m n : ℕ) → Orders (nat_cmp (m % 2 ^ (8 * k)) (n % 2 ^ (8 * k))) (bytes_high_first k m) (bytes_high_first k n)
low_bytes zero m n = λ x y. ap (λ o. ordering_then o (slice_cmp nat_cmp x y)) (sym ((λ i. nat_cmp (mod-one m i) (mod-one n i))))
low_bytes (suc k) m n =
    let P : ℕ = 2 ^ (8 * k) in
    let pos_P : 0 < P = pow_pos (8 * k) in
    let whole = orders_then _ _ (byte_at k m ∷ []) (byte_at k n ∷ []) (bytes_high_first k m) (bytes_high_first k n) (orders_byte (byte_at k m) (byte_at k n)) (low_bytes k m n) in
    let is = ordering_of k m n in
    subst (λ o. Orders o (bytes_high_first (suc k) m) (bytes_high_first (suc k) n)) is whole
  where
    split : (k m : ℕ) → m % 2 ^ (8 * suc k) ≡ byte_at k m * 2 ^ (8 * k) + m % 2 ^ (8 * k)
    split k m =
        let more : 8 * suc k ≡ 8 + 8 * k = omega arith in
        ap (λ e. m % 2 ^ e) more ∙ mod-pow-add m 8 (8 * k) ∙ ap (λ d. d * 2 ^ (8 * k) + m % 2 ^ (8 * k)) (sym (byte_at-is k m))

    ordering_of : (k m n : ℕ) → ordering_then (nat_cmp (byte_at k m) (byte_at k n)) (nat_cmp (m % 2 ^ (8 * k)) (n % 2 ^ (8 * k))) ≡ nat_cmp (m % 2 ^ (8 * suc k)) (n % 2 ^ (8 * suc k))
    ordering_of k m n =
        sym (digits_cmp (2 ^ (8 * k)) (byte_at k m) (byte_at k n) (m % 2 ^ (8 * k)) (n % 2 ^ (8 * k)) (mod_below m _ (pow_pos (8 * k))) (mod_below n _ (pow_pos (8 * k)))) ∙ sym (λ i. nat_cmp (split k m i) (split k n i))

orders_number : (k m n : ℕ) → m < 2 ^ (8 * k) → n < 2 ^ (8 * k) → Orders (nat_cmp m n) (bytes_high_first k m) (bytes_high_first k n)
orders_number k m n hm hn =
    let same : nat_cmp (m % 2 ^ (8 * k)) (n % 2 ^ (8 * k)) ≡ nat_cmp m n = λ i. nat_cmp (mod-eq_of_lt hm i) (mod-eq_of_lt hn i) in
    subst (λ o. Orders o (bytes_high_first k m) (bytes_high_first k n)) same (low_bytes k m n)

raised_lt : (half : ℕ) (z y : ℤ) → IsWithin half z → IsWithin half y → z <ℤ y → raised half z < raised half y
raised_lt half (pos m) (pos n) h g lt = omega (arith, ints)
raised_lt half (pos m) (negsuc n) h g lt = omega (arith, ints)
raised_lt half (negsuc m) (pos n) h g lt = omega (arith, ints)
raised_lt half (negsuc m) (negsuc n) h g lt = omega (arith, ints)

raised_cmp : (half : ℕ) (z y : ℤ) → IsWithin half z → IsWithin half y → int_cmp z y ≡ nat_cmp (raised half z) (raised half y)
raised_cmp half z y h g = nat_cmp_is (raised half z) (raised half y) (int_cmp z y) (by (int_cmp z y) (int_ranks z y))
  where
    by : (o : Ordering) → MatchOrdering o (z <ℤ y) (z ≡ y) (y <ℤ z) → MatchOrdering o (raised half z < raised half y) (raised half z ≡ raised half y) (raised half y < raised half z)
    by Less lt = raised_lt half z y h g lt
    by Equal same = ap (raised half) same
    by Greater lt = raised_lt half y z g h lt

less_suc : (c : ℕ) → nat_cmp 0 (suc c) ≡ Less
less_suc c = sym (nat_cmp_is 0 (suc c) Less (omega arith))

greater_suc : (c : ℕ) → nat_cmp (suc c) 0 ≡ Greater
greater_suc c = sym (nat_cmp_is (suc c) 0 Greater (omega arith))

pub orders_escaped : (s t : List ℕ) → Orders (slice_cmp nat_cmp s t) (escaped s) (escaped t)
orders_escaped [] [] x y = refl
orders_escaped [] (zero ∷ t) x y = refl
orders_escaped [] (suc c ∷ t) x y = rw (escape-suc c, less_suc c) refl
orders_escaped (zero ∷ s) [] x y = refl
orders_escaped (suc b ∷ s) [] x y = rw (escape-suc b, greater_suc b) refl
orders_escaped (zero ∷ s) (zero ∷ t) x y = orders_escaped s t x y
orders_escaped (zero ∷ s) (suc c ∷ t) x y = rw (escape-suc c, less_suc c) refl
orders_escaped (suc b ∷ s) (zero ∷ t) x y = rw (escape-suc b, greater_suc b) refl
orders_escaped (suc b ∷ s) (suc c ∷ t) x y =
    rw (escape-suc b, escape-suc c) (ap (ordering_then (nat_cmp (suc b) (suc c))) (orders_escaped s t x y) ∙ then_assoc (nat_cmp (suc b) (suc c)) (slice_cmp nat_cmp s t) (slice_cmp nat_cmp x y))

orders_truth : (b c : Bool) → Orders (bool_cmp b c) (bit_of b ∷ []) (bit_of c ∷ [])
orders_truth true true x y = refl
orders_truth true false x y = refl
orders_truth false true x y = refl
orders_truth false false x y = refl

orders_signed : (k half : ℕ) (z y : ℤ) → half + half ≤ 2 ^ (8 * k) → IsWithin half z → IsWithin half y → Orders (int_cmp z y) (bytes_high_first k (raised half z)) (bytes_high_first k (raised half y))
orders_signed k half z y le h g =
    let whole = orders_number k (raised half z) (raised half y) (omega (arith, raised_fits half z h)) (omega (arith, raised_fits half y g)) in
    subst (λ o. Orders o (bytes_high_first k (raised half z)) (bytes_high_first k (raised half y))) (sym (raised_cmp half z y h g)) whole

-- a value against another of its kind
with_int32 : (z : ℤ) (w : Value) → has_kind kinds.Int32 w ≡ true → IsWithin (2 ^ 31) z → IsValue w → Orders (value_cmp (Int32 z) w) (spell (Int32 z)) (spell w)
with_int32 z (Int32 y) e h g = orders_signed 4 (2 ^ 31) z y (omega arith) h g
with_int32 z _ e h g = absurd (false≢true e)

with_int64 : (z : ℤ) (w : Value) → has_kind kinds.Int64 w ≡ true → IsWithin (2 ^ 63) z → IsValue w → Orders (value_cmp (Int64 z) w) (spell (Int64 z)) (spell w)
with_int64 z (Int64 y) e h g = orders_signed 8 (2 ^ 63) z y (omega arith) h g
with_int64 z _ e h g = absurd (false≢true e)

with_truth : (b : Bool) (w : Value) → has_kind kinds.Bool w ≡ true → Orders (value_cmp (Truth b) w) (spell (Truth b)) (spell w)
with_truth b (Truth c) e = orders_truth b c
with_truth b _ e = absurd (false≢true e)

with_text : (t : List ℕ) (w : Value) → has_kind kinds.Str w ≡ true → Orders (value_cmp (Str t) w) (spell (Str t)) (spell w)
with_text t (Str u) e = orders_escaped t u
with_text t _ e = absurd (false≢true e)

with_raw : (t : List ℕ) (w : Value) → has_kind kinds.Raw w ≡ true → Orders (value_cmp (Raw t) w) (spell (Raw t)) (spell w)
with_raw t (Raw u) e = orders_escaped t u
with_raw t _ e = absurd (false≢true e)

orders_value : (k : Kind) (v w : Value) → has_kind k v ≡ true → has_kind k w ≡ true → IsValue v → IsValue w → Orders (value_cmp v w) (spell v) (spell w)
orders_value kinds.Int32 (Int32 z) w e f h g = with_int32 z w f h g
orders_value kinds.Int64 (Int64 z) w e f h g = with_int64 z w f h g
orders_value kinds.Bool (Truth b) w e f h g = with_truth b w f
orders_value kinds.Str (Str t) w e f h g = with_text t w f
orders_value kinds.Raw (Raw t) w e f h g = with_raw t w f
orders_value _ _ w e f h g = absurd (false≢true e)

pub orders_values : (ks : List Kind) (vs ws : List Value) → StandIn ks vs → StandIn ks ws → Orders (values_cmp vs ws) (spell_all vs) (spell_all ws)
orders_values [] [] [] h g = λ x y. refl
orders_values [] [] (w ∷ ws) h g = absurd g
orders_values [] (v ∷ vs) ws h g = absurd h
orders_values (k ∷ ks) [] ws h g = absurd h
orders_values (k ∷ ks) (v ∷ vs) [] h g = absurd g
orders_values (k ∷ ks) (v ∷ vs) (w ∷ ws) h g =
    orders_then (value_cmp v w) (values_cmp vs ws) (spell v) (spell w) (spell_all vs) (spell_all ws) (orders_value k v w h.0 g.0 h.1 g.1) (orders_values ks vs ws h.2 g.2)

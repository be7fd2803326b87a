-- Values that are spelled alike: what is spelled tells where each value ends, also of numbers that no program holds.
use Rattle.std.proofs.Common.{◌≡◌, ℕ, zero, suc, ◌+◌, ◌^◌, ◌<◌, ◌≤◌, cond, ltb, eqb, Bool, true, false, List, [], ◌∷◌, ◌++◌, length, take, drop, get_or, refl, sym, ap, ◌∙◌, arith, append_assoc, length-append, length-take-le, take-append-drop, take_at, drop_at, le-ltb, ltb-false, Ok, Err}
use Rattle.std.specs.Int.{Width, w32, w64, byte_len, to_be_bytes, from_be_bytes}
use Rattle.std.specs.List.{flat_map}
use Rattle.std.specs.Str.{is_utf8}
use Rattle.std.proofs.lemmas.Nat.{be_bytes_4, be_bytes_8}
use Rattle.mega_base.specs.declared.values.Value.{Value}
use Rattle.mega_base.specs.declared.values.Value.TheVariants.{Int32, Int64, Bool as Truth, Str, Raw}
use Rattle.mega_base.specs.declared.values.Kind.{Kind}
use Rattle.mega_base.specs.declared.values.Kind.TheVariants as kinds
use Rattle.mega_base.specs.declared.values.Shape.{Shape}
use Rattle.mega_keys.specs.Spelling.{raised, escaped, spell, plain, spell_all, scattered, scatter_of, head_bytes, root_part, rest_part, row_bytes}
use Rattle.mega_keys.specs.Fit.{has_kind}
use Rattle.mega_keys.specs.Reading.{Read, ◌>>=◌, number_at, lowered, int32_at, int64_at, truth_at, unescaped, raw_at, text_of, text_at, value_at, values_at}
use Rattle.mega_keys.proofs.Again.{unescaped_again}
use Rattle.mega_keys.proofs.Takes.{bind_ok, guard_ok, ok_parts, raised-lowered, unescaped_takes}

-- the same bytes, in keys and where they scatter
abbrev pub AlikeOne : Value → Value → Type 0
AlikeOne v w = (spell v ≡ spell w) × (plain v ≡ plain w)

abbrev pub Alike : List Value → List Value → Type 0
Alike [] [] = Unit {0}
Alike [] (w ∷ ws) = ⊥
Alike (v ∷ vs) [] = ⊥
Alike (v ∷ vs) (w ∷ ws) = AlikeOne v w × Alike vs ws

-- values of the same kinds
abbrev pub SameKinds : List Value → List Value → Type 0
SameKinds [] [] = Unit {0}
SameKinds [] (w ∷ ws) = ⊥
SameKinds (v ∷ vs) [] = ⊥
SameKinds (v ∷ vs) (w ∷ ws) = ((kind : Kind) × (has_kind kind v ≡ true) × (has_kind kind w ≡ true)) × SameKinds vs ws

-- values of these kinds
abbrev pub AreOf : List Kind → List Value → Type 0
AreOf [] [] = Unit {0}
AreOf [] (v ∷ vs) = ⊥
AreOf (k ∷ ks) [] = ⊥
AreOf (k ∷ ks) (v ∷ vs) = (has_kind k v ≡ true) × AreOf ks vs

pub same_kinds : (ks : List Kind) (vs ws : List Value) → AreOf ks vs → AreOf ks ws → SameKinds vs ws
same_kinds [] [] [] h g = tt
same_kinds [] [] (w ∷ ws) h g = absurd g
same_kinds [] (v ∷ vs) ws h g = absurd h
same_kinds (k ∷ ks) [] ws h g = absurd h
same_kinds (k ∷ ks) (v ∷ vs) [] h g = absurd g
same_kinds (k ∷ ks) (v ∷ vs) (w ∷ ws) h g = ((k, h.0, g.0), same_kinds ks vs ws h.1 g.1)

-- ---- what begins with a value

pub fronts : (a b xs ys : List ℕ) → length a ≡ length b → a ++ xs ≡ b ++ ys → (a ≡ b) × (xs ≡ ys)
fronts a b xs ys long h = (
  sym (take_at a xs (length b) long) ∙ ap (take (length b)) h ∙ take_at b ys (length b) refl,
  sym (drop_at a xs (length b) long) ∙ ap (drop (length b)) h ∙ drop_at b ys (length b) refl,
)

texts_split : (s t xs ys : List ℕ) → escaped s ++ xs ≡ escaped t ++ ys → (s ≡ t) × (xs ≡ ys)
texts_split s t xs ys h = ok_parts (sym (unescaped_again s xs) ∙ ap unescaped h ∙ unescaped_again t ys)

value_split : (k : Kind) (v w : Value) (xs ys : List ℕ) → has_kind k v ≡ true → has_kind k w ≡ true → spell v ++ xs ≡ spell w ++ ys → AlikeOne v w × (xs ≡ ys)
value_split kinds.Int32 (Int32 a) (Int32 b) xs ys h g e = let s = fronts (spell (Int32 a)) (spell (Int32 b)) xs ys refl e in ((s.0, s.0), s.1)
value_split kinds.Int64 (Int64 a) (Int64 b) xs ys h g e = let s = fronts (spell (Int64 a)) (spell (Int64 b)) xs ys refl e in ((s.0, s.0), s.1)
value_split kinds.Bool (Truth a) (Truth b) xs ys h g e = let s = fronts (spell (Truth a)) (spell (Truth b)) xs ys refl e in ((s.0, s.0), s.1)
value_split kinds.Str (Str a) (Str b) xs ys h g e = let s = texts_split a b xs ys e in ((ap escaped s.0, s.0), s.1)
value_split kinds.Raw (Raw a) (Raw b) xs ys h g e = let s = texts_split a b xs ys e in ((ap escaped s.0, s.0), s.1)
value_split _ _ _ xs ys h g e = cc

pub values_split : (vs ws : List Value) (xs ys : List ℕ) → SameKinds vs ws → spell_all vs ++ xs ≡ spell_all ws ++ ys → Alike vs ws × (xs ≡ ys)
values_split [] [] xs ys h e = (tt, e)
values_split [] (w ∷ ws) xs ys h e = absurd h
values_split (v ∷ vs) [] xs ys h e = absurd h
values_split (v ∷ vs) (w ∷ ws) xs ys h e =
    let first = value_split (h.0).0 v w (spell_all vs ++ xs) (spell_all ws ++ ys) (h.0).1 (h.0).2 (sym (append_assoc (spell v) (spell_all vs) xs) ∙ e ∙ append_assoc (spell w) (spell_all ws) ys) in
    let more = values_split vs ws xs ys h.1 first.1 in
    ((first.0, more.0), more.1)

-- ---- what is alike gives the same keys

alike_spelled : (vs ws : List Value) → Alike vs ws → spell_all vs ≡ spell_all ws
alike_spelled [] [] h = refl
alike_spelled [] (w ∷ ws) h = absurd h
alike_spelled (v ∷ vs) [] h = absurd h
alike_spelled (v ∷ vs) (w ∷ ws) h = let more = alike_spelled vs ws h.1 in (λ i. (h.0).0 i ++ more i)

alike_plain : (vs ws : List Value) → Alike vs ws → flat_map plain vs ≡ flat_map plain ws
alike_plain [] [] h = refl
alike_plain [] (w ∷ ws) h = absurd h
alike_plain (v ∷ vs) [] h = absurd h
alike_plain (v ∷ vs) (w ∷ ws) h = let more = alike_plain vs ws h.1 in (λ i. (h.0).1 i ++ more i)

alike_take : (n : ℕ) (vs ws : List Value) → Alike vs ws → Alike (take n vs) (take n ws)
alike_take zero vs ws h = tt
alike_take (suc n) [] [] h = tt
alike_take (suc n) [] (w ∷ ws) h = absurd h
alike_take (suc n) (v ∷ vs) [] h = absurd h
alike_take (suc n) (v ∷ vs) (w ∷ ws) h = (h.0, alike_take n vs ws h.1)

alike_drop : (n : ℕ) (vs ws : List Value) → Alike vs ws → Alike (drop n vs) (drop n ws)
alike_drop zero vs ws h = h
alike_drop (suc n) [] [] h = tt
alike_drop (suc n) [] (w ∷ ws) h = absurd h
alike_drop (suc n) (v ∷ vs) [] h = absurd h
alike_drop (suc n) (v ∷ vs) (w ∷ ws) h = alike_drop n vs ws h.1

alike_scatters : (s : Bool) (vs ws : List Value) → Alike vs ws → scatter_of s vs ≡ scatter_of s ws
unfolding scattered
alike_scatters true vs ws h = rw (alike_plain vs ws h) refl
alike_scatters false vs ws h = refl

pub alike_head : (first : ℕ) (s : Bool) (vs ws : List Value) → Alike vs ws → head_bytes first s vs ≡ head_bytes first s ws
alike_head first s vs ws h = let a = alike_scatters s vs ws h in let b = alike_spelled vs ws h in (λ i. first ∷ (a i ++ b i))

pub alike_rows : (shape : Shape) (vs ws : List Value) → Alike vs ws → row_bytes shape vs ≡ row_bytes shape ws
alike_rows shape vs ws h =
    let a = alike_head shape.space shape.scatter (root_part shape vs) (root_part shape ws) (alike_take (length shape.root_kinds) vs ws h) in
    let b = alike_spelled (rest_part shape vs) (rest_part shape ws) (alike_drop (length shape.root_kinds) vs ws h) in
    (λ i. a i ++ shape.table ∷ b i)

-- ---- what was read is alike what was spelled

number_read : (w : Width) (n : ℕ) (rest : List ℕ) → length (to_be_bytes w n) ≡ byte_len w → number_at w (to_be_bytes w n ++ rest) ≡ Ok (from_be_bytes w (to_be_bytes w n), rest)
number_read w n rest long =
    let enough : byte_len w ≤ length (to_be_bytes w n ++ rest) = omega (arith, length-append (to_be_bytes w n) rest) in
    ap (λ b. cond b (Err 0) (Ok (from_be_bytes w (take (byte_len w) (to_be_bytes w n ++ rest)), drop (byte_len w) (to_be_bytes w n ++ rest)))) (le-ltb _ _ enough)
    ∙ ap (λ (x : List ℕ). Ok (from_be_bytes w x, drop (byte_len w) (to_be_bytes w n ++ rest))) (take_at (to_be_bytes w n) rest (byte_len w) long)
    ∙ ap (λ (x : List ℕ). Ok (from_be_bytes w (to_be_bytes w n), x)) (drop_at (to_be_bytes w n) rest (byte_len w) long)

bytes_32 : (n i : ℕ) → get_or (to_be_bytes w32 n) i 0 < 256
bytes_32 n zero = omega arith
bytes_32 n (suc zero) = omega arith
bytes_32 n (suc (suc zero)) = omega arith
bytes_32 n (suc (suc (suc zero))) = omega arith
bytes_32 n (suc (suc (suc (suc i)))) = omega arith

bytes_64 : (n i : ℕ) → get_or (to_be_bytes w64 n) i 0 < 256
bytes_64 n zero = omega arith
bytes_64 n (suc zero) = omega arith
bytes_64 n (suc (suc zero)) = omega arith
bytes_64 n (suc (suc (suc zero))) = omega arith
bytes_64 n (suc (suc (suc (suc zero)))) = omega arith
bytes_64 n (suc (suc (suc (suc (suc zero))))) = omega arith
bytes_64 n (suc (suc (suc (suc (suc (suc zero)))))) = omega arith
bytes_64 n (suc (suc (suc (suc (suc (suc (suc zero))))))) = omega arith
bytes_64 n (suc (suc (suc (suc (suc (suc (suc (suc i)))))))) = omega arith

-- a value that was read where another was spelled is spelled so too
pub record Reread (v w : Value) (rest left : List ℕ) : Type 0 where
  pub alike : AlikeOne v w
  pub left_is : left ≡ rest

value_reread : (k : Kind) (v w : Value) (rest left : List ℕ) → has_kind k v ≡ true → value_at k (spell v ++ rest) ≡ Ok (w, left) → Reread v w rest left
unfolding int32_at int64_at truth_at raw_at text_at text_of
value_reread kinds.Int32 (Int32 z) w rest left h e =
    let n = raised (2 ^ 31) z in
    let b = bind_ok (number_at w32 (spell (Int32 z) ++ rest)) (λ n. Ok (Int32 (lowered (2 ^ 31) n.0), n.1)) (w, left) e in
    let read = ok_parts (sym (number_read w32 n rest refl) ∙ b.1) in
    let parts = ok_parts b.2 in
    let back : to_be_bytes w32 (from_be_bytes w32 (to_be_bytes w32 n)) ≡ to_be_bytes w32 n = be_bytes_4 (to_be_bytes w32 n) (from_be_bytes w32 (to_be_bytes w32 n)) refl (bytes_32 n) refl in
    let spelled : spell (Int32 z) ≡ spell w = sym back ∙ ap (to_be_bytes w32) (read.0 ∙ sym (raised-lowered (2 ^ 31) (b.0).0)) ∙ ap spell parts.0 in
    let plainly : plain (Int32 z) ≡ plain w = sym back ∙ ap (to_be_bytes w32) (read.0 ∙ sym (raised-lowered (2 ^ 31) (b.0).0)) ∙ ap plain parts.0 in
    record { alike = (spelled, plainly); left_is = sym (read.1 ∙ parts.1) }
value_reread kinds.Int64 (Int64 z) w rest left h e =
    let n = raised (2 ^ 63) z in
    let b = bind_ok (number_at w64 (spell (Int64 z) ++ rest)) (λ n. Ok (Int64 (lowered (2 ^ 63) n.0), n.1)) (w, left) e in
    let read = ok_parts (sym (number_read w64 n rest refl) ∙ b.1) in
    let parts = ok_parts b.2 in
    let back : to_be_bytes w64 (from_be_bytes w64 (to_be_bytes w64 n)) ≡ to_be_bytes w64 n = be_bytes_8 (to_be_bytes w64 n) (from_be_bytes w64 (to_be_bytes w64 n)) refl (bytes_64 n) refl in
    let spelled : spell (Int64 z) ≡ spell w = sym back ∙ ap (to_be_bytes w64) (read.0 ∙ sym (raised-lowered (2 ^ 63) (b.0).0)) ∙ ap spell parts.0 in
    let plainly : plain (Int64 z) ≡ plain w = sym back ∙ ap (to_be_bytes w64) (read.0 ∙ sym (raised-lowered (2 ^ 63) (b.0).0)) ∙ ap plain parts.0 in
    record { alike = (spelled, plainly); left_is = sym (read.1 ∙ parts.1) }
value_reread kinds.Bool (Truth true) w rest left h e = let parts = ok_parts e in record { alike = (ap spell parts.0, ap plain parts.0); left_is = sym parts.1 }
value_reread kinds.Bool (Truth false) w rest left h e = let parts = ok_parts e in record { alike = (ap spell parts.0, ap plain parts.0); left_is = sym parts.1 }
value_reread kinds.Str (Str t) w rest left h e =
    let b = bind_ok (unescaped (escaped t ++ rest)) (λ x. text_of x.0 (length (escaped t ++ rest)) >>= λ v. Ok (v, x.1)) (w, left) e in
    let read = ok_parts (sym (unescaped_again t rest) ∙ b.1) in
    let d = bind_ok (text_of (b.0).0 (length (escaped t ++ rest))) (λ v. Ok (v, (b.0).1)) (w, left) b.2 in
    let parts = ok_parts d.2 in
    let is : d.0 ≡ Str (b.0).0 = text_is (is_utf8 (b.0).0) (b.0).0 _ d.0 d.1 in
    let same : Str t ≡ w = ap Str read.0 ∙ sym is ∙ parts.0 in
    record { alike = (ap spell same, ap plain same); left_is = sym (read.1 ∙ parts.1) }
  where
    text_is : (b : Bool) (t : List ℕ) (n : ℕ) (v : Value) → cond b (Ok (Str t)) (Err n) ≡ Ok v → v ≡ Str t
    text_is true t n v h = let same : Str t ≡ v = cc in sym same
    text_is false t n v h = absurd (cc)
value_reread kinds.Raw (Raw t) w rest left h e =
    let b = bind_ok (unescaped (escaped t ++ rest)) (λ x. Ok (Raw x.0, x.1)) (w, left) e in
    let read = ok_parts (sym (unescaped_again t rest) ∙ b.1) in
    let parts = ok_parts b.2 in
    let same : Raw t ≡ w = ap Raw read.0 ∙ parts.0 in
    record { alike = (ap spell same, ap plain same); left_is = sym (read.1 ∙ parts.1) }
value_reread _ _ w rest left h e = cc

pub record RereadAll (vs ws : List Value) (rest left : List ℕ) : Type 0 where
  pub alike : Alike vs ws
  pub left_is : left ≡ rest

pub values_reread : (ks : List Kind) (vs ws : List Value) (rest left : List ℕ) → AreOf ks vs → values_at ks (spell_all vs ++ rest) ≡ Ok (ws, left) → RereadAll vs ws rest left
unfolding values_at
values_reread [] [] ws rest left h e = let parts = ok_parts e in rw (← parts.0) (record { alike = tt; left_is = sym parts.1 })
values_reread [] (v ∷ vs) ws rest left h e = absurd h
values_reread (k ∷ ks) [] ws rest left h e = absurd h
values_reread (k ∷ ks) (v ∷ vs) ws rest left h e =
    let a = bind_ok (value_at k (spell_all (v ∷ vs) ++ rest)) (λ first. values_at ks first.1 >>= λ more. Ok (first.0 ∷ more.0, more.1)) (ws, left) e in
    let first = value_reread k v (a.0).0 (spell_all vs ++ rest) (a.0).1 h.0 (ap (value_at k) (sym (append_assoc (spell v) (spell_all vs) rest)) ∙ a.1) in
    let b = bind_ok (values_at ks (a.0).1) (λ more. Ok ((a.0).0 ∷ more.0, more.1)) (ws, left) a.2 in
    let more = values_reread ks vs (b.0).0 rest (b.0).1 h.1 (ap (values_at ks) (sym first.left_is) ∙ b.1) in
    let parts = ok_parts b.2 in
    rw (← parts.0) (record { alike = (first.alike, more.alike); left_is = sym parts.1 ∙ more.left_is })

-- ---- how far reading goes

-- a value, or some, was read from the front of the bytes, as long as it is spelled
pub record Passed (bytes : List ℕ) (long : ℕ) (left : List ℕ) : Type 0 where
  pub front : List ℕ
  pub is : bytes ≡ front ++ left
  pub length_is : length front ≡ long

number_passes : (w : Width) (n : ℕ) (bytes left : List ℕ) → number_at w bytes ≡ Ok (n, left) → Passed bytes (byte_len w) left
number_passes w n bytes left h =
    let g = guard_ok (ltb (length bytes) (byte_len w)) 0 (from_be_bytes w (take (byte_len w) bytes), drop (byte_len w) bytes) (n, left) h in
    let behind : drop (byte_len w) bytes ≡ left = ap (λ (x : ℕ × List ℕ). x.1) g.1 in
    record { front = take (byte_len w) bytes; is = sym (take-append-drop (byte_len w) bytes) ∙ ap (λ x. take (byte_len w) bytes ++ x) behind; length_is = length-take-le (byte_len w) bytes (ltb-false _ _ g.0) }

truth_passes : (b c : Bool) (byte : ℕ) (bytes : List ℕ) (v : Value) (left : List ℕ) → cond {A = Read Value} b (Ok (Truth false, bytes)) (cond c (Ok (Truth true, bytes)) (Err (suc (length bytes)))) ≡ Ok (v, left) → Passed (byte ∷ bytes) (length (spell v)) left
truth_passes true c byte bytes v left h = let parts = ok_parts h in rw (← parts.0) (record { front = byte ∷ []; is = ap (λ x. byte ∷ x) parts.1; length_is = refl })
truth_passes false true byte bytes v left h = let parts = ok_parts h in rw (← parts.0) (record { front = byte ∷ []; is = ap (λ x. byte ∷ x) parts.1; length_is = refl })
truth_passes false false byte bytes v left h = absurd (cc)

value_passes : (k : Kind) (bytes : List ℕ) (v : Value) (left : List ℕ) → value_at k bytes ≡ Ok (v, left) → Passed bytes (length (spell v)) left
unfolding int32_at int64_at truth_at raw_at text_at text_of
value_passes kinds.Int32 bytes v left h =
    let b = bind_ok (number_at w32 bytes) (λ n. Ok (Int32 (lowered (2 ^ 31) n.0), n.1)) (v, left) h in
    let parts = ok_parts b.2 in
    let p = number_passes w32 (b.0).0 bytes (b.0).1 b.1 in
    rw (← parts.0) (record { front = p.front; is = p.is ∙ ap (λ x. p.front ++ x) parts.1; length_is = p.length_is })
value_passes kinds.Int64 bytes v left h =
    let b = bind_ok (number_at w64 bytes) (λ n. Ok (Int64 (lowered (2 ^ 63) n.0), n.1)) (v, left) h in
    let parts = ok_parts b.2 in
    let p = number_passes w64 (b.0).0 bytes (b.0).1 b.1 in
    rw (← parts.0) (record { front = p.front; is = p.is ∙ ap (λ x. p.front ++ x) parts.1; length_is = p.length_is })
value_passes kinds.Bool [] v left h = absurd (cc)
value_passes kinds.Bool (byte ∷ bytes) v left h = truth_passes (eqb byte 0) (eqb byte 1) byte bytes v left h
value_passes kinds.Str bytes v left h =
    let b = bind_ok (unescaped bytes) (λ x. text_of x.0 (length bytes) >>= λ w. Ok (w, x.1)) (v, left) h in
    let d = bind_ok (text_of (b.0).0 (length bytes)) (λ w. Ok (w, (b.0).1)) (v, left) b.2 in
    let parts = ok_parts d.2 in
    let is : Str (b.0).0 ≡ v = text_is (is_utf8 (b.0).0) (b.0).0 _ d.0 d.1 ∙ parts.0 in
    rw (← is) (record { front = escaped (b.0).0; is = unescaped_takes bytes (b.0).0 (b.0).1 b.1 ∙ ap (λ x. escaped (b.0).0 ++ x) parts.1; length_is = refl })
  where
    text_is : (b : Bool) (t : List ℕ) (n : ℕ) (v : Value) → cond b (Ok (Str t)) (Err n) ≡ Ok v → Str t ≡ v
    text_is true t n v h = cc
    text_is false t n v h = absurd (cc)
value_passes kinds.Raw bytes v left h =
    let b = bind_ok (unescaped bytes) (λ x. Ok (Raw x.0, x.1)) (v, left) h in
    let parts = ok_parts b.2 in
    rw (← parts.0) (record { front = escaped (b.0).0; is = unescaped_takes bytes (b.0).0 (b.0).1 b.1 ∙ ap (λ x. escaped (b.0).0 ++ x) parts.1; length_is = refl })

pub record PassedAll (ks : List Kind) (bytes : List ℕ) (vs : List Value) (left : List ℕ) : Type 0 where
  pub passed : Passed bytes (length (spell_all vs)) left
  pub count : length vs ≡ length ks

pub values_pass : (ks : List Kind) (bytes : List ℕ) (vs : List Value) (left : List ℕ) → values_at ks bytes ≡ Ok (vs, left) → PassedAll ks bytes vs left
unfolding values_at
values_pass [] bytes vs left h = let parts = ok_parts h in rw (← parts.0) (record { passed = record { front = []; is = parts.1; length_is = refl }; count = refl })
values_pass (k ∷ ks) bytes vs left h =
    let a = bind_ok (value_at k bytes) (λ first. values_at ks first.1 >>= λ more. Ok (first.0 ∷ more.0, more.1)) (vs, left) h in
    let b = bind_ok (values_at ks (a.0).1) (λ more. Ok ((a.0).0 ∷ more.0, more.1)) (vs, left) a.2 in
    let parts = ok_parts b.2 in
    let first = value_passes k bytes (a.0).0 (a.0).1 a.1 in
    let more = values_pass ks (a.0).1 (b.0).0 (b.0).1 b.1 in
    let all : length (first.front ++ (more.passed).front) ≡ length (spell_all ((a.0).0 ∷ (b.0).0)) =
    length-append first.front (more.passed).front ∙ (λ i. first.length_is i + (more.passed).length_is i) ∙ sym (length-append (spell (a.0).0) (spell_all (b.0).0)) in
    rw (← parts.0) (record {
      passed = record {
        front = first.front ++ (more.passed).front;
        is = first.is ∙ ap (λ x. first.front ++ x) ((more.passed).is ∙ ap (λ x. (more.passed).front ++ x) parts.1) ∙ sym (append_assoc first.front (more.passed).front left);
        length_is = all;
      };
      count = ap suc more.count;
    })

-- The laws of these formats.
use Rattle.std.proofs.Common.{◌≡◌, ℕ, zero, suc, ◌+◌, ◌-◌, ◌<◌, ◌≤◌, ◌^◌, Bool, true, false, List, [], ◌∷◌, ◌++◌, length, refl, sym, ◌∙◌, ap, subst, inl, inr, ◌⊎◌, Ok, arith}
use Rattle.std.specs.Prelude.{◌==◌, if◌then◌else◌, ⊤, FitsSigned, ◌≢◌, pos, All}
use Rattle.std.specs.List.{flat_map}
use Rattle.std.specs.Int.{cast_signed, cast_unsigned, w32, w64}
use Rattle.std.proofs.Math.Facts.{sfits_lit, sfits_to_z, Fits-of_z, to_z-of_z, of_z-to_z, Fits-of_lt, Fits-lt-pow}
use Rattle.std.proofs.lemmas.Bool.Decides.{nat_tests}
use Rattle.std.proofs.lemmas.Str.{IsUtf8-nil}
use Rattle.std.proofs.lemmas.List.Elements.{All-cons, All-nil}
use Rattle.mega_base.specs.Reading.{Place, Read, ◌>>=◌, byte_in, list_in}
use Rattle.mega_base.specs.Codec.{Codec, IsText, IsBetween, one_byte, IsCons, IsList, list_text, bytes_text}
use Rattle.mega_base.specs.Names.{u8_at, IsU8, u32_at, u32_text, IsU32, u64_at, u64_text, IsU64, string_at, IsString}
use Rattle.mega_base.specs.NameLaws.{u8_codec, u32_codec, u64_codec, string_codec, whole_text_codec}
use Rattle.mega_base.specs.Utf8.{whole_text_at, IsWholeText}
use Rattle.mega_base.specs.Values.{bit_of, value_of, value_at, kind_of, value_body, value_text, IsValue, cell_in, cell_text, IsCellIn, cells_at, Ascends, row_at, row_text, IsRow}
use Rattle.mega_base.specs.declared.values.Value.{Value}
use Rattle.mega_base.specs.declared.values.Value.TheVariants.{Int32, Int64, Bool as Truth, Str, Raw}
use Rattle.mega_base.specs.declared.values.Cell.{Cell}
use Rattle.mega_base.specs.declared.values.Row.{Row}
use Rattle.mega_base.specs.Codecs.{byte_codec, then_codec, map_codec, variant_codec, fits_codec, if_codec, pure_codec}
use Rattle.mega_base.specs.Lists.{cons_codec, list_codec}

-- a value of that kind that fits
abbrev IsOfKind : ℕ → Value → Type 0
IsOfKind kind v = (kind_of v ≡ kind) × IsValue v

int32_codec : Codec (λ p. u32_at p >>= λ n. Ok (Int32 (cast_signed w32 n.0), n.1)) value_body (IsText value_body (IsOfKind 1)) (IsOfKind 1)
int32_codec = variant_codec u32_at u32_text IsU32 (λ n. Int32 (cast_signed w32 n)) value_body (IsOfKind 1) u32_codec
    (λ n f. let fits = Fits-of_lt {w = w32} {n = n} (omega (arith, f.1)) in (ap u32_text (of_z-to_z fits), (refl, sfits_to_z fits)))
    back
  where
    back : (v : Value) → IsOfKind 1 v → (n : ℕ) × IsU32 n × (Int32 (cast_signed w32 n) ≡ v)
    back (Int32 z) h = (cast_unsigned w32 z, (omega arith, omega (arith, Fits-lt-pow (Fits-of_z h.1))), ap Int32 (to_z-of_z h.1))
    back _ h = absurd (omega (arith, h.0))

int64_codec : Codec (λ p. u64_at p >>= λ n. Ok (Int64 (cast_signed w64 n.0), n.1)) value_body (IsText value_body (IsOfKind 2)) (IsOfKind 2)
int64_codec = variant_codec u64_at u64_text IsU64 (λ n. Int64 (cast_signed w64 n)) value_body (IsOfKind 2) u64_codec
    (λ n f. let fits = Fits-of_lt {w = w64} {n = n} (omega (arith, f.1)) in (ap u64_text (of_z-to_z fits), (refl, sfits_to_z fits)))
    back
  where
    back : (v : Value) → IsOfKind 2 v → (n : ℕ) × IsU64 n × (Int64 (cast_signed w64 n) ≡ v)
    back (Int64 z) h = (cast_unsigned w64 z, (omega arith, omega (arith, Fits-lt-pow (Fits-of_z h.1))), ap Int64 (to_z-of_z h.1))
    back _ h = absurd (omega (arith, h.0))

truth_codec : Codec (λ p. byte_in 0 1 p >>= λ b. Ok (Truth (b.0 == 1), b.1)) value_body (IsText value_body (IsOfKind 3)) (IsOfKind 3)
truth_codec = variant_codec (byte_in 0 1) one_byte (IsBetween 0 1) (λ b. Truth (b == 1)) value_body (IsOfKind 3) (byte_codec 0 1 (omega arith))
    (λ b f. (ap one_byte (bit b f), (refl, tt)))
    back
  where
    bit : (b : ℕ) → IsBetween 0 1 b → bit_of (b == 1) ≡ b
    bit zero f = refl
    bit (suc zero) f = refl
    bit (suc (suc b)) f = absurd (omega (arith, f.1))

    back : (v : Value) → IsOfKind 3 v → (b : ℕ) × IsBetween 0 1 b × (Truth (b == 1) ≡ v)
    back (Truth true) h = (1, (omega arith, omega arith), refl)
    back (Truth false) h = (0, (omega arith, omega arith), refl)
    back _ h = absurd (omega (arith, h.0))

str_codec : Codec (λ p. whole_text_at p >>= λ t. Ok (Str t.0, t.1)) value_body (IsText value_body (IsOfKind 4)) (IsOfKind 4)
str_codec = variant_codec whole_text_at bytes_text IsWholeText Str value_body (IsOfKind 4) whole_text_codec (λ t f. (refl, (refl, f))) back
  where
    back : (v : Value) → IsOfKind 4 v → (t : List ℕ) × IsWholeText t × (Str t ≡ v)
    back (Str t) h = (t, h.1, refl)
    back _ h = absurd (omega (arith, h.0))

raw_codec : Codec (λ p. string_at p >>= λ b. Ok (Raw b.0, b.1)) value_body (IsText value_body (IsOfKind 5)) (IsOfKind 5)
raw_codec = variant_codec string_at bytes_text IsString Raw value_body (IsOfKind 5) string_codec (λ t f. (refl, (refl, f))) back
  where
    back : (v : Value) → IsOfKind 5 v → (b : List ℕ) × IsString b × (Raw b ≡ v)
    back (Raw b) h = (b, h.1, refl)
    back _ h = absurd (omega (arith, h.0))

pub value_codec : Codec value_at value_text (IsText value_text IsValue) IsValue
unfolding value_at value_of
value_codec =
    fits_codec value_at value_text _ IsValue
    (then_codec (byte_in 1 5) one_byte (IsBetween 1 5) value_of value_body IsOfKind kind_of (byte_codec 1 5 (omega arith))
    (λ k f. by_kind k f)
    (λ k v f g. g.0)
    some)
    (λ v f. f.1.1) (λ v f. (kinds v, (refl, f)))
  where
    at_kind : (k n : ℕ) (r : Place → Read Value) → (k == n) ≡ true → Codec r value_body (IsText value_body (IsOfKind n)) (IsOfKind n) → Codec r value_body (IsText value_body (IsOfKind k)) (IsOfKind k)
    at_kind k n r e c = let same : n ≡ k = grind (arith, nat_tests) in subst (λ (m : ℕ). Codec r value_body (IsText value_body (IsOfKind m)) (IsOfKind m)) same c

    last_kind : (k : ℕ) → IsBetween 1 5 k → (k == 1) ≡ false → (k == 2) ≡ false → (k == 3) ≡ false → (k == 4) ≡ false → 5 ≡ k
    last_kind k f a b c d =
        let p : k ≢ 1 = grind (arith, nat_tests) in
        let q : k ≢ 2 = grind (arith, nat_tests) in
        let r : k ≢ 3 = grind (arith, nat_tests) in
        let s : k ≢ 4 = grind (arith, nat_tests) in
        omega (arith, f.0, f.1)

    by_kind : (k : ℕ) → IsBetween 1 5 k → Codec (value_of k) value_body (IsText value_body (IsOfKind k)) (IsOfKind k)
    by_kind k f =
        if_codec (k == 1) _ _ value_body (IsText value_body (IsOfKind k)) (IsOfKind k) (λ e. at_kind k 1 _ e int32_codec)
        (λ a. if_codec (k == 2) _ _ value_body (IsText value_body (IsOfKind k)) (IsOfKind k) (λ e. at_kind k 2 _ e int64_codec)
        (λ b. if_codec (k == 3) _ _ value_body (IsText value_body (IsOfKind k)) (IsOfKind k) (λ e. at_kind k 3 _ e truth_codec)
        (λ c. if_codec (k == 4) _ _ value_body (IsText value_body (IsOfKind k)) (IsOfKind k) (λ e. at_kind k 4 _ e str_codec)
        (λ d. subst (λ (m : ℕ). Codec (λ p. string_at p >>= λ b. Ok (Raw b.0, b.1)) value_body (IsText value_body (IsOfKind m)) (IsOfKind m)) (last_kind k f a b c d) raw_codec))))

    some : (k : ℕ) → IsBetween 1 5 k → (v : Value) × IsOfKind k v
    some zero f = absurd (omega (arith, f.0))
    some (suc zero) f = (Int32 (pos 0), (refl, sfits_lit tt))
    some (suc (suc zero)) f = (Int64 (pos 0), (refl, sfits_lit tt))
    some (suc (suc (suc zero))) f = (Truth false, (refl, tt))
    some (suc (suc (suc (suc zero)))) f = (Str [], (refl, (IsUtf8-nil, (omega arith, omega arith))))
    some (suc (suc (suc (suc (suc zero))))) f = (Raw [], (refl, (omega arith, omega arith)))
    some (suc (suc (suc (suc (suc (suc k)))))) f = absurd (omega (arith, f.1))

    kinds : (v : Value) → IsBetween 1 5 (kind_of v)
    kinds (Int32 z) = (omega arith, omega arith)
    kinds (Int64 z) = (omega arith, omega arith)
    kinds (Truth b) = (omega arith, omega arith)
    kinds (Str t) = (omega arith, omega arith)
    kinds (Raw b) = (omega arith, omega arith)

-- a truth value, the one value of a list
one_value : (v : Value) → IsValue v → IsList 1 4294967295 IsValue (v ∷ [])
one_value v f = record { each = All-cons IsValue v [] f (All-nil IsValue); least = omega arith; most = omega arith }

pub cell_codec : (low high : ℕ) → low ≤ high → Codec (cell_in low high) cell_text (IsText cell_text (IsCellIn low high)) (IsCellIn low high)
unfolding cell_in
cell_codec low high order =
    fits_codec (cell_in low high) cell_text _ (IsCellIn low high)
    (then_codec (byte_in low high) one_byte (IsBetween low high) _ _ _ (λ (cell : Cell). cell.property) (byte_codec low high order)
    (λ property f. map_codec (list_in 1 4294967295 value_at) (list_text value_text) (IsList 1 4294967295 IsValue) (λ values. record { property = property; values = values }) (λ (cell : Cell). cell.values)
    (list_codec 1 4294967295 value_at value_text IsValue (omega arith) (omega arith) value_codec (Truth false) tt) (λ values. refl))
    (λ property cell f g. ap (λ (c : Cell). c.property) (sym g.1))
    (λ property f. (record { property = property; values = Truth false ∷ [] }, (one_value (Truth false) tt, refl))))
    (λ cell f. (f.0, f.1.0)) (λ cell f. (f.0, (f.1, refl)))

pub any_cell_codec : Codec (cell_in 0 255) cell_text (IsText cell_text (IsCellIn 0 255)) (IsCellIn 0 255)
any_cell_codec = cell_codec 0 255 (omega arith)

-- k cells from low on
pub record AreCells (k low : ℕ) (cells : List Cell) : Type 0 where
  pub rising : Ascends low cells
  pub count : length cells ≡ k

-- cells that rise leave room for one another
room : (low : ℕ) (cells : List Cell) → low ≤ 256 → Ascends low cells → low + length cells ≤ 256
room low [] small h = omega arith
room low (cell ∷ cells) small h = omega (arith, room (cell.property + 1) cells (omega (arith, h.0.0.1)) h.1, h.0.0.0)

-- k cells of truth values
filled : (k low : ℕ) → low + k ≤ 256 → (cells : List Cell) × AreCells k low cells
filled zero low h = ([], record { rising = tt; count = refl })
filled (suc k) low h =
    let rest = filled k (low + 1) (omega arith) in (
      record { property = low; values = Truth false ∷ [] } ∷ rest.0,
      record { rising = (((omega arith, omega arith), one_value (Truth false) tt), rest.1.rising); count = ap suc rest.1.count },
    )

pub cells_codec : (k low : ℕ) → low + k ≤ 256 → Codec (cells_at k low) (flat_map cell_text) (IsText (flat_map cell_text) (AreCells k low)) (AreCells k low)
unfolding cells_at
cells_codec zero low h =
    fits_codec (λ p. Ok ([], p)) (flat_map cell_text) (λ cells. cells ≡ []) (AreCells zero low) (pure_codec [] (flat_map cell_text) (IsText (flat_map cell_text) (λ cells. cells ≡ [])) refl)
    (λ cells f. subst (λ (l : List Cell). AreCells 0 low l) (sym f) (record { rising = tt; count = refl }))
    none
  where
    none : (cells : List Cell) → AreCells 0 low cells → cells ≡ []
    none [] f = refl
    none (cell ∷ cells) f = absurd (omega (arith, f.count))
cells_codec (suc k) low h =
    fits_codec (λ p. cell_in low (255 - k) p >>= λ cell. cells_at k (cell.0.property + 1) cell.1 >>= λ cells. Ok (cell.0 ∷ cells.0, cells.1)) (flat_map cell_text)
    (IsCons (IsCellIn low (255 - k)) (λ cell. AreCells k (cell.property + 1))) (AreCells (suc k) low)
    (cons_codec (cell_in low (255 - k)) cell_text (IsCellIn low (255 - k)) (λ cell. cells_at k (cell.property + 1)) (λ cell. AreCells k (cell.property + 1))
    (cell_codec low (255 - k) (omega arith))
    (λ cell f. cells_codec k (cell.property + 1) (omega (arith, f.0.1)))
    (λ cell f. filled k (cell.property + 1) (omega (arith, f.0.1))))
    joined
    apart
  where
    joined : (cells : List Cell) → IsCons (IsCellIn low (255 - k)) (λ cell. AreCells k (cell.property + 1)) cells → AreCells (suc k) low cells
    joined [] g = absurd g
    joined (cell ∷ cells) g = record { rising = (((g.0.0.0, omega (arith, g.0.0.1)), g.0.1), g.1.rising); count = ap suc g.1.count }

    apart : (cells : List Cell) → AreCells (suc k) low cells → IsCons (IsCellIn low (255 - k)) (λ cell. AreCells k (cell.property + 1)) cells
    apart [] g = absurd (omega (arith, g.count))
    apart (cell ∷ cells) g =
        let rest : length cells ≡ k = omega (arith, g.count) in
        (((g.rising.0.0.0, omega (arith, rest, room (cell.property + 1) cells (omega (arith, g.rising.0.0.1)) g.rising.1)), g.rising.0.1), record { rising = g.rising.1; count = rest })

pub row_codec : Codec row_at row_text (IsText row_text IsRow) IsRow
unfolding row_at
row_codec =
    fits_codec row_at row_text _ IsRow
    (then_codec u8_at one_byte IsU8 _ _ _ (λ (row : Row). length row.cells) u8_codec
    (λ count f. map_codec (cells_at count 0) (flat_map cell_text) (AreCells count 0) (λ cells. record { cells = cells }) (λ (row : Row). row.cells) (cells_codec count 0 (omega (arith, f.1))) (λ cells. refl))
    (λ count row f g. g.0.count)
    (λ count f. let cells = filled count 0 (omega (arith, f.1)) in (record { cells = cells.0 }, (cells.1, refl))))
    (λ row f. record { few = f.0.1; rising = f.1.0.rising })
    (λ row f. ((omega arith, f.few), (record { rising = f.rising; count = refl }, refl)))

-- cells that rise are cells, each by itself
pub rising_each : (low : ℕ) (cells : List Cell) → Ascends low cells → All (IsCellIn 0 255) cells
rising_each low [] h = All-nil (IsCellIn 0 255)
rising_each low (cell ∷ cells) h = All-cons (IsCellIn 0 255) cell cells ((omega arith, h.0.0.1), h.0.1) (rising_each (cell.property + 1) cells h.1)

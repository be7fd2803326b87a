-- The laws of these formats.
use Rattle.std.proofs.Common.{◌≡◌, ℕ, zero, suc, ◌+◌, ◌-◌, ◌<◌, ◌≤◌, ◌^◌, Bool, true, false, List, [], ◌∷◌, ◌++◌, length, drop, refl, sym, ◌∙◌, ap, subst, inl, inr, ◌⊎◌, Ok, Option, Some, None, arith, append-nil, zero-add}
use Rattle.std.specs.Prelude.{◌==◌, if◌then◌else◌, ◌≢◌, sum_by, IsSome, All, replicate, slice_index}
use Rattle.std.specs.List.{flat_map}
use Rattle.std.proofs.lemmas.Bool.Decides.{nat_tests}
use Rattle.std.proofs.lemmas.Str.{IsUtf8-from_ascii}
use Rattle.std.proofs.lemmas.List.Sums.{sum_by-cons}
use Rattle.std.proofs.lemmas.List.Elements.{All-cons, All-nil}
use Rattle.mega_base.specs.Reading.{Place, Read, ◌>>=◌, byte_in, number_in, list_in, option_at}
use Rattle.mega_base.specs.Codec.{Codec, IsText, IsBetween, one_byte, IsCons, IsList, list_text, option_text, IsOption, bytes_text}
use Rattle.mega_base.specs.Names.{u32_at, u32_text, IsU32, node_at, node_text, IsNode, position_at, position_text, IsPosition, op_at, op_text, IsOp, string_at, IsString, group_at, group_text, IsGroup}
use Rattle.mega_base.specs.NameLaws.{u32_codec, node_codec, any_position_codec, op_codec, string_codec, group_codec}
use Rattle.mega_base.specs.Utf8.{text_in, IsTextIn}
use Rattle.mega_base.specs.Chars.{text_codec}
use Rattle.mega_base.specs.Values.{row_at, row_text, IsRow}
use Rattle.mega_base.specs.ValueLaws.{row_codec}
use Rattle.mega_base.specs.Codecs.{bind_codec, byte_codec, then_codec, map_codec, variant_codec, refit_codec, fits_codec, if_codec, pure_codec}
use Rattle.mega_base.specs.Digits.{number_codec}
use Rattle.mega_base.specs.Lists.{cons_codec, list_codec, option_codec, plain_option_codec}
use Rattle.mega_base.specs.declared.names.OpId.{OpId}
use Rattle.mega_base.specs.declared.names.Position.{Position}
use Rattle.mega_base.specs.declared.names.GroupId.{GroupId}
use Rattle.mega_base.specs.declared.names.NodeId.{NodeId}
use Rattle.mega_base.specs.declared.values.Row.{Row}
use Rattle.mega_entry.specs.declared.content.Write.{Write}
use Rattle.mega_entry.specs.declared.content.Name.{Name}
use Rattle.mega_entry.specs.declared.content.Send.{Send}
use Rattle.mega_entry.specs.declared.content.Enter.{Enter}
use Rattle.mega_entry.specs.declared.content.Cut.{Cut}
use Rattle.mega_entry.specs.declared.content.Content.{Content}
use Rattle.mega_entry.specs.Entries.{most_items, write_at, write_text, IsWrite, name_at, name_text, IsName, queue_at, IsQueue, send_at, send_text, IsSend, enter_at, enter_text, IsEnter, cut_in, cut_text, IsCutIn, least_part, cuts_of, first_index, cuts_at, RisesFrom, AreCuts, some_op_at, plain_at, batch_at, entry_at, version_of, cuts_text, content_text, entry_text, HasCuts, IsEntry}

pub write_codec : Codec write_at write_text (IsText write_text IsWrite) IsWrite
unfolding write_at
write_codec =
    fits_codec write_at write_text _ IsWrite
    (then_codec string_at bytes_text IsString _ _ _ (λ (w : Write). w.key) string_codec
    (λ key f. map_codec (option_at row_at) (option_text row_text) (IsOption IsRow) (λ row. record { key = key; row = row }) (λ (w : Write). w.row) (plain_option_codec row_at row_text IsRow row_codec some_row.0 some_row.1) (λ row. refl))
    (λ key w f g. ap (λ (x : Write). x.key) (sym g.1))
    (λ key f. (record { key = key; row = None }, (tt, refl))))
    (λ w f. (f.0, f.1.0)) (λ w f. (f.0, (f.1, refl)))
  where
    some_row : (row : Row) × IsRow row
    some_row = (record { cells = [] }, record { few = omega arith; rising = tt })

-- a group with an empty key, and a queue's name
abbrev no_group : GroupId
no_group = record { key = [] }

pub name_codec : Codec name_at name_text (IsText name_text IsName) IsName
unfolding name_at
name_codec =
    fits_codec name_at name_text _ IsName
    (then_codec group_at group_text IsGroup _ _ _ (λ (n : Name). n.group) group_codec
    (λ group f. then_codec position_at position_text IsPosition _ _ _ (λ (n : Name). n.position) any_position_codec
    (λ position f. map_codec u32_at u32_text IsU32 (λ place. record { group = group; position = position; place = place }) (λ (n : Name). n.place) u32_codec (λ place. refl))
    (λ position n f g. ap (λ (x : Name). x.position) (sym g.1))
    (λ position f. (record { group = group; position = position; place = 0 }, ((omega arith, omega arith), refl))))
    (λ group n f g. ap (λ (x : Name). x.group) (sym g.1.1))
    (λ group f. (record { group = group; position = record { 0 = 0 }; place = 0 }, ((omega arith, omega arith), ((omega arith, omega arith), refl)))))
    (λ n f. (f.0, f.1.0, f.1.1.0)) (λ n f. (f.0, (f.1, (f.2, refl))))

-- a queue's name of one byte
short_queue : IsQueue (97 ∷ [])
short_queue = (IsUtf8-from_ascii (97 ∷ []) ascii, (omega arith, omega arith))
  where
    ascii : (i : ℕ) → slice_index (97 ∷ []) i < 128
    ascii zero = omega arith
    ascii (suc i) = omega arith

pub queue_codec : Codec queue_at bytes_text (IsText bytes_text IsQueue) IsQueue
queue_codec = text_codec 1 64 (omega arith) (omega arith)

pub send_codec : Codec send_at send_text (IsText send_text IsSend) IsSend
unfolding send_at
send_codec =
    fits_codec send_at send_text _ IsSend
    (then_codec group_at group_text IsGroup _ _ _ (λ (s : Send). s.to) group_codec
    (λ to f. then_codec queue_at bytes_text IsQueue _ _ _ (λ (s : Send). s.queue) queue_codec
    (λ queue f. map_codec string_at bytes_text IsString (λ payload. record { to = to; queue = queue; payload = payload }) (λ (s : Send). s.payload) string_codec (λ payload. refl))
    (λ queue s f g. ap (λ (x : Send). x.queue) (sym g.1))
    (λ queue f. (record { to = to; queue = queue; payload = [] }, ((omega arith, omega arith), refl))))
    (λ to s f g. ap (λ (x : Send). x.to) (sym g.1.1))
    (λ to f. (record { to = to; queue = 97 ∷ []; payload = [] }, (short_queue, ((omega arith, omega arith), refl)))))
    (λ s f. (f.0, f.1.0, f.1.1.0)) (λ s f. (f.0, (f.1, (f.2, refl))))

pub enter_codec : Codec enter_at enter_text (IsText enter_text IsEnter) IsEnter
unfolding enter_at
enter_codec =
    fits_codec enter_at enter_text _ IsEnter
    (then_codec name_at name_text IsName _ _ _ (λ (e : Enter). e.name) name_codec
    (λ name f. then_codec queue_at bytes_text IsQueue _ _ _ (λ (e : Enter). e.queue) queue_codec
    (λ queue f. map_codec string_at bytes_text IsString (λ payload. record { name = name; queue = queue; payload = payload }) (λ (e : Enter). e.payload) string_codec (λ payload. refl))
    (λ queue e f g. ap (λ (x : Enter). x.queue) (sym g.1))
    (λ queue f. (record { name = name; queue = queue; payload = [] }, ((omega arith, omega arith), refl))))
    (λ name e f g. ap (λ (x : Enter). x.name) (sym g.1.1))
    (λ name f. (record { name = name; queue = 97 ∷ []; payload = [] }, (short_queue, ((omega arith, omega arith), refl)))))
    (λ e f. (f.0, f.1.0, f.1.1.0)) (λ e f. (f.0, (f.1, (f.2, refl))))

pub cut_codec : (low high least_writes most_writes least_sends most_sends : ℕ) → low ≤ high → least_writes ≤ most_writes → most_writes < 2 ^ 32 → least_sends ≤ most_sends → most_sends < 2 ^ 32
    → Codec (cut_in low high least_writes most_writes least_sends most_sends) cut_text (IsText cut_text (IsCutIn low high least_writes most_writes least_sends most_sends)) (IsCutIn low high least_writes most_writes least_sends most_sends)
unfolding cut_in
cut_codec low high lw mw ls ms order worder wsmall sorder ssmall =
    fits_codec (cut_in low high lw mw ls ms) cut_text _ (IsCutIn low high lw mw ls ms)
    (then_codec (byte_in low high) one_byte (IsBetween low high) _ _ _ (λ (c : Cut). c.index) (byte_codec low high order)
    (λ index f. then_codec (number_in 4 lw mw) u32_text (IsBetween lw mw) _ _ _ (λ (c : Cut). c.writes) (number_codec 4 lw mw worder wsmall)
    (λ writes f. map_codec (number_in 4 ls ms) u32_text (IsBetween ls ms) (λ sends. record { index = index; writes = writes; sends = sends }) (λ (c : Cut). c.sends) (number_codec 4 ls ms sorder ssmall) (λ sends. refl))
    (λ writes c f g. ap (λ (x : Cut). x.writes) (sym g.1))
    (λ writes f. (record { index = index; writes = writes; sends = ls }, ((omega arith, sorder), refl))))
    (λ index c f g. ap (λ (x : Cut). x.index) (sym g.1.1))
    (λ index f. (record { index = index; writes = lw; sends = ls }, ((omega arith, worder), ((omega arith, sorder), refl)))))
    (λ c f. (f.0, f.1.0, f.1.1.0)) (λ c f. (f.0, (f.1, (f.2, refl))))

pub any_cut_codec : Codec (cut_in 0 15 0 most_items 0 most_items) cut_text (IsText cut_text (IsCutIn 0 15 0 most_items 0 most_items)) (IsCutIn 0 15 0 most_items 0 most_items)
any_cut_codec = cut_codec 0 15 0 most_items 0 most_items (omega arith) (omega arith) (omega arith) (omega arith) (omega arith)

-- k cuts from low on, of that many writes and sends
pub record CutsOf (k low writes sends : ℕ) (cuts : List Cut) : Type 0 where
  pub rising : RisesFrom low cuts
  pub count : length cuts ≡ k
  pub all_writes : sum_by (λ (cut : Cut). cut.writes) cuts ≡ writes
  pub all_sends : sum_by (λ (cut : Cut). cut.sends) cuts ≡ sends

-- where no cut follows nothing is left
abbrev Enough : ℕ → ℕ → ℕ → Type 0
Enough k writes sends = k ≡ 0 → (writes ≡ 0) × (sends ≡ 0)

after_zero : (k : ℕ) → (suc k == 0) ≡ false
after_zero k = let apart : suc k ≢ 0 = omega arith in grind (arith, nat_tests)

pub least_part-le : (k left : ℕ) → least_part k left ≤ left
least_part-le zero left = omega arith
least_part-le (suc k) left = rw (after_zero k) (omega arith)

least_part-last : (k left part : ℕ) → least_part k left ≤ part → part ≤ left → k ≡ 0 → left - part ≡ 0
least_part-last zero left part h g e = omega arith
least_part-last (suc k) left part h g e = absurd (omega arith)

least_part-of : (k left part : ℕ) → (k ≡ 0 → part ≡ left) → least_part k left ≤ part
least_part-of zero left part h = omega (arith, h refl)
least_part-of (suc k) left part h = rw (after_zero k) (omega arith)

-- k cuts, of which the last has all
filled : (k low writes sends : ℕ) → low + k ≤ 16 → Enough k writes sends → (cuts : List Cut) × CutsOf k low writes sends cuts
filled zero low writes sends room enough = ([], record { rising = tt; count = refl; all_writes = sym (enough refl).0; all_sends = sym (enough refl).1 })
filled (suc zero) low writes sends room enough =
    (record { index = low; writes = writes; sends = sends } ∷ [], record { rising = ((omega arith, omega arith), tt); count = refl; all_writes = zero-add writes; all_sends = zero-add sends })
filled (suc (suc k)) low writes sends room enough =
    let rest = filled (suc k) (low + 1) writes sends (omega arith) (λ e. absurd (omega arith)) in (
      record { index = low; writes = 0; sends = 0 } ∷ rest.0,
      record { rising = ((omega arith, omega arith), rest.1.rising); count = ap suc rest.1.count; all_writes = sum_by-cons (λ (cut : Cut). cut.writes) (record { index = low; writes = 0; sends = 0 }) rest.0 ∙ omega (arith, rest.1.all_writes); all_sends = sum_by-cons (λ (cut : Cut). cut.sends) (record { index = low; writes = 0; sends = 0 }) rest.0 ∙ omega (arith, rest.1.all_sends) },
    )

-- cuts that rise leave indexes for one another
room_left : (low : ℕ) (cuts : List Cut) → low ≤ 16 → RisesFrom low cuts → low + length cuts ≤ 16
room_left low [] small h = omega arith
room_left low (cut ∷ cuts) small h = omega (arith, room_left (cut.index + 1) cuts (omega (arith, h.0.1)) h.1, h.0.0)

pub cuts_of_codec : (k low writes sends : ℕ) → low + k ≤ 16 → writes < 2 ^ 32 → sends < 2 ^ 32 → Enough k writes sends
    → Codec (cuts_of k low writes sends) (flat_map cut_text) (IsText (flat_map cut_text) (CutsOf k low writes sends)) (CutsOf k low writes sends)
unfolding cuts_of
cuts_of_codec zero low writes sends room wsmall ssmall enough =
    fits_codec (λ p. Ok ([], p)) (flat_map cut_text) (λ cuts. cuts ≡ []) (CutsOf zero low writes sends) (pure_codec [] (flat_map cut_text) (IsText (flat_map cut_text) (λ cuts. cuts ≡ [])) refl)
    (λ cuts f. subst (λ (l : List Cut). CutsOf 0 low writes sends l) (sym f) (record { rising = tt; count = refl; all_writes = sym (enough refl).0; all_sends = sym (enough refl).1 }))
    none
  where
    none : (cuts : List Cut) → CutsOf 0 low writes sends cuts → cuts ≡ []
    none [] f = refl
    none (cut ∷ cuts) f = absurd (omega (arith, f.count))
cuts_of_codec (suc k) low writes sends room wsmall ssmall enough =
    fits_codec (λ p. cut_in low (15 - k) (least_part k writes) writes (least_part k sends) sends p >>= λ cut. cuts_of k (cut.0.index + 1) (writes - cut.0.writes) (sends - cut.0.sends) cut.1 >>= λ cuts. Ok (cut.0 ∷ cuts.0, cuts.1)) (flat_map cut_text)
    (IsCons Part (λ cut. CutsOf k (cut.index + 1) (writes - cut.writes) (sends - cut.sends))) (CutsOf (suc k) low writes sends)
    (cons_codec (cut_in low (15 - k) (least_part k writes) writes (least_part k sends) sends) cut_text Part (λ cut. cuts_of k (cut.index + 1) (writes - cut.writes) (sends - cut.sends)) (λ cut. CutsOf k (cut.index + 1) (writes - cut.writes) (sends - cut.sends))
    (cut_codec low (15 - k) (least_part k writes) writes (least_part k sends) sends (omega arith) (least_part-le k writes) wsmall (least_part-le k sends) ssmall)
    (λ cut f. cuts_of_codec k (cut.index + 1) (writes - cut.writes) (sends - cut.sends) (omega (arith, f.0.1)) (omega arith) (omega arith) (last cut f))
    (λ cut f. filled k (cut.index + 1) (writes - cut.writes) (sends - cut.sends) (omega (arith, f.0.1)) (last cut f)))
    joined
    apart
  where
    Part : Cut → Type 0
    Part cut = IsCutIn low (15 - k) (least_part k writes) writes (least_part k sends) sends cut

    last : (cut : Cut) → Part cut → Enough k (writes - cut.writes) (sends - cut.sends)
    last cut f e = (least_part-last k writes cut.writes f.1.0 f.1.1 e, least_part-last k sends cut.sends f.2.0 f.2.1 e)

    joined : (cuts : List Cut) → IsCons Part (λ cut. CutsOf k (cut.index + 1) (writes - cut.writes) (sends - cut.sends)) cuts → CutsOf (suc k) low writes sends cuts
    joined [] g = absurd g
    joined (cut ∷ cuts) g = record {
      rising = ((g.0.0.0, omega (arith, g.0.0.1)), g.1.rising);
      count = ap suc g.1.count;
      all_writes = omega (arith, g.1.all_writes, g.0.1.1, sum_by-cons (λ (cut : Cut). cut.writes) cut cuts);
      all_sends = omega (arith, g.1.all_sends, g.0.2.1, sum_by-cons (λ (cut : Cut). cut.sends) cut cuts);
    }

    nothing : (cuts : List Cut) → length cuts ≡ 0 → (sum_by (λ (cut : Cut). cut.writes) cuts ≡ 0) × (sum_by (λ (cut : Cut). cut.sends) cuts ≡ 0)
    nothing [] e = (refl, refl)
    nothing (cut ∷ cuts) e = absurd (omega arith)

    apart : (cuts : List Cut) → CutsOf (suc k) low writes sends cuts → IsCons Part (λ cut. CutsOf k (cut.index + 1) (writes - cut.writes) (sends - cut.sends)) cuts
    apart [] g = absurd (omega (arith, g.count))
    apart (cut ∷ cuts) g =
        let rest : length cuts ≡ k = omega (arith, g.count) in (
          (
            (g.rising.0.0, omega (arith, rest, room_left (cut.index + 1) cuts (omega (arith, g.rising.0.1)) g.rising.1)),
            (least_part-of k writes cut.writes (λ e. omega (arith, g.all_writes, (nothing cuts (rest ∙ e)).0, sum_by-cons (λ (cut : Cut). cut.writes) cut cuts)), omega (arith, g.all_writes, sum_by-cons (λ (cut : Cut). cut.writes) cut cuts)),
            (least_part-of k sends cut.sends (λ e. omega (arith, g.all_sends, (nothing cuts (rest ∙ e)).1, sum_by-cons (λ (cut : Cut). cut.sends) cut cuts)), omega (arith, g.all_sends, sum_by-cons (λ (cut : Cut). cut.sends) cut cuts)),
          ),
          record { rising = g.rising.1; count = rest; all_writes = omega (arith, g.all_writes, sum_by-cons (λ (cut : Cut). cut.writes) cut cuts); all_sends = omega (arith, g.all_sends, sum_by-cons (λ (cut : Cut). cut.sends) cut cuts) },
        )

one_or_more : (count : ℕ) → ((count ≡ 1) × (first_index count ≡ 1)) ⊎ (first_index count ≡ 0)
one_or_more zero = inr refl
one_or_more (suc zero) = inl (refl, refl)
one_or_more (suc (suc k)) = let apart : suc (suc k) ≢ 1 = omega arith in let e : (suc (suc k) == 1) ≡ false = grind (arith, nat_tests) in inr (rw e refl)

pub index_room : (count : ℕ) → IsBetween 1 16 count → first_index count + count ≤ 16
index_room count f = elim (one_or_more count) [ inl e ↦ omega (arith, e.0, e.1) | inr e ↦ omega (arith, e, f.1) ]

pub cuts_codec : (writes sends : ℕ) → writes < 2 ^ 32 → sends < 2 ^ 32 → Codec (cuts_at writes sends) (list_text cut_text) (IsText (list_text cut_text) (AreCuts writes sends)) (AreCuts writes sends)
unfolding cuts_at
cuts_codec writes sends wsmall ssmall =
    fits_codec (cuts_at writes sends) (list_text cut_text) _ (AreCuts writes sends)
    (then_codec (number_in 4 1 16) u32_text (IsBetween 1 16) (λ count. cuts_of count (first_index count) writes sends) (flat_map cut_text) (λ count. CutsOf count (first_index count) writes sends) length
    (number_codec 4 1 16 (omega arith) (omega arith))
    (λ count f. cuts_of_codec count (first_index count) writes sends (index_room count f) wsmall ssmall (λ e. absurd (omega (arith, f.0))))
    (λ count cuts f g. g.count)
    (λ count f. filled count (first_index count) writes sends (index_room count f) (λ e. absurd (omega (arith, f.0)))))
    (λ cuts f. record { some = f.0.0; rising = f.1.rising; all_writes = f.1.all_writes; all_sends = f.1.all_sends })
    (λ cuts f. ((f.some, few cuts f), record { rising = f.rising; count = refl; all_writes = f.all_writes; all_sends = f.all_sends }))
  where
    few : (cuts : List Cut) → AreCuts writes sends cuts → length cuts ≤ 16
    few cuts f = elim (one_or_more (length cuts)) [ inl e ↦ omega (arith, e.0) | inr e ↦ omega (arith, room_left (first_index (length cuts)) cuts (omega (arith, e)) f.rising) ]

-- an id that is there
abbrev HasId : Option OpId → Type 0
HasId id = IsSome id × IsOption IsOp id

some_op_codec : Codec some_op_at (option_text op_text) (IsText (option_text op_text) HasId) HasId
unfolding some_op_at
some_op_codec =
    bind_codec (byte_in 1 1) one_byte (IsBetween 1 1) (λ b p. op_at p >>= λ op. Ok (Some op.0, op.1)) (λ b id. drop 1 (option_text op_text id)) (λ b. IsText (λ id. drop 1 (option_text op_text id)) HasId) (λ b. HasId)
    (option_text op_text) (IsText (option_text op_text) HasId) HasId
    (byte_codec 1 1 (omega arith))
    (λ b f. variant_codec op_at op_text IsOp Some (λ id. drop 1 (option_text op_text id)) HasId op_codec (λ op g. (refl, (refl, g))) back)
    (λ b id f g. (spelled b f id g, g))
    (λ b t f w. (w.0, w.1, spelled b f w.0 w.1 ∙ ap (λ l. b ∷ l) w.2))
    (λ id g. (1, (omega arith, omega arith), g))
    (λ b f. (drop 1 (option_text op_text (Some no_op)), (Some no_op, (refl, ((omega arith, omega arith), (omega arith, omega arith), (omega arith, omega arith))), refl)))
  where
    no_op : OpId
    no_op = record { node = record { 0 = 0 }; start = 0; number = 0 }

    back : (id : Option OpId) → HasId id → (op : OpId) × IsOp op × (Some op ≡ id)
    back None h = absurd (cc)
    back (Some op) h = (op, h.1, refl)

    spelled : (b : ℕ) → IsBetween 1 1 b → (id : Option OpId) → HasId id → option_text op_text id ≡ one_byte b ++ drop 1 (option_text op_text id)
    spelled b f None h = absurd (cc)
    spelled b f (Some op) h = let e : 1 ≡ b = omega (arith, f.0, f.1) in ap (λ z. z ∷ op_text op) e

-- an item of each list
some_write : (w : Write) × IsWrite w
some_write = (record { key = []; row = None }, ((omega arith, omega arith), tt))

some_name : (n : Name) × IsName n
some_name = (record { group = no_group; position = record { 0 = 0 }; place = 0 }, ((omega arith, omega arith), (omega arith, omega arith), (omega arith, omega arith)))

some_send : (s : Send) × IsSend s
some_send = (record { to = no_group; queue = 97 ∷ []; payload = [] }, ((omega arith, omega arith), short_queue, (omega arith, omega arith)))

some_enter : (e : Enter) × IsEnter e
some_enter = (record { name = some_name.0; queue = 97 ∷ []; payload = [] }, (some_name.1, short_queue, (omega arith, omega arith)))

no_items : {A : Type 0} (high : ℕ) (F : A → Type 0) → IsList 0 high F []
no_items high F = record { each = All-nil F; least = omega arith; most = omega arith }

-- the text of the lists of an entry with no cuts, its fields in order
abbrev plain_text : Content → List ℕ
plain_text e = option_text op_text e.id ++ (node_text e.leader ++ (list_text write_text e.writes ++ (list_text send_text e.sends ++ (list_text enter_text e.enters ++ list_text name_text e.handles))))

-- an entry with no cuts
pub record IsPlain (e : Content) : Type 0 where
  pub fits : IsEntry e
  pub none : e.cuts ≡ []

pub plain_codec : Codec plain_at content_text (IsText content_text IsPlain) IsPlain
unfolding plain_at
plain_codec =
    refit_codec plain_at plain_text content_text _ (IsText content_text IsPlain) _ IsPlain
    (then_codec (option_at op_at) (option_text op_text) (IsOption IsOp) _ _ _ (λ (e : Content). e.id) (plain_option_codec op_at op_text IsOp op_codec no_op.0 no_op.1)
    (λ id f. then_codec node_at node_text IsNode _ _ _ (λ (e : Content). e.leader) node_codec
    (λ leader f. then_codec (list_in 0 most_items write_at) (list_text write_text) (IsList 0 most_items IsWrite) _ _ _ (λ (e : Content). e.writes) (list_codec 0 most_items write_at write_text IsWrite (omega arith) (omega arith) write_codec some_write.0 some_write.1)
    (λ writes f. then_codec (list_in 0 most_items send_at) (list_text send_text) (IsList 0 most_items IsSend) _ _ _ (λ (e : Content). e.sends) (list_codec 0 most_items send_at send_text IsSend (omega arith) (omega arith) send_codec some_send.0 some_send.1)
    (λ sends f. then_codec (list_in 0 most_items enter_at) (list_text enter_text) (IsList 0 most_items IsEnter) _ _ _ (λ (e : Content). e.enters) (list_codec 0 most_items enter_at enter_text IsEnter (omega arith) (omega arith) enter_codec some_enter.0 some_enter.1)
    (λ enters f. map_codec (list_in 0 most_items name_at) (list_text name_text) (IsList 0 most_items IsName) (λ handles. plain id leader writes sends enters handles) (λ (e : Content). e.handles) (list_codec 0 most_items name_at name_text IsName (omega arith) (omega arith) name_codec some_name.0 some_name.1) (λ handles. refl))
    (λ enters e f g. ap (λ (x : Content). x.enters) (sym g.1))
    (λ enters f. (plain id leader writes sends enters [], (no_items most_items IsName, refl))))
    (λ sends e f g. ap (λ (x : Content). x.sends) (sym g.1.1))
    (λ sends f. (plain id leader writes sends [] [], (no_items most_items IsEnter, (no_items most_items IsName, refl)))))
    (λ writes e f g. ap (λ (x : Content). x.writes) (sym g.1.1.1))
    (λ writes f. (plain id leader writes [] [] [], (no_items most_items IsSend, (no_items most_items IsEnter, (no_items most_items IsName, refl))))))
    (λ leader e f g. ap (λ (x : Content). x.leader) (sym g.1.1.1.1))
    (λ leader f. (plain id leader [] [] [] [], (no_items most_items IsWrite, (no_items most_items IsSend, (no_items most_items IsEnter, (no_items most_items IsName, refl)))))))
    (λ id e f g. ap (λ (x : Content). x.id) (sym g.1.1.1.1.1))
    (λ id f. (plain id (record { 0 = 1 }) [] [] [] [], ((omega arith, omega arith), (no_items most_items IsWrite, (no_items most_items IsSend, (no_items most_items IsEnter, (no_items most_items IsName, refl))))))))
    (λ e f. let none : e.cuts ≡ [] = sym (ap (λ (x : Content). x.cuts) f.1.1.1.1.1.1) in
    (record { fits = record { id = f.0; leader = f.1.0; writes = f.1.1.0; sends = f.1.1.1.0; enters = f.1.1.1.1.0; handles = f.1.1.1.1.1.0; cuts = no_cuts e none }; none = none }, spelled e none))
    (λ e f. (f.fits.id, (f.fits.leader, (f.fits.writes, (f.fits.sends, (f.fits.enters, (f.fits.handles, ap (λ cuts. record e { cuts = cuts }) (sym f.none))))))))
    (λ l w. let none : w.0.cuts ≡ [] = sym (ap (λ (x : Content). x.cuts) w.1.1.1.1.1.1.1) in
    (w.0, record { fits = record { id = w.1.0; leader = w.1.1.0; writes = w.1.1.1.0; sends = w.1.1.1.1.0; enters = w.1.1.1.1.1.0; handles = w.1.1.1.1.1.1.0; cuts = no_cuts w.0 none }; none = none }, spelled w.0 none ∙ w.2))
  where
    no_cuts : (e : Content) → e.cuts ≡ [] → HasCuts e e.cuts
    no_cuts e none = subst (λ (cuts : List Cut). HasCuts e cuts) (sym none) tt

    spelled : (e : Content) → e.cuts ≡ [] → content_text e ≡ plain_text e
    spelled e none = ap (λ l. option_text op_text e.id ++ (node_text e.leader ++ (list_text write_text e.writes ++ (list_text send_text e.sends ++ (list_text enter_text e.enters ++ l)))))
        (ap (λ cuts. list_text name_text e.handles ++ cuts_text cuts) none ∙ append-nil (list_text name_text e.handles))

    no_op : (op : OpId) × IsOp op
    no_op = (record { node = record { 0 = 0 }; start = 0; number = 0 }, ((omega arith, omega arith), (omega arith, omega arith), (omega arith, omega arith)))

    plain : Option OpId → NodeId → List Write → List Send → List Enter → List Name → Content
    plain id leader writes sends enters handles = record { id = id; leader = leader; writes = writes; sends = sends; enters = enters; handles = handles; cuts = [] }

-- the text of an entry with cuts, its fields in order
abbrev batch_text : Content → List ℕ
batch_text e = option_text op_text e.id ++ (node_text e.leader ++ (list_text write_text e.writes ++ (list_text send_text e.sends ++ (list_text enter_text e.enters ++ (list_text name_text e.handles ++ list_text cut_text e.cuts)))))

-- an entry with cuts
pub record IsBatch (e : Content) : Type 0 where
  pub fits : IsEntry e
  pub some : 1 ≤ length e.cuts

-- a single cut, of index 1
abbrev one_cut : ℕ → ℕ → List Cut
one_cut writes sends = record { index = 1; writes = writes; sends = sends } ∷ []

one_cut_fits : (writes sends : ℕ) → AreCuts writes sends (one_cut writes sends)
one_cut_fits writes sends = record { some = omega arith; rising = ((omega arith, omega arith), tt); all_writes = zero-add writes; all_sends = zero-add sends }

-- the fields of an entry with cuts
abbrev BatchFields : Content → Type 0
BatchFields e = HasId e.id × (IsNode e.leader × (IsList 0 most_items IsWrite e.writes × (IsList 0 most_items IsSend e.sends × (IsList 0 0 IsEnter e.enters × (IsList 0 0 IsName e.handles
    × (AreCuts (length e.writes) (length e.sends) e.cuts × (record { id = e.id; leader = e.leader; writes = e.writes; sends = e.sends; enters = e.enters; handles = e.handles; cuts = e.cuts } ≡ e)))))))

pub batch_codec : Codec batch_at content_text (IsText content_text IsBatch) IsBatch
unfolding batch_at
batch_codec =
    refit_codec batch_at batch_text content_text (IsText batch_text BatchFields) (IsText content_text IsBatch) BatchFields IsBatch
    (then_codec some_op_at (option_text op_text) HasId _ _ _ (λ (e : Content). e.id) some_op_codec
    (λ id f. then_codec node_at node_text IsNode _ _ _ (λ (e : Content). e.leader) node_codec
    (λ leader f. then_codec (list_in 0 most_items write_at) (list_text write_text) (IsList 0 most_items IsWrite) _ _ _ (λ (e : Content). e.writes) (list_codec 0 most_items write_at write_text IsWrite (omega arith) (omega arith) write_codec some_write.0 some_write.1)
    (λ writes wf. then_codec (list_in 0 most_items send_at) (list_text send_text) (IsList 0 most_items IsSend) _ _ _ (λ (e : Content). e.sends) (list_codec 0 most_items send_at send_text IsSend (omega arith) (omega arith) send_codec some_send.0 some_send.1)
    (λ sends sf. then_codec (list_in 0 0 enter_at) (list_text enter_text) (IsList 0 0 IsEnter) _ _ _ (λ (e : Content). e.enters) (list_codec 0 0 enter_at enter_text IsEnter (omega arith) (omega arith) enter_codec some_enter.0 some_enter.1)
    (λ enters f. then_codec (list_in 0 0 name_at) (list_text name_text) (IsList 0 0 IsName) _ _ _ (λ (e : Content). e.handles) (list_codec 0 0 name_at name_text IsName (omega arith) (omega arith) name_codec some_name.0 some_name.1)
    (λ handles f. map_codec (cuts_at (length writes) (length sends)) (list_text cut_text) (AreCuts (length writes) (length sends)) (λ cuts. batch id leader writes sends enters handles cuts) (λ (e : Content). e.cuts) (cuts_codec (length writes) (length sends) (omega (arith, wf.most)) (omega (arith, sf.most))) (λ cuts. refl))
    (λ handles e f g. ap (λ (x : Content). x.handles) (sym g.1))
    (λ handles f. (batch id leader writes sends enters handles (one_cut (length writes) (length sends)), (one_cut_fits (length writes) (length sends), refl))))
    (λ enters e f g. ap (λ (x : Content). x.enters) (sym g.1.1))
    (λ enters f. (batch id leader writes sends enters [] (one_cut (length writes) (length sends)), (no_items 0 IsName, (one_cut_fits (length writes) (length sends), refl)))))
    (λ sends e f g. ap (λ (x : Content). x.sends) (sym g.1.1.1))
    (λ sends f. (batch id leader writes sends [] [] (one_cut (length writes) (length sends)), (no_items 0 IsEnter, (no_items 0 IsName, (one_cut_fits (length writes) (length sends), refl))))))
    (λ writes e f g. ap (λ (x : Content). x.writes) (sym g.1.1.1.1))
    (λ writes f. (batch id leader writes [] [] [] (one_cut (length writes) 0), (no_items most_items IsSend, (no_items 0 IsEnter, (no_items 0 IsName, (one_cut_fits (length writes) 0, refl)))))))
    (λ leader e f g. ap (λ (x : Content). x.leader) (sym g.1.1.1.1.1))
    (λ leader f. (batch id leader [] [] [] [] (one_cut 0 0), (no_items most_items IsWrite, (no_items most_items IsSend, (no_items 0 IsEnter, (no_items 0 IsName, (one_cut_fits 0 0, refl))))))))
    (λ id e f g. ap (λ (x : Content). x.id) (sym g.1.1.1.1.1.1))
    (λ id f. (batch id (record { 0 = 1 }) [] [] [] [] (one_cut 0 0), ((omega arith, omega arith), (no_items most_items IsWrite, (no_items most_items IsSend, (no_items 0 IsEnter, (no_items 0 IsName, (one_cut_fits 0 0, refl)))))))))
    (λ e f. (joined e f, spelled e f.1.1.1.1.1.1.0.some))
    (λ e f. let parts = apart e e.cuts f.some f.fits.cuts in
    ((parts.0, f.fits.id), (f.fits.leader, (f.fits.writes, (f.fits.sends, (none_of e.enters parts.1 f.fits.enters, (none_of e.handles parts.2 f.fits.handles, (parts.3, refl))))))))
    (λ l w. (w.0, joined w.0 w.1, spelled w.0 w.1.1.1.1.1.1.1.0.some ∙ w.2))
  where
    none_of : {A : Type 0} {F : A → Type 0} (xs : List A) → length xs ≡ 0 → IsList 0 most_items F xs → IsList 0 0 F xs
    none_of xs e f = record { each = f.each; least = omega arith; most = omega (arith, e) }

    few_of : {A : Type 0} {F : A → Type 0} (xs : List A) → IsList 0 0 F xs → IsList 0 most_items F xs
    few_of xs f = record { each = f.each; least = omega arith; most = omega (arith, f.most) }

    with_cuts : (e : Content) (cuts : List Cut) → IsSome e.id → length e.enters ≡ 0 → length e.handles ≡ 0 → AreCuts (length e.writes) (length e.sends) cuts → HasCuts e cuts
    with_cuts e [] id enters handles cuts = tt
    with_cuts e (cut ∷ rest) id enters handles cuts = (id, enters, handles, cuts)

    apart : (e : Content) (cuts : List Cut) → 1 ≤ length cuts → HasCuts e cuts → IsSome e.id × (length e.enters ≡ 0) × (length e.handles ≡ 0) × AreCuts (length e.writes) (length e.sends) cuts
    apart e [] some h = absurd (omega arith)
    apart e (cut ∷ cuts) some h = h

    joined : (e : Content) → BatchFields e → IsBatch e
    joined e f = record {
      fits = record {
        id = f.0.1;
        leader = f.1.0;
        writes = f.1.1.0;
        sends = f.1.1.1.0;
        enters = few_of e.enters f.1.1.1.1.0;
        handles = few_of e.handles f.1.1.1.1.1.0;
        cuts = with_cuts e e.cuts f.0.0 (omega (arith, f.1.1.1.1.0.most)) (omega (arith, f.1.1.1.1.1.0.most)) f.1.1.1.1.1.1.0;
      };
      some = f.1.1.1.1.1.1.0.some;
    }

    same : (cuts : List Cut) → 1 ≤ length cuts → cuts_text cuts ≡ list_text cut_text cuts
    same [] some = absurd (omega arith)
    same (cut ∷ cuts) some = refl

    spelled : (e : Content) → 1 ≤ length e.cuts → content_text e ≡ batch_text e
    spelled e some = ap (λ l. option_text op_text e.id ++ (node_text e.leader ++ (list_text write_text e.writes ++ (list_text send_text e.sends ++ (list_text enter_text e.enters ++ (list_text name_text e.handles ++ l)))))) (same e.cuts some)

    batch : Option OpId → NodeId → List Write → List Send → List Enter → List Name → List Cut → Content
    batch id leader writes sends enters handles cuts = record { id = id; leader = leader; writes = writes; sends = sends; enters = enters; handles = handles; cuts = cuts }

-- an entry of that version
abbrev IsOfVersion : ℕ → Content → Type 0
IsOfVersion version e = (version_of e.cuts ≡ version) × IsEntry e

pub entry_codec : Codec entry_at entry_text (IsText entry_text IsEntry) IsEntry
unfolding entry_at
entry_codec =
    fits_codec entry_at entry_text _ IsEntry
    (then_codec (byte_in 1 2) one_byte (IsBetween 1 2) (λ version p. if version == 1 then plain_at p else batch_at p) content_text IsOfVersion (λ (e : Content). version_of e.cuts) (byte_codec 1 2 (omega arith))
    (λ version f. if_codec (version == 1) plain_at batch_at content_text (IsText content_text (IsOfVersion version)) (IsOfVersion version)
    (λ e. fits_codec plain_at content_text IsPlain (IsOfVersion version) plain_codec (plain_version version e) (version_plain version e))
    (λ e. fits_codec batch_at content_text IsBatch (IsOfVersion version) batch_codec (batch_version version f e) (version_batch version f e)))
    (λ version e f g. g.0)
    some)
    (λ e f. f.1.1) (λ e f. (versions e.cuts, (refl, f)))
  where
    is_one : (version : ℕ) → (version == 1) ≡ true → version ≡ 1
    is_one version e = grind (arith, nat_tests)

    is_two : (version : ℕ) → IsBetween 1 2 version → (version == 1) ≡ false → version ≡ 2
    is_two version f e = let apart : version ≢ 1 = grind (arith, nat_tests) in omega (arith, f.0, f.1)

    one_none : (cuts : List Cut) → version_of cuts ≡ 1 → cuts ≡ []
    one_none [] e = refl
    one_none (cut ∷ cuts) e = absurd (omega arith)

    two_some : (cuts : List Cut) → version_of cuts ≡ 2 → 1 ≤ length cuts
    two_some [] e = absurd (omega arith)
    two_some (cut ∷ cuts) e = omega arith

    some_two : (cuts : List Cut) → 1 ≤ length cuts → version_of cuts ≡ 2
    some_two [] e = absurd (omega arith)
    some_two (cut ∷ cuts) e = refl

    plain_version : (version : ℕ) → (version == 1) ≡ true → (e : Content) → IsPlain e → IsOfVersion version e
    plain_version version h e f = (ap version_of f.none ∙ sym (is_one version h), f.fits)

    version_plain : (version : ℕ) → (version == 1) ≡ true → (e : Content) → IsOfVersion version e → IsPlain e
    version_plain version h e f = record { fits = f.1; none = one_none e.cuts (f.0 ∙ is_one version h) }

    batch_version : (version : ℕ) → IsBetween 1 2 version → (version == 1) ≡ false → (e : Content) → IsBatch e → IsOfVersion version e
    batch_version version g h e f = (some_two e.cuts f.some ∙ sym (is_two version g h), f.fits)

    version_batch : (version : ℕ) → IsBetween 1 2 version → (version == 1) ≡ false → (e : Content) → IsOfVersion version e → IsBatch e
    version_batch version g h e f = record { fits = f.1; some = two_some e.cuts (f.0 ∙ is_two version g h) }

    versions : (cuts : List Cut) → IsBetween 1 2 (version_of cuts)
    versions [] = (omega arith, omega arith)
    versions (cut ∷ cuts) = (omega arith, omega arith)

    no_op : Content
    no_op = record { id = None; leader = record { 0 = 1 }; writes = []; sends = []; enters = []; handles = []; cuts = [] }

    a_batch : Content
    a_batch = record { id = Some (record { node = record { 0 = 0 }; start = 0; number = 0 }); leader = record { 0 = 1 }; writes = []; sends = []; enters = []; handles = []; cuts = one_cut 0 0 }

    some : (version : ℕ) → IsBetween 1 2 version → (e : Content) × IsOfVersion version e
    some zero f = absurd (omega (arith, f.0))
    some (suc zero) f = (
      no_op,
      (
        refl,
        record {
          id = tt;
          leader = (omega arith, omega arith);
          writes = no_items most_items IsWrite;
          sends = no_items most_items IsSend;
          enters = no_items most_items IsEnter;
          handles = no_items most_items IsName;
          cuts = tt;
        },
      ),
    )
    some (suc (suc zero)) f = (
      a_batch,
      (
        refl,
        record {
          id = ((omega arith, omega arith), (omega arith, omega arith), (omega arith, omega arith));
          leader = (omega arith, omega arith);
          writes = no_items most_items IsWrite;
          sends = no_items most_items IsSend;
          enters = no_items most_items IsEnter;
          handles = no_items most_items IsName;
          cuts = (refl, refl, refl, one_cut_fits 0 0);
        },
      ),
    )
    some (suc (suc (suc version))) f = absurd (omega (arith, f.1))

-- an entry that has a text
pub some_entry : (e : Content) × IsEntry e
some_entry = (
  record { id = None; leader = record { 0 = 1 }; writes = []; sends = []; enters = []; handles = []; cuts = [] },
  record {
    id = tt;
    leader = (omega arith, omega arith);
    writes = no_items most_items IsWrite;
    sends = no_items most_items IsSend;
    enters = no_items most_items IsEnter;
    handles = no_items most_items IsName;
    cuts = tt;
  },
)

-- cuts that rise are cuts, each by itself
each_cut : (low : ℕ) (cuts : List Cut) → RisesFrom low cuts → sum_by (λ (cut : Cut). cut.writes) cuts ≤ most_items → sum_by (λ (cut : Cut). cut.sends) cuts ≤ most_items → All (IsCutIn 0 15 0 most_items 0 most_items) cuts
each_cut low [] h w s = All-nil (IsCutIn 0 15 0 most_items 0 most_items)
each_cut low (cut ∷ cuts) h w s =
    let ws = sum_by-cons (λ (cut : Cut). cut.writes) cut cuts in
    let ss = sum_by-cons (λ (cut : Cut). cut.sends) cut cuts in
    All-cons (IsCutIn 0 15 0 most_items 0 most_items) cut cuts ((omega arith, h.0.1), (omega arith, omega (arith, w, ws)), (omega arith, omega (arith, s, ss)))
    (each_cut (cut.index + 1) cuts h.1 (omega (arith, w, ws)) (omega (arith, s, ss)))

each_of : (e : Content) (cuts : List Cut) → IsEntry e → HasCuts e cuts → All (IsCutIn 0 15 0 most_items 0 most_items) cuts
each_of e [] f h = All-nil (IsCutIn 0 15 0 most_items 0 most_items)
each_of e (cut ∷ cuts) f h = each_cut (first_index (length (cut ∷ cuts))) (cut ∷ cuts) h.3.rising (omega (arith, h.3.all_writes, f.writes.most)) (omega (arith, h.3.all_sends, f.sends.most))

few_of_cuts : (e : Content) (cuts : List Cut) → HasCuts e cuts → length cuts < 2 ^ 32
few_of_cuts e [] h = omega arith
few_of_cuts e (cut ∷ cuts) h = elim (one_or_more (length (cut ∷ cuts))) [ inl k ↦ omega (arith, k.0) | inr k ↦ omega (arith, room_left (first_index (length (cut ∷ cuts))) (cut ∷ cuts) (omega (arith, k)) h.3.rising) ]

pub entry_cuts : (e : Content) → IsEntry e → All (IsCutIn 0 15 0 most_items 0 most_items) e.cuts
entry_cuts e f = each_of e e.cuts f f.cuts

pub few_cuts : (e : Content) → IsEntry e → length e.cuts < 2 ^ 32
few_cuts e f = few_of_cuts e e.cuts f.cuts

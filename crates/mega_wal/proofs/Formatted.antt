-- What is read from a record is of the format.
use Rattle.std.proofs.Common.{◌≡◌, ℕ, zero, suc, ◌+◌, ◌==◌, ◌≤◌, Bool, true, false, cond, List, [], ◌∷◌, ◌++◌, length, Some, None, Result, Ok, Err, refl, sym, ap, subst, ◌∙◌, inl, inr, arith, append-nil}
use Rattle.std.specs.Prelude.{All, reverse, is_ok, if◌then◌else◌}
use Rattle.std.specs.List.{flat_map}
use Rattle.std.proofs.lemmas.Bool.Decides.{nat_tests}
use Rattle.std.proofs.lemmas.List.Elements.{All-cons, All-nil, All-append}
use Rattle.mega_base.specs.Reading.{Place, place, ◌>>=◌, items_at, list_in, whole_of}
use Rattle.mega_base.specs.Codec.{BytesBetween}
use Rattle.mega_base.specs.Codecs.{bind-ok, if-ok, ok_parts, Stands-then}
use Rattle.mega_base.specs.Names.{u32_at, u32_text}
use Rattle.mega_base.specs.NameLaws.{u32_codec}
use Rattle.mega_base.specs.Lists.{All-head, All-tail}
use Rattle.mega_wal.specs.declared.item.JournalItem.{JournalItem}
use Rattle.mega_wal.specs.Items.{IsItem, IsRecord, item_at, item_text, record_at, record_text}
use Rattle.mega_wal.specs.ItemLaws.{item_codec}
use Rattle.mega_wal.specs.Records.{bad_from, history_of, is_record, items_in, read_items}
use Rattle.mega_wal.proofs.Loading.{reverse_cons}

abbrev Took : ℕ → Place → List JournalItem → Place → Type 0
Took n p xs q = BytesBetween p (flat_map item_text xs) q × All IsItem xs × (length xs ≡ n)

along : (n : ℕ) (p : Place) (xs ys : List JournalItem) (q r : Place) → xs ≡ ys → q ≡ r → Took n p xs q → Took n p ys r
along n p xs ys q r e f t = subst (λ zs. Took n p zs r) e (subst (λ (s : Place). Took n p xs s) f t)

items_takes : (n : ℕ) (p : Place) (xs : List JournalItem) (q : Place) → items_at item_at n p ≡ Ok (xs, q) → Took n p xs q
unfolding items_at
items_takes zero p xs q h = let e = ok_parts [] xs p q h in along 0 p [] xs p q e.0 e.1 (record { text = refl; offset = omega arith }, All-nil IsItem, refl)
items_takes (suc n) p xs q h =
    let first = bind-ok (item_at p) (λ x. items_at item_at n x.1 >>= λ xs. Ok (x.0 ∷ xs.0, xs.1)) (xs, q) h in
    let second = bind-ok (items_at item_at n first.0.1) (λ ys. Ok (first.0.0 ∷ ys.0, ys.1)) (xs, q) first.2 in
    let one = item_codec.takes p first.0.0 first.0.1 first.1 in
    let more = items_takes n first.0.1 second.0.0 second.0.1 second.1 in
    let e = ok_parts (first.0.0 ∷ second.0.0) xs second.0.1 q second.2 in
    along (suc n) p (first.0.0 ∷ second.0.0) xs second.0.1 q e.0 e.1
    (Stands-then p (item_text first.0.0) first.0.1 (flat_map item_text second.0.0) second.0.1 one.0 more.0, All-cons IsItem first.0.0 second.0.0 one.1 more.1, ap suc more.2)

list_takes : (p : Place) (xs : List JournalItem) (q : Place) → record_at p ≡ Ok (xs, q) → BytesBetween p (record_text xs) q × IsRecord xs
unfolding list_in
list_takes p xs q h =
    let first = bind-ok (u32_at p) (λ n. items_at item_at n.0 n.1) (xs, q) h in
    let count = u32_codec.takes p first.0.0 first.0.1 first.1 in
    let more = items_takes first.0.0 first.0.1 xs q first.2 in
    let few = count.1.1 in (
      Stands-then p (u32_text (length xs)) first.0.1 (flat_map item_text xs) q (subst (λ n. BytesBetween p (u32_text n) first.0.1) (sym more.2) count.0) more.0,
      record { each = more.1; least = omega arith; most = subst (λ n. n ≤ 4294967295) (sym more.2) few },
    )

is_empty : (l : List ℕ) → length l ≡ 0 → l ≡ []
is_empty [] h = refl
is_empty (x ∷ l) h = absurd (omega arith)

whole_takes : (body : List ℕ) (items : List JournalItem) → whole_of record_at body ≡ Ok items → IsRecord items × (body ≡ record_text items)
unfolding whole_of
whole_takes body items h =
    let read = bind-ok (record_at (place 0 body)) ending items h in
    elim (if-ok (length read.0.1.left == 0) (Ok read.0.0) (Err read.0.1.at) (Ok items) read.2) [
      | inl w ↦ found read.0.0 read.0.1 (list_takes (place 0 body) read.0.0 read.0.1 read.1) (zero_of (length read.0.1.left) w.0) (let k : Ok read.0.0 ≡ Ok items = w.1 in cc)
      | inr w ↦ absurd (let k : Err read.0.1.at ≡ Ok items = w.1 in cc)
    ]
  where
    ending : List JournalItem × Place → Result (List JournalItem) ℕ
    ending y = if length y.1.left == 0 then Ok y.0 else Err y.1.at

    zero_of : (a : ℕ) → (a == 0) ≡ true → a ≡ 0
    zero_of a k = grind (arith, nat_tests)

    found : (y : List JournalItem) (q : Place) → BytesBetween (place 0 body) (record_text y) q × IsRecord y → length q.left ≡ 0 → y ≡ items → IsRecord items × (body ≡ record_text items)
    found y q st none e = (subst IsRecord e st.1, st.0.text ∙ (ap (λ l. record_text y ++ l) (is_empty q.left none) ∙ (append-nil (record_text y) ∙ ap record_text e)))

pub record_found : (body : List ℕ) → is_record body ≡ true → IsRecord (items_in body) × (body ≡ record_text (items_in body))
record_found body good = go (whole_of record_at body) refl good
  where
    go : (r : Result (List JournalItem) ℕ) → whole_of record_at body ≡ r → is_ok r ≡ true → IsRecord (read_items (whole_of record_at body)) × (body ≡ record_text (read_items (whole_of record_at body)))
    go (Ok items) e h = subst (λ r. IsRecord (read_items r) × (body ≡ record_text (read_items r))) (sym e) (whole_takes body items e)
    go (Err at) e h = cc

all_reversed : (xs : List JournalItem) → All IsItem xs → All IsItem (reverse xs)
all_reversed [] each = All-nil IsItem
all_reversed (x ∷ xs) each = subst (All IsItem) (sym (reverse_cons x xs)) (All-append IsItem (reverse xs) (x ∷ []) (all_reversed xs (All-tail IsItem x xs each)) (All-cons IsItem x [] (All-head IsItem x xs each) (All-nil IsItem)))

pub history_fits : (records : List (List ℕ)) (number : ℕ) → bad_from number records ≡ None → All IsItem (history_of records)
history_fits [] number good = All-nil IsItem
history_fits (body ∷ later) number good = go (is_record body) refl (history_fits later (number + 1)) good
  where
    go : (test : Bool) → is_record body ≡ test → (bad_from (number + 1) later ≡ None → All IsItem (history_of later)) → cond test (bad_from (number + 1) later) (Some number) ≡ None → All IsItem (history_of later ++ reverse (items_in body))
    go true e rest h = All-append IsItem (history_of later) (reverse (items_in body)) (rest h) (all_reversed (items_in body) (record_found body e).0.each)
    go false e rest h = cc

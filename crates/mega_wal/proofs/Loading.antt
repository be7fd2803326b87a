-- Records and their items, one after another.
use Rattle.std.proofs.Common.{◌≡◌, ℕ, zero, suc, ◌+◌, ◌<◌, ◌≤◌, List, [], ◌∷◌, ◌++◌, length, take, drop, get_or, true, false, cond, Option, Some, None, refl, sym, ap, subst, ◌∙◌, arith, append_assoc, add-one}
use Rattle.std.specs.Prelude.{reverse}
use Rattle.std.proofs.lemmas.List.{reverse-append}
use Rattle.mega_wal.specs.declared.item.JournalItem.{JournalItem}
use Rattle.mega_wal.specs.declared.kept.Kept.{Kept}
use Rattle.mega_wal.specs.Kept.{Represents}
use Rattle.mega_wal.specs.Records.{bad_from, history_of, is_record, items_in}

pub reverse_cons : {A : Type 0} (x : A) (xs : List A) → reverse (x ∷ xs) ≡ reverse xs ++ x ∷ []
reverse_cons x xs = reverse-append (x ∷ []) xs

pub reverse_onto : {A : Type 0} (x : A) (xs before : List A) → reverse (x ∷ xs) ++ before ≡ reverse xs ++ (x ∷ before)
reverse_onto x xs before = ap (λ zs. zs ++ before) (reverse_cons x xs) ∙ append_assoc (reverse xs) (x ∷ []) before

rev_more : {A : Type 0} (xs : List A) (i : ℕ) (x : A) (before : List A) → x ≡ get_or xs i x → i < length xs → reverse (take (suc i) xs) ++ before ≡ x ∷ (reverse (take i xs) ++ before)
rev_more [] i x before is lt = absurd (omega arith)
rev_more (y ∷ ys) zero x before is lt = ap (λ z. z ∷ before) (sym is)
rev_more (y ∷ ys) (suc i) x before is lt =
    reverse_onto y (take (suc i) ys) before
    ∙ (rev_more ys i x (y ∷ before) is (omega arith) ∙ ap (λ zs. x ∷ zs) (sym (reverse_onto y (take i ys) before)))

pub noted_more : (kept : Kept) (xs : List JournalItem) (i : ℕ) (x : JournalItem) (before : List JournalItem) → x ≡ get_or xs i x → i < length xs
    → Represents kept (x ∷ (reverse (take i xs) ++ before)) → Represents kept (reverse (take (i + 1) xs) ++ before)
noted_more kept xs i x before is lt h = rw add-one (subst (Represents kept) (sym (rev_more xs i x before is lt)) h)

drop_step : {A : Type 0} (xs : List A) (i : ℕ) (x : A) → x ≡ get_or xs i x → i < length xs → drop i xs ≡ x ∷ drop (suc i) xs
drop_step [] i x is lt = absurd (omega arith)
drop_step (y ∷ ys) zero x is lt = ap (λ z. z ∷ ys) (sym is)
drop_step (y ∷ ys) (suc i) x is lt = drop_step ys i x is (omega arith)

drop_end : {A : Type 0} (xs : List A) (i : ℕ) → length xs ≤ i → drop i xs ≡ []
drop_end [] zero le = refl
drop_end [] (suc i) le = refl
drop_end (y ∷ ys) zero le = absurd (omega arith)
drop_end (y ∷ ys) (suc i) le = drop_end ys i (omega arith)

take_end : {A : Type 0} (xs : List A) (i : ℕ) → length xs ≤ i → take i xs ≡ xs
take_end [] zero le = refl
take_end [] (suc i) le = refl
take_end (y ∷ ys) zero le = absurd (omega arith)
take_end (y ∷ ys) (suc i) le = ap (λ zs. y ∷ zs) (take_end ys i (omega arith))

pub noted_all : (kept : Kept) (xs : List JournalItem) (i : ℕ) (before : List JournalItem) → length xs ≤ i → Represents kept (reverse (take i xs) ++ before) → Represents kept (reverse xs ++ before)
noted_all kept xs i before le h = subst (λ ys. Represents kept (reverse ys ++ before)) (take_end xs i le) h

-- one record more
pub history_push : (records : List (List ℕ)) (body : List ℕ) → history_of (records ++ body ∷ []) ≡ reverse (items_in body) ++ history_of records
history_push [] body = sym (append_nil (reverse (items_in body)))
  where
    append_nil : (xs : List JournalItem) → xs ++ [] ≡ xs
    append_nil [] = refl
    append_nil (x ∷ xs) = ap (λ zs. x ∷ zs) (append_nil xs)
history_push (first ∷ records) body = ap (λ zs. zs ++ reverse (items_in first)) (history_push records body) ∙ append_assoc (reverse (items_in body)) (history_of records) (reverse (items_in first))

take_push : {A : Type 0} (xs : List A) (i : ℕ) (x : A) → x ≡ get_or xs i x → i < length xs → take (suc i) xs ≡ take i xs ++ x ∷ []
take_push [] i x is lt = absurd (omega arith)
take_push (y ∷ ys) zero x is lt = ap (λ z. z ∷ []) (sym is)
take_push (y ∷ ys) (suc i) x is lt = ap (λ zs. y ∷ zs) (take_push ys i x is (omega arith))

pub loaded_more : (kept : Kept) (bodies : List (List ℕ)) (i : ℕ) (body : List ℕ) → body ≡ get_or bodies i body → i < length bodies
    → Represents kept (reverse (items_in body) ++ history_of (take i bodies)) → Represents kept (history_of (take (i + 1) bodies))
loaded_more kept bodies i body is lt h = rw add-one (subst (Represents kept) (sym (ap history_of (take_push bodies i body is lt) ∙ history_push (take i bodies) body)) h)

pub loaded_all : (kept : Kept) (bodies : List (List ℕ)) (i : ℕ) → length bodies ≤ i → Represents kept (history_of (take i bodies)) → Represents kept (history_of bodies)
loaded_all kept bodies i le h = subst (λ bs. Represents kept (history_of bs)) (take_end bodies i le) h

pub good_more : (bodies : List (List ℕ)) (i number : ℕ) (body : List ℕ) (goal : Option ℕ) → body ≡ get_or bodies i body → i < length bodies → is_record body ≡ true
    → bad_from number (drop i bodies) ≡ goal → bad_from (number + 1) (drop (i + 1) bodies) ≡ goal
good_more bodies i number body goal is lt good h = rw (add-one i) (sym (ap (λ bs. bad_from number bs) (drop_step bodies i body is lt) ∙ ap (λ test. cond test (bad_from (number + 1) (drop (suc i) bodies)) (Some number)) good) ∙ h)

pub bad_here : (bodies : List (List ℕ)) (i number : ℕ) (body : List ℕ) (goal : Option ℕ) → body ≡ get_or bodies i body → i < length bodies → is_record body ≡ false
    → bad_from number (drop i bodies) ≡ goal → goal ≡ Some number
bad_here bodies i number body goal is lt bad h = sym h ∙ (ap (λ bs. bad_from number bs) (drop_step bodies i body is lt) ∙ ap (λ test. cond test (bad_from (number + 1) (drop (suc i) bodies)) (Some number)) bad)

pub good_all : (bodies : List (List ℕ)) (i number : ℕ) (goal : Option ℕ) → length bodies ≤ i → bad_from number (drop i bodies) ≡ goal → goal ≡ None
good_all bodies i number goal le h = sym h ∙ ap (λ bs. bad_from number bs) (drop_end bodies i le)

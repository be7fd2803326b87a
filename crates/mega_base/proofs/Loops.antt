-- Items that are read or written one by one.
use Rattle.std.proofs.Common.{◌≡◌, ℕ, zero, suc, ◌+◌, ◌-◌, ◌<◌, ◌≤◌, List, [], ◌∷◌, ◌++◌, length, take, refl, sym, ◌∙◌, ap, subst, Result, Ok, Err, arith, append_assoc, append-nil, get_or}
use Rattle.std.proofs.lemmas.List.{take-append-le}
use Rattle.mega_base.specs.Reading.{Place, place, Read, ◌>>=◌, items_at}
use Rattle.mega_base.specs.Faults.{Reads}
use Rattle.mega_base.specs.declared.fault.FieldFault.{FieldFault}
use Rattle.mega_base.specs.declared.fault.FieldFault.TheVariants.{Malformed, NoMemory}

-- what reading the rest gives, behind items that are there
abbrev pub with_front : {A : Type 0} → List A → Read (List A) → Read (List A)
with_front front read = read >>= λ xs. Ok (front ++ xs.0, xs.1)

-- one item is read
pub goes_on : {A : Type 0} (read : Place → Read A) (front : List A) (n : ℕ) (p : Place) (x : A) (q : Place) → read p ≡ Ok (x, q)
    → with_front front (items_at read (suc n) p) ≡ with_front (front ++ x ∷ []) (items_at read n q)
unfolding items_at
goes_on {A} read front n p x q h = rw h (joined (items_at read n q))
  where
    joined : (r : Read (List A)) → with_front front (◌>>=◌ {B = List A × Place} r (λ xs. Ok (x ∷ xs.0, xs.1))) ≡ with_front (front ++ x ∷ []) r
    joined (Ok xs) = let e : front ++ x ∷ xs.0 ≡ (front ++ x ∷ []) ++ xs.0 = sym (append_assoc front (x ∷ []) xs.0) in rw e refl
    joined (Err at) = refl

-- an item is refused
pub ends : {A : Type 0} (read : Place → Read A) (front : List A) (n : ℕ) (p : Place) (at : ℕ) → read p ≡ Err at → with_front front (items_at read (suc n) p) ≡ Err at
unfolding items_at
ends read front n p at h = rw h refl

-- no item is left
pub is_done : {A : Type 0} (read : Place → Read A) (front : List A) (p : Place) → with_front front (items_at read 0 p) ≡ Ok (front, p)
unfolding items_at
is_done read front p = rw append-nil refl

-- none is there yet
pub begins : {A : Type 0} (read : Place → Read A) (n : ℕ) (p : Place) → with_front [] (items_at read n p) ≡ items_at read n p
begins {A} read n p = same (items_at read n p)
  where
    same : (r : Read (List A)) → with_front [] r ≡ r
    same (Ok xs) = refl
    same (Err at) = refl

-- the same of a loop that counts down from m
pub step : {A : Type 0} (read : Place → Read A) (front : List A) (m n : ℕ) (p : Place) (x : A) (q : Place) (whole : Read (List A)) → m ≡ suc n → read p ≡ Ok (x, q)
    → with_front front (items_at read m p) ≡ whole → with_front (front ++ x ∷ []) (items_at read n q) ≡ whole
step read front m n p x q whole e h k =
    sym (goes_on read front n p x q h) ∙ (ap (λ i. with_front front (items_at read i p)) (sym e) ∙ k)

pub fails : {A : Type 0} (read : Place → Read A) (front : List A) (m n : ℕ) (p q r : Place) (fault : FieldFault) (whole : Read (List A)) → m ≡ suc n
    → (let refusal : Result A FieldFault = Err fault in Reads refusal q (read p))
    → with_front front (items_at read m p) ≡ whole → (let refusal : Result (List A) FieldFault = Err fault in Reads refusal r whole)
fails read front m n p q r (Malformed at) whole e h k = sym k ∙ (ap (λ i. with_front front (items_at read i p)) e ∙ ends read front n p at h)
fails read front m n p q r NoMemory whole e h k = tt

pub ready : {A : Type 0} (read : Place → Read A) (front : List A) (m : ℕ) (p : Place) (whole : Read (List A)) → m ≡ 0
    → with_front front (items_at read m p) ≡ whole → whole ≡ Ok (front, p)
ready read front m p whole e k = sym k ∙ (ap (λ i. with_front front (items_at read i p)) e ∙ is_done read front p)

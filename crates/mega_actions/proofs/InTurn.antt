-- Operations that act one after another: each at a tick by whether its patience has ended, and what is due leaves its request.
use Rattle.std.proofs.Common.{◌≡◌, ◌∙◌, ◌++◌, ◌∷◌, [], ℕ, Bool, true, false, if◌then◌else◌, List, Some, All, fold, refl, sym, ap}
use Rattle.std.proofs.lemmas.List.Elements.{All-pop}
use Rattle.std.proofs.lemmas.List.Sums.{fold_push}
use Rattle.mega_rules.specs.Operations.{Now, Operation, Phase, Proposes, Reads, Setting}
use Rattle.mega_rules.specs.Acting.{ends}
use Rattle.mega_rules.specs.Steps.{acts_in_turn, does_due, is_out, last_answer, ticked}

module _ (s : Setting) (clock : ℕ) where
  due_asked : (o : Operation) (phase : Phase) → (does_due s clock (record { id = o.id; request = o.request; began = o.began; visited = o.visited; message = o.message; phase = phase })).operation.request ≡ o.request
  due_asked o (Reads group r) = refl
  due_asked o (Proposes group n asked p promised) = refl

  pub due_request : (o : Operation) → (does_due s clock o).operation.request ≡ o.request
  due_request o = due_asked o o.phase

  pub ticked_out : (now : Now) (o : Operation) → is_out s clock o ≡ true → ticked s clock now o ≡ ends now o.id (last_answer o)
  ticked_out now o is = ap (λ (t : Bool). if t then ends now o.id (last_answer o) else acts_in_turn s now (does_due s clock o)) is

  pub ticked_due : (now : Now) (o : Operation) → is_out s clock o ≡ false → ticked s clock now o ≡ acts_in_turn s now (does_due s clock o)
  ticked_due now o is = ap (λ (t : Bool). if t then ends now o.id (last_answer o) else acts_in_turn s now (does_due s clock o)) is

-- a fold goes on by one more, under a setting that stayed
pub goes_next : {A : Type 0} (act : Setting → Now → A → Now) (s t : Setting) (now : Now) (xs : List A) (x : A) → t ≡ s → act t (fold (act s) now xs) x ≡ fold (act s) now (xs ++ x ∷ [])
goes_next act s t now xs x same = ap (λ (u : Setting). act u (fold (act s) now xs) x) same ∙ sym (fold_push (act s) now xs x)

-- what holds of all holds of those before the last, and of the last
pub all_before : {A : Type 0} (P : A → Type 0) (xs : List A) (x : A) → All P (xs ++ x ∷ []) → All P xs
all_before P xs x all = (All-pop P (xs ++ x ∷ []) xs (Some x) refl all).0

pub of_last : {A : Type 0} (P : A → Type 0) (xs : List A) (x : A) → All P (xs ++ x ∷ []) → P x
of_last P xs x all = (All-pop P (xs ++ x ∷ []) xs (Some x) refl all).1

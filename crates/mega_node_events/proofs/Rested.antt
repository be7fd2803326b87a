-- Operations that heard nothing act before the others, each on what those before it left.
use Rattle.std.proofs.Common.{◌≡◌, ◌∙◌, ◌++◌, ◌∷◌, [], List, All, map, ap, sym}
use Rattle.std.proofs.lemmas.List.Elements.{All-cons, All-head, All-nil, All-tail}
use Rattle.std.proofs.lemmas.List.Sums.{fold-append}
use Rattle.mega_rules.specs.Operations.{Now, Operation, Setting}
use Rattle.mega_rules.specs.Steps.{Heard, acts_in_turn, all_act}
use Rattle.mega_actions.specs.Turns.{unheard}

pub acts_both : (s t : Setting) (now : Now) (os : List Operation) (ts : List Heard) → t ≡ s → all_act t (all_act s now (map unheard os)) ts ≡ all_act s now (map unheard os ++ ts)
acts_both s t now os ts same = ap (λ (u : Setting). all_act u (all_act s now (map unheard os)) ts) same ∙ sym (fold-append (acts_in_turn s) now (map unheard os) ts)

-- what holds of all holds of the first and of the others
pub all_first : {A : Type 0} (P : A → Type 0) (xs ys : List A) → All P (xs ++ ys) → All P xs
all_first P [] ys all = All-nil P
all_first P (x ∷ xs) ys all = All-cons P x xs (All-head P x (xs ++ ys) all) (all_first P xs ys (All-tail P x (xs ++ ys) all))

pub all_second : {A : Type 0} (P : A → Type 0) (xs ys : List A) → All P (xs ++ ys) → All P ys
all_second P [] ys all = all
all_second P (x ∷ xs) ys all = all_second P xs ys (All-tail P x (xs ++ ys) all)

pub all_of_unheard : (P : Heard → Type 0) (os : List Operation) → All P (map unheard os) → All (λ o. P (unheard o)) os
all_of_unheard P [] all = All-nil (λ o. P (unheard o))
all_of_unheard P (o ∷ os) all = All-cons (λ other. P (unheard other)) o os (All-head P (unheard o) (map unheard os) all) (all_of_unheard P os (All-tail P (unheard o) (map unheard os) all))

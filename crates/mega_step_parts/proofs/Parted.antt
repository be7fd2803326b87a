-- What all open operations come to that hear a message, put together of those that it passes by and the others.
use Rattle.std.proofs.Common.{◌≡◌, ◌∙◌, ◌++◌, ◌∷◌, ◌||◌, [], ℕ, zero, suc, List, All, Bool, true, false, Option, None, Some, drop, fold, map, take, refl, ap}
use Rattle.std.specs.List.{list_any}
use Rattle.std.specs.Option.{option_or}
use Rattle.std.proofs.lemmas.List.Elements.{All-head, All-tail}
use Rattle.mega_base.specs.declared.names.GroupId.{GroupId}
use Rattle.mega_wire.specs.declared.message.Message.{Message}
use Rattle.mega_rules.specs.Operations.{Operation, Setting}
use Rattle.mega_rules.specs.Steps.{Decision, Heard, first_settled, hears_message, settled_by}
use Rattle.mega_step_parts.specs.Listening.{IsPassedBy, unheard}
use Rattle.mega_step_parts.specs.Touching.{roams, with_reach}
use Rattle.mega_step_parts.proofs.Unheard.{not_for}

-- those before the first that a message is for, and the others
pub all_heard : (s : Setting) (now : ℕ) (m : Message) (n : ℕ) (os : List Operation) → All (IsPassedBy m.body) (take n os)
    → map unheard (take n os) ++ map (hears_message s now m) (drop n os) ≡ map (hears_message s now m) os
all_heard s now m zero os all = refl
all_heard s now m (suc n) [] all = refl
all_heard s now m (suc n) (o ∷ os) all =
    (λ i. not_for s now m o (All-head (IsPassedBy m.body) o (take n os) all) i ∷ all_heard s now m n os (All-tail (IsPassedBy m.body) o (take n os) all) i)

or_of_three : (x y z : Option Decision) → option_or x (option_or y z) ≡ option_or (option_or x y) z
or_of_three None y z = refl
or_of_three (Some x) y z = refl

pub settled_of_both : (os : List Operation) (ts : List Heard) → first_settled (map unheard os ++ ts) ≡ option_or (first_settled (map unheard os)) (first_settled ts)
settled_of_both [] ts = refl
settled_of_both (o ∷ os) ts = ap (option_or (settled_by o)) (settled_of_both os ts) ∙ or_of_three (settled_by o) (first_settled (map unheard os)) (first_settled ts)

or_of_any : (x y z : Bool) → (x || (y || z)) ≡ ((x || y) || z)
or_of_any true y z = refl
or_of_any false y z = refl

pub any_of_both : (os : List Operation) (ts : List Heard) → list_any roams (map unheard os ++ ts) ≡ (list_any (λ o. roams (unheard o)) os || list_any roams ts)
any_of_both [] ts = refl
any_of_both (o ∷ os) ts = ap (λ t. roams (unheard o) || t) (any_of_both os ts) ∙ or_of_any (roams (unheard o)) (list_any (λ other. roams (unheard other)) os) (list_any roams ts)

pub reached_of_both : (groups : List GroupId) (os : List Operation) (ts : List Heard)
    → fold with_reach groups (map unheard os ++ ts) ≡ fold with_reach (fold (λ some o. with_reach some (unheard o)) groups os) ts
reached_of_both groups [] ts = refl
reached_of_both groups (o ∷ os) ts = reached_of_both (with_reach groups (unheard o)) os ts

-- The groups with a decided position: which are among them, and that all others have no log.
use Rattle.std.proofs.Common.{◌≡◌, ℕ, zero, suc, ◌||◌, ◌&&◌, ◌==◌, Bool, true, false, cond, List, [], ◌∷◌, length, Option, None, refl, sym, ap, ◌∙◌}
use Rattle.std.specs.List.{list_any}
use Rattle.mega_base.specs.declared.names.GroupId.{GroupId}
use Rattle.mega_entry.specs.declared.content.Content.{Content}
use Rattle.mega_entry.specs.Same.{same_group}
use Rattle.mega_entry.proofs.Sames.{same_group_equal}
use Rattle.mega_rules.specs.Met.{Met, Decides}
use Rattle.mega_rules.specs.Logs.{decided, decided_from, first_of, groups_of, is_group_before, log_of, then_more, with_group}

-- a group is among these
abbrev pub has : GroupId → List GroupId → Bool
has group groups = list_any (λ other. same_group other group) groups

absorbed : (x y z : Bool) → z ≡ x → (x || y) ≡ (z || (x || y))
absorbed true y true e = refl
absorbed false y false e = refl
absorbed true y false e = absurd (cc)
absorbed false y true e = absurd (cc)

moved : (x y z : Bool) → (x || (z || y)) ≡ (z || (x || y))
moved true y true = refl
moved true y false = refl
moved false y z = refl

-- with one group more
pub has_with : (one : GroupId) (groups : List GroupId) (group : GroupId) → has group (with_group one groups) ≡ (same_group one group || has group groups)
has_with one [] group = refl
has_with one (other ∷ groups) group = go (same_group one other) (is_group_before one other) refl (has_with one groups group)
  where
    go : (a b : Bool) → same_group one other ≡ a → has group (with_group one groups) ≡ (same_group one group || has group groups)
        → has group (cond a (other ∷ groups) (cond b (one ∷ other ∷ groups) (other ∷ with_group one groups))) ≡ (same_group one group || (same_group other group || has group groups))
    go true b e rest = absorbed (same_group other group) (has group groups) (same_group one group) (ap (λ g. same_group g group) (same_group_equal one other e))
    go false true e rest = refl
    go false false e rest = ap (λ t. same_group other group || t) rest ∙ moved (same_group other group) (has group groups) (same_group one group)

-- a group with nothing decided has no log
undecided : (met : List Met) (group : GroupId) (n : ℕ) → has group (groups_of met) ≡ false → decided met group n ≡ None
undecided [] group n none = refl
undecided (Decides other position entry ∷ met) group n none = go (same_group other group) (sym (has_with other (groups_of met) group) ∙ none) (undecided met group n)
  where
    go : (t : Bool) → (t || has group (groups_of met)) ≡ false → (has group (groups_of met) ≡ false → decided met group n ≡ None) → cond (t && (position == n)) (first_of (decided met group n) entry) (decided met group n) ≡ None
    go true h rest = absurd (cc)
    go false h rest = rest h
undecided (_ ∷ met) group n none = undecided met group n none

no_entries : (met : List Met) (group : GroupId) (most : ℕ) → decided met group 1 ≡ None → decided_from met group most 1 ≡ []
no_entries met group zero none = refl
no_entries met group (suc most) none = ap (λ (found : Option Content). then_more found (decided_from met group most 2)) none

pub no_log : (met : List Met) (group : GroupId) → has group (groups_of met) ≡ false → log_of met group ≡ []
no_log met group none = no_entries met group (length met) (undecided met group 1 none)

-- Two nodes start alike where what was met tells the same of all starts.
use Rattle.std.proofs.Common.{◌≡◌, ℕ, nat_lt, Bool, true, false, cond, List, [], ◌∷◌, length, flat_map, refl, ap, subst}
use Rattle.std.specs.List.{All}
use Rattle.std.proofs.lemmas.List.Elements.{All-append, All-cons, All-nil}
use Rattle.mega_base.specs.declared.names.GroupId.{GroupId}
use Rattle.mega_replica.specs.Applying.{writes_of}
use Rattle.mega_rules.specs.Met.{Met, Applies, Starts}
use Rattle.mega_rules.specs.Logs.{groups_of, prefix_of}
use Rattle.mega_rules.specs.Members.{has_rows}
use Rattle.mega_rules.specs.Operations.{Setting}
use Rattle.mega_rules.specs.Steps.{onto, start, start_items, start_note, start_notes}
use Rattle.mega_served_laws.specs.Alike.{KeptAlike}
use Rattle.mega_served_laws.proofs.Alike.{Alike, Scope, alike_onto, kept_more, starts_alike}
use Rattle.mega_served_laws.proofs.Keeping.{all_unkept, is_kept}
use Rattle.mega_served_laws.proofs.Logs.{log_alike, prefix_alike}
use Rattle.mega_served_laws.proofs.Steps.{NodeAlike}

abbrev Unkept : Met → Type 0
Unkept x = is_kept x ≡ false

start_unkept : (s : Setting) (met : List Met) → All Unkept (start_notes s met)
start_unkept s met = if_rows (has_rows s.cluster s.me)
  where
    one : (group : GroupId) → All Unkept (start_note met group)
    one group = go (nat_lt 0 (prefix_of met group))
      where
        go : (t : Bool) → All Unkept (cond t (Applies group (prefix_of met group) ∷ []) [])
        go true = All-cons Unkept (Applies group (prefix_of met group)) [] refl (All-nil Unkept)
        go false = All-nil Unkept

    each : (groups : List GroupId) → All Unkept (flat_map (start_note met) groups)
    each [] = All-nil Unkept
    each (group ∷ groups) = All-append Unkept (start_note met group) (flat_map (start_note met) groups) (one group) (each groups)

    if_rows : (t : Bool) → All Unkept (cond t (flat_map (start_note met) (groups_of met)) [])
    if_rows true = each (groups_of met)
    if_rows false = All-nil Unkept

pub notes_unkept : (s : Setting) (met : List Met) → KeptAlike (onto (start_notes s met) met) met
notes_unkept s met = all_unkept (start_notes s met) met (start_unkept s met)

module _ (s : Setting) where
  -- what a start notes is kept as its count
  pub start_kept : (number : ℕ) (a : List Met) → KeptAlike (start s number [] a).met (Starts number ∷ a)
  start_kept number a = all_unkept (start_notes s (Starts number ∷ a)) (Starts number ∷ a) (start_unkept s (Starts number ∷ a))

  pub start_notes_alike : (a b : List Met) → KeptAlike a b → start_notes s a ≡ start_notes s b
  start_notes_alike a b h = λ i. cond (has_rows s.cluster s.me)
      (flat_map (λ (group : GroupId). cond (nat_lt 0 (prefix_alike a b h group i)) (Applies group (prefix_alike a b h group i) ∷ []) []) (h.groups i)) []

  pub items_alike : (number : ℕ) (a b : List Met) → KeptAlike a b → start_items s number [] a ≡ start_items s number [] b
  items_alike number a b h = ap (λ notes. Starts number ∷ notes) (start_notes_alike (Starts number ∷ a) (Starts number ∷ b) (kept_more (Starts number) a b h))

  pub start_alike : (w : Scope) (number : ℕ) (a b : List Met) → KeptAlike a b → NodeAlike w s.cluster s.me (start s number [] a) (start s number [] b)
  start_alike w number a b h = record {
    met = subst (λ notes. Alike w s.cluster s.me (onto (start_notes s (Starts number ∷ a)) (Starts number ∷ a)) (onto notes (Starts number ∷ b))) (start_notes_alike (Starts number ∷ a) (Starts number ∷ b) first.kept)
        (alike_onto w s.cluster s.me (start_notes s (Starts number ∷ a)) (Starts number ∷ a) (Starts number ∷ b) first);
    open_operations = refl;
    stored = λ i group. cond (has_rows s.cluster s.me) (length (writes_of (log_alike a b h group i))) 0;
  }
    where
      first : Alike w s.cluster s.me (Starts number ∷ a) (Starts number ∷ b)
      first = starts_alike w s.cluster s.me number a b h

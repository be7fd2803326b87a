-- The mark of a group is that of its applied entries.
use Rattle.std.proofs.Common.{◌≡◌, ◌∙◌, ap, sym, refl, ℕ, Bool, true, false, cond, List, [], ◌∷◌, ◌++◌, length, append-nil, append_assoc}
use Rattle.std.specs.Prelude.{Option, Some, None, nat_lt, filter_map, map}
use Rattle.std.specs.List.{cons_option}
use Rattle.mega_base.specs.declared.names.GroupId.{GroupId}
use Rattle.mega_node_laws.proofs.Applied.{applied_within}
use Rattle.mega_outcome.specs.declared.answer.Mark.{Mark}
use Rattle.mega_replica.specs.Applying.{applied, applied_log}
use Rattle.mega_rules.specs.Acting.{applied_in, mark_of}
use Rattle.mega_rules.specs.Logs.{log_of}
use Rattle.mega_rules.specs.Operations.{Now}
use Rattle.mega_pumps.specs.Marks.{mark_if}
use Rattle.mega_pumps.proofs.Fronts.{take_length}

added : (marks rest : List Mark) (group : GroupId) (n : ℕ) (t : Bool) → marks ++ cons_option (cond t (Some (record { group = group; position = record { 0 = n } })) None) rest ≡ (marks ++ cond t (record { group = group; position = record { 0 = n } } ∷ []) []) ++ rest
added marks rest group n true = sym (append_assoc marks (record { group = group; position = record { 0 = n } } ∷ []) rest)
added marks rest group n false = ap (λ (l : List Mark). l ++ rest) (sym (append-nil marks))

pub mark_more : (now : Now) (group : GroupId) (groups : List GroupId) (n : ℕ) (marks : List Mark) → n ≡ applied (log_of now.met group) (now.stored group)
    → marks ++ filter_map mark_of (map (applied_in now) (group ∷ groups)) ≡ (marks ++ mark_if group n) ++ filter_map mark_of (map (applied_in now) groups)
mark_more now group groups n marks is =
    ap (λ (k : ℕ). marks ++ cons_option (cond (nat_lt 0 k) (Some (record { group = group; position = record { 0 = k } })) None) rest) size ∙ added marks rest group n (nat_lt 0 n)
  where
    rest : List Mark
    rest = filter_map mark_of (map (applied_in now) groups)

    size : length (applied_log (log_of now.met group) (now.stored group)) ≡ n
    size = take_length (log_of now.met group) (applied (log_of now.met group) (now.stored group)) (applied_within (log_of now.met group) (now.stored group)) ∙ sym is

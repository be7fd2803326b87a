-- Where a pump finds nothing in a node's applied logs, there is nothing in the logs through the marks that it shows.
use Rattle.std.proofs.Common.{◌≡◌, ℕ, zero, suc, ◌≤◌, ◌&&◌, nat_lt, Bool, true, false, not, cond, List, [], ◌∷◌, ◌++◌, take, length, map, filter_map, find, flat_map, Option, Some, None, refl, sym, ap, ◌∙◌, subst, arith}
use Rattle.std.proofs.lemmas.Bool.Decides.{nat_tests}
use Rattle.std.proofs.lemmas.List.{length-take}
use Rattle.std.specs.List.{cons_option}
use Rattle.mega_base.specs.declared.names.GroupId.{GroupId}
use Rattle.mega_base.specs.declared.names.OpId.{OpId}
use Rattle.mega_entry.specs.declared.content.Content.{Content}
use Rattle.mega_outcome.specs.declared.answer.Mark.{Mark}
use Rattle.mega_cause_laws.specs.of_run_laws.of_tape_laws.of_promises.of_rules.of_replica.Applying.{applied}
use Rattle.mega_cause_laws.specs.of_run_laws.of_tape_laws.of_promises.of_rules.Acting.{applied_in, applied_logs, applied_marks, mark_of}
use Rattle.mega_cause_laws.specs.of_run_laws.of_tape_laws.of_promises.of_rules.Logs.{groups_of, log_of, prefix_of}
use Rattle.mega_cause_laws.specs.of_run_laws.of_tape_laws.of_promises.of_rules.Met.{Met}
use Rattle.mega_cause_laws.specs.of_run_laws.of_tape_laws.of_promises.of_rules.Operations.{Now}
use Rattle.mega_cause_laws.specs.of_run_laws.of_tape_laws.of_promises.of_rules.Queues.{Log, Posted, enter_entry, entries_of, has_unhandled, is_named, is_short, names_entered, next_to_enter, next_to_handle, sent_in}
use Rattle.mega_wal.specs.Same.{same_group}
use Rattle.mega_wal.proofs.Sames.{same_group_equal}
use Rattle.mega_node_laws.specs.Deciding.{SameLogs}
use Rattle.mega_answer_laws.proofs.Reasons.{Within, log_at, logs_at}

-- ---- what is left of the logs through their marks

not_below : (n : ℕ) → nat_lt 0 n ≡ false → n ≡ 0
not_below n h = grind (arith, nat_tests)

no_entries : (xs : List Content) → length xs ≡ 0 → xs ≡ []
no_entries [] h = refl
no_entries (x ∷ xs) h = absurd (let none : suc (length xs) ≡ 0 = h in omega (arith, none))

taken : {X : Type 0} (p : ℕ) (xs : List X) → take (length (take p xs)) xs ≡ take p xs
taken zero xs = refl
taken (suc p) [] = refl
taken (suc p) (x ∷ xs) = ap (λ ys. x ∷ ys) (taken p xs)

taken_length : (p : ℕ) (xs : List Content) → length (take p xs) ≤ length xs
taken_length p xs = let is = length-take p xs in omega (arith, is)

module _ (base : List Met) (now : Now) (same : SameLogs base now.met) where
  -- a log without entries, and what its mark shows of another
  abbrev mark_for : GroupId → Mark
  mark_for group = record { group = group; position = record { 0 = length (applied_in now group).entries } }

  same_log : (group : GroupId) → log_at base (mark_for group) ≡ applied_in now group
  same_log group = ap (λ entries. record { group = group; entries = entries })
      (ap (take (length (applied_in now group).entries)) (sym (same.logs group)) ∙ taken (applied (log_of now.met group) (now.stored group)) (log_of now.met group))

  within_one : (group : GroupId) → length (applied_in now group).entries ≤ prefix_of base group
  within_one group = subst (λ n. length (applied_in now group).entries ≤ n) (same.prefixes group) (taken_length (applied (log_of now.met group) (now.stored group)) (log_of now.met group))

  abbrev marks_for : List GroupId → List Mark
  marks_for groups = filter_map mark_of (map (applied_in now) groups)

  all_within : (groups : List GroupId) → Within base (marks_for groups)
  all_within [] = tt
  all_within (group ∷ groups) = by (nat_lt 0 (length (applied_in now group).entries)) (all_within groups)
    where
      by : (t : Bool) → Within base (marks_for groups) → Within base (cons_option (cond t (Some (mark_for group)) None) (marks_for groups))
      by true rest = (within_one group, rest)
      by false rest = rest

  pub marks_within : Within base (applied_marks now)
  marks_within = all_within (groups_of now.met)

  -- ---- what is sent, and what is entered

  sent_same : (groups : List GroupId) → flat_map sent_in (logs_at base (marks_for groups)) ≡ flat_map sent_in (map (applied_in now) groups)
  sent_same [] = refl
  sent_same (group ∷ groups) = by (nat_lt 0 (length (applied_in now group).entries)) refl (sent_same groups)
    where
      by : (t : Bool) → nat_lt 0 (length (applied_in now group).entries) ≡ t → flat_map sent_in (logs_at base (marks_for groups)) ≡ flat_map sent_in (map (applied_in now) groups)
          → flat_map sent_in (logs_at base (cons_option (cond t (Some (mark_for group)) None) (marks_for groups))) ≡ sent_in (applied_in now group) ++ flat_map sent_in (map (applied_in now) groups)
      by true e rest = λ i. sent_in (same_log group i) ++ rest i
      by false e rest = rest ∙ sym (ap (λ entries. sent_in (record { group = group; entries = entries }) ++ flat_map sent_in (map (applied_in now) groups))
          (no_entries (applied_in now group).entries (not_below (length (applied_in now group).entries) e)))

  -- the entries of a group among the logs
  none_there : (group : GroupId) → (applied_in now group).entries ≡ [] → (groups : List GroupId) → entries_of group (map (applied_in now) groups) ≡ []
  none_there group none [] = refl
  none_there group none (other ∷ groups) = by (same_group other group) refl (none_there group none groups)
    where
      by : (t : Bool) → same_group other group ≡ t → entries_of group (map (applied_in now) groups) ≡ [] → cond t (applied_in now other).entries (entries_of group (map (applied_in now) groups)) ≡ []
      by true e rest = ap (λ g. (applied_in now g).entries) (same_group_equal other group e) ∙ none
      by false e rest = rest

  entries_same : (group : GroupId) (groups : List GroupId) → entries_of group (logs_at base (marks_for groups)) ≡ entries_of group (map (applied_in now) groups)
  entries_same group [] = refl
  entries_same group (other ∷ groups) = by (nat_lt 0 (length (applied_in now other).entries)) refl (entries_same group groups)
    where
      rest_is : List Content
      rest_is = entries_of group (map (applied_in now) groups)

      left_out : (applied_in now other).entries ≡ [] → (t : Bool) → same_group other group ≡ t → rest_is ≡ cond t (applied_in now other).entries rest_is
      left_out none true e = none_there group (ap (λ g. (applied_in now g).entries) (sym (same_group_equal other group e)) ∙ none) groups ∙ sym none
      left_out none false e = refl

      by : (t : Bool) → nat_lt 0 (length (applied_in now other).entries) ≡ t → entries_of group (logs_at base (marks_for groups)) ≡ rest_is
          → entries_of group (logs_at base (cons_option (cond t (Some (mark_for other)) None) (marks_for groups))) ≡ cond (same_group other group) (applied_in now other).entries rest_is
      by true e rest = λ i. cond (same_group other group) (same_log other i).entries (rest i)
      by false e rest = rest ∙ left_out (no_entries (applied_in now other).entries (not_below (length (applied_in now other).entries) e)) (same_group other group) refl

  pub nothing_to_enter : (op : OpId) → next_to_enter op (applied_logs now) ≡ None → Within base (applied_marks now) × (next_to_enter op (logs_at base (applied_marks now)) ≡ None)
  nothing_to_enter op none = (all_within (groups_of now.met), found_same ∙ none)
    where
      waits : (Posted → List Content) → Posted → Bool
      waits entries one = not (is_named (one.message).name (names_entered (entries one))) && is_short (enter_entry op one.message)

      found_same : next_to_enter op (logs_at base (applied_marks now)) ≡ next_to_enter op (applied_logs now)
      found_same = λ i. find (waits (λ one. entries_same one.to (groups_of now.met) i)) (sent_same (groups_of now.met) i)

  -- ---- what is not handled

  abbrev group_found : Option Log → Option GroupId
  group_found None = None
  group_found (Some log) = Some log.group

  unhandled_same : (groups : List GroupId) → next_to_handle (logs_at base (marks_for groups)) ≡ next_to_handle (map (applied_in now) groups)
  unhandled_same [] = refl
  unhandled_same (group ∷ groups) = by (nat_lt 0 (length (applied_in now group).entries)) refl (unhandled_same groups)
    where
      either : (t : Bool) (log : Log) (rest : Option Log) → group_found (cond t (Some log) rest) ≡ cond t (Some log.group) (group_found rest)
      either true log rest = refl
      either false log rest = refl

      first : (log : Log) (logs : List Log) → next_to_handle (log ∷ logs) ≡ cond (has_unhandled log) (Some log.group) (next_to_handle logs)
      first log logs = either (has_unhandled log) log (find has_unhandled logs)

      by : (t : Bool) → nat_lt 0 (length (applied_in now group).entries) ≡ t → next_to_handle (logs_at base (marks_for groups)) ≡ next_to_handle (map (applied_in now) groups)
          → next_to_handle (logs_at base (cons_option (cond t (Some (mark_for group)) None) (marks_for groups))) ≡ next_to_handle (applied_in now group ∷ map (applied_in now) groups)
      by true e rest = first (log_at base (mark_for group)) (logs_at base (marks_for groups))
          ∙ (λ i. cond (has_unhandled (same_log group i)) (Some (same_log group i).group) (rest i))
          ∙ sym (first (applied_in now group) (map (applied_in now) groups))
      by false e rest = rest
          ∙ ap (λ entries. cond (has_unhandled (record { group = group; entries = entries })) (Some group) (next_to_handle (map (applied_in now) groups))) (sym (no_entries (applied_in now group).entries (not_below (length (applied_in now group).entries) e)))
          ∙ sym (first (applied_in now group) (map (applied_in now) groups))

  pub nothing_to_handle : next_to_handle (applied_logs now) ≡ None → Within base (applied_marks now) × (next_to_handle (logs_at base (applied_marks now)) ≡ None)
  nothing_to_handle none = (all_within (groups_of now.met), unhandled_same (groups_of now.met) ∙ none)

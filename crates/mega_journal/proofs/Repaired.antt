-- What closing the last gate of a file leaves, whole or torn.
use Rattle.std.proofs.Common.{◌≡◌, ◌≢◌, inl, inr, ⊎_elim, ℕ, ◌+◌, ◌<◌, ◌≤◌, List, [], ◌∷◌, ◌++◌, length, get_or, take, drop, refl, sym, ◌∙◌, ap, arith, append_assoc, take-append-drop}
use Rattle.std.specs.Prelude.{None, true, false, not, nat_lt, ◌==◌}
use Rattle.std.proofs.lemmas.Bool.{and_parts, cases_eq, cases_lt}
use Rattle.std.proofs.lemmas.Bool.Decides.{nat_tests}
use Rattle.std.proofs.lemmas.List.{take_at, drop_more, drop_all, append-nil, nil_from_length}
use Rattle.mega_disk.specs.Images.{overwritten, Torn}
use Rattle.mega_journal.specs.Chain.{chain_of, first_record, records_of}
use Rattle.mega_journal.specs.Rest.{IsAtRest, IsRead, is_shut}
use Rattle.mega_journal.proofs.Records.{records_chain, records_none, first_closed}
use Rattle.mega_journal.proofs.Written.{at_rest}

module _ (file : List ℕ) (end : ℕ) (is : IsRead file end) where
  abbrev bodies : List (List ℕ)
  bodies = records_of file

  abbrev chain : List ℕ
  chain = chain_of bodies

  front : take end file ≡ chain
  front = ap (take end) is.spelled ∙ take_at chain (drop end file) end (sym is.place)

  -- no record begins at the end, whatever gate stands there
  pub any_gate : first_record (1 ∷ drop (end + 1) file) ≡ None → (gate : ℕ) → records_of (chain ++ gate ∷ drop (end + 1) file) ≡ bodies
  any_gate shut gate = records_chain bodies (gate ∷ drop (end + 1) file) is.short (omega arith) ∙ ap (λ (l : List (List ℕ)). bodies ++ l) (none gate) ∙ append-nil bodies
    where
      none : (g : ℕ) → records_of (g ∷ drop (end + 1) file) ≡ []
      none g = elim (cases_eq g 1) [
        | inl one ↦ records_none (g ∷ drop (end + 1) file) (ap (λ (n : ℕ). first_record (n ∷ drop (end + 1) file)) one ∙ shut)
        | inr other ↦ records_none (g ∷ drop (end + 1) file) (first_closed g (drop (end + 1) file) other)
      ]

  -- a torn write over that gate leaves the records
  pub torn_end : first_record (1 ∷ drop (end + 1) file) ≡ None → (c : List ℕ) → Torn end 1 file c → records_of c ≡ bodies
  torn_end shut c torn = ⊎_elim longer empty (cases_lt end (length c))
    where
      longer : end < length c → records_of c ≡ bodies
      longer long =
          let whole : c ≡ chain ++ get_or c end 1 ∷ drop (end + 1) file =
          sym (take-append-drop end c) ∙ ap (λ (l : List ℕ). l ++ drop end c) (torn.before ∙ front)
          ∙ ap (λ (l : List ℕ). chain ++ l) (drop_more c end 1 long ∙ ap (λ (l : List ℕ). get_or c end 1 ∷ l) torn.after) in
          ap records_of whole ∙ any_gate shut (get_or c end 1)

      empty : length c ≤ end → records_of c ≡ bodies
      empty few = ⊎_elim (λ some. let more = is.behind some in let grown = torn.no_shorter in absurd (omega arith)) (λ none. ap records_of (same none)) (cases_lt 0 (length file))
        where
          same : length file ≤ 0 → c ≡ file
          same none =
              let file_nil : file ≡ [] = nil_from_length file (omega arith) in
              let at_start : end ≡ 0 = is.place ∙ ap (λ (l : List ℕ). length (chain_of (records_of l))) file_nil ∙ ap (λ (l : List (List ℕ)). length (chain_of l)) (records_none [] refl) in
              nil_from_length c (omega arith) ∙ sym file_nil

  -- the gate is closed then, and the records are as they were
  pub closed_end : (c : List ℕ) → c ≡ overwritten end (0 ∷ []) file → IsAtRest c end × (records_of c ≡ bodies)
  closed_end c whole =
      at_rest bodies 0 (drop (end + 1) file) c end is.short (λ zero_one. absurd (omega arith))
      (whole ∙ ap (λ (l : List ℕ). l ++ 0 ∷ [] ++ drop (end + 1) file) front ∙ append_assoc chain (0 ∷ []) (drop (end + 1) file)) is.place

  -- a gate that is closed already stays
  pub shut_end : end < length file → get_or file end 1 ≢ 1 → IsAtRest file end
  shut_end inside shut =
      (at_rest bodies (get_or file end 1) (drop (end + 1) file) file end is.short shut (is.spelled ∙ ap (λ (l : List ℕ). chain ++ l) (drop_more file end 1 inside)) is.place).0

  -- an open gate has no whole record behind it
  pub open_end : end < length file → get_or file end 1 ≡ 1 → first_record (1 ∷ drop (end + 1) file) ≡ None
  open_end inside one = ap (λ (n : ℕ). first_record (n ∷ drop (end + 1) file)) (sym one) ∙ ap first_record (sym (drop_more file end 1 inside)) ∙ is.closed

  -- nor has that of a file of one byte
  pub short_end : length file ≤ 1 → first_record (1 ∷ drop (end + 1) file) ≡ None
  short_end few = ap (λ (l : List ℕ). first_record (1 ∷ l)) (drop_all (end + 1) file (omega arith))

  -- by the test of the gate
  pub when_open : is_shut file end ≡ false → first_record (1 ∷ drop (end + 1) file) ≡ None
  when_open test = ⊎_elim many short_end (cases_lt 1 (length file))
    where
      many : 1 < length file → first_record (1 ∷ drop (end + 1) file) ≡ None
      many long = open_end (is.behind (omega arith)) (not_other test long)
        where
          not_other : is_shut file end ≡ false → 1 < length file → get_or file end 1 ≡ 1
          not_other t l = grind (arith, nat_tests)

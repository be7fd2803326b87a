-- What each write of an append leaves, whole or torn.
use Rattle.std.proofs.Common.{◌≡◌, ◌≢◌, inl, inr, ⊎_elim, ℕ, ◌+◌, ◌<◌, ◌≤◌, ◌^◌, List, [], ◌∷◌, ◌++◌, length, get_or, take, drop, refl, sym, ◌∙◌, ap, subst, arith, append_assoc, length-append, take-append-drop}
use Rattle.std.specs.Int.{to_be_bytes, w64}
use Rattle.std.proofs.lemmas.Bool.{cases_eq, cases_lt}
use Rattle.std.proofs.lemmas.List.{take_at, drop_at, drop_more, take-take, get_or_past, get_or_at, take_more}
use Rattle.mega_disk.specs.Images.{overwritten, Torn}
use Rattle.mega_disk.specs.RecordLists.{IsBeforeOrAfter}
use Rattle.mega_chain.specs.Chain.{record_of, chain_of, records_of, AreShort, behind_gate}
use Rattle.mega_chain.specs.Rest.{IsAtRest, Appends}
use Rattle.mega_chain.proofs.Records.{records_closed}
use Rattle.mega_chain.proofs.Chains.{chain_push, short_push}

-- the chain of short bodies and a closed gate are at rest
pub at_rest : (bodies : List (List ℕ)) (gate : ℕ) (rest file : List ℕ) (end : ℕ) → AreShort bodies → gate ≢ 1 → file ≡ chain_of bodies ++ gate ∷ rest → end ≡ length (chain_of bodies) → IsAtRest file end × (records_of file ≡ bodies)
at_rest bodies gate rest file end short shut is place =
    let holds : records_of file ≡ bodies = ap records_of is ∙ records_closed bodies gate rest short shut in
    let front : take end file ≡ chain_of bodies = ap (take end) is ∙ take_at (chain_of bodies) (gate ∷ rest) end (sym place) in
    let at_end : get_or file end 1 ≡ gate = ap (λ (l : List ℕ). get_or l end 1) is ∙ get_or_at (chain_of bodies) gate rest 1 end (sym place) in (
      record {
        front = front ∙ ap chain_of (sym holds);
        place = place ∙ ap (λ (l : List (List ℕ)). length (chain_of l)) (sym holds);
        gate = λ one. shut (sym at_end ∙ one);
        short = subst AreShort (sym holds) short;
      },
      holds,
    )

module _ (file : List ℕ) (end : ℕ) (rests : IsAtRest file end) where
  abbrev bodies : List (List ℕ)
  bodies = records_of file

  abbrev gate : ℕ
  gate = get_or file end 1

  pub inside : end < length file
  inside = ⊎_elim (λ lt. lt) (λ le. absurd (rests.gate (get_or_past file end 1 le))) (cases_lt end (length file))

  front_and_gate : take (end + 1) file ≡ chain_of bodies ++ gate ∷ []
  front_and_gate = take_more file end 1 inside ∙ ap (λ (l : List ℕ). l ++ gate ∷ []) rests.front

  -- a torn write behind the gate leaves the records
  pub torn_behind : (n : ℕ) (c : List ℕ) → Torn (end + 1) n file c → records_of c ≡ bodies
  torn_behind n c torn =
      let whole : c ≡ chain_of bodies ++ gate ∷ drop (end + 1) c =
      sym (take-append-drop (end + 1) c) ∙ ap (λ (l : List ℕ). l ++ drop (end + 1) c) (torn.before ∙ front_and_gate) ∙ append_assoc (chain_of bodies) (gate ∷ []) (drop (end + 1) c) in
      ap records_of whole ∙ records_closed bodies gate (drop (end + 1) c) rests.short rests.gate

  pub appends_behind : (body : List ℕ) (n : ℕ) (c : List ℕ) → Torn (end + 1) n file c → Appends end body file c
  appends_behind body n c torn = record {
    front = sym (take-take end (end + 1) c (omega arith)) ∙ ap (take end) torn.before ∙ take-take end (end + 1) file (omega arith);
    records = inl (torn_behind n c torn);
  }

  module _ (body : List ℕ) (small : length body < 2 ^ 64) where
    abbrev rest : List ℕ
    rest = drop (end + 1 + length (behind_gate body)) file

    -- the file with the record behind its closed gate
    abbrev pub staged : List ℕ
    staged = overwritten (end + 1) (behind_gate body) file

    abbrev record_tail : List ℕ
    record_tail = to_be_bytes w64 (length body) ++ body

    tail_is : behind_gate body ++ rest ≡ record_tail ++ 0 ∷ rest
    tail_is = append_assoc record_tail (0 ∷ []) rest

    pub staged_is : staged ≡ chain_of bodies ++ gate ∷ (record_tail ++ 0 ∷ rest)
    staged_is =
        append_assoc (take (end + 1) file) (behind_gate body) rest
        ∙ ap (λ (l : List ℕ). l ++ (behind_gate body ++ rest)) front_and_gate
        ∙ append_assoc (chain_of bodies) (gate ∷ []) (behind_gate body ++ rest)
        ∙ ap (λ (l : List ℕ). chain_of bodies ++ gate ∷ l) tail_is

    front_is : take end staged ≡ chain_of bodies
    front_is = ap (take end) staged_is ∙ take_at (chain_of bodies) (gate ∷ (record_tail ++ 0 ∷ rest)) end (sym rests.place)

    back_is : drop (end + 1) staged ≡ record_tail ++ 0 ∷ rest
    back_is =
        ap (drop (end + 1)) (staged_is ∙ sym (append_assoc (chain_of bodies) (gate ∷ []) (record_tail ++ 0 ∷ rest)))
        ∙ drop_at (chain_of bodies ++ gate ∷ []) (record_tail ++ 0 ∷ rest) (end + 1) (omega (arith, rests.place, length-append (chain_of bodies) (gate ∷ [])))

    length-staged : end + 1 ≤ length staged
    length-staged = omega (arith, ap length staged_is, length-append (chain_of bodies) (gate ∷ (record_tail ++ 0 ∷ rest)), rests.place)

    opened_is : chain_of bodies ++ 1 ∷ (record_tail ++ 0 ∷ rest) ≡ chain_of (bodies ++ body ∷ []) ++ 0 ∷ rest
    opened_is = sym (append_assoc (chain_of bodies) (record_of body) (0 ∷ rest)) ∙ ap (λ (l : List ℕ). l ++ 0 ∷ rest) (sym (chain_push bodies body))

    pub all_short : AreShort (bodies ++ body ∷ [])
    all_short = short_push bodies body rests.short small

    -- behind any gate the whole record counts or it does not
    any_gate : (g : ℕ) → IsBeforeOrAfter bodies body (records_of (chain_of bodies ++ g ∷ (record_tail ++ 0 ∷ rest)))
    any_gate g = elim (cases_eq g 1) [
      | inl is_open ↦ inr (ap (λ (n : ℕ). records_of (chain_of bodies ++ n ∷ (record_tail ++ 0 ∷ rest))) is_open ∙ ap records_of opened_is ∙ records_closed (bodies ++ body ∷ []) 0 rest all_short (λ zero_one. absurd (omega arith)))
      | inr shut ↦ inl (records_closed bodies g (record_tail ++ 0 ∷ rest) rests.short shut)
    ]

    -- a torn write of the gate leaves the records with the new one or without
    pub torn_gate : (c : List ℕ) → Torn end 1 staged c → IsBeforeOrAfter bodies body (records_of c)
    torn_gate c torn =
        let g = get_or c end 1 in
        let long : end < length c = omega (arith, torn.no_shorter, length-staged) in
        let whole : c ≡ chain_of bodies ++ g ∷ (record_tail ++ 0 ∷ rest) =
        sym (take-append-drop end c) ∙ ap (λ (l : List ℕ). l ++ drop end c) (torn.before ∙ front_is)
        ∙ ap (λ (l : List ℕ). chain_of bodies ++ l) (drop_more c end 1 long ∙ ap (λ (l : List ℕ). g ∷ l) (torn.after ∙ back_is)) in
        subst (λ (l : List ℕ). IsBeforeOrAfter bodies body (records_of l)) (sym whole) (any_gate g)

    pub appends_gate : (c : List ℕ) → Torn end 1 staged c → Appends end body file c
    appends_gate c torn = record { front = torn.before ∙ front_is ∙ sym rests.front; records = torn_gate c torn }

    -- the open gate adds the record
    pub opened : overwritten end (1 ∷ []) staged ≡ chain_of (bodies ++ body ∷ []) ++ 0 ∷ rest
    opened =
        ap (λ (l : List ℕ). l ++ 1 ∷ [] ++ drop (end + 1) staged) front_is
        ∙ ap (λ (l : List ℕ). chain_of bodies ++ 1 ∷ [] ++ l) back_is
        ∙ append_assoc (chain_of bodies) (1 ∷ []) (record_tail ++ 0 ∷ rest)
        ∙ opened_is

    next_end : end + 9 + length body ≡ length (chain_of (bodies ++ body ∷ []))
    next_end =
        omega (arith, rests.place, ap length (chain_push bodies body), length-append (chain_of bodies) (record_of body), length-append (to_be_bytes w64 (length body)) body, eight)
      where
        eight : length (to_be_bytes w64 (length body)) ≡ 8
        eight = refl

    pub at_rest_after : (c : List ℕ) → c ≡ overwritten end (1 ∷ []) staged → IsAtRest c (end + 9 + length body) × (records_of c ≡ bodies ++ body ∷ [])
    at_rest_after c is = at_rest (bodies ++ body ∷ []) 0 rest c (end + 9 + length body) all_short (λ zero_one. absurd (omega arith)) (is ∙ opened) next_end

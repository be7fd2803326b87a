-- The greatest position at which something stands depends on what stands alone.
use Rattle.std.proofs.Common.{◌≡◌, ℕ, ◌==◌, ◌<◌, ◌≤◌, ◌⊎◌, inl, inr, ◌&&◌, ◌||◌, Bool, true, false, cond, max, List, [], ◌∷◌, Option, Some, None, refl, sym, ap, subst, ◌∙◌, arith}
use Rattle.std.specs.Prelude.{is_some}
use Rattle.std.proofs.lemmas.Bool.Decides.{nat_tests}
use Rattle.mega_base.specs.declared.names.GroupId.{GroupId}
use Rattle.mega_base.specs.declared.names.Position.{Position}
use Rattle.mega_acceptor.specs.of_ballot.declared.ballot.Ballot.{Ballot}
use Rattle.mega_acceptor.specs.of_entry.declared.content.Content.{Content}
use Rattle.mega_wal.specs.declared.item.JournalItem.{JournalItem}
use Rattle.mega_wal.specs.declared.item.JournalItem.TheVariants.{Start, Promise, Accept, Decide, Grant, Lapse, Starts}
use Rattle.mega_acceptor.specs.of_entry.Same.{same_group}
use Rattle.mega_wal.specs.Acceptor.{Act, Promised, Voted, Vote, best, greater_vote, is_ballot_below}
use Rattle.mega_base.specs.Climbing.{climb}
use Rattle.mega_wal.specs.History.{acts_of, decided_of, first_of, is_place, newest_of, prefix_of, top_of}
use Rattle.mega_wal.specs.Kept.{marks_of, slot_of}
use Rattle.mega_acceptor.specs.declared.slot.Slot.{Slot}
use Rattle.mega_base.proofs.Climbs.{climb_same}
use Rattle.mega_wal.proofs.Steps.{some_first}

abbrev Marking : Type 0
Marking = Option (GroupId × Position)

abbrev marked : Marking → GroupId → ℕ → Bool
marked None group n = false
marked (Some m) group n = is_place m.0 m.1 group n

abbrev raised : Marking → GroupId → ℕ → ℕ
raised None group most = most
raised (Some m) group most = cond (same_group m.0 group) (max most m.1.0) most

or_cases : (a b : Bool) → (a || b) ≡ true → (a ≡ true) ⊎ (b ≡ true)
or_cases true b h = inl refl
or_cases false b h = inr h

module _ (stood : List JournalItem → GroupId → ℕ → Bool) (most : List JournalItem → GroupId → ℕ) (marks : JournalItem → Marking)
    (none : (group : GroupId) (n : ℕ) → stood [] group n ≡ false) (zero_first : (group : GroupId) → most [] group ≡ 0)
    (stood_step : (x : JournalItem) (before : List JournalItem) (group : GroupId) (n : ℕ) → stood (x ∷ before) group n ≡ (marked (marks x) group n || stood before group n))
    (most_step : (x : JournalItem) (before : List JournalItem) (group : GroupId) → most (x ∷ before) group ≡ raised (marks x) group (most before group)) where
  not_lower : (m : Marking) (group : GroupId) (n top : ℕ) → n ≤ top → n ≤ raised m group top
  not_lower None group n top le = le
  not_lower (Some m) group n top le = go (same_group m.0 group)
    where
      go : (test : Bool) → n ≤ cond test (max top m.1.0) top
      go true = omega arith
      go false = le

  marked_within : (m : Marking) (group : GroupId) (n top : ℕ) → marked m group n ≡ true → n ≤ raised m group top
  marked_within None group n top h = cc
  marked_within (Some m) group n top h = go (same_group m.0 group) (m.1.0 == n) refl h
    where
      go : (a b : Bool) → (m.1.0 == n) ≡ b → (a && b) ≡ true → n ≤ cond a (max top m.1.0) top
      go true true e h = let is : m.1.0 ≡ n = grind (arith, nat_tests) in omega arith
      go true false e h = cc
      go false b e h = cc

  pub most_bound : (items : List JournalItem) (group : GroupId) (n : ℕ) → stood items group n ≡ true → n ≤ most items group
  most_bound [] group n h = let k = none group n in cc
  most_bound (x ∷ before) group n h = subst (λ top. n ≤ top) (sym (most_step x before group)) (go (most_bound before group n) (or_cases (marked (marks x) group n) (stood before group n) (sym (stood_step x before group n) ∙ h)))
    where
      go : (stood before group n ≡ true → n ≤ most before group) → (marked (marks x) group n ≡ true) ⊎ (stood before group n ≡ true) → n ≤ raised (marks x) group (most before group)
      go rest (inl e) = marked_within (marks x) group n (most before group) e
      go rest (inr e) = not_lower (marks x) group n (most before group) (rest e)

  or_right : (a b : Bool) → b ≡ true → (a || b) ≡ true
  or_right true b h = refl
  or_right false b h = h

  raised_stands : (m : Marking) (group : GroupId) (top : ℕ) (f : ℕ → Bool) → (top ≡ 0) ⊎ (f top ≡ true) → (raised m group top ≡ 0) ⊎ ((marked m group (raised m group top) || f (raised m group top)) ≡ true)
  raised_stands None group top f h = h
  raised_stands (Some m) group top f h = go (same_group m.0 group) refl
    where
      here : (a : Bool) → a ≡ true → (a && (m.1.0 == m.1.0)) ≡ true
      here true e = grind (arith, nat_tests)
      here false e = cc

      stays : (n : ℕ) → n ≡ top → (n ≡ 0) ⊎ ((marked (Some m) group n || f n) ≡ true)
      stays n e = pick h
        where
          pick : (top ≡ 0) ⊎ (f top ≡ true) → (n ≡ 0) ⊎ ((marked (Some m) group n || f n) ≡ true)
          pick (inl z) = inl (e ∙ z)
          pick (inr t) = inr (or_right (marked (Some m) group n) (f n) (ap f e ∙ t))

      at_most_top : (b : Bool) → same_group m.0 group ≡ true → (m.1.0 ≤ top) ⊎ (top < m.1.0) → (max top m.1.0 ≡ 0) ⊎ ((marked (Some m) group (max top m.1.0) || f (max top m.1.0)) ≡ true)
      at_most_top b e (inl le) = stays (max top m.1.0) (omega arith)
      at_most_top b e (inr lt) =
          let is : m.1.0 ≡ max top m.1.0 = omega arith in
          inr (ap (λ n. marked (Some m) group n || f n) (sym is) ∙ left (marked (Some m) group m.1.0) (f m.1.0) (here (same_group m.0 group) e))
        where
          left : (a b : Bool) → a ≡ true → (a || b) ≡ true
          left true b h = refl
          left false b h = cc

      go : (test : Bool) → same_group m.0 group ≡ test → (cond test (max top m.1.0) top ≡ 0) ⊎ ((marked (Some m) group (cond test (max top m.1.0) top) || f (cond test (max top m.1.0) top)) ≡ true)
      go true e = at_most_top true e (split m.1.0 top)
        where
          split : (a b : ℕ) → (a ≤ b) ⊎ (b < a)
          split a b = by_test (a == max a b) refl
            where
              by_test : (t : Bool) → (a == max a b) ≡ t → (a ≤ b) ⊎ (b < a)
              by_test true e = same (a == b) refl
                where
                  same : (t : Bool) → (a == b) ≡ t → (a ≤ b) ⊎ (b < a)
                  same true e = inl (grind (arith, nat_tests))
                  same false d = inr (grind (arith, nat_tests))
              by_test false e = inl (grind (arith, nat_tests))
      go false e = stays top refl

  pub most_stands : (items : List JournalItem) (group : GroupId) → (most items group ≡ 0) ⊎ (stood items group (most items group) ≡ true)
  most_stands [] group = inl (zero_first group)
  most_stands (x ∷ before) group = along (raised_stands (marks x) group (most before group) (stood before group) (most_stands before group))
    where
      is : most (x ∷ before) group ≡ raised (marks x) group (most before group)
      is = most_step x before group

      along : (raised (marks x) group (most before group) ≡ 0) ⊎ ((marked (marks x) group (raised (marks x) group (most before group)) || stood before group (raised (marks x) group (most before group))) ≡ true)
          → (most (x ∷ before) group ≡ 0) ⊎ (stood (x ∷ before) group (most (x ∷ before) group) ≡ true)
      along (inl z) = inl (is ∙ z)
      along (inr t) = inr (ap (stood (x ∷ before) group) is ∙ (stood_step x before group (raised (marks x) group (most before group)) ∙ t))

  pub most_same : (one two : List JournalItem) (group : GroupId) → ((n : ℕ) → stood one group n ≡ stood two group n) → most one group ≡ most two group
  most_same one two group same = let a = le one two (λ n. same n) in let b = le two one (λ n. sym (same n)) in omega arith
    where
      le : (one two : List JournalItem) → ((n : ℕ) → stood one group n ≡ stood two group n) → most one group ≤ most two group
      le one two same = go (most_stands one group)
        where
          go : (most one group ≡ 0) ⊎ (stood one group (most one group) ≡ true) → most one group ≤ most two group
          go (inl z) = omega arith
          go (inr t) = most_bound two group (most one group) (sym (same (most one group)) ∙ t)

-- ---- accepted or decided
abbrev stood_at : List JournalItem → GroupId → ℕ → Bool
stood_at items group n = is_some (best (acts_of items group n)) || is_some (decided_of items group n)

abbrev top_marks : JournalItem → Marking
top_marks (Accept group position ballot entry) = Some (group, position)
top_marks (Decide group position entry) = Some (group, position)
top_marks _ = None

some_greater : (vote : Option Vote) (ballot : Ballot) (entry : Content) → is_some (greater_vote vote ballot entry) ≡ true
some_greater None ballot entry = refl
some_greater (Some vote) ballot entry = go (is_ballot_below ballot vote.0)
  where
    go : (test : Bool) → is_some (cond test (Some vote) (Some (ballot, entry))) ≡ true
    go true = refl
    go false = refl

or_true_right : (a : Bool) → (a || true) ≡ true
or_true_right true = refl
or_true_right false = refl

stood_more : (x : JournalItem) (before : List JournalItem) (group : GroupId) (n : ℕ) → stood_at (x ∷ before) group n ≡ (marked (top_marks x) group n || stood_at before group n)
stood_more Start before group n = refl
stood_more (Promise other position ballot) before group n = go (is_place other position group n)
  where
    acts : List Act
    acts = acts_of before group n

    go : (test : Bool) → (is_some (best (cond test (Promised ballot (best acts) ∷ acts) acts)) || is_some (decided_of before group n)) ≡ (is_some (best acts) || is_some (decided_of before group n))
    go true = refl
    go false = refl
stood_more (Accept other position ballot entry) before group n = go (is_place other position group n)
  where
    acts : List Act
    acts = acts_of before group n

    go : (test : Bool) → (is_some (best (cond test (Voted ballot entry ∷ acts) acts)) || is_some (decided_of before group n)) ≡ (test || (is_some (best acts) || is_some (decided_of before group n)))
    go true = ap (λ b. b || is_some (decided_of before group n)) (some_greater (best acts) ballot entry)
    go false = refl
stood_more (Decide other position entry) before group n = go (is_place other position group n)
  where
    go : (test : Bool) → (is_some (best (acts_of before group n)) || is_some (cond test (first_of (decided_of before group n) entry) (decided_of before group n))) ≡ (test || (is_some (best (acts_of before group n)) || is_some (decided_of before group n)))
    go true = ap (λ b. is_some (best (acts_of before group n)) || b) (some_first (decided_of before group n) entry) ∙ or_true_right (is_some (best (acts_of before group n)))
    go false = refl
stood_more (Grant node epoch) before group n = refl
stood_more (Lapse node epoch) before group n = refl
stood_more (Starts starts) before group n = refl

top_more : (x : JournalItem) (before : List JournalItem) (group : GroupId) → top_of (x ∷ before) group ≡ raised (top_marks x) group (top_of before group)
top_more Start before group = refl
top_more (Promise other position ballot) before group = refl
top_more (Accept other position ballot entry) before group = refl
top_more (Decide other position entry) before group = refl
top_more (Grant node epoch) before group = refl
top_more (Lapse node epoch) before group = refl
top_more (Starts starts) before group = refl

-- ---- decided
abbrev decided_at : List JournalItem → GroupId → ℕ → Bool
decided_at items group n = is_some (decided_of items group n)

abbrev newest_marks : JournalItem → Marking
newest_marks (Decide group position entry) = Some (group, position)
newest_marks _ = None

decided_more : (x : JournalItem) (before : List JournalItem) (group : GroupId) (n : ℕ) → decided_at (x ∷ before) group n ≡ (marked (newest_marks x) group n || decided_at before group n)
decided_more Start before group n = refl
decided_more (Promise other position ballot) before group n = refl
decided_more (Accept other position ballot entry) before group n = refl
decided_more (Decide other position entry) before group n = go (is_place other position group n)
  where
    go : (test : Bool) → is_some (cond test (first_of (decided_of before group n) entry) (decided_of before group n)) ≡ (test || is_some (decided_of before group n))
    go true = some_first (decided_of before group n) entry
    go false = refl
decided_more (Grant node epoch) before group n = refl
decided_more (Lapse node epoch) before group n = refl
decided_more (Starts starts) before group n = refl

newest_more : (x : JournalItem) (before : List JournalItem) (group : GroupId) → newest_of (x ∷ before) group ≡ raised (newest_marks x) group (newest_of before group)
newest_more Start before group = refl
newest_more (Promise other position ballot) before group = refl
newest_more (Accept other position ballot entry) before group = refl
newest_more (Decide other position entry) before group = refl
newest_more (Grant node epoch) before group = refl
newest_more (Lapse node epoch) before group = refl
newest_more (Starts starts) before group = refl

-- histories that say the same of each place say the same of each group
pub marks_same : (one two : List JournalItem) → ((group : GroupId) (n : ℕ) → slot_of one group n ≡ slot_of two group n) → (group : GroupId) → marks_of one group ≡ marks_of two group
marks_same one two same group = λ i. record { top = top_is i; newest = newest_is i; prefix = prefix_is i }
  where
    stands : (n : ℕ) → stood_at one group n ≡ stood_at two group n
    stands n = ap (λ (s : Slot). is_some s.accepted || is_some s.decided) (same group n)

    decides : (n : ℕ) → decided_at one group n ≡ decided_at two group n
    decides n = ap (λ (s : Slot). is_some s.decided) (same group n)

    top_is : top_of one group ≡ top_of two group
    top_is = most_same stood_at top_of top_marks (λ group n. refl) (λ group. refl) stood_more top_more one two group stands

    newest_is : newest_of one group ≡ newest_of two group
    newest_is = most_same decided_at newest_of newest_marks (λ group n. refl) (λ group. refl) decided_more newest_more one two group decides

    prefix_is : prefix_of one group ≡ prefix_of two group
    prefix_is = climb_same (decided_at one group) (decided_at two group) decides (newest_of one group) 0 ∙ ap (λ n. climb (decided_at two group) n 0) newest_is

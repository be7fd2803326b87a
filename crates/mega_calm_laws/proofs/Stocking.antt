-- In a run each position up to the greatest that a voter of a calm group accepted or decided is decided at some voter.
use Rattle.std.proofs.Common.{◌≡◌, ◌⊎◌, inl, inr, ℕ, zero, suc, ◌+◌, ◌*◌, ◌==◌, ◌&&◌, ◌≤◌, ◌<◌, max, nat_le, Bool, true, false, cond, List, [], ◌∷◌, length, Option, Some, None, is_some, refl, sym, ap, ◌∙◌, subst, arith}
use Rattle.std.specs.List.{cons_option}
use Rattle.std.specs.Prelude.{IsSome}
use Rattle.std.proofs.lemmas.Bool.Decides.{nat_tests}
use Rattle.mega_base.specs.declared.names.GroupId.{GroupId}
use Rattle.mega_base.specs.declared.names.NodeId.{NodeId}
use Rattle.mega_ballot.specs.declared.ballot.Ballot.{Ballot}
use Rattle.mega_cluster.specs.declared.cluster.Cluster.{Cluster}
use Rattle.mega_entry.specs.declared.content.Content.{Content}
use Rattle.mega_handler.specs.Named.{Meanings}
use Rattle.mega_wire.specs.declared.message.Body.{Body}
use Rattle.mega_wire.specs.declared.message.Body.TheVariants.{Accepted}
use Rattle.mega_wal.specs.Acceptor.{Act, Promised, Vote, Voted, best, greater_vote, is_ballot_below}
use Rattle.mega_wal.specs.Same.{same_group}
use Rattle.mega_leased_laws.specs.of_run_laws.of_tape_laws.of_promises.of_transcript.declared.item.Item.TheVariants.{Decide}
use Rattle.mega_leased_laws.specs.of_run_laws.of_tape_laws.of_promises.of_rules.Logs.{accepted_at, decided, first_of, top_of}
use Rattle.mega_leased_laws.specs.of_run_laws.of_tape_laws.of_promises.of_rules.Members.{is_voter, voters}
use Rattle.mega_leased_laws.specs.of_run_laws.of_tape_laws.of_promises.of_rules.Met.{Met, Decides, Sends, Unsends}
use Rattle.mega_leased_laws.specs.of_run_laws.of_tape_laws.of_promises.of_rules.Voting.{act_if, act_in, acts as acts_met}
use Rattle.mega_leased_laws.specs.of_run_laws.of_tape_laws.of_promises.Calm.{IsCalm}
use Rattle.mega_leased_laws.specs.of_run_laws.of_tape_laws.of_promises.Items.{number}
use Rattle.mega_leased_laws.specs.of_run_laws.of_tape_laws.of_promises.Promises.{Stands}
use Rattle.mega_leased_laws.specs.of_run_laws.of_tape_laws.of_promises.Runs.{Cuts, Happening, Standing, goes_on, opening}
use Rattle.mega_leased_laws.specs.of_run_laws.of_tape_laws.Chosen.{Chosen}
use Rattle.mega_leased_laws.specs.of_run_laws.of_tape_laws.Places.{In, IsMajority, Place, acts, count}
use Rattle.mega_leased_laws.specs.of_run_laws.of_tape_laws.Writes.{AreWritten, Usage}
use Rattle.mega_leased_laws.proofs.of_run_laws.of_tape_laws.Agreement.{decided_chosen}
use Rattle.mega_leased_laws.proofs.of_run_laws.of_tape_laws.Made.{vote_proposed}
use Rattle.mega_leased_laws.proofs.of_run_laws.of_tape_laws.Origins.{Origin, origin}
use Rattle.mega_leased_laws.specs.of_run_laws.Usages.{Fits}
use Rattle.mega_leased_laws.proofs.of_run_laws.Owned.{Users}
use Rattle.mega_leased_laws.proofs.of_run_laws.Runs.{run_written}
use Rattle.mega_leased_laws.proofs.of_run_laws.Standing.{Good}
use Rattle.mega_calm_laws.specs.Stocked.{IsKnown, IsStocked}
use Rattle.mega_calm_laws.proofs.Mail.{Among, number_is, number_self}
use Rattle.mega_calm_laws.proofs.Polls.{voter_of}
use Rattle.mega_calm_laws.proofs.Standings.{anybody, run_good}
use Rattle.mega_calm_laws.proofs.Searching.{slice_there}

-- ---- votes

record HasVote (made : List Act) : Type 0 where
  vote : Vote
  is : best made ≡ Some vote

voted_more : (o : Option Vote) (b : Ballot) (e : Content) → (x : Vote) × (greater_vote o b e ≡ Some x)
voted_more None b e = ((b, e), refl)
voted_more (Some vote) b e = by (is_ballot_below b vote.0)
  where
    by : (t : Bool) → (x : Vote) × (cond t (Some vote) (Some (b, e)) ≡ Some x)
    by true = (vote, refl)
    by false = ((b, e), refl)

vote_first : (made : List Act) (b : Ballot) (e : Content) → HasVote (Voted b e ∷ made)
vote_first made b e = let r = voted_more (best made) b e in record { vote = r.0; is = r.1 }

vote_then : (act : Act) (made : List Act) → HasVote made → HasVote (act ∷ made)
vote_then (Promised b report) made h = record { vote = h.vote; is = h.is }
vote_then (Voted b e) made h = vote_first made b e

vote_on : (o : Option Act) (made : List Act) → HasVote made → HasVote (cons_option o made)
vote_on None made h = h
vote_on (Some act) made h = vote_then act made h

vote_in : (made : List Act) (b : Ballot) (e : Content) → In (Voted b e) made → HasVote made
vote_in [] b e i = absurd i
vote_in (act ∷ made) b e (inl same) = subst (λ a. HasVote (a ∷ made)) (sym same) (vote_first made b e)
vote_in (act ∷ made) b e (inr i) = vote_then act made (vote_in made b e i)

some_vote : (made : List Act) → HasVote made → IsSome (best made)
some_vote made h = ap is_some h.is

record HasEntryAt (met : List Met) (g : GroupId) (n : ℕ) : Type 0 where
  entry : Content
  is : decided met g n ≡ Some entry

there : (o : Option Content) → IsSome o → (e : Content) × (o ≡ Some e)
there None h = cc
there (Some e) h = (e, refl)

-- ---- the greatest position was accepted or decided

abbrev Caused : List Met → GroupId → ℕ → Type 0
Caused met g n = HasEntryAt met g n ⊎ HasVote (acts_met met g n)

entry_on : (one : Met) (met : List Met) (g : GroupId) (n : ℕ) → HasEntryAt met g n → HasEntryAt (one ∷ met) g n
entry_on (Decides group position entry) met g n h = record { entry = h.entry; is = by (same_group group g && position == n) }
  where
    by : (t : Bool) → cond t (first_of (decided met g n) entry) (decided met g n) ≡ Some h.entry
    by true = ap (λ o. first_of o entry) h.is
    by false = h.is
entry_on _ met g n h = record { entry = h.entry; is = h.is }

entry_first : (met : List Met) (g group : GroupId) (position n : ℕ) (entry : Content) → (same_group group g && position == n) ≡ true → HasEntryAt (Decides group position entry ∷ met) g n
entry_first met g group position n entry h = let r = first (decided met g n) in record { entry = r.0; is = ap (λ t. cond t (first_of (decided met g n) entry) (decided met g n)) h ∙ r.1 }
  where
    first : (o : Option Content) → (e : Content) × (first_of o entry ≡ Some e)
    first None = (entry, refl)
    first (Some e) = (e, refl)

which_max : (a b : ℕ) → (max a b ≡ a) ⊎ (max a b ≡ b)
which_max a b = by (nat_le b a) refl
  where
    left : b ≤ a → max a b ≡ a
    left le = omega (arith, le)

    right : a < b → max a b ≡ b
    right less = omega (arith, less)

    is_most : nat_le b a ≡ true → b ≤ a
    is_most h = grind (arith, nat_tests)

    is_less : nat_le b a ≡ false → a < b
    is_less h = grind (arith, nat_tests)

    by : (t : Bool) → nat_le b a ≡ t → (max a b ≡ a) ⊎ (max a b ≡ b)
    by true e = inl (left (is_most e))
    by false e = inr (right (is_less e))

voted_at : (g : GroupId) (n : ℕ) (body : Body) → accepted_at g body ≡ n → 1 ≤ n → (b : Ballot) × (e : Content) × (act_in g n body ≡ Some (Voted b e))
voted_at g n (Accepted op h p b e) is above = by (same_group h g) refl is
  where
    by : (t : Bool) → same_group h g ≡ t → cond t p.0 0 ≡ n → (d : Ballot) × (f : Content) × (act_in g n (Accepted op h p b e) ≡ Some (Voted d f))
    by true same k = (b, e, ap (λ t. act_if (t && p.0 == n) (Voted b e)) same ∙ ap (λ t. act_if t (Voted b e)) (ap (λ x. x == n) k ∙ number_self n))
    by false same k = absurd (omega (arith, k, above))
voted_at g n _ is above = absurd (omega (arith, is, above))

made_vote : (o : Option Act) (made : List Act) (b : Ballot) (e : Content) → o ≡ Some (Voted b e) → HasVote (cons_option o made)
made_vote o made b e is = subst (λ x. HasVote (cons_option x made)) (sym is) (vote_first made b e)

top_cause : (met : List Met) (g : GroupId) (n : ℕ) → 1 ≤ n → top_of met g ≡ n → Caused met g n
top_cause [] g n above is = absurd (omega (arith, above, is))
top_cause (Decides group position entry ∷ before) g n above is = by (same_group group g) refl is (top_cause before g n above)
  where
    later : Caused before g n → Caused (Decides group position entry ∷ before) g n
    later (inl d) = inl (entry_on (Decides group position entry) before g n d)
    later (inr v) = inr v

    by : (t : Bool) → same_group group g ≡ t → cond t (max position (top_of before g)) (top_of before g) ≡ n → (top_of before g ≡ n → Caused before g n) → Caused (Decides group position entry ∷ before) g n
    by true same k again = elim (which_max position (top_of before g)) [
      | inl first ↦ inl (entry_first before g group position n entry (ap (λ t. t && position == n) same ∙ (ap (λ x. x == n) (sym first ∙ k) ∙ number_self n)))
      | inr second ↦ later (again (sym second ∙ k))
    ]
    by false same k again = later (again k)
top_cause (Sends m ∷ before) g n above is = elim (which_max (accepted_at g m.body) (top_of before g)) [
  | inl first ↦ (let v = voted_at g n m.body (sym first ∙ is) above in inr (made_vote (act_in g n m.body) (acts_met before g n) v.0 v.1 v.2))
  | inr second ↦ later (top_cause before g n above (sym second ∙ is))
]
  where
    later : Caused before g n → Caused (Sends m ∷ before) g n
    later (inl d) = inl (entry_on (Sends m) before g n d)
    later (inr v) = inr (vote_on (act_in g n m.body) (acts_met before g n) v)
top_cause (Unsends m ∷ before) g n above is = elim (which_max (accepted_at g m.body) (top_of before g)) [
  | inl first ↦ (let v = voted_at g n m.body (sym first ∙ is) above in inr (made_vote (act_in g n m.body) (acts_met before g n) v.0 v.1 v.2))
  | inr second ↦ later (top_cause before g n above (sym second ∙ is))
]
  where
    later : Caused before g n → Caused (Unsends m ∷ before) g n
    later (inl d) = inl (entry_on (Unsends m) before g n d)
    later (inr v) = inr (vote_on (act_in g n m.body) (acts_met before g n) v)
top_cause (one ∷ before) g n above is = elim (top_cause before g n above is) [ inl d ↦ inl (record { entry = d.entry; is = d.is }) | inr v ↦ inr v ]

-- ---- a voter of a majority

some_passes : (test : ℕ → Bool) (vs : List ℕ) → 0 < count test vs → (v : ℕ) × (Among v vs) × (test v ≡ true)
some_passes test [] less = absurd (omega (arith, less))
some_passes test (v ∷ vs) less = by (test v) refl less (some_passes test vs)
  where
    by : (t : Bool) → test v ≡ t → 0 < cond t 1 0 + count test vs → (0 < count test vs → (u : ℕ) × (Among u vs) × (test u ≡ true)) → (u : ℕ) × (Among u (v ∷ vs)) × (test u ≡ true)
    by true e k again = (v, inl refl, e)
    by false e k again = let r = again (omega (arith, k)) in (r.0, inr r.1, r.2)

pub majority_voter : (c : Cluster) (test : ℕ → Bool) → IsMajority c test → (v : ℕ) × (is_voter c v ≡ true) × (test v ≡ true)
majority_voter c test most = let r = some_passes test (voters c) (some (length (voters c)) (count test (voters c)) most) in (r.0, voter_of c r.0 r.1, r.2)
  where
    some : (n k : ℕ) → n < 2 * k → 0 < k
    some n k less = omega (arith, less)

-- ---- a calm run

abbrev pub place : GroupId → ℕ → Place
place g n = record { group = g; position = record { 0 = n } }

module _ (users : Users) (c : Cluster) (now : Standing) (good : Good users c now) (usage : Usage) (written : AreWritten c.schema usage now.tape) (group : GroupId) (calm : IsCalm c now group) where
  -- what is decided was chosen, so that some voter accepted it, and some voter decided it
  decided_known : (node : NodeId) (n : ℕ) (e : Content) → Stands (Decide node group (record { 0 = n }) e) now.tape → IsKnown c now group n
  decided_known node n e s = record { voter = other.0; member = other.1; entry = (there (decided (now.node other.0).met group n) other.2).0; is = (there (decided (now.node other.0).met group n) other.2).1 }
    where
      chosen : Chosen c (place group n) now.tape e
      chosen = decided_chosen c (place group n) now.tape good.lawful node e s

      v : (v : ℕ) × (is_voter c v ≡ true) × (chosen.test v ≡ true)
      v = majority_voter c chosen.test chosen.majority

      made : HasVote (acts_met (now.node v.0).met group n)
      made = subst HasVote (sym ((good.node v.0).made (place group n))) (vote_in (acts now.tape v.0 (place group n)) chosen.ballot e (chosen.each v.0 v.2))

      other : (other : ℕ) × (is_voter c other ≡ true) × IsSome (decided (now.node other).met group n)
      other = calm.accepted_decided v.0 n v.1 (some_vote (acts_met (now.node v.0).met group n) made)

  -- and so it is of each position below
  below_known : (node : NodeId) (t : ℕ) (e : Content) → Stands (Decide node group (record { 0 = t }) e) now.tape → (n : ℕ) → 1 ≤ n → n ≤ t → IsKnown c now group n
  below_known node t e s n low high = by (n == t) refl
    where
      chosen : Chosen c (place group t) now.tape e
      chosen = decided_chosen c (place group t) now.tape good.lawful node e s

      v : (v : ℕ) × (is_voter c v ≡ true) × (chosen.test v ≡ true)
      v = majority_voter c chosen.test chosen.majority

      o : Origin c.schema usage now.tape (place group t) e
      o = let p = vote_proposed c now.tape good.lawful v.0 (place group t) chosen.ballot e (chosen.each v.0 v.2) in
          origin c.schema usage now.tape written p.op (place group t) chosen.ballot e p.stands

      less : (n == t) ≡ false → n < t
      less apart = grind (arith, nat_tests)

      lower : (k : ℕ) → n ≡ suc k → k < length o.below → IsKnown c now group n
      lower k is within = let d = slice_there o.below k within in subst (IsKnown c now group) (sym is) (decided_known (number o.node) (suc k) d.0 (o.known k d.0 d.1))

      split : (m : ℕ) → n ≡ m → n < t → IsKnown c now group n
      split zero is under = absurd (omega (arith, is, low))
      split (suc k) is under = lower k is (let reach = o.reaches in omega (arith, is, under, reach))

      by : (b : Bool) → (n == t) ≡ b → IsKnown c now group n
      by true same = subst (IsKnown c now group) (sym (number_is n t same)) (decided_known node t e s)
      by false apart = split n refl (less apart)

  pub stocked : IsStocked c now group
  stocked = record { each = λ v n voter low high. by v n voter low high (top_of (now.node v).met group) refl }
    where
      entered : (w t n : ℕ) → HasEntryAt (now.node w).met group t → 1 ≤ n → n ≤ t → IsKnown c now group n
      entered w t n h low high = below_known (number w) t h.entry ((good.node w).known group t h.entry h.is) n low high

      by : (v n : ℕ) → is_voter c v ≡ true → 1 ≤ n → n ≤ top_of (now.node v).met group → (t : ℕ) → top_of (now.node v).met group ≡ t → IsKnown c now group n
      by v n voter low high t is = elim (top_cause (now.node v).met group t (omega (arith, low, high, is)) is) [
        | inl d ↦ entered v t n d low (omega (arith, high, is))
        | inr made ↦ (let other = calm.accepted_decided v t voter (some_vote (acts_met (now.node v).met group t) made) in
            let d = there (decided (now.node other.0).met group t) other.2 in entered other.0 t n (record { entry = d.0; is = d.1 }) low (omega (arith, high, is)))
      ]

-- ---- runs

pub run_stocked : (c : Cluster) (usage : Usage) (cuts : Cuts) (first : Meanings) (events : List Happening) → Fits usage events → (group : GroupId) → IsCalm c (goes_on c cuts (opening c first) events) group
    → IsStocked c (goes_on c cuts (opening c first) events) group
run_stocked c usage cuts first events fits group calm =
    stocked anybody c (goes_on c cuts (opening c first) events) (run_good c cuts first events) usage
    (run_written c usage first events (goes_on c cuts (opening c first) events).tape (record { cuts = cuts; tape_is = refl }) fits).written group calm

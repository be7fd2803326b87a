-- A run that stands calm for a group, under the four conditions, is ready at its next position: the log below is known to most voters, and nothing was made behind it.
use Rattle.std.proofs.Common.{◌≡◌, ◌⊎◌, inl, inr, ℕ, zero, suc, ◌+◌, ◌*◌, ◌≤◌, ◌<◌, max, nat_le, nat_lt, Bool, true, false, cond, List, [], ◌∷◌, filter, fold, length, slice_get, Option, Some, None, refl, sym, ap, ◌∙◌, subst, arith}
use Rattle.std.proofs.lemmas.Bool.Decides.{nat_tests}
use Rattle.mega_base.specs.declared.names.GroupId.{GroupId}
use Rattle.mega_ballot.specs.declared.ballot.Ballot.{Ballot}
use Rattle.mega_cluster.specs.declared.cluster.Cluster.{Cluster}
use Rattle.mega_entry.specs.declared.content.Content.{Content}
use Rattle.mega_handler.specs.Named.{Meanings}
use Rattle.mega_wal.specs.Acceptor.{Voted}
use Rattle.mega_wal.specs.Same.{same_group}
use Rattle.mega_leased_laws.specs.of_run_laws.of_tape_laws.of_promises.of_transcript.declared.item.Item.{Item}
use Rattle.mega_leased_laws.specs.of_run_laws.of_tape_laws.of_promises.of_rules.of_read.of_propose.Members.{is_majority}
use Rattle.mega_leased_laws.specs.of_run_laws.of_tape_laws.of_promises.of_rules.Coordinators.{valid_at}
use Rattle.mega_leased_laws.specs.of_run_laws.of_tape_laws.of_promises.of_rules.Logs.{accepted_at, decided, top_of}
use Rattle.mega_leased_laws.specs.of_run_laws.of_tape_laws.of_promises.of_rules.Members.{is_full, is_voter, voters}
use Rattle.mega_leased_laws.specs.of_run_laws.of_tape_laws.of_promises.of_rules.Met.{Met, Decides, Sends, Unsends}
use Rattle.mega_leased_laws.specs.of_run_laws.of_tape_laws.of_promises.of_rules.Voting.{act_in, acts as acts_met}
use Rattle.mega_leased_laws.specs.of_run_laws.of_tape_laws.of_promises.Calm.{IsCalmAt}
use Rattle.mega_leased_laws.specs.of_run_laws.of_tape_laws.of_promises.Items.{number}
use Rattle.mega_leased_laws.specs.of_run_laws.of_tape_laws.of_promises.Promises.{first_decided, log_from, log_of, then_more}
use Rattle.mega_leased_laws.specs.of_run_laws.of_tape_laws.of_promises.Runs.{Cuts, Happening, Standing}
use Rattle.mega_leased_laws.specs.of_run_laws.Usages.{Fits}
use Rattle.mega_leased_laws.proofs.of_run_laws.Standing.{Good}
use Rattle.mega_leased_laws.specs.of_run_laws.of_tape_laws.Chosen.{Chosen}
use Rattle.mega_leased_laws.specs.of_run_laws.of_tape_laws.Places.{In, count}
use Rattle.mega_leased_laws.specs.of_run_laws.of_tape_laws.Writes.{Usage}
use Rattle.mega_leased_laws.proofs.of_run_laws.of_tape_laws.Agreement.{decided_chosen}
use Rattle.mega_leased_laws.proofs.of_run_laws.of_tape_laws.Complete.{is_decided, is_there, most_decided}
use Rattle.mega_leased_laws.proofs.of_run_laws.of_tape_laws.Lists.{from_cons}
use Rattle.mega_leased_laws.proofs.of_run_laws.of_tape_laws.Logs.{Decided, first_stands, shown_first}
use Rattle.mega_leased_laws.proofs.of_run_laws.of_tape_laws.Totals.{all_pass}
use Rattle.mega_leased_laws.proofs.Tops.{run_fresh, max_grows, max_first}
use Rattle.mega_leased_laws.proofs.of_run_laws.MayAnswer.{act_voted}
use Rattle.mega_calm_laws.specs.Next.{run_of}
use Rattle.mega_calm_laws.specs.Ready.{IsReady, knows_end, leader_behind}
use Rattle.mega_calm_laws.specs.Stocked.{IsKnown, IsStocked}
use Rattle.mega_calm_laws.proofs.Mail.{Among}
use Rattle.mega_calm_laws.proofs.Beginning.{full_node, full_votes}
use Rattle.mega_calm_laws.proofs.Freeing.{IsFree, run_free}
use Rattle.mega_calm_laws.proofs.Noting.{below_top}
use Rattle.mega_calm_laws.proofs.Polls.{among_voters, voter_of}
use Rattle.mega_calm_laws.proofs.Standings.{anybody, run_good}
use Rattle.mega_calm_laws.proofs.Stocking.{majority_voter, place, run_stocked}
use Rattle.mega_calm_laws.proofs.Wholes.{Shows, log_shows}
use Rattle.mega_calm_laws.proofs.Committing.{fold_above}

-- ---- a log is as long as its positions are decided

-- the log goes as far as all is decided
log_reaches : (tape : List Item) (g : GroupId) (most n t : ℕ) → t ≤ most → ((k : ℕ) → k < t → Shows tape g (n + k)) → t ≤ length (log_from tape g most n)
log_reaches tape g most n zero le shows = omega arith
log_reaches tape g zero n (suc t) le shows = absurd (omega (arith, le))
log_reaches tape g (suc most) n (suc t) le shows = by (first_decided tape g n) (let first = shows 0 (omega arith) in (first.entry, ap (first_decided tape g) (let same : n ≡ n + 0 = omega arith in same) ∙ first.is))
    (log_reaches tape g most (n + 1) t (omega (arith, le)) (λ k less. subst (Shows tape g) (let same : n + suc k ≡ (n + 1) + k = omega arith in same) (shows (suc k) (omega (arith, less)))))
  where
    by : (o : Option Content) → (e : Content) × (o ≡ Some e) → t ≤ length (log_from tape g most (n + 1)) → suc t ≤ length (then_more o (log_from tape g most (n + 1)))
    by None first rest = absurd (let never = first.1 in cc)
    by (Some e) first rest = omega (arith, rest)

-- an entry of the log is the one first decided there
pub log_has : (tape : List Item) (g : GroupId) (most n k : ℕ) → k < length (log_from tape g most n) → slice_get (log_from tape g most n) k ≡ first_decided tape g (n + k)
log_has tape g zero n k less = absurd (omega (arith, less))
log_has tape g (suc most) n k less = by (first_decided tape g n) refl k less (λ j. log_has tape g most (n + 1) j)
  where
    by : (o : Option Content) → first_decided tape g n ≡ o → (i : ℕ) → i < length (then_more o (log_from tape g most (n + 1)))
        → ((j : ℕ) → j < length (log_from tape g most (n + 1)) → slice_get (log_from tape g most (n + 1)) j ≡ first_decided tape g ((n + 1) + j)) → slice_get (then_more o (log_from tape g most (n + 1))) i ≡ first_decided tape g (n + i)
    by None is i below again = absurd (omega (arith, below))
    by (Some e) is zero below again = sym is ∙ ap (first_decided tape g) (let same : n ≡ n + 0 = omega arith in same)
    by (Some e) is (suc j) below again = again j (omega (arith, below)) ∙ ap (first_decided tape g) (let same : (n + 1) + j ≡ n + suc j = omega arith in same)

-- ---- the greatest of some numbers

greatest : (f : ℕ → ℕ) (vs : List ℕ) (least : ℕ) → ((fold (λ most v. max most (f v)) least vs ≡ least) ⊎ ((v : ℕ) × (Among v vs) × (f v ≡ fold (λ most v. max most (f v)) least vs)))
greatest f [] least = inl refl
greatest f (v ∷ vs) least = elim (greatest f vs (max least (f v))) [
  | inl same ↦ by (nat_le (f v) least) refl same
  | inr found ↦ inr (found.0, inr found.1, found.2)
]
  where
    left : (a b : ℕ) → nat_le b a ≡ true → max a b ≡ a
    left a b h = at_left (most h)
      where
        most : nat_le b a ≡ true → b ≤ a
        most e = grind (arith, nat_tests)

        at_left : b ≤ a → max a b ≡ a
        at_left le = omega (arith, le)

    right : (a b : ℕ) → nat_le b a ≡ false → max a b ≡ b
    right a b h = at_right (less h)
      where
        less : nat_le b a ≡ false → a < b
        less e = grind (arith, nat_tests)

        at_right : a < b → max a b ≡ b
        at_right le = omega (arith, le)

    by : (t : Bool) → nat_le (f v) least ≡ t → fold (λ most u. max most (f u)) (max least (f v)) vs ≡ max least (f v)
        → (fold (λ most u. max most (f u)) (max least (f v)) vs ≡ least) ⊎ ((u : ℕ) × (Among u (v ∷ vs)) × (f u ≡ fold (λ most u. max most (f u)) (max least (f v)) vs))
    by true e same = inl (same ∙ left least (f v) e)
    by false e same = inr (v, inl refl, sym (same ∙ right least (f v) e))

-- ---- votes

if_grows : (t : Bool) (a b : ℕ) → b ≤ cond t (max a b) b
if_grows true a b = omega arith
if_grows false a b = omega arith

vote_top : (met : List Met) (g : GroupId) (n : ℕ) (b : Ballot) (e : Content) → In (Voted b e) (acts_met met g n) → n ≤ top_of met g
vote_top [] g n b e i = absurd i
vote_top (Sends m ∷ before) g n b e i = elim (from_cons (act_in g n m.body) (acts_met before g n) (Voted b e) i) [
  | inl here ↦ (let le = act_voted g n m.body b e here in let more = max_first (accepted_at g m.body) (top_of before g) in omega (arith, le, more))
  | inr later ↦ (let le = vote_top before g n b e later in let more = max_grows (accepted_at g m.body) (top_of before g) in omega (arith, le, more))
]
vote_top (Unsends m ∷ before) g n b e i = elim (from_cons (act_in g n m.body) (acts_met before g n) (Voted b e) i) [
  | inl here ↦ (let le = act_voted g n m.body b e here in let more = max_first (accepted_at g m.body) (top_of before g) in omega (arith, le, more))
  | inr later ↦ (let le = vote_top before g n b e later in let more = max_grows (accepted_at g m.body) (top_of before g) in omega (arith, le, more))
]
vote_top (Decides k p x ∷ before) g n b e i = let le = vote_top before g n b e i in let more = if_grows (same_group k g) p (top_of before g) in omega (arith, le, more)
vote_top (_ ∷ before) g n b e i = vote_top before g n b e i

-- those that pass one test are no more than those that pass another which it implies
count_most : (test other : ℕ → Bool) → (vs : List ℕ) → ((v : ℕ) → Among v vs → test v ≡ true → other v ≡ true) → count test vs ≤ length (filter other vs)
count_most test other [] f = omega arith
count_most test other (v ∷ vs) f = by (test v) refl (other v) refl (count_most test other vs (λ u i. f u (inr i)))
  where
    by : (s : Bool) → test v ≡ s → (t : Bool) → other v ≡ t → count test vs ≤ length (filter other vs) → cond s 1 0 + count test vs ≤ length (cond t (v ∷ filter other vs) (filter other vs))
    by true is true so rest = omega (arith, rest)
    by true is false so rest = absurd (let never = sym so ∙ f v (inl refl) is in cc)
    by false is true so rest = omega (arith, rest)
    by false is false so rest = omega (arith, rest)

all_kept : (other : ℕ → Bool) (vs : List ℕ) → ((v : ℕ) → Among v vs → other v ≡ true) → length vs ≤ length (filter other vs)
all_kept other [] f = omega arith
all_kept other (v ∷ vs) f = by (other v) (f v (inl refl)) (all_kept other vs (λ u i. f u (inr i)))
  where
    by : (t : Bool) → t ≡ true → length vs ≤ length (filter other vs) → suc (length vs) ≤ length (cond t (v ∷ filter other vs) (filter other vs))
    by true is rest = omega (arith, rest)
    by false is rest = cc

le_true : (a b : ℕ) → a ≤ b → nat_le a b ≡ true
le_true a b le = grind (arith, nat_tests)

many_is : (members few kept : ℕ) → members < 2 * few → few ≤ kept → nat_lt members (2 * kept) ≡ true
many_is members few kept less le = grind (arith, nat_tests)

all_is : (members kept : ℕ) → 0 < members → members ≤ kept → nat_lt members (2 * kept) ≡ true
all_is members kept above le = grind (arith, nat_tests)

some_members : (vs : List ℕ) (v : ℕ) → Among v vs → 0 < length vs
some_members [] v i = absurd i
some_members (x ∷ vs) v i = omega arith

-- ---- a run

module _ (c : Cluster) (usage : Usage) (cuts : Cuts) (first : Meanings) (events : List Happening) (fits : Fits usage events) (g : GroupId) (n : ℕ) (calm : IsCalmAt c (run_of c cuts first events) g n) where
  abbrev now : Standing
  now = run_of c cuts first events

  abbrev log : List Content
  log = log_of now.tape g

  good : Good anybody c now
  good = run_good c cuts first events

  stocked : IsStocked c now g
  stocked = run_stocked c usage cuts first events fits g calm.calm

  free : IsFree now g n
  free = run_free c cuts first events g n calm

  -- what a voter decided is shown
  known_shows : (k : ℕ) → IsKnown c now g k → Shows now.tape g k
  known_shows k known = record { entry = known.entry; is = shown_first c now.tape good.lawful (number known.voter) g (record { 0 = k }) known.entry ((good.node known.voter).known g k known.entry known.is) }

  -- the log reaches each position through which all are known
  reaches : (t : ℕ) → ((k : ℕ) → 1 ≤ k → k ≤ t → IsKnown c now g k) → t ≤ length log
  reaches t known = log_reaches now.tape g (length now.tape) 1 t enough (λ k less. known_shows (1 + k) (known (1 + k) (omega arith) (omega (arith, less))))
    where
      enough : t ≤ length now.tape
      enough =
          let all = all_pass (is_decided now.tape g) 1 t (λ k less. ap is_there (known_shows (1 + k) (known (1 + k) (omega arith) (omega (arith, less)))).is) in
          let bound = most_decided now.tape g 1 t in
          omega (arith, all, bound)

  abbrev most_top : ℕ
  most_top = fold (λ most voter. max most (top_of (now.node voter).met g)) 0 (voters c)

  next_is : most_top + 1 ≡ n
  next_is = calm.next

  -- the log is not shorter than the greatest position that a voter accepted
  not_shorter : most_top ≤ length log
  not_shorter = elim (greatest (λ v. top_of (now.node v).met g) (voters c) 0) [
    | inl none ↦ (let is = none in omega (arith, is))
    | inr found ↦ subst (λ k. k ≤ length log) found.2 (reaches (top_of (now.node found.0).met g) (λ k low high. stocked.each found.0 k (voter_of c found.0 found.1) low high))
  ]

  -- nor longer: nothing is decided at the next position
  unshown : Shows now.tape g n → ⊥
  unshown shows = subst (In (Voted chosen.ballot shows.entry)) (sym ((good.node voter.0).made (place g n)) ∙ free.unmade voter.0) (chosen.each voter.0 voter.2)
    where
      stood : Decided now.tape g (record { 0 = n }) shows.entry
      stood = first_stands now.tape g (record { 0 = n }) shows.entry shows.is

      chosen : Chosen c (place g n) now.tape shows.entry
      chosen = decided_chosen c (place g n) now.tape good.lawful stood.node shows.entry stood.stands

      voter : (u : ℕ) × (is_voter c u ≡ true) × (chosen.test u ≡ true)
      voter = majority_voter c chosen.test chosen.majority

  not_longer : length log ≤ most_top
  not_longer = by (nat_le (length log) most_top) refl
    where
      is_most : nat_le (length log) most_top ≡ true → length log ≤ most_top
      is_most h = grind (arith, nat_tests)

      is_less : nat_le (length log) most_top ≡ false → most_top < length log
      is_less h = grind (arith, nat_tests)

      by : (t : Bool) → nat_le (length log) most_top ≡ t → length log ≤ most_top
      by true e = is_most e
      by false e = absurd (unshown (subst (Shows now.tape g) (let is = next_is in let same : 1 + most_top ≡ n = omega (arith, is) in same) (log_shows now.tape g (length now.tape) 1 most_top (is_less e))))

  behind : length log + 1 ≡ n
  behind = let a = not_longer in let b = not_shorter in let is = next_is in omega (arith, a, b, is)

  within : (v : ℕ) → is_voter c v ≡ true → top_of (now.node v).met g ≤ length log
  within v voter = let a = fold_above (λ u. top_of (now.node u).met g) (voters c) 0 v (among_voters c v voter) in let b = not_shorter in omega (arith, a, b)

  agreed : (v i : ℕ) (e : Content) → is_voter c v ≡ true → decided (now.node v).met g (i + 1) ≡ Some e → slice_get log i ≡ Some e
  agreed v i e voter is =
      log_has now.tape g (length now.tape) 1 i (let a = below_top (now.node v).met g (i + 1) e is in let b = within v voter in omega (arith, a, b))
      ∙ (ap (first_decided now.tape g) (let same : 1 + i ≡ i + 1 = omega arith in same)
      ∙ shown_first c now.tape good.lawful (number v) g (record { 0 = i + 1 }) e ((good.node v).known g (i + 1) e is))

  -- most voters accepted the last position
  most_know : (me : ℕ) → is_voter c me ≡ true → (last : ℕ) → length log ≡ last → is_majority (length (voters c)) (length (filter (knows_end now g log) (voters c))) ≡ true
  most_know me member zero is = all_is (length (voters c)) (length (filter (knows_end now g log) (voters c))) (some_members (voters c) me (among_voters c me member))
      (all_kept (knows_end now g log) (voters c) (λ v i. le_true (length log) (top_of (now.node v).met g) (omega (arith, is))))
  most_know me member (suc last) is = many_is (length (voters c)) (count chosen.test (voters c)) (length (filter (knows_end now g log) (voters c))) chosen.majority
      (count_most chosen.test (knows_end now g log) (voters c) (λ v i passes. le_true (length log) (top_of (now.node v).met g)
      (subst (λ k. k ≤ top_of (now.node v).met g) (sym is) (vote_top (now.node v).met g (suc last) chosen.ballot shows.entry
      (subst (In (Voted chosen.ballot shows.entry)) (sym ((good.node v).made (place g (suc last)))) (chosen.each v passes))))))
    where
      shows : Shows now.tape g (suc last)
      shows = subst (Shows now.tape g) (let same : 1 + last ≡ suc last = omega arith in same) (log_shows now.tape g (length now.tape) 1 last (omega (arith, is)))

      stood : Decided now.tape g (record { 0 = suc last }) shows.entry
      stood = first_stands now.tape g (record { 0 = suc last }) shows.entry shows.is

      chosen : Chosen c (place g (suc last)) now.tape shows.entry
      chosen = decided_chosen c (place g (suc last)) now.tape good.lawful stood.node shows.entry stood.stands

  -- and so does a node at which the group is valid
  valid_knows : (me : ℕ) → length c.nodes ≤ 9 → c.cells ≤ 5 → is_full c me ≡ true → valid_at c (now.node me).met g ≡ true → (last : ℕ) → length log ≡ last → length log ≤ top_of (now.node me).met g
  valid_knows me few five full valid zero is = omega (arith, is)
  valid_knows me few five full valid (suc last) is = subst (λ k. k ≤ top_of (now.node me).met g) (sym is)
      (run_fresh c first events now.tape few five (record { cuts = cuts; tape_is = refl }) calm.safe me full ((calm.calm).all_up me (full_node c me full)) g valid (record { 0 = suc last }) shows.entry stood.node stood.stands)
    where
      shows : Shows now.tape g (suc last)
      shows = subst (Shows now.tape g) (let same : 1 + last ≡ suc last = omega arith in same) (log_shows now.tape g (length now.tape) 1 last (omega (arith, is)))

      stood : Decided now.tape g (record { 0 = suc last }) shows.entry
      stood = first_stands now.tape g (record { 0 = suc last }) shows.entry shows.is

  -- it is ready, where its leader is a voter
  pub run_ready : (me leader : ℕ) → length c.nodes ≤ 9 → c.cells ≤ 5 → is_full c me ≡ true → leader_behind c log (length log) ≡ Some leader → is_voter c leader ≡ true → IsReady c now me g log
  run_ready me leader few five full leads votes = record {
    agreed = λ v i e voter is. agreed v i e voter is;
    within = λ v voter. within v voter;
    known = most_know me (full_votes c me full) (length log) refl;
    valid = λ valid. valid_knows me few five full valid (length log) refl;
    unmade = λ v voter. subst (λ k. acts_met (now.node v).met g k ≡ []) (sym behind) (free.unmade v);
    undecided = λ v node. subst (λ k. decided (now.node v).met g k ≡ None) (sym behind) (free.undecided v);
    leader = leader;
    leads = leads;
    leader_votes = votes;
  }

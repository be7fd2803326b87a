-- Where a run stands calm, the log of a node that reaches through the position below the next is the whole log of its group.
use Rattle.std.proofs.Common.{◌≡◌, ℕ, zero, suc, ◌+◌, ◌≤◌, ◌<◌, nat_le, Bool, true, false, List, [], ◌∷◌, length, take, Option, Some, None, refl, ap, ◌∙◌, subst, arith}
use Rattle.std.proofs.lemmas.Bool.Decides.{nat_tests}
use Rattle.mega_base.specs.declared.names.GroupId.{GroupId}
use Rattle.mega_cluster.specs.declared.cluster.Cluster.{Cluster}
use Rattle.mega_entry.specs.declared.content.Content.{Content}
use Rattle.mega_handler.specs.Named.{Meanings}
use Rattle.mega_wal.specs.Acceptor.{Voted}
use Rattle.mega_leased_laws.specs.of_run_laws.of_tape_laws.of_promises.of_transcript.declared.item.Item.{Item}
use Rattle.mega_leased_laws.specs.of_run_laws.of_tape_laws.of_promises.of_rules.Logs.{decided, log_of as log_at, prefix_of}
use Rattle.mega_leased_laws.specs.of_run_laws.of_tape_laws.of_promises.of_rules.Members.{is_voter}
use Rattle.mega_leased_laws.specs.of_run_laws.of_tape_laws.of_promises.Calm.{IsCalmAt}
use Rattle.mega_leased_laws.specs.of_run_laws.of_tape_laws.of_promises.Promises.{first_decided, log_from, log_of, then_more as then_shown}
use Rattle.mega_leased_laws.specs.of_run_laws.of_tape_laws.of_promises.Runs.{Cuts, Happening, Standing, goes_on, opening}
use Rattle.mega_leased_laws.proofs.of_run_laws.Owned.{Users, entry_at}
use Rattle.mega_leased_laws.proofs.of_run_laws.Standing.{Good}
use Rattle.mega_leased_laws.specs.of_run_laws.of_tape_laws.Chosen.{Chosen}
use Rattle.mega_leased_laws.specs.of_run_laws.of_tape_laws.Places.{In}
use Rattle.mega_leased_laws.specs.of_run_laws.of_tape_laws.Writes.{IsFront, Knows}
use Rattle.mega_leased_laws.proofs.of_run_laws.of_tape_laws.Agreement.{decided_chosen}
use Rattle.mega_leased_laws.proofs.of_run_laws.of_tape_laws.Complete.{known_is_front}
use Rattle.mega_leased_laws.proofs.of_run_laws.of_tape_laws.Logs.{Decided, first_stands}
use Rattle.mega_calm_laws.proofs.Freeing.{Unspoken, acts_none}
use Rattle.mega_calm_laws.proofs.Standings.{anybody, run_good}
use Rattle.mega_calm_laws.proofs.Stocking.{majority_voter, place}

-- each position of the log of a tape is decided on it
pub record Shows (tape : List Item) (g : GroupId) (n : ℕ) : Type 0 where
  pub entry : Content
  pub is : first_decided tape g n ≡ Some entry

pub log_shows : (tape : List Item) (g : GroupId) (most n k : ℕ) → k < length (log_from tape g most n) → Shows tape g (n + k)
log_shows tape g zero n k less = absurd (omega (arith, less))
log_shows tape g (suc most) n k less = by (first_decided tape g n) refl k less (λ j. log_shows tape g most (n + 1) j)
  where
    by : (o : Option Content) → first_decided tape g n ≡ o → (i : ℕ) → i < length (then_shown o (log_from tape g most (n + 1))) → ((j : ℕ) → j < length (log_from tape g most (n + 1)) → Shows tape g ((n + 1) + j)) → Shows tape g (n + i)
    by None is i below again = absurd (omega (arith, below))
    by (Some entry) is zero below again = record { entry = entry; is = ap (first_decided tape g) (let same : n + 0 ≡ n = omega arith in same) ∙ is }
    by (Some entry) is (suc j) below again = subst (Shows tape g) (let same : (n + 1) + j ≡ n + suc j = omega arith in same) (again j (omega (arith, below)))

take_more : {X : Type 0} (xs : List X) (k : ℕ) → length xs ≤ k → take k xs ≡ xs
take_more [] zero le = refl
take_more [] (suc k) le = refl
take_more (x ∷ xs) zero le = absurd (omega (arith, le))
take_more (x ∷ xs) (suc k) le = ap (λ l. x ∷ l) (take_more xs k (omega (arith, le)))

module _ (users : Users) (c : Cluster) (now : Standing) (good : Good users c now) (g : GroupId) (me : ℕ) (quiet : Unspoken g (prefix_of (now.node me).met g + 1) now.tape) where
  knows : Knows now.tape me g (log_at (now.node me).met g)
  knows k d is = (good.node me).known g (suc k) d (ap (decided (now.node me).met g) (let same : suc k ≡ 1 + k = omega arith in same) ∙ entry_at (now.node me).met g (length (now.node me).met) 1 k d is)

  front : IsFront (log_of now.tape g) (log_at (now.node me).met g)
  front = known_is_front c now.tape good.lawful me g (log_at (now.node me).met g) knows

  -- nothing is decided at the position behind
  unshown : Shows now.tape g (prefix_of (now.node me).met g + 1) → ⊥
  unshown shows = subst (In (Voted chosen.ballot shows.entry)) (acts_none c g (prefix_of (now.node me).met g + 1) now.tape good.lawful quiet voter.0) (chosen.each voter.0 voter.2)
    where
      stood : Decided now.tape g (record { 0 = prefix_of (now.node me).met g + 1 }) shows.entry
      stood = first_stands now.tape g (record { 0 = prefix_of (now.node me).met g + 1 }) shows.entry shows.is

      chosen : Chosen c (place g (prefix_of (now.node me).met g + 1)) now.tape shows.entry
      chosen = decided_chosen c (place g (prefix_of (now.node me).met g + 1)) now.tape good.lawful stood.node shows.entry stood.stands

      voter : (u : ℕ) × (is_voter c u ≡ true) × (chosen.test u ≡ true)
      voter = majority_voter c chosen.test chosen.majority

  no_longer : length (log_of now.tape g) ≤ prefix_of (now.node me).met g
  no_longer = by (nat_le (length (log_of now.tape g)) (prefix_of (now.node me).met g)) refl
    where
      is_most : nat_le (length (log_of now.tape g)) (prefix_of (now.node me).met g) ≡ true → length (log_of now.tape g) ≤ prefix_of (now.node me).met g
      is_most h = grind (arith, nat_tests)

      is_less : nat_le (length (log_of now.tape g)) (prefix_of (now.node me).met g) ≡ false → prefix_of (now.node me).met g < length (log_of now.tape g)
      is_less h = grind (arith, nat_tests)

      by : (t : Bool) → nat_le (length (log_of now.tape g)) (prefix_of (now.node me).met g) ≡ t → length (log_of now.tape g) ≤ prefix_of (now.node me).met g
      by true e = is_most e
      by false e = absurd (unshown (subst (Shows now.tape g) (let same : 1 + prefix_of (now.node me).met g ≡ prefix_of (now.node me).met g + 1 = omega arith in same) (log_shows now.tape g (length now.tape) 1 (prefix_of (now.node me).met g) (is_less e))))

  log_is_whole : log_at (now.node me).met g ≡ log_of now.tape g
  log_is_whole = front.is ∙ take_more (log_of now.tape g) (length (log_at (now.node me).met g)) no_longer

pub run_whole : (c : Cluster) (cuts : Cuts) (first : Meanings) (events : List Happening) (g : GroupId) (n me : ℕ) → IsCalmAt c (goes_on c cuts (opening c first) events) g n
    → n ≡ prefix_of ((goes_on c cuts (opening c first) events).node me).met g + 1 → log_at ((goes_on c cuts (opening c first) events).node me).met g ≡ log_of (goes_on c cuts (opening c first) events).tape g
run_whole c cuts first events g n me calm next =
    log_is_whole anybody c (goes_on c cuts (opening c first) events) (run_good c cuts first events) g me (subst (λ k. Unspoken g k (goes_on c cuts (opening c first) events).tape) next calm.unspoken)

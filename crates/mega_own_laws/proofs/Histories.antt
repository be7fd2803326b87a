-- What is read from an own history is own: what was decided, the logs, and what a voter made.
use Rattle.std.proofs.Common.{◌≡◌, ℕ, zero, suc, ◌+◌, ◌==◌, ◌&&◌, Bool, true, false, cond, List, [], ◌∷◌, length, Option, Some, None, refl, subst}
use Rattle.std.specs.List.{cons_option}
use Rattle.mega_base.specs.Codec.{IsOption}
use Rattle.mega_base.specs.declared.names.GroupId.{GroupId}
use Rattle.mega_ballot.specs.declared.ballot.Ballot.{Ballot}
use Rattle.mega_entry.specs.declared.content.Content.{Content}
use Rattle.mega_schema.specs.declared.schema.Schema.{Schema}
use Rattle.mega_wire.specs.declared.message.Body.{Body}
use Rattle.mega_wire.specs.declared.message.Body.TheVariants.{Accepted, Promise}
use Rattle.mega_wal.specs.Acceptor.{Act, Promised, Voted, Vote, best, greater_vote, is_ballot_below}
use Rattle.mega_wal.specs.Same.{same_group}
use Rattle.mega_wal.proofs.Sames.{same_group_equal}
use Rattle.mega_node_laws.specs.Own.{HasOwnRows}
use Rattle.mega_run_laws.specs.of_rules.Met.{Met, Decides, Sends, Unsends}
use Rattle.mega_run_laws.specs.of_rules.Logs.{decided, decided_from, first_of, log_of, then_more}
use Rattle.mega_run_laws.specs.of_rules.Voting.{act_if, act_in, act_made, acts, made_of}
use Rattle.mega_run_laws.specs.Justified.{Each}
use Rattle.mega_own_laws.specs.Entries.{IsOwn}
use Rattle.mega_own_laws.specs.Messages.{CarriesOwn, VoteOwn}
use Rattle.mega_own_laws.specs.Nodes.{ItemOwn, MetOwn}
use Rattle.mega_own_laws.proofs.Lists.{either}
use Rattle.mega_own_laws.proofs.Owned.{own_rows}

left : (a b : Bool) → (a && b) ≡ true → a ≡ true
left true b is = refl
left false b is = is

module _ (schema : Schema) (group : GroupId) where
  -- an entry of this group, by a test that begins with its group
  of_group : (other : GroupId) (b : Bool) (entry : Content) → (same_group other group && b) ≡ true → IsOwn schema other entry → IsOwn schema group entry
  of_group other b entry is h = subst (λ g. IsOwn schema g entry) (same_group_equal other group (left (same_group other group) b is)) h

  -- ---- what was decided

  first_own : (found : Option Content) (entry : Content) → IsOption (IsOwn schema group) found → IsOwn schema group entry → IsOption (IsOwn schema group) (first_of found entry)
  first_own None entry h e = e
  first_own (Some found) entry h e = h

  pub decided_own : (met : List Met) (n : ℕ) → MetOwn schema met → IsOption (IsOwn schema group) (decided met group n)
  decided_own [] n h = tt
  decided_own (Decides other position entry ∷ before) n h = by (same_group other group && position == n) refl (decided_own before n h.1)
    where
      by : (t : Bool) → (same_group other group && position == n) ≡ t → IsOption (IsOwn schema group) (decided before group n)
          → IsOption (IsOwn schema group) (cond t (first_of (decided before group n) entry) (decided before group n))
      by true is more = first_own (decided before group n) entry more (of_group other (position == n) entry is h.0)
      by false is more = more
  decided_own (_ ∷ before) n h = decided_own before n h.1

  more_own : (found : Option Content) (more : List Content) → IsOption (IsOwn schema group) found → Each (IsOwn schema group) more → Each (IsOwn schema group) (then_more found more)
  more_own None more h e = tt
  more_own (Some entry) more h e = (h, e)

  from_own : (met : List Met) (most n : ℕ) → MetOwn schema met → Each (IsOwn schema group) (decided_from met group most n)
  from_own met zero n h = tt
  from_own met (suc most) n h = more_own (decided met group n) (decided_from met group most (n + 1)) (decided_own met n h) (from_own met most (n + 1) h)

  -- ---- what a voter made

  abbrev pub ActOwn : Act → Type 0
  ActOwn (Promised ballot report) = Unit {0}
  ActOwn (Voted ballot entry) = IsOwn schema group entry

  if_own : (t : Bool) (act : Act) → (t ≡ true → ActOwn act) → IsOption ActOwn (act_if t act)
  if_own true act h = h refl
  if_own false act h = tt

  act_own : (n : ℕ) (body : Body) → CarriesOwn schema body → IsOption ActOwn (act_in group n body)
  act_own n (Promise op other position ballot report) h = if_own (same_group other group && position.0 == n) (Promised ballot report) (λ is. tt)
  act_own n (Accepted op other position ballot entry) h = if_own (same_group other group && position.0 == n) (Voted ballot entry) (λ is. of_group other (position.0 == n) entry is h)
  act_own n _ h = tt

  made_own : (n : ℕ) (one : Met) → ItemOwn schema one → IsOption ActOwn (act_made group n (made_of one))
  made_own n (Sends m) h = act_own n m.body h
  made_own n (Unsends m) h = act_own n m.body h
  made_own n _ h = tt

  each_made : (made : Option Act) (acts : List Act) → IsOption ActOwn made → Each ActOwn acts → Each ActOwn (cons_option made acts)
  each_made None acts h e = e
  each_made (Some act) acts h e = (h, e)

  pub acts_own : (met : List Met) (n : ℕ) → MetOwn schema met → Each ActOwn (acts met group n)
  acts_own [] n h = tt
  acts_own (one ∷ met) n h = each_made (act_made group n (made_of one)) (acts met group n) (made_own n one h.0) (acts_own met n h.1)

  greater_own : (a : Option Vote) (ballot : Ballot) (entry : Content) → VoteOwn schema group a → IsOwn schema group entry → VoteOwn schema group (greater_vote a ballot entry)
  greater_own None ballot entry h e = e
  greater_own (Some vote) ballot entry h e = either (VoteOwn schema group) (is_ballot_below ballot vote.0) (Some vote) (Some (ballot, entry)) h e

  pub best_own : (made : List Act) → Each ActOwn made → VoteOwn schema group (best made)
  best_own [] h = tt
  best_own (Promised ballot report ∷ before) h = best_own before h.1
  best_own (Voted ballot entry ∷ before) h = greater_own (best before) ballot entry (best_own before h.1) h.0

-- so the rows of each group's log are its own
pub met_owns : (schema : Schema) (met : List Met) → MetOwn schema met → HasOwnRows schema (log_of met)
met_owns schema met h = own_rows schema (log_of met) (λ group. from_own schema group met (length met) 1 h)

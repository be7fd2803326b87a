-- What was met says the same as its journal.
use Rattle.std.proofs.Common.{◌≡◌, ℕ, ◌==◌, ◌&&◌, Bool, true, false, cond, max, List, [], ◌∷◌, Option, Some, None, refl, sym, ap, ◌∙◌, arith}
use Rattle.std.specs.List.{cons_option}
use Rattle.mega_base.specs.declared.names.GroupId.{GroupId}
use Rattle.mega_base.specs.declared.names.Position.{Position}
use Rattle.mega_ballot.specs.declared.ballot.Ballot.{Ballot}
use Rattle.mega_entry.specs.declared.content.Content.{Content}
use Rattle.mega_wire.specs.declared.message.Body.{Body}
use Rattle.mega_wire.specs.declared.message.Body.TheVariants.{Accepted, Promise as PromiseBody}
use Rattle.mega_wal.specs.declared.item.JournalItem.{JournalItem}
use Rattle.mega_wal.specs.declared.item.JournalItem.TheVariants.{Promise, Accept}
use Rattle.mega_wal.specs.Same.{same_group}
use Rattle.mega_wal.specs.Acceptor.{Promised, Voted, best}
use Rattle.mega_wal.specs.History.{acts_of, after_grant, after_lapse, decided_of, granted_of, is_place}
use Rattle.mega_wal.specs.History.{first_of as kept_first, newest_of as kept_newest, top_of as kept_top}
use Rattle.mega_wal.proofs.Steps.{place_is}
use Rattle.mega_rules.specs.Met.{Met, Sends, Unsends, Grants, Lapses, Decides}
use Rattle.mega_rules.specs.Voting.{act_if, act_in, acts}
use Rattle.mega_rules.specs.Logs.{accepted_at, decided, first_of, newest_of, top_of}
use Rattle.mega_rules.specs.Locks.{last_grant}
use Rattle.mega_voter.specs.Journal.{item_in, journal_of}
use Rattle.mega_voter.specs.Telling.{AreHonest, IsHonest}

-- ---- votes
made_is : (met : List Met) (body : Body) → IsHonest met body → ((group : GroupId) (n : ℕ) → acts_of (journal_of met) group n ≡ acts met group n)
    → (group : GroupId) (n : ℕ) → acts_of (cons_option (item_in body) (journal_of met)) group n ≡ cons_option (act_in group n body) (acts met group n)
made_is met (PromiseBody op other position ballot report) honest rest group n = go (is_place other position group n) refl
  where
    reports : is_place other position group n ≡ true → best (acts_of (journal_of met) group n) ≡ report
    reports e = let is = place_is other group position n e in ap best (rest group n) ∙ (sym (λ i. best (acts met (is.0 i) (is.1 i))) ∙ sym honest)

    go : (t : Bool) → is_place other position group n ≡ t
        → cond t (Promised ballot (best (acts_of (journal_of met) group n)) ∷ acts_of (journal_of met) group n) (acts_of (journal_of met) group n)
        ≡ cons_option (act_if t (Promised ballot report)) (acts met group n)
    go true e = λ i. Promised ballot (reports e i) ∷ rest group n i
    go false e = rest group n
made_is met (Accepted op other position ballot entry) honest rest group n = voted_is (is_place other position group n) (rest group n)
  where
    voted_is : (t : Bool) → acts_of (journal_of met) group n ≡ acts met group n
        → cond t (Voted ballot entry ∷ acts_of (journal_of met) group n) (acts_of (journal_of met) group n) ≡ cons_option (act_if t (Voted ballot entry)) (acts met group n)
    voted_is true same = ap (λ made. Voted ballot entry ∷ made) same
    voted_is false same = same
made_is met _ honest rest group n = rest group n

pub acts_is : (met : List Met) → AreHonest met → (group : GroupId) (n : ℕ) → acts_of (journal_of met) group n ≡ acts met group n
acts_is [] honest group n = refl
acts_is (Sends message ∷ met) honest group n = made_is met message.body honest.0 (acts_is met honest.1) group n
acts_is (Unsends message ∷ met) honest group n = made_is met message.body honest.0 (acts_is met honest.1) group n
acts_is (_ ∷ met) honest group n = acts_is met honest.1 group n

-- ---- what promises and votes do not change
silent : {X : Type 0} (said : List JournalItem → X)
    → ((group : GroupId) (position : Position) (ballot : Ballot) (items : List JournalItem) → said (Promise group position ballot ∷ items) ≡ said items)
    → ((group : GroupId) (position : Position) (ballot : Ballot) (entry : Content) (items : List JournalItem) → said (Accept group position ballot entry ∷ items) ≡ said items)
    → (body : Body) (items : List JournalItem) → said (cons_option (item_in body) items) ≡ said items
silent said promise accept (PromiseBody op group position ballot report) items = promise group position ballot items
silent said promise accept (Accepted op group position ballot entry) items = accept group position ballot entry items
silent said promise accept _ items = refl

-- ---- decisions
first_is : (decided : Option Content) (entry : Content) → kept_first decided entry ≡ first_of decided entry
first_is None entry = refl
first_is (Some decided) entry = refl

not_decided : (body : Body) (items : List JournalItem) (group : GroupId) (n : ℕ) → decided_of (cons_option (item_in body) items) group n ≡ decided_of items group n
not_decided body items group n = silent (λ items. decided_of items group n) (λ g p b before. refl) (λ g p b e before. refl) body items

pub decided_is : (met : List Met) (group : GroupId) (n : ℕ) → decided_of (journal_of met) group n ≡ decided met group n
decided_is [] group n = refl
decided_is (Sends message ∷ met) group n = not_decided message.body (journal_of met) group n ∙ decided_is met group n
decided_is (Unsends message ∷ met) group n = not_decided message.body (journal_of met) group n ∙ decided_is met group n
decided_is (Decides other position entry ∷ met) group n = go (same_group other group && position == n) (decided_is met group n)
  where
    go : (t : Bool) → decided_of (journal_of met) group n ≡ decided met group n
        → cond t (kept_first (decided_of (journal_of met) group n) entry) (decided_of (journal_of met) group n) ≡ cond t (first_of (decided met group n) entry) (decided met group n)
    go true same = ap (λ o. kept_first o entry) same ∙ first_is (decided met group n) entry
    go false same = same
decided_is (_ ∷ met) group n = decided_is met group n

-- ---- the greatest positions
not_newest : (body : Body) (items : List JournalItem) (group : GroupId) → kept_newest (cons_option (item_in body) items) group ≡ kept_newest items group
not_newest body items group = silent (λ items. kept_newest items group) (λ g p b before. refl) (λ g p b e before. refl) body items

pub newest_is : (met : List Met) (group : GroupId) → kept_newest (journal_of met) group ≡ newest_of met group
newest_is [] group = refl
newest_is (Sends message ∷ met) group = not_newest message.body (journal_of met) group ∙ newest_is met group
newest_is (Unsends message ∷ met) group = not_newest message.body (journal_of met) group ∙ newest_is met group
newest_is (Decides other position entry ∷ met) group = go (same_group other group) (newest_is met group)
  where
    go : (t : Bool) → kept_newest (journal_of met) group ≡ newest_of met group
        → cond t (max (kept_newest (journal_of met) group) position) (kept_newest (journal_of met) group) ≡ cond t (max position (newest_of met group)) (newest_of met group)
    go true same = omega arith
    go false same = same
newest_is (_ ∷ met) group = newest_is met group

made_top : (body : Body) (items : List JournalItem) (group : GroupId) (top : ℕ) → kept_top items group ≡ top → kept_top (cons_option (item_in body) items) group ≡ max (accepted_at group body) top
made_top (Accepted op other position ballot entry) items group top same = go (same_group other group)
  where
    go : (t : Bool) → cond t (max (kept_top items group) position.0) (kept_top items group) ≡ max (cond t position.0 0) top
    go true = omega arith
    go false = omega arith
made_top _ items group top same = omega arith

pub top_is : (met : List Met) (group : GroupId) → kept_top (journal_of met) group ≡ top_of met group
top_is [] group = refl
top_is (Sends message ∷ met) group = made_top message.body (journal_of met) group (top_of met group) (top_is met group)
top_is (Unsends message ∷ met) group = made_top message.body (journal_of met) group (top_of met group) (top_is met group)
top_is (Decides other position entry ∷ met) group = go (same_group other group) (top_is met group)
  where
    go : (t : Bool) → kept_top (journal_of met) group ≡ top_of met group
        → cond t (max (kept_top (journal_of met) group) position) (kept_top (journal_of met) group) ≡ cond t (max position (top_of met group)) (top_of met group)
    go true same = omega arith
    go false same = same
top_is (_ ∷ met) group = top_is met group

-- ---- grants
not_granted : (body : Body) (items : List JournalItem) (node : ℕ) → granted_of (cons_option (item_in body) items) node ≡ granted_of items node
not_granted body items node = silent (λ items. granted_of items node) (λ g p b before. refl) (λ g p b e before. refl) body items

pub granted_is : (met : List Met) (node : ℕ) → granted_of (journal_of met) node ≡ last_grant met node
granted_is [] node = refl
granted_is (Sends message ∷ met) node = not_granted message.body (journal_of met) node ∙ granted_is met node
granted_is (Unsends message ∷ met) node = not_granted message.body (journal_of met) node ∙ granted_is met node
granted_is (Grants other epoch ∷ met) node = go (other == node) (granted_is met node)
  where
    go : (t : Bool) → granted_of (journal_of met) node ≡ last_grant met node
        → cond t (after_grant (granted_of (journal_of met) node) epoch) (granted_of (journal_of met) node) ≡ cond t (after_grant (last_grant met node) epoch) (last_grant met node)
    go true same = ap (λ o. after_grant o epoch) same
    go false same = same
granted_is (Lapses other epoch ∷ met) node = go (other == node) (granted_is met node)
  where
    go : (t : Bool) → granted_of (journal_of met) node ≡ last_grant met node
        → cond t (after_lapse (granted_of (journal_of met) node) epoch) (granted_of (journal_of met) node) ≡ cond t (after_lapse (last_grant met node) epoch) (last_grant met node)
    go true same = ap (λ o. after_lapse o epoch) same
    go false same = same
granted_is (_ ∷ met) node = granted_is met node

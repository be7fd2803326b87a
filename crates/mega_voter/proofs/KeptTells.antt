-- What is kept tells what was met: what its readers say, and one thing more that was met.
use Rattle.std.proofs.Common.{◌≡◌, ◌↔◌, ℕ, ◌+◌, ◌-◌, ◌<◌, ◌≤◌, min, Bool, true, false, cond, List, [], ◌∷◌, ◌++◌, Option, None, is_none, All, refl, sym, ap, subst, ◌∙◌, arith}
use Rattle.std.specs.List.{cons_option}
use Rattle.std.proofs.lemmas.List.Elements.{All-cons, All-nil}
use Rattle.mega_base.specs.declared.names.Epoch.{Epoch}
use Rattle.mega_base.specs.declared.names.GroupId.{GroupId}
use Rattle.mega_base.specs.declared.names.NodeId.{NodeId}
use Rattle.mega_base.specs.declared.names.OpId.{OpId}
use Rattle.mega_base.specs.declared.names.Position.{Position}
use Rattle.mega_ballot.specs.declared.ballot.Ballot.{Ballot}
use Rattle.mega_entry.specs.declared.content.Content.{Content}
use Rattle.mega_wire.specs.declared.message.Message.{Message}
use Rattle.mega_wire.specs.declared.message.Body.{Body}
use Rattle.mega_wire.specs.declared.message.Body.TheVariants.{Accepted, Promise as PromiseBody}
use Rattle.mega_wire.specs.Messages.{IsBody}
use Rattle.mega_wal.specs.declared.answers.Promised.{Promised as PromiseAnswer}
use Rattle.mega_wal.specs.declared.answers.Promised.TheVariants as promise
use Rattle.mega_wal.specs.declared.answers.Voted.{Voted as AcceptAnswer}
use Rattle.mega_wal.specs.declared.answers.Voted.TheVariants as vote
use Rattle.mega_wal.specs.declared.item.JournalItem.{JournalItem}
use Rattle.mega_wal.specs.declared.item.JournalItem.TheVariants.{Start, Promise, Accept, Decide, Grant, Lapse, Starts as Counted}
use Rattle.mega_wal.specs.declared.kept.Kept.{Kept}
use Rattle.mega_wal.specs.Acceptor.{Vote, accept_answer, best, promise_answer, shown}
use Rattle.mega_wal.specs.History.{AreDecided, Granted, acts_of, by_accept, by_decide, by_promise, decided_of, granted_of, newest_of as kept_newest, prefix_of as kept_prefix, starts_at_most, starts_of, top_of as kept_top}
use Rattle.mega_wal.specs.Items.{IsItem}
use Rattle.mega_wal.specs.Kept.{Represents}
use Rattle.mega_rules.specs.Met.{Met, Starts, Sends, Unsends, Grants, Lapses, Decides}
use Rattle.mega_rules.specs.Clock.{start_of}
use Rattle.mega_rules.specs.Voting.{acts}
use Rattle.mega_rules.specs.Logs.{decided, groups_of, newest_of, prefix_of, top_of}
use Rattle.mega_rules.specs.Locks.{last_grant}
use Rattle.mega_voter.specs.Journal.{item_in, item_of, items_in, journal_of}
use Rattle.mega_voter.specs.Telling.{IsAnswer, IsHonest, MayFollow, Tells}
use Rattle.mega_voter.proofs.Folds.{acts_is, decided_is, granted_is, newest_is, top_is}
use Rattle.mega_voter.proofs.Prefixes.{prefix_is}
use Rattle.mega_voter.proofs.Grouped.{groups_is}
use Rattle.mega_voter.proofs.Answered.{accepted_is, answers_honest, promised_is}

-- ---- what is read of each history that is kept, is read of what was met
pub shown_told : (kept : Kept) (ballot : Ballot) (group : GroupId) (n : ℕ) → ((items : List JournalItem) → Represents kept items → ballot ≡ shown (acts_of items group n))
    → (met : List Met) → Tells kept met → ballot ≡ shown (acts met group n)
shown_told kept ballot group n read met told = read (journal_of met) told.journal ∙ ap shown (acts_is met told.honest group n)

pub best_told : (kept : Kept) (vote : Option Vote) (group : GroupId) (n : ℕ) → ((items : List JournalItem) → Represents kept items → vote ≡ best (acts_of items group n))
    → (met : List Met) → Tells kept met → vote ≡ best (acts met group n)
best_told kept vote group n read met told = read (journal_of met) told.journal ∙ ap best (acts_is met told.honest group n)

pub decided_told : (kept : Kept) (entry : Option Content) (group : GroupId) (n : ℕ) → ((items : List JournalItem) → Represents kept items → entry ≡ decided_of items group n)
    → (met : List Met) → Tells kept met → entry ≡ decided met group n
decided_told kept entry group n read met told = read (journal_of met) told.journal ∙ decided_is met group n

pub top_told : (kept : Kept) (top : ℕ) (group : GroupId) → ((items : List JournalItem) → Represents kept items → top ≡ kept_top items group)
    → (met : List Met) → Tells kept met → top ≡ top_of met group
top_told kept top group read met told = read (journal_of met) told.journal ∙ top_is met group

pub newest_told : (kept : Kept) (newest : ℕ) (group : GroupId) → ((items : List JournalItem) → Represents kept items → newest ≡ kept_newest items group)
    → (met : List Met) → Tells kept met → newest ≡ newest_of met group
newest_told kept newest group read met told = read (journal_of met) told.journal ∙ newest_is met group

pub prefix_told : (kept : Kept) (prefix : ℕ) (group : GroupId) → ((items : List JournalItem) → Represents kept items → prefix ≡ kept_prefix items group)
    → (met : List Met) → Tells kept met → prefix ≡ prefix_of met group
prefix_told kept prefix group read met told = read (journal_of met) told.journal ∙ prefix_is met group

pub granted_told : (kept : Kept) (granted : Option Granted) (node : ℕ) → ((items : List JournalItem) → Represents kept items → granted ≡ granted_of items node)
    → (met : List Met) → Tells kept met → granted ≡ last_grant met node
granted_told kept granted node read met told = read (journal_of met) told.journal ∙ granted_is met node

pub groups_told : (kept : Kept) (groups : List GroupId) → ((items : List JournalItem) → Represents kept items → AreDecided items groups)
    → (met : List Met) → Tells kept met → groups ≡ groups_of met
groups_told kept groups read met told = groups_is met told.honest groups (read (journal_of met) told.journal)

-- ---- the same is kept
pub still_told : (old new : Kept) → ((items : List JournalItem) → Represents old items → Represents new items) → (met : List Met) → Tells old met → Tells new met
still_told old new keeps met told = record {
  journal = keeps (journal_of met) told.journal;
  honest = told.honest;
  start = (keeps (journal_of met) told.journal).starts ∙ (sym told.journal.starts ∙ told.start);
}

-- what represents one history represents each other one that says the same
same_history : (old new : Kept) (items : List JournalItem) → Represents old items → Represents new items → (others : List JournalItem) → Represents old others → Represents new others
same_history old new items before after others told = record {
  groups = record {
    slots = λ group n. after.groups.slots group n ∙ (sym (before.groups.slots group n) ∙ told.groups.slots group n);
    marks = λ group. after.groups.marks group ∙ (sym (before.groups.marks group) ∙ told.groups.marks group);
  };
  granted = λ node. after.granted node ∙ (sym (before.granted node) ∙ told.granted node);
  starts = after.starts ∙ (sym before.starts ∙ told.starts);
}

pub reopened_told : (old new : Kept) (items : List JournalItem) (met : List Met) → Represents old items → Represents new items → Tells old met → Tells new met
reopened_told old new items met before after = still_told old new (same_history old new items before after) met

-- ---- one thing more
noted_told : (old new : Kept) (met : List Met) (one : Met) → Tells old met → MayFollow met one → Represents new (journal_of (one ∷ met))
    → starts_of (journal_of (one ∷ met)) ≡ starts_of (journal_of met) → start_of (one ∷ met) ≡ start_of met → Tells new (one ∷ met)
noted_told old new met one told follows represents starts start = record {
  journal = represents;
  honest = (follows, told.honest);
  start = represents.starts ∙ (starts ∙ (sym told.journal.starts ∙ (told.start ∙ sym start)));
}

no_start : (body : Body) (items : List JournalItem) → starts_of (cons_option (item_in body) items) ≡ starts_of items
no_start (PromiseBody op group position ballot report) items = refl
no_start (Accepted op group position ballot entry) items = refl
no_start _ items = refl

-- a start, as one more start that is counted
started : (kept : Kept) (items : List JournalItem) (one : ℕ) → one ≡ 1 → Represents kept (Start ∷ items) → Represents kept (Counted one ∷ items)
started kept items one is told = record {
  groups = record { slots = told.groups.slots; marks = told.groups.marks };
  granted = told.granted;
  starts = told.starts ∙ ap (λ n. starts_at_most (starts_of items + n)) (sym is);
}

pub begun_told : (old new : Kept) → old.starts < 4294967295 → ((items : List JournalItem) → Represents old items → Represents new (Start ∷ items))
    → (met : List Met) → Tells old met → Tells new (Starts (start_of met + 1) ∷ met)
begun_told old new few notes met told =
    let after = notes (journal_of met) told.journal in
    let counted : starts_of (journal_of met) ≡ start_of met = sym told.journal.starts ∙ told.start in
    let below : start_of met < 4294967295 = subst (λ n. n < 4294967295) told.start few in
    record {
      journal = started new (journal_of met) (start_of met + 1 - start_of met) (one_more (start_of met)) after;
      honest = (no_lower (start_of met), told.honest);
      start = after.starts ∙ (ap (λ n. min (n + 1) 4294967295) counted ∙ least (start_of met) below);
    }
  where
    least : (n : ℕ) → n < 4294967295 → min (n + 1) 4294967295 ≡ n + 1
    least n lt = omega arith

    one_more : (n : ℕ) → n + 1 - n ≡ 1
    one_more n = omega arith

    no_lower : (n : ℕ) → n ≤ n + 1
    no_lower n = omega arith

pub granting_told : (old new : Kept) (node : NodeId) (epoch : Epoch) → ((items : List JournalItem) → Represents old items → Represents new (Grant node epoch ∷ items))
    → (met : List Met) → Tells old met → Tells new (Grants node.0 epoch ∷ met)
granting_told old new node epoch notes met told = noted_told old new met (Grants node.0 epoch) told tt (notes (journal_of met) told.journal) refl refl

pub lapsing_told : (old new : Kept) (node : NodeId) (epoch : Epoch) → ((items : List JournalItem) → Represents old items → Represents new (Lapse node epoch ∷ items))
    → (met : List Met) → Tells old met → Tells new (Lapses node.0 epoch ∷ met)
lapsing_told old new node epoch notes met told = noted_told old new met (Lapses node.0 epoch) told tt (notes (journal_of met) told.journal) refl refl

pub deciding_told : (old new : Kept) (is_new : Bool) (group : GroupId) (position : Position) (entry : Content)
    → ((items : List JournalItem) → Represents old items → Represents new (by_decide is_new (Decide group position entry) ++ items))
    → (met : List Met) → 0 < position.0 → Tells old met → Tells new (cond is_new (Decides group position.0 entry ∷ met) met)
deciding_told old new true group position entry notes met above told = noted_told old new met (Decides group position.0 entry) told above (notes (journal_of met) told.journal) refl refl
deciding_told old new false group position entry notes met above told = still_told old new notes met told

pub first_told : (kept : Kept) (is_new : Bool) (group : GroupId) (n : ℕ) → ((items : List JournalItem) → Represents kept items → is_new ≡ is_none (decided_of items group n))
    → (met : List Met) → Tells kept met → is_new ≡ is_none (decided met group n)
first_told kept is_new group n read met told = read (journal_of met) told.journal ∙ ap is_none (decided_is met group n)

-- ---- what is of no journal kind
silent_honest : (met : List Met) (body : Body) → item_in body ≡ None → IsHonest met body
silent_honest met (PromiseBody op group position ballot report) none = absurd (cc)
silent_honest met _ none = tt

pub silent_follows : (met : List Met) (one : Met) → item_of met one ≡ None → MayFollow met one
silent_follows met (Starts start) none = absurd (cc)
silent_follows met (Sends message) none = silent_honest met message.body none
silent_follows met (Unsends message) none = silent_honest met message.body none
silent_follows met (Decides group position entry) none = absurd (cc)
silent_follows met _ none = tt

pub silent_start : (met : List Met) (one : Met) → item_of met one ≡ None → start_of (one ∷ met) ≡ start_of met
silent_start met (Starts start) none = absurd (cc)
silent_start met _ none = refl

pub silent_journal : (met : List Met) (one : Met) → item_of met one ≡ None → journal_of (one ∷ met) ≡ journal_of met
silent_journal met one none = ap (λ item. cons_option item (journal_of met)) none

pub silent_told : (kept : Kept) (met : List Met) (one : Met) → item_of met one ≡ None → Tells kept met ↔ Tells kept (one ∷ met)
silent_told kept met one none = (more, less)
  where
    more : Tells kept met → Tells kept (one ∷ met)
    more told = record {
      journal = subst (Represents kept) (sym (silent_journal met one none)) told.journal;
      honest = (silent_follows met one none, told.honest);
      start = told.start ∙ sym (silent_start met one none);
    }

    less : Tells kept (one ∷ met) → Tells kept met
    less told = record {
      journal = subst (Represents kept) (silent_journal met one none) told.journal;
      honest = told.honest.1;
      start = told.start ∙ silent_start met one none;
    }

pub unsent_told : (kept : Kept) (met : List Met) (message : Message) → Tells kept (Sends message ∷ met) ↔ Tells kept (Unsends message ∷ met)
unsent_told kept met message = (
  λ told. record { journal = told.journal; honest = told.honest; start = told.start },
  λ told. record { journal = told.journal; honest = told.honest; start = told.start },
)

-- ---- what is sent
sending_told : (old new : Kept) (met : List Met) (message : Message) → IsAnswer met message.body → Tells old met → Represents new (cons_option (item_in message.body) (journal_of met)) → Tells new (Sends message ∷ met)
sending_told old new met message answers told represents = noted_told old new met (Sends message) told (answers_honest met message.body answers) represents (no_start message.body (journal_of met)) refl

promised_yes : (old : Kept) (answer : PromiseAnswer) (op : OpId) (group : GroupId) (position : Position) (ballot : Ballot) (report : Option Vote)
    → ((items : List JournalItem) → Represents old items → answer ≡ promise_answer (acts_of items group position.0) ballot)
    → (met : List Met) → IsAnswer met (PromiseBody op group position ballot report) → Tells old met → answer ≡ promise.Yes report
promised_yes old answer op group position ballot report exact met answers told =
    exact (journal_of met) told.journal
    ∙ (ap (λ made. promise_answer made ballot) (acts_is met told.honest group position.0) ∙ promised_is op group position ballot report (promise_answer (acts met group position.0) ballot) answers)

accepted_yes : (old : Kept) (answer : AcceptAnswer) (op : OpId) (group : GroupId) (position : Position) (ballot : Ballot) (entry : Content)
    → ((items : List JournalItem) → Represents old items → answer ≡ accept_answer (acts_of items group position.0) ballot entry)
    → (met : List Met) → IsAnswer met (Accepted op group position ballot entry) → Tells old met → answer ≡ vote.Yes
accepted_yes old answer op group position ballot entry exact met answers told =
    exact (journal_of met) told.journal
    ∙ (ap (λ made. accept_answer made ballot entry) (acts_is met told.honest group position.0) ∙ accepted_is op group position ballot entry (accept_answer (acts met group position.0) ballot entry) answers)

pub promise_told : (old new : Kept) (message : Message) (answer : PromiseAnswer) (op : OpId) (group : GroupId) (position : Position) (ballot : Ballot) (report : Option Vote)
    → message.body ≡ PromiseBody op group position ballot report
    → ((items : List JournalItem) → Represents old items → answer ≡ promise_answer (acts_of items group position.0) ballot)
    → ((items : List JournalItem) → Represents old items → Represents new (by_promise answer (Promise group position ballot) ++ items))
    → (met : List Met) → IsAnswer met message.body → Tells old met → Tells new (Sends message ∷ met)
promise_told old new message answer op group position ballot report is exact notes met answers told =
    sending_told old new met message answers told
    (subst (λ body. Represents new (cons_option (item_in body) (journal_of met))) (sym is)
    (subst (λ a. Represents new (by_promise a (Promise group position ballot) ++ journal_of met))
    (promised_yes old answer op group position ballot report exact met (subst (IsAnswer met) is answers) told)
    (notes (journal_of met) told.journal)))

pub accept_told : (old new : Kept) (message : Message) (answer : AcceptAnswer) (op : OpId) (group : GroupId) (position : Position) (ballot : Ballot) (entry : Content)
    → message.body ≡ Accepted op group position ballot entry
    → ((items : List JournalItem) → Represents old items → answer ≡ accept_answer (acts_of items group position.0) ballot entry)
    → ((items : List JournalItem) → Represents old items → Represents new (by_accept answer (Accept group position ballot entry) ++ items))
    → (met : List Met) → IsAnswer met message.body → Tells old met → Tells new (Sends message ∷ met)
accept_told old new message answer op group position ballot entry is exact notes met answers told =
    sending_told old new met message answers told
    (subst (λ body. Represents new (cons_option (item_in body) (journal_of met))) (sym is)
    (subst (λ a. Represents new (by_accept a (Accept group position ballot entry) ++ journal_of met))
    (accepted_yes old answer op group position ballot entry exact met (subst (IsAnswer met) is answers) told)
    (notes (journal_of met) told.journal)))

pub promise_staged : (old : Kept) (message : Message) (answer : PromiseAnswer) (op : OpId) (group : GroupId) (position : Position) (ballot : Ballot) (report : Option Vote) (before after : List JournalItem)
    → message.body ≡ PromiseBody op group position ballot report
    → ((items : List JournalItem) → Represents old items → answer ≡ promise_answer (acts_of items group position.0) ballot)
    → after ≡ before ++ by_promise answer (Promise group position ballot)
    → (met : List Met) → IsAnswer met message.body → Tells old met → after ≡ before ++ items_in message.body
promise_staged old message answer op group position ballot report before after is exact staged met answers told =
    staged
    ∙ (ap (λ a. before ++ by_promise a (Promise group position ballot)) (promised_yes old answer op group position ballot report exact met (subst (IsAnswer met) is answers) told)
    ∙ ap (λ body. before ++ items_in body) (sym is))

pub accept_staged : (old : Kept) (message : Message) (answer : AcceptAnswer) (op : OpId) (group : GroupId) (position : Position) (ballot : Ballot) (entry : Content) (before after : List JournalItem)
    → message.body ≡ Accepted op group position ballot entry
    → ((items : List JournalItem) → Represents old items → answer ≡ accept_answer (acts_of items group position.0) ballot entry)
    → after ≡ before ++ by_accept answer (Accept group position ballot entry)
    → (met : List Met) → IsAnswer met message.body → Tells old met → after ≡ before ++ items_in message.body
accept_staged old message answer op group position ballot entry before after is exact staged met answers told =
    staged
    ∙ (ap (λ a. before ++ by_accept a (Accept group position ballot entry)) (accepted_yes old answer op group position ballot entry exact met (subst (IsAnswer met) is answers) told)
    ∙ ap (λ body. before ++ items_in body) (sym is))

-- ---- what is sent is of the journal's format
pub sent_fits : (body : Body) → IsBody body → All IsItem (items_in body)
sent_fits (PromiseBody op group position ballot report) f = All-cons IsItem (Promise group position ballot) [] (f.1.0, (f.1.1.0, f.1.1.1.0)) (All-nil IsItem)
sent_fits (Accepted op group position ballot entry) f = All-cons IsItem (Accept group position ballot entry) [] f.1 (All-nil IsItem)
sent_fits _ f = All-nil IsItem

-- ---- where all begins
pub nothing_told : (kept : Kept) → Represents kept [] → Tells kept []
nothing_told kept represents = record { journal = represents; honest = tt; start = represents.starts }

-- What one voter made at a place, where the rule of an acceptor allowed each act.
use Rattle.std.proofs.Common.{◌≡◌, ◌⊎◌, inl, inr, Bool, true, false, cond, List, [], ◌∷◌, Option, Some, None, refl, sym, ap, ap₂, ◌∙◌, subst}
use Rattle.std.specs.List.{cons_option}
use Rattle.mega_ballot.specs.declared.ballot.Ballot.{Ballot}
use Rattle.mega_ballot.specs.Order.{zero_ballot}
use Rattle.mega_entry.specs.declared.content.Content.{Content}
use Rattle.mega_wal.specs.declared.answers.Promised.TheVariants as promise
use Rattle.mega_wal.specs.declared.answers.Voted.{Voted as AcceptAnswer}
use Rattle.mega_wal.specs.declared.answers.Voted.TheVariants as vote
use Rattle.mega_wal.specs.Same.{same_entry}
use Rattle.mega_wal.proofs.Sames.{same_entry_equal}
use Rattle.mega_wal.specs.Acceptor.{Act, Promised, Voted, Vote, accept_answer, answer_beside, best, greater_vote, is_ballot_below, is_same_ballot, promise_answer, shown}
use Rattle.mega_tape_laws.proofs.Ballots.{AtMost, Below, at_most_at_most, at_most_self, at_most_zero, below_at_most, below_not, below_same, clash, greater_is}
use Rattle.mega_tape_laws.specs.Places.{In}
use Rattle.mega_tape_laws.proofs.Lists.{some_is}

abbrev pub AllowedAct : List Act → Act → Type 0
AllowedAct made (Promised b report) = promise_answer made b ≡ promise.Yes report
AllowedAct made (Voted b e) = accept_answer made b e ≡ vote.Yes

abbrev pub LawfulActs : List Act → Type 0
LawfulActs [] = Unit {0}
LawfulActs (act ∷ made) = AllowedAct made act × LawfulActs made

abbrev pub ballot_of : Act → Ballot
ballot_of (Promised b report) = b
ballot_of (Voted b e) = b

-- ---- what the answers tell

promise_yes : (t : Bool) (greater : Ballot) (o report : Option Vote) → cond t (promise.Shown greater) (promise.Yes o) ≡ promise.Yes report → (t ≡ false) × (o ≡ report)
promise_yes true greater o report h = cc
promise_yes false greater o report h = (refl, cc)

accept_yes : (t same : Bool) (greater : Ballot) (o : AcceptAnswer) → cond t (vote.Shown greater) (cond same o vote.Yes) ≡ vote.Yes → (t ≡ false) × (same ≡ true → o ≡ vote.Yes)
accept_yes true same greater o h = cc
accept_yes false true greater o h = (refl, λ s. h)
accept_yes false false greater o h = (refl, λ s. cc)

beside_yes : (o : Option Vote) (e : Content) → answer_beside o e ≡ vote.Yes → (x : Vote) → o ≡ Some x → x.1 ≡ e
beside_yes None e h x k = cc
beside_yes (Some w) e h x k = go (same_entry w.1 e) refl h
  where
    go : (t : Bool) → same_entry w.1 e ≡ t → cond t vote.Yes (vote.Other w.1) ≡ vote.Yes → x.1 ≡ e
    go true s y = ap (λ (v : Vote). v.1) (sym (some_is w x k)) ∙ same_entry_equal w.1 e s
    go false s y = cc

report_is_best : (made : List Act) (b : Ballot) (report : Option Vote) → AllowedAct made (Promised b report) → best made ≡ report
report_is_best made b report h = (promise_yes (is_ballot_below b (shown made)) (shown made) (best made) report h).1

-- an act is never below what was shown, and is what is shown then
pub climbs : (made : List Act) (act : Act) → AllowedAct made act → AtMost (shown made) (ballot_of act)
climbs made (Promised b report) h = (promise_yes (is_ballot_below b (shown made)) (shown made) (best made) report h).0
climbs made (Voted b e) h = (accept_yes (is_ballot_below b (shown made)) (is_same_ballot b zero_ballot) (shown made) (answer_beside (best made) e) h).0

pub shows : (made : List Act) (act : Act) → AllowedAct made act → shown (act ∷ made) ≡ ballot_of act
shows made (Promised b report) h = greater_is (shown made) b (climbs made (Promised b report) h)
shows made (Voted b e) h = greater_is (shown made) b (climbs made (Voted b e) h)

pub act_shown : (made : List Act) → LawfulActs made → (act : Act) → In act made → AtMost (ballot_of act) (shown made)
act_shown [] l act i = absurd i
act_shown (first ∷ made) l act (inl e) = ap₂ is_ballot_below (shows made first l.0) (ap ballot_of (sym e)) ∙ at_most_self (ballot_of first)
act_shown (first ∷ made) l act (inr i) =
    subst (AtMost (ballot_of act)) (sym (shows made first l.0))
    (at_most_at_most (ballot_of act) (shown made) (ballot_of first) (act_shown made l.1 act i) (climbs made first l.0))

-- ---- a voter that will never accept at a ballot: it showed a greater one, and did not

pub record Barred (made : List Act) (b : Ballot) : Type 0 where
  pub below : Below b (shown made)
  pub without : (e : Content) → In (Voted b e) made → ⊥

barred_then : (made : List Act) (act : Act) (b : Ballot) → AllowedAct made act → Barred made b → Barred (act ∷ made) b
barred_then made act b h barred = record { below = subst (Below b) (sym (shows made act h)) passed; without = none }
  where
    passed : Below b (ballot_of act)
    passed = below_at_most b (shown made) (ballot_of act) barred.below (climbs made act h)

    none : (e : Content) → In (Voted b e) (act ∷ made) → ⊥
    none e (inl same) = below_same b (subst (Below b) (ap ballot_of same) passed)
    none e (inr i) = barred.without e i

pub barred_on : (o : Option Act) (made : List Act) → ((act : Act) → o ≡ Some act → AllowedAct made act) → (b : Ballot) → Barred made b → Barred (cons_option o made) b
barred_on None made f b h = h
barred_on (Some act) made f b h = barred_then made act b (f act refl) h

-- ---- the best vote

-- a vote that is not below a ballot
pub record Covers (o : Option Vote) (b : Ballot) : Type 0 where
  pub vote : Vote
  pub is : o ≡ Some vote
  pub at_least : AtMost b vote.0

greater_covers : (o : Option Vote) (b : Ballot) (e : Content) (d : Ballot) → AtMost d b ⊎ Covers o d → Covers (greater_vote o b e) d
greater_covers None b e d (inl h) = record { vote = (b, e); is = refl; at_least = h }
greater_covers None b e d (inr h) = let none = h.is in cc
greater_covers (Some w) b e d h = go (is_ballot_below b w.0) refl h
  where
    go : (t : Bool) → is_ballot_below b w.0 ≡ t → AtMost d b ⊎ Covers (Some w) d → Covers (cond t (Some w) (Some (b, e))) d
    go true k (inl most) = record { vote = w; is = refl; at_least = at_most_at_most d b w.0 most (below_not b w.0 k) }
    go true k (inr c) = record { vote = w; is = refl; at_least = subst (λ (x : Vote). AtMost d x.0) (sym (some_is w c.vote c.is)) c.at_least }
    go false k (inl most) = record { vote = (b, e); is = refl; at_least = most }
    go false k (inr c) = record { vote = (b, e); is = refl; at_least = at_most_at_most d w.0 b (subst (λ (x : Vote). AtMost d x.0) (sym (some_is w c.vote c.is)) c.at_least) k }

best_covers : (made : List Act) (b : Ballot) (e : Content) → In (Voted b e) made → Covers (best made) b
best_covers [] b e i = absurd i
best_covers (Promised d report ∷ made) b e (inl same) = cc
best_covers (Promised d report ∷ made) b e (inr i) = best_covers made b e i
best_covers (Voted d f ∷ made) b e (inl same) = greater_covers (best made) d f b (inl (subst (AtMost b) (sym (ap ballot_of same)) (at_most_self b)))
best_covers (Voted d f ∷ made) b e (inr i) = greater_covers (best made) d f b (inr (best_covers made b e i))

-- the best vote was made
best_in : (made : List Act) (x : Vote) → best made ≡ Some x → In (Voted x.0 x.1) made
best_in [] x h = cc
best_in (Promised d report ∷ made) x h = inr (best_in made x h)
best_in (Voted d f ∷ made) x h = go (best made) (best_in made x) h
  where
    here : Some (d, f) ≡ Some x → Voted d f ≡ Voted x.0 x.1
    here k = ap (λ (v : Vote). Voted v.0 v.1) (some_is (d, f) x k)

    by : (t : Bool) (w : Vote) → (Some w ≡ Some x → In (Voted x.0 x.1) made) → cond t (Some w) (Some (d, f)) ≡ Some x → In (Voted x.0 x.1) (Voted d f ∷ made)
    by true w earlier k = inr (earlier k)
    by false w earlier k = inl (here k)

    go : (o : Option Vote) → (o ≡ Some x → In (Voted x.0 x.1) made) → greater_vote o d f ≡ Some x → In (Voted x.0 x.1) (Voted d f ∷ made)
    go None earlier k = inl (here k)
    go (Some w) earlier k = by (is_ballot_below d w.0) w earlier k

-- ---- what a promise reports

-- each vote below the ballot promised is covered by the report
pub reported : (made : List Act) → LawfulActs made → (b : Ballot) (report : Option Vote) → In (Promised b report) made
    → (d : Ballot) (e : Content) → In (Voted d e) made → Below d b → Covers report d
reported [] l b report i d e j h = absurd i
reported (act ∷ made) l b report (inl same) d e (inl other) h = let clashing = sym same ∙ other in cc
reported (act ∷ made) l b report (inl same) d e (inr j) h =
    subst (λ o. Covers o d) (report_is_best made b report (subst (AllowedAct made) same l.0)) (best_covers made d e j)
reported (act ∷ made) l b report (inr i) d e (inl other) h =
    absurd (clash (is_ballot_below d b) h (subst (AtMost b) (ap ballot_of other) (at_most_at_most b (shown made) (ballot_of act) (act_shown made l.1 (Promised b report) i) (climbs made act l.0))))
reported (act ∷ made) l b report (inr i) d e (inr j) h = reported made l.1 b report i d e j h

-- the report is a vote that was made
pub report_in : (made : List Act) → LawfulActs made → (b : Ballot) (report : Option Vote) → In (Promised b report) made → (x : Vote) → report ≡ Some x → In (Voted x.0 x.1) made
report_in [] l b report i x h = absurd i
report_in (act ∷ made) l b report (inl same) x h = inr (best_in made x (report_is_best made b report (subst (AllowedAct made) same l.0) ∙ h))
report_in (act ∷ made) l b report (inr i) x h = inr (report_in made l.1 b report i x h)

-- a voter that promised a ballot, and reported no vote at or above a lower one, is barred from that
pub quiet : (made : List Act) → LawfulActs made → (b : Ballot) (report : Option Vote) → In (Promised b report) made
    → (d : Ballot) → Below d b → ((x : Vote) → report ≡ Some x → Below x.0 d) → Barred made d
quiet made l b report i d h less = record {
  below = below_at_most d b (shown made) h (act_shown made l (Promised b report) i);
  without = λ e j. let c = reported made l b report i d e j h in clash (is_ballot_below c.vote.0 d) (less c.vote c.is) c.at_least;
}

-- ---- ballot zero

-- a voter accepts one entry at ballot zero
pub one_at_zero : (made : List Act) → LawfulActs made → (e f : Content) → In (Voted zero_ballot e) made → In (Voted zero_ballot f) made → e ≡ f
one_at_zero [] l e f i j = absurd i
one_at_zero (act ∷ made) l e f i j = go (one_at_zero made l.1) i j
  where
    entry_is : (x y : Content) → Voted zero_ballot x ≡ Voted zero_ballot y → x ≡ y
    entry_is x y h = cc

    -- all that was made before a vote at zero was at zero, so the best vote is one, and its entry stays
    after : ((x y : Content) → In (Voted zero_ballot x) made → In (Voted zero_ballot y) made → x ≡ y) → (x y : Content) → act ≡ Voted zero_ballot x → In (Voted zero_ballot y) made → x ≡ y
    after earlier x y same k =
        let allowed : AllowedAct made (Voted zero_ballot x) = subst (AllowedAct made) same l.0 in
        let c = best_covers made zero_ballot y k in
        let stays = (accept_yes (is_ballot_below zero_ballot (shown made)) (is_same_ballot zero_ballot zero_ballot) (shown made) (answer_beside (best made) x) allowed).1 refl in
        let v : In (Voted c.vote.0 c.vote.1) made = best_in made c.vote c.is in
        let at : c.vote.0 ≡ zero_ballot = at_most_zero c.vote.0 (at_most_at_most c.vote.0 (shown made) zero_ballot (act_shown made l.1 (Voted c.vote.0 c.vote.1) v) (climbs made (Voted zero_ballot x) allowed)) in
        sym (beside_yes (best made) x stays c.vote c.is) ∙ earlier c.vote.1 y (subst (λ z. In (Voted z c.vote.1) made) at v) k

    go : ((x y : Content) → In (Voted zero_ballot x) made → In (Voted zero_ballot y) made → x ≡ y) → In (Voted zero_ballot e) (act ∷ made) → In (Voted zero_ballot f) (act ∷ made) → e ≡ f
    go earlier (inl x) (inl y) = entry_is e f (sym x ∙ y)
    go earlier (inl x) (inr k) = after earlier e f x k
    go earlier (inr k) (inl y) = sym (after earlier f e y k)
    go earlier (inr k) (inr m) = earlier e f k m

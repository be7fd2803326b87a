-- A voter that accepted nothing at a position but one entry at ballot zero accepts it; and what a node notes and sends leaves of that.
use Rattle.std.proofs.Common.{◌≡◌, ◌⊎◌, inl, inr, ℕ, ◌==◌, ◌&&◌, nat_lt, Bool, true, false, cond, List, [], ◌∷◌, flat_map, map, Option, Some, None, is_none, refl, ap, ◌∙◌}
use Rattle.std.specs.List.{cons_option}
use Rattle.mega_base.specs.declared.names.GroupId.{GroupId}
use Rattle.mega_base.specs.declared.names.OpId.{OpId}
use Rattle.mega_ballot.specs.Order.{zero_ballot}
use Rattle.mega_entry.specs.declared.content.Content.{Content}
use Rattle.mega_wire.specs.declared.message.Message.{Message}
use Rattle.mega_wire.specs.declared.message.Body.{Body}
use Rattle.mega_wire.specs.declared.message.Body.TheVariants.{Accepted, Promise}
use Rattle.mega_wal.specs.declared.answers.Voted.TheVariants as vote
use Rattle.mega_wal.specs.Acceptor.{Act, Vote, Voted, accept_answer, answer_beside, best, greater_ballot, greater_vote, is_ballot_below, is_same_ballot, shown}
use Rattle.mega_wal.specs.Same.{same_group}
use Rattle.mega_wal.proofs.Sames.{same_entry_self, same_group_self}
use Rattle.mega_leased_laws.specs.of_run_laws.of_tape_laws.of_promises.of_rules.Clock.{is_up}
use Rattle.mega_leased_laws.specs.of_run_laws.of_tape_laws.of_promises.of_rules.Logs.{decided, first_of, groups_of}
use Rattle.mega_leased_laws.specs.of_run_laws.of_tape_laws.of_promises.of_rules.Members.{has_rows}
use Rattle.mega_leased_laws.specs.of_run_laws.of_tape_laws.of_promises.of_rules.Met.{Met, Answers, Applies, Sends, Takes, Validates}
use Rattle.mega_leased_laws.specs.of_run_laws.of_tape_laws.of_promises.of_rules.Operations.{Setting}
use Rattle.mega_leased_laws.specs.of_run_laws.of_tape_laws.of_promises.of_rules.Steps.{Decision, applied_at, apply_note, apply_notes, decision_note, if_new, onto}
use Rattle.mega_leased_laws.specs.of_run_laws.of_tape_laws.of_promises.of_rules.Voting.{act_if, act_in, acts as acts_met}
use Rattle.mega_leased_laws.specs.of_run_laws.Justified.{Each}
use Rattle.mega_leased_laws.proofs.of_run_laws.Events.{each_append as each_both}
use Rattle.mega_calm_laws.proofs.Mail.{number_self}

-- ---- a voter

-- it made nothing there but this vote
abbrev pub Clean : Content → List Act → Type 0
Clean own [] = Unit {0}
Clean own (act ∷ made) = (act ≡ Voted zero_ballot own) × Clean own made

either_same : {X : Type 0} (t : Bool) (x : X) → cond t x x ≡ x
either_same true x = refl
either_same false x = refl

clean_shown : (own : Content) (made : List Act) → Clean own made → shown made ≡ zero_ballot
clean_shown own [] h = refl
clean_shown own (act ∷ made) h =
    ap (λ a. shown (a ∷ made)) h.0 ∙ (ap (λ b. greater_ballot b zero_ballot) (clean_shown own made h.1) ∙ either_same (is_ballot_below zero_ballot zero_ballot) zero_ballot)

clean_best : (own : Content) (made : List Act) → Clean own made → (best made ≡ None) ⊎ (best made ≡ Some (zero_ballot, own))
clean_best own [] h = inl refl
clean_best own (act ∷ made) h = elim (clean_best own made h.1) [
  | inl none ↦ inr (ap (λ a. best (a ∷ made)) h.0 ∙ ap (λ o. greater_vote o zero_ballot own) none)
  | inr some ↦ inr (ap (λ a. best (a ∷ made)) h.0 ∙ (ap (λ o. greater_vote o zero_ballot own) some ∙ either_same {X = Option Vote} (is_ballot_below zero_ballot zero_ballot) (Some (zero_ballot, own))))
]

pub clean_accepts : (own : Content) (made : List Act) → Clean own made → accept_answer made zero_ballot own ≡ vote.Yes
clean_accepts own made h =
    ap (λ b. cond (is_ballot_below zero_ballot b) (vote.Shown b) (cond (is_same_ballot zero_ballot zero_ballot) (answer_beside (best made) own) vote.Yes)) (clean_shown own made h)
    ∙ elim (clean_best own made h) [
      | inl none ↦ ap (λ o. answer_beside o own) none
      | inr some ↦ ap (λ o. answer_beside o own) some ∙ ap (λ t. cond t vote.Yes (vote.Other own)) (same_entry_self own)
    ]

-- ---- what a node notes

abbrev pub IsNoAct : Body → Type 0
IsNoAct (Accepted op g n b e) = ⊥
IsNoAct (Promise op g n b report) = ⊥
IsNoAct _ = Unit {0}

abbrev pub IsBland : Met → Type 0
IsBland (Applies g n) = Unit {0}
IsBland (Validates g n) = Unit {0}
IsBland (Answers op answer) = Unit {0}
IsBland (Takes m) = Unit {0}
IsBland (Sends m) = IsNoAct m.body
IsBland _ = ⊥

pub record NodeOn (g : GroupId) (n : ℕ) (base met : List Met) : Type 0 where
  pub same_decided : decided met g n ≡ decided base g n
  pub same_acts : acts_met met g n ≡ acts_met base g n
  pub same_up : is_up met ≡ is_up base

pub node_same : (g : GroupId) (n : ℕ) (met : List Met) → NodeOn g n met met
node_same g n met = record { same_decided = refl; same_acts = refl; same_up = refl }

pub node_then : (g : GroupId) (n : ℕ) (old mid new : List Met) → NodeOn g n old mid → NodeOn g n mid new → NodeOn g n old new
node_then g n old mid new a b = record { same_decided = b.same_decided ∙ a.same_decided; same_acts = b.same_acts ∙ a.same_acts; same_up = b.same_up ∙ a.same_up }

no_act : (g : GroupId) (n : ℕ) (body : Body) → IsNoAct body → act_in g n body ≡ None
no_act g n (Accepted op h p b e) none = absurd none
no_act g n (Promise op h p b report) none = absurd none
no_act g n _ none = refl

pub bland_one : (g : GroupId) (n : ℕ) (one : Met) (met : List Met) → IsBland one → NodeOn g n met (one ∷ met)
bland_one g n (Applies k p) met h = record { same_decided = refl; same_acts = refl; same_up = refl }
bland_one g n (Validates k p) met h = record { same_decided = refl; same_acts = refl; same_up = refl }
bland_one g n (Answers op answer) met h = record { same_decided = refl; same_acts = refl; same_up = refl }
bland_one g n (Takes m) met h = record { same_decided = refl; same_acts = refl; same_up = refl }
bland_one g n (Sends m) met h = record { same_decided = refl; same_acts = ap (λ o. cons_option o (acts_met met g n)) (no_act g n m.body h); same_up = refl }
bland_one g n _ met h = absurd h

pub bland_onto : (g : GroupId) (n : ℕ) (notes met : List Met) → Each IsBland notes → NodeOn g n met (onto notes met)
bland_onto g n [] met h = node_same g n met
bland_onto g n (one ∷ notes) met h = node_then g n met (one ∷ met) (onto notes (one ∷ met)) (bland_one g n one met h.0) (bland_onto g n notes (one ∷ met) h.1)

pub bland_sends : (ms : List Message) → Each (λ (m : Message). IsNoAct m.body) ms → Each IsBland (map Sends ms)
bland_sends [] h = tt
bland_sends (m ∷ ms) h = (h.0, bland_sends ms h.1)

apply_bland : (was : List Met) (was_stored : GroupId → ℕ) (met : List Met) (stored : GroupId → ℕ) (g : GroupId) → Each IsBland (apply_note was was_stored met stored g)
apply_bland was was_stored met stored g = by (nat_lt (applied_at was was_stored g) (applied_at met stored g))
  where
    by : (t : Bool) → Each IsBland (cond t (Applies g (applied_at met stored g) ∷ []) [])
    by true = (tt, tt)
    by false = tt

all_apply_bland : (was : List Met) (was_stored : GroupId → ℕ) (met : List Met) (stored : GroupId → ℕ) (gs : List GroupId) → Each IsBland (flat_map (apply_note was was_stored met stored) gs)
all_apply_bland was was_stored met stored [] = tt
all_apply_bland was was_stored met stored (g ∷ gs) =
    each_both IsBland (apply_note was was_stored met stored g) (flat_map (apply_note was was_stored met stored) gs) (apply_bland was was_stored met stored g) (all_apply_bland was was_stored met stored gs)

pub applies_bland : (s : Setting) (was : List Met) (was_stored : GroupId → ℕ) (met : List Met) (stored : GroupId → ℕ) → Each IsBland (apply_notes s was was_stored met stored)
applies_bland s was was_stored met stored = by (has_rows s.cluster s.me)
  where
    by : (t : Bool) → Each IsBland (cond t (flat_map (apply_note was was_stored met stored) (groups_of met)) [])
    by true = all_apply_bland was was_stored met stored (groups_of met)
    by false = tt

-- ---- a vote, and a decision elsewhere

-- whatever it sends leaves what it decided, and that it is up
pub sends_leave : (g : GroupId) (n : ℕ) (ms : List Message) (met : List Met) → (decided (onto (map Sends ms) met) g n ≡ decided met g n) × (is_up (onto (map Sends ms) met) ≡ is_up met)
sends_leave g n [] met = (refl, refl)
sends_leave g n (m ∷ ms) met = sends_leave g n ms (Sends m ∷ met)

pub vote_made : (g : GroupId) (n from to : ℕ) (op : OpId) (own : Content) (met : List Met)
    → acts_met (Sends (record { from = from; to = to; body = Accepted op g (record { 0 = n }) zero_ballot own }) ∷ met) g n ≡ Voted zero_ballot own ∷ acts_met met g n
vote_made g n from to op own met = ap (λ t. cons_option (act_if t (Voted zero_ballot own)) (acts_met met g n)) (ap (λ t. t && n == n) (same_group_self g) ∙ number_self n)

-- a decision at another place leaves this one
pub decides_elsewhere : (g other : GroupId) (n k : ℕ) (entry : Content) (was met : List Met) → (same_group other g && k == n) ≡ false
    → NodeOn g n met (onto (decision_note (if_new was (Some (record { group = other; position = k; entry = entry })))) met)
decides_elsewhere g other n k entry was met apart = by (is_none (decided was other k))
  where
    by : (t : Bool) → NodeOn g n met (onto (decision_note (cond t (Some (record { group = other; position = k; entry = entry })) None)) met)
    by true = record { same_decided = ap (λ t. cond t (first_of (decided met g n) entry) (decided met g n)) apart; same_acts = refl; same_up = refl }
    by false = node_same g n met

-- any decision leaves that the node is up
pub decides_up : (d : Option Decision) (met : List Met) → is_up (onto (decision_note d) met) ≡ is_up met
decides_up None met = refl
decides_up (Some d) met = refl

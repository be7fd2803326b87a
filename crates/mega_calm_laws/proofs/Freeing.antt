-- Where no message speaks of a position, no voter made anything there, and no node decided it.
use Rattle.std.proofs.Common.{◌≡◌, inl, inr, ℕ, ◌==◌, Bool, true, false, cond, List, [], ◌∷◌, Option, Some, None, refl, ap, ◌∙◌, subst}
use Rattle.std.specs.List.{cons_option}
use Rattle.mega_base.specs.declared.names.GroupId.{GroupId}
use Rattle.mega_cluster.specs.declared.cluster.Cluster.{Cluster}
use Rattle.mega_entry.specs.declared.content.Content.{Content}
use Rattle.mega_handler.specs.Named.{Meanings}
use Rattle.mega_wire.specs.declared.message.Message.{Message}
use Rattle.mega_wire.specs.declared.message.Body.{Body}
use Rattle.mega_wire.specs.declared.message.Body.TheVariants.{Accepted, Promise}
use Rattle.mega_wal.specs.Acceptor.{Act, Promised, Voted}
use Rattle.mega_leased_laws.specs.of_run_laws.of_tape_laws.of_promises.of_transcript.declared.item.Item.{Item}
use Rattle.mega_leased_laws.specs.of_run_laws.of_tape_laws.of_promises.of_transcript.declared.item.Item.TheVariants.{Sent, Unsent}
use Rattle.mega_leased_laws.specs.of_run_laws.of_tape_laws.of_promises.of_rules.Logs.{decided}
use Rattle.mega_leased_laws.specs.of_run_laws.of_tape_laws.of_promises.of_rules.Members.{is_voter}
use Rattle.mega_leased_laws.specs.of_run_laws.of_tape_laws.of_promises.of_rules.Voting.{act_if, act_in, acts as acts_met}
use Rattle.mega_leased_laws.specs.of_run_laws.of_tape_laws.of_promises.Calm.{IsCalmAt, is_for}
use Rattle.mega_leased_laws.specs.of_run_laws.of_tape_laws.of_promises.Items.{number}
use Rattle.mega_leased_laws.specs.of_run_laws.of_tape_laws.of_promises.Promises.{Stands}
use Rattle.mega_leased_laws.specs.of_run_laws.of_tape_laws.of_promises.Runs.{Cuts, Happening, Standing, goes_on, opening}
use Rattle.mega_leased_laws.specs.of_run_laws.of_tape_laws.Chosen.{Chosen}
use Rattle.mega_leased_laws.specs.of_run_laws.of_tape_laws.Lawful.{Lawful, MayMake}
use Rattle.mega_leased_laws.specs.of_run_laws.of_tape_laws.Places.{In, acts}
use Rattle.mega_leased_laws.proofs.of_run_laws.of_tape_laws.Agreement.{decided_chosen}
use Rattle.mega_leased_laws.proofs.of_run_laws.Owned.{Users}
use Rattle.mega_leased_laws.proofs.of_run_laws.Standing.{Good}
use Rattle.mega_calm_laws.proofs.Standings.{anybody, run_good}
use Rattle.mega_calm_laws.proofs.Stocking.{majority_voter, place}

-- no message that stands speaks of the position
abbrev pub Unspoken : GroupId → ℕ → List Item → Type 0
Unspoken g n tape = (k : ℕ) (m : Message) → Stands (Sent k m) tape → is_for g n m.body ≡ false

no_act : (g : GroupId) (n : ℕ) (body : Body) → is_for g n body ≡ false → act_in g n body ≡ None
no_act g n (Promise op k p b report) h = ap (λ t. act_if t (Promised b report)) h
no_act g n (Accepted op k p b e) h = ap (λ t. act_if t (Voted b e)) h
no_act g n _ h = refl

-- a voter's answer stands behind its question
unsent_act : (g : GroupId) (n : ℕ) (before : List Item) → Unspoken g n before → (m : Message) (body : Body) → MayMake before m body → act_in g n body ≡ None
unsent_act g n before quiet m (Promise op k p b report) may = ap (λ t. act_if t (Promised b report)) (quiet (may.asked).number _ (may.asked).sent)
unsent_act g n before quiet m (Accepted op k p b e) may = ap (λ t. act_if t (Voted b e)) (quiet (may.asked).number _ (may.asked).sent)
unsent_act g n before quiet m _ may = refl

from_none : (t : Bool) (o : Option Act) → o ≡ None → cond t o None ≡ None
from_none true o h = h
from_none false o h = refl

pub acts_none : (c : Cluster) (g : GroupId) (n : ℕ) (tape : List Item) → Lawful c tape → Unspoken g n tape → (v : ℕ) → acts tape v (place g n) ≡ []
acts_none c g n [] l quiet v = refl
acts_none c g n (Sent k m ∷ before) l quiet v =
    ap (λ o. cons_option o (acts before v (place g n))) (from_none (m.from == v) (act_in g n m.body) (no_act g n m.body (quiet k m (inl refl))))
    ∙ acts_none c g n before l.1 (λ j one s. quiet j one (inr s)) v
acts_none c g n (Unsent node m ∷ before) l quiet v =
    ap (λ o. cons_option o (acts before v (place g n))) (from_none (m.from == v) (act_in g n m.body) (unsent_act g n before (λ j one s. quiet j one (inr s)) m m.body l.0))
    ∙ acts_none c g n before l.1 (λ j one s. quiet j one (inr s)) v
acts_none c g n (item ∷ before) l quiet v = acts_none c g n before l.1 (λ j one s. quiet j one (inr s)) v

module _ (users : Users) (c : Cluster) (now : Standing) (good : Good users c now) (g : GroupId) (n : ℕ) (quiet : Unspoken g n now.tape) where
  free_acts : (v : ℕ) → acts_met (now.node v).met g n ≡ []
  free_acts v = (good.node v).made (place g n) ∙ acts_none c g n now.tape good.lawful quiet v

  free_decided : (v : ℕ) → decided (now.node v).met g n ≡ None
  free_decided v = by (decided (now.node v).met g n) refl
    where
      by : (o : Option Content) → decided (now.node v).met g n ≡ o → decided (now.node v).met g n ≡ None
      by None is = is
      by (Some e) is = absurd (subst (In (Voted chosen.ballot e)) (acts_none c g n now.tape good.lawful quiet voter.0) (chosen.each voter.0 voter.2))
        where
          chosen : Chosen c (place g n) now.tape e
          chosen = decided_chosen c (place g n) now.tape good.lawful (number v) e ((good.node v).known g n e is)

          voter : (u : ℕ) × (is_voter c u ≡ true) × (chosen.test u ≡ true)
          voter = majority_voter c chosen.test chosen.majority

pub record IsFree (now : Standing) (g : GroupId) (n : ℕ) : Type 0 where
  pub unmade : (v : ℕ) → acts_met (now.node v).met g n ≡ []
  pub undecided : (v : ℕ) → decided (now.node v).met g n ≡ None

pub run_free : (c : Cluster) (cuts : Cuts) (first : Meanings) (events : List Happening) (g : GroupId) (n : ℕ) → IsCalmAt c (goes_on c cuts (opening c first) events) g n → IsFree (goes_on c cuts (opening c first) events) g n
run_free c cuts first events g n calm = record {
  unmade = free_acts anybody c (goes_on c cuts (opening c first) events) (run_good c cuts first events) g n calm.unspoken;
  undecided = free_decided anybody c (goes_on c cuts (opening c first) events) (run_good c cuts first events) g n calm.unspoken;
}

-- A cluster in which no operation is open any more: what is left of its messages is delivered, and nothing comes of it.
use Rattle.std.proofs.Common.{◌≡◌, inl, inr, ℕ, ◌==◌, Bool, true, false, cond, List, [], ◌∷◌, ◌++◌, map, Option, Some, None, refl, sym, ap, ◌∙◌, subst}
use Rattle.mega_base.specs.declared.names.GroupId.{GroupId}
use Rattle.mega_base.specs.declared.names.OpId.{OpId}
use Rattle.mega_base.specs.declared.names.Position.{Position}
use Rattle.mega_ballot.specs.declared.ballot.Ballot.{Ballot}
use Rattle.mega_cluster.specs.declared.cluster.Cluster.{Cluster}
use Rattle.mega_entry.specs.declared.content.Content.{Content}
use Rattle.mega_handler.specs.Named.{Meanings}
use Rattle.mega_wire.specs.declared.message.Message.{Message}
use Rattle.mega_wire.specs.declared.message.Body.{Body}
use Rattle.mega_wire.specs.declared.message.Body.TheVariants.{Accept, Accepted, Decide, Fetch, Have, HaveNot, Refused, Top, Where}
use Rattle.mega_wal.specs.declared.answers.Voted.{Voted as AcceptAnswer}
use Rattle.mega_wal.specs.declared.answers.Voted.TheVariants as vote
use Rattle.mega_wal.specs.Acceptor.{accept_answer}
use Rattle.mega_leased_laws.specs.of_run_laws.of_tape_laws.of_promises.of_transcript.declared.item.Item.TheVariants.{Taken}
use Rattle.mega_leased_laws.specs.of_run_laws.of_tape_laws.of_promises.of_rules.Clock.{clock_of, is_up}
use Rattle.mega_leased_laws.specs.of_run_laws.of_tape_laws.of_promises.of_rules.Logs.{decided, top_of}
use Rattle.mega_leased_laws.specs.of_run_laws.of_tape_laws.of_promises.of_rules.Members.{is_node, is_voter}
use Rattle.mega_leased_laws.specs.of_run_laws.of_tape_laws.of_promises.of_rules.Met.{Met, Sends, Takes}
use Rattle.mega_leased_laws.specs.of_run_laws.of_tape_laws.of_promises.of_rules.Operations.{Node, Now, Setting}
use Rattle.mega_leased_laws.specs.of_run_laws.of_tape_laws.of_promises.of_rules.Replies.{fetched, reply_message, reply_to, where_served}
use Rattle.mega_leased_laws.specs.of_run_laws.of_tape_laws.of_promises.of_rules.Steps.{Decision, Heard, Step, Take, all_act, apply_notes, at_first, decision_note, hears_message, if_new, onto, step, stored_after, take_step, taken}
use Rattle.mega_leased_laws.specs.of_run_laws.of_tape_laws.of_promises.of_rules.Voting.{acts as acts_met, vote_body}
use Rattle.mega_leased_laws.specs.of_run_laws.of_tape_laws.of_promises.Runs.{Standing, set_at, setting, whole_step}
use Rattle.mega_calm_laws.specs.Waiting.{IsNumbered, Waits}
use Rattle.mega_leased_laws.specs.of_run_laws.Justified.{Each}
use Rattle.mega_calm_laws.proofs.Mail.{apart_turned, Mailed, each_of, mailed_step, mailed_taken}
use Rattle.mega_calm_laws.proofs.Draining.{IsUnfused, unfused_after}
use Rattle.mega_calm_laws.proofs.Reading.{append_none}
use Rattle.mega_calm_laws.proofs.Stepping.{IsAsking, heard_by, message, takes_asking, takes_decide, takes_have}
use Rattle.mega_calm_laws.proofs.Voting.{IsBland, NodeOn, applies_bland, bland_onto, decides_up, node_then, sends_leave}
use Rattle.mega_leased_laws.proofs.of_run_laws.Events.{onto_append}

-- ---- messages of which nothing comes but a reply

abbrev pub IsTame : Body → Type 0
IsTame (Where op g) = Unit {0}
IsTame (Top op g n) = Unit {0}
IsTame (Fetch op g n) = Unit {0}
IsTame (Have op g n e) = Unit {0}
IsTame (HaveNot op g n) = Unit {0}
IsTame (Accept op g n b e) = Unit {0}
IsTame (Accepted op g n b e) = Unit {0}
IsTame (Refused op g n asked shown e) = Unit {0}
IsTame (Decide g n e) = Unit {0}
IsTame _ = ⊥

-- between nodes of the cluster
pub record Tame (c : Cluster) (m : Message) : Type 0 where
  pub from : is_node c m.from ≡ true
  pub to : is_node c m.to ≡ true
  pub body : IsTame m.body

module _ (c : Cluster) (v : ℕ) (here : is_node c v ≡ true) (from : ℕ) (there : is_node c from ≡ true) where
  one_tame : (body : Body) → IsTame body → Each (Tame c) (record { from = v; to = from; body = body } ∷ [])
  one_tame body tame = (record { from = here; to = there; body = tame }, tt)

  served : (t : Bool) (body : Body) → IsTame body → Each (Tame c) (reply_message v from (where_served t body))
  served true body tame = one_tame body tame
  served false body tame = tt

  voted_tame : (t : Bool) (answer : AcceptAnswer) (op : OpId) (g : GroupId) (n : Position) (b : Ballot) (e : Content) → Each (Tame c) (reply_message v from (where_served t (vote_body op g n b e answer)))
  voted_tame t vote.Yes op g n b e = served t (Accepted op g n b e) tt
  voted_tame t (vote.Shown greater) op g n b e = served t (vote_body op g n b e (vote.Shown greater)) tt
  voted_tame t (vote.Other other) op g n b e = served t (vote_body op g n b e (vote.Other other)) tt

  fetched_tame : (t : Bool) (o : Option Content) (op : OpId) (g : GroupId) (n : Position) → Each (Tame c) (reply_message v from (where_served t (fetched op g n o)))
  fetched_tame t None op g n = served t (HaveNot op g n) tt
  fetched_tame t (Some e) op g n = served t (Have op g n e) tt

  reply_tame : (met : List Met) (to : ℕ) (body : Body) → IsTame body → Each (Tame c) (reply_to c v met (message from to body))
  reply_tame met to (Where op g) tame = served (is_voter c v) (Top op g (record { 0 = top_of met g })) tt
  reply_tame met to (Top op g n) tame = tt
  reply_tame met to (Fetch op g n) tame = fetched_tame (is_voter c v) (decided met g n.0) op g n
  reply_tame met to (Have op g n e) tame = tt
  reply_tame met to (HaveNot op g n) tame = tt
  reply_tame met to (Accept op g n b e) tame = voted_tame (is_voter c v) (accept_answer (acts_met met g n.0) b e) op g n b e
  reply_tame met to (Accepted op g n b e) tame = tt
  reply_tame met to (Refused op g n asked shown e) tame = tt
  reply_tame met to (Decide g n e) tame = tt
  reply_tame met to _ tame = absurd tame

-- ---- a step of which the decision and what is sent are known

module _ (s : Setting) (node : Node) (m : Message) (ts : List Heard) (d : Option Decision) (reply news : List Message) where
  abbrev pub base : List Met
  base = onto (decision_note d) (Takes m ∷ node.met)

  abbrev pub begins : Now
  begins = at_first base (stored_after s base node.stored d)

  abbrev pub acted : Now
  acted = all_act s begins ts

  abbrev pub stepped : Step
  stepped = taken s node m [] ts d reply news

  abbrev pub noted : List Met
  noted = onto acted.answers (onto acted.valid (onto (apply_notes s node.met node.stored acted.met acted.stored) base))

  pub met_is : (stepped.node).met ≡ onto (map Sends stepped.sends) noted
  met_is = ap (onto (map Sends stepped.sends)) (
      onto_append ((([] ++ decision_note d) ++ applies) ++ acted.valid) acted.answers (Takes m ∷ node.met)
      ∙ ap (onto acted.answers) (onto_append (([] ++ decision_note d) ++ applies) acted.valid (Takes m ∷ node.met)
      ∙ ap (onto acted.valid) (onto_append (decision_note d) applies (Takes m ∷ node.met))))
    where
      applies : List Met
      applies = apply_notes s node.met node.stored acted.met acted.stored

  pub noted_on : (g : GroupId) (n : ℕ) → Each IsBland acted.valid → Each IsBland acted.answers → NodeOn g n base noted
  noted_on g n valid answers =
      node_then g n base (onto applies base) noted (bland_onto g n applies base (applies_bland s node.met node.stored acted.met acted.stored))
      (node_then g n (onto applies base) (onto acted.valid (onto applies base)) noted (bland_onto g n acted.valid (onto applies base) valid) (bland_onto g n acted.answers (onto acted.valid (onto applies base)) answers))
    where
      applies : List Met
      applies = apply_notes s node.met node.stored acted.met acted.stored

-- ---- a node with no open operation takes such a message

pub record TameStep (c : Cluster) (node : Node) (made : Step) : Type 0 where
  pub up : is_up node.met ≡ true → is_up (made.node).met ≡ true
  pub none_open : (made.node).open_operations ≡ []
  pub sends : Each (Tame c) made.sends

no_group : GroupId
no_group = record { key = [] }

module _ (s : Setting) (node : Node) (none : node.open_operations ≡ []) (here : is_node s.cluster s.me ≡ true) where
  none_heard : (m : Message) → heard_by s node m ≡ []
  none_heard m = ap (map (hears_message s (clock_of node.met) m)) none

  idle_up : (m : Message) (d : Option Decision) (reply : List Message) → Each (Tame s.cluster) reply → TameStep s.cluster node (taken s node m [] [] d reply [])
  idle_up m d reply tame = record {
    up = λ was. ap is_up (met_is s node m [] d reply []) ∙ ((sends_leave no_group 0 (taken s node m [] [] d reply []).sends (noted s node m [] d reply [])).1 ∙ ((noted_on s node m [] d reply [] no_group 0 tt tt).same_up ∙ (decides_up d (Takes m ∷ node.met) ∙ was)));
    none_open = refl;
    sends = subst (Each (Tame s.cluster)) (sym (append_none (reply ++ []) ∙ append_none reply)) tame;
  }

  asked_up : (from to : ℕ) (body : Body) → IsAsking body → Each (Tame s.cluster) (reply_to s.cluster s.me node.met (message from to body)) → TameStep s.cluster node (take_step s node (message from to body))
  asked_up from to body asking tame =
      subst (TameStep s.cluster node) (sym (takes_asking s node from to body asking [] (none_heard (message from to body)) refl)) (idle_up (message from to body) None (reply_to s.cluster s.me node.met (message from to body)) tame)

  pub tame_step : (from to : ℕ) (body : Body) → is_node s.cluster from ≡ true → IsTame body → TameStep s.cluster node (take_step s node (message from to body))
  tame_step from to (Where op g) there tame = asked_up from to (Where op g) tt (reply_tame s.cluster s.me here from there node.met to (Where op g) tt)
  tame_step from to (Top op g n) there tame = asked_up from to (Top op g n) tt tt
  tame_step from to (Fetch op g n) there tame = asked_up from to (Fetch op g n) tt (reply_tame s.cluster s.me here from there node.met to (Fetch op g n) tt)
  tame_step from to (HaveNot op g n) there tame = asked_up from to (HaveNot op g n) tt tt
  tame_step from to (Accept op g n b e) there tame = asked_up from to (Accept op g n b e) tt (reply_tame s.cluster s.me here from there node.met to (Accept op g n b e) tt)
  tame_step from to (Accepted op g n b e) there tame = asked_up from to (Accepted op g n b e) tt tt
  tame_step from to (Refused op g n asked shown e) there tame = asked_up from to (Refused op g n asked shown e) tt tt
  tame_step from to (Have op g n e) there tame = subst (TameStep s.cluster node) (sym (takes_have s node from to op g n.0 e [] (none_heard (message from to (Have op g n e)))))
      (idle_up (message from to (Have op g n e)) (if_new node.met (Some (record { group = g; position = n.0; entry = e }))) [] tt)
  tame_step from to (Decide g n e) there tame = subst (TameStep s.cluster node) (sym (takes_decide s node from to g n.0 e [] (none_heard (message from to (Decide g n e)))))
      (idle_up (message from to (Decide g n e)) (if_new node.met (Some (record { group = g; position = n.0; entry = e }))) [] tt)
  tame_step from to _ there tame = absurd tame

-- ---- the cluster

pub record Over (c : Cluster) (now : Standing) : Type 0 where
  pub up : (v : ℕ) → is_node c v ≡ true → is_up (now.node v).met ≡ true
  pub unfused : (v : ℕ) → is_node c v ≡ true → IsUnfused now v
  pub numbered : IsNumbered now.tape
  pub idle : (v : ℕ) → is_node c v ≡ true → (now.node v).open_operations ≡ []
  pub mail : (k : ℕ) (m : Message) → Waits now.tape k m → Tame c m

-- a step after which no operation is open
pub over_on : (c : Cluster) (now : Standing) (v j : ℕ) (made : Step) → is_node c v ≡ true → ((u : ℕ) → is_node c u ≡ true → is_up (now.node u).met ≡ true) → ((u : ℕ) → is_node c u ≡ true → IsUnfused now u)
    → ((u : ℕ) → is_node c u ≡ true → (u == v) ≡ false → (now.node u).open_operations ≡ []) → ((k : ℕ) (m : Message) → Waits now.tape k m → (j == k) ≡ false → Tame c m)
    → is_up (made.node).met ≡ true → (made.node).open_operations ≡ [] → Each (Tame c) made.sends → Mailed now.tape (whole_step c now v (Taken j ∷ []) made).tape (λ k. j == k) made.sends
    → Over c (whole_step c now v (Taken j ∷ []) made)
over_on c now v j made here ups unfused idle mail up none_open tame mailed = record {
  up = λ u node. up_at u node (v == u);
  unfused = λ u node. unfused_after c now v (Taken j ∷ []) made u (unfused v here) (unfused u node);
  numbered = mailed.numbered;
  idle = λ u node. idle_at u node (v == u) refl;
  mail = λ k m w. elim (mailed.comes k m w) [ inl early ↦ mail k m early.1 early.0 | inr i ↦ each_of (Tame c) m made.sends tame i ];
}
  where
    up_at : (u : ℕ) → is_node c u ≡ true → (t : Bool) → is_up (cond t made.node (now.node u)).met ≡ true
    up_at u node true = up
    up_at u node false = ups u node

    turned : (a b : ℕ) → (a == b) ≡ false → (b == a) ≡ false
    turned a b apart = apart_turned a b apart

    idle_at : (u : ℕ) → is_node c u ≡ true → (t : Bool) → (v == u) ≡ t → (cond t made.node (now.node u)).open_operations ≡ []
    idle_at u node true is = none_open
    idle_at u node false is = idle u node (turned v u is)

pub over_takes : (c : Cluster) (h : Meanings) (now : Standing) → Over c now → (j : ℕ) (m : Message) → Waits now.tape j m → Over c (whole_step c now m.to (Taken j ∷ []) (step (setting c h m.to) (now.node m.to) (Take m)))
over_takes c h now over j m w = over_on c now m.to j made here over.up over.unfused (λ u node apart. over.idle u node) (λ k one waiting apart. over.mail k one waiting) (made_so.up (over.up m.to here)) made_so.none_open made_so.sends
    (mailed_step c (set_at now.node m.to made.node) m.to now.tape (Taken j) (λ k. j == k) made.notes made.sends refl refl (mailed_taken now.tape j m w over.numbered))
  where
    made : Step
    made = step (setting c h m.to) (now.node m.to) (Take m)

    here : is_node c m.to ≡ true
    here = (over.mail j m w).to

    made_so : TameStep c (now.node m.to) made
    made_so = tame_step (setting c h m.to) (now.node m.to) (over.idle m.to here) here m.from m.to m.body (over.mail j m w).from (over.mail j m w).body

-- A node takes a message of a read: what it sends and keeps, and that its logs are as they were, but for a decision.
use Rattle.std.proofs.Common.{◌≡◌, ℕ, List, [], ◌∷◌, ◌++◌, map, Option, Some, None, refl, sym, ap, ◌∙◌, subst}
use Rattle.mega_base.specs.declared.names.GroupId.{GroupId}
use Rattle.mega_base.specs.declared.names.OpId.{OpId}
use Rattle.mega_entry.specs.declared.content.Content.{Content}
use Rattle.mega_wire.specs.declared.message.Message.{Message}
use Rattle.mega_wire.specs.declared.message.Body.{Body}
use Rattle.mega_wire.specs.declared.message.Body.TheVariants.{Accept, Accepted, Decide, Fetch, Have, HaveNot, Refused, Top, Where}
use Rattle.mega_leased_laws.specs.of_run_laws.of_tape_laws.of_promises.of_rules.Met.{Met, Sends, Takes}
use Rattle.mega_leased_laws.specs.of_run_laws.of_tape_laws.of_promises.of_rules.Clock.{clock_of}
use Rattle.mega_leased_laws.specs.of_run_laws.of_tape_laws.of_promises.of_rules.Operations.{Node, Now, Setting}
use Rattle.mega_leased_laws.specs.of_run_laws.of_tape_laws.of_promises.of_rules.Replies.{reply_to}
use Rattle.mega_leased_laws.specs.of_run_laws.of_tape_laws.of_promises.of_rules.Steps.{Decision, Heard, Step, all_act, apply_notes, at_first, decision_note, first_settled, hears_message, if_new, news, onto, stored_after, take_step, taken}
use Rattle.mega_leased_laws.specs.of_run_laws.Justified.{Each}
use Rattle.mega_calm_laws.proofs.Mail.{Among, among_right}
use Rattle.mega_calm_laws.proofs.Noting.{IsNoVote, IsStill, SameLogs, applies_still, logs_then, sends_still, still_onto}
use Rattle.mega_calm_laws.proofs.Reading.{append_none}
use Rattle.mega_leased_laws.proofs.of_run_laws.Events.{onto_append}

abbrev pub message : ℕ → ℕ → Body → Message
message from to body = record { from = from; to = to; body = body }

-- a message that tells of no decision by itself, nor anything to cells and coordinators
abbrev pub IsAsking : Body → Type 0
IsAsking (Where op g) = Unit {0}
IsAsking (Top op g n) = Unit {0}
IsAsking (Fetch op g n) = Unit {0}
IsAsking (HaveNot op g n) = Unit {0}
IsAsking (Accept op g n b e) = Unit {0}
IsAsking (Accepted op g n b e) = Unit {0}
IsAsking (Refused op g n asked shown e) = Unit {0}
IsAsking _ = ⊥

abbrev pub heard_by : Setting → Node → Message → List Heard
heard_by s node m = map (hears_message s (clock_of node.met) m) node.open_operations

-- it takes it, and no operation settles anything
pub told_asking : (s : Setting) (node : Node) (from to : ℕ) (body : Body) → IsAsking body
    → take_step s node (message from to body)
    ≡ taken s node (message from to body) [] (heard_by s node (message from to body)) (if_new node.met (first_settled (heard_by s node (message from to body)))) (reply_to s.cluster s.me node.met (message from to body))
    (news s (if_new node.met (first_settled (heard_by s node (message from to body)))))
told_asking s node from to (Where op g) h = refl
told_asking s node from to (Top op g n) h = refl
told_asking s node from to (Fetch op g n) h = refl
told_asking s node from to (HaveNot op g n) h = refl
told_asking s node from to (Accept op g n b e) h = refl
told_asking s node from to (Accepted op g n b e) h = refl
told_asking s node from to (Refused op g n asked shown e) h = refl
told_asking s node from to _ h = absurd h

pub takes_asking : (s : Setting) (node : Node) (from to : ℕ) (body : Body) → IsAsking body → (ts : List Heard) → heard_by s node (message from to body) ≡ ts → first_settled ts ≡ None
    → take_step s node (message from to body) ≡ taken s node (message from to body) [] ts None (reply_to s.cluster s.me node.met (message from to body)) []
takes_asking s node from to body h ts is none =
    told_asking s node from to body h
    ∙ (ap (λ those. taken s node (message from to body) [] those (if_new node.met (first_settled those)) (reply_to s.cluster s.me node.met (message from to body)) (news s (if_new node.met (first_settled those)))) is
    ∙ ap (λ d. taken s node (message from to body) [] ts (if_new node.met d) (reply_to s.cluster s.me node.met (message from to body)) (news s (if_new node.met d))) none)

pub takes_have : (s : Setting) (node : Node) (from to : ℕ) (op : OpId) (g : GroupId) (n : ℕ) (entry : Content) (ts : List Heard)
    → heard_by s node (message from to (Have op g (record { 0 = n }) entry)) ≡ ts
    → take_step s node (message from to (Have op g (record { 0 = n }) entry))
    ≡ taken s node (message from to (Have op g (record { 0 = n }) entry)) [] ts (if_new node.met (Some (record { group = g; position = n; entry = entry }))) [] []
takes_have s node from to op g n entry ts is =
    ap (λ those. taken s node (message from to (Have op g (record { 0 = n }) entry)) [] those (if_new node.met (Some (record { group = g; position = n; entry = entry }))) [] []) is

pub takes_decide : (s : Setting) (node : Node) (from to : ℕ) (g : GroupId) (n : ℕ) (entry : Content) (ts : List Heard)
    → heard_by s node (message from to (Decide g (record { 0 = n }) entry)) ≡ ts
    → take_step s node (message from to (Decide g (record { 0 = n }) entry))
    ≡ taken s node (message from to (Decide g (record { 0 = n }) entry)) [] ts (if_new node.met (Some (record { group = g; position = n; entry = entry }))) [] []
takes_decide s node from to g n entry ts is =
    ap (λ those. taken s node (message from to (Decide g (record { 0 = n }) entry)) [] those (if_new node.met (Some (record { group = g; position = n; entry = entry }))) [] []) is

-- ---- what such a step leaves

module _ (s : Setting) (node : Node) (m : Message) (ts : List Heard) (d : Option Decision) (reply : List Message) where
  abbrev pub first : Now
  first = at_first (onto (decision_note d) (Takes m ∷ node.met)) (stored_after s (onto (decision_note d) (Takes m ∷ node.met)) node.stored d)

  abbrev pub acted : Now
  acted = all_act s first ts

  abbrev pub made : Step
  made = taken s node m [] ts d reply []

  pub sends_are : made.sends ≡ reply ++ acted.sends
  sends_are = ap (λ l. l ++ acted.sends) (append_none reply)

  -- whatever it decided, all else leaves its logs
  pub logs_are : Each IsStill acted.valid → Each IsStill acted.answers → Each (λ (one : Message). IsNoVote one.body) made.sends
      → SameLogs (onto (decision_note d) (Takes m ∷ node.met)) (made.node).met
  logs_are valid answers quiet = subst (SameLogs base) (ap (onto (map Sends made.sends)) (sym spread)) (logs_then base noted (onto (map Sends made.sends) noted) second (still_onto (map Sends made.sends) noted (sends_still made.sends quiet)))
    where
      base : List Met
      base = onto (decision_note d) (Takes m ∷ node.met)

      applies : List Met
      applies = apply_notes s node.met node.stored acted.met acted.stored

      noted : List Met
      noted = onto acted.answers (onto acted.valid (onto applies base))

      spread : onto (((([] ++ decision_note d) ++ applies) ++ acted.valid) ++ acted.answers) (Takes m ∷ node.met) ≡ noted
      spread =
          onto_append ((([] ++ decision_note d) ++ applies) ++ acted.valid) acted.answers (Takes m ∷ node.met)
          ∙ ap (onto acted.answers) (onto_append (([] ++ decision_note d) ++ applies) acted.valid (Takes m ∷ node.met)
          ∙ ap (onto acted.valid) (onto_append (decision_note d) applies (Takes m ∷ node.met)))

      second : SameLogs base noted
      second =
          logs_then base (onto applies base) noted (still_onto applies base (applies_still s node.met node.stored acted.met acted.stored))
          (logs_then (onto applies base) (onto acted.valid (onto applies base)) noted (still_onto acted.valid (onto applies base) valid) (still_onto acted.answers (onto acted.valid (onto applies base)) answers))

  pub answer_noted : (one : Met) → Among one acted.answers → Among one made.notes
  answer_noted one h = among_right one ((([] ++ decision_note d) ++ apply_notes s node.met node.stored acted.met acted.stored) ++ acted.valid) acted.answers h

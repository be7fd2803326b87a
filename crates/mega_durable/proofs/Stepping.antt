-- A node that was up and took a step in memory alone, what the next start owes if it is cut off, and a log that nothing was done to.
use Rattle.std.proofs.Common.{◌≡◌, ◌⊎◌, inl, inr, ◌≤◌, ◌&&◌, ◌==◌, ℕ, Bool, true, false, cond, filter, take, List, [], ◌∷◌, ◌++◌, length, map, Option, None, Some, refl, sym, ap, subst, ◌∙◌, arith}
use Rattle.std.proofs.lemmas.List.{take_at}
use Rattle.mega_cluster.specs.declared.cluster.Cluster.{Cluster}
use Rattle.mega_disk.specs.declared.records.Records.{Ghosts}
use Rattle.mega_disk.specs.Fuse.{Fuse, Left, MayBurn, Unset, Untold}
use Rattle.mega_disk.specs.VersionMaps.{Versions}
use Rattle.mega_handler.specs.Named.{Meaning, Meanings}
use Rattle.mega_wal.specs.declared.item.JournalItem.{JournalItem}
use Rattle.mega_wire.specs.declared.message.Body.{Body}
use Rattle.mega_wire.specs.declared.message.Body.TheVariants.{Where, Accept, Prepare, Invalidate, Dead, Fetch, Acquire, Top, Accepted, Refused, Promise, Invalidated, Held, Unheld, Decide, Have, HaveNot, Granted, Past, Request, Reply}
use Rattle.mega_wire.specs.declared.message.Message.{Message}
use Rattle.mega_rules.specs.Logs.{log_of}
use Rattle.mega_rules.specs.Met.{Met, Crashes, Unsends}
use Rattle.mega_rules.specs.Operations.{Node as RuleNode, Setting}
use Rattle.mega_rules.specs.Replies.{answer_to, reply_message, reply_to, where_served}
use Rattle.mega_rules.specs.Steps.{Event, Step as RuleStep, step}
use Rattle.mega_leases.specs.Opening.{AreOwed}
use Rattle.mega_core.specs.of_node_laws.Acted.{acted_on, own_item}
use Rattle.mega_core.specs.of_node_laws.Own.{HasOwnRows}
use Rattle.mega_core.specs.declared.node.Node.{Node}
use Rattle.mega_core.specs.of_step_parts.declared.note.Note.{Note}
use Rattle.mega_core.specs.of_step_parts.declared.step.Step.{Step}
use Rattle.mega_core.specs.of_step_parts.Notes.{met_of}
use Rattle.mega_core.specs.of_step_parts.Staging.{Stages}
use Rattle.mega_core.specs.Standing.{StandsFor}
use Rattle.mega_core.proofs.of_step_parts.Staged.{nothing_staged}
use Rattle.mega_promises.specs.Runs.{is_durable, owes, replies_in}
use Rattle.mega_voter.specs.Used.{LogUsed}
use Rattle.mega_durable.specs.declared.cut.Cut.{Cut}
use Rattle.mega_durable.specs.Cut.{IsOwedBy, IsTakenFrom, LogProceeds}
use Rattle.mega_durable.specs.declared.fault.UpFault.{UpFault}
use Rattle.mega_durable.specs.declared.fault.UpFault.TheVariants.{Step as Failed, Cut as CutOff, Log, Unformed}
use Rattle.mega_durable.specs.Granted.{KeepsGrants}
use Rattle.mega_durable.specs.Replying.{owed_by, replies_at}
use Rattle.mega_core.specs.Stepping.{IsPlacedAt}
use Rattle.mega_durable.specs.Standing.{IsUp, MayHappen, records_in, setting_of}
use Rattle.mega_durable.specs.Stepped.{HasStepped}
use Rattle.mega_durable.proofs.Owing.{cut_owed, step_keeps}
use Rattle.mega_durable.proofs.Noted.{HasParts, step_parts}

-- ---- a step in memory alone
pub stepped_now : {R V : Type 0} {makes : List ℕ → Option Meaning} (store : Ghosts R) (version : V → Versions) (h : Meanings) (old mid : Node R V) (node : RuleNode) (event : Event)
    → IsUp store version h old node → MayHappen makes (setting_of old h) node event
    → (StandsFor version h old node → HasOwnRows (setting_of old h).cluster.schema (log_of (acted_on (setting_of old h) node event)) → IsPlacedAt (setting_of old h) node event → StandsFor version h mid (step (setting_of old h) node event).node)
    → (StandsFor version h old node → HasOwnRows (setting_of old h).cluster.schema (log_of (acted_on (setting_of old h) node event)) → IsPlacedAt (setting_of old h) node event
    → Stages old.replica.voter.logs.staged.items node.met node.met → Stages mid.replica.voter.logs.staged.items node.met (step (setting_of old h) node event).node.met)
    → records_in mid ≡ records_in old → mid.replica.members ≡ old.replica.members → mid.replica.me ≡ old.replica.me → HasStepped store version h mid (setting_of old h) node event (records_in old)
stepped_now store version h old mid node event up may stands stages same members me = record {
  stands = stands up.stands may.owned may.placed;
  stages = stages up.stands may.owned may.placed (subst (λ (items : List JournalItem). Stages items node.met node.met) (sym up.empty) (nothing_staged node.met));
  formed = may.formed;
  same = same;
  ready = up.ready;
  holds = up.holds;
  granted = coe 0 1 (i. KeepsGrants (sym members i) (sym me i) (step (setting_of old h) node event).node.met) (step_keeps (setting_of old h) node event up.stands.within.leased.least up.granted);
}

pub may_owe : {R V : Type 0} (store : Ghosts R) (version : V → Versions) (h : Meanings) (one : Node R V) (node : RuleNode) (event : Event) → IsUp store version h one node
    → AreOwed (owes (step (setting_of one h) node event) (replies_in one.replica.members one.replica.me node.met event)) (Crashes ∷ own_item (setting_of one h) node event ∷ node.met)
may_owe store version h one node event up = cut_owed (setting_of one h) node event up.stands.within.leased.least up.granted

-- ---- whether a node replies follows from its role
served_once : (me to : ℕ) (is_served : Bool) (reply : Body) → cond {A = ℕ} is_served 1 0 ≡ length (reply_message me to (where_served is_served reply))
served_once me to true reply = refl
served_once me to false reply = refl

pub replies_once : (c : Cluster) (me : ℕ) (met : List Met) (from : ℕ) (body : Body) → cond {A = ℕ} (replies_at c me body) 1 0 ≡ length (reply_message me from (answer_to c me met from body))
replies_once c me met from (Where op group) = served_once me from _ _
replies_once c me met from (Accept op group position ballot entry) = served_once me from _ _
replies_once c me met from (Prepare op group position ballot) = served_once me from _ _
replies_once c me met from (Fetch op group position) = served_once me from _ _
replies_once c me met from (Invalidate op group position) = served_once me from _ _
replies_once c me met from (Dead op cell node) = served_once me from _ _
replies_once c me met from (Acquire cell epoch clock) = served_once me from _ _
replies_once c me met from (Top op group position) = refl
replies_once c me met from (Accepted op group position ballot entry) = refl
replies_once c me met from (Refused op group position asked shown entry) = refl
replies_once c me met from (Promise op group position ballot vote) = refl
replies_once c me met from (Invalidated op group position) = refl
replies_once c me met from (Held op cell node) = refl
replies_once c me met from (Unheld op cell node) = refl
replies_once c me met from (Decide group position entry) = refl
replies_once c me met from (Have op group position entry) = refl
replies_once c me met from (HaveNot op group position) = refl
replies_once c me met from (Granted cell epoch clock) = refl
replies_once c me met from (Past cell epoch greatest) = refl
replies_once c me met from (Request token json) = refl
replies_once c me met from (Reply token text) = refl

-- ---- the notes that are kept on the log
pub kept_notes : (notes : List Note) → map met_of (filter (λ note. is_durable (met_of note)) notes) ≡ filter is_durable (map met_of notes)
kept_notes [] = refl
kept_notes (note ∷ notes) = by (is_durable (met_of note)) (kept_notes notes)
  where
    by : (test : Bool) → map met_of (filter (λ note. is_durable (met_of note)) notes) ≡ filter is_durable (map met_of notes)
        → map met_of (cond test (note ∷ filter (λ note. is_durable (met_of note)) notes) (filter (λ note. is_durable (met_of note)) notes)) ≡ cond test (met_of note ∷ filter is_durable (map met_of notes)) (filter is_durable (map met_of notes))
    by true rest = ap (λ (items : List Met). met_of note ∷ items) rest
    by false rest = rest

-- ---- what is handed back of a step that is cut off
pub owed_is : (s : Setting) (node : RuleNode) (event : Event) (made : Step) (cut : Cut) (count : ℕ) → map met_of made.notes ≡ (step s node event).notes → made.sends ≡ (step s node event).sends
    → count ≡ length (replies_in s.cluster s.me node.met event)
    → (map met_of cut.notes ≡ filter is_durable (map met_of made.notes)) × (cut.replies ≡ take count made.sends)
    → owed_by cut ≡ owes (step s node event) (replies_in s.cluster s.me node.met event)
owed_is s node event made cut count notes sends is taken =
    (λ i. (taken.0 ∙ ap (filter is_durable) notes) i ++ map Unsends (first i))
  where
    parts : HasParts (step s node event) (replies_in s.cluster s.me node.met event)
    parts = step_parts s node event

    first : cut.replies ≡ replies_in s.cluster s.me node.met event
    first = taken.1 ∙ ((λ i. take count ((sends ∙ parts.sends) i)) ∙ take_at (replies_in s.cluster s.me node.met event) parts.rest count (sym is))

pub owed_from : (s : Setting) (node : RuleNode) (event : Event) (made : Step) (count : ℕ) (refused : UpFault) → map met_of made.notes ≡ (step s node event).notes → made.sends ≡ (step s node event).sends
    → count ≡ length (replies_in s.cluster s.me node.met event) → AreOwed (owes (step s node event) (replies_in s.cluster s.me node.met event)) (Crashes ∷ own_item s node event ∷ node.met)
    → IsTakenFrom made count refused → IsOwedBy s node event refused
owed_from s node event made count (Failed fault) notes sends is may taken = absurd taken
owed_from s node event made count (CutOff cut) notes sends is may taken = (owed_is s node event made cut count notes sends is taken, may)
owed_from s node event made count (Log fault) notes sends is may apart = apart
owed_from s node event made count Unformed notes sends is may taken = tt

-- ---- a log that nothing was done to
pub burns_not : (fuse : Fuse) → MayBurn fuse fuse
burns_not Untold = refl
burns_not Unset = refl
burns_not (Left n) = inr (n, refl, omega arith)

same_used : {R : Type 0} (store : Ghosts R) (length : ℕ) (records : R) → LogUsed store length None records records
same_used store length records = record {
  later = omega arith;
  may_burn = burns_not (store.fuse_left records);
  by_fuse = λ by. by;
  opened = refl;
  cause = λ failed. absurd (cc);
  burns = λ by failed. absurd (cc);
  full = λ n failed. absurd (cc);
  spent = λ failed. absurd (cc);
  good = λ n failed. absurd (cc);
}

pub same_proceeds : {R : Type 0} (store : Ghosts R) (old new : R) → new ≡ old → LogProceeds store None old new
same_proceeds store old new same = subst (LogProceeds store None old) (sym same) (0, same_used store (store.length_with old 0) old)

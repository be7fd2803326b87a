-- What a node decided stands on the tape, and so does what it applied.
use Rattle.std.proofs.lemmas.Bool.{cases_lt}
use Rattle.std.proofs.Common.{◌⊎◌, inl, inr, ℕ, ◌+◌, ◌<◌, ◌≤◌, List, [], ◌∷◌, flat_map, length, map, refl, sym, ◌∙◌, subst, arith}
use Rattle.mega_base.specs.declared.names.GroupId.{GroupId}
use Rattle.mega_base.specs.declared.names.NodeId.{NodeId}
use Rattle.mega_base.specs.declared.names.OpId.{OpId}
use Rattle.mega_base.specs.declared.names.Position.{Position}
use Rattle.mega_cluster.specs.declared.cluster.Cluster.{Cluster}
use Rattle.mega_entry.specs.declared.content.Content.{Content}
use Rattle.mega_handler.specs.Named.{Meanings}
use Rattle.mega_fresh_laws.specs.of_leased_laws.of_settled_laws.of_run_laws.of_tape_laws.of_promises.of_transcript.declared.item.Item.{Item}
use Rattle.mega_fresh_laws.specs.of_leased_laws.of_settled_laws.of_run_laws.of_tape_laws.of_promises.of_transcript.declared.item.Item.TheVariants.{Crash, Decide}
use Rattle.mega_fresh_laws.specs.of_leased_laws.of_settled_laws.of_run_laws.of_tape_laws.of_promises.of_transcript.Tape.{sent_count}
use Rattle.mega_wire.specs.declared.message.Message.{Message}
use Rattle.mega_fresh_laws.specs.of_leased_laws.of_settled_laws.of_run_laws.of_tape_laws.of_promises.Items.{number, shown}
use Rattle.mega_fresh_laws.specs.of_leased_laws.of_settled_laws.of_run_laws.of_tape_laws.of_promises.Promises.{Stands}
use Rattle.mega_fresh_laws.specs.of_leased_laws.of_settled_laws.of_run_laws.of_tape_laws.of_promises.Runs.{Cuts, Happening, IsRun, Standing, goes_on, met_in, opening, set_at, setting, with_items}
use Rattle.mega_fresh_laws.specs.of_leased_laws.of_settled_laws.of_run_laws.of_tape_laws.of_promises.of_rules.Logs.{log_of}
use Rattle.mega_fresh_laws.specs.of_leased_laws.of_settled_laws.of_run_laws.of_tape_laws.of_promises.of_rules.Met.{Met, Sends}
use Rattle.mega_fresh_laws.specs.of_leased_laws.of_settled_laws.of_run_laws.of_tape_laws.of_promises.of_rules.Operations.{Node, Setting}
use Rattle.mega_fresh_laws.specs.of_leased_laws.of_settled_laws.of_run_laws.of_tape_laws.of_promises.of_rules.Steps.{Event, Step, crashed, onto, start, start_items, step}
use Rattle.mega_fresh_laws.specs.of_leased_laws.of_settled_laws.of_run_laws.of_tape_laws.Writes.{Usage}
use Rattle.mega_fresh_laws.specs.of_leased_laws.of_settled_laws.of_run_laws.Usages.{Fits}
use Rattle.mega_fresh_laws.proofs.of_leased_laws.of_settled_laws.of_run_laws.Prefixes.{IsDecided, prefix_decided}
use Rattle.mega_fresh_laws.proofs.of_leased_laws.of_settled_laws.of_run_laws.Turns.{Known}
use Rattle.mega_fresh_laws.specs.of_leased_laws.of_settled_laws.Covering.{Earlier}
use Rattle.mega_fresh_laws.proofs.of_leased_laws.of_settled_laws.Tapes.{items_later, sent_later, then_later}
use Rattle.mega_fresh_laws.proofs.of_leased_laws.Cells.{by_node}
use Rattle.mega_fresh_laws.proofs.of_leased_laws.Forms.{down, stepped}
use Rattle.mega_fresh_laws.proofs.of_leased_laws.TapeIsMet.{step_met}
use Rattle.mega_fresh_laws.specs.Covering.{before_begin}
use Rattle.mega_fresh_laws.proofs.Meant.{Stays, run_stays}
use Rattle.mega_fresh_laws.proofs.Knowing.{known_notes, known_stood}
use Rattle.mega_fresh_laws.proofs.of_leased_laws.Validating.{own_decided}
use Rattle.mega_clean_laws.specs.Reaching.{Reaches, applied_by}
use Rattle.mega_clean_laws.proofs.Topmost.{applied_least}

-- ---- all nodes of a run

abbrev AllKnown : List Item → (ℕ → Node) → Type 0
AllKnown tape nodes = (v : ℕ) → Known v (nodes v).met tape

known_sends : (me : ℕ) (ms : List Message) (met : List Met) (tape : List Item) → Known me met tape → Known me (onto (map Sends ms) met) tape
known_sends me [] met tape known = known
known_sends me (m ∷ ms) met tape known = known_sends me ms (Sends m ∷ met) tape known

module _ (c : Cluster) (h : Meanings) (now : Standing) (me : ℕ) (item : Item) (event : Event) (q : AllKnown now.tape now.node) where
  abbrev s : Setting
  s = setting c h me

  abbrev made : Step
  made = step s (now.node me) event

  abbrev those : ℕ → Node
  those = set_at now.node me made.node

  abbrev second : List Item
  second = with_items c those (item ∷ now.tape) (flat_map (shown me) made.notes)

  abbrev third : List Item
  third = stepped c those me now.tape item made

  own_known : Known me (met_in s (now.node me).met event ∷ (now.node me).met) (item ∷ now.tape)
  own_known g n e is = inr (q me g n e (sym (own_decided s (now.node me).met event g n) ∙ is))

  mine_known : Known me (made.node).met third
  mine_known = subst (λ met. Known me met third) (sym (step_met s (now.node me) event))
      (known_sends me made.sends (onto made.notes (met_in s (now.node me).met event ∷ (now.node me).met)) third
      (known_stood c those me second third (onto made.notes (met_in s (now.node me).met event ∷ (now.node me).met)) (sent_later (sent_count now.tape + 1) made.sends second)
      (known_notes c those me made.notes (met_in s (now.node me).met event ∷ (now.node me).met) (item ∷ now.tape) own_known)))

  later : Earlier now.tape third
  later = then_later now.tape (item ∷ now.tape) third (record { later = item ∷ []; is = refl })
      (then_later (item ∷ now.tape) second third (items_later c those (flat_map (shown me) made.notes) (item ∷ now.tape)) (sent_later (sent_count now.tape + 1) made.sends second))

  steps_known : AllKnown third those
  steps_known = by_node (λ v node. Known v node.met third) now.node me made.node mine_known (λ v apart. known_stood c those v now.tape third (now.node v).met later (q v))

  cuts_known : AllKnown (Crash (number me) ∷ item ∷ now.tape) (set_at now.node me (down (met_in s (now.node me).met event) (now.node me)))
  cuts_known = by_node (λ v node. Known v node.met (Crash (number me) ∷ item ∷ now.tape)) now.node me (down (met_in s (now.node me).met event) (now.node me))
      (λ g n e is. inr (own_known g n e is)) (λ v apart g n e is. inr (inr (q v g n e is)))

starts_known : (c : Cluster) (h : Meanings) (now : Standing) (me count : ℕ) → AllKnown now.tape now.node
    → AllKnown (with_items c (set_at now.node me (start (setting c h me) count (now.owed me) (now.node me).met)) now.tape (flat_map (shown me) (start_items (setting c h me) count (now.owed me) (now.node me).met)))
    (set_at now.node me (start (setting c h me) count (now.owed me) (now.node me).met))
starts_known c h now me count q = by_node (λ v node. Known v node.met later_tape) now.node me (start (setting c h me) count (now.owed me) (now.node me).met)
    (known_notes c those' me items (now.node me).met now.tape (q me))
    (λ v apart. known_stood c those' v now.tape later_tape (now.node v).met (items_later c those' (flat_map (shown me) items) now.tape) (q v))
  where
    items : List Met
    items = start_items (setting c h me) count (now.owed me) (now.node me).met

    those' : ℕ → Node
    those' = set_at now.node me (start (setting c h me) count (now.owed me) (now.node me).met)

    later_tape : List Item
    later_tape = with_items c those' now.tape (flat_map (shown me) items)

known_stays : (c : Cluster) (usage : Usage) (first : Meanings) (cuts : Cuts) → Stays c usage first cuts AllKnown
known_stays c usage first cuts = record {
  steps = λ h now me item event g r then up may o plain q. steps_known c h now me item event q;
  cuts_off = λ h now me item event g o q. cuts_known c h now me item event q;
  starts = λ h now me count g q. starts_known c h now me count q;
  falls = λ now me g q. by_node (λ v node. Known v node.met (Crash (number me) ∷ now.tape)) now.node me (crashed (now.node me)) (λ group n e is. inr (q me group n e is)) (λ v apart group n e is. inr (q v group n e is));
  marks = λ now item is g q v group n e known. inr (q v group n e known);
}

-- ---- what is applied

-- each position that a node of a run has applied it decided, and the tape shows it
pub run_applied : (c : Cluster) (usage : Usage) (first : Meanings) (events : List Happening) (tape : List Item) → (run : IsRun c first events tape) → Fits usage events → (node : NodeId) (group : GroupId) (n : Position) → 0 < n.0
    → n.0 ≤ applied_by c first events tape run node group → (entry : Content) × Stands (Decide node group n entry) tape
run_applied c usage first events tape run fits node group n above le =
    (found.entry, subst (Stands (Decide node group n found.entry)) (sym run.tape_is) (known node.0 group n.0 found.entry found.is))
  where
    then : Standing
    then = goes_on c run.cuts (opening c first) events

    known : AllKnown then.tape then.node
    known = run_stays c usage first run.cuts AllKnown (known_stays c usage first run.cuts) events fits (λ v g m e is. absurd (cc))

    bounded : n.0 ≤ length (log_of (then.node node.0).met group)
    bounded = let most = applied_least (log_of (then.node node.0).met group) ((then.node node.0).stored group) in omega (arith, le, most)

    found : IsDecided (then.node node.0).met group n.0
    found = prefix_decided (then.node node.0).met group n.0 above bounded

-- so a position that reaches what the operation's node had decided is at or above what the node had applied when the operation began
pub reaches_applied : (c : Cluster) (usage : Usage) (first : Meanings) (earlier : List Happening) (tape : List Item) (op : OpId) (group : GroupId) (p : ℕ) → (run : IsRun c first earlier (before_begin tape op)) → Fits usage earlier → Reaches tape op group p
    → applied_by c first earlier (before_begin tape op) run op.node group ≤ p
reaches_applied c usage first earlier tape op group p run fits reaches = by (cases_lt 0 applied_there)
  where
    applied_there : ℕ
    applied_there = applied_by c first earlier (before_begin tape op) run op.node group

    same : (a : ℕ) → a ≤ a
    same a = omega arith

    none : (a b : ℕ) → a ≤ 0 → a ≤ b
    none a b le = omega (arith, le)

    by : (0 < applied_there) ⊎ (applied_there ≤ 0) → applied_there ≤ p
    by (inl above) = let found = run_applied c usage first earlier (before_begin tape op) run fits op.node group (record { 0 = applied_there }) above (same applied_there) in reaches (record { 0 = applied_there }) found.0 found.1
    by (inr le) = none applied_there p le

-- What a start, a crash and a cut leave: the tape tells of each node as before.
use Rattle.std.proofs.Common.{◌≡◌, ℕ, ◌==◌, ◌≤◌, Bool, true, false, cond, List, [], ◌∷◌, ◌++◌, filter, flat_map, length, map, refl, sym, ap, ◌∙◌, subst, arith}
use Rattle.mega_base.specs.declared.names.GroupId.{GroupId}
use Rattle.mega_base.specs.declared.names.OpId.{OpId}
use Rattle.mega_cluster.specs.declared.cluster.Cluster.{Cluster}
use Rattle.mega_handler.specs.Named.{Meanings}
use Rattle.mega_outcome.specs.declared.answer.Answer.{Answer}
use Rattle.mega_cause_laws.specs.of_run_laws.of_tape_laws.of_promises.of_rules.of_replica.Applying.{applied, writes_of}
use Rattle.mega_cause_laws.specs.of_run_laws.of_tape_laws.of_promises.of_transcript.declared.item.Item.{Item}
use Rattle.mega_cause_laws.specs.of_run_laws.of_tape_laws.of_promises.of_transcript.declared.item.Item.TheVariants.{Crash}
use Rattle.mega_wire.specs.declared.message.Message.{Message}
use Rattle.mega_cause_laws.specs.of_run_laws.of_tape_laws.of_promises.Items.{number, shown}
use Rattle.mega_cause_laws.specs.of_run_laws.of_tape_laws.of_promises.Runs.{is_durable, owes, setting, with_items}
use Rattle.mega_cause_laws.specs.of_run_laws.of_tape_laws.of_promises.of_rules.Finding.{refreshed_marks}
use Rattle.mega_cause_laws.specs.of_run_laws.of_tape_laws.of_promises.of_rules.Logs.{log_of}
use Rattle.mega_cause_laws.specs.of_run_laws.of_tape_laws.of_promises.of_rules.Members.{has_rows}
use Rattle.mega_cause_laws.specs.of_run_laws.of_tape_laws.of_promises.of_rules.Met.{Met, Answers, Applies, Begins, Crashes, Decides, Grants, Lapses, Starts, Unsends}
use Rattle.mega_cause_laws.specs.of_run_laws.of_tape_laws.of_promises.of_rules.Operations.{Node}
use Rattle.mega_cause_laws.specs.of_run_laws.of_tape_laws.of_promises.of_rules.Steps.{Step, apply_all, crashed, onto, start, start_items, start_notes}
use Rattle.mega_node_laws.specs.Deciding.{SameLogs}
use Rattle.mega_node_laws.proofs.Logs.{same_more, same_self}
use Rattle.mega_cause_laws.proofs.of_run_laws.of_tape_laws.Ballots.{number_self}
use Rattle.mega_cause_laws.specs.of_run_laws.Justified.{Each}
use Rattle.mega_cause_laws.proofs.of_run_laws.Events.{onto_append}
use Rattle.mega_cause_laws.proofs.of_run_laws.Silent.{IsSilent}
use Rattle.mega_cause_laws.proofs.of_run_laws.Stepping.{OtherThan}
use Rattle.mega_cause_laws.proofs.of_run_laws.Turns.{each_on}
use Rattle.mega_answer_laws.proofs.Applied.{applied_whole, start_told}
use Rattle.mega_answer_laws.proofs.Reasons.{Within}
use Rattle.mega_answer_laws.proofs.Notes.{IsApplied, applied_leaves, applied_mine, applied_silent, starts_applied}
use Rattle.mega_answer_laws.proofs.Ops.{Beside, Leaves, beside_then, notes_beside}
use Rattle.mega_answer_laws.proofs.Since.{Since, since_notes}
use Rattle.mega_answer_laws.proofs.Steps.{OwnTold}
use Rattle.mega_answer_laws.proofs.OnTape.{IsNoDecide, IsOwed, NodeTold, NoteMarks, marks_after, other_told, same_each, started_log, within_more}
use Rattle.mega_answer_laws.proofs.Views.{Agrees, IsMine, LeavesApplied, View, after, after_append, agrees_after, agrees_one, applied_after, next, notes_told, view}
use Rattle.mega_answer_laws.proofs.Walk.{each_both}

-- ---- a crash

crash_beside : (me v : ℕ) (x : OpId) (c : Cluster) (nodes : ℕ → Node) (tape : List Item) → (me == v) ≡ false → Beside v x tape (Crash (number me) ∷ tape)
crash_beside me v x c nodes tape apart = notes_beside c nodes me v x (Crashes ∷ []) tape (apart, tt)

-- a node that met the same, and has no operation open
down_told : (c : Cluster) (old new : List Item) (v : ℕ) (node : Node) (met : List Met) → SameLogs node.met met → Agrees (view new v) met → ((group : GroupId) → (view new v).applied group ≡ (view old v).applied group) → Within met (refreshed_marks met)
    → NodeTold c old v node → NodeTold c new v (record { met = met; open_operations = []; stored = node.stored })
down_told c old new v node met same agrees applies marks t = record {
  opens = tt;
  agrees = agrees;
  applies = λ rows group. applies group ∙ t.applies rows group ∙ ap (λ log. applied log (node.stored group)) (sym (same.logs group));
  stored = λ group. subst (λ log. node.stored group ≤ length (writes_of log)) (sym (same.logs group)) (t.stored group);
  marks = marks;
}

-- a node that crashes
pub falls_mine : (c : Cluster) (nodes : ℕ → Node) (tape : List Item) (me : ℕ) (node : Node) → NodeTold c tape me node → NodeTold c (Crash (number me) ∷ tape) me (crashed node)
falls_mine c nodes tape me node t = down_told c tape (Crash (number me) ∷ tape) me node (Crashes ∷ node.met) (same_more Crashes node.met node.met refl (same_self node.met))
    (agrees_one Crashes (view tape me) node.met t.agrees) (λ group. refl)
    (within_more node.met (Crashes ∷ node.met) (λ group. let same = (same_more Crashes node.met node.met refl (same_self node.met)).prefixes group in omega (arith, same)) (refreshed_marks node.met) t.marks) t

pub falls_other : (c : Cluster) (nodes : ℕ → Node) (tape : List Item) (me v : ℕ) (node : Node) → (me == v) ≡ false → NodeTold c tape v node → NodeTold c (Crash (number me) ∷ tape) v node
falls_other c nodes tape me v node apart t = other_told c tape (Crash (number me) ∷ tape) v node refl (λ x is. crash_beside me v x c nodes tape apart) t

-- a step that is cut: the event's own item, and the crash
pub cut_mine : (c : Cluster) (nodes : ℕ → Node) (tape : List Item) (me : ℕ) (node : Node) (item : Item) (own : Met) → OwnTold me tape item own → NodeTold c tape me node
    → NodeTold c (Crash (number me) ∷ item ∷ tape) me (crashed (record { met = own ∷ node.met; open_operations = []; stored = node.stored }))
cut_mine c nodes tape me node item own o t = down_told c tape (Crash (number me) ∷ item ∷ tape) me node (Crashes ∷ own ∷ node.met) same
    (agrees_one Crashes (view (item ∷ tape) me) (own ∷ node.met) (subst (λ x. Agrees x (own ∷ node.met)) (sym seen) (agrees_one own (view tape me) node.met t.agrees)))
    (λ group. ap (λ (x : View). x.applied group) seen ∙ o.applies (view tape me) group)
    (subst (Within base) agrees.refreshed (marks_after base (own ∷ []) (view tape me)
    (subst (Within base) (sym t.agrees.refreshed) (within_more node.met base (λ group. let fewer = same.prefixes group in omega (arith, fewer)) (refreshed_marks node.met) t.marks)) (o.marks base, tt))) t
  where
    base : List Met
    base = Crashes ∷ own ∷ node.met

    agrees : Agrees (next own (view tape me)) (own ∷ node.met)
    agrees = agrees_one own (view tape me) node.met t.agrees

    same : SameLogs node.met base
    same = same_more Crashes node.met (own ∷ node.met) refl (same_more own node.met node.met o.undecided (same_self node.met))

    seen : view (item ∷ tape) me ≡ next own (view tape me)
    seen = o.seen me ∙ ap (λ b. cond b (next own (view tape me)) (view tape me)) (number_self me)

pub cut_other : (c : Cluster) (nodes : ℕ → Node) (tape : List Item) (me v : ℕ) (node : Node) (item : Item) (own : Met) → OwnTold me tape item own → ((x : OpId) → x.node.0 ≡ v → OtherThan own x) → (me == v) ≡ false → NodeTold c tape v node
    → NodeTold c (Crash (number me) ∷ item ∷ tape) v node
cut_other c nodes tape me v node item own o other apart t = other_told c tape (Crash (number me) ∷ item ∷ tape) v node (o.seen v ∙ ap (λ b. cond b (next own (view tape v)) (view tape v)) apart)
    (λ x is. beside_then v x tape (item ∷ tape) (Crash (number me) ∷ item ∷ tape) (o.beside v x (other x is)) (crash_beside me v x c nodes (item ∷ tape) apart)) t

-- ---- what is owed

owed_one : (one : Met) → is_durable one ≡ true → IsOwed one
owed_one (Grants node epoch) h = tt
owed_one (Lapses node epoch) h = tt
owed_one (Decides group position entry) h = tt
owed_one (Unsends message) h = tt
owed_one _ h = cc

owed_filter : (notes last : List Met) → Each IsOwed last → Each IsOwed (filter is_durable notes ++ last)
owed_filter [] last h = h
owed_filter (one ∷ notes) last h = by (is_durable one) refl (owed_filter notes last h)
  where
    by : (t : Bool) → is_durable one ≡ t → Each IsOwed (filter is_durable notes ++ last) → Each IsOwed (cond t (one ∷ filter is_durable notes) (filter is_durable notes) ++ last)
    by true e rest = (owed_one one e, rest)
    by false e rest = rest

unsent_owed : (replies : List Message) → Each IsOwed (map Unsends replies)
unsent_owed [] = tt
unsent_owed (m ∷ replies) = (tt, unsent_owed replies)

pub owes_owed : (made : Step) (replies : List Message) → Each IsOwed (owes made replies)
owes_owed made replies = owed_filter made.notes (map Unsends replies) (unsent_owed replies)

pub owed_if : (t : Bool) (owed : List Met) → Each IsOwed owed → Each IsOwed (cond t owed [])
owed_if true owed h = h
owed_if false owed h = tt

owed_mine : (me : ℕ) (one : Met) → IsOwed one → IsMine me one
owed_mine me (Begins op text) h = absurd h
owed_mine me (Answers op answer) h = absurd h
owed_mine me _ h = tt

owed_leaves : (me v : ℕ) (x : OpId) (one : Met) → IsOwed one → Leaves me v x one
owed_leaves me v x (Starts start) h = absurd h
owed_leaves me v x Crashes h = absurd h
owed_leaves me v x (Begins op text) h = absurd h
owed_leaves me v x (Answers op answer) h = absurd h
owed_leaves me v x _ h = tt

owed_applied : (one : Met) → IsOwed one → LeavesApplied one
owed_applied (Starts start) h = absurd h
owed_applied (Applies group position) h = absurd h
owed_applied _ h = tt

owed_marks : (base : List Met) (one : Met) → IsOwed one → NoteMarks base one
owed_marks base (Answers op answer) h = absurd h
owed_marks base _ h = tt

applied_marks : (base : List Met) (one : Met) → IsApplied one → NoteMarks base one
applied_marks base (Answers op answer) h = absurd h
applied_marks base _ h = tt

applied_undecided : (one : Met) → IsApplied one → IsNoDecide one
applied_undecided (Applies group position) h = refl
applied_undecided _ h = absurd h

-- ---- a start

module _ (c : Cluster) (h : Meanings) (nodes' : ℕ → Node) (tape : List Item) (me count : ℕ) (owed : List Met) (is_owed : Each IsOwed owed) where
  abbrev items : List Met → List Met
  items met = start_items (setting c h me) count owed met

  abbrev notes_of : List Met → List Met
  notes_of met = start_notes (setting c h me) (onto owed (Starts count ∷ met))

  applied_of : (met : List Met) → Each IsApplied (notes_of met)
  applied_of met = starts_applied (setting c h me) (onto owed (Starts count ∷ met))

  all_mine : (met : List Met) → Each (IsMine me) (items met)
  all_mine met = (tt, each_both (IsMine me) owed (notes_of met) (each_on IsOwed (IsMine me) (owed_mine me) owed is_owed) (each_on IsApplied (IsMine me) (applied_mine me) (notes_of met) (applied_of met)))

  abbrev started : List Met → List Item
  started met = with_items c nodes' tape (flat_map (shown me) (items met))

  pub start_other : (met : List Met) (v : ℕ) (node : Node) → (me == v) ≡ false → NodeTold c tape v node → NodeTold c (started met) v node
  start_other met v node apart t = other_told c tape (started met) v node (notes_told c nodes' me v (items met) tape (all_mine met) ∙ ap (λ b. cond b (after (items met) (view tape v)) (view tape v)) apart)
      (λ x is. notes_beside c nodes' me v x (items met) tape
      (apart, each_both (Leaves me v x) owed (notes_of met) (each_on IsOwed (Leaves me v x) (owed_leaves me v x) owed is_owed) (each_on IsApplied (Leaves me v x) (applied_leaves me v x) (notes_of met) (applied_of met)))) t

  module _ (node : Node) (t : NodeTold c tape me node) where
    abbrev met : List Met
    met = node.met

    abbrev behind : List Met
    behind = onto owed (Starts count ∷ met)

    abbrev node' : Node
    node' = start (setting c h me) count owed met

    seen : view (started met) me ≡ after (items met) (view tape me)
    seen = notes_told c nodes' me me (items met) tape (all_mine met) ∙ ap (λ b. cond b (after (items met) (view tape me)) (view tape me)) (number_self me)

    agrees : Agrees (after (items met) (view tape me)) node'.met
    agrees = agrees_after (items met) (view tape me) met t.agrees

    -- the logs are those behind what was owed
    same : SameLogs behind node'.met
    same = subst (SameLogs behind) (sym (onto_append (Starts count ∷ owed) (notes_of met) met)) (same_each (notes_of met) behind behind (each_on IsApplied IsNoDecide applied_undecided (notes_of met) (applied_of met)) (same_self behind))

    log_is : (group : GroupId) → log_of (onto owed met) group ≡ log_of node'.met group
    log_is group = sym (started_log owed met count group) ∙ sym (same.logs group)

    applies : has_rows c me ≡ true → (group : GroupId) → (after (items met) (view tape me)).applied group ≡ applied (log_of node'.met group) (node'.stored group)
    applies rows group =
        ap (λ (x : View). x.applied group) (after_append (Starts count ∷ owed) (notes_of met) (view tape me))
        ∙ start_told (setting c h me) behind (after (Starts count ∷ owed) (view tape me)) group rows (applied_after owed (next (Starts count) (view tape me)) group (each_on IsOwed LeavesApplied owed_applied owed is_owed))
        ∙ sym (same.prefixes group)
        ∙ sym (applied_whole (log_of node'.met group))
        ∙ ap (λ log. applied (log_of node'.met group) (length (writes_of log))) (sym (log_is group))
        ∙ ap (λ b. applied (log_of node'.met group) (cond b (apply_all (onto owed met) group) 0)) (sym rows)

    stored : (group : GroupId) → node'.stored group ≤ length (writes_of (log_of node'.met group))
    stored group = by (has_rows c me)
      where
        by : (b : Bool) → cond b (apply_all (onto owed met) group) 0 ≤ length (writes_of (log_of node'.met group))
        by true = subst (λ log. length (writes_of log) ≤ length (writes_of (log_of node'.met group))) (sym (log_is group)) (let le : length (writes_of (log_of node'.met group)) ≤ length (writes_of (log_of node'.met group)) = omega arith in le)
        by false = let none : 0 ≤ length (writes_of (log_of node'.met group)) = omega arith in none

    marks : Within node'.met (refreshed_marks node'.met)
    marks = subst (Within node'.met) agrees.refreshed (marks_after node'.met (owed ++ notes_of met) (next (Starts count) (view tape me)) tt
        (each_both (NoteMarks node'.met) owed (notes_of met) (each_on IsOwed (NoteMarks node'.met) (owed_marks node'.met) owed is_owed) (each_on IsApplied (NoteMarks node'.met) (applied_marks node'.met) (notes_of met) (applied_of met))))

    pub start_mine : NodeTold c (started met) me node'
    start_mine = record {
      opens = tt;
      agrees = subst (λ x. Agrees x node'.met) (sym seen) agrees;
      applies = λ rows group. ap (λ (x : View). x.applied group) seen ∙ applies rows group;
      stored = stored;
      marks = marks;
    }

-- a start answers nothing
owed_silent : (one : Met) → IsOwed one → IsSilent one
owed_silent (Answers op answer) h = absurd h
owed_silent _ h = tt

pub start_since : (P : List Item → OpId → Answer → Type 0) (c : Cluster) (h : Meanings) (nodes' : ℕ → Node) (tape : List Item) (me count : ℕ) (owed met : List Met) → Each IsOwed owed
    → Since P tape (with_items c nodes' tape (flat_map (shown me) (start_items (setting c h me) count owed met)))
start_since P c h nodes' tape me count owed met is_owed = since_notes P c nodes' me (start_items (setting c h me) count owed met) tape (
  tt,
  each_both IsSilent owed (start_notes (setting c h me) (onto owed (Starts count ∷ met))) (each_on IsOwed IsSilent owed_silent owed is_owed)
      (each_on IsApplied IsSilent applied_silent (start_notes (setting c h me) (onto owed (Starts count ∷ met))) (starts_applied (setting c h me) (onto owed (Starts count ∷ met)))),
)

-- A start that shows what it owes leaves a node as one does that finds it in its journal.
use Rattle.std.proofs.Common.{◌≡◌, ℕ, ◌==◌, ◌&&◌, ◌≤◌, not, Bool, true, false, cond, List, [], ◌∷◌, ◌++◌, flat_map, length, Option, Some, None, refl, sym, ap, ◌∙◌, arith}
use Rattle.std.specs.List.{All, list_any}
use Rattle.std.proofs.lemmas.Bool.Decides.{nat_tests}
use Rattle.std.proofs.lemmas.List.Elements.{All-head, All-tail}
use Rattle.mega_base.specs.declared.names.Epoch.{Epoch}
use Rattle.mega_cluster.specs.declared.cluster.Cluster.{Cluster}
use Rattle.mega_locks.specs.History.{Asks, Call, Reopens, Ticks as CellTicks, first_tick, lock_of, nodes as lock_nodes}
use Rattle.mega_locks.specs.Rule.{is_above, is_same, opened, reopened}
use Rattle.mega_locks.specs.declared.lock.Lock.{Lock}
use Rattle.mega_locks.specs.declared.lock.Lock.TheVariants.{Ended, Free, Held}
use Rattle.mega_replica.specs.Applying.{writes_of}
use Rattle.mega_rules.specs.Met.{Met, Decides, Grants, Lapses, Starts, Unsends}
use Rattle.mega_rules.specs.Clock.{begun_of, is_opening, start_of, ticks_of}
use Rattle.mega_rules.specs.Coordinators.{coordinator_calls}
use Rattle.mega_rules.specs.Finding.{refreshed_marks}
use Rattle.mega_rules.specs.Locks.{cell_calls, if_opening, last_grant, reopening}
use Rattle.mega_rules.specs.Members.{has_rows, is_cell}
use Rattle.mega_rules.specs.Operations.{Setting}
use Rattle.mega_rules.specs.Steps.{onto, start, start_notes}
use Rattle.mega_leases.specs.Opening.{AreOwed, is_owed}
use Rattle.mega_durable.specs.Granted.{grant_in}
use Rattle.mega_durable.proofs.Granting.{opening_keeps}
use Rattle.mega_node_laws.proofs.Ending.{onto_append}
use Rattle.mega_served_laws.specs.Alike.{KeptAlike}
use Rattle.mega_served_laws.proofs.Alike.{Alike, Scope, alike_onto, kept_onto, kept_then}
use Rattle.mega_served_laws.proofs.Keeping.{unkept}
use Rattle.mega_served_laws.proofs.Logs.{log_alike}
use Rattle.mega_served_laws.proofs.Owed.{each_owed}
use Rattle.mega_served_laws.proofs.Starting.{start_notes_alike}
use Rattle.mega_served_laws.proofs.Steps.{NodeAlike}

abbrev IsOwed : Met → Type 0
IsOwed x = is_owed x ≡ true

-- the nine nodes that a cluster can have
abbrev pub among_nine : Scope
among_nine = record { near = λ node. list_any (λ other. other == node) lock_nodes; wide = λ node is. is }

-- ---- what a cell is told at a start

abbrev AllReopen : List Call → Type 0
AllReopen [] = Unit {0}
AllReopen (Reopens node epoch held ∷ calls) = AllReopen calls
AllReopen (Asks node epoch now keep ∷ calls) = ⊥
AllReopen (CellTicks now keep ∷ calls) = ⊥

reopen_with : (t : Bool) (node : ℕ) (epoch : Epoch) (held : Bool) (calls : List Call) → AllReopen calls → AllReopen (cond t (Reopens node epoch held ∷ []) [] ++ calls)
reopen_with true node epoch held calls all = all
reopen_with false node epoch held calls all = all

first_reopen : (f : ℕ → Option (Epoch × Bool)) (ns : List ℕ) → AllReopen (flat_map (λ node. reopening node (f node)) ns)
first_reopen f [] = tt
first_reopen f (node ∷ ns) = by (f node) (first_reopen f ns)
  where
    by : (last : Option (Epoch × Bool)) → AllReopen (flat_map (λ node. reopening node (f node)) ns) → AllReopen (reopening node last ++ flat_map (λ node. reopening node (f node)) ns)
    by None all = all
    by (Some last) all = all

-- what a start with what it owes is: nothing was met since but this
record AtStart (c : Cluster) (me start : ℕ) (met : List Met) : Type 0 where
  number : start_of met ≡ start
  ticks : ticks_of met ≡ []
  begun : begun_of met ≡ 0
  opening : is_opening met ≡ true
  calls : coordinator_calls c met ≡ []
  marks : refreshed_marks met ≡ []
  cell : AllReopen (cell_calls c me met)
  any : (d : Cluster) → cell_calls d me met ≡ cell_calls c me met

first_start : (c : Cluster) (me start : ℕ) (met : List Met) → AtStart c me start (Starts start ∷ met)
first_start c me start met = record { number = refl; ticks = refl; begun = refl; opening = refl; calls = refl; marks = refl; cell = first_reopen (last_grant met) lock_nodes; any = λ d. refl }

owed_start : (c : Cluster) (me start : ℕ) (x : Met) (met : List Met) → IsOwed x → AtStart c me start met → AtStart c me start (x ∷ met)
owed_start c me start (Unsends m) met is h = record { number = h.number; ticks = h.ticks; begun = h.begun; opening = h.opening; calls = h.calls; marks = h.marks; cell = h.cell; any = h.any }
owed_start c me start (Decides group n entry) met is h = record { number = h.number; ticks = h.ticks; begun = h.begun; opening = h.opening; calls = h.calls; marks = h.marks; cell = h.cell; any = h.any }
owed_start c me start (Grants node epoch) met is h = record {
  number = h.number;
  ticks = h.ticks;
  begun = h.begun;
  opening = h.opening;
  calls = h.calls;
  marks = h.marks;
  cell = reopen_with (is_opening met) node epoch true (cell_calls c me met) h.cell;
  any = λ d. ap (λ calls. if_opening met (Reopens node epoch true) ++ calls) (h.any d);
}
owed_start c me start (Lapses node epoch) met is h = record {
  number = h.number;
  ticks = h.ticks;
  begun = h.begun;
  opening = h.opening;
  calls = h.calls;
  marks = h.marks;
  cell = reopen_with (is_opening met) node epoch false (cell_calls c me met) h.cell;
  any = λ d. ap (λ calls. if_opening met (Reopens node epoch false) ++ calls) (h.any d);
}
owed_start c me start _ met is h = absurd (cc)

all_start : (c : Cluster) (me start : ℕ) (owed met : List Met) → All IsOwed owed → AtStart c me start met → AtStart c me start (onto owed met)
all_start c me start [] met are h = h
all_start c me start (x ∷ owed) met are h = all_start c me start owed (x ∷ met) (All-tail IsOwed x owed are) (owed_start c me start x met (All-head IsOwed x owed are) h)

-- ---- a lock that was only reopened is told by what was granted

abbrev opened_with : Option (Epoch × Bool) → Lock
opened_with None = Free
opened_with (Some last) = opened last.0 last.1

abbrev IsFresh : Lock → Type 0
IsFresh lock = opened_with (grant_in lock) ≡ lock

opened_fresh : (epoch : Epoch) (held : Bool) → IsFresh (opened epoch held)
opened_fresh epoch true = refl
opened_fresh epoch false = refl

either_fresh : (t : Bool) (a b : Lock) → IsFresh a → IsFresh b → IsFresh (cond t a b)
either_fresh true a b x y = x
either_fresh false a b x y = y

reopened_fresh : (lock : Lock) (epoch : Epoch) (held : Bool) → IsFresh lock → IsFresh (reopened lock epoch held)
reopened_fresh Free epoch held h = opened_fresh epoch held
reopened_fresh (Held g renewed) epoch held h = either_fresh (is_above epoch g) _ _ (opened_fresh epoch held) (either_fresh (is_same epoch g && not held) (Ended epoch) (Held g renewed) refl h)
reopened_fresh (Ended g) epoch held h = either_fresh (is_above epoch g) _ _ (opened_fresh epoch held) refl

locks_fresh : (calls : List Call) (node : ℕ) → AllReopen calls → IsFresh (lock_of calls node)
locks_fresh [] node all = refl
locks_fresh (Reopens other epoch held ∷ calls) node all = either_fresh (other == node) _ _ (reopened_fresh (lock_of calls node) epoch held (locks_fresh calls node all)) (locks_fresh calls node all)
locks_fresh (Asks other epoch now keep ∷ calls) node all = absurd all
locks_fresh (CellTicks now keep ∷ calls) node all = absurd all

none_ticked : (calls : List Call) → AllReopen calls → first_tick calls ≡ None
none_ticked [] all = refl
none_ticked (Reopens other epoch held ∷ calls) all = none_ticked calls all
none_ticked (Asks other epoch now keep ∷ calls) all = absurd all
none_ticked (CellTicks now keep ∷ calls) all = absurd all

-- ---- the cell at a start

self_cell : (c : Cluster) (me : ℕ) → 1 ≤ me → is_cell (record c { cells = me }) me ≡ true
self_cell c me least = grind (arith, nat_tests)

locks_told : (c : Cluster) (me start : ℕ) (owed met : List Met) → 1 ≤ me → AreOwed owed met → (node : ℕ) → among_nine.near node ≡ true
    → lock_of (cell_calls c me (onto owed (Starts start ∷ met))) node ≡ opened_with (last_grant (onto owed met) node)
locks_told c me start owed met least are node near =
    sym (locks_fresh (cell_calls c me (onto owed (Starts start ∷ met))) node at.cell)
    ∙ ap opened_with (ap (λ calls. grant_in (lock_of calls node)) (sym (at.any d)) ∙ opening_keeps d me start met owed are (self_cell c me least) node near
    ∙ (kept_onto owed (Starts start ∷ met) met (unkept (Starts start) met refl)).grants node)
  where
    d : Cluster
    d = record c { cells = me }

    at : AtStart c me start (onto owed (Starts start ∷ met))
    at = all_start c me start owed (Starts start ∷ met) (each_owed owed met are) (first_start c me start met)

-- ---- a start

module _ (s : Setting) (number : ℕ) (owed a b : List Met) (least : 1 ≤ s.me) (are : AreOwed owed a) (h : KeptAlike (onto owed a) b) where
  abbrev shown_start : List Met
  shown_start = onto owed (Starts number ∷ a)

  at_start : AtStart s.cluster s.me number shown_start
  at_start = all_start s.cluster s.me number owed (Starts number ∷ a) (each_owed owed a are) (first_start s.cluster s.me number a)

  kept_start : KeptAlike shown_start (onto owed a)
  kept_start = kept_onto owed (Starts number ∷ a) a (unkept (Starts number) a refl)

  pub opened_alike : Alike among_nine s.cluster s.me shown_start (Starts number ∷ b)
  opened_alike = record {
    kept = kept_then shown_start (onto owed a) (Starts number ∷ b) kept_start (kept_then (onto owed a) b (Starts number ∷ b) h (record {
      decides = λ group n. refl;
      groups = refl;
      newest = λ group. refl;
      tops = λ group. refl;
      shows = λ group n. refl;
      bests = λ group n. refl;
      grants = λ node. refl;
    }));
    start = at_start.number;
    ticks = at_start.ticks;
    begun = at_start.begun;
    opening = at_start.opening;
    calls = at_start.calls;
    cell = record {
      locks = λ node near. locks_told s.cluster s.me number owed a least are node near ∙ ap opened_with (h.grants node) ∙ sym (locks_told s.cluster s.me number [] b least tt node near);
      first = none_ticked (cell_calls s.cluster s.me shown_start) at_start.cell ∙ sym (none_ticked (cell_calls s.cluster s.me (Starts number ∷ b)) (first_reopen (last_grant b) lock_nodes));
    };
    marks = at_start.marks;
  }

  pub notes_same : start_notes s shown_start ≡ start_notes s (Starts number ∷ b)
  notes_same = start_notes_alike s shown_start (Starts number ∷ b) opened_alike.kept

  pub start_met : (start s number owed a).met ≡ onto (start_notes s shown_start) shown_start
  start_met = onto_append (Starts number ∷ owed) (start_notes s shown_start) a

  pub start_opens : NodeAlike among_nine s.cluster s.me (start s number owed a) (start s number [] b)
  start_opens = record {
    met = coe 0 1 (i. Alike among_nine s.cluster s.me (sym start_met i) (onto (notes_same i) (Starts number ∷ b)))
        (alike_onto among_nine s.cluster s.me (start_notes s shown_start) shown_start (Starts number ∷ b) opened_alike);
    open_operations = refl;
    stored = λ i group. cond (has_rows s.cluster s.me) (length (writes_of (log_alike (onto owed a) b h group i))) 0;
  }

-- Two histories that tell a node the same: what it made, decided, granted and let lapse in all its starts, and what it met in the present one.
use Rattle.std.proofs.Common.{◌≡◌, ℕ, ◌+◌, ◌==◌, ◌&&◌, Bool, true, false, cond, max, List, [], ◌∷◌, ◌++◌, flat_map, Option, Some, None, refl, sym, ap, subst, ◌∙◌}
use Rattle.std.specs.Prelude.{option_map, unwrap_or}
use Rattle.std.specs.List.{cons_option, list_any}
use Rattle.mega_cluster.specs.declared.cluster.Cluster.{Cluster}
use Rattle.mega_coordinator.specs.History.{Ticks as CoordinatorTicks, serving}
use Rattle.mega_locks.specs.History.{Call, Asks, Reopens, Ticks as CellTicks, first_tick, lock_of, nodes as lock_nodes, term}
use Rattle.mega_locks.specs.Rule.{asked, reopened, ticked}
use Rattle.mega_wal.specs.Acceptor.{Act, Promised, Voted, best, greater_ballot, greater_vote, shown}
use Rattle.mega_wal.specs.History.{after_grant, after_lapse}
use Rattle.mega_wal.specs.Same.{same_group}
use Rattle.mega_rules.specs.Met.{Met, Starts, Crashes, Ticks, Begins, Takes, Sends, Unsends, Grants, Lapses, Counts, Forgets, Serves, Loses, Validates, Invalidates, Decides, Applies, Answers}
use Rattle.mega_rules.specs.Members.{keep_of}
use Rattle.mega_rules.specs.Clock.{begun_of, clock_of, is_opening, last_tick, start_of, ticks_of}
use Rattle.mega_rules.specs.Coordinators.{coordinator_calls, told_by, validated}
use Rattle.mega_rules.specs.Finding.{marks_shown, refreshed_marks}
use Rattle.mega_rules.specs.Locks.{asked_in, cell_calls, if_opening, last_grant, reopening, reopenings}
use Rattle.mega_rules.specs.Logs.{accepted_at, first_of, with_group}
use Rattle.mega_rules.specs.Steps.{onto}
use Rattle.mega_rules.specs.Voting.{act_in, acts}
use Rattle.mega_served_laws.specs.Alike.{KeptAlike}

-- ---- what both tell

-- the nodes of which a cell is looked at: at least the nine that a cluster can have
pub record Scope : Type 0 where
  pub near : ℕ → Bool
  pub wide : (node : ℕ) → list_any (λ other. other == node) lock_nodes ≡ true → near node ≡ true

-- two lists of calls leave a cell the same for these
pub record CellAlike (w : Scope) (xs ys : List Call) : Type 0 where
  pub locks : (node : ℕ) → w.near node ≡ true → lock_of xs node ≡ lock_of ys node
  pub first : first_tick xs ≡ first_tick ys

-- and of the present start
pub record Alike (w : Scope) (c : Cluster) (me : ℕ) (a b : List Met) : Type 0 where
  pub kept : KeptAlike a b
  pub start : start_of a ≡ start_of b
  pub ticks : ticks_of a ≡ ticks_of b
  pub begun : begun_of a ≡ begun_of b
  pub opening : is_opening a ≡ is_opening b
  pub calls : coordinator_calls c a ≡ coordinator_calls c b
  pub cell : CellAlike w (cell_calls c me a) (cell_calls c me b)
  pub marks : refreshed_marks a ≡ refreshed_marks b

pub kept_self : (a : List Met) → KeptAlike a a
kept_self a = record { decides = λ group n. refl; groups = refl; newest = λ group. refl; tops = λ group. refl; shows = λ group n. refl; bests = λ group n. refl; grants = λ node. refl }

pub kept_then : (a b d : List Met) → KeptAlike a b → KeptAlike b d → KeptAlike a d
kept_then a b d x y = record {
  decides = λ group n. x.decides group n ∙ y.decides group n;
  groups = x.groups ∙ y.groups;
  newest = λ group. x.newest group ∙ y.newest group;
  tops = λ group. x.tops group ∙ y.tops group;
  shows = λ group n. x.shows group n ∙ y.shows group n;
  bests = λ group n. x.bests group n ∙ y.bests group n;
  grants = λ node. x.grants node ∙ y.grants node;
}

pub kept_back : (a b : List Met) → KeptAlike a b → KeptAlike b a
kept_back a b x = record {
  decides = λ group n. sym (x.decides group n);
  groups = sym x.groups;
  newest = λ group. sym (x.newest group);
  tops = λ group. sym (x.tops group);
  shows = λ group n. sym (x.shows group n);
  bests = λ group n. sym (x.bests group n);
  grants = λ node. sym (x.grants node);
}

-- ---- one thing more

pub shown_with : (o : Option Act) (xs ys : List Act) → shown xs ≡ shown ys → shown (cons_option o xs) ≡ shown (cons_option o ys)
shown_with None xs ys h = h
shown_with (Some (Promised ballot report)) xs ys h = ap (λ s. greater_ballot s ballot) h
shown_with (Some (Voted ballot entry)) xs ys h = ap (λ s. greater_ballot s ballot) h

pub best_with : (o : Option Act) (xs ys : List Act) → best xs ≡ best ys → best (cons_option o xs) ≡ best (cons_option o ys)
best_with None xs ys h = h
best_with (Some (Promised ballot report)) xs ys h = h
best_with (Some (Voted ballot entry)) xs ys h = ap (λ v. greater_vote v ballot entry) h

-- what changes nothing that is kept
pub kept_more : (x : Met) (a b : List Met) → KeptAlike a b → KeptAlike (x ∷ a) (x ∷ b)
kept_more (Sends m) a b h = record {
  decides = h.decides;
  groups = h.groups;
  newest = h.newest;
  tops = λ group. ap (λ n. max (accepted_at group m.body) n) (h.tops group);
  shows = λ group n. shown_with (act_in group n m.body) (acts a group n) (acts b group n) (h.shows group n);
  bests = λ group n. best_with (act_in group n m.body) (acts a group n) (acts b group n) (h.bests group n);
  grants = h.grants;
}
kept_more (Unsends m) a b h = record {
  decides = h.decides;
  groups = h.groups;
  newest = h.newest;
  tops = λ group. ap (λ n. max (accepted_at group m.body) n) (h.tops group);
  shows = λ group n. shown_with (act_in group n m.body) (acts a group n) (acts b group n) (h.shows group n);
  bests = λ group n. best_with (act_in group n m.body) (acts a group n) (acts b group n) (h.bests group n);
  grants = h.grants;
}
kept_more (Decides g p e) a b h = record {
  decides = λ group n. ap (λ d. cond (same_group g group && p == n) (first_of d e) d) (h.decides group n);
  groups = ap (λ gs. with_group g gs) h.groups;
  newest = λ group. ap (λ n. cond (same_group g group) (max p n) n) (h.newest group);
  tops = λ group. ap (λ n. cond (same_group g group) (max p n) n) (h.tops group);
  shows = h.shows;
  bests = h.bests;
  grants = h.grants;
}
kept_more (Grants other epoch) a b h = record {
  decides = h.decides;
  groups = h.groups;
  newest = h.newest;
  tops = h.tops;
  shows = h.shows;
  bests = h.bests;
  grants = λ node. ap (λ g. cond (other == node) (after_grant g epoch) g) (h.grants node);
}
kept_more (Lapses other epoch) a b h = record {
  decides = h.decides;
  groups = h.groups;
  newest = h.newest;
  tops = h.tops;
  shows = h.shows;
  bests = h.bests;
  grants = λ node. ap (λ g. cond (other == node) (after_lapse g epoch) g) (h.grants node);
}
kept_more _ a b h = record { decides = h.decides; groups = h.groups; newest = h.newest; tops = h.tops; shows = h.shows; bests = h.bests; grants = h.grants }

pub kept_onto : (items a b : List Met) → KeptAlike a b → KeptAlike (onto items a) (onto items b)
kept_onto [] a b h = h
kept_onto (x ∷ items) a b h = kept_onto items (x ∷ a) (x ∷ b) (kept_more x a b h)

pub cell_self : (w : Scope) (xs : List Call) → CellAlike w xs xs
cell_self w xs = record { locks = λ node near. refl; first = refl }

pub cell_more : (w : Scope) (one : Call) (xs ys : List Call) → CellAlike w xs ys → CellAlike w (one ∷ xs) (one ∷ ys)
cell_more w (Reopens other epoch held) xs ys h = record { locks = λ node near. ap (λ lock. cond (other == node) (reopened lock epoch held) lock) (h.locks node near); first = h.first }
cell_more w (Asks other epoch now keep) xs ys h = record {
  locks = λ node near. λ i. cond (other == node) (asked (h.locks node near i) epoch (option_map (λ _. term now keep) (h.first i))) (h.locks node near i);
  first = h.first;
}
cell_more w (CellTicks now keep) xs ys h = record {
  locks = λ node near. λ i. ticked (unwrap_or (h.first i) (term now keep)) now (h.locks node near i);
  first = ap (λ first. Some (unwrap_or first (term now keep))) h.first;
}

pub cell_append : (w : Scope) (zs xs ys : List Call) → CellAlike w xs ys → CellAlike w (zs ++ xs) (zs ++ ys)
cell_append w [] xs ys h = h
cell_append w (z ∷ zs) xs ys h = cell_more w z (zs ++ xs) (zs ++ ys) (cell_append w zs xs ys h)

-- where the same comes before
along : (w : Scope) (xs ys zs ws : List Call) → zs ≡ ws → CellAlike w xs ys → CellAlike w (zs ++ xs) (ws ++ ys)
along w xs ys zs ws same h = subst (λ vs. CellAlike w (zs ++ xs) (vs ++ ys)) same (cell_append w zs xs ys h)

clock_alike : (a b : List Met) → ticks_of a ≡ ticks_of b → clock_of a ≡ clock_of b
clock_alike a b h = ap last_tick h

pub reopenings_alike : (a b : List Met) → KeptAlike a b → (ns : List ℕ) → flat_map (λ node. reopening node (last_grant a node)) ns ≡ flat_map (λ node. reopening node (last_grant b node)) ns
reopenings_alike a b h [] = refl
reopenings_alike a b h (node ∷ ns) = λ i. reopening node (h.grants node i) ++ reopenings_alike a b h ns i

pub alike_more : (w : Scope) (c : Cluster) (me : ℕ) (x : Met) (a b : List Met) → Alike w c me a b → Alike w c me (x ∷ a) (x ∷ b)
alike_more w c me (Starts start) a b h = record {
  kept = kept_more (Starts start) a b h.kept;
  start = refl;
  ticks = refl;
  begun = refl;
  opening = refl;
  calls = refl;
  cell = subst (λ calls. CellAlike w (reopenings a) calls) (reopenings_alike a b h.kept lock_nodes) (cell_self w (reopenings a));
  marks = refl;
}
alike_more w c me (Ticks now) a b h = record {
  kept = kept_more (Ticks now) a b h.kept;
  start = h.start;
  ticks = ap (λ ts. now ∷ ts) h.ticks;
  begun = h.begun;
  opening = refl;
  calls = λ i. CoordinatorTicks now ∷ h.calls i;
  cell = cell_more w (CellTicks now (keep_of c)) (cell_calls c me a) (cell_calls c me b) h.cell;
  marks = h.marks;
}
alike_more w c me (Begins op text) a b h = record {
  kept = kept_more (Begins op text) a b h.kept;
  start = h.start;
  ticks = h.ticks;
  begun = ap (λ n. n + 1) h.begun;
  opening = refl;
  calls = h.calls;
  cell = h.cell;
  marks = h.marks;
}
alike_more w c me (Takes m) a b h = record {
  kept = kept_more (Takes m) a b h.kept;
  start = h.start;
  ticks = h.ticks;
  begun = h.begun;
  opening = refl;
  calls = λ i. told_by c (clock_alike a b h.ticks i) m.body ++ h.calls i;
  cell = along w (cell_calls c me a) (cell_calls c me b) (asked_in c me (clock_of a) m) (asked_in c me (clock_of b) m) (λ i. asked_in c me (clock_alike a b h.ticks i) m) h.cell;
  marks = h.marks;
}
alike_more w c me (Grants node epoch) a b h = record {
  kept = kept_more (Grants node epoch) a b h.kept;
  start = h.start;
  ticks = h.ticks;
  begun = h.begun;
  opening = h.opening;
  calls = h.calls;
  cell = along w (cell_calls c me a) (cell_calls c me b) (if_opening a (Reopens node epoch true)) (if_opening b (Reopens node epoch true)) (λ i. cond (h.opening i) (Reopens node epoch true ∷ []) []) h.cell;
  marks = h.marks;
}
alike_more w c me (Lapses node epoch) a b h = record {
  kept = kept_more (Lapses node epoch) a b h.kept;
  start = h.start;
  ticks = h.ticks;
  begun = h.begun;
  opening = h.opening;
  calls = h.calls;
  cell = along w (cell_calls c me a) (cell_calls c me b) (if_opening a (Reopens node epoch false)) (if_opening b (Reopens node epoch false)) (λ i. cond (h.opening i) (Reopens node epoch false ∷ []) []) h.cell;
  marks = h.marks;
}
alike_more w c me (Validates group position) a b h = record {
  kept = kept_more (Validates group position) a b h.kept;
  start = h.start;
  ticks = h.ticks;
  begun = h.begun;
  opening = h.opening;
  calls = λ i. validated group position (serving (h.start i) c.cells (h.calls i)) ++ h.calls i;
  cell = h.cell;
  marks = h.marks;
}
alike_more w c me (Answers op answer) a b h = record {
  kept = kept_more (Answers op answer) a b h.kept;
  start = h.start;
  ticks = h.ticks;
  begun = h.begun;
  opening = h.opening;
  calls = h.calls;
  cell = h.cell;
  marks = ap (λ marks. marks_shown answer marks) h.marks;
}
alike_more w c me Crashes a b h = record { kept = kept_more Crashes a b h.kept; start = h.start; ticks = h.ticks; begun = h.begun; opening = h.opening; calls = h.calls; cell = h.cell; marks = h.marks }
alike_more w c me (Sends m) a b h = record { kept = kept_more (Sends m) a b h.kept; start = h.start; ticks = h.ticks; begun = h.begun; opening = h.opening; calls = h.calls; cell = h.cell; marks = h.marks }
alike_more w c me (Unsends m) a b h = record { kept = kept_more (Unsends m) a b h.kept; start = h.start; ticks = h.ticks; begun = h.begun; opening = h.opening; calls = h.calls; cell = h.cell; marks = h.marks }
alike_more w c me (Counts other epoch) a b h = record { kept = kept_more (Counts other epoch) a b h.kept; start = h.start; ticks = h.ticks; begun = h.begun; opening = h.opening; calls = h.calls; cell = h.cell; marks = h.marks }
alike_more w c me (Forgets other epoch) a b h = record { kept = kept_more (Forgets other epoch) a b h.kept; start = h.start; ticks = h.ticks; begun = h.begun; opening = h.opening; calls = h.calls; cell = h.cell; marks = h.marks }
alike_more w c me (Serves epoch) a b h = record { kept = kept_more (Serves epoch) a b h.kept; start = h.start; ticks = h.ticks; begun = h.begun; opening = h.opening; calls = h.calls; cell = h.cell; marks = h.marks }
alike_more w c me (Loses epoch) a b h = record { kept = kept_more (Loses epoch) a b h.kept; start = h.start; ticks = h.ticks; begun = h.begun; opening = h.opening; calls = h.calls; cell = h.cell; marks = h.marks }
alike_more w c me (Invalidates group position) a b h = record { kept = kept_more (Invalidates group position) a b h.kept; start = h.start; ticks = h.ticks; begun = h.begun; opening = h.opening; calls = h.calls; cell = h.cell; marks = h.marks }
alike_more w c me (Decides group position entry) a b h = record { kept = kept_more (Decides group position entry) a b h.kept; start = h.start; ticks = h.ticks; begun = h.begun; opening = h.opening; calls = h.calls; cell = h.cell; marks = h.marks }
alike_more w c me (Applies group position) a b h = record { kept = kept_more (Applies group position) a b h.kept; start = h.start; ticks = h.ticks; begun = h.begun; opening = h.opening; calls = h.calls; cell = h.cell; marks = h.marks }

pub alike_onto : (w : Scope) (c : Cluster) (me : ℕ) (items a b : List Met) → Alike w c me a b → Alike w c me (onto items a) (onto items b)
alike_onto w c me [] a b h = h
alike_onto w c me (x ∷ items) a b h = alike_onto w c me items (x ∷ a) (x ∷ b) (alike_more w c me x a b h)

-- a start forgets all but what is kept
pub starts_alike : (w : Scope) (c : Cluster) (me : ℕ) (start : ℕ) (a b : List Met) → KeptAlike a b → Alike w c me (Starts start ∷ a) (Starts start ∷ b)
starts_alike w c me start a b h = record {
  kept = kept_more (Starts start) a b h;
  start = refl;
  ticks = refl;
  begun = refl;
  opening = refl;
  calls = refl;
  cell = subst (λ calls. CellAlike w (reopenings a) calls) (reopenings_alike a b h lock_nodes) (cell_self w (reopenings a));
  marks = refl;
}

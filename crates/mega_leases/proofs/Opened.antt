-- The opening of a start: a cell that is told what was granted at last keeps what a start and all that it shows tell it.
use Rattle.std.proofs.Common.{◌≡◌, ℕ, ◌-◌, ◌==◌, ◌&&◌, ◌||◌, ◌≤◌, Bool, true, false, cond, if◌then◌else◌, List, [], ◌∷◌, ◌++◌, map, flat_map, get_or, refl, sym, ap, subst, ◌∙◌, arith}
use Rattle.std.specs.Prelude.{Option, Some, None}
use Rattle.std.specs.List.{list_any}
use Rattle.std.proofs.lemmas.Bool.{false≢true}
use Rattle.std.proofs.lemmas.Bool.Decides.{nat_tests}
use Rattle.mega_base.specs.declared.names.Epoch.{Epoch}
use Rattle.mega_cluster.specs.declared.cluster.Cluster.{Cluster}
use Rattle.mega_locks.specs.declared.cell.Cell.{Cell}
use Rattle.mega_locks.specs.declared.lock.Lock.{Lock}
use Rattle.mega_locks.specs.declared.lock.Lock.TheVariants.{Free, Held, Ended}
use Rattle.mega_locks.specs.Rule.{is_above, is_same, opened, reopened}
use Rattle.mega_locks.specs.History.{Call, Reopens, Represents as Locks, first_tick, lock_of, nodes}
use Rattle.mega_locks.proofs.Marks.{same_self, not_above_self}
use Rattle.mega_coordinator.specs.declared.coordinator.Coordinator.{Coordinator}
use Rattle.mega_coordinator.specs.History.{Represents as Coordinates}
use Rattle.mega_wal.specs.History.{after_grant, after_lapse, is_epoch_below}
use Rattle.mega_rules.specs.Met.{Met, Starts, Crashes, Ticks, Begins, Takes, Sends, Unsends, Grants, Lapses, Counts, Forgets, Serves, Loses, Validates, Invalidates, Decides, Applies, Answers}
use Rattle.mega_rules.specs.Clock.{is_opening, last_done, last_tick, start_of, ticks_of}
use Rattle.mega_rules.specs.Locks.{cell_calls, last_grant, reopening, reopenings}
use Rattle.mega_rules.specs.Coordinators.{coordinator_calls}
use Rattle.mega_rules.specs.Steps.{onto}
use Rattle.mega_leases.specs.declared.numbers.Numbers.{Numbers}
use Rattle.mega_leases.specs.Numbers.{numbers_of}
use Rattle.mega_leases.specs.Opening.{AreOwed}
use Rattle.mega_leases.specs.Tells.{Tells}

-- what a cell keeps at a start of the last grant to a node
abbrev pub opened_with : Option (Epoch × Bool) → Lock
opened_with None = Free
opened_with (Some last) = opened last.0 last.1

-- a grant that is told of leads on as the last grant does
grant_opens : (last : Option (Epoch × Bool)) (epoch : Epoch) → reopened (opened_with last) epoch true ≡ opened_with (after_grant last epoch)
grant_opens None epoch = refl
grant_opens (Some last) epoch = held_or_not last.1
  where
    below : is_above epoch last.0 ≡ is_epoch_below last.0 epoch
    below = grind (arith, nat_tests)

    kept : (same test : Bool) → cond test (Held epoch None) (cond (same && false) (Ended epoch) (Held last.0 None)) ≡ opened_with (cond test (Some (epoch, true)) (Some (last.0, true)))
    kept same true = refl
    kept true false = refl
    kept false false = refl

    over : (test : Bool) → cond test (Held epoch None) (Ended last.0) ≡ opened_with (cond test (Some (epoch, true)) (Some (last.0, false)))
    over true = refl
    over false = refl

    held_or_not : (held : Bool) → reopened (opened last.0 held) epoch true ≡ opened_with (cond (is_epoch_below last.0 epoch) (Some (epoch, true)) (Some (last.0, held)))
    held_or_not true = ap (λ test. cond test (Held epoch None) (cond (is_same epoch last.0 && false) (Ended epoch) (Held last.0 None))) below ∙ kept (is_same epoch last.0) (is_epoch_below last.0 epoch)
    held_or_not false = ap (λ test. cond test (Held epoch None) (Ended last.0)) below ∙ over (is_epoch_below last.0 epoch)

lapse_opens : (epoch : Epoch) → reopened (Held epoch None) epoch false ≡ opened_with (after_lapse (Some (epoch, true)) epoch)
lapse_opens epoch =
    (λ i. cond (not_above_self epoch i) (Ended epoch) (cond (same_self epoch i && true) (Ended epoch) (Held epoch None)))
    ∙ sym (ap (λ test. opened_with (cond test (Some (epoch, false)) (Some (epoch, true)))) (same_self epoch))

-- ---- what a cell keeps of each node
abbrev pub found : ℕ → List ℕ → Bool
found node others = list_any (λ other. other == node) others

abbrev pub AreApart : List ℕ → Type 0
AreApart [] = Unit {0}
AreApart (node ∷ others) = (found node others ≡ false) × AreApart others

-- another node's last grant, and the node's own
other_opens : (node other : ℕ) (last : Option (Epoch × Bool)) (calls : List Call) → (other == node) ≡ false → lock_of (reopening other last ++ calls) node ≡ lock_of calls node
other_opens node other None calls apart = refl
other_opens node other (Some last) calls apart = ap (λ test. cond test (reopened (lock_of calls node) last.0 last.1) (lock_of calls node)) apart

own_opens : (node other : ℕ) (last : Option (Epoch × Bool)) (calls : List Call) → (other == node) ≡ true → lock_of calls node ≡ Free → lock_of (reopening other last ++ calls) node ≡ opened_with last
own_opens node other None calls own free = free
own_opens node other (Some last) calls own free =
    ap (λ test. cond test (reopened (lock_of calls node) last.0 last.1) (lock_of calls node)) own ∙ ap (λ lock. reopened lock last.0 last.1) free

pub equal_by_test : (a b : ℕ) → (a == b) ≡ true → a ≡ b
equal_by_test a b same = grind (arith, nat_tests)

none_opens : (f : ℕ → Option (Epoch × Bool)) (node : ℕ) (others : List ℕ) → found node others ≡ false → lock_of (flat_map (λ other. reopening other (f other)) others) node ≡ Free
none_opens f node [] none = refl
none_opens f node (other ∷ others) none = by (other == node) refl none (none_opens f node others)
  where
    by : (test : Bool) → (other == node) ≡ test → (test || found node others) ≡ false
        → (found node others ≡ false → lock_of (flat_map (λ more. reopening more (f more)) others) node ≡ Free) → lock_of (flat_map (λ more. reopening more (f more)) (other ∷ others)) node ≡ Free
    by true own is rest = absurd (false≢true (sym is))
    by false apart is rest = other_opens node other (f other) (flat_map (λ more. reopening more (f more)) others) apart ∙ rest is

some_opens : (f : ℕ → Option (Epoch × Bool)) (node : ℕ) (others : List ℕ) → AreApart others → found node others ≡ true → lock_of (flat_map (λ other. reopening other (f other)) others) node ≡ opened_with (f node)
some_opens f node [] apart is = absurd (false≢true is)
some_opens f node (other ∷ others) apart is = by (other == node) refl is (some_opens f node others apart.1)
  where
    by : (test : Bool) → (other == node) ≡ test → (test || found node others) ≡ true
        → (found node others ≡ true → lock_of (flat_map (λ more. reopening more (f more)) others) node ≡ opened_with (f node))
        → lock_of (flat_map (λ more. reopening more (f more)) (other ∷ others)) node ≡ opened_with (f node)
    by true own here rest =
        own_opens node other (f other) (flat_map (λ more. reopening more (f more)) others) own (none_opens f node others (subst (λ (n : ℕ). found n others ≡ false) (equal_by_test other node own) apart.0))
        ∙ ap (λ n. opened_with (f n)) (equal_by_test other node own)
    by false off there rest = other_opens node other (f other) (flat_map (λ more. reopening more (f more)) others) off ∙ rest there

nodes_apart : AreApart nodes
nodes_apart = (refl, (refl, (refl, (refl, (refl, (refl, (refl, (refl, (refl, tt)))))))))

first_opens : (f : ℕ → Option (Epoch × Bool)) (others : List ℕ) → first_tick (flat_map (λ other. reopening other (f other)) others) ≡ None
first_opens f [] = refl
first_opens f (other ∷ others) = one (f other) ∙ first_opens f others
  where
    one : (last : Option (Epoch × Bool)) → first_tick (reopening other last ++ flat_map (λ more. reopening more (f more)) others) ≡ first_tick (flat_map (λ more. reopening more (f more)) others)
    one None = refl
    one (Some last) = refl

-- ---- what a start shows
-- what was met since the start is its opening, and the cell keeps what was granted at last
record Opened (c : Cluster) (me start : ℕ) (met known : List Met) : Type 0 where
  opening : is_opening met ≡ true
  start_is : start_of met ≡ start
  told : coordinator_calls c met ≡ []
  ticks : ticks_of met ≡ []
  first : first_tick (cell_calls c me met) ≡ None
  locks : (node : ℕ) → found node nodes ≡ true → lock_of (cell_calls c me met) node ≡ opened_with (last_grant known node)

opens_at : (c : Cluster) (me start : ℕ) (met : List Met) → Opened c me start (Starts start ∷ met) met
opens_at c me start met = record {
  opening = refl;
  start_is = refl;
  told = refl;
  ticks = refl;
  first = first_opens (last_grant met) nodes;
  locks = λ node is. some_opens (last_grant met) node nodes nodes_apart is;
}

module _ (c : Cluster) (me start : ℕ) (met known : List Met) (o : Opened c me start met known) (node : ℕ) (epoch : Epoch) where
  opens_grant : Opened c me start (Grants node epoch ∷ met) (Grants node epoch ∷ known)
  opens_grant = record {
    opening = o.opening;
    start_is = o.start_is;
    told = o.told;
    ticks = o.ticks;
    first = ap (λ opening. first_tick ((if opening then Reopens node epoch true ∷ [] else []) ++ cell_calls c me met)) o.opening ∙ o.first;
    locks = λ other is.
        ap (λ opening. lock_of ((if opening then Reopens node epoch true ∷ [] else []) ++ cell_calls c me met) other) o.opening
        ∙ (ap (λ lock. cond (node == other) (reopened lock epoch true) lock) (o.locks other is) ∙ both (node == other) (last_grant known other));
  }
    where
      both : (test : Bool) (last : Option (Epoch × Bool)) → cond test (reopened (opened_with last) epoch true) (opened_with last) ≡ opened_with (cond test (after_grant last epoch) last)
      both true last = grant_opens last epoch
      both false last = refl

  opens_lapse : last_grant known node ≡ Some (epoch, true) → Opened c me start (Lapses node epoch ∷ met) (Lapses node epoch ∷ known)
  opens_lapse held = record {
    opening = o.opening;
    start_is = o.start_is;
    told = o.told;
    ticks = o.ticks;
    first = ap (λ opening. first_tick ((if opening then Reopens node epoch false ∷ [] else []) ++ cell_calls c me met)) o.opening ∙ o.first;
    locks = λ other is.
        ap (λ opening. lock_of ((if opening then Reopens node epoch false ∷ [] else []) ++ cell_calls c me met) other) o.opening
        ∙ (ap (λ lock. cond (node == other) (reopened lock epoch false) lock) (o.locks other is) ∙ both other (node == other) refl);
  }
    where
      held_at_own : (other : ℕ) → (node == other) ≡ true → last_grant known other ≡ Some (epoch, true)
      held_at_own other own = ap (last_grant known) (sym (equal_by_test node other own)) ∙ held

      both : (other : ℕ) (test : Bool) → (node == other) ≡ test
          → cond test (reopened (opened_with (last_grant known other)) epoch false) (opened_with (last_grant known other)) ≡ opened_with (cond test (after_lapse (last_grant known other) epoch) (last_grant known other))
      both other true own =
          ap (λ last. reopened (opened_with last) epoch false) (held_at_own other own)
          ∙ (lapse_opens epoch ∙ ap (λ last. opened_with (after_lapse last epoch)) (sym (held_at_own other own)))
      both other false off = refl

opens_with : (c : Cluster) (me start : ℕ) (owed met known : List Met) → AreOwed owed known → Opened c me start met known → Opened c me start (onto owed met) (onto owed known)
opens_with c me start [] met known are o = o
opens_with c me start (Lapses node epoch ∷ owed) met known are o =
    opens_with c me start owed (Lapses node epoch ∷ met) (Lapses node epoch ∷ known) are.1 (opens_lapse c me start met known o node epoch are.0)
opens_with c me start (Grants node epoch ∷ owed) met known are o =
    opens_with c me start owed (Grants node epoch ∷ met) (Grants node epoch ∷ known) are.1 (opens_grant c me start met known o node epoch)
opens_with c me start (Unsends message ∷ owed) met known are o =
    opens_with c me start owed (Unsends message ∷ met) (Unsends message ∷ known) are.1
    (record { opening = o.opening; start_is = o.start_is; told = o.told; ticks = o.ticks; first = o.first; locks = o.locks })
opens_with c me start (Decides group position entry ∷ owed) met known are o =
    opens_with c me start owed (Decides group position entry ∷ met) (Decides group position entry ∷ known) are.1
    (record { opening = o.opening; start_is = o.start_is; told = o.told; ticks = o.ticks; first = o.first; locks = o.locks })
opens_with c me start (Starts number ∷ owed) met known are o = absurd (false≢true are.0)
opens_with c me start (Crashes ∷ owed) met known are o = absurd (false≢true are.0)
opens_with c me start (Ticks now ∷ owed) met known are o = absurd (false≢true are.0)
opens_with c me start (Begins op text ∷ owed) met known are o = absurd (false≢true are.0)
opens_with c me start (Takes message ∷ owed) met known are o = absurd (false≢true are.0)
opens_with c me start (Sends message ∷ owed) met known are o = absurd (false≢true are.0)
opens_with c me start (Counts cell epoch ∷ owed) met known are o = absurd (false≢true are.0)
opens_with c me start (Forgets cell epoch ∷ owed) met known are o = absurd (false≢true are.0)
opens_with c me start (Serves epoch ∷ owed) met known are o = absurd (false≢true are.0)
opens_with c me start (Loses epoch ∷ owed) met known are o = absurd (false≢true are.0)
opens_with c me start (Validates group position ∷ owed) met known are o = absurd (false≢true are.0)
opens_with c me start (Invalidates group position ∷ owed) met known are o = absurd (false≢true are.0)
opens_with c me start (Applies group position ∷ owed) met known are o = absurd (false≢true are.0)
opens_with c me start (Answers op answer ∷ owed) met known are o = absurd (false≢true are.0)

-- the nine nodes have the same in both
same_locks : (c : Cluster) (me start : ℕ) (met known : List Met) → Opened c me start met known → map (lock_of (reopenings known)) nodes ≡ map (lock_of (cell_calls c me met)) nodes
same_locks c me start met known o = λ i. at 1 refl i ∷ at 2 refl i ∷ at 3 refl i ∷ at 4 refl i ∷ at 5 refl i ∷ at 6 refl i ∷ at 7 refl i ∷ at 8 refl i ∷ at 9 refl i ∷ []
  where
    at : (node : ℕ) → found node nodes ≡ true → lock_of (reopenings known) node ≡ lock_of (cell_calls c me met) node
    at node is = some_opens (last_grant known) node nodes nodes_apart is ∙ sym (o.locks node is)

pub started : (c : Cluster) (me start : ℕ) (numbers : Numbers) (cell : Cell) (coordinator : Coordinator) (grants : List (Option (Epoch × Bool))) (met owed : List Met)
    → 1 ≤ me → numbers ≡ numbers_of c me → Locks cell (flat_map (λ node. reopening node (get_or grants (node - 1) None)) nodes) → Coordinates start c.cells coordinator []
    → AreOwed owed met → grants ≡ map (last_grant (onto owed met)) nodes
    → Tells c me (record { numbers = numbers; clock = 0; last = None; cell = cell; coordinator = coordinator }) (onto owed (Starts start ∷ met))
started c me start numbers cell coordinator grants met owed least numbers_are told told_first are grants_are = record {
  least = least;
  numbers_are = numbers_are;
  clock_is = sym (ap last_tick o.ticks);
  last_is = sym (ap (last_done c.retry) o.ticks);
  cell_is = record { locks = known.locks ∙ same_locks c me start (onto owed (Starts start ∷ met)) (onto owed met) o; first = known.first ∙ (first_opens (last_grant (onto owed met)) nodes ∙ sym o.first) };
  coordinator_is = coe 0 1 (i. Coordinates (sym o.start_is i) c.cells coordinator (sym o.told i)) told_first;
}
  where
    o : Opened c me start (onto owed (Starts start ∷ met)) (onto owed met)
    o = opens_with c me start owed (Starts start ∷ met) met are (opens_at c me start met)

    known : Locks cell (reopenings (onto owed met))
    known = subst (λ (gs : List (Option (Epoch × Bool))). Locks cell (flat_map (λ node. reopening node (get_or gs (node - 1) None)) nodes)) grants_are told

-- A node's lock cell keeps what was granted last: from each start on, and after each step.
use Rattle.std.proofs.Common.{◌≡◌, ℕ, ◌+◌, ◌==◌, ◌≤◌, ◌&&◌, ◌||◌, nat_le, Bool, true, false, cond, List, [], ◌∷◌, ◌++◌, map, flat_map, Option, Some, None, refl, sym, ap, subst, ◌∙◌, arith}
use Rattle.std.specs.Prelude.{unwrap_or}
use Rattle.std.specs.List.{All, list_any}
use Rattle.std.proofs.lemmas.Bool.{false≢true}
use Rattle.std.proofs.lemmas.Bool.Decides.{nat_tests}
use Rattle.std.proofs.lemmas.List.Elements.{All-append, All-cons, All-head, All-nil, All-tail}
use Rattle.mega_base.specs.declared.names.Epoch.{Epoch}
use Rattle.mega_cluster.specs.declared.cluster.Cluster.{Cluster}
use Rattle.mega_locks.specs.declared.asked.Asked.{Asked}
use Rattle.mega_locks.specs.declared.asked.Asked.TheVariants.{Granted as IsGranted, Renewed, GreaterHeld, Over}
use Rattle.mega_locks.specs.declared.lock.Lock.{Lock}
use Rattle.mega_locks.specs.declared.lock.Lock.TheVariants.{Free, Held, Ended}
use Rattle.mega_locks.specs.declared.lock.Term.{Term}
use Rattle.mega_locks.specs.Rule.{after_lapse as after_gone, after_answer, answer, asked, is_above, is_over, is_same, lapse, opened, reopened, ticked}
use Rattle.mega_locks.specs.History.{Call, Asks, Reopens, Ticks as CellTicks, first_term, lapse_for, lock_of, nodes, renewal}
use Rattle.mega_locks.proofs.Marks.{not_above_self, same_is, same_self}
use Rattle.mega_wal.specs.History.{after_grant, after_lapse, is_epoch_below}
use Rattle.mega_rules.specs.Met.{Met, Starts, Crashes, Ticks, Begins, Takes, Sends, Unsends, Grants, Lapses, Counts, Forgets, Serves, Loses, Validates, Invalidates, Decides, Applies, Answers}
use Rattle.mega_coordinator.specs.declared.answers.Counted.{Counted}
use Rattle.mega_coordinator.specs.declared.answers.Counted.TheVariants.{No, Yes, Serving}
use Rattle.mega_wire.specs.declared.message.Body.{Body}
use Rattle.mega_wire.specs.declared.message.Body.TheVariants.{Where, Accept, Prepare, Invalidate, Dead, Fetch, Acquire, Top, Accepted, Refused, Promise, Invalidated, Held as HeldBody, Unheld, Decide, Have, HaveNot, Granted, Past, Request, Reply}
use Rattle.mega_wire.specs.declared.message.Message.{Message}
use Rattle.mega_rules.specs.Clock.{clock_of, is_opening}
use Rattle.mega_rules.specs.Coordinators.{counts_notes, grant_notes}
use Rattle.mega_rules.specs.Operations.{Setting}
use Rattle.mega_rules.specs.Locks.{cell_calls, grant_note, lapse_note, last_grant, reopening, reopenings}
use Rattle.mega_rules.specs.Members.{is_cell, is_full, keep_of}
use Rattle.mega_rules.specs.Steps.{onto, told_notes}
use Rattle.mega_leases.specs.Opening.{AreOwed, is_owed}
use Rattle.mega_leases.proofs.Opened.{equal_by_test}
use Rattle.mega_durable.specs.Granted.{KeepsGrants, grant_in, is_among}

-- ---- epochs
below_is : (e g : Epoch) → is_epoch_below g e ≡ is_above e g
below_is e g = grind (arith, nat_tests)

-- ---- one lock, and what was granted
abbrev pub granted_after : Asked → Epoch → Option (Epoch × Bool) → Option (Epoch × Bool)
granted_after IsGranted epoch last = after_grant last epoch
granted_after Renewed epoch last = last
granted_after (GreaterHeld greatest) epoch last = last
granted_after (Over greatest) epoch last = last

asked_keeps : (lock : Lock) (e : Epoch) (renewed : Option Term) → grant_in (asked lock e renewed) ≡ granted_after (answer lock e) e (grant_in lock)
asked_keeps Free e renewed = refl
asked_keeps (Held g r) e renewed = by (is_above e g) refl (is_same e g) refl
  where
    by : (above : Bool) → is_above e g ≡ above → (same : Bool) → is_same e g ≡ same
        → grant_in (after_answer (cond above IsGranted (cond same Renewed (GreaterHeld g))) (Held g r) e renewed) ≡ granted_after (cond above IsGranted (cond same Renewed (GreaterHeld g))) e (Some (g, true))
    by true is same s = sym (ap (λ test. cond test (Some (e, true)) (Some (g, true))) (below_is e g ∙ is))
    by false is true s = ap (λ (one : Epoch). Some (one, true)) (same_is e g s)
    by false is false s = refl
asked_keeps (Ended g) e renewed = by (is_above e g) refl
  where
    by : (above : Bool) → is_above e g ≡ above → grant_in (after_answer (cond above IsGranted (Over g)) (Ended g) e renewed) ≡ granted_after (cond above IsGranted (Over g)) e (Some (g, false))
    by true is = sym (ap (λ test. cond test (Some (e, true)) (Some (g, false))) (below_is e g ∙ is))
    by false is = refl

abbrev pub lapsed_after : Option Epoch → Option (Epoch × Bool) → Option (Epoch × Bool)
lapsed_after None last = last
lapsed_after (Some epoch) last = after_lapse last epoch

ticked_keeps : (first : Term) (now : ℕ) (lock : Lock) → grant_in (ticked first now lock) ≡ lapsed_after (lapse first now lock) (grant_in lock)
ticked_keeps first now Free = refl
ticked_keeps first now (Ended g) = refl
ticked_keeps first now (Held g r) = by (is_over (unwrap_or r first) now)
  where
    by : (over : Bool) → grant_in (after_gone (cond over (Some g) None) (Held g r)) ≡ lapsed_after (cond over (Some g) None) (Some (g, true))
    by true = sym (ap (λ test. cond test (Some (g, false)) (Some (g, true))) (same_self g))
    by false = refl

opened_keeps : (lock : Lock) (e : Epoch) → grant_in (reopened lock e true) ≡ after_grant (grant_in lock) e
opened_keeps Free e = refl
opened_keeps (Held g r) e = by (is_above e g) refl (is_same e g)
  where
    by : (above : Bool) → is_above e g ≡ above → (same : Bool)
        → grant_in (cond above (Held e None) (cond (same && false) (Ended e) (Held g r))) ≡ cond (is_epoch_below g e) (Some (e, true)) (Some (g, true))
    by true is same = sym (ap (λ test. cond test (Some (e, true)) (Some (g, true))) (below_is e g ∙ is))
    by false is true = sym (ap (λ test. cond test (Some (e, true)) (Some (g, true))) (below_is e g ∙ is))
    by false is false = sym (ap (λ test. cond test (Some (e, true)) (Some (g, true))) (below_is e g ∙ is))
opened_keeps (Ended g) e = by (is_above e g) refl
  where
    by : (above : Bool) → is_above e g ≡ above → grant_in (cond above (Held e None) (Ended g)) ≡ cond (is_epoch_below g e) (Some (e, true)) (Some (g, false))
    by true is = sym (ap (λ test. cond test (Some (e, true)) (Some (g, false))) (below_is e g ∙ is))
    by false is = sym (ap (λ test. cond test (Some (e, true)) (Some (g, false))) (below_is e g ∙ is))

is_held : Option (Epoch × Bool) → Bool
is_held None = false
is_held (Some last) = last.1

ended_keeps : (lock : Lock) (e : Epoch) → grant_in lock ≡ Some (e, true) → grant_in (reopened lock e false) ≡ after_lapse (grant_in lock) e
unfolding is_held
ended_keeps Free e held = absurd (false≢true (ap is_held held))
ended_keeps (Ended g) e held = absurd (false≢true (ap is_held held))
ended_keeps (Held g r) e held = subst (λ (one : Epoch). grant_in (reopened (Held g r) one false) ≡ after_lapse (Some (g, true)) one) is
    ((λ i. grant_in (cond (not_above_self g i) (opened g false) (cond (same_self g i && true) (Ended g) (Held g r)))) ∙ sym (ap (λ test. cond test (Some (g, false)) (Some (g, true))) (same_self g)))
  where
    epoch_in : Option (Epoch × Bool) → Epoch
    epoch_in None = g
    epoch_in (Some last) = last.0

    is : g ≡ e
    is = ap epoch_in held

-- ---- what neither tells the cell anything nor grants
abbrev pub is_still : Met → Bool
is_still (Starts start) = false
is_still (Ticks now) = false
is_still (Takes message) = false
is_still (Grants node epoch) = false
is_still (Lapses node epoch) = false
is_still _ = true

abbrev pub IsStill : Met → Type 0
IsStill one = is_still one ≡ true

-- the cell was told the same, and the same was granted
pub record TellsSame (c : Cluster) (me : ℕ) (old new : List Met) : Type 0 where
  pub calls : cell_calls c me new ≡ cell_calls c me old
  pub granted : (node : ℕ) → last_grant new node ≡ last_grant old node

pub same_told : (c : Cluster) (me : ℕ) (met : List Met) → TellsSame c me met met
same_told c me met = record { calls = refl; granted = λ node. refl }

same_then : (c : Cluster) (me : ℕ) (a b d : List Met) → TellsSame c me a b → TellsSame c me b d → TellsSame c me a d
same_then c me a b d x y = record { calls = y.calls ∙ x.calls; granted = λ node. y.granted node ∙ x.granted node }

still_same : (c : Cluster) (me : ℕ) (one : Met) (met : List Met) → IsStill one → TellsSame c me met (one ∷ met)
still_same c me (Starts start) met is = absurd (cc)
still_same c me (Ticks now) met is = absurd (cc)
still_same c me (Takes message) met is = absurd (cc)
still_same c me (Grants node epoch) met is = absurd (cc)
still_same c me (Lapses node epoch) met is = absurd (cc)
still_same c me _ met is = record { calls = refl; granted = λ node. refl }

pub stills_same : (c : Cluster) (me : ℕ) (items met : List Met) → All IsStill items → TellsSame c me met (onto items met)
stills_same c me [] met still = same_told c me met
stills_same c me (one ∷ items) met still =
    same_then c me met (one ∷ met) (onto items (one ∷ met)) (still_same c me one met (All-head IsStill one items still)) (stills_same c me items (one ∷ met) (All-tail IsStill one items still))

pub same_keeps : (c : Cluster) (me : ℕ) (old new : List Met) → TellsSame c me old new → KeepsGrants c me old → KeepsGrants c me new
same_keeps c me old new same keeps is node among = ap (λ calls. grant_in (lock_of calls node)) same.calls ∙ (keeps is node among ∙ sym (same.granted node))

-- nothing of this start's opening is met any more
still_opening : (one : Met) (met : List Met) → IsStill one → is_opening met ≡ false → is_opening (one ∷ met) ≡ false
still_opening (Starts start) met is none = absurd (cc)
still_opening (Begins op text) met is none = refl
still_opening (Ticks now) met is none = absurd (cc)
still_opening (Takes message) met is none = absurd (cc)
still_opening _ met is none = none

pub stills_opening : (items met : List Met) → All IsStill items → is_opening met ≡ false → is_opening (onto items met) ≡ false
stills_opening [] met still none = none
stills_opening (one ∷ items) met still none = stills_opening items (one ∷ met) (All-tail IsStill one items still) (still_opening one met (All-head IsStill one items still) none)

-- ---- nodes
abbrev AreApart : List ℕ → Type 0
AreApart [] = Unit {0}
AreApart (node ∷ others) = (is_among node others ≡ false) × AreApart others

pub nodes_apart : AreApart nodes
nodes_apart = (refl, (refl, (refl, (refl, (refl, (refl, (refl, (refl, (refl, tt)))))))))

-- a node among others is not the one that is not among them
other_node : (node other : ℕ) (others : List ℕ) → is_among other others ≡ false → is_among node others ≡ true → (other == node) ≡ false
other_node node other others none some = by (other == node) refl
  where
    by : (test : Bool) → (other == node) ≡ test → test ≡ false
    by false is = refl
    by true is = absurd (false≢true (sym none ∙ (ap (λ n. is_among n others) (equal_by_test other node is) ∙ some)))

-- ---- the lapses of a tick
abbrev lapses_of : (ℕ → Option Epoch) → List ℕ → List Met
lapses_of gone others = flat_map (λ node. lapse_note node (gone node)) others

pub lapses_told : (c : Cluster) (me : ℕ) (gone : ℕ → Option Epoch) (others : List ℕ) (met : List Met) → is_opening met ≡ false → cell_calls c me (onto (flat_map (λ node. lapse_note node (gone node)) others) met) ≡ cell_calls c me met
lapses_told c me gone [] met none = refl
lapses_told c me gone (node ∷ others) met none = by (gone node) (λ met. lapses_told c me gone others met)
  where
    by : (one : Option Epoch) → ((met : List Met) → is_opening met ≡ false → cell_calls c me (onto (lapses_of gone others) met) ≡ cell_calls c me met)
        → cell_calls c me (onto (lapse_note node one ++ lapses_of gone others) met) ≡ cell_calls c me met
    by None rest = rest met none
    by (Some epoch) rest = rest (Lapses node epoch ∷ met) none ∙ ap (λ opening. cond opening (Reopens node epoch false ∷ []) [] ++ cell_calls c me met) none

lapses_granted : (gone : ℕ → Option Epoch) (others : List ℕ) (met : List Met) (node : ℕ) → AreApart others
    → last_grant (onto (flat_map (λ node. lapse_note node (gone node)) others) met) node ≡ cond (is_among node others) (lapsed_after (gone node) (last_grant met node)) (last_grant met node)
lapses_granted gone [] met node apart = refl
lapses_granted gone (other ∷ others) met node apart = by (gone other) refl (λ met. lapses_granted gone others met node apart.1)
  where
    own : (one : Option Epoch) → gone other ≡ one → (test : Bool) → (other == node) ≡ test
        → cond (is_among node others) (lapsed_after (gone node) (cond test (lapsed_after one (last_grant met node)) (last_grant met node))) (cond test (lapsed_after one (last_grant met node)) (last_grant met node))
        ≡ cond (test || is_among node others) (lapsed_after (gone node) (last_grant met node)) (last_grant met node)
    own one is false off = refl
    own one is true on =
        (λ i. cond (not_there i) (lapsed_after (gone node) (lapsed_after one (last_grant met node))) (lapsed_after one (last_grant met node)))
        ∙ ap (λ found. lapsed_after found (last_grant met node)) (sym is ∙ ap gone same)
      where
        same : other ≡ node
        same = equal_by_test other node on

        not_there : is_among node others ≡ false
        not_there = ap (λ n. is_among n others) (sym same) ∙ apart.0

    kept : (one : Option Epoch) → last_grant (onto (lapse_note other one) met) node ≡ cond (other == node) (lapsed_after one (last_grant met node)) (last_grant met node)
    kept None = same (other == node)
      where
        same : (test : Bool) → last_grant met node ≡ cond test (last_grant met node) (last_grant met node)
        same true = refl
        same false = refl
    kept (Some epoch) = refl

    Rest : Type 0
    Rest = (met : List Met) → last_grant (onto (lapses_of gone others) met) node ≡ cond (is_among node others) (lapsed_after (gone node) (last_grant met node)) (last_grant met node)

    split : (one : Option Epoch) → Rest → last_grant (onto (lapse_note other one ++ lapses_of gone others) met) node
        ≡ cond (is_among node others) (lapsed_after (gone node) (last_grant (onto (lapse_note other one) met) node)) (last_grant (onto (lapse_note other one) met) node)
    split None rest = rest met
    split (Some epoch) rest = rest (Lapses other epoch ∷ met)

    by : (one : Option Epoch) → gone other ≡ one → Rest → last_grant (onto (lapse_note other (gone other) ++ lapses_of gone others) met) node
        ≡ cond ((other == node) || is_among node others) (lapsed_after (gone node) (last_grant met node)) (last_grant met node)
    by one is rest =
        split (gone other) rest
        ∙ (ap (λ (last : Option (Epoch × Bool)). cond (is_among node others) (lapsed_after (gone node) last) last) (kept (gone other))
        ∙ own (gone other) refl (other == node) refl)

-- what is held lapses at its own node
pub lapses_owed : (lock : ℕ → Lock) (first : Term) (now : ℕ) (others : List ℕ) (met : List Met) → AreApart others → ((node : ℕ) → is_among node others ≡ true → grant_in (lock node) ≡ last_grant met node)
    → (rest : List Met) → ((met : List Met) → AreOwed rest met) → AreOwed (flat_map (λ node. lapse_note node (lapse first now (lock node))) others ++ rest) met
lapses_owed lock first now [] met apart keeps rest after = after met
lapses_owed lock first now (node ∷ others) met apart keeps rest after =
    by (lock node) (keeps node (here node others)) (λ met kept. lapses_owed lock first now others met apart.1 kept rest after)
  where
    here : (node : ℕ) (others : List ℕ) → is_among node (node ∷ others) ≡ true
    here node others = ap (λ test. test || is_among node others) (self node)
      where
        self : (n : ℕ) → (n == n) ≡ true
        self n = grind (arith, nat_tests)

    there : (other : ℕ) → is_among other others ≡ true → is_among other (node ∷ others) ≡ true
    there other is = ap (λ test. test || is_among other others) (other_node other node others apart.0 is) ∙ is

    Later : Type 0
    Later = (met : List Met) → ((other : ℕ) → is_among other others ≡ true → grant_in (lock other) ≡ last_grant met other) → AreOwed (flat_map (λ node. lapse_note node (lapse first now (lock node))) others ++ rest) met

    over : (epoch : Epoch) (renewed : Option Term) (is_gone : Bool) → grant_in (Held epoch renewed) ≡ last_grant met node → Later
        → AreOwed ((lapse_note node (cond is_gone (Some epoch) None) ++ flat_map (λ node. lapse_note node (lapse first now (lock node))) others) ++ rest) met
    over epoch renewed true is later = (
      sym is,
      later (Lapses node epoch ∷ met)
          (λ other among. keeps other (there other among) ∙ sym (ap (λ test. cond test (after_lapse (last_grant met other) epoch) (last_grant met other)) (other_node other node others apart.0 among))),
    )
    over epoch renewed false is later = later met (λ other among. keeps other (there other among))

    by : (one : Lock) → grant_in one ≡ last_grant met node → Later → AreOwed ((lapse_note node (lapse first now one) ++ flat_map (λ node. lapse_note node (lapse first now (lock node))) others) ++ rest) met
    by Free is later = later met (λ other among. keeps other (there other among))
    by (Ended epoch) is later = later met (λ other among. keeps other (there other among))
    by (Held epoch renewed) is later = over epoch renewed (is_over (unwrap_or renewed first) now) is later

-- ---- a tick
pub tick_keeps : (c : Cluster) (me now : ℕ) (lease met : List Met) → All IsStill lease → KeepsGrants c me met
    → KeepsGrants c me (onto (flat_map (λ node. lapse_note node (lapse_for (cell_calls c me met) now (keep_of c) node)) nodes) (onto lease (Ticks now ∷ met)))
tick_keeps c me now lease met still keeps is node among =
    ap (λ calls. grant_in (lock_of calls node)) (lapses_told c me (λ node. lapse_for (cell_calls c me met) now (keep_of c) node) nodes (onto lease (Ticks now ∷ met)) (stills_opening lease (Ticks now ∷ met) still refl) ∙ told.calls)
    ∙ (ticked_keeps (first_term (cell_calls c me met) now (keep_of c)) now (lock_of (cell_calls c me met) node)
    ∙ (ap (λ (last : Option (Epoch × Bool)). lapsed_after (lapse_for (cell_calls c me met) now (keep_of c) node) last) (keeps is node among ∙ sym (told.granted node))
    ∙ sym (lapses_granted (λ node. lapse_for (cell_calls c me met) now (keep_of c) node) nodes (onto lease (Ticks now ∷ met)) node nodes_apart
    ∙ ap (λ test. cond test (lapsed_after (lapse_for (cell_calls c me met) now (keep_of c) node) (last_grant (onto lease (Ticks now ∷ met)) node)) (last_grant (onto lease (Ticks now ∷ met)) node)) among)))
  where
    told : TellsSame c me (Ticks now ∷ met) (onto lease (Ticks now ∷ met))
    told = stills_same c me lease (Ticks now ∷ met) still

-- ---- a request of an epoch
asked_granted : (from node : ℕ) (epoch : Epoch) (how : Asked) (met : List Met) → last_grant (onto (grant_note from epoch how) met) node ≡ cond (from == node) (granted_after how epoch (last_grant met node)) (last_grant met node)
asked_granted from node epoch IsGranted met = refl
asked_granted from node epoch Renewed met = same (from == node)
  where
    same : (test : Bool) → last_grant met node ≡ cond test (last_grant met node) (last_grant met node)
    same true = refl
    same false = refl
asked_granted from node epoch (GreaterHeld greatest) met = same (from == node)
  where
    same : (test : Bool) → last_grant met node ≡ cond test (last_grant met node) (last_grant met node)
    same true = refl
    same false = refl
asked_granted from node epoch (Over greatest) met = same (from == node)
  where
    same : (test : Bool) → last_grant met node ≡ cond test (last_grant met node) (last_grant met node)
    same true = refl
    same false = refl

asked_told : (c : Cluster) (me from : ℕ) (epoch : Epoch) (how : Asked) (met : List Met) → is_opening met ≡ false → cell_calls c me (onto (grant_note from epoch how) met) ≡ cell_calls c me met
asked_told c me from epoch IsGranted met none = ap (λ opening. cond opening (Reopens from epoch true ∷ []) [] ++ cell_calls c me met) none
asked_told c me from epoch Renewed met none = refl
asked_told c me from epoch (GreaterHeld greatest) met none = refl
asked_told c me from epoch (Over greatest) met none = refl

-- the calls of a cell that is asked, where the request is at this cell
one_asked : (calls : List Call) (from node : ℕ) (epoch : Epoch) (now keep : ℕ) (last : Option (Epoch × Bool)) → grant_in (lock_of calls node) ≡ last
    → grant_in (lock_of (Asks from epoch now keep ∷ calls) node) ≡ cond (from == node) (granted_after (answer (lock_of calls from) epoch) epoch last) last
one_asked calls from node epoch now keep last keeps = by (from == node) refl
  where
    by : (test : Bool) → (from == node) ≡ test
        → grant_in (cond test (asked (lock_of calls node) epoch (renewal calls now keep)) (lock_of calls node)) ≡ cond test (granted_after (answer (lock_of calls from) epoch) epoch last) last
    by true is =
        asked_keeps (lock_of calls node) epoch (renewal calls now keep)
        ∙ (λ i. granted_after (answer (lock_of calls (sym (equal_by_test from node is) i)) epoch) epoch (keeps i))
    by false is = keeps

if_still : (t : Bool) (items : List Met) → All IsStill items → All IsStill (cond t items [])
if_still true items h = h
if_still false items h = All-nil IsStill

unless_still : (t : Bool) (items : List Met) → All IsStill items → All IsStill (cond t [] items)
unless_still true items h = All-nil IsStill
unless_still false items h = h

count_still : (cell : ℕ) (epoch : Epoch) (was : Bool) → All IsStill (cond was [] (Counts cell epoch ∷ []))
count_still cell epoch was = unless_still was (Counts cell epoch ∷ []) (All-cons IsStill (Counts cell epoch) [] refl (All-nil IsStill))

pub still_cell : (cell : ℕ) (epoch : Epoch) (was : Bool) (counted : Counted) → All IsStill (counts_notes cell epoch was counted)
still_cell cell epoch was No = All-nil IsStill
still_cell cell epoch was Yes = count_still cell epoch was
still_cell cell epoch was Serving = All-append IsStill (cond was [] (Counts cell epoch ∷ [])) (Serves epoch ∷ []) (count_still cell epoch was) (All-cons IsStill (Serves epoch) [] refl (All-nil IsStill))

pub take_keeps : (s : Setting) (met : List Met) (m : Message) → 1 ≤ s.me → KeepsGrants s.cluster s.me met → KeepsGrants s.cluster s.me (onto (told_notes s met m.from m.body) (Takes m ∷ met))
take_keeps s met m least keeps = by m.from m.to m.body
  where
    c : Cluster
    c = s.cluster

    calls : List Call
    calls = cell_calls c s.me met

    at_cell : (from to cell : ℕ) (epoch : Epoch) (clock : ℕ) → is_cell c s.me ≡ true → (node : ℕ) → is_among node nodes ≡ true → (here : Bool) → (cell == s.me) ≡ here → (served : Bool) → nat_le s.me c.cells ≡ served
        → grant_in (lock_of (cond (here && is_cell c s.me) (Asks from epoch (clock_of met) (keep_of c) ∷ []) [] ++ calls) node)
        ≡ last_grant (onto (cond (here && served) (grant_note from epoch (answer (lock_of calls from) epoch)) []) (Takes (record { from = from; to = to; body = Acquire cell epoch clock }) ∷ met)) node
    at_cell from to cell epoch clock is node among false off served serves = keeps is node among
    at_cell from to cell epoch clock is node among true on false serves = absurd (false≢true (sym (cell_is serves) ∙ is))
      where
        cell_is : nat_le s.me c.cells ≡ false → is_cell c s.me ≡ false
        cell_is below = grind (arith, nat_tests)
    at_cell from to cell epoch clock is node among true on true serves =
        (λ i. grant_in (lock_of (cond (is i) (Asks from epoch (clock_of met) (keep_of c) ∷ []) [] ++ calls) node))
        ∙ (one_asked calls from node epoch (clock_of met) (keep_of c) (last_grant met node) (keeps is node among)
        ∙ sym (asked_granted from node epoch (answer (lock_of calls from) epoch) (Takes (record { from = from; to = to; body = Acquire cell epoch clock }) ∷ met)))

    told_same : (from to cell : ℕ) (epoch : Epoch) (clock : ℕ) (test : Bool) (met' : List Met) → is_opening met' ≡ false
        → cell_calls c s.me (onto (cond test (grant_note from epoch (answer (lock_of calls from) epoch)) []) met') ≡ cell_calls c s.me met'
    told_same from to cell epoch clock true met' none = asked_told c s.me from epoch (answer (lock_of calls from) epoch) met' none
    told_same from to cell epoch clock false met' none = refl

    other : (from to : ℕ) (body : Body) → KeepsGrants c s.me (Takes (record { from = from; to = to; body = body }) ∷ met) → All IsStill (told_notes s met from body)
        → KeepsGrants c s.me (onto (told_notes s met from body) (Takes (record { from = from; to = to; body = body }) ∷ met))
    other from to body kept still = same_keeps c s.me (Takes (record { from = from; to = to; body = body }) ∷ met) _ (stills_same c s.me (told_notes s met from body) _ still) kept

    by : (from to : ℕ) (body : Body) → KeepsGrants c s.me (onto (told_notes s met from body) (Takes (record { from = from; to = to; body = body }) ∷ met))
    by from to (Acquire cell epoch clock) = λ is node among.
        ap (λ calls. grant_in (lock_of calls node)) (told_same from to cell epoch clock (cell == s.me && nat_le s.me c.cells) (Takes (record { from = from; to = to; body = Acquire cell epoch clock }) ∷ met) refl)
        ∙ at_cell from to cell epoch clock is node among (cell == s.me) refl (nat_le s.me c.cells) refl
    by from to (Granted cell epoch clock) = other from to (Granted cell epoch clock) (λ is. keeps is) (if_still (is_full c s.me && nat_le cell c.cells) (grant_notes c met cell epoch clock) (still_cell cell epoch _ _))
    by from to (Invalidate op group position) = other from to (Invalidate op group position) (λ is. keeps is) (if_still (is_full c s.me) (Invalidates group position.0 ∷ []) (All-cons IsStill (Invalidates group position.0) [] refl (All-nil IsStill)))
    by from to (Where op group) = λ is. keeps is
    by from to (Accept op group position ballot entry) = λ is. keeps is
    by from to (Prepare op group position ballot) = λ is. keeps is
    by from to (Fetch op group position) = λ is. keeps is
    by from to (Dead op cell node) = λ is. keeps is
    by from to (Top op group position) = λ is. keeps is
    by from to (Accepted op group position ballot entry) = λ is. keeps is
    by from to (Refused op group position wanted shown entry) = λ is. keeps is
    by from to (Promise op group position ballot vote) = λ is. keeps is
    by from to (Invalidated op group position) = λ is. keeps is
    by from to (HeldBody op cell node) = λ is. keeps is
    by from to (Unheld op cell node) = λ is. keeps is
    by from to (Decide group position entry) = λ is. keeps is
    by from to (Have op group position entry) = λ is. keeps is
    by from to (HaveNot op group position) = λ is. keeps is
    by from to (Past cell epoch greatest) = λ is. keeps is
    by from to (Request token json) = λ is. keeps is
    by from to (Reply token text) = λ is. keeps is

-- ---- a start: the cell is told what was granted last
free_opens : (f : ℕ → Option (Epoch × Bool)) (node : ℕ) (others : List ℕ) → is_among node others ≡ false → lock_of (flat_map (λ other. reopening other (f other)) others) node ≡ Free
free_opens f node [] none = refl
free_opens f node (other ∷ others) none = by (other == node) refl none (free_opens f node others)
  where
    by : (test : Bool) → (other == node) ≡ test → (test || is_among node others) ≡ false
        → (is_among node others ≡ false → lock_of (flat_map (λ more. reopening more (f more)) others) node ≡ Free) → lock_of (flat_map (λ more. reopening more (f more)) (other ∷ others)) node ≡ Free
    by true own is rest = absurd (false≢true (sym is))
    by false off is rest = one (f other) ∙ rest is
      where
        one : (last : Option (Epoch × Bool)) → lock_of (reopening other last ++ flat_map (λ more. reopening more (f more)) others) node ≡ lock_of (flat_map (λ more. reopening more (f more)) others) node
        one None = refl
        one (Some last) = ap (λ test. cond test (reopened (lock_of (flat_map (λ more. reopening more (f more)) others) node) last.0 last.1) (lock_of (flat_map (λ more. reopening more (f more)) others) node)) off

grant_opened : (last : Epoch × Bool) → grant_in (opened last.0 last.1) ≡ Some last
grant_opened last = by last.0 last.1
  where
    by : (epoch : Epoch) (held : Bool) → grant_in (opened epoch held) ≡ Some (epoch, held)
    by epoch true = refl
    by epoch false = refl

reopens_keep : (f : ℕ → Option (Epoch × Bool)) (node : ℕ) (others : List ℕ) → AreApart others → is_among node others ≡ true → grant_in (lock_of (flat_map (λ other. reopening other (f other)) others) node) ≡ f node
reopens_keep f node [] apart is = absurd (false≢true is)
reopens_keep f node (other ∷ others) apart is = by (other == node) refl is (reopens_keep f node others apart.1)
  where
    after : List Call
    after = flat_map (λ more. reopening more (f more)) others

    by : (test : Bool) → (other == node) ≡ test → (test || is_among node others) ≡ true → (is_among node others ≡ true → grant_in (lock_of after node) ≡ f node)
        → grant_in (lock_of (reopening other (f other) ++ after) node) ≡ f node
    by true own here rest = one (f other) refl ∙ ap f (equal_by_test other node own)
      where
        free : lock_of after node ≡ Free
        free = free_opens f node others (ap (λ n. is_among n others) (sym (equal_by_test other node own)) ∙ apart.0)

        one : (last : Option (Epoch × Bool)) → f other ≡ last → grant_in (lock_of (reopening other last ++ after) node) ≡ last
        one None is = ap grant_in free
        one (Some last) is = (λ i. grant_in (cond (own i) (reopened (free i) last.0 last.1) (free i))) ∙ grant_opened last
    by false off there rest = one (f other) ∙ rest there
      where
        one : (last : Option (Epoch × Bool)) → grant_in (lock_of (reopening other last ++ after) node) ≡ grant_in (lock_of after node)
        one None = refl
        one (Some last) = ap (λ test. grant_in (cond test (reopened (lock_of after node) last.0 last.1) (lock_of after node))) off

-- what a start shows of a step that was cut off before it
abbrev Keeps : Cluster → ℕ → List Met → Type 0
Keeps c me met = (node : ℕ) → is_among node nodes ≡ true → grant_in (lock_of (cell_calls c me met) node) ≡ last_grant met node

opens_granted : (c : Cluster) (me : ℕ) (met : List Met) (other : ℕ) (epoch : Epoch) → is_opening met ≡ true → Keeps c me met → Keeps c me (Grants other epoch ∷ met)
opens_granted c me met other epoch opening keeps node among =
    ap (λ test. grant_in (lock_of (cond test (Reopens other epoch true ∷ []) [] ++ cell_calls c me met) node)) opening
    ∙ by (other == node)
  where
    by : (test : Bool) → grant_in (cond test (reopened (lock_of (cell_calls c me met) node) epoch true) (lock_of (cell_calls c me met) node)) ≡ cond test (after_grant (last_grant met node) epoch) (last_grant met node)
    by true = opened_keeps (lock_of (cell_calls c me met) node) epoch ∙ ap (λ (last : Option (Epoch × Bool)). after_grant last epoch) (keeps node among)
    by false = keeps node among

opens_lapsed : (c : Cluster) (me : ℕ) (met : List Met) (other : ℕ) (epoch : Epoch) → is_opening met ≡ true → last_grant met other ≡ Some (epoch, true) → Keeps c me met → Keeps c me (Lapses other epoch ∷ met)
opens_lapsed c me met other epoch opening held keeps node among =
    ap (λ test. grant_in (lock_of (cond test (Reopens other epoch false ∷ []) [] ++ cell_calls c me met) node)) opening
    ∙ by (other == node) refl
  where
    by : (test : Bool) → (other == node) ≡ test → grant_in (cond test (reopened (lock_of (cell_calls c me met) node) epoch false) (lock_of (cell_calls c me met) node)) ≡ cond test (after_lapse (last_grant met node) epoch) (last_grant met node)
    by true own =
        ended_keeps (lock_of (cell_calls c me met) node) epoch (keeps node among ∙ (ap (last_grant met) (sym (equal_by_test other node own)) ∙ held))
        ∙ ap (λ (last : Option (Epoch × Bool)). after_lapse last epoch) (keeps node among)
    by false off = keeps node among

owed_keep : (c : Cluster) (me : ℕ) (owed met known : List Met) → AreOwed owed known → is_opening met ≡ true → ((node : ℕ) → last_grant met node ≡ last_grant known node) → Keeps c me met → Keeps c me (onto owed met)
owed_keep c me [] met known are opening same keeps = keeps
owed_keep c me (Lapses node epoch ∷ owed) met known are opening same keeps =
    owed_keep c me owed (Lapses node epoch ∷ met) (Lapses node epoch ∷ known) are.1 opening (λ other. ap (λ (last : Option (Epoch × Bool)). cond (node == other) (after_lapse last epoch) last) (same other))
    (opens_lapsed c me met node epoch opening (same node ∙ are.0) keeps)
owed_keep c me (Grants node epoch ∷ owed) met known are opening same keeps =
    owed_keep c me owed (Grants node epoch ∷ met) (Grants node epoch ∷ known) are.1 opening (λ other. ap (λ (last : Option (Epoch × Bool)). cond (node == other) (after_grant last epoch) last) (same other))
    (opens_granted c me met node epoch opening keeps)
owed_keep c me (Unsends message ∷ owed) met known are opening same keeps = owed_keep c me owed (Unsends message ∷ met) (Unsends message ∷ known) are.1 opening same keeps
owed_keep c me (Decides group position entry ∷ owed) met known are opening same keeps = owed_keep c me owed (Decides group position entry ∷ met) (Decides group position entry ∷ known) are.1 opening same keeps
owed_keep c me (Starts number ∷ owed) met known are opening same keeps = absurd (false≢true are.0)
owed_keep c me (Crashes ∷ owed) met known are opening same keeps = absurd (false≢true are.0)
owed_keep c me (Ticks now ∷ owed) met known are opening same keeps = absurd (false≢true are.0)
owed_keep c me (Begins op text ∷ owed) met known are opening same keeps = absurd (false≢true are.0)
owed_keep c me (Takes message ∷ owed) met known are opening same keeps = absurd (false≢true are.0)
owed_keep c me (Sends message ∷ owed) met known are opening same keeps = absurd (false≢true are.0)
owed_keep c me (Counts cell epoch ∷ owed) met known are opening same keeps = absurd (false≢true are.0)
owed_keep c me (Forgets cell epoch ∷ owed) met known are opening same keeps = absurd (false≢true are.0)
owed_keep c me (Serves epoch ∷ owed) met known are opening same keeps = absurd (false≢true are.0)
owed_keep c me (Loses epoch ∷ owed) met known are opening same keeps = absurd (false≢true are.0)
owed_keep c me (Validates group position ∷ owed) met known are opening same keeps = absurd (false≢true are.0)
owed_keep c me (Invalidates group position ∷ owed) met known are opening same keeps = absurd (false≢true are.0)
owed_keep c me (Applies group position ∷ owed) met known are opening same keeps = absurd (false≢true are.0)
owed_keep c me (Answers op answer ∷ owed) met known are opening same keeps = absurd (false≢true are.0)

pub opening_keeps : (c : Cluster) (me number : ℕ) (met owed : List Met) → AreOwed owed met → KeepsGrants c me (onto owed (Starts number ∷ met))
opening_keeps c me number met owed are is =
    owed_keep c me owed (Starts number ∷ met) met are refl (λ node. refl) (λ node among. reopens_keep (last_grant met) node nodes nodes_apart among)

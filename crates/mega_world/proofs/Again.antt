-- A node that starts again: what its records held before, and what its cluster's run keeps.
use Rattle.std.proofs.Common.{◌≡◌, ℕ, ◌+◌, ◌-◌, ◌≤◌, ◌++◌, ◌∷◌, [], Bool, true, false, cond, List, length, flat_map, nat_lt, set, Option, Some, None, refl, sym, ap, ◌∙◌, subst, arith}
use Rattle.std.specs.List.{All, slice_get}
use Rattle.std.proofs.lemmas.List.Elements.{All-append, All-cons, All-head, All-nil, All-tail}
use Rattle.mega_base.specs.declared.names.Epoch.{Epoch}
use Rattle.mega_base.specs.declared.names.GroupId.{GroupId}
use Rattle.mega_cluster.specs.declared.cluster.Cluster.{Cluster}
use Rattle.mega_places.specs.of_leases.Opening.{AreOwed}
use Rattle.mega_wal.specs.History.{granted_of}
use Rattle.mega_wal.specs.Kept.{slot_of}
use Rattle.mega_places.specs.of_voter.of_rules.Clock.{is_up, start_of}
use Rattle.mega_places.specs.of_voter.of_rules.Met.{Met, Starts, Crashes, Ticks, Begins, Takes, Sends, Unsends, Grants, Lapses, Counts, Forgets, Serves, Loses, Validates, Invalidates, Decides, Applies, Answers}
use Rattle.mega_places.specs.of_voter.of_rules.Logs.{groups_of, prefix_of}
use Rattle.mega_places.specs.of_voter.of_rules.Members.{has_rows}
use Rattle.mega_places.specs.of_voter.of_rules.Operations.{Setting}
use Rattle.mega_places.specs.of_voter.of_rules.Steps.{crashed, onto, start, start_note, start_notes}
use Rattle.mega_places.specs.of_voter.Holding.{HoldsMet, is_no_start}
use Rattle.mega_places.proofs.of_voter.Begun.{Beside, beside_more}
use Rattle.mega_places.proofs.of_voter.Opened.{granted_without, slots_without}
use Rattle.mega_places.specs.of_voter.Journal.{journal_of}
use Rattle.mega_places.specs.of_promises.Runs.{Standing, after_append, cut_start, has_lapsed, is_kept, left_by, set_at, setting}
use Rattle.mega_places.specs.declared.fallen.Fallen.{Fallen}
use Rattle.mega_places.specs.declared.place.Place.{Place}
use Rattle.mega_places.specs.declared.place.Place.TheVariants.{Up, Down}
use Rattle.mega_places.specs.declared.log_fuse.LogFuse.{LogFuse}
use Rattle.mega_places.specs.declared.remains.Remains.{Remains}
use Rattle.mega_places.specs.Kept.{AreNodes, AreReady, IsFallen, owed_of, records_below}
use Rattle.mega_places.specs.LogFuses.{IsFused}
use Rattle.mega_places.specs.Members.{records_of}
use Rattle.mega_world.specs.Restarting.{Opens, StaysDown, started}
use Rattle.mega_places.specs.Starting.{BeginsSo, FallsAgain}
use Rattle.mega_places.specs.declared.starting.Begun.{Begun}
use Rattle.mega_places.proofs.Fuses.{fused_gone}
use Rattle.mega_places.proofs.Joining.{at_other, at_own, nodes_on}
use Rattle.mega_safety.proofs.Lapsing.{lapsed_on}
use Rattle.mega_world.proofs.Holding.{owed_crashed}

-- ---- a crash behind what is owed changes nothing that records hold
holds_beside : (records : List (List ℕ)) (starts : ℕ) (one two : List Met) → Beside one two → start_of one ≡ start_of two → HoldsMet records starts two → HoldsMet records starts one
holds_beside records starts one two beside same holds = record {
  good = holds.good;
  agrees = record {
    slots = λ group n. holds.agrees.slots group n ∙ slots_without (journal_of two) group n ∙ ap (λ items. slot_of items group n) (sym beside.journal) ∙ sym (slots_without (journal_of one) group n);
    granted = λ node. holds.agrees.granted node ∙ granted_without (journal_of two) node ∙ ap (λ items. granted_of items node) (sym beside.journal) ∙ sym (granted_without (journal_of one) node);
  };
  counted = holds.counted;
  later = subst (λ (n : ℕ). n ≤ starts) (sym same) holds.later;
  honest = beside.honest holds.honest;
}

same_start : (item : Met) (one two : List Met) → is_no_start item ≡ true → start_of one ≡ start_of two → start_of (item ∷ one) ≡ start_of (item ∷ two)
same_start (Starts start) one two is same = refl
same_start _ one two is same = same

no_start : (item : Met) (owed met : List Met) → AreOwed (item ∷ owed) met → is_no_start item ≡ true
no_start (Starts start) owed met are = let no : false ≡ true = are.0 in let none : ⊥ = cc in absurd none
no_start _ owed met are = refl

more_owed : (item : Met) (owed met : List Met) → AreOwed (item ∷ owed) met → AreOwed owed (item ∷ met)
more_owed (Lapses node epoch) owed met are = are.1
more_owed _ owed met are = are.1

owed_holds : (records : List (List ℕ)) (starts : ℕ) (owed known one two : List Met) → AreOwed owed known → Beside one two → start_of one ≡ start_of two → HoldsMet records starts (onto owed two) → HoldsMet records starts (onto owed one)
owed_holds records starts [] known one two are beside same holds = holds_beside records starts one two beside same holds
owed_holds records starts (item ∷ owed) known one two are beside same holds =
    let none = no_start item owed known are in
    owed_holds records starts owed (item ∷ known) (item ∷ one) (item ∷ two) (more_owed item owed known are) (beside_more item one two none beside) (same_start item one two none same) holds

pub again_holds : (records : List (List ℕ)) (starts : ℕ) (owed met : List Met) → AreOwed owed met → HoldsMet records starts (onto owed met) → HoldsMet records starts (onto owed (Crashes ∷ met))
again_holds records starts owed met are holds =
    owed_holds records starts owed met (Crashes ∷ met) met are (record { journal = refl; made = λ group n. refl; honest = λ honest. (tt, honest) }) refl holds

-- ---- a start is met, and nothing that it shows is a crash
abbrev IsNoCrash : Met → Type 0
IsNoCrash Crashes = ⊥
IsNoCrash _ = Unit {0}

up_more : (item : Met) (met : List Met) → IsNoCrash item → is_up met ≡ true → is_up (item ∷ met) ≡ true
up_more (Starts count) met ok up = refl
up_more Crashes met ok up = absurd ok
up_more (Ticks now) met ok up = up
up_more (Begins op text) met ok up = up
up_more (Takes message) met ok up = up
up_more (Sends message) met ok up = up
up_more (Unsends message) met ok up = up
up_more (Grants other epoch) met ok up = up
up_more (Lapses other epoch) met ok up = up
up_more (Counts cell epoch) met ok up = up
up_more (Forgets cell epoch) met ok up = up
up_more (Serves epoch) met ok up = up
up_more (Loses epoch) met ok up = up
up_more (Validates group position) met ok up = up
up_more (Invalidates group position) met ok up = up
up_more (Decides group position entry) met ok up = up
up_more (Applies group position) met ok up = up
up_more (Answers op answer) met ok up = up

owed_up : (owed known met : List Met) → AreOwed owed known → is_up met ≡ true → is_up (onto owed met) ≡ true
owed_up [] known met are up = up
owed_up (item ∷ owed) known met are up = owed_up owed (item ∷ known) (item ∷ met) (more_owed item owed known are) (up_more item met (no_crash item are) up)
  where
    no_crash : (one : Met) → AreOwed (one ∷ owed) known → IsNoCrash one
    no_crash Crashes are = let no : false ≡ true = are.0 in let none : ⊥ = cc in absurd none
    no_crash _ are = tt

owed_start : (owed known met : List Met) → AreOwed owed known → start_of (onto owed met) ≡ start_of met
owed_start [] known met are = refl
owed_start (item ∷ owed) known met are = owed_start owed (item ∷ known) (item ∷ met) (more_owed item owed known are) ∙ by item (no_start item owed known are)
  where
    by : (one : Met) → is_no_start one ≡ true → start_of (one ∷ met) ≡ start_of met
    by (Starts start) is = let none : ⊥ = cc in absurd none
    by _ is = refl

-- ---- what a start applied
pub record Plain (old new : List Met) : Type 0 where
  pub up : is_up old ≡ true → is_up new ≡ true
  pub start : start_of new ≡ start_of old
  pub lapsed : (node : ℕ) (epoch : Epoch) → has_lapsed new node epoch ≡ has_lapsed old node epoch

abbrev is_applying : Met → Bool
is_applying (Applies group position) = true
is_applying _ = false

abbrev IsQuiet : Met → Type 0
IsQuiet one = is_applying one ≡ true

plain_one : (one : Met) (met : List Met) → IsQuiet one → Plain met (one ∷ met)
plain_one (Applies group position) met quiet = record { up = λ was. was; start = refl; lapsed = λ other at. refl }
plain_one _ met quiet = let none : ⊥ = cc in absurd none

pub plain_all : (items met : List Met) → All IsQuiet items → Plain met (onto items met)
plain_all [] met quiet = record { up = λ was. was; start = refl; lapsed = λ node epoch. refl }
plain_all (one ∷ items) met quiet =
    let first = plain_one one met (All-head IsQuiet one items quiet) in
    let rest = plain_all items (one ∷ met) (All-tail IsQuiet one items quiet) in record {
      up = λ was. rest.up (first.up was);
      start = rest.start ∙ first.start;
      lapsed = λ node epoch. rest.lapsed node epoch ∙ first.lapsed node epoch;
    }

applied_quiet : (known : List Met) (groups : List GroupId) → All IsQuiet (flat_map (start_note known) groups)
applied_quiet known [] = All-nil IsQuiet
applied_quiet known (group ∷ groups) = All-append IsQuiet (start_note known group) (flat_map (start_note known) groups) (by (nat_lt 0 (prefix_of known group))) (applied_quiet known groups)
  where
    by : (t : Bool) → All IsQuiet (cond t (Applies group (prefix_of known group) ∷ []) [])
    by true = All-cons IsQuiet (Applies group (prefix_of known group)) [] refl (All-nil IsQuiet)
    by false = All-nil IsQuiet

if_quiet : (t : Bool) (notes : List Met) → All IsQuiet notes → All IsQuiet (cond t notes [])
if_quiet true notes quiet = quiet
if_quiet false notes quiet = All-nil IsQuiet

pub notes_quiet : (s : Setting) (known : List Met) → All IsQuiet (start_notes s known)
notes_quiet s known = if_quiet (has_rows s.cluster s.me) (flat_map (start_note known) (groups_of known)) (applied_quiet known (groups_of known))

onto_two : (xs ys met : List Met) → onto (xs ++ ys) met ≡ onto ys (onto xs met)
onto_two [] ys met = refl
onto_two (x ∷ xs) ys met = onto_two xs ys (x ∷ met)

-- a node that started: what it met, in two parts
pub start_met : (s : Setting) (number : ℕ) (owed met : List Met) → (start s number owed met).met ≡ onto (start_notes s (onto owed (Starts number ∷ met))) (onto owed (Starts number ∷ met))
start_met s number owed met = onto_two (Starts number ∷ owed) (start_notes s (onto owed (Starts number ∷ met))) met

pub started_up : (s : Setting) (number : ℕ) (owed met : List Met) → AreOwed owed met → is_up (start s number owed met).met ≡ true
started_up s number owed met are =
    ap is_up (start_met s number owed met) ∙ (plain_all (start_notes s (onto owed (Starts number ∷ met))) (onto owed (Starts number ∷ met)) (notes_quiet s (onto owed (Starts number ∷ met)))).up (owed_up owed met (Starts number ∷ met) are refl)

pub started_number : (s : Setting) (number : ℕ) (owed met : List Met) → AreOwed owed met → start_of (start s number owed met).met ≡ number
started_number s number owed met are =
    ap start_of (start_met s number owed met) ∙ (plain_all (start_notes s (onto owed (Starts number ∷ met))) (onto owed (Starts number ∷ met)) (notes_quiet s (onto owed (Starts number ∷ met)))).start
    ∙ owed_start owed met (Starts number ∷ met) are

lapsed_alike : (items one two : List Met) → ((node : ℕ) (epoch : Epoch) → has_lapsed one node epoch ≡ has_lapsed two node epoch) → (node : ℕ) (epoch : Epoch) → has_lapsed (onto items one) node epoch ≡ has_lapsed (onto items two) node epoch
lapsed_alike items one two same = lapsed_on items two one same

pub started_lapsed : (s : Setting) (number : ℕ) (owed met : List Met) (node : ℕ) (epoch : Epoch) → has_lapsed (start s number owed met).met node epoch ≡ has_lapsed (onto owed met) node epoch
started_lapsed s number owed met node epoch =
    ap (λ all. has_lapsed all node epoch) (start_met s number owed met)
    ∙ (plain_all (start_notes s (onto owed (Starts number ∷ met))) (onto owed (Starts number ∷ met)) (notes_quiet s (onto owed (Starts number ∷ met)))).lapsed node epoch
    ∙ lapsed_alike owed (Starts number ∷ met) met (λ other at. refl) node epoch

-- ---- the nodes once one started
pub begins_at : (c : Cluster) (now : Standing) (me : ℕ) (places : List Place) (fallen : Fallen) (begun : Begun) → AreNodes c places now → 1 ≤ me → me ≤ length places
    → IsFallen c me fallen (now.starts me) (now.owed me) (now.node me).met (now.log_fuse me) → BeginsSo c me (now.starts me) (now.owed me) (now.node me).met (now.log_fuse me) fallen.owed begun
    → Opens c now me (set places (me - 1) (Up begun.member)) (record { start = begun.start; owed = begun.owed; notes = begun.notes })
begins_at c now me places fallen begun all least most is begins = record {
  long = begins.long;
  number = begins.number;
  owed = ap owed_of begins.owes ∙ is.owes;
  notes = begins.notes;
  nodes = λ h. nodes_on c places me (Up begun.member) (start (setting c h me) (now.starts me + 1) (now.owed me) (now.node me).met) now (started c h now me) all least most
      (begins.is h, started_up (setting c h me) (now.starts me + 1) (now.owed me) (now.node me).met is.follows) refl
      (λ other apart. record {
        starts = at_other now.starts me other (now.starts me + 1) apart;
        owed = at_other now.owed me other [] apart;
        ruled = at_other now.node me other (start (setting c h me) (now.starts me + 1) (now.owed me) (now.node me).met) apart;
        fuse = at_other now.log_fuse me other (after_append (now.log_fuse me)) apart;
      })
      (record {
        started = at_own now.starts me (now.starts me + 1) ∙ sym (started_number (setting c h me) (now.starts me + 1) (now.owed me) (now.node me).met is.follows);
        unowed = at_own now.owed me [];
        fused = subst (IsFused begun.member.fuse (records_of begun.member)) (sym (at_own now.log_fuse me (after_append (now.log_fuse me)))) begins.fused;
      });
}

-- or its start was cut off
pub stays_at : (c : Cluster) (now : Standing) (me : ℕ) (places : List Place) (was fallen : Fallen) → AreNodes c places now → 1 ≤ me → me ≤ length places
    → IsFallen c me was (now.starts me) (now.owed me) (now.node me).met (now.log_fuse me) → FallsAgain (now.starts me) (now.owed me) (now.node me).met (now.log_fuse me) was.owed fallen
    → StaysDown c now me (set places (me - 1) (Down fallen))
stays_at c now me places was fallen all least most is again = record {
  burning = again.burning;
  nodes = nodes_on c places me (Down fallen) (crashed (now.node me)) now (cut_start now me (left_by (now.log_fuse me)) (set_at now.log_fuse me None) now.data_fuse) all least most refl refl
      (λ other apart. record {
        starts = at_other now.starts me other counts apart;
        owed = refl;
        ruled = at_other now.node me other (crashed (now.node me)) apart;
        fuse = at_other now.log_fuse me other None apart;
      })
      (record {
        follows = owed_crashed (now.owed me) (now.node me).met is.follows;
        holds = subst (λ (left : Remains). HoldsMet (records_below left).list.items (set_at now.starts me counts me) (onto (now.owed me) (Crashes ∷ (now.node me).met))) (sym again.remains)
            (subst (λ (n : ℕ). HoldsMet again.records.list.items n (onto (now.owed me) (Crashes ∷ (now.node me).met))) (sym (at_own now.starts me counts))
            (again_holds again.records.list.items counts (now.owed me) (now.node me).met is.follows again.holds));
        ready = subst (λ (left : Remains). AreReady c me left (set_at now.starts me counts me) (onto (now.owed me) (Crashes ∷ (now.node me).met))) (sym again.remains) tt;
        owes = ap owed_of again.owes ∙ is.owes;
        fused = subst (λ (left : Remains). IsFused fallen.fuse (records_below left) (set_at now.log_fuse me None me)) (sym again.remains)
            (subst (IsFused fallen.fuse again.records) (sym (at_own now.log_fuse me None)) (subst (λ (f : Option LogFuse). IsFused f again.records None) (sym again.unset) (fused_gone again.records again.gone)));
      });
}
  where
    counts : ℕ
    counts = cond (is_kept (left_by (now.log_fuse me))) (now.starts me + 1) (now.starts me)

-- what stands in the place of a node that is down
pub fallen_at_place : (c : Cluster) (places : List Place) (now : Standing) (me : ℕ) (place : Place) (fallen : Fallen) → AreNodes c places now → 1 ≤ me → slice_get places (me - 1) ≡ Some place → place ≡ Down fallen
    → IsFallen c me fallen (now.starts me) (now.owed me) (now.node me).met (now.log_fuse me)
fallen_at_place c places now me place fallen all least there down =
    let e : me - 1 + 1 ≡ me = omega (arith, least) in
    subst (λ (n : ℕ). IsFallen c n fallen (now.starts n) (now.owed n) (now.node n).met (now.log_fuse n)) e (all.kept.each (me - 1) (Down fallen) (there ∙ ap Some down))

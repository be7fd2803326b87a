-- The grants and lapses of a node, against what the cell keeps for it.
use Rattle.std.proofs.Common.{◌≡◌, ℕ, ◌+◌, ◌<◌, ◌≤◌, ◌==◌, ◌&&◌, Bool, true, false, not, cond, List, [], ◌∷◌, ◌++◌, refl, sym, ap, subst, ◌∙◌, arith, append_assoc, zero-add}
use Rattle.std.specs.Prelude.{Option, Some, None, unwrap_or, option_map}
use Rattle.std.proofs.lemmas.Bool.Decides.{nat_tests}
use Rattle.mega_base.specs.declared.names.Epoch.{Epoch}
use Rattle.mega_locks.specs.declared.asked.Asked.TheVariants.{Granted, Renewed, GreaterHeld, Over}
use Rattle.mega_locks.specs.declared.lock.Lock.{Lock}
use Rattle.mega_locks.specs.declared.lock.Lock.TheVariants.{Free, Held, Ended}
use Rattle.mega_locks.specs.declared.lock.Term.{Term}
use Rattle.mega_locks.specs.Rule.{after_answer, after_lapse, answer, asked, held_epoch, is_above, is_over, is_same, lapse, opened, reopened, ticked}
use Rattle.mega_locks.specs.History.{Call, Reopens, Asks, Ticks, first_term, first_tick, held_for, lapse_for, lock_of, renewal, term}
use Rattle.mega_locks.specs.Laws.{AllBelow, Grants, IsEnded, IsRising, Lapses, Mark, StaysEnded, due_epoch, granted_marks, grants, is_kept, lapsed_marks, last_renewal, marks, opened_marks, opens, reopened_marks, standing}

-- ---- the order of epochs
pub above_trans : (a b c : Epoch) → is_above a b ≡ true → is_above b c ≡ true → is_above a c ≡ true
above_trans a b c h k = grind (arith, nat_tests)

pub above_apart : (a b : Epoch) → is_above a b ≡ true → is_same b a ≡ false
above_apart a b h = grind (arith, nat_tests)

pub same_self : (a : Epoch) → is_same a a ≡ true
same_self a = grind (arith, nat_tests)

pub not_above_self : (a : Epoch) → is_above a a ≡ false
not_above_self a = grind (arith, nat_tests)

pub same_is : (a b : Epoch) → is_same a b ≡ true → a ≡ b
same_is a b h = λ i. record { start = starts i; count = counts i }
  where
    starts : a.start ≡ b.start
    starts = grind (arith, nat_tests)

    counts : a.count ≡ b.count
    counts = grind (arith, nat_tests)

first_of_both : (a b : Bool) → (a && b) ≡ true → a ≡ true
first_of_both true b h = refl
first_of_both false b h = h

-- ---- lists of marks
-- the newest epoch that was granted
abbrev pub newest : List Mark → Option Epoch
newest [] = None
newest (Grants e ∷ before) = Some e
newest (Lapses e ∷ before) = newest before

-- what is above an epoch is above all that are below it
below_more : (e g : Epoch) (ms : List Mark) → is_above e g ≡ true → AllBelow g ms → AllBelow e ms
below_more e g [] h below = tt
below_more e g (Grants f ∷ ms) h below = (above_trans e g f h below.0, below_more e g ms h below.1)
below_more e g (Lapses f ∷ ms) h below = below_more e g ms h below

below_newest : (e g : Epoch) (ms : List Mark) → IsRising ms → newest ms ≡ Some g → is_above e g ≡ true → AllBelow e ms
below_newest e g [] rising new h = tt
below_newest e g (Grants f ∷ ms) rising new h = (above_f, below_more e f ms above_f rising.0)
  where
    f_is : f ≡ g
    f_is = cc

    above_f : is_above e f ≡ true
    above_f = ap (is_above e) f_is ∙ h
below_newest e g (Lapses f ∷ ms) rising new h = below_newest e g ms rising.1 new h

below_none : (e : Epoch) (ms : List Mark) → newest ms ≡ None → AllBelow e ms
below_none e [] new = tt
below_none e (Grants f ∷ ms) new = cc
below_none e (Lapses f ∷ ms) new = below_none e ms new

-- ---- a lock and the marks of its node
abbrev pub greatest : Lock → Option Epoch
greatest Free = None
greatest (Held e renewed) = Some e
greatest (Ended e) = Some e

pub record Fits (lock : Lock) (ms : List Mark) : Type 0 where
  pub held : held_epoch lock ≡ standing ms
  pub top : greatest lock ≡ newest ms
  pub rising : IsRising ms

fits_grant : (lock : Lock) (ms : List Mark) (e : Epoch) (r : Option Term) → Fits lock ms → AllBelow e ms → Fits (Held e r) (Grants e ∷ ms)
fits_grant lock ms e r fits below = record { held = refl; top = refl; rising = (below, fits.rising) }

fits_lapse : (e : Epoch) (r : Option Term) (ms : List Mark) → Fits (Held e r) ms → Fits (Ended e) (Lapses e ∷ ms)
fits_lapse e r ms fits = record { held = refl; top = fits.top; rising = (sym fits.held, fits.rising) }

fits_open : (lock : Lock) (ms : List Mark) (e : Epoch) (held : Bool) → Fits lock ms → AllBelow e ms → Fits (opened e held) (opened_marks e held ++ ms)
fits_open lock ms e true fits below = fits_grant lock ms e None fits below
fits_open lock ms e false fits below = fits_lapse e None (Grants e ∷ ms) (fits_grant lock ms e None fits below)

fits_renewed : (e : Epoch) (r s : Option Term) (ms : List Mark) → Fits (Held e r) ms → Fits (Held e s) ms
fits_renewed e r s ms fits = record { held = fits.held; top = fits.top; rising = fits.rising }

fits_asked : (lock : Lock) (ms : List Mark) (e : Epoch) (r : Option Term) → Fits lock ms → Fits (asked lock e r) (granted_marks (answer lock e) e ++ ms)
fits_asked Free ms e r fits = fits_grant Free ms e r fits (below_none e ms (sym fits.top))
fits_asked (Held g s) ms e r fits = by_order (is_above e g) refl
  where
    by_same : (test : Bool) → is_same e g ≡ test → Fits (after_answer (cond test Renewed (GreaterHeld g)) (Held g s) e r) (granted_marks (cond test Renewed (GreaterHeld g)) e ++ ms)
    by_same true h = fits_renewed e s r ms (subst (λ (f : Epoch). Fits (Held f s) ms) (sym (same_is e g h)) fits)
    by_same false h = fits

    by_order : (test : Bool) → is_above e g ≡ test → Fits (after_answer (cond test Granted (cond (is_same e g) Renewed (GreaterHeld g))) (Held g s) e r) (granted_marks (cond test Granted (cond (is_same e g) Renewed (GreaterHeld g))) e ++ ms)
    by_order true h = fits_grant (Held g s) ms e r fits (below_newest e g ms fits.rising (sym fits.top) h)
    by_order false h = by_same (is_same e g) refl
fits_asked (Ended g) ms e r fits = by_order (is_above e g) refl
  where
    by_order : (test : Bool) → is_above e g ≡ test → Fits (after_answer (cond test Granted (Over g)) (Ended g) e r) (granted_marks (cond test Granted (Over g)) e ++ ms)
    by_order true h = fits_grant (Ended g) ms e r fits (below_newest e g ms fits.rising (sym fits.top) h)
    by_order false h = fits

fits_reopened : (lock : Lock) (ms : List Mark) (e : Epoch) (held : Bool) → Fits lock ms → Fits (reopened lock e held) (reopened_marks lock e held ++ ms)
fits_reopened Free ms e held fits = fits_open Free ms e held fits (below_none e ms (sym fits.top))
fits_reopened (Held g s) ms e held fits = by_order (is_above e g) refl
  where
    by_end : (test : Bool) → (is_same e g && not held) ≡ test → Fits (cond test (Ended e) (Held g s)) (cond test (Lapses e ∷ []) [] ++ ms)
    by_end true h = fits_lapse e s ms (subst (λ (f : Epoch). Fits (Held f s) ms) (sym (same_is e g (first_of_both (is_same e g) (not held) h))) fits)
    by_end false h = fits

    by_order : (test : Bool) → is_above e g ≡ test → Fits (cond test (opened e held) (cond (is_same e g && not held) (Ended e) (Held g s))) (cond test (opened_marks e held) (cond (is_same e g && not held) (Lapses e ∷ []) []) ++ ms)
    by_order true h = fits_open (Held g s) ms e held fits (below_newest e g ms fits.rising (sym fits.top) h)
    by_order false h = by_end (is_same e g && not held) refl
fits_reopened (Ended g) ms e held fits = by_order (is_above e g) refl
  where
    by_order : (test : Bool) → is_above e g ≡ test → Fits (cond test (opened e held) (Ended g)) (cond test (opened_marks e held) [] ++ ms)
    by_order true h = fits_open (Ended g) ms e held fits (below_newest e g ms fits.rising (sym fits.top) h)
    by_order false h = fits

fits_ticked : (lock : Lock) (ms : List Mark) (first : Term) (now : ℕ) → Fits lock ms → Fits (ticked first now lock) (lapsed_marks (lapse first now lock) ++ ms)
fits_ticked Free ms first now fits = fits
fits_ticked (Held e r) ms first now fits = by_time (is_over (unwrap_or r first) now)
  where
    by_time : (test : Bool) → Fits (after_lapse (cond test (Some e) None) (Held e r)) (lapsed_marks (cond test (Some e) None) ++ ms)
    by_time true = fits_lapse e r ms fits
    by_time false = fits
fits_ticked (Ended e) ms first now fits = fits

fits_at : (test : Bool) (lock other : Lock) (ms more : List Mark) → Fits lock ms → (Fits lock ms → Fits other more) → Fits (cond test other lock) (cond test more ms)
fits_at true lock other ms more fits step = step fits
fits_at false lock other ms more fits step = fits

pub fits_calls : (calls : List Call) (node : ℕ) → Fits (lock_of calls node) (marks calls node)
fits_calls [] node = record { held = refl; top = refl; rising = tt }
fits_calls (Reopens other e held ∷ before) node =
    fits_at (other == node) (lock_of before node) _ (marks before node) _ (fits_calls before node) (fits_reopened (lock_of before node) (marks before node) e held)
fits_calls (Asks other e now keep ∷ before) node =
    fits_at (other == node) (lock_of before node) _ (marks before node) _ (fits_calls before node) (fits_asked (lock_of before node) (marks before node) e (renewal before now keep))
fits_calls (Ticks now keep ∷ before) node = fits_ticked (lock_of before node) (marks before node) (first_term before now keep) now (fits_calls before node)

-- ---- an epoch is granted once
none_below : (e : Epoch) (ms : List Mark) → AllBelow e ms → grants e ms ≡ 0
none_below e [] below = refl
none_below e (Grants g ∷ ms) below = let h = above_apart e g below.0 in rw h (zero-add (grants e ms) ∙ none_below e ms below.1)
none_below e (Lapses g ∷ ms) below = none_below e ms below

at_most_once : (e : Epoch) (ms : List Mark) → IsRising ms → grants e ms ≤ 1
at_most_once e [] rising = omega arith
at_most_once e (Grants g ∷ ms) rising = by_same (is_same g e) refl (at_most_once e ms rising.1)
  where
    by_same : (test : Bool) → is_same g e ≡ test → grants e ms ≤ 1 → cond test 1 0 + grants e ms ≤ 1
    by_same true h rest = let none = subst (λ (f : Epoch). grants f ms ≡ 0) (same_is g e h) (none_below g ms rising.0) in omega arith
    by_same false h rest = omega arith
at_most_once e (Lapses g ∷ ms) rising = at_most_once e ms rising.1

pub once : (calls : List Call) (node : ℕ) (e : Epoch) → grants e (marks calls node) ≤ 1
once calls node e = at_most_once e (marks calls node) (fits_calls calls node).rising

-- ---- what ended stays ended
-- later calls put their marks before the earlier ones
more_at : (test : Bool) (new ms before : List Mark) → ((more : List Mark) × (ms ≡ more ++ before)) → (more : List Mark) × (cond test (new ++ ms) ms ≡ more ++ before)
more_at true new ms before (more, e) = (new ++ more, ap (λ v. new ++ v) e ∙ sym (append_assoc new more before))
more_at false new ms before (more, e) = (more, e)

marks_later : (later before : List Call) (node : ℕ) → (more : List Mark) × (marks (later ++ before) node ≡ more ++ marks before node)
marks_later [] before node = ([], refl)
marks_later (Reopens other e held ∷ later) before node = more_at (other == node) (reopened_marks (lock_of (later ++ before) node) e held) (marks (later ++ before) node) (marks before node) (marks_later later before node)
marks_later (Asks other e now keep ∷ later) before node = more_at (other == node) (granted_marks (answer (lock_of (later ++ before) node) e) e) (marks (later ++ before) node) (marks before node) (marks_later later before node)
marks_later (Ticks now keep ∷ later) before node = more_at true (lapsed_marks (lapse_for (later ++ before) now keep node)) (marks (later ++ before) node) (marks before node) (marks_later later before node)

grants-append : (e : Epoch) (more ms : List Mark) → grants e ms ≤ grants e (more ++ ms)
grants-append e [] ms = omega arith
grants-append e (Grants g ∷ more) ms = omega (arith, grants-append e more ms)
grants-append e (Lapses g ∷ more) ms = grants-append e more ms

not_standing : (e : Epoch) (more ms : List Mark) → IsRising (more ++ ms) → 0 < grants e ms → (standing ms ≡ Some e → ⊥) → standing (more ++ ms) ≡ Some e → ⊥
not_standing e [] ms rising given ended h = ended h
not_standing e (Grants g ∷ more) ms rising given ended h = absurd (omega (arith, none_below e (more ++ ms) below, grants-append e more ms))
  where
    g_is : g ≡ e
    g_is = cc

    below : AllBelow e (more ++ ms)
    below = subst (λ (f : Epoch). AllBelow f (more ++ ms)) g_is rising.0
not_standing e (Lapses g ∷ more) ms rising given ended h = cc

-- a grant is of an epoch that was never granted
granted_is_new : (lock : Lock) (ms : List Mark) (e : Epoch) → Fits lock ms → answer lock e ≡ Granted → grants e ms ≡ 0
granted_is_new Free ms e fits h = none_below e ms (below_none e ms (sym fits.top))
granted_is_new (Held g r) ms e fits h = by_order (is_above e g) refl h
  where
    by_same : (test : Bool) → cond test Renewed (GreaterHeld g) ≡ Granted → ⊥
    by_same true e = cc
    by_same false e = cc

    by_order : (test : Bool) → is_above e g ≡ test → cond test Granted (cond (is_same e g) Renewed (GreaterHeld g)) ≡ Granted → grants e ms ≡ 0
    by_order true above is = none_below e ms (below_newest e g ms fits.rising (sym fits.top) above)
    by_order false above is = absurd (by_same (is_same e g) is)
granted_is_new (Ended g) ms e fits h = by_order (is_above e g) refl h
  where
    by_order : (test : Bool) → is_above e g ≡ test → cond test Granted (Over g) ≡ Granted → grants e ms ≡ 0
    by_order true above is = none_below e ms (below_newest e g ms fits.rising (sym fits.top) above)
    by_order false above is = cc

ends_for_good : (lock old : Lock) (all more ms : List Mark) (e : Epoch) → Fits lock all → Fits old ms → all ≡ more ++ ms → 0 < grants e ms → (held_epoch old ≡ Some e → ⊥) → held_epoch lock ≡ Some e → ⊥
ends_for_good lock old all more ms e fits was is given ended h =
    not_standing e more ms (subst IsRising is fits.rising) given (λ k. ended (was.held ∙ k)) (ap standing (sym is) ∙ (sym fits.held ∙ h))

not_again : (lock : Lock) (all more ms : List Mark) (e : Epoch) → Fits lock all → all ≡ more ++ ms → 0 < grants e ms → answer lock e ≡ Granted → ⊥
not_again lock all more ms e fits is given h = let new = granted_is_new lock all e fits h in let same = ap (grants e) is in let kept = grants-append e more ms in omega arith

pub for_good : (later before : List Call) (node : ℕ) (e : Epoch) → IsEnded before node e → StaysEnded (later ++ before) node e
for_good later before node e ended = let marked = marks_later later before node in record {
  not_held = ends_for_good (lock_of (later ++ before) node) (lock_of before node) (marks (later ++ before) node) marked.0 (marks before node) e (fits_calls (later ++ before) node) (fits_calls before node) marked.1 ended.granted ended.ended;
  not_granted = not_again (lock_of (later ++ before) node) (marks (later ++ before) node) marked.0 (marks before node) e (fits_calls (later ++ before) node) marked.1 ended.granted;
}

-- ---- when a time counts from
-- where an epoch is held, it was renewed last at this
abbrev RenewedAt : Lock → Option Term → Type 0
RenewedAt (Held e r) s = r ≡ s
RenewedAt _ s = Unit {0}

renewed_asked : (lock : Lock) (e : Epoch) (r s : Option Term) → RenewedAt lock s → RenewedAt (asked lock e r) (cond (is_kept (answer lock e)) r s)
renewed_asked Free e r s h = refl
renewed_asked (Held g t) e r s h = by_order (is_above e g) (is_same e g)
  where
    by_order : (above same : Bool) → RenewedAt (after_answer (cond above Granted (cond same Renewed (GreaterHeld g))) (Held g t) e r) (cond (is_kept (cond above Granted (cond same Renewed (GreaterHeld g)))) r s)
    by_order true same = refl
    by_order false true = refl
    by_order false false = h
renewed_asked (Ended g) e r s h = by_order (is_above e g)
  where
    by_order : (above : Bool) → RenewedAt (after_answer (cond above Granted (Over g)) (Ended g) e r) (cond (is_kept (cond above Granted (Over g))) r s)
    by_order true = refl
    by_order false = tt

renewed_opened : (e : Epoch) (held : Bool) → RenewedAt (opened e held) None
renewed_opened e true = refl
renewed_opened e false = tt

renewed_reopened : (lock : Lock) (e : Epoch) (held : Bool) (s : Option Term) → RenewedAt lock s → RenewedAt (reopened lock e held) (cond (opens lock e) None s)
renewed_reopened Free e held s h = renewed_opened e held
renewed_reopened (Held g t) e held s h = by_order (is_above e g) (is_same e g && not held)
  where
    by_order : (above ended : Bool) → RenewedAt (cond above (opened e held) (cond ended (Ended e) (Held g t))) (cond above None s)
    by_order true ended = renewed_opened e held
    by_order false true = tt
    by_order false false = h
renewed_reopened (Ended g) e held s h = by_order (is_above e g)
  where
    by_order : (above : Bool) → RenewedAt (cond above (opened e held) (Ended g)) (cond above None s)
    by_order true = renewed_opened e held
    by_order false = tt

renewed_ticked : (lock : Lock) (first : Term) (now : ℕ) (s : Option Term) → RenewedAt lock s → RenewedAt (ticked first now lock) s
renewed_ticked Free first now s h = tt
renewed_ticked (Held e r) first now s h = by_time (is_over (unwrap_or r first) now)
  where
    by_time : (test : Bool) → RenewedAt (after_lapse (cond test (Some e) None) (Held e r)) s
    by_time true = tt
    by_time false = h
renewed_ticked (Ended e) first now s h = tt

renewed_at : (here : Bool) (test : Bool) (lock other : Lock) (r s : Option Term) → RenewedAt lock s → RenewedAt other (cond test r s) → RenewedAt (cond here other lock) (cond (here && test) r s)
renewed_at true test lock other r s h k = k
renewed_at false test lock other r s h k = h

renewed_calls : (calls : List Call) (node : ℕ) → RenewedAt (lock_of calls node) (last_renewal calls node)
renewed_calls [] node = tt
renewed_calls (Reopens other e held ∷ before) node =
    renewed_at (other == node) (opens (lock_of before node) e) (lock_of before node) _ None (last_renewal before node) (renewed_calls before node) (renewed_reopened (lock_of before node) e held (last_renewal before node) (renewed_calls before node))
renewed_calls (Asks other e now keep ∷ before) node =
    renewed_at (other == node) (is_kept (answer (lock_of before node) e)) (lock_of before node) _ (renewal before now keep) (last_renewal before node) (renewed_calls before node) (renewed_asked (lock_of before node) e (renewal before now keep) (last_renewal before node) (renewed_calls before node))
renewed_calls (Ticks now keep ∷ before) node = renewed_ticked (lock_of before node) (first_term before now keep) now (last_renewal before node) (renewed_calls before node)

none_both : (test : Bool) (o : Option Epoch) → o ≡ None → None ≡ cond test o None
none_both true o h = sym h
none_both false o h = refl

due_by : (lock : Lock) (s : Option Term) (first : Term) (now : ℕ) → RenewedAt lock s → lapse first now lock ≡ cond (is_over (unwrap_or s first) now) (held_epoch lock) None
due_by Free s first now h = none_both (is_over (unwrap_or s first) now) None refl
due_by (Held e r) s first now h = ap (λ t. cond (is_over (unwrap_or t first) now) (Some e) None) h
due_by (Ended e) s first now h = none_both (is_over (unwrap_or s first) now) None refl

pub due : (calls : List Call) (now keep node : ℕ) → lapse_for calls now keep node ≡ due_epoch calls now keep node
due calls now keep node = due_by (lock_of calls node) (last_renewal calls node) (first_term calls now keep) now (renewed_calls calls node)

-- ---- before the first tick
no_renewal : (calls : List Call) (node : ℕ) → first_tick calls ≡ None → last_renewal calls node ≡ None
no_renewal [] node none = refl
no_renewal (Reopens other e held ∷ before) node none = by_test (other == node && opens (lock_of before node) e) (no_renewal before node none)
  where
    by_test : (test : Bool) → last_renewal before node ≡ None → cond test None (last_renewal before node) ≡ None
    by_test true h = refl
    by_test false h = h
no_renewal (Asks other e now keep ∷ before) node none = by_test (other == node && is_kept (answer (lock_of before node) e)) (no_renewal before node none) (ap (option_map (λ _. term now keep)) none)
  where
    by_test : (test : Bool) → last_renewal before node ≡ None → renewal before now keep ≡ None → cond test (renewal before now keep) (last_renewal before node) ≡ None
    by_test true h k = k
    by_test false h k = h
no_renewal (Ticks now keep ∷ before) node none = cc

not_over : (now keep : ℕ) → 1 ≤ keep → is_over (term now keep) now ≡ false
not_over now keep h = grind (arith, nat_tests)

pub first_none : (calls : List Call) (now keep node : ℕ) → first_tick calls ≡ None → 1 ≤ keep → lapse_for calls now keep node ≡ None
first_none calls now keep node none least = due calls now keep node ∙ (ap (λ t. cond (is_over t now) (held_for calls node) None) term_is ∙ ap (λ test. cond test (held_for calls node) None) (not_over now keep least))
  where
    term_is : unwrap_or (last_renewal calls node) (first_term calls now keep) ≡ term now keep
    term_is = ap (λ o. unwrap_or o (first_term calls now keep)) (no_renewal calls node none) ∙ ap (λ o. unwrap_or o (term now keep)) none

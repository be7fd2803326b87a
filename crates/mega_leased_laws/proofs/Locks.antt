-- What a cell keeps for a node is what it granted, whatever it is asked, and also where a start tells it what its log has.
use Rattle.std.proofs.Common.{◌≡◌, inl, inr, ℕ, ◌==◌, ◌&&◌, ◌||◌, nat_lt, Bool, true, false, not, cond, List, [], ◌∷◌, ◌++◌, flat_map, Option, Some, None, refl, sym, ap, ◌∙◌, subst}
use Rattle.std.specs.Prelude.{unwrap_or}
use Rattle.mega_base.specs.declared.names.Epoch.{Epoch}
use Rattle.mega_cluster.specs.declared.cluster.Cluster.{Cluster}
use Rattle.mega_locks.specs.declared.asked.Asked.{Asked}
use Rattle.mega_locks.specs.declared.asked.Asked.TheVariants.{Granted, Renewed, GreaterHeld, Over}
use Rattle.mega_locks.specs.declared.lock.Lock.{Lock}
use Rattle.mega_locks.specs.declared.lock.Lock.TheVariants.{Free, Held, Ended}
use Rattle.mega_locks.specs.declared.lock.Term.{Term}
use Rattle.mega_locks.specs.Rule.{after_answer, after_lapse as lock_lapsed, answer, is_above, is_over, is_same, lapse, opened, reopened, ticked}
use Rattle.mega_locks.specs.History.{Call, Reopens, lock_of, nodes}
use Rattle.mega_locks.proofs.Marks.{not_above_self, same_is, same_self}
use Rattle.mega_wal.specs.History.{after_grant, after_lapse, is_epoch_below, is_same_epoch}
use Rattle.mega_lease_laws.specs.of_run_laws.of_tape_laws.of_promises.of_rules.Met.{Met, Starts, Crashes, Ticks, Begins, Takes, Unsends, Grants, Lapses, Decides, Applies}
use Rattle.mega_lease_laws.specs.of_run_laws.of_tape_laws.of_promises.of_rules.Clock.{is_opening}
use Rattle.mega_lease_laws.specs.of_run_laws.of_tape_laws.of_promises.of_rules.Locks.{cell_calls, lapse_note, last_grant, reopening, reopenings}
use Rattle.mega_lease_laws.specs.of_run_laws.of_tape_laws.of_promises.of_rules.Steps.{onto}
use Rattle.mega_lease_laws.specs.of_run_laws.of_tape_laws.Places.{In}
use Rattle.mega_lease_laws.proofs.of_run_laws.of_tape_laws.Ballots.{number_is, number_self}
use Rattle.mega_lease_laws.specs.of_run_laws.Justified.{Each}

-- what is kept is the last grant
abbrev pub Matches : Lock → Option (Epoch × Bool) → Type 0
Matches Free None = Unit {0}
Matches Free (Some last) = ⊥
Matches (Held e renewed) None = ⊥
Matches (Held e renewed) (Some last) = (last.0 ≡ e) × (last.1 ≡ true)
Matches (Ended e) None = ⊥
Matches (Ended e) (Some last) = (last.0 ≡ e) × (last.1 ≡ false)

-- ---- orders

same_order : (a b : ℕ) → (a == b) ≡ (b == a)
same_order a b = by (a == b) refl (b == a) refl
  where
    by : (t : Bool) → (a == b) ≡ t → (u : Bool) → (b == a) ≡ u → t ≡ u
    by true e true f = refl
    by false e false f = refl
    by true e false f = sym (number_self b) ∙ ap (λ x. b == x) (sym (number_is a b e)) ∙ f
    by false e true f = sym e ∙ ap (λ x. a == x) (number_is b a f) ∙ number_self a

above_below : (e g : Epoch) → is_above e g ≡ is_epoch_below g e
above_below e g = ap (λ t. nat_lt g.start e.start || (t && nat_lt g.count e.count)) (same_order e.start g.start)

raised : (last : Epoch × Bool) (g e : Epoch) (t : Bool) → last.0 ≡ g → is_above e g ≡ t → is_epoch_below last.0 e ≡ t
raised last g e t same above = ap (λ x. is_epoch_below x e) same ∙ sym (above_below e g) ∙ above

-- ---- asked

abbrev pub granted_by : Asked → Epoch → Option (Epoch × Bool) → Option (Epoch × Bool)
granted_by Granted e last = after_grant last e
granted_by _ e last = last

pub asks_match : (lock : Lock) (last : Option (Epoch × Bool)) (e : Epoch) (renewed : Option Term) → Matches lock last → Matches (after_answer (answer lock e) lock e renewed) (granted_by (answer lock e) e last)
asks_match Free None e renewed h = (refl, refl)
asks_match Free (Some last) e renewed h = absurd h
asks_match (Held g was) None e renewed h = absurd h
asks_match (Held g was) (Some last) e renewed h = by (is_above e g) (is_same e g) refl refl
  where
    by : (t u : Bool) → is_above e g ≡ t → is_same e g ≡ u → Matches (after_answer (cond t Granted (cond u Renewed (GreaterHeld g))) (Held g was) e renewed) (granted_by (cond t Granted (cond u Renewed (GreaterHeld g))) e (Some last))
    by true u a b = subst (λ t. Matches (Held e renewed) (cond t (Some (e, true)) (Some last))) (sym (raised last g e true h.0 a)) (refl, refl)
    by false true a b = (h.0 ∙ sym (same_is e g b), h.1)
    by false false a b = h
asks_match (Ended g) None e renewed h = absurd h
asks_match (Ended g) (Some last) e renewed h = by (is_above e g) refl
  where
    by : (t : Bool) → is_above e g ≡ t → Matches (after_answer (cond t Granted (Over g)) (Ended g) e renewed) (granted_by (cond t Granted (Over g)) e (Some last))
    by true a = subst (λ t. Matches (Held e renewed) (cond t (Some (e, true)) (Some last))) (sym (raised last g e true h.0 a)) (refl, refl)
    by false a = h

-- ---- ticked

abbrev pub lapsed_by : Option Epoch → Option (Epoch × Bool) → Option (Epoch × Bool)
lapsed_by None last = last
lapsed_by (Some e) last = after_lapse last e

lapse_same : (last : Epoch × Bool) (e : Epoch) → last.0 ≡ e → is_same_epoch last.0 e ≡ true
lapse_same last e same = ap (λ x. is_same_epoch x e) same ∙ same_self e

pub ticks_match : (lock : Lock) (last : Option (Epoch × Bool)) (first : Term) (now : ℕ) → Matches lock last → Matches (ticked first now lock) (lapsed_by (lapse first now lock) last)
ticks_match Free last first now h = h
ticks_match (Held e was) None first now h = absurd h
ticks_match (Held e was) (Some last) first now h = by (is_over (unwrap_or was first) now)
  where
    by : (t : Bool) → Matches (lock_lapsed (cond t (Some e) None) (Held e was)) (lapsed_by (cond t (Some e) None) (Some last))
    by true = subst (λ t. Matches (Ended e) (cond t (Some (last.0, false)) (Some last))) (sym (lapse_same last e h.0)) (h.0, refl)
    by false = h
ticks_match (Ended e) last first now h = h

-- ---- reopened

pub opens_match : (lock : Lock) (last : Option (Epoch × Bool)) (e : Epoch) → Matches lock last → Matches (reopened lock e true) (after_grant last e)
opens_match Free None e h = (refl, refl)
opens_match Free (Some last) e h = absurd h
opens_match (Held g was) None e h = absurd h
opens_match (Held g was) (Some last) e h = by (is_above e g) (is_same e g) refl
  where
    by : (t u : Bool) → is_above e g ≡ t → Matches (cond t (Held e None) (cond (u && not true) (Ended e) (Held g was))) (cond (is_epoch_below last.0 e) (Some (e, true)) (Some last))
    by true u a = subst (λ t. Matches (Held e None) (cond t (Some (e, true)) (Some last))) (sym (raised last g e true h.0 a)) (refl, refl)
    by false true a = subst (λ t. Matches (Held g was) (cond t (Some (e, true)) (Some last))) (sym (raised last g e false h.0 a)) h
    by false false a = subst (λ t. Matches (Held g was) (cond t (Some (e, true)) (Some last))) (sym (raised last g e false h.0 a)) h
opens_match (Ended g) None e h = absurd h
opens_match (Ended g) (Some last) e h = by (is_above e g) refl
  where
    by : (t : Bool) → is_above e g ≡ t → Matches (cond t (Held e None) (Ended g)) (cond (is_epoch_below last.0 e) (Some (e, true)) (Some last))
    by true a = subst (λ t. Matches (Held e None) (cond t (Some (e, true)) (Some last))) (sym (raised last g e true h.0 a)) (refl, refl)
    by false a = subst (λ t. Matches (Ended g) (cond t (Some (e, true)) (Some last))) (sym (raised last g e false h.0 a)) h

-- the lapse of what is held, as a start tells it
abbrev pub closed_by : Option Epoch → Lock → Lock
closed_by None lock = lock
closed_by (Some e) lock = reopened lock e false

pub closes_match : (lock other : Lock) (last : Option (Epoch × Bool)) (first : Term) (now : ℕ) → Matches lock last → Matches other last → Matches (closed_by (lapse first now lock) other) (lapsed_by (lapse first now lock) last)
closes_match Free other last first now h k = k
closes_match (Held e was) other None first now h k = absurd h
closes_match (Held e was) Free (Some last) first now h k = absurd k
closes_match (Held e was) (Ended g) (Some last) first now h k = let clashing = sym k.1 ∙ h.1 in cc
closes_match (Held e was) (Held g again) (Some last) first now h k = by (is_over (unwrap_or was first) now)
  where
    closed : (x : Epoch) → e ≡ x → Matches (reopened (Held x again) e false) (after_lapse (Some last) e)
    closed x same = subst (λ y. Matches (reopened (Held y again) e false) (after_lapse (Some last) e)) same
        (subst (λ t. Matches (cond t (Ended e) (cond (is_same e e && not false) (Ended e) (Held e again))) (after_lapse (Some last) e)) (sym (not_above_self e))
        (subst (λ t. Matches (cond (t && not false) (Ended e) (Held e again)) (after_lapse (Some last) e)) (sym (same_self e))
        (subst (λ t. Matches (Ended e) (cond t (Some (last.0, false)) (Some last))) (sym (lapse_same last e h.0)) (h.0, refl))))

    by : (t : Bool) → Matches (closed_by (cond t (Some e) None) (Held g again)) (lapsed_by (cond t (Some e) None) (Some last))
    by true = closed g (sym h.0 ∙ k.0)
    by false = k
closes_match (Ended e) other last first now h k = k

-- ---- what notes tell of one node

abbrev pub marks_for : ℕ → List Met → List (Epoch × Bool)
marks_for k [] = []
marks_for k (Grants node epoch ∷ more) = cond (node == k) ((epoch, true) ∷ marks_for k more) (marks_for k more)
marks_for k (Lapses node epoch ∷ more) = cond (node == k) ((epoch, false) ∷ marks_for k more) (marks_for k more)
marks_for k (_ ∷ more) = marks_for k more

abbrev pub last_after : List (Epoch × Bool) → Option (Epoch × Bool) → Option (Epoch × Bool)
last_after [] last = last
last_after (m ∷ ms) last = last_after ms (cond m.1 (after_grant last m.0) (after_lapse last m.0))

abbrev pub lock_after : List (Epoch × Bool) → Lock → Lock
lock_after [] lock = lock
lock_after (m ∷ ms) lock = lock_after ms (reopened lock m.0 m.1)

pub last_onto : (k : ℕ) (notes met : List Met) → last_grant (onto notes met) k ≡ last_after (marks_for k notes) (last_grant met k)
last_onto k [] met = refl
last_onto k (Grants node epoch ∷ more) met = last_onto k more (Grants node epoch ∷ met) ∙ by (node == k)
  where
    by : (t : Bool) → last_after (marks_for k more) (cond t (after_grant (last_grant met k) epoch) (last_grant met k)) ≡ last_after (cond t ((epoch, true) ∷ marks_for k more) (marks_for k more)) (last_grant met k)
    by true = refl
    by false = refl
last_onto k (Lapses node epoch ∷ more) met = last_onto k more (Lapses node epoch ∷ met) ∙ by (node == k)
  where
    by : (t : Bool) → last_after (marks_for k more) (cond t (after_lapse (last_grant met k) epoch) (last_grant met k)) ≡ last_after (cond t ((epoch, false) ∷ marks_for k more) (marks_for k more)) (last_grant met k)
    by true = refl
    by false = refl
last_onto k (one ∷ more) met = last_onto k more (one ∷ met)

-- notes that are no mark
abbrev pub IsUnmarked : Met → Type 0
IsUnmarked (Grants node epoch) = ⊥
IsUnmarked (Lapses node epoch) = ⊥
IsUnmarked _ = Unit {0}

pub unmarked : (k : ℕ) (notes : List Met) → Each IsUnmarked notes → marks_for k notes ≡ []
unmarked k [] h = refl
unmarked k (Grants node epoch ∷ more) h = absurd h.0
unmarked k (Lapses node epoch ∷ more) h = absurd h.0
unmarked k (one ∷ more) h = unmarked k more h.1

cond_append : (t : Bool) (m : Epoch × Bool) (xs ys : List (Epoch × Bool)) → cond t (m ∷ (xs ++ ys)) (xs ++ ys) ≡ cond t (m ∷ xs) xs ++ ys
cond_append true m xs ys = refl
cond_append false m xs ys = refl

pub marks_both : (k : ℕ) (xs ys : List Met) → marks_for k (xs ++ ys) ≡ marks_for k xs ++ marks_for k ys
marks_both k [] ys = refl
marks_both k (Grants node epoch ∷ xs) ys = ap (λ ms. cond (node == k) ((epoch, true) ∷ ms) ms) (marks_both k xs ys) ∙ cond_append (node == k) (epoch, true) (marks_for k xs) (marks_for k ys)
marks_both k (Lapses node epoch ∷ xs) ys = ap (λ ms. cond (node == k) ((epoch, false) ∷ ms) ms) (marks_both k xs ys) ∙ cond_append (node == k) (epoch, false) (marks_for k xs) (marks_for k ys)
marks_both k (one ∷ xs) ys = marks_both k xs ys

-- ---- in a start, and later in it

-- what a start shows of a step that was cut before it, and that it applies
abbrev pub IsOwed : Met → Type 0
IsOwed (Grants node epoch) = Unit {0}
IsOwed (Lapses node epoch) = Unit {0}
IsOwed (Decides group position entry) = Unit {0}
IsOwed (Unsends message) = Unit {0}
IsOwed (Applies group position) = Unit {0}
IsOwed _ = ⊥

module _ (c : Cluster) (me k : ℕ) where
  pub opening_onto : (notes met : List Met) → is_opening met ≡ true → Each IsOwed notes → lock_of (cell_calls c me (onto notes met)) k ≡ lock_after (marks_for k notes) (lock_of (cell_calls c me met) k)
  opening_onto [] met is h = refl
  opening_onto (Grants node epoch ∷ more) met is h = opening_onto more (Grants node epoch ∷ met) is h.1 ∙ by (node == k) (is_opening met) is
    where
      by : (t o : Bool) → o ≡ true → lock_after (marks_for k more) (lock_of (cond o (Reopens node epoch true ∷ []) [] ++ cell_calls c me met) k)
          ≡ lock_after (cond (node == k) ((epoch, true) ∷ marks_for k more) (marks_for k more)) (lock_of (cell_calls c me met) k)
      by t true e = within (node == k)
        where
          within : (t : Bool) → lock_after (marks_for k more) (cond t (reopened (lock_of (cell_calls c me met) k) epoch true) (lock_of (cell_calls c me met) k))
              ≡ lock_after (cond t ((epoch, true) ∷ marks_for k more) (marks_for k more)) (lock_of (cell_calls c me met) k)
          within true = refl
          within false = refl
      by t false e = cc
  opening_onto (Lapses node epoch ∷ more) met is h = opening_onto more (Lapses node epoch ∷ met) is h.1 ∙ by (node == k) (is_opening met) is
    where
      by : (t o : Bool) → o ≡ true → lock_after (marks_for k more) (lock_of (cond o (Reopens node epoch false ∷ []) [] ++ cell_calls c me met) k)
          ≡ lock_after (cond (node == k) ((epoch, false) ∷ marks_for k more) (marks_for k more)) (lock_of (cell_calls c me met) k)
      by t true e = within (node == k)
        where
          within : (t : Bool) → lock_after (marks_for k more) (cond t (reopened (lock_of (cell_calls c me met) k) epoch false) (lock_of (cell_calls c me met) k))
              ≡ lock_after (cond t ((epoch, false) ∷ marks_for k more) (marks_for k more)) (lock_of (cell_calls c me met) k)
          within true = refl
          within false = refl
      by t false e = cc
  opening_onto (Decides group position entry ∷ more) met is h = opening_onto more (Decides group position entry ∷ met) is h.1
  opening_onto (Unsends message ∷ more) met is h = opening_onto more (Unsends message ∷ met) is h.1
  opening_onto (Applies group position ∷ more) met is h = opening_onto more (Applies group position ∷ met) is h.1
  opening_onto (_ ∷ more) met is h = absurd h.0

-- notes after which nothing more is told to the cell
abbrev pub IsStill : Met → Type 0
IsStill (Starts start) = ⊥
IsStill Crashes = ⊥
IsStill (Ticks now) = ⊥
IsStill (Takes message) = ⊥
IsStill _ = Unit {0}

module _ (c : Cluster) (me : ℕ) where
  pub still_onto : (notes met : List Met) → is_opening met ≡ false → Each IsStill notes → cell_calls c me (onto notes met) ≡ cell_calls c me met
  still_onto [] met is h = refl
  still_onto (Starts start ∷ more) met is h = absurd h.0
  still_onto (Crashes ∷ more) met is h = absurd h.0
  still_onto (Ticks now ∷ more) met is h = absurd h.0
  still_onto (Takes message ∷ more) met is h = absurd h.0
  still_onto (Begins op text ∷ more) met is h = still_onto more (Begins op text ∷ met) refl h.1
  still_onto (Grants node epoch ∷ more) met is h = still_onto more (Grants node epoch ∷ met) is h.1 ∙ ap (λ t. cond t (Reopens node epoch true ∷ []) [] ++ cell_calls c me met) is
  still_onto (Lapses node epoch ∷ more) met is h = still_onto more (Lapses node epoch ∷ met) is h.1 ∙ ap (λ t. cond t (Reopens node epoch false ∷ []) [] ++ cell_calls c me met) is
  still_onto (one ∷ more) met is h = still_onto more (one ∷ met) is h.1

-- ---- what a start finds

abbrev reopen_at : Option (Epoch × Bool) → Lock → Lock
reopen_at None lock = lock
reopen_at (Some last) lock = reopened lock last.0 last.1

-- the lock of a node is told by its own mark
nine : (k : ℕ) (P : ℕ → Type 0) → P 1 → P 2 → P 3 → P 4 → P 5 → P 6 → P 7 → P 8 → P 9 → In k nodes → P k
nine k P a b c d e f g h i (inl is) = subst P is a
nine k P a b c d e f g h i (inr (inl is)) = subst P is b
nine k P a b c d e f g h i (inr (inr (inl is))) = subst P is c
nine k P a b c d e f g h i (inr (inr (inr (inl is)))) = subst P is d
nine k P a b c d e f g h i (inr (inr (inr (inr (inl is))))) = subst P is e
nine k P a b c d e f g h i (inr (inr (inr (inr (inr (inl is)))))) = subst P is f
nine k P a b c d e f g h i (inr (inr (inr (inr (inr (inr (inl is))))))) = subst P is g
nine k P a b c d e f g h i (inr (inr (inr (inr (inr (inr (inr (inl is)))))))) = subst P is h
nine k P a b c d e f g h i (inr (inr (inr (inr (inr (inr (inr (inr (inl is))))))))) = subst P is i
nine k P a b c d e f g h i (inr (inr (inr (inr (inr (inr (inr (inr (inr none))))))))) = absurd none

reopen_free : (o : Option (Epoch × Bool)) → Matches (reopen_at o Free) o
reopen_free None = tt
reopen_free (Some last) = by last.1 refl
  where
    by : (t : Bool) → last.1 ≡ t → Matches (opened last.0 t) (Some last)
    by true e = (refl, e)
    by false e = (refl, e)

module _ (k : ℕ) (last : ℕ → Option (Epoch × Bool)) where
  abbrev found : List ℕ → Lock
  found [] = Free
  found (node ∷ more) = cond (node == k) (reopen_at (last node) (found more)) (found more)

  found_one : (node : ℕ) (o : Option (Epoch × Bool)) (calls : List Call) → lock_of (reopening node o ++ calls) k ≡ cond (node == k) (reopen_at o (lock_of calls k)) (lock_of calls k)
  found_one node None calls = by (node == k)
    where
      by : (t : Bool) → lock_of calls k ≡ cond t (lock_of calls k) (lock_of calls k)
      by true = refl
      by false = refl
  found_one node (Some one) calls = refl

  found_all : (those : List ℕ) → lock_of (flat_map (λ node. reopening node (last node)) those) k ≡ found those
  found_all [] = refl
  found_all (node ∷ more) = found_one node (last node) (flat_map (λ one. reopening one (last one)) more) ∙ ap (λ lock. cond (node == k) (reopen_at (last node) lock) lock) (found_all more)

found_match : (k : ℕ) (last : ℕ → Option (Epoch × Bool)) → In k nodes → Matches (found k last nodes) (last k)
found_match k last = nine k (λ n. Matches (found n last nodes) (last n)) (reopen_free (last 1)) (reopen_free (last 2)) (reopen_free (last 3)) (reopen_free (last 4)) (reopen_free (last 5)) (reopen_free (last 6)) (reopen_free (last 7)) (reopen_free (last 8)) (reopen_free (last 9))

-- what a start finds in its log of a node is what was granted
pub reopen_match : (k : ℕ) (met : List Met) → In k nodes → Matches (lock_of (reopenings met) k) (last_grant met k)
reopen_match k met is = subst (λ lock. Matches lock (last_grant met k)) (sym (found_all k (last_grant met) nodes)) (found_match k (last_grant met) is)

-- ---- the lapses of a tick

abbrev pub lapse_marks : Option Epoch → List (Epoch × Bool)
lapse_marks None = []
lapse_marks (Some e) = (e, false) ∷ []

lapse_nil : (o : Option Epoch) → lapse_marks o ++ [] ≡ lapse_marks o
lapse_nil None = refl
lapse_nil (Some e) = refl

module _ (k : ℕ) (f : ℕ → Option Epoch) where
  abbrev lapsing : List ℕ → List (Epoch × Bool)
  lapsing [] = []
  lapsing (node ∷ more) = cond (node == k) (lapse_marks (f node) ++ lapsing more) (lapsing more)

  lapse_one : (node : ℕ) (o : Option Epoch) → marks_for k (lapse_note node o) ≡ cond (node == k) (lapse_marks o) []
  lapse_one node None = by (node == k)
    where
      by : (t : Bool) → marks_for k [] ≡ cond t [] []
      by true = refl
      by false = refl
  lapse_one node (Some e) = refl

  lapse_joined : (t : Bool) (xs ys : List (Epoch × Bool)) → cond t xs [] ++ ys ≡ cond t (xs ++ ys) ys
  lapse_joined true xs ys = refl
  lapse_joined false xs ys = refl

  lapse_all : (those : List ℕ) → marks_for k (flat_map (λ node. lapse_note node (f node)) those) ≡ lapsing those
  lapse_all [] = refl
  lapse_all (node ∷ more) = marks_both k (lapse_note node (f node)) (flat_map (λ one. lapse_note one (f one)) more)
      ∙ ap (λ xs. xs ++ marks_for k (flat_map (λ one. lapse_note one (f one)) more)) (lapse_one node (f node))
      ∙ lapse_joined (node == k) (lapse_marks (f node)) (marks_for k (flat_map (λ one. lapse_note one (f one)) more))
      ∙ ap (λ ms. cond (node == k) (lapse_marks (f node) ++ ms) ms) (lapse_all more)

lapsing_is : (k : ℕ) (f : ℕ → Option Epoch) → In k nodes → lapsing k f nodes ≡ lapse_marks (f k)
lapsing_is k f = nine k (λ n. lapsing n f nodes ≡ lapse_marks (f n)) (lapse_nil (f 1)) (lapse_nil (f 2)) (lapse_nil (f 3)) (lapse_nil (f 4)) (lapse_nil (f 5)) (lapse_nil (f 6)) (lapse_nil (f 7)) (lapse_nil (f 8)) (lapse_nil (f 9))

pub lapses_are : (k : ℕ) (f : ℕ → Option Epoch) → In k nodes → marks_for k (flat_map (λ node. lapse_note node (f node)) nodes) ≡ lapse_marks (f k)
lapses_are k f is = lapse_all k f nodes ∙ lapsing_is k f is

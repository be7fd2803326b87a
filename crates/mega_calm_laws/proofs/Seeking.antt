-- What an operation that is to propose does on in one step while it reads: it waits as it did, it fetches the least position that its node has not decided, or it proposes its entry.
use Rattle.std.proofs.Common.{◌≡◌, ◌⊎◌, inl, inr, ℕ, zero, suc, ◌+◌, ◌≤◌, nat_le, Bool, true, false, cond, List, [], ◌∷◌, ◌++◌, length, map, slice_get, take, Option, Some, None, refl, sym, ap, ◌∙◌, subst, arith}
use Rattle.mega_base.specs.declared.names.Epoch.{Epoch}
use Rattle.mega_base.specs.declared.names.GroupId.{GroupId}
use Rattle.mega_base.specs.declared.names.OpId.{OpId}
use Rattle.mega_ballot.specs.Order.{zero_ballot}
use Rattle.mega_coordinator.specs.declared.answers.NotValid.{NotValid}
use Rattle.mega_entry.specs.declared.content.Content.{Content}
use Rattle.mega_entry.specs.declared.content.Enter.{Enter}
use Rattle.mega_wire.specs.declared.message.Message.{Message}
use Rattle.mega_outcome.specs.declared.request.Request.{Request}
use Rattle.mega_leased_laws.specs.of_run_laws.of_tape_laws.of_promises.of_rules.of_read.of_propose.Rounds.{accept_to, asks as round_asks}
use Rattle.mega_leased_laws.specs.of_run_laws.of_tape_laws.of_promises.of_rules.of_read.of_propose.declared.round.Round.TheVariants.{Asking}
use Rattle.mega_leased_laws.specs.of_run_laws.of_tape_laws.of_promises.of_rules.of_read.declared.reading.Reader.{Reader}
use Rattle.mega_leased_laws.specs.of_run_laws.of_tape_laws.of_promises.of_rules.of_read.declared.reading.Reading.{Reading}
use Rattle.mega_leased_laws.specs.of_run_laws.of_tape_laws.of_promises.of_rules.of_read.declared.reading.Move.{Move as ReadMove}
use Rattle.mega_leased_laws.specs.of_run_laws.of_tape_laws.of_promises.of_rules.of_read.declared.reading.Search.{Search}
use Rattle.mega_leased_laws.specs.of_run_laws.of_tape_laws.of_promises.of_rules.of_read.declared.reading.Search.TheVariants.{Fetching, Filling}
use Rattle.mega_leased_laws.specs.of_run_laws.of_tape_laws.of_promises.of_rules.of_read.declared.reading.Stage.{Stage}
use Rattle.mega_leased_laws.specs.of_run_laws.of_tape_laws.of_promises.of_rules.of_read.declared.reading.Stage.TheVariants.{Polling, Catching}
use Rattle.mega_leased_laws.specs.of_run_laws.of_tape_laws.of_promises.of_rules.of_read.Catching.{asked_by, fetch_to, fetches, fills, helpers, is_position, move, searched, seeks as seeks_move, site, stays}
use Rattle.mega_leased_laws.specs.of_run_laws.of_tape_laws.of_promises.of_rules.of_replica.Applying.{after_read}
use Rattle.mega_leased_laws.specs.of_run_laws.of_tape_laws.of_promises.of_rules.Acting.{ActsAgain, Next, Rests, acts, completes_read, finishes, goes_on, keeps, leader_after, proposes as proposes_own, proposes_by, proposes_there, reader_of, rests_within, seeks_on, sends_more, stored_with, unless_decided, validated_by, validates}
use Rattle.mega_leased_laws.specs.of_run_laws.of_tape_laws.of_promises.of_rules.Clock.{clock_of}
use Rattle.mega_leased_laws.specs.of_run_laws.of_tape_laws.of_promises.of_rules.Coordinators.{refused_at}
use Rattle.mega_leased_laws.specs.of_run_laws.of_tape_laws.of_promises.of_rules.Logs.{decided, decided_from, groups_of, log_of, prefix_of, then_more}
use Rattle.mega_leased_laws.specs.of_run_laws.of_tape_laws.of_promises.of_rules.Met.{Met, Validates}
use Rattle.mega_leased_laws.specs.of_run_laws.of_tape_laws.of_promises.of_rules.Operations.{Now, Operation, Promised, Proposes, Reads, Setting}
use Rattle.mega_leased_laws.specs.of_run_laws.Justified.{Each}
use Rattle.mega_leased_laws.proofs.of_run_laws.Events.{each_append as each_both}
use Rattle.mega_calm_laws.proofs.Noting.{IsStill}
use Rattle.mega_calm_laws.proofs.Reading.{HasHelper, append_none}
use Rattle.mega_calm_laws.proofs.Voting.{IsBland}

-- ---- the front of a log

-- a front of what is decided from a position on is the log that it agrees with
pub front_is : (met : List Met) (g : GroupId) (log : List Content) (most k : ℕ) → ((i : ℕ) (e : Content) → decided met g (k + i) ≡ Some e → slice_get log i ≡ Some e)
    → length log ≤ length (decided_from met g most k) → take (length log) (decided_from met g most k) ≡ log
front_is met g [] most k agreed le = refl
front_is met g (x ∷ log) zero k agreed le = absurd (omega (arith, le))
front_is met g (x ∷ log) (suc most) k agreed le = go (decided met g k) refl le (front_is met g log most (k + 1) (λ i e d. agreed (suc i) e (subst (λ a. decided met g a ≡ Some e) (next i) d)))
  where
    next : (i : ℕ) → (k + 1) + i ≡ k + suc i
    next i = omega arith

    first : (a b : Content) → Some a ≡ Some b → a ≡ b
    first a b h = cc

    same : k ≡ k + 0
    same = omega arith

    go : (o : Option Content) → decided met g k ≡ o → suc (length log) ≤ length (then_more o (decided_from met g most (k + 1)))
        → (length log ≤ length (decided_from met g most (k + 1)) → take (length log) (decided_from met g most (k + 1)) ≡ log) → take (suc (length log)) (then_more o (decided_from met g most (k + 1))) ≡ x ∷ log
    go None is le again = absurd (omega (arith, le))
    go (Some e) is le again = let head = first x e (agreed 0 e (subst (λ a. decided met g a ≡ Some e) same is)) in
        ap (λ y. y ∷ take (length log) (decided_from met g most (k + 1))) (sym head) ∙ ap (λ l. x ∷ l) (again (omega (arith, le)))

-- ---- a validate

abbrev pub IsValidate : Met → Type 0
IsValidate (Validates g n) = Unit {0}
IsValidate _ = ⊥

pub validates_still : (notes : List Met) → Each IsValidate notes → Each IsStill notes
validates_still [] h = tt
validates_still (Validates g n ∷ notes) h = (tt, validates_still notes h.1)
validates_still (_ ∷ notes) h = absurd h.0

pub validates_bland : (notes : List Met) → Each IsValidate notes → Each IsBland notes
validates_bland [] h = tt
validates_bland (Validates g n ∷ notes) h = (tt, validates_bland notes h.1)
validates_bland (_ ∷ notes) h = absurd h.0

module _ (s : Setting) (op : OpId) (g : GroupId) (request : Request) (entering : Option Enter) (began : ℕ) (noted : Option Epoch) (log : List Content) (own : Content) (promised : Promised) (leader : ℕ) where
  abbrev pub who : Reader
  who = reader_of s op g

  abbrev pub reading : Stage → Reading
  reading stage = record { noted = noted; asked = []; stage = stage }

  abbrev pub seeks : Stage → Operation
  seeks stage = record { id = op; request = request; began = began; visited = g ∷ []; message = entering; phase = Reads g (reading stage) }

  abbrev pub proposed : ℕ → Operation
  proposed at = record { id = op; request = request; began = began; visited = g ∷ []; message = entering; phase = Proposes g (length log + 1) [] (record { own = own; seen = 0; round = Asking leader at }) promised }

  abbrev pub ask : Message
  ask = accept_to (site who [] (length log + 1)) zero_ballot own leader

  -- at the end of the log its entry is known, and the leader behind it, and nothing is decided there
  pub record IsSealed (met : List Met) : Type 0 where
    pub finishes_so : (now : Now) (search : Option Search) → now.met ≡ met → asked_by (reading (Catching (length log) search)) ≡ []
        → finishes s now (seeks (Catching (length log) search)) g (reading (Catching (length log) search)) (length log)
        ≡ Rests (proposes_own s now (seeks (Catching (length log) search)) g (reading (Catching (length log) search)) (length log) own promised)
    pub leads : (now : Now) → now.met ≡ met → leader_after s now g (length log) ≡ Some leader
    pub undecided : decided met g (length log + 1) ≡ None

  -- it waits for the least position that is not decided, or for the poll
  abbrev pub Stayed : List Met → Stage → Type 0
  Stayed met (Polling heard best sent) = Unit {0}
  Stayed met (Catching through search) = (nat_le through (prefix_of met g) ≡ false) × (is_position (prefix_of met g + 1) (searched search) ≡ true)

  abbrev pub fetching : List Met → ℕ → ℕ → Stage
  fetching met through at = Catching through (Some (Fetching (prefix_of met g + 1) [] at))

  pub data Outcome (now : Now) (stage : Stage) (next : Now) : Type 0 where
    proposes : (at : ℕ) → next.kept ≡ now.kept ++ proposed at ∷ [] → next.sends ≡ now.sends ++ ask ∷ [] → Each IsValidate next.valid → next.answers ≡ now.answers → Outcome now stage next
    waits : next.kept ≡ now.kept ++ seeks stage ∷ [] → next.sends ≡ now.sends → Each IsValidate next.valid → next.answers ≡ now.answers → Stayed now.met stage → Outcome now stage next
    asks : (through at : ℕ) (search : Option Search) → stage ≡ Catching through search → nat_le through (prefix_of now.met g) ≡ false
        → next.kept ≡ now.kept ++ seeks (fetching now.met through at) ∷ [] → next.sends ≡ now.sends ++ map (fetch_to who (prefix_of now.met g + 1)) (helpers who)
        → Each IsValidate next.valid → next.answers ≡ now.answers → Outcome now stage next

  -- what it comes to: it rests so
  abbrev pub Led : Now → Stage → Next → Type 0
  Led now stage (Rests next) = Outcome now stage next
  Led now stage (ActsAgain next o) = ⊥

  rested : (most : ℕ) (now : Now) (stage : Stage) (next : Next) → Led now stage next → Outcome now stage (rests_within most s next)
  rested most now stage (Rests next) h = h
  rested most now stage (ActsAgain next o) h = absurd h

  -- a search that completes no position by a round of its own
  abbrev pub IsUnfilled : Option Search → Type 0
  IsUnfilled None = Unit {0}
  IsUnfilled (Some (Fetching position denials sent)) = Unit {0}
  IsUnfilled (Some (Filling position proposal)) = ⊥

  none_asked : (through : ℕ) (search : Option Search) → IsUnfilled search → asked_by (reading (Catching through search)) ≡ []
  none_asked through None h = refl
  none_asked through (Some (Fetching position denials sent)) h = refl
  none_asked through (Some (Filling position proposal)) h = absurd h

  -- ---- it is complete

  record Completed (now next : Now) (p : ℕ) : Type 0 where
    kept : next.kept ≡ now.kept
    sends : next.sends ≡ now.sends
    answers : next.answers ≡ now.answers
    valid : Each IsValidate next.valid
    met : (next.met ≡ now.met) ⊎ (next.met ≡ Validates g p ∷ now.met)

  validated : (now : Now) (p : ℕ) (refusal : Option NotValid) → Each IsValidate now.valid → Completed now (validated_by now g p refusal) p
  validated now p (Some refusal) h = record { kept = refl; sends = refl; answers = refl; valid = h; met = inl refl }
  validated now p None h = record { kept = refl; sends = refl; answers = refl; valid = each_both IsValidate now.valid (Validates g p ∷ []) h (tt, tt); met = inr refl }

  validates_it : (now : Now) (p : ℕ) (epoch : Option Epoch) → Each IsValidate now.valid → Completed now (validates s now g p epoch) p
  validates_it now p None h = record { kept = refl; sends = refl; answers = refl; valid = h; met = inl refl }
  validates_it now p (Some epoch) h = validated now p (refused_at s.cluster now.met g p epoch) h

  completed : (now : Now) (stage : Stage) (p : ℕ) → Each IsValidate now.valid → Completed now (completes_read s now g (reading stage) p) p
  completed now stage p h =
      let done_so = validates_it (record { met = now.met; stored = stored_with now.stored g (after_read p (log_of now.met g) (now.stored g)); kept = now.kept; valid = now.valid; answers = now.answers; sends = now.sends }) p noted h in
      record { kept = done_so.kept; sends = done_so.sends; answers = done_so.answers; valid = done_so.valid; met = done_so.met }

  -- ---- it proposes

  proposes_it : (now : Now) (search : Option Search) → IsUnfilled search → IsSealed now.met
      → finishes s now (seeks (Catching (length log) search)) g (reading (Catching (length log) search)) (length log) ≡ Rests (keeps (sends_more now (ask ∷ [])) (proposed (clock_of now.met)))
  proposes_it now search unfilled sealed_so =
      sealed_so.finishes_so now search refl (none_asked (length log) search unfilled)
      ∙ ap Rests (ap (proposes_by s now o g r (length log) own promised) (sealed_so.leads now refl)
      ∙ (ap (λ those. proposes_there s now o g (length log + 1) those promised (round_asks (site who those (length log + 1)) leader own (clock_of now.met))) (none_asked (length log) search unfilled)
      ∙ ap (unless_decided (sends_more now (ask ∷ [])) (proposed (clock_of now.met)) (length log + 1) promised) sealed_so.undecided))
    where
      o : Operation
      o = seeks (Catching (length log) search)

      r : Reading
      r = reading (Catching (length log) search)

  -- the node may have noted that the group is valid
  pub record WillSeal (met : List Met) (p : ℕ) : Type 0 where
    pub place : p ≡ length log
    pub now_so : IsSealed met
    pub then_so : IsSealed (Validates g p ∷ met)

  finishes_it : (now : Now) (through : ℕ) (search : Option Search) → IsUnfilled search → Each IsValidate now.valid → WillSeal now.met through
      → Led now (Catching through search) (finishes s (completes_read s now g (reading (Catching through search)) through) (seeks (Catching through search)) g (reading (Catching through search)) through)
  finishes_it now through search unfilled h will = subst (λ p. WillSeal now.met p → Goal p) (sym will.place) at_end will
    where
      Goal : ℕ → Type 0
      Goal p = Led now (Catching p search) (finishes s (completes_read s now g (reading (Catching p search)) p) (seeks (Catching p search)) g (reading (Catching p search)) p)

      at_end : WillSeal now.met (length log) → Goal (length log)
      at_end seal = subst (Led now (Catching (length log) search)) (sym is)
          (proposes (clock_of next.met) (ap (λ os. os ++ proposed (clock_of next.met) ∷ []) done_so.kept) (ap (λ ms. ms ++ ask ∷ []) done_so.sends) done_so.valid done_so.answers)
        where
          next : Now
          next = completes_read s now g (reading (Catching (length log) search)) (length log)

          done_so : Completed now next (length log)
          done_so = completed now (Catching (length log) search) (length log) h

          is : finishes s next (seeks (Catching (length log) search)) g (reading (Catching (length log) search)) (length log) ≡ Rests (keeps (sends_more next (ask ∷ [])) (proposed (clock_of next.met)))
          is = proposes_it next search unfilled (elim done_so.met [ inl same ↦ subst IsSealed (sym same) seal.now_so | inr more ↦ subst IsSealed (sym more) seal.then_so ])

  -- ---- it seeks on

  abbrev fetched_by : ℕ → ℕ → Stage → ℕ → List ℕ → ReadMove
  fetched_by through position stage at [] = fills who (reading stage) through position at
  fetched_by through position stage at (voter ∷ voters) = move (reading stage) (Catching through (Some (Fetching position [] at))) (map (fetch_to who position) (voter ∷ voters))

  seeks_it : (now : Now) (through : ℕ) (search : Option Search) → IsUnfilled search → Each IsValidate now.valid → nat_le through (prefix_of now.met g) ≡ false → HasHelper who
      → Outcome now (Catching through search) (seeks_on (seeks (Catching through search)) now g (seeks_move who (reading (Catching through search)) (prefix_of now.met g + 1) (clock_of now.met)))
  seeks_it now through search unfilled h above helper = by (is_position (prefix_of now.met g + 1) (searched search)) refl
    where
      stage : Stage
      stage = Catching through search

      r : Reading
      r = reading stage

      sought : (voters : List ℕ) → helpers who ≡ voters → (first : ℕ) (more : List ℕ) → voters ≡ first ∷ more
          → Outcome now stage (seeks_on (seeks stage) now g (fetched_by through (prefix_of now.met g + 1) stage (clock_of now.met) voters))
      sought voters is first more nonempty = subst (λ vs. Outcome now stage (seeks_on (seeks stage) now g (fetched_by through (prefix_of now.met g + 1) stage (clock_of now.met) vs))) (sym nonempty)
          (asks through (clock_of now.met) search refl above refl (ap (λ vs. now.sends ++ map (fetch_to who (prefix_of now.met g + 1)) vs) (sym (is ∙ nonempty))) h refl)

      by : (t : Bool) → is_position (prefix_of now.met g + 1) (searched search) ≡ t
          → Outcome now stage (seeks_on (seeks stage) now g (cond {A = ReadMove} t (stays r) (fetches who (record { noted = noted; asked = asked_by r; stage = stage }) through (prefix_of now.met g + 1) (clock_of now.met))))
      by true e = waits refl (append_none now.sends) h refl (above, e)
      by false e = subst (λ those. Outcome now stage (seeks_on (seeks stage) now g (fetches who (record { noted = noted; asked = those; stage = stage }) through (prefix_of now.met g + 1) (clock_of now.met))))
          (sym (none_asked through search unfilled)) (sought (helpers who) refl helper.first helper.more helper.is)

  -- what it needs of others is there where it is not complete, and where it is its outcome is known
  abbrev pub Helped : List Met → Stage → Type 0
  Helped met (Polling heard best sent) = Unit {0}
  Helped met (Catching through search) = IsUnfilled search × (nat_le through (prefix_of met g) ≡ true → WillSeal met through) × (nat_le through (prefix_of met g) ≡ false → HasHelper who)

  pub acts_on : (now : Now) (stage : Stage) → Each IsValidate now.valid → Helped now.met stage → Led now stage (acts s now (seeks stage))
  acts_on now (Polling heard best sent) h helped = waits refl refl h refl tt
  acts_on now (Catching through search) h helped = by (nat_le through (prefix_of now.met g)) refl
    where
      by : (t : Bool) → nat_le through (prefix_of now.met g) ≡ t
          → Led now (Catching through search) (cond t (finishes s (completes_read s now g (reading (Catching through search)) through) (seeks (Catching through search)) g (reading (Catching through search)) through)
          (Rests (seeks_on (seeks (Catching through search)) now g (seeks_move who (reading (Catching through search)) (prefix_of now.met g + 1) (clock_of now.met)))))
      by true e = finishes_it now through search helped.0 h (helped.1 e)
      by false e = seeks_it now through search helped.0 h e (helped.2 e)

  pub goes_on_so : (now : Now) (stage : Stage) → Each IsValidate now.valid → Helped now.met stage → Outcome now stage (goes_on s now (seeks stage))
  goes_on_so now stage h helped = subst (λ k. Outcome now stage (rests_within k s (ActsAgain now (seeks stage)))) (sym more)
      (rested (length (groups_of now.met) + 1) now stage (acts s now (seeks stage)) (acts_on now stage h helped))
    where
      more : length (groups_of now.met) + 2 ≡ suc (length (groups_of now.met) + 1)
      more = omega arith

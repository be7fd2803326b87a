-- What a current read does on, in one step: it is answered, it waits as it did, or it fetches the least position that its node has not decided.
use Rattle.std.proofs.Common.{◌≡◌, ℕ, suc, ◌+◌, nat_le, Bool, true, false, cond, List, [], ◌∷◌, ◌++◌, length, map, Option, Some, None, refl, sym, ap, ◌∙◌, subst, arith}
use Rattle.mega_base.specs.declared.names.Epoch.{Epoch}
use Rattle.mega_base.specs.declared.names.GroupId.{GroupId}
use Rattle.mega_base.specs.declared.names.OpId.{OpId}
use Rattle.mega_coordinator.specs.declared.answers.NotValid.{NotValid}
use Rattle.mega_entry.specs.declared.content.Enter.{Enter}
use Rattle.mega_index.specs.Rows.{Listed, Rows}
use Rattle.mega_outcome.specs.declared.answer.Answer.TheVariants.{Read as ReadAnswer}
use Rattle.mega_outcome.specs.declared.answer.Shown.{Shown}
use Rattle.mega_outcome.specs.declared.request.ReadRequest.{ReadRequest}
use Rattle.mega_outcome.specs.declared.request.Request.TheVariants.{Read as ReadRequested}
use Rattle.mega_leased_laws.specs.of_run_laws.of_tape_laws.of_promises.of_rules.of_read.declared.reading.Reader.{Reader}
use Rattle.mega_leased_laws.specs.of_run_laws.of_tape_laws.of_promises.of_rules.of_read.declared.reading.Reading.{Reading}
use Rattle.mega_leased_laws.specs.of_run_laws.of_tape_laws.of_promises.of_rules.of_read.declared.reading.Move.{Move as ReadMove}
use Rattle.mega_leased_laws.specs.of_run_laws.of_tape_laws.of_promises.of_rules.of_read.declared.reading.Search.{Search}
use Rattle.mega_leased_laws.specs.of_run_laws.of_tape_laws.of_promises.of_rules.of_read.declared.reading.Search.TheVariants.{Fetching, Filling}
use Rattle.mega_leased_laws.specs.of_run_laws.of_tape_laws.of_promises.of_rules.of_read.declared.reading.Stage.{Stage}
use Rattle.mega_leased_laws.specs.of_run_laws.of_tape_laws.of_promises.of_rules.of_read.declared.reading.Stage.TheVariants.{Polling, Catching}
use Rattle.mega_leased_laws.specs.of_run_laws.of_tape_laws.of_promises.of_rules.of_read.Catching.{asked_by, fetch_to, fetches, fills, helpers, is_position, move, searched, seeks, stays}
use Rattle.mega_leased_laws.specs.of_run_laws.of_tape_laws.of_promises.of_rules.of_replica.Applying.{after_read}
use Rattle.mega_leased_laws.specs.of_run_laws.of_tape_laws.of_promises.of_rules.Met.{Met, Answers, Validates}
use Rattle.mega_leased_laws.specs.of_run_laws.of_tape_laws.of_promises.of_rules.Clock.{clock_of}
use Rattle.mega_leased_laws.specs.of_run_laws.of_tape_laws.of_promises.of_rules.Coordinators.{refused_at}
use Rattle.mega_leased_laws.specs.of_run_laws.of_tape_laws.of_promises.of_rules.Logs.{groups_of, log_of, prefix_of}
use Rattle.mega_leased_laws.specs.of_run_laws.of_tape_laws.of_promises.of_rules.Operations.{Now, Operation, Reads, Setting}
use Rattle.mega_leased_laws.specs.of_run_laws.of_tape_laws.of_promises.of_rules.Acting.{ActsAgain, Next, Rests, acts, completes_read, finishes, goes_on, listed_at, read_answer, reader_of, rests_within, rows_at, seeks_on, stored_with, validated_by, validates}
use Rattle.mega_leased_laws.specs.of_run_laws.Justified.{Each}
use Rattle.mega_leased_laws.proofs.of_run_laws.Events.{each_append as each_both}
use Rattle.mega_calm_laws.proofs.Noting.{IsStill}

pub append_none : {X : Type 0} (xs : List X) → xs ++ [] ≡ xs
append_none [] = refl
append_none (x ∷ xs) = ap (λ l. x ∷ l) (append_none xs)

-- the rows that a read asks for are such as its group can show
abbrev pub ShowsRows : Setting → ReadRequest → Type 0
ShowsRows s request = (p : ℕ) (rows : Rows) (listed : Listed) → (shown : List (Option Shown)) × (read_answer s request p rows listed ≡ ReadAnswer (record { 0 = p }) shown)

-- a read that completes no position by a round of its own
abbrev pub IsUnfilled : Stage → Type 0
IsUnfilled (Polling heard best sent) = Unit {0}
IsUnfilled (Catching through None) = Unit {0}
IsUnfilled (Catching through (Some (Fetching position denials sent))) = Unit {0}
IsUnfilled (Catching through (Some (Filling position proposal))) = ⊥

-- some other voter can be asked for an entry
pub record HasHelper (who : Reader) : Type 0 where
  pub first : ℕ
  pub more : List ℕ
  pub is : helpers who ≡ first ∷ more

module _ (s : Setting) (op : OpId) (request : ReadRequest) (began : ℕ) (visited : List GroupId) (entering : Option Enter) (g : GroupId) (noted : Option Epoch) where
  abbrev pub who : Reader
  who = reader_of s op g

  abbrev pub reading : List ℕ → Stage → Reading
  reading asked stage = record { noted = noted; asked = asked; stage = stage }

  abbrev pub one : List ℕ → Stage → Operation
  one asked stage = record { id = op; request = ReadRequested request; began = began; visited = visited; message = entering; phase = Reads g (reading asked stage) }

  -- it waits for the least position that is not decided, or for the poll
  abbrev pub Stayed : List Met → Stage → Type 0
  Stayed met (Polling heard best sent) = Unit {0}
  Stayed met (Catching through search) = (nat_le through (prefix_of met g) ≡ false) × (is_position (prefix_of met g + 1) (searched search) ≡ true)

  abbrev pub fetching : List Met → ℕ → ℕ → Stage
  fetching met through at = Catching through (Some (Fetching (prefix_of met g + 1) [] at))

  pub data Outcome (now : Now) (stage : Stage) (next : Now) : Type 0 where
    answered : (p : ℕ) (shown : List (Option Shown)) → next.kept ≡ now.kept → next.sends ≡ now.sends → Each IsStill next.valid
        → next.answers ≡ now.answers ++ Answers op (ReadAnswer (record { 0 = p }) shown) ∷ [] → Outcome now stage next
    waits : (asked : List ℕ) → next.kept ≡ now.kept ++ one asked stage ∷ [] → next.sends ≡ now.sends → Each IsStill next.valid → next.answers ≡ now.answers
        → Stayed now.met stage → Outcome now stage next
    asks : (asked : List ℕ) (through at : ℕ) (search : Option Search) → stage ≡ Catching through search → nat_le through (prefix_of now.met g) ≡ false
        → next.kept ≡ now.kept ++ one asked (fetching now.met through at) ∷ [] → next.sends ≡ now.sends ++ map (fetch_to who (prefix_of now.met g + 1)) (helpers who)
        → Each IsStill next.valid → next.answers ≡ now.answers → Outcome now stage next

  -- what it comes to: it rests so
  abbrev pub Led : Now → Stage → Next → Type 0
  Led now stage (Rests next) = Outcome now stage next
  Led now stage (ActsAgain next o) = ⊥

  rested : (most : ℕ) (now : Now) (stage : Stage) (next : Next) → Led now stage next → Outcome now stage (rests_within most s next)
  rested most now stage (Rests next) h = h
  rested most now stage (ActsAgain next o) h = absurd h

  -- ---- it is complete

  record Completed (now next : Now) : Type 0 where
    kept : next.kept ≡ now.kept
    sends : next.sends ≡ now.sends
    answers : next.answers ≡ now.answers
    valid : Each IsStill next.valid

  validated : (now : Now) (p : ℕ) (refusal : Option NotValid) → Each IsStill now.valid → Completed now (validated_by now g p refusal)
  validated now p (Some refusal) h = record { kept = refl; sends = refl; answers = refl; valid = h }
  validated now p None h = record { kept = refl; sends = refl; answers = refl; valid = each_both IsStill now.valid (Validates g p ∷ []) h (tt, tt) }

  validates_it : (now : Now) (p : ℕ) (epoch : Option Epoch) → Each IsStill now.valid → Completed now (validates s now g p epoch)
  validates_it now p None h = record { kept = refl; sends = refl; answers = refl; valid = h }
  validates_it now p (Some epoch) h = validated now p (refused_at s.cluster now.met g p epoch) h

  completed : (now : Now) (asked : List ℕ) (stage : Stage) (p : ℕ) → Each IsStill now.valid → Completed now (completes_read s now g (reading asked stage) p)
  completed now asked stage p h =
      let done = validates_it (record { met = now.met; stored = stored_with now.stored g (after_read p (log_of now.met g) (now.stored g)); kept = now.kept; valid = now.valid; answers = now.answers; sends = now.sends }) p noted h in
      record { kept = done.kept; sends = done.sends; answers = done.answers; valid = done.valid }

  -- ---- it seeks on

  abbrev fetched_by : List ℕ → ℕ → ℕ → Stage → ℕ → List ℕ → ReadMove
  fetched_by asked through position stage at [] = fills who (reading asked stage) through position at
  fetched_by asked through position stage at (voter ∷ voters) = move (reading asked stage) (Catching through (Some (Fetching position [] at))) (map (fetch_to who position) (voter ∷ voters))

  seeks_it : (now : Now) (asked : List ℕ) (through : ℕ) (search : Option Search) → Each IsStill now.valid → nat_le through (prefix_of now.met g) ≡ false → HasHelper who
      → Outcome now (Catching through search) (seeks_on (one asked (Catching through search)) now g (seeks who (reading asked (Catching through search)) (prefix_of now.met g + 1) (clock_of now.met)))
  seeks_it now asked through search h above helper = by (is_position (prefix_of now.met g + 1) (searched search)) refl
    where
      stage : Stage
      stage = Catching through search

      r : Reading
      r = reading asked stage

      asked' : List ℕ
      asked' = asked_by r

      sought : (voters : List ℕ) → helpers who ≡ voters → (first : ℕ) (more : List ℕ) → voters ≡ first ∷ more
          → Outcome now stage (seeks_on (one asked stage) now g (fetched_by asked' through (prefix_of now.met g + 1) stage (clock_of now.met) voters))
      sought voters is first more nonempty = subst (λ vs. Outcome now stage (seeks_on (one asked stage) now g (fetched_by asked' through (prefix_of now.met g + 1) stage (clock_of now.met) vs))) (sym nonempty)
          (asks asked' through (clock_of now.met) search refl above refl (ap (λ vs. now.sends ++ map (fetch_to who (prefix_of now.met g + 1)) vs) (sym (is ∙ nonempty))) h refl)

      by : (t : Bool) → is_position (prefix_of now.met g + 1) (searched search) ≡ t
          → Outcome now stage (seeks_on (one asked stage) now g (cond {A = ReadMove} t (stays r) (fetches who (reading asked' stage) through (prefix_of now.met g + 1) (clock_of now.met))))
      by true e = waits asked refl (append_none now.sends) h refl (above, e)
      by false e = sought (helpers who) refl helper.first helper.more helper.is

  module _ (shows : ShowsRows s request) where
    finishes_it : (now : Now) (asked : List ℕ) (through : ℕ) (search : Option Search) → Each IsStill now.valid
        → Led now (Catching through search) (finishes s (completes_read s now g (reading asked (Catching through search)) through) (one asked (Catching through search)) g (reading asked (Catching through search)) through)
    finishes_it now asked through search h = answered through shown.0 done.kept done.sends done.valid
        (ap (λ (l : List Met). l ++ Answers op (read_answer s request through (rows_at next g through) (listed_at next g through)) ∷ []) done.answers
        ∙ ap (λ a. now.answers ++ Answers op a ∷ []) shown.1)
      where
        next : Now
        next = completes_read s now g (reading asked (Catching through search)) through

        done : Completed now next
        done = completed now asked (Catching through search) through h

        shown : (rows : List (Option Shown)) × (read_answer s request through (rows_at next g through) (listed_at next g through) ≡ ReadAnswer (record { 0 = through }) rows)
        shown = shows through (rows_at next g through) (listed_at next g through)

    -- what it needs of others is there, where it is not complete
    abbrev pub Helped : List Met → Stage → Type 0
    Helped met (Polling heard best sent) = Unit {0}
    Helped met (Catching through search) = nat_le through (prefix_of met g) ≡ false → HasHelper who

    pub acts_on : (now : Now) (asked : List ℕ) (stage : Stage) → Each IsStill now.valid → Helped now.met stage → Led now stage (acts s now (one asked stage))
    acts_on now asked (Polling heard best sent) h helped = waits asked refl refl h refl tt
    acts_on now asked (Catching through search) h helped = by (nat_le through (prefix_of now.met g)) refl
      where
        by : (t : Bool) → nat_le through (prefix_of now.met g) ≡ t
            → Led now (Catching through search) (cond t (finishes s (completes_read s now g (reading asked (Catching through search)) through) (one asked (Catching through search)) g (reading asked (Catching through search)) through)
            (Rests (seeks_on (one asked (Catching through search)) now g (seeks who (reading asked (Catching through search)) (prefix_of now.met g + 1) (clock_of now.met)))))
        by true e = finishes_it now asked through search h
        by false e = seeks_it now asked through search h e (helped e)

    pub goes_on_so : (now : Now) (asked : List ℕ) (stage : Stage) → Each IsStill now.valid → Helped now.met stage → Outcome now stage (goes_on s now (one asked stage))
    goes_on_so now asked stage h helped = subst (λ k. Outcome now stage (rests_within k s (ActsAgain now (one asked stage)))) (sym more)
        (rested (length (groups_of now.met) + 1) now stage (acts s now (one asked stage)) (acts_on now asked stage h helped))
      where
        more : length (groups_of now.met) + 2 ≡ suc (length (groups_of now.met) + 1)
        more = omega arith

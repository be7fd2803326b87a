-- Where a change is after its turns, by what it was told in them.
use Rattle.std.proofs.Common.{◌≡◌, ℕ, Bool, true, false, List, [], ◌∷◌, ◌++◌, length, Option, Some, None, if◌then◌else◌, refl, sym, ◌∙◌, ap, subst}
use Rattle.mega_link.specs.Datagrams.{Datagram}
use Rattle.mega_two_driver.specs.of_moves.declared.phase.Ended.{Ended}
use Rattle.mega_two_driver.specs.of_moves.declared.phase.Ended.TheVariants.{Committed}
use Rattle.mega_two_driver.specs.of_moves.declared.phase.Phase.{Phase}
use Rattle.mega_two_driver.specs.of_moves.declared.phase.Phase.TheVariants.{Begins, Prepares, Decides, Looks, Finishes, Checks, Recovers, Over}
use Rattle.mega_two_driver.specs.declared.plan.Plan.{Plan}
use Rattle.mega_two_driver.specs.of_moves.declared.request_result.RequestResult.{RequestResult}
use Rattle.mega_two_driver.specs.of_moves.declared.request_result.RequestResult.TheVariants.{Lost}
use Rattle.mega_two_driver.specs.declared.two.Two.{Two}
use Rattle.mega_two_driver.specs.Moves.{ended_in, moved}
use Rattle.mega_two_driver.specs.Rows.{plan_told}
use Rattle.mega_two_driver.specs.Driver.{is_recovering, lost, read_plan, stepped, taken, told_in}
use Rattle.mega_two_driver_laws.specs.Runs.{run}
use Rattle.mega_two_turns.specs.Messages.{reply_in}
use Rattle.mega_two_turns.specs.Turns.{answered, driven, driving, heard, is_due, put_out, start, proceeds_out}
use Rattle.mega_two_run_laws.specs.TurnResults.{answers, lost_in, told_by, tolds}
use Rattle.mega_two_run_laws.proofs.Plain.{stays_plain}

-- a change has the plan with which it began, and is where what it was told leads
pub record Stays (two now : Two) (told : List RequestResult) : Type 0 where
  pub plan : now.plan ≡ two.plan
  pub phase : now.phase ≡ run (length two.plan.parts) Begins told
  pub plain : is_recovering now.phase ≡ false

tells : (two now : Two) (told : RequestResult) (before : List RequestResult) → Stays two now before → Stays two (stepped now told) (told ∷ before)
tells two now told before is = record {
  plan = is.plan;
  phase = ap (λ (plan : Plan). moved (length plan.parts) now.phase told) is.plan ∙ ap (λ (phase : Phase). moved (length two.plan.parts) phase told) is.phase;
  plain = stays_plain (length now.plan.parts) now.phase told is.plain;
}

pub takes_plainly : (now : Two) (reply : List ℕ) → is_recovering now.phase ≡ false → taken now reply ≡ stepped now (told_in now.plan.name now.phase reply)
unfolding taken
takes_plainly now reply plain = ap (λ (b : Bool). if b then read_plan now reply (plan_told reply) else stepped now (told_in now.plan.name now.phase reply)) plain

pub loses : (now : Two) → lost now ≡ stepped now Lost
unfolding lost
loses now = refl

goes_out : (patience now : ℕ) (two at : Two) (token : ℕ) (since : Option ℕ) (before : List RequestResult) → Stays two at before → Stays two (put_out patience now at token since).two (lost_in patience now since ++ before)
goes_out patience now two at token None before is = is
goes_out patience now two at token (Some since) before is = by (is_due patience since now)
  where
    by : (b : Bool) → Stays two (if b then driving (lost at) token None else driving at token (Some since)).two ((if b then Lost ∷ [] else []) ++ before)
    by true = subst (λ (one : Two). Stays two one (Lost ∷ before)) (sym (loses at)) (tells two at Lost before is)
    by false = is

comes_in : (node : ℕ) (two at : Two) (token : ℕ) (since : Option ℕ) (got : Option Datagram) (before : List RequestResult) → Stays two at before → Stays two (heard node at token since got).two (answers node at token since got ++ before)
comes_in node two at token None got before is = is
comes_in node two at token (Some since) got before is = by (reply_in node token got)
  where
    by : (text : Option (List ℕ)) → Stays two (answered at token since text).two (told_by at text ++ before)
    by None = is
    by (Some text) =
        subst (λ (one : Two). Stays two one (told_in at.plan.name at.phase text ∷ before)) (sym (takes_plainly at text is.plain)) (tells two at (told_in at.plan.name at.phase text) before is)

turns : (node patience : ℕ) (two : Two) (given : List (ℕ × Option Datagram)) → two.phase ≡ Begins → Stays two (driven node patience (start two) given).two (tolds node patience (start two) given)
turns node patience two [] begins = record { plan = refl; phase = begins; plain = ap is_recovering begins }
turns node patience two (one ∷ before) begins =
    let d = driven node patience (start two) before in
    let out = proceeds_out patience d one.0 in
    comes_in node two out.two out.token out.since one.1 (lost_in patience one.0 d.since ++ tolds node patience (start two) before)
    (goes_out patience one.0 two d.two d.token d.since (tolds node patience (start two) before) (turns node patience two before begins))

pub goes : (node patience : ℕ) (two : Two) (given : List (ℕ × Option Datagram)) → two.phase ≡ Begins
    → (driven node patience (start two) given).two.phase ≡ run (length two.plan.parts) Begins (tolds node patience (start two) given)
goes node patience two given begins = (turns node patience two given begins).phase

-- ---- the end

not_ended : {A : Type 0} → ◌≡◌ {A = Option Ended} None (Some Committed) → A
not_ended is = absurd (let none : ◌≡◌ {A = Option Ended} None (Some Committed) = is in cc)

pub is_over : (phase : Phase) → ended_in phase ≡ Some Committed → phase ≡ Over Committed
is_over Begins is = not_ended is
is_over (Prepares i) is = not_ended is
is_over (Decides made) is = not_ended is
is_over (Looks made) is = not_ended is
is_over (Finishes made i) is = not_ended is
is_over (Checks made i) is = not_ended is
is_over Recovers is = not_ended is
is_over (Over ending) is = let same : ending ≡ Committed = cc in ap Over same

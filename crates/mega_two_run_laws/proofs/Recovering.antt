-- Where a change that recovers is after its turns, by what it was told in them.
use Rattle.std.proofs.Common.{◌≡◌, ℕ, Bool, true, false, List, [], ◌∷◌, ◌++◌, length, Option, Some, None, if◌then◌else◌, refl, sym, ◌∙◌, ap, subst}
use Rattle.std.specs.Result.{result_ok}
use Rattle.mega_syntax.specs.Names.{same}
use Rattle.mega_link.specs.Datagrams.{Datagram}
use Rattle.mega_two_driver.specs.of_moves.declared.phase.Ended.TheVariants.{Committed, Open}
use Rattle.mega_two_driver.specs.of_moves.declared.phase.Phase.{Phase}
use Rattle.mega_two_driver.specs.of_moves.declared.phase.Phase.TheVariants.{Recovers, Over}
use Rattle.mega_two_driver.specs.declared.plan.Plan.{Plan}
use Rattle.mega_two_driver.specs.of_moves.declared.request_result.State.{State}
use Rattle.mega_two_driver.specs.of_moves.declared.request_result.RequestResult.{RequestResult}
use Rattle.mega_two_driver.specs.of_moves.declared.request_result.RequestResult.TheVariants.{Done, Turned, Again, Lost, Refused, NoPlan, StateIs, Held, Free}
use Rattle.mega_two_driver.specs.declared.two.Two.{Two}
use Rattle.mega_two_driver.specs.Moves.{by_state, moved}
use Rattle.mega_two_driver.specs.Rows.{plan_line, plan_told}
use Rattle.mega_two_driver.specs.Begins.{plan_of}
use Rattle.mega_two_driver.specs.Driver.{is_recovering, learned, lost, moved_to, read_plan, stepped, taken, told_in, two_in}
use Rattle.mega_two_driver_laws.specs.Runs.{run}
use Rattle.mega_two_turns.specs.Messages.{reply_in}
use Rattle.mega_two_turns.specs.Turns.{answered, driven, driving, heard, is_due, put_out, start, proceeds_out}
use Rattle.mega_two_run_laws.specs.TurnResults.{answers, lost_in, told_by, tolds}
use Rattle.mega_two_run_laws.proofs.Plain.{stands, stays_plain}
use Rattle.mega_two_run_laws.proofs.Turns.{loses, takes_plainly}

-- it still looks for its plan; or it has the parts of the plan that it read, and is where what it was told leads; or it is open
pub data Goes : Two → List RequestResult → Type 0 where
  looks : (now : Two) (told : List RequestResult) → now.phase ≡ Recovers → ((n : ℕ) → run n Recovers told ≡ Recovers) → Goes now told
  knows : (now : Two) (told : List RequestResult) → now.phase ≡ run (length now.plan.parts) Recovers told → is_recovering now.phase ≡ false → Goes now told
  open_now : (now : Two) (told : List RequestResult) → now.phase ≡ Over Open → Goes now told

-- a step of one that does not look for its plan
steps_known : (now : Two) (told : RequestResult) (before : List RequestResult) → now.phase ≡ run (length now.plan.parts) Recovers before → is_recovering now.phase ≡ false → Goes (stepped now told) (told ∷ before)
steps_known now told before at plain =
    knows (stepped now told) (told ∷ before) (ap (λ (phase : Phase). moved (length now.plan.parts) phase told) at) (stays_plain (length now.plan.parts) now.phase told plain)

steps_open : (now : Two) (told : RequestResult) (before : List RequestResult) → now.phase ≡ Over Open → Goes (stepped now told) (told ∷ before)
steps_open now told before at = open_now (stepped now told) (told ∷ before) (ap (λ (phase : Phase). moved (length now.plan.parts) phase told) at)

-- one that does, and is told nothing of the plan, goes on so
still : (now : Two) (told : RequestResult) (before : List RequestResult) → now.phase ≡ Recovers → ((n : ℕ) → run n Recovers before ≡ Recovers) → ((n : ℕ) → moved n Recovers told ≡ Recovers) → Goes (stepped now told) (told ∷ before)
still now told before at all keeps =
    looks (stepped now told) (told ∷ before) (ap (λ (phase : Phase). moved (length now.plan.parts) phase told) at ∙ keeps (length now.plan.parts))
    (λ n. ap (λ (phase : Phase). moved n phase told) (all n) ∙ keeps n)

gives_up : (now : Two) (told : RequestResult) (before : List RequestResult) → now.phase ≡ Recovers → ((n : ℕ) → moved n Recovers told ≡ Over Open) → Goes (stepped now told) (told ∷ before)
gives_up now told before at ends = open_now (stepped now told) (told ∷ before) (ap (λ (phase : Phase). moved (length now.plan.parts) phase told) at ∙ ends (length now.plan.parts))

learns : (now : Two) (state : State) (plan : Option Plan) (before : List RequestResult) → ((n : ℕ) → run n Recovers before ≡ Recovers) → Goes (learned now state plan) (StateIs state ∷ before)
learns now state None before all = open_now (moved_to now (Over Open)) (StateIs state ∷ before) refl
learns now state (Some plan) before all = by (same plan.name now.plan.name)
  where
    by : (b : Bool) → Goes (if b then two_in now.schema (by_state (length plan.parts) false state) plan else moved_to now (Over Open)) (StateIs state ∷ before)
    by true =
        knows (two_in now.schema (by_state (length plan.parts) false state) plan) (StateIs state ∷ before) (sym (ap (λ (phase : Phase). moved (length plan.parts) phase (StateIs state)) (all (length plan.parts))))
        (stands (length plan.parts) false state)
    by false = open_now (moved_to now (Over Open)) (StateIs state ∷ before) refl

reads : (now : Two) (reply : List ℕ) (told : RequestResult) (before : List RequestResult) → now.phase ≡ Recovers → ((n : ℕ) → run n Recovers before ≡ Recovers) → Goes (read_plan now reply told) (told ∷ before)
reads now reply Done before at all = still now Done before at all (λ n. refl)
reads now reply Turned before at all = still now Turned before at all (λ n. refl)
reads now reply Again before at all = still now Again before at all (λ n. refl)
reads now reply Lost before at all = still now Lost before at all (λ n. refl)
reads now reply Refused before at all = gives_up now Refused before at (λ n. refl)
reads now reply NoPlan before at all = gives_up now NoPlan before at (λ n. refl)
reads now reply (StateIs state) before at all = learns now state (result_ok (plan_of now.schema (plan_line reply))) before all
reads now reply Held before at all = still now Held before at all (λ n. refl)
reads now reply Free before at all = still now Free before at all (λ n. refl)

looking_takes : (now : Two) (reply : List ℕ) → now.phase ≡ Recovers → taken now reply ≡ read_plan now reply (plan_told reply)
unfolding taken
looking_takes now reply at = ap (λ (b : Bool). if b then read_plan now reply (plan_told reply) else stepped now (told_in now.plan.name now.phase reply)) (ap is_recovering at)

takes : (now : Two) (reply : List ℕ) (before : List RequestResult) → Goes now before → Goes (taken now reply) (told_in now.plan.name now.phase reply ∷ before)
takes now reply before (looks _ _ at all) =
    subst (λ (told : RequestResult). Goes (taken now reply) (told ∷ before)) (sym (ap (λ (phase : Phase). told_in now.plan.name phase reply) at))
    (subst (λ (one : Two). Goes one (plan_told reply ∷ before)) (sym (looking_takes now reply at)) (reads now reply (plan_told reply) before at all))
takes now reply before (knows _ _ at plain) =
    subst (λ (one : Two). Goes one (told_in now.plan.name now.phase reply ∷ before)) (sym (takes_plainly now reply plain)) (steps_known now (told_in now.plan.name now.phase reply) before at plain)
takes now reply before (open_now _ _ at) =
    subst (λ (one : Two). Goes one (told_in now.plan.name now.phase reply ∷ before)) (sym (takes_plainly now reply (ap is_recovering at))) (steps_open now (told_in now.plan.name now.phase reply) before at)

loss : (now : Two) (before : List RequestResult) → Goes now before → Goes (lost now) (Lost ∷ before)
loss now before (looks _ _ at all) = subst (λ (one : Two). Goes one (Lost ∷ before)) (sym (loses now)) (still now Lost before at all (λ n. refl))
loss now before (knows _ _ at plain) = subst (λ (one : Two). Goes one (Lost ∷ before)) (sym (loses now)) (steps_known now Lost before at plain)
loss now before (open_now _ _ at) = subst (λ (one : Two). Goes one (Lost ∷ before)) (sym (loses now)) (steps_open now Lost before at)

goes_out : (patience now : ℕ) (at : Two) (token : ℕ) (since : Option ℕ) (before : List RequestResult) → Goes at before → Goes (put_out patience now at token since).two (lost_in patience now since ++ before)
goes_out patience now at token None before is = is
goes_out patience now at token (Some since) before is = by (is_due patience since now)
  where
    by : (b : Bool) → Goes (if b then driving (lost at) token None else driving at token (Some since)).two ((if b then Lost ∷ [] else []) ++ before)
    by true = loss at before is
    by false = is

comes_in : (node : ℕ) (at : Two) (token : ℕ) (since : Option ℕ) (got : Option Datagram) (before : List RequestResult) → Goes at before → Goes (heard node at token since got).two (answers node at token since got ++ before)
comes_in node at token None got before is = is
comes_in node at token (Some since) got before is = by (reply_in node token got)
  where
    by : (text : Option (List ℕ)) → Goes (answered at token since text).two (told_by at text ++ before)
    by None = is
    by (Some text) = takes at text before is

recovers : (node patience : ℕ) (two : Two) (given : List (ℕ × Option Datagram)) → two.phase ≡ Recovers → Goes (driven node patience (start two) given).two (tolds node patience (start two) given)
recovers node patience two [] begins = looks two [] begins (λ n. refl)
recovers node patience two (one ∷ before) begins =
    let d = driven node patience (start two) before in
    let out = proceeds_out patience d one.0 in
    comes_in node out.two out.token out.since one.1 (lost_in patience one.0 d.since ++ tolds node patience (start two) before)
    (goes_out patience one.0 d.two d.token d.since (tolds node patience (start two) before) (recovers node patience two before begins))

-- ---- the end

is_no_look : {A : Type 0} → ◌≡◌ {A = Phase} Recovers (Over Committed) → A
is_no_look is = absurd (let none : ◌≡◌ {A = Phase} Recovers (Over Committed) = is in cc)

is_not_open : {A : Type 0} → ◌≡◌ {A = Phase} (Over Open) (Over Committed) → A
is_not_open is = absurd (let none : ◌≡◌ {A = Phase} (Over Open) (Over Committed) = is in cc)

committed : (now : Two) (told : List RequestResult) → Goes now told → now.phase ≡ Over Committed → run (length now.plan.parts) Recovers told ≡ Over Committed
committed now told (looks _ _ at all) ended = is_no_look (sym at ∙ ended)
committed now told (knows _ _ at plain) ended = sym at ∙ ended
committed now told (open_now _ _ at) ended = is_not_open (sym at ∙ ended)

pub recovered_run : (node patience : ℕ) (two : Two) (given : List (ℕ × Option Datagram)) → two.phase ≡ Recovers → (driven node patience (start two) given).two.phase ≡ Over Committed
    → run (length (driven node patience (start two) given).two.plan.parts) Recovers (tolds node patience (start two) given) ≡ Over Committed
recovered_run node patience two given begins = committed (driven node patience (start two) given).two (tolds node patience (start two) given) (recovers node patience two given begins)

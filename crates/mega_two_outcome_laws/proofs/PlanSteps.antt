-- The requests that put, make and drop the plan of a line, from their texts to their steps.
use Rattle.std.proofs.Common.{◌≡◌, ℕ, Bool, true, false, List, refl, sym, subst, Some, Ok}
use Rattle.hex.specs.Hex.{IsBytes}
use Rattle.mega_schema.specs.declared.schema.Schema.{Schema}
use Rattle.mega_two_laws.specs.World.{Plan, Planning, Deciding}
use Rattle.mega_two_driver.specs.declared.plan.Plan.{Plan as Requests}
use Rattle.mega_two_driver.specs.Texts.{planning_text, deciding_text, plan_with}
use Rattle.mega_two_driver.specs.Fits.{transaction_of}
use Rattle.mega_two_driver.specs.Begins.{name_in, parts_in, plan_of}
use Rattle.mega_two_driver.specs.Driver.{decision}
use Rattle.mega_two_outcome_laws.specs.Changes.{parts_of}
use Rattle.mega_two_outcome_laws.specs.Shown.{Stores, shown}
use Rattle.mega_two_outcome_laws.specs.Runs.{IsStep}
use Rattle.mega_two_outcome_laws.specs.Histories.{IsRequest}
use Rattle.mega_two_outcome_laws.specs.Ready.{IsReady, TextFits}
use Rattle.mega_two_outcome_laws.proofs.Begun.{IsBegun, is_begun, name_is}
use Rattle.mega_two_outcome_laws.proofs.PlanTable.{plan_table}
use Rattle.mega_two_outcome_laws.proofs.PlanTexts.{is_planning, is_deciding}
use Rattle.mega_two_outcome_laws.proofs.Requested.{planned_so, decided_so}

pub planned_text : (s : Schema) (line : List ℕ) (plan : Requests) (stores : Stores) → IsReady s → IsBytes line → plan_of s line ≡ Ok plan → TextFits s plan.put
    → IsStep s (transaction_of s plan.put) plan.name (Planning plan.name (parts_of s line)) stores
unfolding plan_with
planned_text s line plan stores ready bytes e fits =
    let b = is_begun s line plan e in
    let name = name_in b.d in
    let named = name_is b.d b.fine in
    subst (λ (p : Requests). IsStep s (transaction_of s p.put) p.name (Planning p.name (parts_of s line)) stores) (sym b.is)
    (planned_so s name line (transaction_of s (planning_text name line)) stores
    (is_planning s ready (plan_table s ready b.plans) name line named bytes (subst (λ (p : Requests). TextFits s p.put) b.is fits)))

pub decided_text : (s : Schema) (line : List ℕ) (plan : Requests) (stores : Stores) (made : Bool) → IsReady s → IsBytes line → plan_of s line ≡ Ok plan → TextFits s (decision made plan)
    → ((stands : Plan) → (shown s stores).plans plan.name ≡ Some stands → stands.parts ≡ parts_of s line) → IsStep s (transaction_of s (decision made plan)) plan.name (Deciding plan.name made) stores
unfolding plan_with
decided_text s line plan stores made ready bytes e fits same_parts =
    let b = is_begun s line plan e in
    subst (λ (p : Requests). ((stands : Plan) → (shown s stores).plans p.name ≡ Some stands → stands.parts ≡ parts_of s line) → IsStep s (transaction_of s (decision made p)) p.name (Deciding p.name made) stores) (sym b.is)
    (λ same. by made (subst (λ (p : Requests). TextFits s (decision made p)) b.is fits) same) same_parts
  where
    begun : IsBegun s line plan
    begun = is_begun s line plan e

    decided_as : (made : Bool) → TextFits s (deciding_text made (name_in begun.d) line) → ((stands : Plan) → (shown s stores).plans (name_in begun.d) ≡ Some stands → stands.parts ≡ parts_of s line)
        → IsStep s (transaction_of s (deciding_text made (name_in begun.d) line)) (name_in begun.d) (Deciding (name_in begun.d) made) stores
    decided_as made fit same =
        decided_so s (name_in begun.d) line made (transaction_of s (deciding_text made (name_in begun.d) line)) stores
        (is_deciding s ready (plan_table s ready begun.plans) (name_in begun.d) line (name_is begun.d begun.fine) bytes made fit) same

    by : (made : Bool) → TextFits s (decision made (plan_with s line (name_in begun.d) (parts_in begun.d))) → ((stands : Plan) → (shown s stores).plans (name_in begun.d) ≡ Some stands → stands.parts ≡ parts_of s line)
        → IsStep s (transaction_of s (decision made (plan_with s line (name_in begun.d) (parts_in begun.d)))) (name_in begun.d) (Deciding (name_in begun.d) made) stores
    by true fit same = decided_as true fit same
    by false fit same = decided_as false fit same

-- ---- they are these requests

pub planned_request : (s : Schema) (line : List ℕ) (plan : Requests) → IsReady s → IsBytes line → plan_of s line ≡ Ok plan → TextFits s plan.put
    → IsRequest s (parts_of s line) (Planning plan.name (parts_of s line)) (transaction_of s plan.put)
unfolding plan_with
planned_request s line plan ready bytes e fits =
    let b = is_begun s line plan e in
    subst (λ (p : Requests). IsRequest s (parts_of s line) (Planning p.name (parts_of s line)) (transaction_of s p.put)) (sym b.is)
    (line, refl, is_planning s ready (plan_table s ready b.plans) (name_in b.d) line (name_is b.d b.fine) bytes (subst (λ (p : Requests). TextFits s p.put) b.is fits))

pub decided_request : (s : Schema) (line : List ℕ) (plan : Requests) (made : Bool) → IsReady s → IsBytes line → plan_of s line ≡ Ok plan → TextFits s (decision made plan)
    → IsRequest s (parts_of s line) (Deciding plan.name made) (transaction_of s (decision made plan))
unfolding plan_with
decided_request s line plan made ready bytes e fits =
    subst (λ (p : Requests). IsRequest s (parts_of s line) (Deciding p.name made) (transaction_of s (decision made p))) (sym begun.is) (by made (subst (λ (p : Requests). TextFits s (decision made p)) begun.is fits))
  where
    begun : IsBegun s line plan
    begun = is_begun s line plan e

    by : (made : Bool) → TextFits s (decision made (plan_with s line (name_in begun.d) (parts_in begun.d)))
        → IsRequest s (parts_of s line) (Deciding (name_in begun.d) made) (transaction_of s (decision made (plan_with s line (name_in begun.d) (parts_in begun.d))))
    by true fit = (line, refl, is_deciding s ready (plan_table s ready begun.plans) (name_in begun.d) line (name_is begun.d begun.fine) bytes true fit)
    by false fit = (line, refl, is_deciding s ready (plan_table s ready begun.plans) (name_in begun.d) line (name_is begun.d begun.fine) bytes false fit)

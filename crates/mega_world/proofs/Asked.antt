-- Each request of the format is one that is served.
use Rattle.std.proofs.Common.{◌≡◌, ℕ, ◌≤◌, ◌||◌, nat_le, true, false, Option, Some, None, is_some, length, refl, ap, arith}
use Rattle.std.proofs.lemmas.Bool.Decides.{nat_tests}
use Rattle.std.specs.Prelude.{is_none}
use Rattle.mega_base.specs.declared.names.GroupId.{GroupId}
use Rattle.mega_places.specs.of_outcome.declared.request.Request.{Request}
use Rattle.mega_places.specs.of_outcome.declared.request.Request.TheVariants.{Batch, Find, PumpEnter, PumpHandle, Read, Refresh, Txn}
use Rattle.mega_places.specs.of_durable.of_actions.of_step_work.Servable.{is_served}
use Rattle.mega_format_laws.specs.Requests.{IsRequest}

few : (n : ℕ) → n ≤ 16 → nat_le n 16 ≡ true
few n le = grind (arith, nat_tests)

one_of : (group : Option GroupId) → (is_none group || is_some group) ≡ true
one_of None = refl
one_of (Some group) = refl

pub asked_built : (request : Request) → IsRequest request → is_served request ≡ true
asked_built (Txn transaction) asked = refl
asked_built (Batch group transactions) asked = ap (λ b. b || false) (few (length transactions) asked.1)
asked_built (Read request) asked = refl
asked_built (Find request) asked = one_of request.group
asked_built PumpEnter asked = refl
asked_built PumpHandle asked = refl
asked_built Refresh asked = refl

-- What an operation does leaves what its node met and stored.
use Rattle.std.proofs.Common.{◌≡◌, ℕ, List, Option, Some, None, refl}
use Rattle.mega_wire.specs.declared.message.Message.{Message}
use Rattle.mega_entry.specs.declared.content.Content.{Content}
use Rattle.mega_rules.specs.Operations.{Now, Operation, Promised}
use Rattle.mega_rules.specs.Acting.{unless_decided}
use Rattle.mega_step_work.specs.declared.action.Action.{Action}
use Rattle.mega_step_work.specs.declared.action.End.{End}
use Rattle.mega_step_work.specs.declared.action.End.TheVariants.{Ends, Stays}
use Rattle.mega_step_work.specs.Actions.{does, ended_by, said}

met_by : (now : Now) (sends : Option (List Message)) (end : End) → (ended_by (said now sends) end).met ≡ now.met
met_by now None (Stays o) = refl
met_by now None (Ends op answer) = refl
met_by now (Some sends) (Stays o) = refl
met_by now (Some sends) (Ends op answer) = refl

stored_by : (now : Now) (sends : Option (List Message)) (end : End) → (ended_by (said now sends) end).stored ≡ now.stored
stored_by now None (Stays o) = refl
stored_by now None (Ends op answer) = refl
stored_by now (Some sends) (Stays o) = refl
stored_by now (Some sends) (Ends op answer) = refl

pub does_met : (now : Now) (action : Action) → (does now action).met ≡ now.met
does_met now action = met_by now action.sends action.end

pub does_stored : (now : Now) (action : Action) → (does now action).stored ≡ now.stored
does_stored now action = stored_by now action.sends action.end

pub unless_met : (now : Now) (o : Operation) (n : ℕ) (promised : Promised) (found : Option Content) → (unless_decided now o n promised found).met ≡ now.met
unless_met now o n promised None = refl
unless_met now o n promised (Some entry) = refl

pub unless_stored : (now : Now) (o : Operation) (n : ℕ) (promised : Promised) (found : Option Content) → (unless_decided now o n promised found).stored ≡ now.stored
unless_stored now o n promised None = refl
unless_stored now o n promised (Some entry) = refl

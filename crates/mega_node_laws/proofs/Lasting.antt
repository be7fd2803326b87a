-- What lasts through all that operations do within a step, where what they send is neither a promise nor a vote.
use Rattle.std.proofs.Common.{ℕ, List, fold, Option}
use Rattle.std.specs.List.{All}
use Rattle.mega_outcome.specs.declared.answer.Answer.{Answer}
use Rattle.mega_voter.specs.of_rules.Operations.{Now, Operation, Setting}
use Rattle.mega_voter.specs.of_rules.Steps.{Heard, all_act, ticked, unless_refused}
use Rattle.mega_node_laws.specs.About.{IsAbout}
use Rattle.mega_node_laws.specs.Asking.{Asks}
use Rattle.mega_node_laws.proofs.Acting.{asks_act, asks_cover}
use Rattle.mega_node_laws.proofs.Walk as walk
pub use Rattle.mega_node_laws.proofs.Walk.{does_due_about, hears_message_about}

abbrev pub Lasts : (Now → Type 0) → Type 0 → Type 0
Lasts = walk.Lasts Asks

abbrev pub IsHeard : Type 0 → Heard → Type 0
IsHeard = walk.IsHeard Asks

module _ (P : Now → Type 0) (wanted : Type 0) (l : Lasts P wanted) (s : Setting) where
  pub all_act_it : (ts : List Heard) (now : Now) → All (IsHeard wanted) ts → P now → P (all_act s now ts)
  all_act_it = walk.all_act_it Asks P wanted l s (asks_act s)

  pub all_ticked_it : (clock : ℕ) (os : List Operation) (now : Now) → (wanted → All IsAbout os) → P now → P (fold (ticked s clock) now os)
  all_ticked_it = walk.all_ticked_it Asks P wanted l s (asks_act s) (asks_cover s)

  pub begun_it : (now : Now) (o : Operation) (refusal : Option Answer) → P now → P (unless_refused s now o refusal)
  begun_it = walk.begun_it Asks P wanted l s (asks_act s)

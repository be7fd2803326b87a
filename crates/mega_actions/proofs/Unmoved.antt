-- Operations that heard nothing and only wait stay as they are, in their order.
use Rattle.std.proofs.Common.{◌≡◌, ◌∙◌, ◌++◌, ◌∷◌, [], ℕ, List, All, fold, map, ap, sym, append_assoc, append-nil}
use Rattle.std.proofs.lemmas.List.Elements.{All-head, All-map, All-tail}
use Rattle.mega_base.specs.declared.names.GroupId.{GroupId}
use Rattle.mega_replica.specs.of_wal.declared.kept.Kept.{Kept}
use Rattle.mega_answers.specs.of_node_laws.About.{IsAbout}
use Rattle.mega_answers.specs.of_voter.Telling.{Tells}
use Rattle.mega_rules.specs.Met.{Met}
use Rattle.mega_rules.specs.Operations.{Now, Operation, Setting}
use Rattle.mega_rules.specs.Steps.{Heard, acts_in_turn, all_act, at_first}
use Rattle.mega_actions.specs.Later.{later}
use Rattle.mega_actions.specs.Turns.{IsHeardAbout, IsServable, IsServableHeard, unheard}
use Rattle.mega_actions.specs.Waiting.{Waits}
use Rattle.mega_actions.proofs.Within.{goes_on_acts}

module _ (s : Setting) (kept : Kept) (met : List Met) (stored : GroupId → ℕ) (tells : Tells kept met) where
  abbrev with_kept : List Operation → Now
  with_kept os = record { met = met; stored = stored; kept = os; valid = []; answers = []; sends = [] }

  one_rests : (before : List Operation) (o : Operation) → Waits kept o → acts_in_turn s (with_kept before) (unheard o) ≡ with_kept (before ++ o ∷ [])
  one_rests before o waits = goes_on_acts s (with_kept before) o ∙ ap (later s (with_kept before)) (waits s (with_kept before) tells)

  rest_behind : (before os : List Operation) → All (Waits kept) os → fold (acts_in_turn s) (with_kept before) (map unheard os) ≡ with_kept (before ++ os)
  rest_behind before [] all = ap with_kept (sym (append-nil before))
  rest_behind before (o ∷ os) all =
      ap (λ (now : Now). fold (acts_in_turn s) now (map unheard os)) (one_rests before o (All-head (Waits kept) o os all))
      ∙ (rest_behind (before ++ o ∷ []) os (All-tail (Waits kept) o os all) ∙ ap with_kept (append_assoc before (o ∷ []) os))

  pub all_rest_is : (os : List Operation) → All (Waits kept) os → all_act s (at_first met stored) (map unheard os) ≡ record { met = met; stored = stored; kept = os; valid = []; answers = []; sends = [] }
  all_rest_is os all = rest_behind [] os all

pub unheard_about : (os : List Operation) → All IsAbout os → All IsHeardAbout (map unheard os)
unheard_about os all = All-map IsHeardAbout unheard os all

pub unheard_servable : (os : List Operation) → All IsServable os → All IsServableHeard (map unheard os)
unheard_servable os all = All-map IsServableHeard unheard os all

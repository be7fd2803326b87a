-- An operation that acts again and again in a step, by the turns that it has left.
use Rattle.std.proofs.Common.{◌≡◌, ◌∙◌, ◌++◌, ◌∷◌, [], ℕ, suc, ◌+◌, ◌-◌, ◌<◌, ◌≤◌, Some, None, ap, subst, sym, arith}
use Rattle.mega_disk.specs.VersionMaps.{Versions}
use Rattle.mega_handler.specs.Named.{Meanings}
use Rattle.mega_answers.specs.of_node_laws.About.{IsAbout}
use Rattle.mega_rules.specs.Acting.{ActsAgain, Rests, acts, goes_on, keeps, rests_within}
use Rattle.mega_rules.specs.Operations.{Now, Operation, Setting}
use Rattle.mega_actions.specs.declared.replica.Replica.{Replica}
use Rattle.mega_answers.specs.of_step_work.declared.work.Work.{Work}
use Rattle.mega_actions.specs.Acted.{Acted}
use Rattle.mega_actions.specs.IsAt.{IsAt}
use Rattle.mega_actions.specs.Later.{later}
use Rattle.mega_answers.specs.of_step_work.Working.{work_of}
use Rattle.mega_actions.proofs.Within.{goes_on_acts}

-- a moment at which the replica and the work are, from which the turns that are left lead where all led
pub record Goes {R V : Type 0} (version : V → Versions) (h : Meanings) (new : Replica R V) (before made : Work) (s : Setting) (now : Now) (o : Operation) (most left : ℕ) (next : Operation) : Type 0 where
  pub after : Now
  pub stands : IsAt version h new after.met after.stored
  pub work : before ≡ work_of now → made ≡ work_of after
  pub about : IsAbout next
  pub leads : rests_within most s (ActsAgain now o) ≡ rests_within left s (ActsAgain after next)

pub one_turn : (s t : Setting) (now after : Now) (o next : Operation) (most turn : ℕ) → turn < most → s ≡ t → rests_within most s (ActsAgain now o) ≡ rests_within (most - turn) s (ActsAgain after next)
    → rests_within most s (ActsAgain now o) ≡ rests_within (most - (turn + 1)) s (acts t after next)
one_turn s t now after o next most turn lt same is =
    is
    ∙ ap (λ n. rests_within n s (ActsAgain after next)) (let e : most - turn ≡ suc (most - (turn + 1)) = omega (arith, lt) in e)
    ∙ ap (λ u. rests_within (most - (turn + 1)) s (acts u after next)) same

pub no_turn : (s : Setting) (now after : Now) (o next : Operation) (most turn : ℕ) → most ≤ turn → rests_within most s (ActsAgain now o) ≡ rests_within (most - turn) s (ActsAgain after next)
    → rests_within most s (ActsAgain now o) ≡ keeps after next
no_turn s now after o next most turn le is = is ∙ ap (λ n. rests_within n s (ActsAgain after next)) (let e : most - turn ≡ 0 = omega (arith, le) in e)

-- an operation that acted once, and then again as often as it has turns left
module _ {R V : Type 0} (version : V → Versions) (h : Meanings) (mid new : Replica R V) (was between made : Work) (s t : Setting) (now : Now) (o next : Operation) (same : t ≡ s)
    (first : Acted version h mid was between now (acts s now o) (Some next)) (rest : Acted version h new between made first.after (Rests (later t now (ActsAgain first.after next))) None) where
  twice_is : goes_on s now o ≡ rest.after
  twice_is = goes_on_acts s now o ∙ ap (later s now) first.leads ∙ ap (λ (u : Setting). later u now (ActsAgain first.after next)) (sym same) ∙ ap (rests_within 0 s) rest.leads

  pub twice_stands : IsAt version h new (goes_on s now o).met (goes_on s now o).stored
  twice_stands = subst (λ (then : Now). IsAt version h new then.met then.stored) (sym twice_is) rest.stands

  pub twice_work : was ≡ work_of now → made ≡ work_of (goes_on s now o)
  twice_work is = rest.work (first.work is) ∙ ap work_of (sym twice_is)

-- or that acted once, and no more
module _ {R V : Type 0} (version : V → Versions) (h : Meanings) (new : Replica R V) (was made : Work) (s : Setting) (now : Now) (o : Operation) (only : Acted version h new was made now (acts s now o) None) where
  once_is : goes_on s now o ≡ only.after
  once_is = goes_on_acts s now o ∙ ap (later s now) only.leads

  pub once_stands : IsAt version h new (goes_on s now o).met (goes_on s now o).stored
  once_stands = subst (λ (then : Now). IsAt version h new then.met then.stored) (sym once_is) only.stands

  pub once_work : was ≡ work_of now → made ≡ work_of (goes_on s now o)
  once_work is = only.work is ∙ ap work_of (sym once_is)

-- one that waits stays open, with no turn more
module _ {R V : Type 0} (version : V → Versions) (h : Meanings) (replica : Replica R V) (s : Setting) (now : Now) (o : Operation) (waits : acts s now o ≡ Rests (keeps now o)) where
  waits_is : goes_on s now o ≡ keeps now o
  waits_is = goes_on_acts s now o ∙ ap (later s now) waits

  pub waits_stands : IsAt version h replica now.met now.stored → IsAt version h replica (goes_on s now o).met (goes_on s now o).stored
  waits_stands at = subst (λ (then : Now). IsAt version h replica then.met then.stored) (sym waits_is) at

  pub waits_work : (was made : Work) → made ≡ record was { kept = was.kept ++ o ∷ [] } → was ≡ work_of now → made ≡ work_of (goes_on s now o)
  waits_work was made pushed is = pushed ∙ ap (λ (work : Work). record work { kept = work.kept ++ o ∷ [] }) is ∙ ap work_of (sym waits_is)

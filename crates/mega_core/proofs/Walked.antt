-- What operations leave as they act in a step: which things they add to what is met, and that those that stay open are served.
use Rattle.std.proofs.Common.{◌≡◌, ℕ, List, [], ◌∷◌, map, fold, Option, Some, None, sym, ap, ◌∙◌, true}
use Rattle.std.specs.List.{All}
use Rattle.std.proofs.lemmas.List.Elements.{All-cons, All-head, All-nil, All-push, All-tail}
use Rattle.mega_base.specs.declared.names.GroupId.{GroupId}
use Rattle.mega_coordinator.specs.declared.answers.NotValid.{NotValid}
use Rattle.mega_wire.specs.declared.message.Message.{Message}
use Rattle.mega_outcome.specs.declared.answer.Answer.{Answer}
use Rattle.mega_rules.specs.Met.{Met, Answers, Validates}
use Rattle.mega_rules.specs.Operations.{Now, Operation, Phase, Proposes, Reads, Setting}
use Rattle.mega_rules.specs.Acting.{validated_by}
use Rattle.mega_rules.specs.Steps.{Heard, all_act, hears_message, ticked, unless_refused}
use Rattle.mega_actions.specs.of_node_laws.About.{IsAbout}
use Rattle.mega_actions.proofs.of_node_laws.Acting.{hears_message_asks}
use Rattle.mega_actions.proofs.of_node_laws.Ending.{onto_append}
use Rattle.mega_actions.proofs.of_node_laws.Lasting.{IsHeard, Lasts, all_act_it, all_ticked_it, begun_it, hears_message_about}
use Rattle.mega_actions.specs.of_step_work.Servable.{is_served}
use Rattle.mega_actions.specs.Turns.{IsServable, IsServableHeard, IsHeardAbout}
use Rattle.mega_core.specs.Acted.{Acted, IsEnd, IsValidate}
use Rattle.mega_step_parts.specs.Touching.{asked_groups}
use Rattle.mega_core.proofs.Walking.{IsHeardIn, IsOf, Walks, all_ticked_walked, all_walked, begun_walked}

-- ---- what is added to what is met

acted_lasts : (base : List Met) → Lasts (Acted base) (Unit {0})
acted_lasts base = record {
  keeps_it = λ now o about h. record { met_is = h.met_is; valid = h.valid; answers = h.answers; about = All-push IsAbout now.kept o h.about (about tt) };
  ends_it = λ now op answer h. record { met_is = h.met_is; valid = h.valid; answers = All-push IsEnd now.answers (Answers op answer) h.answers tt; about = h.about };
  sends_it = λ now sends more h. record { met_is = h.met_is; valid = h.valid; answers = h.answers; about = h.about };
  stores_it = λ now stored h. record { met_is = h.met_is; valid = h.valid; answers = h.answers; about = h.about };
  validates_it = λ now group p refusal h. validated now group p refusal h;
}
  where
    validated : (now : Now) (group : GroupId) (p : ℕ) (refusal : Option NotValid) → Acted base now → Acted base (validated_by now group p refusal)
    validated now group p None h = record {
      met_is = ap (λ (met : List Met). Validates group p ∷ met) h.met_is ∙ sym (onto_append now.valid (Validates group p ∷ []) base);
      valid = All-push IsValidate now.valid (Validates group p) h.valid tt;
      answers = h.answers;
      about = h.about;
    }
    validated now group p (Some refusal) h = h

all_heard : (s : Setting) (clock : ℕ) (m : Message) (os : List Operation) → All IsAbout os → All (IsHeard (Unit {0})) (map (hears_message s clock m) os)
all_heard s clock m [] about = All-nil (IsHeard (Unit {0}))
all_heard s clock m (o ∷ os) about =
    All-cons (IsHeard (Unit {0})) (hears_message s clock m o) (map (hears_message s clock m) os)
    (record { sends = hears_message_asks s clock m o; about = λ w. hears_message_about s clock m o (All-head IsAbout o os about) })
    (all_heard s clock m os (All-tail IsAbout o os about))

pub heard_about : (s : Setting) (clock : ℕ) (m : Message) (os : List Operation) → All IsAbout os → All IsHeardAbout (map (hears_message s clock m) os)
heard_about s clock m [] about = All-nil IsHeardAbout
heard_about s clock m (o ∷ os) about =
    All-cons IsHeardAbout (hears_message s clock m o) (map (hears_message s clock m) os) (hears_message_about s clock m o (All-head IsAbout o os about)) (heard_about s clock m os (All-tail IsAbout o os about))

pub all_acted : (s : Setting) (base : List Met) (clock : ℕ) (m : Message) (os : List Operation) (now : Now) → All IsAbout os → Acted base now → Acted base (all_act s now (map (hears_message s clock m) os))
all_acted s base clock m os now about h = all_act_it (Acted base) (Unit {0}) (acted_lasts base) s (map (hears_message s clock m) os) now (all_heard s clock m os about) h

pub all_ticked_acted : (s : Setting) (base : List Met) (clock : ℕ) (os : List Operation) (now : Now) → All IsAbout os → Acted base now → Acted base (fold (ticked s clock) now os)
all_ticked_acted s base clock os now about h = all_ticked_it (Acted base) (Unit {0}) (acted_lasts base) s clock os now (λ w. about) h

pub begun_acted : (s : Setting) (base : List Met) (now : Now) (o : Operation) (refusal : Option Answer) → Acted base now → Acted base (unless_refused s now o refusal)
begun_acted s base now o refusal h = begun_it (Acted base) (Unit {0}) (acted_lasts base) s now o refusal h

-- ---- which operations stay open

abbrev Served : Now → Type 0
Served now = All IsServable now.kept

abbrev pub IsAny : GroupId → Type 0
IsAny group = Unit {0}

served_walks : Walks Served IsAny
served_walks = record {
  keeps_it = λ now o is h. All-push IsServable now.kept o h is;
  ends_it = λ now op answer h. h;
  sends_it = λ now sends h. h;
  stores_it = λ now group count grows any h. h;
  validates_it = validated;
}
  where
    validated : (now : Now) (group : GroupId) (p : ℕ) (refusal : Option NotValid) → Served now → Served (validated_by now group p refusal)
    validated now group p None h = h
    validated now group p (Some refusal) h = h

pub in_any : (os : List Operation) → All (IsOf IsAny) os
in_any [] = All-nil (IsOf IsAny)
in_any (o ∷ os) = All-cons (IsOf IsAny) o os (tt, λ pump group. tt) (in_any os)

pub heard_in_any : (ts : List Heard) → All (IsHeardIn IsAny) ts
heard_in_any [] = All-nil (IsHeardIn IsAny)
heard_in_any (t ∷ ts) = All-cons (IsHeardIn IsAny) t ts (λ reached. (tt, λ pump group. tt)) (heard_in_any ts)

pub all_any : (groups : List GroupId) → All IsAny groups
all_any [] = All-nil IsAny
all_any (group ∷ groups) = All-cons IsAny group groups tt (all_any groups)

pub all_served : (s : Setting) (ts : List Heard) (now : Now) → All IsServableHeard ts → Served now → Served (all_act s now ts)
all_served s ts now each h = all_walked Served IsAny served_walks s ts now each (heard_in_any ts) h

heard_built : (s : Setting) (clock : ℕ) (m : Message) (o : Operation) (phase : Phase) → IsServable o
    → IsServable (hears_message s clock m (record { id = o.id; request = o.request; began = o.began; visited = o.visited; message = o.message; phase = phase })).operation
heard_built s clock m o (Reads group r) is = is
heard_built s clock m o (Proposes group n asked proposal promised) is = is

pub all_heard_built : (s : Setting) (clock : ℕ) (m : Message) (os : List Operation) → All IsServable os → All IsServableHeard (map (hears_message s clock m) os)
all_heard_built s clock m [] are = All-nil IsServableHeard
all_heard_built s clock m (o ∷ os) are =
    All-cons IsServableHeard (hears_message s clock m o) (map (hears_message s clock m) os) (heard_built s clock m o o.phase (All-head IsServable o os are)) (all_heard_built s clock m os (All-tail IsServable o os are))

pub all_ticked_served : (s : Setting) (clock : ℕ) (os : List Operation) (now : Now) → All IsServable os → Served now → Served (fold (ticked s clock) now os)
all_ticked_served s clock os now are h = all_ticked_walked Served IsAny served_walks s clock os now are (in_any os) h

pub begun_served : (s : Setting) (now : Now) (o : Operation) (refusal : Option Answer) → (refusal ≡ None → is_served o.request ≡ true) → Served now → Served (unless_refused s now o refusal)
begun_served s now o refusal is h = begun_walked Served IsAny served_walks s now o refusal is (all_any (asked_groups o.request)) (λ pump group. tt) h

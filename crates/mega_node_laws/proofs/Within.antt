-- What operations leave as they act: all that is sent asks, nothing is decided, and each stays about its group.
use Rattle.std.proofs.Common.{ℕ, List, fold, Option, Some, None, refl}
use Rattle.std.specs.List.{All}
use Rattle.std.proofs.lemmas.List.Elements.{All-push, All-weaker}
use Rattle.mega_base.specs.declared.names.GroupId.{GroupId}
use Rattle.mega_coordinator.specs.declared.answers.NotValid.{NotValid}
use Rattle.mega_voter.specs.of_read.declared.reading.Reading.{Reading}
use Rattle.mega_voter.specs.of_rules.Met.{Met, Validates}
use Rattle.mega_voter.specs.of_rules.Operations.{Now, Operation, Setting}
use Rattle.mega_voter.specs.of_rules.Acting.{completes_read, goes_on, validated_by}
use Rattle.mega_voter.specs.of_rules.Steps.{Heard, acts_in_turn, all_act, begins, ticked}
use Rattle.mega_node_laws.specs.About.{IsAbout}
use Rattle.mega_node_laws.specs.Asking.{Asks}
use Rattle.mega_node_laws.specs.Deciding.{SameLogs}
use Rattle.mega_node_laws.proofs.Logs.{same_more, same_self}
use Rattle.mega_node_laws.proofs.Acting.{asks_act, asks_cover}
use Rattle.mega_node_laws.proofs.Walk.{AllSent, acts_in_turn_it, begins_it, completes_read_it, goes_on_it, sent_lasts, ticked_it}
use Rattle.mega_node_laws.proofs.Lasting.{IsHeard, Lasts, all_act_it, all_ticked_it}

-- ---- all that is to be sent asks

abbrev pub AllAsk : Now → Type 0
AllAsk = AllSent Asks

pub ask_lasts : Lasts AllAsk ⊥
ask_lasts = sent_lasts Asks

pub unasked : (o : Operation) → ⊥ → IsAbout o
unasked o impossible = absurd impossible

pub completes_read_asks : (s : Setting) (now : Now) (group : GroupId) (r : Reading) (p : ℕ) → AllAsk now → AllAsk (completes_read s now group r p)
completes_read_asks s now group r p h = completes_read_it Asks AllAsk ⊥ ask_lasts s (asks_act s) now group r p h

pub goes_on_asks : (s : Setting) (now : Now) (o : Operation) → AllAsk now → AllAsk (goes_on s now o)
goes_on_asks s now o h = goes_on_it Asks AllAsk ⊥ ask_lasts s (asks_act s) now o (unasked o) h

pub begins_asks : (s : Setting) (now : Now) (o : Operation) → AllAsk now → AllAsk (begins s now o)
begins_asks s now o h = begins_it Asks AllAsk ⊥ ask_lasts s (asks_act s) now o h

pub acts_in_turn_asks : (s : Setting) (now : Now) (t : Heard) → All Asks t.sends → AllAsk now → AllAsk (acts_in_turn s now t)
acts_in_turn_asks s now t sends h = acts_in_turn_it Asks AllAsk ⊥ ask_lasts s (asks_act s) now t (record { sends = sends; about = unasked t.operation }) h

pub ticked_asks : (s : Setting) (clock : ℕ) (now : Now) (o : Operation) → AllAsk now → AllAsk (ticked s clock now o)
ticked_asks s clock now o h = ticked_it Asks AllAsk ⊥ ask_lasts s (asks_act s) (asks_cover s) clock now o (unasked o) h

pub all_act_asks : (s : Setting) (ts : List Heard) (now : Now) → All (λ (t : Heard). All Asks t.sends) ts → AllAsk now → AllAsk (all_act s now ts)
all_act_asks s ts now each h = all_act_it AllAsk ⊥ ask_lasts s ts now (All-weaker (λ (t : Heard). All Asks t.sends) (IsHeard ⊥) (λ t sends. record { sends = sends; about = unasked t.operation }) ts each) h

pub all_ticked_ask : (s : Setting) (clock : ℕ) (os : List Operation) (now : Now) → AllAsk now → AllAsk (fold (ticked s clock) now os)
all_ticked_ask s clock os now h = all_ticked_it AllAsk ⊥ ask_lasts s clock os now (λ impossible. absurd impossible) h

-- ---- nothing is decided

pub logs_last : (base : List Met) → Lasts (λ now. SameLogs base now.met) ⊥
logs_last base = record {
  keeps_it = λ now o about h. h;
  ends_it = λ now op answer h. h;
  sends_it = λ now sends more h. h;
  stores_it = λ now stored h. h;
  validates_it = λ now group p refusal h. validated now group p refusal h;
}
  where
    validated : (now : Now) (group : GroupId) (p : ℕ) (refusal : Option NotValid) → SameLogs base now.met → SameLogs base (validated_by now group p refusal).met
    validated now group p None h = same_more (Validates group p) base now.met refl h
    validated now group p (Some refusal) h = h

pub completes_read_logs : (s : Setting) (now : Now) (group : GroupId) (r : Reading) (p : ℕ) → SameLogs now.met (completes_read s now group r p).met
completes_read_logs s now group r p = completes_read_it Asks (λ one. SameLogs now.met one.met) ⊥ (logs_last now.met) s (asks_act s) now group r p (same_self now.met)

pub goes_on_logs : (s : Setting) (now : Now) (o : Operation) → SameLogs now.met (goes_on s now o).met
goes_on_logs s now o = goes_on_it Asks (λ one. SameLogs now.met one.met) ⊥ (logs_last now.met) s (asks_act s) now o (unasked o) (same_self now.met)

pub begins_logs : (s : Setting) (now : Now) (o : Operation) → SameLogs now.met (begins s now o).met
begins_logs s now o = begins_it Asks (λ one. SameLogs now.met one.met) ⊥ (logs_last now.met) s (asks_act s) now o (same_self now.met)

pub acts_in_turn_logs : (s : Setting) (now : Now) (t : Heard) → All Asks t.sends → SameLogs now.met (acts_in_turn s now t).met
acts_in_turn_logs s now t sends = acts_in_turn_it Asks (λ one. SameLogs now.met one.met) ⊥ (logs_last now.met) s (asks_act s) now t (record { sends = sends; about = unasked t.operation }) (same_self now.met)

pub ticked_logs : (s : Setting) (clock : ℕ) (now : Now) (o : Operation) → SameLogs now.met (ticked s clock now o).met
ticked_logs s clock now o = ticked_it Asks (λ one. SameLogs now.met one.met) ⊥ (logs_last now.met) s (asks_act s) (asks_cover s) clock now o (unasked o) (same_self now.met)

-- ---- each operation stays about its group

about_lasts : Lasts (λ now. All IsAbout now.kept) (Unit {0})
about_lasts = record {
  keeps_it = λ now o about h. All-push IsAbout now.kept o h (about tt);
  ends_it = λ now op answer h. h;
  sends_it = λ now sends more h. h;
  stores_it = λ now stored h. h;
  validates_it = λ now group p refusal h. validated now group p refusal h;
}
  where
    validated : (now : Now) (group : GroupId) (p : ℕ) (refusal : Option NotValid) → All IsAbout now.kept → All IsAbout (validated_by now group p refusal).kept
    validated now group p None h = h
    validated now group p (Some refusal) h = h

pub goes_on_about : (s : Setting) (now : Now) (o : Operation) → IsAbout o → All IsAbout now.kept → All IsAbout (goes_on s now o).kept
goes_on_about s now o about h = goes_on_it Asks (λ one. All IsAbout one.kept) (Unit {0}) about_lasts s (asks_act s) now o (λ w. about) h

pub begins_about : (s : Setting) (now : Now) (o : Operation) → All IsAbout now.kept → All IsAbout (begins s now o).kept
begins_about s now o h = begins_it Asks (λ one. All IsAbout one.kept) (Unit {0}) about_lasts s (asks_act s) now o h

pub acts_in_turn_about : (s : Setting) (now : Now) (t : Heard) → All Asks t.sends → IsAbout t.operation → All IsAbout now.kept → All IsAbout (acts_in_turn s now t).kept
acts_in_turn_about s now t sends about h = acts_in_turn_it Asks (λ one. All IsAbout one.kept) (Unit {0}) about_lasts s (asks_act s) now t (record { sends = sends; about = λ w. about }) h

pub ticked_about : (s : Setting) (clock : ℕ) (now : Now) (o : Operation) → IsAbout o → All IsAbout now.kept → All IsAbout (ticked s clock now o).kept
ticked_about s clock now o about h = ticked_it Asks (λ one. All IsAbout one.kept) (Unit {0}) about_lasts s (asks_act s) (asks_cover s) clock now o (λ w. about) h

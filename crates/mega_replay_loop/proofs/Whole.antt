-- What is said of the schedule is said of the input.
use Rattle.std.proofs.Common.{◌≡◌, ◌⊎◌, ℕ, inl, inr, Option, Some, None, List, [], ◌∷◌, ◌++◌, Ok, Err, refl, sym, ◌∙◌, ap, subst, append_assoc, append-nil}
use Rattle.mega_cluster.specs.declared.cluster.Cluster.{Cluster}
use Rattle.mega_cluster.specs.Header.{read_of}
use Rattle.mega_words.specs.declared.command.Report.{Report}
use Rattle.mega_schedule.specs.Events.{event_of}
use Rattle.mega_header.specs.Known.{AreParted, HeaderFails, TakesHeader}
use Rattle.mega_replay_loop.specs.Known.{InputBegun, InputBroken, InputDone, InputFailed, InputNoEvent, InputRefused, InputPastLast, IsBroken, IsHeaded, LeftFails, LeftIsBegun, LeftIsDone, LeftStops}
use Rattle.mega_header.specs.Parts.{lines_behind}
use Rattle.mega_replay_loop.specs.Replaying.{AreDone, AreDoneBehind, AreRead, InputIsFailed}
use Rattle.mega_line_events.specs.Refusals.{IsRefused, IsPastLast}
use Rattle.mega_header.proofs.Inputs.{both_none}
use Rattle.mega_io.specs.TextLines.{ended_lines, lines_of}

pub input_done : (report : Report) (a b : Option (List ℕ)) (c : Cluster) (Says : List ℕ → Type 0) → IsHeaded a b c → LeftIsDone report c b Says → InputDone report a Says
input_done report None b c Says headed done = tt
input_done report (Some a) None c Says headed done = absurd headed
input_done report (Some a) (Some b) c Says headed done = (c, lines_of b, headed.0, done)

pub input_begun : (report : Report) (a b : Option (List ℕ)) (c : Cluster) (Says : List ℕ → Type 0) → IsHeaded a b c → LeftIsBegun report c b Says → InputBegun report a Says
input_begun report None b c Says headed begun = tt
input_begun report (Some a) None c Says headed begun = absurd headed
input_begun report (Some a) (Some b) c Says headed begun = inr (c, lines_of b, headed.0, begun)

pub input_unbegun : (report : Report) (a : Option (List ℕ)) (Says : List ℕ → Type 0) → Says [] → InputBegun report a Says
input_unbegun report None Says said = tt
input_unbegun report (Some a) Says said = inl said

pub input_broken : (a : Option (List ℕ)) (rule : ℕ) (Says : List ℕ → Type 0) → IsBroken a rule → Says [] → InputBroken a rule Says
input_broken None rule Says broken said = tt
input_broken (Some a) rule Says broken said = (broken, said)

pub input_no_event : (report : Report) (a b : Option (List ℕ)) (c : Cluster) (at reason : ℕ) (Says : List ℕ → Type 0) → IsHeaded a b c → LeftStops report c b at (λ line now. event_of c.schema at line ≡ Err reason) Says → InputNoEvent report a at reason Says
input_no_event report None b c at reason Says headed stops = tt
input_no_event report (Some a) None c at reason Says headed stops = absurd headed
input_no_event report (Some a) (Some b) c at reason Says headed stops = (c, lines_of b, headed.0, stops)

pub input_refused : (report : Report) (a b : Option (List ℕ)) (c : Cluster) (at why : ℕ) (Says : List ℕ → Type 0) → IsHeaded a b c → LeftStops report c b at (λ line now. IsRefused c at line now why) Says → InputRefused report a at why Says
input_refused report None b c at why Says headed stops = tt
input_refused report (Some a) None c at why Says headed stops = absurd headed
input_refused report (Some a) (Some b) c at why Says headed stops = (c, lines_of b, headed.0, stops)

pub input_limit : (report : Report) (a b : Option (List ℕ)) (c : Cluster) (at : ℕ) (Says : List ℕ → Type 0) → IsHeaded a b c → LeftStops report c b at (λ line now. IsPastLast c at line now) Says → InputPastLast report a at Says
input_limit report None b c at Says headed stops = tt
input_limit report (Some a) None c at Says headed stops = absurd headed
input_limit report (Some a) (Some b) c at Says headed stops = (c, lines_of b, headed.0, stops)

-- ---- the source failed

pub input_unfailed : (report : Report) (a left : Option (List ℕ)) (Says : List ℕ → Type 0) → HeaderFails a left → Says [] → InputFailed report a left Says
input_unfailed report None left Says fails said = tt
input_unfailed report (Some a) None Says fails said = absurd fails
input_unfailed report (Some a) (Some left) Says (read, is, none) said =
    (ended_lines read, (read, is, inl refl), subst (λ (behind : Option (List (List ℕ))). AreDoneBehind report (ended_lines read) behind Says) (sym none) said)

done_behind : (report : Report) (c : Cluster) (text : List ℕ) (lines schedule : List (List ℕ)) (Says : List ℕ → Type 0) → AreParted text lines schedule → read_of 1 text ≡ Ok c → AreDone report c schedule Says
    → AreDoneBehind report lines (lines_behind lines) Says
done_behind report c text lines schedule Says parted reads done =
    subst (λ (behind : Option (List (List ℕ))). AreDoneBehind report lines behind Says) (sym parted.1) (c, ap (read_of 1) parted.0 ∙ reads, done)

-- the whole input was read
all_read : (report : Report) (a b left : List ℕ) (c : Cluster) (text : List ℕ) (lines : List (List ℕ)) (Says : List ℕ → Type 0) → AreParted text (lines_of a) (lines_of b) → read_of 1 text ≡ Ok c → left ≡ [] → lines ≡ lines_of b
    → AreDone report c lines Says → InputIsFailed report a left Says
all_read report a b left c text lines Says parted reads none all done = (
  lines_of a,
  (a, sym (append-nil a) ∙ ap (λ (xs : List ℕ). a ++ xs) (sym none), inr (none, refl)),
  done_behind report c text (lines_of a) (lines_of b) Says parted reads (subst (λ (schedule : List (List ℕ)). AreDone report c schedule Says) all done),
)

failed_in : (report : Report) (a b left : List ℕ) (c : Cluster) (text : List ℕ) (lines : List (List ℕ)) (Says : List ℕ → Type 0) → TakesHeader a b text → AreParted text (lines_of a) (lines_of b) → read_of 1 text ≡ Ok c → AreRead b left lines
    → AreDone report c lines Says → InputIsFailed report a left Says
failed_in report a b left c text lines Says (read, is, inl takes) parted reads (more, follows, inl ended) done = (
  ended_lines (read ++ more),
  (read ++ more, is ∙ ap (λ (xs : List ℕ). read ++ xs) follows ∙ sym (append_assoc read more left), inl refl),
  done_behind report c text (ended_lines (read ++ more)) (ended_lines more) Says (takes more) reads (subst (λ (schedule : List (List ℕ)). AreDone report c schedule Says) ended done),
)
failed_in report a b left c text lines Says (read, is, inr empty) parted reads (more, follows, inl ended) done =
    let none = both_none more left (sym empty ∙ follows) in
    all_read report a b left c text lines Says parted reads none.1 (ended ∙ ap ended_lines none.0 ∙ ap lines_of (sym empty)) done
failed_in report a b left c text lines Says taken parted reads (more, follows, inr (none, all)) done =
    all_read report a b left c text lines Says parted reads none (all ∙ ap lines_of (sym (follows ∙ ap (λ (xs : List ℕ). more ++ xs) none ∙ append-nil more))) done

pub input_failed : (report : Report) (a b left : Option (List ℕ)) (c : Cluster) (Says : List ℕ → Type 0) → IsHeaded a b c → LeftFails report c b left Says → InputFailed report a left Says
input_failed report None b left c Says headed fails = tt
input_failed report (Some a) None left c Says headed fails = absurd headed
input_failed report (Some a) (Some b) None c Says headed fails = absurd fails
input_failed report (Some a) (Some b) (Some left) c Says headed fails = failed_in report a b left c headed.1.0 fails.0 Says headed.1.3 headed.1.2 headed.1.1 fails.1 fails.2

-- What a change that ends as committed saw; and where memory was wanting for its name, nothing was done.
use Rattle.std.proofs.Common.{◌≡◌, ℕ, List, Option, length, refl, sym, ◌∙◌, arith}
use Rattle.std.proofs.KnownBytes.{Appends-nil}
use Rattle.mega_node.specs.Outside.{Outside}
use Rattle.mega_two_words.specs.declared.last.Last.TheVariants.{Header}
use Rattle.mega_two_driver_laws.proofs.Saw.{begun_seen, recovered_seen}
use Rattle.mega_two_turns.specs.Turns.{driven, start}
use Rattle.mega_two_run_laws.specs.TurnResults.{tolds}
use Rattle.mega_two_run_laws.proofs.Recovering.{recovered_run}
use Rattle.mega_two_run_laws.proofs.Turns.{goes, is_over}
use Rattle.mega_replay.specs.Changes.{SeesBefore}
use Rattle.mega_replay.specs.Run.{HasDriven}

pub sees_before : (number : ℕ) → SeesBefore number
sees_before number = record {
  begun = λ patience two given begins ended.
      begun_seen (length two.plan.parts) (tolds number patience (start two) given)
      (sym (goes number patience two given begins) ∙ is_over (driven number patience (start two) given).two.phase ended);
  recovered = λ patience two given begins ended.
      recovered_seen (length (driven number patience (start two) given).two.plan.parts) (tolds number patience (start two) given)
      (recovered_run number patience two given begins (is_over (driven number patience (start two) given).two.phase ended));
}

pub none_driven : (number turns : ℕ) (recover input : Option (List ℕ)) (outside : Outside) → HasDriven number turns recover input outside outside 8
none_driven number turns recover input outside = record {
  whole = λ plain. absurd (cc);
  front = λ is. absurd (omega (arith, is));
  none = λ is. refl;
  memory = λ is. (Header 0, (0, Appends-nil outside.held));
  sees = sees_before number;
}

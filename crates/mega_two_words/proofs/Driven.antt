-- A run by its turns, from where the link was bound.
use Rattle.std.proofs.Common.{◌≡◌, ℕ, List, Option, sym, ◌∙◌, ap, subst}
use Rattle.mega_link.specs.Datagrams.{Datagram}
use Rattle.mega_two_driver.specs.declared.two.Two.{Two}
use Rattle.mega_two_turns.specs.declared.driving.Driving.{Driving}
use Rattle.mega_two_turns.specs.Turns.{Drives, IsWhole, ending, start as started}
use Rattle.mega_two_words.specs.declared.last.Last.{Last}
use Rattle.mega_two_words.specs.declared.last.Last.TheVariants.{Ended}
use Rattle.mega_two_words.specs.declared.start.Start.{Start}
use Rattle.mega_two_words.specs.Runs.{Ends}

pub ended : (node turns : ℕ) (start : Start) (two : Two) (read more_read : Option (List ℕ)) (taken mid_taken more_taken : Option (List (Option Datagram))) (sent mid_sent more_sent : Option (List Datagram)) (last : Last)
    → mid_taken ≡ taken → mid_sent ≡ sent
    → (given : List (ℕ × Option Datagram)) × ((end : Driving) × (Drives node start.cluster.patience (started start.two) end read more_read mid_taken more_taken mid_sent more_sent given × (end.two ≡ two) × IsWhole turns two given))
    → last ≡ Ended two.plan.name (ending two) → Ends node turns start read more_read taken more_taken sent more_sent last
ended node turns start two read more_read taken mid_taken more_taken sent mid_sent more_sent last kept same run tells =
    let end = run.1.0 in record {
      given = run.0;
      end = end;
      drives =
          subst (λ (told : Option (List (Option Datagram))). Drives node start.cluster.patience (started start.two) end read more_read told more_taken sent more_sent run.0) kept
          (subst (λ (told : Option (List Datagram)). Drives node start.cluster.patience (started start.two) end read more_read mid_taken more_taken told more_sent run.0) same run.1.1.0);
      whole = subst (λ (two : Two). IsWhole turns two run.0) (sym run.1.1.1) run.1.1.2;
      tells = tells ∙ ap (λ (two : Two). Ended two.plan.name (ending two)) (sym run.1.1.1);
    }

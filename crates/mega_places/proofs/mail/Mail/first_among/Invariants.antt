use Rattle.std.proofs.Common.{◌≤◌, length}
use Rattle.mega_verdicts.specs.Least.{IsLeast}
use Rattle.mega_places.specs.Waits.{waits_among}
use Rattle.mega_places.proofs.mail.Mail.first_among.Given as goal

abbrev pub invariant-loop-before : goal.invariant-loop-before
invariant-loop-before l =
    record {
      least : IsLeast (waits_among l.self.waiting.items l.places l.before) l.first;
      most : l.before ≤ length l.places;
    }

-- Two verdicts that are joined are fine where each is.
use Rattle.std.proofs.Common.{◌≡◌, refl}
use Rattle.mega_schedule.specs.declared.verdict.Verdict.{Verdict}
use Rattle.mega_schedule.specs.declared.verdict.Verdict.TheVariants.{Missing, Extra, WrongKind, OutOfRange, Fine}
use Rattle.mega_schedule.specs.Verdicts.{◌⊓◌}

pub record AreFine (one two : Verdict) : Type 0 where
  pub first : one ≡ Fine
  pub second : two ≡ Fine

pub both_fine : (one two : Verdict) → one ⊓ two ≡ Fine → AreFine one two
both_fine Fine two e = record { first = refl; second = e }
both_fine Missing two e = absurd (cc)
both_fine Extra Missing e = absurd (cc)
both_fine Extra Extra e = absurd (cc)
both_fine Extra WrongKind e = absurd (cc)
both_fine Extra OutOfRange e = absurd (cc)
both_fine Extra Fine e = absurd (cc)
both_fine WrongKind Missing e = absurd (cc)
both_fine WrongKind Extra e = absurd (cc)
both_fine WrongKind WrongKind e = absurd (cc)
both_fine WrongKind OutOfRange e = absurd (cc)
both_fine WrongKind Fine e = absurd (cc)
both_fine OutOfRange Missing e = absurd (cc)
both_fine OutOfRange Extra e = absurd (cc)
both_fine OutOfRange WrongKind e = absurd (cc)
both_fine OutOfRange OutOfRange e = absurd (cc)
both_fine OutOfRange Fine e = absurd (cc)

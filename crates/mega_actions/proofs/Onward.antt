-- How a read goes on, by how far it is.
use Rattle.std.proofs.Common.{◌≡◌, ◌∙◌, ℕ, ◌+◌, Bool, true, false, if◌then◌else◌, List, Option, Some, None, refl, ap}
use Rattle.std.specs.Prelude.{nat_le}
use Rattle.mega_base.specs.declared.names.Epoch.{Epoch}
use Rattle.mega_base.specs.declared.names.GroupId.{GroupId}
use Rattle.mega_read.specs.declared.reading.Reading.{Reading}
use Rattle.mega_read.specs.declared.reading.Stage.{Stage}
use Rattle.mega_read.specs.declared.reading.Stage.TheVariants.{Catching, Polling}
use Rattle.mega_read.specs.Catching.{seeks, through_of}
use Rattle.mega_rules.specs.Clock.{clock_of}
use Rattle.mega_rules.specs.Logs.{prefix_of}
use Rattle.mega_rules.specs.Operations.{Now, Operation, Setting}
use Rattle.mega_rules.specs.Acting.{Next, Rests, completes_read, finishes, keeps, reader_of, reads_on, seeks_on}

module _ (s : Setting) (now : Now) (o : Operation) (group : GroupId) where
  abbrev at : Option Epoch → List ℕ → Stage → Reading
  at noted asked stage = record { noted = noted; asked = asked; stage = stage }

  abbrev goes : Reading → ℕ → Bool → Next
  goes r p t = if t then finishes s (completes_read s now group r p) o group r p else Rests (seeks_on o now group (seeks (reader_of s o.id group) r (prefix_of now.met group + 1) (clock_of now.met)))

  polls_at : (noted : Option Epoch) (asked : List ℕ) (stage : Stage) → through_of (at noted asked stage) ≡ None → reads_on s now o group (at noted asked stage) ≡ Rests (keeps now o)
  polls_at noted asked (Polling heard best sent) is = refl
  polls_at noted asked (Catching through search) is = cc

  goes_at : (noted : Option Epoch) (asked : List ℕ) (stage : Stage) (p : ℕ) (t : Bool) → through_of (at noted asked stage) ≡ Some p → nat_le p (prefix_of now.met group) ≡ t
      → reads_on s now o group (at noted asked stage) ≡ goes (at noted asked stage) p t
  goes_at noted asked (Polling heard best sent) p t is test = cc
  goes_at noted asked (Catching through search) p t is test =
      ap (by (at noted asked (Catching through search))) is ∙ ap (goes (at noted asked (Catching through search)) p) test
    where
      by : Reading → Option ℕ → Next
      by r None = Rests now
      by r (Some q) = goes r q (nat_le q (prefix_of now.met group))

  -- a read that polls stays open
  pub polls : (r : Reading) → through_of r ≡ None → reads_on s now o group r ≡ Rests (keeps now o)
  polls r is = polls_at r.noted r.asked r.stage is

  -- one that has its position completes, where all through it is decided
  pub reaches : (r : Reading) (p : ℕ) → through_of r ≡ Some p → nat_le p (prefix_of now.met group) ≡ true → reads_on s now o group r ≡ finishes s (completes_read s now group r p) o group r p
  reaches r p is test = goes_at r.noted r.asked r.stage p true is test

  -- and else seeks the least position that is not decided
  pub seeks_least : (r : Reading) (p : ℕ) → through_of r ≡ Some p → nat_le p (prefix_of now.met group) ≡ false
      → reads_on s now o group r ≡ Rests (seeks_on o now group (seeks (reader_of s o.id group) r (prefix_of now.met group + 1) (clock_of now.met)))
  seeks_least r p is test = goes_at r.noted r.asked r.stage p false is test

-- What the index of messages' rows keeps.
use Rattle.std.specs.Prelude.{◌≡◌, ℕ, List}
use Rattle.std.specs.Ordering.{nat_cmp}
use Rattle.std.specs.BTreeMap.{get}
use Rattle.mega_picture.specs.declared.item_line.ItemLine.{ItemLine}
use Rattle.mega_picture.specs.declared.journeys.Journeys.{Journeys}
use Rattle.mega_picture.specs.declared.journeys.Way.TheVariants.{Sent, Taken, Dropped}
use Rattle.mega_picture.specs.Ways.{first_row}

-- the index has the first rows of the lines drawn
pub record Follows (journeys : Journeys) (told : List ItemLine) : Type 0 where
  pub sent : (n : ℕ) → get nat_cmp journeys.sent n ≡ first_row Sent n told
  pub taken : (n : ℕ) → get nat_cmp journeys.taken n ≡ first_row Taken n told
  pub dropped : (n : ℕ) → get nat_cmp journeys.dropped n ≡ first_row Dropped n told

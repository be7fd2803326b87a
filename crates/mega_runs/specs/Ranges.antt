-- The versions of a run whose keys lie in a range, and where they stand.
use Rattle.std.specs.Prelude.{◌≡◌, ◌<◌, ◌≤◌, ◌+◌, ℕ, List, [], ◌∷◌, length, min, take, drop, slice_range, Option, Some, None, option_map, true, false, All}
use Rattle.std.specs.List.{slice_get}
use Rattle.mega_disk.specs.VersionMaps.{Versions, IsWithin}
use Rattle.mega_runs.specs.declared.body.Version.{Version}
use Rattle.mega_runs.specs.declared.index.Block.{Block}
use Rattle.mega_runs.specs.declared.index.Indexed.{Indexed}
use Rattle.mega_runs.specs.declared.span.Span.{Span}
use Rattle.mega_runs.specs.Bodies.{Spot, IsVersion, ascends}
use Rattle.mega_runs.specs.Finding.{behind_at}
use Rattle.mega_runs.specs.Index.{versions_text}
use Rattle.mega_runs.specs.Reads.{versions_in}

-- the two have the same versions of the keys of a range
pub record AgreeWithin (from to : List ℕ) (some all : Versions) : Type 0 where
  pub same : (key : List ℕ) → IsWithin from to key → (p : ℕ) → some key p ≡ all key p

-- of items in order those from a place on, up to a second one: the first of them stands not behind the least spot of `from`, and the one
-- behind them stands behind that of `to`
pub record IsBetween {A : Type 0} (spot : A → Spot) (from to : List ℕ) (items found : List A) : Type 0 where
  pub first : ℕ
  pub count : ℕ
  pub found_is : found ≡ take count (drop first items)
  pub low : 0 < first → behind_at spot (from, 0) items first ≡ false
  pub high : behind_at spot (to, 0) (drop first items) count ≡ true

-- how many bytes and versions blocks have
abbrev pub size_of_blocks : List Block → ℕ
size_of_blocks [] = 0
size_of_blocks (block ∷ blocks) = block.size + size_of_blocks blocks

abbrev pub count_of_blocks : List Block → ℕ
count_of_blocks [] = 0
count_of_blocks (block ∷ blocks) = block.count + count_of_blocks blocks

-- the span of blocks of a run
pub record IsSpanOf (run : Indexed) (blocks : List Block) (span : Span) : Type 0 where
  pub start_is : Some span.start ≡ option_map (λ (block : Block). block.start) (slice_get blocks 0)
  pub size_is : span.size ≡ min (size_of_blocks blocks) run.size
  pub count_is : span.count ≡ min (count_of_blocks blocks) run.count

-- the versions stand in the file, in order, where the span tells
pub record HasSpan (file : List ℕ) (versions : List Version) (span : Span) : Type 0 where
  pub within : span.start + span.size ≤ length file
  pub count_is : span.count ≡ length versions
  pub text_is : slice_range file span.start (span.start + span.size) ≡ versions_text versions
  pub fits : All IsVersion versions
  pub in_order : ascends versions ≡ true

-- all versions of the range stand in the span, or there are none
abbrev pub SpansRange : List ℕ → List ℕ → List ℕ → List Version → Option Span → Type 0
SpansRange file from to versions None = AgreeWithin from to (versions_in []) (versions_in versions)
SpansRange file from to versions (Some span) = (mine : List Version) × HasSpan file mine span × AgreeWithin from to (versions_in mine) (versions_in versions)

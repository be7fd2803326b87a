-- What is kept in memory of a run on the device: the key and position of one in sixteen of its versions.
use Rattle.std.specs.Prelude.{◌≡◌, ◌≤◌, ◌+◌, ℕ, List, [], ◌∷◌, length, take, drop, slice_range, Some, None, option_map, true, if◌then◌else◌, map, All}
use Rattle.std.specs.List.{flat_map, slice_get, AllByRecursion}
use Rattle.mega_runs.specs.declared.body.Version.{Version}
use Rattle.mega_runs.specs.declared.index.Block.{Block}
use Rattle.mega_runs.specs.declared.index.Indexed.{Indexed}
use Rattle.mega_runs.specs.declared.opening.Opened.{Opened}
use Rattle.mega_runs.specs.declared.body.Mark.{Mark}
use Rattle.mega_runs.specs.declared.body.Run.{Run}
use Rattle.mega_chain.specs.Chain.{records_of}
use Rattle.mega_runs.specs.Opening.{first_bad}
use Rattle.mega_chain.specs.Rest.{IsRead}
use Rattle.mega_runs.specs.Reads.{Held, held_in, mark_in}
use Rattle.mega_runs.specs.Bodies.{Spot, spot_of, version_text, IsVersion, ascends}

-- the bytes of versions, one after another
abbrev pub versions_text : List Version → List ℕ
versions_text versions = flat_map version_text versions

abbrev pub spot_of_block : Block → Spot
spot_of_block block = (block.key, block.at.0)

-- a block of these versions, the text of which stands from a place on
pub record IsBlock (start : ℕ) (versions : List Version) (block : Block) : Type 0 where
  pub start_is : block.start ≡ start
  pub size_is : block.size ≡ length (versions_text versions)
  pub count_is : block.count ≡ length versions
  pub first_is : Some (spot_of_block block) ≡ option_map spot_of (slice_get versions 0)

-- blocks of sixteen versions, the last one of what is left
abbrev pub AreBlocks : ℕ → List Version → List Block → Type 0
AreBlocks start versions [] = length versions ≡ 0
AreBlocks start versions (block ∷ blocks) = IsBlock start (take 16 versions) block × AreBlocks (start + block.size) (drop 16 versions) blocks

-- the bytes stand in the file from a place on
pub record HasBytesAt (file : List ℕ) (start : ℕ) (text : List ℕ) : Type 0 where
  pub within : start + length text ≤ length file
  pub text_is : slice_range file start (start + length text) ≡ text

-- the index of these versions, which stand in the file and end before a place
pub record IsPlaced (file : List ℕ) (end : ℕ) (versions : List Version) (run : Indexed) : Type 0 where
  pub blocks : AreBlocks run.start versions run.blocks.items
  pub stands : HasBytesAt file run.start (versions_text versions)
  pub size_is : run.size ≡ length (versions_text versions)
  pub count_is : run.count ≡ length versions
  pub before : run.start + run.size ≤ end

-- versions that can be written, in order
pub record IsOrderly (versions : List Version) : Type 0 where
  pub fits : All IsVersion versions
  pub in_order : ascends versions ≡ true

pub record IsIndexed (file : List ℕ) (end : ℕ) (versions : List Version) (run : Indexed) : Type 0 where
  pub placed : IsPlaced file end versions run
  pub orderly : IsOrderly versions

-- it is the index of some versions
abbrev pub has_index : List ℕ → ℕ → Indexed → Type 0
has_index file end run = (versions : List Version) × IsIndexed file end versions run

-- the versions of a block stand in the file, in order
pub record HasBlock (file : List ℕ) (versions : List Version) (block : Block) : Type 0 where
  pub count_is : block.count ≡ length versions
  pub text_is : slice_range file block.start (block.start + block.size) ≡ versions_text versions
  pub fits : All IsVersion versions
  pub in_order : ascends versions ≡ true

-- the indexes of these lists, one each
abbrev pub ArePlaced : List ℕ → ℕ → List Indexed → List (List Version) → Type 0
ArePlaced file end [] [] = Unit {0}
ArePlaced file end [] (versions ∷ lists) = ⊥
ArePlaced file end (run ∷ runs) [] = ⊥
ArePlaced file end (run ∷ runs) (versions ∷ lists) = IsPlaced file end versions run × ArePlaced file end runs lists

-- what is kept in memory of what a file holds up to a place
pub record Indexes (file : List ℕ) (end : ℕ) (held : Held) (marks : List Mark) (runs : List Indexed) : Type 0 where
  pub marks_are : map mark_in marks ≡ held.marks
  pub runs_are : ArePlaced file end runs held.lists

-- the index of a run of this number, whose body ends at a place
pub record Indices (run : Run) (number end : ℕ) (indexed : Indexed) : Type 0 where
  pub number_is : indexed.number ≡ number
  pub base_is : indexed.is_base ≡ run.is_base
  pub start_is : indexed.start + length (versions_text run.versions) ≡ end
  pub size_is : indexed.size ≡ length (versions_text run.versions)
  pub count_is : indexed.count ≡ length run.versions
  pub blocks : AreBlocks indexed.start run.versions indexed.blocks.items

-- one run more, whose body has so many bytes
pub record IsGrown (old : Opened) (run : Run) (size : ℕ) (new : Opened) : Type 0 where
  pub end_is : new.end ≡ old.end + 9 + size
  pub count_is : new.count ≡ old.count + 1
  pub marks_are : new.marks ≡ run.marks
  pub index : Indexed
  pub indices : Indices run new.count new.end index
  pub runs_are : new.runs.items ≡ index ∷ (if run.is_base then [] else old.runs.items)

-- nothing changed
pub record IsAsBefore (old new : Opened) : Type 0 where
  pub end_is : new.end ≡ old.end
  pub count_is : new.count ≡ old.count
  pub marks_are : new.marks ≡ old.marks
  pub runs_are : new.runs.items ≡ old.runs.items

-- a file was read up to its last gate, and each of its bodies is a run
pub record IsReadTo (file : List ℕ) (opened : Opened) : Type 0 where
  pub read : IsRead file opened.end
  pub index : Indexes file opened.end (held_in file) opened.marks opened.runs.items
  pub good : first_bad 1 (records_of file) ≡ None

-- the indexes of these lists, each of versions in order
pub record AreIndexed (file : List ℕ) (end : ℕ) (runs : List Indexed) (lists : List (List Version)) : Type 0 where
  pub placed : ArePlaced file end runs lists
  pub orderly : AllByRecursion IsOrderly lists

-- they are the indexes of some lists
abbrev pub have_index : List ℕ → List Indexed → Type 0
have_index file runs = (end : ℕ) × (lists : List (List Version)) × AreIndexed file end runs lists

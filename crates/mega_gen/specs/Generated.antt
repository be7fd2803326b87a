-- The text that is made from a seed: a header, and the first lines of the blocks.
use Rattle.std.specs.Prelude.{ℕ, zero, suc, List, [], ◌++◌, codes, take, nat_lt, if◌then◌else◌}
use Rattle.mega_gen.specs.Pages.{text_of}
use Rattle.mega_gen.specs.Blocks.{blocks}

-- so many full nodes more
abbrev pub more_nodes : ℕ → List ℕ
more_nodes zero = []
more_nodes (suc n) = codes ", \"full\"" ++ more_nodes n

-- so many full nodes, in a list
abbrev pub full_nodes : ℕ → List ℕ
full_nodes zero = []
full_nodes (suc more) = codes "\"full\"" ++ more_nodes more

-- 3 cells where there are three nodes, else 1
abbrev pub cells : ℕ → List ℕ
cells nodes = if nat_lt nodes 3 then codes "1" else codes "3"

-- the header's lines, and the line that ends it
abbrev pub header : ℕ → List ℕ
header nodes =
    codes "nodes = [" ++ (full_nodes nodes ++ (codes "]\ncells = " ++ (cells nodes
    ++ codes "\nschema = \"CREATE SCHEMA Bank; CREATE TABLE Account { required int64 id; required int64 balance; } PRIMARY KEY(id), ENTITY GROUP ROOT;\"\n---\n")))

-- count blocks have at least count lines
abbrev pub generated : ℕ → ℕ → ℕ → List ℕ
generated seed count nodes = header nodes ++ text_of (take count (blocks count nodes 1 seed))

-- How names, numbers and bytes are spelled in a line.
use Rattle.std.specs.Prelude.{ℕ, List, [], ◌∷◌, ◌++◌, codes, decimal}
use Rattle.hex.specs.Hex.{encode_lower}
use Rattle.mega_base.specs.declared.names.NodeId.{NodeId}
use Rattle.mega_base.specs.declared.names.Position.{Position}
use Rattle.mega_base.specs.declared.names.Epoch.{Epoch}
use Rattle.mega_base.specs.declared.names.OpId.{OpId}
use Rattle.mega_base.specs.declared.names.GroupId.{GroupId}

-- words behind a first one, each after a space, and the end of the line
abbrev pub spaced : List (List ℕ) → List ℕ
spaced [] = 10 ∷ []
spaced (word ∷ words) = (32 ∷ word) ++ spaced words

abbrev pub node_word : NodeId → List ℕ
node_word node = decimal node.0

abbrev pub position_word : Position → List ℕ
position_word position = decimal position.0

-- start and count, with a dot between them
abbrev pub epoch_word : Epoch → List ℕ
epoch_word epoch = decimal epoch.start ++ 46 ∷ decimal epoch.count

-- node, start and number, with dots between them
abbrev pub op_word : OpId → List ℕ
op_word op = decimal op.node.0 ++ 46 ∷ (decimal op.start ++ 46 ∷ decimal op.number)

-- a group's key in hex
abbrev pub group_word : GroupId → List ℕ
group_word group = encode_lower group.key

-- the last line, where the header breaks this rule
abbrev pub header_line : ℕ → List ℕ
header_line rule = codes "header " ++ (decimal rule ++ codes "\n")

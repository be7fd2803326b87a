-- The measures of a page.
use Rattle.std.specs.Prelude.{ℕ, ◌+◌, ◌-◌, ◌*◌, ◌/◌, ◌==◌, nat_le, max, if◌then◌else◌}
use Rattle.mega_picture.specs.declared.sheet.Sheet.{Sheet}

-- how far two lanes are apart: the fewer nodes, the more room for labels
abbrev pub gap : Sheet → ℕ
gap sheet = if nat_le sheet.nodes 3 then 272 else (if nat_le sheet.nodes 5 then 236 else 204)

-- where the lane of a node stands, counted from 1; 0 stands for clients
unfoldable pub lane : Sheet → ℕ → ℕ
lane sheet node = if node == 0 then 66 else 148 + (node - 1) * gap sheet

-- where a step stands; before every fortieth one is left free
unfoldable pub step : ℕ → ℕ
step row = 66 + (row + row / 40) * 22

unfoldable pub width : Sheet → ℕ
width sheet = 148 + sheet.nodes * gap sheet

-- where the lanes end
abbrev pub foot : Sheet → ℕ
foot sheet = step sheet.steps

-- how high the page is, with so many lines below the lanes
abbrev pub height : Sheet → ℕ → ℕ
height sheet notes = foot sheet + 34 + notes * 22

-- how many bytes of a label there is room for beside a lane
unfoldable pub label_room : Sheet → ℕ
label_room sheet = (gap sheet - 24) / 7

-- how many bytes of the page a title has room for: those of all steps have 800,000 together, and of 60 none has more
unfoldable pub title_room : Sheet → ℕ
title_room sheet = 800000 / max sheet.steps 60

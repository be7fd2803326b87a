-- The parts of a change of several groups, one for each group.
use Rattle.std.specs.Prelude.{ℕ, List, Bool, Option, None}
use Rattle.mega_base.specs.declared.values.Row.{Row}

-- the rows of a group
abbrev pub Rows : Type 0
Rows = List ℕ → Option Row

abbrev pub no_rows : Rows
no_rows key = None

-- what a part does in its group: whether its checks are true of rows, with each row there that it deletes; and what its writes make of rows,
-- where they can be made
pub record Part : Type 0 where
  pub group : List ℕ
  pub is_true : Rows → Bool
  pub written : Rows → Option Rows

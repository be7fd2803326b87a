-- A node that starts over a journal of the format is of the format.
use Rattle.std.proofs.Common.{◌≡◌, ℕ, ◌+◌, ◌<◌, Bool, true, false, cond, List, [], ◌∷◌, arith}
use Rattle.mega_base.specs.declared.names.GroupId.{GroupId}
use Rattle.mega_wal.specs.declared.item.JournalItem.{JournalItem}
use Rattle.mega_wal.specs.declared.item.JournalItem.TheVariants.{Start, Promise, Accept, Decide, Grant, Lapse, Starts as Counted}
use Rattle.mega_wal.specs.Acceptor.{Act, Promised, Voted, best}
use Rattle.mega_wal.specs.History.{acts_of, is_place, starts_of}
use Rattle.mega_wal.specs.Items.{IsItem}
use Rattle.mega_rules.specs.Operations.{Setting}
use Rattle.mega_rules.specs.Steps.{start}
use Rattle.mega_format_laws.specs.Histories.{IsMet}
use Rattle.mega_format_laws.specs.Nodes.{IsNode}
use Rattle.mega_format_laws.specs.Rounds.{Each, IsMember}
use Rattle.mega_format_laws.proofs.Histories.{IsAct, best_formed}
use Rattle.mega_format_laws.proofs.Steps.{started}
use Rattle.mega_promises.specs.NodeRuns.{met_of}

with_act : (t : Bool) (act : Act) (acts : List Act) → IsAct act → Each IsAct acts → Each IsAct (cond t (act ∷ acts) acts)
with_act true act acts one each = (one, each)
with_act false act acts one each = each

acts_formed : (items : List JournalItem) (group : GroupId) (n : ℕ) → Each IsItem items → Each IsAct (acts_of items group n)
acts_formed [] group n each = tt
acts_formed (Promise other position ballot ∷ items) group n each =
    with_act (is_place other position group n) (Promised ballot (best (acts_of items group n))) (acts_of items group n) each.0.1.1 (acts_formed items group n each.1)
acts_formed (Accept other position ballot entry ∷ items) group n each =
    with_act (is_place other position group n) (Voted ballot entry) (acts_of items group n) (each.0.1.1.0, each.0.1.1.1) (acts_formed items group n each.1)
acts_formed (Start ∷ items) group n each = acts_formed items group n each.1
acts_formed (Counted starts ∷ items) group n each = acts_formed items group n each.1
acts_formed (Decide other position entry ∷ items) group n each = acts_formed items group n each.1
acts_formed (Grant node epoch ∷ items) group n each = acts_formed items group n each.1
acts_formed (Lapse node epoch ∷ items) group n each = acts_formed items group n each.1

-- what it met before
met_formed : (me : ℕ) → IsMember me → (items : List JournalItem) → starts_of items < 4294967295 → Each IsItem items → IsMet (met_of me items)
met_formed me member [] few each = tt
met_formed me member (Start ∷ items) few each = let fewer : starts_of items < 4294967295 = omega arith in ((omega arith, omega arith), met_formed me member items fewer each.1)
met_formed me member (Counted starts ∷ items) few each = let fewer : starts_of items < 4294967295 = omega arith in ((omega arith, omega arith), met_formed me member items fewer each.1)
met_formed me member (Promise group n ballot ∷ items) few each = (
  record {
    from = member;
    to = member;
    body = (each.0.1.1.op, (each.0.0, (each.0.1.0, (each.0.1.1, best_formed (acts_of items group n.0) (acts_formed items group n.0 each.1)))));
  },
  met_formed me member items few each.1,
)
met_formed me member (Accept group n ballot entry ∷ items) few each = (
  record { from = member; to = member; body = (each.0.1.1.0.op, (each.0.0, (each.0.1.0, (each.0.1.1.0, each.0.1.1.1)))) },
  met_formed me member items few each.1,
)
met_formed me member (Decide group n entry ∷ items) few each = (each.0, met_formed me member items few each.1)
met_formed me member (Grant node epoch ∷ items) few each = (each.0, met_formed me member items few each.1)
met_formed me member (Lapse node epoch ∷ items) few each = (each.0, met_formed me member items few each.1)

pub start_formed : (s : Setting) (items : List JournalItem) → IsMember s.me → starts_of items < 4294967295 → Each IsItem items → IsNode (start s (starts_of items + 1) [] (met_of s.me items))
start_formed s items member few each = started s (starts_of items + 1) [] (met_of s.me items) (omega arith, omega (arith, few)) tt (met_formed s.me member items few each)

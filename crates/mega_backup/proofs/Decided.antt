-- What is decided in a history of the format is an entry of the grammar.
use Rattle.std.proofs.Common.{◌≡◌, ℕ, Bool, true, false, cond, List, [], ◌∷◌, subst, Option, Some, None}
use Rattle.std.specs.Prelude.{All}
use Rattle.mega_base.specs.Lists.{All-head, All-tail}
use Rattle.mega_base.specs.declared.names.GroupId.{GroupId}
use Rattle.mega_entry.specs.declared.content.Content.{Content}
use Rattle.mega_entry.specs.Entries.{IsEntry}
use Rattle.mega_wal.specs.declared.item.JournalItem.{JournalItem}
use Rattle.mega_wal.specs.declared.item.JournalItem.TheVariants.{Start, Promise, Accept, Decide, Grant, Lapse, Starts}
use Rattle.mega_wal.specs.History.{decided_of, first_of, is_place}
use Rattle.mega_wal.specs.Items.{IsItem}

pub decided_entry : (items : List JournalItem) → All IsItem items → (g : GroupId) (n : ℕ) (entry : Content) → decided_of items g n ≡ Some entry → IsEntry entry
decided_entry [] each g n entry h = absurd (cc)
decided_entry (Start ∷ before) each g n entry h = decided_entry before (All-tail IsItem _ before each) g n entry h
decided_entry (Promise other position ballot ∷ before) each g n entry h = decided_entry before (All-tail IsItem _ before each) g n entry h
decided_entry (Accept other position ballot own ∷ before) each g n entry h = decided_entry before (All-tail IsItem _ before each) g n entry h
decided_entry (Grant node epoch ∷ before) each g n entry h = decided_entry before (All-tail IsItem _ before each) g n entry h
decided_entry (Lapse node epoch ∷ before) each g n entry h = decided_entry before (All-tail IsItem _ before each) g n entry h
decided_entry (Starts starts ∷ before) each g n entry h = decided_entry before (All-tail IsItem _ before each) g n entry h
decided_entry (Decide other position own ∷ before) each g n entry h =
    by (is_place other position g n) (All-head IsItem (Decide other position own) before each) (decided_of before g n) (decided_entry before (All-tail IsItem _ before each) g n entry) h
  where
    by : (test : Bool) → IsItem (Decide other position own) → (o : Option Content) → (o ≡ Some entry → IsEntry entry) → cond test (first_of o own) o ≡ Some entry → IsEntry entry
    by false f o more h = more h
    by true f None more h = let same : own ≡ entry = cc in subst IsEntry same f.1.1.0
    by true f (Some d) more h = more h

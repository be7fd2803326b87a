-- What the words ask for, by the command that was read of them.
use Rattle.std.proofs.Common.{◌≡◌, ℕ, List, Option, Some, sym, subst}
use Rattle.mega_base.specs.declared.names.GroupId.{GroupId}
use Rattle.mega_words.specs.declared.command.Command.{Command}
use Rattle.mega_words.specs.declared.command.Command.TheVariants.{Backup, Gen, Node, Replay, Restore, Two}
use Rattle.mega_words.specs.declared.command.Report.{Report}

-- this is so of what the words ask for, as it is of the command that was read
pub so_asked : {found asked : Option Command} {command inner : Command} (IsSo : Option Command → Type 0) → found ≡ asked → found ≡ Some inner → inner ≡ command → IsSo (Some command) → IsSo asked
so_asked IsSo value some is so = subst IsSo value (subst IsSo (sym some) (subst (λ (one : Command). IsSo (Some one)) (sym is) so))

pub so_read : {found asked : Option Command} {command inner : Command} (IsSo : Option Command → Type 0) → found ≡ asked → found ≡ Some inner → inner ≡ command → IsSo asked → IsSo (Some command)
so_read IsSo value some is so = subst (λ (one : Command). IsSo (Some one)) is (subst IsSo some (subst IsSo (sym value) so))

pub same_gen : {found asked : Option Command} {inner : Command} {seed count nodes s n k : ℕ} → found ≡ asked → found ≡ Some inner → inner ≡ Gen seed count nodes → asked ≡ Some (Gen s n k)
    → (seed ≡ s) × (count ≡ n) × (nodes ≡ k)
same_gen value some is asks = (cc, cc, cc)

pub same_report : {found asked : Option Command} {inner : Command} {report other : Report} → found ≡ asked → found ≡ Some inner → inner ≡ Replay report → asked ≡ Some (Replay other) → report ≡ other
same_report value some is asks = cc

pub same_node : {found asked : Option Command} {inner : Command} {number turns n t : ℕ} → found ≡ asked → found ≡ Some inner → inner ≡ Node number turns → asked ≡ Some (Node n t) → (number ≡ n) × (turns ≡ t)
same_node value some is asks = (cc, cc)

pub same_backup : {found asked : Option Command} {inner : Command} {number at n p : ℕ} {group other : GroupId} → found ≡ asked → found ≡ Some inner → inner ≡ Backup number group at → asked ≡ Some (Backup n other p)
    → (number ≡ n) × (group ≡ other) × (at ≡ p)
same_backup value some is asks = (cc, cc, cc)

pub same_restore : {found asked : Option Command} {inner : Command} {at p : ℕ} → found ≡ asked → found ≡ Some inner → inner ≡ Restore at → asked ≡ Some (Restore p) → at ≡ p
same_restore value some is asks = cc

pub same_change : {found asked : Option Command} {inner : Command} {node turns n t : ℕ} {recover name : Option (List ℕ)} → found ≡ asked → found ≡ Some inner → inner ≡ Two node turns recover → asked ≡ Some (Two n t name)
    → (node ≡ n) × (turns ≡ t) × (recover ≡ name)
same_change value some is asks = (cc, cc, cc)

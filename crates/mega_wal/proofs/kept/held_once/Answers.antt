use Rattle.std.proofs.Common.{◌≡◌, ◌∙◌, subst, sym}
use Rattle.std.specs.Prelude.{IfOk}
use Rattle.mega_acceptor.proofs.of_entry.Sames.{same_entry_iff}
use Rattle.mega_wal.proofs.kept.held_once.Goals as goal

pub returns-then-is_same_entry : goal.returns-then-is_same_entry
returns-then-is_same_entry c =
    let same = (same_entry_iff c.in-Some.accepted c.args.entry).0 (sym c.is_same_entry.ensures ∙ c.if-is_same_entry.true) in
    subst (λ entry. IfOk c.copy.result (λ held. held ≡ entry)) same c.copy.ensures

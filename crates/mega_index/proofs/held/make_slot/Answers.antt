use Rattle.std.proofs.Common.{◌∙◌, ap, sym, None}
use Rattle.mega_index.specs.Marks.{held_rows, has_slot}
use Rattle.std.specs.BTreeMap.{insert_entry}
use Rattle.mega_row_writes.specs.Rows.{key_cmp}
use Rattle.mega_index.proofs.Slots.{held-insert_none, slot-is_some, slot-updated, slot-made}
use Rattle.mega_index.proofs.held.make_slot.Goals as goal

pub returns-then-contains_key-clause-there : goal.returns-then-contains_key-clause-there
returns-then-contains_key-clause-there c = slot-is_some c.args.rows.now.entries c.args.key.now ∙ sym c.contains_key.ensures ∙ c.if-contains_key.true

pub returns-clause-held : goal.returns-clause-held
returns-clause-held c =
    ap held_rows c.in_ok-insert.ensures.entries
    ∙ ap (λ k. held_rows (insert_entry key_cmp c.args.rows.now.entries k None)) c.in_ok-own.ensures
    ∙ held-insert_none c.args.rows.now.entries c.args.key.now (slot-is_some c.args.rows.now.entries c.args.key.now ∙ sym c.contains_key.ensures ∙ c.if-contains_key.false)

pub returns-clause-kept : goal.returns-clause-kept
returns-clause-kept c = λ k there. slot-updated c.args.rows.now.entries c.insert.new.self.entries c.in_ok-own.own k None (c.in_ok-insert.ensures.updates.0 k) there

pub returns-clause-there : goal.returns-clause-there
returns-clause-there c = ap (has_slot c.insert.new.self.entries) (sym c.in_ok-own.ensures) ∙ slot-made c.insert.new.self.entries c.in_ok-own.own None c.in_ok-insert.ensures.updates.1

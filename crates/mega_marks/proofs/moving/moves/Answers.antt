use Rattle.std.proofs.Common.{◌≡◌, ◌++◌, ◌≤◌, ◌<◌, ◌^◌, ℕ, rules, subst, sym, take}
use Rattle.mega_rules.specs.Logs.{log_of}
use Rattle.mega_marks.proofs.Onward.{earlier_is, goes_on}
use Rattle.mega_marks.proofs.moving.moves.Goals as goal

pub returns-in-Ok : goal.returns-in-Ok
returns-in-Ok g c met done left tells within before behind goes =
    let schema = c.args.schema.now in
    let mark = c.args.mark.now in
    let old = c.args.index.now in
    let log = log_of met mark.group in
    let from = c.mark-from.result in
    let order = subst (λ (n : ℕ). n ≤ (mark.position).0) (sym c.mark-from.ensures) (earlier_is schema met mark done left before behind old goes) in
    let whole = c.in_ok-entries.ensures met tells order within in
    let less : (mark.position).0 < 2 ^ 64 = search rules in
    let entries_are = c.as_slice.ensures.value in
    goes_on schema met mark done left before behind old c.refresh.new.self c.as_slice.result.now within less
    (coe 0 1 (i. take (c.mark-from.ensures i) log ++ sym entries_are i ≡ take (mark.position).0 log) whole)
    c.in-Ok.ensures.ok c.in-Ok.ensures.kept goes

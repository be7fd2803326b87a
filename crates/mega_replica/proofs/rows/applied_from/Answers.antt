use Rattle.std.proofs.Common.{◌≡◌, ◌∙◌, ◌+◌, ◌-◌, ◌≤◌, ap, arith, drop, length, refl, sym, ℕ, List, []}
use Rattle.mega_entry.specs.declared.content.Content.{Content}
use Rattle.mega_replica.specs.Applying.{applied}
use Rattle.mega_replica.specs.declared.progress.Progress.{Progress}
use Rattle.mega_replica.specs.Stored.{log_in}
use Rattle.mega_replica.specs.Following.{IsPlace}
use Rattle.mega_replica.proofs.Entries.{log_length, next_is, next_none, past_end, rest_in}
use Rattle.mega_replica.proofs.Places.{applied_from, applied_goes_on, applied_stops, drop_next, more_left}
use Rattle.mega_replica.proofs.rows.applied_from.Goals as goal

-- a place before the next entry
before : (e : ℕ) (log : List Content) → e ≤ length log → IsPlace (record { entries = e; writes = 0 }) log
before e log le = record { entries = le; writes = omega arith }

none_applied : (log : List Content) (left : ℕ) → log ≡ [] → applied log left ≡ 0
none_applied log left is = ap (λ (xs : List Content). applied xs left) is

pub loop-entries-init : goal.loop-entries-init
loop-entries-init g c = λ items represents place.
    let log = log_in items c.args.group.now in
    (place.entries, sym (applied_from log c.args.progress.entries c.args.progress.writes place.entries))

pub returns-in-None : goal.returns-in-None
returns-in-None g c = λ items represents place.
    let group = c.args.group.now in
    let log = log_in items group in
    let so_far = c.loop-entries.invariant items represents place in
    let end = c.prefix-prefix.ensures items represents in
    let here : Progress = record { entries = c.loop-entries.entries; writes = 0 } in
    let at = before c.loop-entries.entries log so_far.0 in
    let test = c.loop-entries-test.true in
    let none = next_none items group log refl here at (omega (arith, end, test)) (c.in-None.ensures items represents) in
    let zero = none_applied (drop c.loop-entries.entries log) c.loop-entries.left none in
    let sum = so_far.1 in
    omega (arith, zero, sum)

pub returns-then-left-writes : goal.returns-then-left-writes
returns-then-left-writes g c = λ items represents place.
    let group = c.args.group.now in
    let log = log_in items group in
    let so_far = c.loop-entries.invariant items represents place in
    let end = c.prefix-prefix.ensures items represents in
    let here : Progress = record { entries = c.loop-entries.entries; writes = 0 } in
    let at = before c.loop-entries.entries log so_far.0 in
    let test = c.loop-entries-test.true in
    let entry = c.in-Some.entry.now in
    let next = next_is items group log refl here at entry (omega (arith, end, test)) (c.in-Some.ensures items represents) in
    let size : length entry.writes ≡ c.len.result = sym (c.len.ensures ∙ ap (λ (e : Content). length e.writes) c.content.ensures) in
    let short = c.if-left-writes.true in
    let zero = applied_stops (drop c.loop-entries.entries log) c.loop-entries.left entry (rest_in items group c.loop-entries.entries) next (omega (arith, size, short)) in
    let sum = so_far.1 in
    omega (arith, zero, sum)

pub loop-entries-preserved : goal.loop-entries-preserved
loop-entries-preserved g c = λ items represents place.
    let group = c.args.group.now in
    let log = log_in items group in
    let so_far = c.loop-entries.invariant items represents place in
    let end = c.prefix-prefix.ensures items represents in
    let here : Progress = record { entries = c.loop-entries.entries; writes = 0 } in
    let at = before c.loop-entries.entries log so_far.0 in
    let test = c.loop-entries-test.true in
    let entry = c.in-Some.entry.now in
    let next = next_is items group log refl here at entry (omega (arith, end, test)) (c.in-Some.ensures items represents) in
    let size : length entry.writes ≡ c.len.result = sym (c.len.ensures ∙ ap (λ (e : Content). length e.writes) c.content.ensures) in
    let rest = rest_in items group c.loop-entries.entries in
    let enough = c.if-left-writes.false in
    let more = applied_goes_on (drop c.loop-entries.entries log) c.loop-entries.left entry rest next (omega (arith, size, enough)) in
    let lt = more_left log c.loop-entries.entries entry rest next in
    let sum = so_far.1 in
    let left : applied rest (c.loop-entries.left - length entry.writes) ≡ applied (drop (c.loop-entries.entries + 1) log) (c.loop-entries.left - c.len.result) =
    ap (λ (xs : List Content). applied xs (c.loop-entries.left - length entry.writes)) (sym (drop_next log c.loop-entries.entries entry rest next)) ∙ ap (λ n. applied (drop (c.loop-entries.entries + 1) log) (c.loop-entries.left - n)) size in
    (omega (arith, lt), omega (arith, more, sum, left))

pub returns : goal.returns
returns g c = λ items represents place.
    let group = c.args.group.now in
    let log = log_in items group in
    let so_far = c.loop-entries.invariant items represents place in
    let end = c.prefix-prefix.ensures items represents in
    let here : Progress = record { entries = c.loop-entries.entries; writes = 0 } in
    let at = before c.loop-entries.entries log so_far.0 in
    let test = c.loop-entries-test.false in
    let none = past_end items group log refl here at (omega (arith, end, test)) in
    let zero = none_applied (drop c.loop-entries.entries log) c.loop-entries.left none in
    let most = log_length items group in
    let sum = so_far.1 in
    let le = so_far.0 in
    omega (arith, zero, sum, most, le, end, test)

use Rattle.std.proofs.Common.{◌≡◌, ◌≤◌, ◌<◌, ◌+◌, Some, subst, take, arith, refl}
use Rattle.mega_entry.specs.declared.content.Content.{Content}
use Rattle.mega_queues.specs.Boxes.{Logs, noted}
use Rattle.mega_queues.specs.Followed.{Represents}
use Rattle.mega_rules.specs.Logs.{decided, log_of, prefix_of}
use Rattle.mega_pumps.specs.Reach.{with_log}
use Rattle.mega_pumps.proofs.Noted.{always_there, as_it_is, length_there, noted_more}
use Rattle.mega_pumps.proofs.noting.note_from.Goals as goal

pub loop-count-init : goal.loop-count-init
loop-count-init g c = λ met logs tells le within kept is.
    (le, subst (λ (all : Logs). Represents all c.args.queues.now) (as_it_is logs c.args.group.now (take c.args.from (log_of met c.args.group.now)) is) kept)

pub loop-count-preserved : goal.loop-count-preserved
loop-count-preserved g c = λ met logs tells le within kept is.
    let group = c.args.group.now in
    let n = c.loop-count.count in
    let test = c.loop-count-test.true in
    let lt : n < prefix_of met group = omega (arith, within, test) in
    let so = c.loop-count.invariant met logs tells le within kept is in
    let entry = c.in-Some.entry.now in
    let front = with_log logs group (take n (log_of met group)) in
    let new = c.note.new.self in
    let after = c.in_ok-note-in-Some.ensures front so.1 (length_there logs group (log_of met group) n (let e : n ≤ prefix_of met group = omega (arith, lt) in e)) in
    (omega (arith, test), noted_more met logs group n entry new lt (c.in-Some.ensures met tells) (subst (λ (e : Content). Represents (noted front group e) new) c.content.ensures after))

pub returns-in-None : goal.returns-in-None
returns-in-None g c = λ met logs tells le within kept is.
    let test = c.loop-count-test.true in
    absurd (always_there met c.args.group.now c.loop-count.count (omega (arith, within, test)) (c.in-None.ensures met tells))

pub returns : goal.returns
returns g c = λ met logs tells le within kept is.
    let so = c.loop-count.invariant met logs tells le within kept is in
    let test = c.loop-count-test.false in
    let at = so.0 in
    let same : c.loop-count.count ≡ c.args.through = omega (arith, at, test) in
    subst (λ n. Represents (with_log logs c.args.group.now (take n (log_of met c.args.group.now))) c.loop-count.queues) same so.1

use Rattle.std.proofs.Common.{◌≡◌, ap, arith, inl, inr, sym, ◌∙◌, ⊎_elim}
use Rattle.mega_entry.specs.declared.content.Content.{Content}
use Rattle.mega_replica.specs.Following.{count_of}
use Rattle.mega_replica.proofs.Entries.{next_none, past_end}
use Rattle.mega_replica.proofs.Next.{next_all, next_count, next_some}
use Rattle.mega_replica.proofs.Only.{only_then}
use Rattle.mega_replica.proofs.Places.{place_end}
use Rattle.mega_replica.proofs.Steps.{portion_done, portion_some}
use Rattle.mega_replica.proofs.storing.store_some.Goals as goal

pub returns-in-None-clause-stands : goal.returns-in-None-clause-stands
returns-in-None-clause-stands g c = λ items log counts represents is stands.
    let so_far = c.loop-passed.invariant.goes items log counts represents is stands in
    (so_far.0, so_far.1, portion_some (log c.args.group.now) c.loop-passed.progress (count_of c.args.progress.now (log c.args.group.now)) c.args.most so_far.0.place (let sum = so_far.2 in omega (arith, sum)))

pub returns-in-None-clause-all : goal.returns-in-None-clause-all
returns-in-None-clause-all g c = λ items log counts represents is stands.
    let so_far = c.loop-passed.invariant.goes items log counts represents is stands in
    let end = c.prefix-passed-end.ensures items represents in
    let at = c.loop-passed.invariant.place in
    let test = c.loop-passed-test.true in
    let none = next_none items c.args.group.now (log c.args.group.now) is c.loop-passed.progress so_far.0.place (omega (arith, end, at, test)) (c.in-None.ensures items represents) in
    portion_done (log c.args.group.now) c.loop-passed.progress (count_of c.args.progress.now (log c.args.group.now)) c.args.most c.loop-passed.left so_far.0.place so_far.2
    (inr (place_end c.loop-passed.progress (log c.args.group.now) so_far.0.place none))

pub returns-clause-stands : goal.returns-clause-stands
returns-clause-stands g c = λ items log counts represents is stands.
    let so_far = c.loop-passed.invariant.goes items log counts represents is stands in
    (so_far.0, so_far.1, portion_some (log c.args.group.now) c.loop-passed.progress (count_of c.args.progress.now (log c.args.group.now)) c.args.most so_far.0.place (let sum = so_far.2 in omega (arith, sum)))

pub returns-clause-all : goal.returns-clause-all
returns-clause-all g c = λ items log counts represents is stands.
    let so_far = c.loop-passed.invariant.goes items log counts represents is stands in
    let end = c.prefix-passed-end.ensures items represents in
    let at = c.loop-passed.invariant.place in
    let test = c.loop-passed-test.false in
    let none = past_end items c.args.group.now (log c.args.group.now) is c.loop-passed.progress so_far.0.place (omega (arith, end, at, test)) in
    portion_done (log c.args.group.now) c.loop-passed.progress (count_of c.args.progress.now (log c.args.group.now)) c.args.most c.loop-passed.left so_far.0.place so_far.2
    (inr (place_end c.loop-passed.progress (log c.args.group.now) so_far.0.place none))

pub returns-in_err-left-clause-stands : goal.returns-in_err-left-clause-stands
returns-in_err-left-clause-stands g c = λ items log counts represents is stands.
    let so_far = c.loop-passed.invariant.goes items log counts represents is stands in
    let end = c.prefix-passed-end.ensures items represents in
    let at = c.loop-passed.invariant.place in
    let test = c.loop-passed-test.true in
    let same : c.in-Some.entry.now.writes ≡ c.as_slice-writes.result.now = sym (c.as_slice-writes.ensures ∙ ap (λ (e : Content). e.writes) c.content.ensures) in
    let stands_now = next_some items c.args.group.now log counts c.loop-passed.progress c.in-Some.entry.now c.as_slice-writes.result.now (g.V.Versions.version c.loop-passed.rows) (g.V.Versions.version c.store_entry.new.rows) c.store_entry.new.stored
    is so_far.0 (omega (arith, end, at, test)) (c.in-Some.ensures items represents) same c.in_err-left.ensures.within c.in_err-left.ensures.tells in
    let low = so_far.1 in
    let sum = so_far.2 in
    let later = c.in_err-left.ensures.later in
    let some = c.in_err-left.ensures.some in (
      stands_now,
      omega (arith, low, later),
      portion_some (log c.args.group.now) (record { entries = c.loop-passed.progress.entries; writes = c.store_entry.new.stored }) (count_of c.args.progress.now (log c.args.group.now)) c.args.most stands_now.place (omega (arith, sum, some)),
    )

pub returns-then-progress-writes-clause-stands : goal.returns-then-progress-writes-clause-stands
returns-then-progress-writes-clause-stands g c = λ items log counts represents is stands.
    let so_far = c.loop-passed.invariant.goes items log counts represents is stands in
    let end = c.prefix-passed-end.ensures items represents in
    let at = c.loop-passed.invariant.place in
    let test = c.loop-passed-test.true in
    let same : c.in-Some.entry.now.writes ≡ c.as_slice-writes.result.now = sym (c.as_slice-writes.ensures ∙ ap (λ (e : Content). e.writes) c.content.ensures) in
    let stands_now = next_some items c.args.group.now log counts c.loop-passed.progress c.in-Some.entry.now c.as_slice-writes.result.now (g.V.Versions.version c.loop-passed.rows) (g.V.Versions.version c.store_entry.new.rows) c.store_entry.new.stored
    is so_far.0 (omega (arith, end, at, test)) (c.in-Some.ensures items represents) same c.in_ok-left.ensures.within c.in_ok-left.ensures.tells in
    let low = so_far.1 in
    let sum = so_far.2 in
    let later = c.in_ok-left.ensures.later in
    let some = c.in_ok-left.ensures.some in (
      stands_now,
      omega (arith, low, later),
      portion_some (log c.args.group.now) (record { entries = c.loop-passed.progress.entries; writes = c.store_entry.new.stored }) (count_of c.args.progress.now (log c.args.group.now)) c.args.most stands_now.place (omega (arith, sum, some)),
    )

pub returns-then-progress-writes-clause-all : goal.returns-then-progress-writes-clause-all
returns-then-progress-writes-clause-all g c = λ items log counts represents is stands.
    let so_far = c.loop-passed.invariant.goes items log counts represents is stands in
    let end = c.prefix-passed-end.ensures items represents in
    let at = c.loop-passed.invariant.place in
    let test = c.loop-passed-test.true in
    let same : c.in-Some.entry.now.writes ≡ c.as_slice-writes.result.now = sym (c.as_slice-writes.ensures ∙ ap (λ (e : Content). e.writes) c.content.ensures) in
    let stands_now = next_some items c.args.group.now log counts c.loop-passed.progress c.in-Some.entry.now c.as_slice-writes.result.now (g.V.Versions.version c.loop-passed.rows) (g.V.Versions.version c.store_entry.new.rows) c.store_entry.new.stored
    is so_far.0 (omega (arith, end, at, test)) (c.in-Some.ensures items represents) same c.in_ok-left.ensures.within c.in_ok-left.ensures.tells in
    let sum = so_far.2 in
    let stored = c.in_ok-left.ensures.sum in
    let short = c.if-progress-writes.true in
    portion_done (log c.args.group.now) (record { entries = c.loop-passed.progress.entries; writes = c.store_entry.new.stored }) (count_of c.args.progress.now (log c.args.group.now)) c.args.most c.in_ok-left.left stands_now.place
    (omega (arith, sum, stored))
    (⊎_elim (λ none. inl none) (λ all. absurd (omega (arith, all, short))) c.in_ok-left.ensures.all)

pub loop-passed-preserved : goal.loop-passed-preserved
loop-passed-preserved g c = record {
  place = let at = c.loop-passed.invariant.place in omega (arith, at);
  goes = λ items log counts represents is stands.
      let so_far = c.loop-passed.invariant.goes items log counts represents is stands in
      let end = c.prefix-passed-end.ensures items represents in
      let at = c.loop-passed.invariant.place in
      let test = c.loop-passed-test.true in
      let same : c.in-Some.entry.now.writes ≡ c.as_slice-writes.result.now = sym (c.as_slice-writes.ensures ∙ ap (λ (e : Content). e.writes) c.content.ensures) in
      let all = c.if-progress-writes.false in
      let stands_now = next_all items c.args.group.now log counts c.loop-passed.progress c.in-Some.entry.now c.as_slice-writes.result.now (g.V.Versions.version c.loop-passed.rows) (g.V.Versions.version c.store_entry.new.rows) c.store_entry.new.stored
      is so_far.0 (omega (arith, end, at, test)) (c.in-Some.ensures items represents) same c.in_ok-left.ensures.within c.in_ok-left.ensures.tells all in
      let count = next_count items c.args.group.now log counts c.loop-passed.progress c.in-Some.entry.now c.as_slice-writes.result.now (g.V.Versions.version c.loop-passed.rows) (g.V.Versions.version c.store_entry.new.rows) c.store_entry.new.stored
      is so_far.0 (omega (arith, end, at, test)) (c.in-Some.ensures items represents) same c.in_ok-left.ensures.within c.in_ok-left.ensures.tells all in
      let low = so_far.1 in
      let sum = so_far.2 in
      let later = c.in_ok-left.ensures.later in
      let stored = c.in_ok-left.ensures.sum in
      (stands_now, omega (arith, low, count, later), omega (arith, sum, count, stored));
  only = only_then g.V.Versions c.args.rows.now c.loop-passed.rows c.store_entry.new.rows c.loop-passed.invariant.only c.in_ok-left.ensures.only;
}

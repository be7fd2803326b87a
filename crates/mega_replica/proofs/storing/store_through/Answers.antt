use Rattle.std.proofs.Common.{◌≡◌, ◌+◌, ◌≤◌, ap, arith, inl, inr, length, max, sym, ◌∙◌, ⊎_elim}
use Rattle.std.proofs.lemmas.Bool.{cases_lt}
use Rattle.mega_entry.specs.declared.content.Content.{Content}
use Rattle.mega_replica.specs.Applying.{writes_through}
use Rattle.mega_replica.specs.Following.{count_of}
use Rattle.mega_replica.proofs.Entries.{next_none, past_end}
use Rattle.mega_replica.proofs.Next.{next_all, next_count, next_read, next_some}
use Rattle.mega_replica.proofs.Only.{only_then}
use Rattle.mega_replica.proofs.Steps.{read_done}
use Rattle.mega_replica.proofs.storing.store_through.Goals as goal

pub returns-in-None-clause-all : goal.returns-in-None-clause-all
returns-in-None-clause-all g c = λ items log counts represents is stands.
    let so_far = c.loop-passed.invariant.goes items log counts represents is stands in
    let prefix = c.prefix.ensures items represents in
    let end = c.min-passed-end.ensures in
    let at = c.loop-passed.invariant.place in
    let test = c.loop-passed-test.true in
    let none = next_none items c.args.group.now (log c.args.group.now) is c.loop-passed.progress so_far.0.place (omega (arith, prefix, end, at, test)) (c.in-None.ensures items represents) in
    read_done (log c.args.group.now) c.loop-passed.progress (count_of c.args.progress.now (log c.args.group.now)) c.args.position.0 so_far.0.place so_far.1 so_far.2 (inr none)

pub returns-clause-all : goal.returns-clause-all
returns-clause-all g c = λ items log counts represents is stands.
    let so_far = c.loop-passed.invariant.goes items log counts represents is stands in
    let prefix = c.prefix.ensures items represents in
    let end = c.min-passed-end.ensures in
    let at = c.loop-passed.invariant.place in
    let test = c.loop-passed-test.false in
    let place = so_far.0.place in
    read_done (log c.args.group.now) c.loop-passed.progress (count_of c.args.progress.now (log c.args.group.now)) c.args.position.0 place so_far.1 so_far.2
    (⊎_elim
    (λ below. inr (past_end items c.args.group.now (log c.args.group.now) is c.loop-passed.progress place (omega (arith, prefix, end, at, test, below))))
    (λ past. inl past)
    (cases_lt c.loop-passed.progress.entries c.args.position.0))

pub returns-in_err-store_entry-clause-stands : goal.returns-in_err-store_entry-clause-stands
returns-in_err-store_entry-clause-stands g c = λ items log counts represents is stands.
    let so_far = c.loop-passed.invariant.goes items log counts represents is stands in
    let prefix = c.prefix.ensures items represents in
    let end = c.min-passed-end.ensures in
    let at = c.loop-passed.invariant.place in
    let test = c.loop-passed-test.true in
    let same : c.in-Some.entry.now.writes ≡ c.as_slice-writes.result.now = sym (c.as_slice-writes.ensures ∙ ap (λ (e : Content). e.writes) c.content.ensures) in
    let stands_now = next_some items c.args.group.now log counts c.loop-passed.progress c.in-Some.entry.now c.as_slice-writes.result.now (g.V.Versions.version c.loop-passed.rows) (g.V.Versions.version c.store_entry.new.rows) c.store_entry.new.stored
    is so_far.0 (omega (arith, prefix, end, at, test)) (c.in-Some.ensures items represents) same c.in_err-store_entry.ensures.within c.in_err-store_entry.ensures.tells in
    let read = next_read items c.args.group.now log counts c.loop-passed.progress c.in-Some.entry.now c.as_slice-writes.result.now (g.V.Versions.version c.loop-passed.rows) (g.V.Versions.version c.store_entry.new.rows) c.store_entry.new.stored
    is so_far.0 (omega (arith, prefix, end, at, test)) (c.in-Some.ensures items represents) same c.in_err-store_entry.ensures.within c.in_err-store_entry.ensures.tells c.args.position.0 (count_of c.args.progress.now (log c.args.group.now)) (omega (arith, end, at, test)) in
    let low = so_far.1 in
    let later = c.in_err-store_entry.ensures.later in
    (stands_now, omega (arith, low, later), read)

pub loop-passed-preserved : goal.loop-passed-preserved
loop-passed-preserved g c = record {
  place = let at = c.loop-passed.invariant.place in omega (arith, at);
  goes = λ items log counts represents is stands.
      let so_far = c.loop-passed.invariant.goes items log counts represents is stands in
      let prefix = c.prefix.ensures items represents in
      let end = c.min-passed-end.ensures in
      let at = c.loop-passed.invariant.place in
      let test = c.loop-passed-test.true in
      let same : c.in-Some.entry.now.writes ≡ c.as_slice-writes.result.now = sym (c.as_slice-writes.ensures ∙ ap (λ (e : Content). e.writes) c.content.ensures) in
      let sum = c.in_ok-store_entry.ensures.sum in
      let all : length c.as_slice-writes.result.now ≤ c.store_entry.new.stored = ⊎_elim (λ none. omega (arith, none, sum)) (λ whole. whole) c.in_ok-store_entry.ensures.all in
      let stands_now = next_all items c.args.group.now log counts c.loop-passed.progress c.in-Some.entry.now c.as_slice-writes.result.now (g.V.Versions.version c.loop-passed.rows) (g.V.Versions.version c.store_entry.new.rows) c.store_entry.new.stored
      is so_far.0 (omega (arith, prefix, end, at, test)) (c.in-Some.ensures items represents) same c.in_ok-store_entry.ensures.within c.in_ok-store_entry.ensures.tells all in
      let count = next_count items c.args.group.now log counts c.loop-passed.progress c.in-Some.entry.now c.as_slice-writes.result.now (g.V.Versions.version c.loop-passed.rows) (g.V.Versions.version c.store_entry.new.rows) c.store_entry.new.stored
      is so_far.0 (omega (arith, prefix, end, at, test)) (c.in-Some.ensures items represents) same c.in_ok-store_entry.ensures.within c.in_ok-store_entry.ensures.tells all in
      let read = next_read items c.args.group.now log counts c.loop-passed.progress c.in-Some.entry.now c.as_slice-writes.result.now (g.V.Versions.version c.loop-passed.rows) (g.V.Versions.version c.store_entry.new.rows) c.store_entry.new.stored
      is so_far.0 (omega (arith, prefix, end, at, test)) (c.in-Some.ensures items represents) same c.in_ok-store_entry.ensures.within c.in_ok-store_entry.ensures.tells c.args.position.0 (count_of c.args.progress.now (log c.args.group.now)) (omega (arith, end, at, test)) in
      let low = so_far.1 in
      let later = c.in_ok-store_entry.ensures.later in
      let high : writes_through (c.loop-passed.progress.entries + 1) (log c.args.group.now) + 0 ≤ max (count_of c.args.progress.now (log c.args.group.now)) (writes_through c.args.position.0 (log c.args.group.now)) = omega (arith, count, read) in
      (stands_now, omega (arith, low, count, later), high);
  only = only_then g.V.Versions c.args.rows.now c.loop-passed.rows c.store_entry.new.rows c.loop-passed.invariant.only c.in_ok-store_entry.ensures.only;
}

use Rattle.std.proofs.Common.{◌≡◌, ◌∙◌, ◌≤◌, ap, arith, refl, max, subst, ℕ}
use Rattle.std.proofs.lemmas.Result.{on_ok_weaker}
use Rattle.mega_replica.specs.Applying.{after_read, writes_through}
use Rattle.mega_wal.proofs.Placed.{on_err}
use Rattle.mega_replica.specs.Following.{count_of, progress_at}
use Rattle.mega_replica.proofs.Joined.{count_before, follows_on, follows_still, stands_before, stored_total}
use Rattle.mega_replica.proofs.rows.StoredRows.apply_through.Goals as goal

pub returns-in_err-open-clause-left : goal.returns-in_err-open-clause-left
returns-in_err-open-clause-left g c = on_err c.from_residual.result _ (λ items log stored represents is follows.
    let group = c.args.group.now in
    let old = progress_at c.args.self.now.progress in
    let version = g.V.Versions.version c.args.self.now.rows in
    let all = stored_total version old log stored group follows in
    (stored group, omega arith, (let some : stored group ≤ max (stored group) (writes_through c.args.position.0 (log group)) = omega arith in some), follows_still version old log stored group follows (progress_at c.open.new.all) c.in_err-open.ensures.same))

pub returns-clause-follows : goal.returns-clause-follows
returns-clause-follows g c = on_ok_weaker c.store_through-outcome.result (λ exact items log stored represents is follows.
    let group = c.args.group.now in
    let was = g.V.Versions.version c.args.self.now.rows in
    let now = g.V.Versions.version c.store_through-outcome.new.rows in
    let old = progress_at c.args.self.now.progress in
    let began = c.progress_of-progress.result in
    let at : began ≡ old group = c.progress_of-progress.ensures ∙ c.in_ok-open.ensures.same group in
    let stands = stands_before was old log stored group follows began at in
    follows_on old (progress_at c.open.new.all) (progress_at c.set.new.all) group c.store_through-outcome.new.progress c.in_ok-open.ensures.same c.set.ensures was now log stored
    (after_read c.args.position.0 (log group) (stored group)) follows (c.store_through-outcome.ensures.stands items log stored represents is stands).0
    (exact items log stored represents is stands ∙ ap (λ n. after_read c.args.position.0 (log group) n) (count_before was old log stored group follows began at)))
    c.store_through-outcome.ensures.all

pub returns-clause-left : goal.returns-clause-left
returns-clause-left g c = on_err c.store_through-outcome.result _ (λ items log stored represents is follows.
    let group = c.args.group.now in
    let was = g.V.Versions.version c.args.self.now.rows in
    let now = g.V.Versions.version c.store_through-outcome.new.rows in
    let old = progress_at c.args.self.now.progress in
    let began = c.progress_of-progress.result in
    let at : began ≡ old group = c.progress_of-progress.ensures ∙ c.in_ok-open.ensures.same group in
    let stands = stands_before was old log stored group follows began at in
    let moved = c.store_through-outcome.ensures.stands items log stored represents is stands in
    let count : ℕ = count_of c.store_through-outcome.new.progress (log group) in
    let so_far = count_before was old log stored group follows began at in (
      count,
      subst (λ n. n ≤ count) so_far moved.1,
      subst (λ n. count ≤ after_read c.args.position.0 (log group) n) so_far moved.2,
      follows_on old (progress_at c.open.new.all) (progress_at c.set.new.all) group c.store_through-outcome.new.progress c.in_ok-open.ensures.same c.set.ensures was now log stored count follows moved.0 refl,
    ))

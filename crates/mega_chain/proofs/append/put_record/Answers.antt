use Rattle.std.proofs.Common.{ℕ, ◌+◌, List, [], ◌∷◌, ◌∙◌, ap, subst, arith}
use Rattle.std.proofs.lemmas.Result.{on_ok_weaker}
use Rattle.mega_disk.specs.Images.{overwritten, Torn}
use Rattle.mega_disk.proofs.Leaves.{weaker_leaves, then_leaves}
use Rattle.mega_chain.specs.Rest.{Appends}
use Rattle.mega_disk.proofs.Outcomes.{both_ok}
use Rattle.mega_chain.proofs.Written.{appends_behind, appends_gate, at_rest_after}
use Rattle.mega_chain.proofs.append.put_record.Goals as goal

-- behind the closed gate nothing counts yet
pub returns-in_err-write_through-clause-any_moment : goal.returns-in_err-write_through-clause-any_moment
returns-in_err-write_through-clause-any_moment g c told =
    let file = g.D.Disk.seen c.args.disk.now in
    let s = c.requires.settled told in
    weaker_leaves g.D.Disk.moment g.D.Disk.left_since c.args.disk.now c.write_through.new.disk _ _ (c.write_through.ensures.any_moment told s.durable)
    (λ image torn. appends_behind file c.args.at s.at_rest c.args.body.now _ image torn)

pub returns-clause-added : goal.returns-clause-added
returns-clause-added g c told =
    let file = g.D.Disk.seen c.args.disk.now in
    let s = c.requires.settled told in
    let record_is = c.as_slice.ensures.value ∙ c.in_ok-record.ensures in
    let is_staged = c.in_ok-write_through.ensures.written told ∙ ap (λ (bytes : List ℕ). overwritten (c.args.at + 1) bytes file) record_is in
    on_ok_weaker c.write_through-2.result
    (λ written. (at_rest_after file c.args.at s.at_rest c.args.body.now (omega arith) _ (written ∙ ap (overwritten c.args.at (1 ∷ [])) is_staged)).1) (c.write_through-2.ensures.written told)

pub returns-clause-settled : goal.returns-clause-settled
returns-clause-settled g c told =
    let file = g.D.Disk.seen c.args.disk.now in
    let s = c.requires.settled told in
    let record_is = c.as_slice.ensures.value ∙ c.in_ok-record.ensures in
    let is_staged = c.in_ok-write_through.ensures.written told ∙ ap (λ (bytes : List ℕ). overwritten (c.args.at + 1) bytes file) record_is in
    both_ok c.write_through-2.result
    (λ written durable. record { at_rest = (at_rest_after file c.args.at s.at_rest c.args.body.now (omega arith) _ (written ∙ ap (overwritten c.args.at (1 ∷ [])) is_staged)).0; durable = durable })
    (c.write_through-2.ensures.written told) (c.write_through-2.ensures.durable told)

pub returns-clause-any_moment : goal.returns-clause-any_moment
returns-clause-any_moment g c told =
    let file = g.D.Disk.seen c.args.disk.now in
    let s = c.requires.settled told in
    let record_is = c.as_slice.ensures.value ∙ c.in_ok-record.ensures in
    let is_staged = c.in_ok-write_through.ensures.written told ∙ ap (λ (bytes : List ℕ). overwritten (c.args.at + 1) bytes file) record_is in
    let durable = c.in_ok-write_through.ensures.durable told in
    let P : List ℕ → Type 0 = Appends c.args.at c.args.body.now file in
    then_leaves g.D.Disk.moment g.D.Disk.left_since c.args.disk.now c.write_through.new.disk c.write_through-2.new.disk _ _ P (c.write_through.ensures.any_moment told s.durable) (c.write_through-2.ensures.any_moment told durable)
    (λ image torn. appends_behind file c.args.at s.at_rest c.args.body.now _ image torn)
    (λ image torn. appends_gate file c.args.at s.at_rest c.args.body.now (omega arith) image (subst (λ (l : List ℕ). Torn c.args.at 1 l image) is_staged torn))

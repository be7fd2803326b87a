use Rattle.std.proofs.Common.{ℕ, ◌+◌, List, [], ◌∷◌, inl, ◌∙◌, ap, subst}
use Rattle.std.proofs.lemmas.Result.{on_ok_weaker}
use Rattle.mega_disk.specs.Images.{overwritten, Torn}
use Rattle.mega_disk.specs.RecordLists.{IsBeforeOrAfter}
use Rattle.mega_disk.proofs.Leaves.{weaker_leaves, then_leaves}
use Rattle.mega_disk.proofs.Outcomes.{both_ok}
use Rattle.mega_checkpoint.specs.Format.{list_of}
use Rattle.mega_checkpoint.proofs.Plain.{staged_list, gate_list, chain_added, chain_held}
use Rattle.mega_checkpoint.proofs.chain.add_to_chain.Goals as goal

pub returns-in_err-write_through-clause-any_moment : goal.returns-in_err-write_through-clause-any_moment
returns-in_err-write_through-clause-any_moment g c told =
    let h = c.requires.held told in
    weaker_leaves g.D.Disk.moment g.D.Disk.left_since c.args.disk.now c.write_through.new.disk _ _ (c.write_through.ensures.any_moment told h.settled.durable)
    (λ image torn. inl (staged_list (g.D.Disk.seen c.args.disk.now) c.args.at h.unmarked h.first h.settled.at_rest _ image torn))

pub returns-clause-added : goal.returns-clause-added
returns-clause-added g c told =
    let file = g.D.Disk.seen c.args.disk.now in
    let h = c.requires.held told in
    let is_staged = c.in_ok-write_through.ensures.written told ∙ ap (λ (bytes : List ℕ). overwritten (c.args.at + 1) bytes file) (c.as_slice.ensures.value ∙ c.in_ok-record.ensures) in
    on_ok_weaker c.write_through-2.result
    (λ written. chain_added file c.args.at h.unmarked h.first h.settled.at_rest c.args.body.now c.requires.short c.requires.plain _ (written ∙ ap (overwritten c.args.at (1 ∷ [])) is_staged)) (c.write_through-2.ensures.written told)

pub returns-clause-held : goal.returns-clause-held
returns-clause-held g c told =
    let file = g.D.Disk.seen c.args.disk.now in
    let h = c.requires.held told in
    let is_staged = c.in_ok-write_through.ensures.written told ∙ ap (λ (bytes : List ℕ). overwritten (c.args.at + 1) bytes file) (c.as_slice.ensures.value ∙ c.in_ok-record.ensures) in
    both_ok c.write_through-2.result
    (λ written durable. chain_held file c.args.at h.unmarked h.first h.settled.at_rest c.args.body.now c.requires.short c.requires.plain _ (written ∙ ap (overwritten c.args.at (1 ∷ [])) is_staged) _ durable)
    (c.write_through-2.ensures.written told) (c.write_through-2.ensures.durable told)

pub returns-clause-any_moment : goal.returns-clause-any_moment
returns-clause-any_moment g c told =
    let file = g.D.Disk.seen c.args.disk.now in
    let h = c.requires.held told in
    let is_staged = c.in_ok-write_through.ensures.written told ∙ ap (λ (bytes : List ℕ). overwritten (c.args.at + 1) bytes file) (c.as_slice.ensures.value ∙ c.in_ok-record.ensures) in
    let P : List ℕ → Type 0 = λ image. IsBeforeOrAfter (list_of file) c.args.body.now (list_of image) in
    then_leaves g.D.Disk.moment g.D.Disk.left_since c.args.disk.now c.write_through.new.disk c.write_through-2.new.disk _ _ P (c.write_through.ensures.any_moment told h.settled.durable) (c.write_through-2.ensures.any_moment told (c.in_ok-write_through.ensures.durable told))
    (λ image torn. inl (staged_list file c.args.at h.unmarked h.first h.settled.at_rest _ image torn))
    (λ image torn. gate_list file c.args.at h.unmarked h.first h.settled.at_rest c.args.body.now c.requires.short c.requires.plain image (subst (λ (l : List ℕ). Torn c.args.at 1 l image) is_staged torn))

use Rattle.std.proofs.Common.{rules, ◌≡◌, ◌<◌, List, [], ℕ, false, get_or, sym, ◌∙◌, subst}
use Rattle.mega_disk.proofs.Leaves.{weaker_leaves}
use Rattle.mega_disk.proofs.Steps.{cut_same}
use Rattle.mega_areas.specs.Pages.{is_areas}
use Rattle.mega_checkpoint.specs.Format.{list_of}
use Rattle.mega_checkpoint.proofs.Plain.{cut_none}
use Rattle.mega_checkpoint.proofs.chain.open_torn.Goals as goal

pub returns-in_err-clear-clause-any_moment : goal.returns-in_err-clear-clause-any_moment
returns-in_err-clear-clause-any_moment g c told =
    let file = g.D.Disk.seen c.args.disk.now in
    let is = c.requires.bytes told in
    let none : list_of file ≡ [] = cut_none file (subst (λ (f : List ℕ). 1 < get_or f 0 0) is c.requires.torn) (subst (λ (f : List ℕ). is_areas f ≡ false) is c.requires.chain) file (cut_same 2 file) in
    weaker_leaves g.D.Disk.moment g.D.Disk.left_since c.args.disk.now c.clear.new.disk _ _ (c.clear.ensures.any_moment told) (λ image empty. empty ∙ sym none)

pub returns-clause-any_moment : goal.returns-clause-any_moment
returns-clause-any_moment g c told =
    let file = g.D.Disk.seen c.args.disk.now in
    let is = c.requires.bytes told in
    let none : list_of file ≡ [] = cut_none file (subst (λ (f : List ℕ). 1 < get_or f 0 0) is c.requires.torn) (subst (λ (f : List ℕ). is_areas f ≡ false) is c.requires.chain) file (cut_same 2 file) in
    weaker_leaves g.D.Disk.moment g.D.Disk.left_since c.args.disk.now c.clear.new.disk _ _ (c.clear.ensures.any_moment told) (λ image empty. empty ∙ sym none)

pub returns-clause-same : goal.returns-clause-same
returns-clause-same g c told =
    let file = g.D.Disk.seen c.args.disk.now in
    let is = c.requires.bytes told in
    c.in_ok-clear.ensures.same told ∙ sym (cut_none file (subst (λ (f : List ℕ). 1 < get_or f 0 0) is c.requires.torn) (subst (λ (f : List ℕ). is_areas f ≡ false) is c.requires.chain) file (cut_same 2 file))

pub returns-clause-records : goal.returns-clause-records
returns-clause-records g c told =
    let file = g.D.Disk.seen c.args.disk.now in
    let is = c.requires.bytes told in
    let none : c.new-records.result.items ≡ [] = search rules in
    none ∙ sym (cut_none file (subst (λ (f : List ℕ). 1 < get_or f 0 0) is c.requires.torn) (subst (λ (f : List ℕ). is_areas f ≡ false) is c.requires.chain) file (cut_same 2 file))

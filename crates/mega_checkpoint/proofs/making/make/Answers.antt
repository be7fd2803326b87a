use Rattle.std.proofs.Common.{◌≡◌, ◌≤◌, ℕ, List, [], ◌∷◌, get_or, refl, sym, ◌∙◌, ap, subst, arith}
use Rattle.mega_disk.specs.Images.{overwritten, Torn, Only}
use Rattle.mega_disk.proofs.Leaves.{started, weaker_leaves, then_leaves}
use Rattle.mega_disk.proofs.Outcomes.{both_ok}
use Rattle.mega_areas.specs.Pages.{zero_bytes}
use Rattle.mega_checkpoint.specs.Format.{list_of}
use Rattle.mega_checkpoint.specs.Held.{IsIdle}
use Rattle.mega_areas.proofs.Bytes.{torn_before}
use Rattle.mega_checkpoint.proofs.Fresh.{list_few, list_shut, length-zeros, zeros_at, over_end, over_few, made, made_torn, made_idle}
use Rattle.mega_checkpoint.proofs.making.make.Goals as goal

pub returns-in_err-rest-clause-any_moment : goal.returns-in_err-rest-clause-any_moment
returns-in_err-rest-clause-any_moment g c told =
    let disk = c.args.disk.now in
    let few = subst (λ (n : ℕ). n ≤ 1) (c.requires.size told) c.requires.few in
    started g.D.Disk.moment g.D.Disk.left_since disk _
    (λ image since. ap list_of (c.requires.durable told image (g.met.D.Disk.only_now disk image since)) ∙ list_few (g.D.Disk.seen disk) (omega (arith, few)))

pub returns-in_err-write_through-clause-any_moment : goal.returns-in_err-write_through-clause-any_moment
returns-in_err-write_through-clause-any_moment g c told =
    let few = subst (λ (n : ℕ). n ≤ 1) (c.requires.size told) c.requires.few in
    weaker_leaves g.D.Disk.moment g.D.Disk.left_since c.args.disk.now c.write_through.new.disk _ _ (c.write_through.ensures.any_moment told (c.requires.durable told))
    (λ image torn. list_few image (let long = torn.no_longer in omega (arith, long, few)))

pub returns-in_err-write_through-2-clause-any_moment : goal.returns-in_err-write_through-2-clause-any_moment
returns-in_err-write_through-2-clause-any_moment g c told =
    let file = g.D.Disk.seen c.args.disk.now in
    let few = subst (λ (n : ℕ). n ≤ 1) (c.requires.size told) c.requires.few in
    let gate : g.D.Disk.seen c.write_through.new.disk ≡ 0 ∷ [] = c.in_ok-write_through.ensures.written told ∙ over_few file few in
    then_leaves g.D.Disk.moment g.D.Disk.left_since c.args.disk.now c.write_through.new.disk c.write_through-2.new.disk _ _ (λ image. list_of image ≡ [])
    (c.write_through.ensures.any_moment told (c.requires.durable told)) (c.write_through-2.ensures.any_moment told (c.in_ok-write_through.ensures.durable told))
    (λ image torn. list_few image (let long = torn.no_longer in omega (arith, long, few)))
    (λ image torn. list_shut image (torn_before 1 _ _ image 0 torn (omega arith) ∙ ap (λ (l : List ℕ). get_or l 0 0) gate))

pub returns-clause-any_moment : goal.returns-clause-any_moment
returns-clause-any_moment g c told =
    let file = g.D.Disk.seen c.args.disk.now in
    let zeros = zero_bytes 12284 in
    let few = subst (λ (n : ℕ). n ≤ 1) (c.requires.size told) c.requires.few in
    let gate : g.D.Disk.seen c.write_through.new.disk ≡ 0 ∷ [] = c.in_ok-write_through.ensures.written told ∙ over_few file few in
    let rest = c.as_slice.ensures.value ∙ c.in_ok-rest.ensures in
    let second : g.D.Disk.seen c.write_through-2.new.disk ≡ 0 ∷ 71 ∷ 65 ∷ 50 ∷ zeros = c.in_ok-write_through-2.ensures.written told ∙ (λ i. overwritten 1 (rest i) (gate i)) ∙ over_end 1 (71 ∷ 65 ∷ 50 ∷ zeros) (0 ∷ []) refl in
    let both = then_leaves g.D.Disk.moment g.D.Disk.left_since c.args.disk.now c.write_through.new.disk c.write_through-2.new.disk _ _ (λ image. list_of image ≡ [])
    (c.write_through.ensures.any_moment told (c.requires.durable told)) (c.write_through-2.ensures.any_moment told (c.in_ok-write_through.ensures.durable told))
    (λ image torn. list_few image (let long = torn.no_longer in omega (arith, long, few)))
    (λ image torn. list_shut image (torn_before 1 _ _ image 0 torn (omega arith) ∙ ap (λ (l : List ℕ). get_or l 0 0) gate)) in
    then_leaves g.D.Disk.moment g.D.Disk.left_since c.args.disk.now c.write_through-2.new.disk c.write_through-3.new.disk _ _ (λ image. list_of image ≡ []) both (c.write_through-3.ensures.any_moment told (c.in_ok-write_through-2.ensures.durable told))
    (λ image none. none) (λ image torn. made_torn zeros (length-zeros 12284) (zeros_at 12284) image (subst (λ (l : List ℕ). Torn 0 1 l image) second torn))

pub returns-clause-idle : goal.returns-clause-idle
returns-clause-idle g c told =
    let file = g.D.Disk.seen c.args.disk.now in
    let zeros = zero_bytes 12284 in
    let few = subst (λ (n : ℕ). n ≤ 1) (c.requires.size told) c.requires.few in
    let gate : g.D.Disk.seen c.write_through.new.disk ≡ 0 ∷ [] = c.in_ok-write_through.ensures.written told ∙ over_few file few in
    let rest = c.as_slice.ensures.value ∙ c.in_ok-rest.ensures in
    let second : g.D.Disk.seen c.write_through-2.new.disk ≡ 0 ∷ 71 ∷ 65 ∷ 50 ∷ zeros = c.in_ok-write_through-2.ensures.written told ∙ (λ i. overwritten 1 (rest i) (gate i)) ∙ over_end 1 (71 ∷ 65 ∷ 50 ∷ zeros) (0 ∷ []) refl in
    both_ok c.write_through-3.result
    (λ written durable. let is : g.D.Disk.seen c.write_through-3.new.disk ≡ made zeros (length-zeros 12284) (zeros_at 12284) 1 = written ∙ ap (overwritten 0 (1 ∷ [])) second in
    subst (λ (l : List ℕ). IsIdle l (g.D.Disk.may_leave c.write_through-3.new.disk) 1) (sym is) (made_idle zeros (length-zeros 12284) (zeros_at 12284) _ (subst (λ (l : List ℕ). Only l (g.D.Disk.may_leave c.write_through-3.new.disk)) is durable)))
    (c.write_through-3.ensures.written told) (c.write_through-3.ensures.durable told)

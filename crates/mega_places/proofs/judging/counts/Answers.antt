use Rattle.std.proofs.Common.{◌∙◌, [], ap, is_some, sym}
use Rattle.mega_cluster.specs.declared.cluster.Cluster.{Cluster}
use Rattle.mega_leases.specs.Counting.{counts_at}
use Rattle.mega_places.specs.Members.{is_up_at, member_of}
use Rattle.mega_places.proofs.Breaking.{counts_down, counts_up}
use Rattle.mega_places.proofs.judging.counts.Goals as goal

pub returns-in-Some : goal.returns-in-Some
returns-in-Some c cluster ruled all =
    let me = c.args.node in
    let one = all.each me c.in-Some.member.now (ap (λ k. member_of c.args.places.now k) (sym c.from.ensures) ∙ sym c.in-Some.ensures) in
    c.counts.ensures [] (ruled me) (one.up [])
    ∙ ap (λ (k : Cluster). counts_at k (ruled me).met c.args.cell c.args.epoch) one.members
    ∙ counts_up cluster (ruled me).met c.args.cell c.args.epoch (all.up_are me ∙ ap (λ k. is_up_at c.args.places.now k) (sym c.from.ensures) ∙ ap is_some (sym c.in-Some.ensures))

pub returns-in-None : goal.returns-in-None
returns-in-None c cluster ruled all =
    let me = c.args.node in
    counts_down cluster (ruled me).met c.args.cell c.args.epoch (all.up_are me ∙ ap (λ k. is_up_at c.args.places.now k) (sym c.from.ensures) ∙ ap is_some (sym c.in-None.ensures))

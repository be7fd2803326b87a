-- An operation that asked the leader alone is committed by the end of a drain that is not cut.
use Rattle.std.proofs.Common.{◌≡◌, inl, ℕ, false, cond, [], ◌∷◌, Some, sym, ap, ◌∙◌, subst}
use Rattle.mega_base.specs.declared.names.OpId.{OpId}
use Rattle.mega_cluster.specs.declared.cluster.Cluster.{Cluster}
use Rattle.mega_handler.specs.Named.{Meanings}
use Rattle.mega_wal.specs.Same.{same_op, same_option}
use Rattle.mega_wal.proofs.Sames.{same_op_self}
use Rattle.mega_outcome.specs.declared.answer.Answer.TheVariants.{Conflict}
use Rattle.mega_leased_laws.specs.of_run_laws.of_tape_laws.of_promises.of_transcript.declared.item.Item.TheVariants.{Answer as AnswerItem, Decide as DecideItem}
use Rattle.mega_leased_laws.specs.of_run_laws.of_tape_laws.of_promises.of_rules.Acting.{committed, verdict}
use Rattle.mega_leased_laws.specs.of_run_laws.of_tape_laws.of_promises.of_rules.Operations.{Operation}
use Rattle.mega_leased_laws.specs.of_run_laws.of_tape_laws.of_promises.Calm.{is_cut}
use Rattle.mega_leased_laws.specs.of_run_laws.of_tape_laws.of_promises.Promises.{Stands}
use Rattle.mega_leased_laws.specs.of_run_laws.of_tape_laws.of_promises.Runs.{Cuts, Standing, drained}
use Rattle.mega_calm_laws.specs.Proposed.{Asked, IsProposedAlone}
use Rattle.mega_calm_laws.proofs.Beginning.{full_votes}
use Rattle.mega_calm_laws.proofs.Proposing.{Alone, Finished, asks, asks_vote, ends_finished}
use Rattle.mega_calm_laws.proofs.Voting.{Clean}

own_verdict : (op : OpId) (n : ℕ) (a : Asked) → a.entry.id ≡ Some op → verdict op n a.promised a.entry ≡ committed n a.promised
own_verdict op n a is = ap (λ o. cond (same_option same_op o (Some op)) (committed n a.promised) (Conflict (record { 0 = n }) o)) is
    ∙ ap (λ t. cond t (committed n a.promised) (Conflict (record { 0 = n }) (Some op))) (same_op_self op)

-- it stands alone
alone_of : (c : Cluster) (h : Meanings) (now : Standing) (a : Asked) (is : IsProposedAlone c now a)
    → Alone c (a.operation).id.node.0 (a.operation).id.start (a.operation).id.number a.group a.position a.entry (full_votes c (a.operation).id.node.0 is.at_full) (a.operation).request (a.operation).began (a.operation).visited (a.operation).message a.told a.promised h now
alone_of c h now a is = record {
  up = is.all_up;
  unfused = λ v there. record { no_log = is.no_log_fuse v there; no_data = is.no_data_fuse v there };
  numbered_so = is.in_order;
  idle = is.others_idle;
  mail = λ k m w. asks_vote a.leader is.leader_votes (is.nothing_else k m w);
  clean = λ v voter. subst (Clean a.entry) (sym (is.unaccepted v voter)) tt;
  undecided = is.undecided;
  at = asks a.seen a.leader a.sent (is.alone ∙ ap (λ phase. record { id = o.id; request = o.request; began = o.began; visited = o.visited; message = o.message; phase = phase } ∷ []) is.proposes) is.leader_votes (inl is.asked);
}
  where
    o : Operation
    o = a.operation

finished_of : (c : Cluster) (h : Meanings) (cuts : Cuts) (now : Standing) (a : Asked) (most : ℕ) (is : IsProposedAlone c now a) → is_cut (drained c h cuts now most).tape ≡ false
    → Finished c (a.operation).id.node.0 (a.operation).id.start (a.operation).id.number a.group a.position a.entry (full_votes c (a.operation).id.node.0 is.at_full) (a.operation).request (a.operation).began (a.operation).visited (a.operation).message a.told a.promised h (drained c h cuts now most)
finished_of c h cuts now a most is not_cut =
    ends_finished c o.id.node.0 o.id.start o.id.number a.group a.position a.entry (full_votes c o.id.node.0 is.at_full) o.request o.began o.visited o.message a.told a.promised h cuts most now (inl (alone_of c h now a is)) not_cut
  where
    o : Operation
    o = a.operation

pub proposal_decided : (c : Cluster) (h : Meanings) (cuts : Cuts) (now : Standing) (a : Asked) (most : ℕ) → IsProposedAlone c now a → is_cut (drained c h cuts now most).tape ≡ false
    → Stands (DecideItem (a.operation).id.node a.group (record { 0 = a.position }) a.entry) (drained c h cuts now most).tape
proposal_decided c h cuts now a most is not_cut = (finished_of c h cuts now a most is not_cut).decides

pub proposal_committed : (c : Cluster) (h : Meanings) (cuts : Cuts) (now : Standing) (a : Asked) (most : ℕ) → IsProposedAlone c now a → a.entry.id ≡ Some (a.operation).id → is_cut (drained c h cuts now most).tape ≡ false
    → Stands (AnswerItem (a.operation).id (committed a.position a.promised)) (drained c h cuts now most).tape
proposal_committed c h cuts now a most is named not_cut =
    subst (λ answer. Stands (AnswerItem (a.operation).id answer) (drained c h cuts now most).tape) (own_verdict (a.operation).id a.position a named) (finished_of c h cuts now a most is not_cut).stands

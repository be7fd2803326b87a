-- An operation proposes its entry alone: it has asked the leader of a position of which no voter accepted anything.
use Rattle.std.specs.Prelude.{◌≡◌, ℕ, ◌==◌, true, false, List, [], ◌∷◌, None}
use Rattle.mega_base.specs.declared.names.GroupId.{GroupId}
use Rattle.mega_base.specs.declared.names.OpId.{OpId}
use Rattle.mega_ballot.specs.Order.{zero_ballot}
use Rattle.mega_cluster.specs.declared.cluster.Cluster.{Cluster}
use Rattle.mega_entry.specs.declared.content.Content.{Content}
use Rattle.mega_wire.specs.declared.message.Message.{Message}
use Rattle.mega_wire.specs.declared.message.Body.TheVariants.{Accept}
use Rattle.mega_leased_laws.specs.of_run_laws.of_tape_laws.of_promises.of_rules.of_read.of_propose.declared.round.Round.TheVariants.{Asking}
use Rattle.mega_leased_laws.specs.of_run_laws.of_tape_laws.of_promises.of_rules.Clock.{is_up}
use Rattle.mega_leased_laws.specs.of_run_laws.of_tape_laws.of_promises.of_rules.Logs.{decided}
use Rattle.mega_leased_laws.specs.of_run_laws.of_tape_laws.of_promises.of_rules.Members.{is_full, is_node, is_voter}
use Rattle.mega_leased_laws.specs.of_run_laws.of_tape_laws.of_promises.of_rules.Operations.{Operation, Promised, Proposes}
use Rattle.mega_leased_laws.specs.of_run_laws.of_tape_laws.of_promises.of_rules.Voting.{acts}
use Rattle.mega_leased_laws.specs.of_run_laws.of_tape_laws.of_promises.Runs.{Standing}
use Rattle.mega_calm_laws.specs.Waiting.{IsAwaited, IsNumbered, Waits}

-- the leader is asked to accept an entry at ballot zero
abbrev pub asks_leader : OpId → ℕ → GroupId → ℕ → Content → Message
asks_leader op leader group n entry = record { from = op.node.0; to = leader; body = Accept op group (record { 0 = n }) zero_ballot entry }

-- how an operation stands that has asked the leader
pub record Asked : Type 0 where
  pub operation : Operation
  pub group : GroupId
  pub position : ℕ
  pub entry : Content
  pub leader : ℕ
  pub told : List ℕ
  pub promised : Promised
  pub seen : ℕ
  pub sent : ℕ

-- all nodes are up, with no fuse set; the operation is the only one that is open, at a full node, and its question the only message that waits; the leader
-- is a voter; no voter accepted or promised anything at the position, and no node decided it
pub record IsProposedAlone (c : Cluster) (now : Standing) (a : Asked) : Type 0 where
  pub all_up : (node : ℕ) → is_node c node ≡ true → is_up (now.node node).met ≡ true
  pub no_log_fuse : (node : ℕ) → is_node c node ≡ true → now.log_fuse node ≡ None
  pub no_data_fuse : (node : ℕ) → is_node c node ≡ true → now.data_fuse node ≡ None
  pub in_order : IsNumbered now.tape
  pub proposes : (a.operation).phase ≡ Proposes a.group a.position a.told (record { own = a.entry; seen = a.seen; round = Asking a.leader a.sent }) a.promised
  pub alone : (now.node ((a.operation).id.node.0)).open_operations ≡ a.operation ∷ []
  pub others_idle : (node : ℕ) → is_node c node ≡ true → (node == (a.operation).id.node.0) ≡ false → (now.node node).open_operations ≡ []
  pub at_full : is_full c ((a.operation).id.node.0) ≡ true
  pub leader_votes : is_voter c a.leader ≡ true
  pub asked : IsAwaited now.tape (asks_leader (a.operation).id a.leader a.group a.position a.entry)
  pub nothing_else : (k : ℕ) (m : Message) → Waits now.tape k m → m ≡ asks_leader (a.operation).id a.leader a.group a.position a.entry
  pub unaccepted : (node : ℕ) → is_voter c node ≡ true → acts (now.node node).met a.group a.position ≡ []
  pub undecided : (node : ℕ) → is_node c node ≡ true → decided (now.node node).met a.group a.position ≡ None

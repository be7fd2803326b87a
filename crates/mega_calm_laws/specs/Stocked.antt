-- What a calm group has: each position up to the greatest that a voter accepted or decided is decided at some voter.
use Rattle.std.specs.Prelude.{◌≡◌, ℕ, ◌≤◌, true, Some}
use Rattle.mega_base.specs.declared.names.GroupId.{GroupId}
use Rattle.mega_cluster.specs.declared.cluster.Cluster.{Cluster}
use Rattle.mega_entry.specs.declared.content.Content.{Content}
use Rattle.mega_leased_laws.specs.of_run_laws.of_tape_laws.of_promises.of_rules.Logs.{decided, top_of}
use Rattle.mega_leased_laws.specs.of_run_laws.of_tape_laws.of_promises.of_rules.Members.{is_voter}
use Rattle.mega_leased_laws.specs.of_run_laws.of_tape_laws.of_promises.Runs.{Standing}

-- some voter decided a position
pub record IsKnown (c : Cluster) (now : Standing) (group : GroupId) (n : ℕ) : Type 0 where
  pub voter : ℕ
  pub member : is_voter c voter ≡ true
  pub entry : Content
  pub is : decided (now.node voter).met group n ≡ Some entry

pub record IsStocked (c : Cluster) (now : Standing) (group : GroupId) : Type 0 where
  pub each : (v n : ℕ) → is_voter c v ≡ true → 1 ≤ n → n ≤ top_of (now.node v).met group → IsKnown c now group n

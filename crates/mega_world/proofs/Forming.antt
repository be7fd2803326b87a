-- A step of a node in a run of the format is of the format.
use Rattle.std.proofs.Common.{◌≡◌, ◌⊎◌, inl, inr, ℕ, ◌≤◌, true, arith}
use Rattle.std.proofs.lemmas.Bool.Decides.{nat_tests}
use Rattle.mega_cluster.specs.declared.cluster.Cluster.{Cluster}
use Rattle.mega_places.specs.of_durable.of_core.Served.{IsServed}
use Rattle.mega_places.specs.of_handler.Named.{Meanings}
use Rattle.mega_places.specs.of_voter.of_rules.Members.{is_node}
use Rattle.mega_places.specs.of_voter.of_rules.Steps.{Event, step}
use Rattle.mega_format_laws.specs.Histories.{IsCluster}
use Rattle.mega_format_laws.specs.Nodes.{IsEvent, IsStep}
use Rattle.mega_format_laws.specs.Requests.{AreHandlers}
use Rattle.mega_format_laws.specs.Rounds.{IsMember}
use Rattle.mega_format_laws.proofs.Whole.{whole_step as step_formed}
use Rattle.mega_places.specs.of_promises.Runs.{Standing, setting}
use Rattle.mega_world.specs.Formed.{IsFormed}

-- a cluster that is served is of the format, and its nodes have numbers of the format
few_cells : (n : ℕ) → (n ≡ 1) ⊎ (n ≡ 3) ⊎ (n ≡ 5) → n ≤ 5
few_cells n (inl is) = omega (arith, is)
few_cells n (inr (inl is)) = omega (arith, is)
few_cells n (inr (inr is)) = omega (arith, is)

is_cluster : (c : Cluster) → IsServed c → IsCluster c
is_cluster c served = record { nodes = served.few; cells = few_cells c.cells served.cells; limit = served.limit }

is_member : (c : Cluster) (me : ℕ) → IsServed c → is_node c me ≡ true → IsMember me
is_member c me served is = let few = served.few in (grind (arith, nat_tests), grind (arith, nat_tests))

pub made_formed : (c : Cluster) (h : Meanings) (now : Standing) (me : ℕ) (event : Event) → IsServed c → IsFormed now → AreHandlers h → is_node c me ≡ true → IsEvent event → IsStep (step (setting c h me) (now.node me) event)
made_formed c h now me event served formed handlers is asked =
    step_formed (setting c h me) (now.node me) event (record { cluster = is_cluster c served; me = is_member c me served is; handlers = handlers }) (formed.nodes me) asked

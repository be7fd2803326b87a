use Rattle.mega_leases.proofs.leases.Leases.serves.Goals as goal

pub returns : goal.returns
returns c cluster me met tells = c.state.ensures _ _ _ tells.coordinator_is

use Rattle.mega_leases.proofs.leases.Leases.is_valid.Goals as goal

pub returns : goal.returns
returns c cluster me met tells = c.is_valid.ensures _ _ _ tells.coordinator_is

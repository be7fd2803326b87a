use Rattle.mega_leases.proofs.leases.Leases.held.Goals as goal

pub returns : goal.returns
returns c cluster me met tells = c.held.ensures _ tells.cell_is

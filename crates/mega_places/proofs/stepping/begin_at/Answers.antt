use Rattle.mega_places.proofs.stepping.begin_at.Goals as goal

pub returns-in-Ok-clause-id : goal.returns-in-Ok-clause-id
returns-in-Ok-clause-id g c = rw c.as_slice.ensures.value at c.op_at-op.ensures

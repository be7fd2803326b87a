use Rattle.std.proofs.Common.{ap, subst, sym, ◌∙◌}
use Rattle.mega_disk.specs.MemDisk.{fuse_of, image_of}
use Rattle.mega_voter.specs.Holding.{HoldsMet}
use Rattle.mega_places.specs.declared.remains.Remains.{Remains}
use Rattle.mega_places.specs.Kept.{AreReady, records_below}
use Rattle.mega_places.proofs.starting.opened.Goals as goal

pub returns-in-InMemory-clause-stands : goal.returns-in-InMemory-clause-stands
returns-in-InMemory-clause-stands c k me starts met holds ready = subst (λ (left : Remains). AreReady k me left starts met) c.in-InMemory.is ready

pub returns-in-Ok-clause-stands : goal.returns-in-Ok-clause-stands
returns-in-Ok-clause-stands c k me starts met holds ready = c.in-Ok.ensures.stands k me starts met (subst (λ (left : Remains). HoldsMet (records_below left).list.items starts met) c.in-OnDisk.is holds)

pub returns-in-Ok-clause-list : goal.returns-in-Ok-clause-list
returns-in-Ok-clause-list c = c.in-Ok.ensures.list ∙ ap (λ (left : Remains). (records_below left).list.items) (sym c.in-OnDisk.is)

pub returns-in-Ok-clause-fuse : goal.returns-in-Ok-clause-fuse
returns-in-Ok-clause-fuse c = c.in-Ok.ensures.fuse ∙ ap (λ (left : Remains). fuse_of (records_below left).fuse) (sym c.in-OnDisk.is)

pub returns-in-Ok-clause-image : goal.returns-in-Ok-clause-image
returns-in-Ok-clause-image c = c.in-Ok.ensures.image ∙ ap (λ (left : Remains). image_of (records_below left).fuse) (sym c.in-OnDisk.is)

pub returns-in-InMemory-clause-list : goal.returns-in-InMemory-clause-list
returns-in-InMemory-clause-list c = ap (λ (left : Remains). (records_below left).list.items) (sym c.in-InMemory.is)

pub returns-in-InMemory-clause-fuse : goal.returns-in-InMemory-clause-fuse
returns-in-InMemory-clause-fuse c = ap (λ (left : Remains). fuse_of (records_below left).fuse) (sym c.in-InMemory.is)

pub returns-in-InMemory-clause-image : goal.returns-in-InMemory-clause-image
returns-in-InMemory-clause-image c = ap (λ (left : Remains). image_of (records_below left).fuse) (sym c.in-InMemory.is)

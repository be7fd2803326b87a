use Rattle.std.proofs.Common.{List, ap, subst, sym, ◌∙◌, ℕ}
use Rattle.mega_disk.specs.declared.mem_records.MemRecords.{MemRecords}
use Rattle.mega_disk.specs.MemDisk.{fuse_of, image_of}
use Rattle.mega_voter.specs.declared.voter.Voter.{Voter}
use Rattle.mega_voter.specs.Holding.{HoldsMet, Recalls}
use Rattle.mega_places.proofs.starting.anew.Goals as goal

pub returns-in-Ok-clause-stands : goal.returns-in-Ok-clause-stands
returns-in-Ok-clause-stands c k me starts met holds =
    let same = c.new-in-Ok.ensures.voter in record {
      empty = ap (λ (one : Voter MemRecords). one.logs.staged.items) same ∙ c.in-Ok.ensures.staged;
      recalls = subst (λ (one : Voter MemRecords). Recalls one.logs.kept starts met) (sym same)
          (c.in-Ok.ensures.recalls starts met (subst (λ (items : List (List ℕ)). HoldsMet items starts met) (sym c.in_ok-reopen.ensures.opened) holds));
      ready = ap (λ (one : Voter MemRecords). one.logs.records.spent) same ∙ (c.in-Ok.ensures.same.spent ∙ c.in_ok-reopen.ensures.spent);
      rows = c.new-in-Ok.ensures.rows k me met c.new.ensures.empty;
    }

pub returns-in-Ok-clause-list : goal.returns-in-Ok-clause-list
returns-in-Ok-clause-list c = ap (λ (one : Voter MemRecords). one.logs.records.list.items) c.new-in-Ok.ensures.voter ∙ (c.in-Ok.ensures.same.list ∙ c.in_ok-reopen.ensures.list)

pub returns-in-Ok-clause-fuse : goal.returns-in-Ok-clause-fuse
returns-in-Ok-clause-fuse c = ap (λ (one : Voter MemRecords). fuse_of one.logs.records.fuse) c.new-in-Ok.ensures.voter ∙ (c.in-Ok.ensures.same.fuse ∙ c.in_ok-reopen.ensures.fuse)

pub returns-in-Ok-clause-image : goal.returns-in-Ok-clause-image
returns-in-Ok-clause-image c = ap (λ (one : Voter MemRecords). image_of one.logs.records.fuse) c.new-in-Ok.ensures.voter ∙ (c.in-Ok.ensures.same.image ∙ c.in_ok-reopen.ensures.image)

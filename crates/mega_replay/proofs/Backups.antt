-- What the calls of a backup and of a restore come to.
use Rattle.std.proofs.Common.{◌≡◌, ℕ, Option, Some, None, Result, Ok, Err, List, refl, arith, inl, inr}
use Rattle.mega_base.specs.declared.names.GroupId.{GroupId}
use Rattle.mega_cluster.specs.declared.cluster.Cluster.{Cluster}
use Rattle.mega_disk.specs.declared.disk.Disk.{Ghosts as DiskGhosts}
use Rattle.mega_disk.specs.declared.pair.Pair.{Pair}
use Rattle.mega_header.specs.Known.{IfKnown}
use Rattle.mega_header.specs.Parts.{cluster_in, header_text}
use Rattle.mega_io.specs.Pieces.{AppendsFront}
use Rattle.mega_checkpoint.specs.Format.{list_of}
use Rattle.mega_tape_laws.proofs.DeclaredClusters.{cluster_declared}
use Rattle.mega_backup_laws.proofs.Agreeing.{read_back}
use Rattle.mega_backup_words.specs.Backing.{BacksUp}
use Rattle.mega_backup_words.proofs.Endings.{unwritten}
use Rattle.mega_words.specs.declared.command.Command.{Command}
use Rattle.mega_words.specs.declared.command.Command.TheVariants.{Backup, Gen, Node, Replay, Restore, Two}
use Rattle.mega_words.specs.Commands.{MayWant}
use Rattle.mega_replay.specs.Backups.{BringsBack}
use Rattle.mega_replay.specs.Run.{HasBackedUp}
use Rattle.mega_replay.specs.Statuses.{IsStatusOf}

-- where memory was wanting for the group, nothing was done
reads : (least : ℕ) (input : Option (List ℕ)) → (header : Result Cluster ℕ) × IfKnown input (λ input. cluster_in least input ≡ header)
reads least None = (Err 1, tt)
reads least (Some input) = (cluster_in least input, refl)

pub nothing_done : {D : Type 0} (disks : DiskGhosts D) (number : ℕ) (group : GroupId) (at : ℕ) (input : Option (List ℕ)) (devices : Pair D) (held : Option (List ℕ)) → HasBackedUp disks number group at input devices (Some devices) held held 8
nothing_done disks number group at input devices held = record {
  whole = λ plain. absurd (cc);
  front = record {
    header = (reads number input).0;
    headed = (reads number input).1;
    records = list_of (disks.seen devices.log);
    held = λ told. refl;
    said = unwritten held _;
  };
  left = devices;
  back = refl;
  runs = refl;
  kept = λ told plain. refl;
  device = λ is. absurd (omega (arith, is));
  later = omega arith;
}

pub may_end : (command : Option Command) → MayWant command → IsStatusOf command 8
may_end None may = inr refl
may_end (Some (Backup number group at)) may = inr (inr (inr (inr (inr (inl refl)))))
may_end (Some (Two number turns recover)) may = inr (inr (inr (inr (inr (inl refl)))))
may_end (Some (Replay report)) may = absurd may
may_end (Some (Gen seed count nodes)) may = absurd may
may_end (Some (Node number turns)) may = absurd may
may_end (Some (Restore at)) may = absurd may

-- the rows of a backup come back
brings_back : (at : ℕ) (input : List ℕ) → BringsBack at input
brings_back at input c lines backup txns header behind is made back =
    read_back c.schema (cluster_declared 1 (header_text input) c header) lines backup is made at txns back

pub rows_come_back : (at : ℕ) (input : Option (List ℕ)) → IfKnown input (BringsBack at)
rows_come_back at None = tt
rows_come_back at (Some input) = brings_back at input

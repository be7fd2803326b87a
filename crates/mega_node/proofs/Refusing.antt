-- Why a node did not start, or is served no longer, and what it leaves then.
use Rattle.std.proofs.Common.{◌≡◌, ◌≢◌, ℕ, ◌<◌, ◌≤◌, ◌^◌, Option, Some, None, refl, sym, subst, ◌∙◌, arith}
use Rattle.std.specs.Prelude.{option_map}
use Rattle.mega_base.specs.Causes.{Rose}
use Rattle.mega_disk.specs.declared.records.Records.{Ghosts}
use Rattle.mega_server.specs.of_durable.declared.starting.NotStarted.{NotStarted}
use Rattle.mega_server.specs.of_durable.declared.starting.NotStarted.TheVariants as refused
use Rattle.mega_server.specs.of_durable.Starting.{IsRefused}
use Rattle.mega_serve.specs.of_page.declared.fault.NodeFault.{NodeFault}
use Rattle.mega_serve.specs.of_page.declared.fault.NodeFault.TheVariants as node
use Rattle.mega_serve.specs.of_page.declared.fault.ServeFault.{ServeFault}
use Rattle.mega_serve.specs.of_page.declared.fault.ServeFault.TheVariants as serve
use Rattle.mega_serve.specs.Causes.{Devices, IsCaused}
use Rattle.mega_voter.specs.declared.voter.Voter.{Voter}
use Rattle.mega_voter.specs.Used.{LogUsed}
use Rattle.mega_wal.specs.declared.answers.LogFault.{LogFault}
use Rattle.mega_wal.specs.declared.answers.LogFault.TheVariants as log
use Rattle.mega_node.specs.declared.stop.Stop.{Stop}
use Rattle.mega_node.specs.declared.stop.Stop.TheVariants.{BadRecord, Full, NoMemory, StartsFull, Unformed}
use Rattle.mega_node.specs.Serving.{IsDue, serve_stop}
use Rattle.mega_node.specs.Starting.{HandsBack, fault_stop, left_of, start_stop}

-- ---- a node that did not start

-- what is said of the device, of a full log, and of what is lost
kept_back : {R : Type 0} (store : Ghosts R) (length : ℕ) (fault : LogFault) (old records : R) → fault ≢ log.DiskFault → LogUsed store length (Some fault) old records → HandsBack store.faults (store.faults old) (fault_stop fault) (Some records)
kept_back store length log.DiskFault old records not proceeds = absurd (not refl)
kept_back store length (log.Full n) old records not proceeds = record {
  device = λ is. absurd (cc);
  full = λ m is. let same : n ≡ m = cc in subst (λ (k : ℕ). 2 ^ 40 < k) same (proceeds.full n refl).0.2;
  lost = λ is. absurd (cc);
  later = λ now is. let same : records ≡ now = cc in subst (λ (r : _). store.faults old ≤ store.faults r) same proceeds.later;
}
kept_back store length log.Spent old records not proceeds = record {
  device = λ is. absurd (cc);
  full = λ m is. absurd (cc);
  lost = λ is. refl;
  later = λ now is. let same : records ≡ now = cc in subst (λ (r : _). store.faults old ≤ store.faults r) same proceeds.later;
}
kept_back store length (log.BadRecord n) old records not proceeds = record {
  device = λ is. absurd (cc);
  full = λ m is. absurd (cc);
  lost = λ is. refl;
  later = λ now is. let same : records ≡ now = cc in subst (λ (r : _). store.faults old ≤ store.faults r) same proceeds.later;
}
kept_back store length log.NoMemory old records not proceeds = record {
  device = λ is. absurd (cc);
  full = λ m is. absurd (cc);
  lost = λ is. refl;
  later = λ now is. let same : records ≡ now = cc in subst (λ (r : _). store.faults old ≤ store.faults r) same proceeds.later;
}

pub handed : {R : Type 0} (store : Ghosts R) (voter : Voter R) (one : NotStarted R) → IsRefused store voter one → HandsBack store.faults (store.faults voter.logs.records) (start_stop one) (left_of one)
handed store voter (refused.StartsFull records) is = record {
  device = λ same. absurd (cc);
  full = λ m same. absurd (cc);
  lost = λ same. absurd (cc);
  later = λ now same. let one : records ≡ now = cc in subst (λ (r : _). store.faults voter.logs.records ≤ store.faults r) (sym is.1 ∙ one) (omega arith);
}
handed store voter (refused.Cut records) is = record {
  device = λ same. (records, refl, is.1.cause refl);
  full = λ m same. absurd (cc);
  lost = λ same. absurd (cc);
  later = λ now same. let one : records ≡ now = cc in subst (λ (r : _). store.faults voter.logs.records ≤ store.faults r) one is.1.later;
}
handed store voter (refused.Log fault records) is = kept_back store (store.length_with voter.logs.records is.1.0) fault voter.logs.records records is.0 is.1.1
handed store voter refused.NoMemory is = record {
  device = λ same. absurd (cc);
  full = λ m same. absurd (cc);
  lost = λ same. refl;
  later = λ now same. absurd (cc);
}

-- the same of the devices below records
pub mapped : {R D : Type 0} (below : R → D) (faults : D → ℕ) (before : ℕ) (stop : Stop) (left : Option R) → HandsBack (λ (records : R). faults (below records)) before stop left → HandsBack faults before stop (option_map below left)
mapped below faults before stop None back = record { device = λ same. absurd (none (back.device same)); full = back.full; lost = λ same. back.lost refl; later = λ now same. absurd (cc) }
  where
    none : (now : _) × (None ≡ Some now) × Rose before (faults (below now)) → ⊥
    none is = let same = is.1 in cc
mapped below faults before stop (Some records) back = record {
  device = λ same. (below records, refl, raised (back.device same));
  full = back.full;
  lost = λ same. absurd (cc);
  later = λ now same. let one : below records ≡ now = cc in subst (λ (device : _). before ≤ faults device) one (back.later records refl);
}
  where
    raised : (now : _) × (Some records ≡ Some now) × Rose before (faults (below now)) → Rose before (faults (below records))
    raised is = let one : is.0 ≡ records = (let same = is.1 in cc) in subst (λ (r : _). Rose before (faults (below r))) one is.2

-- ---- a node that is served no longer

node_due : (fault : NodeFault) (before now : Devices) (sink more : ℕ) → IsCaused (serve.Node fault) before now sink more → IsDue (serve_stop (serve.Node fault)) before now sink more
node_due node.DiskFault before now sink more is = is
node_due (node.Full length) before now sink more is = is
node_due (node.BadRecord number) before now sink more is = tt
node_due node.Spent before now sink more is = tt
node_due node.Unformed before now sink more is = tt
node_due node.NoMemory before now sink more is = tt

pub due : (fault : ServeFault) (before now : Devices) (sink more : ℕ) → IsCaused fault before now sink more → IsDue (serve_stop fault) before now sink more
due (serve.Node fault) before now sink more is = node_due fault before now sink more is
due serve.SinkFault before now sink more is = is
due serve.NoMemory before now sink more is = tt

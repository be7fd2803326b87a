-- A node that started over what its log held is the served node at its start.
use Rattle.std.proofs.Common.{◌≡◌, ◌⊎◌, inl, inr, ℕ, ◌+◌, ◌<◌, ◌≤◌, false, true, List, [], ◌∷◌, None, Option, map, subst, sym, ◌∙◌, arith}
use Rattle.std.specs.Prelude.{flat_map}
use Rattle.mega_cluster.specs.declared.cluster.Cluster.{Cluster}
use Rattle.mega_server.specs.of_core.of_step_parts.declared.note.Note.{Note}
use Rattle.mega_server.specs.of_core.of_step_parts.Notes.{met_of as notes_met}
use Rattle.mega_server.specs.of_core.Restarting.{HaveFollowed}
use Rattle.mega_server.specs.of_core.Served.{IsServed}
use Rattle.mega_disk.specs.declared.records.Records.{Ghosts}
use Rattle.mega_disk.specs.VersionMaps.{Versions}
use Rattle.mega_server.specs.of_durable.declared.down.Down.{Down}
use Rattle.mega_server.specs.of_durable.Standing.{MayStart}
use Rattle.mega_format_laws.specs.Histories.{IsCluster}
use Rattle.mega_handler.specs.Named.{Meaning}
use Rattle.mega_promises.specs.Items.{number, shown}
use Rattle.mega_promises.specs.NodeRuns.{met_of}
use Rattle.mega_promises.specs.Served.{Noted, served_start}
use Rattle.mega_replica.specs.Following.{progress_at}
use Rattle.mega_rules.specs.Met.{Met, Starts}
use Rattle.mega_rules.specs.Operations.{Setting}
use Rattle.mega_rules.specs.Steps.{start_notes}
use Rattle.mega_serve.specs.declared.steps.Steps.{Ghosts as StepsGhosts}
use Rattle.mega_transcript.specs.declared.item.Item.TheVariants.{Start}
use Rattle.mega_voter.specs.declared.voter.Voter.{Voter}
use Rattle.mega_voter.specs.Holding.{HoldsMet}
use Rattle.mega_voter.proofs.Holding.{opened_recalls}
use Rattle.mega_wal.specs.declared.item.JournalItem.{JournalItem}
use Rattle.mega_wal.specs.History.{starts_of}
use Rattle.mega_wal.specs.Kept.{Represents}
use Rattle.mega_wal.specs.Records.{first_bad, history_of}
use Rattle.mega_node.specs.Starting.{HasStarted, start_lines}
use Rattle.mega_node.proofs.Found.{found_met}

pub may_start : {R V : Type 0} (store : Ghosts R) (version : V → Versions) (c : Cluster) (me : ℕ) (down : Down R V) (voter : Voter R) (found : List (List ℕ)) → down.voter ≡ voter
    → first_bad found ≡ None → starts_of (history_of found) < 4294967295 → Represents voter.logs.kept (history_of found)
    → (store.is_told ≡ true → store.list voter.logs.records ≡ found) → store.is_spent voter.logs.records ≡ false
    → ((met : List Met) → HaveFollowed c me (version down.rows.rows) (progress_at down.rows.progress) met)
    → MayStart store version c me down (starts_of (history_of found)) (met_of me (history_of found)) []
may_start store version c me down voter found same good few keeps list ready rows =
    let met = met_of me (history_of found) in
    let holds = found_met me found good few in
    record {
      owes = tt;
      recalls = opened_recalls down.voter.logs.kept found (subst (λ (one : Voter _). Represents one.logs.kept (history_of found)) (sym same) keeps) (starts_of (history_of found)) met holds;
      ready = (λ i. store.is_spent ((same i).logs.records)) ∙ ready;
      holds = λ told. subst (λ (records : List (List ℕ)). HoldsMet records (starts_of (history_of found)) met) (sym ((λ i. store.list ((same i).logs.records)) ∙ list told)) holds;
      rows = rows met;
    }

-- a cluster that is served is of the format
pub of_format : (c : Cluster) → IsServed c → IsCluster c
of_format c served = record { nodes = served.few; cells = few_cells c.cells served.cells; limit = served.limit }
  where
    few_cells : (n : ℕ) → (n ≡ 1) ⊎ (n ≡ 3) ⊎ (n ≡ 5) → n ≤ 5
    few_cells n (inl is) = omega (arith, is)
    few_cells n (inr (inl is)) = omega (arith, is)
    few_cells n (inr (inr is)) = omega (arith, is)

-- it is told of the number that it has
pub at_number : {S : Type 0} (steps : StepsGhosts S) (makes : List ℕ → Option Meaning) (c : Cluster) (found : List (List ℕ)) (one : S) (start : ℕ) (notes : List Note) (m n : ℕ) → m ≡ n
    → HasStarted steps makes c m found one start notes → HasStarted steps makes c n found one start notes
at_number steps makes c found one start notes m n same started = subst (λ (me : ℕ). HasStarted steps makes c me found one start notes) same started

-- the lines of its start
pub start_shown : (s : Setting) (before : List JournalItem) (start : ℕ) (notes : List Note) → start ≡ starts_of before + 1
    → map notes_met notes ≡ start_notes s (Starts (starts_of before + 1) ∷ met_of s.me before) → (served_start s.cluster s.me s.handlers before).lines ≡ start_lines s.me start notes
start_shown s before start notes count noted = λ i. map Noted (Start (number s.me) (sym count i) ∷ flat_map (shown s.me) (sym noted i))

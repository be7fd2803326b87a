-- Calls of one node on the same devices as one run: of a node that goes on from all that it met, over all its starts.
use Rattle.std.specs.Prelude.{ℕ, ◌+◌, List, [], ◌∷◌, ◌++◌, flat_map, fold}
use Rattle.mega_cluster.specs.declared.cluster.Cluster.{Cluster}
use Rattle.mega_handler.specs.Named.{Meanings}
use Rattle.mega_wal.specs.declared.item.JournalItem.{JournalItem}
use Rattle.mega_wal.specs.declared.item.JournalItem.TheVariants.{Start as Started}
use Rattle.mega_wal.specs.History.{starts_of}
use Rattle.mega_rules.specs.Steps.{start, start_items}
use Rattle.mega_promises.specs.NodeRuns.{met_of}
use Rattle.mega_promises.specs.Records.{NodeCall}
use Rattle.mega_promises.specs.Runs.{setting}
use Rattle.mega_promises.specs.Served.{Line, Peer, Served, noted, turned}

-- before its first call a node met what its journal tells
abbrev pub found : ℕ → List JournalItem → Served
found me before = record { node = record { met = met_of me before; open_operations = []; stored = λ group. 0 }; lines = []; journal = before; waiting = [] }

-- its next start, over all that it met before, with the next number; clients that waited wait no more
abbrev pub starts_again : Cluster → ℕ → Meanings → Served → Served
starts_again c me first now = record {
  node = start (setting c first me) (starts_of now.journal + 1) [] (now.node).met;
  lines = now.lines ++ noted me (start_items (setting c first me) (starts_of now.journal + 1) [] (now.node).met);
  journal = Started ∷ now.journal;
  waiting = [];
}

-- its next call, under the cluster of its header
abbrev pub called : ℕ → Served → NodeCall → Served
called me now call = fold (turned call.cluster me call.wish) (starts_again call.cluster me call.first now) call.turns

abbrev pub all_called : ℕ → Served → List NodeCall → Served
all_called me now calls = fold (called me) now calls

-- what all calls wrote, what they put out, and the journal that the last one left
abbrev pub lines_of : List NodeCall → List Line
lines_of calls = flat_map (λ (call : NodeCall). call.lines) calls

abbrev pub sends_of : List NodeCall → List (Peer × List ℕ)
sends_of calls = flat_map (λ (call : NodeCall). call.sends) calls

abbrev pub left_by : List JournalItem → List NodeCall → List JournalItem
left_by before [] = before
left_by before (call ∷ calls) = left_by call.after calls

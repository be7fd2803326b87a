-- What the fuse of a node's log makes of a step, and of a start.
use Rattle.std.proofs.Common.{◌≡◌, ◌<◌, ◌+◌, ℕ, Bool, true, false, cond, List, [], ◌∷◌, length, refl, sym, ap, subst, ◌∙◌, arith}
use Rattle.mega_disk.specs.declared.records.Records.{Ghosts}
use Rattle.mega_disk.specs.Fuse.{Unset, after_append, is_short}
use Rattle.mega_wal.specs.declared.item.JournalItem.{JournalItem}
use Rattle.mega_wal.specs.declared.item.JournalItem.TheVariants.{Start}
use Rattle.mega_wal.specs.Records.{flushed}
use Rattle.mega_rules.specs.Clock.{start_of}
use Rattle.mega_rules.specs.Met.{Met, Crashes}
use Rattle.mega_rules.specs.Operations.{Node, Setting}
use Rattle.mega_rules.specs.Steps.{Event, onto, step}
use Rattle.mega_voter.specs.Holding.{HoldsIf, HoldsMet, starts_after}
use Rattle.mega_core.specs.of_node_laws.Acted.{own_item}
use Rattle.mega_core.specs.of_step_parts.Staging.{Stages}
use Rattle.mega_promises.specs.Runs.{AsItWas, Recorded, owes, replies_in}
use Rattle.mega_durable.specs.Cut.{HoldsCut, HoldsCutStart, IsBurnt, IsWhole}
use Rattle.mega_durable.proofs.AtStart.{least_start}
use Rattle.mega_durable.proofs.Going.{none_started}
use Rattle.mega_durable.proofs.Upheld.{cut_before}

pub whole_is : {R : Type 0} (store : Ghosts R) (appends : Bool) (staged : List JournalItem) (old new : R) → length (flushed staged) ≡ cond {A = ℕ} appends 1 0
    → (0 < length staged → store.fuse_left new ≡ after_append (store.fuse_left old)) → (0 < length staged → is_short (store.fuse_left old) ≡ false) → store.fuse_image new ≡ store.fuse_image old → (staged ≡ [] → new ≡ old)
    → IsWhole store appends old new
whole_is store true [] old new counted four enough image none = absurd (omega arith)
whole_is store true (item ∷ staged) old new counted four enough image none = record { long = enough (omega arith); fuse = four (omega arith); image = image }
whole_is store false [] old new counted four enough image none = record { long = refl; fuse = ap store.fuse_left (none refl); image = image }
whole_is store false (item ∷ staged) old new counted four enough image none = absurd (omega arith)

pub burnt_is : {R : Type 0} (store : Ghosts R) (appends : Bool) (staged : List JournalItem) (old new : R) → length (flushed staged) ≡ cond {A = ℕ} appends 1 0 → (staged ≡ [] → ⊥)
    → is_short (store.fuse_left old) ≡ true → store.fuse_left new ≡ Unset → IsBurnt store appends old new
burnt_is store appends [] old new counted some short gone = absurd (some refl)
burnt_is store true (item ∷ staged) old new counted some short gone = record { appending = refl; short = short; gone = gone }
burnt_is store false (item ∷ staged) old new counted some short gone = absurd (omega arith)

-- what the records hold then
pub cut_holds : (s : Setting) (node : Node) (event : Event) (staged : List JournalItem) (found : List (List ℕ)) (kept : Bool) → Stages staged node.met (step s node event).node.met
    → HoldsIf kept found staged (start_of node.met) node.met (onto (owes (step s node event) (replies_in s.cluster s.me node.met event)) (Crashes ∷ own_item s node event ∷ node.met))
    → HoldsCut s node event found (cond kept Recorded AsItWas)
cut_holds s node event staged found true stages holds =
    subst (λ (n : ℕ). HoldsMet found n (onto (owes (step s node event) (replies_in s.cluster s.me node.met event)) (Crashes ∷ own_item s node event ∷ node.met))) (none_started staged (start_of node.met) stages.plain) holds
cut_holds s node event staged found false stages holds = cut_before s node event found holds

pub cut_start_holds : (starts : ℕ) (met : List Met) (items : List JournalItem) (found : List (List ℕ)) (kept : Bool) → items ≡ Start ∷ [] → starts < 4294967295
    → HoldsIf kept found items starts met met → HoldsCutStart starts met found (cond kept Recorded AsItWas)
cut_start_holds starts met items found true one few holds =
    subst (λ (n : ℕ). HoldsMet found n met) (ap (λ (items : List JournalItem). starts_after items starts) one ∙ least_start starts few) holds
cut_start_holds starts met items found false one few holds = holds

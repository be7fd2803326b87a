-- What a node sends of its own accord asks: none of it is a reply.
use Rattle.std.proofs.Common.{◌≡◌, ℕ, ◌&&◌, Bool, true, false, cond, List, [], ◌∷◌, map, Option, Some, None, refl}
use Rattle.std.specs.List.{All}
use Rattle.std.proofs.lemmas.List.Elements.{All-cons, All-nil}
use Rattle.mega_base.specs.declared.names.Epoch.{Epoch}
use Rattle.mega_cluster.specs.declared.cluster.Cluster.{Cluster}
use Rattle.mega_coordinator.specs.History.{Call, Ticks as CoordinatorTicks, counted_cells, epoch_after, serving}
use Rattle.mega_wire.specs.declared.message.Message.{Message}
use Rattle.mega_run_laws.specs.of_tape_laws.of_promises.of_rules.Met.{Met}
use Rattle.mega_run_laws.specs.of_tape_laws.of_promises.of_rules.Members.{is_full}
use Rattle.mega_run_laws.specs.of_tape_laws.of_promises.of_rules.Clock.{does_again, start_of, ticks_of}
use Rattle.mega_run_laws.specs.of_tape_laws.of_promises.of_rules.Coordinators.{acquire_to, acquires, acquires_at, asked_cells, coordinator_calls}
use Rattle.mega_run_laws.specs.of_tape_laws.of_promises.of_rules.Operations.{Setting}
use Rattle.mega_lease_laws.specs.Questions.{Asks}
use Rattle.mega_node_laws.proofs.Acting.{MayAct, MayCover}

pub asks_act : (s : Setting) → MayAct Asks s
asks_act s = record {
  reads = λ id group. record { inquires = λ to. refl; fetches = λ position to. refl; proposes = λ asked position. record { accepts = λ ballot entry to. refl; prepares = λ ballot to. refl } };
  decides = λ d to. refl;
  fetches = λ met group to. refl;
}

pub asks_cover : (s : Setting) → MayCover Asks s
asks_cover s id group asked position = record { invalidates = λ to. refl; buries = λ node cell. refl }

-- what it asks the cells for is its present epoch, as a full node
pub record Acquires (c : Cluster) (me : ℕ) (met : List Met) (now : ℕ) (m : Message) : Type 0 where
  pub cell : ℕ
  pub epoch : Epoch
  pub is : m ≡ acquire_to me epoch now cell
  pub full : is_full c me ≡ true
  pub present : epoch_after (start_of met) c.cells (CoordinatorTicks now ∷ coordinator_calls c met) ≡ Some epoch

acquires_each : (c : Cluster) (me : ℕ) (met : List Met) (now : ℕ) (epoch : Epoch) → is_full c me ≡ true → epoch_after (start_of met) c.cells (CoordinatorTicks now ∷ coordinator_calls c met) ≡ Some epoch → (cells : List ℕ)
    → All (Acquires c me met now) (map (acquire_to me epoch now) cells)
acquires_each c me met now epoch full present [] = All-nil (Acquires c me met now)
acquires_each c me met now epoch full present (cell ∷ cells) =
    All-cons (Acquires c me met now) (acquire_to me epoch now cell) (map (acquire_to me epoch now) cells)
    (record { cell = cell; epoch = epoch; is = refl; full = full; present = present }) (acquires_each c me met now epoch full present cells)

pub acquires_are : (c : Cluster) (me : ℕ) (met : List Met) (now : ℕ) → All (Acquires c me met now) (acquires_at c me met now)
acquires_are c me met now = by (is_full c me) (does_again c.retry (ticks_of met) now) refl
  where
    calls : List Call
    calls = CoordinatorTicks now ∷ coordinator_calls c met

    of : (o : Option Epoch) → is_full c me ≡ true → epoch_after (start_of met) c.cells calls ≡ o → All (Acquires c me met now) (acquires c me calls (start_of met) now o)
    of None full is = All-nil (Acquires c me met now)
    of (Some epoch) full is = acquires_each c me met now epoch full is (asked_cells c (counted_cells (start_of met) c.cells calls) (serving (start_of met) c.cells calls))

    by : (t u : Bool) → is_full c me ≡ t → All (Acquires c me met now) (cond (t && u) (acquires c me calls (start_of met) now (epoch_after (start_of met) c.cells calls)) [])
    by true true full = of (epoch_after (start_of met) c.cells calls) full refl
    by true false full = All-nil (Acquires c me met now)
    by false u full = All-nil (Acquires c me met now)

-- What a start that one place makes leaves of all places.
use Rattle.std.specs.Prelude.{◌≡◌, ℕ, ◌+◌, List, ◌∷◌, map, Option, Some, None, true, false}
use Rattle.mega_cluster.specs.declared.cluster.Cluster.{Cluster}
use Rattle.mega_places.specs.of_handler.Named.{Meanings}
use Rattle.mega_places.specs.of_voter.of_rules.Met.{Starts}
use Rattle.mega_places.specs.of_voter.of_rules.Steps.{onto, start, start_items, start_notes}
use Rattle.mega_places.specs.of_durable.of_core.of_step_parts.Notes.{met_of}
use Rattle.mega_places.specs.of_promises.Runs.{Standing, cut_start, is_burning, left_by, set_at, setting, whole_start}
use Rattle.mega_places.specs.declared.place.Place.{Place}
use Rattle.mega_world.specs.declared.restarting.Shown.{Shown}
use Rattle.mega_places.specs.Kept.{AreNodes, owed_of}

-- there is a run whose nodes these are
pub record AreStartable (c : Cluster) (places : List Place) : Type 0 where
  pub now : Standing
  pub nodes : AreNodes c places now

abbrev pub started : Cluster → Meanings → Standing → ℕ → Standing
started c h now me =
    whole_start c now me (start_items (setting c h me) (now.starts me + 1) (now.owed me) (now.node me).met) (start (setting c h me) (now.starts me + 1) (now.owed me) (now.node me).met)

-- a start that is whole: it shows what it owed, and what it applied
pub record Opens (c : Cluster) (now : Standing) (me : ℕ) (places : List Place) (shown : Shown) : Type 0 where
  pub long : is_burning (now.log_fuse me) ≡ false
  pub number : shown.start ≡ now.starts me + 1
  pub owed : owed_of shown.owed ≡ now.owed me
  pub notes : (h : Meanings) → map met_of shown.notes ≡ start_notes (setting c h me) (onto (now.owed me) (Starts (now.starts me + 1) ∷ (now.node me).met))
  pub nodes : (h : Meanings) → AreNodes c places (started c h now me)

-- a start that is cut off
pub record StaysDown (c : Cluster) (now : Standing) (me : ℕ) (places : List Place) : Type 0 where
  pub burning : is_burning (now.log_fuse me) ≡ true
  pub nodes : AreNodes c places (cut_start now me (left_by (now.log_fuse me)) (set_at now.log_fuse me None) now.data_fuse)

abbrev pub OpensOr : Cluster → Standing → ℕ → List Place → Option Shown → Type 0
OpensOr c now me places None = StaysDown c now me places
OpensOr c now me places (Some shown) = Opens c now me places shown

-- so of each run whose nodes these were
abbrev pub Reopens : Cluster → ℕ → List Place → List Place → Option Shown → Type 0
Reopens c me old new shown = (now : Standing) → AreNodes c old now → OpensOr c now me new shown

-- A cluster of which so many nodes were started for the first time, in order: its tape, and what stands in their places.
use Rattle.std.specs.Prelude.{◌≡◌, ℕ, zero, suc, ◌+◌, List, [], ◌∷◌, slice_get, Some, None}
use Rattle.mega_cluster.specs.declared.cluster.Cluster.{Cluster}
use Rattle.mega_places.specs.of_handler.Named.{Meanings}
use Rattle.mega_places.specs.of_promises.of_transcript.declared.item.Item.{Item}
use Rattle.mega_places.specs.of_promises.of_transcript.declared.item.Item.TheVariants.{Start}
use Rattle.mega_places.specs.of_voter.of_rules.Steps.{start}
use Rattle.mega_places.specs.of_promises.Items.{number}
use Rattle.mega_places.specs.of_promises.Runs.{setting}
use Rattle.mega_places.specs.declared.member.Member.{Member}
use Rattle.mega_places.specs.declared.place.Place.{Place}
use Rattle.mega_places.specs.declared.place.Place.TheVariants.{Up, Down}
use Rattle.mega_places.specs.LogFuses.{IsFused}
use Rattle.mega_places.specs.Members.{IsMember, records_of}

abbrev pub first_starts : ℕ → List Item
first_starts zero = []
first_starts (suc count) = Start (number (suc count)) 1 ∷ first_starts count

-- a node that is up, started once, and met nothing yet; no fuse is set on its log
pub record IsFirst (c : Cluster) (h : Meanings) (me : ℕ) (member : Member) : Type 0 where
  pub is : IsMember c me member (start (setting c h me) 1 [] [])
  pub fused : IsFused member.fuse (records_of member) None

abbrev pub IsStarted : Cluster → ℕ → Place → Type 0
IsStarted c me (Up member) = (h : Meanings) → IsFirst c h me member
IsStarted c me (Down fallen) = ⊥

-- all of these are so
pub record AreStarted (c : Cluster) (places : List Place) : Type 0 where
  pub each : (i : ℕ) (place : Place) → slice_get places i ≡ Some place → IsStarted c (i + 1) place

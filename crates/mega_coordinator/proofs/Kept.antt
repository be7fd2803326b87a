-- What is kept of each group, after one group is invalidated or validated.
use Rattle.std.proofs.Common.{◌≡◌, ℕ, Bool, true, false, ◌&&◌, cond, max, List, ◌∷◌, refl, sym, ap, ◌∙◌}
use Rattle.std.specs.Prelude.{Option, None, is_none}
use Rattle.std.specs.Ordering.{is_eq}
use Rattle.std.specs.declared.cmp.Ordering.{Ordering}
use Rattle.std.specs.declared.cmp.Ordering.TheVariants.{Less, Equal, Greater}
use Rattle.std.specs.BTreeMap.{BTreeMap}
use Rattle.std.proofs.lemmas.Map.Lookups.{exact_bytes}
use Rattle.mega_base.specs.declared.names.Epoch.{Epoch}
use Rattle.mega_base.specs.declared.names.GroupId.{GroupId}
use Rattle.mega_coordinator.specs.declared.answers.NotValid.{NotValid}
use Rattle.mega_coordinator.specs.declared.standing.Standing.{Standing}
use Rattle.mega_coordinator.specs.declared.lease.Lease.{Lease}
use Rattle.mega_coordinator.specs.Lease.{state_of}
use Rattle.mega_coordinator.specs.Groups.{group_cmp, is_group, refusal}
use Rattle.mega_coordinator.specs.History.{Call, Invalidates, Validates, beaten, is_valid, kept, lease_of, refused, standing_of}

equal_order : (o : Ordering) → is_eq o ≡ true → o ≡ Equal
equal_order Less e = cc
equal_order Equal e = refl
equal_order Greater e = cc

-- the test on groups tells them apart
pub same_group : (g h : GroupId) → is_group g h ≡ true → g ≡ h
same_group g h e = λ i. record { key = exact_bytes g.key h.key (equal_order (group_cmp g h) e) i }

-- what is kept of one group becomes this, and of the others it stays
abbrev pub Puts : BTreeMap GroupId Standing → BTreeMap GroupId Standing → GroupId → Standing → Type 0
Puts old new group standing = (other : GroupId) → standing_of new other ≡ cond (is_group group other) standing (standing_of old other)

module _ (start cells : ℕ) (calls : List Call) (old new : BTreeMap GroupId Standing) (keeps : (group : GroupId) → standing_of old group ≡ kept start cells calls group) (group : GroupId) (was : Standing) (reads : was ≡ standing_of old group) where
  -- what was kept of the group is what is kept of another that is the same
  beaten_is : (other : GroupId) → is_group group other ≡ true → was.beaten.0 ≡ beaten start cells calls other
  beaten_is other e = ap (λ (s : Standing). s.beaten.0) (reads ∙ keeps group) ∙ ap (beaten start cells calls) (same_group group other e)

  pub invalidated : (n most : ℕ) → most ≡ max n was.beaten.0 → Puts old new group (record { beaten = record { 0 = most }; valid = false }) → (other : GroupId) → standing_of new other ≡ kept start cells (Invalidates group n ∷ calls) other
  invalidated n most is puts other = puts other ∙ by_test (is_group group other) refl
    where
      by_test : (test : Bool) → is_group group other ≡ test
          → cond test (record { beaten = record { 0 = most }; valid = false }) (standing_of old other)
          ≡ record { beaten = record { 0 = cond test (max n (beaten start cells calls other)) (beaten start cells calls other) }; valid = cond test false (is_valid start cells calls other) }
      by_test true e = λ i. record { beaten = record { 0 = (is ∙ ap (λ b. max n b) (beaten_is other e)) i }; valid = false }
      by_test false e = keeps other

  pub validated : (p : ℕ) (begun : Epoch) → refused start cells calls group p begun ≡ None → Puts old new group (record { beaten = was.beaten; valid = true }) → (other : GroupId) → standing_of new other ≡ kept start cells (Validates group p begun ∷ calls) other
  validated p begun lawful puts other = puts other ∙ by_test (is_group group other) refl
    where
      by_test : (test : Bool) → is_group group other ≡ test
          → cond test (record { beaten = was.beaten; valid = true }) (standing_of old other)
          ≡ record { beaten = record { 0 = beaten start cells calls other }; valid = cond (test && is_none (refused start cells calls group p begun)) true (is_valid start cells calls other) }
      by_test true e = (λ i. record { beaten = record { 0 = beaten_is other e i }; valid = true })
          ∙ ap (λ (r : Option NotValid). record { beaten = record { 0 = beaten start cells calls other }; valid = cond (is_none r) true (is_valid start cells calls other) }) (sym lawful)
      by_test false e = keeps other

-- what nothing refuses by the fields, nothing refuses by the calls
pub nothing_refuses : (start cells : ℕ) (calls : List Call) (group : GroupId) (own : ℕ) (lease : Lease) (standing : Standing) (p : ℕ) (begun : Epoch)
    → own ≡ start → lease ≡ lease_of start cells calls → standing ≡ kept start cells calls group
    → None ≡ refusal (state_of own lease) standing.beaten.0 p begun → refused start cells calls group p begun ≡ None
nothing_refuses start cells calls group own lease standing p begun own_is lease_is standing_is open_to =
    sym (open_to ∙ (λ i. refusal (state_of (own_is i) (lease_is i)) (standing_is i).beaten.0 p begun))

-- What a coordinator notes is what it then holds: its epoch that serves, and its valid groups.
use Rattle.std.proofs.Common.{◌≡◌, ℕ, ◌==◌, ◌&&◌, ◌||◌, nat_lt, Bool, true, false, not, cond, List, [], ◌∷◌, ◌++◌, map, Option, Some, None, is_none, refl, sym, ap, ◌∙◌}
use Rattle.std.specs.Option.{option_map_or}
use Rattle.std.specs.Prelude.{option_map}
use Rattle.std.proofs.lemmas.Bool.{and_parts, and_from}
use Rattle.mega_base.specs.declared.names.Epoch.{Epoch}
use Rattle.mega_base.specs.declared.names.GroupId.{GroupId}
use Rattle.mega_coordinator.specs.declared.answers.Counted.{Counted}
use Rattle.mega_coordinator.specs.declared.answers.Counted.TheVariants.{No, Yes, Serving}
use Rattle.mega_coordinator.specs.declared.answers.NotValid.TheVariants.{Beaten, OtherEpoch}
use Rattle.mega_coordinator.specs.declared.lease.Lease.{Lease}
use Rattle.mega_coordinator.specs.Groups.{is_group, is_same, refusal}
use Rattle.mega_coordinator.specs.Lease.{after_grant, counts, epoch_of, granted_answer, is_majority, is_present, left, next_lease, past_ends, state_of, tick_ends, until_with}
use Rattle.mega_coordinator.specs.History.{Call, Ticks as CoordinatorTicks, Grants as Grant, Passes, Invalidates as Invalid, beaten, is_valid, lease_of, refused, serving, ticked}
use Rattle.mega_coordinator.proofs.Validity.{validated_above}
use Rattle.mega_wal.specs.Same.{same_group}
use Rattle.mega_wal.proofs.Orders.{is_group_is}
use Rattle.mega_settled_laws.specs.of_tape_laws.of_promises.of_rules.Met.{Met, Counts, Serves, Validates, Invalidates}
use Rattle.mega_settled_laws.specs.of_tape_laws.of_promises.of_rules.Coordinators.{counts_notes, lost_note, validated}
use Rattle.mega_settled_laws.proofs.of_tape_laws.Ballots.{number_is, number_self}
use Rattle.mega_valid_laws.specs.Showing.{next_valid}
use Rattle.mega_valid_laws.proofs.Folds.{after_serving, after_valid}

-- what is noted of the epoch that serves and of each group is what these calls leave
pub record Agrees (start cells : ℕ) (calls : List Call) (served : Option Epoch) (valid : GroupId → Bool) : Type 0 where
  pub serves : served ≡ serving start cells calls
  pub groups : (group : GroupId) → valid group ≡ is_valid start cells calls group

-- a group that is valid serves
none_valid : (start cells : ℕ) (calls : List Call) (group : GroupId) → serving start cells calls ≡ None → is_valid start cells calls group ≡ false
none_valid start cells calls group none = by (is_valid start cells calls group) refl
  where
    by : (t : Bool) → is_valid start cells calls group ≡ t → t ≡ false
    by true e = absurd (let some = sym none ∙ (validated_above start cells calls group e).serves in cc)
    by false e = refl

left_of : (a b : Bool) → (a && b) ≡ true → a ≡ true
left_of true b h = refl
left_of false b h = h

-- the epoch that a grant counts for is the present one
pub present_is : (start : ℕ) (lease : Lease) (e : Epoch) → is_present start lease e ≡ true → epoch_of start lease ≡ Some e
present_is start lease e h = by lease.count h
  where
    by : (o : Option ℕ) → option_map_or (λ count. e.start == start && e.count == count) o false ≡ true → option_map (λ count. record { start = start; count = count }) o ≡ Some e
    by None h = cc
    by (Some count) h = let parts = and_parts (e.start == start) (e.count == count) h in λ i. Some (record { start = sym (number_is e.start start parts.0) i; count = sym (number_is e.count count parts.1) i })

-- ---- a grant

module _ (start cells : ℕ) (calls : List Call) (served : Option Epoch) (valid : GroupId → Bool) (a : Agrees start cells calls served valid) where
  counted_serving : (cell : ℕ) (epoch : Epoch) (was : Bool) (more : List Met) (x : Option Epoch) → after_serving (cond was [] (Counts cell epoch ∷ []) ++ more) x ≡ after_serving more x
  counted_serving cell epoch true more x = refl
  counted_serving cell epoch false more x = refl

  counted_valid : (group : GroupId) (cell : ℕ) (epoch : Epoch) (was : Bool) (more : List Met) (x : Bool) → after_valid group (cond was [] (Counts cell epoch ∷ []) ++ more) x ≡ after_valid group more x
  counted_valid group cell epoch true more x = refl
  counted_valid group cell epoch false more x = refl

  yes_serving : (cell : ℕ) (epoch : Epoch) (was : Bool) (x : Option Epoch) → after_serving (cond was [] (Counts cell epoch ∷ [])) x ≡ x
  yes_serving cell epoch true x = refl
  yes_serving cell epoch false x = refl

  yes_valid : (group : GroupId) (cell : ℕ) (epoch : Epoch) (was : Bool) (x : Bool) → after_valid group (cond was [] (Counts cell epoch ∷ [])) x ≡ x
  yes_valid group cell epoch true x = refl
  yes_valid group cell epoch false x = refl

  pub grant_agrees : (cell : ℕ) (epoch : Epoch) (until now : ℕ) (was : Bool)
      → Agrees start cells (Grant cell epoch until now ∷ calls) (after_serving (counts_notes cell epoch was (granted_answer start cells (lease_of start cells calls) cell epoch until now)) served)
      (λ group. after_valid group (counts_notes cell epoch was (granted_answer start cells (lease_of start cells calls) cell epoch until now)) (valid group))
  grant_agrees cell epoch until now was = record { serves = serves_by (counts start cells lease cell epoch until now) refl; groups = groups_by (counts start cells lease cell epoch until now) }
    where
      lease : Lease
      lease = lease_of start cells calls

      answer : Bool → Bool → Bool → Counted
      answer t serves most = cond t (cond (not serves && most) Serving Yes) No

      counting : (serves most : Bool) → lease.serves ≡ serves → is_present start lease epoch ≡ true
          → after_serving (counts_notes cell epoch was (answer true serves most)) served ≡ cond (serves || most) (epoch_of start lease) None
      counting true most e present = yes_serving cell epoch was served ∙ a.serves ∙ ap (λ t. cond t (epoch_of start lease) None) e
      counting false true e present = counted_serving cell epoch was (Serves epoch ∷ []) served ∙ sym (present_is start lease epoch present)
      counting false false e present = yes_serving cell epoch was served ∙ a.serves ∙ ap (λ t. cond t (epoch_of start lease) None) e

      serves_by : (t : Bool) → counts start cells lease cell epoch until now ≡ t
          → after_serving (counts_notes cell epoch was (answer t lease.serves (is_majority cells (until_with lease cell until)))) served ≡ state_of start (cond t (after_grant cells lease cell until) lease)
      serves_by true e = counting lease.serves (is_majority cells (until_with lease cell until)) refl (left_of (is_present start lease epoch) _ (left_of _ _ (left_of _ _ (left_of _ _ e))))
      serves_by false e = a.serves

      groups_of : (serves most : Bool) (group : GroupId) → after_valid group (counts_notes cell epoch was (answer true serves most)) (valid group) ≡ is_valid start cells calls group
      groups_of true most group = yes_valid group cell epoch was (valid group) ∙ a.groups group
      groups_of false true group = counted_valid group cell epoch was (Serves epoch ∷ []) (valid group) ∙ a.groups group
      groups_of false false group = yes_valid group cell epoch was (valid group) ∙ a.groups group

      groups_by : (t : Bool) (group : GroupId) → after_valid group (counts_notes cell epoch was (answer t lease.serves (is_majority cells (until_with lease cell until)))) (valid group) ≡ is_valid start cells calls group
      groups_by true group = groups_of lease.serves (is_majority cells (until_with lease cell until)) group
      groups_by false group = a.groups group

  -- ---- a past

  pub pass_agrees : (epoch : Epoch) → Agrees start cells (Passes epoch ∷ calls) served valid
  pass_agrees epoch = record { serves = serves_by (past_ends start lease epoch) refl; groups = λ group. groups_by (past_ends start lease epoch) refl group }
    where
      lease : Lease
      lease = lease_of start cells calls

      idle : past_ends start lease epoch ≡ true → serving start cells calls ≡ None
      idle e = by lease.serves (and_parts (is_present start lease epoch) (not lease.serves) e).1
        where
          by : (t : Bool) → not t ≡ true → cond t (epoch_of start lease) None ≡ None
          by true h = cc
          by false h = refl

      serves_by : (t : Bool) → past_ends start lease epoch ≡ t → served ≡ state_of start (cond t (next_lease lease) lease)
      serves_by true e = a.serves ∙ idle e
      serves_by false e = a.serves

      groups_by : (t : Bool) → past_ends start lease epoch ≡ t → (group : GroupId) → valid group ≡ cond t false (is_valid start cells calls group)
      groups_by true e group = a.groups group ∙ none_valid start cells calls group (idle e)
      groups_by false e group = a.groups group

  -- ---- an invalidation and a validate

  pub invalid_agrees : (group : GroupId) (n : ℕ) → Agrees start cells (Invalid group n ∷ calls) served (λ other. next_valid other (Invalidates group n) (valid other))
  invalid_agrees group n = record {
    serves = a.serves;
    groups = λ other. (λ i. cond (sym (is_group_is group other) i) false (a.groups other i));
  }

  refused_now : (group : GroupId) (p : ℕ) (noted : Epoch) (now : Option Epoch) → refusal now (beaten start cells calls group) p noted ≡ None
      → (e : Epoch) × (now ≡ Some e) × (nat_lt p (beaten start cells calls group) ≡ false)
  refused_now group p noted None h = cc
  refused_now group p noted (Some e) h = by (is_same e noted) (nat_lt p (beaten start cells calls group)) refl h
    where
      by : (t u : Bool) → nat_lt p (beaten start cells calls group) ≡ u → cond t (cond u (Some (Beaten (record { 0 = beaten start cells calls group }))) None) (Some (OtherEpoch e)) ≡ None → (x : Epoch) × (Some e ≡ Some x) × (nat_lt p (beaten start cells calls group) ≡ false)
      by true false k h = (e, refl, k)
      by true true k h = cc
      by false u k h = cc

  same_self : (e : Epoch) → is_same e e ≡ true
  same_self e = and_from (e.start == e.start) (e.count == e.count) (number_self e.start) (number_self e.count)

  pub valid_agrees : (group : GroupId) (p : ℕ) (noted : Epoch) → refused start cells calls group p noted ≡ None
      → Agrees start cells (validated group p (serving start cells calls) ++ calls) served (λ other. next_valid other (Validates group p) (valid other))
  valid_agrees group p noted none = by (serving start cells calls) refl (refused_now group p noted (serving start cells calls) none)
    where
      lawful : (e : Epoch) → serving start cells calls ≡ Some e → nat_lt p (beaten start cells calls group) ≡ false → refused start cells calls group p e ≡ None
      lawful e is above = ap (λ now. refusal now (beaten start cells calls group) p e) is ∙ ap (λ t. cond t (cond (nat_lt p (beaten start cells calls group)) (Some (Beaten (record { 0 = beaten start cells calls group }))) None) (Some (OtherEpoch e))) (same_self e)
          ∙ ap (λ t. cond t (Some (Beaten (record { 0 = beaten start cells calls group }))) None) above

      by : (now : Option Epoch) → serving start cells calls ≡ now → (e : Epoch) × (now ≡ Some e) × (nat_lt p (beaten start cells calls group) ≡ false)
          → Agrees start cells (validated group p now ++ calls) served (λ other. next_valid other (Validates group p) (valid other))
      by None is found = absurd (let some = found.1 in cc)
      by (Some e) is found = record { serves = a.serves; groups = groups_by }
        where
          groups_by : (other : GroupId) → cond (same_group group other) true (valid other) ≡ cond (is_group group other && is_none (refused start cells calls group p e)) true (is_valid start cells calls other)
          groups_by other = (λ i. cond (sym (is_group_is group other) i) true (a.groups other i))
              ∙ ap (λ t. cond t true (is_valid start cells calls other)) (with_true (is_group group other) ∙ ap (λ r. is_group group other && is_none r) (sym (lawful e is found.2)))
            where
              with_true : (t : Bool) → t ≡ (t && true)
              with_true true = refl
              with_true false = refl

  -- ---- a tick

  pub tick_agrees : (now : ℕ) → Agrees start cells (CoordinatorTicks now ∷ calls) (after_serving (lost_note (ticked start cells calls now).lost) served) (λ group. after_valid group (lost_note (ticked start cells calls now).lost) (valid group))
  tick_agrees now = record { serves = serves_by (tick_ends cells lease now); groups = groups_by (tick_ends cells lease now) }
    where
      lease : Lease
      lease = lease_of start cells calls

      lost : (o : Option Epoch) → served ≡ o → after_serving (lost_note o) served ≡ None
      lost None e = e
      lost (Some epoch) e = refl

      serves_by : (t : Bool) → after_serving (lost_note (cond t (state_of start lease) None)) served ≡ state_of start (cond t (next_lease lease) (record { count = lease.count; serves = lease.serves; until = map (left now) lease.until }))
      serves_by true = lost (state_of start lease) a.serves
      serves_by false = a.serves

      ended : (o : Option Epoch) → serving start cells calls ≡ o → (group : GroupId) → after_valid group (lost_note o) (valid group) ≡ false
      ended None e group = a.groups group ∙ none_valid start cells calls group e
      ended (Some epoch) e group = refl

      groups_by : (t : Bool) (group : GroupId) → after_valid group (lost_note (cond t (state_of start lease) None)) (valid group) ≡ cond t false (is_valid start cells calls group)
      groups_by true group = ended (state_of start lease) refl group
      groups_by false group = a.groups group

-- An operation that is to propose reads alone in a calm cluster: what is around it, and what it waits for.
use Rattle.std.proofs.Common.{◌≡◌, ◌⊎◌, inl, inr, ℕ, zero, suc, ◌+◌, ◌==◌, ◌&&◌, ◌≤◌, ◌<◌, max, Bool, true, false, cond, List, [], ◌∷◌, length, slice_get, Option, Some, None, is_none, refl, sym, ap, ◌∙◌, subst, arith}
use Rattle.std.proofs.lemmas.Option.{same_Some}
use Rattle.mega_base.specs.declared.names.GroupId.{GroupId}
use Rattle.mega_cluster.specs.declared.cluster.Cluster.{Cluster}
use Rattle.mega_entry.specs.declared.content.Content.{Content}
use Rattle.mega_wire.specs.declared.message.Message.{Message}
use Rattle.mega_wal.specs.Same.{same_group}
use Rattle.mega_leased_laws.specs.of_run_laws.of_tape_laws.of_promises.of_rules.of_read.of_propose.Members.{has, is_majority}
use Rattle.mega_leased_laws.specs.of_run_laws.of_tape_laws.of_promises.of_rules.of_read.declared.reading.Search.TheVariants.{Fetching, Filling}
use Rattle.mega_leased_laws.specs.of_run_laws.of_tape_laws.of_promises.of_rules.of_read.declared.reading.Stage.{Stage}
use Rattle.mega_leased_laws.specs.of_run_laws.of_tape_laws.of_promises.of_rules.of_read.declared.reading.Stage.TheVariants.{Polling, Catching}
use Rattle.mega_leased_laws.specs.of_run_laws.of_tape_laws.of_promises.of_transcript.declared.item.Item.{Item}
use Rattle.mega_leased_laws.specs.of_run_laws.of_tape_laws.of_promises.of_rules.Clock.{is_up}
use Rattle.mega_leased_laws.specs.of_run_laws.of_tape_laws.of_promises.of_rules.Logs.{decided, decided_from, first_of, then_more, top_of}
use Rattle.mega_leased_laws.specs.of_run_laws.of_tape_laws.of_promises.of_rules.Members.{is_node, is_voter, voters}
use Rattle.mega_leased_laws.specs.of_run_laws.of_tape_laws.of_promises.of_rules.Met.{Met, Takes, Validates}
use Rattle.mega_leased_laws.specs.of_run_laws.of_tape_laws.of_promises.of_rules.Operations.{Node}
use Rattle.mega_leased_laws.specs.of_run_laws.of_tape_laws.of_promises.of_rules.Steps.{Decision, decision_note, if_new, onto}
use Rattle.mega_leased_laws.specs.of_run_laws.of_tape_laws.of_promises.of_rules.Voting.{acts as acts_met}
use Rattle.mega_leased_laws.specs.of_run_laws.of_tape_laws.of_promises.Runs.{set_at}
use Rattle.mega_calm_laws.specs.Waiting.{IsAwaited}
use Rattle.mega_calm_laws.proofs.Alone.{Held, TopAwaited, fetch_at, have_from, have_not_from, top_from, where_to}
use Rattle.mega_calm_laws.proofs.Mail.{apart_below, number_is}
use Rattle.mega_calm_laws.proofs.Majorities.{IsDistinct}
use Rattle.mega_calm_laws.proofs.Turning.{Leaves}

-- ---- what a node met, and the log

slice_below : (log : List Content) (i : ℕ) (e : Content) → slice_get log i ≡ Some e → i < length log
slice_below [] i e h = cc
slice_below (x ∷ log) zero e h = omega arith
slice_below (x ∷ log) (suc i) e h = let less = slice_below log i e h in omega (arith, less)

pub slice_there : (log : List Content) (i : ℕ) → i < length log → (e : Content) × (slice_get log i ≡ Some e)
slice_there [] i less = absurd (omega (arith, less))
slice_there (x ∷ log) zero less = (x, refl)
slice_there (x ∷ log) (suc i) less = slice_there log i (omega (arith, less))

-- each position of what is decided from one on is decided
pub decided_there : (met : List Met) (g : GroupId) (most k i : ℕ) → i < length (decided_from met g most k) → (e : Content) × (decided met g (k + i) ≡ Some e)
decided_there met g zero k i less = absurd (omega (arith, less))
decided_there met g (suc most) k i less = go (decided met g k) refl less i less (decided_there met g most (k + 1))
  where
    here : k ≡ k + 0
    here = omega arith

    next : (j : ℕ) → (k + 1) + j ≡ k + suc j
    next j = omega arith

    go : (o : Option Content) → decided met g k ≡ o → i < length (then_more (decided met g k) (decided_from met g most (k + 1))) → (j : ℕ) → j < length (then_more (decided met g k) (decided_from met g most (k + 1)))
        → ((x : ℕ) → x < length (decided_from met g most (k + 1)) → (e : Content) × (decided met g ((k + 1) + x) ≡ Some e)) → (e : Content) × (decided met g (k + j) ≡ Some e)
    go None is first j below again = absurd (let none = subst (λ o. j < length (then_more o (decided_from met g most (k + 1)))) is below in omega (arith, none))
    go (Some e) is first zero below again = (e, subst (λ a. decided met g a ≡ Some e) here is)
    go (Some e) is first (suc j) below again = let r = again j (let some = subst (λ o. suc j < length (then_more o (decided_from met g most (k + 1)))) is below in omega (arith, some)) in (r.0, subst (λ a. decided met g a ≡ Some r.0) (next j) r.1)

-- a validate leaves the log as long
pub as_long : (met : List Met) (g group : GroupId) (p most k : ℕ) → length (decided_from met g most k) ≤ length (decided_from (Validates group p ∷ met) g (suc most) k)
as_long met g group p zero k = omega arith
as_long met g group p (suc most) k = go (decided met g k) (as_long met g group p most (k + 1))
  where
    go : (o : Option Content) → length (decided_from met g most (k + 1)) ≤ length (decided_from (Validates group p ∷ met) g (suc most) (k + 1))
        → length (then_more o (decided_from met g most (k + 1))) ≤ length (then_more o (decided_from (Validates group p ∷ met) g (suc most) (k + 1)))
    go None le = omega arith
    go (Some e) le = omega (arith, le)

module _ (g : GroupId) (log : List Content) where
  abbrev pub behind : ℕ
  behind = length log + 1

  abbrev pub Agreed : List Met → Type 0
  Agreed met = (i : ℕ) (e : Content) → decided met g (i + 1) ≡ Some e → slice_get log i ≡ Some e

  -- a node that met more, of which nothing comes that is not in the log
  pub record Grown (old new : List Met) : Type 0 where
    pub more : (k : ℕ) (e : Content) → decided old g k ≡ Some e → decided new g k ≡ Some e
    pub agreed : Agreed old → Agreed new
    pub within : top_of old g ≤ length log → top_of new g ≤ length log
    pub floor : length log ≤ top_of old g → length log ≤ top_of new g
    pub undecided : decided old g behind ≡ None → decided new g behind ≡ None
    pub acts : acts_met new g behind ≡ acts_met old g behind
    pub up : is_up new ≡ is_up old

  pub grown_leaves : (old base new : List Met) → Grown old base → Leaves g behind base new → Grown old new
  grown_leaves old base new a l = record {
    more = λ k e d. (l.logs).decided g k ∙ a.more k e d;
    agreed = λ f i e d. a.agreed f i e (sym ((l.logs).decided g (i + 1)) ∙ d);
    within = λ le. subst (λ t. t ≤ length log) (sym ((l.logs).top g)) (a.within le);
    floor = λ le. subst (λ t. length log ≤ t) (sym ((l.logs).top g)) (a.floor le);
    undecided = λ none. (l.logs).decided g behind ∙ a.undecided none;
    acts = l.acts ∙ a.acts;
    up = (l.logs).up ∙ a.up;
  }

  pub grown_takes : (met : List Met) (m : Message) → Grown met (Takes m ∷ met)
  grown_takes met m = record { more = λ k e d. d; agreed = λ f. f; within = λ le. le; floor = λ le. le; undecided = λ none. none; acts = refl; up = refl }

  pub grown_decision : (met : List Met) (m : Message) (i : ℕ) (e : Content) → slice_get log i ≡ Some e
      → Grown met (onto (decision_note (if_new met (Some (record { group = g; position = i + 1; entry = e })))) (Takes m ∷ met))
  grown_decision met m i e there = by (is_none (decided met g (i + 1)))
    where
      below : i < length log
      below = slice_below log i e there

      kept : (t : Bool) (k : ℕ) (x : Content) → decided met g k ≡ Some x → cond t (first_of (decided met g k) e) (decided met g k) ≡ Some x
      kept true k x d = ap (λ o. first_of o e) d
      kept false k x d = d

      first : (o : Option Content) (x : Content) → first_of o e ≡ Some x → (o ≡ Some x) ⊎ (e ≡ x)
      first None x d = inr (same_Some e x d)
      first (Some y) x d = inl d

      same_group_is : (t : Bool) → cond t (max (i + 1) (top_of met g)) (top_of met g) ≤ max (i + 1) (top_of met g)
      same_group_is true = omega arith
      same_group_is false = omega arith

      no_less : (t : Bool) → top_of met g ≤ cond t (max (i + 1) (top_of met g)) (top_of met g)
      no_less true = omega arith
      no_less false = omega arith

      agrees : Agreed met → (j : ℕ) (x : Content) (s t : Bool) → (i + 1 == j + 1) ≡ t → cond (s && t) (first_of (decided met g (j + 1)) e) (decided met g (j + 1)) ≡ Some x → slice_get log j ≡ Some x
      agrees f j x true true same d = elim (first (decided met g (j + 1)) x d) [
        | inl old ↦ f j x old
        | inr is ↦ subst (λ y. slice_get log j ≡ Some y) is (subst (λ a. slice_get log a ≡ Some e) (let one = number_is (i + 1) (j + 1) same in let is_so : i ≡ j = omega (arith, one) in is_so) there)
      ]
      agrees f j x true false same d = f j x d
      agrees f j x false t same d = f j x d

      apart : (t : Bool) → cond (t && false) (first_of (decided met g behind) e) (decided met g behind) ≡ decided met g behind
      apart true = refl
      apart false = refl

      by : (t : Bool) → Grown met (onto (decision_note (cond {A = Option Decision} t (Some (record { group = g; position = i + 1; entry = e })) None)) (Takes m ∷ met))
      by false = grown_takes met m
      by true = record {
        more = λ k x d. kept (same_group g g && i + 1 == k) k x d;
        agreed = λ f j x d. agrees f j x (same_group g g) (i + 1 == j + 1) refl d;
        within = λ le. let most = same_group_is (same_group g g) in omega (arith, le, most, below);
        floor = λ le. let least = no_less (same_group g g) in omega (arith, le, least);
        undecided = λ none. ap (λ t. cond (same_group g g && t) (first_of (decided met g behind) e) (decided met g behind)) (apart_below (i + 1) behind (omega (arith, below))) ∙ (apart (same_group g g) ∙ none);
        acts = refl;
        up = refl;
      }

-- ---- the nodes

module _ (c : Cluster) (me start nth : ℕ) (g : GroupId) (log : List Content) where
  pub record NodesOn (old new : ℕ → Node) : Type 0 where
    pub grown : (u : ℕ) → Grown g log (old u).met (new u).met
    pub same : (u k : ℕ) → (u == me) ≡ false → decided (new u).met g k ≡ decided (old u).met g k

  pub nodes_set : (old : ℕ → Node) (v : ℕ) (node : Node) → Grown g log (old v).met node.met → ((v == me) ≡ false → (k : ℕ) → decided node.met g k ≡ decided (old v).met g k) → NodesOn old (set_at old v node)
  nodes_set old v node grew same = record { grown = λ u. grown_at u (v == u) refl; same = λ u k apart. same_at u k apart (v == u) refl }
    where
      stays_same : (met : List Met) → Grown g log met met
      stays_same met = record { more = λ k e d. d; agreed = λ f. f; within = λ le. le; floor = λ le. le; undecided = λ none. none; acts = refl; up = refl }

      grown_at : (u : ℕ) (t : Bool) → (v == u) ≡ t → Grown g log (old u).met (cond t node (old u)).met
      grown_at u true is = subst (λ x. Grown g log (old x).met node.met) (number_is v u is) grew
      grown_at u false is = stays_same (old u).met

      same_at : (u k : ℕ) → (u == me) ≡ false → (t : Bool) → (v == u) ≡ t → decided (cond t node (old u)).met g k ≡ decided (old u).met g k
      same_at u k apart true is = same (ap (λ x. x == me) (number_is v u is) ∙ apart) k ∙ ap (λ x. decided (old x).met g k) (number_is v u is)
      same_at u k apart false is = refl

  -- the log is held by voters, who know nothing else; and nothing was made behind it
  pub record Grounds (fresh : ℕ → Bool) (nodes : ℕ → Node) : Type 0 where
    pub held : (i : ℕ) → i < length log → Held c me start nth g nodes (i + 1)
    pub agreed : (v : ℕ) → is_voter c v ≡ true → Agreed g log (nodes v).met
    pub within : (v : ℕ) → is_voter c v ≡ true → top_of (nodes v).met g ≤ length log
    pub floor : (v : ℕ) → is_voter c v ≡ true → fresh v ≡ true → length log ≤ top_of (nodes v).met g
    pub unmade : (v : ℕ) → is_voter c v ≡ true → acts_met (nodes v).met g (behind g log) ≡ []
    pub undecided : (v : ℕ) → is_node c v ≡ true → decided (nodes v).met g (behind g log) ≡ None

  pub grounds_on : (fresh : ℕ → Bool) (old new : ℕ → Node) → NodesOn old new → Grounds fresh old → Grounds fresh new
  grounds_on fresh old new on a = record {
    held = λ i less. let one = a.held i less in record { voter = one.voter; member = one.member; entry = one.entry; is = (on.grown one.voter).more (i + 1) one.entry one.is };
    agreed = λ v voter. (on.grown v).agreed (a.agreed v voter);
    within = λ v voter. (on.grown v).within (a.within v voter);
    floor = λ v voter is_fresh. (on.grown v).floor (a.floor v voter is_fresh);
    unmade = λ v voter. (on.grown v).acts ∙ a.unmade v voter;
    undecided = λ v node. (on.grown v).undecided (a.undecided v node);
  }

  -- ---- messages that wait

  pub data Fits (fresh : ℕ → Bool) (nodes : ℕ → Node) (m : Message) : Type 0 where
    asks_where : (v : ℕ) → is_voter c v ≡ true → m ≡ where_to c me start nth g v → Fits fresh nodes m
    tells_top : (v p : ℕ) → is_voter c v ≡ true → p ≤ length log → (fresh v ≡ true → length log ≤ p) → m ≡ top_from c me start nth g v p → Fits fresh nodes m
    asks_entry : (v i : ℕ) → is_voter c v ≡ true → (v == me) ≡ false → i < length log → m ≡ fetch_at c me start nth g v (i + 1) → Fits fresh nodes m
    tells_entry : (v i : ℕ) (e : Content) → is_voter c v ≡ true → slice_get log i ≡ Some e → m ≡ have_from c me start nth g v (i + 1) e → Fits fresh nodes m
    tells_none : (v i : ℕ) → is_voter c v ≡ true → (v == me) ≡ false → decided (nodes v).met g (i + 1) ≡ None → m ≡ have_not_from c me start nth g v (i + 1) → Fits fresh nodes m

  pub fits_on : (fresh : ℕ → Bool) (old new : ℕ → Node) → NodesOn old new → (m : Message) → Fits fresh old m → Fits fresh new m
  fits_on fresh old new on m (asks_where v voter is) = asks_where v voter is
  fits_on fresh old new on m (tells_top v p voter low high is) = tells_top v p voter low high is
  fits_on fresh old new on m (asks_entry v i voter apart below is) = asks_entry v i voter apart below is
  fits_on fresh old new on m (tells_entry v i e voter there is) = tells_entry v i e voter there is
  fits_on fresh old new on m (tells_none v i voter apart none is) = tells_none v i voter apart (on.same v (i + 1) apart ∙ none) is

  -- ---- what the operation waits for

  pub record PollOk (fresh : ℕ → Bool) (tape : List Item) (heard : List ℕ) (best : ℕ) : Type 0 where
    pub awaited : (v : ℕ) → is_voter c v ≡ true → (has v heard ≡ true) ⊎ (IsAwaited tape (where_to c me start nth g v) ⊎ TopAwaited c me start nth g tape v)
    pub minority : is_majority (length (voters c)) (length heard) ≡ false
    pub distinct : IsDistinct heard
    pub members : (v : ℕ) → has v heard ≡ true → is_voter c v ≡ true
    pub low : best ≤ length log
    pub high : (v : ℕ) → has v heard ≡ true → fresh v ≡ true → length log ≤ best

  pub record FetchOk (nodes : ℕ → Node) (tape : List Item) (position : ℕ) (denials : List ℕ) : Type 0 where
    pub denied : (v : ℕ) → has v denials ≡ true → ((v == me) ≡ false) × (decided (nodes v).met g position ≡ None)
    pub awaited : decided (nodes me).met g position ≡ None → (v : ℕ) (e : Content) → is_voter c v ≡ true → (v == me) ≡ false → decided (nodes v).met g position ≡ Some e
        → IsAwaited tape (fetch_at c me start nth g v position) ⊎ IsAwaited tape (have_from c me start nth g v position e)

  abbrev pub Ready : (ℕ → Bool) → (ℕ → Node) → List Item → Stage → Type 0
  Ready fresh nodes tape (Polling heard best sent) = PollOk fresh tape heard best
  Ready fresh nodes tape (Catching through None) = through ≡ length log
  Ready fresh nodes tape (Catching through (Some (Fetching position denials sent))) = (through ≡ length log) × FetchOk nodes tape position denials
  Ready fresh nodes tape (Catching through (Some (Filling position proposal))) = ⊥

  pub record IsSought (nodes : ℕ → Node) (position : ℕ) : Type 0 where
    pub index : ℕ
    pub place : position ≡ index + 1
    pub below : index < length log
    pub undecided : decided (nodes me).met g position ≡ None

  abbrev pub Sought : (ℕ → Node) → Stage → Type 0
  Sought nodes (Polling heard best sent) = Unit {0}
  Sought nodes (Catching through None) = ⊥
  Sought nodes (Catching through (Some (Fetching position denials sent))) = IsSought nodes position
  Sought nodes (Catching through (Some (Filling position proposal))) = ⊥

  -- where it reads through, it is the log's end
  abbrev pub Placed : Stage → Type 0
  Placed (Polling heard best sent) = Unit {0}
  Placed (Catching through None) = through ≡ length log
  Placed (Catching through (Some (Fetching position denials sent))) = through ≡ length log
  Placed (Catching through (Some (Filling position proposal))) = ⊥

  pub placed : (fresh : ℕ → Bool) (nodes : ℕ → Node) (tape : List Item) (stage : Stage) → Ready fresh nodes tape stage → Placed stage
  placed fresh nodes tape (Polling heard best sent) ready = tt
  placed fresh nodes tape (Catching through None) ready = ready
  placed fresh nodes tape (Catching through (Some (Fetching position denials sent))) ready = ready.0
  placed fresh nodes tape (Catching through (Some (Filling position proposal))) ready = absurd ready

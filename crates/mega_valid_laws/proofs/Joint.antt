-- The joint invariant: where a group is valid at a node, under an epoch that is safely held, the node has each position that was settled.
use Rattle.std.proofs.Common.{◌≡◌, ◌⊎◌, inl, inr, ℕ, ◌<◌, ◌≤◌, ◌==◌, ◌&&◌, Bool, true, false, cond, List, [], ◌∷◌, ◌++◌, Option, Some, None, refl, sym, ap, ◌∙◌, subst, arith}
use Rattle.std.proofs.lemmas.Bool.{and_parts, or_left, or_right, and_from}
use Rattle.mega_base.specs.declared.names.Epoch.{Epoch}
use Rattle.mega_base.specs.declared.names.GroupId.{GroupId}
use Rattle.mega_base.specs.declared.names.OpId.{OpId}
use Rattle.mega_base.specs.declared.names.Position.{Position}
use Rattle.mega_ballot.specs.declared.ballot.Ballot.{Ballot}
use Rattle.mega_cluster.specs.declared.cluster.Cluster.{Cluster}
use Rattle.mega_entry.specs.declared.content.Content.{Content}
use Rattle.mega_wire.specs.declared.message.Body.TheVariants.{Accepted, Dead, Invalidate, Invalidated, Top, Unheld, Where}
use Rattle.mega_wal.specs.Acceptor.{Act, Voted}
use Rattle.mega_wal.specs.Same.{same_group, same_op}
use Rattle.mega_wal.proofs.Sames.{same_group_equal, same_group_self, same_op_self}
use Rattle.mega_settled_laws.specs.of_tape_laws.of_promises.of_transcript.declared.item.Item.{Item}
use Rattle.mega_settled_laws.specs.of_tape_laws.of_promises.of_transcript.declared.item.Item.TheVariants.{Crash, Decide, Invalid, Lost, Sent, Serving, Start, Valid}
use Rattle.mega_settled_laws.specs.of_tape_laws.of_promises.Items.{number}
use Rattle.mega_settled_laws.specs.of_tape_laws.of_promises.Promises.{Stands, StoodBefore}
use Rattle.mega_settled_laws.specs.of_tape_laws.of_promises.of_rules.Members.{full_nodes}
use Rattle.mega_settled_laws.specs.of_tape_laws.Lawful.{message}
use Rattle.mega_settled_laws.specs.of_tape_laws.Places.{In, Place, act_of, acts}
use Rattle.mega_settled_laws.specs.of_tape_laws.Polls.{ArePolls, IsPolling, MayTell}
use Rattle.mega_settled_laws.proofs.of_tape_laws.Ballots.{clash, number_is, number_self}
use Rattle.mega_settled_laws.proofs.of_tape_laws.Lists.{in_tail, kept}
use Rattle.mega_settled_laws.proofs.of_tape_laws.Majorities.{Shared, meet}
use Rattle.mega_settled_laws.proofs.Tapes.{polls_before, stood_behind}
use Rattle.mega_settled_laws.specs.Covering.{Earlier, HasSettled, IsCoveredSince, WasCovered, asks_about, free, has_asked_about, invalidated, voted}
use Rattle.mega_valid_laws.specs.Leases.{AreLeased, HasAtLeast, IsHeld, IsLeased, MayBeValid, MayFree, MayObey, ServedBehind, WasChosen, accepted, asks_end, decided, has_polled, serving_on, valid_on}
use Rattle.mega_valid_laws.proofs.Epochs.{served_behind, serving_stands}
use Rattle.mega_valid_laws.proofs.Orders.{before_behind, between, moments_ordered, stood_first}

pub on_longer : (moment tape : List Item) → Earlier moment tape → (item : Item) → Stands item moment → Stands item tape
on_longer moment tape e item s = subst (Stands item) (sym e.is) (stood_behind e.later moment item s)

leased_before : (c : Cluster) (later tape : List Item) → AreLeased c (later ++ tape) → AreLeased c tape
leased_before c [] tape l = l
leased_before c (item ∷ later) tape l = leased_before c later tape l.1

leased_at : (c : Cluster) (moment tape : List Item) → Earlier moment tape → AreLeased c tape → AreLeased c moment
leased_at c moment tape e l = leased_before c e.later moment (subst (AreLeased c) e.is l)

-- by what an item that stands was allowed, and when
record Allowed (c : Cluster) (item : Item) (tape : List Item) : Type 0 where
  before : List Item
  rule : IsLeased c before item
  earlier : Earlier before tape

one_later : (moment tape : List Item) (item : Item) → Earlier moment tape → Earlier moment (item ∷ tape)
one_later moment tape item e = record { later = item ∷ e.later; is = ap (λ t. item ∷ t) e.is }

allowed : (c : Cluster) (item : Item) (tape : List Item) → AreLeased c tape → Stands item tape → Allowed c item tape
allowed c item [] l s = absurd s
allowed c item (other ∷ before) l (inl same) = record { before = before; rule = subst (IsLeased c before) same l.0; earlier = record { later = other ∷ []; is = refl } }
allowed c item (other ∷ before) l (inr s) = let a = allowed c item before l.1 s in record { before = a.before; rule = a.rule; earlier = one_later a.before before other a.earlier }

-- ---- what was chosen stays chosen

acts_behind : (later tape : List Item) (voter : ℕ) (p : Place) (act : Act) → In act (acts tape voter p) → In act (acts (later ++ tape) voter p)
acts_behind [] tape voter p act i = i
acts_behind (item ∷ later) tape voter p act i = in_tail (act_of voter p item) (acts (later ++ tape) voter p) act (acts_behind later tape voter p act i)

acts_on : (moment tape : List Item) → Earlier moment tape → (voter : ℕ) (p : Place) (act : Act) → In act (acts moment voter p) → In act (acts tape voter p)
acts_on moment tape e voter p act i = subst (λ t. In act (acts t voter p)) (sym e.is) (acts_behind e.later moment voter p act i)

pub chosen_on : (c : Cluster) (moment tape : List Item) → Earlier moment tape → (p : Place) → WasChosen c moment p → WasChosen c tape p
chosen_on c moment tape e p w = record {
  entry = w.entry;
  chosen = record { ballot = (w.chosen).ballot; test = (w.chosen).test; majority = (w.chosen).majority; each = λ voter t. acts_on moment tape e voter p (Voted (w.chosen).ballot w.entry) ((w.chosen).each voter t) };
}

pub vote_heard : (tape : List Item) (p : Place) (key voter to : ℕ) (op : OpId) (b : Ballot) (e : Content) → Stands (Sent key (message voter to (Accepted op p.group p.position b e))) tape → In (Voted b e) (acts tape voter p)
vote_heard tape p key voter to op b e s = kept (act_of voter p) (Sent key (message voter to (Accepted op p.group p.position b e))) (Voted b e) tape told s
  where
    told : act_of voter p (Sent key (message voter to (Accepted op p.group p.position b e))) ≡ Some (Voted b e)
    told = by (voter == voter) (number_self voter) (same_group p.group p.group && p.position.0 == p.position.0)
        (and_from (same_group p.group p.group) (p.position.0 == p.position.0) (same_group_self p.group) (number_self p.position.0))
      where
        by : (t : Bool) → t ≡ true → (u : Bool) → u ≡ true → cond t (cond u (Some (Voted b e)) None) None ≡ Some (Voted b e)
        by true h true k = refl
        by true h false k = cc
        by false h u k = cc

-- ---- a poll

-- what an operation asked stands
pub polled_is : (tape : List Item) (key from to : ℕ) (op : OpId) (group : GroupId) → Stands (Sent key (message from to (Where op group))) tape → has_polled tape op group ≡ true
polled_is [] key from to op group s = absurd s
polled_is (item ∷ before) key from to op group (inl same) =
    subst (λ x. has_polled (x ∷ before) op group ≡ true) (sym same)
    (or_left (same_op op op && same_group group group) (has_polled before op group) (and_from (same_op op op) (same_group group group) (same_op_self op) (same_group_self group)))
polled_is (item ∷ before) key from to op group (inr s) = then_polled item before (polled_is before key from to op group s)
  where
    then_polled : (item : Item) (before : List Item) → has_polled before op group ≡ true → has_polled (item ∷ before) op group ≡ true
    then_polled (Sent number m) before h = or_right (asks_end op group m.body) (has_polled before op group) h
    then_polled _ before h = h

told_polled : (tape : List Item) → ArePolls tape → (key voter to : ℕ) (op : OpId) (group : GroupId) (top : Position) → Stands (Sent key (message voter to (Top op group top))) tape → has_polled tape op group ≡ true
told_polled [] w key voter to op group top s = absurd s
told_polled (item ∷ before) w key voter to op group top s = then_polled item before (by s (told_polled before w.1 key voter to op group top))
  where
    then_polled : (item : Item) (before : List Item) → has_polled before op group ≡ true → has_polled (item ∷ before) op group ≡ true
    then_polled (Sent number m) before h = or_right (asks_end op group m.body) (has_polled before op group) h
    then_polled _ before h = h

    by : (item ≡ Sent key (message voter to (Top op group top))) ⊎ Stands (Sent key (message voter to (Top op group top))) before
        → (Stands (Sent key (message voter to (Top op group top))) before → has_polled before op group ≡ true) → has_polled before op group ≡ true
    by (inl same) again = let may : MayTell before to voter op group top = subst (IsPolling before) same w.0 in polled_is before (may.asked).number to voter op group (may.asked).sent
    by (inr t) again = again t

-- a voter that accepted a position before it was asked tells none below it
pub told_above : (later moment : List Item) (op : OpId) (group : GroupId) (n top : Position) (voter key to : ℕ) (b : Ballot) (e : Content) → ArePolls (later ++ moment) → has_polled moment op group ≡ false
    → In (Voted b e) (acts moment voter (record { group = group; position = n })) → Stands (Sent key (message voter to (Top op group top))) (later ++ moment) → n.0 ≤ top.0
told_above [] moment op group n top voter key to b e w none vote s = absurd (clash (has_polled moment op group) (told_polled moment w key voter to op group top s) none)
told_above (item ∷ later) moment op group n top voter key to b e w none vote (inl same) =
    let may : MayTell (later ++ moment) to voter op group top = subst (IsPolling (later ++ moment)) same w.0 in
    (may.most) n b e (acts_behind later moment voter (record { group = group; position = n }) (Voted b e) vote)
told_above (item ∷ later) moment op group n top voter key to b e w none vote (inr s) = told_above later moment op group n top voter key to b e w.1 none vote s

poll_covers : (c : Cluster) (tape : List Item) → ArePolls tape → (node : ℕ) (group : GroupId) (p n : Position) (v : MayBeValid c tape node group p) → WasChosen c v.moment (record { group = group; position = n }) → n.0 ≤ p.0
poll_covers c tape w node group p n v chosen =
    let told = v.heard voter.node voter.second in
    let above = told_above (v.earlier).later v.moment v.op group n told.0 voter.node (told.1).number (v.op).node.0 (chosen.chosen).ballot chosen.entry (subst ArePolls (v.earlier).is w) v.fresh
    ((chosen.chosen).each voter.node voter.first) (subst (Stands (Sent (told.1).number (message voter.node (v.op).node.0 (Top v.op group told.0)))) (v.earlier).is (told.1).sent) in
    let most = told.2 in
    omega (arith, above, most)
  where
    voter : Shared (chosen.chosen).test v.test
    voter = meet c (chosen.chosen).test v.test (chosen.chosen).majority v.majority

-- ---- the last validate

ends_if : (t : Bool) (o : Bool) → cond t false o ≡ true → (t ≡ false) × (o ≡ true)
ends_if true o h = cc
ends_if false o h = (refl, h)

valid_if : (t : Bool) (o : Bool) → cond t true o ≡ true → (t ≡ true) ⊎ ((t ≡ false) × (o ≡ true))
valid_if true o h = inl refl
valid_if false o h = inr (refl, h)

stays : (t : Bool) (o other : Option Epoch) → t ≡ false → cond t other o ≡ o
stays true o other h = cc
stays false o other h = refl

module _ (c : Cluster) (node : ℕ) (group : GroupId) where
  -- a validate since which nothing invalidated the group and the epoch serves on
  record LastValid (tape : List Item) : Type 0 where
    before : List Item
    position : Position
    rule : MayBeValid c before node group position
    earlier : Earlier before tape
    serving : serving_on tape node ≡ serving_on before node
    noted : (first : Item) (n : Position) → StoodBefore first (Invalid (number node) group n) tape → StoodBefore first (Invalid (number node) group n) before

  abbrev IsOther : Item → Type 0
  IsOther (Invalid who g n) = (who.0 == node && same_group g group) ≡ false
  IsOther _ = Unit {0}

  not_noted : (item : Item) (n : Position) → IsOther item → item ≡ Invalid (number node) group n → ⊥
  not_noted item n other same =
      clash (node == node && same_group group group) (and_from (node == node) (same_group group group) (number_self node) (same_group_self group)) (subst IsOther same other)

  later_valid : (item : Item) (tape : List Item) → IsOther item → serving_on (item ∷ tape) node ≡ serving_on tape node → LastValid tape → LastValid (item ∷ tape)
  later_valid item tape other same v = record {
    before = v.before;
    position = v.position;
    rule = v.rule;
    earlier = one_later v.before tape item v.earlier;
    serving = same ∙ v.serving;
    noted = λ first n s. elim s [ inl head ↦ absurd (not_noted item n other head.0) | inr rest ↦ v.noted first n rest ];
  }

  -- where a group is valid an epoch serves
  record Serves (tape : List Item) : Type 0 where
    epoch : Epoch
    is : serving_on tape node ≡ Some epoch

  valid_serves : (tape : List Item) → AreLeased c tape → valid_on tape node group ≡ true → Serves tape
  valid_serves [] l h = cc
  valid_serves (Valid who g p ∷ before) l h = elim (valid_if (who.0 == node && same_group g group) (valid_on before node group) h) [
    | inl t ↦ (let at = and_parts (who.0 == node) (same_group g group) t in record { epoch = (l.0).epoch; is = ap (serving_on before) (sym (number_is who.0 node at.0)) ∙ (l.0).serves })
    | inr rest ↦ (let s = valid_serves before l.1 rest.1 in record { epoch = s.epoch; is = s.is })
  ]
  valid_serves (Invalid who g p ∷ before) l h = let s = valid_serves before l.1 (ends_if (who.0 == node && same_group g group) (valid_on before node group) h).1 in record { epoch = s.epoch; is = s.is }
  valid_serves (Lost who epoch ∷ before) l h = let at = ends_if (who.0 == node) (valid_on before node group) h in let s = valid_serves before l.1 at.1 in record { epoch = s.epoch; is = stays (who.0 == node) (serving_on before node) None at.0 ∙ s.is }
  valid_serves (Start who start ∷ before) l h = let at = ends_if (who.0 == node) (valid_on before node group) h in let s = valid_serves before l.1 at.1 in record { epoch = s.epoch; is = stays (who.0 == node) (serving_on before node) None at.0 ∙ s.is }
  valid_serves (Crash who ∷ before) l h = let at = ends_if (who.0 == node) (valid_on before node group) h in let s = valid_serves before l.1 at.1 in record { epoch = s.epoch; is = stays (who.0 == node) (serving_on before node) None at.0 ∙ s.is }
  valid_serves (Serving who epoch ∷ before) l h = let found = by (who.0 == node) (valid_serves before l.1 h) in record { epoch = found.0; is = found.1 }
    where
      by : (t : Bool) → Serves before → (e : Epoch) × (cond t (Some epoch) (serving_on before node) ≡ Some e)
      by true s = (epoch, refl)
      by false s = (s.epoch, s.is)
  valid_serves (_ ∷ before) l h = let s = valid_serves before l.1 h in record { epoch = s.epoch; is = s.is }

  last_valid : (tape : List Item) → AreLeased c tape → valid_on tape node group ≡ true → LastValid tape
  last_valid [] l h = cc
  last_valid (Valid who g p ∷ before) l h = elim (valid_if (who.0 == node && same_group g group) (valid_on before node group) h) [
    | inl t ↦ (let at = and_parts (who.0 == node) (same_group g group) t in record {
      before = before;
      position = p;
      rule = coe 0 1 (i. MayBeValid c before (number_is who.0 node at.0 i) (same_group_equal g group at.1 i) p) l.0;
      earlier = record { later = Valid who g p ∷ []; is = refl };
      serving = refl;
      noted = λ first n s. elim s [ inl head ↦ absurd (not_noted (Valid who g p) n tt head.0) | inr rest ↦ rest ];
    })
    | inr rest ↦ later_valid (Valid who g p) before tt refl (last_valid before l.1 rest.1)
  ]
  last_valid (Invalid who g p ∷ before) l h = let at = ends_if (who.0 == node && same_group g group) (valid_on before node group) h in later_valid (Invalid who g p) before at.0 refl (last_valid before l.1 at.1)
  last_valid (Lost who epoch ∷ before) l h = let at = ends_if (who.0 == node) (valid_on before node group) h in later_valid (Lost who epoch) before tt (stays (who.0 == node) (serving_on before node) None at.0) (last_valid before l.1 at.1)
  last_valid (Start who start ∷ before) l h = let at = ends_if (who.0 == node) (valid_on before node group) h in later_valid (Start who start) before tt (stays (who.0 == node) (serving_on before node) None at.0) (last_valid before l.1 at.1)
  last_valid (Crash who ∷ before) l h = let at = ends_if (who.0 == node) (valid_on before node group) h in later_valid (Crash who) before tt (stays (who.0 == node) (serving_on before node) None at.0) (last_valid before l.1 at.1)
  last_valid (Serving who epoch ∷ before) l h = later_valid (Serving who epoch) before tt (by (who.0 == node) refl) (last_valid before l.1 h)
    where
      already : Serves before
      already = valid_serves before l.1 h

      by : (t : Bool) → (who.0 == node) ≡ t → cond t (Some epoch) (serving_on before node) ≡ serving_on before node
      by true e = absurd (let none = sym (subst (λ v. serving_on before v ≡ None) (number_is who.0 node e) (l.0).alone) ∙ already.is in cc)
      by false e = refl
  last_valid (item ∷ before) l h = later_valid item before tt refl (last_valid before l.1 h)

  -- ---- what stood before the epoch served

  -- what stood before an epoch served stood at each moment at which it serves
  behind_later : (e : Epoch) (first : Item) (later moment : List Item) → AreLeased c (later ++ moment) → serving_on moment node ≡ Some e → StoodBefore first (Serving (number node) e) (later ++ moment) → Stands first moment
  behind_later e first [] moment l serves s = stood_first first (Serving (number node) e) moment s
  behind_later e first (item ∷ later) moment l serves (inl head) =
      absurd ((subst (IsLeased c (later ++ moment)) head.0 l.0).once (stood_behind later moment (Serving (number node) e) (serving_stands c node e moment serves)))
  behind_later e first (item ∷ later) moment l serves (inr s) = behind_later e first later moment l.1 serves s

  -- a question about a node that did not stand at a moment
  asked_is : (tape : List Item) (key from to cell : ℕ) (op : OpId) → Stands (Sent key (message from to (Dead op cell (number node)))) tape → has_asked_about tape op node ≡ true
  asked_is [] key from to cell op s = absurd s
  asked_is (item ∷ before) key from to cell op (inl same) =
      subst (λ x. has_asked_about (x ∷ before) op node ≡ true) (sym same) (or_left (same_op op op && node == node) (has_asked_about before op node) (and_from (same_op op op) (node == node) (same_op_self op) (number_self node)))
  asked_is (item ∷ before) key from to cell op (inr s) = then_asked item before (asked_is before key from to cell op s)
    where
      then_asked : (item : Item) (before : List Item) → has_asked_about before op node ≡ true → has_asked_about (item ∷ before) op node ≡ true
      then_asked (Sent number m) before h = or_right (asks_about op node m.body) (has_asked_about before op node) h
      then_asked _ before h = h

  module _ (tape : List Item) (l : AreLeased c tape) (w : ArePolls tape) (e : Epoch) (held : IsHeld c tape node e) (v : LastValid tape) (n : Position) where
    abbrev place : Place
    place = record { group = group; position = n }

    serves : serving_on v.before node ≡ Some e
    serves = sym v.serving ∙ held.serves

    epoch_is : Some (v.rule).epoch ≡ Some e
    epoch_is = sym (v.rule).serves ∙ serves

    abbrev moment : List Item
    moment = (v.rule).moment

    served : serving_on moment node ≡ Some e
    served = (v.rule).served ∙ epoch_is

    moment_tape : Earlier moment tape
    moment_tape = record { later = (v.earlier).later ++ ((v.rule).earlier).later; is = (v.earlier).is ∙ ap (λ t. (v.earlier).later ++ t) ((v.rule).earlier).is ∙ regrouped (v.earlier).later ((v.rule).earlier).later moment }
      where
        regrouped : (a b d : List Item) → a ++ (b ++ d) ≡ (a ++ b) ++ d
        regrouped [] b d = refl
        regrouped (x ∷ a) b d = ap (λ t. x ∷ t) (regrouped a b d)

    moment_leased : AreLeased c moment
    moment_leased = leased_at c moment tape moment_tape l

    covers : WasChosen c moment place → n.0 ≤ (v.position).0
    covers chosen = poll_covers c v.before (polls_before (v.earlier).later v.before (subst ArePolls (v.earlier).is w)) node group v.position n v.rule chosen

    stood_then : (first : Item) → StoodBefore first (Serving (number node) e) tape → Stands first moment
    stood_then first s = behind_later e first moment_tape.later moment (subst (AreLeased c) moment_tape.is l) served (subst (StoodBefore first (Serving (number node) e)) moment_tape.is s)

    -- it is invalidated
    by_invalid : (from key to : ℕ) (op : OpId) → Stands (Sent key (message node to (Invalidated op group n))) tape → n.0 ≤ (v.position).0
    by_invalid from key to op s = by (between question invalid serving v.before noted (on_longer moment v.before (v.rule).earlier serving (serving_stands c node e moment served)) apart)
      where
        at : Allowed c (Sent key (message node to (Invalidated op group n))) tape
        at = allowed c (Sent key (message node to (Invalidated op group n))) tape l s

        may : MayObey at.before node op group n
        may = at.rule

        question : Item
        question = Sent may.key (message may.asker node (Invalidate op group n))

        invalid : Item
        invalid = Invalid (number node) group n

        serving : Item
        serving = Serving (number node) e

        noted : StoodBefore question invalid v.before
        noted = v.noted question n (subst (StoodBefore question invalid) (sym (at.earlier).is) (before_behind (at.earlier).later at.before question invalid may.noted))

        apart : serving ≡ invalid → ⊥
        apart h = cc

        asked : StoodBefore question serving v.before → WasChosen c moment place
        asked b =
            let stands = stood_then question (subst (StoodBefore question serving) (sym (v.earlier).is) (before_behind (v.earlier).later v.before question serving b)) in
            let asking = allowed c question moment moment_leased stands in
            chosen_on c asking.before moment asking.earlier place asking.rule

        by : StoodBefore serving invalid v.before ⊎ StoodBefore question serving v.before → n.0 ≤ (v.position).0
        by (inl b) = (v.rule).above n (subst (λ x. StoodBefore (Serving (number node) x) invalid v.before) (sym (epochs epoch_is)) b)
          where
            epochs : Some (v.rule).epoch ≡ Some e → (v.rule).epoch ≡ e
            epochs h = cc
        by (inr b) = covers (asked b)

    -- the cells held nothing for it
    by_free : (op : OpId) (first : List Item) → Earlier first tape → WasChosen c first place → (test : ℕ → Bool) → ServedBehind tape op test node e → has_asked_about first op node ≡ false → n.0 ≤ (v.position).0
    by_free op first earlier chosen test behind quiet =
        let answer = Sent behind.key (message behind.cell behind.to (Unheld op behind.cell (number node))) in
        let at = allowed c answer moment moment_leased (stood_then answer behind.before) in
        let may : MayFree at.before behind.cell op behind.cell node = at.rule in
        let asked = on_longer at.before moment at.earlier (Sent may.key (message may.asker behind.cell (Dead op behind.cell (number node)))) may.asked in
        elim (moments_ordered first moment tape earlier moment_tape) [
          | inl before ↦ covers (chosen_on c first moment before place chosen)
          | inr after ↦ absurd (clash (has_asked_about first op node)
              (asked_is first may.key may.asker behind.cell behind.cell op (on_longer moment first after (Sent may.key (message may.asker behind.cell (Dead op behind.cell (number node)))) asked)) quiet)
        ]

    -- so it has that position
    has_it : 0 < n.0 → n.0 ≤ (v.position).0 → HasAtLeast tape node group n
    has_it above le = elim (v.rule).decided [
      | inl none ↦ absurd (omega (arith, above, le, none))
      | inr found ↦ decided v.position found.0 le (on_longer v.before tape v.earlier (Decide (number node) group v.position found.0) found.1)
    ]

    by_cover : (op : OpId) (b : Ballot) (entry : Content) (then first : List Item) → Earlier then tape → Earlier first tape → WasChosen c first place → 0 < n.0 → IsCoveredSince c first then op place b entry node → HasAtLeast tape node group n
    by_cover op b entry then first settled earlier chosen above (voted h) = accepted h.number op.node.0 op n b entry (omega arith) (on_longer then tape settled (Sent h.number (message node op.node.0 (Accepted op group n b entry))) h.sent)
    by_cover op b entry then first settled earlier chosen above (invalidated h) =
        has_it above (by_invalid 0 h.number op.node.0 op (on_longer then tape settled (Sent h.number (message node op.node.0 (Invalidated op group n))) h.sent))
    by_cover op b entry then first settled earlier chosen above (free test most quiet heard) =
        has_it above (by_free op first earlier chosen test (served_behind c tape l node e held op test most
        (λ cell t. record { key = (heard cell t).number; to = op.node.0; sent = on_longer then tape settled (Sent (heard cell t).number (message cell op.node.0 (Unheld op cell (number node)))) (heard cell t).sent })) quiet)

then_later : (one two three : List Item) → Earlier one two → Earlier two three → Earlier one three
then_later one two three a b = record { later = b.later ++ a.later; is = b.is ∙ ap (λ t. b.later ++ t) a.is ∙ regrouped b.later a.later one }
  where
    regrouped : (x y z : List Item) → x ++ (y ++ z) ≡ (x ++ y) ++ z
    regrouped [] y z = refl
    regrouped (one ∷ x) y z = ap (λ t. one ∷ t) (regrouped x y z)

pub valid_has : (c : Cluster) (tape : List Item) → AreLeased c tape → ArePolls tape → (node : ℕ) (group : GroupId) (n : Position) (entry : Content) (e : Epoch) → In node (full_nodes c) → 0 < n.0
    → WasCovered c tape (record { group = group; position = n }) entry → valid_on tape node group ≡ true → IsHeld c tape node e → HasAtLeast tape node group n
valid_has c tape l w node group n entry e full above covered valid held =
    by_cover c node group tape l w e held (last_valid c node group tape l valid) n covered.op s.ballot entry covered.moment s.moment covered.earlier first chosen above (s.covered node full)
  where
    s : HasSettled c covered.moment covered.op (record { group = group; position = n }) entry
    s = covered.settled

    first : Earlier s.moment tape
    first = then_later s.moment covered.moment tape s.earlier covered.earlier

    chosen : WasChosen c s.moment (record { group = group; position = n })
    chosen = record {
      entry = entry;
      chosen = record {
        ballot = s.ballot;
        test = s.test;
        majority = s.majority;
        each = λ voter t. vote_heard s.moment (record { group = group; position = n }) (s.heard voter t).number voter (covered.op).node.0 covered.op s.ballot entry (s.heard voter t).sent;
      };
    }

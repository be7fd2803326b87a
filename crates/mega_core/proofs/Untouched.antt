-- A step applies nothing more of groups that it does not touch.
use Rattle.std.proofs.Common.{◌≡◌, ◌≤◌, ℕ, ◌||◌, ◌&&◌, ◌++◌, Bool, true, false, cond, nat_lt, is_none, List, [], ◌∷◌, length, map, filter, flat_map, fold, Option, Some, None, refl, sym, ap, subst, ◌∙◌, arith}
use Rattle.std.proofs.lemmas.Bool.Decides.{nat_tests}
use Rattle.std.specs.List.{All, list_any}
use Rattle.std.proofs.lemmas.List.Elements.{All-cons, All-head, All-nil, All-tail, All-weaker}
use Rattle.mega_base.specs.declared.names.GroupId.{GroupId}
use Rattle.mega_coordinator.specs.declared.answers.NotValid.{NotValid}
use Rattle.mega_entry.specs.declared.content.Content.{Content}
use Rattle.mega_wire.specs.declared.message.Message.{Message}
use Rattle.mega_outcome.specs.declared.request.Request.{Request}
use Rattle.mega_outcome.specs.declared.request.Request.TheVariants.{Txn, Batch, Read, Find, PumpEnter, PumpHandle, Refresh}
use Rattle.mega_replica.specs.Applying.{applied}
use Rattle.mega_wal.specs.Same.{same_group}
use Rattle.mega_wal.proofs.Sames.{same_group_equal, same_group_self}
use Rattle.mega_rules.specs.Met.{Applies, Begins, Decides, Met, Takes}
use Rattle.mega_rules.specs.Acting.{validated_by}
use Rattle.mega_rules.specs.Clock.{clock_of}
use Rattle.mega_rules.specs.Logs.{decided, groups_of, log_of, prefix_of, with_group}
use Rattle.mega_rules.specs.Operations.{Node, Now, Setting}
use Rattle.mega_rules.specs.Steps.{Decision, Heard, Take, Tick, applied_at, apply_note, at_first, decision_note, first_settled, hears_message, if_new, new_operation, onto, op_of, portion_of, refusal, stored_after, told_decision, told_notes}
use Rattle.mega_actions.specs.of_node_laws.About.{group_in}
use Rattle.mega_actions.specs.of_node_laws.Acted.{acted_on, decision_in, or_settled}
use Rattle.mega_actions.proofs.of_node_laws.Applied.{applied_within}
use Rattle.mega_actions.proofs.of_node_laws.Logs.{groups_after, log_after, log_stays, other_log}
use Rattle.mega_actions.specs.of_step_work.Servable.{is_served, is_pump}
use Rattle.mega_actions.specs.Turns.{IsServable}
use Rattle.mega_step_parts.specs.declared.applying.Before.{Before}
use Rattle.mega_core.specs.Acted.{Acted, IsValidate}
use Rattle.mega_node_events.specs.Beginning.{at_begin, has_begun}
use Rattle.mega_step_parts.specs.Positions.{before_at, note_since}
use Rattle.mega_node_events.specs.Taking.{has_taken}
use Rattle.mega_node_events.specs.Ticking.{has_ticked}
use Rattle.mega_step_parts.specs.Behind.{is_behind}
use Rattle.mega_step_parts.specs.Touching.{asked_groups, begun_by, begun_groups, behind, named, reaches, roams, told_groups, touched, with_reach}
use Rattle.mega_rules.proofs.Groups.{has, has_with, no_log}
use Rattle.mega_step_parts.proofs.Groups.{all_noted, none_applied, since_is}
use Rattle.mega_node_events.proofs.Deciding.{told_on}
use Rattle.mega_node_events.proofs.Plain.{plain_undecided, told_plain}
use Rattle.mega_core.proofs.Silent.{IsMute, mute_undecided, validate_mute}
use Rattle.mega_core.proofs.Walked.{all_heard_built}
use Rattle.mega_core.proofs.Walking.{IsHeardIn, Walks, all_walked, begun_walked}

-- ---- what the operations heard, and the decision of the step before it is known to be new

abbrev pub heard_by : Setting → Node → Message → List Heard
heard_by s node m = map (hears_message s (clock_of node.met) m) node.open_operations

abbrev brought : Setting → Node → Message → Option Decision
brought s node m = or_settled (told_decision m.body) (first_settled (heard_by s node m))

-- ---- the groups of operations as those of a history

abbrev in_group : GroupId → Met
in_group group = Decides group 0 (record { id = None; leader = record { 0 = 0 }; writes = []; sends = []; enters = []; handles = []; cuts = [] })

abbrev of_phase : Heard → Met
of_phase t = in_group (group_in t.operation.phase)

abbrev reached : List Met → Heard → List Met
reached met t = cond (reaches t.operation) (of_phase t ∷ met) met

folded : (ts : List Heard) (met : List Met) → fold with_reach (groups_of met) ts ≡ groups_of (fold reached met ts)
folded [] met = refl
folded (t ∷ ts) met = go (reaches t.operation) (λ more. folded ts more)
  where
    go : (b : Bool) → ((more : List Met) → fold with_reach (groups_of more) ts ≡ groups_of (fold reached more ts))
        → fold with_reach (cond b (with_group (group_in t.operation.phase) (groups_of met)) (groups_of met)) ts ≡ groups_of (fold reached (cond b (of_phase t ∷ met) met) ts)
    go true rest = rest (of_phase t ∷ met)
    go false rest = rest met

or_second : (x y : Bool) → y ≡ true → (x || y) ≡ true
or_second true y is = refl
or_second false y is = is

still_there : (ts : List Heard) (met : List Met) (group : GroupId) → has group (groups_of met) ≡ true → has group (groups_of (fold reached met ts)) ≡ true
still_there [] met group there = there
still_there (t ∷ ts) met group there = still_there ts (reached met t) group (go (reaches t.operation))
  where
    go : (b : Bool) → has group (groups_of (cond b (of_phase t ∷ met) met)) ≡ true
    go true = has_with (group_in t.operation.phase) (groups_of met) group ∙ or_second (same_group (group_in t.operation.phase) group) (has group (groups_of met)) there
    go false = there

abbrev IsThere : List GroupId → Heard → Type 0
IsThere groups t = reaches t.operation ≡ true → has (group_in t.operation.phase) groups ≡ true

each_there : (ts : List Heard) (met : List Met) → All (IsThere (groups_of (fold reached met ts))) ts
each_there [] met = All-nil (IsThere (groups_of met))
each_there (t ∷ ts) met =
    All-cons (IsThere (groups_of (fold reached (reached met t) ts))) t ts
    (λ is. still_there ts (reached met t) (group_in t.operation.phase) (go (reaches t.operation) is))
    (each_there ts (reached met t))
  where
    go : (b : Bool) → b ≡ true → has (group_in t.operation.phase) (groups_of (cond b (of_phase t ∷ met) met)) ≡ true
    go true is = has_with (group_in t.operation.phase) (groups_of met) (group_in t.operation.phase) ∙ ap (λ x. x || has (group_in t.operation.phase) (groups_of met)) (same_group_self (group_in t.operation.phase))
    go false is = absurd (cc)

none_before : (ts : List Heard) (met : List Met) (group : GroupId) → has group (groups_of (fold reached met ts)) ≡ false → has group (groups_of met) ≡ false
none_before ts met group none = go (has group (groups_of met)) refl
  where
    go : (t : Bool) → has group (groups_of met) ≡ t → t ≡ false
    go true e = let there = still_there ts met group e in absurd (cc)
    go false e = refl

apart_from : (groups : List GroupId) (group other : GroupId) → has group groups ≡ false → has other groups ≡ true → same_group other group ≡ false
apart_from groups group other none there = go (same_group other group) refl
  where
    go : (t : Bool) → same_group other group ≡ t → t ≡ false
    go true e = let same : has other groups ≡ has group groups = ap (λ g. has g groups) (same_group_equal other group e) in absurd (cc)
    go false e = refl

module _ (group : GroupId) where
  abbrev IsOther : GroupId → Type 0
  IsOther other = same_group other group ≡ false

  -- ---- a decision in another group

  abbrev pub IsApart : Option Decision → Type 0
  IsApart None = Unit {0}
  IsApart (Some d) = IsOther d.group

  pub new_apart : (met : List Met) (d : Option Decision) → IsApart d → IsApart (if_new met d)
  new_apart met None apart = tt
  new_apart met (Some d) apart = go (is_none (decided met d.group d.position))
    where
      go : (t : Bool) → IsApart (cond t (Some d) None)
      go true = apart
      go false = tt

  or_neither : (t : Bool) → (t || false) ≡ false → t ≡ false
  or_neither true h = h
  or_neither false h = h

  pub told_apart : (d : Option Decision) → has group (groups_of (decision_note d)) ≡ false → IsApart d
  told_apart None none = tt
  told_apart (Some d) none = or_neither (same_group d.group group) none

  decision_log : (d : Option Decision) (met : List Met) → IsApart d → log_of (onto (decision_note d) met) group ≡ log_of met group
  decision_log None met apart = refl
  decision_log (Some d) met apart = other_log d.group d.position d.entry met group apart

  pub decision_stored : (s : Setting) (met : List Met) (stored : GroupId → ℕ) (d : Option Decision) → IsApart d → stored_after s met stored d group ≡ stored group
  decision_stored s met stored None apart = refl
  decision_stored s met stored (Some d) apart = ap (λ t. cond t (portion_of s met stored group) (stored group)) apart

  -- ---- what is stored of the group

  abbrev Still : ℕ → Now → Type 0
  Still count now = now.stored group ≡ count

  still_walks : (count : ℕ) → Walks (Still count) IsOther
  still_walks count = record {
    keeps_it = λ now o is h. h;
    ends_it = λ now op answer h. h;
    sends_it = λ now sends h. h;
    stores_it = λ now other more grows apart h. ap (λ t. cond t more (now.stored group)) apart ∙ h;
    validates_it = validated;
  }
    where
      validated : (now : Now) (other : GroupId) (p : ℕ) (refused : Option NotValid) → Still count now → Still count (validated_by now other p refused)
      validated now other p None h = h
      validated now other p (Some refused) h = h

  -- ---- what is applied of it

  pub log_acted : (base met : List Met) (now : Now) → Acted base now → log_of base group ≡ log_of met group → log_of now.met group ≡ log_of met group
  log_acted base met now acted logs =
      ap (λ (one : List Met). log_of one group) acted.met_is ∙ (log_after now.valid base group (mute_undecided now.valid (All-weaker IsValidate IsMute validate_mute now.valid acted.valid)) ∙ logs)

  still_applied : (base met : List Met) (stored : GroupId → ℕ) (now : Now) → Acted base now → log_of base group ≡ log_of met group → now.stored group ≡ stored group → applied_at now.met now.stored group ≡ applied_at met stored group
  still_applied base met stored now acted logs is = λ i. applied (log_acted base met now acted logs i) (is i)

  -- of a log with no entries nothing is
  never_applied : (base met : List Met) (stored : GroupId → ℕ) (now : Now) → Acted base now → log_of base group ≡ log_of met group → has group (groups_of met) ≡ false → applied_at now.met now.stored group ≡ applied_at met stored group
  never_applied base met stored now acted logs none =
      ap (λ (log : List Content). applied log (now.stored group)) (log_acted base met now acted logs ∙ no_log met group none) ∙ sym (none_applied met stored group none)

  or_left : (a b : Bool) → (a || b) ≡ false → a ≡ false
  or_left true b h = h
  or_left false b h = refl

  or_right : (a b : Bool) → (a || b) ≡ false → b ≡ false
  or_right true b h = absurd (cc)
  or_right false b h = h

  abbrev IsOtherHeard : Heard → Type 0
  IsOtherHeard t = reaches t.operation ≡ true → IsOther (group_in t.operation.phase)

  all_other : (ts : List Heard) (met : List Met) → has group (groups_of (fold reached met ts)) ≡ false → All IsOtherHeard ts
  all_other ts met none =
      All-weaker (IsThere (groups_of (fold reached met ts))) IsOtherHeard (λ t there. λ is. apart_from (groups_of (fold reached met ts)) group (group_in t.operation.phase) none (there is)) ts (each_there ts met)

  stays_apart : (request : Request) → is_pump request ≡ false → is_pump request ≡ true → (other : GroupId) → IsOther other
  stays_apart request plain pump other = absurd (let never : true ≡ false = sym pump ∙ plain in cc)

  second_not : (a b : Bool) → (a && b) ≡ false → a ≡ true → b ≡ false
  second_not true b none is = none
  second_not false b none is = absurd (cc)

  others_in : (ts : List Heard) → All IsOtherHeard ts → list_any roams ts ≡ false → All (IsHeardIn IsOther) ts
  others_in [] others none = All-nil (IsHeardIn IsOther)
  others_in (t ∷ ts) others none =
      All-cons (IsHeardIn IsOther) t ts
      (λ is. (
        All-head IsOtherHeard t ts others is,
        stays_apart t.operation.request (second_not (reaches t.operation) (is_pump t.operation.request) (or_left (roams t) (list_any roams ts) none) is),
      ))
      (others_in ts (All-tail IsOtherHeard t ts others) (or_right (roams t) (list_any roams ts) none))

  -- a message that decides nothing of it leaves its log
  pub take_log : (s : Setting) (node : Node) (m : Message) → IsApart (decision_in s node m) → log_of (acted_on s node (Take m)) group ≡ log_of node.met group
  take_log s node m apart =
      decision_log (decision_in s node m) (told_on s node m) apart
      ∙ (log_after (told_notes s node.met m.from m.body) (Takes m ∷ node.met) group (plain_undecided (told_notes s node.met m.from m.body) (told_plain s node.met m.from m.body))
      ∙ log_stays (Takes m) node.met group refl)

  module _ (s : Setting) (node : Node) (m : Message) (none_told : has group (groups_of (decision_note (brought s node m))) ≡ false) (others : All IsOtherHeard (heard_by s node m)) where
    apart : IsApart (decision_in s node m)
    apart = new_apart node.met (brought s node m) (told_apart (brought s node m) none_told)

    log_is : log_of (acted_on s node (Take m)) group ≡ log_of node.met group
    log_is = take_log s node m apart

    pub take_still : All IsServable node.open_operations → list_any roams (heard_by s node m) ≡ false → Acted (acted_on s node (Take m)) (has_taken s node m)
        → applied_at (has_taken s node m).met (has_taken s node m).stored group ≡ applied_at node.met node.stored group
    take_still built none acted = still_applied (acted_on s node (Take m)) node.met node.stored (has_taken s node m) acted log_is
        (all_walked (Still (node.stored group)) IsOther (still_walks (node.stored group)) s (heard_by s node m)
        (at_first (acted_on s node (Take m)) (stored_after s (acted_on s node (Take m)) node.stored (decision_in s node m)))
        (all_heard_built s (clock_of node.met) m node.open_operations built) (others_in (heard_by s node m) others none)
        (decision_stored s (acted_on s node (Take m)) node.stored (decision_in s node m) apart))

    pub take_never : has group (groups_of node.met) ≡ false → Acted (acted_on s node (Take m)) (has_taken s node m)
        → applied_at (has_taken s node m).met (has_taken s node m).stored group ≡ applied_at node.met node.stored group
    take_never none acted = never_applied (acted_on s node (Take m)) node.met node.stored (has_taken s node m) acted log_is none

  -- a decision among others
  note_absent : (d : Option Decision) (met : List Met) → has group (groups_of (onto (decision_note d) met)) ≡ false → (has group (groups_of (decision_note d)) ≡ false) × (has group (groups_of met) ≡ false)
  note_absent None met none = (refl, none)
  note_absent (Some d) met none =
      let both = sym (has_with d.group (groups_of met) group) ∙ none in
      (ap (λ t. t || false) (or_left (same_group d.group group) (has group (groups_of met)) both), or_right (same_group d.group group) (has group (groups_of met)) both)

  -- ---- where an operation begins

  alone : (own : GroupId) → has group (own ∷ []) ≡ false → All IsOther (own ∷ [])
  alone own none = All-cons IsOther own [] (or_neither (same_group own group) none) (All-nil IsOther)

  named_apart : (own : Option GroupId) → has group (named own) ≡ false → All IsOther (named own)
  named_apart None none = All-nil IsOther
  named_apart (Some own) none = alone own none

  asked_apart : (request : Request) → has group (asked_groups request) ≡ false → All IsOther (asked_groups request)
  asked_apart (Txn transaction) none = alone transaction.group none
  asked_apart (Batch own transactions) none = alone own none
  asked_apart (Read request) none = alone request.group none
  asked_apart (Find request) none = named_apart request.group none
  asked_apart PumpEnter none = All-nil IsOther
  asked_apart PumpHandle none = All-nil IsOther
  asked_apart Refresh none = All-nil IsOther

  begin_still : (s : Setting) (node : Node) (request : Request) (text : List ℕ) → (refusal s node request ≡ None → is_served request ≡ true) → is_pump request ≡ false → has group (asked_groups request) ≡ false
      → Acted (Begins (op_of s node.met) text ∷ node.met) (has_begun s node request text) → applied_at (has_begun s node request text).met (has_begun s node request text).stored group ≡ applied_at node.met node.stored group
  begin_still s node request text built pump none acted =
      still_applied (Begins (op_of s node.met) text ∷ node.met) node.met node.stored (has_begun s node request text) acted (log_stays (Begins (op_of s node.met) text) node.met group refl)
      (begun_walked (Still (node.stored group)) IsOther (still_walks (node.stored group)) s (at_begin s node text) (new_operation (op_of s node.met) request (clock_of node.met)) (refusal s node request) built (asked_apart request none) (stays_apart request pump) refl)

  begin_never : (s : Setting) (node : Node) (request : Request) (text : List ℕ) → has group (groups_of node.met) ≡ false
      → Acted (Begins (op_of s node.met) text ∷ node.met) (has_begun s node request text) → applied_at (has_begun s node request text).met (has_begun s node request text).stored group ≡ applied_at node.met node.stored group
  begin_never s node request text none acted =
      never_applied (Begins (op_of s node.met) text ∷ node.met) node.met node.stored (has_begun s node request text) acted (log_stays (Begins (op_of s node.met) text) node.met group refl) none

-- ---- a decision is of a group that the step touches

pub take_apart : (group : GroupId) (s : Setting) (node : Node) (m : Message) → has group (touched node.met m.body (heard_by s node m)) ≡ false → IsApart group (decision_in s node m)
take_apart group s node m none = new_apart group node.met (brought s node m) (told_apart group (brought s node m) (by (list_any roams ts) none))
  where
    ts : List Heard
    ts = heard_by s node m

    told : List Met
    told = decision_note (brought s node m)

    absent : (met : List Met) → has group (fold with_reach (groups_of met) ts) ≡ false → has group (groups_of met) ≡ false
    absent met none = none_before ts met group (ap (λ (groups : List GroupId). has group groups) (sym (folded ts met)) ∙ none)

    by : (t : Bool) → has group (fold with_reach (told_groups t node.met (brought s node m)) ts) ≡ false → has group (groups_of told) ≡ false
    by true none = (note_absent group (brought s node m) node.met (absent (onto told node.met) none)).0
    by false none = absent told none

-- ---- what is noted then

named_is : (own : Option GroupId) → named own ≡ groups_of (map in_group (named own))
named_is None = refl
named_is (Some own) = refl

asked_is : (request : Request) → asked_groups request ≡ groups_of (map in_group (asked_groups request))
asked_is (Txn transaction) = refl
asked_is (Batch own transactions) = refl
asked_is (Read request) = refl
asked_is (Find request) = named_is request.group
asked_is PumpEnter = refl
asked_is PumpHandle = refl
asked_is Refresh = refl

-- before a step that comes to this the applied positions of such groups tell what is noted then
abbrev pub Noted : Node → List Before → Now → Type 0
Noted node before now = flat_map (note_since now.met now.stored) before ≡ flat_map (apply_note node.met node.stored now.met now.stored) (groups_of now.met)

noted_of : (node : Node) (groups : List GroupId) (before : List Before) (now : Now) (one : List Met)
    → before ≡ map (before_at node.met node.stored) groups → groups ≡ groups_of one
    → ((group : GroupId) → has group groups ≡ false → applied_at now.met now.stored group ≡ applied_at node.met node.stored group) → Noted node before now
noted_of node groups before now one before_is groups_are still =
    ap (λ (some : List Before). flat_map (note_since now.met now.stored) some) (before_is ∙ ap (map (before_at node.met node.stored)) groups_are)
    ∙ all_noted node.met node.stored now.met now.stored one (λ group none. still group (ap (λ (some : List GroupId). has group some) groups_are ∙ none))

pub take_noted : (s : Setting) (node : Node) (m : Message) (before : List Before) → All IsServable node.open_operations → Acted (acted_on s node (Take m)) (has_taken s node m)
    → before ≡ map (before_at node.met node.stored) (touched node.met m.body (heard_by s node m)) → Noted node before (has_taken s node m)
take_noted s node m before built acted is = by (list_any roams ts) refl is
  where
    ts : List Heard
    ts = heard_by s node m

    told : List Met
    told = decision_note (brought s node m)

    now : Now
    now = has_taken s node m

    absent : (met : List Met) (group : GroupId) → has group (fold with_reach (groups_of met) ts) ≡ false → has group (groups_of (fold reached met ts)) ≡ false
    absent met group none = ap (λ (groups : List GroupId). has group groups) (sym (folded ts met)) ∙ none

    still : (group : GroupId) → list_any roams ts ≡ false → has group (fold with_reach (groups_of told) ts) ≡ false → applied_at now.met now.stored group ≡ applied_at node.met node.stored group
    still group quiet none = take_still group s node m (none_before ts told group (absent told group none)) (all_other group ts told (absent told group none)) built quiet acted

    never : (group : GroupId) → has group (fold with_reach (groups_of (onto told node.met)) ts) ≡ false → applied_at now.met now.stored group ≡ applied_at node.met node.stored group
    never group none =
        let away = absent (onto told node.met) group none in
        let parts = note_absent group (brought s node m) node.met (none_before ts (onto told node.met) group away) in
        take_never group s node m parts.0 (all_other group ts (onto told node.met) away) parts.1 acted

    by : (t : Bool) → list_any roams ts ≡ t → before ≡ map (before_at node.met node.stored) (fold with_reach (told_groups t node.met (brought s node m)) ts) → Noted node before now
    by false quiet before_is = noted_of node (fold with_reach (groups_of told) ts) before now (fold reached told ts) before_is (folded ts told) (λ group none. still group quiet none)
    by true roaming before_is =
        noted_of node (fold with_reach (groups_of (onto told node.met)) ts) before now (fold reached (onto told node.met) ts) before_is (folded ts (onto told node.met)) (λ group none. never group none)

pub begin_noted : (s : Setting) (node : Node) (request : Request) (text : List ℕ) (before : List Before) → (refusal s node request ≡ None → is_served request ≡ true)
    → Acted (Begins (op_of s node.met) text ∷ node.met) (has_begun s node request text)
    → before ≡ map (before_at node.met node.stored) (begun_groups node.met request) → Noted node before (has_begun s node request text)
begin_noted s node request text before built acted is = by (is_pump request) refl is
  where
    by : (t : Bool) → is_pump request ≡ t → before ≡ map (before_at node.met node.stored) (begun_by t node.met request) → Noted node before (has_begun s node request text)
    by true pump before_is = noted_of node (groups_of node.met) before (has_begun s node request text) node.met before_is refl (λ group none. begin_never group s node request text none acted)
    by false pump before_is =
        noted_of node (asked_groups request) before (has_begun s node request text) (map in_group (asked_groups request)) before_is (asked_is request) (λ group none. begin_still group s node request text built pump none acted)

-- ---- of a group of which all is applied that is decided a tick applies nothing more

fewer : (said : GroupId → List Met) (test : GroupId → Bool) (groups : List GroupId) → ((group : GroupId) → test group ≡ false → said group ≡ []) → flat_map said (filter test groups) ≡ flat_map said groups
fewer said test [] none = refl
fewer said test (group ∷ groups) none = go (test group) refl (fewer said test groups none)
  where
    go : (t : Bool) → test group ≡ t → flat_map said (filter test groups) ≡ flat_map said groups → flat_map said (cond t (group ∷ filter test groups) (filter test groups)) ≡ said group ++ flat_map said groups
    go true e rest = ap (λ (notes : List Met). said group ++ notes) rest
    go false e rest = rest ∙ ap (λ (notes : List Met). notes ++ flat_map said groups) (sym (none group e))

no_more : (was now whole : ℕ) → nat_lt was whole ≡ false → now ≤ whole → nat_lt was now ≡ false
no_more was now whole all within = grind (arith, nat_tests)

pub tick_noted : (s : Setting) (node : Node) (clock : ℕ) (before : List Before) → groups_of (acted_on s node (Tick clock)) ≡ groups_of node.met
    → ((group : GroupId) → log_of (acted_on s node (Tick clock)) group ≡ log_of node.met group) → Acted (acted_on s node (Tick clock)) (has_ticked s node clock)
    → before ≡ map (before_at node.met node.stored) (behind true node.met node.stored) → Noted node before (has_ticked s node clock)
tick_noted s node clock before groups_are logs_are acted is =
    ap (λ (some : List Before). flat_map (note_since now.met now.stored) some) is
    ∙ (since_is node.met node.stored now.met now.stored (behind true node.met node.stored)
    ∙ (fewer said (is_behind node.met node.stored) (groups_of node.met) whole
    ∙ ap (flat_map said) (sym same)))
  where
    now : Now
    now = has_ticked s node clock

    said : GroupId → List Met
    said = apply_note node.met node.stored now.met now.stored

    same : groups_of now.met ≡ groups_of node.met
    same = ap groups_of acted.met_is ∙ (groups_after now.valid (acted_on s node (Tick clock)) (mute_undecided now.valid (All-weaker IsValidate IsMute validate_mute now.valid acted.valid)) ∙ groups_are)

    within : (group : GroupId) → applied_at now.met now.stored group ≤ prefix_of node.met group
    within group = subst (λ (log : List Content). applied_at now.met now.stored group ≤ length log) (log_acted group (acted_on s node (Tick clock)) node.met now acted (logs_are group)) (applied_within (log_of now.met group) (now.stored group))

    whole : (group : GroupId) → is_behind node.met node.stored group ≡ false → said group ≡ []
    whole group all =
        ap (λ t. cond t (Applies group (applied_at now.met now.stored group) ∷ []) [])
        (no_more (applied_at node.met node.stored group) (applied_at now.met now.stored group) (prefix_of node.met group) all (within group))

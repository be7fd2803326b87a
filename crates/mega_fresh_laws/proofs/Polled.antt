-- What an operation proposes that polled its group stands above each position that was decided before it first asked, in every run, whether leases are safe or
-- not.
use Rattle.std.proofs.Common.{ℕ, ◌≡◌, inl, inr, suc, ◌+◌, ◌-◌, ◌||◌, ◌≤◌, ◌<◌, Bool, true, false, List, [], ◌∷◌, ◌++◌, Some, length, refl, sym, ap, ◌∙◌, subst, arith}
use Rattle.std.proofs.lemmas.Bool.{and_parts}
use Rattle.mega_base.specs.declared.names.GroupId.{GroupId}
use Rattle.mega_base.specs.declared.names.NodeId.{NodeId}
use Rattle.mega_base.specs.declared.names.OpId.{OpId}
use Rattle.mega_base.specs.declared.names.Position.{Position}
use Rattle.mega_cluster.specs.declared.cluster.Cluster.{Cluster}
use Rattle.mega_entry.specs.declared.content.Content.{Content}
use Rattle.mega_handler.specs.Named.{Meanings}
use Rattle.mega_wire.specs.declared.message.Body.{Body}
use Rattle.mega_wire.specs.declared.message.Body.TheVariants.{Where}
use Rattle.mega_wal.specs.Same.{same_group, same_op}
use Rattle.mega_wal.proofs.Sames.{same_group_equal, same_op_equal}
use Rattle.mega_leased_laws.specs.of_settled_laws.of_run_laws.of_tape_laws.of_promises.of_transcript.declared.item.Item.{Item}
use Rattle.mega_leased_laws.specs.of_settled_laws.of_run_laws.of_tape_laws.of_promises.of_transcript.declared.item.Item.TheVariants.{Decide, Sent}
use Rattle.mega_leased_laws.specs.of_settled_laws.of_run_laws.of_tape_laws.of_promises.of_transcript.Tape.{sent_count}
use Rattle.mega_leased_laws.specs.of_settled_laws.of_run_laws.of_tape_laws.of_promises.Fresh.{polls, proposes}
use Rattle.mega_leased_laws.specs.of_settled_laws.of_run_laws.of_tape_laws.of_promises.Promises.{Stands, StoodBefore}
use Rattle.mega_leased_laws.specs.of_settled_laws.of_run_laws.of_tape_laws.of_promises.Runs.{Happening, IsRun}
use Rattle.mega_leased_laws.specs.of_settled_laws.of_run_laws.of_tape_laws.Lawful.{Lawful, message}
use Rattle.mega_leased_laws.specs.of_settled_laws.of_run_laws.of_tape_laws.Polls.{ArePolls}
use Rattle.mega_leased_laws.specs.of_settled_laws.of_run_laws.of_tape_laws.Writes.{Usage}
use Rattle.mega_leased_laws.specs.of_settled_laws.of_run_laws.Usages.{Fits}
use Rattle.mega_leased_laws.proofs.of_settled_laws.of_run_laws.Runs.{run_lawful, run_polls}
use Rattle.mega_leased_laws.proofs.of_settled_laws.of_run_laws.Sending.{Stood}
use Rattle.mega_leased_laws.specs.of_settled_laws.Covering.{Earlier}
use Rattle.mega_leased_laws.specs.of_valid_laws.Leases.{asks_end, has_polled}
use Rattle.mega_leased_laws.proofs.of_valid_laws.Joint.{polled_is}
use Rattle.mega_leased_laws.specs.Items.{Are}
use Rattle.mega_leased_laws.proofs.Polls.{polled_on}
use Rattle.mega_leased_laws.proofs.of_settled_laws.Tapes.{stood_behind}
use Rattle.mega_fresh_laws.proofs.Asked.{poll_covers}
use Rattle.mega_fresh_laws.proofs.Inquired.{Inquired, IsNumbered, numbers_most, run_inquired}
use Rattle.mega_fresh_laws.proofs.Inquiries.{HasHeard, IsInquired, Unoffered}
use Rattle.mega_fresh_laws.proofs.Promised.{ItemAt, item_at, proposals}
use Rattle.mega_leased_laws.proofs.of_settled_laws.of_run_laws.of_tape_laws.Ballots.{clash}

-- where one item stood before another
record Behind (first item : Item) (tape : List Item) : Type 0 where
  moment : List Item
  later : List Item
  is : tape ≡ later ++ item ∷ moment
  stands : Stands first moment

behind_of : (first item : Item) (tape : List Item) → StoodBefore first item tape → Behind first item tape
behind_of first item [] s = absurd s
behind_of first item (other ∷ before) (inl both) = record { moment = before; later = []; is = ap (λ x. x ∷ before) both.0; stands = both.1 }
behind_of first item (other ∷ before) (inr s) = let rest = behind_of first item before s in record { moment = rest.moment; later = other ∷ rest.later; is = ap (λ t. other ∷ t) rest.is; stands = rest.stands }

are_before : (P : List Item → Item → Type 0) (later before : List Item) → Are P (later ++ before) → Are P before
are_before P [] before law = law
are_before P (item ∷ later) before law = are_before P later before law.1

-- a question that stands
record Question (tape : List Item) (op : OpId) (group : GroupId) : Type 0 where
  key : ℕ
  from : ℕ
  to : ℕ
  stands : Stands (Sent key (message from to (Where op group))) tape

question_later : (tape : List Item) (item : Item) (op : OpId) (group : GroupId) → Question tape op group → Question (item ∷ tape) op group
question_later tape item op group q = record { key = q.key; from = q.from; to = q.to; stands = inr q.stands }

question_of : (tape : List Item) (op : OpId) (group : GroupId) → has_polled tape op group ≡ true → Question tape op group
question_of [] op group h = cc
question_of (Sent key m ∷ before) op group h = by (asks_end op group m.body) refl h (question_of before op group)
  where
    asked : (body : Body) → asks_end op group body ≡ true → Stands (Sent key (message m.from m.to body)) (Sent key (message m.from m.to body) ∷ before) → Question (Sent key (message m.from m.to body) ∷ before) op group
    asked (Where asking g) e s = let parts = and_parts (same_op asking op) (same_group g group) e in record {
      key = key;
      from = m.from;
      to = m.to;
      stands = inl (λ i. Sent key (message m.from m.to (Where (same_op_equal asking op parts.0 i) (same_group_equal g group parts.1 i))));
    }
    asked _ e s = cc

    by : (t : Bool) → asks_end op group m.body ≡ t → (t || has_polled before op group) ≡ true → (has_polled before op group ≡ true → Question before op group) → Question (Sent key m ∷ before) op group
    by true e k again = asked m.body e (inl refl)
    by false e k again = question_later before (Sent key m) op group (again k)
question_of (item ∷ before) op group h = question_later before item op group (question_of before op group h)

-- it was sent by the operation's node
from_node : (c : Cluster) (tape : List Item) → Are (IsInquired c) tape → (key from to : ℕ) (op : OpId) (group : GroupId) → Stands (Sent key (message from to (Where op group))) tape → from ≡ op.node.0
from_node c [] law key from to op group s = absurd s
from_node c (item ∷ before) law key from to op group (inl same) = let asked : (from ≡ op.node.0) × Unoffered before op = subst (IsInquired c before) same law.0 in asked.0
from_node c (item ∷ before) law key from to op group (inr s) = from_node c before law.1 key from to op group s

abbrev asks_item : Item → Bool
asks_item (Sent key m) = by m.body
  where
    by : Body → Bool
    by (Where op group) = true
    by _ = false
asks_item _ = false

-- behind a proposal its operation asks nothing
no_question : (c : Cluster) (later before : List Item) (op : OpId) (group : GroupId) (number to : ℕ) (m : Position) (own : Content) (key voter : ℕ) → Are (IsInquired c) (later ++ proposes number op to group m own ∷ before) → own.id ≡ Some op
    → has_polled before op group ≡ false → Stands (polls key op voter group) (later ++ proposes number op to group m own ∷ before) → ⊥
no_question c [] before op group number to m own key voter law id none (inl same) = clash true refl (sym (ap asks_item same))
no_question c [] before op group number to m own key voter law id none (inr s) = clash (has_polled before op group) (polled_is before key op.node.0 voter op group s) none
no_question c (item ∷ later) before op group number to m own key voter law id none (inl same) =
    let asked : (op.node.0 ≡ op.node.0) × Unoffered (later ++ proposes number op to group m own ∷ before) op = subst (IsInquired c (later ++ proposes number op to group m own ∷ before)) same law.0 in
    asked.1 number to group m own id (stood_behind later (proposes number op to group m own ∷ before) (proposes number op to group m own) (inl refl))
no_question c (item ∷ later) before op group number to m own key voter law id none (inr s) = no_question c later before op group number to m own key voter law.1 id none s

module _ (c : Cluster) (tape : List Item) (l : Lawful c tape) (q : ArePolls tape) (law : Inquired c tape) where
  -- the first question, by its number
  first_question : (op : OpId) (asked voter : ℕ) (group : GroupId) (later moment : List Item) → tape ≡ later ++ polls asked op voter group ∷ moment → ((other another : ℕ) → Stands (polls other op another group) tape → asked ≤ other)
      → has_polled moment op group ≡ false
  first_question op asked voter group later moment is least = by (has_polled moment op group) refl
    where
      items : Are (IsInquired c) (polls asked op voter group ∷ moment)
      items = are_before (IsInquired c) later (polls asked op voter group ∷ moment) (subst (Are (IsInquired c)) is law.items)

      numbers : Are IsNumbered (polls asked op voter group ∷ moment)
      numbers = are_before IsNumbered later (polls asked op voter group ∷ moment) (subst (Are IsNumbered) is law.numbered)

      over : (a b n : ℕ) → a ≤ b → b ≤ n → a ≡ n + 1 → ⊥
      over a b n le most next = omega (arith, le, most, next)

      earlier : Question moment op group → ⊥
      earlier one = over asked one.key (sent_count moment)
          (least one.key one.to (subst (Stands _) (sym is) (stood_behind later (polls asked op voter group ∷ moment) _ (inr (subst (λ from. Stands (Sent one.key (message from one.to (Where op group))) moment)
          (from_node c moment items.1 one.key one.from one.to op group one.stands) one.stands)))))
          (numbers_most moment numbers.1 one.key (message one.from one.to (Where op group)) one.stands) numbers.0

      by : (t : Bool) → has_polled moment op group ≡ t → t ≡ false
      by false e = refl
      by true e = absurd (earlier (question_of moment op group e))

  polled_above : (op : OpId) (number to asked voter : ℕ) (group : GroupId) (m n : Position) (own entry : Content) (node : NodeId) → own.id ≡ Some op → Stands (proposes number op to group m own) tape
      → ((other another : ℕ) → Stands (polls other op another group) tape → asked ≤ other) → StoodBefore (Decide node group n entry) (polls asked op voter group) tape → n.0 ≤ m.0 - 1
  polled_above op number to asked voter group m n own entry node id s least behind = by (at.holds refl id)
    where
      at : ItemAt (IsInquired c) (proposes number op to group m own) tape
      at = item_at (IsInquired c) (proposes number op to group m own) tape law.items s

      asking : Behind (Decide node group n entry) (polls asked op voter group) tape
      asking = behind_of (Decide node group n entry) (polls asked op voter group) tape behind

      moment_earlier : Earlier asking.moment tape
      moment_earlier = record { later = asking.later ++ polls asked op voter group ∷ []; is = asking.is ∙ grouped asking.later }
        where
          grouped : (later : List Item) → later ++ polls asked op voter group ∷ asking.moment ≡ (later ++ polls asked op voter group ∷ []) ++ asking.moment
          grouped [] = refl
          grouped (x ∷ later) = ap (λ t. x ∷ t) (grouped later)

      stood : Stood at.before tape
      stood x k = subst (Stands x) (sym at.is) (stood_behind at.later (proposes number op to group m own ∷ at.before) x (inr k))

      by : HasHeard c at.before op group (m.0 - 1) → n.0 ≤ m.0 - 1
      by (inl polled) = poll_covers c tape l q op group n (record { 0 = m.0 - 1 }) asking.moment moment_earlier (first_question op asked voter group asking.later asking.moment asking.is least) node entry asking.stands
          (polled_on c at.before tape op group (record { 0 = m.0 - 1 }) stood polled)
      by (inr none) = absurd (no_question c at.later at.before op group number to m own asked voter (subst (Are (IsInquired c)) at.is law.items) id none
          (subst (Stands (polls asked op voter group)) at.is (subst (Stands (polls asked op voter group)) (sym asking.is) (stood_behind asking.later (polls asked op voter group ∷ asking.moment) (polls asked op voter group) (inl refl)))))

module _ (c : Cluster) (usage : Usage) (first : Meanings) (events : List Happening) (tape : List Item) (few : length c.nodes ≤ 9) (five : c.cells ≤ 5) (run : IsRun c first events tape) (fits : Fits usage events) where
  pub polled : (op : OpId) (number to asked voter : ℕ) (group : GroupId) (m n : Position) (own entry : Content) (node : NodeId) → own.id ≡ Some op → Stands (proposes number op to group m own) tape
      → ((other another : ℕ) → Stands (polls other op another group) tape → asked ≤ other) → StoodBefore (Decide node group n entry) (polls asked op voter group) tape → n.0 < m.0
  polled op number to asked voter group m n own entry node id s least behind =
      let through = proposals c usage first events tape few five run fits op number to group m own id s in
      above n.0 m.0 through.p (through.shows).0
      (polled_above c tape (run_lawful c first events tape run) (run_polls c first events tape run) (run_inquired c usage first events tape run fits) op number to asked voter group m n own entry node id s least behind)
    where
      above : (a b p : ℕ) → b ≡ suc p → a ≤ b - 1 → a < b
      above a b p is le = omega (arith, is, le)

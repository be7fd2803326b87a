-- What a node notes comes onto the tape, and leaves what was made and moved as it was.
use Rattle.std.proofs.Common.{◌≡◌, inl, inr, ℕ, ◌+◌, ◌==◌, ◌&&◌, Bool, true, false, not, cond, List, [], ◌∷◌, ◌++◌, flat_map, Option, Some, None, refl, sym, ap, ◌∙◌, subst, arith}
use Rattle.std.specs.List.{cons_option}
use Rattle.std.proofs.lemmas.Bool.{and_parts}
use Rattle.mega_base.specs.declared.names.GroupId.{GroupId}
use Rattle.mega_base.specs.declared.names.OpId.{OpId}
use Rattle.mega_cluster.specs.declared.cluster.Cluster.{Cluster}
use Rattle.mega_entry.specs.declared.content.Content.{Content}
use Rattle.mega_wire.specs.declared.message.Message.{Message}
use Rattle.mega_wal.specs.Same.{same_group}
use Rattle.mega_wal.proofs.Sames.{same_group_equal}
use Rattle.mega_tape_laws.specs.of_transcript.declared.item.Item.{Item}
use Rattle.mega_tape_laws.specs.of_transcript.declared.item.Item.TheVariants.{Sent, Unsafe, Decide, Grant, Lapse, Counts as CountsItem, Forgets as ForgetsItem, Serving, Lost, Valid, Invalid, Apply, Answer as AnswerItem}
use Rattle.mega_tape_laws.specs.of_promises.Items.{number, numbered, shown}
use Rattle.mega_tape_laws.specs.of_promises.Messages.{is_unsafe}
use Rattle.mega_tape_laws.specs.of_promises.Promises.{Stands}
use Rattle.mega_tape_laws.specs.of_promises.Runs.{breaks, with_item, with_items}
use Rattle.mega_tape_laws.specs.of_rules.Met.{Met, Starts, Crashes, Ticks, Begins, Takes, Sends, Unsends, Grants, Lapses, Counts, Forgets, Serves, Loses, Validates, Invalidates, Decides, Applies, Answers}
use Rattle.mega_tape_laws.specs.of_rules.Clock.{begun_of, start_of}
use Rattle.mega_tape_laws.specs.of_rules.Logs.{decided, first_of}
use Rattle.mega_tape_laws.specs.of_rules.Operations.{Node}
use Rattle.mega_tape_laws.specs.of_rules.Steps.{onto}
use Rattle.mega_tape_laws.specs.of_rules.Voting.{acts as acts_met}
use Rattle.mega_tape_laws.specs.Places.{Place, act_of, acts, move_of, moves}
use Rattle.mega_tape_laws.specs.Lawful.{Allowed, Lawful, MayDecide, settled, told, given}
use Rattle.mega_tape_laws.specs.Polls.{ArePolls, IsPolling, has_asked}
use Rattle.mega_tape_laws.specs.Writes.{AreWritten, IsWritten, Usage, has_begun}
use Rattle.mega_schema.specs.declared.schema.Schema.{Schema}
use Rattle.mega_tape_laws.proofs.Ballots.{number_is}
use Rattle.mega_tape_laws.proofs.Lists.{some_is}
use Rattle.mega_run_laws.specs.Justified.{Each, sent}
use Rattle.mega_run_laws.proofs.Sending.{Stood, took_on}
use Rattle.mega_run_laws.proofs.Prefixes.{prefix_more}
use Rattle.mega_run_laws.proofs.Opened.{Grew, at_place}
use Rattle.mega_run_laws.proofs.Turns.{Known}

-- ---- tapes

pub record TapeOn (c : Cluster) (old new : List Item) : Type 0 where
  pub lawful : Lawful c old → Lawful c new
  pub stood : Stood old new
  pub moved : (x : OpId) (q : Place) → moves new x q ≡ moves old x q
  pub made : (voter : ℕ) (q : Place) → acts new voter q ≡ acts old voter q
  pub asked : (x : OpId) → has_asked new x ≡ has_asked old x
  pub polls : ArePolls old → ArePolls new
  pub written : (schema : Schema) (usage : Usage) → AreWritten schema usage old → AreWritten schema usage new

pub tape_same : (c : Cluster) (tape : List Item) → TapeOn c tape tape
tape_same c tape = record { lawful = λ l. l; stood = λ item s. s; moved = λ x q. refl; made = λ voter q. refl; asked = λ x. refl; polls = λ p. p; written = λ schema usage w. w }

pub tape_then : (c : Cluster) (old mid new : List Item) → TapeOn c old mid → TapeOn c mid new → TapeOn c old new
tape_then c old mid new a b = record {
  lawful = λ l. b.lawful (a.lawful l);
  stood = λ item s. b.stood item (a.stood item s);
  moved = λ x q. b.moved x q ∙ a.moved x q;
  made = λ voter q. b.made voter q ∙ a.made voter q;
  asked = λ x. b.asked x ∙ a.asked x;
  polls = λ p. b.polls (a.polls p);
  written = λ schema usage w. b.written schema usage (a.written schema usage w);
}

none_first : {X : Type 0} (o : Option X) (xs : List X) → o ≡ None → cons_option o xs ≡ xs
none_first o xs h = ap (λ x. cons_option x xs) h

pub tape_item : (c : Cluster) (tape : List Item) (item : Item) → Allowed c tape item → ((x : OpId) (q : Place) → move_of x q item ≡ None) → ((voter : ℕ) (q : Place) → act_of voter q item ≡ None)
    → ((x : OpId) → has_asked (item ∷ tape) x ≡ has_asked tape x) → IsPolling tape item → ((schema : Schema) (usage : Usage) → IsWritten schema usage tape item) → TapeOn c tape (item ∷ tape)
tape_item c tape item may no_move no_act no_ask poll write = record {
  lawful = λ l. (may, l);
  stood = λ other s. inr s;
  moved = λ x q. none_first (move_of x q item) (moves tape x q) (no_move x q);
  made = λ voter q. none_first (act_of voter q item) (acts tape voter q) (no_act voter q);
  asked = no_ask;
  polls = λ p. (poll, p);
  written = λ schema usage w. (write schema usage, w);
}

unsafe_too : (c : Cluster) (old tape : List Item) (t : Bool) → TapeOn c old tape → TapeOn c old (cond t (Unsafe ∷ tape) tape)
unsafe_too c old tape true h = tape_then c old tape (Unsafe ∷ tape) h (tape_item c tape Unsafe tt (λ x q. refl) (λ voter q. refl) (λ x. refl) tt (λ schema usage. tt))
unsafe_too c old tape false h = h

-- an item, with the one that may follow it
pub tape_with : (c : Cluster) (nodes : ℕ → Node) (tape : List Item) (item : Item) → Allowed c tape item → ((x : OpId) (q : Place) → move_of x q item ≡ None) → ((voter : ℕ) (q : Place) → act_of voter q item ≡ None)
    → ((x : OpId) → has_asked (item ∷ tape) x ≡ has_asked tape x) → IsPolling tape item → ((schema : Schema) (usage : Usage) → IsWritten schema usage tape item) → TapeOn c tape (with_item c nodes tape item)
tape_with c nodes tape item may no_move no_act no_ask poll write = unsafe_too c tape (item ∷ tape) (breaks c nodes item && not (is_unsafe tape)) (tape_item c tape item may no_move no_act no_ask poll write)

stands_with : (tape : List Item) (item : Item) (t : Bool) → Stands item (cond t (Unsafe ∷ item ∷ tape) (item ∷ tape))
stands_with tape item true = inr (inl refl)
stands_with tape item false = inl refl

with_begun : (c : Cluster) (nodes : ℕ → Node) (tape : List Item) (item : Item) → ((x : OpId) → has_begun (item ∷ tape) x ≡ has_begun tape x) → (x : OpId) → has_begun (with_item c nodes tape item) x ≡ has_begun tape x
with_begun c nodes tape item same x = go (breaks c nodes item && not (is_unsafe tape))
  where
    go : (t : Bool) → has_begun (cond t (Unsafe ∷ item ∷ tape) (item ∷ tape)) x ≡ has_begun tape x
    go true = same x
    go false = same x

pub with_append : (c : Cluster) (nodes : ℕ → Node) (xs ys tape : List Item) → with_items c nodes tape (xs ++ ys) ≡ with_items c nodes (with_items c nodes tape xs) ys
with_append c nodes [] ys tape = refl
with_append c nodes (x ∷ xs) ys tape = with_append c nodes xs ys (with_item c nodes tape x)

pub with_sent : (c : Cluster) (nodes : ℕ → Node) (n : ℕ) (ms : List Message) (tape : List Item) → with_items c nodes tape (numbered n ms) ≡ sent n ms tape
with_sent c nodes n [] tape = refl
with_sent c nodes n (m ∷ ms) tape = with_sent c nodes (n + 1) ms (Sent n m ∷ tape)

-- ---- notes

pub may_decide_on : (c : Cluster) (old new : List Item) → Stood old new → (node : ℕ) (p : Place) (e : Content) → MayDecide c old node p e → MayDecide c new node p e
may_decide_on c old new s node p e (settled op b test at majority heard) = settled op b test at majority (λ voter h. took_on old new s _ (heard voter h))
may_decide_on c old new s node p e (told from took) = told from (took_on old new s _ took)
may_decide_on c old new s node p e (given from op took) = given from op (took_on old new s _ took)

-- what a step may note behind the event's own item
abbrev pub MayBeNoted : Cluster → List Item → ℕ → Met → Type 0
MayBeNoted c tape me (Decides g n e) = MayDecide c tape me (at_place g n) e
MayBeNoted c tape me (Starts start) = ⊥
MayBeNoted c tape me Crashes = ⊥
MayBeNoted c tape me (Ticks now) = ⊥
MayBeNoted c tape me (Begins op text) = ⊥
MayBeNoted c tape me (Takes m) = ⊥
MayBeNoted c tape me (Sends m) = ⊥
MayBeNoted c tape me (Unsends m) = ⊥
MayBeNoted c tape me _ = Unit {0}

pub note_on : (c : Cluster) (old new : List Item) → Stood old new → (me : ℕ) (one : Met) → MayBeNoted c old me one → MayBeNoted c new me one
note_on c old new s me (Decides g n e) h = may_decide_on c old new s me (at_place g n) e h
note_on c old new s me (Starts start) h = h
note_on c old new s me Crashes h = h
note_on c old new s me (Ticks now) h = h
note_on c old new s me (Begins op text) h = h
note_on c old new s me (Takes m) h = h
note_on c old new s me (Sends m) h = h
note_on c old new s me (Unsends m) h = h
note_on c old new s me _ h = tt

-- what a node met before and after
pub record MetOn (met more : List Met) : Type 0 where
  pub made : (g : GroupId) (n : ℕ) → acts_met more g n ≡ acts_met met g n
  pub start : start_of more ≡ start_of met
  pub begun : begun_of more ≡ begun_of met
  pub grew : Grew met more

pub record Follows (c : Cluster) (me : ℕ) (old : List Item) (met : List Met) (new : List Item) (more : List Met) : Type 0 where
  pub tape : TapeOn c old new
  pub met_on : MetOn met more
  pub begun : (x : OpId) → has_begun new x ≡ has_begun old x
  pub known : Known me met old → Known me more new

known_same : (me : ℕ) (met more : List Met) (old new : List Item) → Stood old new → ((g : GroupId) (n : ℕ) → decided more g n ≡ decided met g n) → Known me met old → Known me more new
known_same me met more old new s same k g n e h = s _ (k g n e (sym (same g n) ∙ h))

one_plain : (c : Cluster) (me : ℕ) (nodes : ℕ → Node) (tape : List Item) (met : List Met) (one : Met) (item : Item) → Allowed c tape item → ((x : OpId) (q : Place) → move_of x q item ≡ None) → ((voter : ℕ) (q : Place) → act_of voter q item ≡ None) → ((x : OpId) → has_asked (item ∷ tape) x ≡ has_asked tape x) → IsPolling tape item → ((schema : Schema) (usage : Usage) → IsWritten schema usage tape item) → ((x : OpId) → has_begun (item ∷ tape) x ≡ has_begun tape x)
    → ((g : GroupId) (n : ℕ) → decided (one ∷ met) g n ≡ decided met g n) → ((g : GroupId) (n : ℕ) → acts_met (one ∷ met) g n ≡ acts_met met g n) → start_of (one ∷ met) ≡ start_of met → begun_of (one ∷ met) ≡ begun_of met
    → Follows c me tape met (with_item c nodes tape item) (one ∷ met)
one_plain c me nodes tape met one item may no_move no_act no_ask poll write no_begin same made start begun =
    let on = tape_with c nodes tape item may no_move no_act no_ask poll write in
    record { tape = on; begun = with_begun c nodes tape item no_begin; met_on = record { made = made; start = start; begun = begun; grew = prefix_more one met }; known = λ k. known_same me met (one ∷ met) tape (with_item c nodes tape item) on.stood same k }

known_decides : (c : Cluster) (me : ℕ) (nodes : ℕ → Node) (tape : List Item) (met : List Met) (g : GroupId) (n : ℕ) (e : Content) → Known me met tape → Stood tape (with_item c nodes tape (Decide (number me) g (record { 0 = n }) e))
    → Known me (Decides g n e ∷ met) (with_item c nodes tape (Decide (number me) g (record { 0 = n }) e))
known_decides c me nodes tape met g n e k s h m d is = go (same_group g h && n == m) refl (decided met h m) refl is
  where
    here : (same_group g h && n == m) ≡ true → e ≡ d → Stands (Decide (number me) h (record { 0 = m }) d) (with_item c nodes tape (Decide (number me) g (record { 0 = n }) e))
    here t same = let parts = and_parts (same_group g h) (n == m) t in
        coe 0 1 (i. Stands (Decide (number me) (same_group_equal g h parts.0 i) (record { 0 = number_is n m parts.1 i }) (same i)) (with_item c nodes tape (Decide (number me) g (record { 0 = n }) e)))
        (stands_with tape (Decide (number me) g (record { 0 = n }) e) (breaks c nodes (Decide (number me) g (record { 0 = n }) e) && not (is_unsafe tape)))

    go : (t : Bool) → (same_group g h && n == m) ≡ t → (o : Option Content) → decided met h m ≡ o → cond t (first_of (decided met h m) e) (decided met h m) ≡ Some d
        → Stands (Decide (number me) h (record { 0 = m }) d) (with_item c nodes tape (Decide (number me) g (record { 0 = n }) e))
    go true t None a is = here t (some_is e d (ap (λ x. first_of x e) (sym a) ∙ is))
    go true t (Some first) a is = s _ (k h m d (a ∙ ap (λ x. first_of x e) (sym a) ∙ is))
    go false t o a is = s _ (k h m d is)

pub one_note : (c : Cluster) (me : ℕ) (nodes : ℕ → Node) (tape : List Item) (met : List Met) (one : Met) → MayBeNoted c tape me one → Follows c me tape met (with_items c nodes tape (shown me one)) (one ∷ met)
one_note c me nodes tape met (Decides g n e) may =
    let on = tape_with c nodes tape (Decide (number me) g (record { 0 = n }) e) may (λ x q. refl) (λ voter q. refl) (λ x. refl) tt (λ schema usage. tt) in
    record { tape = on; begun = with_begun c nodes tape (Decide (number me) g (record { 0 = n }) e) (λ x. refl); met_on = record { made = λ h m. refl; start = refl; begun = refl; grew = prefix_more (Decides g n e) met }; known = λ k. known_decides c me nodes tape met g n e k on.stood }
one_note c me nodes tape met (Starts start) may = absurd may
one_note c me nodes tape met Crashes may = absurd may
one_note c me nodes tape met (Ticks now) may = absurd may
one_note c me nodes tape met (Begins op text) may = absurd may
one_note c me nodes tape met (Takes m) may = absurd may
one_note c me nodes tape met (Sends m) may = absurd may
one_note c me nodes tape met (Unsends m) may = absurd may
one_note c me nodes tape met (Grants node epoch) may = one_plain c me nodes tape met (Grants node epoch) (Grant me (number node) epoch) tt (λ x q. refl) (λ voter q. refl) (λ x. refl) tt (λ schema usage. tt) (λ x. refl) (λ g n. refl) (λ g n. refl) refl refl
one_note c me nodes tape met (Lapses node epoch) may = one_plain c me nodes tape met (Lapses node epoch) (Lapse me (number node) epoch) tt (λ x q. refl) (λ voter q. refl) (λ x. refl) tt (λ schema usage. tt) (λ x. refl) (λ g n. refl) (λ g n. refl) refl refl
one_note c me nodes tape met (Counts cell epoch) may = one_plain c me nodes tape met (Counts cell epoch) (CountsItem (number me) cell epoch) tt (λ x q. refl) (λ voter q. refl) (λ x. refl) tt (λ schema usage. tt) (λ x. refl) (λ g n. refl) (λ g n. refl) refl refl
one_note c me nodes tape met (Forgets cell epoch) may = one_plain c me nodes tape met (Forgets cell epoch) (ForgetsItem (number me) cell epoch) tt (λ x q. refl) (λ voter q. refl) (λ x. refl) tt (λ schema usage. tt) (λ x. refl) (λ g n. refl) (λ g n. refl) refl refl
one_note c me nodes tape met (Serves epoch) may = one_plain c me nodes tape met (Serves epoch) (Serving (number me) epoch) tt (λ x q. refl) (λ voter q. refl) (λ x. refl) tt (λ schema usage. tt) (λ x. refl) (λ g n. refl) (λ g n. refl) refl refl
one_note c me nodes tape met (Loses epoch) may = one_plain c me nodes tape met (Loses epoch) (Lost (number me) epoch) tt (λ x q. refl) (λ voter q. refl) (λ x. refl) tt (λ schema usage. tt) (λ x. refl) (λ g n. refl) (λ g n. refl) refl refl
one_note c me nodes tape met (Validates group position) may = one_plain c me nodes tape met (Validates group position) (Valid (number me) group (record { 0 = position })) tt (λ x q. refl) (λ voter q. refl) (λ x. refl) tt (λ schema usage. tt) (λ x. refl) (λ g n. refl) (λ g n. refl) refl refl
one_note c me nodes tape met (Invalidates group position) may = one_plain c me nodes tape met (Invalidates group position) (Invalid (number me) group (record { 0 = position })) tt (λ x q. refl) (λ voter q. refl) (λ x. refl) tt (λ schema usage. tt) (λ x. refl) (λ g n. refl) (λ g n. refl) refl refl
one_note c me nodes tape met (Applies group position) may = one_plain c me nodes tape met (Applies group position) (Apply (number me) group (record { 0 = position })) tt (λ x q. refl) (λ voter q. refl) (λ x. refl) tt (λ schema usage. tt) (λ x. refl) (λ g n. refl) (λ g n. refl) refl refl
one_note c me nodes tape met (Answers op answer) may = one_plain c me nodes tape met (Answers op answer) (AnswerItem op answer) tt (λ x q. refl) (λ voter q. refl) (λ x. refl) tt (λ schema usage. tt) (λ x. refl) (λ g n. refl) (λ g n. refl) refl refl

follows_then : (c : Cluster) (me : ℕ) (old mid new : List Item) (met some more : List Met) → Follows c me old met mid some → Follows c me mid some new more → Follows c me old met new more
follows_then c me old mid new met some more a b = record {
  tape = tape_then c old mid new a.tape b.tape;
  begun = λ x. b.begun x ∙ a.begun x;
  met_on = record {
    made = λ g n. (b.met_on).made g n ∙ (a.met_on).made g n;
    start = (b.met_on).start ∙ (a.met_on).start;
    begun = (b.met_on).begun ∙ (a.met_on).begun;
    grew = λ g. (let one = (a.met_on).grew g in let two = (b.met_on).grew g in omega (arith, one, two));
  };
  known = λ k. b.known (a.known k);
}

pub each_note_on : (c : Cluster) (old new : List Item) → Stood old new → (me : ℕ) (notes : List Met) → Each (MayBeNoted c old me) notes → Each (MayBeNoted c new me) notes
each_note_on c old new s me [] h = tt
each_note_on c old new s me (one ∷ notes) h = (note_on c old new s me one h.0, each_note_on c old new s me notes h.1)

-- the notes of a step come onto the tape
pub notes_follow : (c : Cluster) (me : ℕ) (nodes : ℕ → Node) (notes : List Met) (tape : List Item) (met : List Met) → Each (MayBeNoted c tape me) notes
    → Follows c me tape met (with_items c nodes tape (flat_map (shown me) notes)) (onto notes met)
notes_follow c me nodes [] tape met h = record { tape = tape_same c tape; begun = λ x. refl; met_on = record { made = λ g n. refl; start = refl; begun = refl; grew = λ g. omega arith }; known = λ k. k }
notes_follow c me nodes (one ∷ notes) tape met h =
    let first = one_note c me nodes tape met one h.0 in
    let mid = with_items c nodes tape (shown me one) in
    let rest = notes_follow c me nodes notes mid (one ∷ met) (each_note_on c tape mid (first.tape).stood me notes h.1) in
    subst (λ t. Follows c me tape met t (onto notes (one ∷ met))) (sym (with_append c nodes (shown me one) (flat_map (shown me) notes) tape))
    (follows_then c me tape mid (with_items c nodes mid (flat_map (shown me) notes)) met (one ∷ met) (onto notes (one ∷ met)) first rest)

-- A step leads from a good standing to a good one.
use Rattle.std.proofs.Common.{◌≡◌, ◌⊎◌, inl, inr, ℕ, ◌+◌, ◌==◌, ◌&&◌, ◌≤◌, ◌<◌, nat_lt, Bool, true, false, cond, List, [], ◌∷◌, map, flat_map, Option, refl, sym, ap, ◌∙◌, subst, arith}
use Rattle.std.proofs.lemmas.Bool.Decides.{nat_tests}
use Rattle.std.proofs.lemmas.Bool.{and_left}
use Rattle.mega_base.specs.declared.names.GroupId.{GroupId}
use Rattle.mega_base.specs.declared.names.OpId.{OpId}
use Rattle.mega_cluster.specs.declared.cluster.Cluster.{Cluster}
use Rattle.mega_wire.specs.declared.message.Message.{Message}
use Rattle.mega_tape_laws.specs.of_transcript.declared.item.Item.{Item}
use Rattle.mega_tape_laws.specs.of_promises.Items.{shown}
use Rattle.mega_tape_laws.specs.of_promises.Runs.{Fuse, Standing, set_at, with_items}
use Rattle.mega_tape_laws.specs.of_rules.Met.{Begins, Met, Sends}
use Rattle.mega_tape_laws.specs.of_rules.Clock.{begun_of, is_up, last_number, start_of}
use Rattle.mega_tape_laws.specs.of_rules.Logs.{decided}
use Rattle.mega_tape_laws.specs.of_rules.Operations.{Node, Operation}
use Rattle.mega_tape_laws.specs.of_rules.Steps.{onto}
use Rattle.mega_tape_laws.specs.of_rules.Voting.{acts as acts_met}
use Rattle.mega_tape_laws.specs.Places.{Place, acts, moves}
use Rattle.mega_run_laws.proofs.Owned.{Users, sent_begun}
use Rattle.mega_tape_laws.specs.Lawful.{Lawful}
use Rattle.mega_tape_laws.specs.Polls.{ArePolls, has_asked}
use Rattle.mega_tape_laws.specs.Writes.{AreWritten, has_begun, Usage}
use Rattle.mega_wal.specs.Same.{same_op}
use Rattle.mega_tape_laws.proofs.Ballots.{number_is}
use Rattle.mega_run_laws.specs.Justified.{Each, sent}
use Rattle.mega_run_laws.proofs.Sending.{Stood, stood_sent}
use Rattle.mega_run_laws.proofs.Turns.{Held, IsRising, Known, could, could_not, not_within, within, worn_could}
use Rattle.mega_tape_laws.specs.Answers.{AreAnswered, IsAnswered, has_failed}
use Rattle.mega_schema.specs.declared.schema.Schema.{Schema}
use Rattle.mega_run_laws.proofs.Noted.{Follows, MayBeNoted, TapeOn, notes_follow}
use Rattle.mega_run_laws.proofs.Standing.{FromMe, Good, IsNew, NodeGood, Owes, SentOn, Unmoved, other_good, owes_on, sends_elsewhere, sends_made, sends_on, unmoved_on}

-- what one node's part of a run leaves good
pub record Next (users : Users) (c : Cluster) (now : Standing) (me : ℕ) (tape : List Item) (node : Node) (starts : ℕ → ℕ) (owed : ℕ → List Met) : Type 0 where
  pub lawful : Lawful c tape
  pub stood : Stood now.tape tape
  pub mine : NodeGood users c tape me node
  pub made : (v : ℕ) → (me == v) ≡ false → (q : Place) → acts tape v q ≡ acts now.tape v q
  pub moved : (x : OpId) → (me == x.node.0) ≡ false → (q : Place) → moves tape x q ≡ moves now.tape x q
  pub polls : ArePolls tape
  pub asked : (x : OpId) → (me == x.node.0) ≡ false → has_asked tape x ≡ has_asked now.tape x
  pub fresh : (x : OpId) → x.node.0 ≡ me → IsNew (starts me) node.met x → (q : Place) → moves tape x q ≡ []
  pub unasked : (x : OpId) → x.node.0 ≡ me → IsNew (starts me) node.met x → has_asked tape x ≡ false
  pub worn : (x : OpId) → last_number ≤ x.number → Unmoved tape x
  pub written : users.fits → AreWritten c.schema users.usage tape
  pub begun : (x : OpId) → (me == x.node.0) ≡ false → has_begun tape x ≡ has_begun now.tape x
  pub unbegun : (x : OpId) → x.node.0 ≡ me → IsNew (starts me) node.met x → has_begun tape x ≡ false
  pub answered : users.fits → AreAnswered c.schema users.usage tape
  pub failed : (x : OpId) → (me == x.node.0) ≡ false → has_failed tape x ≡ has_failed now.tape x
  pub unfailed : (x : OpId) → x.node.0 ≡ me → IsNew (starts me) node.met x → has_failed tape x ≡ false
  pub started : start_of node.met ≤ starts me
  pub starts_same : (v : ℕ) → (me == v) ≡ false → starts v ≡ now.starts v
  pub owes : Owes c tape me (owed me)
  pub owed_up : is_up node.met ≡ true → owed me ≡ []
  pub owed_same : (v : ℕ) → (me == v) ≡ false → owed v ≡ now.owed v

false_is : (a b : ℕ) → (a == b) ≡ false → a ≡ b → ⊥
false_is a b h e = grind (arith, nat_tests)

pub next_good : (users : Users) → (c : Cluster) (now : Standing) (me : ℕ) (tape : List Item) (node : Node) (log_fuse data_fuse : ℕ → Option Fuse) (starts records : ℕ → ℕ) (owed : ℕ → List Met) → Good users c now → Next users c now me tape node starts owed
    → Good users c (record { tape = tape; node = set_at now.node me node; log_fuse = log_fuse; data_fuse = data_fuse; starts = starts; records = records; owed = owed })
next_good users c now me tape node log_fuse data_fuse starts records owed g n = record {
  lawful = n.lawful;
  node = λ v. node_of v (me == v) refl;
  starts = λ v. starts_of v (me == v) refl;
  polls = n.polls;
  fresh = λ x new q. fresh_of x q (me == x.node.0) refl new;
  unasked = λ x new. unasked_of x (me == x.node.0) refl new;
  worn = n.worn;
  written = n.written;
  unbegun = λ x new. unbegun_of x (me == x.node.0) refl new;
  answered = n.answered;
  unfailed = λ x new. unfailed_of x (me == x.node.0) refl new;
  owes = λ v. owes_of v (me == v) refl;
  owed = λ v up. owed_of v (me == v) refl up;
}
  where
    node_of : (v : ℕ) (t : Bool) → (me == v) ≡ t → NodeGood users c tape v (cond t node (now.node v))
    node_of v true h = subst (λ w. NodeGood users c tape w node) (number_is me v h) n.mine
    node_of v false h = other_good users c now.tape tape v (now.node v) n.stood (n.made v h) (λ x is q. n.moved x (ap (λ w. me == w) is ∙ h) q) (λ x is. n.failed x (ap (λ w. me == w) is ∙ h)) (g.node v)

    starts_of : (v : ℕ) (t : Bool) → (me == v) ≡ t → start_of (cond t node (now.node v)).met ≤ starts v
    starts_of v true h = subst (λ w. start_of node.met ≤ starts w) (number_is me v h) n.started
    starts_of v false h = subst (λ k. start_of (now.node v).met ≤ k) (sym (n.starts_same v h)) (g.starts v)

    fresh_of : (x : OpId) (q : Place) (t : Bool) → (me == x.node.0) ≡ t → IsNew (starts x.node.0) (cond t node (now.node x.node.0)).met x → moves tape x q ≡ []
    fresh_of x q true h new = let same = number_is me x.node.0 h in n.fresh x (sym same) (subst (λ w. IsNew (starts w) node.met x) (sym same) new) q
    fresh_of x q false h new = n.moved x h q ∙ g.fresh x (subst (λ k. IsNew k (now.node x.node.0).met x) (n.starts_same x.node.0 h) new) q

    unasked_of : (x : OpId) (t : Bool) → (me == x.node.0) ≡ t → IsNew (starts x.node.0) (cond t node (now.node x.node.0)).met x → has_asked tape x ≡ false
    unasked_of x true h new = let same = number_is me x.node.0 h in n.unasked x (sym same) (subst (λ w. IsNew (starts w) node.met x) (sym same) new)
    unasked_of x false h new = n.asked x h ∙ g.unasked x (subst (λ k. IsNew k (now.node x.node.0).met x) (n.starts_same x.node.0 h) new)

    unbegun_of : (x : OpId) (t : Bool) → (me == x.node.0) ≡ t → IsNew (starts x.node.0) (cond t node (now.node x.node.0)).met x → has_begun tape x ≡ false
    unbegun_of x true h new = let same = number_is me x.node.0 h in n.unbegun x (sym same) (subst (λ w. IsNew (starts w) node.met x) (sym same) new)
    unbegun_of x false h new = n.begun x h ∙ g.unbegun x (subst (λ k. IsNew k (now.node x.node.0).met x) (n.starts_same x.node.0 h) new)

    unfailed_of : (x : OpId) (t : Bool) → (me == x.node.0) ≡ t → IsNew (starts x.node.0) (cond t node (now.node x.node.0)).met x → has_failed tape x ≡ false
    unfailed_of x true h new = let same = number_is me x.node.0 h in n.unfailed x (sym same) (subst (λ w. IsNew (starts w) node.met x) (sym same) new)
    unfailed_of x false h new = n.failed x h ∙ g.unfailed x (subst (λ k. IsNew k (now.node x.node.0).met x) (n.starts_same x.node.0 h) new)

    owes_of : (v : ℕ) (t : Bool) → (me == v) ≡ t → Owes c tape v (owed v)
    owes_of v true h = subst (λ w. Owes c tape w (owed w)) (number_is me v h) n.owes
    owes_of v false h = subst (Owes c tape v) (sym (n.owed_same v h)) (owes_on c now.tape tape v n.stood (n.made v h) (now.owed v) (g.owes v))

    owed_of : (v : ℕ) (t : Bool) → (me == v) ≡ t → is_up (cond t node (now.node v)).met ≡ true → owed v ≡ []
    owed_of v true h up = subst (λ w. owed w ≡ []) (number_is me v h) (n.owed_up up)
    owed_of v false h up = n.owed_same v h ∙ g.owed v up

-- ---- a step that is whole

-- not the operation that begins
abbrev pub OtherThan : Met → OpId → Type 0
OtherThan (Begins op text) x = same_op op x ≡ false
OtherThan _ x = Unit {0}

-- the event's own item and what it is to the node
pub record Own (c : Cluster) (tape : List Item) (item : Item) (met : List Met) (one : Met) : Type 0 where
  pub on : TapeOn c tape (item ∷ tape)
  pub made : (g : GroupId) (n : ℕ) → acts_met (one ∷ met) g n ≡ acts_met met g n
  pub decides : (g : GroupId) (n : ℕ) → decided (one ∷ met) g n ≡ decided met g n
  pub start : start_of (one ∷ met) ≡ start_of met
  pub begun : begun_of met ≤ begun_of (one ∷ met)
  pub up : is_up (one ∷ met) ≡ is_up met
  pub begins : (x : OpId) → OtherThan one x → has_begun (item ∷ tape) x ≡ has_begun tape x
  pub answered : (schema : Schema) (usage : Usage) → IsAnswered schema usage tape item
  pub failed : (x : OpId) → has_failed (item ∷ tape) x ≡ has_failed tape x

-- what a step sends behind its notes
pub record SendsOn (users : Users) (c : Cluster) (me st l : ℕ) (early tape : List Item) (met : List Met) (k : ℕ) (sends : List Message) (kept : List Operation) : Type 0 where
  pub lawful : Lawful c (sent k sends tape)
  pub polls : ArePolls (sent k sends tape)
  pub written : users.fits → AreWritten c.schema users.usage (sent k sends tape)
  pub moved : (x : OpId) → could me st l x ≡ false → (q : Place) → moves (sent k sends tape) x q ≡ moves tape x q
  pub asked : (x : OpId) → could me st l x ≡ false → has_asked (sent k sends tape) x ≡ has_asked tape x
  pub answered : users.fits → AreAnswered c.schema users.usage (sent k sends tape)
  pub failed : (x : OpId) → within me st l x ≡ false → has_failed (sent k sends tape) x ≡ has_failed early x
  pub unfailed : Each (λ (o : Operation). has_failed (sent k sends tape) o.id ≡ false) kept
  pub mine : Each (FromMe me) sends
  pub held : Each (Held users c (sent k sends tape) me st l (onto (map Sends sends) met)) kept
  pub rising : IsRising 0 kept

elsewhere_within : (me st l : ℕ) (x : OpId) → (me == x.node.0) ≡ false → within me st l x ≡ false
elsewhere_within me st l x h = go (x.node.0 == me) refl
  where
    go : (t : Bool) → (x.node.0 == me) ≡ t → ((t && x.start == st) && nat_lt x.number l) ≡ false
    go true e = absurd (false_is me x.node.0 h (sym (number_is x.node.0 me e)))
    go false e = refl

elsewhere : (me st l : ℕ) (x : OpId) → (me == x.node.0) ≡ false → could me st l x ≡ false
elsewhere me st l x h = and_left (within me st l x) (nat_lt x.number last_number) (elsewhere_within me st l x h)

not_started_within : (me st l : ℕ) (x : OpId) → st < x.start → within me st l x ≡ false
not_started_within me st l x less = go (x.start == st) refl (x.node.0 == me)
  where
    go : (t : Bool) → (x.start == st) ≡ t → (u : Bool) → ((u && t) && nat_lt x.number l) ≡ false
    go true e u = absurd (let same = number_is x.start st e in omega (arith, same, less))
    go false e true = refl
    go false e false = refl

not_started : (me st l : ℕ) (x : OpId) → st < x.start → could me st l x ≡ false
not_started me st l x less = and_left (within me st l x) (nat_lt x.number last_number) (not_started_within me st l x less)

pub step_next : (users : Users) → (c : Cluster) (now : Standing) (me : ℕ) (nodes : ℕ → Node) (item : Item) (own : Met) (notes : List Met) (k : ℕ) (sends : List Message) (kept : List Operation) (stored : GroupId → ℕ) (tape : List Item)
    → Good users c now → is_up (now.node me).met ≡ true → Own c now.tape item (now.node me).met own → Each (MayBeNoted c (item ∷ now.tape) me) notes
    → SendsOn users c me (start_of (now.node me).met) (begun_of (own ∷ (now.node me).met) + 1) (item ∷ now.tape) (with_items c nodes (item ∷ now.tape) (flat_map (shown me) notes)) (onto notes (own ∷ (now.node me).met)) k sends kept
    → tape ≡ sent k sends (with_items c nodes (item ∷ now.tape) (flat_map (shown me) notes))
    → ((x : OpId) → ((me == x.node.0) ≡ false) ⊎ IsNew (now.starts me) (own ∷ (now.node me).met) x → OtherThan own x)
    → is_up (onto notes (own ∷ (now.node me).met)) ≡ true
    → Next users c now me tape (record { met = onto (map Sends sends) (onto notes (own ∷ (now.node me).met)); open_operations = kept; stored = stored }) now.starts now.owed
step_next users c now me nodes item own notes k sends kept stored tape g up o may s is other still = subst (λ t. Next users c now me t (record { met = met3; open_operations = kept; stored = stored }) now.starts now.owed) (sym is) (record {
  lawful = s.lawful;
  stood = λ other h. stood_sent k sends tape2 other ((follows.tape).stood other ((o.on).stood other h));
  mine = record {
    made = λ q. sends_made me k sends tape2 met2 s.mine (λ r. made2 r) q;
    known = λ h n e d. stood_sent k sends tape2 _ (follows.known known1 h n e (sym (last.decides h n) ∙ d));
    held = coe 0 1 (i. Each (Held users c (sent k sends tape2) me (sym start3 i) (sym begun3 i + 1) met3) kept) s.held;
    rising = s.rising;
    unfailed = s.unfailed;
  };
  made = λ v apart q. sends_elsewhere me v k sends tape2 apart s.mine q ∙ (follows.tape).made v q ∙ (o.on).made v q;
  moved = λ x apart q. s.moved x (elsewhere me (start_of met) (begun_of met1 + 1) x apart) q ∙ (follows.tape).moved x q ∙ (o.on).moved x q;
  polls = s.polls;
  asked = λ x apart. same_asked x (elsewhere me (start_of met) (begun_of met1 + 1) x apart);
  fresh = λ x node new q. fresh x node q new;
  unasked = λ x node new. unasked x node new;
  written = s.written;
  begun = λ x apart. same_begun x (inl apart);
  unbegun = λ x node new. unbegun x node new;
  answered = s.answered;
  failed = λ x apart. s.failed x (elsewhere_within me (start_of met) (begun_of met1 + 1) x apart) ∙ o.failed x;
  unfailed = λ x node new. unfailed x node new;
  worn = λ x le. unmoved_on now.tape (sent k sends tape2) x (same x (worn_could me (start_of met) (begun_of met1 + 1) x le)) (same_asked x (worn_could me (start_of met) (begun_of met1 + 1) x le)) (g.worn x le);
  started = subst (λ n. n ≤ now.starts me) (sym start3) (g.starts me);
  starts_same = λ v apart. refl;
  owes = subst (Owes c (sent k sends tape2) me) (sym (g.owed me up)) tt;
  owed_up = λ u. g.owed me up;
  owed_same = λ v apart. refl;
})
  where
    met : List Met
    met = (now.node me).met

    met1 : List Met
    met1 = own ∷ met

    met2 : List Met
    met2 = onto notes met1

    met3 : List Met
    met3 = onto (map Sends sends) met2

    tape2 : List Item
    tape2 = with_items c nodes (item ∷ now.tape) (flat_map (shown me) notes)

    follows : Follows c me (item ∷ now.tape) met1 tape2 met2
    follows = notes_follow c me nodes notes (item ∷ now.tape) met1 may

    last : SentOn met2 met3
    last = sends_on sends met2

    start3 : start_of met3 ≡ start_of met
    start3 = last.start ∙ (follows.met_on).start ∙ o.start

    begun3 : begun_of met3 ≡ begun_of met1
    begun3 = last.begun ∙ (follows.met_on).begun

    known1 : Known me met1 (item ∷ now.tape)
    known1 h n e d = (o.on).stood _ ((g.node me).known h n e (sym (o.decides h n) ∙ d))

    made2 : (r : Place) → acts_met met2 r.group r.position.0 ≡ acts tape2 me r
    made2 r = (follows.met_on).made r.group r.position.0 ∙ o.made r.group r.position.0 ∙ (g.node me).made r ∙ sym ((o.on).made me r) ∙ sym ((follows.tape).made me r)

    before : (x : OpId) → x.node.0 ≡ me → IsNew (now.starts me) met x → (q : Place) → moves now.tape x q ≡ []
    before x node new q = g.fresh x (subst (λ w. IsNew (now.starts w) (now.node w).met x) (sym node) new) q

    same : (x : OpId) → could me (start_of met) (begun_of met1 + 1) x ≡ false → (q : Place) → moves (sent k sends tape2) x q ≡ moves now.tape x q
    same x h q = s.moved x h q ∙ (follows.tape).moved x q ∙ (o.on).moved x q

    same_begun : (x : OpId) → ((me == x.node.0) ≡ false) ⊎ IsNew (now.starts me) met1 x → has_begun (sent k sends tape2) x ≡ has_begun now.tape x
    same_begun x h = sent_begun x k sends tape2 ∙ follows.begun x ∙ o.begins x (other x h)

    unbegun_before : (x : OpId) → x.node.0 ≡ me → IsNew (now.starts me) met x → has_begun now.tape x ≡ false
    unbegun_before x node new = g.unbegun x (subst (λ w. IsNew (now.starts w) (now.node w).met x) (sym node) new)

    unbegun : (x : OpId) → x.node.0 ≡ me → IsNew (now.starts me) met3 x → has_begun (sent k sends tape2) x ≡ false
    unbegun x node (inl later) = same_begun x (inr (inl later)) ∙ unbegun_before x node (inl later)
    unbegun x node (inr both) =
        same_begun x (inr (inr (both.0 ∙ last.start ∙ (follows.met_on).start, (let n = both.1 in let b = begun3 in omega (arith, n, b)))))
        ∙ unbegun_before x node (inr (both.0 ∙ start3, (let n = both.1 in let b = begun3 in let c' = o.begun in omega (arith, n, b, c'))))

    unfailed_before : (x : OpId) → x.node.0 ≡ me → IsNew (now.starts me) met x → has_failed now.tape x ≡ false
    unfailed_before x node new = g.unfailed x (subst (λ w. IsNew (now.starts w) (now.node w).met x) (sym node) new)

    unfailed : (x : OpId) → x.node.0 ≡ me → IsNew (now.starts me) met3 x → has_failed (sent k sends tape2) x ≡ false
    unfailed x node (inl later) = s.failed x (not_started_within me (start_of met) (begun_of met1 + 1) x (let first = g.starts me in omega (arith, first, later))) ∙ o.failed x ∙ unfailed_before x node (inl later)
    unfailed x node (inr both) =
        s.failed x (not_within me (start_of met) (begun_of met1 + 1) x (let n = both.1 in let b = begun3 in omega (arith, n, b)))
        ∙ o.failed x ∙ unfailed_before x node (inr (both.0 ∙ start3, (let n = both.1 in let b = begun3 in let c' = o.begun in omega (arith, n, b, c'))))

    same_asked : (x : OpId) → could me (start_of met) (begun_of met1 + 1) x ≡ false → has_asked (sent k sends tape2) x ≡ has_asked now.tape x
    same_asked x h = s.asked x h ∙ (follows.tape).asked x ∙ (o.on).asked x

    unasked_before : (x : OpId) → x.node.0 ≡ me → IsNew (now.starts me) met x → has_asked now.tape x ≡ false
    unasked_before x node new = g.unasked x (subst (λ w. IsNew (now.starts w) (now.node w).met x) (sym node) new)

    unasked : (x : OpId) → x.node.0 ≡ me → IsNew (now.starts me) met3 x → has_asked (sent k sends tape2) x ≡ false
    unasked x node (inl later) = same_asked x (not_started me (start_of met) (begun_of met1 + 1) x (let first = g.starts me in omega (arith, first, later))) ∙ unasked_before x node (inl later)
    unasked x node (inr both) =
        same_asked x (could_not me (start_of met) (begun_of met1 + 1) x (let n = both.1 in let b = begun3 in omega (arith, n, b)))
        ∙ unasked_before x node (inr (both.0 ∙ start3, (let n = both.1 in let b = begun3 in let c' = o.begun in omega (arith, n, b, c'))))

    fresh : (x : OpId) → x.node.0 ≡ me → (q : Place) → IsNew (now.starts me) met3 x → moves (sent k sends tape2) x q ≡ []
    fresh x node q (inl later) = same x (not_started me (start_of met) (begun_of met1 + 1) x (let first = g.starts me in omega (arith, first, later))) q ∙ before x node (inl later) q
    fresh x node q (inr both) =
        same x (could_not me (start_of met) (begun_of met1 + 1) x (let n = both.1 in let b = begun3 in omega (arith, n, b))) q
        ∙ before x node (inr (both.0 ∙ start3, (let n = both.1 in let b = begun3 in let c' = o.begun in omega (arith, n, b, c')))) q

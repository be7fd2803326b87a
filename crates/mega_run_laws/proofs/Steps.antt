-- A node at which an operation begins leaves a good standing; and so does each step that is whole.
use Rattle.std.proofs.Common.{◌≡◌, ◌⊎◌, ◌||◌, inl, inr, ℕ, ◌+◌, ◌-◌, ◌==◌, ◌≤◌, ◌<◌, max, min, nat_le, nat_lt, Bool, true, false, cond, List, [], ◌∷◌, ◌++◌, flat_map, length, Option, Some, None, refl, sym, ap, ◌∙◌, subst, arith}
use Rattle.std.proofs.lemmas.Bool.Decides.{nat_tests}
use Rattle.mega_base.specs.declared.names.OpId.{OpId}
use Rattle.mega_base.specs.declared.values.NodeKind.{NodeKind}
use Rattle.mega_cluster.specs.declared.cluster.Cluster.{Cluster}
use Rattle.mega_outcome.specs.declared.request.Request.{Request}
use Rattle.mega_wire.specs.declared.message.Message.{Message}
use Rattle.mega_tape_laws.specs.of_transcript.declared.item.Item.{Item}
use Rattle.mega_tape_laws.specs.of_transcript.declared.item.Item.TheVariants.{Sent, Begin}
use Rattle.mega_tape_laws.specs.of_transcript.Tape.{sent_count}
use Rattle.mega_tape_laws.specs.of_promises.Items.{numbered, shown}
use Rattle.mega_tape_laws.specs.of_promises.Promises.{Stands}
use Rattle.mega_tape_laws.specs.of_promises.Runs.{Standing, log_fuse_after, records_after, appends, set_at, whole_step, with_item, with_items}
use Rattle.mega_tape_laws.specs.of_promises.Messages.{message_of}
use Rattle.mega_tape_laws.specs.of_rules.Met.{Met, Begins}
use Rattle.mega_tape_laws.specs.of_rules.Members.{kind_of}
use Rattle.mega_tape_laws.specs.of_rules.Clock.{begun_of, clock_of, last_number, is_up, start_of}
use Rattle.mega_outcome.specs.declared.answer.Answer.{Answer}
use Rattle.mega_outcome.specs.declared.answer.Answer.TheVariants.{Busy, NotHere, Worn}
use Rattle.mega_tape_laws.specs.of_rules.Logs.{decided}
use Rattle.mega_tape_laws.specs.of_rules.Operations.{Node, Now, Operation, Setting}
use Rattle.mega_tape_laws.specs.of_rules.Steps.{begin_step, at_open, new_operation, op_of, refusal, unless_refused, is_worn, unless_busy, unless_missing, missing_kind, Step, apply_notes, at_first, onto}
use Rattle.mega_tape_laws.specs.Places.{In, Place, Proposes as ProposesMove, moves}
use Rattle.mega_tape_laws.specs.Writes.{IsNamed, Usage, has_begun}
use Rattle.mega_tape_laws.proofs.Ballots.{clash, number_self, number_is}
use Rattle.mega_wal.specs.Same.{same_op}
use Rattle.mega_wal.proofs.Sames.{same_op_equal}
use Rattle.mega_run_laws.specs.Usages.{Brought}
use Rattle.mega_run_laws.proofs.Owned.{Users}
use Rattle.mega_tape_laws.specs.Polls.{has_asked}
use Rattle.mega_tape_laws.proofs.Lists.{some_is}
use Rattle.mega_run_laws.specs.Justified.{Each, sent}
use Rattle.mega_run_laws.proofs.Sending.{Stood}
use Rattle.mega_run_laws.proofs.Opened.{Grew}
use Rattle.mega_run_laws.proofs.Turns.{Fine, Frame, Held, IsOpen, fine_turn, Known, each_on, held_on}
use Rattle.mega_run_laws.proofs.Causes.{Given}
use Rattle.mega_run_laws.proofs.Causing.{given_none}
use Rattle.mega_run_laws.proofs.Silent.{IsSilent}
use Rattle.mega_run_laws.proofs.Written.{Unproposed}
use Rattle.mega_tape_laws.specs.Answers.{has_failed}
use Rattle.mega_schema.specs.declared.schema.Schema.{Schema}
use Rattle.mega_run_laws.proofs.Noting.{begun_it}
use Rattle.mega_run_laws.proofs.Noted.{with_append, with_sent, Follows, MayBeNoted, notes_follow, tape_item}
use Rattle.mega_run_laws.proofs.Beginning.{AllActed, Starting, begun_fine}
use Rattle.mega_run_laws.proofs.Standing.{Good, IsNew}
use Rattle.mega_run_laws.proofs.Stepping.{Next, Own, next_good, step_next}
use Rattle.mega_run_laws.proofs.Events.{Noted, Unheard, acted_sends, answer_notes, apply_plain, each_append, noted_lasts, notes_grew, onto_append, onto_decided, onto_grew, plain_notes, plain_silents, unheard_by}
use Rattle.mega_run_laws.proofs.Whole.{StepNext, held_first, none_before, up_onto}

pub own_begin : (c : Cluster) (tape : List Item) (id : OpId) (text : List ℕ) (met : List Met) → has_asked tape id ≡ false → (IsNamed id → has_begun tape id ≡ false) → Own c tape (Begin id text) met (Begins id text)
own_begin c tape id text met unasked unbegun = record { on = tape_item c tape (Begin id text) tt (λ x q. refl) (λ v q. refl) (λ x. refl) unasked (λ schema usage. unbegun); begins = λ x other. ap (λ t. t || has_begun tape x) other; answered = λ schema usage. tt; failed = λ x. refl; made = λ g n. refl; decides = λ g n. refl; start = refl; begun = omega arith; up = refl }

pub not_worn : (t : Bool) (o : Option Answer) → cond t (Some Worn) o ≡ None → t ≡ false
not_worn true o h = cc
not_worn false o h = refl

less_is : (a b : ℕ) → nat_le a b ≡ false → b < a
less_is a b h = grind (arith, nat_tests)

next_is : (b last : ℕ) → nat_le (last - 1) b ≡ false → min (b + 1) last ≡ b + 1
next_is b last h = let less = less_is (last - 1) b h in omega (arith, less)

next_named : (b last : ℕ) → min (b + 1) last ≡ b + 1 → nat_le (last - 1) b ≡ false → min (b + 1) last < last
next_named b last is h = let less = less_is (last - 1) b h in omega (arith, is, less)

next_new : (b last : ℕ) → nat_lt b last ≡ true → b < min (b + 1) last
next_new b last h = let less : b < last = grind (arith, nat_tests) in omega (arith, less)

next_last : (b last : ℕ) → nat_lt b last ≡ false → last ≤ min (b + 1) last
next_last b last h = let le : last ≤ b = grind (arith, nat_tests) in omega (arith, le)

next_apart : (b last n : ℕ) → n < b + 1 → n < last → n < min (b + 1) last
next_apart b last n less under = omega arith

-- an operation that begins never moved
pub never_moved : (users : Users) → (s : Setting) (now : Standing) → Good users s.cluster now → (q : Place) → moves now.tape (op_of s (now.node s.me).met) q ≡ []
never_moved users s now g q = go (nat_lt (begun_of (now.node s.me).met) last_number) refl
  where
    go : (t : Bool) → nat_lt (begun_of (now.node s.me).met) last_number ≡ t → moves now.tape (op_of s (now.node s.me).met) q ≡ []
    go true h = g.fresh (op_of s (now.node s.me).met) (inr (refl, next_new (begun_of (now.node s.me).met) last_number h)) q
    go false h = (g.worn (op_of s (now.node s.me).met) (next_last (begun_of (now.node s.me).met) last_number h)).moved q

-- what refuses needs no more cause than that nothing was proposed
busy_given : (schema : Schema) (usage : Usage) (tape : List Item) (op : OpId) (open_ones : List Operation) (answer : Answer) → IsNamed op → Unproposed tape op → unless_busy open_ones ≡ Some answer → Given schema usage tape op answer
busy_given schema usage tape op open_ones answer named none is = go (nat_le 64 (length open_ones)) is
  where
    go : (t : Bool) → cond t (Some (Busy 64)) None ≡ Some answer → Given schema usage tape op answer
    go true e = subst (Given schema usage tape op) (some_is (Busy 64) answer e) (given_none schema usage tape op (Busy 64) named none tt)
    go false e = cc

missing_given : (schema : Schema) (usage : Usage) (tape : List Item) (op : OpId) (open_ones : List Operation) (kind : Option NodeKind) (answer : Answer) → IsNamed op → Unproposed tape op → unless_missing open_ones kind ≡ Some answer → Given schema usage tape op answer
missing_given schema usage tape op open_ones None answer named none is = busy_given schema usage tape op open_ones answer named none is
missing_given schema usage tape op open_ones (Some kind) answer named none is = subst (Given schema usage tape op) (some_is (NotHere kind) answer is) (given_none schema usage tape op (NotHere kind) named none tt)

pub refusal_given : (schema : Schema) (usage : Usage) (tape : List Item) (op : OpId) (open_ones : List Operation) (kind : Option NodeKind) (answer : Answer) (worn : Bool) → (worn ≡ false → IsNamed op) → Unproposed tape op
    → cond worn (Some Worn) (unless_missing open_ones kind) ≡ Some answer → Given schema usage tape op answer
refusal_given schema usage tape op open_ones kind answer true named none is =
    subst (Given schema usage tape op) (some_is Worn answer is) (record { cause = tt; doomed = λ negative p b e i id. absurd (none p b e i id); named = inl refl })
refusal_given schema usage tape op open_ones kind answer false named none is = missing_given schema usage tape op open_ones kind answer (named refl) none is

-- an operation that begins never asked
pub never_asked : (users : Users) → (s : Setting) (now : Standing) → Good users s.cluster now → has_asked now.tape (op_of s (now.node s.me).met) ≡ false
never_asked users s now g = go (nat_lt (begun_of (now.node s.me).met) last_number) refl
  where
    go : (t : Bool) → nat_lt (begun_of (now.node s.me).met) last_number ≡ t → has_asked now.tape (op_of s (now.node s.me).met) ≡ false
    go true h = g.unasked (op_of s (now.node s.me).met) (inr (refl, next_new (begun_of (now.node s.me).met) last_number h))
    go false h = (g.worn (op_of s (now.node s.me).met) (next_last (begun_of (now.node s.me).met) last_number h)).asked

named_new : (b last : ℕ) → min (b + 1) last < last → b < min (b + 1) last
named_new b last less = omega arith

-- an operation that begins and has a name of its own did not begin before
pub never_begun : (users : Users) → (s : Setting) (now : Standing) → Good users s.cluster now → IsNamed (op_of s (now.node s.me).met) → has_begun now.tape (op_of s (now.node s.me).met) ≡ false
never_begun users s now g named = g.unbegun (op_of s (now.node s.me).met) (inr (refl, named_new (begun_of (now.node s.me).met) last_number named))

-- and is none that its node did not begin
pub begins_other : (users : Users) → (s : Setting) (now : Standing) (text : List ℕ) → Good users s.cluster now → (x : OpId)
    → ((s.me == x.node.0) ≡ false) ⊎ IsNew (now.starts s.me) (Begins (op_of s (now.node s.me).met) text ∷ (now.node s.me).met) x → same_op (op_of s (now.node s.me).met) x ≡ false
begins_other users s now text g x h = go (same_op (op_of s (now.node s.me).met) x) refl h
  where
    above : (b last n : ℕ) → b + 1 < n → min (b + 1) last ≡ n → ⊥
    above b last n less is = omega (arith, less, is)

    go : (t : Bool) → same_op (op_of s (now.node s.me).met) x ≡ t → ((s.me == x.node.0) ≡ false) ⊎ IsNew (now.starts s.me) (Begins (op_of s (now.node s.me).met) text ∷ (now.node s.me).met) x → t ≡ false
    go false e k = refl
    go true e (inl apart) = absurd (clash (s.me == s.me) (number_self s.me) (subst (λ (y : OpId). (s.me == y.node.0) ≡ false) (sym (same_op_equal (op_of s (now.node s.me).met) x e)) apart))
    go true e (inr (inl later)) = absurd (let is = ap (λ (y : OpId). y.start) (same_op_equal (op_of s (now.node s.me).met) x e) in let first = g.starts s.me in omega (arith, is, first, later))
    go true e (inr (inr both)) = absurd (above (begun_of (now.node s.me).met) last_number x.number both.1 (ap (λ (y : OpId). y.number) (same_op_equal (op_of s (now.node s.me).met) x e)))

next_small : (b last : ℕ) → min (b + 1) last ≤ b + 1
next_small b last = omega arith

pub stands_sent : (tape : List Item) (j : ℕ) (m : Message) → message_of tape j ≡ Some m → Stands (Sent j m) tape
stands_sent [] j m h = cc
stands_sent (Sent n one ∷ before) j m h = go (n == j) refl h (stands_sent before j m)
  where
    go : (t : Bool) → (n == j) ≡ t → cond t (Some one) (message_of before j) ≡ Some m → (message_of before j ≡ Some m → Stands (Sent j m) before) → Stands (Sent j m) (Sent n one ∷ before)
    go true e k again = inl (λ i. Sent (number_is n j e i) (some_is one m k i))
    go false e k again = inr (again k)
stands_sent (_ ∷ before) j m h = inr (stands_sent before j m h)

pub begun_next : (users : Users) → (s : Setting) → (users.fits → Brought users.usage s.handlers) → (now : Standing) (nodes' : ℕ → Node) (request : Request) (text : List ℕ) → (users.fits → (users.usage).meaning text ≡ Some request) → Good users s.cluster now → is_up (now.node s.me).met ≡ true
    → StepNext users s now nodes' (Begin (op_of s (now.node s.me).met) text) (Begins (op_of s (now.node s.me).met) text) (begin_step s (now.node s.me) request text)
begun_next users s brought now nodes' request text means g up = (
  step_next users c now me nodes' (Begin id text) (Begins id text) notes k acted.sends acted.kept acted.stored _ g up (own_begin c now.tape id text met (never_asked users s now g) (never_begun users s now g)) all_may
      (acted_sends users s nodes' me st l k tape1 tape2 (onto notes met1) [] acted ((follows.tape).polls (never_asked users s now g, g.polls)) (none_before c me tape2 k) all_done grown unheard) refl (begins_other users s now text g) (up_onto c tape1 me notes met1 all_may up),
  all_may,
)
  where
    c : Cluster
    c = s.cluster

    me : ℕ
    me = s.me

    node : Node
    node = now.node s.me

    met : List Met
    met = node.met

    met1 : List Met
    met1 = Begins (op_of s met) text ∷ met

    st : ℕ
    st = start_of met

    l : ℕ
    l = (begun_of met + 1) + 1

    k : ℕ
    k = sent_count now.tape + 1

    id : OpId
    id = op_of s met

    first : List Met
    first = met1

    begin : Now
    begin = at_open (at_first met1 node.stored) node.open_operations

    o : Operation
    o = new_operation id request (clock_of met)

    acted : Now
    acted = unless_refused s begin o (refusal s node request)

    applies : List Met
    applies = apply_notes s met node.stored acted.met acted.stored

    notes : List Met
    notes = (applies ++ acted.valid) ++ acted.answers

    tape1 : List Item
    tape1 = Begin (op_of s met) text ∷ now.tape

    tape2 : List Item
    tape2 = with_items c nodes' tape1 (flat_map (shown me) notes)

    noted : Noted first acted
    noted = begun_it (Noted first) (noted_lasts first) s begin o (refusal s node request)
        (record { decides = λ h n e x. x; long = omega arith; valid = tt; answers = tt })

    all_may : Each (MayBeNoted c tape1 me) notes
    all_may = each_append (MayBeNoted c tape1 me) (applies ++ acted.valid) acted.answers
        (each_append (MayBeNoted c tape1 me) applies acted.valid (plain_notes c tape1 me applies (apply_plain s met node.stored acted.met acted.stored)) (plain_notes c tape1 me acted.valid noted.valid))
        (answer_notes c tape1 me acted.answers noted.answers)

    unheard : Unheard users c nodes' me tape1 tape2 acted.answers
    unheard = unheard_by users c nodes' me tape1 (applies ++ acted.valid) acted.answers
        (each_append IsSilent applies acted.valid (plain_silents applies (apply_plain s met node.stored acted.met acted.stored)) (plain_silents acted.valid noted.valid)) (λ fits. (tt, g.answered fits))

    follows : Follows c me tape1 met1 tape2 (onto notes met1)
    follows = notes_follow c me nodes' notes tape1 met1 all_may

    spread : onto notes met1 ≡ onto acted.answers (onto acted.valid (onto applies first))
    spread = onto_append (applies ++ acted.valid) acted.answers met1 ∙ ap (onto acted.answers) (onto_append applies acted.valid met1)

    grown : Grew acted.met (onto notes met1)
    grown = subst (Grew acted.met) (sym spread) (notes_grew first applies acted noted)

    stood2 : Stood now.tape tape2
    stood2 item x = (follows.tape).stood item (inr x)

    moved2 : (x : OpId) (q : Place) → moves tape2 x q ≡ moves now.tape x q
    moved2 x q = (follows.tape).moved x q

    frame : Frame
    frame = record { me = me; start = st; next = k + length {A = Message} []; base = tape2; early = tape1 }

    known_first : Known me met1 tape2
    known_first h n e x = follows.known (λ h' n' e' y. inr ((g.node me).known h' n' e' y)) h n e (ap (λ z. decided z h n) spread
        ∙ onto_decided acted.answers (onto acted.valid (onto applies met1)) h n e (onto_decided acted.valid (onto applies met1) h n e (onto_decided applies met1 h n e x)))

    open_fine : Fine users c frame (begun_of met + 1) met1 node.open_operations [] []
    open_fine = record {
      lawful = (follows.tape).lawful (tt, g.lawful);
      written = λ fits. (follows.tape).written c.schema users.usage (never_begun users s now g, g.written fits);
      later = λ x h q. refl;
      asked = λ x h. refl;
      made = λ v q. refl;
      given = λ fits. tt;
      answered = tt;
      fair = tt;
      unheard = each_on (λ (one : Operation). has_failed now.tape one.id ≡ false) (IsOpen tape1 []) (λ one still. record { unfailed = still; apart = tt }) node.open_operations (g.node me).unfailed;
      known = known_first;
      quiet = tt;
      held = each_on (Held users c tape2 me st (begun_of met + 1) met) (Held users c tape2 me st (begun_of met + 1) met1)
          (λ one held. held_on users c tape2 tape2 me st (begun_of met + 1) (begun_of met + 1) met met1 one (record { stood = λ item x. x; moved = λ q. refl }) (onto_grew (Begins id text ∷ []) met) (omega arith) held) node.open_operations
          (held_first users c now.tape tape2 me node stood2 moved2 (g.node me));
      rising = (g.node me).rising;
    }

    numbered_next : refusal s node request ≡ None → id.number ≡ begun_of met + 1
    numbered_next h = next_is (begun_of met) last_number (not_worn (is_worn met) (unless_missing node.open_operations (missing_kind request (kind_of s.cluster s.me))) h)

    named : refusal s node request ≡ None → id.number < last_number
    named h = next_named (begun_of met) last_number (numbered_next h) (not_worn (is_worn met) (unless_missing node.open_operations (missing_kind request (kind_of s.cluster s.me))) h)

    unmoved : (q : Place) → moves tape2 id q ≡ []
    unmoved q = moved2 id q ∙ never_moved users s now g q

    none : Unproposed tape2 id
    none q b e i own = subst (In (ProposesMove b e)) (unmoved q) i

    unfailed : refusal s node request ≡ None → has_failed tape1 id ≡ false
    unfailed h = g.unfailed id (inr (refl, (let is = numbered_next h in omega (arith, is))))

    kept_below : (one : Operation) → Held users c tape2 me st (begun_of met + 1) met1 one → (one.id).number < id.number
    kept_below one held = next_apart (begun_of met) last_number (one.id).number held.below held.named

    named_unless : is_worn met ≡ false → IsNamed id
    named_unless h = next_named (begun_of met) last_number (next_is (begun_of met) last_number h) h

    refused : users.fits → (answer : Answer) → refusal s node request ≡ Some answer → Given c.schema users.usage tape2 id answer
    refused fits answer is = refusal_given c.schema users.usage tape2 id node.open_operations (missing_kind request (kind_of s.cluster s.me)) answer (is_worn met) named_unless none is

    starting : users.fits → refusal s node request ≡ None → Starting users.usage tape2 id request
    starting fits h = record {
      began = record { text = text; stands = (follows.tape).stood _ (inl refl); means = means fits };
      none = none;
    }

    most_of : AllActed users s frame (max (begun_of met + 1) (id.number + 1)) acted → AllActed users s frame l acted
    most_of a = record { k = a.k; most = (let le = a.most in let small = next_small (begun_of met) last_number in omega (arith, le, small)); fine = a.fine }

    all_done : AllActed users s frame l acted
    all_done = most_of (begun_fine users s brought frame (begun_of met + 1) begin o (refusal s node request) open_fine refl refl
        (λ h. (fine_turn users c frame (begun_of met + 1) met1 node.open_operations [] [] id open_fine (let is = numbered_next h in omega arith) refl refl (named h) (unfailed h), λ q above. inr (unmoved q)))
        (λ h. let is = numbered_next h in omega arith) starting kept_below refused)

-- ---- steps that are whole

pub whole_good : (users : Users) → (s : Setting) (now : Standing) (item : Item) (own : Met) (made : Step) → Good users s.cluster now → ((n : ℕ → Node) → with_item s.cluster n now.tape item ≡ item ∷ now.tape)
    → StepNext users s now (set_at now.node s.me made.node) item own made → Good users s.cluster (whole_step s.cluster now s.me (item ∷ []) made)
whole_good users s now item own made g plain next = next_good users s.cluster now s.me _ made.node (log_fuse_after now s.me (appends made)) now.data_fuse now.starts (records_after now s.me (appends made)) now.owed g
    (subst (λ t. Next users s.cluster now s.me t made.node now.starts now.owed) (sym whole) next.0)
  where
    nodes' : ℕ → Node
    nodes' = set_at now.node s.me made.node

    whole : with_items s.cluster nodes' now.tape (((item ∷ []) ++ flat_map (shown s.me) made.notes) ++ numbered (sent_count now.tape + 1) made.sends)
        ≡ sent (sent_count now.tape + 1) made.sends (with_items s.cluster nodes' (item ∷ now.tape) (flat_map (shown s.me) made.notes))
    whole = with_append s.cluster nodes' ((item ∷ []) ++ flat_map (shown s.me) made.notes) (numbered (sent_count now.tape + 1) made.sends) now.tape
        ∙ with_sent s.cluster nodes' (sent_count now.tape + 1) made.sends (with_items s.cluster nodes' now.tape ((item ∷ []) ++ flat_map (shown s.me) made.notes))
        ∙ ap (λ t. sent (sent_count now.tape + 1) made.sends (with_items s.cluster nodes' t (flat_map (shown s.me) made.notes))) (plain nodes')

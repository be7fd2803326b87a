-- A delivery keeps that one operation reads alone: what it waits for is answered, and in the end nothing waits and it is answered.
use Rattle.std.proofs.Common.{◌≡◌, ◌⊎◌, inl, inr, ℕ, suc, ◌+◌, ◌==◌, ◌&&◌, ◌||◌, ◌≤◌, ◌<◌, max, nat_le, Bool, true, false, not, cond, List, [], ◌∷◌, ◌++◌, length, Option, Some, None, refl, sym, ap, ◌∙◌, subst, arith}
use Rattle.std.specs.List.{list_all}
use Rattle.std.proofs.lemmas.Bool.Decides.{nat_tests}
use Rattle.std.proofs.lemmas.Bool.{and_parts}
use Rattle.std.proofs.lemmas.Option.{same_Some}
use Rattle.mega_base.specs.declared.names.Epoch.{Epoch}
use Rattle.mega_base.specs.declared.names.GroupId.{GroupId}
use Rattle.mega_cluster.specs.declared.cluster.Cluster.{Cluster}
use Rattle.mega_entry.specs.declared.content.Content.{Content}
use Rattle.mega_entry.specs.declared.content.Enter.{Enter}
use Rattle.mega_handler.specs.Named.{Meanings}
use Rattle.mega_wire.specs.declared.message.Message.{Message}
use Rattle.mega_wire.specs.declared.message.Body.{Body}
use Rattle.mega_wire.specs.declared.message.Body.TheVariants.{Fetch, Have, HaveNot, Top, Where}
use Rattle.mega_wal.specs.Same.{same_group, same_op}
use Rattle.mega_wal.proofs.Sames.{same_group_self, same_op_self}
use Rattle.mega_outcome.specs.declared.answer.Answer.TheVariants.{Read as ReadAnswer}
use Rattle.mega_outcome.specs.declared.answer.Shown.{Shown}
use Rattle.mega_outcome.specs.declared.request.ReadRequest.{ReadRequest}
use Rattle.mega_leased_laws.specs.of_run_laws.of_tape_laws.of_promises.of_rules.of_read.of_propose.Members.{has, is_majority, others, with_node}
use Rattle.mega_leased_laws.specs.of_run_laws.of_tape_laws.of_promises.of_rules.of_read.declared.reading.Move.{Move as ReadMove}
use Rattle.mega_leased_laws.specs.of_run_laws.of_tape_laws.of_promises.of_rules.of_read.declared.reading.Reader.{Reader}
use Rattle.mega_leased_laws.specs.of_run_laws.of_tape_laws.of_promises.of_rules.of_read.declared.reading.Reading.{Reading}
use Rattle.mega_leased_laws.specs.of_run_laws.of_tape_laws.of_promises.of_rules.of_read.declared.reading.Search.{Search}
use Rattle.mega_leased_laws.specs.of_run_laws.of_tape_laws.of_promises.of_rules.of_read.declared.reading.Search.TheVariants.{Fetching, Filling}
use Rattle.mega_leased_laws.specs.of_run_laws.of_tape_laws.of_promises.of_rules.of_read.declared.reading.Stage.{Stage}
use Rattle.mega_leased_laws.specs.of_run_laws.of_tape_laws.of_promises.of_rules.of_read.declared.reading.Stage.TheVariants.{Polling, Catching}
use Rattle.mega_leased_laws.specs.of_run_laws.of_tape_laws.of_promises.of_rules.of_read.Catching.{fills, move, stays as stays_so}
use Rattle.mega_leased_laws.specs.of_run_laws.of_tape_laws.of_promises.of_transcript.declared.item.Item.{Item}
use Rattle.mega_leased_laws.specs.of_run_laws.of_tape_laws.of_promises.of_transcript.declared.item.Item.TheVariants.{Answer as AnswerItem, Taken}
use Rattle.mega_leased_laws.specs.of_run_laws.of_tape_laws.of_promises.of_transcript.Tape.{sent_count}
use Rattle.mega_leased_laws.specs.of_run_laws.of_tape_laws.of_promises.of_rules.Clock.{clock_of, is_up}
use Rattle.mega_leased_laws.specs.of_run_laws.of_tape_laws.of_promises.of_rules.Logs.{decided, prefix_of, top_of}
use Rattle.mega_leased_laws.specs.of_run_laws.of_tape_laws.of_promises.of_rules.Members.{is_node, is_voter, voters}
use Rattle.mega_leased_laws.specs.of_run_laws.of_tape_laws.of_promises.of_rules.Met.{Met, Takes}
use Rattle.mega_leased_laws.specs.of_run_laws.of_tape_laws.of_promises.of_rules.Operations.{Node, Operation}
use Rattle.mega_leased_laws.specs.of_run_laws.of_tape_laws.of_promises.of_rules.Replies.{fetched, reply_message, reply_to, where_served}
use Rattle.mega_leased_laws.specs.of_run_laws.of_tape_laws.of_promises.of_rules.Steps.{Heard, Step, Take, decision_note, hears_message, if_new, onto, read_heard, step, take_step}
use Rattle.mega_leased_laws.specs.of_run_laws.of_tape_laws.of_promises.Items.{numbered}
use Rattle.mega_leased_laws.specs.of_run_laws.of_tape_laws.of_promises.Messages.{message_of}
use Rattle.mega_leased_laws.specs.of_run_laws.of_tape_laws.of_promises.Promises.{Stands}
use Rattle.mega_leased_laws.specs.of_run_laws.of_tape_laws.of_promises.Runs.{Standing, set_at, setting, whole_step}
use Rattle.mega_calm_laws.specs.Waiting.{IsAwaited, IsNumbered, Waits}
use Rattle.mega_leased_laws.specs.of_run_laws.Justified.{Each}
use Rattle.mega_leased_laws.proofs.of_run_laws.Events.{each_append as each_both}
use Rattle.mega_leased_laws.proofs.of_run_laws.Counted.{push_has, push_last}
use Rattle.mega_leased_laws.proofs.of_settled_laws.Rounds.{with_has}
use Rattle.mega_calm_laws.proofs.Mail.{Among, Mailed, among_left, among_right, answer_stands, mailed_step, mailed_taken, number_is, number_self}
use Rattle.mega_calm_laws.proofs.Heard.{among_map, each_map, is_first}
use Rattle.mega_calm_laws.proofs.MessageKinds.{clash, kind_of_message, place_in}
use Rattle.mega_calm_laws.proofs.Noting.{DecidesMore, HasEntry, SameLogs, below_top, decides_then, decision_has, decision_more, same_decides, same_logs, still_one}
use Rattle.mega_calm_laws.proofs.Prefixes.{behind_prefix}
use Rattle.mega_calm_laws.proofs.Polls.{all_among, all_heard, among_others, among_voters, has_voter, other_voter, voter_is_node, voter_of}
use Rattle.mega_calm_laws.proofs.Reading.{HasHelper, Helped, IsUnfilled, ShowsRows, Stayed, one, who}
use Rattle.mega_calm_laws.proofs.Stepping.{IsAsking, message}
use Rattle.mega_calm_laws.proofs.Taking.{Becomes, IsIdle, NoVotes, answers, fetch_all, fetches, idle_asking, idle_have, reads_asking, reads_have, stays}
use Rattle.mega_calm_laws.proofs.Alone.{Alone, Around, At, FetchOk, Fits, Held, IsSought, LogsOn, PollOk, Ready, Sought, Stocked, TopAwaited, answered, around_on, asks_entry, asks_where, fetch_at, have_from, have_not_from, op, reading, reads, set_more, set_same, stocked_on, tells_entry, tells_none, tells_top, top_from, where_to}

pub less_position : (a b : ℕ) → nat_le a b ≡ false → b + 1 ≤ a
less_position a b h = grind (arith, nat_tests)

module _ (c : Cluster) (me start nth : ℕ) (g : GroupId) (member : is_voter c me ≡ true) (request : ReadRequest) (began : ℕ) (visited : List GroupId) (entering : Option Enter) (noted : Option Epoch) (h : Meanings)
    (shows : ShowsRows (setting c h me) request) where
  abbrev pub AloneAt : Standing → Type 0
  AloneAt now = Alone c me start nth g request began visited entering noted h now

  abbrev pub AroundAt : Standing → Type 0
  AroundAt now = Around c me start nth g request began visited entering noted h now

  abbrev pub AtNow : Standing → Type 0
  AtNow now = At c me start nth g request began visited entering noted h now

  abbrev after : Standing → ℕ → ℕ → Step → Standing
  after now v j made = whole_step c now v (Taken j ∷ []) made

  abbrev the_read : List ℕ → Stage → Operation
  the_read asked stage = reading c me start nth g request began visited entering noted h asked stage

  self : (me == me) ≡ true
  self = number_self me

  at_me : {X : Type 0} (f : ℕ → X) (x : X) → set_at f me x me ≡ x
  at_me f x = ap (λ t. cond t x (f me)) self

  elsewhere : {X : Type 0} (f : ℕ → X) (v : ℕ) (x : X) → (v == me) ≡ false → set_at f v x me ≡ f me
  elsewhere f v x apart = ap (λ t. cond t x (f me)) apart

  -- ---- the mail of a delivery

  module _ (now : Standing) (j : ℕ) (m : Message) (w : Waits now.tape j m) (v : ℕ) (made : Step) (numbered_so : IsNumbered now.tape) where
    mailed : Mailed now.tape (after now v j made).tape (λ k. j == k) made.sends
    mailed = mailed_step c (set_at now.node v made.node) v now.tape (Taken j) (λ k. j == k) made.notes made.sends refl refl (mailed_taken now.tape j m w numbered_so)

    -- what is awaited goes on to be, but for what is delivered
    awaited_on : (x : Message) → IsAwaited now.tape x → (x ≡ m) ⊎ IsAwaited (after now v j made).tape x
    awaited_on x a = by (j == a.number) refl
      where
        by : (t : Bool) → (j == a.number) ≡ t → (x ≡ m) ⊎ IsAwaited (after now v j made).tape x
        by true e = inl (same_Some x m (sym (a.waits).sent ∙ (ap (message_of now.tape) (sym (number_is j a.number e)) ∙ w.sent)))
        by false e = inr (record { number = a.number; waits = mailed.keeps a.number x e a.waits })

  -- ---- what the read waits for, on

  module _ (now : Standing) (nodes : ℕ → Node) (tape : List Item) (logs : LogsOn c me start nth g now.node nodes) (m : Message)
      (on : (x : Message) → IsAwaited now.tape x → (x ≡ m) ⊎ IsAwaited tape x) where
    abbrev IsHeard : List ℕ → ℕ → Type 0
    IsHeard heard v = (has v heard ≡ true) ⊎ (IsAwaited tape (where_to c me start nth g v) ⊎ TopAwaited c me start nth g tape v)

    poll_on : (heard later : List ℕ) (best : ℕ) → ((v : ℕ) → has v heard ≡ true → has v later ≡ true) → is_majority (length (voters c)) (length later) ≡ false
        → ((v : ℕ) → is_voter c v ≡ true → where_to c me start nth g v ≡ m → IsHeard later v) → ((v p : ℕ) → is_voter c v ≡ true → top_from c me start nth g v p ≡ m → IsHeard later v)
        → Stocked c me start nth g nodes best
        → PollOk c me start nth g now.node now.tape heard best → (more : ℕ) → Stocked c me start nth g nodes more → PollOk c me start nth g nodes tape later more
    poll_on heard later best grew minority on_where on_top _ ok more stock = record {
      awaited = λ v voter. elim (ok.awaited v voter) [
        | inl before ↦ inl (grew v before)
        | inr waiting ↦ elim waiting [
          | inl asked ↦ elim (on (where_to c me start nth g v) asked) [ inl same ↦ on_where v voter same | inr still ↦ inr (inl still) ]
          | inr told ↦ elim (on (top_from c me start nth g v told.top) told.is) [ inl same ↦ on_top v told.top voter same | inr still ↦ inr (inr (record { top = told.top; is = still })) ]
        ]
      ];
      minority = minority;
      stock = stock;
    }

    fetch_on : (through position : ℕ) (denials later : List ℕ)
        → ((v : ℕ) → has v later ≡ true → (has v denials ≡ true) ⊎ (((v == me) ≡ false) × (decided (now.node v).met g position ≡ None)))
        → ((v : ℕ) (e : Content) → is_voter c v ≡ true → (v == me) ≡ false → decided (now.node v).met g position ≡ Some e → fetch_at c me start nth g v position ≡ m
        → IsAwaited tape (fetch_at c me start nth g v position) ⊎ IsAwaited tape (have_from c me start nth g v position e))
        → (decided (nodes me).met g position ≡ None → (v : ℕ) (e : Content) → have_from c me start nth g v position e ≡ m → ⊥)
        → decided (now.node me).met g position ≡ None
        → FetchOk c me start nth g now.node now.tape through position denials → FetchOk c me start nth g nodes tape through position later
    fetch_on through position denials later from on_fetch on_have undecided ok = record {
      stock = stocked_on c me start nth g now.node nodes logs through ok.stock;
      denied = λ v there. elim (from v there) [
        | inl before ↦ (let r = ok.denied v before in (r.0, logs.same v position r.0 ∙ r.1))
        | inr new ↦ (new.0, logs.same v position new.0 ∙ new.1)
      ];
      awaited = λ none v e voter apart is. let was = sym (logs.same v position apart) ∙ is in elim (ok.awaited undecided v e voter apart was) [
        | inl asked ↦ elim (on (fetch_at c me start nth g v position) asked) [ inl same ↦ on_fetch v e voter apart was same | inr still ↦ inl still ]
        | inr told ↦ elim (on (have_from c me start nth g v position e) told) [ inl same ↦ absurd (on_have none v e same) | inr still ↦ inr still ]
      ];
    }

  -- ---- the node that does not read

  -- what the read waits for stays, where another node replies
  other_at : (now : Standing) (v j : ℕ) (made : Step) → (v == me) ≡ false → AtNow now
      → ((item : Item) → Stands item now.tape → Stands item (after now v j made).tape)
      → ((stage : Stage) → Ready c me start nth g now.node now.tape stage → Sought c me start nth g now.node stage → Ready c me start nth g (set_at now.node v made.node) (after now v j made).tape stage)
      → AtNow (after now v j made)
  other_at now v j made apart (answered p rows stands none) stood ready = answered p rows (stood _ stands) (ap (λ (n : Node). n.open_operations) (elsewhere now.node v made.node apart) ∙ none)
  other_at now v j made apart (reads asked stage opens was sought) stood ready = reads asked stage (ap (λ (n : Node). n.open_operations) (elsewhere now.node v made.node apart) ∙ opens) (ready stage was sought) (on stage sought)
    where
      on : (one : Stage) → Sought c me start nth g now.node one → Sought c me start nth g (set_at now.node v made.node) one
      on (Polling heard best at) k = tt
      on (Catching through None) k = absurd k
      on (Catching through (Some (Fetching position denials at))) k = record { low = k.low; high = k.high; undecided = ap (λ (n : Node). decided n.met g position) (elsewhere now.node v made.node apart) ∙ k.undecided }
      on (Catching through (Some (Filling position proposal))) k = absurd k

  -- ---- the node that reads

  pub me_logs : (now : Standing) (made : Step) (base : List Met) (n : ℕ) → DecidesMore (now.node me).met base g n → Stocked c me start nth g now.node n → SameLogs base (made.node).met
      → LogsOn c me start nth g now.node (set_at now.node me made.node)
  me_logs now made base n grew stock logs = set_more c me start nth g now.node made.node n (decides_then (now.node me).met base (made.node).met g n grew logs) stock

  module _ (now : Standing) (own : Item) (gone : ℕ → Bool) (a : AroundAt now) (made : Step) (base : List Met) (n : ℕ)
      (grew : DecidesMore (now.node me).met base g n) (stock : Stocked c me start nth g now.node n) (logs : SameLogs base (made.node).met)
      (mail : Mailed now.tape (whole_step c now me (own ∷ []) made).tape gone made.sends) where
    abbrev pub nodes : ℕ → Node
    nodes = set_at now.node me made.node

    abbrev pub standing : Standing
    standing = whole_step c now me (own ∷ []) made

    me_up : is_up (made.node).met ≡ true
    me_up = logs.up ∙ (grew.up ∙ a.up me (voter_is_node c me member))

    me_around : Each (Fits c me start nth g nodes) made.sends → AroundAt standing
    me_around fits = around_on c me start nth g request began visited entering noted h now me own gone made (voter_is_node c me member) a (me_logs now made base n grew stock logs) me_up (λ apart. absurd (let clash = sym self ∙ apart in cc)) fits mail

    undecided_at : (position : ℕ) → decided base g position ≡ None → decided (nodes me).met g position ≡ None
    undecided_at position none = ap (λ (x : Node). decided x.met g position) (at_me now.node made.node) ∙ (logs.decided g position ∙ none)

    -- the least position that is not decided
    sought_next : (through position : ℕ) → nat_le through (prefix_of base g) ≡ false → position ≡ prefix_of base g + 1 → IsSought c me start nth g nodes through position
    sought_next through position above is = record {
      low = omega (arith, is);
      high = (let most = less_position through (prefix_of base g) above in omega (arith, is, most));
      undecided = undecided_at position (ap (decided base g) is ∙ behind_prefix base g);
    }

    stayed_sought : (stage : Stage) → Stayed (setting c h me) (op c me start nth g) request began visited entering g noted base stage → Ready c me start nth g nodes standing.tape stage → Sought c me start nth g nodes stage
    stayed_sought (Polling heard best at) k ready = tt
    stayed_sought (Catching through None) k ready = absurd (let never = k.1 in cc)
    stayed_sought (Catching through (Some (Fetching position denials at))) k ready = sought_next through position k.0 (number_is position (prefix_of base g + 1) k.1)
    stayed_sought (Catching through (Some (Filling position proposal))) k ready = absurd ready

    stock_through : (through : ℕ) (search : Option Search) → Ready c me start nth g nodes standing.tape (Catching through search) → Stocked c me start nth g nodes through
    stock_through through None k = k
    stock_through through (Some (Fetching position denials at)) k = k.stock
    stock_through through (Some (Filling position proposal)) k = absurd k

    pub me_becomes : (stage : Stage) (reply : List Message) → Each (Fits c me start nth g nodes) reply → Ready c me start nth g nodes standing.tape stage
        → Becomes (setting c h me) (op c me start nth g) request began visited entering g noted shows base stage made reply → AloneAt standing
    me_becomes stage reply fits ready (answers p rows sends none same noted_so) = record {
      around = me_around (subst (Each (Fits c me start nth g nodes)) (sym sends) fits);
      at = answered p rows (answer_stands c nodes me now.tape own made.notes (numbered (sent_count now.tape + 1) made.sends) (op c me start nth g) (ReadAnswer (record { 0 = p }) rows) noted_so)
          (ap (λ (x : Node). x.open_operations) (at_me now.node made.node) ∙ none);
    }
    me_becomes stage reply fits ready (stays asked sends opens same stayed) = record {
      around = me_around (subst (Each (Fits c me start nth g nodes)) (sym sends) fits);
      at = reads asked stage (ap (λ (x : Node). x.open_operations) (at_me now.node made.node) ∙ opens) ready (stayed_sought stage stayed ready);
    }
    me_becomes stage reply fits ready (fetches asked through at search is above sends opens same) = record {
      around = me_around (subst (Each (Fits c me start nth g nodes)) (sym sends) (each_both (Fits c me start nth g nodes) reply (fetch_all (setting c h me) (op c me start nth g) request began visited entering g noted shows position) fits
          (each_map (Fits c me start nth g nodes) (λ v. fetch_at c me start nth g v position) (others me (voters c)) (λ v i. let r = other_voter c me v i in asks_entry v position r.0 r.1 refl))));
      at = reads asked (Catching through (Some (Fetching position [] at))) (ap (λ (x : Node). x.open_operations) (at_me now.node made.node) ∙ opens)
          (record {
            stock = stock_through through search (subst (Ready c me start nth g nodes standing.tape) is ready);
            denied = λ v there. cc;
            awaited = λ none v e voter apart d. inl (mail.sends (fetch_at c me start nth g v position) (subst (Among (fetch_at c me start nth g v position)) (sym sends)
                (among_right (fetch_at c me start nth g v position) reply (fetch_all (setting c h me) (op c me start nth g) request began visited entering g noted shows position)
                (among_map (λ u. fetch_at c me start nth g u position) v (others me (voters c)) (among_others c me v voter apart)))));
          })
          (sought_next through position above refl);
    }
      where
        position : ℕ
        position = prefix_of base g + 1

  -- the helpers of a read that is not complete
  helped : (nodes : ℕ → Node) (base : List Met) → ((k : ℕ) (e : Content) → decided (nodes me).met g k ≡ Some e → decided base g k ≡ Some e) → (through : ℕ) → Stocked c me start nth g nodes through
      → nat_le through (prefix_of base g) ≡ false → HasHelper (who (setting c h me) (op c me start nth g) request began visited entering g noted)
  helped nodes base more through stock above = record { first = r.0; more = r.1; is = r.2 }
    where
      position : ℕ
      position = prefix_of base g + 1

      held : Held c me start nth g nodes position
      held = stock position (omega arith) (less_position through (prefix_of base g) above)

      apart : (t : Bool) → (held.voter == me) ≡ t → t ≡ false
      apart false e = refl
      apart true e = let there = more position held.entry (subst (λ u. decided (nodes u).met g position ≡ Some held.entry) (number_is held.voter me e) held.is) in let clash = sym there ∙ behind_prefix base g in cc

      r : (first : ℕ) × (more : List ℕ) × (others me (voters c) ≡ first ∷ more)
      r = is_first (others me (voters c)) held.voter (among_others c me held.voter held.member (apart (held.voter == me) refl))

  -- all through which it reads is stocked, where it has the position
  abbrev pub StockedBy : (ℕ → Node) → Stage → Type 0
  StockedBy nodes (Polling heard best at) = Unit {0}
  StockedBy nodes (Catching through search) = Stocked c me start nth g nodes through

  stocked_by : (nodes : ℕ → Node) (tape : List Item) (stage : Stage) → Ready c me start nth g nodes tape stage → StockedBy nodes stage
  stocked_by nodes tape (Polling heard best at) ready = tt
  stocked_by nodes tape (Catching through None) ready = ready
  stocked_by nodes tape (Catching through (Some (Fetching position denials at))) ready = ready.stock
  stocked_by nodes tape (Catching through (Some (Filling position proposal))) ready = absurd ready

  pub helped_by : (nodes : ℕ → Node) (base : List Met) → ((k : ℕ) (e : Content) → decided (nodes me).met g k ≡ Some e → decided base g k ≡ Some e) → (stage : Stage) → StockedBy nodes stage
      → Helped (setting c h me) (op c me start nth g) request began visited entering g noted shows base stage
  helped_by nodes base more (Polling heard best at) stock = tt
  helped_by nodes base more (Catching through search) stock = helped nodes base more through stock

  -- ---- what a message leaves of what the read waits for

  module _ (now : Standing) (nodes : ℕ → Node) (tape : List Item) (logs : LogsOn c me start nth g now.node nodes) where
    where_ready : (v : ℕ) → ((x : Message) → IsAwaited now.tape x → (x ≡ where_to c me start nth g v) ⊎ IsAwaited tape x) → TopAwaited c me start nth g tape v
        → (stage : Stage) → Ready c me start nth g now.node now.tape stage → Sought c me start nth g now.node stage → Ready c me start nth g nodes tape stage
    where_ready v on told (Polling heard best at) ok sought = poll_on now nodes tape logs (where_to c me start nth g v) on heard heard best (λ u there. there) ok.minority
        (λ u voter same. subst (λ x. IsHeard now nodes tape logs (where_to c me start nth g v) on heard x) (sym (ap (λ (m : Message). m.to) same)) (inr (inr told)))
        (λ u p voter same. absurd (clash 2 1 (ap kind_of_message same) refl))
        (stocked_on c me start nth g now.node nodes logs best ok.stock) ok best (stocked_on c me start nth g now.node nodes logs best ok.stock)
    where_ready v on told (Catching through None) ok sought = absurd sought
    where_ready v on told (Catching through (Some (Fetching position denials at))) ok sought = fetch_on now nodes tape logs (where_to c me start nth g v) on through position denials denials (λ u there. inl there)
        (λ u e voter apart is same. absurd (clash 3 1 (ap kind_of_message same) refl)) (λ none u e same. absurd (clash 4 1 (ap kind_of_message same) refl)) sought.undecided ok
    where_ready v on told (Catching through (Some (Filling position proposal))) ok sought = absurd ok

    fetch_ready : (v n : ℕ) → ((x : Message) → IsAwaited now.tape x → (x ≡ fetch_at c me start nth g v n) ⊎ IsAwaited tape x)
        → ((e : Content) → decided (now.node v).met g n ≡ Some e → IsAwaited tape (have_from c me start nth g v n e))
        → (stage : Stage) → Ready c me start nth g now.node now.tape stage → Sought c me start nth g now.node stage → Ready c me start nth g nodes tape stage
    fetch_ready v n on told (Polling heard best at) ok sought = poll_on now nodes tape logs (fetch_at c me start nth g v n) on heard heard best (λ u there. there) ok.minority
        (λ u voter same. absurd (clash 1 3 (ap kind_of_message same) refl)) (λ u p voter same. absurd (clash 2 3 (ap kind_of_message same) refl))
        (stocked_on c me start nth g now.node nodes logs best ok.stock) ok best (stocked_on c me start nth g now.node nodes logs best ok.stock)
    fetch_ready v n on told (Catching through None) ok sought = absurd sought
    fetch_ready v n on told (Catching through (Some (Fetching position denials at))) ok sought = fetch_on now nodes tape logs (fetch_at c me start nth g v n) on through position denials denials (λ u there. inl there)
        (λ u e voter apart is same.
        let who_is : u ≡ v = ap (λ (m : Message). m.to) same in let place : position ≡ n = ap (λ (m : Message). place_in m.body) same in
        inr (coe 0 1 (i. IsAwaited tape (have_from c me start nth g (sym who_is i) (sym place i) e)) (told e (coe 0 1 (i. decided (now.node (who_is i)).met g (place i) ≡ Some e) is))))
        (λ none u e same. absurd (clash 4 3 (ap kind_of_message same) refl)) sought.undecided ok
    fetch_ready v n on told (Catching through (Some (Filling position proposal))) ok sought = absurd ok

    have_ready : (v n : ℕ) (entry : Content) → ((x : Message) → IsAwaited now.tape x → (x ≡ have_from c me start nth g v n entry) ⊎ IsAwaited tape x) → HasEntry (nodes me).met g n
        → (stage : Stage) → Ready c me start nth g now.node now.tape stage → Sought c me start nth g now.node stage → Ready c me start nth g nodes tape stage
    have_ready v n entry on has_it (Polling heard best at) ok sought = poll_on now nodes tape logs (have_from c me start nth g v n entry) on heard heard best (λ u there. there) ok.minority
        (λ u voter same. absurd (clash 1 4 (ap kind_of_message same) refl)) (λ u p voter same. absurd (clash 2 4 (ap kind_of_message same) refl))
        (stocked_on c me start nth g now.node nodes logs best ok.stock) ok best (stocked_on c me start nth g now.node nodes logs best ok.stock)
    have_ready v n entry on has_it (Catching through None) ok sought = absurd sought
    have_ready v n entry on has_it (Catching through (Some (Fetching position denials at))) ok sought = fetch_on now nodes tape logs (have_from c me start nth g v n entry) on through position denials denials (λ u there. inl there)
        (λ u e voter apart is same. absurd (clash 3 4 (ap kind_of_message same) refl))
        (λ none u e same. let place : position ≡ n = ap (λ (m : Message). place_in m.body) same in let never = sym (subst (λ k. decided (nodes me).met g k ≡ None) place none) ∙ has_it.is in cc) sought.undecided ok
    have_ready v n entry on has_it (Catching through (Some (Filling position proposal))) ok sought = absurd ok

    -- a denial while it polls, and a position told while it fetches, are nothing to it
    none_ready : (v n : ℕ) → ((x : Message) → IsAwaited now.tape x → (x ≡ have_not_from c me start nth g v n) ⊎ IsAwaited tape x)
        → (stage : Stage) → Ready c me start nth g now.node now.tape stage → Sought c me start nth g now.node stage → Ready c me start nth g nodes tape stage
    none_ready v n on (Polling heard best at) ok sought = poll_on now nodes tape logs (have_not_from c me start nth g v n) on heard heard best (λ u there. there) ok.minority
        (λ u voter same. absurd (clash 1 5 (ap kind_of_message same) refl)) (λ u p voter same. absurd (clash 2 5 (ap kind_of_message same) refl))
        (stocked_on c me start nth g now.node nodes logs best ok.stock) ok best (stocked_on c me start nth g now.node nodes logs best ok.stock)
    none_ready v n on (Catching through None) ok sought = absurd sought
    none_ready v n on (Catching through (Some (Fetching position denials at))) ok sought = fetch_on now nodes tape logs (have_not_from c me start nth g v n) on through position denials denials (λ u there. inl there)
        (λ u e voter apart is same. absurd (clash 3 5 (ap kind_of_message same) refl)) (λ none u e same. absurd (clash 4 5 (ap kind_of_message same) refl)) sought.undecided ok
    none_ready v n on (Catching through (Some (Filling position proposal))) ok sought = absurd ok

    denied_ready : (v n : ℕ) → ((x : Message) → IsAwaited now.tape x → (x ≡ have_not_from c me start nth g v n) ⊎ IsAwaited tape x) → (v == me) ≡ false → decided (now.node v).met g n ≡ None
        → (through position at : ℕ) (denials : List ℕ) → n ≡ position → FetchOk c me start nth g now.node now.tape through position denials → IsSought c me start nth g now.node through position
        → FetchOk c me start nth g nodes tape through position (with_node v denials)
    denied_ready v n on apart none through position at denials is ok sought = fetch_on now nodes tape logs (have_not_from c me start nth g v n) on through position denials (with_node v denials)
        (λ u there. elim (with_has v u denials there) [
          | inl before ↦ inl before
          | inr same ↦ inr (subst (λ x. ((x == me) ≡ false) × (decided (now.node x).met g position ≡ None)) same (apart, subst (λ k. decided (now.node v).met g k ≡ None) is none))
        ])
        (λ u e voter other d same. absurd (clash 3 5 (ap kind_of_message same) refl)) (λ no u e same. absurd (clash 4 5 (ap kind_of_message same) refl)) sought.undecided ok

    told_ready : (v p : ℕ) → ((x : Message) → IsAwaited now.tape x → (x ≡ top_from c me start nth g v p) ⊎ IsAwaited tape x)
        → (through position at : ℕ) (denials : List ℕ) → FetchOk c me start nth g now.node now.tape through position denials → IsSought c me start nth g now.node through position
        → FetchOk c me start nth g nodes tape through position denials
    told_ready v p on through position at denials ok sought = fetch_on now nodes tape logs (top_from c me start nth g v p) on through position denials denials (λ u there. inl there)
        (λ u e voter apart is same. absurd (clash 3 2 (ap kind_of_message same) refl)) (λ none u e same. absurd (clash 4 2 (ap kind_of_message same) refl)) sought.undecided ok

    -- a top while it polls: its voter is heard
    heard_ready : (v p : ℕ) → ((x : Message) → IsAwaited now.tape x → (x ≡ top_from c me start nth g v p) ⊎ IsAwaited tape x)
        → (heard later : List ℕ) (best more : ℕ) → ((u : ℕ) → has u heard ≡ true → has u later ≡ true) → has v later ≡ true → is_majority (length (voters c)) (length later) ≡ false
        → PollOk c me start nth g now.node now.tape heard best → Stocked c me start nth g nodes more → PollOk c me start nth g nodes tape later more
    heard_ready v p on heard later best more grew there minority ok stock = poll_on now nodes tape logs (top_from c me start nth g v p) on heard later best grew minority
        (λ u voter same. absurd (clash 1 2 (ap kind_of_message same) refl)) (λ u q voter same. inl (subst (λ x. has x later ≡ true) (sym (ap (λ (m : Message). m.from) same)) there))
        (stocked_on c me start nth g now.node nodes logs best ok.stock) ok more stock

  -- ---- what the read hears

  unfilled : (nodes : ℕ → Node) (tape : List Item) (stage : Stage) → Ready c me start nth g nodes tape stage → IsUnfilled stage
  unfilled nodes tape (Polling heard best at) ready = tt
  unfilled nodes tape (Catching through None) ready = tt
  unfilled nodes tape (Catching through (Some (Fetching position denials at))) ready = tt
  unfilled nodes tape (Catching through (Some (Filling position proposal))) ready = absurd ready

  abbrev same_heard : List ℕ → Stage → Heard
  same_heard asked stage = record { operation = the_read asked stage; sends = [] }

  -- what is nothing to it
  abbrev IsNothing : Body → Stage → Type 0
  IsNothing (Where o g) stage = Unit {0}
  IsNothing (Have o g n e) stage = Unit {0}
  IsNothing (Top o g n) (Catching through search) = Unit {0}
  IsNothing (HaveNot o g n) (Polling heard best at) = Unit {0}
  IsNothing _ _ = ⊥

  hears_nothing : (clock from to : ℕ) (body : Body) (asked : List ℕ) (stage : Stage) → IsNothing body stage → IsUnfilled stage → hears_message (setting c h me) clock (message from to body) (the_read asked stage) ≡ same_heard asked stage
  hears_nothing clock from to (Where o k) asked (Polling heard best at) none ok = refl
  hears_nothing clock from to (Where o k) asked (Catching through None) none ok = refl
  hears_nothing clock from to (Where o k) asked (Catching through (Some (Fetching position denials at))) none ok = refl
  hears_nothing clock from to (Where o k) asked (Catching through (Some (Filling position proposal))) none ok = absurd ok
  hears_nothing clock from to (Have o k n e) asked (Polling heard best at) none ok = refl
  hears_nothing clock from to (Have o k n e) asked (Catching through None) none ok = refl
  hears_nothing clock from to (Have o k n e) asked (Catching through (Some (Fetching position denials at))) none ok = refl
  hears_nothing clock from to (Have o k n e) asked (Catching through (Some (Filling position proposal))) none ok = absurd ok
  hears_nothing clock from to (Top o k n) asked (Catching through None) none ok = refl
  hears_nothing clock from to (Top o k n) asked (Catching through (Some (Fetching position denials at))) none ok = refl
  hears_nothing clock from to (Top o k n) asked (Catching through (Some (Filling position proposal))) none ok = absurd ok
  hears_nothing clock from to (HaveNot o k n) asked (Polling heard best at) none ok = refl
  hears_nothing clock from to _ asked _ none ok = absurd none

  own_read : (same_op (op c me start nth g) (op c me start nth g) && same_group g g) ≡ true
  own_read = ap (λ t. t && same_group g g) (same_op_self (op c me start nth g)) ∙ same_group_self g

  abbrev a_reading : List ℕ → Stage → Reading
  a_reading asked stage = record { noted = noted; asked = asked; stage = stage }

  hears_top : (clock v p : ℕ) (asked heard : List ℕ) (best at : ℕ) (t u : Bool) → (has v heard || not (has v (voters c))) ≡ t → is_majority (length (voters c)) (length heard + 1) ≡ u
      → hears_message (setting c h me) clock (top_from c me start nth g v p) (the_read asked (Polling heard best at))
      ≡ read_heard (the_read asked (Polling heard best at)) g (cond {A = ReadMove} t (stays_so (a_reading asked (Polling heard best at)))
      (cond u (move (a_reading asked (Polling heard best at)) (Catching (max best p) None) []) (move (a_reading asked (Polling heard best at)) (Polling (heard ++ v ∷ []) (max best p) at) [])))
  hears_top clock v p asked heard best at t u is_t is_u =
      ap (λ b. read_heard (the_read asked (Polling heard best at)) g (cond {A = ReadMove} b (cond (has v heard || not (has v (voters c))) (stays_so r) (cond (is_majority (length (voters c)) (length heard + 1)) one_more next_one)) (stays_so r))) own_read
      ∙ (ap (λ b. read_heard (the_read asked (Polling heard best at)) g (cond {A = ReadMove} b (stays_so r) (cond (is_majority (length (voters c)) (length heard + 1)) one_more next_one))) is_t
      ∙ ap (λ b. read_heard (the_read asked (Polling heard best at)) g (cond {A = ReadMove} t (stays_so r) (cond b one_more next_one))) is_u)
    where
      r : Reading
      r = a_reading asked (Polling heard best at)

      one_more : ReadMove
      one_more = move r (Catching (max best p) None) []

      next_one : ReadMove
      next_one = move r (Polling (heard ++ v ∷ []) (max best p) at) []

  abbrev its_who : Reader
  its_who = who (setting c h me) (op c me start nth g) request began visited entering g noted

  abbrev is_denial : ℕ → ℕ → ℕ → Bool
  is_denial v n position = same_op (op c me start nth g) (op c me start nth g) && same_group g g && n == position && has v (others me (voters c))

  hears_none : (clock v n : ℕ) (asked denials : List ℕ) (through position at : ℕ) (t u : Bool) → is_denial v n position ≡ t → list_all (λ voter. has voter (with_node v denials)) (others me (voters c)) ≡ u
      → hears_message (setting c h me) clock (have_not_from c me start nth g v n) (the_read asked (Catching through (Some (Fetching position denials at))))
      ≡ read_heard (the_read asked (Catching through (Some (Fetching position denials at)))) g (cond {A = ReadMove} t
      (cond u (fills its_who (a_reading asked (Catching through (Some (Fetching position denials at)))) through position clock) (move (a_reading asked (Catching through (Some (Fetching position denials at)))) (Catching through (Some (Fetching position (with_node v denials) at))) []))
      (stays_so (a_reading asked (Catching through (Some (Fetching position denials at))))))
  hears_none clock v n asked denials through position at t u is_t is_u =
      ap (λ b. read_heard o g (cond {A = ReadMove} b (cond (list_all (λ voter. has voter (with_node v denials)) (others me (voters c))) filled more) (stays_so r))) is_t
      ∙ ap (λ b. read_heard o g (cond {A = ReadMove} t (cond b filled more) (stays_so r))) is_u
    where
      stage : Stage
      stage = Catching through (Some (Fetching position denials at))

      o : Operation
      o = the_read asked stage

      r : Reading
      r = a_reading asked stage

      filled : ReadMove
      filled = fills its_who r through position clock

      more : ReadMove
      more = move r (Catching through (Some (Fetching position (with_node v denials) at))) []

  -- ---- a question

  abbrev top_reply : (now : Standing) (v : ℕ) → List Message
  top_reply now v = top_from c me start nth g v (top_of (now.node v).met g) ∷ []

  replies_top : (now : Standing) (v : ℕ) → is_voter c v ≡ true → reply_to c v (now.node v).met (where_to c me start nth g v) ≡ top_reply now v
  replies_top now v voter = ap (λ t. reply_message v me (where_served t (Top (op c me start nth g) g (record { 0 = top_of (now.node v).met g })))) voter

  take_where_other : (now : Standing) → AloneAt now → (j v : ℕ) → is_voter c v ≡ true → (v == me) ≡ false → Waits now.tape j (where_to c me start nth g v)
      → AloneAt (after now v j (take_step (setting c h v) (now.node v) (where_to c me start nth g v)))
  take_where_other now a j v voter apart w = record {
    around = around_on c me start nth g request began visited entering noted h now v (Taken j) (λ k. j == k) step' (voter_is_node c v voter) a.around logs
        ((idle.logs).up ∙ (a.around).up v (voter_is_node c v voter)) (λ k. idle.none_open)
        (subst (Each (Fits c me start nth g nodes')) (sym idle.sends_are) (tells_top v top voter (stocked_on c me start nth g now.node nodes' logs top ((a.around).stock v voter)) refl, tt)) mail;
    at = other_at now v j step' apart a.at mail.stood (where_ready now nodes' (after now v j step').tape logs v (awaited_on now j (where_to c me start nth g v) w v step' (a.around).numbered)
        (record { top = top; is = mail.sends (top_from c me start nth g v top) (subst (Among (top_from c me start nth g v top)) (sym idle.sends_are) (inl refl)) }));
  }
    where
      top : ℕ
      top = top_of (now.node v).met g

      step' : Step
      step' = take_step (setting c h v) (now.node v) (where_to c me start nth g v)

      nodes' : ℕ → Node
      nodes' = set_at now.node v step'.node

      idle : IsIdle (now.node v).met step' (top_reply now v)
      idle = idle_asking (setting c h v) (now.node v) ((a.around).idle v (voter_is_node c v voter) apart) me v (Where (op c me start nth g) g) tt (top_reply now v) (replies_top now v voter) (tt, tt)

      logs : LogsOn c me start nth g now.node nodes'
      logs = set_same c me start nth g now.node v step'.node idle.logs

      mail : Mailed now.tape (after now v j step').tape (λ k. j == k) step'.sends
      mail = mailed now j (where_to c me start nth g v) w v step' (a.around).numbered

  pub becomes_logs : (base : List Met) (stage : Stage) (made : Step) (reply : List Message) → Becomes (setting c h me) (op c me start nth g) request began visited entering g noted shows base stage made reply → SameLogs base (made.node).met
  becomes_logs base stage made reply (answers p rows sends none same noted_so) = same
  becomes_logs base stage made reply (stays asked sends opens same stayed) = same
  becomes_logs base stage made reply (fetches asked through at search is above sends opens same) = same

  pub becomes_sends : (base : List Met) (stage : Stage) (made : Step) (reply : List Message) → Becomes (setting c h me) (op c me start nth g) request began visited entering g noted shows base stage made reply
      → (x : Message) → Among x reply → Among x made.sends
  becomes_sends base stage made reply (answers p rows sends none still noted_so) x i = subst (Among x) (sym sends) i
  becomes_sends base stage made reply (stays asked sends opened still stayed) x i = subst (Among x) (sym sends) i
  becomes_sends base stage made reply (fetches asked through at search is above sends opened still) x i =
      subst (Among x) (sym sends) (among_left x reply (fetch_all (setting c h me) (op c me start nth g) request began visited entering g noted shows (prefix_of base g + 1)) i)

  pub none_stocked : (nodes : ℕ → Node) → Stocked c me start nth g nodes 0
  none_stocked nodes k low high = absurd (omega (arith, low, high))

  takes_same : (now : Standing) (m : Message) → DecidesMore (now.node me).met (Takes m ∷ (now.node me).met) g 0
  takes_same now m = same_decides (now.node me).met (Takes m ∷ (now.node me).met) g 0 (still_one (Takes m) (now.node me).met tt)

  -- a read that was answered stays so
  me_done : (now : Standing) (j : ℕ) (m : Message) → Waits now.tape j m → AroundAt now → (made : Step) (base : List Met) (n : ℕ) → DecidesMore (now.node me).met base g n → Stocked c me start nth g now.node n
      → (reply : List Message) → IsIdle base made reply → Each (Fits c me start nth g (set_at now.node me made.node)) reply
      → (p : ℕ) (rows : List (Option Shown)) → Stands (AnswerItem (op c me start nth g) (ReadAnswer (record { 0 = p }) rows)) now.tape → AloneAt (after now me j made)
  me_done now j m w a made base n grew stock reply idle fits p rows stands = record {
    around = me_around now (Taken j) (λ k. j == k) a made base n grew stock idle.logs (mailed now j m w me made a.numbered) (subst (Each (Fits c me start nth g (set_at now.node me made.node))) (sym idle.sends_are) fits);
    at = answered p rows ((mailed now j m w me made a.numbered).stood _ stands) (ap (λ (x : Node). x.open_operations) (at_me now.node made.node) ∙ idle.none_open);
  }

  -- a message that tells of no decision, at the node that reads
  me_asking : (now : Standing) (j from : ℕ) (body : Body) → IsAsking body → Waits now.tape j (message from me body) → AroundAt now → (reply : List Message) → reply_to c me (now.node me).met (message from me body) ≡ reply → NoVotes reply
      → ((made : Step) → LogsOn c me start nth g now.node (set_at now.node me made.node) → Each (Fits c me start nth g (set_at now.node me made.node)) reply)
      → (asked : List ℕ) (was stage : Stage) → (now.node me).open_operations ≡ the_read asked was ∷ []
      → hears_message (setting c h me) (clock_of (now.node me).met) (message from me body) (the_read asked was) ≡ same_heard asked stage
      → IsUnfilled stage → StockedBy now.node stage
      → ((made : Step) → LogsOn c me start nth g now.node (set_at now.node me made.node) → ((x : Message) → IsAwaited now.tape x → (x ≡ message from me body) ⊎ IsAwaited (after now me j made).tape x)
      → ((x : Message) → Among x reply → IsAwaited (after now me j made).tape x) → Ready c me start nth g (set_at now.node me made.node) (after now me j made).tape stage)
      → AloneAt (after now me j (take_step (setting c h me) (now.node me) (message from me body)))
  me_asking now j from body asking w a reply reply_is quiet fits asked was stage opens hears whole stocked later =
      me_becomes now (Taken j) (λ k. j == k) a made base 0 (takes_same now m) (none_stocked now.node) same (mailed now j m w me made a.numbered) stage reply (fits made logs)
      (later made logs (awaited_on now j m w me made a.numbered) (λ x i. (mailed now j m w me made a.numbered).sends x (becomes_sends base stage made reply became x i)))
      became
    where
      m : Message
      m = message from me body

      made : Step
      made = take_step (setting c h me) (now.node me) m

      base : List Met
      base = Takes m ∷ (now.node me).met

      became : Becomes (setting c h me) (op c me start nth g) request began visited entering g noted shows base stage made reply
      became = reads_asking (setting c h me) (op c me start nth g) request began visited entering g noted shows (now.node me) from me body asking reply reply_is quiet asked was stage opens hears whole
          (helped_by now.node base (λ k e d. d) stage stocked)

      same : SameLogs base (made.node).met
      same = becomes_logs base stage made reply became

      logs : LogsOn c me start nth g now.node (set_at now.node me made.node)
      logs = me_logs now made base 0 (takes_same now m) (none_stocked now.node) same

  take_where_me : (now : Standing) → AloneAt now → (j : ℕ) → Waits now.tape j (where_to c me start nth g me)
      → AloneAt (after now me j (take_step (setting c h me) (now.node me) (where_to c me start nth g me)))
  take_where_me now a j w = by a.at
    where
      top : ℕ
      top = top_of (now.node me).met g

      fits : (made : Step) → LogsOn c me start nth g now.node (set_at now.node me made.node) → Each (Fits c me start nth g (set_at now.node me made.node)) (top_reply now me)
      fits made logs = (tells_top me top member (stocked_on c me start nth g now.node (set_at now.node me made.node) logs top ((a.around).stock me member)) refl, tt)

      by : AtNow now → AloneAt (after now me j (take_step (setting c h me) (now.node me) (where_to c me start nth g me)))
      by (answered p rows stands none) = me_done now j (where_to c me start nth g me) w a.around made (now.node me).met 0 (same_decides (now.node me).met (now.node me).met g 0 (same_logs (now.node me).met)) (none_stocked now.node) (top_reply now me) idle
          (fits made (set_same c me start nth g now.node me made.node idle.logs)) p rows stands
        where
          made : Step
          made = take_step (setting c h me) (now.node me) (where_to c me start nth g me)

          idle : IsIdle (now.node me).met made (top_reply now me)
          idle = idle_asking (setting c h me) (now.node me) none me me (Where (op c me start nth g) g) tt (top_reply now me) (replies_top now me member) (tt, tt)
      by (reads asked stage opens ready sought) = me_asking now j me (Where (op c me start nth g) g) tt w a.around (top_reply now me) (replies_top now me member) (tt, tt) fits asked stage stage opens
          (hears_nothing (clock_of (now.node me).met) me me (Where (op c me start nth g) g) asked stage tt (unfilled now.node now.tape stage ready)) (unfilled now.node now.tape stage ready) (stocked_by now.node now.tape stage ready)
          (λ made logs on told. where_ready now (set_at now.node me made.node) (after now me j made).tape logs me on (record { top = top; is = told (top_from c me start nth g me top) (inl refl) }) stage ready sought)

  -- ---- a top

  heard_if : (v : ℕ) (heard : List ℕ) → is_voter c v ≡ true → (t : Bool) → has v heard ≡ t → (has v heard || not (has v (voters c))) ≡ t
  heard_if v heard voter t is = ap (λ b. b || not (has v (voters c))) is ∙ (ap (λ b. t || not b) (has_voter c v voter) ∙ by t)
    where
      by : (b : Bool) → (b || false) ≡ b
      by true = refl
      by false = refl

  most_of : (nodes : ℕ → Node) (best p : ℕ) → Stocked c me start nth g nodes best → Stocked c me start nth g nodes p → Stocked c me start nth g nodes (max best p)
  most_of nodes best p one other n low high = by (nat_le n best) refl
    where
      is_below : nat_le n best ≡ true → n ≤ best
      is_below e = grind (arith, nat_tests)

      is_above : nat_le n best ≡ false → best < n
      is_above e = grind (arith, nat_tests)

      by : (t : Bool) → nat_le n best ≡ t → Held c me start nth g nodes n
      by true e = one n low (is_below e)
      by false e = other n low (let above = is_above e in omega (arith, above, high))

  last_length : (v : ℕ) (xs : List ℕ) → length (xs ++ v ∷ []) ≡ length xs + 1
  last_length v [] = refl
  last_length v (x ∷ xs) = ap suc (last_length v xs) ∙ next (length xs)
    where
      next : (n : ℕ) → suc (n + 1) ≡ suc n + 1
      next n = omega arith

  take_top : (now : Standing) → AloneAt now → (j v p : ℕ) → is_voter c v ≡ true → Stocked c me start nth g now.node p → Waits now.tape j (top_from c me start nth g v p)
      → AloneAt (after now me j (take_step (setting c h me) (now.node me) (top_from c me start nth g v p)))
  take_top now a j v p voter stock w = by a.at
    where
      body : Body
      body = Top (op c me start nth g) g (record { 0 = p })

      none_fit : (made : Step) → LogsOn c me start nth g now.node (set_at now.node me made.node) → Each (Fits c me start nth g (set_at now.node me made.node)) []
      none_fit made logs = tt

      fetching_case : (asked : List ℕ) (stage : Stage) → IsNothing body stage → (now.node me).open_operations ≡ the_read asked stage ∷ [] → Ready c me start nth g now.node now.tape stage → Sought c me start nth g now.node stage → AloneAt (after now me j (take_step (setting c h me) (now.node me) (top_from c me start nth g v p)))
      fetching_case asked (Polling heard best at) nothing opens ready sought = absurd nothing
      fetching_case asked (Catching through None) nothing opens ready sought = absurd sought
      fetching_case asked (Catching through (Some (Filling position proposal))) nothing opens ready sought = absurd ready
      fetching_case asked (Catching through (Some (Fetching position denials at))) nothing opens ready sought =
          me_asking now j v body tt w a.around [] refl tt none_fit asked stage stage opens (hears_nothing (clock_of (now.node me).met) v me body asked stage tt tt) tt ready.stock
          (λ made logs on told. told_ready now (set_at now.node me made.node) (after now me j made).tape logs v p on through position at denials ready sought)
        where
          stage : Stage
          stage = Catching through (Some (Fetching position denials at))

      polling_case : (asked heard : List ℕ) (best at : ℕ) → (now.node me).open_operations ≡ the_read asked (Polling heard best at) ∷ [] → PollOk c me start nth g now.node now.tape heard best
          → (t u : Bool) → has v heard ≡ t → is_majority (length (voters c)) (length heard + 1) ≡ u → AloneAt (after now me j (take_step (setting c h me) (now.node me) (top_from c me start nth g v p)))
      polling_case asked heard best at opens ready true u is_heard is_most =
          me_asking now j v body tt w a.around [] refl tt none_fit asked (Polling heard best at) (Polling heard best at) opens
          (hears_top (clock_of (now.node me).met) v p asked heard best at true u (heard_if v heard voter true is_heard) is_most) tt tt
          (λ made logs on told. heard_ready now (set_at now.node me made.node) (after now me j made).tape logs v p on heard heard best best (λ x there. there) is_heard ready.minority ready
          (stocked_on c me start nth g now.node (set_at now.node me made.node) logs best ready.stock))
      polling_case asked heard best at opens ready false true is_heard is_most =
          me_asking now j v body tt w a.around [] refl tt none_fit asked (Polling heard best at) (Catching (max best p) None) opens
          (hears_top (clock_of (now.node me).met) v p asked heard best at false true (heard_if v heard voter false is_heard) is_most) tt (most_of now.node best p ready.stock stock)
          (λ made logs on told. stocked_on c me start nth g now.node (set_at now.node me made.node) logs (max best p) (most_of now.node best p ready.stock stock))
      polling_case asked heard best at opens ready false false is_heard is_most =
          me_asking now j v body tt w a.around [] refl tt none_fit asked (Polling heard best at) (Polling (heard ++ v ∷ []) (max best p) at) opens
          (hears_top (clock_of (now.node me).met) v p asked heard best at false false (heard_if v heard voter false is_heard) is_most) tt tt
          (λ made logs on told. heard_ready now (set_at now.node me made.node) (after now me j made).tape logs v p on heard (heard ++ v ∷ []) best (max best p) (λ x there. push_has v x heard there) (push_last v heard) few ready
          (stocked_on c me start nth g now.node (set_at now.node me made.node) logs (max best p) (most_of now.node best p ready.stock stock)))
        where
          few : is_majority (length (voters c)) (length (heard ++ v ∷ [])) ≡ false
          few = ap (is_majority (length (voters c))) (last_length v heard) ∙ is_most

      by : AtNow now → AloneAt (after now me j (take_step (setting c h me) (now.node me) (top_from c me start nth g v p)))
      by (answered p' rows stands none) = me_done now j (top_from c me start nth g v p) w a.around (take_step (setting c h me) (now.node me) (top_from c me start nth g v p)) (now.node me).met 0
          (same_decides (now.node me).met (now.node me).met g 0 (same_logs (now.node me).met)) (none_stocked now.node) []
          (idle_asking (setting c h me) (now.node me) none v me body tt [] refl tt) tt p' rows stands
      by (reads asked (Polling heard best at) opens ready sought) = polling_case asked heard best at opens ready (has v heard) (is_majority (length (voters c)) (length heard + 1)) refl refl
      by (reads asked (Catching through search) opens ready sought) = fetching_case asked (Catching through search) tt opens ready sought

  -- ---- an entry that is asked for

  abbrev fetch_reply : ℕ → ℕ → Option Content → List Message
  fetch_reply v n o = reply_message v me (Some (fetched (op c me start nth g) g (record { 0 = n }) o))

  take_fetch : (now : Standing) → AloneAt now → (j v n : ℕ) → is_voter c v ≡ true → (v == me) ≡ false → Waits now.tape j (fetch_at c me start nth g v n)
      → AloneAt (after now v j (take_step (setting c h v) (now.node v) (fetch_at c me start nth g v n)))
  take_fetch now a j v n voter apart w = record {
    around = around_on c me start nth g request began visited entering noted h now v (Taken j) (λ k. j == k) made (voter_is_node c v voter) a.around logs
        ((idle.logs).up ∙ (a.around).up v (voter_is_node c v voter)) (λ k. idle.none_open)
        (subst (Each (Fits c me start nth g nodes')) (sym idle.sends_are) (fits (decided (now.node v).met g n) refl)) mail;
    at = other_at now v j made apart a.at mail.stood (fetch_ready now nodes' (after now v j made).tape logs v n (awaited_on now j (fetch_at c me start nth g v n) w v made (a.around).numbered)
        (λ e is. mail.sends (have_from c me start nth g v n e) (subst (Among (have_from c me start nth g v n e)) (sym idle.sends_are) (subst (λ o. Among (have_from c me start nth g v n e) (fetch_reply v n o)) (sym is) (inl refl)))));
  }
    where
      made : Step
      made = take_step (setting c h v) (now.node v) (fetch_at c me start nth g v n)

      nodes' : ℕ → Node
      nodes' = set_at now.node v made.node

      quiet : (o : Option Content) → NoVotes (fetch_reply v n o)
      quiet None = (tt, tt)
      quiet (Some e) = (tt, tt)

      idle : IsIdle (now.node v).met made (fetch_reply v n (decided (now.node v).met g n))
      idle = idle_asking (setting c h v) (now.node v) ((a.around).idle v (voter_is_node c v voter) apart) me v (Fetch (op c me start nth g) g (record { 0 = n })) tt (fetch_reply v n (decided (now.node v).met g n))
          (ap (λ t. reply_message v me (where_served t (fetched (op c me start nth g) g (record { 0 = n }) (decided (now.node v).met g n)))) voter) (quiet (decided (now.node v).met g n))

      logs : LogsOn c me start nth g now.node nodes'
      logs = set_same c me start nth g now.node v made.node idle.logs

      mail : Mailed now.tape (after now v j made).tape (λ k. j == k) made.sends
      mail = mailed now j (fetch_at c me start nth g v n) w v made (a.around).numbered

      fits : (o : Option Content) → decided (now.node v).met g n ≡ o → Each (Fits c me start nth g nodes') (fetch_reply v n o)
      fits None is = (tells_none v n apart (logs.same v n apart ∙ is) refl, tt)
      fits (Some e) is = (tells_entry v n e (stocked_on c me start nth g now.node nodes' logs n (λ k low high. (a.around).stock v voter k low (let most = below_top (now.node v).met g n e is in omega (arith, high, most)))) refl, tt)

  -- ---- an entry that is told

  take_have : (now : Standing) → AloneAt now → (j v n : ℕ) (entry : Content) → Stocked c me start nth g now.node n → Waits now.tape j (have_from c me start nth g v n entry)
      → AloneAt (after now me j (take_step (setting c h me) (now.node me) (have_from c me start nth g v n entry)))
  take_have now a j v n entry stock w = by a.at
    where
      m : Message
      m = have_from c me start nth g v n entry

      made : Step
      made = take_step (setting c h me) (now.node me) m

      base : List Met
      base = onto (decision_note (if_new (now.node me).met (Some (record { group = g; position = n; entry = entry })))) (Takes m ∷ (now.node me).met)

      grew : DecidesMore (now.node me).met base g n
      grew = decision_more (now.node me).met (Takes m ∷ (now.node me).met) g n entry (still_one (Takes m) (now.node me).met tt)

      told : HasEntry base g n
      told = decision_has (now.node me).met (Takes m ∷ (now.node me).met) g n entry (still_one (Takes m) (now.node me).met tt)

      by : AtNow now → AloneAt (after now me j made)
      by (answered p rows stands none) = me_done now j m w a.around made base n grew stock [] (idle_have (setting c h me) (now.node me) none v me (op c me start nth g) g n entry) tt p rows stands
      by (reads asked stage opens ready sought) = me_becomes now (Taken j) (λ k. j == k) a.around made base n grew stock same (mailed now j m w me made (a.around).numbered) stage [] tt
          (have_ready now (set_at now.node me made.node) (after now me j made).tape logs v n entry (awaited_on now j m w me made (a.around).numbered)
          (record { entry = told.entry; is = ap (λ (x : Node). decided x.met g n) (at_me now.node made.node) ∙ (same.decided g n ∙ told.is) }) stage ready sought)
          became
        where
          became : Becomes (setting c h me) (op c me start nth g) request began visited entering g noted shows base stage made []
          became = reads_have (setting c h me) (op c me start nth g) request began visited entering g noted shows (now.node me) v me (op c me start nth g) n entry asked stage opens
              (hears_nothing (clock_of (now.node me).met) v me (Have (op c me start nth g) g (record { 0 = n }) entry) asked stage tt (unfilled now.node now.tape stage ready))
              (helped_by now.node base grew.more stage (stocked_by now.node now.tape stage ready))

          same : SameLogs base (made.node).met
          same = becomes_logs base stage made [] became

          logs : LogsOn c me start nth g now.node (set_at now.node me made.node)
          logs = me_logs now made base n grew stock same

  -- ---- a denial

  take_none : (now : Standing) → AloneAt now → (j v n : ℕ) → (v == me) ≡ false → decided (now.node v).met g n ≡ None → Waits now.tape j (have_not_from c me start nth g v n)
      → AloneAt (after now me j (take_step (setting c h me) (now.node me) (have_not_from c me start nth g v n)))
  take_none now a j v n apart none w = by a.at
    where
      m : Message
      m = have_not_from c me start nth g v n

      body : Body
      body = HaveNot (op c me start nth g) g (record { 0 = n })

      none_fit : (made : Step) → LogsOn c me start nth g now.node (set_at now.node me made.node) → Each (Fits c me start nth g (set_at now.node me made.node)) []
      none_fit made logs = tt

      fetching_case : (asked denials : List ℕ) (through position at : ℕ) → (now.node me).open_operations ≡ the_read asked (Catching through (Some (Fetching position denials at))) ∷ []
          → FetchOk c me start nth g now.node now.tape through position denials → IsSought c me start nth g now.node through position
          → (t u : Bool) → is_denial v n position ≡ t → list_all (λ voter. has voter (with_node v denials)) (others me (voters c)) ≡ u → AloneAt (after now me j (take_step (setting c h me) (now.node me) m))
      fetching_case asked denials through position at opens ready sought false u is_t is_u =
          me_asking now j v body tt w a.around [] refl tt none_fit asked (Catching through (Some (Fetching position denials at))) (Catching through (Some (Fetching position denials at))) opens
          (hears_none (clock_of (now.node me).met) v n asked denials through position at false u is_t is_u) tt ready.stock
          (λ made logs on told. none_ready now (set_at now.node me made.node) (after now me j made).tape logs v n on (Catching through (Some (Fetching position denials at))) ready sought)
      fetching_case asked denials through position at opens ready sought true false is_t is_u =
          me_asking now j v body tt w a.around [] refl tt none_fit asked (Catching through (Some (Fetching position denials at))) (Catching through (Some (Fetching position (with_node v denials) at))) opens
          (hears_none (clock_of (now.node me).met) v n asked denials through position at true false is_t is_u) tt ready.stock
          (λ made logs on told. denied_ready now (set_at now.node me made.node) (after now me j made).tape logs v n on apart none through position at denials place ready sought)
        where
          place : n ≡ position
          place = number_is n position ((and_parts (same_op (op c me start nth g) (op c me start nth g) && same_group g g) (n == position) ((and_parts (same_op (op c me start nth g) (op c me start nth g) && same_group g g && n == position) (has v (others me (voters c))) is_t).0)).1)
      fetching_case asked denials through position at opens ready sought true true is_t is_u = absurd (never (held.voter == me) refl)
        where
          place : n ≡ position
          place = number_is n position ((and_parts (same_op (op c me start nth g) (op c me start nth g) && same_group g g) (n == position) ((and_parts (same_op (op c me start nth g) (op c me start nth g) && same_group g g && n == position) (has v (others me (voters c))) is_t).0)).1)

          held : Held c me start nth g now.node position
          held = ready.stock position sought.low sought.high

          denies : (u : ℕ) → has u (with_node v denials) ≡ true → decided (now.node u).met g position ≡ None
          denies u there = elim (with_has v u denials there) [
            | inl before ↦ (ready.denied u before).1
            | inr same ↦ subst (λ x. decided (now.node x).met g position ≡ None) same (subst (λ k. decided (now.node v).met g k ≡ None) place none)
          ]

          never : (t : Bool) → (held.voter == me) ≡ t → ⊥
          never true e = let mine = subst (λ x. decided (now.node x).met g position ≡ Some held.entry) (number_is held.voter me e) held.is in let no_more = sym mine ∙ sought.undecided in cc
          never false e =
              let said = all_among (λ voter. has voter (with_node v denials)) held.voter (others me (voters c)) is_u (among_others c me held.voter held.member e) in
              let no_more = sym held.is ∙ denies held.voter said in cc

      by : AtNow now → AloneAt (after now me j (take_step (setting c h me) (now.node me) m))
      by (answered p rows stands none_open) = me_done now j m w a.around (take_step (setting c h me) (now.node me) m) (now.node me).met 0
          (same_decides (now.node me).met (now.node me).met g 0 (same_logs (now.node me).met)) (none_stocked now.node) []
          (idle_asking (setting c h me) (now.node me) none_open v me body tt [] refl tt) tt p rows stands
      by (reads asked (Polling heard best at) opens ready sought) =
          me_asking now j v body tt w a.around [] refl tt none_fit asked (Polling heard best at) (Polling heard best at) opens
          (hears_nothing (clock_of (now.node me).met) v me body asked (Polling heard best at) tt tt) tt tt
          (λ made logs on told. none_ready now (set_at now.node me made.node) (after now me j made).tape logs v n on (Polling heard best at) ready sought)
      by (reads asked (Catching through None) opens ready sought) = absurd sought
      by (reads asked (Catching through (Some (Filling position proposal))) opens ready sought) = absurd ready
      by (reads asked (Catching through (Some (Fetching position denials at))) opens ready sought) =
          fetching_case asked denials through position at opens ready sought (is_denial v n position) (list_all (λ voter. has voter (with_node v denials)) (others me (voters c))) refl refl

  -- ---- each delivery, and the end

  pub takes_alone : (now : Standing) → AloneAt now → (j : ℕ) (m : Message) → Waits now.tape j m → AloneAt (whole_step c now m.to (Taken j ∷ []) (step (setting c h m.to) (now.node m.to) (Take m)))
  takes_alone now a j m w = by ((a.around).mail j m w)
    where
      Leads : Message → Type 0
      Leads x = AloneAt (after now x.to j (take_step (setting c h x.to) (now.node x.to) x))

      by_where : (v : ℕ) → is_voter c v ≡ true → Waits now.tape j (where_to c me start nth g v) → (t : Bool) → (v == me) ≡ t → Leads (where_to c me start nth g v)
      by_where v voter w' false e = take_where_other now a j v voter e w'
      by_where v voter w' true e = subst (λ u. Leads (where_to c me start nth g u)) (sym (number_is v me e)) (take_where_me now a j (subst (λ u. Waits now.tape j (where_to c me start nth g u)) (number_is v me e) w'))

      by : Fits c me start nth g now.node m → Leads m
      by (asks_where v voter is) = subst Leads (sym is) (by_where v voter (subst (Waits now.tape j) is w) (v == me) refl)
      by (tells_top v p voter stock is) = subst Leads (sym is) (take_top now a j v p voter stock (subst (Waits now.tape j) is w))
      by (asks_entry v n voter apart is) = subst Leads (sym is) (take_fetch now a j v n voter apart (subst (Waits now.tape j) is w))
      by (tells_entry v n entry stock is) = subst Leads (sym is) (take_have now a j v n entry stock (subst (Waits now.tape j) is w))
      by (tells_none v n apart none is) = subst Leads (sym is) (take_none now a j v n apart none (subst (Waits now.tape j) is w))

  pub receives : (now : Standing) → AloneAt now → (k : ℕ) (m : Message) → Waits now.tape k m → is_node c m.to ≡ true
  receives now a k m w = by ((a.around).mail k m w)
    where
      At' : Message → Type 0
      At' x = is_node c x.to ≡ true

      by : Fits c me start nth g now.node m → At' m
      by (asks_where v voter is) = subst At' (sym is) (voter_is_node c v voter)
      by (tells_top v p voter stock is) = subst At' (sym is) (voter_is_node c me member)
      by (asks_entry v n voter apart is) = subst At' (sym is) (voter_is_node c v voter)
      by (tells_entry v n entry stock is) = subst At' (sym is) (voter_is_node c me member)
      by (tells_none v n apart none is) = subst At' (sym is) (voter_is_node c me member)

  -- a read that is open awaits a message; so where none waits, it was answered
  pub data Awaits (now : Standing) : Type 0 where
    is_answered : (p : ℕ) (rows : List (Option Shown)) → Stands (AnswerItem (op c me start nth g) (ReadAnswer (record { 0 = p }) rows)) now.tape → Awaits now
    is_awaiting : (m : Message) → IsAwaited now.tape m → Awaits now

  pub awaits : (now : Standing) → AloneAt now → Awaits now
  awaits now a = by a.at
    where
      all_or : (vs : List ℕ) (heard : List ℕ) → ((v : ℕ) → Among v vs → (has v heard ≡ true) ⊎ ((m : Message) × IsAwaited now.tape m)) → ((v : ℕ) → Among v vs → has v heard ≡ true) ⊎ ((m : Message) × IsAwaited now.tape m)
      all_or [] heard f = inl (λ v i. absurd i)
      all_or (x ∷ vs) heard f = elim (f x (inl refl)) [
        | inr waiting ↦ inr waiting
        | inl there ↦ elim (all_or vs heard (λ v i. f v (inr i))) [
          | inr waiting ↦ inr waiting
          | inl rest ↦ inl (each x vs there rest)
        ]
      ]
        where
          each : (x : ℕ) (vs : List ℕ) → has x heard ≡ true → ((v : ℕ) → Among v vs → has v heard ≡ true) → (v : ℕ) → Among v (x ∷ vs) → has v heard ≡ true
          each x vs there rest v (inl same) = subst (λ u. has u heard ≡ true) same there
          each x vs there rest v (inr i) = rest v i

      some_one : (heard : List ℕ) (best : ℕ) → PollOk c me start nth g now.node now.tape heard best → (v : ℕ) → is_voter c v ≡ true → (has v heard ≡ true) ⊎ ((m : Message) × IsAwaited now.tape m)
      some_one heard best ok v voter = elim (ok.awaited v voter) [
        | inl there ↦ inl there
        | inr waiting ↦ elim waiting [ inl asked ↦ inr (where_to c me start nth g v, asked) | inr told ↦ inr (top_from c me start nth g v told.top, told.is) ]
      ]

      by : AtNow now → Awaits now
      by (answered p rows stands none) = is_answered p rows stands
      by (reads asked (Polling heard best at) opens ready sought) = elim (all_or (voters c) heard (λ v i. some_one heard best ready v (voter_of c v i))) [
        | inl all ↦ absurd (let many = all_heard c heard me member (λ v voter. all v (among_voters c v voter)) in let never = sym many ∙ ready.minority in cc)
        | inr waiting ↦ is_awaiting waiting.0 waiting.1
      ]
      by (reads asked (Catching through None) opens ready sought) = absurd sought
      by (reads asked (Catching through (Some (Filling position proposal))) opens ready sought) = absurd ready
      by (reads asked (Catching through (Some (Fetching position denials at))) opens ready sought) = apart (held.voter == me) refl
        where
          held : Held c me start nth g now.node position
          held = ready.stock position sought.low sought.high

          apart : (t : Bool) → (held.voter == me) ≡ t → Awaits now
          apart true e = absurd (let mine = subst (λ x. decided (now.node x).met g position ≡ Some held.entry) (number_is held.voter me e) held.is in let no_more = sym mine ∙ sought.undecided in cc)
          apart false e = elim (ready.awaited sought.undecided held.voter held.entry held.member e held.is) [
            | inl one_more ↦ is_awaiting (fetch_at c me start nth g held.voter position) one_more
            | inr one_more ↦ is_awaiting (have_from c me start nth g held.voter position held.entry) one_more
          ]

-- One operation reads alone, and each position below what a voter accepted or decided is decided at some voter.
use Rattle.std.proofs.Common.{◌≡◌, ◌⊎◌, inl, inr, ℕ, ◌==◌, ◌≤◌, Bool, true, false, cond, List, [], ◌∷◌, length, Option, Some, None, refl, sym, ap, ◌∙◌, subst, arith}
use Rattle.mega_base.specs.declared.names.Epoch.{Epoch}
use Rattle.mega_base.specs.declared.names.GroupId.{GroupId}
use Rattle.mega_base.specs.declared.names.OpId.{OpId}
use Rattle.mega_cluster.specs.declared.cluster.Cluster.{Cluster}
use Rattle.mega_entry.specs.declared.content.Content.{Content}
use Rattle.mega_entry.specs.declared.content.Enter.{Enter}
use Rattle.mega_handler.specs.Named.{Meanings}
use Rattle.mega_wire.specs.declared.message.Message.{Message}
use Rattle.mega_wire.specs.declared.message.Body.TheVariants.{Fetch, Have, HaveNot, Top, Where}
use Rattle.mega_outcome.specs.declared.answer.Answer.TheVariants.{Read as ReadAnswer}
use Rattle.mega_outcome.specs.declared.answer.Shown.{Shown}
use Rattle.mega_outcome.specs.declared.request.ReadRequest.{ReadRequest}
use Rattle.mega_leased_laws.specs.of_run_laws.of_tape_laws.of_promises.of_rules.of_read.of_propose.Members.{has, is_majority}
use Rattle.mega_leased_laws.specs.of_run_laws.of_tape_laws.of_promises.of_rules.of_read.declared.reading.Search.TheVariants.{Fetching, Filling}
use Rattle.mega_leased_laws.specs.of_run_laws.of_tape_laws.of_promises.of_rules.of_read.declared.reading.Stage.{Stage}
use Rattle.mega_leased_laws.specs.of_run_laws.of_tape_laws.of_promises.of_rules.of_read.declared.reading.Stage.TheVariants.{Polling, Catching}
use Rattle.mega_leased_laws.specs.of_run_laws.of_tape_laws.of_promises.of_transcript.declared.item.Item.{Item}
use Rattle.mega_leased_laws.specs.of_run_laws.of_tape_laws.of_promises.of_transcript.declared.item.Item.TheVariants.{Answer as AnswerItem}
use Rattle.mega_leased_laws.specs.of_run_laws.of_tape_laws.of_promises.of_rules.Clock.{is_up}
use Rattle.mega_leased_laws.specs.of_run_laws.of_tape_laws.of_promises.of_rules.Logs.{decided, top_of}
use Rattle.mega_leased_laws.specs.of_run_laws.of_tape_laws.of_promises.of_rules.Members.{is_node, is_voter, voters}
use Rattle.mega_leased_laws.specs.of_run_laws.of_tape_laws.of_promises.of_rules.Operations.{Node, Operation, Setting}
use Rattle.mega_leased_laws.specs.of_run_laws.of_tape_laws.of_promises.of_rules.Steps.{Step}
use Rattle.mega_leased_laws.specs.of_run_laws.of_tape_laws.of_promises.Promises.{Stands}
use Rattle.mega_leased_laws.specs.of_run_laws.of_tape_laws.of_promises.Runs.{Standing, set_at, setting, whole_step}
use Rattle.mega_calm_laws.specs.Waiting.{IsAwaited, IsNumbered, Waits}
use Rattle.mega_leased_laws.specs.of_run_laws.Justified.{Each}
use Rattle.mega_calm_laws.proofs.Mail.{Mailed, each_of, number_is, number_self}
use Rattle.mega_calm_laws.proofs.Noting.{DecidesMore, SameLogs}
use Rattle.mega_calm_laws.proofs.Draining.{IsUnfused, unfused_after}
use Rattle.mega_calm_laws.proofs.Reading.{one}
use Rattle.mega_calm_laws.proofs.Stepping.{message}

-- ---- the messages of a read

abbrev pub op_at : ℕ → ℕ → ℕ → OpId
op_at me start n = record { node = record { 0 = me }; start = start; number = n }

module _ (c : Cluster) (me start nth : ℕ) (g : GroupId) where
  abbrev pub op : OpId
  op = op_at me start nth

  abbrev pub where_to : ℕ → Message
  where_to v = message me v (Where op g)

  abbrev pub top_from : ℕ → ℕ → Message
  top_from v p = message v me (Top op g (record { 0 = p }))

  abbrev pub fetch_at : ℕ → ℕ → Message
  fetch_at v n = message me v (Fetch op g (record { 0 = n }))

  abbrev pub have_from : ℕ → ℕ → Content → Message
  have_from v n entry = message v me (Have op g (record { 0 = n }) entry)

  abbrev pub have_not_from : ℕ → ℕ → Message
  have_not_from v n = message v me (HaveNot op g (record { 0 = n }))

  -- ---- what voters decided

  pub record Held (nodes : ℕ → Node) (n : ℕ) : Type 0 where
    pub voter : ℕ
    pub member : is_voter c voter ≡ true
    pub entry : Content
    pub is : decided (nodes voter).met g n ≡ Some entry

  abbrev pub Stocked : (ℕ → Node) → ℕ → Type 0
  Stocked nodes p = (n : ℕ) → 1 ≤ n → n ≤ p → Held nodes n

  pub data Fits (nodes : ℕ → Node) (m : Message) : Type 0 where
    asks_where : (v : ℕ) → is_voter c v ≡ true → m ≡ where_to v → Fits nodes m
    tells_top : (v p : ℕ) → is_voter c v ≡ true → Stocked nodes p → m ≡ top_from v p → Fits nodes m
    asks_entry : (v n : ℕ) → is_voter c v ≡ true → (v == me) ≡ false → m ≡ fetch_at v n → Fits nodes m
    tells_entry : (v n : ℕ) (entry : Content) → Stocked nodes n → m ≡ have_from v n entry → Fits nodes m
    tells_none : (v n : ℕ) → (v == me) ≡ false → decided (nodes v).met g n ≡ None → m ≡ have_not_from v n → Fits nodes m

  -- ---- how logs grow

  pub record LogsOn (old new : ℕ → Node) : Type 0 where
    pub more : (u k : ℕ) (e : Content) → decided (old u).met g k ≡ Some e → decided (new u).met g k ≡ Some e
    pub same : (u k : ℕ) → (u == me) ≡ false → decided (new u).met g k ≡ decided (old u).met g k
    pub top : (u k : ℕ) → k ≤ top_of (new u).met g → (k ≤ top_of (old u).met g) ⊎ Stocked old k

  pub held_on : (old new : ℕ → Node) → LogsOn old new → (n : ℕ) → Held old n → Held new n
  held_on old new l n h = record { voter = h.voter; member = h.member; entry = h.entry; is = l.more h.voter n h.entry h.is }

  pub stocked_on : (old new : ℕ → Node) → LogsOn old new → (p : ℕ) → Stocked old p → Stocked new p
  stocked_on old new l p h = λ n low high. held_on old new l n (h n low high)

  pub fits_on : (old new : ℕ → Node) → LogsOn old new → (m : Message) → Fits old m → Fits new m
  fits_on old new l m (asks_where v member is) = asks_where v member is
  fits_on old new l m (tells_top v p member stock is) = tells_top v p member (stocked_on old new l p stock) is
  fits_on old new l m (asks_entry v n member apart is) = asks_entry v n member apart is
  fits_on old new l m (tells_entry v n entry stock is) = tells_entry v n entry (stocked_on old new l n stock) is
  fits_on old new l m (tells_none v n apart none is) = tells_none v n apart (l.same v n apart ∙ none) is

  -- a node whose logs are as they were
  pub set_same : (old : ℕ → Node) (v : ℕ) (node : Node) → SameLogs (old v).met node.met → LogsOn old (set_at old v node)
  set_same old v node s = record {
    more = λ u k e d. more u k e d (v == u) refl;
    same = λ u k apart. same u k (v == u) refl;
    top = λ u k le. top u k (v == u) refl le;
  }
    where
      same : (u k : ℕ) (t : Bool) → (v == u) ≡ t → decided (cond t node (old u)).met g k ≡ decided (old u).met g k
      same u k true e = s.decided g k ∙ ap (λ w. decided (old w).met g k) (number_is v u e)
      same u k false e = refl

      more : (u k : ℕ) (e : Content) → decided (old u).met g k ≡ Some e → (t : Bool) → (v == u) ≡ t → decided (cond t node (old u)).met g k ≡ Some e
      more u k e d t is = same u k t is ∙ d

      top : (u k : ℕ) (t : Bool) → (v == u) ≡ t → k ≤ top_of (cond t node (old u)).met g → (k ≤ top_of (old u).met g) ⊎ Stocked old k
      top u k true e le = inl (subst (λ w. k ≤ top_of (old w).met g) (number_is v u e) (subst (λ a. k ≤ a) (s.top g) le))
      top u k false e le = inl le

  -- the reading node, which decides a position that is stocked
  pub set_more : (old : ℕ → Node) (node : Node) (n : ℕ) → DecidesMore (old me).met node.met g n → Stocked old n → LogsOn old (set_at old me node)
  set_more old node n d stock = record {
    more = λ u k e h. more u k e h (me == u) refl;
    same = λ u k apart. same u k apart (me == u) refl;
    top = λ u k le. top u k (me == u) refl le;
  }
    where
      turned : (u : ℕ) → (me == u) ≡ true → (u == me) ≡ false → ⊥
      turned u e apart = let is = number_is me u e in let clash = sym (ap (λ w. w == me) (sym is) ∙ number_self me) ∙ apart in cc

      more : (u k : ℕ) (e : Content) → decided (old u).met g k ≡ Some e → (t : Bool) → (me == u) ≡ t → decided (cond t node (old u)).met g k ≡ Some e
      more u k e h true is = d.more k e (subst (λ w. decided (old w).met g k ≡ Some e) (sym (number_is me u is)) h)
      more u k e h false is = h

      same : (u k : ℕ) → (u == me) ≡ false → (t : Bool) → (me == u) ≡ t → decided (cond t node (old u)).met g k ≡ decided (old u).met g k
      same u k apart true is = absurd (turned u is apart)
      same u k apart false is = refl

      top : (u k : ℕ) (t : Bool) → (me == u) ≡ t → k ≤ top_of (cond t node (old u)).met g → (k ≤ top_of (old u).met g) ⊎ Stocked old k
      top u k true is le = elim (d.top k le) [
        | inl low ↦ inl (subst (λ w. k ≤ top_of (old w).met g) (number_is me u is) low)
        | inr low ↦ inr (λ i above most. stock i above (omega (arith, most, low)))
      ]
      top u k false is le = inl le

  -- ---- what the read waits for

  pub record TopAwaited (tape : List Item) (v : ℕ) : Type 0 where
    pub top : ℕ
    pub is : IsAwaited tape (top_from v top)

  pub record PollOk (nodes : ℕ → Node) (tape : List Item) (heard : List ℕ) (best : ℕ) : Type 0 where
    pub awaited : (v : ℕ) → is_voter c v ≡ true → (has v heard ≡ true) ⊎ (IsAwaited tape (where_to v) ⊎ TopAwaited tape v)
    pub minority : is_majority (length (voters c)) (length heard) ≡ false
    pub stock : Stocked nodes best

  pub record FetchOk (nodes : ℕ → Node) (tape : List Item) (through position : ℕ) (denials : List ℕ) : Type 0 where
    pub stock : Stocked nodes through
    pub denied : (v : ℕ) → has v denials ≡ true → ((v == me) ≡ false) × (decided (nodes v).met g position ≡ None)
    pub awaited : decided (nodes me).met g position ≡ None → (v : ℕ) (e : Content) → is_voter c v ≡ true → (v == me) ≡ false → decided (nodes v).met g position ≡ Some e
        → IsAwaited tape (fetch_at v position) ⊎ IsAwaited tape (have_from v position e)

  abbrev pub Ready : (ℕ → Node) → List Item → Stage → Type 0
  Ready nodes tape (Polling heard best sent) = PollOk nodes tape heard best
  Ready nodes tape (Catching through None) = Stocked nodes through
  Ready nodes tape (Catching through (Some (Fetching position denials sent))) = FetchOk nodes tape through position denials
  Ready nodes tape (Catching through (Some (Filling position proposal))) = ⊥

  pub record IsSought (nodes : ℕ → Node) (through position : ℕ) : Type 0 where
    pub low : 1 ≤ position
    pub high : position ≤ through
    pub undecided : decided (nodes me).met g position ≡ None

  abbrev pub Sought : (ℕ → Node) → Stage → Type 0
  Sought nodes (Polling heard best sent) = Unit {0}
  Sought nodes (Catching through None) = ⊥
  Sought nodes (Catching through (Some (Fetching position denials sent))) = IsSought nodes through position
  Sought nodes (Catching through (Some (Filling position proposal))) = ⊥

  module _ (request : ReadRequest) (began : ℕ) (visited : List GroupId) (entering : Option Enter) (noted : Option Epoch) (h : Meanings) where
    abbrev pub s_of : ℕ → Setting
    s_of v = setting c h v

    abbrev pub reading : List ℕ → Stage → Operation
    reading asked stage = one (s_of me) op request began visited entering g noted asked stage

    -- the read was answered, or it waits
    pub data At (now : Standing) : Type 0 where
      answered : (p : ℕ) (rows : List (Option Shown)) → Stands (AnswerItem op (ReadAnswer (record { 0 = p }) rows)) now.tape → (now.node me).open_operations ≡ [] → At now
      reads : (asked : List ℕ) (stage : Stage) → (now.node me).open_operations ≡ reading asked stage ∷ [] → Ready now.node now.tape stage → Sought now.node stage → At now

    pub record Around (now : Standing) : Type 0 where
      pub up : (v : ℕ) → is_node c v ≡ true → is_up (now.node v).met ≡ true
      pub unfused : (v : ℕ) → is_node c v ≡ true → IsUnfused now v
      pub numbered : IsNumbered now.tape
      pub idle : (v : ℕ) → is_node c v ≡ true → (v == me) ≡ false → (now.node v).open_operations ≡ []
      pub stock : (v : ℕ) → is_voter c v ≡ true → Stocked now.node (top_of (now.node v).met g)
      pub mail : (k : ℕ) (m : Message) → Waits now.tape k m → Fits now.node m

    pub record Alone (now : Standing) : Type 0 where
      pub around : Around now
      pub at : At now

    -- ---- a step keeps what is around the read

    pub around_on : (now : Standing) (v : ℕ) (own : Item) (gone : ℕ → Bool) (made : Step) → is_node c v ≡ true → Around now → LogsOn now.node (set_at now.node v made.node) → is_up (made.node).met ≡ true
        → ((v == me) ≡ false → (made.node).open_operations ≡ []) → Each (Fits (set_at now.node v made.node)) made.sends
        → Mailed now.tape (whole_step c now v (own ∷ []) made).tape gone made.sends → Around (whole_step c now v (own ∷ []) made)
    around_on now v own gone made member a logs still_up none_open fits mailed = record {
      up = λ u node. up u node (v == u);
      unfused = λ u node. unfused_after c now v (own ∷ []) made u (a.unfused v member) (a.unfused u node);
      numbered = mailed.numbered;
      idle = λ u node apart. idle u node apart (v == u) refl;
      stock = λ u voter n low high. elim (logs.top u n high) [
        | inl below ↦ held_on now.node nodes' logs n (a.stock u voter n low below)
        | inr stocked ↦ held_on now.node nodes' logs n (stocked n low (same_most n))
      ];
      mail = λ k m w. elim (mailed.comes k m w) [
        | inl early ↦ fits_on now.node nodes' logs m (a.mail k m early.1)
        | inr i ↦ each_of (Fits nodes') m made.sends fits i
      ];
    }
      where
        nodes' : ℕ → Node
        nodes' = set_at now.node v made.node

        same_most : (n : ℕ) → n ≤ n
        same_most n = omega arith

        up : (u : ℕ) → is_node c u ≡ true → (t : Bool) → is_up (cond t made.node (now.node u)).met ≡ true
        up u node true = still_up
        up u node false = a.up u node

        idle : (u : ℕ) → is_node c u ≡ true → (u == me) ≡ false → (t : Bool) → (v == u) ≡ t → (cond t made.node (now.node u)).open_operations ≡ []
        idle u node apart true is = none_open (ap (λ w. w == me) (number_is v u is) ∙ apart)
        idle u node apart false is = a.idle u node apart

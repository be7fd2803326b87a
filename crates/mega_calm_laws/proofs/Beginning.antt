-- A current read begins at a full node of a calm cluster: it is answered, it polls, or it fetches; and behind its drain it is answered.
use Rattle.std.proofs.Common.{◌≡◌, inl, inr, ℕ, ◌+◌, ◌&&◌, ◌||◌, ◌≤◌, nat_le, Bool, true, false, cond, option_map, List, [], ◌∷◌, ◌++◌, length, map, Option, Some, None, is_some, Result, Ok, Err, refl, sym, ap, ◌∙◌, subst, arith}
use Rattle.std.specs.Prelude.{IsSome}
use Rattle.std.proofs.lemmas.Bool.Decides.{nat_tests}
use Rattle.std.proofs.lemmas.Bool.{and_parts}
use Rattle.mega_base.specs.declared.names.Epoch.{Epoch}
use Rattle.mega_base.specs.declared.names.GroupId.{GroupId}
use Rattle.mega_base.specs.declared.names.OpId.{OpId}
use Rattle.mega_base.specs.declared.values.NodeKind.{NodeKind}
use Rattle.mega_base.specs.declared.values.NodeKind.TheVariants.{Full, Witness, Read as ReadOnly}
use Rattle.mega_cluster.specs.declared.cluster.Cluster.{Cluster}
use Rattle.mega_entry.specs.declared.content.Content.{Content}
use Rattle.mega_handler.specs.Named.{Meanings}
use Rattle.mega_wire.specs.declared.message.Message.{Message}
use Rattle.mega_index.specs.Rows.{Rows, after as rows_after, no_rows}
use Rattle.mega_outcome.specs.declared.answer.Answer.TheVariants.{Read as ReadAnswer, Worn}
use Rattle.mega_outcome.specs.declared.answer.Shown.{Shown}
use Rattle.mega_outcome.specs.declared.answer.Turn.{Turn}
use Rattle.mega_outcome.specs.declared.request.Mode.{Mode}
use Rattle.mega_outcome.specs.declared.request.Mode.TheVariants.{Current, Snapshot, Inconsistent}
use Rattle.mega_outcome.specs.declared.request.ReadRequest.{ReadRequest}
use Rattle.mega_outcome.specs.declared.request.Request.{Request}
use Rattle.mega_outcome.specs.declared.request.Request.TheVariants.{Read as ReadRequested}
use Rattle.mega_outcome.specs.declared.transaction.RowRef.{RowRef}
use Rattle.mega_outcome.specs.Places.{◌>>=◌, key_in}
use Rattle.mega_outcome.specs.Reads.{all_reads, shown as shown_row}
use Rattle.mega_schema.specs.declared.schema.Schema.{Schema}
use Rattle.mega_leased_laws.specs.of_run_laws.of_tape_laws.of_promises.of_rules.of_read.of_propose.Members.{is_majority, others}
use Rattle.mega_leased_laws.specs.of_run_laws.of_tape_laws.of_promises.of_rules.of_read.declared.reading.Move.{Move as ReadMove}
use Rattle.mega_leased_laws.specs.of_run_laws.of_tape_laws.of_promises.of_rules.of_read.declared.reading.Search.{Search}
use Rattle.mega_leased_laws.specs.of_run_laws.of_tape_laws.of_promises.of_rules.of_read.declared.reading.Stage.{Stage}
use Rattle.mega_leased_laws.specs.of_run_laws.of_tape_laws.of_promises.of_rules.of_read.declared.reading.Stage.TheVariants.{Polling, Catching}
use Rattle.mega_leased_laws.specs.of_run_laws.of_tape_laws.of_promises.of_rules.of_read.Catching.{local_read, polled_read}
use Rattle.mega_leased_laws.specs.of_run_laws.of_tape_laws.of_promises.of_transcript.declared.item.Item.{Item}
use Rattle.mega_leased_laws.specs.of_run_laws.of_tape_laws.of_promises.of_transcript.declared.item.Item.TheVariants.{Begin as BeginItem}
use Rattle.mega_leased_laws.specs.of_run_laws.of_tape_laws.of_promises.of_transcript.Tape.{is_sent, is_taken, sent_count}
use Rattle.mega_leased_laws.specs.of_run_laws.of_tape_laws.of_promises.of_rules.Acting.{goes_on, reader_of, rests_within, rows_answer, sends_more}
use Rattle.mega_leased_laws.specs.of_run_laws.of_tape_laws.of_promises.of_rules.Clock.{clock_of, next_number, start_of}
use Rattle.mega_leased_laws.specs.of_run_laws.of_tape_laws.of_promises.of_rules.Coordinators.{serves_at, valid_at}
use Rattle.mega_leased_laws.specs.of_run_laws.of_tape_laws.of_promises.of_rules.Logs.{decided, groups_of, prefix_of, top_of}
use Rattle.mega_leased_laws.specs.of_run_laws.of_tape_laws.of_promises.of_rules.Members.{is_full, is_node, is_voter, kind_of, runs, voters, votes}
use Rattle.mega_leased_laws.specs.of_run_laws.of_tape_laws.of_promises.of_rules.Met.{Met, Answers, Begins, Sends}
use Rattle.mega_leased_laws.specs.of_run_laws.of_tape_laws.of_promises.of_rules.Operations.{Node, Now, Reads, Setting}
use Rattle.mega_leased_laws.specs.of_run_laws.of_tape_laws.of_promises.of_rules.Steps.{Begin, Step, apply_notes, at_first, at_open, begin_step, is_current, is_worn, missing_kind, new_operation, onto, op_of, read_begins, refusal, unless_missing, unless_refused}
use Rattle.mega_leased_laws.specs.of_run_laws.of_tape_laws.of_promises.Calm.{IsCalm, begun, is_cut}
use Rattle.mega_leased_laws.specs.of_run_laws.of_tape_laws.of_promises.Items.{numbered as numbered_from, shown}
use Rattle.mega_leased_laws.specs.of_run_laws.of_tape_laws.of_promises.Messages.{is_dropped}
use Rattle.mega_leased_laws.specs.of_run_laws.of_tape_laws.of_promises.Promises.{rows_shown}
use Rattle.mega_leased_laws.specs.of_run_laws.of_tape_laws.of_promises.Runs.{Cuts, Standing, delivered, drained, set_at, setting, whole_step}
use Rattle.mega_calm_laws.specs.Answered.{AllWaited, IsRead, IsReadOrAwaits, all_delivered}
use Rattle.mega_calm_laws.specs.Stocked.{IsStocked}
use Rattle.mega_calm_laws.specs.Waiting.{IsNumbered, Waits}
use Rattle.mega_leased_laws.specs.of_run_laws.Justified.{Each}
use Rattle.mega_leased_laws.proofs.of_run_laws.Events.{each_append as each_both, onto_append}
use Rattle.mega_calm_laws.proofs.Mail.{Among, Mailed, among_right, answer_stands, mailed_plain, mailed_step, none_gone}
use Rattle.mega_calm_laws.proofs.Noting.{DecidesMore, IsNoVote, IsStill, SameLogs, applies_still, logs_then, same_decides, sends_still, still_onto, still_one}
use Rattle.mega_calm_laws.proofs.Draining.{Ends, IsNext, at_node_whole, delivers, drain_ends, none_waits}
use Rattle.mega_calm_laws.proofs.Prefixes.{behind_prefix}
use Rattle.mega_calm_laws.proofs.Polls.{among_voters, voter_of}
use Rattle.mega_calm_laws.proofs.Reading.{Helped, Outcome, fetching, ShowsRows, answered, asks, goes_on_so, one, waits}
use Rattle.mega_calm_laws.proofs.Taking.{Becomes, NoVotes, answers, fetch_all, fetch_quiet, fetches, stays}
use Rattle.mega_calm_laws.proofs.Alone.{Around, Fits, Held, LogsOn, Ready, Stocked, asks_where, stocked_on, where_to}
use Rattle.mega_calm_laws.proofs.Delivering.{AloneAt, less_position, Awaits, awaits, me_logs, becomes_logs, becomes_sends, helped_by, is_answered, is_awaiting, me_becomes, none_stocked, receives, takes_alone}
use Rattle.mega_calm_laws.proofs.Heard.{among_map, each_map}

-- ---- the rows of a read

-- the rows that are named are found in any rows, or in none
module _ (s : Schema) (group : List ℕ) where
  abbrev stepped : RowRef → Rows → Result (List ℕ) Turn → Result (List (Option Shown)) Turn → Result (List (Option Shown)) Turn
  stepped r rows key rest = ((key >>= λ found. Ok (rows found)) >>= λ there. Ok (option_map (shown_row r.table) there)) >>= λ first. rest >>= λ others. Ok (first ∷ others)

  reads_fit : (a b : Rows) (refs : List RowRef) (i : ℕ) (xs : List (Option Shown)) → all_reads s group a i refs ≡ Ok xs → (ys : List (Option Shown)) × (all_reads s group b i refs ≡ Ok ys)
  reads_fit a b [] i xs h = ([], refl)
  reads_fit a b (r ∷ rs) i xs h = by (key_in s group i r.table r.key) refl (all_reads s group a (i + 1) rs) refl h (reads_fit a b rs (i + 1))
    where
      by : (key : Result (List ℕ) Turn) → key_in s group i r.table r.key ≡ key → (rest : Result (List (Option Shown)) Turn) → all_reads s group a (i + 1) rs ≡ rest → stepped r a key rest ≡ Ok xs
          → ((zs : List (Option Shown)) → all_reads s group a (i + 1) rs ≡ Ok zs → (ys : List (Option Shown)) × (all_reads s group b (i + 1) rs ≡ Ok ys))
          → (ys : List (Option Shown)) × (all_reads s group b i (r ∷ rs) ≡ Ok ys)
      by (Err turn) is_key rest is_rest k again = absurd (let never = k in cc)
      by (Ok key) is_key (Err turn) is_rest k again = absurd (let never = k in cc)
      by (Ok key) is_key (Ok others) is_rest k again =
          let more = again others is_rest in
          (option_map (shown_row r.table) (b key) ∷ more.0, ap (λ o. stepped r b o (all_reads s group b (i + 1) rs)) is_key ∙ ap (stepped r b (Ok key)) more.1)

shows_by : (s : Setting) (mode : Mode) (group : GroupId) (refs : List RowRef) (log : List Content) (rows : List (Option Shown))
    → rows_shown s.cluster.schema (record { mode = mode; group = group; rows = refs }) log refs ≡ Ok rows → ShowsRows s (record { mode = mode; group = group; rows = refs })
shows_by s mode group [] log rows is p all listed = (_, refl)
shows_by s mode group (r ∷ refs) log rows is p all listed =
    let found = reads_fit s.cluster.schema group.key (rows_after log no_rows) all (r ∷ refs) 0 rows is in
    (found.0, ap (rows_answer p) found.1)

pub shows_rows : (s : Setting) (request : ReadRequest) (log : List Content) (rows : List (Option Shown)) → rows_shown s.cluster.schema request log request.rows ≡ Ok rows → ShowsRows s request
shows_rows s request log rows is = shows_by s request.mode request.group request.rows log rows is

-- ---- what begins is not refused

full_kind : (o : Option NodeKind) → runs o ≡ true → o ≡ Some Full
full_kind (Some Full) h = refl
full_kind (Some Witness) h = cc
full_kind (Some ReadOnly) h = cc
full_kind None h = cc

full_is : (c : Cluster) (me : ℕ) → is_full c me ≡ true → kind_of c me ≡ Some Full
full_is c me h = full_kind (kind_of c me) (and_parts (is_node c me) (runs (kind_of c me)) h).1

pub full_votes : (c : Cluster) (me : ℕ) → is_full c me ≡ true → is_voter c me ≡ true
full_votes c me h = ap (λ o. is_node c me && votes o) (full_is c me h) ∙ (ap (λ t. t && true) (and_parts (is_node c me) (runs (kind_of c me)) h).0)

pub full_node : (c : Cluster) (me : ℕ) → is_full c me ≡ true → is_node c me ≡ true
full_node c me h = (and_parts (is_node c me) (runs (kind_of c me)) h).0

pub not_refused : (s : Setting) (node : Node) (request : Request) → is_full s.cluster s.me ≡ true → is_worn node.met ≡ false → node.open_operations ≡ [] → refusal s node request ≡ None
not_refused s node request full worn none =
    ap (λ t. cond t (Some Worn) (unless_missing node.open_operations (missing_kind request (kind_of s.cluster s.me)))) worn
    ∙ (ap (λ o. unless_missing node.open_operations (missing_kind request o)) (full_is s.cluster s.me full)
    ∙ ap (λ os. unless_missing os None) none)

-- ---- the step in which it begins

module _ (s : Setting) (node : Node) (request : ReadRequest) (text : List ℕ) (full : is_full s.cluster s.me ≡ true) (worn : is_worn node.met ≡ false) (none : node.open_operations ≡ []) (current : is_current request.mode ≡ true)
    (shows : ShowsRows s request) where
  abbrev id : OpId
  id = op_of s node.met

  abbrev own : Met
  own = Begins id text

  abbrev base : List Met
  base = own ∷ node.met

  abbrev begin : Now
  begin = at_open (at_first base node.stored) node.open_operations

  abbrev made : Step
  made = begin_step s node (ReadRequested request) text

  abbrev acted : Now
  acted = unless_refused s begin (new_operation id (ReadRequested request) (clock_of node.met)) (refusal s node (ReadRequested request))

  -- the read that it makes
  abbrev asked_so : Bool → ReadMove
  asked_so valid = cond {A = ReadMove} valid (local_read [] (top_of node.met request.group)) (polled_read (reader_of s id request.group) (serves_at s.cluster base) [] (clock_of node.met))

  abbrev begins_so : Bool → Now
  begins_so valid = goes_on s (sends_more begin (asked_so valid).sends)
      (record { id = id; request = ReadRequested request; began = clock_of node.met; visited = request.group ∷ []; message = None; phase = Reads request.group (asked_so valid).reading })

  by_mode : (mode : Mode) → is_current mode ≡ true
      → rests_within (length (groups_of base) + 2) s (read_begins s begin (new_operation id (ReadRequested request) (clock_of node.met)) request mode) ≡ begins_so (valid_at s.cluster base request.group)
  by_mode Current h = refl
  by_mode Snapshot h = cc
  by_mode Inconsistent h = cc

  acts_so : (t : Bool) → valid_at s.cluster base request.group ≡ t → acted ≡ begins_so t
  acts_so t is =
      ap (unless_refused s begin (new_operation id (ReadRequested request) (clock_of node.met))) (not_refused s node (ReadRequested request) full worn none)
      ∙ (by_mode request.mode current ∙ ap begins_so is)

  -- what it leaves
  begun_logs : (now : Now) (applies : List Met) → Each IsStill applies → Each IsStill now.valid → Each IsStill now.answers → NoVotes now.sends
      → SameLogs base (onto (map Sends now.sends) (onto (((([] ++ []) ++ applies) ++ now.valid) ++ now.answers) base))
  begun_logs now applies still valid answered_so quiet =
      subst (SameLogs base) (ap (onto (map Sends now.sends)) (sym spread))
      (logs_then base noted (onto (map Sends now.sends) noted)
      (logs_then base (onto applies base) noted (still_onto applies base still)
      (logs_then (onto applies base) (onto now.valid (onto applies base)) noted (still_onto now.valid (onto applies base) valid) (still_onto now.answers (onto now.valid (onto applies base)) answered_so)))
      (still_onto (map Sends now.sends) noted (sends_still now.sends quiet)))
    where
      noted : List Met
      noted = onto now.answers (onto now.valid (onto applies base))

      spread : onto (((([] ++ []) ++ applies) ++ now.valid) ++ now.answers) base ≡ noted
      spread = onto_append ((([] ++ []) ++ applies) ++ now.valid) now.answers base ∙ ap (onto now.answers) (onto_append (([] ++ []) ++ applies) now.valid base)

  module _ (noted : Option Epoch) (asked : List ℕ) (stage : Stage) (sends : List Message) (quiet : NoVotes sends)
      (is : acted ≡ goes_on s (sends_more begin sends) (one s id request (clock_of node.met) (request.group ∷ []) None request.group noted asked stage))
      (helped : Helped s id request (clock_of node.met) (request.group ∷ []) None request.group noted shows base stage) where
    abbrev next : Now
    next = goes_on s (sends_more begin sends) (one s id request (clock_of node.met) (request.group ∷ []) None request.group noted asked stage)

    pub begin_becomes : Becomes s id request (clock_of node.met) (request.group ∷ []) None request.group noted shows base stage made sends
    begin_becomes = by (subst (Outcome s id request (clock_of node.met) (request.group ∷ []) None request.group noted (sends_more begin sends) stage) (sym is)
        (goes_on_so s id request (clock_of node.met) (request.group ∷ []) None request.group noted shows (sends_more begin sends) asked stage tt helped))
      where
        applies : List Met
        applies = apply_notes s node.met node.stored acted.met acted.stored

        still : Each IsStill applies
        still = applies_still s node.met node.stored acted.met acted.stored

        by : Outcome s id request (clock_of node.met) (request.group ∷ []) None request.group noted (sends_more begin sends) stage acted
            → Becomes s id request (clock_of node.met) (request.group ∷ []) None request.group noted shows base stage made sends
        by (answered p rows kept sent valid answers_are) = answers p rows sent (kept ∙ none)
            (begun_logs acted applies still valid (subst (Each IsStill) (sym answers_are) (tt, tt)) (subst NoVotes (sym sent) quiet))
            (among_right (Answers id (ReadAnswer (record { 0 = p }) rows)) ((([] ++ []) ++ applies) ++ acted.valid) acted.answers (subst (Among (Answers id (ReadAnswer (record { 0 = p }) rows))) (sym answers_are) (inl refl)))
        by (waits asked' kept sent valid answers_are stayed) = stays asked' sent (kept ∙ ap (λ os. os ++ one s id request (clock_of node.met) (request.group ∷ []) None request.group noted asked' stage ∷ []) none)
            (begun_logs acted applies still valid (subst (Each IsStill) (sym answers_are) tt) (subst NoVotes (sym sent) quiet)) stayed
        by (asks asked' through at search is_stage above kept sent valid answers_are) = fetches asked' through at search is_stage above sent
            (kept ∙ ap (λ os. os ++ one s id request (clock_of node.met) (request.group ∷ []) None request.group noted asked' (fetching s id request (clock_of node.met) (request.group ∷ []) None request.group noted base through at) ∷ []) none)
            (begun_logs acted applies still valid (subst (Each IsStill) (sym answers_are) tt)
            (subst NoVotes (sym sent) (each_both (λ (x : Message). IsNoVote x.body) sends (fetch_all s id request (clock_of node.met) (request.group ∷ []) None request.group noted shows (prefix_of base request.group + 1)) quiet
            (fetch_quiet s id request (clock_of node.met) (request.group ∷ []) None request.group noted shows (prefix_of base request.group + 1) (others s.me (voters s.cluster))))))

-- ---- a calm cluster

le_true : (a b : ℕ) → a ≤ b → nat_le a b ≡ true
le_true a b le = grind (arith, nat_tests)

none_most : (n : ℕ) → is_majority n 0 ≡ false
none_most n = grind (arith, nat_tests)

through_is : (a b : ℕ) (search : Option Search) → Catching a None ≡ Catching b search → a ≡ b
through_is a b search h = cc

pub none_waits_yet : (tape : List Item) → ((n : ℕ) → is_sent tape n ≡ true → (is_taken tape n || is_dropped tape n) ≡ true) → (k : ℕ) (m : Message) → Waits tape k m → ⊥
none_waits_yet tape quiet k m w =
    let there = quiet k (ap (λ t. t && nat_le k (sent_count tape)) (le_true 1 k w.above) ∙ le_true k (sent_count tape) w.within) in
    let never = sym there ∙ (ap (λ t. t || is_dropped tape k) w.untaken ∙ w.undropped) in cc

quiet_map : (f : ℕ → Message) (vs : List ℕ) → ((v : ℕ) → IsNoVote (f v).body) → NoVotes (map f vs)
quiet_map f [] h = tt
quiet_map f (v ∷ vs) h = (h v, quiet_map f vs h)

module _ (c : Cluster) (h : Meanings) (cuts : Cuts) (now : Standing) (me : ℕ) (request : ReadRequest) (text : List ℕ) (calm : IsCalm c now request.group) (numbered : IsNumbered now.tape) (stocked : IsStocked c now request.group)
    (full : is_full c me ≡ true) (current : is_current request.mode ≡ true) (shows : ShowsRows (setting c h me) request) where
  abbrev s : Setting
  s = setting c h me

  abbrev node : Node
  node = now.node me

  abbrev met : List Met
  met = (now.node me).met

  abbrev g : GroupId
  g = request.group

  abbrev start : ℕ
  start = start_of (now.node me).met

  abbrev nth : ℕ
  nth = next_number (now.node me).met

  abbrev the_id : OpId
  the_id = op_of (setting c h me) (now.node me).met

  member : is_voter c me ≡ true
  member = full_votes c me full

  is_there : is_node c me ≡ true
  is_there = (and_parts (is_node c me) (runs (kind_of c me)) full).0

  worn : is_worn (now.node me).met ≡ false
  worn = calm.not_worn me is_there

  none_open : (now.node me).open_operations ≡ []
  none_open = calm.none_open me is_there

  -- it stands alone as it has begun
  module _ (noted : Option Epoch) where
    abbrev Is : Standing → Type 0
    Is standing = AloneAt c me start nth g member request (clock_of met) (g ∷ []) None noted h shows standing

    around : Around c me start nth g request (clock_of met) (g ∷ []) None noted h now
    around = record {
      up = λ v there. calm.all_up v there;
      unfused = λ v there. record { no_log = calm.no_log_fuse v there; no_data = calm.no_data_fuse v there };
      numbered = numbered;
      idle = λ v there apart. calm.none_open v there;
      stock = λ v voter n low high. held v n voter low high;
      mail = λ k m w. absurd (none_waits_yet now.tape calm.quiet k m w);
    }
      where
        held : (v n : ℕ) → is_voter c v ≡ true → 1 ≤ n → n ≤ top_of (now.node v).met g → Held c me start nth g now.node n
        held v n voter low high = let known = stocked.each v n voter low high in record { voter = known.voter; member = known.member; entry = known.entry; is = known.is }

    abbrev its_base : List Met
    its_base = Begins the_id text ∷ met

    abbrev its_step : Step
    its_step = begin_step s node (ReadRequested request) text

    its_grew : DecidesMore met its_base g 0
    its_grew = same_decides met its_base g 0 (still_one (Begins the_id text) met tt)

    its_mail : Mailed now.tape (whole_step c now me (BeginItem the_id text ∷ []) its_step).tape none_gone its_step.sends
    its_mail = mailed_step c (set_at now.node me its_step.node) me now.tape (BeginItem the_id text) none_gone its_step.notes its_step.sends refl refl (mailed_plain (BeginItem the_id text) now.tape tt numbered)

    begins_alone : (stage : Stage) (sends : List Message) → Becomes s the_id request (clock_of met) (g ∷ []) None g noted shows its_base stage its_step sends
        → Each (Fits c me start nth g (set_at now.node me its_step.node)) sends
        → Ready c me start nth g (set_at now.node me its_step.node) (whole_step c now me (BeginItem the_id text ∷ []) its_step).tape stage
        → Is (whole_step c now me (BeginItem the_id text ∷ []) its_step)
    begins_alone stage sends became fits ready =
        me_becomes c me start nth g member request (clock_of met) (g ∷ []) None noted h shows now (BeginItem the_id text) none_gone around its_step its_base 0 its_grew
        (none_stocked c me start nth g member request (clock_of met) (g ∷ []) None noted h shows now.node)
        (becomes_logs c me start nth g member request (clock_of met) (g ∷ []) None noted h shows its_base stage its_step sends became) its_mail stage sends fits ready became

    -- and it was answered when its messages are delivered
    ends_answered : (most : ℕ) (first : Standing) → Is first → is_cut (drained c h cuts first most).tape ≡ false → IsRead the_id (drained c h cuts first most).tape
    ends_answered most first alone not_cut = by (awaits c me start nth g member request (clock_of met) (g ∷ []) None noted h shows last ends.holds)
      where
        last : Standing
        last = drained c h cuts first most

        ends : Ends Is (drained c h cuts first most)
        ends = drain_ends c h cuts Is
            (λ standing q j one_more. (q.around).unfused (one_more.message).to (receives c me start nth g member request (clock_of met) (g ∷ []) None noted h shows standing q j one_more.message one_more.waits))
            (λ standing q j one_more. takes_alone c me start nth g member request (clock_of met) (g ∷ []) None noted h shows standing q j one_more.message one_more.waits)
            most first alone not_cut

        by : Awaits c me start nth g member request (clock_of met) (g ∷ []) None noted h shows last → IsRead the_id last.tape
        by (is_answered p rows stands) = record { position = record { 0 = p }; rows = rows; stands = stands }
        by (is_awaiting m waiting) = absurd (none_waits last ends.none waiting.number m waiting.waits
            (((ends.holds).around).up m.to (receives c me start nth g member request (clock_of met) (g ∷ []) None noted h shows last ends.holds waiting.number m waiting.waits)))

    -- whatever of its messages are delivered, it was answered or it awaits one
    delivers_on : (numbers : List ℕ) (first : Standing) → Is first → AllWaited c h cuts first numbers → Is (all_delivered c h cuts first numbers)
    delivers_on [] first alone waited = alone
    delivers_on (j ∷ numbers) first alone waited = delivers_on numbers (delivered c h cuts first j) (delivers c h cuts Is
        (λ standing q k one_more. (q.around).unfused (one_more.message).to (receives c me start nth g member request (clock_of met) (g ∷ []) None noted h shows standing q k one_more.message one_more.waits))
        (λ standing q k one_more. takes_alone c me start nth g member request (clock_of met) (g ∷ []) None noted h shows standing q k one_more.message one_more.waits)
        first j alone next) waited.1
      where
        m : Message
        m = (waited.0).0

        w : Waits first.tape j m
        w = (waited.0).1

        next : IsNext first j
        next = record { message = m; waits = w; up = (alone.around).up m.to (receives c me start nth g member request (clock_of met) (g ∷ []) None noted h shows first alone j m w) }

    awaits_so : (first : Standing) → Is first → IsReadOrAwaits the_id first.tape
    awaits_so first alone = by (awaits c me start nth g member request (clock_of met) (g ∷ []) None noted h shows first alone)
      where
        by : Awaits c me start nth g member request (clock_of met) (g ∷ []) None noted h shows first → IsReadOrAwaits the_id first.tape
        by (is_answered p rows stands) = inl (record { position = record { 0 = p }; rows = rows; stands = stands })
        by (is_awaiting m waiting) = inr (m, waiting)

  begun_is : begun c h cuts now me (ReadRequested request) text ≡ whole_step c now me (BeginItem the_id text ∷ []) (begin_step s node (ReadRequested request) text)
  begun_is = at_node_whole c h now me (shown me (Begins the_id text)) (Begin (ReadRequested request) text) (cuts now me) (record { no_log = calm.no_log_fuse me is_there; no_data = calm.no_data_fuse me is_there })

  -- it stands alone, with the epoch that it noted
  record Begun (first : Standing) : Type 0 where
    noted : Option Epoch
    alone : Is noted first

  begun_alone : Begun (begun c h cuts now me (ReadRequested request) text)
  begun_alone = subst Begun (sym begun_is) (by (valid_at c (Begins the_id text ∷ met) g) refl)
    where
      first : Standing
      first = whole_step c now me (BeginItem the_id text ∷ []) (begin_step s node (ReadRequested request) text)

      top : ℕ
      top = top_of met g

      by : (t : Bool) → valid_at c (Begins the_id text ∷ met) g ≡ t → Begun first
      by true is = record { noted = None; alone = begins_alone None stage [] became tt (stocked_on c me start nth g now.node (set_at now.node me (begin_step s node (ReadRequested request) text).node) logs top stock) }
        where
          stage : Stage
          stage = Catching top None

          stock : Stocked c me start nth g now.node top
          stock = ((around None).stock) me member

          became : Becomes s the_id request (clock_of met) (g ∷ []) None g None shows (its_base None) stage (its_step None) []
          became = begin_becomes s node request text full worn none_open current shows None [] stage [] tt (acts_so s node request text full worn none_open current shows true is)
              (helped_by c me start nth g member request (clock_of met) (g ∷ []) None None h shows now.node (its_base None) ((its_grew None).more) stage stock)

          logs : LogsOn c me start nth g now.node (set_at now.node me (begin_step s node (ReadRequested request) text).node)
          logs = me_logs c me start nth g member request (clock_of met) (g ∷ []) None None h shows now (its_step None) (its_base None) 0 (its_grew None)
              (none_stocked c me start nth g member request (clock_of met) (g ∷ []) None None h shows now.node)
              (becomes_logs c me start nth g member request (clock_of met) (g ∷ []) None None h shows (its_base None) stage (its_step None) [] became)
      by false is = record {
        noted = noted;
        alone = begins_alone noted stage sends became
            (each_map (Fits c me start nth g (set_at now.node me (its_step noted).node)) (where_to c me start nth g) (voters c) (λ v i. asks_where v (voter_of c v i) refl))
            (record {
              awaited = λ v voter. inr (inl ((its_mail noted).sends (where_to c me start nth g v)
                  (becomes_sends c me start nth g member request (clock_of met) (g ∷ []) None noted h shows (its_base noted) stage (its_step noted) sends became (where_to c me start nth g v)
                  (among_map (where_to c me start nth g) v (voters c) (among_voters c v voter)))));
              minority = none_most (length (voters c));
              stock = none_stocked c me start nth g member request (clock_of met) (g ∷ []) None noted h shows (set_at now.node me (its_step noted).node);
            });
      }
        where
          noted : Option Epoch
          noted = serves_at c (Begins the_id text ∷ met)

          stage : Stage
          stage = Polling [] 0 (clock_of met)

          sends : List Message
          sends = map (where_to c me start nth g) (voters c)

          became : Becomes s the_id request (clock_of met) (g ∷ []) None g noted shows (its_base noted) stage (its_step noted) sends
          became = begin_becomes s node request text full worn none_open current shows noted [] stage sends (quiet_map (where_to c me start nth g) (voters c) (λ v. tt)) (acts_so s node request text full worn none_open current shows false is) tt

  pub read_answered : (most : ℕ) → is_cut (drained c h cuts (begun c h cuts now me (ReadRequested request) text) most).tape ≡ false
      → IsRead the_id (drained c h cuts (begun c h cuts now me (ReadRequested request) text) most).tape
  read_answered most not_cut = let b = begun_alone in ends_answered b.noted most (begun c h cuts now me (ReadRequested request) text) b.alone not_cut

  pub read_awaits : (numbers : List ℕ) → AllWaited c h cuts (begun c h cuts now me (ReadRequested request) text) numbers
      → IsReadOrAwaits the_id (all_delivered c h cuts (begun c h cuts now me (ReadRequested request) text) numbers).tape
  read_awaits numbers waited =
      let b = begun_alone in
      awaits_so b.noted (all_delivered c h cuts (begun c h cuts now me (ReadRequested request) text) numbers) (delivers_on b.noted numbers (begun c h cuts now me (ReadRequested request) text) b.alone waited)

  -- where the group is valid at its node, which decided all that it accepted, it is answered as it begins
  pub read_at_once : valid_at c met g ≡ true → ((n : ℕ) → 1 ≤ n → n ≤ top_of met g → IsSome (decided met g n)) → IsRead the_id (begun c h cuts now me (ReadRequested request) text).tape
  read_at_once valid knows = subst (λ (first : Standing). IsRead the_id first.tape) (sym begun_is) (by became)
    where
      stage : Stage
      stage = Catching (top_of met g) None

      reaches : (t : Bool) → nat_le (top_of met g) (prefix_of (its_base None) g) ≡ t → nat_le (top_of met g) (prefix_of (its_base None) g) ≡ true
      reaches true e = e
      reaches false e = absurd (let there = knows (prefix_of (its_base None) g + 1) (omega arith) (less_position (top_of met g) (prefix_of (its_base None) g) e) in let none = behind_prefix (its_base None) g in let never = sym there ∙ ap is_some none in cc)

      within : nat_le (top_of met g) (prefix_of (its_base None) g) ≡ true
      within = reaches (nat_le (top_of met g) (prefix_of (its_base None) g)) refl

      became : Becomes s the_id request (clock_of met) (g ∷ []) None g None shows (its_base None) stage (its_step None) []
      became = begin_becomes s node request text full worn none_open current shows None [] stage [] tt (acts_so s node request text full worn none_open current shows true valid)
          (λ above. absurd (let never = sym within ∙ above in cc))

      by : Becomes s the_id request (clock_of met) (g ∷ []) None g None shows (its_base None) stage (its_step None) [] → IsRead the_id (whole_step c now me (BeginItem the_id text ∷ []) (its_step None)).tape
      by (answers p rows sends none same noted_so) = record {
        position = record { 0 = p };
        rows = rows;
        stands = answer_stands c (set_at now.node me (its_step None).node) me now.tape (BeginItem the_id text) (its_step None).notes (numbered_from (sent_count now.tape + 1) (its_step None).sends) the_id (ReadAnswer (record { 0 = p }) rows) noted_so;
      }
      by (stays asked sends opens same stayed) = absurd (let never = sym within ∙ stayed.0 in cc)
      by (fetches asked through at search is above sends opens same) = absurd (let never = sym within ∙ (ap (λ t. nat_le t (prefix_of (its_base None) g)) (through_is (top_of met g) through search is) ∙ above) in cc)

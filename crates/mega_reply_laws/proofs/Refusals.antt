-- The reply of a request that is refused stands directly behind it on the record.
use Rattle.std.proofs.Common.{◌≡◌, ℕ, ◌+◌, ◌==◌, ◌&&◌, Bool, true, false, cond, List, [], ◌∷◌, ◌++◌, codes, decimal, map, find, flat_map, fold, Option, Some, None, Result, Ok, Err, refl, sym, ap, ◌∙◌, subst}
use Rattle.std.specs.List.{All}
use Rattle.std.proofs.lemmas.List.Elements.{All-cons, All-nil, All-weaker}
use Rattle.mega_base.specs.Reading.{whole_of}
use Rattle.mega_cluster.specs.declared.cluster.Cluster.{Cluster}
use Rattle.mega_entry.specs.Same.{same_op}
use Rattle.mega_handler.specs.Named.{Meanings}
use Rattle.mega_wal.specs.History.{starts_of}
use Rattle.mega_wal.specs.declared.item.JournalItem.{JournalItem}
use Rattle.mega_wire.specs.Messages.{message_at}
use Rattle.mega_wire.specs.declared.message.Body.{Body}
use Rattle.mega_wire.specs.declared.message.Body.TheVariants.{Request as Requests}
use Rattle.mega_wire.specs.declared.message.Message.{Message}
use Rattle.mega_promises.specs.of_transcript.declared.item.Item.{Item}
use Rattle.mega_promises.specs.of_rules.Met.{Met, Answers, Begins, Ticks}
use Rattle.mega_promises.specs.of_rules.Steps.{Begin, Step, Take, Tick, op_of, start_items, step}
use Rattle.mega_promises.specs.Items.{shown}
use Rattle.mega_promises.specs.NodeRuns.{met_of}
use Rattle.mega_promises.specs.Runs.{names_nothing, setting}
use Rattle.mega_promises.specs.Served.{Asks, Got, Line, Noted, OfClient, OfNode, Peer, Put, Refuses, Served, Turn, Waiting, Wish, answer_line, answered_line, given as receives, noted, put_out, received, recorded, reply_line, served, served_start, ticked, turned, wished, with_lines}
use Rattle.mega_reply_laws.specs.Requests.{AreToldAtOnce, Asked, RequestState, Ended, Heard, Opened, Refused, TellsBy, TellsNext, asked_by, asked_in, wished_for}

module _ (c : Cluster) (me : ℕ) (wish : List ℕ → Wish) where
  abbrev At : List Line → Type 0
  At lines = AreToldAtOnce me wish lines

  further : (client token : ℕ) (came : RequestState) (xs ys : List Line) → TellsBy me client token came xs → TellsBy me client token came (xs ++ ys)
  further client token Heard xs ys h = tt
  further client token (Refused words) [] ys h = absurd h
  further client token (Refused words) (x ∷ xs) ys h = h
  further client token (Opened op) xs ys h = tt
  further client token (Ended op answer) xs ys h = tt

  told_both : (xs ys : List Line) → At xs → At ys → At (xs ++ ys)
  told_both [] ys h k = k
  told_both (Noted item ∷ xs) ys h k = told_both xs ys h k
  told_both (Put to bytes ∷ xs) ys h k = told_both xs ys h k
  told_both (Got from bytes ∷ xs) ys h k =
      (All-weaker (TellsNext me xs) (TellsNext me (xs ++ ys)) (λ one t. further one.client one.token one.came xs ys t) (asked_by me wish from (whole_of message_at bytes)) h.0, told_both xs ys h.1 k)

  -- lines that bring nothing
  noted_told : (items : List Item) → At (map Noted items)
  noted_told [] = tt
  noted_told (item ∷ items) = noted_told items

  put_told : (ms : List Message) → At (put_out ms)
  put_told [] = tt
  put_told (m ∷ ms) = put_told ms

  one_told : (those : List Waiting) (one : Met) → At (answer_line c.schema me those one)
  one_told those (Answers op answer) = by (find (λ (one : Waiting). same_op one.op op) those)
    where
      by : (found : Option Waiting) → AreToldAtOnce me wish (answered_line c.schema me answer found)
      by None = tt
      by (Some one) = tt
  one_told those _ = tt

  answers_told : (those : List Waiting) (notes : List Met) → At (flat_map (answer_line c.schema me those) notes)
  answers_told those [] = tt
  answers_told those (one ∷ notes) = told_both (answer_line c.schema me those one) (flat_map (answer_line c.schema me those) notes) (one_told those one) (answers_told those notes)

  recorded_told : (now : Served) (own : List Line) (waiting : List Waiting) (made : Step) → At now.lines → At own → At (recorded c me now own waiting made).lines
  recorded_told now own waiting made h k =
      told_both now.lines (((own ++ noted me made.notes) ++ put_out made.sends) ++ flat_map (answer_line c.schema me waiting) made.notes) h
      (told_both ((own ++ noted me made.notes) ++ put_out made.sends) (flat_map (answer_line c.schema me waiting) made.notes)
      (told_both (own ++ noted me made.notes) (put_out made.sends) (told_both own (noted me made.notes) k (noted_told (flat_map (shown me) made.notes))) (put_told made.sends))
      (answers_told waiting made.notes))

  lines_told : (now : Served) (more : List Line) → At now.lines → At more → At (with_lines now more).lines
  lines_told now more h k = told_both now.lines more h k

  -- a datagram, by the request that it brings
  module _ (from : Peer) (bytes : List ℕ) where
    abbrev brought : List Asked
    brought = asked_by me wish from (whole_of message_at bytes)

    none_told : brought ≡ [] → At (Got from bytes ∷ [])
    none_told e = (subst (All (TellsNext me [])) (sym e) (All-nil (TellsNext me [])), tt)

    heard_told : (client token : ℕ) → brought ≡ (record { client = client; token = token; came = Heard }) ∷ [] → At (Got from bytes ∷ [])
    heard_told client token e =
        (subst (All (TellsNext me [])) (sym e) (All-cons (TellsNext me []) (record { client = client; token = token; came = Heard }) [] tt (All-nil (TellsNext me []))), tt)

    refused_told : (client token : ℕ) (words : List (List ℕ)) → brought ≡ (record { client = client; token = token; came = Refused words }) ∷ [] → At (Got from bytes ∷ reply_line me client token words ∷ [])
    refused_told client token words e =
        let behind = reply_line me client token words ∷ [] in
        (subst (All (TellsNext me behind)) (sym e) (All-cons (TellsNext me behind) (record { client = client; token = token; came = Refused words }) [] refl (All-nil (TellsNext me behind))), tt)

  module _ (handlers : Meanings) (now : Served) (h : At now.lines) (bytes : List ℕ) where
    either : (t : Bool) (one other : Served) → (t ≡ true → At one.lines) → (t ≡ false → At other.lines) → At (cond t one other).lines
    either true one other f g = f refl
    either false one other f g = g refl

    abbrev got : Peer → List Line
    got from = Got from bytes ∷ []

    abbrev told_no : List (List ℕ)
    told_no = codes "refused" ∷ codes "world" ∷ decimal 7 ∷ []

    wish_told : (from : Peer) (client token : ℕ) (asked : Wish) → brought from bytes ≡ (record { client = client; token = token; came = wished_for asked }) ∷ [] → At (wished c me handlers now (got from) client token asked).lines
    wish_told from client token (Refuses reason) e = lines_told now (Got from bytes ∷ reply_line me client token (codes "refused" ∷ codes "schedule" ∷ decimal reason ∷ []) ∷ []) h (refused_told from bytes client token (codes "refused" ∷ codes "schedule" ∷ decimal reason ∷ []) e)
    wish_told from client token (Asks request text) e = either (names_nothing request) _ _
        (λ no. lines_told now (Got from bytes ∷ reply_line me client token told_no ∷ []) h
        (refused_told from bytes client token told_no (e ∙ ap (λ t. (record { client = client; token = token; came = cond t (Refused told_no) Heard }) ∷ []) no)))
        (λ yes. recorded_told now (got from ++ noted me (Begins (op_of (setting c handlers me) now.node.met) text ∷ [])) _ (step (setting c handlers me) now.node (Begin request text)) h
        (told_both (got from) (noted me (Begins (op_of (setting c handlers me) now.node.met) text ∷ []))
        (heard_told from bytes client token (e ∙ ap (λ t. (record { client = client; token = token; came = cond t (Refused told_no) Heard }) ∷ []) yes)) tt))

    abbrev by_body : List Line → ℕ → Body → Served
    by_body lines client (Requests token json) = wished c me handlers now lines client token (wish json)
    by_body lines client _ = with_lines now lines

    body_told : (from : Peer) (client : ℕ) (body : Body) → brought from bytes ≡ asked_in wish client body → At (by_body (got from) client body).lines
    body_told from client (Requests token json) e = wish_told from client token (wish json) e
    body_told from client _ e = lines_told now (got from) h (none_told from bytes e)

    given_told : (from : Peer) (read : Result Message ℕ) → brought from bytes ≡ asked_by me wish from read → At (receives c me wish handlers now (got from) from read).lines
    given_told (OfNode node) (Err at) e = lines_told now (got (OfNode node)) h (none_told (OfNode node) bytes e)
    given_told (OfNode node) (Ok m) e = either (node == m.from && m.to == me) _ _
        (λ yes. recorded_told now (got (OfNode node)) now.waiting (step (setting c handlers me) now.node (Take m)) h (none_told (OfNode node) bytes e))
        (λ no. lines_told now (got (OfNode node)) h (none_told (OfNode node) bytes e))
    given_told (OfClient client) (Err at) e = lines_told now (got (OfClient client)) h (none_told (OfClient client) bytes e)
    given_told (OfClient client) (Ok m) e = either (m.from == 0 && m.to == me) _ _
        (λ yes. body_told (OfClient client) client m.body (e ∙ ap (λ t. cond t (asked_in wish client m.body) []) yes))
        (λ no. lines_told now (got (OfClient client)) h (none_told (OfClient client) bytes (e ∙ ap (λ t. cond t (asked_in wish client m.body) []) no)))

  received_told : (handlers : Meanings) (now : Served) (datagram : Option (Peer × List ℕ)) → At now.lines → At (received c me wish handlers now datagram).lines
  received_told handlers now None h = h
  received_told handlers now (Some one) h = given_told handlers now h one.1 one.0 (whole_of message_at one.1) refl

  ticked_told : (handlers : Meanings) (clock : ℕ) (now : Served) → At now.lines → At (ticked c me handlers clock now).lines
  ticked_told handlers clock now h = recorded_told now (noted me (Ticks clock ∷ [])) now.waiting (step (setting c handlers me) now.node (Tick clock)) h tt

  turns_told : (turns : List Turn) (now : Served) → At now.lines → At (fold (turned c me wish) now turns).lines
  turns_told [] now h = h
  turns_told (turn ∷ turns) now h = turns_told turns (turned c me wish now turn)
      (received_told turn.handlers (ticked c me turn.handlers turn.clock now) turn.datagram (ticked_told turn.handlers turn.clock now h))

  pub refused_at_once : (first : Meanings) (before : List JournalItem) (turns : List Turn) → AreToldAtOnce me wish (served c me wish first before turns).lines
  refused_at_once first before turns = turns_told turns (served_start c me first before) (noted_told (flat_map (shown me) (start_items (setting c first me) (starts_of before + 1) [] (met_of me before))))

-- A served node that goes on from all that it met, beside one that was started from its journal.
use Rattle.std.proofs.Common.{◌≡◌, ◌⊎◌, inl, inr, ℕ, ◌+◌, ◌==◌, ◌&&◌, Bool, true, false, cond, List, [], ◌∷◌, ◌++◌, filter, filter_map, flat_map, fold, reverse, Option, Some, None, Result, Ok, Err, refl, sym, ap, subst, ◌∙◌}
use Rattle.std.specs.List.{cons_option, list_any}
use Rattle.std.proofs.lemmas.List.{append_assoc, append-nil}
use Rattle.mega_base.specs.Reading.{whole_of}
use Rattle.mega_cluster.specs.declared.cluster.Cluster.{Cluster}
use Rattle.mega_handler.specs.Named.{Meanings}
use Rattle.mega_wire.specs.Messages.{message_at}
use Rattle.mega_wire.specs.declared.message.Message.{Message}
use Rattle.mega_wire.specs.declared.message.Body.{Body}
use Rattle.mega_wire.specs.declared.message.Body.TheVariants.{Request as Requests}
use Rattle.mega_wal.specs.Same.{same_op}
use Rattle.mega_wal.specs.History.{starts_of}
use Rattle.mega_wal.specs.Compaction.{compacted}
use Rattle.mega_wal.specs.declared.item.JournalItem.{JournalItem}
use Rattle.mega_wal.specs.declared.item.JournalItem.TheVariants.{Start as Started}
use Rattle.mega_rules.specs.Met.{Begins, Ticks}
use Rattle.mega_rules.specs.Operations.{Operation, Setting}
use Rattle.mega_rules.specs.Steps.{Begin, Event, Step, Take, Tick, op_of, start, start_items, step}
use Rattle.mega_promises.specs.NodeRuns.{met_of}
use Rattle.mega_promises.specs.Records.{AreNodeCalls, NodeCall}
use Rattle.mega_promises.specs.Runs.{names_nothing, setting}
use Rattle.mega_promises.specs.Served.{Asks, Got, IsCompacted, IsNodeRun, Line, OfClient, OfNode, Peer, Refuses, Served, Turn, Waiting, Wish, answer_line, given, is_from, kept_of, kept_of_body, kept_of_note, noted, put_in, put_out, received, recorded, served, served_start, takes_message, ticked, turned, wished, with_lines}
use Rattle.mega_served_laws.specs.Alike.{KeptAlike, SaySame}
use Rattle.mega_served_laws.specs.Calls.{all_called, called, found, left_by, lines_of, sends_of, starts_again}
use Rattle.mega_served_laws.proofs.Alike.{kept_self, kept_then}
use Rattle.mega_served_laws.proofs.Journals.{say_append, say_kept, say_kept_same, say_more, say_self, say_then}
use Rattle.mega_served_laws.proofs.Keeping.{step_kept}
use Rattle.mega_served_laws.proofs.Starting.{items_alike, start_alike, start_kept}
use Rattle.mega_served_laws.proofs.Steps.{NodeAlike, StepAlike, anywhere, event_anywhere, op_same, step_alike}

-- x goes on, and y was started in its last call; the second's journal tells what it met
pub record ServedAlike (c : Cluster) (me : ℕ) (base : List Line) (x y : Served) : Type 0 where
  pub lines : x.lines ≡ base ++ y.lines
  pub node : NodeAlike anywhere c me x.node y.node
  pub journal : SaySame x.journal y.journal
  pub waiting : x.waiting ≡ y.waiting
  pub kept : KeptAlike (y.node).met (met_of me y.journal)

module _ (c : Cluster) (me : ℕ) (base : List Line) where
  abbrev R : Served → Served → Type 0
  R x y = ServedAlike c me base x y

  either : (t : Bool) (a b x y : Served) → R a b → R x y → R (cond t a x) (cond t b y)
  either true a b x y h k = h
  either false a b x y h k = k

  lines_alike : (x y : Served) (more : List Line) → R x y → R (with_lines x more) (with_lines y more)
  lines_alike x y more h = record {
    lines = ap (λ lines. lines ++ more) h.lines ∙ append_assoc base y.lines more;
    node = h.node;
    journal = h.journal;
    waiting = h.waiting;
    kept = h.kept;
  }

  recorded_alike : (handlers : Meanings) (x y : Served) (own own' : List Line) (waiting waiting' : List Waiting) (event : Event) → own ≡ own' → waiting ≡ waiting' → R x y
      → R (recorded c me x own waiting (step (setting c handlers me) x.node event)) (recorded c me y own' waiting' (step (setting c handlers me) y.node event))
  recorded_alike handlers x y own own' waiting waiting' event o w h = record {
    lines = (λ i. h.lines i ++ (((o i ++ noted me (alike.notes i)) ++ put_out (alike.sends i)) ++ flat_map (answer_line c.schema me (w i)) (alike.notes i)))
        ∙ append_assoc base y.lines (((own' ++ noted me made'.notes) ++ put_out made'.sends) ++ flat_map (answer_line c.schema me waiting') made'.notes);
    node = alike.node;
    journal = subst (λ items. SaySame (reverse (kept_of made) ++ x.journal) (reverse items ++ y.journal)) kept_is (say_append (reverse (kept_of made)) x.journal y.journal h.journal);
    waiting = λ i. filter (λ (one : Waiting). list_any (λ (o : Operation). same_op o.id one.op) ((alike.node).open_operations i)) (w i);
    kept = step_kept s y.node event y.journal h.kept;
  }
    where
      s : Setting
      s = setting c handlers me

      made : Step
      made = step s x.node event

      made' : Step
      made' = step s y.node event

      alike : StepAlike anywhere c me made made'
      alike = step_alike anywhere s x.node y.node h.node event (event_anywhere event)

      kept_is : kept_of made ≡ kept_of made'
      kept_is = λ i. filter_map kept_of_note (alike.notes i) ++ filter_map (λ (m : Message). kept_of_body m.body) (alike.sends i)

  ticked_alike : (handlers : Meanings) (clock : ℕ) (x y : Served) → R x y → R (ticked c me handlers clock x) (ticked c me handlers clock y)
  ticked_alike handlers clock x y h = recorded_alike handlers x y (noted me (Ticks clock ∷ [])) (noted me (Ticks clock ∷ [])) x.waiting y.waiting (Tick clock) refl h.waiting h

  wished_alike : (handlers : Meanings) (x y : Served) (got : List Line) (client token : ℕ) (wish : Wish) → R x y → R (wished c me handlers x got client token wish) (wished c me handlers y got client token wish)
  wished_alike handlers x y got client token (Refuses reason) h = lines_alike x y _ h
  wished_alike handlers x y got client token (Asks request text) h = either (names_nothing request) _ _ _ _ (lines_alike x y _ h)
      (recorded_alike handlers x y _ _ _ _ (Begin request text) (λ i. got ++ noted me (Begins (op i) text ∷ [])) (λ i. h.waiting i ++ (record { op = op i; client = client; token = token }) ∷ []) h)
    where
      op : op_of (setting c handlers me) (x.node).met ≡ op_of (setting c handlers me) (y.node).met
      op = op_same anywhere (setting c handlers me) (x.node).met (y.node).met (h.node).met

  -- what a client's message comes to
  abbrev by_body : (List ℕ → Wish) → Meanings → Served → List Line → ℕ → Body → Served
  by_body wish handlers now got client (Requests token json) = wished c me handlers now got client token (wish json)
  by_body wish handlers now got client _ = with_lines now got

  body_alike : (wish : List ℕ → Wish) (handlers : Meanings) (x y : Served) (got : List Line) (client : ℕ) (body : Body) → R x y → R (by_body wish handlers x got client body) (by_body wish handlers y got client body)
  body_alike wish handlers x y got client (Requests token json) h = wished_alike handlers x y got client token (wish json) h
  body_alike wish handlers x y got client _ h = lines_alike x y got h

  message_alike : (wish : List ℕ → Wish) (handlers : Meanings) (x y : Served) (got : List Line) (from : Peer) (m : Message) → R x y
      → R (takes_message c me wish handlers x got from m) (takes_message c me wish handlers y got from m)
  message_alike wish handlers x y got (OfNode node) m h = recorded_alike handlers x y got got x.waiting y.waiting (Take m) refl h.waiting h
  message_alike wish handlers x y got (OfClient client) m h = body_alike wish handlers x y got client m.body h

  given_alike : (wish : List ℕ → Wish) (handlers : Meanings) (x y : Served) (got : List Line) (from : Peer) (read : Result Message ℕ) → R x y
      → R (given c me wish handlers x got from read) (given c me wish handlers y got from read)
  given_alike wish handlers x y got from (Err at) h = lines_alike x y got h
  given_alike wish handlers x y got from (Ok m) h = either (is_from from m.from && m.to == me) _ _ _ _ (message_alike wish handlers x y got from m h) (lines_alike x y got h)

  received_alike : (wish : List ℕ → Wish) (handlers : Meanings) (x y : Served) (datagram : Option (Peer × List ℕ)) → R x y
      → R (received c me wish handlers x datagram) (received c me wish handlers y datagram)
  received_alike wish handlers x y None h = h
  received_alike wish handlers x y (Some one) h = given_alike wish handlers x y (Got one.0 one.1 ∷ []) one.0 (whole_of message_at one.1) h

  turns_alike : (wish : List ℕ → Wish) (turns : List Turn) (x y : Served) → R x y → R (fold (turned c me wish) x turns) (fold (turned c me wish) y turns)
  turns_alike wish [] x y h = h
  turns_alike wish (turn ∷ turns) x y h = turns_alike wish turns (turned c me wish x turn) (turned c me wish y turn)
      (received_alike wish turn.handlers (ticked c me turn.handlers turn.clock x) (ticked c me turn.handlers turn.clock y) turn.datagram (ticked_alike turn.handlers turn.clock x y h))

-- ---- a call

-- what the journal of the calls before tells, and what it says
pub record AgreesWithJournal (me : ℕ) (x : Served) (before : List JournalItem) : Type 0 where
  pub journal : SaySame x.journal before
  pub kept : KeptAlike (x.node).met (met_of me before)

started : (c : Cluster) (me : ℕ) (first : Meanings) (x : Served) (before : List JournalItem) → AgreesWithJournal me x before → ServedAlike c me x.lines (starts_again c me first x) (served_start c me first before)
started c me first x before h = record {
  lines = λ i. x.lines ++ noted me (items i);
  node = subst (λ n. NodeAlike anywhere c me (start s n [] (x.node).met) (start s (starts_of before + 1) [] (met_of me before))) (sym number) (start_alike s anywhere (starts_of before + 1) (x.node).met (met_of me before) h.kept);
  journal = say_more Started x.journal before h.journal;
  waiting = refl;
  kept = start_kept s (starts_of before + 1) (met_of me before);
}
  where
    s : Setting
    s = setting c first me

    number : starts_of x.journal + 1 ≡ starts_of before + 1
    number = ap (λ n. n + 1) (h.journal).starts

    items : start_items s (starts_of x.journal + 1) [] (x.node).met ≡ start_items s (starts_of before + 1) [] (met_of me before)
    items = ap (λ n. start_items s n [] (x.node).met) number ∙ items_alike s (starts_of before + 1) (x.node).met (met_of me before) h.kept

pub compacted_says : (journal after : List JournalItem) → IsCompacted journal after → SaySame journal after
compacted_says journal after k = coe 1 0 (i. SaySame (k.all_are i) (k.after_are i))
    (say_append k.since k.before (reverse (compacted k.kept)) (say_kept_same k.kept k.before (reverse (compacted k.kept)) k.says k.says_same))

left_says : (journal after : List JournalItem) → (after ≡ journal) ⊎ IsCompacted journal after → SaySame journal after
left_says journal after (inl is) = subst (λ js. SaySame journal js) (sym is) (say_self journal)
left_says journal after (inr k) = compacted_says journal after k

-- what one call leads to
pub record Called (me : ℕ) (x : Served) (call : NodeCall) : Type 0 where
  pub lines : (called me x call).lines ≡ x.lines ++ call.lines
  pub stands : AgreesWithJournal me (called me x call) call.after

call_goes : (me : ℕ) (x : Served) (before : List JournalItem) (call : NodeCall) → AgreesWithJournal me x before
    → IsNodeRun call.cluster me call.wish call.first before call.turns call.lines call.sends call.after → Called me x call
call_goes me x before call h run = record {
  lines = alike.lines ∙ ap (λ lines. x.lines ++ lines) (sym run.record_is);
  stands = record {
    journal = say_then (called me x call).journal y.journal call.after alike.journal says;
    kept = kept_then ((called me x call).node).met (y.node).met (met_of me call.after) ((alike.node).met).kept
        (kept_then (y.node).met (met_of me y.journal) (met_of me call.after) alike.kept (say_kept me y.journal call.after says));
  };
}
  where
    y : Served
    y = served call.cluster me call.wish call.first before call.turns

    alike : ServedAlike call.cluster me x.lines (called me x call) y
    alike = turns_alike call.cluster me x.lines call.wish call.turns (starts_again call.cluster me call.first x) (served_start call.cluster me call.first before) (started call.cluster me call.first x before h)

    says : SaySame y.journal call.after
    says = left_says y.journal call.after run.journal_is

-- ---- all calls

pub record AllCalled (me : ℕ) (x : Served) (before : List JournalItem) (calls : List NodeCall) : Type 0 where
  pub lines : (all_called me x calls).lines ≡ x.lines ++ lines_of calls
  pub stands : AgreesWithJournal me (all_called me x calls) (left_by before calls)

calls_go : (me : ℕ) (calls : List NodeCall) (x : Served) (before : List JournalItem) → AgreesWithJournal me x before → AreNodeCalls me before calls → AllCalled me x before calls
calls_go me [] x before h run = record { lines = sym (append-nil x.lines); stands = h }
calls_go me (call ∷ calls) x before h run =
    let one = call_goes me x before call h run.0 in
    let rest = calls_go me calls (called me x call) call.after one.stands run.1 in record {
      lines = rest.lines ∙ ap (λ lines. lines ++ lines_of calls) one.lines ∙ append_assoc x.lines call.lines (lines_of calls);
      stands = rest.stands;
    }

pub all_go : (me : ℕ) (before : List JournalItem) (calls : List NodeCall) → AreNodeCalls me before calls → AllCalled me (found me before) before calls
all_go me before calls run = calls_go me calls (found me before) before (record { journal = say_self before; kept = kept_self (met_of me before) }) run

pub calls_record : (me : ℕ) (before : List JournalItem) (calls : List NodeCall) → AreNodeCalls me before calls → (all_called me (found me before) calls).lines ≡ lines_of calls
calls_record me before calls run = (all_go me before calls run).lines

pub calls_journal : (me : ℕ) (before : List JournalItem) (calls : List NodeCall) → AreNodeCalls me before calls → SaySame (all_called me (found me before) calls).journal (left_by before calls)
calls_journal me before calls run = (all_go me before calls run).stands.journal

put_append : (xs ys : List Line) → filter_map put_in (xs ++ ys) ≡ filter_map put_in xs ++ filter_map put_in ys
put_append [] ys = refl
put_append (x ∷ xs) ys = by (put_in x) (put_append xs ys)
  where
    by : (o : Option (Peer × List ℕ)) → filter_map put_in (xs ++ ys) ≡ filter_map put_in xs ++ filter_map put_in ys → cons_option o (filter_map put_in (xs ++ ys)) ≡ cons_option o (filter_map put_in xs) ++ filter_map put_in ys
    by None rest = rest
    by (Some one) rest = ap (λ more. one ∷ more) rest

pub sends_go : (me : ℕ) (before : List JournalItem) (calls : List NodeCall) → AreNodeCalls me before calls → sends_of calls ≡ filter_map put_in (lines_of calls)
sends_go me before [] run = refl
sends_go me before (call ∷ calls) run = (λ i. (run.0).sends_are i ++ sends_go me call.after calls run.1 i) ∙ sym (put_append call.lines (lines_of calls))

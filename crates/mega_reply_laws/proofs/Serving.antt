-- A served node answers each request once: what holds of its record is kept by each turn.
use Rattle.std.proofs.Common.{◌≡◌, ◌⊎◌, inl, inr, ℕ, ◌+◌, ◌<◌, ◌≤◌, ◌==◌, ◌&&◌, ◌||◌, min, Bool, true, false, cond, List, [], ◌∷◌, ◌++◌, codes, decimal, map, filter, find, flat_map, fold, Option, Some, None, is_none, Result, Ok, Err, refl, sym, ap, ◌∙◌, subst, arith}
use Rattle.std.specs.List.{All, cons_option, list_any}
use Rattle.std.proofs.lemmas.List.{append-nil, map-append}
use Rattle.std.proofs.lemmas.List.Concat.{flat_map-append}
use Rattle.std.proofs.lemmas.List.Elements.{All-cons, All-head, All-map, All-nil, All-push, All-tail, All-weaker, filter-append, filter_agree, filter_map-append}
use Rattle.std.proofs.lemmas.List.Sums.{fold-append}
use Rattle.mega_base.specs.Reading.{whole_of}
use Rattle.mega_base.specs.declared.names.OpId.{OpId}
use Rattle.mega_cluster.specs.declared.cluster.Cluster.{Cluster}
use Rattle.mega_entry.specs.Same.{same_op}
use Rattle.mega_entry.proofs.Sames.{same_op_equal, same_op_self}
use Rattle.mega_handler.specs.Named.{Meanings}
use Rattle.mega_wal.specs.History.{starts_of}
use Rattle.mega_wal.specs.declared.item.JournalItem.{JournalItem}
use Rattle.mega_wire.specs.Messages.{message_at}
use Rattle.mega_wire.specs.declared.message.Body.{Body}
use Rattle.mega_wire.specs.declared.message.Body.TheVariants.{Request as Requests}
use Rattle.mega_wire.specs.declared.message.Message.{Message}
use Rattle.mega_outcome.specs.declared.answer.Answer.{Answer}
use Rattle.mega_outcome.specs.declared.request.Request.{Request}
use Rattle.mega_promises.specs.of_transcript.declared.item.Item.{Item}
use Rattle.mega_promises.specs.of_rules.Clock.{begun_of, last_number}
use Rattle.mega_promises.specs.of_rules.Met.{Met, Answers, Begins, Starts, Takes, Ticks}
use Rattle.mega_promises.specs.of_rules.Operations.{Node, Operation, Setting}
use Rattle.mega_promises.specs.of_rules.Steps.{Begin, Step, Take, Tick, op_of, start_items, start_notes, step}
use Rattle.mega_promises.specs.Items.{shown}
use Rattle.mega_promises.specs.NodeRuns.{met_of}
use Rattle.mega_promises.specs.Runs.{names_nothing, setting}
use Rattle.mega_promises.specs.Served.{Asks, Got, Line, Noted, OfClient, OfNode, Peer, Refuses, Served, Turn, Waiting, Wish, answer_line, answered_line, given as receives, is_open_at, noted, put_out, received, recorded, reply_line, served, served_start, ticked, turned, wished, with_lines}
use Rattle.mega_reply_laws.specs.Fates.{AreApart, Ends, Fate, Stays, among, answering, ids, op_in, staying}
use Rattle.mega_reply_laws.specs.Requests.{Agrees, AreReplied, Asked, RequestState, Ended, HasOpen, Heard, IsAsItStands, Opened, Refused, asked_by, asked_in, behind_line, begun_as, comes_to, is_reply, op_awaited, replies, reply_to, requests, waits, waits_by, waits_in, wished_for}
use Rattle.mega_reply_laws.proofs.Ending.{all_end, all_pass, all_pass_each, apart_less, ends, given, many, many_both, not_first, open_or_ended, others_staying, passes, passes_ended, passes_opened, passes_refused, replies_of, staying_apart, stays_untold, told_to}
use Rattle.mega_reply_laws.proofs.Plain.{IsPlain, start_plain}
use Rattle.mega_reply_laws.proofs.Refusals.{refused_at_once}
use Rattle.mega_reply_laws.proofs.Steps.{AreBelow, IsBelow, IsWithin, LedOn, all_leave, begin_went, begins_new, begun_left, below_begun, below_still, take_went, tick_went, within_still, within_with_new}

-- ---- what is said of each request

-- an operation that is open is among these
abbrev pub OpenAmong : List OpId → RequestState → Type 0
OpenAmong ops Heard = ⊥
OpenAmong ops (Refused words) = Unit {0}
OpenAmong ops (Opened x) = among ops x ≡ true
OpenAmong ops (Ended x answer) = Unit {0}

-- and one that ended is not
abbrev pub EndedOut : List OpId → RequestState → Type 0
EndedOut ops Heard = Unit {0}
EndedOut ops (Refused words) = Unit {0}
EndedOut ops (Opened x) = Unit {0}
EndedOut ops (Ended x answer) = among ops x ≡ false

abbrev pub Standing : List OpId → RequestState → Type 0
Standing ops Heard = ⊥
Standing ops (Refused words) = Unit {0}
Standing ops (Opened x) = among ops x ≡ true
Standing ops (Ended x answer) = among ops x ≡ false

-- one that ended was begun by now
abbrev pub Past : ℕ → RequestState → Type 0
Past n Heard = Unit {0}
Past n (Refused words) = Unit {0}
Past n (Opened x) = Unit {0}
Past n (Ended x answer) = x.number ≤ n

abbrev pub Each : (RequestState → Type 0) → List Asked → Type 0
Each P asked = All (λ (one : Asked). P one.came) asked

each_weaker : (P Q : RequestState → Type 0) → ((came : RequestState) → P came → Q came) → (asked : List Asked) → Each P asked → Each Q asked
each_weaker P Q f asked h = All-weaker (λ (one : Asked). P one.came) (λ (one : Asked). Q one.came) (λ one k. f one.came k) asked h

each_comes : (P Q : RequestState → Type 0) (next : RequestState → RequestState) → ((came : RequestState) → P came → Q (next came)) → (asked : List Asked) → Each P asked → Each Q (map (comes_to next) asked)
each_comes P Q next f asked h = All-map (λ (one : Asked). Q one.came) (comes_to next) asked (All-weaker (λ (one : Asked). P one.came) (λ (one : Asked). Q (next one.came)) (λ one k. f one.came k) asked h)

each_both : (P Q : RequestState → Type 0) (asked : List Asked) → Each P asked → Each Q asked → Each (λ came. P came × Q came) asked
each_both P Q [] h k = All-nil (λ (one : Asked). P one.came × Q one.came)
each_both P Q (one ∷ asked) h k = All-cons (λ (one : Asked). P one.came × Q one.came) one asked (All-head (λ (one : Asked). P one.came) one asked h, All-head (λ (one : Asked). Q one.came) one asked k)
    (each_both P Q asked (All-tail (λ (one : Asked). P one.came) one asked h) (All-tail (λ (one : Asked). Q one.came) one asked k))

opened_of : (ops : List OpId) (came : RequestState) → Standing ops came → OpenAmong ops came
opened_of ops Heard h = h
opened_of ops (Refused words) h = tt
opened_of ops (Opened x) h = h
opened_of ops (Ended x answer) h = tt

out_of : (ops : List OpId) (came : RequestState) → Standing ops came → EndedOut ops came
out_of ops Heard h = tt
out_of ops (Refused words) h = tt
out_of ops (Opened x) h = tt
out_of ops (Ended x answer) h = h

out_more : (fates : List Fate) (came : RequestState) → EndedOut (map op_in fates) came → EndedOut (flat_map staying fates) came
out_more fates Heard h = tt
out_more fates (Refused words) h = tt
out_more fates (Opened x) h = tt
out_more fates (Ended x answer) h = others_staying fates x h

-- what holds of all holds of one that is among them
pub among_all : (P : OpId → Type 0) (ops : List OpId) (x : OpId) → All P ops → among ops x ≡ true → P x
among_all P [] x h k = cc
among_all P (op ∷ ops) x h k = by (same_op op x) refl k (λ rest. among_all P ops x (All-tail P op ops h) rest)
  where
    by : (t : Bool) → same_op op x ≡ t → (t || among ops x) ≡ true → (among ops x ≡ true → P x) → P x
    by true e k rest = subst P (same_op_equal op x e) (All-head P op ops h)
    by false e k rest = rest k

-- ---- behind the fates of a step

passed : (fates : List Fate) → AreApart (map op_in fates) → (came : RequestState) → OpenAmong (map op_in fates) came × EndedOut (flat_map staying fates) came → Standing (flat_map staying fates) (passes fates came)
passed fates apart Heard h = absurd h.0
passed fates apart (Refused words) h = subst (Standing (flat_map staying fates)) (sym (passes_refused fates words)) tt
passed fates apart (Ended x answer) h = subst (Standing (flat_map staying fates)) (sym (passes_ended fates x answer)) h.1
passed fates apart (Opened x) h = subst (Standing (flat_map staying fates)) (sym (passes_opened fates x)) (by (told_to fates x) (stays_untold fates x apart h.0))
  where
    by : (told : Option Answer) → among (flat_map staying fates) x ≡ is_none told → Standing (flat_map staying fates) (open_or_ended x told)
    by None e = e
    by (Some answer) e = e

passed_past : (n : ℕ) (fates : List Fate) → All (IsWithin n) (map op_in fates) → (came : RequestState) → OpenAmong (map op_in fates) came × Past n came → Past n (passes fates came)
passed_past n fates within Heard h = absurd h.0
passed_past n fates within (Refused words) h = subst (Past n) (sym (passes_refused fates words)) tt
passed_past n fates within (Ended x answer) h = subst (Past n) (sym (passes_ended fates x answer)) h.1
passed_past n fates within (Opened x) h = subst (Past n) (sym (passes_opened fates x)) (by (told_to fates x))
  where
    by : (told : Option Answer) → Past n (open_or_ended x told)
    by None = tt
    by (Some answer) = among_all (IsWithin n) (map op_in fates) x within h.0

still_waits : (fates : List Fate) → AreApart (map op_in fates) → (asked : List Asked) → Each (OpenAmong (map op_in fates)) asked
    → waits (map (comes_to (passes fates)) asked) ≡ filter (λ (one : Waiting). among (flat_map staying fates) one.op) (waits asked)
still_waits fates apart [] h = refl
still_waits fates apart (one ∷ asked) h =
    by one.client one.token one.came (All-head (λ (one : Asked). OpenAmong (map op_in fates) one.came) one asked h)
    (still_waits fates apart asked (All-tail (λ (one : Asked). OpenAmong (map op_in fates) one.came) one asked h))
  where
    stay : Waiting → Bool
    stay w = among (flat_map staying fates) w.op

    after : List Asked
    after = map (comes_to (passes fates)) asked

    by : (client token : ℕ) (came : RequestState) → OpenAmong (map op_in fates) came → waits after ≡ filter stay (waits asked)
        → cons_option (waits_by client token (passes fates came)) (waits after) ≡ filter stay (cons_option (waits_by client token came) (waits asked))
    by client token Heard k rest = absurd k
    by client token (Refused words) k rest = ap (λ came. cons_option (waits_by client token came) (waits after)) (passes_refused fates words) ∙ rest
    by client token (Ended x answer) k rest = ap (λ came. cons_option (waits_by client token came) (waits after)) (passes_ended fates x answer) ∙ rest
    by client token (Opened x) k rest =
        ap (λ came. cons_option (waits_by client token came) (waits after)) (passes_opened fates x) ∙ go (told_to fates x)
        ∙ sym (ap (λ t. cond t (one_waits ∷ filter stay (waits asked)) (filter stay (waits asked))) (stays_untold fates x apart k))
      where
        one_waits : Waiting
        one_waits = record { op = x; client = client; token = token }

        go : (told : Option Answer) → cons_option (waits_by client token (open_or_ended x told)) (waits after) ≡ cond (is_none told) (one_waits ∷ filter stay (waits asked)) (filter stay (waits asked))
        go None = ap (λ those. one_waits ∷ those) rest
        go (Some answer) = rest

-- ---- the lines of a step

module _ (c : Cluster) (me : ℕ) (wish : List ℕ → Wish) where
  abbrev pub after_line : List Asked → Line → List Asked
  after_line asked line = behind_line me wish asked line

  abbrev pub after_lines : List Asked → List Line → List Asked
  after_lines asked lines = fold after_line asked lines

  one_plain : (asked : List Asked) (one : Met) (rest : List Line) → IsPlain one → after_lines asked (map Noted (shown me one) ++ rest) ≡ after_lines asked rest
  one_plain asked (Starts start) rest h = cc
  one_plain asked (Begins op text) rest h = cc
  one_plain asked (Answers op answer) rest h = cc
  one_plain asked _ rest h = refl

  noted_both : (xs ys : List Met) → noted me (xs ++ ys) ≡ noted me xs ++ noted me ys
  noted_both xs ys = ap (map Noted) (flat_map-append (shown me) xs ys) ∙ map-append Noted (flat_map (shown me) xs) (flat_map (shown me) ys)

  plain_lines : (asked : List Asked) (notes : List Met) → All IsPlain notes → after_lines asked (noted me notes) ≡ asked
  plain_lines asked [] h = refl
  plain_lines asked (one ∷ notes) h =
      ap (after_lines asked) (map-append Noted (shown me one) (flat_map (shown me) notes))
      ∙ one_plain asked one (noted me notes) (All-head IsPlain one notes h) ∙ plain_lines asked notes (All-tail IsPlain one notes h)

  answer_lines : (fates : List Fate) (asked : List Asked) → after_lines asked (noted me (flat_map answering fates)) ≡ all_pass fates asked
  answer_lines [] asked = refl
  answer_lines (Stays op ∷ fates) asked = answer_lines fates asked
  answer_lines (Ends op answer ∷ fates) asked = answer_lines fates (ends op answer asked)

  put_lines : (asked : List Asked) (ms : List Message) → after_lines asked (put_out ms) ≡ asked
  put_lines asked [] = refl
  put_lines asked (m ∷ ms) = put_lines asked ms

  one_replied : (asked : List Asked) (those : List Waiting) (one : Met) (rest : List Line) → after_lines asked (answer_line c.schema me those one ++ rest) ≡ after_lines asked rest
  one_replied asked those (Answers op answer) rest = by (find (λ (one : Waiting). same_op one.op op) those)
    where
      by : (found : Option Waiting) → after_lines asked (answered_line c.schema me answer found ++ rest) ≡ after_lines asked rest
      by None = refl
      by (Some one) = refl
  one_replied asked those _ rest = refl

  reply_lines : (asked : List Asked) (those : List Waiting) (notes : List Met) → after_lines asked (flat_map (answer_line c.schema me those) notes) ≡ asked
  reply_lines asked those [] = refl
  reply_lines asked those (one ∷ notes) = one_replied asked those one (flat_map (answer_line c.schema me those) notes) ∙ reply_lines asked those notes

  -- and the replies among them
  none_noted : (items : List Item) → replies (map Noted items) ≡ []
  none_noted [] = refl
  none_noted (item ∷ items) = none_noted items

  none_put : (ms : List Message) → replies (put_out ms) ≡ []
  none_put [] = refl
  none_put (m ∷ ms) = none_put ms

  all_replies : (those : List Waiting) (notes : List Met) → replies (flat_map (answer_line c.schema me those) notes) ≡ flat_map (answer_line c.schema me those) notes
  all_replies those [] = refl
  all_replies those (one ∷ notes) = filter-append is_reply (answer_line c.schema me those one) (flat_map (answer_line c.schema me those) notes) ∙ (λ i. kept one i ++ all_replies those notes i)
    where
      by : (answer : Answer) (found : Option Waiting) → replies (answered_line c.schema me answer found) ≡ answered_line c.schema me answer found
      by answer None = refl
      by answer (Some one) = refl

      kept : (one : Met) → replies (answer_line c.schema me those one) ≡ answer_line c.schema me those one
      kept (Answers op answer) = by answer (find (λ (one : Waiting). same_op one.op op) those)
      kept _ = refl

  plain_silent : (those : List Waiting) (notes : List Met) → All IsPlain notes → flat_map (answer_line c.schema me those) notes ≡ []
  plain_silent those [] h = refl
  plain_silent those (one ∷ notes) h = (λ i. none one (All-head IsPlain one notes h) i ++ flat_map (answer_line c.schema me those) notes) ∙ plain_silent those notes (All-tail IsPlain one notes h)
    where
      none : (one : Met) → IsPlain one → answer_line c.schema me those one ≡ []
      none (Answers op answer) h = cc
      none _ h = refl

  any_ids : (os : List Operation) (x : OpId) → list_any (λ (o : Operation). same_op o.id x) os ≡ among (ids os) x
  any_ids [] x = refl
  any_ids (o ∷ os) x = ap (λ t. same_op o.id x || t) (any_ids os x)

  -- ---- a served node

  pub record Serves (now : Served) : Type 0 where
    pub counted : (test : Line → Bool) → many test (replies now.lines) ≡ many test (given c.schema me (requests me wish now.lines))
    pub waiting_are : waits (requests me wish now.lines) ≡ now.waiting
    pub standing : Each (Standing (ids now.node.open_operations)) (requests me wish now.lines)
    pub apart : AreApart (ids now.node.open_operations)
    pub alone : AreApart (map op_awaited (waits (requests me wish now.lines)))
    pub below : AreBelow now.node
    pub past : Each (Past (begun_of now.node.met)) (requests me wish now.lines)

  -- what holds of the requests as a step is made, with the operations that are open then
  pub record Ready (now : Served) (before : List OpId) (own : List Line) (waiting : List Waiting) (asked : List Asked) : Type 0 where
    pub are : after_lines (requests me wish now.lines) own ≡ asked
    pub silent : replies own ≡ []
    pub counted : (test : Line → Bool) → many test (replies now.lines) ≡ many test (given c.schema me asked)
    pub waiting_are : waits asked ≡ waiting
    pub opened : Each (OpenAmong before) asked
    pub apart : AreApart before
    pub alone : AreApart (map op_awaited (waits asked))

  module _ (now : Served) (before : List OpId) (base : List Met) (made : Step) (own : List Line) (waiting : List Waiting) (asked : List Asked) (w : LedOn before base made) (r : Ready now before own waiting asked) where
    abbrev pub next : Served
    next = recorded c me now own waiting made

    abbrev asked_then : List Asked
    asked_then = map (comes_to (passes w.fates)) asked

    abbrev tail_lines : List Line
    tail_lines = flat_map (answer_line c.schema me waiting) made.notes

    notes_lines : after_lines asked (noted me made.notes) ≡ asked_then
    notes_lines =
        ap (λ notes. after_lines asked (noted me notes)) w.notes_are
        ∙ ap (after_lines asked) (noted_both w.plain (flat_map answering w.fates))
        ∙ fold-append after_line asked (noted me w.plain) (noted me (flat_map answering w.fates))
        ∙ ap (λ those. after_lines those (noted me (flat_map answering w.fates))) (plain_lines asked w.plain w.are_plain)
        ∙ answer_lines w.fates asked ∙ all_pass_each w.fates asked

    requests_are : requests me wish next.lines ≡ asked_then
    requests_are =
        fold-append after_line [] now.lines (((own ++ noted me made.notes) ++ put_out made.sends) ++ tail_lines)
        ∙ fold-append after_line (requests me wish now.lines) ((own ++ noted me made.notes) ++ put_out made.sends) tail_lines
        ∙ reply_lines (after_lines (requests me wish now.lines) ((own ++ noted me made.notes) ++ put_out made.sends)) waiting made.notes
        ∙ fold-append after_line (requests me wish now.lines) (own ++ noted me made.notes) (put_out made.sends)
        ∙ put_lines (after_lines (requests me wish now.lines) (own ++ noted me made.notes)) made.sends
        ∙ fold-append after_line (requests me wish now.lines) own (noted me made.notes)
        ∙ ap (λ those. after_lines those (noted me made.notes)) r.are ∙ notes_lines

    tail_is : tail_lines ≡ replies_of c.schema me waiting w.fates
    tail_is =
        ap (flat_map (answer_line c.schema me waiting)) w.notes_are
        ∙ flat_map-append (answer_line c.schema me waiting) w.plain (flat_map answering w.fates)
        ∙ ap (λ lines. lines ++ replies_of c.schema me waiting w.fates) (plain_silent waiting w.plain w.are_plain)

    replies_are : replies next.lines ≡ replies now.lines ++ replies_of c.schema me waiting w.fates
    replies_are =
        filter-append is_reply now.lines (((own ++ noted me made.notes) ++ put_out made.sends) ++ tail_lines)
        ∙ ap (λ lines. replies now.lines ++ lines) (
        filter-append is_reply ((own ++ noted me made.notes) ++ put_out made.sends) tail_lines
        ∙ ap (λ lines. lines ++ replies tail_lines) (
        filter-append is_reply (own ++ noted me made.notes) (put_out made.sends)
        ∙ (λ i. (filter-append is_reply own (noted me made.notes) ∙ (λ j. r.silent j ++ none_noted (flat_map (shown me) made.notes) j)) i ++ none_put made.sends i))
        ∙ all_replies waiting made.notes ∙ tail_is)

    apart_fates : AreApart (map op_in w.fates)
    apart_fates = subst AreApart (sym w.ops_are) r.apart

    opened_fates : Each (OpenAmong (map op_in w.fates)) asked
    opened_fates = subst (λ ops. Each (OpenAmong ops) asked) (sym w.ops_are) r.opened

    counted_then : (test : Line → Bool) → many test (replies next.lines) ≡ many test (given c.schema me (requests me wish next.lines))
    counted_then test =
        ap (many test) replies_are ∙ many_both test (replies now.lines) (replies_of c.schema me waiting w.fates)
        ∙ (λ i. r.counted test i + many test (replies_of c.schema me (sym r.waiting_are i) w.fates))
        ∙ sym (all_end c.schema me test w.fates asked apart_fates r.alone)
        ∙ ap (λ those. many test (given c.schema me those)) (all_pass_each w.fates asked ∙ sym requests_are)

    waiting_then : waits (requests me wish next.lines) ≡ next.waiting
    waiting_then =
        ap waits requests_are ∙ still_waits w.fates apart_fates asked opened_fates
        ∙ ap (λ ops. filter (λ (one : Waiting). among ops one.op) (waits asked)) (sym w.open_are)
        ∙ filter_agree (λ (one : Waiting). among (ids made.node.open_operations) one.op) (λ (one : Waiting). is_open_at made.node one.op) (λ one. sym (any_ids made.node.open_operations one.op)) (waits asked)
        ∙ ap (filter (λ (one : Waiting). is_open_at made.node one.op)) r.waiting_are

    pub recorded_serves : Each (EndedOut (ids made.node.open_operations)) asked → AreBelow made.node → All (IsWithin (begun_of made.node.met)) before → Each (Past (begun_of made.node.met)) asked → Serves next
    recorded_serves out below within past = record {
      counted = counted_then;
      waiting_are = waiting_then;
      standing = subst (Each (Standing (ids made.node.open_operations))) (sym requests_are)
          (subst (λ ops. Each (Standing ops) asked_then) (sym w.open_are)
          (each_comes (λ came. OpenAmong (map op_in w.fates) came × EndedOut (flat_map staying w.fates) came) (Standing (flat_map staying w.fates)) (passes w.fates) (passed w.fates apart_fates) asked
          (each_both (OpenAmong (map op_in w.fates)) (EndedOut (flat_map staying w.fates)) asked opened_fates (subst (λ ops. Each (EndedOut ops) asked) w.open_are out))));
      apart = subst AreApart (sym w.open_are) (staying_apart w.fates apart_fates);
      alone = subst (λ those. AreApart (map op_awaited those)) (sym (ap waits requests_are ∙ still_waits w.fates apart_fates asked opened_fates))
          (apart_less (λ (one : Waiting). among (flat_map staying w.fates) one.op) (waits asked) r.alone);
      below = below;
      past = subst (Each (Past (begun_of made.node.met))) (sym requests_are)
          (each_comes (λ came. OpenAmong (map op_in w.fates) came × Past (begun_of made.node.met) came) (Past (begun_of made.node.met)) (passes w.fates)
          (passed_past (begun_of made.node.met) w.fates (subst (All (IsWithin (begun_of made.node.met))) (sym w.ops_are) within)) asked
          (each_both (OpenAmong (map op_in w.fates)) (Past (begun_of made.node.met)) asked opened_fates past));
    }

  -- ---- ticks and messages

  module _ (now : Served) (h : Serves now) where
    abbrev asked_now : List Asked
    asked_now = requests me wish now.lines

    -- before a step at which no operation begins
    ready_still : (own : List Line) → after_lines asked_now own ≡ asked_now → replies own ≡ [] → Ready now (ids now.node.open_operations) own now.waiting asked_now
    ready_still own same none = record {
      are = same;
      silent = none;
      counted = h.counted;
      waiting_are = h.waiting_are;
      opened = each_weaker (Standing (ids now.node.open_operations)) (OpenAmong (ids now.node.open_operations)) (opened_of (ids now.node.open_operations)) asked_now h.standing;
      apart = h.apart;
      alone = h.alone;
    }

    still_serves : (own : List Line) (base : List Met) (made : Step) → LedOn (ids now.node.open_operations) base made → begun_of base ≡ begun_of now.node.met
        → after_lines asked_now own ≡ asked_now → replies own ≡ [] → Serves (recorded c me now own now.waiting made)
    still_serves own base made w same are silent =
        recorded_serves now (ids now.node.open_operations) base made own now.waiting asked_now w (ready_still own are silent) out (below_still now.node base made w same h.below)
        (subst (λ b. All (IsWithin b) (ids now.node.open_operations)) (sym begun) (within_still now.node h.below)) (subst (λ b. Each (Past b) asked_now) (sym begun) h.past)
      where
        begun : begun_of made.node.met ≡ begun_of now.node.met
        begun = w.begun ∙ same

        out : Each (EndedOut (ids made.node.open_operations)) asked_now
        out = subst (λ ops. Each (EndedOut ops) asked_now) (sym w.open_are)
            (each_weaker (EndedOut (map op_in w.fates)) (EndedOut (flat_map staying w.fates)) (out_more w.fates) asked_now
            (subst (λ ops. Each (EndedOut ops) asked_now) (sym w.ops_are)
            (each_weaker (Standing (ids now.node.open_operations)) (EndedOut (ids now.node.open_operations)) (out_of (ids now.node.open_operations)) asked_now h.standing)))

    ticked_serves : (handlers : Meanings) (clock : ℕ) → Serves (ticked c me handlers clock now)
    ticked_serves handlers clock = still_serves (noted me (Ticks clock ∷ [])) (Ticks clock ∷ now.node.met) (step (setting c handlers me) now.node (Tick clock)) (tick_went (setting c handlers me) now.node clock) refl refl refl

    taken_serves : (handlers : Meanings) (own : List Line) (m : Message) → after_lines asked_now own ≡ asked_now → replies own ≡ [] → Serves (recorded c me now own now.waiting (step (setting c handlers me) now.node (Take m)))
    taken_serves handlers own m are silent = still_serves own (Takes m ∷ now.node.met) (step (setting c handlers me) now.node (Take m)) (take_went (setting c handlers me) now.node m) refl are silent

    -- ---- lines alone

    told_by : (more : List Line) → after_lines asked_now more ≡ asked_now → requests me wish (now.lines ++ more) ≡ asked_now
    told_by more are = fold-append after_line [] now.lines more ∙ are

    lines_serve : (more : List Line) → after_lines asked_now more ≡ asked_now → replies more ≡ [] → Serves (with_lines now more)
    lines_serve more are silent = record {
      counted = λ test. ap (many test) (filter-append is_reply now.lines more ∙ ap (λ lines. replies now.lines ++ lines) silent ∙ append-nil (replies now.lines)) ∙ h.counted test
          ∙ ap (λ asked. many test (given c.schema me asked)) (sym (told_by more are));
      waiting_are = ap waits (told_by more are) ∙ h.waiting_are;
      standing = subst (Each (Standing (ids now.node.open_operations))) (sym (told_by more are)) h.standing;
      apart = h.apart;
      alone = subst (λ asked. AreApart (map op_awaited (waits asked))) (sym (told_by more are)) h.alone;
      below = h.below;
      past = subst (Each (Past (begun_of now.node.met))) (sym (told_by more are)) h.past;
    }

    -- ---- a request that is refused

    module _ (from : Peer) (bytes : List ℕ) (client token : ℕ) (words : List (List ℕ)) where
      abbrev one_refused : Asked
      one_refused = record { client = client; token = token; came = Refused words }

      abbrev refusal_lines : List Line
      refusal_lines = Got from bytes ∷ reply_line me client token words ∷ []

      refused_serves : after_lines asked_now (Got from bytes ∷ []) ≡ asked_now ++ one_refused ∷ [] → Serves (with_lines now refusal_lines)
      refused_serves are = record {
        counted = λ test.
            ap (many test) (filter-append is_reply now.lines refusal_lines)
            ∙ many_both test (replies now.lines) (reply_line me client token words ∷ [])
            ∙ ap (λ n. n + many test (reply_line me client token words ∷ [])) (h.counted test)
            ∙ sym (many_both test (given c.schema me asked_now) (reply_line me client token words ∷ []))
            ∙ ap (many test) (sym (filter_map-append (reply_to c.schema me) asked_now (one_refused ∷ [])))
            ∙ ap (λ asked. many test (given c.schema me asked)) (sym then_are);
        waiting_are = ap waits then_are ∙ waits_same ∙ h.waiting_are;
        standing = subst (Each (Standing (ids now.node.open_operations))) (sym then_are) (All-push (λ (one : Asked). Standing (ids now.node.open_operations) one.came) asked_now one_refused h.standing tt);
        apart = h.apart;
        alone = subst (λ those. AreApart (map op_awaited those)) (sym (ap waits then_are ∙ waits_same)) h.alone;
        below = h.below;
        past = subst (Each (Past (begun_of now.node.met))) (sym then_are) (All-push (λ (one : Asked). Past (begun_of now.node.met) one.came) asked_now one_refused h.past tt);
      }
        where
          then_are : requests me wish (now.lines ++ refusal_lines) ≡ asked_now ++ one_refused ∷ []
          then_are = fold-append after_line [] now.lines refusal_lines ∙ are

          waits_same : waits (asked_now ++ one_refused ∷ []) ≡ waits asked_now
          waits_same = filter_map-append waits_in asked_now (one_refused ∷ []) ∙ append-nil (waits asked_now)

    -- ---- a request whose operation begins

    module _ (handlers : Meanings) (request : Request) (text : List ℕ) (from : Peer) (bytes : List ℕ) (client token : ℕ) where
      abbrev s : Setting
      s = setting c handlers me

      abbrev new : OpId
      new = op_of s now.node.met

      abbrev open_ids : List OpId
      open_ids = ids now.node.open_operations

      abbrev one_heard : Asked
      one_heard = record { client = client; token = token; came = Heard }

      abbrev one_opened : Asked
      one_opened = record { client = client; token = token; came = Opened new }

      abbrev one_waits : Waiting
      one_waits = record { op = new; client = client; token = token }

      -- the others began before
      others_begun : (asked : List Asked) → Each (Standing open_ids) asked → map (comes_to (begun_as new)) (asked ++ one_heard ∷ []) ≡ asked ++ one_opened ∷ []
      others_begun [] k = refl
      others_begun (one ∷ asked) k =
          by one.client one.token one.came (All-head (λ (one : Asked). Standing open_ids one.came) one asked k) (others_begun asked (All-tail (λ (one : Asked). Standing open_ids one.came) one asked k))
        where
          before_it : List Asked
          before_it = map (comes_to (begun_as new)) (asked ++ one_heard ∷ [])

          by : (client token : ℕ) (came : RequestState) → Standing open_ids came → before_it ≡ asked ++ one_opened ∷ []
              → ((record { client = client; token = token; came = begun_as new came }) ∷ before_it) ≡ ((record { client = client; token = token; came = came }) ∷ (asked ++ one_opened ∷ []))
          by client token Heard k rest = absurd k
          by client token (Refused words) k rest = ap (λ those. (record { client = client; token = token; came = Refused words }) ∷ those) rest
          by client token (Opened x) k rest = ap (λ those. (record { client = client; token = token; came = Opened x }) ∷ those) rest
          by client token (Ended x answer) k rest = ap (λ those. (record { client = client; token = token; came = Ended x answer }) ∷ those) rest

      abbrev asked_then_new : List Asked
      asked_then_new = asked_now ++ one_opened ∷ []

      -- it is none of those that are open
      below_new : All (IsBelow new.number) open_ids
      below_new = h.below

      not_new : (x : OpId) → x.number < new.number → same_op new x ≡ false
      not_new x less = by (same_op new x) refl
        where
          by : (t : Bool) → same_op new x ≡ t → t ≡ false
          by false e = refl
          by true e = absurd (let is = ap (λ (y : OpId). y.number) (same_op_equal new x e) in omega (arith, is, less))

      push_apart : (ops : List OpId) → All (IsBelow new.number) ops → AreApart ops → AreApart (ops ++ new ∷ [])
      push_apart [] low apart = (refl, tt)
      push_apart (op ∷ ops) low apart = (beside ops op (All-head (IsBelow new.number) op ops low) apart.0, push_apart ops (All-tail (IsBelow new.number) op ops low) apart.1)
        where
          beside : (ops : List OpId) (op : OpId) → op.number < new.number → among ops op ≡ false → among (ops ++ new ∷ []) op ≡ false
          beside [] op less k = ap (λ t. t || false) (not_new op less)
          beside (other ∷ ops) op less k = let apart = not_first other op ops k in ap (λ t. t || among (ops ++ new ∷ []) op) apart.0 ∙ beside ops op less apart.1

      among_more : (ops : List OpId) (x : OpId) → among ops x ≡ true → among (ops ++ new ∷ []) x ≡ true
      among_more [] x k = cc
      among_more (op ∷ ops) x k = by (same_op op x) k (λ rest. among_more ops x rest)
        where
          by : (t : Bool) → (t || among ops x) ≡ true → (among ops x ≡ true → among (ops ++ new ∷ []) x ≡ true) → (t || among (ops ++ new ∷ []) x) ≡ true
          by true k rest = refl
          by false k rest = rest k

      among_last : (ops : List OpId) → among (ops ++ new ∷ []) new ≡ true
      among_last [] = ap (λ t. t || false) (same_op_self new)
      among_last (op ∷ ops) = by (same_op op new) (among_last ops)
        where
          by : (t : Bool) → among (ops ++ new ∷ []) new ≡ true → (t || among (ops ++ new ∷ []) new) ≡ true
          by true rest = refl
          by false rest = rest

      not_among : (ops : List OpId) (x : OpId) → among ops x ≡ false → same_op new x ≡ false → among (ops ++ new ∷ []) x ≡ false
      not_among [] x k e = ap (λ t. t || false) e
      not_among (op ∷ ops) x k e = let apart = not_first op x ops k in ap (λ t. t || among (ops ++ new ∷ []) x) apart.0 ∙ not_among ops x apart.1 e

      -- those who wait have open operations
      waits_below : (asked : List Asked) → Each (Standing open_ids) asked → All (IsBelow new.number) (map op_awaited (waits asked))
      waits_below [] k = All-nil (IsBelow new.number)
      waits_below (one ∷ asked) k =
          by one.client one.token one.came (All-head (λ (one : Asked). Standing open_ids one.came) one asked k) (waits_below asked (All-tail (λ (one : Asked). Standing open_ids one.came) one asked k))
        where
          by : (client token : ℕ) (came : RequestState) → Standing open_ids came → All (IsBelow new.number) (map op_awaited (waits asked)) → All (IsBelow new.number) (map op_awaited (cons_option (waits_by client token came) (waits asked)))
          by client token Heard k rest = absurd k
          by client token (Refused words) k rest = rest
          by client token (Opened x) k rest = All-cons (IsBelow new.number) x (map op_awaited (waits asked)) (among_all (IsBelow new.number) open_ids x below_new k) rest
          by client token (Ended x answer) k rest = rest

      waits_then : waits asked_then_new ≡ waits asked_now ++ one_waits ∷ []
      waits_then = filter_map-append waits_in asked_now (one_opened ∷ [])

      abbrev own_lines : List Line
      own_lines = (Got from bytes ∷ []) ++ noted me (Begins new text ∷ [])

      ready_new : after_lines asked_now (Got from bytes ∷ []) ≡ asked_now ++ one_heard ∷ [] → Ready now (open_ids ++ new ∷ []) own_lines (now.waiting ++ one_waits ∷ []) asked_then_new
      ready_new brought = record {
        are = ap (map (comes_to (begun_as new))) brought ∙ others_begun asked_now h.standing;
        silent = refl;
        counted = λ test. h.counted test ∙ ap (many test) (sym (filter_map-append (reply_to c.schema me) asked_now (one_opened ∷ []) ∙ append-nil (given c.schema me asked_now)));
        waiting_are = waits_then ∙ ap (λ those. those ++ one_waits ∷ []) h.waiting_are;
        opened = All-push (λ (one : Asked). OpenAmong (open_ids ++ new ∷ []) one.came) asked_now one_opened (each_weaker (Standing open_ids) (OpenAmong (open_ids ++ new ∷ [])) more asked_now h.standing) (among_last open_ids);
        apart = push_apart open_ids below_new h.apart;
        alone = subst (λ those. AreApart those) (sym (ap (map op_awaited) waits_then ∙ map-append op_awaited (waits asked_now) (one_waits ∷ []))) (push_apart (map op_awaited (waits asked_now)) (waits_below asked_now h.standing) h.alone);
      }
        where
          more : (came : RequestState) → Standing open_ids came → OpenAmong (open_ids ++ new ∷ []) came
          more Heard k = k
          more (Refused words) k = tt
          more (Opened x) k = among_more open_ids x k
          more (Ended x answer) k = tt

      abbrev made : Step
      made = step s now.node (Begin request text)

      w : LedOn (open_ids ++ new ∷ []) (Begins new text ∷ now.node.met) made
      w = begin_went s now.node request text

      out_then : Each (EndedOut (ids made.node.open_operations)) asked_then_new
      out_then = All-push (λ (one : Asked). EndedOut (ids made.node.open_operations) one.came) asked_now one_opened (by (begins_new s now.node request text)) tt
        where
          by : (made.node.open_operations ≡ now.node.open_operations) ⊎ (begun_of now.node.met < new.number) → Each (EndedOut (ids made.node.open_operations)) asked_now
          by (inl same) = subst (λ os. Each (EndedOut (ids os)) asked_now) (sym same) (each_weaker (Standing open_ids) (EndedOut open_ids) (out_of open_ids) asked_now h.standing)
          by (inr fresh) = subst (λ ops. Each (EndedOut ops) asked_now) (sym w.open_are)
              (each_weaker (EndedOut (map op_in w.fates)) (EndedOut (flat_map staying w.fates)) (out_more w.fates) asked_now
              (subst (λ ops. Each (EndedOut ops) asked_now) (sym w.ops_are)
              (each_weaker (λ came. Standing open_ids came × Past (begun_of now.node.met) came) (EndedOut (open_ids ++ new ∷ [])) outside asked_now
              (each_both (Standing open_ids) (Past (begun_of now.node.met)) asked_now h.standing h.past))))
            where
              outside : (came : RequestState) → Standing open_ids came × Past (begun_of now.node.met) came → EndedOut (open_ids ++ new ∷ []) came
              outside Heard k = tt
              outside (Refused words) k = tt
              outside (Opened x) k = tt
              outside (Ended x answer) k = not_among open_ids x k.0 (not_new x (let le = k.1 in let less = fresh in omega (arith, le, less)))

      begun_serves : after_lines asked_now (Got from bytes ∷ []) ≡ asked_now ++ one_heard ∷ [] → Serves (recorded c me now own_lines (now.waiting ++ one_waits ∷ []) made)
      begun_serves are =
          recorded_serves now (open_ids ++ new ∷ []) (Begins new text ∷ now.node.met) made own_lines (now.waiting ++ one_waits ∷ []) asked_then_new w (ready_new are) out_then
          (below_begun s now.node request text h.below)
          (subst (λ b. All (IsWithin b) (open_ids ++ new ∷ [])) (sym w.begun) (within_with_new s now.node h.below))
          (subst (λ b. Each (Past b) asked_then_new) (sym w.begun) (All-push (λ (one : Asked). Past (begun_of now.node.met + 1) one.came) asked_now one_opened (each_weaker (Past (begun_of now.node.met)) (Past (begun_of now.node.met + 1)) later asked_now h.past) tt))
        where
          later : (came : RequestState) → Past (begun_of now.node.met) came → Past (begun_of now.node.met + 1) came
          later Heard k = tt
          later (Refused words) k = tt
          later (Opened x) k = tt
          later (Ended x answer) k = let le = k in omega (arith, le)

    -- ---- a datagram

    module _ (handlers : Meanings) (bytes : List ℕ) where
      either : (t : Bool) (one other : Served) → (t ≡ true → Serves one) → (t ≡ false → Serves other) → Serves (cond t one other)
      either true one other f g = f refl
      either false one other f g = g refl

      -- what comes behind a datagram, by what it brings
      none_asked : (asked : List Asked) → asked ≡ [] → asked_now ++ asked ≡ asked_now
      none_asked asked e = ap (λ those. asked_now ++ those) e ∙ append-nil asked_now

      abbrev got : Peer → List Line
      got from = Got from bytes ∷ []

      wish_serves : (from : Peer) (client token : ℕ) (asked : Wish) → after_lines asked_now (got from) ≡ asked_now ++ (record { client = client; token = token; came = wished_for asked }) ∷ [] → Serves (wished c me handlers now (got from) client token asked)
      wish_serves from client token (Refuses reason) are = refused_serves from bytes client token (codes "refused" ∷ codes "schedule" ∷ decimal reason ∷ []) are
      wish_serves from client token (Asks request text) are = either (names_nothing request) _ _
          (λ e. refused_serves from bytes client token (codes "refused" ∷ codes "world" ∷ decimal 7 ∷ []) (are ∙ ap (λ t. asked_now ++ (record { client = client; token = token; came = cond t (Refused (codes "refused" ∷ codes "world" ∷ decimal 7 ∷ [])) Heard }) ∷ []) e))
          (λ e. begun_serves handlers request text from bytes client token (are ∙ ap (λ t. asked_now ++ (record { client = client; token = token; came = cond t (Refused (codes "refused" ∷ codes "world" ∷ decimal 7 ∷ [])) Heard }) ∷ []) e))

      abbrev by_body : List Line → ℕ → Body → Served
      by_body lines client (Requests token json) = wished c me handlers now lines client token (wish json)
      by_body lines client _ = with_lines now lines

      body_serves : (from : Peer) (client : ℕ) (body : Body) → after_lines asked_now (got from) ≡ asked_now ++ asked_in wish client body → Serves (by_body (got from) client body)
      body_serves from client (Requests token json) are = wish_serves from client token (wish json) are
      body_serves from client _ are = lines_serve (got from) (are ∙ append-nil asked_now) refl

      given_serves : (from : Peer) (read : Result Message ℕ) → after_lines asked_now (got from) ≡ asked_now ++ asked_by me wish from read → Serves (receives c me wish handlers now (got from) from read)
      given_serves (OfNode node) (Err at) are = lines_serve (got (OfNode node)) (are ∙ append-nil asked_now) refl
      given_serves (OfNode node) (Ok m) are = either (node == m.from && m.to == me) _ _
          (λ e. taken_serves handlers (got (OfNode node)) m (are ∙ append-nil asked_now) refl)
          (λ e. lines_serve (got (OfNode node)) (are ∙ append-nil asked_now) refl)
      given_serves (OfClient client) (Err at) are = lines_serve (got (OfClient client)) (are ∙ append-nil asked_now) refl
      given_serves (OfClient client) (Ok m) are = either (m.from == 0 && m.to == me) _ _
          (λ e. body_serves (OfClient client) client m.body (are ∙ ap (λ t. asked_now ++ cond t (asked_in wish client m.body) []) e))
          (λ e. lines_serve (got (OfClient client)) (are ∙ ap (λ t. asked_now ++ cond t (asked_in wish client m.body) []) e ∙ append-nil asked_now) refl)

    received_serves : (handlers : Meanings) (datagram : Option (Peer × List ℕ)) → Serves (received c me wish handlers now datagram)
    received_serves handlers None = h
    received_serves handlers (Some one) = given_serves handlers one.1 one.0 (whole_of message_at one.1) refl

  -- ---- a run

  turns_serve : (turns : List Turn) (now : Served) → Serves now → Serves (fold (turned c me wish) now turns)
  turns_serve [] now h = h
  turns_serve (turn ∷ turns) now h = turns_serve turns (turned c me wish now turn)
      (received_serves (ticked c me turn.handlers turn.clock now) (ticked_serves now h turn.handlers turn.clock) turn.handlers turn.datagram)

  module _ (first : Meanings) (before : List JournalItem) where
    abbrev number : ℕ
    number = starts_of before + 1

    abbrev notes : List Met
    notes = start_notes (setting c first me) (Starts number ∷ met_of me before)

    start_asked : requests me wish (served_start c me first before).lines ≡ []
    start_asked = plain_lines [] notes (start_plain (setting c first me) (Starts number ∷ met_of me before))

    start_begun : begun_of (served_start c me first before).node.met ≡ 0
    start_begun = begun_left notes (Starts number ∷ met_of me before) (all_leave notes (start_plain (setting c first me) (Starts number ∷ met_of me before)))

    start_serves : Serves (served_start c me first before)
    start_serves = record {
      counted = λ test. ap (many test) (none_noted (flat_map (shown me) (start_items (setting c first me) number [] (met_of me before)))) ∙ ap (λ asked. many test (given c.schema me asked)) (sym start_asked);
      waiting_are = ap waits start_asked;
      standing = subst (Each (Standing [])) (sym start_asked) (All-nil (λ (one : Asked). Standing [] one.came));
      apart = tt;
      alone = subst (λ asked. AreApart (map op_awaited (waits asked))) (sym start_asked) tt;
      below = All-nil (IsBelow (min (begun_of (served_start c me first before).node.met + 1) last_number));
      past = subst (Each (Past (begun_of (served_start c me first before).node.met))) (sym start_asked) (All-nil (λ (one : Asked). Past (begun_of (served_start c me first before).node.met) one.came));
    }

    pub serves : (turns : List Turn) → Serves (served c me wish first before turns)
    serves turns = turns_serve turns (served_start c me first before) start_serves

-- ---- the laws

module _ (c : Cluster) (me : ℕ) (wish : List ℕ → Wish) (first : Meanings) (before : List JournalItem) (turns : List Turn) where
  at_end : Serves c me wish (served c me wish first before turns)
  at_end = serves c me wish first before turns

  stand_at : (node : Node) (came : RequestState) → Standing (ids node.open_operations) came → Agrees node came
  stand_at node Heard k = k
  stand_at node (Refused words) k = tt
  stand_at node (Opened x) k = any_ids c me wish node.open_operations x ∙ k
  stand_at node (Ended x answer) k = any_ids c me wish node.open_operations x ∙ k

  pub are_replied : AreReplied c me wish (served c me wish first before turns)
  are_replied = record {
    once = at_end.counted;
    stand = All-weaker (λ (one : Asked). Standing (ids (served c me wish first before turns).node.open_operations) one.came) (IsAsItStands (served c me wish first before turns).node)
        (λ one k. stand_at (served c me wish first before turns).node one.came k) (requests me wish (served c me wish first before turns).lines) at_end.standing;
    at_once = refused_at_once c me wish first before turns;
  }

  pub waiting_requests : (served c me wish first before turns).waiting ≡ waits (requests me wish (served c me wish first before turns).lines)
  waiting_requests = sym at_end.waiting_are

  waits_open : (node : Node) (asked : List Asked) → Each (Agrees node) asked → All (HasOpen node) (waits asked)
  waits_open node [] k = All-nil (HasOpen node)
  waits_open node (one ∷ asked) k =
      by one.client one.token one.came (All-head (λ (one : Asked). Agrees node one.came) one asked k) (waits_open node asked (All-tail (λ (one : Asked). Agrees node one.came) one asked k))
    where
      by : (client token : ℕ) (came : RequestState) → Agrees node came → All (HasOpen node) (waits asked) → All (HasOpen node) (cons_option (waits_by client token came) (waits asked))
      by client token Heard k rest = absurd k
      by client token (Refused words) k rest = rest
      by client token (Opened x) k rest = All-cons (HasOpen node) (record { op = x; client = client; token = token }) (waits asked) k rest
      by client token (Ended x answer) k rest = rest

  pub waiting_open : All (HasOpen (served c me wish first before turns).node) (served c me wish first before turns).waiting
  waiting_open = subst (All (HasOpen (served c me wish first before turns).node)) at_end.waiting_are
      (waits_open (served c me wish first before turns).node (requests me wish (served c me wish first before turns).lines) are_replied.stand)

  pub waiting_apart : AreApart (map op_awaited (served c me wish first before turns).waiting)
  waiting_apart = subst (λ those. AreApart (map op_awaited those)) at_end.waiting_are at_end.alone

  pub open_apart : AreApart (ids (served c me wish first before turns).node.open_operations)
  open_apart = at_end.apart

  none_below : (ops : List OpId) (x : OpId) → All (IsBelow x.number) ops → among ops x ≡ false
  none_below [] x low = refl
  none_below (op ∷ ops) x low = by (same_op op x) refl (All-head (IsBelow x.number) op ops low) (none_below ops x (All-tail (IsBelow x.number) op ops low))
    where
      by : (t : Bool) → same_op op x ≡ t → op.number < x.number → among ops x ≡ false → (t || among ops x) ≡ false
      by true e less rest = absurd (let is = ap (λ (y : OpId). y.number) (same_op_equal op x e) in omega (arith, is, less))
      by false e less rest = rest

  pub new_is_none : (handlers : Meanings) → is_open_at (served c me wish first before turns).node (op_of (setting c handlers me) (served c me wish first before turns).node.met) ≡ false
  new_is_none handlers =
      any_ids c me wish (served c me wish first before turns).node.open_operations new
      ∙ none_below (ids (served c me wish first before turns).node.open_operations) new at_end.below
    where
      new : OpId
      new = op_of (setting c handlers me) (served c me wish first before turns).node.met

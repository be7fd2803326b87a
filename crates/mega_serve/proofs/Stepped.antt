-- What a step shows is what the rules record of it, and turns are joined.
use Rattle.std.proofs.Common.{◌≡◌, ℕ, List, [], ◌∷◌, ◌++◌, None, Option, Some, ap, append-nil, append_assoc, codes, decimal, filter, find, map, refl, reverse, subst, sym, ◌∙◌}
use Rattle.std.specs.List.{flat_map}
use Rattle.std.specs.Prelude.{Bool, true, false, if◌then◌else◌, option_map}
use Rattle.std.proofs.lemmas.Grind.{flat_map-append}
use Rattle.mega_base.specs.declared.names.OpId.{OpId}
use Rattle.mega_cluster.specs.declared.cluster.Cluster.{Cluster}
use Rattle.mega_handler.specs.Named.{Meanings}
use Rattle.mega_link.specs.Datagrams.{Datagram}
use Rattle.mega_schema.specs.declared.schema.Schema.{Schema}
use Rattle.mega_wal.specs.Same.{same_op}
use Rattle.mega_outcome.specs.declared.answer.Answer.{Answer}
use Rattle.mega_transcript.specs.declared.item.Item.{Item}
use Rattle.mega_transcript.specs.declared.item.Item.TheVariants as item
use Rattle.mega_rules.specs.Met.{Met, Starts, Crashes, Ticks, Begins, Takes, Sends, Unsends, Grants, Lapses, Counts, Forgets, Serves, Loses, Validates, Invalidates, Decides, Applies, Answers}
use Rattle.mega_promises.specs.Items.{shown}
use Rattle.mega_rules.specs.Steps.{Begin, Step, op_of, step}
use Rattle.mega_outcome.specs.declared.request.Request.{Request}
use Rattle.mega_promises.specs.Runs.{names_nothing, setting}
use Rattle.mega_promises.specs.Served.{Asks, Line, Noted, Served, Waiting, answer_line, is_open_at, kept_of, noted, put_out, recorded, refused_by, wished, with_lines}
use Rattle.mega_serve.specs.declared.steps.Made.{Made}
use Rattle.mega_serve.specs.declared.steps.Steps.{Ghosts}
use Rattle.mega_serve.specs.declared.waiting.Waiting.{Waiting as Waits}
use Rattle.mega_page.specs.Pages.{GoesOn}
use Rattle.mega_serve.specs.Replies.{item_reply, waiting_of, waits_for}
use Rattle.mega_serve.specs.Stepping.{IsMade}
use Rattle.mega_serve.specs.Turns.{IsServing, Proceeds}

-- the replies to items are those to notes
reply_shown : (schema : Schema) (me : ℕ) (waiting : List Waiting) (note : Met) → flat_map (item_reply schema me waiting) (shown me note) ≡ answer_line schema me waiting note
reply_shown schema me waiting (Starts start) = refl
reply_shown schema me waiting Crashes = refl
reply_shown schema me waiting (Ticks now) = refl
reply_shown schema me waiting (Begins op text) = refl
reply_shown schema me waiting (Takes message) = refl
reply_shown schema me waiting (Sends message) = refl
reply_shown schema me waiting (Unsends message) = refl
reply_shown schema me waiting (Grants node epoch) = refl
reply_shown schema me waiting (Lapses node epoch) = refl
reply_shown schema me waiting (Counts cell epoch) = refl
reply_shown schema me waiting (Forgets cell epoch) = refl
reply_shown schema me waiting (Serves epoch) = refl
reply_shown schema me waiting (Loses epoch) = refl
reply_shown schema me waiting (Validates group position) = refl
reply_shown schema me waiting (Invalidates group position) = refl
reply_shown schema me waiting (Decides group position entry) = refl
reply_shown schema me waiting (Applies group position) = refl
reply_shown schema me waiting (Answers op answer) = append-nil (answer_line schema me waiting (Answers op answer))

pub replies_shown : (schema : Schema) (me : ℕ) (waiting : List Waiting) (notes : List Met) → flat_map (item_reply schema me waiting) (flat_map (shown me) notes) ≡ flat_map (answer_line schema me waiting) notes
replies_shown schema me waiting [] = refl
replies_shown schema me waiting (note ∷ notes) =
    flat_map-append (item_reply schema me waiting) (shown me note) (flat_map (shown me) notes) ∙ (λ i. reply_shown schema me waiting note i ++ replies_shown schema me waiting notes i)

-- who waits is found by either list
found_next : (b : Bool) (one : Waits) (found : Option Waiting) (other : Option Waits) → found ≡ option_map waiting_of other → (if b then Some (waiting_of one) else found) ≡ option_map waiting_of (if b then Some one else other)
found_next true one found other same = refl
found_next false one found other same = same

pub found_waiting : (op : OpId) (waiting : List Waits) → find (λ (one : Waiting). same_op one.op op) (map waiting_of waiting) ≡ option_map waiting_of (waits_for op waiting)
found_waiting op [] = refl
found_waiting op (one ∷ waiting) = found_next (same_op one.op op) one (find (λ (one : Waiting). same_op one.op op) (map waiting_of waiting)) (waits_for op waiting) (found_waiting op waiting)

-- those who stay
stay_next : (b : Bool) (one : Waits) (left : List Waits) (others : List Waiting) → map waiting_of left ≡ others → map waiting_of (if b then one ∷ left else left) ≡ (if b then waiting_of one ∷ others else others)
stay_next true one left others same = ap (λ (more : List Waiting). waiting_of one ∷ more) same
stay_next false one left others same = same

pub stay_waiting : (opens : OpId → Bool) (waiting : List Waits) → map waiting_of (filter (λ (one : Waits). opens one.op) waiting) ≡ filter (λ (one : Waiting). opens one.op) (map waiting_of waiting)
stay_waiting opens [] = refl
stay_waiting opens (one ∷ waiting) =
    stay_next (opens one.op) one (filter (λ (one : Waits). opens one.op) waiting) (filter (λ (one : Waiting). opens one.op) (map waiting_of waiting)) (stay_waiting opens waiting)

-- what a step shows and sends is what the rules record of it
pub step_proceeds : {S : Type 0} (steps : Ghosts S) (h : Meanings) (new : S) (c : Cluster) (me : ℕ) (waiting left : List Waits) (held more_held : Option (List ℕ)) (sent more_sent : Option (List Datagram)) (now : Served) (own : List Line) (step : Step) (made : Made)
    → ((op : OpId) → steps.opens new op ≡ is_open_at step.node op) → steps.is_at new h step.node (reverse (kept_of step) ++ now.journal) → IsMade me step made → left ≡ filter (λ (one : Waits). steps.opens new one.op) waiting
    → GoesOn c.schema held more_held sent more_sent (((own ++ map Noted made.items) ++ put_out made.sends) ++ flat_map (item_reply c.schema me (map waiting_of waiting)) made.items)
    → Proceeds steps h new left c.schema held more_held sent more_sent now (recorded c me now own (map waiting_of waiting) step)
step_proceeds steps h new c me waiting left held more_held sent more_sent now own step made opens at is stay goes = record {
  serving = record {
    at = at;
    waits = ap (map waiting_of) stay ∙ stay_waiting (steps.opens new) waiting ∙ (λ i. filter (λ (one : Waiting). opens one.op i) (map waiting_of waiting));
  };
  more = ((own ++ noted me step.notes) ++ put_out step.sends) ++ flat_map (answer_line c.schema me (map waiting_of waiting)) step.notes;
  lines = refl;
  goes_on = subst (GoesOn c.schema held more_held sent more_sent)
      (λ i. ((own ++ map Noted (is.items i)) ++ put_out (is.sends i)) ++ (ap (flat_map (item_reply c.schema me (map waiting_of waiting))) is.items ∙ replies_shown c.schema me (map waiting_of waiting) step.notes) i) goes;
}

-- lines that are recorded alone
pub lines_proceeds : {S : Type 0} (steps : Ghosts S) (h : Meanings) (one : S) (waiting : List Waits) (schema : Schema) (held more_held : Option (List ℕ)) (sent more_sent : Option (List Datagram)) (now : Served) (more : List Line) → IsServing steps h one waiting now
    → GoesOn schema held more_held sent more_sent more → Proceeds steps h one waiting schema held more_held sent more_sent now (with_lines now more)
lines_proceeds steps h one waiting schema held more_held sent more_sent now more serving goes = record {
  serving = record { at = serving.at; waits = serving.waits };
  more = more;
  lines = refl;
  goes_on = goes;
}

-- an item that is no answer brings no reply
pub no_reply : (schema : Schema) (me : ℕ) (waiting : List Waiting) (given : Item) → ((op : OpId) (answer : Answer) → given ≡ item.Answer op answer → ⊥) → item_reply schema me waiting given ≡ []
no_reply schema me waiting (item.Answer op answer) other = absurd (other op answer refl)
no_reply schema me waiting (item.Start node start) other = refl
no_reply schema me waiting (item.Unsent node message) other = refl
no_reply schema me waiting (item.Tick node now) other = refl
no_reply schema me waiting (item.Begin op text) other = refl
no_reply schema me waiting (item.Taken number) other = refl
no_reply schema me waiting (item.Dropped number) other = refl
no_reply schema me waiting (item.Sent number message) other = refl
no_reply schema me waiting (item.Grant cell node epoch) other = refl
no_reply schema me waiting (item.Lapse cell node epoch) other = refl
no_reply schema me waiting (item.Counts node cell epoch) other = refl
no_reply schema me waiting (item.Forgets node cell epoch) other = refl
no_reply schema me waiting (item.Serving node epoch) other = refl
no_reply schema me waiting (item.Lost node epoch) other = refl
no_reply schema me waiting (item.Valid node group position) other = refl
no_reply schema me waiting (item.Invalid node group position) other = refl
no_reply schema me waiting (item.Decide node group position entry) other = refl
no_reply schema me waiting (item.Apply node group position) other = refl
no_reply schema me waiting (item.Crash node) other = refl
no_reply schema me waiting item.Cut other = refl
no_reply schema me waiting item.Unsafe other = refl

-- what a client asks for begins: its line, and that it waits
pub wished_asks : (Is : Served → Type 0) (c : Cluster) (me : ℕ) (h : Meanings) (now : Served) (got : List Line) (client token : ℕ) (request : Request) (text : List ℕ) (op : OpId) (waiting : List Waiting)
    → names_nothing request ≡ false → op ≡ op_of (setting c h me) now.node.met → waiting ≡ now.waiting ++ (record { op = op; client = client; token = token }) ∷ []
    → Is (recorded c me now (got ++ Noted (item.Begin op text) ∷ []) waiting (step (setting c h me) now.node (Begin request text))) → Is (wished c me h now got client token (Asks request text))
wished_asks Is c me h now got client token request text op waiting named next waits is =
    let made = step (setting c h me) now.node (Begin request text) in
    let by_waits = subst (λ (waiting : List Waiting). Is (recorded c me now (got ++ Noted (item.Begin op text) ∷ []) waiting made)) waits is in
    let by_op = subst (λ (op : OpId). Is (recorded c me now (got ++ Noted (item.Begin op text) ∷ []) (now.waiting ++ (record { op = op; client = client; token = token }) ∷ []) made)) next by_waits in
    let begun = op_of (setting c h me) now.node.met in
    subst (λ (b : Bool). Is (if b then refused_by me now got client token (codes "world") (decimal 7)
    else recorded c me now (got ++ Noted (item.Begin begun text) ∷ []) (now.waiting ++ (record { op = begun; client = client; token = token }) ∷ []) made)) (sym named) by_op

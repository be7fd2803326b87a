-- What the messages of one round leave as it was, and what they add.
use Rattle.std.proofs.Common.{◌≡◌, inr, ℕ, ◌+◌, ◌==◌, ◌&&◌, ◌≤◌, Bool, true, false, List, [], ◌∷◌, map, Some, refl, sym, ap, ◌∙◌, subst, arith}
use Rattle.std.specs.List.{cons_option}
use Rattle.std.proofs.lemmas.Bool.{and_from}
use Rattle.mega_base.specs.declared.names.OpId.{OpId}
use Rattle.mega_ballot.specs.declared.ballot.Ballot.{Ballot}
use Rattle.mega_ballot.specs.Order.{zero_ballot}
use Rattle.mega_cluster.specs.declared.cluster.Cluster.{Cluster}
use Rattle.mega_entry.specs.declared.content.Content.{Content}
use Rattle.mega_wire.specs.declared.message.Message.{Message}
use Rattle.mega_wire.specs.declared.message.Body.{Body}
use Rattle.mega_wire.specs.declared.message.Body.TheVariants.{Accept, Accepted, Prepare}
use Rattle.mega_wal.specs.Same.{same_group, same_op}
use Rattle.mega_wal.proofs.Sames.{same_group_self, same_op_self}
use Rattle.mega_tape_laws.specs.of_transcript.declared.item.Item.{Item}
use Rattle.mega_tape_laws.specs.of_transcript.declared.item.Item.TheVariants.{Sent}
use Rattle.mega_tape_laws.specs.of_promises.Promises.{Stands}
use Rattle.mega_tape_laws.specs.of_read.of_propose.Members.{has}
use Rattle.mega_tape_laws.specs.of_read.of_propose.Rounds.{accept_to, prepare_to}
use Rattle.mega_tape_laws.specs.Places.{IsAbove, Move, Place, Prepares, Proposes, Took, is_move_at, move_if, move_in, moves, newest}
use Rattle.mega_tape_laws.specs.Lawful.{Heard, IsOwn, Lawful, Leads, Picked, lowest, named, spreads, picks, raises, repeats, resends}
use Rattle.mega_tape_laws.proofs.Ballots.{number_self}
use Rattle.mega_run_laws.specs.Justified.{AreOfRound, IsWithin, OfRound, here, sent}

-- what stood stands
abbrev pub Stood : List Item → List Item → Type 0
Stood old new = (item : Item) → Stands item old → Stands item new

pub stood_sent : (n : ℕ) (ms : List Message) (tape : List Item) → Stood tape (sent n ms tape)
stood_sent n [] tape item s = s
stood_sent n (m ∷ ms) tape item s = stood_sent (n + 1) ms (Sent n m ∷ tape) item (inr s)

pub took_on : (old new : List Item) → Stood old new → (m : Message) → Took old m → Took new m
took_on old new s m t = record { number = t.number; sent = s _ t.sent; taken = s _ t.taken }

pub leads_on : (c : Cluster) (old new : List Item) → Stood old new → (node : ℕ) (p : Place) (leader : ℕ) → Leads c old node p leader → Leads c new node p leader
leads_on c old new s node p leader (lowest first is) = lowest first is
leads_on c old new s node p leader (named below entry above next stands is) = named below entry above next (s _ stands) is

pub moves_here : (op : OpId) (p : Place) → is_move_at op p op p.group p.position ≡ true
moves_here op p = and_from (same_op op op && same_group p.group p.group) (p.position.0 == p.position.0) (and_from (same_op op op) (same_group p.group p.group) (same_op_self op) (same_group_self p.group)) (number_self p.position.0)

pub accept_moves : (c : Cluster) (op : OpId) (p : Place) (asked : List ℕ) (b : Ballot) (e : Content) (n to : ℕ) (tape : List Item)
    → moves (Sent n (accept_to (here c op p asked) b e to) ∷ tape) op p ≡ Proposes b e ∷ moves tape op p
accept_moves c op p asked b e n to tape = ap (λ t. cons_option (move_if t (Proposes b e)) (moves tape op p)) (moves_here op p)

pub prepare_moves : (c : Cluster) (op : OpId) (p : Place) (asked : List ℕ) (b : Ballot) (n to : ℕ) (tape : List Item)
    → moves (Sent n (prepare_to (here c op p asked) b to) ∷ tape) op p ≡ Prepares b ∷ moves tape op p
prepare_moves c op p asked b n to tape = ap (λ t. cons_option (move_if t (Prepares b)) (moves tape op p)) (moves_here op p)

pub within_more : (a b : ℕ) (ms : List Move) → a ≤ b → IsWithin a ms → IsWithin b ms
within_more a b [] le w = tt
within_more a b (move ∷ ms) le w = ((let first = w.0 in omega arith), within_more a b ms le w.1)

pub above_within : (seen : ℕ) (ms : List Move) → IsWithin seen ms → IsAbove (seen + 1) ms
above_within seen [] w = tt
above_within seen (move ∷ ms) w = ((let first = w.0 in omega arith), above_within seen ms w.1)

-- ---- other operations, other places, and what voters made

apart_if : (t : Bool) (move : Move) (ms : List Move) → t ≡ false → cons_option (move_if t move) ms ≡ ms
apart_if true move ms h = cc
apart_if false move ms h = refl

apart_one : (op : OpId) (p : Place) (o : OpId) (q : Place) (body : Body) (ms : List Move) → is_move_at o q op p.group p.position ≡ false → OfRound op p body → cons_option (move_in o q body) ms ≡ ms
apart_one op p o q (Accept own g n b e) ms h of =
    apart_if (is_move_at o q own g n) (Proposes b e) ms ((λ i. is_move_at o q (of.0 i) (of.1 i).group (of.1 i).position) ∙ h)
apart_one op p o q (Prepare own g n b) ms h of =
    apart_if (is_move_at o q own g n) (Prepares b) ms ((λ i. is_move_at o q (of.0 i) (of.1 i).group (of.1 i).position) ∙ h)
apart_one op p o q _ ms h of = refl

-- moves of another operation, or elsewhere, are as they were
pub moves_apart : (op : OpId) (p : Place) (o : OpId) (q : Place) (n : ℕ) (ms : List Message) (tape : List Item) → is_move_at o q op p.group p.position ≡ false → AreOfRound op p ms
    → moves (sent n ms tape) o q ≡ moves tape o q
moves_apart op p o q n [] tape h of = refl
moves_apart op p o q n (m ∷ ms) tape h of = moves_apart op p o q (n + 1) ms (Sent n m ∷ tape) h of.1 ∙ apart_one op p o q m.body (moves tape o q) h of.0

-- ---- a round's messages

-- prepares that repeat the newest move
prepared_again : (c : Cluster) (op : OpId) (p : Place) (asked : List ℕ) (b : Ballot) → IsOwn op b → (to : List ℕ) (n : ℕ) (tape : List Item) → newest (moves tape op p) ≡ Some (Prepares b)
    → (Lawful c tape → Lawful c (sent n (map (prepare_to (here c op p asked) b) to) tape)) × (newest (moves (sent n (map (prepare_to (here c op p asked) b) to) tape) op p) ≡ Some (Prepares b))
prepared_again c op p asked b own [] n tape last = (λ l. l, last)
prepared_again c op p asked b own (one ∷ to) n tape last =
    let next = prepared_again c op p asked b own to (n + 1) (Sent n (prepare_to (here c op p asked) b one) ∷ tape) (ap newest (prepare_moves c op p asked b n one tape)) in
    (λ l. next.0 (resends own last, l), next.1)

-- prepares of a new ballot
pub prepares_lawful : (c : Cluster) (op : OpId) (p : Place) (asked : List ℕ) (b : Ballot) → IsOwn op b → (to : List ℕ) (n : ℕ) (tape : List Item) → IsAbove b.round (moves tape op p)
    → Lawful c tape → Lawful c (sent n (map (prepare_to (here c op p asked) b) to) tape)
prepares_lawful c op p asked b own [] n tape above l = l
prepares_lawful c op p asked b own (one ∷ to) n tape above l =
    (prepared_again c op p asked b own to (n + 1) (Sent n (prepare_to (here c op p asked) b one) ∷ tape) (ap newest (prepare_moves c op p asked b n one tape))).0 (raises own above, l)

pub prepares_latest : (c : Cluster) (op : OpId) (p : Place) (asked : List ℕ) (b : Ballot) → IsOwn op b → (to : List ℕ) (n : ℕ) (tape : List Item) (voter : ℕ) → has voter to ≡ true
    → newest (moves (sent n (map (prepare_to (here c op p asked) b) to) tape) op p) ≡ Some (Prepares b)
prepares_latest c op p asked b own [] n tape voter h = cc
prepares_latest c op p asked b own (one ∷ to) n tape voter h =
    (prepared_again c op p asked b own to (n + 1) (Sent n (prepare_to (here c op p asked) b one) ∷ tape) (ap newest (prepare_moves c op p asked b n one tape))).1

pub prepares_within : (c : Cluster) (op : OpId) (p : Place) (asked : List ℕ) (b : Ballot) (seen : ℕ) → b.round ≤ seen → (to : List ℕ) (n : ℕ) (tape : List Item) → IsWithin seen (moves tape op p)
    → IsWithin seen (moves (sent n (map (prepare_to (here c op p asked) b) to) tape) op p)
prepares_within c op p asked b seen le [] n tape w = w
prepares_within c op p asked b seen le (one ∷ to) n tape w =
    prepares_within c op p asked b seen le to (n + 1) (Sent n (prepare_to (here c op p asked) b one) ∷ tape) (subst (IsWithin seen) (sym (prepare_moves c op p asked b n one tape)) (le, w))

pub accepts_within : (c : Cluster) (op : OpId) (p : Place) (asked : List ℕ) (b : Ballot) (e : Content) (seen : ℕ) → b.round ≤ seen → (to : List ℕ) (n : ℕ) (tape : List Item) → IsWithin seen (moves tape op p)
    → IsWithin seen (moves (sent n (map (accept_to (here c op p asked) b e) to) tape) op p)
accepts_within c op p asked b e seen le [] n tape w = w
accepts_within c op p asked b e seen le (one ∷ to) n tape w =
    accepts_within c op p asked b e seen le to (n + 1) (Sent n (accept_to (here c op p asked) b e one) ∷ tape) (subst (IsWithin seen) (sym (accept_moves c op p asked b e n one tape)) (le, w))

-- accepts that repeat the newest move
accepts_again : (c : Cluster) (op : OpId) (p : Place) (asked : List ℕ) (b : Ballot) (e : Content) → IsOwn op b → (to : List ℕ) (n : ℕ) (tape : List Item) → newest (moves tape op p) ≡ Some (Proposes b e)
    → Lawful c tape → Lawful c (sent n (map (accept_to (here c op p asked) b e) to) tape)
accepts_again c op p asked b e own [] n tape last l = l
accepts_again c op p asked b e own (one ∷ to) n tape last l =
    accepts_again c op p asked b e own to (n + 1) (Sent n (accept_to (here c op p asked) b e one) ∷ tape) (ap newest (accept_moves c op p asked b e n one tape)) (repeats own last, l)

-- accepts of what the promises report
pub accepts_lawful : (c : Cluster) (op : OpId) (p : Place) (asked : List ℕ) (b : Ballot) (e : Content) → IsOwn op b → (to : List ℕ) (n : ℕ) (tape : List Item) → newest (moves tape op p) ≡ Some (Prepares b)
    → Picked c tape op p b e → Lawful c tape → Lawful c (sent n (map (accept_to (here c op p asked) b e) to) tape)
accepts_lawful c op p asked b e own [] n tape last picked l = l
accepts_lawful c op p asked b e own (one ∷ to) n tape last picked l =
    accepts_again c op p asked b e own to (n + 1) (Sent n (accept_to (here c op p asked) b e one) ∷ tape) (ap newest (accept_moves c op p asked b e n one tape)) (picks own last picked, l)

-- accepts at ballot zero, once the leader was heard to accept
pub spreads_lawful : (c : Cluster) (op : OpId) (p : Place) (asked : List ℕ) (e : Content) (leader : ℕ) (to : List ℕ) (n : ℕ) (tape : List Item) → Leads c tape op.node.0 p leader
    → Heard tape leader op (Accepted op p.group p.position zero_ballot e) → Lawful c tape → Lawful c (sent n (map (accept_to (here c op p asked) zero_ballot e) to) tape)
spreads_lawful c op p asked e leader [] n tape leads heard l = l
spreads_lawful c op p asked e leader (one ∷ to) n tape leads heard l =
    spreads_lawful c op p asked e leader to (n + 1) (Sent n (accept_to (here c op p asked) zero_ballot e one) ∷ tape)
    (leads_on c tape (Sent n (accept_to (here c op p asked) zero_ballot e one) ∷ tape) (λ item s. inr s) op.node.0 p leader leads)
    (took_on tape (Sent n (accept_to (here c op p asked) zero_ballot e one) ∷ tape) (λ item s. inr s) _ heard)
    (spreads leader refl leads heard, l)

pub all_of : (op : OpId) (p : Place) (f : ℕ → Message) → ((to : ℕ) → OfRound op p (f to).body) → (nodes : List ℕ) → AreOfRound op p (map f nodes)
all_of op p f h [] = tt
all_of op p f h (node ∷ nodes) = (h node, all_of op p f h nodes)

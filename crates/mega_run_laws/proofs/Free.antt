-- Messages that make nothing, move nothing and are of no poll: anyone may send them.
use Rattle.std.proofs.Common.{◌≡◌, ℕ, ◌+◌, ◌||◌, false, List, [], ◌∷◌, ◌++◌, map, flat_map, refl, sym, ap, ◌∙◌, subst}
use Rattle.std.specs.List.{cons_option}
use Rattle.mega_base.specs.declared.names.OpId.{OpId}
use Rattle.mega_cluster.specs.declared.cluster.Cluster.{Cluster}
use Rattle.mega_wire.specs.declared.message.Message.{Message}
use Rattle.mega_wire.specs.declared.message.Body.{Body}
use Rattle.mega_wire.specs.declared.message.Body.TheVariants.{Accept, Accepted, Refused, Prepare, Promise, Decide, Have, Top, Where}
use Rattle.mega_tape_laws.specs.of_transcript.declared.item.Item.{Item}
use Rattle.mega_tape_laws.specs.of_transcript.declared.item.Item.TheVariants.{Sent}
use Rattle.mega_tape_laws.specs.of_read.of_propose.declared.round.Proposal.{Proposal}
use Rattle.mega_tape_laws.specs.Places.{Place, move_in, moves, Move}
use Rattle.mega_tape_laws.specs.Lawful.{Lawful, MaySend}
use Rattle.mega_tape_laws.specs.Polls.{has_asked, is_asking}
use Rattle.mega_run_laws.specs.Justified.{AreOfRound, Each, Goes, IsWithin, Knows, Latest, OfRound, sent}

abbrev pub IsFree : Body → Type 0
IsFree (Accept o g n b e) = ⊥
IsFree (Accepted o g n b e) = ⊥
IsFree (Refused o g n asked shown e) = ⊥
IsFree (Prepare o g n b) = ⊥
IsFree (Promise o g n b report) = ⊥
IsFree (Decide g n e) = ⊥
IsFree (Have o g n e) = ⊥
IsFree (Where o g) = ⊥
IsFree (Top o g n) = ⊥
IsFree _ = Unit {0}

abbrev pub AreFree : List Message → Type 0
AreFree ms = Each (λ (m : Message). IsFree m.body) ms

pub free_allowed : (c : Cluster) (tape : List Item) (m : Message) (body : Body) → IsFree body → MaySend c tape m body
free_allowed c tape m (Accept o g n b e) h = absurd h
free_allowed c tape m (Accepted o g n b e) h = absurd h
free_allowed c tape m (Refused o g n asked shown e) h = absurd h
free_allowed c tape m (Prepare o g n b) h = absurd h
free_allowed c tape m (Promise o g n b report) h = absurd h
free_allowed c tape m (Decide g n e) h = absurd h
free_allowed c tape m (Have o g n e) h = absurd h
free_allowed c tape m _ h = tt

free_round : (op : OpId) (p : Place) (body : Body) → IsFree body → OfRound op p body
free_round op p (Accept o g n b e) h = absurd h
free_round op p (Accepted o g n b e) h = absurd h
free_round op p (Prepare o g n b) h = absurd h
free_round op p (Promise o g n b report) h = absurd h
free_round op p (Where o g) h = absurd h
free_round op p (Top o g n) h = absurd h
free_round op p _ h = tt

free_move : (o : OpId) (q : Place) (body : Body) (ms : List Move) → IsFree body → cons_option (move_in o q body) ms ≡ ms
free_move o q (Accept own g n b e) ms h = absurd h
free_move o q (Prepare own g n b) ms h = absurd h
free_move o q _ ms h = refl

free_ask : (x : OpId) (body : Body) → IsFree body → is_asking x body ≡ false
free_ask x (Where o g) h = absurd h
free_ask x _ h = refl

pub free_asked : (x : OpId) (n : ℕ) (ms : List Message) (tape : List Item) → AreFree ms → has_asked (sent n ms tape) x ≡ has_asked tape x
free_asked x n [] tape h = refl
free_asked x n (m ∷ ms) tape h = free_asked x (n + 1) ms (Sent n m ∷ tape) h.1 ∙ ap (λ t. t || has_asked tape x) (free_ask x m.body h.0)

pub free_lawful : (c : Cluster) (n : ℕ) (ms : List Message) (tape : List Item) → AreFree ms → Lawful c tape → Lawful c (sent n ms tape)
free_lawful c n [] tape h l = l
free_lawful c n (m ∷ ms) tape h l = free_lawful c (n + 1) ms (Sent n m ∷ tape) h.1 (free_allowed c tape m m.body h.0, l)

pub free_moves : (o : OpId) (q : Place) (n : ℕ) (ms : List Message) (tape : List Item) → AreFree ms → moves (sent n ms tape) o q ≡ moves tape o q
free_moves o q n [] tape h = refl
free_moves o q n (m ∷ ms) tape h = free_moves o q (n + 1) ms (Sent n m ∷ tape) h.1 ∙ free_move o q m.body (moves tape o q) h.0

pub free_of : (op : OpId) (p : Place) (ms : List Message) → AreFree ms → AreOfRound op p ms
free_of op p [] h = tt
free_of op p (m ∷ ms) h = (free_round op p m.body h.0, free_of op p ms h.1)

pub each_of : (P : Body → Type 0) (f : ℕ → Message) → ((to : ℕ) → P (f to).body) → (nodes : List ℕ) → Each (λ (m : Message). P m.body) (map f nodes)
each_of P f h [] = tt
each_of P f h (node ∷ nodes) = (h node, each_of P f h nodes)

pub each_both : (P : Body → Type 0) (xs ys : List Message) → Each (λ (m : Message). P m.body) xs → Each (λ (m : Message). P m.body) ys → Each (λ (m : Message). P m.body) (xs ++ ys)
each_both P [] ys a b = b
each_both P (x ∷ xs) ys a b = (a.0, each_both P xs ys a.1 b)

pub each_flat : {X : Type 0} (P : Body → Type 0) (f : X → List Message) → ((x : X) → Each (λ (m : Message). P m.body) (f x)) → (xs : List X) → Each (λ (m : Message). P m.body) (flat_map f xs)
each_flat P f h [] = tt
each_flat P f h (x ∷ xs) = each_both P (f x) (flat_map f xs) (h x) (each_flat P f h xs)

-- a round that sends only such messages
pub goes_free : (c : Cluster) (tape : List Item) (op : OpId) (p : Place) (proposal : Proposal) (ms : List Message) → AreFree ms
    → IsWithin proposal.seen (moves tape op p) → Knows c tape op p proposal.round → Latest c (moves tape op p) proposal.round
    → Goes c tape op p (record { proposal = proposal; sends = ms })
goes_free c tape op p proposal ms free w k l = record {
  own = free_of op p ms free;
  lawful = λ n law. free_lawful c n ms tape free law;
  within = λ n. subst (IsWithin proposal.seen) (sym (free_moves op p n ms tape free)) w;
  knows = k;
  latest = λ n. subst (λ moved. Latest c moved proposal.round) (sym (free_moves op p n ms tape free)) l;
}

pub goes_still : (c : Cluster) (tape : List Item) (op : OpId) (p : Place) (proposal : Proposal)
    → IsWithin proposal.seen (moves tape op p) → Knows c tape op p proposal.round → Latest c (moves tape op p) proposal.round
    → Goes c tape op p (record { proposal = proposal; sends = [] })
goes_still c tape op p proposal w k l = goes_free c tape op p proposal [] tt w k l

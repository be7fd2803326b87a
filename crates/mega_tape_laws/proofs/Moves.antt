-- What one operation moved at a place, where the rule of a proposer allowed each move.
use Rattle.std.proofs.Common.{◌≡◌, ◌⊎◌, inl, inr, ◌<◌, List, [], ◌∷◌, Some, sym, ap, ◌∙◌, subst, arith}
use Rattle.mega_base.specs.declared.names.OpId.{OpId}
use Rattle.mega_ballot.specs.declared.ballot.Ballot.{Ballot}
use Rattle.mega_ballot.specs.Order.{zero_ballot}
use Rattle.mega_entry.specs.declared.content.Content.{Content}
use Rattle.mega_tape_laws.specs.Places.{In, IsAbove, Move, Prepares, Proposes, newest, round_of}
use Rattle.mega_tape_laws.specs.Lawful.{IsOwn}
use Rattle.mega_tape_laws.proofs.Lists.{some_is}

abbrev pub AllowedMove : OpId → List Move → Move → Type 0
AllowedMove op moved (Prepares b) = IsOwn op b × (IsAbove b.round moved ⊎ (newest moved ≡ Some (Prepares b)))
AllowedMove op moved (Proposes b e) = (b ≡ zero_ballot) ⊎ (IsOwn op b × ((newest moved ≡ Some (Prepares b)) ⊎ (newest moved ≡ Some (Proposes b e))))

abbrev pub LawfulMoves : OpId → List Move → Type 0
LawfulMoves op [] = Unit {0}
LawfulMoves op (move ∷ moved) = AllowedMove op moved move × LawfulMoves op moved

prepares_is : (b d : Ballot) → Some (Prepares b) ≡ Some (Prepares d) → b ≡ d
prepares_is b d h = cc

entry_is : (b : Ballot) (e f : Content) → Proposes b e ≡ Proposes b f → e ≡ f
entry_is b e f h = cc

pub newest_in : (moved : List Move) (move : Move) → newest moved ≡ Some move → In move moved
newest_in [] move h = cc
newest_in (first ∷ moved) move h = inl (some_is first move h)

-- a round above all moves is above each
above_each : (moved : List Move) (b : Ballot) → IsAbove b.round moved → (e : Content) → In (Proposes b e) moved → ⊥
above_each [] b h e i = absurd i
above_each (first ∷ moved) b h e (inl same) = let less = h.0 in let is = ap round_of same in omega arith
above_each (first ∷ moved) b h e (inr i) = above_each moved b h.1 e i

-- while a ballot is being prepared, nothing was proposed at it
pub fresh : (op : OpId) (moved : List Move) → LawfulMoves op moved → (b : Ballot) (e : Content) → newest moved ≡ Some (Prepares b) → In (Proposes b e) moved → ⊥
fresh op [] l b e h i = absurd i
fresh op (Proposes d f ∷ moved) l b e h i = cc
fresh op (Prepares d ∷ moved) l b e h (inl same) = cc
fresh op (Prepares d ∷ moved) l b e h (inr i) = elim (l.0).1 [
  | inl above ↦ above_each moved b (subst (λ (x : Ballot). IsAbove x.round moved) (prepares_is d b h) above) e i
  | inr again ↦ fresh op moved l.1 b e (again ∙ h) i
]

-- an operation proposes one entry at a ballot above zero
after_one : (op : OpId) (moved : List Move) → LawfulMoves op moved → (b : Ballot) (e f : Content) → 0 < b.round → AllowedMove op moved (Proposes b e) → In (Proposes b f) moved
    → (In (Proposes b e) moved → e ≡ f) → e ≡ f
after_one op moved l b e f above (inl z) i earlier = absurd (let is = ap (λ (x : Ballot). x.round) z in omega arith)
after_one op moved l b e f above (inr (o, inl h)) i earlier = absurd (fresh op moved l b f h i)
after_one op moved l b e f above (inr (o, inr h)) i earlier = earlier (newest_in moved (Proposes b e) h)

pub one_proposal : (op : OpId) (moved : List Move) → LawfulMoves op moved → (b : Ballot) (e f : Content) → 0 < b.round → In (Proposes b e) moved → In (Proposes b f) moved → e ≡ f
one_proposal op [] l b e f above i j = absurd i
one_proposal op (first ∷ moved) l b e f above (inl x) (inl y) = entry_is b e f (sym x ∙ y)
one_proposal op (first ∷ moved) l b e f above (inl x) (inr j) = after_one op moved l.1 b e f above (subst (AllowedMove op moved) x l.0) j (λ i. one_proposal op moved l.1 b e f above i j)
one_proposal op (first ∷ moved) l b e f above (inr i) (inl y) = sym (after_one op moved l.1 b f e above (subst (AllowedMove op moved) y l.0) i (λ j. one_proposal op moved l.1 b f e above j i))
one_proposal op (first ∷ moved) l b e f above (inr i) (inr j) = one_proposal op moved l.1 b e f above i j

-- a ballot at which an operation proposes is zero, or names it
pub own_or_zero : (op : OpId) (moved : List Move) → LawfulMoves op moved → (b : Ballot) (e : Content) → In (Proposes b e) moved → (b ≡ zero_ballot) ⊎ IsOwn op b
own_or_zero op [] l b e i = absurd i
own_or_zero op (first ∷ moved) l b e (inl x) = go (subst (AllowedMove op moved) x l.0)
  where
    go : AllowedMove op moved (Proposes b e) → (b ≡ zero_ballot) ⊎ IsOwn op b
    go (inl z) = inl z
    go (inr h) = inr h.0
own_or_zero op (first ∷ moved) l b e (inr i) = own_or_zero op moved l.1 b e i

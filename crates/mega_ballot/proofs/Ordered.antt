-- The order of ballots is total.
use Rattle.std.proofs.Common.{◌≡◌, ℕ, ◌+◌, ◌<◌, ◌≤◌, ◌⊎◌, inl, inr, refl, sym, ◌∙◌, ap, arith}
use Rattle.std.proofs.lemmas.Bool.{cases_lt}
use Rattle.mega_base.specs.declared.names.OpId.{OpId}
use Rattle.mega_ballot.specs.declared.ballot.Ballot.{Ballot}
use Rattle.mega_ballot.specs.Ballots.{zero_op}
use Rattle.mega_ballot.specs.Order.{IsOpBelow, IsBelow, zero_ballot}

op_irreflexive : (a : OpId) → IsOpBelow a a → ⊥
op_irreflexive a (inl h) = omega arith
op_irreflexive a (inr (e, inl h)) = omega arith
op_irreflexive a (inr (e, inr (f, h))) = omega arith

pub irreflexive : (a : Ballot) → IsBelow a a → ⊥
irreflexive a (inl h) = omega arith
irreflexive a (inr (e, h)) = op_irreflexive a.op h

op_transitive : (a b c : OpId) → IsOpBelow a b → IsOpBelow b c → IsOpBelow a c
op_transitive a b c (inl h) (inl k) = inl (omega arith)
op_transitive a b c (inl h) (inr (e, k)) = inl (omega arith)
op_transitive a b c (inr (e, h)) (inl k) = inl (omega arith)
op_transitive a b c (inr (e, inl h)) (inr (f, inl k)) = inr (omega arith, inl (omega arith))
op_transitive a b c (inr (e, inl h)) (inr (f, inr (g, k))) = inr (omega arith, inl (omega arith))
op_transitive a b c (inr (e, inr (i, h))) (inr (f, inl k)) = inr (omega arith, inl (omega arith))
op_transitive a b c (inr (e, inr (i, h))) (inr (f, inr (g, k))) = inr (omega arith, inr (omega arith, omega arith))

pub transitive : (a b c : Ballot) → IsBelow a b → IsBelow b c → IsBelow a c
transitive a b c (inl h) (inl k) = inl (omega arith)
transitive a b c (inl h) (inr (e, k)) = inl (omega arith)
transitive a b c (inr (e, h)) (inl k) = inl (omega arith)
transitive a b c (inr (e, h)) (inr (f, k)) = inr (omega arith, op_transitive a.op b.op c.op h k)

-- three cases of two numbers
order : (m n : ℕ) → (m < n) ⊎ (m ≡ n) ⊎ (n < m)
order m n = elim (cases_lt m n) [ inl h ↦ inl h | inr h ↦ elim (cases_lt n m) [ inl k ↦ inr (inr k) | inr k ↦ inr (inl (omega arith)) ] ]

same_op : (a b : OpId) → a.node.0 ≡ b.node.0 → a.start ≡ b.start → a.number ≡ b.number → a ≡ b
same_op a b e f g =
    let node : ℕ → OpId = λ n. record { node = record { 0 = n }; start = a.start; number = a.number } in
    let start : ℕ → OpId = λ n. record { node = b.node; start = n; number = a.number } in
    let number : ℕ → OpId = λ n. record { node = b.node; start = b.start; number = n } in
    ap node e ∙ (ap start f ∙ ap number g)

op_total : (a b : OpId) → IsOpBelow a b ⊎ (a ≡ b) ⊎ IsOpBelow b a
op_total a b = elim (order a.node.0 b.node.0) [
  | inl h ↦ inl (inl h)
  | inr h ↦ elim h [
    | inl e ↦ elim (order a.start b.start) [
      | inl k ↦ inl (inr (e, inl k))
      | inr k ↦ elim k [
        | inl f ↦ elim (order a.number b.number) [
          | inl l ↦ inl (inr (e, inr (f, l)))
          | inr l ↦ elim l [ inl g ↦ inr (inl (same_op a b e f g)) | inr m ↦ inr (inr (inr (sym e, inr (sym f, m)))) ]
        ]
        | inr l ↦ inr (inr (inr (sym e, inl l)))
      ]
    ]
    | inr k ↦ inr (inr (inl k))
  ]
]

pub total : (a b : Ballot) → IsBelow a b ⊎ (a ≡ b) ⊎ IsBelow b a
total a b = elim (order a.round b.round) [
  | inl h ↦ inl (inl h)
  | inr h ↦ elim h [
    | inl e ↦ elim (op_total a.op b.op) [
      | inl k ↦ inl (inr (e, k))
      | inr k ↦ elim k [
        | inl f ↦ inr (inl (same a b e f))
        | inr l ↦ inr (inr (inr (sym e, l)))
      ]
    ]
    | inr k ↦ inr (inr (inl k))
  ]
]
  where
    same : (c d : Ballot) → c.round ≡ d.round → c.op ≡ d.op → c ≡ d
    same c d e f =
        let round : ℕ → Ballot = λ n. record { round = n; op = c.op } in
        let op : OpId → Ballot = λ o. record { round = d.round; op = o } in
        ap round e ∙ ap op f

pub zero_least : (b : Ballot) → (b ≡ zero_ballot) ⊎ IsBelow zero_ballot b
zero_least b = elim (total b zero_ballot) [
  | inl h ↦ absurd (none b h)
  | inr h ↦ h
]
  where
    op_none : (a : OpId) → IsOpBelow a zero_op → ⊥
    op_none a (inl h) = omega arith
    op_none a (inr (e, inl h)) = omega arith
    op_none a (inr (e, inr (f, h))) = omega arith

    none : (a : Ballot) → IsBelow a zero_ballot → ⊥
    none a (inl h) = omega arith
    none a (inr (e, h)) = op_none a.op h

-- Two majorities share a member, by counting.
use Rattle.std.proofs.Common.{◌≡◌, ℕ, zero, suc, ◌+◌, ◌-◌, ◌*◌, ◌<◌, ◌≤◌, Bool, true, false, cond, List, [], ◌∷◌, length, refl, sym, ◌∙◌, ap, subst, inl, inr, arith, get_or}
use Rattle.std.specs.Prelude.{count_by}
use Rattle.std.proofs.lemmas.List.Sums.{sum_by-cons}
use Rattle.mega_ballot.specs.Quorums.{Votes, IsMarked, marked, AreAmong, IsSound, IsReached}

-- one for a mark
count_of : Bool → ℕ
count_of true = 1
count_of false = 0

marked-cons : (b : Bool) (marks : List Bool) → marked (b ∷ marks) ≡ count_of b + marked marks
unfolding count_of
marked-cons true marks = sum_by-cons (λ x. cond x 1 0) true marks
marked-cons false marks = sum_by-cons (λ x. cond x 1 0) false marks

after : (m : Bool) (marks : List Bool) (n : Bool) (members : List Bool) → AreAmong (m ∷ marks) (n ∷ members) → AreAmong marks members
after m marks n members h = λ k e. h (suc k) e

count_one : (b : Bool) → b ≡ true → count_of b ≡ 1
unfolding count_of
count_one true e = refl
count_one false e = absurd (cc)

meet : (members a b : List Bool) → length a ≡ length members → length b ≡ length members → AreAmong a members → AreAmong b members → marked members < marked a + marked b
    → (k : ℕ) × (get_or a k false ≡ true) × (get_or b k false ≡ true)
unfolding count_of
meet [] [] [] e f g h more = absurd (omega arith)
meet [] (y ∷ a) b e f g h more = absurd (omega arith)
meet [] [] (z ∷ b) e f g h more = absurd (omega arith)
meet (x ∷ members) [] b e f g h more = absurd (omega arith)
meet (x ∷ members) (y ∷ a) [] e f g h more = absurd (omega arith)
meet (x ∷ members) (true ∷ a) (true ∷ b) e f g h more = (0, refl, refl)
meet (x ∷ members) (true ∷ a) (false ∷ b) e f g h more =
    let rest = meet members a b (omega arith) (omega arith) (after true a x members g) (after false b x members h)
    (omega (arith, more, marked-cons x members, marked-cons true a, marked-cons false b, count_one x (g 0 refl))) in
    (suc rest.0, rest.1, rest.2)
meet (x ∷ members) (false ∷ a) (true ∷ b) e f g h more =
    let rest = meet members a b (omega arith) (omega arith) (after false a x members g) (after true b x members h)
    (omega (arith, more, marked-cons x members, marked-cons false a, marked-cons true b, count_one x (h 0 refl))) in
    (suc rest.0, rest.1, rest.2)
meet (x ∷ members) (false ∷ a) (false ∷ b) e f g h more =
    let rest = meet members a b (omega arith) (omega arith) (after false a x members g) (after false b x members h)
    (omega (arith, more, marked-cons x members, marked-cons false a, marked-cons false b)) in
    (suc rest.0, rest.1, rest.2)

pub majorities_share : (a b : Votes) → IsSound a.members a.voted → IsSound b.members b.voted → a.members ≡ b.members → IsReached a → IsReached b → (node : ℕ) × IsMarked a.voted node × IsMarked b.voted node
majorities_share a b s t e f g =
    let among : AreAmong b.voted a.members = subst (λ (m : List Bool). AreAmong b.voted m) (sym e) t.among in
    let shared = meet a.members a.voted b.voted (omega (arith, s.sixteen_members, s.sixteen_votes)) (omega (arith, s.sixteen_members, t.sixteen_votes)) s.among among (omega (arith, f, g, ap marked e)) in
    let same : shared.0 + 1 - 1 ≡ shared.0 = omega arith in
    (shared.0 + 1, (omega arith, rw same shared.1), (omega arith, rw same shared.2))

-- The laws of this format.
use Rattle.std.proofs.Common.{◌≡◌, ℕ, ◌≤◌, ◌<◌, ◌^◌, Bool, true, false, List, ◌++◌, refl, sym, ◌∙◌, ap, subst, arith}
use Rattle.std.specs.Prelude.{◌==◌, if◌then◌else◌, ◌≢◌}
use Rattle.std.proofs.lemmas.Bool.Decides.{nat_tests}
use Rattle.std.proofs.lemmas.Bool.{cases_lt}
use Rattle.mega_base.specs.Reading.{Place, Read, ◌>>=◌, byte_in, number_in}
use Rattle.mega_base.specs.Codec.{Codec, IsText, IsBetween, one_byte}
use Rattle.mega_base.specs.Names.{u32_at, u32_text, IsU32, op_at, op_text, IsOp}
use Rattle.mega_base.specs.NameLaws.{u32_codec, op_codec}
use Rattle.mega_base.specs.Codecs.{byte_codec, then_codec, map_codec, fits_codec, if_codec}
use Rattle.mega_base.specs.Digits.{number_codec}
use Rattle.mega_base.specs.declared.names.OpId.{OpId}
use Rattle.mega_ballot.specs.declared.ballot.Ballot.{Ballot}
use Rattle.mega_ballot.specs.Ballots.{zero_op_at, ballot_at, ballot_text, zero_op, IsBallot}

zero_op_codec : Codec zero_op_at op_text (IsText op_text (λ op. op ≡ zero_op)) (λ op. op ≡ zero_op)
unfolding zero_op_at
zero_op_codec =
    fits_codec zero_op_at op_text _ (λ op. op ≡ zero_op)
    (then_codec (byte_in 0 0) one_byte (IsBetween 0 0) _ _ _ (λ (op : OpId). op.node.0) (byte_codec 0 0 (omega arith))
    (λ node f. then_codec (number_in 4 0 0) u32_text (IsBetween 0 0) _ _ _ (λ (op : OpId). op.start) (number_codec 4 0 0 (omega arith) (omega arith))
    (λ start f. map_codec (number_in 4 0 0) u32_text (IsBetween 0 0) (λ number. record { node = record { 0 = node }; start = start; number = number }) (λ (op : OpId). op.number) (number_codec 4 0 0 (omega arith) (omega arith)) (λ number. refl))
    (λ start op f g. ap (λ (o : OpId). o.start) (sym g.1))
    (λ start f. (record { node = record { 0 = node }; start = start; number = 0 }, ((omega arith, omega arith), refl))))
    (λ node op f g. ap (λ (o : OpId). o.node.0) (sym g.1.1))
    (λ node f. (record { node = record { 0 = node }; start = 0; number = 0 }, ((omega arith, omega arith), ((omega arith, omega arith), refl)))))
    (λ op f. same op (omega (arith, f.0.1)) (omega (arith, f.1.0.1)) (omega (arith, f.1.1.0.1)))
    (λ op e. let a : op.node.0 ≡ 0 = ap (λ (o : OpId). o.node.0) e in let b : op.start ≡ 0 = ap (λ (o : OpId). o.start) e in let c : op.number ≡ 0 = ap (λ (o : OpId). o.number) e in
    ((omega arith, omega arith), ((omega arith, omega arith), ((omega arith, omega arith), refl))))
  where
    same : (op : OpId) → op.node.0 ≡ 0 → op.start ≡ 0 → op.number ≡ 0 → op ≡ zero_op
    same op a b c =
        let f : ℕ → OpId = λ n. record { node = record { 0 = n }; start = op.start; number = op.number } in
        let g : ℕ → OpId = λ n. record { node = record { 0 = 0 }; start = n; number = op.number } in
        let h : ℕ → OpId = λ n. record { node = record { 0 = 0 }; start = 0; number = n } in
        ap f a ∙ (ap g b ∙ ap h c)

-- an operation of a ballot of that round
abbrev OfRound : ℕ → OpId → Type 0
OfRound round op = IsOp op × (round ≡ 0 → op ≡ zero_op)

is_zero_op : (op : OpId) → op ≡ zero_op → IsOp op
is_zero_op op e = subst (λ (o : OpId). IsOp o) (sym e) ((omega arith, omega arith), (omega arith, omega arith), (omega arith, omega arith))

round_codec : (round : ℕ) → Codec (λ p. if round == 0 then zero_op_at p else op_at p) op_text (IsText op_text (OfRound round)) (OfRound round)
round_codec round =
    if_codec (round == 0) zero_op_at op_at op_text (IsText op_text (OfRound round)) (OfRound round)
    (λ e. fits_codec zero_op_at op_text (λ op. op ≡ zero_op) (OfRound round) zero_op_codec (λ op f. (is_zero_op op f, λ _. f)) (λ op f. f.1 (is_zero e)))
    (λ e. fits_codec op_at op_text IsOp (OfRound round) op_codec (λ op f. (f, λ k. absurd (not_zero e k))) (λ op f. f.0))
  where
    is_zero : (round == 0) ≡ true → round ≡ 0
    is_zero e = grind (arith, nat_tests)

    not_zero : (round == 0) ≡ false → round ≢ 0
    not_zero e = grind (arith, nat_tests)

pub ballot_codec : Codec ballot_at ballot_text (IsText ballot_text IsBallot) IsBallot
unfolding ballot_at
ballot_codec =
    fits_codec ballot_at ballot_text _ IsBallot
    (then_codec u32_at u32_text IsU32 _ _ _ (λ (b : Ballot). b.round) u32_codec
    (λ round f. map_codec (λ p. if round == 0 then zero_op_at p else op_at p) op_text (OfRound round) (λ op. record { round = round; op = op }) (λ (b : Ballot). b.op) (round_codec round) (λ op. refl))
    (λ round b f g. ap (λ (x : Ballot). x.round) (sym g.1))
    (λ round f. (record { round = round; op = zero_op }, ((is_zero_op zero_op refl, λ _. refl), refl))))
    (λ b f. record { round = f.0; op = f.1.0.0; lowest = f.1.0.1 })
    (λ b f. (f.round, ((f.op, f.lowest), refl)))

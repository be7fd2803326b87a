-- The laws of this format.
use Rattle.std.proofs.Common.{◌≡◌, ℕ, zero, ◌+◌, ◌≤◌, Bool, true, false, List, [], ◌∷◌, ◌++◌, length, refl, sym, ◌∙◌, ap, subst, Ok, Option, Some, None, arith}
use Rattle.std.specs.Prelude.{◌==◌, if◌then◌else◌, ◌≢◌}
use Rattle.std.proofs.lemmas.Bool.{eqb-false}
use Rattle.std.proofs.lemmas.Bool.Decides.{nat_tests}
use Rattle.mega_base.specs.Reading.{Place, Read, ◌>>=◌, byte_in, option_at}
use Rattle.mega_base.specs.Pairs.{pair_at, pair_text, IsPair, OpensPair}
use Rattle.mega_base.specs.Codec.{Codec, IsBetween, one_byte, option_text, IsOption, bytes_text, nested_text, IsNested, OpensNested}
use Rattle.mega_base.specs.Names.{u64_at, u64_text, IsU64, IsNode, position_text, IsPositionIn, IsEpoch, op_at, op_text, IsOp, string_at, IsString, group_text, IsGroup}
use Rattle.mega_base.specs.NameLaws.{u64_codec, position_codec, op_codec, string_codec}
use Rattle.mega_base.specs.Codecs.{byte_codec, bind_codec, refit_codec}
use Rattle.mega_base.specs.Digits.{number_codec}
use Rattle.mega_base.specs.Lists.{option_codec}
use Rattle.mega_base.specs.declared.names.NodeId.{NodeId}
use Rattle.mega_base.specs.declared.names.Position.{Position}
use Rattle.mega_base.specs.declared.names.Epoch.{Epoch}
use Rattle.mega_base.specs.declared.names.OpId.{OpId}
use Rattle.mega_base.specs.declared.names.GroupId.{GroupId}
use Rattle.mega_ballot.specs.Ballots.{ballot_at, ballot_text, zero_op, IsBallot}
use Rattle.mega_ballot.specs.BallotLaws.{ballot_codec}
use Rattle.mega_ballot.specs.declared.ballot.Ballot.{Ballot}
use Rattle.mega_entry.specs.Entries.{entry_text, IsEntry}
use Rattle.mega_entry.specs.Formats.{Format, Open, both, before, embed_open, if_open, open_of}
use Rattle.mega_entry.specs.FieldFormats.{entry_open, epoch_format, group_format, node_format, position_format, shown_entry}
use Rattle.mega_entry.specs.declared.content.Content.{Content}
use Rattle.mega_wire.specs.declared.message.Message.{Message}
use Rattle.mega_wire.specs.declared.message.Body.{Body}
use Rattle.mega_wire.specs.declared.message.Body.TheVariants.{Where, Top, Accept, Accepted, Refused, Prepare, Promise, Invalidate, Invalidated, Dead, Held, Unheld, Decide, Fetch, Have, HaveNot, Acquire, Granted, Past, Request, Reply}
use Rattle.mega_wire.specs.Messages.{top_position_at, cell_at, clock_at, entry_field_at, accept_fields, acquire_fields, dead_fields, decide_fields, have_fields, invalidate_fields, past_fields, prepare_fields, promise_fields, refused_fields, request_fields, top_fields, where_fields, body_of, kind_of, body_with, IsBodyWith, body_text, IsBody, least_from, greatest_from, least_to, greatest_to, addressed_at, kinded_at, mark_at, message_at, message_text, IsMessageWith, IsMessage, OpensMessage}

-- the formats of the fields
op_format : Format op_at op_text IsOp
op_format = record { codec = op_codec; some = zero_op; fits = ((omega arith, omega arith), (omega arith, omega arith), (omega arith, omega arith)) }

top_position_format : Format top_position_at position_text (IsPositionIn 0 1000000)
top_position_format = record { codec = position_codec 0 1000000 (omega arith) (omega arith); some = record { 0 = 1 }; fits = (omega arith, omega arith) }

ballot_format : Format ballot_at ballot_text IsBallot
ballot_format = record {
  codec = ballot_codec;
  some = record { round = 0; op = zero_op };
  fits = record {
    round = (omega arith, omega arith);
    op = ((omega arith, omega arith), (omega arith, omega arith), (omega arith, omega arith));
    lowest = λ e. refl;
  };
}

cell_format : Format cell_at one_byte (IsBetween 1 5)
cell_format = record { codec = byte_codec 1 5 (omega arith); some = 1; fits = (omega arith, omega arith) }

clock_format : Format clock_at u64_text (IsBetween 0 1000000000000)
clock_format = record { codec = number_codec 8 0 1000000000000 (omega arith) (omega arith); some = 0; fits = (omega arith, omega arith) }

token_format : Format u64_at u64_text IsU64
token_format = record { codec = u64_codec; some = 0; fits = (omega arith, omega arith) }

string_format : Format string_at bytes_text IsString
string_format = record { codec = string_codec; some = []; fits = (omega arith, omega arith) }

abbrev OpensOption : List ℕ → Type 0
OpensOption text = (o : Option Content) × (n : ℕ) × (n ≤ 65536) × IsOption IsEntry o × (option_text (shown_entry n) o ≡ text)

option_open : Open (option_at entry_field_at) (option_text (nested_text entry_text)) OpensOption (IsOption (IsNested 65536 entry_text IsEntry))
option_open = record {
  codec = option_codec entry_field_at (nested_text entry_text) (OpensNested 65536 entry_text IsEntry) OpensOption (IsNested 65536 entry_text IsEntry) entry_open.codec
      (None, 0, omega arith, tt, refl) (λ t w. (Some w.1, w.0, w.2, w.3, ap (λ l. 1 ∷ l) w.4)) entry_open.some entry_open.shown;
  some = 0 ∷ [];
  shown = (None, 0, omega arith, tt, refl);
}

abbrev OpensVote : List ℕ → Type 0
OpensVote text = (o : Option (Ballot × Content)) × (n : ℕ) × (n ≤ 65536) × IsOption (IsPair IsBallot IsEntry) o × (option_text (pair_text ballot_text (shown_entry n)) o ≡ text)

vote_open : Open (option_at (pair_at ballot_at entry_field_at)) (option_text (pair_text ballot_text (nested_text entry_text))) OpensVote (IsOption (IsPair IsBallot (IsNested 65536 entry_text IsEntry)))
vote_open =
    let pair = before ballot_format entry_open in record {
      codec = option_codec (pair_at ballot_at entry_field_at) (pair_text ballot_text (nested_text entry_text)) (OpensPair ballot_text IsBallot (OpensNested 65536 entry_text IsEntry)) OpensVote (IsPair IsBallot (IsNested 65536 entry_text IsEntry)) pair.codec
          (None, 0, omega arith, tt, refl)
          (λ t w. (Some (w.0, w.3.1), w.3.0, w.3.2, (w.2, w.3.3), ap (λ l. 1 ∷ l) (ap (λ l. ballot_text w.0 ++ l) w.3.4 ∙ w.4)))
          pair.some pair.shown;
      some = 0 ∷ [];
      shown = (None, 0, omega arith, tt, refl);
    }

-- a body of that kind that fits, and the texts that open one
abbrev IsOfKind : ℕ → Body → Type 0
IsOfKind kind body = (kind_of body ≡ kind) × IsBody body

abbrev OpensBody : ℕ → List ℕ → Type 0
OpensBody kind text = (body : Body) × (n : ℕ) × (n ≤ 65536) × (kind_of body ≡ kind) × IsBodyWith IsEntry body × (body_with (shown_entry n) body ≡ text)

where_open : Open (λ p. where_fields p >>= λ x. Ok (Where x.0.0 x.0.1, x.1)) body_text (OpensBody 1) (IsOfKind 1)
where_open = embed_open (open_of (both op_format group_format)) (λ x. Where x.0 x.1) body_text (OpensBody 1) (IsOfKind 1)
    (λ x f. (refl, (refl, f)))
    (λ l w. (Where w.0.0 w.0.1, 0, omega arith, refl, w.1, w.2))
    back
  where
    back : (body : Body) → IsOfKind 1 body → (x : OpId × GroupId) × (IsPair IsOp IsGroup x) × (Where x.0 x.1 ≡ body)
    back (Where op group) h = ((op, group), h.1, refl)
    back _ h = absurd (omega (arith, h.0))

top_open : Open (λ p. top_fields p >>= λ x. Ok (Top x.0.0 x.0.1.0 x.0.1.1, x.1)) body_text (OpensBody 2) (IsOfKind 2)
top_open = embed_open (open_of (both op_format (both group_format top_position_format))) (λ x. Top x.0 x.1.0 x.1.1) body_text (OpensBody 2) (IsOfKind 2)
    (λ x f. (refl, (refl, f)))
    (λ l w. (Top w.0.0 w.0.1.0 w.0.1.1, 0, omega arith, refl, w.1, w.2))
    back
  where
    back : (body : Body) → IsOfKind 2 body → (x : OpId × (GroupId × Position)) × (IsPair IsOp (IsPair IsGroup (IsPositionIn 0 1000000)) x) × (Top x.0 x.1.0 x.1.1 ≡ body)
    back (Top op group position) h = ((op, (group, position)), h.1, refl)
    back _ h = absurd (omega (arith, h.0))

accept_open : Open (λ p. accept_fields p >>= λ x. Ok (Accept x.0.0 x.0.1.0 x.0.1.1.0 x.0.1.1.1.0 x.0.1.1.1.1, x.1)) body_text (OpensBody 3) (IsOfKind 3)
accept_open = embed_open (before op_format (before group_format (before position_format (before ballot_format entry_open)))) (λ x. Accept x.0 x.1.0 x.1.1.0 x.1.1.1.0 x.1.1.1.1) body_text (OpensBody 3) (IsOfKind 3)
    (λ x f. (refl, (refl, f)))
    (λ l w. (Accept w.0 w.3.0 w.3.3.0 w.3.3.3.0 w.3.3.3.3.1, w.3.3.3.3.0, w.3.3.3.3.2, refl, (w.2, (w.3.2, (w.3.3.2, (w.3.3.3.2, w.3.3.3.3.3)))), (ap (λ t. op_text w.0 ++ t) (ap (λ t. group_text w.3.0 ++ t) (ap (λ t. position_text w.3.3.0 ++ t) (ap (λ t. ballot_text w.3.3.3.0 ++ t) w.3.3.3.3.4 ∙ w.3.3.3.4) ∙ w.3.3.4) ∙ w.3.4) ∙ w.4)))
    back
  where
    back : (body : Body) → IsOfKind 3 body → (x : OpId × (GroupId × (Position × (Ballot × Content)))) × (IsPair IsOp (IsPair IsGroup (IsPair (IsPositionIn 1 1000000) (IsPair IsBallot ((IsNested 65536 entry_text IsEntry))))) x) × (Accept x.0 x.1.0 x.1.1.0 x.1.1.1.0 x.1.1.1.1 ≡ body)
    back (Accept op group position ballot entry) h = ((op, (group, (position, (ballot, entry)))), h.1, refl)
    back _ h = absurd (omega (arith, h.0))

accepted_open : Open (λ p. accept_fields p >>= λ x. Ok (Accepted x.0.0 x.0.1.0 x.0.1.1.0 x.0.1.1.1.0 x.0.1.1.1.1, x.1)) body_text (OpensBody 4) (IsOfKind 4)
accepted_open = embed_open (before op_format (before group_format (before position_format (before ballot_format entry_open)))) (λ x. Accepted x.0 x.1.0 x.1.1.0 x.1.1.1.0 x.1.1.1.1) body_text (OpensBody 4) (IsOfKind 4)
    (λ x f. (refl, (refl, f)))
    (λ l w. (Accepted w.0 w.3.0 w.3.3.0 w.3.3.3.0 w.3.3.3.3.1, w.3.3.3.3.0, w.3.3.3.3.2, refl, (w.2, (w.3.2, (w.3.3.2, (w.3.3.3.2, w.3.3.3.3.3)))), (ap (λ t. op_text w.0 ++ t) (ap (λ t. group_text w.3.0 ++ t) (ap (λ t. position_text w.3.3.0 ++ t) (ap (λ t. ballot_text w.3.3.3.0 ++ t) w.3.3.3.3.4 ∙ w.3.3.3.4) ∙ w.3.3.4) ∙ w.3.4) ∙ w.4)))
    back
  where
    back : (body : Body) → IsOfKind 4 body → (x : OpId × (GroupId × (Position × (Ballot × Content)))) × (IsPair IsOp (IsPair IsGroup (IsPair (IsPositionIn 1 1000000) (IsPair IsBallot ((IsNested 65536 entry_text IsEntry))))) x) × (Accepted x.0 x.1.0 x.1.1.0 x.1.1.1.0 x.1.1.1.1 ≡ body)
    back (Accepted op group position ballot entry) h = ((op, (group, (position, (ballot, entry)))), h.1, refl)
    back _ h = absurd (omega (arith, h.0))

refused_open : Open (λ p. refused_fields p >>= λ x. Ok (Refused x.0.0 x.0.1.0 x.0.1.1.0 x.0.1.1.1.0 x.0.1.1.1.1.0 x.0.1.1.1.1.1, x.1)) body_text (OpensBody 5) (IsOfKind 5)
refused_open = embed_open (before op_format (before group_format (before position_format (before ballot_format (before ballot_format option_open))))) (λ x. Refused x.0 x.1.0 x.1.1.0 x.1.1.1.0 x.1.1.1.1.0 x.1.1.1.1.1) body_text (OpensBody 5) (IsOfKind 5)
    (λ x f. (refl, (refl, f)))
    (λ l w. (Refused w.0 w.3.0 w.3.3.0 w.3.3.3.0 w.3.3.3.3.0 w.3.3.3.3.3.0, w.3.3.3.3.3.1, w.3.3.3.3.3.2, refl, (w.2, (w.3.2, (w.3.3.2, (w.3.3.3.2, (w.3.3.3.3.2, w.3.3.3.3.3.3))))), (ap (λ t. op_text w.0 ++ t) (ap (λ t. group_text w.3.0 ++ t) (ap (λ t. position_text w.3.3.0 ++ t) (ap (λ t. ballot_text w.3.3.3.0 ++ t) (ap (λ t. ballot_text w.3.3.3.3.0 ++ t) w.3.3.3.3.3.4 ∙ w.3.3.3.3.4) ∙ w.3.3.3.4) ∙ w.3.3.4) ∙ w.3.4) ∙ w.4)))
    back
  where
    back : (body : Body) → IsOfKind 5 body → (x : OpId × (GroupId × (Position × (Ballot × (Ballot × (Option Content)))))) × (IsPair IsOp (IsPair IsGroup (IsPair (IsPositionIn 1 1000000) (IsPair IsBallot (IsPair IsBallot ((IsOption (IsNested 65536 entry_text IsEntry))))))) x) × (Refused x.0 x.1.0 x.1.1.0 x.1.1.1.0 x.1.1.1.1.0 x.1.1.1.1.1 ≡ body)
    back (Refused op group position asked shown entry) h = ((op, (group, (position, (asked, (shown, entry))))), h.1, refl)
    back _ h = absurd (omega (arith, h.0))

prepare_open : Open (λ p. prepare_fields p >>= λ x. Ok (Prepare x.0.0 x.0.1.0 x.0.1.1.0 x.0.1.1.1, x.1)) body_text (OpensBody 6) (IsOfKind 6)
prepare_open = embed_open (open_of (both op_format (both group_format (both position_format ballot_format)))) (λ x. Prepare x.0 x.1.0 x.1.1.0 x.1.1.1) body_text (OpensBody 6) (IsOfKind 6)
    (λ x f. (refl, (refl, f)))
    (λ l w. (Prepare w.0.0 w.0.1.0 w.0.1.1.0 w.0.1.1.1, 0, omega arith, refl, w.1, w.2))
    back
  where
    back : (body : Body) → IsOfKind 6 body → (x : OpId × (GroupId × (Position × Ballot))) × (IsPair IsOp (IsPair IsGroup (IsPair (IsPositionIn 1 1000000) IsBallot)) x) × (Prepare x.0 x.1.0 x.1.1.0 x.1.1.1 ≡ body)
    back (Prepare op group position ballot) h = ((op, (group, (position, ballot))), h.1, refl)
    back _ h = absurd (omega (arith, h.0))

promise_open : Open (λ p. promise_fields p >>= λ x. Ok (Promise x.0.0 x.0.1.0 x.0.1.1.0 x.0.1.1.1.0 x.0.1.1.1.1, x.1)) body_text (OpensBody 7) (IsOfKind 7)
promise_open = embed_open (before op_format (before group_format (before position_format (before ballot_format vote_open)))) (λ x. Promise x.0 x.1.0 x.1.1.0 x.1.1.1.0 x.1.1.1.1) body_text (OpensBody 7) (IsOfKind 7)
    (λ x f. (refl, (refl, f)))
    (λ l w. (Promise w.0 w.3.0 w.3.3.0 w.3.3.3.0 w.3.3.3.3.0, w.3.3.3.3.1, w.3.3.3.3.2, refl, (w.2, (w.3.2, (w.3.3.2, (w.3.3.3.2, w.3.3.3.3.3)))), (ap (λ t. op_text w.0 ++ t) (ap (λ t. group_text w.3.0 ++ t) (ap (λ t. position_text w.3.3.0 ++ t) (ap (λ t. ballot_text w.3.3.3.0 ++ t) w.3.3.3.3.4 ∙ w.3.3.3.4) ∙ w.3.3.4) ∙ w.3.4) ∙ w.4)))
    back
  where
    back : (body : Body) → IsOfKind 7 body → (x : OpId × (GroupId × (Position × (Ballot × (Option (Ballot × Content)))))) × (IsPair IsOp (IsPair IsGroup (IsPair (IsPositionIn 1 1000000) (IsPair IsBallot ((IsOption (IsPair IsBallot (IsNested 65536 entry_text IsEntry))))))) x) × (Promise x.0 x.1.0 x.1.1.0 x.1.1.1.0 x.1.1.1.1 ≡ body)
    back (Promise op group position ballot accepted) h = ((op, (group, (position, (ballot, accepted)))), h.1, refl)
    back _ h = absurd (omega (arith, h.0))

invalidate_open : Open (λ p. invalidate_fields p >>= λ x. Ok (Invalidate x.0.0 x.0.1.0 x.0.1.1, x.1)) body_text (OpensBody 8) (IsOfKind 8)
invalidate_open = embed_open (open_of (both op_format (both group_format position_format))) (λ x. Invalidate x.0 x.1.0 x.1.1) body_text (OpensBody 8) (IsOfKind 8)
    (λ x f. (refl, (refl, f)))
    (λ l w. (Invalidate w.0.0 w.0.1.0 w.0.1.1, 0, omega arith, refl, w.1, w.2))
    back
  where
    back : (body : Body) → IsOfKind 8 body → (x : OpId × (GroupId × Position)) × (IsPair IsOp (IsPair IsGroup (IsPositionIn 1 1000000)) x) × (Invalidate x.0 x.1.0 x.1.1 ≡ body)
    back (Invalidate op group position) h = ((op, (group, position)), h.1, refl)
    back _ h = absurd (omega (arith, h.0))

invalidated_open : Open (λ p. invalidate_fields p >>= λ x. Ok (Invalidated x.0.0 x.0.1.0 x.0.1.1, x.1)) body_text (OpensBody 9) (IsOfKind 9)
invalidated_open = embed_open (open_of (both op_format (both group_format position_format))) (λ x. Invalidated x.0 x.1.0 x.1.1) body_text (OpensBody 9) (IsOfKind 9)
    (λ x f. (refl, (refl, f)))
    (λ l w. (Invalidated w.0.0 w.0.1.0 w.0.1.1, 0, omega arith, refl, w.1, w.2))
    back
  where
    back : (body : Body) → IsOfKind 9 body → (x : OpId × (GroupId × Position)) × (IsPair IsOp (IsPair IsGroup (IsPositionIn 1 1000000)) x) × (Invalidated x.0 x.1.0 x.1.1 ≡ body)
    back (Invalidated op group position) h = ((op, (group, position)), h.1, refl)
    back _ h = absurd (omega (arith, h.0))

dead_open : Open (λ p. dead_fields p >>= λ x. Ok (Dead x.0.0 x.0.1.0 x.0.1.1, x.1)) body_text (OpensBody 10) (IsOfKind 10)
dead_open = embed_open (open_of (both op_format (both cell_format node_format))) (λ x. Dead x.0 x.1.0 x.1.1) body_text (OpensBody 10) (IsOfKind 10)
    (λ x f. (refl, (refl, f)))
    (λ l w. (Dead w.0.0 w.0.1.0 w.0.1.1, 0, omega arith, refl, w.1, w.2))
    back
  where
    back : (body : Body) → IsOfKind 10 body → (x : OpId × (ℕ × NodeId)) × (IsPair IsOp (IsPair (IsBetween 1 5) IsNode) x) × (Dead x.0 x.1.0 x.1.1 ≡ body)
    back (Dead op cell node) h = ((op, (cell, node)), h.1, refl)
    back _ h = absurd (omega (arith, h.0))

held_open : Open (λ p. dead_fields p >>= λ x. Ok (Held x.0.0 x.0.1.0 x.0.1.1, x.1)) body_text (OpensBody 11) (IsOfKind 11)
held_open = embed_open (open_of (both op_format (both cell_format node_format))) (λ x. Held x.0 x.1.0 x.1.1) body_text (OpensBody 11) (IsOfKind 11)
    (λ x f. (refl, (refl, f)))
    (λ l w. (Held w.0.0 w.0.1.0 w.0.1.1, 0, omega arith, refl, w.1, w.2))
    back
  where
    back : (body : Body) → IsOfKind 11 body → (x : OpId × (ℕ × NodeId)) × (IsPair IsOp (IsPair (IsBetween 1 5) IsNode) x) × (Held x.0 x.1.0 x.1.1 ≡ body)
    back (Held op cell node) h = ((op, (cell, node)), h.1, refl)
    back _ h = absurd (omega (arith, h.0))

unheld_open : Open (λ p. dead_fields p >>= λ x. Ok (Unheld x.0.0 x.0.1.0 x.0.1.1, x.1)) body_text (OpensBody 12) (IsOfKind 12)
unheld_open = embed_open (open_of (both op_format (both cell_format node_format))) (λ x. Unheld x.0 x.1.0 x.1.1) body_text (OpensBody 12) (IsOfKind 12)
    (λ x f. (refl, (refl, f)))
    (λ l w. (Unheld w.0.0 w.0.1.0 w.0.1.1, 0, omega arith, refl, w.1, w.2))
    back
  where
    back : (body : Body) → IsOfKind 12 body → (x : OpId × (ℕ × NodeId)) × (IsPair IsOp (IsPair (IsBetween 1 5) IsNode) x) × (Unheld x.0 x.1.0 x.1.1 ≡ body)
    back (Unheld op cell node) h = ((op, (cell, node)), h.1, refl)
    back _ h = absurd (omega (arith, h.0))

decide_open : Open (λ p. decide_fields p >>= λ x. Ok (Decide x.0.0 x.0.1.0 x.0.1.1, x.1)) body_text (OpensBody 13) (IsOfKind 13)
decide_open = embed_open (before group_format (before position_format entry_open)) (λ x. Decide x.0 x.1.0 x.1.1) body_text (OpensBody 13) (IsOfKind 13)
    (λ x f. (refl, (refl, f)))
    (λ l w. (Decide w.0 w.3.0 w.3.3.1, w.3.3.0, w.3.3.2, refl, (w.2, (w.3.2, w.3.3.3)), (ap (λ t. group_text w.0 ++ t) (ap (λ t. position_text w.3.0 ++ t) w.3.3.4 ∙ w.3.4) ∙ w.4)))
    back
  where
    back : (body : Body) → IsOfKind 13 body → (x : GroupId × (Position × Content)) × (IsPair IsGroup (IsPair (IsPositionIn 1 1000000) ((IsNested 65536 entry_text IsEntry))) x) × (Decide x.0 x.1.0 x.1.1 ≡ body)
    back (Decide group position entry) h = ((group, (position, entry)), h.1, refl)
    back _ h = absurd (omega (arith, h.0))

fetch_open : Open (λ p. invalidate_fields p >>= λ x. Ok (Fetch x.0.0 x.0.1.0 x.0.1.1, x.1)) body_text (OpensBody 14) (IsOfKind 14)
fetch_open = embed_open (open_of (both op_format (both group_format position_format))) (λ x. Fetch x.0 x.1.0 x.1.1) body_text (OpensBody 14) (IsOfKind 14)
    (λ x f. (refl, (refl, f)))
    (λ l w. (Fetch w.0.0 w.0.1.0 w.0.1.1, 0, omega arith, refl, w.1, w.2))
    back
  where
    back : (body : Body) → IsOfKind 14 body → (x : OpId × (GroupId × Position)) × (IsPair IsOp (IsPair IsGroup (IsPositionIn 1 1000000)) x) × (Fetch x.0 x.1.0 x.1.1 ≡ body)
    back (Fetch op group position) h = ((op, (group, position)), h.1, refl)
    back _ h = absurd (omega (arith, h.0))

have_open : Open (λ p. have_fields p >>= λ x. Ok (Have x.0.0 x.0.1.0 x.0.1.1.0 x.0.1.1.1, x.1)) body_text (OpensBody 15) (IsOfKind 15)
have_open = embed_open (before op_format (before group_format (before position_format entry_open))) (λ x. Have x.0 x.1.0 x.1.1.0 x.1.1.1) body_text (OpensBody 15) (IsOfKind 15)
    (λ x f. (refl, (refl, f)))
    (λ l w. (Have w.0 w.3.0 w.3.3.0 w.3.3.3.1, w.3.3.3.0, w.3.3.3.2, refl, (w.2, (w.3.2, (w.3.3.2, w.3.3.3.3))), (ap (λ t. op_text w.0 ++ t) (ap (λ t. group_text w.3.0 ++ t) (ap (λ t. position_text w.3.3.0 ++ t) w.3.3.3.4 ∙ w.3.3.4) ∙ w.3.4) ∙ w.4)))
    back
  where
    back : (body : Body) → IsOfKind 15 body → (x : OpId × (GroupId × (Position × Content))) × (IsPair IsOp (IsPair IsGroup (IsPair (IsPositionIn 1 1000000) ((IsNested 65536 entry_text IsEntry)))) x) × (Have x.0 x.1.0 x.1.1.0 x.1.1.1 ≡ body)
    back (Have op group position entry) h = ((op, (group, (position, entry))), h.1, refl)
    back _ h = absurd (omega (arith, h.0))

have_not_open : Open (λ p. invalidate_fields p >>= λ x. Ok (HaveNot x.0.0 x.0.1.0 x.0.1.1, x.1)) body_text (OpensBody 16) (IsOfKind 16)
have_not_open = embed_open (open_of (both op_format (both group_format position_format))) (λ x. HaveNot x.0 x.1.0 x.1.1) body_text (OpensBody 16) (IsOfKind 16)
    (λ x f. (refl, (refl, f)))
    (λ l w. (HaveNot w.0.0 w.0.1.0 w.0.1.1, 0, omega arith, refl, w.1, w.2))
    back
  where
    back : (body : Body) → IsOfKind 16 body → (x : OpId × (GroupId × Position)) × (IsPair IsOp (IsPair IsGroup (IsPositionIn 1 1000000)) x) × (HaveNot x.0 x.1.0 x.1.1 ≡ body)
    back (HaveNot op group position) h = ((op, (group, position)), h.1, refl)
    back _ h = absurd (omega (arith, h.0))

acquire_open : Open (λ p. acquire_fields p >>= λ x. Ok (Acquire x.0.0 x.0.1.0 x.0.1.1, x.1)) body_text (OpensBody 17) (IsOfKind 17)
acquire_open = embed_open (open_of (both cell_format (both epoch_format clock_format))) (λ x. Acquire x.0 x.1.0 x.1.1) body_text (OpensBody 17) (IsOfKind 17)
    (λ x f. (refl, (refl, f)))
    (λ l w. (Acquire w.0.0 w.0.1.0 w.0.1.1, 0, omega arith, refl, w.1, w.2))
    back
  where
    back : (body : Body) → IsOfKind 17 body → (x : ℕ × (Epoch × ℕ)) × (IsPair (IsBetween 1 5) (IsPair IsEpoch (IsBetween 0 1000000000000)) x) × (Acquire x.0 x.1.0 x.1.1 ≡ body)
    back (Acquire cell epoch clock) h = ((cell, (epoch, clock)), h.1, refl)
    back _ h = absurd (omega (arith, h.0))

granted_open : Open (λ p. acquire_fields p >>= λ x. Ok (Granted x.0.0 x.0.1.0 x.0.1.1, x.1)) body_text (OpensBody 18) (IsOfKind 18)
granted_open = embed_open (open_of (both cell_format (both epoch_format clock_format))) (λ x. Granted x.0 x.1.0 x.1.1) body_text (OpensBody 18) (IsOfKind 18)
    (λ x f. (refl, (refl, f)))
    (λ l w. (Granted w.0.0 w.0.1.0 w.0.1.1, 0, omega arith, refl, w.1, w.2))
    back
  where
    back : (body : Body) → IsOfKind 18 body → (x : ℕ × (Epoch × ℕ)) × (IsPair (IsBetween 1 5) (IsPair IsEpoch (IsBetween 0 1000000000000)) x) × (Granted x.0 x.1.0 x.1.1 ≡ body)
    back (Granted cell epoch clock) h = ((cell, (epoch, clock)), h.1, refl)
    back _ h = absurd (omega (arith, h.0))

past_open : Open (λ p. past_fields p >>= λ x. Ok (Past x.0.0 x.0.1.0 x.0.1.1, x.1)) body_text (OpensBody 19) (IsOfKind 19)
past_open = embed_open (open_of (both cell_format (both epoch_format epoch_format))) (λ x. Past x.0 x.1.0 x.1.1) body_text (OpensBody 19) (IsOfKind 19)
    (λ x f. (refl, (refl, f)))
    (λ l w. (Past w.0.0 w.0.1.0 w.0.1.1, 0, omega arith, refl, w.1, w.2))
    back
  where
    back : (body : Body) → IsOfKind 19 body → (x : ℕ × (Epoch × Epoch)) × (IsPair (IsBetween 1 5) (IsPair IsEpoch IsEpoch) x) × (Past x.0 x.1.0 x.1.1 ≡ body)
    back (Past cell asked greatest) h = ((cell, (asked, greatest)), h.1, refl)
    back _ h = absurd (omega (arith, h.0))

request_open : Open (λ p. request_fields p >>= λ x. Ok (Request x.0.0 x.0.1, x.1)) body_text (OpensBody 20) (IsOfKind 20)
request_open = embed_open (open_of (both token_format string_format)) (λ x. Request x.0 x.1) body_text (OpensBody 20) (IsOfKind 20)
    (λ x f. (refl, (refl, f)))
    (λ l w. (Request w.0.0 w.0.1, 0, omega arith, refl, w.1, w.2))
    back
  where
    back : (body : Body) → IsOfKind 20 body → (x : ℕ × (List ℕ)) × (IsPair IsU64 IsString x) × (Request x.0 x.1 ≡ body)
    back (Request token json) h = ((token, json), h.1, refl)
    back _ h = absurd (omega (arith, h.0))

reply_open : Open (λ p. request_fields p >>= λ x. Ok (Reply x.0.0 x.0.1, x.1)) body_text (OpensBody 21) (IsOfKind 21)
reply_open = embed_open (open_of (both token_format string_format)) (λ x. Reply x.0 x.1) body_text (OpensBody 21) (IsOfKind 21)
    (λ x f. (refl, (refl, f)))
    (λ l w. (Reply w.0.0 w.0.1, 0, omega arith, refl, w.1, w.2))
    back
  where
    back : (body : Body) → IsOfKind 21 body → (x : ℕ × (List ℕ)) × (IsPair IsU64 IsString x) × (Reply x.0 x.1 ≡ body)
    back (Reply token text) h = ((token, text), h.1, refl)
    back _ h = absurd (omega (arith, h.0))

-- the kind that was tested
at_kind : (k n : ℕ) {r : Place → Read Body} → (k == n) ≡ true → Open r body_text (OpensBody n) (IsOfKind n) → Open r body_text (OpensBody k) (IsOfKind k)
at_kind k n {r = r} e c = let same : n ≡ k = grind (arith, nat_tests) in subst (λ (m : ℕ). Open r body_text (OpensBody m) (IsOfKind m)) same c

body_open : (k : ℕ) → IsBetween 1 21 k → Open (body_of k) body_text (OpensBody k) (IsOfKind k)
unfolding body_of
body_open k f =
    if_open (k == 1) (λ e. at_kind k 1 e where_open) (λ n1.
    if_open (k == 2) (λ e. at_kind k 2 e top_open) (λ n2.
    if_open (k == 3) (λ e. at_kind k 3 e accept_open) (λ n3.
    if_open (k == 4) (λ e. at_kind k 4 e accepted_open) (λ n4.
    if_open (k == 5) (λ e. at_kind k 5 e refused_open) (λ n5.
    if_open (k == 6) (λ e. at_kind k 6 e prepare_open) (λ n6.
    if_open (k == 7) (λ e. at_kind k 7 e promise_open) (λ n7.
    if_open (k == 8) (λ e. at_kind k 8 e invalidate_open) (λ n8.
    if_open (k == 9) (λ e. at_kind k 9 e invalidated_open) (λ n9.
    if_open (k == 10) (λ e. at_kind k 10 e dead_open) (λ n10.
    if_open (k == 11) (λ e. at_kind k 11 e held_open) (λ n11.
    if_open (k == 12) (λ e. at_kind k 12 e unheld_open) (λ n12.
    if_open (k == 13) (λ e. at_kind k 13 e decide_open) (λ n13.
    if_open (k == 14) (λ e. at_kind k 14 e fetch_open) (λ n14.
    if_open (k == 15) (λ e. at_kind k 15 e have_open) (λ n15.
    if_open (k == 16) (λ e. at_kind k 16 e have_not_open) (λ n16.
    if_open (k == 17) (λ e. at_kind k 17 e acquire_open) (λ n17.
    if_open (k == 18) (λ e. at_kind k 18 e granted_open) (λ n18.
    if_open (k == 19) (λ e. at_kind k 19 e past_open) (λ n19.
    if_open (k == 20) (λ e. at_kind k 20 e request_open) (λ n20.
    subst (λ (m : ℕ). Open (λ p. request_fields p >>= λ x. Ok (Reply x.0.0 x.0.1, x.1)) body_text (OpensBody m) (IsOfKind m)) (last_kind k f (eqb-false k 1 n1) (eqb-false k 2 n2) (eqb-false k 3 n3) (eqb-false k 4 n4) (eqb-false k 5 n5) (eqb-false k 6 n6) (eqb-false k 7 n7) (eqb-false k 8 n8) (eqb-false k 9 n9) (eqb-false k 10 n10) (eqb-false k 11 n11) (eqb-false k 12 n12) (eqb-false k 13 n13) (eqb-false k 14 n14) (eqb-false k 15 n15) (eqb-false k 16 n16) (eqb-false k 17 n17) (eqb-false k 18 n18) (eqb-false k 19 n19) (eqb-false k 20 n20)) reply_open))))))))))))))))))))
  where
    last_kind : (k : ℕ) → IsBetween 1 21 k → k ≢ 1 → k ≢ 2 → k ≢ 3 → k ≢ 4 → k ≢ 5 → k ≢ 6 → k ≢ 7 → k ≢ 8 → k ≢ 9 → k ≢ 10 → k ≢ 11 → k ≢ 12 → k ≢ 13 → k ≢ 14 → k ≢ 15 → k ≢ 16 → k ≢ 17 → k ≢ 18 → k ≢ 19 → k ≢ 20 → 21 ≡ k
    last_kind k f n1 n2 n3 n4 n5 n6 n7 n8 n9 n10 n11 n12 n13 n14 n15 n16 n17 n18 n19 n20 = omega (arith, f.0, f.1)

-- a message of that kind, after its kind
abbrev after_kind : (Content → List ℕ) → Message → List ℕ
after_kind entry_field m = m.from ∷ m.to ∷ body_with entry_field m.body

abbrev addressed_text : Message → List ℕ
addressed_text m = after_kind (nested_text entry_text) m

abbrev IsAddressed : ℕ → Message → Type 0
IsAddressed kind m = (kind_of m.body ≡ kind) × IsMessage m

abbrev OpensAddressed : ℕ → List ℕ → Type 0
OpensAddressed kind text = (m : Message) × (n : ℕ) × (n ≤ 65536) × (kind_of m.body ≡ kind) × IsMessageWith IsEntry m × (after_kind (shown_entry n) m ≡ text)

range_of : (b : Bool) → IsBetween (if b then 0 else 1) (if b then 0 else 9) (if b then 0 else 1)
range_of true = (omega arith, omega arith)
range_of false = (omega arith, omega arith)

byte_format : (low high : ℕ) → low ≤ high → Format (byte_in low high) one_byte (IsBetween low high)
byte_format low high h = record { codec = byte_codec low high h; some = low; fits = (omega arith, h) }

addressed_open : (k : ℕ) → IsBetween 1 21 k → Open (addressed_at k) addressed_text (OpensAddressed k) (IsAddressed k)
unfolding addressed_at
addressed_open k f =
    embed_open (before (byte_format (least_from k) (greatest_from k) (range_of (k == 20)).1) (before (byte_format (least_to k) (greatest_to k) (range_of (k == 21)).1) (body_open k f)))
    (λ x. made x.0 x.1.0 x.1.1) addressed_text (OpensAddressed k) (IsAddressed k)
    (λ x g. (refl, (g.1.1.0, fits_with (IsNested 65536 entry_text IsEntry) x.0 x.1.0 x.1.1 g.0 g.1.0 g.1.1.0 g.1.1.1)))
    (λ l w. (
      made w.0 w.3.0 w.3.3.0,
      w.3.3.1,
      w.3.3.2,
      w.3.3.3,
      fits_with IsEntry w.0 w.3.0 w.3.3.0 w.2 w.3.2 w.3.3.3 w.3.3.4,
      ap (λ t. w.0 ∷ t) (ap (λ t. w.3.0 ∷ t) w.3.3.5 ∙ w.3.4) ∙ w.4,
    ))
    (λ m g. ((m.from, (m.to, m.body)), (back_from m g, (back_to m g, (g.0, g.1.body))), refl))
  where
    made : ℕ → ℕ → Body → Message
    made from to body = record { from = from; to = to; body = body }

    fits_with : (P : Content → Type 0) (from to : ℕ) (body : Body) → IsBetween (least_from k) (greatest_from k) from → IsBetween (least_to k) (greatest_to k) to → kind_of body ≡ k → IsBodyWith P body → IsMessageWith P (made from to body)
    fits_with P from to body g h e b = record {
      from = subst (λ (kind : ℕ). IsBetween (least_from kind) (greatest_from kind) from) (sym e) g;
      to = subst (λ (kind : ℕ). IsBetween (least_to kind) (greatest_to kind) to) (sym e) h;
      body = b;
    }

    back_from : (m : Message) → IsAddressed k m → IsBetween (least_from k) (greatest_from k) m.from
    back_from m g = subst (λ (kind : ℕ). IsBetween (least_from kind) (greatest_from kind) m.from) g.0 g.1.from

    back_to : (m : Message) → IsAddressed k m → IsBetween (least_to k) (greatest_to k) m.to
    back_to m g = subst (λ (kind : ℕ). IsBetween (least_to kind) (greatest_to kind) m.to) g.0 g.1.to

abbrev kinded_text : Message → List ℕ
kinded_text m = kind_of m.body ∷ addressed_text m

abbrev OpensKinded : List ℕ → Type 0
OpensKinded text = (m : Message) × (n : ℕ) × (n ≤ 65536) × IsMessageWith IsEntry m × (kind_of m.body ∷ after_kind (shown_entry n) m ≡ text)

kinded_open : Open kinded_at kinded_text OpensKinded IsMessage
unfolding kinded_at
kinded_open = record {
  codec = bind_codec (byte_in 1 21) one_byte (IsBetween 1 21) addressed_at (λ k. addressed_text) OpensAddressed IsAddressed
      kinded_text OpensKinded IsMessage
      (byte_codec 1 21 (omega arith))
      (λ k f. (addressed_open k f).codec)
      (λ k m f g. (ap (λ z. z ∷ addressed_text m) g.0, g.1))
      (λ k t f w. (w.0, w.1, w.2, w.4, ap (λ z. z ∷ after_kind (shown_entry w.1) w.0) w.3 ∙ ap (λ l. k ∷ l) w.5))
      (λ m g. (kind_of m.body, kinds m.body, (refl, g)))
      (λ k f. let c = addressed_open k f in (c.some, c.shown));
  some = 1 ∷ (addressed_open 1 (omega arith, omega arith)).some;
  shown = let w = (addressed_open 1 (omega arith, omega arith)).shown in (w.0, w.1, w.2, w.4, ap (λ z. z ∷ after_kind (shown_entry w.1) w.0) w.3 ∙ ap (λ l. 1 ∷ l) w.5);
}
  where
    kinds : (body : Body) → IsBetween 1 21 (kind_of body)
    kinds (Where op group) = (omega arith, omega arith)
    kinds (Top op group position) = (omega arith, omega arith)
    kinds (Accept op group position ballot entry) = (omega arith, omega arith)
    kinds (Accepted op group position ballot entry) = (omega arith, omega arith)
    kinds (Refused op group position asked shown entry) = (omega arith, omega arith)
    kinds (Prepare op group position ballot) = (omega arith, omega arith)
    kinds (Promise op group position ballot accepted) = (omega arith, omega arith)
    kinds (Invalidate op group position) = (omega arith, omega arith)
    kinds (Invalidated op group position) = (omega arith, omega arith)
    kinds (Dead op cell node) = (omega arith, omega arith)
    kinds (Held op cell node) = (omega arith, omega arith)
    kinds (Unheld op cell node) = (omega arith, omega arith)
    kinds (Decide group position entry) = (omega arith, omega arith)
    kinds (Fetch op group position) = (omega arith, omega arith)
    kinds (Have op group position entry) = (omega arith, omega arith)
    kinds (HaveNot op group position) = (omega arith, omega arith)
    kinds (Acquire cell epoch clock) = (omega arith, omega arith)
    kinds (Granted cell epoch clock) = (omega arith, omega arith)
    kinds (Past cell asked greatest) = (omega arith, omega arith)
    kinds (Request token json) = (omega arith, omega arith)
    kinds (Reply token text) = (omega arith, omega arith)

-- a fixed byte before
mark_open : {A : Type 0} (mark : ℕ) {r : Place → Read A} {s : A → List ℕ} {O : List ℕ → Type 0} {F : A → Type 0} → Open r s O F
    → Open (mark_at mark r) (λ x. mark ∷ s x) (λ text. (t : List ℕ) × O t × (mark ∷ t ≡ text)) F
unfolding mark_at
mark_open {A} mark {r = r} {s = s} {O = O} {F = F} c = record {
  codec = bind_codec (byte_in mark mark) one_byte (IsBetween mark mark) (λ b. r) (λ b. s) (λ b. O) (λ b. F)
      (λ x. mark ∷ s x) (λ text. (t : List ℕ) × O t × (mark ∷ t ≡ text)) F
      (byte_codec mark mark (omega arith))
      (λ b f. c.codec)
      (λ b x f g. (ap (λ z. z ∷ s x) (same b f), g))
      (λ b t f w. (t, w, ap (λ z. z ∷ t) (same b f)))
      (λ x g. (mark, (omega arith, omega arith), g))
      (λ b f. (c.some, c.shown));
  some = mark ∷ c.some;
  shown = (c.some, c.shown, refl);
}
  where
    same : (b : ℕ) → IsBetween mark mark b → mark ≡ b
    same b f = omega (arith, f.0, f.1)

pub message_codec : Codec message_at message_text OpensMessage IsMessage
unfolding message_at
message_codec =
    let marked = mark_open 0x4D (mark_open 0x53 (mark_open 1 kinded_open)) in
    refit_codec message_at message_text message_text _ OpensMessage IsMessage IsMessage marked.codec
    (λ m g. (g, refl)) (λ m g. g)
    (λ l w. let k = w.1.1.1 in (
      k.0,
      k.1,
      k.2,
      k.3,
      ap (λ t. 0x4D ∷ 0x53 ∷ 1 ∷ t) k.4 ∙ (ap (λ t. 0x4D ∷ 0x53 ∷ t) w.1.1.2 ∙ (ap (λ t. 0x4D ∷ t) w.1.2 ∙ w.2)),
    ))

-- the length of the text of a body's entry is one that opens it
body_shows : (body : Body) → IsBody body → (n : ℕ) × (n ≤ 65536) × IsBodyWith IsEntry body × (body_with (shown_entry n) body ≡ body_text body)
body_shows (Where op group) h = (0, omega arith, h, refl)
body_shows (Top op group position) h = (0, omega arith, h, refl)
body_shows (Accept op group position ballot entry) h = (length (entry_text entry), h.1.1.1.1.1, (h.0, (h.1.0, (h.1.1.0, (h.1.1.1.0, h.1.1.1.1.0)))), refl)
body_shows (Accepted op group position ballot entry) h = (length (entry_text entry), h.1.1.1.1.1, (h.0, (h.1.0, (h.1.1.0, (h.1.1.1.0, h.1.1.1.1.0)))), refl)
body_shows (Refused op group position asked shown None) h = (0, omega arith, (h.0, (h.1.0, (h.1.1.0, (h.1.1.1.0, (h.1.1.1.1.0, tt))))), refl)
body_shows (Refused op group position asked shown (Some entry)) h = (length (entry_text entry), h.1.1.1.1.1.1, (h.0, (h.1.0, (h.1.1.0, (h.1.1.1.0, (h.1.1.1.1.0, h.1.1.1.1.1.0))))), refl)
body_shows (Prepare op group position ballot) h = (0, omega arith, h, refl)
body_shows (Promise op group position ballot None) h = (0, omega arith, (h.0, (h.1.0, (h.1.1.0, (h.1.1.1.0, tt)))), refl)
body_shows (Promise op group position ballot (Some vote)) h = (length (entry_text vote.1), h.1.1.1.1.1.1, (h.0, (h.1.0, (h.1.1.0, (h.1.1.1.0, (h.1.1.1.1.0, h.1.1.1.1.1.0))))), refl)
body_shows (Invalidate op group position) h = (0, omega arith, h, refl)
body_shows (Invalidated op group position) h = (0, omega arith, h, refl)
body_shows (Dead op cell node) h = (0, omega arith, h, refl)
body_shows (Held op cell node) h = (0, omega arith, h, refl)
body_shows (Unheld op cell node) h = (0, omega arith, h, refl)
body_shows (Decide group position entry) h = (length (entry_text entry), h.1.1.1, (h.0, (h.1.0, h.1.1.0)), refl)
body_shows (Fetch op group position) h = (0, omega arith, h, refl)
body_shows (Have op group position entry) h = (length (entry_text entry), h.1.1.1.1, (h.0, (h.1.0, (h.1.1.0, h.1.1.1.0))), refl)
body_shows (HaveNot op group position) h = (0, omega arith, h, refl)
body_shows (Acquire cell epoch clock) h = (0, omega arith, h, refl)
body_shows (Granted cell epoch clock) h = (0, omega arith, h, refl)
body_shows (Past cell asked greatest) h = (0, omega arith, h, refl)
body_shows (Request token json) h = (0, omega arith, h, refl)
body_shows (Reply token text) h = (0, omega arith, h, refl)

-- the text of a message opens it
pub message_opens : (m : Message) → IsMessage m → OpensMessage (message_text m)
message_opens m f =
    let w = body_shows m.body f.body in
    (m, w.0, w.1, record { from = f.from; to = f.to; body = w.2 }, ap (λ l. 0x4D ∷ 0x53 ∷ 1 ∷ kind_of m.body ∷ m.from ∷ m.to ∷ l) w.3)

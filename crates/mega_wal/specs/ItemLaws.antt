-- The laws of this format.
use Rattle.std.proofs.Common.{◌≡◌, ℕ, ◌+◌, ◌≤◌, true, false, List, [], ◌∷◌, ◌++◌, length, refl, ◌∙◌, ap, subst, Ok, Result, arith}
use Rattle.std.specs.Prelude.{◌==◌, ◌≢◌}
use Rattle.std.proofs.lemmas.Bool.{eqb-false}
use Rattle.std.proofs.lemmas.Bool.Decides.{nat_tests}
use Rattle.mega_base.specs.Reading.{Place, place, Read, ◌>>=◌, byte_in}
use Rattle.mega_base.specs.Pairs.{IsPair}
use Rattle.mega_base.specs.Codec.{Codec, BytesBetween, IsBetween, one_byte, IsNested}
use Rattle.mega_base.specs.Names.{u32_at, u32_text, IsU32, IsNode, position_text, IsPositionIn, IsEpoch, group_text, IsGroup}
use Rattle.mega_base.specs.NameLaws.{u32_codec}
use Rattle.mega_base.specs.Codecs.{byte_codec, bind_codec, ok_parts}
use Rattle.mega_base.specs.declared.names.NodeId.{NodeId}
use Rattle.mega_base.specs.declared.names.Position.{Position}
use Rattle.mega_base.specs.declared.names.Epoch.{Epoch}
use Rattle.mega_base.specs.declared.names.GroupId.{GroupId}
use Rattle.mega_acceptor.specs.of_ballot.Ballots.{ballot_at, ballot_text, zero_op, IsBallot}
use Rattle.mega_acceptor.specs.of_ballot.BallotLaws.{ballot_codec}
use Rattle.mega_acceptor.specs.of_ballot.declared.ballot.Ballot.{Ballot}
use Rattle.mega_acceptor.specs.of_entry.Entries.{entry_text, IsEntry}
use Rattle.mega_acceptor.specs.of_entry.Formats.{Format, Open, both, before, embed_open, if_open, open_of}
use Rattle.mega_acceptor.specs.of_entry.FieldFormats.{entry_open, epoch_format, group_format, node_format, position_format, shown_entry}
use Rattle.mega_acceptor.specs.of_entry.declared.content.Content.{Content}
use Rattle.mega_wal.specs.declared.item.JournalItem.{JournalItem}
use Rattle.mega_wal.specs.declared.item.JournalItem.TheVariants.{Start, Promise, Accept, Decide, Grant, Lapse, Starts}
use Rattle.mega_wal.specs.Items.{promise_fields, accept_fields, decide_fields, lock_fields, item_of, item_at, kind_of, fields_with, IsItemWith, fields_text, item_text, IsItem, OpensItem}

-- the formats of the fields
ballot_format : Format ballot_at ballot_text IsBallot
ballot_format = record {
  codec = ballot_codec;
  some = record { round = 0; op = zero_op };
  fits = record {
    round = (omega arith, omega arith);
    op = ((omega arith, omega arith), (omega arith, omega arith), (omega arith, omega arith));
    lowest = λ e. refl;
  };
}

starts_format : Format u32_at u32_text IsU32
starts_format = record { codec = u32_codec; some = 0; fits = (omega arith, omega arith) }

-- an item of that kind that fits, and the texts that open one
abbrev IsOfKind : ℕ → JournalItem → Type 0
IsOfKind kind item = (kind_of item ≡ kind) × IsItem item

abbrev OpensFields : ℕ → List ℕ → Type 0
OpensFields kind text = (item : JournalItem) × (n : ℕ) × (n ≤ 65536) × (kind_of item ≡ kind) × IsItemWith IsEntry item × (fields_with (shown_entry n) item ≡ text)

-- an item with no fields
start_open : Open (λ p. Ok (Start, p)) fields_text (OpensFields 1) (IsOfKind 1)
start_open = record {
  codec = record {
    takes = λ p x q h. takes p x q h;
    again = λ at x rest f. again at x rest f;
    stops = λ p at h. absurd (stops p at h);
  };
  some = [];
  shown = (Start, 0, omega arith, refl, tt, refl);
}
  where
    read : Place → Read JournalItem
    read p = Ok (Start, p)

    stays : (p : Place) → BytesBetween p [] p
    stays p = record { text = refl; offset = omega arith }

    takes : (p : Place) (x : JournalItem) (q : Place) → read p ≡ Ok (x, q) → BytesBetween p (fields_text x) q × IsOfKind 1 x
    takes p x q h =
        let parts = ok_parts Start x p q h in
        let item : Start ≡ x = parts.0 in
        let there : p ≡ q = parts.1 in
        (subst (λ (y : JournalItem). BytesBetween p (fields_text y) q) item (subst (λ (r : Place). BytesBetween p [] r) there (stays p)), subst (IsOfKind 1) item (refl, tt))

    again : (at : ℕ) (x : JournalItem) (rest : List ℕ) → IsOfKind 1 x → read (place at (fields_text x ++ rest)) ≡ Ok (x, place (at + length (fields_text x)) rest)
    again at Start rest f = ap (λ n. Ok (Start, place n rest)) (let e : at ≡ at + 0 = omega arith in e)
    again at _ rest f = absurd (omega (arith, f.0))

    stops : (p : Place) (at : ℕ) → read p ≡ Result.Err at → ⊥
    stops p at h = cc

promise_open : Open (λ p. promise_fields p >>= λ x. Ok (Promise x.0.0 x.0.1.0 x.0.1.1, x.1)) fields_text (OpensFields 2) (IsOfKind 2)
promise_open = embed_open (open_of (both group_format (both position_format ballot_format))) (λ x. Promise x.0 x.1.0 x.1.1) fields_text (OpensFields 2) (IsOfKind 2)
    (λ x f. (refl, (refl, f)))
    (λ l w. (Promise w.0.0 w.0.1.0 w.0.1.1, 0, omega arith, refl, w.1, w.2))
    back
  where
    back : (item : JournalItem) → IsOfKind 2 item → (x : GroupId × (Position × Ballot)) × (IsPair IsGroup (IsPair (IsPositionIn 1 1000000) IsBallot) x) × (Promise x.0 x.1.0 x.1.1 ≡ item)
    back (Promise group position ballot) h = ((group, (position, ballot)), h.1, refl)
    back _ h = absurd (omega (arith, h.0))

accept_open : Open (λ p. accept_fields p >>= λ x. Ok (Accept x.0.0 x.0.1.0 x.0.1.1.0 x.0.1.1.1, x.1)) fields_text (OpensFields 3) (IsOfKind 3)
accept_open = embed_open (before group_format (before position_format (before ballot_format entry_open))) (λ x. Accept x.0 x.1.0 x.1.1.0 x.1.1.1) fields_text (OpensFields 3) (IsOfKind 3)
    (λ x f. (refl, (refl, f)))
    (λ l w. (Accept w.0 w.3.0 w.3.3.0 w.3.3.3.1, w.3.3.3.0, w.3.3.3.2, refl, (w.2, (w.3.2, (w.3.3.2, w.3.3.3.3))), (ap (λ t. group_text w.0 ++ t) (ap (λ t. position_text w.3.0 ++ t) (ap (λ t. ballot_text w.3.3.0 ++ t) w.3.3.3.4 ∙ w.3.3.4) ∙ w.3.4) ∙ w.4)))
    back
  where
    back : (item : JournalItem) → IsOfKind 3 item → (x : GroupId × (Position × (Ballot × Content))) × (IsPair IsGroup (IsPair (IsPositionIn 1 1000000) (IsPair IsBallot (IsNested 65536 entry_text IsEntry))) x) × (Accept x.0 x.1.0 x.1.1.0 x.1.1.1 ≡ item)
    back (Accept group position ballot entry) h = ((group, (position, (ballot, entry))), h.1, refl)
    back _ h = absurd (omega (arith, h.0))

decide_open : Open (λ p. decide_fields p >>= λ x. Ok (Decide x.0.0 x.0.1.0 x.0.1.1, x.1)) fields_text (OpensFields 4) (IsOfKind 4)
decide_open = embed_open (before group_format (before position_format entry_open)) (λ x. Decide x.0 x.1.0 x.1.1) fields_text (OpensFields 4) (IsOfKind 4)
    (λ x f. (refl, (refl, f)))
    (λ l w. (Decide w.0 w.3.0 w.3.3.1, w.3.3.0, w.3.3.2, refl, (w.2, (w.3.2, w.3.3.3)), (ap (λ t. group_text w.0 ++ t) (ap (λ t. position_text w.3.0 ++ t) w.3.3.4 ∙ w.3.4) ∙ w.4)))
    back
  where
    back : (item : JournalItem) → IsOfKind 4 item → (x : GroupId × (Position × Content)) × (IsPair IsGroup (IsPair (IsPositionIn 1 1000000) (IsNested 65536 entry_text IsEntry)) x) × (Decide x.0 x.1.0 x.1.1 ≡ item)
    back (Decide group position entry) h = ((group, (position, entry)), h.1, refl)
    back _ h = absurd (omega (arith, h.0))

grant_open : Open (λ p. lock_fields p >>= λ x. Ok (Grant x.0.0 x.0.1, x.1)) fields_text (OpensFields 5) (IsOfKind 5)
grant_open = embed_open (open_of (both node_format epoch_format)) (λ x. Grant x.0 x.1) fields_text (OpensFields 5) (IsOfKind 5)
    (λ x f. (refl, (refl, f)))
    (λ l w. (Grant w.0.0 w.0.1, 0, omega arith, refl, w.1, w.2))
    back
  where
    back : (item : JournalItem) → IsOfKind 5 item → (x : NodeId × Epoch) × (IsPair IsNode IsEpoch x) × (Grant x.0 x.1 ≡ item)
    back (Grant node epoch) h = ((node, epoch), h.1, refl)
    back _ h = absurd (omega (arith, h.0))

lapse_open : Open (λ p. lock_fields p >>= λ x. Ok (Lapse x.0.0 x.0.1, x.1)) fields_text (OpensFields 6) (IsOfKind 6)
lapse_open = embed_open (open_of (both node_format epoch_format)) (λ x. Lapse x.0 x.1) fields_text (OpensFields 6) (IsOfKind 6)
    (λ x f. (refl, (refl, f)))
    (λ l w. (Lapse w.0.0 w.0.1, 0, omega arith, refl, w.1, w.2))
    back
  where
    back : (item : JournalItem) → IsOfKind 6 item → (x : NodeId × Epoch) × (IsPair IsNode IsEpoch x) × (Lapse x.0 x.1 ≡ item)
    back (Lapse node epoch) h = ((node, epoch), h.1, refl)
    back _ h = absurd (omega (arith, h.0))

starts_open : Open (λ p. u32_at p >>= λ x. Ok (Starts x.0, x.1)) fields_text (OpensFields 7) (IsOfKind 7)
starts_open = embed_open (open_of starts_format) (λ x. Starts x) fields_text (OpensFields 7) (IsOfKind 7)
    (λ x f. (refl, (refl, f)))
    (λ l w. (Starts w.0, 0, omega arith, refl, w.1, w.2))
    back
  where
    back : (item : JournalItem) → IsOfKind 7 item → (x : ℕ) × (IsU32 x) × (Starts x ≡ item)
    back (Starts starts) h = (starts, h.1, refl)
    back _ h = absurd (omega (arith, h.0))

-- the kind that was tested
at_kind : (k n : ℕ) {r : Place → Read JournalItem} → (k == n) ≡ true → Open r fields_text (OpensFields n) (IsOfKind n) → Open r fields_text (OpensFields k) (IsOfKind k)
at_kind k n {r = r} e c = let same : n ≡ k = grind (arith, nat_tests) in subst (λ (m : ℕ). Open r fields_text (OpensFields m) (IsOfKind m)) same c

fields_open : (k : ℕ) → IsBetween 1 7 k → Open (item_of k) fields_text (OpensFields k) (IsOfKind k)
unfolding item_of
fields_open k f =
    if_open (k == 1) (λ e. at_kind k 1 e start_open) (λ n1.
    if_open (k == 2) (λ e. at_kind k 2 e promise_open) (λ n2.
    if_open (k == 3) (λ e. at_kind k 3 e accept_open) (λ n3.
    if_open (k == 4) (λ e. at_kind k 4 e decide_open) (λ n4.
    if_open (k == 5) (λ e. at_kind k 5 e grant_open) (λ n5.
    if_open (k == 6) (λ e. at_kind k 6 e lapse_open) (λ n6.
    subst (λ (m : ℕ). Open (λ p. u32_at p >>= λ x. Ok (Starts x.0, x.1)) fields_text (OpensFields m) (IsOfKind m)) (last_kind k f (eqb-false k 1 n1) (eqb-false k 2 n2) (eqb-false k 3 n3) (eqb-false k 4 n4) (eqb-false k 5 n5) (eqb-false k 6 n6)) starts_open))))))
  where
    last_kind : (k : ℕ) → IsBetween 1 7 k → k ≢ 1 → k ≢ 2 → k ≢ 3 → k ≢ 4 → k ≢ 5 → k ≢ 6 → 7 ≡ k
    last_kind k f n1 n2 n3 n4 n5 n6 = omega (arith, f.0, f.1)

pub item_codec : Codec item_at item_text OpensItem IsItem
unfolding item_at
item_codec =
    bind_codec (byte_in 1 7) one_byte (IsBetween 1 7) item_of (λ k. fields_text) OpensFields IsOfKind
    item_text OpensItem IsItem
    (byte_codec 1 7 (omega arith))
    (λ k f. (fields_open k f).codec)
    (λ k item f g. (ap (λ z. z ∷ fields_text item) g.0, g.1))
    (λ k t f w. (w.0, w.1, w.2, w.4, ap (λ z. z ∷ fields_with (shown_entry w.1) w.0) w.3 ∙ ap (λ l. k ∷ l) w.5))
    (λ item g. (kind_of item, kinds item, (refl, g)))
    (λ k f. let c = fields_open k f in (c.some, c.shown))
  where
    kinds : (item : JournalItem) → IsBetween 1 7 (kind_of item)
    kinds Start = (omega arith, omega arith)
    kinds (Promise group position ballot) = (omega arith, omega arith)
    kinds (Accept group position ballot entry) = (omega arith, omega arith)
    kinds (Decide group position entry) = (omega arith, omega arith)
    kinds (Grant node epoch) = (omega arith, omega arith)
    kinds (Lapse node epoch) = (omega arith, omega arith)
    kinds (Starts starts) = (omega arith, omega arith)

-- the text of an item opens it
pub item_opens : (item : JournalItem) → IsItem item → OpensItem (item_text item)
item_opens Start f = (Start, 0, omega arith, tt, refl)
item_opens (Promise group position ballot) f = (Promise group position ballot, 0, omega arith, f, refl)
item_opens (Accept group position ballot entry) f = (Accept group position ballot entry, length (entry_text entry), f.1.1.1.1, (f.0, (f.1.0, (f.1.1.0, f.1.1.1.0))), refl)
item_opens (Decide group position entry) f = (Decide group position entry, length (entry_text entry), f.1.1.1, (f.0, (f.1.0, f.1.1.0)), refl)
item_opens (Grant node epoch) f = (Grant node epoch, 0, omega arith, f, refl)
item_opens (Lapse node epoch) f = (Lapse node epoch, 0, omega arith, f, refl)
item_opens (Starts starts) f = (Starts starts, 0, omega arith, f, refl)

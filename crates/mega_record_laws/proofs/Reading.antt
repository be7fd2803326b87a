-- Each plain line is read from its text, and what is read is plain and has this text.
use Rattle.std.proofs.Common.{◌≡◌, ℕ, Bool, true, false, List, [], ◌∷◌, ◌++◌, refl, sym, ap, ◌∙◌, subst, Option, Some, None, Result, Ok, Err, arith, codes}
use Rattle.std.specs.Prelude.{if◌then◌else◌, option_map}
use Rattle.std.specs.Result.{result_ok}
use Rattle.std.proofs.lemmas.Slice.Eq.{bytes_eq-Decides}
use Rattle.hex.specs.Hex.{encode_lower}
use Rattle.mega_schema.specs.declared.schema.Schema.{Schema}
use Rattle.mega_syntax.specs.Names.{same}
use Rattle.mega_transcript.specs.declared.item.Item.{Item}
use Rattle.mega_transcript.specs.declared.item.Item.TheVariants as items
use Rattle.mega_transcript.specs.Lines.{line}
use Rattle.mega_transcript.specs.Reading.{Read}
use Rattle.mega_transcript_reader.specs.ReadingItems.{parsed}
use Rattle.mega_transcript_reader.proofs.ItemLaws.{parsed_again, parsed_found}
use Rattle.mega_promises.specs.Served.{Got, Line, Noted, OfClient, OfNode, Peer, Put}
use Rattle.mega_promises.specs.Records.{record_line}
use Rattle.mega_record_laws.specs.Plain.{IsPlainLine}
use Rattle.mega_record_laws.specs.Reading.{behind, datagram_field, datagram_line, if_written, line_by, read_line, taken_for}
use Rattle.mega_record_laws.proofs.Peers.{datagram_form, peer_word}

-- ---- what is written is read

got_text : (schema : Schema) (from : Peer) (bytes : List ℕ) → record_line schema (Got from bytes) ≡ codes "got " ++ (peer_word from ++ 32 ∷ (encode_lower bytes ++ 10 ∷ []))
got_text schema (OfNode node) bytes = refl
got_text schema (OfClient client) bytes = refl

put_text : (schema : Schema) (to : Peer) (bytes : List ℕ) → record_line schema (Put to bytes) ≡ codes "put " ++ (peer_word to ++ 32 ∷ (encode_lower bytes ++ 10 ∷ []))
put_text schema (OfNode node) bytes = refl
put_text schema (OfClient client) bytes = refl

-- no item's line begins as that of a datagram
item_line : (schema : Schema) (item : Item) → taken_for schema (line schema item) ≡ option_map Noted (result_ok (parsed schema (line schema item)))
item_line schema (items.Start node start) = refl
item_line schema (items.Unsent node message) = refl
item_line schema (items.Tick node now) = refl
item_line schema (items.Begin op text) = refl
item_line schema (items.Taken number) = refl
item_line schema (items.Dropped number) = refl
item_line schema (items.Sent number message) = refl
item_line schema (items.Grant cell node epoch) = refl
item_line schema (items.Lapse cell node epoch) = refl
item_line schema (items.Counts node cell epoch) = refl
item_line schema (items.Forgets node cell epoch) = refl
item_line schema (items.Serving node epoch) = refl
item_line schema (items.Lost node epoch) = refl
item_line schema (items.Valid node group position) = refl
item_line schema (items.Invalid node group position) = refl
item_line schema (items.Decide node group position entry) = refl
item_line schema (items.Apply node group position) = refl
item_line schema (items.Answer op answer) = refl
item_line schema (items.Crash node) = refl
item_line schema items.Cut = refl
item_line schema items.Unsafe = refl

taken_again : (schema : Schema) (one : Line) → IsPlainLine schema one → taken_for schema (record_line schema one) ≡ Some one
taken_again schema (Noted item) fit = item_line schema item ∙ ap (λ (r : Result Item ℕ). option_map Noted (result_ok r)) (parsed_again schema item fit)
taken_again schema (Got from bytes) fit =
    ap (taken_for schema) (got_text schema from bytes)
    ∙ ap (λ (r : Read (Peer × List ℕ)). option_map (λ (one : (Peer × List ℕ) × List ℕ). Got one.0.0 one.0.1) (result_ok r)) (datagram_form.again 10 (from, bytes) [] (omega arith) fit)
taken_again schema (Put to bytes) fit =
    ap (taken_for schema) (put_text schema to bytes)
    ∙ ap (λ (r : Read (Peer × List ℕ)). option_map (λ (one : (Peer × List ℕ) × List ℕ). Put one.0.0 one.0.1) (result_ok r)) (datagram_form.again 10 (to, bytes) [] (omega arith) fit)

same-refl : (text : List ℕ) → same text text ≡ true
same-refl text = (bytes_eq-Decides text text).1 refl

pub line_again : (schema : Schema) (one : Line) → IsPlainLine schema one → read_line schema (record_line schema one) ≡ Some one
line_again schema one fit =
    ap (if_written schema (record_line schema one)) (taken_again schema one fit)
    ∙ ap (λ (t : Bool). if t then Some one else None) (same-refl (record_line schema one))

-- ---- what is read is plain, and the text is its own

datagram_fits : (make : Peer → List ℕ → Line) (schema : Schema) → ((peer : Peer) (bytes : List ℕ) → IsPlainLine schema (Got peer bytes) → IsPlainLine schema (make peer bytes))
    → (left : List ℕ) (one : Line) → datagram_line make left ≡ Some one → IsPlainLine schema one
datagram_fits make schema to left one h = by (datagram_field 10 left) refl h
  where
    by : (r : Read (Peer × List ℕ)) → datagram_field 10 left ≡ r → option_map (λ (x : (Peer × List ℕ) × List ℕ). make x.0.0 x.0.1) (result_ok r) ≡ Some one → IsPlainLine schema one
    by (Err at) e h = absurd (cc)
    by (Ok x) e h = let is : make x.0.0 x.0.1 ≡ one = cc in subst (IsPlainLine schema) is (to x.0.0 x.0.1 (datagram_form.fits 10 left x.0 x.1 e))

item_fits : (schema : Schema) (text : List ℕ) (one : Line) → option_map Noted (result_ok (parsed schema text)) ≡ Some one → IsPlainLine schema one
item_fits schema text one h = by (parsed schema text) refl h
  where
    by : (r : Result Item ℕ) → parsed schema text ≡ r → option_map Noted (result_ok r) ≡ Some one → IsPlainLine schema one
    by (Err at) e h = absurd (cc)
    by (Ok item) e h = let is : Noted item ≡ one = cc in subst (IsPlainLine schema) is (parsed_found schema text item e).0

by_fits : (schema : Schema) (text : List ℕ) (got put : Option (List ℕ)) (one : Line) → line_by schema text got put ≡ Some one → IsPlainLine schema one
by_fits schema text (Some left) put one h = datagram_fits Got schema (λ peer bytes fit. fit) left one h
by_fits schema text None (Some left) one h = datagram_fits Put schema (λ peer bytes fit. fit) left one h
by_fits schema text None None one h = item_fits schema text one h

pub line_found : (schema : Schema) (text : List ℕ) (one : Line) → read_line schema text ≡ Some one → IsPlainLine schema one × (text ≡ record_line schema one)
line_found schema text one h = by (taken_for schema text) refl h
  where
    if_same : (other : Line) (b : Bool) → same (record_line schema other) text ≡ b → (if b then Some other else None) ≡ Some one → (other ≡ one) × (text ≡ record_line schema other)
    if_same other true e h = (cc, sym ((bytes_eq-Decides (record_line schema other) text).0 e))
    if_same other false e h = absurd (cc)

    by : (o : Option Line) → taken_for schema text ≡ o → if_written schema text o ≡ Some one → IsPlainLine schema one × (text ≡ record_line schema one)
    by None e h = absurd (cc)
    by (Some other) e h =
        let is = if_same other (same (record_line schema other) text) refl h in
        subst (λ (l : Line). IsPlainLine schema l × (text ≡ record_line schema l)) is.0 (by_fits schema text (behind (codes "got ") text) (behind (codes "put ") text) other e, is.1)

-- A peer and its bytes are read back from their words, and what is read fits.
use Rattle.std.proofs.Common.{◌≡◌, ℕ, ◌%◌, ◌+◌, ◌^◌, ◌<◌, ◌≤◌, ◌==◌, Bool, false, List, [], ◌∷◌, ◌++◌, ap, ◌∙◌, subst, Option, Some, None, Ok, arith, append_assoc, decimal, codes}
use Rattle.std.specs.Prelude.{if◌then◌else◌}
use Rattle.std.proofs.lemmas.Bool.Decides.{nat_tests}
use Rattle.std.proofs.lemmas.Fmt.{decimal_by_steps}
use Rattle.hex.specs.Hex.{IsBytes, encode_lower}
use Rattle.mega_base.specs.Reading.{◌>>=◌}
use Rattle.mega_base.specs.Codecs.{bind-ok}
use Rattle.mega_transcript.specs.Reading.{Read, hex_field, u8_field, u32_field}
use Rattle.mega_transcript.proofs.Forms.{Form, hex_form, read_parts, two_form, u8_form, u32_form}
use Rattle.mega_promises.specs.Served.{OfClient, OfNode, Peer}
use Rattle.mega_record_laws.specs.Plain.{IsPlainPeer}
use Rattle.mega_record_laws.specs.Reading.{behind, datagram_field, peer_by, peer_field}

-- a number begins with a digit
digit_first : (c : ℕ) (front : List ℕ) → 57 < c → (n : ℕ) → n < 2 ^ 64 → (rest : List ℕ) → behind (c ∷ front) (decimal n ++ rest) ≡ None
digit_first c front above n small = decimal_by_steps (λ _ ds. (rest : List ℕ) → behind (c ∷ front) (ds ++ rest) ≡ None) one more n small
  where
    other : (m : ℕ) → m < 10 → (c == 48 + m) ≡ false
    other m h = grind (arith, nat_tests)

    one : (m : ℕ) → m < 10 → (rest : List ℕ) → behind (c ∷ front) (((48 + m) ∷ []) ++ rest) ≡ None
    one m h rest = ap (λ (t : Bool). if t then behind front rest else None) (other m h)

    more : (m : ℕ) (ds : List ℕ) → 10 ≤ m → ((rest : List ℕ) → behind (c ∷ front) (ds ++ rest) ≡ None) → (rest : List ℕ) → behind (c ∷ front) ((ds ++ (48 + m % 10) ∷ []) ++ rest) ≡ None
    more m ds h ih rest = ap (behind (c ∷ front)) (append_assoc ds ((48 + m % 10) ∷ []) rest) ∙ ih ((48 + m % 10) ∷ rest)

-- a node by its number, a client by its own behind the word
abbrev pub peer_word : Peer → List ℕ
peer_word (OfNode node) = decimal node
peer_word (OfClient client) = codes "client " ++ decimal client

peer_again : (end : ℕ) (peer : Peer) (rest : List ℕ) → end ≤ 46 → IsPlainPeer peer → peer_field end (peer_word peer ++ end ∷ rest) ≡ Ok (peer, rest)
unfolding peer_field
peer_again end (OfNode node) rest low fit =
    ap (peer_by end (decimal node ++ end ∷ rest)) (digit_first 99 (codes "lient ") (omega arith) node (omega arith) (end ∷ rest))
    ∙ ap (λ (r : Read ℕ). r >>= λ a. Ok (OfNode a.0, a.1)) (u8_form.again end node rest low fit)
peer_again end (OfClient client) rest low fit = ap (λ (r : Read ℕ). r >>= λ a. Ok (OfClient a.0, a.1)) (u32_form.again end client rest low fit)

peer_fits : (end : ℕ) (left : List ℕ) (x : Peer) (rest : List ℕ) → peer_field end left ≡ Ok (x, rest) → IsPlainPeer x
unfolding peer_field
peer_fits end left x rest h = by (behind (codes "client ") left) h
  where
    by : (o : Option (List ℕ)) → peer_by end left o ≡ Ok (x, rest) → IsPlainPeer x
    by (Some number) h =
        let read = bind-ok (u32_field end number) (λ a. Ok (OfClient a.0, a.1)) (x, rest) h in
        let same = read_parts (OfClient read.0.0) x read.0.1 rest read.2 in
        subst IsPlainPeer same.0 (u32_form.fits end number read.0.0 read.0.1 read.1)
    by None h =
        let read = bind-ok (u8_field end left) (λ a. Ok (OfNode a.0, a.1)) (x, rest) h in
        let same = read_parts (OfNode read.0.0) x read.0.1 rest read.2 in
        subst IsPlainPeer same.0 (u8_form.fits end left read.0.0 read.0.1 read.1)

peer_form : Form peer_field (λ peer tail. peer_word peer ++ tail) IsPlainPeer
peer_form = record { again = peer_again; fits = peer_fits }

-- a peer, and bytes in hex
pub datagram_form : Form datagram_field (λ x tail. peer_word x.0 ++ 32 ∷ (encode_lower x.1 ++ tail)) (λ x. IsPlainPeer x.0 × IsBytes x.1)
unfolding datagram_field
datagram_form = two_form 32 peer_field hex_field (λ peer tail. peer_word peer ++ tail) (λ bytes tail. encode_lower bytes ++ tail) IsPlainPeer IsBytes (omega arith) peer_form hex_form

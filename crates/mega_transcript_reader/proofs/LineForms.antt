-- The lines of items and their readings are inverse.
use Rattle.std.proofs.Common.{◌≡◌, ℕ, ◌<◌, ◌≤◌, ◌^◌, ◌==◌, Bool, true, false, List, ◌∷◌, ◌++◌, length, refl, ap, ◌∙◌, subst, Option, Some, None, Result, Ok, Err, arith, decimal}
use Rattle.std.specs.Prelude.{if◌then◌else◌}
use Rattle.std.specs.Result.{result_ok}
use Rattle.hex.specs.Hex.{encode_lower, IsBytes}
use Rattle.mega_base.specs.Reading.{◌>>=◌, whole_of}
use Rattle.mega_base.specs.Codec.{IsText}
use Rattle.mega_base.specs.Codecs.{bind-ok}
use Rattle.mega_base.specs.Whole.{whole_found, whole_only}
use Rattle.mega_entry.specs.Entries.{entry_at, entry_text, IsEntry}
use Rattle.mega_entry.specs.EntryLaws.{entry_codec}
use Rattle.mega_wire.specs.Messages.{message_at, message_text, OpensMessage, IsMessage, kind_of as body_kind}
use Rattle.mega_wire.specs.MessageLaws.{message_codec}
use Rattle.mega_wire.specs.declared.message.Message.{Message}
use Rattle.mega_wire.specs.declared.message.Body.{Body}
use Rattle.mega_wire.specs.declared.message.Body.TheVariants as bodies
use Rattle.mega_transcript.specs.Words.{node_word, position_word, epoch_word, group_word}
use Rattle.mega_transcript.specs.Lines.{kind_name}
use Rattle.mega_transcript.specs.PlainNames.{IsU8, IsU32, IsU64, IsNode, IsPosition, IsEpoch, IsGroup}
use Rattle.mega_transcript.specs.Plain.{IsWhole, IsWritten}
use Rattle.mega_transcript.specs.Reading.{Field, until, shown, two, u8_field, u32_field, u64_field, node_field, position_field, epoch_field, group_field, hex_field, message_field, entry_field}
use Rattle.mega_transcript_reader.specs.ReadingItems.{taken_behind, behind, cell_node_epoch, node_cell_epoch, node_epoch, node_group_position}
use Rattle.mega_transcript.proofs.Forms.{lacks, until_again, Form, two_form, decimal-lacks, u8_form, u32_form, u64_form, node_form, position_form, epoch_form, hex_form, group_form}

-- a word that is passed over, and what stands behind it
pub behind_form : {A : Type 0} (f : Field A) (word : A → List ℕ) (t : A → List ℕ → List ℕ) (F : A → Type 0)
    → Form f t F → ((x : A) → F x → lacks 32 (word x) ≡ true)
    → Form (behind f) (λ x tail. word x ++ 32 ∷ t x tail) F
behind_form {A} f word t F c solid = record {
  again = λ end x rest low fit.
      ap (taken_behind f end (length (word x ++ 32 ∷ t x (end ∷ rest)))) (until_again 32 (word x) (t x (end ∷ rest)) (solid x fit))
      ∙ c.again end x rest low fit;
  fits = λ end left x rest h. from (until 32 left) (length left) end x rest h;
}
  where
    from : (o : Option (List ℕ × List ℕ)) (n end : ℕ) (x : A) (rest : List ℕ) → taken_behind f end n o ≡ Ok (x, rest) → F x
    from None n end x rest h = absurd (cc)
    from (Some w) n end x rest h = c.fits end w.1 x rest h

shown-ok : {A : Type 0} (n : ℕ) (after : List ℕ) (o : Option A) (x : A) (rest : List ℕ) → shown n after o ≡ Ok (x, rest) → o ≡ Some x
shown-ok n after None x rest h = absurd (cc)
shown-ok {A} n after (Some y) x rest h =
    let a : A × List ℕ = (y, after) in
    let b : A × List ℕ = (x, rest) in
    let e : a ≡ b = cc in
    ap (λ (z : A × List ℕ). Some z.0) e

from_ok : {A : Type 0} (r : Result A ℕ) (x : A) → result_ok r ≡ Some x → r ≡ Ok x
from_ok (Ok y) x h = let e : y ≡ x = cc in ap Ok e
from_ok (Err e) x h = absurd (cc)

pub message_form : Form message_field (λ message tail. encode_lower (message_text message) ++ tail) IsWhole
unfolding message_field
message_form = record {
  again = λ end m rest low fit.
      ap (λ r. r >>= λ bytes. shown (length (encode_lower (message_text m) ++ end ∷ rest)) bytes.1 (result_ok (whole_of message_at bytes.0))) (hex_form.again end (message_text m) rest low fit.1)
      ∙ ap (λ r. shown (length (encode_lower (message_text m) ++ end ∷ rest)) rest (result_ok r)) (whole_only message_at message_text OpensMessage IsMessage message_codec (message_text m) m fit.0 refl);
  fits = λ end left m rest h.
      let read = bind-ok (hex_field end left) (λ bytes. shown (length left) bytes.1 (result_ok (whole_of message_at bytes.0))) (m, rest) h in
      let found = whole_found message_at message_text OpensMessage IsMessage message_codec read.0.0 m (from_ok (whole_of message_at read.0.0) m (shown-ok (length left) read.0.1 (result_ok (whole_of message_at read.0.0)) m rest read.2)) in
      (found.0, subst IsBytes found.1 (hex_form.fits end left read.0.0 read.0.1 read.1));
}

pub entry_form : Form entry_field (λ entry tail. encode_lower (entry_text entry) ++ tail) IsWritten
unfolding entry_field
entry_form = record {
  again = λ end m rest low fit.
      ap (λ r. r >>= λ bytes. shown (length (encode_lower (entry_text m) ++ end ∷ rest)) bytes.1 (result_ok (whole_of entry_at bytes.0))) (hex_form.again end (entry_text m) rest low fit.1)
      ∙ ap (λ r. shown (length (encode_lower (entry_text m) ++ end ∷ rest)) rest (result_ok r)) (whole_only entry_at entry_text (IsText entry_text IsEntry) IsEntry entry_codec (entry_text m) m fit.0 refl);
  fits = λ end left m rest h.
      let read = bind-ok (hex_field end left) (λ bytes. shown (length left) bytes.1 (result_ok (whole_of entry_at bytes.0))) (m, rest) h in
      let found = whole_found entry_at entry_text (IsText entry_text IsEntry) IsEntry entry_codec read.0.0 m (from_ok (whole_of entry_at read.0.0) m (shown-ok (length left) read.0.1 (result_ok (whole_of entry_at read.0.0)) m rest read.2)) in
      (found.0, subst IsBytes found.1 (hex_form.fits end left read.0.0 read.0.1 read.1));
}

kind_name-lacks : (body : Body) → lacks 32 (kind_name body) ≡ true
kind_name-lacks (bodies.Where op group) = refl
kind_name-lacks (bodies.Top op group position) = refl
kind_name-lacks (bodies.Accept op group position ballot entry) = refl
kind_name-lacks (bodies.Accepted op group position ballot entry) = refl
kind_name-lacks (bodies.Refused op group position asked shown entry) = refl
kind_name-lacks (bodies.Prepare op group position ballot) = refl
kind_name-lacks (bodies.Promise op group position ballot accepted) = refl
kind_name-lacks (bodies.Invalidate op group position) = refl
kind_name-lacks (bodies.Invalidated op group position) = refl
kind_name-lacks (bodies.Dead op cell node) = refl
kind_name-lacks (bodies.Held op cell node) = refl
kind_name-lacks (bodies.Unheld op cell node) = refl
kind_name-lacks (bodies.Decide group position entry) = refl
kind_name-lacks (bodies.Fetch op group position) = refl
kind_name-lacks (bodies.Have op group position entry) = refl
kind_name-lacks (bodies.HaveNot op group position) = refl
kind_name-lacks (bodies.Acquire cell epoch clock) = refl
kind_name-lacks (bodies.Granted cell epoch clock) = refl
kind_name-lacks (bodies.Past cell asked greatest) = refl
kind_name-lacks (bodies.Request token json) = refl
kind_name-lacks (bodies.Reply token text) = refl

-- ---- the shapes of lines

pub named_form : Form (behind message_field) (λ m tail. kind_name m.body ++ 32 ∷ (encode_lower (message_text m) ++ tail)) IsWhole
named_form = behind_form message_field (λ m. kind_name m.body) (λ m tail. encode_lower (message_text m) ++ tail) IsWhole message_form (λ m fit. kind_name-lacks m.body)

few : (b : Bool) (n : ℕ) → n ≤ (if b then 0 else 9) → n ≤ 9
few true n h = omega arith
few false n h = h

pub from_small : (m : Message) → IsWhole m → m.from < 2 ^ 64
from_small m fit = let most : m.from ≤ 9 = few (body_kind m.body == 20) m.from fit.0.from.1 in omega arith

pub to_small : (m : Message) → IsWhole m → m.to < 2 ^ 64
to_small m fit = let most : m.to ≤ 9 = few (body_kind m.body == 21) m.to fit.0.to.1 in omega arith

pub addressed_form : Form (behind (behind (behind message_field))) (λ m tail. decimal m.from ++ 32 ∷ (decimal m.to ++ 32 ∷ (kind_name m.body ++ 32 ∷ (encode_lower (message_text m) ++ tail)))) IsWhole
addressed_form =
    behind_form (behind (behind message_field)) (λ m. decimal m.from) (λ m tail. decimal m.to ++ 32 ∷ (kind_name m.body ++ 32 ∷ (encode_lower (message_text m) ++ tail))) IsWhole
    (behind_form (behind message_field) (λ m. decimal m.to) (λ m tail. kind_name m.body ++ 32 ∷ (encode_lower (message_text m) ++ tail)) IsWhole named_form
    (λ m fit. let most : m.to ≤ 9 = few (body_kind m.body == 21) m.to fit.0.to.1 in decimal-lacks 32 m.to (omega arith) (omega arith)))
    (λ m fit. let most : m.from ≤ 9 = few (body_kind m.body == 20) m.from fit.0.from.1 in decimal-lacks 32 m.from (omega arith) (omega arith))

pub cell_node_epoch_form : Form cell_node_epoch (λ x tail. decimal x.0 ++ 32 ∷ (node_word x.1.0 ++ 32 ∷ (epoch_word x.1.1 ++ tail))) (λ x. IsU8 x.0 × (IsNode x.1.0 × IsEpoch x.1.1))
cell_node_epoch_form = two_form 32 u8_field (two 32 node_field epoch_field) (λ n tail. decimal n ++ tail) (λ x tail. node_word x.0 ++ 32 ∷ (epoch_word x.1 ++ tail)) IsU8 (λ x. IsNode x.0 × IsEpoch x.1) (omega arith) u8_form
    (two_form 32 node_field epoch_field (λ node tail. node_word node ++ tail) (λ epoch tail. epoch_word epoch ++ tail) IsNode IsEpoch (omega arith) node_form epoch_form)

pub node_cell_epoch_form : Form node_cell_epoch (λ x tail. node_word x.0 ++ 32 ∷ (decimal x.1.0 ++ 32 ∷ (epoch_word x.1.1 ++ tail))) (λ x. IsNode x.0 × (IsU8 x.1.0 × IsEpoch x.1.1))
node_cell_epoch_form = two_form 32 node_field (two 32 u8_field epoch_field) (λ node tail. node_word node ++ tail) (λ x tail. decimal x.0 ++ 32 ∷ (epoch_word x.1 ++ tail)) IsNode (λ x. IsU8 x.0 × IsEpoch x.1) (omega arith) node_form
    (two_form 32 u8_field epoch_field (λ n tail. decimal n ++ tail) (λ epoch tail. epoch_word epoch ++ tail) IsU8 IsEpoch (omega arith) u8_form epoch_form)

pub node_epoch_form : Form node_epoch (λ x tail. node_word x.0 ++ 32 ∷ (epoch_word x.1 ++ tail)) (λ x. IsNode x.0 × IsEpoch x.1)
node_epoch_form = two_form 32 node_field epoch_field (λ node tail. node_word node ++ tail) (λ epoch tail. epoch_word epoch ++ tail) IsNode IsEpoch (omega arith) node_form epoch_form

pub place_form : Form node_group_position (λ x tail. node_word x.0 ++ 32 ∷ (group_word x.1.0 ++ 32 ∷ (position_word x.1.1 ++ tail))) (λ x. IsNode x.0 × (IsGroup x.1.0 × IsPosition x.1.1))
place_form = two_form 32 node_field (two 32 group_field position_field) (λ node tail. node_word node ++ tail) (λ x tail. group_word x.0 ++ 32 ∷ (position_word x.1 ++ tail)) IsNode (λ x. IsGroup x.0 × IsPosition x.1) (omega arith) node_form
    (two_form 32 group_field position_field (λ group tail. group_word group ++ tail) (λ position tail. position_word position ++ tail) IsGroup IsPosition (omega arith) group_form position_form)

pub decided_form : Form (two 32 node_group_position entry_field) (λ x tail. node_word x.0.0 ++ 32 ∷ (group_word x.0.1.0 ++ 32 ∷ (position_word x.0.1.1 ++ 32 ∷ (encode_lower (entry_text x.1) ++ tail)))) (λ x. (IsNode x.0.0 × (IsGroup x.0.1.0 × IsPosition x.0.1.1)) × IsWritten x.1)
decided_form = two_form 32 node_group_position entry_field (λ x tail. node_word x.0 ++ 32 ∷ (group_word x.1.0 ++ 32 ∷ (position_word x.1.1 ++ tail))) (λ entry tail. encode_lower (entry_text entry) ++ tail) (λ x. IsNode x.0 × (IsGroup x.1.0 × IsPosition x.1.1)) IsWritten (omega arith) place_form entry_form

pub start_form : Form (two 32 node_field u32_field) (λ x tail. node_word x.0 ++ 32 ∷ (decimal x.1 ++ tail)) (λ x. IsNode x.0 × IsU32 x.1)
start_form = two_form 32 node_field u32_field (λ node tail. node_word node ++ tail) (λ n tail. decimal n ++ tail) IsNode IsU32 (omega arith) node_form u32_form

pub tick_form : Form (two 32 node_field u64_field) (λ x tail. node_word x.0 ++ 32 ∷ (decimal x.1 ++ tail)) (λ x. IsNode x.0 × IsU64 x.1)
tick_form = two_form 32 node_field u64_field (λ node tail. node_word node ++ tail) (λ n tail. decimal n ++ tail) IsNode IsU64 (omega arith) node_form u64_form

pub unsent_form : Form (two 32 node_field (behind message_field)) (λ x tail. node_word x.0 ++ 32 ∷ (kind_name x.1.body ++ 32 ∷ (encode_lower (message_text x.1) ++ tail))) (λ x. IsNode x.0 × IsWhole x.1)
unsent_form = two_form 32 node_field (behind message_field) (λ node tail. node_word node ++ tail) (λ m tail. kind_name m.body ++ 32 ∷ (encode_lower (message_text m) ++ tail)) IsNode IsWhole (omega arith) node_form named_form

pub sent_form : Form (two 32 u64_field (behind (behind (behind message_field)))) (λ x tail. decimal x.0 ++ 32 ∷ (decimal x.1.from ++ 32 ∷ (decimal x.1.to ++ 32 ∷ (kind_name x.1.body ++ 32 ∷ (encode_lower (message_text x.1) ++ tail))))) (λ x. IsU64 x.0 × IsWhole x.1)
sent_form = two_form 32 u64_field (behind (behind (behind message_field))) (λ n tail. decimal n ++ tail) (λ m tail. decimal m.from ++ 32 ∷ (decimal m.to ++ 32 ∷ (kind_name m.body ++ 32 ∷ (encode_lower (message_text m) ++ tail)))) IsU64 IsWhole (omega arith) u64_form addressed_form

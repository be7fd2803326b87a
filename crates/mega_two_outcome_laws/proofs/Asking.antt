-- The text of a transaction's object is read as the transaction.
use Rattle.std.proofs.Common.{◌≡◌, ℕ, ◌||◌, cond, Bool, true, false, List, [], refl, ap, ◌∙◌, Some, Result, Ok, Err}
use Rattle.std.specs.Prelude.{codes, if◌then◌else◌, is_some, option_map, option_and_then}
use Rattle.std.specs.Str.{is_utf8}
use Rattle.json.specs.Json as json
use Rattle.json.specs.Print.{escape_byte}
use Rattle.json.proofs.Printed.Utf8.{IsUtf8-are_ascii}
use Rattle.serde_json.specs.Data.{Data, string, array, object, no_items, no_members, member, put}
use Rattle.serde_json.specs.Find.{as_object}
use Rattle.serde_json.specs.Read.{of_json, max_depth, read as read_json}
use Rattle.serde_json.specs.Written.{has_float}
use Rattle.mega_schema.specs.declared.schema.Schema.{Schema}
use Rattle.mega_outcome.specs.declared.transaction.Transaction.{Transaction}
use Rattle.mega_schedule.specs.declared.form.Form.TheVariants as forms
use Rattle.mega_schedule.specs.declared.verdict.Verdict.TheVariants.{WrongKind, Fine}
use Rattle.mega_schedule.specs.Verdicts.{◌⊓◌, judged}
use Rattle.mega_schedule.specs.Fields.{each, group_check}
use Rattle.mega_schedule.specs.Parts.{check_check, write_check}
use Rattle.mega_schedule.specs.Forms.{line_check}
use Rattle.mega_schedule.specs.Values.{list_in, group_of}
use Rattle.mega_schedule.specs.Rows.{each_in, check_of, write_of}
use Rattle.mega_schedule.specs.Events.{only_object, object_of}
use Rattle.mega_schedule.specs.Asking.{asked_in, asked_by, asked_of, with_node}
use Rattle.mega_two_driver.specs.Texts.{transaction_text}
use Rattle.mega_two_driver.specs.Fits.{transaction_asked, transaction_of}
use Rattle.mega_two_outcome_laws.proofs.Trees.{text_of, IsGood, utf8_text, reads_tree}

-- ---- the object of a transaction

abbrev pub tree_of : json.Json → json.Json → json.Json → json.Json
tree_of checks group writes =
    json.object (json.member (codes "checks") checks (json.member (codes "do") (json.string (codes "txn")) (json.member (codes "group") group
    (json.member (codes "reads") (json.array json.no_items) (json.member (codes "sends") (json.array json.no_items) (json.member (codes "writes") writes json.no_members))))))

abbrev pub data_of : Data → Data → Data → Data
data_of checks group writes =
    object (member (codes "checks") checks (member (codes "do") (string (codes "txn")) (member (codes "group") group
    (member (codes "reads") (array no_items) (member (codes "sends") (array no_items) (member (codes "writes") writes no_members))))))

-- its text is the tree's
tree_text : (checks group writes : json.Json) → transaction_text (text_of checks) (text_of group) (text_of writes) ≡ text_of (tree_of checks group writes)
unfolding transaction_text escape_byte
tree_text checks group writes = refl

tree_read : (checks group writes : json.Json) (c g w : Data) → of_json checks ≡ Some c → of_json group ≡ Some g → of_json writes ≡ Some w → of_json (tree_of checks group writes) ≡ Some (data_of c g w)
tree_read checks group writes c g w checks_are group_is writes_are =
    (λ i. option_map object (option_and_then (λ x. option_and_then (λ y. option_and_then (λ z. Some
    (put (codes "writes") z (put (codes "sends") (array no_items) (put (codes "reads") (array no_items) (put (codes "group") y (put (codes "do") (string (codes "txn")) (put (codes "checks") x no_members)))))))
    (writes_are i)) (group_is i)) (checks_are i)))

tree_good : (checks group writes : json.Json) → IsGood 126 checks → IsGood 126 group → IsGood 126 writes → IsGood max_depth (tree_of checks group writes)
tree_good checks group writes c g w = (
  IsUtf8-are_ascii (codes "checks") refl,
  (
    c,
    (
      IsUtf8-are_ascii (codes "do") refl,
      (
        IsUtf8-are_ascii (codes "txn") refl,
        (
          IsUtf8-are_ascii (codes "group") refl,
          (
            g,
            (
              IsUtf8-are_ascii (codes "reads") refl,
              (
                tt,
                (
                  IsUtf8-are_ascii (codes "sends") refl,
                  (
                    tt,
                    (IsUtf8-are_ascii (codes "writes") refl, (w, tt)),
                  ),
                ),
              ),
            ),
          ),
        ),
      ),
    ),
  ),
)

-- ---- it is fine

pub record AreFine (c g w : Data) : Type 0 where
  pub group : group_check g ≡ Fine
  pub checks : each check_check c ≡ Fine
  pub writes : each write_check w ≡ Fine
  pub no_floats_c : has_float c ≡ false
  pub no_floats_g : has_float g ≡ false
  pub no_floats_w : has_float w ≡ false

fine_line : (c g w : Data) → AreFine c g w → line_check forms.Txn (with_node 1 (data_of c g w)) ≡ Fine
fine_line c g w f =
    λ i. ((Fine ⊓ f.group i) ⊓ (((f.checks i ⊓ Fine) ⊓ f.writes i) ⊓ Fine))
    ⊓ (if f.no_floats_c i || (false || (f.no_floats_g i || (false || (false || (false || (f.no_floats_w i || false)))))) then WrongKind else Fine)

asked_is : (s : Schema) (c g w : Data) → AreFine c g w → asked_by s 1 (Ok (data_of c g w)) ≡ Ok (asked_in s forms.Txn (with_node 1 (data_of c g w)))
asked_is s c g w f = ap (λ v. judged v (asked_in s forms.Txn (with_node 1 (data_of c g w)))) (fine_line c g w f)

-- ---- the whole text

abbrev pub meant : Schema → Data → Data → Data → Transaction
meant s c g w = record { group = group_of s (Some g); checks = each_in (check_of s) (list_in (Some c)); reads = []; writes = each_in (write_of s) (list_in (Some w)); sends = [] }

object_is : (text : List ℕ) (d : Data) → is_utf8 text ≡ true → read_json text ≡ Some d → is_some (as_object d) ≡ true → object_of text ≡ Ok d
object_is text d utf8 reads is_one =
    (λ i. cond {A = Result Data ℕ} (utf8 i) (only_object (reads i)) (Err 1)) ∙ ap (λ (t : Bool). cond {A = Result Data ℕ} t (Ok d) (Err 1)) is_one

pub read_as : (s : Schema) (checks group writes : json.Json) (c g w : Data) → IsGood 126 checks → IsGood 126 group → IsGood 126 writes
    → of_json checks ≡ Some c → of_json group ≡ Some g → of_json writes ≡ Some w → AreFine c g w
    → transaction_of s (transaction_text (text_of checks) (text_of group) (text_of writes)) ≡ meant s c g w
unfolding transaction_of
read_as s checks group writes c g w cg gg wg cr gr wr fine =
    let good = tree_good checks group writes cg gg wg in
    let tree = tree_of checks group writes in
    ap (λ (t : List ℕ). transaction_asked (asked_of s 1 t)) (tree_text checks group writes)
    ∙ ap (λ r. transaction_asked (asked_by s 1 r)) (object_is (text_of tree) (data_of c g w) (utf8_text tree good) (reads_tree tree (data_of c g w) good (tree_read checks group writes c g w cr gr wr)) refl)
    ∙ ap transaction_asked (asked_is s c g w fine)

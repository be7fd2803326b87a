-- Values that were read are spelled as good trees, and read back.
use Rattle.std.proofs.Common.{◌≡◌, ℕ, zero, suc, ◌≤◌, pos, negsuc, false, refl, ap, ◌∙◌, Some, arith}
use Rattle.std.specs.Prelude.{option_map, option_and_then}
use Rattle.std.proofs.lemmas.Fmt.{IsAscii-decimal, IsAscii-signed}
use Rattle.std.proofs.lemmas.Str.{IsUtf8-from_ascii}
use Rattle.std.proofs.lemmas.Bool.{or_parts}
use Rattle.json.specs.Json as json
use Rattle.json.proofs.Printed.Decimals.{IsNumber-decimal, IsNumber-signed_decimal}
use Rattle.serde_json.specs.Data.{Num, unsigned, negative, float, Data, null, boolean, number, string, array, object, Items, no_items, item, Members, no_members, member, put, depth, items_depth, members_depth}
use Rattle.serde_json.specs.Find.{is_float}
use Rattle.serde_json.specs.Read.{of_json, of_items, of_members}
use Rattle.serde_json.specs.Written.{number_text, outline, items_outline, members_outline, has_float, items_have_float, members_have_float}
use Rattle.serde_json.proofs.Numbers.{number_of-decimal, number_of-negative}
use Rattle.mega_json_laws.proofs.Joining.{AreBelowFirst, below_first, join, join_nil, join_one, none_below, put_last}
use Rattle.mega_json_laws.specs.Whole.{AreWholeItems, AreWholeMembers, IsWhole, IsWholeNumber}
use Rattle.mega_two_outcome_laws.proofs.Trees.{IsGood, AreGood, HasGood}

number_good : (x : Num) (n : ℕ) → IsWholeNumber x → is_float x ≡ false → IsGood n (json.number (number_text x))
number_good (unsigned k) n whole plain = (IsNumber-decimal k whole, IsUtf8-from_ascii (number_text (unsigned k)) (IsAscii-decimal k whole))
number_good (negative (pos k)) n whole plain = absurd whole
number_good (negative (negsuc k)) n whole plain = (IsNumber-signed_decimal (negsuc k) whole, IsUtf8-from_ascii (number_text (negative (negsuc k))) (IsAscii-signed (negsuc k) whole))
number_good (float x) n whole plain = absurd (cc)

mutual
  pub good : (n : ℕ) (d : Data) → IsWhole d → depth d ≤ n → has_float d ≡ false → IsGood n (outline d)
  good n null whole deep plain = tt
  good n (boolean b) whole deep plain = tt
  good n (number x) whole deep plain = number_good x n whole plain
  good n (string s) whole deep plain = whole
  good zero (array ds) whole deep plain = absurd (omega (arith, deep))
  good (suc n) (array ds) whole deep plain = items_good n ds whole (omega (arith, deep)) plain
  good zero (object ms) whole deep plain = absurd (omega (arith, deep))
  good (suc n) (object ms) whole deep plain = members_good n ms whole (omega (arith, deep)) plain

  pub items_good : (n : ℕ) (ds : Items) → AreWholeItems ds → items_depth ds ≤ n → items_have_float ds ≡ false → AreGood n (items_outline ds)
  items_good n no_items whole deep plain = tt
  items_good n (item d ds) whole deep plain =
      let p = or_parts (has_float d) (items_have_float ds) plain in
      (good n d whole.0 (omega (arith, deep)) p.0, items_good n ds whole.1 (omega (arith, deep)) p.1)

  members_good : (n : ℕ) (ms : Members) → AreWholeMembers ms → members_depth ms ≤ n → members_have_float ms ≡ false → HasGood n (members_outline ms)
  members_good n no_members whole deep plain = tt
  members_good n (member k d ms) whole deep plain =
      let p = or_parts (has_float d) (members_have_float ms) plain in
      (whole.0, (good n d whole.1.0 (omega (arith, deep)) p.0, members_good n ms whole.1.1.1 (omega (arith, deep)) p.1))

number_again : (x : Num) → IsWholeNumber x → is_float x ≡ false → of_json (json.number (number_text x)) ≡ Some (number x)
number_again (unsigned n) s plain = ap (option_map number) (number_of-decimal n s)
number_again (negative (pos n)) s plain = absurd s
number_again (negative (negsuc n)) s plain = ap (option_map number) (number_of-negative n s)
number_again (float x) s plain = absurd (cc)

mutual
  pub again : (d : Data) → IsWhole d → has_float d ≡ false → of_json (outline d) ≡ Some d
  again null s plain = refl
  again (boolean b) s plain = refl
  again (number x) s plain = number_again x s plain
  again (string t) s plain = refl
  again (array ds) s plain = ap (option_map array) (items_again ds s plain)
  again (object ms) s plain = ap (option_map object) (members_again ms no_members s plain (none_below ms))

  pub items_again : (ds : Items) → AreWholeItems ds → items_have_float ds ≡ false → of_items (items_outline ds) ≡ Some ds
  items_again no_items s plain = refl
  items_again (item d ds) s plain =
      let p = or_parts (has_float d) (items_have_float ds) plain in
      ap (option_and_then (λ e. option_map (item e) (of_items (items_outline ds)))) (again d s.0 p.0) ∙ ap (option_map (item d)) (items_again ds s.1 p.1)

  members_again : (ms found : Members) → AreWholeMembers ms → members_have_float ms ≡ false → AreBelowFirst found ms → of_members (members_outline ms) found ≡ Some (join found ms)
  members_again no_members found s plain below = ap Some (join_nil found)
  members_again (member k d ms) found s plain below =
      let p = or_parts (has_float d) (members_have_float ms) plain in
      ap (option_and_then (λ e. of_members (members_outline ms) (put k e found))) (again d s.1.0 p.0)
      ∙ ap (of_members (members_outline ms)) (put_last k d found below)
      ∙ members_again ms (join found (member k d no_members)) s.1.1.1 p.1 (below_first found k d ms below s.1.1.0)
      ∙ ap Some (join_one found k d ms)

-- The values of a line: their texts, and what stands in them.
use Rattle.std.proofs.Common.{◌≡◌, ℕ, suc, ◌≤◌, false, List, [], ap, ◌∙◌, subst, arith, Some, Less, Equal, Greater}
use Rattle.std.specs.Prelude.{if◌then◌else◌}
use Rattle.std.specs.declared.cmp.Ordering.{Ordering}
use Rattle.std.specs.Ordering.{nat_cmp, match_ordering}
use Rattle.std.specs.Cmp.Lexicographic.{slice_cmp}
use Rattle.std.proofs.lemmas.Bool.{or_parts}
use Rattle.serde_json.specs.Data.{Data, null, boolean, number, string, array, object, Items, item, Members, no_members, member, depth, items_depth, members_depth}
use Rattle.serde_json.specs.Find.{get_member, get}
use Rattle.serde_json.specs.Read.{of_json}
use Rattle.serde_json.specs.Written.{compact_text, outline, has_float, items_have_float, members_have_float}
use Rattle.mega_json_laws.specs.Whole.{IsWhole, AreWholeItems, AreWholeMembers}
use Rattle.mega_two_driver.specs.Texts.{value_text}
use Rattle.mega_two_outcome_laws.proofs.Trees.{text_of, IsGood, value_is}
use Rattle.mega_two_outcome_laws.proofs.Outline.{good, again}

-- ---- a value that was read, with no float, nested no deeper than n

pub record IsHeld (n : ℕ) (d : Data) : Type 0 where
  pub whole : IsWhole d
  pub deep : depth d ≤ n
  pub plain : has_float d ≡ false

pub record AreHeld (n : ℕ) (ds : Items) : Type 0 where
  pub whole : AreWholeItems ds
  pub deep : items_depth ds ≤ n
  pub plain : items_have_float ds ≡ false

pub held_good : (n : ℕ) (d : Data) → IsHeld n d → IsGood n (outline d)
held_good n d h = good n d h.whole h.deep h.plain

pub held_again : (n : ℕ) (d : Data) → IsHeld n d → of_json (outline d) ≡ Some d
held_again n d h = again d h.whole h.plain

pub value_said : (n : ℕ) (d : Data) → IsHeld n d → value_text d ≡ text_of (outline d)
value_said n d h = ap (λ b. if b then [] else compact_text d) h.plain ∙ value_is d

pub held_higher : (n m : ℕ) (d : Data) → n ≤ m → IsHeld n d → IsHeld m d
held_higher n m d below h = record { whole = h.whole; deep = omega (arith, below, h.deep); plain = h.plain }

-- ---- what stands in it

pub held_items : (n : ℕ) (ds : Items) → IsHeld (suc n) (array ds) → AreHeld n ds
held_items n ds h = record { whole = h.whole; deep = omega (arith, h.deep); plain = h.plain }

pub held_first : (n : ℕ) (d : Data) (ds : Items) → AreHeld n (item d ds) → IsHeld n d
held_first n d ds h = record { whole = (h.whole).0; deep = omega (arith, h.deep); plain = (or_parts (has_float d) (items_have_float ds) h.plain).0 }

pub held_behind : (n : ℕ) (d : Data) (ds : Items) → AreHeld n (item d ds) → AreHeld n ds
held_behind n d ds h = record { whole = (h.whole).1; deep = omega (arith, h.deep); plain = (or_parts (has_float d) (items_have_float ds) h.plain).1 }

held_member : (n : ℕ) (k : List ℕ) (ms : Members) (y : Data) → AreWholeMembers ms → members_depth ms ≤ n → members_have_float ms ≡ false → get_member k ms ≡ Some y → IsHeld n y
held_member n k no_members y whole deep plain e = absurd (cc)
held_member n k (member l d ms) y whole deep plain e =
    let p = or_parts (has_float d) (members_have_float ms) plain in
    by (slice_cmp nat_cmp k l) (record { whole = whole.1.0; deep = omega (arith, deep); plain = p.0 }) (held_member n k ms y whole.1.1.1 (omega (arith, deep)) p.1) e
  where
    by : (o : Ordering) → IsHeld n d → (get_member k ms ≡ Some y → IsHeld n y) → match_ordering o (get_member k ms) (Some d) (get_member k ms) ≡ Some y → IsHeld n y
    by Less one rest g = rest g
    by Equal one rest g = let same : d ≡ y = cc in subst (IsHeld n) same one
    by Greater one rest g = rest g

pub held_get : (n : ℕ) (k : List ℕ) (d y : Data) → IsHeld (suc n) d → get k d ≡ Some y → IsHeld n y
held_get n k null y h e = absurd (cc)
held_get n k (boolean b) y h e = absurd (cc)
held_get n k (number x) y h e = absurd (cc)
held_get n k (string s) y h e = absurd (cc)
held_get n k (array ds) y h e = absurd (cc)
held_get n k (object ms) y h e = held_member n k ms y h.whole (omega (arith, h.deep)) h.plain e

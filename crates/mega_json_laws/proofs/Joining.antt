-- Members that go into an object one after another, in order.
use Rattle.std.proofs.Common.{◌≡◌, List, ℕ, refl, ap, ◌∙◌, Less, Greater, nat_cmp}
use Rattle.std.specs.Ordering.{ordering_reverse}
use Rattle.std.specs.Cmp.Lexicographic.{slice_cmp}
use Rattle.std.proofs.lemmas.Cmp.{nat_list_cmp_total}
use Rattle.serde_json.specs.Data.{Data, Members, no_members, member, put}
use Rattle.mega_json_laws.specs.Whole.{IsBelow}

abbrev pub join : Members → Members → Members
join no_members ms = ms
join (member k d found) ms = member k d (join found ms)

pub join_nil : (found : Members) → found ≡ join found no_members
join_nil no_members = refl
join_nil (member k d found) = ap (member k d) (join_nil found)

pub join_one : (found : Members) (k : List ℕ) (d : Data) (ms : Members) → join (join found (member k d no_members)) ms ≡ join found (member k d ms)
join_one no_members k d ms = refl
join_one (member l e found) k d ms = ap (member l e) (join_one found k d ms)

-- each name is below this one
abbrev pub AreBelow : Members → List ℕ → Type 0
AreBelow no_members k = Unit {0}
AreBelow (member l e found) k = (slice_cmp nat_cmp l k ≡ Less) × AreBelow found k

abbrev pub AreBelowFirst : Members → Members → Type 0
AreBelowFirst found no_members = Unit {0}
AreBelowFirst found (member k d ms) = AreBelow found k

pub put_last : (k : List ℕ) (d : Data) (found : Members) → AreBelow found k → put k d found ≡ join found (member k d no_members)
put_last k d no_members h = refl
put_last k d (member l e found) h =
    let above : slice_cmp nat_cmp k l ≡ Greater = nat_list_cmp_total.antisymm k l ∙ ap ordering_reverse h.0 in
    rw above (ap (member l e) (put_last k d found h.1))

pub below_next : (found : Members) (k : List ℕ) (d : Data) (l : List ℕ) → AreBelow found k → slice_cmp nat_cmp k l ≡ Less → AreBelow (join found (member k d no_members)) l
below_next no_members k d l h less = (less, tt)
below_next (member m e found) k d l h less = (nat_list_cmp_total.trans m k l h.0 less, below_next found k d l h.1 less)

pub below_first : (found : Members) (k : List ℕ) (d : Data) (ms : Members) → AreBelow found k → IsBelow k ms → AreBelowFirst (join found (member k d no_members)) ms
below_first found k d no_members h below = tt
below_first found k d (member l e ms) h below = below_next found k d l h below

pub none_below : (ms : Members) → AreBelowFirst no_members ms
none_below no_members = tt
none_below (member k d ms) = tt

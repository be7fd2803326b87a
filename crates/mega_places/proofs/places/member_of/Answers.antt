use Rattle.std.proofs.Common.{◌≡◌, ◌∙◌, ◌-◌, refl, ap, sym, Option, Some, None, if◌then◌else◌, slice_get, length, arith, ℕ, false, List, Bor}
use Rattle.std.proofs.lemmas.Bool.Decides.{nat_tests}
use Rattle.std.proofs.lemmas.Option.{slice_get_past, slice_get_read}
use Rattle.std.specs.Prelude.{◌==◌}
use Rattle.std.specs.Option.{option_copied}
use Rattle.std.specs.Slice.{IsItemAt}
use Rattle.mega_places.specs.declared.place.Place.{Place as PlaceValue}
use Rattle.mega_places.specs.Members.{member_in, member_of}
use Rattle.mega_places.proofs.places.member_of.Goals as goal

-- what is lent is what stands there
lent : {X : Type 0} (xs : List X) (i : ℕ) (found : Option (Bor X)) → IsItemAt xs i found → option_copied found ≡ slice_get xs i
lent xs i None is = sym (slice_get_past xs i is.3)
lent xs i (Some one) is = sym (slice_get_read xs (length xs) i one.now refl is.3.0 (is.3.1 one.now))

at_number : (places : List PlaceValue) (me : ℕ) → (me ≡ 0 → ⊥) → member_in (slice_get places (me - 1)) ≡ member_of places me
at_number places me some =
    let apart : (me == 0) ≡ false = grind (arith, nat_tests) in
    ap (λ none. if none then None else member_in (slice_get places (me - 1))) (sym apart)

pub returns : goal.returns
returns c =
    let found : option_copied c.get.result ≡ slice_get c.args.places.now (c.args.me - 1) = lent c.args.places.now (c.args.me - 1) c.get.result c.get.ensures.lookup in
    c.member_in.ensures ∙ (ap member_in found ∙ at_number c.args.places.now c.args.me c.if-me-eq0.false)

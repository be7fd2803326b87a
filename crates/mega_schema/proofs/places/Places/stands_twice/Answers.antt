use Rattle.std.proofs.Common.{◌≡◌, ℕ, ◌+◌, ◌<◌, List, length, get_or, false, true, refl, sym, ap, ◌∙◌, subst}
use Rattle.mega_schema.specs.Lookup.{stands_twice}
use Rattle.mega_schema.specs.Named.{place_of, stands_at}
use Rattle.mega_schema.proofs.Naming.{twice_first, goes_on, found_twice}
use Rattle.mega_schema.proofs.places.Places.stands_twice.Goals as goal

pub loop-name-init : goal.loop-name-init
loop-name-init c = (refl, sym (twice_first c.args.self.now))

pub returns-then-not-stands_first : goal.returns-then-not-stands_first
returns-then-not-stands_first c =
    let names = c.args.self.now in
    let i = c.loop-name.name-index in
    let item = c.name-item.result in
    let listed : c.as_slice-name-items.result.now ≡ names = c.as_slice-name-items.ensures.value ∙ c.self.view_is in
    let within : i < length names = subst (λ (xs : List (List ℕ)). i < length xs) listed c.loop-name-test.true in
    let at : item ≡ get_or names i item = c.name-item.is ∙ ap (λ (xs : List (List ℕ)). get_or xs i item) listed in
    let stands : stands_at (place_of names item) i ≡ false = ap (stands_at (place_of names item)) (sym c.loop-name.invariant.0) ∙ sym c.stands_first.ensures ∙ c.if-not-stands_first.true in
    found_twice names i item within at (stands_twice names) c.loop-name.invariant.1 stands

pub loop-name-preserved : goal.loop-name-preserved
loop-name-preserved c =
    let names = c.args.self.now in
    let i = c.loop-name.name-index in
    let item = c.name-item.result in
    let listed : c.as_slice-name-items.result.now ≡ names = c.as_slice-name-items.ensures.value ∙ c.self.view_is in
    let within : i < length names = subst (λ (xs : List (List ℕ)). i < length xs) listed c.loop-name-test.true in
    let at : item ≡ get_or names i item = c.name-item.is ∙ ap (λ (xs : List (List ℕ)). get_or xs i item) listed in
    let stands : stands_at (place_of names item) i ≡ true = ap (stands_at (place_of names item)) (sym c.loop-name.invariant.0) ∙ sym c.stands_first.ensures ∙ c.if-not-stands_first.false in
    (ap (λ k. k + 1) c.loop-name.invariant.0, goes_on names i item within at (stands_twice names) c.loop-name.invariant.1 stands)

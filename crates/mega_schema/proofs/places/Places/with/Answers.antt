use Rattle.std.proofs.Common.{ℕ, List, [], ◌∷◌, ◌++◌, length, sym, ap, ◌∙◌}
use Rattle.std.specs.Ordering.{nat_cmp}
use Rattle.std.specs.Cmp.Lexicographic.{slice_cmp}
use Rattle.std.specs.BTreeMap.{get}
use Rattle.mega_syntax.specs.Names.{same}
use Rattle.mega_schema.specs.Named.{place_of, or_place}
use Rattle.mega_schema.proofs.Naming.{finds_more}
use Rattle.mega_schema.proofs.places.Places.with.Goals as goal

pub invariant_of-result : goal.invariant_of-result
invariant_of-result c = λ n.
    finds_more c.self.inside.by_name c.note.new.by_name c.self.inside.names.items c.args.name.now c.self.invariant (λ m. c.in_ok-note.ensures m ∙ ap (or_place (get (slice_cmp nat_cmp) c.self.inside.by_name m) (same c.args.name.now m)) (ap (λ (xs : List (List ℕ)). length xs) c.as_slice.ensures.value)) n
    ∙ ap (λ (name : List ℕ). place_of (c.self.inside.names.items ++ name ∷ []) n) (sym c.again.ensures)
    ∙ ap (λ (xs : List (List ℕ)). place_of xs n) (sym c.in_ok-push.ensures.items)

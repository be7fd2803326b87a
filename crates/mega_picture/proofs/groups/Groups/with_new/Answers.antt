use Rattle.std.proofs.Common.{List, ℕ, [], ◌∷◌, ◌++◌, ◌+◌, sym, ap, ◌∙◌}
use Rattle.std.specs.Ordering.{nat_cmp}
use Rattle.std.specs.Cmp.Lexicographic.{slice_cmp}
use Rattle.std.specs.BTreeMap.{get}
use Rattle.mega_syntax.specs.Names.{same}
use Rattle.mega_schema.specs.Named.{or_place}
use Rattle.mega_picture.specs.Groups.{place_of}
use Rattle.mega_picture.proofs.Numbering.{numbers_more}
use Rattle.mega_picture.proofs.groups.Groups.with_new.Goals as goal

pub invariant_of-result : goal.invariant_of-result
invariant_of-result c = λ n.
    numbers_more c.self.inside.numbers c.note.new.numbers c.self.inside.keys c.args.key.now c.self.invariant (λ m. c.in_ok-note.ensures m ∙ ap (λ (k : ℕ). or_place (get (slice_cmp nat_cmp) c.self.inside.numbers m) (same c.args.key.now m) (k + 1)) c.len.ensures) n
    ∙ ap (λ (key : List ℕ). place_of (c.self.inside.keys ++ key ∷ []) n) (sym c.in_ok-copy.ensures)
    ∙ ap (λ (keys : List (List ℕ)). place_of keys n) (sym c.in_ok-push.ensures.ok)

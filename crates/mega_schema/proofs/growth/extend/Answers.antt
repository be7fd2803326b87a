use Rattle.std.proofs.Common.{ℕ, List, ◌++◌, sym, ap, ◌∙◌}
use Rattle.std.specs.Prelude.{slice_set}
use Rattle.std.specs.List.{insert}
use Rattle.mega_schema.specs.Rules.{words_names}
use Rattle.mega_schema.proofs.Naming.{put_back}
use Rattle.mega_schema.proofs.Growing.{extended}
use Rattle.mega_schema.proofs.growth.extend.Goals as goal

pub returns : goal.returns
returns c =
    let lists = c.args.names.now.items in
    let place = c.args.place in
    let more = c.in_ok-and.field-0 in
    c.in_ok-insert.ensures.items ∙ ap (λ (ls : List (List (List ℕ))). insert ls place more) c.remove-old.ensures.items ∙ put_back lists place more c.requires
    ∙ ap (slice_set lists place) c.in_ok-and.ensures ∙ sym (extended lists (words_names c.args.words.now) place c.remove-old.result c.requires c.remove-old.ensures.value)

-- What notes show, one by one.
use Rattle.std.proofs.Common.{◌≡◌, ℕ, List, [], ◌∷◌, ◌++◌, ap, append_assoc, subst, sym, ◌∙◌}
use Rattle.std.specs.List.{All}
use Rattle.std.proofs.lemmas.List.Elements.{All-append, All-cons, All-nil}
use Rattle.mega_transcript.specs.declared.item.Item.{Item}
use Rattle.mega_transcript.specs.Lines.{HasLine}
use Rattle.mega_promises.specs.Items.{shown}
use Rattle.mega_durable.specs.of_core.of_step_parts.declared.note.Note.{Note}
use Rattle.mega_durable.specs.of_core.of_step_parts.Notes.{met_of}
use Rattle.mega_server.specs.Forming.{notes_shown}

one_more : (me : ℕ) (notes : List Note) (note : Note) (item : Item) → shown me (met_of note) ≡ item ∷ [] → notes_shown me (notes ++ note ∷ []) ≡ notes_shown me notes ++ item ∷ []
one_more me [] note item is = ap (λ (made : List Item). made ++ []) is
one_more me (first ∷ notes) note item is =
    ap (λ (rest : List Item). shown me (met_of first) ++ rest) (one_more me notes note item is) ∙ sym (append_assoc (shown me (met_of first)) (notes_shown me notes) (item ∷ []))

pub shown_more : (me : ℕ) (notes : List Note) (note : Note) (item : Item) (items after : List Item) → shown me (met_of note) ≡ item ∷ [] → items ≡ notes_shown me notes → after ≡ items ++ item ∷ [] → after ≡ notes_shown me (notes ++ note ∷ [])
shown_more me notes note item items after is were pushed = pushed ∙ (ap (λ (before : List Item). before ++ item ∷ []) were ∙ sym (one_more me notes note item is))

pub lined_more : (item : Item) (items after : List Item) → HasLine item → All HasLine items → after ≡ items ++ item ∷ [] → All HasLine after
lined_more item items after has were pushed = subst (All HasLine) (sym pushed) (All-append HasLine items (item ∷ []) were (All-cons HasLine item [] has (All-nil HasLine)))

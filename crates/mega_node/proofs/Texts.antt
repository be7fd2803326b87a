-- Texts of lines, one after another.
use Rattle.std.proofs.Common.{◌≡◌, ℕ, ◌+◌, ◌<◌, List, [], ◌∷◌, ◌++◌, Option, add-one, ap, append-nil, append_assoc, get_or, length, map, refl, subst, sym, take, ◌∙◌, arith}
use Rattle.std.specs.Io.KnownBytes.{Appends}
use Rattle.std.proofs.Math.Seq.{take-suc}
use Rattle.std.proofs.lemmas.Grind.{flat_map-append}
use Rattle.std.proofs.lemmas.List.{take_all}
use Rattle.mega_io.specs.Pieces.{AppendsFront}
use Rattle.mega_promises.specs.Served.{Noted}
use Rattle.mega_schema.specs.declared.schema.Schema.{Schema}
use Rattle.mega_serve.specs.Lines.{record_text}
use Rattle.mega_transcript.specs.declared.item.Item.{Item}
use Rattle.mega_transcript.specs.Lines.{line, lines}

one_on : (schema : Schema) (items : List Item) (item : Item) → lines schema (items ++ item ∷ []) ≡ lines schema items ++ line schema item
one_on schema items item = flat_map-append (line schema) items (item ∷ []) ∙ ap (λ (more : List ℕ). lines schema items ++ more) (append-nil (line schema item))

-- the line of the next item
pub next_line : (schema : Schema) (items : List Item) (i : ℕ) (item : Item) → i < length items → item ≡ get_or items i item → (before out next : List ℕ)
    → out ≡ before ++ lines schema (take i items) → next ≡ out ++ line schema item → next ≡ before ++ lines schema (take (i + 1) items)
next_line schema items i item within is before out next were told =
    let front : take (i + 1) items ≡ take i items ++ item ∷ [] = rw add-one (take-suc items i item within) ∙ ap (λ one. take i items ++ one ∷ []) (sym is) in
    told ∙ ap (λ (text : List ℕ). text ++ line schema item) were ∙ append_assoc before (lines schema (take i items)) (line schema item)
    ∙ ap (λ (text : List ℕ). before ++ text) (sym (one_on schema (take i items) item) ∙ ap (lines schema) (sym front))

-- what is noted is told as on a tape
pub noted_text : (schema : Schema) (items : List Item) → record_text schema (map Noted items) ≡ lines schema items
noted_text schema [] = refl
noted_text schema (item ∷ items) = ap (λ (text : List ℕ). line schema item ++ text) (noted_text schema items)

pub started_text : (schema : Schema) (item : Item) (items : List Item) → line schema item ++ lines schema items ≡ record_text schema (map Noted (item ∷ items))
started_text schema item items = ap (λ (text : List ℕ). line schema item ++ text) (sym (noted_text schema items))

-- what was added is a front of itself
pub all_front : (held more : Option (List ℕ)) (text : List ℕ) → Appends held more text → AppendsFront held more text
all_front held more text added = (length text, subst (Appends held more) (sym (take_all (length text) text (omega arith))) added)

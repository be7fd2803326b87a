-- The text of a tape grows with the tape.
use Rattle.std.proofs.Common.{◌≡◌, ℕ, ◌+◌, ◌<◌, Option, None, List, [], ◌∷◌, ◌++◌, length, take, drop, get_or, refl, sym, ◌∙◌, ap, subst, add-one, append_assoc, append-nil}
use Rattle.std.specs.Prelude.{Result, Ok, Err, OnErr}
use Rattle.std.proofs.Math.Seq.{take-suc}
use Rattle.std.proofs.lemmas.List.{take-append-drop, take_more}
use Rattle.std.proofs.lemmas.Grind.{flat_map-append}
use Rattle.mega_schema.specs.declared.schema.Schema.{Schema}
use Rattle.mega_tally.specs.declared.tally.Tally.{Tally}
use Rattle.mega_tally.specs.Counting.{Counts}
use Rattle.mega_transcript.specs.declared.item.Item.{Item}
use Rattle.mega_transcript.specs.Lines.{line, lines as text_of}
use Rattle.mega_transcript.specs.Tape.{onto, newest}
use Rattle.mega_words.specs.declared.command.Report.{Report}
use Rattle.mega_words.specs.declared.command.Report.TheVariants.{Transcript, Summary}
use Rattle.mega_transcript.proofs.Tapes.{onto-append, newest-append}
use Rattle.mega_replay_output.specs.Progress.{Writes, WritesFront}
use Rattle.mega_replay_output.specs.Texts.{IsTallied, so_far}
use Rattle.mega_replay_output.proofs.Progress.{more_waits, wrote_on, wrote_front, longer_front}

onto_front : (xs tape : List Item) → onto xs tape ≡ newest xs ++ tape
onto_front [] tape = refl
onto_front (x ∷ xs) tape = onto_front xs (x ∷ tape) ∙ sym (append_assoc (newest xs) (x ∷ []) tape) ∙ ap (λ front. front ++ tape) (sym (onto_front xs (x ∷ [])))

pub newest_twice : (xs : List Item) → newest (newest xs) ≡ xs
newest_twice [] = refl
newest_twice (x ∷ xs) = ap newest (onto_front xs (x ∷ [])) ∙ newest-append (newest xs) x ∙ ap (λ ys. x ∷ ys) (newest_twice xs)

newest_after : (xs ys : List Item) → newest (xs ++ ys) ≡ newest ys ++ newest xs
newest_after xs ys = onto-append xs ys [] ∙ onto_front ys (newest xs)

-- the oldest items stand first of a tape onto which these came
pub newest_onto : (added tape : List Item) → newest (onto added tape) ≡ newest tape ++ added
newest_onto added tape = ap newest (onto_front added tape) ∙ newest_after (newest added) tape ∙ ap (λ (items : List Item). newest tape ++ items) (newest_twice added)

-- what is written of items and then of others is written of both
text_on : (report : Report) (schema : Schema) (items added : List Item) → so_far report schema items ++ so_far report schema added ≡ so_far report schema (items ++ added)
text_on Transcript schema items added = sym (flat_map-append (line schema) items added)
text_on Summary schema items added = refl

-- where the text of the tape before was written, and then that of what a line added, the text of both was written
pub written_on : (report : Report) (schema : Schema) (first mid now : Option (List ℕ)) (waiting later : List ℕ) (items added : List Item) → Writes first mid waiting (so_far report schema items)
    → Writes mid now later (waiting ++ so_far report schema added) → Writes first now later (so_far report schema (items ++ added))
written_on report schema first mid now waiting later items added before after =
    let more = so_far report schema added in
    subst (Writes first now later) (text_on report schema items added)
    (wrote_on first mid now (waiting ++ more) later (so_far report schema items ++ more) (more_waits first mid waiting (so_far report schema items) more before) after)

pub front_on : (report : Report) (schema : Schema) (first mid now : Option (List ℕ)) (waiting later : List ℕ) (items added : List Item) → Writes first mid waiting (so_far report schema items)
    → WritesFront mid now later (waiting ++ so_far report schema added) → WritesFront first now later (so_far report schema (items ++ added))
front_on report schema first mid now waiting later items added before after =
    let more = so_far report schema added in
    subst (WritesFront first now later) (text_on report schema items added)
    (wrote_front first mid now (waiting ++ more) later (so_far report schema items ++ more) (more_waits first mid waiting (so_far report schema items) more before) after)

-- where nothing waited before, the text of the first items was written
pub begun_text : (report : Report) (schema : Schema) (before held : Option (List ℕ)) (was waiting : List ℕ) (items tape : List Item) → was ≡ [] → items ≡ tape → Writes before held waiting (was ++ so_far report schema items)
    → Writes before held waiting (so_far report schema tape)
begun_text report schema before held was waiting items tape none is written =
    subst (Writes before held waiting) (ap (λ (xs : List ℕ). xs ++ so_far report schema items) none ∙ ap (so_far report schema) is) written

pub begun_front : (report : Report) (schema : Schema) (before held : Option (List ℕ)) (was waiting : List ℕ) (items tape : List Item) → was ≡ [] → items ≡ tape → WritesFront before held waiting (was ++ so_far report schema items)
    → WritesFront before held waiting (so_far report schema tape)
begun_front report schema before held was waiting items tape none is written =
    subst (WritesFront before held waiting) (ap (λ (xs : List ℕ). xs ++ so_far report schema items) none ∙ ap (so_far report schema) is) written

-- whatever a call answers
pub on_err_anyway : {T E : Type 0} (result : Result T E) (P : Type 0) → P → OnErr result P
on_err_anyway (Ok value) P is = tt
on_err_anyway (Err fault) P is = is

-- before any item came
pub tallied_none : (report : Report) (tally : Tally) → Counts tally [] → IsTallied report tally []
tallied_none Transcript tally counts = tt
tallied_none Summary tally counts = counts

-- so many items are counted, and then the next
pub counted_more : (Is : List Item → Type 0) (before items : List Item) (i : ℕ) (item : Item) → i < length items → item ≡ get_or items i item → Is ((before ++ take i items) ++ item ∷ []) → Is (before ++ take (i + 1) items)
counted_more Is before items i item within is all =
    subst Is (append_assoc before (take i items) (item ∷ []) ∙ ap (λ (one : Item). before ++ (take i items ++ one ∷ [])) is ∙ ap (λ (rest : List Item). before ++ rest) (sym (take_more items i item within))) all

-- the line of the next item
text_more : (schema : Schema) (items : List Item) (i : ℕ) (item : Item) → i < length items → item ≡ get_or items i item → text_of schema (take (i + 1) items) ≡ text_of schema (take i items) ++ line schema item
text_more schema items i item within is =
    rw add-one (ap (text_of schema) (take-suc items i item within)) ∙ flat_map-append (line schema) (take i items) (get_or items i item ∷ [])
    ∙ ap (λ (xs : List ℕ). text_of schema (take i items) ++ xs) (append-nil (line schema (get_or items i item)) ∙ ap (line schema) (sym is))

lines_more : (start : List ℕ) (schema : Schema) (items : List Item) (i : ℕ) (item : Item) → i < length items → item ≡ get_or items i item
    → (start ++ text_of schema (take i items)) ++ line schema item ≡ start ++ text_of schema (take (i + 1) items)
lines_more start schema items i item within is =
    append_assoc start (text_of schema (take i items)) (line schema item) ∙ ap (λ (xs : List ℕ). start ++ xs) (sym (text_more schema items i item within is))

pub item_written : (before mid after : Option (List ℕ)) (start waiting later : List ℕ) (schema : Schema) (items : List Item) (i : ℕ) (item : Item) → i < length items → item ≡ get_or items i item
    → Writes before mid waiting (start ++ text_of schema (take i items)) → Writes mid after later (waiting ++ line schema item) → Writes before after later (start ++ text_of schema (take (i + 1) items))
item_written before mid after start waiting later schema items i item within is written next =
    let front = start ++ text_of schema (take i items) in
    let one = line schema item in
    subst (Writes before after later) (lines_more start schema items i item within is) (wrote_on before mid after (waiting ++ one) later (front ++ one) (more_waits before mid waiting front one written) next)

pub item_cut : (before mid after : Option (List ℕ)) (start waiting later : List ℕ) (schema : Schema) (items : List Item) (i : ℕ) (item : Item) → i < length items → item ≡ get_or items i item
    → Writes before mid waiting (start ++ text_of schema (take i items)) → WritesFront mid after later (waiting ++ line schema item) → WritesFront before after later (start ++ text_of schema items)
item_cut before mid after start waiting later schema items i item within is written next =
    let front = start ++ text_of schema (take i items) in
    let one = line schema item in
    let rest = text_of schema (drop (i + 1) items) in
    let whole : (front ++ one) ++ rest ≡ start ++ text_of schema items =
    ap (λ (xs : List ℕ). xs ++ rest) (lines_more start schema items i item within is) ∙ append_assoc start (text_of schema (take (i + 1) items)) rest
    ∙ ap (λ (xs : List ℕ). start ++ xs) (sym (flat_map-append (line schema) (take (i + 1) items) (drop (i + 1) items)) ∙ ap (text_of schema) (take-append-drop (i + 1) items)) in
    subst (WritesFront before after later) whole (longer_front before after later (front ++ one) rest (wrote_front before mid after (waiting ++ one) later (front ++ one) (more_waits before mid waiting front one written) next))

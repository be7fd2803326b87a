-- The items of lines, one line more at a time.
use Rattle.std.proofs.Common.{◌≡◌, ℕ, ◌+◌, ◌<◌, ◌≤◌, List, [], ◌∷◌, ◌++◌, length, drop, get_or, refl, sym, ap, ◌∙◌, append_assoc, append-nil, arith, length-append}
use Rattle.std.specs.Prelude.{Result, Ok, Err}
use Rattle.std.proofs.Math.ListN.{drop_of_length-le}
use Rattle.std.proofs.lemmas.List.{drop_more}
use Rattle.mega_schema.specs.declared.schema.Schema.{Schema}
use Rattle.mega_picture.specs.declared.item_line.ItemLine.{ItemLine}
use Rattle.mega_picture.specs.Pages.{line_number}
use Rattle.picture.specs.declared.refusal.Refusal.{Refusal}
use Rattle.picture.specs.declared.stop.Stop.{Stop}
use Rattle.picture.specs.declared.stop.Stop.TheVariants.{Refused, Source, Sink, NoMemory}
use Rattle.picture.specs.Stops.{Gives}
use Rattle.picture.specs.Drawings.{◌>>=◌, joined, told_of, told_from}

-- these items, and then those of the rest
abbrev pub onto : List ItemLine → Result (List ItemLine) Refusal → Result (List ItemLine) Refusal
onto told rest = rest >>= λ more. Ok (told ++ more)

onto_joined : (told : List ItemLine) (one : ItemLine) (rest : Result (List ItemLine) Refusal) → onto told (joined one rest) ≡ onto (told ++ one ∷ []) rest
onto_joined told one (Ok more) = ap Ok (sym (append_assoc told (one ∷ []) more))
onto_joined told one (Err refusal) = refl

parted : (schema : Schema) (first i : ℕ) (lines : List (List ℕ)) (line : List ℕ) → i < length lines → line ≡ get_or lines i line
    → told_from schema first i (drop i lines) ≡ (told_of schema (line_number first i) line >>= λ one. joined one (told_from schema first (i + 1) (drop (i + 1) lines)))
parted schema first i lines line lt is = ap (told_from schema first i) (drop_more lines i line lt ∙ ap (λ x. x ∷ drop (i + 1) lines) (sym is))

-- a line more was read
pub told_on : (schema : Schema) (first i : ℕ) (lines : List (List ℕ)) (line : List ℕ) (told after : List ItemLine) (one : ItemLine) (whole : Result (List ItemLine) Refusal) → i < length lines → line ≡ get_or lines i line
    → told_of schema (line_number first i) line ≡ Ok one → after ≡ told ++ one ∷ [] → onto told (told_from schema first i (drop i lines)) ≡ whole → onto after (told_from schema first (i + 1) (drop (i + 1) lines)) ≡ whole
told_on schema first i lines line told after one whole lt is read longer was =
    let rest = told_from schema first (i + 1) (drop (i + 1) lines) in
    ap (λ t. onto t rest) longer ∙ (sym (onto_joined told one rest) ∙ (ap (λ r. onto told (r >>= λ o. joined o rest)) (sym read) ∙ (ap (onto told) (sym (parted schema first i lines line lt is)) ∙ was)))

refused : (schema : Schema) (first i : ℕ) (lines : List (List ℕ)) (line : List ℕ) (told : List ItemLine) (refusal : Refusal) (whole : Result (List ItemLine) Refusal) → i < length lines → line ≡ get_or lines i line
    → told_of schema (line_number first i) line ≡ Err refusal → onto told (told_from schema first i (drop i lines)) ≡ whole → whole ≡ Err refusal
refused schema first i lines line told refusal whole lt is read was =
    let rest = told_from schema first (i + 1) (drop (i + 1) lines) in
    sym was ∙ (ap (onto told) (parted schema first i lines line lt is) ∙ ap (λ r. onto told (r >>= λ o. joined o rest)) read)

-- a line tells no item
pub told_not : (schema : Schema) (first i : ℕ) (lines : List (List ℕ)) (line : List ℕ) (told : List ItemLine) (stop : Stop) (whole : Result (List ItemLine) Refusal) → i < length lines → line ≡ get_or lines i line
    → Gives {A = ItemLine} (Err stop) (told_of schema (line_number first i) line) → onto told (told_from schema first i (drop i lines)) ≡ whole → Gives {A = List ItemLine} (Err stop) whole
told_not schema first i lines line told (Refused refusal) whole lt is read was = refused schema first i lines line told refusal whole lt is read was
told_not schema first i lines line told Source whole lt is read was = absurd read
told_not schema first i lines line told Sink whole lt is read was = absurd read
told_not schema first i lines line told NoMemory whole lt is read was = tt

-- all lines were read
pub told_all : (schema : Schema) (first i : ℕ) (lines : List (List ℕ)) (told : List ItemLine) (whole : Result (List ItemLine) Refusal) → length lines ≤ i → onto told (told_from schema first i (drop i lines)) ≡ whole → whole ≡ Ok told
told_all schema first i lines told whole le was = sym was ∙ (ap (λ ls. onto told (told_from schema first i ls)) (drop_of_length-le lines le) ∙ ap Ok (append-nil told))

-- there are no more items than lines
pub longer : (told after : List ItemLine) (one : ItemLine) (i : ℕ) → length told ≤ i → after ≡ told ++ one ∷ [] → length after ≤ i + 1
longer told after one i le is = omega (arith, le, ap length is, length-append told (one ∷ []))

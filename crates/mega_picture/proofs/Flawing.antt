-- The first line that cannot be drawn, one line more at a time.
use Rattle.std.proofs.Common.{◌≡◌, ℕ, ◌+◌, ◌<◌, List, ◌∷◌, length, drop, get_or, sym, ap, ◌∙◌}
use Rattle.std.specs.Prelude.{Option, Some, None}
use Rattle.std.proofs.lemmas.List.{drop_more}
use Rattle.mega_picture.specs.declared.item_line.ItemLine.{ItemLine}
use Rattle.mega_picture.specs.declared.drawable.Flaw.{Flaw}
use Rattle.mega_picture.specs.Flaws.{flaw_at, flaw_from, or_later}

parted : (told : List ItemLine) (nodes i : ℕ) (one : ItemLine) → i < length told → one ≡ get_or told i one → flaw_from told nodes i (drop i told) ≡ or_later (flaw_at told nodes i one.item) (flaw_from told nodes (i + 1) (drop (i + 1) told))
parted told nodes i one lt is = ap (λ rest. flaw_from told nodes i rest) (drop_more told i one lt ∙ ap (λ x. x ∷ drop (i + 1) told) (sym is))

-- a line without a flaw is passed over
pub flaw_on : (told : List ItemLine) (nodes i : ℕ) (one : ItemLine) (whole : Option Flaw) → i < length told → one ≡ get_or told i one → flaw_at told nodes i one.item ≡ None → flaw_from told nodes i (drop i told) ≡ whole → flaw_from told nodes (i + 1) (drop (i + 1) told) ≡ whole
flaw_on told nodes i one whole lt is none was =
    sym (ap (λ flaw. or_later flaw (flaw_from told nodes (i + 1) (drop (i + 1) told))) none) ∙ (sym (parted told nodes i one lt is) ∙ was)

-- the first flaw is this one
pub flaw_here : (told : List ItemLine) (nodes i : ℕ) (one : ItemLine) (flaw : Flaw) (whole : Option Flaw) → i < length told → one ≡ get_or told i one → flaw_at told nodes i one.item ≡ Some flaw → flaw_from told nodes i (drop i told) ≡ whole → Some flaw ≡ whole
flaw_here told nodes i one flaw whole lt is some was =
    sym (ap (λ f. or_later f (flaw_from told nodes (i + 1) (drop (i + 1) told))) some) ∙ (sym (parted told nodes i one lt is) ∙ was)

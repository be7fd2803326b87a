-- All of a text is a front of it, and so is nothing.
use Rattle.std.proofs.Common.{◌≡◌, ℕ, List, [], ◌∷◌, ◌++◌, length, take, Option, sym, ◌∙◌, ap, subst, append-nil}
use Rattle.std.specs.Io.KnownBytes.{Appends}
use Rattle.std.proofs.KnownBytes.{Appends-nil}
use Rattle.std.proofs.Math.Seq.{take-append_seam}
use Rattle.mega_io.specs.Pieces.{AppendsFront}

pub all_front : (old new : Option (List ℕ)) (text : List ℕ) → Appends old new text → AppendsFront old new text
all_front old new text all = (length text, subst (Appends old new) (sym (ap (take (length text)) (sym (append-nil text)) ∙ take-append_seam text [])) all)

pub unwritten : (old : Option (List ℕ)) (text : List ℕ) → AppendsFront old old text
unwritten old [] = (0, Appends-nil old)
unwritten old (byte ∷ text) = (0, Appends-nil old)

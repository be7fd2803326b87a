-- A text that grows by pieces of an input.
use Rattle.std.proofs.Common.{◌≡◌, ℕ, List, [], ◌++◌, Option, Some, None, refl, sym, ap, ◌∙◌, append_assoc, append-nil}
use Rattle.std.specs.Io.KnownBytes.{Keeps, Consumes, IsAtEnd, prepend_known}
use Rattle.picture.specs.Known.{IsWhole}

-- one piece more was read
pub grown : (old new : Option (List ℕ)) (text piece longer : List ℕ) → Consumes old new piece → longer ≡ text ++ piece → Keeps (prepend_known text old) (prepend_known longer new)
grown None new text piece longer consumes is = tt
grown (Some x) None text piece longer consumes is = absurd consumes
grown (Some x) (Some y) text piece longer consumes is =
    ap (λ l. l ++ y) is ∙ (append_assoc text piece y ∙ ap (λ l. text ++ l) (sym consumes))

pub begun : (old : Option (List ℕ)) → Keeps old (prepend_known [] old)
begun None = tt
begun (Some x) = refl

pub kept_on : (first old new : Option (List ℕ)) → Keeps first old → Keeps old new → Keeps first new
kept_on None old new was is = tt
kept_on (Some x) None new was is = absurd was
kept_on (Some x) (Some y) None was is = absurd is
kept_on (Some x) (Some y) (Some z) was is = is ∙ was

-- nothing is left of it
pub whole : (old new : Option (List ℕ)) (text : List ℕ) → Keeps old (prepend_known text new) → IsAtEnd new → IsWhole old text
whole None new text kept end = tt
whole (Some x) None text kept end = absurd kept
whole (Some x) (Some y) text kept end = sym (append-nil text) ∙ (ap (λ l. text ++ l) (sym end) ∙ kept)

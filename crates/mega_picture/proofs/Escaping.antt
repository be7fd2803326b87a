-- A text that is escaped byte by byte.
use Rattle.std.proofs.Common.{◌≡◌, ℕ, ◌+◌, ◌<◌, List, ◌∷◌, ◌++◌, length, drop, get_or, sym, ap, ◌∙◌, append_assoc}
use Rattle.std.proofs.lemmas.List.{drop_more}
use Rattle.mega_picture.specs.Escape.{escaped, escape_behind}

-- one byte more was written, and the rest is still to come
pub escape_on : (out : List ℕ) (before last : ℕ) (text : List ℕ) (i byte : ℕ) → i < length text → byte ≡ get_or text i byte → (out ++ escaped before last byte) ++ escape_behind last byte (drop (i + 1) text) ≡ out ++ escape_behind before last (drop i text)
escape_on out before last text i byte lt is =
    append_assoc out (escaped before last byte) (escape_behind last byte (drop (i + 1) text))
    ∙ ap (λ rest. out ++ escape_behind before last rest) (ap (λ b. b ∷ drop (i + 1) text) is ∙ sym (drop_more text i byte lt))

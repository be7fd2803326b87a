-- The document of bytes that are text, and of those that are none.
use Rattle.std.proofs.Common.{◌≡◌, List, ℕ, Bool, true, false, cond, Err, refl, ap, IsUtf8}
use Rattle.std.specs.Str.{is_utf8}
use Rattle.std.proofs.lemmas.Str.{IsUtf8-from_is_utf8, is_utf8-from_IsUtf8}
use Rattle.toml.specs.Parse.{parse_document}
use Rattle.mega_cluster.specs.Header.{needed, document_of}

pub document_text : (text : List ℕ) → IsUtf8 text → document_of text ≡ needed 1 (parse_document text)
document_text text h = ap (λ b. cond b (needed 1 (parse_document text)) (Err 1)) (is_utf8-from_IsUtf8 text h)

not_utf8 : (text : List ℕ) (b : Bool) → is_utf8 text ≡ b → (IsUtf8 text → ⊥) → is_utf8 text ≡ false
not_utf8 text true e h = absurd (h (IsUtf8-from_is_utf8 text e))
not_utf8 text false e h = e

pub document_none : (text : List ℕ) → (IsUtf8 text → ⊥) → document_of text ≡ Err 1
document_none text h = ap (λ b. cond b (needed 1 (parse_document text)) (Err 1)) (not_utf8 text (is_utf8 text) refl h)

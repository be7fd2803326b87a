-- The text that a served node writes is that of its record.
use Rattle.std.proofs.Common.{◌≡◌, List, [], ◌∷◌, ◌++◌, refl}
use Rattle.mega_schema.specs.declared.schema.Schema.{Schema}
use Rattle.mega_promises.specs.Records.{record_line, record_text}
use Rattle.mega_promises.specs.Served.{Got, Line, Noted, OfClient, OfNode, Put}
use Rattle.mega_serve.specs.Lines.{line_text, record_text as served_text}

line_is : (schema : Schema) (line : Line) → line_text schema line ≡ record_line schema line
line_is schema (Noted item) = refl
line_is schema (Got (OfNode node) bytes) = refl
line_is schema (Got (OfClient client) bytes) = refl
line_is schema (Put (OfNode node) bytes) = refl
line_is schema (Put (OfClient client) bytes) = refl

pub served_is : (schema : Schema) (lines : List Line) → served_text schema lines ≡ record_text schema lines
served_is schema [] = refl
served_is schema (line ∷ lines) = λ i. line_is schema line i ++ served_is schema lines i

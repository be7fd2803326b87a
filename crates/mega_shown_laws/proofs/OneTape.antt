-- Two runs of one text have one tape.
use Rattle.std.proofs.Common.{◌≡◌, List, [], ◌∷◌, sym, ap, ◌∙◌, subst}
use Rattle.std.specs.Prelude.{All, reverse}
use Rattle.std.proofs.lemmas.List.{reverse-append, reverse-reverse}
use Rattle.mega_cluster.specs.declared.cluster.Cluster.{Cluster}
use Rattle.mega_handler.specs.Named.{Meanings}
use Rattle.mega_schema.specs.declared.schema.Schema.{Schema}
use Rattle.mega_transcript.specs.declared.item.Item.{Item}
use Rattle.mega_transcript.specs.Lines.{lines}
use Rattle.mega_transcript.specs.Plain.{IsPlain}
use Rattle.mega_transcript_reader.proofs.LineEnds.{same_tape}
use Rattle.mega_promises.specs.Runs.{Happening}
use Rattle.mega_tape_laws.specs.Writes.{Usage}
use Rattle.mega_format_laws.specs.Rounds.{Each}
use Rattle.mega_format_laws.proofs.Each.{all_of_each, each_both}
use Rattle.mega_shown_laws.specs.OfFormat.{IsOfFormat}
use Rattle.mega_shown_laws.proofs.Plain.{each_plain}

each_reverse : {X : Type 0} (P : X → Type 0) (xs : List X) → Each P xs → Each P (reverse xs)
each_reverse P [] each = tt
each_reverse P (x ∷ xs) each = subst (Each P) (sym (reverse-append (x ∷ []) xs)) (each_both P (reverse xs) (x ∷ []) (each_reverse P xs each.1) (each.0, tt))

plain_text : (c : Cluster) (usage : Usage) (first : Meanings) (events : List Happening) (tape : List Item) → IsOfFormat c usage first events tape → All (IsPlain c.schema) (reverse tape)
plain_text c usage first events tape is =
    all_of_each (IsPlain c.schema) (reverse tape)
    (each_reverse (IsPlain c.schema) tape (each_plain c usage first events tape is.cluster is.named is.declared is.formed is.meant is.run is.held))

pub text_tells : (c d : Cluster) (usage others : Usage) (first second : Meanings) (events more : List Happening) (tape other : List Item) → IsOfFormat c usage first events tape → IsOfFormat d others second more other
    → c.schema ≡ d.schema → lines c.schema (reverse tape) ≡ lines c.schema (reverse other) → tape ≡ other
text_tells c d usage others first second events more tape other is so same texts =
    sym (reverse-reverse tape)
    ∙ ap reverse (same_tape c.schema (reverse tape) (reverse other) (plain_text c usage first events tape is)
    (subst (λ (k : Schema). All (IsPlain k) (reverse other)) (sym same) (plain_text d others second more other so)) texts)
    ∙ reverse-reverse other

-- The replies that are gathered for the clients are those that the items bring.
use Rattle.std.proofs.Common.{◌≡◌, ℕ, ◌+◌, ◌≤◌, List, [], ◌∷◌, ◌++◌, None, Option, Some, ap, append-nil, append_assoc, arith, length, length-append, map, sym, take, ◌∙◌}
use Rattle.std.specs.Prelude.{option_map}
use Rattle.std.proofs.lemmas.List.{map-append}
use Rattle.mega_schema.specs.declared.schema.Schema.{Schema}
use Rattle.mega_wire.specs.declared.message.Body.TheVariants.{Reply as Replies}
use Rattle.mega_wire.specs.Messages.{message_text}
use Rattle.mega_outcome.specs.declared.answer.Answer.{Answer}
use Rattle.mega_transcript.specs.Answers.{answer_words}
use Rattle.mega_promises.specs.Served.{Line, OfClient, Put, answered_line, joined}
use Rattle.mega_serve.specs.declared.replying.Reply.{Reply}
use Rattle.mega_serve.specs.declared.waiting.Waiting.{Waiting as Waits}
use Rattle.mega_serve.specs.Replies.{put_reply, waiting_of}

-- a client waits for an answer
pub one_more : (me : ℕ) (schema : Schema) (answer : Answer) (found : Option Waits) (one : Waits) (words : List ℕ) (before after : List Reply) → found ≡ Some one → words ≡ joined (answer_words schema answer)
    → after ≡ before ++ (record { client = one.client; token = one.token; words = words }) ∷ []
    → map (put_reply me) after ≡ map (put_reply me) before ++ answered_line schema me answer (option_map waiting_of found)
one_more me schema answer found one words before after is told more =
    ap (map (put_reply me)) more ∙ map-append (put_reply me) before ((record { client = one.client; token = one.token; words = words }) ∷ [])
    ∙ ap (λ (words : List ℕ). map (put_reply me) before ++ Put (OfClient one.client) (message_text (record { from = me; to = 0; body = Replies one.token (take 65000 words) })) ∷ []) told
    ∙ ap (λ (found : Option Waits). map (put_reply me) before ++ answered_line schema me answer (option_map waiting_of found)) (sym is)

-- no client waits for it
pub none_more : (me : ℕ) (schema : Schema) (answer : Answer) (found : Option Waits) (before : List Reply) → found ≡ None → map (put_reply me) before ≡ map (put_reply me) before ++ answered_line schema me answer (option_map waiting_of found)
none_more me schema answer found before is =
    sym (append-nil (map (put_reply me) before)) ∙ ap (λ (found : Option Waits). map (put_reply me) before ++ answered_line schema me answer (option_map waiting_of found)) (sym is)

-- what is put behind a text begins within it
pub within : (old new line : List ℕ) (at : ℕ) → at ≡ length old → new ≡ old ++ line → at ≤ length new
within old new line at place more = omega (arith, place, ap length more, length-append old line)

-- a reply more is on the page, and one less is left
pub next_on : (done lines : List Line) (one : Line) (all left : List Line) → done ++ all ≡ lines → all ≡ one ∷ left → (done ++ one ∷ []) ++ left ≡ lines
next_on done lines one all left so_far first = append_assoc done (one ∷ []) left ∙ ap (λ (xs : List Line). done ++ xs) (sym first) ∙ so_far

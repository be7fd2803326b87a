-- The words of a reply stand in the line of the answer, behind its head.
use Rattle.std.proofs.Common.{◌≡◌, ℕ, ◌+◌, ◌-◌, ◌≤◌, List, [], ◌∷◌, ◌++◌, ap, append-nil, append_assoc, arith, codes, drop, length, length-append, length-take, refl, subst, sym, take, ◌∙◌}
use Rattle.std.specs.List.{flat_map}
use Rattle.std.proofs.Math.Seq.{drop-append_seam, take-append_seam}
use Rattle.mega_base.specs.declared.names.OpId.{OpId}
use Rattle.mega_schema.specs.declared.schema.Schema.{Schema}
use Rattle.mega_outcome.specs.declared.answer.Answer.{Answer}
use Rattle.mega_outcome.specs.declared.answer.Answer.TheVariants.{Committed, Conflict, Turned, Unknown, TimedOut, Read, Found, Refreshed, LogFull, Busy, Worn, NotHere, NothingToDo, NoHandler, Batched, AllTurned}
use Rattle.mega_transcript.specs.declared.item.Item.TheVariants.{Answer as AnswerItem}
use Rattle.mega_transcript.specs.Answers.{answer_words}
use Rattle.mega_transcript.specs.Lines.{line}
use Rattle.mega_transcript.specs.Words.{op_word, spaced}
use Rattle.mega_promises.specs.Served.{joined}

more_spaced : (words : List (List ℕ)) → spaced words ≡ flat_map (λ (next : List ℕ). 32 ∷ next) words ++ 10 ∷ []
more_spaced [] = refl
more_spaced (word ∷ words) =
    ap (λ (rest : List ℕ). (32 ∷ word) ++ rest) (more_spaced words) ∙ sym (append_assoc (32 ∷ word) (flat_map (λ (next : List ℕ). 32 ∷ next) words) (10 ∷ []))

spaced_joined : (word : List ℕ) (words : List (List ℕ)) → spaced (word ∷ words) ≡ 32 ∷ (joined (word ∷ words) ++ 10 ∷ [])
spaced_joined word words =
    ap (λ (rest : List ℕ). 32 ∷ (word ++ rest)) (more_spaced words) ∙ ap (λ (rest : List ℕ). 32 ∷ rest) (sym (append_assoc word (flat_map (λ (next : List ℕ). 32 ∷ next) words) (10 ∷ [])))

-- an answer has a word
abbrev HasWord : List (List ℕ) → Type 0
HasWord [] = ⊥
HasWord (word ∷ words) = Unit {0}

words_spaced : (words : List (List ℕ)) → HasWord words → spaced words ≡ 32 ∷ (joined words ++ 10 ∷ [])
words_spaced [] has = absurd has
words_spaced (word ∷ words) has = spaced_joined word words

answer_spaced : (schema : Schema) (answer : Answer) → spaced (answer_words schema answer) ≡ 32 ∷ (joined (answer_words schema answer) ++ 10 ∷ [])
answer_spaced schema (Committed position replies) = words_spaced (answer_words schema (Committed position replies)) tt
answer_spaced schema (Conflict position other) = words_spaced (answer_words schema (Conflict position other)) tt
answer_spaced schema (Turned turn) = words_spaced (answer_words schema (Turned turn)) tt
answer_spaced schema Unknown = words_spaced (answer_words schema Unknown) tt
answer_spaced schema TimedOut = words_spaced (answer_words schema TimedOut) tt
answer_spaced schema (Read position rows) = words_spaced (answer_words schema (Read position rows)) tt
answer_spaced schema (Found marks rows) = words_spaced (answer_words schema (Found marks rows)) tt
answer_spaced schema (Refreshed marks) = words_spaced (answer_words schema (Refreshed marks)) tt
answer_spaced schema (LogFull position) = words_spaced (answer_words schema (LogFull position)) tt
answer_spaced schema (Busy count) = words_spaced (answer_words schema (Busy count)) tt
answer_spaced schema Worn = words_spaced (answer_words schema Worn) tt
answer_spaced schema (NotHere kind) = words_spaced (answer_words schema (NotHere kind)) tt
answer_spaced schema (NothingToDo marks) = words_spaced (answer_words schema (NothingToDo marks)) tt
answer_spaced schema (NoHandler queue) = words_spaced (answer_words schema (NoHandler queue)) tt
answer_spaced schema (Batched position results) = words_spaced (answer_words schema (Batched position results)) tt
answer_spaced schema (AllTurned results) = words_spaced (answer_words schema (AllTurned results)) tt

abbrev pub head_of : OpId → List ℕ
head_of op = codes "answer" ++ 32 ∷ (op_word op ++ 32 ∷ [])

pub answer_line_is : (schema : Schema) (op : OpId) (answer : Answer) → line schema (AnswerItem op answer) ≡ head_of op ++ (joined (answer_words schema answer) ++ 10 ∷ [])
answer_line_is schema op answer =
    ap (λ (rest : List ℕ). codes "answer" ++ (32 ∷ (op_word op ++ rest))) (answer_spaced schema answer)
    ∙ ap (λ (rest : List ℕ). codes "answer" ++ 32 ∷ rest) (sym (append_assoc (op_word op) (32 ∷ []) (joined (answer_words schema answer) ++ 10 ∷ [])))
    ∙ sym (append_assoc (codes "answer") (32 ∷ (op_word op ++ 32 ∷ [])) (joined (answer_words schema answer) ++ 10 ∷ []))

-- what stands between a front and one byte at the end
pub between : (front middle : List ℕ) (last : ℕ) → take (length (front ++ (middle ++ last ∷ [])) - length front - 1) (drop (length front) (front ++ (middle ++ last ∷ []))) ≡ middle
between front middle last =
    let count : length (front ++ (middle ++ last ∷ [])) - length front - 1 ≡ length middle = omega (arith, length-append front (middle ++ last ∷ []), length-append middle (last ∷ [])) in
    ap (λ (xs : List ℕ). take (length (front ++ (middle ++ last ∷ [])) - length front - 1) xs) (drop-append_seam front (middle ++ last ∷ []))
    ∙ ap (λ (n : ℕ). take n (middle ++ last ∷ [])) count ∙ take-append_seam middle (last ∷ [])

pub long_enough : (front middle : List ℕ) (last : ℕ) → length front + 1 ≤ length (front ++ (middle ++ last ∷ []))
long_enough front middle last = omega (arith, length-append front (middle ++ last ∷ []), length-append middle (last ∷ []))

pub found_between : (line head words found : List ℕ) → line ≡ head ++ (words ++ 10 ∷ []) → found ≡ take (length line - length head - 1) (drop (length head) line) → found ≡ words
found_between line head words found is cut =
    cut ∙ ap (λ (xs : List ℕ). take (length xs - length head - 1) (drop (length head) xs)) is ∙ between head words 10

pub three_joined : (first second third : List ℕ) → (first ++ 32 ∷ second) ++ 32 ∷ third ≡ joined (first ∷ second ∷ third ∷ [])
three_joined first second third =
    append_assoc first (32 ∷ second) (32 ∷ third) ∙ ap (λ (xs : List ℕ). first ++ ((32 ∷ second) ++ xs)) (sym (append-nil (32 ∷ third)))

pub enough_behind : (line head words : List ℕ) → line ≡ head ++ (words ++ 10 ∷ []) → length head + 1 ≤ length line
enough_behind line head words is = subst (λ (xs : List ℕ). length head + 1 ≤ length xs) (sym is) (long_enough head words 10)

pub taken_short : (n : ℕ) (xs text : List ℕ) → text ≡ take n xs → length text ≤ n
taken_short n xs text is = omega (arith, ap length is, length-take n xs)

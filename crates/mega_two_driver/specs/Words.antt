-- What the first word of a reply tells.
use Rattle.std.specs.Prelude.{ℕ, ◌==◌, ◌&&◌, ◌||◌, if◌then◌else◌, Bool, true, false, List, [], ◌∷◌, codes}
use Rattle.mega_two_moves.specs.declared.request_result.RequestResult.{RequestResult}
use Rattle.mega_two_moves.specs.declared.request_result.RequestResult.TheVariants.{Done, Turned, Again, Lost, Refused}

-- the word stands at the front of the text, and the text ends behind it, or a space follows
abbrev pub has_word : List ℕ → List ℕ → Bool
has_word [] [] = true
has_word [] (c ∷ text) = c == 32
has_word (b ∷ word) [] = false
has_word (b ∷ word) (c ∷ text) = (b == c) && has_word word text

-- something came in between
abbrev pub is_again : List ℕ → Bool
is_again reply = (has_word (codes "conflict") reply || has_word (codes "timedout") reply) || has_word (codes "busy") reply

-- the node does not serve it
abbrev pub is_closed : List ℕ → Bool
is_closed reply = (has_word (codes "nothere") reply || has_word (codes "worn") reply) || has_word (codes "refused") reply

-- what the reply to a transaction tells; where the reply is none of those that are known, none knows
unfoldable pub transaction_told : List ℕ → RequestResult
transaction_told reply =
    if has_word (codes "committed") reply then Done
    else (if has_word (codes "turned") reply then Turned
    else (if is_again reply then Again
    else (if is_closed reply || has_word (codes "logfull") reply then Refused else Lost)))

-- what a reply to a read that shows no rows tells
abbrev pub unread_told : List ℕ → RequestResult
unread_told reply = if is_closed reply then Refused else Again

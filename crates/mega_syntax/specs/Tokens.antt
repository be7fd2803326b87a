-- The tokens of a text: each run of letters, digits and '_', and each other byte that is no blank.
use Rattle.std.specs.Prelude.{◌≡◌, ℕ, ◌+◌, Bool, false, ◌&&◌, ◌||◌, List, [], ◌∷◌, take, drop, map, ◌==◌, if◌then◌else◌}
use Rattle.mega_syntax.specs.Names.{is_name_byte}
use Rattle.mega_syntax.specs.declared.token.Token.{Token}

-- space, tab, line feed, carriage return
abbrev pub is_blank : ℕ → Bool
is_blank b = (b == 32) || (b == 9) || (b == 10) || (b == 13)

-- the first token begins here, with a byte of names
abbrev pub continues : ℕ → List Token → Bool
continues at [] = false
continues at (t ∷ ts) = (t.at == at) && (elim t.text [ [] ↦ false | b ∷ bytes ↦ is_name_byte b ])

-- the byte goes to the front of the first token
abbrev pub join : ℕ → ℕ → List Token → List Token
join at b [] = []
join at b (t ∷ ts) = record { at = at; text = b ∷ t.text } ∷ ts

-- the tokens of a text that begins at this offset
abbrev pub tokens_from : ℕ → List ℕ → List Token
tokens_from at [] = []
tokens_from at (b ∷ bytes) =
    let others = tokens_from (at + 1) bytes in
    if is_blank b then others
    else (if is_name_byte b && continues (at + 1) others then join at b others
    else record { at = at; text = b ∷ [] } ∷ others)

abbrev pub tokens : List ℕ → List Token
tokens text = tokens_from 0 text

abbrev pub texts : List Token → List (List ℕ)
texts ts = map (λ t. t.text) ts

-- the first n bytes are the first token
abbrev pub Splits : ℕ → List ℕ → ℕ → Type 0
Splits at bytes n = tokens_from at bytes ≡ record { at = at; text = take n bytes } ∷ tokens_from (at + n) (drop n bytes)

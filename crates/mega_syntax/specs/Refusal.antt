-- Where tokens are refused: through which of them it is decided.
use Rattle.std.specs.Prelude.{◌≡◌, ◌⊎◌, ℕ, suc, ◌+◌, List, [], ◌∷◌, ◌++◌, length, codes}
use Rattle.mega_syntax.specs.declared.words.SchemaWords.{SchemaWords}
use Rattle.mega_syntax.specs.Reading.{Texts}
use Rattle.mega_syntax.specs.Grammar.{Spells}

-- no text of the grammar begins with these tokens
abbrev pub BeginsNoText : Texts → Type 0
BeginsNoText front = (words : SchemaWords) (tail : Texts) → Spells (front ++ tail) words → ⊥

-- the tokens end with a clause of a kind that stands already, which is told by its third word and refused at its first
pub record EndsSecondClause (front back : Texts) (left : ℕ) : Type 0 where
  pub before : Texts
  pub word : List ℕ
  pub spelled : front ≡ before ++ codes "ENTITY" ∷ codes "GROUP" ∷ word ∷ []
  pub place : left ≡ length back + 3

-- why a token from which on so many are left cannot stand: it is decided by the tokens through it, or by two more
abbrev pub Because : Texts → Texts → ℕ → Type 0
Because front back left = (left ≡ suc (length back)) ⊎ EndsSecondClause front back left

-- the tokens begin with some that no text of the grammar begins with, the last of which is the one that is refused, or is the
-- second behind it
pub record IsRefusedAt (ts : Texts) (left : ℕ) : Type 0 where
  pub front : Texts
  pub back : Texts
  pub split : ts ≡ front ++ back
  pub never : BeginsNoText front
  pub because : Because front back left

-- How far a text went out: a front of it was added to what a sink holds, and the rest waits.
use Rattle.std.specs.Prelude.{◌≡◌, ℕ, List, ◌++◌, Option}
use Rattle.std.specs.Io.KnownBytes.{Appends}

-- all of the text was written or waits
pub record Writes (before after : Option (List ℕ)) (waiting text : List ℕ) : Type 0 where
  pub front : List ℕ
  pub written : Appends before after front
  pub whole : text ≡ front ++ waiting

-- a front of the text was written or waits, and what follows is lost
pub record WritesFront (before after : Option (List ℕ)) (waiting text : List ℕ) : Type 0 where
  pub front : List ℕ
  pub lost : List ℕ
  pub written : Appends before after front
  pub whole : text ≡ front ++ (waiting ++ lost)

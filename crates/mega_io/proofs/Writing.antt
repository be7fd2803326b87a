-- How far a write of all bytes has come.
use Rattle.std.proofs.Common.{◌≡◌, ℕ, Option, List, [], ◌++◌, length, take, drop, refl, sym, ◌∙◌, ap, append_assoc, subst}
use Rattle.std.specs.Io.KnownBytes.{Appends, Keeps}
use Rattle.std.proofs.KnownBytes.{Appends-trans, Appends-kept, Appends-nil}
use Rattle.std.proofs.lemmas.List.{take-append-drop}
use Rattle.std.proofs.Math.Seq.{take-append_seam}
use Rattle.mega_io.specs.Pieces.{AppendsFront}

-- the held bytes grew by those that stand before the rest
pub record Written (old new : Option (List ℕ)) (bytes rest : List ℕ) : Type 0 where
  pub front : List ℕ
  pub appends : Appends old new front
  pub whole : bytes ≡ front ++ rest

pub begun : (held : Option (List ℕ)) (bytes : List ℕ) → Written held held bytes bytes
begun held bytes = record { front = []; appends = Appends-nil held; whole = refl }

pub went_on : (a b c : Option (List ℕ)) (bytes rest : List ℕ) (n : ℕ) → Written a b bytes rest → Appends b c (take n rest) → Written a c bytes (drop n rest)
went_on a b c bytes rest n w more = record {
  front = w.front ++ take n rest;
  appends = Appends-trans a b c w.front (take n rest) w.appends more;
  whole = w.whole ∙ ap (λ xs. w.front ++ xs) (sym (take-append-drop n rest)) ∙ sym (append_assoc w.front (take n rest) (drop n rest));
}

pub refused : (a b c : Option (List ℕ)) (bytes rest : List ℕ) → Written a b bytes rest → Keeps b c → AppendsFront a c bytes
refused a b c bytes rest w kept =
    let e : take (length w.front) bytes ≡ w.front = ap (take (length w.front)) w.whole ∙ take-append_seam w.front rest in
    (length w.front, subst (Appends a c) (sym e) (Appends-kept a b c w.front w.appends kept))

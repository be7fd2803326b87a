-- How far a text went out, step by step. What the text is of plays no part here.
use Rattle.std.proofs.Common.{◌≡◌, ℕ, Option, List, [], ◌++◌, length, take, drop, refl, sym, ◌∙◌, ap, subst, append_assoc, append-nil, Result, Ok, Err}
use Rattle.std.specs.Prelude.{OnOk, OnErr}
use Rattle.std.specs.Io.KnownBytes.{Appends}
use Rattle.std.proofs.KnownBytes.{Appends-trans, Appends-nil}
use Rattle.std.proofs.lemmas.List.{take-append-drop}
use Rattle.std.proofs.Math.Seq.{take-append_seam}
use Rattle.mega_io.specs.Pieces.{AppendsFront}
use Rattle.mega_replay_output.specs.Progress.{Writes, WritesFront}

-- all waits that was to be written
pub all_waits : (held : Option (List ℕ)) (waiting : List ℕ) → Writes held held waiting waiting
all_waits held waiting = record { front = []; written = Appends-nil held; whole = refl }

pub nothing_added : (held : Option (List ℕ)) (waiting : List ℕ) → Writes held held waiting (waiting ++ [])
nothing_added held waiting = record { front = []; written = Appends-nil held; whole = append-nil waiting }

pub some_put : (before after : Option (List ℕ)) (waiting text : List ℕ) → waiting ≡ [] → AppendsFront before after text → WritesFront before after waiting text
some_put before after waiting text none written = record {
  front = take written.0 text;
  lost = drop written.0 text;
  written = written.1;
  whole = sym (take-append-drop written.0 text) ∙ ap (λ (rest : List ℕ). take written.0 text ++ (rest ++ drop written.0 text)) (sym none);
}

-- further text waits
pub more_waits : (before after : Option (List ℕ)) (waiting text more : List ℕ) → Writes before after waiting text → Writes before after (waiting ++ more) (text ++ more)
more_waits before after waiting text more w =
    record { front = w.front; written = w.written; whole = ap (λ (xs : List ℕ). xs ++ more) w.whole ∙ append_assoc w.front waiting more }

-- what waited was written, or waits
pub wrote_on : (before mid after : Option (List ℕ)) (waiting later text : List ℕ) → Writes before mid waiting text → Writes mid after later waiting → Writes before after later text
wrote_on before mid after waiting later text w next = record {
  front = w.front ++ next.front;
  written = Appends-trans before mid after w.front next.front w.written next.written;
  whole = w.whole ∙ ap (λ (xs : List ℕ). w.front ++ xs) next.whole ∙ sym (append_assoc w.front next.front later);
}

pub wrote_front : (before mid after : Option (List ℕ)) (waiting later text : List ℕ) → Writes before mid waiting text → WritesFront mid after later waiting → WritesFront before after later text
wrote_front before mid after waiting later text w next = record {
  front = w.front ++ next.front;
  lost = next.lost;
  written = Appends-trans before mid after w.front next.front w.written next.written;
  whole = w.whole ∙ ap (λ (xs : List ℕ). w.front ++ xs) next.whole ∙ sym (append_assoc w.front next.front (later ++ next.lost));
}

-- text that is written whole is a front of itself
pub as_front : (before after : Option (List ℕ)) (waiting text : List ℕ) → Writes before after waiting text → WritesFront before after waiting text
as_front before after waiting text w =
    record { front = w.front; lost = []; written = w.written; whole = w.whole ∙ ap (λ (xs : List ℕ). w.front ++ xs) (sym (append-nil waiting)) }

pub longer_front : (before after : Option (List ℕ)) (waiting text more : List ℕ) → WritesFront before after waiting text → WritesFront before after waiting (text ++ more)
longer_front before after waiting text more w = record {
  front = w.front;
  lost = w.lost ++ more;
  written = w.written;
  whole = ap (λ (xs : List ℕ). xs ++ more) w.whole ∙ append_assoc w.front (waiting ++ w.lost) more ∙ ap (λ (xs : List ℕ). w.front ++ xs) (append_assoc waiting w.lost more);
}

-- at the end nothing waits
pub front_held : (before after : Option (List ℕ)) (front rest text : List ℕ) → Appends before after front → text ≡ front ++ rest → AppendsFront before after text
front_held before after front rest text written whole =
    let e : take (length front) text ≡ front = ap (take (length front)) whole ∙ take-append_seam front rest in
    (length front, subst (Appends before after) (sym e) written)

pub all_held : (before mid after : Option (List ℕ)) (waiting text last : List ℕ) → Writes before mid waiting text → Appends mid after (waiting ++ last) → Appends before after (text ++ last)
all_held before mid after waiting text last w written =
    let e : text ++ last ≡ w.front ++ (waiting ++ last) = ap (λ (xs : List ℕ). xs ++ last) w.whole ∙ append_assoc w.front waiting last in
    subst (Appends before after) (sym e) (Appends-trans before mid after w.front (waiting ++ last) w.written written)

pub whole_held : (before mid after : Option (List ℕ)) (waiting text : List ℕ) → Writes before mid waiting text → Appends mid after waiting → Appends before after text
whole_held before mid after waiting text w written = subst (Appends before after) (sym w.whole) (Appends-trans before mid after w.front waiting w.written written)

pub some_held : (before mid after : Option (List ℕ)) (waiting text : List ℕ) → WritesFront before mid waiting text → AppendsFront mid after waiting → AppendsFront before after text
some_held before mid after waiting text w written =
    let n = written.0 in
    let e : text ≡ (w.front ++ take n waiting) ++ (drop n waiting ++ w.lost) =
    w.whole ∙ ap (λ (xs : List ℕ). w.front ++ (xs ++ w.lost)) (sym (take-append-drop n waiting)) ∙ ap (λ (xs : List ℕ). w.front ++ xs) (append_assoc (take n waiting) (drop n waiting) w.lost)
    ∙ sym (append_assoc w.front (take n waiting) (drop n waiting ++ w.lost)) in
    front_held before after (w.front ++ take n waiting) (drop n waiting ++ w.lost) text (Appends-trans before mid after w.front (take n waiting) w.written written.1) e

pub last_held : (before mid after : Option (List ℕ)) (waiting text last : List ℕ) → Writes before mid waiting text → AppendsFront mid after (waiting ++ last) → AppendsFront before after (text ++ last)
last_held before mid after waiting text last w written =
    some_held before mid after (waiting ++ last) (text ++ last) (as_front before mid (waiting ++ last) (text ++ last) (more_waits before mid waiting text last w)) written

-- at the start nothing waits
pub nothing_written : (held : Option (List ℕ)) (waiting : List ℕ) → waiting ≡ [] → Writes held held waiting []
nothing_written held waiting none = record { front = []; written = Appends-nil held; whole = sym none }

pub all_lost : (held : Option (List ℕ)) (waiting text : List ℕ) → waiting ≡ [] → WritesFront held held waiting text
all_lost held waiting text none = record { front = []; lost = text; written = Appends-nil held; whole = ap (λ (xs : List ℕ). xs ++ text) (sym none) }

pub waits_front : (held : Option (List ℕ)) (waiting : List ℕ) → WritesFront held held waiting waiting
waits_front held waiting = as_front held held waiting waiting (all_waits held waiting)

-- what was written whole, or as a front, is a front of that and more
pub whole_front : (before after : Option (List ℕ)) (text : List ℕ) → Appends before after text → AppendsFront before after text
whole_front before after text written = front_held before after text [] text written (sym (append-nil text))

pub front_of_more : (before after : Option (List ℕ)) (text more : List ℕ) → AppendsFront before after text → AppendsFront before after (text ++ more)
front_of_more before after text more written =
    let n = written.0 in
    front_held before after (take n text) (drop n text ++ more) (text ++ more) written.1 (ap (λ (xs : List ℕ). xs ++ more) (sym (take-append-drop n text)) ∙ append_assoc (take n text) (drop n text) more)

-- whatever a call that writes answers, a front was written
pub either_front : {T E : Type 0} (result : Result T E) (before after : Option (List ℕ)) (text : List ℕ) → OnOk result (Appends before after text) → OnErr result (AppendsFront before after text) → AppendsFront before after text
either_front (Ok value) before after text ok err = whole_front before after text ok
either_front (Err fault) before after text ok err = err

pub same_writes : (before one other : Option (List ℕ)) (waiting later text : List ℕ) → other ≡ one → later ≡ waiting → Writes before one waiting text → Writes before other later text
same_writes before one other waiting later text held waits w =
    subst (λ (xs : List ℕ). Writes before other xs text) (sym waits) (subst (λ (known : Option (List ℕ)). Writes before known waiting text) (sym held) w)

-- What was written once the last line of a stop is written.
use Rattle.std.proofs.Common.{◌≡◌, ℕ, zero, suc, Bool, true, false, List, [], ◌∷◌, ◌++◌, length, take, Option, Some, None, refl, sym, ◌∙◌, ap, subst, append-nil}
use Rattle.std.specs.Io.KnownBytes.{Appends, Keeps}
use Rattle.std.proofs.KnownBytes.{Appends-nil, Appends-trans}
use Rattle.std.proofs.Math.Seq.{take-append_seam}
use Rattle.mega_io.specs.Pieces.{AppendsFront}
use Rattle.mega_backup_words.specs.declared.stop.Stop.{Stop}
use Rattle.mega_backup_words.specs.declared.stop.Stop.TheVariants.{Header, Source, Sink, Device, NoMemory, Malformed, Short, TooLarge, BadRecord}
use Rattle.mega_backup_words.specs.Endings.{Ending, EndsBy, IsEnding, is_cut, last_line, status_of}

-- all of a text is a front of it
pub all_front : (old new : Option (List ℕ)) (text : List ℕ) → Appends old new text → AppendsFront old new text
all_front old new text all = (length text, subst (Appends old new) (sym (ap (take (length text)) (sym (append-nil text)) ∙ take-append_seam text [])) all)

-- what is behind what stayed
pub kept_appends : (before old new : Option (List ℕ)) (text : List ℕ) → Keeps before old → Appends old new text → Appends before new text
kept_appends None old new text kept all = tt
kept_appends (Some before) None new text kept all = absurd kept
kept_appends (Some before) (Some old) None text kept all = absurd all
kept_appends (Some before) (Some old) (Some new) text kept all = all ∙ ap (λ xs. xs ++ text) kept

kept_front : (before old new : Option (List ℕ)) (text : List ℕ) → Keeps before old → AppendsFront old new text → AppendsFront before new text
kept_front before old new text kept (n, front) = (n, kept_appends before old new (take n text) kept front)

-- nothing more was written
nothing : (n : ℕ) → take {A = ℕ} n [] ≡ []
nothing zero = refl
nothing (suc n) = refl

front_kept : (before old new : Option (List ℕ)) (text : List ℕ) → AppendsFront before old text → AppendsFront old new [] → AppendsFront before new text
front_kept before old new text (m, front) (n, none) =
    (m, subst (Appends before new) (append-nil (take m text)) (Appends-trans before old new (take m text) [] front (subst (Appends old new) (nothing n) none)))

-- ---- a last line that tells of the ending

told_whole : (stop : Stop) (ending : Ending) (before old new : Option (List ℕ)) → IsEnding ending before old stop → Appends old new (last_line stop) → (status_of stop ≡ ending.status) × Appends before new ending.text
told_whole stop ending before old new (is, kept) all =
    (ap (λ (e : Ending). e.status) (sym is), subst (λ (e : Ending). Appends before new e.text) (sym is) (kept_appends before old new (last_line stop) kept all))

told_front : (stop : Stop) (ending : Ending) (before old new : Option (List ℕ)) → IsEnding ending before old stop → AppendsFront old new (last_line stop) → AppendsFront before new ending.text
told_front stop ending before old new (is, kept) front = subst (λ (e : Ending). AppendsFront before new e.text) (sym is) (kept_front before old new (last_line stop) kept front)

no_cut : {A : Type 0} → true ≡ false → A
no_cut is = absurd (let none : ◌≡◌ {A = Bool} true false = is in cc)

pub stop_whole : (stop : Stop) (ending : Ending) (before old new : Option (List ℕ)) → is_cut (status_of stop) ≡ false → EndsBy ending before old stop → Appends old new (last_line stop) → (status_of stop ≡ ending.status) × Appends before new ending.text
stop_whole (Header rule) ending before old new plain ends all = told_whole (Header rule) ending before old new ends all
stop_whole Source ending before old new plain ends all = no_cut plain
stop_whole Sink ending before old new plain ends all = no_cut plain
stop_whole Device ending before old new plain ends all = no_cut plain
stop_whole NoMemory ending before old new plain ends all = no_cut plain
stop_whole (Malformed line) ending before old new plain ends all = told_whole (Malformed line) ending before old new ends all
stop_whole (Short has) ending before old new plain ends all = told_whole (Short has) ending before old new ends all
stop_whole (TooLarge key) ending before old new plain ends all = told_whole (TooLarge key) ending before old new ends all
stop_whole BadRecord ending before old new plain ends all = told_whole BadRecord ending before old new ends all

pub stop_front : (stop : Stop) (ending : Ending) (before old new : Option (List ℕ)) → EndsBy ending before old stop → AppendsFront old new (last_line stop) → AppendsFront before new ending.text
stop_front (Header rule) ending before old new ends front = told_front (Header rule) ending before old new ends front
stop_front Source ending before old new ends front = front_kept before old new ending.text ends front
stop_front Sink ending before old new ends front = front_kept before old new ending.text ends front
stop_front Device ending before old new ends front = front_kept before old new ending.text ends front
stop_front NoMemory ending before old new ends front = front_kept before old new ending.text ends front
stop_front (Malformed line) ending before old new ends front = told_front (Malformed line) ending before old new ends front
stop_front (Short has) ending before old new ends front = told_front (Short has) ending before old new ends front
stop_front (TooLarge key) ending before old new ends front = told_front (TooLarge key) ending before old new ends front
stop_front BadRecord ending before old new ends front = told_front BadRecord ending before old new ends front

-- nothing was written of a text
pub unwritten : (old : Option (List ℕ)) (text : List ℕ) → AppendsFront old old text
unwritten old [] = (0, Appends-nil old)
unwritten old (byte ∷ text) = (0, Appends-nil old)

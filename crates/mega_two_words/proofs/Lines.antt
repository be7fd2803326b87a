-- The line of a change, as it is read.
use Rattle.std.proofs.Common.{◌≡◌, ℕ, ◌<◌, Bool, true, false, Option, Some, None, Result, Ok, Err, List, [], ◌∷◌, ◌++◌, length, refl, sym, ◌∙◌, ap, append-nil, arith, inl, inr}
use Rattle.std.specs.Prelude.{◌⊎◌, nat_lt, if◌then◌else◌}
use Rattle.std.proofs.lemmas.Bool.Decides.{nat_tests}
use Rattle.mega_io.specs.declared.lines.Ended.{Ended}
use Rattle.mega_io.specs.declared.lines.Ended.TheVariants.{Feed, Input, Long}
use Rattle.mega_io.specs.TextLines.{ReadsLine, close_line, lines_of}
use Rattle.mega_header.specs.Known.{IfKnown}
use Rattle.mega_header.proofs.Inputs.{line_follows, lines_on, long_line}
use Rattle.mega_schema.specs.declared.schema.Schema.{Schema}
use Rattle.mega_schedule.specs.Events.{object_of}
use Rattle.mega_two_driver.specs.Begins.{plan_of, plan_of_object}
use Rattle.mega_two_driver.specs.Driver.{begun, begun_with}
use Rattle.mega_two_words.specs.Inputs.{IsLine, first_of}

first_close : (line : List ℕ) → first_of (close_line line) ≡ line
first_close [] = refl
first_close (byte ∷ line) = refl

pub line_read : (old new : Option (List ℕ)) (line : List ℕ) (ended : Ended) → ReadsLine 16384 old new line ended → IfKnown old (λ left. IsLine line (first_of (lines_of left)))
line_read None new line ended reads = tt
line_read (Some old) None line Feed reads = absurd reads.0
line_read (Some old) None line Input reads = absurd reads.0
line_read (Some old) None line Long reads = absurd reads.0.1
line_read (Some old) (Some new) line Feed reads = let follows = line_follows (Some old) (Some new) line 16384 reads in inl (sym (ap first_of follows.0))
line_read (Some old) (Some new) line Input reads =
    let whole : old ≡ line ++ [] = reads.0 ∙ ap (λ (xs : List ℕ). line ++ xs) reads.1 in
    inl (sym (ap (λ (xs : List ℕ). first_of (lines_of xs)) whole ∙ ap first_of (lines_on [] line [] reads.2) ∙ first_close line))
line_read (Some old) (Some new) line Long reads =
    let first = long_line 16384 old line reads.0.0 new reads.0.1 reads.1 reads.2 in
    inr (reads.2, (let same : first_of (lines_of old) ≡ first.0 = ap first_of first.2 in let long = first.3 in omega (arith, long, ap length same)))

is_less : (m n : ℕ) → m < n → nat_lt m n ≡ true
is_less m n less = grind (arith, nat_tests)

too_long : (s : Schema) (line : List ℕ) → 16384 < length line → begun s line ≡ Err 7
unfolding begun plan_of
too_long s line long = ap (λ (b : Bool). begun_with s (if b then Err 7 else plan_of_object s line (object_of line))) (is_less 16384 (length line) long)

-- the change is the same
pub same_begun : (s : Schema) (read line : List ℕ) → IsLine read line → begun s read ≡ begun s line
same_begun s read line (inl same) = ap (begun s) same
same_begun s read line (inr (one, other)) = too_long s read one ∙ sym (too_long s line other)

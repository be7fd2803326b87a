-- The index of a run that was read.
use Rattle.std.proofs.Common.{◌≡◌, ℕ, ◌+◌, ◌<◌, ◌≤◌, ◌^◌, List, [], ◌∷◌, ◌++◌, length, take, drop, Bool, true, false, cond, refl, sym, ◌∙◌, ap, subst, arith, append_assoc, length-append, length-drop}
use Rattle.std.specs.Prelude.{Option, Some, None, Result, Ok, Err, if◌then◌else◌}
use Rattle.std.specs.Int.{to_be_bytes, w64}
use Rattle.std.proofs.lemmas.List.{drop-drop, take_at, drop_at}
use Rattle.mega_base.specs.Reading.{whole_of}
use Rattle.mega_base.specs.Codec.{IsText, one_byte, list_text, number_text}
use Rattle.mega_base.specs.Whole.{whole_found}
use Rattle.mega_runs.specs.declared.body.Mark.{Mark}
use Rattle.mega_runs.specs.declared.body.Run.{Run}
use Rattle.mega_runs.specs.declared.body.Version.{Version}
use Rattle.mega_runs.specs.declared.index.Indexed.{Indexed}
use Rattle.mega_runs.specs.Bodies.{kind_of, mark_text, run_at, run_text, IsRun, ascends, ordered, body_of}
use Rattle.mega_runs.specs.BodyLaws.{run_codec}
use Rattle.mega_chain.specs.Chain.{record_of, chain_of, first_record, records_of}
use Rattle.mega_runs.specs.declared.opening.Opened.{Opened}
use Rattle.mega_runs.specs.Index.{versions_text, HasBytesAt, IsPlaced, ArePlaced, Indices, Indexes, IsGrown, IsReadTo}
use Rattle.mega_runs.specs.Opening.{IsNextBody, bad_or, first_bad}
use Rattle.mega_runs.specs.Reads.{Held, with_run, with_found, held_by, nothing, held_in}
use Rattle.mega_chain.proofs.Chains.{Reading, chain_push, short_push, ends}
use Rattle.mega_chain.proofs.Records.{records_more, records_none}
use Rattle.mega_runs.proofs.Spilled.{held_more}

-- a body that is a run is its spelling
pub record IsBodyOf (body : List ℕ) (run : Run) : Type 0 where
  pub spelled : body ≡ run_text run
  pub fits : IsRun run
  pub in_order : ascends run.versions ≡ true

pub is_body : (body : List ℕ) (run : Run) → body_of body ≡ Some run → IsBodyOf body run
unfolding body_of
is_body body run is = go (whole_of run_at body) refl is
  where
    go : (r : Result Run ℕ) → whole_of run_at body ≡ r → ordered r ≡ Some run → IsBodyOf body run
    go (Err at) e h = absurd (cc)
    go (Ok other) e h = by (ascends other.versions) refl h
      where
        by : (b : Bool) → ascends other.versions ≡ b → cond b (Some other) None ≡ Some run → IsBodyOf body run
        by false a h = absurd (cc)
        by true a h =
            let same : other ≡ run = cc in
            let found = whole_found run_at run_text (IsText run_text IsRun) IsRun run_codec body other e in
            subst (IsBodyOf body) same (record { spelled = found.1; fits = found.0; in_order = a })

-- the bytes of the versions are no more than those of the body
pub versions_within : (body : List ℕ) (run : Run) → IsBodyOf body run → length (versions_text run.versions) ≤ length body
versions_within body run is =
    let text = versions_text run.versions in
    let marks = list_text mark_text run.marks in
    let kind = one_byte (kind_of run.is_base) in
    let count = number_text 4 (length run.versions) in
    omega (arith, ap length is.spelled, length-append kind (marks ++ (count ++ text)), length-append marks (count ++ text), length-append count text)

-- the versions stand at the end of the body
pub stands_in : (file : List ℕ) (at : ℕ) (body : List ℕ) (run : Run) (start : ℕ) → IsNextBody file at body → body ≡ run_text run → start + length (versions_text run.versions) ≡ at + 9 + length body → HasBytesAt file start (versions_text run.versions)
stands_in file at body run start next is place = record {
  within = omega (arith, place, next.behind);
  text_is =
      ap (λ (n : ℕ). take n (drop start file)) (omega arith)
      ∙ ap (take (length text)) (ap (λ (n : ℕ). drop n file) (omega (arith, place, front_long)) ∙ sym (drop-drop (length front) at file) ∙ ap (drop (length front)) whole ∙ drop_at front (text ++ rest) (length front) refl)
      ∙ take_at text rest (length text) refl;
}
  where
    text : List ℕ
    text = versions_text run.versions

    rest : List ℕ
    rest = drop (at + 9 + length body) file

    before : List ℕ
    before = one_byte (kind_of run.is_base) ++ (list_text mark_text run.marks ++ number_text 4 (length run.versions))

    body_is : body ≡ before ++ text
    body_is =
        is ∙ ap (λ (l : List ℕ). one_byte (kind_of run.is_base) ++ l) (sym (append_assoc (list_text mark_text run.marks) (number_text 4 (length run.versions)) text))
        ∙ sym (append_assoc (one_byte (kind_of run.is_base)) (list_text mark_text run.marks ++ number_text 4 (length run.versions)) text)

    front : List ℕ
    front = 1 ∷ (to_be_bytes w64 (length body) ++ before)

    whole : drop at file ≡ front ++ (text ++ rest)
    whole =
        next.spelled
        ∙ ap (λ (l : List ℕ). 1 ∷ (to_be_bytes w64 (length body) ++ l) ++ rest) body_is
        ∙ ap (λ (l : List ℕ). 1 ∷ l ++ rest) (sym (append_assoc (to_be_bytes w64 (length body)) before text))
        ∙ ap (λ (l : List ℕ). 1 ∷ l) (append_assoc (to_be_bytes w64 (length body) ++ before) text rest)

    eight : length (to_be_bytes w64 (length body)) ≡ 8
    eight = refl

    front_long : length front + length text ≡ 9 + length body
    front_long = omega (arith, ap length body_is, length-append before text, length-append (to_be_bytes w64 (length body)) before, eight)

-- a place behind will do too
pub placed_before : (file : List ℕ) (end later : ℕ) (runs : List Indexed) (lists : List (List Version)) → end ≤ later → ArePlaced file end runs lists → ArePlaced file later runs lists
placed_before file end later [] [] le are = tt
placed_before file end later [] (versions ∷ lists) le are = absurd are
placed_before file end later (run ∷ runs) [] le are = absurd are
placed_before file end later (run ∷ runs) (versions ∷ lists) le are =
    (record { blocks = are.0.blocks; stands = are.0.stands; size_is = are.0.size_is; count_is = are.0.count_is; before = omega (arith, are.0.before, le) }, placed_before file end later runs lists le are.1)

-- one run more
pub indexed_more : (file : List ℕ) (at : ℕ) (body : List ℕ) (run : Run) (number : ℕ) (held : Held) (marks : List Mark) (runs others : List Indexed) (index : Indexed) → IsNextBody file at body → body_of body ≡ Some run
    → Indices run number (at + 9 + length body) index → others ≡ index ∷ (if run.is_base then [] else runs) → Indexes file at held marks runs → Indexes file (at + 9 + length body) (with_run run held) run.marks others
indexed_more file at body run number held marks runs others index next is indices pushed before =
    let b = is_body body run is in
    let end = at + 9 + length body in
    let one : IsPlaced file end run.versions index = record { blocks = indices.blocks; stands = stands_in file at body run index.start next b.spelled indices.start_is; size_is = indices.size_is; count_is = indices.count_is; before = omega (arith, indices.start_is, indices.size_is) } in
    record {
      marks_are = refl;
      runs_are = subst (λ (l : List Indexed). ArePlaced file end l (with_run run held).lists) (sym pushed) (one, others_are run.is_base);
    }
  where
    others_are : (b : Bool) → ArePlaced file (at + 9 + length body) (cond b [] runs) (cond b [] held.lists)
    others_are true = tt
    others_are false = placed_before file at (at + 9 + length body) runs held.lists (omega arith) before.runs_are

-- ---- the runs read so far
pub record GoesOn (file : List ℕ) (opened : Opened) : Type 0 where
  pub bodies : List (List ℕ)
  pub reading : Reading file bodies (drop opened.end file)
  pub place : opened.end ≡ length (chain_of bodies)
  pub held : Indexes file opened.end (held_by bodies nothing) opened.marks opened.runs.items
  pub few : opened.count ≤ opened.end
  pub bad : first_bad 1 (records_of file) ≡ first_bad (opened.count + 1) (records_of (drop opened.end file))

reading_more : (file : List ℕ) (bodies : List (List ℕ)) (rest body after : List ℕ) → Reading file bodies rest → first_record rest ≡ Some (body, after) → rest ≡ record_of body ++ after → length body < 2 ^ 64 → 0 < length after → Reading file (bodies ++ body ∷ []) after
reading_more file bodies rest body after so_far first spelled short behind = record {
  read = append_assoc bodies (body ∷ []) (records_of after) ∙ ap (λ (l : List (List ℕ)). bodies ++ l) (sym (records_more rest body after first)) ∙ so_far.read;
  spelled = so_far.spelled ∙ ap (λ (l : List ℕ). chain_of bodies ++ l) spelled ∙ sym (append_assoc (chain_of bodies) (record_of body) after) ∙ ap (λ (l : List ℕ). l ++ after) (sym (chain_push bodies body));
  short = short_push bodies body so_far.short short;
  behind = λ some. behind;
}

pub goes_on_more : (file : List ℕ) (old new : Opened) (body : List ℕ) (run : Run) → GoesOn file old → IsNextBody file old.end body → body_of body ≡ Some run → IsGrown old run (length body) new → GoesOn file new
goes_on_more file old new body run so_far next is grown = record {
  bodies = so_far.bodies ++ body ∷ [];
  reading = subst (Reading file (so_far.bodies ++ body ∷ [])) after_is (reading_more file so_far.bodies (drop old.end file) body after so_far.reading next.first next.spelled next.short (omega (arith, length-drop (old.end + 9 + length body) file, next.behind)));
  place = grown.end_is ∙ omega (arith, so_far.place, ap length (chain_push so_far.bodies body), length-append (chain_of so_far.bodies) (record_of body), length-append (to_be_bytes w64 (length body)) body, eight);
  held =
      coe 0 1 (i. Indexes file (sym grown.end_is i) (held_is i) (sym grown.marks_are i) new.runs.items)
      (indexed_more file old.end body run new.count (held_by so_far.bodies nothing) old.marks old.runs.items new.runs.items grown.index next is (subst (λ (n : ℕ). Indices run new.count n grown.index) grown.end_is grown.indices) grown.runs_are so_far.held);
  few = omega (arith, so_far.few, grown.count_is, grown.end_is);
  bad =
      so_far.bad
      ∙ ap (first_bad (old.count + 1)) (records_more (drop old.end file) body after next.first)
      ∙ ap (λ (o : Option Run). bad_or (old.count + 1) o (first_bad (old.count + 1 + 1) (records_of after))) is
      ∙ (λ i. first_bad (sym grown.count_is i + 1) (records_of (after_is i)));
}
  where
    after : List ℕ
    after = drop (old.end + 9 + length body) file

    after_is : after ≡ drop new.end file
    after_is = ap (λ (n : ℕ). drop n file) (sym grown.end_is)

    eight : length (to_be_bytes w64 (length body)) ≡ 8
    eight = refl

    held_is : with_run run (held_by so_far.bodies nothing) ≡ held_by (so_far.bodies ++ body ∷ []) nothing
    held_is = sym (held_more so_far.bodies body nothing ∙ ap (λ (o : Option Run). with_found o (held_by so_far.bodies nothing)) is)

-- the first bad one is here
pub is_bad_here : (file : List ℕ) (opened : Opened) (body : List ℕ) → GoesOn file opened → IsNextBody file opened.end body → body_of body ≡ None → first_bad 1 (records_of file) ≡ Some (opened.count + 1)
is_bad_here file opened body so_far next is =
    so_far.bad
    ∙ ap (first_bad (opened.count + 1)) (records_more (drop opened.end file) body (drop (opened.end + 9 + length body) file) next.first)
    ∙ ap (λ (o : Option Run). bad_or (opened.count + 1) o (first_bad (opened.count + 1 + 1) (records_of (drop (opened.end + 9 + length body) file)))) is

-- all were read
pub goes_on_ends : (file : List ℕ) (opened : Opened) → GoesOn file opened → first_record (drop opened.end file) ≡ None → IsReadTo file opened
unfolding held_in
goes_on_ends file opened so_far none =
    let e = ends file so_far.bodies (drop opened.end file) so_far.reading (sym none) in
    record {
      read = record {
        place = so_far.place ∙ ap (λ (l : List (List ℕ)). length (chain_of l)) e.records_are;
        spelled = so_far.reading.spelled ∙ ap (λ (l : List (List ℕ)). chain_of l ++ drop opened.end file) e.records_are;
        closed = none;
        short = e.short;
        behind = λ some. let more = so_far.reading.behind some in omega (arith, more, length-drop opened.end file);
      };
      index = subst (λ (l : List (List ℕ)). Indexes file opened.end (held_by l nothing) opened.marks opened.runs.items) e.records_are so_far.held;
      good = so_far.bad ∙ ap (first_bad (opened.count + 1)) (records_none (drop opened.end file) none);
    }

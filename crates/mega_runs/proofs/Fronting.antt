-- What stays of the part of a file up to its last run.
use Rattle.std.proofs.Common.{◌≡◌, ℕ, zero, suc, ◌+◌, ◌-◌, ◌<◌, ◌≤◌, ◌^◌, List, [], ◌∷◌, ◌++◌, length, take, drop, refl, sym, ◌∙◌, ap, subst, arith, append_assoc, take-append-drop, length-drop, Bool, true, false, inl, inr, ⊎_elim}
use Rattle.std.specs.Prelude.{Option, Some, None, if◌then◌else◌, map}
use Rattle.std.specs.List.{AllByRecursion}
use Rattle.std.proofs.lemmas.List.{drop_at, take-take, length-take}
use Rattle.mega_disk.specs.Images.{Within}
use Rattle.mega_runs.specs.declared.body.Version.{Version}
use Rattle.mega_runs.specs.declared.body.Mark.{Mark}
use Rattle.mega_runs.specs.declared.body.Run.{Run}
use Rattle.mega_runs.specs.declared.index.Indexed.{Indexed}
use Rattle.mega_runs.specs.declared.opening.Opened.{Opened}
use Rattle.mega_runs.specs.Bodies.{run_text, IsRun, ascends, body_of}
use Rattle.mega_chain.specs.Chain.{record_of, chain_of, first_record, records_of}
use Rattle.mega_chain.specs.Rest.{IsAtRest, IsSettled}
use Rattle.mega_runs.specs.Index.{versions_text, HasBytesAt, ArePlaced, IsOrderly, AreIndexed, Indexes, Indices, IsGrown}
use Rattle.mega_runs.specs.Opening.{IsNextBody}
use Rattle.mega_runs.specs.Reads.{Held, with_run, with_found, held_by, nothing, held_in, mark_in}
use Rattle.mega_runs.specs.Fronts.{front_of, kept, kept_with, HoldsOr, Standing}
use Rattle.mega_runs.specs.Spilling.{HoldsOldOrNew}
use Rattle.mega_chain.proofs.Chains.{chain_push}
use Rattle.mega_runs.proofs.Growing.{is_body, indexed_more}
use Rattle.mega_chain.proofs.Records.{records_closed, first_whole}
use Rattle.mega_runs.proofs.Spilled.{held_run, held_same, written_is_read}
use Rattle.mega_chain.proofs.Written.{inside}

-- ---- what lies in front
part_of_front : (l : List ℕ) (start n end : ℕ) → start + n ≤ end → take n (drop start (take end l)) ≡ take n (drop start l)
part_of_front l zero n end le = take-take n end l (omega arith)
part_of_front [] (suc start) n zero le = refl
part_of_front [] (suc start) n (suc end) le = refl
part_of_front (x ∷ l) (suc start) n zero le = absurd (omega arith)
part_of_front (x ∷ l) (suc start) n (suc end) le = part_of_front l start n end (omega arith)

stands_same : (file image : List ℕ) (end start : ℕ) (text : List ℕ) → take end image ≡ take end file → start + length text ≤ end → HasBytesAt file start text → HasBytesAt image start text
stands_same file image end start text front le stands =
    let n = length text in
    let size : start + n - start ≡ n = omega arith in
    record {
      within = omega (arith, le, stands.within, ap length front, length-take end image, length-take end file);
      text_is =
          ap (λ (m : ℕ). take m (drop start image)) size
          ∙ sym (part_of_front image start n end le)
          ∙ ap (λ (l : List ℕ). take n (drop start l)) front
          ∙ part_of_front file start n end le
          ∙ ap (λ (m : ℕ). take m (drop start file)) (sym size)
          ∙ stands.text_is;
    }

pub placed_same : (file image : List ℕ) (end : ℕ) (runs : List Indexed) (lists : List (List Version)) → take end image ≡ take end file → ArePlaced file end runs lists → ArePlaced image end runs lists
placed_same file image end [] [] front are = tt
placed_same file image end [] (versions ∷ lists) front are = absurd are
placed_same file image end (run ∷ runs) [] front are = absurd are
placed_same file image end (run ∷ runs) (versions ∷ lists) front are = (
  record {
    blocks = are.0.blocks;
    stands = stands_same file image end run.start (versions_text versions) front (omega (arith, are.0.before, are.0.size_is)) are.0.stands;
    size_is = are.0.size_is;
    count_is = are.0.count_is;
    before = are.0.before;
  },
  placed_same file image end runs lists front are.1,
)

pub held_front : (file : List ℕ) (end : ℕ) → IsAtRest file end → held_in (front_of file end) ≡ held_in file
held_front file end rests =
    held_same file (front_of file end) (ap (λ (l : List ℕ). records_of (l ++ 0 ∷ [])) rests.front ∙ records_closed (records_of file) 0 [] rests.short (λ zero_one. absurd (omega arith)))

pub front_same : (file image : List ℕ) (end : ℕ) → take end image ≡ take end file → held_in (front_of image end) ≡ held_in (front_of file end)
front_same file image end front = ap (λ (l : List ℕ). held_in (l ++ 0 ∷ [])) front

pub kept_same : (told : Bool) (file image : List ℕ) (end : ℕ) → (told ≡ true → take end image ≡ take end file) → kept told image end ≡ kept told file end
kept_same true file image end front = ap (λ (h : Held). h.lists) (front_same file image end (front refl))
kept_same false file image end front = refl

pub kept_told : (told : Bool) (file : List ℕ) (end : ℕ) → told ≡ true → kept told file end ≡ (held_in (front_of file end)).lists
kept_told true file end is = refl
kept_told false file end is = absurd (cc)

-- ---- between calls
pub standing_front : (file image : List ℕ) (images others : List ℕ → Type 0) (end : ℕ) (runs : List Indexed) → Standing file images end runs → ((c : List ℕ) → others c → take end c ≡ take end file) → others image → Standing image others end runs
standing_front file image images others end runs standing fronts is = record {
  front = λ c left. fronts c left ∙ sym (fronts image is);
  runs_are =
      subst (λ (h : Held). ArePlaced image end runs h.lists) (sym (front_same file image end (fronts image is)))
      (placed_same file image end runs (held_in (front_of file end)).lists (fronts image is) standing.runs_are);
}

pub standing_within : (file image : List ℕ) (images others : List ℕ → Type 0) (end : ℕ) (runs : List Indexed) → Standing file images end runs → Within images others → others image → Standing image others end runs
standing_within file image images others end runs standing within is = standing_front file image images others end runs standing (λ c left. standing.front c (within c left)) is

pub settled_within : (file image : List ℕ) (images others : List ℕ → Type 0) (end : ℕ) → IsSettled file images end → Within images others → others image → IsSettled image others end
settled_within file image images others end settled within is =
    let same : image ≡ file = settled.durable image (within image is) in
    record {
      at_rest = subst (λ (l : List ℕ). IsAtRest l end) (sym same) settled.at_rest;
      durable = λ c left. settled.durable c (within c left) ∙ sym same;
    }

pub standing_opened : (file new : List ℕ) (images : List ℕ → Type 0) (end : ℕ) (marks : List Mark) (runs : List Indexed) → Indexes file end (held_in file) marks runs → take end new ≡ take end file → records_of new ≡ records_of file → IsSettled new images end → Standing new images end runs
standing_opened file new images end marks runs index front same settled = record {
  front = λ c left. ap (take end) (settled.durable c left);
  runs_are =
      subst (λ (h : Held). ArePlaced new end runs h.lists) (sym (held_front new end settled.at_rest ∙ held_same file new same))
      (placed_same file new end runs (held_in file).lists front index.runs_are);
}

-- ---- the versions of runs are in order
orderly_body : (body : List ℕ) (found : Option Run) (earlier : Held) → body_of body ≡ found → AllByRecursion IsOrderly earlier.lists → AllByRecursion IsOrderly (with_found found earlier).lists
orderly_body body None earlier is orderly = orderly
orderly_body body (Some run) earlier is orderly =
    let b = is_body body run is in
    (record { fits = b.fits.1.each; in_order = b.in_order }, others run.is_base)
  where
    others : (base : Bool) → AllByRecursion IsOrderly (if base then [] else earlier.lists)
    others true = tt
    others false = orderly

orderly_by : (bodies : List (List ℕ)) (earlier : Held) → AllByRecursion IsOrderly earlier.lists → AllByRecursion IsOrderly (held_by bodies earlier).lists
orderly_by [] earlier orderly = orderly
orderly_by (body ∷ bodies) earlier orderly = orderly_by bodies (with_found (body_of body) earlier) (orderly_body body (body_of body) earlier refl orderly)

pub held_orderly : (file : List ℕ) → AllByRecursion IsOrderly (held_in file).lists
unfolding held_in
held_orderly file = orderly_by (records_of file) nothing tt

pub standing_indexed : (file : List ℕ) (images : List ℕ → Type 0) (end : ℕ) (runs : List Indexed) → Standing file images end runs → AreIndexed file end runs (held_in (front_of file end)).lists
standing_indexed file images end runs standing = record { placed = standing.runs_are; orderly = held_orderly (front_of file end) }

-- ---- one run more
next_added : (file new : List ℕ) (end : ℕ) (body : List ℕ) → IsAtRest file end → IsAtRest new (end + 9 + length body) → records_of new ≡ records_of file ++ body ∷ [] → length body < 2 ^ 64 → IsNextBody new end body
next_added file new end body before after added short = record {
  first = ap first_record spelled ∙ first_whole body rest short (omega (arith, length-drop (end + 9 + length body) new, behind));
  spelled = spelled;
  short = short;
  behind = behind;
}
  where
    rest : List ℕ
    rest = drop (end + 9 + length body) new

    behind : end + 9 + length body < length new
    behind = inside new (end + 9 + length body) after

    spelled : drop end new ≡ record_of body ++ rest
    spelled =
        ap (drop end) (
        sym (take-append-drop (end + 9 + length body) new)
        ∙ ap (λ (l : List ℕ). l ++ rest) (after.front ∙ ap chain_of added ∙ chain_push (records_of file) body)
        ∙ append_assoc (chain_of (records_of file)) (record_of body) rest
        )
        ∙ drop_at (chain_of (records_of file)) (record_of body ++ rest) end (sym before.place)

pub held_grown : (file new : List ℕ) (end later : ℕ) (run : Run) → IsAtRest file end → IsAtRest new later → IsRun run → ascends run.versions ≡ true → records_of new ≡ records_of file ++ run_text run ∷ []
    → held_in (front_of new later) ≡ with_run run (held_in (front_of file end))
held_grown file new end later run before after fits asc added =
    held_front new later after ∙ held_run run file new fits asc added ∙ ap (with_run run) (sym (held_front file end before))

pub standing_grown : (file new : List ℕ) (images others : List ℕ → Type 0) (run : Run) (body : List ℕ) (old grown : Opened) → Standing file images old.end old.runs.items → IsAtRest file old.end → IsSettled new others (old.end + 9 + length body)
    → records_of new ≡ records_of file ++ body ∷ [] → body ≡ run_text run → IsRun run → ascends run.versions ≡ true → length body < 2 ^ 64 → take old.end new ≡ take old.end file → IsGrown old run (length body) grown
    → Standing new others grown.end grown.runs.items
standing_grown file new images others run body old grown standing before settled added is fits asc short front more = record {
  front = λ c left. ap (take grown.end) (settled.durable c left);
  runs_are =
      subst (λ (h : Held). ArePlaced new grown.end grown.runs.items h.lists) (sym held)
      (subst (λ (n : ℕ). ArePlaced new n grown.runs.items (with_run run (held_in (front_of file old.end))).lists) (sym more.end_is) indexed);
}
  where
    is_run : body_of body ≡ Some run
    is_run = ap body_of is ∙ written_is_read run fits asc

    held : held_in (front_of new grown.end) ≡ with_run run (held_in (front_of file old.end))
    held =
        held_grown file new old.end grown.end run before (subst (λ (n : ℕ). IsAtRest new n) (sym more.end_is) settled.at_rest) fits asc
        (added ∙ ap (λ (l : List ℕ). records_of file ++ l ∷ []) is)

    indexed : ArePlaced new (old.end + 9 + length body) grown.runs.items (with_run run (held_in (front_of file old.end))).lists
    indexed = (
        indexed_more new old.end body run grown.count (record { marks = map mark_in old.marks; lists = (held_in (front_of file old.end)).lists }) old.marks old.runs.items grown.runs.items more.index
        (next_added file new old.end body before settled.at_rest added short) is_run
        (subst (λ (n : ℕ). Indices run grown.count n more.index) more.end_is more.indices) more.runs_are
        (record { marks_are = refl; runs_are = placed_same file new old.end old.runs.items (held_in (front_of file old.end)).lists front standing.runs_are })
        ).runs_are

pub kept_with_is : (told : Bool) (run : Run) (file : List ℕ) (end : ℕ) → told ≡ true → with_run run (held_in (front_of file end)) ≡ kept_with run (kept told file end)
kept_with_is true run file end is = refl
kept_with_is false run file end is = absurd (cc)

pub holds_or : (told : Bool) (run : Run) (file image : List ℕ) (images : List ℕ → Type 0) (end : ℕ) → told ≡ true → IsAtRest file end → images file → HoldsOldOrNew end run file image → HoldsOr images (kept_with run (kept told file end)) image
holds_or told run file image images end is rests here is_either =
    ⊎_elim (λ same. inl (file, here, same)) (λ more. inr (more ∙ ap (with_run run) (sym (held_front file end rests)) ∙ kept_with_is told run file end is)) is_either.holds

pub holds_now : (told : Bool) (run : Run) (file new image : List ℕ) (images : List ℕ → Type 0) (end later : ℕ) → told ≡ true → IsSettled new images later → held_in (front_of new later) ≡ with_run run (held_in (front_of file end)) → images image → held_in image ≡ kept_with run (kept told file end)
holds_now told run file new image images end later is settled held left =
    ap held_in (settled.durable image left) ∙ sym (held_front new later settled.at_rest) ∙ held ∙ kept_with_is told run file end is

-- The requests whose operations end in a step get one reply each, and all others none.
use Rattle.std.proofs.Common.{◌≡◌, ℕ, ◌+◌, ◌||◌, not, Bool, true, false, cond, List, [], ◌∷◌, ◌++◌, map, filter, filter_map, flat_map, find, count_by, Option, Some, None, is_none, refl, sym, ap, ◌∙◌, subst, arith}
use Rattle.std.specs.List.{cons_option}
use Rattle.std.proofs.lemmas.List.Sums.{sum_by-append, sum_by-cons}
use Rattle.mega_base.specs.declared.names.OpId.{OpId}
use Rattle.mega_entry.specs.Same.{same_op}
use Rattle.mega_entry.proofs.Sames.{same_op_equal, same_op_self}
use Rattle.mega_schema.specs.declared.schema.Schema.{Schema}
use Rattle.mega_outcome.specs.declared.answer.Answer.{Answer}
use Rattle.mega_promises.specs.of_transcript.Answers.{answer_words}
use Rattle.mega_promises.specs.Served.{Line, Waiting, answer_line, answered_line, reply_line}
use Rattle.mega_reply_laws.specs.Requests.{Asked, RequestState, Ended, Heard, Opened, Refused, comes_to, ended_as, op_awaited, reply_by, reply_to, waits, waits_by}
use Rattle.mega_reply_laws.specs.Fates.{AreApart, Ends, Fate, Stays, among, answering, op_in, staying}

-- ---- operations and their ids

clash : (b : Bool) → b ≡ true → b ≡ false → ⊥
clash true h k = cc
clash false h k = cc

pub same_turned : (a b : OpId) → same_op a b ≡ same_op b a
same_turned a b = by (same_op a b) (same_op b a) refl refl
  where
    by : (t u : Bool) → same_op a b ≡ t → same_op b a ≡ u → t ≡ u
    by true true h k = refl
    by false false h k = refl
    by true false h k = absurd (clash (same_op b a) (subst (λ x. same_op x a ≡ true) (same_op_equal a b h) (same_op_self a)) k)
    by false true h k = absurd (clash (same_op a b) (subst (λ x. same_op x b ≡ true) (same_op_equal b a k) (same_op_self b)) h)

either_false : (a b : Bool) → (a || b) ≡ false → (a ≡ false) × (b ≡ false)
either_false true b h = cc
either_false false b h = (refl, h)

pub not_first : (op x : OpId) (ops : List OpId) → among (op ∷ ops) x ≡ false → (same_op op x ≡ false) × (among ops x ≡ false)
not_first op x ops h = either_false (same_op op x) (among ops x) h

in_rest : (a b : Bool) → a ≡ false → (a || b) ≡ true → b ≡ true
in_rest true b h k = cc
in_rest false b h k = k

-- ---- what becomes of an operation by the fates of a step

abbrev pub told_if : Bool → Answer → Option Answer → Option Answer
told_if t answer rest = cond t (Some answer) rest

abbrev pub told_to : List Fate → OpId → Option Answer
told_to [] x = None
told_to (Stays op ∷ fates) x = told_to fates x
told_to (Ends op answer ∷ fates) x = cond (same_op x op) (Some answer) (told_to fates x)

-- one that is not among them is told nothing, and stays nowhere
pub others_staying : (fates : List Fate) (x : OpId) → among (map op_in fates) x ≡ false → among (flat_map staying fates) x ≡ false
others_staying [] x h = refl
others_staying (Stays op ∷ fates) x h =
    let apart = not_first op x (map op_in fates) h in
    ap (λ t. t || among (flat_map staying fates) x) apart.0 ∙ others_staying fates x apart.1
others_staying (Ends op answer ∷ fates) x h = others_staying fates x (not_first op x (map op_in fates) h).1

others_told : (fates : List Fate) (x : OpId) → among (map op_in fates) x ≡ false → told_to fates x ≡ None
others_told [] x h = refl
others_told (Stays op ∷ fates) x h = others_told fates x (not_first op x (map op_in fates) h).1
others_told (Ends op answer ∷ fates) x h =
    let apart = not_first op x (map op_in fates) h in
    ap (λ t. told_if t answer (told_to fates x)) (same_turned x op ∙ apart.0) ∙ others_told fates x apart.1

-- one that is among them stays just where it is told nothing
pub stays_untold : (fates : List Fate) (x : OpId) → AreApart (map op_in fates) → among (map op_in fates) x ≡ true → among (flat_map staying fates) x ≡ is_none (told_to fates x)
stays_untold [] x apart h = cc
stays_untold (Stays op ∷ fates) x apart h = by (same_op op x) refl (λ k. stays_untold fates x apart.1 k)
  where
    by : (t : Bool) → same_op op x ≡ t → (among (map op_in fates) x ≡ true → among (flat_map staying fates) x ≡ is_none (told_to fates x)) → (t || among (flat_map staying fates) x) ≡ is_none (told_to fates x)
    by true e rest = sym (ap is_none (others_told fates x (subst (λ y. among (map op_in fates) y ≡ false) (same_op_equal op x e) apart.0)))
    by false e rest = rest (in_rest (same_op op x) (among (map op_in fates) x) e h)
stays_untold (Ends op answer ∷ fates) x apart h = by (same_op op x) refl (λ k. stays_untold fates x apart.1 k)
  where
    told_by : (t : Bool) → same_op op x ≡ t → told_to (Ends op answer ∷ fates) x ≡ told_if t answer (told_to fates x)
    told_by t e = ap (λ u. told_if u answer (told_to fates x)) (same_turned x op ∙ e)

    by : (t : Bool) → same_op op x ≡ t → (among (map op_in fates) x ≡ true → among (flat_map staying fates) x ≡ is_none (told_to fates x)) → among (flat_map staying fates) x ≡ is_none (told_to (Ends op answer ∷ fates) x)
    by true e rest = others_staying fates x (subst (λ y. among (map op_in fates) y ≡ false) (same_op_equal op x e) apart.0) ∙ sym (ap is_none (told_by true e))
    by false e rest = rest (in_rest (same_op op x) (among (map op_in fates) x) e h) ∙ sym (ap is_none (told_by false e))

pub staying_apart : (fates : List Fate) → AreApart (map op_in fates) → AreApart (flat_map staying fates)
staying_apart [] h = tt
staying_apart (Stays op ∷ fates) h = (others_staying fates op h.0, staying_apart fates h.1)
staying_apart (Ends op answer ∷ fates) h = staying_apart fates h.1

-- ---- what becomes of a request

abbrev pub passes : List Fate → RequestState → RequestState
passes [] came = came
passes (Stays op ∷ fates) came = passes fates came
passes (Ends op answer ∷ fates) came = passes fates (ended_as op answer came)

abbrev pub open_or_ended : OpId → Option Answer → RequestState
open_or_ended x None = Opened x
open_or_ended x (Some answer) = Ended x answer

pub passes_refused : (fates : List Fate) (words : List (List ℕ)) → passes fates (Refused words) ≡ Refused words
passes_refused [] words = refl
passes_refused (Stays op ∷ fates) words = passes_refused fates words
passes_refused (Ends op answer ∷ fates) words = passes_refused fates words

pub passes_ended : (fates : List Fate) (x : OpId) (answer : Answer) → passes fates (Ended x answer) ≡ Ended x answer
passes_ended [] x answer = refl
passes_ended (Stays op ∷ fates) x answer = passes_ended fates x answer
passes_ended (Ends op other ∷ fates) x answer = passes_ended fates x answer

pub passes_opened : (fates : List Fate) (x : OpId) → passes fates (Opened x) ≡ open_or_ended x (told_to fates x)
passes_opened [] x = refl
passes_opened (Stays op ∷ fates) x = passes_opened fates x
passes_opened (Ends op answer ∷ fates) x = by (same_op x op) (passes_opened fates x)
  where
    by : (t : Bool) → passes fates (Opened x) ≡ open_or_ended x (told_to fates x) → passes fates (cond t (Ended x answer) (Opened x)) ≡ open_or_ended x (cond t (Some answer) (told_to fates x))
    by true rest = passes_ended fates x answer
    by false rest = rest

-- ---- who waits

abbrev pub answers_to : OpId → Waiting → Bool
answers_to op one = same_op one.op op

abbrev pub ends : OpId → Answer → List Asked → List Asked
ends op answer asked = map (comes_to (ended_as op answer)) asked

-- all answers of a step
abbrev pub all_pass : List Fate → List Asked → List Asked
all_pass [] asked = asked
all_pass (Stays op ∷ fates) asked = all_pass fates asked
all_pass (Ends op answer ∷ fates) asked = all_pass fates (ends op answer asked)

pub all_pass_each : (fates : List Fate) (asked : List Asked) → all_pass fates asked ≡ map (comes_to (passes fates)) asked
all_pass_each [] asked = stay asked
  where
    stay : (asked : List Asked) → asked ≡ map (comes_to (λ came. came)) asked
    stay [] = refl
    stay (one ∷ asked) = λ i. one ∷ stay asked i
all_pass_each (Stays op ∷ fates) asked = all_pass_each fates asked
all_pass_each (Ends op answer ∷ fates) asked = all_pass_each fates (ends op answer asked) ∙ joined asked
  where
    joined : (asked : List Asked) → map (comes_to (passes fates)) (map (comes_to (ended_as op answer)) asked) ≡ map (comes_to (λ came. passes fates (ended_as op answer came))) asked
    joined [] = refl
    joined (one ∷ asked) = λ i. comes_to (λ came. passes fates (ended_as op answer came)) one ∷ joined asked i

-- an answer ends the waiting of those who wait for it
waits_less : (op : OpId) (answer : Answer) (asked : List Asked) → waits (ends op answer asked) ≡ filter (λ (one : Waiting). not (answers_to op one)) (waits asked)
waits_less op answer [] = refl
waits_less op answer (one ∷ asked) = by one.client one.token one.came (waits_less op answer asked)
  where
    other_waits : Waiting → Bool
    other_waits one = not (answers_to op one)

    by : (client token : ℕ) (came : RequestState) → waits (ends op answer asked) ≡ filter other_waits (waits asked)
        → cons_option (waits_by client token (ended_as op answer came)) (waits (ends op answer asked)) ≡ filter other_waits (cons_option (waits_by client token came) (waits asked))
    by client token Heard rest = rest
    by client token (Refused words) rest = rest
    by client token (Ended other given) rest = rest
    by client token (Opened other) rest = go (same_op other op)
      where
        one_waits : Waiting
        one_waits = record { op = other; client = client; token = token }

        go : (t : Bool) → cons_option (waits_by client token (cond t (Ended other answer) (Opened other))) (waits (ends op answer asked))
            ≡ cond (not t) (one_waits ∷ filter other_waits (waits asked)) (filter other_waits (waits asked))
        go true = rest
        go false = ap (λ those. one_waits ∷ those) rest

-- those who waited for another find it as before
find_other : (op other : OpId) (those : List Waiting) → same_op other op ≡ false → find (answers_to other) (filter (λ (one : Waiting). not (answers_to op one)) those) ≡ find (answers_to other) those
find_other op other [] h = refl
find_other op other (one ∷ those) h = by (same_op one.op op) refl (find_other op other those h)
  where
    kept : List Waiting
    kept = filter (λ (one : Waiting). not (answers_to op one)) those

    by : (t : Bool) → same_op one.op op ≡ t → find (answers_to other) kept ≡ find (answers_to other) those
        → find (answers_to other) (cond (not t) (one ∷ kept) kept) ≡ cond (same_op one.op other) (Some one) (find (answers_to other) those)
    by true e rest = rest ∙ sym (ap (λ t. cond t (Some one) (find (answers_to other) those)) (same_turned one.op other ∙ ap (same_op other) (same_op_equal one.op op e) ∙ h))
    by false e rest = ap (λ found. cond (same_op one.op other) (Some one) found) rest

among_less : (P : Waiting → Bool) (those : List Waiting) (x : OpId) → among (map op_awaited those) x ≡ false → among (map op_awaited (filter P those)) x ≡ false
among_less P [] x h = refl
among_less P (one ∷ those) x h = by (P one) (among_less P those x (not_first one.op x (map op_awaited those) h).1)
  where
    by : (t : Bool) → among (map op_awaited (filter P those)) x ≡ false → among (map op_awaited (cond t (one ∷ filter P those) (filter P those))) x ≡ false
    by true rest = ap (λ t. t || among (map op_awaited (filter P those)) x) (not_first one.op x (map op_awaited those) h).0 ∙ rest
    by false rest = rest

pub apart_less : (P : Waiting → Bool) (those : List Waiting) → AreApart (map op_awaited those) → AreApart (map op_awaited (filter P those))
apart_less P [] h = tt
apart_less P (one ∷ those) h = by (P one) (apart_less P those h.1)
  where
    by : (t : Bool) → AreApart (map op_awaited (filter P those)) → AreApart (map op_awaited (cond t (one ∷ filter P those) (filter P those)))
    by true rest = (among_less P those one.op h.0, rest)
    by false rest = rest

-- ---- how many lines pass a test

module _ (test : Line → Bool) where
  abbrev pub many : List Line → ℕ
  many lines = count_by test lines

  pub many_more : (line : Line) (lines : List Line) → many (line ∷ lines) ≡ cond (test line) 1 0 + many lines
  many_more line lines = sum_by-cons (λ (one : Line). cond (test one) 1 0) line lines

  pub many_both : (xs ys : List Line) → many (xs ++ ys) ≡ many xs + many ys
  many_both xs ys = sum_by-append (λ (one : Line). cond (test one) 1 0) xs ys

module _ (schema : Schema) (me : ℕ) where
  abbrev pub reply : Asked → Option Line
  reply one = reply_to schema me one

  abbrev pub given : List Asked → List Line
  given asked = filter_map reply asked

  -- the replies that a step's answers bring to those who wait
  abbrev pub replies_of : List Waiting → List Fate → List Line
  replies_of those fates = flat_map (answer_line schema me those) (flat_map answering fates)

  abbrev found_reply : Answer → Option Waiting → List Line
  found_reply answer found = answered_line schema me answer found

  -- where none waits for it, an answer changes nothing
  none_ends : (op : OpId) (answer : Answer) (asked : List Asked) → among (map op_awaited (waits asked)) op ≡ false → ends op answer asked ≡ asked
  none_ends op answer [] h = refl
  none_ends op answer (one ∷ asked) h = by one.client one.token one.came h (λ k. none_ends op answer asked k)
    where
      by : (client token : ℕ) (came : RequestState) → among (map op_awaited (cons_option (waits_by client token came) (waits asked))) op ≡ false
          → (among (map op_awaited (waits asked)) op ≡ false → ends op answer asked ≡ asked)
          → ((record { client = client; token = token; came = ended_as op answer came }) ∷ ends op answer asked) ≡ ((record { client = client; token = token; came = came }) ∷ asked)
      by client token Heard k rest = ap (λ those. (record { client = client; token = token; came = Heard }) ∷ those) (rest k)
      by client token (Refused words) k rest = ap (λ those. (record { client = client; token = token; came = Refused words }) ∷ those) (rest k)
      by client token (Ended other given) k rest = ap (λ those. (record { client = client; token = token; came = Ended other given }) ∷ those) (rest k)
      by client token (Opened other) k rest =
          let apart = not_first other op (map op_awaited (waits asked)) k in
          λ i. (record { client = client; token = token; came = cond (apart.0 i) (Ended other answer) (Opened other) }) ∷ rest apart.1 i

  module _ (test : Line → Bool) where
    swap_in : (a b d : ℕ) → a + (b + d) ≡ (a + b) + d
    swap_in a b d = omega arith

    -- one answer: the request whose operation it ends gets its reply
    one_ends : (op : OpId) (answer : Answer) (asked : List Asked) → AreApart (map op_awaited (waits asked))
        → many test (given (ends op answer asked)) ≡ many test (given asked) + many test (found_reply answer (find (answers_to op) (waits asked)))
    one_ends op answer [] apart = refl
    one_ends op answer (one ∷ asked) apart = by one.client one.token one.came apart (λ k. one_ends op answer asked k)
      where
        ended : List Line
        ended = given (ends op answer asked)

        found : Option Waiting
        found = find (answers_to op) (waits asked)

        with_one : (line : Line) → many test ended ≡ many test (given asked) + many test (found_reply answer found)
            → many test (line ∷ ended) ≡ many test (line ∷ given asked) + many test (found_reply answer found)
        with_one line e =
            many_more test line ended ∙ ap (λ n. cond (test line) 1 0 + n) e
            ∙ swap_in (cond (test line) 1 0) (many test (given asked)) (many test (found_reply answer found)) ∙ sym (ap (λ n. n + many test (found_reply answer found)) (many_more test line (given asked)))

        by : (client token : ℕ) (came : RequestState) → AreApart (map op_awaited (cons_option (waits_by client token came) (waits asked)))
            → (AreApart (map op_awaited (waits asked)) → many test ended ≡ many test (given asked) + many test (found_reply answer found))
            → many test (cons_option (reply_by schema me client token (ended_as op answer came)) ended)
            ≡ many test (cons_option (reply_by schema me client token came) (given asked)) + many test (found_reply answer (find (answers_to op) (cons_option (waits_by client token came) (waits asked))))
        by client token Heard k rest = rest k
        by client token (Refused words) k rest = with_one (reply_line me client token words) (rest k)
        by client token (Ended other told) k rest = with_one (reply_line me client token (answer_words schema told)) (rest k)
        by client token (Opened other) k rest = go (same_op other op) refl
          where
            one_waits : Waiting
            one_waits = record { op = other; client = client; token = token }

            line : Line
            line = reply_line me client token (answer_words schema answer)

            swapped : (a b : ℕ) → a + b ≡ b + a
            swapped a b = omega arith

            none : (a : ℕ) → a + 0 ≡ a
            none a = omega arith

            single : many test (line ∷ []) ≡ cond (test line) 1 0
            single = many_more test line [] ∙ none (cond (test line) 1 0)

            go : (t : Bool) → same_op other op ≡ t → many test (cons_option (reply_by schema me client token (cond t (Ended other answer) (Opened other))) ended)
                ≡ many test (given asked) + many test (found_reply answer (cond t (Some one_waits) found))
            go true e = many_more test line ended
                ∙ ap (λ those. cond (test line) 1 0 + many test (given those)) (none_ends op answer asked (subst (λ x. among (map op_awaited (waits asked)) x ≡ false) (same_op_equal other op e) k.0))
                ∙ swapped (cond (test line) 1 0) (many test (given asked)) ∙ ap (λ n. many test (given asked) + n) (sym single)
            go false e = rest k.1

    -- ---- all answers of a step

    same_replies : (op : OpId) (fates : List Fate) (those : List Waiting) → among (map op_in fates) op ≡ false → replies_of (filter (λ (one : Waiting). not (answers_to op one)) those) fates ≡ replies_of those fates
    same_replies op [] those h = refl
    same_replies op (Stays other ∷ fates) those h = same_replies op fates those (not_first other op (map op_in fates) h).1
    same_replies op (Ends other answer ∷ fates) those h =
        let apart = not_first other op (map op_in fates) h in
        λ i. found_reply answer (find_other op other those apart.0 i) ++ same_replies op fates those apart.1 i

    pub all_end : (fates : List Fate) (asked : List Asked) → AreApart (map op_in fates) → AreApart (map op_awaited (waits asked))
        → many test (given (all_pass fates asked)) ≡ many test (given asked) + many test (replies_of (waits asked) fates)
    all_end [] asked apart alone = none (many test (given asked))
      where
        none : (a : ℕ) → a ≡ a + 0
        none a = omega arith
    all_end (Stays op ∷ fates) asked apart alone = all_end fates asked apart.1 alone
    all_end (Ends op answer ∷ fates) asked apart alone =
        all_end fates (ends op answer asked) apart.1 alone_then
        ∙ ap (λ n. n + many test (replies_of (waits (ends op answer asked)) fates)) (one_ends op answer asked alone)
        ∙ ap (λ lines. (many test (given asked) + many test first) + many test lines) then_same
        ∙ sym (swap_in (many test (given asked)) (many test first) (many test (replies_of (waits asked) fates)))
        ∙ ap (λ n. many test (given asked) + n) (sym (many_both test first (replies_of (waits asked) fates)))
      where
        first : List Line
        first = found_reply answer (find (answers_to op) (waits asked))

        alone_then : AreApart (map op_awaited (waits (ends op answer asked)))
        alone_then = subst (λ those. AreApart (map op_awaited those)) (sym (waits_less op answer asked)) (apart_less (λ (one : Waiting). not (answers_to op one)) (waits asked) alone)

        then_same : replies_of (waits (ends op answer asked)) fates ≡ replies_of (waits asked) fates
        then_same = ap (λ those. replies_of those fates) (waits_less op answer asked) ∙ same_replies op fates (waits asked) apart.0

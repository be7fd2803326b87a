-- What a read that polls knows: each voter whose answer counts told a position that is none above its greatest, and once a majority did, that is the
-- position through which it reads, whatever it completes then.
use Rattle.std.proofs.Common.{◌≡◌, ◌⊎◌, inl, inr, ℕ, ◌+◌, max, ◌==◌, ◌&&◌, ◌||◌, ◌≤◌, Bool, true, false, not, cond, List, [], ◌∷◌, ◌++◌, map, length, Option, Some, None, refl, ap, ◌∙◌, subst, arith}
use Rattle.std.specs.List.{list_all}
use Rattle.std.proofs.lemmas.Bool.{and_parts, or_parts, not-false}
use Rattle.mega_base.specs.declared.names.Epoch.{Epoch}
use Rattle.mega_base.specs.declared.names.GroupId.{GroupId}
use Rattle.mega_base.specs.declared.names.OpId.{OpId}
use Rattle.mega_base.specs.declared.names.Position.{Position}
use Rattle.mega_cluster.specs.declared.cluster.Cluster.{Cluster}
use Rattle.mega_lease_laws.specs.of_run_laws.of_tape_laws.of_promises.of_rules.of_read.of_propose.Members.{has, is_majority, with_node}
use Rattle.mega_lease_laws.specs.of_run_laws.of_tape_laws.of_promises.of_rules.of_read.of_propose.Rounds.{is_due}
use Rattle.mega_lease_laws.specs.of_run_laws.of_tape_laws.of_promises.of_rules.of_read.declared.reading.Move.{Move as ReadMove}
use Rattle.mega_lease_laws.specs.of_run_laws.of_tape_laws.of_promises.of_rules.of_read.declared.reading.Reading.{Reading}
use Rattle.mega_lease_laws.specs.of_run_laws.of_tape_laws.of_promises.of_rules.of_read.declared.reading.Search.TheVariants.{Fetching, Filling}
use Rattle.mega_lease_laws.specs.of_run_laws.of_tape_laws.of_promises.of_rules.of_read.declared.reading.Stage.{Stage}
use Rattle.mega_lease_laws.specs.of_run_laws.of_tape_laws.of_promises.of_rules.of_read.declared.reading.Stage.TheVariants.{Polling, Catching}
use Rattle.mega_lease_laws.specs.of_run_laws.of_tape_laws.of_promises.of_rules.of_read.Catching.{asked_by, falls_due, fetch_to, fills, hears, helpers, is_position, move, polled_read, searched, seeks, topped}
use Rattle.mega_wal.specs.Same.{same_group, same_op}
use Rattle.mega_wal.proofs.Sames.{same_group_equal, same_op_equal}
use Rattle.mega_wire.specs.declared.message.Body.{Body}
use Rattle.mega_wire.specs.declared.message.Body.TheVariants.{HaveNot, Top}
use Rattle.mega_lease_laws.specs.of_run_laws.of_tape_laws.of_promises.of_transcript.declared.item.Item.{Item}
use Rattle.mega_lease_laws.specs.of_run_laws.of_tape_laws.of_promises.of_rules.Members.{voters}
use Rattle.mega_lease_laws.specs.of_run_laws.of_tape_laws.Lawful.{Heard, message}
use Rattle.mega_lease_laws.specs.of_run_laws.of_tape_laws.Places.{Took, count}
use Rattle.mega_lease_laws.specs.of_run_laws.of_tape_laws.Polls.{IsPolled}
use Rattle.mega_lease_laws.proofs.of_run_laws.of_tape_laws.Ballots.{number_is}
use Rattle.mega_lease_laws.proofs.of_run_laws.Counted.{count_more, majority_is, push_last}
use Rattle.mega_lease_laws.proofs.of_run_laws.Reading.{who}
use Rattle.mega_lease_laws.proofs.of_run_laws.Sending.{Stood, took_on}

-- the last of a list
has_push : (node from : ℕ) (nodes : List ℕ) → has node (nodes ++ from ∷ []) ≡ true → (has node nodes ≡ true) ⊎ (from ≡ node)
has_push node from [] h = by (from == node) refl h
  where
    by : (t : Bool) → (from == node) ≡ t → (t || false) ≡ true → (false ≡ true) ⊎ (from ≡ node)
    by true e k = inr (number_is from node e)
    by false e k = cc
has_push node from (x ∷ nodes) h = by (x == node) (has_push node from nodes) h
  where
    by : (t : Bool) → (has node (nodes ++ from ∷ []) ≡ true → (has node nodes ≡ true) ⊎ (from ≡ node)) → (t || has node (nodes ++ from ∷ [])) ≡ true → ((t || has node nodes) ≡ true) ⊎ (from ≡ node)
    by true again k = inl refl
    by false again k = again k

has_still : (node from : ℕ) (nodes : List ℕ) → has node nodes ≡ true → has node (nodes ++ from ∷ []) ≡ true
has_still node from [] h = cc
has_still node from (x ∷ nodes) h = by (x == node) (has_still node from nodes) h
  where
    by : (t : Bool) → (has node nodes ≡ true → has node (nodes ++ from ∷ []) ≡ true) → (t || has node nodes) ≡ true → (t || has node (nodes ++ from ∷ [])) ≡ true
    by true again k = refl
    by false again k = again k

push_length : (from : ℕ) (nodes : List ℕ) → length (nodes ++ from ∷ []) ≡ length nodes + 1
push_length from [] = omega arith
push_length from (x ∷ nodes) = let rest = push_length from nodes in omega (arith, rest)

module _ (c : Cluster) (tape : List Item) (op : OpId) (group : GroupId) where
  -- a voter told a position that is none above this one
  pub record ToldAtMost (voter best : ℕ) : Type 0 where
    pub top : Position
    pub heard : Heard tape voter op (Top op group top)
    pub most : top.0 ≤ best

  -- each of these voters did
  pub record Tops (heard : List ℕ) (best : ℕ) : Type 0 where
    pub each : (voter : ℕ) → has voter heard ≡ true → ToldAtMost voter best
    pub counted : length heard ≤ count (λ v. has v heard) (voters c)

  pub no_tops : Tops [] 0
  no_tops = record { each = λ voter h. cc; counted = omega arith }

  told_more : (voter best top : ℕ) → ToldAtMost voter best → ToldAtMost voter (max best top)
  told_more voter best top t = record { top = t.top; heard = t.heard; most = (let le = t.most in omega (arith, le)) }

  one_top : (from : ℕ) (top : Position) (heard : List ℕ) (best : ℕ) → Tops heard best → Heard tape from op (Top op group top) → has from (voters c) ≡ true → has from heard ≡ false → Tops (heard ++ from ∷ []) (max best top.0)
  one_top from top heard best t told is_voter is_new = record {
    each = λ voter h. by voter (has_push voter from heard h);
    counted = (let le = t.counted in let is = push_length from heard in
        let more = count_more (λ v. has v heard) (λ v. has v (heard ++ from ∷ [])) from (voters c) (λ v. has_still v from heard) is_new (push_last from heard) is_voter in omega (arith, le, is, more));
  }
    where
      by : (voter : ℕ) → (has voter heard ≡ true) ⊎ (from ≡ voter) → ToldAtMost voter (max best top.0)
      by voter (inl h) = told_more voter best top.0 (t.each voter h)
      by voter (inr same) = subst (λ v. ToldAtMost v (max best top.0)) same (record { top = top; heard = told; most = omega arith })

  tops_polled : (heard : List ℕ) (best : ℕ) → Tops heard best → is_majority (length (voters c)) (length heard) ≡ true → IsPolled c tape op group (record { 0 = best })
  tops_polled heard best t most = record {
    test = λ v. has v heard;
    majority = majority_is (length (voters c)) (length heard) (count (λ v. has v heard) (voters c)) most t.counted;
    heard = λ voter h. let told = t.each voter h in (told.top, told.heard, told.most);
  }

  -- `N` is what is said of the epoch that a read noted, and `K` of a position through which it reads too, which a poll gives
  module _ (N : Option Epoch → Type 0) (K : Option Epoch → ℕ → Type 0) (polled : (noted : Option Epoch) (p : ℕ) → N noted → IsPolled c tape op group (record { 0 = p }) → K noted p) where
    abbrev pub StagePolls : Option Epoch → Stage → Type 0
    StagePolls noted (Polling heard best at) = N noted × Tops heard best
    StagePolls noted (Catching through search) = K noted through

    abbrev pub ReadPolls : ReadMove → Type 0
    ReadPolls t = StagePolls (t.reading).noted (t.reading).stage

    if_polls : (b : Bool) (one other : ReadMove) → ReadPolls one → ReadPolls other → ReadPolls (cond b one other)
    if_polls true one other h k = h
    if_polls false one other h k = k

    module _ (noted : Option Epoch) (asked : List ℕ) where
      abbrev at_stage : Stage → Reading
      at_stage stage = record { noted = noted; asked = asked; stage = stage }

      topped_polls : (from : ℕ) (top : Position) (heard : List ℕ) (best at : ℕ) → N noted → Tops heard best → Heard tape from op (Top op group top) → ReadPolls (topped (who c op group) (at_stage (Polling heard best at)) from top.0 heard best at)
      topped_polls from top heard best at n t told = by (has from heard || not (has from (voters c))) refl
        where
          r : Reading
          r = at_stage (Polling heard best at)

          counts : has from heard ≡ false → has from (voters c) ≡ true → (b : Bool) → is_majority (length (voters c)) (length heard + 1) ≡ b
              → ReadPolls (cond {A = ReadMove} b (move r (Catching (max best top.0) None) []) (move r (Polling (heard ++ from ∷ []) (max best top.0) at) []))
          counts is_new is_voter true most = polled noted (max best top.0) n (tops_polled (heard ++ from ∷ []) (max best top.0) (one_top from top heard best t told is_voter is_new)
              (ap (is_majority (length (voters c))) (push_length from heard) ∙ most))
          counts is_new is_voter false most = (n, one_top from top heard best t told is_voter is_new)

          by : (b : Bool) → (has from heard || not (has from (voters c))) ≡ b
              → ReadPolls (cond {A = ReadMove} b (record { reading = r; sends = [] }) (cond (is_majority (length (voters c)) (length heard + 1)) (move r (Catching (max best top.0) None) []) (move r (Polling (heard ++ from ∷ []) (max best top.0) at) [])))
          by true e = (n, t)
          by false e = let parts = or_parts (has from heard) (not (has from (voters c))) e in counts parts.0 (not-false (has from (voters c)) parts.1) (is_majority (length (voters c)) (length heard + 1)) refl

      hears_by : (stage : Stage) (from now : ℕ) (body : Body) → StagePolls noted stage → Took tape (message from op.node.0 body) → ReadPolls (hears (who c op group) (at_stage stage) from now body)
      hears_by (Polling heard best at) from now (Top o g top) t took = by (same_op op o && same_group group g) refl
        where
          by : (b : Bool) → (same_op op o && same_group group g) ≡ b → ReadPolls (cond b (topped (who c op group) (at_stage (Polling heard best at)) from top.0 heard best at) (record { reading = at_stage (Polling heard best at); sends = [] }))
          by true e = let parts = and_parts (same_op op o) (same_group group g) e in
              topped_polls from top heard best at t.0 t.1
              (coe 1 0 (i. Took tape (message from op.node.0 (Top (same_op_equal op o parts.0 i) (same_group_equal group g parts.1 i) top))) took)
          by false e = t
      hears_by (Polling heard best at) from now _ t took = t
      hears_by (Catching through None) from now body k took = k
      hears_by (Catching through (Some (Fetching position denials at))) from now (HaveNot o g n) k took =
          if_polls (same_op op o && same_group group g && n.0 == position && has from (helpers (who c op group))) _ _
          (if_polls (list_all (λ voter. has voter (with_node from denials)) (helpers (who c op group))) _ _ k k) k
      hears_by (Catching through (Some (Fetching position denials at))) from now _ k took = k
      hears_by (Catching through (Some (Filling position proposal))) from now body k took = k

      due_by : (stage : Stage) (retry now : ℕ) → StagePolls noted stage → ReadPolls (falls_due (who c op group) (at_stage stage) retry now)
      due_by (Polling heard best at) retry now t = if_polls (is_due at retry now) _ _ t t
      due_by (Catching through None) retry now k = k
      due_by (Catching through (Some (Fetching position denials at))) retry now k = if_polls (is_due at retry now) _ _ k k
      due_by (Catching through (Some (Filling position proposal))) retry now k = k

      seeks_by : (stage : Stage) (least now : ℕ) → StagePolls noted stage → ReadPolls (seeks (who c op group) (at_stage stage) least now)
      seeks_by (Polling heard best at) least now t = t
      seeks_by (Catching through search) least now k = if_polls (is_position least (searched search)) _ _ k (fetched (helpers (who c op group)))
        where
          r : Reading
          r = record { noted = noted; asked = asked_by (at_stage (Catching through search)); stage = Catching through search }

          fetched_by : List ℕ → ReadMove
          fetched_by [] = fills (who c op group) r through least now
          fetched_by (voter ∷ those) = move r (Catching through (Some (Fetching least [] now))) (map (fetch_to (who c op group) least) (voter ∷ those))

          fetched : (those : List ℕ) → ReadPolls (fetched_by those)
          fetched [] = k
          fetched (voter ∷ those) = k

    -- what each of its moves keeps
    pub hears_polls : (r : Reading) (from now : ℕ) (body : Body) → StagePolls r.noted r.stage → Took tape (message from op.node.0 body) → ReadPolls (hears (who c op group) r from now body)
    hears_polls r from now body k took = hears_by r.noted r.asked r.stage from now body k took

    pub due_polls : (r : Reading) (retry now : ℕ) → StagePolls r.noted r.stage → ReadPolls (falls_due (who c op group) r retry now)
    due_polls r retry now k = due_by r.noted r.asked r.stage retry now k

    pub seeks_polls : (r : Reading) (least now : ℕ) → StagePolls r.noted r.stage → ReadPolls (seeks (who c op group) r least now)
    seeks_polls r least now k = seeks_by r.noted r.asked r.stage least now k

    pub polled_begins : (noted : Option Epoch) (asked : List ℕ) (now : ℕ) → N noted → ReadPolls (polled_read (who c op group) noted asked now)
    polled_begins noted asked now n = (n, no_tops)

-- ---- on a longer tape

pub tops_on : (c : Cluster) (old new : List Item) (op : OpId) (group : GroupId) (heard : List ℕ) (best : ℕ) → Stood old new → Tops c old op group heard best → Tops c new op group heard best
tops_on c old new op group heard best s h = record {
  each = λ voter t. let told = h.each voter t in record { top = told.top; heard = took_on old new s _ told.heard; most = told.most };
  counted = h.counted;
}

pub polled_on : (c : Cluster) (old new : List Item) (op : OpId) (group : GroupId) (p : Position) → Stood old new → IsPolled c old op group p → IsPolled c new op group p
polled_on c old new op group p s h = record { test = h.test; majority = h.majority; heard = λ voter t. let told = h.heard voter t in (told.0, took_on old new s _ told.1, told.2) }

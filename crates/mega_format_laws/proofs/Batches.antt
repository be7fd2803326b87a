-- The entry of a batch is of the format: its cuts rise, and add up to its writes and sends.
use Rattle.std.proofs.Common.{◌≡◌, ℕ, suc, ◌+◌, ◌==◌, ◌≤◌, Bool, true, false, cond, List, [], ◌∷◌, ◌++◌, length, length-append, fold, Some, Result, Ok, Err, refl, sym, subst, arith}
use Rattle.std.specs.Prelude.{IsSome, nat_lt, sum_by}
use Rattle.std.proofs.lemmas.Bool.Decides.{nat_tests}
use Rattle.std.proofs.lemmas.List.Sums.{sum_by-append}
use Rattle.mega_base.specs.declared.names.GroupId.{GroupId}
use Rattle.mega_base.specs.declared.names.OpId.{OpId}
use Rattle.mega_entry.specs.declared.content.Content.{Content}
use Rattle.mega_entry.specs.declared.content.Cut.{Cut}
use Rattle.mega_entry.specs.declared.content.Send.{Send}
use Rattle.mega_entry.specs.declared.content.Write.{Write}
use Rattle.mega_entry.specs.Entries.{HasCuts, RisesFrom, first_index}
use Rattle.mega_schema.specs.declared.schema.Schema.{Schema}
use Rattle.mega_index.specs.Fitted.{entry_of, most_bytes}
use Rattle.mega_index.specs.Rows.{Rows, after, no_rows, written}
use Rattle.mega_outcome.specs.declared.answer.Batch.{Batch}
use Rattle.mega_outcome.specs.declared.answer.Done.{Done}
use Rattle.mega_outcome.specs.declared.answer.Turn.{Turn}
use Rattle.mega_outcome.specs.declared.answer.Turn.TheVariants.{TooLarge}
use Rattle.mega_outcome.specs.declared.transaction.Transaction.{Transaction}
use Rattle.mega_outcome.specs.Outcome.{batch_length, batch_outcome, entry_cuts, entry_of_batch, left_out, no_batch, outcome_in, taken, with_all, with_next, with_result}
use Rattle.mega_format_laws.specs.Rounds.{Each, IsSender, IsShort}
use Rattle.mega_format_laws.specs.Requests.{IsRowed, IsTransaction}
use Rattle.mega_format_laws.proofs.Each.{each_both}
use Rattle.mega_format_laws.proofs.Rows.{AreRows, after_rows, none_rows, written_rows}
use Rattle.mega_format_laws.proofs.Texts.{parts}
use Rattle.mega_format_laws.proofs.Outcomes.{IsDone, IsNamed, OkIs, outcome_ok, own_short}

-- cuts whose indexes rise from low on, below high
abbrev Within : ℕ → ℕ → List Cut → Type 0
Within low high [] = low ≤ high
Within low high (cut ∷ cuts) = (low ≤ cut.index) × Within (cut.index + 1) high cuts

within_reach : (low high : ℕ) (cuts : List Cut) → Within low high cuts → low ≤ high
within_reach low high [] h = h
within_reach low high (cut ∷ cuts) h = let rest = within_reach (cut.index + 1) high cuts h.1 in let le = h.0 in omega (arith, rest, le)

within_more : (low high : ℕ) (cuts : List Cut) → Within low high cuts → Within low (high + 1) cuts
within_more low high [] h = omega (arith, h)
within_more low high (cut ∷ cuts) h = (h.0, within_more (cut.index + 1) high cuts h.1)

within_last : (low high : ℕ) (cuts : List Cut) (last : Cut) → last.index ≡ high → Within low high cuts → Within low (high + 1) (cuts ++ last ∷ [])
within_last low high [] last e h = (omega (arith, e, h), omega (arith, e))
within_last low high (cut ∷ cuts) last e h = (h.0, within_last (cut.index + 1) high cuts last e h.1)

rises : (low high : ℕ) (cuts : List Cut) → high ≤ 16 → Within low high cuts → RisesFrom low cuts
rises low high [] le h = tt
rises low high (cut ∷ cuts) le h = let reach = within_reach (cut.index + 1) high cuts h.1 in ((h.0, omega (arith, reach, le)), rises (cut.index + 1) high cuts le h.1)

-- a batch so far
record IsSoFar (b : Batch) : Type 0 where
  writes : Each IsRowed b.writes
  sends : Each IsNamed b.sends
  rising : Within 0 (length b.results) b.cuts
  all_writes : sum_by (λ (cut : Cut). cut.writes) b.cuts ≡ length b.writes
  all_sends : sum_by (λ (cut : Cut). cut.sends) b.cuts ≡ length b.sends
  short : batch_length b ≤ 32768

none_yet : IsSoFar no_batch
none_yet = record { writes = tt; sends = tt; rising = omega arith; all_writes = refl; all_sends = refl; short = omega (arith, parts (entry_of [] [] [] [])) }

left_so_far : (b : Batch) (turn : Turn) → IsSoFar b → IsSoFar (left_out b turn)
left_so_far b turn h = record {
  writes = h.writes;
  sends = h.sends;
  rising = subst (λ n. Within 0 n b.cuts) (sym (length-append b.results (Err turn ∷ []))) (within_more 0 (length b.results) b.cuts h.rising);
  all_writes = h.all_writes;
  all_sends = h.all_sends;
  short = h.short;
}

taken_so_far : (b : Batch) (done : Done) → IsSoFar b → IsDone done → batch_length (taken b done) ≤ 32768 → IsSoFar (taken b done)
taken_so_far b done h d le = record {
  writes = each_both IsRowed b.writes done.writes h.writes d.writes;
  sends = each_both IsNamed b.sends done.sends h.sends d.sends;
  rising = subst (λ n. Within 0 n (b.cuts ++ last ∷ [])) (sym (length-append b.results (Ok done.replies ∷ []))) (within_last 0 (length b.results) b.cuts last refl h.rising);
  all_writes = (let one = sum_by-append (λ (cut : Cut). cut.writes) b.cuts (last ∷ []) in let all = h.all_writes in omega (arith, one, all, length-append b.writes done.writes));
  all_sends = (let one = sum_by-append (λ (cut : Cut). cut.sends) b.cuts (last ∷ []) in let all = h.all_sends in omega (arith, one, all, length-append b.sends done.sends));
  short = le;
}
  where
    last : Cut
    last = record { index = length b.results; writes = length done.writes; sends = length done.sends }

result_so_far : (b : Batch) (r : Result Done Turn) → IsSoFar b → OkIs IsDone r → IsSoFar (with_result b r)
result_so_far b (Err turn) h d = left_so_far b turn h
result_so_far b (Ok done) h d = go (nat_lt most_bytes (batch_length (taken b done))) refl
  where
    fits : (n : ℕ) → nat_lt 32768 n ≡ false → n ≤ 32768
    fits n e = grind (arith, nat_tests)

    go : (t : Bool) → nat_lt most_bytes (batch_length (taken b done)) ≡ t → IsSoFar (cond t (left_out b (TooLarge (batch_length (taken b done)))) (taken b done))
    go true e = left_so_far b (TooLarge (batch_length (taken b done))) h
    go false e = taken_so_far b done h d (fits (batch_length (taken b done)) e)

next_so_far : (s : Schema) (group : List ℕ) (rows : Rows) (b : Batch) (t : Transaction) → AreRows rows → IsSoFar b → IsTransaction t → IsSoFar (with_next s group rows b t)
next_so_far s group rows b t r h f = result_so_far b (outcome_in s group t (written b.writes rows)) h (outcome_ok s group t (written b.writes rows) (written_rows b.writes rows h.writes r) f)

counted : (b : Batch) (larger : Batch) (turn : Turn) (t : Bool) → length larger.results ≡ length b.results + 1 → length (cond t (left_out b turn) larger).results ≡ length b.results + 1
counted b larger turn true e = length-append b.results (Err turn ∷ [])
counted b larger turn false e = e

result_counts : (b : Batch) (r : Result Done Turn) → length (with_result b r).results ≡ length b.results + 1
result_counts b (Err turn) = length-append b.results (Err turn ∷ [])
result_counts b (Ok done) = counted b (taken b done) (TooLarge (batch_length (taken b done))) (nat_lt most_bytes (batch_length (taken b done))) (length-append b.results (Ok done.replies ∷ []))

each_so_far : (s : Schema) (group : List ℕ) (rows : Rows) (b : Batch) (ts : List Transaction) → AreRows rows → IsSoFar b → length b.results + length ts ≤ 16 → Each IsTransaction ts
    → IsSoFar (fold (with_next s group rows) b ts) × (length (fold (with_next s group rows) b ts).results ≤ 16)
each_so_far s group rows b [] r h le e = (h, omega (arith, le))
each_so_far s group rows b (t ∷ ts) r h le e =
    let one = result_counts b (outcome_in s group t (written b.writes rows)) in
    each_so_far s group rows (with_next s group rows b t) ts r (next_so_far s group rows b t r h e.0) (omega (arith, le, one)) e.1

-- ---- the cuts of its entry

single_cut : (op : OpId) (writes : List Write) (sends : List Send) (cut : Cut) (high : ℕ) → high ≤ 16 → Within 0 high (cut ∷ []) → sum_by (λ (c : Cut). c.writes) (cut ∷ []) ≡ length writes → sum_by (λ (c : Cut). c.sends) (cut ∷ []) ≡ length sends
    → (t : Bool) → (cut.index == 0) ≡ t → HasCuts (record { id = Some op; leader = op.node; writes = writes; sends = sends; enters = []; handles = []; cuts = cond t [] (cut ∷ []) }) (cond t [] (cut ∷ []))
single_cut op writes sends cut high le h w s true e = tt
single_cut op writes sends cut high le h w s false e =
    let reach = h.1 in
    (some_op op, refl, refl, record { some = omega arith; rising = ((above cut.index e, omega (arith, reach, le)), tt); all_writes = w; all_sends = s })
  where
    above : (n : ℕ) → (n == 0) ≡ false → 1 ≤ n
    above n e = grind (arith, nat_tests)

    some_op : (op : OpId) → IsSome (Some op)
    some_op op = refl

cuts_formed : (op : OpId) (writes : List Write) (sends : List Send) (cuts : List Cut) (high : ℕ) → high ≤ 16 → Within 0 high cuts → sum_by (λ (c : Cut). c.writes) cuts ≡ length writes → sum_by (λ (c : Cut). c.sends) cuts ≡ length sends
    → HasCuts (record { id = Some op; leader = op.node; writes = writes; sends = sends; enters = []; handles = []; cuts = entry_cuts cuts }) (entry_cuts cuts)
cuts_formed op writes sends [] high le h w s = tt
cuts_formed op writes sends (cut ∷ []) high le h w s = single_cut op writes sends cut high le h w s (cut.index == 0) refl
cuts_formed op writes sends (cut ∷ other ∷ cuts) high le h w s =
    (some_op op, refl, refl, record { some = omega arith; rising = subst (λ n. RisesFrom n (cut ∷ other ∷ cuts)) (sym (least (length cuts))) (rises 0 high (cut ∷ other ∷ cuts) le h); all_writes = w; all_sends = s })
  where
    least : (n : ℕ) → first_index (suc (suc n)) ≡ 0
    least n = grind (arith, nat_tests)

    some_op : (op : OpId) → IsSome (Some op)
    some_op op = refl

pub batch_short : (s : Schema) (group : GroupId) (ts : List Transaction) (log : List Content) (op : OpId) → length ts ≤ 16 → Each IsTransaction ts → Each IsShort log → IsSender op → IsShort (entry_of_batch op (batch_outcome s group ts (after log no_rows)))
batch_short s group ts log op few f e o =
    let both = each_so_far s group.key (after log no_rows) no_batch ts (after_rows log no_rows e none_rows) none_yet (omega (arith, few)) f in
    let h = both.0 in
    own_short op (with_all s group.key ts (after log no_rows)).writes (with_all s group.key ts (after log no_rows)).sends (entry_cuts (with_all s group.key ts (after log no_rows)).cuts) o h.writes h.sends
    (cuts_formed op (with_all s group.key ts (after log no_rows)).writes (with_all s group.key ts (after log no_rows)).sends (with_all s group.key ts (after log no_rows)).cuts (length (with_all s group.key ts (after log no_rows)).results) both.1 h.rising h.all_writes h.all_sends) h.short

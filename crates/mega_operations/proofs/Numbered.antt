-- One more number in a list of those that pass a test.
use Rattle.std.proofs.Common.{◌≡◌, ℕ, ◌+◌, Bool, true, false, cond, [], ◌∷◌, ◌++◌, sym, ap, ◌∙◌, add_comm, append-nil, map-id}
use Rattle.std.specs.Prelude.{filter}
use Rattle.std.specs.List.{range_with_len}
use Rattle.std.proofs.lemmas.List.Elements.{filter-append}
use Rattle.std.proofs.lemmas.List.FromFn.{map-range_with_len_more}

one_number : (n : ℕ) → range_with_len 1 (n + 1) ≡ range_with_len 1 n ++ (n + 1) ∷ []
one_number n =
    sym (map-id (range_with_len 1 (n + 1))) ∙ map-range_with_len_more (λ k. k) 1 n (n + 1) (add_comm 1 n)
    ∙ ap (λ l. l ++ (n + 1) ∷ []) (map-id (range_with_len 1 n))

one_more : (test : ℕ → Bool) (n : ℕ) (b : Bool) → test (n + 1) ≡ b → filter test (range_with_len 1 (n + 1)) ≡ filter test (range_with_len 1 n) ++ cond b ((n + 1) ∷ []) []
one_more test n b h =
    ap (filter test) (one_number n) ∙ filter-append test (range_with_len 1 n) ((n + 1) ∷ [])
    ∙ ap (λ t. filter test (range_with_len 1 n) ++ cond t ((n + 1) ∷ []) []) h

pub kept_next : (test : ℕ → Bool) (n : ℕ) → test (n + 1) ≡ true → filter test (range_with_len 1 n) ++ (n + 1) ∷ [] ≡ filter test (range_with_len 1 (n + 1))
kept_next test n h = sym (one_more test n true h)

pub left_out : (test : ℕ → Bool) (n : ℕ) → test (n + 1) ≡ false → filter test (range_with_len 1 n) ≡ filter test (range_with_len 1 (n + 1))
left_out test n h = sym (one_more test n false h ∙ append-nil (filter test (range_with_len 1 n)))

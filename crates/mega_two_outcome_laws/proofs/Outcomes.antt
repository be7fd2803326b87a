-- What a transaction of checks and writes alone comes to, where its writes fit.
use Rattle.std.proofs.Common.{◌≡◌, ℕ, ◌+◌, cond, Bool, true, false, List, [], length, refl, ap, ◌∙◌, arith, Option, Some, None, Result, Ok, Err, is_ok}
use Rattle.std.proofs.lemmas.Bool.{and_parts}
use Rattle.std.specs.Prelude.{map, nat_le, nat_lt}
use Rattle.std.specs.List.{list_all}
use Rattle.std.specs.Result.{result_ok}
use Rattle.std.proofs.lemmas.Bool.Decides.{nat_tests}
use Rattle.mega_entry.specs.declared.content.Write.{Write}
use Rattle.mega_schema.specs.declared.schema.Schema.{Schema}
use Rattle.mega_index.specs.Rows.{Rows}
use Rattle.mega_index.specs.Fitted.{most_bytes}
use Rattle.mega_outcome.specs.declared.answer.Turn.{Turn}
use Rattle.mega_outcome.specs.declared.answer.Turn.TheVariants.{TooLarge}
use Rattle.mega_outcome.specs.declared.answer.Done.{Done}
use Rattle.mega_outcome.specs.declared.transaction.Check.{Check}
use Rattle.mega_outcome.specs.declared.transaction.Change.{Change}
use Rattle.mega_outcome.specs.Places.{◌>>=◌}
use Rattle.mega_outcome.specs.Checks.{all_checks}
use Rattle.mega_outcome.specs.Changes.{all_changes}
use Rattle.mega_outcome.specs.Outcome.{entry_length, unless_large, outcome}
use Rattle.mega_two_driver.specs.Fits.{writes_of, may_stand, transaction_fits, are_apart, key_of}
use Rattle.mega_two_outcome_laws.specs.Runs.{writes_in}
use Rattle.mega_two_outcome_laws.specs.Requests.{asking}
use Rattle.mega_two_outcome_laws.proofs.Checking.{passes, checks_are}
use Rattle.mega_two_outcome_laws.proofs.Changing.{AreBare, are_made, may_be, all_or_none, changes_are}

-- ---- that it fits

pub record Fit (s : Schema) (group : List ℕ) (changes : List Change) : Type 0 where
  pub writes : List Write
  pub are : writes_of s group changes ≡ Some writes
  pub apart : are_apart (map key_of writes) ≡ true
  pub short : nat_le (entry_length writes [] []) most_bytes ≡ true

pub fit : (s : Schema) (group : List ℕ) (checks : List Check) (changes : List Change) → transaction_fits s (asking group checks changes) ≡ true → Fit s group changes
unfolding transaction_fits
fit s group checks changes e = by (writes_of s group changes) refl e
  where
    by : (o : Option (List Write)) → writes_of s group changes ≡ o → may_stand o ≡ true → Fit s group changes
    by None are g = absurd (cc)
    by (Some writes) are g = let p = and_parts (are_apart (map key_of writes)) (nat_le (entry_length writes [] []) most_bytes) g in record { writes = writes; are = are; apart = p.0; short = p.1 }

-- ---- what it comes to

abbrev pub only_if : Bool → Option (List Write) → Option (List Write)
only_if true writes = writes
only_if false writes = None

not_large : (n m : ℕ) → nat_le n m ≡ true → nat_lt m n ≡ false
not_large n m e = grind (arith, nat_tests)

large_or_done : (s : Schema) (writes : List Write) → nat_le (entry_length writes [] []) most_bytes ≡ true
    → writes_in (unless_large (entry_length writes [] []) (record { replies = []; writes = writes; sends = [] })) ≡ Some writes
large_or_done s writes short =
    ap (λ b. writes_in (cond {A = Result Done Turn} b (Err (TooLarge (entry_length writes [] []))) (Ok (record { replies = []; writes = writes; sends = [] })))) (not_large (entry_length writes [] []) most_bytes short)

pub comes_to : (s : Schema) (group : List ℕ) (checks : List Check) (changes : List Change) (writes : List Write) → writes_of s group changes ≡ Some writes
    → nat_le (entry_length writes [] []) most_bytes ≡ true → AreBare s changes → (rows : Rows)
    → writes_in (outcome s (asking group checks changes) rows) ≡ only_if (list_all (passes s group rows) checks) (all_or_none (may_be rows writes) writes)
comes_to s group checks changes writes are short bare rows =
    by (all_checks s group rows 0 checks) (list_all (passes s group rows) checks) (checks_are s group rows 0 checks)
  where
    place : ℕ
    place = length checks + 0

    made : result_ok (all_changes s group rows place changes) ≡ all_or_none (may_be rows writes) writes
    made = changes_are s group changes writes (are_made s group changes writes are bare) rows place

    ends : (r : Result (List Write) Turn) (b : Bool) → result_ok r ≡ all_or_none b writes
        → writes_in (r >>= λ others. unless_large (entry_length others [] []) (record { replies = []; writes = others; sends = [] })) ≡ all_or_none b writes
    ends (Ok others) true e =
        let same : others ≡ writes = cc in
        ap (λ (ws : List Write). writes_in (unless_large (entry_length ws [] []) (record { replies = []; writes = ws; sends = [] }))) same ∙ large_or_done s writes short
    ends (Ok others) false e = absurd (cc)
    ends (Err turn) true e = absurd (cc)
    ends (Err turn) false e = refl

    by : (r : Result (Unit {0}) Turn) (b : Bool) → is_ok r ≡ b
        → writes_in (r >>= λ _. all_changes s group rows place changes >>= λ others. unless_large (entry_length others [] []) (record { replies = []; writes = others; sends = [] })) ≡ only_if b (all_or_none (may_be rows writes) writes)
    by (Ok done) true e = ends (all_changes s group rows place changes) (may_be rows writes) made
    by (Ok done) false e = absurd (cc)
    by (Err turn) true e = absurd (cc)
    by (Err turn) false e = refl

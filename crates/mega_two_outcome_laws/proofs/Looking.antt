-- What a read of one row shows.
use Rattle.std.proofs.Common.{◌≡◌, ℕ, List, [], ◌∷◌, ap, Some, Result, Ok, Err, option_map}
use Rattle.std.specs.Result.{result_ok}
use Rattle.mega_base.specs.declared.values.Value.{Value}
use Rattle.mega_schema.specs.declared.schema.Schema.{Schema}
use Rattle.mega_index.specs.Rows.{Rows}
use Rattle.mega_outcome.specs.declared.answer.Turn.{Turn}
use Rattle.mega_outcome.specs.Places.{◌>>=◌, key_in}
use Rattle.mega_outcome.specs.Reads.{shown, read_rows}
use Rattle.mega_two_outcome_laws.specs.Requests.{row, key_at}

pub shows_row : (s : Schema) (group : List ℕ) (n : ℕ) (values : List Value) (key : List ℕ) (rows : Rows) → key_at s group n values ≡ Some key
    → read_rows s (record { key = group }) (row n values ∷ []) rows ≡ Ok (option_map (shown n) (rows key) ∷ [])
shows_row s group n values key rows e = by (key_in s group 0 n values) e
  where
    by : (r : Result (List ℕ) Turn) → result_ok r ≡ Some key
        → (((r >>= λ found. Ok (rows found)) >>= λ there. Ok (option_map (shown n) there)) >>= λ one. Ok (one ∷ [])) ≡ Ok (option_map (shown n) (rows key) ∷ [])
    by (Ok k) g = let same : k ≡ key = cc in ap (λ (x : List ℕ). Ok (option_map (shown n) (rows x) ∷ [])) same
    by (Err turn) g = absurd (cc)

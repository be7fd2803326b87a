-- The first entries of a log.
use Rattle.std.proofs.Common.{◌≡◌, ℕ, zero, suc, ◌+◌, ◌-◌, ◌<◌, ◌≤◌, List, [], ◌∷◌, ◌++◌, length, take, refl, ap, ◌∙◌, arith, Option}
use Rattle.std.specs.Prelude.{slice_get}
use Rattle.mega_base.specs.declared.names.GroupId.{GroupId}
use Rattle.mega_entry.specs.declared.content.Content.{Content}
use Rattle.mega_rules.specs.Logs.{decided, log_of, prefix_of}
use Rattle.mega_rules.specs.Met.{Met}
use Rattle.mega_voter.proofs.Prefixes.{entry_is}
use Rattle.mega_marks.specs.Marked.{some_of}

pub shorter : {A : Type 0} (n : ℕ) (xs : List A) → n ≤ length xs → length (take n xs) ≡ n
shorter zero xs le = refl
shorter (suc n) [] le = absurd (omega (arith, le))
shorter (suc n) (x ∷ xs) le = ap suc (shorter n xs (omega (arith, le)))

take_one : (xs : List Content) (n : ℕ) → take (suc n) xs ≡ take n xs ++ some_of (slice_get xs n)
take_one [] zero = refl
take_one [] (suc n) = refl
take_one (x ∷ xs) zero = refl
take_one (x ∷ xs) (suc n) = ap (λ (more : List Content). x ∷ more) (take_one xs n)

pub take_next : (met : List Met) (group : GroupId) (n : ℕ) → n < prefix_of met group → take (n + 1) (log_of met group) ≡ take n (log_of met group) ++ some_of (decided met group (n + 1))
take_next met group n less =
    ap (λ (m : ℕ). take m (log_of met group)) (let one : n + 1 ≡ suc n = omega arith in one)
    ∙ take_one (log_of met group) n
    ∙ ap (λ (entry : Option Content). take n (log_of met group) ++ some_of entry)
    (ap (slice_get (log_of met group)) (let back : n ≡ (n + 1) - 1 = omega arith in back) ∙ entry_is met group (n + 1) (omega arith) (omega (arith, less)))

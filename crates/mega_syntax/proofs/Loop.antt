-- A loop over steps, until one finds no more.
use Rattle.std.proofs.Common.{◌≡◌, suc, ◌<◌, List, [], ◌∷◌, ◌++◌, length, sym, ap, ◌∙◌, arith, Option, Some, None, Ok}
use Rattle.mega_syntax.specs.declared.parser.Stop.{Stop}
use Rattle.mega_syntax.specs.declared.parser.Stop.TheVariants.{Left, Refused}
use Rattle.mega_syntax.specs.Stops.{Fails}
use Rattle.mega_syntax.specs.Reading.{Texts, Read, ◌>>=◌, go_on, items_at}
use Rattle.mega_syntax.proofs.Items.{StepTakes, items_enough}

-- what is read from here is what is read of all
abbrev pub IsWithin : {A : Type 0} → (List A → Texts → Read (Option A)) → List A → Texts → Read (List A) → Type 0
IsWithin step done ts whole = items_at step (suc (length ts)) done ts ≡ whole

pub loop_ends : {A : Type 0} (step : List A → Texts → Read (Option A)) (done : List A) (ts rest : Texts) (whole : Read (List A)) → IsWithin step done ts whole → step done ts ≡ Ok (None, rest) → whole ≡ Ok (done, rest)
unfolding items_at
loop_ends {A} step done ts rest whole h e = sym h ∙ ap (λ (r : Read (Option A)). r >>= λ x. go_on done (λ more us. items_at step (length ts) more us) x.0 x.1) e

pub loop_fails : {A : Type 0} (step : List A → Texts → Read (Option A)) (done : List A) (ts : Texts) (whole : Read (List A)) (stop : Stop) → IsWithin step done ts whole → Fails stop (step done ts) → Fails stop whole
unfolding items_at
loop_fails step done ts whole Refused h e = tt
loop_fails {A} step done ts whole (Left n) h e = sym h ∙ ap (λ (r : Read (Option A)). r >>= λ x. go_on done (λ more us. items_at step (length ts) more us) x.0 x.1) e

module _ {A : Type 0} (step : List A → Texts → Read (Option A)) (Fit : List A → A → Texts → Type 0) (item : List A → A → Texts) (close : Texts) (law : StepTakes step Fit item close) where
  pub loop_less : (done : List A) (ts rest : Texts) (a : A) → step done ts ≡ Ok (Some a, rest) → length rest < length ts
  loop_less done ts rest a e = (law done ts (Some a) rest e).2

  pub loop_more : (done : List A) (ts rest : Texts) (a : A) (whole : Read (List A)) → IsWithin step done ts whole → step done ts ≡ Ok (Some a, rest) → IsWithin step (done ++ a ∷ []) rest whole
  unfolding items_at
  loop_more done ts rest a whole h e =
      let less = loop_less done ts rest a e in
      items_enough step Fit item close law (suc (length rest)) (length ts) (done ++ a ∷ []) rest (omega arith) less
      ∙ sym (ap (λ (r : Read (Option A)). r >>= λ x. go_on done (λ more us. items_at step (length ts) more us) x.0 x.1) e) ∙ h

use Rattle.std.proofs.Common.{◌∙◌, refl, ◌∷◌, [], List, ℕ}
use Rattle.std.proofs.lemmas.List.Folds.{list_all-append}
use Rattle.std.proofs.lemmas.Bool.{and_from}
use Rattle.mega_index.specs.Hints.{is_hinted}
use Rattle.mega_index.proofs.Ordered.{all_imply}
use Rattle.mega_index.proofs.refresh.add_hints.Goals as goal

pub loop-entry-preserved : goal.loop-entry-preserved
loop-entry-preserved c =
    let old = c.loop-entry.hints in
    let new = c.add_hint.new.hints in
    let g = c.args.group.now in
    let k = c.args.key.now in
    let kept = c.in_ok-add_hint.ensures.kept in
    record {
      kept = λ e g k h. kept e g k (c.loop-entry.invariant.kept e g k h);
      there =
          list_all-append (λ (entry : List ℕ). is_hinted new entry g k) c.loop-entry.yielded (c.in-Some.entry ∷ [])
          ∙ and_from _ _ (all_imply (λ (entry : List ℕ). is_hinted old entry g k) (λ (entry : List ℕ). is_hinted new entry g k) c.loop-entry.yielded (λ entry. kept entry g k) c.loop-entry.invariant.there)
          (and_from _ _ c.in_ok-add_hint.ensures.there refl);
    }

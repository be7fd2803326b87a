-- The requests that prepare and finish the parts of a line, from their texts to their steps.
use Rattle.std.proofs.Common.{◌≡◌, ℕ, suc, Bool, true, false, List, length, refl, sym, ap, ◌∙◌, subst, Some, Ok}
use Rattle.std.specs.Prelude.{slice_get}
use Rattle.serde_json.specs.Data.{Items, no_items, item}
use Rattle.mega_schema.specs.declared.schema.Schema.{Schema}
use Rattle.mega_schedule.specs.Rows.{each_in}
use Rattle.mega_two_laws.specs.Parts.{Part}
use Rattle.mega_two_laws.specs.World.{Request, Preparing, Finishing}
use Rattle.mega_two_driver.specs.Lines.{is_name}
use Rattle.mega_two_driver.specs.declared.plan.PartRequests.{PartRequests}
use Rattle.mega_two_driver.specs.declared.plan.Plan.{Plan as Requests}
use Rattle.mega_two_driver.specs.Texts.{part_requests, parts_requests, plan_with, prepare_text, finish_text}
use Rattle.mega_two_driver.specs.Fits.{own_of, transaction_of}
use Rattle.mega_two_driver.specs.Begins.{name_in, parts_in, plan_of}
use Rattle.mega_two_outcome_laws.specs.Changes.{part_of, parts_told, parts_of}
use Rattle.mega_two_outcome_laws.specs.Shown.{Stores}
use Rattle.mega_two_outcome_laws.specs.Runs.{IsStep}
use Rattle.mega_two_outcome_laws.specs.Histories.{IsRequest}
use Rattle.mega_two_outcome_laws.specs.Ready.{IsReady, AreNamedOnce, TextFits}
use Rattle.mega_two_outcome_laws.proofs.Begun.{IsBegun, is_begun, name_is}
use Rattle.mega_two_outcome_laws.proofs.Requested.{prepared_so, finished_so}
use Rattle.mega_two_outcome_laws.proofs.PartLines.{IsNth, nth_of}
use Rattle.mega_two_outcome_laws.proofs.Parts.{fits_so, is_preparing, is_finishing}

module _ (s : Schema) (line : List ℕ) (plan : Requests) (i : ℕ) (asks : PartRequests) (part : Part) (stores : Stores) (ready : IsReady s) (onces : AreNamedOnce s) (tells : plan_of s line ≡ Ok plan)
    (at : slice_get plan.parts i ≡ Some asks) (there : slice_get (parts_of s line) i ≡ Some part) where
  begun : IsBegun s line plan
  begun = is_begun s line plan tells

  abbrev name : List ℕ
  name = name_in begun.d

  called : plan.name ≡ name
  unfolding plan_with
  called = ap (λ (p : Requests). p.name) begun.is

  asked : slice_get (parts_requests s name (parts_in begun.d)) i ≡ Some asks
  unfolding plan_with
  asked = ap (λ (p : Requests). slice_get p.parts i) (sym begun.is) ∙ at

  n : IsNth s name asks part
  n = nth_of s line name begun.d asks part i begun.object begun.fine begun.fit asked (ap (λ r. slice_get (parts_told s r) i) (sym begun.object) ∙ there)

  named : is_name name ≡ true
  named = name_is begun.d begun.fine

  -- it is the request, and its step
  abbrev IsSo : List ℕ → Request → List ℕ → Type 0
  IsSo text request x = IsRequest s (parts_of s line) request (transaction_of s text) × IsStep s (transaction_of s text) x request stores

  pub prepared_text : TextFits s asks.prepare → IsSo asks.prepare (Preparing plan.name part) plan.name
  unfolding part_requests
  prepared_text fits =
      let own = own_of s n.part in
      let txn = transaction_of s (prepare_text s name n.part) in
      let is = is_preparing s ready onces name named n.part n.is n.held n.fits (subst (λ (a : PartRequests). TextFits s a.prepare) (sym n.asks_are) fits) in
      let step = subst (λ (x : Part). IsStep s txn name (Preparing name x) stores) n.told_is (prepared_so s name own txn stores is) in
      let asked_so = subst (λ (a : PartRequests). IsSo a.prepare (Preparing name part) name) n.asks_are ((own, sym n.told_is, is), step) in
      subst (λ (x : List ℕ). IsSo asks.prepare (Preparing x part) x) (sym called) asked_so

  finished : (made : Bool) → TextFits s (finish_text s made name n.part) → IsSo (finish_text s made name n.part) (Finishing name made part) name
  finished made fit =
      let own = own_of s n.part in
      let txn = transaction_of s (finish_text s made name n.part) in
      let is = is_finishing s ready onces name named n.part n.is n.held n.fits made fit in
      let step = subst (λ (x : Part). IsStep s txn name (Finishing name made x) stores) n.told_is (finished_so s name made own txn stores named is) in
      ((own, sym n.told_is, named, is), step)

  pub made_text : IsSo asks.commit (Finishing plan.name true part) plan.name
  unfolding part_requests
  made_text =
      let so = finished true (fits_so s ready onces name named n.part n.is n.held n.fits).made in
      let asked_so = subst (λ (a : PartRequests). IsSo a.commit (Finishing name true part) name) n.asks_are so in
      subst (λ (x : List ℕ). IsSo asks.commit (Finishing x true part) x) (sym called) asked_so

  pub dropped_text : TextFits s asks.abort → IsSo asks.abort (Finishing plan.name false part) plan.name
  unfolding part_requests
  dropped_text fits =
      let so = finished false (subst (λ (a : PartRequests). TextFits s a.abort) (sym n.asks_are) fits) in
      let asked_so = subst (λ (a : PartRequests). IsSo a.abort (Finishing name false part) name) n.asks_are so in
      subst (λ (x : List ℕ). IsSo asks.abort (Finishing x false part) x) (sym called) asked_so

-- as many requests as parts
same_count : (s : Schema) (gid : List ℕ) (parts : Items) → length (parts_requests s gid parts) ≡ length (each_in (part_of s) parts)
same_count s gid no_items = refl
same_count s gid (item one parts) = ap suc (same_count s gid parts)

pub all_parts : (s : Schema) (line : List ℕ) (plan : Requests) → plan_of s line ≡ Ok plan → length plan.parts ≡ length (parts_of s line)
unfolding plan_with
all_parts s line plan tells =
    let b = is_begun s line plan tells in
    ap (λ (p : Requests). length p.parts) b.is ∙ same_count s (name_in b.d) (parts_in b.d) ∙ ap (λ r. length (parts_told s r)) (sym b.object)

-- What a whole reading says in the words of the grammar.
use Rattle.std.proofs.Common.{◌≡◌, ℕ, List, ◌++◌, refl, sym, ◌∙◌, ap, Result, Ok, Err, IfOk}
use Rattle.mega_base.specs.Reading.{Place, Read, whole_of}
use Rattle.mega_base.specs.Codec.{Codec, IsFirstBad}
use Rattle.mega_base.specs.Faults.{Gives, OnMalformed}
use Rattle.mega_base.specs.declared.fault.FieldFault.{FieldFault}
use Rattle.mega_base.specs.declared.fault.FieldFault.TheVariants.{Malformed, NoMemory}
use Rattle.mega_base.specs.Whole.{whole_found, whole_only, whole_stops}

module _ {A : Type 0} (r : Place → Read A) (s : A → List ℕ) (O : List ℕ → Type 0) (F : A → Type 0) (c : Codec r s O F) (own : (x : A) → F x → O (s x)) (bytes : List ℕ) where
  pub found_by : (result : Result A FieldFault) → Gives result (whole_of r bytes) → IfOk result (λ x. F x × (bytes ≡ s x))
  found_by (Ok x) h = whole_found r s O F c bytes x h
  found_by (Err fault) h = tt

  pub only_by : (result : Result A FieldFault) → Gives result (whole_of r bytes) → (x : A) → F x → bytes ≡ s x → Gives result (Ok x)
  only_by (Ok y) h x f e = sym (whole_only r s O F c bytes x f e) ∙ h
  only_by (Err (Malformed at)) h x f e = sym (whole_only r s O F c bytes x f e) ∙ h
  only_by (Err NoMemory) h x f e = tt

  pub refused_by : (result : Result A FieldFault) → Gives result (whole_of r bytes) → OnMalformed result (IsFirstBad s O F bytes)
  refused_by (Ok x) h = tt
  refused_by (Err (Malformed at)) h = whole_stops r s O F c own bytes at h
  refused_by (Err NoMemory) h = tt

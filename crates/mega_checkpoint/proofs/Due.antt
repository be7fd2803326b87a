-- Whether a list is due is told by its file.
use Rattle.std.proofs.Common.{◌≡◌, ℕ, ◌-◌, ◌^◌, Bool, true, List, length, sym, ◌∙◌, ap}
use Rattle.std.specs.Prelude.{◌&&◌, nat_lt, nat_le, if◌then◌else◌}
use Rattle.mega_areas.specs.declared.area.Area.{Area}
use Rattle.mega_areas.specs.declared.area.Area.TheVariants.{Odd, Even}
use Rattle.mega_areas.specs.declared.area.Form.{Form}
use Rattle.mega_areas.specs.declared.area.Form.TheVariants.{Chain, InAreas}
use Rattle.mega_areas.specs.Pages.{counts, generation_of, is_open}
use Rattle.mega_checkpoint.specs.Format.{list_of}
use Rattle.mega_areas.specs.Forms.{behind_replacement, is_due}
use Rattle.mega_checkpoint.specs.Held.{IsHeld, due_of, generation_in}
use Rattle.mega_checkpoint.proofs.Fronts.{alone, no_areas_by_mark}

active : (area : Area) (file : List ℕ) → counts area file ≡ true → generation_in file ≡ generation_of area file
active Odd file is = ap (λ (b : Bool). if b then generation_of Odd file else generation_of Even file) is
active Even file is =
    ap (λ (b : Bool). if b then generation_of Odd file else generation_of Even file) (alone (is_open Odd file) (is_open Even file) (generation_of Odd file) (generation_of Even file) is)

pub due_is : (file : List ℕ) (may_leave : List ℕ → Type 0) (form : Form) (end count : ℕ) → IsHeld file may_leave form end → count ≡ length (list_of file) → is_due form count ≡ due_of file
due_is file may_leave Chain end count held all =
    sym (ap (λ (b : Bool). b && (nat_lt (generation_in file) (2 ^ 64 - 1) && nat_le 4096 (behind_replacement (generation_in file) (length (list_of file))))) (no_areas_by_mark file held.unmarked))
due_is file may_leave (InAreas areas) end count held all =
    let number : generation_in file ≡ areas.generation = active areas.active file held.counting ∙ held.number in
    sym (λ i. held.form i && (nat_lt (number i) (2 ^ 64 - 1) && nat_le 4096 (behind_replacement (number i) (sym all i))))

-- What a crash may leave after a change, a sync and a burnt fuse.
use Rattle.std.proofs.Common.{◌≡◌, inl, inr, ℕ, ◌==◌, ◌≤◌, List, [], ◌∷◌, ◌++◌, length, take, refl, sym, ◌∙◌, ap, subst}
use Rattle.std.specs.Prelude.{if◌then◌else◌, Bool, true, false, Result, Ok, Err, OnOk, OnErr}
use Rattle.mega_disk.specs.declared.changes.Change.{Change}
use Rattle.mega_disk.specs.declared.changes.Change.TheVariants.{Written, Shortened}
use Rattle.mega_disk.specs.Images.{overwritten, Torn, Cut, Follows, Within}
use Rattle.mega_disk.specs.Changes.{IsStep, IsImage, MayLeave, AddsChange, IsWrite, IsCut, undone, all_undone, fill_change, all_filled, burnt_content}
use Rattle.mega_disk.proofs.Changed.{all_undone-push, all_filled-push}
use Rattle.mega_disk.proofs.Steps.{torn_same, cut_same, torn_written, cut_taken, torn_filled, cut_filled, torn_fill}

-- a change that did not happen is a step
step_same : (change : Change) (content : List ℕ) → IsStep change content content
step_same (Written at count before size) content = torn_same at count content
step_same (Shortened size whole) content = cut_same size content

-- what was there before all changes is an image after them
pub start_is_image : (changes : List Change) (start : List ℕ) → IsImage start changes start
start_is_image [] start = refl
start_is_image (change ∷ changes) start = (start, step_same change start, start_is_image changes start)

-- an image after one change more is a step from an image
last_step : (start : List ℕ) (changes : List Change) (change : Change) (c : List ℕ) → IsImage start (changes ++ change ∷ []) c → (d : List ℕ) × IsImage start changes d × IsStep change d c
last_step start [] change c (mid, step, is) = (start, refl, subst (IsStep change start) (sym is) step)
last_step start (first ∷ changes) change c (mid, step, image) =
    let rest = last_step mid changes change c image in (rest.0, (mid, step, rest.1), rest.2)

-- filling ranges keeps a step
filled_step : (changes : List Change) (step : Change) (old new : List ℕ) → IsStep step old new → IsStep step (all_filled changes old) (all_filled changes new)
filled_step [] step old new is = is
filled_step (Written at count before size ∷ changes) (Written place many was long) old new is = filled_step changes (Written place many was long) _ _ (torn_filled at count place many old new is)
filled_step (Written at count before size ∷ changes) (Shortened kept whole) old new is = filled_step changes (Shortened kept whole) _ _ (cut_filled at count kept old new is)
filled_step (Shortened size whole ∷ changes) step old new is = filled_step changes step old new is

-- and so does filling the range of the step
filled_last : (step : Change) (old new : List ℕ) → IsStep step old new → IsStep step old (fill_change step new)
filled_last (Written at count before size) old new is = torn_fill at count old new is
filled_last (Shortened size whole) old new is = is

-- one more change leads from each image to each
pub step_follows : (changes : List Change) (change : Change) (old new : List ℕ) → IsStep change old new → undone change new ≡ old → Follows (IsStep change) (MayLeave changes old) (MayLeave (changes ++ change ∷ []) new)
step_follows changes change old new is back c (inl now) = (old, inl refl, subst (IsStep change old) (sym now) is)
step_follows changes change old new is back c (inr (inl full)) =
    (all_filled changes old, inr (inl refl), subst (IsStep change (all_filled changes old)) (sym (full ∙ all_filled-push changes change new)) (filled_last change _ _ (filled_step changes change old new is)))
step_follows changes change old new is back c (inr (inr image)) =
    let begun : all_undone (changes ++ change ∷ []) new ≡ all_undone changes old = all_undone-push changes change new ∙ ap (all_undone changes) back in
    let last = last_step (all_undone changes old) changes change c (subst (λ (s : List ℕ). IsImage s (changes ++ change ∷ []) c) begun image) in
    (last.0, inr (inr last.1), last.2)

-- after a sync only the content is left
pub synced : (content c : List ℕ) → MayLeave [] content c → c ≡ content
synced content c (inl now) = now
synced content c (inr (inl full)) = full
synced content c (inr (inr image)) = image

picked : (P : List ℕ → Type 0) (first second : Bool) (x y z : List ℕ) → P x → P y → P z → P (if first then x else (if second then y else z))
picked P true second x y z px py pz = px
picked P false true x y z px py pz = py
picked P false false x y z px py pz = pz

-- a burnt fuse leaves one of the images
burnt : (image : ℕ) (changes : List Change) (content : List ℕ) → MayLeave changes content (burnt_content image changes content)
burnt image changes content = picked (MayLeave changes content) (image == 0) (image == 1) _ _ _ (inr (inr (start_is_image changes (all_undone changes content)))) (inl refl) (inr (inl refl))

pub burnt_within : (image : ℕ) (changes none : List Change) (content left : List ℕ) → none ≡ [] → left ≡ burnt_content image changes content → Within (MayLeave changes content) (MayLeave none left)
burnt_within image changes none content left empty is c now =
    subst (MayLeave changes content) (sym (synced left c (subst (λ (l : List Change). MayLeave l left c) empty now) ∙ is)) (burnt image changes content)

-- what stays as it was leaves what it left
pub same_within : (changes others : List Change) (content same : List ℕ) → others ≡ changes → same ≡ content → Within (MayLeave changes content) (MayLeave others same)
same_within changes others content same is_list is c now = subst (λ (l : List ℕ). MayLeave changes l c) is (subst (λ (l : List Change). MayLeave l same c) is_list now)

-- each image is a step from itself
pub torn_from_within : (at count : ℕ) (old new : List ℕ → Type 0) → Within old new → Follows (Torn at count) old new
torn_from_within at count old new within c now = (c, within c now, torn_same at count c)

pub cut_from_within : (size : ℕ) (old new : List ℕ → Type 0) → Within old new → Follows (Cut size) old new
cut_from_within size old new within c now = (c, within c now, cut_same size c)

-- a write that is noted among the changes
pub written_follows : (at count : ℕ) (changes others : List Change) (old new : List ℕ) → AddsChange changes (IsWrite at count old new) others → Torn at count old new → Follows (Torn at count) (MayLeave changes old) (MayLeave others new)
written_follows at count changes others old new (Written place many before size, is, added) torn c now =
    let step : IsStep (Written place many before size) old new = subst (λ (n : ℕ). Torn n many old new) (sym is.0) (subst (λ (n : ℕ). Torn at n old new) (sym is.1) torn) in
    let last = step_follows changes (Written place many before size) old new step is.2 c (subst (λ (l : List Change). MayLeave l new c) added now) in
    (last.0, last.1, subst (λ (n : ℕ). Torn n count last.0 c) is.0 (subst (λ (n : ℕ). Torn place n last.0 c) is.1 last.2))
written_follows at count changes others old new (Shortened size whole, is, added) torn c now = absurd is

pub cut_follows : (size : ℕ) (changes others : List Change) (old new : List ℕ) → AddsChange changes (IsCut size old) others → Cut size old new → Follows (Cut size) (MayLeave changes old) (MayLeave others new)
cut_follows size changes others old new (Shortened kept whole, is, added) cut c now =
    let step : IsStep (Shortened kept whole) old new = subst (λ (n : ℕ). Cut n old new) (sym is.0) cut in
    let last = step_follows changes (Shortened kept whole) old new step is.1 c (subst (λ (l : List Change). MayLeave l new c) added now) in
    (last.0, last.1, subst (λ (n : ℕ). Cut n last.0 c) is.0 last.2)
cut_follows size changes others old new (Written place many before was, is, added) cut c now = absurd is

-- whether a write went well or was refused
pub write_crash : {T E : Type 0} (r : Result T E) (at : ℕ) (bytes : List ℕ) (changes others : List Change) (old new : List ℕ) → at ≤ length old → OnOk r (new ≡ overwritten at bytes old) → OnOk r (AddsChange changes (IsWrite at (length bytes) old new) others)
    → OnErr r (new ≡ old) → OnErr r (others ≡ changes) → Follows (Torn at (length bytes)) (MayLeave changes old) (MayLeave others new)
write_crash (Ok done) at bytes changes others old new le written added same left =
    written_follows at (length bytes) changes others old new added (subst (Torn at (length bytes) old) (sym written) (torn_written at bytes old le))
write_crash (Err refused) at bytes changes others old new le written added same left =
    torn_from_within at (length bytes) _ _ (same_within changes others old new left same)

pub cut_crash : {T E : Type 0} (r : Result T E) (size : ℕ) (changes others : List Change) (old new : List ℕ) → size ≤ length old → OnOk r (new ≡ take size old) → OnOk r (AddsChange changes (IsCut size old) others)
    → OnErr r (new ≡ old) → OnErr r (others ≡ changes) → Follows (Cut size) (MayLeave changes old) (MayLeave others new)
cut_crash (Ok done) size changes others old new le taken added same left =
    cut_follows size changes others old new added (subst (Cut size old) (sym taken) (cut_taken size old le))
cut_crash (Err refused) size changes others old new le taken added same left =
    cut_from_within size _ _ (same_within changes others old new left same)

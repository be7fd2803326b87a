-- A node of a world is asked whether it counts a cell, and what comes onto the tape is judged.
use Rattle.std.proofs.Common.{◌≡◌, ℕ, ◌&&◌, ◌||◌, not, cond, Bool, true, false, List, [], ◌∷◌, ◌++◌, Option, Some, None, is_some, refl, sym, ap, ◌∙◌, subst}
use Rattle.std.specs.List.{All}
use Rattle.std.proofs.lemmas.List.Elements.{All-head, All-push}
use Rattle.mega_base.specs.declared.names.Epoch.{Epoch}
use Rattle.mega_cluster.specs.declared.cluster.Cluster.{Cluster}
use Rattle.mega_coordinator.specs.History.{epoch_after, lease_of}
use Rattle.mega_coordinator.specs.Lease.{counted_by}
use Rattle.mega_transcript.specs.declared.item.Item.{Item}
use Rattle.mega_transcript.specs.declared.item.Item.TheVariants.{Unsafe}
use Rattle.mega_transcript.specs.Lines.{HasLine}
use Rattle.mega_transcript.specs.Tape.{newest, onto}
use Rattle.mega_transcript.proofs.Tapes.{newest-append}
use Rattle.mega_rules.specs.Clock.{is_up, start_of}
use Rattle.mega_rules.specs.Coordinators.{coordinator_calls}
use Rattle.mega_rules.specs.Met.{Met, Starts, Crashes, Ticks, Begins, Takes, Sends, Unsends, Grants, Lapses, Counts, Forgets, Serves, Loses, Validates, Invalidates, Decides, Applies, Answers}
use Rattle.mega_rules.specs.Operations.{Node as RuleNode}
use Rattle.mega_leases.specs.Counting.{counts_at, is_epoch}
use Rattle.mega_promises.specs.Items.{shown}
use Rattle.mega_promises.specs.Messages.{is_unsafe}
use Rattle.mega_promises.specs.Runs.{breaks, counts_cell, same_epoch, with_items}

same_epochs : (present : Option Epoch) (epoch : Epoch) → is_epoch present epoch ≡ same_epoch present epoch
same_epochs None epoch = refl
same_epochs (Some present) epoch = refl

-- a node that is up counts what its coordinator does; one that is down counts nothing
pub counts_up : (c : Cluster) (met : List Met) (cell : ℕ) (epoch : Epoch) → is_up met ≡ true → counts_at c met cell epoch ≡ counts_cell c met cell epoch
counts_up c met cell epoch up =
    ap (λ t. t && is_some (counted_by (lease_of (start_of met) c.cells (coordinator_calls c met)) cell)) (same_epochs (epoch_after (start_of met) c.cells (coordinator_calls c met)) epoch)
    ∙ sym (ap (λ t. t && same_epoch (epoch_after (start_of met) c.cells (coordinator_calls c met)) epoch && is_some (counted_by (lease_of (start_of met) c.cells (coordinator_calls c met)) cell)) up)

pub counts_down : (c : Cluster) (met : List Met) (cell : ℕ) (epoch : Epoch) → is_up met ≡ false → false ≡ counts_cell c met cell epoch
counts_down c met cell epoch down = sym (ap (λ t. t && same_epoch (epoch_after (start_of met) c.cells (coordinator_calls c met)) epoch && is_some (counted_by (lease_of (start_of met) c.cells (coordinator_calls c met)) cell)) down)

-- no note is `unsafe`
shown_safe : (me : ℕ) (one : Met) (tape : List Item) → is_unsafe (onto (shown me one) tape) ≡ is_unsafe tape
shown_safe me (Starts start) tape = refl
shown_safe me Crashes tape = refl
shown_safe me (Ticks now) tape = refl
shown_safe me (Begins op text) tape = refl
shown_safe me (Takes message) tape = refl
shown_safe me (Sends message) tape = refl
shown_safe me (Unsends message) tape = refl
shown_safe me (Grants other epoch) tape = refl
shown_safe me (Lapses other epoch) tape = refl
shown_safe me (Counts cell epoch) tape = refl
shown_safe me (Forgets cell epoch) tape = refl
shown_safe me (Serves epoch) tape = refl
shown_safe me (Loses epoch) tape = refl
shown_safe me (Validates group position) tape = refl
shown_safe me (Invalidates group position) tape = refl
shown_safe me (Decides group position entry) tape = refl
shown_safe me (Applies group position) tape = refl
shown_safe me (Answers op answer) tape = refl

-- ---- one item, and `unsafe` behind it where it is the first that breaks

swapped : (a b : Bool) → (not a && b) ≡ (b && not a)
swapped true true = refl
swapped true false = refl
swapped false true = refl
swapped false false = refl

newest_two : (mid : List Item) (first : Bool) → newest (cond first (mid ++ Unsafe ∷ []) mid) ≡ cond first (Unsafe ∷ newest mid) (newest mid)
newest_two mid true = newest-append mid Unsafe
newest_two mid false = refl

newest_put : (items mid after : List Item) (item : Item) (first : Bool) → mid ≡ items ++ item ∷ [] → after ≡ cond first (mid ++ Unsafe ∷ []) mid
    → newest after ≡ cond first (Unsafe ∷ item ∷ newest items) (item ∷ newest items)
newest_put items mid after item first one two =
    ap newest two ∙ newest_two mid first ∙ ap (λ t. cond first (Unsafe ∷ t) t) (ap newest one ∙ newest-append items item)

pub put_tape : (c : Cluster) (node : ℕ → RuleNode) (items mid after : List Item) (me : ℕ) (one : Met) (item : Item) (first told : Bool) → told ≡ is_unsafe (newest items) → first ≡ (not told && breaks c node item)
    → shown me one ≡ item ∷ [] → mid ≡ items ++ item ∷ [] → after ≡ cond first (mid ++ Unsafe ∷ []) mid → newest after ≡ with_items c node (newest items) (shown me one)
put_tape c node items mid after me one item first told known is shows one_more two_more =
    newest_put items mid after item first one_more two_more
    ∙ ap (λ t. cond t (Unsafe ∷ item ∷ newest items) (item ∷ newest items)) (is ∙ ap (λ t. not t && breaks c node item) known ∙ swapped (is_unsafe (newest items)) (breaks c node item))
    ∙ sym (ap (with_items c node (newest items)) shows)

pub put_told : (items mid after : List Item) (me : ℕ) (one : Met) (item : Item) (first told now : Bool) → told ≡ is_unsafe (newest items) → shown me one ≡ item ∷ []
    → mid ≡ items ++ item ∷ [] → after ≡ cond first (mid ++ Unsafe ∷ []) mid → now ≡ (first || told) → now ≡ is_unsafe (newest after)
put_told items mid after me one item first told now known shows one_more two_more is =
    is ∙ by first ∙ sym (ap is_unsafe (newest_put items mid after item first one_more two_more))
  where
    safe : is_unsafe (item ∷ newest items) ≡ is_unsafe (newest items)
    safe = sym (ap (λ more. is_unsafe (onto more (newest items))) shows) ∙ shown_safe me one (newest items)

    by : (t : Bool) → (t || told) ≡ is_unsafe (cond t (Unsafe ∷ item ∷ newest items) (item ∷ newest items))
    by true = refl
    by false = known ∙ sym safe

pub put_lines : (items mid after : List Item) (me : ℕ) (one : Met) (item : Item) (first : Bool) → shown me one ≡ item ∷ [] → mid ≡ items ++ item ∷ [] → after ≡ cond first (mid ++ Unsafe ∷ []) mid
    → All HasLine items → All HasLine (shown me one) → All HasLine after
put_lines items mid after me one item first shows one_more two_more lined has =
    subst (All HasLine) (sym two_more) (by first (subst (All HasLine) (sym one_more) (All-push HasLine items item lined (All-head HasLine item [] (subst (All HasLine) shows has)))))
  where
    by : (t : Bool) → All HasLine mid → All HasLine (cond t (mid ++ Unsafe ∷ []) mid)
    by true had = All-push HasLine mid Unsafe had tt
    by false had = had

-- The fuse of a run, of a node's records, and the one that is kept beside the node: what an append makes of each.
use Rattle.std.proofs.Common.{◌≡◌, ℕ, ◌+◌, ◌-◌, ◌*◌, ◌/◌, ◌≤◌, ◌<◌, ◌==◌, ◌&&◌, ◌||◌, not, nat_le, nat_lt, cond, Bool, true, false, List, Option, Some, None, refl, sym, ap, ◌∙◌, subst, arith}
use Rattle.std.proofs.lemmas.Bool.Decides.{nat_tests}
use Rattle.mega_cluster.specs.declared.cluster.Cluster.{Cluster}
use Rattle.mega_durable.specs.of_core.Restarting.{HaveFollowed}
use Rattle.mega_disk.specs.declared.mem_records.MemRecords.{MemRecords}
use Rattle.mega_disk.specs.Fuse.{Left as CallsAre, Unset, after_append as less, is_short, keeps_record}
use Rattle.mega_disk.specs.MemDisk.{fuse_of, image_of}
use Rattle.mega_promises.specs.Runs.{AsItWas, Calls, CutByLog, Fuse, Recorded, Standing, Whole, after_append, by_fuse, fate_by, fate_of, is_burning, is_left_by_log, left_by, may_become, new_fuse}
use Rattle.mega_replica.specs.declared.rows.StoredRows.{StoredRows}
use Rattle.mega_replica.specs.Following.{progress_at}
use Rattle.mega_rows.specs.declared.rows.VersionedRows.{VersionedRows}
use Rattle.mega_rules.specs.Met.{Met}
use Rattle.mega_rules.specs.Steps.{onto}
use Rattle.mega_voter.specs.Holding.{HoldsMet, Recalls}
use Rattle.mega_wal.specs.declared.kept.Kept.{Kept}
use Rattle.mega_places.specs.declared.fallen.Fallen.{Fallen}
use Rattle.mega_places.specs.declared.log_fuse.LogFuse.{LogFuse}
use Rattle.mega_places.specs.declared.remains.Remains.{Remains}
use Rattle.mega_places.specs.declared.remains.Remains.TheVariants.{InMemory, OnDisk}
use Rattle.mega_places.specs.Fusing.{FusesRemains}
use Rattle.mega_places.specs.Kept.{AreReady, IsFallen, owed_of, records_below}
use Rattle.mega_places.specs.Members.{version_of}
use Rattle.mega_places.specs.LogFuses.{HasImage, HasRoom, IsFused, IsUnburnt, left_of, run_fuse}

-- ---- a fuse burns where its records' fuse is short
four : (calls appended : ℕ) → 4 * appended ≤ calls → nat_le (calls / 4) appended ≡ nat_lt (calls - 4 * appended) 4
four calls appended few = grind (arith, nat_tests)

pub short_is : (fuse : Option Fuse) → IsUnburnt fuse → is_short (left_of fuse) ≡ is_burning fuse
short_is None few = refl
short_is (Some fuse) few = sym (four fuse.calls fuse.appended few)

-- ---- and leaves what the run says
three : (calls appended image : ℕ) → 4 * appended ≤ calls → ((calls - 4 * appended == 3) && (image == 1)) ≡ ((calls == 4 * appended + 3) && (image == 1))
three calls appended image few = let same : (calls - 4 * appended == 3) ≡ (calls == 4 * appended + 3) = grind (arith, nat_tests) in ap (λ t. t && (image == 1)) same

pub leaves : (records : MemRecords) (fuse : Option Fuse) → fuse_of records.fuse ≡ left_of fuse → HasImage records fuse → IsUnburnt fuse
    → cond (keeps_record (fuse_of records.fuse) (image_of records.fuse)) Recorded AsItWas ≡ left_by fuse
leaves records None left image few = ap (λ f. cond (keeps_record f (image_of records.fuse)) Recorded AsItWas) left
leaves records (Some fuse) left image few =
    ap (λ f. cond (keeps_record f (image_of records.fuse)) Recorded AsItWas) left
    ∙ ap (λ n. cond ((fuse.calls - 4 * fuse.appended == 3) && (n == 1)) Recorded AsItWas) image
    ∙ ap (λ t. cond t Recorded AsItWas) (three fuse.calls fuse.appended fuse.image few)

-- ---- an append that went well
room : (calls appended : ℕ) → 4 * appended ≤ calls → nat_le (calls / 4) appended ≡ false → 4 * appended + 4 ≤ calls
room calls appended few long = let more : appended < calls / 4 = grind (arith, nat_tests) in omega (arith, more)

pub has_room : (fuse : Option Fuse) → IsUnburnt fuse → is_burning fuse ≡ false → HasRoom fuse
has_room None few long = tt
has_room (Some fuse) few long = room fuse.calls fuse.appended few long

pub still_unburnt : (fuse : Option Fuse) → HasRoom fuse → IsUnburnt (after_append fuse)
still_unburnt None has = tt
still_unburnt (Some fuse) has = omega (arith, has)

pub four_less : (fuse : Option Fuse) → HasRoom fuse → less (left_of fuse) ≡ left_of (after_append fuse)
four_less None has = refl
four_less (Some fuse) has = let e : fuse.calls - 4 * fuse.appended - 4 ≡ fuse.calls - 4 * (fuse.appended + 1) = omega arith in ap CallsAre e

pub image_stays : (old new : MemRecords) (fuse : Option Fuse) → image_of new.fuse ≡ image_of old.fuse → HasImage old fuse → HasImage new fuse
image_stays old new None same has = tt
image_stays old new (Some fuse) same has = same ∙ has

image_after : (records : MemRecords) (fuse : Option Fuse) → HasImage records fuse → HasImage records (after_append fuse)
image_after records None has = tt
image_after records (Some fuse) has = has

-- where no append was made
pub fused_same : (kept : Option LogFuse) (old new : MemRecords) (fuse : Option Fuse) → IsFused kept old fuse → fuse_of new.fuse ≡ fuse_of old.fuse → image_of new.fuse ≡ image_of old.fuse → IsFused kept new fuse
fused_same kept old new fuse is left image = record { kept_is = is.kept_is; left = left ∙ is.left; image = image_stays old new fuse image is.image; unburnt = is.unburnt }

-- where one was
pub fused_more : (kept next : Option LogFuse) (old new : MemRecords) (fuse : Option Fuse) → IsFused kept old fuse → is_burning fuse ≡ false → fuse_of new.fuse ≡ less (fuse_of old.fuse) → image_of new.fuse ≡ image_of old.fuse
    → (HasRoom (run_fuse kept) → run_fuse next ≡ after_append (run_fuse kept)) → IsFused next new (after_append fuse)
fused_more kept next old new fuse is long left image counts =
    let has = has_room fuse is.unburnt long in record {
      kept_is = counts (subst HasRoom (sym is.kept_is) has) ∙ ap after_append is.kept_is;
      left = left ∙ ap less is.left ∙ four_less fuse has;
      image = image_after new fuse (image_stays old new fuse image is.image);
      unburnt = still_unburnt fuse has;
    }

-- a fuse that burnt is gone
pub fused_gone : (records : MemRecords) → fuse_of records.fuse ≡ Unset → IsFused None records None
fused_gone records gone = record { kept_is = refl; left = gone; image = tt; unburnt = tt }

-- ---- what fuses that fail at the append which they name make of a step
log_may : (calls : Calls) (fuse : Option Fuse) → is_burning fuse ≡ true → calls.appends ≡ true → is_left_by_log calls fuse (left_by fuse) ≡ true
log_may calls None burning appends = let no : ⊥ = cc in absurd no
log_may calls (Some fuse) burning appends = by (fuse.calls == 4 * fuse.appended + 3) (fuse.image == 1) refl
  where
    or_true : (t : Bool) → (t || calls.appends) ≡ true
    or_true true = refl
    or_true false = appends

    by : (n i : Bool) → (fuse.image == 1) ≡ i → is_left_by_log calls (Some fuse) (cond (n && i) Recorded AsItWas) ≡ true
    by true true image = ap (λ t. t && (fuse.image == 1)) appends ∙ image
    by true false image = or_true calls.compacts
    by false i image = or_true calls.compacts

pub fated : (now : Standing) (me : ℕ) (calls : Calls) → fate_by now me (by_fuse now me) calls ≡ by_fuse now me calls
fated now me calls = by (calls.appends) (is_burning (now.log_fuse me)) refl refl
  where
    whole : (calls.appends && is_burning (now.log_fuse me)) ≡ false → fate_of now me calls (by_fuse now me calls) ≡ by_fuse now me calls
    whole none =
        let is : by_fuse now me calls ≡ Whole = ap (λ t. cond t (CutByLog (left_by (now.log_fuse me))) Whole) none in
        ap (fate_of now me calls) is ∙ ap (λ t. cond (not t) Whole (cond t (CutByLog AsItWas) Whole)) none ∙ sym is

    by : (a b : Bool) → calls.appends ≡ a → is_burning (now.log_fuse me) ≡ b → fate_of now me calls (by_fuse now me calls) ≡ by_fuse now me calls
    by true true appends burning =
        let both : (calls.appends && is_burning (now.log_fuse me)) ≡ true = ap (λ t. t && is_burning (now.log_fuse me)) appends ∙ burning in
        let is : by_fuse now me calls ≡ CutByLog (left_by (now.log_fuse me)) = ap (λ t. cond t (CutByLog (left_by (now.log_fuse me))) Whole) both in
        let may : may_become calls (now.log_fuse me) (now.data_fuse me) (CutByLog (left_by (now.log_fuse me))) ≡ true = log_may calls (now.log_fuse me) burning appends in
        ap (fate_of now me calls) is
        ∙ ap (λ t. cond t (CutByLog (left_by (now.log_fuse me))) (cond (calls.appends && is_burning (now.log_fuse me)) (CutByLog AsItWas) Whole)) may ∙ sym is
    by true false appends burning = whole (ap (λ t. t && is_burning (now.log_fuse me)) appends ∙ burning)
    by false b appends burning = whole (ap (λ t. t && is_burning (now.log_fuse me)) appends)

-- ---- a fuse is set on what is left of a node that is down
record StaysReady (c : Cluster) (me calls image : ℕ) (old new : Remains) : Type 0 where
  list : (records_below new).list.items ≡ (records_below old).list.items
  ready : (starts : ℕ) (met : List Met) → AreReady c me old starts met → AreReady c me new starts met
  left : fuse_of (records_below new).fuse ≡ CallsAre calls
  image_is : image_of (records_below new).fuse ≡ image

stays_ready : (c : Cluster) (me calls image : ℕ) (old new : Remains) → FusesRemains calls image old new → StaysReady c me calls image old new
stays_ready c me calls image (InMemory old) (InMemory new) fuses = record {
  list = fuses.records.list;
  ready = λ starts met ready. record {
    empty = fuses.staged ∙ ready.empty;
    recalls = subst (λ (kept : Kept). Recalls kept starts met) (sym fuses.kept) ready.recalls;
    ready = fuses.records.spent ∙ ready.ready;
    rows = subst (λ (rows : StoredRows VersionedRows). HaveFollowed c me (version_of rows.rows) (progress_at rows.progress) met) (sym fuses.rows) ready.rows;
  };
  left = fuses.records.left;
  image_is = fuses.records.image_is;
}
stays_ready c me calls image (InMemory old) (OnDisk new) fuses = absurd fuses
stays_ready c me calls image (OnDisk old) (InMemory new) fuses = absurd fuses
stays_ready c me calls image (OnDisk old) (OnDisk new) fuses = record { list = fuses.list; ready = λ starts met ready. tt; left = fuses.left; image_is = fuses.image_is }

pub fuses_fallen : (c : Cluster) (me calls image : ℕ) (old new : Fallen) → FusesRemains calls image old.remains new.remains → new.owed ≡ old.owed → run_fuse new.fuse ≡ new_fuse calls image
    → (starts : ℕ) (owed met : List Met) (fuse : Option Fuse) → IsFallen c me old starts owed met fuse → IsFallen c me new starts owed met (new_fuse calls image)
fuses_fallen c me calls image old new fuses owes set starts owed met fuse is =
    let stays = stays_ready c me calls image old.remains new.remains fuses in
    let whole : calls ≡ calls - 4 * 0 = omega arith in record {
      follows = is.follows;
      holds = subst (λ (items : List (List ℕ)). HoldsMet items starts (onto owed met)) (sym stays.list) is.holds;
      ready = stays.ready starts (onto owed met) is.ready;
      owes = ap owed_of owes ∙ is.owes;
      fused = record { kept_is = set; left = stays.left ∙ ap CallsAre whole; image = stays.image_is; unburnt = omega arith };
    }

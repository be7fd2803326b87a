-- How calls on rows fare one after another.
use Rattle.std.proofs.Common.{◌≡◌, ◌∙◌, ◌≤◌, subst, sym, inl, ⊎_elim, inr, refl, ℕ, arith}
use Rattle.std.specs.Prelude.{Option, Some, None, true}
use Rattle.mega_disk.specs.Fuse.{Fuse, MayBurn}
use Rattle.mega_disk.specs.declared.versions.StoreError.{StoreError}
use Rattle.mega_disk.specs.declared.versions.StoreError.TheVariants.{DiskFault, Full, BadRecord}
use Rattle.mega_disk.specs.declared.versions.Versions.{Ghosts}
use Rattle.mega_disk.proofs.Burning.{burn_here, burn_then, burns_then, rose_later}
use Rattle.mega_disk.specs.Images.{LeavesOnly}
use Rattle.mega_disk.specs.VersionMaps.{Stored}
use Rattle.mega_replica.specs.Used.{NothingSpilled, StoreUsed}
use Rattle.mega_replica.specs.Puts.{OnlyPuts}

-- nothing was spilled
unspilled_here : {V : Type 0} (store : Ghosts V) (x : V) → NothingSpilled store x x
unspilled_here store x = record {
  cleaned = refl;
  marks = refl;
  within = λ found left. left;
  later = omega arith;
  before = λ t found le left. inl left;
}

unspilled_then : {V : Type 0} (store : Ghosts V) (old mid new : V) → NothingSpilled store old mid → NothingSpilled store mid new → NothingSpilled store old new
unspilled_then store old mid new first second = record {
  cleaned = second.cleaned ∙ first.cleaned;
  marks = second.marks ∙ first.marks;
  within = λ found left. first.within found (second.within found left);
  later = omega (arith, first.later, second.later);
  before = λ t found le left.
      ⊎_elim (first.before t found le) (λ now. inr (first.within found now)) (second.before t found (omega (arith, le, first.later)) left);
}

unspilled_by_puts : {V : Type 0} (store : Ghosts V) (old new : V) → OnlyPuts store old new → NothingSpilled store old new
unspilled_by_puts store old new only = record {
  cleaned = only.cleaned;
  marks = only.marks;
  within = only.same.now;
  later = omega (arith, only.same.same_moment);
  before = λ t found le left. inl (only.same.since t found left);
}

-- a crash at any moment of such calls leaves what it might have left before them
pub unspilled_leaves : {V : Type 0} (store : Ghosts V) (old new : V) → ((found : Stored) → store.opened_since old (store.moment old) found → store.may_open old found)
    → NothingSpilled store old new → LeavesOnly store.moment store.opened_since old new (store.may_open old)
unspilled_leaves store old new only_now rests = record {
  later = rests.later;
  each = λ found left. ⊎_elim (only_now found) (λ now. now) (rests.before (store.moment old) found (omega arith) left);
  before = rests.before;
}

-- nothing was called
pub used_here : {V : Type 0} (store : Ghosts V) (x : V) → StoreUsed store None x x
used_here store x = record {
  unspilled = unspilled_here store x;
  later = omega arith;
  bad_stays = λ n h. h;
  may_burn = burn_here (store.fuse_left x);
  by_fuse = λ h. h;
  cause = λ e. absurd (none e);
  bad = λ n e. absurd (none e);
  never_full = λ n e. none e;
  burns = λ h e. absurd (none e);
}
  where
    none : {e : StoreError} → None ≡ Some e → ⊥
    none q = cc

-- calls that went well, and then others
pub used_then : {V : Type 0} (store : Ghosts V) (failed : Option StoreError) (old mid new : V) → StoreUsed store None old mid → StoreUsed store failed mid new → StoreUsed store failed old new
used_then store failed old mid new first second = record {
  unspilled = unspilled_then store old mid new first.unspilled second.unspilled;
  later = omega (arith, first.later, second.later);
  bad_stays = λ n h. first.bad_stays n (second.bad_stays n h);
  may_burn = burn_then (store.fuse_left old) (store.fuse_left mid) (store.fuse_left new) first.may_burn second.may_burn;
  by_fuse = λ h. second.by_fuse (first.by_fuse h);
  cause = λ e. rose_later (store.faults old) (store.faults mid) (store.faults new) first.later (second.cause e);
  bad = λ n e. first.bad_stays n (second.bad n e);
  never_full = second.never_full;
  burns = λ h e. burns_then (store.fuse_left old) (store.fuse_left mid) (store.fuse_left new) first.may_burn (second.burns (first.by_fuse h) e);
}

-- puts call no device
pub used_by_puts : {V : Type 0} (store : Ghosts V) (old new : V) → OnlyPuts store old new → StoreUsed store None old new
used_by_puts store old new only = record {
  unspilled = unspilled_by_puts store old new only;
  later = omega (arith, only.faults);
  bad_stays = only.bad_stays;
  may_burn = subst (λ (f : Fuse). MayBurn (store.fuse_left old) f) (sym only.fuse) (burn_here (store.fuse_left old));
  by_fuse = λ h. only.by_fuse ∙ h;
  cause = λ e. absurd (none e);
  bad = λ n e. absurd (none e);
  never_full = λ n e. none e;
  burns = λ h e. absurd (none e);
}
  where
    none : {e : StoreError} → None ≡ Some e → ⊥
    none q = cc

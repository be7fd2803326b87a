-- One look after another.
use Rattle.std.proofs.Common.{◌∙◌, arith}
use Rattle.std.specs.Prelude.{Option, None}
use Rattle.mega_disk.specs.declared.versions.StoreError.{StoreError}
use Rattle.mega_disk.specs.declared.versions.Versions.{Ghosts}
use Rattle.mega_disk.proofs.Burning.{burn_then, burns_then, rose_later}
use Rattle.mega_disk.proofs.Leaves.{then_leaves}
use Rattle.mega_outcome.specs.Looks.{Looked, Looks}

pub looked_then : {V : Type 0} (store : Ghosts V) (old mid new : V) → Looked store old mid → Looked store mid new → Looked store old new
looked_then store old mid new first second = record {
  versions = second.versions ∙ first.versions;
  cleaned = second.cleaned ∙ first.cleaned;
  marks = second.marks ∙ first.marks;
  full = second.full ∙ first.full;
  any_moment = then_leaves store.moment store.opened_since old mid new (store.may_open old) (store.may_open mid) (store.may_open old) first.any_moment second.any_moment (λ c now. now) first.within;
  within = λ c now. first.within c (second.within c now);
  later = omega (arith, first.later, second.later);
  may_burn = burn_then (store.fuse_left old) (store.fuse_left mid) (store.fuse_left new) first.may_burn second.may_burn;
  by_fuse = λ h. second.by_fuse (first.by_fuse h);
  bad_stays = λ n h. first.bad_stays n (second.bad_stays n h);
}

pub looks_then : {V : Type 0} (store : Ghosts V) (failed : Option StoreError) (old mid new : V) → Looks store None old mid → Looks store failed mid new → Looks store failed old new
looks_then store failed old mid new first second = record {
  looked = looked_then store old mid new first.looked second.looked;
  cause = λ e. rose_later (store.faults old) (store.faults mid) (store.faults new) first.looked.later (second.cause e);
  bad = λ n e. first.looked.bad_stays n (second.bad n e);
  never_full = second.never_full;
  burns = λ h e. burns_then (store.fuse_left old) (store.fuse_left mid) (store.fuse_left new) first.looked.may_burn (second.burns (first.looked.by_fuse h) e);
}

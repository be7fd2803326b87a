-- A group that begins with no progress.
use Rattle.std.proofs.Common.{◌≡◌, Bool, true, false, cond, Option, Some, None, refl, sym, ap, ◌∙◌}
use Rattle.std.specs.Prelude.{is_some, unwrap_or}
use Rattle.std.specs.BTreeMap.{BTreeMap, get}
use Rattle.mega_base.specs.declared.names.GroupId.{GroupId}
use Rattle.mega_wal.specs.History.{group_cmp}
use Rattle.mega_wal.specs.Kept.{is_group}
use Rattle.mega_wal.proofs.Orders.{is_group_equal}
use Rattle.mega_replica.specs.declared.progress.Progress.{Progress}
use Rattle.mega_replica.specs.Following.{no_progress, progress_at}

no_one : (found : Option Progress) → is_some found ≡ false → found ≡ None
no_one None none = refl
no_one (Some progress) none = absurd cc

pub opened : (old new : BTreeMap GroupId Progress) (group own : GroupId) (there : Bool) → own ≡ group → there ≡ is_some (get group_cmp old group) → there ≡ false
    → ((other : GroupId) → get group_cmp new other ≡ cond (is_group own other) (Some no_progress) (get group_cmp old other)) → (other : GroupId) → progress_at new other ≡ progress_at old other
opened old new group own there same is none updates other = ap (λ (found : Option Progress). unwrap_or found no_progress) (updates other) ∙ go (is_group own other) refl
  where
    go : (test : Bool) → is_group own other ≡ test → unwrap_or (cond test (Some no_progress) (get group_cmp old other)) no_progress ≡ progress_at old other
    go true at = sym (ap (λ (g : GroupId). progress_at old g) (sym (is_group_equal own other at) ∙ same) ∙ ap (λ (found : Option Progress). unwrap_or found no_progress) (no_one (get group_cmp old group) (sym is ∙ none)))
    go false apart = refl

use Rattle.std.proofs.Common.{◌≡◌, ◌-◌, ◌*◌, ◌≤◌, map, get_or}
use Rattle.std.specs.List.{range_with_len}
use Rattle.mega_areas.specs.Pages.{offset}
use Rattle.mega_checkpoint.proofs.reading.space.Given as goal

abbrev pub invariant-loop-page : goal.invariant-loop-page
invariant-loop-page l = record {
  within : l.page ≤ l.pages;
  so_far : l.joined.items ≡ map (λ place. get_or l.bytes (offset l.area place) 0) (range_with_len 0 (4096 * l.page));
}

abbrev pub decreases-loop-page : goal.decreases-loop-page
decreases-loop-page l = l.pages - l.page

use Rattle.std.proofs.Common.{◌≡◌, ◌-◌, ◌*◌, length, take, drop, ◌∙◌, ap, arith, length-take, length-drop}
use Rattle.mega_areas.specs.Pages.{pages_in}
use Rattle.mega_checkpoint.proofs.Fronts.{length-space, pages_parted}
use Rattle.mega_checkpoint.proofs.reading.read_area.Goals as goal

pub slice_bounds-chain-count : goal.slice_bounds-chain-count
slice_bounds-chain-count c =
    let size : length c.as_slice.result.now ≡ 4096 * pages_in (length c.args.bytes.now) = ap length (c.as_slice.ensures.value ∙ c.in_ok-joined.ensures) ∙ length-space c.args.area c.args.bytes.now in
    let long = c.requires in
    let parts = (pages_parted (length c.args.bytes.now) (omega (arith, long))).1 in
    omega (arith, size, long, parts)

pub slice_bounds-chain-start : goal.slice_bounds-chain-start
slice_bounds-chain-start c =
    let size : length c.as_slice.result.now ≡ 4096 * pages_in (length c.args.bytes.now) = ap length (c.as_slice.ensures.value ∙ c.in_ok-joined.ensures) ∙ length-space c.args.area c.args.bytes.now in
    let long = c.requires in
    let parts = (pages_parted (length c.args.bytes.now) (omega (arith, long))).1 in
    omega (arith, size, long, parts)

pub is_shut-closed-requires : goal.is_shut-closed-requires
is_shut-closed-requires c =
    let joined = c.as_slice.result.now in
    let size : length joined ≡ 4096 * pages_in (length c.args.bytes.now) = ap length (c.as_slice.ensures.value ∙ c.in_ok-joined.ensures) ∙ length-space c.args.area c.args.bytes.now in
    let long = c.requires in
    let parts = (pages_parted (length c.args.bytes.now) (omega (arith, long))).1 in
    c.in_ok-found.ensures.behind (omega (arith, size, long, parts, length-take (length joined - 9) (drop 9 joined), length-drop 9 joined))

pub returns-clause-inside : goal.returns-clause-inside
returns-clause-inside c =
    let joined = c.as_slice.result.now in
    let size : length joined ≡ 4096 * pages_in (length c.args.bytes.now) = ap length (c.as_slice.ensures.value ∙ c.in_ok-joined.ensures) ∙ length-space c.args.area c.args.bytes.now in
    let long = c.requires in
    let parts = (pages_parted (length c.args.bytes.now) (omega (arith, long))).1 in
    let few : length (take (length joined - 9) (drop 9 joined)) ≡ length joined - 9 = omega (arith, length-take (length joined - 9) (drop 9 joined), length-drop 9 joined) in
    let behind = c.in_ok-found.ensures.behind (omega (arith, size, long, parts, few)) in
    omega (arith, behind, few, size, long, parts)

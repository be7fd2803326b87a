-- The versions of a range of keys, among versions in order and among blocks.
use Rattle.std.proofs.Common.{◌≡◌, ◌≢◌, ℕ, zero, suc, ◌+◌, ◌<◌, List, [], ◌∷◌, ◌++◌, length, take, drop, Bool, true, false, cond, refl, sym, ◌∙◌, ap, subst, arith, append_assoc, length-append, take-append-drop}
use Rattle.std.specs.Prelude.{Option, Some, None, option_map, nat_lt, ◌==◌, slice_range, All, IfNone, IfSome}
use Rattle.std.proofs.lemmas.Bool.Decides.{nat_tests}
use Rattle.std.proofs.lemmas.List.{nil_from_length, take_at, drop_at}
use Rattle.std.proofs.lemmas.List.Elements.{All-take, All-drop}
use Rattle.std.proofs.lemmas.Grind.{flat_map-append}
use Rattle.std.specs.List.{slice_get}
use Rattle.std.specs.Cmp.Lexicographic.{slice_cmp}
use Rattle.std.specs.Ordering.{nat_cmp, is_lt, ordering_then}
use Rattle.std.specs.declared.cmp.Ordering.{Ordering}
use Rattle.std.specs.declared.cmp.Ordering.TheVariants.{Less, Equal, Greater}
use Rattle.mega_base.specs.declared.values.Row.{Row}
use Rattle.mega_disk.specs.VersionMaps.{Versions, IsWithin, IsScan, or_else, row_at, row_of, version_at}
use Rattle.mega_runs.specs.declared.body.Version.{Version}
use Rattle.mega_runs.specs.declared.index.Block.{Block}
use Rattle.mega_runs.specs.declared.index.Indexed.{Indexed}
use Rattle.mega_runs.specs.declared.span.Span.{Span}
use Rattle.mega_runs.specs.Bodies.{Spot, is_before, spot_of, version_text, IsVersion, ascends, ascends_from}
use Rattle.mega_runs.specs.Finding.{is_behind}
use Rattle.mega_runs.specs.Index.{versions_text, spot_of_block, IsBlock, AreBlocks, HasBytesAt, IsIndexed}
use Rattle.mega_runs.specs.Merging.{merged}
use Rattle.mega_runs.specs.Reads.{is_version, versions_in, layered}
use Rattle.mega_runs.specs.Ranges.{AgreeWithin, IsBetween, IsSpanOf, HasSpan, SpansRange, size_of_blocks, count_of_blocks}
use Rattle.mega_runs.proofs.Order.{both, before_trans, before_not_behind, position_before, ascends_behind, ascends_tail, before_later}
use Rattle.mega_runs.proofs.Mixing.{spot_there, merged_is}
use Rattle.mega_runs.proofs.Blocks.{ascends_front, part_range}

true_false : {X : Type 0} (b : Bool) → b ≡ true → b ≡ false → X
true_false true t f = absurd (cc)
true_false false t f = absurd (cc)

-- ---- the ends of a range
before_end : (to key : List ℕ) (p : ℕ) → slice_cmp nat_cmp key to ≡ Less → is_before (key, p) (to, 0) ≡ true
before_end to key p lt = ap (λ (o : Ordering). is_lt (ordering_then o (nat_cmp p 0))) lt

nat_not_below : (p : ℕ) → is_lt (nat_cmp p 0) ≡ false
nat_not_below p = go (nat_lt p 0) (p == 0) refl
  where
    go : (lt eq : Bool) → nat_lt p 0 ≡ lt → is_lt (cond lt Less (cond eq Equal Greater)) ≡ false
    go true eq t = absurd (grind (arith, nat_tests))
    go false true t = refl
    go false false t = refl

not_before_start : (from key : List ℕ) (p : ℕ) → slice_cmp nat_cmp key from ≢ Less → is_before (key, p) (from, 0) ≡ false
not_before_start from key p not_less = go (slice_cmp nat_cmp key from) refl
  where
    go : (o : Ordering) → slice_cmp nat_cmp key from ≡ o → is_before (key, p) (from, 0) ≡ false
    go Less e = absurd (not_less e)
    go Equal e = ap (λ (o : Ordering). is_lt (ordering_then o (nat_cmp p 0))) e ∙ nat_not_below p
    go Greater e = ap (λ (o : Ordering). is_lt (ordering_then o (nat_cmp p 0))) e

-- ---- versions before and behind it
not_itself : {X : Type 0} (key : List ℕ) (p : ℕ) (v : Version) → is_before (key, p) (spot_of v) ≡ true → is_version key p v ≡ true → X
not_itself key p v e is =
    let before : is_before (key, p) (key, p) ≡ true = ap (is_before (key, p)) (sym (spot_there key p (spot_of v) is)) ∙ e in
    let lt : p < p = position_before key p p before in
    absurd (omega (arith, lt))

other_first : (key : List ℕ) (p : ℕ) (v : Version) (vs : List Version) → (is_version key p v ≡ true → ⊥) → versions_in vs key p ≡ None → versions_in (v ∷ vs) key p ≡ None
other_first key p v vs other rest = go (is_version key p v) refl
  where
    go : (b : Bool) → is_version key p v ≡ b → cond b (Some v.row) (versions_in vs key p) ≡ None
    go true e = absurd (other e)
    go false e = rest

all_behind : (key : List ℕ) (p : ℕ) (v : Version) (vs : List Version) → ascends_from v vs ≡ true → is_before (key, p) (spot_of v) ≡ true → versions_in (v ∷ vs) key p ≡ None
all_behind key p v [] asc e = other_first key p v [] (λ is. not_itself key p v e is) refl
all_behind key p v (w ∷ vs) asc e =
    let b = both (is_before (spot_of v) (spot_of w)) (ascends_from w vs) asc in
    other_first key p v (w ∷ vs) (λ is. not_itself key p v e is) (all_behind key p w vs b.1 (before_trans (key, p) (spot_of v) (spot_of w) e b.0))

none_above : (to key : List ℕ) (p : ℕ) (back : List Version) → ascends back ≡ true → slice_cmp nat_cmp key to ≡ Less → is_behind (to, 0) (option_map spot_of (slice_get back 0)) ≡ true → versions_in back key p ≡ None
none_above to key p [] asc lt e = refl
none_above to key p (v ∷ vs) asc lt e = all_behind key p v vs asc (before_trans (key, p) (to, 0) (spot_of v) (before_end to key p lt) e)

all_before : (from key : List ℕ) (p : ℕ) (front : List Version) (v : Version) (rest : List Version) → ascends (front ++ v ∷ rest) ≡ true → slice_cmp nat_cmp key from ≢ Less → is_before (from, 0) (spot_of v) ≡ false → versions_in front key p ≡ None
all_before from key p [] v rest asc not_less e = refl
all_before from key p (u ∷ front) v rest asc not_less e =
    let low : is_before (spot_of u) (from, 0) ≡ true = before_not_behind (spot_of u) (spot_of v) (from, 0) (before_later u front v rest asc) e in
    other_first key p u front
    (λ is. true_false (is_before (key, p) (from, 0)) (ap (λ (s : Spot). is_before s (from, 0)) (sym (spot_there key p (spot_of u) is)) ∙ low) (not_before_start from key p not_less))
    (all_before from key p front v rest (ascends_tail u (front ++ v ∷ rest) asc) not_less e)

none_below : (from key : List ℕ) (p : ℕ) (front rest : List Version) → ascends (front ++ rest) ≡ true → slice_cmp nat_cmp key from ≢ Less
    → (0 < length front → is_behind (from, 0) (option_map spot_of (slice_get rest 0)) ≡ false) → versions_in front key p ≡ None
none_below from key p [] rest asc not_less low = refl
none_below from key p (u ∷ front) [] asc not_less low = absurd (let t : true ≡ false = low (omega arith) in cc)
none_below from key p (u ∷ front) (v ∷ rest) asc not_less low = all_before from key p (u ∷ front) v rest asc not_less (low (omega arith))

versions_append : (a b : List Version) (key : List ℕ) (p : ℕ) → versions_in (a ++ b) key p ≡ or_else (versions_in a key p) (versions_in b key p)
versions_append [] b key p = refl
versions_append (v ∷ a) b key p =
    ap (λ (r : Option (Option Row)). cond (is_version key p v) (Some v.row) r) (versions_append a b key p)
    ∙ go (is_version key p v)
  where
    go : (t : Bool) → cond t (Some v.row) (or_else (versions_in a key p) (versions_in b key p)) ≡ or_else (cond t (Some v.row) (versions_in a key p)) (versions_in b key p)
    go true = refl
    go false = refl

or_none : (found : Option (Option Row)) → or_else found None ≡ found
or_none None = refl
or_none (Some row) = refl

-- what lies between agrees with all
middle_agrees : (from to : List ℕ) (front mine back : List Version) → ascends (front ++ (mine ++ back)) ≡ true
    → (0 < length front → is_behind (from, 0) (option_map spot_of (slice_get (mine ++ back) 0)) ≡ false) → is_behind (to, 0) (option_map spot_of (slice_get back 0)) ≡ true
    → AgreeWithin from to (versions_in mine) (versions_in (front ++ (mine ++ back)))
middle_agrees from to front mine back asc low high = record {
  same = λ key within p.
      sym (versions_append front (mine ++ back) key p
      ∙ ap (λ (r : Option (Option Row)). or_else r (versions_in (mine ++ back) key p)) (none_below from key p front (mine ++ back) asc within.0 low)
      ∙ versions_append mine back key p
      ∙ ap (or_else (versions_in mine key p)) (none_above to key p back (ascends_behind mine back (ascends_behind front (mine ++ back) asc)) within.1 high)
      ∙ or_none (versions_in mine key p));
}

-- ---- by place
drop_head : {A : Type 0} (xs : List A) (k : ℕ) → slice_get (drop k xs) 0 ≡ slice_get xs k
drop_head [] zero = refl
drop_head [] (suc k) = refl
drop_head (x ∷ xs) zero = refl
drop_head (x ∷ xs) (suc k) = drop_head xs k

some_taken : {A : Type 0} (pre : List A) (k : ℕ) → (k ≡ 0 → pre ≡ []) → 0 < length pre → 0 < k
some_taken pre zero none some = absurd (omega (arith, some, ap length (none refl)))
some_taken pre (suc k) none some = omega arith

none_taken : {A : Type 0} (xs : List A) (k : ℕ) → k ≡ 0 → take k xs ≡ []
none_taken xs zero e = refl
none_taken xs (suc k) e = absurd (omega (arith, e))

pub between_agrees : (from to : List ℕ) (versions found : List Version) → ascends versions ≡ true → IsBetween spot_of from to versions found → AgreeWithin from to (versions_in found) (versions_in versions)
between_agrees from to versions found asc is =
    subst (λ (l : List Version). AgreeWithin from to (versions_in found) (versions_in l)) parts
    (subst (λ (l : List Version). AgreeWithin from to (versions_in l) (versions_in (front ++ (mine ++ back)))) (sym is.found_is)
    (middle_agrees from to front mine back (ap ascends parts ∙ asc)
    (λ some. ap (λ (l : List Version). is_behind (from, 0) (option_map spot_of (slice_get l 0))) (take-append-drop is.count rest) ∙ ap (λ (o : Option Version). is_behind (from, 0) (option_map spot_of o)) (drop_head versions is.first) ∙ is.low (some_taken front is.first (none_taken versions is.first) some))
    (ap (λ (o : Option Version). is_behind (to, 0) (option_map spot_of o)) (drop_head rest is.count) ∙ is.high)))
  where
    front : List Version
    front = take is.first versions

    rest : List Version
    rest = drop is.first versions

    mine : List Version
    mine = take is.count rest

    back : List Version
    back = drop is.count rest

    parts : front ++ (mine ++ back) ≡ versions
    parts = ap (λ (l : List Version). front ++ l) (take-append-drop is.count rest) ∙ take-append-drop is.first versions

pub between_ascends : (from to : List ℕ) (versions found : List Version) → ascends versions ≡ true → IsBetween spot_of from to versions found → ascends found ≡ true
between_ascends from to versions found asc is =
    ap ascends is.found_is
    ∙ ascends_front (take is.count (drop is.first versions)) (drop is.count (drop is.first versions))
    (ap ascends (take-append-drop is.count (drop is.first versions)) ∙ ascends_behind (take is.first versions) (drop is.first versions) (ap ascends (take-append-drop is.first versions) ∙ asc))

-- ---- blocks, one behind another
-- a block of the first versions, before blocks of the others
record Headed (start : ℕ) (versions : List Version) (block : Block) (More : ℕ → List Version → Type 0) : Type 0 where
  front : List Version
  back : List Version
  parts : versions ≡ front ++ back
  is_block : IsBlock start front block
  more : More (start + block.size) back

abbrev Joined : ℕ → List Version → List Block → Type 0
Joined start versions [] = versions ≡ []
Joined start versions (block ∷ blocks) = Headed start versions block (λ at back. Joined at back blocks)

joined : (start : ℕ) (versions : List Version) (blocks : List Block) → AreBlocks start versions blocks → Joined start versions blocks
joined start versions [] are = nil_from_length versions are
joined start versions (block ∷ blocks) are = record {
  front = take 16 versions;
  back = drop 16 versions;
  parts = sym (take-append-drop 16 versions);
  is_block = are.0;
  more = joined (start + block.size) (drop 16 versions) blocks are.1;
}

text_joined : (a b : List Version) → length (versions_text (a ++ b)) ≡ length (versions_text a) + length (versions_text b)
text_joined a b = ap length (flat_map-append version_text a b) ∙ length-append (versions_text a) (versions_text b)

joined_size : (start : ℕ) (versions : List Version) (blocks : List Block) → Joined start versions blocks → size_of_blocks blocks ≡ length (versions_text versions)
joined_size start versions [] j = ap (λ (l : List Version). length (versions_text l)) (sym j)
joined_size start versions (block ∷ blocks) j =
    omega (arith, j.is_block.size_is, joined_size (start + block.size) j.back blocks j.more, ap (λ (l : List Version). length (versions_text l)) j.parts, text_joined j.front j.back)

joined_count : (start : ℕ) (versions : List Version) (blocks : List Block) → Joined start versions blocks → count_of_blocks blocks ≡ length versions
joined_count start versions [] j = ap (λ (l : List Version). length l) (sym j)
joined_count start versions (block ∷ blocks) j =
    omega (arith, j.is_block.count_is, joined_count (start + block.size) j.back blocks j.more, ap (λ (l : List Version). length l) j.parts, length-append j.front j.back)

joined_head : (start : ℕ) (versions : List Version) (blocks : List Block) → Joined start versions blocks → option_map spot_of (slice_get versions 0) ≡ option_map spot_of_block (slice_get blocks 0)
joined_head start versions [] j = ap (λ (l : List Version). option_map spot_of (slice_get l 0)) j
joined_head start versions (block ∷ blocks) j = go j.front j.parts j.is_block.first_is
  where
    go : (front : List Version) → versions ≡ front ++ j.back → Some (spot_of_block block) ≡ option_map spot_of (slice_get front 0) → option_map spot_of (slice_get versions 0) ≡ Some (spot_of_block block)
    go [] parts first = absurd (cc)
    go (v ∷ front) parts first = ap (λ (l : List Version). option_map spot_of (slice_get l 0)) parts ∙ sym first

joined_start : (start : ℕ) (versions : List Version) (blocks : List Block) (n : ℕ) → Joined start versions blocks → Some n ≡ option_map (λ (block : Block). block.start) (slice_get blocks 0) → n ≡ start
joined_start start versions [] n j e = absurd (cc)
joined_start start versions (block ∷ blocks) n j e = (let same : n ≡ block.start = cc in same ∙ j.is_block.start_is)

-- the versions of the first so many blocks, and of the others
record Cut (start : ℕ) (versions : List Version) (blocks : List Block) (k : ℕ) : Type 0 where
  pre : List Version
  rest : List Version
  parts : versions ≡ pre ++ rest
  none : k ≡ 0 → pre ≡ []
  front : Joined start pre (take k blocks)
  behind : Joined (start + length (versions_text pre)) rest (drop k blocks)

cut : (start : ℕ) (versions : List Version) (blocks : List Block) (k : ℕ) → Joined start versions blocks → Cut start versions blocks k
cut start versions blocks zero j = record {
  pre = [];
  rest = versions;
  parts = refl;
  none = λ e. refl;
  front = refl;
  behind = subst (λ (n : ℕ). Joined n versions blocks) (omega arith) j;
}
cut start versions [] (suc k) j = record {
  pre = [];
  rest = versions;
  parts = refl;
  none = λ e. refl;
  front = refl;
  behind = j;
}
cut start versions (block ∷ blocks) (suc k) j =
    let more = cut (start + block.size) j.back blocks k j.more in
    record {
      pre = j.front ++ more.pre;
      rest = more.rest;
      parts = j.parts ∙ ap (λ (l : List Version). j.front ++ l) more.parts ∙ sym (append_assoc j.front more.pre more.rest);
      none = λ e. absurd (omega (arith, e));
      front = record { front = j.front; back = more.pre; parts = refl; is_block = j.is_block; more = more.front };
      behind = subst (λ (n : ℕ). Joined n more.rest (drop k blocks)) (omega (arith, j.is_block.size_is, text_joined j.front more.pre)) more.behind;
    }

middle_fits : (a m z : List Version) → All IsVersion (a ++ (m ++ z)) → All IsVersion m
middle_fits a m z fits =
    subst (All IsVersion) (ap (take (length m)) (drop_at a (m ++ z) (length a) refl) ∙ take_at m z (length m) refl)
    (All-take IsVersion (length m) (drop (length a) (a ++ (m ++ z))) (All-drop IsVersion (length a) (a ++ (m ++ z)) fits))

-- ---- the span of a range
record Middle (file : List ℕ) (from to : List ℕ) (start : ℕ) (versions : List Version) (blocks : List Block) : Type 0 where
  front : List Version
  mine : List Version
  back : List Version
  parts : versions ≡ front ++ (mine ++ back)
  are : Joined (start + length (versions_text front)) mine blocks
  agree : AgreeWithin from to (versions_in mine) (versions_in versions)

middle : (file : List ℕ) (from to : List ℕ) (start : ℕ) (versions : List Version) (blocks found : List Block) → AreBlocks start versions blocks → ascends versions ≡ true → IsBetween spot_of_block from to blocks found
    → Middle file from to start versions found
middle file from to start versions blocks found are asc is = record {
  front = one.pre;
  mine = two.pre;
  back = two.rest;
  parts = parts;
  are = subst (Joined (start + length (versions_text one.pre)) two.pre) (sym is.found_is) two.front;
  agree = subst (λ (l : List Version). AgreeWithin from to (versions_in two.pre) (versions_in l)) (sym parts)
      (middle_agrees from to one.pre two.pre two.rest (ap ascends (sym parts) ∙ asc)
      (λ some.
      ap (λ (l : List Version). is_behind (from, 0) (option_map spot_of (slice_get l 0))) (sym two.parts)
      ∙ ap (is_behind (from, 0)) (joined_head (start + length (versions_text one.pre)) one.rest (drop is.first blocks) one.behind)
      ∙ ap (λ (o : Option Block). is_behind (from, 0) (option_map spot_of_block o)) (drop_head blocks is.first)
      ∙ is.low (some_taken one.pre is.first one.none some))
      (ap (is_behind (to, 0)) (joined_head (start + length (versions_text one.pre) + length (versions_text two.pre)) two.rest (drop is.count (drop is.first blocks)) two.behind)
      ∙ ap (λ (o : Option Block). is_behind (to, 0) (option_map spot_of_block o)) (drop_head (drop is.first blocks) is.count)
      ∙ is.high));
}
  where
    one : Cut start versions blocks is.first
    one = cut start versions blocks is.first (joined start versions blocks are)

    two : Cut (start + length (versions_text one.pre)) one.rest (drop is.first blocks) is.count
    two = cut (start + length (versions_text one.pre)) one.rest (drop is.first blocks) is.count one.behind

    parts : versions ≡ one.pre ++ (two.pre ++ two.rest)
    parts = one.parts ∙ ap (λ (l : List Version). one.pre ++ l) two.parts

has_span : (file : List ℕ) (from to : List ℕ) (start : ℕ) (versions : List Version) (run : Indexed) (blocks : List Block) (span : Span) (m : Middle file from to start versions blocks) → HasBytesAt file start (versions_text versions) → All IsVersion versions → ascends versions ≡ true
    → run.size ≡ length (versions_text versions) → run.count ≡ length versions → IsSpanOf run blocks span → HasSpan file m.mine span
has_span file from to start versions run blocks span m stands fits asc whole all is = record {
  within = omega (arith, start_is, size_is, stands.within, ap length text, length-append a (b ++ c), length-append b c);
  count_is = count_is;
  text_is = ap (λ (n : ℕ). slice_range file span.start (span.start + n)) size_is
      ∙ ap (λ (n : ℕ). slice_range file n (n + length b)) start_is
      ∙ part_range file a b c start (omega (arith, stands.within, ap length text)) (ap (λ (l : List ℕ). slice_range file start (start + length l)) (sym text) ∙ stands.text_is ∙ text);
  fits = middle_fits m.front m.mine m.back (subst (All IsVersion) m.parts fits);
  in_order = ascends_front m.mine m.back (ascends_behind m.front (m.mine ++ m.back) (ap ascends (sym m.parts) ∙ asc));
}
  where
    a : List ℕ
    a = versions_text m.front

    b : List ℕ
    b = versions_text m.mine

    c : List ℕ
    c = versions_text m.back

    text : versions_text versions ≡ a ++ (b ++ c)
    text = ap versions_text m.parts ∙ flat_map-append version_text m.front (m.mine ++ m.back) ∙ ap (λ (l : List ℕ). a ++ l) (flat_map-append version_text m.mine m.back)

    at : ℕ
    at = start + length a

    size : size_of_blocks blocks ≡ length b
    size = joined_size at m.mine blocks m.are

    count : count_of_blocks blocks ≡ length m.mine
    count = joined_count at m.mine blocks m.are

    start_is : span.start ≡ at
    start_is = joined_start at m.mine blocks span.start m.are is.start_is

    size_is : span.size ≡ length b
    size_is = omega (arith, is.size_is, size, whole, ap length text, length-append a (b ++ c), length-append b c)

    count_is : span.count ≡ length m.mine
    count_is = omega (arith, is.count_is, count, all, ap (λ (l : List Version). length l) m.parts, length-append m.front (m.mine ++ m.back), length-append m.mine m.back)

pub range_spanned : (file : List ℕ) (end : ℕ) (versions : List Version) (run : Indexed) (from to : List ℕ) (blocks : List Block) (found : Option Span) → IsIndexed file end versions run
    → IsBetween spot_of_block from to run.blocks.items blocks → IfNone found (blocks ≡ []) → IfSome found (IsSpanOf run blocks) → SpansRange file from to versions found
range_spanned file end versions run from to blocks None is between none some =
    let m = middle file from to run.start versions run.blocks.items blocks is.placed.blocks is.orderly.in_order between in
    let count : length m.mine ≡ 0 = sym (joined_count (run.start + length (versions_text m.front)) m.mine blocks m.are) ∙ ap count_of_blocks none in
    subst (λ (l : List Version). AgreeWithin from to (versions_in l) (versions_in versions)) (nil_from_length m.mine count) m.agree
range_spanned file end versions run from to blocks (Some span) is between none some =
    let m = middle file from to run.start versions run.blocks.items blocks is.placed.blocks is.orderly.in_order between in
    (m.mine, has_span file from to run.start versions run blocks span m is.placed.stands is.orderly.fits is.orderly.in_order is.placed.size_is is.placed.count_is some, m.agree)

-- ---- versions put among others
pub agree_none : (from to : List ℕ) (versions : List Version) (lists : List (List Version)) → versions ≡ [] → lists ≡ [] → AgreeWithin from to (versions_in versions) (layered lists)
agree_none from to versions lists none no_lists = record { same = λ key within p. ap (λ (l : List Version). versions_in l key p) none ∙ ap (λ (l : List (List Version)). layered l key p) (sym no_lists) }

pub agree_merged : (from to : List ℕ) (newer all older made : List Version) (lists : List (List Version)) → AgreeWithin from to (versions_in newer) (versions_in all) → AgreeWithin from to (versions_in older) (layered lists) → made ≡ merged newer older
    → AgreeWithin from to (versions_in made) (layered (all ∷ lists))
agree_merged from to newer all older made lists one others is = record {
  same = λ key within p.
      ap (λ (l : List Version). versions_in l key p) is
      ∙ merged_is newer older key p
      ∙ (λ i. or_else (one.same key within p i) (others.same key within p i));
}

-- rows of a range are told by its versions alone
pub scan_agrees : (some all : Versions) (from to : List ℕ) (p : ℕ) (rows : List (List ℕ × Row)) → AgreeWithin from to some all → IsScan some from to p rows → IsScan all from to p rows
scan_agrees some all from to p rows agree scan = record {
  ordered = scan.ordered;
  each = λ key row has.
      let one = scan.each key row has in
      (one.0, sym (rows_same key one.0) ∙ one.1);
  all = λ key row within is. scan.all key row within (rows_same key within ∙ is);
}
  where
    rows_same : (key : List ℕ) → IsWithin from to key → row_at some key p ≡ row_at all key p
    rows_same key within = ap (λ (f : ℕ → Option (Option Row)). row_of (version_at f p)) (λ i q. agree.same key within q i)

-- Blocks of versions.
use Rattle.std.proofs.Common.{◌≡◌, ℕ, zero, suc, ◌+◌, ◌-◌, ◌≤◌, List, [], ◌∷◌, ◌++◌, length, take, drop, refl, sym, ◌∙◌, ap, subst, arith, append_assoc, length-append, take-append-drop}
use Rattle.std.specs.Prelude.{Option, Some, None, option_map, min, Bool, true, false, ◌&&◌, slice_range, All}
use Rattle.std.specs.List.{slice_get}
use Rattle.std.proofs.lemmas.List.{append-nil, nil_from_length, drop-drop, take_at, drop_at}
use Rattle.std.proofs.lemmas.List.Elements.{All-take, All-drop}
use Rattle.std.proofs.lemmas.Grind.{flat_map-append}
use Rattle.mega_runs.specs.declared.body.Version.{Version}
use Rattle.mega_runs.specs.declared.index.Block.{Block}
use Rattle.mega_runs.specs.Bodies.{is_before, spot_of, version_text, IsVersion, ascends, ascends_from}
use Rattle.mega_runs.specs.Finding.{is_behind, behind_at, IsPlace, found_in}
use Rattle.mega_runs.specs.declared.index.Indexed.{Indexed}
use Rattle.mega_runs.specs.Index.{versions_text, spot_of_block, IsBlock, AreBlocks, HasBytesAt, IsIndexed, HasBlock}
use Rattle.mega_runs.proofs.Order.{both, ascends_behind}
use Rattle.mega_runs.proofs.Found.{none_behind, found_front, found_back}

-- the blocks so far, before those of what is left, are those of all
abbrev pub Indexing : ℕ → List Version → List Block → ℕ → List Version → Type 0
Indexing start versions blocks at rest = (more : List Block) → AreBlocks at rest more → AreBlocks start versions (blocks ++ more)

take_few : (l : List Version) (n : ℕ) → n ≡ min (length l) 16 → take n l ≡ take 16 l
take_few l n is = go l 16 n is
  where
    go : (l : List Version) (m n : ℕ) → n ≡ min (length l) m → take n l ≡ take m l
    go [] m n is = ap (λ (k : ℕ). take k []) (is ∙ none m) ∙ sym (nil_take m)
      where
        none : (m : ℕ) → min 0 m ≡ 0
        none m = omega arith

        nil_take : (m : ℕ) → take {A = Version} m [] ≡ []
        nil_take zero = refl
        nil_take (suc m) = refl
    go (x ∷ l) zero n is = (let z : n ≡ 0 = omega (arith, is) in ap (λ (k : ℕ). take k (x ∷ l)) z)
    go (x ∷ l) (suc m) zero is = absurd (omega (arith, is))
    go (x ∷ l) (suc m) (suc n) is = ap (λ r. x ∷ r) (go l m n (omega (arith, is)))

drop_few : (l : List Version) (n : ℕ) → n ≡ min (length l) 16 → drop n l ≡ drop 16 l
drop_few l n is = go l 16 n is
  where
    go : (l : List Version) (m n : ℕ) → n ≡ min (length l) m → drop n l ≡ drop m l
    go [] m n is = nil_drop n ∙ sym (nil_drop m)
      where
        nil_drop : (m : ℕ) → drop {A = Version} m [] ≡ []
        nil_drop zero = refl
        nil_drop (suc m) = refl
    go (x ∷ l) zero n is = (let z : n ≡ 0 = omega (arith, is) in ap (λ (k : ℕ). drop k (x ∷ l)) z)
    go (x ∷ l) (suc m) zero is = absurd (omega (arith, is))
    go (x ∷ l) (suc m) (suc n) is = go l m n (omega (arith, is))

pub indexing_more : (start : ℕ) (versions : List Version) (blocks : List Block) (at : ℕ) (rest : List Version) (n : ℕ) (block : Block) (others : List Block) → n ≡ min (length rest) 16
    → Indexing start versions blocks at rest → IsBlock at (take n rest) block → others ≡ blocks ++ block ∷ [] → Indexing start versions others (at + block.size) (drop n rest)
indexing_more start versions blocks at rest n block others few so_far is pushed more are =
    subst (AreBlocks start versions) (sym (append_assoc blocks (block ∷ []) more) ∙ ap (λ (l : List Block). l ++ more) (sym pushed))
    (so_far (block ∷ more) (
      subst (λ (l : List Version). IsBlock at l block) (take_few rest n few) is,
      subst (λ (l : List Version). AreBlocks (at + block.size) l more) (drop_few rest n few) are,
    ))

pub indexing_ends : (start : ℕ) (versions : List Version) (blocks : List Block) (at : ℕ) (rest : List Version) → Indexing start versions blocks at rest → rest ≡ [] → AreBlocks start versions blocks
indexing_ends start versions blocks at rest so_far none = subst (AreBlocks start versions) (append-nil blocks) (so_far [] (ap length none))

pub text_parts : (n : ℕ) (versions : List Version) → length (versions_text (take n versions)) + length (versions_text (drop n versions)) ≡ length (versions_text versions)
text_parts n versions =
    omega (arith, ap (λ (l : List Version). length (versions_text l)) (take-append-drop n versions), ap length (flat_map-append version_text (take n versions) (drop n versions)), length-append (versions_text (take n versions)) (versions_text (drop n versions)))

-- ---- the block of a place
-- a block among its versions: those before it, its own, and those behind it, which begin as the next block does
pub record Chosen (start : ℕ) (versions : List Version) (blocks : List Block) (j : ℕ) (block : Block) : Type 0 where
  pub pre : List Version
  pub mine : List Version
  pub post : List Version
  pub parts : versions ≡ pre ++ (mine ++ post)
  pub is_block : IsBlock (start + length (versions_text pre)) mine block
  pub next : option_map spot_of (slice_get post 0) ≡ option_map spot_of_block (slice_get blocks (suc j))

head_taken : (l : List Version) → slice_get (take 16 l) 0 ≡ slice_get l 0
head_taken [] = refl
head_taken (v ∷ l) = refl

heads : (start : ℕ) (versions : List Version) (blocks : List Block) → AreBlocks start versions blocks → option_map spot_of (slice_get versions 0) ≡ option_map spot_of_block (slice_get blocks 0)
heads start versions [] are = ap (λ (l : List Version). option_map spot_of (slice_get l 0)) (nil_from_length versions are)
heads start versions (block ∷ blocks) are = ap (option_map spot_of) (sym (head_taken versions)) ∙ sym are.0.first_is

pub chosen : (start : ℕ) (versions : List Version) (blocks : List Block) (j : ℕ) (block : Block) → AreBlocks start versions blocks → slice_get blocks j ≡ Some block → Chosen start versions blocks j block
chosen start versions [] j block are there = absurd (cc)
chosen start versions (first ∷ blocks) zero block are there =
    let same : first ≡ block = cc in
    record {
      pre = [];
      mine = take 16 versions;
      post = drop 16 versions;
      parts = sym (take-append-drop 16 versions);
      is_block = coe 0 1 (i. IsBlock (start + 0) (take 16 versions) (same i)) (subst (λ (n : ℕ). IsBlock n (take 16 versions) first) (omega arith) are.0);
      next = heads (start + first.size) (drop 16 versions) blocks are.1;
    }
chosen start versions (first ∷ blocks) (suc j) block are there =
    let rest = chosen (start + first.size) (drop 16 versions) blocks j block are.1 there in
    record {
      pre = take 16 versions ++ rest.pre;
      mine = rest.mine;
      post = rest.post;
      parts = sym (take-append-drop 16 versions) ∙ ap (λ (l : List Version). take 16 versions ++ l) rest.parts ∙ sym (append_assoc (take 16 versions) rest.pre (rest.mine ++ rest.post));
      is_block = subst (λ (n : ℕ). IsBlock n rest.mine block) (omega (arith, are.0.size_is, ap length (flat_map-append version_text (take 16 versions) rest.pre), length-append (versions_text (take 16 versions)) (versions_text rest.pre))) rest.is_block;
      next = rest.next;
    }

pub ascends_front : (front back : List Version) → ascends (front ++ back) ≡ true → ascends front ≡ true
ascends_front [] back e = refl
ascends_front (v ∷ front) back e = from v front e
  where
    from : (v : Version) (front : List Version) → ascends_from v (front ++ back) ≡ true → ascends_from v front ≡ true
    from v [] e = refl
    from v (w ∷ front) e =
        let b = both (is_before (spot_of v) (spot_of w)) (ascends_from w (front ++ back)) e in
        ap (λ (t : Bool). t && ascends_from w front) b.0 ∙ from w front b.1

pub mine_ascends : (start : ℕ) (versions : List Version) (blocks : List Block) (j : ℕ) (block : Block) (c : Chosen start versions blocks j block) → ascends versions ≡ true → ascends c.mine ≡ true
mine_ascends start versions blocks j block c asc = ascends_front c.mine c.post (ascends_behind c.pre (c.mine ++ c.post) (ap ascends (sym c.parts) ∙ asc))

pub mine_fits : (start : ℕ) (versions : List Version) (blocks : List Block) (j : ℕ) (block : Block) (c : Chosen start versions blocks j block) → All IsVersion versions → All IsVersion c.mine
mine_fits start versions blocks j block c fits =
    subst (All IsVersion) (ap (λ (l : List Version). take (length c.mine) (drop (length c.pre) l)) c.parts ∙ ap (take (length c.mine)) (drop_at c.pre (c.mine ++ c.post) (length c.pre) refl) ∙ take_at c.mine c.post (length c.mine) refl)
    (All-take IsVersion (length c.mine) (drop (length c.pre) versions) (All-drop IsVersion (length c.pre) versions fits))

-- what is found in the block is what is found in all
pub found_in_mine : (start : ℕ) (versions : List Version) (blocks : List Block) (j : ℕ) (block : Block) (key : List ℕ) (p : ℕ) (c : Chosen start versions blocks j block) → ascends versions ≡ true → slice_get blocks j ≡ Some block
    → IsPlace spot_of_block (key, p) blocks (suc j) → found_in key p versions ≡ found_in key p c.mine
found_in_mine start versions blocks j block key p c asc there place = ap (found_in key p) c.parts ∙ by_first c.mine refl
  where
    parts_ascend : ascends (c.pre ++ (c.mine ++ c.post)) ≡ true
    parts_ascend = ap ascends (sym c.parts) ∙ asc

    post_none : (post : List Version) → c.post ≡ post → found_in key p post ≡ None
    post_none [] is = refl
    post_none (w ∷ ws) is =
        none_behind key p w ws (ascends_behind c.mine (w ∷ ws) (ap (λ (l : List Version). ascends (c.mine ++ l)) (sym is) ∙ ascends_behind c.pre (c.mine ++ c.post) parts_ascend))
        (ap (is_behind (key, p)) (sym (ap (λ (l : List Version). option_map spot_of (slice_get l 0)) is) ∙ c.next) ∙ place.behind)

    by_first : (mine : List Version) → c.mine ≡ mine → found_in key p (c.pre ++ (c.mine ++ c.post)) ≡ found_in key p c.mine
    by_first [] is = absurd (let none : Some (spot_of_block block) ≡ None = c.is_block.first_is ∙ ap (λ (l : List Version). option_map spot_of (slice_get l 0)) is in cc)
    by_first (v ∷ rest) is =
        let first : Some (spot_of_block block) ≡ Some (spot_of v) = c.is_block.first_is ∙ ap (λ (l : List Version). option_map spot_of (slice_get l 0)) is in
        let at_j : suc j - 1 ≡ j = omega arith in
        let not_behind : is_before (key, p) (spot_of v) ≡ false = ap (is_behind (key, p)) (sym first) ∙ sym (ap (λ (o : Option Block). is_behind (key, p) (option_map spot_of_block o)) there) ∙ ap (behind_at spot_of_block (key, p) blocks) (sym at_j) ∙ place.before (omega arith) in
        ap (λ (l : List Version). found_in key p (c.pre ++ (l ++ c.post))) is
        ∙ found_back key p c.pre v (rest ++ c.post) (ap (λ (l : List Version). ascends (c.pre ++ (l ++ c.post))) (sym is) ∙ parts_ascend) not_behind
        ∙ ap (λ (l : List Version). found_in key p (l ++ c.post)) (sym is)
        ∙ found_front key p c.mine c.post (post_none c.post refl)

-- where no block begins at or before the key and position, nothing is found
pub found_nowhere : (start : ℕ) (versions : List Version) (blocks : List Block) (key : List ℕ) (p k : ℕ) → AreBlocks start versions blocks → ascends versions ≡ true → IsPlace spot_of_block (key, p) blocks k → k ≡ 0 → found_in key p versions ≡ None
found_nowhere start versions blocks key p k are asc place none = go versions refl
  where
    first_behind : is_behind (key, p) (option_map spot_of (slice_get versions 0)) ≡ true
    first_behind = ap (is_behind (key, p)) (heads start versions blocks are) ∙ ap (behind_at spot_of_block (key, p) blocks) (sym none) ∙ place.behind

    go : (l : List Version) → versions ≡ l → found_in key p versions ≡ None
    go [] is = ap (found_in key p) is
    go (v ∷ vs) is = ap (found_in key p) is ∙ none_behind key p v vs (sym (ap ascends is) ∙ asc) (sym (ap (λ (l : List Version). is_behind (key, p) (option_map spot_of (slice_get l 0))) is) ∙ first_behind)

-- the bytes of the block stand at its place
pub part_range : (file a m z : List ℕ) (start : ℕ) → start + length (a ++ (m ++ z)) ≤ length file → slice_range file start (start + length (a ++ (m ++ z))) ≡ a ++ (m ++ z) → slice_range file (start + length a) (start + length a + length m) ≡ m
part_range file a m z start within is =
    ap (λ (n : ℕ). take n (drop (start + length a) file)) (omega arith)
    ∙ ap (take (length m)) (sym (drop-drop (length a) start file) ∙ ap (drop (length a)) whole ∙ drop_at a (m ++ (z ++ rest)) (length a) refl)
    ∙ take_at m (z ++ rest) (length m) refl
  where
    count : ℕ
    count = length (a ++ (m ++ z))

    rest : List ℕ
    rest = drop count (drop start file)

    whole : drop start file ≡ a ++ (m ++ (z ++ rest))
    whole =
        sym (take-append-drop count (drop start file))
        ∙ ap (λ (l : List ℕ). l ++ rest) (ap (λ (n : ℕ). take n (drop start file)) (omega arith) ∙ is)
        ∙ append_assoc a (m ++ z) rest ∙ ap (λ (l : List ℕ). a ++ l) (append_assoc m z rest)

pub mine_stands : (file : List ℕ) (start : ℕ) (versions : List Version) (blocks : List Block) (j : ℕ) (block : Block) (c : Chosen start versions blocks j block) → HasBytesAt file start (versions_text versions)
    → (block.start + block.size ≤ length file) × (slice_range file block.start (block.start + block.size) ≡ versions_text c.mine)
mine_stands file start versions blocks j block c stands = (
  omega (arith, c.is_block.start_is, c.is_block.size_is, stands.within, ap length text, length-append a (m ++ z), length-append m z),
  ap (λ (n : ℕ). slice_range file block.start (block.start + n)) c.is_block.size_is
      ∙ ap (λ (n : ℕ). slice_range file n (n + length m)) c.is_block.start_is
      ∙ part_range file a m z start (omega (arith, stands.within, ap length text)) (ap (λ (l : List ℕ). slice_range file start (start + length l)) (sym text) ∙ stands.text_is ∙ text),
)
  where
    a : List ℕ
    a = versions_text c.pre

    m : List ℕ
    m = versions_text c.mine

    z : List ℕ
    z = versions_text c.post

    text : versions_text versions ≡ a ++ (m ++ z)
    text = ap versions_text c.parts ∙ flat_map-append version_text c.pre (c.mine ++ c.post) ∙ ap (λ (l : List ℕ). a ++ l) (flat_map-append version_text c.mine c.post)

-- ---- the block that a place tells
nonzero : (k : ℕ) → (k ≡ 0 → ⊥) → k ≡ suc (k - 1)
nonzero zero some = absurd (some refl)
nonzero (suc k) some = omega arith

place_is : (key : List ℕ) (p : ℕ) (blocks : List Block) (k : ℕ) → (k ≡ 0 → ⊥) → IsPlace spot_of_block (key, p) blocks k → IsPlace spot_of_block (key, p) blocks (suc (k - 1))
place_is key p blocks k some place = subst (IsPlace spot_of_block (key, p) blocks) (nonzero k some) place

pub block_within : (file : List ℕ) (end : ℕ) (versions : List Version) (run : Indexed) (j : ℕ) (block : Block) → IsIndexed file end versions run → slice_get run.blocks.items j ≡ Some block → block.start + block.size ≤ length file
block_within file end versions run j block is there = (mine_stands file run.start versions run.blocks.items j block (chosen run.start versions run.blocks.items j block is.placed.blocks there) is.placed.stands).0

pub record BlockOf (file : List ℕ) (versions : List Version) (key : List ℕ) (p : ℕ) (block : Block) : Type 0 where
  pub mine : List Version
  pub has : HasBlock file mine block
  pub same : found_in key p versions ≡ found_in key p mine

pub block_of : (file : List ℕ) (end : ℕ) (versions : List Version) (run : Indexed) (key : List ℕ) (p k : ℕ) (block : Block) → IsIndexed file end versions run → slice_get run.blocks.items (k - 1) ≡ Some block → (k ≡ 0 → ⊥) → IsPlace spot_of_block (key, p) run.blocks.items k → BlockOf file versions key p block
block_of file end versions run key p k block is there some place =
    let c = chosen run.start versions run.blocks.items (k - 1) block is.placed.blocks there in
    record {
      mine = c.mine;
      has = record {
        count_is = c.is_block.count_is;
        text_is = (mine_stands file run.start versions run.blocks.items (k - 1) block c is.placed.stands).1;
        fits = mine_fits run.start versions run.blocks.items (k - 1) block c is.orderly.fits;
        in_order = mine_ascends run.start versions run.blocks.items (k - 1) block c is.orderly.in_order;
      };
      same = found_in_mine run.start versions run.blocks.items (k - 1) block key p c is.orderly.in_order there (place_is key p run.blocks.items k some place);
    }

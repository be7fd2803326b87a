-- Whole keys: what was spelled is read again, what was read was spelled so, and the order is that of the values.
use Rattle.std.proofs.Common.{◌≡◌, ℕ, zero, suc, ◌+◌, ◌-◌, ◌≤◌, cond, eqb, ltb, Bool, true, false, List, [], ◌∷◌, ◌++◌, length, take, drop, refl, sym, ap, ◌∙◌, arith, append_assoc, append-nil, take-append-drop, Option, Some, None, Result, Ok, Err}
use Rattle.std.proofs.lemmas.Bool.{eqb-true, le-ltb, ltb-false}
use Rattle.std.proofs.lemmas.Bool.Decides.{nat_tests}
use Rattle.std.proofs.lemmas.List.{take_at, drop_at, take_all}
use Rattle.mega_base.specs.declared.values.Value.{Value}
use Rattle.mega_base.specs.declared.values.Kind.{Kind}
use Rattle.mega_base.specs.declared.values.Shape.{Shape}
use Rattle.mega_keys.specs.Spelling.{spell_all, scattered, scatter_of, head_bytes, root_part, rest_part, row_bytes}
use Rattle.std.specs.Ordering.{nat_cmp, ordering_then}
use Rattle.std.specs.Cmp.Lexicographic.{slice_cmp}
use Rattle.mega_keys.specs.declared.fault.KeyFault.{KeyFault}
use Rattle.mega_keys.specs.declared.fault.KeyFault.TheVariants.{NotKey, TooLong, Missing}
use Rattle.mega_keys.specs.Order.{value_cmp, values_cmp}
use Rattle.mega_keys.specs.Fit.{has_kind, StandIn, AreValues, misplaced, key_kinds, IsKey}
use Rattle.mega_keys.specs.Answers.{limited, fault_or_missing, unless_fault, row_key_of}
use Rattle.mega_keys.specs.Reading.{Read, ◌>>=◌, values_at, byte_at, marks_at, agree, root_at, key_front_at, key_at, answer_of, read_key_of}
use Rattle.mega_keys.proofs.Again.{values_again}
use Rattle.mega_keys.proofs.Order.{then_assoc, orders_then, orders_byte, orders_long, orders_values}
use Rattle.std.specs.declared.cmp.Ordering.{Ordering}
use Rattle.std.specs.declared.cmp.Ordering.TheVariants.{Less, Equal, Greater}
use Rattle.std.specs.Cmp.{nat_cmp_is}
use Rattle.mega_keys.proofs.Takes.{IsBytes, IsBytes-after, bind_ok, ok_parts, values_take}

same_eqb : (n : ℕ) → eqb n n ≡ true
same_eqb n = grind (arith, nat_tests)

pub byte_again : (b : ℕ) (rest : List ℕ) → byte_at b (b ∷ rest) ≡ Ok rest
unfolding byte_at
byte_again b rest = ap (λ t. cond t (Ok rest) (Err (suc (length rest)))) (same_eqb b)

byte_of : (t : Bool) (b c : ℕ) (bytes rest : List ℕ) → eqb c b ≡ t → cond t (Ok bytes) (Err (suc (length bytes))) ≡ Ok rest → c ∷ bytes ≡ b ∷ rest
byte_of true b c bytes rest e h = let is : c ≡ b = grind (arith, nat_tests) in let same : bytes ≡ rest = cc in (λ i. is i ∷ same i)
byte_of false b c bytes rest e h = absurd (cc)

pub byte_takes : (b : ℕ) (bytes rest : List ℕ) → byte_at b bytes ≡ Ok rest → bytes ≡ b ∷ rest
unfolding byte_at
byte_takes b [] rest h = absurd (cc)
byte_takes b (c ∷ bytes) rest h = byte_of (eqb c b) b c bytes rest refl h

agree_same : (a b n : ℕ) → agree (a ∷ b ∷ []) (a ∷ b ∷ []) n ≡ Ok tt
unfolding agree
agree_same a b n =
    ap (λ t. cond t (cond (eqb b b) (Ok tt) (Err (n - 1))) (Err n)) (same_eqb a) ∙ ap (λ t. cond t (Ok tt) (Err (n - 1))) (same_eqb b)

agree_of : (s t : Bool) (a b c d n : ℕ) → eqb a c ≡ s → eqb b d ≡ t → cond {A = Result (Unit {0}) ℕ} s (cond t (Ok tt) (Err (n - 1))) (Err n) ≡ Ok tt → (a ≡ c) × (b ≡ d)
agree_of true true a b c d n e f h = (eqb-true a c e, eqb-true b d f)
agree_of true false a b c d n e f h = absurd (cc)
agree_of false t a b c d n e f h = absurd (cc)

agree_pair : (a b c d n : ℕ) → agree (a ∷ b ∷ []) (c ∷ d ∷ []) n ≡ Ok tt → (a ≡ c) × (b ≡ d)
unfolding agree
agree_pair a b c d n h = agree_of (eqb a c) (eqb b d) a b c d n refl refl h

agree_takes : (a b : ℕ) (values : List Value) (n : ℕ) → agree (a ∷ b ∷ []) (scattered values) n ≡ Ok tt → a ∷ b ∷ [] ≡ scattered values
unfolding scattered
agree_takes a b values n h = let same = agree_pair a b _ _ n h in (λ i. same.0 i ∷ same.1 i ∷ [])

-- the root's part of a key
pub root_again : (s : Bool) (ks : List Kind) (vs : List Value) (rest : List ℕ) → StandIn ks vs → root_at s ks ((scatter_of s vs ++ spell_all vs) ++ rest) ≡ Ok (vs, rest)
unfolding root_at scattered marks_at
root_again false ks vs rest h = values_again ks vs rest h
root_again true ks vs rest h =
    let bytes = (scatter_of true vs ++ spell_all vs) ++ rest in
    ap (λ (r : Read (List Value)). r >>= λ root. agree (scattered vs) (scattered root.0) (length bytes) >>= λ _. Ok root) (values_again ks vs rest h)
    ∙ ap (λ (r : Result (Unit {0}) ℕ). r >>= λ _. Ok (vs, rest)) (agree_same _ _ (length bytes))

pub record TakesRoot (s : Bool) (ks : List Kind) (bytes : List ℕ) (vs : List Value) (rest : List ℕ) : Type 0 where
  pub spelled : bytes ≡ (scatter_of s vs ++ spell_all vs) ++ rest
  pub stand : StandIn ks vs

marked_takes : (ks : List Kind) (bytes marked : List ℕ) (a b : ℕ) (vs : List Value) (rest : List ℕ) → IsBytes marked → bytes ≡ a ∷ b ∷ marked → (values_at ks marked >>= λ root. agree (a ∷ b ∷ []) (scattered root.0) (length bytes) >>= λ _. Ok root) ≡ Ok (vs, rest) → TakesRoot true ks bytes vs rest
marked_takes ks bytes marked a b vs rest fits is h =
    let r = bind_ok (values_at ks marked) (λ root. agree (a ∷ b ∷ []) (scattered root.0) (length bytes) >>= λ _. Ok root) (vs, rest) h in
    let g = bind_ok (agree (a ∷ b ∷ []) (scattered r.0.0) (length bytes)) (λ _. Ok r.0) (vs, rest) r.2 in
    let parts = ok_parts g.2 in
    let read = values_take ks marked r.0.0 r.0.1 fits r.1 in
    let marks = agree_takes a b r.0.0 (length bytes) g.1 in
    rw (← parts.0) (record {
      spelled = is ∙ ap (λ x. a ∷ b ∷ x) (read.spelled ∙ ap (λ x. spell_all r.0.0 ++ x) parts.1) ∙ ap (λ m. m ++ (spell_all r.0.0 ++ rest)) marks ∙ sym (append_assoc (scattered r.0.0) (spell_all r.0.0) rest);
      stand = read.stand;
    })

pub root_takes : (s : Bool) (ks : List Kind) (bytes : List ℕ) (vs : List Value) (rest : List ℕ) → IsBytes bytes → root_at s ks bytes ≡ Ok (vs, rest) → TakesRoot s ks bytes vs rest
unfolding root_at marks_at
root_takes false ks bytes vs rest fits h = let t = values_take ks bytes vs rest fits h in record { spelled = t.spelled; stand = t.stand }
root_takes true ks [] vs rest fits h = absurd (cc)
root_takes true ks (a ∷ []) vs rest fits h = absurd (cc)
root_takes true ks (a ∷ b ∷ marked) vs rest fits h = marked_takes ks (a ∷ b ∷ marked) marked a b vs rest (λ i. fits (suc (suc i))) refl h

-- places one after the other
pub stand_join : (ks ls : List Kind) (vs ws : List Value) → StandIn ks vs → StandIn ls ws → StandIn (ks ++ ls) (vs ++ ws)
stand_join [] ls [] ws h g = g
stand_join [] ls (v ∷ vs) ws h g = absurd h
stand_join (k ∷ ks) ls [] ws h g = absurd h
stand_join (k ∷ ks) ls (v ∷ vs) ws h g = (h.0, h.1, stand_join ks ls vs ws h.2 g)

pub stand_length : (ks : List Kind) (vs : List Value) → StandIn ks vs → length vs ≡ length ks
stand_length [] [] h = refl
stand_length [] (v ∷ vs) h = absurd h
stand_length (k ∷ ks) [] h = absurd h
stand_length (k ∷ ks) (v ∷ vs) h = ap suc (stand_length ks vs h.2)

pub stand_front : (ks ls : List Kind) (vs : List Value) → StandIn (ks ++ ls) vs → StandIn ks (take (length ks) vs)
stand_front [] ls vs h = tt
stand_front (k ∷ ks) ls [] h = absurd h
stand_front (k ∷ ks) ls (v ∷ vs) h = (h.0, h.1, stand_front ks ls vs h.2)

pub stand_back : (ks ls : List Kind) (vs : List Value) → StandIn (ks ++ ls) vs → StandIn ls (drop (length ks) vs)
stand_back [] ls vs h = h
stand_back (k ∷ ks) ls [] h = absurd h
stand_back (k ∷ ks) ls (v ∷ vs) h = stand_back ks ls vs h.2

-- a whole key, whatever follows it
pub key_front_again : (shape : Shape) (vs : List Value) (more : List ℕ) → StandIn (key_kinds shape) vs → key_front_at shape (row_bytes shape vs ++ more) ≡ Ok (vs, more)
unfolding key_front_at
key_front_again shape vs more h =
    let root = root_part shape vs in
    let rest = rest_part shape vs in
    let root_bytes = scatter_of shape.scatter root ++ spell_all root in
    let behind = spell_all rest ++ more in
    let split : row_bytes shape vs ++ more ≡ shape.space ∷ (root_bytes ++ shape.table ∷ behind) = ap (λ x. shape.space ∷ x) (append_assoc root_bytes (shape.table ∷ spell_all rest) more) in
    ap (key_front_at shape) split
    ∙ ap (λ (r : Result (List ℕ) ℕ). r >>= λ head. root_at shape.scatter shape.root_kinds head >>= λ a. byte_at shape.table a.1 >>= λ table. values_at shape.rest_kinds table >>= λ b. Ok (a.0 ++ b.0, b.1)) (byte_again shape.space (root_bytes ++ shape.table ∷ behind))
    ∙ ap (λ (r : Read (List Value)). r >>= λ a. byte_at shape.table a.1 >>= λ table. values_at shape.rest_kinds table >>= λ b. Ok (a.0 ++ b.0, b.1)) (root_again shape.scatter shape.root_kinds root (shape.table ∷ behind) (stand_front shape.root_kinds shape.rest_kinds vs h))
    ∙ ap (λ (r : Result (List ℕ) ℕ). r >>= λ table. values_at shape.rest_kinds table >>= λ b. Ok (root ++ b.0, b.1)) (byte_again shape.table behind)
    ∙ ap (λ (r : Read (List Value)). r >>= λ b. Ok (root ++ b.0, b.1)) (values_again shape.rest_kinds rest more (stand_back shape.root_kinds shape.rest_kinds vs h))
    ∙ ap (λ l. Ok (l, more)) (take-append-drop (length shape.root_kinds) vs)

pub record TakesKey (shape : Shape) (bytes : List ℕ) (vs : List Value) (rest : List ℕ) : Type 0 where
  pub spelled : bytes ≡ row_bytes shape vs ++ rest
  pub stand : StandIn (key_kinds shape) vs

pub key_front_takes : (shape : Shape) (bytes : List ℕ) (vs : List Value) (rest : List ℕ) → IsBytes bytes → key_front_at shape bytes ≡ Ok (vs, rest) → TakesKey shape bytes vs rest
unfolding key_front_at
key_front_takes shape bytes vs rest fits h =
    let a = bind_ok (byte_at shape.space bytes) (λ head. root_at shape.scatter shape.root_kinds head >>= λ a. byte_at shape.table a.1 >>= λ table. values_at shape.rest_kinds table >>= λ b. Ok (a.0 ++ b.0, b.1)) (vs, rest) h in
    let first = byte_takes shape.space bytes a.0 a.1 in
    let r = bind_ok (root_at shape.scatter shape.root_kinds a.0) (λ a. byte_at shape.table a.1 >>= λ table. values_at shape.rest_kinds table >>= λ b. Ok (a.0 ++ b.0, b.1)) (vs, rest) a.2 in
    let root_fits = IsBytes-after bytes (shape.space ∷ []) a.0 first fits in
    let root = root_takes shape.scatter shape.root_kinds a.0 r.0.0 r.0.1 root_fits r.1 in
    let t = bind_ok (byte_at shape.table r.0.1) (λ table. values_at shape.rest_kinds table >>= λ b. Ok (r.0.0 ++ b.0, b.1)) (vs, rest) r.2 in
    let table = byte_takes shape.table r.0.1 t.0 t.1 in
    let table_fits = IsBytes-after a.0 (scatter_of shape.scatter r.0.0 ++ spell_all r.0.0) r.0.1 root.spelled root_fits in
    let b = bind_ok (values_at shape.rest_kinds t.0) (λ b. Ok (r.0.0 ++ b.0, b.1)) (vs, rest) t.2 in
    let others = values_take shape.rest_kinds t.0 b.0.0 b.0.1 (IsBytes-after r.0.1 (shape.table ∷ []) t.0 table table_fits) b.1 in
    let parts = ok_parts b.2 in
    let long = stand_length shape.root_kinds r.0.0 root.stand in
    let front = take_at r.0.0 b.0.0 (length shape.root_kinds) long in
    let back = drop_at r.0.0 b.0.0 (length shape.root_kinds) long in
    let root_bytes = scatter_of shape.scatter r.0.0 ++ spell_all r.0.0 in
    rw (← parts.0) (record {
      spelled =
          first ∙ ap (λ x. shape.space ∷ x) (root.spelled ∙ ap (λ x. root_bytes ++ x) (table ∙ ap (λ x. shape.table ∷ x) (others.spelled ∙ ap (λ x. spell_all b.0.0 ++ x) parts.1)))
          ∙ sym (ap (λ x. shape.space ∷ x) (append_assoc root_bytes (shape.table ∷ spell_all b.0.0) rest))
          ∙ sym (λ i. head_bytes shape.space shape.scatter (front i) ++ (shape.table ∷ spell_all (back i)) ++ rest);
      stand = stand_join shape.root_kinds shape.rest_kinds r.0.0 b.0.0 root.stand others.stand;
    })

whole_key : (shape : Shape) (bytes : List ℕ) (vs : List Value) → IsBytes bytes → key_at shape bytes ≡ Ok vs → TakesKey shape bytes vs []
unfolding key_at
whole_key shape bytes vs fits h =
    let k = bind_ok (key_front_at shape bytes) (λ key. cond (eqb (length key.1) 0) (Ok key.0) (Err (length key.1))) vs h in
    let e = end_of (eqb (length k.0.1) 0) (length k.0.1) k.0.0 vs refl k.2 in
    let none : k.0.1 ≡ [] = nothing k.0.1 e.0 in
    let key = key_front_takes shape bytes k.0.0 k.0.1 fits k.1 in
    rw (← e.1) (record { spelled = key.spelled ∙ ap (λ x. row_bytes shape k.0.0 ++ x) none; stand = key.stand })
  where
    end_of : (t : Bool) (n : ℕ) (ws us : List Value) → eqb n 0 ≡ t → cond {A = Result (List Value) ℕ} t (Ok ws) (Err n) ≡ Ok us → (n ≡ 0) × (ws ≡ us)
    end_of true n ws us e g = (eqb-true n 0 e, cc)
    end_of false n ws us e g = absurd (cc)

    nothing : (l : List ℕ) → length l ≡ 0 → l ≡ []
    nothing [] e = refl
    nothing (x ∷ l) e = absurd (omega (arith, e))

pub read_found : (shape : Shape) (bytes : List ℕ) (vs : List Value) → IsBytes bytes → read_key_of shape bytes ≡ Ok vs → IsKey shape bytes vs
read_found shape bytes vs fits h =
    let a = answer_ok bytes (key_at shape (take 1024 bytes)) vs h in
    let all : take 1024 bytes ≡ bytes = take_all 1024 bytes a.1 in
    let key = whole_key shape bytes vs fits (ap (key_at shape) (sym all) ∙ a.0) in
    record { stand = key.stand; spelled = key.spelled ∙ append-nil (row_bytes shape vs); short = a.1 }
  where
    answer_ok : (bytes : List ℕ) (r : Result (List Value) ℕ) (vs : List Value) → answer_of bytes r ≡ Ok vs → (r ≡ Ok vs) × (length bytes ≤ 1024)
    answer_ok bytes (Ok ws) vs h = by (ltb 1024 (length bytes)) refl h
      where
        by : (t : Bool) → ltb 1024 (length bytes) ≡ t → cond {A = Result (List Value) KeyFault} t (Err (NotKey 1024)) (Ok ws) ≡ Ok vs → (◌≡◌ {A = Result (List Value) ℕ} (Ok ws) (Ok vs)) × (length bytes ≤ 1024)
        by true e g = absurd (cc)
        by false e g = (let same : ws ≡ vs = cc in ap Ok same, ltb-false 1024 (length bytes) e)
    answer_ok bytes (Err n) vs h = absurd (cc)

pub read_only : (shape : Shape) (bytes : List ℕ) (vs : List Value) → IsKey shape bytes vs → read_key_of shape bytes ≡ Ok vs
unfolding key_at
read_only shape bytes vs is =
    let all : take 1024 bytes ≡ bytes = take_all 1024 bytes is.short in
    let read : key_front_at shape bytes ≡ Ok (vs, []) = ap (key_front_at shape) (is.spelled ∙ sym (append-nil (row_bytes shape vs))) ∙ key_front_again shape vs [] is.stand in
    ap (λ x. answer_of bytes (key_at shape x)) all
    ∙ ap (λ (r : Read (List Value)). answer_of bytes (r >>= λ key. cond (eqb (length key.1) 0) (Ok key.0) (Err (length key.1)))) read
    ∙ ap (λ t. cond t (Err (NotKey 1024)) (Ok vs)) (le-ltb 1024 (length bytes) is.short)

-- a key is no front of another, and two rows have two keys
pub keys_apart : (shape : Shape) (vs ws : List Value) (more : List ℕ) → StandIn (key_kinds shape) vs → StandIn (key_kinds shape) ws → row_bytes shape ws ≡ row_bytes shape vs ++ more → (ws ≡ vs) × (more ≡ [])
keys_apart shape vs ws more h g e =
    let same = ok_parts (sym (key_front_again shape ws [] g) ∙ ap (key_front_at shape) (append-nil (row_bytes shape ws) ∙ e) ∙ key_front_again shape vs more h) in
    (same.0, sym same.1)

scatter_long : (s : Bool) (v w : List Value) → length (scatter_of s v) ≡ length (scatter_of s w)
unfolding scattered
scatter_long true v w = refl
scatter_long false v w = refl

pub keys_ordered : (shape : Shape) (vs ws : List Value) → StandIn (key_kinds shape) vs → StandIn (key_kinds shape) ws → slice_cmp nat_cmp (row_bytes shape vs) (row_bytes shape ws) ≡ ordering_then (slice_cmp nat_cmp (scatter_of shape.scatter (root_part shape vs)) (scatter_of shape.scatter (root_part shape ws))) (values_cmp vs ws)
keys_ordered shape vs ws h g =
    let n = length shape.root_kinds in
    let v = root_part shape vs in
    let w = root_part shape ws in
    let marks = orders_long (scatter_of shape.scatter v) (scatter_of shape.scatter w) (scatter_long shape.scatter v w) in
    let roots = orders_values shape.root_kinds v w (stand_front shape.root_kinds shape.rest_kinds vs h) (stand_front shape.root_kinds shape.rest_kinds ws g) in
    let rests = orders_values shape.rest_kinds (rest_part shape vs) (rest_part shape ws) (stand_back shape.root_kinds shape.rest_kinds vs h) (stand_back shape.root_kinds shape.rest_kinds ws g) in
    let sv = scatter_of shape.scatter v in
    let sw = scatter_of shape.scatter w in
    let tv = spell_all (rest_part shape vs) in
    let tw = spell_all (rest_part shape ws) in
    let s = slice_cmp nat_cmp sv sw in
    let r = values_cmp v w in
    let t = values_cmp (rest_part shape vs) (rest_part shape ws) in
    let tails = orders_then (nat_cmp shape.table shape.table) t (shape.table ∷ []) (shape.table ∷ []) tv tw (orders_byte shape.table shape.table) rests in
    let roots_marked = orders_then s r sv sw (spell_all v) (spell_all w) marks roots in
    let heads = orders_then (nat_cmp shape.space shape.space) (ordering_then s r) (shape.space ∷ []) (shape.space ∷ []) (sv ++ spell_all v) (sw ++ spell_all w) (orders_byte shape.space shape.space) roots_marked in
    let whole = orders_then (ordering_then (nat_cmp shape.space shape.space) (ordering_then s r)) (ordering_then (nat_cmp shape.table shape.table) t) (shape.space ∷ (sv ++ spell_all v)) (shape.space ∷ (sw ++ spell_all w)) (shape.table ∷ tv) (shape.table ∷ tw) heads tails [] [] in
    sym (λ i. slice_cmp nat_cmp (append-nil (row_bytes shape vs) i) (append-nil (row_bytes shape ws) i)) ∙ whole
    ∙ joined (nat_cmp shape.space shape.space) (nat_cmp shape.table shape.table) s r t (same_cmp shape.space) (same_cmp shape.table)
    ∙ ap (ordering_then s) (sym (cmp_split n vs ws))
  where
    same_cmp : (k : ℕ) → nat_cmp k k ≡ Equal
    same_cmp k = sym (nat_cmp_is k k Equal refl)

    joined : (a b s r t : Ordering) → a ≡ Equal → b ≡ Equal → ordering_then (ordering_then (ordering_then a (ordering_then s r)) (ordering_then b t)) Equal ≡ ordering_then s (ordering_then r t)
    joined a b s r t e f = rw (e, f) (by s r t)
      where
        by : (s r t : Ordering) → ordering_then (ordering_then (ordering_then s r) t) Equal ≡ ordering_then s (ordering_then r t)
        by Less r t = refl
        by Greater r t = refl
        by Equal Less t = refl
        by Equal Greater t = refl
        by Equal Equal Less = refl
        by Equal Equal Equal = refl
        by Equal Equal Greater = refl

    cmp_split : (n : ℕ) (vs ws : List Value) → values_cmp vs ws ≡ ordering_then (values_cmp (take n vs) (take n ws)) (values_cmp (drop n vs) (drop n ws))
    cmp_split zero vs ws = refl
    cmp_split (suc n) [] [] = refl
    cmp_split (suc n) [] (w ∷ ws) = refl
    cmp_split (suc n) (v ∷ vs) [] = refl
    cmp_split (suc n) (v ∷ vs) (w ∷ ws) = ap (ordering_then (value_cmp v w)) (cmp_split n vs ws) ∙ then_assoc (value_cmp v w) _ _

-- values without a fault stand in their places
placed_stand : (ks : List Kind) (vs : List Value) (i : ℕ) → AreValues vs → misplaced ks vs i ≡ None → length ks ≤ length vs → StandIn ks vs
placed_stand [] [] i h e le = tt
placed_stand [] (v ∷ vs) i h e le = absurd (cc)
placed_stand (k ∷ ks) [] i h e le = absurd (omega (arith, le))
placed_stand (k ∷ ks) (v ∷ vs) i h e le = by (has_kind k v) refl (λ g. placed_stand ks vs (i + 1) h.1 g (omega (arith, le))) e
  where
    by : (t : Bool) → has_kind k v ≡ t → (misplaced ks vs (i + 1) ≡ None → StandIn ks vs) → cond t (misplaced ks vs (i + 1)) (Some i) ≡ None → StandIn (k ∷ ks) (v ∷ vs)
    by true is more g = (is, h.0, more g)
    by false is more g = absurd (cc)

pub key_read_back : (shape : Shape) (vs : List Value) (key : List ℕ) → AreValues vs → row_key_of shape vs ≡ Ok key → IsKey shape key vs
key_read_back shape vs key h e = by (misplaced (key_kinds shape) vs 0) refl e
  where
    limit : (key : List ℕ) → limited (row_bytes shape vs) ≡ Ok key → (key ≡ row_bytes shape vs) × (length key ≤ 1024)
    limit key e = by (ltb 1024 (length (row_bytes shape vs))) refl e
      where
        by : (t : Bool) → ltb 1024 (length (row_bytes shape vs)) ≡ t → cond {A = Result (List ℕ) KeyFault} t (Err (TooLong (length (row_bytes shape vs)))) (Ok (row_bytes shape vs)) ≡ Ok key → (key ≡ row_bytes shape vs) × (length key ≤ 1024)
        by true is g = absurd (cc)
        by false is g = let same : row_bytes shape vs ≡ key = cc in (sym same, omega (arith, ap length same, ltb-false 1024 (length (row_bytes shape vs)) is))

    counted : (t : Bool) → ltb (length vs) (length (key_kinds shape)) ≡ t → misplaced (key_kinds shape) vs 0 ≡ None → unless_fault (cond t (Err (Missing (length vs))) (Ok tt)) (row_bytes shape vs) ≡ Ok key → IsKey shape key vs
    counted true is none g = absurd (cc)
    counted false is none g =
        let l = limit key g in
        record { stand = placed_stand (key_kinds shape) vs 0 h none (ltb-false _ _ is); spelled = l.0; short = l.1 }

    by : (m : Option ℕ) → misplaced (key_kinds shape) vs 0 ≡ m → unless_fault (fault_or_missing m (length vs) (length (key_kinds shape))) (row_bytes shape vs) ≡ Ok key → IsKey shape key vs
    by (Some i) is g = absurd (cc)
    by None is g = counted (ltb (length vs) (length (key_kinds shape))) refl is g

-- The readers of the grammar are lawful, so what a refusal is about is decided where it stands.
use Rattle.std.proofs.Common.{◌≡◌, ℕ, zero, suc, ◌+◌, ◌<◌, ◌≤◌, inl, inr, Bool, true, false, ◌||◌, cond, List, [], ◌∷◌, ◌++◌, length, drop, refl, sym, ap, ◌∙◌, subst, arith, append_assoc, length-append, Option, Some, None, Ok, Err}
use Rattle.std.specs.Prelude.{codes}
use Rattle.std.specs.List.{list_any}
use Rattle.mega_syntax.specs.declared.need.Need.{Need}
use Rattle.mega_syntax.specs.declared.need.Need.TheVariants.{Required, Optional, Repeated}
use Rattle.mega_syntax.specs.declared.words.PropertyWords.{PropertyWords}
use Rattle.mega_syntax.specs.declared.words.Clause.{Clause}
use Rattle.mega_syntax.specs.declared.words.Clause.TheVariants.{Root, Scatter, Inside, Group}
use Rattle.mega_syntax.specs.declared.words.Statement.{Statement}
use Rattle.mega_syntax.specs.declared.words.Statement.TheVariants.{Table, Index, Change}
use Rattle.mega_syntax.specs.declared.words.Placed.{Placed}
use Rattle.mega_syntax.specs.declared.words.SchemaWords.{SchemaWords}
use Rattle.mega_syntax.specs.Names.{same}
use Rattle.mega_syntax.specs.Reading.{Texts, Read, ◌>>=◌, go_on, items_at, all_items_at, is_next, word_at, name_at, refused_if, comma_at, name_step, names_at, need_at, property_at, some_of, property_step, properties_at, is_root, is_scatter, is_inside, is_group, group_at, inside_at, entity_at, clause_at, clause_step, table_at, storing_at, index_at, change_at, by, created_at, statement_at, placed_step, schema_at}
use Rattle.mega_syntax.specs.Grammar.{FitsName, spell_name, FitsProperty, spell_property, FitsClause, spell_clause_item}
use Rattle.mega_syntax.specs.Refusal.{Because, IsRefusedAt}
use Rattle.mega_syntax.proofs.Items.{StepTakes, bind_ok, ok_parts, items_enough}
use Rattle.mega_syntax.proofs.Takes.{word_taken, next_is, name_step_takes, property_step_takes, clause_step_takes, placed_step_takes}
use Rattle.mega_syntax.proofs.Again.{placed_made, placed_on, schema_again}
use Rattle.mega_syntax.proofs.Lawful.{Fails, fails_by, fails_on, bind_err, SameHead, Halts, Again, Lawful, Branch, front_head, same_behind, because_behind, halts_first, halts_behind, never_zero, left_is, pure_lawful, bind_lawful, next_lawful, drop_branch, refused_branch, refused_lawful, test_lawful, word_lawful, name_lawful}

-- ---- lists
module _ {A : Type 0} (step : List A → Texts → Read (Option A)) (Fit : List A → A → Texts → Type 0) (item : List A → A → Texts) (close : Texts) (law : StepTakes step Fit item close) (lawful : (done : List A) → Lawful (step done)) where
  record ItemsHalt (done : List A) (ts : Texts) (n : ℕ) : Type 0 where
    front : Texts
    back : Texts
    split : ts ≡ front ++ back
    some : 0 < length front
    fails : (m : ℕ) (tail : Texts) → Fails (items_at step m done (front ++ tail))
    because : Because front back n

  abbrev on : ℕ → List A → Option A × Texts → Read (List A)
  on n done x = go_on done (λ more us. items_at step n more us) x.0 x.1

  items_halt : (n : ℕ) (done : List A) (ts : Texts) (k : ℕ) → length ts < n → items_at step n done ts ≡ Err (suc k) → ItemsHalt done ts (suc k)
  unfolding items_at
  items_halt zero done ts k lt h = absurd (omega (arith, lt))
  items_halt (suc n) done ts k lt h = elim (bind_err (step done ts) (on n done) (suc k) h) [ inl e ↦ here ((lawful done).halts ts k e) | inr x ↦ later x.0.0 x.0.1 x.1 x.2 (λ a us less g. items_halt n (done ++ a ∷ []) us k less g) ]
    where
      here : Halts (step done) ts (suc k) → ItemsHalt done ts (suc k)
      here s = record { front = s.front; back = s.back; split = s.split; some = s.some; fails = stops; because = s.because }
        where
          stops : (m : ℕ) (tail : Texts) → Fails (items_at step m done (s.front ++ tail))
          stops zero tail = tt
          stops (suc m) tail = fails_on (step done (s.front ++ tail)) (on m done) (s.fails tail)

      later : (o : Option A) (us : Texts) → step done ts ≡ Ok (o, us) → on n done (o, us) ≡ Err (suc k) → ((a : A) (vs : Texts) → length vs < n → items_at step n (done ++ a ∷ []) vs ≡ Err (suc k) → ItemsHalt (done ++ a ∷ []) vs (suc k)) → ItemsHalt done ts (suc k)
      later None us e g ih = absurd (cc)
      later (Some a) us e g ih =
          let less = (law done ts (Some a) us e).2 in
          behind (ih a us (omega (arith, less, lt)) g) ((lawful done).reads ts (Some a) us e)
        where
          behind : ItemsHalt (done ++ a ∷ []) us (suc k) → Again (step done) ts (Some a) us → ItemsHalt done ts (suc k)
          behind s r = record {
            front = r.used ++ s.front;
            back = s.back;
            split = r.split ∙ ap (λ x. r.used ++ x) s.split ∙ sym (append_assoc r.used s.front s.back);
            some = omega (arith, s.some, length-append r.used s.front);
            fails = stops;
            because = because_behind r.used s.front s.back (suc k) s.because;
          }
            where
              stops : (m : ℕ) (tail : Texts) → Fails (items_at step m done ((r.used ++ s.front) ++ tail))
              stops zero tail = tt
              stops (suc m) tail =
                  fails_by (step done ((r.used ++ s.front) ++ tail) >>= on m done) (items_at step m (done ++ a ∷ []) (s.front ++ tail))
                  (ap (λ x. step done x >>= on m done) (append_assoc r.used s.front tail) ∙ ap (λ (x : Read (Option A)). x >>= on m done) (r.again (s.front ++ tail) (front_head s.front s.back us tail s.some s.split)))
                  (s.fails m tail)

  record ItemsAgain (n : ℕ) (done : List A) (ts : Texts) (xs : List A) (rest : Texts) : Type 0 where
    used : Texts
    split : ts ≡ used ++ rest
    again : (m : ℕ) → n ≤ m → (tail : Texts) → SameHead rest tail → items_at step m done (used ++ tail) ≡ Ok (xs, tail)

  items_read : (n : ℕ) (done : List A) (ts : Texts) (xs : List A) (rest : Texts) → items_at step n done ts ≡ Ok (xs, rest) → ItemsAgain n done ts xs rest
  unfolding items_at
  items_read zero done ts xs rest h = absurd (cc)
  items_read (suc n) done ts xs rest h =
      let s = bind_ok (step done ts) (on n done) (xs, rest) h in
      later s.0.0 s.0.1 s.1 s.2 (λ a us g. items_read n (done ++ a ∷ []) us xs rest g)
    where
      later : (o : Option A) (us : Texts) → step done ts ≡ Ok (o, us) → on n done (o, us) ≡ Ok (xs, rest) → ((a : A) (vs : Texts) → items_at step n (done ++ a ∷ []) vs ≡ Ok (xs, rest) → ItemsAgain n (done ++ a ∷ []) vs xs rest) → ItemsAgain (suc n) done ts xs rest
      later None us e g ih = ends (ok_parts done xs us rest g) ((lawful done).reads ts None us e)
        where
          ends : (done ≡ xs) × (us ≡ rest) → Again (step done) ts None us → ItemsAgain (suc n) done ts xs rest
          ends p r = record { used = r.used; split = r.split ∙ ap (λ x. r.used ++ x) p.1; again = reads }
            where
              reads : (m : ℕ) → suc n ≤ m → (tail : Texts) → SameHead rest tail → items_at step m done (r.used ++ tail) ≡ Ok (xs, tail)
              reads zero le tail head = absurd (omega (arith, le))
              reads (suc m) le tail head =
                  let Q : Texts → Type 0 = λ x. SameHead x tail in
                  ap (λ (x : Read (Option A)). x >>= on m done) (r.again tail (subst Q (sym p.1) head)) ∙ ap (λ (l : List A). Ok (l, tail)) p.0
      later (Some a) us e g ih = more (ih a us g) ((lawful done).reads ts (Some a) us e)
        where
          more : ItemsAgain n (done ++ a ∷ []) us xs rest → Again (step done) ts (Some a) us → ItemsAgain (suc n) done ts xs rest
          more s r = record { used = r.used ++ s.used; split = r.split ∙ ap (λ x. r.used ++ x) s.split ∙ sym (append_assoc r.used s.used rest); again = reads }
            where
              reads : (m : ℕ) → suc n ≤ m → (tail : Texts) → SameHead rest tail → items_at step m done ((r.used ++ s.used) ++ tail) ≡ Ok (xs, tail)
              reads zero le tail head = absurd (omega (arith, le))
              reads (suc m) le tail head =
                  let Q : Texts → Type 0 = λ x. SameHead x (s.used ++ tail) in
                  ap (λ x. step done x >>= on m done) (append_assoc r.used s.used tail) ∙ ap (λ (x : Read (Option A)). x >>= on m done) (r.again (s.used ++ tail) (subst Q (sym s.split) (same_behind s.used rest tail head)))
                  ∙ s.again m (omega (arith, le)) tail head

  items_lawful : Lawful (all_items_at step)
  items_lawful = record { halts = stops; reads = read }
    where
      stops : (ts : Texts) (n : ℕ) → all_items_at step ts ≡ Err (suc n) → Halts (all_items_at step) ts (suc n)
      stops ts n h =
          let enough : length ts < suc (length ts) = omega arith in
          let s = items_halt (suc (length ts)) [] ts n enough h in
          record { front = s.front; back = s.back; split = s.split; some = s.some; fails = λ tail. s.fails (suc (length (s.front ++ tail))) tail; because = s.because }

      read : (ts : Texts) (xs : List A) (rest : Texts) → all_items_at step ts ≡ Ok (xs, rest) → Again (all_items_at step) ts xs rest
      read ts xs rest h =
          let s = items_read (suc (length ts)) [] ts xs rest h in
          record { used = s.used; split = s.split; again = λ tail head. more (s.used ++ tail) (λ m le. s.again m le tail head) }
        where
          more : {tail : Texts} (us : Texts) → ((m : ℕ) → suc (length ts) ≤ m → items_at step m [] us ≡ Ok (xs, tail)) → all_items_at step us ≡ Ok (xs, tail)
          more us again =
              let m = suc (length us) + suc (length ts) in
              let one : length us < suc (length us) = omega arith in
              let two : length us < m = omega arith in
              let three : suc (length ts) ≤ m = omega arith in
              items_enough step Fit item close law (suc (length us)) m [] us one two ∙ again m three

comma_lawful : (done : List (List ℕ)) → Lawful (comma_at done)
comma_lawful [] = pure_lawful tt
comma_lawful (n ∷ ns) = word_lawful (codes ",")

some_lawful : {A : Type 0} (r : Texts → Read A) → Lawful r → Lawful (λ ts. some_of (r ts))
some_lawful r law = bind_lawful r (λ x. Ok (Some x.0, x.1)) law (λ x. pure_lawful (Some x))

by_lawful : {A B : Type 0} (make : A → B) (r : Texts → Read A) → Lawful r → Lawful (λ ts. by make (r ts))
by_lawful make r law = bind_lawful r (λ x. Ok (make x.0, x.1)) law (λ x. pure_lawful (make x))

none_branch : {A : Type 0} (w : List ℕ) → Branch {A = Option A} w (λ ts. Ok (None, drop 1 ts))
none_branch {A} w = drop_branch w (λ ts. Ok (None, ts)) (pure_lawful None)

name_step_lawful : (done : List (List ℕ)) → Lawful (name_step done)
unfolding name_step
name_step_lawful done =
    next_lawful (codes ")") (λ ts. Ok (None, drop 1 ts)) (λ ts. comma_at done ts >>= λ comma. name_at comma.1 >>= λ name. Ok (Some name.0, name.1)) (none_branch (codes ")"))
    (bind_lawful (comma_at done) (λ comma. name_at comma.1 >>= λ name. Ok (Some name.0, name.1)) (comma_lawful done) (λ u. bind_lawful name_at (λ name. Ok (Some name.0, name.1)) name_lawful (λ name. pure_lawful (Some name))))

names_lawful : Lawful names_at
unfolding names_at
names_lawful = bind_lawful (word_at (codes "(")) (λ open_. all_items_at name_step open_.1) (word_lawful (codes "(")) (λ u. items_lawful name_step FitsName spell_name (codes ")" ∷ []) name_step_takes name_step_lawful)

need_lawful : Lawful need_at
unfolding need_at
need_lawful = test_lawful (λ t. same t (codes "required") || (same t (codes "optional") || same t (codes "repeated"))) (λ t. cond (same t (codes "required")) Required (cond (same t (codes "optional")) Optional Repeated)) need_at refl (λ t ts. one (same t (codes "required")) (same t (codes "optional")) (same t (codes "repeated")) ts)
  where
    one : (a b c : Bool) (ts : Texts) → cond {A = Read Need} a (Ok (Required, ts)) (cond b (Ok (Optional, ts)) (cond c (Ok (Repeated, ts)) (Err (suc (length ts))))) ≡ cond (a || (b || c)) (Ok (cond a Required (cond b Optional Repeated), ts)) (Err (suc (length ts)))
    one true b c ts = refl
    one false true c ts = refl
    one false false true ts = refl
    one false false false ts = refl

property_lawful : Lawful property_at
unfolding property_at
property_lawful =
    bind_lawful need_at _ need_lawful (λ need. bind_lawful name_at _ name_lawful (λ kind. bind_lawful name_at _ name_lawful (λ name. bind_lawful (word_at (codes ";")) _ (word_lawful (codes ";")) (λ u. pure_lawful (record { need = need; kind = kind; name = name })))))

property_step_lawful : (done : List PropertyWords) → Lawful (property_step done)
unfolding property_step
property_step_lawful done = next_lawful (codes "}") (λ ts. Ok (None, drop 1 ts)) (λ ts. some_of (property_at ts)) (none_branch (codes "}")) (some_lawful property_at property_lawful)

properties_lawful : Lawful properties_at
unfolding properties_at
properties_lawful = bind_lawful (word_at (codes "{")) (λ open_. all_items_at property_step open_.1) (word_lawful (codes "{")) (λ u. items_lawful property_step FitsProperty spell_property (codes "}" ∷ []) property_step_takes property_step_lawful)

inside_lawful : Lawful inside_at
unfolding inside_at
inside_lawful = bind_lawful (word_at (codes "TABLE")) _ (word_lawful (codes "TABLE")) (λ u. bind_lawful name_at _ name_lawful (λ name. pure_lawful (Inside name)))

group_lawful : Lawful group_at
unfolding group_at
group_lawful = bind_lawful names_at _ names_lawful (λ key. bind_lawful (word_at (codes "REFERENCES")) _ (word_lawful (codes "REFERENCES")) (λ u. bind_lawful name_at _ name_lawful (λ root. pure_lawful (Group key root))))

-- ---- clauses
refusable_branch : {A : Type 0} (w : List ℕ) (b : Bool) (r : Texts → Read A) → Lawful r → Branch w (λ ts. refused_if b (length ts) (r (drop 1 ts)))
refusable_branch w true r law = refused_branch w
refusable_branch w false r law = drop_branch w r law

abbrev entity_on : List Clause → ℕ → Unit {0} × Texts → Read Clause
entity_on done left group = entity_at done left group.1

-- behind ENTITY
abbrev behind_entity : List Clause → Texts → Read Clause
behind_entity done ts = word_at (codes "GROUP") (drop 1 ts) >>= entity_on done (length ts)

root_refused : (done : List Clause) (left : ℕ) (tail : Texts) → list_any is_root done ≡ true → entity_at done left (codes "ROOT" ∷ tail) ≡ Err left
unfolding entity_at
root_refused done left tail e = ap (λ b. refused_if {A = Clause} b left (Ok (Root, tail))) e

root_read : (done : List Clause) (left : ℕ) (tail : Texts) → list_any is_root done ≡ false → entity_at done left (codes "ROOT" ∷ tail) ≡ Ok (Root, tail)
unfolding entity_at
root_read done left tail e = ap (λ b. refused_if {A = Clause} b left (Ok (Root, tail))) e

key_refused : (done : List Clause) (left : ℕ) (tail : Texts) → list_any is_group done ≡ true → entity_at done left (codes "KEY" ∷ tail) ≡ Err left
unfolding entity_at
key_refused done left tail e = ap (λ b. refused_if {A = Clause} b left (group_at tail)) e

key_read : (done : List Clause) (left : ℕ) (tail : Texts) → list_any is_group done ≡ false → entity_at done left (codes "KEY" ∷ tail) ≡ group_at tail
unfolding entity_at
key_read done left tail e = ap (λ b. refused_if {A = Clause} b left (group_at tail)) e

other_refused : (done : List Clause) (left : ℕ) (t : List ℕ) (tail : Texts) → same t (codes "ROOT") ≡ false → same t (codes "KEY") ≡ false → entity_at done left (t ∷ tail) ≡ Err (suc (length tail))
unfolding entity_at
other_refused done left t tail e f = λ i. cond {A = Read Clause} (e i) (refused_if (list_any is_root done) left (Ok (Root, tail))) (cond (f i) (refused_if (list_any is_group done) left (group_at tail)) (Err (suc (length tail))))

-- ENTITY GROUP and a token that decides
entity_goes : (done : List Clause) (us : Texts) → behind_entity done (codes "ENTITY" ∷ codes "GROUP" ∷ us) ≡ entity_at done (suc (suc (length us))) us
unfolding word_at
entity_goes done us = refl

module _ (done : List Clause) where
  second_halts : (w : List ℕ) (us : Texts) (n : ℕ) → ((tail : Texts) → entity_at done (suc (suc (suc (length tail)))) (w ∷ tail) ≡ Err (suc (suc (suc (length tail))))) → suc (suc (suc (length us))) ≡ suc n → Halts (behind_entity done) (codes "ENTITY" ∷ codes "GROUP" ∷ w ∷ us) (suc n)
  second_halts w us n refused left = record {
    front = codes "ENTITY" ∷ codes "GROUP" ∷ w ∷ [];
    back = us;
    split = refl;
    some = omega arith;
    fails = λ tail. fails_by (behind_entity done (codes "ENTITY" ∷ codes "GROUP" ∷ w ∷ tail)) (Err (suc (suc (suc (length tail))))) (entity_goes done (w ∷ tail) ∙ refused tail) tt;
    because = inr (record { before = []; word = w; spelled = refl; place = omega (arith, left) });
  }

  entity_halts : (us : Texts) (n : ℕ) → entity_at done (suc (suc (length us))) us ≡ Err (suc n) → Halts (behind_entity done) (codes "ENTITY" ∷ codes "GROUP" ∷ us) (suc n)
  unfolding entity_at
  entity_halts [] n h = absurd (never_zero {A = Clause × Texts} n h)
  entity_halts (t ∷ us) n h = pick (same t (codes "ROOT")) (same t (codes "KEY")) (list_any is_root done) (list_any is_group done) refl refl refl refl h
    where
      pick : (a b r g : Bool) → same t (codes "ROOT") ≡ a → same t (codes "KEY") ≡ b → list_any is_root done ≡ r → list_any is_group done ≡ g
          → cond {A = Read Clause} a (refused_if r (suc (suc (suc (length us)))) (Ok (Root, us))) (cond b (refused_if g (suc (suc (suc (length us)))) (group_at us)) (Err (suc (length us)))) ≡ Err (suc n) → Halts (behind_entity done) (codes "ENTITY" ∷ codes "GROUP" ∷ t ∷ us) (suc n)
      pick true b true g ea eb er eg k =
          let is : t ∷ us ≡ codes "ROOT" ∷ us = next_is (codes "ROOT") (t ∷ us) ea in
          let P : Texts → Type 0 = λ x. Halts (behind_entity done) (codes "ENTITY" ∷ codes "GROUP" ∷ x) (suc n) in
          subst P (sym is) (second_halts (codes "ROOT") us n (λ tail. root_refused done (suc (suc (suc (length tail)))) tail er) (left_is {A = Clause × Texts} (suc (suc (suc (length us)))) (suc n) k))
      pick true b false g ea eb er eg k = absurd (cc)
      pick false true r true ea eb er eg k =
          let is : t ∷ us ≡ codes "KEY" ∷ us = next_is (codes "KEY") (t ∷ us) eb in
          let P : Texts → Type 0 = λ x. Halts (behind_entity done) (codes "ENTITY" ∷ codes "GROUP" ∷ x) (suc n) in
          subst P (sym is) (second_halts (codes "KEY") us n (λ tail. key_refused done (suc (suc (suc (length tail)))) tail eg) (left_is {A = Clause × Texts} (suc (suc (suc (length us)))) (suc n) k))
      pick false true r false ea eb er eg k =
          let is : t ∷ us ≡ codes "KEY" ∷ us = next_is (codes "KEY") (t ∷ us) eb in
          halts_behind (behind_entity done) group_at (codes "ENTITY" ∷ codes "GROUP" ∷ t ∷ us) (codes "ENTITY" ∷ codes "GROUP" ∷ codes "KEY" ∷ []) us (suc n) (ap (λ x. codes "ENTITY" ∷ codes "GROUP" ∷ x) is) (λ tail head. entity_goes done (codes "KEY" ∷ tail) ∙ key_read done (suc (suc (suc (length tail)))) tail eg) (group_lawful.halts us n k)
      pick false false r g ea eb er eg k =
          let left = left_is {A = Clause × Texts} (suc (length us)) (suc n) k in
          record {
            front = codes "ENTITY" ∷ codes "GROUP" ∷ t ∷ [];
            back = us;
            split = refl;
            some = omega arith;
            fails = λ tail. fails_by (behind_entity done (codes "ENTITY" ∷ codes "GROUP" ∷ t ∷ tail)) (Err (suc (length tail))) (entity_goes done (t ∷ tail) ∙ other_refused done (suc (suc (suc (length tail)))) t tail ea eb) tt;
            because = inl (sym left);
          }

  entity_reads : (us : Texts) (c : Clause) (rest : Texts) → entity_at done (suc (suc (length us))) us ≡ Ok (c, rest) → Again (behind_entity done) (codes "ENTITY" ∷ codes "GROUP" ∷ us) c rest
  unfolding entity_at
  entity_reads [] c rest h = absurd (cc)
  entity_reads (t ∷ us) c rest h = pick (same t (codes "ROOT")) (same t (codes "KEY")) (list_any is_root done) (list_any is_group done) refl refl refl refl h
    where
      pick : (a b r g : Bool) → same t (codes "ROOT") ≡ a → same t (codes "KEY") ≡ b → list_any is_root done ≡ r → list_any is_group done ≡ g
          → cond {A = Read Clause} a (refused_if r (suc (suc (suc (length us)))) (Ok (Root, us))) (cond b (refused_if g (suc (suc (suc (length us)))) (group_at us)) (Err (suc (length us)))) ≡ Ok (c, rest) → Again (behind_entity done) (codes "ENTITY" ∷ codes "GROUP" ∷ t ∷ us) c rest
      pick true b true g ea eb er eg k = absurd (cc)
      pick true b false g ea eb er eg k =
          let is : t ∷ us ≡ codes "ROOT" ∷ us = next_is (codes "ROOT") (t ∷ us) ea in
          let p = ok_parts Root c us rest k in
          record {
            used = codes "ENTITY" ∷ codes "GROUP" ∷ codes "ROOT" ∷ [];
            split = ap (λ x. codes "ENTITY" ∷ codes "GROUP" ∷ x) is ∙ ap (λ x. codes "ENTITY" ∷ codes "GROUP" ∷ codes "ROOT" ∷ x) p.1;
            again = λ tail head. entity_goes done (codes "ROOT" ∷ tail) ∙ root_read done (suc (suc (suc (length tail)))) tail er ∙ ap (λ x. Ok (x, tail)) p.0;
          }
      pick false true r true ea eb er eg k = absurd (cc)
      pick false true r false ea eb er eg k =
          let is : t ∷ us ≡ codes "KEY" ∷ us = next_is (codes "KEY") (t ∷ us) eb in
          let a = group_lawful.reads us c rest k in
          record {
            used = codes "ENTITY" ∷ codes "GROUP" ∷ codes "KEY" ∷ a.used;
            split = ap (λ x. codes "ENTITY" ∷ codes "GROUP" ∷ x) is ∙ ap (λ x. codes "ENTITY" ∷ codes "GROUP" ∷ codes "KEY" ∷ x) a.split;
            again = λ tail head. entity_goes done (codes "KEY" ∷ (a.used ++ tail)) ∙ key_read done (suc (suc (suc (length (a.used ++ tail))))) (a.used ++ tail) eg ∙ a.again tail head;
          }
      pick false false r g ea eb er eg k = absurd (cc)

  entity_branch : Branch (codes "ENTITY") (behind_entity done)
  entity_branch = record { halts = stops; reads = read }
    where
      stops : (us : Texts) (n : ℕ) → behind_entity done (codes "ENTITY" ∷ us) ≡ Err (suc n) → Halts (behind_entity done) (codes "ENTITY" ∷ us) (suc n)
      stops us n h = elim (bind_err (word_at (codes "GROUP") us) (entity_on done (suc (length us))) (suc n) h) [ inl e ↦ first ((word_lawful (codes "GROUP")).halts us n e) | inr x ↦ later x.0.1 (word_taken (codes "GROUP") us x.0.0 x.0.1 x.1) x.2 ]
        where
          first : Halts (word_at (codes "GROUP")) us (suc n) → Halts (behind_entity done) (codes "ENTITY" ∷ us) (suc n)
          first k = record {
            front = codes "ENTITY" ∷ k.front;
            back = k.back;
            split = ap (λ x. codes "ENTITY" ∷ x) k.split;
            some = omega arith;
            fails = λ tail. fails_on (word_at (codes "GROUP") (k.front ++ tail)) (entity_on done (suc (length (k.front ++ tail)))) (k.fails tail);
            because = because_behind (codes "ENTITY" ∷ []) k.front k.back (suc n) k.because;
          }

          later : (vs : Texts) → us ≡ codes "GROUP" ∷ vs → entity_at done (suc (length us)) vs ≡ Err (suc n) → Halts (behind_entity done) (codes "ENTITY" ∷ us) (suc n)
          later vs is g =
              let P : Texts → Type 0 = λ x. Halts (behind_entity done) (codes "ENTITY" ∷ x) (suc n) in
              subst P (sym is) (entity_halts vs n (ap (λ (x : Texts). entity_at done (suc (length x)) vs) (sym is) ∙ g))

      read : (us : Texts) (c : Clause) (rest : Texts) → behind_entity done (codes "ENTITY" ∷ us) ≡ Ok (c, rest) → Again (behind_entity done) (codes "ENTITY" ∷ us) c rest
      read us c rest h =
          let x = bind_ok (word_at (codes "GROUP") us) (entity_on done (suc (length us))) (c, rest) h in
          let is = word_taken (codes "GROUP") us x.0.0 x.0.1 x.1 in
          let P : Texts → Type 0 = λ u. Again (behind_entity done) (codes "ENTITY" ∷ u) c rest in
          subst P (sym is) (entity_reads x.0.1 c rest (ap (λ (u : Texts). entity_at done (suc (length u)) x.0.1) (sym is) ∙ x.2))

  clause_lawful : Lawful (clause_at done)
  unfolding clause_at
  clause_lawful =
      next_lawful (codes "ENTITY") (behind_entity done) (λ ts. cond (is_next (codes "IN") ts) (refused_if (list_any is_inside done) (length ts) (inside_at (drop 1 ts))) (cond (is_next (codes "SCATTER") ts) (refused_if (list_any is_scatter done) (length ts) (Ok (Scatter, drop 1 ts))) (Err (length ts)))) entity_branch
      (next_lawful (codes "IN") (λ ts. refused_if (list_any is_inside done) (length ts) (inside_at (drop 1 ts))) (λ ts. cond (is_next (codes "SCATTER") ts) (refused_if (list_any is_scatter done) (length ts) (Ok (Scatter, drop 1 ts))) (Err (length ts))) (refusable_branch (codes "IN") (list_any is_inside done) inside_at inside_lawful)
      (next_lawful (codes "SCATTER") (λ ts. refused_if (list_any is_scatter done) (length ts) (Ok (Scatter, drop 1 ts))) (λ ts. Err (length ts)) (refusable_branch (codes "SCATTER") (list_any is_scatter done) (λ ts. Ok (Scatter, ts)) (pure_lawful Scatter)) refused_lawful))

clause_step_lawful : (done : List Clause) → Lawful (clause_step done)
unfolding clause_step
clause_step_lawful done =
    next_lawful (codes ";") (λ ts. Ok (None, drop 1 ts)) (λ ts. word_at (codes ",") ts >>= λ comma. some_of (clause_at done comma.1)) (none_branch (codes ";"))
    (bind_lawful (word_at (codes ",")) (λ comma. some_of (clause_at done comma.1)) (word_lawful (codes ",")) (λ u. some_lawful (clause_at done) (clause_lawful done)))

-- ---- statements
table_lawful : Lawful table_at
unfolding table_at
table_lawful =
    bind_lawful name_at _ name_lawful (λ name. bind_lawful properties_at _ properties_lawful (λ properties. bind_lawful (word_at (codes "PRIMARY")) _ (word_lawful (codes "PRIMARY")) (λ p. bind_lawful (word_at (codes "KEY")) _ (word_lawful (codes "KEY")) (λ k. bind_lawful names_at _ names_lawful (λ names.
    bind_lawful (all_items_at clause_step) _ (items_lawful clause_step FitsClause spell_clause_item (codes ";" ∷ []) clause_step_takes clause_step_lawful) (λ clauses. pure_lawful (record { name = name; properties = properties; primary = names; clauses = clauses })))))))

storing_lawful : Lawful storing_at
unfolding storing_at
storing_lawful = next_lawful (codes "STORING") (λ ts. some_of (names_at (drop 1 ts))) (λ ts. Ok (None, ts)) (drop_branch (codes "STORING") (λ ts. some_of (names_at ts)) (some_lawful names_at names_lawful)) (pure_lawful None)

index_lawful : (global : Bool) → Lawful (index_at global)
unfolding index_at
index_lawful global =
    bind_lawful (word_at (codes "INDEX")) _ (word_lawful (codes "INDEX")) (λ i. bind_lawful name_at _ name_lawful (λ name. bind_lawful (word_at (codes "ON")) _ (word_lawful (codes "ON")) (λ o. bind_lawful name_at _ name_lawful (λ table. bind_lawful names_at _ names_lawful (λ indexed.
    bind_lawful storing_at _ storing_lawful (λ storing. bind_lawful (word_at (codes ";")) _ (word_lawful (codes ";")) (λ e. pure_lawful (record { name = name; global = global; table = table; indexed = indexed; storing = storing }))))))))

change_lawful : Lawful change_at
unfolding change_at
change_lawful =
    bind_lawful (word_at (codes "TABLE")) _ (word_lawful (codes "TABLE")) (λ t. bind_lawful name_at _ name_lawful (λ table. bind_lawful (word_at (codes "ADD")) _ (word_lawful (codes "ADD")) (λ a. bind_lawful properties_at _ properties_lawful (λ properties. bind_lawful (word_at (codes ";")) _ (word_lawful (codes ";")) (λ e. pure_lawful (record { table = table; properties = properties }))))))

created_lawful : Lawful created_at
unfolding created_at
created_lawful =
    next_lawful (codes "TABLE") (λ ts. by Table (table_at (drop 1 ts))) (λ ts. cond (is_next (codes "LOCAL") ts) (by Index (index_at false (drop 1 ts))) (cond (is_next (codes "GLOBAL") ts) (by Index (index_at true (drop 1 ts))) (Err (length ts)))) (drop_branch (codes "TABLE") (λ ts. by Table (table_at ts)) (by_lawful Table table_at table_lawful))
    (next_lawful (codes "LOCAL") (λ ts. by Index (index_at false (drop 1 ts))) (λ ts. cond (is_next (codes "GLOBAL") ts) (by Index (index_at true (drop 1 ts))) (Err (length ts))) (drop_branch (codes "LOCAL") (λ ts. by Index (index_at false ts)) (by_lawful Index (index_at false) (index_lawful false)))
    (next_lawful (codes "GLOBAL") (λ ts. by Index (index_at true (drop 1 ts))) (λ ts. Err (length ts)) (drop_branch (codes "GLOBAL") (λ ts. by Index (index_at true ts)) (by_lawful Index (index_at true) (index_lawful true))) refused_lawful))

statement_lawful : Lawful statement_at
unfolding statement_at
statement_lawful =
    next_lawful (codes "CREATE") (λ ts. created_at (drop 1 ts)) (λ ts. cond (is_next (codes "ALTER") ts) (by Change (change_at (drop 1 ts))) (Err (length ts))) (drop_branch (codes "CREATE") created_at created_lawful)
    (next_lawful (codes "ALTER") (λ ts. by Change (change_at (drop 1 ts))) (λ ts. Err (length ts)) (drop_branch (codes "ALTER") (λ ts. by Change (change_at ts)) (by_lawful Change change_at change_lawful)) refused_lawful)

-- statements tell how many tokens are left from them on, which the tokens behind them change
record PlacedHalt (ts : Texts) (n : ℕ) : Type 0 where
  front : Texts
  back : Texts
  split : ts ≡ front ++ back
  some : 0 < length front
  fails : (m : ℕ) (done : List Placed) (tail : Texts) → Fails (items_at placed_step m done (front ++ tail))
  because : Because front back n

abbrev placed_then : ℕ → List Placed → Option Placed × Texts → Read (List Placed)
placed_then m done x = go_on done (λ more us. items_at placed_step m more us) x.0 x.1

front_some : (front tail : Texts) → 0 < length front → 0 < length (front ++ tail)
front_some front tail some = omega (arith, some, length-append front tail)

placed_halt : (n : ℕ) (done : List Placed) (ts : Texts) (k : ℕ) → length ts < n → items_at placed_step n done ts ≡ Err (suc k) → PlacedHalt ts (suc k)
unfolding items_at placed_step
placed_halt zero done ts k lt h = absurd (omega (arith, lt))
placed_halt (suc n) done [] k lt h = absurd (cc)
placed_halt (suc n) done (t ∷ ts) k lt h = elim (bind_err (placed_step done (t ∷ ts)) (placed_then n done) (suc k) h) [ inl e ↦ unread e | inr x ↦ later x.0.0 x.0.1 x.1 x.2 (λ more us less g. placed_halt n more us k less g) ]
  where
    here : Halts statement_at (t ∷ ts) (suc k) → PlacedHalt (t ∷ ts) (suc k)
    here s = record { front = s.front; back = s.back; split = s.split; some = s.some; fails = stops; because = s.because }
      where
        stops : (m : ℕ) (more : List Placed) (tail : Texts) → Fails (items_at placed_step m more (s.front ++ tail))
        stops zero more tail = tt
        stops (suc m) more tail =
            let us = s.front ++ tail in
            fails_by (placed_step more us >>= placed_then m more) ((statement_at us >>= placed_made (length us)) >>= placed_then m more) (ap (λ (x : Read (Option Placed)). x >>= placed_then m more) (placed_on more us (front_some s.front tail s.some)))
            (fails_on (statement_at us >>= placed_made (length us)) (placed_then m more) (fails_on (statement_at us) (placed_made (length us)) (s.fails tail)))

    unread : placed_step done (t ∷ ts) ≡ Err (suc k) → PlacedHalt (t ∷ ts) (suc k)
    unread e = elim (bind_err (statement_at (t ∷ ts)) (placed_made (suc (length ts))) (suc k) e) [ inl f ↦ here (statement_lawful.halts (t ∷ ts) k f) | inr x ↦ absurd (let no = x.2 in cc) ]

    later : (o : Option Placed) (us : Texts) → placed_step done (t ∷ ts) ≡ Ok (o, us) → placed_then n done (o, us) ≡ Err (suc k) → ((more : List Placed) (vs : Texts) → length vs < n → items_at placed_step n more vs ≡ Err (suc k) → PlacedHalt vs (suc k)) → PlacedHalt (t ∷ ts) (suc k)
    later None us e g ih = absurd (cc)
    later (Some p) us e g ih =
        let less = (placed_step_takes done (t ∷ ts) (Some p) us e).2 in
        let s = bind_ok (statement_at (t ∷ ts)) (placed_made (suc (length ts))) (Some p, us) e in
        let parts = ok_parts (Some (record { left = suc (length ts); statement = s.0.0 })) (Some p) s.0.1 us s.2 in
        behind (ih (done ++ p ∷ []) us (omega (arith, less, lt)) g) (statement_lawful.reads (t ∷ ts) s.0.0 us (s.1 ∙ ap (λ x. Ok (s.0.0, x)) parts.1))
      where
        behind : {x : Statement} → PlacedHalt us (suc k) → Again statement_at (t ∷ ts) x us → PlacedHalt (t ∷ ts) (suc k)
        behind {x} s r = record {
          front = r.used ++ s.front;
          back = s.back;
          split = r.split ∙ ap (λ v. r.used ++ v) s.split ∙ sym (append_assoc r.used s.front s.back);
          some = omega (arith, s.some, length-append r.used s.front);
          fails = stops;
          because = because_behind r.used s.front s.back (suc k) s.because;
        }
          where
            stops : (m : ℕ) (more : List Placed) (tail : Texts) → Fails (items_at placed_step m more ((r.used ++ s.front) ++ tail))
            stops zero more tail = tt
            stops (suc m) more tail =
                let vs = r.used ++ (s.front ++ tail) in
                let some : 0 < length vs = omega (arith, s.some, length-append r.used (s.front ++ tail), length-append s.front tail) in
                let placed : Placed = record { left = length vs; statement = x } in
                fails_by (placed_step more ((r.used ++ s.front) ++ tail) >>= placed_then m more) (items_at placed_step m (more ++ placed ∷ []) (s.front ++ tail))
                (ap (λ u. placed_step more u >>= placed_then m more) (append_assoc r.used s.front tail) ∙ ap (λ (o : Read (Option Placed)). o >>= placed_then m more) (placed_on more vs some)
                ∙ ap (λ (o : Read Statement). (o >>= placed_made (length vs)) >>= placed_then m more) (r.again (s.front ++ tail) (front_head s.front s.back us tail s.some s.split)))
                (s.fails m (more ++ placed ∷ []) tail)

statements_halt : (ts : Texts) (n : ℕ) → all_items_at placed_step ts ≡ Err (suc n) → Halts (all_items_at placed_step) ts (suc n)
statements_halt ts n h =
    let enough : length ts < suc (length ts) = omega arith in
    let s = placed_halt (suc (length ts)) [] ts n enough h in
    record { front = s.front; back = s.back; split = s.split; some = s.some; fails = λ tail. s.fails (suc (length (s.front ++ tail))) [] tail; because = s.because }

-- ---- a whole text
bind_halts : {A B : Type 0} (r : Texts → Read A) (f : A × Texts → Read B) → Lawful r → ((x : A) (us : Texts) (n : ℕ) → f (x, us) ≡ Err (suc n) → Halts (λ t. f (x, t)) us (suc n)) → (ts : Texts) (n : ℕ) → (r ts >>= f) ≡ Err (suc n) → Halts (λ t. r t >>= f) ts (suc n)
bind_halts {A} r f first later ts n h = elim (bind_err (r ts) f (suc n) h) [
  | inl e ↦ halts_first r f ts (suc n) (first.halts ts n e)
  | inr x ↦
      (let a = first.reads ts x.0.0 x.0.1 x.1 in
      halts_behind (λ t. r t >>= f) (λ us. f (x.0.0, us)) ts a.used x.0.1 (suc n) a.split (λ tail same. ap (λ (o : Read A). o >>= f) (a.again tail same)) (later x.0.0 x.0.1 n x.2))
]

abbrev named_words : List ℕ → List Placed × Texts → Read SchemaWords
named_words name statements = Ok (record { name = name; statements = statements.0 }, statements.1)

words_halt : (name : List ℕ) (ts : Texts) (n : ℕ) → (all_items_at placed_step ts >>= named_words name) ≡ Err (suc n) → Halts (λ t. all_items_at placed_step t >>= named_words name) ts (suc n)
words_halt name ts n h = elim (bind_err (all_items_at placed_step ts) (named_words name) (suc n) h) [ inl e ↦ halts_first (all_items_at placed_step) (named_words name) ts (suc n) (statements_halt ts n e) | inr x ↦ absurd (let no = x.2 in cc) ]

schema_halts : (ts : Texts) (n : ℕ) → schema_at ts ≡ Err (suc n) → Halts schema_at ts (suc n)
unfolding schema_at
schema_halts ts n h =
    bind_halts (word_at (codes "CREATE")) _ (word_lawful (codes "CREATE")) (λ c us m g. bind_halts (word_at (codes "SCHEMA")) _ (word_lawful (codes "SCHEMA")) (λ s vs l i. bind_halts name_at _ name_lawful (λ name ws q j. bind_halts (word_at (codes ";")) _ (word_lawful (codes ";")) (λ e xs o k. words_halt name xs o k) ws q j) vs l i) us m g) ts n h

pub refused : (ts : Texts) (left : ℕ) → schema_at ts ≡ Err (suc left) → IsRefusedAt ts (suc left)
refused ts left h =
    let halts = schema_halts ts left h in
    record {
      front = halts.front;
      back = halts.back;
      split = halts.split;
      never = λ words tail spells. (let P : Read SchemaWords → Type 0 = λ r. Fails r in subst P (schema_again (halts.front ++ tail) words spells) (halts.fails tail));
      because = halts.because;
    }

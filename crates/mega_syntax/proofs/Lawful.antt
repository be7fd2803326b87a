-- Readers of tokens that look no further than the token that they refuse, or the one behind what they read.
use Rattle.std.proofs.Common.{◌≡◌, ℕ, suc, ◌<◌, ◌⊎◌, inl, inr, Bool, true, false, cond, List, [], ◌∷◌, ◌++◌, length, drop, refl, sym, ap, ◌∙◌, subst, arith, append_assoc, length-append, Result, Ok, Err}
use Rattle.mega_syntax.specs.Names.{is_name, same}
use Rattle.mega_syntax.specs.Reading.{Texts, Read, ◌>>=◌, is_next, word_at, name_at}
use Rattle.mega_syntax.specs.Refusal.{Because}
use Rattle.mega_syntax.proofs.Takes.{next_is}

abbrev pub Fails : {A : Type 0} → Result A ℕ → Type 0
Fails (Ok x) = ⊥
Fails (Err n) = Unit {0}

pub fails_by : {A : Type 0} (r s : Result A ℕ) → r ≡ s → Fails s → Fails r
fails_by {A} r s e h = let P : Result A ℕ → Type 0 = λ x. Fails x in subst P (sym e) h

pub fails_on : {A B : Type 0} (r : Result A ℕ) (f : A → Result B ℕ) → Fails r → Fails (r >>= f)
fails_on (Ok x) f h = absurd h
fails_on (Err n) f h = tt

pub bind_err : {A B : Type 0} (r : Result A ℕ) (f : A → Result B ℕ) (n : ℕ) → (r >>= f) ≡ Err n → (r ≡ Err n) ⊎ ((x : A) × (r ≡ Ok x) × (f x ≡ Err n))
bind_err (Ok x) f n h = inr (x, refl, h)
bind_err (Err m) f n h = inl (let e : m ≡ n = cc in ap (λ k. Err k) e)

-- both have a first token, and it is the same
abbrev pub SameHead : Texts → Texts → Type 0
SameHead [] us = ⊥
SameHead (t ∷ ts) [] = ⊥
SameHead (t ∷ ts) (u ∷ us) = t ≡ u

pub same_behind : (used a b : Texts) → SameHead a b → SameHead (used ++ a) (used ++ b)
same_behind [] a b h = h
same_behind (u ∷ used) a b h = refl

pub same_next : (w : List ℕ) (a b : Texts) → SameHead a b → is_next w b ≡ is_next w a
same_next w [] b h = absurd h
same_next w (t ∷ ts) [] h = absurd h
same_next w (t ∷ ts) (u ∷ us) h = ap (λ x. same x w) (sym h)

-- reading stops with so many tokens left from the one that cannot stand
pub record Halts {A : Type 0} (r : Texts → Result A ℕ) (ts : Texts) (n : ℕ) : Type 0 where
  pub front : Texts
  pub back : Texts
  pub split : ts ≡ front ++ back
  pub some : 0 < length front
  pub fails : (tail : Texts) → Fails (r (front ++ tail))
  pub because : Because front back n

-- what was read is read again where the token behind it is the same
pub record Again {A : Type 0} (r : Texts → Read A) (ts : Texts) (x : A) (rest : Texts) : Type 0 where
  pub used : Texts
  pub split : ts ≡ used ++ rest
  pub again : (tail : Texts) → SameHead rest tail → r (used ++ tail) ≡ Ok (x, tail)

pub record Lawful {A : Type 0} (r : Texts → Read A) : Type 0 where
  pub halts : (ts : Texts) (n : ℕ) → r ts ≡ Err (suc n) → Halts r ts (suc n)
  pub reads : (ts : Texts) (x : A) (rest : Texts) → r ts ≡ Ok (x, rest) → Again r ts x rest

pub front_head : (front back ts tail : Texts) → 0 < length front → ts ≡ front ++ back → SameHead ts (front ++ tail)
front_head [] back ts tail some e = absurd (omega (arith, some))
front_head (t ∷ front) back ts tail some e = let P : Texts → Type 0 = λ x. SameHead x ((t ∷ front) ++ tail) in subst P (sym e) refl

pub because_behind : (used front back : Texts) (n : ℕ) → Because front back n → Because (used ++ front) back n
because_behind used front back n (inl e) = inl e
because_behind used front back n (inr t) = inr (record { before = used ++ t.before; word = t.word; spelled = ap (λ x. used ++ x) t.spelled ∙ sym (append_assoc used t.before _); place = t.place })

pub halts_first : {A B : Type 0} (r : Texts → Result A ℕ) (f : A → Result B ℕ) (ts : Texts) (n : ℕ) → Halts r ts n → Halts (λ t. r t >>= f) ts n
halts_first r f ts n h = record { front = h.front; back = h.back; split = h.split; some = h.some; fails = λ tail. fails_on (r (h.front ++ tail)) f (h.fails tail); because = h.because }

-- it stops behind what was read
pub halts_behind : {B : Type 0} (s g : Texts → Result B ℕ) (ts used rest : Texts) (n : ℕ) → ts ≡ used ++ rest → ((tail : Texts) → SameHead rest tail → s (used ++ tail) ≡ g tail) → Halts g rest n → Halts s ts n
halts_behind s g ts used rest n e same h = record {
  front = used ++ h.front;
  back = h.back;
  split = e ∙ ap (λ x. used ++ x) h.split ∙ sym (append_assoc used h.front h.back);
  some = omega (arith, h.some, length-append used h.front);
  fails = λ tail. fails_by (s ((used ++ h.front) ++ tail)) (g (h.front ++ tail)) (ap s (append_assoc used h.front tail) ∙ same (h.front ++ tail) (front_head h.front h.back rest tail h.some h.split)) (h.fails tail);
  because = because_behind used h.front h.back n h.because;
}

-- one token that cannot stand
pub halts_here : {A : Type 0} (r : Texts → Result A ℕ) (t : List ℕ) (rest : Texts) → ((tail : Texts) → Fails (r (t ∷ tail))) → Halts r (t ∷ rest) (suc (length rest))
halts_here r t rest h = record { front = t ∷ []; back = rest; split = refl; some = omega arith; fails = h; because = inl refl }

pub never_zero : {A : Type 0} (n : ℕ) → ◌≡◌ {A = Result A ℕ} (Err 0) (Err (suc n)) → ⊥
never_zero n h = let e : 0 ≡ suc n = cc in omega (arith, e)

pub left_is : {A : Type 0} (m n : ℕ) → ◌≡◌ {A = Result A ℕ} (Err m) (Err n) → m ≡ n
left_is m n h = cc

-- ---- how readers are put together
pub pure_lawful : {A : Type 0} (v : A) → Lawful (λ ts. Ok (v, ts))
pure_lawful {A} v = record { halts = λ ts n h. absurd (cc); reads = λ ts x rest h. pure ts x rest h }
  where
    pure : (ts : Texts) (x : A) (rest : Texts) → ◌≡◌ {A = Read A} (Ok (v, ts)) (Ok (x, rest)) → Again (λ us. Ok (v, us)) ts x rest
    pure ts x rest h =
        let e : (v, ts) ≡ (x, rest) = cc in
        record { used = []; split = ap (λ (p : A × Texts). p.1) e; again = λ tail same. ap (λ y. Ok (y, tail)) (ap (λ (p : A × Texts). p.0) e) }

pub bind_lawful : {A B : Type 0} (r : Texts → Read A) (f : A × Texts → Read B) → Lawful r → ((x : A) → Lawful (λ us. f (x, us))) → Lawful (λ ts. r ts >>= f)
bind_lawful {A} {B} r f first later = record { halts = λ ts n h. stop ts n (bind_err (r ts) f (suc n) h); reads = λ ts y rest h. read ts y rest (r ts) refl h }
  where
    stop : (ts : Texts) (n : ℕ) → (r ts ≡ Err (suc n)) ⊎ ((x : A × Texts) × (r ts ≡ Ok x) × (f x ≡ Err (suc n))) → Halts (λ t. r t >>= f) ts (suc n)
    stop ts n (inl e) = halts_first r f ts (suc n) (first.halts ts n e)
    stop ts n (inr x) =
        let a = first.reads ts x.0.0 x.0.1 x.1 in
        halts_behind (λ t. r t >>= f) (λ us. f (x.0.0, us)) ts a.used x.0.1 (suc n) a.split (λ tail same. ap (λ (o : Read A). o >>= f) (a.again tail same)) ((later x.0.0).halts x.0.1 n x.2)

    read : (ts : Texts) (y : B) (rest : Texts) (o : Read A) → r ts ≡ o → (o >>= f) ≡ Ok (y, rest) → Again (λ t. r t >>= f) ts y rest
    read ts y rest (Err n) e h = absurd (cc)
    read ts y rest (Ok x) e h =
        let a = first.reads ts x.0 x.1 e in
        let b = (later x.0).reads x.1 y rest h in
        record {
          used = a.used ++ b.used;
          split = a.split ∙ ap (λ u. a.used ++ u) b.split ∙ sym (append_assoc a.used b.used rest);
          again = λ tail same.
              let P : Texts → Type 0 = λ u. SameHead u (b.used ++ tail) in
              ap (λ u. r u >>= f) (append_assoc a.used b.used tail) ∙ ap (λ (o : Read A). o >>= f) (a.again (b.used ++ tail) (subst P (sym b.split) (same_behind b.used rest tail same))) ∙ b.again tail same;
        }

-- what is asked of a branch behind this word
pub record Branch {A : Type 0} (w : List ℕ) (r : Texts → Read A) : Type 0 where
  pub halts : (us : Texts) (n : ℕ) → r (w ∷ us) ≡ Err (suc n) → Halts r (w ∷ us) (suc n)
  pub reads : (us : Texts) (x : A) (rest : Texts) → r (w ∷ us) ≡ Ok (x, rest) → Again r (w ∷ us) x rest

pub next_lawful : {A : Type 0} (w : List ℕ) (r s : Texts → Read A) → Branch w r → Lawful s → Lawful (λ ts. cond (is_next w ts) (r ts) (s ts))
next_lawful {A} w r s branch other = record { halts = λ ts n h. stop ts n (is_next w ts) refl h; reads = λ ts x rest h. read ts x rest (is_next w ts) refl h }
  where
    whole : Texts → Read A
    whole ts = cond (is_next w ts) (r ts) (s ts)

    stop : (ts : Texts) (n : ℕ) (b : Bool) → is_next w ts ≡ b → cond b (r ts) (s ts) ≡ Err (suc n) → Halts (λ us. cond (is_next w us) (r us) (s us)) ts (suc n)
    stop ts n true e h =
        let begins = next_is w ts e in
        let k = branch.halts (drop 1 ts) n (ap r (sym begins) ∙ h) in
        let split = begins ∙ k.split in
        record { front = k.front; back = k.back; split = split; some = k.some; fails = λ tail. fails_by (cond (is_next w (k.front ++ tail)) (r (k.front ++ tail)) (s (k.front ++ tail))) (r (k.front ++ tail)) (ap (λ b. cond b (r (k.front ++ tail)) (s (k.front ++ tail))) (same_next w ts (k.front ++ tail) (front_head k.front k.back ts tail k.some split) ∙ e)) (k.fails tail); because = k.because }
    stop ts n false e h =
        let k = other.halts ts n h in
        record { front = k.front; back = k.back; split = k.split; some = k.some; fails = λ tail. fails_by (cond (is_next w (k.front ++ tail)) (r (k.front ++ tail)) (s (k.front ++ tail))) (s (k.front ++ tail)) (ap (λ b. cond b (r (k.front ++ tail)) (s (k.front ++ tail))) (same_next w ts (k.front ++ tail) (front_head k.front k.back ts tail k.some k.split) ∙ e)) (k.fails tail); because = k.because }

    read : (ts : Texts) (x : A) (rest : Texts) (b : Bool) → is_next w ts ≡ b → cond b (r ts) (s ts) ≡ Ok (x, rest) → Again (λ us. cond (is_next w us) (r us) (s us)) ts x rest
    read ts x rest true e h =
        let begins = next_is w ts e in
        let a = branch.reads (drop 1 ts) x rest (ap r (sym begins) ∙ h) in
        let split = begins ∙ a.split in
        let P : List ℕ → Texts → Texts → Type 0 = λ v t u. SameHead t u in
        record { used = a.used; split = split; again = λ tail head. (let Q : Texts → Type 0 = λ t. SameHead t (a.used ++ tail) in ap (λ b. cond b (r (a.used ++ tail)) (s (a.used ++ tail))) (same_next w ts (a.used ++ tail) (subst Q (sym split) (same_behind a.used rest tail head)) ∙ e) ∙ a.again tail head) }
    read ts x rest false e h =
        let a = other.reads ts x rest h in
        record { used = a.used; split = a.split; again = λ tail head. (let Q : Texts → Type 0 = λ t. SameHead t (a.used ++ tail) in ap (λ b. cond b (r (a.used ++ tail)) (s (a.used ++ tail))) (same_next w ts (a.used ++ tail) (subst Q (sym a.split) (same_behind a.used rest tail head)) ∙ e) ∙ a.again tail head) }

-- a branch that reads on behind the word
pub drop_branch : {A : Type 0} (w : List ℕ) (r : Texts → Read A) → Lawful r → Branch w (λ ts. r (drop 1 ts))
drop_branch w r law = record {
  halts = λ us n h. halts_behind (λ ts. r (drop 1 ts)) r (w ∷ us) (w ∷ []) us (suc n) refl (λ tail head. refl) (law.halts us n h);
  reads = λ us x rest h. (let a = law.reads us x rest h in record { used = w ∷ a.used; split = ap (λ u. w ∷ u) a.split; again = a.again });
}

-- a branch that refuses the word
pub refused_branch : {A : Type 0} (w : List ℕ) → Branch {A = A} w (λ ts. Err (length ts))
refused_branch {A} w = record {
  halts = λ us n h. (let left = left_is {A = A × Texts} (suc (length us)) (suc n) h in subst (λ k. Halts {A = A × Texts} (λ ts. Err (length ts)) (w ∷ us) k) left (halts_here (λ ts. Err (length ts)) w us (λ tail. tt)));
  reads = λ us x rest h. absurd (cc);
}

pub refused_lawful : {A : Type 0} → Lawful {A = A} (λ ts. Err (length ts))
refused_lawful {A} = record { halts = stop; reads = λ ts x rest h. absurd (cc) }
  where
    stop : (ts : Texts) (n : ℕ) → ◌≡◌ {A = Read A} (Err (length ts)) (Err (suc n)) → Halts {A = A × Texts} (λ us. Err (length us)) ts (suc n)
    stop [] n h = absurd (never_zero {A = A × Texts} n h)
    stop (t ∷ ts) n h = (refused_branch {A = A} t).halts ts n h

-- ---- words and names
-- a first token that passes a test
pub test_lawful : {A : Type 0} (test : List ℕ → Bool) (value : List ℕ → A) (r : Texts → Read A) → r [] ≡ Err 0 → ((t : List ℕ) (ts : Texts) → r (t ∷ ts) ≡ cond (test t) (Ok (value t, ts)) (Err (suc (length ts)))) → Lawful r
test_lawful {A} test value r none one = record { halts = stop; reads = read }
  where
    stop : (ts : Texts) (n : ℕ) → r ts ≡ Err (suc n) → Halts r ts (suc n)
    stop [] n h = absurd (never_zero {A = A × Texts} n (sym none ∙ h))
    stop (t ∷ ts) n h = pick (test t) refl (sym (one t ts) ∙ h)
      where
        pick : (b : Bool) → test t ≡ b → cond {A = Read A} b (Ok (value t, ts)) (Err (suc (length ts))) ≡ Err (suc n) → Halts r (t ∷ ts) (suc n)
        pick true e g = absurd (cc)
        pick false e g = subst (λ k. Halts r (t ∷ ts) k) (left_is {A = A × Texts} (suc (length ts)) (suc n) g) (halts_here r t ts (λ tail. fails_by (r (t ∷ tail)) (Err (suc (length tail))) (one t tail ∙ ap (λ b. cond {A = Read A} b (Ok (value t, tail)) (Err (suc (length tail)))) e) tt))

    read : (ts : Texts) (x : A) (rest : Texts) → r ts ≡ Ok (x, rest) → Again r ts x rest
    read [] x rest h = absurd (let no = sym none ∙ h in cc)
    read (t ∷ ts) x rest h = pick (test t) refl (sym (one t ts) ∙ h)
      where
        pick : (b : Bool) → test t ≡ b → cond {A = Read A} b (Ok (value t, ts)) (Err (suc (length ts))) ≡ Ok (x, rest) → Again r (t ∷ ts) x rest
        pick true e g =
            let p : (value t, ts) ≡ (x, rest) = cc in
            record { used = t ∷ []; split = ap (λ (q : A × Texts). t ∷ q.1) p; again = λ tail head. one t tail ∙ ap (λ b. cond {A = Read A} b (Ok (value t, tail)) (Err (suc (length tail)))) e ∙ ap (λ (q : A × Texts). Ok (q.0, tail)) p }
        pick false e g = absurd (cc)

pub word_lawful : (w : List ℕ) → Lawful (word_at w)
unfolding word_at
word_lawful w = test_lawful (λ t. same t w) (λ t. tt) (word_at w) refl (λ t ts. refl)

pub name_lawful : Lawful name_at
unfolding name_at
name_lawful = test_lawful is_name (λ t. t) name_at refl (λ t ts. refl)

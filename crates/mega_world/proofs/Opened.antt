-- How a cluster stands once its nodes are started.
use Rattle.std.proofs.Common.{◌≡◌, ℕ, ◌+◌, ◌≤◌, ◌==◌, ◌&&◌, nat_le, cond, Bool, true, false, List, [], ◌∷◌, ◌++◌, flat_map, fold, length, length-append, Option, Some, None, is_some, refl, sym, ap, ◌∙◌, subst, zero, suc, arith}
use Rattle.std.proofs.lemmas.Bool.Decides.{nat_tests}
use Rattle.std.proofs.lemmas.Option.{slice_get_within}
use Rattle.std.specs.BTreeSet.{contains}
use Rattle.std.specs.List.{range_with_len, slice_get}
use Rattle.mega_base.specs.declared.names.Epoch.{Epoch}
use Rattle.mega_cluster.specs.declared.cluster.Cluster.{Cluster}
use Rattle.mega_places.specs.of_handler.Named.{Meanings}
use Rattle.mega_places.specs.of_promises.of_transcript.declared.item.Item.{Item}
use Rattle.mega_places.specs.of_promises.of_transcript.declared.item.Item.TheVariants.{Start}
use Rattle.mega_places.specs.of_promises.of_transcript.Tape.{newest}
use Rattle.mega_places.proofs.of_transcript.Tapes.{newest-append}
use Rattle.mega_places.specs.of_voter.of_rules.Clock.{is_up, start_of}
use Rattle.mega_places.specs.of_voter.of_rules.Logs.{groups_of}
use Rattle.mega_places.specs.of_voter.of_rules.Members.{has_rows}
use Rattle.mega_places.specs.of_voter.of_rules.Met.{Starts}
use Rattle.mega_places.specs.of_voter.of_rules.Operations.{Node as RuleNode, Setting}
use Rattle.mega_places.specs.of_voter.of_rules.Steps.{onto, start, start_items, start_note, start_notes}
use Rattle.mega_places.specs.of_promises.Items.{number, shown}
use Rattle.mega_places.specs.of_promises.Messages.{is_unsafe}
use Rattle.mega_places.specs.of_promises.Runs.{Whole, Standing, after_append, empty_node, fated_start, has_lapsed, nothing_yet, opening, set_at, setting, whole_start, with_items}
use Rattle.mega_places.specs.declared.mail.Mail.{Mail}
use Rattle.mega_safety.specs.declared.safety.Lapse.{Lapse}
use Rattle.mega_safety.specs.declared.safety.Safety.{Safety}
use Rattle.mega_places.specs.Carries.{Carries}
use Rattle.mega_places.proofs.Carrying.{shown_on}
use Rattle.mega_safety.specs.Lapses.{KnowsLeases, lapse, lapse_cmp}
use Rattle.mega_places.specs.declared.place.Place.{Place}
use Rattle.mega_places.specs.declared.place.Place.TheVariants.{Up, Down}
use Rattle.mega_places.specs.declared.member.Member.{Member}
use Rattle.mega_places.specs.Kept.{AreNodes, IsKept}
use Rattle.mega_places.specs.LogFuses.{IsFused}
use Rattle.mega_places.specs.Members.{IsMember, is_up_at, member_in, member_of, records_of}
use Rattle.mega_world.specs.Opening.{AreStarted, IsFirst, IsStarted, first_starts}
use Rattle.mega_places.proofs.Joining.{member_is}

-- ---- the first start of a node

no_notes : (s : Setting) → start_notes s (Starts 1 ∷ []) ≡ []
no_notes s = by (has_rows s.cluster s.me)
  where
    by : (t : Bool) → cond t (flat_map (start_note (Starts 1 ∷ [])) (groups_of (Starts 1 ∷ []))) [] ≡ []
    by true = refl
    by false = refl

first_items : (s : Setting) → start_items s 1 [] [] ≡ Starts 1 ∷ []
first_items s = ap (λ notes. Starts 1 ∷ notes) (no_notes s)

first_up : (s : Setting) → is_up (start s 1 [] []).met ≡ true
first_up s = ap (λ items. is_up (onto items [])) (first_items s)

first_start : (s : Setting) → start_of (start s 1 [] []).met ≡ 1
first_start s = ap (λ items. start_of (onto items [])) (first_items s)

-- ---- the first starts of so many nodes

abbrev is_among : ℕ → ℕ → Bool
is_among k me = nat_le 1 me && nat_le me k

abbrev node_at : Cluster → Meanings → ℕ → ℕ → RuleNode
node_at c h k me = cond (is_among k me) (start (setting c h me) 1 [] []) empty_node

pub record Opened (c : Cluster) (h : Meanings) (k : ℕ) (now : Standing) : Type 0 where
  node_is : (me : ℕ) → now.node me ≡ node_at c h k me
  tape_is : now.tape ≡ first_starts k
  of_log : (me : ℕ) → now.log_fuse me ≡ None
  of_data : (me : ℕ) → now.data_fuse me ≡ None
  starts_are : (me : ℕ) → now.starts me ≡ cond {A = ℕ} (is_among k me) 1 0
  unowed : (me : ℕ) → now.owed me ≡ []

none_opened : (c : Cluster) (h : Meanings) → Opened c h 0 nothing_yet
none_opened c h = record {
  node_is = λ me. let none : is_among 0 me ≡ false = grind (arith, nat_tests) in sym (ap (λ t. cond t (start (setting c h me) 1 [] []) empty_node) none);
  tape_is = refl;
  of_log = λ me. refl;
  of_data = λ me. refl;
  starts_are = λ me. let none : is_among 0 me ≡ false = grind (arith, nat_tests) in sym (ap (λ t. cond {A = ℕ} t 1 0) none);
  unowed = λ me. refl;
}

fresh_met : (c : Cluster) (h : Meanings) (k : ℕ) (now : Standing) → Opened c h k now → (now.node (suc k)).met ≡ []
fresh_met c h k now o =
    let none : is_among k (suc k) ≡ false = grind (arith, nat_tests) in
    ap (λ (n : RuleNode). n.met) (o.node_is (suc k) ∙ ap (λ t. cond t (start (setting c h (suc k)) 1 [] []) empty_node) none)

starts_first : (c : Cluster) (h : Meanings) (k : ℕ) (now : Standing) → Opened c h k now
    → fated_start c h now (suc k) Whole ≡ whole_start c now (suc k) (start_items (setting c h (suc k)) 1 [] []) (start (setting c h (suc k)) 1 [] [])
starts_first c h k now o =
    let none : is_among k (suc k) ≡ false = grind (arith, nat_tests) in
    ap (λ n. whole_start c now (suc k) (start_items s (n + 1) (now.owed (suc k)) (now.node (suc k)).met) (start s (n + 1) (now.owed (suc k)) (now.node (suc k)).met))
    (o.starts_are (suc k) ∙ ap (λ t. cond {A = ℕ} t 1 0) none)
    ∙ ap (λ owed. whole_start c now (suc k) (start_items s 1 owed (now.node (suc k)).met) (start s 1 owed (now.node (suc k)).met)) (o.unowed (suc k))
    ∙ ap (λ met. whole_start c now (suc k) (start_items s 1 [] met) (start s 1 [] met)) (fresh_met c h k now o)
  where
    s : Setting
    s = setting c h (suc k)

whole_opened : (c : Cluster) (h : Meanings) (k : ℕ) (now : Standing) → Opened c h k now → Opened c h (suc k) (whole_start c now (suc k) (start_items (setting c h (suc k)) 1 [] []) (start (setting c h (suc k)) 1 [] []))
whole_opened c h k now o = record {
  node_is = λ me. node_by (suc k == me) me refl;
  tape_is = ap (λ items. with_items c (set_at now.node (suc k) first) now.tape (flat_map (shown (suc k)) items)) (first_items (setting c h (suc k))) ∙ ap (λ t. Start (number (suc k)) 1 ∷ t) o.tape_is;
  of_log = λ me. log_by (suc k == me) me;
  of_data = o.of_data;
  starts_are = λ me. starts_by (suc k == me) me refl;
  unowed = λ me. owed_by (suc k == me) me;
}
  where
    first : RuleNode
    first = start (setting c h (suc k)) 1 [] []

    node_by : (t : Bool) (me : ℕ) → (suc k == me) ≡ t → cond t first (now.node me) ≡ node_at c h (suc k) me
    node_by true me same =
        let e : suc k ≡ me = grind (arith, nat_tests) in let among : is_among (suc k) (suc k) ≡ true = grind (arith, nat_tests) in
        subst (λ n. first ≡ node_at c h (suc k) n) e (sym (ap (λ t. cond t first empty_node) among))
    node_by false me apart =
        let among : is_among k me ≡ is_among (suc k) me = grind (arith, nat_tests) in
        o.node_is me ∙ ap (λ t. cond t (start (setting c h me) 1 [] []) empty_node) among

    log_by : (t : Bool) (me : ℕ) → cond t (after_append (now.log_fuse (suc k))) (now.log_fuse me) ≡ None
    log_by true me = ap after_append (o.of_log (suc k))
    log_by false me = o.of_log me

    starts_by : (t : Bool) (me : ℕ) → (suc k == me) ≡ t → cond {A = ℕ} t (now.starts (suc k) + 1) (now.starts me) ≡ cond {A = ℕ} (is_among (suc k) me) 1 0
    starts_by true me same =
        let none : is_among k (suc k) ≡ false = grind (arith, nat_tests) in
        let among : is_among (suc k) me ≡ true = grind (arith, nat_tests) in
        ap (λ n. n + 1) (o.starts_are (suc k) ∙ ap (λ t. cond {A = ℕ} t 1 0) none) ∙ sym (ap (λ t. cond {A = ℕ} t 1 0) among)
    starts_by false me apart =
        let among : is_among k me ≡ is_among (suc k) me = grind (arith, nat_tests) in
        o.starts_are me ∙ ap (λ t. cond {A = ℕ} t 1 0) among

    owed_by : (t : Bool) (me : ℕ) → cond t [] (now.owed me) ≡ []
    owed_by true me = refl
    owed_by false me = o.unowed me

opened_more : (c : Cluster) (h : Meanings) (k : ℕ) (now : Standing) → Opened c h k now → Opened c h (suc k) (fated_start c h now (suc k) Whole)
opened_more c h k now o = subst (Opened c h (suc k)) (sym (starts_first c h k now o)) (whole_opened c h k now o)

opened_all : (c : Cluster) (h : Meanings) (m k : ℕ) (now : Standing) → Opened c h k now → Opened c h (k + m) (fold (λ one me. fated_start c h one me Whole) now (range_with_len (suc k) m))
opened_all c h zero k now o = let e : k ≡ k + 0 = omega arith in subst (λ n. Opened c h n now) e o
opened_all c h (suc m) k now o =
    let e : suc k + m ≡ k + suc m = omega arith in
    let f : suc (suc k) ≡ suc k + 1 = omega arith in
    subst (λ n. Opened c h n (fold (λ one me. fated_start c h one me Whole) (fated_start c h now (suc k) Whole) (range_with_len (suc k + 1) m))) e
    (subst (λ n. Opened c h (suc k + m) (fold (λ one me. fated_start c h one me Whole) (fated_start c h now (suc k) Whole) (range_with_len n m))) f
    (opened_all c h m (suc k) (fated_start c h now (suc k) Whole) (opened_more c h k now o)))

pub opening_opened : (c : Cluster) (h : Meanings) → Opened c h (length c.nodes) (opening c h)
opening_opened c h = let e : 0 + length c.nodes ≡ length c.nodes = omega arith in subst (λ n. Opened c h n (opening c h)) e (opened_all c h (length c.nodes) 0 nothing_yet (none_opened c h))

-- ---- what follows

starts_carried : (mail : Mail) (k : ℕ) → Carries mail [] → Carries mail (first_starts k)
starts_carried mail zero r = r
starts_carried mail (suc k) r = shown_on mail (suc k) (Starts 1) (first_starts k) (starts_carried mail k r)

pub opening_mail : (c : Cluster) (h : Meanings) (mail : Mail) → Carries mail [] → Carries mail (opening c h).tape
opening_mail c h mail nothing = subst (Carries mail) (sym (opening_opened c h).tape_is) (starts_carried mail (length c.nodes) nothing)

pub opening_tape : (c : Cluster) (h : Meanings) (items : List Item) → newest items ≡ first_starts (length c.nodes) → newest items ≡ (opening c h).tape
opening_tape c h items is = is ∙ sym (opening_opened c h).tape_is

-- no epoch lapsed yet, and leases are safe
first_lapsed : (s : Setting) (node : ℕ) (epoch : Epoch) → has_lapsed (start s 1 [] []).met node epoch ≡ false
first_lapsed s node epoch = ap (λ items. has_lapsed (onto items []) node epoch) (first_items s)

starts_safe : (k : ℕ) → is_unsafe (first_starts k) ≡ false
starts_safe zero = refl
starts_safe (suc k) = starts_safe k

pub opening_leases : (c : Cluster) (h : Meanings) (safety : Safety) → ((one : Lapse) → contains lapse_cmp safety.lapses one ≡ false) → safety.is_told ≡ false → KnowsLeases safety (opening c h).node (opening c h).tape
opening_leases c h safety none told = record {
  lapses = record {
    each = λ cell node epoch. none (lapse cell node epoch)
        ∙ sym (ap (λ (n : RuleNode). has_lapsed n.met node epoch) (o.node_is cell) ∙ by (is_among (length c.nodes) cell) cell node epoch);
  };
  told = told ∙ sym (ap is_unsafe o.tape_is ∙ starts_safe (length c.nodes));
}
  where
    o : Opened c h (length c.nodes) (opening c h)
    o = opening_opened c h

    by : (t : Bool) (cell node : ℕ) (epoch : Epoch) → has_lapsed (cond t (start (setting c h cell) 1 [] []) empty_node).met node epoch ≡ false
    by true cell node epoch = first_lapsed (setting c h cell) node epoch
    by false cell node epoch = refl

-- a list has nothing behind its end
slice_get_none : {X : Type 0} (xs : List X) (i : ℕ) → slice_get xs i ≡ None → length xs ≤ i
slice_get_none [] i is = omega arith
slice_get_none (x ∷ xs) zero is = cc
slice_get_none (x ∷ xs) (suc i) is = let le = slice_get_none xs i is in omega (arith, le)

-- each node is in its place
module _ (c : Cluster) (h : Meanings) (places : List Place) (count : length places ≡ length c.nodes) (started_are : AreStarted c places) where
  node_there : (i : ℕ) → (opening c h).node (suc i) ≡ node_at c h (length c.nodes) (suc i)
  node_there i = (opening_opened c h).node_is (suc i)

  member_by : (i : ℕ) (found : Option Place) → slice_get places i ≡ found → (node : Member) → member_in found ≡ Some node → IsMember c (suc i) node ((opening c h).node (suc i))
  member_by i None at node is = cc
  member_by i (Some (Down fallen)) at node is = cc
  member_by i (Some (Up one)) at node is =
      let below = slice_get_within places i (Up one) at in
      let among : is_among (length c.nodes) (suc i) ≡ true = grind (arith, nat_tests) in
      let e : i + 1 ≡ suc i = omega arith in
      let same : one ≡ node = cc in
      subst (λ (n : Member). IsMember c (suc i) n ((opening c h).node (suc i))) same
      (subst (IsMember c (suc i) one) (sym (node_there i ∙ ap (λ t. cond t (start (setting c h (suc i)) 1 [] []) empty_node) among))
      (subst (λ (k : ℕ). IsMember c k one (start (setting c h k) 1 [] [])) e (started_are.each i (Up one) at h).is))

  up_by : (i : ℕ) (found : Option Place) → slice_get places i ≡ found → is_up ((opening c h).node (suc i)).met ≡ is_some (member_in found)
  up_by i None at =
      let past = slice_get_none places i at in
      let apart : is_among (length c.nodes) (suc i) ≡ false = grind (arith, nat_tests) in
      ap (λ (n : RuleNode). is_up n.met) (node_there i ∙ ap (λ t. cond t (start (setting c h (suc i)) 1 [] []) empty_node) apart)
  up_by i (Some (Down fallen)) at = absurd (started_are.each i (Down fallen) at)
  up_by i (Some (Up one)) at =
      let below = slice_get_within places i (Up one) at in
      let among : is_among (length c.nodes) (suc i) ≡ true = grind (arith, nat_tests) in
      ap (λ (n : RuleNode). is_up n.met) (node_there i ∙ ap (λ t. cond t (start (setting c h (suc i)) 1 [] []) empty_node) among) ∙ first_up (setting c h (suc i))

  each_member : (me : ℕ) (node : Member) → member_of places me ≡ Some node → IsMember c me node ((opening c h).node me)
  each_member zero node is = cc
  each_member (suc i) node is = member_by i (slice_get places i) refl node (sym (member_is places (suc i) i (omega arith) (omega arith)) ∙ is)

  each_up : (me : ℕ) → is_up ((opening c h).node me).met ≡ is_up_at places me
  each_up zero =
      let apart : is_among (length c.nodes) 0 ≡ false = grind (arith, nat_tests) in
      ap (λ (n : RuleNode). is_up n.met) ((opening_opened c h).node_is 0 ∙ ap (λ t. cond t (start (setting c h 0) 1 [] []) empty_node) apart)
  each_up (suc i) = up_by i (slice_get places i) refl ∙ sym (ap is_some (member_is places (suc i) i (omega arith) (omega arith)))

  kept_by : (i : ℕ) (place : Place) → slice_get places i ≡ Some place → IsKept c (i + 1) place ((opening c h).starts (i + 1)) ((opening c h).owed (i + 1)) ((opening c h).node (i + 1)).met ((opening c h).log_fuse (i + 1))
  kept_by i (Down fallen) at = absurd (started_are.each i (Down fallen) at)
  kept_by i (Up one) at =
      let below = slice_get_within places i (Up one) at in
      let among : is_among (length c.nodes) (i + 1) ≡ true = grind (arith, nat_tests) in record {
        started = (opening_opened c h).starts_are (i + 1) ∙ ap (λ t. cond {A = ℕ} t 1 0) among
            ∙ sym (ap (λ (n : RuleNode). start_of n.met) ((opening_opened c h).node_is (i + 1) ∙ ap (λ t. cond t (start (setting c h (i + 1)) 1 [] []) empty_node) among) ∙ first_start (setting c h (i + 1)));
        unowed = (opening_opened c h).unowed (i + 1);
        fused = subst (IsFused one.fuse (records_of one)) (sym ((opening_opened c h).of_log (i + 1))) (started_are.each i (Up one) at h).fused;
      }

  pub opening_nodes : AreNodes c places (opening c h)
  opening_nodes = record { members = record { count = count; each = each_member; up_are = each_up }; kept = record { each = kept_by } }

-- one more node is started
pub starts_more : (items : List Item) (k : ℕ) → newest items ≡ first_starts k → newest (items ++ Start (number (k + 1)) 1 ∷ []) ≡ first_starts (k + 1)
starts_more items k is =
    let e : suc k ≡ k + 1 = omega arith in
    newest-append items (Start (number (k + 1)) 1) ∙ ap (λ t. Start (number (k + 1)) 1 ∷ t) is
    ∙ ap (λ n. Start (number n) 1 ∷ first_starts k) (sym e) ∙ ap first_starts e

last_found : {X : Type 0} (xs : List X) (x y : X) (i : ℕ) (P : ℕ → X → Type 0) → ((j : ℕ) (z : X) → slice_get xs j ≡ Some z → P j z) → P (length xs) x → slice_get (xs ++ x ∷ []) i ≡ Some y → P i y
last_found [] x y zero P each last is = let same : x ≡ y = cc in subst (P 0) same last
last_found [] x y (suc i) P each last is = cc
last_found (first ∷ xs) x y zero P each last is = each 0 y is
last_found (first ∷ xs) x y (suc i) P each last is = last_found xs x y i (λ j z. P (suc j) z) (λ j z found. each (suc j) z found) last is

pub started_more : (c : Cluster) (places : List Place) (one : Member) (k : ℕ) → length places ≡ k → AreStarted c places
    → ((h : Meanings) → IsFirst c h (k + 1) one) → AreStarted c (places ++ Up one ∷ [])
started_more c places one k count were last = record {
  each = λ i place is. last_found places (Up one) place i (λ (j : ℕ) (z : Place). IsStarted c (j + 1) z) were.each
      (subst (λ n. (h : Meanings) → IsFirst c h (n + 1) one) (sym count) last) is;
}

pub length_last : {X : Type 0} (xs : List X) (x : X) (k : ℕ) → length xs ≡ k → length (xs ++ x ∷ []) ≡ k + 1
length_last xs x k is = length-append xs (x ∷ []) ∙ ap (λ n. n + 1) is

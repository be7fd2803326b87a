-- A drain where no fuse is set: each delivery is a whole step, and where it is not cut no message can be delivered behind it.
use Rattle.std.proofs.Common.{◌≡◌, ℕ, zero, suc, ◌+◌, ◌==◌, ◌&&◌, ◌≤◌, ◌<◌, Bool, true, false, not, cond, List, [], ◌∷◌, find, Option, Some, None, refl, sym, ap, ◌∙◌, subst, arith}
use Rattle.std.specs.List.{range_with_len}
use Rattle.std.proofs.lemmas.Bool.Decides.{nat_tests}
use Rattle.std.proofs.lemmas.Bool.{and_parts, not-true}
use Rattle.std.proofs.lemmas.Option.{same_Some}
use Rattle.mega_cluster.specs.declared.cluster.Cluster.{Cluster}
use Rattle.mega_handler.specs.Named.{Meanings}
use Rattle.mega_wire.specs.declared.message.Message.{Message}
use Rattle.mega_leased_laws.specs.of_run_laws.of_tape_laws.of_promises.of_transcript.declared.item.Item.{Item}
use Rattle.mega_leased_laws.specs.of_run_laws.of_tape_laws.of_promises.of_transcript.declared.item.Item.TheVariants.{Cut as CutItem, Taken}
use Rattle.mega_leased_laws.specs.of_run_laws.of_tape_laws.of_promises.of_transcript.Tape.{is_taken, sent_count}
use Rattle.mega_leased_laws.specs.of_run_laws.of_tape_laws.of_promises.of_rules.Steps.{Event, Step, Take, step}
use Rattle.mega_leased_laws.specs.of_run_laws.of_tape_laws.of_promises.Calm.{is_cut}
use Rattle.mega_leased_laws.specs.of_run_laws.of_tape_laws.of_promises.Messages.{is_deliverable, is_dropped, message_of, next_delivery, receiver_up}
use Rattle.mega_leased_laws.specs.of_run_laws.of_tape_laws.of_promises.Runs.{Calls, Cuts, CutByData, CutByLog, Fate, Fuse, Standing, Whole, AsItWas, Compacted, Recorded, after_append, appends, at_node, calls_of, delivered, drained, fated, handed, is_burning, marked, may_become, met_in, replies_in, setting, unless_none, up, whole_step}
use Rattle.mega_calm_laws.specs.Waiting.{Waits}
use Rattle.mega_calm_laws.proofs.Mail.{number_is}
use Rattle.mega_leased_laws.proofs.of_run_laws.Runs.{found}

-- ---- a step that no fuse cuts

-- no fuse is set on a node's devices
pub record IsUnfused (now : Standing) (me : ℕ) : Type 0 where
  pub no_log : now.log_fuse me ≡ None
  pub no_data : now.data_fuse me ≡ None

fate_by_none : (calls : Calls) (log other : Option Fuse) → log ≡ None → other ≡ None → (cut : Fate)
    → cond (may_become calls log other cut) cut (cond (calls.appends && is_burning log) (CutByLog AsItWas) Whole) ≡ Whole
fate_by_none calls log other no_log no_data cut =
    ap (λ l. cond (may_become calls l other cut) cut (cond (calls.appends && is_burning l) (CutByLog AsItWas) Whole)) no_log
    ∙ (ap (λ d. cond (may_become calls None d cut) cut (cond (calls.appends && false) (CutByLog AsItWas) Whole)) no_data ∙ by cut)
  where
    whole : (a : Bool) → cond {A = Fate} (a && false) (CutByLog AsItWas) Whole ≡ Whole
    whole true = refl
    whole false = refl

    same : (t : Bool) (a : Bool) → cond t Whole (cond {A = Fate} (a && false) (CutByLog AsItWas) Whole) ≡ Whole
    same true a = refl
    same false a = whole a

    by : (fate : Fate) → cond (may_become calls None None fate) fate (cond (calls.appends && false) (CutByLog AsItWas) Whole) ≡ Whole
    by Whole = same (not (calls.appends && false)) calls.appends
    by (CutByLog AsItWas) = whole calls.appends
    by (CutByLog Compacted) = whole calls.appends
    by (CutByLog Recorded) = whole calls.appends
    by (CutByData AsItWas) = whole calls.appends
    by (CutByData Compacted) = whole calls.appends
    by (CutByData Recorded) = whole calls.appends

pub at_node_whole : (c : Cluster) (h : Meanings) (now : Standing) (me : ℕ) (own : List Item) (event : Event) (cut : Calls → Fate) → IsUnfused now me
    → at_node c h now me own event cut ≡ whole_step c now me own (step (setting c h me) (now.node me) event)
at_node_whole c h now me own event cut u =
    ap (fated c now me own (met_in (setting c h me) (now.node me).met event) (step (setting c h me) (now.node me) event) (replies_in c me (now.node me).met event))
    (fate_by_none (calls_of c h now me event (step (setting c h me) (now.node me) event)) (now.log_fuse me) (now.data_fuse me) u.no_log u.no_data (cut (calls_of c h now me event (step (setting c h me) (now.node me) event))))

-- fuses stay unset
if_append : (t : Bool) (fuse : Option Fuse) → fuse ≡ None → cond t (after_append fuse) fuse ≡ None
if_append true fuse h = ap after_append h
if_append false fuse h = h

pub unfused_after : (c : Cluster) (now : Standing) (me : ℕ) (own : List Item) (made : Step) (other : ℕ) → IsUnfused now me → IsUnfused now other → IsUnfused (whole_step c now me own made) other
unfused_after c now me own made other u v = record { no_log = by (me == other); no_data = v.no_data }
  where
    by : (t : Bool) → cond t (cond (appends made) (after_append (now.log_fuse me)) (now.log_fuse me)) (now.log_fuse other) ≡ None
    by true = if_append (appends made) (now.log_fuse me) u.no_log
    by false = v.no_log

-- ---- a drain

found_within : (test : ℕ → Bool) (base n j : ℕ) → find test (range_with_len base n) ≡ Some j → (base ≤ j) × (j < base + n)
found_within test base zero j h = cc
found_within test base (suc n) j h = go (test base) h (found_within test (base + 1) n j)
  where
    go : (t : Bool) → cond t (Some base) (find test (range_with_len (base + 1) n)) ≡ Some j → (find test (range_with_len (base + 1) n) ≡ Some j → (base + 1 ≤ j) × (j < base + 1 + n)) → (base ≤ j) × (j < base + suc n)
    go true k again = let is = same_Some base j k in (omega (arith, is), omega (arith, is))
    go false k again = let r = again k in let low = r.0 in let high = r.1 in (omega (arith, low), omega (arith, high))

pub none_passes : (test : ℕ → Bool) (base n j : ℕ) → find test (range_with_len base n) ≡ None → base ≤ j → j < base + n → test j ≡ false
none_passes test base zero j h low high = absurd (omega (arith, low, high))
none_passes test base (suc n) j h low high = go (test base) refl h (none_passes test (base + 1) n j)
  where
    later : base ≤ j → (base == j) ≡ false → base + 1 ≤ j
    later le apart = grind (arith, nat_tests)

    at : (t : Bool) → (base == j) ≡ t → test base ≡ false → find test (range_with_len (base + 1) n) ≡ None
        → (find test (range_with_len (base + 1) n) ≡ None → base + 1 ≤ j → j < base + 1 + n → test j ≡ false) → test j ≡ false
    at true same e k again = subst (λ y. test y ≡ false) (number_is base j same) e
    at false same e k again = again k (later low same) (omega (arith, high))

    go : (t : Bool) → test base ≡ t → cond t (Some base) (find test (range_with_len (base + 1) n)) ≡ None
        → (find test (range_with_len (base + 1) n) ≡ None → base + 1 ≤ j → j < base + 1 + n → test j ≡ false) → test j ≡ false
    go true e k again = cc
    go false e k again = at (base == j) refl e k again

-- what is delivered next waits, at a receiver that is up
pub record IsNext (now : Standing) (j : ℕ) : Type 0 where
  pub message : Message
  pub waits : Waits now.tape j message
  pub up : up now message.to ≡ true

pub next_waits : (now : Standing) (j : ℕ) → next_delivery (up now) now.tape ≡ Some j → IsNext now j
next_waits now j h = go (message_of now.tape j) refl tests.1
  where
    range : (1 ≤ j) × (j < 1 + sent_count now.tape)
    range = found_within (is_deliverable (up now) now.tape) 1 (sent_count now.tape) j h

    tests : ((not (is_taken now.tape j) && not (is_dropped now.tape j)) ≡ true) × (receiver_up (up now) (message_of now.tape j) ≡ true)
    tests = and_parts (not (is_taken now.tape j) && not (is_dropped now.tape j)) (receiver_up (up now) (message_of now.tape j)) (found (is_deliverable (up now) now.tape) _ j h)

    open_tests : (not (is_taken now.tape j) ≡ true) × (not (is_dropped now.tape j) ≡ true)
    open_tests = and_parts (not (is_taken now.tape j)) (not (is_dropped now.tape j)) tests.0

    go : (o : Option Message) → message_of now.tape j ≡ o → receiver_up (up now) o ≡ true → IsNext now j
    go None is r = cc
    go (Some m) is r = record {
      message = m;
      waits = record {
        above = range.0;
        within = (let less = range.1 in omega (arith, less));
        sent = is;
        untaken = not-true (is_taken now.tape j) open_tests.0;
        undropped = not-true (is_dropped now.tape j) open_tests.1;
      };
      up = r;
    }

-- where no message is left for delivery, none waits whose receiver is up
pub none_waits : (now : Standing) → next_delivery (up now) now.tape ≡ None → (k : ℕ) (m : Message) → Waits now.tape k m → up now m.to ≡ true → ⊥
none_waits now h k m w at = let open_one = opens in let shut = none_passes (is_deliverable (up now) now.tape) 1 (sent_count now.tape) k h w.above (let le = w.within in omega (arith, le)) in let clash = sym open_one ∙ shut in cc
  where
    opens : is_deliverable (up now) now.tape k ≡ true
    opens =
        ap (λ t. not t && not (is_dropped now.tape k) && receiver_up (up now) (message_of now.tape k)) w.untaken
        ∙ (ap (λ t. true && not t && receiver_up (up now) (message_of now.tape k)) w.undropped
        ∙ (ap (receiver_up (up now)) w.sent ∙ at))

-- what each delivery keeps holds at the end of a drain that is not cut, and no message is left then
pub record Ends (Q : Standing → Type 0) (now : Standing) : Type 0 where
  pub holds : Q now
  pub none : next_delivery (up now) now.tape ≡ None

module _ (c : Cluster) (h : Meanings) (cuts : Cuts) (Q : Standing → Type 0)
    (unfused : (now : Standing) → Q now → (j : ℕ) → (one : IsNext now j) → IsUnfused now (one.message).to)
    (takes : (now : Standing) → Q now → (j : ℕ) → (one : IsNext now j)
    → Q (whole_step c now (one.message).to (Taken j ∷ []) (step (setting c h (one.message).to) (now.node (one.message).to) (Take one.message)))) where
  pub delivers : (now : Standing) (j : ℕ) → Q now → (one : IsNext now j) → Q (delivered c h cuts now j)
  delivers now j q one = subst (λ o. Q (handed c h cuts now j o)) (sym (one.waits).sent)
      (subst Q (sym (at_node_whole c h now (one.message).to (Taken j ∷ []) (Take one.message) (cuts now (one.message).to) (unfused now q j one))) (takes now q j one))

  pub drain_ends : (most : ℕ) (now : Standing) → Q now → is_cut (drained c h cuts now most).tape ≡ false → Ends Q (drained c h cuts now most)
  drain_ends zero now q not_cut = go (next_delivery (up now) now.tape) refl not_cut
    where
      go : (o : Option ℕ) → next_delivery (up now) now.tape ≡ o → is_cut (unless_none now (λ j. marked now CutItem) o).tape ≡ false → Ends Q (unless_none now (λ j. marked now CutItem) o)
      go None e n = record { holds = q; none = e }
      go (Some j) e n = cc
  drain_ends (suc most) now q not_cut = go (next_delivery (up now) now.tape) refl not_cut (λ j next. drain_ends most (delivered c h cuts now j) next)
    where
      go : (o : Option ℕ) → next_delivery (up now) now.tape ≡ o → is_cut (unless_none now (λ j. drained c h cuts (delivered c h cuts now j) most) o).tape ≡ false
          → ((j : ℕ) → Q (delivered c h cuts now j) → is_cut (drained c h cuts (delivered c h cuts now j) most).tape ≡ false → Ends Q (drained c h cuts (delivered c h cuts now j) most))
          → Ends Q (unless_none now (λ j. drained c h cuts (delivered c h cuts now j) most) o)
      go None e n again = record { holds = q; none = e }
      go (Some j) e n again = again j (delivers now j q (next_waits now j e)) n

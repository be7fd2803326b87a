-- What a drain delivers is never refused, so a drain is a run of deliveries.
use Rattle.std.proofs.Common.{◌≡◌, ◌≤◌, ◌<◌, ◌+◌, ◌&&◌, not, ℕ, zero, suc, cond, nat_le, Bool, true, false, [], ◌∷◌, refl, sym, ap, ◌∙◌, arith, le-leb, Option, Some, None}
use Rattle.std.specs.List.{find, range_with_len}
use Rattle.std.proofs.lemmas.Bool.{not-true}
use Rattle.mega_cluster.specs.declared.cluster.Cluster.{Cluster}
use Rattle.mega_wire.specs.declared.message.Message.{Message}
use Rattle.mega_handler.specs.Named.{Meanings}
use Rattle.mega_run_laws.specs.of_tape_laws.of_promises.of_schedule.declared.world_event.WorldEvent.TheVariants.{Deliver}
use Rattle.mega_run_laws.specs.of_tape_laws.of_promises.of_transcript.Tape.{is_sent, is_taken, sent_count}
use Rattle.mega_run_laws.specs.of_tape_laws.of_promises.Messages.{is_deliverable, is_dropped, message_of, next_delivery, receiver_up}
use Rattle.mega_run_laws.specs.of_tape_laws.of_promises.Runs.{Cuts, Standing, because, delivered, drained, goes_on, receiver_down, refusal, unless_none, unless_refused, up}

found_in : (p : ℕ → Bool) (a n k : ℕ) → find p (range_with_len a n) ≡ Some k → (p k ≡ true) × (a ≤ k) × (k < a + n)
found_in p a zero k h = absurd (cc)
found_in p a (suc n) k h = by (p a) refl (found_in p (a + 1) n k) h
  where
    by : (t : Bool) → p a ≡ t → (find p (range_with_len (a + 1) n) ≡ Some k → (p k ≡ true) × (a + 1 ≤ k) × (k < (a + 1) + n))
        → cond t (Some a) (find p (range_with_len (a + 1) n)) ≡ Some k → (p k ≡ true) × (a ≤ k) × (k < a + suc n)
    by true is more g = let same : a ≡ k = cc in (ap p (sym same) ∙ is, omega (arith, same), omega (arith, same))
    by false is more g = let r = more g in let low = r.1 in let high = r.2 in (r.0, omega (arith, low), omega (arith, high))

all_three : (a b c : Bool) → a && b && c ≡ true → (a ≡ true) × (b ≡ true) × (c ≡ true)
all_three true true c is = (refl, refl, is)
all_three true false c is = cc
all_three false b c is = cc

not_down : (now : Standing) (o : Option Message) → receiver_up (up now) o ≡ true → receiver_down now o ≡ false
not_down now None is = cc
not_down now (Some message) is = ap not is

pub next_allowed : (c : Cluster) (now : Standing) (k : ℕ) → next_delivery (up now) now.tape ≡ Some k → refusal c now (Deliver k) ≡ None
next_allowed c now k is =
    let found = found_in (is_deliverable (up now) now.tape) 1 (sent_count now.tape) k is in
    let parts = all_three (not (is_taken now.tape k)) (not (is_dropped now.tape k)) (receiver_up (up now) (message_of now.tape k)) found.0 in
    let high = found.2 in
    let sent : is_sent now.tape k ≡ true = ap (λ t. t && nat_le k (sent_count now.tape)) (le-leb 1 k found.1) ∙ le-leb k (sent_count now.tape) (omega (arith, high)) in
    ap (λ t. because (not t) 3 (because (is_dropped now.tape k) 4 (because (receiver_down now (message_of now.tape k)) 1 None))) sent
    ∙ ap (λ t. because t 4 (because (receiver_down now (message_of now.tape k)) 1 None)) (not-true (is_dropped now.tape k) parts.1)
    ∙ ap (λ t. because t 1 None) (not_down now (message_of now.tape k) parts.2)

pub drain_goes_on : (c : Cluster) (h : Meanings) (cuts : Cuts) (now : Standing) (k most : ℕ) → next_delivery (up now) now.tape ≡ Some k
    → drained c h cuts now (suc most) ≡ drained c h cuts (goes_on c cuts now (record { handlers = h; event = Deliver k } ∷ [])) most
drain_goes_on c h cuts now k most is =
    ap (unless_none now (λ j. drained c h cuts (delivered c h cuts now j) most)) is
    ∙ ap (λ next. drained c h cuts next most) (sym (ap (unless_refused now (delivered c h cuts now k)) (next_allowed c now k is)))

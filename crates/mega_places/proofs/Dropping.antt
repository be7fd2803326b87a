-- What is carried once a message is dropped.
use Rattle.std.proofs.Common.{◌≡◌, ℕ, ◌==◌, ◌&&◌, ◌||◌, not, Bool, true, false, List, ◌∷◌, length, Option, Some, None, is_some, refl, sym, ap, subst, ◌∙◌, arith}
use Rattle.std.proofs.lemmas.Bool.Decides.{nat_tests}
use Rattle.std.specs.Ordering.{nat_cmp}
use Rattle.std.specs.BTreeSet.{contains}
use Rattle.mega_verdicts.specs.Refusals.{drop_refusal}
use Rattle.mega_verdicts.specs.Waiting.{is_receiver, waits_for}
use Rattle.mega_cluster.specs.declared.cluster.Cluster.{Cluster}
use Rattle.mega_wire.specs.declared.message.Message.{Message}
use Rattle.mega_schedule.specs.declared.world_event.WorldEvent.TheVariants.{Drop}
use Rattle.mega_transcript.specs.declared.item.Item.{Item}
use Rattle.mega_transcript.specs.declared.item.Item.TheVariants.{Dropped}
use Rattle.mega_transcript.specs.Tape.{is_sent, is_taken}
use Rattle.mega_promises.specs.Messages.{is_dropped, message_of}
use Rattle.mega_promises.specs.Runs.{Standing, refusal}
use Rattle.mega_places.specs.declared.mail.Mail.{Mail}
use Rattle.mega_places.specs.Carries.{Carries, is_waiting, message_at}
use Rattle.mega_places.specs.Waits.{goes_to, receiver_of}
use Rattle.mega_places.proofs.Finding.{found_sent}

-- a message has a receiver where one was sent
has_receiver : (message : Option Message) → is_some (receiver_of message) ≡ is_some message
has_receiver None = refl
has_receiver (Some message) = refl

receives : (message : Option Message) (other : ℕ) → is_receiver (receiver_of message) other ≡ goes_to message other
receives None other = refl
receives (Some message) other = refl

was_sent : (mail : Mail) (tape : List Item) (number : ℕ) (to : Option ℕ) → Carries mail tape → to ≡ receiver_of (message_of tape number) → is_some to ≡ is_sent tape number
was_sent mail tape number to r is = ap is_some is ∙ has_receiver (message_of tape number) ∙ found_sent mail tape number r

-- why a message is not dropped
pub drop_told : (c : Cluster) (mail : Mail) (now : Standing) (number : ℕ) (to why : Option ℕ) → Carries mail now.tape → to ≡ receiver_of (message_of now.tape number)
    → why ≡ drop_refusal (is_some to) (contains nat_cmp mail.dropped number) → why ≡ refusal c now (Drop number)
drop_told c mail now number to why r to_is is =
    is ∙ ap (λ s. drop_refusal s (contains nat_cmp mail.dropped number)) (was_sent mail now.tape number to r to_is)
    ∙ ap (drop_refusal (is_sent now.tape number)) (r.dropped number)

may_drop : (s d : Bool) → drop_refusal s d ≡ None → s ≡ true
may_drop true d none = refl
may_drop false d none = cc

-- of all messages the one that is dropped waits no more
ends : (own w g : Bool) → own ≡ g → (not (own && true) && (w && g)) ≡ (false && g)
ends true w g is = refl
ends false w true is = cc
ends false true false is = refl
ends false false false is = refl

others : (own s t d g : Bool) → (not (own && false) && ((s && t && not d) && g)) ≡ ((s && t && not (false || d)) && g)
others true s t d g = refl
others false s t d g = refl

none_waits : (s t g : Bool) → (false && g) ≡ ((s && t && false) && g)
none_waits true true g = refl
none_waits true false g = refl
none_waits false t g = refl

waits_by : (tape : List Item) (number other n : ℕ) (to : Option ℕ) (same : Bool) → (number == n) ≡ same → to ≡ receiver_of (message_of tape number)
    → (not (is_receiver to other && same) && (is_waiting tape n && goes_to (message_of tape n) other))
    ≡ ((is_sent tape n && not (is_taken tape n) && not (same || is_dropped tape n)) && goes_to (message_of tape n) other)
waits_by tape number other n to true same is =
    let e : number ≡ n = grind (arith, nat_tests) in
    ends (is_receiver to other) (is_waiting tape n) (goes_to (message_of tape n) other)
    (ap (λ one. is_receiver one other) is ∙ receives (message_of tape number) other ∙ ap (λ k. goes_to (message_of tape k) other) e)
    ∙ none_waits (is_sent tape n) (not (is_taken tape n)) (goes_to (message_of tape n) other)
waits_by tape number other n to false apart is = others (is_receiver to other) (is_sent tape n) (not (is_taken tape n)) (is_dropped tape n) (goes_to (message_of tape n) other)

pub dropped_on : (old new : Mail) (tape : List Item) (number : ℕ) (to : Option ℕ) → Carries old tape → to ≡ receiver_of (message_of tape number)
    → drop_refusal (is_some to) (contains nat_cmp old.dropped number) ≡ None → new.messages ≡ old.messages
    → ((other n : ℕ) → waits_for new.waiting.items other n ≡ (not (is_receiver to other && number == n) && waits_for old.waiting.items other n))
    → ((n : ℕ) → contains nat_cmp new.dropped n ≡ ((number == n) || contains nat_cmp old.dropped n)) → Carries new (Dropped number ∷ tape)
dropped_on old new tape number to r is none messages waiting dropped = record {
  sent = r.sent ∙ ap length (sym messages);
  messages = λ n. r.messages n ∙ ap (λ ms. message_at ms n) (sym messages);
  waiting = λ other n. waiting other n ∙ ap (λ b. not (is_receiver to other && number == n) && b) (r.waiting other n) ∙ waits_by tape number other n to (number == n) refl is;
  dropped = λ n. dropped n ∙ ap (λ b. (number == n) || b) (r.dropped n);
  taken_sent = λ n took. r.taken_sent n took;
  dropped_sent = λ n drops. sent_still n (number == n) refl drops;
}
  where
    sent_still : (n : ℕ) (same : Bool) → (number == n) ≡ same → (same || is_dropped tape n) ≡ true → is_sent tape n ≡ true
    sent_still n true same drops =
        let e : number ≡ n = grind (arith, nat_tests) in
        subst (λ k. is_sent tape k ≡ true) e (sym (was_sent old tape number to r is) ∙ may_drop (is_some to) (contains nat_cmp old.dropped number) none)
    sent_still n false apart drops = r.dropped_sent n drops

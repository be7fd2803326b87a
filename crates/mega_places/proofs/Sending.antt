-- What is carried once a message is sent.
use Rattle.std.proofs.Common.{◌≡◌, ℕ, ◌+◌, ◌-◌, ◌==◌, ◌&&◌, ◌||◌, not, cond, Bool, true, false, List, [], ◌∷◌, ◌++◌, length, Some, None, refl, sym, ap, subst, ◌∙◌, zero, suc, arith, length-append}
use Rattle.std.proofs.lemmas.Bool.Decides.{nat_tests}
use Rattle.std.specs.List.{slice_get}
use Rattle.std.specs.Ordering.{nat_cmp}
use Rattle.std.specs.BTreeSet.{contains}
use Rattle.mega_wire.specs.declared.message.Message.{Message}
use Rattle.mega_transcript.specs.declared.item.Item.{Item}
use Rattle.mega_transcript.specs.declared.item.Item.TheVariants.{Sent}
use Rattle.mega_transcript.specs.Tape.{is_sent, is_taken, sent_count}
use Rattle.mega_promises.specs.Messages.{is_dropped, message_of}
use Rattle.mega_places.specs.declared.mail.Mail.{Mail}
use Rattle.mega_places.specs.Carries.{Carries, is_waiting, message_at}
use Rattle.mega_places.specs.Waits.{goes_to}
use Rattle.mega_verdicts.specs.Waiting.{waits_for}

pub get_last : {X : Type 0} (xs : List X) (m : X) (n : ℕ) → slice_get (xs ++ m ∷ []) n ≡ cond (length xs == n) (Some m) (slice_get xs n)
get_last [] m zero = refl
get_last [] m (suc n) = let e : (0 == suc n) ≡ false = grind (arith, nat_tests) in ap (λ b. cond b (Some m) None) (sym e)
get_last (x ∷ xs) m zero = let e : (suc (length xs) == 0) ≡ false = grind (arith, nat_tests) in ap (λ b. cond b (Some m) (Some x)) (sym e)
get_last (x ∷ xs) m (suc n) = let e : (suc (length xs) == suc n) ≡ (length xs == n) = grind (arith, nat_tests) in get_last xs m n ∙ ap (λ b. cond b (Some m) (slice_get xs n)) (sym e)

message_at-last : (xs : List Message) (m : Message) (n : ℕ) → message_at (xs ++ m ∷ []) n ≡ cond (length xs + 1 == n) (Some m) (message_at xs n)
message_at-last xs m zero = grind (arith, nat_tests)
message_at-last xs m (suc n) = let e : suc n - 1 ≡ n = omega arith in let last = get_last xs m n in grind (arith, nat_tests)

-- a number that was not sent is neither taken nor dropped, and waits once it is sent
sent_waits : (tape : List Item) (number : ℕ) (message : Message) (n : ℕ) → number ≡ sent_count tape + 1 → ((n : ℕ) → is_taken tape n ≡ true → is_sent tape n ≡ true) → ((n : ℕ) → is_dropped tape n ≡ true → is_sent tape n ≡ true)
    → is_waiting (Sent number message ∷ tape) n ≡ cond (number == n) true (is_waiting tape n)
sent_waits tape number message n next taken dropped = grind (arith, nat_tests)

sent_still : (tape : List Item) (number : ℕ) (message : Message) (n : ℕ) → is_sent tape n ≡ true → is_sent (Sent number message ∷ tape) n ≡ true
sent_still tape number message n sent = grind (arith, nat_tests)

-- a number that was not sent waits for no one
unsent : (tape : List Item) (number : ℕ) → number ≡ sent_count tape + 1 → is_waiting tape number ≡ false
unsent tape number next = let none : is_sent tape number ≡ false = grind (arith, nat_tests) in ap (λ b. b && not (is_taken tape number) && not (is_dropped tape number)) none

first_waits : (a w g : Bool) → w ≡ false → ((a && true) || (w && g)) ≡ a
first_waits true w g none = refl
first_waits false false g none = refl
first_waits false true g none = cc

other_waits : (a x : Bool) → ((a && false) || x) ≡ x
other_waits true x = refl
other_waits false x = refl

-- of all messages the one that is sent waits for its receiver, and others as they did
waits_by : (tape : List Item) (number : ℕ) (message : Message) (to n : ℕ) (t : Bool) → (number == n) ≡ t → number ≡ sent_count tape + 1
    → (((message.to == to) && t) || (is_waiting tape n && goes_to (message_of tape n) to)) ≡ (cond t true (is_waiting tape n) && goes_to (cond t (Some message) (message_of tape n)) to)
waits_by tape number message to n true same next =
    let e : number ≡ n = grind (arith, nat_tests) in first_waits (message.to == to) (is_waiting tape n) (goes_to (message_of tape n) to) (subst (λ k. is_waiting tape k ≡ false) e (unsent tape number next))
waits_by tape number message to n false apart next = other_waits (message.to == to) (is_waiting tape n && goes_to (message_of tape n) to)

sent_by : (old new : Mail) (tape : List Item) (number : ℕ) (message : Message) → Carries old tape → number ≡ length old.messages + 1 → new.messages ≡ old.messages ++ message ∷ []
    → ((to n : ℕ) → waits_for new.waiting.items to n ≡ ((message.to == to && number == n) || waits_for old.waiting.items to n)) → new.dropped ≡ old.dropped → Carries new (Sent number message ∷ tape)
sent_by old new tape number message r next messages waiting dropped = record {
  sent = ap (λ n. n + 1) r.sent ∙ sym (length-append old.messages (message ∷ [])) ∙ ap length (sym messages);
  messages = λ n. ap (cond (number == n) (Some message)) (r.messages n) ∙ ap (λ k. cond (k == n) (Some message) (message_at old.messages n)) next
      ∙ sym (message_at-last old.messages message n) ∙ ap (λ ms. message_at ms n) (sym messages);
  waiting = λ to n. waiting to n ∙ ap (λ b. (message.to == to && number == n) || b) (r.waiting to n)
      ∙ waits_by tape number message to n (number == n) refl counted
      ∙ ap (λ b. b && goes_to (cond (number == n) (Some message) (message_of tape n)) to) (sym (sent_waits tape number message n counted r.taken_sent r.dropped_sent));
  dropped = λ n. ap (λ d. contains nat_cmp d n) dropped ∙ r.dropped n;
  taken_sent = λ n took. sent_still tape number message n (r.taken_sent n took);
  dropped_sent = λ n drops. sent_still tape number message n (r.dropped_sent n drops);
}
  where
    counted : number ≡ sent_count tape + 1
    counted = next ∙ ap (λ k. k + 1) (sym r.sent)

pub sent_on : (old new : Mail) (tape : List Item) (number : ℕ) (message : Message) → Carries old tape → number ≡ length old.messages + 1 → new.messages ≡ old.messages ++ message ∷ []
    → ((to n : ℕ) → waits_for new.waiting.items to n ≡ ((message.to == to && number == n) || waits_for old.waiting.items to n)) → new.dropped ≡ old.dropped → Carries new (Sent (length old.messages + 1) message ∷ tape)
sent_on old new tape number message r next messages waiting dropped =
    subst (λ k. Carries new (Sent k message ∷ tape)) next (sent_by old new tape number message r next messages waiting dropped)

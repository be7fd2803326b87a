-- What is found of a message that can be delivered.
use Rattle.std.proofs.Common.{◌≡◌, ℕ, ◌-◌, ◌&&◌, not, nat_le, nat_lt, Bool, true, false, cond, List, [], ◌∷◌, find, length, Option, Some, None, is_some, refl, sym, ap, ◌∙◌, subst, zero, suc, arith}
use Rattle.std.proofs.lemmas.Bool.Decides.{nat_tests}
use Rattle.std.specs.List.{range_with_len, slice_get}
use Rattle.mega_cluster.specs.declared.cluster.Cluster.{Cluster}
use Rattle.mega_wire.specs.declared.message.Message.{Message}
use Rattle.mega_schedule.specs.declared.world_event.WorldEvent.TheVariants.{Deliver}
use Rattle.mega_transcript.specs.declared.item.Item.{Item}
use Rattle.mega_transcript.specs.Tape.{is_sent, is_taken, sent_count}
use Rattle.mega_promises.specs.Messages.{is_deliverable, is_dropped, message_of, next_delivery, receiver_up}
use Rattle.mega_promises.specs.Runs.{Standing, because, receiver_down, refusal, up}
use Rattle.mega_places.specs.declared.mail.Mail.{Mail}
use Rattle.mega_places.specs.Carries.{Carries, message_at}

found_within : (ms : List Message) (i : ℕ) → is_some (slice_get ms i) ≡ nat_lt i (length ms)
found_within [] i = grind (arith, nat_tests)
found_within (m ∷ ms) zero = grind (arith, nat_tests)
found_within (m ∷ ms) (suc i) = let rest = found_within ms i in grind (arith, nat_tests)

-- a message of a number is there where one of that number was sent
found_at : (ms : List Message) (n : ℕ) → is_some (message_at ms n) ≡ (nat_le 1 n && nat_le n (length ms))
found_at ms zero = grind (arith, nat_tests)
found_at ms (suc i) = let e : suc i - 1 ≡ i = omega arith in let found = found_within ms i in grind (arith, nat_tests)

pub found_sent : (mail : Mail) (tape : List Item) (n : ℕ) → Carries mail tape → is_some (message_of tape n) ≡ is_sent tape n
found_sent mail tape n r = ap is_some (r.messages n) ∙ found_at mail.messages n ∙ ap (λ k. nat_le 1 n && nat_le n k) (sym r.sent)

-- the message that a drain delivers next can be delivered
passes : (p : ℕ → Bool) (xs : List ℕ) (x : ℕ) → find p xs ≡ Some x → p x ≡ true
passes p [] x is = cc
passes p (y ∷ ys) x is = by (p y) refl is (passes p ys x)
  where
    by : (t : Bool) → p y ≡ t → cond t (Some y) (find p ys) ≡ Some x → (find p ys ≡ Some x → p x ≡ true) → p x ≡ true
    by true holds same rest = let e : y ≡ x = cc in subst (λ z. p z ≡ true) e holds
    by false fails same rest = rest same

next_of : (c : Cluster) (now : Standing) (n : ℕ) (message : Option Message) → is_some message ≡ is_sent now.tape n → message_of now.tape n ≡ message → not (is_taken now.tape n) && not (is_dropped now.tape n) && receiver_up (up now) message ≡ true
    → because (not (is_sent now.tape n)) 3 (because (is_dropped now.tape n) 4 (because (receiver_down now message) 1 None)) ≡ None
next_of c now n None sent is can = by (not (is_taken now.tape n)) (not (is_dropped now.tape n)) can
  where
    by : (a b : Bool) → a && b && false ≡ true → because (not (is_sent now.tape n)) 3 (because (is_dropped now.tape n) 4 (because false 1 None)) ≡ None
    by true true can = cc
    by true false can = cc
    by false b can = cc
next_of c now n (Some message) sent is can =
    ap (λ b. because (not b) 3 (because (is_dropped now.tape n) 4 (because (not (up now message.to)) 1 None))) (sym sent)
    ∙ by (not (is_taken now.tape n)) (is_dropped now.tape n) (up now message.to) can
  where
    by : (a b u : Bool) → a && not b && u ≡ true → because b 4 (because (not u) 1 None) ≡ None
    by true true u can = cc
    by true false true can = refl
    by true false false can = cc
    by false true u can = cc
    by false false u can = cc

pub next_happens : (c : Cluster) (mail : Mail) (now : Standing) (n : ℕ) → Carries mail now.tape → next_delivery (up now) now.tape ≡ Some n → refusal c now (Deliver n) ≡ None
next_happens c mail now n r is =
    next_of c now n (message_of now.tape n) (found_sent mail now.tape n r) refl (passes (is_deliverable (up now) now.tape) (range_with_len 1 (sent_count now.tape)) n is)

-- no message is handed over that was not sent, or whose receiver is down
pub none_refused : (c : Cluster) (mail : Mail) (now : Standing) (n : ℕ) → Carries mail now.tape → message_of now.tape n ≡ None → refusal c now (Deliver n) ≡ None → ⊥
none_refused c mail now n r is none = by (is_sent now.tape n) (sym (found_sent mail now.tape n r) ∙ ap is_some is) none
  where
    by : (t : Bool) → t ≡ false → because (not t) 3 (because (is_dropped now.tape n) 4 (because (receiver_down now (message_of now.tape n)) 1 None)) ≡ None → ⊥
    by true sent none = cc
    by false sent none = cc

pub down_refused : (c : Cluster) (now : Standing) (n : ℕ) (message : Message) → message_of now.tape n ≡ Some message → up now message.to ≡ false → refusal c now (Deliver n) ≡ None → ⊥
down_refused c now n message is down none = by (is_sent now.tape n) (is_dropped now.tape n) (receiver_down now (message_of now.tape n)) (ap (receiver_down now) is ∙ ap not down) none
  where
    by : (s d t : Bool) → t ≡ true → because (not s) 3 (because d 4 (because t 1 None)) ≡ None → ⊥
    by false d t down none = cc
    by true true t down none = cc
    by true false true down none = cc
    by true false false down none = cc

-- The least number of those that wait for nodes that are up is the message that a drain delivers next.
use Rattle.std.proofs.Common.{◌≡◌, ◌≤◌, ◌<◌, ℕ, ◌+◌, ◌-◌, ◌==◌, ◌&&◌, ◌||◌, cond, not, Bool, true, false, nat_le, List, length, Option, Some, None, is_some, find, refl, sym, ap, ◌∙◌, subst, zero, suc, arith}
use Rattle.std.proofs.lemmas.Bool.Decides.{nat_tests}
use Rattle.std.proofs.lemmas.Option.{slice_get_past}
use Rattle.std.specs.BTreeSet.{BTreeSet}
use Rattle.std.specs.List.{range_with_len}
use Rattle.mega_wire.specs.declared.message.Message.{Message}
use Rattle.mega_transcript.specs.declared.item.Item.{Item}
use Rattle.mega_transcript.specs.Tape.{is_sent, is_taken, sent_count}
use Rattle.mega_promises.specs.Messages.{is_deliverable, is_dropped, message_of, next_delivery, receiver_up}
use Rattle.mega_promises.specs.Runs.{Standing, up}
use Rattle.mega_places.specs.declared.mail.Mail.{Mail}
use Rattle.mega_places.specs.declared.place.Place.{Place}
use Rattle.mega_places.specs.Carries.{Carries, is_waiting, message_at}
use Rattle.mega_verdicts.specs.Least.{IsLeast}
use Rattle.mega_places.specs.Members.{is_up_at}
use Rattle.mega_places.specs.Waits.{goes_to, waits_among}
use Rattle.mega_verdicts.specs.Waiting.{waits_for}
use Rattle.mega_places.proofs.Finding.{found_sent}
use Rattle.mega_places.proofs.Joining.{up_within}

none_found : (p : ℕ → Bool) (a n : ℕ) → ((q : ℕ) → p q ≡ false) → find p (range_with_len a n) ≡ None
none_found p a zero none = refl
none_found p a (suc n) none = ap (λ b. cond b (Some a) (find p (range_with_len (a + 1) n))) (none a) ∙ none_found p (a + 1) n none

least_found : (p : ℕ → Bool) (a n k : ℕ) → a ≤ k → k < a + n → p k ≡ true → ((q : ℕ) → q < k → p q ≡ false) → find p (range_with_len a n) ≡ Some k
least_found p a zero k low high is least = absurd (omega arith)
least_found p a (suc n) k low high is least =
    let high2 : k < (a + 1) + n = omega arith in
    go (a == k) refl (λ low2. least_found p (a + 1) n k low2 high2 is least)
  where
    go : (t : Bool) → (a == k) ≡ t → ((a + 1) ≤ k → find p (range_with_len (a + 1) n) ≡ Some k) → cond (p a) (Some a) (find p (range_with_len (a + 1) n)) ≡ Some k
    go true same rest = let e : a ≡ k = grind (arith, nat_tests) in ap (λ b. cond b (Some a) (find p (range_with_len (a + 1) n))) (ap p e ∙ is) ∙ ap Some e
    go false other rest =
        let below : a < k = grind (arith, nat_tests) in let low2 : (a + 1) ≤ k = omega arith in
        ap (λ b. cond b (Some a) (find p (range_with_len (a + 1) n))) (least a below) ∙ rest low2

-- no message has a number that was not sent
unsent_none : (ms : List Message) (q : ℕ) → nat_le 1 q && nat_le q (length ms) ≡ false → message_at ms q ≡ None
unsent_none ms zero none = refl
unsent_none ms (suc i) none =
    let e : suc i - 1 ≡ i = omega arith in let past : length ms ≤ i = grind (arith, nat_tests) in let at = slice_get_past ms i past in grind (arith, nat_tests)

sent_if : (mail : Mail) (tape : List Item) (ups : ℕ → Bool) (q : ℕ) → Carries mail tape → receiver_up ups (message_of tape q) ≡ true → is_sent tape q ≡ true
sent_if mail tape ups q r is = go (is_sent tape q) refl
  where
    go : (t : Bool) → is_sent tape q ≡ t → is_sent tape q ≡ true
    go true h = h
    go false h =
        let none = r.messages q ∙ unsent_none mail.messages q (ap (λ k. nat_le 1 q && nat_le q k) (sym r.sent) ∙ h) in
        let no : false ≡ true = sym (ap (receiver_up ups) none) ∙ is in cc

and3 : (a b c : Bool) → a && b && c ≡ true → (a ≡ true) × (b ≡ true) × (c ≡ true)
and3 true true c is = (refl, refl, is)
and3 true false c is = cc
and3 false b c is = cc

-- ---- the least of a test that is the same

pub least_same : (p q : ℕ → Bool) (least : Option ℕ) → ((n : ℕ) → p n ≡ q n) → IsLeast p least → IsLeast q least
least_same p q None same is = λ n. sym (same n) ∙ is n
least_same p q (Some k) same is = (sym (same k) ∙ is.0, λ n less. sym (same n) ∙ is.1 n less)

-- ---- what waits for the nodes that are up

-- the receiver of a message is one of the first nodes, and up
abbrev is_within : List Place → ℕ → Option Message → Bool
is_within places count None = false
is_within places count (Some message) = (nat_le 1 message.to && nat_le message.to count) && is_up_at places message.to

no_one : (w u : Bool) → ((w && false) || (u && (w && false))) ≡ (w && false)
no_one true true = refl
no_one true false = refl
no_one false true = refl
no_one false false = refl

among : (waiting : List (BTreeSet ℕ)) (places : List Place) (count n : ℕ) (w : Bool) (m : Option Message) → ((to : ℕ) → waits_for waiting to n ≡ (w && goes_to m to)) → waits_among waiting places count n ≡ (w && is_within places count m)
among waiting places zero n w m waits = by w m
  where
    none : (w : Bool) → false ≡ (w && false)
    none true = refl
    none false = refl

    by : (w : Bool) (m : Option Message) → false ≡ (w && is_within places 0 m)
    by w None = none w
    by w (Some message) = let past : (nat_le 1 message.to && nat_le message.to 0) ≡ false = grind (arith, nat_tests) in none w ∙ ap (λ t. w && (t && is_up_at places message.to)) (sym past)
among waiting places (suc count) n w None waits =
    ap (λ b. b || (is_up_at places (suc count) && waits_for waiting (suc count) n)) (among waiting places count n w None waits)
    ∙ ap (λ b. (w && false) || (is_up_at places (suc count) && b)) (waits (suc count)) ∙ no_one w (is_up_at places (suc count))
among waiting places (suc count) n w (Some message) waits =
    ap (λ b. b || (is_up_at places (suc count) && waits_for waiting (suc count) n)) (among waiting places count n w (Some message) waits)
    ∙ ap (λ b. (w && is_within places count (Some message)) || (is_up_at places (suc count) && b)) (waits (suc count))
    ∙ by (message.to == suc count) refl
  where
    last : (w a u : Bool) → a ≡ false → ((w && (a && u)) || (u && (w && true))) ≡ (w && (true && u))
    last true a true none = ap (λ t. (t && true) || true) none
    last true a false none = ap (λ t. (t && false) || false) none
    last false a true none = refl
    last false a false none = refl

    other : (x u w : Bool) → (x || (u && (w && false))) ≡ x
    other true u w = refl
    other false true true = refl
    other false true false = refl
    other false false w = refl

    by : (t : Bool) → (message.to == suc count) ≡ t → ((w && ((nat_le 1 message.to && nat_le message.to count) && is_up_at places message.to)) || (is_up_at places (suc count) && (w && t)))
        ≡ (w && ((nat_le 1 message.to && nat_le message.to (suc count)) && is_up_at places message.to))
    by true same =
        let e : message.to ≡ suc count = grind (arith, nat_tests) in
        let past : (nat_le 1 message.to && nat_le message.to count) ≡ false = grind (arith, nat_tests) in
        let here : (nat_le 1 message.to && nat_le message.to (suc count)) ≡ true = grind (arith, nat_tests) in
        ap (λ k. (w && ((nat_le 1 message.to && nat_le message.to count) && is_up_at places message.to)) || (is_up_at places k && (w && true))) (sym e)
        ∙ last w (nat_le 1 message.to && nat_le message.to count) (is_up_at places message.to) past
        ∙ ap (λ t. w && (t && is_up_at places message.to)) (sym here)
    by false apart =
        let same : (nat_le 1 message.to && nat_le message.to count) ≡ (nat_le 1 message.to && nat_le message.to (suc count)) = grind (arith, nat_tests) in
        other (w && ((nat_le 1 message.to && nat_le message.to count) && is_up_at places message.to)) (is_up_at places (suc count)) w
        ∙ ap (λ t. w && (t && is_up_at places message.to)) same

-- those are the messages that can be delivered
deliverable : (places : List Place) (now : Standing) (n : ℕ) (m : Option Message) → is_some m ≡ is_sent now.tape n → ((me : ℕ) → up now me ≡ is_up_at places me)
    → (is_waiting now.tape n && is_within places (length places) m) ≡ (not (is_taken now.tape n) && not (is_dropped now.tape n) && receiver_up (up now) m)
deliverable places now n None sent ups = by (is_waiting now.tape n) (not (is_taken now.tape n)) (not (is_dropped now.tape n))
  where
    by : (w a b : Bool) → (w && false) ≡ (a && b && false)
    by true true true = refl
    by true true false = refl
    by true false b = refl
    by false true true = refl
    by false true false = refl
    by false false b = refl
deliverable places now n (Some message) sent ups =
    ap (λ t. (t && not (is_taken now.tape n) && not (is_dropped now.tape n)) && is_within places (length places) (Some message)) (sym sent)
    ∙ ap (λ t. (not (is_taken now.tape n) && not (is_dropped now.tape n)) && t) (here (is_up_at places message.to) refl)
    ∙ by (not (is_taken now.tape n)) (not (is_dropped now.tape n)) (is_up_at places message.to)
    ∙ ap (λ t. not (is_taken now.tape n) && not (is_dropped now.tape n) && t) (sym (ups message.to))
  where
    here : (t : Bool) → is_up_at places message.to ≡ t → ((nat_le 1 message.to && nat_le message.to (length places)) && t) ≡ t
    here true is = let within = up_within places message.to is in let least = within.0 in let most = within.1 in grind (arith, nat_tests)
    here false is = never (nat_le 1 message.to && nat_le message.to (length places))
      where
        never : (a : Bool) → (a && false) ≡ false
        never true = refl
        never false = refl

    by : (a b u : Bool) → ((a && b) && u) ≡ (a && b && u)
    by true b u = refl
    by false b u = refl

pub among_deliverable : (mail : Mail) (places : List Place) (now : Standing) (n : ℕ) → Carries mail now.tape → ((me : ℕ) → up now me ≡ is_up_at places me)
    → waits_among mail.waiting.items places (length places) n ≡ is_deliverable (up now) now.tape n
among_deliverable mail places now n r ups =
    among mail.waiting.items places (length places) n (is_waiting now.tape n) (message_of now.tape n) (λ to. r.waiting to n)
    ∙ deliverable places now n (message_of now.tape n) (found_sent mail now.tape n r) ups

-- what a drain delivers next
pub next_found : (mail : Mail) (places : List Place) (now : Standing) (first : Option ℕ) → Carries mail now.tape → ((me : ℕ) → up now me ≡ is_up_at places me)
    → IsLeast (waits_among mail.waiting.items places (length places)) first → first ≡ next_delivery (up now) now.tape
next_found mail places now first r ups is =
    by first (least_same (waits_among mail.waiting.items places (length places)) (is_deliverable (up now) now.tape) first (λ n. among_deliverable mail places now n r ups) is)
  where
    was_sent : (q : ℕ) → is_deliverable (up now) now.tape q ≡ true → is_sent now.tape q ≡ true
    was_sent q can = sent_if mail now.tape (up now) q r (and3 (not (is_taken now.tape q)) (not (is_dropped now.tape q)) (receiver_up (up now) (message_of now.tape q)) can).2

    by : (first : Option ℕ) → IsLeast (is_deliverable (up now) now.tape) first → first ≡ find (is_deliverable (up now) now.tape) (range_with_len 1 (sent_count now.tape))
    by None none = sym (none_found (is_deliverable (up now) now.tape) 1 (sent_count now.tape) none)
    by (Some k) least =
        let sent = was_sent k least.0 in
        let low : 1 ≤ k = grind (arith, nat_tests) in
        let high : k < 1 + sent_count now.tape = grind (arith, nat_tests) in
        sym (least_found (is_deliverable (up now) now.tape) 1 (sent_count now.tape) k low high least.0 least.1)

-- one more node
pub among_more : (waiting : List (BTreeSet ℕ)) (places : List Place) (before : ℕ) (least : Option ℕ) → IsLeast (λ n. waits_among waiting places before n || (is_up_at places (before + 1) && waits_for waiting (before + 1) n)) least
    → IsLeast (waits_among waiting places (before + 1)) least
among_more waiting places before least is =
    let e : suc before ≡ before + 1 = omega arith in
    subst (λ k. IsLeast (waits_among waiting places k) least) e
    (least_same (λ n. waits_among waiting places before n || (is_up_at places (before + 1) && waits_for waiting (before + 1) n)) (waits_among waiting places (suc before)) least
    (λ n. ap (λ k. waits_among waiting places before n || (is_up_at places k && waits_for waiting k n)) (sym e)) is)

-- What is carried where nodes note what they met: no note sends, takes or drops a message.
use Rattle.std.proofs.Common.{◌≡◌, ℕ, ◌+◌, ◌&&◌, not, nat_le, cond, Bool, true, false, List, [], ◌∷◌, ◌++◌, flat_map, length, refl, sym, ap, ◌∙◌, subst, arith, suc, length-append, append_assoc}
use Rattle.mega_cluster.specs.declared.cluster.Cluster.{Cluster}
use Rattle.mega_wire.specs.declared.message.Message.{Message}
use Rattle.mega_transcript.specs.declared.item.Item.{Item}
use Rattle.mega_transcript.specs.declared.item.Item.TheVariants.{Counts as CountsItem, Lapse as LapseItem, Sent, Unsafe}
use Rattle.mega_transcript.specs.Tape.{is_sent, is_taken, onto, sent_count}
use Rattle.mega_transcript.proofs.Tapes.{onto-append}
use Rattle.mega_rules.specs.Met.{Met, Starts, Crashes, Ticks, Begins, Takes, Sends, Unsends, Grants, Lapses, Counts, Forgets, Serves, Loses, Validates, Invalidates, Decides, Applies, Answers}
use Rattle.mega_rules.specs.Operations.{Node}
use Rattle.mega_promises.specs.Items.{number, numbered, shown}
use Rattle.mega_promises.specs.Messages.{is_dropped, is_unsafe, message_of}
use Rattle.mega_promises.specs.Runs.{breaks, with_items}
use Rattle.mega_places.specs.declared.mail.Mail.{Mail}
use Rattle.mega_places.specs.Carries.{Carries, is_waiting}
use Rattle.mega_places.specs.Waits.{goes_to}
use Rattle.mega_places.proofs.Plain.{with_append}

-- a tape that tells the same of all messages
pub record TellsSame (old new : List Item) : Type 0 where
  pub count : sent_count new ≡ sent_count old
  pub message : (n : ℕ) → message_of new n ≡ message_of old n
  pub took : (n : ℕ) → is_taken new n ≡ is_taken old n
  pub drops : (n : ℕ) → is_dropped new n ≡ is_dropped old n

pub same_on : (mail : Mail) (old new : List Item) → TellsSame old new → Carries mail old → Carries mail new
same_on mail old new s r = record {
  sent = s.count ∙ r.sent;
  messages = λ n. s.message n ∙ r.messages n;
  waiting = λ to n. r.waiting to n ∙ sym (ap (λ b. b && goes_to (message_of new n) to) (waits n) ∙ ap (λ m. is_waiting old n && goes_to m to) (s.message n));
  dropped = λ n. r.dropped n ∙ sym (s.drops n);
  taken_sent = λ n took. is_sent_too n ∙ r.taken_sent n (sym (s.took n) ∙ took);
  dropped_sent = λ n drops. is_sent_too n ∙ r.dropped_sent n (sym (s.drops n) ∙ drops);
}
  where
    is_sent_too : (n : ℕ) → is_sent new n ≡ is_sent old n
    is_sent_too n = ap (λ k. nat_le 1 n && nat_le n k) s.count

    waits : (n : ℕ) → is_waiting new n ≡ is_waiting old n
    waits n = ap (λ b. b && not (is_taken new n) && not (is_dropped new n)) (is_sent_too n)
        ∙ ap (λ b. is_sent old n && not b && not (is_dropped new n)) (s.took n) ∙ ap (λ b. is_sent old n && not (is_taken old n) && not b) (s.drops n)

same_all : (tape : List Item) → TellsSame tape tape
same_all tape = record { count = refl; message = λ n. refl; took = λ n. refl; drops = λ n. refl }

shown_same : (me : ℕ) (one : Met) (tape : List Item) → TellsSame tape (onto (shown me one) tape)
shown_same me (Starts start) tape = record { count = refl; message = λ n. refl; took = λ n. refl; drops = λ n. refl }
shown_same me Crashes tape = record { count = refl; message = λ n. refl; took = λ n. refl; drops = λ n. refl }
shown_same me (Ticks now) tape = record { count = refl; message = λ n. refl; took = λ n. refl; drops = λ n. refl }
shown_same me (Begins op text) tape = record { count = refl; message = λ n. refl; took = λ n. refl; drops = λ n. refl }
shown_same me (Takes message) tape = same_all tape
shown_same me (Sends message) tape = same_all tape
shown_same me (Unsends message) tape = record { count = refl; message = λ n. refl; took = λ n. refl; drops = λ n. refl }
shown_same me (Grants other epoch) tape = record { count = refl; message = λ n. refl; took = λ n. refl; drops = λ n. refl }
shown_same me (Lapses other epoch) tape = record { count = refl; message = λ n. refl; took = λ n. refl; drops = λ n. refl }
shown_same me (Counts cell epoch) tape = record { count = refl; message = λ n. refl; took = λ n. refl; drops = λ n. refl }
shown_same me (Forgets cell epoch) tape = record { count = refl; message = λ n. refl; took = λ n. refl; drops = λ n. refl }
shown_same me (Serves epoch) tape = record { count = refl; message = λ n. refl; took = λ n. refl; drops = λ n. refl }
shown_same me (Loses epoch) tape = record { count = refl; message = λ n. refl; took = λ n. refl; drops = λ n. refl }
shown_same me (Validates group position) tape = record { count = refl; message = λ n. refl; took = λ n. refl; drops = λ n. refl }
shown_same me (Invalidates group position) tape = record { count = refl; message = λ n. refl; took = λ n. refl; drops = λ n. refl }
shown_same me (Decides group position entry) tape = record { count = refl; message = λ n. refl; took = λ n. refl; drops = λ n. refl }
shown_same me (Applies group position) tape = record { count = refl; message = λ n. refl; took = λ n. refl; drops = λ n. refl }
shown_same me (Answers op answer) tape = record { count = refl; message = λ n. refl; took = λ n. refl; drops = λ n. refl }

-- so it is where the first note that shows that leases are not safe is followed by this
then_same : (first second third : List Item) → TellsSame first second → TellsSame second third → TellsSame first third
then_same first second third s t = record {
  count = t.count ∙ s.count;
  message = λ n. t.message n ∙ s.message n;
  took = λ n. t.took n ∙ s.took n;
  drops = λ n. t.drops n ∙ s.drops n;
}

judged_same : (unsafe : Bool) (item : Item) (tape : List Item) → TellsSame tape (item ∷ tape) → TellsSame tape (cond unsafe (Unsafe ∷ item ∷ tape) (item ∷ tape))
judged_same true item tape s = record { count = s.count; message = s.message; took = s.took; drops = s.drops }
judged_same false item tape s = s

judged_shown : (c : Cluster) (node : ℕ → Node) (me : ℕ) (one : Met) (tape : List Item) → TellsSame tape (with_items c node tape (shown me one))
judged_shown c node me (Starts start) tape = shown_same me (Starts start) tape
judged_shown c node me Crashes tape = shown_same me Crashes tape
judged_shown c node me (Ticks now) tape = shown_same me (Ticks now) tape
judged_shown c node me (Begins op text) tape = shown_same me (Begins op text) tape
judged_shown c node me (Takes message) tape = shown_same me (Takes message) tape
judged_shown c node me (Sends message) tape = shown_same me (Sends message) tape
judged_shown c node me (Unsends message) tape = shown_same me (Unsends message) tape
judged_shown c node me (Grants other epoch) tape = shown_same me (Grants other epoch) tape
judged_shown c node me (Lapses other epoch) tape =
    judged_same (breaks c node (LapseItem me (number other) epoch) && not (is_unsafe tape)) (LapseItem me (number other) epoch) tape (shown_same me (Lapses other epoch) tape)
judged_shown c node me (Counts cell epoch) tape =
    judged_same (breaks c node (CountsItem (number me) cell epoch) && not (is_unsafe tape)) (CountsItem (number me) cell epoch) tape (shown_same me (Counts cell epoch) tape)
judged_shown c node me (Forgets cell epoch) tape = shown_same me (Forgets cell epoch) tape
judged_shown c node me (Serves epoch) tape = shown_same me (Serves epoch) tape
judged_shown c node me (Loses epoch) tape = shown_same me (Loses epoch) tape
judged_shown c node me (Validates group position) tape = shown_same me (Validates group position) tape
judged_shown c node me (Invalidates group position) tape = shown_same me (Invalidates group position) tape
judged_shown c node me (Decides group position entry) tape = shown_same me (Decides group position entry) tape
judged_shown c node me (Applies group position) tape = shown_same me (Applies group position) tape
judged_shown c node me (Answers op answer) tape = shown_same me (Answers op answer) tape

pub notes_same : (c : Cluster) (node : ℕ → Node) (me : ℕ) (notes : List Met) (tape : List Item) → TellsSame tape (with_items c node tape (flat_map (shown me) notes))
notes_same c node me [] tape = same_all tape
notes_same c node me (one ∷ notes) tape =
    subst (TellsSame tape) (sym (with_append c node (shown me one) (flat_map (shown me) notes) tape))
    (then_same tape (with_items c node tape (shown me one)) (with_items c node (with_items c node tape (shown me one)) (flat_map (shown me) notes))
    (judged_shown c node me one tape) (notes_same c node me notes (with_items c node tape (shown me one))))

pub shown_on : (mail : Mail) (me : ℕ) (one : Met) (tape : List Item) → Carries mail tape → Carries mail (onto (shown me one) tape)
shown_on mail me one tape r = same_on mail tape (onto (shown me one) tape) (shown_same me one tape) r

-- one more message, numbered
pub numbered_last : (n : ℕ) (xs : List Message) (m : Message) → numbered n (xs ++ m ∷ []) ≡ numbered n xs ++ Sent (n + length xs) m ∷ []
numbered_last n [] m = let e : n + 0 ≡ n = omega arith in ap (λ k. Sent k m ∷ []) (sym e)
numbered_last n (x ∷ xs) m = ap (λ items. Sent n x ∷ items) (numbered_last (n + 1) xs m ∙ ap (λ k. numbered (n + 1) xs ++ Sent k m ∷ []) (moved n (length xs)))
  where
    moved : (a b : ℕ) → a + 1 + b ≡ a + suc b
    moved a b = omega arith

pub onto_last : (n : ℕ) (xs : List Message) (m : Message) (tape : List Item) → onto (numbered n (xs ++ m ∷ [])) tape ≡ Sent (n + length xs) m ∷ onto (numbered n xs) tape
onto_last n xs m tape = ap (λ items. onto items tape) (numbered_last n xs m) ∙ onto-append (numbered n xs) (Sent (n + length xs) m ∷ []) tape

-- the next message of those that are sent in a row
next_of : (xs ys messages : List Message) → messages ≡ xs ++ ys → length messages + 1 ≡ (length xs + 1) + length ys
next_of xs ys messages is = ap (λ ms. length ms + 1) is ∙ ap (λ n. n + 1) (length-append xs ys) ∙ moved (length xs) (length ys)
  where
    moved : (a b : ℕ) → (a + b) + 1 ≡ (a + 1) + b
    moved a b = omega arith

pub sent_next : (mail : Mail) (xs ys messages : List Message) (m : Message) (before : List Item) → messages ≡ xs ++ ys
    → Carries mail (Sent (length messages + 1) m ∷ onto (numbered (length xs + 1) ys) before) → Carries mail (onto (numbered (length xs + 1) (ys ++ m ∷ [])) before)
sent_next mail xs ys messages m before is r =
    subst (Carries mail) (sym (onto_last (length xs + 1) ys m before))
    (subst (λ k. Carries mail (Sent k m ∷ onto (numbered (length xs + 1) ys) before)) (next_of xs ys messages is) r)

pub shown_next : (first items new : List Item) (xs ys messages : List Message) (m : Message) (number : ℕ) → number ≡ length messages + 1 → messages ≡ xs ++ ys
    → items ≡ first ++ numbered (length xs + 1) ys → new ≡ items ++ Sent number m ∷ [] → new ≡ first ++ numbered (length xs + 1) (ys ++ m ∷ [])
shown_next first items new xs ys messages m number next is were now =
    now ∙ ap (λ k. items ++ Sent k m ∷ []) (next ∙ next_of xs ys messages is) ∙ ap (λ t. t ++ Sent (length xs + 1 + length ys) m ∷ []) were
    ∙ append_assoc first (numbered (length xs + 1) ys) (Sent (length xs + 1 + length ys) m ∷ [])
    ∙ ap (λ t. first ++ t) (sym (numbered_last (length xs + 1) ys m))

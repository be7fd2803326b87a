-- What a step leaves of the messages that wait: the one that it takes waits no more, and those that it sends do.
use Rattle.std.proofs.Common.{◌≡◌, ◌⊎◌, inl, inr, ℕ, ◌+◌, ◌==◌, ◌&&◌, ◌||◌, ◌≤◌, ◌<◌, Bool, true, false, not, cond, List, [], ◌∷◌, ◌++◌, flat_map, Some, refl, sym, ap, ◌∙◌, subst, arith}
use Rattle.std.proofs.lemmas.Bool.Decides.{nat_tests}
use Rattle.std.proofs.lemmas.Option.{same_Some}
use Rattle.std.proofs.lemmas.Bool.{or_parts}
use Rattle.mega_base.specs.declared.names.GroupId.{GroupId}
use Rattle.mega_base.specs.declared.names.OpId.{OpId}
use Rattle.mega_cluster.specs.declared.cluster.Cluster.{Cluster}
use Rattle.mega_outcome.specs.declared.answer.Answer.{Answer}
use Rattle.mega_entry.specs.declared.content.Content.{Content}
use Rattle.mega_wire.specs.declared.message.Message.{Message}
use Rattle.mega_leased_laws.specs.of_run_laws.of_tape_laws.of_promises.of_transcript.declared.item.Item.{Item}
use Rattle.mega_leased_laws.specs.of_run_laws.of_tape_laws.of_promises.of_transcript.declared.item.Item.TheVariants.{Answer as AnswerItem, Decide, Dropped, Sent, Taken, Unsafe}
use Rattle.mega_leased_laws.specs.of_run_laws.of_tape_laws.of_promises.of_transcript.Tape.{is_taken, sent_count}
use Rattle.mega_leased_laws.specs.of_run_laws.of_tape_laws.of_promises.of_rules.Met.{Met, Crashes, Decides, Answers}
use Rattle.mega_leased_laws.specs.of_run_laws.of_tape_laws.of_promises.of_rules.Operations.{Node}
use Rattle.mega_leased_laws.specs.of_run_laws.of_tape_laws.of_promises.Items.{number, numbered, shown}
use Rattle.mega_leased_laws.specs.of_run_laws.of_tape_laws.of_promises.Messages.{is_dropped, is_unsafe, message_of}
use Rattle.mega_leased_laws.specs.of_run_laws.of_tape_laws.of_promises.Promises.{Stands}
use Rattle.mega_leased_laws.specs.of_run_laws.of_tape_laws.of_promises.Runs.{breaks, with_item, with_items}
use Rattle.mega_leased_laws.specs.of_run_laws.Justified.{Each}
use Rattle.mega_leased_laws.proofs.of_run_laws.Shown.{IsPlain, notes_plain, shown_plain}
use Rattle.mega_leased_laws.proofs.of_run_laws.Noted.{with_append}
use Rattle.mega_calm_laws.specs.Waiting.{IsAwaited, IsNumbered, Waits}

-- ---- lists

abbrev pub Among : {X : Type 0} → X → List X → Type 0
Among x [] = ⊥
Among x (y ∷ ys) = (y ≡ x) ⊎ Among x ys

pub among_left : {X : Type 0} (x : X) (xs ys : List X) → Among x xs → Among x (xs ++ ys)
among_left x [] ys h = absurd h
among_left x (y ∷ xs) ys (inl e) = inl e
among_left x (y ∷ xs) ys (inr h) = inr (among_left x xs ys h)

pub among_right : {X : Type 0} (x : X) (xs ys : List X) → Among x ys → Among x (xs ++ ys)
among_right x [] ys h = h
among_right x (y ∷ xs) ys h = inr (among_right x xs ys h)

pub among_parts : {X : Type 0} (x : X) (xs ys : List X) → Among x (xs ++ ys) → Among x xs ⊎ Among x ys
among_parts x [] ys h = inr h
among_parts x (y ∷ xs) ys (inl e) = inl (inl e)
among_parts x (y ∷ xs) ys (inr h) = elim (among_parts x xs ys h) [ inl a ↦ inl (inr a) | inr b ↦ inr b ]

pub each_of : {X : Type 0} (P : X → Type 0) (x : X) (xs : List X) → Each P xs → Among x xs → P x
each_of P x [] h i = absurd i
each_of P x (y ∷ xs) h (inl e) = subst P e h.0
each_of P x (y ∷ xs) h (inr i) = each_of P x xs h.1 i

pub apart_above : (n k : ℕ) → k < n → (n == k) ≡ false
apart_above n k less = grind (arith, nat_tests)

pub apart_below : (n k : ℕ) → n < k → (n == k) ≡ false
apart_below n k less = grind (arith, nat_tests)

pub number_is : (n k : ℕ) → (n == k) ≡ true → n ≡ k
number_is n k h = grind (arith, nat_tests)

pub number_self : (n : ℕ) → (n == n) ≡ true
number_self n = grind (arith, nat_tests)

pub apart_turned : (a b : ℕ) → (a == b) ≡ false → (b == a) ≡ false
apart_turned a b h = grind (arith, nat_tests)

below_next : (n k c : ℕ) → n ≡ c + 1 → k ≤ c + 1 → (n == k) ≡ false → k ≤ c
below_next n k c is le apart = grind (arith, nat_tests)

-- ---- what a tape that grows leaves of its messages

-- these wait more, and of those that waited the gone ones wait no more
pub record Mailed (old new : List Item) (gone : ℕ → Bool) (ms : List Message) : Type 0 where
  pub keeps : (k : ℕ) (m : Message) → gone k ≡ false → Waits old k m → Waits new k m
  pub comes : (k : ℕ) (m : Message) → Waits new k m → ((gone k ≡ false) × Waits old k m) ⊎ Among m ms
  pub sends : (m : Message) → Among m ms → IsAwaited new m
  pub numbered : IsNumbered new
  pub stood : (item : Item) → Stands item old → Stands item new

abbrev pub none_gone : ℕ → Bool
none_gone k = false

pub mailed_then : (old mid new : List Item) (gone : ℕ → Bool) (xs ys : List Message) → Mailed old mid gone xs → Mailed mid new none_gone ys → Mailed old new gone (xs ++ ys)
mailed_then old mid new gone xs ys a b = record {
  keeps = λ k m not_gone w. b.keeps k m refl (a.keeps k m not_gone w);
  comes = λ k m w. elim (b.comes k m w) [
    | inl early ↦ elim (a.comes k m early.1) [ inl first ↦ inl first | inr i ↦ inr (among_left m xs ys i) ]
    | inr i ↦ inr (among_right m xs ys i)
  ];
  sends = λ m i. elim (among_parts m xs ys i) [
    | inl first ↦ (let r = a.sends m first in record { number = r.number; waits = b.keeps r.number m refl r.waits })
    | inr second ↦ b.sends m second
  ];
  numbered = b.numbered;
  stood = λ item s. b.stood item (a.stood item s);
}

-- ---- items that are no message

record SameMail (old new : List Item) : Type 0 where
  message : (k : ℕ) → message_of new k ≡ message_of old k
  taken : (k : ℕ) → is_taken new k ≡ is_taken old k
  dropped : (k : ℕ) → is_dropped new k ≡ is_dropped old k
  count : sent_count new ≡ sent_count old
  stood : (item : Item) → Stands item old → Stands item new

same_mail : (tape : List Item) → SameMail tape tape
same_mail tape = record { message = λ k. refl; taken = λ k. refl; dropped = λ k. refl; count = refl; stood = λ item s. s }

same_then : (old mid new : List Item) → SameMail old mid → SameMail mid new → SameMail old new
same_then old mid new a b = record {
  message = λ k. b.message k ∙ a.message k;
  taken = λ k. b.taken k ∙ a.taken k;
  dropped = λ k. b.dropped k ∙ a.dropped k;
  count = b.count ∙ a.count;
  stood = λ item s. b.stood item (a.stood item s);
}

same_item : (item : Item) (tape : List Item) → IsPlain item → SameMail tape (item ∷ tape)
same_item (Taken k) tape h = absurd h
same_item (Dropped k) tape h = absurd h
same_item (Sent k m) tape h = absurd h
same_item _ tape h = record { message = λ k. refl; taken = λ k. refl; dropped = λ k. refl; count = refl; stood = λ item s. inr s }

same_with : (c : Cluster) (nodes : ℕ → Node) (item : Item) (tape : List Item) → IsPlain item → SameMail tape (with_item c nodes tape item)
same_with c nodes item tape h = by (breaks c nodes item && not (is_unsafe tape))
  where
    by : (t : Bool) → SameMail tape (cond t (Unsafe ∷ item ∷ tape) (item ∷ tape))
    by true = same_then tape (item ∷ tape) (Unsafe ∷ item ∷ tape) (same_item item tape h) (same_item Unsafe (item ∷ tape) tt)
    by false = same_item item tape h

same_items : (c : Cluster) (nodes : ℕ → Node) (items tape : List Item) → Each IsPlain items → SameMail tape (with_items c nodes tape items)
same_items c nodes [] tape h = same_mail tape
same_items c nodes (item ∷ items) tape h =
    same_then tape (with_item c nodes tape item) (with_items c nodes (with_item c nodes tape item) items) (same_with c nodes item tape h.0) (same_items c nodes items (with_item c nodes tape item) h.1)

waits_same : (old new : List Item) → SameMail old new → (k : ℕ) (m : Message) → Waits old k m → Waits new k m
waits_same old new s k m w = record {
  above = w.above;
  within = subst (λ n. k ≤ n) (sym s.count) w.within;
  sent = s.message k ∙ w.sent;
  untaken = s.taken k ∙ w.untaken;
  undropped = s.dropped k ∙ w.undropped;
}

waits_back : (old new : List Item) → SameMail old new → (k : ℕ) (m : Message) → Waits new k m → Waits old k m
waits_back old new s k m w = record {
  above = w.above;
  within = subst (λ n. k ≤ n) s.count w.within;
  sent = sym (s.message k) ∙ w.sent;
  untaken = sym (s.taken k) ∙ w.untaken;
  undropped = sym (s.dropped k) ∙ w.undropped;
}

numbered_same : (old new : List Item) → SameMail old new → IsNumbered old → IsNumbered new
numbered_same old new s n = record {
  untaken = λ k more. s.taken k ∙ n.untaken k (subst (λ a. a < k) s.count more);
  undropped = λ k more. s.dropped k ∙ n.undropped k (subst (λ a. a < k) s.count more);
  there = λ k one le. let r = n.there k one (subst (λ a. k ≤ a) s.count le) in (r.0, s.message k ∙ r.1);
}

mailed_same : (old new : List Item) → SameMail old new → IsNumbered old → Mailed old new none_gone []
mailed_same old new s n = record {
  keeps = λ k m not_gone w. waits_same old new s k m w;
  comes = λ k m w. inl (refl, waits_back old new s k m w);
  sends = λ m i. absurd i;
  numbered = numbered_same old new s n;
  stood = s.stood;
}

pub mailed_plain : (item : Item) (tape : List Item) → IsPlain item → IsNumbered tape → Mailed tape (item ∷ tape) none_gone []
mailed_plain item tape h n = mailed_same tape (item ∷ tape) (same_item item tape h) n

-- ---- a message is taken

pub mailed_taken : (tape : List Item) (j : ℕ) (one : Message) → Waits tape j one → IsNumbered tape → Mailed tape (Taken j ∷ tape) (λ k. j == k) []
mailed_taken tape j one first n = record {
  keeps = λ k m not_gone w. record {
    above = w.above;
    within = w.within;
    sent = w.sent;
    untaken = ap (λ t. t || is_taken tape k) not_gone ∙ w.untaken;
    undropped = w.undropped;
  };
  comes = λ k m w. let both = or_parts (j == k) (is_taken tape k) w.untaken in inl (both.0, record { above = w.above; within = w.within; sent = w.sent; untaken = both.1; undropped = w.undropped });
  sends = λ m i. absurd i;
  numbered = record {
    untaken = λ k more. ap (λ t. t || is_taken tape k) (apart_below j k (let le = first.within in omega (arith, le, more))) ∙ n.untaken k more;
    undropped = n.undropped;
    there = n.there;
  };
  stood = λ item s. inr s;
}

-- ---- messages are sent

mailed_one : (tape : List Item) (n : ℕ) (one : Message) → n ≡ sent_count tape + 1 → IsNumbered tape → Mailed tape (Sent n one ∷ tape) none_gone (one ∷ [])
mailed_one tape n one is num = record {
  keeps = λ k m not_gone w. record {
    above = w.above;
    within = (let le = w.within in omega (arith, le));
    sent = ap (λ t. cond t (Some one) (message_of tape k)) (apart_above n k (let le = w.within in omega (arith, le, is))) ∙ w.sent;
    untaken = w.untaken;
    undropped = w.undropped;
  };
  comes = λ k m w. by k m w (n == k) refl w.sent;
  sends = λ m i. elim i [ inl e ↦ subst (IsAwaited (Sent n one ∷ tape)) e new | inr later ↦ absurd later ];
  numbered = record {
    untaken = λ k more. num.untaken k (omega (arith, more));
    undropped = λ k more. num.undropped k (omega (arith, more));
    there = λ k above le. at k above le (n == k) refl;
  };
  stood = λ item s. inr s;
}
  where
    new : IsAwaited (Sent n one ∷ tape) one
    new = record {
      number = n;
      waits = record {
        above = omega (arith, is);
        within = omega (arith, is);
        sent = ap (λ t. cond t (Some one) (message_of tape n)) (number_self n);
        untaken = num.untaken n (omega (arith, is));
        undropped = num.undropped n (omega (arith, is));
      };
    }

    by : (k : ℕ) (m : Message) → Waits (Sent n one ∷ tape) k m → (t : Bool) → (n == k) ≡ t → cond t (Some one) (message_of tape k) ≡ Some m → ((none_gone k ≡ false) × Waits tape k m) ⊎ Among m (one ∷ [])
    by k m w true e sent = inr (inl (same_Some one m sent))
    by k m w false e sent = inl (refl, record { above = w.above; within = below_next n k (sent_count tape) is w.within e; sent = sent; untaken = w.untaken; undropped = w.undropped })

    at : (k : ℕ) → 1 ≤ k → k ≤ sent_count tape + 1 → (t : Bool) → (n == k) ≡ t → (m : Message) × (cond (n == k) (Some one) (message_of tape k) ≡ Some m)
    at k above le true e = (one, ap (λ t. cond t (Some one) (message_of tape k)) e)
    at k above le false e = let r = num.there k above (below_next n k (sent_count tape) is le e) in (r.0, ap (λ t. cond t (Some one) (message_of tape k)) e ∙ r.1)

mailed_sent : (c : Cluster) (nodes : ℕ → Node) (ms : List Message) (tape : List Item) (n : ℕ) → n ≡ sent_count tape + 1 → IsNumbered tape → Mailed tape (with_items c nodes tape (numbered n ms)) none_gone ms
mailed_sent c nodes [] tape n is num = mailed_same tape tape (same_mail tape) num
mailed_sent c nodes (m ∷ ms) tape n is num =
    let first = mailed_one tape n m is num in
    mailed_then tape (Sent n m ∷ tape) (with_items c nodes (Sent n m ∷ tape) (numbered (n + 1) ms)) none_gone (m ∷ []) ms first
    (mailed_sent c nodes ms (Sent n m ∷ tape) (n + 1) (ap (λ a. a + 1) is) first.numbered)

-- ---- a step

-- the event's own item, then what is noted, then what is sent
pub mailed_step : (c : Cluster) (nodes : ℕ → Node) (me : ℕ) (tape : List Item) (own : Item) (gone : ℕ → Bool) (notes : List Met) (ms : List Message)
    → with_item c nodes tape own ≡ own ∷ tape → sent_count (own ∷ tape) ≡ sent_count tape → Mailed tape (own ∷ tape) gone []
    → Mailed tape (with_items c nodes tape (((own ∷ []) ++ flat_map (shown me) notes) ++ numbered (sent_count tape + 1) ms)) gone ms
mailed_step c nodes me tape own gone notes ms plain count first = subst (λ t. Mailed tape t gone ms) (sym whole) (mailed_then tape mid (with_items c nodes mid (numbered (sent_count tape + 1) ms)) gone [] ms second third)
  where
    mid : List Item
    mid = with_items c nodes (own ∷ tape) (flat_map (shown me) notes)

    same : SameMail (own ∷ tape) mid
    same = same_items c nodes (flat_map (shown me) notes) (own ∷ tape) (notes_plain me notes)

    second : Mailed tape mid gone []
    second = mailed_then tape (own ∷ tape) mid gone [] [] first (mailed_same (own ∷ tape) mid same first.numbered)

    third : Mailed mid (with_items c nodes mid (numbered (sent_count tape + 1) ms)) none_gone ms
    third = mailed_sent c nodes ms mid (sent_count tape + 1) (ap (λ a. a + 1) (sym (same.count ∙ count))) second.numbered

    whole : with_items c nodes tape (((own ∷ []) ++ flat_map (shown me) notes) ++ numbered (sent_count tape + 1) ms) ≡ with_items c nodes mid (numbered (sent_count tape + 1) ms)
    whole = with_append c nodes ((own ∷ []) ++ flat_map (shown me) notes) (numbered (sent_count tape + 1) ms) tape ∙ ap (λ t. with_items c nodes (with_items c nodes t (flat_map (shown me) notes)) (numbered (sent_count tape + 1) ms)) plain

-- an answer that a step notes stands behind it
answer_shown : (me : ℕ) (op : OpId) (answer : Answer) (notes : List Met) → Among (Answers op answer) notes → Among (AnswerItem op answer) (flat_map (shown me) notes)
answer_shown me op answer [] h = absurd h
answer_shown me op answer (one ∷ notes) (inl e) = among_left (AnswerItem op answer) (shown me one) (flat_map (shown me) notes) (subst (λ x. Among (AnswerItem op answer) (shown me x)) (sym e) (inl refl))
answer_shown me op answer (one ∷ notes) (inr h) = among_right (AnswerItem op answer) (shown me one) (flat_map (shown me) notes) (answer_shown me op answer notes h)

item_stands : (c : Cluster) (nodes : ℕ → Node) (tape : List Item) (item : Item) → Stands item (with_item c nodes tape item)
item_stands c nodes tape item = by (breaks c nodes item && not (is_unsafe tape))
  where
    by : (t : Bool) → Stands item (cond t (Unsafe ∷ item ∷ tape) (item ∷ tape))
    by true = inr (inl refl)
    by false = inl refl

stood_with : (c : Cluster) (nodes : ℕ → Node) (item : Item) (tape : List Item) (x : Item) → Stands x tape → Stands x (with_item c nodes tape item)
stood_with c nodes item tape x h = by (breaks c nodes item && not (is_unsafe tape))
  where
    by : (t : Bool) → Stands x (cond t (Unsafe ∷ item ∷ tape) (item ∷ tape))
    by true = inr (inr h)
    by false = inr h

pub stood_items : (c : Cluster) (nodes : ℕ → Node) (items tape : List Item) (x : Item) → Stands x tape → Stands x (with_items c nodes tape items)
stood_items c nodes [] tape x h = h
stood_items c nodes (item ∷ items) tape x h = stood_items c nodes items (with_item c nodes tape item) x (stood_with c nodes item tape x h)

items_stand : (c : Cluster) (nodes : ℕ → Node) (items tape : List Item) (x : Item) → Among x items → Stands x (with_items c nodes tape items)
items_stand c nodes [] tape x h = absurd h
items_stand c nodes (item ∷ items) tape x (inl e) = stood_items c nodes items (with_item c nodes tape item) x (subst (λ y. Stands y (with_item c nodes tape item)) e (item_stands c nodes tape item))
items_stand c nodes (item ∷ items) tape x (inr h) = items_stand c nodes items (with_item c nodes tape item) x h

pub answer_stands : (c : Cluster) (nodes : ℕ → Node) (me : ℕ) (tape : List Item) (own : Item) (notes : List Met) (sent : List Item) (op : OpId) (answer : Answer) → Among (Answers op answer) notes
    → Stands (AnswerItem op answer) (with_items c nodes tape (((own ∷ []) ++ flat_map (shown me) notes) ++ sent))
answer_stands c nodes me tape own notes sent op answer h = items_stand c nodes (((own ∷ []) ++ flat_map (shown me) notes) ++ sent) tape (AnswerItem op answer)
    (among_left (AnswerItem op answer) ((own ∷ []) ++ flat_map (shown me) notes) sent (inr (answer_shown me op answer notes h)))

-- ---- numbers, whatever waits

pub numbered_plain : (item : Item) (tape : List Item) → IsPlain item → IsNumbered tape → IsNumbered (item ∷ tape)
numbered_plain item tape h n = numbered_same tape (item ∷ tape) (same_item item tape h) n

pub numbered_items : (c : Cluster) (nodes : ℕ → Node) (items tape : List Item) → Each IsPlain items → IsNumbered tape → IsNumbered (with_items c nodes tape items)
numbered_items c nodes items tape h n = numbered_same tape (with_items c nodes tape items) (same_items c nodes items tape h) n

pub numbered_taken : (j : ℕ) (tape : List Item) → j ≤ sent_count tape → IsNumbered tape → IsNumbered (Taken j ∷ tape)
numbered_taken j tape le n = record {
  untaken = λ k more. ap (λ t. t || is_taken tape k) (apart_below j k (omega (arith, le, more))) ∙ n.untaken k more;
  undropped = n.undropped;
  there = n.there;
}

pub numbered_dropped : (j : ℕ) (tape : List Item) → j ≤ sent_count tape → IsNumbered tape → IsNumbered (Dropped j ∷ tape)
numbered_dropped j tape le n = record {
  untaken = n.untaken;
  undropped = λ k more. ap (λ t. t || is_dropped tape k) (apart_below j k (omega (arith, le, more))) ∙ n.undropped k more;
  there = n.there;
}

-- the event's own item, then what is noted, then what is sent
pub numbered_step : (c : Cluster) (nodes : ℕ → Node) (me : ℕ) (tape : List Item) (own : Item) (notes : List Met) (ms : List Message)
    → with_item c nodes tape own ≡ own ∷ tape → sent_count (own ∷ tape) ≡ sent_count tape → IsNumbered (own ∷ tape)
    → IsNumbered (with_items c nodes tape (((own ∷ []) ++ flat_map (shown me) notes) ++ numbered (sent_count tape + 1) ms))
numbered_step c nodes me tape own notes ms plain count first = subst IsNumbered (sym whole) (mailed_sent c nodes ms mid (sent_count tape + 1) (ap (λ a. a + 1) (sym (same.count ∙ count))) (numbered_same (own ∷ tape) mid same first)).numbered
  where
    mid : List Item
    mid = with_items c nodes (own ∷ tape) (flat_map (shown me) notes)

    same : SameMail (own ∷ tape) mid
    same = same_items c nodes (flat_map (shown me) notes) (own ∷ tape) (notes_plain me notes)

    whole : with_items c nodes tape (((own ∷ []) ++ flat_map (shown me) notes) ++ numbered (sent_count tape + 1) ms) ≡ with_items c nodes mid (numbered (sent_count tape + 1) ms)
    whole = with_append c nodes ((own ∷ []) ++ flat_map (shown me) notes) (numbered (sent_count tape + 1) ms) tape ∙ ap (λ t. with_items c nodes (with_items c nodes t (flat_map (shown me) notes)) (numbered (sent_count tape + 1) ms)) plain

-- or the crash that cuts it
pub numbered_cut : (c : Cluster) (nodes : ℕ → Node) (me : ℕ) (tape : List Item) (own : Item) → with_item c nodes tape own ≡ own ∷ tape → IsNumbered (own ∷ tape)
    → IsNumbered (with_items c nodes tape ((own ∷ []) ++ shown me Crashes))
numbered_cut c nodes me tape own plain first = subst (λ t. IsNumbered (with_items c nodes t (shown me Crashes))) (sym plain) (numbered_items c nodes (shown me Crashes) (own ∷ tape) (shown_plain me Crashes) first)

pub none_numbered : IsNumbered []
none_numbered = record { untaken = λ k more. refl; undropped = λ k more. refl; there = λ k above le. absurd (omega (arith, above, le)) }

-- ---- which messages a tape has

-- a message of the tape was there before the step, or the step sent it
pub message_step : (c : Cluster) (nodes : ℕ → Node) (me : ℕ) (tape : List Item) (own : Item) (notes : List Met) (ms : List Message) → with_item c nodes tape own ≡ own ∷ tape → ((k : ℕ) → message_of (own ∷ tape) k ≡ message_of tape k)
    → (n k : ℕ) (m : Message) → message_of (with_items c nodes tape (((own ∷ []) ++ flat_map (shown me) notes) ++ numbered n ms)) k ≡ Some m → (message_of tape k ≡ Some m) ⊎ Among m ms
message_step c nodes me tape own notes ms plain same_own n k m is = elim (sent_from ms mid n k m (sym (ap (λ t. message_of t k) whole) ∙ is)) [
  | inl early ↦ inl (sym (same_own k) ∙ (sym (same.message k) ∙ early))
  | inr i ↦ inr i
]
  where
    mid : List Item
    mid = with_items c nodes (own ∷ tape) (flat_map (shown me) notes)

    same : SameMail (own ∷ tape) mid
    same = same_items c nodes (flat_map (shown me) notes) (own ∷ tape) (notes_plain me notes)

    whole : with_items c nodes tape (((own ∷ []) ++ flat_map (shown me) notes) ++ numbered n ms) ≡ with_items c nodes mid (numbered n ms)
    whole = with_append c nodes ((own ∷ []) ++ flat_map (shown me) notes) (numbered n ms) tape ∙ ap (λ t. with_items c nodes (with_items c nodes t (flat_map (shown me) notes)) (numbered n ms)) plain

    sent_from : (those : List Message) (t : List Item) (a j : ℕ) (x : Message) → message_of (with_items c nodes t (numbered a those)) j ≡ Some x → (message_of t j ≡ Some x) ⊎ Among x those
    sent_from [] t a j x e = inl e
    sent_from (y ∷ those) t a j x e = elim (sent_from those (Sent a y ∷ t) (a + 1) j x e) [
      | inl early ↦ first (a == j) early
      | inr i ↦ inr (inr i)
    ]
      where
        first : (b : Bool) → cond b (Some y) (message_of t j) ≡ Some x → (message_of t j ≡ Some x) ⊎ ((y ≡ x) ⊎ Among x those)
        first true early = inr (inl (same_Some y x early))
        first false early = inl early

-- items that are no message leave the messages
pub message_items : (c : Cluster) (nodes : ℕ → Node) (items tape : List Item) → Each IsPlain items → (k : ℕ) → message_of (with_items c nodes tape items) k ≡ message_of tape k
message_items c nodes items tape h k = (same_items c nodes items tape h).message k

pub crash_shown : (me : ℕ) → Each IsPlain (shown me Crashes)
crash_shown me = (tt, tt)

-- a decision that a step notes stands behind it
decision_shown : (me : ℕ) (g : GroupId) (n : ℕ) (entry : Content) (notes : List Met) → Among (Decides g n entry) notes → Among (Decide (number me) g (record { 0 = n }) entry) (flat_map (shown me) notes)
decision_shown me g n entry [] h = absurd h
decision_shown me g n entry (one ∷ notes) (inl e) = among_left (Decide (number me) g (record { 0 = n }) entry) (shown me one) (flat_map (shown me) notes) (subst (λ x. Among (Decide (number me) g (record { 0 = n }) entry) (shown me x)) (sym e) (inl refl))
decision_shown me g n entry (one ∷ notes) (inr h) = among_right (Decide (number me) g (record { 0 = n }) entry) (shown me one) (flat_map (shown me) notes) (decision_shown me g n entry notes h)

pub decision_stands : (c : Cluster) (nodes : ℕ → Node) (me : ℕ) (tape : List Item) (own : Item) (notes : List Met) (sent : List Item) (g : GroupId) (n : ℕ) (entry : Content) → Among (Decides g n entry) notes
    → Stands (Decide (number me) g (record { 0 = n }) entry) (with_items c nodes tape (((own ∷ []) ++ flat_map (shown me) notes) ++ sent))
decision_stands c nodes me tape own notes sent g n entry h = items_stand c nodes (((own ∷ []) ++ flat_map (shown me) notes) ++ sent) tape (Decide (number me) g (record { 0 = n }) entry)
    (among_left (Decide (number me) g (record { 0 = n }) entry) ((own ∷ []) ++ flat_map (shown me) notes) sent (inr (decision_shown me g n entry notes h)))

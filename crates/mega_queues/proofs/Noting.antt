-- What the queues keep once a log has one entry more.
use Rattle.std.proofs.Common.{◌≡◌, ◌∙◌, ap, sym, subst, refl, ℕ, suc, ◌+◌, ◌||◌, Bool, true, false, cond, List, [], ◌∷◌, ◌++◌, length, append-nil, append_assoc, arith}
use Rattle.std.specs.Prelude.{not, filter}
use Rattle.std.specs.BTreeMap.{BTreeMap}
use Rattle.std.specs.Global.{Vec}
use Rattle.mega_base.specs.declared.names.GroupId.{GroupId}
use Rattle.mega_entry.specs.declared.content.Content.{Content}
use Rattle.mega_wal.specs.Same.{same_group}
use Rattle.mega_wal.specs.Kept.{is_group}
use Rattle.mega_wal.proofs.Sames.{same_group_equal}
use Rattle.mega_wal.proofs.Orders.{is_group_equal, is_group_is}
use Rattle.mega_rules.specs.Queues.{Posted, is_named, names_entered, posted, sent_from}
use Rattle.mega_queues.specs.declared.queues.Queues.{Queues}
use Rattle.mega_queues.specs.Named.{names_of}
use Rattle.mega_queues.specs.Mail.{Mail, mail_of, with_entry}
use Rattle.mega_queues.specs.Boxes.{Logs, Sheds, awaits, is_awaited, mail_at, noted, sent_at}
use Rattle.mega_queues.specs.Followed.{Represents}
use Rattle.mega_queues.proofs.Mailing.{entered_more, filter_alike, filter_append, filter_twice, with_entry_is}

-- ---- a longer log
sent_last : (group : GroupId) (n : ℕ) (entries : List Content) (entry : Content) → sent_from group n (entries ++ entry ∷ []) ≡ sent_from group n entries ++ posted group (n + length entries) 0 entry.sends
sent_last group n [] entry = append-nil (posted group n 0 entry.sends) ∙ ap (λ m. posted group m 0 entry.sends) (let e : n ≡ n + 0 = omega arith in e)
sent_last group n (x ∷ entries) entry =
    ap (λ l. posted group n 0 x.sends ++ l) (sent_last group (n + 1) entries entry ∙ ap (λ m. sent_from group (n + 1) entries ++ posted group m 0 entry.sends) (let e : n + 1 + length entries ≡ n + suc (length entries) = omega arith in e))
    ∙ sym (append_assoc (posted group n 0 x.sends) (sent_from group (n + 1) entries) (posted group (n + suc (length entries)) 0 entry.sends))

stays : (a b : Bool) → cond (not a) (not (a || b)) false ≡ not (a || b)
stays true b = refl
stays false b = refl

alone : (a : Bool) → cond a a false ≡ a
alone true = refl
alone false = refl

-- what is awaited in longer logs was awaited before
awaited_before : (logs : Logs) (group : GroupId) (entry : Content) (one : Posted) → cond (is_awaited logs one) (is_awaited (noted logs group entry) one) false ≡ is_awaited (noted logs group entry) one
awaited_before logs group entry one = go (same_group group one.to) refl
  where
    named : List Content → Bool
    named entries = is_named (one.message).name (names_entered entries)

    go : (t : Bool) → same_group group one.to ≡ t
        → cond (not (named (logs one.to))) (not (named (cond t (logs group ++ entry ∷ []) (logs one.to)))) false ≡ not (named (cond t (logs group ++ entry ∷ []) (logs one.to)))
    go true e =
        subst (λ (to : GroupId). cond (not (named (logs to))) (not (named (logs group ++ entry ∷ []))) false ≡ not (named (logs group ++ entry ∷ []))) (same_group_equal group one.to e)
        (subst (λ b. cond (not (named (logs group))) (not b) false ≡ not b) (entered_more (one.message).name (logs group) entry) (stays (named (logs group)) (is_named (one.message).name (names_of entry.enters))))
    go false e = alone (not (named (logs one.to)))

pulled : (t : Bool) (xs ys : List Content) → cond t (mail_of xs) (mail_of ys) ≡ mail_of (cond t xs ys)
pulled true xs ys = refl
pulled false xs ys = refl

pub noted_follows : (logs : Logs) (old new : Queues) (mid : BTreeMap GroupId (Vec Posted)) (group : GroupId) (position : ℕ) (entry : Content) → Represents logs old → position ≡ suc (length (logs group))
    → ((other : GroupId) → sent_at mid other ≡ cond (is_group group other) (sent_at old.outboxes group ++ posted group position 0 entry.sends) (sent_at old.outboxes other))
    → ((other : GroupId) → mail_at new.mailboxes other ≡ cond (is_group group other) (with_entry entry (mail_at old.mailboxes group)) (mail_at old.mailboxes other))
    → Sheds (awaits new.mailboxes) mid new.outboxes
    → Represents (noted logs group entry) new
noted_follows logs old new mid group position entry kept next posts mails sheds = record { mail = mail_is; sent = sent_is }
  where
    after : Logs
    after = noted logs group entry

    mail_is : (g : GroupId) → mail_at new.mailboxes g ≡ mail_of (after g)
    mail_is g =
        mails g
        ∙ ((λ i. cond (is_group_is group g i) ((ap (with_entry entry) (kept.mail group) ∙ with_entry_is (logs group) entry) i) (kept.mail g i))
        ∙ pulled (same_group group g) (logs group ++ entry ∷ []) (logs g))

    p : Posted → Bool
    p = is_awaited after

    same : (one : Posted) → awaits new.mailboxes one ≡ p one
    same one = ap (λ (mail : Mail). not (mail.entered (one.message).name)) (mail_is one.to)

    onward : (g : GroupId) → filter p (sent_at old.outboxes g) ≡ filter p (sent_from g 1 (logs g))
    onward g =
        sym (filter_twice p (is_awaited logs) p (awaited_before logs group entry) (sent_at old.outboxes g))
        ∙ (ap (filter p) (kept.sent g) ∙ filter_twice p (is_awaited logs) p (awaited_before logs group entry) (sent_from g 1 (logs g)))

    own : filter p (sent_at old.outboxes group ++ posted group position 0 entry.sends) ≡ filter p (sent_from group 1 (logs group ++ entry ∷ []))
    own =
        filter_append p (sent_at old.outboxes group) (posted group position 0 entry.sends)
        ∙ (ap (λ l. l ++ filter p (posted group position 0 entry.sends)) (onward group)
        ∙ (sym (filter_append p (sent_from group 1 (logs group)) (posted group position 0 entry.sends))
        ∙ ap (filter p) (ap (λ n. sent_from group 1 (logs group) ++ posted group n 0 entry.sends) (next ∙ (let e : suc (length (logs group)) ≡ 1 + length (logs group) = omega arith in e)) ∙ sym (sent_last group 1 (logs group) entry))))

    by : (g : GroupId) (t : Bool) → is_group group g ≡ t
        → filter p (cond t (sent_at old.outboxes group ++ posted group position 0 entry.sends) (sent_at old.outboxes g)) ≡ filter p (sent_from g 1 (cond t (logs group ++ entry ∷ []) (logs g)))
    by g true e = own ∙ ap (λ h. filter p (sent_from h 1 (logs group ++ entry ∷ []))) (is_group_equal group g e)
    by g false e = onward g

    sent_is : (g : GroupId) → filter p (sent_at new.outboxes g) ≡ filter p (sent_from g 1 (after g))
    sent_is g =
        sym (filter_alike (awaits new.mailboxes) p same (sent_at new.outboxes g))
        ∙ (sheds g
        ∙ (filter_alike (awaits new.mailboxes) p same (sent_at mid g)
        ∙ (ap (filter p) (posts g)
        ∙ (by g (is_group group g) refl
        ∙ ap (λ t. filter p (sent_from g 1 (cond t (logs group ++ entry ∷ []) (logs g)))) (is_group_is group g)))))

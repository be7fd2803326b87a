-- What a pump picks from what waits is what it picks from the logs.
use Rattle.std.proofs.Common.{◌≡◌, ◌∙◌, ap, sym, refl, ◌&&◌, Bool, true, false, cond, List, [], ◌∷◌, ◌++◌}
use Rattle.std.specs.Prelude.{Option, Some, None, is_some, not, filter, find, flat_map}
use Rattle.std.specs.BTreeMap.{is_at}
use Rattle.std.specs.Map.{lookup}
use Rattle.mega_wal.specs.History.{group_cmp}
use Rattle.mega_base.specs.declared.names.GroupId.{GroupId}
use Rattle.mega_base.specs.declared.names.OpId.{OpId}
use Rattle.mega_entry.specs.declared.content.Content.{Content}
use Rattle.mega_entry.specs.declared.content.Enter.{Enter}
use Rattle.mega_rules.specs.Queues.{Log, Posted, enter_entry, entered_in, has_unhandled, is_named, is_short, names_entered, next_to_enter, next_to_handle, oldest_unhandled, sent_from, sent_in, waits_to_enter}
use Rattle.mega_queues.specs.declared.queues.Queues.{Queues}
use Rattle.mega_queues.specs.Mail.{Mail, first_of, is_left, mail_of}
use Rattle.mega_queues.specs.Boxes.{AreAll, Logs, awaits, is_awaited, logs_of, mail_at, mail_in, sent_at, sent_in_box}
use Rattle.mega_queues.specs.Picks.{can_enter, has_mail, has_one}
use Rattle.mega_queues.specs.Followed.{Represents}
use Rattle.mega_queues.proofs.Mailing.{filter_append, first_found}

-- ---- finding
find_both : {A : Type 0} (p q r : A → Bool) → ((x : A) → r x ≡ (p x && q x)) → (xs : List A) → find r xs ≡ find q (filter p xs)
find_both p q r same [] = refl
find_both p q r same (x ∷ xs) = ap (λ t. cond t (Some x) (find r xs)) (same x) ∙ go (p x) (find_both p q r same xs)
  where
    go : (b : Bool) → find r xs ≡ find q (filter p xs) → cond (b && q x) (Some x) (find r xs) ≡ find q (cond b (x ∷ filter p xs) (filter p xs))
    go true rest = ap (λ o. cond (q x) (Some x) o) rest
    go false rest = rest

filter_each : {A B : Type 0} (p : B → Bool) (f g : A → List B) → ((x : A) → filter p (f x) ≡ filter p (g x)) → (xs : List A) → filter p (flat_map f xs) ≡ filter p (flat_map g xs)
filter_each p f g same [] = refl
filter_each p f g same (x ∷ xs) =
    filter_append p (f x) (flat_map f xs) ∙ ((λ i. same x i ++ filter_each p f g same xs i) ∙ sym (filter_append p (g x) (flat_map g xs)))

-- ---- what waits
pub awaits_is : (logs : Logs) (queues : Queues) → Represents logs queues → (one : Posted) → awaits queues.mailboxes one ≡ is_awaited logs one
awaits_is logs queues kept one = ap (λ (mail : Mail). not (mail.entered (one.message).name)) (kept.mail one.to)

sent_logs : (logs : Logs) (groups : List GroupId) → flat_map sent_in (logs_of logs groups) ≡ flat_map (λ (group : GroupId). sent_from group 1 (logs group)) groups
sent_logs logs [] = refl
sent_logs logs (group ∷ groups) = ap (λ l. sent_from group 1 (logs group) ++ l) (sent_logs logs groups)

pub picks_to_enter : (logs : Logs) (queues : Queues) (op : OpId) (groups : List GroupId) → Represents logs queues → AreAll logs groups
    → find (can_enter op queues.mailboxes) (flat_map (sent_at queues.outboxes) groups) ≡ next_to_enter op (logs_of logs groups)
picks_to_enter logs queues op groups kept all =
    find_both (is_awaited logs) short (can_enter op queues.mailboxes) (λ one. ap (λ t. t && short one) (awaits_is logs queues kept one)) (flat_map (sent_at queues.outboxes) groups)
    ∙ (ap (find short) (filter_each (is_awaited logs) (sent_at queues.outboxes) (λ (group : GroupId). sent_from group 1 (logs group)) kept.sent groups)
    ∙ (sym (find_both (is_awaited logs) short (waits_to_enter op (logs_of logs groups)) (λ one. ap (λ entries. not (is_named (one.message).name (names_entered entries)) && short one) (all one.to)) (flat_map (λ (group : GroupId). sent_from group 1 (logs group)) groups))
    ∙ ap (find (waits_to_enter op (logs_of logs groups))) (sym (sent_logs logs groups))))
  where
    short : Posted → Bool
    short one = is_short (enter_entry op one.message)

-- ---- what is handled next
pub oldest_is : (entries : List Content) (mail : Mail) → mail ≡ mail_of entries → first_of mail.waiting ≡ oldest_unhandled entries
oldest_is entries mail same = ap (λ (m : Mail). first_of m.waiting) same ∙ first_found (λ (enter : Enter). is_left (flat_map (λ (entry : Content). entry.handles) entries) enter) (entered_in entries)

abbrev group_of : Option Log → Option GroupId
group_of None = None
group_of (Some log) = Some log.group

pub picks_to_handle : (logs : Logs) (queues : Queues) (groups : List GroupId) → Represents logs queues
    → find (has_mail queues.mailboxes) groups ≡ next_to_handle (logs_of logs groups)
picks_to_handle logs queues [] kept = refl
picks_to_handle logs queues (group ∷ groups) kept =
    ap (λ t. cond t (Some group) (find (has_mail queues.mailboxes) groups)) (ap has_one (oldest_is (logs group) (mail_at queues.mailboxes group) (kept.mail group)))
    ∙ go (has_one (oldest_unhandled (logs group))) (picks_to_handle logs queues groups kept)
  where
    go : (b : Bool) → find (has_mail queues.mailboxes) groups ≡ next_to_handle (logs_of logs groups)
        → cond b (Some group) (find (has_mail queues.mailboxes) groups) ≡ group_of (cond b (Some (record { group = group; entries = logs group })) (find has_unhandled (logs_of logs groups)))
    go true rest = refl
    go false rest = rest

-- ---- no entries
pub new_follows : (queues : Queues) → queues.mailboxes.entries ≡ [] → queues.outboxes.entries ≡ [] → Represents (λ group. []) queues
new_follows queues no_boxes no_sends = record {
  mail = λ group. ap (λ es. mail_in (lookup (is_at (group_cmp group)) es)) no_boxes;
  sent = λ group. ap (λ es. filter (is_awaited (λ g. [])) (sent_in_box (lookup (is_at (group_cmp group)) es))) no_sends;
}

-- ---- the first of several senders
abbrev pub or_found : {A : Type 0} → Option A → Option A → Option A
or_found None other = other
or_found (Some x) other = Some x

pub found_or : {A : Type 0} (p : A → Bool) (xs ys : List A) → find p (xs ++ ys) ≡ or_found (find p xs) (find p ys)
found_or p [] ys = refl
found_or p (x ∷ xs) ys = go (p x) (found_or p xs ys)
  where
    go : (b : Bool) → find p (xs ++ ys) ≡ or_found (find p xs) (find p ys) → cond b (Some x) (find p (xs ++ ys)) ≡ or_found (cond b (Some x) (find p xs)) (find p ys)
    go true rest = refl
    go false rest = rest

none_found : {A : Type 0} (found other : Option A) → is_some found ≡ false → or_found found other ≡ other
none_found None other none = refl
none_found (Some x) other none = absurd (cc)

one_found : {A : Type 0} (found other : Option A) → is_some found ≡ true → or_found found other ≡ found
one_found None other some = absurd (cc)
one_found (Some x) other some = refl

pub not_here : {A B : Type 0} (p : B → Bool) (f : A → List B) (x : A) (xs : List A) (wanted : Option B) → is_some (find p (f x)) ≡ false
    → find p (flat_map f (x ∷ xs)) ≡ wanted → find p (flat_map f xs) ≡ wanted
not_here p f x xs wanted none before = sym (none_found (find p (f x)) (find p (flat_map f xs)) none) ∙ (sym (found_or p (f x) (flat_map f xs)) ∙ before)

pub here : {A B : Type 0} (p : B → Bool) (f : A → List B) (x : A) (xs : List A) (wanted : Option B) → is_some (find p (f x)) ≡ true
    → find p (flat_map f (x ∷ xs)) ≡ wanted → find p (f x) ≡ wanted
here p f x xs wanted some before = sym (one_found (find p (f x)) (find p (flat_map f xs)) some) ∙ (sym (found_or p (f x) (flat_map f xs)) ∙ before)

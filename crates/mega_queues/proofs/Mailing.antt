-- The mail of a log with one entry more.
use Rattle.std.proofs.Common.{◌≡◌, ◌∙◌, ap, sym, refl, ◌||◌, Bool, true, false, cond, List, [], ◌∷◌, ◌++◌, length, arith, append-nil}
use Rattle.std.specs.Prelude.{Some, not, filter, find}
use Rattle.std.proofs.lemmas.Grind.{flat_map-append}
use Rattle.mega_entry.specs.declared.content.Content.{Content}
use Rattle.mega_entry.specs.declared.content.Enter.{Enter}
use Rattle.mega_entry.specs.declared.content.Name.{Name}
use Rattle.mega_wal.specs.Same.{same_name}
use Rattle.mega_rules.specs.Queues.{entered_in, handled_in, is_named, names_entered}
use Rattle.std.specs.Map.{lookup}
use Rattle.std.specs.BTreeMap.{is_at}
use Rattle.mega_wal.specs.History.{group_cmp}
use Rattle.mega_queues.specs.declared.mailbox.Mailbox.{Mailbox}
use Rattle.mega_queues.specs.Named.{AddsAll, Names, is_in, is_known, names_of}
use Rattle.mega_queues.specs.Mail.{first_of, is_left, mail_of, no_mail, seen, with_entry, with_marks}

-- ---- filters
pub filter_twice : {A : Type 0} (p q r : A → Bool) → ((x : A) → cond (q x) (p x) false ≡ r x) → (xs : List A) → filter p (filter q xs) ≡ filter r xs
filter_twice p q r same [] = refl
filter_twice p q r same (x ∷ xs) = go (q x) (same x) (filter_twice p q r same xs)
  where
    go : (b : Bool) → cond b (p x) false ≡ r x → filter p (filter q xs) ≡ filter r xs → filter p (cond b (x ∷ filter q xs) (filter q xs)) ≡ cond (r x) (x ∷ filter r xs) (filter r xs)
    go true e rest = λ i. cond (e i) (x ∷ rest i) (rest i)
    go false e rest = rest ∙ ap (λ t. cond t (x ∷ filter r xs) (filter r xs)) e

pub filter_append : {A : Type 0} (p : A → Bool) (xs ys : List A) → filter p (xs ++ ys) ≡ filter p xs ++ filter p ys
filter_append p [] ys = refl
filter_append p (x ∷ xs) ys = go (p x) (filter_append p xs ys)
  where
    go : (b : Bool) → filter p (xs ++ ys) ≡ filter p xs ++ filter p ys → cond b (x ∷ filter p (xs ++ ys)) (filter p (xs ++ ys)) ≡ cond b (x ∷ filter p xs) (filter p xs) ++ filter p ys
    go true rest = ap (λ l. x ∷ l) rest
    go false rest = rest

pub filter_alike : {A : Type 0} (p q : A → Bool) → ((x : A) → p x ≡ q x) → (xs : List A) → filter p xs ≡ filter q xs
filter_alike p q same xs = ap (λ f. filter f xs) (λ i x. same x i)

-- ---- the parts of a longer log
pub named_append : (name : Name) (xs ys : List Name) → is_named name (xs ++ ys) ≡ (is_named name xs || is_named name ys)
named_append name [] ys = refl
named_append name (x ∷ xs) ys = ap (λ t. same_name name x || t) (named_append name xs ys) ∙ sym (moved (same_name name x) (is_named name xs) (is_named name ys))
  where
    moved : (a b c : Bool) → ((a || b) || c) ≡ (a || (b || c))
    moved true b c = refl
    moved false b c = refl

map_append : (xs ys : List Enter) → names_of (xs ++ ys) ≡ names_of xs ++ names_of ys
map_append [] ys = refl
map_append (x ∷ xs) ys = ap (λ l. x.name ∷ l) (map_append xs ys)

entered_last : (entries : List Content) (entry : Content) → entered_in (entries ++ entry ∷ []) ≡ entered_in entries ++ entry.enters
entered_last entries entry = flat_map-append (λ (e : Content). e.enters) entries (entry ∷ []) ∙ ap (λ l. entered_in entries ++ l) (append-nil entry.enters)

handled_last : (entries : List Content) (entry : Content) → handled_in (entries ++ entry ∷ []) ≡ handled_in entries ++ entry.handles
handled_last entries entry = flat_map-append (λ (e : Content). e.handles) entries (entry ∷ []) ∙ ap (λ l. handled_in entries ++ l) (append-nil entry.handles)

not_either : (a b : Bool) → cond (not a) (not b) false ≡ not (a || b)
not_either true b = refl
not_either false b = refl

pub entered_more : (name : Name) (entries : List Content) (entry : Content) → (is_named name (names_entered entries) || is_named name (names_of entry.enters)) ≡ is_named name (names_entered (entries ++ entry ∷ []))
entered_more name entries entry =
    sym (named_append name (names_entered entries) (names_of entry.enters))
    ∙ ap (is_named name) (sym (map_append (entered_in entries) entry.enters) ∙ ap names_of (sym (entered_last entries entry)))

pub with_entry_is : (entries : List Content) (entry : Content) → with_entry entry (mail_of entries) ≡ mail_of (entries ++ entry ∷ [])
with_entry_is entries entry = λ i. record { entered = λ name. entered_more name entries entry i; handled = λ name. handled_is name i; waiting = waiting_is i }
  where
    old : List Name
    old = handled_in entries

    handled_is : (name : Name) → (is_named name (handled_in entries) || is_named name entry.handles) ≡ is_named name (handled_in (entries ++ entry ∷ []))
    handled_is name = sym (named_append name (handled_in entries) entry.handles) ∙ ap (is_named name) (sym (handled_last entries entry))

    left_is : (message : Enter) → not (is_named message.name old || is_named message.name entry.handles) ≡ is_left (handled_in (entries ++ entry ∷ [])) message
    left_is message = ap not (handled_is message.name)

    waiting_is : filter (is_left entry.handles) (filter (is_left old) (entered_in entries)) ++ filter (λ (message : Enter). not (is_named message.name old || is_named message.name entry.handles)) entry.enters
        ≡ filter (is_left (handled_in (entries ++ entry ∷ []))) (entered_in (entries ++ entry ∷ []))
    waiting_is =
        (λ i. filter_twice (is_left entry.handles) (is_left old) (is_left (handled_in (entries ++ entry ∷ []))) (λ message. not_either (is_named message.name old) (is_named message.name entry.handles) ∙ left_is message) (entered_in entries) i
        ++ filter_alike (λ (message : Enter). not (is_named message.name old || is_named message.name entry.handles)) (is_left (handled_in (entries ++ entry ∷ []))) left_is entry.enters i)
        ∙ (sym (filter_append (is_left (handled_in (entries ++ entry ∷ []))) (entered_in entries) entry.enters)
        ∙ ap (filter (is_left (handled_in (entries ++ entry ∷ [])))) (sym (entered_last entries entry)))

-- ---- the first of a list
pub first_found : (p : Enter → Bool) (xs : List Enter) → first_of (filter p xs) ≡ find p xs
first_found p [] = refl
first_found p (x ∷ xs) = go (p x) (first_found p xs)
  where
    go : (b : Bool) → first_of (filter p xs) ≡ find p xs → first_of (cond b (x ∷ filter p xs) (filter p xs)) ≡ cond b (Some x) (find p xs)
    go true rest = refl
    go false rest = rest

-- ---- taken in step by step
pub none_left_out : (xs : List Enter) → filter (is_left []) xs ≡ xs
none_left_out [] = refl
none_left_out (x ∷ xs) = ap (λ l. x ∷ l) (none_left_out xs)

pub none_waits : (handled : List Name) (xs : List Enter) → length handled ≡ 0 → xs ≡ filter (is_left handled) xs
none_waits [] xs none = sym (none_left_out xs)
none_waits (name ∷ names) xs none = absurd (omega (arith, none))

pub taken_in : (old new : Mailbox) (mid : List Enter) (enters : List Enter) (handles : List Name)
    → AddsAll old.entered new.entered (names_of enters) → AddsAll old.handled new.handled handles
    → mid ≡ filter (is_left handles) old.waiting.items
    → new.waiting.items ≡ mid ++ filter (λ (message : Enter). not (is_known new.handled message.name)) enters
    → seen new ≡ with_marks enters handles (seen old)
taken_in old new mid enters handles more done left waits =
    λ i. record { entered = λ name. more name i; handled = λ name. done name i; waiting = waiting_is i }
  where
    waiting_is : new.waiting.items ≡ filter (is_left handles) old.waiting.items ++ filter (λ (message : Enter). not (is_known old.handled message.name || is_named message.name handles)) enters
    waiting_is = waits ∙ (λ i. left i ++ filter_alike (λ (message : Enter). not (is_known new.handled message.name)) (λ (message : Enter). not (is_known old.handled message.name || is_named message.name handles)) (λ message. ap not (done message.name)) enters i)

-- ---- a new mailbox
pub nothing_known : (names : Names) → names.entries ≡ [] → (name : Name) → is_known names name ≡ false
nothing_known names none name = ap (λ es. is_in (name.position.0, name.place) (lookup (is_at (group_cmp name.group)) es)) none

pub nothing_seen : (box : Mailbox) → box.entered.entries ≡ [] → box.handled.entries ≡ [] → box.waiting.items ≡ [] → seen box ≡ no_mail
nothing_seen box entered handled waiting = λ i. record { entered = λ name. nothing_known box.entered entered name i; handled = λ name. nothing_known box.handled handled name i; waiting = waiting i }

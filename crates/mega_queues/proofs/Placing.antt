-- What is kept of all groups, where that of one changes.
use Rattle.std.proofs.Common.{◌≡◌, ◌∙◌, ◌&&◌, ap, sym, refl, Bool, true, false, cond, List, [], ◌∷◌, ◌++◌}
use Rattle.std.specs.Prelude.{Option, Some, None, is_some, filter, not}
use Rattle.std.specs.List.{remove}
use Rattle.std.specs.BTreeMap.{BTreeMap, get}
use Rattle.std.specs.Global.{Vec}
use Rattle.mega_base.specs.declared.names.GroupId.{GroupId}
use Rattle.mega_entry.specs.declared.content.Content.{Content}
use Rattle.mega_wal.specs.History.{group_cmp}
use Rattle.mega_wal.specs.Kept.{is_group}
use Rattle.mega_wal.proofs.Orders.{is_group_equal}
use Rattle.mega_rules.specs.Queues.{Posted}
use Rattle.mega_queues.specs.declared.mailbox.Mailbox.{Mailbox}
use Rattle.mega_queues.specs.Mail.{no_mail, seen, with_entry}
use Rattle.mega_queues.specs.Boxes.{Sheds, is_first_shed, mail_at, mail_in, sent_at, sent_in_box}
use Rattle.mega_queues.proofs.Mailing.{filter_twice}

-- a function of what a map has under each group, where it has a new value under one
at_groups : {X Y : Type 0} (show : Option X → Y) (old new : BTreeMap GroupId X) (group : GroupId) (now : X) (shown : Y)
    → ((q : GroupId) → get group_cmp new q ≡ cond (is_group group q) (Some now) (get group_cmp old q)) → show (Some now) ≡ shown
    → (other : GroupId) → show (get group_cmp new other) ≡ cond (is_group group other) shown (show (get group_cmp old other))
at_groups show old new group now shown updated is other = ap show (updated other) ∙ go (is_group group other)
  where
    go : (t : Bool) → show (cond t (Some now) (get group_cmp old other)) ≡ cond t shown (show (get group_cmp old other))
    go true = is
    go false = refl

no_one : {X : Type 0} (found : Option X) → is_some found ≡ false → found ≡ None
no_one None none = refl
no_one (Some x) none = absurd cc

-- nothing is shown that was not shown before, where a place is made for what shows as none
opened : {X Y : Type 0} (show : Option X → Y) (old new : BTreeMap GroupId X) (group own : GroupId) (now : X) (there : Bool) → own ≡ group → there ≡ is_some (get group_cmp old group) → there ≡ false
    → show (Some now) ≡ show None
    → ((q : GroupId) → get group_cmp new q ≡ cond (is_group own q) (Some now) (get group_cmp old q)) → (other : GroupId) → show (get group_cmp new other) ≡ show (get group_cmp old other)
opened show old new group own now there same is none empty updated other = ap show (updated other) ∙ go (is_group own other) refl
  where
    go : (t : Bool) → is_group own other ≡ t → show (cond t (Some now) (get group_cmp old other)) ≡ show (get group_cmp old other)
    go true at = empty ∙ ap show (sym (ap (get group_cmp old) (sym (is_group_equal own other at) ∙ same) ∙ no_one (get group_cmp old group) (sym is ∙ none)))
    go false at = refl

pub mail_noted : (old new : BTreeMap GroupId Mailbox) (group : GroupId) (entry : Content) (was now : Mailbox) → get group_cmp old group ≡ Some was
    → ((q : GroupId) → get group_cmp new q ≡ cond (is_group group q) (Some now) (get group_cmp old q))
    → seen now ≡ with_entry entry (seen was)
    → (other : GroupId) → mail_at new other ≡ cond (is_group group other) (with_entry entry (mail_at old group)) (mail_at old other)
mail_noted old new group entry was now there updated noted =
    at_groups mail_in old new group now (with_entry entry (mail_at old group)) updated (noted ∙ ap (λ o. with_entry entry (mail_in o)) (sym there))

pub sent_noted : (old new : BTreeMap GroupId (Vec Posted)) (group : GroupId) (more : List Posted) (was now : Vec Posted) → get group_cmp old group ≡ Some was
    → ((q : GroupId) → get group_cmp new q ≡ cond (is_group group q) (Some now) (get group_cmp old q))
    → now.items ≡ was.items ++ more
    → (other : GroupId) → sent_at new other ≡ cond (is_group group other) (sent_at old group ++ more) (sent_at old other)
sent_noted old new group more was now there updated noted =
    at_groups sent_in_box old new group now (sent_at old group ++ more) updated (noted ∙ ap (λ o. sent_in_box o ++ more) (sym there))

twice : (a : Bool) → cond a a false ≡ a
twice true = refl
twice false = refl

-- ---- what is taken out of one outbox
pub all_shed : (test : Posted → Bool) (was now : List Posted) → now ≡ filter test was → filter test now ≡ filter test was
all_shed test was now kept = ap (filter test) kept ∙ filter_twice test test test (λ one. twice (test one)) was

skipped : (a b : Bool) (one : Posted) (rest : List Posted) → (not a && b) ≡ true → rest ≡ cond a (one ∷ rest) rest
skipped true b one rest is = absurd (cc)
skipped false b one rest is = refl

pub first_shed : (test : Posted → Bool) (was now : List Posted) → is_first_shed test was ≡ true → now ≡ remove was 0 → filter test now ≡ filter test was
first_shed test [] now is taken = absurd (cc)
first_shed test (one ∷ []) now is taken = ap (filter test) taken ∙ skipped (test one) true one [] (and_true (not (test one)) is)
  where
    and_true : (a : Bool) → a ≡ true → (a && true) ≡ true
    and_true true same = refl
    and_true false same = same
first_shed test (one ∷ next ∷ more) now is taken = ap (filter test) taken ∙ skipped (test one) (test next) one (filter test (next ∷ more)) is

pub shed_there : (test : Posted → Bool) (old new : BTreeMap GroupId (Vec Posted)) (group : GroupId) (was now : Vec Posted) → get group_cmp old group ≡ Some was
    → ((q : GroupId) → get group_cmp new q ≡ cond (is_group group q) (Some now) (get group_cmp old q))
    → filter test now.items ≡ filter test was.items
    → Sheds test old new
shed_there test old new group was now there updated kept other = ap (λ o. filter test (sent_in_box o)) (updated other) ∙ go (is_group group other) refl
  where
    go : (t : Bool) → is_group group other ≡ t → filter test (sent_in_box (cond t (Some now) (get group_cmp old other))) ≡ filter test (sent_at old other)
    go true at =
        kept ∙ (ap (λ o. filter test (sent_in_box o)) (sym there) ∙ ap (λ g. filter test (sent_at old g)) (is_group_equal group other at))
    go false at = refl

pub mail_opened : (old new : BTreeMap GroupId Mailbox) (group own : GroupId) (now : Mailbox) (there : Bool) → own ≡ group → there ≡ is_some (get group_cmp old group) → there ≡ false
    → seen now ≡ no_mail
    → ((q : GroupId) → get group_cmp new q ≡ cond (is_group own q) (Some now) (get group_cmp old q)) → (other : GroupId) → mail_at new other ≡ mail_at old other
mail_opened old new group own now there same is none empty updated = opened mail_in old new group own now there same is none empty updated

pub sent_opened : (old new : BTreeMap GroupId (Vec Posted)) (group own : GroupId) (now : Vec Posted) (there : Bool) → own ≡ group → there ≡ is_some (get group_cmp old group) → there ≡ false
    → now.items ≡ []
    → ((q : GroupId) → get group_cmp new q ≡ cond (is_group own q) (Some now) (get group_cmp old q)) → (other : GroupId) → sent_at new other ≡ sent_at old other
sent_opened old new group own now there same is none empty updated = opened sent_in_box old new group own now there same is none empty updated

-- ---- what is shown of two steps
pub mail_after : (old mid new : BTreeMap GroupId Mailbox) (group : GroupId) (entry : Content) → ((other : GroupId) → mail_at mid other ≡ mail_at old other)
    → ((other : GroupId) → mail_at new other ≡ cond (is_group group other) (with_entry entry (mail_at mid group)) (mail_at mid other))
    → (other : GroupId) → mail_at new other ≡ cond (is_group group other) (with_entry entry (mail_at old group)) (mail_at old other)
mail_after old mid new group entry same after other = after other ∙ (λ i. cond (is_group group other) (with_entry entry (same group i)) (same other i))

pub sent_after : (old mid new : BTreeMap GroupId (Vec Posted)) (group : GroupId) (more : List Posted) → ((other : GroupId) → sent_at mid other ≡ sent_at old other)
    → ((other : GroupId) → sent_at new other ≡ cond (is_group group other) (sent_at mid group ++ more) (sent_at mid other))
    → (other : GroupId) → sent_at new other ≡ cond (is_group group other) (sent_at old group ++ more) (sent_at old other)
sent_after old mid new group more same after other = after other ∙ (λ i. cond (is_group group other) (same group i ++ more) (same other i))

-- The log of one group, entry by entry.
use Rattle.std.proofs.Common.{◌≡◌, ◌∙◌, ap, sym, refl, subst, ℕ, suc, ◌+◌, ◌-◌, ◌<◌, ◌≤◌, Bool, true, false, cond, List, [], ◌∷◌, ◌++◌, take, length, arith}
use Rattle.std.specs.Prelude.{Option, Some, None, slice_get}
use Rattle.mega_base.specs.declared.names.GroupId.{GroupId}
use Rattle.mega_entry.specs.declared.content.Content.{Content}
use Rattle.mega_wal.specs.Same.{same_group}
use Rattle.mega_wal.proofs.Sames.{same_group_equal, same_group_self}
use Rattle.mega_rules.specs.Logs.{decided, log_of, prefix_of}
use Rattle.mega_rules.specs.Met.{Met}
use Rattle.mega_voter.proofs.Prefixes.{entry_is}
use Rattle.mega_queues.specs.declared.queues.Queues.{Queues}
use Rattle.mega_queues.specs.Boxes.{Logs, noted}
use Rattle.mega_queues.specs.Followed.{Represents}
use Rattle.mega_queues.specs.Mail.{Mail, mail_of, with_entry}
use Rattle.mega_queues.proofs.Mailing.{with_entry_is}
use Rattle.mega_pumps.specs.Reach.{with_log}
use Rattle.mega_pumps.proofs.Fronts.{not_none, take_length, take_more}

-- one entry more
more_noted : (logs : Logs) (group : GroupId) (entries : List Content) (entry : Content) → noted (with_log logs group entries) group entry ≡ with_log logs group (entries ++ entry ∷ [])
more_noted logs group entries entry = λ i other. go other (same_group group other) i
  where
    own : cond (same_group group group) entries (logs group) ≡ entries
    own = ap (λ t. cond t entries (logs group)) (same_group_self group)

    go : (other : GroupId) (t : Bool) → cond t (with_log logs group entries group ++ entry ∷ []) (cond t entries (logs other)) ≡ cond t (entries ++ entry ∷ []) (logs other)
    go other true = ap (λ (l : List Content). l ++ entry ∷ []) own
    go other false = refl

-- the log that is there
pub as_it_is : (logs : Logs) (group : GroupId) (entries : List Content) → logs group ≡ entries → logs ≡ with_log logs group entries
as_it_is logs group entries is = λ i other. go other (same_group group other) refl i
  where
    go : (other : GroupId) (t : Bool) → same_group group other ≡ t → logs other ≡ cond t entries (logs other)
    go other true same = sym (ap logs (same_group_equal group other same)) ∙ is
    go other false same = refl

-- the entry behind the first ones
pub next_entry : (met : List Met) (group : GroupId) (n : ℕ) (found : Option Content) → n < prefix_of met group → found ≡ decided met group (n + 1) → slice_get (log_of met group) n ≡ found
next_entry met group n found lt is =
    ap (slice_get (log_of met group)) (let e : n ≡ n + 1 - 1 = omega arith in e) ∙ entry_is met group (n + 1) (let above : 0 < n + 1 = omega arith in above) (let le : n + 1 ≤ prefix_of met group = omega arith in le) ∙ sym is

pub always_there : (met : List Met) (group : GroupId) (n : ℕ) → n < prefix_of met group → None ≡ decided met group (n + 1) → ⊥
always_there met group n lt none = not_none (log_of met group) n lt (sym (next_entry met group n None lt none))

pub length_there : (logs : Logs) (group : GroupId) (log : List Content) (n : ℕ) → n ≤ length log → n + 1 ≡ suc (length (with_log logs group (take n log) group))
length_there logs group log n le =
    let own : length (with_log logs group (take n log) group) ≡ n = ap (λ (t : Bool). length (cond t (take n log) (logs group))) (same_group_self group) ∙ take_length log n le in
    omega (arith, own)

pub noted_more : (met : List Met) (logs : Logs) (group : GroupId) (n : ℕ) (entry : Content) (queues : Queues) → n < prefix_of met group → Some entry ≡ decided met group (n + 1)
    → Represents (noted (with_log logs group (take n (log_of met group))) group entry) queues → Represents (with_log logs group (take (n + 1) (log_of met group))) queues
noted_more met logs group n entry queues lt is kept =
    subst (λ (all : Logs). Represents all queues)
    (more_noted logs group (take n (log_of met group)) entry ∙ ap (with_log logs group) (sym (take_more (log_of met group) n entry (next_entry met group n (Some entry) lt is)))) kept

pub mail_more : (met : List Met) (group : GroupId) (n : ℕ) (entry : Content) (was now : Mail) → n < prefix_of met group → Some entry ≡ decided met group (n + 1)
    → was ≡ mail_of (take n (log_of met group)) → now ≡ with_entry entry was → now ≡ mail_of (take (n + 1) (log_of met group))
mail_more met group n entry was now lt is seen takes =
    takes ∙ ap (with_entry entry) seen ∙ with_entry_is (take n (log_of met group)) entry ∙ ap mail_of (sym (take_more (log_of met group) n entry (next_entry met group n (Some entry) lt is)))

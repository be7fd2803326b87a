-- What is staged, one thing that is met after another.
use Rattle.std.proofs.Common.{◌≡◌, ℕ, List, [], ◌∷◌, ◌++◌, append-nil, Some, None, refl, sym, ap, subst, ◌∙◌}
use Rattle.std.specs.Prelude.{reverse, Result, Ok, Err, OnOk}
use Rattle.std.specs.List.{cons_option}
use Rattle.std.proofs.lemmas.List.{reverse-append}
use Rattle.mega_base.specs.declared.names.Epoch.{Epoch}
use Rattle.mega_base.specs.declared.names.GroupId.{GroupId}
use Rattle.mega_entry.specs.declared.content.Content.{Content}
use Rattle.mega_propose.specs.of_wire.declared.message.Body.{Body}
use Rattle.mega_propose.specs.of_wire.declared.message.Body.TheVariants.{Accepted, Promise as PromiseBody}
use Rattle.mega_propose.specs.of_wire.declared.message.Message.{Message}
use Rattle.mega_propose.specs.of_wal.declared.item.JournalItem.{JournalItem}
use Rattle.mega_propose.specs.of_wal.declared.item.JournalItem.TheVariants.{Start, Promise, Accept, Decide, Grant, Lapse, Starts as Counted}
use Rattle.mega_voter.specs.of_rules.Met.{Met, Decides, Grants, Lapses, Sends}
use Rattle.mega_voter.specs.Journal.{item_of, items_in, journal_of, without_starts}
use Rattle.mega_step_choices.specs.Staging.{Stages}

-- a fact of what a call leaves at Ok leads to another
pub on_ok : {T E X Y : Type 0} (result : Result T E) → OnOk result X → (X → Y) → OnOk result Y
on_ok (Ok made) x f = f x
on_ok (Err fault) x f = tt

-- ---- an item more
without_append : (items more : List JournalItem) → without_starts (items ++ more) ≡ without_starts items ++ without_starts more
without_append [] more = refl
without_append (Start ∷ items) more = without_append items more
without_append (Counted starts ∷ items) more = without_append items more
without_append (Promise group position ballot ∷ items) more = ap (λ rest. Promise group position ballot ∷ rest) (without_append items more)
without_append (Accept group position ballot entry ∷ items) more = ap (λ rest. Accept group position ballot entry ∷ rest) (without_append items more)
without_append (Decide group position entry ∷ items) more = ap (λ rest. Decide group position entry ∷ rest) (without_append items more)
without_append (Grant node epoch ∷ items) more = ap (λ rest. Grant node epoch ∷ rest) (without_append items more)
without_append (Lapse node epoch ∷ items) more = ap (λ rest. Lapse node epoch ∷ rest) (without_append items more)

pub nothing_staged : (met : List Met) → Stages [] met met
nothing_staged met = record { journal = refl; plain = refl }

pub silent_staged : (staged : List JournalItem) (before met : List Met) (one : Met) → item_of met one ≡ None → Stages staged before met → Stages staged before (one ∷ met)
silent_staged staged before met one none h = record { journal = ap (λ item. cons_option item (journal_of met)) none ∙ h.journal; plain = h.plain }

item_staged : (staged : List JournalItem) (before met : List Met) (one : Met) (item : JournalItem) → item_of met one ≡ Some item → without_starts (item ∷ []) ≡ item ∷ []
    → Stages staged before met → Stages (staged ++ item ∷ []) before (one ∷ met)
item_staged staged before met one item some plain h = record {
  journal = ap (λ found. cons_option found (journal_of met)) some ∙ (ap (λ rest. item ∷ rest) h.journal ∙ sym (ap (λ rest. rest ++ journal_of before) (reverse-append staged (item ∷ []))));
  plain = without_append staged (item ∷ []) ∙ (λ i. h.plain i ++ plain i);
}

pub granting_staged : (staged : List JournalItem) (before met : List Met) (node : ℕ) (epoch : Epoch) → Stages staged before met → Stages (staged ++ Grant (record { 0 = node }) epoch ∷ []) before (Grants node epoch ∷ met)
granting_staged staged before met node epoch h = item_staged staged before met (Grants node epoch) (Grant (record { 0 = node }) epoch) refl refl h

pub lapsing_staged : (staged : List JournalItem) (before met : List Met) (node : ℕ) (epoch : Epoch) → Stages staged before met → Stages (staged ++ Lapse (record { 0 = node }) epoch ∷ []) before (Lapses node epoch ∷ met)
lapsing_staged staged before met node epoch h = item_staged staged before met (Lapses node epoch) (Lapse (record { 0 = node }) epoch) refl refl h

pub deciding_staged : (staged : List JournalItem) (before met : List Met) (group : GroupId) (position : ℕ) (entry : Content) → Stages staged before met
    → Stages (staged ++ Decide group (record { 0 = position }) entry ∷ []) before (Decides group position entry ∷ met)
deciding_staged staged before met group position entry h = item_staged staged before met (Decides group position entry) (Decide group (record { 0 = position }) entry) refl refl h

pub sending_staged : (staged : List JournalItem) (before met : List Met) (message : Message) → Stages staged before met → Stages (staged ++ items_in message.body) before (Sends message ∷ met)
sending_staged staged before met message h = by message.body
  where
    by : (body : Body) → Stages (staged ++ items_in body) before (Sends (record message { body = body }) ∷ met)
    by (PromiseBody op group position ballot report) = item_staged staged before met (Sends (record message { body = PromiseBody op group position ballot report })) (Promise group position ballot) refl refl h
    by (Accepted op group position ballot entry) = item_staged staged before met (Sends (record message { body = Accepted op group position ballot entry })) (Accept group position ballot entry) refl refl h
    by body = subst (λ (items : List JournalItem). Stages items before (Sends (record message { body = body }) ∷ met)) (sym (append-nil staged)) (silent_staged staged before met (Sends (record message { body = body })) refl h)

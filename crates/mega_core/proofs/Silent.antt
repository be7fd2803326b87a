-- What is met in a step that neither the logs nor the count of operations keep.
use Rattle.std.proofs.Common.{◌≡◌, ℕ, nat_lt, Bool, true, false, cond, List, [], ◌∷◌, map, flat_map, None, refl, ◌∙◌}
use Rattle.std.specs.List.{All}
use Rattle.std.proofs.lemmas.List.Elements.{All-append, All-cons, All-head, All-nil, All-tail, All-weaker}
use Rattle.mega_base.specs.declared.names.GroupId.{GroupId}
use Rattle.mega_wire.specs.declared.message.Message.{Message}
use Rattle.mega_wal.specs.declared.item.JournalItem.{JournalItem}
use Rattle.mega_wal.specs.declared.kept.Kept.{Kept}
use Rattle.mega_rules.specs.Met.{Met, Answers, Applies, Sends, Validates}
use Rattle.mega_rules.specs.Members.{has_rows}
use Rattle.mega_rules.specs.Clock.{begun_of}
use Rattle.mega_rules.specs.Logs.{groups_of}
use Rattle.mega_rules.specs.Operations.{Setting}
use Rattle.mega_rules.specs.Steps.{applied_at, apply_note, apply_notes, onto}
use Rattle.mega_step_parts.specs.of_voter.Journal.{item_of}
use Rattle.mega_step_parts.specs.of_voter.Telling.{Tells}
use Rattle.mega_step_parts.proofs.of_voter.KeptTells.{silent_told}
use Rattle.mega_actions.specs.of_node_laws.Deciding.{IsNoDecision}
use Rattle.mega_core.specs.Acted.{IsEnd, IsValidate}
use Rattle.mega_step_parts.specs.Staging.{Stages}
use Rattle.mega_step_parts.proofs.Staged.{silent_staged}
use Rattle.mega_core.proofs.Alike.{IsApart}

-- nothing of it is kept
pub record IsMute (one : Met) : Type 0 where
  pub unkept : (met : List Met) → item_of met one ≡ None
  pub undecided : IsNoDecision one
  pub unbegun : (met : List Met) → begun_of (one ∷ met) ≡ begun_of met

pub validate_mute : (one : Met) → IsValidate one → IsMute one
validate_mute (Validates group p) is = record { unkept = λ met. refl; undecided = refl; unbegun = λ met. refl }
validate_mute _ is = absurd is

pub end_mute : (one : Met) → IsEnd one → IsMute one
end_mute (Answers op answer) is = record { unkept = λ met. refl; undecided = refl; unbegun = λ met. refl }
end_mute _ is = absurd is

end_apart : (one : Met) → IsEnd one → IsApart one
end_apart (Answers op answer) is = refl
end_apart _ is = absurd is

pub ends_apart : (items : List Met) → All IsEnd items → All IsApart items
ends_apart items are = All-weaker IsEnd IsApart end_apart items are

-- mute, and nothing to the leases
pub record IsQuiet (one : Met) : Type 0 where
  pub mute : IsMute one
  pub apart : IsApart one

applied_quiet : (group : GroupId) (p : ℕ) → IsQuiet (Applies group p)
applied_quiet group p = record { mute = record { unkept = λ met. refl; undecided = refl; unbegun = λ met. refl }; apart = refl }

each_quiet : (was : List Met) (was_stored : GroupId → ℕ) (met : List Met) (stored : GroupId → ℕ) (groups : List GroupId) → All IsQuiet (flat_map (apply_note was was_stored met stored) groups)
each_quiet was was_stored met stored [] = All-nil IsQuiet
each_quiet was was_stored met stored (group ∷ groups) =
    All-append IsQuiet (apply_note was was_stored met stored group) (flat_map (apply_note was was_stored met stored) groups)
    (by (nat_lt (applied_at was was_stored group) (applied_at met stored group))) (each_quiet was was_stored met stored groups)
  where
    by : (t : Bool) → All IsQuiet (cond t (Applies group (applied_at met stored group) ∷ []) [])
    by true = All-cons IsQuiet (Applies group (applied_at met stored group)) [] (applied_quiet group (applied_at met stored group)) (All-nil IsQuiet)
    by false = All-nil IsQuiet

pub applies_quiet : (s : Setting) (was : List Met) (was_stored : GroupId → ℕ) (met : List Met) (stored : GroupId → ℕ) → All IsQuiet (apply_notes s was was_stored met stored)
applies_quiet s was was_stored met stored = by (has_rows s.cluster s.me)
  where
    by : (t : Bool) → All IsQuiet (cond t (flat_map (apply_note was was_stored met stored) (groups_of met)) [])
    by true = each_quiet was was_stored met stored (groups_of met)
    by false = All-nil IsQuiet

-- ---- what is left by them

pub mute_told : (kept : Kept) (items met : List Met) → All IsMute items → Tells kept met → Tells kept (onto items met)
mute_told kept [] met mute tells = tells
mute_told kept (one ∷ items) met mute tells = mute_told kept items (one ∷ met) (All-tail IsMute one items mute) ((silent_told kept met one ((All-head IsMute one items mute).unkept met)).0 tells)

pub mute_begun : (items met : List Met) → All IsMute items → begun_of (onto items met) ≡ begun_of met
mute_begun [] met mute = refl
mute_begun (one ∷ items) met mute = mute_begun items (one ∷ met) (All-tail IsMute one items mute) ∙ (All-head IsMute one items mute).unbegun met

pub mute_undecided : (items : List Met) → All IsMute items → All IsNoDecision items
mute_undecided items mute = All-weaker IsMute IsNoDecision (λ one m. m.undecided) items mute

-- ---- what is sent

pub sent_begun : (sends : List Message) (met : List Met) → begun_of (onto (map Sends sends) met) ≡ begun_of met
sent_begun [] met = refl
sent_begun (m ∷ sends) met = sent_begun sends (Sends m ∷ met)

pub sent_apart : (sends : List Message) → All IsApart (map Sends sends)
sent_apart [] = All-nil IsApart
sent_apart (m ∷ sends) = All-cons IsApart (Sends m) (map Sends sends) refl (sent_apart sends)

pub sent_undecided : (sends : List Message) → All IsNoDecision (map Sends sends)
sent_undecided [] = All-nil IsNoDecision
sent_undecided (m ∷ sends) = All-cons IsNoDecision (Sends m) (map Sends sends) refl (sent_undecided sends)

-- ---- what is not kept
pub mute_staged : (staged : List JournalItem) (before items met : List Met) → All IsMute items → Stages staged before met → Stages staged before (onto items met)
mute_staged staged before [] met mute h = h
mute_staged staged before (one ∷ items) met mute h =
    mute_staged staged before items (one ∷ met) (All-tail IsMute one items mute) (silent_staged staged before met one ((All-head IsMute one items mute).unkept met) h)

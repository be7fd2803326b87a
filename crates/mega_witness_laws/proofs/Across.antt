-- A group that is valid by what was asked while an earlier epoch served.
use Rattle.std.proofs.Common.{◌≡◌, inl, inr, ℕ, ◌&&◌, Bool, true, false, not, List, Option, Some, None, refl, ap, sym, ◌∙◌, subst}
use Rattle.std.specs.List.{list_any}
use Rattle.std.proofs.lemmas.Bool.{and_from, false_from_ne_true}
use Rattle.mega_base.specs.declared.names.Epoch.{Epoch}
use Rattle.mega_base.specs.declared.names.OpId.{OpId}
use Rattle.mega_base.specs.declared.names.Position.{Position}
use Rattle.mega_wal.specs.History.{is_epoch_below, is_same_epoch}
use Rattle.mega_wire.specs.declared.message.Body.{Body}
use Rattle.mega_wire.specs.declared.message.Body.TheVariants.{Top}
use Rattle.mega_valid_laws.specs.of_settled_laws.of_tape_laws.of_transcript.declared.item.Item.{Item}
use Rattle.mega_valid_laws.specs.of_settled_laws.of_tape_laws.of_transcript.declared.item.Item.TheVariants.{Grant, Sent, Serving}
use Rattle.mega_valid_laws.specs.of_settled_laws.of_tape_laws.of_transcript.Tape.{newest}
use Rattle.mega_valid_laws.specs.of_settled_laws.of_tape_laws.of_promises.Items.{number}
use Rattle.mega_valid_laws.specs.of_settled_laws.of_tape_laws.Examples.{epoch, first}
use Rattle.mega_valid_laws.specs.of_settled_laws.of_tape_laws.Lawful.{Heard, message}
use Rattle.mega_valid_laws.specs.of_settled_laws.of_tape_laws.of_rules.Examples.{cluster, group, op_of}
use Rattle.mega_valid_laws.specs.Leases.{AreLeased, MayBeValid, MayServe, NoneAbove, has_polled, serving_on}
use Rattle.mega_valid_laws.proofs.of_settled_laws.of_tape_laws.Majorities.{Shared, meet}
use Rattle.mega_valid_laws.proofs.of_settled_laws.of_tape_laws.Witnesses.{first_two, two_of_three}
use Rattle.mega_witness_laws.specs.Tapes.{next_epoch, polled_across, valid_across}
use Rattle.mega_witness_laws.proofs.Shown.{AllOf, no_moment, none_stands, stands_of}

-- ---- all but the last item is allowed

serves_epoch : Epoch → Item → Bool
serves_epoch e (Serving node other) = is_same_epoch other e
serves_epoch e _ = false

grants_above : Epoch → Item → Bool
grants_above e (Grant cell node other) = is_epoch_below e other
grants_above e _ = false

none_above : (tape : List Item) (e : Epoch) → list_any (grants_above e) tape ≡ false → NoneAbove tape 2 e
unfolding grants_above
none_above tape e none cell other g = false_from_ne_true (is_epoch_below e other) (λ t. none_stands (grants_above e) (Grant cell (number 2) other) tape none t g)

may_serve : (tape : List Item) (e : Epoch) → is_same_epoch e e ≡ true → serving_on tape 2 ≡ None → list_any (serves_epoch e) tape ≡ false → list_any (grants_above e) tape ≡ false → MayServe tape (number 2) e
unfolding serves_epoch
may_serve tape e same alone once greatest = record {
  once = none_stands (serves_epoch e) (Serving (number 2) e) tape once same;
  alone = alone;
  greatest = none_above tape e greatest;
}

pub leased : AreLeased cluster (newest polled_across)
unfolding serves_epoch grants_above
leased = (tt, (tt, (tt, (tt, (tt, (tt, (may_serve _ next_epoch refl refl refl refl, ((inr (inl refl), refl), ((inr (inl refl), refl), (λ now is. cc, (λ now is. cc, (tt, (tt, (tt, (tt, (tt, (may_serve _ epoch refl refl refl refl, ((inr (inl refl), refl), ((inr (inl refl), refl), (λ now is. cc, (λ now is. cc, (tt, (tt, (tt, (tt, (tt, (tt, (tt, (tt, (tt, (tt, (tt, (tt, (tt, tt))))))))))))))))))))))))))))))))))

-- ---- the last item is not

-- the operation that an answer about the end of a log is for
abbrev answers_to : Item → OpId
answers_to (Sent key m) = by m.body
  where
    by : Body → OpId
    by (Top op g top) = op
    by _ = op_of 2
answers_to _ = op_of 2

-- the second epoch serves, and the operation asked nothing yet
abbrev is_second : Option Epoch → Bool
is_second (Some e) = is_same_epoch e next_epoch
is_second None = false

abbrev unasked : List Item → Bool
unasked tape = is_second (serving_on tape 2) && not (has_polled tape (op_of 2) group)

all_of_one : AllOf answers_to (op_of 2) (newest polled_across)
all_of_one = (refl, (refl, (refl, (refl, (refl, (refl, (refl, (refl, (refl, (refl, (refl, (refl, (refl, (refl, (refl, (refl, (refl, (refl, (refl, (refl, (refl, (refl, (refl, (refl, (refl, (refl, (refl, (refl, (refl, (refl, (refl, (refl, (refl, (refl, tt))))))))))))))))))))))))))))))))))

heard_across : (m : MayBeValid cluster (newest polled_across) 2 group first) (voter : ℕ) (top : Position) → Heard (newest polled_across) voter m.op (Top m.op group top) → ⊥
heard_across m voter top h = no_moment unasked m.moment (newest polled_across) refl m.earlier
    (and_from (is_second (serving_on m.moment 2)) (not (has_polled m.moment (op_of 2) group)) (ap is_second (m.served ∙ sym m.serves))
    (ap not (subst (λ (op : OpId). has_polled m.moment op group ≡ false) own m.fresh)))
  where
    own : m.op ≡ op_of 2
    own = stands_of answers_to (op_of 2) (Sent h.number (message voter m.op.node.0 (Top m.op group top))) (newest polled_across) all_of_one h.sent

not_valid : MayBeValid cluster (newest polled_across) 2 group first → ⊥
not_valid m = by (meet cluster m.test first_two m.majority two_of_three)
  where
    by : Shared m.test first_two → ⊥
    by shared = let h = (m.heard) shared.node shared.first in heard_across m shared.node h.0 h.1

pub not_leased : AreLeased cluster (newest valid_across) → ⊥
not_leased l = not_valid l.0

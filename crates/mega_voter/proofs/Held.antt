-- What records hold, with one thing more that was met.
use Rattle.std.proofs.Common.{◌≡◌, ◌↔◌, ℕ, List, [], ◌∷◌, None, refl, sym, ap, subst, ◌∙◌, arith}
use Rattle.mega_base.specs.declared.names.GroupId.{GroupId}
use Rattle.mega_wire.specs.declared.message.Message.{Message}
use Rattle.mega_wal.specs.Records.{history_of}
use Rattle.mega_rules.specs.Met.{Met, Sends, Unsends}
use Rattle.mega_rules.specs.Clock.{start_of}
use Rattle.mega_voter.specs.Holding.{Agrees, HoldsMet}
use Rattle.mega_voter.specs.Journal.{item_of, journal_of}
use Rattle.mega_voter.proofs.KeptTells.{silent_follows, silent_journal, silent_start}

pub nothing_held : HoldsMet [] 0 []
nothing_held = record {
  good = refl;
  agrees = record { slots = λ group n. refl; granted = λ node. refl };
  counted = refl;
  later = omega arith;
  honest = tt;
}

pub silent_held : (records : List (List ℕ)) (starts : ℕ) (met : List Met) (one : Met) → item_of met one ≡ None → HoldsMet records starts met ↔ HoldsMet records starts (one ∷ met)
silent_held records starts met one none = (more, less)
  where
    more : HoldsMet records starts met → HoldsMet records starts (one ∷ met)
    more holds = record {
      good = holds.good;
      agrees = subst (Agrees (history_of records)) (sym (silent_journal met one none)) holds.agrees;
      counted = holds.counted;
      later = let le = holds.later in let same = silent_start met one none in omega arith;
      honest = (silent_follows met one none, holds.honest);
    }

    less : HoldsMet records starts (one ∷ met) → HoldsMet records starts met
    less holds = record {
      good = holds.good;
      agrees = subst (Agrees (history_of records)) (silent_journal met one none) holds.agrees;
      counted = holds.counted;
      later = let le = holds.later in let same = silent_start met one none in omega arith;
      honest = holds.honest.1;
    }

pub unsent_held : (records : List (List ℕ)) (starts : ℕ) (met : List Met) (message : Message) → HoldsMet records starts (Sends message ∷ met) ↔ HoldsMet records starts (Unsends message ∷ met)
unsent_held records starts met message = (
  λ holds. record { good = holds.good; agrees = record { slots = holds.agrees.slots; granted = holds.agrees.granted }; counted = holds.counted; later = holds.later; honest = holds.honest },
  λ holds. record { good = holds.good; agrees = record { slots = holds.agrees.slots; granted = holds.agrees.granted }; counted = holds.counted; later = holds.later; honest = holds.honest },
)

-- With which status the program ends, by what stopped it.
use Rattle.std.proofs.Common.{◌≡◌, ℕ, ◌≤◌, Bool, true, false, Result, Ok, Err, refl, sym, ◌∙◌, ap, subst, arith, inl, inr}
use Rattle.std.specs.Prelude.{◌⊎◌, IfErr}
use Rattle.mega_base.specs.Causes.{Rose}
use Rattle.mega_backup_words.specs.declared.stop.Stop.{Stop}
use Rattle.mega_backup_words.specs.declared.stop.Stop.TheVariants.{Header, Source, Sink, Device, NoMemory, Malformed, Short, TooLarge, BadRecord}
use Rattle.mega_backup_words.specs.Endings.{end_status, is_cut, status_of}
use Rattle.mega_backup_words.specs.Stops.{IsBackupStatus, IsBackupStop, IsRestoreStatus, IsRestoreStop}

-- the status is that of the end, or tells that the last line was not written
abbrev pub EndsWith : Result (Unit {0}) Stop → ℕ → Type 0
EndsWith ended status = (status ≡ end_status ended) ⊎ (status ≡ 6) ⊎ (status ≡ 8)

backup_stop : (stop : Stop) → IsBackupStop stop → IsBackupStatus (status_of stop)
backup_stop (Header rule) only = inr (inl refl)
backup_stop Source only = inr (inr (inl refl))
backup_stop Sink only = inr (inr (inr (inl refl)))
backup_stop Device only = inr (inr (inr (inr (inl refl))))
backup_stop NoMemory only = inr (inr (inr (inr (inr (inl refl)))))
backup_stop (Malformed line) only = absurd only
backup_stop (Short has) only = inr (inr (inr (inr (inr (inr (inl refl))))))
backup_stop (TooLarge key) only = absurd only
backup_stop BadRecord only = inr (inr (inr (inr (inr (inr (inr refl))))))

pub backup_status : (ended : Result (Unit {0}) Stop) (status : ℕ) → IfErr ended IsBackupStop → EndsWith ended status → IsBackupStatus status
backup_status ended status only (inr (inl is)) = inr (inr (inr (inl is)))
backup_status ended status only (inr (inr is)) = inr (inr (inr (inr (inr (inl is)))))
backup_status (Ok done) status only (inl is) = inl is
backup_status (Err stop) status only (inl is) = subst IsBackupStatus (sym is) (backup_stop stop only)

restore_stop : (stop : Stop) → IsRestoreStop stop → IsRestoreStatus (status_of stop)
restore_stop (Header rule) only = inr (inl refl)
restore_stop Source only = inr (inr (inl refl))
restore_stop Sink only = inr (inr (inr (inl refl)))
restore_stop Device only = absurd only
restore_stop NoMemory only = inr (inr (inr (inr (inl refl))))
restore_stop (Malformed line) only = inr (inr (inr (inr (inr (inl refl)))))
restore_stop (Short has) only = inr (inr (inr (inr (inr (inr (inl refl))))))
restore_stop (TooLarge key) only = inr (inr (inr (inr (inr (inr (inr refl))))))
restore_stop BadRecord only = absurd only

pub restore_status : (ended : Result (Unit {0}) Stop) (status : ℕ) → IfErr ended IsRestoreStop → EndsWith ended status → IsRestoreStatus status
restore_status ended status only (inr (inl is)) = inr (inr (inr (inl is)))
restore_status ended status only (inr (inr is)) = inr (inr (inr (inr (inl is))))
restore_status (Ok done) status only (inl is) = inl is
restore_status (Err stop) status only (inl is) = subst IsRestoreStatus (sym is) (restore_stop stop only)

-- ---- which stop a status tells of

source_of : (ended : Result (Unit {0}) Stop) → end_status ended ≡ 5 → ended ≡ Err Source
source_of (Ok done) is = absurd (omega (arith, is))
source_of (Err (Header rule)) is = absurd (omega (arith, is))
source_of (Err Source) is = refl
source_of (Err Sink) is = absurd (omega (arith, is))
source_of (Err Device) is = absurd (omega (arith, is))
source_of (Err NoMemory) is = absurd (omega (arith, is))
source_of (Err (Malformed line)) is = absurd (omega (arith, is))
source_of (Err (Short has)) is = absurd (omega (arith, is))
source_of (Err (TooLarge key)) is = absurd (omega (arith, is))
source_of (Err BadRecord) is = absurd (omega (arith, is))

pub source_end : (ended : Result (Unit {0}) Stop) (status : ℕ) → EndsWith ended status → status ≡ 5 → ended ≡ Err Source
source_end ended status (inl same) is = source_of ended (sym same ∙ is)
source_end ended status (inr (inl six)) is = absurd (omega (arith, six, is))
source_end ended status (inr (inr eight)) is = absurd (omega (arith, eight, is))

device_of : (ended : Result (Unit {0}) Stop) → end_status ended ≡ 7 → ended ≡ Err Device
device_of (Ok done) is = absurd (omega (arith, is))
device_of (Err (Header rule)) is = absurd (omega (arith, is))
device_of (Err Source) is = absurd (omega (arith, is))
device_of (Err Sink) is = absurd (omega (arith, is))
device_of (Err Device) is = refl
device_of (Err NoMemory) is = absurd (omega (arith, is))
device_of (Err (Malformed line)) is = absurd (omega (arith, is))
device_of (Err (Short has)) is = absurd (omega (arith, is))
device_of (Err (TooLarge key)) is = absurd (omega (arith, is))
device_of (Err BadRecord) is = absurd (omega (arith, is))

pub device_end : (ended : Result (Unit {0}) Stop) (status : ℕ) → EndsWith ended status → status ≡ 7 → ended ≡ Err Device
device_end ended status (inl same) is = device_of ended (sym same ∙ is)
device_end ended status (inr (inl six)) is = absurd (omega (arith, six, is))
device_end ended status (inr (inr eight)) is = absurd (omega (arith, eight, is))

pub sink_end : (ended : Result (Unit {0}) Stop) → end_status ended ≡ 6 → ended ≡ Err Sink
sink_end (Ok done) is = absurd (omega (arith, is))
sink_end (Err (Header rule)) is = absurd (omega (arith, is))
sink_end (Err Source) is = absurd (omega (arith, is))
sink_end (Err Sink) is = refl
sink_end (Err Device) is = absurd (omega (arith, is))
sink_end (Err NoMemory) is = absurd (omega (arith, is))
sink_end (Err (Malformed line)) is = absurd (omega (arith, is))
sink_end (Err (Short has)) is = absurd (omega (arith, is))
sink_end (Err (TooLarge key)) is = absurd (omega (arith, is))
sink_end (Err BadRecord) is = absurd (omega (arith, is))

-- what is not cut was not cut before
pub uncut : (ended : Result (Unit {0}) Stop) (status : ℕ) → EndsWith ended status → is_cut status ≡ false → is_cut (end_status ended) ≡ false
uncut ended status (inl same) is = ap is_cut (sym same) ∙ is
uncut ended status (inr (inl six)) is = absurd (let none : ◌≡◌ {A = Bool} true false = ap is_cut (sym six) ∙ is in cc)
uncut ended status (inr (inr eight)) is = absurd (let none : ◌≡◌ {A = Bool} true false = ap is_cut (sym eight) ∙ is in cc)

-- ---- a count that rose stays risen

pub rose_then : (one two three : ℕ) → Rose one two → two ≤ three → Rose one three
rose_then one two three rose more = omega (arith, rose, more)

pub then_rose : (one two three : ℕ) → one ≤ two → Rose two three → Rose one three
then_rose one two three more rose = omega (arith, more, rose)

pub either_rose : (ended : Result (Unit {0}) Stop) (one two three : ℕ) → one ≤ two → two ≤ three → (ended ≡ Err Sink → Rose one two) → (end_status ended ≡ 6) ⊎ Rose two three → Rose one three
either_rose ended one two three first then before (inl six) = rose_then one two three (before (sink_end ended six)) then
either_rose ended one two three first then before (inr rose) = then_rose one two three first rose

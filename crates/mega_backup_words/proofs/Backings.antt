-- How a backup ends, by what writing it and opening the log come to.
use Rattle.std.proofs.Common.{◌≡◌, ℕ, ◌≤◌, ◌<◌, Bool, true, false, List, take, Option, Some, None, Result, Ok, Err, refl, sym, ◌∙◌, ap, subst, arith}
use Rattle.std.specs.Prelude.{nat_le, if◌then◌else◌}
use Rattle.std.specs.Io.KnownBytes.{Appends, Keeps}
use Rattle.std.proofs.KnownBytes.{Keeps-refl}
use Rattle.std.proofs.lemmas.Bool.Decides.{nat_tests}
use Rattle.mega_base.specs.declared.names.GroupId.{GroupId}
use Rattle.mega_base.specs.declared.names.Position.{Position}
use Rattle.mega_cluster.specs.declared.cluster.Cluster.{Cluster}
use Rattle.mega_io.specs.Pieces.{AppendsFront}
use Rattle.mega_checkpoint.specs.Format.{list_of}
use Rattle.mega_header.specs.Parts.{cluster_in}
use Rattle.mega_header.specs.Known.{Breaks, IfKnown}
use Rattle.mega_wal.specs.declared.item.JournalItem.{JournalItem}
use Rattle.mega_wal.specs.History.{prefix_of}
use Rattle.mega_wal.specs.Records.{first_bad, history_of}
use Rattle.mega_replica.specs.Stored.{log_in}
use Rattle.mega_backup.specs.declared.fault.BackupFault.{BackupFault}
use Rattle.mega_backup.specs.declared.fault.BackupFault.TheVariants as fault
use Rattle.mega_backup.specs.Faults.{IsShortOrStop, IsStop}
use Rattle.mega_backup.specs.Texts.{backup_text}
use Rattle.mega_backup_words.specs.declared.stop.Stop.{Stop}
use Rattle.mega_backup_words.specs.declared.stop.Stop.TheVariants.{Header, Source, Sink, Device, NoMemory, Malformed, Short, TooLarge, BadRecord}
use Rattle.mega_backup_words.specs.Backing.{AreHeld, BacksUp, backup_of, log_ending, records_ending}
use Rattle.mega_backup_words.specs.Endings.{Ending, Ends, EndsBy, ending_of, is_cut, status_of}
use Rattle.mega_backup_words.specs.Stops.{IsBackupStop, IsHeaderStop, IsLogStop, IsOpeningStop, IsWriteStop, stop_of}
use Rattle.mega_backup_words.proofs.Endings.{unwritten}

-- ---- the log is long enough, or it is not

is_most : (m n : ℕ) → m ≤ n → nat_le m n ≡ true
is_most m n most = grind (arith, nat_tests)

is_more : (m n : ℕ) → n < m → nat_le m n ≡ false
is_more m n more = grind (arith, nat_tests)

abbrev pub whole_ending : GroupId → ℕ → List JournalItem → Ending
whole_ending group p items = record { status = 0; text = backup_text group p (take p (log_in items group)) }

long_log : (group : GroupId) (p : ℕ) (items : List JournalItem) → p ≤ prefix_of items group → log_ending group p items ≡ whole_ending group p items
long_log group p items enough = ap (λ (test : Bool). if test then whole_ending group p items else ending_of (Short (record { 0 = prefix_of items group }))) (is_most p (prefix_of items group) enough)

short_log : (group : GroupId) (p : ℕ) (items : List JournalItem) → prefix_of items group < p → log_ending group p items ≡ ending_of (Short (record { 0 = prefix_of items group }))
short_log group p items few = ap (λ (test : Bool). if test then whole_ending group p items else ending_of (Short (record { 0 = prefix_of items group }))) (is_more p (prefix_of items group) few)

-- ---- what writing comes to

pub wrote_log : (group : GroupId) (p : ℕ) (items : List JournalItem) (old new : Option (List ℕ)) → (p ≤ prefix_of items group) × Appends old new (backup_text group p (take p (log_in items group))) → Ends (log_ending group p items) old new (Ok tt)
wrote_log group p items old new (enough, all) =
    (ap (λ (e : Ending). e.status) (long_log group p items enough), subst (λ (e : Ending). Appends old new e.text) (sym (long_log group p items enough)) all)

cut_log : (group : GroupId) (p : ℕ) (items : List JournalItem) (old new : Option (List ℕ)) → (p ≤ prefix_of items group) × AppendsFront old new (backup_text group p (take p (log_in items group))) → AppendsFront old new (log_ending group p items).text
cut_log group p items old new (enough, front) = subst (λ (e : Ending). AppendsFront old new e.text) (sym (long_log group p items enough)) front

lacks : (group : GroupId) (p : ℕ) (items : List JournalItem) (old new : Option (List ℕ)) (has : Position) → (has.0 ≡ prefix_of items group) × (has.0 < p) × Keeps old new → EndsBy (log_ending group p items) old new (Short has)
lacks group p items old new has (is, few, kept) =
    (short_log group p items (subst (λ (n : ℕ). n < p) is few) ∙ ap (λ (n : ℕ). ending_of (Short (record { 0 = n }))) (sym is), kept)

pub refused_log : (group : GroupId) (p : ℕ) (items : List JournalItem) (old new : Option (List ℕ)) (why : BackupFault) → IsShortOrStop why
    → ((has : Position) → why ≡ fault.Short has → (has.0 ≡ prefix_of items group) × (has.0 < p) × Keeps old new)
    → (IsStop why → (p ≤ prefix_of items group) × AppendsFront old new (backup_text group p (take p (log_in items group)))) → EndsBy (log_ending group p items) old new (stop_of why)
refused_log group p items old new (fault.Short has) only short stopped = lacks group p items old new has (short has refl)
refused_log group p items old new (fault.Malformed line) only short stopped = absurd only
refused_log group p items old new (fault.TooLarge key) only short stopped = absurd only
refused_log group p items old new fault.SinkFault only short stopped = cut_log group p items old new (stopped tt)
refused_log group p items old new fault.NoMemory only short stopped = cut_log group p items old new (stopped tt)

-- ---- what opening comes to

abbrev pub LogEnds : GroupId → ℕ → Bool → List ℕ → Option (List ℕ) → Option (List ℕ) → Result (Unit {0}) Stop → Type 0
LogEnds group p told seen old new r = (records : List (List ℕ)) × AreHeld told seen records × Ends (records_ending group p (first_bad records) (history_of records)) old new r

pub opened_ends : (group : GroupId) (p : ℕ) (told : Bool) (seen : List ℕ) (old new : Option (List ℕ)) (r : Result (Unit {0}) Stop) (records : List (List ℕ)) → AreHeld told seen records → first_bad records ≡ None
    → Ends (log_ending group p (history_of records)) old new r → LogEnds group p told seen old new r
opened_ends group p told seen old new r records held good ends =
    (records, held, subst (λ (bad : Option ℕ). Ends (records_ending group p bad (history_of records)) old new r) (sym good) ends)

pub unopened_ends : (group : GroupId) (p : ℕ) (told : Bool) (seen : List ℕ) (old : Option (List ℕ)) (stop : Stop) → IsOpeningStop stop
    → (stop ≡ BadRecord → (records : List (List ℕ)) × AreHeld told seen records × ((n : ℕ) × (first_bad records ≡ Some n))) → LogEnds group p told seen old old (Err stop)
unopened_ends group p told seen old Device only bad = (list_of seen, (λ _. refl), unwritten old (records_ending group p (first_bad (list_of seen)) (history_of (list_of seen))).text)
unopened_ends group p told seen old NoMemory only bad = (list_of seen, (λ _. refl), unwritten old (records_ending group p (first_bad (list_of seen)) (history_of (list_of seen))).text)
unopened_ends group p told seen old BadRecord only bad =
    let found = bad refl in (found.0, found.1, (ap (λ (o : Option ℕ). records_ending group p o (history_of found.0)) found.2.1, Keeps-refl old))
unopened_ends group p told seen old (Header rule) only bad = absurd only
unopened_ends group p told seen old Source only bad = absurd only
unopened_ends group p told seen old Sink only bad = absurd only
unopened_ends group p told seen old (Malformed line) only bad = absurd only
unopened_ends group p told seen old (Short has) only bad = absurd only
unopened_ends group p told seen old (TooLarge key) only bad = absurd only

-- ---- the whole

pub log_backs : (group : GroupId) (p least : ℕ) (known : Option (List ℕ)) (told : Bool) (seen : List ℕ) (old new : Option (List ℕ)) (r : Result (Unit {0}) Stop) → (cluster : Cluster) × IfKnown known (λ input. cluster_in least input ≡ Ok cluster)
    → LogEnds group p told seen old new r → BacksUp group p least known told seen (λ ending. Ends ending old new r)
log_backs group p least known told seen old new r (cluster, reads) (records, held, ends) =
    record { header = Ok cluster; headed = reads; records = records; held = held; said = ends }

-- a header of which nothing is told
any_header : (least : ℕ) (known : Option (List ℕ)) → (header : Result Cluster ℕ) × IfKnown known (λ input. cluster_in least input ≡ header)
any_header least None = (Err 0, tt)
any_header least (Some input) = (cluster_in least input, refl)

pub unread_backs : (group : GroupId) (p least : ℕ) (known : Option (List ℕ)) (told : Bool) (seen : List ℕ) (old : Option (List ℕ)) (stop : Stop) → IsHeaderStop stop
    → ((rule : ℕ) → stop ≡ Header rule → Breaks least known rule) → BacksUp group p least known told seen (λ ending. Ends ending old old (Err stop))
unread_backs group p least known told seen old (Header rule) only breaks =
    record { header = Err rule; headed = breaks rule refl; records = list_of seen; held = λ _. refl; said = (refl, Keeps-refl old) }
unread_backs group p least known told seen old Source only breaks =
    let any = any_header least known in
    record { header = any.0; headed = any.1; records = list_of seen; held = λ _. refl; said = unwritten old (backup_of group p any.0 (list_of seen)).text }
unread_backs group p least known told seen old NoMemory only breaks =
    let any = any_header least known in
    record { header = any.0; headed = any.1; records = list_of seen; held = λ _. refl; said = unwritten old (backup_of group p any.0 (list_of seen)).text }
unread_backs group p least known told seen old Sink only breaks = absurd only
unread_backs group p least known told seen old Device only breaks = absurd only
unread_backs group p least known told seen old (Malformed line) only breaks = absurd only
unread_backs group p least known told seen old (Short has) only breaks = absurd only
unread_backs group p least known told seen old (TooLarge key) only breaks = absurd only
unread_backs group p least known told seen old BadRecord only breaks = absurd only

pub backs_so : (group : GroupId) (p least : ℕ) (known : Option (List ℕ)) (told : Bool) (seen : List ℕ) (Says More : Ending → Type 0) → ((ending : Ending) → Says ending → More ending)
    → BacksUp group p least known told seen Says → BacksUp group p least known told seen More
backs_so group p least known told seen Says More so backs =
    record { header = backs.header; headed = backs.headed; records = backs.records; held = backs.held; said = so (backup_of group p backs.header backs.records) backs.said }

-- ---- why writing stops

pub write_stop : (why : BackupFault) → IsShortOrStop why → IsWriteStop (stop_of why)
write_stop (fault.Short has) only = tt
write_stop (fault.Malformed line) only = absurd only
write_stop (fault.TooLarge key) only = absurd only
write_stop fault.SinkFault only = tt
write_stop fault.NoMemory only = tt

pub sink_stop : (why : BackupFault) → stop_of why ≡ Sink → why ≡ fault.SinkFault
sink_stop (fault.Short has) is = cc
sink_stop (fault.Malformed line) is = cc
sink_stop (fault.TooLarge key) is = cc
sink_stop fault.SinkFault is = refl
sink_stop fault.NoMemory is = cc

pub log_stop : (stop : Stop) → IsWriteStop stop → IsLogStop stop
log_stop (Header rule) only = absurd only
log_stop Source only = absurd only
log_stop Sink only = tt
log_stop Device only = absurd only
log_stop NoMemory only = tt
log_stop (Malformed line) only = absurd only
log_stop (Short has) only = tt
log_stop (TooLarge key) only = absurd only
log_stop BadRecord only = absurd only

pub opening_stop : (stop : Stop) → IsOpeningStop stop → IsLogStop stop
opening_stop (Header rule) only = absurd only
opening_stop Source only = absurd only
opening_stop Sink only = absurd only
opening_stop Device only = tt
opening_stop NoMemory only = tt
opening_stop (Malformed line) only = absurd only
opening_stop (Short has) only = absurd only
opening_stop (TooLarge key) only = absurd only
opening_stop BadRecord only = tt

pub backup_stop : (stop : Stop) → IsLogStop stop → IsBackupStop stop
backup_stop (Header rule) only = absurd only
backup_stop Source only = absurd only
backup_stop Sink only = tt
backup_stop Device only = tt
backup_stop NoMemory only = tt
backup_stop (Malformed line) only = absurd only
backup_stop (Short has) only = tt
backup_stop (TooLarge key) only = absurd only
backup_stop BadRecord only = tt

pub header_stop : (stop : Stop) → IsHeaderStop stop → IsBackupStop stop
header_stop (Header rule) only = tt
header_stop Source only = tt
header_stop Sink only = absurd only
header_stop Device only = absurd only
header_stop NoMemory only = tt
header_stop (Malformed line) only = absurd only
header_stop (Short has) only = absurd only
header_stop (TooLarge key) only = absurd only
header_stop BadRecord only = absurd only

-- what is not cut and was not opened has a bad record
pub uncut_bad : (stop : Stop) → IsOpeningStop stop → is_cut (status_of stop) ≡ false → stop ≡ BadRecord
uncut_bad Device only plain = absurd (let none : ◌≡◌ {A = Bool} true false = plain in cc)
uncut_bad NoMemory only plain = absurd (let none : ◌≡◌ {A = Bool} true false = plain in cc)
uncut_bad BadRecord only plain = refl
uncut_bad (Header rule) only plain = absurd only
uncut_bad Source only plain = absurd only
uncut_bad Sink only plain = absurd only
uncut_bad (Malformed line) only plain = absurd only
uncut_bad (Short has) only plain = absurd only
uncut_bad (TooLarge key) only plain = absurd only

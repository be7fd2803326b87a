-- Messages on their way between queues: those that a pump picks can stand in its entry.
use Rattle.std.proofs.Common.{◌≡◌, ℕ, ◌+◌, ◌&&◌, ◌≤◌, Bool, true, false, not, cond, List, [], ◌∷◌, length, length-append, flat_map, Option, Some, None, refl, arith}
use Rattle.std.specs.Prelude.{find, nat_le}
use Rattle.std.proofs.lemmas.Bool.Decides.{nat_tests}
use Rattle.mega_base.specs.Codec.{IsOption}
use Rattle.mega_base.specs.Names.{IsGroup}
use Rattle.mega_base.specs.declared.names.GroupId.{GroupId}
use Rattle.mega_base.specs.declared.names.OpId.{OpId}
use Rattle.mega_entry.specs.declared.content.Content.{Content}
use Rattle.mega_entry.specs.declared.content.Enter.{Enter}
use Rattle.mega_entry.specs.declared.content.Send.{Send}
use Rattle.mega_entry.specs.Entries.{IsEnter, IsName, IsSend, IsWrite, enter_text, entry_text}
use Rattle.mega_voter.specs.of_rules.of_replica.Applying.{applied}
use Rattle.mega_voter.specs.of_rules.Logs.{groups_of, log_of}
use Rattle.mega_voter.specs.of_rules.Operations.{Now}
use Rattle.mega_voter.specs.of_rules.Queues.{Log, Posted, enter_entry, entered_in, entries_of, handled_in, has_unhandled, is_named, is_short, names_entered, next_to_enter, next_to_handle, oldest_unhandled, posted, sent_from, sent_in, waits_to_enter}
use Rattle.mega_voter.specs.of_rules.Acting.{applied_in, applied_logs}
use Rattle.mega_format_laws.specs.Rounds.{Each, IsSender, IsShort}
use Rattle.mega_format_laws.specs.Histories.{IsMet}
use Rattle.mega_format_laws.specs.Requests.{IsEntered}
use Rattle.mega_format_laws.proofs.Each.{each_both, each_flat, each_map, each_of_all, each_take, take_length}
use Rattle.mega_format_laws.proofs.Histories.{groups_formed, log_formed, prefix_reaches}
use Rattle.mega_format_laws.proofs.Texts.{id_length, no_items, one_item, parts}

-- ---- logs

pub record IsLog (log : Log) : Type 0 where
  pub group : IsGroup log.group
  pub entries : Each IsShort log.entries
  pub short : length log.entries ≤ 1000000

log_is : (now : Now) (group : GroupId) → IsMet now.met → IsGroup group → IsLog (applied_in now group)
log_is now group h g = record {
  group = g;
  entries = each_take IsShort (applied (log_of now.met group) (now.stored group)) (log_of now.met group) (log_formed now.met group h);
  short = (let few = take_length (applied (log_of now.met group) (now.stored group)) (log_of now.met group) in let reaches = prefix_reaches now.met group h in omega (arith, few, reaches));
}

pub logs_formed : (now : Now) → IsMet now.met → Each IsLog (applied_logs now)
logs_formed now h = each_map IsGroup IsLog (applied_in now) (λ group g. log_is now group h g) (groups_of now.met) (groups_formed now.met h)

-- ---- messages that were sent

pub record IsPosted (one : Posted) : Type 0 where
  pub to : IsGroup one.to
  pub message : IsEnter one.message

posted_formed : (group : GroupId) (position place : ℕ) (sends : List Send) → IsGroup group → position ≤ 1000001 → place + length sends ≤ 4294967295 → Each IsSend sends → Each IsPosted (posted group position place sends)
posted_formed group position place [] g le few h = tt
posted_formed group position place (send ∷ sends) g le few h = (
  record { to = (h.0).0; message = ((g, (omega arith, omega (arith, le)), (omega arith, omega (arith, few))), (h.0).1, (h.0).2) },
  posted_formed group position (place + 1) sends g le (omega (arith, few)) h.1,
)

sends_of : (entry : Content) → IsShort entry → Each IsSend entry.sends
sends_of entry h = each_of_all IsSend entry.sends ((h.0).sends).each

sent_formed : (group : GroupId) (position : ℕ) (entries : List Content) → IsGroup group → position + length entries ≤ 1000001 → Each IsShort entries → Each IsPosted (sent_from group position entries)
sent_formed group position [] g le h = tt
sent_formed group position (entry ∷ entries) g le h = each_both IsPosted (posted group position 0 entry.sends) (sent_from group (position + 1) entries)
    (let most = (((h.0).0).sends).most in posted_formed group position 0 entry.sends g (omega (arith, le)) (omega (arith, most)) (sends_of entry h.0))
    (sent_formed group (position + 1) entries g (omega (arith, le)) h.1)

sent_in_formed : (log : Log) → IsLog log → Each IsPosted (sent_in log)
sent_in_formed log h = let few = h.short in sent_formed log.group 1 log.entries h.group (omega (arith, few)) h.entries

-- ---- the message that waits to be entered

pub enter_short : (op : OpId) (message : Enter) → IsSender op → IsEnter message → is_short (enter_entry op message) ≡ true → IsShort (enter_entry op message)
enter_short op message o e short = (
  record { id = o.0; leader = o.1; writes = no_items IsWrite; sends = no_items IsSend; enters = one_item IsEnter message e; handles = no_items IsName; cuts = tt },
  within (length (entry_text (enter_entry op message))) short,
)
  where
    within : (n : ℕ) → nat_le n 32768 ≡ true → n ≤ 65536
    within n e = grind (arith, nat_tests)

right : (a b : Bool) → (a && b) ≡ true → b ≡ true
right true b h = h
right false b h = cc

abbrev pub IsNext : OpId → Option Posted → Type 0
IsNext op None = Unit {0}
IsNext op (Some one) = IsGroup one.to × IsShort (enter_entry op one.message)

found_formed : (op : OpId) (logs : List Log) (sent : List Posted) → IsSender op → Each IsPosted sent → IsNext op (find (waits_to_enter op logs) sent)
found_formed op logs [] o h = tt
found_formed op logs (one ∷ sent) o h = go (waits_to_enter op logs one) refl (found_formed op logs sent o h.1)
  where
    go : (t : Bool) → waits_to_enter op logs one ≡ t → IsNext op (find (waits_to_enter op logs) sent) → IsNext op (cond t (Some one) (find (waits_to_enter op logs) sent))
    go true e k = ((h.0).to, enter_short op one.message o (h.0).message (right (not (is_named (one.message).name (names_entered (entries_of one.to logs)))) (is_short (enter_entry op one.message)) e))
    go false e k = k

pub next_to_enter_formed : (op : OpId) (logs : List Log) → IsSender op → Each IsLog logs → IsNext op (next_to_enter op logs)
next_to_enter_formed op logs o h = found_formed op logs (flat_map sent_in logs) o (each_flat IsLog IsPosted sent_in sent_in_formed logs h)

-- ---- the group of which a message is to be handled

pub next_to_handle_formed : (logs : List Log) → Each IsLog logs → IsOption IsGroup (next_to_handle logs)
next_to_handle_formed logs h = grouped (find has_unhandled logs) (found logs h)
  where
    of : Option Log → Option GroupId
    of None = None
    of (Some log) = Some log.group

    pick : (t : Bool) (log : Log) (other : Option Log) → IsLog log → IsOption IsLog other → IsOption IsLog (cond t (Some log) other)
    pick true log other h k = h
    pick false log other h k = k

    found : (logs : List Log) → Each IsLog logs → IsOption IsLog (find has_unhandled logs)
    found [] h = tt
    found (log ∷ logs) h = pick (has_unhandled log) log (find has_unhandled logs) h.0 (found logs h.1)

    grouped : (log : Option Log) → IsOption IsLog log → IsOption IsGroup (of log)
    grouped None h = tt
    grouped (Some log) h = h.group

-- ---- the oldest message that is entered and not handled: the entry that marks it as handled is no longer than the one that entered it

at_least : (id : Option OpId) → 1 ≤ id_length id
at_least None = omega arith
at_least (Some op) = omega arith

each_enter : (enters : List Enter) (n : ℕ) → length (flat_map enter_text enters) + n ≤ 65536 → n ≡ 19 → Each IsEnter enters → Each IsEntered enters
each_enter [] n le is h = tt
each_enter (message ∷ enters) n le is h =
    let front = length-append (enter_text message) (flat_map enter_text enters) in
    (record { message = h.0; short = omega (arith, le, is, front) }, each_enter enters n (omega (arith, le, front)) is h.1)

enters_of : (entry : Content) → IsShort entry → Each IsEntered entry.enters
enters_of entry h = let all = parts entry in let some = at_least entry.id in let le = h.1 in
    each_enter entry.enters 19 (omega (arith, all, some, le)) refl (each_of_all IsEnter entry.enters ((h.0).enters).each)

entered_formed : (entries : List Content) → Each IsShort entries → Each IsEntered (entered_in entries)
entered_formed entries h = each_flat IsShort IsEntered (λ (entry : Content). entry.enters) enters_of entries h

oldest_of : (test : Enter → Bool) (enters : List Enter) → Each IsEntered enters → IsOption IsEntered (find test enters)
oldest_of test [] h = tt
oldest_of test (message ∷ enters) h = pick (test message) message (find test enters) h.0 (oldest_of test enters h.1)
  where
    pick : (t : Bool) (message : Enter) (other : Option Enter) → IsEntered message → IsOption IsEntered other → IsOption IsEntered (cond t (Some message) other)
    pick true message other h k = h
    pick false message other h k = k

pub oldest_formed : (entries : List Content) → Each IsShort entries → IsOption IsEntered (oldest_unhandled entries)
oldest_formed entries h = oldest_of (λ (enter : Enter). not (is_named enter.name (handled_in entries))) (entered_in entries) (entered_formed entries h)

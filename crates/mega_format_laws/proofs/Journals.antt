-- What a journal keeps of a history of the format is of the format.
use Rattle.std.proofs.Common.{ℕ, ◌-◌, ◌≤◌, List, [], ◌∷◌, Option, Some, None, arith}
use Rattle.std.specs.Prelude.{All, option_to_list}
use Rattle.std.specs.List.{cons_option}
use Rattle.mega_base.specs.Codec.{IsOption}
use Rattle.mega_wire.specs.declared.message.Body.{Body}
use Rattle.mega_wire.specs.declared.message.Body.TheVariants.{Accepted, Promise}
use Rattle.mega_wire.specs.Messages.{IsBody}
use Rattle.mega_wal.specs.declared.item.JournalItem.{JournalItem}
use Rattle.mega_wal.specs.Items.{IsItem as IsJournalItem}
use Rattle.mega_voter.specs.of_rules.Met.{Met, Starts, Sends, Unsends, Grants, Lapses, Decides}
use Rattle.mega_voter.specs.of_rules.Clock.{start_of}
use Rattle.mega_voter.specs.Journal.{item_in, item_of, items_in, journal_of}
use Rattle.mega_format_laws.specs.Rounds.{Each}
use Rattle.mega_format_laws.specs.Histories.{IsItem, IsMet}
use Rattle.mega_format_laws.proofs.Each.{all_of_each}

vote_formed : (body : Body) → IsBody body → IsOption IsJournalItem (item_in body)
vote_formed (Promise op group position ballot report) h = (h.1.0, (h.1.1.0, h.1.1.1.0))
vote_formed (Accepted op group position ballot entry) h = (h.1.0, (h.1.1.0, (h.1.1.1.0, h.1.1.1.1)))
vote_formed _ h = tt

item_formed : (before : List Met) (one : Met) → IsItem one → IsOption IsJournalItem (item_of before one)
item_formed before (Starts start) h = (omega arith, fewer start (start_of before) h.1)
  where
    fewer : (a b : ℕ) → a ≤ 4294967295 → a - b ≤ 4294967295
    fewer a b le = omega (arith, le)
item_formed before (Sends m) h = vote_formed m.body h.body
item_formed before (Unsends m) h = vote_formed m.body h.body
item_formed before (Grants node epoch) h = h
item_formed before (Lapses node epoch) h = h
item_formed before (Decides group position entry) h = h
item_formed before _ h = tt

each_option : (found : Option JournalItem) (items : List JournalItem) → IsOption IsJournalItem found → Each IsJournalItem items → Each IsJournalItem (cons_option found items)
each_option None items h e = e
each_option (Some item) items h e = (h, e)

each_formed : (met : List Met) → IsMet met → Each IsJournalItem (journal_of met)
each_formed [] h = tt
each_formed (one ∷ before) h = each_option (item_of before one) (journal_of before) (item_formed before one h.0) (each_formed before h.1)

listed : (found : Option JournalItem) → IsOption IsJournalItem found → Each IsJournalItem (option_to_list found)
listed None h = tt
listed (Some item) h = (h, tt)

pub journal_formed : (met : List Met) → IsMet met → All IsJournalItem (journal_of met)
journal_formed met h = all_of_each IsJournalItem (journal_of met) (each_formed met h)

pub votes_formed : (body : Body) → IsBody body → All IsJournalItem (items_in body)
votes_formed body h = all_of_each IsJournalItem (items_in body) (listed (item_in body) (vote_formed body h))

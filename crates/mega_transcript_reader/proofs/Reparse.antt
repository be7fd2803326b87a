-- What parsing says in the words of lines.
use Rattle.std.proofs.Common.{◌≡◌, ℕ, List, length, sym, ◌∙◌, ap, Result, Ok, Err, IfOk}
use Rattle.std.specs.Prelude.{true, false}
use Rattle.mega_transcript_reader.specs.declared.fault.Found.{Found}
use Rattle.mega_transcript_reader.specs.declared.fault.Found.TheVariants as founds
use Rattle.mega_base.specs.Reading.{◌>>=◌}
use Rattle.mega_schema.specs.declared.schema.Schema.{Schema}
use Rattle.mega_transcript.specs.declared.item.Item.{Item}
use Rattle.mega_transcript_reader.specs.declared.fault.ItemFault.{ItemFault}
use Rattle.mega_transcript_reader.specs.declared.fault.ItemFault.TheVariants.{NotItem, NoMemory}
use Rattle.mega_transcript.specs.Lines.{line}
use Rattle.mega_transcript.specs.Plain.{IsPlain}
use Rattle.mega_transcript_reader.specs.ReadingItems.{whole_item, located, difference, unless_differs, agreed, parsed}
use Rattle.mega_transcript_reader.specs.Telling.{Gives, Finds, is_same, fault_of}
use Rattle.mega_transcript_reader.proofs.ItemLaws.{parsed_again, parsed_found}

pub found_by : (schema : Schema) (text : List ℕ) (result : Result Item ItemFault) → Gives result (parsed schema text) → IfOk result (λ item. IsPlain schema item × (text ≡ line schema item))
found_by schema text (Ok item) h = parsed_found schema text item h
found_by schema text (Err fault) h = tt

pub only_by : (schema : Schema) (text : List ℕ) (result : Result Item ItemFault) → Gives result (parsed schema text) → (item : Item) → IsPlain schema item → text ≡ line schema item → Gives result (Ok item)
only_by schema text (Ok x) h item fit e = sym (ap (parsed schema) e ∙ parsed_again schema item fit) ∙ h
only_by schema text (Err (NotItem at)) h item fit e = sym (ap (parsed schema) e ∙ parsed_again schema item fit) ∙ h
only_by schema text (Err NoMemory) h item fit e = tt

-- no difference was found
pub kept : (schema : Schema) (text : List ℕ) (item : Item) (found : Found) → located (length text) (whole_item schema text) ≡ Ok item → Finds found (difference (line schema item) text)
    → is_same found ≡ true → parsed schema text ≡ Ok item
unfolding parsed
kept schema text item founds.Same h finds same = ap (λ r. r >>= agreed schema text) h ∙ ap (unless_differs item) finds
kept schema text item (founds.Differs at) h finds same = absurd (cc)
kept schema text item founds.NoMemory h finds same = absurd (cc)

-- one was found, or memory was wanting
pub refused_there : (schema : Schema) (text : List ℕ) (item : Item) (found : Found) → located (length text) (whole_item schema text) ≡ Ok item → Finds found (difference (line schema item) text)
    → is_same found ≡ false → Gives (let r : Result Item ItemFault = Err (fault_of found) in r) (parsed schema text)
unfolding parsed
refused_there schema text item founds.Same h finds same = absurd (cc)
refused_there schema text item (founds.Differs at) h finds same = ap (λ r. r >>= agreed schema text) h ∙ ap (unless_differs item) finds
refused_there schema text item founds.NoMemory h finds same = tt

-- the words were refused
pub refused_words : (schema : Schema) (text : List ℕ) (fault : ItemFault) → Gives (let r : Result Item ItemFault = Err fault in r) (located (length text) (whole_item schema text)) → Gives (let r : Result Item ItemFault = Err fault in r) (parsed schema text)
unfolding parsed
refused_words schema text (NotItem at) h = ap (λ r. r >>= agreed schema text) h
refused_words schema text NoMemory h = tt

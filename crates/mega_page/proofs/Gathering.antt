-- A page goes on by lines: one after another, and all of a list.
use Rattle.std.proofs.Common.{◌≡◌, ℕ, ◌+◌, ◌<◌, ◌≤◌, List, [], ◌∷◌, ◌++◌, add-one, ap, append-nil, append_assoc, filter_map, get_or, length, map, refl, subst, sym, take, ◌∙◌}
use Rattle.std.specs.List.{flat_map}
use Rattle.std.proofs.Math.Seq.{take-suc}
use Rattle.std.proofs.lemmas.List.{map-append, take_all}
use Rattle.std.proofs.lemmas.Grind.{flat_map-append}
use Rattle.std.proofs.lemmas.List.Elements.{filter_map-append}
use Rattle.mega_link.specs.Datagrams.{Datagram}
use Rattle.mega_schema.specs.declared.schema.Schema.{Schema}
use Rattle.mega_wire.specs.declared.message.Message.{Message}
use Rattle.mega_transcript.specs.declared.item.Item.{Item}
use Rattle.mega_transcript.specs.Recorded.{Line, Noted, put_in, put_out}
use Rattle.mega_page.specs.declared.page.Page.{Page}
use Rattle.mega_page.specs.Lines.{datagram_of, line_text, record_text}
use Rattle.mega_page.specs.Pages.{ArePut, IsPage}

-- a line more, with what it puts
pub one_more : (schema : Schema) (page next : Page) (lines : List Line) (one : Line) (sends : List Datagram) → IsPage schema page lines → next.text ≡ page.text ++ line_text schema one → next.outbox ≡ page.outbox ++ sends → ArePut (one ∷ []) sends
    → IsPage schema next (lines ++ one ∷ [])
one_more schema page next lines one sends is text outbox put = record {
  text = text ∙ ap (λ (xs : List ℕ). xs ++ line_text schema one) is.text ∙ ap (λ (xs : List ℕ). record_text schema lines ++ xs) (sym (append-nil (line_text schema one))) ∙ sym (flat_map-append (line_text schema) lines (one ∷ []));
  sends = ap (map datagram_of) outbox ∙ map-append datagram_of page.outbox sends ∙ ap (λ (xs : _). xs ++ map datagram_of sends) is.sends ∙ ap (λ (xs : _). filter_map put_in lines ++ xs) put ∙ sym (filter_map-append put_in lines (one ∷ []));
}

-- a line more that puts nothing
pub one_quiet : (schema : Schema) (page next : Page) (lines : List Line) (one : Line) → IsPage schema page lines → next.text ≡ page.text ++ line_text schema one → next.outbox ≡ page.outbox → ArePut (one ∷ []) []
    → IsPage schema next (lines ++ one ∷ [])
one_quiet schema page next lines one is text outbox quiet = one_more schema page next lines one [] is text (outbox ∙ sym (append-nil page.outbox)) quiet

-- the lines of the next item of a list
pub next_lines : {A : Type 0} (all : List A → List Line) (each : A → List Line) → ((xs : List A) (x : A) → all (xs ++ x ∷ []) ≡ all xs ++ each x)
    → (items : List A) (i : ℕ) (item : A) → i < length items → item ≡ get_or items i item → (lines : List Line) → (lines ++ all (take i items)) ++ each item ≡ lines ++ all (take (i + 1) items)
next_lines all each onward items i item within is lines =
    let front : take (i + 1) items ≡ take i items ++ item ∷ [] = rw add-one (take-suc items i item within) ∙ ap (λ one. take i items ++ one ∷ []) (sym is) in
    append_assoc lines (all (take i items)) (each item) ∙ ap (λ (more : List Line). lines ++ more) (sym (onward (take i items) item) ∙ ap all (sym front))

pub noted_on : (xs : List Item) (x : Item) → map Noted (xs ++ x ∷ []) ≡ map Noted xs ++ Noted x ∷ []
noted_on xs x = map-append Noted xs (x ∷ [])

pub put_on : (xs : List Message) (x : Message) → put_out (xs ++ x ∷ []) ≡ put_out xs ++ put_out (x ∷ [])
put_on xs x = map-append _ xs (x ∷ [])

pub each_on : {A : Type 0} (each : A → List Line) (xs : List A) (x : A) → flat_map each (xs ++ x ∷ []) ≡ flat_map each xs ++ each x
each_on each xs x = flat_map-append each xs (x ∷ []) ∙ ap (λ (more : List Line). flat_map each xs ++ more) (append-nil (each x))

pub taken_whole : {A : Type 0} (n : ℕ) (xs : List A) → length xs ≤ n → take n xs ≡ xs
taken_whole n xs whole = take_all n xs whole

-- A page that was given: the sink holds its text or a front of it, and the link sent its datagrams or the first of them.
use Rattle.std.proofs.Common.{◌≡◌, ℕ, List, [], ◌++◌, None, Option, Some, ap, append-nil, refl, subst, sym, take, ◌∙◌}
use Rattle.std.specs.Prelude.{option_map}
use Rattle.std.specs.Io.KnownBytes.{Appends}
use Rattle.mega_io.specs.Pieces.{AppendsFront}
use Rattle.std.proofs.lemmas.List.{take-map}
use Rattle.mega_link.specs.Datagrams.{Datagram}
use Rattle.mega_schema.specs.declared.schema.Schema.{Schema}
use Rattle.mega_transcript.specs.Recorded.{Line}
use Rattle.mega_page.specs.declared.page.Page.{Page}
use Rattle.mega_page.specs.Lines.{datagram_of, record_text}
use Rattle.mega_page.specs.Pages.{GoesOn, IsPage, Stops}

-- a page that was given
pub given_is : (schema : Schema) (page : Page) (held more_held : Option (List ℕ)) (sent more_sent : Option (List Datagram)) (lines : List Line) → Appends held more_held page.text
    → more_sent ≡ option_map (λ (all : List Datagram). all ++ page.outbox) sent → IsPage schema page lines → GoesOn schema held more_held sent more_sent lines
given_is schema page held more_held sent more_sent lines written sends is = record {
  text = subst (Appends held more_held) is.text written;
  sends = page.outbox;
  are_put = is.sends;
  sent_are = sends;
}

pub all_nothing : (sent : Option (List Datagram)) → sent ≡ option_map (λ (all : List Datagram). all ++ []) sent
all_nothing None = refl
all_nothing (Some all) = ap Some (sym (append-nil all))

-- a page of which a front was written, and nothing sent
pub unwritten : (schema : Schema) (page : Page) (held more_held : Option (List ℕ)) (sent : Option (List Datagram)) (lines : List Line) → AppendsFront held more_held page.text → IsPage schema page lines
    → Stops schema held more_held sent sent lines
unwritten schema page held more_held sent lines written is = record {
  whole = [];
  rest = lines;
  lines = refl;
  front = (written.0, subst (λ (text : List ℕ). Appends held more_held (take written.0 text)) is.text written.1);
  sends = [];
  are_put = (0, refl);
  sent_are = all_nothing sent;
}

-- a page that was written, of whose datagrams the first were sent
pub unsent : (schema : Schema) (page : Page) (held more_held : Option (List ℕ)) (sent more_sent : Option (List Datagram)) (count : ℕ) (lines : List Line) → Appends held more_held page.text
    → more_sent ≡ option_map (λ (all : List Datagram). all ++ take count page.outbox) sent → IsPage schema page lines → Stops schema held more_held sent more_sent lines
unsent schema page held more_held sent more_sent count lines written sends is = record {
  whole = lines;
  rest = [];
  lines = sym (append-nil lines);
  front = (0, subst (Appends held more_held) (is.text ∙ sym (append-nil (record_text schema lines))) written);
  sends = take count page.outbox;
  are_put = (count, sym (take-map datagram_of count page.outbox) ∙ ap (take count) is.sends);
  sent_are = sends;
}

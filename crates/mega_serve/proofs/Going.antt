-- What was recorded goes on by more behind it.
use Rattle.std.proofs.Common.{◌≡◌, ℕ, List, [], ◌++◌, None, Option, Some, ap, append-nil, append_assoc, filter_map, map, refl, subst, sym, ◌∙◌}
use Rattle.std.specs.Prelude.{option_map}
use Rattle.std.specs.Io.KnownBytes.{Appends}
use Rattle.std.proofs.KnownBytes.{Appends-nil, Appends-trans}
use Rattle.std.proofs.lemmas.List.{map-append}
use Rattle.std.proofs.lemmas.Grind.{flat_map-append}
use Rattle.std.proofs.lemmas.List.Elements.{filter_map-append}
use Rattle.mega_handler.specs.Named.{Meanings}
use Rattle.mega_link.specs.Datagrams.{Datagram}
use Rattle.mega_schema.specs.declared.schema.Schema.{Schema}
use Rattle.mega_promises.specs.Served.{Line, Served, put_in}
use Rattle.mega_serve.specs.declared.steps.Steps.{Ghosts}
use Rattle.mega_serve.specs.declared.waiting.Waiting.{Waiting as Waits}
use Rattle.mega_page.specs.Lines.{datagram_of, line_text, record_text}
use Rattle.mega_page.specs.Pages.{GoesOn}
use Rattle.mega_serve.specs.Turns.{IsServing, Proceeds}
use Rattle.mega_page.proofs.Giving.{all_nothing}

-- nothing was recorded
pub nothing_goes : (schema : Schema) (held : Option (List ℕ)) (sent : Option (List Datagram)) → GoesOn schema held held sent sent []
nothing_goes schema held sent = record { text = Appends-nil held; sends = []; are_put = refl; sent_are = all_nothing sent }

pub all_twice : (sent : Option (List Datagram)) (xs ys : List Datagram) → option_map (λ (all : List Datagram). all ++ ys) (option_map (λ (all : List Datagram). all ++ xs) sent) ≡ option_map (λ (all : List Datagram). all ++ (xs ++ ys)) sent
all_twice None xs ys = refl
all_twice (Some all) xs ys = ap Some (append_assoc all xs ys)

pub goes_further : (schema : Schema) (a b c : Option (List ℕ)) (x y z : Option (List Datagram)) (first second : List Line) → GoesOn schema a b x y first → GoesOn schema b c y z second → GoesOn schema a c x z (first ++ second)
goes_further schema a b c x y z first second one two = record {
  text = subst (Appends a c) (sym (flat_map-append (line_text schema) first second)) (Appends-trans a b c _ _ one.text two.text);
  sends = one.sends ++ two.sends;
  are_put = map-append datagram_of one.sends two.sends ∙ ap (λ (xs : _). xs ++ map datagram_of two.sends) one.are_put ∙ ap (λ (xs : _). filter_map put_in first ++ xs) two.are_put ∙ sym (filter_map-append put_in first second);
  sent_are = two.sent_are ∙ ap (option_map (λ (all : List Datagram). all ++ two.sends)) one.sent_are ∙ all_twice x one.sends two.sends;
}

-- a served node that recorded nothing is where it was
pub stays : {S : Type 0} (steps : Ghosts S) (h : Meanings) (one : S) (waiting : List Waits) (schema : Schema) (held : Option (List ℕ)) (sent : Option (List Datagram)) (now : Served) → IsServing steps h one waiting now → Proceeds steps h one waiting schema held held sent sent now now
stays steps h one waiting schema held sent now serving = record { serving = serving; more = []; lines = sym (append-nil now.lines); goes_on = nothing_goes schema held sent }

pub proceeds_further : {S : Type 0} (steps : Ghosts S) (h : Meanings) (mid one : S) (between waiting : List Waits) (schema : Schema) (a b c : Option (List ℕ)) (x y z : Option (List Datagram)) (now next last : Served)
    → Proceeds steps h mid between schema a b x y now next → Proceeds steps h one waiting schema b c y z next last → Proceeds steps h one waiting schema a c x z now last
proceeds_further steps h mid one between waiting schema a b c x y z now next last first second = record {
  serving = second.serving;
  more = first.more ++ second.more;
  lines = second.lines ∙ ap (λ (lines : List Line). lines ++ second.more) first.lines ∙ append_assoc now.lines first.more second.more;
  goes_on = goes_further schema a b c x y z first.more second.more first.goes_on second.goes_on;
}

-- A change keeps its name in its turns.
use Rattle.std.proofs.Common.{◌≡◌, ℕ, Bool, true, false, List, [], ◌∷◌, Option, Some, None, if◌then◌else◌, refl, ◌∙◌}
use Rattle.mega_link.specs.Datagrams.{Datagram}
use Rattle.mega_two_driver.specs.declared.two.Two.{Two}
use Rattle.mega_two_driver.specs.Driver.{lost}
use Rattle.mega_two_driver.proofs.Named.{loses_name, takes_name}
use Rattle.mega_two_turns.specs.Messages.{reply_in}
use Rattle.mega_two_turns.specs.Turns.{answered, driven, driving, heard, is_due, put_out, start, proceeds_out}

goes_out : (patience now : ℕ) (at : Two) (token : ℕ) (since : Option ℕ) → (put_out patience now at token since).two.plan.name ≡ at.plan.name
goes_out patience now at token None = refl
goes_out patience now at token (Some since) = by (is_due patience since now)
  where
    by : (b : Bool) → (if b then driving (lost at) token None else driving at token (Some since)).two.plan.name ≡ at.plan.name
    by true = loses_name at
    by false = refl

comes_in : (node : ℕ) (at : Two) (token : ℕ) (since : Option ℕ) (got : Option Datagram) → (heard node at token since got).two.plan.name ≡ at.plan.name
comes_in node at token None got = refl
comes_in node at token (Some since) got = by (reply_in node token got)
  where
    by : (text : Option (List ℕ)) → (answered at token since text).two.plan.name ≡ at.plan.name
    by None = refl
    by (Some text) = takes_name at text

pub names_stay : (node patience : ℕ) (two : Two) (given : List (ℕ × Option Datagram)) → (driven node patience (start two) given).two.plan.name ≡ two.plan.name
names_stay node patience two [] = refl
names_stay node patience two (one ∷ before) =
    let d = driven node patience (start two) before in
    let out = proceeds_out patience d one.0 in
    comes_in node out.two out.token out.since one.1 ∙ goes_out patience one.0 d.two d.token d.since ∙ names_stay node patience two before

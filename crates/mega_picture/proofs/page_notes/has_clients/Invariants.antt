use Rattle.std.proofs.Common.{◌≡◌, drop}
use Rattle.std.specs.List.{list_any}
use Rattle.mega_picture.specs.Pages.{is_of_client, has_clients}
use Rattle.mega_picture.proofs.page_notes.has_clients.Given as goal

abbrev pub invariant-loop-one : goal.invariant-loop-one
invariant-loop-one l = list_any (λ o. is_of_client o.item) (drop l.one-index l.told) ≡ has_clients l.told

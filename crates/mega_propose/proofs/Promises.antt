-- A promise that does not count leaves the round as it is.
use Rattle.std.proofs.Common.{◌≡◌, ℕ, ◌==◌, ◌&&◌, Bool, true, false, List, [], Option, refl, ap, ◌∙◌, sym}
use Rattle.std.specs.Prelude.{not, if◌then◌else◌}
use Rattle.std.specs.List.{list_any}
use Rattle.mega_ballot.specs.declared.ballot.Ballot.{Ballot}
use Rattle.mega_entry.specs.declared.content.Content.{Content}
use Rattle.mega_propose.specs.Members.{has}
use Rattle.mega_propose.specs.declared.round.Site.{Site}
use Rattle.mega_propose.specs.declared.round.Report.{Report}
use Rattle.mega_propose.specs.declared.round.Round.{Round}
use Rattle.mega_propose.specs.declared.round.Proposal.{Proposal}
use Rattle.mega_propose.specs.declared.round.Move.{Move}
use Rattle.mega_propose.specs.declared.round.Round.TheVariants.{Preparing}
use Rattle.mega_propose.specs.Rounds.{move, promised, same_ballot}

unpicked : {X : Type 0} (test : Bool) (x y : X) → test ≡ false → (if test then x else y) ≡ y
unpicked true x y e = cc
unpicked false x y e = refl

pub not_counted : (made : Move) (s : Site) (p : Proposal) (from now : ℕ) (b : Ballot) (vote : Option (Ballot × Content)) (present : Ballot) (reports : List Report) (sent : ℕ)
    → p.round ≡ Preparing present reports sent
    → (same_ballot present b && has from s.voters && not (list_any (λ (report : Report). report.voter == from) reports)) ≡ false
    → made ≡ move p (Preparing present reports sent) []
    → made ≡ promised s p from now b vote
not_counted made s p from now b vote present reports sent e t m =
    let at : Round → Proposal = λ r. record { own = p.own; seen = p.seen; round = r } in
    m ∙ sym (ap (λ (r : Round). promised s (at r) from now b vote) e ∙ unpicked (same_ballot present b && has from s.voters && not (list_any (λ (report : Report). report.voter == from) reports)) _ _ t)

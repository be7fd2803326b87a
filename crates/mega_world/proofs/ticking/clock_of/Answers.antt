use Rattle.std.proofs.Common.{◌≡◌, ◌∙◌, true, false, ap, is_some, sym}
use Rattle.mega_places.specs.Members.{is_up_at, member_of}
use Rattle.mega_world.proofs.ticking.clock_of.Goals as goal

pub returns-in-Some : goal.returns-in-Some
returns-in-Some c cluster ruled all up =
    let me = c.args.me in
    c.clock.ensures cluster me (ruled me) (all.each me c.in-Some.member.now (ap (λ k. member_of c.args.places.now k) (sym c.from.ensures) ∙ sym c.in-Some.ensures))

pub returns-in-None : goal.returns-in-None
returns-in-None c cluster ruled all up = let no : false ≡ true = ap is_some c.in-None.ensures ∙ ap (λ k. is_up_at c.args.places.now k) c.from.ensures ∙ up in cc

use Rattle.std.proofs.Common.{◌≡◌, ◌∙◌}
use Rattle.mega_outcome.specs.Answers.{rows_at}
use Rattle.mega_view.proofs.Listed.{listed_all}
use Rattle.mega_handler_entries.proofs.listing.rows_of_tables.Goals as goal

pub returns-clause-exact : goal.returns-clause-exact
returns-clause-exact g c told listed shows =
    c.in_ok-rows.ensures.rows
    ∙ listed_all c.args.schema.now c.args.group.now (rows_at (g.V.Versions.version c.args.rows.now) c.args.at.0) listed c.in_ok-found.found c.in_ok-rows.ensures.ordered (c.in_ok-found.ensures.found told) shows

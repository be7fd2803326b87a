use Rattle.std.proofs.Common.{sym, ap, ◌∙◌}
use Rattle.toml.specs.Parse.{parse_document}
use Rattle.mega_cluster.specs.Header.{needed}
use Rattle.mega_cluster.proofs.Documents.{document_text, document_none}
use Rattle.mega_cluster.proofs.header.document_of.Goals as goal

pub returns-in_default : goal.returns-in_default
returns-in_default c = document_none c.args.text.now c.in_default.ensures.cases.0

pub returns-in-Ok-table_from_str : goal.returns-in-Ok-table_from_str
returns-in-Ok-table_from_str c =
    document_text c.args.text.now c.in-Ok.ensures.cases.1 ∙ ap (λ t. needed 1 (parse_document t)) (sym c.in-Ok.ensures.cases.0) ∙ ap (needed 1) c.in-Ok-table_from_str.ensures.ok

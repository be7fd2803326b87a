use Rattle.mega_shown_laws.proofs.Named.{parsed_named}
use Rattle.mega_shown_laws.proofs.laws.declared_schemas_tell_their_names.Goals as goal

pub returns : goal.returns
returns c = parsed_named

use Rattle.std.proofs.Common.{◌≤◌, arith}
use Rattle.mega_base.specs.Codecs.{byte_codec}
use Rattle.mega_wire.proofs.message_field.take_kinded.Goals as goal

pub take_addressed-requires : goal.take_addressed-requires
take_addressed-requires c = ((byte_codec 1 21 (omega arith)).takes _ _ _ c.in_ok-kind.ensures).1

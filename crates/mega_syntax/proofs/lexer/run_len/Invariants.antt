use Rattle.std.proofs.Common.{◌≡◌, ◌+◌, drop}
use Rattle.std.specs.List.{prefix_len}
use Rattle.mega_syntax.specs.Names.{is_name_byte}
use Rattle.mega_syntax.proofs.lexer.run_len.Given as goal

abbrev pub invariant-loop-byte : goal.invariant-loop-byte
invariant-loop-byte l = (l.length ≡ l.byte-index) × (prefix_len is_name_byte l.text ≡ l.byte-index + prefix_len is_name_byte (drop l.byte-index l.text))

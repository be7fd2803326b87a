use Rattle.std.proofs.Common.{◌≡◌, ◌+◌, drop}
use Rattle.std.specs.List.{prefix_len}
use Rattle.mega_syntax.specs.Tokens.{is_blank}
use Rattle.mega_syntax.proofs.lexer.blank_len.Given as goal

abbrev pub invariant-loop-byte : goal.invariant-loop-byte
invariant-loop-byte l = (l.length ≡ l.byte-index) × (prefix_len is_blank l.text ≡ l.byte-index + prefix_len is_blank (drop l.byte-index l.text))

use Rattle.std.proofs.Common.{◌≡◌, ◌+◌, ◌++◌, length}
use Rattle.std.specs.List.{prefix_len}
use Rattle.mega_syntax.specs.Tokens.{is_blank, tokens_from, tokens}
use Rattle.mega_syntax.proofs.lexer.tokens_of.Given as goal

abbrev pub invariant-loop-left : goal.invariant-loop-left
invariant-loop-left l = record { spelled : l.found ++ tokens_from l.at l.left ≡ tokens l.text; no_blank : prefix_len is_blank l.left ≡ 0; long : l.at + length l.left ≡ length l.text }

abbrev pub decreases-loop-left : goal.decreases-loop-left
decreases-loop-left l = length l.left

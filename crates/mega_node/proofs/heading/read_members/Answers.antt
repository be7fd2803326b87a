use Rattle.std.proofs.Common.{◌≡◌, Err, ap, subst, ◌∙◌}
use Rattle.std.specs.Io.KnownBytes.{prepend_known}
use Rattle.std.proofs.KnownBytes.{prepend_known-nil}
use Rattle.mega_header.specs.Known.{Breaks}
use Rattle.mega_node.specs.declared.stop.Stop.TheVariants.{Header}
use Rattle.mega_node.proofs.Headers.{IsFound, broken, found, ok_headed}
use Rattle.mega_node.proofs.heading.read_members.Goals as goal

pub returns-in-Ok-read_heading-clause-headed : goal.returns-in-Ok-read_heading-clause-headed
returns-in-Ok-read_heading-clause-headed g c =
    let first = g.I.Source.left c.args.input.now in
    let fresh = ap (λ read. prepend_known read first) c.in-Ok.ensures ∙ prepend_known-nil first in
    let heading = c.in-Ok-read_heading.heading in
    let is = found c.args.number (prepend_known c.in-Ok.reader first) (prepend_known c.read_heading.new.reader (g.I.Source.left c.read_heading.new.input)) heading.cluster heading.marked c.in-Ok-read_heading.ensures.marked c.in-Ok-read_heading.ensures.unmarked in
    ok_headed c.args.number first heading.cluster c.addressed.result (subst (λ known. IsFound c.args.number known heading.cluster) fresh is) c.addressed.ensures.ok

pub returns-clause-broken : goal.returns-clause-broken
returns-clause-broken g c rule is =
    let first = g.I.Source.left c.args.input.now in
    let fresh = ap (λ read. prepend_known read first) c.in-Ok.ensures ∙ prepend_known-nil first in
    let stop_is : c.stop_of.result ≡ Header rule = cc in
    broken c.args.number first rule (subst (λ known. Breaks c.args.number known rule) fresh (c.in-Err-read_heading.ensures.broken rule (ap Err (c.stop_of.ensures.rule rule stop_is))))

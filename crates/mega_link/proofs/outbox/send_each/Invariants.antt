use Rattle.std.proofs.Common.{◌≡◌, ◌++◌, take, option_map}
use Rattle.mega_link.proofs.outbox.send_each.Given as goal

abbrev pub invariant-loop-to : goal.invariant-loop-to
invariant-loop-to g l = record {
  sent : g.L.Link.sent l.link ≡ option_map (λ all. all ++ take l.to-index l.datagrams) (g.L.Link.sent l.fn.link);
  taken : g.L.Link.taken l.link ≡ g.L.Link.taken l.fn.link;
  faults : g.L.Link.faults l.link ≡ g.L.Link.faults l.fn.link;
}

use Rattle.std.proofs.Common.{List, ℕ, ◌≡◌, subst}
use Rattle.std.specs.Io.KnownBytes.{Appends}
use Rattle.mega_replay.specs.Usage.{usage_line}
use Rattle.mega_replay_output.proofs.Progress.{whole_front}
use Rattle.mega_replay.proofs.calling.tell_usage.Goals as goal

pub returns-in-Ok-clause-usage : goal.returns-in-Ok-clause-usage
returns-in-Ok-clause-usage g c =
    let before = g.O.Sink.held c.args.out.now in
    let after = g.O.Sink.held c.put.new.sink in
    let bytes : c.as_bytes.result.now ≡ usage_line = c.as_bytes.ensures.value in
    whole_front before after usage_line (subst (λ (text : List ℕ). Appends before after text) bytes c.in-Ok.ensures.ok)

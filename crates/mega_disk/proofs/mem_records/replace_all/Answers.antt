use Rattle.mega_disk.specs.MemRecords.{Keeps}
use Rattle.mega_disk.proofs.Moments.{passes}
use Rattle.mega_disk.proofs.mem_records.replace_all.Goals as goal

pub returns-in_err-record-clause-time : goal.returns-in_err-record-clause-time
returns-in_err-record-clause-time c = passes Keeps c.args.list.now c.args.list.now c.args.past.now.states _ c.and.ensures

pub returns-in_err-push-clause-time : goal.returns-in_err-push-clause-time
returns-in_err-push-clause-time c = passes Keeps c.args.list.now c.args.list.now c.args.past.now.states _ c.and.ensures

pub returns-clause-time : goal.returns-clause-time
returns-clause-time c = passes Keeps c.args.list.now c.push.new.self c.args.past.now.states _ c.and.ensures

use Rattle.mega_checkpoint.proofs.Due.{due_is}
use Rattle.mega_checkpoint.proofs.laws.due_as_the_file_tells.Goals as goal

pub returns : goal.returns
returns g c told ready =
    let store = c.args.store.now in
    due_is (g.D.Disk.seen store.disk) (g.D.Disk.may_leave store.disk) store.form store.end store.count (store.held told ready) (store.counted told ready)

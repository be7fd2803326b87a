use Rattle.mega_disk.proofs.Steps.{cut_same}
use Rattle.mega_disk.proofs.file_disk.FileDiskDisk.cut.Goals as goal

pub returns-in_err-open-clause-crash : goal.returns-in_err-open-clause-crash
returns-in_err-open-clause-crash g c image left = (image, tt, cut_same c.args.size image)

pub returns-clause-crash : goal.returns-clause-crash
returns-clause-crash g c image left = (image, tt, cut_same c.args.size image)

use Rattle.std.proofs.Common.{length}
use Rattle.mega_disk.proofs.Steps.{torn_same}
use Rattle.mega_disk.proofs.file_disk.FileDiskDisk.write.Goals as goal

pub returns-in_err-open-clause-crash : goal.returns-in_err-open-clause-crash
returns-in_err-open-clause-crash g c image left = (image, tt, torn_same c.args.at (length c.args.bytes.now) image)

pub returns-clause-crash : goal.returns-clause-crash
returns-clause-crash g c image left = (image, tt, torn_same c.args.at (length c.args.bytes.now) image)

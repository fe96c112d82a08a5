use Rattle.pv_image.proofs.MigrationResults.{to-error, from-error}
use Rattle.pv_image.proofs.images_are_judged_first.Goals as goal

pub returns : goal.returns
returns c = λ bytes blocks inodes fault. (to-error bytes blocks inodes fault, from-error bytes blocks inodes fault)

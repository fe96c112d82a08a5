use Rattle.pv_image.proofs.MigrationResults.{to-migrates, from-migrates}
use Rattle.pv_image.proofs.images_are_migrated.Goals as goal

pub returns : goal.returns
returns c = λ bytes blocks inodes new. (to-migrates bytes blocks inodes new, from-migrates bytes blocks inodes new)

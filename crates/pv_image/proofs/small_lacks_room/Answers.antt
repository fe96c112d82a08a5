use Rattle.pv_image.proofs.MigrationResults.{to-lacks, from-lacks}
use Rattle.pv_image.proofs.small_lacks_room.Goals as goal

pub returns : goal.returns
returns c = λ bytes blocks inodes. (to-lacks bytes blocks inodes, from-lacks bytes blocks inodes)

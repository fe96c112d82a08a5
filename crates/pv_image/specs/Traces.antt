-- Runs on an image, and on the migrated image.
use Rattle.std.specs.Prelude.{◌≡◌, ◌≤◌, ℕ, ◌*◌, IsTrue, Ok}
use Rattle.pv_model.specs.Machine.{Bytes, Started, image_started}
use Rattle.pv_laws_steps.specs.OfLawsStates.States.{are_bytes}
use Rattle.pv_laws_steps.specs.Images.{StartsOnLarger}
use Rattle.pv_image.specs.Migrated.{IsMigrated}

-- if the new image has at least five times the data blocks and at least as many inodes, a schedule that starts on the
-- old image starts on the new one in the same way; if no call of the run fails at a limit, both traces are equal
abbrev pub MigratedKeepTraces : Type 0
MigratedKeepTraces =
    (image larger schedule : Bytes) (blocks inodes : ℕ) (migrated : IsMigrated image blocks inodes larger) (started : Started) → IsTrue (are_bytes image)
    → 5 * migrated.old.blocks ≤ migrated.new.blocks → migrated.old.inodes ≤ inodes → image_started image schedule ≡ Ok started → StartsOnLarger started larger schedule

-- The output of a migrated image to a sink.
use Rattle.std.specs.Prelude.{◌≡◌, ⊤, ℕ, Option, Ok, Err}
use Rattle.pv_model.specs.declared.store_fault.MigrateFault.TheVariants.{Memory}
use Rattle.pv_model.specs.Machine.{Bytes, IsWrittenImageOf, Tree}
use Rattle.pv_streams.specs.Sinks.{and_all, WritesPrefix}
use Rattle.pv_image.specs.declared.migrating.MigratingStop.{MigratingStop}
use Rattle.pv_image.specs.declared.migrating.MigratingStop.TheVariants.{Refused, Write}
use Rattle.pv_image.specs.Migrated.{migrated, IsMigrated, IsMigrateError}

-- the bytes are an image of exactly the migrated tree
pub record HoldsMigrated (old_bytes : Bytes) (blocks inodes : ℕ) (image : Bytes) : Type 0 where
  pub tree : Tree
  pub is_new : migrated old_bytes blocks inodes ≡ Ok tree
  pub holds : IsWrittenImageOf image tree
  pub preserved : IsMigrated old_bytes blocks inodes image

-- the output grew by an image of exactly the migrated tree
pub record WritesMigrated (old_bytes : Bytes) (blocks inodes : ℕ) (before after : Option Bytes) : Type 0 where
  pub image : Bytes
  pub holds : HoldsMigrated old_bytes blocks inodes image
  pub written : after ≡ and_all before image

-- the output grew by a prefix of such an image
pub record BeginsMigrated (old_bytes : Bytes) (blocks inodes : ℕ) (before after : Option Bytes) : Type 0 where
  pub image : Bytes
  pub holds : HoldsMigrated old_bytes blocks inodes image
  pub written : WritesPrefix image before after

-- an error of the image or of the sizes is that of migration, and then nothing was written; if a write failed, a prefix
-- of the new image was written
abbrev pub AppearsInOldBytes : Bytes → ℕ → ℕ → Option Bytes → Option Bytes → MigratingStop → Type 0
AppearsInOldBytes old_bytes blocks inodes before after (Refused Memory) = after ≡ before
AppearsInOldBytes old_bytes blocks inodes before after (Refused fault) = (migrated old_bytes blocks inodes ≡ Err fault) × (after ≡ before)
AppearsInOldBytes old_bytes blocks inodes before after Write = BeginsMigrated old_bytes blocks inodes before after

-- out of memory is never reported as an error of the image
abbrev pub IsMigratingStop : MigratingStop → Type 0
IsMigratingStop (Refused fault) = IsMigrateError fault
IsMigratingStop Write = ⊤

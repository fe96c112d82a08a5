-- Runs on an image, and on the migrated image.
use Rattle.std.proofs.Common.{◌≡◌, ℕ, suc, ◌*◌, ◌≤◌, true, Ok, ap, sym, subst, ◌∙◌}
use Rattle.pv_model.specs.Machine.{Bytes, Started, image_started}
use Rattle.pv_laws_steps.specs.OfLawsStates.States.{are_bytes}
use Rattle.pv_laws_steps.specs.Images.{StartsOnLarger}
use Rattle.pv_laws_steps.proofs.LargerImages.{larger-images}
use Rattle.pv_image.specs.Migrated.{IsMigrated}

pub migrated-keep_traces : (image larger schedule : Bytes) (blocks inodes : ℕ) (migrated : IsMigrated image blocks inodes larger) (started : Started) → are_bytes image ≡ true
    → 5 * migrated.old.blocks ≤ migrated.new.blocks → migrated.old.inodes ≤ inodes → image_started image schedule ≡ Ok started → StartsOnLarger started larger schedule
migrated-keep_traces image larger schedule blocks inodes migrated started all more_blocks more_inodes is =
    let keeps = migrated.keeps in
    larger-images image larger schedule migrated.old migrated.new started all migrated.held migrated.mounts
    (record {
      nodes = keeps.same_nodes;
      numbers = keeps.numbers ∙ ap (λ (n : ℕ). suc n) (sym keeps.all_inodes);
      version = keeps.is_second;
      blocks = more_blocks;
      inodes = subst (λ n. migrated.old.inodes ≤ n) (sym keeps.all_inodes) more_inodes;
    }) is

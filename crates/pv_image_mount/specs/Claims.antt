-- The blocks that an inode can use.
use Rattle.std.specs.Prelude.{◌≡◌, ℕ, Bool, not, ◌||◌, ◌==◌, List}
use Rattle.std.specs.List.{list_any}
use Rattle.pv_blocks.specs.declared.block_set.BlockSet.{BlockSet}
use Rattle.pv_blocks.specs.BlockSet.{is_member}
use Rattle.pv_model.specs.declared.version.Version.{Version}
use Rattle.pv_model.specs.Machine.{Bytes, appears_twice}
use Rattle.pv_model.specs.Mount.{used_before}

-- whether a block of the list is invalid, is taken, or occurs twice
unfoldable pub are_refused_blocks : (may_be_used taken : ℕ → Bool) → List ℕ → Bool
are_refused_blocks may_be_used taken blocks =
    list_any (λ k. not (may_be_used k)) blocks || appears_twice ◌==◌ blocks || list_any taken blocks

-- whether a block is in the list, or taken
abbrev pub is_taken_by : (taken : ℕ → Bool) → List ℕ → ℕ → Bool
is_taken_by taken blocks k = list_any (λ other. other == k) blocks || taken k

-- the set contains exactly the blocks that inodes with lesser numbers use
abbrev pub HasUsedBefore : BlockSet → Version → Bytes → ℕ → Type 0
HasUsedBefore used v bytes n = (k : ℕ) → is_member used k ≡ list_any (λ other. other == k) (used_before v bytes n)

-- Worked images: the smallest, that of the run that reads one file, and one with a name that exceeds its slot.
use Rattle.std.specs.Prelude.{◌≡◌, ⊤, ℕ, ◌+◌, ◌-◌, ◌*◌, false, true, [], ◌∷◌, ◌++◌, length, replicate, codes, Option, None, Some, option_map, Ok, Err, Result, refl}
use Rattle.std.specs.Result.{result_ok}
use Rattle.pv_model.specs.declared.fault.ImageFault.TheVariants.{Dir}
use Rattle.pv_model.specs.declared.run_fault.RunFault.{RunFault}
use Rattle.pv_model.specs.declared.version.Version.TheVariants.{V1}
use Rattle.pv_model.specs.Machine.{Bytes, little_endian, used_blocks, listing, mounted, has_bad_inode, has_bad_block, has_bad_content, Started, booted, started_on, bundle_started, image_started, steps_of, program_of, Tree, directory_node, file_node}
use Rattle.pv_model.specs.Image.{unused_bytes}
use Rattle.pv_model.specs.Mount.{has_bad_place, inode_error}
use Rattle.pv_model.specs.Step.{run_text}
use Rattle.pv_laws_worked.specs.Bundles.{bundles_on_literals, text_of_lines}

-- the definitions to unfold in a proof by computation
unfoldable pub images_on_literals : ⊤
unfolding bundles_on_literals bundle_started image_started started_on booted mounted inode_error has_bad_inode has_bad_block has_bad_content has_bad_place listing
images_on_literals = tt

-- an inode with at most one block
abbrev pub written_inode : ℕ → ℕ → ℕ → ℕ → Bytes
written_inode kind count size first = kind ∷ 0 ∷ little_endian 2 count ++ little_endian 4 size ++ little_endian 2 first ++ replicate 22 0

abbrev pub slot_bytes : ℕ → Bytes → Bytes
slot_bytes n name = little_endian 2 n ++ (length name ∷ 0 ∷ []) ++ name ++ replicate (60 - length name) 0

abbrev pub filled : Bytes → Bytes
filled bytes = bytes ++ replicate (512 - length bytes) 0

-- the trace of a run on an image
abbrev pub started_text : Result Started RunFault → Option Bytes
started_text started = option_map (λ s. run_text program_of (steps_of s.schedule) s.state) (result_ok started)

-- ---- the smallest image: the root alone

abbrev pub smallest : Bytes
smallest = filled (codes "PVIMAGE1" ++ 2 ∷ 0 ∷ 1 ∷ 0 ∷ []) ++ filled (1 ∷ [])

abbrev pub smallest_tree : Tree
smallest_tree = record { nodes = None ∷ Some (directory_node []) ∷ []; blocks = 0; inodes = 1; version = V1 }

pub smallest_is_mounted : mounted smallest ≡ Ok smallest_tree
unfolding images_on_literals
smallest_is_mounted = refl

pub smallest_with_no_turn : started_text (image_started smallest []) ≡ Some []
unfolding images_on_literals
smallest_with_no_turn = refl

pub smallest_with_one_turn : started_text (image_started smallest (codes "1\n")) ≡ Some (codes "    1 CALL  exit(0)\n")
unfolding images_on_literals
smallest_with_one_turn = refl

-- ---- the image of the run that reads one file

abbrev pub example_program : Bytes
example_program = text_of_lines (codes "pledge \"stdio rpath\" null" ∷ codes "open \"/etc/motd\" r" ∷ codes "read r0 100" ∷ codes "close 0" ∷ codes "exit 0" ∷ [])

-- its slots are not in the order of their names
abbrev pub example : Bytes
example =
    filled (codes "PVIMAGE1" ++ 16 ∷ 0 ∷ 16 ∷ 0 ∷ [])
    ++ filled (written_inode 1 0 128 2 ++ written_inode 1 1 64 3 ++ written_inode 2 1 5 4 ++ written_inode 3 1 72 5)
    ++ filled (slot_bytes 4 (codes "init") ++ slot_bytes 2 (codes "etc"))
    ++ filled (slot_bytes 3 (codes "motd"))
    ++ filled (codes "hello")
    ++ filled example_program
    ++ replicate (512 * 10) 0

abbrev pub example_tree : Tree
example_tree = record {
  nodes =
      None ∷
      Some (directory_node ((codes "etc", 2) ∷ (codes "init", 4) ∷ [])) ∷
      Some (directory_node ((codes "motd", 3) ∷ [])) ∷
      Some (file_node false (codes "hello")) ∷
      Some (file_node true example_program) ∷ replicate 12 None;
  blocks = 14;
  inodes = 16;
  version = V1;
}

pub example_is_mounted : mounted example ≡ Ok example_tree
unfolding images_on_literals
example_is_mounted = refl

pub example_uses_blocks : used_blocks example example_tree ≡ 2 ∷ 3 ∷ 4 ∷ 5 ∷ []
example_uses_blocks = refl

pub example_unused_bytes : unused_bytes example example_tree ≡ replicate (500 + 12 * 32 + 10 * 512) 0
example_unused_bytes = refl

pub example_listing : listing example_tree ≡ text_of_lines (codes "d 1 2 \"/\"" ∷ codes "d 2 1 \"/etc\"" ∷ codes "f 3 5 \"/etc/motd\"" ∷ codes "x 4 72 \"/init\"" ∷ [])
unfolding images_on_literals
example_listing = refl

-- ---- an image whose root has one slot, for inode 2, with a name of any stated length

abbrev pub past_slot : ℕ → Bytes
past_slot long =
    filled (codes "PVIMAGE1" ++ 4 ∷ 0 ∷ 2 ∷ 0 ∷ [])
    ++ filled (written_inode 1 0 64 2 ++ written_inode 2 1 0 0)
    ++ filled (2 ∷ 0 ∷ long ∷ 0 ∷ replicate 60 97)
    ++ replicate 512 0

pub name_of_sixty : mounted (past_slot 60)
    ≡ Ok (record { nodes = None ∷ Some (directory_node ((replicate 60 97, 2) ∷ [])) ∷ Some (file_node false []) ∷ []; blocks = 2; inodes = 2; version = V1 })
unfolding images_on_literals
name_of_sixty = refl

pub name_past_slot : mounted (past_slot 61) ≡ Err (Dir 1)
unfolding images_on_literals
name_past_slot = refl

pub name_far_past_slot : mounted (past_slot 255) ≡ Err (Dir 1)
unfolding images_on_literals
name_far_past_slot = refl

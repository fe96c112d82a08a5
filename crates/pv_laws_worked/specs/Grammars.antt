-- Borderline texts of the grammars, and their errors.
use Rattle.std.specs.Prelude.{◌≡◌, refl, [], ◌∷◌, ◌++◌, Ok, Err, codes, true, false, replicate, flat_map}
use Rattle.pv_model.specs.declared.fault.ManifestFault.TheVariants.{Form, Size, Parent, Exists, Source}
use Rattle.pv_model.specs.declared.fault.ParseFault.TheVariants.{Line}
use Rattle.pv_model.specs.declared.fault.ScheduleFault.TheVariants.{Line as TurnLine}
use Rattle.pv_model.specs.declared.fault.What.TheVariants.{Word, Argument, Target, TooMany}
use Rattle.pv_model.specs.declared.instruction.Instruction.TheVariants.{Put, Fork}
use Rattle.pv_model.specs.Machine.{text_at, read_manifest, read_bundle, add_entry, add_entries, read_program, read_schedule, make, further_name, empty_tree, file_node, machine_on_literals}
use Rattle.pv_model.specs.Grammar.Arguments.{parsed_flags}
use Rattle.pv_model.specs.Grammar.Instructions.{instruction_by}
use Rattle.pv_model.specs.Grammar.Manifests.{entry_by}

-- ---- programs

pub no_bytes_are_a_program : read_program [] ≡ Ok []
unfolding read_program
no_bytes_are_a_program = refl

pub no_line_end : read_program (codes "fork") ≡ Ok (Fork ∷ [])
unfolding read_program instruction_by
no_line_end = refl

pub bad_target : read_program (codes "exit 0\njmp 3\n") ≡ Err (Line 2 Target)
unfolding read_program instruction_by
bad_target = refl

pub two_spaces : read_program (codes "exit  0") ≡ Err (Line 1 Argument)
unfolding read_program instruction_by
two_spaces = refl

pub empty_line : read_program (codes "\n") ≡ Err (Line 1 Word)
unfolding read_program instruction_by
empty_line = refl

pub large_number : read_program (codes "set r0 2147483648") ≡ Err (Line 1 Argument)
unfolding read_program instruction_by
large_number = refl

pub flags_out_of_order : read_program (codes "open \"/a\" r+trunc+append") ≡ Err (Line 1 Argument)
unfolding read_program instruction_by text_at parsed_flags
flags_out_of_order = refl

pub space_in_front : read_program (codes " fork\n") ≡ Err (Line 1 Word)
unfolding read_program instruction_by
space_in_front = refl

pub space_after : read_program (codes "fork \n") ≡ Err (Line 1 Argument)
unfolding read_program instruction_by
space_after = refl

pub carriage_return : read_program (codes "fork" ++ 13 ∷ 10 ∷ []) ≡ Err (Line 1 Word)
unfolding read_program instruction_by
carriage_return = refl

pub escape_without_need : read_program (codes "put \"\\x41\"\n") ≡ Ok (Put (codes "A") ∷ [])
unfolding read_program instruction_by text_at
escape_without_need = refl

pub escape_of_zero : read_program (codes "put \"\\x00\"\n") ≡ Err (Line 1 Argument)
unfolding read_program instruction_by text_at
escape_of_zero = refl

pub escape_in_capitals : read_program (codes "put \"\\x4A\"\n") ≡ Err (Line 1 Argument)
unfolding read_program instruction_by text_at
escape_in_capitals = refl

pub longest_text : read_program (codes "put \"" ++ replicate 1100 97 ++ codes "\"\n") ≡ Ok (Put (replicate 1100 97) ∷ [])
unfolding read_program instruction_by text_at
longest_text = refl

pub text_too_long : read_program (codes "put \"" ++ replicate 1101 97 ++ codes "\"\n") ≡ Err (Line 1 Argument)
unfolding read_program instruction_by text_at
text_too_long = refl

pub register_before_target : read_program (codes "jz r9 999\n") ≡ Err (Line 1 Argument)
unfolding read_program instruction_by
register_before_target = refl

pub line_zero : read_program (codes "jmp 0\n") ≡ Err (Line 1 Target)
unfolding read_program instruction_by
line_zero = refl

pub line_below_zero : read_program (codes "jmp -1\n") ≡ Err (Line 1 Target)
unfolding read_program instruction_by
line_below_zero = refl

pub line_with_zero_in_front : read_program (codes "jmp 01\n") ≡ Err (Line 1 Argument)
unfolding read_program instruction_by
line_with_zero_in_front = refl

pub place_past_buffer : read_program (codes "peek r0 4096\n") ≡ Err (Line 1 Argument)
unfolding read_program instruction_by
place_past_buffer = refl

pub negative_zero : read_program (codes "set r0 -0\n") ≡ Err (Line 1 Argument)
unfolding read_program instruction_by
negative_zero = refl

pub flag_twice : read_program (codes "open \"/a\" r+dir+dir\n") ≡ Err (Line 1 Argument)
unfolding read_program instruction_by text_at parsed_flags
flag_twice = refl

-- the last of 256 lines may jump to itself, but not beyond
pub many_lines : read_program (flat_map (λ line. line) (replicate 255 (codes "fork\n")) ++ codes "jmp 257\nfork\n") ≡ Err (Line 256 Target)
unfolding read_program instruction_by
many_lines = refl

pub too_many_lines : read_program (flat_map (λ line. line) (replicate 256 (codes "fork\n")) ++ codes "no\n") ≡ Err (Line 257 TooMany)
unfolding read_program instruction_by
too_many_lines = refl

-- ---- schedules

pub two_turns : read_schedule (codes "1\n2 99999") ≡ Ok ((1, 1) ∷ (2, 99999) ∷ [])
unfolding read_schedule
two_turns = refl

pub turn_of_zero_steps : read_schedule (codes "1\n2 0\n") ≡ Err (TurnLine 2)
unfolding read_schedule
turn_of_zero_steps = refl

pub turn_with_space_after : read_schedule (codes "1 \n") ≡ Err (TurnLine 1)
unfolding read_schedule
turn_with_space_after = refl

pub process_too_great : read_schedule (codes "100000\n") ≡ Err (TurnLine 1)
unfolding read_schedule
process_too_great = refl

-- ---- manifests

pub manifest_of_no_lines : read_manifest [] ≡ Err (Form 1)
unfolding read_manifest
manifest_of_no_lines = refl

pub sizes_of_any_length : read_manifest (codes "image 100000000000000000000000000000 1\n") ≡ Err Size
unfolding read_manifest
sizes_of_any_length = refl

pub sizes_with_zero_in_front : read_manifest (codes "image 016 16\n") ≡ Err (Form 1)
unfolding read_manifest
sizes_with_zero_in_front = refl

pub form_before_sizes : read_manifest (codes "image 1 0\ndir \"a\"\n") ≡ Err (Form 2)
unfolding read_manifest entry_by text_at
form_before_sizes = refl

pub second_sizes : read_manifest (codes "image 16 16\nimage 16 16\n") ≡ Err (Form 2)
unfolding read_manifest entry_by
second_sizes = refl

pub path_of_root : read_manifest (codes "image 16 16\ndir \"/\"\n") ≡ Err (Form 2)
unfolding read_manifest entry_by text_at
path_of_root = refl

pub path_with_dots : read_manifest (codes "image 16 16\ndir \"/a/..\"\n") ≡ Err (Form 2)
unfolding read_manifest entry_by text_at
path_with_dots = refl

pub empty_link : read_manifest (codes "image 16 16\nlink \"/l\" \"\"\n") ≡ Err (Form 2)
unfolding read_manifest entry_by text_at
empty_link = refl

pub lines_that_are_missing : read_manifest (codes "image 16 16\ndir \"/a\"\nexec \"/x\" 2\nfork\n") ≡ Err (Form 3)
unfolding read_manifest entry_by text_at
lines_that_are_missing = refl

pub last_line_gets_its_end :
    read_manifest (codes "image 16 16\nexec \"/x\" 1\nfork")
    ≡ Ok (record { blocks = 16; inodes = 16; listed = record { entries = (2, make (codes "/x") (file_node true (codes "fork\n"))) ∷ []; following = [] } })
unfolding read_manifest entry_by text_at
last_line_gets_its_end = refl

pub manifest_with_schedule : read_manifest (codes "image 16 16\nschedule\n") ≡ Err (Form 2)
unfolding read_manifest entry_by
manifest_with_schedule = refl

pub bundle_without_schedule : read_bundle (codes "image 16 16\n") ≡ Err (Form 2)
unfolding read_bundle
bundle_without_schedule = refl

pub bundle_of_schedule_alone : read_bundle (codes "schedule\n1\n") ≡ Err (Form 1)
unfolding read_bundle
bundle_of_schedule_alone = refl

-- the lines that belong to an entry are arbitrary, and may include the line `schedule`
pub schedule_inside_of_entry :
    read_bundle (codes "image 16 16\nexec \"/x\" 1\nschedule\nschedule\n1\n")
    ≡ Ok (record { blocks = 16; inodes = 16; listed = record { entries = (2, make (codes "/x") (file_node true (codes "schedule\n"))) ∷ []; following = codes "1" ∷ [] } })
unfolding read_bundle entry_by text_at
schedule_inside_of_entry = refl

pub parent_that_is_missing : add_entries ((2, make (codes "/a/b") (file_node false [])) ∷ []) (empty_tree 14 16) ≡ Err (Parent 2)
unfolding machine_on_literals add_entry
parent_that_is_missing = refl

pub name_that_is_there :
    add_entries ((2, make (codes "/a") (file_node false [])) ∷ (3, make (codes "/a") (file_node false [])) ∷ []) (empty_tree 14 16) ≡ Err (Exists 3)
unfolding machine_on_literals add_entry
name_that_is_there = refl

pub source_that_is_missing : add_entries ((2, further_name (codes "/a") (codes "/b")) ∷ []) (empty_tree 14 16) ≡ Err (Source 2)
unfolding machine_on_literals add_entry
source_that_is_missing = refl

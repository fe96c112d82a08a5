-- The record of all worked examples.
use Rattle.pv_laws_worked.specs.Accessed
use Rattle.pv_laws_worked.specs.Audits
use Rattle.pv_laws_worked.specs.Compared
use Rattle.pv_laws_worked.specs.Errors
use Rattle.pv_laws_worked.specs.Execve
use Rattle.pv_laws_worked.specs.Explored
use Rattle.pv_laws_worked.specs.Exposures
use Rattle.pv_laws_worked.specs.Files
use Rattle.pv_laws_worked.specs.Grammars
use Rattle.pv_laws_worked.specs.Images
use Rattle.pv_laws_worked.specs.Limits
use Rattle.pv_laws_worked.specs.LongDirectory
use Rattle.pv_laws_worked.specs.Mounts
use Rattle.pv_laws_worked.specs.Openat
use Rattle.pv_laws_worked.specs.Policies
use Rattle.pv_laws_worked.specs.Processes
use Rattle.pv_laws_worked.specs.Promises
use Rattle.pv_laws_worked.specs.Questions
use Rattle.pv_laws_worked.specs.Rooms
use Rattle.pv_laws_worked.specs.Sources
use Rattle.pv_laws_worked.specs.Starts
use Rattle.pv_laws_worked.specs.Texts
use Rattle.pv_laws_worked.specs.Unveils
use Rattle.pv_laws_worked.specs.Walks
use Rattle.pv_laws_worked.specs.Stated.{Stated}

pub record AllAccessed : Type 0 where
  pub truncation_and_creation : Stated Accessed.truncation_and_creation
  pub refused_programs_are_read : Stated Accessed.refused_programs_are_read
  pub no_bytes_no_access : Stated Accessed.no_bytes_no_access
  pub accesses_of_reused_numbers : Stated Accessed.accesses_of_reused_numbers
  pub both_names_of_rename : Stated Accessed.both_names_of_rename
  pub second_name_of_link : Stated Accessed.second_name_of_link
  pub nodes_of_descriptors : Stated Accessed.nodes_of_descriptors
  pub nodes_without_paths : Stated Accessed.nodes_without_paths
  pub files_of_two_names : Stated Accessed.files_of_two_names
  pub each_process_has_its_own : Stated Accessed.each_process_has_its_own
  pub unread_if_complete : Stated Accessed.unread_if_complete

pub record AllAudits : Type 0 where
  pub audit_absent : Stated Audits.audit_absent
  pub audit_directory : Stated Audits.audit_directory
  pub sealed_by_table : Stated Audits.sealed_by_table
  pub sealed_by_pledge : Stated Audits.sealed_by_pledge
  pub sealed_not_frozen : Stated Audits.sealed_not_frozen
  pub sealed_under_exec : Stated Audits.sealed_under_exec
  pub exposed_at_first : Stated Audits.exposed_at_first
  pub exposed_by_descriptor : Stated Audits.exposed_by_descriptor
  pub exposed_by_exec : Stated Audits.exposed_by_exec
  pub exposed_second_name : Stated Audits.exposed_second_name
  pub exposed_unlocked : Stated Audits.exposed_unlocked
  pub exposed_above : Stated Audits.exposed_above
  pub exposed_by_names : Stated Audits.exposed_by_names
  pub exposed_by_permission_c : Stated Audits.exposed_by_permission_c
  pub exposed_two_above : Stated Audits.exposed_two_above
  pub sealed_without_lock : Stated Audits.sealed_without_lock
  pub all_reasons_are_reported : Stated Audits.all_reasons_are_reported

pub record AllCompared : Type 0 where
  pub an_entry_with_fewer_permissions : Stated Compared.an_entry_with_fewer_permissions
  pub calls_of_setup_are_not_compared : Stated Compared.calls_of_setup_are_not_compared
  pub refused_calls_of_setup : Stated Compared.refused_calls_of_setup
  pub other_calls_are_compared : Stated Compared.other_calls_are_compared
  pub one_state_has_ended : Stated Compared.one_state_has_ended
  pub live_in_one_state_only : Stated Compared.live_in_one_state_only
  pub programs_are_files : Stated Compared.programs_are_files
  pub not_all_pairs : Stated Compared.not_all_pairs
  pub an_empty_pledge : Stated Compared.an_empty_pledge
  pub an_image_and_itself : Stated Compared.an_image_and_itself

pub record AllErrors : Type 0 where
  pub of_pledge : Stated Errors.of_pledge
  pub of_unveil : Stated Errors.of_unveil
  pub of_execve : Stated Errors.of_execve
  pub of_open : Stated Errors.of_open
  pub of_openat : Stated Errors.of_openat
  pub of_descriptors : Stated Errors.of_descriptors
  pub of_open_files : Stated Errors.of_open_files
  pub of_full_descriptors : Stated Errors.of_full_descriptors
  pub of_walks : Stated Errors.of_walks
  pub of_two_walks : Stated Errors.of_two_walks
  pub of_judgements : Stated Errors.of_judgements
  pub of_second_judgements : Stated Errors.of_second_judgements
  pub of_objects : Stated Errors.of_objects
  pub of_long_text : Stated Errors.of_long_text
  pub of_space : Stated Errors.of_space
  pub of_length : Stated Errors.of_length

pub record AllExecve : Type 0 where
  pub execve_refusals : Stated Execve.execve_refusals
  pub execve_under_execpromises : Stated Execve.execve_under_execpromises
  pub execve_keeps_lock : Stated Execve.execve_keeps_lock
  pub execve_without_execpromises : Stated Execve.execve_without_execpromises
  pub close_on_exec : Stated Execve.close_on_exec

pub record AllExplored : Type 0 where
  pub a_loop_has_two_states : Stated Explored.a_loop_has_two_states
  pub a_loop_leads_back : Stated Explored.a_loop_leads_back
  pub each_text_has_its_witness : Stated Explored.each_text_has_its_witness
  pub a_state_is_left_out : Stated Explored.a_state_is_left_out
  pub two_orders_end_apart : Stated Explored.two_orders_end_apart

pub record AllExposures : Type 0 where
  pub lines_of_a_state : Stated Exposures.lines_of_a_state
  pub ranges_of_lines : Stated Exposures.ranges_of_lines
  pub safe_files_are_listed : Stated Exposures.safe_files_are_listed
  pub safe_if_complete : Stated Exposures.safe_if_complete
  pub exposures_of_reused_numbers : Stated Exposures.exposures_of_reused_numbers
  pub entries_above : Stated Exposures.entries_above
  pub execve_without_restraints : Stated Exposures.execve_without_restraints
  pub no_first_program : Stated Exposures.no_first_program
  pub one_visited_state : Stated Exposures.one_visited_state
  pub two_processes : Stated Exposures.two_processes

pub record AllFiles : Type 0 where
  pub shared_offset : Stated Files.shared_offset
  pub shared_offset_in_turn : Stated Files.shared_offset_in_turn
  pub getdents_lists : Stated Files.getdents_lists
  pub moved_directory : Stated Files.moved_directory
  pub removed_directory : Stated Files.removed_directory
  pub rename_refusals : Stated Files.rename_refusals
  pub far_end : Stated Files.far_end
  pub room_of_long_files : Stated Files.room_of_long_files
  pub listing_of_dot_name : Stated Files.listing_of_dot_name

pub record AllGrammars : Type 0 where
  pub no_bytes_are_a_program : Stated Grammars.no_bytes_are_a_program
  pub no_line_end : Stated Grammars.no_line_end
  pub bad_target : Stated Grammars.bad_target
  pub two_spaces : Stated Grammars.two_spaces
  pub empty_line : Stated Grammars.empty_line
  pub large_number : Stated Grammars.large_number
  pub flags_out_of_order : Stated Grammars.flags_out_of_order
  pub space_in_front : Stated Grammars.space_in_front
  pub space_after : Stated Grammars.space_after
  pub carriage_return : Stated Grammars.carriage_return
  pub escape_without_need : Stated Grammars.escape_without_need
  pub escape_of_zero : Stated Grammars.escape_of_zero
  pub escape_in_capitals : Stated Grammars.escape_in_capitals
  pub longest_text : Stated Grammars.longest_text
  pub text_too_long : Stated Grammars.text_too_long
  pub register_before_target : Stated Grammars.register_before_target
  pub line_zero : Stated Grammars.line_zero
  pub line_below_zero : Stated Grammars.line_below_zero
  pub line_with_zero_in_front : Stated Grammars.line_with_zero_in_front
  pub place_past_buffer : Stated Grammars.place_past_buffer
  pub negative_zero : Stated Grammars.negative_zero
  pub flag_twice : Stated Grammars.flag_twice
  pub many_lines : Stated Grammars.many_lines
  pub too_many_lines : Stated Grammars.too_many_lines
  pub two_turns : Stated Grammars.two_turns
  pub turn_of_zero_steps : Stated Grammars.turn_of_zero_steps
  pub turn_with_space_after : Stated Grammars.turn_with_space_after
  pub process_too_great : Stated Grammars.process_too_great
  pub manifest_of_no_lines : Stated Grammars.manifest_of_no_lines
  pub sizes_of_any_length : Stated Grammars.sizes_of_any_length
  pub sizes_with_zero_in_front : Stated Grammars.sizes_with_zero_in_front
  pub form_before_sizes : Stated Grammars.form_before_sizes
  pub second_sizes : Stated Grammars.second_sizes
  pub path_of_root : Stated Grammars.path_of_root
  pub path_with_dots : Stated Grammars.path_with_dots
  pub empty_link : Stated Grammars.empty_link
  pub lines_that_are_missing : Stated Grammars.lines_that_are_missing
  pub last_line_gets_its_end : Stated Grammars.last_line_gets_its_end
  pub manifest_with_schedule : Stated Grammars.manifest_with_schedule
  pub bundle_without_schedule : Stated Grammars.bundle_without_schedule
  pub bundle_of_schedule_alone : Stated Grammars.bundle_of_schedule_alone
  pub schedule_inside_of_entry : Stated Grammars.schedule_inside_of_entry
  pub parent_that_is_missing : Stated Grammars.parent_that_is_missing
  pub name_that_is_there : Stated Grammars.name_that_is_there
  pub source_that_is_missing : Stated Grammars.source_that_is_missing

pub record AllImages : Type 0 where
  pub smallest_is_mounted : Stated Images.smallest_is_mounted
  pub smallest_with_no_turn : Stated Images.smallest_with_no_turn
  pub smallest_with_one_turn : Stated Images.smallest_with_one_turn
  pub example_is_mounted : Stated Images.example_is_mounted
  pub example_uses_blocks : Stated Images.example_uses_blocks
  pub example_unused_bytes : Stated Images.example_unused_bytes
  pub example_listing : Stated Images.example_listing
  pub name_of_sixty : Stated Images.name_of_sixty
  pub name_past_slot : Stated Images.name_past_slot
  pub name_far_past_slot : Stated Images.name_far_past_slot

pub record AllLimits : Type 0 where
  pub full_table : Stated Limits.full_table
  pub long_path : Stated Limits.long_path
  pub many_descriptors : Stated Limits.many_descriptors
  pub many_links : Stated Limits.many_links
  pub many_processes : Stated Limits.many_processes
  pub many_open_files : Stated Limits.many_open_files

pub record AllLongDirectory : Type 0 where
  pub by_open : Stated LongDirectory.by_open
  pub by_openat : Stated LongDirectory.by_openat
  pub by_mkdir : Stated LongDirectory.by_mkdir
  pub by_symlink : Stated LongDirectory.by_symlink
  pub by_link : Stated LongDirectory.by_link
  pub by_rename : Stated LongDirectory.by_rename

pub record AllMounts : Type 0 where
  pub not_reached : Stated Mounts.not_reached
  pub block_of_another : Stated Mounts.block_of_another
  pub block_of_inodes : Stated Mounts.block_of_inodes
  pub half_a_slot : Stated Mounts.half_a_slot
  pub inode_before_block : Stated Mounts.inode_before_block
  pub slot_of_no_inode : Stated Mounts.slot_of_no_inode
  pub slot_without_name : Stated Mounts.slot_without_name
  pub content_before_place : Stated Mounts.content_before_place
  pub file_in_no_entry : Stated Mounts.file_in_no_entry
  pub last_byte_missing : Stated Mounts.last_byte_missing
  pub more_blocks_than_bytes : Stated Mounts.more_blocks_than_bytes
  pub no_inode : Stated Mounts.no_inode
  pub other_magic : Stated Mounts.other_magic
  pub half_a_block : Stated Mounts.half_a_block
  pub version_2 : Stated Mounts.version_2

pub record AllOpenat : Type 0 where
  pub openat_paths : Stated Openat.openat_paths
  pub openat_judged : Stated Openat.openat_judged
  pub openat_removed : Stated Openat.openat_removed

pub record AllPolicies : Type 0 where
  pub permissions_that_are_new : Stated Policies.permissions_that_are_new
  pub either_of_two : Stated Policies.either_of_two
  pub either_with_wpath : Stated Policies.either_with_wpath
  pub rpath_itself : Stated Policies.rpath_itself
  pub idle_promises : Stated Policies.idle_promises
  pub idle_permissions : Stated Policies.idle_permissions
  pub refused_permissions_are_idle : Stated Policies.refused_permissions_are_idle
  pub idle_by_words : Stated Policies.idle_by_words
  pub programs_of_execve : Stated Policies.programs_of_execve
  pub program_without_file : Stated Policies.program_without_file
  pub files_of_one_program : Stated Policies.files_of_one_program
  pub programs_without_calls : Stated Policies.programs_without_calls
  pub idle_if_complete : Stated Policies.idle_if_complete
  pub granted_calls_alone : Stated Policies.granted_calls_alone
  pub refused_programs : Stated Policies.refused_programs

pub record AllProcesses : Type 0 where
  pub ends : Stated Processes.ends
  pub least_is_waited_for : Stated Processes.least_is_waited_for
  pub promises_outlast_parent : Stated Processes.promises_outlast_parent
  pub first_has_no_parent : Stated Processes.first_has_no_parent

pub record AllPromises : Type 0 where
  pub error_promise : Stated Promises.error_promise
  pub promise_texts_parse : Stated Promises.promise_texts_parse
  pub killed_and_waited : Stated Promises.killed_and_waited
  pub rename_without_promise : Stated Promises.rename_without_promise
  pub create_without_promise : Stated Promises.create_without_promise

pub record AllQuestions : Type 0 where
  pub each_is_reported : Stated Questions.each_is_reported
  pub places_are_reached : Stated Questions.places_are_reached
  pub removed_is_reached : Stated Questions.removed_is_reached
  pub refusals_are_explained : Stated Questions.refusals_are_explained
  pub process_images_ask : Stated Questions.process_images_ask
  pub turns_are_taken : Stated Questions.turns_are_taken

pub record AllRooms : Type 0 where
  pub ten_blocks : Stated Rooms.ten_blocks
  pub eleven_blocks : Stated Rooms.eleven_blocks
  pub greatest_in_version_1 : Stated Rooms.greatest_in_version_1
  pub greatest_in_version_2 : Stated Rooms.greatest_in_version_2
  pub eight_entries : Stated Rooms.eight_entries
  pub full : Stated Rooms.full
  pub room_after_move : Stated Rooms.room_after_move
  pub added : Stated Rooms.added

pub record AllSources : Type 0 where
  pub words_and_comments : Stated Sources.words_and_comments
  pub hash_in_a_word : Stated Sources.hash_in_a_word
  pub text_without_its_end : Stated Sources.text_without_its_end
  pub labels_are_numbers : Stated Sources.labels_are_numbers
  pub lines_are_taken_as_they_are : Stated Sources.lines_are_taken_as_they_are
  pub nothing_that_counts : Stated Sources.nothing_that_counts
  pub sizes_come_first : Stated Sources.sizes_come_first
  pub each_line_is_judged : Stated Sources.each_line_is_judged
  pub labels_in_error : Stated Sources.labels_in_error
  pub errors_of_the_tree : Stated Sources.errors_of_the_tree
  pub sources_with_init_as_directory : Stated Sources.sources_with_init_as_directory
  pub exec_in_error : Stated Sources.exec_in_error
  pub twenty_are_reported : Stated Sources.twenty_are_reported
  pub instructions_too_many : Stated Sources.instructions_too_many

pub record AllStarts : Type 0 where
  pub form_comes_first : Stated Starts.form_comes_first
  pub sizes_come_before_entries : Stated Starts.sizes_come_before_entries
  pub entries_come_before_schedule : Stated Starts.entries_come_before_schedule
  pub schedule_comes_before_init : Stated Starts.schedule_comes_before_init
  pub line_of_init : Stated Starts.line_of_init
  pub bundles_with_init_as_directory : Stated Starts.bundles_with_init_as_directory
  pub init_is_not_executable : Stated Starts.init_is_not_executable
  pub init_is_too_long : Stated Starts.init_is_too_long
  pub image_comes_first : Stated Starts.image_comes_first
  pub schedule_after_image : Stated Starts.schedule_after_image
  pub image_run : Stated Starts.image_run
  pub image_run_2 : Stated Starts.image_run_2
  pub schedule_after_manifest : Stated Starts.schedule_after_manifest
  pub schedule_without_its_end : Stated Starts.schedule_without_its_end
  pub schedule_of_no_lines : Stated Starts.schedule_of_no_lines

pub record AllTexts : Type 0 where
  pub read_one_file : Stated Texts.read_one_file
  pub registers_and_bytes : Stated Texts.registers_and_bytes

pub record AllUnveils : Type 0 where
  pub not_by_prefix : Stated Unveils.not_by_prefix
  pub nearest_entry : Stated Unveils.nearest_entry
  pub increase_and_lock : Stated Unveils.increase_and_lock
  pub unveil_arguments : Stated Unveils.unveil_arguments
  pub unveiled_file : Stated Unveils.unveiled_file
  pub create_needs_permission : Stated Unveils.create_needs_permission
  pub descriptors_stay : Stated Unveils.descriptors_stay
  pub links_and_dots : Stated Unveils.links_and_dots
  pub directory_made_again : Stated Unveils.directory_made_again
  pub absent_name_holds_directory : Stated Unveils.absent_name_holds_directory
  pub file_made_again : Stated Unveils.file_made_again
  pub unlink_needs_permission : Stated Unveils.unlink_needs_permission
  pub child_has_table : Stated Unveils.child_has_table

pub record AllWalks : Type 0 where
  pub preserved_link : Stated Walks.preserved_link
  pub link_with_slash : Stated Walks.link_with_slash
  pub file_with_slash : Stated Walks.file_with_slash
  pub absent_with_slash : Stated Walks.absent_with_slash
  pub after_file : Stated Walks.after_file
  pub link_text_with_slash : Stated Walks.link_text_with_slash
  pub slash_dropped : Stated Walks.slash_dropped
  pub slashes_alone : Stated Walks.slashes_alone
  pub weight_at_most : Stated Walks.weight_at_most
  pub weight_above : Stated Walks.weight_above

pub record AllWorked : Type 0 where
  pub accessed : AllAccessed
  pub audits : AllAudits
  pub compared : AllCompared
  pub errors : AllErrors
  pub execve : AllExecve
  pub explored : AllExplored
  pub exposures : AllExposures
  pub files : AllFiles
  pub grammars : AllGrammars
  pub images : AllImages
  pub limits : AllLimits
  pub long_directory : AllLongDirectory
  pub mounts : AllMounts
  pub openat : AllOpenat
  pub policies : AllPolicies
  pub processes : AllProcesses
  pub promises : AllPromises
  pub questions : AllQuestions
  pub rooms : AllRooms
  pub sources : AllSources
  pub starts : AllStarts
  pub texts : AllTexts
  pub unveils : AllUnveils
  pub walks : AllWalks

-- The common names of the machine: each is defined in the module that its line names.
pub use Rattle.pv_model.specs.Answer.{Answered, answer_by_attempt, answer_of, answer_where, at_next_line, update, update_live, with_front}
unfoldable pub use Rattle.pv_model.specs.Answer.{answer, effect}
pub use Rattle.pv_model.specs.Answers.Access.{Access, changes_name, executes, node_of_descriptor}
unfoldable pub use Rattle.pv_model.specs.Answers.Access.{accesses}
pub use Rattle.pv_model.specs.Answers.Compare.{Comparison, FoundPair, PairMove, alike, different, differs, pair_moves}
unfoldable pub use Rattle.pv_model.specs.Answers.Compare.{comparison}
pub use Rattle.pv_model.specs.Answers.Explain.{permissions_lacked, settings_next}
unfoldable pub use Rattle.pv_model.specs.Answers.Explain.{explained_step}
pub use Rattle.pv_model.specs.Answers.Explore.{Found, Move, endings, endings_line, found_by, has_ended, is_complete, move, move_text, moves_of, elements_with_new_keys, witness_text}
unfoldable pub use Rattle.pv_model.specs.Answers.Explore.{states_found}
pub use Rattle.pv_model.specs.Answers.Exposure.{Located, in_ranges, is_closed_to, program_key}
pub use Rattle.pv_model.specs.Answers.Files.{files_of_tree, is_file_at, named_files, node_brief}
unfoldable pub use Rattle.pv_model.specs.Answers.Graph.{graph_lines}
pub use Rattle.pv_model.specs.Answers.Lines.{AnswerLine, answer_bytes, answer_line, answer_line_bytes, counted_from, of_trace, permissions_in_places, spaced}
pub use Rattle.pv_model.specs.Answers.Needs.{Asked, Judged, asked_by, is_refused, judged_walks, promises_needed, same_judged, same_promise, walks_judged, walks_to}
unfoldable pub use Rattle.pv_model.specs.Answers.Needs.{asked}
pub use Rattle.pv_model.specs.Answers.Nodes.{first_of, target_words, with_name}
unfoldable pub use Rattle.pv_model.specs.Answers.Nodes.{node_path}
pub use Rattle.pv_model.specs.Answers.Numbers.{Numbers, bool_numbers, bytes_numbers, descriptor_numbers, entry_numbers, file_numbers, integer_numbers, list_numbers, number_numbers, option_numbers, same_state}
unfoldable pub use Rattle.pv_model.specs.Answers.Numbers.{instruction_numbers, state_numbers, tree_numbers}
pub use Rattle.pv_model.specs.Answers.Observed.{Observation, Observer, first_observations, groups, is_unveil, observations, observed, of_calls, of_next, of_process}
pub use Rattle.pv_model.specs.Answers.Policy.{Granted, Request, Requests}
unfoldable pub use Rattle.pv_model.specs.Answers.ProcessRecord.{locations, state_lines}
pub use Rattle.pv_model.specs.Answers.ProgramNames.{program_numbers}
pub use Rattle.pv_model.specs.Answers.Reach.{ListedName, is_allowed}
unfoldable pub use Rattle.pv_model.specs.Answers.Reach.{reach_lines}
pub use Rattle.pv_model.specs.Answers.Settings.{Setting, Settings, settings_of}
pub use Rattle.pv_model.specs.Answers.Turns.{continues, next_turn}
unfoldable pub use Rattle.pv_model.specs.Answers.Turns.{turns}
pub use Rattle.pv_model.specs.Attempt.{Attempt, after_walks, demand, done, give, refuse, refuse_if, refused, ◌>>=◌, ◌>>◌}
pub use Rattle.pv_model.specs.Bytes.{Bytes, is_empty, little_endian, onto_first}
pub use Rattle.pv_model.specs.CallRef.{call_of, walk_of}
pub use Rattle.pv_model.specs.Calls.Descriptors.{after_write, check_start, close, contradicts, directory_of, dup, dup2, fchdir, fstat, ftruncate, getdents, is_link, is_number, is_past, is_past_greatest, list_name, lseek, natural, new_open_file, next_name, open_at, open_file_for, open_node, read, seek_base, with_content, with_content_of, with_descriptor, with_open_file, within, without_descriptor, write, write_end, write_place}
pub use Rattle.pv_model.specs.Calls.Paths.{chdir, contains_directory, ends_in_dot, entries_there, is_directory_there, link, link_text, move_entry, readlink, rename, rmdir, same_node, stat_at, symlink, unlink}
pub use Rattle.pv_model.specs.Calls.Processes.{adopt, adopter, child, children, executable_bytes, execve, fork, is_unclaimed, parent_of, reap, statuses, wait, with_program, with_result}
unfoldable pub use Rattle.pv_model.specs.Calls.Processes.{end_process}
pub use Rattle.pv_model.specs.Calls.Restraints.{add_target, asked_promises, entries_of_table, pledge, refuse_if_locked, unless_refused, unveil}
pub use Rattle.pv_model.specs.Closed.{GovernsName}
pub use Rattle.pv_model.specs.Effect.{Effect, Reply, answers, answers_bytes, bytes_of, descriptor_at, directory_of_file, end_of, ends, judge, judge_for, judgement_or_refusal, name_of, node_of, open_file, open_file_of, overwrite, place_or_refusal, resize, returns, returns_bytes, size_of, start_directory, status, waits, walk, walk_from, with_file, with_room}
pub use Rattle.pv_model.specs.Errno.{errno_number}
pub use Rattle.pv_model.specs.Grammar.Arguments.{Parsed, one_argument, two_arguments, word_at}
unfoldable pub use Rattle.pv_model.specs.Grammar.Arguments.{text_at}
pub use Rattle.pv_model.specs.Grammar.Encoding.{EncodesText}
pub use Rattle.pv_model.specs.Grammar.Entries.{EncodesManifest}
pub use Rattle.pv_model.specs.Grammar.Instructions.{instruction_of}
pub use Rattle.pv_model.specs.Grammar.Lines.{decimal_of, lines_of}
pub use Rattle.pv_model.specs.Grammar.Manifests.{Listed, Manifest, add_entries, data_blocks, entry_of, is_manifest_path, path_of, sizes_of, tree_of, with_line_end}
unfoldable pub use Rattle.pv_model.specs.Grammar.Manifests.{add_entry, read_bundle, read_manifest}
pub use Rattle.pv_model.specs.Grammar.Programs.{program_of}
unfoldable pub use Rattle.pv_model.specs.Grammar.Programs.{read_program}
pub use Rattle.pv_model.specs.Grammar.Schedules.{schedule_of_lines}
unfoldable pub use Rattle.pv_model.specs.Grammar.Schedules.{read_schedule}
pub use Rattle.pv_model.specs.Grammar.Texts.{ended}
pub use Rattle.pv_model.specs.Held.{among, held_by_process, held_by_table, live_processes, named_tree, used_files}
unfoldable pub use Rattle.pv_model.specs.Held.{collect}
pub use Rattle.pv_model.specs.Image.{AreSlots, Holds, HoldsAny, IsImageOf, IsWrittenImageOf, block, block_count, content, field, greatest_blocks, index_pointers, inode, inode_blocks, inode_length, magic, number_of, size, used_blocks, used_content, used_index}
pub use Rattle.pv_model.specs.Listing.{listed_path}
unfoldable pub use Rattle.pv_model.specs.Listing.{listing, report}
pub use Rattle.pv_model.specs.Manifest.{Entry, empty_tree, further_name, make, manifest_tree}
pub use Rattle.pv_model.specs.Mount.{PassesNone, appears_twice, are_image_sizes, block_number, inode_number, is_bad_slot, is_data_block, is_free, is_reached_within, kind, name_count, slot_length, slot_name, slot_number, slots_at, slots_of, tree_in}
unfoldable pub use Rattle.pv_model.specs.Mount.{has_bad_block, has_bad_content, has_bad_inode, mounted}
pub use Rattle.pv_model.specs.Needs.{needs_cpath, needs_of_mode, permissions_of_open}
unfoldable pub use Rattle.pv_model.specs.Needs.{needs}
pub use Rattle.pv_model.specs.Numbered.{Numbered, at_number, keep, keep_if, least_free, numbered, numbered_from, present, with_number, without_number}
unfoldable pub use Rattle.pv_model.specs.OnLiterals.{machine_on_literals}
pub use Rattle.pv_model.specs.Perms.{covers, join_permissions, no_permissions, permission_c, permission_r, permission_x, read_permissions}
pub use Rattle.pv_model.specs.Program.{Next, calls_for, inside, jump_if, next, next_by}
unfoldable pub use Rattle.pv_model.specs.Program.{perform}
pub use Rattle.pv_model.specs.Promise.{all_promises, promise_name}
pub use Rattle.pv_model.specs.Promises.{Need, Promises, contains, is_lenient, is_met, missing_promise, narrow_promises}
pub use Rattle.pv_model.specs.Room.{entry_length, greatest_entries, greatest_length, node_length, rounded_up}
unfoldable pub use Rattle.pv_model.specs.Room.{fits, is_too_long, need}
pub use Rattle.pv_model.specs.Sealed.{audit_node, is_file}
unfoldable pub use Rattle.pv_model.specs.Sealed.{leaks}
pub use Rattle.pv_model.specs.Source.Blocks.{Block, blocks_from, single, taken}
unfoldable pub use Rattle.pv_model.specs.Source.Blocks.{blocks_of}
unfoldable pub use Rattle.pv_model.specs.Source.Judged.{errors_of_blocks, read_source}
pub use Rattle.pv_model.specs.Source.Programs.{LabelledLine, instruction_text, instructions_of, invalid_lines, labelled_lines, labels_from, program_line_of, reported_if, taken_lines}
unfoldable pub use Rattle.pv_model.specs.Source.Programs.{program_errors, program_lines}
pub use Rattle.pv_model.specs.Source.Words.{NumberedLine, NumberedWords, between, last_word, lines_that_count, words_from}
unfoldable pub use Rattle.pv_model.specs.Source.Words.{words_of}
pub use Rattle.pv_model.specs.Source.Written.{written_lines}
unfoldable pub use Rattle.pv_model.specs.Source.Written.{text_of_blocks}
pub use Rattle.pv_model.specs.Start.{Started, and_then}
unfoldable pub use Rattle.pv_model.specs.Start.{booted, bundle_started, image_started, started_on}
pub use Rattle.pv_model.specs.State.{Descriptor, OpenFile, Process, ProcessRecord, Program, State, ended_record, first_process, first_state, live, live_process, process_at, reads, with_process, with_tree, writes}
pub use Rattle.pv_model.specs.Step.{Run, Schedule, Stepped, boot, run, step_by, step_of, steps_of}
unfoldable pub use Rattle.pv_model.specs.Step.{step}
pub use Rattle.pv_model.specs.Stream.{Rose}
pub use Rattle.pv_model.specs.Touch.{IsAllowed, Justifies, Touches, change_file, descriptor_of, file_bytes, flags_of, gain_descriptor, has_succeeded, place_found, places, read_by_descriptor, read_by_execve, read_file, report_node, with_bytes}
pub use Rattle.pv_model.specs.Trace.{Line, Word, buffer_of, call_word, end_words, gave, gio_word, hex_byte, is_plain, line, mode_text, moved_words, nami_word, pldg_word, promise_words, quote, quote_byte, ret_word, trace_bytes, unveil_words, unvl_word}
unfoldable pub use Rattle.pv_model.specs.Trace.{call_lines, text_line, walked_paths}
pub use Rattle.pv_model.specs.Tree.{Entries, IsAtOrAbove, IsReached, IsWellFormed, Node, Tree, by_entry, directory_node, entries_at, entries_of, file_node, find_entry, from_root, greatest_name, is_directory, is_directory_at, is_link_text, is_name, is_name_byte, is_node, is_removed, link_node, named_numbers, names_in, names_of, new_number, node_at, root, with_entry, with_new_node, with_node, without_entry}
unfoldable pub use Rattle.pv_model.specs.Tree.{ancestors, parent}
pub use Rattle.pv_model.specs.Unveil.{Governs, Table, entry_for, from_above, judge_entry, own, permissions_at, same_target, target_directory, target_of, with_permissions}
unfoldable pub use Rattle.pv_model.specs.Unveil.{directory_rights, governing_entry, judgement}
pub use Rattle.pv_model.specs.Walk.{Walked, begins_walk, components, end_mark, follows_last, is_absolute, split_slashes, weight}
unfoldable pub use Rattle.pv_model.specs.Walk.{resolve}
pub use Rattle.pv_model.specs.Walks.{Walk, execve_walk, follow_of, from_here, open_walk, rename_walk, unveil_walk, walk_number, walks_of}

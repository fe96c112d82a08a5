-- All worked examples are proved.
use Rattle.pv_laws_worked.specs.Accessed
use Rattle.pv_laws_worked.specs.Audits
use Rattle.pv_laws_worked.specs.Compared
use Rattle.pv_laws_worked.specs.Errors
use Rattle.pv_laws_worked.specs.Execve
use Rattle.pv_laws_worked.specs.Explored
use Rattle.pv_laws_worked.specs.Exposures
use Rattle.pv_laws_worked.specs.Files
use Rattle.pv_laws_worked.specs.Grammars
use Rattle.pv_laws_worked.specs.Images
use Rattle.pv_laws_worked.specs.Limits
use Rattle.pv_laws_worked.specs.LongDirectory
use Rattle.pv_laws_worked.specs.Mounts
use Rattle.pv_laws_worked.specs.Openat
use Rattle.pv_laws_worked.specs.Policies
use Rattle.pv_laws_worked.specs.Processes
use Rattle.pv_laws_worked.specs.Promises
use Rattle.pv_laws_worked.specs.Questions
use Rattle.pv_laws_worked.specs.Rooms
use Rattle.pv_laws_worked.specs.Sources
use Rattle.pv_laws_worked.specs.Starts
use Rattle.pv_laws_worked.specs.Texts
use Rattle.pv_laws_worked.specs.Unveils
use Rattle.pv_laws_worked.specs.Walks
use Rattle.pv_laws_worked.proofs.worked_runs_are_as_they_are_written.Goals as goal

pub returns : goal.returns
returns c = record {
  accessed = record {
    truncation_and_creation = Accessed.truncation_and_creation;
    refused_programs_are_read = Accessed.refused_programs_are_read;
    no_bytes_no_access = Accessed.no_bytes_no_access;
    accesses_of_reused_numbers = Accessed.accesses_of_reused_numbers;
    both_names_of_rename = Accessed.both_names_of_rename;
    second_name_of_link = Accessed.second_name_of_link;
    nodes_of_descriptors = Accessed.nodes_of_descriptors;
    nodes_without_paths = Accessed.nodes_without_paths;
    files_of_two_names = Accessed.files_of_two_names;
    each_process_has_its_own = Accessed.each_process_has_its_own;
    unread_if_complete = Accessed.unread_if_complete;
  };
  audits = record {
    audit_absent = Audits.audit_absent;
    audit_directory = Audits.audit_directory;
    sealed_by_table = Audits.sealed_by_table;
    sealed_by_pledge = Audits.sealed_by_pledge;
    sealed_not_frozen = Audits.sealed_not_frozen;
    sealed_under_exec = Audits.sealed_under_exec;
    exposed_at_first = Audits.exposed_at_first;
    exposed_by_descriptor = Audits.exposed_by_descriptor;
    exposed_by_exec = Audits.exposed_by_exec;
    exposed_second_name = Audits.exposed_second_name;
    exposed_unlocked = Audits.exposed_unlocked;
    exposed_above = Audits.exposed_above;
    exposed_by_names = Audits.exposed_by_names;
    exposed_by_permission_c = Audits.exposed_by_permission_c;
    exposed_two_above = Audits.exposed_two_above;
    sealed_without_lock = Audits.sealed_without_lock;
    all_reasons_are_reported = Audits.all_reasons_are_reported;
  };
  compared = record {
    an_entry_with_fewer_permissions = Compared.an_entry_with_fewer_permissions;
    calls_of_setup_are_not_compared = Compared.calls_of_setup_are_not_compared;
    refused_calls_of_setup = Compared.refused_calls_of_setup;
    other_calls_are_compared = Compared.other_calls_are_compared;
    one_state_has_ended = Compared.one_state_has_ended;
    live_in_one_state_only = Compared.live_in_one_state_only;
    programs_are_files = Compared.programs_are_files;
    not_all_pairs = Compared.not_all_pairs;
    an_empty_pledge = Compared.an_empty_pledge;
    an_image_and_itself = Compared.an_image_and_itself;
  };
  errors = record {
    of_pledge = Errors.of_pledge;
    of_unveil = Errors.of_unveil;
    of_execve = Errors.of_execve;
    of_open = Errors.of_open;
    of_openat = Errors.of_openat;
    of_descriptors = Errors.of_descriptors;
    of_open_files = Errors.of_open_files;
    of_full_descriptors = Errors.of_full_descriptors;
    of_walks = Errors.of_walks;
    of_two_walks = Errors.of_two_walks;
    of_judgements = Errors.of_judgements;
    of_second_judgements = Errors.of_second_judgements;
    of_objects = Errors.of_objects;
    of_long_text = Errors.of_long_text;
    of_space = Errors.of_space;
    of_length = Errors.of_length;
  };
  execve = record {
    execve_refusals = Execve.execve_refusals;
    execve_under_execpromises = Execve.execve_under_execpromises;
    execve_keeps_lock = Execve.execve_keeps_lock;
    execve_without_execpromises = Execve.execve_without_execpromises;
    close_on_exec = Execve.close_on_exec;
  };
  explored = record {
    a_loop_has_two_states = Explored.a_loop_has_two_states;
    a_loop_leads_back = Explored.a_loop_leads_back;
    each_text_has_its_witness = Explored.each_text_has_its_witness;
    a_state_is_left_out = Explored.a_state_is_left_out;
    two_orders_end_apart = Explored.two_orders_end_apart;
  };
  exposures = record {
    lines_of_a_state = Exposures.lines_of_a_state;
    ranges_of_lines = Exposures.ranges_of_lines;
    safe_files_are_listed = Exposures.safe_files_are_listed;
    safe_if_complete = Exposures.safe_if_complete;
    exposures_of_reused_numbers = Exposures.exposures_of_reused_numbers;
    entries_above = Exposures.entries_above;
    execve_without_restraints = Exposures.execve_without_restraints;
    no_first_program = Exposures.no_first_program;
    one_visited_state = Exposures.one_visited_state;
    two_processes = Exposures.two_processes;
  };
  files = record {
    shared_offset = Files.shared_offset;
    shared_offset_in_turn = Files.shared_offset_in_turn;
    getdents_lists = Files.getdents_lists;
    moved_directory = Files.moved_directory;
    removed_directory = Files.removed_directory;
    rename_refusals = Files.rename_refusals;
    far_end = Files.far_end;
    room_of_long_files = Files.room_of_long_files;
    listing_of_dot_name = Files.listing_of_dot_name;
  };
  grammars = record {
    no_bytes_are_a_program = Grammars.no_bytes_are_a_program;
    no_line_end = Grammars.no_line_end;
    bad_target = Grammars.bad_target;
    two_spaces = Grammars.two_spaces;
    empty_line = Grammars.empty_line;
    large_number = Grammars.large_number;
    flags_out_of_order = Grammars.flags_out_of_order;
    space_in_front = Grammars.space_in_front;
    space_after = Grammars.space_after;
    carriage_return = Grammars.carriage_return;
    escape_without_need = Grammars.escape_without_need;
    escape_of_zero = Grammars.escape_of_zero;
    escape_in_capitals = Grammars.escape_in_capitals;
    longest_text = Grammars.longest_text;
    text_too_long = Grammars.text_too_long;
    register_before_target = Grammars.register_before_target;
    line_zero = Grammars.line_zero;
    line_below_zero = Grammars.line_below_zero;
    line_with_zero_in_front = Grammars.line_with_zero_in_front;
    place_past_buffer = Grammars.place_past_buffer;
    negative_zero = Grammars.negative_zero;
    flag_twice = Grammars.flag_twice;
    many_lines = Grammars.many_lines;
    too_many_lines = Grammars.too_many_lines;
    two_turns = Grammars.two_turns;
    turn_of_zero_steps = Grammars.turn_of_zero_steps;
    turn_with_space_after = Grammars.turn_with_space_after;
    process_too_great = Grammars.process_too_great;
    manifest_of_no_lines = Grammars.manifest_of_no_lines;
    sizes_of_any_length = Grammars.sizes_of_any_length;
    sizes_with_zero_in_front = Grammars.sizes_with_zero_in_front;
    form_before_sizes = Grammars.form_before_sizes;
    second_sizes = Grammars.second_sizes;
    path_of_root = Grammars.path_of_root;
    path_with_dots = Grammars.path_with_dots;
    empty_link = Grammars.empty_link;
    lines_that_are_missing = Grammars.lines_that_are_missing;
    last_line_gets_its_end = Grammars.last_line_gets_its_end;
    manifest_with_schedule = Grammars.manifest_with_schedule;
    bundle_without_schedule = Grammars.bundle_without_schedule;
    bundle_of_schedule_alone = Grammars.bundle_of_schedule_alone;
    schedule_inside_of_entry = Grammars.schedule_inside_of_entry;
    parent_that_is_missing = Grammars.parent_that_is_missing;
    name_that_is_there = Grammars.name_that_is_there;
    source_that_is_missing = Grammars.source_that_is_missing;
  };
  images = record {
    smallest_is_mounted = Images.smallest_is_mounted;
    smallest_with_no_turn = Images.smallest_with_no_turn;
    smallest_with_one_turn = Images.smallest_with_one_turn;
    example_is_mounted = Images.example_is_mounted;
    example_uses_blocks = Images.example_uses_blocks;
    example_unused_bytes = Images.example_unused_bytes;
    example_listing = Images.example_listing;
    name_of_sixty = Images.name_of_sixty;
    name_past_slot = Images.name_past_slot;
    name_far_past_slot = Images.name_far_past_slot;
  };
  limits = record {
    full_table = Limits.full_table;
    long_path = Limits.long_path;
    many_descriptors = Limits.many_descriptors;
    many_links = Limits.many_links;
    many_processes = Limits.many_processes;
    many_open_files = Limits.many_open_files;
  };
  long_directory = record {
    by_open = LongDirectory.by_open;
    by_openat = LongDirectory.by_openat;
    by_mkdir = LongDirectory.by_mkdir;
    by_symlink = LongDirectory.by_symlink;
    by_link = LongDirectory.by_link;
    by_rename = LongDirectory.by_rename;
  };
  mounts = record {
    not_reached = Mounts.not_reached;
    block_of_another = Mounts.block_of_another;
    block_of_inodes = Mounts.block_of_inodes;
    half_a_slot = Mounts.half_a_slot;
    inode_before_block = Mounts.inode_before_block;
    slot_of_no_inode = Mounts.slot_of_no_inode;
    slot_without_name = Mounts.slot_without_name;
    content_before_place = Mounts.content_before_place;
    file_in_no_entry = Mounts.file_in_no_entry;
    last_byte_missing = Mounts.last_byte_missing;
    more_blocks_than_bytes = Mounts.more_blocks_than_bytes;
    no_inode = Mounts.no_inode;
    other_magic = Mounts.other_magic;
    half_a_block = Mounts.half_a_block;
    version_2 = Mounts.version_2;
  };
  openat = record {
    openat_paths = Openat.openat_paths;
    openat_judged = Openat.openat_judged;
    openat_removed = Openat.openat_removed;
  };
  policies = record {
    permissions_that_are_new = Policies.permissions_that_are_new;
    either_of_two = Policies.either_of_two;
    either_with_wpath = Policies.either_with_wpath;
    rpath_itself = Policies.rpath_itself;
    idle_promises = Policies.idle_promises;
    idle_permissions = Policies.idle_permissions;
    refused_permissions_are_idle = Policies.refused_permissions_are_idle;
    idle_by_words = Policies.idle_by_words;
    programs_of_execve = Policies.programs_of_execve;
    program_without_file = Policies.program_without_file;
    files_of_one_program = Policies.files_of_one_program;
    programs_without_calls = Policies.programs_without_calls;
    idle_if_complete = Policies.idle_if_complete;
    granted_calls_alone = Policies.granted_calls_alone;
    refused_programs = Policies.refused_programs;
  };
  processes = record {
    ends = Processes.ends;
    least_is_waited_for = Processes.least_is_waited_for;
    promises_outlast_parent = Processes.promises_outlast_parent;
    first_has_no_parent = Processes.first_has_no_parent;
  };
  promises = record {
    error_promise = Promises.error_promise;
    promise_texts_parse = Promises.promise_texts_parse;
    killed_and_waited = Promises.killed_and_waited;
    rename_without_promise = Promises.rename_without_promise;
    create_without_promise = Promises.create_without_promise;
  };
  questions = record {
    each_is_reported = Questions.each_is_reported;
    places_are_reached = Questions.places_are_reached;
    removed_is_reached = Questions.removed_is_reached;
    refusals_are_explained = Questions.refusals_are_explained;
    process_images_ask = Questions.process_images_ask;
    turns_are_taken = Questions.turns_are_taken;
  };
  rooms = record {
    ten_blocks = Rooms.ten_blocks;
    eleven_blocks = Rooms.eleven_blocks;
    greatest_in_version_1 = Rooms.greatest_in_version_1;
    greatest_in_version_2 = Rooms.greatest_in_version_2;
    eight_entries = Rooms.eight_entries;
    full = Rooms.full;
    room_after_move = Rooms.room_after_move;
    added = Rooms.added;
  };
  sources = record {
    words_and_comments = Sources.words_and_comments;
    hash_in_a_word = Sources.hash_in_a_word;
    text_without_its_end = Sources.text_without_its_end;
    labels_are_numbers = Sources.labels_are_numbers;
    lines_are_taken_as_they_are = Sources.lines_are_taken_as_they_are;
    nothing_that_counts = Sources.nothing_that_counts;
    sizes_come_first = Sources.sizes_come_first;
    each_line_is_judged = Sources.each_line_is_judged;
    labels_in_error = Sources.labels_in_error;
    errors_of_the_tree = Sources.errors_of_the_tree;
    sources_with_init_as_directory = Sources.sources_with_init_as_directory;
    exec_in_error = Sources.exec_in_error;
    twenty_are_reported = Sources.twenty_are_reported;
    instructions_too_many = Sources.instructions_too_many;
  };
  starts = record {
    form_comes_first = Starts.form_comes_first;
    sizes_come_before_entries = Starts.sizes_come_before_entries;
    entries_come_before_schedule = Starts.entries_come_before_schedule;
    schedule_comes_before_init = Starts.schedule_comes_before_init;
    line_of_init = Starts.line_of_init;
    bundles_with_init_as_directory = Starts.bundles_with_init_as_directory;
    init_is_not_executable = Starts.init_is_not_executable;
    init_is_too_long = Starts.init_is_too_long;
    image_comes_first = Starts.image_comes_first;
    schedule_after_image = Starts.schedule_after_image;
    image_run = Starts.image_run;
    image_run_2 = Starts.image_run_2;
    schedule_after_manifest = Starts.schedule_after_manifest;
    schedule_without_its_end = Starts.schedule_without_its_end;
    schedule_of_no_lines = Starts.schedule_of_no_lines;
  };
  texts = record {
    read_one_file = Texts.read_one_file;
    registers_and_bytes = Texts.registers_and_bytes;
  };
  unveils = record {
    not_by_prefix = Unveils.not_by_prefix;
    nearest_entry = Unveils.nearest_entry;
    increase_and_lock = Unveils.increase_and_lock;
    unveil_arguments = Unveils.unveil_arguments;
    unveiled_file = Unveils.unveiled_file;
    create_needs_permission = Unveils.create_needs_permission;
    descriptors_stay = Unveils.descriptors_stay;
    links_and_dots = Unveils.links_and_dots;
    directory_made_again = Unveils.directory_made_again;
    absent_name_holds_directory = Unveils.absent_name_holds_directory;
    file_made_again = Unveils.file_made_again;
    unlink_needs_permission = Unveils.unlink_needs_permission;
    child_has_table = Unveils.child_has_table;
  };
  walks = record {
    preserved_link = Walks.preserved_link;
    link_with_slash = Walks.link_with_slash;
    file_with_slash = Walks.file_with_slash;
    absent_with_slash = Walks.absent_with_slash;
    after_file = Walks.after_file;
    link_text_with_slash = Walks.link_text_with_slash;
    slash_dropped = Walks.slash_dropped;
    slashes_alone = Walks.slashes_alone;
    weight_at_most = Walks.weight_at_most;
    weight_above = Walks.weight_above;
  };
}

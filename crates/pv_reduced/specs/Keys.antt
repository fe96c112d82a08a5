-- The encoding of the representative of a state.
use Rattle.std.specs.Prelude.{ℕ, ℤ, ◌-◌, if◌then◌else◌, List, [], ◌∷◌, ◌++◌, length, map, flat_map, replicate, bytes_eq, Bool, true, false, ◌&&◌, Option, None, Some}
use Rattle.pv_model.specs.declared.limits.TheConstants.{OPEN_FILES}
use Rattle.pv_model.specs.Machine.{Numbers, bool_numbers, descriptor_numbers, entry_numbers, integer_numbers, list_numbers, number_numbers, option_numbers, Bytes, among, live_processes, used_files, Numbered, at_number, present, Descriptor, OpenFile, Process, ProcessRecord, State}
use Rattle.pv_laws_classes.specs.Canonical.{no_file}
use Rattle.pv_laws_classes.specs.Liveness.{cleared_record, is_live_below}
use Rattle.pv_laws_classes.specs.Reduced.{representative}
use Rattle.pv_laws_classes.specs.Renumbering.{renumbered_descriptors, renumbered_record}
use Rattle.pv_state_encoding.specs.OfProcs.declared.record.ProcessRecord.{ProcessRecord as Owned}
use Rattle.pv_state_encoding.specs.Groups.{numbered_parts, state_groups}
use Rattle.pv_state_encoding.specs.Packed.{packed_all}

-- the process that must make the next step, or 0, and the parts of the representative of a state
abbrev pub reduced_parts : ℕ → State → List Bytes
reduced_parts bound s = packed_all (bound ∷ []) ∷ flat_map (λ group. group) (state_groups (representative s))

-- whether two lists of parts are equal
abbrev pub same_parts : List Bytes → List Bytes → Bool
same_parts [] [] = true
same_parts (p ∷ ps) (q ∷ qs) = bytes_eq p q && same_parts ps qs
same_parts _ _ = false

-- the numbers in the order of their first occurrence, after those of more of a list
abbrev pub with_reference : List ℕ → ℕ → List ℕ
with_reference order n = if among order n then order else order ++ n ∷ []

abbrev pub with_references : List ℕ → List ℕ → List ℕ
with_references order [] = order
with_references order (n ∷ ns) = with_references (with_reference order n) ns

abbrev pub descriptor_files : Numbered Descriptor → List ℕ
descriptor_files ds = map (λ d. d.file) (present ds)

abbrev pub files_of_processes : List (ℕ × ProcessRecord) → List ℕ
files_of_processes rs = flat_map (λ p. used_files p.1) (live_processes rs)

-- the files that a process uses, if it is live
abbrev pub files_of_live : Option Process → List ℕ
files_of_live None = []
files_of_live (Some p) = used_files p

-- the open files in an order, in a table of 128
abbrev pub ordered_files : Numbered OpenFile → List ℕ → Numbered OpenFile
ordered_files files order = map (at_number files) order ++ replicate (OPEN_FILES - length order) no_file

-- a record with zero in dead variables, and with other numbers of open files
abbrev pub reduced_record : (ℕ → ℕ) → ProcessRecord → ProcessRecord
reduced_record f r = renumbered_record f (cleared_record is_live_below r)

-- the parts of the process with a number, if it has a record
abbrev pub parts_under : (ℕ → ℕ) → ℕ → Option ProcessRecord → List Bytes
parts_under f pid None = []
parts_under f pid (Some r) = numbered_parts pid (Some (reduced_record f r))

-- the line, the registers given, the parent and the directory of a process
abbrev pub location_under : List ℤ → Owned → ℕ → Numbers
location_under registers r parent = number_numbers r.context.line ++ list_numbers integer_numbers registers ++ number_numbers parent ++ number_numbers r.directory

-- the same, then the lock and the promises
abbrev pub promised_under : List ℤ → Owned → ℕ → Numbers
promised_under registers r parent =
    location_under registers r parent ++ bool_numbers r.unveiled.locked ++ option_numbers number_numbers r.pledge.promises ++ option_numbers number_numbers r.pledge.execpromises

-- the same, then the descriptors with other numbers of open files, and the table
abbrev pub held_under : List ℤ → (ℕ → ℕ) → Owned → ℕ → Numbers
held_under registers f r parent =
    promised_under registers r parent ++ list_numbers (option_numbers descriptor_numbers) (renumbered_descriptors f r.descriptors) ++ option_numbers (list_numbers entry_numbers) r.unveiled.table

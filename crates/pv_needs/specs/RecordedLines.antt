-- The lines of the records.
use Rattle.std.specs.Prelude.{ℕ, ◌==◌, if◌then◌else◌, List, [], ◌∷◌, ◌++◌, flat_map, codes}
use Rattle.std.specs.List.{zip}
use Rattle.std.specs.Fmt.{decimal}
use Rattle.pv_model.specs.declared.promise.Promise.{Promise}
use Rattle.pv_model.specs.Machine.{AnswerLine, answer_line, counted_from, permissions_in_places, Bytes, all_promises, promise_name}
use Rattle.pv_needs.specs.declared.process_images.RecordedTarget.{RecordedTarget}
use Rattle.pv_needs.specs.declared.process_images.Times.{Times}
use Rattle.pv_needs.specs.ProcessImages.{RecordedImage}

abbrev pub recorded_times_text : Bytes → Times → Bytes
recorded_times_text what times = codes ", " ++ what ++ codes " " ++ decimal times.count ++ codes ", last line " ++ decimal times.last

-- the lines of a promise that a call needed
abbrev pub recorded_promise_lines : ℕ → Promise → Times → List AnswerLine
recorded_promise_lines pid p times =
    if times.count == 0 then [] else answer_line pid (codes "PLDG") (promise_name p ++ recorded_times_text (codes "calls") times) ∷ []

abbrev pub recorded_promises_lines : ℕ → List Promise → List Times → List AnswerLine
recorded_promises_lines pid ps counts = flat_map (λ e. recorded_promise_lines pid e.0 e.1) (zip ps counts)

-- the lines of a target at which walks were checked
abbrev pub recorded_target_lines : ℕ → RecordedTarget → List AnswerLine
recorded_target_lines pid target =
    answer_line pid (codes "UNVL")
    (permissions_in_places target.judged.permissions ++ codes ", " ++ target.judged.words ++ recorded_times_text (codes "walks") target.times) ∷ []

-- the lines of a process image, with its number
abbrev pub recorded_image_lines : ℕ → ℕ × RecordedImage → List AnswerLine
recorded_image_lines pid (k, process_image) =
    answer_line pid (codes "STNT") (decimal k) ∷ recorded_promises_lines pid all_promises process_image.promises ++ flat_map (recorded_target_lines pid) process_image.targets

abbrev pub recorded_process_lines : ℕ → List RecordedImage → List AnswerLine
recorded_process_lines pid process_images = flat_map (recorded_image_lines pid) (counted_from 1 process_images)

-- the lines of the processes, by process number
abbrev pub recorded_lines : List (List RecordedImage) → List AnswerLine
recorded_lines processes = flat_map (λ e. recorded_process_lines e.0 e.1) (counted_from 0 processes)

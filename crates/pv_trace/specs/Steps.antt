-- The lines of a step, word by word.
use Rattle.std.specs.Prelude.{ℕ, List, [], ◌∷◌, ◌++◌, take, map}
use Rattle.pv_model.specs.declared.call.Call.{Call}
use Rattle.pv_model.specs.declared.call.Call.TheVariants.{Write}
use Rattle.pv_model.specs.declared.errno.Errno.{Errno}
use Rattle.pv_model.specs.declared.errno.Errno.TheVariants.{ENOSYS}
use Rattle.pv_model.specs.declared.outcome.Outcome.{Outcome}
use Rattle.pv_model.specs.declared.outcome.Outcome.TheVariants.{Value, Text}
use Rattle.pv_model.specs.Machine.{Bytes, Word, call_word, nami_word, gio_word, gave, Line, line, walked_paths, promise_words, unveil_words, end_words}
use Rattle.pv_model.specs.Trace.{PromiseVerdict, for_refusal, for_increase, took}

-- the word of the bytes that a call transferred, which are at the front of a buffer
abbrev pub moved_by : Bytes → Call → Outcome → List Word
moved_by front call (Text taken) = gio_word gave (take taken.len front) ∷ []
moved_by front (Write d n) (Value count) = gio_word took (take count front) ∷ []
moved_by front call _ = []

abbrev pub call_lines_of : ℕ → Call → List Line
call_lines_of pid call = line pid (call_word call) ∷ []

abbrev pub path_line : ℕ → Bytes → Line
path_line pid path = line pid (nami_word path)

abbrev pub path_lines_of : ℕ → Call → ℕ → List Line
path_lines_of pid call walks = map (path_line pid) (take walks (walked_paths call))

-- the first lines of a call that started this number of walks
abbrev pub first_lines_of : ℕ → Call → ℕ → List Line
first_lines_of pid call walks = call_lines_of pid call ++ path_lines_of pid call walks

-- the verdict of an error: the call lacks a promise, or it requests an increase of promises
abbrev pub refusal_verdict : Errno → PromiseVerdict
refusal_verdict ENOSYS = for_refusal
refusal_verdict _ = for_increase

abbrev pub promise_lines_of : ℕ → Call → Outcome → List Line
promise_lines_of pid call outcome = map (line pid) (promise_words call outcome)

abbrev pub unveil_lines_of : ℕ → Call → ℕ → Outcome → List Line
unveil_lines_of pid call walks outcome = map (line pid) (unveil_words call walks outcome)

abbrev pub moved_lines_of : ℕ → Bytes → Call → Outcome → List Line
moved_lines_of pid front call outcome = map (line pid) (moved_by front call outcome)

abbrev pub end_lines_of : ℕ → Call → Outcome → List Line
end_lines_of pid call outcome = map (line pid) (end_words call outcome)

-- the lines of a call with this outcome and number of walks; the bytes that it transferred are at the front of a buffer
unfoldable pub lines_by : ℕ → Bytes → Call → Outcome → ℕ → List Line
lines_by pid front call outcome walks =
    call_lines_of pid call ++ path_lines_of pid call walks ++ promise_lines_of pid call outcome ++ unveil_lines_of pid call walks outcome
    ++ moved_lines_of pid front call outcome ++ end_lines_of pid call outcome

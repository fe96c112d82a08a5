-- The decisions about a call that a trace reports: values of the code as words of lines.
use Rattle.std.specs.Prelude.{List, [], ◌∷◌, Option, None, Some}
use Rattle.pv_model.specs.declared.call.Call.{Call}
use Rattle.pv_model.specs.declared.promise.Promise.{Promise}
use Rattle.pv_model.specs.Machine.{Bytes, Word, pldg_word, unvl_word, gio_word}
use Rattle.pv_trace.specs.declared.line.PromiseVerdict.{PromiseVerdict}
use Rattle.pv_trace.specs.declared.line.UnveilVerdict.{UnveilVerdict}
use Rattle.pv_trace.specs.declared.line.Direction.{Direction}
use Rattle.pv_trace.specs.Words.{promise_verdict_of, unveil_verdict_of, direction_of}

-- the word of a promise that decided a call
abbrev pub promise_words_of : Call → Option (Promise × PromiseVerdict) → List Word
promise_words_of call None = []
promise_words_of call (Some (promise, verdict)) = pldg_word call promise (promise_verdict_of verdict) ∷ []

-- the word of an unveil table that decided a call
abbrev pub unveil_words_of : Option UnveilVerdict → List Word
unveil_words_of None = []
unveil_words_of (Some verdict) = unvl_word (unveil_verdict_of verdict) ∷ []

-- the word of a transfer of bytes
abbrev pub moved_words_of : Option (Direction × Bytes) → List Word
moved_words_of None = []
moved_words_of (Some (direction, bytes)) = gio_word (direction_of direction) bytes ∷ []

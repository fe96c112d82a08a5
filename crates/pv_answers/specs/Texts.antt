-- Parts of a line, and of the words for a node.
use Rattle.std.specs.Prelude.{ℕ, Bool, true, false, List, [], ◌++◌, map, filter, flat_map, codes, Option, None, Some}
use Rattle.std.specs.Fmt.{decimal}
use Rattle.pv_model.specs.declared.promise.Promise.{Promise}
use Rattle.pv_model.specs.Machine.{spaced, Bytes, listed_path, next, promise_name, Promises, contains, Process, quote, quote_byte}
use Rattle.pv_model.specs.Answers.ProcessRecord.{next_text}
use Rattle.pv_model.specs.Trace.{pad_left, pad_right}

-- the front of a line
abbrev pub line_front : ℕ → Bytes → Bytes
line_front pid word = pad_left 5 (decimal pid) ++ codes " " ++ pad_right 4 word ++ codes "  "

-- a path in escaped form, without quotation marks
abbrev pub path_bytes : Option Bytes → Bytes
path_bytes None = []
path_bytes (Some path) = flat_map quote_byte path

-- a path as a quoted text
abbrev pub path_text : Option Bytes → Bytes
path_text None = []
path_text (Some path) = quote (listed_path path)

-- a slash and a name
abbrev pub own_step : Option (ℕ × Bytes) → Bytes
own_step None = []
own_step (Some (d, name)) = codes "/" ++ name

-- the next instruction of a process, if it is live
abbrev pub next_words : Option Process → Bytes
next_words None = []
next_words (Some p) = next_text (next p)

-- the keywords of the promises in a set
abbrev pub keywords_in : Promises → List Promise → List Bytes
keywords_in set promises = map promise_name (filter (contains set) promises)

-- a keyword, with a space in front if it is not the first
abbrev pub keyword_after : Bool → Promise → Bytes
keyword_after true promise = promise_name promise
keyword_after false promise = codes " " ++ promise_name promise

-- words separated by spaces, with a space in front of the first if another word precedes it
abbrev pub words_after : Bool → List Bytes → Bytes
words_after true words = spaced words
words_after false words = flat_map (λ word. codes " " ++ word) words

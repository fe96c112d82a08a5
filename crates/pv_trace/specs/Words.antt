-- The words of the code's lines as words of the specification, and parts of their texts.
use Rattle.std.specs.Prelude.{⊤, ℕ, ◌≤◌, ◌++◌, length, codes, decimal, Option, None, Some}
use Rattle.pv_model.specs.declared.errno.Errno.{Errno}
use Rattle.pv_model.specs.declared.limits.TheConstants.{BUFFER}
use Rattle.pv_model.specs.declared.open_flags.OpenFlags.{OpenFlags}
use Rattle.pv_model.specs.declared.perms.Perms.{Perms}
use Rattle.pv_model.specs.Machine.{Bytes, call_of, errno_number, Word as TraceWord, call_word, nami_word, pldg_word, unvl_word, gio_word, ret_word, gave}
use Rattle.pv_model.specs.Errno.{errno_name}
use Rattle.pv_model.specs.Perms.{permissions_text}
use Rattle.pv_model.specs.Trace.{PromiseVerdict as TracePromise, UnveilVerdict as TraceUnveil, Direction as TraceDirection, Returned as TraceReturned, psig_word, wait_word, gone_word, for_kill, for_refusal, for_increase, no_entry, entry_lacks, table_locked, took, value_of, error_of, flags_text}
use Rattle.pv_trace.specs.declared.line.PromiseVerdict.{PromiseVerdict}
use Rattle.pv_trace.specs.declared.line.PromiseVerdict.TheVariants.{Killed, Refused, Increase}
use Rattle.pv_trace.specs.declared.line.Returned.{Returned}
use Rattle.pv_trace.specs.declared.line.Returned.TheVariants.{Value, Error}
use Rattle.pv_trace.specs.declared.line.UnveilVerdict.{UnveilVerdict}
use Rattle.pv_trace.specs.declared.line.UnveilVerdict.TheVariants.{NoEntry, EntryLacks, Locked}
use Rattle.pv_trace.specs.declared.line.Direction.{Direction}
use Rattle.pv_trace.specs.declared.line.Direction.TheVariants.{Gave, Took}
use Rattle.pv_trace.specs.declared.line.Word.{Word}
use Rattle.pv_trace.specs.declared.line.Word.TheVariants.{Call, Nami, Pldg, Unvl, Gio, Ret, Psig, Wait, Gone}

abbrev pub promise_verdict_of : PromiseVerdict → TracePromise
promise_verdict_of Killed = for_kill
promise_verdict_of Refused = for_refusal
promise_verdict_of Increase = for_increase

abbrev pub unveil_verdict_of : UnveilVerdict → TraceUnveil
unveil_verdict_of (NoEntry needed) = no_entry needed
unveil_verdict_of (EntryLacks entry needed) = entry_lacks entry needed
unveil_verdict_of Locked = table_locked

abbrev pub direction_of : Direction → TraceDirection
direction_of Gave = gave
direction_of Took = took

abbrev pub returned_of : Returned → TraceReturned
returned_of (Value n) = value_of n
returned_of (Error errno) = error_of errno

-- the word of the specification
abbrev pub trace_word_of : Word → TraceWord
trace_word_of (Call call) = call_word (call_of call)
trace_word_of (Nami path) = nami_word path.now
trace_word_of (Pldg call promise verdict) = pldg_word (call_of call) promise (promise_verdict_of verdict)
trace_word_of (Unvl verdict) = unvl_word (unveil_verdict_of verdict)
trace_word_of (Gio direction bytes) = gio_word (direction_of direction) bytes.now
trace_word_of (Ret call returned) = ret_word (call_of call) (returned_of returned)
trace_word_of Psig = psig_word
trace_word_of Wait = wait_word
trace_word_of Gone = gone_word

-- the number of bytes of a transfer is at most the size of a buffer
abbrev pub HasFewBytes : Word → Type 0
HasFewBytes (Gio direction bytes) = length bytes.now ≤ BUFFER
HasFewBytes word = ⊤

-- the flags of open, as a program writes them
unfoldable pub flags_bytes : OpenFlags → Bytes
flags_bytes f = flags_text f

-- permissions in the order rwxc
unfoldable pub permissions_bytes : Perms → Bytes
permissions_bytes permissions = permissions_text permissions

-- the permissions that an entry lacks, or that no entry grants
abbrev pub needed_text : Option ℕ → Perms → Bytes
needed_text None permissions = codes "none, needs " ++ permissions_bytes permissions
needed_text (Some k) permissions = codes "entry " ++ decimal k ++ codes ", needs " ++ permissions_bytes permissions

-- an error with its number and its name
unfoldable pub errno_text : Errno → Bytes
errno_text errno = codes "-1 errno " ++ decimal (errno_number errno) ++ codes " " ++ errno_name errno

-- The effect of lending the buffer of a context for writing.
use Rattle.std.specs.Prelude.{◌++◌, length, take, drop}
use Rattle.std.specs.Borrow.{Array, Lends, MutBor, Fml, u8}
use Rattle.pv_model.specs.Machine.{Bytes}
use Rattle.pv_script.specs.contracts.buffer.Buffer.{the_row as buffer_row}
use Rattle.pv_script.specs.contracts.context.Context.{the_row}
use Rattle.pv_script.specs.Context.{Context}

-- a buffer with its front overwritten and its length kept
abbrev pub buffer_with_front : Bytes → Bytes → Bytes
buffer_with_front buffer bytes = take (length buffer) (bytes ++ drop (length bytes) buffer)

-- a context with the front of its buffer overwritten
abbrev pub with_buffer : Context → Bytes → Context
with_buffer m bytes = record m { buffer = buffer_with_front m.buffer bytes }

-- the final value of the buffer has the final bytes of the borrow r
abbrev pub LendsBytes : MutBor Bytes → MutBor Bytes → Fml
LendsBytes b r = Lends buffer_row (Array u8 0) b r (buffer_with_front b.now)

-- the final value of the context has the final bytes of the borrow r in its buffer
abbrev pub LendsBuffer : MutBor Context → MutBor Bytes → Fml
LendsBuffer m r = Lends the_row (Array u8 0) m r (with_buffer m.now)

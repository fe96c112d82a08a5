use Rattle.std.proofs.Common.{sym}
use Rattle.pv_model.specs.Machine.{process_at}
use Rattle.pv_answers.proofs.InstructionWords.{gone-words, register-words}
use Rattle.pv_streams.proofs.WriterContracts.{writes_as, writes_none}
use Rattle.pv_answers.proofs.calls.write_next.Goals as goal

pub returns-in-Gone : goal.returns-in-Gone
returns-in-Gone g c = writes_as (sym (gone-words (process_at c.args.parts.now c.args.pid) (rw c.processes.ensures at c.in-Gone.ensures))) writes_none

pub returns-in-Register : goal.returns-in-Register
returns-in-Register g c = writes_as (sym (register-words (process_at c.args.parts.now c.args.pid) (rw c.processes.ensures at c.in-Register.ensures))) c.write_whole.ensures

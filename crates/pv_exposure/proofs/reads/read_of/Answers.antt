use Rattle.std.proofs.Common.{◌≡◌, ◌∙◌, ap, refl, subst, sym}
use Rattle.pv_model.specs.Machine.{call_of}
use Rattle.pv_procs.specs.ProcessTable.{ProcessTable, process_in}
use Rattle.pv_procs.specs.Turns.{CallsNext, NoCallNext}
use Rattle.pv_reduced.specs.OfSession.Running.{stepped}
use Rattle.pv_exposure.proofs.FilesOfReads.{none-read, read-called, read-none}
use Rattle.pv_exposure.proofs.reads.read_of.Goals as goal

pub returns-in-None : goal.returns-in-None
returns-in-None c =
    let s = c.args.parts.now in
    let pid = c.args.pid in
    let none = subst (λ (ps : ProcessTable). NoCallNext (process_in ps pid)) c.processes.ensures c.in-None.ensures in
    record { unchanged = refl; read = sym (read-none s pid (stepped s pid) none) }

pub returns-else-may_read : goal.returns-else-may_read
returns-else-may_read c =
    let s = c.args.parts.now in
    let pid = c.args.pid in
    let call = call_of c.in-Some.call in
    let comes = subst (λ (ps : ProcessTable). CallsNext c.in-Some.call (process_in ps pid)) c.processes.ensures c.in-Some.ensures in
    record {
      unchanged = refl;
      read =
          sym (read-called s pid (stepped s pid) comes.0 call comes.1 comes.2
          ∙ none-read s comes.0 call (stepped s pid).outcome (sym c.may_read.ensures ∙ c.if-may_read.false));
    }

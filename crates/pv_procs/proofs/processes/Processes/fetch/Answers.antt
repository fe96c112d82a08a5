use Rattle.std.proofs.Common.{◌∙◌, ap, option_copied}
use Rattle.pv_procs.proofs.ContextSteps.{fetched-call, fetched-register, gone-by, lives-by}
use Rattle.pv_procs.specs.ProcessTable.{process_in}
use Rattle.pv_procs.proofs.processes.Processes.fetch.Goals as goal

pub returns-in-None : goal.returns-in-None
returns-in-None c = gone-by (process_in c.args.self.now c.args.pid) (c.live_record.ensures ∙ ap option_copied c.in-None.is)

pub program-requires : goal.program-requires
program-requires c = lives-by (process_in c.args.self.now c.args.pid) c.in-Some.«record».now (c.live_record.ensures ∙ ap option_copied c.in-Some.is)

pub returns-in-Some-fetch : goal.returns-in-Some-fetch
returns-in-Some-fetch c =
    fetched-call c.in-Some.«record».now c.program.result.now (process_in c.args.self.now c.args.pid) (c.live_record.ensures ∙ ap option_copied c.in-Some.is) c.program.ensures c.in-Some-fetch.call c.in-Some-fetch.ensures

pub returns-in-None-fetch : goal.returns-in-None-fetch
returns-in-None-fetch c =
    fetched-register c.in-Some.«record».now c.program.result.now (process_in c.args.self.now c.args.pid) (c.live_record.ensures ∙ ap option_copied c.in-Some.is) c.program.ensures c.in-None-fetch.ensures

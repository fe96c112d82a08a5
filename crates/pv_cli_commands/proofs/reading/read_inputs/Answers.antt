use Rattle.std.proofs.Common.{Ok, Err, refl}
use Rattle.pv_cli_commands.specs.Streams.{disk_of}
use Rattle.pv_cli_commands.proofs.InputsRead.{failed, reads_both, reads_none}
use Rattle.pv_cli_commands.proofs.reading.read_inputs.Goals as goal

pub returns-in_err-first : goal.returns-in_err-first
returns-in_err-first g c =
    let disk = disk_of g.F.Files g.F.Reader.Source g.F.Writer.Sink in
    let failure = c.in_err-first.field-0.0 in
    reads_none disk g.I.Source g.E.Sink c.args.command c.args.system.now c.read_named.new.system c.read_named.new.system c.first_named.result failure c.from_residual.result
    c.first_named.ensures c.in_err-first.ensures (failed failure c.from_residual.result c.from_residual.ensures.1)

pub returns-in_err-second : goal.returns-in_err-second
returns-in_err-second g c =
    let disk = disk_of g.F.Files g.F.Reader.Source g.F.Writer.Sink in
    let failure = c.in_err-second.field-0.0 in
    reads_both disk g.I.Source g.E.Sink c.args.command c.args.system.now c.read_named.new.system c.read_named-2.new.system c.first_named.result c.second_named.result
    c.in_ok-first.first (Err failure) c.from_residual-in_err-second.result c.first_named.ensures c.second_named.ensures c.in_ok-first.ensures c.in_err-second.ensures
    (failed failure c.from_residual-in_err-second.result c.from_residual-in_err-second.ensures.1)

pub returns : goal.returns
returns g c =
    let disk = disk_of g.F.Files g.F.Reader.Source g.F.Writer.Sink in
    reads_both disk g.I.Source g.E.Sink c.args.command c.args.system.now c.read_named.new.system c.read_named-2.new.system c.first_named.result c.second_named.result
    c.in_ok-first.first (Ok c.in_ok-second.second) _ c.first_named.ensures c.second_named.ensures c.in_ok-first.ensures c.in_ok-second.ensures refl

use Rattle.std.proofs.Common.{◌≡◌, ◌∙◌, ap, refl, subst, Ok, Err}
use Rattle.pv_cli_commands.specs.Created.{CreatesOnly, directory_made, file_written}
use Rattle.pv_cli_commands.specs.Streams.{disk_of}
use Rattle.pv_cli_commands.proofs.CommandStatus.{buffers_nothing, creates_nothing, passed_on}
use Rattle.pv_cli_commands.proofs.UnreadParts.{inputs-files, inputs-output, inputs-unread, inputs-unreported}
use Rattle.pv_cli_commands.proofs.performing.perform.Goals as goal

-- ---- the inputs were read

pub returns-clause-does : goal.returns-clause-does
returns-clause-does g c = (Ok c.in_ok-inputs.inputs, c.read_inputs.new.system, c.in_ok-inputs.ensures, c.perform_on.ensures.writes)

pub returns-clause-flushed : goal.returns-clause-flushed
returns-clause-flushed g c =
    let disk = disk_of g.F.Files g.F.Reader.Source g.F.Writer.Sink in
    let output = inputs-output disk g.I.Source g.E.Sink c.args.command c.args.system.now c.read_inputs.new.system c.read_inputs.result c.read_inputs.ensures in
    λ empty. c.perform_on.ensures.flushed (ap (λ out. g.O.Sink.buffered out) output ∙ empty)

pub returns-clause-created : goal.returns-clause-created
returns-clause-created g c =
    let disk = disk_of g.F.Files g.F.Reader.Source g.F.Writer.Sink in
    let files = inputs-files disk g.I.Source g.E.Sink c.args.command c.args.system.now c.read_inputs.new.system c.read_inputs.result c.read_inputs.ensures in
    subst (λ before. CreatesOnly (file_written c.args.command) (g.F.Files.created before) (g.F.Files.created c.perform_on.new.system.files)) files
    c.perform_on.ensures.created

pub returns-clause-targets : goal.returns-clause-targets
returns-clause-targets g c =
    let disk = disk_of g.F.Files g.F.Reader.Source g.F.Writer.Sink in
    let files = inputs-files disk g.I.Source g.E.Sink c.args.command c.args.system.now c.read_inputs.new.system c.read_inputs.result c.read_inputs.ensures in
    subst (λ before. CreatesOnly (directory_made c.args.command) (g.F.Files.targets before) (g.F.Files.targets c.perform_on.new.system.files)) files
    c.perform_on.ensures.targets

pub returns-clause-known : goal.returns-clause-known
returns-clause-known g c =
    let disk = disk_of g.F.Files g.F.Reader.Source g.F.Writer.Sink in
    let files = inputs-files disk g.I.Source g.E.Sink c.args.command c.args.system.now c.read_inputs.new.system c.read_inputs.result c.read_inputs.ensures in
    (c.perform_on.ensures.known.0 ∙ ap (λ before. g.F.Files.bytes before) files, c.perform_on.ensures.known.1 ∙ ap (λ before. g.F.Files.entries before) files)

pub returns-clause-unread : goal.returns-clause-unread
returns-clause-unread g c =
    let disk = disk_of g.F.Files g.F.Reader.Source g.F.Writer.Sink in
    λ files. c.perform_on.ensures.unread
    ∙ inputs-unread disk g.I.Source g.E.Sink c.args.command c.args.system.now c.read_inputs.new.system c.read_inputs.result c.read_inputs.ensures files

pub returns-clause-silent : goal.returns-clause-silent
returns-clause-silent g c =
    let disk = disk_of g.F.Files g.F.Reader.Source g.F.Writer.Sink in
    λ writes. c.perform_on.ensures.silent writes
    ∙ inputs-output disk g.I.Source g.E.Sink c.args.command c.args.system.now c.read_inputs.new.system c.read_inputs.result c.read_inputs.ensures

pub returns-clause-unreported : goal.returns-clause-unreported
returns-clause-unreported g c =
    let disk = disk_of g.F.Files g.F.Reader.Source g.F.Writer.Sink in
    λ keeps. c.perform_on.ensures.unreported keeps
    ∙ inputs-unreported disk g.I.Source g.E.Sink c.args.command c.args.system.now c.read_inputs.new.system c.read_inputs.result keeps c.read_inputs.ensures

-- ---- the inputs were not read

pub returns-in_err-inputs-clause-does : goal.returns-in_err-inputs-clause-does
returns-in_err-inputs-clause-does g c = (
  Err c.in_err-inputs.field-0.0,
  c.read_inputs.new.system,
  c.in_err-inputs.ensures,
  (passed_on c.in_err-inputs.field-0.0 c.from_residual.result c.from_residual.ensures.1, refl),
)

pub returns-in_err-inputs-clause-flushed : goal.returns-in_err-inputs-clause-flushed
returns-in_err-inputs-clause-flushed g c =
    let disk = disk_of g.F.Files g.F.Reader.Source g.F.Writer.Sink in
    let output = inputs-output disk g.I.Source g.E.Sink c.args.command c.args.system.now c.read_inputs.new.system c.read_inputs.result c.read_inputs.ensures in
    λ empty. buffers_nothing c.from_residual.result (g.O.Sink.buffered c.read_inputs.new.system.output) (ap (λ out. g.O.Sink.buffered out) output ∙ empty)

pub returns-in_err-inputs-clause-created : goal.returns-in_err-inputs-clause-created
returns-in_err-inputs-clause-created g c =
    let disk = disk_of g.F.Files g.F.Reader.Source g.F.Writer.Sink in
    let files = inputs-files disk g.I.Source g.E.Sink c.args.command c.args.system.now c.read_inputs.new.system c.read_inputs.result c.read_inputs.ensures in
    creates_nothing (file_written c.args.command) (g.F.Files.created c.args.system.now.files) (g.F.Files.created c.read_inputs.new.system.files)
    (ap (λ it. g.F.Files.created it) files)

pub returns-in_err-inputs-clause-targets : goal.returns-in_err-inputs-clause-targets
returns-in_err-inputs-clause-targets g c =
    let disk = disk_of g.F.Files g.F.Reader.Source g.F.Writer.Sink in
    let files = inputs-files disk g.I.Source g.E.Sink c.args.command c.args.system.now c.read_inputs.new.system c.read_inputs.result c.read_inputs.ensures in
    creates_nothing (directory_made c.args.command) (g.F.Files.targets c.args.system.now.files) (g.F.Files.targets c.read_inputs.new.system.files)
    (ap (λ it. g.F.Files.targets it) files)

pub returns-in_err-inputs-clause-known : goal.returns-in_err-inputs-clause-known
returns-in_err-inputs-clause-known g c =
    let disk = disk_of g.F.Files g.F.Reader.Source g.F.Writer.Sink in
    let files = inputs-files disk g.I.Source g.E.Sink c.args.command c.args.system.now c.read_inputs.new.system c.read_inputs.result c.read_inputs.ensures in
    (ap (λ it. g.F.Files.bytes it) files, ap (λ it. g.F.Files.entries it) files)

pub returns-in_err-inputs-clause-unread : goal.returns-in_err-inputs-clause-unread
returns-in_err-inputs-clause-unread g c =
    let disk = disk_of g.F.Files g.F.Reader.Source g.F.Writer.Sink in
    inputs-unread disk g.I.Source g.E.Sink c.args.command c.args.system.now c.read_inputs.new.system c.read_inputs.result c.read_inputs.ensures

pub returns-in_err-inputs-clause-silent : goal.returns-in_err-inputs-clause-silent
returns-in_err-inputs-clause-silent g c =
    let disk = disk_of g.F.Files g.F.Reader.Source g.F.Writer.Sink in
    λ writes. inputs-output disk g.I.Source g.E.Sink c.args.command c.args.system.now c.read_inputs.new.system c.read_inputs.result c.read_inputs.ensures

pub returns-in_err-inputs-clause-unreported : goal.returns-in_err-inputs-clause-unreported
returns-in_err-inputs-clause-unreported g c =
    let disk = disk_of g.F.Files g.F.Reader.Source g.F.Writer.Sink in
    λ keeps. inputs-unreported disk g.I.Source g.E.Sink c.args.command c.args.system.now c.read_inputs.new.system c.read_inputs.result keeps c.read_inputs.ensures

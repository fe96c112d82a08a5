use Rattle.std.proofs.Common.{◌∙◌, Ok, Err, Bool, ap, subst, rules}
use Rattle.std.specs.Prelude.{◌&&◌}
use Rattle.pv_cli_commands.specs.Streams.{host_of}
use Rattle.pv_cli_line.specs.declared.fault.Fault.TheVariants.{Command as OfCommand, Line as OfLine}
use Rattle.pv_cli_line.specs.Program.{ReportsAll, is_explained}
use Rattle.pv_cli_line.proofs.ReportedErrors.{flushed_by_status, performed_first}
use Rattle.pv_cli_line.proofs.Requests.{request_shown}
use Rattle.pv_cli_line.proofs.program.run.Goals as goal

pub returns-in-Err-clause-ends : goal.returns-in-Err-clause-ends
returns-in-Err-clause-ends g c = (Err (OfLine c.in-Err.fault), (c.in-Err.ensures.refused, c.report_words.ensures.reports))

pub returns-in-Err-clause-request : goal.returns-in-Err-clause-request
returns-in-Err-clause-request g c request = request_shown _ _ _ _ _ _ _ _ _ (returns-in-Err-clause-ends g c) request

pub returns-in-Ok-perform-clause-ends : goal.returns-in-Ok-perform-clause-ends
returns-in-Ok-perform-clause-ends g c =
    let done = c.in-Ok-perform.ensures in (
      Ok c.in-Ok-perform.field-0,
      (
        c.perform.new.system,
        c.perform.new.notes.items,
        c.report_notes.ensures.status,
        record {
          command = c.in-Ok.line.command;
          asked = c.in-Ok.ensures.asked;
          does =
              performed_first _ (host_of g.F.Files.entries g.F.Files.targets g.F.Directories.target_of g.F.Target.HostTarget.made) _ _ _ _ _ _ _ _ _
              c.new-notes.ensures.items done.does;
          flushed = done.flushed;
          unread = done.unread;
          silent = done.silent;
          unreported = done.unreported;
          created = done.created;
          targets = done.targets;
        },
        search rules,
      ),
    )

pub returns-in-Ok-perform-clause-request : goal.returns-in-Ok-perform-clause-request
returns-in-Ok-perform-clause-request g c request = request_shown _ _ _ _ _ _ _ _ _ (returns-in-Ok-perform-clause-ends g c) request

pub returns-clause-ends : goal.returns-clause-ends
returns-clause-ends g c =
    let fault = c.in-Err-perform.failure in
    let ended = c.in-Err-perform.ensures in (
      Err (OfCommand fault),
      (
        c.perform.new.system,
        c.perform.new.notes.items,
        record {
          command = c.in-Ok.line.command;
          asked = c.in-Ok.ensures.asked;
          does =
              performed_first _ (host_of g.F.Files.entries g.F.Files.targets g.F.Directories.target_of g.F.Target.HostTarget.made) _ _ _ _ _ _ _ _ _
              c.new-notes.ensures.items ended.does;
          flushed = ended.flushed;
          unread = ended.unread;
          silent = ended.silent;
          unreported = ended.unreported;
          created = ended.created;
          targets = ended.targets;
        },
        subst
            (λ (v : Bool). ReportsAll g.O.Sink g.E.Sink (OfCommand fault) (v && is_explained fault) c.perform.new.system c.report_all.new.system c.report_all.result)
            c.in-Ok.ensures.verbose c.report_all.ensures.reports,
      ),
    )

pub returns-clause-request : goal.returns-clause-request
returns-clause-request g c request = request_shown _ _ _ _ _ _ _ _ _ (returns-clause-ends g c) request

pub returns-clause-flushed : goal.returns-clause-flushed
returns-clause-flushed g c empty other =
    let ended = c.in-Err-perform.ensures in
    ap g.O.Sink.buffered c.report_all.ensures.output
    ∙ flushed_by_status c.in-Err-perform.failure _ (ended.flushed empty) (λ four. other (c.report_all.ensures.reports.reports.status_is ended.failed ∙ four))

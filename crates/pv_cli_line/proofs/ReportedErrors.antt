-- Errors that were reported, by the case of `report`.
use Rattle.std.proofs.Common.{◌≡◌, ◌≢◌, ◌∙◌, [], sym, refl, subst, ℕ, Bool, true, false}
use Rattle.std.specs.Prelude.{Result, Ok, Err}
use Rattle.pv_model.specs.declared.stream.Failed.{Failed}
use Rattle.pv_model.specs.declared.stream.Sink.{Ghosts as Writing}
use Rattle.pv_model.specs.declared.stream.Source.{Ghosts as Reading}
use Rattle.pv_cli_commands.specs.Commands.{Performs}
use Rattle.pv_cli_commands.specs.Streams.{Disk, Host}
use Rattle.pv_cli_commands.specs.declared.command.Command.{Command}
use Rattle.pv_cli_commands.specs.declared.system.HostSystem.{HostSystem}
use Rattle.pv_cli_commands.specs.OfQuestions.Answered.{BuffersNothing}
use Rattle.pv_cli_commands.specs.OfQuestions.Failures.{failure_status}
use Rattle.pv_cli_commands.specs.OfQuestions.declared.failure.Failure.{Failure}
use Rattle.pv_cli_commands.specs.OfQuestions.declared.failure.Failure.TheVariants.{Write}
use Rattle.pv_cli_line.specs.declared.fault.Fault.{Fault}
use Rattle.pv_model.specs.Machine.{Bytes}
use Rattle.pv_streams.specs.Sinks.{Writes}
use Rattle.pv_streams.proofs.OutputTexts.{written_none}
use Rattle.pv_cli_line.specs.Messages.{WritesMessage, WritesMore}
use Rattle.pv_cli_line.specs.Program.{ReportsError, ReportsAll, WritesError, WritesErrorsAlone, WritesNotes, WritesOutputAlone, is_reported}
use Rattle.pv_cli_line.specs.Status.{exit_status_of}
use Rattle.pv_cli_line.proofs.MessageParts.{more_nothing}

module _ {F I O E : Type 0} (writing : Writing O) (reporting : Writing E) (fault : Fault) (before after : HostSystem F I O E) (status : ℕ) where
  pub reports_error : (r : Result (Unit {0}) Failed) → is_reported fault ≡ false → status ≡ exit_status_of fault → status ≢ 0
      → WritesErrorsAlone before after → WritesMessage reporting before.errors after.errors r → ReportsError writing reporting fault before after status
  reports_error r unsaid is other alone message = record {
    status_is = λ some. is;
    reported = λ said. let bad : true ≡ false = sym said ∙ unsaid in cc bad;
    error = λ unreported some. record { alone = alone; written = r; message = message };
    shows = λ unreported zero. absurd (other (is ∙ zero));
  }

  pub reports_shown : (r : Result (Unit {0}) Failed) → is_reported fault ≡ false → exit_status_of fault ≡ 0 → status ≡ 0
      → WritesOutputAlone before after → WritesMessage writing before.output after.output r → r ≡ Ok tt
      → ReportsError writing reporting fault before after status
  reports_shown (Ok done) unsaid zero is alone message ok = record {
    status_is = λ some. absurd (some zero);
    reported = λ said. let bad : true ≡ false = sym said ∙ unsaid in cc bad;
    error = λ unreported some. absurd (some zero);
    shows = λ unreported none. record {
      written = Ok done;
      shown = after;
      alone = alone;
      message = message;
      whole = λ ok. (is, refl);
      cut = λ err. let bad : false ≡ true = err in cc bad;
    };
  }
  reports_shown (Err e) unsaid zero is alone message ok = cc ok

  pub reports_cut : (middle : HostSystem F I O E) (e : Failed) → is_reported fault ≡ false → exit_status_of fault ≡ 0 → status ≡ 4
      → WritesOutputAlone before middle → WritesMessage writing before.output middle.output (Err e) → WritesError reporting middle after
      → ReportsError writing reporting fault before after status
  reports_cut middle e unsaid zero is alone message error = record {
    status_is = λ some. absurd (some zero);
    reported = λ said. let bad : true ≡ false = sym said ∙ unsaid in cc bad;
    error = λ unreported some. absurd (some zero);
    shows = λ unreported none. record {
      written = Err e;
      shown = middle;
      alone = alone;
      message = message;
      whole = λ ok. let bad : false ≡ true = ok in cc bad;
      cut = λ err. (is, error);
    };
  }

-- an error was reported, and more lines may be written
module _ {F I O E : Type 0} (writing : Writing O) (reporting : Writing E) (fault : Fault) (requested : Bool) (before after : HostSystem F I O E) (status : ℕ) where
  pub reported_alone : ReportsError writing reporting fault before after status → ReportsAll writing reporting fault requested before after status
  reported_alone reports = record {
    middle = after;
    reports = reports;
    explains = record { alone = refl; lines = more_nothing reporting after.errors; unrequested = λ unsaid. refl };
  }

  pub reported_more : (middle : HostSystem F I O E) → ReportsError writing reporting fault before middle status → WritesErrorsAlone middle after
      → WritesMore reporting middle.errors after.errors → requested ≡ true → ReportsAll writing reporting fault requested before after status
  reported_more middle reports alone lines said = record {
    middle = middle;
    reports = reports;
    explains = record { alone = alone; lines = lines; unrequested = λ unsaid. let bad : true ≡ false = sym said ∙ unsaid in cc bad };
  }

-- the notes on an answer
module _ {F I O E : Type 0} (reporting : Writing E) (requested : Bool) (notes : Bytes) (before after : HostSystem F I O E) where
  pub notes_unrequested : requested ≡ false → WritesNotes reporting requested notes before before
  notes_unrequested unsaid = record {
    alone = refl;
    written = Ok tt;
    text = λ said. let bad : true ≡ false = sym said ∙ unsaid in cc bad;
    unrequested = λ no. refl;
    silent = λ none. refl;
  }

  pub notes_absent : notes ≡ [] → WritesNotes reporting requested notes before before
  notes_absent none = record {
    alone = refl;
    written = Ok tt;
    text = λ said.
        subst (λ (bs : Bytes). Writes {T = Unit {0}} {E = Failed} reporting bs before.errors before.errors (Ok tt)) (sym none)
        (record { whole = written_none (reporting.written before.errors); prefix = tt; failed = tt; quiet = refl });
    unrequested = λ no. refl;
    silent = λ empty. refl;
  }

  pub notes_written : (r : Result (Unit {0}) Failed) → requested ≡ true → notes ≢ [] → WritesErrorsAlone before after → Writes reporting notes before.errors after.errors r
      → WritesNotes reporting requested notes before after
  notes_written r said some alone writes = record {
    alone = alone;
    written = r;
    text = λ yes. writes;
    unrequested = λ unsaid. let bad : true ≡ false = sym said ∙ unsaid in cc bad;
    silent = λ none. absurd (some none);
  }

-- a failure with another status than that of a write leaves nothing buffered
pub flushed_by_status : (failure : Failure) (waiting : ℕ) → BuffersNothing {T = Unit {0}} (Err failure) waiting → failure_status failure ≢ 4 → waiting ≡ 0
flushed_by_status (Write target) waiting flushed other = absurd (other refl)
flushed_by_status failure waiting flushed other = flushed

-- a command was carried out, and there were no notes before
pub performed_first : {F R V T I O E : Type 0} (disk : Disk F R V) (host : Host F T) (reading : Reading I) (writing : Writing O) (reporting : Writing E) (command : Command)
    (before after : HostSystem F I O E) (old new : Bytes) (result : Result (Unit {0}) Failure) → old ≡ []
    → Performs disk host reading writing reporting command before after old new result → Performs disk host reading writing reporting command before after [] new result
performed_first disk host reading writing reporting command before after old new result none performs =
    subst (λ (was : Bytes). Performs disk host reading writing reporting command before after was new result) none performs

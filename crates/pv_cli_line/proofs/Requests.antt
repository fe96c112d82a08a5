-- Requests for help and the version.
use Rattle.std.proofs.Common.{◌≡◌, ◌∙◌, ◌⊎◌, ap, inl, inr, refl, subst, sym, ℕ, false, List, [], ◌∷◌, Option, None, codes}
use Rattle.std.specs.Prelude.{Result, Ok, Err}
use Rattle.clap.specs.Words.{IsAmong, Kinds, Row, Text, fault_of, kind_of, subcommand_of}
use Rattle.clap.specs.declared.error.kind.ErrorKind.{ErrorKind}
use Rattle.clap.specs.declared.error.kind.ErrorKind.TheVariants.{DisplayHelp, DisplayVersion}
use Rattle.clap.proofs.OnLiterals.{clap_on_literals}
use Rattle.pv_model.specs.declared.stream.Sink.{Ghosts as Writing}
use Rattle.pv_model.specs.declared.stream.Source.{Ghosts as Reading}
use Rattle.pv_cli_commands.specs.declared.command.Command.{Command}
use Rattle.pv_cli_commands.specs.declared.system.HostSystem.{HostSystem}
use Rattle.pv_cli_commands.specs.Streams.{Disk, Host}
use Rattle.pv_cli_line.specs.declared.command.LineFault.{LineFault}
use Rattle.pv_cli_line.specs.declared.command.LineFault.TheVariants as line
use Rattle.pv_cli_line.specs.declared.fault.Fault.{Fault}
use Rattle.pv_cli_line.specs.declared.fault.Fault.TheVariants.{Command as OfCommand, Line, Words}
use Rattle.pv_cli_line.specs.Line.{HasManyFiles, IsCommandIn, IsIncomplete, IsRejected, LacksNumber, RefusesLine, RefusesWords}
use Rattle.pv_cli_line.specs.Parser.{pvsim_app}
use Rattle.pv_cli_line.specs.Program.{ComesTo, EndsRequest, EndsWith, IsRequest, is_number_error}
use Rattle.pv_cli_line.specs.Status.{kind_status, line_status}

-- the only fault of the words is a request for help or the version, and they enter no command
record Requests (words : List Text) : Type 0 where
  kind : ErrorKind
  is_shown : kind_status kind ≡ 0
  faults : fault_of pvsim_app words ≡ kind ∷ []
  enters : subcommand_of pvsim_app words ≡ None

module _ (program : Text) where
  pub help_faults : fault_of pvsim_app (program ∷ codes "--help" ∷ []) ≡ DisplayHelp ∷ []
  unfolding clap_on_literals
  help_faults = refl

  pub short_help_faults : fault_of pvsim_app (program ∷ codes "-h" ∷ []) ≡ DisplayHelp ∷ []
  unfolding clap_on_literals
  short_help_faults = refl

  pub version_faults : fault_of pvsim_app (program ∷ codes "--version" ∷ []) ≡ DisplayVersion ∷ []
  unfolding clap_on_literals
  version_faults = refl

  pub short_version_faults : fault_of pvsim_app (program ∷ codes "-V" ∷ []) ≡ DisplayVersion ∷ []
  unfolding clap_on_literals
  short_version_faults = refl

  help_enters : subcommand_of pvsim_app (program ∷ codes "--help" ∷ []) ≡ None
  unfolding clap_on_literals
  help_enters = refl

  short_help_enters : subcommand_of pvsim_app (program ∷ codes "-h" ∷ []) ≡ None
  unfolding clap_on_literals
  short_help_enters = refl

  version_enters : subcommand_of pvsim_app (program ∷ codes "--version" ∷ []) ≡ None
  unfolding clap_on_literals
  version_enters = refl

  short_version_enters : subcommand_of pvsim_app (program ∷ codes "-V" ∷ []) ≡ None
  unfolding clap_on_literals
  short_version_enters = refl

  requests : (word : Text) → IsRequest (program ∷ word ∷ []) → Requests (program ∷ word ∷ [])
  requests word (inl is) = rw is (record { kind = DisplayHelp; is_shown = refl; faults = help_faults; enters = help_enters })
  requests word (inr (inl is)) = rw is (record { kind = DisplayHelp; is_shown = refl; faults = short_help_faults; enters = short_help_enters })
  requests word (inr (inr (inl is))) = rw is (record { kind = DisplayVersion; is_shown = refl; faults = version_faults; enters = version_enters })
  requests word (inr (inr (inr is))) = rw is (record { kind = DisplayVersion; is_shown = refl; faults = short_version_faults; enters = short_version_enters })

module _ (words : List Text) (request : Requests words) where
  -- the words have no command
  no_command : (command : Command) → IsCommandIn (subcommand_of pvsim_app words) command → ⊥
  no_command command is = subst (λ (e : Option (Text × List Row)). IsCommandIn e command) request.enters is

  -- an error of the kind of the only fault is a request
  shown_by : (kind : ErrorKind) → IsAmong kind (fault_of pvsim_app words) → kind_status kind ≡ 0
  shown_by kind among = by (subst (λ (kinds : Kinds). IsAmong kind kinds) request.faults among)
    where
      by : IsAmong kind (request.kind ∷ []) → kind_status kind ≡ 0
      by (inl is) = ap kind_status is ∙ request.is_shown
      by (inr none) = absurd none

  -- the words are refused by that request, or there is no memory
  refused : (fault : LineFault) → RefusesWords words fault → (fault ≡ line.Memory) ⊎ ((is_number_error fault ≡ false) × (line_status fault ≡ 0))
  refused line.Memory refuses = inl refl
  refused line.Number refuses = absurd (subst LacksNumber request.enters refuses)
  refused (line.Parser error) (inl is) = inr (refl, by is.why)
    where
      by : IsRejected words error ⊎ IsIncomplete words error → kind_status (kind_of error) ≡ 0
      by (inl rejected) = shown_by (kind_of error) rejected.1
      by (inr incomplete) = let none = sym request.faults ∙ incomplete.0 in cc none
  refused (line.Parser error) (inr (inl turns)) = absurd (no_command turns.command turns.is_command)
  refused (line.Parser error) (inr (inr (inl files))) = absurd (no_command files.command files.is_command)
  refused (line.Parser error) (inr (inr (inr many))) = absurd (subst HasManyFiles request.enters many.are_many)

-- a refusal of a line with a word is one of its words
of_words : (program word : Text) (fault : LineFault) → RefusesLine (program ∷ word ∷ []) fault → RefusesWords (program ∷ word ∷ []) fault
of_words program word line.Memory refuses = tt
of_words program word line.Number refuses = refuses.1
of_words program word (line.Parser error) refuses = refuses.1

module _ {F R V T I O E : Type 0} (disk : Disk F R V) (host : Host F T) (reading : Reading I) (writing : Writing O) (reporting : Writing E)
    (before after : HostSystem F I O E) (status : ℕ) where
  shown : (program word : Text) → Requests (program ∷ word ∷ []) → (result : Result (Unit {0}) Fault)
      → ComesTo disk host reading writing reporting (program ∷ word ∷ []) before after status result → EndsRequest writing reporting before after status
  shown program word request (Ok done) comes = let runs = comes.3 in absurd (no_command (program ∷ word ∷ []) request runs.command runs.asked.0)
  shown program word request (Err (OfCommand fault)) comes = let runs = comes.2 in absurd (no_command (program ∷ word ∷ []) request runs.command runs.asked.0)
  shown program word request (Err (Line fault)) comes = by (refused (program ∷ word ∷ []) request fault (of_words program word fault comes.0))
    where
      by : (fault ≡ line.Memory) ⊎ ((is_number_error fault ≡ false) × (line_status fault ≡ 0)) → EndsRequest writing reporting before after status
      by (inl memory) = let is = ap line_status memory in inl (comes.1.reports.status_is (λ zero. let both = sym is ∙ zero in cc both) ∙ is)
      by (inr is) = inr (rw (comes.1.explains.unrequested is.0) (comes.1.reports.shows refl is.1))
  shown program word request (Err Words) comes = absurd comes

  pub request_shown : (words : List Text) → EndsWith disk host reading writing reporting words before after status → IsRequest words
      → EndsRequest writing reporting before after status
  request_shown [] ends request = absurd request
  request_shown (program ∷ []) ends request = absurd request
  request_shown (program ∷ word ∷ []) ends request = shown program word (requests program word request) ends.0 ends.1
  request_shown (program ∷ word ∷ next ∷ rest) ends request = absurd request

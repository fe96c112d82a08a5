-- The command that a line asks for, or its refusal.
use Rattle.std.proofs.Common.{◌≡◌, ◌∙◌, ◌⊎◌, sym, subst, inl, inr, Bool, true, false, arith, ℕ, List, [], ◌∷◌, length, map, Option, None, Some, refl}
use Rattle.std.proofs.lemmas.Bool.{and_parts, false_from_ne_true}
use Rattle.std.proofs.lemmas.List.{length-map}
use Rattle.std.specs.Prelude.{◌<◌, ◌≤◌, ◌≢◌, Result, Ok, Err, IfErr, IfOk, IsErrAnd}
use Rattle.std.specs.List.{list_all}
use Rattle.std.specs.Option.{IsSomeAnd}
use Rattle.clap.specs.Words.{HasKind, IsAmong, Row, Text, fault_of, is_simple, is_simple_and_free, kind_of, matches_of, subcommand_of, takes}
use Rattle.clap.specs.declared.error.Error.{Error}
use Rattle.clap.specs.declared.error.kind.ErrorKind.{ErrorKind}
use Rattle.clap.specs.declared.error.kind.ErrorKind.TheVariants.{MissingRequiredArgument, OutOfMemory}
use Rattle.clap.proofs.OnLiterals.{clap_on_literals}
use Rattle.pv_cli_commands.specs.declared.command.Command.{Command}
use Rattle.pv_cli_commands.specs.OfQuestions.Schedules.{are_turns}
use Rattle.pv_cli_line.specs.declared.command.CommandLine.{CommandLine}
use Rattle.pv_cli_line.specs.declared.command.LineFault.{LineFault}
use Rattle.pv_cli_line.specs.declared.command.LineFault.TheVariants as line
use Rattle.pv_cli_line.specs.Paths.{is_plain_path}
use Rattle.pv_cli_line.specs.Line.{AreFaultyFiles, AreInvalidTurns, IsCommandIn, IsCommandLineError, IsValidIn, Never}
use Rattle.pv_cli_line.specs.Line.{RefusesFiles, RefusesLine, RefusesMany, RefusesTurns, RefusesTurnsOf, RefusesWords}
use Rattle.pv_cli_line.specs.Line.{command_files, is_verbose_in, is_verbose_line, of_kind, of_parser, turns_of}
use Rattle.pv_cli_line.specs.Parser.{pvsim_app}

-- a line without words has no flag
pub verbose-wordless : {A : Type 0} (text : A → Text) (words : List A) → length words ≤ 1 → is_verbose_line (map text words) ≡ true
verbose-wordless text [] few = refl
verbose-wordless text (program ∷ []) few = refl
verbose-wordless text (program ∷ word ∷ words) few = absurd (omega (arith, few))

-- one with words has the flags of its matches
pub verbose-words : {A : Type 0} (text : A → Text) (words : List A) (r : Result CommandLine LineFault) → 1 < length words
    → IfOk r (λ line. line.is_verbose ≡ is_verbose_in (matches_of pvsim_app (map text words)) (subcommand_of pvsim_app (map text words)))
    → IfOk r (λ line. line.is_verbose ≡ is_verbose_line (map text words))
verbose-words text [] r some is = absurd (omega (arith, some))
verbose-words text (program ∷ []) r some is = absurd (omega (arith, some))
verbose-words text (program ∷ word ∷ words) r some is = is

-- ---- refusals

-- the kind of an error that is not out of memory is among those of the words
among : (words : List Text) (error : Error) → kind_of error ≢ OutOfMemory → HasKind (fault_of pvsim_app words) error → IsAmong (kind_of error) (fault_of pvsim_app words)
among words error other (inl memory) = absurd (other memory)
among words error other (inr is) = is

rejected : (words : List Text) (error : Error) → kind_of error ≢ OutOfMemory → (takes pvsim_app words ≡ true → kind_of error ≡ OutOfMemory)
    → HasKind (fault_of pvsim_app words) error → IsCommandLineError words error
rejected words error other passes has = record {
  kind = other;
  why = inl (false_from_ne_true (takes pvsim_app words) (λ taken. other (passes taken)), among words error other has);
}

-- a refusal by the parser, or out of memory
refused_by_kind : (words : List Text) (error : Error) (kind : ErrorKind) → kind_of error ≡ kind → (takes pvsim_app words ≡ true → kind_of error ≡ OutOfMemory)
    → HasKind (fault_of pvsim_app words) error → RefusesWords words (of_kind kind error)
refused_by_kind words error OutOfMemory is passes has = tt
refused_by_kind words error kind is passes has = inl (rejected words error (λ memory. let both = sym is ∙ memory in cc both) passes has)

pub refused_by_parser : (words : List Text) (error : Error) → (takes pvsim_app words ≡ true → kind_of error ≡ OutOfMemory)
    → HasKind (fault_of pvsim_app words) error → RefusesWords words (of_parser error)
refused_by_parser words error passes has = refused_by_kind words error (kind_of error) refl passes has

-- the result for a line that the parser refuses
pub refused_result : {T : Type 0} (r : Result T LineFault) (fault : LineFault) (Q : LineFault → Type 0) → IsErrAnd r (λ given. given ≡ fault) → Q fault → IfErr r Q
refused_result (Ok value) fault Q h q = tt
refused_result (Err given) fault Q h q = rw h q

-- a refusal of more than one word
pub refused_line : {S T : Type 0} (text : S → Text) (words : List S) (r : Result T LineFault) → 1 < length words → IfErr r (RefusesWords (map text words))
    → IfErr r (RefusesLine (map text words))
refused_line text words (Ok value) long refuses = tt
refused_line text words (Err line.Memory) long refuses = tt
refused_line text words (Err line.Number) long refuses = (subst (λ (n : ℕ). 1 < n) (sym (length-map words text)) long, refuses)
refused_line text words (Err (line.Parser error)) long refuses = (subst (λ (n : ℕ). 1 < n) (sym (length-map words text)) long, refuses)

-- the words have no command
pub nothing_asked : (words : List Text) (entered : Option (Text × List Row)) → entered ≡ subcommand_of pvsim_app words → (error : Error)
    → kind_of error ≡ MissingRequiredArgument → fault_of pvsim_app words ≡ [] → Never (IsCommandIn entered) → IsCommandLineError words error
nothing_asked words entered appears error is faultless none = record {
  kind = λ memory. let both = sym is ∙ memory in cc both;
  why = inr (faultless, is, subst (λ (e : Option (Text × List Row)). Never (IsCommandIn e)) appears none);
}

-- ---- `clap` specifies the matches and the errors of this parser

pub pvsim_is_simple : is_simple_and_free pvsim_app ≡ true
unfolding clap_on_literals
pvsim_is_simple = refl

-- so its matches are those of its words
pub pvsim_has_matches : is_simple pvsim_app ≡ true
pvsim_has_matches = (and_parts (is_simple pvsim_app) _ pvsim_is_simple).0

-- ---- the result if the parser accepts the words

-- the words ask for a command, which is valid or refused
module _ (words : List Text) (entered : Option (Text × List Row)) (appears : entered ≡ subcommand_of pvsim_app words) (command : Command) (is : IsCommandIn entered command) where
  there : IsCommandIn (subcommand_of pvsim_app words) command
  there = subst (λ (e : Option (Text × List Row)). IsCommandIn e command) appears is

  pub asked_by : (r : Result CommandLine LineFault) (verbose : Bool) → IfOk r (λ line. (line.command ≡ command) × (line.is_verbose ≡ verbose))
      → IfOk r (λ line. AreInvalidTurns line.command None) → IfOk r (λ line. AreFaultyFiles line.command None)
      → IfOk r (λ line. IsValidIn (subcommand_of pvsim_app words) line.command)
  asked_by (Ok line) verbose same turns files = (subst (λ (k : Command). IsCommandIn (subcommand_of pvsim_app words) k) (sym same.0) there, turns, files)
  asked_by (Err fault) verbose same turns files = tt

  pub refused_by_turns : {T : Type 0} (r : Result T LineFault) → IfErr r (RefusesTurnsOf command) → IfErr r (RefusesWords words)
  refused_by_turns (Ok value) refuses = tt
  refused_by_turns (Err line.Memory) refuses = tt
  refused_by_turns (Err line.Number) refuses = absurd refuses
  refused_by_turns (Err (line.Parser error)) refuses = inr (of refuses.1)
    where
      by : (o : Option Text) → turns_of command ≡ o → IsSomeAnd o (λ turns. are_turns turns ≡ false) → RefusesTurns words error
      by None has faulty = absurd faulty
      by (Some turns) has faulty = record { kind = refuses.0; command = command; is_command = there; turns = turns; has_turns = has; are_none = faulty }

      of : IsSomeAnd (turns_of command) (λ turns. are_turns turns ≡ false) ⊎ (list_all is_plain_path (command_files command) ≡ false)
          → RefusesTurns words error ⊎ (RefusesFiles words error ⊎ RefusesMany words error)
      of (inl faulty) = inl (by (turns_of command) refl faulty)
      of (inr faulty) = inr (inl (record { kind = refuses.0; command = command; is_command = there; are_none = faulty }))

pub verbose_by : (r : Result CommandLine LineFault) (command : Command) (verbose other : Bool) → IfOk r (λ line. (line.command ≡ command) × (line.is_verbose ≡ verbose))
    → verbose ≡ other → IfOk r (λ line. line.is_verbose ≡ other)
verbose_by (Ok line) command verbose other same is = same.1 ∙ is
verbose_by (Err fault) command verbose other same is = tt

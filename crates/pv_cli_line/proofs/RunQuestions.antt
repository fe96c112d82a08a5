-- The command of a question about a run in the matches of a command with its name, or the reason why no command is found.
use Rattle.std.proofs.Common.{◌≡◌, ◌∙◌, inl, ap, sym, subst, Bool, true, false, bytes_eq, ℕ, List, codes, Option, None, Some, option_map, refl}
use Rattle.std.proofs.lemmas.Slice.Eq.{bytes_eq-Decides}
use Rattle.std.specs.Prelude.{Result, Ok, Err, IfErr, IfOk, IsErrAnd, if◌then◌else◌, is_some}
use Rattle.std.specs.Option.{IsSomeAnd}
use Rattle.clap.specs.Words.{Row, Text, first_of}
use Rattle.pv_cli_commands.specs.declared.command.Command.{Command}
use Rattle.pv_cli_commands.specs.declared.command.Command.TheVariants.{Ask}
use Rattle.pv_cli_commands.specs.declared.command.InputFile.{InputFile}
use Rattle.pv_cli_commands.specs.declared.command.ScheduleInput.{ScheduleInput}
use Rattle.pv_cli_commands.specs.declared.command.ScheduleInput.TheVariants.{Own, File as InFile, Turns as AsTurns, Fair}
use Rattle.pv_cli_commands.specs.OfQuestions.declared.question.Question.{Question}
use Rattle.pv_cli_commands.specs.OfQuestions.declared.question.Question.TheVariants as asked
use Rattle.pv_cli_line.specs.declared.matches.NoCommand.{NoCommand}
use Rattle.pv_cli_line.specs.declared.matches.NoCommand.TheVariants as lacks
use Rattle.pv_cli_line.specs.declared.matches.Run.{Run}
use Rattle.pv_cli_line.specs.Line.{FindsNamed, IsEnteredUnder, IsNumberIn, IsQuestionIn, IsReachIn, IsRunIn, IsScheduledBy, LacksArgument, LacksNamed, Never, NeverRun, count_or_default, is_number_for, question_name, size_in}
use Rattle.pv_cli_line.specs.Words.{IsAsking}

-- texts whose comparison fails are not equal
differ : (a b : Text) → a ≡ b → bytes_eq a b ≡ false → ⊥
differ a b same unequal = let bad : false ≡ true = sym unequal ∙ (bytes_eq-Decides a b).1 same in cc bad

-- a result that lacks words
pub lacking_words : {T : Type 0} (r : Result T NoCommand) (lack : NoCommand) (N : Type 0) → IsErrAnd r (λ e. e ≡ lack) → lack ≡ lacks.Words → N
    → IfErr r (λ e. (e ≡ lacks.Words) × N)
lacking_words (Ok value) lack N is words never = tt
lacking_words (Err e) lack N is words never = (is ∙ words, never)

pub finds_none : (name : Text) (rows : List Row) (r : Result Command NoCommand) (lack : NoCommand) → IsErrAnd r (λ e. e ≡ lack) → lack ≡ lacks.Words
    → Never (IsEnteredUnder name rows) → FindsNamed name rows r
finds_none name rows (Ok command) lack is words never = absurd is
finds_none name rows (Err e) lack is words never = subst (λ (l : NoCommand). LacksNamed name rows l) (sym (is ∙ words)) never

-- the steps of a command other than `turns` are not a number
lacks_steps : (name : Text) (rows : List Row) (o : Option Text) → first_of (codes "steps") rows ≡ o → bytes_eq name (codes "turns") ≡ false
    → IsSomeAnd o (λ word. size_in word ≡ None) → LacksArgument name rows
lacks_steps name rows None is other none = absurd none
lacks_steps name rows (Some word) is other none =
    let is_none : is_number_for name (codes "steps") word ≡ false =
    ap (λ (b : Bool). if b then is_some (count_or_default 1 (Some word)) else is_some (size_in word)) other ∙ ap is_some none in
    (codes "steps", word, inl refl, is, is_none)

-- the command of a question is in the matches if its input and its schedule are
module _ (name : Text) (rows : List Row) (question : Question) (run : Run) where
  pub finds_asked : (r : Result Command NoCommand) → IfOk r (IsAsking question run (first_of (codes "steps") rows))
      → IfErr r (λ lack. (lack ≡ lacks.Number) × IsSomeAnd (first_of (codes "steps") rows) (λ word. size_in word ≡ None))
      → name ≡ question_name question → bytes_eq name (codes "turns") ≡ false
      → ((steps : Option ℕ) → IsNumberIn (first_of (codes "steps") rows) steps → IsQuestionIn rows run.input run.schedule steps question)
      → FindsNamed name rows r
  finds_asked (Ok (Ask asking)) is lack same other entered =
      (same ∙ ap question_name (sym is.0), by asking.question asking.input asking.schedule is.0 is.1 is.2)
    where
      by : (q : Question) (file : InputFile) (schedule : ScheduleInput) → q ≡ question → file ≡ run.input → schedule ≡ run.schedule
          → IsQuestionIn rows file schedule asking.steps q
      by q file schedule of-question of-input of-schedule =
          subst (λ (x : Question). IsQuestionIn rows file schedule asking.steps x) (sym of-question)
          (subst (λ (x : InputFile). IsQuestionIn rows x schedule asking.steps question) (sym of-input)
          (subst (λ (x : ScheduleInput). IsQuestionIn rows run.input x asking.steps question) (sym of-schedule) (entered asking.steps is.3)))
  finds_asked (Ok command) is lack same other entered = absurd is
  finds_asked (Err lacks.Number) is lack same other entered = inl (lacks_steps name rows (first_of (codes "steps") rows) refl other lack.1)
  finds_asked (Err lacks.Words) is lack same other entered = let bad = lack.0 in cc bad
  finds_asked (Err lacks.ManyFiles) is lack same other entered = let bad = lack.0 in cc bad

-- without a run there is no question about one
module _ (rows : List Row) (never : NeverRun (IsRunIn rows (codes "PATH") false)) where
  pub no_state : Never (IsEnteredUnder (codes "state") rows)
  no_state (Ask asking) is = by asking.question is.0 is.1
    where
      by : (q : Question) → codes "state" ≡ question_name q → IsQuestionIn rows asking.input asking.schedule asking.steps q → ⊥
      by asked.State same entered = never asking.input asking.schedule None entered.0
      by q same entered = differ _ _ same refl
  no_state command is = differ _ _ is.0 refl

  pub no_explain : Never (IsEnteredUnder (codes "explain") rows)
  no_explain (Ask asking) is = by asking.question is.0 is.1
    where
      by : (q : Question) → codes "explain" ≡ question_name q → IsQuestionIn rows asking.input asking.schedule asking.steps q → ⊥
      by (asked.Explain errors allowed) same entered = never asking.input asking.schedule None entered.0.0
      by q same entered = differ _ _ same refl
  no_explain command is = differ _ _ is.0 refl

  pub no_needs : Never (IsEnteredUnder (codes "needs") rows)
  no_needs (Ask asking) is = by asking.question is.0 is.1
    where
      by : (q : Question) → codes "needs" ≡ question_name q → IsQuestionIn rows asking.input asking.schedule asking.steps q → ⊥
      by (asked.Needs granted) same entered = never asking.input asking.schedule None entered.0.0
      by q same entered = differ _ _ same refl
  no_needs command is = differ _ _ is.0 refl

pub no_audit : (rows : List Row) → NeverRun (IsRunIn rows (codes "PATH") true) → Never (IsEnteredUnder (codes "audit") rows)
no_audit rows never (Ask asking) is = by asking.question is.0 is.1
  where
    by : (q : Question) → codes "audit" ≡ question_name q → IsQuestionIn rows asking.input asking.schedule asking.steps q → ⊥
    by (asked.Audit path) same entered = never asking.input asking.schedule (option_map (λ p. p.now) path) entered.0
    by (asked.Reasons path) same entered = never asking.input asking.schedule (option_map (λ p. p.now) path) entered.0
    by q same entered = differ _ _ same refl
no_audit rows never command is = differ _ _ is.0 refl

-- without a run and a word there is no run of `reach`
pub no_reach : (rows : List Row) → NeverRun (IsRunIn rows (codes "PID") true) → NeverRun (IsReachIn rows)
no_reach rows never file (InFile name) None is = never file Own (Some name.now) is.0
no_reach rows never file (InFile name) (Some word) is = never file (InFile name) (Some word) is.0
no_reach rows never file Own further is = never file Own further is.0
no_reach rows never file Fair further is = never file Fair further is.0
no_reach rows never file (AsTurns turns) further is = never file (AsTurns turns) further is.0

-- a run of a command that takes no word has none
without : (by : Option Text) (fair : Bool) (words : List Text) (schedule : ScheduleInput) (word : Option Text) → IsScheduledBy by fair false words schedule word → word ≡ None
without by fair words (AsTurns turns) word is = is.2.1 refl
without by fair words Fair word is = is.2.1 refl
without by fair words Own word is = is.2.1 refl
without by fair words (InFile name) None is = refl
without by fair words (InFile name) (Some word) is = let bad = is.3 in cc bad

pub without_word : (rows : List Row) (last : Text) (file : InputFile) (schedule : ScheduleInput) (word : Option Text) → IsRunIn rows last false file schedule word
    → IsRunIn rows last false file schedule None
without_word rows last file schedule word is =
    subst (λ (o : Option Text). IsRunIn rows last false file schedule o) (without _ _ _ schedule word is.is_scheduled) is

use Rattle.std.proofs.Common.{◌≡◌, ◌∙◌, ap, map, true, subst, inl, inr, List, []}
use Rattle.clap.specs.Words.{App, HasKind, HasMatchesOf, Text, app_of, fault_of, found_of, is_simple_and_free, kind_of, matches_of, rows_of}
use Rattle.clap.specs.Words.{subcommand_of, subcommand_rows_of, takes}
use Rattle.clap.specs.declared.builder.command.Command.{Command as Parser}
use Rattle.clap.specs.declared.parser.matches.ArgMatches.{ArgMatches}
use Rattle.clap.specs.declared.error.kind.ErrorKind.TheVariants.{OutOfMemory}
use Rattle.pv_cli_line.specs.Line.{HasManyFiles, LacksNumber, RefusesWords, is_verbose_in, of_parser}
use Rattle.pv_cli_line.specs.Parser.{pvsim_app}
use Rattle.pv_cli_line.proofs.LineResults.{asked_by, nothing_asked, pvsim_has_matches, pvsim_is_simple, refused_by_parser, refused_by_turns, refused_result, verbose_by}
use Rattle.pv_cli_line.proofs.command.parsed.Goals as goal

pub returns-in_err-matches-clause-refused : goal.returns-in_err-matches-clause-refused
returns-in_err-matches-clause-refused g c =
    let words = map g.S.AsStr.text c.args.words.now in
    let error = c.in_err-matches.field-0.0 in
    let app_is : app_of c.in_ok-parser.parser ≡ pvsim_app = c.in_ok-parser.ensures in
    let has = c.in_err-matches.ensures.kinds (ap is_simple_and_free app_is ∙ pvsim_is_simple) in
    let refusal : RefusesWords words (of_parser error) = refused_by_parser words error
    (subst (λ (app : App). takes app words ≡ true → kind_of error ≡ OutOfMemory) app_is c.in_err-matches.ensures.passes)
    (subst (λ (app : App). HasKind (fault_of app words) error) app_is has) in
    refused_result c.from_residual-in_err-matches.result (of_parser error) (RefusesWords words) c.from_residual-in_err-matches.ensures.1 refusal

-- the command in the matches is the one that the words ask for
appears : (parser : Parser) (words : List Text) (m : ArgMatches) → app_of parser ≡ pvsim_app → HasMatchesOf (app_of parser) words m
    → subcommand_rows_of m ≡ subcommand_of pvsim_app words
appears parser words m app_is has = (subst (λ (app : App). HasMatchesOf app words m) app_is has pvsim_has_matches).1

-- the same holds for the arguments before its name
above : (parser : Parser) (words : List Text) (m : ArgMatches) → app_of parser ≡ pvsim_app → HasMatchesOf (app_of parser) words m
    → rows_of (found_of m) ≡ matches_of pvsim_app words
above parser words m app_is has = (subst (λ (app : App). HasMatchesOf app words m) app_is has pvsim_has_matches).0

-- the parser finds no fault in words that it takes
faultless : (parser : Parser) (words : List Text) → app_of parser ≡ pvsim_app → (is_simple_and_free (app_of parser) ≡ true → fault_of (app_of parser) words ≡ [])
    → fault_of pvsim_app words ≡ []
faultless parser words app_is none = subst (λ (app : App). fault_of app words ≡ []) app_is (none (ap is_simple_and_free app_is ∙ pvsim_is_simple))

pub returns-in-Ok-clause-asked : goal.returns-in-Ok-clause-asked
returns-in-Ok-clause-asked g c =
    let words = map g.S.AsStr.text c.args.words.now in
    let e = appears c.in_ok-parser.parser words c.in_ok-matches.matches c.in_ok-parser.ensures c.in_ok-matches.ensures.ok.2 in
    asked_by words (subcommand_rows_of c.in_ok-matches.matches) e c.in-Ok.command c.in-Ok.ensures.found
    c.checked.result c.is_verbose.result c.checked.ensures.value c.checked.ensures.turns c.checked.ensures.files

pub returns-in-Ok-clause-verbose : goal.returns-in-Ok-clause-verbose
returns-in-Ok-clause-verbose g c =
    let words = map g.S.AsStr.text c.args.words.now in
    let m = c.in_ok-matches.matches in
    let rows = above c.in_ok-parser.parser words m c.in_ok-parser.ensures c.in_ok-matches.ensures.ok.2 in
    let entered = appears c.in_ok-parser.parser words m c.in_ok-parser.ensures c.in_ok-matches.ensures.ok.2 in
    verbose_by c.checked.result c.in-Ok.command c.is_verbose.result _ c.checked.ensures.value
    (c.is_verbose.ensures ∙ ap (λ rs. is_verbose_in rs (subcommand_rows_of m)) rows ∙ ap (is_verbose_in (matches_of pvsim_app words)) entered)

pub returns-in-Ok-clause-refused : goal.returns-in-Ok-clause-refused
returns-in-Ok-clause-refused g c =
    let words = map g.S.AsStr.text c.args.words.now in
    let e = appears c.in_ok-parser.parser words c.in_ok-matches.matches c.in_ok-parser.ensures c.in_ok-matches.ensures.ok.2 in
    refused_by_turns words (subcommand_rows_of c.in_ok-matches.matches) e c.in-Ok.command c.in-Ok.ensures.found
    c.checked.result c.checked.ensures.refused

pub returns-in-Err-Number-clause-refused : goal.returns-in-Err-Number-clause-refused
returns-in-Err-Number-clause-refused g c =
    let e = appears c.in_ok-parser.parser (map g.S.AsStr.text c.args.words.now) c.in_ok-matches.matches c.in_ok-parser.ensures c.in_ok-matches.ensures.ok.2 in
    subst LacksNumber e (rw c.in-Err-Number.field-0-is at c.in-Err-Number.ensures.none)

pub returns-in-Err-ManyFiles-clause-refused : goal.returns-in-Err-ManyFiles-clause-refused
returns-in-Err-ManyFiles-clause-refused g c =
    let e = appears c.in_ok-parser.parser (map g.S.AsStr.text c.args.words.now) c.in_ok-matches.matches c.in_ok-parser.ensures c.in_ok-matches.ensures.ok.2 in
    inr (inr (inr (record {
      kind = c.in_ok-many_files-in-Err-ManyFiles.ensures;
      are_many = subst HasManyFiles e (rw c.in-Err-ManyFiles.field-0-is at c.in-Err-ManyFiles.ensures.none);
    })))

pub returns-clause-refused : goal.returns-clause-refused
returns-clause-refused g c =
    let words = map g.S.AsStr.text c.args.words.now in
    let m = c.in_ok-matches.matches in
    let e = appears c.in_ok-parser.parser words m c.in_ok-parser.ensures c.in_ok-matches.ensures.ok.2 in
    let none = faultless c.in_ok-parser.parser words c.in_ok-parser.ensures c.in_ok-matches.ensures.kinds in
    inl (nothing_asked words (subcommand_rows_of m) e c.in_ok-no_command-in-Err-Words.field-0 c.in_ok-no_command-in-Err-Words.ensures none
    (rw c.in-Err-Words.field-0-is at c.in-Err-Words.ensures.none))

-- The program as its parser knows it.
use Rattle.std.specs.Prelude.{◌≡◌, List, [], ◌∷◌, ◌++◌, true, false, codes, fold, map, Some}
use Rattle.clap.specs.Words.{App, Rule, Text, app_of, new_app, new_rule, with_rule, with_subcommand}
use Rattle.clap.specs.declared.builder.ArgAction.TheVariants.{Append, Set, SetTrue}
use Rattle.clap.specs.declared.builder.command.Command.{Command as Parser}
use Rattle.clap.specs.declared.builder.command.Command.TheViews.{out-Command}
use Rattle.pv_cli_line.specs.declared.parser.Argument.{Argument}
use Rattle.pv_cli_line.specs.declared.parser.Argument.TheVariants.{Required, Optional, Named, Renamed, Repeated, Flag}
use Rattle.pv_cli_line.specs.declared.parser.CommandRow.{CommandRow}

-- an optional text
abbrev pub optional_rule : Text → Rule
optional_rule name = record (new_rule name) { action = Some Set }

-- a required text
abbrev pub text_rule : Text → Rule
text_rule name = record (optional_rule name) { required = true }

-- an option with one text
abbrev pub long_rule : Text → Rule
long_rule name = record (optional_rule name) { long = Some name; value_names = 1 }

-- the same, which also has an old name
abbrev pub renamed_rule : (name old : Text) → Rule
renamed_rule name old = record (long_rule name) { aliases = old ∷ [] }

-- an option with one text, which may be given more than once
abbrev pub repeated_rule : Text → Rule
repeated_rule name = record (long_rule name) { action = Some Append }

-- a bundle, in place of the input
abbrev pub bundle_rule : Rule
bundle_rule = record (long_rule (codes "bundle")) { short = Some 98 }

-- the input, as an option
abbrev pub source_rule : Rule
source_rule = record (long_rule (codes "source")) { short = Some 115 }

-- a flag
abbrev pub flag_rule : Text → Rule
flag_rule name = record (new_rule name) { action = Some SetTrue; long = Some name }

-- the flag that asks for an explanation of errors
abbrev pub verbose_rule : Rule
verbose_rule = record (flag_rule (codes "verbose")) { short = Some 118 }

-- the flag that turns that off
abbrev pub quiet_rule : Rule
quiet_rule = record (flag_rule (codes "quiet")) { short = Some 113 }

-- both flags, which may be given before or after the name of a command
abbrev pub with_flags : App → App
with_flags app = with_rule (with_rule app verbose_rule) quiet_rule

-- the flag that says that a bundle is given by a source
abbrev pub source_flag_rule : Rule
source_flag_rule = record (flag_rule (codes "source")) { short = Some 115 }

-- a command: it takes these flags, and then its own arguments
abbrev pub command_app : Text → List Rule → App
command_app name rules = fold with_rule (with_flags (new_app name)) rules

-- `FILE`, or `--bundle FILE` or `--source FILE`
abbrev pub tree_rules : List Rule
tree_rules = bundle_rule ∷ source_rule ∷ optional_rule (codes "FILE") ∷ []

-- `--by TURNS` and `--steps N`
abbrev pub schedule_rules : List Rule
schedule_rules = long_rule (codes "by") ∷ long_rule (codes "steps") ∷ []

-- `FILE [SCHEDULE]`, or `--bundle FILE` or `--source FILE` in place of `FILE`, and `--by TURNS` or `--turns` in place of
-- `SCHEDULE`
abbrev pub question_rules : List Rule
question_rules =
    bundle_rule ∷ source_rule ∷ long_rule (codes "by") ∷ flag_rule (codes "turns") ∷ long_rule (codes "steps")
    ∷ optional_rule (codes "FILE") ∷ optional_rule (codes "SCHEDULE") ∷ []

-- `FILE`, or `--bundle FILE` or `--source FILE`, with `--states N`
abbrev pub search_rules : List Rule
search_rules = tree_rules ++ long_rule (codes "states") ∷ []

-- the same, with the flag of the reduced search
abbrev pub kind_rules : List Rule
kind_rules = search_rules ++ flag_rule (codes "reduced") ∷ []

-- the same, with `--file PATH`
abbrev pub file_rules : List Rule
file_rules = kind_rules ++ repeated_rule (codes "file") ∷ []

-- the commands on bundles and sources; to make and list an image; to run and audit an image; questions about the state
-- after a run, about its steps, and about a tree
abbrev pub schedule_apps : List App
schedule_apps =
    command_app (codes "run-tree") (source_flag_rule ∷ text_rule (codes "FILE") ∷ schedule_rules)
    ∷ command_app (codes "source") (text_rule (codes "FILE") ∷ flag_rule (codes "lines") ∷ [])
    ∷ command_app (codes "mkimg") (text_rule (codes "MANIFEST") ∷ text_rule (codes "IMAGE") ∷ [])
    ∷ command_app (codes "ls") tree_rules
    ∷ command_app (codes "run") (text_rule (codes "IMAGE") ∷ text_rule (codes "SCHEDULE") ∷ text_rule (codes "OUT") ∷ [])
    ∷ command_app (codes "audit") (question_rules ++ optional_rule (codes "PATH") ∷ flag_rule (codes "reasons") ∷ [])
    ∷ command_app (codes "state") question_rules
    ∷ command_app (codes "reach") (question_rules ++ optional_rule (codes "PID") ∷ [])
    ∷ command_app (codes "explain") (question_rules ++ flag_rule (codes "errors") ∷ flag_rule (codes "brief") ∷ flag_rule (codes "allowed") ∷ [])
    ∷ command_app (codes "needs") (question_rules ++ flag_rule (codes "granted") ∷ [])
    ∷ command_app (codes "cat") (tree_rules ++ optional_rule (codes "PATH") ∷ [])
    ∷ command_app (codes "turns") (tree_rules ++ long_rule (codes "slice") ∷ long_rule (codes "steps") ∷ [])
    ∷ []

-- the questions about all schedules; the commands to migrate an image, and to import and export a directory
abbrev pub search_apps : List App
search_apps =
    command_app (codes "explore") kind_rules
    ∷ command_app (codes "access") file_rules
    ∷ command_app (codes "exposure") file_rules
    ∷ command_app (codes "policy") (kind_rules ++ flag_rule (codes "granted") ∷ [])
    ∷ command_app (codes "compare") (bundle_rule ∷ optional_rule (codes "FILE") ∷ optional_rule (codes "OTHER") ∷ long_rule (codes "states") ∷ [])
    ∷ command_app (codes "graph") (search_rules ++ flag_rule (codes "tree") ∷ [])
    ∷ command_app (codes "migrate")
    (text_rule (codes "IMAGE") ∷ text_rule (codes "OUT") ∷ text_rule (codes "BLOCKS") ∷ text_rule (codes "INODES") ∷ [])
    ∷ command_app (codes "import")
    (text_rule (codes "DIR") ∷ text_rule (codes "IMAGE") ∷ renamed_rule (codes "image-version") (codes "version") ∷ flag_rule (codes "skip") ∷ long_rule (codes "with") ∷ [])
    ∷ command_app (codes "export") (text_rule (codes "FILE") ∷ text_rule (codes "DIR") ∷ [])
    ∷ []

-- the program without commands: it has a version, requires a command, and takes these flags
abbrev pub bare_app : App
bare_app = with_flags (record (new_app (codes "pvsim")) {
  top = record (new_app (codes "pvsim")).top { has_version = true; subcommand_required = true };
})

-- the program with another command
abbrev pub with_command : App → App → App
with_command app command = with_subcommand app command.top

-- the program with its commands
abbrev pub pvsim_app : App
pvsim_app = fold with_command (fold with_command bare_app schedule_apps) search_apps

-- the rule of an argument in the table
abbrev pub rule_of_argument : Argument → Rule
rule_of_argument (Required name help) = text_rule name.now
rule_of_argument (Optional name help) = optional_rule name.now
rule_of_argument (Named name short value help) = record (long_rule name.now) { short = short }
rule_of_argument (Renamed name old value help) = renamed_rule name.now old.now
rule_of_argument (Repeated name value help) = repeated_rule name.now
rule_of_argument (Flag name short help) = record (flag_rule name.now) { short = short }

-- the command with more arguments of the table
abbrev pub with_arguments : App → List Argument → App
with_arguments app arguments = fold with_rule app (map rule_of_argument arguments)

-- the command of a row of the table
abbrev pub app_of_row : CommandRow → App
app_of_row row = command_app row.name.now (map rule_of_argument row.arguments.now)

-- the program with more rows of the table
abbrev pub with_rows : App → List CommandRow → App
with_rows app rows = fold with_command app (map app_of_row rows)

-- the parser accepts exactly this
pub record IsParserOf (app : App) (parser : Parser) : Type 0 where
  pub app_is : app_of parser ≡ app
  pub no_globals : (out-Command parser).has_globals ≡ false

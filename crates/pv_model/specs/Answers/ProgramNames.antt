-- The names of programs: a program is a list of instructions, and its name is the path of a file that parses as it.
use Rattle.std.specs.Prelude.{ℕ, Bool, false, ◌++◌, filter, codes, bytes_eq, Option, None, Some, option_and_then}
use Rattle.std.specs.Fmt.{decimal}
use Rattle.pv_model.specs.Answers.Lines.{AnswerLine, answer_line}
use Rattle.pv_model.specs.Answers.Nodes.{first_of}
use Rattle.pv_model.specs.Answers.Numbers.{Numbers, list_numbers, instruction_numbers}
use Rattle.pv_model.specs.Answers.Reach.{ListedName, listed_names}
use Rattle.pv_model.specs.Bytes.{Bytes}
use Rattle.pv_model.specs.Calls.Processes.{executable_bytes}
use Rattle.pv_model.specs.Listing.{listed_path}
use Rattle.pv_model.specs.State.{Program}
use Rattle.pv_model.specs.Trace.{quote}
use Rattle.pv_model.specs.Tree.{Tree, node_at}

abbrev pub program_numbers : Program → Numbers
program_numbers program = list_numbers instruction_numbers program

abbrev pub is_program : Program → Option Program → Bool
is_program program None = false
is_program program (Some other) = bytes_eq (program_numbers other) (program_numbers program)

abbrev pub program_words : Option ListedName → Bytes
program_words None = codes "no file"
program_words (Some l) = quote (listed_path l.path)

module _ (program_of : Bytes → Option Program) (t : Tree) where
  -- whether a node is an executable file that parses as a program
  abbrev pub holds_program : Program → ℕ → Bool
  holds_program program n = is_program program (option_and_then program_of (executable_bytes (node_at t n)))

  -- the line of a program: its number, and the first path, in the order of the listing, of a file that parses as it
  abbrev pub program_line : ℕ → Program → AnswerLine
  program_line k program =
      answer_line 0 (codes "PROG") (decimal k ++ codes ", " ++ program_words (first_of (filter (λ l. holds_program program l.node) (listed_names t))))

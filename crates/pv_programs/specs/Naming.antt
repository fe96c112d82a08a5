-- The first name of a node that satisfies a condition, in the order of the listing.
use Rattle.std.specs.Prelude.{ℕ, zero, suc, Bool, false, if◌then◌else◌, List, [], ◌∷◌, ◌++◌, bytes_eq, codes, Option, None, Some, option_map, option_and_then}
use Rattle.pv_model.specs.Machine.{Numbers, program_numbers, Bytes, executable_bytes, program_of, listed_path, Program, quote, Entries, Tree, entries_at, node_at}

-- ---- the program of a file

abbrev pub has_numbers : Numbers → Option Program → Bool
has_numbers ns None = false
has_numbers ns (Some program) = bytes_eq (program_numbers program) ns

module _ (t : Tree) where
  -- the program that a node parses as, if it is an executable file
  abbrev pub program_at : ℕ → Option Program
  program_at n = option_and_then program_of (executable_bytes (node_at t n))

  -- whether a node is an executable file that parses as the program with these numbers
  abbrev pub holds_numbers : Numbers → ℕ → Bool
  holds_numbers ns n = has_numbers ns (program_at n)

-- ---- the first name

abbrev pub or_next : {Y : Type 0} → Option Y → Option Y → Option Y
or_next None next = next
or_next (Some y) next = Some y

-- the first result that is not None
abbrev pub first_some : {X Y : Type 0} → (X → Option Y) → List X → Option Y
first_some f [] = None
first_some f (x ∷ xs) = or_next (f x) (first_some f xs)

-- a path that continues below a name
abbrev pub below_name : Bytes → Option Bytes → Option Bytes
below_name name path = option_map (λ rest. codes "/" ++ name ++ rest) path

module _ (holds : ℕ → Bool) (t : Tree) where
  -- the path from a node to the first node that satisfies the condition, at most `depth` names long
  abbrev pub first_within : ℕ → ℕ → Option Bytes
  first_within zero n = None
  first_within (suc depth) n = if holds n then Some [] else first_some (λ e. below_name e.0 (first_within depth e.1)) (entries_at t n)

  -- the same from the entries of a directory
  abbrev pub first_under : ℕ → Entries → Option Bytes
  first_under depth es = first_some (λ e. below_name e.0 (first_within depth e.1)) es

-- ---- the text

abbrev pub path_words : Option Bytes → Bytes
path_words None = codes "no file"
path_words (Some path) = quote (listed_path path)

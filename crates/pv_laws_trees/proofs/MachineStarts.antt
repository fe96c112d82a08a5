-- A machine starts if the program of `init` parses.
use Rattle.std.proofs.Common.{◌≡◌, true, false, Option, None, Some, Result, Ok, Err, refl}
use Rattle.std.specs.Prelude.{option_map}
use Rattle.std.specs.Result.{result_ok}
use Rattle.pv_model.specs.declared.fault.ParseFault.{ParseFault}
use Rattle.pv_model.specs.declared.kernel_fault.BootFault.{BootFault}
use Rattle.pv_model.specs.Machine.{read_program, program_of, and_then, booted, Program, first_state, Node, directory_node, file_node, link_node, Tree}
use Rattle.pv_model.specs.RunFault.{of_init}
use Rattle.pv_model.specs.Start.{program_in, init_of}
use Rattle.pv_model.specs.Step.{init_program}
use Rattle.pv_laws_trees.specs.Starts.{StartsIfInitParses}

read_or_not : (t : Tree) (r : Result Program ParseFault)
    → result_ok (and_then (λ (f : BootFault). f) (and_then of_init r (λ (program : Program). Ok program)) (λ program. Ok (first_state t program))) ≡ option_map (first_state t) (result_ok r)
read_or_not t (Ok program) = refl
read_or_not t (Err fault) = refl

by_node : (t : Tree) (o : Option Node)
    → result_ok (and_then (λ (f : BootFault). f) (program_in o) (λ program. Ok (first_state t program))) ≡ option_map (first_state t) (init_program program_of t o)
by_node t None = refl
by_node t (Some (file_node true bytes)) = read_or_not t (read_program bytes)
by_node t (Some (file_node false bytes)) = refl
by_node t (Some (directory_node es)) = refl
by_node t (Some (link_node text)) = refl

pub starts : StartsIfInitParses
unfolding booted
starts t = by_node t (init_of t)

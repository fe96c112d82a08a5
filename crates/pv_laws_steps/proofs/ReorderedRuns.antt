-- Runs in which two steps change places.
use Rattle.std.proofs.Common.{ℕ, List, ◌++◌, Option, ap, ap₂}
use Rattle.pv_model.specs.Machine.{Bytes, Program, State, step, run, Line}
use Rattle.pv_laws_steps.specs.Commuting.{Commute, RunsDifferInOrder}

pub runs-reorder : (program_of : Bytes → Option Program) (s : State) (j k : ℕ) (pids : List ℕ) → Commute program_of s j k → RunsDifferInOrder program_of s j k pids
runs-reorder program_of s j k pids is = record {
  rest = (run program_of pids (step program_of (step program_of s j).after k).after).lines;
  one = ap (λ (ls : List Line). (step program_of s j).lines ++ (ls ++ (run program_of pids (step program_of (step program_of s j).after k).after).lines)) is.second.lines;
  other = ap₂ (λ (ls : List Line) (x : State). (step program_of s k).lines ++ (ls ++ (run program_of pids x).lines)) is.first.lines is.after;
  final = ap (λ (x : State). (run program_of pids x).final) is.after;
}

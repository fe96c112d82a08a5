-- Witnesses: the process numbers of consecutive steps, and their order.
use Rattle.std.specs.Prelude.{◌≡◌, ◌⊎◌, ℕ, ◌<◌, IsTrue, List, [], ◌∷◌, length, Option, is_some}
use Rattle.std.specs.List.{AllByRecursion}
use Rattle.pv_model.specs.Machine.{Bytes, Program, State, process_at, step, run}

-- all steps are of live processes
abbrev pub AreSteps : (Bytes → Option Program) → List ℕ → State → Type 0
AreSteps program_of [] s = Unit {0}
AreSteps program_of (pid ∷ pids) s = IsTrue (is_some (process_at s pid)) × AreSteps program_of pids (step program_of s pid).after

-- such steps lead from one state to another
pub record IsWitness (program_of : Bytes → Option Program) (s : State) (witness : List ℕ) (t : State) : Type 0 where
  pub steps : AreSteps program_of witness s
  pub leads : (run program_of witness s).final ≡ t

-- at the first difference, the first list has the lesser process number
abbrev pub IsSmallerWitness : List ℕ → List ℕ → Type 0
IsSmallerWitness [] ys = ⊥
IsSmallerWitness (x ∷ xs) [] = ⊥
IsSmallerWitness (x ∷ xs) (y ∷ ys) = (x < y) ⊎ ((x ≡ y) × IsSmallerWitness xs ys)

-- a witness is shorter than another, or of equal length and less
abbrev pub IsEarlierWitness : List ℕ → List ℕ → Type 0
IsEarlierWitness witness other = (length witness < length other) ⊎ ((length witness ≡ length other) × IsSmallerWitness witness other)

abbrev pub IsNoLaterWitness : List ℕ → List ℕ → Type 0
IsNoLaterWitness witness other = (witness ≡ other) ⊎ IsEarlierWitness witness other

-- a relation holds between each element of a list and each later one
abbrev pub EachToLater : {X : Type 0} → (X → X → Type 0) → List X → Type 0
EachToLater R [] = Unit {0}
EachToLater R (x ∷ xs) = AllByRecursion (R x) xs × EachToLater R xs

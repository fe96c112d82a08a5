-- States that are equal up to some renumbering of open files, and the canonical form of a state.
use Rattle.std.specs.Prelude.{◌≡◌, ◌↔◌, ℕ, suc, ◌-◌, ◌==◌, if◌then◌else◌, Bool, IsTrue, List, [], ◌∷◌, ◌++◌, map, length, replicate, Option, None}
use Rattle.pv_model.specs.declared.limits.TheConstants.{OPEN_FILES}
use Rattle.pv_model.specs.Machine.{same_state, among, Numbered, at_number, OpenFile, State}
use Rattle.pv_laws_states.specs.Held.{used}
use Rattle.pv_laws_states.specs.States.{IsValid}
use Rattle.pv_laws_classes.specs.Renumbering.{renumbered_processes, Renumbered}

-- two states are equal up to some renumbering of open files
abbrev pub AreEqualRenumbered : State → State → Type 0
AreEqualRenumbered s t = (f : ℕ → ℕ) × Renumbered f s t

-- this relation is an equivalence on valid states. Symmetry needs a valid state: otherwise a descriptor may refer to a
-- number that no open file has
pub record RenumberingIsEquivalence : Type 0 where
  pub reflexive : (s : State) → AreEqualRenumbered s s
  pub symmetric : (s t : State) → IsValid s → AreEqualRenumbered s t → AreEqualRenumbered t s
  pub transitive : (s t u : State) → AreEqualRenumbered s t → AreEqualRenumbered t u → AreEqualRenumbered s u

-- ---- the canonical form

-- the numbers of a list that are not among the given ones, each once, in the order of the list
abbrev pub distinct_without : List ℕ → List ℕ → List ℕ
distinct_without had [] = []
distinct_without had (n ∷ ns) = if among had n then distinct_without had ns else n ∷ distinct_without (n ∷ had) ns

-- the open files that descriptors refer to, in the order of their first reference: processes by ascending number, and
-- the descriptors of a process by ascending number
abbrev pub references : State → List ℕ
references s = distinct_without [] (used s)

-- the index of a number in a list, or the length of the list
abbrev pub index_in : List ℕ → ℕ → ℕ
index_in [] n = 0
index_in (m ∷ ms) n = if m == n then 0 else suc (index_in ms n)

abbrev pub canonical_number : State → ℕ → ℕ
canonical_number s n = index_in (references s) n

abbrev pub no_file : Option OpenFile
no_file = None

-- the open files in this order, in a table of 128
abbrev pub canonical_files : State → Numbered OpenFile
canonical_files s = map (at_number s.files) (references s) ++ replicate (OPEN_FILES - length (references s)) no_file

-- the state whose open files have the numbers 0, 1, 2 .. in the order of their first reference
unfoldable pub canonical : State → State
canonical s = record s { files = canonical_files s; processes = renumbered_processes (canonical_number s) s.processes }

abbrev pub are_same_class : State → State → Bool
are_same_class s t = same_state (canonical s) (canonical t)

-- a valid state is equal to its canonical form up to a renumbering
abbrev pub CanonicalIsEqualRenumbered : Type 0
CanonicalIsEqualRenumbered = (s : State) → IsValid s → Renumbered (canonical_number s) s (canonical s)

-- two valid states have equal canonical forms if and only if they are equal up to a renumbering, and the test decides it
abbrev pub CanonicalIsUnique : Type 0
CanonicalIsUnique = (s t : State) → IsValid s → IsValid t → (canonical s ≡ canonical t) ↔ AreEqualRenumbered s t

abbrev pub ClassesAreDistinguished : Type 0
ClassesAreDistinguished = (s t : State) → IsValid s → IsValid t → IsTrue (are_same_class s t) ↔ AreEqualRenumbered s t

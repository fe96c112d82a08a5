-- Laws of `compare`: whether two images differ in a step of a schedule.
use Rattle.std.specs.Prelude.{◌≡◌, ℕ, ◌≤◌, Bool, true, false, ◌||◌, IsTrue, List, [], ◌∷◌, ◌++◌, length, Option, None, Some}
use Rattle.pv_model.specs.Machine.{FoundPair, PairMove, Comparison, different, alike, differs, comparison, Bytes, Program, State, process_at, step, run}
use Rattle.pv_model.specs.Answers.Compare.{is_live, is_restraint, pair_move}
use Rattle.pv_laws_states.specs.States.{EncodesPrograms, IsValid}
use Rattle.pv_laws_answers.specs.Search.{text_of_step}

abbrev pub IsWithoutDifference : Comparison → Type 0
IsWithoutDifference (different m pairs) = ⊥
IsWithoutDifference (alike complete pairs) = Unit {0}

-- an image never differs from itself, whatever the limit
abbrev pub ImageEqualsItself : Type 0
ImageEqualsItself = (program_of : Bytes → Option Program) (limit : ℕ) (s : State) → IsWithoutDifference (comparison program_of limit s s)

-- the premises of a comparison: valid states, and room for the first pair
pub record AreComparable (program_of : Bytes → Option Program) (limit : ℕ) (s t : State) : Type 0 where
  pub encodes : EncodesPrograms program_of
  pub first : IsValid s
  pub second : IsValid t
  pub room : 1 ≤ limit

-- a text, except for a call of pledge or unveil
abbrev pub text_unless : Bool → Bytes → Option Bytes
text_unless true text = None
text_unless false text = Some text

module _ (program_of : Bytes → Option Program) where
  -- the pair of states that a schedule leads to
  abbrev pub pair_after_schedule : List ℕ → State → State → FoundPair
  pair_after_schedule pids s t = record { witness = pids; states = record { first = (run program_of pids s).final; second = (run program_of pids t).final } }

  -- each step of a schedule is of a process that is live in one of the states
  abbrev pub AreStepsOfEither : List ℕ → State → State → Type 0
  AreStepsOfEither [] s t = Unit {0}
  AreStepsOfEither (pid ∷ pids) s t = IsTrue (is_live s pid || is_live t pid) × AreStepsOfEither pids (step program_of s pid).after (step program_of t pid).after

  -- ---- different

  -- the step is the last of its schedule, it differs, and each schedule with such a step is as long
  pub record IsShortest (s t : State) (m : PairMove) : Type 0 where
    pub before : List ℕ
    pub leads : m ≡ pair_move program_of (pair_after_schedule before s t) m.pid
    pub steps : AreStepsOfEither (before ++ m.pid ∷ []) s t
    pub difference : IsTrue (differs m)
    pub shortest : (pids : List ℕ) (pid : ℕ) → IsTrue (differs (pair_move program_of (pair_after_schedule pids s t) pid)) → length before ≤ length pids

  -- ---- the same

  -- the texts of the steps of a run, except for calls of pledge and unveil
  abbrev pub texts_compared : List ℕ → State → List (Option Bytes)
  texts_compared [] s = []
  texts_compared (pid ∷ pids) s = text_unless (is_restraint (process_at s pid)) (text_of_step program_of s pid) ∷ texts_compared pids (step program_of s pid).after

  -- two runs of a schedule: their texts are equal, step by step, and they leave the same processes live
  pub record HaveSameTraces (s t : State) (pids : List ℕ) : Type 0 where
    pub texts : texts_compared pids s ≡ texts_compared pids t
    pub live : (pid : ℕ) → is_live (run program_of pids s).final pid ≡ is_live (run program_of pids t).final pid

-- a difference is at the end of its schedule, and no shorter schedule has one
abbrev pub DifferencesAreShortest : Type 0
DifferencesAreShortest =
    (program_of : Bytes → Option Program) (limit : ℕ) (s t : State) (m : PairMove) (pairs : ℕ) → AreComparable program_of limit s t
    → comparison program_of limit s t ≡ different m pairs → IsShortest program_of s t m

-- if the comparison is complete and finds no difference, each schedule has equal runs
abbrev pub EqualImagesRunEqually : Type 0
EqualImagesRunEqually =
    (program_of : Bytes → Option Program) (limit : ℕ) (s t : State) (pairs : ℕ) → AreComparable program_of limit s t
    → comparison program_of limit s t ≡ alike true pairs → (pids : List ℕ) → HaveSameTraces program_of s t pids

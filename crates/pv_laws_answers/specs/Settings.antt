-- The settings of table entries: the unveils of a run that set them.
use Rattle.std.specs.Prelude.{◌≡◌, ℕ, Bool, false, ◌&&◌, ◌||◌, ◌==◌, IsTrue, List, [], ◌∷◌, ◌++◌, length, slice_get, Option, None, Some, is_some, Ok}
use Rattle.pv_model.specs.declared.call.Call.TheVariants.{Unveil}
use Rattle.pv_model.specs.declared.outcome.Outcome.TheVariants.{Value}
use Rattle.pv_model.specs.declared.perms.Perms.{Perms}
use Rattle.pv_model.specs.declared.place.Place.{Place}
use Rattle.pv_model.specs.declared.target.Target.{Target}
use Rattle.pv_model.specs.Machine.{settings_next, Setting, Settings, settings_of, Bytes, entries_of_table, end_of, no_permissions, read_permissions, calls_for, next, Program, Process, State, process_at, step, run, entry_for, target_of, unveil_walk}
use Rattle.pv_laws_states.specs.States.{EncodesPrograms, IsValid}
use Rattle.pv_laws_access.specs.Growth.{begins_image}
use Rattle.pv_laws_access.specs.Origins.{origin}

abbrev pub HasNoTables : State → Type 0
HasNoTables s = (k : ℕ) (p : Process) → process_at s k ≡ Some p → p.table ≡ None

module _ (program_of : Bytes → Option Program) where
  -- the settings after a run
  abbrev pub settings_along : List ℕ → Settings → State → Settings
  settings_along [] all s = all
  settings_along (pid ∷ pids) all s = settings_along pids (settings_next program_of s pid all) (step program_of s pid).after

  -- a step of process `pid` is a successful unveil of a path with permissions: it gives entry k of its table, for the
  -- node or name at the path's end, its permissions
  pub record SetsEntry (s : State) (pid : ℕ) (me : Process) (k : ℕ) (entry : Target × Perms) : Type 0 where
    pub path : Bytes
    pub text : Bytes
    pub place : Place
    pub permissions : Perms
    pub at : process_at s pid ≡ Some me
    pub next_is : next me ≡ calls_for (Unveil (Some path) (Some text))
    pub succeeds : (step program_of s pid).outcome ≡ Value 0
    pub leads : end_of s me (unveil_walk path no_permissions) ≡ Ok place
    pub encoded : read_permissions text ≡ Some permissions
    pub is : entry ≡ (target_of s.tree place, permissions)
    pub after : Process
    pub left : process_at (step program_of s pid).after pid ≡ Some after
    pub number : entry_for (entries_of_table after.table) (target_of s.tree place) ≡ Some k
    pub has : slice_get (entries_of_table after.table) k ≡ Some entry

  -- the step of process `pid` starts a new program, and the process is m
  abbrev pub begins_by : State → ℕ → Option Process → Bool
  begins_by s pid None = false
  begins_by s pid (Some me) = begins_image (next me) (step program_of s pid).outcome

  abbrev pub begins_program_of : State → ℕ → ℕ → Bool
  begins_program_of s pid m = (m == pid) && begins_by s pid (process_at s pid)

  -- process k after a run is process j before it or a descendant, no process of this line set the entry since, and
  -- `earlier` states whether one of them started a new program
  abbrev pub StaysSet : ℕ → ℕ → ℕ → Bool → List ℕ → State → Type 0
  StaysSet entry j k earlier [] s = (j ≡ k) × (earlier ≡ false)
  StaysSet entry j k earlier (pid ∷ pids) s =
      (m : ℕ) × (later : Bool) × (origin s pid m ≡ j) × IsTrue (is_some (process_at (step program_of s pid).after m))
      × ((me : Process) (e : Target × Perms) → SetsEntry s pid me entry e → m ≡ pid → ⊥)
      × (earlier ≡ (begins_program_of s pid m || later)) × StaysSet entry m k later pids (step program_of s pid).after

  -- the meaning of a setting of process k after a run: an unveil of the run at this line, by this process or an
  -- ancestor, gave the entry its permissions; no process of this line has set the entry since, and one of them has
  -- started a new program if and only if the setting says so
  pub record WasSet (pids : List ℕ) (s : State) (k number : ℕ) (entry : Target × Perms) (setting : Setting) : Type 0 where
    pub before : List ℕ
    pub by : ℕ
    pub since : List ℕ
    pub parts : pids ≡ before ++ by ∷ since
    pub me : Process
    pub sets : SetsEntry (run program_of before s).final by me number entry
    pub line : me.line ≡ setting.line
    pub stays : StaysSet number by k setting.earlier since (step program_of (run program_of before s).final by).after

-- each live process has exactly one setting for each of its entries
abbrev pub EachEntryIsSet : Type 0
EachEntryIsSet =
    (program_of : Bytes → Option Program) → EncodesPrograms program_of → (s : State) (pids : List ℕ) (k : ℕ) (p : Process) → IsValid s → HasNoTables s
    → process_at (run program_of pids s).final k ≡ Some p → length (settings_of (settings_along program_of pids [] s) k) ≡ length (entries_of_table p.table)

-- each setting names the unveil that set the entry
abbrev pub SettingsReportUnveils : Type 0
SettingsReportUnveils =
    (program_of : Bytes → Option Program) → EncodesPrograms program_of → (s : State) (pids : List ℕ) (k : ℕ) (p : Process) (number : ℕ) (setting : Setting) → IsValid s → HasNoTables s
    → process_at (run program_of pids s).final k ≡ Some p → slice_get (settings_of (settings_along program_of pids [] s) k) number ≡ Some setting
    → (entry : Target × Perms) × (slice_get (entries_of_table p.table) number ≡ Some entry) × WasSet program_of pids s k number entry setting

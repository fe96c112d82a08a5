-- The origins of table entries, as recorded for live processes.
use Rattle.std.specs.Prelude.{◌≡◌, ℕ, ◌&&◌, Bool, true, false, List, [], ◌∷◌, map, is_none, Option, None, Some}
use Rattle.std.specs.FinMap.Entries.{find, put}
use Rattle.std.specs.Ordering.{nat_cmp}
use Rattle.pv_model.specs.declared.call.Call.{Call}
use Rattle.pv_model.specs.declared.call.Call.TheVariants.{Fork, Unveil, Execve}
use Rattle.pv_model.specs.declared.outcome.Outcome.{Outcome}
use Rattle.pv_model.specs.declared.outcome.Outcome.TheVariants.{Value}
use Rattle.pv_model.specs.declared.target.Target.{Target}
use Rattle.pv_model.specs.Machine.{Setting, Settings, settings_of, entries_of_table, Process, State, process_at, entry_for}
use Rattle.pv_model.specs.Answers.Settings.{set_at, after_execve}
use Rattle.pv_explain.specs.declared.origins.ProcessOrigins.{ProcessOrigins}
use Rattle.pv_step_lines.specs.declared.origin.Origin.{Origin}
use Rattle.pv_step_lines.specs.Origin.{settings_in}

-- the origin, marked as of an earlier program
abbrev pub aged : Origin → Origin
aged o = record o { earlier = true }

abbrev pub origins_of_process : ProcessOrigins → ℕ × List Setting
origins_of_process k = (k.pid, settings_in k.origins.items)

-- all records
abbrev pub all_of : List ProcessOrigins → Settings
all_of ks = map origins_of_process ks

-- no process has two records
abbrev pub is_once : Settings → Bool
is_once [] = true
is_once (e ∷ es) = is_none (find nat_cmp e.0 es) && is_once es

-- a process is live
abbrev pub IsLive : State → ℕ → Type 0
IsLive s pid = (p : Process) × (process_at s pid ≡ Some p)

-- two sets of records agree on each live process
abbrev pub Agree : State → Settings → Settings → Type 0
Agree s all others = (pid : ℕ) → IsLive s pid → settings_of all pid ≡ settings_of others pid

-- ---- the records after a call, given the entry whose permissions an unveil(2) set

abbrev pub entry_for_target : Option Target → Option Process → Option ℕ
entry_for_target (Some target) (Some after) = entry_for (entries_of_table after.table) target
entry_for_target _ _ = None

abbrev pub set_now : ℕ → Option ℕ → List Setting → List Setting
set_now line None mine = mine
set_now line (Some k) mine = set_at mine k (record { line = line; earlier = false })

module _ (pid line : ℕ) (after : Option Process) (given : Option ℕ) (all : Settings) where
  -- the records after a call of a process that was at a line
  unfoldable pub reported_settings : Call → Outcome → Settings
  reported_settings Fork (Value child) = put nat_cmp child (settings_of all pid) all
  reported_settings (Unveil (Some path) permissions) (Value n) = put nat_cmp pid (set_now line given (settings_of all pid)) all
  reported_settings (Execve path) (Value n) = put nat_cmp pid (after_execve after (settings_of all pid)) all
  reported_settings _ _ = all

-- The walks of a call, and the permissions that they use.
use Rattle.std.specs.Prelude.{◌≡◌, ℕ, if◌then◌else◌, List, [], ◌∷◌, ◌++◌, flat_map, slice_get, Bool, Option, None, Some}
use Rattle.pv_model.specs.declared.perms.Perms.{Perms}
use Rattle.pv_model.specs.declared.target.Target.{Target}
use Rattle.pv_model.specs.Machine.{Judged, target_words, Granted, is_allowed, entries_of_table, Process, State, Tree, Table, governing_entry, judgement, Walk}
use Rattle.pv_model.specs.Answers.Policy.{place_of_target}
use Rattle.pv_needs.specs.Asking.{judged_if_begun}
use Rattle.pv_policy.specs.declared.asked.Asked.{Asked}

abbrev pub entry_granted : Tree → Target → Perms → Granted
entry_granted t target permissions = (target_words t target, permissions)

module _ (t : Tree) (table : Option Table) where
  abbrev pub grant_at_entry : Perms → Option (Target × Perms) → List Granted
  grant_at_entry permissions None = []
  grant_at_entry permissions (Some e) = entry_granted t e.0 permissions ∷ []

  abbrev pub grant_at_governor : Perms → Option ℕ → List Granted
  grant_at_governor permissions None = []
  grant_at_governor permissions (Some k) = grant_at_entry permissions (slice_get (entries_of_table table) k)

  -- the permissions that a walk used
  abbrev pub used_by_walk : Judged → List Granted
  used_by_walk w =
      if is_allowed (judgement t table (place_of_target w.target) w.permissions)
      then grant_at_governor w.permissions (governing_entry t (entries_of_table table) (place_of_target w.target))
      else []

module _ (s : State) (pid : ℕ) (me : Process) where
  -- these walks, and the permissions that they used
  pub record Has (ws : List Judged) (asked : Asked) : Type 0 where
    pub walks : asked.walks.items ≡ ws
    pub used : asked.used.items ≡ flat_map (used_by_walk s.tree me.table) ws

  -- a walk was added, if it is begun
  abbrev pub HasMore : Bool → Walk → Asked → Asked → Type 0
  HasMore is_begun w old new = (ws : List Judged) → Has ws old → Has (ws ++ judged_if_begun s pid me is_begun w) new

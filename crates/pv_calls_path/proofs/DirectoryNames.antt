-- The names in directories after a system call, and the names that the lookup must forget.
use Rattle.std.proofs.Common.{◌≡◌, ◌∙◌, ℕ, Option, None, Some, refl, ap, sym, subst}
use Rattle.pv_laws_states.specs.States.{IsValid}
use Rattle.pv_laws_states.proofs.CollectedStates.{held_after, tree-collect}
use Rattle.pv_model.specs.Machine.{update, update_live, Bytes, collect, Process, State, process_at, Tree, find_entry, IsWellFormed}
use Rattle.pv_laws_trees.specs.Found.{AreEqualLookups, AreEqualExceptAt}
use Rattle.pv_laws_trees.proofs.LookupsAfterChanges.{alike-then, alike-preserved}

-- collection keeps the names
pub alike_collect : (u new : State) → new ≡ collect u → IsWellFormed u.tree → AreEqualLookups (find_entry u.tree) (find_entry new.tree)
alike_collect u new is w d name =
    ap (λ (x : State). find_entry x.tree d name) is ∙ ap (λ (t : Tree). find_entry t d name) (tree-collect u) ∙ alike-preserved u.tree w (held_after u) d name

pub but_collect : (d : ℕ) (name : Bytes) (s u new : State) → new ≡ collect u → IsWellFormed u.tree → AreEqualExceptAt d name (find_entry s.tree) (find_entry u.tree)
    → AreEqualExceptAt d name (find_entry s.tree) (find_entry new.tree)
but_collect d name s u new is w changed = alike-then d name (find_entry s.tree) (find_entry u.tree) (find_entry new.tree) changed (alike_collect u new is w)

pub update_tree : (s : State) (pid : ℕ) (f : Process → Process) (o : Option Process) → (update_live s pid f o).tree ≡ s.tree
update_tree s pid f None = refl
update_tree s pid f (Some p) = refl

-- a change of one process keeps the names
pub alike_update : (s : State) → IsValid s → (pid : ℕ) (f : Process → Process) (new : State) → new ≡ collect (update s pid f) → AreEqualLookups (find_entry s.tree) (find_entry new.tree)
alike_update s whole pid f new is d name =
    let same : (update s pid f).tree ≡ s.tree = update_tree s pid f (process_at s pid) in
    alike_collect (update s pid f) new is (subst IsWellFormed (sym same) whole.tree.well_formed) d name ∙ ap (λ (t : Tree). find_entry t d name) same

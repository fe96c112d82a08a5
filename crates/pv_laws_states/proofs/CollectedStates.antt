-- The state after collection.
use Rattle.std.proofs.Common.{◌≡◌, ℕ, Bool, true, false, ◌&&◌, List, refl, ap, ◌∙◌}
use Rattle.pv_model.specs.Machine.{among, collect, keep, State, Tree, IsWellFormed}
use Rattle.pv_model.specs.Held.{held_nodes, collect_nodes, collect_files}
use Rattle.pv_laws_trees.specs.Preserved.{EachIsNamed, numbers_wanted, preserved}
use Rattle.pv_laws_states.specs.Held.{used, IsCollected}
use Rattle.pv_laws_trees.proofs.NumberedMaps.{keep-keep, keep-agree, keep-passes, keep-fails}
use Rattle.pv_laws_trees.proofs.Trees.{sound, well_formed}
use Rattle.pv_laws_trees.proofs.Collection.{preserved_all, wanted-is, wanted-covers, only-sound, preserved_in_turn}

pub collect_nodes_all : (s : State) → EachIsNamed s.tree → collect_nodes s ≡ s
collect_nodes_all s each = ap (λ t. record s { tree = t }) (preserved_all s.tree (held_nodes s) each)

-- the nodes that are referenced after the open files are collected
abbrev pub held_after : State → List ℕ
held_after s = held_nodes (collect_files s)

pub tree-collect : (s : State) → (collect s).tree ≡ preserved s.tree (held_after s)
unfolding collect
tree-collect s = refl

pub files-collect : (s : State) → (collect s).files ≡ keep (among (used s)) s.files
unfolding collect
files-collect s = refl

pub processes-collect : (s : State) → (collect s).processes ≡ s.processes
unfolding collect
processes-collect s = refl

pub last-collect : (s : State) → (collect s).last_process ≡ s.last_process
unfolding collect
last-collect s = refl

pub is_collected : (s : State) → IsCollected s (collect s)
unfolding collect
is_collected s = record {
  used_files_stay = λ k is. keep-passes (among (used s)) s.files k is;
  other_files_go = λ k no. keep-fails (among (used s)) s.files k no;
  wanted_nodes_stay = λ n is. keep-passes (among (numbers_wanted s.tree (held_after s))) s.tree.nodes n (wanted-is s.tree (held_after s) n ∙ is);
  other_nodes_go = λ n no. keep-fails (among (numbers_wanted s.tree (held_after s))) s.tree.nodes n (wanted-is s.tree (held_after s) n ∙ no);
  processes_stay = refl;
  last_process_stays = refl;
}

pub collect-well_formed : (s : State) → IsWellFormed s.tree → IsWellFormed (collect s).tree
unfolding collect
collect-well_formed s w =
    well_formed (preserved s.tree (held_after s)) (only-sound s.tree (numbers_wanted s.tree (held_after s)) (sound s.tree w) (wanted-covers s.tree (held_after s)))

self : (b : Bool) → (b && b) ≡ b
self true = refl
self false = refl

pub collect_once : (s : State) → IsWellFormed s.tree → collect (collect s) ≡ collect s
unfolding collect
collect_once s w =
    let files = keep (among (used s)) s.files in
    let again : keep (among (used s)) files ≡ files =
    keep-keep (among (used s)) (among (used s)) s.files ∙ keep-agree (λ n. among (used s) n && among (used s) n) (among (used s)) s.files (λ n. self (among (used s) n)) in
    let t : Tree = preserved s.tree (held_after s) in
    ap (λ fs. record (record s { files = fs }) { tree = preserved t (held_nodes (record s { files = fs })) }) again
    ∙ ap (λ u. record (record s { files = files }) { tree = u }) (preserved_in_turn s.tree (held_after s) (held_after s) (sound s.tree w) (λ n is. is))

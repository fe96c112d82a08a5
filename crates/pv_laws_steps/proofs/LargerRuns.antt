-- Runs in a larger image.
use Rattle.std.proofs.Common.{◌≡◌, ℕ, suc, true, false, Bool, List, [], ◌∷◌, ◌++◌, length, Option, None, Some, refl, ap, ap₂, sym, subst, ◌∙◌, option_map, option_and_then}
use Rattle.std.specs.List.{list_all}
use Rattle.std.specs.Prelude.{codes}
use Rattle.std.specs.FinMap.Entries.{find}
use Rattle.std.proofs.lemmas.Bool.{and_parts}
use Rattle.std.proofs.lemmas.List.Folds.{list_all-append}
use Rattle.pv_model.specs.Machine.{Bytes, among, named_tree, keep_if, is_too_long, fits, Program, State, with_tree, first_state, Stepped, step, run, boot, Line, trace_bytes, Node, directory_node, file_node, link_node, Tree, root, node_at, entries_of, find_entry, named_numbers}
use Rattle.pv_model.specs.Start.{init_of}
use Rattle.pv_model.specs.Step.{init_program}
use Rattle.pv_laws_states.specs.States.{EncodesPrograms, IsValid}
use Rattle.pv_laws_states.proofs.ValidBySteps.{step-keeps_valid}
use Rattle.pv_laws_trees.proofs.DirectoryEntries.{by_name}
use Rattle.pv_laws_trees.proofs.NumberedMaps.{same_numbered, at_number-keep}
use Rattle.pv_laws_steps.specs.Larger.{IsLarger, ReportsNoLimit, is_limit_word, LargerTreeHasRoom, IsInLarger, StepsDifferInSizes, RunsDifferInSizes, TracesAreEqual}
use Rattle.pv_laws_steps.proofs.LargerTrees.{enlarged, node-enlarged, named-enlarged}
use Rattle.pv_laws_steps.proofs.LargerTreeRoom.{numbers-enlarged, fits-enlarged, short-enlarged}
use Rattle.pv_laws_steps.proofs.LargerAttempts.{enlarge, IsWithin}
use Rattle.pv_laws_steps.proofs.LargerSteps.{within-step, step-alike}

-- ---- the same nodes

-- every larger tree has this form
larger-is : (old new : Tree) → length old.nodes ≡ suc old.inodes → IsLarger old new → new ≡ enlarged new.blocks new.inodes old
larger-is old new numbers larger =
    let other : Tree = enlarged new.blocks new.inodes old in
    let nodes = same_numbered new.nodes other.nodes (larger.numbers ∙ sym (numbers-enlarged new.blocks new.inodes old numbers larger.inodes)) (λ n. larger.nodes n ∙ sym (node-enlarged new.blocks new.inodes old n)) in
    λ i. record { nodes = nodes i; blocks = new.blocks; inodes = new.inodes; version = larger.version i }

enlarged-larger : (blocks inodes : ℕ) (t : Tree) → length t.nodes ≡ suc t.inodes → IsWithin blocks inodes t → IsLarger t (enlarged blocks inodes t)
enlarged-larger blocks inodes t numbers sized = record {
  nodes = node-enlarged blocks inodes t;
  numbers = numbers-enlarged blocks inodes t numbers sized.1;
  version = refl;
  blocks = sized.0;
  inodes = sized.1;
}

in_larger-is : (s u : State) → length s.tree.nodes ≡ suc s.tree.inodes → IsInLarger s u → u ≡ enlarge u.tree.blocks u.tree.inodes s
in_larger-is s u numbers larger = larger.rest ∙ ap (with_tree s) (larger-is s.tree u.tree numbers larger.tree)

enlarge-in_larger : (blocks inodes : ℕ) (s : State) → length s.tree.nodes ≡ suc s.tree.inodes → IsWithin blocks inodes s.tree → IsInLarger s (enlarge blocks inodes s)
enlarge-in_larger blocks inodes s numbers sized = record { tree = enlarged-larger blocks inodes s.tree numbers sized; rest = refl }

-- a property of enlarged states holds for each larger state
in_larger : (P : State → State → Type 0) → ((blocks inodes : ℕ) (s : State) → IsValid s → IsWithin blocks inodes s.tree → P s (enlarge blocks inodes s))
    → (s u : State) → IsValid s → IsInLarger s u → P s u
in_larger P by s u whole larger =
    subst (P s) (sym (in_larger-is s u whole.tree.well_formed.numbers larger)) (by u.tree.blocks u.tree.inodes s whole (larger.tree.blocks, larger.tree.inodes))

pub larger-has_room : (old new : Tree) → IsLarger old new → length old.nodes ≡ suc old.inodes → LargerTreeHasRoom old new
larger-has_room old new larger numbers =
    let same = larger-is old new numbers larger in
    record {
      fits = λ fit. ap fits same ∙ fits-enlarged new.blocks new.inodes old larger.blocks larger.inodes fit;
      not_too_long = λ short. ap is_too_long same ∙ short-enlarged new.blocks new.inodes old short;
    }

-- ---- steps and runs

module _ (program_of : Bytes → Option Program) (encodes : EncodesPrograms program_of) where
  steps_alike : (blocks inodes : ℕ) (s : State) (pid : ℕ) → IsValid s → IsWithin blocks inodes s.tree → ReportsNoLimit (step program_of s pid).lines
      → StepsDifferInSizes (step program_of s pid) (step program_of (enlarge blocks inodes s) pid)
  steps_alike blocks inodes s pid whole sized none =
      let both = step-alike blocks inodes program_of encodes s pid whole sized none in
      let after : State = (step program_of s pid).after in
      record {
        outcome = both.outcome;
        lines = both.lines;
        after = subst (IsInLarger after) (sym both.after)
            (enlarge-in_larger blocks inodes after (step-keeps_valid program_of encodes s pid whole).tree.well_formed.numbers (within-step blocks inodes program_of encodes s pid whole sized));
      }

  pub larger-keeps_steps : (s u : State) (pid : ℕ) → IsValid s → IsInLarger s u → ReportsNoLimit (step program_of s pid).lines → StepsDifferInSizes (step program_of s pid) (step program_of u pid)
  larger-keeps_steps s u pid whole larger none =
      in_larger (λ x y. ReportsNoLimit (step program_of x pid).lines → StepsDifferInSizes (step program_of x pid) (step program_of y pid)) (λ blocks inodes x is sized. steps_alike blocks inodes x pid is sized) s u whole larger none

  pub larger-keeps_runs : (pids : List ℕ) (s u : State) → IsValid s → IsInLarger s u → ReportsNoLimit (run program_of pids s).lines → RunsDifferInSizes (run program_of pids s) (run program_of pids u)
  larger-keeps_runs [] s u whole larger none = record { lines = refl; final = larger }
  larger-keeps_runs (pid ∷ pids) s u whole larger none =
      let now : Stepped = step program_of s pid in
      let test : Line → Bool = λ l. Rattle.std.specs.Prelude.not (is_limit_word l.word) in
      let parts = and_parts (list_all test now.lines) (list_all test (run program_of pids now.after).lines) (sym (list_all-append test now.lines (run program_of pids now.after).lines) ∙ none) in
      let first = larger-keeps_steps s u pid whole larger parts.0 in
      let rest = larger-keeps_runs pids now.after (step program_of u pid).after (step-keeps_valid program_of encodes s pid whole) first.after parts.1 in
      record { lines = ap₂ (λ (xs ys : List Line). xs ++ ys) first.lines rest.lines; final = rest.final }

  -- ---- final texts and trees

  named-alike : (s u : State) → IsValid s → IsInLarger s u → (n : ℕ) → node_at (named_tree u.tree) n ≡ node_at (named_tree s.tree) n
  named-alike = in_larger (λ x y. (n : ℕ) → node_at (named_tree y.tree) n ≡ node_at (named_tree x.tree) n) (λ blocks inodes x whole sized n.
      let t : Tree = x.tree in
      let ns : List ℕ = root ∷ named_numbers t in
      at_number-keep (among (root ∷ named_numbers (enlarged blocks inodes t))) (enlarged blocks inodes t).nodes n
      ∙ ap₂ (λ (ms : List ℕ) (o : Option Node). keep_if (among (root ∷ ms) n) o) (named-enlarged blocks inodes t) (node-enlarged blocks inodes t n)
      ∙ sym (at_number-keep (among ns) t.nodes n))

  pub larger-keeps_traces : (s u : State) (pids : List ℕ) → IsValid s → IsInLarger s u → ReportsNoLimit (run program_of pids s).lines → TracesAreEqual program_of pids s u
  larger-keeps_traces s u pids whole larger none =
      let both = larger-keeps_runs pids s u whole larger none in
      record {
        text = ap trace_bytes both.lines;
        nodes = named-alike (run program_of pids s).final (run program_of pids u).final (Rattle.pv_laws_states.proofs.ValidBySteps.run-keeps_valid program_of encodes pids s whole) both.final;
      }

-- ---- first states

-- the node of the first program is the same
pub init-alike : (old new : Tree) → IsLarger old new → init_of new ≡ init_of old
init-alike old new larger =
    let found : find_entry new root (codes "init") ≡ find_entry old root (codes "init") = ap (λ o. find by_name (codes "init") (entries_of o)) (larger.nodes root) in
    ap (option_and_then (node_at new)) found ∙ by (find_entry old root (codes "init"))
  where
    by : (o : Option ℕ) → option_and_then (node_at new) o ≡ option_and_then (node_at old) o
    by None = refl
    by (Some n) = larger.nodes n

init_program-alike : (program_of : Bytes → Option Program) (old new : Tree) (o : Option Node) → init_program program_of new o ≡ init_program program_of old o
init_program-alike program_of old new None = refl
init_program-alike program_of old new (Some (directory_node es)) = refl
init_program-alike program_of old new (Some (link_node text)) = refl
init_program-alike program_of old new (Some (file_node true bytes)) = refl
init_program-alike program_of old new (Some (file_node false bytes)) = refl

pub larger-starts : (program_of : Bytes → Option Program) (old new : Tree) (s : State) → IsLarger old new → boot program_of old ≡ Some s → (u : State) × (boot program_of new ≡ Some u) × IsInLarger s u
larger-starts program_of old new s larger is =
    started (init_program program_of old (init_of old)) is
    (ap (option_map (first_state new)) (ap (init_program program_of new) (init-alike old new larger) ∙ init_program-alike program_of old new (init_of old)))
  where
    started : (p : Option Program) → option_map (first_state old) p ≡ Some s → boot program_of new ≡ option_map (first_state new) p → (u : State) × (boot program_of new ≡ Some u) × IsInLarger s u
    started None none boots = cc none
    started (Some program) is boots =
        let same : first_state old program ≡ s = cc is in
        (first_state new program, boots, subst (λ x. IsInLarger x (first_state new program)) same (record { tree = larger; rest = refl }))

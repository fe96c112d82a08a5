-- Collecting unreferenced nodes by counts gives the same tree as searching for references.
use Rattle.std.proofs.Common.{◌≡◌, ℕ, zero, suc, ◌+◌, ◌<◌, ◌↔◌, Bool, true, false, cond, ◌||◌, ◌==◌, List, [], ◌∷◌, ◌++◌, length, Option, refl, ap, ap₂, sym, ◌∙◌, zero-add, arith, ⊎_elim}
use Rattle.std.specs.Prelude.{slice_index, IsSome, is_some}
use Rattle.std.proofs.lemmas.Bool.{cases_Bool}
use Rattle.std.proofs.lemmas.List.Sums.{sum_by-append, sum_by-cons}
use Rattle.pv_calls_state.specs.Counts.{state_of, times, used_in, held_in, open_nodes, IsCountedUp}
use Rattle.pv_files.specs.Counted.{Counted, IsCounted}
use Rattle.pv_laws_states.specs.Held.{used}
use Rattle.pv_model.specs.Machine.{among, collect, Numbered, at_number, keep, keep_if, OpenFile, State, Tree}
use Rattle.pv_procs.specs.ProcessTable.{ProcessTable}
use Rattle.pv_laws_trees.specs.Preserved.{preserved}
use Rattle.pv_laws_trees.proofs.Collection.{preserved-agree}
use Rattle.pv_laws_trees.proofs.NameCounts.{is_positive, positive-is, is-positive}
use Rattle.pv_laws_trees.proofs.ReferenceCounts.{held-is}
use Rattle.pv_laws_trees.proofs.NumberedMaps.{same_numbered, at_number-keep, length-keep}
use Rattle.pv_laws_trees.proofs.ListTests.{not-there}
use Rattle.pv_procs.specs.OfTree.Holding.{HeldTree, referenced_numbers, collected}
use Rattle.pv_procs.specs.OfTree.Present.{IsPresent}

-- ---- counts

-- 1 for the number itself, 0 for others
abbrev pub one_if : ℕ → ℕ → ℕ
one_if m n = cond (m == n) 1 0

pub times-append : (n : ℕ) (a b : List ℕ) → times n (a ++ b) ≡ times n a + times n b
times-append n a b = sum_by-append (λ m. cond (m == n) 1 0) a b

pub times-cons : (n m : ℕ) (ns : List ℕ) → times n (m ∷ ns) ≡ one_if m n + times n ns
times-cons n m ns = sum_by-cons (λ k. cond (k == n) 1 0) m ns

one-more : (b : Bool) (k : ℕ) → is_positive (cond b 1 0 + k) ≡ (b || is_positive k)
one-more true k = let more : 1 + k ≡ suc k = omega arith in ap is_positive more
one-more false k = ap is_positive (zero-add k)

-- a number with a positive count occurs in the list
pub among-times : (n : ℕ) (ns : List ℕ) → among ns n ≡ is_positive (times n ns)
among-times n [] = refl
among-times n (m ∷ ns) =
    ap (λ b. (m == n) || b) (among-times n ns) ∙ sym (one-more (m == n) (times n ns)) ∙ ap is_positive (sym (times-cons n m ns))

pub among-counted : (n : ℕ) (ns : List ℕ) → 0 < times n ns → among ns n ≡ true
among-counted n ns more = among-times n ns ∙ positive-is (times n ns) more

pub counted-among : (n : ℕ) (ns : List ℕ) → among ns n ≡ true → 0 < times n ns
counted-among n ns is = is-positive (times n ns) (sym (among-times n ns) ∙ is)

-- ---- nodes

-- collecting by counts equals collecting by the counted list
pub collected-counted : (t : Tree) (holds ns : List ℕ) → ((n : ℕ) → slice_index holds n ≡ times n ns) → collected t holds ≡ preserved t ns
collected-counted t holds ns counts =
    preserved-agree t (referenced_numbers holds) ns (λ n. held-is holds n ∙ ap is_positive (counts n) ∙ sym (among-times n ns))

-- ---- open files

preserved-file : (o p : Option OpenFile) (n : ℕ) → (IsSome p ↔ (0 < n)) → (0 < n → p ≡ o) → keep_if (is_positive n) o ≡ p
preserved-file o p zero used same =
    ⊎_elim (λ is. let more = used.0 is in absurd (omega arith)) (λ none. sym (not-there p none)) (cases_Bool (is_some p))
preserved-file o p (suc n) used same = sym (same (omega arith))

-- the open files with a positive count are those that are used
pub files-counted : (c : Counted) (files : Numbered OpenFile) (ks : List ℕ) → IsCounted c → length files ≡ 128 → ((k : ℕ) → slice_index c.users k ≡ times k ks)
    → ((k : ℕ) → 0 < slice_index c.users k → at_number c.files k ≡ at_number files k) → keep (among ks) files ≡ c.files
files-counted c files ks is long counts same =
    same_numbered (keep (among ks) files) c.files (length-keep (among ks) files ∙ long ∙ sym is.slots)
    (λ k.
    at_number-keep (among ks) files k ∙ ap (λ b. keep_if b (at_number files k)) (among-times k ks ∙ ap is_positive (sym (counts k)))
    ∙ preserved-file (at_number files k) (at_number c.files k) (slice_index c.users k) (is.used k) (same k))

-- ---- states

-- the collected state has the open files that are used, and the nodes that are then referenced
pub collect-is : (s : State) (files : Numbered OpenFile) (holds : List ℕ) → keep (among (used s)) s.files ≡ files
    → ((n : ℕ) → slice_index holds n ≡ times n (held_in s.processes) + times n (open_nodes files)) → collect s ≡ record s { tree = collected s.tree holds; files = files }
unfolding collect
collect-is s files holds same counts =
    ap (λ fs. record s { tree = preserved s.tree (held_in s.processes ++ open_nodes fs); files = fs }) same
    ∙ ap (λ t. record s { tree = t; files = files })
    (sym (collected-counted s.tree holds (held_in s.processes ++ open_nodes files) (λ n. counts n ∙ sym (times-append n (held_in s.processes) (open_nodes files)))))

-- the parts represent the collected state of their processes and files and of the tree before
pub collect-parts : (s : State) (tree : HeldTree) (c : Counted) (processes : ProcessTable) → IsCountedUp tree c processes → IsCounted c → length s.files ≡ 128
    → processes.processes ≡ s.processes → processes.last_process ≡ s.last_process → collected s.tree tree.holds ≡ tree.tree
    → ((k : ℕ) → 0 < slice_index c.users k → at_number c.files k ≡ at_number s.files k) → collect s ≡ state_of tree c processes
collect-parts s tree c processes up is long same last nodes files =
    collect-is s c.files tree.holds
    (files-counted c s.files (used s) is long (λ k. up.users k ∙ ap (λ ps. times k (used_in ps)) same) files)
    (λ n. up.holds n ∙ ap (λ ps. times n (held_in ps) + times n (open_nodes c.files)) same)
    ∙ ap (λ t. record s { tree = t; files = c.files }) nodes
    ∙ ap₂ (λ ps l. record { tree = tree.tree; files = c.files; processes = ps; last_process = l }) (sym same) (sym last)

-- the parts represent a state without unreferenced nodes
pub collect-none : (tree : HeldTree) (c : Counted) (processes : ProcessTable) → IsCountedUp tree c processes → IsCounted c → IsPresent tree
    → collect (state_of tree c processes) ≡ state_of tree c processes
collect-none tree c processes up is present =
    collect-parts (state_of tree c processes) tree c processes up is is.slots refl refl present.is_collected (λ k more. refl)

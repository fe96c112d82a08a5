-- Valid states.
use Rattle.std.proofs.Common.{◌≡◌, ◌≢◌, ℕ, ◌+◌, ◌≤◌, Bool, true, false, cond, ◌&&◌, ◌||◌, ◌==◌, nat_le, List, [], ◌∷◌, map, length, Option, None, Some, is_some, refl, ap, ap₂, sym, subst, ◌∙◌, ⊎_elim}
use Rattle.std.specs.List.{list_all}
use Rattle.std.specs.Ordering.{nat_cmp}
use Rattle.std.specs.FinMap.Entries.{by_order, find, put, is_sorted, is_sorted-put, length-put}
use Rattle.std.specs.declared.cmp.Ordering.TheVariants.{Less, Equal, Greater}
use Rattle.std.proofs.lemmas.Bool.{and_parts, and_from, or_left, or_right, eq-eqb, cases_eq, cases_Bool}
use Rattle.std.proofs.lemmas.Cmp.{nat_cmp_total}
use Rattle.pv_model.specs.Machine.{parent_of, among, held_by_table, collect, Numbered, keep, fits, is_too_long, is_file, OpenFile, Process, ProcessRecord, live, ended_record, State, process_at, with_process, Tree, node_at, is_directory, is_directory_at, is_name, Table, target_directory}
use Rattle.pv_model.specs.declared.target.Target.{Target}
use Rattle.pv_model.specs.declared.target.Target.TheVariants.{Directory as of_directory, Name as of_name}
use Rattle.pv_laws_states.specs.Held.{used}
use Rattle.pv_laws_trees.specs.Preserved.{numbers_wanted, preserved}
use Rattle.pv_laws_states.specs.States.{are_bytes, is_listed_name, IsOpenFile, is_target, is_table, IsRunning, IsPlaced, is_process_number, IsSolid, IsValid}
use Rattle.pv_laws_trees.proofs.DirectoryEntries.{reported, report}
use Rattle.pv_laws_states.proofs.ReferenceMembers.{among-used, among-held_by, among-held_file, live-found}
use Rattle.pv_laws_trees.proofs.NumberedMaps.{keep-some, keep-passes, length-keep}
use Rattle.pv_laws_states.proofs.Processes.{find-put_same, find-put_other, process_at-same, process_at-other}
use Rattle.pv_laws_trees.proofs.NodeRoom.{smaller-fits, smaller-not_too_long, preserved-no_larger}
use Rattle.pv_laws_states.proofs.CollectedStates.{held_after, collect-well_formed, collect_once}
use Rattle.pv_laws_trees.proofs.Collection.{wanted-held}

-- ---- room

-- the collected tree has room
pub record HasRoom (s : State) : Type 0 where
  pub fits : fits (collect s).tree ≡ true
  pub not_too_long : is_too_long (collect s).tree ≡ false

pub has_room : (s : State) → fits s.tree ≡ true → is_too_long s.tree ≡ false → HasRoom s
unfolding collect
has_room s fit short = record {
  fits = smaller-fits s.tree (preserved s.tree (held_after s)) (preserved-no_larger s.tree (held_after s)) fit;
  not_too_long = ⊎_elim (λ long. let was = smaller-not_too_long s.tree (preserved s.tree (held_after s)) (preserved-no_larger s.tree (held_after s)) long in cc) (λ no_long. no_long)
      (cases_Bool (is_too_long (preserved s.tree (held_after s))));
}

-- ---- references to nodes that stay

pub file-same : (t u : Tree) (f : OpenFile) → node_at u f.node ≡ node_at t f.node → u.version ≡ t.version → IsOpenFile t f → IsOpenFile u f
file-same t u f same version is = record {
  node = ap (λ o. is_file o || is_directory o) same ∙ is.node;
  directory = λ dir. is.directory (sym (ap is_directory same) ∙ dir);
  offset = is.offset;
  listed = ap (λ v. is_listed_name v f.listed) version ∙ is.listed;
}

target-same : (t u : Tree) (target : Target) → is_directory_at u (target_directory target) ≡ is_directory_at t (target_directory target) → u.version ≡ t.version → is_target u target ≡ is_target t target
target-same t u (of_directory d) same version = same
target-same t u (of_name d name) same version = ap₂ (λ a v. a && (is_name v name && are_bytes name)) same version

targets-same : (t u : Tree) (table : Table) → u.version ≡ t.version
    → ((n : ℕ) → among (map (λ e. target_directory e.0) table) n ≡ true → is_directory_at u n ≡ is_directory_at t n) → list_all (λ e. is_target u e.0) table ≡ list_all (λ e. is_target t e.0) table
targets-same t u [] version same = refl
targets-same t u (e ∷ es) version same =
    ap₂ (λ a b. a && b) (target-same t u e.0 (same (target_directory e.0) (or_left (target_directory e.0 == target_directory e.0) _ (eq-eqb _ _ refl))) version)
    (targets-same t u es version (λ n is. same n (or_right (target_directory e.0 == n) _ is)))

pub table-same : (t u : Tree) (table : Option Table) → u.version ≡ t.version → ((n : ℕ) → among (held_by_table table) n ≡ true → is_directory_at u n ≡ is_directory_at t n)
    → is_table t table ≡ true → is_table u table ≡ true
table-same t u None version same is = refl
table-same t u (Some table) version same is = ap (λ b. nat_le (length table) 64 && b) (targets-same t u table version same) ∙ is

-- ---- a collected state is valid

held-stays : (s : State) (n : ℕ) → among (held_after s) n ≡ true → node_at (preserved s.tree (held_after s)) n ≡ node_at s.tree n
held-stays s n is = keep-passes (among (numbers_wanted s.tree (held_after s))) s.tree.nodes n (wanted-held s.tree (held_after s) n is)

pub collect-valid : (s : State) → IsSolid s → HasRoom s → IsValid (collect s)
unfolding collect
collect-valid s solid room =
    let t : Tree = preserved s.tree (held_after s) in
    let fs : Numbered OpenFile = keep (among (used s)) s.files in
    record {
      tree = record {
        well_formed = collect-well_formed s solid.tree.well_formed;
        bytes = λ n node at. solid.tree.bytes n node (keep-some (among (numbers_wanted s.tree (held_after s))) s.tree.nodes n node at).1;
      };
      files = record {
        count = length-keep (among (used s)) s.files ∙ solid.files.count;
        each = λ k f at.
            let parts = keep-some (among (used s)) s.files k f at in
            file-same s.tree t f (held-stays s f.node (among-held_file s k f parts.1 parts.0)) refl (solid.files.each k f parts.1);
      };
      processes = record {
        ascending = solid.processes.ascending;
        numbers = solid.processes.numbers;
        count = solid.processes.count;
        last = solid.processes.last;
        running = solid.processes.running;
        placed = λ pid p at.
            let was = solid.processes.placed pid p at in
            record {
              directory = ap is_directory (held-stays s p.directory (among-held_by s pid p p.directory at (or_left (p.directory == p.directory) _ (eq-eqb p.directory p.directory refl)))) ∙ was.directory;
              descriptors = was.descriptors;
              opens = λ d x is. ap is_some (keep-passes (among (used s)) s.files x.file (among-used s pid p d x at is)) ∙ was.opens d x is;
              table = table-same s.tree t p.table refl
                  (λ n is. ap is_directory (held-stays s n (among-held_by s pid p n at (or_right (p.directory == n) (among (held_by_table p.table) n) is)))) was.table;
            };
        first = solid.processes.first;
        parents = solid.processes.parents;
        ended = solid.processes.ended;
      };
      collected = collect_once s solid.tree.well_formed;
      fits = room.fits;
      not_too_long = room.not_too_long;
    }

pub solid : (s : State) → IsValid s → IsSolid s
solid s whole = record { tree = whole.tree; files = whole.files; processes = whole.processes }

-- ---- processes that change

pub list_all-put_number : {X : Type 0} (test : ℕ → Bool) (k : ℕ) (v : X) (es : List (ℕ × X)) → test k ≡ true
    → list_all (λ e. test e.0) es ≡ true → list_all (λ e. test e.0) (put nat_cmp k v es) ≡ true
list_all-put_number test k v [] here all = and_from _ _ here refl
list_all-put_number test k v (e ∷ es) here all =
    let parts = and_parts (test e.0) (list_all (λ e. test e.0) es) all in
    elim (nat_cmp k e.0) as (λ o. list_all (λ e. test e.0) (by_order o ((k, v) ∷ e ∷ es) ((e.0, v) ∷ es) (e ∷ put nat_cmp k v es)) ≡ true) [
      | Less ↦ and_from _ _ here all
      | Equal ↦ all
      | Greater ↦ and_from _ _ parts.0 (list_all-put_number test k v es here parts.1)
    ]

pub length-put_there : {X : Type 0} (k : ℕ) (v w : X) (es : List (ℕ × X)) → is_sorted nat_cmp es ≡ true → find nat_cmp k es ≡ Some w → length (put nat_cmp k v es) ≡ length es
length-put_there k v w es sorted is = length-put nat_cmp nat_cmp_total k v es (report _ sorted) ∙ ap (λ o. cond (is_some o) (length es) (length es + 1)) is

pub sorted-put_number : {X : Type 0} (k : ℕ) (v : X) (es : List (ℕ × X)) → is_sorted nat_cmp es ≡ true → is_sorted nat_cmp (put nat_cmp k v es) ≡ true
sorted-put_number k v es sorted = reported _ (is_sorted-put nat_cmp nat_cmp_total k v es (report _ sorted))

-- lookups in a state after a process is stored
pub put-cases : (P : Type 0) (s : State) (pid : ℕ) (q : Process) (k : ℕ) (r : ProcessRecord) → find nat_cmp k (with_process s pid q).processes ≡ Some r
    → (k ≡ pid → r ≡ live q → P) → (k ≢ pid → find nat_cmp k s.processes ≡ Some r → P) → P
put-cases P s pid q k r is here there =
    ⊎_elim
    (λ same. let eq : Some (live q) ≡ Some r = sym (find-put_same pid (live q) s.processes) ∙ ap (λ j. find nat_cmp j (with_process s pid q).processes) (sym same) ∙ is in
    let value : live q ≡ r = cc eq in here same (sym value))
    (λ other. there other (sym (find-put_other k pid (live q) s.processes other) ∙ is)) (cases_eq k pid)

pub with_process-cases : (P : Type 0) (s : State) (pid : ℕ) (q : Process) (k : ℕ) (p : Process) → process_at (with_process s pid q) k ≡ Some p
    → (k ≡ pid → q ≡ p → P) → (k ≢ pid → process_at s k ≡ Some p → P) → P
with_process-cases P s pid q k p is here there =
    ⊎_elim
    (λ same. let eq : Some q ≡ Some p = sym (process_at-same s pid q) ∙ ap (process_at (with_process s pid q)) (sym same) ∙ is in here same (cc eq))
    (λ other. there other (sym (process_at-other s pid q k other) ∙ is)) (cases_eq k pid)

pub still-live : (s : State) (pid : ℕ) (q : Process) (k : ℕ) → is_some (process_at s k) ≡ true → is_some (process_at (with_process s pid q) k) ≡ true
still-live s pid q k is =
    ⊎_elim (λ same. ap is_some (ap (process_at (with_process s pid q)) same ∙ process_at-same s pid q)) (λ other. ap is_some (process_at-other s pid q k other) ∙ is) (cases_eq k pid)

-- a process is replaced by one with the same parent
pub solid-with_process : (s : State) (pid : ℕ) (p q : Process) → IsSolid s → process_at s pid ≡ Some p → IsRunning q → IsPlaced s.tree s.files q → q.parent ≡ p.parent
    → IsSolid (with_process s pid q)
solid-with_process s pid p q is at running placed parent =
    let ps = is.processes in
    let found = live-found s pid p at in
    record {
      tree = is.tree;
      files = is.files;
      processes = record {
        ascending = sorted-put_number pid (live q) s.processes ps.ascending;
        numbers = list_all-put_number (is_process_number s.last_process) pid (live q) s.processes
            (Rattle.pv_laws_states.proofs.ReferenceMembers.find_number-list_all (is_process_number s.last_process) pid (live p) s.processes ps.numbers found) ps.numbers;
        count = subst (λ n. n ≤ 32) (sym (length-put_there pid (live q) (live p) s.processes ps.ascending found)) ps.count;
        last = ps.last;
        running = λ k r is'. with_process-cases (IsRunning r) s pid q k r is' (λ same value. subst IsRunning value running) (λ other was. ps.running k r was);
        placed = λ k r is'. with_process-cases (IsPlaced s.tree s.files r) s pid q k r is' (λ same value. subst (IsPlaced s.tree s.files) value placed) (λ other was. ps.placed k r was);
        first = λ r is'. with_process-cases (r.parent ≡ 0) s pid q 1 r is'
            (λ same value. sym (ap (λ x. x.parent) value) ∙ parent ∙ ps.first p (ap (process_at s) same ∙ at)) (λ other was. ps.first r was);
        parents = λ k r is' has. still-live s pid q (parent_of r) (put-cases (is_some (process_at s (parent_of r)) ≡ true) s pid q k r is'
            (λ same value. let eq : parent_of r ≡ p.parent = ap parent_of value ∙ parent in ap (λ n. is_some (process_at s n)) eq ∙ ps.parents pid (live p) found (λ none. has (eq ∙ none)))
            (λ other was. ps.parents k r was has));
        ended = λ k above status is'. put-cases ((above ≢ 0) × (status ≤ 65535)) s pid q k (ended_record above status) is' (λ same value. cc value) (λ other was. ps.ended k above status was);
      };
    }

-- States with changed trees or open files.
use Rattle.std.proofs.Common.{◌≡◌, ℕ, true, false, cond, not, ◌&&◌, ◌||◌, ◌==◌, nat_le, [], ◌∷◌, map, length, Option, None, Some, is_some, refl, ap, ap₂, sym, ◌∙◌, ⊎_elim, arith}
use Rattle.std.specs.List.{list_all}
use Rattle.std.proofs.lemmas.Bool.{and_parts, and_from, or_cases, eqb-true}
use Rattle.pv_model.specs.declared.place.Place.{Place}
use Rattle.pv_model.specs.declared.place.Place.TheVariants.{At, Node as Unnamed}
use Rattle.pv_model.specs.declared.follow.Follow.{Follow}
use Rattle.std.specs.Prelude.{Ok}
use Rattle.pv_model.specs.Machine.{Bytes, is_empty, among, held_by_table, Numbered, at_number, is_file, OpenFile, Process, State, process_at, with_process, with_tree, Node, link_node, Tree, node_at, is_directory, is_directory_at, Table, same_target, target_directory, target_of, resolve}
use Rattle.pv_model.specs.declared.target.Target.{Target}
use Rattle.pv_model.specs.declared.target.Target.TheVariants.{Directory as of_directory, Name as of_name}
use Rattle.pv_laws_states.specs.States.{is_byte, is_text_byte, are_bytes, is_text, IsTree, is_listed_name, IsOpenFile, AreFiles, is_target, is_table, IsRunning, IsPlaced, IsSolid, IsValid}
use Rattle.pv_laws_trees.proofs.WalkPlaces.{list_all-weaker, IsGoodPlace, is_encoded, resolve-good, component-name, link-text, not_zero}
use Rattle.pv_laws_trees.proofs.Trees.{sound}
use Rattle.pv_laws_trees.proofs.TreeChanges.{directory_is_some}
use Rattle.pv_laws_states.proofs.ProcessInsides.{IsReady}
use Rattle.pv_laws_states.proofs.ValidStates.{has_room, solid, solid-with_process, table-same}
-- ---- places

pub use Rattle.pv_laws_states.specs.States.{IsFinePlace}

both_tests : (xs : Bytes) → list_all not_zero xs ≡ true → list_all is_byte xs ≡ true → list_all is_text_byte xs ≡ true
both_tests [] a b = refl
both_tests (x ∷ xs) a b =
    let p = and_parts (not_zero x) (list_all not_zero xs) a in
    let q = and_parts (is_byte x) (list_all is_byte xs) b in
    and_from (is_text_byte x) (list_all is_text_byte xs) (and_from (not_zero x) (is_byte x) p.0 q.0) (both_tests xs p.1 q.1)

link_bytes : (t : Tree) → IsTree t → (n : ℕ) (text : Bytes) → node_at t n ≡ Some (link_node text) → list_all is_text_byte text ≡ true
link_bytes t is n text at =
    both_tests text (and_parts (not (is_empty text) && nat_le (length text) 1023) (list_all not_zero text) (link-text t (sound t is.well_formed) n text at)).1 (is.bytes n (link_node text) at)

fine : (t : Tree) (place : Place) → IsGoodPlace is_text_byte t place → IsFinePlace t place
fine t (Unnamed d) is = is
fine t (At d name n) is =
    let parts = and_parts (not (is_empty name)) (is_encoded is_text_byte name) is.4 in (
      is.0,
      is.1,
      is.2,
      component-name t name is.3 (and_from (not (is_empty name)) _ parts.0 (list_all-weaker (λ b. not (b == 47) && is_text_byte b) (λ b. not (b == 47) && not_zero b)
          (λ b good. let both = and_parts (not (b == 47)) (is_text_byte b) good in and_from (not (b == 47)) (not_zero b) both.0 (and_parts (not_zero b) (is_byte b) both.1).0) name parts.1)),
      list_all-weaker (λ b. not (b == 47) && is_text_byte b) is_byte (λ b good. (and_parts (not_zero b) (is_byte b) (and_parts (not (b == 47)) (is_text_byte b) good).1).1) name parts.1,
    )

pub text-bytes : (text : Bytes) → is_text text ≡ true → list_all is_text_byte text ≡ true
text-bytes text is = (and_parts (nat_le (length text) 1100) (list_all is_text_byte text) is).1

-- a text leads from a directory to a valid place
pub resolve-fine : (t : Tree) → IsTree t → (follow : Follow) (start : ℕ) (path : Bytes) (place : Place) → is_directory_at t start ≡ true → is_text path ≡ true
    → resolve t follow start path ≡ Ok place → IsFinePlace t place
resolve-fine t is follow start path place dir text found =
    fine t place (resolve-good is_text_byte t (sound t is.well_formed) (link_bytes t is) follow start path place dir (text-bytes path text) found)

-- the target for a place is valid
pub target-fine : (t : Tree) (place : Place) → IsFinePlace t place → is_target t (target_of t place) ≡ true
target-fine t (Unnamed n) is = is
target-fine t (At d name None) is = and_from _ _ is.0 (and_from _ _ is.3 is.4)
target-fine t (At d name (Some n)) is =
    elim (is_directory_at t n) as (λ b. is_directory_at t n ≡ b → is_target t (cond b (of_directory n) (of_name d name)) ≡ true) [
      | true ↦ λ dir. dir
      | false ↦ λ plain. and_from _ _ is.0 (and_from _ _ is.3 is.4)
    ] refl

-- ---- trees whose nodes keep their kinds

pub record Carries (t u : Tree) : Type 0 where
  pub version : u.version ≡ t.version
  pub directory : (n : ℕ) → is_some (node_at t n) ≡ true → is_directory_at u n ≡ is_directory_at t n
  pub file : (n : ℕ) → is_some (node_at t n) ≡ true → is_file (node_at u n) ≡ is_file (node_at t n)

pub carries-self : (t : Tree) → Carries t t
carries-self t = record { version = refl; directory = λ n is. refl; file = λ n is. refl }

pub carries-along : (t u w : Tree) → Carries t u → ((n : ℕ) → is_some (node_at t n) ≡ true → is_some (node_at u n) ≡ true) → Carries u w → Carries t w
carries-along t u w a still b = record {
  version = b.version ∙ a.version;
  directory = λ n is. b.directory n (still n is) ∙ a.directory n is;
  file = λ n is. b.file n (still n is) ∙ a.file n is;
}

pub file_or_directory : (o : Option Node) → (is_file o || is_directory o) ≡ true → is_some o ≡ true
file_or_directory None is = cc
file_or_directory (Some node) is = refl

pub file-carried : (t u : Tree) (f : OpenFile) → Carries t u → IsOpenFile t f → IsOpenFile u f
file-carried t u f carries is =
    let there = file_or_directory (node_at t f.node) is.node in
    record {
      node = ap₂ (λ a b. a || b) (carries.file f.node there) (carries.directory f.node there) ∙ is.node;
      directory = λ dir. is.directory (sym (carries.directory f.node there) ∙ dir);
      offset = is.offset;
      listed = ap (λ v. is_listed_name v f.listed) carries.version ∙ is.listed;
    }

-- equal targets reference the same directory
pub same-directory : (a b : Target) → same_target a b ≡ true → target_directory a ≡ target_directory b
same-directory (of_directory d) (of_directory e) is = eqb-true d e is
same-directory (of_directory d) (of_name e name) is = cc
same-directory (of_name d name) (of_directory e) is = cc
same-directory (of_name d name) (of_name e other) is = eqb-true d e (and_parts (d == e) _ is).0

targets-there : (t : Tree) (table : Table) → list_all (λ e. is_target t e.0) table ≡ true → (n : ℕ) → among (map (λ e. target_directory e.0) table) n ≡ true → is_directory_at t n ≡ true
targets-there t [] all n is = cc
targets-there t (e ∷ es) all n is =
    let parts = and_parts (is_target t e.0) (list_all (λ e. is_target t e.0) es) all in
    ⊎_elim (λ here. ap (is_directory_at t) (sym (eqb-true (target_directory e.0) n here)) ∙ of e.0 parts.0) (λ there. targets-there t es parts.1 n there)
    (or_cases (target_directory e.0 == n) _ is)
  where
    of : (target : Target) → is_target t target ≡ true → is_directory_at t (target_directory target) ≡ true
    of (of_directory d) is = is
    of (of_name d name) is = (and_parts (is_directory_at t d) _ is).0

pub table-there : (t : Tree) (table : Option Table) → is_table t table ≡ true → (n : ℕ) → among (held_by_table table) n ≡ true → is_directory_at t n ≡ true
table-there t None is n held = cc
table-there t (Some table) is n held = targets-there t table (and_parts (nat_le (length table) 64) _ is).1 n held

pub placed-carried : (t u : Tree) (fs gs : Numbered OpenFile) (p : Process) → Carries t u → ((k : ℕ) → is_some (at_number fs k) ≡ true → is_some (at_number gs k) ≡ true)
    → IsPlaced t fs p → IsPlaced u gs p
placed-carried t u fs gs p carries still is = record {
  directory = carries.directory p.directory (directory_is_some (node_at t p.directory) is.directory) ∙ is.directory;
  descriptors = is.descriptors;
  opens = λ d x at. still x.file (is.opens d x at);
  table = table-same t u p.table carries.version (λ n held. carries.directory n (directory_is_some (node_at t n) (table-there t p.table is.table n held))) is.table;
}

-- a state with another tree and other open files keeps the invariant before collection
pub solid-present : (s : State) (u : Tree) (gs : Numbered OpenFile) → IsSolid s → IsTree u → Carries s.tree u → AreFiles u gs
    → ((k : ℕ) → is_some (at_number s.files k) ≡ true → is_some (at_number gs k) ≡ true) → IsSolid (record s { tree = u; files = gs })
solid-present s u gs is tree carries files still = record {
  tree = tree;
  files = files;
  processes = record {
    ascending = is.processes.ascending;
    numbers = is.processes.numbers;
    count = is.processes.count;
    last = is.processes.last;
    running = is.processes.running;
    placed = λ pid p at. placed-carried s.tree u s.files gs p carries still (is.processes.placed pid p at);
    first = is.processes.first;
    parents = is.processes.parents;
    ended = is.processes.ended;
  };
}

pub solid-with_tree : (s : State) (u : Tree) → IsSolid s → IsTree u → Carries s.tree u → IsSolid (with_tree s u)
solid-with_tree s u is tree carries =
    solid-present s u s.files is tree carries
    (record { count = is.files.count; each = λ k f at. file-carried s.tree u f carries (is.files.each k f at) }) (λ k there. there)

-- ---- states after a check for room

pub ready : (s : State) → IsValid s → IsReady s
ready s whole = record { solid = solid s whole; room = has_room s whole.fits whole.not_too_long }

module _ (s : State) (pid : ℕ) (me : Process) (whole : IsValid s) (at : process_at s pid ≡ Some me) where
  -- the caller changes
  pub ready-process : (q : Process) → IsRunning q → IsPlaced s.tree s.files q → q.parent ≡ me.parent → IsReady (with_process s pid q)
  ready-process q running placed parent = record {
    solid = solid-with_process s pid me q (solid s whole) at running placed parent;
    room = has_room (with_process s pid q) whole.fits whole.not_too_long;
  }

  pub my-running : IsRunning me
  my-running = whole.processes.running pid me at

  pub my-placed : IsPlaced s.tree s.files me
  my-placed = whole.processes.placed pid me at

pub running-like : (p q : Process) → q.program ≡ p.program → q.line ≡ p.line → q.registers ≡ p.registers → q.buffer ≡ p.buffer → IsRunning p → IsRunning q
running-like p q program line registers buffer is = record {
  program = ap Rattle.pv_laws_states.specs.States.is_program_in_bounds program ∙ is.program;
  line = (omega (arith, is.line.0, line), omega (arith, is.line.1, line, ap length program));
  registers = (ap length registers ∙ is.registers.0, ap (list_all Rattle.pv_laws_states.specs.States.is_word) registers ∙ is.registers.1);
  buffer = (ap length buffer ∙ is.buffer.0, ap are_bytes buffer ∙ is.buffer.1);
}

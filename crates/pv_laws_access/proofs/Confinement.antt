-- A process that neither links nor moves a file, such as one that is closed to it, changes no entry for the file or for a directory
-- above it, and gives it no name.
use Rattle.std.proofs.Common.{◌≡◌, ◌⊎◌, inl, inr, ⊎_elim, ℕ, Bool, true, false, not, ◌&&◌, ◌||◌, if◌then◌else◌, List, [], Option, None, Some, refl, ap, sym, ◌∙◌}
use Rattle.std.specs.Option.{option_or}
use Rattle.std.proofs.lemmas.Bool.{and_parts}
use Rattle.pv_model.specs.declared.call.Call.{Call}
use Rattle.pv_model.specs.declared.judgement.Judgement.TheVariants.{Allowed}
use Rattle.pv_model.specs.declared.open_flags.Mode.{Mode}
use Rattle.pv_model.specs.declared.open_flags.Mode.TheVariants.{Read as ReadMode}
use Rattle.pv_model.specs.declared.perms.Perms.{Perms}
use Rattle.pv_model.specs.declared.place.Place.{Place}
use Rattle.pv_model.specs.declared.place.Place.TheVariants.{At, Node as Unnamed}
use Rattle.pv_model.specs.declared.promise.Promise.TheVariants.{Rpath, Wpath, Cpath}
use Rattle.pv_model.specs.declared.target.Target.TheVariants.{Name}
use Rattle.pv_model.specs.Machine.{Bytes, GovernsName, node_of, needs, needs_cpath, permissions_of_open, covers, no_permissions, permission_r, permission_c, Need, missing_promise, Program, Process, State, reads, writes, process_at, step, Tree, node_at, is_directory_at, find_entry, IsAtOrAbove, is_file, Table, entry_for, permissions_at, Governs, directory_rights, judge_entry, governing_entry, judgement}
use Rattle.pv_model.specs.Closed.{Lacks, GivesName, GivesAbove, opens_or_moves, IsClosed, IsFrozenTo}
use Rattle.pv_model.proofs.GoverningEntries.{Governs-directory_rights}
use Rattle.pv_laws_trees.proofs.WellFormedChanges.{new_number-free}
use Rattle.pv_laws_states.specs.States.{IsValid}
use Rattle.pv_laws_states.proofs.ValidByTree.{named-place}
use Rattle.pv_laws_states.proofs.ChangedStates.{IsFinePlace}
use Rattle.pv_laws_access.proofs.ClosedProcesses.{allowed-by, covers-r, covers-w, or_one, file-plain}
use Rattle.pv_laws_access.proofs.JustifiedChanges.{needs-open, entries-edited}
use Rattle.pv_laws_access.proofs.PromiseLimits.{no-cpath, no-rpath, no-wpath, equal-or_not, without-cpath}
use Rattle.pv_laws_access.proofs.Verdicts.{one, found-governs}
use Rattle.pv_laws_access.proofs.NameOrigins.{names-moved}
use Rattle.pv_laws_access.proofs.ProcessOrigins.{IsGained}

-- ---- permissions

-- the permissions with which a process can link or move a file
abbrev pub links_or_moves : Perms → Bool
links_or_moves permissions = permissions.r || permissions.c

c-part : (l : Perms) → covers l permission_c ≡ true → l.c ≡ true
c-part l is = or_one l.c (and_parts (((l.r || not false) && (l.w || not false)) && (l.x || not false)) (l.c || not true) is).1

c-moves : (l : Perms) → covers l permission_c ≡ true → links_or_moves l ≡ true
c-moves l is = all l.r (c-part l is)
  where
    all : (r : Bool) → l.c ≡ true → (r || l.c) ≡ true
    all true is = refl
    all false is = is

r-links : (l : Perms) → covers l permission_r ≡ true → links_or_moves l ≡ true
r-links l is = or_first l.r l.c (and_parts (l.r || not true) (l.w || not false) (and_parts ((l.r || not true) && (l.w || not false)) (l.x || not false) (and_parts (((l.r || not true) && (l.w || not false)) && (l.x || not false)) (l.c || not false) is).0).0).0
  where
    or_first : (r c : Bool) → (r || not true) ≡ true → (r || c) ≡ true
    or_first true c is = refl
    or_first false c is = cc is

links-opens : (l : Perms) → links_or_moves l ≡ true → opens_or_moves l ≡ true
links-opens l is = all l.r l.x l.c is
  where
    all : (r x c : Bool) → (r || c) ≡ true → (r || x || c) ≡ true
    all true x c is = refl
    all false true c is = refl
    all false false c is = is

-- ---- the entry that governs an allowed place

module _ (s : State) (whole : IsValid s) (p : Process) (f : ℕ) (file : is_file (node_at s.tree f) ≡ true) where
  plain : is_directory_at s.tree f ≡ false
  plain = file-plain (node_at s.tree f) file

  -- a place at the file
  pub record IsGoverned (table : Table) (needed : Perms) : Type 0 where
    pub directory : ℕ
    pub name : Bytes
    pub entry : ℕ
    pub found : find_entry s.tree directory name ≡ Some f
    pub governs : GovernsName s.tree table directory name entry
    pub permissions : covers (permissions_at table entry) needed ≡ true

  pub governed : (table : Table) (place : Place) (needed : Perms) → IsFinePlace s.tree place → node_of place ≡ Some f → judgement s.tree (Some table) place needed ≡ Allowed → IsGoverned table needed
  unfolding judgement governing_entry
  governed table (Unnamed n) needed fine is allowed =
      let same : n ≡ f = cc is in
      let dir : is_directory_at s.tree f ≡ true = ap (is_directory_at s.tree) (sym same) ∙ fine in
      let no : is_directory_at s.tree f ≡ false = plain in cc
  governed table (At d name None) needed fine is allowed = cc is
  governed table (At d name (Some n)) needed fine is allowed =
      let same : n ≡ f = cc is in
      let here : is_directory_at s.tree n ≡ false = ap (is_directory_at s.tree) same ∙ plain in
      let o : Option ℕ = option_or (entry_for table (Name d name)) (directory_rights s.tree table d) in
      let judged : judge_entry table needed o ≡ Allowed = ap (λ b. judge_entry table needed (if b then directory_rights s.tree table n else o)) (sym here) ∙ allowed in
      let by = allowed-by table needed o judged in
      record { directory = d; name = name; entry = by.0; found = fine.2 ∙ ap Some same; governs = found-governs s p f whole.tree.well_formed table d name by.0 by.1; permissions = by.2 }

  -- a place at a directory
  pub governed-directory : (table : Table) (e : ℕ) (place : Place) (needed : Perms) → is_directory_at s.tree e ≡ true → node_of place ≡ Some e → judgement s.tree (Some table) place needed ≡ Allowed
      → (k : ℕ) × Governs s.tree table e k × (covers (permissions_at table k) needed ≡ true)
  unfolding judgement governing_entry
  governed-directory table e (Unnamed n) needed dir is allowed =
      let same : n ≡ e = cc is in
      let by = allowed-by table needed (directory_rights s.tree table n) allowed in
      (by.0, Governs-directory_rights s.tree table e by.0 (ap (directory_rights s.tree table) (sym same) ∙ by.1), by.2)
  governed-directory table e (At d name None) needed dir is allowed = cc is
  governed-directory table e (At d name (Some n)) needed dir is allowed =
      let same : n ≡ e = cc is in
      let here : is_directory_at s.tree n ≡ true = ap (is_directory_at s.tree) same ∙ dir in
      let judged : judge_entry table needed (directory_rights s.tree table n) ≡ Allowed =
      ap (λ b. judge_entry table needed (if b then directory_rights s.tree table n else option_or (entry_for table (Name d name)) (directory_rights s.tree table d))) (sym here) ∙ allowed in
      let by = allowed-by table needed (directory_rights s.tree table n) judged in
      (by.0, Governs-directory_rights s.tree table e by.0 (ap (directory_rights s.tree table) (sym same) ∙ by.1), by.2)

  -- a table none of whose entries for names of the file passes a test allows no place at the file for permissions that pass it
  shut-names : (table : Table) (test : Perms → Bool) → p.table ≡ Some table → ((k : ℕ) → ¬ GivesName s p f table test k) → (place : Place) (needed : Perms)
      → ((l : Perms) → covers l needed ≡ true → test l ≡ true) → IsFinePlace s.tree place → node_of place ≡ Some f → judgement s.tree p.table place needed ≡ Allowed → ⊥
  shut-names table test in_force names place needed passes fine is allowed =
      let g = governed table place needed fine is (ap (λ t. judgement s.tree t place needed) (sym in_force) ∙ allowed) in
      names g.entry (g.directory, g.name, g.found, g.governs, passes (permissions_at table g.entry) g.permissions)

  -- such a table allows no place at a directory above the file for c
  shut-above : (table : Table) → p.table ≡ Some table → ((k : ℕ) → ¬ GivesAbove s p f table k) → (d : ℕ) (name : Bytes) (e : ℕ) → find_entry s.tree d name ≡ Some f → IsAtOrAbove s.tree e d
      → is_directory_at s.tree e ≡ true → (place : Place) → node_of place ≡ Some e → judgement s.tree p.table place permission_c ≡ Allowed → ⊥
  shut-above table in_force directories d name e found over dir place is allowed =
      let g = governed-directory table e place permission_c dir is (ap (λ t. judgement s.tree t place permission_c) (sym in_force) ∙ allowed) in
      directories g.0 (d, name, e, found, over, g.1, c-part (permissions_at table g.0) g.2)

  -- no open gives the process a descriptor for reading the file
  pub no-reader : IsClosed s p f → (call : Call) (mode : Mode) → missing_promise p.promises (needs call) ≡ None → reads mode ≡ true → IsGained s p call f mode → ⊥
  no-reader closed call mode held reading g =
      let rest : List Need = if g.flags.create then needs_cpath else [] in
      let made : Perms = if g.flags.create then permission_c else no_permissions in
      let by_flags : reads g.flags.mode ≡ true = ap reads g.moded ∙ reading in
      ⊎_elim
      (λ pledged. no-rpath p.promises g.flags.mode rest by_flags ((one p Rpath).1 pledged.no_rpath) (ap (missing_promise p.promises) (sym (needs-open call g.flags g.flagged)) ∙ held))
      (λ unveiled. ⊎_elim
      (λ node. shut-names unveiled.0 opens_or_moves unveiled.1.in_force unveiled.1.names g.place (permissions_of_open g.flags) (λ l. covers-r l g.flags.mode made by_flags) g.fine node g.allowed.1)
      (λ new. let none : is_file (node_at s.tree f) ≡ false = ap (λ n. is_file (node_at s.tree n)) new.1 ∙ ap is_file (new_number-free s.tree) in let is = file in cc) g.which)
      closed.restraints

  -- no open gives the process a descriptor for writing the file, if it is frozen
  pub no-writer : IsFrozenTo s p f → (call : Call) (mode : Mode) → missing_promise p.promises (needs call) ≡ None → writes mode ≡ true → IsGained s p call f mode → ⊥
  no-writer frozen call mode held writing g =
      let rest : List Need = if g.flags.create then needs_cpath else [] in
      let made : Perms = if g.flags.create then permission_c else no_permissions in
      let by_flags : writes g.flags.mode ≡ true = ap writes g.moded ∙ writing in
      ⊎_elim
      (λ pledged. no-wpath p.promises g.flags.mode rest by_flags ((one p Wpath).1 pledged.no_wpath) (ap (missing_promise p.promises) (sym (needs-open call g.flags g.flagged)) ∙ held))
      (λ unveiled. ⊎_elim
      (λ node.
      let u = governed unveiled.0 g.place (permissions_of_open g.flags) g.fine node (ap (λ t. judgement s.tree t g.place (permissions_of_open g.flags)) (sym unveiled.1.in_force) ∙ g.allowed.1) in
      unveiled.1.names u.entry (u.directory, u.name, u.found, u.governs, covers-w (permissions_at unveiled.0 u.entry) g.flags.mode made by_flags u.permissions))
      (λ new. let none : is_file (node_at s.tree f) ≡ false = ap (λ n. is_file (node_at s.tree n)) new.1 ∙ ap is_file (new_number-free s.tree) in let is = file in cc) g.which)
      frozen.restraints

-- ---- a step of a process that keeps the file in place

-- the table gives no permission to link or move the file
pub record IsUnveiledToKeep (s : State) (p : Process) (f : ℕ) (table : Table) : Type 0 where
  pub in_force : p.table ≡ Some table
  pub names : (k : ℕ) → ¬ GivesName s p f table links_or_moves k
  pub directories : (k : ℕ) → ¬ GivesAbove s p f table k

-- the promises or the table prevent the process from linking and moving the file
abbrev pub KeepsInPlace : State → Process → ℕ → Type 0
KeepsInPlace s p f = Lacks p Cpath ⊎ ((table : Table) × IsUnveiledToKeep s p f table)

pub closed-keeps : (s : State) (p : Process) (f : ℕ) → IsClosed s p f → KeepsInPlace s p f
closed-keeps s p f closed =
    ⊎_elim (λ pledged. inl pledged.no_cpath)
    (λ unveiled. inr (
      unveiled.0,
      record {
        in_force = unveiled.1.in_force;
        names = λ k gives. unveiled.1.names k (gives.0, gives.1, gives.2, gives.3, links-opens (permissions_at unveiled.0 k) gives.4);
        directories = unveiled.1.directories;
      },
    )) closed.restraints

module _ (program_of : Bytes → Option Program) (s : State) (pid : ℕ) (whole : IsValid s) (f : ℕ) (file : is_file (node_at s.tree f) ≡ true)
    (keeps : (p : Process) → process_at s pid ≡ Some p → KeepsInPlace s p f) where
  abbrev t' : Tree
  t' = (step program_of s pid).after.tree

  -- an entry stays if no place at it is allowed for c
  stays-unless : (d : ℕ) (name : Bytes) (n : ℕ) → find_entry s.tree d name ≡ Some n
      → ((p : Process) (table : Table) → IsUnveiledToKeep s p f table → (place : Place) → IsFinePlace s.tree place → node_of place ≡ Some n → judgement s.tree p.table place permission_c ≡ Allowed → ⊥)
      → find_entry t' d name ≡ Some n
  stays-unless d name n found guard =
      ⊎_elim (λ same. same ∙ found)
      (λ differs.
      let e = entries-edited program_of s pid d name whole differs in
      absurd (⊎_elim
      (λ lacks. no-cpath e.me.promises e.edited.asks.0 ((one e.me Cpath).1 lacks) (ap (missing_promise e.me.promises) (sym e.edited.asks.1) ∙ e.held))
      (λ unveiled. guard e.me unveiled.0 unveiled.1 e.edited.place e.edited.fine (sym (named-place s.tree e.edited.place (d, name) e.edited.fine e.edited.named).found ∙ found) e.edited.allowed.1)
      (keeps e.me e.at)))
      (equal-or_not (find_entry t' d name) (find_entry s.tree d name))

  -- the file's names stay
  pub name-stays : (d : ℕ) (name : Bytes) → find_entry s.tree d name ≡ Some f → find_entry t' d name ≡ Some f
  name-stays d name found =
      stays-unless d name f found (λ p table unveiled place fine is allowed. shut-names s whole p f file table links_or_moves unveiled.in_force unveiled.names place permission_c c-moves fine is allowed)

  -- the directories above the names stay
  pub above-stays : (d : ℕ) (name : Bytes) (e : ℕ) → find_entry s.tree d name ≡ Some f → IsAtOrAbove s.tree e d → is_directory_at s.tree e ≡ true
      → (up : ℕ) (word : Bytes) → find_entry s.tree up word ≡ Some e → find_entry t' up word ≡ Some e
  above-stays d name e found over dir up word entry =
      stays-unless up word e entry (λ p table unveiled place fine is allowed. shut-above s whole p f file table unveiled.in_force unveiled.directories d name e found over dir place is allowed)

  -- no name is added
  pub name-was : (d : ℕ) (name : Bytes) → find_entry t' d name ≡ Some f → find_entry s.tree d name ≡ Some f
  name-was d name now =
      ⊎_elim (λ same. same)
      (λ new.
      let m = names-moved program_of s pid d name f whole (there (node_at s.tree f) file) now new in
      absurd (⊎_elim
      (λ lacks. new (sym (without-cpath program_of s pid m.me d name whole m.at ((one m.me Cpath).1 lacks)) ∙ now))
      (λ unveiled. ⊎_elim
      (λ linked. shut-names s whole m.me f file unveiled.0 links_or_moves unveiled.1.in_force unveiled.1.names m.moved.place permission_r r-links m.moved.fine m.moved.node linked.1)
      (λ renamed. shut-names s whole m.me f file unveiled.0 links_or_moves unveiled.1.in_force unveiled.1.names m.moved.place permission_c c-moves m.moved.fine m.moved.node renamed.1) m.moved.allowed)
      (keeps m.me m.at)))
      (equal-or_not (find_entry s.tree d name) (Some f))
    where
      there : (o : Option Rattle.pv_model.specs.Tree.Node) → is_file o ≡ true → Rattle.std.proofs.Common.is_some o ≡ true
      there None is = cc is
      there (Some node) is = refl

-- The reasons that the code finds for a process are those of the definitions.
use Rattle.std.proofs.Common.{◌≡◌, ℕ, Bool, true, false, not, ◌&&◌, ◌||◌, if◌then◌else◌, ◌==◌, List, [], ◌∷◌, ◌++◌, map, filter, Option, None, Some, option_map, refl, ap, sym, ◌∙◌, append_assoc}
use Rattle.std.specs.List.{cons_option}
use Rattle.std.specs.Option.{is_none}
use Rattle.pv_model.specs.declared.open_flags.Mode.{Mode}
use Rattle.pv_model.specs.declared.open_flags.Mode.TheVariants.{Read, Write, ReadWrite}
use Rattle.pv_model.specs.declared.perms.Perms.{Perms}
use Rattle.pv_model.specs.declared.promise.Promise.TheVariants.{Rpath, Wpath, Cpath, Exec as ExecPromise}
use Rattle.pv_model.specs.declared.verdict.Why.{Why}
use Rattle.pv_model.specs.declared.verdict.Why.TheVariants.{Reads, NotLocked, Gives, Above, Exec}
use Rattle.pv_model.specs.Machine.{is_empty, entries_of_table, at_number, numbered, covers, permission_r, OpenFile, Descriptor, Process, State, reads, writes, process_at, names_of, Table, first_of}
use Rattle.pv_model.specs.Closed.{opens_or_moves}
use Rattle.pv_model.specs.Needs.{permissions_of_mode}
use Rattle.pv_model.specs.Perms.{permission_w}
use Rattle.pv_model.specs.Sealed
use Rattle.pv_calls_state.specs.OfProcs.Parts.{record_of}
use Rattle.pv_audit.specs.declared.table_access.TableAccess.{TableAccess}
use Rattle.pv_audit.specs.Findings.{least, nothing, table_entries, suspect, with_names_noted}
use Rattle.pv_audit.specs.Reasons.{all_reasons_of, present_reasons, reason_if, reasons_of_table, is_on, descriptors_for, by_number, reason_unless, reason_of_table, reason_of, is_preserved_by, is_preserved, reason_for, reason_at, preserved_for, preserved_at}
use Rattle.pv_audit.proofs.LeastNumbers.{least-fold}
use Rattle.pv_audit.proofs.NameAccess.{gives-all, above-all, writes-all, with_name_noted-pid, with_name_noted-table_access}

-- ---- lists of reasons

first-least : (why : ℕ → Why) (ks : List ℕ) (rest : List Why) → first_of (Sealed.least_first why ks ++ rest) ≡ by_number why (least ks) (first_of rest)
first-least why [] rest = refl
first-least why (k ∷ ks) rest = sym (ap (λ (o : Option ℕ). by_number why o (first_of rest)) (least-fold k ks))

first-reason_unless : (b : Bool) (why : Why) (rest : List Why) → first_of (Sealed.when (not b) why ++ rest) ≡ reason_unless b why (first_of rest)
first-reason_unless true why rest = refl
first-reason_unless false why rest = refl

last-reason_unless : (b : Bool) (why : Why) → first_of (Sealed.when (not b) why) ≡ reason_unless b why None
last-reason_unless true why = refl
last-reason_unless false why = refl

all-least : (why : ℕ → Why) (ks : List ℕ) (rest : List Why) → Sealed.least_first why ks ++ rest ≡ cons_option (option_map why (least ks)) rest
all-least why [] rest = refl
all-least why (k ∷ ks) rest = sym (ap (λ (o : Option ℕ). cons_option (option_map why o) rest) (least-fold k ks))

all-when : (b : Bool) (why : Why) (rest : List Why) → Sealed.when b why ++ rest ≡ cons_option (reason_if b why) rest
all-when true why rest = refl
all-when false why rest = refl

last-when : (b : Bool) (why : Why) → Sealed.when b why ≡ cons_option (reason_if b why) []
last-when true why = refl
last-when false why = refl

none-empty : (ks : List ℕ) → is_none (least ks) ≡ is_empty ks
none-empty [] = refl
none-empty (k ∷ ks) = ap is_none (least-fold k ks)

not-not : (b : Bool) → not (not b) ≡ b
not-not true = refl
not-not false = refl

-- ---- modes and permissions

reads-r : (m : Mode) → reads m ≡ covers (permissions_of_mode m) permission_r
reads-r Read = refl
reads-r Write = refl
reads-r ReadWrite = refl

writes-w : (m : Mode) → writes m ≡ covers (permissions_of_mode m) permission_w
writes-w Read = refl
writes-w Write = refl
writes-w ReadWrite = refl

module _ (s : State) (p : Process) (f : ℕ) where
  opens-on : (test : Mode → Bool) (needed : Perms) → ((m : Mode) → test m ≡ covers (permissions_of_mode m) needed) → (o : Option OpenFile) → Sealed.opens s p f test o ≡ is_on f needed o
  opens-on test needed same None = refl
  opens-on test needed same (Some file) = ap (λ b. (file.node == f) && b) (same file.mode)

  descriptors-for : (test : Mode → Bool) (needed : Perms) → ((m : Mode) → test m ≡ covers (permissions_of_mode m) needed) → Sealed.descriptors_on s p f test ≡ descriptors_for s.files p.descriptors f needed
  descriptors-for test needed same = λ i. map (λ (d : ℕ × Descriptor). d.0) (filter (λ (d : ℕ × Descriptor). opens-on test needed same (at_number s.files d.1.file) i) (numbered p.descriptors))

  -- ---- the access by all names

  -- the noted access is the one that the definitions list
  pub record IsAllOf (table : Table) (table_access : TableAccess) : Type 0 where
    pub gives : table_access.gives ≡ least (Sealed.giving s p f opens_or_moves table)
    pub above : table_access.above ≡ least (Sealed.above s p f table)
    pub writes : table_access.writes ≡ not (is_empty (Sealed.giving s p f (λ permissions. permissions.w) table))

  by_table : (table_access : TableAccess) (o : Option Table) → ((table : Table) → o ≡ Some table → IsAllOf table table_access) → first_of (Sealed.leaks_of_table s p f o)
      ≡ reason_of_table (record_of p) table_access o
  by_table table_access None all = refl
  by_table table_access (Some table) all =
      let is = all table refl in
      let a = Sealed.when (not p.locked) NotLocked in
      let b = Sealed.least_first Gives (Sealed.giving s p f opens_or_moves table) in
      let c = Sealed.least_first Above (Sealed.above s p f table) in
      let d = Sealed.when (not (Sealed.is_held_over_exec s p f)) Exec in
      ap first_of (append_assoc (a ++ b) c d ∙ append_assoc a b (c ++ d))
      ∙ first-reason_unless p.locked NotLocked (b ++ (c ++ d))
      ∙ ap (reason_unless p.locked NotLocked)
      (first-least Gives (Sealed.giving s p f opens_or_moves table) (c ++ d)
      ∙ (λ i. by_number Gives (sym is.gives i)
      ((first-least Above (Sealed.above s p f table) d ∙ (λ j. by_number Above (sym is.above j) (last-reason_unless (Sealed.is_held_over_exec s p f) Exec j))) i)))

  pub leaks-reason : (table_access : TableAccess) → ((table : Table) → p.table ≡ Some table → IsAllOf table table_access) → first_of (Sealed.leaks s p f) ≡ reason_of s.files (record_of p) f table_access
  unfolding Sealed.leaks
  leaks-reason table_access all =
      first-least Reads (Sealed.descriptors_on s p f reads) _
      ∙ (λ i. by_number Reads (least (descriptors-for reads permission_r reads-r i)) (pick (Sealed.is_pledged_without (Rpath ∷ ExecPromise ∷ Cpath ∷ []) p) i))
    where
      pick : (b : Bool) → first_of (if b then [] else Sealed.leaks_of_table s p f p.table) ≡ (if b then None else reason_of_table (record_of p) table_access p.table)
      pick true = refl
      pick false = by_table table_access p.table all

  all_by_table : (table_access : TableAccess) (o : Option Table) → ((table : Table) → o ≡ Some table → IsAllOf table table_access) → Sealed.leaks_of_table s p f o
      ≡ present_reasons (reasons_of_table (record_of p) table_access o)
  all_by_table table_access None all = refl
  all_by_table table_access (Some table) all =
      let is = all table refl in
      let a = Sealed.when (not p.locked) NotLocked in
      let b = Sealed.least_first Gives (Sealed.giving s p f opens_or_moves table) in
      let c = Sealed.least_first Above (Sealed.above s p f table) in
      let d = Sealed.when (not (Sealed.is_held_over_exec s p f)) Exec in
      append_assoc (a ++ b) c d ∙ append_assoc a b (c ++ d)
      ∙ all-when (not p.locked) NotLocked (b ++ (c ++ d))
      ∙ ap (cons_option (reason_if (not p.locked) NotLocked))
      (all-least Gives (Sealed.giving s p f opens_or_moves table) (c ++ d)
      ∙ (λ i. cons_option (option_map Gives (sym is.gives i))
      ((all-least Above (Sealed.above s p f table) d ∙ (λ j. cons_option (option_map Above (sym is.above j)) (last-when (not (Sealed.is_held_over_exec s p f)) Exec j))) i)))

  pub leaks-reasons : (table_access : TableAccess) → ((table : Table) → p.table ≡ Some table → IsAllOf table table_access) → Sealed.leaks s p f ≡ all_reasons_of s.files (record_of p) f table_access
  unfolding Sealed.leaks
  leaks-reasons table_access all =
      all-least Reads (Sealed.descriptors_on s p f reads) _
      ∙ (λ i. cons_option (option_map Reads (least (descriptors-for reads permission_r reads-r i))) (pick (Sealed.is_pledged_without (Rpath ∷ ExecPromise ∷ Cpath ∷ []) p) i))
    where
      pick : (b : Bool) → (if b then [] else Sealed.leaks_of_table s p f p.table) ≡ present_reasons (if b then [] else reasons_of_table (record_of p) table_access p.table)
      pick true = refl
      pick false = all_by_table table_access p.table all

  preserved_by : (table_access : TableAccess) (o : Option Table) → ((table : Table) → o ≡ Some table → IsAllOf table table_access) → Sealed.is_preserved_by_table s p f o ≡ is_preserved_by (record_of p) table_access o
  preserved_by table_access None all = refl
  preserved_by table_access (Some table) all =
      let is = all table refl in
      let none = sym (not-not (is_empty (Sealed.giving s p f (λ permissions. permissions.w) table))) ∙ ap not (sym is.writes) in
      ap (λ b. (p.locked && b) && Sealed.is_held_over_exec s p f) none

  pub frozen-preserved : (table_access : TableAccess) → ((table : Table) → p.table ≡ Some table → IsAllOf table table_access) → Sealed.is_frozen_to s p f ≡ is_preserved s.files (record_of p) f table_access
  unfolding Sealed.is_frozen_to
  frozen-preserved table_access all = λ i.
      (sym (none-empty (Sealed.descriptors_on s p f writes)) ∙ ap (λ (ks : List ℕ). is_none (least ks)) (descriptors-for writes permission_w writes-w)) i
      && (Sealed.is_pledged_without (Wpath ∷ ExecPromise ∷ []) p || preserved_by table_access p.table all i)

  module _ (pid : ℕ) (at : process_at s pid ≡ Some p) where
    abbrev mine : TableAccess
    mine = (with_names_noted s (names_of s.tree f) (suspect pid)).table_access

    pub all-of : (table : Table) → p.table ≡ Some table → IsAllOf table mine
    all-of table is =
        let same : table_entries (process_at s pid) ≡ table = ap table_entries at ∙ ap entries_of_table is in
        let table_access = with_name_noted-table_access s (names_of s.tree f) (suspect pid) in
        record {
          gives = ap (λ (x : TableAccess). x.gives) table_access ∙ gives-all s.tree (table_entries (process_at s pid)) nothing (names_of s.tree f) ∙ ap (λ (t : Table). least (Sealed.giving s p f opens_or_moves t)) same;
          above = ap (λ (x : TableAccess). x.above) table_access ∙ above-all s.tree (table_entries (process_at s pid)) nothing (names_of s.tree f) ∙ ap (λ (t : Table). least (Sealed.above s p f t)) same;
          writes = ap (λ (x : TableAccess). x.writes) table_access ∙ writes-all s.tree (table_entries (process_at s pid)) nothing (names_of s.tree f) ∙ ap (λ (t : Table). not (is_empty (Sealed.giving s p f (λ permissions. permissions.w) t))) same;
        }

    there : process_at s (with_names_noted s (names_of s.tree f) (suspect pid)).pid ≡ Some p
    there = ap (process_at s) (with_name_noted-pid s (names_of s.tree f) (suspect pid)) ∙ at

    pub reason-first : reason_at s f (with_names_noted s (names_of s.tree f) (suspect pid)) ≡ first_of (Sealed.leaks s p f)
    reason-first = ap (λ (o : Option Process). reason_for s f o mine) there ∙ sym (leaks-reason mine all-of)

    pub reasons-all : all_reasons_of s.files (record_of p) f mine ≡ Sealed.leaks s p f
    reasons-all = sym (leaks-reasons mine all-of)

    pub preserved-frozen : preserved_at s f (with_names_noted s (names_of s.tree f) (suspect pid)) ≡ Sealed.is_frozen_to s p f
    preserved-frozen = ap (λ (o : Option Process). preserved_for s f o mine) there ∙ sym (frozen-preserved mine all-of)

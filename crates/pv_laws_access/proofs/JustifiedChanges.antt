-- The justification of changes of entries and files.
use Rattle.std.proofs.Common.{◌≡◌, ◌≢◌, ℕ, suc, Bool, true, false, cond, if◌then◌else◌, List, [], ◌++◌, length, Option, None, Some, refl, ap, sym, subst, ◌∙◌, ◌⊎◌, inl, inr, ⊎_elim}
use Rattle.std.proofs.lemmas.Bool.{cases_eq}
use Rattle.std.specs.FinMap.Entries.{find}
use Rattle.pv_model.specs.declared.call.Call.{Call}
use Rattle.pv_model.specs.declared.call.Call.TheVariants as TheCall
use Rattle.pv_model.specs.declared.judgement.Judgement.TheVariants.{Allowed, Denied}
use Rattle.pv_model.specs.declared.open_flags.OpenFlags.{OpenFlags}
use Rattle.pv_model.specs.declared.perms.Perms.{Perms}
use Rattle.pv_model.specs.declared.place.Place.{Place}
use Rattle.pv_model.specs.Machine.{at_next_line, update, Bytes, with_content, end_process, Reply, node_of, name_of, bytes_of, collect, needs, needs_cpath, needs_of_mode, permissions_of_open, no_permissions, join_permissions, covers, permission_c, calls_for, next, Need, missing_promise, is_file, Program, Process, State, writes, process_at, change_file, file_bytes, flags_of, IsAllowed, Touches, Justifies, Node, file_node, Tree, node_at, entries_of, is_directory_at, find_entry, with_entry, without_entry, with_new_node, Table, permissions_at, judge_entry, governing_entry, judgement}
use Rattle.pv_model.specs.Needs.{permissions_of_mode}
use Rattle.pv_model.specs.Touch.{change_entry, change_by_descriptor, change_by_open, entry_by_place}
use Rattle.pv_laws_states.specs.States.{is_call, IsTree, IsValid}
use Rattle.pv_laws_states.proofs.ValidByTree.{FineName, named-place}
use Rattle.pv_laws_states.proofs.ChangedStates.{IsFinePlace}
use Rattle.pv_laws_trees.proofs.TreeChanges.{shape-without_entry}
use Rattle.pv_laws_states.proofs.ValidEnds.{tree-end}
use Rattle.pv_laws_trees.proofs.DirectoryEntries.{by_name}
use Rattle.pv_laws_states.proofs.CallOutcomes.{at_call}
use Rattle.pv_laws_states.proofs.Processes.{process_at-same, tree-update}
use Rattle.pv_laws_states.proofs.ValidReplies.{valid-at_call}
use Rattle.pv_laws_access.specs.Justice.{changes_bytes, ChangesBytes, HasEffectNext, IsExplained}
use Rattle.pv_laws_access.proofs.ChangedTrees.{cases_entry, content-other, entries-content, file-other, entry-with_other, entry-without_other, new-within, entry-new_other, file-new, entry-collect, file-collect}
use Rattle.pv_laws_access.proofs.CallEffects
use Rattle.pv_laws_access.proofs.NarrowedRestraints.{covers-along}
use Rattle.pv_laws_access.proofs.TouchingCalls.{touched, allowed-back}

-- ---- fewer permissions

judged-fewer : (t : Tree) (table : Option Table) (place : Place) (many few : Perms) → covers many few ≡ true → judgement t table place many ≡ Allowed → judgement t table place few ≡ Allowed
unfolding judgement
judged-fewer t None place many few fewer allowed = refl
judged-fewer t (Some table) place many few fewer allowed = by (governing_entry t table place) allowed
  where
    by : (o : Option ℕ) → judge_entry table many o ≡ Allowed → judge_entry table few o ≡ Allowed
    by None is = cc
    by (Some k) is =
        elim (covers (permissions_at table k) many) as (λ b. covers (permissions_at table k) many ≡ b → cond b Allowed (Denied k) ≡ Allowed → judge_entry table few (Some k) ≡ Allowed) [
          | true ↦ λ has _. ap (λ b. cond b Allowed (Denied k)) (covers-along (permissions_at table k) many few has fewer)
          | false ↦ λ hasnt none. cc none
        ] refl is

-- an open that creates needs c
making : (flags : OpenFlags) → flags.create ≡ true → covers (permissions_of_open flags) permission_c ≡ true
making flags create =
    ap (λ b. covers (join_permissions (permissions_of_mode flags.mode) (if b then permission_c else no_permissions)) permission_c) create
    ∙ by (permissions_of_mode flags.mode)
  where
    by : (a : Perms) → covers (join_permissions a permission_c) permission_c ≡ true
    by a = all a.r a.w a.x a.c
      where
        all : (r w x c : Bool) → covers (join_permissions (record { r = r; w = w; x = x; c = c }) permission_c) permission_c ≡ true
        all true true true true = refl
        all true true true false = refl
        all true true false true = refl
        all true true false false = refl
        all true false true true = refl
        all true false true false = refl
        all true false false true = refl
        all true false false false = refl
        all false true true true = refl
        all false true true false = refl
        all false true false true = refl
        all false true false false = refl
        all false false true true = refl
        all false false true false = refl
        all false false false true = refl
        all false false false false = refl

-- the needs of a call that opens
pub needs-open : (call : Call) (flags : OpenFlags) → flags_of call ≡ Some flags → needs call ≡ needs_of_mode flags.mode ++ (if flags.create then needs_cpath else [])
unfolding needs
needs-open (TheCall.Open path g) flags is = let same : g ≡ flags = cc is in ap (λ (h : OpenFlags). needs_of_mode h.mode ++ (if h.create then needs_cpath else [])) same
needs-open (TheCall.OpenAt start path g) flags is = let same : g ≡ flags = cc is in ap (λ (h : OpenFlags). needs_of_mode h.mode ++ (if h.create then needs_cpath else [])) same
needs-open call flags is = cc is

-- an open that truncates a file, at a place that is allowed for its permissions
pub record IsCut (s : State) (me : Process) (call : Call) (f : ℕ) : Type 0 where
  pub flags : OpenFlags
  pub place : Place
  pub flagged : flags_of call ≡ Some flags
  pub truncates : flags.truncate ≡ true
  pub written : writes flags.mode ≡ true
  pub allowed : IsAllowed s me call (permissions_of_open flags) place
  pub node : node_of place ≡ Some f
  pub fine : IsFinePlace s.tree place

-- a call writes a file: by a descriptor that is open for writing, or by such an open
abbrev pub IsWritten : State → Process → Call → ℕ → Type 0
IsWritten s me call f = CallEffects.WritesBy s me call f ⊎ IsCut s me call f

written-justifies : (s : State) (me : Process) (call : Call) (f : ℕ) → IsWritten s me call f → Justifies s me call (change_file f)
written-justifies s me call f is = ⊎_elim (λ has. change_by_descriptor f has.1) (λ c. change_by_open c.flags c.place f c.flagged c.truncates c.allowed c.node) is

written-changes : (s : State) (me : Process) (call : Call) (f : ℕ) → IsWritten s me call f → changes_bytes call ≡ true
written-changes s me call f is = ⊎_elim (λ has. has.0) (λ c. opens call c.flags c.flagged) is
  where
    opens : (call : Call) (flags : OpenFlags) → flags_of call ≡ Some flags → changes_bytes call ≡ true
    opens (TheCall.Open path g) flags flagged = refl
    opens (TheCall.OpenAt start path g) flags flagged = refl
    opens call flags flagged = cc flagged

-- a call needs cpath, possibly among other promises
abbrev pub AsksCpath : Call → Type 0
AsksCpath call = (others : List Need) × (needs call ≡ others ++ needs_cpath)

-- a valid place of the call at an entry, which is allowed for c
pub record IsEdited (s : State) (me : Process) (call : Call) (d : ℕ) (name : Bytes) : Type 0 where
  pub place : Place
  pub allowed : IsAllowed s me call permission_c place
  pub named : name_of place ≡ Some (d, name)
  pub fine : IsFinePlace s.tree place
  pub asks : AsksCpath call

module _ (s : State) (pid : ℕ) (me : Process) (call : Call) (whole : IsValid s) (at : process_at s pid ≡ Some me) (is_good : is_call call ≡ true) where
  abbrev pub Change : Place → ℕ × Bytes → Type 0
  Change = CallEffects.MayChange s pid me call

  abbrev W : ℕ → Type 0
  W = IsWritten s me call

  pub fine-name : (place : Place) (p : ℕ × Bytes) → Change place p → FineName s.tree p (node_of place)
  fine-name place p change = named-place s.tree place p (change.fine whole at is_good) change.name

  pub many : (u : Tree) → IsTree u → u.inodes ≡ s.tree.inodes → length u.nodes ≡ length s.tree.nodes
  many u tree same = tree.well_formed.numbers ∙ ap suc same ∙ sym whole.tree.well_formed.numbers

  -- a directory stays a directory when entries change
  pub between-directory : (p : ℕ × Bytes) → is_directory_at s.tree p.0 ≡ true → (q : ℕ) → is_directory_at s.tree q ≡ true → is_directory_at (without_entry s.tree p.0 p.1) q ≡ true
  between-directory p dir q into = (shape-without_entry s.tree p.0 p.1 dir whole.tree.well_formed.each_node).directory q ∙ into

  -- ---- entries

  module _ (d : ℕ) (name : Bytes) where
    abbrev Differs : Tree → Type 0
    Differs t = find_entry t d name ≢ find_entry s.tree d name

    named-so : (p : ℕ × Bytes) → (d ≡ p.0) → (name ≡ p.1) → ◌≡◌ {A = Option (ℕ × Bytes)} (Some p) (Some (d, name))
    named-so p here same = λ i. Some (sym here i, sym same i)

    -- a call that needs cpath changes the entry
    abbrev E : Type 0
    E = IsEdited s me call d name

    at_place : (place : Place) (p : ℕ × Bytes) → Change place p → (d ≡ p.0) → (name ≡ p.1) → E
    at_place place p change here same = record {
      place = place;
      allowed = change.allowed;
      named = change.name ∙ named-so p here same;
      fine = change.fine whole at is_good;
      asks = ([], change.need);
    }

    made : (p : ℕ × Bytes) (node : Node) (u : Tree) → u ≡ with_new_node s.tree p.0 p.1 node → IsTree u → is_directory_at s.tree p.0 ≡ true → entries_of (Some node) ≡ [] → Differs u
        → ((d ≡ p.0) → (name ≡ p.1) → E) → E
    made p node u is tree dir bare differs there =
        let below = new-within s.tree p node (ap (λ (t : Tree). length t.nodes) (sym is) ∙ many u tree (ap (λ (t : Tree). t.inodes) is)) in
        ⊎_elim (λ here. there here.0 here.1)
        (λ other. absurd (differs (ap (λ (t : Tree). find_entry t d name) is ∙ entry-new_other s.tree p node dir bare below d name other))) (cases_entry d p.0 name p.1)

    pub entries-by : (after : State) (r : Reply) → CallEffects.HasEffect s pid me call after r → IsTree after.tree → Differs after.tree → E
    entries-by _ _ (CallEffects.stays r waiting) tree differs = absurd (differs refl)
    entries-by _ _ (CallEffects.restrains q r no_more same parent table goes) tree differs = absurd (differs refl)
    entries-by _ _ (CallEffects.begins path program is) tree differs = absurd (differs refl)
    entries-by _ _ (CallEffects.closes n) tree differs = absurd (differs refl)
    entries-by _ _ (CallEffects.copies e x n is) tree differs = absurd (differs refl)
    entries-by _ _ (CallEffects.forks is) tree differs = absurd (differs refl)
    entries-by _ _ (CallEffects.reaps k r ended goes) tree differs = absurd (differs refl)
    entries-by _ _ (CallEffects.moves k old new r there node mode named goes) tree differs = absurd (differs refl)
    entries-by _ _ (CallEffects.cuts f bytes has) tree differs = absurd (differs (ap (find by_name name) (entries-content s.tree f bytes d)))
    entries-by _ _ (CallEffects.writes_bytes f bytes k old new n has there node mode named) tree differs = absurd (differs (ap (find by_name name) (entries-content s.tree f bytes d)))
    entries-by _ _ (CallEffects.makes place p node change free bare) tree differs = made p node _ refl tree (fine-name place p change).directory bare differs (λ here same. at_place place p change here same)
    entries-by _ _ (CallEffects.links place p old n change from_old is fine) tree differs =
        ⊎_elim (λ here. at_place place p change here.0 here.1)
        (λ other. absurd (differs (entry-with_other s.tree p.0 p.1 n (fine-name place p change).directory d name other))) (cases_entry d p.0 name p.1)
    entries-by _ _ (CallEffects.unlinks place p change) tree differs =
        ⊎_elim (λ here. at_place place p change here.0 here.1)
        (λ other. absurd (differs (entry-without_other s.tree p.0 p.1 (fine-name place p change).directory d name other))) (cases_entry d p.0 name p.1)
    entries-by _ _ (CallEffects.renames place p there q n from into is) tree differs =
        let dir = (fine-name place p from).directory in
        ⊎_elim (λ here. at_place place p from here.0 here.1)
        (λ other. ⊎_elim (λ here. at_place there q into here.0 here.1)
        (λ apart. absurd (differs
        (entry-with_other (without_entry s.tree p.0 p.1) q.0 q.1 n (between-directory p dir q.0 (fine-name there q into).directory) d name apart
        ∙ entry-without_other s.tree p.0 p.1 dir d name other))) (cases_entry d q.0 name q.1)) (cases_entry d p.0 name p.1)
    entries-by _ _ (CallEffects.opens flags place n m flagged allowed is fine written) tree differs =
        absurd (differs (by flags.truncate))
      where
        by : (b : Bool) → find_entry (if b then with_content s.tree n [] else s.tree) d name ≡ find_entry s.tree d name
        by true = ap (find by_name name) (entries-content s.tree n [] d)
        by false = refl
    entries-by _ _ (CallEffects.creates flags place p m flagged allowed create named free fine) tree differs =
        let fine_name = named-place s.tree place p (fine whole at is_good) named in
        made p (file_node false []) _ refl tree fine_name.directory refl differs (λ here same. record {
          place = place;
          allowed = (allowed.0, judged-fewer s.tree me.table place (permissions_of_open flags) permission_c (making flags create) allowed.1);
          named = named ∙ named-so p here same;
          fine = fine whole at is_good;
          asks = (needs_of_mode flags.mode, needs-open call flags flagged ∙ ap (λ b. needs_of_mode flags.mode ++ (if b then needs_cpath else [])) create);
        })

  -- ---- files

  module _ (f : ℕ) (file : is_file (node_at s.tree f) ≡ true) where
    abbrev Changes : Tree → Type 0
    Changes t = bytes_of (node_at t f) ≢ bytes_of (node_at s.tree f)

    stays-same : (t : Tree) → node_at t f ≡ node_at s.tree f → Changes t → W f
    stays-same t same changes = absurd (changes (ap bytes_of same))

    cut-by : (g : ℕ) (bytes : Bytes) → W g → Changes (with_content s.tree g bytes) → W f
    cut-by g bytes justified changes =
        ⊎_elim (λ here. subst (λ n. W n) (sym here) justified) (λ other. stays-same (with_content s.tree g bytes) (content-other s.tree g bytes f other) changes) (cases_eq f g)

    made-file : (p : ℕ × Bytes) (node : Node) (u : Tree) → u ≡ with_new_node s.tree p.0 p.1 node → IsTree u → is_directory_at s.tree p.0 ≡ true → entries_of (Some node) ≡ [] → Changes u → W f
    made-file p node u is tree dir bare changes =
        let below = new-within s.tree p node (ap (λ (t : Tree). length t.nodes) (sym is) ∙ many u tree (ap (λ (t : Tree). t.inodes) is)) in
        stays-same u (ap (λ (t : Tree). node_at t f) is ∙ file-new s.tree p node dir bare below f file) changes

    pub files-by : (after : State) (r : Reply) → CallEffects.HasEffect s pid me call after r → IsTree after.tree → Changes after.tree → W f
    files-by _ _ (CallEffects.stays r waiting) tree changes = absurd (changes refl)
    files-by _ _ (CallEffects.restrains q r no_more same parent table goes) tree changes = absurd (changes refl)
    files-by _ _ (CallEffects.begins path program is) tree changes = absurd (changes refl)
    files-by _ _ (CallEffects.closes n) tree changes = absurd (changes refl)
    files-by _ _ (CallEffects.copies e x n is) tree changes = absurd (changes refl)
    files-by _ _ (CallEffects.forks is) tree changes = absurd (changes refl)
    files-by _ _ (CallEffects.reaps k r ended goes) tree changes = absurd (changes refl)
    files-by _ _ (CallEffects.moves k old new r there node mode named goes) tree changes = absurd (changes refl)
    files-by _ _ (CallEffects.cuts g bytes has) tree changes = cut-by g bytes (inl has) changes
    files-by _ _ (CallEffects.writes_bytes g bytes k old new n has there node mode named) tree changes = cut-by g bytes (inl has) changes
    files-by _ _ (CallEffects.makes place p node change free bare) tree changes = made-file p node _ refl tree (fine-name place p change).directory bare changes
    files-by _ _ (CallEffects.links place p old n change from_old is fine) tree changes = stays-same (with_entry s.tree p.0 p.1 n) (file-other s.tree p.0 _ f (fine-name place p change).directory file) changes
    files-by _ _ (CallEffects.unlinks place p change) tree changes = stays-same (without_entry s.tree p.0 p.1) (file-other s.tree p.0 _ f (fine-name place p change).directory file) changes
    files-by _ _ (CallEffects.renames place p there q n from into is) tree changes =
        let dir = (fine-name place p from).directory in
        let first = file-other s.tree p.0 _ f dir file in
        stays-same (with_entry (without_entry s.tree p.0 p.1) q.0 q.1 n) (file-other (without_entry s.tree p.0 p.1) q.0 _ f (between-directory p dir q.0 (fine-name there q into).directory) (ap is_file first ∙ file) ∙ first) changes
    files-by _ _ (CallEffects.opens flags place n m flagged allowed is fine written) tree changes = by flags.truncate refl changes
      where
        by : (b : Bool) → flags.truncate ≡ b → Changes (if b then with_content s.tree n [] else s.tree) → W f
        by true cut changes = cut-by n [] (inr (record { flags = flags; place = place; flagged = flagged; truncates = cut; written = written cut; allowed = allowed; node = is; fine = fine whole at is_good })) changes
        by false cut changes = absurd (changes refl)
    files-by _ _ (CallEffects.creates flags place p m flagged allowed create named free fine) tree changes =
        made-file p (file_node false []) _ refl tree (named-place s.tree place p (fine whole at is_good) named).directory refl changes

-- ---- the laws

-- the call that changes an entry, with its promises held
pub record IsEditedBy (s : State) (pid : ℕ) (d : ℕ) (name : Bytes) : Type 0 where
  pub me : Process
  pub call : Call
  pub at : process_at s pid ≡ Some me
  pub next_is : next me ≡ calls_for call
  pub held : missing_promise me.promises (needs call) ≡ None
  pub edited : IsEdited s me call d name

pub entries-edited : (program_of : Bytes → Option Program) (s : State) (pid : ℕ) (d : ℕ) (name : Bytes) → IsValid s → Touches program_of s pid (change_entry d name) → IsEditedBy s pid d name
entries-edited program_of s pid d name whole changes =
    let T : State → Type 0 = λ y. find_entry y.tree d name ≢ find_entry s.tree d name in
    let t = touched program_of s pid whole T
    (λ differs. differs refl)
    (λ p q at same differs. differs refl)
    (λ y me status tree ascending others differs.
    differs (entry-collect (end_process y pid me status) (subst IsTree (sym (tree-end y pid me status ∙ tree)) whole.tree) d name ∙ ap (λ (u : Tree). find_entry u d name) (tree-end y pid me status ∙ tree)))
    changes in
    let same : find_entry (collect (update t.after pid t.reported)).tree d name ≡ find_entry t.after.tree d name =
    entry-collect (update t.after pid t.reported) (subst IsTree (sym (tree-update t.after pid t.reported)) t.tree) d name ∙ ap (λ (u : Tree). find_entry u d name) (tree-update t.after pid t.reported) in
    let by =
    entries-by (at_call s pid t.me) pid (at_next_line t.me) t.call (valid-at_call s pid t.me whole t.at) (process_at-same s pid (at_next_line t.me)) t.is d name t.after t.reply t.does t.tree
    (λ eq. t.touch (same ∙ eq)) in
    record {
      me = t.me;
      call = t.call;
      at = t.at;
      next_is = t.next_is;
      held = t.held;
      edited = record { place = by.place; allowed = allowed-back s pid t.me t.call permission_c by.place by.allowed; named = by.named; fine = by.fine; asks = by.asks };
    }

pub entries-explained : (program_of : Bytes → Option Program) (s : State) (pid : ℕ) (d : ℕ) (name : Bytes) → IsValid s → Touches program_of s pid (change_entry d name)
    → (e : IsExplained s pid (change_entry d name)) × AsksCpath e.1
entries-explained program_of s pid d name whole changes =
    let e = entries-edited program_of s pid d name whole changes in
    ((e.me, e.call, e.at, e.next_is, e.held, entry_by_place e.edited.place d name e.edited.allowed e.edited.named), e.edited.asks)

pub entries-justified : (program_of : Bytes → Option Program) (s : State) (pid : ℕ) (d : ℕ) (name : Bytes) → IsValid s → Touches program_of s pid (change_entry d name) → IsExplained s pid (change_entry d name)
entries-justified program_of s pid d name whole changes = (entries-explained program_of s pid d name whole changes).0

-- a file that is written at the call is written before it
written-back : (s : State) (pid : ℕ) (me : Process) (call : Call) (f : ℕ) → IsWritten (at_call s pid me) (at_next_line me) call f → IsWritten s me call f
written-back s pid me call f is =
    ⊎_elim (λ has. inl has)
    (λ c. inr (record {
      flags = c.flags;
      place = c.place;
      flagged = c.flagged;
      truncates = c.truncates;
      written = c.written;
      allowed = allowed-back s pid me call (permissions_of_open c.flags) c.place c.allowed;
      node = c.node;
      fine = c.fine;
    })) is

-- the call that writes a file, with its promises held
pub record IsWrittenBy (s : State) (pid : ℕ) (f : ℕ) : Type 0 where
  pub me : Process
  pub call : Call
  pub at : process_at s pid ≡ Some me
  pub next_is : next me ≡ calls_for call
  pub held : missing_promise me.promises (needs call) ≡ None
  pub written : IsWritten s me call f

pub files-written : (program_of : Bytes → Option Program) (s : State) (pid : ℕ) (f : ℕ) → IsValid s → Touches program_of s pid (change_file f) → IsWrittenBy s pid f
files-written program_of s pid f whole changes =
    let T : State → Type 0 = λ y. (is_file (node_at y.tree f) ≡ true) × (file_bytes y f ≢ file_bytes s f) in
    let t = touched program_of s pid whole T
    (λ differs. differs.1 refl)
    (λ p q at same differs. differs.1 refl)
    (λ y me status tree ascending others differs.
    differs.1 (ap bytes_of (file-collect (end_process y pid me status) f differs.0 ∙ ap (λ (u : Tree). node_at u f) (tree-end y pid me status ∙ tree))))
    (changes.1, changes.2) in
    let same : node_at (collect (update t.after pid t.reported)).tree f ≡ node_at t.after.tree f =
    file-collect (update t.after pid t.reported) f t.touch.0 ∙ ap (λ (u : Tree). node_at u f) (tree-update t.after pid t.reported) in
    record {
      me = t.me;
      call = t.call;
      at = t.at;
      next_is = t.next_is;
      held = t.held;
      written = written-back s pid t.me t.call f
          (files-by (at_call s pid t.me) pid (at_next_line t.me) t.call (valid-at_call s pid t.me whole t.at) (process_at-same s pid (at_next_line t.me)) t.is f changes.0 t.after t.reply t.does t.tree
          (λ eq. t.touch.1 (ap bytes_of same ∙ eq)));
    }

pub files-justified : (program_of : Bytes → Option Program) (s : State) (pid : ℕ) (f : ℕ) → IsValid s → Touches program_of s pid (change_file f) → IsExplained s pid (change_file f)
files-justified program_of s pid f whole changes =
    let e = files-written program_of s pid f whole changes in
    (e.me, e.call, e.at, e.next_is, e.held, written-justifies s e.me e.call f e.written)

-- the call is one that changes bytes
pub files-changed : (program_of : Bytes → Option Program) (s : State) (pid : ℕ) (f : ℕ) → IsValid s → Touches program_of s pid (change_file f) → HasEffectNext ChangesBytes s pid f
files-changed program_of s pid f whole changes =
    let e = files-written program_of s pid f whole changes in
    (e.me, e.call, e.at, e.next_is, e.held, (written-changes s e.me e.call f e.written, written-justifies s e.me e.call f e.written))

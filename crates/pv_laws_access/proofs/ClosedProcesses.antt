-- A process that is closed to a file, or cannot write it, lacks everything that would justify a touch of it.
use Rattle.std.proofs.Common.{◌≡◌, ◌≢◌, ℕ, zero, suc, ◌+◌, ◌<◌, ℤ, pos, negsuc, Bool, true, false, cond, not, ◌&&◌, ◌||◌, if◌then◌else◌, ◌==◌, List, [], ◌∷◌, ◌++◌, map, filter, flat_map, length, Option, None, Some, option_map, Ok, Err, refl, ap, sym, subst, ◌∙◌, ◌⊎◌, inl, inr, ⊎_elim, arith}
use Rattle.std.specs.List.{cons_option, list_all}
use Rattle.std.specs.Prelude.{Contains, filter_map, slice_index_or}
use Rattle.std.specs.FinMap.Entries.{find}
use Rattle.std.specs.Ordering.{nat_cmp, eq_by_cmp}
use Rattle.std.proofs.lemmas.Bool.{and_parts, and_from, or_cases, eq-eqb}
use Rattle.std.proofs.lemmas.List.Folds.{list_all-append}
use Rattle.pv_model.specs.declared.call.Call.{Call}
use Rattle.pv_model.specs.declared.call.Call.TheVariants.{Execve}
use Rattle.pv_model.specs.declared.call.Call.TheVariants as TheCall
use Rattle.pv_model.specs.declared.call.Start.{Start}
use Rattle.pv_model.specs.declared.call.Start.TheVariants.{WorkingDirectory, Descriptor as AtDescriptor}
use Rattle.pv_model.specs.declared.follow.Follow.{Follow}
use Rattle.pv_model.specs.declared.follow.Follow.TheVariants.{Last}
use Rattle.pv_model.specs.declared.judgement.Judgement.TheVariants.{Allowed, Denied}
use Rattle.pv_model.specs.declared.open_flags.Mode.{Mode}
use Rattle.pv_model.specs.declared.open_flags.Mode.TheVariants.{Read as ReadMode, Write as WriteMode, ReadWrite}
use Rattle.pv_model.specs.declared.open_flags.OpenFlags.{OpenFlags}
use Rattle.pv_model.specs.declared.perms.Perms.{Perms}
use Rattle.pv_model.specs.declared.place.Place.{Place}
use Rattle.pv_model.specs.declared.place.Place.TheVariants.{At, Node as Unnamed}
use Rattle.pv_model.specs.declared.promise.Promise.{Promise}
use Rattle.pv_model.specs.declared.promise.Promise.TheVariants.{Rpath, Wpath, Cpath, Exec as ExecPromise}
use Rattle.pv_model.specs.declared.verdict.Why.{Why}
use Rattle.pv_model.specs.declared.verdict.Why.TheVariants.{Reads, NotLocked, Gives, Above, Exec}
use Rattle.pv_model.specs.Machine.{Bytes, is_empty, node_of, open_file_of, open_file, directory_of_file, start_directory, end_of, live_processes, needs, needs_cpath, needs_of_mode, permissions_of_open, Numbered, at_number, numbered_from, covers, join_permissions, no_permissions, permission_x, permission_c, Promises, Need, contains, missing_promise, OpenFile, Descriptor, Program, Process, ProcessRecord, live, ended_record, State, reads, writes, process_at, step, with_bytes, file_bytes, read_file, change_file, place_found, places, flags_of, Touches, Justifies, read_by_descriptor, read_by_execve, Entries, Node, directory_node, file_node, link_node, Tree, root, node_at, entries_of, is_directory, is_directory_at, find_entry, parent, names_in, names_of, Table, permissions_at, directory_rights, judge_entry, governing_entry, judgement, Walked, is_absolute, resolve, follows_last, Walk, follow_of, open_walk, walks_of}
use Rattle.pv_model.specs.Needs.{permissions_of_mode}
use Rattle.pv_model.specs.Sealed
use Rattle.pv_model.specs.Touch.{change_by_descriptor, change_by_open}
use Rattle.pv_laws_states.specs.States.{IsValid}
use Rattle.pv_laws_trees.specs.Tree.{IsSoundTree}
use Rattle.pv_laws_trees.specs.Walk
use Rattle.pv_laws_trees.proofs.DirectoryEntries.{by_name, tied-same}
use Rattle.pv_laws_states.proofs.ReferenceMembers.{live-found, find_number_cases}
use Rattle.pv_laws_trees.proofs.WalkPlaces.{parent-directory}
use Rattle.pv_laws_trees.proofs.Trees.{sound}
use Rattle.pv_laws_trees.proofs.WalkRelations.{resolve-resolves}
use Rattle.pv_laws_access.specs.Secrets.{StepsDifferInFile}
use Rattle.pv_laws_access.proofs.JustifiedChanges.{files-justified}
use Rattle.pv_laws_access.proofs.JustifiedReads.{reads-justified, alike-or_read}

-- ---- lists

-- a property of every live process holds for one
pub live-passes : (test : Process → Bool) (pid : ℕ) (p : Process) (rs : List (ℕ × ProcessRecord)) → find nat_cmp pid rs ≡ Some (live p)
    → list_all (λ (e : ℕ × Process). test e.1) (live_processes rs) ≡ true → test p ≡ true
live-passes test pid p [] is all = cc
live-passes test pid p ((k, live q) ∷ rs) is all =
    let parts = and_parts (test q) (list_all (λ (e : ℕ × Process). test e.1) (live_processes rs)) all in
    find_number_cases (test p ≡ true) pid (live p) (k, live q) rs is
    (λ same value. let one : q ≡ p = cc value in subst (λ z. test z ≡ true) one parts.0)
    (λ there. live-passes test pid p rs there parts.1)
live-passes test pid p ((k, ended_record parent status) ∷ rs) is all =
    find_number_cases (test p ≡ true) pid (live p) (k, ended_record parent status) rs is (λ same value. cc value) (λ there. live-passes test pid p rs there all)

-- if no value of a map passes a test, the value for a number does not
none-numbered : {X Y : Type 0} (test : X → Bool) (g : ℕ × X → Y) (k : ℕ) (xs : Numbered X) (i : ℕ) (x : X)
    → is_empty (map g (filter (λ (d : ℕ × X). test d.1) (numbered_from k xs))) ≡ true → at_number xs i ≡ Some x → test x ≡ false
none-numbered test g k [] i x none is = cc
none-numbered test g k (None ∷ xs) zero x none is = cc
none-numbered test g k (None ∷ xs) (suc i) x none is = none-numbered test g (suc k) xs i x none is
none-numbered {X} test g k (Some y ∷ xs) i x none is =
    let rest : List (ℕ × X) = filter (λ (d : ℕ × X). test d.1) (numbered_from (suc k) xs) in
    elim (test y) as (λ b. test y ≡ b → is_empty (map g (cond b ((k, y) ∷ rest) rest)) ≡ true → test x ≡ false) [
      | true ↦ λ has empty. cc empty
      | false ↦ λ hasnt empty. by (λ j at. none-numbered test g (suc k) xs j x empty at) i is hasnt
    ] refl none
  where
    by : ((j : ℕ) → at_number xs j ≡ Some x → test x ≡ false) → (i : ℕ) → at_number (Some y ∷ xs) i ≡ Some x → test y ≡ false → test x ≡ false
    by more zero is hasnt = let same : y ≡ x = cc is in subst (λ z. test z ≡ false) same hasnt
    by more (suc j) is hasnt = more j is

abbrev gives_none : (ℕ → Bool) → Option ℕ → Bool
gives_none test None = true
gives_none test (Some k) = not (test k)

abbrev after_it : (ℕ × Bytes → Option ℕ) → List (ℕ × Bytes) → List ℕ
after_it g ns = filter_map (λ (k : Option ℕ). k) (map g ns)

-- if no governing entry passes a test, no entry that governs a name does
none-given : (g : ℕ × Bytes → Option ℕ) (test : ℕ → Bool) (ns : List (ℕ × Bytes))
    → is_empty (filter test (filter_map (λ (k : Option ℕ). k) (map g ns))) ≡ true → list_all (λ (n : ℕ × Bytes). gives_none test (g n)) ns ≡ true
none-given g test [] none = refl
none-given g test (n ∷ ns) none = by (λ empty. none-given g test ns empty) (g n) none
  where
    by : (is_empty (filter test (after_it g ns)) ≡ true → list_all (λ (m : ℕ × Bytes). gives_none test (g m)) ns ≡ true) → (o : Option ℕ) → is_empty (filter test (cons_option o (after_it g ns))) ≡ true → (gives_none test o && list_all (λ (m : ℕ × Bytes). gives_none test (g m)) ns) ≡ true
    by more None empty = more empty
    by more (Some k) empty =
        elim (test k) as (λ b. is_empty (cond b (k ∷ filter test (after_it g ns)) (filter test (after_it g ns))) ≡ true → (not b && list_all (λ (m : ℕ × Bytes). gives_none test (g m)) ns) ≡ true) [
          | true ↦ λ e. cc e
          | false ↦ λ e. more e
        ] empty

abbrev AllIn : (ℕ × Bytes → Bool) → ℕ → ℕ → Bytes × ℕ → Entries → Bool → Type 0
AllIn Q n d e es b = list_all Q (map (λ (x : Bytes × ℕ). (d, x.0)) (cond b (e ∷ filter (λ (x : Bytes × ℕ). x.1 == n) es) (filter (λ (x : Bytes × ℕ). x.1 == n) es))) ≡ true

-- a property of all names of a node holds for the name of an entry
in-passes : (Q : ℕ × Bytes → Bool) (n d : ℕ) (es : Entries) (name : Bytes) → list_all Q (names_in n es d) ≡ true → find by_name name es ≡ Some n → Q (d, name) ≡ true
in-passes Q n d [] name all is = cc
in-passes Q n d (e ∷ es) name all is =
    elim (eq_by_cmp by_name name e.0) as (λ b. eq_by_cmp by_name name e.0 ≡ b → cond b (Some e.1) (find by_name name es) ≡ Some n → Q (d, name) ≡ true) [
      | true ↦ λ tied here. first (tied-same name e.0 tied) (cc here)
      | false ↦ λ tied there. in-passes Q n d es name following there
    ] refl is
  where
    first : name ≡ e.0 → e.1 ≡ n → Q (d, name) ≡ true
    first same here =
        let every : AllIn Q n d e es true = subst (AllIn Q n d e es) (eq-eqb e.1 n here) all in
        subst (λ (z : Bytes). Q (d, z) ≡ true) (sym same) (and_parts (Q (d, e.0)) _ every).0

    following : list_all Q (names_in n es d) ≡ true
    following = elim (e.1 == n) as (λ b. AllIn Q n d e es b → AllIn Q n d e es false) [ true ↦ λ every. (and_parts (Q (d, e.0)) _ every).1 | false ↦ λ every. every ] all

from-passes : (Q : ℕ × Bytes → Bool) (n k : ℕ) (xs : Numbered Node) (d : ℕ) (name : Bytes)
    → list_all Q (flat_map (λ (e : ℕ × Node). names_in n (entries_of (Some e.1)) e.0) (numbered_from k xs)) ≡ true
    → find by_name name (entries_of (at_number xs d)) ≡ Some n → Q (k + d, name) ≡ true
from-passes Q n k [] d name all is = cc
from-passes Q n k (None ∷ xs) zero name all is = cc
from-passes Q n k (None ∷ xs) (suc d) name all is =
    let same : suc k + d ≡ k + suc d = omega arith in
    subst (λ (m : ℕ). Q (m, name) ≡ true) same (from-passes Q n (suc k) xs d name all is)
from-passes Q n k (Some node ∷ xs) d name all is =
    let parts = and_parts _ _ (sym (list_all-append Q (names_in n (entries_of (Some node)) k) (flat_map (λ (e : ℕ × Node). names_in n (entries_of (Some e.1)) e.0) (numbered_from (suc k) xs))) ∙ all) in
    by (λ j at. from-passes Q n (suc k) xs j name parts.1 at) d is parts.0
  where
    by : ((j : ℕ) → find by_name name (entries_of (at_number xs j)) ≡ Some n → Q (suc k + j, name) ≡ true)
        → (d : ℕ) → find by_name name (entries_of (at_number (Some node ∷ xs) d)) ≡ Some n → list_all Q (names_in n (entries_of (Some node)) k) ≡ true → Q (k + d, name) ≡ true
    by more zero is here =
        let same : k ≡ k + 0 = omega arith in
        subst (λ (m : ℕ). Q (m, name) ≡ true) same (in-passes Q n k (entries_of (Some node)) name here is)
    by more (suc j) is here =
        let same : suc k + j ≡ k + suc j = omega arith in
        subst (λ (m : ℕ). Q (m, name) ≡ true) same (more j is)

name-passes : (Q : ℕ × Bytes → Bool) (t : Tree) (n d : ℕ) (name : Bytes) → list_all Q (names_of t n) ≡ true → find_entry t d name ≡ Some n → Q (d, name) ≡ true
name-passes Q t n d name all is =
    let same : 0 + d ≡ d = omega arith in
    subst (λ (m : ℕ). Q (m, name) ≡ true) same (from-passes Q n 0 t.nodes d name all is)

empty-left : {X : Type 0} (xs ys : List X) → is_empty (xs ++ ys) ≡ true → is_empty xs ≡ true
empty-left [] ys none = refl
empty-left (x ∷ xs) ys none = cc none

empty-right : {X : Type 0} (xs ys : List X) → is_empty (xs ++ ys) ≡ true → is_empty ys ≡ true
empty-right [] ys none = none
empty-right (x ∷ xs) ys none = cc none

empty-least : (why : ℕ → Why) (ks : List ℕ) → is_empty (Sealed.least_first why ks) ≡ true → is_empty ks ≡ true
empty-least why [] none = refl
empty-least why (k ∷ ks) none = cc none

unset : (b : Bool) → not b ≡ true → b ≡ false
unset true is = cc is
unset false is = refl

-- ---- walks

-- a walk that ends at a file ends at a name of it
abbrev IsByName : Tree → ℕ → Walked → Type 0
IsByName t f (Ok (Unnamed n)) = n ≢ f
IsByName t f (Ok (At d name (Some n))) = find_entry t d name ≡ Some n
IsByName t f (Ok (At d name None)) = Unit {0}
IsByName t f (Err e) = Unit {0}

module _ (t : Tree) (s : IsSoundTree t) (f : ℕ) (file : is_directory_at t f ≡ false) where
  other : (d : ℕ) → is_directory_at t d ≡ true → d ≢ f
  other d dir same = let no : is_directory_at t d ≡ false = ap (is_directory_at t) same ∙ file in cc

  walks-named : (last : Bool) (links : ℕ) (ps : List Bytes) (mark : Bool) (at : ℕ) (r : Walked) → Walk.Walks t last links ps mark at r → at ≢ f → IsByName t f r
  walks-named last _ _ _ _ _ (Walk.Walks.arrives links mark at) apart = apart
  walks-named last _ _ _ _ _ (Walk.Walks.stays links component rest mark at r is more) apart = walks-named last links rest mark at r more apart
  walks-named last _ _ _ _ _ (Walk.Walks.climbs links component rest mark at above r is up more) apart =
      walks-named last links rest mark above r more (other above (parent-directory (λ b. true) t s at above up))
  walks-named last _ _ _ _ _ (Walk.Walks.no_parent links component rest mark at is up) apart = tt
  walks-named last _ _ _ _ _ (Walk.Walks.name_too_long links component rest mark at dot dots long) apart = tt
  walks-named last _ _ _ _ _ (Walk.Walks.in_removed links component rest mark at name is) apart = tt
  walks-named last _ _ _ _ _ (Walk.Walks.absent links component rest mark at name appears none more) apart = tt
  walks-named last _ _ _ _ _ (Walk.Walks.vacant links component at name appears none) apart = tt
  walks-named last _ _ _ _ _ (Walk.Walks.out_of_links component rest mark at n text leads followed) apart = tt
  walks-named last _ _ _ _ _ (Walk.Walks.too_heavy links component rest mark at n text leads followed heavy) apart = tt
  walks-named last _ _ _ _ _ (Walk.Walks.through links component rest mark at n text r leads followed light more) apart =
      walks-named last links _ _ (if is_absolute text then root else at) r more
      (elim (is_absolute text) as (λ b. cond b root at ≢ f) [ true ↦ other root s.root_is_directory | false ↦ apart ])
  walks-named last _ _ _ _ _ (Walk.Walks.enters links component next rest mark at n es r leads more) apart =
      walks-named last links (next ∷ rest) mark n r more (other n (ap is_directory leads.is))
  walks-named last _ _ _ _ _ (Walk.Walks.not_entered links component next rest mark at n executable bytes leads) apart = tt
  walks-named last _ _ _ _ _ (Walk.Walks.finds_directory links component mark at n es leads) apart = leads.entry
  walks-named last _ _ _ _ _ (Walk.Walks.finds_file links component at n executable bytes leads) apart = leads.entry
  walks-named last _ _ _ _ _ (Walk.Walks.finds_link links component rest mark at n text leads followed) apart = leads.entry
  walks-named last _ _ _ _ _ (Walk.Walks.wants_directory links component at n executable bytes leads) apart = tt
  walks-named last _ _ _ _ _ (Walk.Walks.lost links component rest mark at n name appears found none) apart = tt

  resolve-named : (follow : Follow) (start : ℕ) (path : Bytes) → start ≢ f → IsByName t f (resolve t follow start path)
  resolve-named follow start path apart = by (resolve t follow start path) (resolve-resolves t follow start path)
    where
      by : (r : Walked) → Walk.Resolves t follow start path r → IsByName t f r
      by _ (Walk.Resolves.empty is) = tt
      by _ (Walk.Resolves.too_long long) = tt
      by r (Walk.Resolves.walks _ filled short more) =
          walks-named (follows_last follow) 32 _ _ (if is_absolute path then root else start) r more
          (elim (is_absolute path) as (λ b. cond b root start ≢ f) [ true ↦ other root s.root_is_directory | false ↦ apart ])

pub one-walk : (o : Option Place) (place : Place) → Contains (cons_option o []) place → o ≡ Some place
one-walk None place has = absurd (none has.0 has.1)
  where
    none : (k : ℕ) → k < 0 → ⊥
    none k low = omega arith
one-walk (Some found) place has = ap Some (at has.0 has.1 has.2)
  where
    at : (k : ℕ) → k < 1 → slice_index_or (found ∷ []) k place ≡ place → found ≡ place
    at zero low there = there
    at (suc k) low there = absurd (omega arith)

pub found-ok : (r : Walked) (place : Place) → place_found r ≡ Some place → r ≡ Ok place
found-ok (Ok there) place is = let same : there ≡ place = cc is in ap Ok same
found-ok (Err e) place is = cc is

-- ---- permissions and promises

pub allowed-by : (table : Table) (needed : Perms) (o : Option ℕ) → judge_entry table needed o ≡ Allowed → (k : ℕ) × (o ≡ Some k) × (covers (permissions_at table k) needed ≡ true)
allowed-by table needed None is = cc is
allowed-by table needed (Some k) is =
    elim (covers (permissions_at table k) needed) as (λ b. covers (permissions_at table k) needed ≡ b → cond b Allowed (Denied k) ≡ Allowed → (j : ℕ) × (◌≡◌ {A = Option ℕ} (Some k) (Some j)) × (covers (permissions_at table j) needed ≡ true)) [
      | true ↦ λ has _. (k, refl, has)
      | false ↦ λ hasnt bad. cc bad
    ] refl is

abbrev pub opening_permissions : Perms → Bool
opening_permissions permissions = permissions.r || permissions.x || permissions.c

pub covers-x : (l : Perms) → covers l permission_x ≡ true → opening_permissions l ≡ true
covers-x l is = all l.r l.w l.x l.c is
  where
    all : (r w x c : Bool) → covers (record { r = r; w = w; x = x; c = c }) permission_x ≡ true → (r || x || c) ≡ true
    all true w true c is = refl
    all true w false c is = refl
    all false w true c is = refl
    all false true false true is = cc is
    all false true false false is = cc is
    all false false false true is = cc is
    all false false false false is = cc is

pub covers-r : (l : Perms) (m : Mode) (c : Perms) → reads m ≡ true → covers l (join_permissions (permissions_of_mode m) c) ≡ true → opening_permissions l ≡ true
covers-r l WriteMode c is has = cc is
covers-r l ReadMode c is has = at l.r has
  where
    at : (r : Bool) → covers (record l { r = r }) (join_permissions (permissions_of_mode ReadMode) c) ≡ true → (r || l.x || l.c) ≡ true
    at true has = refl
    at false has = cc has
covers-r l ReadWrite c is has = at l.r has
  where
    at : (r : Bool) → covers (record l { r = r }) (join_permissions (permissions_of_mode ReadWrite) c) ≡ true → (r || l.x || l.c) ≡ true
    at true has = refl
    at false has = cc has

w-part : (l b : Perms) → covers l b ≡ true → (l.w || not b.w) ≡ true
w-part l b is = (and_parts (l.r || not b.r) (l.w || not b.w) (and_parts ((l.r || not b.r) && (l.w || not b.w)) (l.x || not b.x) (and_parts (((l.r || not b.r) && (l.w || not b.w)) && (l.x || not b.x)) (l.c || not b.c) is).0).0).1

pub or_one : (b : Bool) → (b || false) ≡ true → b ≡ true
or_one true is = refl
or_one false is = cc is

pub covers-w : (l : Perms) (m : Mode) (c : Perms) → writes m ≡ true → covers l (join_permissions (permissions_of_mode m) c) ≡ true → l.w ≡ true
covers-w l ReadMode c is has = cc is
covers-w l WriteMode c is has = or_one l.w (w-part l (join_permissions (permissions_of_mode WriteMode) c) has)
covers-w l ReadWrite c is has = or_one l.w (w-part l (join_permissions (permissions_of_mode ReadWrite) c) has)

-- a promise that is not held is missing
pub lacking : (held : Promises) (q : Promise) (rest : List Need) → contains held q ≡ false → missing_promise (Some held) ((q ∷ []) ∷ rest) ≡ None → ⊥
lacking held q rest hasnt is =
    let bad : ◌≡◌ {A = Option Promise} (Some q) None = ap (λ b. if (b || false) then missing_promise (Some held) rest else Some q) (sym hasnt) ∙ is in cc bad

following-first : (held : Promises) (q : Promise) (rest : List Need) → missing_promise (Some held) ((q ∷ []) ∷ rest) ≡ None → missing_promise (Some held) rest ≡ None
following-first held q rest is =
    elim (contains held q) as (λ b. (if (b || false) then missing_promise (Some held) rest else Some q) ≡ None → missing_promise (Some held) rest ≡ None) [
      | true ↦ λ there. there
      | false ↦ λ bad. cc bad
    ] is

no-execve : (o : Option Promises) → Sealed.has_none_of (Rpath ∷ ExecPromise ∷ Cpath ∷ []) o ≡ true → missing_promise o ((ExecPromise ∷ []) ∷ []) ≡ None → ⊥
no-execve None none is = cc none
no-execve (Some held) none is =
    let rest = (and_parts (not (contains held Rpath)) _ none).1 in
    lacking held ExecPromise [] (unset (contains held ExecPromise) (and_parts (not (contains held ExecPromise)) _ rest).0) is

no-reading : (o : Option Promises) (m : Mode) (rest : List Need) → reads m ≡ true → Sealed.has_none_of (Rpath ∷ ExecPromise ∷ Cpath ∷ []) o ≡ true
    → missing_promise o (needs_of_mode m ++ rest) ≡ None → ⊥
no-reading None m rest reading none is = cc none
no-reading (Some held) WriteMode rest reading none is = cc reading
no-reading (Some held) ReadMode rest reading none is = lacking held Rpath rest (unset (contains held Rpath) (and_parts (not (contains held Rpath)) _ none).0) is
no-reading (Some held) ReadWrite rest reading none is =
    lacking held Rpath ((Wpath ∷ []) ∷ rest) (unset (contains held Rpath) (and_parts (not (contains held Rpath)) _ none).0) is

no-writing : (o : Option Promises) (m : Mode) (rest : List Need) → writes m ≡ true → Sealed.has_none_of (Wpath ∷ ExecPromise ∷ []) o ≡ true
    → missing_promise o (needs_of_mode m ++ rest) ≡ None → ⊥
no-writing None m rest writing none is = cc none
no-writing (Some held) ReadMode rest writing none is = cc writing
no-writing (Some held) WriteMode rest writing none is = lacking held Wpath rest (unset (contains held Wpath) (and_parts (not (contains held Wpath)) _ none).0) is
no-writing (Some held) ReadWrite rest writing none is =
    lacking held Wpath rest (unset (contains held Wpath) (and_parts (not (contains held Wpath)) _ none).0) (following-first held Rpath ((Wpath ∷ []) ∷ rest) is)

-- ---- a process that is closed to a file

abbrev flags_or : OpenFlags → Option OpenFlags → OpenFlags
flags_or other None = other
flags_or other (Some found) = found

abbrev file_or : OpenFile → Option (ℕ × OpenFile) → OpenFile
file_or other None = other
file_or other (Some found) = found.1

module _ (s : State) (whole : IsValid s) (p : Process) (f : ℕ) (file : is_directory_at s.tree f ≡ false) where
  -- no descriptor on the file has a mode that passes
  no-descriptor : (test : Mode → Bool) → is_empty (Sealed.descriptors_on s p f test) ≡ true
      → (d : ℤ) (k : ℕ) (o : OpenFile) → open_file s p d ≡ Some (k, o) → o.node ≡ f → test o.mode ≡ true → ⊥
  no-descriptor test none (negsuc d) k o is node mode = cc is
  no-descriptor test none (pos d) k o is node mode = by (at_number p.descriptors d) refl is
    where
      at_file : (x : Descriptor) → at_number p.descriptors d ≡ Some x → (q : Option OpenFile) → at_number s.files x.file ≡ q
          → option_map {U = ℕ × OpenFile} (λ z. (x.file, z)) q ≡ Some (k, o) → ⊥
      at_file x at None there is = cc is
      at_file x at (Some z) there is =
          let same : z ≡ o = ap (file_or z) is in
          let no : Sealed.opens s p f test (at_number s.files x.file) ≡ false =
          none-numbered (λ (y : Descriptor). Sealed.opens s p f test (at_number s.files y.file)) (λ (e : ℕ × Descriptor). e.0) 0 p.descriptors d x none at in
          let off : ((z.node == f) && test z.mode) ≡ false = ap (Sealed.opens s p f test) (sym there) ∙ no in
          let on : ((z.node == f) && test z.mode) ≡ true = subst (λ (y : OpenFile). ((y.node == f) && test y.mode) ≡ true) (sym same) (and_from (o.node == f) (test o.mode) (eq-eqb o.node f node) mode) in
          cc

      by : (x : Option Descriptor) → at_number p.descriptors d ≡ x → open_file_of s x ≡ Some (k, o) → ⊥
      by None at is = cc is
      by (Some x) at is = at_file x at (at_number s.files x.file) refl is

  -- if no entry that governs a name of the file passes a test, no name is allowed for permissions that need it
  no-permissions : (table : Table) (test : Perms → Bool) (needed : Perms) → ((l : Perms) → covers l needed ≡ true → test l ≡ true) → is_empty (Sealed.giving s p f test table) ≡ true
      → (d : ℕ) (name : Bytes) → find_entry s.tree d name ≡ Some f → judgement s.tree (Some table) (At d name (Some f)) needed ≡ Allowed → ⊥
  unfolding judgement governing_entry
  no-permissions table test needed passes none d name found allowed =
      let g : ℕ × Bytes → Option ℕ = Sealed.governs_name s p f table in
      let all = none-given g (λ (k : ℕ). test (permissions_at table k)) (names_of s.tree f) none in
      let here : gives_none (λ (k : ℕ). test (permissions_at table k)) (g (d, name)) ≡ true =
      name-passes (λ (n : ℕ × Bytes). gives_none (λ (k : ℕ). test (permissions_at table k)) (g n)) s.tree f d name all found in
      let judged : judge_entry table needed (g (d, name)) ≡ Allowed =
      ap (λ b. judge_entry table needed (if b then directory_rights s.tree table f else g (d, name))) (sym file) ∙ allowed in
      let by = allowed-by table needed (g (d, name)) judged in
      let yes : test (permissions_at table by.0) ≡ true = passes (permissions_at table by.0) by.2 in
      let no : not (test (permissions_at table by.0)) ≡ true = ap (gives_none (λ (k : ℕ). test (permissions_at table k))) (sym by.1) ∙ here in
      let bad : false ≡ true = ap not (sym yes) ∙ no in cc bad

  -- the place of a call's only walk, if the file is there, is a name of it
  named : (follow : Follow) (start : ℕ) (path : Bytes) → start ≢ f → (place : Place)
      → Contains (cons_option (place_found (resolve s.tree follow start path)) []) place → node_of place ≡ Some f
      → (d : ℕ) × (name : Bytes) × (place ≡ At d name (Some f)) × (find_entry s.tree d name ≡ Some f)
  named follow start path apart place among node =
      let found = found-ok (resolve s.tree follow start path) place (one-walk (place_found (resolve s.tree follow start path)) place among) in
      by place (subst (IsByName s.tree f) found (resolve-named s.tree (sound s.tree whole.tree.well_formed) f file follow start path apart)) node
    where
      by : (x : Place) → IsByName s.tree f (Ok x) → node_of x ≡ Some f → (d : ℕ) × (name : Bytes) × (x ≡ At d name (Some f)) × (find_entry s.tree d name ≡ Some f)
      by (Unnamed n) away is = let same : n ≡ f = cc is in absurd (away same)
      by (At d name None) _ is = cc is
      by (At d name (Some n)) entry is =
          let same : n ≡ f = cc is in (d, name, ap (λ m. At d name (Some m)) same, entry ∙ ap Some same)

  -- the results of the test for closed: the descriptors, and the promises or the table
  record IsShut : Type 0 where
    descriptors : is_empty (Sealed.descriptors_on s p f reads) ≡ true
    restraints : (Sealed.is_pledged_without (Rpath ∷ ExecPromise ∷ Cpath ∷ []) p ≡ true) ⊎ (is_empty (Sealed.leaks_of_table s p f p.table) ≡ true)

  closed : is_empty (Sealed.leaks s p f) ≡ true → IsShut
  unfolding Sealed.leaks
  closed none = record {
    descriptors = empty-least Reads _ (empty-left _ _ none);
    restraints = by (Sealed.is_pledged_without (Rpath ∷ ExecPromise ∷ Cpath ∷ []) p) (empty-right _ _ none);
  }
    where
      by : (b : Bool) → is_empty (if b then [] else Sealed.leaks_of_table s p f p.table) ≡ true → (b ≡ true) ⊎ (is_empty (Sealed.leaks_of_table s p f p.table) ≡ true)
      by true none = inl refl
      by false none = inr none

  -- a closed table allows no name of the file for permissions that open it
  no-opening : (needed : Perms) → ((l : Perms) → covers l needed ≡ true → opening_permissions l ≡ true)
      → (o : Option Table) → is_empty (Sealed.leaks_of_table s p f o) ≡ true
      → (d : ℕ) (name : Bytes) → find_entry s.tree d name ≡ Some f → judgement s.tree o (At d name (Some f)) needed ≡ Allowed → ⊥
  no-opening needed passes None none d name found allowed = cc none
  no-opening needed passes (Some table) none d name found allowed =
      no-permissions table opening_permissions needed passes
      (empty-least Gives _ (empty-right (Sealed.when (not p.locked) NotLocked) (Sealed.least_first Gives (Sealed.giving s p f opening_permissions table))
      (empty-left _ (Sealed.least_first Above (Sealed.above s p f table)) (empty-left _ (Sealed.when (not (Sealed.is_held_over_exec s p f)) Exec) none))))
      d name found allowed

  -- nothing justifies a read of the file
  unread : IsShut → (pid : ℕ) → process_at s pid ≡ Some p → (call : Call) → missing_promise p.promises (needs call) ≡ None → Justifies s p call (read_file f) → ⊥
  unfolding needs
  unread c pid at call held (read_by_descriptor _ has) = no-descriptor reads c.descriptors has.0 has.1 has.2 has.4 has.5 has.6
  unread c pid at call held (read_by_execve path place _ is allowed node) =
      let among = subst (λ (x : Call). Contains (places s p x) place) is allowed.0 in
      let apart = other s.tree (sound s.tree whole.tree.well_formed) f file p.directory (whole.processes.placed pid p at).directory in
      let n = named Last p.directory path apart place among node in
      let judged : judgement s.tree p.table (At n.0 n.1 (Some f)) permission_x ≡ Allowed = subst (λ (x : Place). judgement s.tree p.table x permission_x ≡ Allowed) n.2 allowed.1 in
      ⊎_elim
      (λ pledged. no-execve p.promises pledged (subst (λ (x : Call). missing_promise p.promises (needs x) ≡ None) is held))
      (λ none. no-opening permission_x covers-x p.table none n.0 n.1 n.3 judged)
      c.restraints

  -- ---- a process that cannot write the file

  record IsPreserved : Type 0 where
    descriptors : is_empty (Sealed.descriptors_on s p f writes) ≡ true
    restraints : (Sealed.is_pledged_without (Wpath ∷ ExecPromise ∷ []) p ≡ true) ⊎ (Sealed.is_preserved_by_table s p f p.table ≡ true)

  preserved : Sealed.is_frozen_to s p f ≡ true → IsPreserved
  unfolding Sealed.is_frozen_to
  preserved is =
      let parts = and_parts (is_empty (Sealed.descriptors_on s p f writes)) _ is in
      record { descriptors = parts.0; restraints = or_cases (Sealed.is_pledged_without (Wpath ∷ ExecPromise ∷ []) p) (Sealed.is_preserved_by_table s p f p.table) parts.1 }

  -- such a table allows no name of the file for permissions that include w
  no-w : (needed : Perms) → ((l : Perms) → covers l needed ≡ true → l.w ≡ true)
      → (o : Option Table) → Sealed.is_preserved_by_table s p f o ≡ true
      → (d : ℕ) (name : Bytes) → find_entry s.tree d name ≡ Some f → judgement s.tree o (At d name (Some f)) needed ≡ Allowed → ⊥
  no-w needed passes None is d name found allowed = cc is
  no-w needed passes (Some table) is d name found allowed =
      let giving : Bool = is_empty (Sealed.giving s p f (λ permissions. permissions.w) table) in
      no-permissions table (λ permissions. permissions.w) needed passes
      (and_parts p.locked giving (and_parts (p.locked && giving) (Sealed.is_held_over_exec s p f) is).0).1 d name found allowed

  -- an open walks to the file, on which the process has no descriptor
  record IsOpening (call : Call) (flags : OpenFlags) : Type 0 where
    start : Start
    path : Bytes
    apart : start_directory s p start path ≢ f
    walk : walks_of call ≡ open_walk start path flags ∷ []
    need : needs call ≡ needs_of_mode flags.mode ++ (if flags.create then needs_cpath else [])

  module _ (c : IsShut) (k : IsPreserved) (pid : ℕ) (at : process_at s pid ≡ Some p) where
    by_mode : (m : Mode) → (reads m ≡ true) ⊎ (writes m ≡ true)
    by_mode ReadMode = inl refl
    by_mode WriteMode = inr refl
    by_mode ReadWrite = inl refl

    here : p.directory ≢ f
    here = other s.tree (sound s.tree whole.tree.well_formed) f file p.directory (whole.processes.placed pid p at).directory

    of_file : (d : ℤ) (q : Option (ℕ × OpenFile)) → open_file s p d ≡ q → directory_of_file p q ≢ f
    of_file d None is = here
    of_file d (Some (n, o)) is = λ same.
        ⊎_elim (λ reading. no-descriptor reads c.descriptors d n o is same reading) (λ writing. no-descriptor writes k.descriptors d n o is same writing) (by_mode o.mode)

    start-apart : (start : Start) (path : Bytes) → start_directory s p start path ≢ f
    start-apart WorkingDirectory path = here
    start-apart (AtDescriptor d) path =
        elim (is_absolute path) as (λ b. cond b p.directory (directory_of_file p (open_file s p d)) ≢ f) [ true ↦ here | false ↦ of_file d (open_file s p d) refl ]

  opening : IsShut → IsPreserved → (pid : ℕ) → process_at s pid ≡ Some p → (call : Call) (flags : OpenFlags) → flags_of call ≡ Some flags → IsOpening call flags
  unfolding needs
  opening c k pid at (TheCall.Exit x) flags is = cc is
  opening c k pid at TheCall.GetPid flags is = cc is
  opening c k pid at TheCall.GetPpid flags is = cc is
  opening c k pid at TheCall.Fork flags is = cc is
  opening c k pid at TheCall.Wait flags is = cc is
  opening c k pid at (TheCall.Pledge x y) flags is = cc is
  opening c k pid at (TheCall.Unveil x y) flags is = cc is
  opening c k pid at (TheCall.Execve x) flags is = cc is
  opening c k pid at (TheCall.Close x) flags is = cc is
  opening c k pid at (TheCall.Dup x) flags is = cc is
  opening c k pid at (TheCall.Dup2 x y) flags is = cc is
  opening c k pid at (TheCall.Read x y) flags is = cc is
  opening c k pid at (TheCall.Write x y) flags is = cc is
  opening c k pid at (TheCall.Lseek x y z) flags is = cc is
  opening c k pid at (TheCall.Fstat x) flags is = cc is
  opening c k pid at (TheCall.Ftruncate x y) flags is = cc is
  opening c k pid at (TheCall.Getdents x) flags is = cc is
  opening c k pid at (TheCall.Fchdir x) flags is = cc is
  opening c k pid at (TheCall.Chdir x) flags is = cc is
  opening c k pid at (TheCall.Stat x) flags is = cc is
  opening c k pid at (TheCall.Lstat x) flags is = cc is
  opening c k pid at (TheCall.Readlink x) flags is = cc is
  opening c k pid at (TheCall.Mkdir x) flags is = cc is
  opening c k pid at (TheCall.Symlink x y) flags is = cc is
  opening c k pid at (TheCall.Link x y) flags is = cc is
  opening c k pid at (TheCall.Unlink x) flags is = cc is
  opening c k pid at (TheCall.Rmdir x) flags is = cc is
  opening c k pid at (TheCall.Rename x y) flags is = cc is
  opening c k pid at (TheCall.Open path g) flags is =
      subst (λ (h : OpenFlags). IsOpening (TheCall.Open path g) h) (ap (flags_or g) is) (record { start = WorkingDirectory; path = path; apart = here c k pid at; walk = refl; need = refl })
  opening c k pid at (TheCall.OpenAt start path g) flags is =
      subst (λ (h : OpenFlags). IsOpening (TheCall.OpenAt start path g) h) (ap (flags_or g) is)
      (record { start = start; path = path; apart = start-apart c k pid at start path; walk = refl; need = refl })

  -- nothing justifies a change of the file
  unchanged : IsShut → IsPreserved → (pid : ℕ) → process_at s pid ≡ Some p → (call : Call) → missing_promise p.promises (needs call) ≡ None → Justifies s p call (change_file f) → ⊥
  unchanged c k pid at call held (change_by_descriptor _ has) = no-descriptor writes k.descriptors has.0 has.1 has.2 has.4 has.5 has.6
  unchanged c k pid at call held (change_by_open flags place _ flagged cut allowed node) =
      let o = opening c k pid at call flags flagged in
      let among = subst (λ (ws : List Walk). Contains (filter_map (λ (w : Walk). place_found (end_of s p w)) ws) place) o.walk allowed.0 in
      let n = named (follow_of flags) (start_directory s p o.start o.path) o.path o.apart place among node in
      let judged : judgement s.tree p.table (At n.0 n.1 (Some f)) (permissions_of_open flags) ≡ Allowed = subst (λ (x : Place). judgement s.tree p.table x (permissions_of_open flags) ≡ Allowed) n.2 allowed.1 in
      let met = subst (λ (ns : List Need). missing_promise p.promises ns ≡ None) o.need held in
      let rest : List Need = if flags.create then needs_cpath else [] in
      let made : Perms = if flags.create then permission_c else no_permissions in
      ⊎_elim
      (λ reading. ⊎_elim (λ pledged. no-reading p.promises flags.mode rest reading pledged met)
      (λ none. no-opening (permissions_of_open flags) (λ l. covers-r l flags.mode made reading) p.table none n.0 n.1 n.3 judged) c.restraints)
      (λ writing. ⊎_elim (λ pledged. no-writing p.promises flags.mode rest writing pledged met)
      (λ locked. no-w (permissions_of_open flags) (λ l. covers-w l flags.mode made writing) p.table locked n.0 n.1 n.3 judged) k.restraints)
      (by_mode c k pid at flags.mode)

pub file-plain : (o : Option Node) → Sealed.is_file o ≡ true → is_directory o ≡ false
file-plain None is = cc is
file-plain (Some (directory_node es)) is = cc is
file-plain (Some (file_node executable bytes)) is = refl
file-plain (Some (link_node text)) is = cc is

sealed-closed : (s : State) (whole : IsValid s) (f : ℕ) (file : is_directory_at s.tree f ≡ false) → Sealed.is_sealed s f ≡ true
    → (pid : ℕ) (p : Process) → process_at s pid ≡ Some p → IsShut s whole p f file
sealed-closed s whole f file shut pid p at =
    closed s whole p f file (live-passes (λ (q : Process). is_empty (Sealed.leaks s q f)) pid p s.processes (live-found s pid p at) (and_parts _ _ shut).1)

pub sealed-not_read : (program_of : Bytes → Option Program) (s : State) (pid : ℕ) (f : ℕ) → IsValid s → Sealed.is_file (node_at s.tree f) ≡ true → Sealed.is_sealed s f ≡ true
    → ¬ Touches program_of s pid (read_file f)
sealed-not_read program_of s pid f whole file shut reads_it =
    let plain = file-plain (node_at s.tree f) file in
    let e = reads-justified program_of s pid f reads_it in
    unread s whole e.0 f plain (sealed-closed s whole f plain shut pid e.0 e.2) pid e.2 e.1 e.4 e.5

-- a step of a process that is closed to a file does not depend on the file's bytes
pub closed-answers_alike : (program_of : Bytes → Option Program) (s : State) (pid : ℕ) (f : ℕ) (bytes : Bytes) → IsValid s → Sealed.is_file (node_at s.tree f) ≡ true
    → ((p : Process) → process_at s pid ≡ Some p → is_empty (Sealed.leaks s p f) ≡ true) → length bytes ≡ length (file_bytes s f) → StepsDifferInFile f (step program_of s pid) (step program_of (with_bytes s f bytes) pid)
closed-answers_alike program_of s pid f bytes whole file shut long =
    let plain = file-plain (node_at s.tree f) file in
    ⊎_elim (λ e. absurd (unread s whole e.0 f plain (closed s whole e.0 f plain (shut e.0 e.2)) pid e.2 e.1 e.4 e.5)) (λ alike. alike)
    (alike-or_read program_of s pid f bytes long)

pub sealed-answers_alike : (program_of : Bytes → Option Program) (s : State) (pid : ℕ) (f : ℕ) (bytes : Bytes) → IsValid s → Sealed.is_file (node_at s.tree f) ≡ true → Sealed.is_sealed s f ≡ true
    → length bytes ≡ length (file_bytes s f) → StepsDifferInFile f (step program_of s pid) (step program_of (with_bytes s f bytes) pid)
sealed-answers_alike program_of s pid f bytes whole file shut long =
    closed-answers_alike program_of s pid f bytes whole file
    (λ p at. live-passes (λ (q : Process). is_empty (Sealed.leaks s q f)) pid p s.processes (live-found s pid p at) (and_parts _ _ shut).1) long

pub frozen-not_changed : (program_of : Bytes → Option Program) (s : State) (pid : ℕ) (f : ℕ) → IsValid s → Sealed.is_frozen s f ≡ true → ¬ Touches program_of s pid (change_file f)
frozen-not_changed program_of s pid f whole frozen changes =
    let plain = file-plain (node_at s.tree f) changes.0 in
    let e = files-justified program_of s pid f whole changes in
    let parts = and_parts (Sealed.is_sealed s f) _ frozen in
    unchanged s whole e.0 f plain (sealed-closed s whole f plain parts.0 pid e.0 e.2)
    (preserved s whole e.0 f plain (live-passes (λ (q : Process). Sealed.is_frozen_to s q f) pid e.0 s.processes (live-found s pid e.0 e.2) parts.1))
    pid e.2 e.1 e.4 e.5

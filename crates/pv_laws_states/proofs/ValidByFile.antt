-- The calls that change only an open file preserve validity.
use Rattle.std.proofs.Common.{◌≡◌, ℕ, ◌+◌, ◌-◌, ◌≤◌, min, ℤ, pos, ◌+ℤ◌, Bool, true, false, cond, not, ◌&&◌, nat_le, List, [], ◌∷◌, map, length, take, drop, Option, None, Some, is_some, option_map, refl, ap, sym, subst, ◌∙◌, ⊎_elim, arith}
use Rattle.std.specs.Prelude.{find}
use Rattle.std.specs.List.{list_all}
use Rattle.std.proofs.Math.ListN.{length-take, length-drop}
use Rattle.std.proofs.lemmas.Bool.{and_parts, and_from, leb-true, cases_eq}
use Rattle.pv_model.specs.declared.call.Whence.{Whence}
use Rattle.pv_model.specs.declared.open_flags.Mode.{Mode}
use Rattle.pv_model.specs.declared.errno.Errno.TheVariants.{EBADF, EINVAL, EISDIR}
use Rattle.pv_model.specs.declared.version.Version.{Version}
use Rattle.pv_model.specs.declared.version.Version.TheVariants.{V1, V2}
use Rattle.pv_model.specs.Machine.{Attempt, ◌>>=◌, ◌>>◌, refuse_if, demand, Bytes, within, is_past, next_name, open_file_for, read, seek_base, lseek, list_name, getdents, Effect, answers, answers_bytes, descriptor_at, open_file, open_file_of, with_file, bytes_of, at_number, with_number, OpenFile, Descriptor, Process, State, reads, Entries, Node, directory_node, file_node, link_node, Tree, greatest_name, node_at, entries_of, entries_at, is_directory_at, is_name, is_name_byte}
use Rattle.pv_model.specs.Calls.Descriptors.{if_mode}
use Rattle.pv_laws_states.specs.States.{is_byte, are_bytes, IsOpenFile, is_listed_name, AreFiles, IsValid}
use Rattle.pv_laws_states.proofs.AttemptValues.{Leads, leads-refuse_if, leads-demand}
use Rattle.pv_laws_states.proofs.ValidByProcess.{within-limit}
use Rattle.pv_laws_trees.proofs.TreeChanges.{entries-good}
use Rattle.pv_laws_trees.proofs.NumberedMaps.{at_number-below, length-with_number, with_number-same, with_number-other}
use Rattle.pv_laws_states.proofs.ValidReplies.{IsEffect}
use Rattle.pv_laws_trees.proofs.NodeRoom.{length-within, greatest-low}
use Rattle.pv_laws_states.proofs.ProcessInsides.{IsReady, list_all-take, list_all-drop}
use Rattle.pv_laws_states.proofs.ChangedStates.{ready, carries-self, solid-present}
use Rattle.pv_laws_states.proofs.ValidStates.{has_room, solid}

abbrev numbered_file : ℕ → OpenFile → Option (ℕ × OpenFile)
numbered_file k f = Some (k, f)

-- the open file of a descriptor exists
pub open_file-at : (s : State) (me : Process) (d : ℤ) (k : ℕ) (f : OpenFile) → open_file s me d ≡ Some (k, f) → at_number s.files k ≡ Some f
open_file-at s me d k f is = by (descriptor_at me d) is
  where
    of : (n : ℕ) (o : Option OpenFile) → at_number s.files n ≡ o → option_map {U = ℕ × OpenFile} (λ f. (n, f)) o ≡ Some (k, f) → at_number s.files k ≡ Some f
    of n None there is = cc
    of n (Some g) there is =
        let pair : ◌≡◌ {A = ℕ × OpenFile} (n, g) (k, f) = cc is in
        ap (at_number s.files) (sym (ap (λ (p : ℕ × OpenFile). p.0) pair)) ∙ there ∙ ap (λ (p : ℕ × OpenFile). Some p.1) pair

    by : (o : Option Descriptor) → open_file_of s o ≡ Some (k, f) → at_number s.files k ≡ Some f
    by None is = cc
    by (Some x) is = of x.file (at_number s.files x.file) refl is

-- the mode of the open file passes
pub open_file_for-at : (s : State) (pid : ℕ) (me : Process) (test : Mode → Bool) (d : ℤ) (k : ℕ) (f : OpenFile) → open_file_for s pid me test d ≡ Some (k, f)
    → (at_number s.files k ≡ Some f) × (test f.mode ≡ true)
open_file_for-at s pid me test d k f is = by (open_file s me d) refl is
  where
    by : (o : Option (ℕ × OpenFile)) → open_file s me d ≡ o → if_mode test o ≡ Some (k, f) → (at_number s.files k ≡ Some f) × (test f.mode ≡ true)
    by None there is = cc
    by (Some (j, g)) there is =
        elim (test g.mode) as (λ b. test g.mode ≡ b → cond b (numbered_file j g) None ≡ numbered_file k f → (at_number s.files k ≡ Some f) × (test f.mode ≡ true)) [
          | true ↦ λ passes some.
              let pair : ◌≡◌ {A = ℕ × OpenFile} (j, g) (k, f) = cc some in
              (open_file-at s me d k f (there ∙ some), ap (λ (p : ℕ × OpenFile). test p.1.mode) (sym pair) ∙ passes)
          | false ↦ λ fails none. cc
        ] refl is

-- a file has a bounded number of bytes
pub file-bytes : (s : State) → IsValid s → (n : ℕ) → (length (bytes_of (node_at s.tree n)) ≤ 660480) × (are_bytes (bytes_of (node_at s.tree n)) ≡ true)
file-bytes s whole n = by (node_at s.tree n) refl
  where
    by : (o : Option Node) → node_at s.tree n ≡ o → (length (bytes_of o) ≤ 660480) × (are_bytes (bytes_of o) ≡ true)
    by None is = (omega arith, refl)
    by (Some (directory_node es)) is = (omega arith, refl)
    by (Some (link_node text)) is = (omega arith, refl)
    by (Some (file_node executable bytes)) is =
        (omega (arith, length-within s.tree n (file_node executable bytes) is whole.not_too_long, greatest-low s.tree.version), whole.tree.bytes n (file_node executable bytes) is)

-- a name found in a directory is short
pub find-list_all : {X : Type 0} (p q : X → Bool) (xs : List X) (x : X) → list_all q xs ≡ true → find p xs ≡ Some x → q x ≡ true
find-list_all p q [] x all is = cc
find-list_all p q (y ∷ ys) x all is =
    let parts = and_parts (q y) (list_all q ys) all in
    elim (p y) as (λ b. cond b (Some y) (find p ys) ≡ Some x → q x ≡ true) [
      | true ↦ λ here. let same : y ≡ x = cc here in ap q (sym same) ∙ parts.0
      | false ↦ λ there. find-list_all p q ys x parts.1 there
    ] is

both_all : {X : Type 0} (p q : X → Bool) (xs : List X) → list_all p xs ≡ true → list_all q xs ≡ true → list_all (λ x. p x && q x) xs ≡ true
both_all p q [] a b = refl
both_all p q (x ∷ xs) a b =
    let c = and_parts (p x) (list_all p xs) a in
    let d = and_parts (q x) (list_all q xs) b in and_from (p x && q x) _ (and_from (p x) (q x) c.0 d.0) (both_all p q xs c.1 d.1)

entries-bytes : (s : State) → IsValid s → (d : ℕ) → list_all (λ (e : Bytes × ℕ). are_bytes e.0) (entries_at s.tree d) ≡ true
entries-bytes s whole d = by (node_at s.tree d) refl
  where
    by : (o : Option Node) → node_at s.tree d ≡ o → list_all (λ (e : Bytes × ℕ). are_bytes e.0) (entries_of o) ≡ true
    by None is = refl
    by (Some (directory_node es)) is = whole.tree.bytes d (directory_node es) is
    by (Some (file_node executable bytes)) is = refl
    by (Some (link_node text)) is = refl

names-of : (test : Bytes → Bool) (es : Entries) → list_all (λ e. test e.0) es ≡ true → list_all test (map (λ e. e.0) es) ≡ true
names-of test [] all = refl
names-of test (e ∷ es) all = let parts = and_parts (test e.0) (list_all (λ e. test e.0) es) all in and_from (test e.0) _ parts.0 (names-of test es parts.1)

pub next-listed : (s : State) → IsValid s → (d : ℕ) (last : Option Bytes) (name : Bytes) → next_name last (entries_at s.tree d) ≡ Some name → is_listed_name s.tree.version (Some name) ≡ true
next-listed s whole d last name is =
    find-list_all (is_past last) (λ name. is_name s.tree.version name && are_bytes name) (map (λ e. e.0) (entries_at s.tree d)) name
    (names-of (λ name. is_name s.tree.version name && are_bytes name) (entries_at s.tree d)
    (both_all (λ (e : Bytes × ℕ). is_name s.tree.version e.0) (λ e. are_bytes e.0) (entries_at s.tree d) (entries-good s.tree d whole.tree.well_formed.each_node).1 (entries-bytes s whole d)))
    is

name-low : (v : Version) → greatest_name v ≤ 255
name-low V1 = omega arith
name-low V2 = omega arith

pub name-short : (v : Version) (name : Bytes) → is_name v name ≡ true → length name ≤ 255
name-short v name is =
    let a = (and_parts _ (not (Rattle.std.specs.Prelude.bytes_eq name (Rattle.std.specs.Prelude.codes ".."))) is).0 in
    let b = (and_parts _ (not (Rattle.std.specs.Prelude.bytes_eq name (Rattle.std.specs.Prelude.codes "."))) a).0 in
    let c = (and_parts _ (list_all is_name_byte name) b).0 in
    let d = (and_parts (not (Rattle.pv_model.specs.Bytes.is_empty name)) (nat_le (length name) (greatest_name v)) c).1 in
    omega (arith, leb-true (length name) (greatest_name v) d, name-low v)

module _ (s : State) (pid : ℕ) (me : Process) (whole : IsValid s) where
  -- an open file is replaced
  pub files-with : (u : Tree) (files : AreFiles u s.files) (k : ℕ) (old new : OpenFile) → at_number s.files k ≡ Some old → IsOpenFile u new → AreFiles u (with_number s.files k new)
  files-with u files k old new there is =
      let below = at_number-below s.files k old there in
      record {
        count = length-with_number s.files k new below ∙ files.count;
        each = λ j f at. ⊎_elim
            (λ same. let value : Some new ≡ Some f = sym (with_number-same s.files k new below) ∙ ap (at_number (with_number s.files k new)) (sym same) ∙ at in let eq : new ≡ f = cc value in subst (IsOpenFile u) eq is)
            (λ other. files.each j f (sym (with_number-other s.files k new j below other) ∙ at)) (cases_eq j k);
      }

  pub files-stay : (k : ℕ) (old new : OpenFile) → at_number s.files k ≡ Some old → (j : ℕ) → is_some (at_number s.files j) ≡ true → is_some (at_number (with_number s.files k new) j) ≡ true
  files-stay k old new there j is =
      let below = at_number-below s.files k old there in
      ⊎_elim (λ same. ap is_some (ap (at_number (with_number s.files k new)) same ∙ with_number-same s.files k new below))
      (λ other. ap is_some (with_number-other s.files k new j below other) ∙ is) (cases_eq j k)

  pub ready-file : (k : ℕ) (old new : OpenFile) → at_number s.files k ≡ Some old → IsOpenFile s.tree new → IsReady (with_file s k new)
  ready-file k old new there is = record {
    solid = solid-present s s.tree (with_number s.files k new) (solid s whole) whole.tree (carries-self s.tree) (files-with s.tree whole.files k old new there is) (files-stay k old new there);
    room = has_room (with_file s k new) whole.fits whole.not_too_long;
  }

  -- an open file with another offset
  moved : (f : OpenFile) (offset : ℕ) → offset ≤ 2147483647 → IsOpenFile s.tree f → IsOpenFile s.tree (record f { offset = offset })
  moved f offset low is = record { node = is.node; directory = is.directory; offset = low; listed = is.listed }

  abbrev lseek_3 : ℕ → OpenFile → ℕ → Attempt Effect
  lseek_3 k file offset = answers (with_file s k (record file { offset = offset })) offset

  abbrev lseek_2 : ℤ → Whence → ℕ → OpenFile → Attempt Effect
  lseek_2 by whence k file = demand EINVAL (within 2147483647 (pos (seek_base s pid me file whence) +ℤ by)) >>= lseek_3 k file

  abbrev lseek_1 : ℤ → Whence → (ℕ × OpenFile) → Attempt Effect
  lseek_1 by whence (k, file) = refuse_if EINVAL (is_directory_at s.tree file.node) >> lseek_2 by whence k file

  pub good-lseek : (d by : ℤ) (whence : Whence) → Leads (IsEffect s) (lseek s pid me d by whence)
  good-lseek d by whence =
      leads-demand (IsEffect s) EBADF (open_file s me d) (lseek_1 by whence) (λ (k, file) is.
      leads-refuse_if (IsEffect s) EINVAL (is_directory_at s.tree file.node) (lseek_2 by whence k file) (λ plain.
      leads-demand (IsEffect s) EINVAL (within 2147483647 (pos (seek_base s pid me file whence) +ℤ by)) (lseek_3 k file) (λ offset low.
      let there = open_file-at s me d k file is in
      let few = within-limit 2147483647 (pos (seek_base s pid me file whence) +ℤ by) offset low in
      (ready-file k file (record file { offset = offset }) there (moved file offset few (whole.files.each k file there)), few))))

  -- the bytes that a read returns

  abbrev read_bytes : ℕ → OpenFile → Bytes
  read_bytes count file = take count (drop file.offset (bytes_of (node_at s.tree file.node)))

  abbrev read_3 : ℕ → OpenFile → ℕ → Attempt Effect
  read_3 k file count = answers_bytes (with_file s k (record file { offset = file.offset + length (read_bytes count file) })) (length (read_bytes count file)) (read_bytes count file)

  abbrev read_2 : ℕ → OpenFile → ℕ → Attempt Effect
  read_2 k file count = refuse_if EISDIR (is_directory_at s.tree file.node) >> read_3 k file count

  abbrev read_1 : ℤ → (ℕ × OpenFile) → Attempt Effect
  read_1 n (k, file) = demand EINVAL (within 4096 n) >>= read_2 k file

  pub good-read : (d n : ℤ) → Leads (IsEffect s) (read s pid me d n)
  good-read d n =
      leads-demand (IsEffect s) EBADF (open_file_for s pid me reads d) (read_1 n) (λ (k, file) is.
      leads-demand (IsEffect s) EINVAL (within 4096 n) (read_2 k file) (λ count low.
      leads-refuse_if (IsEffect s) EISDIR (is_directory_at s.tree file.node) (read_3 k file count) (λ plain.
      let there = (open_file_for-at s pid me reads d k file is).0 in
      let old = whole.files.each k file there in
      let all = bytes_of (node_at s.tree file.node) in
      let both = file-bytes s whole file.node in
      let few = within-limit 4096 n count low in
      let taken : length (read_bytes count file) ≡ min count (length all - file.offset) = length-take count (drop file.offset all) ∙ ap (min count) (length-drop file.offset all) in
      let offset : file.offset + length (read_bytes count file) ≤ 2147483647 = omega (arith, taken, both.0, old.offset) in (
        ready-file k file (record file { offset = file.offset + length (read_bytes count file) }) there (moved file (file.offset + length (read_bytes count file)) offset old),
        omega (arith, taken, few),
        omega (arith, taken, few),
        list_all-take is_byte count (drop file.offset all) (list_all-drop is_byte file.offset all both.1),
      ))))

  -- the name that a getdents returns

  good-list_name : (k : ℕ) (file : OpenFile) → at_number s.files k ≡ Some file → (o : Option Bytes) → next_name file.listed (entries_at s.tree file.node) ≡ o → Leads (IsEffect s) (list_name s pid me k file o)
  good-list_name k file there None is = (ready s whole, omega arith, omega arith, refl)
  good-list_name k file there (Some name) is =
      let old = whole.files.each k file there in
      let listed = next-listed s whole file.node file.listed name is in
      let parts = and_parts (is_name s.tree.version name) (are_bytes name) listed in
      let short = name-short s.tree.version name parts.0 in (
        ready-file k file (record file { listed = Some name }) there (record { node = old.node; directory = old.directory; offset = old.offset; listed = listed }),
        omega (arith, short),
        omega (arith, short),
        parts.1,
      )

  abbrev getdents_2 : ℕ → OpenFile → Attempt Effect
  getdents_2 k file = list_name s pid me k file (next_name file.listed (entries_at s.tree file.node))

  abbrev getdents_1 : (ℕ × OpenFile) → Attempt Effect
  getdents_1 (k, file) = refuse_if EINVAL (not (is_directory_at s.tree file.node)) >> getdents_2 k file

  pub good-getdents : (d : ℤ) → Leads (IsEffect s) (getdents s pid me d)
  good-getdents d =
      leads-demand (IsEffect s) EBADF (open_file s me d) getdents_1 (λ (k, file) is.
      leads-refuse_if (IsEffect s) EINVAL (not (is_directory_at s.tree file.node)) (getdents_2 k file) (λ dir.
      good-list_name k file (open_file-at s me d k file is) (next_name file.listed (entries_at s.tree file.node)) refl))

-- Calls on open files and their bytes.
use Rattle.std.proofs.Common.{◌≡◌, ℕ, zero, suc, ◌<◌, ◌+◌, ℤ, pos, ◌+ℤ◌, Bool, true, false, ◌||◌, [], length, take, drop, Option, None, Some, is_some, refl, ap, ap₂, sym, ◌∙◌, arith}
use Rattle.std.specs.Prelude.{IsSome, option_map}
use Rattle.pv_calls_plain.specs.Space.{space_errno, write_some}
use Rattle.pv_calls_state.specs.Attempts.{collected_attempt}
use Rattle.pv_calls_state.proofs.UncountedChanges.{some-at}
use Rattle.pv_calls_state.proofs.AttemptSequences.{after_none, given, passed, refused_before, refused_first}
use Rattle.pv_calls_plain.proofs.RoomForCalls.{roomy, crowded}
use Rattle.pv_calls_state.specs.OfInodes.declared.space.Space.{Space}
use Rattle.pv_laws_states.specs.States.{IsValid}
use Rattle.pv_model.specs.declared.call.Whence.{Whence}
use Rattle.pv_model.specs.declared.errno.Errno.TheVariants.{EFBIG, EINVAL}
use Rattle.pv_model.specs.declared.limits.TheConstants.{BUFFER, OFFSET}
use Rattle.pv_model.specs.declared.outcome.Cause.TheVariants.{Plain}
use Rattle.pv_model.specs.Machine.{update, update_live, with_front, done, refused, demand, refuse_if, ◌>>=◌, Bytes, fstat, getdents, is_past_greatest, lseek, next_name, read, seek_base, within, write, write_end, write_place, after_write, answers, bytes_of, open_file, returns, returns_bytes, size_of, status, with_file, with_room, collect, Numbered, at_number, is_file, is_too_long, fits, OpenFile, Process, State, process_at, reads, writes, Node, directory_node, file_node, link_node, Tree, node_at, entries_at, is_directory, is_directory_at}
use Rattle.pv_model.specs.Calls.Descriptors.{with_bytes_written}
use Rattle.pv_laws_states.proofs.Processes.{files-update}
use Rattle.pv_laws_states.proofs.ChangedStates.{file_or_directory}
use Rattle.pv_calls_state.specs.OfTree.Rooms.{room_error}

-- a part of an optional value that is present
pub part-is : {X Y : Type 0} (g : X → Y) (o : Option X) (x : X) (y : Y) → option_map g o ≡ Some y → o ≡ Some x → y ≡ g x
part-is g o x y is at = let mine : option_map g o ≡ Some (g x) = ap (option_map g) at in cc

-- a part of an open file
pub file-part : {Y : Type 0} (g : OpenFile → Y) (fs files : Numbered OpenFile) (k : ℕ) (f : OpenFile) (y : Y) → fs ≡ files → option_map g (at_number fs k) ≡ Some y → at_number files k ≡ Some f → y ≡ g f
file-part g fs files k f y same is at = part-is g (at_number fs k) f y is (ap (λ xs. at_number xs k) same ∙ at)

plain-file : (o : Option Node) → (is_file o || is_directory o) ≡ true → is_directory o ≡ false → is_file o ≡ true
plain-file None is plain = cc
plain-file (Some (directory_node es)) is plain = cc
plain-file (Some (file_node executable bytes)) is plain = refl
plain-file (Some (link_node text)) is plain = cc

sized : (o : Option Node) (n : ℕ) → is_file o ≡ true → option_map size_of o ≡ Some n → n ≡ length (bytes_of o)
sized None n is has = cc
sized (Some (directory_node es)) n is has = cc
sized (Some (file_node executable bytes)) n is has = cc
sized (Some (link_node text)) n is has = cc

module _ (s : State) (whole : IsValid s) (k : ℕ) where
  -- the node of an open file exists
  pub node-used : (t : Tree) (fs : Numbered OpenFile) (n : ℕ) → t ≡ s.tree → fs ≡ s.files → IsSome (at_number s.files k) → option_map (λ (f : OpenFile). f.node) (at_number fs k) ≡ Some n
      → IsSome (node_at t n)
  node-used t fs n tree files opened is =
      let file = some-at (at_number s.files k) opened in
      let f = file.0 in
      let at = file.1 in
      ap₂ (λ u m. is_some (node_at u m)) tree (file-part (λ (f : OpenFile). f.node) fs s.files k f n files is at) ∙ file_or_directory (node_at s.tree f.node) (whole.files.each k f at).node

  module _ (f : OpenFile) (at : at_number s.files k ≡ Some f) where
    pub is-plain : is_directory_at s.tree f.node ≡ false → is_file (node_at s.tree f.node) ≡ true
    is-plain plain = plain-file (node_at s.tree f.node) (whole.files.each k f at).node plain

    -- a file that is open for writing is not a directory
    pub is-written : writes f.mode ≡ true → is_file (node_at s.tree f.node) ≡ true
    is-written may = is-plain (by (is_directory_at s.tree f.node) refl)
      where
        by : (b : Bool) → is_directory_at s.tree f.node ≡ b → is_directory_at s.tree f.node ≡ false
        by false is = is
        by true is = let no = sym may ∙ (whole.files.each k f at).directory is in cc

    pub size-is : (t : Tree) (n size : ℕ) → t ≡ s.tree → n ≡ f.node → is_directory_at s.tree f.node ≡ false → option_map size_of (node_at t n) ≡ Some size
        → size ≡ length (bytes_of (node_at s.tree f.node))
    size-is t n size tree node plain is =
        sized (node_at s.tree f.node) size (is-plain plain) (ap₂ (λ u m. option_map size_of (node_at u m)) (sym tree) (sym node) ∙ is)

-- ---- system calls

module _ (s : State) (pid : ℕ) (me : Process) (d : ℤ) (k : ℕ) (f : OpenFile) (opened : open_file s me d ≡ Some (k, f)) where
  pub fstat-is : fstat s pid me d ≡ done 0 (s, returns_bytes 0 (status s.tree f.node))
  fstat-is = rw opened refl

  pub getdents-none : is_directory_at s.tree f.node ≡ true → next_name f.listed (entries_at s.tree f.node) ≡ None → getdents s pid me d ≡ done 0 (s, returns_bytes 0 [])
  getdents-none dir none = rw (opened, dir, none) refl

  pub getdents-some : (name : Bytes) → is_directory_at s.tree f.node ≡ true → next_name f.listed (entries_at s.tree f.node) ≡ Some name
      → getdents s pid me d ≡ done 0 (with_file s k (record f { listed = Some name }), returns_bytes (length name) name)
  getdents-some name dir some = rw (opened, dir, some) refl

  pub lseek-out : (by : ℤ) (whence : Whence) → is_directory_at s.tree f.node ≡ false → within OFFSET (pos (seek_base s pid me f whence) +ℤ by) ≡ None
      → lseek s pid me d by whence ≡ refused 0 EINVAL Plain
  lseek-out by whence plain out = rw (opened, plain, out) refl

  pub lseek-to : (by : ℤ) (whence : Whence) (offset : ℕ) → is_directory_at s.tree f.node ≡ false → within OFFSET (pos (seek_base s pid me f whence) +ℤ by) ≡ Some offset
      → lseek s pid me d by whence ≡ done 0 (with_file s k (record f { offset = offset }), returns offset)
  lseek-to by whence offset plain at = rw (opened, plain, at) refl

  abbrev taken : ℕ → Bytes
  taken count = take count (drop f.offset (bytes_of (node_at s.tree f.node)))

  pub read-is : (n : ℤ) (count : ℕ) → reads f.mode ≡ true → within BUFFER n ≡ Some count → is_directory_at s.tree f.node ≡ false
      → read s pid me d n ≡ done 0 (with_file s k (record f { offset = f.offset + length (taken count) }), returns_bytes (length (taken count)) (taken count))
  read-is n count may low plain = rw (opened, may, low, plain) refl

  pub write-is : (n : ℤ) (count : ℕ) → writes f.mode ≡ true → within BUFFER n ≡ Some count → write s pid me d n ≡ write_some s pid me k f count
  write-is n count may low =
      rw (opened, may, low) (after_none (demand EINVAL (Some count) >>= (λ m. write_some s pid me k f m)) ∙ given (demand EINVAL (Some count)) count (λ m. write_some s pid me k f m) refl)

-- ---- reads

-- a change of a process and a change of an open file commute
with_file-update : (s : State) (pid : ℕ) (change : Process → Process) (k : ℕ) (f : OpenFile) → with_file (update s pid change) k f ≡ update (with_file s k f) pid change
with_file-update s pid change k f = by (process_at s pid) refl
  where
    by : (o : Option Process) → process_at s pid ≡ o → with_file (update s pid change) k f ≡ update (with_file s k f) pid change
    by None at = ap (λ o. with_file (update_live s pid change o) k f) at ∙ sym (ap (update_live (with_file s k f) pid change) at)
    by (Some p) at = ap (λ o. with_file (update_live s pid change o) k f) at ∙ sym (ap (update_live (with_file s k f) pid change) at)

-- the offset of a file after bytes came to the front of a process's buffer
pub offset-moved : (s mid new : State) (pid k : ℕ) (f : OpenFile) (bytes : Bytes) (offset : ℕ) → at_number s.files k ≡ Some f → mid ≡ update s pid (with_front bytes)
    → option_map (λ f. with_file mid k (record f { offset = offset })) (at_number mid.files k) ≡ Some new → new ≡ update (with_file s k (record f { offset = offset })) pid (with_front bytes)
offset-moved s mid new pid k f bytes offset at front moved =
    let here : at_number mid.files k ≡ Some f = ap (λ (x : State). at_number x.files k) front ∙ ap (λ fs. at_number fs k) (files-update s pid (with_front bytes)) ∙ at in
    part-is (λ (f : OpenFile). with_file mid k (record f { offset = offset })) (at_number mid.files k) f new moved here
    ∙ ap (λ x. with_file x k (record f { offset = offset })) front ∙ with_file-update s pid (with_front bytes) k (record f { offset = offset })

-- ---- writes

end-at : (s : State) (pid : ℕ) (me : Process) (f : OpenFile) (count at : ℕ) → 0 < count → at ≡ write_place s pid me f → write_end s pid me f count ≡ at + count
end-at s pid me f zero at some place = absurd (omega (arith, some))
end-at s pid me f (suc n) at some place = ap (λ m. m + suc n) (sym place)

after-at : (s : State) (pid : ℕ) (me : Process) (k : ℕ) (f : OpenFile) (count at : ℕ) → 0 < count → at ≡ write_place s pid me f → after_write s pid me k f count ≡ with_bytes_written s pid me k f at (take count me.buffer)
after-at s pid me k f zero at some place = absurd (omega (arith, some))
after-at s pid me k f (suc n) at some place = ap (λ m. with_bytes_written s pid me k f m (take (suc n) me.buffer)) (sym place)

module _ (s : State) (pid : ℕ) (me : Process) (k : ℕ) (f : OpenFile) (count at : ℕ) (some : 0 < count) (place : at ≡ write_place s pid me f) where
  past : (b : Bool) → is_past_greatest s.tree (at + count) ≡ b → is_past_greatest s.tree (write_end s pid me f count) ≡ b
  past b is = ap (λ n. is_past_greatest s.tree n) (end-at s pid me f count at some place) ∙ is

  -- a write past the maximum length
  pub some-past : is_past_greatest s.tree (at + count) ≡ true → write_some s pid me k f count ≡ refused 0 EFBIG Plain
  some-past is = refused_before (refuse_if EFBIG (is_past_greatest s.tree (write_end s pid me f count))) _ 0 EFBIG Plain (ap (refuse_if EFBIG) (past true is))

  abbrev written : State
  written = with_bytes_written s pid me k f at (take count me.buffer)

  module _ (short : is_past_greatest s.tree (at + count) ≡ false) where
    after-is : after_write s pid me k f count ≡ written
    after-is = after-at s pid me k f count at some place

    rest : write_some s pid me k f count ≡ (with_room (after_write s pid me k f count) >>= (λ s. answers s count))
    rest = passed (refuse_if EFBIG (is_past_greatest s.tree (write_end s pid me f count))) tt _ (ap (refuse_if EFBIG) (past false short))

    -- a write without room
    pub some-crowded : (why : Space) → room_error (collect written).tree ≡ Some why → write_some s pid me k f count ≡ refused 0 (space_errno why) Plain
    some-crowded why is =
        rest ∙ refused_first (with_room (after_write s pid me k f count)) _ 0 (space_errno why) Plain
        (crowded (after_write s pid me k f count) why (ap (λ x. room_error (collect x).tree) after-is ∙ is))

    pub some-written : (new : State) → new ≡ collect written → is_too_long new.tree ≡ false → fits new.tree ≡ true
        → collected_attempt (write_some s pid me k f count) ≡ done 0 (new, returns count)
    some-written new is long fit =
        let same : collect (after_write s pid me k f count) ≡ new = ap collect after-is ∙ sym is in
        ap collected_attempt (rest ∙ given (with_room (after_write s pid me k f count)) (after_write s pid me k f count) (λ s. answers s count)
        (roomy (after_write s pid me k f count) (ap (λ (x : State). is_too_long x.tree) same ∙ long) (ap (λ (x : State). fits x.tree) same ∙ fit)))
        ∙ ap (λ x. done 0 (x, returns count)) same

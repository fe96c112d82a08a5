-- Files with other contents of one inode.
use Rattle.std.proofs.Common.{◌≡◌, ℕ, ◌+◌, ◌<◌, ◌≤◌, [], ◌∷◌, length, take, drop, max, Option, None, Some, IsSome, is_some, refl, sym, ap, ◌∙◌, arith}
use Rattle.std.proofs.lemmas.Bool.{false≢true}
use Rattle.pv_model.specs.Machine.{Bytes, overwrite, resize, Numbered, with_number, need}
use Rattle.std.proofs.lemmas.List.{length-take-le, take-append-drop}
use Rattle.pv_model.specs.declared.version.Version.{Version}
use Rattle.pv_inodes.specs.Files.{Contained, Files, held, IsUsed, contained_bytes, inode_bytes_at, room_of, total_room, HasRoomForFiles, LacksRoomForFiles, with_contents_replaced, files_with_bytes, written_files, truncated_files, without}
use Rattle.pv_inodes.proofs.ByteLists.{length-resize, resize-resize, length-overwrite, overwrite-over, overwrite-overwrite, overwrite-resized, length-overwrite_any}
use Rattle.pv_inodes.proofs.InodeContents.{need-mono}
use Rattle.pv_inodes.proofs.NumberMaps.{sum_by-with_number, at_number-with_number_same, with_number-with_number, with_number-itself, without_number-with_number}

pub some_is : {X : Type 0} (o : Option X) → IsSome o → (x : X) × (o ≡ Some x)
some_is None is = absurd (false≢true is)
some_is (Some x) is = (x, refl)

pub files_with_bytes-is : (f : Files) (n : ℕ) (c : Contained) (xs : Bytes) → held f n ≡ Some c → files_with_bytes f n xs ≡ record f { nodes = with_number f.nodes n (record c { bytes = xs }) }
files_with_bytes-is f n c xs there = ap (λ (o : Option Contained). with_contents_replaced f n o xs) there

pub blocks-files_with_bytes : (f : Files) (n : ℕ) (xs : Bytes) → IsUsed f n → (files_with_bytes f n xs).blocks ≡ f.blocks
blocks-files_with_bytes f n xs used =
    let found = some_is (held f n) used in
    ap (λ (g : Files). g.blocks) (files_with_bytes-is f n found.0 xs found.1)

pub held-files_with_bytes : (f : Files) (n : ℕ) (c : Contained) (xs : Bytes) → held f n ≡ Some c → held (files_with_bytes f n xs) n ≡ Some (record c { bytes = xs })
held-files_with_bytes f n c xs there =
    ap (λ (g : Files). held g n) (files_with_bytes-is f n c xs there) ∙ at_number-with_number_same f.nodes n c (record c { bytes = xs }) there

pub used-files_with_bytes : (f : Files) (n : ℕ) (xs : Bytes) → IsUsed f n → IsUsed (files_with_bytes f n xs) n
used-files_with_bytes f n xs used =
    let found = some_is (held f n) used in
    ap is_some (held-files_with_bytes f n found.0 xs found.1)

pub inode_bytes_at-files_with_bytes : (f : Files) (n : ℕ) (xs : Bytes) → IsUsed f n → inode_bytes_at (files_with_bytes f n xs) n ≡ xs
inode_bytes_at-files_with_bytes f n xs used =
    let found = some_is (held f n) used in
    ap contained_bytes (held-files_with_bytes f n found.0 xs found.1)

pub files_with_bytes-files_with_bytes : (f : Files) (n : ℕ) (xs ys : Bytes) → IsUsed f n → files_with_bytes (files_with_bytes f n xs) n ys ≡ files_with_bytes f n ys
files_with_bytes-files_with_bytes f n xs ys used =
    let found = some_is (held f n) used in
    files_with_bytes-is (files_with_bytes f n xs) n (record found.0 { bytes = xs }) ys (held-files_with_bytes f n found.0 xs found.1)
    ∙ ap (λ (g : Files). record g { nodes = with_number g.nodes n (record found.0 { bytes = ys }) }) (files_with_bytes-is f n found.0 xs found.1)
    ∙ ap (λ (nodes : Numbered Contained). record f { nodes = nodes }) (with_number-with_number f.nodes n found.0 (record found.0 { bytes = xs }) (record found.0 { bytes = ys }) found.1)
    ∙ sym (files_with_bytes-is f n found.0 ys found.1)

pub files_with_bytes-itself : (f : Files) (n : ℕ) → IsUsed f n → files_with_bytes f n (inode_bytes_at f n) ≡ f
files_with_bytes-itself f n used =
    let found = some_is (held f n) used in
    let bytes : inode_bytes_at f n ≡ found.0.bytes = ap contained_bytes found.1 in
    files_with_bytes-is f n found.0 (inode_bytes_at f n) found.1
    ∙ ap (λ (xs : Bytes). record f { nodes = with_number f.nodes n (record found.0 { bytes = xs }) }) bytes
    ∙ ap (λ (nodes : Numbered Contained). record f { nodes = nodes }) (with_number-itself f.nodes n found.0 found.1)

-- other contents need other room
pub total_room-files_with_bytes : (f : Files) (n : ℕ) (xs : Bytes) → IsUsed f n → total_room (files_with_bytes f n xs) + need f.version (length (inode_bytes_at f n)) ≡ total_room f + need f.version (length xs)
total_room-files_with_bytes f n xs used =
    let found = some_is (held f n) used in
    let after = ap total_room (files_with_bytes-is f n found.0 xs found.1) in
    let old : need f.version (length (inode_bytes_at f n)) ≡ room_of f.version found.0 = ap (λ (o : Option Contained). need f.version (length (contained_bytes o))) found.1 in
    let change = sum_by-with_number (room_of f.version) f.nodes n found.0 (record found.0 { bytes = xs }) found.1 in
    omega (arith, after, old, change)

-- the same with a known version
pub total_room-in_version : (f : Files) (n : ℕ) (xs : Bytes) (version : Version) → IsUsed f n → f.version ≡ version → total_room (files_with_bytes f n xs) + need version (length (inode_bytes_at f n)) ≡ total_room f + need version (length xs)
total_room-in_version f n xs version used is =
    let old : need f.version (length (inode_bytes_at f n)) ≡ need version (length (inode_bytes_at f n)) = ap (λ v. need v (length (inode_bytes_at f n))) is in
    let new : need f.version (length xs) ≡ need version (length xs) = ap (λ v. need v (length xs)) is in
    omega (arith, total_room-files_with_bytes f n xs used, old, new)

-- the files in a loop that extends contents
module _ (first now : Files) (n m : ℕ) (used : IsUsed first n) (longer : length (inode_bytes_at first n) ≤ m) (grown : now ≡ files_with_bytes first n (resize (inode_bytes_at first n) m)) where
  pub used-grown : IsUsed now n
  used-grown = rw grown (used-files_with_bytes first n (resize (inode_bytes_at first n) m) used)

  pub inode_bytes_at-grown : inode_bytes_at now n ≡ resize (inode_bytes_at first n) m
  inode_bytes_at-grown = ap (λ (f : Files). inode_bytes_at f n) grown ∙ inode_bytes_at-files_with_bytes first n (resize (inode_bytes_at first n) m) used

  pub length-grown : length (inode_bytes_at now n) ≡ m
  length-grown = ap length inode_bytes_at-grown ∙ length-resize (inode_bytes_at first n) m

  pub grown-more : (v : ℕ) → m ≤ v → files_with_bytes now n (resize (inode_bytes_at now n) v) ≡ files_with_bytes first n (resize (inode_bytes_at first n) v)
  grown-more v more =
      ap (λ (xs : Bytes). files_with_bytes now n (resize xs v)) inode_bytes_at-grown
      ∙ ap (files_with_bytes now n) (resize-resize (inode_bytes_at first n) m v longer more)
      ∙ ap (λ (f : Files). files_with_bytes f n (resize (inode_bytes_at first n) v)) grown
      ∙ files_with_bytes-files_with_bytes first n (resize (inode_bytes_at first n) m) (resize (inode_bytes_at first n) v) used

-- shorter contents need at most as much room
pub room-shorter : (f : Files) (n v w : ℕ) → IsUsed f n → v ≤ w → HasRoomForFiles (files_with_bytes f n (resize (inode_bytes_at f n) w)) → HasRoomForFiles (files_with_bytes f n (resize (inode_bytes_at f n) v))
room-shorter f n v w used shorter room =
    let long_v : need f.version (length (resize (inode_bytes_at f n) v)) ≡ need f.version v = ap (need f.version) (length-resize (inode_bytes_at f n) v) in
    let long_w : need f.version (length (resize (inode_bytes_at f n) w)) ≡ need f.version w = ap (need f.version) (length-resize (inode_bytes_at f n) w) in
    omega (arith, total_room-files_with_bytes f n (resize (inode_bytes_at f n) v) used, total_room-files_with_bytes f n (resize (inode_bytes_at f n) w) used, blocks-files_with_bytes f n (resize (inode_bytes_at f n) v) used, blocks-files_with_bytes f n (resize (inode_bytes_at f n) w) used, need-mono f.version v w shorter, long_v, long_w, room)

-- the files in a loop that overwrites a part of the contents
module _ (first now : Files) (n at m : ℕ) (bytes : Bytes) (used : IsUsed first n) (within : m ≤ length bytes) (fits : at + length bytes ≤ length (inode_bytes_at first n)) (written_files : now ≡ files_with_bytes first n (overwrite (inode_bytes_at first n) at (take m bytes))) where
  pub used-written_files : IsUsed now n
  used-written_files = rw written_files (used-files_with_bytes first n (overwrite (inode_bytes_at first n) at (take m bytes)) used)

  pub inode_bytes_at-written_files : inode_bytes_at now n ≡ overwrite (inode_bytes_at first n) at (take m bytes)
  inode_bytes_at-written_files = ap (λ (f : Files). inode_bytes_at f n) written_files ∙ inode_bytes_at-files_with_bytes first n (overwrite (inode_bytes_at first n) at (take m bytes)) used

  pub length-written_files : length (inode_bytes_at now n) ≡ length (inode_bytes_at first n)
  length-written_files = ap length inode_bytes_at-written_files ∙ length-overwrite (inode_bytes_at first n) at (take m bytes) (omega (arith, length-take-le m bytes within))

  pub written_files-more : (count : ℕ) → m + count ≤ length bytes → files_with_bytes now n (overwrite (inode_bytes_at now n) (at + m) (take count (drop m bytes))) ≡ files_with_bytes first n (overwrite (inode_bytes_at first n) at (take (m + count) bytes))
  written_files-more count more =
      ap (λ (xs : Bytes). files_with_bytes now n (overwrite xs (at + m) (take count (drop m bytes)))) inode_bytes_at-written_files
      ∙ ap (files_with_bytes now n) (overwrite-overwrite (inode_bytes_at first n) at bytes m count more fits)
      ∙ ap (λ (f : Files). files_with_bytes f n (overwrite (inode_bytes_at first n) at (take (m + count) bytes))) written_files
      ∙ files_with_bytes-files_with_bytes first n (overwrite (inode_bytes_at first n) at (take m bytes)) (overwrite (inode_bytes_at first n) at (take (m + count) bytes)) used

-- a write of zero bytes changes nothing
pub overwrite-nothing : (old : Bytes) (at : ℕ) → at ≤ length old → overwrite old at [] ≡ old
overwrite-nothing old at within =
    let here : at + 0 ≡ at = omega arith in
    overwrite-over old at [] within ∙ rw here (take-append-drop at old)

pub written_files-some : (f : Files) (n at : ℕ) (bytes : Bytes) → 0 < length bytes → written_files f n at bytes ≡ files_with_bytes f n (overwrite (inode_bytes_at f n) at bytes)
written_files-some f n at [] some = absurd (omega arith)
written_files-some f n at (b ∷ bytes) some = refl

-- contents of the same length need the same room
pub total_room-same : (f : Files) (n : ℕ) (xs ys : Bytes) → IsUsed f n → length xs ≡ length ys → total_room (files_with_bytes f n xs) ≡ total_room (files_with_bytes f n ys)
total_room-same f n xs ys used same =
    omega (arith, total_room-files_with_bytes f n xs used, total_room-files_with_bytes f n ys used, ap (need f.version) same)

-- a write needs the room of the extended contents
pub lacks_room-written_files : (f : Files) (n at size : ℕ) (bytes : Bytes) → IsUsed f n → 0 < length bytes → size ≡ max (length (inode_bytes_at f n)) (at + length bytes) → LacksRoomForFiles (truncated_files f n size) → LacksRoomForFiles (written_files f n at bytes)
lacks_room-written_files f n at size bytes used some size_is lacks =
    let same : length (overwrite (inode_bytes_at f n) at bytes) ≡ length (resize (inode_bytes_at f n) size) = length-overwrite_any (inode_bytes_at f n) at bytes ∙ sym (length-resize (inode_bytes_at f n) size ∙ size_is) in
    let room = total_room-same f n (overwrite (inode_bytes_at f n) at bytes) (resize (inode_bytes_at f n) size) used same in
    rw (written_files-some f n at bytes some) (omega (arith, room, lacks, blocks-files_with_bytes f n (resize (inode_bytes_at f n) size) used, blocks-files_with_bytes f n (overwrite (inode_bytes_at f n) at bytes) used))

pub has_room-written_files : (f : Files) (n at size : ℕ) (bytes : Bytes) → IsUsed f n → 0 < length bytes → size ≡ max (length (inode_bytes_at f n)) (at + length bytes) → HasRoomForFiles (truncated_files f n size) → HasRoomForFiles (written_files f n at bytes)
has_room-written_files f n at size bytes used some size_is has =
    let same : length (overwrite (inode_bytes_at f n) at bytes) ≡ length (resize (inode_bytes_at f n) size) = length-overwrite_any (inode_bytes_at f n) at bytes ∙ sym (length-resize (inode_bytes_at f n) size ∙ size_is) in
    let room = total_room-same f n (overwrite (inode_bytes_at f n) at bytes) (resize (inode_bytes_at f n) size) used same in
    rw (written_files-some f n at bytes some) (omega (arith, room, has, blocks-files_with_bytes f n (resize (inode_bytes_at f n) size) used, blocks-files_with_bytes f n (overwrite (inode_bytes_at f n) at bytes) used))

-- an extension followed by a write is a write
pub written_files-lengthened : (f grown : Files) (n at size : ℕ) (bytes : Bytes) → IsUsed f n → 0 < length bytes → size ≡ max (length (inode_bytes_at f n)) (at + length bytes) → grown ≡ files_with_bytes f n (resize (inode_bytes_at f n) size) → files_with_bytes grown n (overwrite (inode_bytes_at grown n) at bytes) ≡ written_files f n at bytes
written_files-lengthened f grown n at size bytes used some size_is is =
    let content : inode_bytes_at grown n ≡ resize (inode_bytes_at f n) size = ap (λ (g : Files). inode_bytes_at g n) is ∙ inode_bytes_at-files_with_bytes f n (resize (inode_bytes_at f n) size) used in
    ap (λ (xs : Bytes). files_with_bytes grown n (overwrite xs at bytes)) content
    ∙ ap (λ (g : Files). files_with_bytes g n (overwrite (resize (inode_bytes_at f n) size) at bytes)) is
    ∙ files_with_bytes-files_with_bytes f n (resize (inode_bytes_at f n) size) (overwrite (resize (inode_bytes_at f n) size) at bytes) used
    ∙ ap (λ m. files_with_bytes f n (overwrite (resize (inode_bytes_at f n) m) at bytes)) size_is
    ∙ ap (files_with_bytes f n) (overwrite-resized (inode_bytes_at f n) at bytes)
    ∙ sym (written_files-some f n at bytes some)

pub without-files_with_bytes : (f : Files) (n : ℕ) (xs : Bytes) → IsUsed f n → without (files_with_bytes f n xs) n ≡ without f n
without-files_with_bytes f n xs used =
    let found = some_is (held f n) used in
    ap (λ (g : Files). without g n) (files_with_bytes-is f n found.0 xs found.1)
    ∙ ap (λ (nodes : Numbered Contained). record f { nodes = nodes }) (without_number-with_number f.nodes n found.0 (record found.0 { bytes = xs }) found.1)

-- files with other contents of an inode
module _ (f g : Files) (n : ℕ) (xs : Bytes) (used : IsUsed f n) (left : g ≡ files_with_bytes f n xs) where
  pub used-left : IsUsed g n
  used-left = rw left (used-files_with_bytes f n xs used)

  pub inode_bytes_at-left : inode_bytes_at g n ≡ xs
  inode_bytes_at-left = ap (λ (h : Files). inode_bytes_at h n) left ∙ inode_bytes_at-files_with_bytes f n xs used

  pub without-left : without g n ≡ without f n
  without-left = ap (λ (h : Files). without h n) left ∙ without-files_with_bytes f n xs used

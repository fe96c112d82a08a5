-- Reading of bytes to the front of a process's buffer.
use Rattle.std.proofs.Common.{◌≡◌, ℕ, zero, suc, ◌≤◌, min, true, [], ◌∷◌, ◌++◌, length, take, drop, Option, None, Some, refl, ap, ap₂, sym, ◌∙◌, arith}
use Rattle.std.specs.Prelude.{option_map}
use Rattle.std.proofs.lemmas.List.{append_assoc, length-drop, length-take, length-append, take-append-drop, take-append-le}
use Rattle.std.proofs.Math.Seq.{take-length}
use Rattle.pv_calls_state.specs.Counts.{state_of}
use Rattle.pv_procs.specs.OfTree.OfDirs.Trees.{stored_bytes_of as content_of}
use Rattle.pv_files.specs.Counted.{Counted}
use Rattle.pv_model.specs.Machine.{with_front, update, update_live, Bytes, bytes_of, is_file, Process, State, with_process, Node, directory_node, file_node, link_node}
use Rattle.pv_procs.specs.declared.record.ProcessRecord.{ProcessRecord}
use Rattle.pv_procs.specs.Parts.{record_of, with_record}
use Rattle.pv_procs.specs.ProcessTable.{ProcessTable, process_in, updated_table as update_table, updated_live as update_table_live}
use Rattle.pv_procs.specs.OfTree.Holding.{HeldTree}
use Rattle.pv_calls_state.proofs.UncountedChanges.{lent-is}

-- ---- the front of a list

take-front : (n m : ℕ) (xs : Bytes) → m ≡ length (take n xs) → take m xs ≡ take n xs
take-front zero m xs is = ap (λ k. take k xs) is
take-front (suc n) m [] is = ap (λ k. take k []) is
take-front (suc n) zero (x ∷ xs) is = absurd (omega (arith, is))
take-front (suc n) (suc m) (x ∷ xs) is = let rest : m ≡ length (take n xs) = omega (arith, is) in ap (λ ys. x ∷ ys) (take-front n m xs rest)

drop-within : (n m : ℕ) (xs : Bytes) → n ≤ m → drop n (take m xs) ++ drop m xs ≡ drop n xs
drop-within zero m xs less = take-append-drop m xs
drop-within (suc n) zero xs less = absurd (omega (arith, less))
drop-within (suc n) (suc m) [] less = refl
drop-within (suc n) (suc m) (x ∷ xs) less = let rest : n ≤ m = omega (arith, less) in drop-within n m xs rest

-- a buffer after bytes of a file are read to its front
pub read-in : (buffer content first : Bytes) (count taken : ℕ) → count ≤ length buffer → taken ≡ min (length (take count buffer)) (length content)
    → first ≡ take taken content ++ drop taken (take count buffer) → first ++ drop count buffer ≡ take count content ++ drop (length (take count content)) buffer
read-in buffer content first count taken few read front =
    let same : taken ≡ length (take count content) = omega (arith, read, few, length-take count content, length-take count buffer) in
    let less : taken ≤ count = omega (arith, read, few, length-take count buffer) in
    ap (λ bs. bs ++ drop count buffer) front ∙ append_assoc (take taken content) (drop taken (take count buffer)) (drop count buffer)
    ∙ ap₂ (λ xs ys. xs ++ ys) (take-front count taken content same) (drop-within taken count buffer less ∙ ap (λ n. drop n buffer) same)

-- a borrowed buffer that was returned with other bytes at its front
pub lent-back : (buffer bytes last : Bytes) → length bytes ≤ length buffer → last ≡ bytes ++ drop (length bytes) buffer
    → take (length buffer) (last ++ drop (length last) buffer) ≡ bytes ++ drop (length bytes) buffer
lent-back buffer bytes last few is =
    let long : length buffer ≡ length last = omega (arith, ap length is, few, length-append bytes (drop (length bytes) buffer), length-drop (length bytes) buffer) in
    let fits : length buffer ≤ length last = omega (arith, long) in
    take-append-le (length buffer) last (drop (length last) buffer) fits ∙ ap (λ n. take n last) long ∙ take-length last ∙ is

-- ---- files

pub same-bytes : (o : Option Node) → is_file o ≡ true → content_of o ≡ bytes_of o
same-bytes None is = cc
same-bytes (Some (directory_node es)) is = cc
same-bytes (Some (file_node executable bytes)) is = refl
same-bytes (Some (link_node text)) is = cc

abbrev with_buffer : ProcessRecord → Bytes → ProcessRecord
with_buffer r buffer = record r { context = record r.context { buffer = buffer } }

module _ (h : HeldTree) (c : Counted) (ps : ProcessTable) (s : State) (view : state_of h c ps ≡ s) where
  -- a live process whose record is written back with other bytes at the front of its buffer
  pub read-update : (pid : ℕ) (r : ProcessRecord) → option_map record_of (process_in ps pid) ≡ Some r → (buffer bytes : Bytes) → buffer ≡ bytes ++ drop (length bytes) r.context.buffer
      → state_of h c (update_table ps pid (λ p. with_record p (with_buffer r buffer))) ≡ update s pid (with_front bytes)
  read-update pid r owned buffer bytes is = by (process_in ps pid) refl owned ∙ ap (λ x. update x pid (with_front bytes)) view
    where
      by : (o : Option Process) → process_in ps pid ≡ o → option_map record_of o ≡ Some r
          → state_of h c (update_table ps pid (λ p. with_record p (with_buffer r buffer))) ≡ update (state_of h c ps) pid (with_front bytes)
      by None at owned = cc
      by (Some p) at owned =
          let mine = lent-is (Some p) p r owned refl in
          ap (λ o. state_of h c (update_table_live ps pid (λ q. with_record q (with_buffer r buffer)) o)) at
          ∙ ap₂ (λ x b. with_process (state_of h c ps) pid (with_record p (with_buffer x b))) mine (is ∙ ap (λ x. bytes ++ drop (length bytes) x.context.buffer) mine)
          ∙ sym (ap (update_live (state_of h c ps) pid (with_front bytes)) at)

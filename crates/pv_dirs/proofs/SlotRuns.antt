-- Bytes from a slot on.
use Rattle.std.proofs.Common.{◌≡◌, ℕ, ◌+◌, ◌-◌, ◌*◌, ◌≤◌, length, take, drop, min, refl, sym, ap, ◌∙◌, inl, inr, arith}
use Rattle.std.proofs.lemmas.Bool.{cases_lt}
use Rattle.std.proofs.lemmas.List.{drop-take, drop-drop, drop_all, length-take, length-drop, take_min, take-take}
use Rattle.pv_model.specs.declared.version.Version.{Version}
use Rattle.pv_model.specs.Machine.{Bytes, entry_length}
use Rattle.pv_dirs.specs.Slots.{slot_at, name_in_slot, inode_in_slot, StartsAtSlot}
use Rattle.pv_dirs.proofs.SlotBytes.{front_number}
use Rattle.pv_dirs.proofs.EqualParts.{slot_least}

-- contiguous bytes of the directory
pub run_taken : (v : Version) (bytes run : Bytes) (k n at : ℕ) → at ≡ entry_length v * k → run ≡ take n (drop at bytes) → StartsAtSlot v bytes k run
run_taken v bytes run k n at begins is =
    let rest : Bytes = drop (entry_length v * k) bytes in
    let taken : run ≡ take n rest = is ∙ ap (λ p. take n (drop p bytes)) begins in
    let long : length run ≡ min n (length rest) = ap length taken ∙ length-take n rest in
    taken ∙ sym (ap (λ m. take m rest) long ∙ take_min n rest)

-- the first slot of a run that contains all of it
pub run_slot : (v : Version) (bytes run : Bytes) (k : ℕ) → StartsAtSlot v bytes k run → entry_length v ≤ length run → take (entry_length v) run ≡ slot_at v bytes k
unfolding slot_at
run_slot v bytes run k is whole = ap (take (entry_length v)) is ∙ take-take (entry_length v) (length run) (drop (entry_length v * k) bytes) whole

-- the rest after it starts with the next slot
pub run_after : (v : Version) (bytes run : Bytes) (k l : ℕ) → l ≡ entry_length v → StartsAtSlot v bytes k run → StartsAtSlot v bytes (k + 1) (drop l run)
run_after v bytes run k l long is =
    let rest : Bytes = drop (entry_length v * k) bytes in
    let start : entry_length v * k + entry_length v ≡ entry_length v * (k + 1) = omega arith in
    let next : drop (entry_length v) rest ≡ drop (entry_length v * (k + 1)) bytes = drop-drop (entry_length v) (entry_length v * k) bytes ∙ ap (λ n. drop n bytes) start in
    rw long (elim (cases_lt (length run) (entry_length v)) [
      | inl short ↦ rw (drop_all (entry_length v) run (omega arith)) refl
      | inr whole ↦
          let all : length run ≡ entry_length v + (length run - entry_length v) = omega arith in
          ap (drop (entry_length v)) (is ∙ ap (λ n. take n rest) all)
          ∙ drop-take (entry_length v) (length run - entry_length v) rest
          ∙ ap (take (length run - entry_length v)) next
          ∙ ap (λ n. take n (drop (entry_length v * (k + 1)) bytes)) (sym (length-drop (entry_length v) run))
    ])

-- the name in it
pub run_name : (v : Version) (bytes run : Bytes) (k l : ℕ) → l ≡ entry_length v → StartsAtSlot v bytes k run → l ≤ length run → name_in_slot (take l run) ≡ name_in_slot (slot_at v bytes k)
run_name v bytes run k l long is whole = ap (λ n. name_in_slot (take n run)) long ∙ ap name_in_slot (run_slot v bytes run k is (omega (arith, long, whole)))

-- the inode number in it
pub run_number : (v : Version) (bytes run : Bytes) (k : ℕ) → StartsAtSlot v bytes k run → 2 ≤ length run → inode_in_slot run ≡ inode_in_slot (slot_at v bytes k)
unfolding slot_at
run_number v bytes run k is long =
    let rest : Bytes = drop (entry_length v * k) bytes in
    ap inode_in_slot is ∙ front_number (length run) rest long ∙ sym (front_number (entry_length v) rest (omega (arith, slot_least v)))

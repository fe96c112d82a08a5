-- The numbers of a process, part by part.
use Rattle.std.proofs.Common.{◌≡◌, ◌≢◌, ◌∙◌, sym, ap, subst, ℕ, zero, suc, ◌+◌, ◌<◌, true, false, List, [], ◌∷◌, ◌++◌, length, take, flat_map, append-nil, Option, None, Some, option_map, slice_get, is_some, add-one, arith, refl}
use Rattle.std.proofs.lemmas.Grind.{flat_map-append}
use Rattle.pv_model.specs.declared.perms.Perms.{Perms}
use Rattle.pv_model.specs.declared.target.Target.{Target}
use Rattle.pv_model.specs.Machine.{Numbers, bytes_numbers, entry_numbers, instruction_numbers, list_numbers, option_numbers, Bytes, parent_of, entries_of_table, Process, Program, ProcessRecord, live, ended_record, live_process, Table}
use Rattle.pv_model.specs.Answers.Numbers.{process_numbers}
use Rattle.pv_image_write.proofs.EntryLists.{take-get}
use Rattle.pv_answers.specs.OfProcs.Parts.{record_of}
use Rattle.pv_answers.specs.OfProcs.ProcessTable.{ended_process}
use Rattle.pv_answers.specs.OfProcs.declared.record.ProcessRecord.{ProcessRecord as Owned}
use Rattle.pv_state_encoding.specs.Packed.{IsAdded}
use Rattle.pv_state_encoding.specs.Groups.{ended_parts, live_parts, numbered_parts, owned_parts}
use Rattle.pv_state_encoding.specs.Parts.{held_numbers, if_there}
use Rattle.pv_state_encoding.proofs.AppendedNumbers.{added_both, added_then}

-- the first elements of a list, in a loop
pub added_got : {X : Type 0} (f : X → Numbers) (xs : List X) (i : ℕ) (x : X) (old middle new : Bytes) → slice_get xs i ≡ Some x → IsAdded (flat_map f (take i xs)) old middle → IsAdded (f x) middle new
    → IsAdded (flat_map f (take (i + 1) xs)) old new
added_got f xs i x old middle new is first second =
    subst (λ (ms : Numbers). IsAdded ms old new)
    (sym (ap (λ k. flat_map f (take k xs)) (add-one i) ∙ ap (flat_map f) (take-get xs i x is) ∙ flat_map-append f (take i xs) (x ∷ []) ∙ ap (λ ms. flat_map f (take i xs) ++ ms) (append-nil (f x))))
    (added_both first second)

-- ---- a table

pub entry-there : (es : Table) (k : ℕ) (old new : Bytes) → k < length es → IsAdded (if_there entry_numbers (slice_get es k)) old new → (e : Target × Perms) × (slice_get es k ≡ Some e) × IsAdded (entry_numbers e) old new
entry-there [] k old new within added = absurd (omega arith)
entry-there (e ∷ es) zero old new within added = (e, refl, added)
entry-there (e ∷ es) (suc k) old new within added = entry-there es k old new (omega arith) added

pub added_table : (o : Option Table) (n : ℕ) (a b c d : Bytes) → o ≢ None → n ≡ length (entries_of_table o) → IsAdded (1 ∷ []) a b → IsAdded (n ∷ []) b c → IsAdded (flat_map entry_numbers (entries_of_table o)) c d
    → IsAdded (option_numbers (list_numbers entry_numbers) o) a d
added_table None n a b c d some long first second third = absurd (some refl)
added_table (Some table) n a b c d some long first second third = added_then first (added_then (subst (λ (k : ℕ). IsAdded (k ∷ []) b c) long second) third)

-- ---- a process

pub process-is : (p : Process) → process_numbers p ≡ held_numbers (record_of p) p.parent ++ list_numbers instruction_numbers p.program ++ bytes_numbers p.buffer
unfolding process_numbers
process-is p = refl

pub group_there : (o : Option ProcessRecord) (pid : ℕ) (owned : Owned) (parent : ℕ) (program : Program) (group : List Bytes) → option_map record_of (live_process o) ≡ Some owned → option_map parent_of o ≡ Some parent
    → option_map (λ me. me.program) (live_process o) ≡ Some program → group ≡ owned_parts pid owned parent program owned.context.buffer → group ≡ live_parts pid (live_process o)
group_there None pid owned parent program group is above runs group_is = cc
group_there (Some (ended_record p status)) pid owned parent program group is above runs group_is = cc
group_there (Some (live p)) pid owned parent program group is above runs group_is =
    let owned_is : owned ≡ record_of p = cc in
    let parent_is : parent ≡ p.parent = cc in
    let program_is : program ≡ p.program = cc in
    group_is ∙ ap (λ (r : Owned). owned_parts pid r parent program r.context.buffer) owned_is ∙ ap (λ (q : ℕ). owned_parts pid (record_of p) q program p.buffer) parent_is
    ∙ ap (λ (x : Program). owned_parts pid (record_of p) p.parent x p.buffer) program_is

pub parent-there : (o : Option ProcessRecord) → is_some (live_process o) ≡ true → (parent : ℕ) × (option_map parent_of o ≡ Some parent)
parent-there None is = cc
parent-there (Some (ended_record p status)) is = cc
parent-there (Some (live p)) is = (p.parent, refl)

pub group_of_live : (o : Option ProcessRecord) (pid : ℕ) (group : List Bytes) → is_some (live_process o) ≡ true → group ≡ live_parts pid (live_process o) → group ≡ numbered_parts pid o
group_of_live None pid group there is = cc
group_of_live (Some (ended_record p status)) pid group there is = cc
group_of_live (Some (live p)) pid group there is = is

some-is : (a b : ℕ × ℕ) → Some a ≡ Some b → a ≡ b
some-is a b is = cc

pub group_of_ended : (o : Option ProcessRecord) (pid parent status : ℕ) (group : List Bytes) → Some (parent, status) ≡ ended_process o → group ≡ ended_parts pid parent status → group ≡ numbered_parts pid o
group_of_ended None pid parent status group there is = cc
group_of_ended (Some (live p)) pid parent status group there is = cc
group_of_ended (Some (ended_record q code)) pid parent status group there is =
    let both = some-is (parent, status) (q, code) there in is ∙ ap (λ (p : ℕ × ℕ). ended_parts pid p.0 p.1) both

pub group_of_nobody : (o : Option ProcessRecord) (pid : ℕ) → is_some (live_process o) ≡ false → None ≡ ended_process o → [] ≡ numbered_parts pid o
group_of_nobody None pid is none = refl
group_of_nobody (Some (live p)) pid is none = cc
group_of_nobody (Some (ended_record q code)) pid is none = cc

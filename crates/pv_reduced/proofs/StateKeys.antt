-- The encoding of the representative of a state, part by part.
use Rattle.std.proofs.Common.{◌≡◌, ◌≢◌, ◌∙◌, sym, ap, ap₂, subst, ℕ, ℤ, pos, zero, suc, ◌+◌, ◌-◌, ◌<◌, ◌≤◌, ◌⊎◌, inl, inr, min, Bool, true, false, if◌then◌else◌, List, [], ◌∷◌, ◌++◌, length, length-append, map, flat_map, take, get_or, set, replicate, append_assoc, append-nil, Option, None, Some, option_map, is_some, nat_lt, arith, refl}
use Rattle.std.specs.FinMap.Entries.{find}
use Rattle.std.specs.Ordering.{nat_cmp}
use Rattle.std.proofs.lemmas.Bool.{cases_lt, ltb-false, ltb-true}
use Rattle.std.proofs.lemmas.Grind.{flat_map-append}
use Rattle.std.proofs.lemmas.List.{ext_get_or, get_or-set_other, get_or-set_same, length-map, length-replicate, length-set, take-replicate, take_all}
use Rattle.pv_state_encoding.proofs.OfAnswers.ProcessSequence.{IsNextRecord, Recorded, all-after, none-after, records_after}
use Rattle.pv_files.specs.Descriptors.{closes_on_execve}
use Rattle.pv_laws_classes.specs.Canonical.{canonical, index_in, no_file, references}
use Rattle.pv_laws_classes.specs.Liveness.{cleared, cleared_buffer, cleared_from, cleared_record, cleared_registers, is_live_at, is_live_below, live_bytes, register_variable}
use Rattle.pv_laws_classes.specs.Reduced.{representative}
use Rattle.pv_laws_classes.specs.Renumbering.{renumbered_descriptor, renumbered_descriptors, renumbered_processes, renumbered_record}
use Rattle.pv_model.specs.declared.limits.TheConstants.{OPEN_FILES}
use Rattle.pv_model.specs.Machine.{Numbers, bool_numbers, bytes_numbers, descriptor_numbers, file_numbers, instruction_numbers, list_numbers, option_numbers, Bytes, parent_of, Numbered, at_number, Descriptor, OpenFile, Program, ProcessRecord, live, ended_record, State, live_process, Tree}
use Rattle.pv_state_encoding.specs.OfCallsState.Counts.{processes_of}
use Rattle.pv_state_encoding.specs.OfProcs.Parts.{record_of}
use Rattle.pv_state_encoding.specs.OfProcs.ProcessTable.{IsProcessTable, ProcessTable, ended_process, number_after}
use Rattle.pv_state_encoding.specs.OfProcs.declared.record.ProcessRecord.{ProcessRecord as Owned}
use Rattle.pv_reduced.specs.declared.liveness.LiveLine.{LiveLine}
use Rattle.pv_reduced.specs.Keys.{ordered_files, files_of_processes, held_under, parts_under, reduced_parts, with_references}
use Rattle.pv_reduced.specs.Live.{live_line}
use Rattle.pv_reduced.proofs.DescriptorOrder.{order-is}
use Rattle.pv_state_encoding.specs.Groups.{counts_part, ended_parts, files_part, node_parts, numbered_parts, record_parts, state_groups, tree_part}
use Rattle.pv_state_encoding.specs.Packed.{IsAdded, packed, packed_all}
use Rattle.pv_state_encoding.proofs.AppendedNumbers.{added_both, added_small, added_then, packed-append}
use Rattle.pv_state_encoding.proofs.StateGroups.{added_whole}
use Rattle.pv_state_encoding.proofs.ProcessNumbers.{group_of_ended, group_of_nobody}

-- ---- variables

length-cleared : {X : Type 0} (test : ℕ → Bool) (nothing : X) (k : ℕ) (xs : List X) → length (cleared_from test nothing k xs) ≡ length xs
length-cleared test nothing k [] = refl
length-cleared test nothing k (x ∷ xs) = ap suc (length-cleared test nothing (suc k) xs)

cleared-at : (test : ℕ → Bool) (k i j : ℕ) (xs : List ℤ) → j ≡ k + i → i < length xs → get_or (cleared_from test (pos 0) k xs) i (pos 0) ≡ (if test j then get_or xs i (pos 0) else pos 0)
cleared-at test k i j [] is within = absurd (omega (arith, within))
cleared-at test k zero j (x ∷ xs) is within = let same : k ≡ j = omega (arith, is) in ap (λ n. if test n then x else pos 0) same
cleared-at test k (suc i) j (x ∷ xs) is within = cleared-at test (suc k) i j xs (omega (arith, is)) (omega (arith, within))

-- the values of a test at the numbers of the registers
bits-at : (test : ℕ → Bool) (i : ℕ) → i < 8 → get_or (map test (0 ∷ 1 ∷ 2 ∷ 3 ∷ 4 ∷ 5 ∷ 6 ∷ 7 ∷ [])) i false ≡ test i
bits-at test zero less = refl
bits-at test (suc zero) less = refl
bits-at test (suc (suc zero)) less = refl
bits-at test (suc (suc (suc zero))) less = refl
bits-at test (suc (suc (suc (suc zero)))) less = refl
bits-at test (suc (suc (suc (suc (suc zero))))) less = refl
bits-at test (suc (suc (suc (suc (suc (suc zero)))))) less = refl
bits-at test (suc (suc (suc (suc (suc (suc (suc zero))))))) less = refl
bits-at test (suc (suc (suc (suc (suc (suc (suc (suc i)))))))) less = absurd (omega (arith, less))

-- the registers below a number are zero if they are dead
pub record AreCleared (bits : List Bool) (registers cleared : List ℤ) (number : ℕ) : Type 0 where
  pub count : length cleared ≡ 8
  pub below : (k : ℕ) → k < number → get_or cleared k (pos 0) ≡ (if get_or bits k false then get_or registers k (pos 0) else pos 0)

pub cleared_next : (bits : List Bool) (registers now new : List ℤ) (number : ℕ) (value : ℤ) → number < 8 → value ≡ (if get_or bits number false then get_or registers number (pos 0) else pos 0) → new ≡ set now number value → AreCleared bits registers now number
    → AreCleared bits registers new (number + 1)
cleared_next bits registers now new number value within value_is new_is so_far = record {
  count = ap length new_is ∙ length-set now number value ∙ so_far.count;
  below = λ k less. by k less (cases_lt k number);
}
  where
    by : (k : ℕ) → k < number + 1 → (k < number) ⊎ (number ≤ k) → get_or new k (pos 0) ≡ (if get_or bits k false then get_or registers k (pos 0) else pos 0)
    by k less (inl before) =
        let other : k ≢ number = omega (arith, before) in ap (λ (xs : List ℤ). get_or xs k (pos 0)) new_is ∙ get_or-set_other now number k value (pos 0) other ∙ so_far.below k before
    by k less (inr past) =
        let same : number ≡ k = omega (arith, less, past) in
        let count = so_far.count in
        ap (λ (xs : List ℤ). get_or xs k (pos 0)) new_is
        ∙ ap (λ n. get_or (set now number value) n (pos 0)) (sym same)
        ∙ get_or-set_same now number value (pos 0) (omega (arith, count, within))
        ∙ value_is
        ∙ ap (λ n. if get_or bits n false then get_or registers n (pos 0) else pos 0) same

pub cleared_end : (program : Program) (line number : ℕ) (found : LiveLine) (registers now : List ℤ) → found ≡ live_line program line → length registers ≡ 8 → 8 ≤ number → AreCleared found.registers registers now number
    → now ≡ cleared_registers is_live_below program line registers
cleared_end program line number found registers now is long past so_far =
    let test : ℕ → Bool = λ r. is_live_at program line (register_variable r) in
    let bits_are : found.registers ≡ map test (0 ∷ 1 ∷ 2 ∷ 3 ∷ 4 ∷ 5 ∷ 6 ∷ 7 ∷ []) = ap (λ (l : LiveLine). l.registers) is in
    let count = so_far.count in
    ext_get_or (pos 0) now (cleared_from test (pos 0) 0 registers) (so_far.count ∙ sym long ∙ sym (length-cleared test (pos 0) 0 registers))
    (λ i within.
    let less : i < 8 = omega (arith, within, count) in
    so_far.below i (omega (arith, less, past))
    ∙ ap (λ b. if b then get_or registers i (pos 0) else pos 0) (ap (λ (bs : List Bool). get_or bs i false) bits_are ∙ bits-at test i less)
    ∙ sym (cleared-at test 0 i i registers (omega arith) (omega (arith, less, long))))

-- ---- zeros

packed-zeros : (k : ℕ) → packed_all (replicate k 0) ≡ replicate k 0
unfolding packed
packed-zeros zero = refl
packed-zeros (suc k) = ap (λ (bs : Bytes). 0 ∷ bs) (packed-zeros k)

pub zeros_added : (count many : ℕ) (old new : Bytes) → count ≤ many → new ≡ old ++ take count (replicate many 0) → IsAdded (replicate count 0) old new
zeros_added count many old new within added = record { is = added ∙ ap (λ (bs : Bytes). old ++ bs) (take-replicate count many 0 within ∙ sym (packed-zeros count)) }

-- ---- a buffer

cleared-bytes : (bound first : ℕ) (bs : Bytes) → cleared_from (λ k. nat_lt k bound) 0 first bs ≡ take (bound - first) bs ++ replicate (length bs - (bound - first)) 0
cleared-bytes bound first [] =
    let none : 0 ≡ 0 - (bound - first) = omega arith in ap₂ (λ (xs : Bytes) (k : ℕ). xs ++ replicate k 0) (sym (take_all (bound - first) [] (omega arith))) none
cleared-bytes bound first (b ∷ bs) = by (nat_lt first bound) refl (cleared-bytes bound (suc first) bs)
  where
    by : (t : Bool) → nat_lt first bound ≡ t → cleared_from (λ k. nat_lt k bound) 0 (suc first) bs ≡ take (bound - suc first) bs ++ replicate (length bs - (bound - suc first)) 0
        → (if t then b else 0) ∷ cleared_from (λ k. nat_lt k bound) 0 (suc first) bs ≡ take (bound - first) (b ∷ bs) ++ replicate (suc (length bs) - (bound - first)) 0
    by true is rest =
        let less : first < bound = ltb-true first bound is in
        let many : bound - first ≡ suc (bound - suc first) = omega (arith, less) in
        let left : suc (length bs) - suc (bound - suc first) ≡ length bs - (bound - suc first) = omega arith in
        ap (λ (xs : Bytes). b ∷ xs) rest
        ∙ ap (λ k. b ∷ (take (bound - suc first) bs ++ replicate k 0)) (sym left)
        ∙ ap (λ n. take n (b ∷ bs) ++ replicate (suc (length bs) - n) 0) (sym many)
    by false is rest =
        let past : bound ≤ first = ltb-false first bound is in
        let none : bound - first ≡ 0 = omega (arith, past) in
        let still : bound - suc first ≡ 0 = omega (arith, past) in
        let left : length bs - 0 ≡ length bs = omega arith in
        let all : suc (length bs) ≡ suc (length bs) - 0 = omega arith in
        ap (λ (xs : Bytes). 0 ∷ xs) (rest ∙ ap (λ n. take n bs ++ replicate (length bs - n) 0) still ∙ ap (λ k. replicate k 0) left)
        ∙ ap (λ k. replicate k 0) all
        ∙ ap (λ n. take n (b ∷ bs) ++ replicate (suc (length bs) - n) 0) (sym none)

pub added_buffer : (found : LiveLine) (program : Program) (line : ℕ) (buffer : Bytes) (count long rest : ℕ) (a b c d : Bytes) → found ≡ live_line program line → count ≡ min found.bytes (length buffer) → long ≡ length buffer → rest ≡ length buffer - count → a ≡ []
    → IsAdded (long ∷ []) a b → IsAdded (take count buffer) b c → IsAdded (replicate rest 0) c d → d ≡ packed_all (bytes_numbers (cleared_buffer is_live_below program line buffer))
added_buffer found program line buffer count long rest a b c d is count_is long_is rest_is none first second third =
    let bound : ℕ = live_bytes program line in
    let bytes : Bytes = cleared_from (λ k. nat_lt k bound) 0 0 buffer in
    let bound_is : found.bytes ≡ bound = ap (λ (l : LiveLine). l.bytes) is in
    let least : count ≡ min bound (length buffer) = count_is ∙ ap (λ n. min n (length buffer)) bound_is in
    let whole : take count buffer ++ replicate rest 0 ≡ bytes =
    ap₂ (λ (xs : Bytes) (k : ℕ). xs ++ replicate k 0) (same bound least (cases_lt (bound - 0) (length buffer))) (omega (arith, rest_is, least)) ∙ sym (cleared-bytes bound 0 buffer) in
    let many : long ≡ length bytes = long_is ∙ sym (length-cleared (λ k. nat_lt k bound) 0 0 buffer) in
    added_whole (bytes_numbers bytes) a d none
    (added_then (subst (λ (k : ℕ). IsAdded (k ∷ []) a b) many first) (subst (λ (ns : Numbers). IsAdded ns b d) whole (added_both second third)))
  where
    same : (bound : ℕ) → count ≡ min bound (length buffer) → (bound - 0 < length buffer) ⊎ (length buffer ≤ bound - 0) → take count buffer ≡ take (bound - 0) buffer
    same bound least (inl less) = let is : count ≡ bound - 0 = omega (arith, least, less) in ap (λ k. take k buffer) is
    same bound least (inr past) = take_all count buffer (omega (arith, least, past)) ∙ sym (take_all (bound - 0) buffer past)

-- ---- descriptors

module _ (f : ℕ → ℕ) where
  pub number-under : (ds : Numbered Descriptor) (n : ℕ) → at_number (renumbered_descriptors f ds) n ≡ option_map (renumbered_descriptor f) (at_number ds n)
  number-under [] n = refl
  number-under (d ∷ ds) zero = refl
  number-under (d ∷ ds) (suc n) = number-under ds n

  pub long_under : (ds : Numbered Descriptor) (many : ℕ) → length ds ≡ many → length (renumbered_descriptors f ds) ≡ many
  long_under ds many long = length-map ds (option_map (renumbered_descriptor f)) ∙ long

  pub added_descriptor : (ds : Numbered Descriptor) (n file index : ℕ) (marked : Bool) (a b c d : Bytes) → Some file ≡ option_map (λ e. e.file) (at_number ds n) → index ≡ f file → marked ≡ closes_on_execve (at_number ds n)
      → IsAdded (1 ∷ []) a b → IsAdded (index ∷ []) b c → IsAdded (bool_numbers marked) c d → IsAdded (option_numbers descriptor_numbers (at_number (renumbered_descriptors f ds) n)) a d
  added_descriptor ds n file index marked a b c d there index_is marked_is first second third =
      subst (λ (o : Option Descriptor). IsAdded (option_numbers descriptor_numbers o) a d) (sym (number-under ds n))
      (by (at_number ds n) there (subst (λ (k : ℕ). IsAdded (k ∷ []) b c) index_is second) (subst (λ (m : Bool). IsAdded (bool_numbers m) c d) marked_is third))
    where
      by : (o : Option Descriptor) → Some file ≡ option_map (λ e. e.file) o → IsAdded (f file ∷ []) b c → IsAdded (bool_numbers (closes_on_execve o)) c d → IsAdded (option_numbers descriptor_numbers (option_map (renumbered_descriptor f) o)) a d
      by None there second third = cc
      by (Some e) there second third = let is : file ≡ e.file = cc in added_then first (added_both (subst (λ (k : ℕ). IsAdded (f k ∷ []) b c) is second) third)

  pub added_no_descriptor : (ds : Numbered Descriptor) (n : ℕ) (a b : Bytes) → None ≡ option_map (λ e. e.file) (at_number ds n) → IsAdded (0 ∷ []) a b → IsAdded (option_numbers descriptor_numbers (at_number (renumbered_descriptors f ds) n)) a b
  added_no_descriptor ds n a b none first = subst (λ (o : Option Descriptor). IsAdded (option_numbers descriptor_numbers o) a b) (sym (number-under ds n)) (by (at_number ds n) none)
    where
      by : (o : Option Descriptor) → None ≡ option_map (λ e. e.file) o → IsAdded (option_numbers descriptor_numbers (option_map (renumbered_descriptor f) o)) a b
      by None none = first
      by (Some e) none = cc

-- ---- processes

module _ (f : ℕ → ℕ) where
  -- a live process
  pub live_under : (o : Option ProcessRecord) (pid parent : ℕ) (owned : Owned) (program : Program) (registers : List ℤ) (held text buffer : Bytes) (a b c d : List Bytes) → option_map record_of (live_process o) ≡ Some owned → Some parent ≡ option_map parent_of o
      → option_map (λ me. me.program) (live_process o) ≡ Some program → registers ≡ cleared_registers is_live_below program owned.context.line owned.context.registers → held ≡ packed_all (pid ∷ 0 ∷ held_under registers f owned parent)
      → text ≡ packed_all (list_numbers instruction_numbers program) → buffer ≡ packed_all (bytes_numbers (cleared_buffer is_live_below program owned.context.line owned.context.buffer)) → b ≡ a ++ held ∷ [] → c ≡ b ++ text ∷ [] → d ≡ c ++ buffer ∷ []
      → d ≡ a ++ parts_under f pid o
  live_under None pid parent owned program registers held text buffer a b c d is above runs registers_are held_is text_is buffer_is first second third = cc
  live_under (Some (ended_record q status)) pid parent owned program registers held text buffer a b c d is above runs registers_are held_is text_is buffer_is first second third = cc
  live_under (Some (live p)) pid parent owned program registers held text buffer a b c d is above runs registers_are held_is text_is buffer_is first second third =
      let owned_is : owned ≡ record_of p = cc in
      let parent_is : parent ≡ p.parent = cc in
      let program_is : program ≡ p.program = cc in
      let whole : Owned → ℕ → Program → List Bytes =
      λ r q xs. packed_all (pid ∷ 0 ∷ held_under (cleared_registers is_live_below xs r.context.line r.context.registers) f r q) ∷ packed_all (list_numbers instruction_numbers xs) ∷ packed_all (bytes_numbers (cleared_buffer is_live_below xs r.context.line r.context.buffer)) ∷ [] in
      let held_here : held ≡ packed_all (pid ∷ 0 ∷ held_under (cleared_registers is_live_below program owned.context.line owned.context.registers) f owned parent) =
      held_is ∙ ap (λ (rs : List ℤ). packed_all (pid ∷ 0 ∷ held_under rs f owned parent)) registers_are in
      let three : held ∷ text ∷ buffer ∷ [] ≡ whole owned parent program = λ i. held_here i ∷ text_is i ∷ buffer_is i ∷ [] in
      let same : whole owned parent program ≡ whole (record_of p) p.parent p.program = λ i. whole (owned_is i) (parent_is i) (program_is i) in
      third
      ∙ ap (λ (xs : List Bytes). xs ++ buffer ∷ []) (second ∙ ap (λ (xs : List Bytes). xs ++ text ∷ []) first)
      ∙ append_assoc (a ++ held ∷ []) (text ∷ []) (buffer ∷ [])
      ∙ append_assoc a (held ∷ []) (text ∷ buffer ∷ [])
      ∙ ap (λ (xs : List Bytes). a ++ xs) (three ∙ same)

  -- a process that is not live
  under-others : (o : Option ProcessRecord) (pid : ℕ) → is_some (live_process o) ≡ false → numbered_parts pid o ≡ parts_under f pid o
  under-others None pid is = refl
  under-others (Some (live p)) pid is = cc
  under-others (Some (ended_record parent status)) pid is = refl

  pub ended_under : (o : Option ProcessRecord) (pid parent status : ℕ) (group old new : List Bytes) → is_some (live_process o) ≡ false → Some (parent, status) ≡ ended_process o → group ≡ ended_parts pid parent status → new ≡ old ++ group
      → new ≡ old ++ parts_under f pid o
  ended_under o pid parent status group old new dead there is added =
      added ∙ ap (λ (xs : List Bytes). old ++ xs) (group_of_ended o pid parent status group there is ∙ under-others o pid dead)

  pub nobody_under : (o : Option ProcessRecord) (pid : ℕ) (old : List Bytes) → is_some (live_process o) ≡ false → None ≡ ended_process o → old ≡ old ++ parts_under f pid o
  nobody_under o pid old dead none = sym (append-nil old) ∙ ap (λ (xs : List Bytes). old ++ xs) (group_of_nobody o pid dead none ∙ under-others o pid dead)

  abbrev pub all_under : List Recorded → List Bytes
  all_under rs = flat_map (λ (r : Recorded). parts_under f r.0 (Some r.1)) rs

  -- the parts of the processes after a number are left
  pub record LeavesParts (rs : List Recorded) (last : ℕ) (old now : List Bytes) : Type 0 where
    pub is : now ++ all_under (records_after last rs) ≡ old ++ all_under rs

  pub parts-start : (ps : ProcessTable) (old : List Bytes) → IsProcessTable ps → LeavesParts ps.processes 0 old old
  parts-start ps old is = record { is = ap (λ (rs : List Recorded). old ++ all_under rs) (all-after ps.last_process ps.processes is.numbers) }

  pub parts-next : (rs : List Recorded) (last pid : ℕ) (old now new : List Bytes) → IsNextRecord last pid rs → LeavesParts rs last old now → new ≡ now ++ parts_under f pid (find nat_cmp pid rs) → LeavesParts rs pid old new
  parts-next rs last pid old now new next left added =
      let here : List Bytes = parts_under f pid (Some next.entry) in
      let rest : List Bytes = all_under (records_after pid rs) in
      record {
        is =
            ap (λ (xs : List Bytes). xs ++ rest) (added ∙ ap (λ (o : Option ProcessRecord). now ++ parts_under f pid o) next.found)
            ∙ append_assoc now here rest
            ∙ ap (λ (es : List Recorded). now ++ all_under es) (sym next.first)
            ∙ left.is;
      }

  pub parts-end : (rs : List Recorded) (last : ℕ) (old now : List Bytes) → number_after last rs ≡ None → LeavesParts rs last old now → now ≡ old ++ all_under rs
  parts-end rs last old now none left = sym (append-nil now) ∙ ap (λ (es : List Recorded). now ++ all_under es) (sym (none-after last rs none)) ∙ left.is

-- ---- open files

flat-map : {X Y : Type 0} (g : X → Y) (h : Y → Numbers) (xs : List X) → flat_map h (map g xs) ≡ flat_map (λ x. h (g x)) xs
flat-map g h [] = refl
flat-map g h (x ∷ xs) = ap (λ ns. h (g x) ++ ns) (flat-map g h xs)

flat-zeros : (k : ℕ) → flat_map (option_numbers file_numbers) (replicate k no_file) ≡ replicate k 0
flat-zeros zero = refl
flat-zeros (suc k) = ap (λ ns. 0 ∷ ns) (flat-zeros k)

pub added_files : (fs : Numbered OpenFile) (order : List ℕ) (many rest : ℕ) (a b c d : Bytes) → a ≡ [] → rest ≡ OPEN_FILES - length order → many ≡ length order + rest → IsAdded (many ∷ []) a b
    → IsAdded (flat_map (λ n. option_numbers file_numbers (at_number fs n)) order) b c → IsAdded (replicate rest 0) c d → d ≡ files_part (ordered_files fs order)
added_files fs order many rest a b c d none rest_is many_is first second third =
    let front : Numbered OpenFile = map (at_number fs) order in
    let back : Numbered OpenFile = replicate (OPEN_FILES - length order) no_file in
    let long : many ≡ length (ordered_files fs order) =
    many_is ∙ ap₂ (λ m n. m + n) (sym (length-map order (at_number fs))) (rest_is ∙ sym (length-replicate (OPEN_FILES - length order) no_file)) ∙ sym (length-append front back) in
    let numbers : flat_map (λ n. option_numbers file_numbers (at_number fs n)) order ++ replicate rest 0 ≡ flat_map (option_numbers file_numbers) (ordered_files fs order) =
    ap₂ (λ (xs ys : Numbers). xs ++ ys) (sym (flat-map (at_number fs) (option_numbers file_numbers) order)) (ap (λ k. replicate k 0) rest_is ∙ sym (flat-zeros (OPEN_FILES - length order)))
    ∙ sym (flat_map-append (option_numbers file_numbers) front back) in
    added_whole (list_numbers (option_numbers file_numbers) (ordered_files fs order)) a d none
    (added_then (subst (λ (k : ℕ). IsAdded (k ∷ []) a b) long first) (subst (λ (ns : Numbers). IsAdded ns b d) numbers (added_both second third)))

-- ---- a state

abbrev flattened : List (List Bytes) → List Bytes
flattened gs = flat_map (λ g. g) gs

records-flattened : (f : ℕ → ℕ) (rs : List Recorded) → flattened (map record_parts (renumbered_processes f (map (λ (r : Recorded). (r.0, cleared_record is_live_below r.1)) rs))) ≡ all_under f rs
records-flattened f [] = refl
records-flattened f ((pid, r) ∷ rs) = ap (λ (xs : List Bytes). parts_under f pid (Some r) ++ xs) (records-flattened f rs)

parts-are : (bound : ℕ) (s : State) → reduced_parts bound s
    ≡ packed_all (bound ∷ []) ∷ counts_part s.last_process (length s.processes) ∷ (all_under (index_in (references (cleared is_live_below s))) s.processes ++ files_part (ordered_files s.files (references (cleared is_live_below s))) ∷ tree_part s.tree ∷ node_parts [] s.tree.nodes)
unfolding canonical representative state_groups
parts-are bound s =
    let order : List ℕ = references (cleared is_live_below s) in
    let records : List Recorded = map (λ (r : Recorded). (r.0, cleared_record is_live_below r.1)) s.processes in
    let renumbered : List Recorded = renumbered_processes (index_in order) records in
    let rest : List (List Bytes) = (files_part (ordered_files s.files order) ∷ tree_part s.tree ∷ []) ∷ node_parts [] s.tree.nodes ∷ [] in
    let count : length renumbered ≡ length s.processes =
    length-map records (λ (r : Recorded). (r.0, renumbered_record (index_in order) r.1)) ∙ length-map s.processes (λ (r : Recorded). (r.0, cleared_record is_live_below r.1)) in
    ap₂ (λ (n : ℕ) (xs : List Bytes). packed_all (bound ∷ []) ∷ counts_part s.last_process n ∷ xs) count
    (flat_map-append (λ g. g) (map record_parts renumbered) rest ∙ ap (λ (xs : List Bytes). xs ++ flattened rest) (records-flattened (index_in order) s.processes)
    ∙ ap (λ (xs : List Bytes). all_under (index_in order) s.processes ++ files_part (ordered_files s.files order) ∷ tree_part s.tree ∷ xs) (append-nil (node_parts [] s.tree.nodes)))

pub all_parts : (bound : ℕ) (s : State) (ps qs rs : ProcessTable) (files : Numbered OpenFile) (tree other : Tree) (order : List ℕ) (start one two three four five six : List Bytes) (bound_part counts opened sizes : Bytes) (nodes : List Bytes) → start ≡ [] → one ≡ start ++ bound_part ∷ [] → two ≡ one ++ counts ∷ []
    → three ≡ two ++ all_under (index_in order) rs.processes → four ≡ three ++ opened ∷ [] → five ≡ four ++ sizes ∷ [] → six ≡ five ++ nodes → bound_part ≡ packed_all (bound ∷ []) → counts ≡ counts_part qs.last_process (length qs.processes)
    → opened ≡ files_part (ordered_files files order) → sizes ≡ tree_part tree → nodes ≡ node_parts [] other.nodes → order ≡ with_references [] (files_of_processes ps.processes) → ps ≡ processes_of s → qs ≡ processes_of s → rs ≡ processes_of s → files ≡ s.files → tree ≡ s.tree → other ≡ s.tree → six ≡ reduced_parts bound s
all_parts bound s ps qs rs files tree other order start one two three four five six bound_part counts opened sizes nodes none first second third fourth fifth sixth bound_is counts_are opened_is sizes_are nodes_are order_is ps_is qs_is rs_are files_are tree_is other_is =
    let real : List ℕ = references (cleared is_live_below s) in
    let in_order : order ≡ real = order_is ∙ ap (λ (t : ProcessTable). with_references [] (files_of_processes t.processes)) ps_is ∙ order-is s in
    let records : List Bytes = all_under (index_in order) rs.processes in
    let counts_here : counts ≡ counts_part s.last_process (length s.processes) = counts_are ∙ ap (λ (t : ProcessTable). counts_part t.last_process (length t.processes)) qs_is in
    let records_here : records ≡ all_under (index_in real) s.processes = ap₂ (λ (ns : List ℕ) (t : ProcessTable). all_under (index_in ns) t.processes) in_order rs_are in
    let opened_here : opened ≡ files_part (ordered_files s.files real) = opened_is ∙ ap₂ (λ (fs : Numbered OpenFile) (ns : List ℕ). files_part (ordered_files fs ns)) files_are in_order in
    let sizes_here : sizes ≡ tree_part s.tree = sizes_are ∙ ap tree_part tree_is in
    let nodes_here : nodes ≡ node_parts [] s.tree.nodes = nodes_are ∙ ap (λ (t : Tree). node_parts [] t.nodes) other_is in
    let here : bound_part ∷ counts ∷ (records ++ opened ∷ sizes ∷ nodes)
    ≡ packed_all (bound ∷ []) ∷ counts_part s.last_process (length s.processes) ∷ (all_under (index_in real) s.processes ++ files_part (ordered_files s.files real) ∷ tree_part s.tree ∷ node_parts [] s.tree.nodes) =
    λ i. bound_is i ∷ counts_here i ∷ (records_here i ++ opened_here i ∷ sizes_here i ∷ nodes_here i) in
    sixth
    ∙ ap (λ (xs : List Bytes). xs ++ nodes) (fifth ∙ ap (λ (xs : List Bytes). xs ++ sizes ∷ []) (fourth ∙ ap (λ (xs : List Bytes). xs ++ opened ∷ [])
    (third ∙ ap (λ (xs : List Bytes). xs ++ records) (second ∙ ap (λ (xs : List Bytes). xs ++ counts ∷ []) (first ∙ ap (λ (xs : List Bytes). xs ++ bound_part ∷ []) none)))))
    ∙ regroup (bound_part ∷ counts ∷ []) records opened sizes nodes
    ∙ here
    ∙ sym (parts-are bound s)
  where
    regroup : (front records : List Bytes) (opened sizes : Bytes) (nodes : List Bytes) → (((front ++ records) ++ opened ∷ []) ++ sizes ∷ []) ++ nodes ≡ front ++ (records ++ opened ∷ sizes ∷ nodes)
    regroup front records opened sizes nodes =
        append_assoc ((front ++ records) ++ opened ∷ []) (sizes ∷ []) nodes
        ∙ append_assoc (front ++ records) (opened ∷ []) (sizes ∷ nodes)
        ∙ append_assoc front records (opened ∷ sizes ∷ nodes)

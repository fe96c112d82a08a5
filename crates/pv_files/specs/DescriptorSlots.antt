-- Conversion of descriptors between the code and the specification.
use Rattle.std.specs.Prelude.{◌≡◌, refl, List, [], ◌∷◌, map, Option, None, Some, option_map}
use Rattle.std.proofs.Common.{ap}
use Rattle.pv_model.specs.Machine.{Numbered, Descriptor}
use Rattle.pv_files.specs.declared.descriptors.Descriptor.{Descriptor as ProcessSlot}

abbrev pub slot_descriptor : ProcessSlot → Descriptor
slot_descriptor d = record { file = d.file; close_on_exec = d.close_on_exec }

abbrev pub descriptors_of : List (Option ProcessSlot) → Numbered Descriptor
descriptors_of slots = map (option_map slot_descriptor) slots

-- the inverse
abbrev pub process_slot : Descriptor → ProcessSlot
process_slot d = record { file = d.file; close_on_exec = d.close_on_exec }

abbrev pub process_slots : Numbered Descriptor → List (Option ProcessSlot)
process_slots ds = map (option_map process_slot) ds

pub process_slots-descriptors_of : (slots : List (Option ProcessSlot)) → process_slots (descriptors_of slots) ≡ slots
process_slots-descriptors_of [] = refl
process_slots-descriptors_of (None ∷ slots) = ap (λ ps. None ∷ ps) (process_slots-descriptors_of slots)
process_slots-descriptors_of (Some d ∷ slots) = ap (λ ps. Some d ∷ ps) (process_slots-descriptors_of slots)

use Rattle.std.proofs.Common.{arith, ◌∙◌}
use Rattle.std.proofs.lemmas.List.{get_or-take, length-take-le}
use Rattle.pv_dirs.proofs.SlotBytes.{front_name, front_number}
use Rattle.pv_dirs.proofs.EqualParts.{name_fits, name_short, slot_least, slot_greatest}
use Rattle.pv_dirs.proofs.slot.Slot.new.Goals as goal

pub encoded-requires : goal.encoded-requires
encoded-requires c = omega (arith, name_short c.args.version, c.requires)

pub returns-clause-name : goal.returns-clause-name
returns-clause-name c =
    front_name c.layout.result.slot_length c.encoded.result (omega (arith, c.encoded.ensures.measured, c.layout.ensures.slot_length, name_fits c.args.version, c.requires)) ∙ c.encoded.ensures.name

pub returns-clause-number : goal.returns-clause-number
returns-clause-number c = front_number c.layout.result.slot_length c.encoded.result (omega (arith, c.layout.ensures.slot_length, slot_least c.args.version)) ∙ c.encoded.ensures.number

pub returns-clause-measured : goal.returns-clause-measured
returns-clause-measured c = get_or-take c.layout.result.slot_length c.encoded.result 2 0 (omega (arith, c.layout.ensures.slot_length, slot_least c.args.version)) ∙ c.encoded.ensures.measured

pub returns-clause-whole : goal.returns-clause-whole
returns-clause-whole c =
    length-take-le c.layout.result.slot_length c.encoded.result (omega (arith, c.encoded.ensures.whole, c.layout.ensures.slot_length, slot_greatest c.args.version)) ∙ c.layout.ensures.slot_length

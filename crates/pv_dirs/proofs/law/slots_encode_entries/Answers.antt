use Rattle.pv_dirs.proofs.ImageSlots.{entries_encoded, encoded_are}
use Rattle.pv_dirs.proofs.law.slots_encode_entries.Goals as goal

pub returns-clause-entries : goal.returns-clause-entries
returns-clause-entries c = entries_encoded

pub returns-clause-encoded : goal.returns-clause-encoded
returns-clause-encoded c = encoded_are

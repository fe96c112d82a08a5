-- The descriptors of a process, as contracts see them.
use Rattle.std.specs.Prelude.{ℤ, pos, negsuc, Bool, false, replicate, Option, None, Some}
use Rattle.pv_model.specs.declared.limits.TheConstants.{DESCRIPTORS}
use Rattle.pv_model.specs.Machine.{Numbered, at_number, Descriptor}

abbrev pub no_descriptors : Numbered Descriptor
no_descriptors = replicate DESCRIPTORS None

-- the descriptor with the number that a call passes, as `descriptor_at` finds it in a process
abbrev pub descriptor_under : Numbered Descriptor → ℤ → Option Descriptor
descriptor_under ds (pos d) = at_number ds d
descriptor_under ds (negsuc d) = None

-- whether execve closes it
abbrev pub closes_on_execve : Option Descriptor → Bool
closes_on_execve None = false
closes_on_execve (Some d) = d.close_on_exec

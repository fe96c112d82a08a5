-- The processes of worked runs, by computation.
use Rattle.std.proofs.Common.{[], Option, None, Some}
use Rattle.pv_model.specs.Machine.{Process, first_process}

-- a process, or one without a program
abbrev pub or_first : Option Process → Process
or_first None = first_process []
or_first (Some p) = p

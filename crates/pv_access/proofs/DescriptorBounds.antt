-- A process has no descriptor past the sixteenth.
use Rattle.std.proofs.Common.{◌≡◌, ℕ, pos, ◌<◌, ◌≤◌, length, Option, None, Some, option_map, refl, sym, ap, arith}
use Rattle.pv_model.specs.Machine.{open_file, open_file_of, Numbered, at_number, Descriptor, OpenFile, Process, State, process_at}
use Rattle.pv_laws_states.specs.States.{IsValid}
use Rattle.pv_laws_trees.proofs.NumberedMaps.{at_number-below}

past-end : (ds : Numbered Descriptor) (d : ℕ) → length ds ≡ 16 → 16 ≤ d → at_number ds d ≡ None
past-end ds d size past = by (at_number ds d) refl
  where
    by : (o : Option Descriptor) → at_number ds d ≡ o → o ≡ None
    by None is = refl
    by (Some x) is = let below : d < length ds = at_number-below ds d x is in absurd (omega (arith, below, size, past))

pub past_none : (s : State) (pid : ℕ) (p : Process) (d : ℕ) → IsValid s → process_at s pid ≡ Some p → 16 ≤ d → None ≡ option_map (λ (file : ℕ × OpenFile). file.1.node) (open_file s p (pos d))
past_none s pid p d whole at past =
    sym (ap (λ x. option_map (λ (file : ℕ × OpenFile). file.1.node) (open_file_of s x)) (past-end p.descriptors d (whole.processes.placed pid p at).descriptors past))

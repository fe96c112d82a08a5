-- The steps of worked runs, by computation.
use Rattle.std.proofs.Common.{◌≡◌, ◌≢◌, ℕ, Option, Some, option_map, refl, ap, sym, ◌∙◌}
use Rattle.std.specs.FinMap.Entries.{find}
use Rattle.std.specs.Ordering.{nat_cmp}
use Rattle.pv_model.specs.Machine.{Numbered, at_number, machine_on_literals, OpenFile, Process, live, ended_record, process_at}
use Rattle.pv_laws_steps.specs.Seen.{SeenRecord, own_record, live_other, ended_other, Seen, seen}
use Rattle.pv_laws_steps.specs.Examples.{after_fork, after_getpid, before_lseek, after_lseek, SeenExamples}

abbrev line_of : SeenRecord → ℕ
line_of (own_record (live p)) = p.line
line_of (own_record (ended_record parent status)) = 0
line_of (live_other parent directory descriptors held) = 0
line_of (ended_other parent status) = 0

other-child : process_at after_fork 2 ≢ process_at after_getpid 2
unfolding machine_on_literals
other-child same = let lines : Some 2 ≡ Some 3 = ap (option_map (λ (p : Process). p.line)) same in cc lines

own_record-child : seen 2 after_fork ≢ seen 2 after_getpid
unfolding machine_on_literals
own_record-child same = let lines : Some 2 ≡ Some 3 = ap (λ x. option_map line_of (find nat_cmp 2 x.records)) same in cc lines

abbrev offset_in : Numbered OpenFile → Option ℕ
offset_in files = option_map (λ f. f.offset) (at_number files 0)

shared-offset : offset_in before_lseek.files ≡ Some 0
unfolding machine_on_literals
shared-offset = refl

moved-offset : offset_in after_lseek.files ≡ Some 1
unfolding machine_on_literals
moved-offset = refl

moved-file : seen 1 before_lseek ≢ seen 1 after_lseek
moved-file same = let offsets : Some 0 ≡ Some 1 = sym shared-offset ∙ ap (λ (x : Seen). offset_in x.files) same ∙ moved-offset in cc offsets

pub seen-happens : SeenExamples
unfolding machine_on_literals
seen-happens = record { alike = refl; other = other-child; own = own_record-child; before = refl; following = refl; left = refl; not_alike = moved-file; first = refl; second = refl }

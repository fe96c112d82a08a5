-- Calls on descriptors commute with calls that change entries.
use Rattle.std.proofs.Common.{◌≡◌, ◌≢◌, ℕ, ℤ, true, false, Option, None, Some, refl, ap, sym, ◌∙◌}
use Rattle.pv_model.specs.declared.call.Call.{Call}
use Rattle.pv_model.specs.declared.call.Call.TheVariants as TheCall
use Rattle.pv_model.specs.declared.outcome.Outcome.TheVariants.{Killed}
use Rattle.pv_model.specs.declared.promise.Promise.{Promise}
use Rattle.pv_model.specs.Machine.{Bytes, open_file, calls_for, next, Program, Process, State, process_at, step, descriptor_of}
use Rattle.pv_laws_states.specs.States.{EncodesPrograms, IsValid}
use Rattle.pv_laws_runs.specs.OfLawsAccess.Justice.{reads_bytes, changes_bytes, asks_size}
use Rattle.pv_laws_steps.specs.Asking.{LeavesNode}
use Rattle.pv_laws_steps.specs.Commuting.{Commute}
use Rattle.pv_laws_steps.specs.Entries.{changes_entries, IsIndependent}
use Rattle.pv_laws_steps.specs.Growing.{LeavesContent}
use Rattle.pv_laws_steps.specs.Offsets.{DependsOnOffset, moves_offset}
use Rattle.pv_laws_steps.proofs.QuerySteps.{fstats-commute}
use Rattle.pv_laws_steps.proofs.CutSteps.{cuts-commute}
use Rattle.pv_laws_steps.proofs.NextCalls.{goes-by_none, leaves-content}
use Rattle.pv_laws_steps.proofs.OffsetSteps.{offsets-commute}
use Rattle.pv_laws_steps.proofs.WriteSteps.{growing-writes-commute}

-- the kinds of calls that a call that changes entries is not
record IsPlain (call : Call) : Type 0 where
  descriptor : descriptor_of call ≡ None
  reads : reads_bytes call ≡ false
  changes : changes_bytes call ≡ false
  asks : asks_size call ≡ false

plain : (call : Call) → changes_entries call ≡ true → IsPlain call
plain (TheCall.Mkdir path) is = record { descriptor = refl; reads = refl; changes = refl; asks = refl }
plain (TheCall.Symlink text path) is = record { descriptor = refl; reads = refl; changes = refl; asks = refl }
plain (TheCall.Link path new) is = record { descriptor = refl; reads = refl; changes = refl; asks = refl }
plain (TheCall.Unlink path) is = record { descriptor = refl; reads = refl; changes = refl; asks = refl }
plain (TheCall.Rmdir path) is = record { descriptor = refl; reads = refl; changes = refl; asks = refl }
plain (TheCall.Rename path new) is = record { descriptor = refl; reads = refl; changes = refl; asks = refl }
plain call is = cc is

-- the two steps in the opposite order
swapped : (program_of : Bytes → Option Program) (s : State) (j k : ℕ) → Commute program_of s k j → Commute program_of s j k
swapped program_of s j k is = record { first = is.second; second = is.first; after = sym is.after }

module _ (program_of : Bytes → Option Program) (encodes : EncodesPrograms program_of) (s : State) (j k : ℕ) (p q : Process) (entries : Call) (whole : IsValid s) (apart : k ≢ j) (at : process_at s j ≡ Some p)
    (comes : next p ≡ calls_for entries) (changes : changes_entries entries ≡ true) (at_k : process_at s k ≡ Some q) (alive : (a : Promise) → (step program_of s k).outcome ≢ Killed a) where
  away : (m : ℕ) → ¬ DependsOnOffset s j m
  away m = goes-by_none s j p entries at comes (plain entries changes).descriptor m

  left : (f : ℕ) → LeavesContent s j f
  left f = let is = plain entries changes in leaves-content s j p entries at comes is.reads is.changes is.asks f

  moves : (call : Call) (d : ℤ) → descriptor_of call ≡ Some d → moves_offset call ≡ true → next q ≡ calls_for call → LeavesNode program_of s q d j → Commute program_of s k j
  moves call d own is next_is leaves =
      offsets-commute program_of encodes s k j q call whole apart at_k next_is is alive
      (λ e m file has opened. let both : Some d ≡ Some e = sym own ∙ has in let same : e ≡ d = cc both in (away m, leaves m file (ap (open_file s q) (sym same) ∙ opened)))

  by-call : (call : Call) → next q ≡ calls_for call → IsIndependent program_of s j k q call → Commute program_of s k j
  by-call (TheCall.Read d n) next_is appears = moves (TheCall.Read d n) d refl refl next_is appears
  by-call (TheCall.Lseek d by whence) next_is appears = moves (TheCall.Lseek d by whence) d refl refl next_is appears
  by-call (TheCall.Getdents d) next_is appears = moves (TheCall.Getdents d) d refl refl next_is appears
  by-call (TheCall.Fstat d) next_is appears = fstats-commute program_of encodes s k j q d whole apart at_k next_is alive appears
  by-call (TheCall.Write d c) next_is appears = growing-writes-commute program_of encodes s k j q d c whole apart at_k next_is alive appears (λ m file opened. (away m, left file.node))
  by-call (TheCall.Ftruncate d n) next_is appears = cuts-commute program_of encodes s k j q d n whole apart at_k next_is alive appears (λ m file opened. left file.node)
  by-call call next_is appears = absurd appears

pub entries-commute : (program_of : Bytes → Option Program) → EncodesPrograms program_of → (s : State) (j k : ℕ) (p q : Process) (entries call : Call) → IsValid s → j ≢ k
    → process_at s j ≡ Some p → next p ≡ calls_for entries → changes_entries entries ≡ true
    → process_at s k ≡ Some q → next q ≡ calls_for call → ((a : Promise) → (step program_of s k).outcome ≢ Killed a) → IsIndependent program_of s j k q call → Commute program_of s j k
entries-commute program_of encodes s j k p q entries call whole apart at comes changes at_k next_is alive appears =
    swapped program_of s j k (by-call program_of encodes s j k p q entries whole (λ same. apart (sym same)) at comes changes at_k alive call next_is appears)

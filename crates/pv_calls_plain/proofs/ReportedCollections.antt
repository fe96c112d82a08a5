-- The report to a process and the collection of its state commute.
use Rattle.std.proofs.Common.{◌≡◌, ℕ, ℤ, pos, true, length, Option, None, Some, refl, ap, ap₂, subst, sym, ◌∙◌}
use Rattle.std.specs.Prelude.{IsSome}
use Rattle.std.specs.FinMap.Entries.{find, is_sorted}
use Rattle.std.specs.Ordering.{nat_cmp}
use Rattle.pv_calls_plain.specs.declared.answer.Done.{Done}
use Rattle.pv_calls_state.specs.Attempts.{collected_attempt}
use Rattle.pv_model.specs.declared.outcome.Outcome.TheVariants.{Value, Text}
use Rattle.pv_model.specs.Machine.{Answered, answer_by_attempt, with_front, update_live, update, Attempt, done, refused, Bytes, with_result, Effect, returns, returns_bytes, ends, waits, collect, Process, State, live_process, process_at, with_process}
use Rattle.pv_laws_states.proofs.Processes.{process_at-same, update-is, update-with}
use Rattle.pv_laws_states.proofs.ProcessInsides.{SameHolds, collect-same}
use Rattle.pv_laws_states.proofs.CollectedStates.{processes-collect}

same-result : (value : ℤ) (error : ℕ) (p : Process) → SameHolds p (with_result p value error)
same-result value error p = record { directory = refl; table = refl; descriptors = refl; parent = refl }

pub same-front : (bytes : Bytes) (p : Process) → SameHolds p (with_front bytes p)
same-front bytes p = record { directory = refl; table = refl; descriptors = refl; parent = refl }

pub process_at-collect : (s : State) (pid : ℕ) → process_at (collect s) pid ≡ process_at s pid
process_at-collect s pid = ap (λ ps. live_process (find nat_cmp pid ps)) (processes-collect s)

-- a change of a process that keeps its references commutes with collection
pub collect-update : (s after : State) (pid : ℕ) (f : Process → Process) → ((p : Process) → SameHolds p (f p)) → is_sorted nat_cmp after.processes ≡ true → collect s ≡ after
    → collect (update s pid f) ≡ update after pid f
collect-update s after pid f same sorted is = by (process_at s pid) refl
  where
    there : (o : Option Process) → process_at s pid ≡ o → process_at after pid ≡ o
    there o at = ap (λ x. process_at x pid) (sym is) ∙ process_at-collect s pid ∙ at

    ascending : is_sorted nat_cmp s.processes ≡ true
    ascending = ap (is_sorted nat_cmp) (sym (processes-collect s) ∙ ap (λ x. x.processes) is) ∙ sorted

    by : (o : Option Process) → process_at s pid ≡ o → collect (update s pid f) ≡ update after pid f
    by None at = ap (λ o. collect (update_live s pid f o)) at ∙ is ∙ sym (ap (update_live after pid f) (there None at))
    by (Some p) at =
        ap collect (update-is s pid f p at) ∙ collect-same s pid p (f p) ascending at (same p) ∙ ap (λ x. with_process x pid (f p)) is
        ∙ sym (update-is after pid f p (there (Some p) at))

-- two changes of a process as one
pub update-twice : (s : State) (pid : ℕ) (f g : Process → Process) → update (update s pid f) pid g ≡ update s pid (λ p. g (f p))
update-twice s pid f g = by (process_at s pid) refl
  where
    by : (o : Option Process) → process_at s pid ≡ o → update (update s pid f) pid g ≡ update s pid (λ p. g (f p))
    by None at =
        ap (λ x. update x pid g) (ap (update_live s pid f) at) ∙ ap (update_live s pid g) at ∙ sym (ap (update_live s pid (λ p. g (f p))) at)
    by (Some p) at =
        ap (λ x. update x pid g) (update-is s pid f p at) ∙ update-with s pid g (f p) ∙ sym (update-is s pid (λ q. g (f q)) p at)

-- a live process stays live
pub live-update : (s : State) (pid : ℕ) (f : Process → Process) → IsSome (process_at s pid) → IsSome (process_at (update s pid f) pid)
live-update s pid f = by (process_at s pid) refl
  where
    by : (o : Option Process) → process_at s pid ≡ o → IsSome o → IsSome (process_at (update s pid f) pid)
    by None at live = cc
    by (Some p) at live = subst IsSome (sym (ap (λ x. process_at x pid) (update-is s pid f p at) ∙ process_at-same s pid (f p))) refl

module _ (before s old : State) (pid : ℕ) (me : Process) (sorted : is_sorted nat_cmp old.processes ≡ true) where
  pub reported_value : (d : Done) (a : Attempt Effect) (value : ℤ) (new : State) → collected_attempt a ≡ done d.walks (old, returns d.value) → value ≡ pos d.value
      → new ≡ update old pid (λ p. with_result p value 0) → answer_by_attempt before s pid me a ≡ record { after = new; outcome = Value d.value; walks = d.walks }
  reported_value d (done walks (after, returns n)) value new is same reported =
      let pair : ◌≡◌ {A = Effect} (collect after, returns n) (old, returns d.value) = cc in
      let left : collect after ≡ old = ap (λ (x : Effect). x.0) pair in
      let reply : returns n ≡ returns d.value = ap (λ (x : Effect). x.1) pair in
      let number : n ≡ d.value = cc in
      let begun : walks ≡ d.walks = cc in
      let following = collect-update after old pid (λ p. with_result p (pos n) 0) (same-result (pos n) 0) sorted left in
      let word : pos n ≡ value = ap pos number ∙ sym same in
      ap₂ (λ x w. let a : Answered = record { after = x; outcome = Value n; walks = w } in a)
      (following ∙ ap (λ v. update old pid (λ p. with_result p v 0)) word ∙ sym reported) begun
      ∙ ap (λ m. let a : Answered = record { after = new; outcome = Value m; walks = d.walks } in a) number
  reported_value d (done walks (after, returns_bytes n bytes)) value new is same reported =
      let pair : ◌≡◌ {A = Effect} (collect after, returns_bytes n bytes) (old, returns d.value) = cc in
      let reply : returns_bytes n bytes ≡ returns d.value = ap (λ (x : Effect). x.1) pair in cc
  reported_value d (done walks (after, ends status)) value new is same reported =
      let pair : ◌≡◌ {A = Effect} (collect after, ends status) (old, returns d.value) = cc in
      let reply : ends status ≡ returns d.value = ap (λ (x : Effect). x.1) pair in cc
  reported_value d (done walks (after, waits)) value new is same reported =
      let pair : ◌≡◌ {A = Effect} (collect after, waits) (old, returns d.value) = cc in
      let reply : waits ≡ returns d.value = ap (λ (x : Effect). x.1) pair in cc
  reported_value d (refused walks errno cause) value new is same reported = cc

  pub reported_front : (d : Done) (bytes : Bytes) (after : State) (value : ℤ) (new : State) (len : ℕ) → collect (update after pid (with_front bytes)) ≡ old → value ≡ pos d.value → len ≡ length bytes
      → new ≡ update old pid (λ p. with_result p value 0)
      → answer_by_attempt before s pid me (done d.walks (after, returns_bytes d.value bytes)) ≡ record { after = new; outcome = Text (record { value = d.value; len = len }); walks = d.walks }
  reported_front d bytes after value new len left same size reported =
      let following = collect-update (update after pid (with_front bytes)) old pid (λ p. with_result p (pos d.value) 0) (same-result (pos d.value) 0) sorted left in
      ap₂ (λ x n. let a : Answered = record { after = x; outcome = Text (record { value = d.value; len = n }); walks = d.walks } in a)
      (ap collect (sym (update-twice after pid (with_front bytes) (λ p. with_result p (pos d.value) 0)))
      ∙ following ∙ ap (λ v. update old pid (λ p. with_result p v 0)) (sym same) ∙ sym reported) (sym size)

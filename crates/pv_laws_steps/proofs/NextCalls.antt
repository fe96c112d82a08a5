-- The open files and the bytes that a step uses, by the next call of its process.
use Rattle.std.proofs.Common.{◌≡◌, ℕ, false, None, Some, ap, sym, ◌∙◌}
use Rattle.pv_model.specs.declared.call.Call.{Call}
use Rattle.pv_model.specs.Machine.{calls_for, next, Process, State, process_at, descriptor_of}
use Rattle.pv_laws_runs.specs.OfLawsAccess.Justice.{reads_bytes, changes_bytes, asks_size}
use Rattle.pv_laws_steps.specs.Growing.{LeavesContent}
use Rattle.pv_laws_steps.specs.Offsets.{DependsOnOffset}
use Rattle.pv_laws_steps.specs.Writes.{LeavesBytes}

module _ (s : State) (pid : ℕ) (p : Process) (call : Call) (at : process_at s pid ≡ Some p) (comes : next p ≡ calls_for call) where
  -- the next call of the process is this one
  same-call : (q : Process) (made : Call) → process_at s pid ≡ Some q → next q ≡ calls_for made → made ≡ call
  same-call q made there next_is =
      let both : Some p ≡ Some q = sym at ∙ there in
      let same : p ≡ q = cc both in
      let asked : calls_for call ≡ calls_for made = sym comes ∙ ap next same ∙ next_is in
      let is : call ≡ made = cc asked in sym is

  -- a call without a descriptor uses no open file
  pub goes-by_none : descriptor_of call ≡ None → (k : ℕ) → ¬ DependsOnOffset s pid k
  goes-by_none none k goes =
      let bad : None ≡ Some goes.named.d = sym none ∙ ap descriptor_of (sym (same-call goes.named.p goes.named.call goes.named.at goes.named.next_is)) ∙ goes.named.own in cc bad

  -- a call that neither reads nor changes bytes leaves the bytes of each file alone, and its content too if it asks for
  -- no size
  pub leaves-bytes : reads_bytes call ≡ false → changes_bytes call ≡ false → (f : ℕ) → LeavesBytes s pid f
  leaves-bytes reads changes f = (
    λ e. let said = e.5.0 in let not : reads_bytes e.1 ≡ false = ap reads_bytes (same-call e.0 e.1 e.2 e.3) ∙ reads in cc (said, not),
    λ e. let said = e.5.0 in let not : changes_bytes e.1 ≡ false = ap changes_bytes (same-call e.0 e.1 e.2 e.3) ∙ changes in cc (said, not),
  )

  pub leaves-content : reads_bytes call ≡ false → changes_bytes call ≡ false → asks_size call ≡ false → (f : ℕ) → LeavesContent s pid f
  leaves-content reads changes asks f =
      (leaves-bytes reads changes f, λ e. let said = e.5.0 in let not : asks_size e.1 ≡ false = ap asks_size (same-call e.0 e.1 e.2 e.3) ∙ asks in cc (said, not))

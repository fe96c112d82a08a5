-- The verdict on a file, and its meaning for all runs.
use Rattle.std.proofs.Common.{◌≡◌, ℕ, Bool, true, false, Option, None, Some, Result, Ok, Err, refl, ap, cond}
use Rattle.std.proofs.lemmas.Bool.{and_parts}
use Rattle.pv_model.specs.declared.errno.Errno.{Errno}
use Rattle.pv_model.specs.declared.follow.Follow.TheVariants.{Last}
use Rattle.pv_model.specs.declared.place.Place.{Place}
use Rattle.pv_model.specs.declared.verdict.AuditFault.{AuditFault}
use Rattle.pv_model.specs.declared.verdict.AuditFault.TheVariants.{NotFile}
use Rattle.pv_model.specs.declared.verdict.Verdict.{Verdict}
use Rattle.pv_model.specs.declared.verdict.Verdict.TheVariants.{Sealed as SealedVerdict, Frozen, Exposed}
use Rattle.pv_model.specs.Machine.{Bytes, node_of, program_of, State, root, node_at, resolve}
use Rattle.pv_model.specs.Sealed
use Rattle.pv_laws_states.specs.States.{IsValid}
use Rattle.pv_calls.proofs.OfLawsAccess.Verdicts.{verdicts-exact}
use Rattle.pv_calls.proofs.OfLawsRuns.ProgramRanges.{program_of-encodes}
use Rattle.pv_calls.proofs.OfLawsAccess.SealedRuns.{sealed-for_ever, frozen-for_ever}
use Rattle.pv_session.specs.Audits.{node_there, node_named, IsSecret, IsUnchanging, KeepsSecret, KeepsSecretAt}

module _ (s : State) (whole : IsValid s) where
  secret : (f : ℕ) → Sealed.is_file (node_at s.tree f) ≡ true → Sealed.is_sealed s f ≡ true → IsSecret s f
  secret f file sealed = λ pids bytes long. sealed-for_ever program_of program_of-encodes s pids f bytes whole (record { file = file; sealed = sealed }) long

  unchanging : (f : ℕ) → Sealed.is_file (node_at s.tree f) ≡ true → Sealed.is_frozen s f ≡ true → IsUnchanging s f
  unchanging f file frozen = λ pids. frozen-for_ever program_of program_of-encodes s pids f whole (record { file = file; frozen = frozen })

  sealed-by_frozen : (f : ℕ) → Sealed.is_frozen s f ≡ true → Sealed.is_sealed s f ≡ true
  sealed-by_frozen f frozen = (and_parts (Sealed.is_sealed s f) _ frozen).0

  by_verdict : (f : ℕ) → Sealed.is_file (node_at s.tree f) ≡ true → (v : Option Verdict) → Sealed.verdict s f ≡ v → KeepsSecretAt s f (Sealed.audit_file v)
  by_verdict f file None is = tt
  by_verdict f file (Some SealedVerdict) is = secret f file ((verdicts-exact s f).sealed.0 is).0
  by_verdict f file (Some Frozen) is =
      let frozen : Sealed.is_frozen s f ≡ true = (verdicts-exact s f).frozen.0 is in (secret f file (sealed-by_frozen f frozen), unchanging f file frozen)
  by_verdict f file (Some (Exposed leak)) is = tt

  pub audit_node-keeps_secret : (f : ℕ) → KeepsSecretAt s f (Sealed.audit_node s (Some f))
  audit_node-keeps_secret f = by (Sealed.is_file (node_at s.tree f)) refl
    where
      by : (b : Bool) → Sealed.is_file (node_at s.tree f) ≡ b → KeepsSecretAt s f (cond b (Sealed.audit_file (Sealed.verdict s f)) (Err NotFile))
      by true file = by_verdict f file (Sealed.verdict s f) refl
      by false other = tt

  module _ (path : Bytes) where
    named_secret : (f : ℕ) → node_named s path ≡ Some f → (r : Result Verdict AuditFault) → KeepsSecretAt s f r → KeepsSecret s path r
    named_secret f named (Ok SealedVerdict) keeps = (f, named, keeps)
    named_secret f named (Ok Frozen) keeps = (f, named, keeps.0, keeps.1)
    named_secret f named (Ok (Exposed leak)) keeps = tt
    named_secret f named (Err fault) keeps = tt

    by_node : (o : Option ℕ) → node_named s path ≡ o → KeepsSecret s path (Sealed.audit_node s o)
    by_node None named = tt
    by_node (Some f) named = named_secret f named (Sealed.audit_node s (Some f)) (audit_node-keeps_secret f)

    by_place : (r : Result Place Errno) → resolve s.tree Last root path ≡ r → KeepsSecret s path (Sealed.audit_place s r)
    by_place (Err e) is = tt
    by_place (Ok place) is = by_node (node_of place) (ap node_there is)

    pub audit-keeps_secret : KeepsSecret s path (Sealed.audit s path)
    audit-keeps_secret = by_place (resolve s.tree Last root path) refl

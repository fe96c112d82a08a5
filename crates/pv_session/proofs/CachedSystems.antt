-- The system of a session: its state, and the name cache that agrees with it.
use Rattle.std.proofs.Common.{◌≡◌, ◌∙◌, ap, sym, subst, ℕ}
use Rattle.pv_calls.proofs.FirstStates.{passed-tree, passed-valid, registered-tree, registered-valid}
use Rattle.pv_calls.specs.OfCallsPath.OfNamei.Cached.{FitsMap}
use Rattle.pv_calls.specs.OfCallsPath.OfNamei.declared.cached.CachedLookup.{CachedLookup}
use Rattle.pv_calls.specs.OfCallsPath.declared.system.System.{System}
use Rattle.pv_calls.specs.OfCallsState.Changes.{IsRegistered, PassesInside}
use Rattle.pv_calls.specs.OfProcs.declared.processes.Fetched.{Fetched}
use Rattle.pv_laws_states.specs.States.{IsValid}
use Rattle.pv_model.specs.Machine.{State, Tree, find_entry}

-- a state is valid, and a name cache agrees with its tree
abbrev pub AreSound : State → CachedLookup → Type 0
AreSound s lookup = IsValid s × FitsMap lookup.answers (find_entry s.tree)

-- the system as it is lent
module _ (held lent : System CachedLookup) (same : lent ≡ held) where
  pub lent-state : (s : State) → held.parts ≡ s → lent.parts ≡ s
  lent-state s is = ap (λ (x : System CachedLookup). x.parts) same ∙ is

  module _ (sound : AreSound held.parts held.lookup) (t : State) (pid : ℕ) where
    lent-sound : AreSound lent.parts lent.lookup
    lent-sound = subst (λ (x : System CachedLookup). AreSound x.parts x.lookup) (sym same) sound

    -- it stays sound after an instruction inside a process
    pub registered-sound : (fetched : Fetched) → IsRegistered fetched pid lent.parts t → AreSound t lent.lookup
    registered-sound fetched made = (
      registered-valid lent.parts t pid fetched lent-sound.0 made,
      subst (λ (tree : Tree). FitsMap lent.lookup.answers (find_entry tree)) (sym (registered-tree lent.parts t pid fetched made)) lent-sound.1,
    )

    -- and after several
    pub passed-sound : (n : ℕ) → PassesInside n pid lent.parts t → AreSound t lent.lookup
    passed-sound n made = (
      passed-valid lent.parts t pid n lent-sound.0 made,
      subst (λ (tree : Tree). FitsMap lent.lookup.answers (find_entry tree)) (sym (passed-tree lent.parts t pid n made)) lent-sound.1,
    )

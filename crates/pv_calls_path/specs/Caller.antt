-- The process that makes a call, and its context.
use Rattle.std.specs.Prelude.{ℕ, List, Option, IsSome}
use Rattle.pv_laws_states.specs.States.{IsValid}
use Rattle.pv_model.specs.Machine.{State, process_at, find_entry}

-- a live process of a valid state, and a name lookup that agrees with its tree
pub record IsCaller (Agrees : (ℕ → List ℕ → Option ℕ) → Type 0) (s : State) (pid : ℕ) : Type 0 where
  pub whole : IsValid s
  pub live : IsSome (process_at s pid)
  pub agrees : Agrees (find_entry s.tree)

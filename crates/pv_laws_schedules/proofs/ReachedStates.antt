-- The visited states: each schedule leads to one with a witness that is as short, or all witnesses are.
use Rattle.std.proofs.Common.{◌≡◌, ◌∙◌, sym, ap, subst, ℕ, suc, ◌+◌, ◌≤◌, List, [], ◌∷◌, ◌++◌, length, length-append, Option, None, Some, ◌⊎◌, inl, inr, refl, arith}
use Rattle.std.specs.List.{AllByRecursion}
use Rattle.pv_model.specs.Machine.{Found, move, moves_of, states_found, Bytes, live_processes, Program, Process, State, process_at, step, run}
use Rattle.pv_laws_answers.specs.Search.{IsSearchable}
use Rattle.pv_laws_answers.specs.Witnesses.{IsEarlierWitness, IsNoLaterWitness, EachToLater}
use Rattle.pv_laws_answers.proofs.CompleteSearches.{still}
use Rattle.pv_laws_answers.proofs.Lists.{Among, each-among, each-weaker, among-map}
use Rattle.pv_laws_answers.proofs.LiveProcesses.{live-listed}
use Rattle.pv_laws_answers.proofs.SearchInvariant.{LeadsOn}
use Rattle.pv_laws_answers.proofs.SoundStates.{state_of, IsSound, IsFinished, search-finished}
use Rattle.pv_laws_answers.proofs.WitnessOrders.{no_later-longer}

module _ (program_of : Bytes → Option Program) (limit : ℕ) (s : State) (it : IsSearchable program_of limit s) where
  abbrev pub found : List Found
  found = states_found program_of limit s

  abbrev pub size : Found → ℕ
  size f = length f.witness

  pub finished : IsFinished program_of s limit found
  finished = search-finished program_of s it.encodes limit it.room it.whole

  pub sound-at : (f : Found) → Among f found → IsSound program_of s f
  sound-at f within = each-among (IsSound program_of s) found finished.sound f within

  pub rising : EachToLater (λ f g. size f ≤ size g) found
  rising = weaker found finished.rising
    where
      weaker : (fs : List Found) → EachToLater (λ f g. IsEarlierWitness f.witness g.witness) fs → EachToLater (λ f g. size f ≤ size g) fs
      weaker [] r = tt
      weaker (f ∷ fs) r = (each-weaker (λ g. IsEarlierWitness f.witness g.witness) (λ g. size f ≤ size g) (λ g h. no_later-longer f.witness g.witness (inr h)) fs r.0, weaker fs r.1)

  pub own-move : (g : Found) (pid : ℕ) (p : Process) → process_at g.state pid ≡ Some p → Among (move program_of g pid) (moves_of program_of g)
  own-move g pid p is = among-map (λ (r : ℕ × Process). move program_of g r.0) (pid, p) (live_processes g.state.processes) (live-listed g.state pid p is)

  -- a state is visited with a witness of at most this length, or all visited states have such witnesses
  abbrev pub ReachedIn : ℕ → State → Type 0
  ReachedIn n t = ((g : Found) × Among g found × (g.state ≡ t) × (size g ≤ n)) ⊎ AllByRecursion (λ g. size g ≤ n) found

  reached-next : (n : ℕ) (t : State) (pid : ℕ) → ReachedIn n t → ReachedIn (suc n) (step program_of t pid).after
  reached-next n t pid (inr all) = inr (each-weaker (λ g. size g ≤ n) (λ g. size g ≤ suc n) (λ g le. omega arith) found all)
  reached-next n t pid (inl here) = by (process_at here.0.state pid) refl
    where
      on : LeadsOn state_of limit found (move program_of here.0 pid) → ReachedIn (suc n) (step program_of t pid).after
      on (inl next) =
          inl (next.0, next.1, next.2 ∙ ap (λ u. (step program_of u pid).after) here.2, omega (arith, no_later-longer next.0.witness (here.0.witness ++ pid ∷ []) next.3, length-append here.0.witness (pid ∷ []), here.3))
      on (inr full) =
          inr (each-weaker (λ h. IsNoLaterWitness h.witness (here.0.witness ++ pid ∷ [])) (λ h. size h ≤ suc n) (λ h k. omega (arith, no_later-longer h.witness (here.0.witness ++ pid ∷ []) k, length-append here.0.witness (pid ∷ []), here.3)) found full.1)

      by : (o : Option Process) → process_at here.0.state pid ≡ o → ReachedIn (suc n) (step program_of t pid).after
      by None none = inl (here.0, here.1, sym (still program_of here.0.state pid none) ∙ ap (λ u. (step program_of u pid).after) here.2, omega (arith, here.3))
      by (Some p) lives =
          on (each-among (LeadsOn state_of limit found) (moves_of program_of here.0) (each-among (λ f. AllByRecursion (LeadsOn state_of limit found) (moves_of program_of f)) found finished.leads here.0 here.1)
          (move program_of here.0 pid) (own-move here.0 pid p lives))

  reached-by : (pids : List ℕ) (n : ℕ) (t : State) → ReachedIn n t → ReachedIn (length pids + n) (run program_of pids t).final
  reached-by [] n t by = subst (λ (k : ℕ). ReachedIn k t) (omega arith) by
  reached-by (pid ∷ pids) n t by =
      subst (λ (k : ℕ). ReachedIn k (run program_of (pid ∷ pids) t).final) (omega arith) (reached-by pids (suc n) (step program_of t pid).after (reached-next n t pid by))

  pub reached : (pids : List ℕ) → ReachedIn (length pids) (run program_of pids s).final
  reached pids =
      subst (λ (k : ℕ). ReachedIn k (run program_of pids s).final) (omega arith)
      (reached-by pids 0 s (inl (start, subst (Among start) (sym finished.more.1) (inl refl), refl, omega arith)))
    where
      start : Found
      start = record { witness = []; state = s }

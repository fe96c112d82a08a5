-- Attempts and answers in two states that are related by a renumbering of open files.
use Rattle.std.proofs.Common.{◌≡◌, ℕ, pos, negsuc, refl, sym, subst}
use Rattle.pv_model.specs.Machine.{Answered, answer_by_attempt, with_front, update, Attempt, done, refused, ◌>>=◌, with_result, end_process, Effect, Reply, returns, returns_bytes, ends, waits, answers, with_room, errno_number, collect, Process, State}
use Rattle.pv_model.specs.Answer.{answer_by_reply}
use Rattle.pv_laws_classes.specs.Renumbering.{renumbered_process}
use Rattle.pv_laws_states.proofs.RelatedAttempts as Both
use Rattle.pv_laws_states.proofs.RelatedAttempts.{AreBoth}
use Rattle.pv_laws_classes.proofs.RenumberedStates.{AreRelated, collect-related, tree-related, update-related, end-related}

-- ---- attempts

-- a check for room has the same result in related states
pub both-room : (x y : State) (n : ℕ) → AreRelated x y → AreBoth AreRelated (with_room x >>= (λ roomy. answers roomy n)) (with_room y >>= (λ roomy. answers roomy n))
both-room = Both.both-room AreRelated (λ x y is. tree-related (collect x) (collect y) (collect-related x y is))

-- ---- answers

-- two answers are the same, and lead to related states
pub record AreAnswered (a b : Answered) : Type 0 where
  pub after : AreRelated a.after b.after
  pub outcome : b.outcome ≡ a.outcome
  pub walks : b.walks ≡ a.walks

module _ (pid : ℕ) (f : ℕ → ℕ) (me : Process) (before before' s s' : State) (from : AreRelated before before') (at : AreRelated s s') where
  reply-both : (walks : ℕ) (r : Reply) (x y : State) → AreRelated x y → AreAnswered (answer_by_reply before s pid me walks r x) (answer_by_reply before' s' pid (renumbered_process f me) walks r y)
  reply-both walks (returns n) x y is = record {
    after = collect-related (update x pid (λ p. with_result p (pos n) 0)) (update y pid (λ p. with_result p (pos n) 0))
        (update-related x y pid (λ p. with_result p (pos n) 0) (record { apart = λ f p. refl; keeps = λ p. refl }) is);
    outcome = refl;
    walks = refl;
  }
  reply-both walks (returns_bytes n bytes) x y is = record {
    after = collect-related (update x pid (λ p. with_front bytes (with_result p (pos n) 0))) (update y pid (λ p. with_front bytes (with_result p (pos n) 0)))
        (update-related x y pid (λ p. with_front bytes (with_result p (pos n) 0)) (record { apart = λ f p. refl; keeps = λ p. refl }) is);
    outcome = refl;
    walks = refl;
  }
  reply-both walks (ends status) x y is = record {
    after = collect-related (end_process x pid me status) (end_process y pid (renumbered_process f me) status) (end-related x y pid f me status is);
    outcome = refl;
    walks = refl;
  }
  reply-both walks waits x y is = record { after = from; outcome = refl; walks = refl }

  pub attempt-both : (a b : Attempt Effect) → AreBoth AreRelated a b → AreAnswered (answer_by_attempt before s pid me a) (answer_by_attempt before' s' pid (renumbered_process f me) b)
  attempt-both (done w (x, r)) b is =
      subst (λ z. AreAnswered (answer_by_attempt before s pid me (done w (x, r))) (answer_by_attempt before' s' pid (renumbered_process f me) z)) (sym is.by.1) (reply-both w r x is.by.0 is.by.2)
  attempt-both (refused w e c) b is =
      subst (λ z. AreAnswered (answer_by_attempt before s pid me (refused w e c)) (answer_by_attempt before' s' pid (renumbered_process f me) z)) (sym is.by) (record {
        after = update-related s s' pid (λ p. with_result p (negsuc 0) (errno_number e)) (record { apart = λ f p. refl; keeps = λ p. refl }) at;
        outcome = refl;
        walks = refl;
      })

-- Answers in two states that are the same except for registers and buffers.
use Rattle.std.proofs.Common.{◌≡◌, ◌≢◌, ℕ, ℤ, pos, negsuc, if◌then◌else◌, List, [], ◌++◌, length, drop, take, Option, None, Some, is_some, refl, ap, sym, subst, ◌∙◌}
use Rattle.std.proofs.lemmas.List.{take_at}
use Rattle.pv_model.specs.declared.outcome.Outcome.{Outcome}
use Rattle.pv_model.specs.declared.outcome.Outcome.TheVariants.{Text}
use Rattle.pv_model.specs.Machine.{Answered, answer_by_attempt, with_front, update_live, update, Attempt, done, refused, Bytes, with_result, Effect, Reply, returns, returns_bytes, ends, waits, errno_number, collect, Process, State, process_at, buffer_of}
use Rattle.pv_model.specs.Answer.{answer_by_reply}
use Rattle.pv_laws_states.proofs.Processes.{process_at-same}
use Rattle.pv_laws_classes.specs.Liveness.{Live, with_values, AgreeOnLive}
use Rattle.pv_laws_states.proofs.RelatedAttempts.{AreBoth}
use Rattle.pv_laws_classes.proofs.LiveCalls.{Awaits}
use Rattle.pv_laws_classes.proofs.LiveLists.{AreLive}
use Rattle.pv_laws_classes.proofs.LiveStates.{Related, collect-related, process-related, update-related, end-related}
use Rattle.pv_laws_classes.proofs.LiveValues.{result_in, result-agrees, bytes-agree}

-- processes agree in the variables that are live at their lines
abbrev pub Agree : Live → ℕ → Process → List ℤ → Bytes → Type 0
Agree is_live n = AgreeOnLive is_live

pub agree-parent : (is_live : Live) (n : ℕ) (p : Process) (rs : List ℤ) (bs : Bytes) (parent : ℕ) → AgreeOnLive is_live p rs bs → AgreeOnLive is_live (record p { parent = parent }) rs bs
agree-parent is_live n p rs bs parent is = record { registers_count = is.registers_count; buffer_length = is.buffer_length; values = is.values }

module _ (is_live : Live) (pid : ℕ) where
  -- the bytes that an outcome reports are the same
  abbrev pub GivesAlike : Outcome → State → State → Type 0
  GivesAlike (Text taken) x y = take taken.len (buffer_of (process_at y pid)) ≡ take taken.len (buffer_of (process_at x pid))
  GivesAlike o x y = Unit {0}

  -- two answers are the same, and lead to related states
  pub record AreAnswered (a b : Answered) : Type 0 where
    pub after : Related (Agree is_live) a.after b.after
    pub outcome : b.outcome ≡ a.outcome
    pub walks : b.walks ≡ a.walks
    pub gives : GivesAlike a.outcome a.after b.after

  others : (n : ℕ) (p : Process) (rs : List ℤ) (bs : Bytes) → n ≢ pid → Awaits is_live pid n p rs bs → AgreeOnLive is_live p rs bs
  others n p rs bs other is = is.1 other

  -- the result is stored
  returned : (x y : State) (value : ℤ) (error : ℕ) → Related (Awaits is_live pid) x y → Related (Agree is_live) (update x pid (λ p. with_result p value error)) (update y pid (λ p. with_result p value error))
  returned x y value error is =
      update-related (Awaits is_live pid) (Agree is_live) pid others x y (λ p. with_result p value error) (λ p. with_result p value error)
      (λ p rs bs awaits. (result_in value (pos error) rs, bs, refl, result-agrees is_live p rs bs awaits.0 value (pos error))) is

  module _ (n : ℕ) (bytes : Bytes) where
    abbrev g : Process → Process
    g p = with_front bytes (with_result p (pos n) 0)

    returned-bytes : (x y : State) → Related (Awaits is_live pid) x y → Related (Agree is_live) (update x pid g) (update y pid g)
    returned-bytes x y is =
        update-related (Awaits is_live pid) (Agree is_live) pid others x y g g
        (λ p rs bs awaits. (result_in (pos n) (pos 0) rs, bytes ++ drop (length bytes) bs, refl, bytes-agree is_live p rs bs awaits.0 (pos n) (pos 0) bytes)) is

    collected-process : (z : State) → process_at (collect z) pid ≡ process_at z pid
    unfolding collect
    collected-process z = refl

    front : (z : State) (o : Option Process) → process_at z pid ≡ o → take (length bytes) (buffer_of (process_at (update_live z pid g o) pid)) ≡ take (length bytes) (if is_some o then bytes else [])
    front z None at = ap (λ o. take (length bytes) (buffer_of o)) at
    front z (Some p) at =
        ap (λ o. take (length bytes) (buffer_of o)) (process_at-same z pid (g p)) ∙ take_at bytes (drop (length bytes) p.buffer) (length bytes) refl ∙ sym (take_all' bytes)
      where
        take_all' : (xs : Bytes) → take (length xs) xs ≡ xs
        take_all' xs = ap (take (length xs)) (sym (Rattle.std.proofs.lemmas.List.append-nil xs)) ∙ take_at xs [] (length xs) refl

    front-collected : (z : State) → take (length bytes) (buffer_of (process_at (collect (update z pid g)) pid)) ≡ take (length bytes) (if is_some (process_at z pid) then bytes else [])
    front-collected z = ap (λ o. take (length bytes) (buffer_of o)) (collected-process (update z pid g)) ∙ front z (process_at z pid) refl

    lives : (a b : Option Process) → AreLive (Awaits is_live pid) pid a b → is_some b ≡ is_some a
    lives None b is = ap is_some is
    lives (Some p) b is = ap is_some is.2

    front-same : (x y : State) → Related (Awaits is_live pid) x y
        → take (length bytes) (buffer_of (process_at (collect (update y pid g)) pid)) ≡ take (length bytes) (buffer_of (process_at (collect (update x pid g)) pid))
    front-same x y is =
        front-collected y
        ∙ ap (λ b. take (length bytes) (if b then bytes else [])) (lives (process_at x pid) (process_at y pid) (process-related (Awaits is_live pid) x y pid is))
        ∙ sym (front-collected x)

  module _ (me : Process) (rs : List ℤ) (bs : Bytes) (before before' s s' : State) (from : Related (Agree is_live) before before') (at : Related (Awaits is_live pid) s s') where
    reply-both : (walks : ℕ) (r : Reply) (x y : State) → Related (Awaits is_live pid) x y → AreAnswered (answer_by_reply before s pid me walks r x) (answer_by_reply before' s' pid (with_values rs bs me) walks r y)
    reply-both walks (returns n) x y is = record { after = collect-related (Agree is_live) _ _ (returned x y (pos n) 0 is); outcome = refl; walks = refl; gives = tt }
    reply-both walks (returns_bytes n bytes) x y is = record { after = collect-related (Agree is_live) _ _ (returned-bytes n bytes x y is); outcome = refl; walks = refl; gives = front-same n bytes x y is }
    reply-both walks (ends status) x y is = record {
      after = collect-related (Agree is_live) _ _ (end-related (Awaits is_live pid) (Agree is_live) pid others (agree-parent is_live) x y me rs bs status is);
      outcome = refl;
      walks = refl;
      gives = tt;
    }
    reply-both walks waits x y is = record { after = from; outcome = refl; walks = refl; gives = tt }

    pub attempt-both : (a b : Attempt Effect) → AreBoth (Related (Awaits is_live pid)) a b → AreAnswered (answer_by_attempt before s pid me a) (answer_by_attempt before' s' pid (with_values rs bs me) b)
    attempt-both (done w (x, r)) b is =
        subst (λ z. AreAnswered (answer_by_attempt before s pid me (done w (x, r))) (answer_by_attempt before' s' pid (with_values rs bs me) z)) (sym is.by.1) (reply-both w r x is.by.0 is.by.2)
    attempt-both (refused w e c) b is =
        subst (λ z. AreAnswered (answer_by_attempt before s pid me (refused w e c)) (answer_by_attempt before' s' pid (with_values rs bs me) z)) (sym is.by)
        (record { after = returned s s' (negsuc 0) (errno_number e) at; outcome = refl; walks = refl; gives = tt })

-- The lines of turns, as they are written.
use Rattle.std.proofs.Common.{◌≡◌, ◌∙◌, ℕ, ◌-◌, ◌≤◌, [], ◌∷◌, ◌++◌, append_assoc, Option, None, Some, refl, sym, ap, ap₂, subst, min, arith}
use Rattle.std.specs.Prelude.{replicate}
use Rattle.std.proofs.lemmas.Grind.{flat_map-append}
use Rattle.std.proofs.lemmas.List.{append-nil}
use Rattle.pv_model.specs.Machine.{next_turn, turns, Bytes, program_of, State, Run, Schedule, run, steps_of}
use Rattle.pv_model.specs.Answers.Turns.{Turn, schedule_text, turn, turn_line}
use Rattle.pv_model.proofs.RunComposition.{run-append}
use Rattle.pv_laws_runs.proofs.TurnSteps.{next-goes, turn-few, turn-some}
use Rattle.pv_laws_runs.proofs.ReadyTurns.{turn-is}
use Rattle.pv_session.specs.Running.{run_of}
use Rattle.pv_streams.specs.Sinks.{and_all, WritesPrefix}
use Rattle.pv_streams.proofs.SinkWrites.{begins_whole}
use Rattle.pv_streams.proofs.OutputTexts.{begins_first, begins_then, written_both, written_none}
use Rattle.pv_needs.specs.Turning.{IsTurnMade, IsTurnTaken, TurnsWritten}
use Rattle.pv_needs.proofs.FairTurns.{rest_of, turns-end, turns-from, turns-next}
use Rattle.pv_needs.proofs.TurnLoops.{none-above}

module _ (slice steps : ℕ) (s : State) where
  -- the lines of the first turns are written, and this many steps remain
  pub record AreWritten (left last : ℕ) (now : State) (before after : Option Bytes) : Type 0 where
    pub made : Schedule
    pub all : turns program_of slice steps s ≡ made ++ rest_of program_of slice left last now
    pub at : now ≡ (run_of s made).final
    pub as_written : after ≡ and_all before (schedule_text made)

  pub written-none : (before : Option Bytes) → AreWritten steps 0 s before before
  written-none before = record { made = []; all = turns-from program_of slice steps s; at = refl; as_written = written_none before }

module _ (slice : ℕ) (whole : 1 ≤ slice) (steps : ℕ) (s : State) where
  module _ (left last : ℕ) (now : State) (before mid : Option Bytes) (so_far : AreWritten slice steps s left last now before mid) where
    pub lines-so-far : TurnsWritten (turns program_of slice steps s) before mid
    lines-so-far = record { made = so_far.made; rest = rest_of program_of slice left last now; all = so_far.all; as_written = so_far.as_written }

    -- the text of the schedule, and the part of it that is written
    encoded : schedule_text so_far.made ++ schedule_text (rest_of program_of slice left last now) ≡ schedule_text (turns program_of slice steps s)
    encoded = sym (ap schedule_text so_far.all ∙ flat_map-append turn_line so_far.made (rest_of program_of slice left last now))

    pub begun-so-far : WritesPrefix (schedule_text (turns program_of slice steps s)) before mid
    begun-so-far =
        subst (λ (bs : Bytes). WritesPrefix bs before mid) encoded
        (begins_first (schedule_text so_far.made) (schedule_text (rest_of program_of slice left last now)) before mid
        (begins_whole (schedule_text so_far.made) before mid so_far.as_written))

    -- ---- one more turn

    module _ (some : 1 ≤ left) (q count : ℕ) (new : State) (taken : IsTurnTaken (min slice left) now (next_turn program_of last now) (Some (q, count)) new) where
      record IsNext : Type 0 where
        pub next : next_turn program_of last now ≡ Some q
        pub is : IsTurnMade (min slice left) q now count new

      of : (o : Option ℕ) → next_turn program_of last now ≡ o → IsTurnTaken (min slice left) now o (Some (q, count)) new → IsNext
      of None is (nothing, same) = absurd (cc)
      of (Some pid) is (n, one, made) =
          let pair : (q, count) ≡ (pid, n) = cc in
          let pids : pid ≡ q = sym (ap (λ (x : ℕ × ℕ). x.0) pair) in
          let counts : n ≡ count = sym (ap (λ (x : ℕ × ℕ). x.1) pair) in
          record { next = is ∙ ap Some pids; is = subst (λ k. IsTurnMade (min slice left) q now k new) counts (subst (λ k. IsTurnMade (min slice left) k now n new) pids made) }

      is-next : IsNext
      is-next = of (next_turn program_of last now) refl taken

      pub count-fits : count ≤ left
      count-fits =
          let few = turn-few program_of (min slice left) q now in
          let same : (turn program_of (min slice left) q now).count ≡ count = ap (λ (t : Turn). t.count) is-next.is in
          omega (arith, few, same)

      pub count-some : 1 ≤ count
      count-some =
          let more = turn-some program_of (min slice left) q now (omega (arith, whole, some)) (next-goes program_of last now q is-next.next) in
          let same : (turn program_of (min slice left) q now).count ≡ count = ap (λ (t : Turn). t.count) is-next.is in
          omega (arith, more, same)

      rest-next : rest_of program_of slice left last now ≡ (q, count) ∷ rest_of program_of slice (left - count) q new
      rest-next =
          turns-next program_of slice whole left last now q some is-next.next
          ∙ ap (λ (t : Turn). let sch : Schedule = (q, t.count) ∷ rest_of program_of slice (left - t.count) q t.after in sch) is-next.is

      text-next : schedule_text (rest_of program_of slice left last now) ≡ turn_line (q, count) ++ schedule_text (rest_of program_of slice (left - count) q new)
      text-next = ap schedule_text rest-next

      pub begun-next : (after : Option Bytes) → WritesPrefix (turn_line (q, count)) mid after → WritesPrefix (schedule_text (turns program_of slice steps s)) before after
      begun-next after begun =
          let rest = schedule_text (rest_of program_of slice (left - count) q new) in
          subst (λ (bs : Bytes). WritesPrefix bs before after) (ap (λ (bs : Bytes). schedule_text so_far.made ++ bs) (sym text-next) ∙ encoded)
          (begins_then (schedule_text so_far.made) (turn_line (q, count) ++ rest) before mid after so_far.as_written
          (begins_first (turn_line (q, count)) rest mid after begun))

      steps-one : (made : Schedule) → steps_of (made ++ (q, count) ∷ []) ≡ steps_of made ++ replicate count q
      steps-one made =
          flat_map-append (λ (e : ℕ × ℕ). replicate e.1 e.0) made ((q, count) ∷ []) ∙ ap (λ pids. steps_of made ++ pids) (append-nil (replicate count q))

      at-next : new ≡ (run_of s (so_far.made ++ (q, count) ∷ [])).final
      at-next =
          let turn-run = turn-is program_of (min slice left) q now in
          sym (ap (λ (t : Turn). t.after) is-next.is) ∙ sym turn-run.after
          ∙ ap₂ (λ (n : ℕ) (t : State). (run program_of (replicate n q) t).final) (ap (λ (t : Turn). t.count) is-next.is) so_far.at
          ∙ sym (ap (λ (r : Run). r.final) (run-append program_of (steps_of so_far.made) (replicate count q) s))
          ∙ sym (ap (λ pids. (run program_of pids s).final) (steps-one so_far.made))

      pub written-next : (after : Option Bytes) → after ≡ and_all mid (turn_line (q, count)) → AreWritten slice steps s (left - count) q new before after
      written-next after more = record {
        made = so_far.made ++ (q, count) ∷ [];
        all = so_far.all ∙ ap (λ (sch : Schedule). so_far.made ++ sch) rest-next
            ∙ sym (append_assoc so_far.made ((q, count) ∷ []) (rest_of program_of slice (left - count) q new));
        at = at-next;
        as_written = written_both (schedule_text so_far.made) (turn_line (q, count)) before mid after so_far.as_written more
            ∙ ap (and_all before) (sym (flat_map-append turn_line so_far.made ((q, count) ∷ []) ∙ ap (λ bs. schedule_text so_far.made ++ bs) (append-nil (turn_line (q, count)))));
      }

    -- ---- no more turns

    pub record IsAll : Type 0 where
      pub after : now ≡ (run_of s (turns program_of slice steps s)).final
      pub as_written : mid ≡ and_all before (schedule_text (turns program_of slice steps s))

    all-where : rest_of program_of slice left last now ≡ [] → IsAll
    all-where none =
        let same : so_far.made ≡ turns program_of slice steps s = sym (so_far.all ∙ ap (λ (sch : Schedule). so_far.made ++ sch) none ∙ append-nil so_far.made) in
        record { after = so_far.at ∙ ap (λ (sch : Schedule). (run_of s sch).final) same; as_written = so_far.as_written ∙ ap (λ (sch : Schedule). and_all before (schedule_text sch)) same }

    -- no step remains
    pub all-over : left ≤ 0 → IsAll
    all-over over = let none : left ≡ 0 = omega (arith, over) in all-where (ap (λ n. rest_of program_of slice n last now) none)

    -- no process is ready
    pub all-idle : (made : Option (ℕ × ℕ)) (new : State) → made ≡ None → IsTurnTaken (min slice left) now (next_turn program_of last now) made new → (new ≡ now) × IsAll
    all-idle made new nothing taken =
        let none = none-above (min slice left) now (next_turn program_of last now) made new nothing taken in
        (none.1, all-where (turns-end program_of slice left last now none.0))

-- Parsing a schedule line by line.
use Rattle.std.proofs.Common.{◌≡◌, ◌∙◌, ap, ℕ, suc, ◌+◌, true, false, eqb, [], ◌∷◌, ◌++◌, None, Some, Result, Ok, Err, refl, sym, arith, append_assoc}
use Rattle.std.proofs.lemmas.Bool.{eq-eqb, ne_eqb}
use Rattle.std.proofs.lemmas.List.{append-nil}
use Rattle.pv_model.specs.declared.fault.ScheduleFault.{ScheduleFault}
use Rattle.pv_model.specs.declared.fault.ScheduleFault.TheVariants.{Line}
use Rattle.pv_model.specs.Machine.{Bytes, lines_of, read_schedule, Schedule}
use Rattle.pv_model.specs.Grammar.Schedules.{turn_of, onto_schedule, or_schedule_line, schedule_from}

-- the turns that were parsed, before those that remain
abbrev pub after_schedule : Schedule → Result Schedule ScheduleFault → Result Schedule ScheduleFault
after_schedule front (Ok schedule) = Ok (front ++ schedule)
after_schedule front (Err fault) = Err fault

onto_more : (front : Schedule) (turn : ℕ × ℕ) (rest : Result Schedule ScheduleFault) → after_schedule front (onto_schedule turn rest) ≡ after_schedule (front ++ turn ∷ []) rest
onto_more front turn (Ok schedule) = ap (λ (s : Schedule). Ok s) (sym (append_assoc front (turn ∷ []) schedule))
onto_more front turn (Err fault) = refl

-- the invariant of a loop over the lines of a schedule
pub record IsScheduleSoFar (front : Schedule) (rest : Bytes) (n : ℕ) (bytes : Bytes) : Type 0 where
  pub is : after_schedule front (schedule_from (lines_of rest) n) ≡ read_schedule bytes

pub IsScheduleSoFar-start : (bytes : Bytes) → IsScheduleSoFar [] bytes 1 bytes
unfolding read_schedule
IsScheduleSoFar-start bytes = record { is = whole (schedule_from (lines_of bytes) 1) }
  where
    whole : (read : Result Schedule ScheduleFault) → after_schedule [] read ≡ read
    whole (Ok schedule) = refl
    whole (Err fault) = refl

module _ (front : Schedule) (rest line following : Bytes) (n : ℕ) (bytes : Bytes) (split : lines_of rest ≡ line ∷ lines_of following) (preserved : IsScheduleSoFar front rest n bytes) where
  at_line : (n ≡ 65537 → ⊥) → after_schedule front (or_schedule_line n (turn_of line) (schedule_from (lines_of following) (suc n))) ≡ read_schedule bytes
  at_line few =
      let t : eqb n 65537 ≡ false = ne_eqb n 65537 few in
      let one : schedule_from (lines_of rest) n ≡ or_schedule_line n (turn_of line) (schedule_from (lines_of following) (suc n)) =
      ap (λ ls. schedule_from ls n) split ∙ rw t refl in
      ap (after_schedule front) (sym one) ∙ preserved.is

  pub IsScheduleSoFar-step : (turn : ℕ × ℕ) → (n ≡ 65537 → ⊥) → Some turn ≡ turn_of line → IsScheduleSoFar (front ++ turn ∷ []) following (n + 1) bytes
  IsScheduleSoFar-step turn few read =
      let next : n + 1 ≡ suc n = omega arith in
      record {
        is = rw next (sym (onto_more front turn (schedule_from (lines_of following) (suc n)))
            ∙ ap (λ r. after_schedule front (or_schedule_line n r (schedule_from (lines_of following) (suc n)))) read ∙ at_line few);
      }

  pub IsScheduleSoFar-refused : (n ≡ 65537 → ⊥) → None ≡ turn_of line → read_schedule bytes ≡ Err (Line n)
  IsScheduleSoFar-refused few read =
      sym (at_line few) ∙ ap (λ r. after_schedule front (or_schedule_line n r (schedule_from (lines_of following) (suc n)))) (sym read)

  pub IsScheduleSoFar-full : n ≡ 65537 → read_schedule bytes ≡ Err (Line 65537)
  IsScheduleSoFar-full full =
      let t : eqb n 65537 ≡ true = eq-eqb n 65537 full in
      let one : schedule_from (lines_of rest) n ≡ Err (Line 65537) = ap (λ ls. schedule_from ls n) split ∙ rw t refl in
      sym preserved.is ∙ ap (after_schedule front) one

pub IsScheduleSoFar-end : (front : Schedule) (rest : Bytes) (n : ℕ) (bytes : Bytes) → lines_of rest ≡ [] → IsScheduleSoFar front rest n bytes → read_schedule bytes ≡ Ok front
IsScheduleSoFar-end front rest n bytes none preserved =
    sym preserved.is ∙ ap (λ ls. after_schedule front (schedule_from ls n)) none ∙ ap (λ (s : Schedule). Ok s) (append-nil front)

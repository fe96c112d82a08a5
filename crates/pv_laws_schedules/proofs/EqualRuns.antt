-- If no step of any schedule differs, all schedules have equal runs.
use Rattle.std.proofs.Common.{◌≡◌, ◌∙◌, sym, ap, ap₂, ℕ, Bool, true, false, not, ◌&&◌, bytes_eq, List, [], ◌∷◌, ◌++◌, Option, None, Some, is_some, refl}
use Rattle.std.proofs.lemmas.Bool.{and_parts}
use Rattle.pv_model.specs.Answers.Compare.{is_live, is_restraint}
use Rattle.pv_model.specs.Machine.{Bytes, Program, Process, State, process_at, run}
use Rattle.pv_laws_trees.proofs.DirectoryEntries.{bytes_eq-same}
use Rattle.pv_laws_answers.specs.Search.{text_of_step}
use Rattle.pv_laws_schedules.specs.Compare.{EqualImagesRunEqually, text_unless, texts_compared}
use Rattle.pv_laws_schedules.proofs.PairSearch.{final-more, none-different}
use Rattle.pv_laws_schedules.proofs.StepTexts.{after_number, shows_live, shows_restraint, step-shows}

-- a call of pledge or unveil is one of a live process
restraint-live : (o : Option Process) → is_restraint o ≡ true → is_some o ≡ true
restraint-live None is = is
restraint-live (Some p) is = refl

module _ (program_of : Bytes → Option Program) (s t : State) (pid : ℕ) where
  abbrev restrained : State → Bool
  restrained u = is_restraint (process_at u pid)

  record StepAlike : Type 0 where
    pub text : text_unless (restrained s) (text_of_step program_of s pid) ≡ text_unless (restrained t) (text_of_step program_of t pid)
    pub live : is_live s pid ≡ is_live t pid

  both-restrained : restrained s ≡ true → restrained t ≡ true → StepAlike
  both-restrained a b = record {
    text = ap (λ c. text_unless c (text_of_step program_of s pid)) a ∙ sym (ap (λ c. text_unless c (text_of_step program_of t pid)) b);
    live = restraint-live (process_at s pid) a ∙ sym (restraint-live (process_at t pid) b);
  }

  same-texts : text_of_step program_of s pid ≡ text_of_step program_of t pid → StepAlike
  same-texts same =
      let here = step-shows program_of s pid in
      let there = step-shows program_of t pid in
      let restraint : restrained s ≡ restrained t = sym here.restraint ∙ ap (λ text. shows_restraint (after_number pid text)) same ∙ there.restraint in
      record {
        text = ap₂ text_unless restraint same;
        live = sym here.live ∙ ap (λ text. shows_live (after_number pid text)) same ∙ there.live;
      }

  -- a step that does not differ
  step-alike : (not (restrained s && restrained t) && not (bytes_eq (text_of_step program_of s pid) (text_of_step program_of t pid))) ≡ false → StepAlike
  step-alike is = by (restrained s && restrained t) (bytes_eq (text_of_step program_of s pid) (text_of_step program_of t pid)) refl refl is
    where
      by : (b c : Bool) → (restrained s && restrained t) ≡ b → bytes_eq (text_of_step program_of s pid) (text_of_step program_of t pid) ≡ c → (not b && not c) ≡ false → StepAlike
      by true c both texts is' = let parts = and_parts (restrained s) (restrained t) both in both-restrained parts.0 parts.1
      by false true both texts is' = same-texts (bytes_eq-same (text_of_step program_of s pid) (text_of_step program_of t pid) texts)
      by false false both texts is' = cc

pub runs-alike : EqualImagesRunEqually
runs-alike program_of limit s t pairs it is pids = record { texts = texts pids []; live = λ pid. (steps pids pid).live }
  where
    steps : (done : List ℕ) (pid : ℕ) → StepAlike program_of (run program_of done s).final (run program_of done t).final pid
    steps done pid = step-alike program_of (run program_of done s).final (run program_of done t).final pid (none-different program_of limit s t it pairs is done pid)

    texts : (rest done : List ℕ) → texts_compared program_of rest (run program_of done s).final ≡ texts_compared program_of rest (run program_of done t).final
    texts [] done = refl
    texts (pid ∷ rest) done =
        ap₂ (λ x (xs : List (Option Bytes)). x ∷ xs) (steps done pid).text
        (ap (texts_compared program_of rest) (sym (final-more program_of done pid s)) ∙ texts rest (done ++ pid ∷ []) ∙ ap (texts_compared program_of rest) (final-more program_of done pid t))

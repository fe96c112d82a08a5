-- The demand of a step, by the fetched instruction and the answer.
use Rattle.std.proofs.Common.{◌≡◌, ◌∙◌, ⊎_elim, ℕ, Bool, true, false, cond, ◌&&◌, List, [], ◌∷◌, ◌++◌, append-nil, nat_le, option_to_list, Option, None, Some, refl, sym, ap}
use Rattle.std.specs.List.{cons_option}
use Rattle.pv_model.specs.declared.call.Call.{Call}
use Rattle.pv_model.specs.declared.outcome.Outcome.{Outcome}
use Rattle.pv_model.specs.Machine.{Answered, answer, Asked, Judged, asked, asked_by, is_refused, judged_walks, promises_needed, program_of, calls_for, next, Process, State, process_at, is_unveil, step, Walk, walks_of}
use Rattle.pv_answers.proofs.InstructionWords.{register-next}
use Rattle.pv_model.specs.Answers.Needs.{asked_next, asked_of, begins_program}
use Rattle.pv_procs.specs.Turns.{NoCallNext, RegisterNext}
use Rattle.pv_needs.specs.declared.process_images.JudgedWalks.{JudgedWalks}
use Rattle.pv_needs.specs.Asking.{begun_walks, ends_before, ends_of, judged_begun}
use Rattle.pv_needs.specs.Granted.{demands_of_step}
use Rattle.pv_needs.specs.ProcessImages.{first_walks, judged_in}
use Rattle.pv_needs.proofs.KnownWalks.{first-walk, walks-known}

-- ---- the checked walks

none-begun : (a b : Bool) → judged_in (record { first = cond a None None; second = cond b None None }) ≡ []
none-begun true true = refl
none-begun true false = refl
none-begun false true = refl
none-begun false false = refl

list-begun : (s : State) (pid : ℕ) (p : Process) (ws : List Walk) (n : ℕ) → judged_in (first_walks (ends_of s pid p ws) n) ≡ begun_walks s pid p ws n
list-begun s pid p [] n = none-begun (nat_le 1 n) (nat_le 2 n)
list-begun s pid p (w ∷ []) n =
    first-walk (nat_le 1 n) (judged_begun s pid p w) (cons_option (cond (nat_le 2 n) None None) [])
    ∙ ap (λ (js : List Judged). cond (nat_le 1 n) (option_to_list (judged_begun s pid p w)) [] ++ js) (none-begun false (nat_le 2 n))
    ∙ append-nil (cond (nat_le 1 n) (option_to_list (judged_begun s pid p w)) [])
list-begun s pid p (w ∷ v ∷ rest) n =
    first-walk (nat_le 1 n) (judged_begun s pid p w) (cons_option (cond (nat_le 2 n) (judged_begun s pid p v) None) [])
    ∙ ap (λ (js : List Judged). cond (nat_le 1 n) (option_to_list (judged_begun s pid p w)) [] ++ js)
    (first-walk (nat_le 2 n) (judged_begun s pid p v) [] ∙ append-nil (cond (nat_le 2 n) (option_to_list (judged_begun s pid p v)) []))

-- the demands of the walks that a call began are known before the call
walks-asked : (s : State) (pid : ℕ) (p : Process) (call : Call) → process_at s pid ≡ Some p
    → judged_in (first_walks (ends_before s pid p call) (answer program_of s pid call).walks) ≡ judged_walks s p call (answer program_of s pid call).walks
walks-asked s pid p call at = by (is_unveil call) ∙ walks-known s pid p call at
  where
    n : ℕ
    n = (answer program_of s pid call).walks

    by : (b : Bool) → judged_in (first_walks (cond b (let it : JudgedWalks = record { first = None; second = None } in it) (ends_of s pid p (walks_of call))) n)
        ≡ cond b [] (begun_walks s pid p (walks_of call) n)
    by true = none-begun (nat_le 1 n) (nat_le 2 n)
    by false = list-begun s pid p (walks_of call) n

-- ---- a step

module _ (s : State) (pid : ℕ) where
  -- a step of a process that is not live
  asks-gone : process_at s pid ≡ None → asked program_of s pid ≡ None
  unfolding asked
  asks-gone none = ap (asked_of program_of s pid) none

  -- a step on registers
  asks-inside : RegisterNext (process_at s pid) → asked program_of s pid ≡ None
  unfolding asked
  asks-inside at = let it = register-next (process_at s pid) at in ap (asked_of program_of s pid) it.1 ∙ ap (asked_next program_of s pid it.0) it.3

  -- a step without a call
  pub asks-nothing : NoCallNext (process_at s pid) → asked program_of s pid ≡ None
  asks-nothing none = ⊎_elim asks-gone asks-inside none

  -- a step that makes a call
  module _ (p : Process) (call : Call) (at : process_at s pid ≡ Some p) (comes : next p ≡ calls_for call) where
    asks-next : asked program_of s pid ≡ Some (asked_by s p call (answer program_of s pid call))
    unfolding asked
    asks-next = ap (asked_of program_of s pid) at ∙ ap (asked_next program_of s pid p) comes

    same-asked : (x y : Asked) → x.line ≡ y.line → x.promises ≡ y.promises → x.walks ≡ y.walks → x.ends_process_image ≡ y.ends_process_image → x ≡ y
    same-asked x y a b c d =
        ap (λ v. let it : Asked = record { line = v; promises = x.promises; walks = x.walks; ends_process_image = x.ends_process_image } in it) a
        ∙ ap (λ v. let it : Asked = record { line = y.line; promises = v; walks = x.walks; ends_process_image = x.ends_process_image } in it) b
        ∙ ap (λ v. let it : Asked = record { line = y.line; promises = y.promises; walks = v; ends_process_image = x.ends_process_image } in it) c
        ∙ ap (λ v. let it : Asked = record { line = y.line; promises = y.promises; walks = y.walks; ends_process_image = v } in it) d

    pub asks-call : (a : Answered) → answer program_of s pid call ≡ a → (now : Asked) → now.line ≡ p.line → now.promises ≡ promises_needed call
        → now.walks ≡ judged_in (first_walks (ends_before s pid p call) a.walks) → now.ends_process_image ≡ begins_program call a.outcome → asked program_of s pid ≡ Some now
    asks-call a is now line promises walks ends =
        asks-next
        ∙ sym (ap Some (same-asked now (asked_by s p call (answer program_of s pid call)) line promises
        (walks ∙ ap (λ (x : Answered). judged_in (first_walks (ends_before s pid p call) x.walks)) (sym is) ∙ walks-asked s pid p call at)
        (ends ∙ ap (λ (x : Answered). begins_program call x.outcome) (sym is))))

-- ---- the calls that count

module _ (granted : Bool) (s : State) (pid : ℕ) where
  -- no call counts in a step without one
  pub counts-nothing : asked program_of s pid ≡ None → demands_of_step granted program_of s pid ≡ None
  counts-nothing none = ap (λ (o : Option Asked). cond (granted && is_refused (step program_of s pid).outcome) None o) none ∙ both (granted && is_refused (step program_of s pid).outcome)
    where
      both : (b : Bool) → cond {A = Option Asked} b None None ≡ None
      both true = refl
      both false = refl

  module _ (outcome : Outcome) (is : (step program_of s pid).outcome ≡ outcome) where
    by-outcome : (b : Bool) → b ≡ (granted && is_refused outcome) → demands_of_step granted program_of s pid ≡ cond b None (asked program_of s pid)
    by-outcome b left = ap (λ (c : Bool). cond c None (asked program_of s pid)) (ap (λ (o : Outcome). granted && is_refused o) is ∙ sym left)

    -- a call that does not count
    pub counts-none : (b : Bool) → b ≡ (granted && is_refused outcome) → b ≡ true → demands_of_step granted program_of s pid ≡ None
    counts-none b left holds = by-outcome b left ∙ ap (λ (c : Bool). cond c None (asked program_of s pid)) holds

    -- a call that counts
    pub counts-call : (b : Bool) → b ≡ (granted && is_refused outcome) → b ≡ false → (now : Asked) → asked program_of s pid ≡ Some now → demands_of_step granted program_of s pid ≡ Some now
    counts-call b left fails now asks = by-outcome b left ∙ ap (λ (c : Bool). cond c None (asked program_of s pid)) fails ∙ asks

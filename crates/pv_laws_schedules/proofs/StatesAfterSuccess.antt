-- The state that a call leaves if it succeeds: its tree, and the node of a new descriptor.
use Rattle.std.proofs.Common.{◌≡◌, ◌∙◌, sym, ap, subst, refl, ℕ, pos, true, [], ◌∷◌, Option, None, Some, option_map, option_and_then}
use Rattle.std.specs.Prelude.{option_to_list}
use Rattle.pv_model.specs.declared.call.Call.{Call}
use Rattle.pv_model.specs.declared.open_flags.OpenFlags.{OpenFlags}
use Rattle.pv_model.specs.Answer.{answer_by_reply}
use Rattle.pv_model.specs.Machine.{at_next_line, update, with_front, Attempt, Bytes, new_open_file, with_open_file, with_file, with_result, Reply, returns, returns_bytes, ends, waits, open_file, open_file_of, among, collect, needs, Numbered, at_number, with_number, least_free, calls_for, next, missing_promise, is_file, OpenFile, Descriptor, Program, Process, State, process_at, with_tree, step, has_succeeded, Tree, node_at, find_entry}
use Rattle.pv_model.specs.Answers.Access.{node_opened}
use Rattle.pv_laws_states.specs.Held.{used}
use Rattle.pv_laws_states.specs.States.{EncodesPrograms, is_call, IsTree, IsValid}
use Rattle.pv_laws_states.proofs.AttemptValues.{Leads}
use Rattle.pv_laws_states.proofs.ValidBySteps.{IsGoodNext, good-effect, good-next}
use Rattle.pv_laws_states.proofs.CollectedStates.{files-collect}
use Rattle.pv_laws_states.proofs.ReferenceMembers.{among-used}
use Rattle.pv_laws_states.proofs.CallOutcomes.{at_call}
use Rattle.pv_laws_states.proofs.Processes.{process_at-same, files-update, tree-update}
use Rattle.pv_laws_states.proofs.ValidReplies.{IsEffect, valid-at_call}
use Rattle.pv_laws_trees.proofs.NumberedMaps.{keep-passes, least_free-within, with_number-same_within}
use Rattle.pv_laws_access.proofs.CallEffects.{continues}
use Rattle.pv_laws_access.proofs.ChangedTrees.{entry-collect, file-collect}
use Rattle.pv_laws_access.proofs.ProcessesAfterEnds.{process_at-collect, update-live}
use Rattle.pv_laws_schedules.proofs.NamedPlaces.{IsOpening, Named, N, names}
use Rattle.pv_laws_schedules.proofs.SuccessfulCalls.{outcome_of, IsDone}

-- the process with the result of a reply
abbrev pub reported : Reply → Process → Process
reported (returns n) p = with_result p (pos n) 0
reported (returns_bytes n bytes) p = with_front bytes (with_result p (pos n) 0)
reported (ends status) p = p
reported waits p = p

module _ (program_of : Bytes → Option Program) (s : State) (pid : ℕ) (whole : IsValid s) (me : Process) (call : Call) (at : process_at s pid ≡ Some me) (next_is : next me ≡ calls_for call)
    (held : missing_promise me.promises (needs call) ≡ None) (is : IsDone program_of s pid me call at next_is held) where
  abbrev x : State
  x = at_call s pid me

  abbrev now : Process
  now = at_next_line me

  good-call : is_call call ≡ true
  good-call = subst (IsGoodNext me) next_is (good-next me (whole.processes.running pid me at))

  whole-x : IsValid x
  whole-x = valid-at_call s pid me whole at

  at-x : process_at x pid ≡ Some now
  at-x = process_at-same s pid now

  pub done-names : Named x pid now call is.after is.reply
  done-names = subst (λ (a : Attempt Rattle.pv_model.specs.Effect.Effect). Leads (N x pid now call) a) is.same (names x pid now whole-x at-x program_of call good-call)

  pub done-succeeds : has_succeeded (step program_of s pid).outcome ≡ true
  done-succeeds = ap has_succeeded is.outcome ∙ by is.reply is.goes
    where
      by : (r : Reply) → continues r ≡ true → has_succeeded (outcome_of r) ≡ true
      by (returns n) goes = refl
      by (returns_bytes n bytes) goes = refl
      by (ends status) goes = cc goes
      by waits goes = cc goes

  done-leaves : (step program_of s pid).after ≡ collect (update is.after pid (reported is.reply))
  done-leaves = is.leaves ∙ by is.reply is.goes
    where
      by : (r : Reply) → continues r ≡ true → (answer_by_reply s x pid now is.walks r is.after).after ≡ collect (update is.after pid (reported r))
      by (returns n) goes = refl
      by (returns_bytes n bytes) goes = refl
      by (ends status) goes = cc goes
      by waits goes = cc goes

  -- a file that stays
  pub file-done : (f : ℕ) → is_file (node_at (step program_of s pid).after.tree f) ≡ true → node_at (step program_of s pid).after.tree f ≡ node_at is.after.tree f
  file-done f file =
      ap (λ (y : State). node_at y.tree f) done-leaves
      ∙ file-collect (update is.after pid (reported is.reply)) f (ap (λ (y : State). is_file (node_at y.tree f)) (sym done-leaves) ∙ file)
      ∙ ap (λ (u : Tree). node_at u f) (tree-update is.after pid (reported is.reply))

  done-tree : EncodesPrograms program_of → IsTree is.after.tree
  done-tree encodes =
      by is.reply is.goes (subst (λ (a : Attempt Rattle.pv_model.specs.Effect.Effect). Leads (IsEffect x) a) is.same (good-effect program_of encodes x pid now call whole-x at-x good-call))
    where
      by : (r : Reply) → continues r ≡ true → IsEffect x (is.after, r) → IsTree is.after.tree
      by (returns n) goes good = good.0.solid.tree
      by (returns_bytes n bytes) goes good = good.0.solid.tree
      by (ends status) goes good = cc goes
      by waits goes good = cc goes

  pub entry-done : EncodesPrograms program_of → (d : ℕ) (name : Bytes) → find_entry (step program_of s pid).after.tree d name ≡ find_entry is.after.tree d name
  entry-done encodes d name =
      ap (λ (y : State). find_entry y.tree d name) done-leaves
      ∙ entry-collect (update is.after pid (reported is.reply)) (subst IsTree (sym (tree-update is.after pid (reported is.reply))) (done-tree encodes)) d name
      ∙ ap (λ (u : Tree). find_entry u d name) (tree-update is.after pid (reported is.reply))

  -- the new descriptor of an open is on the node that was opened
  module _ (f : OpenFlags) (o : IsOpening x pid now call f is.after is.reply) where
    abbrev d : ℕ
    d = least_free now.descriptors

    abbrev k : ℕ
    k = least_free x.files

    abbrev file : OpenFile
    file = new_open_file f o.node

    abbrev new : Descriptor
    new = record { file = k; close_on_exec = f.close_on_exec }

    abbrev own : Process
    own = record now { descriptors = with_number now.descriptors d new }

    abbrev y : State
    y = with_open_file x pid now f o.node o.tree

    abbrev give_result : Process → Process
    give_result p = with_result p (pos d) 0

    abbrev z : State
    z = update y pid give_result

    after-open : (step program_of s pid).after ≡ collect z
    after-open =
        is.leaves ∙ ap (λ (r : Reply). (answer_by_reply s x pid now is.walks r is.after).after) o.reply
        ∙ ap (λ (after : State). (answer_by_reply s x pid now is.walks (returns d) after).after) o.is

    at-z : process_at z pid ≡ Some (give_result own)
    at-z = update-live y pid give_result own (process_at-same (with_file (with_tree x o.tree) k file) pid own)

    descriptor-new : at_number (give_result own).descriptors d ≡ Some new
    descriptor-new = with_number-same_within now.descriptors d new (least_free-within now.descriptors)

    file-new : at_number (collect z).files k ≡ Some file
    file-new =
        ap (λ (fs : Numbered OpenFile). at_number fs k) (files-collect z)
        ∙ keep-passes (among (used z)) z.files k (among-used z pid (give_result own) d new at-z descriptor-new)
        ∙ ap (λ (fs : Numbered OpenFile). at_number fs k) (files-update y pid give_result)
        ∙ with_number-same_within x.files k file (least_free-within x.files)

    opened : open_file (collect z) (give_result own) (pos d) ≡ Some (k, file)
    opened = ap (open_file_of (collect z)) descriptor-new ∙ ap (option_map {U = ℕ × OpenFile} (λ (g : OpenFile). (k, g))) file-new

    pub opened-node : node_opened (step program_of s pid).after pid (step program_of s pid).outcome ≡ o.node ∷ []
    opened-node =
        ap (λ (after : State). node_opened after pid (step program_of s pid).outcome) after-open
        ∙ ap (node_opened (collect z) pid) (is.outcome ∙ ap outcome_of o.reply)
        ∙ ap (λ (p : Option Process). option_to_list (option_map (λ (file : ℕ × OpenFile). file.1.node) (option_and_then (λ (p : Process). open_file (collect z) p (pos d)) p))) (process_at-collect z pid ∙ at-z)
        ∙ ap (λ (g : Option (ℕ × OpenFile)). option_to_list (option_map (λ (file : ℕ × OpenFile). file.1.node) g)) opened

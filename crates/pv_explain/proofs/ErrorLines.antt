-- The reason of an error is the same in the state before the call and in the state that it left.
use Rattle.std.proofs.Common.{◌≡◌, ◌∙◌, ℕ, ℤ, pos, negsuc, List, [], ◌∷◌, if◌then◌else◌, Option, None, Some, option_map, refl, ap, ap₂, sym, subst}
use Rattle.std.specs.Prelude.{codes, unwrap_or}
use Rattle.pv_model.specs.declared.call.Call.{Call}
use Rattle.pv_model.specs.declared.call.Start.{Start}
use Rattle.pv_model.specs.declared.call.Start.TheVariants.{WorkingDirectory, Descriptor as AtDescriptor}
use Rattle.pv_model.specs.declared.errno.Errno.{Errno}
use Rattle.pv_model.specs.declared.outcome.Cause.TheVariants.{Plain, Promise as ByPromise, Unveil as ByUnveil, Locked}
use Rattle.pv_model.specs.declared.outcome.Outcome.{Outcome}
use Rattle.pv_model.specs.declared.outcome.Outcome.TheVariants.{Value, Text, Failed, Killed, Exited, Blocked, Gone}
use Rattle.pv_model.specs.Machine.{Answered, answer, answer_line, Bytes, call_of, descriptor_at, directory_of_file, open_file, open_file_of, start_directory, program_of, Numbered, at_number, Descriptor, OpenFile, Process, State, process_at, Tree, is_directory_at, is_absolute, Walk, walks_of}
use Rattle.pv_laws_states.specs.Calls.{IsUnharmed}
use Rattle.pv_laws_states.proofs.CallOutcomes.{refused-unharmed}
use Rattle.pv_step_lines.specs.declared.making.MadeCall.{MadeCall}
use Rattle.pv_explain.specs.Errors.{PrefixEnd, Reason, open_descriptor, one_path, two_paths, argument_reason, arrives, descriptor_reason, descriptor_used, error_line, error_lines, error_lines_by, error_lines_next, error_lines_of, file_reason, is_of_path, misfits, path_reason, plain_error, prefix_end, error_reason, reason_text, start_of, walk_prefix, walks_reason, words_reason}
use Rattle.pv_step_lines.specs.Made.{IsMadeCall}
use Rattle.pv_explain.specs.Made.{error_after}

-- ---- states with the same tree and open files, and processes with the same directory and descriptors

module _ (s s' : State) (p p' : Process) (tree : s'.tree ≡ s.tree) (files : s'.files ≡ s.files) (directory : p'.directory ≡ p.directory) (descriptors : p'.descriptors ≡ p.descriptors) where
  descriptor-same : (d : ℤ) → descriptor_at p' d ≡ descriptor_at p d
  descriptor-same (pos d) = ap (λ (ds : Numbered Descriptor). at_number ds d) descriptors
  descriptor-same (negsuc d) = refl

  open_descriptor-same : (o : Option Descriptor) → open_file_of s' o ≡ open_file_of s o
  open_descriptor-same None = refl
  open_descriptor-same (Some x) = ap (λ (fs : Numbered OpenFile). option_map (λ f. (x.file, f)) (at_number fs x.file)) files

  open-same : (d : ℤ) → open_file s' p' d ≡ open_file s p d
  open-same d = ap (open_file_of s') (descriptor-same d) ∙ open_descriptor-same (descriptor_at p d)

  directory-same : (o : Option (ℕ × OpenFile)) → directory_of_file p' o ≡ directory_of_file p o
  directory-same None = directory
  directory-same (Some (k, file)) = refl

  start-same : (start : Start) (path : Bytes) → start_directory s' p' start path ≡ start_directory s p start path
  start-same WorkingDirectory path = directory
  start-same (AtDescriptor d) path =
      ap₂ (λ (a b : ℕ). if is_absolute path then a else b) directory (ap (directory_of_file p') (open-same d) ∙ directory-same (open_file s p d))

  start_of-same : (start : Start) (path : Bytes) → start_of s' p' start path ≡ start_of s p start path
  start_of-same start path =
      ap (λ (t : Tree). if is_directory_at t (start_directory s' p' start path) then start_directory s' p' start path else p'.directory) tree
      ∙ ap (λ (d : ℕ). if is_directory_at s.tree d then d else p'.directory) (start-same start path)
      ∙ ap (λ (d : ℕ). if is_directory_at s.tree (start_directory s p start path) then start_directory s p start path else d) directory

  prefix-same : (w : Walk) → walk_prefix s' p' w ≡ walk_prefix s p w
  prefix-same w = ap₂ (λ (t : Tree) (start : ℕ). prefix_end t start w.follow w.path) tree (start_of-same w.start w.path)

  module _ (call : Call) (e : Errno) where
    walks-same : (ws : List Walk) → walks_reason s' p' call e ws ≡ walks_reason s p call e ws
    walks-same [] = refl
    walks-same (w ∷ []) = ap one_path (prefix-same w)
    walks-same (w ∷ v ∷ ws) = ap₂ (λ (x y : PrefixEnd). if arrives w.path x then two_paths x y else one_path x) (prefix-same w) (prefix-same v)

    path-same : path_reason s' p' call e ≡ path_reason s p call e
    path-same = ap (λ (r : Reason). if is_of_path call e then r else words_reason call e) (walks-same (walks_of call))

    file-same : (d : ℤ) (o : Option (ℕ × OpenFile)) → file_reason s' p' call e d o ≡ file_reason s p call e d o
    file-same d None = refl
    file-same d (Some (k, file)) =
        ap₂ (λ (t : Tree) (r : Reason). if misfits t call e file.node file.mode then open_descriptor d file.node file.mode else r) tree path-same

    used-same : (o : Option ℤ) → descriptor_reason s' p' call e o ≡ descriptor_reason s p call e o
    used-same None = path-same
    used-same (Some d) = ap (file_reason s' p' call e d) (open-same d) ∙ file-same d (open_file s p d)

    reason-same : error_reason s' p' call e ≡ error_reason s p call e
    unfolding error_reason
    reason-same = ap (unwrap_or (argument_reason call e)) (used-same (descriptor_used call e))

-- ---- a call

-- another outcome has no line
pub no-lines : (pid : ℕ) (after : State) (live : Option Process) (call : Call) (o : Outcome) → plain_error o ≡ None → error_after pid after live call o ≡ []
no-lines pid after None call o none = refl
no-lines pid after (Some q) call o none = ap (error_line pid after q call) none

module _ (s : State) (pid : ℕ) (m : MadeCall) (after : State) (is : IsMadeCall s pid m after) where
  abbrev c : Call
  c = call_of m.call

  failed-same : (e : Errno) → m.answer.outcome ≡ Failed e Plain → error_after pid after (process_at after pid) c (Failed e Plain) ≡ error_lines_by pid s is.me c (Failed e Plain)
  failed-same e fails =
      let reported : (answer program_of s pid c).outcome ≡ Failed e Plain = ap (λ (x : Answered). x.outcome) is.answered ∙ fails in
      let left : IsUnharmed s pid after = subst (λ (x : State). IsUnharmed s pid x) (ap (λ (x : Answered). x.after) is.answered) (refused-unharmed program_of s pid c e Plain reported) in
      let stays = left.caller is.me is.lives in
      ap (λ (o : Option Process). error_after pid after o c (Failed e Plain)) stays.1
      ∙ ap₂ (λ (t : Tree) (r : Reason). answer_line pid (codes "WHY") (reason_text t r) ∷ []) left.tree
      (reason-same s after is.me stays.0 left.tree left.files stays.2.directory stays.2.descriptors c e)

  none-after : (o : Outcome) → plain_error o ≡ None → error_lines_by pid s is.me c o ≡ [] → error_after pid after (process_at after pid) c o ≡ error_lines_by pid s is.me c o
  none-after o none before = no-lines pid after (process_at after pid) c o none ∙ sym before

  outcome-same : (o : Outcome) → m.answer.outcome ≡ o → error_after pid after (process_at after pid) c o ≡ error_lines_by pid s is.me c o
  outcome-same (Failed e Plain) fails = failed-same e fails
  outcome-same (Failed e (ByPromise p)) fails = none-after (Failed e (ByPromise p)) refl refl
  outcome-same (Failed e (ByUnveil k)) fails = none-after (Failed e (ByUnveil k)) refl refl
  outcome-same (Failed e Locked) fails = none-after (Failed e Locked) refl refl
  outcome-same (Value n) gives = none-after (Value n) refl refl
  outcome-same (Text taken) gives = none-after (Text taken) refl refl
  outcome-same (Killed p) gives = none-after (Killed p) refl refl
  outcome-same Exited gives = none-after Exited refl refl
  outcome-same Blocked gives = none-after Blocked refl refl
  outcome-same Gone gives = none-after Gone refl refl

  -- the reason of the error of a call, in the state that it left
  pub error-called : error_after pid after (process_at after pid) c m.answer.outcome ≡ error_lines s pid
  unfolding error_lines
  error-called =
      outcome-same m.answer.outcome refl
      ∙ sym (ap (error_lines_of s pid) is.lives ∙ ap (error_lines_next s pid is.me) is.comes ∙ ap (λ (a : Answered). error_lines_by pid s is.me c a.outcome) is.answered)

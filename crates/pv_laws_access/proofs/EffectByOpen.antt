-- The effects of open and openat.
use Rattle.std.proofs.Common.{◌≡◌, ℕ, Bool, true, false, not, ◌&&◌, ◌||◌, if◌then◌else◌, nat_le, [], Option, None, Some, is_some, is_none, option_and_then, Ok, refl, ap, sym, ◌∙◌}
use Rattle.std.specs.Prelude.{Contains}
use Rattle.std.proofs.lemmas.Bool.{and_parts, not-false}
use Rattle.pv_model.specs.declared.call.Call.{Call}
use Rattle.pv_model.specs.declared.call.Call.TheVariants as TheCall
use Rattle.pv_model.specs.declared.call.Start.{Start}
use Rattle.pv_model.specs.declared.call.Start.TheVariants.{WorkingDirectory}
use Rattle.pv_model.specs.declared.errno.Errno.TheVariants.{EEXIST, ENOENT, ENOTDIR, EISDIR, EINVAL, ENFILE, EMFILE, ELOOP}
use Rattle.pv_model.specs.declared.open_flags.OpenFlags.{OpenFlags}
use Rattle.pv_model.specs.declared.place.Place.{Place}
use Rattle.pv_model.specs.Machine.{◌>>=◌, refuse_if, ◌>>◌, Bytes, is_link, contradicts, with_content, with_open_file, open_node, open_at, check_start, Effect, answers, node_of, name_of, start_directory, end_of, permissions_of_open, least_free, Process, State, writes, flags_of, place_found, places, IsAllowed, Node, file_node, Tree, node_at, is_directory, new_number, with_new_node, Walk, follow_of, open_walk}
use Rattle.pv_model.specs.Calls.Descriptors.{open_here}
use Rattle.pv_laws_states.specs.States.{is_start, is_text, is_call}
use Rattle.pv_laws_states.proofs.AttemptValues.{Leads, leads-after_walks, leads-then, leads-refuse_if, leads-room, leads-following}
use Rattle.pv_laws_states.proofs.CallRemainders
use Rattle.pv_laws_states.proofs.ChangedStates.{resolve-fine, my-placed}
use Rattle.pv_laws_access.proofs.CallEffects.{opens, creates, IsFine, Did, first-place, leads-judged}
use Rattle.pv_laws_states.proofs.WalkStarts.{StartsWell, leads-start}

none_made : (o : Option Node) (create : Bool) → (is_none o && not create) ≡ false → o ≡ None → create ≡ true
none_made None create is none = not-false create is
none_made (Some node) create is none = cc

-- an open that truncates is for writing
writes-cut : (f : OpenFlags) → contradicts f ≡ false → f.truncate ≡ true → writes f.mode ≡ true
writes-cut f sensible cut = by (writes f.mode) (ap (λ t. (t && not (writes f.mode)) || (f.exclusive && not f.create) || (f.create && f.directory)) (sym cut) ∙ sensible)
  where
    by : (b : Bool) → (not b || (f.exclusive && not f.create) || (f.create && f.directory)) ≡ false → b ≡ true
    by true is = refl
    by false is = cc is

module _ (s : State) (pid : ℕ) (me : Process) (call : Call) (path : Bytes) (f : OpenFlags) (flagged : flags_of call ≡ Some f) where
  abbrev D : Effect → Type 0
  D = Did s pid me call

  does-node : (place : Place) → IsAllowed s me call (permissions_of_open f) place → IsFine s pid me call place → (f.truncate ≡ true → writes f.mode ≡ true)
      → (is_none (option_and_then (node_at s.tree) (node_of place)) && not f.create) ≡ false → (name : Option (ℕ × Bytes)) (node : Option ℕ) → name_of place ≡ name → node_of place ≡ node → Leads D (open_node s pid me f name node >>= CallRemainders.open_7 s pid me)
  does-node place allowed fine written made name (Some n) named is =
      let t : Tree = if f.truncate then with_content s.tree n [] else s.tree in
      leads-after_walks D 0 (CallRemainders.open_7 s pid me (with_open_file s pid me f n t))
      (leads-room D (with_open_file s pid me f n t) (λ roomy. answers roomy (least_free me.descriptors)) (λ short fit. opens f place n (least_free me.descriptors) flagged allowed is fine written))
  does-node place allowed fine written made (Some p) None named is =
      let t : Tree = with_new_node s.tree p.0 p.1 (file_node false []) in
      leads-after_walks D 0 (CallRemainders.open_7 s pid me (with_open_file s pid me f (new_number s.tree) t))
      (leads-room D (with_open_file s pid me f (new_number s.tree) t) (λ roomy. answers roomy (least_free me.descriptors)) (λ short fit.
      creates f place p (least_free me.descriptors) flagged allowed
      (none_made (option_and_then (node_at s.tree) (node_of place)) f.create made (ap (option_and_then (node_at s.tree)) is)) named is fine))
  does-node place allowed fine written made None None named is = tt

  abbrev there : Place → Option Node
  there place = CallRemainders.node_there s pid me place

  pub does-open_by : (start : Start) → (is_call call ≡ true → is_text path ≡ true)
      → ((place : Place) → end_of s me (open_walk start path f) ≡ Ok place → Contains (places s me call) place) → Leads D (open_at s pid me start path f)
  does-open_by start text among =
      let directory : ℕ = start_directory s me start path in
      leads-refuse_if D EINVAL (contradicts f) (check_start s pid me start path >> CallRemainders.open_a s pid me path f directory) (λ sensible.
      leads-following D (StartsWell s pid me directory) (check_start s pid me start path) (CallRemainders.open_a s pid me path f directory) (leads-start s pid me start path) (λ well.
      leads-then D (refuse_if EMFILE (nat_le 16 (least_free me.descriptors))) (CallRemainders.open_b s pid me path f directory) (
      leads-then D (refuse_if ENFILE (nat_le 128 (least_free s.files))) (CallRemainders.open_c s pid me path f directory) (
      leads-judged D s me directory (follow_of f) path (permissions_of_open f) (CallRemainders.open_1 s pid me f) (λ place found allowed.
      leads-then D (refuse_if EEXIST (f.create && f.exclusive && is_some (there place))) (CallRemainders.open_2 s pid me f place) (
      leads-refuse_if D ENOENT (is_none (there place) && not f.create) (CallRemainders.open_3 s pid me f place) (λ made.
      leads-then D (refuse_if ELOOP (is_link (there place))) (CallRemainders.open_4 s pid me f place) (
      leads-then D (refuse_if ENOTDIR (f.directory && not (is_directory (there place)))) (CallRemainders.open_5 s pid me f place) (
      leads-then D (refuse_if EISDIR (is_directory (there place) && writes f.mode)) (CallRemainders.open_6 s pid me f place) (
      does-node place (among place found, allowed)
      (λ whole at is. resolve-fine s.tree whole.tree (follow_of f) directory path place (well (my-placed s pid me whole at).directory) (text is) found)
      (writes-cut f sensible) made (name_of place) (node_of place) refl refl))))))))))

module _ (s : State) (pid : ℕ) (me : Process) (path : Bytes) (f : OpenFlags) where
  abbrev ends : Walk → Option Place
  ends w = place_found (end_of s me w)

  pub does-open : Leads (Did s pid me (TheCall.Open path f)) (open_here s pid me path f)
  does-open =
      does-open_by s pid me (TheCall.Open path f) path f refl WorkingDirectory (λ text. text) (λ place found. first-place ends (open_walk WorkingDirectory path f) [] place (ap place_found found))

  pub does-open_at : (start : Start) → Leads (Did s pid me (TheCall.OpenAt start path f)) (open_at s pid me start path f)
  does-open_at start =
      does-open_by s pid me (TheCall.OpenAt start path f) path f refl start (λ is. (and_parts (is_start start) (is_text path) is).1)
      (λ place found. first-place ends (open_walk start path f) [] place (ap place_found found))

-- The reasons why a process is not fixed to a file: by its own calls it can change the bytes, now or later.
use Rattle.std.specs.Prelude.{ℕ, Bool, not, ◌&&◌, ◌||◌, if◌then◌else◌, List, [], ◌∷◌, ◌++◌, fold, min, codes, decimal, Option, None, Some}
use Rattle.pv_model.specs.declared.perms.Perms.{Perms}
use Rattle.pv_model.specs.declared.promise.Promise.TheVariants.{Wpath, Cpath, Exec as ExecPromise}
use Rattle.pv_model.specs.Bytes.{Bytes}
use Rattle.pv_model.specs.Sealed.{is_pledged_without, descriptors_on, giving, above, is_held_over_exec}
use Rattle.pv_model.specs.State.{Process, State, writes}
use Rattle.pv_model.specs.Unveil.{Table}
use Rattle.pv_model_questions.specs.declared.edit_reason.EditReason.{EditReason}
use Rattle.pv_model_questions.specs.declared.edit_reason.EditReason.TheVariants.{Writes, NoTable, NotLocked, Gives, Above, Exec}

-- the least number as a reason
abbrev pub edit_least : (ℕ → EditReason) → List ℕ → List EditReason
edit_least reason [] = []
edit_least reason (k ∷ ks) = reason (fold min k ks) ∷ []

abbrev pub edit_when : Bool → EditReason → List EditReason
edit_when holds reason = if holds then reason ∷ [] else []

-- whether the promises prevent a process from linking and moving anything
abbrev pub is_held_in_place : Process → Bool
is_held_in_place p = is_pledged_without (Cpath ∷ ExecPromise ∷ []) p

-- whether permissions at a name of a file let a process write it, or link it to a place where it can
abbrev pub lets_edit : Bool → Perms → Bool
lets_edit in_place permissions = permissions.w || (not in_place && (permissions.r || permissions.c))

module _ (s : State) (p : Process) (f : ℕ) where
  abbrev pub edits_above : Bool → Table → List EditReason
  edits_above in_place table = if in_place then [] else edit_least Above (above s p f table)

  -- the reasons why a table does not fix a process to the file
  abbrev pub edits_of_table : Option Table → List EditReason
  edits_of_table None = NoTable ∷ []
  edits_of_table (Some table) =
      edit_when (not p.locked) NotLocked
      ++ edit_least Gives (giving s p f (lets_edit (is_held_in_place p)) table)
      ++ edits_above (is_held_in_place p) table
      ++ edit_when (not (is_held_over_exec s p f)) Exec

  -- the reasons why a process is not fixed to the file, in order
  unfoldable pub edits : List EditReason
  edits =
      edit_least Writes (descriptors_on s p f writes)
      ++ (if is_pledged_without (Wpath ∷ ExecPromise ∷ []) p then [] else edits_of_table p.table)

abbrev pub edit_text : EditReason → Bytes
edit_text (Writes d) = codes "writes descriptor " ++ decimal d
edit_text NoTable = codes "no table"
edit_text NotLocked = codes "not locked"
edit_text (Gives k) = codes "entry " ++ decimal k ++ codes " gives"
edit_text (Above k) = codes "entry " ++ decimal k ++ codes " above"
edit_text Exec = codes "may exec"

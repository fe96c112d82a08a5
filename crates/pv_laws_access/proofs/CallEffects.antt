-- The possible effects of a call, as one relation from which each law follows.
use Rattle.std.proofs.Common.{◌≡◌, ℕ, suc, ℤ, Bool, true, false, cond, not, if◌then◌else◌, ◌==◌, List, [], ◌∷◌, Option, None, Some, Ok, refl, ap, sym, subst, ◌∙◌, arith}
use Rattle.std.specs.List.{cons_option}
use Rattle.std.specs.Prelude.{Contains, filter_map}
use Rattle.std.specs.FinMap.Entries.{find, is_sorted, where_key}
use Rattle.std.specs.Ordering.{nat_cmp}
use Rattle.pv_model.specs.declared.call.Call.{Call}
use Rattle.pv_model.specs.declared.call.Call.TheVariants.{Execve, Fork, Wait}
use Rattle.pv_model.specs.declared.follow.Follow.{Follow}
use Rattle.pv_model.specs.declared.judgement.Judgement.{Judgement}
use Rattle.pv_model.specs.declared.judgement.Judgement.TheVariants.{Allowed, Hidden, Denied}
use Rattle.pv_model.specs.declared.open_flags.Mode.{Mode}
use Rattle.pv_model.specs.declared.open_flags.OpenFlags.{OpenFlags}
use Rattle.pv_model.specs.declared.perms.Perms.{Perms}
use Rattle.pv_model.specs.declared.place.Place.{Place}
use Rattle.pv_model.specs.Machine.{Attempt, ◌>>=◌, ◌>>◌, Bytes, with_content, open_file_for, with_open_file, child, with_program, Effect, Reply, returns, returns_bytes, ends, waits, walk_from, judgement_or_refusal, judge_for, node_of, name_of, descriptor_at, open_file, with_file, needs, needs_cpath, permissions_of_open, at_number, with_number, without_number, permission_r, permission_c, OpenFile, Descriptor, Program, Process, ended_record, State, writes, process_at, with_process, with_tree, descriptor_of, flags_of, IsAllowed, Node, file_node, entries_of, new_number, with_new_node, with_entry, without_entry, judgement, resolve, Walk, is_unveil}
use Rattle.pv_model.specs.Calls.Descriptors.{if_mode}
use Rattle.pv_model.specs.Touch.{HasDescriptor}
use Rattle.pv_laws_states.specs.States.{is_call, IsValid}
use Rattle.pv_laws_states.proofs.AttemptValues.{Leads, leads-after_walks, leads-walk}
use Rattle.pv_laws_states.proofs.ChangedStates.{IsFinePlace}
use Rattle.pv_laws_access.specs.Growth.{HasNoMoreRights}
use Rattle.pv_laws_access.specs.Justice.{changes_bytes}

-- a reply after which the process continues
abbrev pub continues : Reply → Bool
continues (returns n) = true
continues (returns_bytes n bytes) = true
continues (ends status) = false
continues waits = false

-- a call changes bytes by its own descriptor for a file that is open for writing
abbrev pub WritesBy : State → Process → Call → ℕ → Type 0
WritesBy s me call f = (changes_bytes call ≡ true) × HasDescriptor s me call writes f

module _ (s : State) (pid : ℕ) (me : Process) (call : Call) where
  -- in a valid state, the place is valid
  abbrev pub IsFine : Place → Type 0
  IsFine place = IsValid s → process_at s pid ≡ Some me → is_call call ≡ true → IsFinePlace s.tree place

  -- a place of the call's walks that has a name, and that the table allows changing
  pub record MayChange (place : Place) (p : ℕ × Bytes) : Type 0 where
    pub allowed : IsAllowed s me call permission_c place
    pub name : name_of place ≡ Some p
    pub fine : IsFine place
    pub need : needs call ≡ needs_cpath

  -- the open file is that of the call's own descriptor
  abbrev pub IsOwnFile : ℕ → OpenFile → Type 0
  IsOwnFile k file = (d : ℤ) × (descriptor_of call ≡ Some d) × (open_file s me d ≡ Some (k, file))

  pub data HasEffect : State → Reply → Type 0 where
    -- nothing changes, or the process ends; or a wait waits
    stays : (r : Reply) → (r ≡ waits → call ≡ Wait) → HasEffect s r
    -- the process narrows its restraints, or changes its directory
    restrains : (q : Process) (r : Reply) → HasNoMoreRights me q → q.descriptors ≡ me.descriptors → q.parent ≡ me.parent → (is_unveil call ≡ false → (q.table ≡ me.table) × (q.locked ≡ me.locked)) → continues r ≡ true
        → HasEffect (with_process s pid q) r
    begins : (path : Bytes) (program : Program) → call ≡ Execve path → HasEffect (with_process s pid (with_program s pid me program)) (returns 0)
    -- a descriptor is removed, or one for the same open file is added
    closes : (d : ℕ) → HasEffect (with_process s pid (record me { descriptors = without_number me.descriptors d })) (returns 0)
    copies : (d : ℤ) (x : Descriptor) (n : ℕ) → descriptor_at me d ≡ Some x
        → HasEffect (with_process s pid (record me { descriptors = with_number me.descriptors n (record { file = x.file; close_on_exec = false }) })) (returns n)
    forks : call ≡ Fork → HasEffect (record (with_process s (suc s.last_process) (child s pid me)) { last_process = suc s.last_process }) (returns (suc s.last_process))
    -- the record of an ended process is removed
    reaps : (k : ℕ) (r : Reply) → (is_sorted nat_cmp s.processes ≡ true → (parent : ℕ) × (status : ℕ) × (find nat_cmp k s.processes ≡ Some (ended_record parent status)))
        → continues r ≡ true → HasEffect (record s { processes = where_key nat_cmp (λ other. not (other == k)) s.processes }) r
    -- an open file has another position
    moves : (k : ℕ) (old new : OpenFile) (r : Reply) → at_number s.files k ≡ Some old → new.node ≡ old.node → new.mode ≡ old.mode → IsOwnFile k old → continues r ≡ true → HasEffect (with_file s k new) r
    -- the bytes of a file are replaced
    cuts : (f : ℕ) (bytes : Bytes) → WritesBy s me call f → HasEffect (with_tree s (with_content s.tree f bytes)) (returns 0)
    writes_bytes : (f : ℕ) (bytes : Bytes) (k : ℕ) (old new : OpenFile) (n : ℕ) → WritesBy s me call f → at_number s.files k ≡ Some old → new.node ≡ old.node → new.mode ≡ old.mode → IsOwnFile k old
        → HasEffect (with_file (with_tree s (with_content s.tree f bytes)) k new) (returns n)
    -- an entry is added, removed, or moved
    makes : (place : Place) (p : ℕ × Bytes) (node : Node) → MayChange place p → node_of place ≡ None → entries_of (Some node) ≡ []
        → HasEffect (with_tree s (with_new_node s.tree p.0 p.1 node)) (returns 0)
    links : (place : Place) (p : ℕ × Bytes) (old : Place) (n : ℕ) → MayChange place p → IsAllowed s me call permission_r old → node_of old ≡ Some n → IsFine old
        → HasEffect (with_tree s (with_entry s.tree p.0 p.1 n)) (returns 0)
    unlinks : (place : Place) (p : ℕ × Bytes) → MayChange place p → HasEffect (with_tree s (without_entry s.tree p.0 p.1)) (returns 0)
    renames : (place : Place) (p : ℕ × Bytes) (there : Place) (q : ℕ × Bytes) (n : ℕ) → MayChange place p → MayChange there q → node_of place ≡ Some n
        → HasEffect (with_tree s (with_entry (without_entry s.tree p.0 p.1) q.0 q.1 n)) (returns 0)
    -- a file or a directory is opened, or a file is created and opened
    opens : (flags : OpenFlags) (place : Place) (n m : ℕ) → flags_of call ≡ Some flags → IsAllowed s me call (permissions_of_open flags) place → node_of place ≡ Some n → IsFine place
        → (flags.truncate ≡ true → writes flags.mode ≡ true)
        → HasEffect (with_open_file s pid me flags n (if flags.truncate then with_content s.tree n [] else s.tree)) (returns m)
    creates : (flags : OpenFlags) (place : Place) (p : ℕ × Bytes) (m : ℕ) → flags_of call ≡ Some flags → IsAllowed s me call (permissions_of_open flags) place → flags.create ≡ true
        → name_of place ≡ Some p → node_of place ≡ None → IsFine place
        → HasEffect (with_open_file s pid me flags (new_number s.tree) (with_new_node s.tree p.0 p.1 (file_node false []))) (returns m)

  abbrev pub Did : Effect → Type 0
  Did (after, r) = HasEffect after r

  -- a call that ends its process leaves the rest to the end of processes
  pub ends-stays : (after : State) (r : Reply) (status : ℕ) → HasEffect after r → r ≡ ends status → after ≡ s
  ends-stays _ _ status (stays r waiting) is = refl
  ends-stays _ _ status (restrains q r no_more same parent table goes) is = let on = ap continues is in cc
  ends-stays _ _ status (begins path program new) is = cc
  ends-stays _ _ status (closes d) is = cc
  ends-stays _ _ status (copies d x n found) is = cc
  ends-stays _ _ status (forks new) is = cc
  ends-stays _ _ status (reaps k r gone goes) is = let on = ap continues is in cc
  ends-stays _ _ status (moves k old new r found node mode named goes) is = let on = ap continues is in cc
  ends-stays _ _ status (cuts f bytes has) is = cc
  ends-stays _ _ status (writes_bytes f bytes k old new n has found node mode named) is = cc
  ends-stays _ _ status (makes place p node change free bare) is = cc
  ends-stays _ _ status (links place p old n change from_old node fine) is = cc
  ends-stays _ _ status (unlinks place p change) is = cc
  ends-stays _ _ status (renames place p there q n from into node) is = cc
  ends-stays _ _ status (opens flags place n m flagged allowed found fine written) is = cc
  ends-stays _ _ status (creates flags place p m flagged allowed create named free fine) is = cc

-- ---- places of walks

pub first-place : (g : Walk → Option Place) (w : Walk) (ws : List Walk) (place : Place) → g w ≡ Some place → Contains (filter_map g (w ∷ ws)) place
first-place g w ws place is = subst (λ o. Contains (cons_option o (filter_map g ws)) place) (sym is) (0, omega arith, refl)

pub second-place : (g : Walk → Option Place) (w v : Walk) (ws : List Walk) (first place : Place) → g w ≡ Some first → g v ≡ Some place → Contains (filter_map g (w ∷ v ∷ ws)) place
second-place g w v ws first place before is =
    subst (λ o. Contains (cons_option o (filter_map g (v ∷ ws))) place) (sym before)
    (subst (λ o. Contains (cons_option (Some first) (cons_option o (filter_map g ws))) place) (sym is) (1, omega arith, refl))

-- the decision that lets a call continue
pub leads-judged : {A : Type 0} (P : A → Type 0) (s : State) (me : Process) (start : ℕ) (follow : Follow) (path : Bytes) (needed : Perms) (next : Place → Attempt A)
    → ((place : Place) → resolve s.tree follow start path ≡ Ok place → judgement s.tree me.table place needed ≡ Allowed → Leads P (next place))
    → Leads P (walk_from s start follow path >>= (λ place. judge_for s me place needed >> next place))
leads-judged P s me start follow path needed next is =
    leads-walk P s start follow path (λ place. judge_for s me place needed >> next place) (λ place found. by place (judgement s.tree me.table place needed) (λ allowed. is place found allowed))
  where
    by : (place : Place) (j : Judgement) → (j ≡ Allowed → Leads P (next place)) → Leads P (judgement_or_refusal j >> next place)
    by place Allowed go = leads-after_walks P 0 (next place) (go refl)
    by place Hidden go = tt
    by place (Denied k) go = tt

-- an open file whose mode passes
pub open_file_for-is : (s : State) (pid : ℕ) (me : Process) (test : Mode → Bool) (d : ℤ) (k : ℕ) (f : OpenFile) → open_file_for s pid me test d ≡ Some (k, f)
    → (open_file s me d ≡ Some (k, f)) × (test f.mode ≡ true)
open_file_for-is s pid me test d k f is = by (open_file s me d) refl is
  where
    by : (o : Option (ℕ × OpenFile)) → open_file s me d ≡ o → if_mode test o ≡ Some (k, f) → (open_file s me d ≡ Some (k, f)) × (test f.mode ≡ true)
    by None there is = cc
    by (Some (j, g)) there is =
        elim (test g.mode) as (λ b. test g.mode ≡ b → ◌≡◌ {A = Option (ℕ × OpenFile)} (cond b (Some (j, g)) None) (Some (k, f)) → (open_file s me d ≡ Some (k, f)) × (test f.mode ≡ true)) [
          | true ↦ λ passes some.
              let pair : ◌≡◌ {A = ℕ × OpenFile} (j, g) (k, f) = cc some in
              (there ∙ some, ap (λ (p : ℕ × OpenFile). test p.1.mode) (sym pair) ∙ passes)
          | false ↦ λ fails none. cc
        ] refl is

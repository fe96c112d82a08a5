-- Changes of one process that change no count of users or references.
use Rattle.std.proofs.Common.{◌≡◌, ℕ, zero, suc, ◌+◌, ◌-◌, pos, Bool, true, false, [], ◌∷◌, Option, None, Some, refl, ap, ap₂, sym, subst, ◌∙◌}
use Rattle.std.specs.Prelude.{◌+ℤ◌, slice_get, slice_index, option_map, is_some}
use Rattle.std.specs.FinMap.Entries.{is_sorted}
use Rattle.std.specs.Ordering.{nat_cmp}
use Rattle.pv_calls_state.specs.Counts.{state_of, times, held_in, open_nodes, IsCountedUp}
use Rattle.pv_files.specs.Counted.{Counted, counted_with_file}
use Rattle.pv_laws_states.proofs.ProcessInsides.{SameHolds, holds-put, used-same}
use Rattle.pv_model.specs.declared.instruction.Instruction.{Instruction}
use Rattle.pv_model.specs.declared.instruction.Instruction.TheVariants as Line
use Rattle.pv_model.specs.Machine.{at_next_line, with_front, held_by_process, held_by_table, Numbered, at_number, with_number, Next, inside, calls_for, perform, next_by, next, jump_if, OpenFile, Process, State, process_at, with_process as with_process_at}
use Rattle.pv_model.specs.Program.{at_line, with_register, register, clamp}
use Rattle.pv_calls_state.specs.Changes.{IsRegistered, MovesInside, PassesInside}
use Rattle.pv_procs.specs.declared.processes.Fetched.{Fetched}
use Rattle.pv_procs.specs.declared.processes.Fetched.TheVariants.{Gone, Register, Call}
use Rattle.pv_procs.specs.Turns.{Moves, PassesIn, Registered}
use Rattle.pv_procs.specs.ProcessTable.{ProcessTable, process_in, table_with_process, updated_live, updated_table}
use Rattle.pv_procs.specs.Parts.{record_of, with_record}
use Rattle.pv_procs.specs.declared.record.ProcessRecord.{ProcessRecord}
use Rattle.pv_procs.specs.OfScript.Passing.{Passes}
use Rattle.pv_procs.specs.OfTree.Holding.{HeldTree}

module _ (tree : HeldTree) (c : Counted) (ps : ProcessTable) (up : IsCountedUp tree c ps) (sorted : is_sorted nat_cmp ps.processes ≡ true) (pid : ℕ) where
  -- a live process is replaced by one with the same open files and references
  pub counted-with : (p q : Process) → process_in ps pid ≡ Some p → SameHolds p q → IsCountedUp tree c (table_with_process ps pid q)
  counted-with p q at same =
      let s = state_of tree c ps in
      record {
        users = λ k. up.users k ∙ ap (times k) (sym (used-same s pid p q sorted at same));
        holds = λ n.
            up.holds n
            ∙ ap (λ ns. times n ns + times n (open_nodes c.files))
            (sym (holds-put held_by_process s pid p q sorted at (ap₂ (λ d t. d ∷ held_by_table t) same.directory same.table)));
      }

  -- a change of a live process that affects neither its open files nor its references
  pub counted-updated_table : (f : Process → Process) → ((p : Process) → process_in ps pid ≡ Some p → SameHolds p (f p)) → IsCountedUp tree c (updated_table ps pid f)
  counted-updated_table f same = by (process_in ps pid) refl
    where
      by : (o : Option Process) → process_in ps pid ≡ o → IsCountedUp tree c (updated_live ps pid f o)
      by None at = up
      by (Some p) at = counted-with p (f p) at (same p at)

-- a changed record with the same open files and references
pub same-record : (p : Process) (r : ProcessRecord) → r.directory ≡ p.directory → r.unveiled.table ≡ p.table → r.descriptors ≡ p.descriptors → SameHolds p (with_record p r)
same-record p r directory table descriptors = record { directory = directory; table = table; descriptors = descriptors; parent = refl }

pub some-at : {X : Type 0} (o : Option X) → is_some o ≡ true → (x : X) × (o ≡ Some x)
some-at None is = cc
some-at (Some x) is = (x, refl)

-- a borrowed record is the record of its process
pub lent-is : (o : Option Process) (p : Process) (r : ProcessRecord) → option_map record_of o ≡ Some r → o ≡ Some p → r ≡ record_of p
lent-is o p r lent at = let mine : option_map record_of o ≡ Some (record_of p) = ap (option_map record_of) at in cc

-- ---- instructions

-- if the next instruction stays inside the process, the references stay the same
abbrev HoldsNext : Process → Next → Type 0
HoldsNext p (inside q) = SameHolds p q
HoldsNext p (calls_for call) = p ≡ p

stays : (p : Process) (q : Process) → q.directory ≡ p.directory → q.table ≡ p.table → q.descriptors ≡ p.descriptors → q.parent ≡ p.parent → SameHolds p q
stays p q directory table descriptors parent = record { directory = directory; table = table; descriptors = descriptors; parent = parent }

jumps : (b : Bool) (p : Process) (line : ℕ) → SameHolds p (jump_if b p line)
jumps true p line = stays p (at_line p line) refl refl refl refl
jumps false p line = stays p (at_next_line p) refl refl refl refl

performs : (p : Process) (i : Instruction) → HoldsNext p (perform p i)
unfolding perform
performs p (Line.Set r n) = stays p (at_next_line (with_register p r n)) refl refl refl refl
performs p (Line.Add r n) = stays p (at_next_line (with_register p r (clamp (register p r +ℤ n)))) refl refl refl refl
performs p (Line.Put bytes) = stays p (at_next_line (with_front bytes p)) refl refl refl refl
performs p (Line.Peek r k) = stays p (at_next_line (with_register p r (pos (slice_index p.buffer k)))) refl refl refl refl
performs p (Line.Jump line) = stays p (at_line p line) refl refl refl refl
performs p (Line.JumpIfZero r line) = jumps _ p line
performs p (Line.JumpIfNotZero r line) = jumps _ p line
performs p (Line.JumpIfNegative r line) = jumps _ p line
performs p Line.Fork = refl
performs p Line.Wait = refl
performs p Line.GetPid = refl
performs p Line.GetPpid = refl
performs p (Line.Exit code) = refl
performs p (Line.Close d) = refl
performs p (Line.Dup d) = refl
performs p (Line.Fstat d) = refl
performs p (Line.Getdents d) = refl
performs p (Line.Fchdir d) = refl
performs p (Line.Dup2 d e) = refl
performs p (Line.Read d n) = refl
performs p (Line.Write d n) = refl
performs p (Line.Ftruncate d n) = refl
performs p (Line.Lseek d by whence) = refl
performs p (Line.Pledge promises execpromises) = refl
performs p (Line.Unveil path permissions) = refl
performs p (Line.Execve path) = refl
performs p (Line.Chdir path) = refl
performs p (Line.Stat path) = refl
performs p (Line.Lstat path) = refl
performs p (Line.Readlink path) = refl
performs p (Line.Unlink path) = refl
performs p (Line.Mkdir path) = refl
performs p (Line.Rmdir path) = refl
performs p (Line.Open path flags) = refl
performs p (Line.OpenAt origin path flags) = refl
performs p (Line.Rename path new) = refl
performs p (Line.Link path new) = refl
performs p (Line.Symlink text path) = refl

-- an instruction inside a process changes neither its open files nor its references
pub inside-same : (p q : Process) → next p ≡ inside q → SameHolds p q
inside-same p q is = subst (HoldsNext p) is (by (slice_get p.program (p.line - 1)))
  where
    by : (o : Option Instruction) → HoldsNext p (next_by p o)
    by None = refl
    by (Some i) = performs p i

both-same : (p mid q : Process) → SameHolds p mid → SameHolds mid q → SameHolds p q
both-same p mid q one two =
    stays p q (two.directory ∙ one.directory) (two.table ∙ one.table) (two.descriptors ∙ one.descriptors) (two.parent ∙ one.parent)

-- the same for several instructions
pub passes-same : (n : ℕ) (p q : Process) → Passes n p q → SameHolds p q
passes-same zero p q same = subst (SameHolds p) (sym same) (stays p p refl refl refl refl)
passes-same (suc n) p q made = both-same p made.0 q (passes-same n p made.0 made.1) (inside-same made.0 q made.2)

-- ---- a process that changes by its instructions

module _ (tree : HeldTree) (c : Counted) (ps qs : ProcessTable) (pid : ℕ) where
  -- the counts stay right
  counted-moved : (by : Process → Process → Type 0) → ((p q : Process) → by p q → SameHolds p q) → IsCountedUp tree c ps → is_sorted nat_cmp ps.processes ≡ true
      → Moves by pid ps qs → IsCountedUp tree c qs
  counted-moved by same up sorted made =
      subst (IsCountedUp tree c) (sym made.only) (counted-with tree c ps up sorted pid made.me made.after made.lives (same made.me made.after made.step))

  -- the change as a change of the state
  moved-is : (by : Process → Process → Type 0) (s : State) → state_of tree c ps ≡ s → Moves by pid ps qs → MovesInside by s pid (state_of tree c qs)
  moved-is by s seen made = record {
    me = made.me;
    lives = sym (ap (λ (t : State). process_at t pid) seen) ∙ made.lives;
    after = made.after;
    step = made.step;
    only = ap (state_of tree c) made.only ∙ ap (λ (t : State). with_process_at t pid made.after) seen;
  }

  -- the next instruction was carried out
  pub counted-registered : (step_or_fetch : Fetched) → IsCountedUp tree c ps → is_sorted nat_cmp ps.processes ≡ true → Registered step_or_fetch pid ps qs → IsCountedUp tree c qs
  counted-registered Gone up sorted same = subst (IsCountedUp tree c) (sym same.1) up
  counted-registered Register up sorted made = counted-moved (λ me after. next me ≡ inside after) inside-same up sorted made
  counted-registered (Call call) up sorted same = subst (IsCountedUp tree c) (sym same.1) up

  pub registered-is : (s : State) (step_or_fetch : Fetched) → state_of tree c ps ≡ s → Registered step_or_fetch pid ps qs → IsRegistered step_or_fetch pid s (state_of tree c qs)
  registered-is s Gone seen same =
      (sym (ap (λ (t : State). process_at t pid) seen) ∙ same.0, ap (state_of tree c) same.1 ∙ seen)
  registered-is s Register seen made = moved-is (λ me after. next me ≡ inside after) s seen made
  registered-is s (Call call) seen same =
      ((same.0.0, sym (ap (λ (t : State). process_at t pid) seen) ∙ same.0.1, same.0.2), ap (state_of tree c) same.1 ∙ seen)

  -- several instructions were carried out in sequence
  pub counted-passed : (n : ℕ) → IsCountedUp tree c ps → is_sorted nat_cmp ps.processes ≡ true → PassesIn n pid ps qs → IsCountedUp tree c qs
  counted-passed zero up sorted same = subst (IsCountedUp tree c) (sym same) up
  counted-passed (suc n) up sorted made = counted-moved (Passes (suc n)) (passes-same (suc n)) up sorted made

  pub passed-is : (s : State) (n : ℕ) → state_of tree c ps ≡ s → PassesIn n pid ps qs → PassesInside n pid s (state_of tree c qs)
  passed-is s zero seen same = ap (state_of tree c) same ∙ seen
  passed-is s (suc n) seen made = moved-is (Passes (suc n)) s seen made

-- ---- open files

nodes-same : (files : Numbered OpenFile) (k : ℕ) (f g : OpenFile) → at_number files k ≡ Some f → g.node ≡ f.node → open_nodes (with_number files k g) ≡ open_nodes files
nodes-same [] k f g at same = cc
nodes-same (None ∷ files) zero f g at same = cc
nodes-same (Some h ∷ files) zero f g at same = let was : h ≡ f = cc at in ap (λ n. n ∷ open_nodes files) (same ∙ ap (λ x. x.node) (sym was))
nodes-same (None ∷ files) (suc k) f g at same = nodes-same files k f g at same
nodes-same (Some h ∷ files) (suc k) f g at same = ap (λ ns. h.node ∷ ns) (nodes-same files k f g at same)

-- an open file is replaced by one on the same node
pub counted-file : (tree : HeldTree) (c : Counted) (ps : ProcessTable) → IsCountedUp tree c ps → (k : ℕ) (f g : OpenFile) → at_number c.files k ≡ Some f → g.node ≡ f.node
    → IsCountedUp tree (counted_with_file c k g) ps
counted-file tree c ps up k f g at same = record {
  users = up.users;
  holds = λ n. up.holds n ∙ ap (λ ns. times n (held_in ps.processes) + times n ns) (sym (nodes-same c.files k f g at same));
}

-- the same for a change of an open file
pub counted-changed : (tree : HeldTree) (c new : Counted) (ps : ProcessTable) → IsCountedUp tree c ps → (k : ℕ) (change : OpenFile → OpenFile) → ((f : OpenFile) → (change f).node ≡ f.node)
    → option_map (λ f. counted_with_file c k (change f)) (at_number c.files k) ≡ Some new → IsCountedUp tree new ps
counted-changed tree c new ps up k change same is = by (at_number c.files k) refl is
  where
    by : (o : Option OpenFile) → at_number c.files k ≡ o → option_map (λ f. counted_with_file c k (change f)) o ≡ Some new → IsCountedUp tree new ps
    by None at is = cc
    by (Some f) at is = let eq : counted_with_file c k (change f) ≡ new = cc is in subst (λ x. IsCountedUp tree x ps) eq (counted-file tree c ps up k f (change f) at (same f))

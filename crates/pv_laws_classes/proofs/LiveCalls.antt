-- The effects of calls in two states whose callers agree in live variables, except for the result.
use Rattle.std.proofs.Common.{◌≡◌, ◌≢◌, ℕ, suc, ◌≤◌, ℤ, pos, negsuc, Bool, true, false, nat_le, List, take, Option, None, Some, refl, sym, subst, ap, if◌then◌else◌}
use Rattle.std.specs.FinMap.Entries.{put, where_key, is_sorted}
use Rattle.std.specs.Ordering.{nat_cmp}
use Rattle.std.proofs.lemmas.Bool.{leb-true}
use Rattle.pv_model.specs.declared.call.Call.{Call}
use Rattle.pv_model.specs.declared.call.Call.TheVariants as TheCall
use Rattle.pv_model.specs.declared.limits.TheConstants.{BUFFER}
use Rattle.pv_model.specs.Machine.{effect, Attempt, Bytes, child, statuses, with_program, Effect, returns, Numbered, OpenFile, Program, Process, live, ProcessRecord, State, with_process, Tree, collect, within}
use Rattle.pv_model.specs.State.{no_registers, no_bytes}
use Rattle.pv_laws_states.proofs.ValidEnds.{sorted-filtered}
use Rattle.pv_laws_states.proofs.ValidStates.{sorted-put_number}
use Rattle.pv_laws_classes.specs.Liveness.{Live, with_values, AgreeOnLive, SameExceptValues}
use Rattle.pv_laws_states.proofs.RelatedAttempts.{AreBoth, both-kept, both-done, both-room}
use Rattle.pv_laws_states.proofs.RelatedCalls.{RespectsOwn, call-both}
use Rattle.pv_laws_states.proofs.RespectedParts.{OthersRespect, pledge-both, unveil-both, execve-both, walked-same, others-own, others-respect}
use Rattle.pv_laws_classes.proofs.LiveLists.{length-same, children-same, where-same, put-live}
use Rattle.pv_laws_classes.proofs.LiveStates.{Related, tree-related, collect-related}
use Rattle.pv_laws_classes.proofs.LiveValues.{Agrees, AwaitResult, result-agrees}

-- the caller agrees except for the result, and the other processes agree
abbrev pub Awaits : Live → ℕ → ℕ → Process → List ℤ → Bytes → Type 0
Awaits is_live pid n p rs bs = AwaitResult is_live p rs bs × (n ≢ pid → AgreeOnLive is_live p rs bs)

pub await-agree : (is_live : Live) (p : Process) (rs : List ℤ) (bs : Bytes) → AgreeOnLive is_live p rs bs → AwaitResult is_live p rs bs
await-agree is_live p rs bs is = record { registers_count = is.registers_count; buffer_length = is.buffer_length; values = λ v live other. is.values v live }

pub awaits-all : (is_live : Live) (pid n : ℕ) (p : Process) (rs : List ℤ) (bs : Bytes) → AgreeOnLive is_live p rs bs → Awaits is_live pid n p rs bs
awaits-all is_live pid n p rs bs is = (await-agree is_live p rs bs is, λ other. is)

module _ (is_live : Live) (s : State) (pid : ℕ) (me : Process) (rs : List ℤ) (bs : Bytes) (ps : List (ℕ × ProcessRecord)) (sorted : is_sorted nat_cmp s.processes ≡ true) (each : SameExceptValues (Awaits is_live pid) s.processes ps)
    (mine : AwaitResult is_live me rs bs) where
  abbrev u : State
  u = record s { processes = ps }

  abbrev you : Process
  you = with_values rs bs me

  abbrev R : ℕ → Process → List ℤ → Bytes → Type 0
  R = Awaits is_live pid

  abbrev B : Attempt Effect → Attempt Effect → Type 0
  B = AreBoth (Related R)

  left-both : (t : Tree) (fs : Numbered OpenFile) → Related R (record s { tree = t; files = fs }) (record u { tree = t; files = fs })
  left-both t fs = record { processes = ps; same = refl; sorted = sorted; each = each }

  abbrev Private : Type 0
  Private = Program × ℕ × List ℤ × Bytes

  own-both : (t : Tree) (fs : Numbered OpenFile) (q : Process) → ◌≡◌ {A = Private} (q.program, q.line, q.registers, q.buffer) (me.program, me.line, me.registers, me.buffer)
      → Related R (record s { tree = t; files = fs; processes = put nat_cmp pid (live q) s.processes }) (record u { tree = t; files = fs; processes = put nat_cmp pid (live (with_values rs bs q)) ps })
  own-both t fs q same = record {
    processes = put nat_cmp pid (live (with_values rs bs q)) ps;
    same = refl;
    sorted = sorted-put_number pid (live q) s.processes sorted;
    each = put-live R R pid (λ n p rs bs other is. is) q rs bs
        (subst (λ (x : Private). Agrees Rattle.pv_laws_classes.specs.Liveness.is_result is_live x.0 x.1 x.2 x.3 rs bs) (sym same) mine, λ other. absurd (other refl)) s.processes ps sorted each;
  }

  -- ---- fork, wait, execve

  abbrev number : ℕ
  number = suc s.last_process

  abbrev forked : State → Process → State
  forked x p = record (with_process x number (child x pid p)) { last_process = number }

  child-agrees : AgreeOnLive is_live (child s pid me) (child s pid you).registers bs
  child-agrees = let is = result-agrees is_live me rs bs mine (pos 0) (pos 0) in record { registers_count = is.registers_count; buffer_length = is.buffer_length; values = is.values }

  forked-both : Related R (forked s me) (forked u you)
  forked-both = record {
    processes = put nat_cmp number (live (child u pid you)) ps;
    same = refl;
    sorted = sorted-put_number number (live (child s pid me)) s.processes sorted;
    each = put-live R R number (λ n p rs bs other is. is) (child s pid me) (child s pid you).registers bs (awaits-all is_live pid number (child s pid me) (child s pid you).registers bs child-agrees) s.processes ps sorted each;
  }

  reaped : (test : ℕ → Bool) → Related R (record s { processes = where_key nat_cmp test s.processes }) (record u { processes = where_key nat_cmp test ps })
  reaped test = record { processes = where_key nat_cmp test ps; same = refl; sorted = sorted-filtered (λ r. test r.0) s.processes sorted; each = where-same R test s.processes ps each }

  begun : (program : Program) → Related R (with_process s pid (with_program s pid me program)) (with_process u pid (with_program u pid you program))
  begun program = record {
    processes = put nat_cmp pid (live (with_program s pid me program)) ps;
    same = refl;
    sorted = sorted-put_number pid (live (with_program s pid me program)) s.processes sorted;
    each = put-live R R pid (λ n p rs bs other is. is) (with_program s pid me program) no_registers no_bytes
        (awaits-all is_live pid pid (with_program s pid me program) no_registers no_bytes (record { registers_count = refl; buffer_length = refl; values = λ v live. refl })) s.processes ps sorted each;
  }

  respects : OthersRespect B (Related R) s ps pid me you
  respects =
      let kids = children-same R pid s.processes ps each in
      record {
        all = both-kept (Related R);
        does = both-done (Related R);
        same = record { directory = refl; descriptors = refl; table = refl; locked = refl; parent = refl };
        left = left-both;
        count = length-same R s.processes ps each;
        forks = forked-both;
        childless = kids.1;
        statuses = kids.0;
        reaps = reaped;
        enters = λ n. own-both s.tree s.files (record me { directory = n }) refl;
        holds = λ t fs ds. own-both t fs (record me { descriptors = ds }) refl;
      }

  -- ---- all calls

  -- a write has the same bytes
  abbrev pub WritesAlike : Call → Type 0
  WritesAlike (TheCall.Write d n) = (k : ℕ) → n ≡ pos k → k ≤ BUFFER → take k bs ≡ take k me.buffer
  WritesAlike call = Unit {0}

  -- a count of bytes that fits in the buffer
  within-is : (n : ℤ) (count : ℕ) → within BUFFER n ≡ Some count → (n ≡ pos count) × (count ≤ BUFFER)
  within-is (negsuc m) count is = cc is
  within-is (pos m) count is = by (nat_le m 4096) refl is
    where
      by : (b : Bool) → nat_le m 4096 ≡ b → (if b then Some m else None) ≡ Some count → (pos m ≡ pos count) × (count ≤ 4096)
      by true low is = let same : m ≡ count = cc is in (ap pos same, subst (λ k. k ≤ 4096) same (leb-true m 4096 low))
      by false low is = cc is

  module _ (program_of : Bytes → Option Program) (call : Call) (w : WritesAlike call) where
    own : RespectsOwn (λ ws. B) program_of s u pid me you call
    own =
        others-own B (Related R) s ps pid me you respects program_of call
        (λ promises execpromises is. pledge-both B respects.all s u pid me you refl refl
        (λ a b. both-done (Related R) 0 (returns 0) _ _ (own-both s.tree s.files (record me { promises = a; execpromises = b }) refl)) promises execpromises)
        (λ path permissions is. unveil-both B respects.all s u pid me you refl refl (λ path. refl) (λ place. refl)
        (both-done (Related R) 0 (returns 0) _ _ (own-both s.tree s.files (record me { locked = true }) refl))
        (λ table. both-done (Related R) 0 (returns 0) _ _ (own-both s.tree s.files (record me { table = Some table }) refl)) path permissions)
        (λ path is. execve-both B respects.all s u pid me you program_of (walked-same B (Related R) s ps pid me you respects) (λ n. refl) (λ program. both-done (Related R) 0 (returns 0) _ _ (begun program)) path)

    takes : (d n : ℤ) → call ≡ TheCall.Write d n → (count : ℕ) → within BUFFER n ≡ Some count → take count bs ≡ take count me.buffer
    takes d n is count few = let both = within-is n count few in subst WritesAlike is w count both.0 both.1

    pub calls-both : B (effect program_of s pid me call) (effect program_of u pid you call)
    calls-both =
        call-both (λ ws. B) program_of s u pid me you call
        (others-respect B (Related R) s ps pid me you respects program_of call (both-room (Related R) (λ x y is. tree-related R (collect x) (collect y) (collect-related R x y is))) own takes)

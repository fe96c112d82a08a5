-- Each call, in two states that differ inside another process.
use Rattle.std.proofs.Common.{◌≢◌, ℕ, suc, Bool, refl, ap}
use Rattle.std.specs.FinMap.Entries.{put, where_key}
use Rattle.std.specs.Ordering.{nat_cmp}
use Rattle.pv_model.specs.Machine.{◌>>=◌, child, statuses, answers, with_room, collect, Numbered, OpenFile, Process, live, State, with_process, Tree}
use Rattle.pv_laws_steps.specs.Beside.{with_change}
use Rattle.pv_laws_steps.proofs.ChangedPairs.{AreChangedPair, ChangedPair, after-in_both, done-in_both, refused-in_both, same-room, room-in_both}
use Rattle.pv_laws_steps.proofs.ChangedProcess.{KeepsParent, changed, Fits, put-other, length-changed, where-changed, children-changed, collect-changed}
use Rattle.pv_laws_states.proofs.RespectedParts.{OthersRespect}

-- the change of a process, and the states to which it applies
abbrev pub changes : ℕ → (Process → Process) → State → State
changes k f x = with_change x k f

abbrev pub AreFit : ℕ → (Process → Process) → State → Type 0
AreFit k f x = Fits k f x.processes

pub room-changed : (k : ℕ) (f : Process → Process) (x y : State) (n : ℕ) → AreChangedPair (changes k f) (AreFit k f) x y
    → ChangedPair (changes k f) (AreFit k f) (with_room x >>= (λ roomy. answers roomy n)) (with_room y >>= (λ roomy. answers roomy n))
room-changed k f x y n is =
    room-in_both (changes k f) (AreFit k f) x y n is (same-room (collect x).tree (collect (with_change x k f)).tree (ap (λ (z : State). z.tree) (collect-changed k f x is.fit)))

-- the change applies to the states after calls of process `pid`
pub record CallsLeave (k : ℕ) (f : Process → Process) (s : State) (pid : ℕ) (me : Process) (Fit : State → Type 0) : Type 0 where
  pub left : (t : Tree) (fs : Numbered OpenFile) → Fit (record s { tree = t; files = fs })
  pub own : (t : Tree) (fs : Numbered OpenFile) (q : Process) → Fit (record s { tree = t; files = fs; processes = put nat_cmp pid (live q) s.processes })
  pub forked : Fit (record s { processes = put nat_cmp (suc s.last_process) (live (child s pid me)) s.processes; last_process = suc s.last_process })
  pub reaped : (test : ℕ → Bool) → Fit (record s { processes = where_key nat_cmp test s.processes })

-- the next states differ by the change
module _ (k : ℕ) (f : Process → Process) (keeps : KeepsParent f) (s : State) (pid : ℕ) (me : Process) (other : pid ≢ k) (next_other : suc s.last_process ≢ k) (Fit : State → Type 0) (leave : CallsLeave k f s pid me Fit) where
  put-in_both : (t : Tree) (fs : Numbered OpenFile) (q : Process) → AreChangedPair (changes k f) Fit (with_process (record s { tree = t; files = fs }) pid q) (with_process (record (with_change s k f) { tree = t; files = fs }) pid q)
  put-in_both t fs q = record { same = ap (λ ps. record s { tree = t; files = fs; processes = ps }) (put-other k f pid (live q) s.processes other); fit = leave.own t fs q }

  pub own-in_both : (q : Process) → AreChangedPair (changes k f) Fit (with_process s pid q) (with_process (with_change s k f) pid q)
  own-in_both q = put-in_both s.tree s.files q

  pub leave-in_both : OthersRespect (ChangedPair (changes k f) Fit) (AreChangedPair (changes k f) Fit) s (changed k f s.processes) pid me me
  leave-in_both =
      let kids = children-changed k f keeps pid s.processes in
      record {
        all = record { after = after-in_both (changes k f) Fit; refuses = refused-in_both (changes k f) Fit };
        does = done-in_both (changes k f) Fit;
        same = record { directory = refl; descriptors = refl; table = refl; locked = refl; parent = refl };
        left = λ t fs. record { same = refl; fit = leave.left t fs };
        count = length-changed k f s.processes;
        forks = record {
          same = ap (λ ps. record s { processes = ps; last_process = suc s.last_process }) (put-other k f (suc s.last_process) (live (child s pid me)) s.processes next_other);
          fit = leave.forked;
        };
        childless = kids.1;
        statuses = kids.0;
        reaps = λ test. record { same = ap (λ ps. record s { processes = ps }) (where-changed k f test s.processes); fit = leave.reaped test };
        enters = λ n. own-in_both (record me { directory = n });
        holds = λ t fs ds. put-in_both t fs (record me { descriptors = ds });
      }

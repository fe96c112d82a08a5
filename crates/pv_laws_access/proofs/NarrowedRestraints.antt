-- Promises that are narrowed, and tables whose entries lose permissions.
use Rattle.std.proofs.Common.{◌≡◌, ℕ, zero, suc, ◌+◌, Bool, true, false, cond, not, ◌&&◌, ◌||◌, bit_and, nat_le, nat_lt, List, [], ◌∷◌, ◌++◌, length, slice_get, slice_set, position, Option, None, Some, Result, Ok, Err, refl, ap, sym, subst, ◌∙◌, arith}
use Rattle.std.specs.Prelude.{find}
use Rattle.std.specs.List.{position_or_len}
use Rattle.std.specs.Int.Bits.{and_self}
use Rattle.std.proofs.lemmas.Bool.{and_parts, and_from, eqb-true, eq-eqb}
use Rattle.std.proofs.lemmas.Nat.{and_assoc, and_comm}
use Rattle.pv_model.specs.declared.errno.Errno.TheVariants.{EPERM, E2BIG}
use Rattle.pv_model.specs.declared.outcome.Cause.TheVariants.{Unveil as ByUnveil}
use Rattle.pv_model.specs.declared.perms.Perms.{Perms}
use Rattle.pv_model.specs.declared.promise.Promise.{Promise}
use Rattle.pv_model.specs.declared.promise.Promise.TheVariants.{Stdio, Rpath, Wpath, Cpath, Proc, Exec, Unveil, Error, Dpath, Fattr, Chown, Flock, Unix, Inet, Mcast, Dns, Getpw, Sendfd, Recvfd, Tape, Tty, ProtExec, Settime, Ps, Vminfo, Id, Pf, Route, Wroute, Audio, Video, Bpf}
use Rattle.pv_model.specs.declared.target.Target.{Target}
use Rattle.pv_model.specs.Machine.{refused, give, refuse, unless_refused, entries_of_table, covers, all_promises, Promises, contains, narrow_promises, Process, Table, same_target, entry_for, permissions_at, with_permissions}
use Rattle.pv_model.specs.Calls.Restraints.{add_table_entry}
use Rattle.pv_model.specs.Promise.{promise_bit}
use Rattle.pv_model.specs.Promises.{mask, first_increase, unless_increase}
use Rattle.pv_model.specs.Unveil.{permissions_of}
use Rattle.pv_laws_states.proofs.AttemptValues.{Leads}
use Rattle.pv_laws_trees.proofs.UnveilTargets.{same_target-same}
use Rattle.pv_laws_access.specs.Growth.{GainsNone, IsLesserEntry, KeepsEntries, KeepsTable, HasNoMoreRights, HasSameRights}

-- ---- promises

-- the index of each promise is its number
in_order : (p : Promise) → slice_get all_promises (promise_bit p) ≡ Some p
in_order Stdio = refl
in_order Rpath = refl
in_order Wpath = refl
in_order Cpath = refl
in_order Proc = refl
in_order Exec = refl
in_order Unveil = refl
in_order Error = refl
in_order Dpath = refl
in_order Fattr = refl
in_order Chown = refl
in_order Flock = refl
in_order Unix = refl
in_order Inet = refl
in_order Mcast = refl
in_order Dns = refl
in_order Getpw = refl
in_order Sendfd = refl
in_order Recvfd = refl
in_order Tape = refl
in_order Tty = refl
in_order ProtExec = refl
in_order Settime = refl
in_order Ps = refl
in_order Vminfo = refl
in_order Id = refl
in_order Pf = refl
in_order Route = refl
in_order Wroute = refl
in_order Audio = refl
in_order Video = refl
in_order Bpf = refl

-- if no element is found, all fail the test
find-none : {X : Type 0} (test : X → Bool) (xs : List X) (k : ℕ) (x : X) → find test xs ≡ None → slice_get xs k ≡ Some x → test x ≡ false
find-none test [] k x none at = cc
find-none test (y ∷ ys) k x none at =
    elim (test y) as (λ b. test y ≡ b → cond b (Some y) (find test ys) ≡ None → test x ≡ false) [
      | true ↦ λ is some. cc
      | false ↦ λ is later. by k at is (λ j there. find-none test ys j x later there)
    ] refl none
  where
    by : (k : ℕ) → slice_get (y ∷ ys) k ≡ Some x → test y ≡ false → ((j : ℕ) → slice_get ys j ≡ Some x → test x ≡ false) → test x ≡ false
    by zero at is later = let same : y ≡ x = cc in ap test (sym same) ∙ is
    by (suc k) at is later = later k at

-- a bit of the intersection of two sets is a bit of the second
shared : (a h m : ℕ) → bit_and (bit_and a h) m ≡ m → bit_and h m ≡ m
shared a h m is =
    let twice : bit_and h (bit_and a h) ≡ bit_and a h = ap (bit_and h) (and_comm a h) ∙ sym (and_assoc a h h) ∙ ap (λ x. bit_and x a) (and_self h) ∙ and_comm h a in
    ap (bit_and h) (sym is) ∙ sym (and_assoc m h (bit_and a h)) ∙ ap (λ x. bit_and x m) twice ∙ is

shared-contains : (asked held : Promises) (p : Promise) → contains (bit_and asked held) p ≡ true → contains held p ≡ true
shared-contains asked held p is =
    eq-eqb (bit_and held (mask p)) (mask p) (shared asked held (mask p) (eqb-true (bit_and (bit_and asked held) (mask p)) (mask p) is))

pub gains-self : (o : Option Promises) → GainsNone o o
gains-self None = tt
gains-self (Some held) = λ p is. is

held_of : (a h : Bool) → (a && not h) ≡ false → a ≡ true → h ≡ true
held_of a true none is = refl
held_of true false none is = cc
held_of false false none is = cc

pub narrows : (lenient : Bool) (held asked preserved : Option Promises) → narrow_promises lenient held asked ≡ Ok preserved → GainsNone held preserved
narrows lenient held None preserved is = let same : held ≡ preserved = cc in subst (GainsNone held) same (gains-self held)
narrows lenient None (Some asked) preserved is = tt
narrows lenient (Some held) (Some asked) preserved is =
    elim lenient as (λ b. cond b (Ok (Some (bit_and asked held))) (unless_increase (first_increase held asked) asked) ≡ Ok preserved → GainsNone (Some held) preserved) [
      | true ↦ λ ok. let same : Some (bit_and asked held) ≡ preserved = cc ok in subst (GainsNone (Some held)) same (λ p has. shared-contains asked held p has)
      | false ↦ λ ok. strict (first_increase held asked) refl ok
    ] is
  where
    strict : (o : Option Promise) → first_increase held asked ≡ o → unless_increase o asked ≡ Ok preserved → GainsNone (Some held) preserved
    strict None none ok =
        let same : Some asked ≡ preserved = cc in
        subst (GainsNone (Some held)) same (λ p has. held_of (contains asked p) (contains held p)
        (find-none (λ q. contains asked q && not (contains held q)) all_promises (promise_bit p) p none (in_order p)) has)
    strict (Some p) some ok = cc

-- the value if the promises are not refused
pub leads-unless_refused : (r : Result (Option Promises) Promise) → Leads (λ preserved. r ≡ Ok preserved) (unless_refused r)
leads-unless_refused (Ok preserved) = refl
leads-unless_refused (Err p) = tt

pub gains-along : (a b c : Option Promises) → GainsNone a b → GainsNone b c → GainsNone a c
gains-along None b c ab bc = tt
gains-along (Some x) None c ab bc = absurd ab
gains-along (Some x) (Some y) None ab bc = absurd bc
gains-along (Some x) (Some y) (Some z) ab bc = λ p is. ab p (bc p is)

-- ---- entries

or_itself : (b : Bool) → (b || not b) ≡ true
or_itself true = refl
or_itself false = refl

or_along : (a b c : Bool) → (a || not b) ≡ true → (b || not c) ≡ true → (a || not c) ≡ true
or_along true b c ab bc = refl
or_along false true c ab bc = cc
or_along false false true ab bc = cc
or_along false false false ab bc = refl

pub covers-itself : (a : Perms) → covers a a ≡ true
covers-itself a = and_from _ _ (and_from _ _ (and_from _ _ (or_itself a.r) (or_itself a.w)) (or_itself a.x)) (or_itself a.c)

record Covered (a b : Perms) : Type 0 where
  r : (a.r || not b.r) ≡ true
  w : (a.w || not b.w) ≡ true
  x : (a.x || not b.x) ≡ true
  c : (a.c || not b.c) ≡ true

covered : (a b : Perms) → covers a b ≡ true → Covered a b
covered a b is =
    let last = and_parts ((a.r || not b.r) && (a.w || not b.w) && (a.x || not b.x)) (a.c || not b.c) is in
    let third = and_parts ((a.r || not b.r) && (a.w || not b.w)) (a.x || not b.x) last.0 in
    let second = and_parts (a.r || not b.r) (a.w || not b.w) third.0 in
    record { r = second.0; w = second.1; x = third.1; c = last.1 }

pub covers-along : (a b d : Perms) → covers a b ≡ true → covers b d ≡ true → covers a d ≡ true
covers-along a b d ab bd =
    let p = covered a b ab in
    let q = covered b d bd in
    and_from _ _ (and_from _ _ (and_from _ _ (or_along a.r b.r d.r p.r q.r) (or_along a.w b.w d.w p.w q.w)) (or_along a.x b.x d.x p.x q.x)) (or_along a.c b.c d.c p.c q.c)

lesser-itself : (e : Target × Perms) → IsLesserEntry e (Some e)
lesser-itself e = (refl, covers-itself e.1)

lesser-along : (e : Target × Perms) (f g : Option (Target × Perms)) → IsLesserEntry e f → ((x : Target × Perms) → f ≡ Some x → IsLesserEntry x g) → IsLesserEntry e g
lesser-along e None g ef fg = absurd ef
lesser-along e (Some f) g ef fg = by g (fg f refl)
  where
    by : (g : Option (Target × Perms)) → IsLesserEntry f g → IsLesserEntry e g
    by None less = absurd less
    by (Some x) less = (less.0 ∙ ef.0, covers-along e.1 f.1 x.1 ef.1 less.1)

pub keeps-itself : (table : Table) → KeepsEntries table table
keeps-itself table = record { each = λ k e is. subst (IsLesserEntry e) (sym is) (lesser-itself e) }

pub keeps-along : (a b c : Table) → KeepsEntries a b → KeepsEntries b c → KeepsEntries a c
keeps-along a b c ab bc = record { each = λ k e is. lesser-along e (slice_get b k) (slice_get c k) (ab.each k e is) (λ x there. bc.each k x there) }

pub table-itself : (o : Option Table) → KeepsTable o o
table-itself None = tt
table-itself (Some table) = keeps-itself table

pub table-along : (a b c : Option Table) → KeepsTable a b → KeepsTable b c → KeepsTable a c
table-along None b c ab bc = tt
table-along (Some x) None c ab bc = absurd ab
table-along (Some x) (Some y) None ab bc = absurd bc
table-along (Some x) (Some y) (Some z) ab bc = keeps-along x y z ab bc

-- the first element that passes passes
first_passes : {X : Type 0} (test : X → Bool) (xs : List X) (x : X) → slice_get xs (position_or_len test xs) ≡ Some x → test x ≡ true
first_passes test [] x at = cc
first_passes test (y ∷ ys) x at =
    elim (test y) as (λ b. test y ≡ b → slice_get (y ∷ ys) (cond (not b) (1 + position_or_len test ys) 0) ≡ Some x → test x ≡ true) [
      | true ↦ λ is here. let same : y ≡ x = cc here in ap test (sym same) ∙ is
      | false ↦ λ is later. let next : suc (position_or_len test ys) ≡ 1 + position_or_len test ys = omega arith in first_passes test ys x (ap (slice_get (y ∷ ys)) next ∙ later)
    ] refl at

position-at : {X : Type 0} (test : X → Bool) (xs : List X) (k : ℕ) → position test xs ≡ Some k → position_or_len test xs ≡ k
position-at test xs k is =
    elim (nat_lt (position_or_len test xs) (length xs)) as (λ b. cond b (Some (position_or_len test xs)) None ≡ Some k → position_or_len test xs ≡ k) [
      | true ↦ λ some. cc some
      | false ↦ λ none. cc none
    ] is

-- the entry found for a target has that target
entry-target : (table : Table) (target : Target) (k : ℕ) (e : Target × Perms) → entry_for table target ≡ Some k → slice_get table k ≡ Some e → e.0 ≡ target
entry-target table target k e is at =
    let test : Target × Perms → Bool = λ e. same_target e.0 target in
    same_target-same e.0 target (first_passes test table e (ap (slice_get table) (position-at test table k is) ∙ at))

set-lesser : (table : Table) (k : ℕ) (new : Target × Perms) → ((e : Target × Perms) → slice_get table k ≡ Some e → IsLesserEntry e (Some new))
    → (j : ℕ) (e : Target × Perms) → slice_get table j ≡ Some e → IsLesserEntry e (slice_get (slice_set table k new) j)
set-lesser [] k new less j e at = cc
set-lesser (x ∷ xs) zero new less zero e at = less e at
set-lesser (x ∷ xs) zero new less (suc j) e at = subst (IsLesserEntry e) (sym at) (lesser-itself e)
set-lesser (x ∷ xs) (suc k) new less zero e at = subst (IsLesserEntry e) (sym at) (lesser-itself e)
set-lesser (x ∷ xs) (suc k) new less (suc j) e at = set-lesser xs k new less j e at

append-lesser : (table more : Table) (j : ℕ) (e : Target × Perms) → slice_get table j ≡ Some e → IsLesserEntry e (slice_get (table ++ more) j)
append-lesser [] more j e at = cc
append-lesser (x ∷ xs) more zero e at = subst (IsLesserEntry e) (sym at) (lesser-itself e)
append-lesser (x ∷ xs) more (suc j) e at = append-lesser xs more j e at

-- a new entry, or an entry with fewer permissions
pub leads-add_table_entry : (table : Table) (target : Target) (permissions : Perms) (o : Option ℕ) → entry_for table target ≡ o → Leads (KeepsEntries table) (add_table_entry table target permissions o)
leads-add_table_entry table target permissions (Some k) is =
    elim (covers (permissions_at table k) permissions) as (λ b. covers (permissions_at table k) permissions ≡ b → Leads (KeepsEntries table) (cond b (give (with_permissions table k target permissions)) (refused 0 EPERM (ByUnveil (Some k))))) [
      | true ↦ λ fewer. record { each = set-lesser table k (target, permissions) (λ e at. (sym (entry-target table target k e is at), ap (λ o. covers (permissions_of o) permissions) (sym at) ∙ fewer)) }
      | false ↦ λ more. tt
    ] refl
leads-add_table_entry table target permissions None is =
    elim (nat_le 64 (length table)) as (λ b. Leads (KeepsEntries table) (cond b (refuse E2BIG) (give (table ++ (target, permissions) ∷ [])))) [
      | true ↦ tt
      | false ↦ record { each = append-lesser table ((target, permissions) ∷ []) }
    ]

pub keeps-of_table : (o : Option Table) (table : Table) → KeepsEntries (entries_of_table o) table → KeepsTable o (Some table)
keeps-of_table None table keeps = tt
keeps-of_table (Some old) table keeps = keeps

-- ---- processes

pub no_more-along : (p q r : Process) → HasNoMoreRights p q → HasNoMoreRights q r → HasNoMoreRights p r
no_more-along p q r a b = record {
  promises = gains-along p.promises q.promises r.promises a.promises b.promises;
  execpromises = gains-along p.execpromises q.execpromises r.execpromises a.execpromises b.execpromises;
  table = table-along p.table q.table r.table a.table b.table;
  lock = λ is. b.lock (a.lock is);
  closed = λ is. b.closed (a.lock is) ∙ a.closed is;
}

pub no_more-same : (p q : Process) → q.promises ≡ p.promises → q.execpromises ≡ p.execpromises → q.table ≡ p.table → q.locked ≡ p.locked → HasNoMoreRights p q
no_more-same p q promises execpromises table locked = record {
  promises = subst (GainsNone p.promises) (sym promises) (gains-self p.promises);
  execpromises = subst (GainsNone p.execpromises) (sym execpromises) (gains-self p.execpromises);
  table = subst (KeepsTable p.table) (sym table) (table-itself p.table);
  lock = λ is. locked ∙ is;
  closed = λ is. table;
}

pub no_more-of_same : (p q : Process) → HasSameRights p q → HasNoMoreRights p q
no_more-of_same p q same = no_more-same p q same.promises same.execpromises same.table same.locked

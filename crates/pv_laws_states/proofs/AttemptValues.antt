-- Properties of the value of an attempt that succeeds.
use Rattle.std.proofs.Common.{◌≡◌, ℕ, Bool, true, false, Option, None, Some, Result, Ok, Err, refl}
use Rattle.pv_model.specs.declared.errno.Errno.{Errno}
use Rattle.pv_model.specs.declared.errno.Errno.TheVariants.{EFBIG, ENOSPC}
use Rattle.pv_model.specs.declared.perms.Perms.{Perms}
use Rattle.pv_model.specs.declared.place.Place.{Place}
use Rattle.pv_model.specs.declared.follow.Follow.{Follow}
use Rattle.pv_model.specs.Machine.{Attempt, done, refused, after_walks, ◌>>=◌, ◌>>◌, give, refuse_if, demand, Bytes, place_or_refusal, walk_from, judge_for, with_room, collect, is_too_long, fits, Process, State, resolve}
use Rattle.std.specs.Prelude.{not}

-- the value, if there is one, has a property
abbrev pub Leads : {A : Type 0} → (A → Type 0) → Attempt A → Type 0
Leads P (done walks value) = P value
Leads P (refused walks errno cause) = Unit {0}

module _ {A : Type 0} (P : A → Type 0) where
  pub leads-after_walks : (n : ℕ) (a : Attempt A) → Leads P a → Leads P (after_walks n a)
  leads-after_walks n (done walks value) is = is
  leads-after_walks n (refused walks errno cause) is = tt

  pub leads-bind : {B : Type 0} (Q : B → Type 0) (a : Attempt B) (next : B → Attempt A) → Leads Q a → ((value : B) → Q value → Leads P (next value)) → Leads P (a >>= next)
  leads-bind Q (done walks value) next is then' = leads-after_walks walks (next value) (then' value is)
  leads-bind Q (refused walks errno cause) next is then' = tt

  pub leads-then : {B : Type 0} (a : Attempt B) (next : Attempt A) → Leads P next → Leads P (a >> next)
  leads-then (done walks value) next is = leads-after_walks walks next is
  leads-then (refused walks errno cause) next is = tt

  -- an attempt followed by another
  pub leads-following : {B : Type 0} (Q : Type 0) (a : Attempt B) (next : Attempt A) → Leads (λ _. Q) a → (Q → Leads P next) → Leads P (a >> next)
  leads-following Q (done walks value) next is then' = leads-after_walks walks next (then' is)
  leads-following Q (refused walks errno cause) next is then' = tt

  -- an attempt after a check
  pub leads-refuse_if : (e : Errno) (b : Bool) (next : Attempt A) → (b ≡ false → Leads P next) → Leads P (refuse_if e b >> next)
  leads-refuse_if e true next is = tt
  leads-refuse_if e false next is = leads-after_walks 0 next (is refl)

  pub leads-demand : {B : Type 0} (e : Errno) (o : Option B) (next : B → Attempt A) → ((value : B) → o ≡ Some value → Leads P (next value)) → Leads P (demand e o >>= next)
  leads-demand e None next is = tt
  leads-demand e (Some value) next is = leads-after_walks 0 (next value) (is value refl)

  place_leads : (n : ℕ) (r : Result Place Errno) (next : Place → Attempt A) → ((place : Place) → r ≡ Ok place → Leads P (next place)) → Leads P (place_or_refusal n r >>= next)
  place_leads n (Ok place) next is = leads-after_walks n (next place) (is place refl)
  place_leads n (Err e) next is = tt

  pub leads-walk : (s : State) (start : ℕ) (follow : Follow) (path : Bytes) (next : Place → Attempt A)
      → ((place : Place) → resolve s.tree follow start path ≡ Ok place → Leads P (next place)) → Leads P (walk_from s start follow path >>= next)
  leads-walk s start follow path next is = place_leads _ (resolve s.tree follow start path) next is

  pub leads-room : (s : State) (next : State → Attempt A)
      → (is_too_long (collect s).tree ≡ false → fits (collect s).tree ≡ true → Leads P (next s)) → Leads P (with_room s >>= next)
  leads-room s next is = by (is_too_long (collect s).tree) (fits (collect s).tree) is
    where
      by : (long fit : Bool) → (long ≡ false → fit ≡ true → Leads P (next s))
          → Leads P ((refuse_if EFBIG long >> (refuse_if ENOSPC (not fit) >> give s)) >>= next)
      by true fit is = tt
      by false true is = leads-after_walks 0 (next s) (is refl refl)
      by false false is = tt

-- the trivial property
pub leads-any : {A : Type 0} (a : Attempt A) → Leads (λ _. Unit {0}) a
leads-any (done walks value) = tt
leads-any (refused walks errno cause) = tt

-- a walk whose place is checked
pub leads-place : {A : Type 0} (P : A → Type 0) (s : State) (me : Process) (start : ℕ) (follow : Follow) (path : Bytes) (needed : Perms) (next : Place → Attempt A)
    → ((place : Place) → resolve s.tree follow start path ≡ Ok place → Leads P (next place)) → Leads P (walk_from s start follow path >>= (λ place. judge_for s me place needed >> next place))
leads-place P s me start follow path needed next is =
    leads-walk P s start follow path (λ place. judge_for s me place needed >> next place) (λ place found. leads-then P (judge_for s me place needed) (next place) (is place found))

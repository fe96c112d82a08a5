-- The answer of a table for a place, by the entry that governs it: unveil(2).
use Rattle.std.specs.Prelude.{◌≡◌, ◌⊎◌, ℕ, false, IsTrue, Option, None, Some}
use Rattle.pv_model.specs.declared.judgement.Judgement.{Judgement}
use Rattle.pv_model.specs.declared.judgement.Judgement.TheVariants.{Allowed, Hidden, Denied}
use Rattle.pv_model.specs.declared.perms.Perms.{Perms}
use Rattle.pv_model.specs.declared.place.Place.{Place}
use Rattle.pv_model.specs.declared.target.Target.{Target}
use Rattle.pv_model.specs.declared.target.Target.TheVariants.{Directory, Name}
use Rattle.pv_model.specs.Machine.{covers, Tree, Table, entry_for, permissions_at, target_of, Governs}

-- an entry governs a target: a directory is governed as `Governs` defines; a name is governed by its own entry, or else
-- by the one that governs its directory
abbrev pub GovernsTarget : Tree → Table → Target → ℕ → Type 0
GovernsTarget t table (Directory d) k = Governs t table d k
GovernsTarget t table (Name d name) k =
    (entry_for table (Name d name) ≡ Some k) ⊎ ((entry_for table (Name d name) ≡ None) × Governs t table d k)

-- without a table, nothing is hidden; otherwise a place is allowed if an entry governs it and has the permissions,
-- hidden if none governs it, and denied if the entry that governs it lacks a permission
abbrev pub IsJudged : Tree → Option Table → Place → Perms → Judgement → Type 0
IsJudged t None place needed judged = judged ≡ Allowed
IsJudged t (Some table) place needed Allowed =
    (k : ℕ) × GovernsTarget t table (target_of t place) k × IsTrue (covers (permissions_at table k) needed)
IsJudged t (Some table) place needed Hidden = (k : ℕ) → ¬ (GovernsTarget t table (target_of t place) k)
IsJudged t (Some table) place needed (Denied k) =
    GovernsTarget t table (target_of t place) k × (covers (permissions_at table k) needed ≡ false)

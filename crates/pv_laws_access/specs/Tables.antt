-- The decision of a table about a place: the entry that governs the place, and the permission that it may lack.
-- unveil(2).
use Rattle.std.specs.Prelude.{◌≡◌, ◌↔◌, ℕ, IsTrue, IsFalse, Option, None, Some}
use Rattle.pv_model.specs.declared.judgement.Judgement.{Judgement}
use Rattle.pv_model.specs.declared.judgement.Judgement.TheVariants.{Allowed, Hidden, Denied}
use Rattle.pv_model.specs.declared.perms.Perms.{Perms}
use Rattle.pv_model.specs.declared.place.Place.{Place}
use Rattle.pv_model.specs.declared.place.Place.TheVariants.{At, Node as Unnamed}
use Rattle.pv_model.specs.Machine.{Bytes, GovernsName, covers, Tree, is_directory_at, Table, permissions_at, Governs, judgement}

-- an entry governs a place: for a directory, the entry that governs the directory; otherwise, the entry that governs
-- the name
pub data GovernsPlace (t : Tree) (table : Table) : Place → ℕ → Type 0 where
  unnamed : (n k : ℕ) → Governs t table n k → GovernsPlace t table (Unnamed n) k
  without_node : (d : ℕ) (name : Bytes) (k : ℕ) → GovernsName t table d name k → GovernsPlace t table (At d name None) k
  directory : (d : ℕ) (name : Bytes) (n k : ℕ) → IsTrue (is_directory_at t n) → Governs t table n k → GovernsPlace t table (At d name (Some n)) k
  named : (d : ℕ) (name : Bytes) (n k : ℕ) → IsFalse (is_directory_at t n) → GovernsName t table d name k → GovernsPlace t table (At d name (Some n)) k

-- the decision about a place for the permissions needed
pub data Judges (t : Tree) (place : Place) (needed : Perms) : Option Table → Judgement → Type 0 where
  no_table : Judges t place needed None Allowed
  none_governs : (table : Table) → ((k : ℕ) → ¬ GovernsPlace t table place k) → Judges t place needed (Some table) Hidden
  lacks_permission : (table : Table) (k : ℕ) → GovernsPlace t table place k → IsFalse (covers (permissions_at table k) needed) → Judges t place needed (Some table) (Denied k)
  has_permissions : (table : Table) (k : ℕ) → GovernsPlace t table place k → IsTrue (covers (permissions_at table k) needed) → Judges t place needed (Some table) Allowed

-- `judgement` computes this relation
abbrev pub JudgementComputesRelation : Type 0
JudgementComputesRelation = (t : Tree) (table : Option Table) (place : Place) (needed : Perms) (found : Judgement) → Judges t place needed table found ↔ (judgement t table place needed ≡ found)

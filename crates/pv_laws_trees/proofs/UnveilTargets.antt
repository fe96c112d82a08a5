-- Targets of unveil(2) that are equal, and single permissions.
use Rattle.std.proofs.Common.{◌≡◌, true, ◌==◌, bytes_eq, refl, ap, ap₂}
use Rattle.std.proofs.Math.Bool.{or-true, or-false, and-true}
use Rattle.std.proofs.lemmas.Bool.{and_parts, and_from, eqb-true, eq-eqb}
use Rattle.pv_model.specs.declared.perms.Perms.{Perms}
use Rattle.pv_model.specs.declared.target.Target.{Target}
use Rattle.pv_model.specs.declared.target.Target.TheVariants.{Directory, Name}
use Rattle.pv_model.specs.Machine.{covers, permission_r, permission_x, permission_c, same_target}
use Rattle.pv_model.specs.Perms.{permission_w}
use Rattle.pv_laws_trees.proofs.DirectoryEntries.{bytes_eq-itself, bytes_eq-same}

pub same_target-itself : (target : Target) → same_target target target ≡ true
same_target-itself (Directory d) = eq-eqb d d refl
same_target-itself (Name d name) = and_from (d == d) (bytes_eq name name) (eq-eqb d d refl) (bytes_eq-itself name)

pub same_target-same : (a b : Target) → same_target a b ≡ true → a ≡ b
same_target-same (Directory d) (Directory e) is = ap Directory (eqb-true d e is)
same_target-same (Directory d) (Name e name) is = cc
same_target-same (Name d name) (Directory e) is = cc
same_target-same (Name d name) (Name e other) is =
    let parts = and_parts (d == e) (bytes_eq name other) is in ap₂ Name (eqb-true d e parts.0) (bytes_eq-same name other parts.1)

-- a single permission
pub covers-r : (a : Perms) → covers a permission_r ≡ a.r
covers-r a = simp (or-true, or-false, and-true)

pub covers-w : (a : Perms) → covers a permission_w ≡ a.w
covers-w a = simp (or-true, or-false, and-true)

pub covers-x : (a : Perms) → covers a permission_x ≡ a.x
covers-x a = simp (or-true, or-false, and-true)

pub covers-c : (a : Perms) → covers a permission_c ≡ a.c
covers-c a = simp (or-true, or-false)

-- Bytes mount if no inode has an error.
use Rattle.std.proofs.Common.{◌≡◌, ◌≤◌, ℕ, Bool, true, false, nat_lt, length, Option, None, Some, Result, Ok, Err, ap, ◌∙◌, refl, ltb-false}
use Rattle.std.specs.Prelude.{if◌then◌else◌}
use Rattle.pv_model.specs.declared.fault.ImageFault.{ImageFault}
use Rattle.pv_model.specs.declared.fault.ImageFault.TheVariants.{Short, Size, Inode, Block, Dir, Tree as NoTree}
use Rattle.pv_model.specs.declared.limits.TheConstants.{BLOCK}
use Rattle.pv_model.specs.declared.version.Version.{Version}
use Rattle.pv_model.specs.Machine.{Bytes, has_bad_inode, has_bad_block, has_bad_content, tree_in, mounted, PassesNone, Tree}
use Rattle.pv_model.specs.Mount.{version_of, has_sizes, has_bad_place, least_with, or_error, inode_error, or_tree, mounted_as, HasSizes}
use Rattle.pv_laws_trees.proofs.FirstErrors.{none-found, none-finds, magic-version_of, sized-mounted}

-- the sizes are valid, and no inode has an error
pub record IsPassed (v : Version) (bytes : Bytes) : Type 0 where
  pub sizes : HasSizes bytes v
  pub inodes : PassesNone bytes (has_bad_inode v bytes)
  pub blocks : PassesNone bytes (has_bad_block v bytes)
  pub contents : PassesNone bytes (has_bad_content v bytes)
  pub places : PassesNone bytes (has_bad_place v bytes)

abbrev value_or : Tree → Result Tree ImageFault → Tree
value_or t (Ok u) = u
value_or t (Err fault) = t

module _ (v : Version) (bytes : Bytes) where
  abbrev next : (ℕ → ImageFault) → Option ℕ → Option ImageFault → Option ImageFault
  next = or_error v bytes

  no_error : (fault : ℕ → ImageFault) (o : Option ℕ) (others : Option ImageFault) → next fault o others ≡ None → (o ≡ None) × (others ≡ None)
  no_error fault None others is = (refl, is)
  no_error fault (Some n) others is = cc is

  abbrev least : (ℕ → Bool) → Option ℕ
  least = least_with v bytes

  faultless : HasSizes bytes v → inode_error v bytes ≡ None → IsPassed v bytes
  unfolding inode_error
  faultless sizes is =
      let a = no_error Inode (least (has_bad_inode v bytes)) (next Block (least (has_bad_block v bytes)) (next Dir (least (has_bad_content v bytes)) (next NoTree (least (has_bad_place v bytes)) None))) is in
      let b = no_error Block (least (has_bad_block v bytes)) (next Dir (least (has_bad_content v bytes)) (next NoTree (least (has_bad_place v bytes)) None)) a.1 in
      let c = no_error Dir (least (has_bad_content v bytes)) (next NoTree (least (has_bad_place v bytes)) None) b.1 in
      let d = no_error NoTree (least (has_bad_place v bytes)) None c.1 in
      record {
        sizes = sizes;
        inodes = none-found v bytes (has_bad_inode v bytes) a.0;
        blocks = none-found v bytes (has_bad_block v bytes) b.0;
        contents = none-found v bytes (has_bad_content v bytes) c.0;
        places = none-found v bytes (has_bad_place v bytes) d.0;
      }

  passed-faultless : IsPassed v bytes → inode_error v bytes ≡ None
  unfolding inode_error
  passed-faultless is =
      ap (λ o. next Inode o (next Block (least (has_bad_block v bytes)) (next Dir (least (has_bad_content v bytes)) (next NoTree (least (has_bad_place v bytes)) None)))) (none-finds v bytes (has_bad_inode v bytes) is.inodes)
      ∙ ap (λ o. next Block o (next Dir (least (has_bad_content v bytes)) (next NoTree (least (has_bad_place v bytes)) None))) (none-finds v bytes (has_bad_block v bytes) is.blocks)
      ∙ ap (λ o. next Dir o (next NoTree (least (has_bad_place v bytes)) None)) (none-finds v bytes (has_bad_content v bytes) is.contents)
      ∙ ap (λ o. next NoTree o None) (none-finds v bytes (has_bad_place v bytes) is.places)

  pub passed-mounted : IsPassed v bytes → mounted bytes ≡ Ok (tree_in v bytes)
  passed-mounted is = sized-mounted bytes v is.sizes ∙ ap (or_tree v bytes) (passed-faultless is)

  of_error : (t : Tree) → HasSizes bytes v → or_tree v bytes (inode_error v bytes) ≡ Ok t → IsPassed v bytes × (tree_in v bytes ≡ t)
  of_error t sizes is =
      elim (inode_error v bytes) as (λ o. inode_error v bytes ≡ o → or_tree v bytes o ≡ Ok t → IsPassed v bytes × (tree_in v bytes ≡ t)) [
        | Some fault ↦ λ at h. cc h
        | None ↦ λ at h. (faultless sizes at, ap (value_or t) h)
      ] refl is

of_version : (bytes : Bytes) (t : Tree) (o : Option Version) → BLOCK ≤ length bytes → version_of bytes ≡ o → mounted_as o bytes ≡ Ok t
    → (v : Version) × IsPassed v bytes × (tree_in v bytes ≡ t)
of_version bytes t None long at is = cc is
of_version bytes t (Some v) long at is =
    let begins = magic-version_of bytes v at in
    elim (has_sizes v bytes) as (λ b. has_sizes v bytes ≡ b → (if b then or_tree v bytes (inode_error v bytes) else Err Size) ≡ Ok t → (v : Version) × IsPassed v bytes × (tree_in v bytes ≡ t)) [
      | true ↦ λ sizes h. let both = of_error v bytes t (record { long_enough = long; has_magic = begins; sizes = sizes }) h in (v, both.0, both.1)
      | false ↦ λ sizes h. cc h
    ] refl is

pub mounted-passed : (bytes : Bytes) (t : Tree) → mounted bytes ≡ Ok t → (v : Version) × IsPassed v bytes × (tree_in v bytes ≡ t)
unfolding mounted
mounted-passed bytes t is =
    elim (nat_lt (length bytes) BLOCK) as (λ b. nat_lt (length bytes) BLOCK ≡ b → (if b then Err Short else mounted_as (version_of bytes) bytes) ≡ Ok t → (v : Version) × IsPassed v bytes × (tree_in v bytes ≡ t)) [
      | true ↦ λ less h. cc h
      | false ↦ λ not_less h. of_version bytes t (version_of bytes) (ltb-false (length bytes) BLOCK not_less) refl h
    ] refl is

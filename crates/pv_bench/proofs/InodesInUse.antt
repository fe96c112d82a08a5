-- An inode that is in use stays in use.
use Rattle.std.proofs.Common.{◌≡◌, ℕ, zero, suc, [], ◌∷◌, ◌<◌, length, Option, Some, IsSome, IfSome, Result, Ok, Err, OnOk, OnErr, refl, sym, subst, arith}
use Rattle.pv_model.specs.declared.kind.Kind.{Kind}
use Rattle.pv_model.specs.Machine.{Numbered, at_number, with_number, Bytes, overwrite, resize}
use Rattle.pv_inodes.specs.Files.{Files, IsUsed, inode_bytes_at, truncated_files, with_new, written_files}
use Rattle.pv_inodes.proofs.EditedFiles.{used-files_with_bytes}

module _ {X : Type 0} where
  used-with_number : (xs : Numbered X) (n : ℕ) (v : X) → n < length xs → IsSome (at_number (with_number xs n v) n)
  used-with_number [] n v below = absurd (omega (arith, below))
  used-with_number (x ∷ xs) zero v below = refl
  used-with_number (x ∷ xs) (suc n) v below = used-with_number xs n v (omega (arith, below))

-- a new one is in use
used-new : (f : Files) (n : ℕ) (sort : Kind) → n < length f.nodes → IsUsed (with_new f n sort) n
used-new f n sort below = used-with_number f.nodes n (record { sort = sort; bytes = [] }) below

-- after a write to it
pub used-written_files : (f : Files) (n at : ℕ) (bytes : Bytes) → IsUsed f n → IsUsed (written_files f n at bytes) n
used-written_files f n at [] used = used
used-written_files f n at (b ∷ bytes) used = used-files_with_bytes f n (overwrite (inode_bytes_at f n) at (b ∷ bytes)) used

-- after its truncation
pub used-truncated_files : (f : Files) (n size : ℕ) → IsUsed f n → IsUsed (truncated_files f n size) n
used-truncated_files f n size used = used-files_with_bytes f n (resize (inode_bytes_at f n) size) used

-- after a call that can fail and then changes nothing
pub used-after : {A E : Type 0} (r : Result A E) (old new changed : Files) (n : ℕ) → OnOk r (new ≡ changed) → OnErr r (new ≡ old) → IsUsed old n → IsUsed changed n → IsUsed new n
used-after (Ok _) old new changed n ok err used still = subst (λ (f : Files). IsUsed f n) (sym ok) still
used-after (Err _) old new changed n ok err used still = subst (λ (f : Files). IsUsed f n) (sym err) used

-- after a call that allocated a new one
pub used-fresh : (r : Option ℕ) (old new : Files) (n : ℕ) (sort : Kind) → r ≡ Some n → IfSome r (λ m. m < length old.nodes) → IfSome r (λ m. new ≡ with_new old m sort) → IsUsed new n
used-fresh r old new n sort is within after =
    let below : n < length old.nodes = rw is at within in
    let made : new ≡ with_new old n sort = rw is at after in
    subst (λ (f : Files). IsUsed f n) (sym made) (used-new old n sort below)

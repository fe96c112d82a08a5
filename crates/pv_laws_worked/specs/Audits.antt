-- Audits after a run, of one file and of all files.
use Rattle.std.specs.Prelude.{◌≡◌, [], ◌∷◌, codes, Some, refl}
use Rattle.pv_model.specs.Machine.{report}
use Rattle.pv_model.specs.Sealed.{verdict_line}
use Rattle.pv_laws_worked.specs.Bundles.{audited_of, report_of_bundle, text_of_lines, bundles_on_literals}

-- a path without a file
pub audit_absent : audited_of (
    codes "image 64 64" ∷
    codes "dir \"/pub\"" ∷
    codes "bytes \"/secret\" \"k1\"" ∷
    codes "exec \"/init\" 4" ∷
    codes "fork" ∷
    codes "unveil \"/pub\" \"r\"" ∷
    codes "unveil null null" ∷
    codes "pledge \"stdio rpath\" null" ∷
    codes "schedule" ∷
    codes "1 4" ∷
    codes "2 3" ∷ []) (codes "/no") ≡ Some (codes "errno 2 ENOENT")
unfolding bundles_on_literals
audit_absent = refl

-- a directory
pub audit_directory : audited_of (
    codes "image 64 64" ∷
    codes "dir \"/pub\"" ∷
    codes "bytes \"/secret\" \"k1\"" ∷
    codes "exec \"/init\" 4" ∷
    codes "fork" ∷
    codes "unveil \"/pub\" \"r\"" ∷
    codes "unveil null null" ∷
    codes "pledge \"stdio rpath\" null" ∷
    codes "schedule" ∷
    codes "1 4" ∷
    codes "2 3" ∷ []) (codes "/pub") ≡ Some (codes "not a file")
unfolding bundles_on_literals
audit_directory = refl

-- two processes with locked tables
pub sealed_by_table : audited_of (
    codes "image 64 64" ∷
    codes "dir \"/pub\"" ∷
    codes "bytes \"/secret\" \"k1\"" ∷
    codes "exec \"/init\" 4" ∷
    codes "fork" ∷
    codes "unveil \"/pub\" \"r\"" ∷
    codes "unveil null null" ∷
    codes "pledge \"stdio rpath\" null" ∷
    codes "schedule" ∷
    codes "1 4" ∷
    codes "2 3" ∷ []) (codes "/secret") ≡ Some (codes "sealed and frozen")
unfolding bundles_on_literals
sealed_by_table = refl

-- a process that is pledged to stdio
pub sealed_by_pledge : audited_of (
    codes "image 64 64" ∷
    codes "dir \"/pub\"" ∷
    codes "bytes \"/secret\" \"k1\"" ∷
    codes "exec \"/init\" 1" ∷
    codes "pledge \"stdio\" null" ∷
    codes "schedule" ∷
    codes "1" ∷ []) (codes "/secret") ≡ Some (codes "sealed and frozen")
unfolding bundles_on_literals
sealed_by_pledge = refl

-- a process that may write but not read the file
pub sealed_not_frozen : audited_of (
    codes "image 64 64" ∷
    codes "dir \"/pub\"" ∷
    codes "bytes \"/secret\" \"k1\"" ∷
    codes "exec \"/init\" 1" ∷
    codes "pledge \"stdio wpath\" null" ∷
    codes "schedule" ∷
    codes "1" ∷ []) (codes "/secret") ≡ Some (codes "sealed")
unfolding bundles_on_literals
sealed_not_frozen = refl

-- an execve that keeps the restraints
pub sealed_under_exec : audited_of (
    codes "image 64 64" ∷
    codes "dir \"/pub\"" ∷
    codes "bytes \"/secret\" \"k1\"" ∷
    codes "exec \"/init\" 3" ∷
    codes "unveil \"/pub\" \"rx\"" ∷
    codes "unveil null null" ∷
    codes "pledge null \"stdio rpath\"" ∷
    codes "schedule" ∷
    codes "1 3" ∷ []) (codes "/secret") ≡ Some (codes "sealed and frozen")
unfolding bundles_on_literals
sealed_under_exec = refl

-- a process without restraints
pub exposed_at_first : audited_of (
    codes "image 64 64" ∷
    codes "dir \"/pub\"" ∷
    codes "bytes \"/secret\" \"k1\"" ∷
    codes "exec \"/init\" 1" ∷
    codes "pledge \"stdio\" null" ∷
    codes "schedule" ∷ []) (codes "/secret") ≡ Some (codes "exposed: process 1, no table")
unfolding bundles_on_literals
exposed_at_first = refl

-- a descriptor that is open for reading on the file
pub exposed_by_descriptor : audited_of (
    codes "image 64 64" ∷
    codes "dir \"/pub\"" ∷
    codes "bytes \"/secret\" \"k1\"" ∷
    codes "exec \"/init\" 2" ∷
    codes "open \"/secret\" r" ∷
    codes "pledge \"stdio\" null" ∷
    codes "schedule" ∷
    codes "1 2" ∷ []) (codes "/secret") ≡ Some (codes "exposed: process 1, reads descriptor 0")
unfolding bundles_on_literals
exposed_by_descriptor = refl

-- an execve that drops the restraints
pub exposed_by_exec : audited_of (
    codes "image 64 64" ∷
    codes "dir \"/pub\"" ∷
    codes "bytes \"/secret\" \"k1\"" ∷
    codes "exec \"/init\" 3" ∷
    codes "unveil \"/pub\" \"rx\"" ∷
    codes "unveil null null" ∷
    codes "pledge null \"stdio rpath\"" ∷
    codes "schedule" ∷
    codes "1 2" ∷ []) (codes "/secret") ≡ Some (codes "exposed: process 1, may exec")
unfolding bundles_on_literals
exposed_by_exec = refl

-- an entry that grants access to a second name of the file
pub exposed_second_name : audited_of (
    codes "image 64 64" ∷
    codes "dir \"/pub\"" ∷
    codes "bytes \"/secret\" \"k1\"" ∷
    codes "name \"/pub/k\" \"/secret\"" ∷
    codes "exec \"/init\" 4" ∷
    codes "fork" ∷
    codes "unveil \"/pub\" \"r\"" ∷
    codes "unveil null null" ∷
    codes "pledge \"stdio rpath\" null" ∷
    codes "schedule" ∷
    codes "1 4" ∷
    codes "2 3" ∷ []) (codes "/secret") ≡ Some (codes "exposed: process 1, entry 0 gives")
unfolding bundles_on_literals
exposed_second_name = refl

-- one of two processes has not locked its table
pub exposed_unlocked : audited_of (
    codes "image 64 64" ∷
    codes "dir \"/pub\"" ∷
    codes "bytes \"/secret\" \"k1\"" ∷
    codes "exec \"/init\" 4" ∷
    codes "fork" ∷
    codes "unveil \"/pub\" \"r\"" ∷
    codes "unveil null null" ∷
    codes "pledge \"stdio rpath\" null" ∷
    codes "schedule" ∷
    codes "1 4" ∷
    codes "2" ∷ []) (codes "/secret") ≡ Some (codes "exposed: process 2, not locked")
unfolding bundles_on_literals
exposed_unlocked = refl

-- the file can be moved out of its directory
pub exposed_above : audited_of (
    codes "image 64 64" ∷
    codes "dir \"/s\"" ∷
    codes "bytes \"/s/secret\" \"k1\"" ∷
    codes "exec \"/init\" 4" ∷
    codes "unveil \"/s\" \"c\"" ∷
    codes "unveil \"/s/secret\" \"\"" ∷
    codes "unveil null null" ∷
    codes "pledge \"stdio rpath cpath\" null" ∷
    codes "schedule" ∷
    codes "1 4" ∷ []) (codes "/s/secret") ≡ Some (codes "exposed: process 1, entry 0 above")
unfolding bundles_on_literals
exposed_above = refl

-- a process that may change names
pub exposed_by_names : audited_of (
    codes "image 64 64" ∷
    codes "dir \"/pub\"" ∷
    codes "bytes \"/secret\" \"k1\"" ∷
    codes "exec \"/init\" 1" ∷
    codes "pledge \"stdio cpath\" null" ∷
    codes "schedule" ∷
    codes "1 1" ∷ []) (codes "/secret") ≡ Some (codes "exposed: process 1, no table")
unfolding bundles_on_literals
exposed_by_names = refl

-- an entry that allows renaming the file
pub exposed_by_permission_c : audited_of (
    codes "image 64 64" ∷
    codes "dir \"/pub\"" ∷
    codes "bytes \"/secret\" \"k1\"" ∷
    codes "exec \"/init\" 3" ∷
    codes "unveil \"/secret\" \"c\"" ∷
    codes "unveil null null" ∷
    codes "pledge null \"stdio\"" ∷
    codes "schedule" ∷
    codes "1 3" ∷ []) (codes "/secret") ≡ Some (codes "exposed: process 1, entry 0 gives")
unfolding bundles_on_literals
exposed_by_permission_c = refl

-- an entry two directories above the file
pub exposed_two_above : audited_of (
    codes "image 64 64" ∷
    codes "dir \"/a\"" ∷
    codes "dir \"/a/b\"" ∷
    codes "bytes \"/a/b/secret\" \"k1\"" ∷
    codes "exec \"/init\" 4" ∷
    codes "unveil \"/a\" \"c\"" ∷
    codes "unveil \"/a/b\" \"\"" ∷
    codes "unveil null null" ∷
    codes "pledge null \"stdio\"" ∷
    codes "schedule" ∷
    codes "1 4" ∷ []) (codes "/a/b/secret") ≡ Some (codes "exposed: process 1, entry 0 above")
unfolding bundles_on_literals
exposed_two_above = refl

-- a table without a lock does not make a file frozen
pub sealed_without_lock : audited_of (
    codes "image 64 64" ∷
    codes "dir \"/pub\"" ∷
    codes "bytes \"/secret\" \"k1\"" ∷
    codes "exec \"/init\" 2" ∷
    codes "unveil \"/pub\" \"r\"" ∷
    codes "pledge \"stdio wpath unveil\" null" ∷
    codes "schedule" ∷
    codes "1 2" ∷ []) (codes "/secret") ≡ Some (codes "sealed")
unfolding bundles_on_literals
sealed_without_lock = refl

-- every name of a file in the order of a listing, without directories and links
pub all_reasons_are_reported : report_of_bundle (
    codes "image 64 64" ∷
    codes "dir \"/pub\"" ∷
    codes "bytes \"/pub/motd\" \"hi\"" ∷
    codes "link \"/pub/at\" \"../secret\"" ∷
    codes "bytes \"/secret\" \"k1\"" ∷
    codes "bytes \"/two\" \"\"" ∷
    codes "name \"/pub/two\" \"/two\"" ∷
    codes "exec \"/init\" 3" ∷
    codes "unveil \"/pub\" \"r\"" ∷
    codes "unveil null null" ∷
    codes "pledge \"stdio rpath\" null" ∷
    codes "schedule" ∷
    codes "1 3" ∷ []) ≡ Some (text_of_lines (
    codes "\"/init\" sealed and frozen" ∷
    codes "\"/pub/motd\" exposed: process 1, entry 0 gives" ∷
    codes "\"/pub/two\" exposed: process 1, entry 0 gives" ∷
    codes "\"/secret\" sealed and frozen" ∷
    codes "\"/two\" exposed: process 1, entry 0 gives" ∷ []))
unfolding bundles_on_literals report verdict_line
all_reasons_are_reported = refl

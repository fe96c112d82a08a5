-- Runs that reach a limit.
use Rattle.std.specs.Prelude.{◌≡◌, [], ◌∷◌, ◌++◌, replicate, codes, Some, option_map, drop, refl}
use Rattle.pv_laws_worked.specs.Bundles.{bundles_on_literals, shown_of}

-- a table has at most 64 entries
pub full_table : shown_of (
    codes "image 64 64" ∷
    codes "exec \"/init\" 65" ∷
    codes "unveil \"/n0\" \"r\"" ∷
    codes "unveil \"/n1\" \"r\"" ∷
    codes "unveil \"/n2\" \"r\"" ∷
    codes "unveil \"/n3\" \"r\"" ∷
    codes "unveil \"/n4\" \"r\"" ∷
    codes "unveil \"/n5\" \"r\"" ∷
    codes "unveil \"/n6\" \"r\"" ∷
    codes "unveil \"/n7\" \"r\"" ∷
    codes "unveil \"/n8\" \"r\"" ∷
    codes "unveil \"/n9\" \"r\"" ∷
    codes "unveil \"/n10\" \"r\"" ∷
    codes "unveil \"/n11\" \"r\"" ∷
    codes "unveil \"/n12\" \"r\"" ∷
    codes "unveil \"/n13\" \"r\"" ∷
    codes "unveil \"/n14\" \"r\"" ∷
    codes "unveil \"/n15\" \"r\"" ∷
    codes "unveil \"/n16\" \"r\"" ∷
    codes "unveil \"/n17\" \"r\"" ∷
    codes "unveil \"/n18\" \"r\"" ∷
    codes "unveil \"/n19\" \"r\"" ∷
    codes "unveil \"/n20\" \"r\"" ∷
    codes "unveil \"/n21\" \"r\"" ∷
    codes "unveil \"/n22\" \"r\"" ∷
    codes "unveil \"/n23\" \"r\"" ∷
    codes "unveil \"/n24\" \"r\"" ∷
    codes "unveil \"/n25\" \"r\"" ∷
    codes "unveil \"/n26\" \"r\"" ∷
    codes "unveil \"/n27\" \"r\"" ∷
    codes "unveil \"/n28\" \"r\"" ∷
    codes "unveil \"/n29\" \"r\"" ∷
    codes "unveil \"/n30\" \"r\"" ∷
    codes "unveil \"/n31\" \"r\"" ∷
    codes "unveil \"/n32\" \"r\"" ∷
    codes "unveil \"/n33\" \"r\"" ∷
    codes "unveil \"/n34\" \"r\"" ∷
    codes "unveil \"/n35\" \"r\"" ∷
    codes "unveil \"/n36\" \"r\"" ∷
    codes "unveil \"/n37\" \"r\"" ∷
    codes "unveil \"/n38\" \"r\"" ∷
    codes "unveil \"/n39\" \"r\"" ∷
    codes "unveil \"/n40\" \"r\"" ∷
    codes "unveil \"/n41\" \"r\"" ∷
    codes "unveil \"/n42\" \"r\"" ∷
    codes "unveil \"/n43\" \"r\"" ∷
    codes "unveil \"/n44\" \"r\"" ∷
    codes "unveil \"/n45\" \"r\"" ∷
    codes "unveil \"/n46\" \"r\"" ∷
    codes "unveil \"/n47\" \"r\"" ∷
    codes "unveil \"/n48\" \"r\"" ∷
    codes "unveil \"/n49\" \"r\"" ∷
    codes "unveil \"/n50\" \"r\"" ∷
    codes "unveil \"/n51\" \"r\"" ∷
    codes "unveil \"/n52\" \"r\"" ∷
    codes "unveil \"/n53\" \"r\"" ∷
    codes "unveil \"/n54\" \"r\"" ∷
    codes "unveil \"/n55\" \"r\"" ∷
    codes "unveil \"/n56\" \"r\"" ∷
    codes "unveil \"/n57\" \"r\"" ∷
    codes "unveil \"/n58\" \"r\"" ∷
    codes "unveil \"/n59\" \"r\"" ∷
    codes "unveil \"/n60\" \"r\"" ∷
    codes "unveil \"/n61\" \"r\"" ∷
    codes "unveil \"/n62\" \"r\"" ∷
    codes "unveil \"/n63\" \"r\"" ∷
    codes "unveil \"/n64\" \"r\"" ∷
    codes "schedule" ∷
    codes "1 65" ∷ []) ≡ Some (
    codes "RET   unveil 0" ∷
    codes "RET   unveil 0" ∷
    codes "RET   unveil 0" ∷
    codes "RET   unveil 0" ∷
    codes "RET   unveil 0" ∷
    codes "RET   unveil 0" ∷
    codes "RET   unveil 0" ∷
    codes "RET   unveil 0" ∷
    codes "RET   unveil 0" ∷
    codes "RET   unveil 0" ∷
    codes "RET   unveil 0" ∷
    codes "RET   unveil 0" ∷
    codes "RET   unveil 0" ∷
    codes "RET   unveil 0" ∷
    codes "RET   unveil 0" ∷
    codes "RET   unveil 0" ∷
    codes "RET   unveil 0" ∷
    codes "RET   unveil 0" ∷
    codes "RET   unveil 0" ∷
    codes "RET   unveil 0" ∷
    codes "RET   unveil 0" ∷
    codes "RET   unveil 0" ∷
    codes "RET   unveil 0" ∷
    codes "RET   unveil 0" ∷
    codes "RET   unveil 0" ∷
    codes "RET   unveil 0" ∷
    codes "RET   unveil 0" ∷
    codes "RET   unveil 0" ∷
    codes "RET   unveil 0" ∷
    codes "RET   unveil 0" ∷
    codes "RET   unveil 0" ∷
    codes "RET   unveil 0" ∷
    codes "RET   unveil 0" ∷
    codes "RET   unveil 0" ∷
    codes "RET   unveil 0" ∷
    codes "RET   unveil 0" ∷
    codes "RET   unveil 0" ∷
    codes "RET   unveil 0" ∷
    codes "RET   unveil 0" ∷
    codes "RET   unveil 0" ∷
    codes "RET   unveil 0" ∷
    codes "RET   unveil 0" ∷
    codes "RET   unveil 0" ∷
    codes "RET   unveil 0" ∷
    codes "RET   unveil 0" ∷
    codes "RET   unveil 0" ∷
    codes "RET   unveil 0" ∷
    codes "RET   unveil 0" ∷
    codes "RET   unveil 0" ∷
    codes "RET   unveil 0" ∷
    codes "RET   unveil 0" ∷
    codes "RET   unveil 0" ∷
    codes "RET   unveil 0" ∷
    codes "RET   unveil 0" ∷
    codes "RET   unveil 0" ∷
    codes "RET   unveil 0" ∷
    codes "RET   unveil 0" ∷
    codes "RET   unveil 0" ∷
    codes "RET   unveil 0" ∷
    codes "RET   unveil 0" ∷
    codes "RET   unveil 0" ∷
    codes "RET   unveil 0" ∷
    codes "RET   unveil 0" ∷
    codes "RET   unveil 0" ∷
    codes "RET   unveil -1 errno 7 E2BIG" ∷ [])
unfolding bundles_on_literals
full_table = refl

-- a path has at most 1,023 bytes
pub long_path : shown_of (
    codes "image 64 64" ∷
    codes "exec \"/init\" 2" ∷
    (codes "open \"" ++ replicate 1023 47 ++ codes "\" r") ∷
    (codes "open \"" ++ replicate 1024 47 ++ codes "\" r") ∷
    codes "schedule" ∷
    codes "1 2" ∷ []) ≡ Some (
    codes "RET   open 0" ∷
    codes "RET   open -1 errno 63 ENAMETOOLONG" ∷ [])
unfolding bundles_on_literals
long_path = refl

-- a process has at most 16 descriptors
pub many_descriptors : shown_of (
    codes "image 64 64" ∷
    codes "exec \"/init\" 17" ∷
    codes "open \"/\" r" ∷
    codes "open \"/\" r" ∷
    codes "open \"/\" r" ∷
    codes "open \"/\" r" ∷
    codes "open \"/\" r" ∷
    codes "open \"/\" r" ∷
    codes "open \"/\" r" ∷
    codes "open \"/\" r" ∷
    codes "open \"/\" r" ∷
    codes "open \"/\" r" ∷
    codes "open \"/\" r" ∷
    codes "open \"/\" r" ∷
    codes "open \"/\" r" ∷
    codes "open \"/\" r" ∷
    codes "open \"/\" r" ∷
    codes "open \"/\" r" ∷
    codes "open \"/\" r" ∷
    codes "schedule" ∷
    codes "1 17" ∷ []) ≡ Some (
    codes "RET   open 0" ∷
    codes "RET   open 1" ∷
    codes "RET   open 2" ∷
    codes "RET   open 3" ∷
    codes "RET   open 4" ∷
    codes "RET   open 5" ∷
    codes "RET   open 6" ∷
    codes "RET   open 7" ∷
    codes "RET   open 8" ∷
    codes "RET   open 9" ∷
    codes "RET   open 10" ∷
    codes "RET   open 11" ∷
    codes "RET   open 12" ∷
    codes "RET   open 13" ∷
    codes "RET   open 14" ∷
    codes "RET   open 15" ∷
    codes "RET   open -1 errno 24 EMFILE" ∷ [])
unfolding bundles_on_literals
many_descriptors = refl

-- a walk follows at most 32 links
pub many_links : shown_of (
    codes "image 64 64" ∷
    codes "bytes \"/f\" \"x\"" ∷
    codes "link \"/l32\" \"f\"" ∷
    codes "link \"/l31\" \"l32\"" ∷
    codes "link \"/l30\" \"l31\"" ∷
    codes "link \"/l29\" \"l30\"" ∷
    codes "link \"/l28\" \"l29\"" ∷
    codes "link \"/l27\" \"l28\"" ∷
    codes "link \"/l26\" \"l27\"" ∷
    codes "link \"/l25\" \"l26\"" ∷
    codes "link \"/l24\" \"l25\"" ∷
    codes "link \"/l23\" \"l24\"" ∷
    codes "link \"/l22\" \"l23\"" ∷
    codes "link \"/l21\" \"l22\"" ∷
    codes "link \"/l20\" \"l21\"" ∷
    codes "link \"/l19\" \"l20\"" ∷
    codes "link \"/l18\" \"l19\"" ∷
    codes "link \"/l17\" \"l18\"" ∷
    codes "link \"/l16\" \"l17\"" ∷
    codes "link \"/l15\" \"l16\"" ∷
    codes "link \"/l14\" \"l15\"" ∷
    codes "link \"/l13\" \"l14\"" ∷
    codes "link \"/l12\" \"l13\"" ∷
    codes "link \"/l11\" \"l12\"" ∷
    codes "link \"/l10\" \"l11\"" ∷
    codes "link \"/l9\" \"l10\"" ∷
    codes "link \"/l8\" \"l9\"" ∷
    codes "link \"/l7\" \"l8\"" ∷
    codes "link \"/l6\" \"l7\"" ∷
    codes "link \"/l5\" \"l6\"" ∷
    codes "link \"/l4\" \"l5\"" ∷
    codes "link \"/l3\" \"l4\"" ∷
    codes "link \"/l2\" \"l3\"" ∷
    codes "link \"/l1\" \"l2\"" ∷
    codes "link \"/l0\" \"l1\"" ∷
    codes "link \"/s\" \"s\"" ∷
    codes "link \"/e\" \".\"" ∷
    codes "exec \"/init\" 5" ∷
    codes "open \"/l1\" r" ∷
    codes "open \"/l0\" r" ∷
    codes "open \"/s\" r" ∷
    codes "open \"/e/e/e/e/e/e/e/e/e/e/e/e/e/e/e/e/e/e/e/e/e/e/e/e/e/e/e/e/e/e/e/e\" r" ∷
    codes "open \"/e/e/e/e/e/e/e/e/e/e/e/e/e/e/e/e/e/e/e/e/e/e/e/e/e/e/e/e/e/e/e/e/e\" r" ∷
    codes "schedule" ∷
    codes "1 5" ∷ []) ≡ Some (
    codes "RET   open 0" ∷
    codes "RET   open -1 errno 62 ELOOP" ∷
    codes "RET   open -1 errno 62 ELOOP" ∷
    codes "RET   open 1" ∷
    codes "RET   open -1 errno 62 ELOOP" ∷ [])
unfolding bundles_on_literals
many_links = refl

-- there are at most 32 processes
pub many_processes : shown_of (
    codes "image 64 64" ∷
    codes "exec \"/init\" 2" ∷
    codes "fork" ∷
    codes "jnz r0 1" ∷
    codes "schedule" ∷
    codes "1 64" ∷ []) ≡ Some (
    codes "RET   fork 2" ∷
    codes "RET   fork 3" ∷
    codes "RET   fork 4" ∷
    codes "RET   fork 5" ∷
    codes "RET   fork 6" ∷
    codes "RET   fork 7" ∷
    codes "RET   fork 8" ∷
    codes "RET   fork 9" ∷
    codes "RET   fork 10" ∷
    codes "RET   fork 11" ∷
    codes "RET   fork 12" ∷
    codes "RET   fork 13" ∷
    codes "RET   fork 14" ∷
    codes "RET   fork 15" ∷
    codes "RET   fork 16" ∷
    codes "RET   fork 17" ∷
    codes "RET   fork 18" ∷
    codes "RET   fork 19" ∷
    codes "RET   fork 20" ∷
    codes "RET   fork 21" ∷
    codes "RET   fork 22" ∷
    codes "RET   fork 23" ∷
    codes "RET   fork 24" ∷
    codes "RET   fork 25" ∷
    codes "RET   fork 26" ∷
    codes "RET   fork 27" ∷
    codes "RET   fork 28" ∷
    codes "RET   fork 29" ∷
    codes "RET   fork 30" ∷
    codes "RET   fork 31" ∷
    codes "RET   fork 32" ∷
    codes "RET   fork -1 errno 35 EAGAIN" ∷ [])
unfolding bundles_on_literals
many_processes = refl

-- the system has at most 128 open files: eight processes have sixteen each, and the ninth, which has closed its copies
-- of the descriptors, cannot open another
pub many_open_files : option_map (drop 263) (shown_of (
    codes "image 5 2" ∷
    codes "exec \"/init\" 14" ∷
    codes "set r2 -16" ∷
    codes "open \"/\" r" ∷
    codes "openat cwd \"/\" r" ∷
    codes "add r2 2" ∷
    codes "jneg r2 2" ∷
    codes "fork" ∷
    codes "jnz r0 14" ∷
    codes "set r2 -16" ∷
    codes "set r3 0" ∷
    codes "close r3" ∷
    codes "add r3 1" ∷
    codes "add r2 1" ∷
    codes "jneg r2 10" ∷
    codes "jmp 1" ∷
    codes "schedule" ∷
    codes "1 34" ∷
    codes "2 102" ∷
    codes "3 102" ∷
    codes "4 102" ∷
    codes "5 102" ∷
    codes "6 102" ∷
    codes "7 102" ∷
    codes "8 102" ∷
    codes "9 71" ∷ [])) ≡ Some (
    codes "9 RET   close 0" ∷
    codes "9 RET   open -1 errno 23 ENFILE" ∷
    codes "9 RET   openat -1 errno 23 ENFILE" ∷ [])
unfolding bundles_on_literals
many_open_files = refl

-- A worked example: the demands of granted calls alone.
use Rattle.std.specs.Prelude.{◌≡◌, Bool, true, false, List, [], ◌∷◌, codes, Option, Some, option_map, refl}
use Rattle.pv_model.specs.Machine.{answer_bytes, Bytes, program_of, steps_of}
use Rattle.pv_laws_worked.specs.Bundles.{text_of_lines}
use Rattle.pv_laws_worked.specs.Questions.{questions_on_literals, started}
use Rattle.pv_laws_worked.specs.Stated.{Stated}
use Rattle.pv_needs.specs.Granted.{lines_of_demands}

-- the demands in the run of a bundle
abbrev pub demands_text : Bool → List Bytes → Option Bytes
demands_text granted lines = option_map (λ s. answer_bytes (lines_of_demands program_of granted (steps_of s.schedule) s.state)) (started lines)

-- a program that opens a file which its table hides, and is killed
abbrev pub restrained : List Bytes
restrained =
    codes "image 64 64" ∷
    codes "dir \"/etc\"" ∷
    codes "bytes \"/etc/motd\" \"hello\"" ∷
    codes "bytes \"/etc/key\" \"k1\"" ∷
    codes "exec \"/init\" 7" ∷
    codes "unveil \"/etc/motd\" \"r\"" ∷
    codes "unveil null null" ∷
    codes "pledge \"stdio rpath\" null" ∷
    codes "open \"/etc/motd\" r" ∷
    codes "read 0 5" ∷
    codes "open \"/etc/key\" r" ∷
    codes "mkdir \"/x\"" ∷
    codes "schedule" ∷
    codes "1 7" ∷ []

-- the refused open and the refused mkdir do not count
pub refused_calls_are_left_out : demands_text true restrained ≡ Some (text_of_lines (
    codes "    1 STNT  1" ∷
    codes "    1 PLDG  stdio, calls 1, last line 5" ∷
    codes "    1 PLDG  rpath, calls 1, last line 4" ∷
    codes "    1 PLDG  unveil, calls 2, last line 2" ∷
    codes "    1 UNVL  r---, \"/etc/motd\", walks 1, last line 4" ∷ []))
unfolding questions_on_literals
refused_calls_are_left_out = refl

pub record AllNeedsWorked : Type 0 where
  pub refused_calls_are_left_out : Stated refused_calls_are_left_out

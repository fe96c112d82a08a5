-- Worked examples: the lines of a source that get a warning, and the lines of its programs.
use Rattle.std.specs.Prelude.{◌≡◌, [], ◌∷◌, codes, refl}
use Rattle.pv_model.specs.Source.OnLiterals.{sources_on_literals}
use Rattle.pv_laws_worked.specs.Bundles.{text_of_lines}
use Rattle.pv_laws_worked.specs.Stated.{Stated}
use Rattle.pv_source.specs.Located.{located_lines}
use Rattle.pv_source.specs.Warnings.{warned_lines}

-- each program up to END, and `/init`, but no other file
pub unknown_words_are_warned_of : warned_lines (text_of_lines (
    codes "image 16 16" ∷
    codes "exec \"/bin\" <<END" ∷
    codes "pledge \"stdio rpaht\" null # two letters are exchanged" ∷
    codes "again: pledge \"stdio\" \"stdoi wpath\"" ∷
    codes "pledge \"rpath  stdio\" null" ∷
    codes "unveil \"/etc\" \"rq\"" ∷
    codes "END" ∷
    codes "exec \"/init\" 2" ∷
    codes "pledge \"\" null" ∷
    codes "pledge \"rpath,wpath\" null" ∷
    codes "exec \"/other\" 1" ∷
    codes "pledge \"stdoi\" null" ∷ [])) ≡ 3 ∷ 4 ∷ 6 ∷ 10 ∷ []
unfolding sources_on_literals warned_lines
unknown_words_are_warned_of = refl

-- lines without an instruction have no number, labels are replaced, and a last label gets an `exit 0`; copied lines are
-- unchanged
pub lines_have_their_numbers : located_lines (text_of_lines (
    codes "image 16 16 # the sizes" ∷
    codes "dir \"/bin\"" ∷
    codes "exec \"/bin/a b\" <<END" ∷
    codes "  # a comment" ∷
    codes "again: getpid" ∷
    codes "" ∷
    codes "jnz   again # a jump" ∷
    codes "end:" ∷
    codes "END" ∷
    codes "bytes \"/data\" \"1\"" ∷
    codes "exec \"/init\" 2" ∷
    codes "fork" ∷
    codes "exit 0" ∷
    codes "schedule" ∷
    codes "1" ∷ [])) ≡ text_of_lines (
    codes "5 \"/bin/a b\":1 getpid" ∷
    codes "7 \"/bin/a b\":2 jnz 1" ∷
    codes "8 \"/bin/a b\":3 exit 0" ∷
    codes "12 \"/init\":1 fork" ∷
    codes "13 \"/init\":2 exit 0" ∷ [])
unfolding sources_on_literals located_lines
lines_have_their_numbers = refl

pub record AllSourcesWorked : Type 0 where
  pub unknown_words_are_warned_of : Stated unknown_words_are_warned_of
  pub lines_have_their_numbers : Stated lines_have_their_numbers

-- The flags of an open.
use Rattle.std.proofs.Common.{◌≡◌, Bool, true, false, cond, ◌==◌, [], ◌∷◌, ◌++◌, Option, None, Some, ap, sym, ◌∙◌, refl, append_assoc, append-nil, eqb-true, eq-eqb}
use Rattle.std.specs.Prelude.{codes}
use Rattle.std.proofs.lemmas.Bool.{cond_both, cond-true, cond-false}
use Rattle.std.proofs.lemmas.Option.{same_Some, some_pair_parts}
use Rattle.pv_model.specs.declared.open_flags.Mode.{Mode}
use Rattle.pv_model.specs.declared.open_flags.Mode.TheVariants.{Read, Write, ReadWrite}
use Rattle.pv_model.specs.declared.open_flags.OpenFlags.{OpenFlags}
use Rattle.pv_model.specs.Machine.{Bytes, mode_text, Parsed}
use Rattle.pv_model.specs.Trace.{flag_text, flags_text}
use Rattle.pv_model.specs.Grammar.Arguments.{without_front, flag_or_none, flag_at, mode_after_r, mode_at, if_nothing_left, flags_after, flags_of_mode, parsed_flags}
use Rattle.pv_model.specs.Grammar.Encoding.{EncodesFlags}
use Rattle.pv_laws_grammar.proofs.FirstWord.{no_space, no_space-append}
use Rattle.pv_laws_grammar.proofs.ParserCorrectness.{ReadsWord}

-- ---- one flag

without_front_found : (front bs rest : Bytes) → without_front front bs ≡ Some rest → bs ≡ front ++ rest
without_front_found [] bs rest e = same_Some bs rest e
without_front_found (a ∷ front) [] rest e = absurd (cc)
without_front_found (a ∷ front) (b ∷ bs) rest e = cond_both (a == b) (without_front front bs) None (λ r. r ≡ Some rest → b ∷ bs ≡ (a ∷ front) ++ rest)
    (λ is h. ap (λ c. c ∷ bs) (sym (eqb-true a b is)) ∙ ap (λ r. a ∷ r) (without_front_found front bs rest h))
    (λ is h. absurd (cc)) e

without_front-front : (front rest : Bytes) → without_front front (front ++ rest) ≡ Some rest
without_front-front [] rest = refl
without_front-front (a ∷ front) rest = cond-true (a == a) (without_front front (front ++ rest)) None (eq-eqb a a refl) ∙ without_front-front front rest

flag_or_none_found : (name word : Bytes) (o : Option Bytes) → without_front (43 ∷ name) word ≡ o → word ≡ flag_text (flag_or_none word o).0 name ++ (flag_or_none word o).1
flag_or_none_found name word None is = refl
flag_or_none_found name word (Some rest) is = without_front_found (43 ∷ name) word rest is

-- a word is the flag, if present, followed by the rest
flag_found : (name word : Bytes) → word ≡ flag_text (flag_at name word).0 name ++ (flag_at name word).1
flag_found name word = flag_or_none_found name word (without_front (43 ∷ name) word) refl

-- a written flag is recognized; if it is absent, the rest must not start with it
flag_again : (name rest : Bytes) (b : Bool) → without_front (43 ∷ name) rest ≡ None → flag_at name (flag_text b name ++ rest) ≡ (b, rest)
flag_again name rest true other = ap (flag_or_none ((43 ∷ name) ++ rest)) (without_front-front (43 ∷ name) rest)
flag_again name rest false other = ap (flag_or_none rest) other

-- bytes that do not start with a flag, after another flag
past_flag : (name other rest : Bytes) (b : Bool) → without_front (43 ∷ name) ((43 ∷ other) ++ rest) ≡ None → without_front (43 ∷ name) rest ≡ None → without_front (43 ∷ name) (flag_text b other ++ rest) ≡ None
past_flag name other rest true here there = here
past_flag name other rest false here there = there

-- ---- the flags

if_nothing_left_found : (bs : Bytes) (f g : OpenFlags) → if_nothing_left bs f ≡ Some g → (bs ≡ []) × (f ≡ g)
if_nothing_left_found [] f g e = (refl, same_Some f g e)
if_nothing_left_found (b ∷ bs) f g e = absurd (cc)

-- the text of all flags that come after a flag
abbrev pub after_close_on_exec : OpenFlags → Bytes
after_close_on_exec f = []

abbrev pub after_directory : OpenFlags → Bytes
after_directory f = flag_text f.close_on_exec (codes "cloexec") ++ after_close_on_exec f

abbrev pub after_no_follow : OpenFlags → Bytes
after_no_follow f = flag_text f.directory (codes "dir") ++ after_directory f

abbrev pub after_exclusive : OpenFlags → Bytes
after_exclusive f = flag_text f.no_follow (codes "nofollow") ++ after_no_follow f

abbrev pub after_truncate : OpenFlags → Bytes
after_truncate f = flag_text f.exclusive (codes "excl") ++ after_exclusive f

abbrev pub after_create : OpenFlags → Bytes
after_create f = flag_text f.truncate (codes "trunc") ++ after_truncate f

abbrev pub after_append : OpenFlags → Bytes
after_append f = flag_text f.create (codes "create") ++ after_create f

abbrev pub after_mode : OpenFlags → Bytes
after_mode f = flag_text f.append (codes "append") ++ after_append f

pub flags_text-parts : (f : OpenFlags) → flags_text f ≡ mode_text f.mode ++ after_mode f
flags_text-parts f = simp (append_assoc, append-nil) refl

flags_after_found : (mode : Mode) (word : Bytes) (f : OpenFlags) → flags_after mode word ≡ Some f → (mode ≡ f.mode) × (word ≡ after_mode f)
flags_after_found mode word f e =
    let append = flag_at (codes "append") word in
    let create = flag_at (codes "create") append.1 in
    let truncate = flag_at (codes "trunc") create.1 in
    let exclusive = flag_at (codes "excl") truncate.1 in
    let no_follow = flag_at (codes "nofollow") exclusive.1 in
    let directory = flag_at (codes "dir") no_follow.1 in
    let close_on_exec = flag_at (codes "cloexec") directory.1 in
    let g : OpenFlags = record { mode = mode; append = append.0; create = create.0; truncate = truncate.0; exclusive = exclusive.0; no_follow = no_follow.0; directory = directory.0; close_on_exec = close_on_exec.0 } in
    let end = if_nothing_left_found close_on_exec.1 g f e in
    let encoded : word ≡ after_mode g =
    flag_found (codes "append") word
    ∙ ap (λ r. flag_text append.0 (codes "append") ++ r) (flag_found (codes "create") append.1
    ∙ ap (λ r. flag_text create.0 (codes "create") ++ r) (flag_found (codes "trunc") create.1
    ∙ ap (λ r. flag_text truncate.0 (codes "trunc") ++ r) (flag_found (codes "excl") truncate.1
    ∙ ap (λ r. flag_text exclusive.0 (codes "excl") ++ r) (flag_found (codes "nofollow") exclusive.1
    ∙ ap (λ r. flag_text no_follow.0 (codes "nofollow") ++ r) (flag_found (codes "dir") no_follow.1
    ∙ ap (λ r. flag_text directory.0 (codes "dir") ++ r) (flag_found (codes "cloexec") directory.1
    ∙ ap (λ r. flag_text close_on_exec.0 (codes "cloexec") ++ r) end.0)))))) in
    (ap (λ h. h.mode) end.1, encoded ∙ ap after_mode end.1)

flags_found : (word : Bytes) (f : OpenFlags) → parsed_flags word ≡ Some f → EncodesFlags f word
unfolding parsed_flags
flags_found word f e = by_mode (mode_at word) refl e
  where
    mode_found : (bs : Bytes) (mode : Mode) (rest : Bytes) → mode_at bs ≡ Some (mode, rest) → bs ≡ mode_text mode ++ rest
    mode_found [] mode rest h = absurd (cc)
    mode_found (b ∷ bs) mode rest h = cond_both (b == 114) (mode_after_r bs) (cond (b == 119) (Some (Write, bs)) None) (λ r. r ≡ Some (mode, rest) → b ∷ bs ≡ mode_text mode ++ rest)
        (λ is k. ap (λ c. c ∷ bs) (eqb-true b 114 is) ∙ after_r bs k)
        (λ is. cond_both (b == 119) (Some (Write, bs)) None (λ r. r ≡ Some (mode, rest) → b ∷ bs ≡ mode_text mode ++ rest)
        (λ w k.
        let parts = some_pair_parts Write mode bs rest k in
        ap (λ c. c ∷ bs) (eqb-true b 119 w) ∙ ap (λ r. 119 ∷ r) parts.1 ∙ ap (λ m. mode_text m ++ rest) parts.0)
        (λ w k. absurd (cc))) h
      where
        after_r : (cs : Bytes) → mode_after_r cs ≡ Some (mode, rest) → 114 ∷ cs ≡ mode_text mode ++ rest
        after_r [] k =
            let parts = some_pair_parts Read mode [] rest k in
            ap (λ r. 114 ∷ r) parts.1 ∙ ap (λ m. mode_text m ++ rest) parts.0
        after_r (c ∷ cs) k = cond_both (c == 119) (Some (ReadWrite, cs)) (Some (Read, c ∷ cs)) (λ r. r ≡ Some (mode, rest) → 114 ∷ c ∷ cs ≡ mode_text mode ++ rest)
            (λ w j.
            let parts = some_pair_parts ReadWrite mode cs rest j in
            ap (λ d. 114 ∷ d ∷ cs) (eqb-true c 119 w) ∙ ap (λ r. 114 ∷ 119 ∷ r) parts.1 ∙ ap (λ m. mode_text m ++ rest) parts.0)
            (λ w j.
            let parts = some_pair_parts Read mode (c ∷ cs) rest j in
            ap (λ r. 114 ∷ r) parts.1 ∙ ap (λ m. mode_text m ++ rest) parts.0) k

    by_mode : (p : Parsed Mode) → mode_at word ≡ p → flags_of_mode p ≡ Some f → word ≡ flags_text f
    by_mode None is h = absurd (cc)
    by_mode (Some p) is h =
        let flags = flags_after_found p.0 p.1 f h in
        mode_found word p.0 p.1 is ∙ ap (λ r. mode_text p.0 ++ r) flags.1 ∙ ap (λ m. mode_text m ++ after_mode f) flags.0 ∙ sym (flags_text-parts f)

-- ---- conversely

-- the bytes after a mode: none, or a flag
abbrev IsAfterMode : Bytes → Type 0
IsAfterMode [] = Unit {0}
IsAfterMode (b ∷ bs) = b ≡ 43

flag_after_mode : (b : Bool) (name rest : Bytes) → IsAfterMode rest → IsAfterMode (flag_text b name ++ rest)
flag_after_mode true name rest h = refl
flag_after_mode false name rest h = h

after_mode-begins : (f : OpenFlags) → IsAfterMode (after_mode f)
after_mode-begins f =
    flag_after_mode f.append (codes "append") (after_append f)
    (flag_after_mode f.create (codes "create") (after_create f)
    (flag_after_mode f.truncate (codes "trunc") (after_truncate f)
    (flag_after_mode f.exclusive (codes "excl") (after_exclusive f)
    (flag_after_mode f.no_follow (codes "nofollow") (after_no_follow f)
    (flag_after_mode f.directory (codes "dir") (after_directory f)
    (flag_after_mode f.close_on_exec (codes "cloexec") [] tt))))))

mode_after_r-flags : (rest : Bytes) → IsAfterMode rest → mode_after_r rest ≡ Some (Read, rest)
mode_after_r-flags [] h = refl
mode_after_r-flags (b ∷ bs) h = cond-false (b == 119) (Some (ReadWrite, bs)) (Some (Read, b ∷ bs)) (ap (λ c. c == 119) h)

mode_again : (mode : Mode) (rest : Bytes) → IsAfterMode rest → mode_at (mode_text mode ++ rest) ≡ Some (mode, rest)
mode_again Read rest h = mode_after_r-flags rest h
mode_again Write rest h = refl
mode_again ReadWrite rest h = refl

all_flags : (mode : Mode) (w w₁ w₂ w₃ w₄ w₅ w₆ w₇ : Bytes) (b₁ b₂ b₃ b₄ b₅ b₆ b₇ : Bool)
    → flag_at (codes "append") w ≡ (b₁, w₁) → flag_at (codes "create") w₁ ≡ (b₂, w₂) → flag_at (codes "trunc") w₂ ≡ (b₃, w₃)
    → flag_at (codes "excl") w₃ ≡ (b₄, w₄) → flag_at (codes "nofollow") w₄ ≡ (b₅, w₅) → flag_at (codes "dir") w₅ ≡ (b₆, w₆)
    → flag_at (codes "cloexec") w₆ ≡ (b₇, w₇)
    → flags_after mode w ≡ if_nothing_left w₇ (record { mode = mode; append = b₁; create = b₂; truncate = b₃; exclusive = b₄; no_follow = b₅; directory = b₆; close_on_exec = b₇ })
all_flags mode w w₁ w₂ w₃ w₄ w₅ w₆ w₇ b₁ b₂ b₃ b₄ b₅ b₆ b₇ e₁ e₂ e₃ e₄ e₅ e₆ e₇ = rw (e₁, e₂, e₃, e₄, e₅, e₆, e₇) refl

module _ (name : Bytes) (f : OpenFlags) where
  -- none of the later flags is this one
  abbrev Misses : Bytes → Bytes → Type 0
  Misses other rest = without_front (43 ∷ name) ((43 ∷ other) ++ rest) ≡ None

  past_close_on_exec : Misses (codes "cloexec") (after_close_on_exec f) → without_front (43 ∷ name) (after_directory f) ≡ None
  past_close_on_exec m = past_flag name (codes "cloexec") (after_close_on_exec f) f.close_on_exec m refl

  past_directory : Misses (codes "dir") (after_directory f) → Misses (codes "cloexec") (after_close_on_exec f) → without_front (43 ∷ name) (after_no_follow f) ≡ None
  past_directory d m = past_flag name (codes "dir") (after_directory f) f.directory d (past_close_on_exec m)

  past_no_follow : Misses (codes "nofollow") (after_no_follow f) → Misses (codes "dir") (after_directory f) → Misses (codes "cloexec") (after_close_on_exec f) → without_front (43 ∷ name) (after_exclusive f) ≡ None
  past_no_follow n d m = past_flag name (codes "nofollow") (after_no_follow f) f.no_follow n (past_directory d m)

  past_exclusive : Misses (codes "excl") (after_exclusive f) → Misses (codes "nofollow") (after_no_follow f) → Misses (codes "dir") (after_directory f) → Misses (codes "cloexec") (after_close_on_exec f) → without_front (43 ∷ name) (after_truncate f) ≡ None
  past_exclusive x n d m = past_flag name (codes "excl") (after_exclusive f) f.exclusive x (past_no_follow n d m)

  past_truncate : Misses (codes "trunc") (after_truncate f) → Misses (codes "excl") (after_exclusive f) → Misses (codes "nofollow") (after_no_follow f) → Misses (codes "dir") (after_directory f) → Misses (codes "cloexec") (after_close_on_exec f) → without_front (43 ∷ name) (after_create f) ≡ None
  past_truncate t x n d m = past_flag name (codes "trunc") (after_truncate f) f.truncate t (past_exclusive x n d m)

  past_create : Misses (codes "create") (after_create f) → Misses (codes "trunc") (after_truncate f) → Misses (codes "excl") (after_exclusive f) → Misses (codes "nofollow") (after_no_follow f) → Misses (codes "dir") (after_directory f) → Misses (codes "cloexec") (after_close_on_exec f) → without_front (43 ∷ name) (after_append f) ≡ None
  past_create c t x n d m = past_flag name (codes "create") (after_create f) f.create c (past_truncate t x n d m)

flags_after_again : (f : OpenFlags) → flags_after f.mode (after_mode f) ≡ Some f
flags_after_again f =
    all_flags f.mode (after_mode f) (after_append f) (after_create f) (after_truncate f) (after_exclusive f) (after_no_follow f) (after_directory f) (after_close_on_exec f)
    f.append f.create f.truncate f.exclusive f.no_follow f.directory f.close_on_exec
    (flag_again (codes "append") (after_append f) f.append (past_create (codes "append") f refl refl refl refl refl refl))
    (flag_again (codes "create") (after_create f) f.create (past_truncate (codes "create") f refl refl refl refl refl))
    (flag_again (codes "trunc") (after_truncate f) f.truncate (past_exclusive (codes "trunc") f refl refl refl refl))
    (flag_again (codes "excl") (after_exclusive f) f.exclusive (past_no_follow (codes "excl") f refl refl refl))
    (flag_again (codes "nofollow") (after_no_follow f) f.no_follow (past_directory (codes "nofollow") f refl refl))
    (flag_again (codes "dir") (after_directory f) f.directory (past_close_on_exec (codes "dir") f refl))
    (flag_again (codes "cloexec") (after_close_on_exec f) f.close_on_exec refl)

flags_again : (f : OpenFlags) (word : Bytes) → EncodesFlags f word → parsed_flags word ≡ Some f
unfolding parsed_flags
flags_again f word h =
    ap parsed_flags (h ∙ flags_text-parts f)
    ∙ ap flags_of_mode (mode_again f.mode (after_mode f) (after_mode-begins f))
    ∙ flags_after_again f

no_space_mode : (mode : Mode) → no_space (mode_text mode) ≡ true
no_space_mode Read = refl
no_space_mode Write = refl
no_space_mode ReadWrite = refl

no_space_flag : (b : Bool) (name rest : Bytes) → no_space name ≡ true → no_space rest ≡ true → no_space (flag_text b name ++ rest) ≡ true
no_space_flag true name rest h k = no_space-append (43 ∷ name) rest h k
no_space_flag false name rest h k = k

flags_whole : (f : OpenFlags) (word : Bytes) → EncodesFlags f word → no_space word ≡ true
flags_whole f word h =
    ap no_space (h ∙ flags_text-parts f)
    ∙ no_space-append (mode_text f.mode) (after_mode f) (no_space_mode f.mode)
    (no_space_flag f.append (codes "append") (after_append f) refl
    (no_space_flag f.create (codes "create") (after_create f) refl
    (no_space_flag f.truncate (codes "trunc") (after_truncate f) refl
    (no_space_flag f.exclusive (codes "excl") (after_exclusive f) refl
    (no_space_flag f.no_follow (codes "nofollow") (after_no_follow f) refl
    (no_space_flag f.directory (codes "dir") (after_directory f) refl
    (no_space_flag f.close_on_exec (codes "cloexec") [] refl refl)))))))

pub reads_flags : ReadsWord parsed_flags EncodesFlags
reads_flags = record { found = flags_found; again = flags_again; whole = flags_whole }

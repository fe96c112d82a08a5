-- The specification's walk, step by step.
use Rattle.std.proofs.Common.{◌≡◌, ℕ, zero, suc, ◌<◌, ◌≤◌, Bool, true, false, if◌then◌else◌, ◌==◌, nat_lt, List, [], ◌∷◌, length, Result, Err, refl, ap, ap₂, sym, ◌∙◌, arith}
use Rattle.std.proofs.lemmas.Bool.{lt-ltb, le-ltb, ne_eqb}
use Rattle.pv_model.specs.declared.errno.Errno.{Errno}
use Rattle.pv_model.specs.declared.errno.Errno.TheVariants.{ENOENT, ENAMETOOLONG}
use Rattle.pv_model.specs.declared.follow.Follow.{Follow}
use Rattle.pv_model.specs.Machine.{Bytes, is_empty, Tree, root, components, is_absolute, follows_last, end_mark, Walked, resolve}
use Rattle.pv_model.specs.Walk.{along, walk_with_links}
use Rattle.pv_namei.specs.declared.lead.Lead.{Lead}
use Rattle.pv_namei.specs.declared.walk.WalkState.{WalkState}
use Rattle.pv_namei.specs.Onward.{following, first_walk, remaining, led}

-- a walk goes along its components up to the first link
pub walk_with_links-along : (t : Tree) (last : Bool) (links : ℕ) (ps : List Bytes) (mark : Bool) (at : ℕ) → walk_with_links t last links ps mark at ≡ along t last (following t last links) ps mark at
walk_with_links-along t last zero ps mark at = refl
walk_with_links-along t last (suc links) ps mark at = refl

-- a walk continues where its first component leads
pub remaining-led : (t : Tree) (w : WalkState) (ps : List Bytes) (component : Bytes) (rest : List Bytes) → ps ≡ component ∷ rest → (r : Result Lead Errno)
    → along t w.last (following t w.last w.links) (component ∷ rest) w.mark w.at ≡ led t w.last (following t w.last w.links) rest w.mark w.at component r
    → remaining t w ps ≡ led t w.last (following t w.last w.links) rest w.mark w.at component r
remaining-led t w ps component rest is r leads =
    walk_with_links-along t w.last w.links ps w.mark w.at ∙ ap (λ ps. along t w.last (following t w.last w.links) ps w.mark w.at) is ∙ leads

-- ---- the walk of a path

pub empty-is : (path : Bytes) → is_empty path ≡ (length path == 0)
empty-is [] = refl
empty-is (b ∷ path) = sym (ne_eqb (length (b ∷ path)) 0 (omega arith))

picked : (empty long : Bool) (none past go : Walked) → empty ≡ false → long ≡ false → (if empty then none else if long then past else go) ≡ go
picked false false none past go e l = refl
picked true long none past go e l = cc
picked false true none past go e l = cc

refused : (empty long : Bool) (none past go : Walked) → empty ≡ false → long ≡ true → (if empty then none else if long then past else go) ≡ past
refused false true none past go e l = refl
refused true long none past go e l = cc
refused false false none past go e l = cc

pub resolve-empty : (t : Tree) (follow : Follow) (start : ℕ) (path : Bytes) → (length path == 0) ≡ true → resolve t follow start path ≡ Err ENOENT
unfolding resolve
resolve-empty t follow start path none =
    ap (λ b. if b then Err ENOENT else if nat_lt 1023 (length path) then Err ENAMETOOLONG
    else walk_with_links t (follows_last follow) 32 (components path) (end_mark follow path) (if is_absolute path then root else start)) (empty-is path ∙ none)

pub resolve-long : (t : Tree) (follow : Follow) (start : ℕ) (path : Bytes) → (length path == 0) ≡ false → 1023 < length path → resolve t follow start path ≡ Err ENAMETOOLONG
unfolding resolve
resolve-long t follow start path some long =
    refused (is_empty path) (nat_lt 1023 (length path)) (Err ENOENT) (Err ENAMETOOLONG) _ (empty-is path ∙ some) (lt-ltb 1023 (length path) long)

resolve-walk_with_links : (t : Tree) (follow : Follow) (start : ℕ) (path : Bytes) → (length path == 0) ≡ false → length path ≤ 1023
    → resolve t follow start path ≡ remaining t (first_walk start path follow) (components path)
unfolding resolve
resolve-walk_with_links t follow start path some short =
    picked (is_empty path) (nat_lt 1023 (length path)) (Err ENOENT) (Err ENAMETOOLONG) _ (empty-is path ∙ some) (le-ltb 1023 (length path) short)

-- it is the result of the walk that starts there
pub resolve-remaining : (t : Tree) (follow : Follow) (start : ℕ) (path : Bytes) → (length path == 0) ≡ false → length path ≤ 1023
    → (w : WalkState) (rest : List Bytes) → w ≡ first_walk start path follow → rest ≡ components path → resolve t follow start path ≡ remaining t w rest
resolve-remaining t follow start path some short w rest walk-is rest-is =
    resolve-walk_with_links t follow start path some short ∙ sym (ap₂ (remaining t) walk-is rest-is)

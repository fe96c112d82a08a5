-- Counts, and the permissions of all walks, with one more.
use Rattle.std.proofs.Common.{◌≡◌, ◌∙◌, ℕ, ◌+◌, Bool, true, false, ◌||◌, List, [], ◌∷◌, ◌++◌, length, length-append, refl, ap, ap₂, arith}
use Rattle.std.specs.Prelude.{min}
use Rattle.pv_model.specs.declared.perms.Perms.{Perms}
use Rattle.pv_model.specs.Machine.{Judged, join_permissions, no_permissions}
use Rattle.pv_model.specs.Answers.Needs.{last_of, permissions_asked}
use Rattle.pv_needs.specs.declared.process_images.TheConstants.{MANY}
use Rattle.pv_needs.specs.declared.process_images.Times.{Times}
use Rattle.pv_needs.specs.ProcessImages.{once_more, times_of}

last-more : (n line : ℕ) (lines : List ℕ) → last_of n (lines ++ line ∷ []) ≡ line
last-more n line [] = refl
last-more n line (m ∷ lines) = last-more m line lines

one-more : (n limit : ℕ) → min (n + 1) limit ≡ min (min n limit + 1) limit
one-more n limit = omega arith

-- the count with one more call
pub times-more : (lines : List ℕ) (line : ℕ) → times_of (lines ++ line ∷ []) ≡ once_more (times_of lines) line
times-more lines line =
    ap₂ (λ (n m : ℕ). let it : Times = record { count = n; last = m } in it)
    (ap (λ n. min n MANY) (length-append lines (line ∷ [])) ∙ one-more (length lines) MANY) (last-more 0 line lines)

or-assoc : (x y z : Bool) → (x || (y || z)) ≡ ((x || y) || z)
or-assoc true y z = refl
or-assoc false y z = refl

or-none : (x : Bool) → (x || false) ≡ x
or-none true = refl
or-none false = refl

joined : (p q : Perms) → p.r ≡ q.r → p.w ≡ q.w → p.x ≡ q.x → p.c ≡ q.c → p ≡ q
joined p q r w x c =
    ap (λ (b : Bool). let it : Perms = record { r = b; w = p.w; x = p.x; c = p.c } in it) r
    ∙ ap (λ (b : Bool). let it : Perms = record { r = q.r; w = b; x = p.x; c = p.c } in it) w
    ∙ ap (λ (b : Bool). let it : Perms = record { r = q.r; w = q.w; x = b; c = p.c } in it) x
    ∙ ap (λ (b : Bool). let it : Perms = record { r = q.r; w = q.w; x = q.x; c = b } in it) c

join-assoc : (p q s : Perms) → join_permissions p (join_permissions q s) ≡ join_permissions (join_permissions p q) s
join-assoc p q s = joined _ _ (or-assoc p.r q.r s.r) (or-assoc p.w q.w s.w) (or-assoc p.x q.x s.x) (or-assoc p.c q.c s.c)

pub join-none : (p : Perms) → join_permissions p no_permissions ≡ p
join-none p = joined _ _ (or-none p.r) (or-none p.w) (or-none p.x) (or-none p.c)

none-join : (p : Perms) → p ≡ join_permissions no_permissions p
none-join p = refl

-- the permissions with one more walk
pub permissions-more : (ws : List (ℕ × Judged)) (w : ℕ × Judged) → permissions_asked (ws ++ w ∷ []) ≡ join_permissions (permissions_asked ws) w.1.permissions
permissions-more [] w = join-none w.1.permissions ∙ none-join w.1.permissions
permissions-more (v ∷ ws) w =
    ap (join_permissions v.1.permissions) (permissions-more ws w) ∙ join-assoc v.1.permissions (permissions_asked ws) w.1.permissions

-- The lines about targets are those of all permissions that are asked.
use Rattle.std.proofs.Common.{◌≡◌, ◌∙◌, sym, ap, ap₂, Bool, true, false, not, ◌&&◌, ◌||◌, List, [], ◌∷◌, ◌++◌, flat_map, refl}
use Rattle.pv_model.specs.declared.perms.Perms.{Perms}
use Rattle.pv_model.specs.Machine.{permissions_lacked, AnswerLine, Judged, Observation, no_permissions, join_permissions}
use Rattle.pv_model.specs.Answers.Observed.{with_equal_key}
use Rattle.pv_model.specs.Answers.Policy.{new_permissions, new_permissions_lines, walks_asked}
use Rattle.pv_laws_answers.proofs.Lists.{map-among}
use Rattle.pv_laws_schedules.specs.Policy.{joined_new, joined_permissions, newly_asked, permissions_at_words, walks_by_words, TargetLinesAreOfPermissions}
use Rattle.pv_laws_classes.proofs.ReducedProcesses.{themselves}

lines-of : (had : Perms) (ws : List (Observation Judged)) → new_permissions had ws ≡ flat_map (λ l. new_permissions_lines l.0 l.1) (newly_asked had ws)
lines-of had [] = refl
lines-of had (w ∷ ws) = ap (λ (ls : List AnswerLine). new_permissions_lines (permissions_lacked had w.item.permissions) w ++ ls) (lines-of (join_permissions had w.item.permissions) ws)

all-lines : (gs : List (Observation Judged × List (Observation Judged)))
    → flat_map (λ g. new_permissions no_permissions g.1) gs ≡ flat_map (λ g. flat_map (λ l. new_permissions_lines l.0 l.1) (newly_asked no_permissions g.1)) gs
all-lines [] = refl
all-lines (g ∷ gs) = ap₂ (λ (xs ys : List AnswerLine). xs ++ ys) (lines-of no_permissions g.1) (all-lines gs)

-- ---- sets of permissions

perms-equal : (a b : Perms) → a.r ≡ b.r → a.w ≡ b.w → a.x ≡ b.x → a.c ≡ b.c → a ≡ b
perms-equal a b r w x c = λ i. record { r = r i; w = w i; x = x i; c = c i }

-- earlier, new and later permissions
one : (h w n j : Bool) → ((h || w) || n) ≡ ((h || w) || j) → (h || ((w && not h) || n)) ≡ (h || (w || j))
one true w n j same = refl
one false true n j same = refl
one false false n j same = same

joined-all : (had : Perms) (ws : List (Observation Judged)) → join_permissions had (joined_new (newly_asked had ws)) ≡ join_permissions had (joined_permissions ws)
joined-all had [] = refl
joined-all had (w ∷ ws) =
    let rest = joined-all (join_permissions had w.item.permissions) ws in
    let new = joined_new (newly_asked (join_permissions had w.item.permissions) ws) in
    let later = joined_permissions ws in
    perms-equal (join_permissions had (joined_new (newly_asked had (w ∷ ws)))) (join_permissions had (joined_permissions (w ∷ ws)))
    (one had.r w.item.permissions.r new.r later.r (ap (λ (p : Perms). p.r) rest)) (one had.w w.item.permissions.w new.w later.w (ap (λ (p : Perms). p.w) rest))
    (one had.x w.item.permissions.x new.x later.x (ap (λ (p : Perms). p.x) rest)) (one had.c w.item.permissions.c new.c later.c (ap (λ (p : Perms). p.c) rest))

pub target-lines : TargetLinesAreOfPermissions
target-lines rs = record {
  lines = all-lines (walks_by_words rs);
  all = λ g has.
      let from = map-among (with_equal_key (λ (w : Observation Judged). w.item.words) (walks_asked rs)) g _ (themselves (walks_by_words rs) g has) in
      ap (λ (x : Observation Judged × List (Observation Judged)). joined_new (newly_asked no_permissions x.1)) from.2
      ∙ joined-all no_permissions (with_equal_key (λ (w : Observation Judged). w.item.words) (walks_asked rs) from.0).1
      ∙ ap (λ (x : Observation Judged × List (Observation Judged)). permissions_at_words rs x.0.item.words) (sym from.2);
}

-- Sets of permissions, permission by permission.
use Rattle.std.proofs.Common.{◌≡◌, Bool, true, false, not, ◌&&◌, ◌||◌, List, [], ◌∷◌, fold, inl, inr, refl, ap, sym, ◌∙◌}
use Rattle.std.proofs.lemmas.Bool.{and_parts, and_from}
use Rattle.pv_model.specs.declared.perms.Perms.{Perms}
use Rattle.pv_model.specs.Machine.{permissions_lacked, join_permissions, covers}
use Rattle.pv_laws_answers.proofs.Lists.{Among}

-- whether a set has a permission if another has it
abbrev pub bit : Bool → Bool → Bool
bit g a = g || not a

pub covered-bits : (g a : Perms) → covers g a ≡ true → (bit g.r a.r ≡ true) × (bit g.w a.w ≡ true) × (bit g.x a.x ≡ true) × (bit g.c a.c ≡ true)
covered-bits g a is =
    let xyz = and_parts (bit g.r a.r && bit g.w a.w && bit g.x a.x) (bit g.c a.c) is in
    let xy = and_parts (bit g.r a.r && bit g.w a.w) (bit g.x a.x) xyz.0 in
    let x = and_parts (bit g.r a.r) (bit g.w a.w) xy.0 in
    (x.0, x.1, xy.1, xyz.1)

pub bits-covered : (g a : Perms) → bit g.r a.r ≡ true → bit g.w a.w ≡ true → bit g.x a.x ≡ true → bit g.c a.c ≡ true → covers g a ≡ true
bits-covered g a r w x c = and_from _ _ (and_from _ _ (and_from _ _ r w) x) c

pub lacked-asked : (h a p : Bool) → bit (a && not h) p ≡ true → bit a p ≡ true
lacked-asked h true p is = refl
lacked-asked h false p is = is

pub lacked-had : (h a p : Bool) → bit (a && not h) p ≡ true → bit h p ≡ true → bit false p ≡ true
lacked-had h a false is had = refl
lacked-had true true true is had = is
lacked-had true false true is had = is
lacked-had false a true is had = had

more-had : (h a p : Bool) → bit h p ≡ true → bit (h || a) p ≡ true
more-had true a p is = refl
more-had false true p is = refl
more-had false false p is = is

more-asked : (h a p : Bool) → bit a p ≡ true → bit (h || a) p ≡ true
more-asked true a p is = refl
more-asked false a p is = is

kept-bit : (used all e d p : Bool) → bit used p ≡ true → bit e p ≡ true → bit d (e && not (all && not used)) ≡ true → bit d p ≡ true
kept-bit used all e true p u has kept = refl
kept-bit used all e false false u has kept = refl
kept-bit true true true false true u has kept = kept
kept-bit true false true false true u has kept = kept
kept-bit true all false false true u has kept = has
kept-bit false all e false true u has kept = u

less-bit : (e d p : Bool) → bit e d ≡ true → bit d p ≡ true → bit e p ≡ true
less-bit true d p more has = refl
less-bit false d false more has = refl
less-bit false true true more has = more
less-bit false false true more has = has

pub covers-itself : (a : Perms) → covers a a ≡ true
covers-itself a = bits-covered a a (by a.r) (by a.w) (by a.x) (by a.c)
  where
    by : (b : Bool) → bit b b ≡ true
    by true = refl
    by false = refl

module _ (permission : Perms) where
  pub had-more : (had asked : Perms) → covers had permission ≡ true → covers (join_permissions had asked) permission ≡ true
  had-more had asked is =
      let b = covered-bits had permission is in
      bits-covered (join_permissions had asked) permission (more-had had.r asked.r permission.r b.0) (more-had had.w asked.w permission.w b.1) (more-had had.x asked.x permission.x b.2) (more-had had.c asked.c permission.c b.3)

  pub asked-more : (had asked : Perms) → covers asked permission ≡ true → covers (join_permissions had asked) permission ≡ true
  asked-more had asked is =
      let b = covered-bits asked permission is in
      bits-covered (join_permissions had asked) permission (more-asked had.r asked.r permission.r b.0) (more-asked had.w asked.w permission.w b.1) (more-asked had.x asked.x permission.x b.2) (more-asked had.c asked.c permission.c b.3)

  -- the join of sets covers each set that one of them covers
  fold-had : (had : Perms) (xs : List Perms) → covers had permission ≡ true → covers (fold join_permissions had xs) permission ≡ true
  fold-had had [] is = is
  fold-had had (x ∷ xs) is = fold-had (join_permissions had x) xs (had-more had x is)

  pub fold-covers : (had : Perms) (xs : List Perms) (x : Perms) → Among x xs → covers x permission ≡ true → covers (fold join_permissions had xs) permission ≡ true
  fold-covers had [] x h is = absurd h
  fold-covers had (y ∷ ys) x (inl e) is = fold-had (join_permissions had y) ys (asked-more had y (ap (λ (z : Perms). covers z permission) (sym e) ∙ is))
  fold-covers had (y ∷ ys) x (inr h) is = fold-covers (join_permissions had y) ys x h is

  -- without permissions that are not used, a set still covers the covered permissions that are used
  pub kept-covers : (used all held set : Perms) → covers used permission ≡ true → covers held permission ≡ true
      → covers set (permissions_lacked (permissions_lacked used all) held) ≡ true → covers set permission ≡ true
  kept-covers used all held set u has kept =
      let a = covered-bits used permission u in
      let b = covered-bits held permission has in
      let c = covered-bits set (permissions_lacked (permissions_lacked used all) held) kept in
      bits-covered set permission (kept-bit used.r all.r held.r set.r permission.r a.0 b.0 c.0) (kept-bit used.w all.w held.w set.w permission.w a.1 b.1 c.1)
      (kept-bit used.x all.x held.x set.x permission.x a.2 b.2 c.2) (kept-bit used.c all.c held.c set.c permission.c a.3 b.3 c.3)

  pub less-covers : (held set : Perms) → covers held set ≡ true → covers set permission ≡ true → covers held permission ≡ true
  less-covers held set more has =
      let a = covered-bits held set more in
      let b = covered-bits set permission has in
      bits-covered held permission (less-bit held.r set.r permission.r a.0 b.0) (less-bit held.w set.w permission.w a.1 b.1) (less-bit held.x set.x permission.x a.2 b.2) (less-bit held.c set.c permission.c a.3 b.3)

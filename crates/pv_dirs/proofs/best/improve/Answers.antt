use Rattle.std.proofs.Common.{◌≡◌, ◌<◌, ◌↔◌, IsTrue, false, length, get_or, Option, None, Some, refl, sym, subst}
use Rattle.std.specs.Prelude.{IfNone, IfSome}
use Rattle.std.specs.Option.{option_copied}
use Rattle.pv_model.specs.Machine.{Bytes}
use Rattle.pv_dirs.specs.Listing.{better_of, IsShared}
use Rattle.pv_dirs.specs.Slots.{name_in_slot}
use Rattle.pv_dirs.specs.declared.best.Mark.{Mark}
use Rattle.pv_dirs.proofs.CommonPrefixes.{unmarked}
use Rattle.pv_dirs.proofs.best.improve.Goals as goal

pub returns-then-not-has_mark-clause-best : goal.returns-then-not-has_mark-clause-best
returns-then-not-has_mark-clause-best c =
    let last = option_copied c.args.last in
    let best = c.args.best.now in
    let room = c.room_in.result.now in
    elim c.args.mark.now as (λ mark. c.args.mark.now ≡ mark → best ≡ better_of last (name_in_slot c.args.slot.now) best) [
      | None ↦ λ is. let no : IsTrue false = subst (λ (mark : Option Mark). IfNone mark (IsTrue false)) is c.if-not-has_mark.ensures.free in cc
      | Some m ↦ λ is.
          let shared = subst (λ (mark : Option Mark). IfSome mark (λ m. IsShared last best m.at m.byte)) is c.requires.shared in
          let has = subst (λ (mark : Option Mark). IfSome mark (λ m. IsTrue false ↔ ((m.at < length room) × (get_or room m.at 0 ≡ m.byte)))) is c.if-not-has_mark.ensures.has in
          unmarked last best c.args.slot.now m.at m.byte shared
          (λ there. let no : IsTrue false = has.1 (subst (λ (xs : Bytes). (m.at < length xs) × (get_or xs m.at 0 ≡ m.byte)) (sym c.room_in.ensures) there) in cc)
    ] refl

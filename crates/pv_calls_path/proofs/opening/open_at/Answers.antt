use Rattle.std.proofs.Common.{◌∙◌, ap, sym, refl}
use Rattle.std.proofs.lemmas.Result.{err_from_is_err_and}
use Rattle.pv_calls_plain.specs.OfCallsState.Attempts.{collected_attempt}
use Rattle.pv_model.specs.Machine.{least_free, process_at}
use Rattle.pv_calls_path.proofs.CheckedWalks.{reached-as, recorded, stopped-as}
use Rattle.pv_laws_states.proofs.ValidByTree.{place-there}
use Rattle.pv_calls_path.proofs.OpenCalls.{few_descriptors, few_files, low_files, open_stopped, open_reached}
use Rattle.pv_calls_path.proofs.opening.open_at.Goals as goal

pub returns-in_err-place-clause-performed : goal.returns-in_err-place-clause-performed
returns-in_err-place-clause-performed g c =
    let s = c.args.system.now.parts in
    let p = err_from_is_err_and c.from_residual.result c.from_residual.ensures.1 in
    record {
      as_defined = λ me at. rw (p.1, p.2) (ap collected_attempt (open_stopped s c.args.pid me c.args.start c.args.path.now c.args.flags (sym c.contradicts.ensures ∙ c.if-contradicts.false) (c.in-Ok.ensures.checked me at)
          (few_descriptors me c.record.result.now (recorded (process_at s c.args.pid) me c.record.result.now at c.record.ensures) c.has_room.result c.has_room.ensures.0 c.if-not-has_room.false)
          (few_files (least_free s.files) c.has_room-2.result (λ has. low_files s.files c.files.result.now.files c.files.ensures (c.has_room-2.ensures.0 has)) c.if-not-has_room-2.false)
          c.in-Ok.directory (c.in-Ok.ensures.start me at)
          _ (stopped-as s me c.in-Ok.directory c.open-walk.ensures _ (c.in_err-place.ensures.stops.stopped me at))));
      unchanged = rw p.1 refl;
      small = rw p.1 tt;
    }

pub open_there-requires-clause-there : goal.open_there-requires-clause-there
open_there-requires-clause-there g c =
    place-there c.args.system.now.parts.tree c.requires.caller.whole.tree c.in_ok-place.place c.in-Some.node c.in_ok-place.ensures.reaches.fine (sym c.in-Some.ensures)

pub returns-in-Some-clause-performed : goal.returns-in-Some-clause-performed
returns-in-Some-clause-performed g c =
    let s = c.args.system.now.parts in
    let opens = c.open_there.ensures.performed c.in_ok-place.place (sym c.in-Some.ensures) in
    record {
      as_defined = λ me at. ap collected_attempt (open_reached s c.args.pid me c.args.start c.args.path.now c.args.flags (sym c.contradicts.ensures ∙ c.if-contradicts.false) (c.in-Ok.ensures.checked me at)
          (few_descriptors me c.record.result.now (recorded (process_at s c.args.pid) me c.record.result.now at c.record.ensures) c.has_room.result c.has_room.ensures.0 c.if-not-has_room.false)
          (few_files (least_free s.files) c.has_room-2.result (λ has. low_files s.files c.files.result.now.files c.files.ensures (c.has_room-2.ensures.0 has)) c.if-not-has_room-2.false)
          c.in-Ok.directory (c.in-Ok.ensures.start me at)
          c.in_ok-place.place (reached-as s me c.in-Ok.directory c.open-walk.ensures c.in_ok-place.place (c.in_ok-place.ensures.reaches.reached me at)))
          ∙ opens.as_defined me at;
      unchanged = opens.unchanged;
      small = opens.small;
    }

pub returns-in-None-clause-performed : goal.returns-in-None-clause-performed
returns-in-None-clause-performed g c =
    let s = c.args.system.now.parts in
    record {
      as_defined = λ me at. ap collected_attempt (open_reached s c.args.pid me c.args.start c.args.path.now c.args.flags (sym c.contradicts.ensures ∙ c.if-contradicts.false) (c.in-Ok.ensures.checked me at)
          (few_descriptors me c.record.result.now (recorded (process_at s c.args.pid) me c.record.result.now at c.record.ensures) c.has_room.result c.has_room.ensures.0 c.if-not-has_room.false)
          (few_files (least_free s.files) c.has_room-2.result (λ has. low_files s.files c.files.result.now.files c.files.ensures (c.has_room-2.ensures.0 has)) c.if-not-has_room-2.false)
          c.in-Ok.directory (c.in-Ok.ensures.start me at)
          c.in_ok-place.place (reached-as s me c.in-Ok.directory c.open-walk.ensures c.in_ok-place.place (c.in_ok-place.ensures.reaches.reached me at)))
          ∙ c.create_there.ensures.performed.as_defined me at;
      unchanged = c.create_there.ensures.performed.unchanged;
      small = c.create_there.ensures.performed.small;
    }

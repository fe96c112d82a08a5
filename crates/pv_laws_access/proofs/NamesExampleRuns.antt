-- The names that a worked run returns, and the listing of its tree, by computation.
use Rattle.std.proofs.Common.{pos, false, codes, Option, None, Some, refl}
use Rattle.pv_model.specs.declared.call.Call.TheVariants as TheCall
use Rattle.pv_model.specs.declared.open_flags.Mode.TheVariants.{Read}
use Rattle.pv_model.specs.Machine.{Bytes, machine_on_literals, OpenFile, Process, State, process_at}
use Rattle.pv_laws_states.specs.ExampleStates.{no_programs}
use Rattle.pv_laws_states.proofs.ExampleStates.{or_first}
use Rattle.pv_laws_access.specs.Origins.{MakesCall}
use Rattle.pv_laws_access.proofs.NextNames.{reported-name}
use Rattle.pv_laws_access.specs.NameExamples.{state_after_steps}
use Rattle.pv_laws_access.specs.Order.{ReportsBy}
use Rattle.pv_laws_access.specs.OrderExamples.{reporting, reported_state, NamesAreReported}

abbrev caller : State → Process
caller s = or_first (process_at s 1)

-- the open file with its last name
abbrev listing_file : Option Bytes → OpenFile
listing_file last = record { node = 3; mode = Read; append = false; offset = 0; listed = last }

made-first : MakesCall reported_state 1 (caller reported_state) (TheCall.Getdents (pos 3))
unfolding machine_on_literals
made-first = record { at = refl; next_is = refl; held = refl }

reported-first : ReportsBy no_programs reported_state 1 3 (codes "a")
unfolding machine_on_literals
reported-first = record {
  me = caller reported_state;
  d = pos 3;
  file = listing_file None;
  made = made-first;
  opened = refl;
  directory = refl;
  reported = reported-name no_programs reported_state 1 (caller reported_state) (pos 3) 3 (listing_file None) made-first refl refl (codes "a") refl;
  some = λ no. cc no;
}

abbrev next_state : State
next_state = state_after_steps reporting 6

made-second : MakesCall next_state 1 (caller next_state) (TheCall.Getdents (pos 3))
unfolding machine_on_literals
made-second = record { at = refl; next_is = refl; held = refl }

reported-second : ReportsBy no_programs next_state 1 3 (codes "b")
unfolding machine_on_literals
reported-second = record {
  me = caller next_state;
  d = pos 3;
  file = listing_file (Some (codes "a"));
  made = made-second;
  opened = refl;
  directory = refl;
  reported = reported-name no_programs next_state 1 (caller next_state) (pos 3) 3 (listing_file (Some (codes "a"))) made-second refl refl (codes "b") refl;
  some = λ no. cc no;
}

pub names-reported : NamesAreReported
unfolding machine_on_literals
names-reported = record {
  a = reported-first;
  stays = refl;
  b = reported-second;
  no_more = refl;
  ascending = refl;
  lines = refl;
  not_by_bytes = refl;
}

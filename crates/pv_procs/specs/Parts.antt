-- The record of a live process as a part of the specification's process.
use Rattle.std.specs.Prelude.{is_some, ◌&&◌, if◌then◌else◌, [], map, None}
use Rattle.pv_model.specs.Calls.Processes.{descriptor_after_exec}
use Rattle.pv_model.specs.Machine.{Process, first_process}
use Rattle.pv_model.specs.State.{no_registers, no_bytes}
use Rattle.pv_procs.specs.declared.record.ProcessRecord.{ProcessRecord}

abbrev pub record_of : Process → ProcessRecord
record_of p = record {
  pledge = record { promises = p.promises; execpromises = p.execpromises };
  unveiled = record { table = p.table; locked = p.locked };
  directory = p.directory;
  descriptors = p.descriptors;
  context = record { line = p.line; registers = p.registers; buffer = p.buffer };
}

-- a process with another record
abbrev pub with_record : Process → ProcessRecord → Process
with_record p r = record p {
  promises = r.pledge.promises;
  execpromises = r.pledge.execpromises;
  table = r.unveiled.table;
  locked = r.unveiled.locked;
  directory = r.directory;
  descriptors = r.descriptors;
  line = r.context.line;
  registers = r.context.registers;
  buffer = r.context.buffer;
}

-- the record of a process before its first step
abbrev pub first_record : ProcessRecord
first_record = record_of (first_process [])

-- the record after execve
abbrev pub after_exec : ProcessRecord → ProcessRecord
after_exec r = record {
  pledge = record { promises = r.pledge.execpromises; execpromises = r.pledge.execpromises };
  unveiled = record {
    table = if is_some r.pledge.execpromises then r.unveiled.table else None;
    locked = is_some r.pledge.execpromises && r.unveiled.locked;
  };
  directory = r.directory;
  descriptors = map descriptor_after_exec r.descriptors;
  context = record { line = 1; registers = no_registers; buffer = no_bytes };
}

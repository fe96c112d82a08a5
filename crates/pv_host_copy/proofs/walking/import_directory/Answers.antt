use Rattle.std.proofs.Common.{◌∙◌, ◌<◌, [], Ok, Err, ap, refl, subst, sym}
use Rattle.std.specs.Prelude.{IfSome}
use Rattle.pv_host_copy.specs.Gathered.{gather}
use Rattle.pv_host_copy.specs.Paths.{path_under}
use Rattle.pv_host_copy.specs.Reporting.{IsFewer, ReportsEntry}
use Rattle.pv_host_copy.specs.Stopped.{copy_stop_of}
use Rattle.pv_host_copy.specs.Walking.{TakesNode}
use Rattle.pv_host_copy.proofs.ImportSteps.{goes_if-residual}
use Rattle.pv_host_copy.proofs.DirectoryDescent.{GoesOn, goes_on-start, goes_on-unread, goes_on-end, goes_on-next, goes_on-stops, steps_left, steps-end, steps-next}
use Rattle.pv_host_copy.proofs.walking.import_directory.Goals as goal

pub loop-current-init : goal.loop-current-init
loop-current-init g c =
    let rest = g.D.HostDirectory.rest in
    let before = c.args.importing.now in
    record {
      version = refl;
      goes =
          goes_on-start rest before.version before before (rest c.args.directory) c.new-reading.result.items c.push.new.self.items
          (record { directory = c.args.directory; path = c.new-path.result }) c.new-reading.ensures.items c.in_ok-push.ensures.items c.new-path.ensures.items refl refl;
    }

pub returns-in_err-entry-clause-goes : goal.returns-in_err-entry-clause-goes
returns-in_err-entry-clause-goes g c =
    let rest = g.D.HostDirectory.rest in
    let before = c.args.importing.now in
    let now = c.loop-current.importing in
    let fault = c.in_err-entry.field-0.0 in
    goes_if-residual (rest c.args.directory) (gather before.version []) before c.from_residual-in_err-entry.result now (copy_stop_of fault) c.from_residual-in_err-entry.ensures.1
    (goes_on-unread rest before.version before now c.pop.new.self.items c.in-Some.current c.loop-current.reading.items c.in-Some.ensures.items (rest c.args.directory) fault c.next.result
    c.loop-current.invariant.goes c.in_err-entry.was c.next.ensures.known)

pub loop-current-smaller-in_default-2 : goal.loop-current-smaller-in_default-2
loop-current-smaller-in_default-2 g c =
    steps-end g.D.HostDirectory.left c.pop.new.self.items c.in-Some.current c.loop-current.reading.items c.in-Some.ensures.items

pub loop-current-preserved-in_default-2 : goal.loop-current-preserved-in_default-2
loop-current-preserved-in_default-2 g c =
    let rest = g.D.HostDirectory.rest in
    let bytes = g.D.Reader.HostFile.bytes in
    let before = c.args.importing.now in
    let now = c.loop-current.importing in
    record {
      version = c.loop-current.invariant.version;
      goes =
          goes_on-end rest before.version before now c.pop.new.self.items c.in-Some.current c.loop-current.reading.items c.in-Some.ensures.items bytes
          (rest c.args.directory) (rest c.next.new.self) c.loop-current.invariant.goes
          (subst (λ reported. IfSome (rest c.in-Some.current.directory) (λ entries. ReportsEntry rest bytes entries reported (rest c.next.new.self))) c.in_default-2.is c.in_ok-entry.ensures.reported);
    }

pub returns-in_err-opened-clause-goes : goal.returns-in_err-opened-clause-goes
returns-in_err-opened-clause-goes g c =
    let rest = g.D.HostDirectory.rest in
    let bytes = g.D.Reader.HostFile.bytes in
    let before = c.args.importing.now in
    let now = c.loop-current.importing in
    let next = c.take.new.importing in
    let current = c.in-Some.current in
    let e = c.in-Some-2.entry in
    let s = c.in_err-opened.field-0.0 in
    let at = c.in_ok-path.ensures ∙ ap (λ d. path_under d c.deref-in-Some.result.now) c.deref.ensures.value ∙ ap (path_under current.path.items) c.deref-in-Some.ensures.value in
    goes_if-residual (rest c.args.directory) (gather before.version []) before c.from_residual-in_err-opened.result next s c.from_residual-in_err-opened.ensures.1
    (goes_on-stops rest before.version before now c.pop.new.self.items current c.loop-current.reading.items c.in-Some.ensures.items bytes next (sym c.loop-current.invariant.version) e
    (record { directory = c.next.new.self; path = current.path }) refl
    (subst (λ reported. IfSome (rest current.directory) (λ entries. ReportsEntry rest bytes entries reported (rest c.next.new.self))) c.in-Some-2.is c.in_ok-entry.ensures.reported)
    (rest c.args.directory) s c.loop-current.invariant.goes (subst (λ p. TakesNode bytes p e.node now (Err s) next) at c.in_err-opened.ensures.takes))

pub loop-current-smaller : goal.loop-current-smaller
loop-current-smaller g c =
    let left = g.D.HostDirectory.left in
    let bytes = g.D.Reader.HostFile.bytes in
    let current = c.in-Some.current in
    subst (λ ds. steps_left left ds < steps_left left c.loop-current.reading.items) (sym c.in_ok-push_opened.ensures)
    (steps-next left c.pop.new.self.items current c.loop-current.reading.items c.in-Some.ensures.items bytes c.in_ok-path.path.items c.loop-current.importing c.take.new.importing
    (record { directory = c.next.new.self; path = current.path }) c.in-Some-2.entry c.in_ok-opened.opened
    (subst (λ reported. IsFewer left (left current.directory) reported (left c.next.new.self)) c.in-Some-2.is c.in_ok-entry.ensures.fewer) c.in_ok-opened.ensures.takes)

pub loop-current-preserved : goal.loop-current-preserved
loop-current-preserved g c =
    let rest = g.D.HostDirectory.rest in
    let bytes = g.D.Reader.HostFile.bytes in
    let before = c.args.importing.now in
    let now = c.loop-current.importing in
    let next = c.take.new.importing in
    let current = c.in-Some.current in
    let e = c.in-Some-2.entry in
    let opened = c.in_ok-opened.opened in
    let at = c.in_ok-path.ensures ∙ ap (λ d. path_under d c.deref-in-Some.result.now) c.deref.ensures.value ∙ ap (path_under current.path.items) c.deref-in-Some.ensures.value in
    record {
      version = c.in_ok-opened.ensures.version ∙ c.loop-current.invariant.version;
      goes =
          subst (λ ds. GoesOn rest before.version (rest c.args.directory) ds before next) (sym c.in_ok-push_opened.ensures)
          (goes_on-next rest before.version before now c.pop.new.self.items current c.loop-current.reading.items c.in-Some.ensures.items bytes next (sym c.loop-current.invariant.version) e
          (record { directory = c.next.new.self; path = current.path }) refl
          (subst (λ reported. IfSome (rest current.directory) (λ entries. ReportsEntry rest bytes entries reported (rest c.next.new.self))) c.in-Some-2.is c.in_ok-entry.ensures.reported)
          (rest c.args.directory) opened c.loop-current.invariant.goes (subst (λ p. TakesNode bytes p e.node now (Ok opened) next) at c.in_ok-opened.ensures.takes));
    }

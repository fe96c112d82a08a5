use Rattle.std.proofs.Common.{sym, ◌∙◌}
use Rattle.std.specs.Option.{option_copied}
use Rattle.pv_dirs.specs.Dirs.{directory_bytes}
use Rattle.pv_dirs.proofs.AscendingNames.{next_name-ascending}
use Rattle.pv_dirs.proofs.dir.Dir.next_slot.Goals as goal

pub returns-in-Some : goal.returns-in-Some
returns-in-Some c =
    next_name-ascending c.args.self.now.inodes.now.version (directory_bytes c.args.self.now) (c.requires.led.ordered (sym c.ascends.ensures ∙ c.if-ascends.true))
    (option_copied c.args.last) c.in-Some.slot c.requires.distinct c.in-Some.ensures.within c.in-Some.ensures.past

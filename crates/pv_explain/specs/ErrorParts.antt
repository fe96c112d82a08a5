-- The reasons of errors, as the code has them.
use Rattle.std.specs.Prelude.{codes}
use Rattle.pv_model.specs.declared.call.Start.{Start}
use Rattle.pv_model.specs.declared.kind.Kind.{Kind}
use Rattle.pv_model.specs.declared.kind.Kind.TheVariants.{Directory, File, Executable, Symlink}
use Rattle.pv_model.specs.Machine.{Bytes}
use Rattle.pv_explain.specs.declared.errors.ErrorReason.{ErrorReason}
use Rattle.pv_explain.specs.declared.errors.ErrorReason.TheVariants.{NoDescriptor, Opened, Keyword, Permission, OnePath, TwoPaths, Words}
use Rattle.pv_explain.specs.declared.errors.PathPrefix.{PathPrefix}
use Rattle.pv_explain.specs.Errors.{PrefixEnd, Reason, no_descriptor, open_descriptor, unknown_keyword, unknown_permission, one_path, two_paths, in_words}

abbrev pub prefix_in : PathPrefix → PrefixEnd
prefix_in x = record { path = x.path.now; end = x.end }

abbrev pub reason_in : ErrorReason → Reason
reason_in (NoDescriptor d) = no_descriptor d
reason_in (Opened d node mode) = open_descriptor d node mode
reason_in (Keyword word) = unknown_keyword word.now
reason_in (Permission byte) = unknown_permission byte
reason_in (OnePath first) = one_path (prefix_in first)
reason_in (TwoPaths first second) = two_paths (prefix_in first) (prefix_in second)
reason_in (Words words) = in_words words.now

abbrev pub words_of_kind : Kind → Bytes
words_of_kind Directory = codes " is a directory"
words_of_kind File = codes " is a file"
words_of_kind Executable = codes " is an executable file"
words_of_kind Symlink = codes " is a link"

-- A run after which files are sealed and frozen, by computation.
use Rattle.std.proofs.Common.{[], ◌∷◌, refl, inl}
use Rattle.pv_model.specs.Machine.{text_at, read_manifest, add_entry, read_program, machine_on_literals, first_state}
use Rattle.pv_model.specs.Grammar.Arguments.{parsed_flags}
use Rattle.pv_model.specs.Grammar.Instructions.{instruction_by}
use Rattle.pv_model.specs.Grammar.Manifests.{entry_by}
use Rattle.pv_laws_runs.specs.Examples.{manifest, tree_with_secret, restricting, SecrecyExamples}
use Rattle.pv_laws_runs.specs.Starts.{DescribesTree}

makes : DescribesTree manifest tree_with_secret
unfolding machine_on_literals read_manifest entry_by add_entry read_program instruction_by text_at parsed_flags
makes = record { are_bytes = refl; manifest = _; read = inl refl; tree = refl }

pub secrets-happen : SecrecyExamples
unfolding machine_on_literals read_manifest entry_by add_entry read_program instruction_by text_at parsed_flags
secrets-happen = record {
  reached = record { tree = tree_with_secret; given = inl makes; first = first_state tree_with_secret restricting; boots = refl; pids = 1 ∷ 1 ∷ 1 ∷ 1 ∷ []; reaches = refl };
  exposed = refl;
  sealed = record { file = refl; sealed = refl };
  not_frozen = refl;
  written = refl;
  frozen = record { file = refl; frozen = refl };
}

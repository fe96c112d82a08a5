-- Sequences of pointers.
use Rattle.std.specs.Prelude.{ℕ, List, take, flat_map}
use Rattle.pv_model.specs.Machine.{Bytes, block}
use Rattle.pv_model.specs.Image.{pointers}

-- the first `count` pointers in bytes, as a definition that proofs unfold only on request
unfoldable pub pointer_row : ℕ → Bytes → List ℕ
pointer_row count bytes = pointers count bytes

-- the first `count` pointers in blocks of an image
abbrev pub pointed_row : ℕ → Bytes → List ℕ → List ℕ
pointed_row count bytes blocks = take count (flat_map (λ k. pointer_row 256 (block bytes k)) blocks)

-- What a walk over the chunks of a text still has before it.
use Rattle.std.specs.Prelude.{ℕ, List, [], Option, Some, None}
use Rattle.std.specs.Borrow.{Bor}
use Rattle.zs_keys.specs.Text.{chunks}
use Rattle.zs_tree.specs.declared.chunks.Chunks.{Chunks}

-- the chunks of the text that is left, if one is
abbrev pub chunks_of_rest : Option (Bor (List ℕ)) → List (List ℕ)
chunks_of_rest None = []
chunks_of_rest (Some text) = chunks text.now

-- the chunks that are left
abbrev pub chunks_left : Chunks → List (List ℕ)
chunks_left c = chunks_of_rest c.rest

use Rattle.std.proofs.Common.{◌≡◌, ◌++◌, length}
use Rattle.std.specs.Prelude.{string_bytes}
use Rattle.zs_keys.specs.Canonize.{squeezed_chunk}
use Rattle.zs_keys.proofs.canonize.squeezed_chunk.Given as goal
use denote.Shadow.{shadow}
use denote.Text.{Utf8}

abbrev pub invariant-loop-front : goal.invariant-loop-front
invariant-loop-front l = record {
  form : squeezed_chunk l.chunk ≡ string_bytes l.text ++ squeezed_chunk l.rest;
  utf8 : shadow (Utf8 l.rest);
}

abbrev pub decreases-loop-front : goal.decreases-loop-front
decreases-loop-front l = length l.rest

-- What a canonical form is when part of it is written: words of its body, which no public contract needs.
use Rattle.std.specs.Prelude.{ℕ, Bool, false, List, [], ◌∷◌, ◌++◌, string_bytes, if◌then◌else◌}
use Rattle.zs_keys.specs.Canonize.{sink}
use Rattle.zs_keys.specs.declared.canonize.Writing.{Writing}

-- the text with one chunk more
abbrev pub with_chunk : Bool → List ℕ → List ℕ → List ℕ
with_chunk is_first text chunk = if is_first then text ++ chunk else text ++ (0x2f ∷ chunk)

-- the text with these chunks behind it
abbrev pub with_chunks : Bool → List ℕ → List (List ℕ) → List ℕ
with_chunks is_first text [] = text
with_chunks is_first text (c ∷ cs) = with_chunks false (with_chunk is_first text c) cs

-- all of the form, where its rest, but for a `**` that still waits, is these chunks
abbrev pub written_text : Writing → List (List ℕ) → List ℕ
written_text w cs = with_chunks w.is_first (string_bytes w.text) (if w.has_run then sink cs else cs)

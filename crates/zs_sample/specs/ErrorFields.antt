use Rattle.std.specs.Prelude.{ℕ, List}

-- the slices of an error's payload, and the characters of its encoding
pub record ErrorFields : Type 0 where
  pub payload : List (List ℕ)
  pub encoding : List ℕ

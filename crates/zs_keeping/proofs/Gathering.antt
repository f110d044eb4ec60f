-- The bytes of a payload in one slice.
use Rattle.std.proofs.Common.{◌≡◌, ◌==◌, ℕ, true, false, List, [], ◌∷◌, length, sym, ap, arith}
use Rattle.std.proofs.lemmas.Bool.{false≢true, eqb-true}
use Rattle.std.proofs.lemmas.List.{append-nil}
use Rattle.zs_bytes.specs.Payload.{bytes_of, one_slice}

-- a payload of one slice that has a byte is as its bytes in one slice
pub gathered_already : (slices : List (List ℕ)) → (length (bytes_of slices) == 0) ≡ false → (length slices == 1) ≡ true → slices ≡ one_slice (bytes_of slices)
gathered_already [] some one = absurd (false≢true one)
gathered_already (slice ∷ []) some one = rw some (ap (λ (bytes : List ℕ). bytes ∷ []) (sym (append-nil slice)))
gathered_already (first ∷ second ∷ slices) some one = absurd (omega (arith, eqb-true (length (first ∷ second ∷ slices)) 1 one))

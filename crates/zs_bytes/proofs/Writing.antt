-- What a writer holds, as bytes.
use Rattle.std.proofs.Common.{◌≡◌, ℕ, ◌+◌, List, [], ◌∷◌, ◌++◌, length, refl, ap, ◌∙◌, arith, length-append, ◌==◌, false}
use Rattle.std.specs.List.{concat}
use Rattle.std.proofs.lemmas.List.{append-nil}
use Rattle.std.proofs.lemmas.Bool.Decides.{nat_tests}
use Rattle.zs_bytes.specs.Payload.{bytes_of, one_slice}
use Rattle.zs_bytes.specs.Written.{Written, slices_written, bytes_written}
use Rattle.zs_bytes.proofs.Joining.{concat-append}

-- one slice has the bytes that it is made of
pub bytes-one_slice : (bytes : List ℕ) → bytes_of (one_slice bytes) ≡ bytes
bytes-one_slice [] = refl
bytes-one_slice (b ∷ bytes) =
    let none : (length (b ∷ bytes) == 0) ≡ false = grind (arith, nat_tests) in
    rw none (append-nil (b ∷ bytes))

-- the slices of what was written have its bytes
pub bytes-written : (w : Written) → bytes_of (slices_written w) ≡ bytes_written w
bytes-written w = concat-append w.slices (one_slice w.tail) ∙ ap (λ (t : List ℕ). concat w.slices ++ t) (bytes-one_slice w.tail)

-- how many bytes there are once a payload was put behind
pub length-appended : (w : Written) (value new : List (List ℕ)) (tail : List ℕ) → new ≡ slices_written w ++ value → tail ≡ [] → length (bytes_written (record { slices = new; tail = tail })) ≡ length (bytes_written w) + length (bytes_of value)
length-appended w value new tail all none =
    let joined : bytes_of new ≡ bytes_written w ++ bytes_of value = ap concat all ∙ concat-append (slices_written w) value ∙ ap (λ (t : List ℕ). t ++ concat value) (bytes-written w) in
    ap (λ (t : List ℕ). length (concat new ++ t)) none ∙ ap (λ (t : List ℕ). length t) (append-nil (concat new) ∙ joined) ∙ length-append (bytes_written w) (bytes_of value)

-- A copy of counts has the same members.
use Rattle.std.proofs.Common.{◌≡◌, ◌<◌, ℕ, List, [], ◌∷◌, map, refl, sym, ap, ◌∙◌, subst}
use Rattle.std.specs.Prelude.{String}
use Rattle.std.specs.List.{AllZip}
use Rattle.std.specs.String.{string_bytes}
use Rattle.zs_members.specs.Members.{Member, member_of}
use Rattle.zs_members.proofs.Mapped.{AreSome}

pub same_members : {A : Type 0} (xs ys : List (String A × ℕ)) → AllZip (λ p q. (string_bytes q.0 ≡ string_bytes p.0) × (q.1 ≡ p.1)) xs ys → map member_of ys ≡ map member_of xs
same_members [] [] same = refl
same_members [] (y ∷ ys) same = absurd same
same_members (x ∷ xs) [] same = absurd same
same_members (x ∷ xs) (y ∷ ys) same =
    ap (λ (name : List ℕ). record { name = name; count = y.1 } ∷ map member_of ys) same.0.0
    ∙ ap (λ (count : ℕ). record { name = string_bytes x.0; count = count } ∷ map member_of ys) same.0.1
    ∙ ap (λ (ms : List Member). member_of x ∷ ms) (same_members xs ys same.1)

-- and each of them is there as before
pub same_some : {A : Type 0} (xs ys : List (String A × ℕ)) → AllZip (λ p q. (string_bytes q.0 ≡ string_bytes p.0) × (q.1 ≡ p.1)) xs ys → AreSome xs → AreSome ys
same_some [] [] same some = tt
same_some [] (y ∷ ys) same some = absurd same
same_some (x ∷ xs) [] same some = absurd same
same_some (x ∷ xs) (y ∷ ys) same some = (subst (λ (n : ℕ). 0 < n) (sym same.0.1) some.0, same_some xs ys same.1 some.1)

-- Where codes stand beside those that begin with a chunk.
use Rattle.std.proofs.Common.{◌≡◌, ℕ, Bool, true, false, ◌==◌, ◌&&◌, List, [], ◌∷◌, ◌++◌, length, take, drop, Bor, refl, sym, ◌∙◌, ap, arith}
use Rattle.std.specs.Prelude.{bytes_eq}
use Rattle.std.specs.Ordering.{nat_cmp, ordering_then}
use Rattle.std.specs.declared.cmp.Ordering.{Ordering}
use Rattle.std.specs.declared.cmp.Ordering.TheVariants.{Less, Equal, Greater}
use Rattle.std.specs.Cmp.{nat_cmp_total}
use Rattle.std.specs.Cmp.Lexicographic.{nat_list_cmp_total}
use Rattle.std.proofs.lemmas.Cmp.{tied_itself}
use Rattle.std.proofs.lemmas.Bool.Decides.{nat_tests}
use Rattle.std.proofs.lemmas.List.{take-append-drop}
use Rattle.std.proofs.lemmas.Slice.Eq.{bytes_eq-Decides}
use Rattle.zs_tree.specs.declared.code.Beside.{Beside}
use Rattle.zs_tree.specs.declared.code.Beside.TheVariants.{Before, Within, Behind}
use Rattle.zs_tree.specs.Code.{IsBy, mark_of, onto_chunk, coded, code_cmp}
use Rattle.zs_tree.proofs.Bools.{split}
use Rattle.zs_tree.proofs.Codes.{cmp_behind, onto_same}

settled : (o p q : Ordering) → (o ≡ Equal → ⊥) → ordering_then o p ≡ ordering_then o q
settled Less p q h = refl
settled Equal p q h = absurd (h refl)
settled Greater p q h = refl

apart : (a x : ℕ) → (a == x) ≡ false → nat_cmp a x ≡ Equal → ⊥
apart a x h e = grind (arith, nat_tests, h, e)

tied : (a x : ℕ) → (a == x) ≡ true → nat_cmp a x ≡ Equal
tied a x h = grind (arith, nat_tests, h)

-- a code that does not begin with a chunk stands beside the chunk as beside all that begin with it
pub apart_more : (code chunk more : List ℕ) → bytes_eq (take (length chunk) code) chunk ≡ false
    → code_cmp code (chunk ++ more) ≡ code_cmp code chunk
apart_more code [] more h = absurd (cc)
apart_more [] (x ∷ chunk) more h = refl
apart_more (a ∷ code) (x ∷ chunk) more h = split (a == x)
    (λ e. let k : bytes_eq (take (length chunk) code) chunk ≡ false = rw e at h in
    rw (tied a x e) (apart_more code chunk more k))
    (λ e. settled (nat_cmp a x) _ _ (apart a x e))

-- and it is not equal to the chunk
pub apart_itself : (code chunk : List ℕ) → bytes_eq (take (length chunk) code) chunk ≡ false → code_cmp code chunk ≡ Equal → ⊥
apart_itself code [] h e = absurd (cc)
apart_itself [] (x ∷ chunk) h e = absurd (cc)
apart_itself (a ∷ code) (x ∷ chunk) h e = split (a == x)
    (λ s. let k : bytes_eq (take (length chunk) code) chunk ≡ false = rw s at h in
    apart_itself code chunk k (rw (tied a x s) at e))
    (λ s. go (nat_cmp a x) refl (apart a x s) e)
  where
    go : (o : Ordering) → nat_cmp a x ≡ o → (nat_cmp a x ≡ Equal → ⊥) → ordering_then o (code_cmp code chunk) ≡ Equal → ⊥
    go Less is differ e = absurd (cc)
    go Equal is differ e = differ is
    go Greater is differ e = absurd (cc)

pub behind_of : (o : Ordering) → (o ≡ Less → ⊥) → (o ≡ Equal → ⊥) → o ≡ Greater
behind_of Less h k = absurd (h refl)
behind_of Equal h k = absurd (k refl)
behind_of Greater h k = refl

-- what was stripped of a front
pub stripped : (code chunk rest : List ℕ) → bytes_eq (take (length chunk) code) chunk ≡ true → rest ≡ drop (length chunk) code → code ≡ chunk ++ rest
stripped code chunk rest h k =
    let e : take (length chunk) code ≡ chunk = (bytes_eq-Decides (take (length chunk) code) chunk).0 h in
    sym (take-append-drop (length chunk) code) ∙ rw (e, k) refl

-- codes with one front stand beside each other as what follows it
pub by_behind : (front code left : List ℕ) (onto : List ℕ → List ℕ) (r : Beside) → code ≡ front ++ left → IsBy onto left r
    → IsBy (λ rest. front ++ onto rest) code r
by_behind front code left onto Before e h = λ rest. rw e (cmp_behind front left (onto rest) ∙ h rest)
by_behind front code left onto (Within rest) e h = rw (e, h) refl
by_behind front code left onto Behind e h = λ rest. rw e (cmp_behind front left (onto rest) ∙ h rest)

-- a code is not before or behind itself
pub by_itself : (onto : List ℕ → List ℕ) (code rest : List ℕ) (o : Ordering) → code ≡ onto rest
    → ((more : List ℕ) → code_cmp code (onto more) ≡ o) → o ≡ Equal
by_itself onto code rest o e h =
    let k = rw e at (h rest) in
    sym k ∙ tied_itself nat_list_cmp_total (onto rest)

-- one of these codes stands neither before nor behind them
pub by_one_of : (onto : List ℕ → List ℕ) (code rest : List ℕ) (r : Beside) → code ≡ onto rest → IsBy onto code r
    → ((x : Bor (List ℕ)) → r ≡ Within x → ⊥) → ⊥
by_one_of onto code rest Before e h k = let o = by_itself onto code rest Less e h in absurd (cc)
by_one_of onto code rest (Within x) e h k = k x refl
by_one_of onto code rest Behind e h k = let o = by_itself onto code rest Greater e h in absurd (cc)

-- codes that begin with one chunk compare as what follows it
pub cmp_onto : (m : ℕ) (chunk a b : List ℕ) → code_cmp (onto_chunk m chunk a) (onto_chunk m chunk b) ≡ code_cmp a b
cmp_onto m chunk a b = rw (tied_itself nat_cmp_total m) (cmp_behind chunk (0x2f ∷ a) (0x2f ∷ b))

-- the comparison goes on behind a chunk
pub cmp_next : (o : Ordering) (code left behind chunk : List ℕ) (rest : List (List ℕ)) (m : ℕ)
    → o ≡ code_cmp code left → left ≡ coded (chunk ∷ rest) → m ≡ mark_of chunk → code ≡ onto_chunk m chunk behind
    → o ≡ code_cmp behind (coded rest)
cmp_next o code left behind chunk rest m h l k e =
    h ∙ rw (e, l, k) (cmp_onto (mark_of chunk) chunk behind (coded rest))

pub cmp_more : (o : Ordering) (code left : List ℕ) → o ≡ code_cmp code left → left ≡ [] → (code ≡ [] → ⊥) → Greater ≡ o
cmp_more o [] left h l k = absurd (k refl)
cmp_more o (x ∷ code) left h l k = sym (h ∙ rw l refl)

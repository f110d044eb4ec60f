-- The canonical form of a text whose chunks are those of canonical texts.
use Rattle.std.proofs.Common.{◌≡◌, ◌≢◌, ℕ, ◌==◌, Bool, true, false, not, ◌&&◌, ◌||◌, List, [], ◌∷◌, ◌++◌, map, refl, ◌∙◌, ap, arith}
use Rattle.std.specs.Prelude.{codes, bytes_eq}
use Rattle.std.specs.Cmp.Lexicographic.{bytes_decides}
use Rattle.std.specs.List.{list_all, join_with_byte, starts_with}
use Rattle.std.proofs.lemmas.Bool.Decides.{nat_tests}
use Rattle.std.proofs.lemmas.List.Splits.{join_with_byte-slice_split}
use Rattle.zs_keys.specs.Text.{chunks, is_canonical, is_chunk, is_star, is_double_star, may_follow, may_run, has_ordered_stars}
use Rattle.zs_keys.specs.Canonize.{squeezed_chunk, canonized_chunk, sink, ordered_chunks, canonize}
use Rattle.zs_keys.specs.Key.{join_text}
use Rattle.zs_keys.proofs.Bools.{split, and_second, or_none_left, or_none_right, and_first, both, not_true, both_ways}
use Rattle.zs_keys.proofs.SqueezeLemmas.{squeezed_chunk-plain, squeezed_chunk-other, squeezed_chunk-none, squeezed_chunk-once, squeezed_chunk-all}
use Rattle.zs_keys.proofs.OrderLemmas.{sink-star, sink-run, sink-other, ordered-run, ordered-plain, ordered-none, sink-none}
use Rattle.zs_keys.proofs.PrefixLemmas.{chunks-append, chunks-some}

-- no `$` behind a `*`
no-dollar : (b : ℕ) → may_follow 0x2a b ≡ true → (0x24 == b) ≡ false
no-dollar b h = split (0x24 == b)
    (λ t. let dollar : b ≡ 0x24 = grind (arith, nat_tests) in let no : false ≡ true = rw dollar at h in cc)
    (λ t. t)

-- a run of bytes that may stand in a chunk has no repeat of `$*`
run-single : (bs : List ℕ) → may_run 0x24 bs ≡ true → starts_with (λ a b. a == b) bs (codes "*$*") ≡ false
run-single [] h = refl
run-single (a ∷ []) h = split (0x2a == a) (λ t. rw t refl) (λ t. rw t refl)
run-single (a ∷ b ∷ bs) h = split (0x2a == a)
    (λ t.
    let star : a ≡ 0x2a = grind (arith, nat_tests) in
    let rest : may_run a (b ∷ bs) ≡ true = and_second (may_follow 0x24 a) (may_run a (b ∷ bs)) h in
    let next : may_follow 0x2a b ≡ true = and_first (may_follow 0x2a b) (may_run b bs) (rw star at rest) in
    rw (t, no-dollar b next) refl)
    (λ t. rw t refl)

-- so it is its own squeezed form
run-squeezed : (a : ℕ) (bs : List ℕ) → may_run a bs ≡ true → squeezed_chunk bs ≡ bs
run-squeezed a [] h = squeezed_chunk-none
run-squeezed a (b ∷ bs) h = split (b == 0x24)
    (λ t.
    let dollar : b ≡ 0x24 = grind (arith, nat_tests) in
    let rest : may_run b bs ≡ true = and_second (may_follow a b) (may_run b bs) h in
    rw dollar (squeezed_chunk-other bs (run-single bs (rw dollar at rest))
    ∙ ap (λ (xs : List ℕ). 0x24 ∷ xs) (run-squeezed b bs rest)))
    (λ t.
    let other : b ≢ 0x24 = grind (arith, nat_tests) in
    squeezed_chunk-plain b bs other
    ∙ ap (λ (xs : List ℕ). b ∷ xs) (run-squeezed b bs (and_second (may_follow a b) (may_run b bs) h)))

star-canonized : canonized_chunk (codes "*") ≡ codes "*"
unfolding squeezed_chunk
star-canonized = refl

run-canonized : canonized_chunk (codes "**") ≡ codes "**"
unfolding squeezed_chunk
run-canonized = refl

plain-canonized : (c : List ℕ) → (not (bytes_eq c (codes "$*")) && may_run 0x2f c) ≡ true → canonized_chunk c ≡ c
plain-canonized c h =
    let same = run-squeezed 0x2f c (and_second (not (bytes_eq c (codes "$*"))) (may_run 0x2f c) h) in
    let other = and_first (not (bytes_eq c (codes "$*"))) (may_run 0x2f c) h in
    rw same (split (bytes_eq c (codes "$*"))
    (λ t. let no : false ≡ true = rw t at other in cc)
    (λ t. rw t refl))

-- a chunk of a canonical text is its own canonical form
chunk-canonized : (c : List ℕ) → is_chunk c ≡ true → canonized_chunk c ≡ c
chunk-canonized [] h = cc
chunk-canonized (b ∷ bs) h = split (is_star (b ∷ bs))
    (λ t. rw ((bytes_decides (b ∷ bs) (codes "*")).0 t) star-canonized)
    (λ t. split (is_double_star (b ∷ bs))
    (λ k. rw ((bytes_decides (b ∷ bs) (codes "**")).0 k) run-canonized)
    (λ k. plain-canonized (b ∷ bs) (rw (t, k) at h)))

chunks-canonized : (cs : List (List ℕ)) → list_all is_chunk cs ≡ true → map canonized_chunk cs ≡ cs
chunks-canonized [] h = refl
chunks-canonized (c ∷ cs) h =
    rw (
      chunk-canonized c (and_first (is_chunk c) (list_all is_chunk cs) h),
      chunks-canonized cs (and_second (is_chunk c) (list_all is_chunk cs) h),
    ) refl

tail-in_order : (c : List ℕ) (cs : List (List ℕ)) → has_ordered_stars (c ∷ cs) ≡ true → has_ordered_stars cs ≡ true
tail-in_order c [] h = refl
tail-in_order c (d ∷ cs) h = and_second (not (is_double_star c && (is_double_star d || is_star d))) (has_ordered_stars (d ∷ cs)) h

plain-in_order : (c : List ℕ) (cs : List (List ℕ)) → is_double_star c ≡ false → has_ordered_stars cs ≡ true
    → has_ordered_stars (c ∷ cs) ≡ true
plain-in_order c [] k h = refl
plain-in_order c (d ∷ cs) k h = rw k h

star-in_order : (c : List ℕ) (cs : List (List ℕ)) → is_star c ≡ true → has_ordered_stars cs ≡ true
    → has_ordered_stars (c ∷ cs) ≡ true
star-in_order c cs t h =
    plain-in_order c cs (let is : c ≡ codes "*" = (bytes_decides c (codes "*")).0 t in rw is refl) h

-- the order of stars that comes out is the canonical one
sink-in_order : (cs : List (List ℕ)) → has_ordered_stars cs ≡ true → has_ordered_stars (sink cs) ≡ true
sink-in_order [] h = rw sink-none refl
sink-in_order (c ∷ cs) h = split (is_star c)
    (λ t. rw (sink-star c cs t) (star-in_order c (sink cs) t (sink-in_order cs (tail-in_order c cs h))))
    (λ t. split (is_double_star c)
    (λ k. rw (sink-run c cs t k) h)
    (λ k. rw (sink-other c cs t k) (rw (k, t) h)))

ordered-in_order : (cs : List (List ℕ)) → has_ordered_stars (ordered_chunks cs) ≡ true
ordered-in_order [] = rw ordered-none refl
ordered-in_order (c ∷ cs) = split (is_double_star c)
    (λ k. rw (ordered-run c cs k) (sink-in_order (ordered_chunks cs) (ordered-in_order cs)))
    (λ k. rw (ordered-plain c cs k) (plain-in_order c (ordered_chunks cs) k (ordered-in_order cs)))

-- and it has the same chunks
sink-chunks : (test : List ℕ → Bool) → test (codes "**") ≡ true → (cs : List (List ℕ)) → list_all test cs ≡ true
    → list_all test (sink cs) ≡ true
sink-chunks test run [] h = rw (sink-none, run) refl
sink-chunks test run (c ∷ cs) h =
    let first = and_first (test c) (list_all test cs) h in
    let rest = and_second (test c) (list_all test cs) h in
    split (is_star c)
    (λ t. rw (sink-star c cs t) (both (test c) (list_all test (sink cs)) first (sink-chunks test run cs rest)))
    (λ t. split (is_double_star c)
    (λ k. rw (sink-run c cs t k) h)
    (λ k. rw (sink-other c cs t k, run) h))

ordered-chunks : (test : List ℕ → Bool) → test (codes "**") ≡ true → (cs : List (List ℕ)) → list_all test cs ≡ true
    → list_all test (ordered_chunks cs) ≡ true
ordered-chunks test run [] h = rw ordered-none refl
ordered-chunks test run (c ∷ cs) h =
    let rest = ordered-chunks test run cs (and_second (test c) (list_all test cs) h) in
    split (is_double_star c)
    (λ k. rw (ordered-run c cs k) (sink-chunks test run (ordered_chunks cs) rest))
    (λ k. rw (ordered-plain c cs k) (both (test c) (list_all test (ordered_chunks cs)) (and_first (test c) (list_all test cs) h) rest))

-- no byte of a chunk is a `/`
abbrev has_no_slash : List ℕ → Bool
has_no_slash c = list_all (λ b. not (b == 0x2f)) c

chunks-one : (c : List ℕ) → has_no_slash c ≡ true → chunks c ≡ c ∷ []
chunks-one [] h = refl
chunks-one (b ∷ bs) h =
    let plain : (b == 0x2f) ≡ false = not_true (b == 0x2f) (and_first (not (b == 0x2f)) (has_no_slash bs) h) in
    rw (plain, chunks-one bs (and_second (not (b == 0x2f)) (has_no_slash bs) h)) refl

chunks-of_joined : (c : List ℕ) (cs : List (List ℕ)) → list_all has_no_slash (c ∷ cs) ≡ true
    → chunks (join_with_byte 0x2f (c ∷ cs)) ≡ c ∷ cs
chunks-of_joined c [] h = chunks-one c (and_first (has_no_slash c) true h)
chunks-of_joined c (d ∷ cs) h =
    chunks-append c (join_with_byte 0x2f (d ∷ cs))
    ∙ rw (
      chunks-one c (and_first (has_no_slash c) (list_all has_no_slash (d ∷ cs)) h),
      chunks-of_joined d cs (and_second (has_no_slash c) (list_all has_no_slash (d ∷ cs)) h),
    ) refl

-- the chunks of a text have no `/`
chunks-whole : (bs : List ℕ) → list_all has_no_slash (chunks bs) ≡ true
chunks-whole [] = refl
chunks-whole (b ∷ bs) =
    let (c, cs, is) = chunks-some bs in
    let rest : (has_no_slash c && list_all has_no_slash cs) ≡ true = rw is at (chunks-whole bs) in
    split (b == 0x2f)
    (λ t. rw t (chunks-whole bs))
    (λ t. rw (t, is, t) rest)

all-append : (test : List ℕ → Bool) (xs ys : List (List ℕ)) → list_all test xs ≡ true → list_all test ys ≡ true
    → list_all test (xs ++ ys) ≡ true
all-append test [] ys h k = k
all-append test (x ∷ xs) ys h k =
    both (test x) (list_all test (xs ++ ys)) (and_first (test x) (list_all test xs) h)
    (all-append test xs ys (and_second (test x) (list_all test xs) h) k)

-- the order of stars has some chunk where the list has
sink-some : (cs : List (List ℕ)) → (d : List ℕ) × (ds : List (List ℕ)) × (sink cs ≡ d ∷ ds)
sink-some [] = (codes "**", [], sink-none)
sink-some (c ∷ cs) = split (is_star c)
    (λ t. (c, sink cs, sink-star c cs t))
    (λ t. split (is_double_star c)
    (λ k. (c, cs, sink-run c cs t k))
    (λ k. (codes "**", c ∷ cs, sink-other c cs t k)))

ordered-some : (c : List ℕ) (cs : List (List ℕ)) → (d : List ℕ) × (ds : List (List ℕ)) × (ordered_chunks (c ∷ cs) ≡ d ∷ ds)
ordered-some c cs = split (is_double_star c)
    (λ k. let (d, ds, is) = sink-some (ordered_chunks cs) in (d, ds, ordered-run c cs k ∙ is))
    (λ k. (c, ordered_chunks cs, ordered-plain c cs k))

-- chunks of canonical texts, ordered and joined, make a canonical text
form-canonical : (c : List ℕ) (cs : List (List ℕ)) → list_all is_chunk (c ∷ cs) ≡ true → list_all has_no_slash (c ∷ cs) ≡ true
    → is_canonical (join_with_byte 0x2f (ordered_chunks (c ∷ cs))) ≡ true
form-canonical c cs h n =
    let (d, ds, is) = ordered-some c cs in
    let plain : list_all has_no_slash (d ∷ ds) ≡ true = rw is at (ordered-chunks has_no_slash refl (c ∷ cs) n) in
    let whole : list_all is_chunk (d ∷ ds) ≡ true = rw is at (ordered-chunks is_chunk refl (c ∷ cs) h) in
    let in_order : has_ordered_stars (d ∷ ds) ≡ true = rw is at (ordered-in_order (c ∷ cs)) in
    rw (is, chunks-of_joined d ds plain) (both (list_all is_chunk (d ∷ ds)) (has_ordered_stars (d ∷ ds)) whole in_order)

-- two canonical texts joined have a canonical form that is canonical
pub join-canonical : (a b : List ℕ) → is_canonical a ≡ true → is_canonical b ≡ true → is_canonical (join_text a b) ≡ true
join-canonical a b h k =
    let whole = all-append is_chunk (chunks a) (chunks b)
    (and_first (list_all is_chunk (chunks a)) (has_ordered_stars (chunks a)) h)
    (and_first (list_all is_chunk (chunks b)) (has_ordered_stars (chunks b)) k) in
    let plain = all-append has_no_slash (chunks a) (chunks b) (chunks-whole a) (chunks-whole b) in
    let (c, cs, is) = chunks-some a in
    rw (chunks-append a b, chunks-canonized (chunks a ++ chunks b) whole)
    (form-of (chunks a ++ chunks b) c (cs ++ chunks b) (rw is refl) whole plain)
  where
    form-of : (all : List (List ℕ)) (c : List ℕ) (cs : List (List ℕ)) → all ≡ c ∷ cs → list_all is_chunk all ≡ true
        → list_all has_no_slash all ≡ true → is_canonical (join_with_byte 0x2f (ordered_chunks all)) ≡ true
    form-of all c cs is h n = rw is (form-canonical c cs (rw is at h) (rw is at n))

apart-of : (a b r : Bool) → a ≡ true → (not (a && b) && r) ≡ true → b ≡ false
apart-of a b r h k =
    let first : not b ≡ true = rw h at (and_first (not (a && b)) r k) in not_true b first

sink-front : (c : List ℕ) (cs : List (List ℕ)) → is_double_star c ≡ true → c ≡ codes "**" → has_ordered_stars (c ∷ cs) ≡ true
    → sink cs ≡ c ∷ cs
sink-front c [] k run h = rw run sink-none
sink-front c (d ∷ ds) k run h =
    let apart : (is_double_star d || is_star d) ≡ false =
    apart-of (is_double_star c) (is_double_star d || is_star d) (has_ordered_stars (d ∷ ds)) k h in
    rw (sink-other d ds (or_none_right (is_double_star d) (is_star d) apart) (or_none_left (is_double_star d) (is_star d) apart), run) refl

-- stars in canonical order stay
ordered-same : (cs : List (List ℕ)) → has_ordered_stars cs ≡ true → ordered_chunks cs ≡ cs
ordered-same [] h = ordered-none
ordered-same (c ∷ cs) h = split (is_double_star c)
    (λ k.
    let run : c ≡ codes "**" = (bytes_decides c (codes "**")).0 k in
    ordered-run c cs k ∙ rw (ordered-same cs (tail-in_order c cs h)) (sink-front c cs k run h))
    (λ k. ordered-plain c cs k ∙ ap (λ (xs : List (List ℕ)). c ∷ xs) (ordered-same cs (tail-in_order c cs h)))

-- a canonical text is its own canonical form
pub canonical-itself : (text : List ℕ) → is_canonical text ≡ true → canonize text ≡ text
canonical-itself text h =
    rw (
      chunks-canonized (chunks text) (and_first (list_all is_chunk (chunks text)) (has_ordered_stars (chunks text)) h),
      ordered-same (chunks text) (and_second (list_all is_chunk (chunks text)) (has_ordered_stars (chunks text)) h),
    )
    (join_with_byte-slice_split 0x2f text)

-- a chunk in canonical form
abbrev is_form : List ℕ → Bool
is_form c = bytes_eq (canonized_chunk c) c

chunk-once : (c : List ℕ) → canonized_chunk (canonized_chunk c) ≡ canonized_chunk c
chunk-once c = split (bytes_eq (squeezed_chunk c) (codes "$*"))
    (λ t. rw t star-canonized)
    (λ t. rw (t, squeezed_chunk-once c, t) refl)

forms-all : (cs : List (List ℕ)) → list_all is_form (map canonized_chunk cs) ≡ true
forms-all [] = refl
forms-all (c ∷ cs) =
    both (is_form (canonized_chunk c)) (list_all is_form (map canonized_chunk cs))
    ((bytes_decides (canonized_chunk (canonized_chunk c)) (canonized_chunk c)).1 (chunk-once c)) (forms-all cs)

forms-same : (cs : List (List ℕ)) → list_all is_form cs ≡ true → map canonized_chunk cs ≡ cs
forms-same [] h = refl
forms-same (c ∷ cs) h =
    rw (
      (bytes_decides (canonized_chunk c) c).0 (and_first (is_form c) (list_all is_form cs) h),
      forms-same cs (and_second (is_form c) (list_all is_form cs) h),
    ) refl

form-no_slash : (c : List ℕ) → has_no_slash c ≡ true → has_no_slash (canonized_chunk c) ≡ true
form-no_slash c h = split (bytes_eq (squeezed_chunk c) (codes "$*"))
    (λ t. rw t refl)
    (λ t. rw t (squeezed_chunk-all (λ b. not (b == 0x2f)) refl refl c h))

forms-no_slash : (cs : List (List ℕ)) → list_all has_no_slash cs ≡ true → list_all has_no_slash (map canonized_chunk cs) ≡ true
forms-no_slash [] h = refl
forms-no_slash (c ∷ cs) h =
    both (has_no_slash (canonized_chunk c)) (list_all has_no_slash (map canonized_chunk cs))
    (form-no_slash c (and_first (has_no_slash c) (list_all has_no_slash cs) h))
    (forms-no_slash cs (and_second (has_no_slash c) (list_all has_no_slash cs) h))

-- ordered chunks in canonical form, joined, are their own canonical form
joined-once : (f : List ℕ) (fs : List (List ℕ)) → list_all has_no_slash (f ∷ fs) ≡ true → list_all is_form (f ∷ fs) ≡ true
    → canonize (join_with_byte 0x2f (ordered_chunks (f ∷ fs))) ≡ join_with_byte 0x2f (ordered_chunks (f ∷ fs))
joined-once f fs n h =
    let (d, ds, is) = ordered-some f fs in
    let plain : list_all has_no_slash (d ∷ ds) ≡ true = rw is at (ordered-chunks has_no_slash refl (f ∷ fs) n) in
    let forms : list_all is_form (d ∷ ds) ≡ true = rw is at (ordered-chunks is_form run-form (f ∷ fs) h) in
    let in_order : has_ordered_stars (d ∷ ds) ≡ true = rw is at (ordered-in_order (f ∷ fs)) in
    rw (is, chunks-of_joined d ds plain, forms-same (d ∷ ds) forms, ordered-same (d ∷ ds) in_order) refl
  where
    run-form : is_form (codes "**") ≡ true
    run-form = (bytes_decides (canonized_chunk (codes "**")) (codes "**")).1 run-canonized

pub canonize-once : (text : List ℕ) → canonize (canonize text) ≡ canonize text
canonize-once text =
    let (c, cs, is) = chunks-some text in
    once-of (map canonized_chunk (chunks text)) (canonized_chunk c) (map canonized_chunk cs) (rw is refl)
    (forms-no_slash (chunks text) (chunks-whole text)) (forms-all (chunks text))
  where
    once-of : (all : List (List ℕ)) (f : List ℕ) (fs : List (List ℕ)) → all ≡ f ∷ fs → list_all has_no_slash all ≡ true
        → list_all is_form all ≡ true
        → canonize (join_with_byte 0x2f (ordered_chunks all)) ≡ join_with_byte 0x2f (ordered_chunks all)
    once-of all f fs is n h = rw is (joined-once f fs (rw is at n) (rw is at h))

-- what holds of each chunk in order holds of each chunk
sink-back : (test : List ℕ → Bool) (cs : List (List ℕ)) → list_all test (sink cs) ≡ true → list_all test cs ≡ true
sink-back test [] h = refl
sink-back test (c ∷ cs) h = split (is_star c)
    (λ t.
    let h' : (test c && list_all test (sink cs)) ≡ true = rw (sink-star c cs t) at h in
    both (test c) (list_all test cs) (and_first (test c) (list_all test (sink cs)) h')
    (sink-back test cs (and_second (test c) (list_all test (sink cs)) h')))
    (λ t. split (is_double_star c)
    (λ k. rw (sink-run c cs t k) at h)
    (λ k. and_second (test (codes "**")) (list_all test (c ∷ cs)) (rw (sink-other c cs t k) at h)))

ordered-back : (test : List ℕ → Bool) → test (codes "**") ≡ true → (cs : List (List ℕ)) → list_all test (ordered_chunks cs) ≡ true
    → list_all test cs ≡ true
ordered-back test run [] h = refl
ordered-back test run (c ∷ cs) h = split (is_double_star c)
    (λ k.
    let is : c ≡ codes "**" = (bytes_decides c (codes "**")).0 k in
    both (test c) (list_all test cs) (rw is run)
    (ordered-back test run cs (sink-back test (ordered_chunks cs) (rw (ordered-run c cs k) at h))))
    (λ k.
    let h' : (test c && list_all test (ordered_chunks cs)) ≡ true = rw (ordered-plain c cs k) at h in
    both (test c) (list_all test cs) (and_first (test c) (list_all test (ordered_chunks cs)) h')
    (ordered-back test run cs (and_second (test c) (list_all test (ordered_chunks cs)) h')))

joined-canonical : (f : List ℕ) (fs : List (List ℕ)) → list_all has_no_slash (f ∷ fs) ≡ true
    → is_canonical (join_with_byte 0x2f (ordered_chunks (f ∷ fs))) ≡ list_all is_chunk (f ∷ fs)
joined-canonical f fs n =
    let (d, ds, is) = ordered-some f fs in
    let plain : list_all has_no_slash (d ∷ ds) ≡ true = rw is at (ordered-chunks has_no_slash refl (f ∷ fs) n) in
    let back : list_all is_chunk (d ∷ ds) ≡ true → list_all is_chunk (f ∷ fs) ≡ true =
    λ h. ordered-back is_chunk refl (f ∷ fs) (rw is h) in
    both_ways (is_canonical (join_with_byte 0x2f (ordered_chunks (f ∷ fs)))) (list_all is_chunk (f ∷ fs))
    (λ h.
    let h' : (list_all is_chunk (d ∷ ds) && has_ordered_stars (d ∷ ds)) ≡ true = rw (is, chunks-of_joined d ds plain) at h in
    back (and_first (list_all is_chunk (d ∷ ds)) (has_ordered_stars (d ∷ ds)) h'))
    (λ h. form-canonical f fs h n)

-- the canonical form is canonical exactly where each of its chunks is one
pub form-where : (text : List ℕ) → is_canonical (canonize text) ≡ list_all is_chunk (map canonized_chunk (chunks text))
form-where text =
    let (c, cs, is) = chunks-some text in
    where-of (map canonized_chunk (chunks text)) (canonized_chunk c) (map canonized_chunk cs) (rw is refl)
    (forms-no_slash (chunks text) (chunks-whole text))
  where
    where-of : (all : List (List ℕ)) (f : List ℕ) (fs : List (List ℕ)) → all ≡ f ∷ fs → list_all has_no_slash all ≡ true
        → is_canonical (join_with_byte 0x2f (ordered_chunks all)) ≡ list_all is_chunk all
    where-of all f fs is n = rw is (joined-canonical f fs (rw is at n))

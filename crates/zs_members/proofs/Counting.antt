-- What a view counts behind a change, and views with the same counts.
use Rattle.std.proofs.Common.{◌≡◌, ℕ, ◌+◌, ◌-◌, ◌<◌, ◌≤◌, Bool, true, false, cond, List, [], ◌∷◌, map, refl, sym, ap, ◌∙◌, subst, arith}
use Rattle.std.specs.Prelude.{bytes_eq, nat_le}
use Rattle.std.specs.Cmp.{IsTotalOrder}
use Rattle.std.specs.Cmp.Lexicographic.{slice_cmp, nat_list_cmp_total}
use Rattle.std.specs.Ordering.{nat_cmp, is_eq, match_ordering, ordering_reverse}
use Rattle.std.specs.declared.cmp.Ordering.{Ordering}
use Rattle.std.specs.declared.cmp.Ordering.TheVariants.{Less, Equal, Greater}
use Rattle.std.specs.List.{AllByRecursion}
use Rattle.std.specs.List.Sorted.{IsStrictlySortedBy}
use Rattle.std.proofs.lemmas.Cmp.{tied_itself}
use Rattle.std.proofs.lemmas.Bool.Decides.{nat_tests}
use Rattle.std.proofs.lemmas.Map.Keys.{sorted_head, sorted_tail}
use Rattle.std.proofs.lemmas.Map.Lookups.{exact_bytes}
use Rattle.std.proofs.lemmas.Map.Text.{is_eq-slice_cmp}
use Rattle.zs_members.specs.Members.{Member, NamesAscend, AreThere, count_of, raised, lowered}
use Rattle.zs_members.specs.Laws.{SameCountsSameView}

-- the order of names
abbrev pub order : List ℕ → List ℕ → Ordering
order = slice_cmp nat_cmp

total : IsTotalOrder order
total = nat_list_cmp_total

pub apart_from : (a b : List ℕ) (o : Ordering) → order a b ≡ o → bytes_eq a b ≡ is_eq o
apart_from a b o h = sym (is_eq-slice_cmp a b) ∙ ap is_eq h

pub same_itself : (a : List ℕ) → bytes_eq a a ≡ true
same_itself a = apart_from a a Equal (tied_itself total a)

pub same_name : (a b : List ℕ) → bytes_eq a b ≡ true → a ≡ b
same_name a b h = go (order a b) refl
  where
    go : (o : Ordering) → order a b ≡ o → a ≡ b
    go Less k = absurd (let e = sym (apart_from a b Less k) ∙ h in cc)
    go Equal k = exact_bytes a b k
    go Greater k = absurd (let e = sym (apart_from a b Greater k) ∙ h in cc)

-- all names of a list are above a name
abbrev pub Above : List ℕ → List Member → Type 0
Above name ms = AllByRecursion (λ n. order name n ≡ Less) (map (λ m. m.name) ms)

pub above_first : (m : Member) (ms : List Member) → NamesAscend (m ∷ ms) → Above m.name ms
above_first m ms h = sorted_head order m.name (map (λ v. v.name) ms) h

pub ascend_rest : (m : Member) (ms : List Member) → NamesAscend (m ∷ ms) → NamesAscend ms
ascend_rest m ms h = sorted_tail order m.name (map (λ v. v.name) ms) h

pub ascend_with : (m : Member) (ms : List Member) → Above m.name ms → NamesAscend ms → NamesAscend (m ∷ ms)
unfolding IsStrictlySortedBy
ascend_with m ms above rest = (above, rest)

pub ascend_nothing : NamesAscend []
unfolding IsStrictlySortedBy
ascend_nothing = tt

pub above_more : (a b : List ℕ) (ms : List Member) → order a b ≡ Less → Above b ms → Above a ms
above_more a b [] less above = tt
above_more a b (m ∷ ms) less above = (total.trans a b m.name less above.0, above_more a b ms less above.1)

pub none_above : (name : List ℕ) (ms : List Member) → Above name ms → count_of name ms ≡ 0
none_above name [] above = refl
none_above name (m ∷ ms) above =
    ap (λ (b : Bool). cond b m.count (count_of name ms)) (apart_from name m.name Less above.0)
    ∙ none_above name ms above.1

-- raising keeps the order
above_raised : (name new : List ℕ) (ms : List Member) → order name new ≡ Less → Above name ms → Above name (raised new ms)
above_raised name new [] less above = (less, tt)
above_raised name new (m ∷ ms) less above = go (order new m.name) (above_raised name new ms less above.1)
  where
    go : (o : Ordering) → Above name (raised new ms)
        → Above name (match_ordering o (record { name = new; count = 1 } ∷ m ∷ ms) (record { name = m.name; count = m.count + 1 } ∷ ms) (m ∷ raised new ms))
    go Less rest = (less, above)
    go Equal rest = above
    go Greater rest = (above.0, rest)

pub ascend_raised : (new : List ℕ) (ms : List Member) → NamesAscend ms → NamesAscend (raised new ms)
ascend_raised new [] ascend = ascend_with (record { name = new; count = 1 }) [] tt ascend
ascend_raised new (m ∷ ms) ascend = go (order new m.name) refl (ascend_raised new ms (ascend_rest m ms ascend))
  where
    go : (o : Ordering) → order new m.name ≡ o → NamesAscend (raised new ms)
        → NamesAscend (match_ordering o (record { name = new; count = 1 } ∷ m ∷ ms) (record { name = m.name; count = m.count + 1 } ∷ ms) (m ∷ raised new ms))
    go Less h rest = ascend_with (record { name = new; count = 1 }) (m ∷ ms) (h, above_more new m.name ms h (above_first m ms ascend)) ascend
    go Equal h rest = ascend_with (record { name = m.name; count = m.count + 1 }) ms (above_first m ms ascend) (ascend_rest m ms ascend)
    go Greater h rest =
        ascend_with m (raised new ms)
        (above_raised m.name new ms (total.antisymm m.name new ∙ ap ordering_reverse h) (above_first m ms ascend))
        rest

one_more : (n : ℕ) → 0 < n + 1
one_more n = omega arith

pub there_raised : (new : List ℕ) (ms : List Member) → AreThere ms → AreThere (raised new ms)
there_raised new [] there = (one_more 0, tt)
there_raised new (m ∷ ms) there = go (order new m.name) (there_raised new ms there.1)
  where
    go : (o : Ordering) → AreThere (raised new ms)
        → AreThere (match_ordering o (record { name = new; count = 1 } ∷ m ∷ ms) (record { name = m.name; count = m.count + 1 } ∷ ms) (m ∷ raised new ms))
    go Less rest = (one_more 0, there)
    go Equal rest = (one_more m.count, there.1)
    go Greater rest = (there.0, rest)

pub count_raised : (q new : List ℕ) (ms : List Member) → NamesAscend ms → count_of q (raised new ms) ≡ cond (bytes_eq q new) (count_of q ms + 1) (count_of q ms)
count_raised q new [] ascend = refl
count_raised q new (m ∷ ms) ascend = go (order new m.name) refl (count_raised q new ms (ascend_rest m ms ascend))
  where
    both : (b c : Bool) → bytes_eq q new ≡ b → bytes_eq q m.name ≡ c → new ≡ m.name
        → cond c (m.count + 1) (count_of q ms) ≡ cond b (cond c m.count (count_of q ms) + 1) (cond c m.count (count_of q ms))
    both true true h k same = refl
    both true false h k same = absurd (let e = sym h ∙ (ap (bytes_eq q) same ∙ k) in cc)
    both false true h k same = absurd (let e = sym h ∙ (ap (bytes_eq q) same ∙ k) in cc)
    both false false h k same = refl

    past : (b c : Bool) → bytes_eq q new ≡ b → bytes_eq q m.name ≡ c → order new m.name ≡ Greater
        → count_of q (raised new ms) ≡ cond b (count_of q ms + 1) (count_of q ms)
        → cond c m.count (count_of q (raised new ms)) ≡ cond b (cond c m.count (count_of q ms) + 1) (cond c m.count (count_of q ms))
    past true true h k above rest =
        let same = sym (same_name q new h) ∙ same_name q m.name k in
        absurd (let e = sym above ∙ (ap (order new) (sym same) ∙ tied_itself total new) in cc)
    past true false h k above rest = rest
    past false true h k above rest = refl
    past false false h k above rest = rest

    before : (b : Bool) → bytes_eq q new ≡ b → Above new (m ∷ ms)
        → cond b 1 (count_of q (m ∷ ms)) ≡ cond b (count_of q (m ∷ ms) + 1) (count_of q (m ∷ ms))
    before true h above =
        let nothing = subst (λ k. count_of k (m ∷ ms) ≡ 0) (sym (same_name q new h)) (none_above new (m ∷ ms) above) in
        sym (ap (λ n. n + 1) nothing)
    before false h above = refl

    go : (o : Ordering) → order new m.name ≡ o → count_of q (raised new ms) ≡ cond (bytes_eq q new) (count_of q ms + 1) (count_of q ms)
        → count_of q (match_ordering o (record { name = new; count = 1 } ∷ m ∷ ms) (record { name = m.name; count = m.count + 1 } ∷ ms) (m ∷ raised new ms))
        ≡ cond (bytes_eq q new) (count_of q (m ∷ ms) + 1) (count_of q (m ∷ ms))
    go Less h rest = before (bytes_eq q new) refl (h, above_more new m.name ms h (above_first m ms ascend))
    go Equal h rest = both (bytes_eq q new) (bytes_eq q m.name) refl refl (exact_bytes new m.name h)
    go Greater h rest = past (bytes_eq q new) (bytes_eq q m.name) refl refl h rest

-- lowering keeps the order
above_lowered : (name gone : List ℕ) (ms : List Member) → Above name ms → Above name (lowered gone ms)
above_lowered name gone [] above = tt
above_lowered name gone (m ∷ ms) above = go (bytes_eq gone m.name) (nat_le m.count 1) (above_lowered name gone ms above.1)
  where
    go : (b c : Bool) → Above name (lowered gone ms) → Above name (cond b (cond c ms (record { name = m.name; count = m.count - 1 } ∷ ms)) (m ∷ lowered gone ms))
    go true true rest = above.1
    go true false rest = above
    go false c rest = (above.0, rest)

pub ascend_lowered : (gone : List ℕ) (ms : List Member) → NamesAscend ms → NamesAscend (lowered gone ms)
ascend_lowered gone [] ascend = ascend
ascend_lowered gone (m ∷ ms) ascend = go (bytes_eq gone m.name) (nat_le m.count 1) (ascend_lowered gone ms (ascend_rest m ms ascend))
  where
    go : (b c : Bool) → NamesAscend (lowered gone ms) → NamesAscend (cond b (cond c ms (record { name = m.name; count = m.count - 1 } ∷ ms)) (m ∷ lowered gone ms))
    go true true rest = ascend_rest m ms ascend
    go true false rest = ascend_with (record { name = m.name; count = m.count - 1 }) ms (above_first m ms ascend) (ascend_rest m ms ascend)
    go false c rest = ascend_with m (lowered gone ms) (above_lowered m.name gone ms (above_first m ms ascend)) rest

pub more_left : (n : ℕ) → nat_le n 1 ≡ false → 0 < n - 1
more_left n h = grind (arith, nat_tests)

none_left : (n : ℕ) → nat_le n 1 ≡ true → n - 1 ≡ 0
none_left n h = grind (arith, nat_tests)

pub there_lowered : (gone : List ℕ) (ms : List Member) → AreThere ms → AreThere (lowered gone ms)
there_lowered gone [] there = tt
there_lowered gone (m ∷ ms) there = go (bytes_eq gone m.name) (nat_le m.count 1) refl (there_lowered gone ms there.1)
  where
    go : (b c : Bool) → nat_le m.count 1 ≡ c → AreThere (lowered gone ms) → AreThere (cond b (cond c ms (record { name = m.name; count = m.count - 1 } ∷ ms)) (m ∷ lowered gone ms))
    go true true h rest = there.1
    go true false h rest = (more_left m.count h, there.1)
    go false c h rest = (there.0, rest)

pub count_lowered : (q gone : List ℕ) (ms : List Member) → NamesAscend ms → count_of q (lowered gone ms) ≡ cond (bytes_eq q gone) (count_of q ms - 1) (count_of q ms)
count_lowered q gone [] ascend = nothing (bytes_eq q gone)
  where
    nothing : (b : Bool) → 0 ≡ cond b (0 - 1) 0
    nothing true = refl
    nothing false = refl
count_lowered q gone (m ∷ ms) ascend =
    go (bytes_eq gone m.name) (nat_le m.count 1) (bytes_eq q gone) (bytes_eq q m.name) refl refl refl refl (count_lowered q gone ms (ascend_rest m ms ascend))
  where
    rest_none : bytes_eq q m.name ≡ true → count_of q ms ≡ 0
    rest_none k = subst (λ n. count_of n ms ≡ 0) (sym (same_name q m.name k)) (none_above m.name ms (above_first m ms ascend))

    go : (b c d e : Bool) → bytes_eq gone m.name ≡ b → nat_le m.count 1 ≡ c → bytes_eq q gone ≡ d → bytes_eq q m.name ≡ e
        → count_of q (lowered gone ms) ≡ cond d (count_of q ms - 1) (count_of q ms)
        → count_of q (cond b (cond c ms (record { name = m.name; count = m.count - 1 } ∷ ms)) (m ∷ lowered gone ms))
        ≡ cond d (cond e m.count (count_of q ms) - 1) (cond e m.count (count_of q ms))
    go true c true false hb hc hd he rest = absurd (let w = sym he ∙ subst (λ n. bytes_eq q n ≡ true) (same_name gone m.name hb) hd in cc)
    go true c false true hb hc hd he rest = absurd (let w = sym hd ∙ subst (λ n. bytes_eq q n ≡ true) (sym (same_name gone m.name hb)) he in cc)
    go true true true true hb hc hd he rest = rest_none he ∙ sym (none_left m.count hc)
    go true true false false hb hc hd he rest = refl
    go true false true true hb hc hd he rest = ap (λ (b : Bool). cond b (m.count - 1) (count_of q ms)) he
    go true false false false hb hc hd he rest = ap (λ (b : Bool). cond b (m.count - 1) (count_of q ms)) he
    go false c true true hb hc hd he rest =
        absurd (let w = sym hb ∙ subst (λ n. bytes_eq n m.name ≡ true) (same_name q gone hd) he in cc)
    go false c true false hb hc hd he rest = ap (λ (b : Bool). cond b m.count (count_of q (lowered gone ms))) he ∙ rest
    go false c false true hb hc hd he rest = ap (λ (b : Bool). cond b m.count (count_of q (lowered gone ms))) he
    go false c false false hb hc hd he rest = ap (λ (b : Bool). cond b m.count (count_of q (lowered gone ms))) he ∙ rest

-- ascending lists with the same counts are the same
here : (m : Member) (ms : List Member) → count_of m.name (m ∷ ms) ≡ m.count
here m ms = ap (λ (b : Bool). cond b m.count (count_of m.name ms)) (same_itself m.name)

no_less : (m n : ℕ) → 0 < m → m ≡ n → n ≡ 0 → ⊥
no_less m n there same none = omega arith

rest_count : (q : List ℕ) (m : Member) (ms : List Member) → NamesAscend (m ∷ ms) → (b : Bool) → bytes_eq q m.name ≡ b → count_of q ms ≡ cond b 0 (count_of q (m ∷ ms))
rest_count q m ms ascend true h = subst (λ n. count_of n ms ≡ 0) (sym (same_name q m.name h)) (none_above m.name ms (above_first m ms ascend))
rest_count q m ms ascend false h = sym (ap (λ (b : Bool). cond b m.count (count_of q ms)) h)

pub same_counts : SameCountsSameView
same_counts [] [] x y there therey h = refl
same_counts [] (w ∷ ws) x y there therey h = absurd (no_less w.count (count_of w.name (w ∷ ws)) therey.0 (sym (here w ws)) (sym (h w.name)))
same_counts (v ∷ vs) [] x y there therey h = absurd (no_less v.count (count_of v.name (v ∷ vs)) there.0 (sym (here v vs)) (h v.name))
same_counts (v ∷ vs) (w ∷ ws) x y there therey h =
    go (order v.name w.name) refl (same_counts vs ws (ascend_rest v vs x) (ascend_rest w ws y) there.1 therey.1)
  where
    go : (o : Ordering) → order v.name w.name ≡ o → (((name : List ℕ) → count_of name vs ≡ count_of name ws) → vs ≡ ws) → v ∷ vs ≡ w ∷ ws
    go Less k later =
        absurd (no_less v.count (count_of v.name (w ∷ ws)) there.0 (sym (here v vs) ∙ h v.name)
        (none_above v.name (w ∷ ws) (k, above_more v.name w.name ws k (above_first w ws y))))
    go Greater k later =
        let less = total.antisymm w.name v.name ∙ ap ordering_reverse k in
        absurd (no_less w.count (count_of w.name (v ∷ vs)) therey.0 (sym (here w ws) ∙ sym (h w.name))
        (none_above w.name (v ∷ vs) (less, above_more w.name v.name vs less (above_first v vs x))))
    go Equal k later =
        let names : v.name ≡ w.name = exact_bytes v.name w.name k in
        let counts : v.count ≡ w.count = sym (here v vs) ∙ (h v.name ∙ (ap (λ q. count_of q (w ∷ ws)) names ∙ here w ws)) in
        let same : v ≡ w = ap (λ q. record { name = q; count = v.count }) names ∙ ap (λ n. record { name = w.name; count = n }) counts in
        let rests : (name : List ℕ) → count_of name vs ≡ count_of name ws =
        λ q. rest_count q v vs x (bytes_eq q v.name) refl
        ∙ (ap (λ n. cond (bytes_eq q v.name) 0 n) (h q)
        ∙ (ap (λ m. cond (bytes_eq q m) 0 (count_of q (w ∷ ws))) names
        ∙ sym (rest_count q w ws y (bytes_eq q w.name) refl))) in
        ap (λ u. u ∷ vs) same ∙ ap (λ us. w ∷ us) (later rests)

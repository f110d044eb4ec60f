-- Who answers for a key, from both sides.
use Rattle.std.proofs.Common.{◌≡◌, ℕ, suc, ◌+◌, Bool, true, false, List, [], ◌∷◌, length, refl, sym, ap, ◌∙◌, arith}
use Rattle.std.specs.Prelude.{◌&&◌, map, filter, if◌then◌else◌, Result, Ok, Err, OnOk}
use Rattle.std.specs.List.{count_by}
use Rattle.zs_keys.specs.Text.{chunks, is_double_star}
use Rattle.zs_keys.specs.Matching.{intersects, includes, is_free, chunk_meets}
use Rattle.zs_keys.proofs.Symmetry.{meets_comm, chunk_meets_comm}
use Rattle.zs_keys.proofs.CutLemmas.{double_star-free}
use Rattle.zs_keys.proofs.IncludeMeets.{includes-meets}
use Rattle.zs_tables.specs.declared.candidate.Offer.TheVariants.{Subscriber, Queryable}
use Rattle.zs_tables.specs.declared.listener.Sought.{Sought}
use Rattle.zs_tables.specs.declared.listener.Sought.TheVariants.{Subscribers, Queryables, CompleteQueryables}
use Rattle.zs_tables.specs.declared.listener.ListenerRow.{ListenerRow}
use Rattle.zs_subscriptions.specs.declared.subscriber.SubRow.{SubRow}
use Rattle.zs_tables.specs.declared.queryable.QueryableRow.{QueryableRow}
use Rattle.zs_tables.specs.declared.remote_row.RemoteSubscriber.{RemoteSubscriber}
use Rattle.zs_tables.specs.declared.remote_row.RemoteQueryable.{RemoteQueryable}
use Rattle.zs_subscriptions.specs.Recipients.{takes}
use Rattle.zs_tables.specs.Queryables.{answers_for, answers_whole}
use Rattle.zs_tables.specs.RemoteEntities.{RemoteEntities, is_whole, answers}
use Rattle.zs_tables.specs.Matching.{candidates, count_of, is_sought}
use Rattle.zs_tables.specs.Present.{own_sought, own_count, remote_sought, remote_count}
use Rattle.zs_subscriptions.proofs.ByKey.{by_test}
use Rattle.zs_tables.proofs.Counting.{count_cons}
use Rattle.zs_tables.proofs.Moving.{counted_apart}

-- two keys meet from either side
pub meet_both : (p q : List ℕ) → intersects p q ≡ intersects q p
meet_both p q = meets_comm is_double_star is_free chunk_meets chunk_meets_comm double_star-free (chunks p) (chunks q)

pub count_agree : {X : Type 0} (p q : X → Bool) → ((x : X) → p x ≡ q x) → (xs : List X) → count_by p xs ≡ count_by q xs
count_agree p q agree [] = refl
count_agree p q agree (x ∷ xs) = rw (count_cons p x xs, count_cons q x xs, agree x, count_agree p q agree xs) refl

pub map_agree : {X : Type 0} (number : X → ℕ) (p q : X → Bool) → ((x : X) → p x ≡ q x) → (xs : List X) → map number (filter p xs) ≡ map number (filter q xs)
map_agree number p q agree [] = refl
map_agree number p q agree (x ∷ xs) =
    let ih = map_agree number p q agree xs in
    by_test (q x)
    (λ k. rw (agree x, k) (ap (λ (rest : List ℕ). number x ∷ rest) ih))
    (λ k. rw (agree x, k) ih)

none_more : (n : ℕ) → 0 + n ≡ n
none_more n = omega arith

one_more : (n : ℕ) → suc n ≡ 1 + n
one_more n = omega arith

count_nobody : {X : Type 0} (xs : List X) → count_by (λ x. false) xs ≡ 0
count_nobody [] = refl
count_nobody (x ∷ xs) = count_cons (λ x. false) x xs ∙ none_more (count_by (λ x. false) xs) ∙ count_nobody xs

-- as many as a list of their numbers is long
pub length_met : {X : Type 0} (number : X → ℕ) (p : X → Bool) (xs : List X) → length (map number (filter p xs)) ≡ count_by p xs
length_met number p [] = refl
length_met number p (x ∷ xs) =
    let ih = length_met number p xs in
    by_test (p x) (λ k. rw (count_cons p x xs, k) (ap suc ih ∙ one_more (count_by p xs))) (λ k. rw (count_cons p x xs, k) (ih ∙ sym (none_more (count_by p xs))))

pub ok_length : {X T E : Type 0} (r : Result T E) (xs ys : List X) → OnOk r (xs ≡ ys) → OnOk r (length xs ≡ length ys)
ok_length (Ok u) xs ys is = ap length is
ok_length (Err e) xs ys is = tt

both_include : (c : Bool) (its mine : List ℕ) → ((c && includes its mine) && intersects mine its) ≡ (c && includes its mine)
both_include false its mine = refl
both_include true its mine =
    by_test (includes its mine)
    (λ k. rw (k, meet_both mine its, includes-meets its mine k) refl)
    (λ k. rw k refl)

-- one that is complete and includes a text meets it
pub whole_meets : (text : List ℕ) (q : QueryableRow) → (answers_whole text q && intersects text q.key.text) ≡ answers_whole text q
whole_meets text q = both_include q.complete q.key.text text

-- whether one answers, where complete ones alone are wanted, and where all are
pub whole_is_for : (complete : Bool) (text : List ℕ) → complete ≡ true → (q : QueryableRow) → (answers_whole text q && intersects text q.key.text) ≡ answers_for complete text q
whole_is_for true text is q = whole_meets text q
whole_is_for false text is q = absurd (cc)

pub meets_is_for : (complete : Bool) (text : List ℕ) → complete ≡ false → (q : QueryableRow) → intersects text q.key.text ≡ answers_for complete text q
meets_is_for complete text is q = rw is (meet_both text q.key.text)

-- the same of those that the other side declared
pub remote_whole_is_for : (complete : Bool) (text : List ℕ) → complete ≡ true → (q : RemoteQueryable) → (is_whole text q && intersects text q.key.text) ≡ answers complete text q
remote_whole_is_for true text is q = both_include q.complete q.key.text text
remote_whole_is_for false text is q = absurd (cc)

pub remote_meets_is_for : (complete : Bool) (text : List ℕ) → complete ≡ false → (q : RemoteQueryable) → intersects text q.key.text ≡ answers complete text q
remote_meets_is_for complete text is q = rw is (meet_both text q.key.text)

own_by : (b : Bool) (sought : Sought) (mine : List ℕ) (subs : List SubRow) (queryables : List QueryableRow)
    → (if b then own_sought sought mine subs queryables else 0)
    ≡ count_by (λ s. b && is_sought sought mine Subscriber s.key.text) subs + count_by (λ q. b && is_sought sought mine (Queryable q.complete) q.key.text) queryables
own_by false sought mine subs queryables = rw (count_nobody subs, count_nobody queryables) refl
own_by true Subscribers mine subs queryables =
    rw (count_nobody queryables, count_agree (λ (s : SubRow). intersects mine s.key.text) (λ s. intersects s.key.text mine) (λ s. meet_both mine s.key.text) subs) (omega arith)
own_by true Queryables mine subs queryables = rw (count_nobody subs) (sym (none_more _))
own_by true CompleteQueryables mine subs queryables = rw (count_nobody subs) (sym (none_more _))

told_by : (b : Bool) (sought : Sought) (mine : List ℕ) (told : RemoteEntities)
    → (if b then remote_sought sought mine told else 0)
    ≡ count_by (λ s. b && is_sought sought mine Subscriber s.key.text) told.subs + count_by (λ q. b && is_sought sought mine (Queryable q.complete) q.key.text) told.queryables
told_by false sought mine told = rw (count_nobody told.subs, count_nobody told.queryables) refl
told_by true Subscribers mine told = rw (count_nobody told.queryables) (omega arith)
told_by true Queryables mine told = rw (count_nobody told.subs) (sym (none_more _))
told_by true CompleteQueryables mine told = rw (count_nobody told.subs) (sym (none_more _))

four : (a b c d n m whole : ℕ) → whole ≡ a + b + c + d → n ≡ a + b → m ≡ c + d → n + m ≡ whole
four a b c d n m whole w p q = omega (arith, w, p, q)

-- both counts together are the count of all
pub counts_together : (subs : List SubRow) (queryables : List QueryableRow) (told : RemoteEntities) (row : ListenerRow)
    → own_count subs queryables row + remote_count told row ≡ count_of (candidates subs queryables told) row
counts_together subs queryables told row =
    four _ _ _ _ (own_count subs queryables row) (remote_count told row) (count_of (candidates subs queryables told) row) (counted_apart row subs queryables told)
    (own_by (takes true row.destination) row.sought row.key.text subs queryables)
    (told_by (takes false row.destination) row.sought row.key.text told)

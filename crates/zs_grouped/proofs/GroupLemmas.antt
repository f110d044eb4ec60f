-- Groups in the order of their texts.
use Rattle.std.proofs.Common.{◌≡◌, ℕ, Bool, true, false, List, [], ◌∷◌, length, String, string_bytes, Option, Some, None, Result, Ok, Err, refl, sym, ap, subst, ◌∙◌, arith}
use Rattle.std.specs.Prelude.{◌==◌, not, map, filter, bytes_eq, option_map, is_some, if◌then◌else◌, OnErr, OnOk}
use Rattle.std.specs.List.{AllByRecursion, list_any, list_all}
use Rattle.std.specs.List.Sorted.{IsStrictlySortedBy}
use Rattle.std.specs.Map.{lookup, remove_entry, set_value, keys_of}
use Rattle.std.specs.BTreeMap.{is_at, insert_entry}
use Rattle.std.specs.BTreeSet.{insert_key}
use Rattle.std.specs.Set.{remove_key}
use Rattle.std.specs.Ordering.{nat_cmp, is_eq, match_ordering}
use Rattle.std.specs.declared.cmp.Ordering.{Ordering}
use Rattle.std.specs.declared.cmp.Ordering.TheVariants.{Less, Equal, Greater}
use Rattle.std.specs.Cmp.Lexicographic.{slice_cmp, nat_list_cmp_total}
use Rattle.std.proofs.lemmas.Bool.Decides.{nat_tests}
use Rattle.std.proofs.lemmas.Cmp.{tied_itself}
use Rattle.std.proofs.lemmas.Map.Keys.{sorted_head, sorted_tail}
use Rattle.std.proofs.lemmas.Map.Lookups.{exact_bytes}
use Rattle.std.proofs.lemmas.Slice.Eq.{bytes_eq-Decides}
use Rattle.zs_grouped.specs.declared.group_row.GroupRow.{GroupRow}
use Rattle.zs_grouped.specs.Groups.{Group, has_text, number_of_group, members_of, joined, with_group, has_members, left, number_left}
use Rattle.zs_grouped.specs.Grouped.{grouped, HasJoined, HasLeft, IsSame, AreGroups}

by_test : {P : Type 0} (b : Bool) → (b ≡ true → P) → (b ≡ false → P) → P
by_test true f g = f refl
by_test false f g = g refl

-- what follows of an answer
pub on_ok : {T E P Q : Type 0} (r : Result T E) → (P → Q) → OnOk r P → OnOk r Q
on_ok (Ok t) f p = f p
on_ok (Err e) f p = tt

pub on_err : {T E P Q : Type 0} (r : Result T E) → (P → Q) → OnErr r P → OnErr r Q
on_err (Ok t) f p = tt
on_err (Err e) f p = f p

abbrev order : List ℕ → List ℕ → Ordering
order a b = slice_cmp nat_cmp a b

-- the order of the keys of a map
abbrev pub key_cmp : {A : Type 0} → String A → String A → Ordering
key_cmp a b = order (string_bytes a) (string_bytes b)

-- whether a key is a text
abbrev pub at : {A : Type 0} → List ℕ → String A → Bool
at text = is_at (λ k. order text (string_bytes k))

equal_is : (text b : List ℕ) → is_eq (order text b) ≡ bytes_eq b text
equal_is text b = go (order text b) refl
  where
    apart : (o : Ordering) → order text b ≡ o → (o ≡ Equal → ⊥) → bytes_eq b text ≡ false
    apart o is other =
        by_test (bytes_eq b text)
        (λ k.
        let same : b ≡ text = (bytes_eq-Decides b text).0 k in
        let tied : order text b ≡ Equal = rw same (tied_itself nat_list_cmp_total text) in
        absurd (other (sym is ∙ tied)))
        (λ k. k)

    go : (o : Ordering) → order text b ≡ o → is_eq (order text b) ≡ bytes_eq b text
    go Less is = rw is (sym (apart Less is (λ e. cc)))
    go Equal is = rw is (sym ((bytes_eq-Decides b text).1 (sym (exact_bytes text b is))))
    go Greater is = rw is (sym (apart Greater is (λ e. cc)))

-- a key is a text where its group has it
pub at_is : {A : Type 0} (text : List ℕ) (e : String A × GroupRow) → at text e.0 ≡ has_text text (grouped e)
at_is text e = equal_is text (string_bytes e.0)

-- no group has a text
abbrev pub HaveNot : {A : Type 0} → List ℕ → List (String A × GroupRow) → Type 0
HaveNot text es = AllByRecursion (λ e. has_text text (grouped e) ≡ false) es

-- those behind a group have other texts than it
later_not : {A : Type 0} (text : List ℕ) (k : String A) (es : List (String A × GroupRow)) → string_bytes k ≡ text → AllByRecursion (λ later. key_cmp k later ≡ Less) (keys_of es) → HaveNot text es
later_not text k [] is above = tt
later_not text k (e ∷ es) is above = (
  by_test (has_text text (grouped e))
      (λ m.
      let same : string_bytes e.0 ≡ text = (bytes_eq-Decides (string_bytes e.0) text).0 m in
      let tied : key_cmp k e.0 ≡ Equal = rw (is, same) (tied_itself nat_list_cmp_total text) in
      absurd (differ (key_cmp k e.0) above.0 tied))
      (λ m. m),
  later_not text k es is above.1,
)
  where
    differ : (o : Ordering) → o ≡ Less → o ≡ Equal → ⊥
    differ o less equal = cc

none_found : {A : Type 0} (text : List ℕ) (es : List (String A × GroupRow)) → None ≡ lookup (at text) es → HaveNot text es
none_found text [] none = tt
none_found {A} text (e ∷ es) none = go (has_text text (grouped e)) refl (none_found text es)
  where
    go : (b : Bool) → has_text text (grouped e) ≡ b → (None ≡ lookup (at text) es → HaveNot text es) → HaveNot text (e ∷ es)
    go true k more = let there : None ≡ Some e.1 = rw (at_is text e, k) at none in absurd (cc)
    go false k more = (k, more (rw (at_is text e, k) at none))

pub have_not : {A : Type 0} (text : List ℕ) (es : List (String A × GroupRow)) → None ≡ lookup (at text) es → HaveNot text es
have_not text es none = none_found text es none

-- the number of a group is that of its row
pub number_found : {A : Type 0} (text : List ℕ) (es : List (String A × GroupRow)) → option_map (λ (row : GroupRow). row.number) (lookup (at text) es) ≡ number_of_group text (map grouped es)
number_found text [] = refl
number_found text (e ∷ es) =
    by_test (has_text text (grouped e)) (λ k. rw (at_is text e, k) refl) (λ k. rw (at_is text e, k) (number_found text es))

-- and so are its members
abbrev pub members_in : Option GroupRow → List ℕ
members_in None = []
members_in (Some row) = row.members.keys

pub members_found : {A : Type 0} (text : List ℕ) (es : List (String A × GroupRow)) → members_in (lookup (at text) es) ≡ members_of text (map grouped es)
members_found text [] = refl
members_found text (e ∷ es) =
    by_test (has_text text (grouped e)) (λ k. rw (at_is text e, k) refl) (λ k. rw (at_is text e, k) (members_found text es))

pub any_found : {A : Type 0} (text : List ℕ) (es : List (String A × GroupRow)) → is_some (lookup (at text) es) ≡ list_any (has_text text) (map grouped es)
any_found text [] = refl
any_found text (e ∷ es) =
    by_test (has_text text (grouped e)) (λ k. rw (at_is text e, k) refl) (λ k. rw (at_is text e, k) (any_found text es))

map_others : {A : Type 0} (text : List ℕ) (f : Group → Group) (es : List (String A × GroupRow)) → HaveNot text es → map (λ g. if has_text text g then f g else g) (map grouped es) ≡ map grouped es
map_others text f [] none = refl
map_others text f (e ∷ es) none = rw none.0 (ap (λ (rest : List Group). grouped e ∷ rest) (map_others text f es none.1))

-- the one group of a text is changed where its row is written over
pub changed : {A : Type 0} (text : List ℕ) (f : Group → Group) (row new : GroupRow) (es : List (String A × GroupRow)) → IsStrictlySortedBy key_cmp (keys_of es) → Some row ≡ lookup (at text) es
    → ((k : String A) → grouped (k, new) ≡ f (grouped (k, row))) → map grouped (set_value (at text) es new) ≡ map (λ g. if has_text text g then f g else g) (map grouped es)
changed text f row new [] up found so = refl
changed {A} text f row new (e ∷ es) up found so = go (has_text text (grouped e)) refl (changed text f row new es (sorted_tail key_cmp e.0 (keys_of es) up))
  where
    go : (b : Bool) → has_text text (grouped e) ≡ b
        → (Some row ≡ lookup (at text) es → ((k : String A) → grouped (k, new) ≡ f (grouped (k, row))) → map grouped (set_value (at text) es new) ≡ map (λ g. if has_text text g then f g else g) (map grouped es))
        → map grouped (set_value (at text) (e ∷ es) new) ≡ map (λ g. if has_text text g then f g else g) (map grouped (e ∷ es))
    go true k more =
        let there : Some row ≡ Some e.1 = rw (at_is text e, k) at found in
        let same : row ≡ e.1 = cc in
        let others = later_not text e.0 es ((bytes_eq-Decides (string_bytes e.0) text).0 k) (sorted_head key_cmp e.0 (keys_of es) up) in
        let head : grouped (e.0, new) ≡ f (grouped e) = so e.0 ∙ ap (λ (r : GroupRow). f (grouped (e.0, r))) same in
        rw (at_is text e, k) (λ i. head i ∷ sym (map_others text f es others) i)
    go false k more = rw (at_is text e, k) (ap (λ (rest : List Group). grouped e ∷ rest) (more (rw (at_is text e, k) at found) so))

-- a new group goes to its place
pub placed_group : {A : Type 0} (key : String A) (row : GroupRow) (es : List (String A × GroupRow)) → None ≡ lookup (at (string_bytes key)) es → map grouped (insert_entry key_cmp es key row) ≡ with_group (grouped (key, row)) (map grouped es)
placed_group key row [] none = refl
placed_group {A} key row (e ∷ es) none = go (key_cmp key e.0) refl (placed_group key row es)
  where
    go : (o : Ordering) → key_cmp key e.0 ≡ o → (None ≡ lookup (at (string_bytes key)) es → map grouped (insert_entry key_cmp es key row) ≡ with_group (grouped (key, row)) (map grouped es))
        → map grouped (insert_entry key_cmp (e ∷ es) key row) ≡ with_group (grouped (key, row)) (map grouped (e ∷ es))
    go Less is more = rw is refl
    go Equal is more = let there : None ≡ Some e.1 = rw is at none in absurd (cc)
    go Greater is more = rw is (ap (λ (rest : List Group). grouped e ∷ rest) (more (rw is at none)))

-- all groups have members
all_some : {A : Type 0} (es : List (String A × GroupRow)) → AreGroups es → AllByRecursion (λ g. has_members g ≡ true) (map grouped es)
all_some [] up = tt
all_some (e ∷ es) up = (up.0, all_some es up.1)

keep_some : (gs : List Group) → AllByRecursion (λ g. has_members g ≡ true) gs → filter has_members gs ≡ gs
keep_some [] h = refl
keep_some (g ∷ gs) h = rw h.0 (ap (λ (rest : List Group). g ∷ rest) (keep_some gs h.1))

pub written_some : {A : Type 0} (text : List ℕ) (new : GroupRow) (es : List (String A × GroupRow)) → AreGroups es → not (length new.members.keys == 0) ≡ true → AreGroups (set_value (at text) es new)
written_some text new [] all some = tt
written_some {A} text new (e ∷ es) all some = go (at text e.0) refl (written_some text new es all.1 some)
  where
    go : (b : Bool) → at text e.0 ≡ b → AreGroups (set_value (at text) es new) → AreGroups (set_value (at text) (e ∷ es) new)
    go true k more = rw k (some, all.1)
    go false k more = rw k (all.0, more)

pub removed_some : {A : Type 0} (text : List ℕ) (es : List (String A × GroupRow)) → AreGroups es → AreGroups (remove_entry (at text) es)
removed_some text [] all = tt
removed_some {A} text (e ∷ es) all = go (at text e.0) refl (removed_some text es all.1)
  where
    go : (b : Bool) → at text e.0 ≡ b → AreGroups (remove_entry (at text) es) → AreGroups (remove_entry (at text) (e ∷ es))
    go true k more = rw k all.1
    go false k more = rw k (all.0, more)

pub placed_some : {A : Type 0} (key : String A) (row : GroupRow) (es : List (String A × GroupRow)) → AreGroups es → not (length row.members.keys == 0) ≡ true → AreGroups (insert_entry key_cmp es key row)
placed_some key row [] all some = (some, tt)
placed_some {A} key row (e ∷ es) all some = go (key_cmp key e.0) refl (placed_some key row es all.1 some)
  where
    go : (o : Ordering) → key_cmp key e.0 ≡ o → AreGroups (insert_entry key_cmp es key row) → AreGroups (insert_entry key_cmp (e ∷ es) key row)
    go Less is more = rw is (some, all)
    go Equal is more = rw is (some, all.1)
    go Greater is more = rw is (all.0, more)

more_some : (members : List ℕ) (id : ℕ) → not (length (insert_key nat_cmp members id) == 0) ≡ true
more_some [] id = refl
more_some (m ∷ members) id = go (nat_cmp id m)
  where
    go : (o : Ordering) → not (length (match_ordering o (id ∷ m ∷ members) (m ∷ members) (m ∷ insert_key nat_cmp members id)) == 0) ≡ true
    go Less = grind (arith, nat_tests)
    go Equal = grind (arith, nat_tests)
    go Greater = grind (arith, nat_tests)

pub joined_has : (id : ℕ) (row new : GroupRow) → HasJoined id row new → not (length new.members.keys == 0) ≡ true
joined_has id row new is = rw is.1 (more_some row.members.keys id)

-- a member joins a group that is there
pub joins : {A : Type 0} (text : List ℕ) (id : ℕ) (row new : GroupRow) (es : List (String A × GroupRow)) → IsStrictlySortedBy key_cmp (keys_of es) → Some row ≡ lookup (at text) es → HasJoined id row new
    → map grouped (set_value (at text) es new) ≡ joined text id (map grouped es)
joins {A} text id row new es up found is =
    let there : list_any (has_text text) (map grouped es) ≡ true = sym (any_found text es) ∙ sym (ap is_some found) in
    rw there (changed text (λ (g : Group). record g { members = insert_key nat_cmp g.members id }) row new es up found (λ k. λ i. record { text = string_bytes k; number = is.0 i; members = is.1 i }))

-- and makes a new one where there is none
pub makes : {A : Type 0} (key : String A) (text : List ℕ) (id : ℕ) (row : GroupRow) (es : List (String A × GroupRow)) → string_bytes key ≡ text → None ≡ lookup (at text) es → row.number ≡ id → row.members.keys ≡ id ∷ []
    → map grouped (insert_entry key_cmp es key row) ≡ joined text id (map grouped es)
makes {A} key text id row es is none number members =
    let absent : list_any (has_text text) (map grouped es) ≡ false = sym (any_found text es) ∙ sym (ap is_some none) in
    let new : grouped (key, row) ≡ record { text = text; number = id; members = id ∷ [] } = λ i. record { text = is i; number = number i; members = members i } in
    rw absent (placed_group key row es (rw is none) ∙ ap (λ (g : Group). with_group g (map grouped es)) new)

-- a row that is written over with what it was
pub same_groups : {A : Type 0} (text : List ℕ) (row new : GroupRow) (es : List (String A × GroupRow)) → Some row ≡ lookup (at text) es → IsSame row new → map grouped (set_value (at text) es new) ≡ map grouped es
same_groups text row new [] found is = refl
same_groups {A} text row new (e ∷ es) found is = go (at text e.0) refl (same_groups text row new es)
  where
    go : (b : Bool) → at text e.0 ≡ b → (Some row ≡ lookup (at text) es → IsSame row new → map grouped (set_value (at text) es new) ≡ map grouped es) → map grouped (set_value (at text) (e ∷ es) new) ≡ map grouped (e ∷ es)
    go true k more =
        let there : Some row ≡ Some e.1 = rw k at found in
        let same : row ≡ e.1 = cc in
        let head : grouped (e.0, new) ≡ grouped e = λ i. record { text = string_bytes e.0; number = (is.0 ∙ ap (λ (r : GroupRow). r.number) same) i; members = (is.1 ∙ ap (λ (r : GroupRow). r.members.keys) same) i } in
        rw k (ap (λ (g : Group). g ∷ map grouped es) head)
    go false k more = rw k (ap (λ (rest : List Group). grouped e ∷ rest) (more (rw k at found) is))

-- one number is taken out of a set
equal_number : (id m : ℕ) → is_at (nat_cmp id) m ≡ (m == id)
equal_number id m = grind (arith, nat_tests)

none_out : (id m : ℕ) (members : List ℕ) → (m == id) ≡ true → AllByRecursion (λ later. nat_cmp m later ≡ Less) members → filter (λ other. not (other == id)) members ≡ members
none_out id m [] is above = refl
none_out id m (n ∷ members) is above =
    let apart : (n == id) ≡ false = grind (arith, nat_tests, is, above.0) in
    rw apart (ap (λ (rest : List ℕ). n ∷ rest) (none_out id m members is above.1))

pub taken_out : (id : ℕ) (members : List ℕ) → IsStrictlySortedBy nat_cmp members → remove_key (is_at (nat_cmp id)) members ≡ filter (λ other. not (other == id)) members
taken_out id [] up = refl
taken_out id (m ∷ members) up =
    by_test (m == id)
    (λ k. rw (equal_number id m, k) (sym (none_out id m members k (sorted_head nat_cmp m members up))))
    (λ k. rw (equal_number id m, k) (ap (λ (rest : List ℕ). m ∷ rest) (taken_out id members (sorted_tail nat_cmp m members up))))

-- a list of one number alone has no others
alone_none : (id : ℕ) (members : List ℕ) → true ≡ list_all (λ member. member == id) members → filter (λ other. not (other == id)) members ≡ []
alone_none id [] h = refl
alone_none id (m ∷ members) h =
    by_test (m == id) (λ k. rw k (alone_none id members (rw k at h))) (λ k. absurd (let l = rw k at h in cc))

others_some : (id : ℕ) (members : List ℕ) → false ≡ list_all (λ member. member == id) members
    → (length (filter (λ other. not (other == id)) members) == 0) ≡ false
others_some id [] h = absurd (cc)
others_some id (m ∷ members) h =
    by_test (m == id) (λ k. rw k (others_some id members (rw k at h))) (λ k. rw k (grind (arith, nat_tests)))

pub left_has : (id : ℕ) (row new : GroupRow) → HasLeft id row new → false ≡ list_all (λ member. member == id) row.members.keys → not (length new.members.keys == 0) ≡ true
left_has id row new is alone = rw is.1 (ap not (others_some id row.members.keys alone))

-- a row that is found twice has others both times
pub with_others : (id : ℕ) (row again : GroupRow) → Some row ≡ Some again → false ≡ list_all (λ member. member == id) row.members.keys → false ≡ list_all (λ member. member == id) again.members.keys
with_others id row again once others =
    let same : row ≡ again = cc in
    subst (λ (r : GroupRow). false ≡ list_all (λ member. member == id) r.members.keys) same others

-- no group has the text: nobody leaves
pub left_none : {A : Type 0} (text : List ℕ) (id : ℕ) (es : List (String A × GroupRow)) → AreGroups es → HaveNot text es → map grouped es ≡ left text id (map grouped es)
left_none text id es all none =
    sym (ap (filter has_members) (map_others text (λ (g : Group). record g { members = filter (λ other. not (other == id)) g.members }) es none)
    ∙ keep_some (map grouped es) (all_some es all))

-- others are left
pub left_some : {A : Type 0} (text : List ℕ) (id : ℕ) (row new : GroupRow) (es : List (String A × GroupRow)) → IsStrictlySortedBy key_cmp (keys_of es) → AreGroups es → Some row ≡ lookup (at text) es → HasLeft id row new → false ≡ list_all (λ member. member == id) row.members.keys
    → map grouped (set_value (at text) es new) ≡ left text id (map grouped es)
left_some {A} text id row new es up all found is alone =
    let so = changed text (λ (g : Group). record g { members = filter (λ other. not (other == id)) g.members }) row new es up found (λ k. λ i. record { text = string_bytes k; number = is.0 i; members = is.1 i }) in
    sym (ap (filter has_members) (sym so) ∙ keep_some (map grouped (set_value (at text) es new)) (all_some (set_value (at text) es new) (written_some text new es all (left_has id row new is alone))))

-- the last one is gone
pub left_last : {A : Type 0} (text : List ℕ) (id : ℕ) (row : GroupRow) (es : List (String A × GroupRow)) → IsStrictlySortedBy key_cmp (keys_of es) → AreGroups es → Some row ≡ lookup (at text) es → true ≡ list_all (λ member. member == id) row.members.keys
    → map grouped (remove_entry (at text) es) ≡ left text id (map grouped es)
left_last text id row [] up all found alone = refl
left_last {A} text id row (e ∷ es) up all found alone = go (has_text text (grouped e)) refl (left_last text id row es (sorted_tail key_cmp e.0 (keys_of es) up) all.1)
  where
    go : (b : Bool) → has_text text (grouped e) ≡ b
        → (Some row ≡ lookup (at text) es → true ≡ list_all (λ member. member == id) row.members.keys → map grouped (remove_entry (at text) es) ≡ left text id (map grouped es))
        → map grouped (remove_entry (at text) (e ∷ es)) ≡ left text id (map grouped (e ∷ es))
    go true k more =
        let there : Some row ≡ Some e.1 = rw (at_is text e, k) at found in
        let same : row ≡ e.1 = cc in
        let gone : filter (λ other. not (other == id)) e.1.members.keys ≡ [] = subst (λ (r : GroupRow). filter (λ other. not (other == id)) r.members.keys ≡ []) same (alone_none id row.members.keys alone) in
        let others = later_not text e.0 es ((bytes_eq-Decides (string_bytes e.0) text).0 k) (sorted_head key_cmp e.0 (keys_of es) up) in
        rw (at_is text e, k, gone) (left_none text id es all.1 others)
    go false k more = rw (at_is text e, k, all.0) (ap (λ (rest : List Group). grouped e ∷ rest) (more (rw (at_is text e, k) at found) alone))

pub number_left_none : {A : Type 0} (text : List ℕ) (id : ℕ) (es : List (String A × GroupRow)) → None ≡ lookup (at text) es → None ≡ number_left text id (map grouped es)
number_left_none text id es none =
    let members : members_of text (map grouped es) ≡ [] = sym (members_found text es) ∙ sym (ap members_in none) in
    let number : number_of_group text (map grouped es) ≡ None = sym (number_found text es) ∙ sym (ap (option_map (λ (row : GroupRow). row.number)) none) in
    rw (members, number) refl

pub number_left_last : {A : Type 0} (text : List ℕ) (id : ℕ) (row : GroupRow) (es : List (String A × GroupRow)) → Some row ≡ lookup (at text) es → true ≡ list_all (λ member. member == id) row.members.keys → Some row.number ≡ number_left text id (map grouped es)
number_left_last text id row es found alone =
    let members : members_of text (map grouped es) ≡ row.members.keys = sym (members_found text es) ∙ sym (ap members_in found) in
    let number : number_of_group text (map grouped es) ≡ Some row.number = sym (number_found text es) ∙ sym (ap (option_map (λ (r : GroupRow). r.number)) found) in
    rw (members, alone_none id row.members.keys alone, number) refl

pub number_left_some : {A : Type 0} (text : List ℕ) (id : ℕ) (row : GroupRow) (es : List (String A × GroupRow)) → Some row ≡ lookup (at text) es → false ≡ list_all (λ member. member == id) row.members.keys → None ≡ number_left text id (map grouped es)
number_left_some text id row es found alone =
    let members : members_of text (map grouped es) ≡ row.members.keys = sym (members_found text es) ∙ sym (ap members_in found) in
    rw (members, others_some id row.members.keys alone) refl

-- a group that is found is there, and has members
pub group_there : {A : Type 0} (text : List ℕ) (row : GroupRow) (es : List (String A × GroupRow)) → Some row ≡ lookup (at text) es → list_any (has_text text) (map grouped es) ≡ true
group_there text row es found = sym (any_found text es) ∙ sym (ap is_some found)

pub group_absent : {A : Type 0} (text : List ℕ) (es : List (String A × GroupRow)) → None ≡ lookup (at text) es → list_any (has_text text) (map grouped es) ≡ false
group_absent text es none = sym (any_found text es) ∙ sym (ap is_some none)

found_some : {A : Type 0} (text : List ℕ) (row : GroupRow) (es : List (String A × GroupRow)) → AreGroups es → Some row ≡ lookup (at text) es → not (length row.members.keys == 0) ≡ true
found_some text row [] all found = absurd (cc)
found_some {A} text row (e ∷ es) all found = go (at text e.0) refl (found_some text row es all.1)
  where
    go : (b : Bool) → at text e.0 ≡ b → (Some row ≡ lookup (at text) es → not (length row.members.keys == 0) ≡ true) → not (length row.members.keys == 0) ≡ true
    go true k more =
        let there : Some row ≡ Some e.1 = rw k at found in
        let same : row ≡ e.1 = cc in
        subst (λ (r : GroupRow). not (length r.members.keys == 0) ≡ true) (sym same) all.0
    go false k more = more (rw k at found)

-- all groups have members once one was to join
pub kept_some : {A T E : Type 0} (r : Result T E) (text : List ℕ) (id : ℕ) (row new : GroupRow) (es : List (String A × GroupRow)) → OnOk r (HasJoined id row new) → OnErr r (IsSame row new) → AreGroups es → Some row ≡ lookup (at text) es → AreGroups (set_value (at text) es new)
kept_some (Ok t) text id row new es ok err all found = written_some text new es all (joined_has id row new ok)
kept_some (Err e) text id row new es ok err all found = written_some text new es all (rw err.1 (found_some text row es all found))

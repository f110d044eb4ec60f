-- The parameters that a get sends are plain, where those that it is given are.
use Rattle.std.proofs.Common.{◌≡◌, ℕ, zero, suc, ◌+◌, ◌-◌, ◌<◌, ◌≤◌, ◌==◌, ◌++◌, List, [], ◌∷◌, length, take, drop, get_or, map, Bool, true, false, not, ◌&&◌, refl, sym, ◌∙◌, ap, subst, arith, inl, inr, IsCharBoundary}
use Rattle.std.specs.Prelude.{if◌then◌else◌, encode_utf8_all}
use Rattle.std.specs.List.{AllByRecursion, slice_split, before_first, after_first, position_or_len, suffix_len, join_with_byte}
use Rattle.std.specs.Str.{IsUtf8}
use Rattle.std.proofs.Math.Seq.{take-length, take-append_seam, drop-append-add, get_or-append_seam}
use Rattle.std.proofs.lemmas.Bool.{and_parts, cases_lt, eqb-true}
use Rattle.std.proofs.lemmas.List.{drop_all, length-append}
use Rattle.std.proofs.lemmas.List.Folds.{list_all-append}
use Rattle.std.proofs.lemmas.List.Sums.{split_at_first, prefix_len_stops, prefix_len-le-length}
use Rattle.std.proofs.lemmas.List.Splits.{join_with_byte-slice_split}
use Rattle.std.proofs.lemmas.Str.{IsUtf8-nil, IsUtf8-take, IsUtf8-drop, IsCharBoundary-before_ascii, IsCharBoundary-after_ascii}
use Rattle.zs_wire.specs.Parameters.{is_end_sign, trimmed_text, pieces, pair_of, pairs, has_name, other_pairs, piece_of, text_with, any_key_name}
use Rattle.zs_wire.proofs.Trimming.{sign_more, sign_none, boundary_before}
use Rattle.zs_events.specs.Kinds.{Question}
use Rattle.zs_core.specs.Questions.{given_parameters, parameters_of}
use Rattle.zs_script.specs.Plain.{is_plain, is_field_text}
use Rattle.zs_driving.proofs.Progress.{all_append}
use Rattle.zs_session.proofs.PlainKeys.{IsText, field_text, joined_text, filter_all}

abbrev plain_byte : ℕ → Bool
plain_byte b = not (b == 9) && not (b == 10)

abbrev AreTexts : List (List ℕ) → Type 0
AreTexts texts = AllByRecursion IsText texts

abbrev IsTextPair : List ℕ × List ℕ → Type 0
IsTextPair pair = IsText pair.0 × IsText pair.1

no_text : IsText []
no_text = (refl, IsUtf8-nil)

-- the signs of parameters, and a name
equals_text : IsText (0x3d ∷ [])
unfolding lib.Utf8.encode
equals_text = field_text (0x3d ∷ []) refl

semicolon_text : IsText (0x3b ∷ [])
unfolding lib.Utf8.encode
semicolon_text = field_text (0x3b ∷ []) refl

name_text : IsText any_key_name
unfolding lib.Utf8.encode
name_text = field_text any_key_name refl

-- what holds of the image of each element
pub all_map : {X Y : Type 0} (P : X → Type 0) (Q : Y → Type 0) (f : X → Y) → ((x : X) → P x → Q (f x)) → (xs : List X) → AllByRecursion P xs
    → AllByRecursion Q (map f xs)
all_map P Q f each [] all = tt
all_map P Q f each (x ∷ xs) all = (each x all.0, all_map P Q f each xs all.1)

-- a text cut at a byte that is a character
cut_text : (xs ys : List ℕ) (b : ℕ) → b < 128 → IsText (xs ++ b ∷ ys) → IsText xs × IsText ys
cut_text xs ys b small t =
    let text = xs ++ b ∷ ys in
    let inside : length xs < length text = omega (arith, length-append xs (b ∷ ys)) in
    let low : get_or text (length xs) 0 < 128 = omega (arith, get_or-append_seam xs b ys 0, small) in
    let front = IsUtf8-take text (length xs) t.1 (IsCharBoundary-before_ascii text (length xs) inside low) in
    let back = IsUtf8-drop text (length xs + 1) t.1 (IsCharBoundary-after_ascii text (length xs) t.1 inside low) in
    let plain = and_parts (is_plain xs) (is_plain (b ∷ ys)) (sym (list_all-append plain_byte xs (b ∷ ys)) ∙ t.0) in (
      (plain.0, subst IsUtf8 (take-append_seam xs (b ∷ ys)) front),
      ((and_parts (plain_byte b) (is_plain ys) plain.1).1, subst IsUtf8 (drop-append-add xs (b ∷ ys) 1) back),
    )

-- the pieces of a text between the `;`
joined_pieces : (texts : List (List ℕ)) → IsText (join_with_byte 0x3b texts) → AreTexts texts
joined_pieces [] t = tt
joined_pieces (x ∷ []) t = (t, tt)
joined_pieces (x ∷ y ∷ texts) t =
    let parts = cut_text x (join_with_byte 0x3b (y ∷ texts)) 0x3b (omega arith) t in
    (parts.0, joined_pieces (y ∷ texts) parts.1)

split_texts : (text : List ℕ) → IsText text → AreTexts (slice_split (λ byte. byte == 0x3b) text)
split_texts text t = joined_pieces (slice_split (λ byte. byte == 0x3b) text) (subst IsText (sym (join_with_byte-slice_split 0x3b text)) t)

-- a piece cut at its first `=`

pair_text : (piece : List ℕ) → IsText piece → IsTextPair (pair_of piece)
pair_text piece t =
    elim (cases_lt (position_or_len (λ byte. byte == 0x3d) piece) (length piece)) [
      | inl inside ↦ within inside
      | inr none ↦ whole none
    ]
  where
    place : ℕ
    place = position_or_len (λ byte. byte == 0x3d) piece

    not_false : (b : Bool) → not b ≡ false → b ≡ true
    not_false true h = refl
    not_false false h = cc

    within : place < length piece → IsTextPair (pair_of piece)
    within inside =
        let found : not (get_or piece place 0 == 0x3d) ≡ false = prefix_len_stops (λ byte. not (byte == 0x3d)) piece 0 inside in
        let small : get_or piece place 0 < 128 = omega (arith, eqb-true (get_or piece place 0) 0x3d (not_false (get_or piece place 0 == 0x3d) found)) in
        cut_text (before_first (λ byte. byte == 0x3d) piece) (after_first (λ byte. byte == 0x3d) piece) (get_or piece place 0) small
        (subst IsText (split_at_first (λ byte. byte == 0x3d) piece 0 inside) t)

    whole : length piece ≤ place → IsTextPair (pair_of piece)
    whole none =
        let all : length piece ≡ place = omega (arith, none, prefix_len-le-length (λ byte. not (byte == 0x3d)) piece) in
        let front : piece ≡ take place piece = sym (take-length piece) ∙ ap (λ n. take n piece) all in
        let back : drop (place + 1) piece ≡ [] = drop_all (place + 1) piece (omega (arith, none)) in
        (subst IsText front t, subst IsText (sym back) no_text)

pairs_text : (text : List ℕ) → IsText text → AllByRecursion IsTextPair (pairs text)
pairs_text text t =
    let split = slice_split (λ byte. byte == 0x3b) text in
    all_map IsText IsTextPair pair_of pair_text (pieces text) (filter_all IsText (λ piece. not (length piece == 0)) split (split_texts text t))

-- a pair as it is written
piece_text : (pair : List ℕ × List ℕ) → IsTextPair pair → IsText (piece_of pair)
piece_text pair t = go (length pair.1 == 0)
  where
    go : (b : Bool) → IsText (if b then pair.0 else pair.0 ++ (0x3d ∷ pair.1))
    go true = t.0
    go false = joined_text pair.0 (0x3d ∷ pair.1) t.0 (joined_text (0x3d ∷ []) pair.1 equals_text t.1)

pieces_joined : (texts : List (List ℕ)) → AreTexts texts → IsText (join_with_byte 0x3b texts)
pieces_joined [] all = no_text
pieces_joined (x ∷ []) all = all.0
pieces_joined (x ∷ y ∷ texts) all =
    let rest = pieces_joined (y ∷ texts) all.1 in
    joined_text x (0x3b ∷ join_with_byte 0x3b (y ∷ texts)) all.0 (joined_text (0x3b ∷ []) (join_with_byte 0x3b (y ∷ texts)) semicolon_text rest)

-- a text with one pair more
with_text : (name value text : List ℕ) → IsText name → IsText value → IsText text → IsText (text_with name value text)
with_text name value text n v t =
    let others = filter_all IsTextPair (λ pair. not (has_name name pair)) (pairs text) (pairs_text text t) in
    let all = all_append IsTextPair (other_pairs name text) ((name, value) ∷ []) others ((n, v), tt) in
    pieces_joined (map piece_of (other_pairs name text ++ (name, value) ∷ []))
    (all_map IsTextPair IsText piece_of piece_text (other_pairs name text ++ (name, value) ∷ []) all)

-- a front of a text without the signs at its end
front_trimmed : (text : List ℕ) (n : ℕ) → IsUtf8 text → n ≤ length text → IsUtf8 (take n text)
    → IsUtf8 (take (n - suffix_len is_end_sign (take n text)) text)
front_trimmed text zero all within t = let same : zero ≡ zero - suffix_len is_end_sign (take zero text) = omega arith in subst (λ (k : ℕ). IsUtf8 (take k text)) same t
front_trimmed text (suc n) all within t = go (is_end_sign (get_or text n 0)) refl (λ front. front_trimmed text n all (omega (arith, within)) front)
  where
    one_less : n ≡ suc n - 1
    one_less = omega arith

    go : (b : Bool) → is_end_sign (get_or text n 0) ≡ b → (IsUtf8 (take n text) → IsUtf8 (take (n - suffix_len is_end_sign (take n text)) text))
        → IsUtf8 (take (suc n - suffix_len is_end_sign (take (suc n) text)) text)
    go true is shorter =
        let sign = subst (λ (k : ℕ). is_end_sign (get_or text k 0) ≡ true) one_less is in
        let more : suffix_len is_end_sign (take (suc n) text) ≡ 1 + suffix_len is_end_sign (take n text) =
        subst (λ (k : ℕ). suffix_len is_end_sign (take (suc n) text) ≡ 1 + suffix_len is_end_sign (take k text)) (sym one_less)
        (sign_more text (suc n) (omega arith) within sign) in
        let same : n - suffix_len is_end_sign (take n text) ≡ suc n - suffix_len is_end_sign (take (suc n) text) = omega (arith, more) in
        let boundary = subst (λ (k : ℕ). IsCharBoundary text k) (sym one_less) (boundary_before text (suc n) (omega arith) within sign) in
        subst (λ (k : ℕ). IsUtf8 (take k text)) same (shorter (IsUtf8-take text n all boundary))
    go false is shorter =
        let sign = subst (λ (k : ℕ). is_end_sign (get_or text k 0) ≡ false) one_less is in
        let same : suc n ≡ suc n - suffix_len is_end_sign (take (suc n) text) = omega (arith, sign_none text (suc n) (omega arith) within sign) in
        subst (λ (k : ℕ). IsUtf8 (take k text)) same t

plain_front : (n : ℕ) (text : List ℕ) → is_plain text ≡ true → is_plain (take n text) ≡ true
plain_front zero text h = refl
plain_front (suc n) [] h = refl
plain_front (suc n) (b ∷ bs) h =
    let parts = and_parts (plain_byte b) (is_plain bs) h in
    rw parts.0 (plain_front n bs parts.1)

pub trimmed : (text : List ℕ) → IsText text → IsText (trimmed_text text)
trimmed text t =
    let P : List ℕ → Type 0 = λ l. IsUtf8 (take (length text - suffix_len is_end_sign l) text) in
    let full : IsUtf8 (take (length text) text) = subst IsUtf8 (sym (take-length text)) t.1 in (
      plain_front (length text - suffix_len is_end_sign text) text t.0,
      subst P (take-length text) (front_trimmed text (length text) t.1 (omega arith) full),
    )

-- the parameters of a request
pub parameters_text : (q : Question) → is_field_text q.inquiry.parameters ≡ true → IsText (parameters_of q)
parameters_text q plain = go q.settings.any_key
  where
    given : IsText (given_parameters q)
    given = trimmed (encode_utf8_all q.inquiry.parameters) (field_text q.inquiry.parameters plain)

    go : (b : Bool) → IsText (if b then text_with any_key_name [] (given_parameters q) else given_parameters q)
    go true = with_text any_key_name [] (given_parameters q) name_text no_text given
    go false = given

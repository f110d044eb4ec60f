-- Which printed texts are plain, and how lines and fields of plain texts are found.
use Rattle.std.proofs.Common.{ℕ, zero, suc, ◌≡◌, ◌+◌, ◌/◌, ◌%◌, ◌<◌, ◌==◌, Bool, true, false, not, ◌&&◌, nat_lt, List, [], ◌∷◌, ◌++◌, flat_map, refl, sym, ap, ◌∙◌, arith, cond, decimal, append_assoc}
use Rattle.std.specs.Fmt.{digits, digits_onto, digit_glyph}
use Rattle.std.specs.List.{list_all, onto_first}
use Rattle.std.proofs.lemmas.Bool.{and_parts, and_from, ne_eqb, not_from_false, not-true}
use Rattle.std.proofs.lemmas.List.Folds.{list_all-append}
use Rattle.zs_bytes.specs.Payload.{bytes_of}
use Rattle.zs_lines.specs.Lines.{lines, onto_line, fields}
use Rattle.zs_printing.specs.Words.{hex_digit, hex_digits, hex_text, byte_digits, bytes_text}
use Rattle.zs_printing.specs.Printing.{tabbed}
use Rattle.zs_script.specs.Plain.{has_no_line_feed, is_plain}
use Rattle.zs_script.specs.Laws.{row, LinesHaveNoLineFeed, FieldsArePlain, LinesAreFound, FieldsAreFound}

abbrev pub plain_byte : ℕ → Bool
plain_byte b = not (b == 9) && not (b == 10)

above-plain : (b : ℕ) → 10 < b → plain_byte b ≡ true
above-plain b h =
    and_from _ _ (not_from_false _ (ne_eqb b 9 (λ e. omega arith))) (not_from_false _ (ne_eqb b 10 (λ e. omega arith)))

pub plain-append : (xs ys : List ℕ) → is_plain xs ≡ true → is_plain ys ≡ true → is_plain (xs ++ ys) ≡ true
plain-append xs ys h k = list_all-append plain_byte xs ys ∙ and_from _ _ h k

-- numbers
glyph-plain : (d : ℕ) → plain_byte (digit_glyph false d) ≡ true
glyph-plain d =
    elim (nat_lt d 10) as (λ t. plain_byte (cond t (48 + d) (87 + d)) ≡ true)
    [ true ↦ above-plain (48 + d) (omega arith) | false ↦ above-plain (87 + d) (omega arith) ]

digits-plain : (k n : ℕ) (acc : List ℕ) → is_plain acc ≡ true → is_plain (digits_onto k 10 false n acc) ≡ true
digits-plain zero n acc h = h
digits-plain (suc k) n acc h =
    let more : is_plain (digit_glyph false (n % 10) ∷ acc) ≡ true = and_from _ _ (glyph-plain (n % 10)) h in
    elim (n / 10 == 0) as (λ t. is_plain (cond t (digit_glyph false (n % 10) ∷ acc)
    (digits_onto k 10 false (n / 10) (digit_glyph false (n % 10) ∷ acc))) ≡ true)
    [ true ↦ more | false ↦ digits-plain k (n / 10) _ more ]

pub decimal-plain : (n : ℕ) → is_plain (decimal n) ≡ true
unfolding digits
decimal-plain n = digits-plain 64 n [] refl

-- hexadecimal digits
hex-digit-plain : (d : ℕ) → plain_byte (hex_digit d) ≡ true
hex-digit-plain d =
    elim (nat_lt d 10) as (λ t. plain_byte (cond t (48 + d) (87 + d)) ≡ true)
    [ true ↦ above-plain (48 + d) (omega arith) | false ↦ above-plain (87 + d) (omega arith) ]

hex-digits-plain : (places n : ℕ) → is_plain (hex_digits places n) ≡ true
unfolding hex_digits
hex-digits-plain zero n = refl
hex-digits-plain (suc places) n =
    plain-append (cond (nat_lt n 16) [] (hex_digits places (n / 16))) (hex_digit (n % 16) ∷ [])
    (elim (nat_lt n 16) as (λ t. is_plain (cond t [] (hex_digits places (n / 16))) ≡ true)
    [ true ↦ refl | false ↦ hex-digits-plain places (n / 16) ])
    (and_from _ _ (hex-digit-plain (n % 16)) refl)

pub hex-plain : (n : ℕ) → is_plain (hex_text n) ≡ true
hex-plain n = hex-digits-plain 32 n

digit-bytes-plain : (bytes : List ℕ) → is_plain (flat_map byte_digits bytes) ≡ true
digit-bytes-plain [] = refl
digit-bytes-plain (b ∷ bs) =
    and_from _ _ (hex-digit-plain (b / 16)) (and_from _ _ (hex-digit-plain (b % 16)) (digit-bytes-plain bs))

pub bytes-plain : (payload : List (List ℕ)) → is_plain (bytes_text payload) ≡ true
bytes-plain payload = digit-bytes-plain (bytes_of payload)

-- lines
onto-no-feed : (b : ℕ) (ls : List (List ℕ)) → not (b == 10) ≡ true → list_all has_no_line_feed ls ≡ true
    → list_all has_no_line_feed (onto_line b ls) ≡ true
onto-no-feed b [] h k = and_from _ _ (and_from _ _ h refl) refl
onto-no-feed b (l ∷ ls) h k =
    let parts = and_parts (has_no_line_feed l) (list_all has_no_line_feed ls) k in
    and_from _ _ (and_from _ _ h parts.0) parts.1

pub lines-no-feed : LinesHaveNoLineFeed
lines-no-feed [] = refl
lines-no-feed (b ∷ bs) =
    elim (b == 10) as (λ t. (b == 10) ≡ t → list_all has_no_line_feed (cond t ([] ∷ lines bs) (onto_line b (lines bs))) ≡ true) [
      | true ↦ λ e. lines-no-feed bs
      | false ↦ λ e. onto-no-feed b (lines bs) (not_from_false _ e) (lines-no-feed bs)
    ] refl

-- fields
onto-plain : (b : ℕ) (parts : List (List ℕ)) → plain_byte b ≡ true → list_all is_plain parts ≡ true
    → list_all is_plain (onto_first b parts) ≡ true
onto-plain b [] h k = and_from _ _ (and_from _ _ h refl) refl
onto-plain b (part ∷ parts) h k =
    let both = and_parts (is_plain part) (list_all is_plain parts) k in
    and_from _ _ (and_from _ _ h both.0) both.1

pub fields-plain : FieldsArePlain
fields-plain [] h = refl
fields-plain (b ∷ bs) h =
    let both = and_parts (not (b == 10)) (has_no_line_feed bs) h in
    let rest = fields-plain bs both.1 in
    elim (b == 9) as (λ t. (b == 9) ≡ t → list_all is_plain (cond t ([] ∷ fields bs) (onto_first b (fields bs))) ≡ true) [
      | true ↦ λ e. rest
      | false ↦ λ e. onto-plain b (fields bs) (and_from _ _ (not_from_false _ e) both.0) rest
    ] refl

-- a printed line
no-feed : (xs : List ℕ) → is_plain xs ≡ true → has_no_line_feed xs ≡ true
no-feed [] h = refl
no-feed (b ∷ bs) h =
    let both = and_parts (plain_byte b) (is_plain bs) h in
    and_from _ _ (and_parts (not (b == 9)) (not (b == 10)) both.0).1 (no-feed bs both.1)

no-feed-append : (xs ys : List ℕ) → has_no_line_feed xs ≡ true → has_no_line_feed ys ≡ true
    → has_no_line_feed (xs ++ ys) ≡ true
no-feed-append xs ys h k = list_all-append (λ b. not (b == 10)) xs ys ∙ and_from _ _ h k

no-feed-row : (parts : List (List ℕ)) → list_all is_plain parts ≡ true → has_no_line_feed (row parts) ≡ true
no-feed-row [] h = refl
no-feed-row (part ∷ parts) h =
    let both = and_parts (is_plain part) (list_all is_plain parts) h in
    no-feed-append part (row parts) (no-feed part both.0) (no-feed-row parts both.1)

tabbed-row : (parts : List (List ℕ)) (rest : List ℕ) → tabbed parts ++ rest ≡ row parts ++ (10 ∷ rest)
tabbed-row [] rest = refl
tabbed-row (part ∷ parts) rest =
    ap (λ (xs : List ℕ). 9 ∷ xs) (append_assoc part (tabbed parts) rest ∙ ap (λ (xs : List ℕ). part ++ xs) (tabbed-row parts rest)
    ∙ sym (append_assoc part (row parts) (10 ∷ rest)))

pub before-feed : (xs rest : List ℕ) → has_no_line_feed xs ≡ true → lines (xs ++ (10 ∷ rest)) ≡ xs ∷ lines rest
before-feed [] rest h = refl
before-feed (b ∷ bs) rest h =
    let both = and_parts (not (b == 10)) (has_no_line_feed bs) h in
    rw (not-true _ both.0) (ap (onto_line b) (before-feed bs rest both.1))

pub lines-found : LinesAreFound
lines-found number parts rest h =
    ap lines (append_assoc (decimal number) (tabbed parts) rest
    ∙ ap (λ (xs : List ℕ). decimal number ++ xs) (tabbed-row parts rest)
    ∙ sym (append_assoc (decimal number) (row parts) (10 ∷ rest)))
    ∙ before-feed (decimal number ++ row parts) rest
    (no-feed-append (decimal number) (row parts) (no-feed (decimal number) (decimal-plain number)) (no-feed-row parts h))

pub before-tab : (xs rest : List ℕ) → is_plain xs ≡ true → fields (xs ++ (9 ∷ rest)) ≡ xs ∷ fields rest
before-tab [] rest h = refl
before-tab (b ∷ bs) rest h =
    let both = and_parts (plain_byte b) (is_plain bs) h in
    let no : (b == 9) ≡ false = not-true _ (and_parts (not (b == 9)) (not (b == 10)) both.0).0 in
    rw no (ap (onto_first b) (before-tab bs rest both.1))

one-field : (xs : List ℕ) → is_plain xs ≡ true → fields (xs ++ []) ≡ xs ∷ []
one-field [] h = refl
one-field (b ∷ bs) h =
    let both = and_parts (plain_byte b) (is_plain bs) h in
    let no : (b == 9) ≡ false = not-true _ (and_parts (not (b == 9)) (not (b == 10)) both.0).0 in
    rw no (ap (onto_first b) (one-field bs both.1))

pub row-fields : (field : List ℕ) (parts : List (List ℕ)) → is_plain field ≡ true → list_all is_plain parts ≡ true
    → fields (field ++ row parts) ≡ field ∷ parts
row-fields field [] h k = one-field field h
row-fields field (part ∷ parts) h k =
    let both = and_parts (is_plain part) (list_all is_plain parts) k in
    before-tab field (part ++ row parts) h ∙ ap (λ (ps : List (List ℕ)). field ∷ ps) (row-fields part parts both.0 both.1)

pub fields-found : FieldsAreFound
fields-found number parts h = row-fields (decimal number) parts (decimal-plain number) h

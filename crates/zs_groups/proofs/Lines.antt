-- What the sides took and delivered behind the program's lines: what a side of a group takes, and deliveries.
use Rattle.std.proofs.Common.{◌≡◌, ◌<◌, ℕ, ◌+◌, zero, suc, Bool, true, false, List, [], ◌∷◌, ◌++◌, length, Option, Some, None, refl, sym, ◌∙◌, ap, subst, cond, arith, lit<}
use Rattle.std.specs.Prelude.{◌&&◌, not, nat_le, ◌==◌, codes, decimal, encode_utf8_all, option_map, if◌then◌else◌}
use Rattle.std.specs.List.{AllByRecursion, list_all}
use Rattle.std.specs.Option.{IfSome}
use Rattle.std.specs.Str.{bytes_eq, chars, all_scalars, is_utf8, IsAscii}
use Rattle.std.proofs.lemmas.Bool.Decides.{nat_tests}
use Rattle.std.proofs.lemmas.List.{append_assoc}
use Rattle.std.proofs.lemmas.Str.{scalars-chars, IsUtf8-from_ascii}
use Rattle.std.proofs.lemmas.Str.Ascii.{IsAscii-nil, IsAscii-cons}
use Rattle.zs_lines.specs.Lines.{fields}
use Rattle.zs_parts.specs.Symbols.{after_prefix}
use Rattle.zs_printing.specs.Printing.{line}
use Rattle.zs_core.specs.Types.{Settings}
use Rattle.zs_driving.specs.Languages.{events_of}
use Rattle.zs_delivery.specs.declared.side.LinkSide.{LinkSide}
use Rattle.zs_delivery.specs.declared.side.LinkSide.TheVariants.{A, B}
use Rattle.zs_delivery.specs.Linked.{LinkLine, Take, Deliver}
use Rattle.zs_delivery.specs.Links.{AreSpelledLines}
use Rattle.zs_members.specs.Names.{is_name_byte, is_name}
use Rattle.zs_group_lines.specs.declared.line.GroupLine.{GroupLine}
use Rattle.zs_group_lines.specs.declared.line.GroupLine.TheVariants.{Join, Leave, View}
use Rattle.zs_group_lines.specs.Lines.{key_of, line_of, line_of_one, line_of_two, line_named}
use Rattle.zs_group_lines.specs.Tokens.{oldest}
use Rattle.zs_group_laws.specs.Groups.{AreMemberLines}
use Rattle.zs_groups.specs.Told.{Told, joining, leaving, membership_at, with_text, with_link, with_left, with_many, with_moved, waiting_at, first_links}
use Rattle.zs_groups.specs.Language.{Said, To, Move, said_to, named_by, line_named as row_named, said_in, said_of, with_request, with_line, links_behind, group_language}

-- the key of a join is spelled with characters
abbrev IsSaid : Said → Type 0
IsSaid (To side (Join key)) = all_scalars key ≡ true
IsSaid (To side (Leave key)) = Unit {0}
IsSaid (To side View) = Unit {0}
IsSaid (Move from) = Unit {0}

first_of : (a b : Bool) → (a && b) ≡ true → a ≡ true
first_of true b both = refl
first_of false b both = cc

second_of : (a b : Bool) → (a && b) ≡ true → b ≡ true
second_of true b both = both
second_of false b both = cc

small : (b : ℕ) → is_name_byte b ≡ true → b < 128
small b name = grind (arith, nat_tests, name)

ascii_name : (name : List ℕ) → list_all is_name_byte name ≡ true → IsAscii name
ascii_name [] all = IsAscii-nil
ascii_name (b ∷ bs) all = IsAscii-cons b bs (small b (first_of (is_name_byte b) (list_all is_name_byte bs) all)) (ascii_name bs (second_of (is_name_byte b) (list_all is_name_byte bs) all))

ascii_key : (name : List ℕ) → is_name name ≡ true → IsAscii (codes "group/" ++ name)
ascii_key name is =
    let all : list_all is_name_byte name ≡ true = second_of (nat_le (length name) 64) (list_all is_name_byte name) (second_of (not (length name == 0)) (nat_le (length name) 64 && list_all is_name_byte name) is) in
    IsAscii-cons 103 (codes "roup/" ++ name) (lit< tt) (IsAscii-cons 114 (codes "oup/" ++ name) (lit< tt) (IsAscii-cons 111 (codes "up/" ++ name) (lit< tt)
    (IsAscii-cons 117 (codes "p/" ++ name) (lit< tt) (IsAscii-cons 112 (codes "/" ++ name) (lit< tt) (IsAscii-cons 47 name (lit< tt) (ascii_name name all))))))

spelled_key : (name : List ℕ) → is_name name ≡ true → all_scalars (key_of name) ≡ true
spelled_key name is = scalars-chars (codes "group/" ++ name) (IsUtf8-from_ascii (codes "group/" ++ name) (ascii_key name is))

said_two : (side : LinkSide) (word name : List ℕ) (is : Bool) → is_name name ≡ is → IfSome (option_map (λ request. To side request) (if is then line_named word name else None)) IsSaid
said_two side word name false not_so = tt
said_two side word name true so = go (bytes_eq word (codes "join")) (bytes_eq word (codes "leave"))
  where
    go : (join leave : Bool) → IfSome (option_map (λ request. To side request) (if join then Some (Join (key_of name)) else if leave then Some (Leave (key_of name)) else None)) IsSaid
    go true leave = spelled_key name so
    go false true = tt
    go false false = tt

said_one : (side : LinkSide) (is : Bool) → IfSome (option_map (λ request. To side request) (if is then Some View else None)) IsSaid
said_one side true = tt
said_one side false = tt

said_fields : (side : LinkSide) (words : List (List ℕ)) → IfSome (option_map (λ request. To side request) (line_of words)) IsSaid
said_fields side [] = tt
said_fields side (word ∷ []) = said_one side (bytes_eq word (codes "view"))
said_fields side (word ∷ name ∷ []) = said_two side word name (is_name name) refl
said_fields side (word ∷ name ∷ more ∷ words) = tt

said_named : (a b : Option (List ℕ)) → IfSome (named_by a b) IsSaid
said_named (Some rest) b = said_fields A (fields rest)
said_named None (Some rest) = said_fields B (fields rest)
said_named None None = tt

said_text : (text : List ℕ) (ab ba : Bool) → IfSome (if ab then Some (Move A) else if ba then Some (Move B) else row_named text) IsSaid
said_text text true ba = tt
said_text text false true = tt
said_text text false false = said_named (after_prefix (codes "a\t") text) (after_prefix (codes "b\t") text)

said_row : (row : List ℕ) (utf8 : Bool) → IfSome (if utf8 then said_in row else None) IsSaid
said_row row true = said_text row (bytes_eq row (codes "ab")) (bytes_eq row (codes "ba"))
said_row row false = tt

-- so are those of all rows
pub all_said : (s : Settings) (rows : List (List ℕ)) → AllByRecursion IsSaid (events_of (group_language s) rows)
all_said s [] = tt
all_said s (row ∷ rows) = go (said_of row) refl (said_row row (is_utf8 row)) (all_said s rows)
  where
    go : (o : Option Said) → said_of row ≡ o → IfSome o IsSaid → AllByRecursion IsSaid (events_of (group_language s) rows) → AllByRecursion IsSaid (events_of (group_language s) (row ∷ rows))
    go None is said rest =
        let same : events_of (group_language s) (row ∷ rows) ≡ events_of (group_language s) rows = rw is refl in
        subst (AllByRecursion IsSaid) (sym same) rest
    go (Some what) is said rest =
        let more : events_of (group_language s) (row ∷ rows) ≡ what ∷ events_of (group_language s) rows = rw is refl in
        subst (AllByRecursion IsSaid) (sym more) (said, rest)

-- what was taken and delivered between
pub record Grows (before after : List LinkLine) : Type 0 where
  pub more : List LinkLine
  pub is : after ≡ more ++ before
  pub members : AreMemberLines more
  pub spelled : AreSpelledLines more

grows_none : (links : List LinkLine) → Grows links links
grows_none links = record { more = []; is = refl; members = tt; spelled = tt }

grows_join : (side : LinkSide) (key : List ℕ) (links : List LinkLine) → all_scalars key ≡ true → Grows links (Take side (joining key) ∷ links)
grows_join side key links scalar = record { more = Take side (joining key) ∷ []; is = refl; members = (tt, tt); spelled = (scalar, tt) }

grows_leave : (side : LinkSide) (id : ℕ) (links : List LinkLine) → Grows links (Take side (leaving id) ∷ links)
grows_leave side id links = record { more = Take side (leaving id) ∷ []; is = refl; members = (tt, tt); spelled = (tt, tt) }

grows_left : (s : Settings) (number : ℕ) (side : LinkSide) (o : Option ℕ) (t : Told) → Grows t.links (with_left s number side o t).links
grows_left s number side None t = grows_none t.links
grows_left s number side (Some id) t = grows_leave side id t.links

grows_many : (from : LinkSide) (count : ℕ) (t : Told) → Grows t.links (with_many from count t).links
grows_many from zero t = grows_none t.links
grows_many from (suc n) t =
    let rest = grows_many from n t in
    record { more = Deliver from ∷ rest.more; is = ap (λ (links : List LinkLine). Deliver from ∷ links) rest.is; members = (tt, rest.members); spelled = (tt, rest.spelled) }

grows_line : (s : Settings) (number : ℕ) (said : Said) (t : Told) → IsSaid said → Grows t.links (with_line s number said t).links
grows_line s number (To side (Join key)) t scalar = grows_join side key t.links scalar
grows_line s number (To side (Leave key)) t fine = grows_left s number side (oldest (encode_utf8_all key) (membership_at s side t.links).tokens) t
grows_line s number (To side View) t fine = grows_none t.links
grows_line s number (Move from) t fine = grows_many from (waiting_at s from t.links) (with_text (line number (codes "ok" ∷ decimal (waiting_at s from t.links) ∷ [])) t)

all_members : (xs ys : List LinkLine) → AreMemberLines xs → AreMemberLines ys → AreMemberLines (xs ++ ys)
all_members [] ys first second = second
all_members (x ∷ xs) ys first second = (first.0, all_members xs ys first.1 second)

all_spelled : (xs ys : List LinkLine) → AreSpelledLines xs → AreSpelledLines ys → AreSpelledLines (xs ++ ys)
all_spelled [] ys first second = second
all_spelled (x ∷ xs) ys first second = (first.0, all_spelled xs ys first.1 second)

grows_then : (one two three : List LinkLine) → Grows one two → Grows two three → Grows one three
grows_then one two three first second = record {
  more = second.more ++ first.more;
  is = second.is ∙ ap (λ (links : List LinkLine). second.more ++ links) first.is ∙ sym (append_assoc second.more first.more one);
  members = all_members second.more first.more second.members first.members;
  spelled = all_spelled second.more first.more second.spelled first.spelled;
}

-- what was taken and delivered behind all lines
pub links_grow : (s : Settings) (saids : List Said) → AllByRecursion IsSaid saids → Grows first_links (links_behind s saids)
links_grow s [] all = grows_none first_links
links_grow s (said ∷ h) all =
    grows_then first_links (links_behind s h) (links_behind s (said ∷ h)) (links_grow s h all.1)
    (grows_line s (length h + 1) said (record { links = links_behind s h; text = [] }) all.0)

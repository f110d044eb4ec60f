-- Encodings are read as what was printed of them, and what is left of one that is the default.
use Rattle.std.proofs.Common.{ℕ, ◌≡◌, Bool, true, false, not, List, [], ◌∷◌, ◌++◌, Option, Some, None, option_and_then, refl, sym, ap, ◌∙◌, cond, codes, encode_utf8_all}
use Rattle.std.specs.Str.{all_scalars}
use Rattle.std.proofs.lemmas.Bool.{and_parts}
use Rattle.std.proofs.lemmas.Str.{chars-encodes, encodes_same}
use Rattle.std.specs.Cmp.Lexicographic.{same_text}
use Rattle.zs_sample.specs.Encoding.{encoding_of}
use Rattle.zs_events.specs.Updates.{default_encoding}
use Rattle.zs_events.specs.Kinds.{is_nothing}
use Rattle.zs_parts.specs.Options.{encoding_text_of, is_default, named_encoding}
use Rattle.zs_parts.specs.Parts.{named_in, option_in, named_encoding_in}
use Rattle.zs_printing.specs.Pieces.{field_if, encoding_field}
use Rattle.zs_event_lines.specs.Shown.{unless, encoding_fields}
use Rattle.zs_event_lines.specs.Sayable.{if_there, says_encoding}
use Rattle.zs_event_lines.proofs.Options.{option-back, maybe-same, there}

-- the default encoding, in characters and in bytes
default-encodes : encode_utf8_all default_encoding ≡ default_encoding
unfolding lib.Utf8.encode
default-encodes = refl

pub default-same : (text : List ℕ) → is_default text ≡ true → text ≡ default_encoding
default-same text h = encodes_same text default_encoding (same_text (encode_utf8_all text) default_encoding (sym h) ∙ sym default-encodes)

-- an encoding, and one that may be missing
named-fields : (text : List ℕ) → encoding_fields text ≡ unless (is_default text) (encoding_field text)
named-fields text = go (is_default text)
  where
    go : (b : Bool) → field_if encoding_field (cond b None (Some text)) ≡ unless b (encoding_field text)
    go true = refl
    go false = refl

pub encoding-kept : (text : List ℕ) → not (is_nothing text) ≡ true → encoding_of text ≡ text
encoding-kept [] h = cc
encoding-kept (c ∷ cs) h = refl

pub encoding-says : (text : List ℕ) → says_encoding text ≡ true → all_scalars text ≡ true → encoding_text_of (encode_utf8_all text) ≡ Some text
encoding-says text h k =
    ap (λ (t : List ℕ). Some (encoding_of t)) (chars-encodes text k) ∙ ap Some (encoding-kept text (and_parts (not (is_nothing text)) _ h).0)

pub encoding-back : (text : List ℕ) (rest : List (List ℕ)) → says_encoding text ≡ true → all_scalars text ≡ true
    → named_in (codes "enc=") rest ≡ None
    → option_in (codes "enc=") encoding_text_of default_encoding (encoding_fields text ++ rest) ≡ (text, rest)
encoding-back text rest h k none =
    ap (λ (fields : List (List ℕ)). option_in (codes "enc=") encoding_text_of default_encoding (fields ++ rest)) (named-fields text)
    ∙ option-back (codes "enc=") encoding_text_of default_encoding text (is_default text) (encode_utf8_all text) rest refl
    (default-same text) (encoding-says text h k) none

pub named-encoding-back : (text : Option (List ℕ)) (rest : List (List ℕ)) → if_there says_encoding text ≡ true → if_there all_scalars text ≡ true
    → named_in (codes "enc=") rest ≡ None → named_encoding_in (field_if encoding_field text ++ rest) ≡ (text, rest)
named-encoding-back text rest h k none =
    maybe-same (codes "enc=") encoding_text_of encode_utf8_all text rest refl
    (λ t same. encoding-says t (there says_encoding text h t same) (there all_scalars text k t same)) none

-- an encoding other than the default one
pub other-twice : (text : Option (List ℕ))
    → option_and_then named_encoding (option_and_then named_encoding text) ≡ option_and_then named_encoding text
other-twice None = refl
other-twice (Some text) = go (is_default text) refl
  where
    go : (b : Bool) → is_default text ≡ b → option_and_then named_encoding (cond b None (Some text)) ≡ cond b None (Some text)
    go true same = refl
    go false same = rw same refl

pub other-there : (test : List ℕ → Bool) (text : Option (List ℕ)) → if_there test text ≡ true
    → if_there test (option_and_then named_encoding text) ≡ true
other-there test None h = refl
other-there test (Some text) h = go (is_default text)
  where
    go : (b : Bool) → if_there test (cond b None (Some text)) ≡ true
    go true = refl
    go false = h

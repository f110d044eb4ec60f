-- Worked examples of the definitions, each computed.
use Rattle.std.proofs.Common.{◌≡◌, true, false, refl, [], ◌∷◌}
use Rattle.std.specs.Prelude.{codes, Some, None}
use Rattle.zs_keys.specs.Text.{chunks, is_canonical}
use Rattle.zs_keys.specs.Matching.{meets, intersects, includes}
use Rattle.zs_keys.specs.Canonize.{squeezed_chunk, sink, ordered_chunks, canonize}
use Rattle.zs_keys.specs.Prefix.{before_slash, nonwild_prefix}

slash-splits : chunks (codes "a//") ≡ codes "a" ∷ [] ∷ [] ∷ []
slash-splits = refl

plain-canonical : is_canonical (codes "test/k") ≡ true
plain-canonical = refl

wild-canonical : is_canonical (codes "a/*/**/@b/x$*y$*/**") ≡ true
wild-canonical = refl

empty-refused : is_canonical [] ≡ false
empty-refused = refl

no_chunk-refused : is_canonical (codes "a//b") ≡ false
no_chunk-refused = refl

ends_open-refused : is_canonical (codes "a/") ≡ false
ends_open-refused = refl

twice-refused : is_canonical (codes "**/**") ≡ false
twice-refused = refl

star_after-refused : is_canonical (codes "**/*") ≡ false
star_after-refused = refl

star_before-canonical : is_canonical (codes "*/**") ≡ true
star_before-canonical = refl

alone-refused : is_canonical (codes "a/$*") ≡ false
alone-refused = refl

run-refused : is_canonical (codes "a$*$*b") ≡ false
run-refused = refl

hash-refused : is_canonical (codes "#x") ≡ false
hash-refused = refl

question-refused : is_canonical (codes "a?x") ≡ false
question-refused = refl

bare_star-refused : is_canonical (codes "a*") ≡ false
bare_star-refused = refl

bare_dollar-refused : is_canonical (codes "a$") ≡ false
bare_dollar-refused = refl

dollar_only-refused : is_canonical (codes "$") ≡ false
dollar_only-refused = refl

tail-none : intersects (codes "a/**") (codes "a") ≡ true
unfolding meets
tail-none = refl

star-one : intersects (codes "a/*") (codes "a") ≡ false
unfolding meets
star-one = refl

star-x : intersects (codes "a/*") (codes "a/x") ≡ true
unfolding meets
star-x = refl

any-x : intersects (codes "a/x$*") (codes "a/x") ≡ true
unfolding meets
any-x = refl

verbatim-hidden : intersects (codes "a/**") (codes "a/@b") ≡ false
unfolding meets
verbatim-hidden = refl

verbatim-star : intersects (codes "a/*") (codes "a/@b") ≡ false
unfolding meets
verbatim-star = refl

verbatim-all : intersects (codes "**") (codes "@v/a") ≡ false
unfolding meets
verbatim-all = refl

verbatim-itself : intersects (codes "@v/**") (codes "@v/a") ≡ true
unfolding meets
verbatim-itself = refl

any-both : intersects (codes "$*aa") (codes "aa$*a") ≡ true
unfolding meets
any-both = refl

any-apart : intersects (codes "$*ab") (codes "aa$*a") ≡ false
unfolding meets
any-apart = refl

wild-both : intersects (codes "**/b") (codes "a/**") ≡ true
unfolding meets
wild-both = refl

backs-up : intersects (codes "**/a/b") (codes "a/a/b") ≡ true
unfolding meets
backs-up = refl

star-is_one : intersects (codes "a/*/b") (codes "a/b") ≡ false
unfolding meets
star-is_one = refl

all-includes : includes (codes "**") (codes "a/**/b") ≡ true
unfolding meets
all-includes = refl

star-includes_no_run : includes (codes "*") (codes "**") ≡ false
unfolding meets
star-includes_no_run = refl

star-includes_any : includes (codes "a/*") (codes "a/b$*") ≡ true
unfolding meets
star-includes_any = refl

any-includes_no_star : includes (codes "a/b$*") (codes "a/*") ≡ false
unfolding meets
any-includes_no_star = refl

any-includes_any : includes (codes "a$*") (codes "ab$*c") ≡ true
unfolding meets
any-includes_any = refl

verbatim-not_included : includes (codes "**") (codes "@a") ≡ false
unfolding meets
verbatim-not_included = refl

stars-sink : canonize (codes "a/**/*/$*") ≡ codes "a/*/*/**"
unfolding squeezed_chunk sink ordered_chunks
stars-sink = refl

any-squeezed : canonize (codes "a$*$*$*b/$*$*") ≡ codes "a$*b/*"
unfolding squeezed_chunk sink ordered_chunks
any-squeezed = refl

runs-join : canonize (codes "**/*/**/*/x/**/**") ≡ codes "*/*/**/x/**"
unfolding squeezed_chunk sink ordered_chunks
runs-join = refl

stars-stay : canonize (codes "*/*/a") ≡ codes "*/*/a"
unfolding squeezed_chunk sink ordered_chunks
stars-stay = refl

faults-stay : canonize (codes "a//$x/") ≡ codes "a//$x/"
unfolding squeezed_chunk sink ordered_chunks
faults-stay = refl

nothing-stays : canonize [] ≡ []
unfolding squeezed_chunk sink ordered_chunks
nothing-stays = refl

prefix-whole : nonwild_prefix (codes "a/b") ≡ Some (codes "a/b")
unfolding before_slash
prefix-whole = refl

prefix-before_wild : nonwild_prefix (codes "a/b/c$*/d/*") ≡ Some (codes "a/b")
unfolding before_slash
prefix-before_wild = refl

prefix-none : nonwild_prefix (codes "*/a") ≡ None
unfolding before_slash
prefix-none = refl

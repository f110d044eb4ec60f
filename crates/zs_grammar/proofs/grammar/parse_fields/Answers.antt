use Rattle.std.proofs.Common.{ℕ, ◌≡◌, ◌≢◌, List, Some, true, false, codes, option_map, refl, sym, ap, ◌∙◌}
use Rattle.std.specs.Str.{bytes_eq}
use Rattle.std.proofs.lemmas.Slice.Eq.{bytes_eq-Decides}
use Rattle.zs_events.specs.declared.script_event.ScriptEvent.TheVariants.{Core}
use Rattle.zs_parts.specs.Parts.{first_of}
use Rattle.zs_grammar.specs.Grammar.{event_by, core_by}
use Rattle.zs_grammar.proofs.Choosing.{by-first}
use Rattle.zs_grammar.proofs.grammar.parse_fields.Goals as goal

differs : (word other : List ℕ) → word ≢ other → false ≡ bytes_eq word other
differs word other h =
    elim (bytes_eq word other) as (λ t. bytes_eq word other ≡ t → false ≡ t)
    [ true ↦ λ e. absurd (h ((bytes_eq-Decides word other).0 e)) | false ↦ λ e. refl ] refl

-- a word that reads no channel
reads-none : (word : List ℕ) (rest : List (List ℕ)) → false ≡ bytes_eq word (codes "recv") → event_by word rest ≡ option_map Core (core_by word rest)
reads-none word rest r = rw (← r) refl

pub returns-in_ok-parse_core-in_default-word : goal.returns-in_ok-parse_core-in_default-word
returns-in_ok-parse_core-in_default-word c =
    let word = c.in-Some.word.now in
    let rest = c.next.new.self in
    let first : first_of c.args.fields.now ≡ Some word = sym c.in-Some.ensures.first in
    let made : c.in_ok-parse_core-in_default-word.field-0 ≡ core_by word rest = c.in_ok-parse_core-in_default-word.ensures in
    c.of_session.ensures ∙ ap (option_map Core) made ∙ sym (reads-none word rest (differs _ _ c.in_default-word.not-recv))
    ∙ ap (event_by word) c.next.ensures.rest ∙ sym (by-first event_by c.args.fields.now word first)

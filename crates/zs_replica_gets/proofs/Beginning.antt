-- What a session of the default settings has that declares first a subscriber and then a queryable: the queryable, and no get or query.
use Rattle.std.proofs.Common.{◌≡◌, ℕ, List, [], ◌∷◌, true, false, Option, Some, None, refl, ◌∙◌, ap, lit<}
use Rattle.std.specs.Prelude.{encode_utf8_all, codes}
use Rattle.std.specs.Str.{chars, IsAscii}
use Rattle.std.proofs.lemmas.Str.{encodes-chars, IsUtf8-from_ascii}
use Rattle.std.proofs.lemmas.Str.Ascii.{IsAscii-nil, IsAscii-cons}
use Rattle.zs_keys.specs.Text.{is_canonical}
use Rattle.zs_sample.specs.declared.locality.Locality.TheVariants.{Any}
use Rattle.zs_events.specs.declared.chan.Chan.TheVariants.{Print}
use Rattle.zs_events.specs.declared.event.Event.{Event}
use Rattle.zs_events.specs.declared.event.Event.TheVariants.{Sub, Queryable}
use Rattle.zs_events.specs.declared.key_arg.KeyArg.TheVariants.{Text}
use Rattle.zs_events.specs.declared.turn.Refusal.{Refusal}
use Rattle.zs_model.specs.declared.settings.Settings.{Settings}
use Rattle.zs_model.specs.Settings.{default_settings}
use Rattle.zs_model.specs.Entry.{Entry, is_closed}
use Rattle.zs_model.specs.Gets.{asked}
use Rattle.zs_model.specs.Live.{live_queryables}
use Rattle.zs_model.specs.Values.{values_now}
use Rattle.zs_model.specs.Past.{past_of, entry_of, with_entry}
use Rattle.zs_model.specs.Causes.{refusal_of}
use Rattle.zs_delivery.specs.Linked.{other}
use Rattle.zs_replicas.specs.Replicas.{first_events}
use Rattle.zs_replica_gets.specs.Steps.{answerer_row}
use Rattle.zs_replica_gets.specs.Gets.{Answers}

-- the default settings, with another identifier and another tag
abbrev named : ℕ → ℕ → Settings
named z g = record default_settings { zid = z; tag = g }

-- the same of any two events
record AnswersAt (s : Settings) (keys : List ℕ) (events : List Event) : Type 0 where
  rows : live_queryables (past_of s events) ≡ answerer_row keys ∷ []
  values : values_now (past_of s events) ≡ []
  gets : asked s (past_of s events) ≡ []

module _ (z g : ℕ) (t : List ℕ) where
  -- both events, as they stand in the past
  abbrev first : Entry
  first = record { number = Some 2; text = Some (encode_utf8_all t); event = Sub Any (Text t) Print }

  abbrev second : Entry
  second = record { number = Some 3; text = Some (encode_utf8_all t); event = Queryable Any true (Text t) }

  sub_accepted : is_canonical (encode_utf8_all t) ≡ true → refusal_of (named z g) [] (Sub Any (Text t) Print) ≡ None
  sub_accepted canonical = rw canonical refl

  queryable_accepted : is_canonical (encode_utf8_all t) ≡ true → refusal_of (named z g) (first ∷ []) (Queryable Any true (Text t)) ≡ None
  queryable_accepted canonical = rw canonical refl

  past_is : is_canonical (encode_utf8_all t) ≡ true → past_of (named z g) (Queryable Any true (Text t) ∷ Sub Any (Text t) Print ∷ []) ≡ second ∷ first ∷ []
  past_is canonical =
      let one : past_of (named z g) (Sub Any (Text t) Print ∷ []) ≡ first ∷ [] =
      ap (λ (o : Option Refusal). with_entry o false (entry_of (named z g) [] (Sub Any (Text t) Print)) []) (sub_accepted canonical) in
      ap (λ (past : List Entry). with_entry (refusal_of (named z g) past (Queryable Any true (Text t))) (is_closed past) (entry_of (named z g) past (Queryable Any true (Text t))) past) one
      ∙ ap (λ (o : Option Refusal). with_entry o false (entry_of (named z g) (first ∷ []) (Queryable Any true (Text t))) (first ∷ [])) (queryable_accepted canonical)

  answers_at : encode_utf8_all t ≡ codes "r/**" → AnswersAt (named z g) (codes "r/**") (Queryable Any true (Text t) ∷ Sub Any (Text t) Print ∷ [])
  answers_at spelled =
      let canonical : is_canonical (encode_utf8_all t) ≡ true = ap is_canonical spelled in
      record {
        rows = ap live_queryables (past_is canonical) ∙ ap (λ (text : List ℕ). answerer_row text ∷ []) spelled;
        values = ap values_now (past_is canonical);
        gets = ap (asked (named z g)) (past_is canonical);
      }

ascii : IsAscii (codes "r/**")
ascii = IsAscii-cons 114 (codes "/**") (lit< tt) (IsAscii-cons 47 (codes "**") (lit< tt) (IsAscii-cons 42 (codes "*") (lit< tt) (IsAscii-cons 42 [] (lit< tt) IsAscii-nil)))

spelled : encode_utf8_all (chars (codes "r/**")) ≡ codes "r/**"
spelled = encodes-chars (codes "r/**") (IsUtf8-from_ascii (codes "r/**") ascii)

-- behind the two declarations
at_first : (s : Settings) (keys : List ℕ) → AnswersAt s keys (first_events keys) → Answers s keys
at_first s keys answers = record { rows = answers.rows; values = answers.values; gets = answers.gets }

pub default_answers : Answers default_settings (codes "r/**")
default_answers = at_first default_settings (codes "r/**") (answers_at default_settings.zid default_settings.tag (chars (codes "r/**")) spelled)

pub other_answers : Answers (other default_settings) (codes "r/**")
other_answers = at_first (other default_settings) (codes "r/**") (answers_at 2 2 (chars (codes "r/**")) spelled)

-- How a session of the default settings begins that declares first a liveliness subscriber.
use Rattle.std.proofs.Common.{◌≡◌, ℕ, List, [], ◌∷◌, true, false, Option, Some, None, refl, ◌∙◌, ap, lit<}
use Rattle.std.specs.Prelude.{encode_utf8_all, codes}
use Rattle.std.specs.Str.{chars, IsAscii}
use Rattle.std.proofs.lemmas.Str.{encodes-chars, IsUtf8-from_ascii}
use Rattle.std.proofs.lemmas.Str.Ascii.{IsAscii-nil, IsAscii-cons}
use Rattle.zs_keys.specs.Key.{undeclared}
use Rattle.zs_keys.specs.Text.{is_canonical}
use Rattle.zs_events.specs.declared.event.Event.TheVariants.{Lsub}
use Rattle.zs_events.specs.declared.key_arg.KeyArg.TheVariants.{Text}
use Rattle.zs_events.specs.declared.turn.Refusal.{Refusal}
use Rattle.zs_model.specs.declared.settings.Settings.{Settings}
use Rattle.zs_model.specs.Settings.{default_settings}
use Rattle.zs_model.specs.Entry.{Entry, is_closed}
use Rattle.zs_model.specs.Live.{live_lsubs}
use Rattle.zs_model.specs.Past.{past_of, entry_of, with_entry}
use Rattle.zs_model.specs.Causes.{refusal_of}
use Rattle.zs_delivery.specs.Linked.{other}
use Rattle.zs_group_laws.specs.Groups.{Starts}

-- the default settings, with another identifier and another tag
abbrev named : ℕ → ℕ → Settings
named z g = record default_settings { zid = z; tag = g }

module _ (z g : ℕ) (t : List ℕ) where
  -- the event, as it stands in the past
  abbrev first : Entry
  first = record { number = Some 2; text = Some (encode_utf8_all t); event = Lsub true (Text t) }

  accepted : is_canonical (encode_utf8_all t) ≡ true → refusal_of (named z g) [] (Lsub true (Text t)) ≡ None
  accepted canonical = rw canonical refl

  past_is : is_canonical (encode_utf8_all t) ≡ true → past_of (named z g) (Lsub true (Text t) ∷ []) ≡ first ∷ []
  past_is canonical = ap (λ (o : Option Refusal). with_entry o false (entry_of (named z g) [] (Lsub true (Text t))) []) (accepted canonical)

pub ascii : IsAscii (codes "group/*")
ascii =
    IsAscii-cons 103 (codes "roup/*") (lit< tt) (IsAscii-cons 114 (codes "oup/*") (lit< tt) (IsAscii-cons 111 (codes "up/*") (lit< tt)
    (IsAscii-cons 117 (codes "p/*") (lit< tt) (IsAscii-cons 112 (codes "/*") (lit< tt) (IsAscii-cons 47 (codes "*") (lit< tt) (IsAscii-cons 42 [] (lit< tt) IsAscii-nil))))))

spelled : encode_utf8_all (chars (codes "group/*")) ≡ codes "group/*"
spelled = encodes-chars (codes "group/*") (IsUtf8-from_ascii (codes "group/*") ascii)

starts_at : (z g : ℕ) → Starts (named z g)
starts_at z g =
    let text = chars (codes "group/*") in
    let canonical : is_canonical (encode_utf8_all text) ≡ true = ap is_canonical spelled in
    record {
      unshut = ap is_closed (past_is z g text canonical);
      subs =
          ap live_lsubs (past_is z g text canonical)
          ∙ ap (λ (bytes : List ℕ). record { id = 2; history = true; key = undeclared bytes } ∷ []) spelled;
    }

pub default_starts : Starts default_settings
default_starts = starts_at default_settings.zid default_settings.tag

pub other_starts : Starts (other default_settings)
other_starts = starts_at 2 2

-- What was told of printing an event's line behind its mark.
use Rattle.std.proofs.Common.{◌≡◌, ℕ, Bool, true, false, List, [], ◌++◌, Option, Some, None, refl, sym, ◌∙◌, ap, cond, codes, append_assoc}
use Rattle.std.specs.Prelude.{is_some, option_map}
use Rattle.std.specs.Option.{IfSome}
use Rattle.zs_events.specs.declared.event.Event.{Event}
use Rattle.zs_event_lines.specs.Slots.{IsPrinted}
use Rattle.zs_recordings.specs.Entries.{marked_row, event_row, is_printable, if_printable}

-- a line that was printed behind the mark, with a line feed behind it
pub row_printed : (o : Option (List ℕ)) (told : Bool) (old front new : List ℕ) → told ≡ true → front ≡ old ++ codes ">\t"
    → IsPrinted o told front new → IsPrinted (option_map marked_row o) true old (new ++ codes "\n")
row_printed None told old front new is before h = cc (sym is ∙ h)
row_printed (Some text) told old front new is before h = (
  refl,
  ap (λ (bytes : List ℕ). bytes ++ codes "\n") (h.1 ∙ ap (λ (bytes : List ℕ). bytes ++ text) before)
      ∙ append_assoc (old ++ codes ">\t") text (codes "\n")
      ∙ append_assoc old (codes ">\t") (text ++ codes "\n"),
)

-- and one that was not
pub row_untold : (o : Option (List ℕ)) (told : Bool) (front new old last : List ℕ) → told ≡ false → IsPrinted o told front new
    → IsPrinted (option_map marked_row o) false old last
row_untold None told front new old last is h = refl
row_untold (Some text) told front new old last is h = cc (sym is ∙ h.0)

pub ruleset printing = (row_printed, row_untold)

-- behind no text it is the line itself
pub row_is : (e : Event) (told : Bool) (old new : List ℕ) → told ≡ true → old ≡ [] → IsPrinted (event_row e) told old new → Some new ≡ event_row e
row_is e told old new is none h = go (event_row e) h
  where
    go : (o : Option (List ℕ)) → IsPrinted o told old new → Some new ≡ o
    go None h = cc (sym is ∙ h)
    go (Some text) h = ap Some (h.1 ∙ ap (λ (front : List ℕ). front ++ text) none)

-- whether a line says the event is what was told
some-if : (b : Bool) (e : Event) → is_some (cond b (Some e) None) ≡ b
some-if true e = refl
some-if false e = refl

pub known_told : (e : Event) (told : Bool) (old new : List ℕ) → IsPrinted (event_row e) told old new → told ≡ is_some (if_printable e)
known_told e told old new h = go (event_row e) h ∙ sym (some-if (is_some (event_row e)) e)
  where
    go : (o : Option (List ℕ)) → IsPrinted o told old new → told ≡ is_some o
    go None h = h
    go (Some text) h = h.0

-- what holds of an event holds of it if it can be recorded
pub if_said : (e : Event) (P : Event → Type 0) → P e → IfSome (if_printable e) P
if_said e P h = go (is_printable e)
  where
    go : (b : Bool) → IfSome (cond b (Some e) None) P
    go true = h
    go false = tt

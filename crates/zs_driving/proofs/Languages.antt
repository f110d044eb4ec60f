-- What a program puts out for lines that are events is what it puts out for these.
use Rattle.std.proofs.Common.{◌≡◌, ℕ, List, [], ◌∷◌, ◌++◌, Option, Some, None, refl, sym, ◌∙◌, ap}
use Rattle.zs_driving.specs.Tasks.{lines_behind, text_behind}
use Rattle.zs_driving.specs.Languages.{Language, TextsAreOfEvents, rules_of, events_of, events_behind, events_text}

-- the events of lines behind others
behind_is : {E : Type 0} (l : Language E) (h rows : List (List ℕ)) → events_of l (lines_behind h rows) ≡ events_behind (events_of l h) (events_of l rows)
behind_is l h [] = refl
behind_is {E} l h (row ∷ rows) = go (l.event_of row) refl (behind_is l (row ∷ h) rows)
  where
    go : (o : Option E) → l.event_of row ≡ o → events_of l (lines_behind (row ∷ h) rows) ≡ events_behind (events_of l (row ∷ h)) (events_of l rows)
        → events_of l (lines_behind (row ∷ h) rows) ≡ events_behind (events_of l h) (events_of l (row ∷ rows))
    go (Some e) found ih = ih ∙ rw found refl
    go None found ih = ih ∙ rw found refl

text_is : {E : Type 0} (l : Language E) (h rows : List (List ℕ)) → text_behind (rules_of l) h rows ≡ events_text l (events_of l h) (events_of l rows)
text_is l h [] = refl
text_is {E} l h (row ∷ rows) = go (l.event_of row) refl (text_is l (row ∷ h) rows)
  where
    go : (o : Option E) → l.event_of row ≡ o → text_behind (rules_of l) (row ∷ h) rows ≡ events_text l (events_of l (row ∷ h)) (events_of l rows)
        → text_behind (rules_of l) h (row ∷ rows) ≡ events_text l (events_of l h) (events_of l (row ∷ rows))
    go (Some e) found ih = rw found (ap (λ more. l.event_text (events_of l h) e ++ more) (ih ∙ rw found refl))
    go None found ih = rw found (ih ∙ rw found refl)

pub texts_are : {E : Type 0} (l : Language E) → TextsAreOfEvents l
texts_are l = λ rows. (
  text_is l [] rows,
  ap (λ text. text ++ l.end_text (events_of l (lines_behind [] rows))) (text_is l [] rows)
      ∙ ap (λ h. events_text l [] (events_of l rows) ++ l.end_text h) (behind_is l [] rows),
)

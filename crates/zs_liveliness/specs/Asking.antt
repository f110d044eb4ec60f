-- The open liveliness gets with the indexes that find them by their deadline and by their token: words that no public contract needs.
use Rattle.std.specs.Prelude.{◌≡◌, ◌==◌, ◌&&◌, ℕ, Bool, true, false, not, List, Option, Some, None, if◌then◌else◌}
use Rattle.zs_rows.specs.Ascending.{Ascend}
use Rattle.zs_rows.specs.Index.{is_marked, names, Notes, Forgets, IsSame, IsIndexOf}
use Rattle.zs_rows.specs.declared.mark.Mark.{Mark}
use Rattle.zs_rows.specs.Rows.{AreNumbered}
use Rattle.zs_liveliness.specs.declared.liveliness_get.LivelinessGet.{LivelinessGet}
use Rattle.zs_liveliness.specs.declared.asking_marks.AskingKeys.{AskingKeys}
use Rattle.zs_liveliness.specs.declared.asking_marks.AskingMarks.{AskingMarks}

-- the keys under which a get is found
abbrev pub deadline_of : LivelinessGet → Option ℕ
deadline_of g = Some g.deadline

abbrev pub cancellation_token_of : LivelinessGet → Option ℕ
cancellation_token_of g = g.cancellation_token

abbrev pub keys_of : LivelinessGet → AskingKeys
keys_of g = record { number = g.number; deadline = g.deadline; cancellation_token = g.cancellation_token }

-- whether two keys are the same, or there is neither
abbrev pub is_same_key : Option ℕ → Option ℕ → Bool
is_same_key None None = true
is_same_key None (Some b) = false
is_same_key (Some a) None = false
is_same_key (Some a) (Some b) = a == b

-- the number stands under the key, if there is one, and under no other
abbrev pub StandsUnder : Option ℕ → ℕ → List Mark → Type 0
StandsUnder key number marks = (k : ℕ) → is_marked k number marks ≡ names k key

-- the number has come to stand under the key alone, and all else is as it was
abbrev pub MovesTo : Option ℕ → ℕ → List Mark → List Mark → Type 0
MovesTo key number before after = (k n : ℕ) → is_marked k n after ≡ (if n == number then names k key else is_marked k n before)

-- the number stands no longer under a key, unless it is the one that is kept, and all else is as it was
abbrev pub LeavesFor : Option ℕ → Option ℕ → ℕ → List Mark → List Mark → Type 0
LeavesFor gone kept number before after = (k n : ℕ) → is_marked k n after ≡ (not (names k gone && not (names k kept) && (n == number)) && is_marked k n before)

-- the marks of a get have come
pub record NotesAll (keys : AskingKeys) (before after : AskingMarks) : Type 0 where
  pub deadlines : Notes (Some keys.deadline) keys.number before.deadlines after.deadlines
  pub cancellation_tokens : Notes keys.cancellation_token keys.number before.cancellation_tokens after.cancellation_tokens

-- the marks of a get are gone
pub record ForgetsAll (keys : AskingKeys) (before after : AskingMarks) : Type 0 where
  pub deadlines : Forgets (Some keys.deadline) keys.number before.deadlines after.deadlines
  pub cancellation_tokens : Forgets keys.cancellation_token keys.number before.cancellation_tokens after.cancellation_tokens

-- a get has these marks and no others
pub record StandsAll (keys : AskingKeys) (marks : AskingMarks) : Type 0 where
  pub deadlines : StandsUnder (Some keys.deadline) keys.number marks.deadlines
  pub cancellation_tokens : StandsUnder keys.cancellation_token keys.number marks.cancellation_tokens

-- the marks of a get have become these
pub record MovesAll (keys : AskingKeys) (before after : AskingMarks) : Type 0 where
  pub deadlines : MovesTo (Some keys.deadline) keys.number before.deadlines after.deadlines
  pub cancellation_tokens : MovesTo keys.cancellation_token keys.number before.cancellation_tokens after.cancellation_tokens

-- the marks are the same
pub record AreSame (before after : AskingMarks) : Type 0 where
  pub deadlines : IsSame before.deadlines after.deadlines
  pub cancellation_tokens : IsSame before.cancellation_tokens after.cancellation_tokens

-- a number has no mark
pub record IsFree (number : ℕ) (marks : AskingMarks) : Type 0 where
  pub deadlines : (k : ℕ) → is_marked k number marks.deadlines ≡ false
  pub cancellation_tokens : (k : ℕ) → is_marked k number marks.cancellation_tokens ≡ false

-- each get stands under its number, the numbers ascend, and each index has the marks of these gets and no others
pub record AreIndexed (rows : List (ℕ × LivelinessGet)) (marks : AskingMarks) : Type 0 where
  pub numbered : AreNumbered (λ g. g.number) rows
  pub ascending : Ascend (λ e. e.0) rows
  pub deadlines : IsIndexOf deadline_of rows marks.deadlines
  pub cancellation_tokens : IsIndexOf cancellation_token_of rows marks.cancellation_tokens

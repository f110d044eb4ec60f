-- The newest that two stores have at each key, as replies.
use Rattle.std.specs.Prelude.{◌≡◌, ◌⊎◌, ℕ, ◌&&◌, true, false, List, [], ◌∷◌, ◌++◌, filter, Option, Some, None, Ok, bytes_eq}
use Rattle.std.specs.Option.{IfSome}
use Rattle.zs_keys.specs.Matching.{intersects}
use Rattle.zs_bytes.specs.Payload.{bytes_of}
use Rattle.zs_wire.specs.declared.sample_kind.SampleKind.{SampleKind}
use Rattle.zs_wire.specs.declared.sample_kind.SampleKind.TheVariants.{Put, Delete}
use Rattle.zs_sample.specs.declared.sample_fields.SampleFields.{SampleFields}
use Rattle.zs_sample.specs.Reply.{Replied}
use Rattle.zs_query.specs.Marks.{is_earlier, key_of}
use Rattle.zs_store.specs.Entry.{EntrySeen}
use Rattle.zs_store.specs.Store.{Write, found, best}

-- the replies on a key
abbrev pub replies_on : List ℕ → List Replied → List Replied
replies_on key replies = filter (λ reply. bytes_eq (key_of reply) key) replies

-- the bytes of what was put; a deletion has none
abbrev pub bytes_told : SampleKind → List ℕ → List ℕ
bytes_told Put bytes = bytes
bytes_told Delete bytes = []

-- a reply tells what was written at a key
pub record Tells (key : List ℕ) (entry : EntrySeen) (reply : Replied) : Type 0 where
  pub sample : SampleFields
  pub is : reply.result ≡ Ok sample
  pub on : sample.key_expr.text ≡ key
  pub kind : sample.kind ≡ entry.kind
  pub bytes : bytes_of sample.payload ≡ bytes_told entry.kind entry.bytes
  pub time : sample.timestamp ≡ Some entry.timestamp

-- no entry that is there has a later timestamp
abbrev pub IsNotEarlier : EntrySeen → Option EntrySeen → Type 0
IsNotEarlier entry at = IfSome at (λ e. is_earlier entry.timestamp e.timestamp ≡ false)

-- the one reply on a key tells what the one side or the other has there, and neither has anything newer
pub record IsNewest (key : List ℕ) (own others : Option EntrySeen) (replies : List Replied) : Type 0 where
  pub reply : Replied
  pub one : replies ≡ reply ∷ []
  pub entry : EntrySeen
  pub tells : Tells key entry reply
  pub had : (own ≡ Some entry) ⊎ (others ≡ Some entry)
  pub over_own : IsNotEarlier entry own
  pub over_others : IsNotEarlier entry others

-- where neither has anything there is none
abbrev pub HandsOne : List ℕ → Option EntrySeen → Option EntrySeen → List Replied → Type 0
HandsOne key None None replies = replies ≡ []
HandsOne key own others replies = IsNewest key own others replies

-- so it is at each key that meets the asked one, where that meets the replicated keys; and there is no reply on any other
pub record HandsNewest (keys asked : List ℕ) (own others : List Write) (replies : List Replied) : Type 0 where
  pub met : (key : List ℕ) → (intersects asked keys && intersects asked key) ≡ true → HandsOne key (found key own) (found key others) (replies_on key replies)
  pub unmet : (key : List ℕ) → (intersects asked keys && intersects asked key) ≡ false → replies_on key replies ≡ []

-- the newest of what both took at a key is the greatest of all of it, where entries of one timestamp there are equal
abbrev pub NewestIsBest : Type 0
NewestIsBest =
    (key : List ℕ) (xs ys : List Write) (replies : List Replied) (newest : IsNewest key (best key xs) (best key ys) replies)
    → ((a b : EntrySeen) → best key xs ≡ Some a → best key ys ≡ Some b → a.timestamp ≡ b.timestamp → a ≡ b)
    → best key (xs ++ ys) ≡ Some newest.entry
